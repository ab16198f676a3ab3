-- Requests 2026-12 and 2026-14: recordings, their replay, and the reader with no list. Each statement stands in the crate that it is about
-- (recording/specs/Theorems and Change, scan/specs/Theorems), with its sentence above it; here are those that the requests ask for.
use Rattle.scan.specs.Theorems.{ScansAsRead, AllAreEnough, ScanRefuses}
use Rattle.recording.specs.Theorems.{ReadsBack, OnlyRecording, CutKeeps, CutEnds, CutBetween, CutLists, LinesJoin, WindowsReplay, RefusedReplay, OneListing}
use Rattle.recording.specs.Change.{LineStays, LineChanges, ReplayChanges}

-- request 2026-12: what is recorded is read back; what a recording lists that is cut, and how it ends; the listing is the objects' own lines, and there is only
-- one
pub record RecordingsReplayed : Type 0 where
  pub back : ReadsBack
  pub only : OnlyRecording
  pub keeps : CutKeeps
  pub ends : CutEnds
  pub between : CutBetween
  pub lists : CutLists
  pub joins : LinesJoin
  pub listed : WindowsReplay
  pub refused : RefusedReplay
  pub one : OneListing

-- request 2026-14: scan answers as read lent a list long enough, which 16,384 places always are, and never 14; replay changes where there was 14, and nowhere
-- else
pub record ScannedForRead : Type 0 where
  pub same : ScansAsRead
  pub enough : AllAreEnough
  pub refuses : ScanRefuses
  pub stays : LineStays
  pub changes : LineChanges
  pub replayed : ReplayChanges
