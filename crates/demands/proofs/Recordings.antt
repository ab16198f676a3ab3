-- Requests 2026-12 and 2026-14, by the theorems of recording and scan.
use Rattle.scan.proofs.Theorems.{scans-as-read, all-are-enough, scan-refuses}
use Rattle.recording.proofs.Theorems.{reads-back, only-recording, cut-recording, cut-ends, cut-between, cut-lists, lines_join, windows-replay, refused-replay, one-listing}
use Rattle.recording.proofs.Change.{line_stays, line-changes, replay-changes}
use Rattle.demands.specs.Recordings.{RecordingsReplayed, ScannedForRead}

pub recordings-replayed : RecordingsReplayed
recordings-replayed =
    record {
      back = reads-back;
      only = only-recording;
      keeps = cut-recording;
      ends = cut-ends;
      between = cut-between;
      lists = cut-lists;
      joins = lines_join;
      listed = windows-replay;
      refused = refused-replay;
      one = one-listing;
    }

pub scanned-for-read : ScannedForRead
scanned-for-read =
    record {
      same = scans-as-read;
      enough = all-are-enough;
      refuses = scan-refuses;
      stays = line_stays;
      changes = line-changes;
      replayed = replay-changes;
    }
