-- Only one answer: each claim gives an equation for the answer and one for each lent thing, and two things that equal a third are equal.
use mathlib.Core.Path.{sym, ◌∙◌}
use Rattle.demands.specs.Only.{OneAnswer, OneRead, OneReadAtMost, OneReadRecords, OneWrite, OneNormalise, OneTakeIn, OneEdit, OneWriteState, OneExport, OneMerge, OnePack, OnePut, OneMarks, OneWidths, OneShows, OneIndex, OneReadC, OneSizesC, OneSpanC, OneWriteC, OneNormaliseC, OneTakeInC, OneEditC, OneWriteStateC, OneScanC, OneGateC, OneSameC, OneExportC, OneCheckPackedC, OnePackC, OneMergeC}
use Rattle.text.proofs.Index.{one_index as index-alone}
use Rattle.text.proofs.WeighLaws.{marks-one, widths-one, shows-one}

pub one_answer : OneAnswer
one_answer A claimed one other e f = e ∙ sym f

pub one-read : OneRead
one-read object before one other answer answer' c d = (one_answer _ _ answer answer' c.answers d.answers, one_answer _ _ one other c.leaves d.leaves)

pub one-read-at-most : OneReadAtMost
one-read-at-most object most before one other answer answer' c d = (one_answer _ _ answer answer' c.answers d.answers, one_answer _ _ one other c.leaves d.leaves)

pub one-read-records : OneReadRecords
one-read-records object before one other slice one_slice other_slice answer answer' c d = (
  one_answer _ _ answer answer' c.answers d.answers,
  one_answer _ _ one other c.leaves d.leaves,
  one_answer _ _ one_slice other_slice c.fills d.fills,
)

pub one-write : OneWrite
one-write n memory one_bodies other_bodies before one other answer answer' c d = (
  one_answer _ _ answer answer' c.answers d.answers,
  one_answer _ _ one_bodies other_bodies c.sizes d.sizes,
  one_answer _ _ one other c.leaves d.leaves,
)

pub one-normalise : OneNormalise
one-normalise object memory one_memory other_memory room one_room other_room answer answer' c d = (
  one_answer _ _ answer answer' c.answers d.answers,
  one_answer _ _ one_memory other_memory c.leaves d.leaves,
  one_answer _ _ one_room other_room c.writes d.writes,
)

pub one-take-in : OneTakeIn
one-take-in object most before one other answer answer' c d = (one_answer _ _ answer answer' c.answers d.answers, one_answer _ _ one other c.leaves d.leaves)

pub one-edit : OneEdit
one-edit e n before one other answer answer' c d = (one_answer _ _ answer answer' c.answers d.answers, one_answer _ _ one other c.leaves d.leaves)

pub one-write-state : OneWriteState
one-write-state n m before one other answer answer' c d = (one_answer _ _ answer answer' c.answers d.answers, one_answer _ _ one other c.leaves d.leaves)

pub one-export : OneExport
one-export object before one other answer answer' c d = (one_answer _ _ answer answer' c.answers d.answers, one_answer _ _ one other c.leaves d.leaves)

pub one_merge : OneMerge
one_merge by basic advanced memory one_memory other_memory room one_room other_room answer answer' c d = (
  one_answer _ _ answer answer' c.answers d.answers,
  one_answer _ _ one_memory other_memory c.leaves d.leaves,
  one_answer _ _ one_room other_room c.writes d.writes,
)

pub one-pack : OnePack
one-pack object before one other answer answer' c d = (one_answer _ _ answer answer' c.answers d.answers, one_answer _ _ one other c.leaves d.leaves)

pub one-put : OnePut
one-put valid octets at before one other answer answer' c d = (one_answer _ _ answer answer' c.answers d.answers, one_answer _ _ one other c.leaves d.leaves)

pub one-marks : OneMarks
one-marks octets one other c d = marks-one one other octets c d

pub one-widths : OneWidths
one-widths = widths-one

pub one-shows : OneShows
one-shows = shows-one

pub one_index : OneIndex
one_index = index-alone

pub one-read-c : OneReadC
one-read-c object before one other answer answer' c d = (one_answer _ _ answer answer' c.answers d.answers, one_answer _ _ one other c.leaves.leaves d.leaves.leaves)

pub one-span-c : OneSpanC
one-span-c object starts sizes number answer answer' c d = one_answer _ _ answer answer' c.answers d.answers

pub one-write-c : OneWriteC
one-write-c n memory one_bodies other_bodies before one other answer answer' c d = (
  one_answer _ _ answer answer' c.answers d.answers,
  one_answer _ _ one_bodies other_bodies c.leaves.sizes d.leaves.sizes,
  one_answer _ _ one other c.leaves.leaves d.leaves.leaves,
)

pub one-normalise-c : OneNormaliseC
one-normalise-c object memory one_memory other_memory room one_room other_room answer answer' c d = (
  one_answer _ _ answer answer' c.answers d.answers,
  one_answer _ _ one_memory other_memory c.leaves.leaves d.leaves.leaves,
  one_answer _ _ one_room other_room c.leaves.writes d.leaves.writes,
)

pub one-take-in-c : OneTakeInC
one-take-in-c object before one other answer answer' c d = (one_answer _ _ answer answer' c.answers d.answers, one_answer _ _ one other c.leaves.leaves d.leaves.leaves)

pub one-edit-c : OneEditC
one-edit-c e n before one other answer answer' c d = (one_answer _ _ answer answer' c.answers d.answers, one_answer _ _ one other c.leaves.leaves d.leaves.leaves)

pub one-write-state-c : OneWriteStateC
one-write-state-c n m before one other answer answer' c d = (one_answer _ _ answer answer' c.answers d.answers, one_answer _ _ one other c.leaves.leaves d.leaves.leaves)

pub one-scan-c : OneScanC
one-scan-c object answer answer' c d = one_answer _ _ answer answer' c.answers d.answers

pub one-sizes-c : OneSizesC
one-sizes-c object answer answer' c d = one_answer _ _ answer answer' c.answers d.answers

pub one-gate-c : OneGateC
one-gate-c object number answer answer' c d = one_answer _ _ answer answer' c.answers d.answers

pub one-same-c : OneSameC
one-same-c a b answer answer' c d = one_answer _ _ answer answer' c.answers d.answers

pub one-export-c : OneExportC
one-export-c object before one other answer answer' c d = (one_answer _ _ answer answer' c.answers d.answers, one_answer _ _ one other c.leaves d.leaves)

pub one-check-packed-c : OneCheckPackedC
one-check-packed-c form proposed answer answer' c d = one_answer _ _ answer answer' c.answers d.answers

pub one-pack-c : OnePackC
one-pack-c object before one other answer answer' c d = (one_answer _ _ answer answer' c.answers d.answers, one_answer _ _ one other c.leaves.leaves d.leaves.leaves)

pub one-merge-c : OneMergeC
one-merge-c by basic advanced memory one_memory other_memory room one_room other_room answer answer' c d = (
  one_answer _ _ answer answer' c.answers d.answers,
  one_answer _ _ one_memory other_memory c.leaves.leaves d.leaves.leaves,
  one_answer _ _ one_room other_room c.leaves.writes d.leaves.writes,
)
