-- The frauds, each shut out.
use Rattle.std.specs.Prelude.{Err}
use mathlib.Core.Path.{◌≡◌, sym, ap, ◌∙◌}
use mathlib.Core.Bool.{true}
use mathlib.Core.List.{List, []}
use Prim.Native.Nat.{◌+◌}
use native.Mathlib.Omega.{arith}
use lib.ListN.{get_or}
use Rattle.octets.specs.Counts.{as_octets}
use Rattle.octets.proofs.Tests.{never}
use Rattle.format.specs.Answers.{refusal}
use Rattle.format.specs.Meaning.{means}
use Rattle.format.specs.Calls.{row}
use Rattle.format.specs.Bench.{Outcome, outcome, cases}
use Rattle.format.specs.Bench.Outcome.{refuses, normally}
use Rattle.format.proofs.Bench.{bench}
use Rattle.format.proofs.Lays.{get_d-tabled}
use Rattle.writer.proofs.Theorems.{delivered}
use Rattle.demands.specs.Bench.{listed_object}
use Rattle.demands.specs.Frauds.{p9, p10, RefusesAll, OneOutput, InputBack, WritesNothing, InventsRecord, InventsCount}
use Rattle.demands.proofs.Laws.{empty-refused, has-meaning}
use Rattle.demands.proofs.Two.{tree-handed-out}
use Rattle.demands.proofs.Bench.{bench-read, bench-normalise}

-- two rows of the table
p9-is : outcome true p9 ≡ normally 1 p9
unfolding cases
p9-is = ap (λ (l : List Outcome). get_or l 8 (refuses (refusal 0 0))) bench

p10-is : outcome true p10 ≡ normally 2 listed_object
unfolding cases
p10-is = ap (λ (l : List Outcome). get_or l 9 (refuses (refusal 0 0))) bench

pub refuses-all : RefusesAll
refuses-all before after r l c = let e = (bench-read p9 before after (Err r) c).counting 1 p9 p9-is l in never (cc)

pub one-output : OneOutput
one-output memory_a memory_a' room_a room_a' n c memory_b memory_b' room_b room_b' m d e =
    let f = bench-normalise p9 memory_a memory_a' room_a room_a' n c 1 p9 p9-is in
    let g = bench-normalise p10 memory_b memory_b' room_b room_b' m d 2 listed_object p10-is in
    never (cc)

pub input_back : InputBack
input_back memory memory' room room' n c e = let g = bench-normalise p10 memory memory' room room' n c 2 listed_object p10-is in never (cc)

pub writes_nothing : WritesNothing
writes_nothing n memory bodies' before after os c =
    let d = delivered n memory bodies' before after os (as_octets 0) c in
    let m = has-meaning [] (means [] d.tree) d.meant in
    never (let p = m.1 in let q = empty-refused in cc)

pub invents-record : InventsRecord
invents-record object os before after n items c t a i d l f =
    let h = tree-handed-out object os before after n items c t a in
    let z : 0 + i ≡ i = omega arith in
    f (ap (row after) (sym z) ∙ sym (get_d-tabled (row after) n 0 i d l) ∙ ap (λ rs. get_or rs i d) h.stand)

pub invents-count : InventsCount
invents-count object os before after n items c t a f = f (tree-handed-out object os before after n items c t a).many
