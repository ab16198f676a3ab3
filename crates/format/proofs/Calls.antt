-- What the answers of the calls say: records laid into lists, octets that are written, trees that are loaded, objects that are compared.
use mathlib.Core.Path.{◌≡◌, refl, sym}
use mathlib.Core.Option.{some}
use mathlib.Core.List.{List, [], ◌∷◌, ◌++◌, map}
use Prim.Native.Nat.{ℕ, suc, ◌≤◌, ◌<◌}
use native.Mathlib.Omega.{arith}
use lib.ListN.{length}
use lib.Seq.{sets}
use Rattle.octets.specs.Numbers.{Octets}
use Rattle.format.specs.declared.Record.{Record}
use Rattle.format.specs.Tree.{Items, count, records_of}
use Rattle.format.specs.Judge.{outermost, judge}
use Rattle.format.specs.Judge.Judged.{accepted}
use Rattle.format.specs.Meaning.{means, meaning, encode}
use Rattle.format.specs.Writer.{tabled, rebuilt}
use Rattle.format.specs.Loaded.{store_of, loaded_of}
use Rattle.format.specs.Calls.{Lists, put, lay}
use Rattle.values.proofs.Known.{items-tag}
use Rattle.format.proofs.Round.{meaning-encode}
use Rattle.format.proofs.Force.{top-known}
use Rattle.format.proofs.Told.{top}
use Rattle.format.proofs.Loading.{loaded-ruled, loaded-located}
use Rattle.format.proofs.Rebuilt.{whole-rebuilt}
use Rattle.format.proofs.Written.{rebuilt-ok}

-- laying records puts each field's numbers, in order, over that field's list; with `sets-eq`: they stand there, and what lies before and behind stays
pub lay-fields : (rs : List Record) (i : ℕ) (l : Lists)
    → lay i rs l
    ≡ record {
      tags = sets l.tags i (map (λ r. r.tag) rs);
      kinds = sets l.kinds i (map (λ r. r.kind) rs);
      depths = sets l.depths i (map (λ r. r.depth) rs);
      parents = sets l.parents i (map (λ r. r.parent) rs);
      starts = sets l.starts i (map (λ r. r.start) rs);
      sizes = sets l.sizes i (map (λ r. r.size) rs);
    }
unfolding lay
lay-fields [] i l = refl
lay-fields (r ∷ rs) i l = lay-fields rs (suc i) (put i r l)

-- what is written from well-formed records is accepted, and means their tree (demand 2, last sentence)
pub written-means : (row : ℕ → Record) (n : ℕ) (lent : List ℕ) (t : Items) → Octets lent → rebuilt row n lent ≡ some t → length (encode (means [] t)) ≤ 32_768
    → meaning (encode (means [] t)) ≡ some (means [] t)
written-means row n lent t os h l = meaning-encode (means [] t) (rebuilt-ok row n lent os t h) l

-- an accepted object has a record
pub some-record : (o : List ℕ) (t : Items) → Octets o → judge o ≡ accepted t → 0 < count t
unfolding count outermost
some-record o t os h =
    let w = top o t os h in
    let f = (items-tag w.tag (top-known w.tag w.held.allow)).not_table in
    rw (w.is, f) (omega arith)

-- the records of the loaded tree, over its store, are well-formed and are that tree
pub loaded-rebuilt : (o : List ℕ) (t : Items) → Octets o → judge o ≡ accepted t → (row : ℕ → Record) (rest : List ℕ) → tabled row (count t) 0 ≡ records_of (loaded_of t)
    → rebuilt row (count t) (store_of t ++ rest) ≡ some (loaded_of t)
loaded-rebuilt o t os h row rest e =
    whole-rebuilt row (count t) (store_of t ++ rest) (loaded_of t)
    (record { some = some-record o t os h; records = sym e; located = loaded-located o t os h rest; rules = loaded-ruled o t os h })
