-- The meaning of well-formed records is well-formed.
use mathlib.Core.Path.{◌≡◌, refl, ap, subst}
use mathlib.Core.Bool.{Bool, true, false, cond, not, ◌&&◌, ◌||◌}
use mathlib.Core.Option.{some}
use mathlib.Core.List.{List, []}
use Prim.Native.Nat.{ℕ, ◌<◌}
use native.Mathlib.Omega.{arith}
use lib.Dec.{ltb}
use lib.ListN.{length, drop}
use borrow.Author.Tests.{ltb-true}
use Rattle.octets.specs.Numbers.{Octets}
use Rattle.text.specs.Text.{text}
use Rattle.text.specs.Tokens.{covered, shown_length}
use Rattle.values.specs.declared.Kind.{Kind}
use Rattle.values.specs.Table.{rows, known, attribute}
use Rattle.octets.proofs.Tests.{and_left, and_right}
use Rattle.octets.proofs.Numbers.{octets-take, octets-drop}
use Rattle.text.proofs.Words.{plain-text, plain-text-covered}
use Rattle.text.proofs.Expansion.{sound_empty}
use Rattle.values.proofs.Known.{row-holds}
use Rattle.format.specs.declared.Record.{Record}
use Rattle.format.specs.Tree.{Items, count}
use Rattle.format.specs.Tree.Items.{end, item}
use Rattle.format.specs.Judge.{is_text, shown}
use Rattle.format.specs.Meaning.{means}
use Rattle.format.specs.WellFormed.{ObjectOk}
use Rattle.format.specs.Writer.{Spot, below, past, at_top, rebuilt, ruled}
use Rattle.format.proofs.Spans.{Located, part-span}
use Rattle.format.proofs.Told.{ItemTold, Told}
use Rattle.format.proofs.Fine.{known_is, told-ok}
use Rattle.format.proofs.Kept.{Ruled, keeps-parts, ruled-parts}
use Rattle.format.proofs.Rebuilt.{rebuilt-whole, whole-count}

-- the bodies of a tree are octets
abbrev pub Bytes : Items → Type 0
Bytes end = Unit {0}
Bytes (item tag at body inside after) = Octets body × Bytes inside × Bytes after

pub located-bytes : (lent : List ℕ) → Octets lent → (t : Items) → Located lent t → Bytes t
located-bytes lent os end l = tt
located-bytes lent os (item tag at body inside after) l = (
  subst Octets (part-span lent at body l.0).1 (octets-take (length body) (drop at lent) (octets-drop at lent os)),
  located-bytes lent os inside l.1,
  located-bytes lent os after l.2,
)

-- each known tag is an octet
known-octet : (p tag : ℕ) (k : Kind) → known p tag ≡ some k → tag < 256
unfolding known rows
known-octet p tag k e = ltb-true tag 256 (row-holds (λ e t l. ltb t 256) (cond (attribute tag) p 0) tag k rows refl e)

-- valid text without token octets is valid text that the empty table covers
words-told : (parent tag : ℕ) (body : List ℕ) (b : Bool) → not b || text false body && shown parent tag (shown_length [] body) ≡ true
    → (not b || text true body ≡ true) × (not b || covered [] body ≡ true) × (not b || shown parent tag (shown_length [] body) ≡ true)
words-told parent tag body false h = (refl, refl, refl)
words-told parent tag body true h =
    let valid = and_left (text false body) (shown parent tag (shown_length [] body)) h in
    (plain-text body valid, plain-text-covered body valid, and_right (text false body) (shown parent tag (shown_length [] body)) h)

-- so what keeps the writer's rules is told under the empty table
item-told : (s : Spot) (tag : ℕ) (body : List ℕ) (inside after : Items) → Octets body → Ruled s tag body inside after → ItemTold [] s tag body inside
item-told s tag body inside after os u =
    let k = keeps-parts s tag body u.rules in
    let l = known_is (known s.parent tag) k.is_one in
    let w = words-told s.parent tag body (is_text (known s.parent tag)) k.words in
    record {
      octet = known-octet s.parent tag l.0 l.1;
      octets = os;
      place = k.place;
      kind = record { is_one = k.is_one; value = k.value; valid = w.0; covers = w.1; short = w.2 };
      holder = u.holder;
    }

pub ruled-told : (t : Items) (s : Spot) → Bytes t → ruled s t ≡ true → Told [] s t
ruled-told end s b h = tt
ruled-told (item tag at body inside after) s b h =
    let u = ruled-parts s tag at body inside after h in
    (item-told s tag body inside after b.0 u, ruled-told inside (below s tag) b.1 u.within, ruled-told after (past s tag) b.2 u.beside)

-- a tree that keeps the writer's rules, of bodies that are octets, has a well-formed meaning
pub ruled-ok : (t : Items) → Bytes t → ruled at_top t ≡ true → 0 < count t → ObjectOk (means [] t)
unfolding count
ruled-ok t b h c = told-ok [] sound_empty t (λ e. let z : count t ≡ 0 = ap count e in omega arith) (ruled-told t at_top b h)

-- and so has the tree of well-formed records
pub rebuilt-ok : (row : ℕ → Record) (n : ℕ) (lent : List ℕ) → Octets lent → (t : Items) → rebuilt row n lent ≡ some t → ObjectOk (means [] t)
rebuilt-ok row n lent os t h =
    let w = rebuilt-whole row n lent t h in
    ruled-ok t (located-bytes lent os t w.located) w.rules (omega (arith, w.some, whole-count row n lent t w))
