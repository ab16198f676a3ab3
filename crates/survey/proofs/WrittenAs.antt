-- Whether an item is written: the ways through the code, and what the answer says of the item.
use Rattle.std.specs.Prelude.{Option, Some, None}
use mathlib.Core.Path.{◌≡◌, refl, sym, ◌∙◌}
use mathlib.Core.Bool.{Bool, true, false, or-true, or_comm, ◌||◌}
use mathlib.Core.Option.{none, some, some-ne-none}
use mathlib.Core.List.{List, []}
use Prim.Native.Nat.{ℕ}
use lib.Dec.{eqb}
use borrow.Author.Tests.{ne_eqb}
use Rattle.octets.specs.Header.{framed}
use Rattle.octets.proofs.Tests.{never, not_chosen, or_right_false}
use Rattle.values.specs.declared.Kind.{Kind}
use Rattle.values.specs.Table.{known, attribute}
use Rattle.values.specs.Calls.{as_known, known_kind, default_octets}
use Rattle.values.proofs.Laws.{as-known, as-unknown}
use Rattle.format.specs.Meaning.{maybe}
use Rattle.format.proofs.Force.{attribute-four}
use Rattle.survey.specs.Normal.{value_octets, written_as, item_octets}
use Rattle.survey.proofs.Ways.{item-known}

module _ (p tag : ℕ) (body : List ℕ) where
  pub as-table : tag ≡ 4 → None ≡ as_known (written_as p tag body)
  unfolding as_known written_as
  as-table q = rw q

  module _ (b : Bool) (d : b ≡ default_octets p tag body) where
    pub as-default : b ≡ true → None ≡ as_known (written_as p tag body)
    unfolding as_known written_as
    as-default q = rw (sym d ∙ q, or-true (eqb tag 4))

    pub as-other : (tag ≡ 4 → ⊥) → b ≡ false → (r : Option Kind) → r ≡ known_kind p tag → r ≡ as_known (written_as p tag body)
    unfolding known_kind written_as
    as-other f q r e = rw (ne_eqb tag 4 f, sym d ∙ q) e

pub ruleset as-ways = (as-table, as-default, as-other)

-- a known attribute that isn't written is a default
pub unwritten-default : (p tag : ℕ) (body : List ℕ) (k : Kind) → attribute tag ≡ true → known p tag ≡ some k → written_as p tag body ≡ none → default_octets p tag body ≡ true
unfolding written_as
unwritten-default p tag body k a e h = go (default_octets p tag body) refl
  where
    go : (d : Bool) → default_octets p tag body ≡ d → d ≡ true
    go true d = refl
    go false d = absurd (some-ne-none k (sym e ∙ (rw (attribute-four tag a, d) at h)))

module _ (p tag : ℕ) (body : List ℕ) (r : Option Kind) (e : r ≡ as_known (written_as p tag body)) where
  -- an item that is written is known, no token table and no default
  pub record Written (k : Kind) : Type 0 where
    pub table : eqb tag 4 ≡ false
    pub counts : default_octets p tag body ≡ false
    pub kind : known p tag ≡ some k

  pub written-some : (k : Kind) → r ≡ Some k → written_as p tag body ≡ some k
  written-some k q = as-known (written_as p tag body) k (sym e ∙ q)

  pub written-kind : (k : Kind) → r ≡ Some k → Written k
  unfolding written_as
  written-kind k q =
      let w = not_chosen (eqb tag 4 || default_octets p tag body) (sym (written-some k q)) (λ z. never (cc)) in
      record {
        table = or_right_false (default_octets p tag body) (eqb tag 4) (or_comm (default_octets p tag body) (eqb tag 4) ∙ w.0);
        counts = or_right_false (eqb tag 4) (default_octets p tag body) w.0;
        kind = sym w.1;
      }

  pub written-octets : (k : Kind) → r ≡ Some k → item_octets p tag body ≡ framed tag (value_octets k body)
  written-octets k q = let t = written-kind k q in item-known p tag body k t.table t.counts t.kind

  pub written_none : r ≡ None → written_as p tag body ≡ none
  written_none q = as-unknown (written_as p tag body) (sym e ∙ q)

  pub unwritten-octets : r ≡ None → item_octets p tag body ≡ []
  unfolding item_octets maybe
  unwritten-octets q = rw (written_none q)
