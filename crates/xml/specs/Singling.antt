-- What the functions say that put the value of one item: of any, of one whose kind is known, and of the kinds that attributes alone have.
use Rattle.std.specs.Prelude.{◌≡◌, Bool, true, cond, List, ℕ}
use Rattle.std.proofs.Math.Option.{some}
use Rattle.octets.specs.Numbers.{Octets}
use Rattle.text.specs.Tokens.{Entries}
use Rattle.values.specs.declared.Kind.{Kind}
use Rattle.values.specs.Table.{known, attribute}
use Rattle.values.specs.Values.{fits, meant}
use Rattle.show.specs.Digits.{hex_lower}
use Rattle.xml.specs.Xml.{value_text}
use Rattle.xml.specs.Steps.{Puts}
use Rattle.xml.specs.Single.{value_by, item_value}

unfoldable pub KindPut : (emit : Bool) (parent tag : ℕ) (k : Kind) (table : Entries) (body : List ℕ) (at : ℕ) (before after : List ℕ) (to : ℕ) → Type 0
KindPut emit parent tag k table body at before after to =
    Octets body → known parent tag ≡ some k → Puts emit (value_by parent tag (some k) table body) at before after to

unfoldable pub FittingPut : (emit : Bool) (parent tag : ℕ) (k : Kind) (table : Entries) (body : List ℕ) (at : ℕ) (before after : List ℕ) (to : ℕ) → Type 0
FittingPut emit parent tag k table body at before after to =
    Octets body → attribute tag ≡ true → known parent tag ≡ some k
    → Puts emit (cond (fits k body) (value_text parent tag (meant table k body)) (hex_lower body)) at before after to

unfoldable pub ShownPut : (emit : Bool) (parent tag : ℕ) (table : Entries) (body : List ℕ) (at : ℕ) (before after : List ℕ) (to : ℕ) → Type 0
ShownPut emit parent tag table body at before after to = Octets body → Puts emit (item_value parent tag table body) at before after to
