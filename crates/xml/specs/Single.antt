-- One item by itself, for whoever shows an object in another form than XML (request 2026-02, `spi show`): the name that the XML has for it (Names, name), and its value. What
-- has no value in the XML is shown in hexadecimal, so every item has a value.
use Rattle.std.specs.Prelude.{Bool, true, false, cond, ◌&&◌, List, ℕ}
use Rattle.std.proofs.Math.Option.{Option, none, some}
use Rattle.text.specs.Tokens.{Entries}
use Rattle.values.specs.declared.Kind.{Kind}
use Rattle.values.specs.declared.Kind.TheVariants.{HoldsItems, HoldsTokens, HoldsText, HoldsPlain, HoldsTime, HoldsBearer, HoldsNumber}
use Rattle.values.specs.Table.{known}
use Rattle.values.specs.Values.{fits, meant}
use Rattle.show.specs.Digits.{hex_lower}
use Rattle.xml.specs.Xml.{value_text}

-- the kinds whose values the XML has as text
unfoldable pub is_worded : Kind → Bool
is_worded HoldsItems = false
is_worded HoldsTokens = false
is_worded HoldsText = true
is_worded HoldsPlain = false
is_worded HoldsTime = true
is_worded HoldsBearer = true
is_worded (HoldsNumber n) = true

-- the value of an item of a kind: octets that are a value of such a kind as the XML has it, all others in hexadecimal
unfoldable pub value_by : (parent tag : ℕ) → Option Kind → Entries → List ℕ → List ℕ
value_by parent tag none table o = hex_lower o
value_by parent tag (some k) table o = cond (is_worded k && fits k o) (value_text parent tag (meant table k o)) (hex_lower o)

unfoldable pub item_value : (parent tag : ℕ) → Entries → List ℕ → List ℕ
item_value parent tag table o = value_by parent tag (known parent tag) table o
