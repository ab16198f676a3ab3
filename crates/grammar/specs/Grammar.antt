-- Which octets are an object, and of which tree: a grammar, with no order of judging, no refusal and no count of steps (document 01, Framing and Values).
-- It shares with the judgement only what single items are: the header's numbers, the table of known items, valid text and values, expansion.
use Rattle.std.specs.Prelude.{◌≡◌, true, false, List, [], ◌∷◌, ◌++◌, ℕ, suc, ◌+◌, ◌^◌, ◌≤◌, ◌<◌, eqb, length}
use Rattle.std.proofs.Math.Option.{none, some}
use Rattle.octets.specs.Numbers.{digits}
use Rattle.text.specs.Text.{text}
use Rattle.text.specs.Tokens.{Entries, entries, is_table, covered, shown_length}
use Rattle.values.specs.declared.Kind.{Kind}
use Rattle.values.specs.declared.Kind.TheVariants.{HoldsItems, HoldsText, HoldsPlain}
use Rattle.values.specs.Table.{known, attribute}
use Rattle.values.specs.Values.{fits}
use Rattle.format.specs.Tree.{Items, find}
use Rattle.format.specs.Tree.Items.{end, item}
use Rattle.format.specs.Judge.{is_top, limit, not_above}

-- the three forms of a length (002, clause 4.3.0), the octets of a header in each, and the sizes that it can say
pub data Form : Type 0 where
  short middle long : Form

abbrev pub header : Form → ℕ → ℕ → List ℕ
header short tag n = tag ∷ n ∷ []
header middle tag n = tag ∷ 0xFE ∷ digits 2 n
header long tag n = tag ∷ 0xFF ∷ digits 3 n

abbrev pub Says : Form → ℕ → Type 0
Says short n = n ≤ 0xFD
Says middle n = n < 256 ^ 2
Says long n = n < 256 ^ 3

-- octets that begin with an item of a tag and a body, in one of the forms, and go on with the rest; its body begins so many octets on
pub record Begins (tag : ℕ) (body rest o : List ℕ) (start : ℕ) : Type 0 where
  pub form : Form
  pub says : Says form (length body)
  pub octets : o ≡ header form tag (length body) ++ (body ++ rest)
  pub begins : start ≡ length (header form tag (length body))

-- text under the entries T of the object's token table: valid, and each token octet has an entry
pub record TextIn (T : Entries) (o : List ℕ) : Type 0 where
  pub valid : text true o ≡ true
  pub covers : covered T o ≡ true

-- a value of a kind
pub record ValueIn (T : Entries) (k : Kind) (o : List ℕ) : Type 0 where
  pub value : fits k o ≡ true
  pub words : k ≡ HoldsText → TextIn T o

-- what may come in an element: attributes; then, in the top, a token table and a default language; then elements; then CDATA; then nothing
pub data Part : Type 0 where
  attributes table language elements cdata nothing : Part

-- an element that may stand in an element other than as its table or language: known, or of an unknown tag; no top, no CDATA, no attribute, not 0x00
pub record Child (tag : ℕ) : Type 0 where
  pub element : attribute tag ≡ false
  pub not_null : eqb tag 0 ≡ false
  pub not_top : is_top tag ≡ false

-- the octets o, from an offset of the object on, are what may come in an element of tag e from a part on, and give these items. T is the token table of the object,
-- d the depth of the items in e
pub data Inside (T : Entries) : Part → (e d at : ℕ) → List ℕ → Items → Type 0 where
  -- a known attribute, which no later item of the element repeats, with a value of its kind
  known_attribute : {e d at start tag : ℕ} {body rest o : List ℕ} {k : Kind} {u : Items} → Begins tag body rest o start
      → attribute tag ≡ true → known e tag ≡ some k → ValueIn T k body → find tag u ≡ none
      → Inside T attributes e d (at + start + length body) rest u → Inside T attributes e d at o (item tag (at + start) body end u)
  -- an unknown attribute is stepped over
  unknown_attribute : {e d at start tag : ℕ} {body rest o : List ℕ} {u : Items} → Begins tag body rest o start
      → attribute tag ≡ true → known e tag ≡ none
      → Inside T attributes e d (at + start + length body) rest u → Inside T attributes e d at o u
  attributes_of_top : {e d at : ℕ} {o : List ℕ} {u : Items} → is_top e ≡ true → Inside T table e d at o u → Inside T attributes e d at o u
  attributes_of_other : {e d at : ℕ} {o : List ℕ} {u : Items} → is_top e ≡ false → Inside T elements e d at o u → Inside T attributes e d at o u
  -- the token table, whose entries are those in force, or none
  some_table : {e d at start : ℕ} {body rest o : List ℕ} {u : Items} → Begins 4 body rest o start → is_table body ≡ true → entries body ≡ T
      → Inside T language e d (at + start + length body) rest u → Inside T table e d at o (item 4 (at + start) body end u)
  no_table : {e d at : ℕ} {o : List ℕ} {u : Items} → T ≡ [] → Inside T language e d at o u → Inside T table e d at o u
  -- the default language, or none
  some_language : {e d at start : ℕ} {body rest o : List ℕ} {u : Items} → Begins 6 body rest o start → TextIn T body
      → Inside T elements e d (at + start + length body) rest u → Inside T language e d at o (item 6 (at + start) body end u)
  no_language : {e d at : ℕ} {o : List ℕ} {u : Items} → Inside T elements e d at o u → Inside T language e d at o u
  -- an element that holds items, one deeper; one of plain octets; one that is unknown, which is stepped over. None is deeper than 16
  held_element : {e d at start tag : ℕ} {body rest o : List ℕ} {s u : Items} → Begins tag body rest o start → Child tag → d ≤ 16 → known 0 tag ≡ some HoldsItems
      → Inside T attributes tag (suc d) (at + start) body s → Inside T elements e d (at + start + length body) rest u
      → Inside T elements e d at o (item tag (at + start) body s u)
  plain_element : {e d at start tag : ℕ} {body rest o : List ℕ} {u : Items} → Begins tag body rest o start → Child tag → d ≤ 16 → known 0 tag ≡ some HoldsPlain
      → Inside T elements e d (at + start + length body) rest u → Inside T elements e d at o (item tag (at + start) body end u)
  unknown_element : {e d at start tag : ℕ} {body rest o : List ℕ} {u : Items} → Begins tag body rest o start → Child tag → d ≤ 16 → known 0 tag ≡ none
      → Inside T elements e d (at + start + length body) rest u → Inside T elements e d at o u
  no_element : {e d at : ℕ} {o : List ℕ} {u : Items} → Inside T cdata e d at o u → Inside T elements e d at o u
  -- CDATA, of whose expansion no more characters are shown than may be in e, or none
  some_cdata : {e d at start : ℕ} {body rest o : List ℕ} {u : Items} → Begins 1 body rest o start → TextIn T body → not_above (shown_length T body) (limit e) ≡ true
      → Inside T nothing e d (at + start + length body) rest u → Inside T cdata e d at o (item 1 (at + start) body end u)
  no_cdata : {e d at : ℕ} {o : List ℕ} {u : Items} → Inside T nothing e d at o u → Inside T cdata e d at o u
  -- the element is filled exactly
  filled : {e d at : ℕ} {o : List ℕ} {u : Items} → o ≡ [] → u ≡ end → Inside T nothing e d at o u

-- the octets o are an object with the tree t: one of the two tops, with nothing behind it, in at most 32,768 octets
pub record Accepts (o : List ℕ) (t : Items) : Type 0 where
  pub tokens : Entries
  pub tag : ℕ
  pub body : List ℕ
  pub start : ℕ
  pub inside : Items
  pub small : length o ≤ 32_768
  pub top : is_top tag ≡ true
  pub whole : Begins tag body [] o start
  pub holds : Inside tokens attributes tag 2 start body inside
  pub tree : t ≡ item tag start body inside end
