-- Request 2026-02: guide text for the web team. `export` answers the XML of an accepted object's meaning, or one numbered refusal. Of the statements about it only `XmlExactly`,
-- `ExportInOrder` and `XmlText` have a premise beside the call's claim: that what is given are octets, which a lent slice of octets always is.
use Rattle.std.specs.Prelude.{◌≡◌, true, false, ◌↔◌, List, [], ◌∷◌, ◌++◌, ℕ, ◌≤◌, ◌<◌, length, take, drop, Result, Ok, Err}
use Rattle.std.proofs.Math.Option.{some}
use Rattle.octets.specs.declared.counts.Octets.{Octets as OctetCount}
use Rattle.octets.specs.Counts.{size_of}
use Rattle.octets.specs.Numbers.{Octets}
use Rattle.text.specs.Text.{text}
use Rattle.text.specs.Tokens.{Entries, expanded}
use Rattle.values.specs.declared.Kind.{Kind}
use Rattle.values.specs.declared.Kind.TheVariants.{HoldsText}
use Rattle.values.specs.declared.Time.{Time}
use Rattle.values.specs.Times.{in_range}
use Rattle.values.specs.Table.{known}
use Rattle.values.specs.Values.{fits, meant}
use Rattle.format.specs.declared.Refusal.{Refusal}
use Rattle.format.specs.Answers.{refusal, write_outcome}
use Rattle.format.specs.Tree.{Items}
use Rattle.format.specs.Judge.{Judged, judge}
use Rattle.format.specs.Judge.Judged.{refused, accepted}
use Rattle.format.specs.Meaning.{meaning_of}
use Rattle.survey.specs.First.{first_in, item_at}
use Rattle.xml.specs.Dates.{local_date}
use Rattle.xml.specs.Names.{name}
use Rattle.xml.specs.Xml.{escaped, attribute_xml, xml}
use Rattle.xml.specs.Single.{is_worded, item_value}
use Rattle.xml.specs.Reading.{unescaped, inert}
use Rattle.xml.specs.Named.{plain_here, Named}
use Rattle.xml.specs.Export.{ExportClaim}
use Rattle.demands.specs.One.{Refuses, Ends}

-- ---- how it ends, and in which order it refuses

-- 1 to 13 for what stands in the object, 17 at an octet of the object, with field 0, or 15
pub data ExportRefuses (object : List ℕ) : ℕ → ℕ → ℕ → Type 0 where
  as_others : (number place field : ℕ) → Refuses object (15 ∷ []) number place field → ExportRefuses object number place field
  for_plain : (place : ℕ) → place < length object → ExportRefuses object 17 place 0

abbrev pub ExportEnds : Type 0
ExportEnds =
    (object before after : List ℕ) (answer : Result OctetCount Refusal) → ExportClaim object before after answer
    → Ends (ExportRefuses object) (after ≡ before) (write_outcome answer)

-- 1 to 13 exactly when the object is refused so; 17 at a place exactly when it is accepted and the item whose tag lies there is the first of plain octets in reading order;
-- 15 exactly when it is accepted, holds only named kinds, and its XML is above the room; else its octets
pub record ExportOrder (object : List ℕ) (judged : Judged) (room : OctetCount) (answer : Result OctetCount Refusal) : Type 0 where
  pub of_object : (r : Refusal) → r.number ≤ 13 → (answer ≡ Err r) ↔ (judged ≡ refused r)
  pub seventeen : (place : ℕ) → (answer ≡ Err (refusal 17 place))
      ↔ ((t : Items) × (judged ≡ accepted t) × (first_in plain_here 0 t ≡ some (item_at object place)))
  pub fifteen : (answer ≡ Err (refusal 15 0)) ↔ ((t : Items) × (judged ≡ accepted t) × Named (meaning_of t) × (room.0 < length (xml (meaning_of t))))
  pub octets : (k : OctetCount) → (answer ≡ Ok k)
      ↔ ((t : Items) × (judged ≡ accepted t) × Named (meaning_of t) × (k ≡ size_of (xml (meaning_of t))) × (k.0 ≤ room.0))

abbrev pub ExportInOrder : Type 0
ExportInOrder =
    (object : List ℕ) → Octets object → (before after : List ℕ) (answer : Result OctetCount Refusal) → ExportClaim object before after answer
    → ExportOrder object (judge object) (size_of before) answer

-- ---- what it hands out

-- two calls hand out one text
abbrev pub OneText : (answer_a : Result OctetCount Refusal) (room_a : List ℕ) (answer_b : Result OctetCount Refusal) (room_b : List ℕ) → Type 0
OneText answer_a room_a answer_b room_b = (n : OctetCount) × (answer_a ≡ Ok n) × (answer_b ≡ Ok n) × (take n.0 room_a ≡ take n.0 room_b)

-- two accepted objects give the same XML exactly when they mean the same and hold only kinds that document 01 names, wherever both calls have room enough
abbrev pub XmlExactly : Type 0
XmlExactly =
    (a b : List ℕ) → Octets a → Octets b → (t u : Items) → judge a ≡ accepted t → judge b ≡ accepted u
    → (room_a room_a' : List ℕ) (answer_a : Result OctetCount Refusal) → ExportClaim a room_a room_a' answer_a → (answer_a ≡ Err (refusal 15 0) → ⊥)
    → (room_b room_b' : List ℕ) (answer_b : Result OctetCount Refusal) → ExportClaim b room_b room_b' answer_b → (answer_b ≡ Err (refusal 15 0) → ⊥)
    → OneText answer_a room_a' answer_b room_b' ↔ ((meaning_of t ≡ meaning_of u) × Named (meaning_of t))

-- what is handed out is valid text, UTF-8 without control octets but tab, line feed and carriage return; behind it the room is as before
abbrev pub XmlText : Type 0
XmlText =
    (object : List ℕ) → Octets object → (before after : List ℕ) (n : OctetCount) → ExportClaim object before after (Ok n)
    → (text false (take n.0 after) ≡ true) × (drop n.0 after ≡ drop n.0 before)

-- a text of the object stands in the XML escaped (`escaped`, xml/specs/Xml): so it opens no tag and ends no value, and whoever undoes the escapes reads the text itself
abbrev pub XmlReadBack : Type 0
XmlReadBack = (s : List ℕ) → (inert (escaped s) ≡ true) × (unescaped (escaped s) ≡ s)

-- a local year outside 1 to 9999 can't arise from a legal time
abbrev pub LocalYears : Type 0
LocalYears = (t : Time) → in_range t ≡ true → (1 ≤ (local_date t).year) × ((local_date t).year ≤ 9999)

-- ---- one item by itself

-- what `put_item_name` and `put_item_value` put of an attribute is what the XML has there, around a blank, an equals sign and quotes
abbrev pub ItemAsInXml : Type 0
ItemAsInXml =
    (parent tag : ℕ) (kind : Kind) (table : Entries) (body : List ℕ) → known parent tag ≡ some kind → is_worded kind ≡ true → fits kind body ≡ true
    → attribute_xml parent tag (meant table kind body) ≡ 0x20 ∷ (name parent tag ++ (0x3D ∷ 0x22 ∷ (item_value parent tag table body ++ (0x22 ∷ []))))

-- of a text they put what the XML has of it, its tokens replaced and then escaped, and it may be put in parts
abbrev pub TextAsInXml : Type 0
TextAsInXml =
    (parent tag : ℕ) → known parent tag ≡ some HoldsText → (table : Entries) (one other : List ℕ)
    → (item_value parent tag table one ≡ escaped (expanded table one)) × (item_value parent tag table (one ++ other) ≡ item_value parent tag table one ++ item_value parent tag table other)
