-- The XML of a well-formed meaning of named kinds is valid text: UTF-8 in which no control octet stands but tab, line feed and carriage return.
use mathlib.Core.Path.{◌≡◌, refl, ◌∙◌}
use mathlib.Core.Bool.{true, false}
use mathlib.Core.Option.{Option, none, some}
use mathlib.Core.List.{List, [], ◌∷◌, ◌++◌}
use Prim.Native.Nat.{ℕ, zero, suc, ◌≤◌, ◌<◌}
use native.Mathlib.Omega.{arith}
use Rattle.text.specs.Text.{single, utf8, text}
use Rattle.text.proofs.Laws.{ascii-text}
use Rattle.text.proofs.Expansion.{utf8_append}
use Rattle.values.specs.Table.{known}
use Rattle.values.specs.Values.{Value}
use Rattle.format.specs.Judge.{stage_after}
use Rattle.format.specs.Meaning.{Meaning, maybe}
use Rattle.format.specs.Meaning.Meaning.{nothing, element, leaf}
use Rattle.format.specs.WellFormed.{CdataOk, LeafOk, WellFormed, ObjectOk}
use Rattle.format.specs.WellFormed.LeafOk.{language, plainly}
use Rattle.show.specs.Lines.{ascii}
use Rattle.xml.specs.Names.{name}
use Rattle.xml.specs.Xml.{escaped, value_text, attribute_xml, attributes_xml, tagged, cdata_xml, xml}
use Rattle.xml.specs.Named.{is_plain, Named}
use Rattle.xml.proofs.Parts.{sober-text}
use Rattle.xml.proofs.Escapes.{escaped-text}
use Rattle.xml.proofs.Values.{value-text}
use Rattle.xml.proofs.Unique.{Fit, Fits, fits-of, element-name, language-name, plain-named}

abbrev Valid : List ℕ → Type 0
Valid s = text false s ≡ true

both : (u v : List ℕ) → Valid u → Valid v → Valid (u ++ v)
unfolding text
both u v h g = utf8_append u v 0 0 0 h g

-- an octet that is text by itself
one : (b : ℕ) (u : List ℕ) → 0x20 ≤ b → b < 0x80 → Valid u → Valid (b ∷ u)
one b u l m h = ascii-text false b u l m ∙ h

none-valid : Valid []
unfolding text utf8
none-valid = refl

attribute-valid : (parent a : ℕ) (v : Value) → Fit parent a v → Valid (attribute_xml parent a v)
unfolding attribute_xml
attribute-valid parent a v f =
    one 0x20 _ (omega arith) (omega arith)
    (both (name parent a) (0x3D ∷ 0x22 ∷ (value_text parent a v ++ (0x22 ∷ []))) (sober-text (name parent a) f.fine.sober)
    (one 0x3D _ (omega arith) (omega arith)
    (one 0x22 _ (omega arith) (omega arith)
    (both (value_text parent a v) (0x22 ∷ []) (value-text parent a f.is f.kind v f.knows f.named f.proper) (one 0x22 [] (omega arith) (omega arith) none-valid)))))

attributes-valid : (n a parent : ℕ) (f : ℕ → Option Value) → Fits parent f → Valid (attributes_xml n a parent f)
unfolding attributes_xml maybe
attributes-valid zero a parent f p = none-valid
attributes-valid (suc n) a parent f p = go (f a) refl (attributes-valid n (suc a) parent f p)
  where
    go : (o : Option Value) → f a ≡ o → Valid (attributes_xml n (suc a) parent f) → Valid (maybe (attribute_xml parent a) o ++ attributes_xml n (suc a) parent f)
    go none e later = later
    go (some v) e later = both (attribute_xml parent a v) (attributes_xml n (suc a) parent f) (attribute-valid parent a v (p a v e)) later

tagged-valid : (n a i : List ℕ) → Valid n → Valid a → Valid i → Valid (tagged n a i)
unfolding tagged ascii
tagged-valid n a [] h g k =
    one 0x3C _ (omega arith) (omega arith)
    (both n (a ++ (0x2F ∷ 0x3E ∷ [])) h (both a (0x2F ∷ 0x3E ∷ []) g (one 0x2F _ (omega arith) (omega arith) (one 0x3E [] (omega arith) (omega arith) none-valid))))
tagged-valid n a (b ∷ bs) h g k =
    let behind : List ℕ = 0x3C ∷ 0x2F ∷ (n ++ (0x3E ∷ [])) in
    one 0x3C _ (omega arith) (omega arith)
    (both n (a ++ (0x3E ∷ ((b ∷ bs) ++ behind))) h
    (both a (0x3E ∷ ((b ∷ bs) ++ behind)) g
    (one 0x3E _ (omega arith) (omega arith)
    (both (b ∷ bs) behind k
    (one 0x3C _ (omega arith) (omega arith)
    (one 0x2F _ (omega arith) (omega arith) (both n (0x3E ∷ []) h (one 0x3E [] (omega arith) (omega arith) none-valid))))))))

cdata-valid : (parent : ℕ) (c : Option (List ℕ)) → CdataOk parent c → Valid (cdata_xml c)
unfolding cdata_xml ascii text utf8 single
cdata-valid parent none ok = refl
cdata-valid parent (some []) ok = refl
cdata-valid parent (some (b ∷ bs)) ok = escaped-text (b ∷ bs) ok.0

leaf-valid : (tag : ℕ) (o : List ℕ) → LeafOk tag o → is_plain (known 0 tag) ≡ false → Valid (tagged (name 0 tag) [] (escaped o))
leaf-valid tag o (language six h) n = tagged-valid (name 0 tag) [] (escaped o) (sober-text (name 0 tag) (language-name tag six).sober) none-valid (escaped-text o h)
leaf-valid tag o (plainly k) n = absurd (plain-named tag k n)

pub valid : (m : Meaning) (parent depth stage : ℕ) → WellFormed parent depth stage m → Named m → text false (xml m) ≡ true
unfolding xml
valid nothing parent depth stage w n = none-valid
valid (element tag f children cdata after) parent depth stage w n =
    both (tagged (name 0 tag) (attributes_xml 128 0x80 tag f) (xml children ++ cdata_xml cdata)) (xml after)
    (tagged-valid (name 0 tag) (attributes_xml 128 0x80 tag f) (xml children ++ cdata_xml cdata) (sober-text (name 0 tag) (element-name tag w.1).sober) (attributes-valid 128 0x80 tag f (fits-of tag f w.2 n.0))
    (both (xml children) (cdata_xml cdata) (valid children tag (suc depth) 0 w.3 n.1) (cdata-valid tag cdata w.4)))
    (valid after parent depth (stage_after tag) w.5 n.2)
valid (leaf tag o after) parent depth stage w n =
    both (tagged (name 0 tag) [] (escaped o)) (xml after) (leaf-valid tag o w.1 n.0) (valid after parent depth (stage_after tag) w.2 n.1)

-- of an object's meaning
pub object-valid : (m : Meaning) → ObjectOk m → Named m → text false (xml m) ≡ true
object-valid nothing ok n = absurd ok
object-valid (leaf tag o after) ok n = absurd ok
object-valid (element tag f children cdata nothing) ok n = valid (element tag f children cdata nothing) 0 1 0 ok n
object-valid (element tag f children cdata (element t g kids c after)) ok n = absurd ok
object-valid (element tag f children cdata (leaf t o after)) ok n = absurd ok
