-- The tables of rows in the code hold the names of the definition: those of eight tags each.
use mathlib.Core.Path.{◌≡◌, refl, sym, ap, ◌∙◌}
use mathlib.Core.Bool.{Bool, true, false, cond, ◌&&◌, ◌||◌, false≢true}
use mathlib.Core.Option.{some}
use mathlib.Core.List.{List, [], ◌∷◌, ◌++◌}
use Prim.Native.Nat.{ℕ, zero, suc, ◌*◌, ◌/◌, ◌<◌, min}
use Prim.Native.String.{String}
use native.Mathlib.Omega.{arith}
use lib.Dec.{eqb, ltb}
use lib.ListN.{length}
use borrow.Author.Tests.{eqb-true, ne_eqb, ltb-true, le-ltb}
use Rattle.octets.specs.Numbers.{among}
use Rattle.text.specs.Tokens.{cut, entries, entry}
use Rattle.text.proofs.Sequences.{all_below, below}
use Rattle.values.specs.declared.Kind.{Kind}
use Rattle.values.specs.declared.Kind.TheVariants.{HoldsItems, HoldsTokens, HoldsText, HoldsPlain, HoldsTime, HoldsBearer, HoldsNumber}
use Rattle.values.specs.declared.NumberKind.TheVariants.{Duration, ShortId, Enumerated, Integer}
use Rattle.values.specs.Table.{rows, known, attribute}
use Rattle.values.proofs.Known.{every, row-holds}
use Rattle.format.specs.Same.{same_octets}
use Rattle.format.proofs.Same.{same-octets}
use Rattle.show.specs.Digits.{hex_digit, two_digits}
use Rattle.show.specs.Lines.{ascii}
use Rattle.xml.specs.Names.{names, words, name_in, name, word_in, or_hex, word}
use Rattle.xml.specs.Steps.{Puts, or_nothing, entry_text, or_digits, NamePut, WordPut}
use Rattle.xml.proofs.Putting.{reworded, put-empty}

-- ---- the tables

-- a row: its key, how many octets follow, and these
unfoldable pub packed : ℕ → List ℕ → List ℕ
packed key o = key ∷ length o ∷ o

unfoldable pub unless_empty : ℕ → List ℕ → List ℕ
unless_empty key [] = []
unless_empty key (b ∷ bs) = packed key (b ∷ bs)

-- the elements of eight tags
unfoldable pub element_rows : ℕ → List (ℕ × ℕ × String) → List ℕ
element_rows g [] = []
element_rows g (r ∷ rs) = cond (eqb 0 r.0 && eqb (r.1 / 8) g) (packed r.1 (ascii r.2)) [] ++ element_rows g rs

unfoldable pub element_table : ℕ → List ℕ
element_table g = element_rows g names

-- the attributes of an element, and of so many elements from one on
unfoldable pub attributes_of : ℕ → List (ℕ × ℕ × String) → List ℕ
attributes_of e [] = []
attributes_of e (r ∷ rs) = cond (eqb e r.0 && attribute r.1) (packed r.1 (ascii r.2)) [] ++ attributes_of e rs

unfoldable pub attribute_rows : ℕ → ℕ → List ℕ
attribute_rows zero e = []
attribute_rows (suc n) e = unless_empty e (attributes_of e names) ++ attribute_rows n (suc e)

unfoldable pub attribute_table : ℕ → List ℕ
attribute_table g = attribute_rows 8 (8 * g)

-- the enumerated values of an attribute, of the seven attributes of an element, and of so many elements from one on
unfoldable pub words_of : ℕ → ℕ → List (ℕ × ℕ × ℕ × String) → List ℕ
words_of e t [] = []
words_of e t (r ∷ rs) = cond (eqb e r.0 && eqb t r.1) (packed r.2 (ascii r.3)) [] ++ words_of e t rs

unfoldable pub words_from : ℕ → ℕ → ℕ → List ℕ
words_from zero e t = []
words_from (suc n) e t = unless_empty t (words_of e t words) ++ words_from n e (suc t)

unfoldable pub word_rows : ℕ → ℕ → List ℕ
word_rows zero e = []
word_rows (suc n) e = unless_empty e (words_from 7 e 0x80) ++ word_rows n (suc e)

unfoldable pub word_table : ℕ → List ℕ
word_table g = word_rows 8 (8 * g)

-- ---- what isn't in a table

-- a number that is none of some, as the rest of a match has it; the last of them first
abbrev pub Others : List ℕ → ℕ → Type 0
Others [] x = Unit {0}
Others (k ∷ ks) x = Others ks x × (x ≡ k → ⊥)

others-not : (ks : List ℕ) (x : ℕ) → Others ks x → among x ks ≡ false
unfolding among
others-not [] x h = refl
others-not (k ∷ ks) x h = rw (ne_eqb x k (λ e. h.1 e), others-not ks x h.0)

-- ---- elements

abbrev element_listed : ℕ → Bool
element_listed t = same_octets (entry_text (element_table (t / 8)) t) (name 0 t)

elements-listed : all_below element_listed 256 ≡ true
unfolding all_below element_table element_rows packed names name name_in attribute ascii same_octets entry_text or_nothing entry entries cut
elements-listed = refl

module _ (emit : Bool) (tag at : ℕ) (before after : List ℕ) (to : ℕ) (l : tag < 256) where
  element-is : entry_text (element_table (tag / 8)) tag ≡ name 0 tag
  element-is = same-octets (entry_text (element_table (tag / 8)) tag) (name 0 tag) (below element_listed 256 elements-listed tag l)

  pub element-put : (g : ℕ) → tag / 8 ≡ g → Puts emit (entry_text (element_table g) tag) at before after to → Puts emit (name 0 tag) at before after to
  element-put g e p = reworded emit (entry_text (element_table g) tag) (name 0 tag) at before after to (ap (λ x. entry_text (element_table x) tag) (sym e) ∙ element-is) p

-- no element has a tag of another group
abbrev element_grouped : ℕ → Bool
element_grouped t = among (t / 8) (7 ∷ 6 ∷ 5 ∷ 4 ∷ 3 ∷ 2 ∷ 0 ∷ []) || eqb (length (name 0 t)) 0

elements-grouped : all_below element_grouped 256 ≡ true
unfolding all_below among names name name_in attribute ascii
elements-grouped = refl

none-long : (s : List ℕ) → length s ≡ 0 → s ≡ []
none-long [] h = refl
none-long (b ∷ s) h = absurd (omega arith)

pub element-rest : (emit : Bool) (tag at : ℕ) (out : List ℕ) (to : ℕ) → tag < 256 → Others (7 ∷ 6 ∷ 5 ∷ 4 ∷ 3 ∷ 2 ∷ 0 ∷ []) (tag / 8) → to ≡ min at (suc (length out)) → Puts emit (name 0 tag) at out out to
element-rest emit tag at out to l h e =
    let g : eqb (length (name 0 tag)) 0 ≡ true = rw (others-not (7 ∷ 6 ∷ 5 ∷ 4 ∷ 3 ∷ 2 ∷ 0 ∷ []) (tag / 8) h) at (below element_grouped 256 elements-grouped tag l) in
    rw (none-long (name 0 tag) (eqb-true (length (name 0 tag)) 0 g)) (put-empty emit at out to e)

-- ---- attributes

abbrev attribute_listed : ℕ → ℕ → Kind → Bool
attribute_listed e t k = ltb t 0x80 || same_octets (entry_text (entry_text (attribute_table (e / 8)) e) t) (ascii (name_in e t names))

attributes-listed : every attribute_listed rows ≡ true
unfolding rows attribute_table attribute_rows attributes_of unless_empty packed attribute names name_in ascii same_octets entry_text or_nothing entry entries cut
attributes-listed = refl

not_low : (tag : ℕ) → attribute tag ≡ true → ltb tag 0x80 ≡ false
unfolding attribute
not_low tag a = le-ltb tag 0x80 (ltb-true 0x7F tag a)

attribute-is : (parent tag : ℕ) (k : Kind) → attribute tag ≡ true → known parent tag ≡ some k → entry_text (entry_text (attribute_table (parent / 8)) parent) tag ≡ name parent tag
unfolding known name
attribute-is parent tag k a h =
    let x = entry_text (entry_text (attribute_table (parent / 8)) parent) tag in
    let s : same_octets x (ascii (name_in parent tag names)) ≡ true = rw (not_low tag a) at (row-holds attribute_listed parent tag k rows attributes-listed (rw a at h)) in
    rw a (same-octets x (ascii (name_in parent tag names)) s)

module _ (emit : Bool) (parent tag at : ℕ) (before after : List ℕ) (to : ℕ) where
  pub attribute-put : (g : ℕ) → parent / 8 ≡ g → Puts emit (entry_text (entry_text (attribute_table g) parent) tag) at before after to → NamePut emit parent tag at before after to
  unfolding NamePut
  attribute-put g e p k a h =
      reworded emit (entry_text (entry_text (attribute_table g) parent) tag) (name parent tag) at before after to (ap (λ x. entry_text (entry_text (attribute_table x) parent) tag) (sym e) ∙ attribute-is parent tag k a h) p

-- no element of another group has attributes
attributes-grouped : every (λ e t k. ltb t 0x80 || among (e / 8) (7 ∷ 6 ∷ 5 ∷ 4 ∷ 3 ∷ 2 ∷ 0 ∷ [])) rows ≡ true
unfolding rows among
attributes-grouped = refl

pub attribute-rest : (emit : Bool) (parent tag at : ℕ) (before after : List ℕ) (to : ℕ) → Others (7 ∷ 6 ∷ 5 ∷ 4 ∷ 3 ∷ 2 ∷ 0 ∷ []) (parent / 8) → NamePut emit parent tag at before after to
unfolding NamePut known
attribute-rest emit parent tag at before after to h k a e =
    let groups : List ℕ = 7 ∷ 6 ∷ 5 ∷ 4 ∷ 3 ∷ 2 ∷ 0 ∷ [] in
    let r = row-holds (λ e t k. ltb t 0x80 || among (e / 8) groups) parent tag k rows attributes-grouped (rw a at e) in
    absurd (false≢true (rw (not_low tag a, others-not groups (parent / 8) h) at r))

-- ---- enumerated values

abbrev word_listed : ℕ → ℕ → Kind → Bool
word_listed e t HoldsItems = true
word_listed e t HoldsTokens = true
word_listed e t HoldsText = true
word_listed e t HoldsPlain = true
word_listed e t HoldsTime = true
word_listed e t HoldsBearer = true
word_listed e t (HoldsNumber Duration) = true
word_listed e t (HoldsNumber ShortId) = true
word_listed e t (HoldsNumber Enumerated) = let row = entry_text (entry_text (word_table (e / 8)) e) t in all_below (λ n. same_octets (or_digits (entry_text row n) n) (word e t n)) 256
word_listed e t (HoldsNumber Integer) = true

words-listed : every word_listed rows ≡ true
unfolding rows word_table word_rows words_from words_of unless_empty packed words word word_in or_hex or_digits ascii same_octets entry_text or_nothing entry entries cut all_below two_digits hex_digit
words-listed = refl

word-is : (parent tag n : ℕ) → attribute tag ≡ true → known parent tag ≡ some (HoldsNumber Enumerated) → n < 256
    → or_digits (entry_text (entry_text (entry_text (word_table (parent / 8)) parent) tag) n) n ≡ word parent tag n
unfolding known
word-is parent tag n a h l =
    let row = entry_text (entry_text (word_table (parent / 8)) parent) tag in
    same-octets (or_digits (entry_text row n) n) (word parent tag n)
    (below (λ m. same_octets (or_digits (entry_text row m) m) (word parent tag m)) 256 (row-holds word_listed parent tag (HoldsNumber Enumerated) rows words-listed (rw a at h)) n l)

module _ (emit : Bool) (parent tag n at : ℕ) (before after : List ℕ) (to : ℕ) (l : n < 256) where
  pub word-put : (g : ℕ) → parent / 8 ≡ g → Puts emit (or_digits (entry_text (entry_text (entry_text (word_table g) parent) tag) n) n) at before after to → WordPut emit parent tag n at before after to
  unfolding WordPut
  word-put g e p a h =
      reworded emit (or_digits (entry_text (entry_text (entry_text (word_table g) parent) tag) n) n) (word parent tag n) at before after to
      (ap (λ x. or_digits (entry_text (entry_text (entry_text (word_table x) parent) tag) n) n) (sym e) ∙ word-is parent tag n a h l) p

-- no element of another group has enumerated attributes
abbrev word_grouped : ℕ → ℕ → Kind → Bool
word_grouped e t HoldsItems = true
word_grouped e t HoldsTokens = true
word_grouped e t HoldsText = true
word_grouped e t HoldsPlain = true
word_grouped e t HoldsTime = true
word_grouped e t HoldsBearer = true
word_grouped e t (HoldsNumber Duration) = true
word_grouped e t (HoldsNumber ShortId) = true
word_grouped e t (HoldsNumber Enumerated) = among (e / 8) (5 ∷ 4 ∷ 3 ∷ 2 ∷ [])
word_grouped e t (HoldsNumber Integer) = true

words-grouped : every word_grouped rows ≡ true
unfolding rows among
words-grouped = refl

pub word-rest : (emit : Bool) (parent tag n at : ℕ) (before after : List ℕ) (to : ℕ) → Others (5 ∷ 4 ∷ 3 ∷ 2 ∷ []) (parent / 8) → WordPut emit parent tag n at before after to
unfolding WordPut known
word-rest emit parent tag n at before after to h a e =
    let r = row-holds word_grouped parent tag (HoldsNumber Enumerated) rows words-grouped (rw a at e) in
    absurd (false≢true (sym (others-not (5 ∷ 4 ∷ 3 ∷ 2 ∷ []) (parent / 8) h) ∙ r))
