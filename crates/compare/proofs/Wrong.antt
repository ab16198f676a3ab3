-- Wrong answers, refuted by computing the definitions: for each public call two, of the kind that slips make.
use Rattle.std.specs.Prelude.{Some, None, Ok, Err}
use mathlib.Core.Path.{◌≡◌, refl, sym, ap, ◌∙◌}
use mathlib.Core.Bool.{true, false, false≢true, true≢false}
use mathlib.Core.Option.{some}
use mathlib.Core.List.{List, [], ◌∷◌, ◌++◌}
use Prim.Native.Nat.{ℕ}
use native.Mathlib.Omega.{arith}
use lib.ListN.{get_or}
use Rattle.octets.specs.Numbers.{among, value, digits}
use Rattle.octets.specs.Header.{header_size, body_size}
use Rattle.octets.proofs.Tests.{never}
use Rattle.octets.specs.Places.{from_to}
use Rattle.text.specs.Text.{layout, token}
use Rattle.text.specs.Tokens.{Entries, entry, or_itself, stands, expanded}
use Rattle.text.specs.Index.{usable, place_at, place_by, with_place, entries_below, entries_by}
use Rattle.values.specs.declared.Kind.TheVariants.{HoldsText, HoldsTime, HoldsBearer}
use Rattle.values.specs.Table.{rows, kind_in, known, attribute, defaults, default_in}
use Rattle.values.specs.Times.{bits, long_flag, offset_flag, offset_octet, time_of, in_range, is_time, sign, time_octets}
use Rattle.values.specs.Bearers.{ensemble_flag, long_sid_flag, ensemble_of, bearer_of, is_bearer, ensemble_bit, ensemble_octets, bearer_octets}
use Rattle.values.specs.Values.{width, fits, meant, octets_of}
use Rattle.values.specs.Calls.{normal_octets, default_octets}
use Rattle.format.specs.Answers.{refusal, wrong_value, same_outcome}
use Rattle.format.specs.Judge.{is_known, is_items, judge}
use Rattle.format.specs.Meaning.{opens, is_child}
use Rattle.format.specs.Same.{same_octets, same_value, same_maybe, same_answer, is_normal}
use Rattle.format.specs.declared.SameRefusal.TheVariants.{First, Second}
use Rattle.survey.specs.Places.{span_within, span_of_tag, body_by, body_of_tag}
use Rattle.compare.specs.Normal.{is_written}
use Rattle.compare.specs.Bodies.{same_body}
use Rattle.compare.specs.Walks.{children_within, children_in, child_within, child_from, child}
use Rattle.compare.specs.Items.{counted_body, counted_of_tag, counted_lies, counted_span, same_found, same_from, same_sets, same_text, same_each, same_element, same_children}
use Rattle.compare.proofs.Examples.{rising-order, falling-minus-zero, no-cdata, empty-cdata, top, cut_short, mistimed, language, unsaid, said-no, said-yes, computed}

-- `same`: no CDATA and an empty one told as the same; another order of attributes and minus 0 told as different; the second object's refusal told of the first, or
-- without its field; a default told as a difference, or as the same as another value (change request 2026-05)
pub empty-as-none : same_answer (judge no-cdata) (judge empty-cdata) ≡ Ok true → ⊥
empty-as-none h = let z : (Ok true) ≡ (Ok false) = sym h ∙ ap (λ l. get_or l 6 (Ok true)) computed.compared in never (cc)

pub order-counted : same_answer (judge rising-order) (judge falling-minus-zero) ≡ Ok false → ⊥
order-counted h = let z : (Ok false) ≡ (Ok true) = sym h ∙ ap (λ l. get_or l 3 (Ok true)) computed.compared in never (cc)

pub told-of-first : same_answer (judge top) (judge cut_short) ≡ Err (First (refusal 3 0)) → ⊥
told-of-first h = let z : (Err (First (refusal 3 0))) ≡ (Err (Second (refusal 3 0))) = sym h ∙ ap (λ l. get_or l 12 (Ok true)) computed.compared in never (cc)

pub field-left-out : same_answer (judge top) (judge mistimed) ≡ Err (Second (refusal 9 2)) → ⊥
field-left-out h =
    let e : (Err (Second (refusal 9 2))) ≡ (Err (Second (wrong_value 2 3))) = sym h ∙ ap (λ l. get_or l 13 (Ok true)) computed.compared in
    let z : ◌≡◌ {A = ℕ} 0 3 = ap (λ a. (same_outcome a).field) e in
    omega arith

pub default-differs : same_answer (judge said-no) (judge unsaid) ≡ Ok false → ⊥
default-differs h = let z : (Ok false) ≡ (Ok true) = sym h ∙ ap (λ l. get_or l 14 (Ok true)) computed.compared in never (cc)

pub default-as-any : same_answer (judge said-no) (judge said-yes) ≡ Ok true → ⊥
default-as-any h = let z : (Ok true) ≡ (Ok false) = sym h ∙ ap (λ l. get_or l 17 (Ok true)) computed.compared in never (cc)

-- `is_normal`: attributes by falling tag and minus 0 passed; a normal form refused; a default passed
pub falling-passes : is_normal falling-minus-zero ≡ true → ⊥
falling-passes h = false≢true (sym (ap (λ l. get_or l 5 true) computed.formed) ∙ h)

pub normal-refused : is_normal language ≡ false → ⊥
normal-refused h = true≢false (sym (ap (λ l. get_or l 3 false) computed.formed) ∙ h)

pub default-passes : is_normal said-no ≡ true → ⊥
default-passes h = false≢true (sym (ap (λ l. get_or l 16 true) computed.formed) ∙ h)

-- `is_own`: minus 0 passed; a text refused
pub minus-zero-own : is_written (some HoldsTime) (0x30 ∷ 0xD4 ∷ 0x10 ∷ 0x00 ∷ 0x20 ∷ []) ≡ true → ⊥
unfolding is_written normal_octets same_octets fits meant octets_of is_time time_of time_octets in_range sign bits long_flag offset_flag offset_octet value digits
minus-zero-own h = false≢true h

pub text-not-own : is_written (some HoldsText) (0x61 ∷ []) ≡ false → ⊥
unfolding is_written normal_octets same_octets fits meant octets_of expanded stands token layout among or_itself
text-not-own h = true≢false h

-- a token table with 'ab' under 0x01, its index, and the index of no table
abbrev ab : List ℕ
ab = 0x01 ∷ 0x02 ∷ 0x61 ∷ 0x62 ∷ []

abbrev ab_index : List ℕ
ab_index = 2 ∷ 2 ∷ 0 ∷ 0 ∷ 0 ∷ 0 ∷ 0 ∷ 0 ∷ 0 ∷ 0 ∷ 0 ∷ 0 ∷ 0 ∷ 0 ∷ 0 ∷ 0 ∷ 0 ∷ 0 ∷ 0 ∷ 0 ∷ 0 ∷ 0 ∷ 0 ∷ 0 ∷ 0 ∷ 0 ∷ 0 ∷ 0 ∷ 0 ∷ 0 ∷ 0 ∷ 0 ∷ []

abbrev no_index : List ℕ
no_index = 1 ∷ 0 ∷ 0 ∷ 0 ∷ 0 ∷ 0 ∷ 0 ∷ 0 ∷ 0 ∷ 0 ∷ 0 ∷ 0 ∷ 0 ∷ 0 ∷ 0 ∷ 0 ∷ 0 ∷ 0 ∷ 0 ∷ 0 ∷ 0 ∷ 0 ∷ 0 ∷ 0 ∷ 0 ∷ 0 ∷ 0 ∷ 0 ∷ 0 ∷ 0 ∷ 0 ∷ 0 ∷ []

-- `same_texts`: a token taken for itself; a text that only begins like the other told as the same
record Texts : Type 0 where
  whole : same_octets (expanded (entries_by ab_index ab) (0x01 ∷ [])) (expanded (entries_by no_index []) (0x61 ∷ 0x62 ∷ [])) ≡ true
  begun : same_octets (expanded (entries_by ab_index ab) (0x01 ∷ [])) (expanded (entries_by no_index []) (0x61 ∷ 0x62 ∷ 0x63 ∷ [])) ≡ false

texts : Texts
unfolding same_octets expanded stands token layout among entry or_itself entries_by entries_below with_place place_by place_at usable
texts = record { whole = refl; begun = refl }

pub token-unexpanded : same_octets (expanded (entries_by ab_index ab) (0x01 ∷ [])) (expanded (entries_by no_index []) (0x61 ∷ 0x62 ∷ [])) ≡ false → ⊥
token-unexpanded h = true≢false (sym texts.whole ∙ h)

pub beginning-passes : same_octets (expanded (entries_by ab_index ab) (0x01 ∷ [])) (expanded (entries_by no_index []) (0x61 ∷ 0x62 ∷ 0x63 ∷ [])) ≡ true → ⊥
beginning-passes h = false≢true (sym texts.begun ∙ h)

-- `same_bodies`: minus 0 and no offset told as different; a 16-bit SId told as the same as a 32-bit one of that number
pub minus-zero-differs : (es fs : Entries) → same_body es fs HoldsTime (0x30 ∷ 0xD4 ∷ 0x10 ∷ 0x00 ∷ 0x20 ∷ []) (0x30 ∷ 0xD4 ∷ 0x00 ∷ 0x00 ∷ []) ≡ false → ⊥
unfolding same_body same_value same_octets fits meant octets_of is_time time_of time_octets in_range sign bits long_flag offset_flag offset_octet value digits
minus-zero-differs es fs h = true≢false h

pub widths-alike : (es fs : Entries) → same_body es fs HoldsBearer (0x00 ∷ 0xC1 ∷ 0x23 ∷ []) (0x10 ∷ 0x00 ∷ 0x00 ∷ 0xC1 ∷ 0x23 ∷ []) ≡ true → ⊥
unfolding same_body same_value same_octets fits meant octets_of is_bearer bearer_of bearer_octets ensemble_flag long_sid_flag ensemble_of ensemble_bit ensemble_octets bits value digits
widths-alike es fs h = false≢true h

-- `same_octets`: octets that only begin like the others; the last octet not looked at
pub shorter-passes : same_octets (0x61 ∷ []) (0x61 ∷ 0x62 ∷ []) ≡ true → ⊥
unfolding same_octets
shorter-passes h = false≢true h

pub last-unseen : same_octets (0x61 ∷ 0x62 ∷ []) (0x61 ∷ 0x63 ∷ []) ≡ true → ⊥
unfolding same_octets
last-unseen h = false≢true h

-- `same_attribute`, the version of serviceInformation: absent in one told as the same; an unknown attribute before it told as a difference; the recommendation "no" of
-- a programme, which is its default, told as a difference from none; the octet of that default dropped where an attribute has none, as a multimedia's type
pub absent-passes : (es fs : Entries) → same_found es fs (known 0x03 0x80) (counted_of_tag 0x03 0x80 []) (counted_of_tag 0x03 0x80 (0x80 ∷ 0x02 ∷ 0x00 ∷ 0x01 ∷ [])) ≡ true → ⊥
unfolding same_found same_maybe known rows kind_in attribute counted_of_tag counted_body default_octets body_of_tag body_by span_of_tag span_within header_size body_size
absent-passes es fs h = false≢true h

pub unknown-counted : (es fs : Entries)
    → same_found es fs (known 0x03 0x80) (counted_of_tag 0x03 0x80 (0x80 ∷ 0x02 ∷ 0x00 ∷ 0x01 ∷ [])) (counted_of_tag 0x03 0x80 (0x99 ∷ 0x00 ∷ 0x80 ∷ 0x02 ∷ 0x00 ∷ 0x01 ∷ [])) ≡ false → ⊥
unfolding same_found same_maybe known rows kind_in attribute counted_of_tag counted_body default_octets body_of_tag body_by span_of_tag span_within header_size body_size same_body same_value same_octets fits width meant octets_of value digits
unknown-counted es fs h = true≢false h

pub default-counted : (es fs : Entries) → same_found es fs (known 0x1C 0x83) (counted_of_tag 0x1C 0x83 (0x83 ∷ 0x01 ∷ 0x01 ∷ [])) (counted_of_tag 0x1C 0x83 []) ≡ false → ⊥
unfolding same_found same_maybe known rows kind_in attribute counted_of_tag counted_body default_octets default_in defaults body_of_tag body_by span_of_tag span_within header_size body_size
default-counted es fs h = true≢false h

pub other-dropped : (es fs : Entries) → same_found es fs (known 0x2B 0x83) (counted_of_tag 0x2B 0x83 (0x83 ∷ 0x01 ∷ 0x01 ∷ [])) (counted_of_tag 0x2B 0x83 []) ≡ true → ⊥
unfolding same_found same_maybe known rows kind_in attribute counted_of_tag counted_body default_octets default_in defaults body_of_tag body_by span_of_tag span_within header_size body_size
other-dropped es fs h = false≢true h

-- `find_counted`: a default found; another value not found
pub default-found : counted_span 0x1C 0x83 (0x83 ∷ 0x01 ∷ 0x01 ∷ []) ≡ Some (from_to 2 3) → ⊥
unfolding counted_span counted_lies default_octets default_in defaults span_of_tag span_within header_size body_size attribute
default-found h = never (cc)

pub value-lost : counted_span 0x1C 0x83 (0x83 ∷ 0x01 ∷ 0x02 ∷ []) ≡ None → ⊥
unfolding counted_span counted_lies default_octets default_in defaults span_of_tag span_within header_size body_size attribute
value-lost h = never (cc)

-- `next_child`: a token table told as a child element; an unknown element taken for the end
pub table-found : child_from (0x04 ∷ 0x00 ∷ 0x10 ∷ 0x00 ∷ []) 0 ≡ Some (child 0 2 2) → ⊥
unfolding child_from child_within is_child is_known known kind_in rows attribute header_size body_size
table-found h =
    let w : Some (child 2 4 4) ≡ Some (child 0 2 2) = h in
    let z : child 2 4 4 ≡ child 0 2 2 = cc w in
    let e : ◌≡◌ {A = ℕ} 2 0 = ap (λ c. c.at) z in
    absurd (omega (arith, e))

pub unknown-ends : child_from (0x7D ∷ 0x00 ∷ 0x10 ∷ 0x00 ∷ []) 0 ≡ None → ⊥
unfolding child_from child_within is_child is_known known kind_in rows attribute header_size body_size
unknown-ends h = never (cc)

-- `same_cdata`: none told as the same as an empty one; that of a child taken for the element's own
pub none-as-empty : (es fs : Entries) → same_text es fs (body_of_tag 1 []) (body_of_tag 1 (0x01 ∷ 0x00 ∷ [])) ≡ true → ⊥
unfolding same_text same_maybe attribute body_of_tag body_by span_of_tag span_within header_size body_size
none-as-empty es fs h = false≢true h

pub child-for-own : (es fs : Entries) → same_text es fs (body_of_tag 1 (0x10 ∷ 0x03 ∷ 0x01 ∷ 0x01 ∷ 0x61 ∷ [])) (body_of_tag 1 (0x01 ∷ 0x01 ∷ 0x61 ∷ [])) ≡ true → ⊥
unfolding same_text same_maybe attribute body_of_tag body_by span_of_tag span_within header_size body_size
child-for-own es fs h = false≢true h

-- `same_attributes`: attributes in another order told as different; the last one that an element can have, programme's xml:lang, not looked at; a default that stands
-- before another attribute in one alone told as a difference
abbrev versioned : List ℕ
versioned = 0x80 ∷ 0x02 ∷ 0x00 ∷ 0x01 ∷ []

abbrev created : List ℕ
created = 0x81 ∷ 0x04 ∷ 0x30 ∷ 0xD4 ∷ 0x00 ∷ 0x00 ∷ []

record Attributes : Type 0 where
  turned : same_sets 0x03 [] (versioned ++ created) [] (created ++ versioned) ≡ true
  last : same_sets 0x1C [] (0x86 ∷ 0x01 ∷ 0x61 ∷ []) [] [] ≡ false
  defaulted : same_sets 0x1C [] (0x83 ∷ 0x01 ∷ 0x01 ∷ 0x84 ∷ 0x01 ∷ 0x02 ∷ []) [] (0x84 ∷ 0x01 ∷ 0x02 ∷ []) ≡ true

attributes : Attributes
unfolding same_sets same_from same_found same_maybe known rows kind_in attribute counted_of_tag counted_body default_octets default_in defaults body_of_tag body_by span_of_tag span_within header_size body_size same_body same_value same_octets fits width meant octets_of value digits is_time time_of time_octets in_range sign bits long_flag offset_flag offset_octet
attributes = record { turned = refl; last = refl; defaulted = refl }

pub turned-different : same_sets 0x03 [] (versioned ++ created) [] (created ++ versioned) ≡ false → ⊥
turned-different h = true≢false (sym attributes.turned ∙ h)

pub last-attribute-unseen : same_sets 0x1C [] (0x86 ∷ 0x01 ∷ 0x61 ∷ []) [] [] ≡ true → ⊥
last-attribute-unseen h = false≢true (sym attributes.last ∙ h)

pub default-different : same_sets 0x1C [] (0x83 ∷ 0x01 ∷ 0x01 ∷ 0x84 ∷ 0x01 ∷ 0x02 ∷ []) [] (0x84 ∷ 0x01 ∷ 0x02 ∷ []) ≡ false → ⊥
default-different h = true≢false (sym attributes.defaulted ∙ h)

-- `same_child`, two services: an unknown element in one told as a difference; a name in one alone told as none. `same_children`: names in another order told as
-- the same; a token table taken for a child element
abbrev short-name : List ℕ
short-name = 0x10 ∷ 0x00 ∷ []

abbrev medium-name : List ℕ
medium-name = 0x11 ∷ 0x00 ∷ []

record Elements : Type 0 where
  unknown : same_element 2 [] [] 0x28 (0x7F ∷ 0x00 ∷ []) [] ≡ true
  named : same_element 2 [] [] 0x28 short-name [] ≡ false
  turned : same_children 1 [] (short-name ++ medium-name) [] (medium-name ++ short-name) ≡ false
  tabled : same_children 1 [] (0x04 ∷ 0x00 ∷ short-name) [] short-name ≡ true

elements : Elements
unfolding same_element same_children same_each children_in children_within opens is_child is_known is_items same_sets same_from same_found same_maybe same_text known rows kind_in attribute counted_of_tag counted_body body_of_tag body_by span_of_tag span_within header_size body_size
elements = record { unknown = refl; named = refl; turned = refl; tabled = refl }

pub unknown-differs : same_element 2 [] [] 0x28 (0x7F ∷ 0x00 ∷ []) [] ≡ false → ⊥
unknown-differs h = true≢false (sym elements.unknown ∙ h)

pub name-unseen : same_element 2 [] [] 0x28 short-name [] ≡ true → ⊥
name-unseen h = false≢true (sym elements.named ∙ h)

pub order-unseen : same_children 1 [] (short-name ++ medium-name) [] (medium-name ++ short-name) ≡ true → ⊥
order-unseen h = false≢true (sym elements.turned ∙ h)

pub table-as-child : same_children 1 [] (0x04 ∷ 0x00 ∷ short-name) [] short-name ≡ false → ⊥
table-as-child h = true≢false (sym elements.tabled ∙ h)
