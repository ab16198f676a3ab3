-- An object without a token table has no entries in force, and a normal form has none.
use mathlib.Core.Path.{◌≡◌, refl, sym, ap, ap₂, ◌∙◌, subst}
use mathlib.Core.Bool.{Bool, true, false, cond, ◌&&◌, false≢true}
use mathlib.Core.Option.{Option, none, some-ne-none}
use mathlib.Core.List.{List, [], ◌∷◌}
use Prim.Native.Nat.{ℕ, ◌+◌}
use lib.Dec.{eqb}
use lib.ListN.{take, drop}
use Rattle.octets.specs.Numbers.{Octets}
use Rattle.octets.specs.Places.{is_whole, first_body, after_first}
use Rattle.octets.proofs.Tests.{and_left, and_right}
use Rattle.text.specs.Tokens.{Entries}
use Rattle.values.specs.Table.{attribute}
use Rattle.values.proofs.Known.{items-tag, plain-tag}
use Rattle.values.proofs.DefaultValues.{element-keeps}
use Rattle.format.specs.Tree.{Items, find}
use Rattle.format.specs.Tree.Items.{end, item}
use Rattle.format.specs.Judge.{is_items, is_top, judge}
use Rattle.format.specs.Judge.Judged.{accepted}
use Rattle.format.specs.Meaning.{table_in, table_of, normal_of}
use Rattle.format.proofs.Force.{attribute-four, swap-eqb}
use Rattle.survey.specs.Normal.{written_as}
use Rattle.compare.specs.Normal.{is_shortest, is_written, is_rising, shaped}
use Rattle.compare.proofs.Shaping.{own_shape, shaped-item}
use Rattle.compare.proofs.Normalising.{shaped-exactly}
use Rattle.grammar.specs.Grammar.{Part, Begins, Inside}
use Rattle.grammar.specs.Grammar.Part.{attributes, table, language, elements, cdata, nothing}
use Rattle.grammar.specs.Grammar.Inside.{known_attribute, unknown_attribute, attributes_of_top, attributes_of_other, some_table, no_table, some_language, no_language, held_element, plain_element, unknown_element, no_element, some_cdata, no_cdata, filled}
use Rattle.grammar.proofs.Headers.{begun}
use Rattle.grammar.proofs.Tags.{top-items}
use Rattle.grammar.proofs.Complete.{complete}

-- the body of the token table in the top of a tree
abbrev pub table_item : Items → Option (List ℕ)
table_item end = none
table_item (item tag at body inside after) = find 4 inside

pub no-entries : (t : Items) → table_item t ≡ none → table_of t ≡ []
unfolding table_of table_in
no-entries end h = refl
no-entries (item tag at body inside after) h = rw h

-- the token table is still to come
abbrev pub awaits : Part → ℕ → Bool
awaits attributes e = is_top e
awaits table e = true
awaits language e = false
awaits elements e = false
awaits cdata e = false
awaits nothing e = false

-- no attribute may come any more, and the table has come
abbrev pub behind : Part → Bool
behind attributes = false
behind table = false
behind language = true
behind elements = true
behind cdata = true
behind nothing = true

find_past : (tag at : ℕ) (body : List ℕ) (s u : Items) → eqb tag 4 ≡ false → find 4 (item tag at body s u) ≡ find 4 u
unfolding find
find_past tag at body s u n = rw (swap-eqb tag 4 n)

table-there : (at : ℕ) (body : List ℕ) (s u : Items) → find 4 (item 4 at body s u) ≡ none → ⊥
unfolding find
table-there at body s u h = some-ne-none body h

-- ---- without a table no entries are in force

pub no-tokens : {T : Entries} {p : Part} {e d at : ℕ} {o : List ℕ} {u : Items} → Inside T p e d at o u → awaits p e ≡ true → find 4 u ≡ none → T ≡ []
no-tokens (known_attribute {at = at} {start = start} {tag = tag} {body = body} {u = u} b a k v f i) w h =
    no-tokens i w (sym (find_past tag (at + start) body end u (attribute-four tag a)) ∙ h)
no-tokens (unknown_attribute b a k i) w h = no-tokens i w h
no-tokens (attributes_of_top t i) w h = no-tokens i refl h
no-tokens (attributes_of_other t i) w h = absurd (false≢true (sym t ∙ w))
no-tokens (some_table {at = at} {start = start} {body = body} {u = u} b x y i) w h = absurd (table-there (at + start) body end u h)
no-tokens (no_table x i) w h = x
no-tokens (some_language b x i) w h = absurd (false≢true w)
no-tokens (no_language i) w h = absurd (false≢true w)
no-tokens (held_element b c l k i j) w h = absurd (false≢true w)
no-tokens (plain_element b c l k i) w h = absurd (false≢true w)
no-tokens (unknown_element b c l k i) w h = absurd (false≢true w)
no-tokens (no_element i) w h = absurd (false≢true w)
no-tokens (some_cdata b x l i) w h = absurd (false≢true w)
no-tokens (no_cdata i) w h = absurd (false≢true w)
no-tokens (filled x y) w h = absurd (false≢true w)

-- ---- behind the place of the table there is none

none-behind : {T : Entries} {p : Part} {e d at : ℕ} {o : List ℕ} {u : Items} → Inside T p e d at o u → behind p ≡ true → find 4 u ≡ none
unfolding find
none-behind (known_attribute b a k v f i) w = absurd (false≢true w)
none-behind (unknown_attribute b a k i) w = absurd (false≢true w)
none-behind (attributes_of_top t i) w = absurd (false≢true w)
none-behind (attributes_of_other t i) w = absurd (false≢true w)
none-behind (some_table b x y i) w = absurd (false≢true w)
none-behind (no_table x i) w = absurd (false≢true w)
none-behind (some_language b x i) w = none-behind i refl
none-behind (no_language i) w = none-behind i refl
none-behind (held_element {at = at} {start = start} {tag = tag} {body = body} {s = s} {u = u} b c l k i j) w =
    find_past tag (at + start) body s u (items-tag tag k).not_table ∙ none-behind j refl
none-behind (plain_element {at = at} {start = start} {tag = tag} {body = body} {u = u} b c l k i) w =
    find_past tag (at + start) body end u (plain-tag tag k).not_table ∙ none-behind i refl
none-behind (unknown_element b c l k i) w = none-behind i refl
none-behind (no_element i) w = none-behind i refl
none-behind (some_cdata b x l i) w = none-behind i refl
none-behind (no_cdata i) w = none-behind i refl
none-behind (filled x y) w = ap (find 4) y

-- ---- a normal form has no table

-- what is in normal form from an item on: the item is written, and what is inside it and behind it is in normal form
record Formed (p last tag : ℕ) (body rest : List ℕ) : Type 0 where
  written : is_written (written_as p tag body) body ≡ true
  inside : cond (is_items (written_as p tag body)) (shaped tag 0x7F body) true ≡ true
  later : shaped p (cond (attribute tag) tag last) rest ≡ true

formed : (p last tag start : ℕ) (body rest o : List ℕ) → Begins tag body rest o start → shaped p last o ≡ true → Formed p last tag body rest
formed p last tag start body rest o b h =
    let g = begun tag start body rest o b in
    let s = tag ∷ g.0 in
    let body_is : first_body s ≡ body = ap₂ (λ n m. take n (drop m s)) g.2.size g.2.header ∙ g.2.inside in
    let rest-is : after_first s ≡ rest = ap₂ (λ n m. drop n (drop m s)) g.2.size g.2.header ∙ g.2.after in
    let kind = written_as p tag (first_body s) in
    let inner = cond (is_items kind) (shaped tag 0x7F (first_body s)) true in
    let more = shaped p (cond (attribute tag) tag last) (after_first s) in
    let all : own_shape p last tag s && inner && more ≡ true = sym (shaped-item p last tag g.0) ∙ (sym (ap (shaped p last) g.1) ∙ h) in
    let own = and_left (own_shape p last tag s) inner (and_left (own_shape p last tag s && inner) more all) in
    record {
      written = subst (λ x. is_written (written_as p tag x) x ≡ true) body_is (and_right (is_whole s && is_shortest s && is_rising last tag) (is_written kind (first_body s)) own);
      inside = subst (λ x. cond (is_items (written_as p tag x)) (shaped tag 0x7F x) true ≡ true) body_is (and_right (own_shape p last tag s) inner (and_left (own_shape p last tag s && inner) more all));
      later = subst (λ x. shaped p (cond (attribute tag) tag last) x ≡ true) rest-is (and_right (own_shape p last tag s && inner) more all);
    }

unwritten : (p : ℕ) (body : List ℕ) → is_written (written_as p 4 body) body ≡ true → ⊥
unfolding is_written written_as
unwritten p body h = false≢true h

normal-none : {T : Entries} {p : Part} {e d at : ℕ} {o : List ℕ} {u : Items} (last : ℕ) → Inside T p e d at o u → awaits p e ≡ true → shaped e last o ≡ true → find 4 u ≡ none
normal-none {e = e} {o = o} last (known_attribute {at = at} {start = start} {tag = tag} {body = body} {rest = rest} {u = u} b a k v f i) w h =
    find_past tag (at + start) body end u (attribute-four tag a) ∙ normal-none (cond (attribute tag) tag last) i w (formed e last tag start body rest o b h).later
normal-none {e = e} {o = o} last (unknown_attribute {start = start} {tag = tag} {body = body} {rest = rest} b a k i) w h =
    normal-none (cond (attribute tag) tag last) i w (formed e last tag start body rest o b h).later
normal-none last (attributes_of_top t i) w h = normal-none last i refl h
normal-none last (attributes_of_other t i) w h = absurd (false≢true (sym t ∙ w))
normal-none {e = e} {o = o} last (some_table {start = start} {body = body} {rest = rest} b x y i) w h =
    absurd (unwritten e body (formed e last 4 start body rest o b h).written)
normal-none last (no_table x i) w h = none-behind i refl
normal-none last (some_language b x i) w h = absurd (false≢true w)
normal-none last (no_language i) w h = absurd (false≢true w)
normal-none last (held_element b c l k i j) w h = absurd (false≢true w)
normal-none last (plain_element b c l k i) w h = absurd (false≢true w)
normal-none last (unknown_element b c l k i) w h = absurd (false≢true w)
normal-none last (no_element i) w h = absurd (false≢true w)
normal-none last (some_cdata b x l i) w h = absurd (false≢true w)
normal-none last (no_cdata i) w h = absurd (false≢true w)
normal-none last (filled x y) w h = absurd (false≢true w)

-- the top is written as what it is
top-written : (tag : ℕ) (body : List ℕ) → is_top tag ≡ true → is_items (written_as 0 tag body) ≡ true
unfolding written_as is_items
top-written tag body t =
    let k = top-items tag t in
    rw ((items-tag tag k).not_table, element-keeps 0 tag body (items-tag tag k).not_attribute, k)

pub normal-bare : (o : List ℕ) (t : Items) → Octets o → judge o ≡ accepted t → normal_of t ≡ o → table_item t ≡ none
normal-bare o t os h e =
    let a = complete o t os h in
    let f = formed 0 0x7F a.tag a.start a.body [] o a.whole ((shaped-exactly o t os h).1 e) in
    let inside : shaped a.tag 0x7F a.body ≡ true = subst (λ b. cond b (shaped a.tag 0x7F a.body) true ≡ true) (top-written a.tag a.body a.top) f.inside in
    subst (λ x. table_item x ≡ none) (sym a.tree) (normal-none 0x7F a.holds a.top inside)
