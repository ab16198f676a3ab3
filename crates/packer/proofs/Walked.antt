-- The walk over headers: the ways of `collect_one` and the loop of `collect`.
use Rattle.std.specs.Prelude.{Some, None, Option as Optional}
use mathlib.Core.Path.{◌≡◌, refl, sym, ap, ap₂, subst, ◌∙◌}
use mathlib.Core.Bool.{Bool, true, false, cond, false≢true}
use mathlib.Core.Option.{Option, none, some}
use mathlib.Core.List.{List, [], ◌∷◌, ◌++◌, append_assoc, append-nil}
use Prim.Native.Nat.{ℕ, ◌+◌, ◌-◌, ◌≤◌, ◌<◌}
use native.Mathlib.Omega.{arith}
use lib.ListN.{length, get_or, take, drop, length-drop, drop_of_length-le, take-append-drop}
use lib.Seq.{drop-drop}
use borrow.Author.Tests.{leb-false}
use Rattle.octets.specs.Numbers.{Octets}
use Rattle.octets.specs.Header.{header_size, body_size}
use Rattle.values.specs.declared.Kind.{Kind}
use Rattle.values.specs.Table.{known}
use Rattle.format.specs.Tree.{Items}
use Rattle.format.specs.Judge.{is_items, is_text, judge}
use Rattle.format.specs.Judge.Judged.{accepted}
use Rattle.octets.specs.Places.{first_body, after_first, from_to}
use Rattle.grammar.specs.Grammar.{Begins}
use Rattle.grammar.proofs.Headers.{Begun, begun}
use Rattle.octets.specs.Places.{lies_at}
use Rattle.octets.proofs.Places.{Lying, lying, not-whole, bounds, to_inside, ordered, body_is, later-is, tag-is}
use Rattle.octets.specs.declared.Lies.{Lies}
use Rattle.fold.specs.Words.{pieces, words_among, words_in}
use Rattle.packer.specs.declared.collecting.Sort.{Sort}
use Rattle.packer.specs.declared.collecting.Cursor.{Cursor}
use Rattle.packer.specs.Counting.{words_from}
use Rattle.packer.specs.Walking.{words_of, Flat}
use Rattle.packer.specs.Walking.Flat.{stop, enter, pass}
use Rattle.packer.specs.Collecting.{sort_of, Holding, Notes, Collecting, Steps, Collected}
use Rattle.packer.proofs.Flattened.{flat-words}

-- ---- one item of octets with words

record Step (p : ℕ) (s : List ℕ) (ws : List (List ℕ)) : Type 0 where
  whole : header_size s + body_size s ≤ length s
  items : is_items (known p (get_or s 0 0)) ≡ true → Flat (get_or s 0 0) (drop (header_size s) s) ws
  other : is_items (known p (get_or s 0 0)) ≡ false → (more : List (List ℕ)) × (ws ≡ words_of (known p (get_or s 0 0)) (first_body s) ++ more) × Flat p (after_first s) more

-- what the beginning of octets says of them
record Front (tag : ℕ) (body rest s : List ℕ) : Type 0 where
  tag_is : get_or s 0 0 ≡ tag
  whole : header_size s + body_size s ≤ length s
  body_is : first_body s ≡ body
  later_is : after_first s ≡ rest
  behind_is : drop (header_size s) s ≡ body ++ rest

front : {tag start : ℕ} {body rest s : List ℕ} → Begins tag body rest s start → Front tag body rest s
front {tag} {start} {body} {rest} {s} b =
    let g = begun tag start body rest s b in
    subst (λ x. Front tag body rest x) (sym g.1) (made g.0 g.2)
  where
    made : (behind : List ℕ) → Begun tag body rest behind start → Front tag body rest (tag ∷ behind)
    made behind g =
        let x : take (body_size (tag ∷ behind)) (drop (header_size (tag ∷ behind)) (tag ∷ behind)) ≡ body = rw (g.header, g.size) g.inside in
        let y : drop (body_size (tag ∷ behind)) (drop (header_size (tag ∷ behind)) (tag ∷ behind)) ≡ rest = rw (g.header, g.size) g.after in
        record {
          tag_is = refl;
          whole = omega (arith, g.header, g.size, g.room);
          body_is = x;
          later_is = y;
          behind_is = sym (take-append-drop (body_size (tag ∷ behind)) (drop (header_size (tag ∷ behind)) (tag ∷ behind))) ∙ ap₂ ◌++◌ x y;
        }

flat_step : {p : ℕ} {s : List ℕ} {ws : List (List ℕ)} → Flat p s ws → 0 < length s → Step p s ws
flat_step {p} {s} {ws} (stop x y) h = absurd (omega (arith, ap length x))
flat_step {p} {s} {ws} (enter {tag = tag} {body = body} {rest = rest} b k f) h =
    let g = front b in
    record {
      whole = g.whole;
      items = λ q. subst (λ n. Flat n (drop (header_size s) s) ws) (sym g.tag_is) (subst (λ o. Flat tag o ws) (sym g.behind_is) f);
      other = λ q. absurd (false≢true (sym q ∙ (ap (λ n. is_items (known p n)) g.tag_is ∙ k)));
    }
flat_step {p} {s} {ws = all} (pass {tag = tag} {body = body} {rest = rest} {ws = ws} b k f e) h =
    let g = front b in
    record {
      whole = g.whole;
      items = λ q. absurd (false≢true (sym k ∙ (ap (λ n. is_items (known p n)) (sym g.tag_is) ∙ q)));
      other = λ q. (ws, e ∙ ap₂ (λ n o. words_of (known p n) o ++ ws) (sym g.tag_is) (sym g.body_is), subst (λ o. Flat p o ws) (sym g.later_is) f);
    }

-- ---- what an answer of `sort_of` says

abbrev Says : Option Kind → Sort → Type 0
Says k Sort.Nothing = (is_items k ≡ false) × (is_text k ≡ false)
Says k Sort.Items = is_items k ≡ true
Says k Sort.Text = (is_items k ≡ false) × (is_text k ≡ true)
Says k Sort.Plain = (is_items k ≡ false) × (is_text k ≡ false)

says : (k : Option Kind) → Says k (sort_of k)
unfolding sort_of is_items is_text
says none = (refl, refl)
says (some k) = go (is_items (some k)) (is_text (some k)) refl refl
  where
    go : (a b : Bool) → is_items (some k) ≡ a → is_text (some k) ≡ b → Says (some k) (cond a Sort.Items (cond b Sort.Text Sort.Plain))
    go true b x y = x
    go false true x y = (x, y)
    go false false x y = (x, y)

-- ---- the ways of `collect_one`

module _ (object starts sizes : List ℕ) (c : Cursor) (v : Collecting object starts sizes c) (h : c.at < length object) (l : Optional Lies)
    (e : l ≡ lies_at object c.at) where
  abbrev at : ℕ
  at = c.at

  here : (t : Items) (os : Octets object) (j : judge object ≡ accepted t) → Step c.parent (drop at object) (v.goes t os j).rest
  here t os j = flat_step (v.goes t os j).flat (omega (arith, length-drop at object))

  pub step-outside : l ≡ None → Steps object starts sizes c starts sizes (record { at = length object; parent = c.parent; count = c.count })
  step-outside q = record {
    state = record {
      inside = omega arith;
      holds = let w = v.holds in record { small = w.small; few = omega (arith, w.few); begins = w.begins; long = w.long; noted = w.noted };
      goes = λ t os j. absurd (omega (arith, (here t os j).whole, leb-false (header_size (drop at object) + body_size (drop at object)) (length (drop at object)) (not-whole object at l e q)));
    };
    onward = h;
    begins = refl;
    long = refl;
  }

  module _ (from to : ℕ) (q : l ≡ Some (from_to from to)) where
    lies : Lying object at from to
    lies = lying object at l e from to q

    pub step-ordered : from ≤ to
    step-ordered = ordered lies v.inside

    pub step-inside : to ≤ length object
    step-inside = to_inside lies v.inside

    onward : (at < from) × (from ≤ to)
    onward = let b = bounds lies v.inside in (omega (arith, b.0), b.1)

    abbrev tag : ℕ
    tag = get_or object at 0

    module _ (s : Sort) (es : s ≡ sort_of (known c.parent tag)) where
      told : Says (known c.parent tag) s
      told = subst (Says (known c.parent tag)) (sym es) (says (known c.parent tag))

      -- the words go on behind the item
      behind-item : (is_items (known c.parent tag) ≡ false) → (t : Items) (os : Octets object) (j : judge object ≡ accepted t)
          → (more : List (List ℕ)) × ((v.goes t os j).rest ≡ words_of (known c.parent tag) (take (to - from) (drop from object)) ++ more) × Flat c.parent (drop to object) more
      behind-item i t os j =
          let x = here t os j in
          let k = tag-is lies v.inside in
          let o = x.other (ap (λ n. is_items (known c.parent n)) k ∙ i) in
          (o.0, o.1 ∙ ap₂ (λ n b. words_of (known c.parent n) b ++ o.0) k (body_is lies v.inside), subst (λ r. Flat c.parent r o.0) (later-is lies v.inside) o.2)

      passed : is_items (known c.parent tag) ≡ false → is_text (known c.parent tag) ≡ false
          → Steps object starts sizes c starts sizes (record { at = to; parent = c.parent; count = c.count })
      unfolding words_of
      passed i x = record {
        state = record {
          inside = step-inside;
          holds = let w = v.holds in record { small = w.small; few = omega (arith, w.few, onward); begins = w.begins; long = w.long; noted = w.noted };
          goes = λ t os j.
              let b = behind-item i t os j in
              record { rest = b.0; flat = b.2; words = (v.goes t os j).words ∙ ap (λ r. words_from object starts sizes 0 c.count ++ r) (b.1 ∙ rw x) };
        };
        onward = omega (arith, onward);
        begins = refl;
        long = refl;
      }

      pub step-nothing : s ≡ Sort.Nothing → Steps object starts sizes c starts sizes (record { at = to; parent = c.parent; count = c.count })
      step-nothing z = let w = subst (Says (known c.parent tag)) z told in passed w.0 w.1

      pub step-plain : s ≡ Sort.Plain → Steps object starts sizes c starts sizes (record { at = to; parent = c.parent; count = c.count })
      step-plain z = let w = subst (Says (known c.parent tag)) z told in passed w.0 w.1

      pub step-items : s ≡ Sort.Items → Steps object starts sizes c starts sizes (record { at = from; parent = tag; count = c.count })
      step-items z = record {
        state = record {
          inside = omega (arith, step-ordered, step-inside);
          holds = let w = v.holds in record { small = w.small; few = omega (arith, w.few, onward); begins = w.begins; long = w.long; noted = w.noted };
          goes = λ t os j.
              let g = v.goes t os j in
              let k = tag-is lies v.inside in
              let i : is_items (known c.parent (get_or (drop at object) 0 0)) ≡ true = ap (λ n. is_items (known c.parent n)) k ∙ subst (Says (known c.parent tag)) z told in
              let d : drop (header_size (drop at object)) (drop at object) ≡ drop from object = drop-drop (header_size (drop at object)) at object ∙ ap (λ n. drop n object) (sym lies.begins) in
              record { rest = g.rest; flat = subst (λ n. Flat n (drop from object) g.rest) k (subst (λ r. Flat (get_or (drop at object) 0 0) r g.rest) d ((here t os j).items i)); words = g.words };
        };
        onward = onward.0;
        begins = refl;
        long = refl;
      }

      pub step-holds : Holding object starts sizes c.count from
      step-holds = let w = v.holds in record { small = w.small; few = omega (arith, w.few, onward); begins = w.begins; long = w.long; noted = w.noted }

      pub step-text : s ≡ Sort.Text → (starts' sizes' : List ℕ) (n : ℕ) → Notes object starts sizes c.count starts' sizes' n to (words_among (pieces [] (take (to - from) (drop from object))))
          → Steps object starts sizes c starts' sizes' (record { at = to; parent = c.parent; count = n })
      unfolding words_of
      step-text z starts' sizes' n k =
          let w = subst (Says (known c.parent tag)) z told in
          record {
            state = record {
              inside = step-inside;
              holds = k.holds;
              goes = λ t os j.
                  let b = behind-item w.0 t os j in
                  record {
                    rest = b.0;
                    flat = b.2;
                    words = (v.goes t os j).words ∙ (ap (λ r. words_from object starts sizes 0 c.count ++ r) (b.1 ∙ rw w.1)
                        ∙ (sym (append_assoc (words_from object starts sizes 0 c.count) (words_among (pieces [] (take (to - from) (drop from object)))) b.0) ∙ ap (λ r. r ++ b.0) (sym k.words)));
                  };
            };
            onward = omega (arith, onward);
            begins = k.begins;
            long = k.long;
          }

pub ruleset step-ways = (step-outside, step-text)

-- ---- the loop of `collect`

module _ (object starts sizes : List ℕ) where
  pub collect-begin : length object ≤ 32_768 → 8_192 ≤ length starts → 8_192 ≤ length sizes → Collecting object starts sizes (record { at = 0; parent = 0; count = 0 })
  unfolding words_from
  collect-begin h a b = record {
    inside = omega arith;
    holds = record { small = h; few = omega arith; begins = a; long = b; noted = record { few = omega arith; begins = omega arith; long = omega arith; inside = λ j p. absurd (omega arith); short = λ j p. absurd (omega arith) } };
    goes = λ t os j. record { rest = words_in 0 t; flat = flat-words object t os j; words = refl };
  }

  pub collect-done : (c : Cursor) → Collecting object starts sizes c → length object ≤ c.at → Collected object starts sizes c.count
  collect-done c v h = record {
    few = omega (arith, v.holds.few, v.holds.small, v.inside);
    noted = v.holds.noted;
    words = λ t os j.
        let g = v.goes t os j in
        let e : g.rest ≡ [] = flat-end (subst (λ o. Flat c.parent o g.rest) (drop_of_length-le object h) g.flat) in
        sym (g.words ∙ (ap (λ r. words_from object starts sizes 0 c.count ++ r) e ∙ append-nil (words_from object starts sizes 0 c.count)));
  }
    where
      begins-some : {tag start : ℕ} {body rest o : List ℕ} → Begins tag body rest o start → o ≡ [] → ⊥
      begins-some {tag} {start} {body} {rest} {o} b x = omega (arith, ap length (sym x ∙ (begun tag start body rest o b).1))

      flat-end : {p : ℕ} {ws : List (List ℕ)} → Flat p [] ws → ws ≡ []
      flat-end (stop x y) = y
      flat-end (enter b k f) = absurd (begins-some b refl)
      flat-end (pass b k f e) = absurd (begins-some b refl)

pub ruleset collect-ways = (collect-begin, collect-done)
