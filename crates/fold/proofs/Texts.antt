-- A folded text: expanded, it is the text again, whatever words are folded; and it is valid text, of which each token octet has an entry.
use mathlib.Core.Path.{◌≡◌, refl, sym, ap, ◌∙◌}
use mathlib.Core.Bool.{Bool, true, false, cond, not, ◌||◌, false≢true, or-true}
use mathlib.Core.Option.{Option, none, some, some-injective, none-ne-some}
use mathlib.Core.List.{List, [], ◌∷◌, ◌++◌, append_assoc, append-nil}
use Prim.Native.Nat.{ℕ, zero, suc, ◌+◌, ◌*◌, ◌/◌, ◌%◌}
use native.Mathlib.Omega.{arith}
use lib.Dec.{eqb, leb, ltb}
use borrow.Author.Tests.{eqb-true}
use Rattle.octets.specs.Counts.{as_characters}
use Rattle.octets.proofs.Tests.{and_left, and_right, and-true, and-map, cond_map}
use Rattle.text.specs.Text.{layout, token, character, single, goes_on, utf8, text}
use Rattle.text.specs.Tokens.{Entries, entry, or_itself, stands, expanded, present, covers, covered, starts, shown_length}
use Rattle.text.proofs.Words.{expanded-empty}
use Rattle.text.proofs.Sequences.{token-facts, utf8-zero, text-low}
use Rattle.text.proofs.Laws.{ascii-text, expanded-append, bare-expanded}
use Rattle.format.specs.Same.{same_octets}
use Rattle.fold.specs.Words.{letter, all_letters, pieces, is_word}
use Rattle.fold.specs.Packed.{tokens, entries_of, tag_of, or_word, tagged, tagged_all, folded}
use Rattle.format.proofs.Same.{same-octets}
use Rattle.fold.proofs.Tables.{letter-bounds, letters-text, Each, each-token}

-- ---- expansion

covered-join : (T : Entries) (a b : List ℕ) → covered T a ≡ true → covered T b ≡ true → covered T (a ++ b) ≡ true
unfolding covered
covered-join T [] b h g = g
covered-join T (x ∷ a) b h g = and-true (covers T x) (covered T (a ++ b)) (and_left (covers T x) (covered T a) h) (covered-join T a b (and_right (covers T x) (covered T a) h) g)

-- the tag of a word stands for it
tag-stands : (T : Entries) (t : ℕ) (w : List ℕ) → token t ≡ true → entry T t ≡ some w → expanded T (t ∷ []) ≡ w
unfolding expanded stands or_itself
tag-stands T t w h e = rw (h, e) (append-nil w)

-- what is found has an entry of that text
tag-found : (T es : Entries) (n : ℕ) → Each T n es → (w : List ℕ) (t : ℕ) → tag_of es w ≡ some t → (token t ≡ true) × (entry T t ≡ some w)
unfolding tag_of
tag-found T [] n a w t h = absurd (none-ne-some t h)
tag-found T (e ∷ es) n a w t h = go (tag-found T es n a.3 w t) (same_octets e.1 w) refl h
  where
    go : (tag_of es w ≡ some t → (token t ≡ true) × (entry T t ≡ some w)) → (b : Bool) → same_octets e.1 w ≡ b → cond b (some e.0) (tag_of es w) ≡ some t → (token t ≡ true) × (entry T t ≡ some w)
    go ih true q r =
        let x : e.0 ≡ t = some-injective e.0 t r in
        (ap token (sym x) ∙ a.1, ap (entry T) (sym x) ∙ (a.2 ∙ ap some (same-octets e.1 w q)))
    go ih false q r = ih r

-- a piece as it is, or the tag of an entry with its text
tagged-ways : (C : List ℕ → Type 0) (T : Entries) → Each T 0 T → (w : List ℕ) → C w → ((t : ℕ) → token t ≡ true → entry T t ≡ some w → C (t ∷ [])) → C (tagged T w)
unfolding tagged or_word
tagged-ways C T a w stays tags = go (is_word w) (tag_of T w) refl
  where
    go : (b : Bool) (o : Option ℕ) → tag_of T w ≡ o → C (cond b (or_word o w) w)
    go false o q = stays
    go true none q = stays
    go true (some t) q = let f = tag-found T T 0 a w t q in tags t f.0 f.1

tagged-expanded : (T : Entries) → Each T 0 T → (w : List ℕ) → covered [] w ≡ true → expanded T (tagged T w) ≡ w
tagged-expanded T a w c = tagged-ways (λ x. expanded T x ≡ w) T a w (bare-expanded T w c) (λ t h e. tag-stands T t w h e)

pieces-expanded : (T : Entries) → Each T 0 T → (o run : List ℕ) → covered [] run ≡ true → covered [] o ≡ true → expanded T (tagged_all T (pieces run o)) ≡ run ++ o
unfolding pieces tagged_all covered
pieces-expanded T a [] run r c = rw (append-nil (tagged T run), append-nil run) (tagged-expanded T a run r)
pieces-expanded T a (b ∷ o) run r c =
    go (letter b) (λ run' r'. pieces-expanded T a o run' r' (and_right (covers [] b) (covered [] o) c))
  where
    one : covered [] (b ∷ []) ≡ true
    one = and-true (covers [] b) true (and_left (covers [] b) (covered [] o) c) refl

    go : (l : Bool) → ((run' : List ℕ) → covered [] run' ≡ true → expanded T (tagged_all T (pieces run' o)) ≡ run' ++ o)
        → expanded T (tagged_all T (cond l (pieces (run ++ (b ∷ [])) o) (run ∷ (b ∷ []) ∷ pieces [] o))) ≡ run ++ (b ∷ o)
    go true ih = ih (run ++ (b ∷ [])) (covered-join [] run (b ∷ []) r one) ∙ append_assoc run (b ∷ []) o
    go false ih =
        rw (expanded-append T (tagged T run) (tagged T (b ∷ []) ++ tagged_all T (pieces [] o)), expanded-append T (tagged T (b ∷ [])) (tagged_all T (pieces [] o)), tagged-expanded T a run r, tagged-expanded T a (b ∷ []) one, ih [] refl)

-- expanding the folded text gives the text, whatever words are folded
pub folded-expanded : (ws : List (List ℕ)) (o : List ℕ) → covered [] o ≡ true → expanded (entries_of tokens ws) (folded (entries_of tokens ws) o) ≡ o
unfolding folded covered
folded-expanded ws o c = pieces-expanded (entries_of tokens ws) (each-token ws) o [] refl c

-- so just as much of it is shown
pub folded-shown : (ws : List (List ℕ)) (o : List ℕ) → covered [] o ≡ true → shown_length (entries_of tokens ws) (folded (entries_of tokens ws) o) ≡ shown_length [] o
unfolding shown_length
folded-shown ws o c = ap (λ x. as_characters (starts x)) (folded-expanded ws o c ∙ sym (expanded-empty o))

-- ---- rule 12

bare-covers : (T : Entries) (b : ℕ) → covers [] b ≡ true → covers T b ≡ true
unfolding covers present entry
bare-covers T b h = go (token b) h
  where
    go : (t : Bool) → not t || false ≡ true → not t || present (entry T b) ≡ true
    go true q = absurd (false≢true q)
    go false q = refl

bare-covered : (T : Entries) (o : List ℕ) → covered [] o ≡ true → covered T o ≡ true
unfolding covered
bare-covered T [] h = refl
bare-covered T (b ∷ o) h =
    and-true (covers T b) (covered T o) (bare-covers T b (and_left (covers [] b) (covered [] o) h)) (bare-covered T o (and_right (covers [] b) (covered [] o) h))

tag-covered : (T : Entries) (t : ℕ) (w : List ℕ) → entry T t ≡ some w → covered T (t ∷ []) ≡ true
unfolding covered covers present
tag-covered T t w e = rw e (and-true (not (token t) || true) true (or-true (not (token t))) refl)

tagged-covered : (T : Entries) → Each T 0 T → (w : List ℕ) → covered [] w ≡ true → covered T (tagged T w) ≡ true
tagged-covered T a w c = tagged-ways (λ x. covered T x ≡ true) T a w (bare-covered T w c) (λ t h e. tag-covered T t w e)

pieces-covered : (T : Entries) → Each T 0 T → (o run : List ℕ) → covered [] run ≡ true → covered [] o ≡ true → covered T (tagged_all T (pieces run o)) ≡ true
unfolding pieces tagged_all covered
pieces-covered T a [] run r c = rw (append-nil (tagged T run)) (tagged-covered T a run r)
pieces-covered T a (b ∷ o) run r c =
    go (letter b) (λ run' r'. pieces-covered T a o run' r' (and_right (covers [] b) (covered [] o) c))
  where
    one : covered [] (b ∷ []) ≡ true
    one = and-true (covers [] b) true (and_left (covers [] b) (covered [] o) c) refl

    go : (l : Bool) → ((run' : List ℕ) → covered [] run' ≡ true → covered T (tagged_all T (pieces run' o)) ≡ true)
        → covered T (tagged_all T (cond l (pieces (run ++ (b ∷ [])) o) (run ∷ (b ∷ []) ∷ pieces [] o))) ≡ true
    go true ih = ih (run ++ (b ∷ [])) (covered-join [] run (b ∷ []) r one)
    go false ih =
        covered-join T (tagged T run) (tagged T (b ∷ []) ++ tagged_all T (pieces [] o)) (tagged-covered T a run r)
        (covered-join T (tagged T (b ∷ [])) (tagged_all T (pieces [] o)) (tagged-covered T a (b ∷ []) one) (ih [] refl))

pub folded-covered : (ws : List (List ℕ)) (o : List ℕ) → covered [] o ≡ true → covered (entries_of tokens ws) (folded (entries_of tokens ws) o) ≡ true
unfolding folded covered
folded-covered ws o c = pieces-covered (entries_of tokens ws) (each-token ws) o [] refl c

-- ---- rule 10

-- a piece that is no word stays
pub tagged-other : (T : Entries) (w : List ℕ) → is_word w ≡ false → tagged T w ≡ w
unfolding tagged
tagged-other T w n = rw n

token-text : (t : ℕ) (s : List ℕ) → token t ≡ true → text true (t ∷ s) ≡ text true s
unfolding single
token-text t s h = text-low true t s (omega (arith, (token-facts t h).1)) ∙ rw (h, or-true (leb 0x20 t || layout t))

-- a run of letters, or its tag, before a text leaves it what it is
tagged-text : (T : Entries) → Each T 0 T → (w s : List ℕ) → all_letters w ≡ true → text true (tagged T w ++ s) ≡ text true s
tagged-text T a w s l = tagged-ways (λ x. text true (x ++ s) ≡ text true s) T a w (letters-text true w s l) (λ t h e. token-text t s h)

letters-more : (w : List ℕ) (b : ℕ) → all_letters w ≡ true → letter b ≡ true → all_letters (w ++ (b ∷ [])) ≡ true
unfolding all_letters
letters-more [] b h g = rw g
letters-more (a ∷ w) b h g = and-true (letter a) (all_letters (w ++ (b ∷ []))) (and_left (letter a) (all_letters w) h) (letters-more w b (and_right (letter a) (all_letters w) h) g)

module _ (T : Entries) (a : Each T 0 T) where
  -- what is left of a text, with a run of letters behind it that is not yet closed, at any place in a character
  abbrev Anew : List ℕ → Type 0
  Anew o = (more c least : ℕ) → utf8 false more c least o ≡ true → utf8 true more c least (tagged_all T (pieces [] o)) ≡ true

  abbrev OnRun : List ℕ → Type 0
  OnRun o = (run : List ℕ) → all_letters run ≡ true → text false o ≡ true → text true (tagged_all T (pieces run o)) ≡ true

  empty-piece : tagged T [] ≡ []
  unfolding is_word
  empty-piece = tagged-other T [] refl

  single-piece : (b : ℕ) → tagged T (b ∷ []) ≡ b ∷ []
  unfolding is_word
  single-piece b = tagged-other T (b ∷ []) refl

  -- one octet that is no letter
  single-plain : (b : ℕ) → single false b ≡ true → single true b ≡ true
  unfolding single
  single-plain b h = go (leb 0x20 b || layout b) h
    where
      go : (x : Bool) → x || false ≡ true → x || token b ≡ true
      go true q = refl
      go false q = absurd (false≢true q)

  other : (b : ℕ) (o : List ℕ) → Anew o → (more c least : ℕ) → utf8 false more c least (b ∷ o) ≡ true → utf8 true more c least (b ∷ tagged_all T (pieces [] o)) ≡ true
  unfolding utf8
  other b o ih zero c least h =
      let s = tagged_all T (pieces [] o) in
      cond_map (ltb b 0x80) _ _ _ _ (and-map (single false b) (utf8 false 0 0 0 o) (single true b) (utf8 true 0 0 0 s) (single-plain b) (ih 0 0 0))
      (cond_map (eqb (b / 32) 6) _ _ _ _ (ih 1 (b % 32) 0x80)
      (cond_map (eqb (b / 16) 14) _ _ _ _ (ih 2 (b % 16) 0x800)
      (cond_map (eqb (b / 8) 30) _ _ _ _ (ih 3 (b % 8) 0x10000) (λ q. q)))) h
  other b o ih (suc more) c least h =
      let s = tagged_all T (pieces [] o) in
      let d = c * 64 + b % 64 in
      and-map (goes_on more c least b) (utf8 false more d least o) (goes_on more c least b) (utf8 true more d least s) (λ q. q) (ih more d least) h

  -- a letter stands at the beginning of a character
  at-letter : (b : ℕ) (o : List ℕ) → letter b ≡ true → OnRun o → (more c least : ℕ) → utf8 false more c least (b ∷ o) ≡ true → utf8 true more c least (tagged_all T (pieces (b ∷ []) o)) ≡ true
  unfolding utf8 goes_on all_letters
  at-letter b o l ih zero c least h =
      let n = letter-bounds b l in
      let g : text false o ≡ true = sym (ascii-text false b o (omega (arith, n.0)) (omega (arith, n.1))) ∙ (sym (utf8-zero (b ∷ o) false c least) ∙ h) in
      utf8-zero (tagged_all T (pieces (b ∷ []) o)) true c least ∙ ih (b ∷ []) (rw l) g
  at-letter b o l ih (suc more) c least h =
      let n = letter-bounds b l in
      let g = and_left (eqb (b / 64) 2) (not (eqb more 0) || character least (c * 64 + b % 64)) (and_left (goes_on more c least b) (utf8 false more (c * 64 + b % 64) least o) h) in
      absurd (omega (arith, eqb-true (b / 64) 2 g, n.0, n.1))

  at-end : (more c least : ℕ) → utf8 false more c least [] ≡ true → utf8 true more c least [] ≡ true
  unfolding utf8
  at-end zero c least h = refl
  at-end (suc more) c least h = h

  both : (o : List ℕ) → Anew o × OnRun o
  unfolding pieces tagged_all text utf8
  both [] = (
    (λ more c least h. rw (append-nil (tagged T []), empty-piece) (at-end more c least h)),
    (λ run l h. tagged-text T a run [] l),
  )
  both (b ∷ o) = (λ more c least h. anew (both o) (letter b) refl more c least h, λ run l h. on_run (both o) (letter b) refl run l h)
    where
      anew : Anew o × OnRun o → (x : Bool) → letter b ≡ x → (more c least : ℕ) → utf8 false more c least (b ∷ o) ≡ true
          → utf8 true more c least (tagged_all T (cond x (pieces ([] ++ (b ∷ [])) o) ([] ∷ (b ∷ []) ∷ pieces [] o))) ≡ true
      anew ih true q more c least h = at-letter b o q ih.1 more c least h
      anew ih false q more c least h = rw (empty-piece, single-piece b) (other b o ih.0 more c least h)

      on_run : Anew o × OnRun o → (x : Bool) → letter b ≡ x → (run : List ℕ) → all_letters run ≡ true → text false (b ∷ o) ≡ true
          → text true (tagged_all T (cond x (pieces (run ++ (b ∷ [])) o) (run ∷ (b ∷ []) ∷ pieces [] o))) ≡ true
      on_run ih true q run l h =
          let n = letter-bounds b q in
          ih.1 (run ++ (b ∷ [])) (letters-more run b l q) (sym (ascii-text false b o (omega (arith, n.0)) (omega (arith, n.1))) ∙ h)
      on_run ih false q run l h =
          tagged-text T a run (tagged T (b ∷ []) ++ tagged_all T (pieces [] o)) l ∙ rw (single-piece b) (other b o ih.0 0 0 0 h)

pub folded-text : (ws : List (List ℕ)) (o : List ℕ) → text false o ≡ true → text true (folded (entries_of tokens ws) o) ≡ true
unfolding folded text
folded-text ws o h = (both (entries_of tokens ws) (each-token ws) o).0 0 0 0 h
