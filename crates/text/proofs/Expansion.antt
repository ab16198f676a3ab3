-- The expansion of a valid text by a valid table is valid text without token octets.
use mathlib.Core.Path.{◌≡◌, refl, sym, subst, ◌∙◌}
use mathlib.Core.Bool.{Bool, true, false, cond, not, ◌&&◌, ◌||◌, false≢true}
use mathlib.Core.Option.{Option, none, some, some-injective, none-ne-some}
use mathlib.Core.List.{List, [], ◌∷◌, ◌++◌}
use Prim.Native.Nat.{ℕ, zero, suc, ◌+◌, ◌*◌, ◌/◌, ◌%◌}
use native.Mathlib.Omega.{arith}
use lib.Dec.{eqb, leb, ltb}
use lib.ListN.{length, take, drop}
use borrow.Author.Tests.{lt-ltb}
use Rattle.octets.specs.Numbers.{among}
use Rattle.text.specs.Text.{token, single, goes_on, utf8, text}
use Rattle.text.specs.Tokens.{Entries, entries, cut, filled, is_table, entry, or_itself, stands, expanded, present, covers, covered, shown_length}
use Rattle.octets.proofs.Tests.{and_left, and_right, and-true, and-map, cond_map}
use Rattle.text.proofs.Words.{expanded-empty, later-octet}
use Rattle.text.proofs.Sequences.{token-facts, utf8-zero}

-- each entry of the table is valid text without token octets
abbrev pub Sound : Entries → Type 0
Sound table = (b : ℕ) (s : List ℕ) → entry table b ≡ some s → text false s ≡ true

pub sound_empty : Sound []
unfolding entry
sound_empty b s e = absurd (none-ne-some s e)

sound_more : (k tag n : ℕ) (o : List ℕ) (w x y z : Bool) → w && x && y && text false (take n o) && z ≡ true → (z ≡ true → Sound (cut k (drop n o)))
    → Sound (cond w ((tag, take n o) ∷ cut k (drop n o)) [])
unfolding entry
sound_more k tag n o false x y z h ih b s e = absurd (none-ne-some s e)
sound_more k tag n o true x y z h ih b s e = go (eqb b tag) e
  where
    go : (p : Bool) → cond p (some (take n o)) (entry (cut k (drop n o)) b) ≡ some s → text false s ≡ true
    go true q = subst (λ v. text false v ≡ true) (some-injective (take n o) s q) (and_right (true && x && y) (text false (take n o)) (and_left (true && x && y && text false (take n o)) z h))
    go false q = ih (and_right (true && x && y && text false (take n o)) z h) b s q

sound-all : (k : ℕ) (seen o : List ℕ) → filled k seen o ≡ true → Sound (cut k o)
unfolding entry filled cut
sound-all zero seen o h b s e = absurd (none-ne-some s e)
sound-all (suc k) seen [] h b s e = absurd (none-ne-some s e)
sound-all (suc k) seen (tag ∷ []) h b s e = absurd (none-ne-some s e)
sound-all (suc k) seen (tag ∷ n ∷ o) h b s e =
    sound_more k tag n o (leb n (length o)) (token tag) (not (among tag seen)) (filled k (tag ∷ seen) (drop n o)) h (sound-all k (tag ∷ seen) (drop n o)) b s e

pub table-sound : (o : List ℕ) → is_table o ≡ true → Sound (entries o)
unfolding is_table entries
table-sound o h = sound-all (suc (length o)) [] o h

pub utf8_append : (s r : List ℕ) (more c least : ℕ) → utf8 false more c least s ≡ true → utf8 false 0 0 0 r ≡ true → utf8 false more c least (s ++ r) ≡ true
unfolding utf8 text
utf8_append [] r zero c least h g = utf8-zero r false c least ∙ g
utf8_append [] r (suc more) c least h g = absurd (false≢true h)
utf8_append (b ∷ bs) r zero c least h g =
    cond_map (ltb b 0x80) _ _ _ _
    (and-map (single false b) (utf8 false 0 0 0 bs) (single false b) (utf8 false 0 0 0 (bs ++ r)) (λ q. q) (λ q. utf8_append bs r 0 0 0 q g))
    (cond_map (eqb (b / 32) 6) _ _ _ _ (λ q. utf8_append bs r 1 (b % 32) 0x80 q g)
    (cond_map (eqb (b / 16) 14) _ _ _ _ (λ q. utf8_append bs r 2 (b % 16) 0x800 q g)
    (cond_map (eqb (b / 8) 30) _ _ _ _ (λ q. utf8_append bs r 3 (b % 8) 0x10000 q g) (λ q. q)))) h
utf8_append (b ∷ bs) r (suc more) c least h g =
    let d = c * 64 + b % 64 in
    and-map (goes_on more c least b) (utf8 false more d least bs) (goes_on more c least b) (utf8 false more d least (bs ++ r)) (λ q. q) (λ q. utf8_append bs r more d least q g) h

single-other : (b : ℕ) → token b ≡ false → single true b ≡ true → single false b ≡ true
unfolding single
single-other b e h = rw e at h

-- the expansion of a text that the table covers is text without token octets
pub expanded-utf8 : (table : Entries) → Sound table → (o : List ℕ) (more c least : ℕ) → utf8 true more c least o ≡ true → covered table o ≡ true
    → utf8 false more c least (expanded table o) ≡ true
unfolding utf8 expanded stands covered covers present text or_itself
expanded-utf8 table ok [] zero c least h g = refl
expanded-utf8 table ok [] (suc more) c least h g = h
expanded-utf8 table ok (b ∷ bs) zero c least h g =
    go (λ m d l q. expanded-utf8 table ok bs m d l q (and_right (covers table b) (covered table bs) g)) (token b) refl
    (and_left (covers table b) (covered table bs) g)
  where
    rest : List ℕ
    rest = expanded table bs

    found : (utf8 true 0 0 0 bs ≡ true → utf8 false 0 0 0 rest ≡ true) → token b ≡ true → (e : Option (List ℕ)) → entry table b ≡ e → present e ≡ true → utf8 false 0 c least (or_itself e b ++ rest) ≡ true
    found ih t none q p = absurd (false≢true p)
    found ih t (some s) q p =
        let l : ltb b 0x80 ≡ true = lt-ltb b 0x80 (omega (arith, (token-facts b t).1)) in
        let h' : single true b && utf8 true 0 0 0 bs ≡ true = rw l at h in
        utf8_append s rest 0 c least (utf8-zero s false c least ∙ ok b s q) (ih (and_right (single true b) (utf8 true 0 0 0 bs) h'))

    go : ((m d l : ℕ) → utf8 true m d l bs ≡ true → utf8 false m d l rest ≡ true) → (t : Bool) → token b ≡ t → not t || present (entry table b) ≡ true
        → utf8 false 0 c least (cond t (or_itself (entry table b) b) (b ∷ []) ++ rest) ≡ true
    go ih true t p = found (ih 0 0 0) t (entry table b) refl p
    go ih false t p =
        cond_map (ltb b 0x80) _ _ _ _
        (and-map (single true b) (utf8 true 0 0 0 bs) (single false b) (utf8 false 0 0 0 rest) (single-other b t) (ih 0 0 0))
        (cond_map (eqb (b / 32) 6) _ _ _ _ (ih 1 (b % 32) 0x80)
        (cond_map (eqb (b / 16) 14) _ _ _ _ (ih 2 (b % 16) 0x800)
        (cond_map (eqb (b / 8) 30) _ _ _ _ (ih 3 (b % 8) 0x10000) (λ q. q)))) h
expanded-utf8 table ok (b ∷ bs) (suc more) c least h g =
    go (λ q. expanded-utf8 table ok bs more (c * 64 + b % 64) least q (and_right (covers table b) (covered table bs) g)) (token b) refl
  where
    rest : List ℕ
    rest = expanded table bs

    front : goes_on more c least b ≡ true
    front = and_left (goes_on more c least b) (utf8 true more (c * 64 + b % 64) least bs) h

    go : (utf8 true more (c * 64 + b % 64) least bs ≡ true → utf8 false more (c * 64 + b % 64) least rest ≡ true) → (t : Bool) → token b ≡ t
        → utf8 false (suc more) c least (cond t (or_itself (entry table b) b) (b ∷ []) ++ rest) ≡ true
    go ih true t = absurd (false≢true (sym (later-octet more c least b front) ∙ t))
    go ih false t = and-true (goes_on more c least b) (utf8 false more (c * 64 + b % 64) least rest) front (ih (and_right (goes_on more c least b) (utf8 true more (c * 64 + b % 64) least bs) h))

pub expanded-text : (table : Entries) → Sound table → (o : List ℕ) → text true o ≡ true → covered table o ≡ true → text false (expanded table o) ≡ true
unfolding text
expanded-text table ok o h g = expanded-utf8 table ok o 0 0 0 h g

-- text that needs no table has no token octets
pub text-plain : (o : List ℕ) → text true o ≡ true → covered [] o ≡ true → text false o ≡ true
text-plain o h g = subst (λ x. text false x ≡ true) (expanded-empty o) (expanded-text [] sound_empty o h g)

-- what is shown of a text is what is shown of its expansion
pub shown-expanded : (table : Entries) (o : List ℕ) → shown_length [] (expanded table o) ≡ shown_length table o
unfolding shown_length
shown-expanded table o = rw (expanded-empty (expanded table o))
