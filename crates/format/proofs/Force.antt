-- Which token table is in force for the items of an element, and when it is settled.
use mathlib.Core.Path.{◌≡◌, refl, sym, ap, ◌∙◌, subst}
use mathlib.Core.Bool.{Bool, true, false, cond, not, ◌&&◌, ◌||◌, false≢true, or-true}
use mathlib.Core.Option.{Option, none, some}
use mathlib.Core.List.{List, [], ◌∷◌, ◌++◌}
use Prim.Native.Nat.{ℕ}
use native.Mathlib.Omega.{arith}
use lib.Dec.{eqb, leb, ltb}
use borrow.Author.Tests.{leb-true, le-leb, ltb-true, eqb-true, eqb-false, ne_eqb}
use Rattle.text.specs.Tokens.{Entries, entries, is_table, covered}
use Rattle.values.specs.declared.Kind.{Kind}
use Rattle.values.specs.declared.Kind.TheVariants.{HoldsItems, HoldsTokens, HoldsText}
use Rattle.values.specs.Table.{known, attribute}
use Rattle.format.specs.Tree.{Items, find}
use Rattle.format.specs.Tree.Items.{item}
use Rattle.format.specs.Judge.{is_tokens, is_text, Context, is_top, allowed, latest, stage_after, of_top, late, late_before, within, waits, next}
use Rattle.octets.proofs.Tests.{and_left, or_elim, never}
use Rattle.text.proofs.Expansion.{Sound, table-sound}
use Rattle.values.proofs.Known.{known_two, known-three, known-four, known-anywhere}
use Rattle.format.proofs.Rules.{Held, KindHeld}
use Rattle.format.proofs.Late.{late-front}
use Rattle.format.proofs.Place.{attribute-other}

-- the stage never falls
stage-grows : (tag : ℕ) → leb (latest tag) (stage_after tag) ≡ true
unfolding latest stage_after
stage-grows tag = go (attribute tag) (eqb tag 4) (eqb tag 6) (eqb tag 1)
  where
    go : (a f s o : Bool) → leb (cond (a || f) 0 (cond s 1 2)) (cond a 0 (cond f 1 (cond o 3 2))) ≡ true
    go true f s o = refl
    go false true s o = refl
    go false false true true = refl
    go false false true false = refl
    go false false false true = refl
    go false false false false = refl

pub held_stage : (c : Context) (tag : ℕ) (body : List ℕ) → Held c tag body → leb c.stage (stage_after tag) ≡ true
held_stage c tag body k =
    le-leb c.stage (stage_after tag) (omega (arith, leb-true c.stage (latest tag) k.rules.order, leb-true (latest tag) (stage_after tag) (stage-grows tag)))

-- no token table can come any more
abbrev pub settled : Context → Bool
settled c = not (is_top c.parent) || ltb 0 c.stage

pub settled-after : (c : Context) (at tag : ℕ) (body : List ℕ) → attribute tag ≡ false → settled (next c at tag body) ≡ true
unfolding next stage_after
settled-after c at tag body a = rw a (go (not (is_top c.parent)) (eqb tag 4) (eqb tag 1))
  where
    go : (p f o : Bool) → p || ltb 0 (cond f 1 (cond o 3 2)) ≡ true
    go p true o = or-true p
    go p false true = or-true p
    go p false false = or-true p

pub settled-next : (c : Context) (at tag : ℕ) (body : List ℕ) → Held c tag body → settled c ≡ true → settled (next c at tag body) ≡ true
unfolding next latest
settled-next c at tag body k s = go (attribute tag) refl
  where
    go : (b : Bool) → attribute tag ≡ b → settled (next c at tag body) ≡ true
    go false a = settled-after c at tag body a
    go true a =
        let o : leb c.stage 0 ≡ true = rw a at k.rules.order in
        or_elim (not (is_top c.parent)) (ltb 0 c.stage) (λ q. rw q) (λ q. absurd (omega (arith, leb-true c.stage 0 o, ltb-true 0 c.stage q))) s

top-four : (p : ℕ) → allowed p 4 ≡ true → is_top p ≡ true
unfolding allowed is_top
top-four p h = go (eqb p 0) (is_top p) h
  where
    go : (z t : Bool) → cond z false (true && (t || false)) ≡ true → t ≡ true
    go z true q = refl
    go true false q = q
    go false false q = q

pub not-four : (c : Context) (tag : ℕ) (body : List ℕ) → Held c tag body → settled c ≡ true → eqb 4 tag ≡ false
unfolding latest attribute
not-four c tag body k s = ne_eqb 4 tag λ e.
    let t : is_top c.parent ≡ true = top-four c.parent (rw (sym e) at k.allow) in
    let o : leb c.stage 0 ≡ true = rw (sym e) at k.rules.order in
    let g : not true || ltb 0 c.stage ≡ true = rw t at s in
    omega (arith, leb-true c.stage 0 o, ltb-true 0 c.stage g)

-- an item in an element is no top and has a tag
pub inner-tag : (p tag : ℕ) → eqb p 0 ≡ false → allowed p tag ≡ true → (is_top tag ≡ false) × (eqb tag 0 ≡ false)
unfolding allowed
inner-tag p tag z h =
    let g : not (eqb tag 0 || is_top tag) && (is_top p || not (eqb tag 4 || eqb tag 6)) ≡ true = rw z at h in
    go (eqb tag 0) (is_top tag) (and_left (not (eqb tag 0 || is_top tag)) (is_top p || not (eqb tag 4 || eqb tag 6)) g)
  where
    go : (a b : Bool) → not (a || b) ≡ true → (b ≡ false) × (a ≡ false)
    go true b q = absurd (false≢true q)
    go false true q = absurd (false≢true q)
    go false false q = (refl, refl)

pub attribute-four : (tag : ℕ) → attribute tag ≡ true → eqb tag 4 ≡ false
attribute-four tag a = attribute-other tag 4 a (omega arith)

pub attribute-one : (tag : ℕ) → attribute tag ≡ true → eqb tag 1 ≡ false
attribute-one tag a = attribute-other tag 1 a (omega arith)

pub attribute-latest : (tag : ℕ) → attribute tag ≡ true → latest tag ≡ 0
unfolding latest
attribute-latest tag h = rw h

pub swap-eqb : (a b : ℕ) → eqb a b ≡ false → eqb b a ≡ false
swap-eqb a b e = ne_eqb b a (λ q. eqb-false a b e (sym q))

-- what is so of every place in an object: the entries so far are valid, there are none before the table, and nothing waits once no table can come
pub record Valid (c : Context) : Type 0 where
  pub sound : Sound c.table
  pub opened : settled c ≡ false → c.table ≡ []
  pub closed : settled c ≡ true → c.waiting ≡ []
  pub inner : eqb c.parent 0 ≡ false

table-held : (c : Context) (tag : ℕ) (body : List ℕ) → Held c tag body → eqb tag 4 ≡ true → is_table body ≡ true
unfolding is_tokens attribute
table-held c tag body k e =
    let h : KindHeld c 4 body (known c.parent 4) = rw (eqb-true tag 4 e) at k.rules.kind in
    let g : KindHeld c 4 body (some HoldsTokens) = rw (known-anywhere c.parent 4 refl ∙ known-four) at h in
    g.table

pub settled-within : (c : Context) (tag : ℕ) (body : List ℕ) → Held c tag body → Valid c → settled (within c tag) ≡ true
unfolding within
settled-within c tag body k v = rw (inner-tag c.parent tag v.inner k.allow).0

pub valid-within : (c : Context) (tag : ℕ) (body : List ℕ) → Held c tag body → Valid c → Valid (within c tag)
unfolding within
valid-within c tag body k v = record {
  sound = v.sound;
  opened = λ q. never (cc (settled-within c tag body k v));
  closed = λ q. refl;
  inner = (inner-tag c.parent tag v.inner k.allow).1;
}

open_next : (c : Context) (tag : ℕ) → attribute tag ≡ true → is_top c.parent ≡ true → not (is_top c.parent) || ltb 0 (stage_after tag) ≡ true → ⊥
unfolding stage_after
open_next c tag a t q = let g : false ≡ true = rw (t, a) at q in false≢true g

pub valid-next : (c : Context) (at tag : ℕ) (body : List ℕ) → Held c tag body → Valid c → Valid (next c at tag body)
unfolding next of_top
valid-next c at tag body k v = record {
  sound = sound (eqb tag 4) refl;
  opened = λ q. opened (attribute tag) refl q;
  closed = λ q. closed (attribute tag) (is_top c.parent) refl refl q;
  inner = v.inner;
}
  where
    sound : (b : Bool) → eqb tag 4 ≡ b → Sound (cond b (entries body) c.table)
    sound true e = table-sound body (table-held c tag body k e)
    sound false e = v.sound

    still : (b : Bool) → settled c ≡ b → not (is_top c.parent) || ltb 0 (stage_after tag) ≡ false → c.table ≡ []
    still true e q = never (cc (settled-next c at tag body k e))
    still false e q = v.opened e

    opened : (a : Bool) → attribute tag ≡ a → not (is_top c.parent) || ltb 0 (stage_after tag) ≡ false → cond (eqb tag 4) (entries body) c.table ≡ []
    opened false a q = never (cc (settled-after c at tag body a))
    opened true a q = rw (attribute-four tag a) (still (settled c) refl q)

    closed : (a t : Bool) → attribute tag ≡ a → is_top c.parent ≡ t → settled (next c at tag body) ≡ true → cond (a && t) (waits (known c.parent tag) c.waiting at body) [] ≡ []
    closed false t a e q = refl
    closed true false a e q = refl
    closed true true a e q = absurd (open_next c tag a e q)

quiet-settled : (T : Entries) (c : Context) → Valid c → settled c ≡ true → late T c.waiting ≡ none
unfolding late
quiet-settled T c v s = let w : c.waiting ≡ [] = v.closed s in rw w

-- what waits is covered where the next item is no attribute and no table, or there is none
pub quiet-now : (T : Entries) (c : Context) → Valid c → c.table ≡ T → late [] c.waiting ≡ none → late T c.waiting ≡ none
quiet-now T c v e q = go (settled c) refl
  where
    go : (b : Bool) → settled c ≡ b → late T c.waiting ≡ none
    go true s = quiet-settled T c v s
    go false s = subst (λ X. late X c.waiting ≡ none) (sym (v.opened s) ∙ e) q

pub quiet-before : (T : Entries) (c : Context) (tag : ℕ) (body : List ℕ) → Held c tag body → Valid c → attribute tag ≡ false → eqb tag 4 ≡ false → c.table ≡ T
    → late T c.waiting ≡ none
unfolding late_before
quiet-before T c tag body k v a f e = quiet-now T c v e (rw (a, f) at k.before)

waits_front : (k : Option Kind) (T : Entries) (ws : List (ℕ × List ℕ)) (at : ℕ) (body : List ℕ) → late T (waits k ws at body) ≡ none → late T ws ≡ none
unfolding waits
waits_front k T ws at body q = go (is_text k) q
  where
    go : (b : Bool) → late T (cond b (ws ++ ((at, body) ∷ [])) ws) ≡ none → late T ws ≡ none
    go true h = (late-front T at body ws h).0
    go false h = h

pub quiet-attribute : (T : Entries) (c : Context) (at tag : ℕ) (body : List ℕ) → Valid c → attribute tag ≡ true → late T (next c at tag body).waiting ≡ none
    → late T c.waiting ≡ none
unfolding next of_top
quiet-attribute T c at tag body v a q = go (is_top c.parent) refl
  where
    go : (t : Bool) → is_top c.parent ≡ t → late T c.waiting ≡ none
    go true t = waits_front (known c.parent tag) T c.waiting at body (rw (a, t) at q)
    go false t = quiet-settled T c v (rw t)

-- the text of an attribute is covered by the table in force
pub covered-attribute : (T : Entries) (c : Context) (at tag : ℕ) (body : List ℕ) → attribute tag ≡ true → known c.parent tag ≡ some HoldsText
    → of_top c tag || covered c.table body ≡ true → (settled c ≡ true → c.table ≡ T) → late T (next c at tag body).waiting ≡ none → covered T body ≡ true
unfolding next of_top waits is_text
covered-attribute T c at tag body a e k same q = go (is_top c.parent) refl
  where
    go : (t : Bool) → is_top c.parent ≡ t → covered T body ≡ true
    go true t =
        let g : late T (c.waiting ++ ((at, body) ∷ [])) ≡ none = rw (a, t, e) at q in
        (late-front T at body c.waiting g).1
    go false t = subst (λ X. covered X body ≡ true) (same (rw t)) (rw (a, t) at k)

-- the table in force for items: the one that is still to come, or else the one that there is
abbrev pub forced : Entries → Option (List ℕ) → Entries
forced table none = table
forced table (some o) = entries o

abbrev pub in_force : Context → Items → Entries
in_force c t = forced c.table (find 4 t)

-- it does not change at an item that is no table
pub force-next : (c : Context) (at tag from : ℕ) (body : List ℕ) (t u : Items) → eqb tag 4 ≡ false → in_force (next c at tag body) u ≡ in_force c (item tag from body t u)
unfolding next find
force-next c at tag from body t u f = rw (f, swap-eqb tag 4 f)

pub force-skip : (c : Context) (at tag : ℕ) (body : List ℕ) (u : Items) → eqb tag 4 ≡ false → in_force (next c at tag body) u ≡ in_force c u
unfolding next
force-skip c at tag body u f = rw f

-- it is the one that there is where none can come
pub force-after : (c : Context) (at tag : ℕ) (body : List ℕ) (u : Items) → (settled (next c at tag body) ≡ true → find 4 u ≡ none) → attribute tag ≡ false → eqb tag 4 ≡ false
    → c.table ≡ in_force (next c at tag body) u
unfolding next
force-after c at tag body u n a f = rw (n (settled-after c at tag body a), f)

pub force-table : (c : Context) (at : ℕ) (body : List ℕ) (u : Items) → (settled (next c at 4 body) ≡ true → find 4 u ≡ none) → in_force (next c at 4 body) u ≡ entries body
unfolding next attribute
force-table c at body u n = rw (n (settled-after c at 4 body refl))

-- the two tops hold items
pub top-known : (tag : ℕ) → allowed 0 tag ≡ true → known 0 tag ≡ some HoldsItems
unfolding allowed is_top
top-known tag h = or_elim (eqb tag 2) (eqb tag 3) (λ e. ap (known 0) (eqb-true tag 2 e) ∙ known_two) (λ e. ap (known 0) (eqb-true tag 3 e) ∙ known-three) h
