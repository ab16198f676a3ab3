-- All that is judged at an item, the late rule among it.
use mathlib.Core.Path.{◌≡◌, refl, sym, ap, ◌∙◌}
use mathlib.Core.Bool.{Bool, true, false, cond, not, ◌&&◌, ◌||◌, false≢true}
use mathlib.Core.Option.{Option, none, some}
use mathlib.Core.List.{List, [], ◌∷◌}
use Prim.Native.Nat.{ℕ, ◌+◌, ◌-◌, ◌≤◌, ◌<◌}
use native.Mathlib.Omega.{arith}
use native.Mathlib.Nat.{add-zero}
use lib.Dec.{eqb}
use lib.ListN.{length, get_or, take, drop, length-drop}
use mir.Syntax.{w64}
use mir.Val.{Fits}
use borrow.Author.Tests.{eqb-true}
use Rattle.octets.specs.Header.{header_size, body_size}
use Rattle.octets.proofs.Lists.{part_to_end}
use Rattle.text.specs.Tokens.{entries, cut}
use Rattle.values.specs.declared.Kind.{Kind}
use Rattle.values.specs.declared.Kind.TheVariants.{HoldsItems, HoldsTokens, HoldsText, HoldsPlain, HoldsTime, HoldsBearer, HoldsNumber}
use Rattle.values.specs.Table.{rows, known, attribute}
use Rattle.values.proofs.Known.{row-holds, known-four, known-anywhere}
use Rattle.format.specs.declared.Refusal.{Refusal}
use Rattle.format.specs.declared.Counts.{Counts}
use Rattle.format.specs.Tree.{count}
use Rattle.format.specs.Judge.{Context, is_top, is_tokens, first, late, late_before, late_after, broken, unless}
use Rattle.format.proofs.Rules.{first_one}
use Rattle.judge.specs.Says.{ctx, depth_of, checked, sorted, table_sort, WaitsWhen, LateSays, own_of, behind_of, broken_of, OwnIs, BehindIs, AllIs, Passed, Says, counted, EndSays}
use Rattle.std.specs.Prelude.{Result, Ok, Err, ⊤}
use Rattle.judge.specs.declared.Progress.{Progress}
use Rattle.judge.specs.declared.Sort.{Sort}
use Rattle.judge.specs.declared.Item.{Item}
use Rattle.judge.proofs.LateWays.{body_at, tag_at, late-undue, late_due}

-- the tag 4 is the token table's, and no other tag is
pub tokens-four : (p tag : ℕ) → is_tokens (known p tag) ≡ eqb tag 4
unfolding known rows is_tokens attribute
tokens-four p tag = go (eqb tag 4) refl
  where
    row : (k : Kind) → known p tag ≡ some k → not (is_tokens (some k)) || eqb tag 4 ≡ true
    row k h = row-holds (λ e t l. not (is_tokens (some l)) || eqb t 4) (cond (attribute tag) p 0) tag k rows refl h

    other : (o : Option Kind) → known p tag ≡ o → eqb tag 4 ≡ false → is_tokens o ≡ false
    other none h e = refl
    other (some k) h e = no (is_tokens (some k)) (rw e at (row k h))
      where
        no : (b : Bool) → not b || false ≡ true → b ≡ false
        no true q = absurd (false≢true q)
        no false q = refl

    go : (b : Bool) → eqb tag 4 ≡ b → is_tokens (known p tag) ≡ b
    go true e = ap (λ (x : ℕ). is_tokens (known p x)) (eqb-true tag 4 e) ∙ ap is_tokens (known-anywhere p 4 refl ∙ known-four)
    go false e = other (known p tag) refl e

pub table-tokens : (o : Option Kind) → table_sort (sorted o) ≡ is_tokens o
unfolding table_sort sorted is_tokens
table-tokens none = refl
table-tokens (some HoldsItems) = refl
table-tokens (some HoldsTokens) = refl
table-tokens (some HoldsText) = refl
table-tokens (some HoldsPlain) = refl
table-tokens (some HoldsTime) = refl
table-tokens (some HoldsBearer) = refl
table-tokens (some (HoldsNumber n)) = refl

pub sort-four : (p tag : ℕ) (s : Sort) → s ≡ sorted (known p tag) → eqb tag 4 ≡ table_sort s
sort-four p tag s e = sym (ap table_sort e ∙ table-tokens (known p tag) ∙ tokens-four p tag)

-- the late rule at an item that calls for it, and at one that doesn't
late-when : (b w d : Bool) (part : List ℕ) (at parent base : ℕ) (T : List ℕ) (r : Result ⊤ Refusal) → d ≡ (b && w) → LateSays d part at parent base T r
    → (waiting : List (ℕ × List ℕ)) → WaitsWhen w parent base part at waiting → cond b (late (entries T) waiting) none ≡ checked r
unfolding LateSays WaitsWhen late
late-when true w d part at parent base T r e l waiting h =
    let m : LateSays w part at parent base T r = rw e at l in
    m waiting h
late-when false w d part at parent base T r e l waiting h =
    let m : LateSays false part at parent base T r = rw e at l in
    m [] refl

pub no-entries : (part : List ℕ) → entries (take (0 - 0) (drop 0 part)) ≡ []
unfolding entries cut
no-entries [] = refl
no-entries (x ∷ xs) = refl

swapped : {A : Type 0} (b : Bool) (x y : A) → cond b x y ≡ cond (not b) y x
swapped true x y = refl
swapped false x y = refl

-- what is judged after the late rule
behind-broken : (c : Context) (at : ℕ) (s : List ℕ) → broken_of c at s ≡ first (late_before c (get_or s 0 0) ∷ behind_of c at s ∷ [])
unfolding broken_of broken behind_of own_of first
behind-broken c at s = go (late_before c (get_or s 0 0))
  where
    go : (x : Option Refusal) → first (x ∷ own_of c at s ∷ late_after c (get_or s 0 0) (take (body_size s) (drop (header_size s) s)) ∷ []) ≡ first (x ∷ behind_of c at s ∷ [])
    go none = sym (first_one (behind_of c at s))
    go (some r) = refl

-- what is said of an item by one reading of its rules, said by another
says_of : (R Q : Option Refusal → Type 0) (parent : ℕ) (progress : Progress) (s : List ℕ) (r : Result Item Refusal)
    → ((o : Option Refusal) → R o → Q o) → Says R parent progress s r → Says Q parent progress s r
says_of R Q parent progress s (Ok i) f h = (f none h.0, h.1)
says_of R Q parent progress s (Err r) f h = f (some r) h

module _ (parent left : ℕ) (progress : Progress) (table : List ℕ) (base at : ℕ) (part : List ℕ) where
  abbrev waiting? : Bool
  waiting? = is_top parent && eqb progress.stage 0

  -- an item's own rules, and the late rule just after it
  module _ (r : Result Item Refusal)
      (e : Says (OwnIs parent left progress table (base + at) (take (length part - at) (drop at part))) parent progress
      (take (length part - at) (drop at part)) r) where
    here : Says (OwnIs parent left progress table (base + at) (drop at part)) parent progress (drop at part) r
    here = rw (← part_to_end part at) e

    pub behind-bad : (x : Refusal) → r ≡ Err x → BehindIs parent left progress table base at part (some x)
    unfolding BehindIs behind_of OwnIs first
    behind-bad x f seen waiting z w = rw ((rw f at here) seen waiting z)

    module _ (i : Item) (f : r ≡ Ok i) where
      abbrev start : ℕ
      start = i.start

      abbrev size : ℕ
      size = i.size

      own : OwnIs parent left progress table (base + at) (drop at part) none
      own = (rw f at here).0

      p : Passed parent progress (drop at part) i
      p = (rw f at here).1

      pub behind-from : base + length part ≤ 32_768 → at < length part → Fits w64 (at + start)
      behind-from b h = omega (arith, p.fits, length-drop at part)

      pub behind-to : base + length part ≤ 32_768 → at < length part → Fits w64 (at + start + size)
      behind-to b h = omega (arith, p.fits, length-drop at part)

      pub behind-in : at < length part → at + start + size ≤ length part
      behind-in h = omega (arith, p.fits, length-drop at part)

      module _ (d : Bool) (de : d ≡ (table_sort i.sort && waiting?))
          (u : Result ⊤ Refusal) (l : LateSays d part at parent base (take (at + start + size - (at + start)) (drop (at + start) part)) u) where
        behind : BehindIs parent left progress table base at part (checked u)
        unfolding BehindIs behind_of OwnIs first late_after
        behind seen waiting z w =
            let m : LateSays d part at parent base (take size (drop start (drop at part))) u = rw (body_at part at start size) at l in
            rw (own seen waiting z, p.framed.is_start, p.framed.is_size, sort-four parent (get_or (drop at part) 0 0) i.sort p.sorts)
            (first_one (cond (table_sort i.sort) (late (entries (take size (drop start (drop at part)))) waiting) none)
            ∙ late-when (table_sort i.sort) waiting? d part at parent base (take size (drop start (drop at part))) u de m waiting w)

        pub behind-late : (x : Refusal) → u ≡ Err x → BehindIs parent left progress table base at part (some x)
        unfolding checked
        behind-late x q = rw q at behind

        pub behind-good : u ≡ Ok tt → Says (BehindIs parent left progress table base at part) parent progress (drop at part) (Ok i)
        unfolding checked
        behind-good q = (rw q at behind, p)

  -- the late rule before an item
  module _ (d : Bool) (de : d ≡ (not (attribute (get_or part at 0) || eqb (get_or part at 0) 4) && waiting?))
      (r : Result ⊤ Refusal) (l : LateSays d part at parent base (take (0 - 0) (drop 0 part)) r) where
    before : (seen : List ℕ) (waiting : List (ℕ × List ℕ)) → WaitsWhen waiting? parent base part at waiting
        → late_before (ctx parent (depth_of left) progress.stage seen (entries table) waiting) (get_or (drop at part) 0 0) ≡ checked r
    unfolding late_before
    before seen waiting w =
        let b = attribute (get_or part at 0) || eqb (get_or part at 0) 4 in
        rw (← tag_at part at, swapped b none (late [] waiting), ← no-entries part)
        (late-when (not b) waiting? d part at parent base (take (0 - 0) (drop 0 part)) r de l waiting w)

    pub all-late : (x : Refusal) → r ≡ Err x → AllIs parent left progress table base at part (some x)
    unfolding AllIs first checked
    all-late x f seen waiting z w = behind-broken _ _ _ ∙ rw (before seen waiting w ∙ ap checked f)

    pub all-item : r ≡ Ok tt → (v : Result Item Refusal) → Says (BehindIs parent left progress table base at part) parent progress (drop at part) v
        → Says (AllIs parent left progress table base at part) parent progress (drop at part) v
    unfolding AllIs BehindIs first checked
    all-item f v =
        says_of (BehindIs parent left progress table base at part) (AllIs parent left progress table base at part) parent progress (drop at part) v
        (λ o h seen waiting z w. behind-broken _ _ _ ∙ rw (before seen waiting w ∙ ap checked f) (first_one _ ∙ h seen waiting z w))

pub ruleset behind-ways = (behind-from, behind-to, behind-in)

-- the late rule at the end of an element
module _ (counts : Counts) (part : List ℕ) (at parent stage base : ℕ) (d : Bool) (de : d ≡ (is_top parent && eqb stage 0))
    (r : Result ⊤ Refusal) (l : LateSays d part at parent base (take (0 - 0) (drop 0 part)) r) where
  ended : (waiting : List (ℕ × List ℕ)) → WaitsWhen (is_top parent && eqb stage 0) parent base part at waiting → late [] waiting ≡ checked r
  ended waiting w = rw (← no-entries part) (late-when true (is_top parent && eqb stage 0) d part at parent base (take (0 - 0) (drop 0 part)) r de l waiting w)

  ended-late : (x : Refusal) → r ≡ Err x → EndSays counts part at parent stage base (Err x)
  unfolding EndSays unless counted checked
  ended-late x f waiting w = rw (ended waiting w ∙ ap checked f)

  ended-good : r ≡ Ok tt → EndSays counts part at parent stage base (Ok counts)
  unfolding EndSays unless counted checked count
  ended-good f waiting w = rw (ended waiting w ∙ ap checked f, add-zero counts.records, add-zero counts.items)

-- where it is due, and where it isn't
module _ (counts : Counts) (part : List ℕ) (at parent stage base : ℕ) (d : Bool) (de : d ≡ (is_top parent && eqb stage 0)) where
  abbrev nothing : List ℕ
  nothing = take (0 - 0) (drop 0 part)

  pub end-undue : d ≡ false → EndSays counts part at parent stage base (Ok counts)
  end-undue e = ended-good counts part at parent stage base d de (Ok tt) (late-undue d part at parent base nothing e) refl

  module _ (e : d ≡ true) (r : Result ⊤ Refusal) (l : LateSays true part at parent base nothing r) where
    pub end-late : (x : Refusal) → r ≡ Err x → EndSays counts part at parent stage base (Err x)
    end-late = ended-late counts part at parent stage base d de r (late_due d part at parent base nothing e r l)

    pub end-good : r ≡ Ok tt → EndSays counts part at parent stage base (Ok counts)
    end-good = ended-good counts part at parent stage base d de r (late_due d part at parent base nothing e r l)

pub ruleset end-ways = (end-undue, end-late, end-good)
