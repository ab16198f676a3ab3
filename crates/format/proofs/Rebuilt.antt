-- Records are rebuilt into a tree exactly when they are its records, it lies in the lent octets and it keeps the rules.
use mathlib.Core.Path.{◌≡◌, refl, sym, ap, ap₂, ◌∙◌, subst}
use mathlib.Core.Bool.{Bool, true, false, cond, ◌&&◌}
use mathlib.Core.Option.{Option, none, some, some-injective, none-ne-some}
use mathlib.Core.List.{List, ◌++◌}
use Prim.Native.Nat.{ℕ, suc, ◌<◌}
use native.Mathlib.Omega.{arith}
use lib.Dec.{eqb, ltb}
use lib.ListN.{length}
use borrow.Author.Tests.{eqb-true, eq-eqb, ltb-true, lt-ltb}
use Rattle.octets.proofs.Tests.{and_left, and_right}
use Rattle.format.specs.declared.Record.{Record}
use Rattle.format.specs.Tree.{Items, count, records_of}
use Rattle.format.specs.Tree.Items.{end, item}
use Rattle.format.specs.Writer.{Spot, below, past, at_top, walk, tree, to_end, rebuilt, ruled, tabled}
use Rattle.format.proofs.Spans.{Located, records-count}
use Rattle.format.proofs.Kept.{keeps-tag, ruled-parts}
use Rattle.format.proofs.Walk.{Walked, walk-walked, walked-walk}
use Rattle.format.proofs.Trees.{whole-tree}
use Rattle.format.proofs.Tabled.{left, left-all, left-none, tabled-length, stops_end}
use Rattle.format.proofs.Grows.{grows}
use Rattle.format.proofs.Reaches.{reaches}
use Rattle.format.proofs.Regrown.{untabled, untabled-item, Shaped, regrows-all}

-- the second statement of well-formed records: there is one, they are those of a tree, it lies in the lent octets, and its items keep the rules
pub record Whole (row : ℕ → Record) (n : ℕ) (lent : List ℕ) (t : Items) : Type 0 where
  pub some : 0 < n
  pub records : records_of t ≡ tabled row n 0
  pub located : Located lent t
  pub rules : ruled at_top t ≡ true

-- a tree that keeps the rules has no token table, and items inside only where they may be
ruled-untabled : (t : Items) (s : Spot) → ruled s t ≡ true → untabled t ≡ t
unfolding untabled
ruled-untabled end s h = refl
ruled-untabled (item tag at body x y) s h =
    let u = ruled-parts s tag at body x y h in
    untabled-item tag at body x y (keeps-tag s tag body u.rules) ∙ ap₂ (item tag at body) (ruled-untabled x (below s tag) u.within) (ruled-untabled y (past s tag) u.beside)

ruled-shaped : (t : Items) (s : Spot) → ruled s t ≡ true → Shaped t
ruled-shaped end s h = tt
ruled-shaped (item tag at body x y) s h =
    let u = ruled-parts s tag at body x y h in
    (u.holder, ruled-shaped x (below s tag) u.within, ruled-shaped y (past s tag) u.beside)

module _ (row : ℕ → Record) (n : ℕ) (lent : List ℕ) where
  -- what the verdict of `rebuilt` says
  record Verdict (t : Items) : Type 0 where
    any : 0 < n
    reached : walk (suc n) row n lent at_top 0 0 ≡ some n
    grown : (tree (suc n) row n lent 1 0).0 ≡ t

  verdict : (t : Items) → rebuilt row n lent ≡ some t → Verdict t
  unfolding rebuilt to_end
  verdict t h = go (walk (suc n) row n lent at_top 0 0) refl h
    where
      found : (j : ℕ) → walk (suc n) row n lent at_top 0 0 ≡ some j → (b : Bool) → ltb 0 n && eqb j n ≡ b → cond b (some (tree (suc n) row n lent 1 0).0) none ≡ some t → Verdict t
      found j e true q r =
          record { any = ltb-true 0 n (and_left (ltb 0 n) (eqb j n) q); reached = e ∙ ap some (eqb-true j n (and_right (ltb 0 n) (eqb j n) q)); grown = some-injective _ t r }
      found j e false q r = absurd (none-ne-some t r)

      go : (o : Option ℕ) → walk (suc n) row n lent at_top 0 0 ≡ o → cond (to_end n o) (some (tree (suc n) row n lent 1 0).0) none ≡ some t → Verdict t
      go none e g = absurd (none-ne-some t g)
      go (some j) e g = found j e (ltb 0 n && eqb j n) refl g

  pub rebuilt-whole : (t : Items) → rebuilt row n lent ≡ some t → Whole row n lent t
  unfolding at_top
  rebuilt-whole t h =
      let v = verdict t h in
      let g = grows row n lent (walk-walked row n lent (suc n) at_top 0 0 n v.reached) in
      let e : g.t ≡ t = sym (ap (λ x. x.0) (whole-tree row n lent 1 ∙ g.grown)) ∙ v.grown in
      let all : records_of g.t ≡ tabled row n 0 = sym (left-none row n (records_of g.t)) ∙ (sym g.recorded ∙ left-all row n) in
      record {
        some = v.any;
        records = subst (λ x. records_of x ≡ tabled row n 0) e all;
        located = subst (Located lent) e g.place;
        rules = subst (λ x. ruled at_top x ≡ true) e g.rules;
      }

  -- there are as many records as the tree counts
  pub whole-count : (t : Items) → Whole row n lent t → n ≡ count t
  whole-count t w = sym (tabled-length row n 0) ∙ (ap length (sym w.records) ∙ records-count t 1 0 0)

  pub whole-rebuilt : (t : Items) → Whole row n lent t → rebuilt row n lent ≡ some t
  unfolding rebuilt to_end at_top
  whole-rebuilt t w =
      let c : n ≡ count t = whole-count t w in
      let all : left row n 0 ≡ records_of t ++ left row n n = left-all row n ∙ (sym w.records ∙ sym (left-none row n (records_of t))) in
      let v : Walked row n lent at_top 0 0 n = reaches row n lent t at_top 0 0 n w.located w.rules all (omega arith) (stops_end row n 1) in
      let reached = walked-walk row n lent v (suc n) (omega arith) in
      let grown : tree (suc n) row n lent 1 0 ≡ (t, n) =
      regrows-all row n lent t (ruled-shaped t at_top w.rules) w.located w.records c ∙ ap (λ u. (u, n)) (ruled-untabled t at_top w.rules) in
      rw (reached, lt-ltb 0 n w.some, eq-eqb n n refl, grown)
