-- The other way: the records of a tree that lies in the lent octets and keeps the rules are walked over to their end.
use mathlib.Core.Path.{◌≡◌, refl, sym, ap, ◌∙◌, subst}
use mathlib.Core.Bool.{Bool, true, false}
use mathlib.Core.List.{List, ◌++◌}
use Prim.Native.Nat.{ℕ, suc, ◌+◌, ◌≤◌}
use native.Mathlib.Omega.{arith}
use lib.ListN.{length}
use Rattle.format.specs.declared.Record.{Record}
use Rattle.format.specs.Tree.{Items, count, records, record_of, kind_of}
use Rattle.format.specs.Tree.Items.{end, item}
use Rattle.format.specs.Meaning.{opens}
use Rattle.format.specs.Writer.{Spot, below, past, keeps, body_in, good, here, ruled}
use Rattle.format.proofs.Spans.{Part, Located, part-span}
use Rattle.format.proofs.Kept.{is-good, keeps-tag, Ruled, ruled-parts, end_is}
use Rattle.format.proofs.Walk.{Walked}
use Rattle.format.proofs.Walk.Walked.{stop, single, nested}
use Rattle.format.proofs.Tabled.{left, Stands, item-stands, Stops, stops-inside, count-item}

-- the record of an item that keeps the rules is good
record-good : (s : Spot) (p : ℕ) (lent : List ℕ) (tag at : ℕ) (body : List ℕ) (r : Record) → Part lent at body → keeps s tag body ≡ true
    → r ≡ record_of s.depth p tag at body → good s p lent r ≡ true
unfolding body_in
record-good s p lent tag at body r part k e =
    let span = part-span lent at body part in
    let inside : r.start + r.size ≤ length lent = rw e span.0 in
    let rules : keeps s r.tag (body_in lent r) ≡ true = rw (e, span.1) k in
    is-good s p lent r (record { kind = ap (λ q. q.kind) e ∙ ap kind_of (sym (ap (λ q. q.tag) e)); parent = ap (λ q. q.parent) e; inside = inside; rules = rules })

module _ (row : ℕ → Record) (n : ℕ) (lent : List ℕ) where
  abbrev Reaches : Items → Type 0
  Reaches t = (s : Spot) (p i j : ℕ) → Located lent t → ruled s t ≡ true → left row n i ≡ records s.depth p i t ++ left row n j → j ≡ i + count t
      → Stops row n s.depth j → Walked row n lent s p i j

  reaches_end : Reaches end
  unfolding count
  reaches_end s p i j l r h c w =
      let z : i ≡ j = omega arith in
      subst (λ v. Walked row n lent s p i v) z (stop (subst (λ v. here row n s.depth v ≡ false) (sym z) (w s.depth (omega arith))))

  reaches-item : (tag at : ℕ) (body : List ℕ) (x y : Items) → Reaches x → Reaches y → Reaches (item tag at body x y)
  unfolding past below count records
  reaches-item tag at body x y fx fy s p i j l r h c w = go (opens tag) refl
    where
      u : Ruled s tag body x y
      u = ruled-parts s tag at body x y r

      a : Stands row n s.depth p i j tag at body x y
      a = item-stands row n s.depth p i j tag at body x y (keeps-tag s tag body u.rules) h

      number : j ≡ suc i + count x + count y
      number = c ∙ (ap (λ q. i + q) (count-item tag at body x y (keeps-tag s tag body u.rules)) ∙ omega arith)

      same : tag ≡ (row i).tag
      same = sym (ap (λ q. q.tag) a.is_row)

      is-good-here : good s p lent (row i) ≡ true
      is-good-here = record-good s p lent tag at body (row i) l.0 u.rules a.is_row

      later : Walked row n lent (past s tag) p (suc i + count x) j
      later = fy (past s tag) p (suc i + count x) j l.2 u.beside a.later number w

      go : (b : Bool) → opens tag ≡ b → Walked row n lent s p i j
      go true o =
          let v : Walked row n lent (below s tag) i (suc i) (suc i + count x) =
          fx (below s tag) i (suc i) (suc i + count x) l.1 u.within a.inner refl (stops-inside row n y s.depth p (suc i + count x) j w a.later number) in
          nested a.is-here is-good-here (ap opens (sym same) ∙ o)
          (subst (λ q. Walked row n lent (below s q) i (suc i) (suc i + count x)) same v) (subst (λ q. Walked row n lent (past s q) p (suc i + count x) j) same later)
      go false o =
          let e : end ≡ x = end_is x (rw o at u.holder) in
          let z : suc i + count x ≡ suc i = ap (λ q. suc i + count q) (sym e) ∙ omega arith in
          single a.is-here is-good-here (ap opens (sym same) ∙ o)
          (subst (λ q. Walked row n lent (past s q) p (suc i) j) same (subst (λ q. Walked row n lent (past s tag) p q j) z later))

  pub reaches : (t : Items) → Reaches t
  reaches end = reaches_end
  reaches (item tag at body x y) = reaches-item tag at body x y (reaches x) (reaches y)
