-- Request 2026-08 of merging and packing: no body is longer than all that is written.
use Rattle.std.specs.Prelude.{Ok}
use mathlib.Core.Path.{◌≡◌, refl, sym, ap, ◌∙◌, subst}
use mathlib.Core.Bool.{Bool, true, false, cond}
use mathlib.Core.Logic.{◌⊎◌, inl, inr}
use mathlib.Core.Option.{none, some, some-injective, none-ne-some}
use mathlib.Core.List.{List, [], ◌++◌}
use Prim.Native.Nat.{ℕ, ◌≤◌}
use native.Mathlib.Omega.{arith}
use lib.Dec.{ltb}
use lib.ListN.{length, take, length-append}
use borrow.Author.Tests.{ltb-true}
use Rattle.octets.specs.Header.{framed}
use Rattle.octets.proofs.Answers.{framed-length}
use Rattle.text.specs.Tokens.{Entries}
use Rattle.values.specs.Table.{known, attribute}
use Rattle.format.specs.Tree.{Items}
use Rattle.format.specs.Tree.Items.{end, item}
use Rattle.format.specs.Judge.{Judged, is_text, judge}
use Rattle.format.specs.Judge.Judged.{refused, accepted}
use Rattle.format.specs.Meaning.{opens, meaning_of, normal_of, encode}
use Rattle.format.specs.Same.{same_octets}
use Rattle.format.specs.Bodies.{Bodies}
use Rattle.format.proofs.Rules.{accepted-size}
use Rattle.format.proofs.Same.{same-octets}
use Rattle.format.proofs.Bodies.{bodies}
use Rattle.state.specs.Taking.{lent_by}
use Rattle.merge.specs.Merged.{merged}
use Rattle.merge.proofs.Results.{small, merge-gives}
use Rattle.merge.specs.Calls.{records_size}
use Rattle.fold.specs.Words.{words_in, chosen}
use Rattle.fold.specs.Packed.{tokens, entries_of, table_octets, folded, refolded, folded_by, proposal, packed_if, packed}
use Rattle.fold.proofs.Claims.{pack-hands}
use Rattle.demands.specs.PackBodies.{MergeBodies, Refolded, Folded, PackBodies}
use Rattle.demands.proofs.Merging.{given}

pub merge-bodies : MergeBodies
merge-bodies by basic advanced m m' room room' n size c =
    let g = given by basic advanced m m' room room' (Ok (records_size n size)) c n size refl in
    let r = merge-gives by (lent_by m room) basic advanced g.w g.gives-it in
    let l : length (encode (merged by (meaning_of r.basic) (meaning_of r.advanced))) ≤ 32_768 = subst (λ x. length (encode x) ≤ 32_768) r.is (small (lent_by m room) g.w r.fits) in
    (r.basic, r.advanced, r.first, r.second, bodies 32_768 (merged by (meaning_of r.basic) (meaning_of r.advanced)) l)

-- ---- packing
refolded-within : (n : ℕ) (es : Entries) (table : List ℕ) (parent : ℕ) (t : Items) → length (refolded es table parent t) ≤ n → Refolded n es table parent t
unfolding refolded
refolded-within n es table parent end h = tt
refolded-within n es table parent (item tag at body inside after) h =
    let held = cond (opens tag) (refolded es [] tag inside) (cond (is_text (known parent tag)) (folded es body) body) in
    let front = cond (attribute tag) [] table in
    let rest = refolded es (cond (attribute tag) table []) parent after in
    let all = length-append front (framed tag held ++ rest) in
    let later = length-append (framed tag held) rest in
    let own = framed-length tag held in
    let short : length held ≤ n = omega arith in (
      short,
      (λ o. refolded-within n es [] tag inside (rw o at short)),
      refolded-within n es (cond (attribute tag) table []) parent after (omega arith),
    )

-- the table is written too
table-within : (es : Entries) (table : List ℕ) (parent : ℕ) (t : Items) → length table ≤ length (refolded es table parent t)
unfolding refolded
table-within es table parent end = omega arith
table-within es table parent (item tag at body inside after) = go (attribute tag) (table-within es table parent after)
  where
    held : List ℕ
    held = framed tag (cond (opens tag) (refolded es [] tag inside) (cond (is_text (known parent tag)) (folded es body) body))

    go : (b : Bool) → length table ≤ length (refolded es table parent after)
        → length table ≤ length (cond b [] table ++ (held ++ refolded es (cond b table []) parent after))
    go true ih = omega (arith, length-append held (refolded es table parent after))
    go false ih = omega (arith, length-append table (held ++ refolded es [] parent after))

folded-within : (n : ℕ) (ws : List (List ℕ)) (t : Items) → length (folded_by ws t) ≤ n → Folded n ws t
unfolding folded_by
folded-within n ws end h = tt
folded-within n ws (item tag at body inside after) h =
    let es = entries_of tokens ws in
    let table = framed 4 (table_octets es) in
    let own = framed-length tag (refolded es table tag inside) in
    let long : length (refolded es table tag inside) ≤ n = omega arith in
    (long, omega (arith, framed-length 4 (table_octets es), table-within es table tag inside), refolded-within n es table tag inside long)

-- of a normal form: itself, or with words folded where that is shorter
proposed : (o : List ℕ) (t : Items) → judge o ≡ accepted t → normal_of t ≡ o → (given : List ℕ) → given ≡ proposal o t
    → ((given ≡ o) × Bodies 32_768 (meaning_of t)) ⊎ ((given ≡ folded_by (chosen (words_in 0 t)) t) × Folded 32_768 (chosen (words_in 0 t)) t)
unfolding proposal
proposed o t h e given q = go (ltb (length (folded_by (chosen (words_in 0 t)) t)) (length o)) refl q
  where
    go : (b : Bool) → ltb (length (folded_by (chosen (words_in 0 t)) t)) (length o) ≡ b → given ≡ cond b (folded_by (chosen (words_in 0 t)) t) o
        → ((given ≡ o) × Bodies 32_768 (meaning_of t)) ⊎ ((given ≡ folded_by (chosen (words_in 0 t)) t) × Folded 32_768 (chosen (words_in 0 t)) t)
    go true l w =
        let s = ltb-true (length (folded_by (chosen (words_in 0 t)) t)) (length o) l in
        inr (w, folded-within 32_768 (chosen (words_in 0 t)) t (omega (arith, s, (accepted-size o t h).1)))
    go false l w = inl (w, bodies 32_768 (meaning_of t) (omega (arith, ap length e, (accepted-size o t h).1)))

-- octets that are packed are a normal form
packed-from : (o p : List ℕ) (j : Judged) → judge o ≡ j → packed_if o j ≡ some p → (t : Items) × (judge o ≡ accepted t) × (normal_of t ≡ o) × (p ≡ proposal o t)
unfolding packed_if
packed-from o p (refused r) h q = absurd (none-ne-some p q)
packed-from o p (accepted t) h q = go (same_octets (normal_of t) o) refl q
  where
    go : (b : Bool) → same_octets (normal_of t) o ≡ b → cond b (some (proposal o t)) none ≡ some p → (u : Items) × (judge o ≡ accepted u) × (normal_of u ≡ o) × (p ≡ proposal o u)
    go true e w = (t, h, same-octets (normal_of t) o e, sym (some-injective (proposal o t) p w))
    go false e w = absurd (none-ne-some p w)

pub pack-bodies : PackBodies
unfolding packed
pack-bodies object room room' k os c =
    let f = pack-hands object room room' k c in
    let g = packed-from object f.object (judge object) refl f.is in
    (g.0, g.1, proposed object g.0 g.1 g.2 (take k.0 room') (f.stands ∙ g.3))
