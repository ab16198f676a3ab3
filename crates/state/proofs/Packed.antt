-- A tree that was loaded is packed: packing it again, over the same store, is the same tree.
use mathlib.Core.Path.{◌≡◌, refl, sym, ap, ap₂, ◌∙◌}
use mathlib.Core.Bool.{Bool, true, false}
use mathlib.Core.List.{List, [], ◌++◌}
use Prim.Native.Nat.{ℕ, ◌+◌}
use lib.Dec.{eqb}
use lib.ListN.{length}
use Rattle.octets.specs.Numbers.{Octets}
use Rattle.text.specs.Tokens.{Entries}
use Rattle.text.proofs.Expansion.{Sound}
use Rattle.values.specs.Table.{known}
use Rattle.values.specs.Values.{octets_of}
use Rattle.values.proofs.Values.{proper-means}
use Rattle.format.specs.Tree.{Items}
use Rattle.format.specs.Tree.Items.{end, item}
use Rattle.format.specs.Judge.{judge}
use Rattle.format.specs.Judge.Judged.{accepted}
use Rattle.format.specs.Meaning.{opens, table_of}
use Rattle.format.specs.Loaded.{stored, store_in, loaded_in, store_of, loaded_of}
use Rattle.format.specs.State.{packed, packed_store}
use Rattle.format.specs.Writer.{Spot, below, past, at_top}
use Rattle.format.proofs.Told.{Told, ItemTold, accepted-told, accepted-sound}
use Rattle.format.proofs.Loading.{loaded-held, loaded-single}
use Rattle.survey.proofs.Ways.{told-value}

-- what is stored of an item is stored as it stands the next time
stored-again : (T : Entries) → Sound T → (s : Spot) (tag : ℕ) (body : List ℕ) (x : Items) → ItemTold T s tag body x → eqb tag 4 ≡ false → opens tag ≡ false
    → stored [] (known s.parent tag) (stored T (known s.parent tag) body) ≡ stored T (known s.parent tag) body
unfolding stored
stored-again T sound s tag body x i f o = let k = told-value T sound s tag body x i f o in rw k.1 (ap octets_of (proper-means k.2))

-- the two ways of an item that isn't the token table, for its store
pub store-held : (T : Entries) (p tag from : ℕ) (body : List ℕ) (x u : Items) → eqb tag 4 ≡ false → opens tag ≡ true
    → store_in T p (item tag from body x u) ≡ store_in T tag x ++ store_in T p u
unfolding store_in
store-held T p tag from body x u f o = rw (f, o)

pub store-single : (T : Entries) (p tag from : ℕ) (body : List ℕ) (x u : Items) → eqb tag 4 ≡ false → opens tag ≡ false
    → store_in T p (item tag from body x u) ≡ stored T (known p tag) body ++ store_in T p u
unfolding store_in
store-single T p tag from body x u f o = rw (f, o)

-- the tree packed again at any place, and its store
pub record Again (T : Entries) (s : Spot) (t : Items) : Type 0 where
  pub tree : (at from : ℕ) → loaded_in [] s.parent at (loaded_in T s.parent from t) ≡ loaded_in T s.parent at t
  pub store : (from : ℕ) → store_in [] s.parent (loaded_in T s.parent from t) ≡ store_in T s.parent t

module _ (T : Entries) (s : Spot) (tag place : ℕ) (body : List ℕ) (x u : Items) where
  abbrev p : ℕ
  p = s.parent

  abbrev own : List ℕ
  own = stored T (known p tag) body

  again-held : Again T (below s tag) x → Again T (past s tag) u → eqb tag 4 ≡ false → opens tag ≡ true → Again T s (item tag place body x u)
  unfolding below past
  again-held inside later f o = record {
    tree = λ at from.
        let n = from + length (store_in T tag x) in
        ap (loaded_in [] p at) (loaded-held T p from tag place body x u f o)
        ∙ (loaded-held [] p at tag 0 [] (loaded_in T tag from x) (loaded_in T p n u) f o
        ∙ (rw (inside.tree at from, inside.store from, later.tree (at + length (store_in T tag x)) n) (sym (loaded-held T p at tag place body x u f o))));
    store = λ from.
        let n = from + length (store_in T tag x) in
        ap (store_in [] p) (loaded-held T p from tag place body x u f o)
        ∙ (store-held [] p tag 0 [] (loaded_in T tag from x) (loaded_in T p n u) f o
        ∙ (ap₂ ◌++◌ (inside.store from) (later.store n) ∙ sym (store-held T p tag place body x u f o)));
  }

  again-single : Again T (past s tag) u → stored [] (known p tag) own ≡ own → eqb tag 4 ≡ false → opens tag ≡ false → Again T s (item tag place body x u)
  unfolding past
  again-single later same f o = record {
    tree = λ at from.
        let n = from + length own in
        ap (loaded_in [] p at) (loaded-single T p from tag place body x u f o)
        ∙ (loaded-single [] p at tag from own end (loaded_in T p n u) f o
        ∙ (rw (same, later.tree (at + length own) n) (sym (loaded-single T p at tag place body x u f o))));
    store = λ from.
        let n = from + length own in
        ap (store_in [] p) (loaded-single T p from tag place body x u f o)
        ∙ (store-single [] p tag from own end (loaded_in T p n u) f o
        ∙ (ap₂ ◌++◌ same (later.store n) ∙ sym (store-single T p tag place body x u f o)));
  }

  again-table : Again T (past s tag) u → eqb tag 4 ≡ true → Again T s (item tag place body x u)
  unfolding past loaded_in store_in
  again-table later f = record { tree = λ at from. rw f (later.tree at from); store = λ from. rw f (later.store from) }

  again-item : Sound T → ItemTold T s tag body x → Again T (below s tag) x → Again T (past s tag) u → Again T s (item tag place body x u)
  again-item sound i inside later = go (eqb tag 4) refl (opens tag) refl
    where
      go : (b : Bool) → eqb tag 4 ≡ b → (c : Bool) → opens tag ≡ c → Again T s (item tag place body x u)
      go true f c o = again-table later f
      go false f true o = again-held inside later f o
      go false f false o = again-single later (stored-again T sound s tag body x i f o) f o

pub loaded-again : (T : Entries) → Sound T → (t : Items) (s : Spot) → Told T s t → Again T s t
unfolding loaded_in store_in
loaded-again T sound end s h = record { tree = λ at from. refl; store = λ from. refl }
loaded-again T sound (item tag place body x u) s h =
    again-item T s tag place body x u sound h.0 (loaded-again T sound x (below s tag) h.1) (loaded-again T sound u (past s tag) h.2)

-- the loaded tree of an accepted object
module _ (o : List ℕ) (t : Items) (os : Octets o) (h : judge o ≡ accepted t) where
  again : Again (table_of t) at_top t
  again = loaded-again (table_of t) (accepted-sound o t os h) t at_top (accepted-told o t os h)

  pub accepted-packs : packed (loaded_of t) ≡ loaded_of t
  unfolding at_top
  accepted-packs = again.tree 0 0

  pub accepted-store : packed_store (loaded_of t) ≡ store_of t
  unfolding at_top
  accepted-store = again.store 0
