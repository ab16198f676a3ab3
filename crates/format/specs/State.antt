-- What a tree takes of lent memory, and which tree lent memory holds (change request 2026-06). It is a function of the tree alone, so whatever came before, memory
-- that holds a tree holds what one built afresh would leave, and room that was freed is used again.
use Rattle.std.specs.Prelude.{Bool, true, false, cond, ◌&&◌, List, [], ◌∷◌, ◌++◌, ℕ, min, eqb, leb, length, take}
use Rattle.std.proofs.Math.Option.{Option, none, some}
use Rattle.std.proofs.lemmas.List.Edits.{sets}
use Rattle.octets.specs.Header.{framed}
use Rattle.values.specs.Table.{known}
use Rattle.format.specs.Tree.{Items, records_of}
use Rattle.format.specs.Tree.Items.{end, item}
use Rattle.format.specs.Meaning.{opens, attributes_in, cdata_in, means, maybe, rising, encode}
use Rattle.format.specs.Loaded.{stored, store_in, loaded_in}
use Rattle.format.specs.Same.{same_octets}
use Rattle.format.specs.Calls.{Lists, places, lay, tree_given}

-- what is lent: the record list, a seventh list with the size of each record's body in normal form, and the store of expanded texts, normal values and plain octets
pub record Memory : Type 0 where
  pub lists : Lists
  pub bodies : List ℕ
  pub store : List ℕ

-- the shortest of the seven lists gives the places
unfoldable pub places_in : Memory → ℕ
places_in m = min (places m.lists) (length m.bodies)

-- the body of an item in normal form (document 01, Records and meaning): of one that holds items what `encode` frames, in which a default has no part (change request
-- 2026-05); of any other, a default too, what the store has of it
unfoldable pub normal_body : (parent tag : ℕ) → List ℕ → Items → List ℕ
normal_body parent tag body inside =
    let held = rising 128 0x80 (attributes_in [] tag inside) ++ (encode (means [] inside) ++ maybe (framed 1) (cdata_in [] inside)) in
    cond (opens tag) held (stored [] (known parent tag) body)

-- the sizes of these bodies, in the order of the records, of a tree over a store, which has no token table
unfoldable pub body_sizes : ℕ → Items → List ℕ
body_sizes parent end = []
body_sizes parent (item tag at body inside after) = length (normal_body parent tag body inside) ∷ (body_sizes tag inside ++ body_sizes parent after)

-- a tree over its store: each text, value and plain body right behind the one before it, in the order of the records, wherever they lay before
abbrev pub packed : Items → Items
packed t = loaded_in [] 0 0 t

abbrev pub packed_store : Items → List ℕ
packed_store t = store_in [] 0 t

-- a packed tree laid over what memory holds; what lies beyond stays
unfoldable pub lay_tree : Items → Memory → Memory
lay_tree t m = record { lists = lay 0 (records_of t) m.lists; bodies = sets m.bodies 0 (body_sizes 0 t); store = sets m.store 0 (packed_store t) }

-- ---- the tree that memory holds

unfoldable pub same_items : Items → Items → Bool
same_items end end = true
same_items end (item tag at body inside after) = false
same_items (item tag at body inside after) end = false
same_items (item tag at body inside after) (item tag' at' body' inside' after') =
    eqb tag tag' && eqb at at' && same_octets body body' && same_items inside inside' && same_items after after'

unfoldable pub kept : (Items → Bool) → Option Items → Option Items
kept f none = none
kept f (some t) = cond (f t) (some t) none

-- a tree is packed, each of its n records has the right size of its body, and its normal form is no longer than an object may be (document 01, 1 of the refusal
-- numbers)
unfoldable pub in_order : ℕ → List ℕ → Items → Bool
in_order n bodies t = same_items t (packed t) && (same_octets (take n bodies) (body_sizes 0 t) && leb (length (encode (means [] t))) 32_768)

-- the tree of the first n records, where each has a place in all seven lists and they are well-formed (document 01, 16 of the refusal numbers)
abbrev pub tree_in : ℕ → Memory → Option Items
tree_in n m = cond (leb n (length m.bodies)) (tree_given n m.lists m.store) none

-- and lie as `lay_tree` lays them
unfoldable pub tree_held : ℕ → Memory → Option Items
tree_held n m = kept (in_order n m.bodies) (tree_in n m)
