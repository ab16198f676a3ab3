-- The loaded tree of an accepted object: the same items over a store of expanded texts, normal values and plain octets, packed in record order, and with no
-- token table. It is a function of the records, texts and values alone (docs/DECISIONS.md, store).
use Rattle.std.specs.Prelude.{cond, List, [], ◌++◌, ℕ, ◌+◌, eqb, length}
use Rattle.std.proofs.Math.Option.{Option, none, some}
use Rattle.text.specs.Tokens.{Entries}
use Rattle.values.specs.declared.Kind.{Kind}
use Rattle.values.specs.Table.{known}
use Rattle.values.specs.Values.{meant, octets_of}
use Rattle.format.specs.Tree.{Items}
use Rattle.format.specs.Tree.Items.{end, item}
use Rattle.format.specs.Meaning.{opens, table_of}

-- what a known item that holds no items takes of the store
unfoldable pub stored : Entries → Option Kind → List ℕ → List ℕ
stored table none o = []
stored table (some k) o = octets_of (meant table k o)

-- the store of the items in an element
unfoldable pub store_in : Entries → ℕ → Items → List ℕ
store_in table parent end = []
store_in table parent (item tag at body inside after) =
    let inner = store_in table tag inside in
    let own = stored table (known parent tag) body in
    cond (eqb tag 4) [] (cond (opens tag) inner own) ++ store_in table parent after

-- those items over a store that is filled up to a place; an element that holds items has the span (0, 0)
unfoldable pub loaded_in : Entries → (parent at : ℕ) → Items → Items
loaded_in table parent at end = end
loaded_in table parent at (item tag from body inside after) =
    let own = stored table (known parent tag) body in
    let held = item tag 0 [] (loaded_in table tag at inside) (loaded_in table parent (at + length (store_in table tag inside)) after) in
    let single = item tag at own end (loaded_in table parent (at + length own) after) in
    cond (eqb tag 4) (loaded_in table parent at after) (cond (opens tag) held single)

abbrev pub store_of : Items → List ℕ
store_of t = store_in (table_of t) 0 t

abbrev pub loaded_of : Items → Items
loaded_of t = loaded_in (table_of t) 0 0 t
