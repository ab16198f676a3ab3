-- Request 2026-08 of merging and packing: no body above 32,768 octets is written there either.
use Rattle.std.specs.Prelude.{◌≡◌, true, cond, ◌⊎◌, List, [], ℕ, ◌≤◌, length, take, Ok}
use Rattle.octets.specs.declared.counts.Octets.{Octets as OctetCount}
use Rattle.octets.specs.Numbers.{Octets}
use Rattle.octets.specs.Header.{framed}
use Rattle.text.specs.Tokens.{Entries}
use Rattle.values.specs.Table.{known, attribute}
use Rattle.format.specs.Tree.{Items}
use Rattle.format.specs.Tree.Items.{end, item}
use Rattle.format.specs.Judge.{is_text, judge}
use Rattle.format.specs.Judge.Judged.{accepted}
use Rattle.format.specs.Meaning.{opens, meaning_of}
use Rattle.format.specs.State.{Memory}
use Rattle.format.specs.Bodies.{Bodies}
use Rattle.merge.specs.declared.Services.{Services}
use Rattle.merge.specs.Merged.{merged}
use Rattle.merge.specs.Calls.{MergeClaim, records_size}
use Rattle.fold.specs.Words.{words_in, chosen}
use Rattle.fold.specs.Packed.{tokens, entries_of, table_octets, folded, refolded, folded_by}
use Rattle.fold.specs.Calls.{PackClaim}

-- what merge writes is the normal form of a meaning without such bodies
abbrev pub MergeBodies : Type 0
MergeBodies =
    (by : Services) (basic advanced : List ℕ) (m m' : Memory) (room room' : List ℕ) (n : ℕ) (size : OctetCount)
    → MergeClaim by basic advanced m m' room room' (Ok (records_size n size))
    → (t : Items) × (u : Items) × (judge basic ≡ accepted t) × (judge advanced ≡ accepted u) × Bodies 32_768 (merged by (meaning_of t) (meaning_of u))

-- the bodies that `refolded` (fold/specs/Packed) frames, none above n octets: what stands in an element that holds items, and in the same way the bodies in it; a folded
-- text; any other body as it stands
abbrev pub Refolded : ℕ → Entries → (table : List ℕ) (parent : ℕ) → Items → Type 0
Refolded n es table parent end = Unit {0}
Refolded n es table parent (item tag at body inside after) =
    (length (cond (opens tag) (refolded es [] tag inside) (cond (is_text (known parent tag)) (folded es body) body)) ≤ n)
    × (opens tag ≡ true → Refolded n es [] tag inside) × Refolded n es (cond (attribute tag) table []) parent after

-- those that `folded_by` frames: the body of the top, the token table, and all in the top
abbrev pub Folded : ℕ → List (List ℕ) → Items → Type 0
Folded n ws end = Unit {0}
Folded n ws (item tag at body inside after) =
    let es = entries_of tokens ws in
    let table = framed 4 (table_octets es) in
    (length (refolded es table tag inside) ≤ n) × (length (table_octets es) ≤ n) × Refolded n es table tag inside

-- what pack writes is the normal form that it was given, which has no such bodies, or that object with words folded, which has none either
abbrev pub PackBodies : Type 0
PackBodies =
    (object room room' : List ℕ) (k : OctetCount) → Octets object → PackClaim object room room' (Ok k)
    → (t : Items) × (judge object ≡ accepted t)
    × (((take k.0 room' ≡ object) × Bodies 32_768 (meaning_of t))
    ⊎ ((take k.0 room' ≡ folded_by (chosen (words_in 0 t)) t) × Folded 32_768 (chosen (words_in 0 t)) t))
