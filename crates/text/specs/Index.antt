-- A token table gone through once, for writing: what stands at each of the 32 places of its index, and which entries an index tells of a table.
use Rattle.std.specs.Prelude.{◌≡◌, Bool, cond, ◌&&◌, List, [], ◌∷◌, ℕ, zero, suc, ◌-◌, ◌≤◌, ◌<◌, max, eqb, leb, ltb, length, get_or, take, drop, set}
use Rattle.std.specs.Prelude.{Option, Some, None}
use Rattle.text.specs.Text.{token}
use Rattle.text.specs.Tokens.{Entries}
use Rattle.text.specs.Leaves.{replaced_by}
use Rattle.octets.specs.declared.Span.{Span}
use Rattle.octets.specs.Calls.{span}

-- where the text of an entry begins; 0: there is none
unfoldable pub start_of : Option Span → ℕ
start_of (Some x) = x.start
start_of None = 0

-- how many octets the longest text of an entry has, and 1 where all are empty: at most so many stand for an octet
unfoldable pub longest : Entries → ℕ
longest [] = 1
longest (e ∷ es) = max (length e.1) (longest es)

-- the index of entries: at the place of 0, which is no token, the longest text; at each other where the text begins that stands for its number
pub record Indexes (es : Entries) (index : List ℕ) : Type 0 where
  pub long : length index ≡ 32
  pub widest : get_or index 0 0 ≡ longest es
  pub each : (k : ℕ) → 0 < k → k < 32 → get_or index k 0 ≡ start_of (replaced_by es k)

-- an index with one entry more: a token without one gets where its text begins
unfoldable pub noted : List ℕ → ℕ → ℕ → List ℕ
noted index tag start = cond (token tag && eqb (get_or index tag 0) 0) (set index tag start) index

-- a text of such a place and length may be taken from a table by any index: it lies inside the table and is no longer than the index says
unfoldable pub usable : List ℕ → List ℕ → ℕ → ℕ → Bool
usable index table start size = ltb 0 start && leb start (length table) && leb size (length table - start) && leb size (get_or index 0 0)

-- a text with its length octet before it, by where it begins
unfoldable pub place_at : List ℕ → List ℕ → ℕ → Option Span
place_at index table start = cond (usable index table start (get_or table (start - 1) 0)) (Some (span start (get_or table (start - 1) 0))) None

-- where the text lies that stands for an octet, by any index; None: the octet stands for itself
unfoldable pub place_by : List ℕ → List ℕ → ℕ → Option Span
place_by index table b = cond (token b) (place_at index table (get_or index b 0)) None

-- the entries that an index tells of a table, those of octets below a number
unfoldable pub with_place : List ℕ → ℕ → Option Span → Entries → Entries
with_place table k (Some x) es = (k, take x.size (drop x.start table)) ∷ es
with_place table k None es = es

unfoldable pub entries_below : List ℕ → List ℕ → ℕ → Entries
entries_below index table zero = []
entries_below index table (suc k) = with_place table k (place_by index table k) (entries_below index table k)

unfoldable pub entries_by : List ℕ → List ℕ → Entries
entries_by index table = entries_below index table 32

-- a number that no text of such entries is longer than
pub record Bounds (index : List ℕ) (n : ℕ) : Type 0 where
  pub some : 0 < n
  pub widest : get_or index 0 0 ≤ n
