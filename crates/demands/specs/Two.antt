-- Demand 2. An object is accepted exactly when it obeys the standard as document 01 condenses it; the tree handed out is the one those rules give. A well-formed
-- tree that fits is written so that it reads back with the same meaning.
--
-- The standard is the grammar (grammar/specs/Grammar): `Accepts object t` says that the octets are an object with the tree t. The premise `Octets` says that a list
-- has numbers below 256 only: every slice of octets has, so every list that code can hand in or get back.
use Rattle.std.specs.Prelude.{◌≡◌, ◌↔◌, List, [], ◌++◌, ℕ, suc, ◌≤◌, ◌<◌, length, take, drop, get_or, Result, Ok, Err}
use Rattle.std.proofs.lemmas.List.Edits.{sets}
use Rattle.octets.specs.declared.counts.Octets.{Octets as OctetCount}
use Rattle.octets.specs.Numbers.{Octets}
use Rattle.format.specs.declared.Record.{Record}
use Rattle.format.specs.declared.Refusal.{Refusal}
use Rattle.format.specs.Tree.{Items, count, records_of, bodies_of}
use Rattle.format.specs.Judge.{judge}
use Rattle.format.specs.Headers.{headers_of}
use Rattle.format.specs.Meaning.{means, table_of, meaning_of, encode}
use Rattle.format.specs.Writer.{tree, tabled}
use Rattle.format.specs.Calls.{Lists, row, places, judge_answer, span_of, body_at, ReadClaim, ReadRecordsClaim}
use Rattle.format.specs.State.{Memory, body_sizes}
use Rattle.format.specs.declared.Counts.{Counts}
use Rattle.state.specs.Taking.{WriteClaim}
use Rattle.grammar.specs.Grammar.{Accepts}
use Rattle.demands.specs.One.{LiesIn, GivenTree}

-- ---- an object is accepted exactly when it obeys the standard

-- none of 1 to 13 is answered exactly when the octets are an object of the grammar, whatever is lent
abbrev pub AcceptedExactly : Type 0
AcceptedExactly =
    (object : List ℕ) → Octets object → (before after : Lists) (answer : Result Counts Refusal) → ReadClaim object before after answer
    → ((r : Refusal) → r.number ≤ 13 → answer ≡ Err r → ⊥) ↔ ((t : Items) × Accepts object t)

-- read hands out n records exactly when the octets are an object of the grammar, its tree has n known items but the token table, and there are places for them; the
-- items that it counts are the headers of the object
abbrev pub ReadExactly : Type 0
ReadExactly =
    (object : List ℕ) → Octets object → (before after : Lists) (answer : Result Counts Refusal) → ReadClaim object before after answer → (n items : ℕ)
    → (answer ≡ Ok (record { records = n; items = items }))
    ↔ ((t : Items) × Accepts object t × (n ≡ count t) × (items ≡ headers_of object) × (n ≤ places before))

-- judge counts n records exactly when the octets are an object of the grammar whose tree has n known items but the token table; items likewise
abbrev pub JudgedExactly : Type 0
JudgedExactly =
    (object : List ℕ) → Octets object → (answer : Result Counts Refusal) → answer ≡ judge_answer (headers_of object) (judge object) → (n items : ℕ)
    → (answer ≡ Ok (record { records = n; items = items })) ↔ ((t : Items) × Accepts object t × (n ≡ count t) × (items ≡ headers_of object))

-- ---- the tree handed out is the one those rules give

-- octets are an object of the grammar with one tree at most
abbrev pub OneTree : Type 0
OneTree = (object : List ℕ) (t u : Items) → Accepts object t → Accepts object u → t ≡ u

-- `span` and `body`, asked for a record's number in lists that hold the n records of a tree: the span is the record's start and size, and the body is that of the
-- tree's item of that number, in reading order. The lists may be longer than n, and of different lengths
pub record BodiesFound (object : List ℕ) (t : Items) (lists : Lists) (n : ℕ) : Type 0 where
  pub many : length (bodies_of t) ≡ n
  pub span : (i : ℕ) → i < n → span_of object lists.starts lists.sizes i ≡ record { start = (row lists i).start; size = (row lists i).size }
  pub body : (i : ℕ) → i < n → body_at object (span_of object lists.starts lists.sizes i) ≡ get_or (bodies_of t) i []

-- n records of a tree stand in lists that held something before: as many as the tree has known items but the token table; the first n of the lists are these, in
-- reading order; behind them the lists are as before; each body is that very part of the object, and is found by its record's number; and the tree that the records
-- alone say, over the object, means what the object means (only the token table has no record)
pub record HandedOut (object : List ℕ) (t : Items) (before after : Lists) (n : ℕ) : Type 0 where
  pub many : n ≡ count t
  pub stand : tabled (row after) n 0 ≡ records_of t
  pub behind : (i : ℕ) → n ≤ i → row after i ≡ row before i
  pub lies : LiesIn object t
  pub found : BodiesFound object t after n
  pub regrown : means (table_of t) (tree (suc n) (row after) n object 1 0).0 ≡ meaning_of t

abbrev pub TreeHandedOut : Type 0
TreeHandedOut =
    (object : List ℕ) → Octets object → (before after : Lists) (n items : ℕ) → ReadClaim object before after (Ok (record { records = n; items = items }))
    → (t : Items) → Accepts object t → HandedOut object t before after n

-- read_records: the slice too has the records, and then what it had
abbrev pub SliceHandedOut : Type 0
SliceHandedOut =
    (object : List ℕ) → Octets object → (before after : Lists) (slice slice' : List Record) (n items : ℕ)
    → ReadRecordsClaim object before after slice slice' (Ok (record { records = n; items = items }))
    → (t : Items) → Accepts object t → HandedOut object t before after n × (slice' ≡ records_of t ++ drop n slice)

-- ---- a well-formed tree that fits is written so that it reads back with the same meaning

-- k octets at the front of the room are the normal form of a tree; read, they are an object of the grammar that means what the tree means; behind them the room is
-- as before
pub record ReadsBack (t : Items) (before after : List ℕ) (k : OctetCount) : Type 0 where
  pub octets : take k.0 after ≡ encode (means [] t)
  pub again : Items
  pub accepts : Accepts (take k.0 after) again
  pub means-same : meaning_of again ≡ means [] t
  pub behind : drop k.0 after ≡ drop k.0 before

abbrev pub WrittenReadsBack : Type 0
WrittenReadsBack =
    (n : ℕ) (memory : Memory) (bodies' before after : List ℕ) (answer : Result OctetCount Refusal) → Octets memory.store → Octets after
    → WriteClaim n memory bodies' before after answer
    → (t : Items) → GivenTree n memory t → length (encode (means [] t)) ≤ length before → length (encode (means [] t)) ≤ 32_768
    → (k : OctetCount) × (answer ≡ Ok k) × ReadsBack t before after k × (bodies' ≡ sets memory.bodies 0 (body_sizes 0 t))
