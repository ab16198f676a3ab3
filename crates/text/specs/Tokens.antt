-- Tokens, their table, and expansion (document 01, Values: Tokens; 002, clause 4.9).
use Rattle.std.specs.Prelude.{Bool, true, false, cond, not, ◌&&◌, ◌||◌, List, [], ◌∷◌, ◌++◌, ℕ, zero, suc, ◌+◌, ◌/◌, eqb, leb, length, take, drop}
use Rattle.std.proofs.Math.Option.{Option, none, some}
use Rattle.octets.specs.declared.counts.Octets.{Octets}
use Rattle.octets.specs.declared.counts.Characters.{Characters}
use Rattle.octets.specs.Counts.{as_characters, size_of}
use Rattle.octets.specs.Numbers.{among}
use Rattle.text.specs.Text.{token, text}

-- the entries of a table: the token octet and the text that it stands for
abbrev pub Entries : Type 0
Entries = List (ℕ × List ℕ)

-- the entries in a table's octets, each a tag octet, a length octet and its text, up to the first that runs past the end. The first number is above the
-- length of what is left
unfoldable pub cut : ℕ → List ℕ → Entries
cut zero o = []
cut (suc k) [] = []
cut (suc k) (tag ∷ []) = []
cut (suc k) (tag ∷ n ∷ o) = let all : Entries = (tag, take n o) ∷ cut k (drop n o) in cond (leb n (length o)) all []

unfoldable pub entries : List ℕ → Entries
entries o = cut (suc (length o)) o

-- rule 11 for entries that follow those with the tags seen: they fill the table, each tag is a token octet that no earlier entry has, and each text is
-- valid and holds no token octet; it may be empty
unfoldable pub filled : ℕ → List ℕ → List ℕ → Bool
filled zero seen o = false
filled (suc k) seen [] = true
filled (suc k) seen (tag ∷ []) = false
filled (suc k) seen (tag ∷ n ∷ o) =
    let rest = filled k (tag ∷ seen) (drop n o) in
    leb n (length o) && token tag && not (among tag seen) && text false (take n o) && rest

-- rule 11: octets that are a token table
unfoldable pub is_table : List ℕ → Bool
is_table o = filled (suc (length o)) [] o

-- the text of the first entry with a tag
unfoldable pub entry : Entries → ℕ → Option (List ℕ)
entry [] b = none
entry (e ∷ es) b = cond (eqb b e.0) (some e.1) (entry es b)

unfoldable pub or_itself : Option (List ℕ) → ℕ → List ℕ
or_itself none b = b ∷ []
or_itself (some o) b = o

-- what one octet of a text stands for: a token octet for the text of its entry, any other octet for itself
unfoldable pub stands : Entries → ℕ → List ℕ
stands table b = cond (token b) (or_itself (entry table b) b) (b ∷ [])

-- a text with the text of its entry in place of each token octet, all other octets as they are
unfoldable pub expanded : Entries → List ℕ → List ℕ
expanded table [] = []
expanded table (b ∷ bs) = stands table b ++ expanded table bs

unfoldable pub present : {A : Type 0} → Option A → Bool
present none = false
present (some a) = true

-- rule 12: each token octet has an entry
unfoldable pub covers : Entries → ℕ → Bool
covers table b = not (token b) || present (entry table b)

unfoldable pub covered : Entries → List ℕ → Bool
covered table [] = true
covered table (b ∷ bs) = covers table b && covered table bs

-- how many characters octets of text are: as many as don't begin with the bits 10, since each character has just one such octet, its first. In valid text that is
-- the number of characters that the definition of UTF-8 goes through (proofs/Counted, characters-are)
unfoldable pub starts : List ℕ → ℕ
starts [] = 0
starts (b ∷ bs) = cond (eqb (b / 64) 2) 0 1 + starts bs

-- how much of a text is shown: the characters of its expansion, which rule 13 holds against a limit (document 01, Lengths of shown text: change request 2026-01 has
-- characters in place of octets)
unfoldable pub shown_length : Entries → List ℕ → Characters
shown_length table o = as_characters (starts (expanded table o))

-- how much an expanded text takes in a store or a room: its octets
unfoldable pub expanded_size : Entries → List ℕ → Octets
expanded_size table o = size_of (expanded table o)
