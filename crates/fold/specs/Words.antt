-- The words that the plain packer folds: which runs of letters count, how often each is used, and which are taken (request 2026-11).
use Rattle.std.specs.Prelude.{Bool, true, false, cond, ◌&&◌, ◌||◌, List, [], ◌∷◌, ◌++◌, map, ℕ, ◌+◌, ◌*◌, ◌-◌, eqb, leb, length, take}
use Rattle.text.specs.Runs.{within}
use Rattle.values.specs.Table.{known}
use Rattle.format.specs.Tree.{Items}
use Rattle.format.specs.Tree.Items.{end, item}
use Rattle.format.specs.Judge.{is_text}
use Rattle.format.specs.Same.{same_octets}

-- an ASCII letter, A to Z or a to z
unfoldable pub letter : ℕ → Bool
letter b = within 0x41 0x5A b || within 0x61 0x7A b

unfoldable pub all_letters : List ℕ → Bool
all_letters [] = true
all_letters (b ∷ o) = letter b && all_letters o

-- a text cut into its whole runs of letters and the single octets between them. The first list is the run so far; a run may be empty
unfoldable pub pieces : List ℕ → List ℕ → List (List ℕ)
pieces run [] = run ∷ []
pieces run (b ∷ o) =
    let on = pieces (run ++ (b ∷ [])) o in
    let anew = run ∷ (b ∷ []) ∷ pieces [] o in
    cond (letter b) on anew

-- a piece that counts: 4 to 255 letters
unfoldable pub is_word : List ℕ → Bool
is_word w = leb 4 (length w) && leb (length w) 255 && all_letters w

unfoldable pub words_among : List (List ℕ) → List (List ℕ)
words_among [] = []
words_among (w ∷ ws) = cond (is_word w) (w ∷ []) [] ++ words_among ws

-- each use of a word, in reading order, in the texts among the items of an element: CDATA, text attributes and 0x06
unfoldable pub words_in : ℕ → Items → List (List ℕ)
words_in parent end = []
words_in parent (item tag at body inside after) =
    cond (is_text (known parent tag)) (words_among (pieces [] body)) [] ++ (words_in tag inside ++ words_in parent after)

-- how often a word comes in a list of words
unfoldable pub uses : List ℕ → List (List ℕ) → ℕ
uses w [] = 0
uses w (v ∷ vs) = cond (same_octets w v) 1 0 + uses w vs

unfoldable pub is_among : List ℕ → List (List ℕ) → Bool
is_among w [] = false
is_among w (v ∷ vs) = same_octets w v || is_among w vs

-- a word with how often it is used
abbrev pub Tally : Type 0
Tally = List ℕ × ℕ

-- the words by first use, each once, with its uses; the first list has those that came before
unfoldable pub tallied : List (List ℕ) → List (List ℕ) → List Tally
tallied seen [] = []
tallied seen (w ∷ ws) = cond (is_among w seen) [] ((w, uses w (w ∷ ws)) ∷ []) ++ tallied (w ∷ seen) ws

-- the octets that folding a word of so many octets saves, used so often: each use becomes one octet, and the entry takes a tag octet, a length octet and the
-- word. 0 where it saves none
unfoldable pub saved_by : (uses size : ℕ) → ℕ
saved_by uses size = uses * (size - 1) - (size + 2)

abbrev pub saved : Tally → ℕ
saved u = saved_by u.1 (length u.0)

-- a list by falling numbers, with one more: it goes behind those whose number is as large or larger, and before the others
unfoldable pub insert : {A : Type 0} → (A → ℕ) → A → List A → List A
insert f u [] = u ∷ []
insert f u (v ∷ vs) = cond (leb (f u) (f v)) (v ∷ insert f u vs) (u ∷ v ∷ vs)

-- the words that save anything, by octets saved, an earlier one first on a tie. The first list is what is ranked so far
unfoldable pub ranked : List Tally → List Tally → List Tally
ranked best [] = best
ranked best (u ∷ us) = ranked (cond (eqb (saved u) 0) best (insert saved u best)) us

-- the words that are taken, at most sixteen
unfoldable pub chosen : List (List ℕ) → List (List ℕ)
chosen ws = map (λ u. u.0) (take 16 (ranked [] (tallied [] ws)))
