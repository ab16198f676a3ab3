-- The words of an object as code keeps them, by where each begins and how long it is; how often one is used; and which save most.
use Rattle.std.specs.Prelude.{◌≡◌, cond, not, List, [], ◌∷◌, map, ℕ, zero, suc, ◌+◌, ◌*◌, ◌-◌, ◌%◌, ◌≤◌, ◌<◌, eqb, length, get_or, take, drop}
use Rattle.format.specs.Same.{same_octets}
use Rattle.fold.specs.Words.{uses, is_among, Tally, tallied, saved, ranked, chosen}
use Rattle.packer.specs.declared.ranking.Word.{Word}
use Rattle.packer.specs.declared.ranking.Best.{Best}
use Rattle.packer.specs.Ranks.{listed, Kept}

-- the word of a number, and so many words from a number on
unfoldable pub word_at : (object starts sizes : List ℕ) → ℕ → List ℕ
word_at object starts sizes j = take (get_or sizes j 0) (drop (get_or starts j 0) object)

unfoldable pub words_from : (object starts sizes : List ℕ) → (j count : ℕ) → List (List ℕ)
words_from object starts sizes j zero = []
words_from object starts sizes j (suc k) = word_at object starts sizes j ∷ words_from object starts sizes (suc j) k

-- the first n words lie in the object
pub record Noted (object starts sizes : List ℕ) (n : ℕ) : Type 0 where
  pub few : n ≤ 32_768
  pub begins : n ≤ length starts
  pub long : n ≤ length sizes
  pub inside : (j : ℕ) → j < n → get_or starts j 0 + get_or sizes j 0 ≤ length object
  pub short : (j : ℕ) → j < n → get_or sizes j 0 ≤ 255

-- a number of one octet that is made of a word
unfoldable pub key_from : ℕ → List ℕ → ℕ
key_from k [] = k
key_from k (b ∷ bs) = key_from ((k * 31 + b) % 251) bs

unfoldable pub key_of : List ℕ → ℕ
key_of w = key_from 0 w

-- the first n words have their keys
pub record Keyed (object starts sizes keys : List ℕ) (n : ℕ) : Type 0 where
  pub long : n ≤ length keys
  pub key : (j : ℕ) → j < n → get_or keys j 0 ≡ key_of (word_at object starts sizes j)

-- from a place up to another none of the first n words has a key
pub record Passes (keys : List ℕ) (key at n r : ℕ) : Type 0 where
  pub onward : at ≤ r
  pub within : r ≤ n
  pub differ : (k : ℕ) → at ≤ k → k < r → get_or keys k 0 ≡ key → ⊥

-- the uses of a word from number i on are counted and marked
pub record Counts (object starts sizes before after : List ℕ) (i n r : ℕ) : Type 0 where
  pub answers : r ≡ uses (word_at object starts sizes i) (words_from object starts sizes i (n - i))
  pub small : r ≤ 32_768
  pub long : length after ≡ length before
  pub marks : (j : ℕ) → i ≤ j → j < n → get_or after j 0 ≡ cond (same_octets (word_at object starts sizes i) (word_at object starts sizes j)) 1 (get_or before j 0)

-- a word that is kept shows a tally
pub record Shown (object : List ℕ) (w : Word) (u : Tally) : Type 0 where
  pub word : take w.size (drop w.start object) ≡ u.0
  pub number : w.saved ≡ saved u
  pub inside : w.start + w.size ≤ length object
  pub short : w.size ≤ 255

abbrev pub Shows : List ℕ → List Word → List Tally → Type 0
Shows object [] [] = Unit {0}
Shows object [] (u ∷ us) = ⊥
Shows object (w ∷ ws) [] = ⊥
Shows object (w ∷ ws) (u ∷ us) = Shown object w u × Shows object ws us

-- how far the choice has come: the words from number i on are still to be ranked. A word is marked where one before it is the same
pub record Chooses (object starts sizes done : List ℕ) (n : ℕ) (best : Best) (i : ℕ) : Type 0 where
  pub within : i ≤ n
  pub places : n ≤ length done
  pub seen : List (List ℕ)
  pub all : List Tally
  pub marks : (j : ℕ) → i ≤ j → j < n → eqb (get_or done j 0) 0 ≡ not (is_among (word_at object starts sizes j) seen)
  pub same : ranked [] (tallied [] (words_from object starts sizes 0 n)) ≡ ranked all (tallied seen (words_from object starts sizes i (n - i)))
  pub keeps : Kept best
  pub shows : Shows object (listed best) (take 16 all)

-- the words that are kept are those that the definition takes, and lie in the object
abbrev pub AllInside : List ℕ → List Word → Type 0
AllInside object [] = Unit {0}
AllInside object (w ∷ ws) = (w.start + w.size ≤ length object) × (w.size ≤ 255) × AllInside object ws

pub record Taken (object starts sizes : List ℕ) (n : ℕ) (best : Best) : Type 0 where
  pub keeps : Kept best
  pub inside : AllInside object (listed best)
  pub are : map (λ (w : Word). take w.size (drop w.start object)) (listed best) ≡ chosen (words_from object starts sizes 0 n)

-- no word is kept yet
pub record IsEmpty (best : Best) : Type 0 where
  pub none : best.count ≡ 0
  pub long : length best.words ≡ 16
