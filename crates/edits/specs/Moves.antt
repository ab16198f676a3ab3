-- How lists and the store follow a cut: what lies behind it moves as one part, and numbers that point there follow. Who reads the request has to believe none of
-- this.
use Rattle.std.specs.Prelude.{◌≡◌, false, List, ℕ, ◌+◌, ◌-◌, ◌≤◌, ◌<◌, length, get_or, take, drop}
use Rattle.std.proofs.lemmas.List.Edits.{sets}
use Rattle.format.specs.Meaning.{opens}
use Rattle.edits.specs.declared.moving.Move.{Move}
use Rattle.edits.specs.Sites.{shifted}

-- the part from one place up to another has its places, there and where it goes
pub record Carries {A : Type 0} (m : Move) (l : List A) : Type 0 where
  pub order : m.from ≤ m.end
  pub inside : m.end ≤ length l
  pub room : m.to + (m.end - m.from) ≤ length l

-- it lies there then, changed as said
abbrev pub carried : {A : Type 0} → Move → (List A → List A) → List A → List A
carried m f l = sets l m.to (f (take (m.end - m.from) (drop m.from l)))

-- each number of a part has its place and can be stored
pub record Renumbers (first last from to : ℕ) (parents : List ℕ) : Type 0 where
  pub order : first ≤ last
  pub inside : last ≤ length parents
  pub small : (i : ℕ) → first ≤ i → i < last → shifted from to (get_or parents i 0) ≤ 65_535

-- so has each of a part that moves
pub record CarriesParents (m : Move) (parents : List ℕ) : Type 0 where
  pub part : Carries m parents
  pub small : (i : ℕ) → m.from ≤ i → i < m.end → shifted m.from m.to (get_or parents i 0) ≤ 65_535

-- likewise each place in the store of a body that lies behind what moves
abbrev pub Movable : (was is tag start : ℕ) → Type 0
Movable was is tag start = opens tag ≡ false → (was ≤ start) × (start - was + is ≤ 65_535)

pub record Shifts (first last was is : ℕ) (tags starts : List ℕ) : Type 0 where
  pub order : first ≤ last
  pub tagged : last ≤ length tags
  pub inside : last ≤ length starts
  pub movable : (i : ℕ) → first ≤ i → i < last → Movable was is (get_or tags i 0) (get_or starts i 0)

-- of a part that moves, once the tags have moved
pub record CarriesStarts (m : Move) (was is : ℕ) (tags starts : List ℕ) : Type 0 where
  pub part : Carries m starts
  pub tagged : m.to + (m.end - m.from) ≤ length tags
  pub movable : (k : ℕ) → k < m.end - m.from → Movable was is (get_or tags (m.to + k) 0) (get_or starts (m.from + k) 0)
