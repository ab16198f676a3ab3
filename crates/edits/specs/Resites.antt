-- An edit opens or closes a gap in the lists and in the store: what is asked of memory, and what it then holds. Who reads the request has to believe none of this.
use Rattle.std.specs.Prelude.{◌≡◌, map, ℕ, ◌≤◌, ◌<◌, get_or}
use Rattle.std.proofs.lemmas.List.Edits.{sets}
use Rattle.octets.specs.Places.{between}
use Rattle.format.specs.State.{Memory}
use Rattle.edits.specs.declared.resite.Gap.{Gap}
use Rattle.edits.specs.Sites.{shifted, shifted_starts}
use Rattle.edits.specs.Sizes.{raised, up_from, Climbs}
use Rattle.edits.specs.Moves.{Carries, CarriesParents, Movable, carried}

-- all lists have their places, numbers and places that follow can be stored, and the sizes of the elements around stay within an object's
pub record Resites (g : Gap) (m : Memory) : Type 0 where
  pub tags : Carries g.records m.lists.tags
  pub kinds : Carries g.records m.lists.kinds
  pub depths : Carries g.records m.lists.depths
  pub parents : CarriesParents g.records m.lists.parents
  pub starts : Carries g.records m.lists.starts
  pub sizes : Carries g.records m.lists.sizes
  pub bodies : Carries g.records m.bodies
  pub store : Carries g.octets m.store
  pub movable : (i : ℕ) → g.records.from ≤ i → i < g.records.end
      → Movable g.octets.from g.octets.to (get_or m.lists.tags i 0) (get_or m.lists.starts i 0)
  pub climbs : Climbs m.lists.parents m.bodies g.element g.was.0
  pub low : g.element < g.records.from
  pub small : g.is.0 < 65_536
  pub fits : get_or (raised (up_from m.lists.parents g.element) g.was.0 g.is.0 m.bodies) 0 0 ≤ 32_768

-- what lay behind the gap lies there then, and the elements around have their sizes; what is to be put in isn't laid yet
pub record Resited (g : Gap) (m m' : Memory) : Type 0 where
  pub tags : m'.lists.tags ≡ carried g.records (λ l. l) m.lists.tags
  pub kinds : m'.lists.kinds ≡ carried g.records (λ l. l) m.lists.kinds
  pub depths : m'.lists.depths ≡ carried g.records (λ l. l) m.lists.depths
  pub parents : m'.lists.parents ≡ carried g.records (map (shifted g.records.from g.records.to)) m.lists.parents
  pub starts : m'.lists.starts
      ≡ carried g.records (shifted_starts g.octets.from g.octets.to (between m.lists.tags g.records.from g.records.end)) m.lists.starts
  pub sizes : m'.lists.sizes ≡ carried g.records (λ l. l) m.lists.sizes
  pub bodies : m'.bodies
      ≡ sets (raised (up_from m.lists.parents g.element) g.was.0 g.is.0 m.bodies) g.records.to
      (between m.bodies g.records.from g.records.end)
  pub store : m'.store ≡ carried g.octets (λ l. l) m.store
