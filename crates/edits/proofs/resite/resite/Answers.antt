use Rattle.edits.proofs.Carrying.{bodies-carry, starts-carry, resited}
use Rattle.edits.proofs.resite.resite.Goals as goal

pub raise-requires : goal.raise-requires
raise-requires c = (c.requires.climbs, c.requires.small, c.requires.fits)

pub move_to-requires : goal.move_to-requires
move_to-requires c = c.requires.store

pub move_to-requires-2 : goal.move_to-requires-2
move_to-requires-2 c = c.requires.tags

pub move_to-requires-3 : goal.move_to-requires-3
move_to-requires-3 c = c.requires.kinds

pub move_to-requires-4 : goal.move_to-requires-4
move_to-requires-4 c = c.requires.depths

pub carry_parents-requires : goal.carry_parents-requires
carry_parents-requires c = c.requires.parents

pub carry_starts-requires : goal.carry_starts-requires
carry_starts-requires c = starts-carry _ _ c.requires _ c.move_to-2.ensures

pub move_to-requires-5 : goal.move_to-requires-5
move_to-requires-5 c = c.requires.sizes

pub move_to-requires-6 : goal.move_to-requires-6
move_to-requires-6 c = bodies-carry _ _ c.requires _ c.raise.ensures

pub returns : goal.returns
returns c = resited _ _ c.requires _ _ _ _ _ _ _ _ _ c.raise.ensures c.move_to.ensures c.move_to-2.ensures c.move_to-3.ensures c.move_to-4.ensures
    c.carry_parents.ensures c.carry_starts.ensures c.move_to-5.ensures c.move_to-6.ensures
