use mathlib.Core.Path.{refl}
use Rattle.format.proofs.Stays.{stay-same}
use Rattle.format.proofs.Lays.{within-counted, put-counted, kept-counted}
use borrow.Author.Rules.{rules}
use Rattle.format.proofs.lent.RecordsMut.put.Goals as goal

pub bounds-self-i : goal.bounds-self-i
bounds-self-i c = (within-counted _ _ _ c.places.ensures c.if-i-places.true).tags

pub bounds-self-i-then-i-places : goal.bounds-self-i-then-i-places
bounds-self-i-then-i-places c = (within-counted _ _ _ c.places.ensures c.if-i-places.true).kinds

pub bounds-self-i-then-i-places-2 : goal.bounds-self-i-then-i-places-2
bounds-self-i-then-i-places-2 c = (within-counted _ _ _ c.places.ensures c.if-i-places.true).depths

pub offset_bounds-self-i : goal.offset_bounds-self-i
offset_bounds-self-i c = search ((within-counted _ _ _ c.places.ensures c.if-i-places.true).parents, rules)

pub bounds-self-i-then-i-places-3 : goal.bounds-self-i-then-i-places-3
bounds-self-i-then-i-places-3 c = (within-counted _ _ _ c.places.ensures c.if-i-places.true).parents

pub offset_bounds-self-i-then-i-places : goal.offset_bounds-self-i-then-i-places
offset_bounds-self-i-then-i-places c = search ((within-counted _ _ _ c.places.ensures c.if-i-places.true).starts, rules)

pub bounds-self-i-then-i-places-4 : goal.bounds-self-i-then-i-places-4
bounds-self-i-then-i-places-4 c = (within-counted _ _ _ c.places.ensures c.if-i-places.true).starts

pub offset_bounds-self-i-then-i-places-2 : goal.offset_bounds-self-i-then-i-places-2
offset_bounds-self-i-then-i-places-2 c = search ((within-counted _ _ _ c.places.ensures c.if-i-places.true).sizes, rules)

pub bounds-self-i-then-i-places-5 : goal.bounds-self-i-then-i-places-5
bounds-self-i-then-i-places-5 c = (within-counted _ _ _ c.places.ensures c.if-i-places.true).sizes

pub returns-then-i-places-clause-lists : goal.returns-then-i-places-clause-lists
returns-then-i-places-clause-lists c = put-counted _ _ _ c.places.ensures _ c.if-i-places.true

pub returns-else-i-places-clause-lists : goal.returns-else-i-places-clause-lists
returns-else-i-places-clause-lists c = kept-counted _ _ _ c.places.ensures _ c.if-i-places.false

pub returns-then-i-places-clause-stay : goal.returns-then-i-places-clause-stay
returns-then-i-places-clause-stay c = record { tags = refl; kinds = refl; depths = refl; parents = refl; starts = refl; sizes = refl }

pub returns-else-i-places-clause-stay : goal.returns-else-i-places-clause-stay
returns-else-i-places-clause-stay c = stay-same _
