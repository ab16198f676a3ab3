use mathlib.Core.Path.{refl}
use Prim.Native.Nat.{◌+◌, ◌/◌, ◌^◌}
use Rattle.values.specs.Index.{digit_of}
use Rattle.values.proofs.Lookup.{place-fits, place-small}
use Rattle.values.proofs.table.digit_of.Goals as goal

pub overflow_mul-result : goal.overflow_mul-result
overflow_mul-result c = place-fits (c.args.pair / 2 ^ 8 + 1)

pub overflow_shl-result : goal.overflow_shl-result
overflow_shl-result c = place-small (c.args.pair / 2 ^ 8 + 1)

pub returns : goal.returns
unfolding digit_of
returns c = refl
