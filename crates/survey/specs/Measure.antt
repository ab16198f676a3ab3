-- What is measured in the octets of an object before anything is written. It is told of accepted objects alone.
use Rattle.std.specs.Prelude.{◌≡◌, cond, List, [], ℕ, length, Option, Some, None}
use Rattle.octets.specs.Counts.{as_octets, size_of, octets_within}
use Rattle.format.specs.Tree.{Items}
use Rattle.format.specs.Judge.{judge}
use Rattle.format.specs.Judge.Judged.{accepted}
use Rattle.format.specs.Meaning.{normal_of}
use Rattle.format.specs.Loaded.{store_in, store_of}
use Rattle.judge.specs.Inside.{judge_inside}
use Rattle.survey.specs.Normal.{normal_size}
use Rattle.survey.specs.Sizes.{sizes_of}
use Rattle.survey.specs.Makers.{store_octets}
use Rattle.survey.specs.declared.measure.Sizes.{Sizes}

-- how many octets of a store an object needs, and how many its normal form has; that it has more than an object may have (document 01, Refusal numbers: 15)
unfoldable pub measured_of : Items → Option Sizes
measured_of t = cond (octets_within (size_of (normal_of t)) (as_octets 32_768)) (Some (store_octets (size_of (store_of t)) (size_of (normal_of t)))) None

unfoldable pub Measures : List ℕ → Option Sizes → Type 0
Measures object r = (t : Items) → judge object ≡ accepted t → r ≡ measured_of t

-- the same of items of an element of a tag, by themselves, where there is no token table
unfoldable pub measured_in : ℕ → Items → Option Sizes
measured_in element t = sizes_of (length (store_in [] element t)) (normal_size element t)

unfoldable pub MeasuresInside : (element depth : ℕ) → List ℕ → Option Sizes → Type 0
MeasuresInside element depth octets r = (t : Items) → judge_inside element depth octets ≡ accepted t → r ≡ measured_in element t
