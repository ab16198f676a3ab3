-- The answer of measuring, made of its two counts: what claims and statements name it by.
use Rattle.octets.specs.declared.counts.Octets.{Octets}
use Rattle.survey.specs.declared.measure.Sizes.{Sizes}

abbrev pub store_octets : (store octets : Octets) → Sizes
store_octets store octets = record { store = store; octets = octets }
