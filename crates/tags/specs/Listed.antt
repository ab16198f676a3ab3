-- What is listed of an item, by the kind of its body: an unknown one and the token table have no record (document 01, Records and meaning).
use Rattle.std.proofs.Math.Option.{Option, none, some}
use Rattle.values.specs.declared.Kind.{Kind}
use Rattle.values.specs.declared.Kind.TheVariants.{HoldsItems, HoldsTokens, HoldsText, HoldsPlain, HoldsTime, HoldsBearer, HoldsNumber}
use Rattle.tags.specs.declared.Listed.{Listed}
use Rattle.tags.specs.declared.Listed.TheVariants.{Nothing, Inside, Value}

unfoldable pub listed_as : Option Kind → Listed
listed_as none = Nothing
listed_as (some HoldsItems) = Inside
listed_as (some HoldsTokens) = Nothing
listed_as (some HoldsText) = Value HoldsText
listed_as (some HoldsPlain) = Value HoldsPlain
listed_as (some HoldsTime) = Value HoldsTime
listed_as (some HoldsBearer) = Value HoldsBearer
listed_as (some (HoldsNumber n)) = Value (HoldsNumber n)
