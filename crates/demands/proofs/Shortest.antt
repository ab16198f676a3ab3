-- Request 2026-13, by format's theorem on objects without a token table.
use mathlib.Core.Path.{◌≡◌, refl, sym, ap, ◌∙◌, subst}
use mathlib.Core.Bool.{true}
use mathlib.Core.Option.{some, some-injective}
use mathlib.Core.List.{List}
use Prim.Native.Nat.{ℕ, ◌≤◌}
use native.Mathlib.Omega.{arith}
use lib.ListN.{length}
use Rattle.octets.specs.Numbers.{Octets}
use Rattle.format.specs.Tree.{Items}
use Rattle.format.specs.Judge.{judge}
use Rattle.format.specs.Judge.Judged.{accepted}
use Rattle.format.specs.Meaning.{meaning_of, if_accepted, meaning, encode, normal_of, normal}
use Rattle.format.specs.Bench.{outcome, accented, slips}
use Rattle.format.specs.Bench.Outcome.{normally}
use Rattle.format.proofs.Rules.{accepted-size}
use Rattle.format.proofs.Round.{reread}
use Rattle.format.proofs.Normal.{accepted-is, accepted-ok, normal-means}
use Rattle.format.proofs.NormalOctets.{normal-octets}
use Rattle.format.proofs.Bench.{slipped}
use Rattle.format.proofs.Shortest.{plain-least}
use Rattle.demands.specs.Requests.{recommended}
use Rattle.demands.specs.Shortest.{Plain, ShortestPlain, NormalShortest, ElseNone, NormaliseShortest, seven_tokens, seven_times, Sharp}
use Rattle.demands.proofs.Laws.{accepted-means}
use Rattle.demands.proofs.Three.{normalised}
use Rattle.demands.proofs.Bench.{table-accepted}
use Rattle.demands.proofs.Requests.{row, are_octets, are-octets, yes-is}

-- no plain object that means what an accepted one means is shorter than the normal form of that one
none-shorter : (object : List ℕ) (t : Items) → judge object ≡ accepted t → (other : List ℕ) → Plain other → meaning other ≡ meaning object → length (normal_of t) ≤ length other
none-shorter object t h other p e =
    let own = accepted-means other p.tree p.accepts in
    let same = some-injective (meaning_of p.tree) (meaning_of t) (sym own ∙ e ∙ accepted-means object t h) in
    subst (λ m. length (encode m) ≤ length other) same (plain-least other p.tree p.octets p.accepts p.no_table)

form-shortest : (object : List ℕ) (t : Items) → Octets object → judge object ≡ accepted t → length (normal_of t) ≤ 32_768 → ShortestPlain object (normal_of t)
form-shortest object t os h l =
    let r = reread (meaning_of t) (accepted-ok object t os h) l in
    let m = accepted-means object t h in
    record {
      plain = record { octets = normal-octets object t os h l; tree = r.tree; accepts = r.accepts; no_table = r.table };
      means-same = normal-means object os (meaning_of t) m l ∙ sym m;
      least = none-shorter object t h;
    }

pub normal-shortest : NormalShortest
unfolding normal
normal-shortest object form os e l =
    let a = accepted-is normal_of (judge object) form e in
    subst (ShortestPlain object) a.2 (form-shortest object a.0 os a.1 (subst (λ o. length o ≤ 32_768) (sym a.2) l))

-- an accepted object has at most 32,768 octets, so a form that is no longer than one fits
pub else-none : ElseNone
unfolding normal
else-none object form e l other p same =
    let a = accepted-is normal_of (judge object) form e in
    omega (arith, ap length a.2, none-shorter object a.0 a.1 other p same, (accepted-size other p.tree p.accepts).1)

pub normalise-shortest : NormaliseShortest
normalise-shortest object os memory memory' room room' n c =
    let f = normalised object memory memory' room room' n c in
    subst (ShortestPlain object) (sym f.octets) (form-shortest object f.tree os f.is f.suffices.object)

-- a row of the table that has a normal form
row-normal : (object form : List ℕ) (n : ℕ) → outcome true object ≡ normally n form → normal object ≡ some form
unfolding normal if_accepted
row-normal object form n e = let f = table-accepted object n form e in rw f.1 (ap some f.3)

seven_is : outcome true seven_tokens ≡ normally 2 seven_times
unfolding slips accented row
seven_is = ap (row 17) slipped

pub sharp : Sharp
unfolding are_octets
sharp =
    let yes = row-normal (recommended 2) (recommended 2) 4 yes-is in
    record {
      met = ((normal-shortest (recommended 2) (recommended 2) (are-octets (recommended 2) refl) yes (omega arith)).plain, yes);
      tabled = (row-normal seven_tokens seven_times 2 seven_is, omega arith);
    }
