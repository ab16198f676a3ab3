-- Lists whose numbers are octets: valid text, the normal octets of a value.
use Rattle.std.specs.Prelude.{Option, Some, None}
use mathlib.Core.Path.{◌≡◌, refl}
use mathlib.Core.Bool.{Bool, true, false, cond, false≢true}
use mathlib.Core.List.{List, [], ◌∷◌, ◌++◌}
use Prim.Native.Nat.{ℕ, zero, suc, ◌+◌, ◌*◌, ◌/◌, ◌%◌, ◌^◌, ◌<◌}
use native.Mathlib.Omega.{arith}
use lib.Dec.{eqb, ltb}
use borrow.Author.Tests.{eqb-true, ltb-true}
use Rattle.octets.specs.Numbers.{digits, Octets}
use Rattle.octets.proofs.Numbers.{octets-none, octets-cons, octets-append, octets-digits}
use Rattle.octets.proofs.Tests.{and_left, and_right, cond-elim}
use Rattle.text.specs.Text.{single, goes_on, utf8, text}
use Rattle.values.specs.declared.Kind.{Kind}
use Rattle.values.specs.declared.Kind.TheVariants.{HoldsPlain}
use Rattle.values.specs.declared.Time.{Time}
use Rattle.values.specs.declared.Bearer.{Bearer}
use Rattle.values.specs.Times.{in_range, sign, time_octets}
use Rattle.values.specs.Bearers.{ensemble_bit, ensemble_octets, bearer_octets}
use Rattle.values.specs.Values.{Value, octets_of, width}
use Rattle.values.specs.Proper.{Proper, BearerOk, EnsembleOk, SidOk}
use Rattle.values.specs.Proper.Proper.{words, plain, counted, timed, carried}
use Rattle.values.proofs.Times.{bounds, sign_le}
use Rattle.values.specs.declared.Ensemble.{Ensemble}

-- ---- text: each octet of a character is one

utf8-octets : (o : List ℕ) (tokens : Bool) (more c least : ℕ) → utf8 tokens more c least o ≡ true → Octets o
unfolding utf8 goes_on
utf8-octets [] tokens more c least h = octets-none
utf8-octets (b ∷ bs) tokens zero c least h =
    cond-elim (ltb b 0x80) _ _
    (λ p q. octets-cons b bs (omega (arith, ltb-true b 0x80 p)) (utf8-octets bs tokens 0 0 0 (and_right (single tokens b) (utf8 tokens 0 0 0 bs) q)))
    (λ _ x. cond-elim (eqb (b / 32) 6) _ _ (λ p q. octets-cons b bs (omega (arith, eqb-true (b / 32) 6 p)) (utf8-octets bs tokens 1 (b % 32) 0x80 q))
    (λ _ y. cond-elim (eqb (b / 16) 14) _ _ (λ p q. octets-cons b bs (omega (arith, eqb-true (b / 16) 14 p)) (utf8-octets bs tokens 2 (b % 16) 0x800 q))
    (λ _ z. cond-elim (eqb (b / 8) 30) _ _ (λ p q. octets-cons b bs (omega (arith, eqb-true (b / 8) 30 p)) (utf8-octets bs tokens 3 (b % 8) 0x10000 q)) (λ _ w. absurd (false≢true w)) z) y) x) h
utf8-octets (b ∷ bs) tokens (suc more) c least h =
    let here = and_left (goes_on more c least b) (utf8 tokens more (c * 64 + b % 64) least bs) h in
    octets-cons b bs (omega (arith, eqb-true (b / 64) 2 (and_left (eqb (b / 64) 2) _ here))) (utf8-octets bs tokens more (c * 64 + b % 64) least (and_right (goes_on more c least b) (utf8 tokens more (c * 64 + b % 64) least bs) h))

pub text-octets : (tokens : Bool) (o : List ℕ) → text tokens o ≡ true → Octets o
unfolding text
text-octets tokens o h = utf8-octets o tokens 0 0 0 h

-- ---- values

time-octets : (t : Time) → in_range t ≡ true → Octets (time_octets t)
unfolding time_octets
time-octets t h =
    let r = bounds t h in
    let w : ℕ = t.day * 2 ^ 14 + sign t.halves * 2 ^ 12 + sign t.second * 2 ^ 11 + t.hour * 2 ^ 6 + t.minute in
    octets-append (digits 4 w ++ cond (eqb t.second 0) [] ((t.second * 4) ∷ 0 ∷ [])) (cond (eqb t.halves 0) [] ((cond t.minus 32 0 + t.halves) ∷ []))
    (octets-append (digits 4 w) (cond (eqb t.second 0) [] ((t.second * 4) ∷ 0 ∷ [])) (octets-digits 4 w (omega (arith, sign_le t.halves, sign_le t.second))) (seconds (eqb t.second 0)))
    (offset (eqb t.halves 0) t.minus)
  where
    seconds : (b : Bool) → Octets (cond b [] ((t.second * 4) ∷ 0 ∷ []))
    seconds true = octets-none
    seconds false = octets-cons (t.second * 4) (0 ∷ []) (omega (arith, (bounds t h).second)) (octets-cons 0 [] (omega arith) octets-none)

    offset : (b m : Bool) → Octets (cond b [] ((cond m 32 0 + t.halves) ∷ []))
    offset true m = octets-none
    offset false true = octets-cons (32 + t.halves) [] (omega (arith, (bounds t h).halves)) octets-none
    offset false false = octets-cons (0 + t.halves) [] (omega (arith, (bounds t h).halves)) octets-none

bearer-octets : (b : Bearer) → BearerOk b → Octets (bearer_octets b)
unfolding bearer_octets ensemble_bit ensemble_octets
bearer-octets b ok =
    octets-cons first (ensemble_octets b.ensemble ++ digits (cond b.long 4 2) b.sid) (small b.ensemble b.long)
    (octets-append (ensemble_octets b.ensemble) (digits (cond b.long 4 2) b.sid) (ensemble b.ensemble ok.ensemble) (sid b.long ok.sid))
  where
    first : ℕ
    first = ensemble_bit b.ensemble + cond b.long 16 0 + b.scids

    small : (e : Option Ensemble) (l : Bool) → ensemble_bit e + cond l 16 0 + b.scids < 256
    small None true = omega (arith, ok.scids)
    small None false = omega (arith, ok.scids)
    small (Some e) true = omega (arith, ok.scids)
    small (Some e) false = omega (arith, ok.scids)

    ensemble : (e : Option Ensemble) → EnsembleOk e → Octets (ensemble_octets e)
    ensemble None q = octets-none
    ensemble (Some e) q = octets-cons e.ecc (digits 2 e.eid) q.0 (octets-digits 2 e.eid q.1)

    sid : (l : Bool) → SidOk l b.sid → Octets (digits (cond l 4 2) b.sid)
    sid true q = octets-digits 4 b.sid q
    sid false q = octets-digits 2 b.sid q

-- of plain octets nothing is asked, so that they are octets must be known
pub proper-octets : {k : Kind} {v : Value} → Proper k v → (k ≡ HoldsPlain → Octets (octets_of v)) → Octets (octets_of v)
unfolding octets_of
proper-octets (words {o = o} h) p = text-octets false o h
proper-octets plain p = p refl
proper-octets (counted {k = k} {n = n} h) p = octets-digits (width k) n h
proper-octets (timed {t = t} ok) p = time-octets t ok.range
proper-octets (carried {b = b} ok) p = bearer-octets b ok
