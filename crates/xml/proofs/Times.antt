-- The texts of times and bearers: no two have one, and none holds a strange octet.
use Rattle.std.specs.Prelude.{Option, Some, None}
use mathlib.Core.Path.{◌≡◌, refl, sym, ap, ap₂, ◌∙◌}
use mathlib.Core.Bool.{Bool, true, false, cond, false≢true}
use mathlib.Core.List.{List, [], ◌∷◌, ◌++◌}
use Prim.Native.Nat.{ℕ, ◌+◌, ◌-◌, ◌*◌, ◌/◌, ◌%◌, ◌^◌, ◌≤◌, ◌<◌}
use native.Mathlib.Omega.{arith}
use lib.Arith.{digits_div, digits_mod}
use lib.ListN.{length, length-append}
use Rattle.octets.specs.Numbers.{digits}
use Rattle.octets.proofs.Numbers.{length_digits}
use Rattle.text.specs.Runs.{within}
use Rattle.values.specs.declared.Time.{Time}
use Rattle.values.specs.declared.Bearer.{Bearer}
use Rattle.values.specs.Proper.{TimeOk, EnsembleOk, SidOk, BearerOk}
use Rattle.values.proofs.Times.{Bounds, bounds, minutes_in_range}
use Rattle.values.specs.declared.Ensemble.{Ensemble}
use Rattle.values.specs.Bearers.{ecc_eid}
use Rattle.show.specs.Digits.{hex_digit, two_digits, hex_lower}
use Rattle.show.proofs.Writing.{length-hex}
use Rattle.xml.specs.Dates.{Date, date_of, padded, between, date_text, clock, time_text}
use Rattle.xml.specs.Xml.{ensemble_fields, bearer_text}
use Rattle.xml.proofs.Parts.{strange, lacks, lacks-append, lacks-cons, split, head-one, tail-one}
use Rattle.xml.proofs.Dates.{InCalendar, date-one, date-within, minutes-few, timed, time-told}
use Rattle.xml.proofs.Texts.{rejoin, padded-sober, padded-first, padded-injective, length-padded, hex-digit-one, hex-digit-no, hex-digit-sober, two-sober, hex-sober, hex-injective, two-digits-one}

-- ---- times

date-long : (d : Date) → length (date_text d) ≡ 10
unfolding date_text between
date-long d = simp (length-append, length-padded)

date-text-one : (d e : Date) → InCalendar d → InCalendar e → date_text d ≡ date_text e → (d.year ≡ e.year) × (d.month ≡ e.month) × (d.day ≡ e.day)
unfolding date_text between
date-text-one d e p q h =
    let y = padded-first 4 d.year e.year (0x2D ∷ (padded 2 d.month ++ (0x2D ∷ padded 2 d.day))) (0x2D ∷ (padded 2 e.month ++ (0x2D ∷ padded 2 e.day))) (omega (arith, p.late)) (omega (arith, q.late)) h in
    let m = padded-first 2 d.month e.month (0x2D ∷ padded 2 d.day) (0x2D ∷ padded 2 e.day) (omega (arith, p.months)) (omega (arith, q.months)) (tail-one 0x2D 0x2D (padded 2 d.month ++ (0x2D ∷ padded 2 d.day)) (padded 2 e.month ++ (0x2D ∷ padded 2 e.day)) y.1) in
    (y.0, m.0, padded-injective 2 d.day e.day (omega (arith, p.days)) (omega (arith, q.days)) (tail-one 0x2D 0x2D (padded 2 d.day) (padded 2 e.day) m.1))

-- numbers of two digits between colons
abbrev Two : List ℕ → Type 0
Two [] = Unit {0}
Two (n ∷ ns) = (n < 100) × Two ns

clock-long : (n : ℕ) (ns ms : List ℕ) → length ns ≡ length ms → (m : ℕ) → length (between 0x3A (clock (n ∷ ns))) ≡ length (between 0x3A (clock (m ∷ ms)))
unfolding between clock
clock-long n [] [] h m = length-padded 2 n ∙ sym (length-padded 2 m)
clock-long n [] (b ∷ ms) h m = absurd (omega arith)
clock-long n (a ∷ ns) [] h m = absurd (omega arith)
clock-long n (a ∷ ns) (b ∷ ms) h m = simp (length-append, length-padded) (omega (arith, clock-long a ns ms (omega arith) b))

clock-one : (n m : ℕ) (ns ms : List ℕ) → length ns ≡ length ms → Two (n ∷ ns) → Two (m ∷ ms) → between 0x3A (clock (n ∷ ns)) ≡ between 0x3A (clock (m ∷ ms)) → n ∷ ns ≡ m ∷ ms
unfolding between clock
clock-one n m [] [] h p q e = ap (λ (x : ℕ). x ∷ []) (padded-injective 2 n m p.0 q.0 e)
clock-one n m [] (b ∷ ms) h p q e = absurd (omega arith)
clock-one n m (a ∷ ns) [] h p q e = absurd (omega arith)
clock-one n m (a ∷ ns) (b ∷ ms) h p q e =
    let f = padded-first 2 n m (0x3A ∷ between 0x3A (clock (a ∷ ns))) (0x3A ∷ between 0x3A (clock (b ∷ ms))) p.0 q.0 e in
    ap₂ ◌∷◌ f.0 (clock-one a b ns ms (omega arith) p.1 q.1 (tail-one 0x3A 0x3A (between 0x3A (clock (a ∷ ns))) (between 0x3A (clock (b ∷ ms))) f.1))

-- what the texts of two times tell that are so many minutes after the day before day 0
record Heard (t u : Time) (n m : ℕ) : Type 0 where
  days : n / 1440 ≡ m / 1440
  hours : n / 60 % 24 ≡ m / 60 % 24
  minutes : n % 60 ≡ m % 60
  seconds : t.second ≡ u.second
  signs : ◌≡◌ {A = ℕ} (cond t.minus 0x2D 0x2B) (cond u.minus 0x2D 0x2B)
  half : t.halves / 2 ≡ u.halves / 2
  other : t.halves % 2 * 30 ≡ u.halves % 2 * 30

heard : (t u : Time) (n m : ℕ) → Bounds t → Bounds u → n < 1440 * 100_002 → m < 1440 * 100_002 → timed t n ≡ timed u m → Heard t u n m
heard t u n m d f few few' e =
    let day_t = date_of (319 + n / 1440) in
    let day_u = date_of (319 + m / 1440) in
    let clock_t = between 0x3A (clock (n / 60 % 24 ∷ n % 60 ∷ t.second ∷ [])) in
    let clock_u = between 0x3A (clock (m / 60 % 24 ∷ m % 60 ∷ u.second ∷ [])) in
    let sign_t : ℕ = cond t.minus 0x2D 0x2B in
    let sign_u : ℕ = cond u.minus 0x2D 0x2B in
    let off_t = between 0x3A (clock (t.halves / 2 ∷ t.halves % 2 * 30 ∷ [])) in
    let off_u = between 0x3A (clock (u.halves / 2 ∷ u.halves % 2 * 30 ∷ [])) in
    let a = split (date_text day_t) (date_text day_u) (0x54 ∷ (clock_t ++ (sign_t ∷ off_t))) (0x54 ∷ (clock_u ++ (sign_u ∷ off_u))) (date-long day_t ∙ sym (date-long day_u)) e in
    let b = split clock_t clock_u (sign_t ∷ off_t) (sign_u ∷ off_u) (clock-long (n / 60 % 24) (n % 60 ∷ t.second ∷ []) (m % 60 ∷ u.second ∷ []) refl (m / 60 % 24))
    (tail-one 0x54 0x54 (clock_t ++ (sign_t ∷ off_t)) (clock_u ++ (sign_u ∷ off_u)) a.1) in
    let dates = date-text-one day_t day_u (date-within (319 + n / 1440) (omega arith)) (date-within (319 + m / 1440) (omega arith)) a.0 in
    let days = date-one (319 + n / 1440) (319 + m / 1440) dates.0 dates.1 dates.2 in
    let g = d.second in
    let h = f.second in
    let i = d.halves in
    let j = f.halves in
    let times : n / 60 % 24 ∷ n % 60 ∷ t.second ∷ [] ≡ m / 60 % 24 ∷ m % 60 ∷ u.second ∷ [] =
    clock-one (n / 60 % 24) (m / 60 % 24) (n % 60 ∷ t.second ∷ []) (m % 60 ∷ u.second ∷ []) refl (omega arith, (omega arith, (omega arith, tt))) (omega arith, (omega arith, (omega arith, tt))) b.0 in
    let offs : t.halves / 2 ∷ t.halves % 2 * 30 ∷ [] ≡ u.halves / 2 ∷ u.halves % 2 * 30 ∷ [] =
    clock-one (t.halves / 2) (u.halves / 2) (t.halves % 2 * 30 ∷ []) (u.halves % 2 * 30 ∷ []) refl (omega arith, (omega arith, tt)) (omega arith, (omega arith, tt)) (tail-one sign_t sign_u off_t off_u b.1) in
    record { days = omega arith; hours = cc; minutes = cc; seconds = cc; signs = head-one sign_t sign_u off_t off_u b.1; half = cc; other = cc }

sign-one : (a b : Bool) → ◌≡◌ {A = ℕ} (cond a 0x2D 0x2B) (cond b 0x2D 0x2B) → a ≡ b
sign-one true true e = refl
sign-one false false e = refl
sign-one true false e = absurd (omega arith)
sign-one false true e = absurd (omega arith)

-- UTC from local time
minutes-one : (t u : Time) → Bounds t → Bounds u → t.minus ≡ u.minus → t.halves ≡ u.halves → minutes_in_range t ≡ minutes_in_range u
    → ((t.day + 1) * 24 + t.hour) * 60 + t.minute ≡ ((u.day + 1) * 24 + u.hour) * 60 + u.minute
minutes-one t u d f m h e = go t.minus u.minus m e
  where
    utc_t : ℕ
    utc_t = ((t.day + 1) * 24 + t.hour) * 60 + t.minute

    utc_u : ℕ
    utc_u = ((u.day + 1) * 24 + u.hour) * 60 + u.minute

    go : (a b : Bool) → a ≡ b → cond a (utc_t - 30 * t.halves) (utc_t + 30 * t.halves) ≡ cond b (utc_u - 30 * u.halves) (utc_u + 30 * u.halves) → utc_t ≡ utc_u
    go true true p q = omega (arith, d.halves, f.halves)
    go false false p q = omega arith
    go true false p q = absurd (false≢true (sym p))
    go false true p q = absurd (false≢true p)

days-hours : (a : ℕ) → a / 60 / 24 ≡ a / 1440
days-hours a = omega arith

rejoined : (a b : ℕ) → a / 1440 ≡ b / 1440 → a / 60 % 24 ≡ b / 60 % 24 → a % 60 ≡ b % 60 → a ≡ b
rejoined a b p q r = rejoin a b 60 (rejoin (a / 60) (b / 60) 24 (days-hours a ∙ p ∙ sym (days-hours b)) q) r

rejoined-halves : (a b : ℕ) → a / 2 ≡ b / 2 → a % 2 * 30 ≡ b % 2 * 30 → a ≡ b
rejoined-halves a b p q = omega arith

low-one : (a b c m n : ℕ) → m < c → n < c → a * c + m ≡ b * c + n → (a ≡ b) × (m ≡ n)
low-one a b c m n h g e = (sym (digits_div a h) ∙ ap (λ x. x / c) e ∙ digits_div b g, sym (digits_mod a h) ∙ ap (λ x. x % c) e ∙ digits_mod b g)

calendar-one : (d h m e i n : ℕ) → h ≤ 23 → i ≤ 23 → m ≤ 59 → n ≤ 59 → ((d + 1) * 24 + h) * 60 + m ≡ ((e + 1) * 24 + i) * 60 + n → (d ≡ e) × (h ≡ i) × (m ≡ n)
calendar-one d h m e i n p q r s f =
    let minute = low-one ((d + 1) * 24 + h) ((e + 1) * 24 + i) 60 m n (omega arith) (omega arith) f in
    let hour = low-one (d + 1) (e + 1) 24 h i (omega arith) (omega arith) minute.0 in
    let g = hour.0 in
    (omega arith, hour.1, minute.1)

pub time-injective : (t u : Time) → TimeOk t → TimeOk u → time_text t ≡ time_text u → t ≡ u
time-injective t u p q e =
    let d = bounds t p.range in
    let f = bounds u q.range in
    let n : ℕ = minutes_in_range t in
    let m : ℕ = minutes_in_range u in
    let x = heard t u n m d f (minutes-few t d) (minutes-few u f) (sym (time-told t p.range) ∙ e ∙ time-told u q.range) in
    let halves = rejoined-halves t.halves u.halves x.half x.other in
    let minus = sign-one t.minus u.minus x.signs in
    let utc = minutes-one t u d f minus halves (rejoined n m x.days x.hours x.minutes) in
    let c = calendar-one t.day t.hour t.minute u.day u.hour u.minute d.hour f.hour d.minute f.minute utc in
    λ z. record { day = c.0 z; hour = c.1 z; minute = c.2 z; second = x.seconds z; minus = minus z; halves = halves z }

clock-sober : (n : ℕ) (ns : List ℕ) → Two (n ∷ ns) → lacks strange (between 0x3A (clock (n ∷ ns))) ≡ true
unfolding between clock within
clock-sober n [] h = padded-sober 2 n h.0
clock-sober n (m ∷ ns) h =
    lacks-append strange (padded 2 n) (0x3A ∷ between 0x3A (clock (m ∷ ns))) (padded-sober 2 n h.0) (lacks-cons strange 0x3A (between 0x3A (clock (m ∷ ns))) refl (clock-sober m ns h.1))

sign-sober : (b : Bool) → strange (cond b 0x2D 0x2B) ≡ false
unfolding within
sign-sober true = refl
sign-sober false = refl

date-sober : (d : Date) → InCalendar d → lacks strange (date_text d) ≡ true
unfolding date_text between within
date-sober d c =
    let months : List ℕ = padded 2 d.month ++ (0x2D ∷ padded 2 d.day) in
    lacks-append strange (padded 4 d.year) (0x2D ∷ months) (padded-sober 4 d.year (omega (arith, c.late)))
    (lacks-cons strange 0x2D months refl
    (lacks-append strange (padded 2 d.month) (0x2D ∷ padded 2 d.day) (padded-sober 2 d.month (omega (arith, c.months)))
    (lacks-cons strange 0x2D (padded 2 d.day) refl (padded-sober 2 d.day (omega (arith, c.days))))))

pub time-sober : (t : Time) → TimeOk t → lacks strange (time_text t) ≡ true
unfolding within
time-sober t ok = rw (time-told t ok.range) (go (minutes_in_range t) (bounds t ok.range) (minutes-few t (bounds t ok.range)))
  where
    go : (n : ℕ) → Bounds t → n < 1440 * 100_002 → lacks strange (timed t n) ≡ true
    go n b few =
        let clocks = between 0x3A (clock (n / 60 % 24 ∷ n % 60 ∷ t.second ∷ [])) in
        let off = between 0x3A (clock (t.halves / 2 ∷ t.halves % 2 * 30 ∷ [])) in
        let sign : ℕ = cond t.minus 0x2D 0x2B in
        let day = date_of (319 + n / 1440) in
        let s = b.second in
        let h = b.halves in
        lacks-append strange (date_text day) (0x54 ∷ (clocks ++ (sign ∷ off))) (date-sober day (date-within (319 + n / 1440) (omega arith)))
        (lacks-cons strange 0x54 (clocks ++ (sign ∷ off)) refl
        (lacks-append strange clocks (sign ∷ off) (clock-sober (n / 60 % 24) (n % 60 ∷ t.second ∷ []) (omega arith, (omega arith, (omega arith, tt))))
        (lacks-cons strange sign off (sign-sober t.minus) (clock-sober (t.halves / 2) (t.halves % 2 * 30 ∷ []) (omega arith, (omega arith, tt))))))

-- ---- bearers

-- a number in hexadecimal, before whatever follows it
hex-first : (w n m : ℕ) (r s : List ℕ) → n < 256 ^ w → m < 256 ^ w → hex_lower (digits w n) ++ r ≡ hex_lower (digits w m) ++ s → (n ≡ m) × (r ≡ s)
hex-first w n m r s h g e =
    let long : length (hex_lower (digits w n)) ≡ length (hex_lower (digits w m)) = length-hex (digits w n) ∙ ap (λ k. 2 * k) (length_digits w n ∙ sym (length_digits w m)) ∙ sym (length-hex (digits w m)) in
    let a = split (hex_lower (digits w n)) (hex_lower (digits w m)) r s long e in
    (hex-injective w n m h g a.0, a.1)

abbrev sid_text : Bool → ℕ → ℕ → List ℕ
sid_text long sid scids = hex_lower (digits (cond long 4 2) sid) ++ (0x2E ∷ (hex_digit 97 scids ∷ []))

sid-long : (b : Bool) (n m : ℕ) → length (sid_text b n m) ≡ 2 * cond b 4 2 + 2
sid-long b n m = simp (length-append, length-hex, length_digits)

width_one : (a b : Bool) → 2 * cond a 4 2 + 2 ≡ 2 * cond b 4 2 + 2 → a ≡ b
width_one true true e = refl
width_one false false e = refl
width_one true false e = absurd (omega arith)
width_one false true e = absurd (omega arith)

sid-same : (a b : Bool) (sid sid' scids scids' : ℕ) → a ≡ b → SidOk a sid → SidOk b sid' → sid_text a sid scids ≡ sid_text b sid' scids' → (sid ≡ sid') × (hex_digit 97 scids ≡ hex_digit 97 scids')
sid-same true true n m s t q p r e = let f = hex-first 4 n m (0x2E ∷ (hex_digit 97 s ∷ [])) (0x2E ∷ (hex_digit 97 t ∷ [])) p r e in (f.0, let x : 0x2E ∷ (hex_digit 97 s ∷ []) ≡ 0x2E ∷ (hex_digit 97 t ∷ []) = f.1 in cc)
sid-same false false n m s t q p r e = let f = hex-first 2 n m (0x2E ∷ (hex_digit 97 s ∷ [])) (0x2E ∷ (hex_digit 97 t ∷ [])) p r e in (f.0, let x : 0x2E ∷ (hex_digit 97 s ∷ []) ≡ 0x2E ∷ (hex_digit 97 t ∷ []) = f.1 in cc)
sid-same true false n m s t q p r e = absurd (false≢true (sym q))
sid-same false true n m s t q p r e = absurd (false≢true q)

abbrev ensemble_text : Option Ensemble → List ℕ → List ℕ
ensemble_text e r = (ensemble_fields e).0 ++ (0x2E ∷ ((ensemble_fields e).1 ++ (0x2E ∷ r)))

ensemble-one : (e f : Option Ensemble) (r s : List ℕ) → EnsembleOk e → EnsembleOk f → ensemble_text e r ≡ ensemble_text f s → (e ≡ f) × (r ≡ s)
unfolding ensemble_fields hex_lower two_digits
ensemble-one None None r s p q h = (refl, tail-one 0x2E 0x2E r s (tail-one 0x2E 0x2E (0x2E ∷ r) (0x2E ∷ s) h))
ensemble-one None (Some f) r s p q h =
    let t : List ℕ = 0x2E ∷ (hex_lower (digits 2 f.eid) ++ (0x2E ∷ s)) in
    absurd (hex-digit-no (f.ecc / 16) 0x2E (omega arith) (sym (head-one 0x2E (hex_digit 97 (f.ecc / 16)) (0x2E ∷ r) (hex_digit 97 (f.ecc % 16) ∷ t) h)))
ensemble-one (Some e) None r s p q h =
    let t : List ℕ = 0x2E ∷ (hex_lower (digits 2 e.eid) ++ (0x2E ∷ r)) in
    absurd (hex-digit-no (e.ecc / 16) 0x2E (omega arith) (head-one (hex_digit 97 (e.ecc / 16)) 0x2E (hex_digit 97 (e.ecc % 16) ∷ t) (0x2E ∷ s) h))
ensemble-one (Some e) (Some f) r s p q h =
    let rest_e : List ℕ = 0x2E ∷ (hex_lower (digits 2 e.eid) ++ (0x2E ∷ r)) in
    let rest_f : List ℕ = 0x2E ∷ (hex_lower (digits 2 f.eid) ++ (0x2E ∷ s)) in
    let a = split (two_digits 97 e.ecc) (two_digits 97 f.ecc) rest_e rest_f refl h in
    let ecc = two-digits-one e.ecc f.ecc p.0 q.0 a.0 in
    let b = hex-first 2 e.eid f.eid (0x2E ∷ r) (0x2E ∷ s) p.1 q.1
    (tail-one 0x2E 0x2E (hex_lower (digits 2 e.eid) ++ (0x2E ∷ r)) (hex_lower (digits 2 f.eid) ++ (0x2E ∷ s)) a.1) in
    (ap₂ (λ x y. Some (ecc_eid x y)) ecc b.0, tail-one 0x2E 0x2E r s b.1)

pub bearer-injective : (b c : Bearer) → BearerOk b → BearerOk c → bearer_text b ≡ bearer_text c → b ≡ c
unfolding bearer_text between
bearer-injective b c p q h =
    let e = ensemble-one b.ensemble c.ensemble (sid_text b.long b.sid b.scids) (sid_text c.long c.sid c.scids) p.ensemble q.ensemble h in
    let long = width_one b.long c.long (sym (sid-long b.long b.sid b.scids) ∙ ap length e.1 ∙ sid-long c.long c.sid c.scids) in
    let s = sid-same b.long c.long b.sid c.sid b.scids c.scids long p.sid q.sid e.1 in
    let d = hex-digit-one b.scids c.scids p.scids q.scids s.1 in
    λ z. record { ensemble = e.0 z; long = long z; sid = s.0 z; scids = d z }

fields-sober : (e : Option Ensemble) → EnsembleOk e → (lacks strange (ensemble_fields e).0 ≡ true) × (lacks strange (ensemble_fields e).1 ≡ true)
unfolding ensemble_fields lacks hex_lower
fields-sober None ok = (refl, refl)
fields-sober (Some e) ok = (two-sober e.ecc [] ok.0 refl, hex-sober 2 e.eid ok.1)

sid-sober : (long : Bool) (sid : ℕ) → SidOk long sid → lacks strange (hex_lower (digits (cond long 4 2) sid)) ≡ true
sid-sober true sid ok = hex-sober 4 sid ok
sid-sober false sid ok = hex-sober 2 sid ok

pub bearer-sober : (b : Bearer) → BearerOk b → lacks strange (bearer_text b) ≡ true
unfolding bearer_text between lacks within
bearer-sober b ok =
    let e = fields-sober b.ensemble ok.ensemble in
    let sid = hex_lower (digits (cond b.long 4 2) b.sid) in
    let last = hex_digit 97 b.scids ∷ [] in
    let two = (ensemble_fields b.ensemble).1 in
    lacks-append strange (ensemble_fields b.ensemble).0 (0x2E ∷ (two ++ (0x2E ∷ (sid ++ (0x2E ∷ last))))) e.0
    (lacks-cons strange 0x2E (two ++ (0x2E ∷ (sid ++ (0x2E ∷ last)))) refl
    (lacks-append strange two (0x2E ∷ (sid ++ (0x2E ∷ last))) e.1
    (lacks-cons strange 0x2E (sid ++ (0x2E ∷ last)) refl
    (lacks-append strange sid (0x2E ∷ last) (sid-sober b.long b.sid ok.sid)
    (lacks-cons strange 0x2E last refl (lacks-cons strange (hex_digit 97 b.scids) [] (hex-digit-sober b.scids ok.scids) refl))))))
