-- Demand 3: from the claims, with the theorems on meaning and normal form.
use Rattle.std.specs.Prelude.{Result, Ok, Err}
use mathlib.Core.Path.{◌≡◌, refl, sym, ap, ap₂, ◌∙◌, subst}
use mathlib.Core.Bool.{Bool, true, false, cond}
use mathlib.Core.Logic.{◌↔◌}
use mathlib.Core.Option.{some, some-injective}
use mathlib.Core.List.{List}
use Prim.Native.Nat.{ℕ}
use native.Mathlib.Omega.{arith}
use lib.ListN.{length, take, drop}
use lib.Seq.{sets}
use Rattle.octets.specs.declared.counts.Octets.{Octets as OctetCount}
use Rattle.octets.specs.Counts.{as_octets}
use Rattle.octets.specs.Numbers.{Octets}
use Rattle.octets.proofs.Lists.{part-of-sets, drop-sets}
use Rattle.octets.proofs.Tests.{never}
use Rattle.format.specs.Tree.{Items}
use Rattle.format.specs.Judge.{Judged, judge}
use Rattle.format.specs.Judge.Judged.{refused, accepted}
use Rattle.format.specs.Meaning.{means, meaning_of, meaning, encode, normal_of}
use Rattle.format.specs.Calls.{Lent, handed}
use Rattle.format.specs.Same.{same_answer}
use Rattle.format.proofs.Normal.{accepted-ok, normal-means, same-normal}
use Rattle.format.proofs.Round.{reread}
use Rattle.format.proofs.NormalOctets.{normal-octets}
use Rattle.format.proofs.Takes.{of_meaning, in_records, in_store, records-means, store-means}
use Rattle.format.proofs.Same.{same-exactly as same-meaning, different-exactly as different-meaning, normal-exactly}
use Rattle.format.specs.State.{Memory}
use Rattle.format.specs.declared.SameRefusal.{SameRefusal}
use Rattle.format.specs.declared.SameRefusal.TheVariants.{First, Second}
use Rattle.state.specs.Taking.{lent_by, NormaliseClaim}
use Rattle.grammar.proofs.Complete.{complete}
use Rattle.demands.specs.One.{Suffices}
use Rattle.demands.specs.Three.{SameNormalForms, NormalAccepted, NormalTakesNoMore, NormalAgain, NormalAgainIfAny, BothAccepted, Comparison, SameExactly, IsNormalExactly}
use Rattle.demands.proofs.Laws.{suffices-fits, has-meaning, accepted-means}
use Rattle.demands.proofs.One.{normalise-in-order}

-- what a call of normalise that gives octets leaves in its room
pub record Normalised (object : List ℕ) (lent : Lent) (room room' : List ℕ) (n : OctetCount) : Type 0 where
  pub tree : Items
  pub is : judge object ≡ accepted tree
  pub octets : take n.0 room' ≡ normal_of tree
  pub many : n.0 ≡ length (normal_of tree)
  pub suffices : Suffices lent tree
  pub behind : drop n.0 room' ≡ drop n.0 room

pub normalised : (object : List ℕ) (memory memory' : Memory) (room room' : List ℕ) (n : OctetCount) → NormaliseClaim object memory memory' room room' (Ok n)
    → Normalised object (lent_by memory room) room room' n
unfolding handed
normalised object memory memory' room room' n c =
    let f = ((normalise-in-order object memory memory' room room' (Ok n) c).octets n).0 refl in
    let t = f.0 in
    let many : n.0 ≡ length (normal_of t) = ap (λ m. m.0) f.2 in
    let laid : room' ≡ sets room 0 (normal_of t) = c.writes ∙ rw (f.1, suffices-fits (lent_by memory room) t f.3) in
    record {
      tree = t;
      is = f.1;
      octets = ap₂ take many laid ∙ part-of-sets room 0 (normal_of t) (omega (arith, f.3.room));
      many = many;
      suffices = f.3;
      behind = ap (drop n.0) laid ∙ drop-sets n.0 room 0 (normal_of t) (omega (arith, many));
    }

pub same-normal-forms : SameNormalForms
same-normal-forms a b os ps memory_a memory_a' room_a room_a' n c memory_b memory_b' room_b room_b' m d =
    let f = normalised a memory_a memory_a' room_a room_a' n c in
    let g = normalised b memory_b memory_b' room_b room_b' m d in
    let p = accepted-means a f.tree f.is in
    let q = accepted-means b g.tree g.is in
    let one = same-normal a b os ps (meaning_of f.tree) (meaning_of g.tree) p q f.suffices.object in (
      (λ e. p ∙ ap some (one.0 (sym f.octets ∙ e ∙ g.octets)) ∙ sym q),
      (λ e. f.octets ∙ one.1 (some-injective (meaning_of f.tree) (meaning_of g.tree) (sym p ∙ e ∙ q)) ∙ sym g.octets),
    )

-- the octets of a normal form mean what the object means
form-means : (object : List ℕ) → Octets object → (lent : Lent) (room room' : List ℕ) (n : OctetCount) (f : Normalised object lent room room' n) → meaning (take n.0 room') ≡ some (meaning_of f.tree)
form-means object os lent room room' n f = ap meaning f.octets ∙ normal-means object os (meaning_of f.tree) (accepted-means object f.tree f.is) f.suffices.object

pub normal-accepted : NormalAccepted
normal-accepted object os memory memory' room room' n c =
    let f = normalised object memory memory' room room' n c in
    let e = form-means object os (lent_by memory room) room room' n f in
    let m = has-meaning (take n.0 room') (meaning_of f.tree) e in
    record {
      again = m.0;
      accepts = complete (take n.0 room') m.0 (subst Octets (sym f.octets) (normal-octets object f.tree os f.is f.suffices.object)) m.1;
      means-same = e ∙ sym (accepted-means object f.tree f.is);
      behind = f.behind;
    }

-- a meaning says how many records and how long a store it takes, defaults take more, and a normal form has none
pub normal-takes-no-more : NormalTakesNoMore
normal-takes-no-more object os t h l =
    let r = reread (meaning_of t) (accepted-ok object t os h) l in
    let same : meaning_of r.tree ≡ meaning_of t = ap (λ T. means T r.tree) r.table ∙ r.means-it in
    let out = normal-octets object t os h l in
    let many = ap (of_meaning in_records) same in
    let long = ap (of_meaning in_store) same in
    record {
      again = r.tree;
      accepts = r.accepts;
      records = omega (arith, records-means (normal_of t) r.tree out r.accepts, r.bare, many, records-means object t os h);
      store = omega (arith, store-means (normal_of t) r.tree out r.accepts, r.bare, long, store-means object t os h);
      octets = ap encode same;
    }

-- the tree of a normal form has that normal form
form-again : (object : List ℕ) → Octets object → (lent : Lent) (room room' : List ℕ) (n : OctetCount) → Normalised object lent room room' n → (u : Items) → judge (take n.0 room') ≡ accepted u
    → normal_of u ≡ take n.0 room'
form-again object os lent room room' n f u h =
    let e = form-means object os lent room room' n f in
    ap encode (some-injective (meaning_of u) (meaning_of f.tree) (sym (accepted-means (take n.0 room') u h) ∙ e)) ∙ sym f.octets

pub normal-again-if-any : NormalAgainIfAny
normal-again-if-any object os memory memory' room room' n c again again' room₂ room₂' m d =
    let f = normalised object memory memory' room room' n c in
    let g = normalised (take n.0 room') again again' room₂ room₂' m d in
    let same : normal_of g.tree ≡ take n.0 room' = form-again object os (lent_by memory room) room room' n f g.tree g.is in
    (ap as_octets (g.many ∙ ap length (same ∙ f.octets) ∙ sym f.many), g.octets ∙ same)

pub normal-again : NormalAgain
normal-again object os memory memory' room room' n c again again' room₂ room₂' answer d places-more store-more room-enough =
    let f = normalised object memory memory' room room' n c in
    let u = normal-takes-no-more object os f.tree f.is f.suffices.object in
    let long : n.0 ≡ length (normal_of u.again) = f.many ∙ ap length (sym u.octets) in
    let enough : Suffices (lent_by again room₂) u.again = record {
      records = omega (arith, u.records, f.suffices.records);
      store = omega (arith, u.store, f.suffices.store);
      room = omega arith;
      object = omega (arith, f.many, f.suffices.object);
    } in
    let written : answer ≡ Ok n =
    ((normalise-in-order (take n.0 room') again again' room₂ room₂' answer d).octets n).1 (u.again, ap judge f.octets ∙ u.accepts, ap as_octets long, enough) in
    let given = subst (NormaliseClaim (take n.0 room') again again' room₂ room₂') written d in
    (written, (normal-again-if-any object os memory memory' room room' n c again again' room₂ room₂' n given).1)

-- ---- comparing
module _ (a b : List ℕ) (answer : Result Bool SameRefusal) (e : answer ≡ same_answer (judge a) (judge b)) where
  -- only accepted objects are the same or different
  both : (x : Bool) → answer ≡ cond x (Ok true) (Ok false) → BothAccepted a b
  unfolding same_answer
  both x q = go (judge a) (judge b) refl refl (sym q ∙ e)
    where
      told : (x : Bool) {A : Type 0} → (y : Result Bool SameRefusal) → cond x (Ok true) (Ok false) ≡ y → ((Ok true) ≡ y → A) → ((Ok false) ≡ y → A) → A
      told true y q f g = f q
      told false y q f g = g q

      go : (j k : Judged) → judge a ≡ j → judge b ≡ k → cond x (Ok true) (Ok false) ≡ same_answer j k → BothAccepted a b
      go (refused r) k h g q = told x (Err (First r)) q (λ z. never (cc)) (λ z. never (cc))
      go (accepted t) (refused r) h g q = told x (Err (Second r)) q (λ z. never (cc)) (λ z. never (cc))
      go (accepted t) (accepted u) h g q = record { tree_a = t; tree_b = u; accepted_a = h; accepted_b = g }

  meanings : (s : BothAccepted a b) → (meaning a ≡ meaning b) ↔ (meaning_of s.tree_a ≡ meaning_of s.tree_b)
  meanings s =
      let p = accepted-means a s.tree_a s.accepted_a in
      let q = accepted-means b s.tree_b s.accepted_b in
      ((λ f. some-injective (meaning_of s.tree_a) (meaning_of s.tree_b) (sym p ∙ f ∙ q)), (λ f. p ∙ ap some f ∙ sym q))

  module _ (os : Octets a) (ps : Octets b) where
    same-when : (s : BothAccepted a b) → (answer ≡ Ok true) ↔ (meaning a ≡ meaning b)
    same-when s =
        let one = same-meaning a b s.tree_a s.tree_b os ps s.accepted_a s.accepted_b in
        ((λ f. (meanings s).1 (one.0 (sym e ∙ f))), (λ f. e ∙ one.1 ((meanings s).0 f)))

    different-when : (s : BothAccepted a b) → (answer ≡ Ok false) ↔ (meaning a ≡ meaning b → ⊥)
    different-when s =
        let one = different-meaning a b s.tree_a s.tree_b os ps s.accepted_a s.accepted_b in
        ((λ f g. one.0 (sym e ∙ f) ((meanings s).0 g)), (λ f. e ∙ one.1 (λ g. f ((meanings s).1 g))))

    comparison : Comparison a b answer
    comparison = record {
      same = ((λ f. (both true f, (same-when (both true f)).0 f)), (λ s. (same-when s.0).1 s.1));
      different = ((λ f. (both false f, (different-when (both false f)).0 f)), (λ s. (different-when s.0).1 s.1));
    }

pub same-exactly : SameExactly
same-exactly a b os ps answer e = comparison a b answer e os ps

pub is-normal-exactly : IsNormalExactly
is-normal-exactly object answer e = let one = normal-exactly object in ((λ h. one.0 (sym e ∙ h)), (λ h. e ∙ one.1 h))
