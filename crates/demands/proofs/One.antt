-- Demand 1: from each call's claim alone.
use Rattle.std.specs.Prelude.{Result, Ok, Err}
use mathlib.Core.Path.{◌≡◌, refl, sym, ap, ap₂, ◌∙◌, subst}
use mathlib.Core.Bool.{Bool, true, false, cond, false≢true, and-false}
use mathlib.Core.Logic.{◌⊎◌, inl, inr}
use mathlib.Core.Option.{Option, none, some, some-injective, none-ne-some}
use mathlib.Core.List.{List, [], ◌∷◌, ◌++◌}
use Prim.Native.Nat.{ℕ, ◌+◌, ◌≤◌, ◌<◌, min}
use native.Mathlib.Omega.{arith}
use lib.Dec.{leb}
use lib.ListN.{length, drop}
use lib.Seq.{sets}
use borrow.Author.Tests.{leb-true, leb-false, lt-leb}
use Rattle.octets.specs.declared.counts.Octets.{Octets as OctetCount}
use Rattle.octets.specs.Counts.{as_octets, size_of}
use Rattle.octets.specs.Numbers.{among}
use Rattle.octets.proofs.Lists.{sets-none}
use Rattle.octets.specs.Puts.{put_answer, put_out}
use Rattle.octets.proofs.Tests.{never}
use Rattle.octets.specs.declared.PutError.TheVariants.{NoRoom, Invalid}
use Rattle.format.specs.declared.Refusal.{Refusal}
use Rattle.format.specs.declared.Counts.{Counts}
use Rattle.format.specs.Answers.{refusal, read_outcome, write_outcome, same_outcome}
use Rattle.format.specs.Tree.{Items, count, records_of}
use Rattle.format.specs.Judge.{Judged, rule, unless, judge}
use Rattle.format.specs.Judge.Judged.{refused, accepted}
use Rattle.format.specs.Headers.{headers_of}
use Rattle.format.specs.Meaning.{means, meaning_of, encode, normal_of}
use Rattle.format.specs.Calls.{places, lay, counts_of, judge_answer, read_answer, read_records, roomy, write_answer, write_octets, Lent, fits_lent, misfit, normal_answer, handed}
use Rattle.format.specs.Same.{same_meaning, same_answer}
use Rattle.format.proofs.Lays.{lay-none}
use Rattle.format.specs.Loaded.{loaded_of}
use Rattle.format.specs.State.{Memory, body_sizes, lay_tree, tree_in}
use Rattle.format.specs.declared.SameRefusal.{SameRefusal}
use Rattle.format.specs.declared.SameRefusal.TheVariants.{First, Second}
use Rattle.state.specs.Taking.{lent_by, loaded_into, write_sizes}
use Rattle.demands.specs.One.{OfObject, OfCall, Refuses, Ends, SameEnds, JudgeEnds, ReadEnds, ReadAtMostEnds, ReadRecordsEnds, WriteEnds, NormaliseEnds, SameCallEnds, OneExactly, ReadOrder, ReadInOrder, ReadAtMostInOrder, ReadRecordsInOrder, GivenTree, WriteOrder, WriteInOrder, Suffices, Lacks, NormaliseOrder, NormaliseInOrder, SameOrder, SameInOrder, PutEnds, PutCallEnds}
use Rattle.demands.specs.One.OfCall.{of_call}
use Rattle.demands.specs.One.Refuses.{for_object, for_call}
use Rattle.demands.specs.One.Ends.{answered, refused_at}
use Rattle.demands.specs.One.SameEnds.{answered as compared, first_at, second_at}
use Rattle.demands.specs.One.Lacks.{fourteen, fifteen}
use Rattle.demands.specs.One.PutEnds.{put, lacks_room, not_valid}
use Rattle.demands.proofs.RuleOne.{one_only}
use Rattle.demands.proofs.Laws.{of-object, suffices-fits, fits-suffices, tree-given, given-tree}

-- ---- how each call ends
pub judge-ends : JudgeEnds
unfolding judge_answer
judge-ends object answer e = subst (λ x. Ends (OfObject object) (Unit {0}) (read_outcome x)) (sym e) (go (judge object) refl)
  where
    go : (j : Judged) → judge object ≡ j → Ends (OfObject object) (Unit {0}) (read_outcome (judge_answer (headers_of object) j))
    go (refused r) h = refused_at r.number r.place r.field (of-object object r h) tt
    go (accepted t) h = answered (count t) (headers_of object)

read-ended : (object : List ℕ) (n headers : ℕ) (Kept : Type 0) (j : Judged) → judge object ≡ j → (read_records n j ≡ [] → Kept)
    → Ends (Refuses object (14 ∷ [])) Kept (read_outcome (read_answer n headers j))
unfolding read_answer read_records among
read-ended object n headers Kept (refused r) h kept = refused_at r.number r.place r.field (for_object r.number r.place r.field (of-object object r h)) (kept refl)
read-ended object n headers Kept (accepted t) h kept = go (leb (count t) n) kept
  where
    go : (b : Bool) → (cond b (records_of t) [] ≡ [] → Kept)
        → Ends (Refuses object (14 ∷ [])) Kept (read_outcome (cond b (Ok (counts_of headers t)) (Err (refusal 14 0))))
    go true k = answered (count t) headers
    go false k = refused_at 14 0 0 (for_call 14 0 0 (of_call 14 refl)) (k refl)

pub read-ends : ReadEnds
read-ends object before after answer c =
    subst (λ x. Ends (Refuses object (14 ∷ [])) (after ≡ before) (read_outcome x)) (sym c.answers)
    (read-ended object (places before) (headers_of object) (after ≡ before) (judge object) refl (λ e. c.leaves ∙ ap (λ rs. lay 0 rs before) e ∙ lay-none 0 before))

pub read-at-most-ends : ReadAtMostEnds
read-at-most-ends object most before after answer c =
    subst (λ x. Ends (Refuses object (14 ∷ [])) (after ≡ before) (read_outcome x)) (sym c.answers)
    (read-ended object (min most (places before)) (headers_of object) (after ≡ before) (judge object) refl (λ e. c.leaves ∙ ap (λ rs. lay 0 rs before) e ∙ lay-none 0 before))

pub read-records-ends : ReadRecordsEnds
read-records-ends object before after slice slice' answer c =
    let n = min (length slice) (places before) in
    subst (λ x. Ends (Refuses object (14 ∷ [])) ((after ≡ before) × (slice' ≡ slice)) (read_outcome x)) (sym c.answers)
    (read-ended object n (headers_of object) ((after ≡ before) × (slice' ≡ slice)) (judge object) refl
    (λ e. (c.leaves ∙ ap (λ rs. lay 0 rs before) e ∙ lay-none 0 before, c.fills ∙ ap (λ rs. rs ++ drop (length rs) slice) e)))

-- a tree, if there is one, that is written to a room: a refusal writes no octets and stores no sizes
pub written-ends : (Kept : Type 0) (room : OctetCount) (o : Option Items) (answer : Result OctetCount Refusal) → answer ≡ write_answer room o
    → (write_octets room o ≡ [] → write_sizes room o ≡ [] → Kept)
    → Ends (OfCall (15 ∷ 16 ∷ [])) Kept (write_outcome answer)
unfolding write_answer write_octets write_sizes among
written-ends Kept room o answer told keeps = subst (λ x. Ends (OfCall (15 ∷ 16 ∷ [])) Kept (write_outcome x)) (sym told) (go o keeps)
  where
    one : (t : Items) (b : Bool) → (cond b (encode (means [] t)) [] ≡ [] → cond b (body_sizes 0 t) [] ≡ [] → Kept)
        → Ends (OfCall (15 ∷ 16 ∷ [])) Kept (write_outcome (cond b (Ok (size_of (encode (means [] t)))) (Err (refusal 15 0))))
    one t true f = answered (length (encode (means [] t))) 0
    one t false f = refused_at 15 0 0 (of_call 15 refl) (f refl refl)

    go : (o : Option Items) → (write_octets room o ≡ [] → write_sizes room o ≡ [] → Kept) → Ends (OfCall (15 ∷ 16 ∷ [])) Kept (write_outcome (write_answer room o))
    go none f = refused_at 16 0 0 (of_call 16 refl) (f refl refl)
    go (some t) f = one t (roomy room (encode (means [] t))) f

-- nothing set leaves a list as it was
pub none-set : (l xs l' : List ℕ) → l' ≡ sets l 0 xs → xs ≡ [] → l' ≡ l
none-set l xs l' e q = e ∙ (ap (sets l 0) q ∙ sets-none l 0)

pub write-ends : WriteEnds
write-ends n memory bodies' before after answer c =
    written-ends _ (size_of before) (tree_in n memory) answer c.answers (λ p q. (none-set before _ after c.leaves p, none-set memory.bodies _ bodies' c.sizes q))

-- nothing is handed out of an object with a refusal
nothing-handed : {A : Type 0} (lent : Lent) (f : Items → List A) (j : Judged) (r : Refusal) → normal_answer lent j ≡ Err r → handed lent f j ≡ []
unfolding normal_answer handed
nothing-handed lent f (refused q) r h = refl
nothing-handed lent f (accepted t) r h = go (fits_lent lent t) h
  where
    go : (b : Bool) → cond b (Ok (size_of (normal_of t))) (misfit lent t) ≡ Err r → cond b (f t) [] ≡ []
    go true e = never (cc)
    go false e = refl

-- nor taken in
nothing-loaded : (lent : Lent) (memory : Memory) (j : Judged) (r : Refusal) → normal_answer lent j ≡ Err r → loaded_into lent j memory ≡ memory
unfolding normal_answer loaded_into
nothing-loaded lent memory (refused q) r h = refl
nothing-loaded lent memory (accepted t) r h = go (fits_lent lent t) h
  where
    go : (b : Bool) → cond b (Ok (size_of (normal_of t))) (misfit lent t) ≡ Err r → cond b (lay_tree (loaded_of t) memory) memory ≡ memory
    go true e = never (cc)
    go false e = refl

-- nothing written, by number
abbrev not_written : ℕ → Result OctetCount Refusal
not_written n = Err (refusal n 0)

-- what an accepted object lacks
lack : (lent : Lent) (t : Items) → fits_lent lent t ≡ false → (r : Refusal) × (misfit lent t ≡ Err r) × Lacks lent t r
unfolding misfit
lack lent t f = go (leb (count t) lent.records) refl
  where
    go : (b : Bool) → leb (count t) lent.records ≡ b → (r : Refusal) × (cond b (not_written 15) (not_written 14) ≡ Err r) × Lacks lent t r
    go true q = (refusal 15 0, refl, fifteen (leb-true (count t) lent.records q) (λ s. false≢true (sym f ∙ suffices-fits lent t s)))
    go false q = (refusal 14 0, refl, fourteen (leb-false (count t) lent.records q))

-- and that has the number 14 or 15, at 0, with field 0
lack-told : (object : List ℕ) (lent : Lent) (t : Items) (r : Refusal) → Lacks lent t r → Refuses object (14 ∷ 15 ∷ []) r.number r.place r.field
unfolding among
lack-told object lent t r (fourteen l) = for_call 14 0 0 (of_call 14 refl)
lack-told object lent t r (fifteen l s) = for_call 15 0 0 (of_call 15 refl)

-- how normalising ends, of any judgement
data Normal (lent : Lent) : Judged → Type 0 where
  bad : {r : Refusal} → normal_answer lent (refused r) ≡ Err r → Normal lent (refused r)
  lacking : {t : Items} (r : Refusal) → normal_answer lent (accepted t) ≡ Err r → Lacks lent t r → Normal lent (accepted t)
  good : {t : Items} → normal_answer lent (accepted t) ≡ Ok (size_of (normal_of t)) → Suffices lent t → Normal lent (accepted t)

normal : (lent : Lent) (j : Judged) → Normal lent j
unfolding normal_answer
normal lent (refused r) = bad refl
normal lent (accepted t) = go (fits_lent lent t) refl
  where
    go : (b : Bool) → fits_lent lent t ≡ b → Normal lent (accepted t)
    go true f = good {t = t} (rw f) (fits-suffices lent t f)
    go false f = let l = lack lent t f in lacking {t = t} l.0 (rw f l.1) l.2

pub normalise-ends : NormaliseEnds
normalise-ends object memory memory' room room' answer c =
    subst (λ x. Ends (Refuses object (14 ∷ 15 ∷ [])) ((memory' ≡ memory) × (room' ≡ room)) (write_outcome x)) (sym c.answers) (go (judge object) refl (normal lent (judge object)))
  where
    lent : Lent
    lent = lent_by memory room

    kept : (r : Refusal) → normal_answer lent (judge object) ≡ Err r → (memory' ≡ memory) × (room' ≡ room)
    kept r e = (
      c.leaves ∙ nothing-loaded lent memory (judge object) r e,
      c.writes ∙ ap (sets room 0) (nothing-handed lent _ (judge object) r e) ∙ sets-none room 0,
    )

    go : (j : Judged) → judge object ≡ j → Normal lent j → Ends (Refuses object (14 ∷ 15 ∷ [])) ((memory' ≡ memory) × (room' ≡ room)) (write_outcome (normal_answer lent (judge object)))
    go (refused r) h (bad e) = rw (h, e) (refused_at r.number r.place r.field (for_object r.number r.place r.field (of-object object r h)) (kept r (rw h e)))
    go (accepted t) h (lacking r e l) = rw (h, e) (refused_at r.number r.place r.field (lack-told object lent t r l) (kept r (rw h e)))
    go (accepted t) h (good e s) = rw (h, e) (answered (length (normal_of t)) 0)

pub same_ends : SameCallEnds
unfolding same_answer
same_ends a b answer e = subst (λ x. SameEnds a b (same_outcome x)) (sym e) (go (judge a) (judge b) refl refl)
  where
    told : (x : Bool) → SameEnds a b (same_outcome (cond x (Ok true) (Ok false)))
    told true = compared true
    told false = compared false

    go : (j k : Judged) → judge a ≡ j → judge b ≡ k → SameEnds a b (same_outcome (same_answer j k))
    go (refused r) k h g = first_at r.number r.place r.field (of-object a r h)
    go (accepted t) (refused r) h g = second_at r.number r.place r.field (of-object b r g)
    go (accepted t) (accepted u) h g = told (same_meaning (meaning_of t) (meaning_of u))

-- ---- the order of the refusals
pub one-exactly : OneExactly
unfolding judge rule unless
one-exactly object place = ((λ h. one_only object (refusal 1 place) h refl), (λ f. broken f.1 ∙ ap (λ p. refused (refusal 1 p)) (sym f.0)))
  where
    broken : (length object ≡ 0) ⊎ (32_768 < length object) → judge object ≡ refused (refusal 1 0)
    broken (inl e) = rw (lt-leb 1 (length object) (omega arith))
    broken (inr l) = rw (lt-leb (length object) 32_768 l, and-false (leb 1 (length object)))

module _ (j : Judged) (n headers : ℕ) (answer : Result Counts Refusal) where
  read-order : ((r : Refusal) → j ≡ refused r → r.number ≤ 13) → answer ≡ read_answer n headers j → ReadOrder j n headers answer
  unfolding read_answer
  read-order low e = go j refl e
    where
      bad : (s : Refusal) → j ≡ refused s → answer ≡ Err s → ReadOrder j n headers answer
      bad s h e = record {
        of_object = λ r l. ((λ q. cc), (λ q. cc));
        fourteen = ((λ q. let p : s ≡ refusal 14 0 = cc in absurd (omega (arith, low s h, ap (λ x. x.number) p))), (λ q. never (let p = q.1 in cc)));
        records = λ m items. ((λ q. never (cc)), (λ q. never (let p = q.1 in cc)));
      }

      few : (t : Items) → j ≡ accepted t → n < count t → answer ≡ Err (refusal 14 0) → ReadOrder j n headers answer
      few t h l e = record {
        of_object = λ r m. ((λ q. let p : r ≡ refusal 14 0 = cc in absurd (omega (arith, ap (λ x. x.number) p))), (λ q. never (cc)));
        fourteen = ((λ q. (t, h, l)), (λ q. e));
        records = λ m items. ((λ q. never (cc)), (λ q. let p : q.0 ≡ t = (let z = q.1 in cc) in absurd (omega (arith, l, q.2, q.4, ap count p))));
      }

      handed_out : (t : Items) → j ≡ accepted t → count t ≤ n → answer ≡ Ok (counts_of headers t) → ReadOrder j n headers answer
      handed_out t h l e = record {
        of_object = λ r m. ((λ q. never (cc)), (λ q. never (cc)));
        fourteen = ((λ q. never (cc)), (λ q. let p : q.0 ≡ t = (let z = q.1 in cc) in absurd (omega (arith, l, q.2, ap count p))));
        records = λ m items. (
          (λ q.
              let w : ◌≡◌ {A = Counts} (record { records = m; items = items }) (counts_of headers t) = cc in
              let p : m ≡ count t = ap (λ x. x.records) w in
              (t, h, p, ap (λ x. x.items) w, omega arith)),
          (λ q.
              let p : q.0 ≡ t = (let z = q.1 in cc) in
              e ∙ ap₂ (λ k i. Ok (record { records = k; items = i })) (ap count (sym p) ∙ sym q.2) (sym q.3)),
        );
      }

      go : (i : Judged) → j ≡ i → answer ≡ read_answer n headers i → ReadOrder j n headers answer
      go (refused s) h e = bad s h e
      go (accepted t) h e = one (leb (count t) n) refl e
        where
          one : (b : Bool) → leb (count t) n ≡ b → answer ≡ cond b (Ok (counts_of headers t)) (Err (refusal 14 0)) → ReadOrder j n headers answer
          one true q e = handed_out t h (leb-true (count t) n q) e
          one false q e = few t h (leb-false (count t) n q) e

pub read-in-order : ReadInOrder
read-in-order object before after answer c = read-order (judge object) (places before) (headers_of object) answer (λ r h. (of-object object r h).most) c.answers

pub read-at-most-in-order : ReadAtMostInOrder
read-at-most-in-order object most before after answer c =
    read-order (judge object) (min most (places before)) (headers_of object) answer (λ r h. (of-object object r h).most) c.answers

pub read-records-in-order : ReadRecordsInOrder
read-records-in-order object before after slice slice' answer c =
    read-order (judge object) (min (length slice) (places before)) (headers_of object) answer (λ r h. (of-object object r h).most) c.answers

module _ (n : ℕ) (memory : Memory) (room : OctetCount) (answer : Result OctetCount Refusal) where
  -- two trees of the same records are one
  one-given : (t u : Items) → tree_in n memory ≡ some t → GivenTree n memory u → u ≡ t
  one-given t u h g = some-injective u t (sym (tree-given n memory u g) ∙ h)

  write-order : answer ≡ write_answer room (tree_in n memory) → WriteOrder n memory room answer
  unfolding write_answer roomy
  write-order e = go (tree_in n memory) refl e
    where
      size : Items → ℕ
      size t = length (encode (means [] t))

      apart : not_written 16 ≡ not_written 15 → ⊥
      apart q = let p : refusal 16 0 ≡ refusal 15 0 = cc in omega (arith, ap (λ x. x.number) p)

      none-given : tree_in n memory ≡ none → answer ≡ Err (refusal 16 0) → WriteOrder n memory room answer
      none-given h e =
          let lost : (t : Items) → GivenTree n memory t → ⊥ = λ t g. none-ne-some t (sym h ∙ tree-given n memory t g) in
          record {
            sixteen = ((λ q. lost), (λ q. e));
            fifteen = ((λ q. absurd (apart (sym e ∙ q))), (λ q. absurd (lost q.0 q.1)));
            octets = λ k. ((λ q. never (cc)), (λ q. absurd (lost q.0 q.1)));
          }

      no_room : (t : Items) → tree_in n memory ≡ some t → min room.0 32_768 < size t → answer ≡ Err (refusal 15 0) → WriteOrder n memory room answer
      no_room t h l e = record {
        sixteen = ((λ q. absurd (apart (sym q ∙ e))), (λ q. absurd (q t (given-tree n memory t h))));
        fifteen = ((λ q. (t, given-tree n memory t h, l)), (λ q. e));
        octets = λ k. ((λ q. never (cc)), (λ q. absurd (omega (arith, l, ap (λ m. m.0) q.2, q.3, ap size (one-given t q.0 h q.1)))));
      }

      written : (t : Items) → tree_in n memory ≡ some t → size t ≤ min room.0 32_768 → answer ≡ Ok (as_octets (size t)) → WriteOrder n memory room answer
      written t h l e = record {
        sixteen = ((λ q. never (cc)), (λ q. absurd (q t (given-tree n memory t h))));
        fifteen = ((λ q. never (cc)), (λ q. absurd (omega (arith, l, q.2, ap size (one-given t q.0 h q.1)))));
        octets = λ k. (
          (λ q. let p : k.0 ≡ size t = cc in (t, given-tree n memory t h, ap as_octets p, omega arith)),
          (λ q. e ∙ ap Ok (ap (λ u. as_octets (size u)) (sym (one-given t q.0 h q.1)) ∙ sym q.2)),
        );
      }

      go : (o : Option Items) → tree_in n memory ≡ o → answer ≡ write_answer room o → WriteOrder n memory room answer
      go none h e = none-given h e
      go (some t) h e = one (leb (size t) (min room.0 32_768)) refl e
        where
          one : (b : Bool) → leb (size t) (min room.0 32_768) ≡ b → answer ≡ cond b (Ok (as_octets (size t))) (Err (refusal 15 0))
              → WriteOrder n memory room answer
          one true q e = written t h (leb-true (size t) (min room.0 32_768) q) e
          one false q e = no_room t h (leb-false (size t) (min room.0 32_768) q) e

pub write-in-order : WriteInOrder
write-in-order n memory bodies' before after answer c = write-order n memory (size_of before) answer c.answers

-- what is lacking has one number, 14 or 15, and nothing suffices then
lack-one : (lent : Lent) (t : Items) (r s : Refusal) → Lacks lent t r → Lacks lent t s → r ≡ s
lack-one lent t r s (fourteen l) (fourteen m) = refl
lack-one lent t r s (fourteen l) (fifteen m f) = absurd (omega arith)
lack-one lent t r s (fifteen l f) (fourteen m) = absurd (omega arith)
lack-one lent t r s (fifteen l f) (fifteen m g) = refl

lack-late : (lent : Lent) (t : Items) (r : Refusal) → Lacks lent t r → 14 ≤ r.number
lack-late lent t r (fourteen l) = omega arith
lack-late lent t r (fifteen l f) = omega arith

lack-short : (lent : Lent) (t : Items) (r : Refusal) → Lacks lent t r → Suffices lent t → ⊥
lack-short lent t r (fourteen l) s = omega (arith, s.records)
lack-short lent t r (fifteen l f) s = f s

module _ (j : Judged) (lent : Lent) (answer : Result OctetCount Refusal) where
  normalise-order : ((r : Refusal) → j ≡ refused r → r.number ≤ 13) → answer ≡ normal_answer lent j → NormaliseOrder j lent answer
  normalise-order low e = go j refl (normal lent j) e
    where
      refusing : (s : Refusal) → j ≡ refused s → answer ≡ Err s → NormaliseOrder j lent answer
      refusing s h e = record {
        of_object = λ r l. ((λ q. cc), (λ q. cc));
        lacking = λ r l. ((λ q. let p : s ≡ r = cc in absurd (omega (arith, low s h, ap (λ x. x.number) p))), (λ q. never (let p = q.1 in cc)));
        octets = λ k. ((λ q. never (cc)), (λ q. never (let p = q.1 in cc)));
      }

      short : (t : Items) (s : Refusal) → j ≡ accepted t → Lacks lent t s → answer ≡ Err s → NormaliseOrder j lent answer
      short t s h l e = record {
        of_object = λ r m. ((λ q. let p : s ≡ r = cc in absurd (omega (arith, lack-late lent t s l, ap (λ x. x.number) p))), (λ q. never (cc)));
        lacking = λ r m. (
          (λ q. let p : s ≡ r = cc in (t, h, subst (Lacks lent t) p l)),
          (λ q. let p : q.0 ≡ t = (let z = q.1 in cc) in e ∙ ap Err (lack-one lent t s r l (subst (λ x. Lacks lent x r) p q.2))),
        );
        octets = λ k. ((λ q. never (cc)), (λ q. let p : q.0 ≡ t = (let z = q.1 in cc) in absurd (lack-short lent t s l (subst (Suffices lent) p q.3))));
      }

      fine : (t : Items) → j ≡ accepted t → Suffices lent t → answer ≡ Ok (size_of (normal_of t)) → NormaliseOrder j lent answer
      fine t h s e = record {
        of_object = λ r m. ((λ q. never (cc)), (λ q. never (cc)));
        lacking = λ r m. ((λ q. never (cc)), (λ q. let p : q.0 ≡ t = (let z = q.1 in cc) in absurd (lack-short lent t r (subst (λ x. Lacks lent x r) p q.2) s)));
        octets = λ k. (
          (λ q. let p : k.0 ≡ length (normal_of t) = cc in (t, h, ap as_octets p, s)),
          (λ q. let p : q.0 ≡ t = (let z = q.1 in cc) in e ∙ ap Ok (ap (λ x. size_of (normal_of x)) (sym p) ∙ sym q.2)),
        );
      }

      go : (i : Judged) → j ≡ i → Normal lent i → answer ≡ normal_answer lent j → NormaliseOrder j lent answer
      go (refused s) h (bad f) e = refusing s h (e ∙ ap (normal_answer lent) h ∙ f)
      go (accepted t) h (lacking s f l) e = short t s h l (e ∙ ap (normal_answer lent) h ∙ f)
      go (accepted t) h (good f s) e = fine t h s (e ∙ ap (normal_answer lent) h ∙ f)

pub normalise-in-order : NormaliseInOrder
normalise-in-order object memory memory' room room' answer c =
    normalise-order (judge object) (lent_by memory room) answer (λ r h. (of-object object r h).most) c.answers

module _ (j k : Judged) (answer : Result Bool SameRefusal) where
  same-order : answer ≡ same_answer j k → SameOrder j k answer
  unfolding same_answer
  same-order e = go j k refl refl e
    where
      first_refusing : (s : Refusal) → j ≡ refused s → answer ≡ Err (First s) → SameOrder j k answer
      first_refusing s h e = record {
        of_first = λ r. ((λ q. cc), (λ q. cc));
        of_second = λ r. ((λ q. never (cc)), (λ q. never (let p = q.1 in cc)));
      }

      second_refusing : (t : Items) (s : Refusal) → j ≡ accepted t → k ≡ refused s → answer ≡ Err (Second s) → SameOrder j k answer
      second_refusing t s h g e = record {
        of_first = λ r. ((λ q. never (cc)), (λ q. never (cc)));
        of_second = λ r. ((λ q. (t, h, (cc))), (λ q. let p = q.2 in cc));
      }

      neither : (t u : Items) → j ≡ accepted t → k ≡ accepted u → ((r : Refusal) → (answer ≡ Err (First r) → ⊥) × (answer ≡ Err (Second r) → ⊥))
          → SameOrder j k answer
      neither t u h g not = record {
        of_first = λ r. ((λ q. absurd ((not r).0 q)), (λ q. never (cc)));
        of_second = λ r. ((λ q. absurd ((not r).1 q)), (λ q. never (let p = q.2 in cc)));
      }

      told : (x : Bool) → answer ≡ cond x (Ok true) (Ok false) → (r : Refusal) → (answer ≡ Err (First r) → ⊥) × (answer ≡ Err (Second r) → ⊥)
      told true e r = ((λ q. never (cc)), (λ q. never (cc)))
      told false e r = ((λ q. never (cc)), (λ q. never (cc)))

      go : (a b : Judged) → j ≡ a → k ≡ b → answer ≡ same_answer a b → SameOrder j k answer
      go (refused s) b h g e = first_refusing s h e
      go (accepted t) (refused s) h g e = second_refusing t s h g e
      go (accepted t) (accepted u) h g e = neither t u h g (told (same_meaning (meaning_of t) (meaning_of u)) e)

pub same-in-order : SameInOrder
same-in-order a b answer e = same-order (judge a) (judge b) answer e

-- ---- the leaves: one law
pub put-call-ends : PutCallEnds
unfolding put_answer put_out
put-call-ends valid octets at before after answer c = subst (PutEnds valid octets at before after) (sym c.answers) (go valid refl c.leaves)
  where
    one : (b : Bool) → valid ≡ true → leb (at + length octets) (length before) ≡ b → after ≡ cond b (sets before at octets) before
        → PutEnds valid octets at before after (cond b (Ok (at + length octets)) (Err NoRoom))
    one true v q f = put v (leb-true (at + length octets) (length before) q) f
    one false v q f = lacks_room v (leb-false (at + length octets) (length before) q) f

    go : (v : Bool) → valid ≡ v → after ≡ cond v (cond (leb (at + length octets) (length before)) (sets before at octets) before) before
        → PutEnds valid octets at before after (cond v (cond (leb (at + length octets) (length before)) (Ok (at + length octets)) (Err NoRoom)) (Err Invalid))
    go true v f = one (leb (at + length octets) (length before)) v refl f
    go false v f = not_valid v f
