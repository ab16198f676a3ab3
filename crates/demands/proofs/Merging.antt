-- Request 2026-10, by the theorems of merge.
use Rattle.std.specs.Prelude.{Result, Ok, Err}
use mathlib.Core.Path.{◌≡◌, refl, sym, ap, ◌∙◌, subst}
use mathlib.Core.Bool.{Bool, true, false}
use mathlib.Core.Option.{none, some}
use mathlib.Core.List.{List, [], ◌∷◌}
use Prim.Native.Nat.{ℕ, ◌≤◌, ◌<◌, min}
use native.Mathlib.Omega.{arith}
use lib.Dec.{leb}
use lib.ListN.{length, take, drop}
use lib.Seq.{sets}
use borrow.Author.Tests.{leb-true, leb-false, le-leb, lt-leb}
use Rattle.octets.specs.declared.counts.Octets.{Octets as OctetCount}
use Rattle.octets.specs.Counts.{size_of}
use Rattle.octets.specs.Numbers.{Octets, among}
use Rattle.octets.proofs.Lists.{part-of-sets, drop-sets}
use Rattle.octets.proofs.Tests.{never}
use Rattle.format.specs.declared.Refusal.{Refusal}
use Rattle.format.specs.Answers.{refusal}
use Rattle.format.specs.Tree.{Items, count}
use Rattle.format.specs.Judge.{Judged, rule, first, judge}
use Rattle.format.specs.Judge.Judged.{refused, accepted}
use Rattle.format.specs.Meaning.{Meaning, meaning_of, meaning, if_accepted, encode, normal}
use Rattle.format.specs.Loaded.{loaded_of}
use Rattle.format.specs.Calls.{Lent, roomy, fits_lent}
use Rattle.format.specs.State.{Memory, lay_tree}
use Rattle.state.specs.Taking.{lent_by, loaded_into}
use Rattle.merge.specs.declared.Services.{Services}
use Rattle.merge.specs.Merged.{merged, clash, same_top, twice}
use Rattle.merge.specs.Kept.{empty_top, Mergeable, InOrder, AnyOrder, Comes}
use Rattle.merge.specs.Sizes.{records_in, stored_in}
use Rattle.merge.specs.Calls.{conflict, misfit, Outcome, unless_refused, merged_into, outcome, answer_of, written_of, MergeClaim, records_size}
use Rattle.merge.specs.Calls.Outcome.{refuses, gives}
use Rattle.merge.proofs.Results.{Fits, merge-suffices, merge-result, merge-leaves, merge-empty}
use Rattle.merge.specs.declared.Merged.{Merged}
use Rattle.merge.specs.declared.MergeRefusal.{MergeRefusal}
use Rattle.merge.specs.declared.MergeRefusal.TheVariants.{Basic, Advanced, Neither}
use Rattle.demands.specs.One.{OfCall}
use Rattle.demands.specs.One.OfCall.{of_call}
use Rattle.demands.specs.Merging.{Ended, MergeEnds, Suffices, Hinders, MergeOrder, MergeInOrder, MergeGives, MergeEmpty, MergeAlways}
use Rattle.demands.specs.Merging.Ended.{merges, of_basic, of_advanced, of_both}
use Rattle.demands.specs.Merging.Hinders.{twenty, twenty_one, fourteen, fifteen}
use Rattle.demands.proofs.Laws.{empty-refused, of-object, has-meaning, accepted-means}

-- ---- what is in the way of two meanings, as the definition finds it

module _ (by : Services) (m n : Meaning) where
  conflict-20 : (same_top m n ≡ true → clash by m n ≡ false → ⊥) → conflict by m n ≡ some (refusal 20 0)
  unfolding conflict first rule
  conflict-20 h = go (same_top m n) (clash by m n) refl refl
    where
      go : (a b : Bool) → same_top m n ≡ a → clash by m n ≡ b → conflict by m n ≡ some (refusal 20 0)
      go true true p q = rw (p, q)
      go true false p q = absurd (h p q)
      go false b p q = rw p

  conflict-21 : same_top m n ≡ true → clash by m n ≡ false → (twice by m ≡ false → twice by n ≡ false → ⊥) → conflict by m n ≡ some (refusal 21 0)
  unfolding conflict first rule
  conflict-21 p q h = go (twice by m) (twice by n) refl refl
    where
      go : (a b : Bool) → twice by m ≡ a → twice by n ≡ b → conflict by m n ≡ some (refusal 21 0)
      go true b e f = rw (p, q, e)
      go false true e f = rw (p, q, e, f)
      go false false e f = absurd (h e f)

  conflict-none : Mergeable by m n → conflict by m n ≡ none
  unfolding conflict first rule
  conflict-none f = rw (f.tops, f.quiet, f.basic_once, f.advanced_once)

module _ (lent : Lent) (w : Meaning) where
  misfit-14 : lent.records < records_in w → misfit lent w ≡ some (refusal 14 0)
  unfolding misfit first rule
  misfit-14 l = rw (lt-leb (records_in w) lent.records l)

  misfit-15 : records_in w ≤ lent.records → (Suffices lent w → ⊥) → misfit lent w ≡ some (refusal 15 0)
  unfolding misfit first rule roomy
  misfit-15 l h = go (leb (stored_in w) lent.store.0) (leb (length (encode w)) (min lent.room.0 32_768)) refl refl
    where
      go : (a b : Bool) → leb (stored_in w) lent.store.0 ≡ a → leb (length (encode w)) (min lent.room.0 32_768) ≡ b → misfit lent w ≡ some (refusal 15 0)
      go true true p q =
          let s = leb-true (stored_in w) lent.store.0 p in
          let o = leb-true (length (encode w)) (min lent.room.0 32_768) q in
          absurd (h (record { records = l; store = s; room = omega arith; object = omega arith }))
      go true false p q = rw (le-leb (records_in w) lent.records l, p, q)
      go false b p q = rw (le-leb (records_in w) lent.records l, p)

  misfit-none : Suffices lent w → misfit lent w ≡ none
  unfolding misfit first rule roomy
  misfit-none s =
      let a = s.room in
      let b = s.object in
      rw (le-leb (records_in w) lent.records s.records, le-leb (stored_in w) lent.store.0 s.store, le-leb (length (encode w)) (min lent.room.0 32_768) (omega arith))

module _ (by : Services) (lent : Lent) (m n : Meaning) where
  hindered : (r : Refusal) → Hinders by lent m n r → merged_into by lent m n ≡ refuses (Err (Neither r))
  unfolding merged_into unless_refused
  hindered r (twenty h) = rw (conflict-20 by m n h)
  hindered r (twenty_one p q h) = rw (conflict-21 by m n p q h)
  hindered r (fourteen f l) = rw (conflict-none by m n f, misfit-14 lent (merged by m n) l)
  hindered r (fifteen f l h) = rw (conflict-none by m n f, misfit-15 lent (merged by m n) l h)

  -- something is in the way, or nothing
  data Way : Outcome → Type 0 where
    blocked : (r : Refusal) → Hinders by lent m n r → Way (refuses (Err (Neither r)))
    clear : Mergeable by m n → Suffices lent (merged by m n) → Way (gives (merged by m n))

  way : Way (merged_into by lent m n)
  unfolding merged_into unless_refused
  way = tops (same_top m n) (clash by m n) refl refl
    where
      no : (r : Refusal) → Hinders by lent m n r → Way (merged_into by lent m n)
      no r h = subst Way (sym (hindered r h)) (blocked r h)

      lent-for : Mergeable by m n → (a b c : Bool) → leb (records_in (merged by m n)) lent.records ≡ a → leb (stored_in (merged by m n)) lent.store.0 ≡ b
          → leb (length (encode (merged by m n))) (min lent.room.0 32_768) ≡ c → Way (merged_into by lent m n)
      lent-for f false b c p q r = no (refusal 14 0) (fourteen f (leb-false (records_in (merged by m n)) lent.records p))
      lent-for f true false c p q r =
          let l = leb-false (stored_in (merged by m n)) lent.store.0 q in
          no (refusal 15 0) (fifteen f (leb-true (records_in (merged by m n)) lent.records p) (λ s. let k = s.store in absurd (omega arith)))
      lent-for f true true false p q r =
          let l = leb-false (length (encode (merged by m n))) (min lent.room.0 32_768) r in
          no (refusal 15 0) (fifteen f (leb-true (records_in (merged by m n)) lent.records p) (λ s. let k = s.room in let o = s.object in absurd (omega arith)))
      lent-for f true true true p q r =
          let a = leb-true (records_in (merged by m n)) lent.records p in
          let b = leb-true (stored_in (merged by m n)) lent.store.0 q in
          let c = leb-true (length (encode (merged by m n))) (min lent.room.0 32_768) r in
          let s : Suffices lent (merged by m n) = record { records = a; store = b; room = omega arith; object = omega arith } in
          let e : merged_into by lent m n ≡ gives (merged by m n) = rw (conflict-none by m n f, misfit-none lent (merged by m n) s) in
          subst Way (sym e) (clear f s)

      keys : same_top m n ≡ true → clash by m n ≡ false → (a b : Bool) → twice by m ≡ a → twice by n ≡ b → Way (merged_into by lent m n)
      keys p q false false e f = lent-for (record { tops = p; quiet = q; basic_once = e; advanced_once = f }) (leb (records_in (merged by m n)) lent.records) (leb (stored_in (merged by m n)) lent.store.0) (leb (length (encode (merged by m n))) (min lent.room.0 32_768)) refl refl refl
      keys p q true b e f = no (refusal 21 0) (twenty_one p q (λ x y. never (cc)))
      keys p q false true e f = no (refusal 21 0) (twenty_one p q (λ x y. never (cc)))

      tops : (a b : Bool) → same_top m n ≡ a → clash by m n ≡ b → Way (merged_into by lent m n)
      tops true false p q = keys p q (twice by m) (twice by n) refl refl
      tops true true p q = no (refusal 20 0) (twenty (λ x y. never (cc)))
      tops false b p q = no (refusal 20 0) (twenty (λ x y. never (cc)))

room-long : (lent : Lent) (w : Meaning) → Fits lent w → length (encode w) ≤ lent.room.0
unfolding roomy
room-long lent w f = let l = leb-true (length (encode w)) (min lent.room.0 32_768) f.room in omega arith

-- ---- what becomes of two objects

module _ (by : Services) (basic advanced : List ℕ) (lent : Lent) where
  data Came : Outcome → Type 0 where
    basic-no : (r : Refusal) → judge basic ≡ refused r → Came (refuses (Err (Basic r)))
    advanced-no : (t : Items) (r : Refusal) → judge basic ≡ accepted t → judge advanced ≡ refused r → Came (refuses (Err (Advanced r)))
    both-no : (t u : Items) (r : Refusal) → judge basic ≡ accepted t → judge advanced ≡ accepted u → Hinders by lent (meaning_of t) (meaning_of u) r
        → Came (refuses (Err (Neither r)))
    become : (w : Meaning) → Came (gives w)

  came : Came (outcome by lent (judge basic) (judge advanced))
  unfolding outcome
  came = go (judge basic) (judge advanced) refl refl
    where
      both : (t u : Items) (o : Outcome) → judge basic ≡ accepted t → judge advanced ≡ accepted u → Way by lent (meaning_of t) (meaning_of u) o → Came o
      both t u o e f (blocked r h) = both-no t u r e f h
      both t u o e f (clear x s) = become (merged by (meaning_of t) (meaning_of u))

      go : (b a : Judged) → judge basic ≡ b → judge advanced ≡ a → Came (outcome by lent b a)
      go (refused r) a e f = basic-no r e
      go (accepted t) (refused r) e f = advanced-no t r e f
      go (accepted t) (accepted u) e f = both t u (merged_into by lent (meaning_of t) (meaning_of u)) e f (way by lent (meaning_of t) (meaning_of u))

of-hinder : (by : Services) (lent : Lent) (m n : Meaning) (r : Refusal) → Hinders by lent m n r → OfCall (20 ∷ 21 ∷ 14 ∷ 15 ∷ []) r.number r.place r.field
unfolding among
of-hinder by lent m n r (twenty h) = of_call 20 refl
of-hinder by lent m n r (twenty_one p q h) = of_call 21 refl
of-hinder by lent m n r (fourteen f l) = of_call 14 refl
of-hinder by lent m n r (fifteen f l h) = of_call 15 refl

module _ (by : Services) (basic advanced : List ℕ) (m m' : Memory) (room room' : List ℕ) (answer : Result Merged MergeRefusal)
    (c : MergeClaim by basic advanced m m' room room' answer) where
  abbrev lent : Lent
  lent = lent_by m room

  abbrev result : Outcome
  result = outcome by lent (judge basic) (judge advanced)

  abbrev Untouched : Type 0
  Untouched = (m' ≡ m) × (room' ≡ room)

  told : (o : Outcome) → result ≡ o → answer ≡ answer_of o
  told o e = c.answers ∙ ap answer_of e

  -- a refusal leaves all as it was
  untouched : (a : Result Merged MergeRefusal) → result ≡ refuses a → Untouched
  unfolding written_of loaded_into
  untouched a e = (
    c.leaves ∙ ap (λ x. loaded_into lent (judge (written_of x)) m) e ∙ ap (λ j. loaded_into lent j m) empty-refused,
    c.writes ∙ ap (λ x. sets room 0 (written_of x)) e,
  )

  ends : Ended basic advanced Untouched answer
  unfolding answer_of
  ends = subst (Ended basic advanced Untouched) (sym c.answers) (go result (came by basic advanced lent) refl)
    where
      go : (o : Outcome) → Came by basic advanced lent o → result ≡ o → Ended basic advanced Untouched (answer_of o)
      go o (basic-no r e) q = of_basic r (of-object basic r e) (untouched (Err (Basic r)) q)
      go o (advanced-no t r e f) q = of_advanced r (of-object advanced r f) (untouched (Err (Advanced r)) q)
      go o (both-no t u r e f h) q = of_both r (of-hinder by lent (meaning_of t) (meaning_of u) r h) (untouched (Err (Neither r)) q)
      go o (become w) q = merges (records_in w) (size_of (encode w))

  -- each answer by its own condition
  from-basic : (r : Refusal) (o : Outcome) → Came by basic advanced lent o → Err (Basic r) ≡ answer_of o → judge basic ≡ refused r
  unfolding answer_of
  from-basic r o (basic-no x e) q = let same : x ≡ r = cc in e ∙ ap refused same
  from-basic r o (advanced-no t x e f) q = never (cc)
  from-basic r o (both-no t u x e f h) q = never (cc)
  from-basic r o (become w) q = never (cc)

  from-advanced : (r : Refusal) (o : Outcome) → Came by basic advanced lent o → Err (Advanced r) ≡ answer_of o
      → (t : Items) × (judge basic ≡ accepted t) × (judge advanced ≡ refused r)
  unfolding answer_of
  from-advanced r o (basic-no x e) q = never (cc)
  from-advanced r o (advanced-no t x e f) q = let same : x ≡ r = cc in (t, e, f ∙ ap refused same)
  from-advanced r o (both-no t u x e f h) q = never (cc)
  from-advanced r o (become w) q = never (cc)

  from-both : (r : Refusal) (o : Outcome) → Came by basic advanced lent o → Err (Neither r) ≡ answer_of o
      → (t : Items) × (u : Items) × (judge basic ≡ accepted t) × (judge advanced ≡ accepted u) × Hinders by lent (meaning_of t) (meaning_of u) r
  unfolding answer_of
  from-both r o (basic-no x e) q = never (cc)
  from-both r o (advanced-no t x e f) q = never (cc)
  from-both r o (both-no t u x e f h) q = let same : x ≡ r = cc in (t, u, e, f, subst (Hinders by lent (meaning_of t) (meaning_of u)) same h)
  from-both r o (become w) q = never (cc)

  order : MergeOrder by basic advanced lent answer
  unfolding outcome answer_of
  order = record {
    of_basic = λ r. ((λ e. from-basic r result (came by basic advanced lent) (sym e ∙ c.answers)), (λ e. told (refuses (Err (Basic r))) (rw e)));
    of_advanced =
        λ r. ((λ e. from-advanced r result (came by basic advanced lent) (sym e ∙ c.answers)), (λ h. told (refuses (Err (Advanced r))) (rw (h.1, h.2))));
    of_both = λ r. (
      (λ e. from-both r result (came by basic advanced lent) (sym e ∙ c.answers)),
      (λ h. told (refuses (Err (Neither r))) (rw (h.2, h.3) (hindered by lent (meaning_of h.0) (meaning_of h.1) r h.4))),
    );
  }

  -- a result, where the answer is one
  pub record Given (n : ℕ) (size : OctetCount) : Type 0 where
    pub w : Meaning
    pub gives-it : result ≡ gives w
    pub records : n ≡ records_in w
    pub octets : size ≡ size_of (encode w)

  pub given : (n : ℕ) (size : OctetCount) → answer ≡ Ok (records_size n size) → Given n size
  unfolding answer_of
  given n size a = go result (came by basic advanced lent) refl (sym a ∙ c.answers)
    where
      go : (o : Outcome) → Came by basic advanced lent o → result ≡ o → Ok (records_size n size) ≡ answer_of o → Given n size
      go o (basic-no r e) q g = never (cc)
      go o (advanced-no t r e f) q g = never (cc)
      go o (both-no t u r e f h) q g = never (cc)
      go o (become w) q g =
          let same : records_size n size ≡ records_size (records_in w) (size_of (encode w)) = cc in
          record { w = w; gives-it = q; records = ap (λ k. k.records) same; octets = ap (λ k. k.size) same }

  -- the room then begins with the normal form of the merged meaning
  laid : (w : Meaning) → result ≡ gives w → room' ≡ sets room 0 (encode w)
  unfolding written_of
  laid w e = c.writes ∙ ap (λ o. sets room 0 (written_of o)) e

  written : (w : Meaning) → result ≡ gives w → Fits lent w → take (length (encode w)) room' ≡ encode w
  written w e f = let l = room-long lent w f in ap (take (length (encode w))) (laid w e) ∙ part-of-sets room 0 (encode w) (omega arith)

pub merge-ends : MergeEnds
merge-ends by basic advanced m m' room room' answer c = ends by basic advanced m m' room room' answer c

pub merge-in-order : MergeInOrder
merge-in-order by basic advanced m m' room room' answer c = order by basic advanced m m' room room' answer c

-- ---- what is merged

pub merge-gives : MergeGives
unfolding normal if_accepted
merge-gives by basic advanced os ps m m' room room' n size c =
    let lent = lent_by m room in
    let g = given by basic advanced m m' room room' (Ok (records_size n size)) c n size refl in
    let r = merge-result by lent basic advanced g.w os ps g.gives-it in
    let out = encode g.w in
    let many : size.0 ≡ length out = ap (λ s. s.0) g.octets in
    let octets : take size.0 room' ≡ out = ap (λ k. take k room') many
    ∙ written by basic advanced m m' room room' (Ok (records_size n size)) c g.w g.gives-it r.both.fits in
    let k = r.again in
    let is : meaning_of k.tree ≡ merged by (meaning_of r.both.basic) (meaning_of r.both.advanced) = k.means-it ∙ r.both.is in
    record {
      of_basic = r.both.basic;
      of_advanced = r.both.advanced;
      accepts_basic = r.both.first;
      accepts_advanced = r.both.second;
      again = k.tree;
      accepts = ap judge octets ∙ k.accepts;
      means-it = is;
      itself = ap normal octets ∙ rw k.accepts (ap some k.itself) ∙ ap some (sym octets);
      records = g.records ∙ sym k.records;
      memory = merge-leaves by basic advanced m m' room room' (Ok (records_size n size)) g.w c g.gives-it r;
      behind =
          ap (drop size.0) (laid by basic advanced m m' room room' (Ok (records_size n size)) c g.w g.gives-it)
          ∙ drop-sets size.0 room 0 out (omega (arith, many));
      basic-stays = subst (InOrder (meaning_of r.both.basic)) (sym k.means-it) r.basic;
      advanced-stays = subst (λ x. AnyOrder (meaning_of r.both.advanced) x) (sym k.means-it) r.advanced;
      comes = subst (Comes (meaning_of r.both.basic) (meaning_of r.both.advanced)) (sym k.means-it) r.comes;
    }

-- the tree of the result, which memory holds, and which fits what is lent
pub record Tree (m m' : Memory) (room room' : List ℕ) (n : ℕ) (size : OctetCount) : Type 0 where
  pub tree : Items
  pub accepts : judge (take size.0 room') ≡ accepted tree
  pub records : n ≡ count tree
  pub memory : m' ≡ lay_tree (loaded_of tree) m
  pub fits : fits_lent (lent_by m room) tree ≡ true

pub merge-tree : (by : Services) (basic advanced : List ℕ) → Octets basic → Octets advanced → (m m' : Memory) (room room' : List ℕ) (n : ℕ) (size : OctetCount)
    → MergeClaim by basic advanced m m' room room' (Ok (records_size n size)) → Tree m m' room room' n size
merge-tree by basic advanced os ps m m' room room' n size c =
    let g = given by basic advanced m m' room room' (Ok (records_size n size)) c n size refl in
    let r = merge-result by (lent_by m room) basic advanced g.w os ps g.gives-it in
    let many : size.0 ≡ length (encode g.w) = ap (λ s. s.0) g.octets in
    let octets : take size.0 room' ≡ encode g.w = ap (λ k. take k room') many
    ∙ written by basic advanced m m' room room' (Ok (records_size n size)) c g.w g.gives-it r.both.fits in
    record {
      tree = r.again.tree;
      accepts = ap judge octets ∙ r.again.accepts;
      records = g.records ∙ sym r.again.records;
      memory = merge-leaves by basic advanced m m' room room' (Ok (records_size n size)) g.w c g.gives-it r;
      fits = r.fits;
    }

-- of what was merged: the two meanings hold no key twice, and the room then has what they become
pub record Once (by : Services) (basic advanced : List ℕ) (given : List ℕ) : Type 0 where
  pub first : Meaning
  pub second : Meaning
  pub first_once : twice by first ≡ false
  pub second_once : twice by second ≡ false
  pub means-it : meaning given ≡ some (merged by first second)

pub merge-once : (by : Services) (basic advanced : List ℕ) → Octets basic → Octets advanced → (m m' : Memory) (room room' : List ℕ) (n : ℕ) (size : OctetCount)
    → MergeClaim by basic advanced m m' room room' (Ok (records_size n size)) → Once by basic advanced (take size.0 room')
merge-once by basic advanced os ps m m' room room' n size c =
    let g = given by basic advanced m m' room room' (Ok (records_size n size)) c n size refl in
    let r = merge-result by (lent_by m room) basic advanced g.w os ps g.gives-it in
    let many : size.0 ≡ length (encode g.w) = ap (λ s. s.0) g.octets in
    let octets : take size.0 room' ≡ encode g.w = ap (λ k. take k room') many
    ∙ written by basic advanced m m' room room' (Ok (records_size n size)) c g.w g.gives-it r.both.fits in
    record {
      first = meaning_of r.both.basic;
      second = meaning_of r.both.advanced;
      first_once = r.both.can.basic_once;
      second_once = r.both.can.advanced_once;
      means-it = accepted-means (take size.0 room') r.again.tree (ap judge octets ∙ r.again.accepts) ∙ ap some (r.again.means-it ∙ r.both.is);
    }

pub merge-with-empty : MergeEmpty
unfolding answer_of
merge-with-empty by basic advanced os ps m m' room room' answer c b tag e f s k l =
    let lent = lent_by m room in
    let x = has-meaning basic b e in
    let y = has-meaning advanced (empty_top tag) f in
    let t = x.0 in
    let same : meaning_of t ≡ b = x.2 in
    let o : outcome by lent (judge basic) (judge advanced) ≡ gives b =
    subst (λ z. outcome by lent (judge basic) (judge advanced) ≡ gives z) same
    (merge-empty by lent basic advanced t y.0 tag os x.1 y.1 y.2 (subst (λ z. same_top z (empty_top tag) ≡ true) (sym same) s) (subst (λ z. twice by z ≡ false) (sym same) k)
    (subst (λ z. misfit lent z ≡ none) (sym same) (misfit-none lent b l))) in
    let a : answer ≡ Ok (records_size (records_in b) (size_of (encode b))) = c.answers ∙ ap answer_of o in
    let r = merge-result by lent basic advanced b os ps o in
    let octets = written by basic advanced m m' room room' answer c b o r.both.fits in
    let again = accepted-means (encode b) r.again.tree r.again.accepts ∙ ap some r.again.means-it in
    (records_in b, size_of (encode b), a, ap meaning octets ∙ again ∙ sym e)

pub merge-always : MergeAlways
unfolding outcome merged_into unless_refused answer_of
merge-always by basic advanced os ps m m' room room' answer c t u h g f a b r l =
    let w = merged by (meaning_of t) (meaning_of u) in
    let fits = merge-suffices by basic advanced t u os ps h g f.tops l (lent_by m room) a b r in
    (records_in w, size_of (encode w), c.answers ∙ rw (h, g, conflict-none by (meaning_of t) (meaning_of u) f, fits))
