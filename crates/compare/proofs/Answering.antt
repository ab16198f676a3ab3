-- The ways through compare_accepted and same: two parts that are whole objects, under the tables that are found in them.
use Rattle.std.specs.Prelude.{Result, Ok, Err}
use mathlib.Core.Path.{◌≡◌, refl, sym, ap, ap₂, ◌∙◌, fun_ext}
use mathlib.Core.Bool.{Bool, true, false, cond}
use mathlib.Core.Option.{Option, none, some}
use mathlib.Core.List.{List}
use Prim.Native.Nat.{ℕ}
use Rattle.octets.specs.Numbers.{Octets}
use Rattle.text.specs.Tokens.{Entries, entries, expanded}
use Rattle.text.specs.Index.{Indexes, entries_by}
use Rattle.text.proofs.Index.{indexed-expanded}
use Rattle.values.specs.declared.Kind.{Kind}
use Rattle.values.specs.declared.Kind.TheVariants.{HoldsItems, HoldsTokens, HoldsText, HoldsPlain, HoldsTime, HoldsBearer, HoldsNumber}
use Rattle.values.specs.Table.{known, attribute}
use Rattle.values.specs.Values.{meant}
use Rattle.values.specs.Values.Value.{octets}
use Rattle.format.specs.declared.Refusal.{Refusal}
use Rattle.format.specs.declared.Counts.{Counts}
use Rattle.format.specs.Tree.{Items, find}
use Rattle.format.specs.Tree.Items.{end, item}
use Rattle.format.specs.Judge.{is_text, judge}
use Rattle.format.specs.Judge.Judged.{accepted}
use Rattle.format.specs.Meaning.{opens, is_child, value_in, counted, attributes_in, cdata_in, leaf_octets, means, meaning_of, normal_of}
use Rattle.format.specs.Meaning.Meaning.{element, leaf}
use Rattle.format.specs.Headers.{headers_of}
use Rattle.format.specs.Calls.{judge_answer}
use Rattle.format.specs.Same.{same_octets, same_meaning, same_answer, has_normal, is_normal}
use Rattle.reader.proofs.Reading.{was-refused, was-accepted, whole}
use Rattle.survey.specs.Places.{table_body}
use Rattle.survey.proofs.Tables.{table-told}
use Rattle.compare.specs.Normal.{shaped}
use Rattle.format.proofs.Same.{same-octets, octets-exactly, tests_agree, same-exactly}
use Rattle.format.specs.declared.SameRefusal.{SameRefusal}
use Rattle.format.specs.declared.SameRefusal.TheVariants.{First, Second}
use Rattle.compare.proofs.Normalising.{shaped-exactly}
use Rattle.compare.specs.Items.{same_children, Compared}
use Rattle.compare.proofs.Comparing.{children-say}

-- ---- a meaning depends on a table by its expansions alone

module _ (es fs : Entries) (h : (o : List ℕ) → expanded es o ≡ expanded fs o) where
  meant-same : (k : Kind) (o : List ℕ) → meant es k o ≡ meant fs k o
  unfolding meant
  meant-same HoldsItems o = refl
  meant-same HoldsTokens o = refl
  meant-same HoldsText o = ap octets (h o)
  meant-same HoldsPlain o = refl
  meant-same HoldsTime o = refl
  meant-same HoldsBearer o = refl
  meant-same (HoldsNumber n) o = refl

  value_same : (o : Option (List ℕ)) (k : Option Kind) → value_in es o k ≡ value_in fs o k
  unfolding value_in
  value_same none k = refl
  value_same (some o) none = refl
  value_same (some o) (some k) = ap some (meant-same k o)

  attributes-same : (p : ℕ) (t : Items) → attributes_in es p t ≡ attributes_in fs p t
  unfolding attributes_in
  attributes-same p t = fun_ext (λ tag. ap (λ x. cond (attribute tag) (counted p tag x) none) (value_same (find tag t) (known p tag)))

  data-same : (o : Option (List ℕ)) (t : Items) → find 1 t ≡ o → cdata_in es t ≡ cdata_in fs t
  unfolding cdata_in
  data-same none t e = rw e
  data-same (some o) t e = rw e (ap some (h o))

  leaf-same : (tag : ℕ) (o : List ℕ) → leaf_octets es tag o ≡ leaf_octets fs tag o
  unfolding leaf_octets
  leaf-same tag o = ap (λ x. cond (is_text (known 0 tag)) x o) (h o)

  means-item : (tag at : ℕ) (body : List ℕ) (t u : Items) → means es t ≡ means fs t → means es u ≡ means fs u → means es (item tag at body t u) ≡ means fs (item tag at body t u)
  unfolding means
  means-item tag at body t u x y =
      let f = attributes-same tag t in
      let d = data-same (find 1 t) t refl in
      let l = leaf-same tag body in
      let held : element tag (attributes_in es tag t) (means es t) (cdata_in es t) (means es u) ≡ element tag (attributes_in fs tag t) (means fs t) (cdata_in fs t) (means fs u) = cc in
      let plain : leaf tag (leaf_octets es tag body) (means es u) ≡ leaf tag (leaf_octets fs tag body) (means fs u) = cc in
      ap₂ (λ a b. cond (is_child tag) a b) (ap₂ (λ a b. cond (opens tag) a b) held plain) y

  pub means-same : (t : Items) → means es t ≡ means fs t
  unfolding means
  means-same end = refl
  means-same (item tag at body t u) = means-item tag at body t u (means-same t) (means-same u)

-- under the table that is found in an accepted object, and its index, the object means what it means
pub found-means : (o : List ℕ) (t : Items) (table index : List ℕ) → judge o ≡ accepted t → table ≡ table_body o → Indexes (entries table) index → means (entries_by index table) t ≡ meaning_of t
found-means o t table index h e x =
    means-same (entries_by index table) (entries table) (indexed-expanded table index x) t ∙ ap (λ es. means es t) (ap entries e ∙ table-told o t h)

-- ---- compare_accepted

module _ (a b ta tb xa xb : List ℕ) (ea : ta ≡ table_body a) (eb : tb ≡ table_body b) (ia : Indexes (entries ta) xa) (ib : Indexes (entries tb) xb)
    (r : Bool) (s : r ≡ same_children 16 (entries_by xa ta) a (entries_by xb tb) b) where
  says : (t u : Items) → judge a ≡ accepted t → judge b ≡ accepted u → r ≡ same_meaning (meaning_of t) (meaning_of u)
  says t u x y = s ∙ children-say (entries_by xa ta) (entries_by xb tb) 16 0 0 1 1 0 0 a b t u refl (whole a t x) (whole b u y) ∙ ap₂ same_meaning (found-means a t ta xa x ea ia) (found-means b u tb xb y eb ib)

  pub compared : Compared a b r
  unfolding Compared
  compared = says

-- ---- same

told : (r : Bool) → ◌≡◌ {A = Result Bool SameRefusal} (Ok r) (cond r (Ok true) (Ok false))
told true = refl
told false = refl

module _ (a b : List ℕ) (ra : Result Counts Refusal) (ae : ra ≡ judge_answer (headers_of a) (judge a)) where
  pub same_first : (n : Refusal) → ra ≡ Err n → Err (First n) ≡ same_answer (judge a) (judge b)
  unfolding same_answer
  same_first n q = sym (ap (λ j. same_answer j (judge b)) (was-refused (headers_of a) (judge a) n (sym q ∙ ae)))

  pub same-twin : Octets a → (m : Counts) → ra ≡ Ok m → (r : Bool) → r ≡ same_octets a b → r ≡ true → Ok true ≡ same_answer (judge a) (judge b)
  same-twin oa m q r e h =
      let x = was-accepted (headers_of a) (judge a) m (sym q ∙ ae) in
      let twin : a ≡ b = same-octets a b (sym e ∙ h) in
      sym (ap (λ o. same_answer (judge a) (judge o)) (sym twin) ∙ (same-exactly a a x.tree x.tree oa oa x.is x.is).1 refl)

  module _ (m : Counts) (q : ra ≡ Ok m) (rb : Result Counts Refusal) (be : rb ≡ judge_answer (headers_of b) (judge b)) where
    pub same_second : (n : Refusal) → rb ≡ Err n → Err (Second n) ≡ same_answer (judge a) (judge b)
    unfolding same_answer
    same_second n p = sym (ap₂ same_answer (was-accepted (headers_of a) (judge a) m (sym q ∙ ae)).is (was-refused (headers_of b) (judge b) n (sym p ∙ be)))

    pub same-both : (n : Counts) → rb ≡ Ok n → (r : Bool) → Compared a b r → Ok r ≡ same_answer (judge a) (judge b)
    unfolding same_answer Compared
    same-both n p r c =
        let x = was-accepted (headers_of a) (judge a) m (sym q ∙ ae) in
        let y = was-accepted (headers_of b) (judge b) n (sym p ∙ be) in
        told r ∙ ap (λ k. cond k (Ok true) (Ok false)) (c x.tree y.tree x.is y.is) ∙ sym (ap₂ same_answer x.is y.is)

pub ruleset same-ways = (same_first, same-twin, same_second, same-both)

-- ---- is_normal

module _ (o : List ℕ) (r : Result Counts Refusal) (e : r ≡ judge_answer (headers_of o) (judge o)) where
  pub normal-refused : (n : Refusal) → r ≡ Err n → false ≡ is_normal o
  unfolding is_normal has_normal
  normal-refused n q = sym (ap (has_normal o) (was-refused (headers_of o) (judge o) n (sym q ∙ e)))

  pub normal-told : Octets o → (n : Counts) → r ≡ Ok n → (a : Bool) → a ≡ shaped 0 0x7F o → a ≡ is_normal o
  unfolding is_normal has_normal
  normal-told os n q a f =
      let x = was-accepted (headers_of o) (judge o) n (sym q ∙ e) in
      f ∙ tests_agree {A = normal_of x.tree ≡ o} (shaped 0 0x7F o) (same_octets (normal_of x.tree) o) (shaped-exactly o x.tree os x.is) (octets-exactly (normal_of x.tree) o) ∙ sym (ap (has_normal o) x.is)

pub ruleset normal-ways = (normal-refused, normal-told)
