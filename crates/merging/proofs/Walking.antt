-- The walk over two objects: the ways through its functions.
use Rattle.std.specs.Prelude.{None, Some, Option as Optional}
use mathlib.Core.Path.{◌≡◌, refl, sym, ap, ap₂, ◌∙◌, subst}
use mathlib.Core.Bool.{Bool, true, false, cond, false≢true}
use mathlib.Core.Option.{Option, none, some}
use mathlib.Core.List.{List, [], ◌∷◌, ◌++◌, append-nil}
use Prim.Native.Nat.{ℕ, zero, suc, ◌+◌, ◌-◌, ◌≤◌}
use native.Mathlib.Nat.{add-zero}
use native.Mathlib.Omega.{arith}
use lib.ListN.{length, drop, get_or}
use Rattle.octets.specs.Header.{framed}
use Rattle.octets.specs.Places.{is_whole, first_body, after_first, between}
use Rattle.octets.proofs.Tests.{and_left}
use Rattle.text.specs.Tokens.{Entries, entries}
use Rattle.text.specs.Index.{Indexes, entries_by}
use Rattle.values.specs.declared.Kind.{Kind}
use Rattle.values.specs.declared.Kind.TheVariants.{HoldsItems, HoldsTokens, HoldsText, HoldsPlain, HoldsTime, HoldsBearer, HoldsNumber}
use Rattle.values.specs.Table.{known, attribute}
use Rattle.values.specs.Values.{Value, fits, meant, octets_of}
use Rattle.values.proofs.Known.{element-kind}
use Rattle.format.specs.Tree.{Items}
use Rattle.format.specs.Tree.Items.{end, item}
use Rattle.format.specs.Judge.{is_known, is_text}
use Rattle.format.specs.Meaning.{Meaning, opens, is_child, attributes_in, cdata_in, leaf_octets, means, maybe, rising, encode}
use Rattle.format.specs.Meaning.Meaning.{nothing, element, leaf}
use Rattle.format.proofs.NormalOctets.{child-no-attribute}
use Rattle.tags.specs.declared.Listed.{Listed}
use Rattle.tags.specs.declared.Listed.TheVariants.{Nothing, Inside, Value as OfKind}
use Rattle.tags.specs.Listed.{listed_as}
use Rattle.tags.proofs.Listing.{is-inside, is-value}
use Rattle.reader.specs.Filling.{Accepts}
use Rattle.survey.specs.Sizes.{taken}
use Rattle.compare.specs.declared.walks.Child.{Child}
use Rattle.compare.specs.Walks.{child, is_meant, children_within, children_in, ChildFound, Children}
use Rattle.compare.proofs.Walking.{Told, children-told, child-nothing}
use Rattle.compare.proofs.Walking.Told.{over, comes}
use Rattle.compare.proofs.Comparing.{found-ways}
use Rattle.merge.specs.declared.Services.{Services}
use Rattle.merge.specs.Merged.{either, united, then, new_language, added, merged}
use Rattle.merge.specs.Sizes.{taken as taken_of, records_in, stored_in}
use Rattle.merge.proofs.Empty.{then-nothing}
use Rattle.merge.proofs.Self.{then-assoc}
use Rattle.merge.proofs.Sizes.{records-then, stored-then}
use Rattle.merge.proofs.Octets.{encode-then}
use Rattle.merging.specs.declared.counting.Needs.{Needs}
use Rattle.merging.specs.declared.partners.Role.{Role}
use Rattle.merging.specs.declared.partners.Role.TheVariants.{Language, Own, Added}
use Rattle.merging.specs.Takes.{plus, Piece, empty, with, single, held, if_there, piece_of, attributes_of, Adds, ElementClosed, SinglePut, either_in, EitherPut, AttributesPut}
use Rattle.merging.specs.Roles.{chosen, is_put, partner_in}
use Rattle.merging.specs.Walks.{children_of, inside_of, ElementsPut, InsidePut, ElementPut, ChildPut, ChosenPut, ChildrenPut}
use Rattle.merging.proofs.Adding.{adds_none, adds-nothing, adds-kept, adds_same, adds_then}
use Rattle.merging.proofs.Singly.{cdata-mean}
use Rattle.merging.proofs.Roles.{chosen-then, chosen-nothing, means-then, unchosen, chosen-leaf, chosen-holder}

-- ---- the pieces of elements

piece_then : (m n : Meaning) → piece_of (then m n) ≡ with (piece_of m) (piece_of n)
unfolding piece_of with
piece_then m n = rw (records-then m n, stored-then m n, encode-then m n)

piece-nothing : piece_of nothing ≡ empty
unfolding piece_of empty records_in stored_in encode
piece-nothing = refl

piece-leaf : (tag : ℕ) (o : List ℕ) → piece_of (leaf tag o nothing) ≡ single tag o
unfolding piece_of single records_in stored_in encode
piece-leaf tag o = rw (add-zero (length o), append-nil (framed tag o))

same-piece : {a b c d : ℕ} {x y : List ℕ} → a ≡ b → c ≡ d → x ≡ y → ◌≡◌ {A = Piece} (record { records = a; store = c; octets = x }) (record { records = b; store = d; octets = y })
same-piece e f g = rw (e, f, g)

piece-element : (tag : ℕ) (f : ℕ → Option Value) (m : Meaning) (c : Option (List ℕ)) → piece_of (element tag f m c nothing) ≡ held tag (with (attributes_of f) (with (piece_of m) (if_there 1 c)))
unfolding piece_of held with attributes_of if_there single empty records_in stored_in encode taken_of maybe
piece-element tag f m none = same-piece (omega arith) (omega arith) (append-nil (framed tag (rising 128 0x80 f ++ (encode m ++ []))))
piece-element tag f m (some o) = same-piece (omega arith) (omega arith) (append-nil (framed tag (rising 128 0x80 f ++ (encode m ++ framed 1 o))))

-- ---- put_element

module _ (emit : Bool) (by : Services) (tag left : ℕ) (index table a index' table' b : List ℕ) (n : Needs) (before : List ℕ) where
  pub element-deep : left ≡ 0 → (after : List ℕ) (r : Needs) → ElementPut emit by tag left index table a index' table' b n before after r
  unfolding ElementPut
  element-deep z after r d i j t u l deep x y v w = absurd (omega arith)

  pub element-put : (begun inside r : Needs) (q after : List ℕ) → begun ≡ plus n 1 0 2 → InsidePut emit by tag (left - 1) index table a index' table' b begun before q inside
      → ElementClosed emit tag n begun inside q after r → ElementPut emit by tag left index table a index' table' b n before after r
  unfolding ElementPut InsidePut ElementClosed
  element-put begun inside r q after e u c d i j t v l deep x y k w =
      c (inside_of by tag (entries_by index table) (entries_by index' table') t v) before e (u (d + 1) i j t v (omega arith) x y k w)

pub ruleset element-ways = (element-deep, element-put)

-- ---- put_elements and put_inside

module _ (emit : Bool) (by : Services) (left : ℕ) (index table a index' table' b : List ℕ) where
  pub elements-put : (n language own r : Needs) (o p q s : List ℕ) → ChildrenPut emit Language by left index' table' b index table a n o p language
      → ChildrenPut emit Own by left index table a index' table' b language p q own → ChildrenPut emit Added by left index' table' b index table a own q s r
      → ElementsPut emit by left index table a index' table' b n o s r
  unfolding ChildrenPut ElementsPut chosen
  elements-put n language own r o p q s one two three c e d i j t u l x y v w =
      let m = means (entries_by index table) t in
      let m' = means (entries_by index' table') u in
      let first = piece_of (new_language m m') in
      let second = piece_of (merged by m m') in
      let third = piece_of (added by m m') in
      adds_same emit (with first (with second third)) (piece_of (children_of by m m')) n o s r
      (sym (piece_then (new_language m m') (then (merged by m m') (added by m m')) ∙ ap (with first) (piece_then (merged by m m') (added by m m'))))
      (adds_then emit first (with second third) n language r o p s (one e c d j i u t l y x w v)
      (adds_then emit second third language own r p q s (two c e d i j t u l x y v w) (three e c d j i u t l y x w v)))

  pub inside-put : (tag : ℕ) (n set all r : Needs) (o p q s : List ℕ) → AttributesPut emit tag index table a index' table' b n o p set → ElementsPut emit by left index table a index' table' b set p q all
      → EitherPut emit tag 1 index table a index' table' b all q s r → InsidePut emit by tag left index table a index' table' b n o s r
  unfolding AttributesPut ElementsPut EitherPut InsidePut either_in
  inside-put tag n set all r o p q s one two three d i j t u l x y v w =
      let es = entries_by index table in
      let fs = entries_by index' table' in
      let attributes = attributes_of (united (attributes_in es tag t) (attributes_in fs tag u)) in
      let children = piece_of (children_of by (means es t) (means fs u)) in
      let last = if_there 1 (either (cdata_in es t) (cdata_in fs u)) in
      let behind = adds_same emit (if_there 1 (either_in es fs tag 1 a b)) last all q s r (ap (if_there 1) (ap₂ either (cdata-mean es tag d i a t v) (cdata-mean fs tag d j b u w))) (three x y) in
      adds_then emit attributes (with children last) n set r o p s (one d d i j t u x y v w) (adds_then emit children last set all r p q s (two tag tag d i j t u l x y v w) behind)

-- ---- put_chosen and put_child

leaf-taken : (es : Entries) (tag : ℕ) (a : List ℕ) (k : Kind) → known 0 tag ≡ some k → taken es (some k) a ≡ leaf_octets es tag a
unfolding taken fits meant octets_of leaf_octets is_text
leaf-taken es tag a HoldsItems e = rw e
leaf-taken es tag a HoldsTokens e = rw e
leaf-taken es tag a HoldsText e = rw e
leaf-taken es tag a HoldsPlain e = rw e
leaf-taken es tag a HoldsTime e = absurd (false≢true (element-kind tag HoldsTime e))
leaf-taken es tag a HoldsBearer e = absurd (false≢true (element-kind tag HoldsBearer e))
leaf-taken es tag a (HoldsNumber n) e = absurd (false≢true (element-kind tag (HoldsNumber n) e))

meant-child : (tag : ℕ) → is_meant tag ≡ true → is_child tag ≡ true
meant-child tag h = and_left (is_child tag) (is_known (known 0 tag)) h

child-cdata : (tag : ℕ) → is_child tag ≡ true → tag ≡ 1 → ⊥
unfolding is_child attribute
child-cdata tag h e = false≢true (sym (ap is_child e) ∙ h)

module _ (emit : Bool) (role : Role) (by : Services) (tag left : ℕ) (index table a index' table' part : List ℕ) (n : Needs) (before after : List ℕ) (r : Needs) where
  abbrev es : Entries
  es = entries_by index table

  abbrev fs : Entries
  fs = entries_by index' table'

  module _ (g : Listed) (ge : g ≡ listed_as (known 0 tag)) where
    pub chosen_none : g ≡ Nothing → ChosenPut emit role by tag left index table a index' table' part n before after r
    unfolding ChosenPut ChildPut
    chosen_none q e c d i j t u l x y m h w =
        let k = meant-child tag m in
        absurd (false≢true (child-nothing tag (attribute tag) refl (child-no-attribute tag k) (child-cdata tag k) g ge q ∙ m))

    pub chosen-value : (k : Kind) → g ≡ OfKind k → SinglePut emit k tag index table a n before after r → ChosenPut emit role by tag left index table a index' table' part n before after r
    unfolding ChosenPut ChildPut SinglePut opens
    chosen-value k q p e c d i j t u l x y m h w =
        let v = is-value (known 0 tag) k (sym q ∙ ge) in
        let one = means es (item tag i a t end) in
        let same : chosen role by one (means fs u) ≡ leaf tag (leaf_octets es tag a) nothing = chosen-leaf by es fs left tag d i a t (meant-child tag m) l h c j part u w role e v.shut in
        adds_same emit (single tag (taken es (some k) a)) (piece_of (chosen role by one (means fs u))) n before after r
        (ap (single tag) (leaf-taken es tag a k v.is) ∙ sym (ap piece_of same ∙ piece-leaf tag (leaf_octets es tag a))) (p x)

    pub chosen-inside : g ≡ Inside → (partner : List ℕ) → partner ≡ partner_in role by es tag a fs part → ElementPut emit by tag left index table a index' table' partner n before after r
        → ChosenPut emit role by tag left index table a index' table' part n before after r
    unfolding ChosenPut ChildPut ElementPut opens
    chosen-inside q partner pe p e c d i j t u l x y m h w =
        let o = (is-inside (known 0 tag) (sym q ∙ ge)).0 in
        let z = chosen-holder by es fs left tag d i a t (meant-child tag m) l h c j part u w o role e in
        let one = means es (item tag i a t end) in
        let f = united (attributes_in es tag t) (attributes_in fs tag z.u) in
        let inner = children_of by (means es t) (means fs z.u) in
        let text = either (cdata_in es t) (cdata_in fs z.u) in
        adds_same emit (held tag (inside_of by tag es fs t z.u)) (piece_of (chosen role by one (means fs u))) n before after r (sym (ap piece_of z.is ∙ piece-element tag f inner text))
        (p d i z.j t z.u l (h o).0 x y (h o).1 (subst (λ s. Accepts tag (d + 1) z.j s z.u) (sym pe) z.accepts))

  module _ (b : Bool) (be : b ≡ is_put role by left es tag a fs part) where
    pub child-chosen : b ≡ true → ChosenPut emit role by tag left index table a index' table' part n before after r → ChildPut emit role by tag left index table a index' table' part n before after r
    unfolding ChosenPut
    child-chosen q p = p (sym be ∙ q)

    pub child-passed : b ≡ false → r ≡ plus n 0 0 0 → ChildPut emit role by tag left index table a index' table' part n before before r
    unfolding ChildPut
    child-passed q re c d i j t u l x y m h w =
        let one = means es (item tag i a t end) in
        let same = unchosen by es fs left tag d i a t (meant-child tag m) l h c j part u w role (sym be ∙ q) in
        adds_same emit empty (piece_of (chosen role by one (means fs u))) n before before r (sym (ap piece_of same ∙ piece-nothing)) (adds_none emit n before r re)

pub ruleset chosen-ways = (chosen_none, chosen-value, chosen-inside)

pub ruleset child-ways = (child-chosen, child-passed)

-- ---- put_children

-- each of the child elements that are found has a meaning
abbrev AllMeant : List (ℕ × List ℕ) → Type 0
AllMeant [] = Unit {0}
AllMeant (x ∷ xs) = (is_meant x.0 ≡ true) × AllMeant xs

meant-within : (n : ℕ) (s : List ℕ) → AllMeant (children_within n s)
unfolding children_within
meant-within zero s = tt
meant-within (suc n) s = go (is_whole s) (is_meant (get_or s 0 0)) refl (meant-within n (after_first s))
  where
    go : (w m : Bool) → is_meant (get_or s 0 0) ≡ m → AllMeant (children_within n (after_first s))
        → AllMeant (cond w (cond m ((get_or s 0 0, first_body s) ∷ children_within n (after_first s)) (children_within n (after_first s))) [])
    go false m e ih = tt
    go true true e ih = (e, ih)
    go true false e ih = ih

all-meant : (s : List ℕ) → AllMeant (children_in s)
unfolding children_in
all-meant s = meant-within (length s) s

-- the first of them, and those behind it
record First (d tag : ℕ) (body : List ℕ) (later : List (ℕ × List ℕ)) (t : Items) : Type 0 where
  pub from : ℕ
  pub inside : Items
  pub after : Items
  pub child : is_child tag ≡ true
  pub holds : opens tag ≡ true → (d ≤ 16) × Accepts tag (d + 1) from body inside
  pub means-it : (es : Entries) → means es t ≡ means es (item tag from body inside after)
  pub others : Told d later after

abbrev Split : ℕ → List (ℕ × List ℕ) → Items → Type 0
Split d [] t = (es : Entries) → means es t ≡ nothing
Split d (x ∷ xs) t = First d x.0 x.1 xs t

split : (d : ℕ) (l : List (ℕ × List ℕ)) (t : Items) → Told d l t → Split d l t
split d l t (over h) = h
split d l t (comes tag from body inside after c i x more) =
    record { from = from; inside = inside; after = after; child = c; holds = i; means-it = x; others = more }

-- how far the walk has come: what becomes of all is what is done and what becomes of those from a place on
pub record Going (emit : Bool) (role : Role) (by : Services) (es fs : Entries) (a : List ℕ) (n : Needs) (before after : List ℕ) (r : Needs) (i d : ℕ) (t u : Items) : Type 0 where
  pub rest : Items
  pub told : Told d (children_in (drop i a)) rest
  pub done : Meaning
  pub all : chosen role by (means es t) (means fs u) ≡ then done (chosen role by (means es rest) (means fs u))
  pub put : Adds emit (piece_of done) n before after r

pub record Goes (emit : Bool) (role : Role) (by : Services) (left : ℕ) (index table a index' table' b : List ℕ) (n : Needs) (before after : List ℕ) (r : Needs) (i : ℕ) : Type 0 where
  pub long : length after ≡ length before
  pub goes : (p q d o j : ℕ) (t u : Items) → d + left ≡ 17 → Indexes (entries table) index → Indexes (entries table') index' → Accepts p d o a t → Accepts q d j b u
      → Going emit role by (entries_by index table) (entries_by index' table') a n before after r i d t u

module _ (emit : Bool) (role : Role) (by : Services) (left : ℕ) (index table a index' table' b : List ℕ) (n : Needs) (before : List ℕ) where
  pub children-begin : (k : Needs) → n ≡ plus k 0 0 0 → Goes emit role by left index table a index' table' b n before before n 0
  unfolding then
  children-begin k e = record {
    long = refl;
    goes = λ p q d o j t u l x y v w. record {
      rest = t;
      told = children-told p d o a t v;
      done = nothing;
      all = refl;
      put = adds_same emit empty (piece_of nothing) n before before n (sym piece-nothing) (adds-nothing emit k n before e);
    };
  }

  module _ (after : List ℕ) (m : Needs) (i : ℕ) (inv : Goes emit role by left index table a index' table' b n before after m i) (c : Optional Child) (x : Children a i c) where
    pub children-ended : c ≡ None → (k : Needs) → n ≡ plus k 0 0 0 → ChildrenPut emit role by left index table a index' table' b k before after m
    unfolding ChildrenPut Children
    children-ended e k ne p q d o j t u l ix iy v w =
        let g = inv.goes p q d o j t u l ix iy v w in
        let es' = entries_by index table in
        let fs' = entries_by index' table' in
        let over-now : Split d [] g.rest = subst (λ s. Split d s g.rest) (subst (Children a i) e x) (split d (children_in (drop i a)) g.rest g.told) in
        let last : chosen role by (means es' g.rest) (means fs' u) ≡ nothing = ap (λ z. chosen role by z (means fs' u)) (over-now es') ∙ chosen-nothing role by (means fs' u) in
        adds_same emit (piece_of g.done) (piece_of (chosen role by (means es' t) (means fs' u))) k before after m (ap piece_of (sym (g.all ∙ ap (then g.done) last ∙ then-nothing g.done)))
        (adds-kept emit (piece_of g.done) k n m before after ne g.put)

    module _ (at from to : ℕ) (e : c ≡ Some (child at from to)) where
      found : ChildFound a i at from to
      unfolding Children
      found = subst (Children a i) e x

      here : is_meant (get_or a at 0) ≡ true
      here = (subst (λ s. AllMeant s) found.children (all-meant (drop i a))).0

      pub children-again : (after' : List ℕ) (r : Needs) → length after' ≡ length after → ChildPut emit role by (get_or a at 0) left index table (between a from to) index' table' b m after after' r
          → Goes emit role by left index table a index' table' b n before after' r to
      unfolding ChildPut
      children-again after' r long put = record {
        long = long ∙ inv.long;
        goes = λ p q d o j t u l ix iy v w.
            let g = inv.goes p q d o j t u l ix iy v w in
            let es' = entries_by index table in
            let fs' = entries_by index' table' in
            let tag = get_or a at 0 in
            let body = between a from to in
            let f : First d tag body (children_in (drop to a)) g.rest = subst (λ s. Split d s g.rest) found.children (split d (children_in (drop i a)) g.rest g.told) in
            let one = chosen role by (means es' (item tag f.from body f.inside end)) (means fs' u) in
            let later = chosen role by (means es' f.after) (means fs' u) in
            let step : chosen role by (means es' g.rest) (means fs' u) ≡ then one later =
            ap (λ z. chosen role by z (means fs' u)) (f.means-it es' ∙ means-then es' tag f.from body f.inside f.child f.after)
            ∙ chosen-then role by (means es' (item tag f.from body f.inside end)) (means es' f.after) (means fs' u) in
            record {
              rest = f.after;
              told = f.others;
              done = then g.done one;
              all = g.all ∙ ap (then g.done) step ∙ sym (then-assoc g.done one later);
              put = adds_same emit (with (piece_of g.done) (piece_of one)) (piece_of (then g.done one)) n before after' r (sym (piece_then g.done one))
                  (adds_then emit (piece_of g.done) (piece_of one) n m r before after after' g.put (put q d f.from j f.inside u l ix iy here f.holds w));
            };
      }

pub ruleset children-ways = (children-begin, children-ended, children-again, found-ways)
