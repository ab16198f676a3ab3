-- One turn of the loop over the items of an element.
use mathlib.Core.Path.{◌≡◌, refl, sym, ap, ap₂, ◌∙◌}
use mathlib.Core.Bool.{Bool, true, false, cond, ◌&&◌}
use mathlib.Core.Option.{Option, none, some}
use mathlib.Core.List.{List, [], ◌∷◌, ◌++◌, append_assoc, append-nil}
use Prim.Native.Nat.{ℕ, suc, ◌+◌, ◌-◌, ◌≤◌, ◌<◌}
use native.Mathlib.Omega.{arith}
use native.Mathlib.Nat.{add-zero, add_assoc}
use lib.Dec.{eqb, leb}
use lib.ListN.{length, get_or, take, drop, length-take, length-drop, drop_of_length-le}
use lib.Seq.{drop-drop}
use mir.Syntax.{w64}
use mir.Val.{Fits}
use borrow.Author.Tests.{eq-eqb, leb-true}
use Rattle.octets.specs.Header.{header_size, body_size}
use Rattle.text.specs.Tokens.{entries}
use Rattle.values.specs.declared.Kind.{Kind}
use Rattle.values.specs.declared.Kind.TheVariants.{HoldsItems, HoldsTokens, HoldsText, HoldsPlain, HoldsTime, HoldsBearer, HoldsNumber}
use Rattle.values.specs.Table.{known, attribute}
use Rattle.values.proofs.Known.{ElementTag, items-tag, items-no-attribute, known-anywhere}
use Rattle.format.specs.declared.Refusal.{Refusal}
use Rattle.format.specs.declared.Counts.{Counts}
use Rattle.format.specs.Tree.{count}
use Rattle.format.specs.Tree.Items.{end, item}
use Rattle.format.specs.Judge.{Judged, Context, is_top, is_items, is_known, of_top, latest, stage_after, waits, unless, by_kind, followed, joined, within, next, read}
use Rattle.format.specs.Judge.Judged.{refused, accepted}
use Rattle.format.specs.Headers.{headers}
use Rattle.format.proofs.Fuel.{read-end, read-item}
use Rattle.format.proofs.Rules.{Held, held}
use Rattle.format.proofs.Headers.{headers-end, headers-item}
use Rattle.format.proofs.Means.{items-known}
use Rattle.format.proofs.Force.{attribute-latest}
use Rattle.tags.specs.Rules.{Seen}
use Rattle.tags.proofs.Masks.{none-marked}
use Rattle.judge.specs.Says.{ctx, depth_of, sorted, table_sort, Framed, Waits, WaitsWhen, broken_of, AllIs, Passed, Says, item_more, record_more, counted, EndSays, AtMost, CountsAtMost, CountsAs}
use Rattle.judge.specs.Says.Waits.{done, more}
use Rattle.std.specs.Prelude.{Result, Ok, Err}
use Rattle.judge.specs.declared.Progress.{Progress}
use Rattle.judge.specs.declared.Sort.{Sort}
use Rattle.judge.specs.declared.Sort.TheVariants.{Skip, Leaf, Table, Element}
use Rattle.judge.specs.declared.Item.{Item}
use Rattle.judge.proofs.OwnWays.{start-two}
use Rattle.judge.proofs.LateWays.{waits-from, tag_at, body_at}
use Rattle.judge.proofs.AllWays.{sort-four}

one-waits : (parent base : ℕ) (part : List ℕ) (stop : ℕ) (start size : ℕ) → 2 ≤ start → Framed (drop stop part) start size → stop + start + size ≤ length part
    → Waits parent base part (stop + start + size) stop ([] ++ waits (known parent (get_or (drop stop part) 0 0)) [] (base + stop) (take size (drop start (drop stop part))))
one-waits parent base part stop start size two f l =
    let new = waits (known parent (get_or (drop stop part) 0 0)) [] (base + stop) (take size (drop start (drop stop part))) in
    more parent base part (stop + start + size) stop new start size [] two f (omega arith) l (sym (append-nil new))
    (done parent base part (stop + start + size) (stop + start + size) [] refl refl)

-- one attribute more at the end of those that wait
snoc : (parent base : ℕ) (part : List ℕ) (stop j : ℕ) (ws : List (ℕ × List ℕ)) (start size : ℕ) → 2 ≤ start → Framed (drop stop part) start size → stop + start + size ≤ length part
    → Waits parent base part stop j ws
    → Waits parent base part (stop + start + size) j (ws ++ waits (known parent (get_or (drop stop part) 0 0)) [] (base + stop) (take size (drop start (drop stop part))))
snoc parent base part stop j ws start size two f l (done _ _ _ _ _ _ e g) = rw (e, g) (one-waits parent base part stop start size two f l)
snoc parent base part stop j ws start size two f l (more _ _ _ _ _ _ a b later t g i k m n) =
    let new = waits (known parent (get_or (drop stop part) 0 0)) [] (base + stop) (take size (drop start (drop stop part))) in
    more parent base part (stop + start + size) j (ws ++ new) a b (later ++ new) t g (omega arith) l
    (rw m (append_assoc (waits (known parent (get_or (drop j part) 0 0)) [] (base + j) (take b (drop a (drop j part)))) later new)) (snoc parent base part stop (j + a + b) later start size two f l n)

nothing-waits : (b : Bool) (parent base : ℕ) (part : List ℕ) → WaitsWhen b parent base part 0 []
unfolding WaitsWhen
nothing-waits true parent base part = done _ _ _ _ _ _ refl refl
nothing-waits false parent base part = refl

when_true : (b : Bool) (parent base : ℕ) (part : List ℕ) (at : ℕ) (ws : List (ℕ × List ℕ)) → b ≡ true → WaitsWhen b parent base part at ws → Waits parent base part at 0 ws
unfolding WaitsWhen
when_true b parent base part at ws e w = rw e at w

nothing-later : (parent base : ℕ) (part : List ℕ) (at : ℕ) → WaitsWhen false parent base part at []
unfolding WaitsWhen
nothing-later parent base part at = refl

-- the first item of a part
read_step : (c : Context) (at : ℕ) (s : List ℕ) → 0 < length s
    → read c at s ≡ unless (broken_of c at s) (by_kind (known c.parent (get_or s 0 0)) (item (get_or s 0 0) (at + header_size s) (take (body_size s) (drop (header_size s) s)))
    (read (within c (get_or s 0 0)) (at + header_size s) (take (body_size s) (drop (header_size s) s)))
    (read (next c at (get_or s 0 0) (take (body_size s) (drop (header_size s) s))) (at + header_size s + body_size s) (drop (body_size s) (drop (header_size s) s))))
unfolding broken_of
read_step c at [] h = absurd (omega arith)
read_step c at (t ∷ r) h = read-item c at t r (header_size (t ∷ r)) (body_size (t ∷ r)) (take (body_size (t ∷ r)) (drop (header_size (t ∷ r)) (t ∷ r))) (drop (body_size (t ∷ r)) (drop (header_size (t ∷ r)) (t ∷ r))) refl refl refl refl

read-framed : (c : Context) (at : ℕ) (s : List ℕ) (start size : ℕ) → 0 < length s → Framed s start size → broken_of c at s ≡ none
    → read c at s ≡ by_kind (known c.parent (get_or s 0 0)) (item (get_or s 0 0) (at + start) (take size (drop start s)))
    (read (within c (get_or s 0 0)) (at + start) (take size (drop start s)))
    (read (next c at (get_or s 0 0) (take size (drop start s))) (at + start + size) (drop size (drop start s)))
unfolding unless
read-framed c at s start size h f b = read_step c at s h ∙ rw (b, f.is_start, f.is_size)

held_of : (c : Context) (at : ℕ) (s : List ℕ) → broken_of c at s ≡ none → Held c (get_or s 0 0) (take (body_size s) (drop (header_size s) s))
unfolding broken_of
held_of c at s h = held c at (get_or s 0 0) (header_size s) (body_size s) (length s) (take (body_size s) (drop (header_size s) s)) h

-- the stage after an item is 0 only after an attribute
stage-zero : (tag : ℕ) → eqb (stage_after tag) 0 ≡ attribute tag
unfolding stage_after
stage-zero tag = go (attribute tag) (eqb tag 4) (eqb tag 1)
  where
    go : (a b d : Bool) → eqb (cond a 0 (cond b 1 (cond d 3 2))) 0 ≡ a
    go true b d = refl
    go false true d = refl
    go false false true = refl
    go false false false = refl

-- what a sort says of a kind
element_sort : Sort → Bool
element_sort Skip = false
element_sort Leaf = false
element_sort Table = false
element_sort Element = true

known_sort : Sort → Bool
known_sort Skip = false
known_sort Leaf = true
known_sort Table = true
known_sort Element = true

record Sorted (k : Option Kind) (s : Sort) : Type 0 where
  items : is_items k ≡ element_sort s
  isknown : is_known k ≡ known_sort s

sorted-as : (k : Option Kind) → Sorted k (sorted k)
unfolding sorted is_items is_known element_sort known_sort
sorted-as none = record { items = refl; isknown = refl }
sorted-as (some HoldsItems) = record { items = refl; isknown = refl }
sorted-as (some HoldsTokens) = record { items = refl; isknown = refl }
sorted-as (some HoldsText) = record { items = refl; isknown = refl }
sorted-as (some HoldsPlain) = record { items = refl; isknown = refl }
sorted-as (some HoldsTime) = record { items = refl; isknown = refl }
sorted-as (some HoldsBearer) = record { items = refl; isknown = refl }
sorted-as (some (HoldsNumber n)) = record { items = refl; isknown = refl }

-- counting: an item that is passed over, one that is listed, the table, and an element, each with its own header before those of what is inside and behind it
same-counts : (a b c d : ℕ) → a ≡ b → c ≡ d → ◌≡◌ {A = (Result Counts Refusal)} (Ok (record { records = a; items = c })) (Ok (record { records = b; items = d }))
same-counts a b c d e f = ap₂ (λ (x y : ℕ). Ok (record { records = x; items = y })) e f

counted_skip : (n : Counts) (h : ℕ) (a : Judged) → counted n (suc (0 + h)) a ≡ counted (item_more n) h a
unfolding counted
counted_skip n h (refused r) = refl
counted_skip n h (accepted t) = same-counts _ _ _ _ refl (omega arith)

counted-leaf : (n : Counts) (h tag at : ℕ) (body : List ℕ) (a : Judged) → eqb tag 4 ≡ false → counted n (suc (0 + h)) (followed (item tag at body end) a) ≡ counted (record_more (item_more n)) h a
unfolding counted followed count
counted-leaf n h tag at body (refused r) e = refl
counted-leaf n h tag at body (accepted t) e = rw e (same-counts _ _ _ _ (omega arith) (omega arith))

counted-table : (n : Counts) (h tag at : ℕ) (body : List ℕ) (a : Judged) → eqb tag 4 ≡ true → counted n (suc (0 + h)) (followed (item tag at body end) a) ≡ counted (item_more n) h a
unfolding counted followed count
counted-table n h tag at body (refused r) e = refl
counted-table n h tag at body (accepted t) e = rw e (same-counts _ _ _ _ (omega arith) (omega arith))

unfoldable onward : Result Counts Refusal → (Counts → Result Counts Refusal) → Result Counts Refusal
onward (Ok m) f = f m
onward (Err r) f = Err r

counted-element : (n : Counts) (k h tag at : ℕ) (body : List ℕ) (i a : Judged) → eqb tag 4 ≡ false
    → counted n (suc (k + h)) (joined (item tag at body) i a) ≡ onward (counted (record_more (item_more n)) k i) (λ m. counted m h a)
unfolding counted joined followed count onward
counted-element n k h tag at body (refused r) a e = refl
counted-element n k h tag at body (accepted t) (refused r) e = refl
counted-element n k h tag at body (accepted t) (accepted u) e = rw e (same-counts _ _ _ _ (omega arith) (omega arith))

at_most : (m n : ℕ) (k : Counts) → m ≤ n → AtMost m k → AtMost n k
at_most m n k h b = record { records = omega (arith, b.records); items = omega (arith, b.items) }

-- the items so far: what the whole part gives is what its rest gives from here on, for some tags seen that the mask stands for and for what waits
pub record Holds (part : List ℕ) (base parent left : ℕ) (before : Counts) (given : List ℕ) (at : ℕ) (progress : Progress) (counts : Counts) (table : List ℕ) : Type 0 where
  pub bound : at ≤ length part
  pub levels : left ≤ 16
  pub few : AtMost (base + at) counts
  pub seen : List ℕ
  pub waiting : List (ℕ × List ℕ)
  pub sees : Seen parent progress.mask seen
  pub waited : WaitsWhen (is_top parent && eqb progress.stage 0) parent base part at waiting
  pub same : counted before (headers parent part) (read (ctx parent (depth_of left) 0 [] (entries given) []) base part)
      ≡ counted counts (headers parent (drop at part)) (read (ctx parent (depth_of left) progress.stage seen (entries table) waiting) (base + at) (drop at part))

pub at-start : (part : List ℕ) (base parent left : ℕ) (before : Counts) (given : List ℕ) → AtMost base before → left ≤ 16
    → Holds part base parent left before given 0 (record { stage = 0; mask = 0 }) before given
at-start part base parent left before given h l = record {
  bound = omega arith;
  levels = l;
  few = rw add-zero h;
  seen = [];
  waiting = [];
  sees = none-marked parent;
  waited = nothing-waits (is_top parent && eqb 0 0) parent base part;
  same = rw add-zero;
}

-- one level less is one depth more
level-down : (left : ℕ) → 0 < left → left ≤ 16 → suc (depth_of left) ≡ depth_of (left - 1)
unfolding depth_of
level-down left h l = omega arith

module _ (part : List ℕ) (base parent left : ℕ) (before : Counts) (given : List ℕ) (at : ℕ) (progress : Progress) (counts : Counts) (table : List ℕ)
    (inv : Holds part base parent left before given at progress counts table) where
  abbrev Whole : Result Counts Refusal
  Whole = counted before (headers parent part) (read (ctx parent (depth_of left) 0 [] (entries given) []) base part)

  abbrev c : Context
  c = ctx parent (depth_of left) progress.stage inv.seen (entries table) inv.waiting

  pub end-in : at ≤ length part
  end-in = inv.bound

  pub end-all : length part ≤ at → (r : Result Counts Refusal) → EndSays counts part at parent progress.stage base r → r ≡ Whole
  unfolding EndSays
  end-all h r e =
      e inv.waiting inv.waited
      ∙ sym (inv.same ∙ ap (λ (s : List ℕ). counted counts (headers parent s) (read c (base + at) s)) (drop_of_length-le part h)
      ∙ ap₂ (counted counts) (headers-end parent) (read-end c (base + at)))

  pub end-most : (r : Result Counts Refusal) → CountsAs counts r → CountsAtMost (base + length part) r
  end-most (Ok k) e = rw e (at_most (base + at) (base + length part) counts (omega (arith, inv.bound)) inv.few)
  end-most (Err x) e = tt

  module _ (h : at < length part)
      (r : Result Item Refusal) (e : Says (AllIs parent left progress table base at part) parent progress (drop at part) r) where
    some_left : 0 < length (drop at part)
    some_left = omega (arith, length-drop at part)

    pub is-bad : (x : Refusal) → r ≡ Err x → Err x ≡ Whole
    unfolding AllIs unless counted
    is-bad x f =
        let q : AllIs parent left progress table base at part (some x) = rw f at e in
        sym (inv.same ∙ ap (counted counts (headers parent (drop at part))) (read_step c (base + at) (drop at part) some_left) ∙ rw (q inv.seen inv.waiting inv.sees inv.waited))

    pub record-fits : base + length part ≤ 32_768 → Fits w64 (counts.records + 1)
    record-fits b = omega (arith, inv.few.records)

    pub item-fits : base + length part ≤ 32_768 → Fits w64 (counts.items + 1)
    item-fits b = omega (arith, inv.few.items)

    module _ (i : Item) (f : r ≡ Ok i) where
      abbrev sort : Sort
      sort = i.sort

      abbrev start : ℕ
      start = i.start

      abbrev size : ℕ
      size = i.size

      abbrev nx : Progress
      nx = i.next

      abbrev tag : ℕ
      tag = get_or (drop at part) 0 0

      abbrev body : List ℕ
      body = take size (drop start (drop at part))

      p : Passed parent progress (drop at part) i
      p = (rw f at e).1

      clean : broken_of c (base + at) (drop at part) ≡ none
      unfolding AllIs
      clean = (rw f at e).0 inv.seen inv.waiting inv.sees inv.waited

      two : 2 ≤ start
      two = start-two (drop at part) start size p.framed

      pub item_in : at + start + size ≤ length part
      item_in = omega (arith, p.fits, length-drop at part)

      pub item_from : base + length part ≤ 32_768 → Fits w64 (at + start)
      item_from b = omega (arith, item_in)

      pub item-to : base + length part ≤ 32_768 → Fits w64 (at + start + size)
      item-to b = omega (arith, item_in)

      pub item-less : length part - (at + start + size) < length part - at
      item-less = omega (arith, two)

      pub item-few : AtMost (base + (at + start)) (record_more (item_more counts))
      item-few = record { records = omega (arith, two, inv.few.records); items = omega (arith, two, inv.few.items) }

      kind-is : Sorted (known parent tag) sort
      kind-is = rw p.sorts (sorted-as (known parent tag))

      four : eqb tag 4 ≡ table_sort sort
      four = sort-four parent tag sort p.sorts

      abbrev waiting' : List (ℕ × List ℕ)
      waiting' = cond (attribute tag && is_top parent) (waits (known parent tag) inv.waiting (base + at) body) []

      sees' : Seen parent nx.mask (tag ∷ inv.seen)
      sees' = p.seens inv.seen inv.sees

      waited' : WaitsWhen (is_top parent && eqb nx.stage 0) parent base part (at + start + size) waiting'
      unfolding WaitsWhen
      waited' = rw (p.stages, stage-zero tag) (go (is_top parent) (attribute tag) refl refl inv.waited)
        where
          go : (a b : Bool) → is_top parent ≡ a → attribute tag ≡ b → WaitsWhen (is_top parent && eqb progress.stage 0) parent base part at inv.waiting
              → WaitsWhen (a && b) parent base part (at + start + size) (cond (b && a) (waits (known parent tag) inv.waiting (base + at) body) [])
          go true true x y w =
              let m : leb progress.stage (latest tag) ≡ true = (held_of c (base + at) (drop at part) clean).rules.order in
              let g : progress.stage ≡ 0 = omega (arith, leb-true progress.stage (latest tag) m, attribute-latest tag y) in
              let z : (is_top parent && eqb progress.stage 0) ≡ true = rw (x, eq-eqb progress.stage 0 g) in
              let v : Waits parent base part at 0 inv.waiting = when_true _ parent base part at inv.waiting z w in
              rw (waits-from (known parent tag) inv.waiting (base + at) body) (snoc parent base part at 0 inv.waiting start size two p.framed item_in v)
          go true false x y w = nothing-later parent base part (at + start + size)
          go false true x y w = nothing-later parent base part (at + start + size)
          go false false x y w = nothing-later parent base part (at + start + size)

      -- what comes after the item
      abbrev Later : Judged
      Later = read (ctx parent (depth_of left) nx.stage (tag ∷ inv.seen) (cond (table_sort sort) (entries body) (entries table)) waiting') (base + (at + start + size)) (drop (at + start + size) part)

      abbrev Inside : Judged
      Inside = read (within c tag) (base + at + start) body

      after_is : next c (base + at) tag body ≡ ctx parent (depth_of left) nx.stage (tag ∷ inv.seen) (cond (table_sort sort) (entries body) (entries table)) waiting'
      unfolding next of_top
      after_is = rw (p.stages, four)

      -- the headers from here on: this one, those inside an element, and those behind it
      abbrev LaterHeaders : ℕ
      LaterHeaders = headers parent (drop (at + start + size) part)

      heads : headers parent (drop at part) ≡ suc (cond (element_sort sort) (headers tag body) 0 + LaterHeaders)
      heads = heads-of (drop at part) some_left p.framed ∙ rw kind-is.items (simp (drop-drop, add_assoc))
        where
          heads-of : (s : List ℕ) → 0 < length s → Framed s start size
              → headers parent s ≡ suc (cond (is_items (known parent (get_or s 0 0))) (headers (get_or s 0 0) (take size (drop start s))) 0 + headers parent (drop size (drop start s)))
          heads-of [] z q = absurd (omega arith)
          heads-of (t ∷ r) z q = headers-item parent t r ∙ rw (q.is_start, q.is_size)

      turn : Whole ≡ counted counts (suc (cond (element_sort sort) (headers tag body) 0 + LaterHeaders)) (cond (element_sort sort) (joined (item tag (base + at + start) body) Inside Later) (cond (known_sort sort) (followed (item tag (base + at + start) body end) Later) Later))
      unfolding by_kind
      turn =
          inv.same
          ∙ ap₂ (counted counts) heads (read-framed c (base + at) (drop at part) start size some_left p.framed clean ∙ rw (after_is, kind-is.items, kind-is.isknown) (simp (drop-drop, add_assoc)))

      -- behind the item, by what is counted then and by the table in force
      behind : (counts' : Counts) (table' : List ℕ) → AtMost (base + (at + start + size)) counts'
          → Whole
          ≡ counted counts' LaterHeaders (read (ctx parent (depth_of left) nx.stage (tag ∷ inv.seen) (entries table') waiting') (base + (at + start + size)) (drop (at + start + size) part))
          → Holds part base parent left before given (at + start + size) nx counts' table'
      behind counts' table' f s = record { bound = item_in; levels = inv.levels; few = f; seen = tag ∷ inv.seen; waiting = waiting'; sees = sees'; waited = waited'; same = s }

      few-behind : AtMost (base + (at + start + size)) (item_more counts)
      few-behind = record { records = omega (arith, item-few.records); items = omega (arith, item-few.items) }

      pub past_skip : sort ≡ Skip → Holds part base parent left before given (at + start + size) nx (item_more counts) table
      unfolding element_sort known_sort table_sort
      past_skip q = behind (item_more counts) table few-behind (turn ∙ rw q (counted_skip counts LaterHeaders _))

      pub past-leaf : sort ≡ Leaf → Holds part base parent left before given (at + start + size) nx (record_more (item_more counts)) table
      unfolding element_sort known_sort table_sort
      past-leaf q =
          behind (record_more (item_more counts)) table (at_most _ _ _ (omega arith) item-few) (turn ∙ rw q (counted-leaf counts LaterHeaders tag (base + at + start) body _ (rw q at four)))

      pub past-table : sort ≡ Table → Holds part base parent left before given (at + start + size) nx (item_more counts) (take (at + start + size - (at + start)) (drop (at + start) part))
      unfolding element_sort known_sort table_sort
      past-table q =
          behind (item_more counts) (take (at + start + size - (at + start)) (drop (at + start) part)) few-behind
          (turn ∙ rw (q, body_at part at start size) (counted-table counts LaterHeaders tag (base + at + start) body _ (rw q at four)))

      module _ (q : sort ≡ Element) where
        holds-items : known parent tag ≡ some HoldsItems
        unfolding element_sort
        holds-items = items-known (known parent tag) (kind-is.items ∙ ap element_sort q)

        is-element : ElementTag tag
        is-element = items-tag tag (sym (known-anywhere parent tag (items-no-attribute parent tag holds-items)) ∙ holds-items)

        shallow : leb (depth_of left) 16 ≡ true
        shallow = rw (is-element.not_attribute, is-element.not_cdata) at (held_of c (base + at) (drop at part) clean).rules.deep

        pub element-levels : 0 < left
        unfolding depth_of
        element-levels = omega (arith, leb-true (depth_of left) 16 shallow)

        module _ (v : Result Counts Refusal)
            (ve : v ≡ counted (record_more (item_more counts)) (headers (get_or part at 0) (take (at + start + size - (at + start)) (drop (at + start) part))) (read (ctx (get_or part at 0) (depth_of (left - 1)) 0 [] (entries table) []) (base + (at + start)) (take (at + start + size - (at + start)) (drop (at + start) part)))) where
          body-read : counted (record_more (item_more counts)) (headers tag body) Inside ≡ v
          unfolding within
          body-read = sym (ve ∙ rw (tag_at part at, ← level-down left element-levels inv.levels, body_at part at start size, ← add_assoc base at start))

          turn-element : Whole ≡ onward v (λ m. counted m LaterHeaders (read (ctx parent (depth_of left) nx.stage (tag ∷ inv.seen) (entries table) waiting') (base + (at + start + size)) (drop (at + start + size) part)))
          unfolding element_sort table_sort
          turn-element = turn ∙ rw q (counted-element counts (headers tag body) LaterHeaders tag (base + at + start) body Inside _ is-element.not_table ∙ rw body-read)

          pub element-bad : (r : Refusal) → v ≡ Err r → Err r ≡ Whole
          unfolding onward
          element-bad r g = sym (turn-element ∙ rw g)

          pub past-element : (m : Counts) → v ≡ Ok m → CountsAtMost (base + (at + start + size)) v → Holds part base parent left before given (at + start + size) nx m table
          unfolding onward
          past-element m g b = behind m table (rw g at b) (turn-element ∙ rw g)

pub part-most : (part : List ℕ) (base from to : ℕ) (v : Result Counts Refusal) → from ≤ to → to ≤ length part → CountsAtMost (base + from + length (take (to - from) (drop from part))) v → CountsAtMost (base + to) v
part-most part base from to (Ok n) h g b = at_most _ _ n (omega (arith, length-take (to - from) (drop from part), length-drop from part)) b
part-most part base from to (Err r) h g b = tt
