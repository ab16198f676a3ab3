-- The loaded tree of an accepted object means what the object means, keeps the writer's rules, and lies in its store.
use mathlib.Core.Path.{◌≡◌, refl, sym, ap, ap₂, ◌∙◌, subst, fun_ext}
use mathlib.Core.Bool.{Bool, true, false, cond, not, ◌&&◌, ◌||◌, false≢true, or-true}
use mathlib.Core.Option.{Option, none, some, map, some-injective}
use mathlib.Core.List.{List, [], ◌∷◌, ◌++◌, append_assoc}
use Prim.Native.Nat.{ℕ, ◌+◌, ◌≤◌}
use native.Mathlib.Omega.{arith}
use lib.Dec.{eqb, leb}
use lib.ListN.{length, length-append}
use borrow.Author.Tests.{leb-true, le-leb, eqb-true, ne_eqb}
use Rattle.octets.specs.Numbers.{among, Octets}
use Rattle.text.specs.Tokens.{Entries, expanded}
use Rattle.values.specs.declared.Kind.{Kind}
use Rattle.values.specs.declared.Kind.TheVariants.{HoldsItems, HoldsTokens, HoldsText, HoldsPlain, HoldsTime, HoldsBearer, HoldsNumber}
use Rattle.values.specs.Table.{known, attribute}
use Rattle.values.specs.Values.{fits, meant, octets_of}
use Rattle.values.specs.Proper.{Proper}
use Rattle.values.specs.Proper.Proper.{plain}
use Rattle.format.specs.Tree.{Items, find, count}
use Rattle.format.specs.Tree.Items.{end, item}
use Rattle.format.specs.Judge.{is_known, is_items, is_tokens, is_text, is_value, latest, judge}
use Rattle.format.specs.Judge.Judged.{accepted}
use Rattle.format.specs.Meaning.{opens, is_child, value_in, counted, attributes_in, cdata_in, leaf_octets, means, table_of, meaning_of}
use Rattle.format.specs.Meaning.Meaning.{leaf}
use Rattle.format.specs.WellFormed.{ValueOk}
use Rattle.format.specs.Writer.{Spot, below, past, at_top, placed, body_keeps, keeps, is_end, ruled}
use Rattle.format.specs.Loaded.{stored, store_in, loaded_in, store_of, loaded_of}
use Rattle.octets.proofs.Tests.{never}
use Rattle.text.proofs.Words.{expanded-empty}
use Rattle.text.proofs.Expansion.{Sound, shown-expanded}
use Rattle.values.proofs.Values.{value_kind, proper-means, proper-fits}
use Rattle.values.proofs.Known.{ElementTag, items-tag, plain-tag, language-tag, known-anywhere, known-cdata, known-one, known-six, attribute-kind, Stands, stands}
use Rattle.values.proofs.Known.Stands.{stands-items, stands_plain, stands-cdata, stands-table, stands-language}
use Rattle.format.proofs.Spans.{Located}
use Rattle.format.proofs.Means.{opens-items, opens-leaf, means-table, means-element, means-leaf, attribute-shut, attribute-no-child}
use Rattle.format.proofs.Force.{attribute-four}
use Rattle.format.proofs.Told.{Told, ItemTold, KindTold, Among, among-more, among-both, accepted-told, accepted-sound}
use Rattle.format.proofs.Fine.{Fine, fine, Placed, placed-parts, told_text, told-proper, known_is, stage-past, stage-up}

-- the three ways of an item: the token table, an element that holds items, any other
loaded-table : (T : Entries) (p at from : ℕ) (body : List ℕ) (x u : Items) → loaded_in T p at (item 4 from body x u) ≡ loaded_in T p at u
unfolding loaded_in
loaded-table T p at from body x u = refl

pub loaded-held : (T : Entries) (p at tag from : ℕ) (body : List ℕ) (x u : Items) → eqb tag 4 ≡ false → opens tag ≡ true
    → loaded_in T p at (item tag from body x u) ≡ item tag 0 [] (loaded_in T tag at x) (loaded_in T p (at + length (store_in T tag x)) u)
unfolding loaded_in
loaded-held T p at tag from body x u f o = rw (f, o)

pub loaded-single : (T : Entries) (p at tag from : ℕ) (body : List ℕ) (x u : Items) → eqb tag 4 ≡ false → opens tag ≡ false
    → loaded_in T p at (item tag from body x u) ≡ item tag at (stored T (known p tag) body) end (loaded_in T p (at + length (stored T (known p tag) body)) u)
unfolding loaded_in
loaded-single T p at tag from body x u f o = rw (f, o)

-- CDATA holds no items
cdata-shut : opens 1 ≡ false
unfolding opens is_items
cdata-shut = rw known-one

-- an item of a tag that holds no items is found in the loaded tree with its stored octets
loaded-find : (T : Entries) (p a : ℕ) → opens a ≡ false → eqb a 4 ≡ false → (t : Items) (at : ℕ) → find a (loaded_in T p at t) ≡ map (stored T (known p a)) (find a t)
unfolding find loaded_in
loaded-find T p a s f end at = refl
loaded-find T p a s f (item tag from body x u) at = go (λ n. loaded-find T p a s f u n) (eqb tag 4) refl (opens tag) refl
  where
    Goal : Items → Type 0
    Goal l = find a l ≡ map (stored T (known p a)) (cond (eqb a tag) (some body) (find a u))

    held : ((n : ℕ) → find a (loaded_in T p n u) ≡ map (stored T (known p a)) (find a u)) → opens tag ≡ true → (y : Items) (n : ℕ) → Goal (item tag 0 [] y (loaded_in T p n u))
    held ih o y n = let e : eqb a tag ≡ false = ne_eqb a tag (λ q. never (cc (ap opens q))) in rw e (ih n)

    single : ((n : ℕ) → find a (loaded_in T p n u) ≡ map (stored T (known p a)) (find a u)) → (b : Bool) → eqb a tag ≡ b → (n : ℕ)
        → cond b (some (stored T (known p tag) body)) (find a (loaded_in T p n u)) ≡ map (stored T (known p a)) (cond b (some body) (find a u))
    single ih true e n = ap (λ q. some (stored T (known p q) body)) (sym (eqb-true a tag e))
    single ih false e n = ih n

    go : ((n : ℕ) → find a (loaded_in T p n u) ≡ map (stored T (known p a)) (find a u)) → (b : Bool) → eqb tag 4 ≡ b → (c : Bool) → opens tag ≡ c
        → Goal (cond b (loaded_in T p at u) (cond c (item tag 0 [] (loaded_in T tag at x) (loaded_in T p (at + length (store_in T tag x)) u)) (item tag at (stored T (known p tag) body) end (loaded_in T p (at + length (stored T (known p tag) body)) u))))
    go ih true q c o = let e : eqb a tag ≡ false = ne_eqb a tag (λ w. never (cc (ap (λ n. eqb n 4) w))) in rw e (ih at)
    go ih false q true o = held ih o (loaded_in T tag at x) (at + length (store_in T tag x))
    go ih false q false o = single ih (eqb a tag) refl (at + length (stored T (known p tag) body))

-- the value of an attribute is read back from its stored octets
loaded-value : (T : Entries) (p a : ℕ) (o : Option (List ℕ)) (k : Option Kind) → known p a ≡ k → ValueOk p a (value_in T o k) → value_in [] (map (stored T k) o) k ≡ value_in T o k
unfolding value_in stored
loaded-value T p a none k e h = refl
loaded-value T p a (some o) none e h = refl
loaded-value T p a (some o) (some k) e h =
    let same : h.2.0 ≡ k = some-injective h.2.0 k (sym h.2.1 ∙ e) in
    ap some (proper-means (subst (λ x. Proper x (meant T k o)) same h.2.2))

loaded-attributes : (T : Entries) (s : Spot) (t : Items) (at : ℕ) → Fine T s t → attributes_in [] s.parent (loaded_in T s.parent at t) ≡ attributes_in T s.parent t
unfolding attributes_in
loaded-attributes T s t at f = fun_ext (λ a. go a (attribute a) refl)
  where
    go : (a : ℕ) (b : Bool) → attribute a ≡ b
        → cond b (counted s.parent a (value_in [] (find a (loaded_in T s.parent at t)) (known s.parent a))) none ≡ cond b (counted s.parent a (value_in T (find a t) (known s.parent a))) none
    go a false q = refl
    go a true q = rw (loaded-find T s.parent a (attribute-shut a q) (attribute-four a q) t at) (ap (counted s.parent a) (loaded-value T s.parent a (find a t) (known s.parent a) refl (f.attributes a q)))

loaded-cdata : (T : Entries) (p : ℕ) (t : Items) (at : ℕ) → cdata_in [] (loaded_in T p at t) ≡ cdata_in T t
unfolding cdata_in stored meant octets_of
loaded-cdata T p t at = rw (loaded-find T p 1 cdata-shut refl t at, known-cdata p) (go (find 1 t))
  where
    go : (o : Option (List ℕ)) → map (expanded []) (map (stored T (some HoldsText)) o) ≡ map (expanded T) o
    go none = refl
    go (some o) = ap some (expanded-empty (expanded T o))

-- the octets of an element without items are read back from its stored octets
loaded-leaf : (T : Entries) (p tag : ℕ) (body : List ℕ) {k : Kind} → Stands tag k → known p tag ≡ some k → is_items (some k) ≡ false → eqb tag 4 ≡ false
    → leaf_octets [] tag (stored T (known p tag) body) ≡ leaf_octets T tag body
unfolding stored meant octets_of leaf_octets is_text is_items
loaded-leaf T p tag body (stands-items z) e l f = never (cc)
loaded-leaf T p tag body (stands_plain z) e l f = rw (e, z)
loaded-leaf T p tag body stands-table e l f = never (cc)
loaded-leaf T p tag body stands-cdata e l f = rw (e, known-one) (expanded-empty (expanded T body))
loaded-leaf T p tag body stands-language e l f = rw (e, known-six) (expanded-empty (expanded T body))

-- what an item adds to a meaning, if it is neither attribute nor CDATA nor the token table
abbrev pub Meant : Entries → Spot → Items → Type 0
Meant T s t = (at : ℕ) → means [] (loaded_in T s.parent at t) ≡ means T t

-- an item that adds nothing
meant-silent : (T : Entries) (s : Spot) (tag from : ℕ) (body : List ℕ) (x u : Items) → is_child tag ≡ false → eqb tag 4 ≡ false → opens tag ≡ false → Meant T (past s tag) u
    → Meant T s (item tag from body x u)
unfolding means past
meant-silent T s tag from body x u c f o later at =
    rw (loaded-single T s.parent at tag from body x u f o, c) (later (at + length (stored T (known s.parent tag) body)))

meant-table : (T : Entries) (s : Spot) (from : ℕ) (body : List ℕ) (x u : Items) → Meant T (past s 4) u → Meant T s (item 4 from body x u)
unfolding past
meant-table T s from body x u later at = ap (means []) (loaded-table T s.parent at from body x u) ∙ (later at ∙ sym (means-table T from body x u))

meant-element : (T : Entries) (s : Spot) (tag from : ℕ) (body : List ℕ) (x u : Items) → known 0 tag ≡ some HoldsItems → Fine T (below s tag) x → Meant T (below s tag) x → Meant T (past s tag) u
    → Meant T s (item tag from body x u)
unfolding past below
meant-element T s tag from body x u e f inside later at =
    let n = at + length (store_in T tag x) in
    ap (means []) (loaded-held T s.parent at tag from body x u (items-tag tag e).not_table (opens-items tag e))
    ∙ (means-element [] tag 0 [] (loaded_in T tag at x) (loaded_in T s.parent n u) e
    ∙ (rw (loaded-attributes T (below s tag) x at f, inside at, loaded-cdata T tag x at, later n) (sym (means-element T tag from body x u e))))

meant-leaf : (T : Entries) (s : Spot) (tag from : ℕ) (body : List ℕ) (x u : Items) (k : Kind) → ElementTag tag → known 0 tag ≡ some k → is_items (some k) ≡ false → Meant T (past s tag) u
    → Meant T s (item tag from body x u)
unfolding past
meant-leaf T s tag from body x u k t e l later at =
    let o = stored T (known s.parent tag) body in
    let n = at + length o in
    ap (means []) (loaded-single T s.parent at tag from body x u t.not_table (opens-leaf tag k e l))
    ∙ (means-leaf [] tag at o end (loaded_in T s.parent n u) k t e l
    ∙ (ap₂ (λ a b. leaf tag a b) (loaded-leaf T s.parent tag body (stands tag k e) (known-anywhere s.parent tag t.not_attribute ∙ e) l t.not_table) (later n) ∙ sym (means-leaf T tag from body x u k t e l)))

cdata-not : is_child 1 ≡ false
unfolding is_child attribute
cdata-not = refl

-- an item that is no attribute, by its kind
meant-known : (T : Entries) (s : Spot) (tag from : ℕ) (body : List ℕ) (x u : Items) {k : Kind} → Stands tag k → Fine T (below s tag) x → Meant T (below s tag) x → Meant T (past s tag) u
    → Meant T s (item tag from body x u)
unfolding is_items
meant-known T s tag from body x u (stands-items e) f inside later = meant-element T s tag from body x u e f inside later
meant-known T s tag from body x u (stands_plain e) f inside later = meant-leaf T s tag from body x u HoldsPlain (plain-tag tag e) e refl later
meant-known T s tag from body x u stands-table f inside later = meant-table T s from body x u later
meant-known T s tag from body x u stands-cdata f inside later = meant-silent T s 1 from body x u cdata-not refl cdata-shut later
meant-known T s tag from body x u stands-language f inside later = meant-leaf T s 6 from body x u HoldsText language-tag known-six refl later

meant-item : (T : Entries) (s : Spot) (tag from : ℕ) (body : List ℕ) (x u : Items) → ItemTold T s tag body x → Fine T (below s tag) x → Meant T (below s tag) x → Meant T (past s tag) u
    → Meant T s (item tag from body x u)
unfolding attribute
meant-item T s tag from body x u i f inside later = go (attribute tag) refl (known_is (known s.parent tag) i.kind.is_one)
  where
    go : (a : Bool) → attribute tag ≡ a → (k : Kind) × (known s.parent tag ≡ some k) → Meant T s (item tag from body x u)
    go true a k = meant-silent T s tag from body x u (attribute-no-child tag a) (attribute-four tag a) (attribute-shut tag a) later
    go false a k = meant-known T s tag from body x u (stands tag k.0 (sym (known-anywhere s.parent tag a) ∙ k.1)) f inside later

pub loaded-meant : (T : Entries) → Sound T → (t : Items) (s : Spot) → Told T s t → Meant T s t
unfolding means loaded_in
loaded-meant T ok end s h at = refl
loaded-meant T ok (item tag from body x u) s h at =
    meant-item T s tag from body x u h.0 (fine T ok x (below s tag) h.1) (loaded-meant T ok x (below s tag) h.1) (loaded-meant T ok u (past s tag) h.2) at

-- a spot that has come no further than another
abbrev pub lower : Spot → ℕ → List ℕ → Spot
lower s stage seen = record { parent = s.parent; depth = s.depth; stage = stage; seen = seen }

-- an item may stand there too, unless it is an attribute that stands before it there alone
pub placed-lower : (s : Spot) (tag : ℕ) → Placed s tag → (stage : ℕ) (seen : List ℕ) → stage ≤ s.stage → (attribute tag ≡ true → among tag seen ≡ true → among tag s.seen ≡ true)
    → placed (lower s stage seen) tag ≡ true
unfolding placed
placed-lower s tag p stage seen l h =
    let o : leb stage (latest tag) ≡ true = le-leb stage (latest tag) (omega (arith, leb-true s.stage (latest tag) p.order)) in
    rw (p.allow, o, p.deep) (go (attribute tag) refl (among tag seen) refl p.once)
  where
    go : (a : Bool) → attribute tag ≡ a → (b : Bool) → among tag seen ≡ b → not (a && among tag s.seen) ≡ true → not (a && b) ≡ true
    go false e b q r = refl
    go true e false q r = refl
    go true e true q r = let g : not true ≡ true = rw (h e q) at r in g

-- stored octets keep the rules by kind
words-keep : (T : Entries) (p tag : ℕ) (body : List ℕ) → Sound T → KindTold T p tag body (some HoldsText) → body_keeps p tag (stored T (some HoldsText) body) (some HoldsText) ≡ true
unfolding body_keeps stored meant octets_of is_known is_tokens is_text is_value fits
words-keep T p tag body ok k = rw (told_text T p tag body ok k, shown-expanded T body) k.short

attribute-keeps : (T : Entries) (p tag : ℕ) (body : List ℕ) (k : Kind) → is_text (some k) ≡ false → is_tokens (some k) ≡ false → Proper k (meant T k body)
    → body_keeps p tag (stored T (some k) body) (some k) ≡ true
unfolding body_keeps stored is_known is_value
attribute-keeps T p tag body k t n h = rw (t, n, proper-fits h)

-- what an item of a kind takes of the store, of which it is known that it holds neither items nor tokens
value_keeps : (T : Entries) (p tag : ℕ) (body : List ℕ) (k : Kind) → Sound T → KindTold T p tag body (some k) → value_kind k ≡ true → (value_kind k ≡ true → Proper k (meant T k body))
    → body_keeps p tag (stored T (some k) body) (some k) ≡ true
unfolding is_text is_tokens
value_keeps T p tag body HoldsItems ok h v q = absurd (false≢true v)
value_keeps T p tag body HoldsTokens ok h v q = absurd (false≢true v)
value_keeps T p tag body HoldsText ok h v q = words-keep T p tag body ok h
value_keeps T p tag body HoldsPlain ok h v q = attribute-keeps T p tag body HoldsPlain refl refl (q v)
value_keeps T p tag body HoldsTime ok h v q = attribute-keeps T p tag body HoldsTime refl refl (q v)
value_keeps T p tag body HoldsBearer ok h v q = attribute-keeps T p tag body HoldsBearer refl refl (q v)
value_keeps T p tag body (HoldsNumber n) ok h v q = attribute-keeps T p tag body (HoldsNumber n) refl refl (q v)

items_keep : (p tag : ℕ) → body_keeps p tag [] (some HoldsItems) ≡ true
unfolding body_keeps is_known is_tokens is_text is_value fits
items_keep p tag = refl

ruled-item : (s : Spot) (tag at : ℕ) (body : List ℕ) (x y : Items) → opens tag || is_end x ≡ true → placed s tag ≡ true → body_keeps s.parent tag body (known s.parent tag) ≡ true
    → ruled (below s tag) x ≡ true → ruled (past s tag) y ≡ true → ruled s (item tag at body x y) ≡ true
unfolding ruled keeps
ruled-item s tag at body x y a b k c d = rw (a, b, k, c, d)

abbrev pub Keeps : Entries → Spot → Items → Type 0
Keeps T s t = (at stage : ℕ) (seen : List ℕ) → stage ≤ s.stage → Among seen s.seen → ruled (lower s stage seen) (loaded_in T s.parent at t) ≡ true

-- the items after an item, in the loaded tree
keeps-after : (T : Entries) (s : Spot) (tag at : ℕ) (u : Items) → Keeps T (past s tag) u → (stage : ℕ) (seen : List ℕ) → Among seen s.seen
    → ruled (past (lower s stage seen) tag) (loaded_in T s.parent at u) ≡ true
unfolding past
keeps-after T s tag at u later stage seen h = later at (past s tag).stage (tag ∷ seen) (omega arith) (among-both tag seen s.seen h)

keeps-table : (T : Entries) (s : Spot) (from : ℕ) (body : List ℕ) (x u : Items) → Placed s 4 → Keeps T (past s 4) u → Keeps T s (item 4 from body x u)
unfolding past
keeps-table T s from body x u p later at stage seen l h =
    rw (loaded-table T s.parent at from body x u) (later at stage seen (omega (arith, stage-up s 4 p, stage-past s 4)) (among-more 4 seen s.seen h))

keeps-held : (T : Entries) (s : Spot) (tag from : ℕ) (body : List ℕ) (x u : Items) → Placed s tag → known s.parent tag ≡ some HoldsItems → eqb tag 4 ≡ false → opens tag ≡ true
    → Keeps T (below s tag) x → Keeps T (past s tag) u → Keeps T s (item tag from body x u)
unfolding below
keeps-held T s tag from body x u p e f o inside later at stage seen l h =
    let n = at + length (store_in T tag x) in
    rw (loaded-held T s.parent at tag from body x u f o)
    (ruled-item (lower s stage seen) tag 0 [] (loaded_in T tag at x) (loaded_in T s.parent n u) (rw o) (placed-lower s tag p stage seen l (λ e q. h tag q)) (rw e (items_keep s.parent tag))
    (inside at 0 [] (omega arith) (λ a q. q)) (keeps-after T s tag n u later stage seen h))

keeps-single : (T : Entries) (s : Spot) (tag from : ℕ) (body : List ℕ) (x u : Items) (k : Kind) → Placed s tag → known s.parent tag ≡ some k → eqb tag 4 ≡ false → opens tag ≡ false
    → body_keeps s.parent tag (stored T (some k) body) (some k) ≡ true → Keeps T (past s tag) u → Keeps T s (item tag from body x u)
unfolding is_end ruled
keeps-single T s tag from body x u k p e f o b later at stage seen l h =
    let own = stored T (known s.parent tag) body in
    let n = at + length own in
    rw (loaded-single T s.parent at tag from body x u f o)
    (ruled-item (lower s stage seen) tag at own end (loaded_in T s.parent n u) (or-true (opens tag)) (placed-lower s tag p stage seen l (λ e q. h tag q)) (rw e b) refl (keeps-after T s tag n u later stage seen h))

-- an item that is no attribute, by its kind
keeps-known : (T : Entries) (s : Spot) (tag from : ℕ) (body : List ℕ) (x u : Items) {k : Kind} → Sound T → Placed s tag → known s.parent tag ≡ some k → Stands tag k
    → KindTold T s.parent tag body (some k) → Keeps T (below s tag) x → Keeps T (past s tag) u → Keeps T s (item tag from body x u)
unfolding is_items meant
keeps-known T s tag from body x u ok p e (stands-items z) h inside later = keeps-held T s tag from body x u p e (items-tag tag z).not_table (opens-items tag z) inside later
keeps-known T s tag from body x u ok p e (stands_plain z) h inside later =
    keeps-single T s tag from body x u HoldsPlain p e (plain-tag tag z).not_table (opens-leaf tag HoldsPlain z refl) (value_keeps T s.parent tag body HoldsPlain ok h refl (λ v. plain)) later
keeps-known T s tag from body x u ok p e stands-table h inside later = keeps-table T s from body x u p later
keeps-known T s tag from body x u ok p e stands-cdata h inside later =
    keeps-single T s 1 from body x u HoldsText p e refl (opens-leaf 1 HoldsText known-one refl) (words-keep T s.parent 1 body ok h) later
keeps-known T s tag from body x u ok p e stands-language h inside later =
    keeps-single T s 6 from body x u HoldsText p e refl (opens-leaf 6 HoldsText known-six refl) (words-keep T s.parent 6 body ok h) later

keeps-item : (T : Entries) (s : Spot) (tag from : ℕ) (body : List ℕ) (x u : Items) → Sound T → ItemTold T s tag body x → Keeps T (below s tag) x → Keeps T (past s tag) u
    → Keeps T s (item tag from body x u)
keeps-item T s tag from body x u ok i inside later = go (attribute tag) refl (known_is (known s.parent tag) i.kind.is_one)
  where
    p : Placed s tag
    p = placed-parts s tag i.place

    go : (a : Bool) → attribute tag ≡ a → (k : Kind) × (known s.parent tag ≡ some k) → Keeps T s (item tag from body x u)
    go true a k =
        let h : KindTold T s.parent tag body (some k.0) = rw k.1 at i.kind in
        keeps-single T s tag from body x u k.0 p k.1 (attribute-four tag a) (attribute-shut tag a)
        (value_keeps T s.parent tag body k.0 ok h (attribute-kind s.parent tag k.0 a k.1) (λ v. told-proper T s.parent tag body k.0 ok i.octets a k.1 h)) later
    go false a k = keeps-known T s tag from body x u ok p k.1 (stands tag k.0 (sym (known-anywhere s.parent tag a) ∙ k.1)) (rw k.1 at i.kind) inside later

pub loaded-keeps : (T : Entries) → Sound T → (t : Items) (s : Spot) → Told T s t → Keeps T s t
unfolding loaded_in ruled
loaded-keeps T ok end s h at stage seen l q = refl
loaded-keeps T ok (item tag from body x u) s h at stage seen l q =
    keeps-item T s tag from body x u ok h.0 (loaded-keeps T ok x (below s tag) h.1) (loaded-keeps T ok u (past s tag) h.2) at stage seen l q

-- the loaded tree lies in its store, wherever that stands in what is lent
abbrev pub Stored : Entries → Items → Type 0
Stored T t = (p at : ℕ) (pre post lent : List ℕ) → lent ≡ pre ++ (store_in T p t ++ post) → length pre ≡ at → Located lent (loaded_in T p at t)

-- the way from the parts of a store to the places of its items
after-own : (pre own rest post lent : List ℕ) → lent ≡ pre ++ ((own ++ rest) ++ post) → lent ≡ (pre ++ own) ++ (rest ++ post)
after-own pre own rest post lent e = e ∙ simp append_assoc

stored-item : (T : Entries) (tag from : ℕ) (body : List ℕ) (x u : Items) → Stored T x → Stored T u → Stored T (item tag from body x u)
unfolding store_in loaded_in
stored-item T tag from body x u inside later p at pre post lent e l = go (eqb tag 4) (opens tag) e
  where
    own : List ℕ
    own = stored T (known p tag) body

    rest : List ℕ
    rest = store_in T p u

    behind : (o : List ℕ) → lent ≡ pre ++ ((o ++ rest) ++ post) → Located lent (loaded_in T p (at + length o) u)
    behind o q = later p (at + length o) (pre ++ o) post lent (after-own pre o rest post lent q) (simp length-append (omega arith))

    go : (b c : Bool) → lent ≡ pre ++ ((cond b [] (cond c (store_in T tag x) own) ++ rest) ++ post)
        → Located lent (cond b (loaded_in T p at u) (cond c (item tag 0 [] (loaded_in T tag at x) (loaded_in T p (at + length (store_in T tag x)) u)) (item tag at own end (loaded_in T p (at + length own) u))))
    go true c q = later p at pre post lent q l
    go false true q = (([], lent, refl, refl), inside tag at pre (rest ++ post) lent (q ∙ simp append_assoc) l, behind (store_in T tag x) q)
    go false false q = ((pre, rest ++ post, q ∙ simp append_assoc, l), tt, behind own q)

pub loaded-stored : (T : Entries) (t : Items) → Stored T t
unfolding loaded_in
loaded-stored T end p at pre post lent e l = tt
loaded-stored T (item tag from body x u) p at pre post lent e l = stored-item T tag from body x u (loaded-stored T x) (loaded-stored T u) p at pre post lent e l

-- the loaded tree has as many records as the object
abbrev pub Counts : Entries → Items → Type 0
Counts T t = (p at : ℕ) → count (loaded_in T p at t) ≡ count t

counts-item : (T : Entries) (tag from : ℕ) (body : List ℕ) (x u : Items) → opens tag || is_end x ≡ true → Counts T x → Counts T u → Counts T (item tag from body x u)
unfolding loaded_in count is_end
counts-item T tag from body x u h inside later p at = go (eqb tag 4) refl (opens tag) x h (λ n. inside tag n)
  where
    own : List ℕ
    own = stored T (known p tag) body

    go : (b : Bool) → eqb tag 4 ≡ b → (c : Bool) (y : Items) → c || is_end y ≡ true → ((n : ℕ) → count (loaded_in T tag n y) ≡ count y)
        → count (cond b (loaded_in T p at u) (cond c (item tag 0 [] (loaded_in T tag at y) (loaded_in T p (at + length (store_in T tag y)) u)) (item tag at own end (loaded_in T p (at + length own) u)))) ≡ cond b 0 (1 + count y) + count u
    go true e c y q i = later p at ∙ omega arith
    go false e true y q i = rw (e, i at, later p (at + length (store_in T tag y)))
    go false e false end q i = rw (e, later p (at + length own))
    go false e false (item a b c d f) q i = absurd (false≢true q)

pub loaded-counts : (T : Entries) (t : Items) (s : Spot) → Told T s t → Counts T t
unfolding loaded_in
loaded-counts T end s h p at = refl
loaded-counts T (item tag from body x u) s h p at = counts-item T tag from body x u h.0.holder (loaded-counts T x (below s tag) h.1) (loaded-counts T u (past s tag) h.2) p at

-- of an accepted object: what the loaded tree means, that it keeps the writer's rules, where it lies, and how many records it has
module _ (o : List ℕ) (t : Items) (os : Octets o) (h : judge o ≡ accepted t) where
  pub loaded-means : means [] (loaded_of t) ≡ meaning_of t
  unfolding at_top
  loaded-means = loaded-meant (table_of t) (accepted-sound o t os h) t at_top (accepted-told o t os h) 0

  pub loaded-ruled : ruled at_top (loaded_of t) ≡ true
  unfolding at_top
  loaded-ruled = loaded-keeps (table_of t) (accepted-sound o t os h) t at_top (accepted-told o t os h) 0 0 [] (omega arith) (λ a q. q)

  pub loaded-located : (rest : List ℕ) → Located (store_of t ++ rest) (loaded_of t)
  loaded-located rest = loaded-stored (table_of t) t 0 0 [] rest (store_of t ++ rest) refl refl

  pub loaded-count : count (loaded_of t) ≡ count t
  loaded-count = loaded-counts (table_of t) t at_top (accepted-told o t os h) 0 0
