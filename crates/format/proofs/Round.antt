-- What is written from a well-formed meaning is accepted, and means it.
use mathlib.Core.Path.{◌≡◌, refl, sym, ap, ◌∙◌, fun_ext, subst}
use mathlib.Core.Bool.{Bool, true, false, cond, false≢true}
use mathlib.Core.Option.{Option, none, some, some-injective}
use mathlib.Core.List.{List, [], ◌++◌, append_assoc, append-nil}
use Prim.Native.Nat.{ℕ, zero, suc, ◌+◌, ◌^◌, ◌≤◌, ◌<◌}
use native.Mathlib.Omega.{arith}
use lib.Dec.{eqb, leb}
use lib.ListN.{length, length-append}
use borrow.Author.Tests.{ltb-true, eqb-true, eqb-false, ne_eqb, le-leb}
use Rattle.octets.specs.Numbers.{among}
use Rattle.octets.specs.Header.{framed}
use Rattle.text.specs.Tokens.{shown_length}
use Rattle.values.specs.declared.Kind.{Kind}
use Rattle.values.specs.declared.Kind.TheVariants.{HoldsItems, HoldsText, HoldsPlain}
use Rattle.values.specs.Table.{known, attribute}
use Rattle.values.specs.Values.{Value, octets_of, is_default}
use Rattle.values.specs.Proper.{Proper}
use Rattle.format.specs.Tree.{Items, find}
use Rattle.format.specs.Tree.Items.{end, item}
use Rattle.format.specs.Judge.{is_items, Context, stage_after, rule, late, within, next, unless, outermost, judge}
use Rattle.format.specs.Judge.Judged.{accepted}
use Rattle.format.specs.Meaning.{Meaning, value_in, counted, attributes_in, cdata_in, leaf_octets, means, table_in, table_of, if_accepted, meaning, maybe, rising, encode}
use Rattle.format.specs.Meaning.Meaning.{nothing, element, leaf}
use Rattle.format.specs.WellFormed.{ValueOk, AttributeOk, CdataOk, PlaceOk, LeafOk, WellFormed, ObjectOk}
use Rattle.format.specs.WellFormed.LeafOk.{language, plainly}
use Rattle.octets.proofs.Frames.{headed, framed-longer}
use Rattle.text.proofs.Words.{expanded-empty}
use Rattle.values.proofs.Values.{proper-value, proper-fits, proper-means}
use Rattle.values.proofs.DefaultValues.{element-keeps, default-meant}
use Rattle.values.proofs.Known.{ElementTag, items-tag, plain-tag, language-tag, known-six, known-anywhere, known-cdata, not-zero}
use Rattle.format.proofs.Rules.{KindHeld}
use Rattle.format.proofs.Read.{Reads, Alone, reads-element, reads-leaf, reads_end}
use Rattle.format.proofs.Place.{Ready, within-ready, next-ready, next-attribute, attribute-tag, shown-other, words-held, items-held, plain-held, attribute-held, cdata-held, element-held}
use Rattle.format.proofs.Means.{value-no-items, means-attribute, means-cdata, means-element, means-leaf, leaf-text, leaf-plain, cdata-itself}
use Rattle.format.proofs.Defaults.{counts-none, defaults_in}
use Rattle.format.proofs.Force.{attribute-one}

-- the tree of children and CDATA
record Body (cd : Option (List ℕ)) (m : Meaning) (t : Items) : Type 0 where
  children : means [] t ≡ m
  cdata : find 1 t ≡ cd
  table : find 4 t ≡ none
  attributes : (b : ℕ) → attribute b ≡ true → find b t ≡ none
  bare : (parent : ℕ) → defaults_in parent t ≡ 0

-- the tree of attributes from a tag on, children and CDATA
record Inside (parent : ℕ) (f : ℕ → Option Value) (a : ℕ) (cd : Option (List ℕ)) (m : Meaning) (t : Items) : Type 0 where
  children : means [] t ≡ m
  cdata : find 1 t ≡ cd
  table : find 4 t ≡ none
  below : (b : ℕ) → attribute b ≡ true → b < a → find b t ≡ none
  above : (b : ℕ) → attribute b ≡ true → a ≤ b → value_in [] (find b t) (known parent b) ≡ f b
  bare : defaults_in parent t ≡ 0

inside-parent : (c : Context) (parent depth stage : ℕ) (rest : List ℕ) → Ready c parent depth stage → eqb parent 0 ≡ false → Alone c rest
inside-parent c parent depth stage rest r z =
    let y : eqb c.parent 0 ≡ false = ap (λ q. eqb q 0) r.is_parent ∙ z in
    rw y

cdata-no-attribute : attribute 1 ≡ false
unfolding attribute
cdata-no-attribute = refl

text-no-items : is_items (some HoldsText) ≡ false
unfolding is_items
text-no-items = refl

cdata-reads : (c : Context) (parent depth stage at : ℕ) (cd : Option (List ℕ)) → Ready c parent depth stage → eqb parent 0 ≡ false → leb stage 2 ≡ true
    → CdataOk parent cd → length (maybe (framed 1) cd) < 256 ^ 2 → (u : Items) × Reads c at (maybe (framed 1) cd) u × Body cd nothing u
unfolding maybe means find defaults_in
cdata-reads c parent depth stage at none r z s ok h = (end, reads_end c at r.quiet, record { children = refl; cdata = refl; table = refl; attributes = λ b q. refl; bare = λ p. refl })
cdata-reads c parent depth stage at (some o) r z s ok h =
    let small : length o < 256 ^ 2 = omega (arith, rw (append-nil (framed 1 o)) at (framed-longer 1 o [])) in
    let n = next-ready c parent depth stage at 1 o r cdata-no-attribute refl in (
      item 1 (at + headed (length o)) o end end,
      rw (append-nil (framed 1 o)) at (reads-leaf c at 1 o [] small (cdata-held c parent depth stage o r z s ok.0 ok.1) (inside-parent c parent depth stage [] r z) HoldsText (known-cdata c.parent) text-no-items (reads_end (next c at 1 o) (at + headed (length o) + length o) n.quiet)),
      record { children = means-cdata [] (at + headed (length o)) o end end; cdata = refl; table = refl; attributes = λ b q. rw (attribute-one b q); bare = λ p. rw (element-keeps p 1 o cdata-no-attribute) },
    )

-- tags of brothers so far are below
abbrev Fresh : ℕ → List ℕ → Type 0
Fresh a seen = (b : ℕ) → a ≤ b → among b seen ≡ false

-- what follows the attributes, or the children, is read from any place like this one
abbrev Follows : (parent depth : ℕ) → List ℕ → (ℕ → Type 0) → (Items → Type 0) → Type 0
Follows parent depth rest S P = (c : Context) (at stage : ℕ) → S stage → Ready c parent depth stage → (u : Items) × Reads c at rest u × P u

-- no attribute of an element has a tag above 0xFF
above-all : (parent b : ℕ) (o : Option Value) → ValueOk parent b o → 256 ≤ b → o ≡ none
above-all parent b none ok h = refl
above-all parent b (some v) ok h = absurd (omega (arith, ok.1))

value_none : (parent b : ℕ) (t : Items) → find b t ≡ none → value_in [] (find b t) (known parent b) ≡ none
unfolding value_in
value_none parent b t e = rw e

inside-end : (parent a : ℕ) (f : ℕ → Option Value) (cd : Option (List ℕ)) (m : Meaning) (t : Items) → ((b : ℕ) → AttributeOk parent b (f b)) → 256 ≤ a → Body cd m t
    → Inside parent f a cd m t
inside-end parent a f cd m t ok h u = record {
  children = u.children;
  cdata = u.cdata;
  table = u.table;
  below = λ b p _. u.attributes b p;
  above = λ b p g. value_none parent b t (u.attributes b p) ∙ sym (above-all parent b (f b) (ok b).value (omega arith));
  bare = u.bare parent;
}

-- an attribute that is absent
inside-none : (parent a : ℕ) (f : ℕ → Option Value) (cd : Option (List ℕ)) (m : Meaning) (t : Items) → f a ≡ none → Inside parent f (suc a) cd m t
    → Inside parent f a cd m t
inside-none parent a f cd m t e u = record {
  children = u.children;
  cdata = u.cdata;
  table = u.table;
  below = λ b p g. u.below b p (omega arith);
  above = λ b p g. pick b p g (eqb b a) refl;
  bare = u.bare;
}
  where
    pick : (b : ℕ) → attribute b ≡ true → a ≤ b → (s : Bool) → eqb b a ≡ s → value_in [] (find b t) (known parent b) ≡ f b
    pick b p g true q = let w = eqb-true b a q in value_none parent b t (u.below b p (omega arith)) ∙ sym (ap f w ∙ e)
    pick b p g false q = u.above b p (omega (arith, eqb-false b a q))

-- an attribute that is present
inside-some : (parent a at : ℕ) (f : ℕ → Option Value) (cd : Option (List ℕ)) (m : Meaning) (t : Items) (k : Kind) (v : Value) → 0x80 ≤ a → f a ≡ some v
    → known parent a ≡ some k → Proper k v → is_default parent a v ≡ false → Inside parent f (suc a) cd m t → Inside parent f a cd m (item a at (octets_of v) end t)
unfolding find value_in defaults_in
inside-some parent a at f cd m t k v l e g pr n u = record {
  children = means-attribute [] a at (octets_of v) end t (attribute-tag a l).is ∙ u.children;
  cdata = rw (ne_eqb 1 a (λ q. omega arith)) u.cdata;
  table = rw (ne_eqb 4 a (λ q. omega arith)) u.table;
  below = λ b p h. rw (ne_eqb b a (λ q. omega arith)) (u.below b p (omega arith));
  above = λ b p h. pick b p h (eqb b a) refl;
  bare = rw (default-meant [] parent a k (octets_of v) g (proper-fits pr) ∙ (ap (is_default parent a) (proper-means pr) ∙ n)) (omega (arith, u.bare));
}
  where
    pick : (b : ℕ) → attribute b ≡ true → a ≤ b → (s : Bool) → eqb b a ≡ s → value_in [] (find b (item a at (octets_of v) end t)) (known parent b) ≡ f b
    pick b p h true q =
        let w = eqb-true b a q in
        let x : known parent b ≡ some k = ap (known parent) w ∙ g in
        rw (q, x) (ap some (proper-means pr) ∙ sym (ap f w ∙ e))
    pick b p h false q = rw q (u.above b p (omega (arith, eqb-false b a q)))

fresh-next : (c : Context) (at a : ℕ) (body : List ℕ) → Fresh a c.seen → Fresh (suc a) (next c at a body).seen
unfolding next among
fresh-next c at a body fresh b h = rw (ne_eqb b a (λ q. omega arith)) (fresh b (omega arith))

rising-reads : (n a : ℕ) → a + n ≡ 256 → 0x80 ≤ a → (parent depth : ℕ) (f : ℕ → Option Value) → ((b : ℕ) → AttributeOk parent b (f b)) → eqb parent 0 ≡ false
    → (rest : List ℕ) (cd : Option (List ℕ)) (m : Meaning) → Follows parent depth rest (λ s. s ≡ 0) (Body cd m)
    → (c : Context) (at : ℕ) → Ready c parent depth 0 → Fresh a c.seen → length (rising n a f ++ rest) < 256 ^ 2
    → (t : Items) × Reads c at (rising n a f ++ rest) t × Inside parent f a cd m t
unfolding rising maybe
rising-reads zero a q l parent depth f ok z rest cd m follows c at r fresh h =
    let u = follows c at 0 refl r in
    (u.0, u.1, inside-end parent a f cd m u.0 ok (omega arith) u.2)
rising-reads (suc n) a q l parent depth f ok z rest cd m follows c at r fresh h =
    go (rising-reads n (suc a) (omega arith) (omega arith) parent depth f ok z rest cd m follows) (f a) refl (ok a).value h
  where
    go : ((c : Context) (at : ℕ) → Ready c parent depth 0 → Fresh (suc a) c.seen → length (rising n (suc a) f ++ rest) < 256 ^ 2
        → (t : Items) × Reads c at (rising n (suc a) f ++ rest) t × Inside parent f (suc a) cd m t)
        → (o : Option Value) → f a ≡ o → ValueOk parent a o → length (maybe (λ v. framed a (octets_of v)) o ++ rising n (suc a) f ++ rest) < 256 ^ 2
        → (t : Items) × Reads c at (maybe (λ v. framed a (octets_of v)) o ++ rising n (suc a) f ++ rest) t × Inside parent f a cd m t
    go ih none e p s =
        let u = ih c at r (λ b g. fresh b (omega arith)) s in
        (u.0, u.1, inside-none parent a f cd m u.0 e u.2)
    go ih (some v) e p s =
        let o = octets_of v in
        let k = p.2.0 in
        let s' : length (framed a o ++ (rising n (suc a) f ++ rest)) < 256 ^ 2 = rw append_assoc at s in
        let g = framed-longer a o (rising n (suc a) f ++ rest) in
        let u = ih (next c at a o) (at + headed (length o) + length o) (next-attribute c parent depth at a r (attribute-tag a l) k v p.2.1 p.2.2) (fresh-next c at a o fresh) (omega arith) in (
          item a (at + headed (length o)) o end u.0,
          rw append_assoc (reads-leaf c at a o (rising n (suc a) f ++ rest) (omega arith) (attribute-held c parent depth a r z l (fresh a (omega arith)) k v p.2.1 p.2.2) (inside-parent c parent depth 0 (rising n (suc a) f ++ rest) r z) k (ap (λ w. known w a) r.is_parent ∙ p.2.1) (value-no-items k (proper-value p.2.2)) u.1),
          inside-some parent a (at + headed (length o)) f cd m u.0 k v l e p.2.1 p.2.2 (counts-none parent a v (subst (λ x. counted parent a x ≡ x) e (ok a).counts)) u.2,
        )

-- an element's attributes are those that its meaning has
set_back : (tag : ℕ) (f : ℕ → Option Value) (cd : Option (List ℕ)) (m : Meaning) (t : Items) → ((b : ℕ) → AttributeOk tag b (f b)) → Inside tag f 0x80 cd m t
    → attributes_in [] tag t ≡ f
unfolding attributes_in attribute
set_back tag f cd m t ok u = fun_ext (λ b. go b (attribute b) refl (f b) refl (ok b).value)
  where
    go : (b : ℕ) (s : Bool) → attribute b ≡ s → (o : Option Value) → f b ≡ o → ValueOk tag b o → cond s (counted tag b (value_in [] (find b t) (known tag b))) none ≡ f b
    go b true q o e p = ap (counted tag b) (u.above b q (omega (arith, ltb-true 0x7F b q))) ∙ (ok b).counts
    go b false q none e p = sym e
    go b false q (some v) e p = absurd (false≢true (sym q ∙ p.0))

-- what an element or a leaf adds to its later brothers but its own meaning
beside : (cd : Option (List ℕ)) (m n : Meaning) (tag at : ℕ) (body : List ℕ) (t u : Items) → ElementTag tag → Body cd m u → means [] (item tag at body t u) ≡ n
    → defaults_in tag t ≡ 0 → Body cd n (item tag at body t u)
unfolding find defaults_in
beside cd m n tag at body t u e b q z = record {
  children = q;
  cdata = rw (ne_eqb 1 tag (λ w. eqb-false tag 1 e.not_cdata (sym w))) b.cdata;
  table = rw (ne_eqb 4 tag (λ w. eqb-false tag 4 e.not_table (sym w))) b.table;
  attributes = λ a p. rw (ne_eqb a tag (λ w. false≢true (sym e.not_attribute ∙ (ap attribute (sym w) ∙ p)))) (b.attributes a p);
  bare = λ p. rw (element-keeps p tag body e.not_attribute, z) (omega (arith, b.bare p));
}

element-means : (cd cdata : Option (List ℕ)) (kids after : Meaning) (tag at : ℕ) (f : ℕ → Option Value) (body : List ℕ) (t u : Items) → known 0 tag ≡ some HoldsItems
    → ((b : ℕ) → AttributeOk tag b (f b)) → Inside tag f 0x80 cdata kids t → Body cd after u → means [] (item tag at body t u) ≡ element tag f kids cdata after
unfolding cdata_in
element-means cd cdata kids after tag at f body t u e ok i b =
    means-element [] tag at body t u e ∙ rw (set_back tag f cdata kids t ok i, i.children, i.cdata, cdata-itself cdata, b.children)

stage-element : (tag : ℕ) → ElementTag tag → leb (stage_after tag) 2 ≡ true
unfolding stage_after
stage-element tag e = rw (e.not_attribute, e.not_table, e.not_cdata)

-- an element whose inside and later brothers are read
element-reads : (c : Context) (parent depth stage at tag : ℕ) (f : ℕ → Option Value) (kids after : Meaning) (cd cdata : Option (List ℕ)) (body rest : List ℕ)
    → Ready c parent depth stage → PlaceOk parent depth stage tag → known 0 tag ≡ some HoldsItems → ((b : ℕ) → AttributeOk tag b (f b)) → length body < 256 ^ 2 → Alone c rest
    → ((c : Context) (at : ℕ) → Ready c tag (suc depth) 0 → c.seen ≡ [] → (t : Items) × Reads c at body t × Inside tag f 0x80 cdata kids t)
    → ((c : Context) (at : ℕ) → Ready c parent depth (stage_after tag) → (u : Items) × Reads c at rest u × Body cd after u)
    → (t : Items) × Reads c at (framed tag body ++ rest) t × Body cd (element tag f kids cdata after) t × (table_of t ≡ [])
unfolding within table_of table_in
element-reads c parent depth stage at tag f kids after cd cdata body rest r place e ok small alone inside later =
    let tagged = items-tag tag e in
    let h = headed (length body) in
    let x : known c.parent tag ≡ some HoldsItems = known-anywhere c.parent tag tagged.not_attribute ∙ e in
    let t = inside (within c tag) (at + h) (within-ready c parent depth stage tag r) refl in
    let u = later (next c at tag body) (at + h + length body) (next-ready c parent depth stage at tag body r tagged.not_attribute tagged.not_table) in (
      item tag (at + h) body t.0 u.0,
      reads-element c at tag body rest small (element-held c parent depth stage tag body r tagged place (rw x (items-held c tag body))) alone x t.1 u.1,
      beside cd after (element tag f kids cdata after) tag (at + h) body t.0 u.0 tagged u.2 (element-means cd cdata kids after tag (at + h) f body t.0 u.0 e ok t.2 u.2) t.2.bare,
      rw t.2.table,
    )

fresh-none : (a : ℕ) (seen : List ℕ) → seen ≡ [] → Fresh a seen
unfolding among
fresh-none a seen e b h = rw e

-- an element's body: its attributes by rising tag, its children, its CDATA
body_reads : (tag depth : ℕ) (f : ℕ → Option Value) (kids : Meaning) (cdata : Option (List ℕ)) (rest : List ℕ) → eqb tag 0 ≡ false → ((b : ℕ) → AttributeOk tag b (f b))
    → length (rising 128 0x80 f ++ rest) < 256 ^ 2 → Follows tag (suc depth) rest (λ s. s ≡ 0) (Body cdata kids)
    → (c : Context) (at : ℕ) → Ready c tag (suc depth) 0 → c.seen ≡ [] → (t : Items) × Reads c at (rising 128 0x80 f ++ rest) t × Inside tag f 0x80 cdata kids t
body_reads tag depth f kids cdata rest z ok small follows c at r e =
    rising-reads 128 0x80 refl (omega arith) tag (suc depth) f ok z rest cdata kids follows c at r (fresh-none 0x80 c.seen e) small

-- a leaf whose later brothers are read
leaf-one : (c : Context) (parent depth stage at tag : ℕ) (after : Meaning) (cd : Option (List ℕ)) (o rest : List ℕ) (k : Kind)
    → Ready c parent depth stage → PlaceOk parent depth stage tag → known 0 tag ≡ some k → is_items (some k) ≡ false → ElementTag tag → KindHeld c tag o (some k)
    → leaf_octets [] tag o ≡ o → length o < 256 ^ 2 → Alone c rest
    → ((c : Context) (at : ℕ) → Ready c parent depth (stage_after tag) → (u : Items) × Reads c at rest u × Body cd after u)
    → (t : Items) × Reads c at (framed tag o ++ rest) t × Body cd (leaf tag o after) t
unfolding defaults_in
leaf-one c parent depth stage at tag after cd o rest k r place e l tagged rules same small alone later =
    let h = headed (length o) in
    let x : known c.parent tag ≡ some k = known-anywhere c.parent tag tagged.not_attribute ∙ e in
    let u = later (next c at tag o) (at + h + length o) (next-ready c parent depth stage at tag o r tagged.not_attribute tagged.not_table) in
    let m : means [] (item tag (at + h) o end u.0) ≡ leaf tag o after = means-leaf [] tag (at + h) o end u.0 k tagged e l ∙ rw (same, u.2.children) in (
      item tag (at + h) o end u.0,
      reads-leaf c at tag o rest small (element-held c parent depth stage tag o r tagged place (rw x rules)) alone k x l u.1,
      beside cd after (leaf tag o after) tag (at + h) o end u.0 tagged u.2 m refl,
    )

leaf-reads : (c : Context) (parent depth stage at tag : ℕ) (after : Meaning) (cd : Option (List ℕ)) (o rest : List ℕ)
    → Ready c parent depth stage → PlaceOk parent depth stage tag → LeafOk tag o → length o < 256 ^ 2 → Alone c rest
    → ((c : Context) (at : ℕ) → leb (stage_after tag) 2 ≡ true → Ready c parent depth (stage_after tag) → (u : Items) × Reads c at rest u × Body cd after u)
    → (t : Items) × Reads c at (framed tag o ++ rest) t × Body cd (leaf tag o after) t
unfolding is_items
leaf-reads c parent depth stage at tag after cd o rest r place (language six words) small alone later =
    let tagged = subst (λ q. ElementTag q) (sym six) language-tag in
    let k : known 0 tag ≡ some HoldsText = ap (known 0) six ∙ known-six in
    leaf-one c parent depth stage at tag after cd o rest HoldsText r place k refl tagged
    (words-held c tag o r.no_table words (shown-other c.parent tag (shown_length [] o) tagged.not_cdata)) (leaf-text [] tag o k ∙ expanded-empty o) small alone
    (λ c at q. later c at (stage-element tag tagged) q)
leaf-reads c parent depth stage at tag after cd o rest r place (plainly e) small alone later =
    leaf-one c parent depth stage at tag after cd o rest HoldsPlain r place e refl (plain-tag tag e) (plain-held c tag o) (leaf-plain [] tag o e) small alone
    (λ c at q. later c at (stage-element tag (plain-tag tag e)) q)

-- well-formed brothers are read, before whatever follows them
abbrev Children : Meaning → Type 0
Children m = (parent depth stage : ℕ) → eqb parent 0 ≡ false → leb stage 2 ≡ true → WellFormed parent depth stage m
    → (rest : List ℕ) (cd : Option (List ℕ)) → Follows parent depth rest (λ s. leb s 2 ≡ true) (Body cd nothing)
    → (c : Context) (at : ℕ) → Ready c parent depth stage → length (encode m ++ rest) < 256 ^ 2 → (t : Items) × Reads c at (encode m ++ rest) t × Body cd m t

children-nothing : Children nothing
unfolding encode
children-nothing parent depth stage z s ok rest cd follows c at r h = follows c at stage s r

children-element : (tag : ℕ) (f : ℕ → Option Value) (kids : Meaning) (cdata : Option (List ℕ)) (after : Meaning) → Children kids → Children after → Children (element tag f kids cdata after)
unfolding encode
children-element tag f kids cdata after inside later parent depth stage z s ok rest cd follows c at r h =
    let text = maybe (framed 1) cdata in
    let body = rising 128 0x80 f ++ (encode kids ++ text) in
    let h' : length (framed tag body ++ (encode after ++ rest)) < 256 ^ 2 = rw append_assoc at h in
    let g = framed-longer tag body (encode after ++ rest) in
    let b : length body ≡ length (rising 128 0x80 f) + (length (encode kids) + length text) = simp length-append in
    let d : length (encode kids ++ text) ≡ length (encode kids) + length text = simp length-append in
    let y = not-zero tag HoldsItems ok.1 in
    let e = element-reads c parent depth stage at tag f kids after cd cdata body (encode after ++ rest) r ok.0 ok.1 ok.2 (omega arith)
    (inside-parent c parent depth stage (encode after ++ rest) r z)
    (body_reads tag depth f kids cdata (encode kids ++ text) y ok.2 (omega arith)
    (λ c at stage e q. inside tag (suc depth) 0 y refl ok.3 text cdata
    (λ c at stage s q. cdata-reads c tag (suc depth) stage at cdata q y s ok.4 (omega arith)) c at (subst (λ n. Ready c tag (suc depth) n) e q) (omega arith)))
    (λ c at q. later parent depth (stage_after tag) z (stage-element tag (items-tag tag ok.1)) ok.5 rest cd follows c at q (omega arith)) in
    rw append_assoc (e.0, e.1, e.2)

children-leaf : (tag : ℕ) (o : List ℕ) (after : Meaning) → Children after → Children (leaf tag o after)
unfolding encode
children-leaf tag o after later parent depth stage z s ok rest cd follows c at r h =
    let h' : length (framed tag o ++ (encode after ++ rest)) < 256 ^ 2 = rw append_assoc at h in
    let g = framed-longer tag o (encode after ++ rest) in
    rw append_assoc
    (leaf-reads c parent depth stage at tag after cd o (encode after ++ rest) r ok.0 ok.1 (omega arith) (inside-parent c parent depth stage (encode after ++ rest) r z)
    (λ c at s q. later parent depth (stage_after tag) z s ok.2 rest cd follows c at q (omega arith)))

children-reads : (m : Meaning) → Children m
children-reads nothing = children-nothing
children-reads (element tag f kids cdata after) = children-element tag f kids cdata after (children-reads kids) (children-reads after)
children-reads (leaf tag o after) = children-leaf tag o after (children-reads after)

-- the top element is read from the whole object
top-reads : (tag : ℕ) (f : ℕ → Option Value) (kids : Meaning) (cdata : Option (List ℕ)) → WellFormed 0 1 0 (element tag f kids cdata nothing)
    → length (encode (element tag f kids cdata nothing)) ≤ 32_768
    → (t : Items) × Reads outermost 0 (encode (element tag f kids cdata nothing)) t × Body none (element tag f kids cdata nothing) t × (table_of t ≡ [])
unfolding encode outermost late means find defaults_in
top-reads tag f kids cdata ok h =
    let text = maybe (framed 1) cdata in
    let body = rising 128 0x80 f ++ (encode kids ++ text) in
    let g = framed-longer tag body [] in
    let b : length body ≡ length (rising 128 0x80 f) + (length (encode kids) + length text) = simp length-append in
    let d : length (encode kids ++ text) ≡ length (encode kids) + length text = simp length-append in
    let y = not-zero tag HoldsItems ok.1 in
    element-reads outermost 0 1 0 0 tag f kids nothing none cdata body [] (record { is_parent = refl; is_depth = refl; is_stage = refl; no_table = refl; quiet = refl }) ok.0 ok.1 ok.2 (omega arith)
    refl
    (body_reads tag 1 f kids cdata (encode kids ++ text) y ok.2 (omega arith)
    (λ c at stage e q. children-reads kids tag 2 0 y refl ok.3 text cdata
    (λ c at stage s q. cdata-reads c tag 2 stage at cdata q y s ok.4 (omega arith)) c at (subst (λ n. Ready c tag 2 n) e q) (omega arith)))
    (λ c at q. (end, reads_end c at q.quiet, record { children = refl; cdata = refl; table = refl; attributes = λ b q. refl; bare = λ p. refl }))

judged : (o : List ℕ) (t : Items) → 1 ≤ length o → length o ≤ 32_768 → Reads outermost 0 o t → judge o ≡ accepted t
unfolding judge unless rule
judged o t l h r = rw (le-leb 1 (length o) l, le-leb (length o) 32_768 h) (r (suc (length o)) (omega arith))

element-long : (tag : ℕ) (f : ℕ → Option Value) (kids : Meaning) (cdata : Option (List ℕ)) (after : Meaning) → 1 ≤ length (encode (element tag f kids cdata after))
unfolding encode
element-long tag f kids cdata after = omega (arith, framed-longer tag (rising 128 0x80 f ++ (encode kids ++ maybe (framed 1) cdata)) (encode after))

-- what is written from a well-formed meaning, read again: it is accepted, means that meaning, and holds no default
pub record Reread (m : Meaning) : Type 0 where
  pub tree : Items
  pub accepts : judge (encode m) ≡ accepted tree
  pub table : table_of tree ≡ []
  pub means-it : means [] tree ≡ m
  pub bare : defaults_in 0 tree ≡ 0

pub reread : (m : Meaning) → ObjectOk m → length (encode m) ≤ 32_768 → Reread m
reread nothing ok h = absurd ok
reread (leaf tag o after) ok h = absurd ok
reread (element tag f kids cdata nothing) ok h =
    let m = element tag f kids cdata nothing in
    let t = top-reads tag f kids cdata ok h in
    record { tree = t.0; accepts = judged (encode m) t.0 (element-long tag f kids cdata nothing) h t.1; table = t.3; means-it = t.2.children; bare = t.2.bare 0 }
reread (element tag f kids cdata (element tag' f' kids' cdata' after)) ok h = absurd ok
reread (element tag f kids cdata (leaf tag' o after)) ok h = absurd ok

pub meaning-encode : (m : Meaning) → ObjectOk m → length (encode m) ≤ 32_768 → meaning (encode m) ≡ some m
unfolding meaning if_accepted
meaning-encode m ok h = let r = reread m ok h in rw (r.accepts, r.table) (ap some r.means-it)

-- so two well-formed meanings with one normal form are one
pub encode_injective : (m n : Meaning) → ObjectOk m → ObjectOk n → length (encode m) ≤ 32_768 → encode m ≡ encode n → m ≡ n
encode_injective m n p q h e =
    some-injective m n (sym (meaning-encode m p h) ∙ (ap meaning e ∙ meaning-encode n q (rw e at h)))
