-- Items with folded texts, laid into a room: the ways of `emit_item` and the loop of `emit_items`.
use Rattle.std.specs.Prelude.{Some, None, Option as Optional}
use mathlib.Core.Path.{◌≡◌, refl, sym, ap, ap₂, subst, ◌∙◌}
use mathlib.Core.Bool.{Bool, true, false, cond}
use mathlib.Core.Option.{Option, none, some}
use mathlib.Core.List.{List, [], ◌∷◌, ◌++◌, append_assoc, append-nil}
use Prim.Native.Nat.{ℕ, ◌+◌, ◌-◌, ◌≤◌, ◌<◌}
use native.Mathlib.Nat.{add-zero}
use native.Mathlib.Omega.{arith}
use lib.ListN.{length, get_or, take, drop, drop_of_length-le}
use Rattle.octets.specs.Header.{length_field, framed}
use Rattle.octets.proofs.Lists.{length_part}
use Rattle.text.specs.Tokens.{Entries}
use Rattle.values.specs.declared.Kind.{Kind}
use Rattle.values.specs.Table.{known}
use Rattle.format.specs.Tree.{Items}
use Rattle.format.specs.Tree.Items.{end, item}
use Rattle.format.specs.Judge.{is_known, is_items, is_text}
use Rattle.format.specs.Meaning.{opens}
use Rattle.format.proofs.Means.{items-opens}
use Rattle.reader.specs.Filling.{Accepts, share}
use Rattle.reader.proofs.Opening.{opened-end}
use Rattle.octets.specs.Places.{lies_at, from_to}
use Rattle.octets.proofs.Places.{Lying, lying, bounds}
use Rattle.octets.specs.declared.Lies.{Lies}
use Rattle.reader.proofs.Opening.{lies-inside, met}
use Rattle.fold.specs.Packed.{folded, refolded}
use Rattle.packer.specs.declared.collecting.Sort.{Sort}
use Rattle.packer.specs.Collecting.{sort_of}
use Rattle.packer.specs.Sizing.{ItemsSized}
use Rattle.packer.specs.Laying.{Placed}
use Rattle.packer.specs.Emitting.{ItemsEmitted, ItemEmitted}
use Rattle.packer.proofs.Sized.{refolded-item}
use Rattle.packer.proofs.Measuring.{folded-shorter}
use Rattle.packer.proofs.Laid.{placed-join, placed-none}

-- ---- what an item adds

refolded-end : (es : Entries) (p : ℕ) → refolded es [] p end ≡ []
unfolding refolded
refolded-end es p = refl

module _ (es : Entries) (p tag at : ℕ) (body : List ℕ) where
  share-adds : (k : Option Kind) (s v : Items) → refolded es [] p (share k tag at body s v) ≡ refolded es [] p (share k tag at body s end) ++ refolded es [] p v
  unfolding share
  share-adds k s v = go (is_items k) (is_known k)
    where
      both : (s : Items) → refolded es [] p (item tag at body s v) ≡ refolded es [] p (item tag at body s end) ++ refolded es [] p v
      both s =
          let b = framed tag (cond (opens tag) (refolded es [] tag s) (cond (is_text (known p tag)) (folded es body) body)) in
          refolded-item es p tag at body s v
          ∙ ap (λ q. q ++ refolded es [] p v) (sym (refolded-item es p tag at body s end ∙ (ap (λ q. b ++ q) (refolded-end es p) ∙ append-nil b)))

      go : (a b : Bool) → refolded es [] p (cond a (item tag at body s v) (cond b (item tag at body end v) v))
          ≡ refolded es [] p (cond a (item tag at body s end) (cond b (item tag at body end end) end)) ++ refolded es [] p v
      go true b = both s
      go false true = both end
      go false false = ap (λ q. q ++ refolded es [] p v) (sym (refolded-end es p))

  one-adds : (s : Items) (b : List ℕ) → cond (opens tag) (refolded es [] tag s) (cond (is_text (known p tag)) (folded es body) body) ≡ b → refolded es [] p (item tag at body s end) ≡ framed tag b
  one-adds s b e = refolded-item es p tag at body s end ∙ (ap₂ (λ q r. framed tag q ++ r) e (refolded-end es p) ∙ append-nil (framed tag b))

module _ (es : Entries) (p tag : ℕ) (body : List ℕ) (s : Sort) (e : s ≡ sort_of (known p tag)) where
  abbrev Adds : Option Kind → Sort → Type 0
  Adds k Sort.Nothing = (at : ℕ) (u : Items) → refolded es [] p (share k tag at body u end) ≡ []
  Adds k Sort.Items = (is_items k ≡ true) × ((at : ℕ) (u : Items) → refolded es [] p (share k tag at body u end) ≡ framed tag (refolded es [] tag u))
  Adds k Sort.Text = (at : ℕ) (u : Items) → refolded es [] p (share k tag at body u end) ≡ framed tag (folded es body)
  Adds k Sort.Plain = (at : ℕ) (u : Items) → refolded es [] p (share k tag at body u end) ≡ framed tag body

  adds : Adds (known p tag) s
  unfolding sort_of share is_known is_items is_text
  adds = subst (Adds (known p tag)) (sym e) (go (known p tag) refl)
    where
      known-one : (k : Kind) → known p tag ≡ some k → (a b : Bool) → is_items (some k) ≡ a → is_text (some k) ≡ b → Adds (some k) (cond a Sort.Items (cond b Sort.Text Sort.Plain))
      known-one k x true b ia ib =
          let o : opens tag ≡ true = sym (items-opens p tag) ∙ (ap is_items x ∙ ia) in
          (ia, λ at u. rw ia (one-adds es p tag at body u (refolded es [] tag u) (rw o)))
      known-one k x false true ia ib =
          let o : opens tag ≡ false = sym (items-opens p tag) ∙ (ap is_items x ∙ ia) in
          λ at u. rw ia (one-adds es p tag at body end (folded es body) (rw (o, ap is_text x ∙ ib)))
      known-one k x false false ia ib =
          let o : opens tag ≡ false = sym (items-opens p tag) ∙ (ap is_items x ∙ ia) in
          λ at u. rw ia (one-adds es p tag at body end body (rw (o, ap is_text x ∙ ib)))

      go : (k : Option Kind) → known p tag ≡ k → Adds k (sort_of k)
      go none x = λ at u. refolded-end es p
      go (some k) x = known-one k x (is_items (some k)) (is_text (some k)) refl refl

-- ---- the ways of `emit_item`

-- a header laid, and then a body of that size
pub placed-framed : (tag n : ℕ) (body before mid after : List ℕ) (at r q : ℕ) → n ≡ length body → Placed (tag ∷ length_field n) before mid at r → Placed body mid after r q → Placed (framed tag body) before after at q
unfolding framed
placed-framed tag n body before mid after at r q e x y =
    subst (λ m. Placed ((tag ∷ length_field m) ++ body) before after at q) e (placed-join (tag ∷ length_field n) body before mid after at r q x y)

module _ (es : Entries) (p tag left : ℕ) (body : List ℕ) (h : length body < 32_768) (before : List ℕ) (at : ℕ) (s : Sort) (e : s ≡ sort_of (known p tag)) where
  pub emit-nothing : s ≡ Sort.Nothing → ItemEmitted es p tag left body before before at at
  emit-nothing q = record {
    long = refl;
    told = λ depth offset u l a. subst (λ o. Placed o before before at at) (sym (subst (Adds es p tag body s e (known p tag)) q (adds es p tag body s e) offset u)) (placed-none before at);
  }

  module _ (mid after : List ℕ) (r q : ℕ) where
    pub emit-plain : s ≡ Sort.Plain → Placed (tag ∷ length_field (length body)) before mid at r → Placed body mid after r q → ItemEmitted es p tag left body before after at q
    emit-plain z x y = record {
      long = y.long ∙ x.long;
      told = λ depth offset u l a. subst (λ o. Placed o before after at q) (sym (subst (Adds es p tag body s e (known p tag)) z (adds es p tag body s e) offset u))
          (placed-framed tag (length body) body before mid after at r q refl x y);
    }

    module _ (n : ℕ) where
      pub emit-text : s ≡ Sort.Text → n ≡ length (folded es body) → Placed (tag ∷ length_field n) before mid at r → Placed (folded es body) mid after r q → ItemEmitted es p tag left body before after at q
      emit-text z f x y = record {
        long = y.long ∙ x.long;
        told = λ depth offset u l a. subst (λ o. Placed o before after at q) (sym (subst (Adds es p tag body s e (known p tag)) z (adds es p tag body s e) offset u))
            (placed-framed tag n (folded es body) before mid after at r q f x y);
      }

      module _ (z : s ≡ Sort.Items) (d : left ≡ 0 → ⊥) (m : ItemsSized es tag (left - 1) body n) where
        pub emit-inside : Placed (tag ∷ length_field n) before mid at r → ItemsEmitted es tag (left - 1) body mid after r q → ItemEmitted es p tag left body before after at q
        emit-inside x y = record {
          long = y.long ∙ x.long;
          told = λ depth offset u l a.
              let k = subst (Adds es p tag body s e (known p tag)) z (adds es p tag body s e) in
              let o = a k.0 in
              subst (λ w. Placed w before after at q) (sym (k.1 offset u))
              (placed-framed tag n (refolded es [] tag u) before mid after at r q (m.told (depth + 1) offset u (omega (arith, o.0)) o.1) x (y.told (depth + 1) offset u (omega (arith, o.0)) o.1));
        }

  pub emit-deep : s ≡ Sort.Items → left ≡ 0 → ItemEmitted es p tag left body before before at at
  emit-deep z d = record {
    long = refl;
    told = λ depth offset u l a. absurd (omega (arith, (a (subst (Adds es p tag body s e (known p tag)) z (adds es p tag body s e)).0).0));
  }

  pub emit-size : (n : ℕ) → n ≡ length (folded es body) → n < 65_536
  emit-size n f = omega (arith, folded-shorter es body)

-- ---- the loop of `emit_items`

pub record Going (es : Entries) (p depth offset : ℕ) (part : List ℕ) (whole : Items) (before out : List ℕ) (at stop i : ℕ) : Type 0 where
  pub rest : Items
  pub done : List ℕ
  pub accepts : Accepts p depth (offset + i) (drop i part) rest
  pub octets : refolded es [] p whole ≡ done ++ refolded es [] p rest
  pub lays : Placed done before out at stop

pub record Emitting (es : Entries) (p left : ℕ) (part before out : List ℕ) (at stop i : ℕ) : Type 0 where
  pub inside : i ≤ length part
  pub long : length out ≡ length before
  pub goes : (depth offset : ℕ) (t : Items) → depth + left ≡ 17 → Accepts p depth offset part t → Going es p depth offset part t before out at stop i

pub begin : (es : Entries) (p left : ℕ) (part before : List ℕ) (at : ℕ) → Emitting es p left part before before at at 0
begin es p left part before at = record {
  inside = omega arith;
  long = refl;
  goes = λ depth offset t l a. record { rest = t; done = []; accepts = rw add-zero a; octets = refl; lays = placed-none before at };
}

module _ (es : Entries) (p left : ℕ) (part before out : List ℕ) (at stop i : ℕ) (inv : Emitting es p left part before out at stop i) where
  pub ended : length part ≤ i → ItemsEmitted es p left part before out at stop
  ended h = record {
    long = inv.long;
    told = λ depth offset t l a.
        let g = inv.goes depth offset t l a in
        let e : g.rest ≡ end = opened-end p depth (offset + i) g.rest (rw (drop_of_length-le part h) at g.accepts) in
        let o : refolded es [] p t ≡ g.done = g.octets ∙ (ap (λ y. g.done ++ refolded es [] p y) e ∙ (ap (λ y. g.done ++ y) (refolded-end es p) ∙ append-nil g.done)) in
        subst (λ w. Placed w before out at stop) (sym o) g.lays;
  }

  module _ (h : i < length part) (r : Optional Lies) (re : r ≡ lies_at part i) where
    pub no_item : r ≡ None → ItemsEmitted es p left part before out at stop
    no_item q = record {
      long = inv.long;
      told = λ depth offset t l a. absurd (lies-inside part i r re h q p depth (offset + i) (inv.goes depth offset t l a).rest (inv.goes depth offset t l a).accepts);
    }

    module _ (from to : ℕ) (q : r ≡ Some (from_to from to)) where
      pub here : Lying part i from to
      here = lying part i r re from to q

      near : (i + 2 ≤ from) × (from ≤ to) × (to ≤ length part)
      near = bounds here inv.inside

      abbrev tag : ℕ
      tag = get_or part i 0

      abbrev body : List ℕ
      body = take (to - from) (drop from part)

      pub body-few : length part < 32_768 → length body < 32_768
      body-few f = omega (arith, length_part part from (to - from) (omega (arith, near)), near)

      module _ (out' : List ℕ) (stop' : ℕ) (m : ItemEmitted es p tag left body out out' stop stop') where
        pub again : Emitting es p left part before out' at stop' to
        again = record {
          inside = near.2;
          long = m.long ∙ inv.long;
          goes = λ depth offset t l a.
              let g = inv.goes depth offset t l a in
              let o = met here inv.inside h p depth offset g.rest g.accepts in
              let own = m.told depth (offset + from) o.u l (λ k. (o.deep k, o.inside k)) in
              let one = refolded es [] p (share (known p tag) tag (offset + from) body o.u end) in
              record {
                rest = o.v;
                done = g.done ++ one;
                accepts = o.after;
                octets = g.octets ∙ (ap (λ y. g.done ++ y) (ap (refolded es [] p) o.tree ∙ share-adds es p tag (offset + from) body (known p tag) o.u o.v)
                    ∙ sym (append_assoc g.done one (refolded es [] p o.v)));
                lays = placed-join g.done one before out out' at stop stop' g.lays own;
              };
        }
