-- Request 2026-02: from the call's claim, and from the theorems of the crate xml.
use Rattle.std.specs.Prelude.{Result, Ok, Err}
use mathlib.Core.Path.{◌≡◌, refl, sym, ap, ◌∙◌, subst}
use mathlib.Core.Bool.{Bool, true, false, cond}
use mathlib.Core.Logic.{◌↔◌}
use mathlib.Core.Option.{Option, none, some, some-injective, none-ne-some}
use mathlib.Core.List.{List, []}
use Prim.Native.Nat.{ℕ, ◌≤◌, ◌<◌}
use native.Mathlib.Omega.{arith}
use lib.Dec.{leb}
use lib.ListN.{length, drop}
use lib.Seq.{sets}
use borrow.Author.Tests.{leb-true, leb-false}
use Rattle.octets.specs.declared.counts.Octets.{Octets as OctetCount}
use Rattle.octets.specs.Counts.{size_of}
use Rattle.octets.specs.Numbers.{among, Octets}
use Rattle.octets.proofs.Lists.{sets-none, drop-sets}
use Rattle.octets.proofs.Tests.{never}
use Rattle.format.specs.declared.Refusal.{Refusal}
use Rattle.format.specs.Answers.{refusal, write_outcome}
use Rattle.format.specs.Tree.{Items}
use Rattle.format.specs.Judge.{Judged, judge}
use Rattle.format.specs.Judge.Judged.{refused, accepted}
use Rattle.format.specs.Meaning.{meaning_of}
use Rattle.survey.specs.First.{first_in, item_at}
use Rattle.survey.proofs.Once.{first-place}
use Rattle.xml.specs.Xml.{xml}
use Rattle.xml.specs.Named.{plain_here, plain_at, Named}
use Rattle.xml.specs.Export.{unless_plain, export_of, export_answer, export_octets}
use Rattle.xml.proofs.Dates.{local-year}
use Rattle.xml.proofs.Escapes.{read_back, escaped-inert}
use Rattle.xml.proofs.NamedOnly.{named-exactly, plain-inside}
use Rattle.xml.proofs.Objects.{exports-exactly, export-text}
use Rattle.xml.proofs.Singled.{in-xml, text-value, text_in-parts}
use Rattle.demands.specs.One.{Ends}
use Rattle.demands.specs.One.OfCall.{of_call}
use Rattle.demands.specs.One.Refuses.{for_object, for_call}
use Rattle.demands.specs.One.Ends.{answered, refused_at}
use Rattle.demands.specs.Xml.{ExportRefuses, ExportEnds, ExportOrder, ExportInOrder, XmlExactly, XmlText, XmlReadBack, LocalYears, ItemAsInXml, TextAsInXml}
use Rattle.demands.specs.Xml.ExportRefuses.{as_others, for_plain}
use Rattle.demands.proofs.Laws.{of-object}

-- ---- the four ways in which a call ends

data Exports (object : List ℕ) (room : OctetCount) : Judged → Result OctetCount Refusal → List ℕ → Type 0 where
  bad : {r : Refusal} → Exports object room (refused r) (Err r) []
  plain : {t : Items} (place : ℕ) → plain_at object ≡ some place → Exports object room (accepted t) (Err (refusal 17 place)) []
  large : {t : Items} → plain_at object ≡ none → room.0 < length (xml (meaning_of t)) → Exports object room (accepted t) (Err (refusal 15 0)) []
  good : {t : Items} → plain_at object ≡ none → length (xml (meaning_of t)) ≤ room.0
      → Exports object room (accepted t) (Ok (size_of (xml (meaning_of t)))) (xml (meaning_of t))

exports : (object : List ℕ) (room : OctetCount) (j : Judged) → Exports object room j (export_answer room (export_of object j)) (export_octets room (export_of object j))
unfolding export_of unless_plain export_answer export_octets
exports object room (refused r) = bad
exports object room (accepted t) = go (plain_at object) refl
  where
    x : List ℕ
    x = xml (meaning_of t)

    fits : plain_at object ≡ none → (b : Bool) → leb (length x) room.0 ≡ b
        → Exports object room (accepted t) (cond b (Ok (size_of x)) (Err (refusal 15 0))) (cond b x [])
    fits p true e = good p (leb-true (length x) room.0 e)
    fits p false e = large p (leb-false (length x) room.0 e)

    go : (p : Option ℕ) → plain_at object ≡ p → Exports object room (accepted t) (export_answer room (unless_plain p x)) (export_octets room (unless_plain p x))
    go none e = fits e (leb (length x) room.0) refl
    go (some place) e = plain place e

-- ---- how it ends

pub export-ends : ExportEnds
unfolding among
export-ends object before after answer c =
    subst (λ a. Ends (ExportRefuses object) (after ≡ before) (write_outcome a)) (sym c.answers) (go (judge object) refl _ _ (exports object (size_of before) (judge object)) c.leaves)
  where
    kept : (o : List ℕ) → o ≡ [] → after ≡ sets before 0 o → after ≡ before
    kept o e l = l ∙ ap (sets before 0) e ∙ sets-none before 0

    go : (j : Judged) → judge object ≡ j → (a : Result OctetCount Refusal) (o : List ℕ) → Exports object (size_of before) j a o → after ≡ sets before 0 o
        → Ends (ExportRefuses object) (after ≡ before) (write_outcome a)
    go (refused r) h a o bad l = refused_at r.number r.place r.field (as_others r.number r.place r.field (for_object r.number r.place r.field (of-object object r h))) (kept [] refl l)
    go (accepted t) h a o (plain place p) l = refused_at 17 place 0 (for_plain place (plain-inside object place p)) (kept [] refl l)
    go (accepted t) h a o (large p q) l = refused_at 15 0 0 (as_others 15 0 0 (for_call 15 0 0 (of_call 15 refl))) (kept [] refl l)
    go (accepted t) h a o (good p q) l = answered (length (xml (meaning_of t))) 0

-- ---- in which order it refuses

-- the first item of plain octets, by its place
plain-place : (object : List ℕ) → Octets object → (t : Items) → judge object ≡ accepted t → (place : ℕ) → plain_at object ≡ some place ↔ first_in plain_here 0 t ≡ some (item_at object place)
unfolding plain_at
plain-place = first-place plain_here

module _ (object : List ℕ) (os : Octets object) (room : OctetCount) (j : Judged) (judged : judge object ≡ j) (answer : Result OctetCount Refusal) where
  refusing : (s : Refusal) → j ≡ refused s → s.number ≤ 13 → answer ≡ Err s → ExportOrder object j room answer
  refusing s h low e = record {
    of_object = λ r l. ((λ q. cc), (λ q. cc));
    seventeen = λ place. ((λ q. let p : s ≡ refusal 17 place = cc in absurd (omega (arith, ap (λ x. x.number) p))), (λ q. never (let p = q.1 in cc)));
    fifteen = ((λ q. let p : s ≡ refusal 15 0 = cc in absurd (omega (arith, ap (λ x. x.number) p))), (λ q. never (let p = q.1 in cc)));
    octets = λ k. ((λ q. never (cc)), (λ q. never (let p = q.1 in cc)));
  }

  module _ (t : Items) (h : j ≡ accepted t) where
    tree : judge object ≡ accepted t
    tree = judged ∙ h

    same-tree : (u : Items) → j ≡ accepted u → u ≡ t
    same-tree u e = cc

    plainly : (place : ℕ) → plain_at object ≡ some place → answer ≡ Err (refusal 17 place) → ExportOrder object j room answer
    plainly place p e = record {
      of_object = λ r l. ((λ q. let w : refusal 17 place ≡ r = cc in absurd (omega (arith, ap (λ x. x.number) w))), (λ q. never (cc)));
      seventeen = λ other. (
        (λ q. let w : refusal 17 place ≡ refusal 17 other = cc in (t, h, (plain-place object os t tree other).0 (p ∙ ap some (ap (λ x. x.place) w)))),
        (λ q.
            let f = subst (λ x. first_in plain_here 0 x ≡ some (item_at object other)) (same-tree q.0 q.1) q.2 in
            e ∙ ap (λ x. Err (refusal 17 x)) (some-injective place other (sym p ∙ (plain-place object os t tree other).1 f))),
      );
      fifteen = ((λ q. let w : refusal 17 place ≡ refusal 15 0 = cc in absurd (omega (arith, ap (λ x. x.number) w))), (λ q. absurd (unnamed q.0 q.1 q.2)));
      octets = λ k. ((λ q. never (cc)), (λ q. absurd (unnamed q.0 q.1 q.2)));
    }
      where
        unnamed : (u : Items) → j ≡ accepted u → Named (meaning_of u) → ⊥
        unnamed u g n = none-ne-some place (sym ((named-exactly object t tree).1 (subst (λ x. Named (meaning_of x)) (same-tree u g) n)) ∙ p)

    nowhere : plain_at object ≡ none → (place : ℕ) (u : Items) → j ≡ accepted u → first_in plain_here 0 u ≡ some (item_at object place) → ⊥
    nowhere p place u g f = none-ne-some place (sym p ∙ (plain-place object os t tree place).1 (subst (λ x. first_in plain_here 0 x ≡ some (item_at object place)) (same-tree u g) f))

    longer : plain_at object ≡ none → room.0 < length (xml (meaning_of t)) → answer ≡ Err (refusal 15 0) → ExportOrder object j room answer
    longer p l e = record {
      of_object = λ r m. ((λ q. let w : refusal 15 0 ≡ r = cc in absurd (omega (arith, ap (λ x. x.number) w))), (λ q. never (cc)));
      seventeen = λ place. ((λ q. let w : refusal 15 0 ≡ refusal 17 place = cc in absurd (omega (arith, ap (λ x. x.number) w))), (λ q. absurd (nowhere p place q.0 q.1 q.2)));
      fifteen = ((λ q. (t, h, (named-exactly object t tree).0 p, l)), (λ q. e));
      octets = λ k. ((λ q. never (cc)), (λ q. let w = ap (λ x. length (xml (meaning_of x))) (same-tree q.0 q.1) in absurd (omega (arith, ap (λ n. n.0) q.3, q.4))));
    }

    fitting : plain_at object ≡ none → length (xml (meaning_of t)) ≤ room.0 → answer ≡ Ok (size_of (xml (meaning_of t))) → ExportOrder object j room answer
    fitting p l e = record {
      of_object = λ r m. ((λ q. never (cc)), (λ q. never (cc)));
      seventeen = λ place. ((λ q. never (cc)), (λ q. absurd (nowhere p place q.0 q.1 q.2)));
      fifteen = ((λ q. never (cc)), (λ q. let w = ap (λ x. length (xml (meaning_of x))) (same-tree q.0 q.1) in absurd (omega (arith, q.3))));
      octets = λ k. (
        (λ q. let w : k ≡ size_of (xml (meaning_of t)) = cc in (t, h, (named-exactly object t tree).0 p, w, omega (arith, ap (λ n. n.0) w))),
        (λ q. e ∙ ap Ok (ap (λ x. size_of (xml (meaning_of x))) (sym (same-tree q.0 q.1)) ∙ sym q.3)),
      );
    }

  ordered : (i : Judged) → j ≡ i → (a : Result OctetCount Refusal) → answer ≡ a → (o : List ℕ) → Exports object room i a o → ExportOrder object j room answer
  ordered (refused s) h a e o bad = refusing s h (of-object object s (judged ∙ h)).most e
  ordered (accepted t) h a e o (plain place p) = plainly t h place p e
  ordered (accepted t) h a e o (large p l) = longer t h p l e
  ordered (accepted t) h a e o (good p l) = fitting t h p l e

pub export-in-order : ExportInOrder
export-in-order object os before after answer c =
    ordered object os (size_of before) (judge object) refl answer (judge object) refl _ c.answers _ (exports object (size_of before) (judge object))

-- ---- what it hands out

pub xml-exactly : XmlExactly
xml-exactly a b oa ob t u h g room_a room_a' answer_a c enough_a room_b room_b' answer_b d enough_b =
    exports-exactly a b t u oa ob h g room_a room_a' room_b room_b' answer_a answer_b c d enough_a enough_b

pub xml-text : XmlText
xml-text object os before after n c = (export-text object os before after n c, go (judge object) (export_answer (size_of before) (export_of object (judge object))) _ (exports object (size_of before) (judge object)) c.answers c.leaves)
  where
    go : (j : Judged) (a : Result OctetCount Refusal) (o : List ℕ) → Exports object (size_of before) j a o → Ok n ≡ a → after ≡ sets before 0 o
        → drop n.0 after ≡ drop n.0 before
    go (refused r) a o bad e l = never (cc)
    go (accepted t) a o (plain place p) e l = never (cc)
    go (accepted t) a o (large p q) e l = never (cc)
    go (accepted t) a o (good p q) e l = let w : n ≡ size_of (xml (meaning_of t)) = cc in let z : n.0 ≡ length (xml (meaning_of t)) = ap (λ k. k.0) w in ap (drop n.0) l ∙ drop-sets n.0 before 0 (xml (meaning_of t)) (omega arith)

pub xml-read-back : XmlReadBack
xml-read-back s = (escaped-inert s, read_back s)

pub local-years : LocalYears
local-years = local-year

pub item-as-in-xml : ItemAsInXml
item-as-in-xml = in-xml

pub text-as-in-xml : TextAsInXml
text-as-in-xml parent tag h table one other = (text-value parent tag h table one, text_in-parts parent tag h table one other)
