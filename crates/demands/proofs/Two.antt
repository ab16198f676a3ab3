-- Demand 2: from the claims, with the grammar's agreement with the judgement.
use Rattle.std.specs.Prelude.{Ok, Err}
use mathlib.Core.Path.{◌≡◌, refl, sym, ap, ap₂, ◌∙◌, subst}
use mathlib.Core.List.{List, [], ◌++◌}
use Prim.Native.Nat.{ℕ, ◌+◌, ◌≤◌, ◌<◌, min}
use native.Mathlib.Nat.{zero-add, min-le_right, le-min}
use native.Mathlib.Omega.{arith}
use lib.ListN.{length, take, drop, get_or}
use lib.Seq.{sets}
use borrow.Author.Tests.{le-leb}
use Rattle.octets.specs.Counts.{size_of}
use Rattle.octets.proofs.Numbers.{octets-take}
use Rattle.octets.proofs.Tests.{never}
use Rattle.format.specs.declared.Refusal.{Refusal}
use Rattle.format.specs.declared.Counts.{Counts}
use Rattle.format.specs.Tree.{Items, count, records_of, bodies_of}
use Rattle.format.specs.Judge.{Judged, judge}
use Rattle.format.specs.Judge.Judged.{refused, accepted}
use Rattle.format.specs.Headers.{headers_of}
use Rattle.format.specs.Meaning.{means, table_of, encode}
use Rattle.format.specs.Writer.{tabled}
use Rattle.format.specs.Calls.{Lists, row, places, lay, counts_of, judge_answer, read_records, span_of, body_at}
use Rattle.format.specs.State.{body_sizes}
use Rattle.state.specs.Taking.{WriteClaim}
use Rattle.format.proofs.Lays.{places-lay, within-places, row-lay-behind, tabled-laid, get_d-tabled}
use Rattle.format.proofs.Spans.{Part, part-span, Located, located, records-count, Bodied, bodied-length, bodied-at, records-bodied}
use Rattle.format.proofs.Regrown.{shaped, regrows-all, regrown-means}
use Rattle.grammar.specs.Grammar.{Accepts}
use Rattle.grammar.proofs.Sound.{sound, one-tree as agree-one-tree}
use Rattle.grammar.proofs.Complete.{complete}
use Rattle.reader.proofs.Parts.{inside as span-is}
use Rattle.writer.proofs.Theorems.{delivered}
use Rattle.demands.specs.One.{ReadOrder}
use Rattle.demands.specs.Two.{AcceptedExactly, ReadExactly, JudgedExactly, OneTree, BodiesFound, HandedOut, TreeHandedOut, SliceHandedOut, WrittenReadsBack}
use Rattle.demands.proofs.Laws.{of-object, lists-given, located-lies, has-meaning}
use Rattle.demands.proofs.One.{read-in-order, read-records-in-order, write-in-order}

pub accepted-exactly : AcceptedExactly
accepted-exactly object os before after answer c = (
  (λ calm. go calm (judge object) refl),
  (λ a r l e. never (let h : judge object ≡ refused r = (order.of_object r l).0 e in let g = sound object a.0 a.1 in cc)),
)
  where
    order : ReadOrder (judge object) (places before) (headers_of object) answer
    order = read-in-order object before after answer c

    go : ((r : Refusal) → r.number ≤ 13 → answer ≡ Err r → ⊥) → (j : Judged) → judge object ≡ j → (t : Items) × Accepts object t
    go calm (refused r) h = let l = (of-object object r h).most in absurd (calm r l ((order.of_object r l).1 h))
    go calm (accepted t) h = (t, complete object t os h)

pub read-exactly : ReadExactly
read-exactly object os before after answer c n items =
    let order = read-in-order object before after answer c in (
      (λ e. let f = (order.records n items).0 e in (f.0, complete object f.0 os f.1, f.2, f.3, f.4)),
      (λ a. (order.records n items).1 (a.0, sound object a.0 a.1, a.2, a.3, a.4)),
    )

pub judged-exactly : JudgedExactly
unfolding judge_answer
judged-exactly object os answer e n items = (
  (λ q. go (judge object) refl (sym q ∙ e)),
  (λ a. e ∙ ap (judge_answer (headers_of object)) (sound object a.0 a.1) ∙ ap₂ (λ k i. Ok (record { records = k; items = i })) (sym a.2) (sym a.3)),
)
  where
    go : (j : Judged) → judge object ≡ j → Ok (record { records = n; items = items }) ≡ judge_answer (headers_of object) j
        → (t : Items) × Accepts object t × (n ≡ count t) × (items ≡ headers_of object)
    go (refused r) h q = never (cc)
    go (accepted t) h q =
        let w : ◌≡◌ {A = Counts} (record { records = n; items = items }) (counts_of (headers_of object) t) = cc in
        (t, complete object t os h, ap (λ x. x.records) w, ap (λ x. x.items) w)

pub one-tree : OneTree
one-tree = agree-one-tree

-- the records of an object that has places for them
pub records-read : (m : ℕ) (t : Items) → count t ≤ m → read_records m (accepted t) ≡ records_of t
unfolding read_records
records-read m t l = rw (le-leb (count t) m l)

-- each number finds its record's span, and the body of its item
module _ (object : List ℕ) (t : Items) (lies : Located object t) (lists : Lists) (n : ℕ) (many : n ≡ count t) (room : n ≤ places lists)
    (stand : tabled (row lists) n 0 ≡ records_of t) where
  bodied : Bodied object (records_of t) (bodies_of t)
  bodied = records-bodied object t lies 1 0 0

  record-lies : (i : ℕ) → i < n → Part object (row lists i).start (get_or (bodies_of t) i []) × ((row lists i).size ≡ length (get_or (bodies_of t) i []))
  record-lies i h =
      let is = sym (ap (λ rs. get_or rs i (row lists i)) stand) ∙ get_d-tabled (row lists) n 0 i (row lists i) h ∙ ap (row lists) (zero-add i) in
      let listed : i < length (records_of t) = omega (arith, records-count t 1 0 0) in
      subst (λ r. Part object r.start (get_or (bodies_of t) i []) × (r.size ≡ length (get_or (bodies_of t) i []))) is (bodied-at bodied i (row lists i) listed)

  span-found : (i : ℕ) → i < n → span_of object lists.starts lists.sizes i ≡ record { start = (row lists i).start; size = (row lists i).size }
  span-found i h =
      let p = record-lies i h in
      let w = within-places i lists (omega arith) in
      let fits : (row lists i).start + (row lists i).size ≤ length object = omega (arith, p.1, (part-span object (row lists i).start (get_or (bodies_of t) i []) p.0).0) in
      sym (span-is object lists.starts lists.sizes i w.starts w.sizes fits)

  body-found : (i : ℕ) → i < n → body_at object (span_of object lists.starts lists.sizes i) ≡ get_or (bodies_of t) i []
  unfolding body_at
  body-found i h =
      let p = record-lies i h in
      ap (body_at object) (span-found i h) ∙ ap (λ k. take k (drop (row lists i).start object)) p.1 ∙ (part-span object (row lists i).start (get_or (bodies_of t) i []) p.0).1

  pub bodies-found : BodiesFound object t lists n
  bodies-found = record { many = sym (bodied-length bodied) ∙ records-count t 1 0 0 ∙ sym many; span = span-found; body = body-found }

-- what stands in lists over which the records of an accepted object are laid
handed_out : (object : List ℕ) (t : Items) → judge object ≡ accepted t → (before after : Lists) (n : ℕ) → n ≡ count t → n ≤ places before → after ≡ lay 0 (records_of t) before
    → HandedOut object t before after n
handed_out object t h before after n many room laid =
    let long : n ≡ length (records_of t) = many ∙ sym (records-count t 1 0 0) in
    let stand = tabled-laid (records_of t) before after n laid long room in
    let kept : n ≤ places after = omega (arith, ap places laid ∙ places-lay 0 (records_of t) before) in
    record {
      many = many;
      stand = stand;
      behind = λ i l. ap (λ x. row x i) laid ∙ row-lay-behind 0 (records_of t) before i (omega arith);
      lies = located-lies object t (located object t h);
      found = bodies-found object t (located object t h) after n many kept stand;
      regrown = ap (λ x. means (table_of t) x.0) (regrows-all (row after) n object t (shaped object t h) (located object t h) (sym stand) many) ∙ regrown-means t;
    }

pub tree-handed-out : TreeHandedOut
tree-handed-out object os before after n items c t a =
    let h = sound object t a in
    let f = ((read-in-order object before after (Ok (record { records = n; items = items })) c).records n items).0 refl in
    let same : f.0 ≡ t = (let z = f.1 in cc) in
    let many : n ≡ count t = f.2 ∙ ap count same in
    handed_out object t h before after n many f.4 (c.leaves ∙ ap (λ rs. lay 0 rs before) (ap (read_records (places before)) h ∙ records-read (places before) t (omega (arith, f.4))))

pub slice-handed-out : SliceHandedOut
slice-handed-out object os before after slice slice' n items c t a =
    let m = min (length slice) (places before) in
    let h = sound object t a in
    let f = ((read-records-in-order object before after slice slice' (Ok (record { records = n; items = items })) c).records n items).0 refl in
    let same : f.0 ≡ t = (let z = f.1 in cc) in
    let many : n ≡ count t = f.2 ∙ ap count same in
    let handed : read_records m (judge object) ≡ records_of t = ap (read_records m) h ∙ records-read m t (omega (arith, f.4)) in (
      handed_out object t h before after n many (omega (arith, f.4, min-le_right (length slice) (places before))) (c.leaves ∙ ap (λ rs. lay 0 rs before) handed),
      c.fills ∙ ap (λ rs. rs ++ drop (length rs) slice) handed ∙ ap (λ k. records_of t ++ drop k slice) (records-count t 1 0 0 ∙ sym many),
    )

pub written-reads-back : WrittenReadsBack
written-reads-back n memory bodies' before after answer os out c t g room object =
    let k = size_of (encode (means [] t)) in
    let e : answer ≡ Ok k = ((write-in-order n memory bodies' before after answer c).octets k).1 (t, g, refl, le-min room object) in
    let d = delivered n memory bodies' before after os k (subst (WriteClaim n memory bodies' before after) e c) in
    let same : d.tree ≡ t = (let p = d.given in let q = lists-given n memory t g in cc) in
    let m = has-meaning (take k.0 after) (means [] d.tree) d.meant in (
      k,
      e,
      record {
        octets = d.octets ∙ ap (λ x. encode (means [] x)) same;
        again = m.0;
        accepts = complete (take k.0 after) m.0 (octets-take k.0 after out) m.1;
        means-same = m.2 ∙ ap (means []) same;
        behind = d.rest;
      },
      d.sizes ∙ ap (λ x. sets memory.bodies 0 (body_sizes 0 x)) same,
    )
