-- An item's own rules, 2 to 13, on each way through the code's tests.
use mathlib.Core.Path.{◌≡◌, refl, sym, ap, ◌∙◌}
use mathlib.Core.Bool.{Bool, true, false, not, ◌&&◌, ◌||◌}
use mathlib.Core.Option.{Option, some}
use mathlib.Core.List.{List}
use Prim.Native.Nat.{ℕ, ◌+◌, ◌-◌, ◌≤◌, ◌<◌}
use native.Mathlib.Omega.{arith}
use native.Mathlib.Nat.{add-sub_cancel_left}
use lib.Dec.{eqb, leb, ltb}
use lib.ListN.{length, get_or, take, drop}
use borrow.Author.Tests.{le-leb, lt-leb, ltb-true, ltb-false}
use Rattle.octets.specs.Header.{header_size, body_size}
use Rattle.octets.proofs.Frames.{header-two}
use Rattle.octets.proofs.Answers.{header-found, header-past}
use Rattle.text.specs.Tokens.{entries}
use Rattle.values.specs.Table.{known}
use Rattle.format.specs.declared.Refusal.{Refusal}
use Rattle.format.specs.Answers.{refusal}
use Rattle.format.specs.Judge.{allowed, stage_after, rule, first, item_rules, own}
use Rattle.format.proofs.Rules.{first_one}
use Rattle.octets.specs.Calls.{header_of, span}
use Rattle.octets.specs.declared.Span.{Span}
use Rattle.values.specs.Calls.{known_kind}
use Rattle.values.specs.declared.Kind.{Kind}
use Rattle.tags.proofs.Masks.{marked}
use Rattle.judge.specs.Says.{ctx, depth_of, as_kind, checked, sorted, Framed, ItemSays, own_of, OwnIs, after, Says}
use Rattle.std.specs.Prelude.{Result, Ok, Err, ⊤, Some, None, Option as Optional}
use Rattle.judge.specs.declared.Progress.{Progress}
use Rattle.judge.specs.declared.Sort.{Sort}
use Rattle.judge.proofs.ItemWays.{kind-known}

-- the header of a part
pub framed : (s : List ℕ) (r : Optional Span) (start size : ℕ) → r ≡ header_of s → r ≡ Some (span start size) → Framed s start size
framed s r start size e f = let h = header-found s r e start size f in record { is_start = sym h.header; is_size = sym h.body; in_part = omega arith }

pub start-two : (s : List ℕ) (start size : ℕ) → Framed s start size → 2 ≤ start
start-two s start size f = omega (arith, header-two s)

not-trails : (p w room : ℕ) → (not (eqb p 0) || leb room w) ≡ not (eqb p 0 && ltb w room)
not-trails p w room = go (eqb p 0) (ltb w room) refl
  where
    go : (a b : Bool) → ltb w room ≡ b → (not a || leb room w) ≡ not (a && b)
    go true true h = lt-leb room w (ltb-true w room h)
    go true false h = le-leb room w (ltb-false w room h)
    go false b h = refl

module _ (parent left : ℕ) (progress : Progress) (table : List ℕ) (place : ℕ) (s : List ℕ) where
  abbrev R : Option Refusal → Type 0
  R = OwnIs parent left progress table place s

  pub own-2 : (r : Optional Span) → r ≡ header_of s → r ≡ None → (x : Refusal) → x ≡ refusal 2 place → R (some x)
  unfolding OwnIs own_of own first rule
  own-2 r e f x m seen waiting z = rw (m, lt-leb (header_size s) (length s) (header-past s r e f))

  module _ (start size : ℕ) (fr : Framed s start size) where
    head_in : leb (header_size s) (length s) ≡ true
    head_in = le-leb (header_size s) (length s) (omega arith)

    pub own-3 : length s - start < size → (x : Refusal) → x ≡ refusal 3 place → R (some x)
    unfolding OwnIs own_of own first rule
    own-3 h x m seen waiting z = rw (m, head_in, lt-leb (header_size s + body_size s) (length s) (omega arith))

    pub own-octet : 0 < length s
    own-octet = omega (arith, header-two s)

    module _ (h : size ≤ length s - start) where
      own-to : start + size ≤ length s
      own-to = omega (arith, fr.in_part)

      module _ (tag : ℕ) (t : tag ≡ get_or s 0 0) (a : Bool) (b : a ≡ allowed parent tag) where
        body-in : leb (header_size s + body_size s) (length s) ≡ true
        body-in = le-leb (header_size s + body_size s) (length s) (omega arith)

        pub own-4 : a ≡ false → (x : Refusal) → x ≡ refusal 4 place → R (some x)
        unfolding OwnIs own_of own first rule
        own-4 i x m seen waiting z = rw (m, head_in, body-in, ap (allowed parent) (sym t) ∙ sym b ∙ i)

        module _ (i : a ≡ true) (v : Bool) (j : v ≡ (eqb parent 0 && ltb (start + size) (length s))) where
          five : (not (eqb parent 0) || leb (length s) (header_size s + body_size s)) ≡ not v
          five = rw (fr.is_start, fr.is_size) (not-trails parent (start + size) (length s) ∙ ap not (sym j))

          whole-at : place + header_size s + body_size s ≡ place + (start + size)
          whole-at = omega arith

          pub own-5 : v ≡ true → (x : Refusal) → x ≡ refusal 5 (place + (start + size)) → R (some x)
          unfolding OwnIs own_of own first rule
          own-5 k x m seen waiting z = rw (m, head_in, body-in, ap (allowed parent) (sym t) ∙ sym b ∙ i, five ∙ ap not k) (ap (λ (y : ℕ). some (refusal 5 y)) whole-at)

          module _ (k : v ≡ false) (w : Result ⊤ Refusal)
              (l : ItemSays parent tag left progress place table (take (start + size - start) (drop start s)) w) where
            all : R (checked w)
            unfolding OwnIs own_of own first rule ItemSays
            all seen waiting z =
                rw (head_in, body-in, ap (allowed parent) (sym t) ∙ sym b ∙ i, five ∙ ap not k, fr.is_start, fr.is_size)
                (first_one (item_rules (ctx parent (depth_of left) progress.stage seen (entries table) waiting) place (get_or s 0 0) (take size (drop start s)))
                ∙ rw (← t) (rw (add-sub_cancel_left) at (l seen waiting z)))

            pub own-bad : (r : Refusal) → w ≡ Err r → R (some r)
            unfolding checked
            own-bad r q = rw q at all

            pub own-good : w ≡ Ok tt → (kd : Optional Kind) → kd ≡ known_kind parent tag → (sort : Sort) → sort ≡ sorted (as_kind kd)
                → (next : Progress) → next ≡ after tag progress
                → Says R parent progress s (Ok (record { sort = sort; start = start; size = size; next = next }))
            unfolding checked after
            own-good q kd ke sort se next ne = (
              rw q at all,
              record {
                framed = fr;
                fits = own-to;
                sorts = se ∙ ap sorted (kind-known kd parent tag ke) ∙ ap (λ (x : ℕ). sorted (known parent x)) t;
                stages = ap (λ (p : Progress). p.stage) ne ∙ ap stage_after t;
                seens = λ seen z. rw (ne, ← t) (marked parent progress.mask tag seen z);
              },
            )

pub ruleset own-ways = (own-2, own-3, own-4, own-5, own-bad, own-good, own-octet, framed)
