-- Where the items of a part lie: the ways through item_at, and what its answer says.
use Rattle.std.specs.Prelude.{Option, Some, None}
use Rattle.octets.specs.Places.{from_to}
use Rattle.octets.specs.Calls.{span}
use mathlib.Core.Path.{◌≡◌, refl, sym, ap, ◌∙◌}
use mathlib.Core.Bool.{Bool, true, false, cond}
use mathlib.Core.List.{List}
use Prim.Native.Nat.{ℕ, ◌+◌, ◌-◌, ◌≤◌, ◌<◌}
use native.Mathlib.Nat.{add-zero}
use native.Mathlib.Omega.{arith}
use lib.Dec.{leb}
use lib.ListN.{length, take, drop, get_or, length-take, length-drop}
use lib.Seq.{drop-drop, get_or-drop}
use borrow.Author.Tests.{leb-true, le-leb, lt-leb}
use Rattle.octets.specs.Numbers.{Octets}
use Rattle.octets.specs.Header.{header_size, body_size}
use Rattle.octets.specs.declared.Span.{Span}
use Rattle.octets.specs.declared.Lies.{Lies}
use Rattle.octets.specs.Calls.{header_of}
use Rattle.octets.specs.Places.{is_whole, lies_in, lies_at, first_body, after_first, between}
use Rattle.octets.proofs.Lists.{part_to_end}
use Rattle.octets.proofs.Numbers.{octets-take, octets-drop}
use Rattle.octets.proofs.Answers.{HeaderFound, header-found, header-past}
use Rattle.octets.proofs.Frames.{header-two}

-- ---- the ways through item_at

pub lies-behind : (part : List ℕ) (at : ℕ) → length part < at → None ≡ lies_at part at
unfolding lies_at lies_in
lies-behind part at h =
    let s = drop at part in
    rw (lt-leb (header_size s + body_size s) (length s) (omega (arith, header-two s, length-drop at part)))

module _ (part : List ℕ) (at : ℕ) (h : at ≤ length part) (r : Option Span) (e : r ≡ header_of (take (length part - at) (drop at part))) where
  abbrev s : List ℕ
  s = drop at part

  here : r ≡ header_of s
  here = e ∙ ap header_of (part_to_end part at)

  pub lies-past : r ≡ None → None ≡ lies_at part at
  unfolding lies_at lies_in
  lies-past q = rw (lt-leb (header_size s + body_size s) (length s) (omega (arith, header-past s r here q)))

  module _ (start size : ℕ) (q : r ≡ Some (span start size)) where
    headed : HeaderFound s start size
    headed = header-found s r here start size q

    pub from-inside : at + start ≤ length part
    from-inside = let k = headed in omega (arith, length-drop at part)

    pub lies-outside : length part - (at + start) < size → None ≡ lies_at part at
    unfolding lies_at lies_in
    lies-outside l = let k = headed in rw (lt-leb (header_size s + body_size s) (length s) (omega (arith, length-drop at part)))

    pub lies-between : size ≤ length part - (at + start) → Some (from_to (at + start) (at + start + size)) ≡ lies_at part at
    unfolding lies_at lies_in
    lies-between l =
        let k = headed in
        rw (le-leb (header_size s + body_size s) (length s) (omega (arith, length-drop at part, from-inside)), k.header, k.body)

-- ---- what its answer says

-- the body of an item lies between two places of a part
pub record Lying (part : List ℕ) (at from to : ℕ) : Type 0 where
  pub begins : from ≡ at + header_size (drop at part)
  pub ends : to ≡ at + header_size (drop at part) + body_size (drop at part)
  pub inside : header_size (drop at part) + body_size (drop at part) ≤ length (drop at part)

module _ (part : List ℕ) (at : ℕ) (r : Option Lies) (e : r ≡ lies_at part at) where
  pub lying : (from to : ℕ) → r ≡ Some (from_to from to) → Lying part at from to
  unfolding lies_at lies_in
  lying from to q = go (leb (header_size s + body_size s) (length s)) refl (sym q ∙ e)
    where
      s : List ℕ
      s = drop at part

      go : (b : Bool) → leb (header_size s + body_size s) (length s) ≡ b → Some (from_to from to) ≡ cond b (Some (from_to (at + header_size s) (at + header_size s + body_size s))) None → Lying part at from to
      go true f p =
          let z : from_to from to ≡ from_to (at + header_size s) (at + header_size s + body_size s) = cc p in
          record { begins = ap (λ b. b.from) z; ends = ap (λ b. b.to) z; inside = leb-true (header_size s + body_size s) (length s) f }
      go false f p = let z : ◌≡◌ {A = ℕ} 0 1 = cc in absurd (omega arith)

  pub not-whole : r ≡ None → is_whole (drop at part) ≡ false
  unfolding lies_at lies_in
  not-whole q = go (is_whole s) (sym q ∙ e)
    where
      s : List ℕ
      s = drop at part

      go : (b : Bool) → None ≡ cond b (Some (from_to (at + header_size s) (at + header_size s + body_size s))) None → b ≡ false
      go true p = let z : ◌≡◌ {A = ℕ} 0 1 = cc in absurd (omega arith)
      go false p = refl

module _ {part : List ℕ} {at from to : ℕ} (k : Lying part at from to) (h : at ≤ length part) where
  pub bounds : (at + 2 ≤ from) × (from ≤ to) × (to ≤ length part)
  bounds = let b = k.begins in let e = k.ends in let i = k.inside in omega (arith, header-two (drop at part), length-drop at part)

  pub to_inside : to ≤ length part
  to_inside = bounds.2

  pub ordered : from ≤ to
  ordered = bounds.1

  pub nearer : length part - to < length part - at
  nearer = omega (arith, bounds)

  pub body_is : first_body (drop at part) ≡ between part from to
  body_is =
      let b = k.begins in
      let e = k.ends in
      let n : to - from ≡ body_size (drop at part) = omega arith in
      rw (n, b) (ap (take (body_size (drop at part))) (drop-drop (header_size (drop at part)) at part))

  pub later-is : after_first (drop at part) ≡ drop to part
  later-is = rw k.ends (simp drop-drop)

  pub tag-is : get_or (drop at part) 0 0 ≡ get_or part at 0
  tag-is = get_or-drop at part 0 0 ∙ ap (λ i. get_or part i 0) (add-zero at)

-- ---- octets as items one behind the other

-- octets are more than the body of their first item, and more than those after it
pub fewer-inside : (s : List ℕ) → 0 < length s → length (first_body s) < length s
fewer-inside s h = omega (arith, length-take (body_size s) (drop (header_size s) s), length-drop (header_size s) s, header-two s)

pub fewer-behind : (s : List ℕ) → 0 < length s → length (after_first s) < length s
fewer-behind s h = omega (arith, length-drop (body_size s) (drop (header_size s) s), length-drop (header_size s) s, header-two s)

-- also where the item is known to be whole
pub fewer-after : (s : List ℕ) → is_whole s ≡ true → length (after_first s) < length s
fewer-after s h = fewer-behind s (omega (arith, leb-true (header_size s + body_size s) (length s) h, header-two s))

pub none-whole : (s : List ℕ) → length s ≤ 0 → is_whole s ≡ false
none-whole s h = lt-leb (header_size s + body_size s) (length s) (omega (arith, header-two s))

-- both parts of octets are octets
pub body-octets : (s : List ℕ) → Octets s → Octets (first_body s)
body-octets s os = octets-take (body_size s) (drop (header_size s) s) (octets-drop (header_size s) s os)

pub later-octets : (s : List ℕ) → Octets s → Octets (after_first s)
later-octets s os = octets-drop (body_size s) (drop (header_size s) s) (octets-drop (header_size s) s os)
