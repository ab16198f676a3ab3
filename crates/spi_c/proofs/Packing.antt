-- What is packed into a number is read back from it.
use mathlib.Core.Path.{◌≡◌, ap, ◌∙◌}
use Prim.Native.Nat.{ℕ, ◌+◌, ◌*◌, ◌/◌, ◌%◌, ◌<◌}
use native.Mathlib.Nat.{div-add-mod', mod-lt, div-lt_iff_lt-mul, div-eq_of_lt-le, mul-add-mod_self_right, mod-eq_of_lt}
use native.Mathlib.Omega.{arith}
use Rattle.format.specs.declared.Span.{Span}
use Rattle.spi_c.specs.Packed.{packed, packed_counts, number_in, object_in, field_in, value_in, second_in, packed_span, span_in, SmallSpan}

module _ (n o f v : ℕ) (small : o < 0x100) (low : f < 0x100) (fits : v < 0x100_0000_0000) where
  pub packed-number : number_in (packed n o f v) ≡ n
  unfolding packed
  packed-number = div-eq_of_lt-le 0x100_0000_0000_0000 (omega arith) (omega arith)

  pub packed-object : object_in (packed n o f v) ≡ o
  unfolding packed
  packed-object =
      let q : packed n o f v / 0x1_0000_0000_0000 ≡ n * 0x100 + o = div-eq_of_lt-le 0x1_0000_0000_0000 (omega arith) (omega arith) in
      ap (λ x. x % 0x100) q ∙ (mul-add-mod_self_right n 0x100 o ∙ mod-eq_of_lt small)

  packed-halves : packed n o f v ≡ ((n * 0x100 + o) * 0x100 + f) * 0x100_0000_0000 + v
  unfolding packed
  packed-halves = omega arith

  pub packed-field : field_in (packed n o f v) ≡ f
  packed-field =
      let q : packed n o f v / 0x100_0000_0000 ≡ (n * 0x100 + o) * 0x100 + f = div-eq_of_lt-le 0x100_0000_0000 (omega (arith, packed-halves)) (omega (arith, packed-halves)) in
      ap (λ x. x % 0x100) q ∙ (mul-add-mod_self_right (n * 0x100 + o) 0x100 f ∙ mod-eq_of_lt low)

  pub packed-value : value_in (packed n o f v) ≡ v
  packed-value = ap (λ x. x % 0x100_0000_0000) packed-halves ∙ (mul-add-mod_self_right ((n * 0x100 + o) * 0x100 + f) 0x100_0000_0000 v ∙ mod-eq_of_lt fits)

-- two counts where nothing is refused
module _ (second count : ℕ) (small : second < 0x1_0000) (fits : count < 0x100_0000_0000) where
  upper : second / 0x100 < 0x100
  upper = (div-lt_iff_lt-mul {k = 0x100} {x = second} {y = 0x100} (omega arith)).1 (omega arith)

  lower : second % 0x100 < 0x100
  lower = mod-lt second (omega arith)

  pub counts-number : number_in (packed_counts second count) ≡ 0
  counts-number = packed-number 0 (second / 0x100) (second % 0x100) count upper lower fits

  pub counts-second : second_in (packed_counts second count) ≡ second
  counts-second =
      rw (packed-object 0 (second / 0x100) (second % 0x100) count upper lower fits, packed-field 0 (second / 0x100) (second % 0x100) count upper lower fits) (div-add-mod' second 0x100)

  pub counts-first : value_in (packed_counts second count) ≡ count
  counts-first = packed-value 0 (second / 0x100) (second % 0x100) count upper lower fits

-- start and size are read back
pub span-back : (s : Span) → SmallSpan s → span_in (packed_span s) ≡ s
unfolding packed_span span_in
span-back s l =
    rw (div-eq_of_lt-le {k = s.start} 0x1_0000_0000 {m = s.start * 0x1_0000_0000 + s.size} (omega arith) (omega arith), mul-add-mod_self_right s.start 0x1_0000_0000 s.size, mod-eq_of_lt l.size)
