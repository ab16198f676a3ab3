-- Wrong answers of `export`, of the kind that slips make, each refuted by its claim at an object whose text is computed.
use Rattle.std.specs.Prelude.{Ok, Err}
use mathlib.Core.Path.{◌≡◌, sym, ap, ◌∙◌}
use mathlib.Core.List.{List, []}
use Prim.Native.Nat.{ℕ}
use native.Mathlib.Omega.{arith}
use lib.ListN.{length, get_or}
use Rattle.octets.specs.declared.counts.Octets.{Octets as OctetCount}
use Rattle.format.specs.Answers.{refusal, wrong_value}
use Rattle.show.specs.Lines.{ascii}
use Rattle.xml.specs.Export.{Exported, export_answer, ExportClaim}
use Rattle.xml.specs.Export.Exported.{refuses, shows}
use Rattle.xml.proofs.Examples.{shown_as, plain-id, mistimed, marked, minus-zero, computed}

module _ (before after : List ℕ) where
  -- a text, though plain octets are present
  pub plain-shown : (n : OctetCount) → ExportClaim plain-id before after (Ok n) → ⊥
  unfolding export_answer
  plain-shown n c =
      let w : Ok n ≡ Err (refusal 17 6) = c.answers ∙ ap (export_answer _) computed.of-plain-id in
      let z : ◌≡◌ {A = ℕ} 0 1 = cc in
      omega arith

  -- 17 at the element that holds them, not at their own tag
  pub told-of-element : ExportClaim plain-id before after (Err (refusal 17 4)) → ⊥
  unfolding export_answer
  told-of-element c =
      let w : Err (refusal 17 4) ≡ Err (refusal 17 6) = c.answers ∙ ap (export_answer _) computed.of-plain-id in
      let y : refusal 17 4 ≡ refusal 17 6 = cc in
      omega (arith, ap (λ r. r.place) y)

  -- 15, for want of a room, before 17
  pub room-before-plain : ExportClaim plain-id before after (Err (refusal 15 0)) → ⊥
  unfolding export_answer
  room-before-plain c =
      let w : Err (refusal 15 0) ≡ Err (refusal 17 6) = c.answers ∙ ap (export_answer _) computed.of-plain-id in
      let y : refusal 15 0 ≡ refusal 17 6 = cc in
      omega (arith, ap (λ r. r.number) y)

  -- the refusal of a time without its field
  pub field-left-out : ExportClaim mistimed before after (Err (refusal 9 2)) → ⊥
  unfolding export_answer
  field-left-out c =
      let w : Err (refusal 9 2) ≡ Err (wrong_value 2 3) = c.answers ∙ ap (export_answer _) computed.of-mistimed in
      let y : refusal 9 2 ≡ wrong_value 2 3 = cc in
      omega (arith, ap (λ r. r.field) y)

-- the text that an object is shown as
told : Exported → List ℕ
told (refuses r) = []
told (shows x) = x

-- a quote in a value as it stands
pub quote-left : shown_as marked ≡ shows (ascii "<serviceInformation version=\"7\" creationTime=\"1995-10-10T14:00:00+01:30\" originator=\"a\"&lt;b\"/>") → ⊥
unfolding told ascii
quote-left h = let z : ◌≡◌ {A = ℕ} 100 95 = ap (λ e. length (told e)) (sym computed.of-marked ∙ h) in omega arith

-- the sign of minus 0
pub minus-kept : shown_as minus-zero ≡ shows (ascii "<serviceInformation creationTime=\"1995-10-10T00:00:00-00:00\"/>") → ⊥
unfolding told ascii
minus-kept h = let z : ◌≡◌ {A = ℕ} 0x2B 0x2D = ap (λ e. get_or (told e) 53 0) (sym computed.of-minus-zero ∙ h) in omega arith
