-- Request 2026-11: the check of a packed object, and the plain packer. What they answer is defined in fold/specs; here what that means for whoever uses them.
use Rattle.std.specs.Prelude.{◌≡◌, true, false, ◌↔◌, List, ℕ, ◌≤◌, ◌<◌, length, take, Result, Ok}
use Rattle.std.proofs.Math.Option.{some}
use Rattle.octets.specs.Numbers.{Octets}
use Rattle.octets.specs.declared.counts.Octets.{Octets as OctetCount}
use Rattle.text.specs.Text.{text}
use Rattle.text.specs.Tokens.{expanded}
use Rattle.format.specs.Answers.{write_outcome}
use Rattle.format.specs.Judge.{judge}
use Rattle.format.specs.Meaning.{normal}
use Rattle.format.specs.Same.{same_answer}
use Rattle.format.specs.declared.Refusal.{Refusal}
use Rattle.fold.specs.Packed.{tokens, entries_of, folded, packed}
use Rattle.fold.specs.Calls.{check_answer, PackClaim}
use Rattle.demands.specs.One.{Ends}

-- expanding a folded text gives the text, whatever words are folded, more than sixteen and twice the same too
abbrev pub FoldExpands : Type 0
FoldExpands = (words : List (List ℕ)) (o : List ℕ) → text false o ≡ true → expanded (entries_of tokens words) (folded (entries_of tokens words) o) ≡ o

-- the check passes exactly what is accepted, has that very normal form and isn't longer; that form is an object itself, as everything that is written is
pub record Passable (form proposed : List ℕ) : Type 0 where
  pub own : normal form ≡ some form
  pub has : normal proposed ≡ some form
  pub short : length proposed ≤ length form

abbrev pub CheckExactly : Type 0
CheckExactly = (form proposed : List ℕ) → check_answer form proposed ≡ (Ok tt) ↔ Passable form proposed

-- a form of at most 32,768 octets that an object has is its own, so that of `Passable` only the limit is asked
abbrev pub OwnForm : Type 0
OwnForm = (form proposed : List ℕ) → Octets proposed → normal proposed ≡ some form → length form ≤ 32_768 → normal form ≡ some form

-- whatever the packer hands out passes the check
abbrev pub PackPasses : Type 0
PackPasses =
    (object room room' : List ℕ) (n : OctetCount) → Octets object → PackClaim object room room' (Ok n) → check_answer object (take n.0 room') ≡ Ok tt

-- and is ordinary input: it means what the normal form means, and normalising it gives that form back
pub record AsInput (object given : List ℕ) : Type 0 where
  pub same : same_answer (judge object) (judge given) ≡ Ok true
  pub back : normal given ≡ some object

abbrev pub PackedAsInput : Type 0
PackedAsInput =
    (object room room' : List ℕ) (n : OctetCount) → Octets object → Octets (take n.0 room') → PackClaim object room room' (Ok n)
    → AsInput object (take n.0 room')

-- 22 exactly where the packer is given no normal form; else 15 exactly where the packed object is above the room; both at 0, and the room is then as before
pub data PackRefuses (object room : List ℕ) : ℕ → ℕ → ℕ → Type 0 where
  no_form : (normal object ≡ some object → ⊥) → PackRefuses object room 22 0 0
  no_room : (p : List ℕ) → packed object ≡ some p → length room < length p → PackRefuses object room 15 0 0

abbrev pub PackEnds : Type 0
PackEnds =
    (object room room' : List ℕ) (answer : Result OctetCount Refusal) → Octets object → PackClaim object room room' answer
    → Ends (PackRefuses object room) (room' ≡ room) (write_outcome answer)

-- a normal form is packed wherever the room is as long as it is
abbrev pub PackAlways : Type 0
PackAlways =
    (object room room' : List ℕ) (answer : Result OctetCount Refusal) → Octets object → normal object ≡ some object → length object ≤ length room
    → PackClaim object room room' answer
    → (n : OctetCount) × (answer ≡ Ok n) × (n.0 ≤ length object)
