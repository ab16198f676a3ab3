-- The ways through the code that makes lines.
use Rattle.std.specs.Prelude.{Result, Ok, Err}
use mathlib.Core.Path.{◌≡◌, refl, ap, ◌∙◌}
use mathlib.Core.Bool.{true}
use mathlib.Core.List.{List, [], ◌∷◌, ◌++◌}
use Prim.Native.Nat.{ℕ, ◌+◌, ◌^◌, ◌≤◌, ◌<◌}
use native.Mathlib.Omega.{arith}
use lib.ListN.{length, take, set, length-append}
use mir.Syntax.{w64}
use mir.Val.{Fits}
use borrow.Author.Tests.{ne_eqb}
use Rattle.octets.specs.Puts.{Puts, Lays}
use Rattle.octets.proofs.Lists.{part-of-sets}
use Rattle.octets.proofs.Left.{lays-length}
use Rattle.octets.proofs.Puts.{put-laid, put-room, put-there}
use Rattle.octets.specs.declared.PutError.{PutError}
use Rattle.octets.specs.declared.PutError.TheVariants.{NoRoom, Invalid}
use Rattle.format.specs.declared.Refusal.{Refusal}
use Rattle.format.specs.declared.Counts.{Counts}
use Rattle.show.specs.Digits.{decimal}
use Rattle.show.specs.Lines.{line}
use Rattle.show.proofs.Digits.{decimal-few}
use Rattle.show.proofs.Writing.{word_room, word_in, word_end, word-done}
use Rattle.recording.specs.Lines.{ok_line, placed, bad_line, answer_line}

-- ---- a word with the character behind it, put where both are known to fit
module _ (w : List ℕ) (b at : ℕ) (out : List ℕ) (h : at + length w + 1 ≤ length out) (out' : List ℕ)
    (answer : Result ℕ PutError) (p : Puts true w at out out' answer) where
  room : at + length (w ++ (b ∷ [])) ≤ length out
  room = omega (arith, length-append w (b ∷ []))

  module _ (end : ℕ) (q : answer ≡ Ok end) where
    laid : Lays w at out out' end
    laid = put-laid true w at out out' answer p end q

    pub put_in : end < length out'
    put_in = word_in w b at out room out' end laid

    pub put-fits : length out < 2 ^ 64 → Fits w64 (end + 1)
    put-fits l = word_end w b at out room out' end laid l

    pub put_word : Lays (w ++ (b ∷ [])) at out (set out' end b) (end + 1)
    put_word = word-done w b at out room out' end laid

    pub put-ends : end + 1 ≡ at + length w + 1
    put-ends = omega (arith, laid.ends)

  -- nothing else is answered
  none-else : {A : Type 0} (e : PutError) → answer ≡ Err e → A
  none-else NoRoom q = put-room true w at out out' answer p (word_room w b at out room) q
  none-else Invalid q = put-there true w at out out' answer p refl q

  module _ (to : ℕ) (e : PutError) (q : answer ≡ Err e) where
    pub put-none : Lays (w ++ (b ∷ [])) at out out' to
    put-none = none-else e q

    pub put-none-ends : to ≡ at + length w + 1
    put-none-ends = none-else e q

few : (n : ℕ) → n < 2 ^ 64 → length (decimal n) ≤ 20
few n h = decimal-few 19 n (omega arith)

-- a number, of which only is known that it has at most 20 digits
module _ (n b at : ℕ) (s : n < 2 ^ 64) (out : List ℕ) (h : at + 21 ≤ length out) (out' : List ℕ) (answer : Result ℕ PutError)
    (p : Puts true (decimal n) at out out' answer) where
  enough : at + length (decimal n) + 1 ≤ length out
  enough = omega (arith, few n s)

  module _ (end : ℕ) (q : answer ≡ Ok end) where
    pub number_in : end < length out'
    number_in = put_in (decimal n) b at out enough out' answer p end q

    pub number_fits : length out < 2 ^ 64 → Fits w64 (end + 1)
    number_fits l = put-fits (decimal n) b at out enough out' answer p end q l

    pub number_word : Lays (decimal n ++ (b ∷ [])) at out (set out' end b) (end + 1)
    number_word = put_word (decimal n) b at out enough out' answer p end q

    pub number-ends : end + 1 ≤ at + 21
    number-ends = omega (arith, few n s, put-ends (decimal n) b at out enough out' answer p end q)

  pub number-none : (e : PutError) → answer ≡ Err e → Lays (decimal n ++ (b ∷ [])) at out out' at
  number-none e q = put-none (decimal n) b at out enough out' answer p at e q

pub ruleset word-ways = (put_in, put-fits, put_word, put-ends, put-none, put-none-ends)

pub ruleset number-ways = (number_in, number_fits, number_word, number-ends, number-none)

-- behind the place of a 9 stands the field, and of any other refusal the place is the end
module _ (r : Refusal) where
  module _ (e : r.number ≡ 9) where
    with-field : placed r ≡ decimal r.place ∷ decimal r.field ∷ []
    unfolding placed
    with-field = rw e

    pub place-more : (at : ℕ) (out o : List ℕ) (t : ℕ) → Lays (line (decimal r.place ∷ decimal r.field ∷ [])) at out o t → Lays (line (placed r)) at out o t
    place-more at out o t k = rw with-field k

  module _ (e : r.number ≡ 9 → ⊥) where
    no_field : placed r ≡ decimal r.place ∷ []
    unfolding placed
    no_field = rw (ne_eqb r.number 9 e)

    pub place-last : (at : ℕ) (out o : List ℕ) (t : ℕ) → Lays (line (decimal r.place ∷ [])) at out o t → Lays (line (placed r)) at out o t
    place-last at out o t k = rw no_field k

pub ruleset place-ways = (place-more, place-last)

-- ---- an answer's line
module _ (number : ℕ) (answer : Result Counts Refusal) (out out' : List ℕ) (end : ℕ) where
  pub answer_ok : (counts : Counts) → answer ≡ Ok counts → Lays (ok_line number counts.records) 0 out out' end → Lays (answer_line number answer) 0 out out' end
  unfolding answer_line
  answer_ok counts e k = rw e k

  pub answer-bad : (r : Refusal) → answer ≡ Err r → Lays (bad_line number r) 0 out out' end → Lays (answer_line number answer) 0 out out' end
  unfolding answer_line
  answer-bad r e k = rw e k

pub ruleset answer-ways = (answer_ok, answer-bad)

-- ---- a line in its room, as the code lends it
line-is : (text before after : List ℕ) (end : ℕ) → Lays text 0 before after end → end ≤ length after → take end after ≡ text
line-is text before after end w h =
    let e : end ≡ length text = omega (arith, w.ends) in
    ap (λ n. take n after) e ∙ ap (take (length text)) w.leaves ∙ part-of-sets before 0 text (omega (arith, lays-length text 0 before after end w))

pub line-put : (text before after : List ℕ) (end : ℕ) → Lays text 0 before after end → end ≤ length after → (at : ℕ) (out out' : List ℕ) (r : Result ℕ PutError)
    → Puts true (take end after) at out out' r → Puts true text at out out' r
line-put text before after end w h at out out' r p = rw (line-is text before after end w h) at p
