-- What a reader of XML makes of the text between two tags or two quotes: XML's five escapes undone (request 2026-02). No call's claim names these. They say what the text
-- of `export` is worth: that a reader gets back the texts of the object, and takes none of their octets for a tag or for the end of a value (proofs/Escapes).
use Rattle.std.specs.Prelude.{Bool, true, false, cond, not, ◌&&◌, ◌||◌, List, [], ◌∷◌, ℕ, zero, suc, eqb, length}
use Rattle.std.proofs.Math.Option.{Option, none, some}
use Prim.Native.String.{String}
use Rattle.octets.specs.Numbers.{among}
use Rattle.text.specs.Tokens.{present}
use Rattle.show.specs.Lines.{ascii}

-- an octet, and what stands for it behind an ampersand
unfoldable pub references : List (ℕ × String)
references = (0x26, "amp;") ∷ (0x3C, "lt;") ∷ (0x3E, "gt;") ∷ (0x22, "quot;") ∷ (0x27, "apos;") ∷ []

-- a text begins with another one
unfoldable pub starts_with : (text start : List ℕ) → Bool
starts_with s [] = true
starts_with [] (a ∷ more) = false
starts_with (b ∷ s) (a ∷ more) = eqb a b && starts_with s more

-- what the text behind an ampersand begins with: the octet that it stands for, and how many octets that takes
unfoldable pub reference : List (ℕ × String) → List ℕ → Option (ℕ × ℕ)
reference [] s = none
reference (r ∷ rs) s = cond (starts_with s (ascii r.1)) (some (r.0, length (ascii r.1))) (reference rs s)

unfoldable pub reference_at : ℕ → List ℕ → Option (ℕ × ℕ)
reference_at b s = cond (eqb b 0x26) (reference references s) none

unfoldable pub octet_or : ℕ → Option (ℕ × ℕ) → ℕ
octet_or b none = b
octet_or b (some r) = r.0

unfoldable pub size_in : Option (ℕ × ℕ) → ℕ
size_in none = 0
size_in (some r) = r.1

-- text read by an XML reader, of which so many octets are still to be passed, as they are the rest of an escape: each escape is the octet that it stands for, any other octet is
-- itself
unfoldable pub read_from : ℕ → List ℕ → List ℕ
read_from n [] = []
read_from (suc n) (b ∷ s) = read_from n s
read_from zero (b ∷ s) = octet_or b (reference_at b s) ∷ read_from (size_in (reference_at b s)) s

unfoldable pub unescaped : List ℕ → List ℕ
unescaped s = read_from 0 s

-- text that ends no value and opens no tag: it has no angle bracket and no quote, and an ampersand only where an escape begins
unfoldable pub inert : List ℕ → Bool
inert [] = true
inert (b ∷ s) = not (among b (0x3C ∷ 0x3E ∷ 0x22 ∷ 0x27 ∷ [])) && (not (eqb b 0x26) || present (reference references s)) && inert s
