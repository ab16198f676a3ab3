-- Wrong answers of `put_item_name` and `put_item_value`, of the kind that slips make, each refuted by its claim at an item whose text is computed. That a text was put which
-- doesn't stand there, and that a part of one was left, is refuted for all octets (octets/proofs/Wrong).
use Rattle.std.specs.Prelude.{Ok}
use mathlib.Core.Path.{◌≡◌, refl}
use mathlib.Core.Bool.{true}
use mathlib.Core.List.{List, [], ◌∷◌}
use Prim.Native.Nat.{ℕ, ◌+◌}
use native.Mathlib.Omega.{arith}
use lib.ListN.{length}
use Rattle.octets.specs.Numbers.{among, value}
use Rattle.octets.specs.Puts.{Puts as Fills}
use Rattle.octets.proofs.Puts.{put-done}
use Rattle.text.specs.Tokens.{entry, or_itself, stands, expanded}
use Rattle.text.specs.Text.{token, layout}
use Rattle.values.specs.Table.{rows, kind_in, known, attribute}
use Rattle.values.specs.Values.{width, fits, meant}
use Rattle.show.specs.Digits.{hex_lower, two_digits}
use Rattle.show.specs.Lines.{ascii}
use Rattle.xml.specs.Names.{names, name_in, name, words, word_in, or_hex, word}
use Rattle.xml.specs.Xml.{escape, escaped, number_text, value_text}
use Rattle.xml.specs.Single.{is_worded, value_by, item_value}

-- a text that was put ends as far behind its place as it is long
ends : (text : List ℕ) (at : ℕ) (before after : List ℕ) (n : ℕ) → Fills true text at before after (Ok n) → n ≡ at + length text
ends text at before after n c = (put-done true text at before after (Ok n) c n refl).place

-- an item whose text has so many octets wasn't put in another number of them
other-end : (text : List ℕ) (size : ℕ) → length text ≡ size → (at : ℕ) (before after : List ℕ) (wrong : ℕ) → (wrong ≡ size → ⊥)
    → Fills true text at before after (Ok (at + wrong)) → ⊥
other-end text size l at before after wrong h c = h (omega (arith, l, ends text at before after (at + wrong) c))

module _ (at : ℕ) (before after : List ℕ) where
  -- the name of a service's bearer without the dot and the code, though 0x2D has it too
  pub code-left-out : Fills true (name 0 0x29) at before after (Ok (at + 6)) → ⊥
  unfolding name names name_in attribute ascii
  code-left-out = other-end (name 0 0x29) 9 refl at before after 6 (λ e. omega arith)

  -- the attribute 0x81 of a programme, shortId, by the name that it has in a schedule, creationTime
  pub named-by-tag : Fills true (name 0x1C 0x81) at before after (Ok (at + 12)) → ⊥
  unfolding name names name_in attribute ascii
  named-by-tag = other-end (name 0x1C 0x81) 7 refl at before after 12 (λ e. omega arith)

  -- a genre's href as text, though it is plain octets
  pub plain-as-text : Fills true (item_value 0x14 0x80 [] (0x61 ∷ [])) at before after (Ok (at + 1)) → ⊥
  unfolding item_value value_by is_worded known kind_in rows attribute hex_lower two_digits
  plain-as-text = other-end (item_value 0x14 0x80 [] (0x61 ∷ [])) 2 refl at before after 1 (λ e. omega arith)

  -- a token that isn't replaced
  pub token-left : Fills true (item_value 0x18 0x83 ((1, 0x61 ∷ 0x62 ∷ []) ∷ []) (1 ∷ [])) at before after (Ok (at + 1)) → ⊥
  unfolding item_value value_by is_worded known kind_in rows attribute fits meant value_text expanded stands token layout among entry or_itself escaped escape
  token-left = other-end (item_value 0x18 0x83 ((1, 0x61 ∷ 0x62 ∷ []) ∷ []) (1 ∷ [])) 2 refl at before after 1 (λ e. omega arith)

  -- a recommendation by its code, 02, though annex F has a name for it, yes
  pub code-for-word : Fills true (item_value 0x1C 0x83 [] (2 ∷ [])) at before after (Ok (at + 2)) → ⊥
  unfolding item_value value_by is_worded known kind_in rows attribute fits width meant value value_text number_text word words word_in or_hex ascii
  code-for-word = other-end (item_value 0x1C 0x83 [] (2 ∷ [])) 3 refl at before after 2 (λ e. omega arith)
