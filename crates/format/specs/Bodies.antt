-- How long the bodies are in what is written (change request 2026-08).
use Rattle.std.specs.Prelude.{◌++◌, ℕ, ◌≤◌, ◌<◌, length}
use Rattle.octets.specs.Header.{framed}
use Rattle.values.specs.Values.{octets_of}
use Rattle.format.specs.Meaning.{Meaning, maybe, rising, encode}
use Rattle.format.specs.Meaning.Meaning.{nothing, element, leaf}

-- no body in the normal form of a meaning has more than n octets: neither what stands in an element that holds items, nor one of its attributes, nor its CDATA, nor
-- the octets of an element without items. These are the bodies that `encode` frames, so they are all whose lengths are written
abbrev pub Bodies : ℕ → Meaning → Type 0
Bodies n nothing = Unit {0}
Bodies n (element tag f children cdata after) =
    (length (rising 128 0x80 f ++ (encode children ++ maybe (framed 1) cdata)) ≤ n) × ((a : ℕ) → 0x80 ≤ a → a < 0x100 → length (maybe octets_of (f a)) ≤ n)
    × Bodies n children × (length (maybe (λ o. o) cdata) ≤ n) × Bodies n after
Bodies n (leaf tag octets after) = (length octets ≤ n) × Bodies n after
