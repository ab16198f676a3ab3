-- The normal form of elements and then others.
use mathlib.Core.Path.{◌≡◌, refl, sym}
use mathlib.Core.List.{◌++◌, append_assoc}
use Rattle.octets.specs.Header.{framed}
use Rattle.format.specs.Meaning.{Meaning, maybe, rising, encode}
use Rattle.format.specs.Meaning.Meaning.{nothing, element, leaf}
use Rattle.merge.specs.Merged.{then}

pub encode-then : (m n : Meaning) → encode (then m n) ≡ encode m ++ encode n
unfolding encode then
encode-then nothing n = refl
encode-then (element tag f m c after) n = rw (encode-then after n) (sym (append_assoc (framed tag (rising 128 0x80 f ++ (encode m ++ maybe (framed 1) c))) (encode after) (encode n)))
encode-then (leaf tag o after) n = rw (encode-then after n) (sym (append_assoc (framed tag o) (encode after) (encode n)))
