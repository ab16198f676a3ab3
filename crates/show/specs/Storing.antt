-- What the functions say that measure a number. Those that store a text say `Lays` of it, and every public call has the claim `Puts` (octets/specs/Puts).
use Rattle.std.specs.Prelude.{◌≡◌, ℕ, ◌≤◌, length}
use Rattle.show.specs.Digits.{decimal}

-- how many digits a number has, which is few for a number of 64 bits
pub record Few (n size : ℕ) : Type 0 where
  pub exact : size ≡ length (decimal n)
  pub few : size ≤ 20
