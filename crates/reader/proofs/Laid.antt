-- Lists of the same lengths, beyond format's proofs/Lays: from what code leaves to the lengths and places of what it was lent.
use mathlib.Core.Path.{◌≡◌, sym, subst}
use mathlib.Core.List.{List}
use Prim.Native.Nat.{ℕ}
use Rattle.format.specs.declared.Record.{Record}
use Rattle.format.specs.Calls.{Lists, places, put, lay}
use Rattle.format.proofs.Lays.{SameLengths, same-lengths-then, lay-lengths, places-put}

same-lengths-back : {l m : Lists} → SameLengths l m → SameLengths m l
same-lengths-back s = record {
  tags = sym s.tags;
  kinds = sym s.kinds;
  depths = sym s.depths;
  parents = sym s.parents;
  starts = sym s.starts;
  sizes = sym s.sizes;
}

pub same-lay : (i : ℕ) (rs : List Record) (l m : Lists) → m ≡ lay i rs l → SameLengths l m
same-lay i rs l m e = subst (λ (x : Lists). SameLengths l x) (sym e) (lay-lengths i rs l)

-- lists that are the same once records are laid over both
pub same-laid : (i j : ℕ) (rs qs : List Record) (l m : Lists) → lay i rs l ≡ lay j qs m → SameLengths l m
same-laid i j rs qs l m e = same-lengths-then (lay-lengths i rs l) (subst (λ (x : Lists). SameLengths x m) (sym e) (same-lengths-back (lay-lengths j qs m)))

pub places-after : (i : ℕ) (r : Record) (l m : Lists) → m ≡ put i r l → places m ≡ places l
places-after i r l m e = subst (λ (x : Lists). places x ≡ places l) (sym e) (places-put i r l)
