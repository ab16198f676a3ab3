-- The ways through lay: the walk over an accepted object lays its loaded tree.
use mathlib.Core.Path.{◌≡◌, sym, ap, ◌∙◌, subst}
use mathlib.Core.List.{List}
use Prim.Native.Nat.{ℕ}
use native.Mathlib.Omega.{arith}
use lib.ListN.{length}
use lib.Seq.{sets}
use Rattle.octets.specs.Counts.{as_octets}
use Rattle.octets.specs.Numbers.{Octets}
use Rattle.text.specs.Tokens.{entries}
use Rattle.format.specs.Tree.{Items}
use Rattle.format.specs.Judge.{judge}
use Rattle.format.specs.Judge.Judged.{accepted}
use Rattle.format.specs.Meaning.{table_of, encode, normal_of}
use Rattle.format.specs.Loaded.{loaded_of}
use Rattle.format.specs.State.{Memory, body_sizes, lay_tree}
use Rattle.format.proofs.Headers.{few}
use Rattle.format.proofs.Loading.{loaded-means, loaded-ruled, loaded-count}
use Rattle.format.proofs.Rules.{accepted-size}
use Rattle.reader.proofs.Reading.{whole}
use Rattle.survey.specs.Places.{table_body}
use Rattle.survey.proofs.Tables.{table-told}
use Rattle.survey.proofs.WholeSizes.{store-less}
use Rattle.edits.specs.declared.lay.Level.{Level}
use Rattle.edits.specs.declared.lay.Laid.{Laid}
use Rattle.edits.specs.Lay.{added_in, own_sizes, ItemsLeft, ItemsLayable, ItemsLay, Layable, LaysTree}
use Rattle.state.proofs.Packed.{accepted-packs, accepted-store}
use Rattle.edits.proofs.Summed.{sizes-summed, all-summed}

-- where the top stands, and that nothing is laid
abbrev top : Level
top = record { element = 0; number = 0; depth = 1 }

abbrev nothing : Laid
nothing = record { next = 0; end = 0; body = as_octets 0 }

module _ (o table : List ℕ) (m : Memory) (os : Octets o) (found : table ≡ table_body o) (can : Layable o m) where
  told : (t : Items) → judge o ≡ accepted t → entries table ≡ table_of t
  told t h = ap entries found ∙ table-told o t h

  sizes : (t : Items) → judge o ≡ accepted t → own_sizes 0 (loaded_of t) ≡ body_sizes 0 (loaded_of t)
  sizes t h = sizes-summed (loaded_of t) (loaded-ruled o t os h) (accepted-packs o t os h)

  sum : (t : Items) → judge o ≡ accepted t → added_in 0 (loaded_of t) ≡ length (normal_of t)
  sum t h = all-summed (loaded_of t) (loaded-ruled o t os h) (accepted-packs o t os h) ∙ ap (λ z. length (encode z)) (loaded-means o t os h)

  pub whole-can : ItemsLayable (entries table) top nothing o m
  whole-can =
      let t = can.tree in
      let h = can.accepts in
      let many = loaded-count o t os h in
      rw (told t h) (record {
        offset = 0;
        tree = t;
        accepts = whole o t h;
        space = record {
          above = omega arith;
          few = omega (arith, few o t h, (accepted-size o t h).1);
          holds = omega (arith, can.few);
          low = omega (arith, can.small, store-less o t os h);
          room = omega (arith, can.room);
          sum = omega (arith, can.small, sum t h);
        };
      })

  module _ (m' : Memory) (r : Laid) (f : ItemsLay (entries table) top nothing o m m' r) where
    left : (t : Items) → judge o ≡ accepted t → ItemsLeft (table_of t) top nothing t m m' r
    unfolding ItemsLay
    left t h = subst (λ T. ItemsLeft T top nothing t m m' r) (told t h) (f 0 t (whole o t h))

    pub whole-laid : LaysTree o m m' r.next
    unfolding LaysTree lay_tree
    whole-laid t h =
        let k = left t h in
        let bodies = k.sizes ∙ ap (sets m.bodies 0) (sizes t h) in
        let store = k.holds ∙ sym (ap (sets m.store 0) (accepted-store o t os h)) in
        record { many = omega (arith, k.many); leaves = λ i. record { lists = k.lists i; bodies = bodies i; store = store i } }
