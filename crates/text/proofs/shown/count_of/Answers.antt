use native.Mathlib.Omega.{arith}
use Rattle.text.proofs.Index.{inside-by, part-fits}
use Rattle.text.proofs.ShownLaws.{counts-few, counts-ways}
use borrow.Author.Rules.{rules}
use Rattle.text.proofs.shown.count_of.Goals as goal

pub overflow_add-end : goal.overflow_add-end
overflow_add-end c = part-fits _ _ _ _ c.replacement.ensures _ _ c.in-Some.is (search rules)

pub slice_bounds-starts_of-end : goal.slice_bounds-starts_of-end
slice_bounds-starts_of-end c = search (inside-by, rules)

pub returns-in-None : goal.returns-in-None
returns-in-None c = search (counts-ways, rules)

pub returns-in-Some : goal.returns-in-Some
returns-in-Some c =
    record {
      result_value = search (counts-ways, rules);
      result_bound = counts-few c.args.index.now c.args.table.now c.requires.indexes _ _ c.replacement.ensures _ _ c.in-Some.is _
          c.starts_of.ensures (λ i. omega (arith, c.type_inv.table i));
    }
