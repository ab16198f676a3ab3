use Rattle.text.proofs.Index.{part-fits}
use Rattle.text.proofs.Replaced.{one-ways, part-end-fits}
use borrow.Author.Rules.{rules}
use Rattle.text.proofs.expanding.write_one.Goals as goal

pub bounds-out-at : goal.bounds-out-at
bounds-out-at c = search (one-ways, rules)

pub overflow_add-end : goal.overflow_add-end
overflow_add-end c = part-fits _ _ _ _ c.replacement.ensures _ _ c.in-Some.is (search rules)

pub slice_bounds-copy-end : goal.slice_bounds-copy-end
slice_bounds-copy-end c = search (one-ways, rules)

pub copy-requires : goal.copy-requires
copy-requires c = search (one-ways, rules)

pub overflow_add-result-in-Some : goal.overflow_add-result-in-Some
overflow_add-result-in-Some c =
    let at-start = c in
    let entry = at-start in
    part-end-fits _ _ _ entry.args.out.now _ entry.requires _ at-start.replacement.ensures _ _ at-start.in-Some.is (search rules)

pub returns-in-None : goal.returns-in-None
returns-in-None c = search (one-ways, rules)

pub returns-in-Some : goal.returns-in-Some
returns-in-Some c = search (one-ways, rules)
