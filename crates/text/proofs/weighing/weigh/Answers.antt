use Rattle.text.proofs.WeighLaws.{run_inside, run-less, more-fits, step_fits, step_less, low_again, high-again, weigh-ways}
use borrow.Author.Rules.{rules}
use Rattle.text.proofs.weighing.weigh.Goals as goal

pub loop-at-init : goal.loop-at-init
loop-at-init c = search (weigh-ways, rules)

pub returns-then-from-s : goal.returns-then-from-s
returns-then-from-s c = search (weigh-ways, rules)

pub bounds-s-from : goal.bounds-s-from
bounds-s-from c = search (run_inside, rules)

pub returns-then-b-eq0 : goal.returns-then-b-eq0
returns-then-b-eq0 c = search (weigh-ways, rules)

pub overflow_add-more : goal.overflow_add-more
overflow_add-more c =
    more-fits c.args.s.now _ _ c.plain_end-from.ensures _ (search rules) c.shown_at.ensures.result_bound

pub overflow_add-at : goal.overflow_add-at
overflow_add-at c = search (run_inside, rules)

pub loop-at-smaller-then-b-lt20 : goal.loop-at-smaller-then-b-lt20
loop-at-smaller-then-b-lt20 c = search (run-less, rules)

pub loop-at-preserved-then-b-lt20 : goal.loop-at-preserved-then-b-lt20
loop-at-preserved-then-b-lt20 c =
    let args = c.args in
    low_again args.marks args.shows.now args.s.now args.most _ _ _ c.loop-at.invariant _ c.plain_end-from.ensures (search rules)
    (search rules) (search rules) _ c.token_bit-used.ensures _ c.shown_at.ensures.result_value _ c.capped-shown.ensures.result_value c.capped-shown.ensures.result_le_most

pub returns-then-end-eq0 : goal.returns-then-end-eq0
returns-then-end-eq0 c = search (weigh-ways, rules)

pub overflow_add-more-else-b-lt20 : goal.overflow_add-more-else-b-lt20
overflow_add-more-else-b-lt20 c =
    more-fits c.args.s.now _ _ c.plain_end-from.ensures 1 (search rules) (search rules)

pub overflow_add-at-else-b-lt20 : goal.overflow_add-at-else-b-lt20
overflow_add-at-else-b-lt20 c =
    step_fits c.args.s.now _ _ c.plain_end-from.ensures _ c.sequence-end.ensures (search rules)

pub loop-at-smaller : goal.loop-at-smaller
loop-at-smaller c = search (step_less, rules)

pub loop-at-preserved : goal.loop-at-preserved
loop-at-preserved c =
    let args = c.args in
    high-again args.marks args.shows.now args.s.now args.most _ _ _ c.loop-at.invariant _ c.plain_end-from.ensures (search rules) _
    c.sequence-end.ensures (search rules) (search rules) _ c.capped-shown-else-b-lt20.ensures.result_value c.capped-shown-else-b-lt20.ensures.result_le_most

pub returns : goal.returns
returns c = search (weigh-ways, rules)
