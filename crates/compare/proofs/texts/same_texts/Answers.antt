use Rattle.compare.proofs.Expansions.{fit-first, fit-second, meet-ways}
use borrow.Author.Rules.{rules}
use Rattle.compare.proofs.texts.same_texts.Goals as goal

pub loop-p-init : goal.loop-p-init
loop-p-init c = search (meet-ways, rules)

pub returns-then-n-eq0 : goal.returns-then-n-eq0
returns-then-n-eq0 c = search (meet-ways, rules)

pub beyond-p-requires : goal.beyond-p-requires
beyond-p-requires c =
    let fits = fit-first _ _ _ _ _ c.opened-p.ensures _ _ c.common_ahead-n.ensures (search rules) (search rules) in
    record { n_bound = fits.0; n_bound_2 = fits.1 }

pub beyond-q-requires : goal.beyond-q-requires
beyond-q-requires c =
    let fits = fit-second _ c.args.table_b.now c.args.b.now _ _ c.opened-q.ensures _ _ c.common_ahead-n.ensures (search rules) (search rules) in
    record { n_bound = fits.0; n_bound_2 = fits.1 }

pub loop-p-smaller : goal.loop-p-smaller
loop-p-smaller c = search (meet-ways, rules)

pub loop-p-preserved : goal.loop-p-preserved
loop-p-preserved c = search (meet-ways, rules)
