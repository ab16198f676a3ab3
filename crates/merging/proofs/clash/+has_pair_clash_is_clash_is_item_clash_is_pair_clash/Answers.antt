use borrow.Author.Tests.{not-true, not-false}
use Rattle.merging.proofs.ClashWays.{pair-ways, item-ways, among-all}
use borrow.Author.Rules.{rules}
use Rattle.merging.proofs.clash.+has_pair_clash_is_clash_is_item_clash_is_pair_clash.Goals as goal

pub is_item_clash-returns-then-tag-eq6 : goal.is_item_clash-returns-then-tag-eq6
is_item_clash-returns-then-tag-eq6 t c = search (item-ways, not-true, not-false, rules)

pub is_item_clash-returns-then-not-merges : goal.is_item_clash-returns-then-not-merges
is_item_clash-returns-then-not-merges t c = search (item-ways, not-true, not-false, rules)

pub is_item_clash-returns : goal.is_item_clash-returns
is_item_clash-returns t c = search (item-ways, not-true, not-false, rules)

pub is_pair_clash-returns-then-not-is_partner : goal.is_pair_clash-returns-then-not-is_partner
is_pair_clash-returns-then-not-is_partner t c = search (pair-ways, not-true, not-false, rules)

pub is_pair_clash-returns-then-is_any_apart : goal.is_pair_clash-returns-then-is_any_apart
is_pair_clash-returns-then-is_any_apart t c = search (pair-ways, not-true, not-false, rules)

pub is_pair_clash-returns-then-have_both_cdata : goal.is_pair_clash-returns-then-have_both_cdata
is_pair_clash-returns-then-have_both_cdata t c = search (pair-ways, not-true, not-false, rules)

pub is_pair_clash-returns-then-levels-eq0 : goal.is_pair_clash-returns-then-levels-eq0
is_pair_clash-returns-then-levels-eq0 t c = search (pair-ways, not-true, not-false, rules)

pub is_pair_clash-returns : goal.is_pair_clash-returns
is_pair_clash-returns t c = search (pair-ways, not-true, not-false, rules)

pub is_clash-returns : goal.is_clash-returns
is_clash-returns t c = search (among-all, rules)
