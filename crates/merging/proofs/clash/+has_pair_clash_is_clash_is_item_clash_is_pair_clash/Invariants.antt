use Rattle.std.proofs.Common.{◌+◌, ◌*◌}
use Rattle.merging.proofs.clash.+has_pair_clash_is_clash_is_item_clash_is_pair_clash.Given as goal

abbrev pub decreases-is_pair_clash : goal.decreases-is_pair_clash
decreases-is_pair_clash l = 6 * l.levels

abbrev pub decreases-has_pair_clash-any_child : goal.decreases-has_pair_clash-any_child
decreases-has_pair_clash-any_child l = 6 * l.levels + 1

abbrev pub decreases-has_pair_clash : goal.decreases-has_pair_clash
decreases-has_pair_clash l = 6 * l.levels + 2

abbrev pub decreases-is_item_clash : goal.decreases-is_item_clash
decreases-is_item_clash l = 6 * l.levels + 3

abbrev pub decreases-is_clash-any_child : goal.decreases-is_clash-any_child
decreases-is_clash-any_child l = 6 * l.levels + 4

abbrev pub decreases-is_clash : goal.decreases-is_clash
decreases-is_clash l = 6 * l.levels + 5
