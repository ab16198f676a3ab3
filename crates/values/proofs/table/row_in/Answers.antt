use borrow.Author.Rules.{rules}
use Rattle.values.proofs.Lookup.{arms, arm_is, arm-rest}
use Rattle.values.proofs.table.row_in.Goals as goal

pub returns-in-1 : goal.returns-in-1
unfolding arms
returns-in-1 c = arm_is 0 (search rules) _ c.requires _ c.in-1.is _ c.row_of-row.ensures

pub returns-in-2 : goal.returns-in-2
unfolding arms
returns-in-2 c = arm_is 1 (search rules) _ c.requires _ c.in-2.is _ c.row_of-row-in-2.ensures

pub returns-in-3 : goal.returns-in-3
unfolding arms
returns-in-3 c = arm_is 2 (search rules) _ c.requires _ c.in-3.is _ c.row_of-row-in-3.ensures

pub returns-in-4 : goal.returns-in-4
unfolding arms
returns-in-4 c = arm_is 3 (search rules) _ c.requires _ c.in-4.is _ c.row_of-row-in-4.ensures

pub returns-in-6 : goal.returns-in-6
unfolding arms
returns-in-6 c = arm_is 4 (search rules) _ c.requires _ c.in-6.is _ c.row_of-row-in-6.ensures

pub returns-in-16 : goal.returns-in-16
unfolding arms
returns-in-16 c = arm_is 5 (search rules) _ c.requires _ c.in-16.is _ c.row_of-row-in-16.ensures

pub returns-in-17 : goal.returns-in-17
unfolding arms
returns-in-17 c = arm_is 6 (search rules) _ c.requires _ c.in-17.is _ c.row_of-row-in-17.ensures

pub returns-in-18 : goal.returns-in-18
unfolding arms
returns-in-18 c = arm_is 7 (search rules) _ c.requires _ c.in-18.is _ c.row_of-row-in-18.ensures

pub returns-in-19 : goal.returns-in-19
unfolding arms
returns-in-19 c = arm_is 8 (search rules) _ c.requires _ c.in-19.is _ c.row_of-row-in-19.ensures

pub returns-in-20 : goal.returns-in-20
unfolding arms
returns-in-20 c = arm_is 9 (search rules) _ c.requires _ c.in-20.is _ c.row_of-row-in-20.ensures

pub returns-in-22 : goal.returns-in-22
unfolding arms
returns-in-22 c = arm_is 10 (search rules) _ c.requires _ c.in-22.is _ c.row_of-row-in-22.ensures

pub returns-in-23 : goal.returns-in-23
unfolding arms
returns-in-23 c = arm_is 11 (search rules) _ c.requires _ c.in-23.is _ c.row_of-row-in-23.ensures

pub returns-in-24 : goal.returns-in-24
unfolding arms
returns-in-24 c = arm_is 12 (search rules) _ c.requires _ c.in-24.is _ c.row_of-row-in-24.ensures

pub returns-in-25 : goal.returns-in-25
unfolding arms
returns-in-25 c = arm_is 13 (search rules) _ c.requires _ c.in-25.is _ c.row_of-row-in-25.ensures

pub returns-in-26 : goal.returns-in-26
unfolding arms
returns-in-26 c = arm_is 14 (search rules) _ c.requires _ c.in-26.is _ c.row_of-row-in-26.ensures

pub returns-in-27 : goal.returns-in-27
unfolding arms
returns-in-27 c = arm_is 15 (search rules) _ c.requires _ c.in-27.is _ c.row_of-row-in-27.ensures

pub returns-in-28 : goal.returns-in-28
unfolding arms
returns-in-28 c = arm_is 16 (search rules) _ c.requires _ c.in-28.is _ c.row_of-row-in-28.ensures

pub returns-in-32 : goal.returns-in-32
unfolding arms
returns-in-32 c = arm_is 17 (search rules) _ c.requires _ c.in-32.is _ c.row_of-row-in-32.ensures

pub returns-in-33 : goal.returns-in-33
unfolding arms
returns-in-33 c = arm_is 18 (search rules) _ c.requires _ c.in-33.is _ c.row_of-row-in-33.ensures

pub returns-in-35 : goal.returns-in-35
unfolding arms
returns-in-35 c = arm_is 19 (search rules) _ c.requires _ c.in-35.is _ c.row_of-row-in-35.ensures

pub returns-in-36 : goal.returns-in-36
unfolding arms
returns-in-36 c = arm_is 20 (search rules) _ c.requires _ c.in-36.is _ c.row_of-row-in-36.ensures

pub returns-in-37 : goal.returns-in-37
unfolding arms
returns-in-37 c = arm_is 21 (search rules) _ c.requires _ c.in-37.is _ c.row_of-row-in-37.ensures

pub returns-in-38 : goal.returns-in-38
unfolding arms
returns-in-38 c = arm_is 22 (search rules) _ c.requires _ c.in-38.is _ c.row_of-row-in-38.ensures

pub returns-in-40 : goal.returns-in-40
unfolding arms
returns-in-40 c = arm_is 23 (search rules) _ c.requires _ c.in-40.is _ c.row_of-row-in-40.ensures

pub returns-in-41 : goal.returns-in-41
unfolding arms
returns-in-41 c = arm_is 24 (search rules) _ c.requires _ c.in-41.is _ c.row_of-row-in-41.ensures

pub returns-in-43 : goal.returns-in-43
unfolding arms
returns-in-43 c = arm_is 25 (search rules) _ c.requires _ c.in-43.is _ c.row_of-row-in-43.ensures

pub returns-in-44 : goal.returns-in-44
unfolding arms
returns-in-44 c = arm_is 26 (search rules) _ c.requires _ c.in-44.is _ c.row_of-row-in-44.ensures

pub returns-in-45 : goal.returns-in-45
unfolding arms
returns-in-45 c = arm_is 27 (search rules) _ c.requires _ c.in-45.is _ c.row_of-row-in-45.ensures

pub returns-in-46 : goal.returns-in-46
unfolding arms
returns-in-46 c = arm_is 28 (search rules) _ c.requires _ c.in-46.is _ c.row_of-row-in-46.ensures

pub returns-in-47 : goal.returns-in-47
unfolding arms
returns-in-47 c = arm_is 29 (search rules) _ c.requires _ c.in-47.is _ c.row_of-row-in-47.ensures

pub returns-in-49 : goal.returns-in-49
unfolding arms
returns-in-49 c = arm_is 30 (search rules) _ c.requires _ c.in-49.is _ c.row_of-row-in-49.ensures

pub returns-in-50 : goal.returns-in-50
unfolding arms
returns-in-50 c = arm_is 31 (search rules) _ c.requires _ c.in-50.is _ c.row_of-row-in-50.ensures

pub returns-in-51 : goal.returns-in-51
unfolding arms
returns-in-51 c = arm_is 32 (search rules) _ c.requires _ c.in-51.is _ c.row_of-row-in-51.ensures

pub returns-in-52 : goal.returns-in-52
unfolding arms
returns-in-52 c = arm_is 33 (search rules) _ c.requires _ c.in-52.is _ c.row_of-row-in-52.ensures

pub returns-in-53 : goal.returns-in-53
unfolding arms
returns-in-53 c = arm_is 34 (search rules) _ c.requires _ c.in-53.is _ c.row_of-row-in-53.ensures

pub returns-in-54 : goal.returns-in-54
unfolding arms
returns-in-54 c = arm_is 35 (search rules) _ c.requires _ c.in-54.is _ c.row_of-row-in-54.ensures

pub returns-in-55 : goal.returns-in-55
unfolding arms
returns-in-55 c = arm_is 36 (search rules) _ c.requires _ c.in-55.is _ c.row_of-row-in-55.ensures

pub returns-in-56 : goal.returns-in-56
unfolding arms
returns-in-56 c = arm_is 37 (search rules) _ c.requires _ c.in-56.is _ c.row_of-row-in-56.ensures

pub returns-in_default : goal.returns-in_default
unfolding arms
returns-in_default c = arm-rest c.args.element c.in_default.in_default-own.rest
