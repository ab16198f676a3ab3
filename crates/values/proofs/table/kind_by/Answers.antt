use borrow.Author.Rules.{rules}
use Rattle.values.specs.Index.{answers, known_by}
use Rattle.values.proofs.Lookup.{code_is, code-last}
use Rattle.values.proofs.table.kind_by.Goals as goal

pub returns-in-1 : goal.returns-in-1
unfolding known_by answers
returns-in-1 c = code_is c.args.code 1 c.in-1.is

pub returns-in-2 : goal.returns-in-2
unfolding known_by answers
returns-in-2 c = code_is c.args.code 2 c.in-2.is

pub returns-in-3 : goal.returns-in-3
unfolding known_by answers
returns-in-3 c = code_is c.args.code 3 c.in-3.is

pub returns-in-4 : goal.returns-in-4
unfolding known_by answers
returns-in-4 c = code_is c.args.code 4 c.in-4.is

pub returns-in-5 : goal.returns-in-5
unfolding known_by answers
returns-in-5 c = code_is c.args.code 5 c.in-5.is

pub returns-in-6 : goal.returns-in-6
unfolding known_by answers
returns-in-6 c = code_is c.args.code 6 c.in-6.is

pub returns-in-7 : goal.returns-in-7
unfolding known_by answers
returns-in-7 c = code_is c.args.code 7 c.in-7.is

pub returns-in-8 : goal.returns-in-8
unfolding known_by answers
returns-in-8 c = code_is c.args.code 8 c.in-8.is

pub returns-in-9 : goal.returns-in-9
unfolding known_by answers
returns-in-9 c = code_is c.args.code 9 c.in-9.is

pub returns-in-10 : goal.returns-in-10
unfolding known_by answers
returns-in-10 c = code_is c.args.code 10 c.in-10.is

pub returns-in_default : goal.returns-in_default
returns-in_default c = search (code-last, rules)
