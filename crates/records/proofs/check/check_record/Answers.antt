use Rattle.records.proofs.Records.{record-ways}
use borrow.Author.Tests.{not-true, not-false}
use borrow.Author.Rules.{rules}
use Rattle.records.proofs.check.check_record.Goals as goal

pub returns-then-given-parent : goal.returns-then-given-parent
returns-then-given-parent c = search (record-ways, rules)

pub returns-then-given-kind_of : goal.returns-then-given-kind_of
returns-then-given-kind_of c = search (record-ways, rules)

pub returns-then-given-parent-2 : goal.returns-then-given-parent-2
returns-then-given-parent-2 c = search (record-ways, rules)

pub returns-then-end-octets : goal.returns-then-end-octets
returns-then-end-octets c = search (record-ways, rules)

pub returns-then-not-is_placed : goal.returns-then-not-is_placed
returns-then-not-is_placed c = search (record-ways, not-true, rules)

pub returns-in_err-held : goal.returns-in_err-held
returns-in_err-held c = search (record-ways, not-false, rules)

pub returns : goal.returns
returns c = search (record-ways, not-false, rules)
