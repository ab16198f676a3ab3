use Rattle.show.proofs.Writing.{kind-element, kind-attribute, kind-cdata, kind-other}
use mathlib.Core.Path.{sym, ap}
use lib.ListN.{length}
use Rattle.show.specs.Lines.{ascii}
use borrow.Author.Rules.{rules}
use Rattle.show.proofs.kind_size.Goals as goal

pub returns-in-0 : goal.returns-in-0
unfolding ascii
returns-in-0 c = record { result_value = sym (ap length (kind-element _ c.in-0.is)); result_bound = search rules }

pub returns-in-1 : goal.returns-in-1
unfolding ascii
returns-in-1 c = record { result_value = sym (ap length (kind-attribute _ c.in-1.is)); result_bound = search rules }

pub returns-in-2 : goal.returns-in-2
unfolding ascii
returns-in-2 c = record { result_value = sym (ap length (kind-cdata _ c.in-2.is)); result_bound = search rules }

pub returns-in_default : goal.returns-in_default
unfolding ascii
returns-in_default c =
    record {
      result_value = sym
          (ap length (kind-other _ c.in_default.in_default-own.rest.0.0.1 c.in_default.in_default-own.rest.0.1 c.in_default.in_default-own.rest.1));
      result_bound = search rules;
    }
