use Rattle.show.proofs.Writing.{words_same, fields-other, puts-same}
use Rattle.show.specs.Lines.{ascii, field_reasons, field_reason}
use native.Mathlib.Omega.{arith}
use Rattle.show.proofs.put_field_words.Goals as goal

pub returns-in-0 : goal.returns-in-0
unfolding ascii field_reasons field_reason
returns-in-0 c = words_same (λ n. ascii (field_reason n)) _ 0 c.in-0.is _ _ _ _ c.put_bytes.ensures

pub returns-in-1 : goal.returns-in-1
unfolding ascii field_reasons field_reason
returns-in-1 c = words_same (λ n. ascii (field_reason n)) _ 1 c.in-1.is _ _ _ _ c.put_bytes-in-1.ensures

pub returns-in-2 : goal.returns-in-2
unfolding ascii field_reasons field_reason
returns-in-2 c = words_same (λ n. ascii (field_reason n)) _ 2 c.in-2.is _ _ _ _ c.put_bytes-in-2.ensures

pub returns-in-3 : goal.returns-in-3
unfolding ascii field_reasons field_reason
returns-in-3 c = words_same (λ n. ascii (field_reason n)) _ 3 c.in-3.is _ _ _ _ c.put_bytes-in-3.ensures

pub returns-in-4 : goal.returns-in-4
unfolding ascii field_reasons field_reason
returns-in-4 c = words_same (λ n. ascii (field_reason n)) _ 4 c.in-4.is _ _ _ _ c.put_bytes-in-4.ensures

pub returns-in-5 : goal.returns-in-5
unfolding ascii field_reasons field_reason
returns-in-5 c = words_same (λ n. ascii (field_reason n)) _ 5 c.in-5.is _ _ _ _ c.put_bytes-in-5.ensures

pub returns-in_default : goal.returns-in_default
unfolding ascii field_reasons field_reason
returns-in_default c = puts-same _ _ (fields-other c.args.field (omega arith)) _ _ _ _ c.put_bytes-in_default.ensures
