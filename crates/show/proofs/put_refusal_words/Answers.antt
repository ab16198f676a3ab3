use Rattle.show.proofs.Writing.{words_same, words-other, puts-same}
use Rattle.show.specs.Lines.{ascii, reasons, refusal_words}
use native.Mathlib.Omega.{arith}
use Rattle.show.proofs.put_refusal_words.Goals as goal

pub returns-in-0 : goal.returns-in-0
unfolding ascii reasons refusal_words
returns-in-0 c = words_same (refusal_words _) _ 0 c.in-0.is _ _ _ _ c.put_bytes.ensures

pub returns-in-1 : goal.returns-in-1
unfolding ascii reasons refusal_words
returns-in-1 c = words_same (refusal_words _) _ 1 c.in-1.is _ _ _ _ c.put_bytes-in-1.ensures

pub returns-in-2 : goal.returns-in-2
unfolding ascii reasons refusal_words
returns-in-2 c = words_same (refusal_words _) _ 2 c.in-2.is _ _ _ _ c.put_bytes-in-2.ensures

pub returns-in-3 : goal.returns-in-3
unfolding ascii reasons refusal_words
returns-in-3 c = words_same (refusal_words _) _ 3 c.in-3.is _ _ _ _ c.put_bytes-in-3.ensures

pub returns-in-4 : goal.returns-in-4
unfolding ascii reasons refusal_words
returns-in-4 c = words_same (refusal_words _) _ 4 c.in-4.is _ _ _ _ c.put_bytes-in-4.ensures

pub returns-in-5 : goal.returns-in-5
unfolding ascii reasons refusal_words
returns-in-5 c = words_same (refusal_words _) _ 5 c.in-5.is _ _ _ _ c.put_bytes-in-5.ensures

pub returns-in-6 : goal.returns-in-6
unfolding ascii reasons refusal_words
returns-in-6 c = words_same (refusal_words _) _ 6 c.in-6.is _ _ _ _ c.put_bytes-in-6.ensures

pub returns-in-7 : goal.returns-in-7
unfolding ascii reasons refusal_words
returns-in-7 c = words_same (refusal_words _) _ 7 c.in-7.is _ _ _ _ c.put_bytes-in-7.ensures

pub returns-in-8 : goal.returns-in-8
unfolding ascii reasons refusal_words
returns-in-8 c = words_same (refusal_words _) _ 8 c.in-8.is _ _ _ _ c.put_bytes-in-8.ensures

pub returns-in-9 : goal.returns-in-9
unfolding ascii reasons refusal_words
returns-in-9 c = words_same (refusal_words _) _ 9 c.in-9.is _ _ _ _ c.put_field_words.ensures

pub returns-in-10 : goal.returns-in-10
unfolding ascii reasons refusal_words
returns-in-10 c = words_same (refusal_words _) _ 10 c.in-10.is _ _ _ _ c.put_bytes-in-10.ensures

pub returns-in-11 : goal.returns-in-11
unfolding ascii reasons refusal_words
returns-in-11 c = words_same (refusal_words _) _ 11 c.in-11.is _ _ _ _ c.put_bytes-in-11.ensures

pub returns-in-12 : goal.returns-in-12
unfolding ascii reasons refusal_words
returns-in-12 c = words_same (refusal_words _) _ 12 c.in-12.is _ _ _ _ c.put_bytes-in-12.ensures

pub returns-in-13 : goal.returns-in-13
unfolding ascii reasons refusal_words
returns-in-13 c = words_same (refusal_words _) _ 13 c.in-13.is _ _ _ _ c.put_bytes-in-13.ensures

pub returns-in-14 : goal.returns-in-14
unfolding ascii reasons refusal_words
returns-in-14 c = words_same (refusal_words _) _ 14 c.in-14.is _ _ _ _ c.put_bytes-in-14.ensures

pub returns-in-15 : goal.returns-in-15
unfolding ascii reasons refusal_words
returns-in-15 c = words_same (refusal_words _) _ 15 c.in-15.is _ _ _ _ c.put_bytes-in-15.ensures

pub returns-in-16 : goal.returns-in-16
unfolding ascii reasons refusal_words
returns-in-16 c = words_same (refusal_words _) _ 16 c.in-16.is _ _ _ _ c.put_bytes-in-16.ensures

pub returns-in-17 : goal.returns-in-17
unfolding ascii reasons refusal_words
returns-in-17 c = words_same (refusal_words _) _ 17 c.in-17.is _ _ _ _ c.put_bytes-in-17.ensures

pub returns-in-18 : goal.returns-in-18
unfolding ascii reasons refusal_words
returns-in-18 c = words_same (refusal_words _) _ 18 c.in-18.is _ _ _ _ c.put_bytes-in-18.ensures

pub returns-in-19 : goal.returns-in-19
unfolding ascii reasons refusal_words
returns-in-19 c = words_same (refusal_words _) _ 19 c.in-19.is _ _ _ _ c.put_bytes-in-19.ensures

pub returns-in-20 : goal.returns-in-20
unfolding ascii reasons refusal_words
returns-in-20 c = words_same (refusal_words _) _ 20 c.in-20.is _ _ _ _ c.put_bytes-in-20.ensures

pub returns-in-21 : goal.returns-in-21
unfolding ascii reasons refusal_words
returns-in-21 c = words_same (refusal_words _) _ 21 c.in-21.is _ _ _ _ c.put_bytes-in-21.ensures

pub returns-in-22 : goal.returns-in-22
unfolding ascii reasons refusal_words
returns-in-22 c = words_same (refusal_words _) _ 22 c.in-22.is _ _ _ _ c.put_bytes-in-22.ensures

pub returns-in-23 : goal.returns-in-23
unfolding ascii reasons refusal_words
returns-in-23 c = words_same (refusal_words _) _ 23 c.in-23.is _ _ _ _ c.put_bytes-in-23.ensures

pub returns-in-24 : goal.returns-in-24
unfolding ascii reasons refusal_words
returns-in-24 c = words_same (refusal_words _) _ 24 c.in-24.is _ _ _ _ c.put_bytes-in-24.ensures

pub returns-in_default : goal.returns-in_default
unfolding ascii reasons refusal_words
returns-in_default c = puts-same _ _ (words-other c.args.field c.args.number (omega arith)) _ _ _ _ c.put_bytes-in_default.ensures
