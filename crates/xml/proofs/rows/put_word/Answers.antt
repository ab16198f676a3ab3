use borrow.Author.Rules.{rules}
use Rattle.show.specs.Lines.{ascii}
use Rattle.xml.specs.Names.{words}
use Rattle.xml.proofs.Packed.{packed, unless_empty, words_of, words_from, word_rows, word_table, word-put, word-rest}
use Rattle.xml.proofs.rows.put_word.Goals as goal

pub returns-in-2 : goal.returns-in-2
unfolding word_table word_rows words_from words_of unless_empty packed words ascii
returns-in-2 c = word-put _ _ _ _ _ _ _ _ (search rules) 2 c.in-2.is c.put_word_within.ensures

pub returns-in-3 : goal.returns-in-3
unfolding word_table word_rows words_from words_of unless_empty packed words ascii
returns-in-3 c = word-put _ _ _ _ _ _ _ _ (search rules) 3 c.in-3.is c.put_word_within-in-3.ensures

pub returns-in-4 : goal.returns-in-4
unfolding word_table word_rows words_from words_of unless_empty packed words ascii
returns-in-4 c = word-put _ _ _ _ _ _ _ _ (search rules) 4 c.in-4.is c.put_word_within-in-4.ensures

pub returns-in-5 : goal.returns-in-5
unfolding word_table word_rows words_from words_of unless_empty packed words ascii
returns-in-5 c = word-put _ _ _ _ _ _ _ _ (search rules) 5 c.in-5.is c.put_word_within-in-5.ensures

pub returns-in_default : goal.returns-in_default
returns-in_default c = word-rest _ _ _ _ _ _ _ _ c.in_default.in_default-own.rest
