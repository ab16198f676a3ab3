use Rattle.show.specs.Lines.{ascii, line, header_line, touched_line}
use Rattle.show.proofs.Writing.{kind-element, kind-attribute, kind-cdata, kind-other, lays-same, word_same}
use borrow.Author.Rules.{rules}
use Rattle.show.proofs.kind_word.Goals as goal

pub octets_word-requires : goal.octets_word-requires
unfolding ascii
octets_word-requires c = word_same _ _ (kind-element _ c.in-0.is) _ c.args.out.now c.args.behind c.requires

pub octets_word-requires-in-1 : goal.octets_word-requires-in-1
unfolding ascii
octets_word-requires-in-1 c = word_same _ _ (kind-attribute _ c.in-1.is) _ c.args.out.now c.args.behind c.requires

pub octets_word-requires-in-2 : goal.octets_word-requires-in-2
unfolding ascii
octets_word-requires-in-2 c = word_same _ _ (kind-cdata _ c.in-2.is) _ c.args.out.now c.args.behind c.requires

pub octets_word-requires-in_default : goal.octets_word-requires-in_default
unfolding ascii
octets_word-requires-in_default c =
    word_same _ _ (kind-other _ c.in_default.in_default-own.rest.0.0.1 c.in_default.in_default-own.rest.0.1 c.in_default.in_default-own.rest.1) _ c.args.out.now
    c.args.behind c.requires

pub shape_of-out-in-0 : goal.shape_of-out-in-0
shape_of-out-in-0 c = search (kind-element, kind-attribute, kind-cdata, kind-other, lays-same, word_same, rules)

pub returns-in-0 : goal.returns-in-0
unfolding ascii header_line touched_line line
returns-in-0 c = search (kind-element, kind-attribute, kind-cdata, kind-other, lays-same, word_same, rules)

pub shape_of-out-in-1 : goal.shape_of-out-in-1
shape_of-out-in-1 c = search (kind-element, kind-attribute, kind-cdata, kind-other, lays-same, word_same, rules)

pub returns-in-1 : goal.returns-in-1
unfolding ascii header_line touched_line line
returns-in-1 c = search (kind-element, kind-attribute, kind-cdata, kind-other, lays-same, word_same, rules)

pub shape_of-out-in-2 : goal.shape_of-out-in-2
shape_of-out-in-2 c = search (kind-element, kind-attribute, kind-cdata, kind-other, lays-same, word_same, rules)

pub returns-in-2 : goal.returns-in-2
unfolding ascii header_line touched_line line
returns-in-2 c = search (kind-element, kind-attribute, kind-cdata, kind-other, lays-same, word_same, rules)

pub shape_of-out-in_default : goal.shape_of-out-in_default
shape_of-out-in_default c = search (kind-element, kind-attribute, kind-cdata, kind-other, lays-same, word_same, rules)

pub returns-in_default : goal.returns-in_default
unfolding ascii header_line touched_line line
returns-in_default c = search (kind-element, kind-attribute, kind-cdata, kind-other, lays-same, word_same, rules)
