use Rattle.text.proofs.Index.{fits-surely}
use Rattle.text.proofs.Replaced.{fits-measured}
use borrow.Author.Rules.{rules}
use Rattle.text.proofs.expanding.fits.Goals as goal

pub returns-then-s-room : goal.returns-then-s-room
returns-then-s-room c = search (fits-surely, rules)

pub returns : goal.returns
returns c = search (fits-measured, rules)
