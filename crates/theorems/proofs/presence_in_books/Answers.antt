use Rattle.theorems.proofs.Sounding.{presence_in_books}
use Rattle.theorems.proofs.presence_in_books.Goals as goal

pub returns : goal.returns
returns c = presence_in_books
