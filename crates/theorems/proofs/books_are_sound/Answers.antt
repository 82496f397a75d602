use Rattle.theorems.proofs.Sounding.{books_are_sound}
use Rattle.theorems.proofs.books_are_sound.Goals as goal

pub returns : goal.returns
returns c = books_are_sound
