use Rattle.reader.proofs.Accepting.{accepted_law}
use Rattle.reader.proofs.laws.accepted_texts.Goals as goal

pub returns : goal.returns
returns c = accepted_law
