use Rattle.packer.proofs.Telling.{pack_tells}
use Rattle.packer.proofs.tells.pack_tells.Goals as goal

pub returns : goal.returns
returns g c = pack_tells g.S.Skyline.meaning
