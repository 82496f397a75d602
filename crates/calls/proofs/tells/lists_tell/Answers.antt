use Rattle.calls.proofs.Telling.{lists_tell}
use Rattle.calls.proofs.tells.lists_tell.Goals as goal

pub returns : goal.returns
returns g c = lists_tell g.S.Skyline.meaning
