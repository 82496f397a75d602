use Rattle.theorems.proofs.Passed.{tests_passed, edited_whole}
use Rattle.theorems.proofs.edits_keep_blocks_once.Goals as goal

pub returns : goal.returns
returns c = λ p e w h. edited_whole p w e (tests_passed p e h)
