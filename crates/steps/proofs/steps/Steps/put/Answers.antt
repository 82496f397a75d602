use Rattle.steps.proofs.Putting.{put_ordered, put_heights}
use Rattle.steps.proofs.steps.Steps.put.Goals as goal

pub invariant_of-self-clause-ordered : goal.invariant_of-self-clause-ordered
invariant_of-self-clause-ordered c = put_ordered _ _ _ _ _ _ c.args.self.now.ordered c.requires.nonempty c.requires.over c.put-self.ensures.runs

pub returns-clause-put : goal.returns-clause-put
returns-clause-put c = put_heights _ _ _ _ _ _ c.args.self.now.ordered c.requires.nonempty c.requires.over c.put-self.ensures.runs
