use Rattle.std.proofs.Common.{[], ◌∷◌, ◌++◌, length, sym, subst}
use Rattle.calls.specs.Said.{said}
use Rattle.calls.specs.Desks.{DeskBy}
use Rattle.calls.proofs.performing.step.Goals as goal

pub returns-in-Pack-clause-told : goal.returns-in-Pack-clause-told
returns-in-Pack-clause-told g c = λ cs h turn. subst (λ k. DeskBy (cs ++ (said (length c.args.walk.now) k ∷ [])) c.args.desk) (sym c.in-Pack.is) (c.pack.ensures.told cs h)
