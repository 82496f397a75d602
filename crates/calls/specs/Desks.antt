-- The plan in hand, and the calls that led to it.
use Rattle.std.specs.Prelude.{List, Ok, Err, Result}
use Rattle.rules.specs.Book.{Call}
use Rattle.plan.specs.declared.plans.Plan.{Plan}
use Rattle.plan.specs.Meaning.{SettledBy, TriedBy}
use Rattle.plan.specs.declared.states.Settled.{Settled as SettledPlan}
use Rattle.plan.specs.declared.states.Tried.{Tried as OpenTrial}
use Rattle.calls.specs.declared.desk.Desk.{Desk}
use Rattle.calls.specs.declared.desk.Desk.TheVariants.{Settled, Tried}

-- the plan in hand, as it is held
abbrev pub held : Desk → Plan
held (Settled s) = s.plan
held (Tried t) = t.plan

-- the settled plan, or the open trial
abbrev pub settled_or_tried : Desk → Result SettledPlan OpenTrial
settled_or_tried (Settled s) = Ok s
settled_or_tried (Tried t) = Err t

-- it follows a list of calls
abbrev pub DeskBy : List Call → Desk → Type 0
DeskBy cs (Settled s) = SettledBy cs s
DeskBy cs (Tried t) = TriedBy cs t
