-- What the two states of a plan mean.
use Rattle.std.specs.Prelude.{ℕ, ◌+◌, min, Bool, true, false, cond, List, vec_items}
use Rattle.rules.specs.Plans.{Plan}
use Rattle.rules.specs.Book.{Call, Settles, Tries}
use Rattle.table.specs.declared.blocks.Block.{Block}
use Rattle.table.specs.declared.tables.Table.{Table}
use Rattle.plan.specs.declared.plans.Plan.{Plan as Held}
use Rattle.plan.specs.declared.states.Before.{Before}
use Rattle.plan.specs.declared.states.Before.TheVariants.{Unaltered, Plan as Earlier}
use Rattle.plan.specs.declared.states.Settled.{Settled}
use Rattle.plan.specs.declared.states.Tried.{Tried}
use Rattle.plan.specs.Sound.{plan_of}

-- the plan that a table stands for
abbrev pub meant : Table → Plan
meant t = plan_of (vec_items t.blocks) t.root

-- the rows and the root of a plan's table
abbrev pub rows : Held → List Block
rows p = vec_items p.table.blocks

-- the root's number, 65,535 for none
abbrev pub root_of : Held → ℕ
root_of p = p.table.root

-- a settled plan, and how many trials that were not empty it has kept since load
abbrev pub settled_plan : Settled → Plan
settled_plan s = meant s.plan.table

-- its count of kept trials
abbrev pub settled_kept : Settled → ℕ
settled_kept s = s.kept

-- the plan of an open trial, and the one that undo goes back to
abbrev pub tried_plan : Tried → Plan
tried_plan t = meant t.plan.table

-- the plan from before a trial's edit, or of an empty trial the plan in hand
abbrev pub goes_back : Plan → Before → Plan
goes_back p (Unaltered t) = p
goes_back p (Earlier b) = meant b.table

-- the plan that undo goes back to
abbrev pub before_plan : Tried → Plan
before_plan t = goes_back (tried_plan t) t.before

-- nothing was altered
abbrev pub unaltered : Before → Bool
unaltered (Unaltered t) = true
unaltered (Earlier b) = false

-- whether the trial is empty
abbrev pub is_empty : Tried → Bool
is_empty t = unaltered t.before

-- the count that undo leads to, and the one that keep leads to: it stops at 4,294,967,295, and an empty trial does not count
abbrev pub tried_kept : Tried → ℕ
tried_kept t = t.kept

-- the count that keep leads to
abbrev pub kept_next : Tried → ℕ
kept_next t = cond (is_empty t) t.kept (min 4294967295 (t.kept + 1))

-- the plan in hand follows a list of calls
abbrev pub SettledBy : List Call → Settled → Type 0
SettledBy cs s = Settles cs (settled_plan s) (settled_kept s)

-- an open trial follows a list of calls
abbrev pub TriedBy : List Call → Tried → Type 0
TriedBy cs t = Tries cs (tried_plan t) (before_plan t) (kept_next t) (tried_kept t)
