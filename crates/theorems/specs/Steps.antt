-- What a load and a begin make of a plan and of its count, by the refusal that they answer.
use Rattle.std.specs.Prelude.{ℕ, ◌+◌, min, Some, None, Option}
use Rattle.rules.specs.declared.edits.Edit.{Edit}
use Rattle.rules.specs.declared.refusals.Refusal.{Refusal}
use Rattle.rules.specs.Plans.{Plan}
use Rattle.rules.specs.Edits.{edited}
use Rattle.rules.specs.Loads.{Given, given_plan}

-- a load gives its plan, a refused one leaves the plan that was there
abbrev pub plan_loaded : Option Refusal → Given → Plan → Plan
plan_loaded None g p = given_plan g
plan_loaded (Some r) g p = p

-- a load starts the count of kept trials again
abbrev pub count_loaded : Option Refusal → ℕ → ℕ
count_loaded None kept = 0
count_loaded (Some r) kept = kept

-- the plan in the trial that begin opens: edited, or as it was where the edit is refused
abbrev pub plan_begun : Option Refusal → Edit → Plan → Plan
plan_begun None e p = edited e p
plan_begun (Some r) e p = p

-- the count if the trial is kept: one more, up to 4,294,967,295, unless the trial is empty
abbrev pub count_begun : Option Refusal → ℕ → ℕ
count_begun None kept = min 4294967295 (kept + 1)
count_begun (Some r) kept = kept
