-- What a load gives.
use Rattle.std.specs.Prelude.{◌≡◌, ℕ, List, [], ◌∷◌, ◌++◌, length, Some, None, Result}
use Rattle.rules.specs.declared.refusals.Refusal.{Refusal}
use Rattle.rules.specs.Refusals.{answered}
use Rattle.rules.specs.Loads.{Given, load_refusal, room_refusal}
use Rattle.rules.specs.Book.{Call, load}
use Rattle.theorems.specs.Steps.{plan_loaded, count_loaded}
use Rattle.plan.specs.declared.states.Settled.{Settled}
use Rattle.plan.specs.Meaning.{settled_plan, settled_kept, SettledBy}

-- A load of g answers the number of blocks or its first refusal; the plan is then the one given, with nothing kept, or as it
-- was; the walk memory is as it was if one of the tests of lengths refused; and the load goes on every list of calls that
-- led to the plan before it.
pub record LoadGives (g : Given) (before after : Settled) (walk_before walk_after : List ℕ) (r : Result ℕ Refusal) : Type 0 where
  pub answer : r ≡ answered (load_refusal g) (length g.sizes)
  pub plan : settled_plan after ≡ plan_loaded (load_refusal g) g (settled_plan before)
  pub kept : settled_kept after ≡ count_loaded (load_refusal g) (settled_kept before)
  pub walk : (reason : Refusal) → room_refusal g None ≡ Some reason → walk_after ≡ walk_before
  pub told : (cs : List Call) → SettledBy cs before → SettledBy (cs ++ (load g ∷ [])) after
