-- A skyline of 67,108,864 columns and 512 raises has room for every plan.
use Rattle.std.proofs.Common.{◌≡◌, ℕ, ◌≤◌, List, take, None, Ok, Err, Option, Result, sym, ap, ◌∙◌, arith}
use Rattle.std.proofs.lemmas.List.FromFn.{length-map-range_with_len}
use Rattle.std.proofs.lemmas.List.{take_at}
use Rattle.std.proofs.lemmas.Bool.Decides.{nat_tests}
use Rattle.rules.specs.declared.placements.Placement.{Placement}
use Rattle.rules.specs.declared.refusals.Refusal.{Refusal}
use Rattle.rules.specs.Refusals.{answered}
use Rattle.rules.specs.Plans.{Plan, block_count}
use Rattle.rules.specs.Packing.{packed}
use Rattle.rules.specs.Skylines.{Sky}
use Rattle.promises.specs.Packs.{pack_refusal, placements, record_of, with_placements}
use Rattle.plan.specs.declared.plans.Plan.{Plan as Held}
use Rattle.plan.specs.Sound.{plan_of}
use Rattle.plan.specs.Meaning.{rows, root_of}
use Rattle.packer.proofs.Standing.{stands, low, near}
use Rattle.packer.proofs.Present.{rows_are}
use Rattle.plotter.specs.Within.{Within}

pub within : (plan : Held) → Within (plan_of (rows plan) (root_of plan))
within plan = record { near = near (stands plan); low = low (stands plan) }

-- no test refuses a packing with 512 records of each kind
pub room_for_all : (plan : Held) (s : Sky) (walk records : ℕ) → 512 ≤ walk → 512 ≤ records → s.columns ≡ 67108864 → s.raises ≡ 512
    → pack_refusal (plan_of (rows plan) (root_of plan)) s walk records ≡ None
unfolding pack_refusal
room_for_all plan s walk records long many wide often =
    let few = (stands plan).few in
    let small = (stands plan).small in
    let counted = rows_are plan in
    let w = within plan in
    let reach = w.near in
    let high = w.low in
    grind (arith, nat_tests)

-- so its answer is no refusal
pub not_refused : {X : Type 0} (o : Option Refusal) (x : X) (r : Result X Refusal) (e : Refusal) → r ≡ answered o x → r ≡ Err e → o ≡ None → ⊥
not_refused o x r e is refused none =
    let ok : Err e ≡ Ok x = sym refused ∙ is ∙ ap (λ o. answered o x) none in
    let z : ◌≡◌ {A = ℕ} 0 1 = cc in omega arith

-- the records of the blocks at the front
pub front : (p : Plan) (before after : List Placement) → after ≡ with_placements p before → take (block_count p) after ≡ placements p
front p before after e = ap (take (block_count p)) e ∙ take_at (placements p) _ (block_count p) (length-map-range_with_len (record_of (packed p)) 0 (block_count p))
