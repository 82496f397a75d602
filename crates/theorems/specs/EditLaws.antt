-- Laws of the edits.
use Rattle.std.specs.Prelude.{◌≡◌, ℕ, None}
use Rattle.rules.specs.declared.edits.Side.{Side}
use Rattle.rules.specs.declared.edits.Edit.{Edit}
use Rattle.rules.specs.declared.edits.Edit.TheVariants.{Turn, Swap, TakeOut, PutIn}
use Rattle.rules.specs.Plans.{Plan, Whole}
use Rattle.rules.specs.Edits.{edited, edit_refusal}

-- an edit that passes its tests leaves each present block in the tree once, and no other number in it
abbrev pub EditsKeepBlocksOnce : Type 0
EditsKeepBlocksOnce = (p : Plan) (e : Edit) → Whole p → edit_refusal p e ≡ None → Whole (edited e p)

-- two blocks swapped twice stand where they stood
abbrev pub SwapTwice : Type 0
SwapTwice = (p : Plan) (i j : ℕ) → edited (Swap i j) (edited (Swap i j) p) ≡ p

-- a block turned twice lies as it lay
abbrev pub TurnTwice : Type 0
TurnTwice = (p : Plan) (i : ℕ) → edited (Turn i) (edited (Turn i) p) ≡ p

-- a block that was put in and is taken out again leaves the plan from before
abbrev pub PutInTakeOut : Type 0
PutInTakeOut =
    (p : Plan) (i j : ℕ) (s : Side) → edit_refusal p (PutIn i j s) ≡ None → edited (TakeOut i) (edited (PutIn i j s) p) ≡ p
