-- What holds of every accepted packing, and of packing as a relation.
use Rattle.std.specs.Prelude.{◌≡◌, ℕ, ◌<◌, ◌≢◌, List}
use Rattle.rules.specs.declared.placements.Placement.{Placement}
use Rattle.rules.specs.Plans.{Plan, Whole}
use Rattle.rules.specs.Packing.{packed, column}
use Rattle.rules.specs.Skylines.{Sky}
use Rattle.rules.specs.Book.{Call, new_book, book, book_plan, state_after, out_of_turn, Settles, Tries}
use Rattle.theorems.specs.Histories.{Without, pruned}
use Rattle.promises.specs.Packs.{Packs, Under}
use Rattle.promises.specs.Promise.{Promise}
use Rattle.promises.specs.Relation.{PackingIsOne}

-- After any calls that the states allow: records, width and height that packing gives for the plan in their book, with a skyline
-- whose columns have the heights of that packing, keep the whole promise.
abbrev pub PromiseHolds : Type 0
PromiseHolds =
    (cs : List Call) (width high : ℕ) (rs : List Placement) (t : Sky) → state_after cs ≢ out_of_turn
    → Packs (book_plan (book cs)) width high rs
    → ((c : ℕ) → c < t.columns → t.height c ≡ column (packed (book_plan (book cs))) c)
    → Promise cs width high rs t

-- So it is with a settled plan in hand, for all calls that it follows, where the skyline went from s to t.
abbrev pub PromiseOfSettled : Type 0
PromiseOfSettled =
    (cs : List Call) (p : Plan) (kept width high : ℕ) (rs : List Placement) (s t : Sky)
    → Settles cs p kept → Packs p width high rs → Under p s t → Promise cs width high rs t

-- And so with an open trial in hand.
abbrev pub PromiseOfTried : Type 0
PromiseOfTried =
    (cs : List Call) (p before : Plan) (kept_next kept width high : ℕ) (rs : List Placement) (s t : Sky)
    → Tries cs p before kept_next kept → Packs p width high rs → Under p s t → Promise cs width high rs t

-- The pruned list is one of those that leave out undone trials and refused calls; it leads to the same state, the same plan and the
-- same packing.
pub record PrunedAlike (cs : List Call) : Type 0 where
  pub without : Without new_book cs (pruned cs)
  pub state : state_after (pruned cs) ≡ state_after cs
  pub plan : book_plan (book (pruned cs)) ≡ book_plan (book cs)
  pub packing : packed (book_plan (book (pruned cs))) ≡ packed (book_plan (book cs))

-- so it is for every list of calls that the states allow
abbrev pub PrunedPromise : Type 0
PrunedPromise = (cs : List Call) → state_after cs ≢ out_of_turn → PrunedAlike cs

-- For each plan whose present blocks stand in its tree once, packing is the one thing that meets the relation.
abbrev pub OnePacking : Type 0
OnePacking = (p : Plan) → Whole p → PackingIsOne p
