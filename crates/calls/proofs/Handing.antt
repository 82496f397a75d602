-- From the plan in hand to the plan in the book.
use Rattle.std.proofs.Common.{◌≡◌, List, [], ◌∷◌, ◌++◌, Ok, Result}
use Rattle.rules.specs.declared.placements.Placement.{Placement}
use Rattle.rules.specs.declared.refusals.Refusal.{Refusal}
use Rattle.rules.specs.Plans.{Plan}
use Rattle.rules.specs.Skylines.{Sky}
use Rattle.rules.specs.Book.{Call, pack, book, book_plan}
use Rattle.plan.specs.Meaning.{settled_kept, before_plan, kept_next, tried_kept, rows, root_of}
use Rattle.plan.specs.Sound.{plan_of}
use Rattle.promises.specs.Promise.{Promise}
use Rattle.packer.specs.declared.spots.Extent.{Extent}
use Rattle.packer.specs.Shows.{PackShows}
use Rattle.calls.specs.declared.desk.Desk.{Desk}
use Rattle.calls.specs.declared.desk.Desk.TheVariants.{Settled, Tried}
use Rattle.calls.specs.Desks.{held, DeskBy}

-- the plan in hand
abbrev pub plan_in : Desk → Plan
plan_in d = plan_of (rows (held d)) (root_of (held d))

pub in_book : (cs : List Call) (d : Desk) → DeskBy cs d → plan_in d ≡ book_plan (book cs)
in_book cs (Settled s) h = h.in_book
in_book cs (Tried t) h = h.in_book

module _ {t : Sky} {places : List Placement} {r : Result Extent Refusal} (cs : List Call) where
  pub pack_told : (d : Desk) → PackShows (plan_in d) t places r → DeskBy cs d → DeskBy (cs ++ (pack ∷ [])) d
  pack_told (Settled s) shows h = (shows.settled cs (settled_kept s) h).0
  pack_told (Tried t) shows h = (shows.tried cs (before_plan t) (kept_next t) (tried_kept t) h).0

  pub pack_promises : (d : Desk) → PackShows (plan_in d) t places r → DeskBy cs d → (x : Extent) → r ≡ Ok x → Promise cs x.width x.height places t
  pack_promises (Settled s) shows h = (shows.settled cs (settled_kept s) h).1
  pack_promises (Tried t) shows h = (shows.tried cs (before_plan t) (kept_next t) (tried_kept t) h).1
