-- A worked case on every skyline.
use Rattle.std.specs.Prelude.{◌≡◌, ◌+◌, ◌<◌, Ok, Err, Result}
use Rattle.rules.specs.declared.refusals.Refusal.{Refusal}
use Rattle.rules.specs.declared.refusals.Refusal.TheVariants.{BelowHighest}
use Rattle.rules.specs.Skylines.{Sky, Cleared, Highest, Raise}
use Rattle.skyline.specs.declared.worked.Answers.{Answers}

-- The calls one after the other, on every skyline, from s over the cleared one and the one raised once to t: each answers what such
-- a call answers, and leaves what it leaves.
pub record WorkedThrough (s cleared raised t : Sky) (first : Result (Unit {0}) Refusal) (r : Answers) : Type 0 where
  pub clears : Cleared s cleared
  pub raises : Raise cleared raised 2 4 5 first
  pub over_edge : Highest raised 0 3 r.over_edge
  pub beside : Highest raised 0 2 r.beside
  pub too_low : Raise raised t 3 5 4 r.too_low

-- A skyline of at least 5 columns and 1 raise, cleared and raised from 2 to 4 to 5: the highest from 0 to 3 is 5 and from 0 to 2
-- is 0, and raising 3 to 5 to 4 is refused with 23. On a smaller one only C and R are told, which no call alters.
pub record Worked (s t : Sky) (r : Answers) : Type 0 where
  pub columns : t.columns ≡ s.columns
  pub raises : t.raises ≡ s.raises
  pub over_edge : 4 < s.columns → 0 < s.raises → r.over_edge ≡ Ok 5
  pub beside : 4 < s.columns → 0 < s.raises → r.beside ≡ Ok 0
  pub too_low : 4 < s.columns → 0 < s.raises → r.too_low ≡ Err BelowHighest

-- What else holds: the calls were made one after the other, and the refused raise leaves columns 3 and 4 at 5 and 0 and uses up no raise.
pub record WorkedFurther (s t : Sky) (r : Answers) : Type 0 where
  pub through : (cleared raised : Sky) × ((first : Result (Unit {0}) Refusal) × WorkedThrough s cleared raised t first r)
  pub inside_kept : 4 < s.columns → 0 < s.raises → t.height 3 ≡ 5
  pub behind_kept : 4 < s.columns → 0 < s.raises → t.height 4 ≡ 0
  pub one_used : 4 < s.columns → 0 < s.raises → t.left + 1 ≡ s.raises
