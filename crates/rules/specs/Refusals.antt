-- Every refusal by its number and its place.
use Rattle.std.specs.Prelude.{ℕ, Bool, cond, List, ◌++◌, Some, None, Ok, Err, codes, decimal, Option, Result}
use Rattle.rules.specs.declared.refusals.Refusal.{Refusal}
use Rattle.rules.specs.declared.refusals.Refusal.TheVariants.{TooManyBlocks, LengthsDiffer, SideOutOfRange, UnknownLetter, WrongChild, WrongRoot, ChildTwice, Unreached, NoSuchBlock, SameBlock, WrongSpan, RaisedTooHigh, NoHeader, WrongForm, WrongVertices, RepeatedName, WrongCount, MemoryTooShort, TextTooLong, NoName, Absent, Present, BelowHighest, NoRaiseLeft, TopTooHigh, ReachTooWide, TooFewRaises}

-- the refusal's number, 1 to 27
abbrev pub number : Refusal → ℕ
number (TooManyBlocks p) = 1
number LengthsDiffer = 2
number (SideOutOfRange p) = 3
number (UnknownLetter i) = 4
number (WrongChild i) = 5
number WrongRoot = 6
number (ChildTwice i) = 7
number (Unreached i) = 8
number (NoSuchBlock i) = 9
number (SameBlock i) = 10
number WrongSpan = 11
number RaisedTooHigh = 12
number (NoHeader l) = 13
number (WrongForm l) = 14
number (WrongVertices l) = 15
number (RepeatedName l) = 16
number WrongCount = 17
number MemoryTooShort = 18
number TextTooLong = 19
number (NoName i) = 20
number (Absent i) = 21
number (Present i) = 22
number BelowHighest = 23
number NoRaiseLeft = 24
number TopTooHigh = 25
number ReachTooWide = 26
number TooFewRaises = 27

-- the place of the fault: a block's number, or a line of a text; 0 where it has none
abbrev pub place : Refusal → ℕ
place (TooManyBlocks p) = p
place LengthsDiffer = 0
place (SideOutOfRange p) = p
place (UnknownLetter i) = i
place (WrongChild i) = i
place WrongRoot = 0
place (ChildTwice i) = i
place (Unreached i) = i
place (NoSuchBlock i) = i
place (SameBlock i) = i
place WrongSpan = 0
place RaisedTooHigh = 0
place (NoHeader l) = l
place (WrongForm l) = l
place (WrongVertices l) = l
place (RepeatedName l) = l
place WrongCount = 0
place MemoryTooShort = 0
place TextTooLong = 0
place (NoName i) = i
place (Absent i) = i
place (Present i) = i
place BelowHighest = 0
place NoRaiseLeft = 0
place TopTooHigh = 0
place ReachTooWide = 0
place TooFewRaises = 0

-- the line `refused N at P`, without its end
abbrev pub refusal_text : Refusal → List ℕ
refusal_text r = codes "refused " ++ (decimal (number r) ++ (codes " at " ++ decimal (place r)))

-- the refusal where the test holds, else what comes after
abbrev pub when : Bool → Refusal → Option Refusal → Option Refusal
when test r after = cond test (Some r) after

-- the refusal, if there is one, else the value
abbrev pub answered : {X : Type 0} → Option Refusal → X → Result X Refusal
answered None x = Ok x
answered (Some r) x = Err r
