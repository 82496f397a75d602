-- What a line says: its first word names the command, and the others are its arguments.
use Rattle.std.specs.Prelude.{ℕ, Bool, false, cond, List, [], ◌∷◌, Some, None, Ok, Err, codes, Option, Result, ◌==◌}
use Rattle.std.specs.Str.{bytes_eq}
use Rattle.rules.specs.declared.edits.Edit.{Edit}
use Rattle.rules.specs.declared.edits.Edit.TheVariants.{Turn, Swap, TakeOut, PutIn, Move}
use Rattle.script.specs.declared.line.Line.{Line}
use Rattle.script.specs.declared.line.Line.TheVariants.{Block, Size, Letter, Pair, Load, Test, Begin, Keep, Undo, Report, Pack, Make, Clear, Highest, Raise}
use Rattle.script.specs.declared.line.NotUnderstood.{NotUnderstood}
use Rattle.script.specs.declared.line.Kind.{Kind}
use Rattle.script.specs.declared.line.Kind.TheVariants.{Columns, Steps, Placed}
use Rattle.words.specs.Words.{Word, words, byte_of, side_of}
use Rattle.words.specs.Numbers.{number_of, number_up_to, block_of}
use Rattle.words.specs.Arguments.{argument, end, one, two, three}

-- what f makes of the arguments, if they have their form
abbrev pub made : {A B : Type 0} → (A → B) → Option A → Option B
made f None = None
made f (Some a) = Some (f a)

-- turn I | swap I J | out I | in I J left | in I J right | move I J left | move I J right
abbrev pub edit_named : Word → List Word → Option Edit
edit_named name args =
    cond (bytes_eq name (codes "turn")) (made Turn (one block_of args))
    (cond (bytes_eq name (codes "swap")) (made (λ p. Swap p.0 p.1) (two block_of block_of args))
    (cond (bytes_eq name (codes "out")) (made TakeOut (one block_of args))
    (cond (bytes_eq name (codes "in")) (made (λ p. PutIn p.0 p.1 p.2) (three block_of block_of side_of args))
    (cond (bytes_eq name (codes "move")) (made (λ p. Move p.0 p.1 p.2) (three block_of block_of side_of args)) None))))

-- an edit: its name, and its arguments
abbrev pub edit_of : List Word → Option Edit
edit_of [] = None
edit_of (name ∷ args) = edit_named name args

-- block W H X L R
abbrev pub block_line : List Word → Option Line
block_line =
    argument number_of
    (λ w. argument number_of
    (λ h. argument byte_of
    (λ x ws. made (λ p. Block (record { width = w; height = h }) x (record { left = p.0; right = p.1 })) (two block_of block_of ws))))

-- size W H
abbrev pub size_line : List Word → Option Line
size_line args = made (λ p. Size (record { width = p.0; height = p.1 })) (two number_of number_of args)

-- letter X
abbrev pub letter_line : List Word → Option Line
letter_line args = made Letter (one byte_of args)

-- pair L R
abbrev pub pair_line : List Word → Option Line
pair_line args = made (λ p. Pair (record { left = p.0; right = p.1 })) (two block_of block_of args)

-- a part of the lists
abbrev pub list_line : Word → List Word → Option Line
list_line name args =
    cond (bytes_eq name (codes "block")) (block_line args)
    (cond (bytes_eq name (codes "size")) (size_line args)
    (cond (bytes_eq name (codes "letter")) (letter_line args)
    (cond (bytes_eq name (codes "pair")) (pair_line args) None)))

-- load ROOT WALK, with at most 1,000,000 walk records
abbrev pub load_line : List Word → Option Line
load_line args = made (λ p. Load p.0 p.1) (two block_of (number_up_to 1000000) args)

-- test EDIT
abbrev pub test_line : List Word → Option Line
test_line args = made Test (edit_of args)

-- begin EDIT
abbrev pub begin_line : List Word → Option Line
begin_line args = made Begin (edit_of args)

-- report I
abbrev pub report_line : List Word → Option Line
report_line args = made Report (one block_of args)

-- a call on the plan; keep and undo stand alone
abbrev pub plan_line : Word → List Word → Option Line
plan_line name args =
    cond (bytes_eq name (codes "load")) (load_line args)
    (cond (bytes_eq name (codes "test")) (test_line args)
    (cond (bytes_eq name (codes "begin")) (begin_line args)
    (cond (bytes_eq name (codes "keep")) (end Keep args)
    (cond (bytes_eq name (codes "undo")) (end Undo args)
    (cond (bytes_eq name (codes "report")) (report_line args) None)))))

-- columns C, at most 1,000,000 | steps C RECORDS | placed C RECORDS, at most 100,000 records
abbrev pub kind_named : Word → List Word → Option Kind
kind_named name args =
    cond (bytes_eq name (codes "columns")) (made Columns (one (number_up_to 1000000) args))
    (cond (bytes_eq name (codes "steps")) (made (λ p. Steps p.0 p.1) (two number_of (number_up_to 100000) args))
    (cond (bytes_eq name (codes "placed")) (made (λ p. Placed p.0 p.1) (two number_of (number_up_to 100000) args)) None))

-- skyline KIND
abbrev pub make_line : List Word → Option Line
make_line [] = None
make_line (name ∷ args) = made Make (kind_named name args)

-- highest A B
abbrev pub highest_line : List Word → Option Line
highest_line args = made (λ p. Highest p.0 p.1) (two number_of number_of args)

-- raise A B H
abbrev pub raise_line : List Word → Option Line
raise_line args = made (λ p. Raise p.0 p.1 p.2) (three number_of number_of number_of args)

-- pack WALK PLACES, each at most 100,000
abbrev pub pack_line : List Word → Option Line
pack_line args = made (λ p. Pack p.0 p.1) (two (number_up_to 100000) (number_up_to 100000) args)

-- a call on the skyline; clear stands alone
abbrev pub skyline_line : Word → List Word → Option Line
skyline_line name args =
    cond (bytes_eq name (codes "skyline")) (make_line args)
    (cond (bytes_eq name (codes "clear")) (end Clear args)
    (cond (bytes_eq name (codes "highest")) (highest_line args)
    (cond (bytes_eq name (codes "raise")) (raise_line args)
    (cond (bytes_eq name (codes "pack")) (pack_line args) None))))

-- the first, if it says something, else the second
abbrev pub or_else : Option Line → Option Line → Option Line
or_else None o = o
or_else (Some l) o = Some l

-- a command by its name
abbrev pub line_named : Word → List Word → Option Line
line_named name args = or_else (or_else (list_line name args) (plan_line name args)) (skyline_line name args)

-- a comment begins with #
abbrev pub comment : Word → Bool
comment [] = false
comment (b ∷ bs) = b == 35

-- a line that says nothing else is not understood
abbrev pub or_not_understood : Option Line → Result (Option Line) NotUnderstood
or_not_understood None = Err (record {})
or_not_understood (Some l) = Ok (Some l)

-- no words or a comment say nothing; else the first word is the name
abbrev pub meant_by : List Word → Result (Option Line) NotUnderstood
meant_by [] = Ok None
meant_by (name ∷ args) = cond (comment name) (Ok None) (or_not_understood (line_named name args))

-- what a line says
abbrev pub meant : List ℕ → Result (Option Line) NotUnderstood
meant line = meant_by (words line)
