-- What is due behind each line in front of the body.
use Rattle.std.proofs.Common.{ℕ, List, [], codes}
use Rattle.grammar.specs.Lines.{Line}
use Rattle.reader.specs.Text.{Answer, count_due, body}

-- the body, once the three counts are known
abbrev pub then_body : ℕ → ℕ → ℕ → List Line → Answer
then_body soft hard terminals lines = body (record { soft = soft; hard = hard; terminals = terminals }) [] 0 lines

abbrev pub then_terminals : ℕ → ℕ → List Line → Answer
then_terminals soft hard lines = count_due (codes "NumTerminals") lines (then_body soft hard)

abbrev pub then_hard : ℕ → List Line → Answer
then_hard soft lines = count_due (codes "NumHardRectilinearBlocks") lines (then_terminals soft)

abbrev pub then_soft : List Line → Answer
then_soft lines = count_due (codes "NumSoftRectangularBlocks") lines then_hard
