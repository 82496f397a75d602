use Rattle.geometry.proofs.Standing.{highest_of_columns, column_of_tops}
use Rattle.geometry.proofs.column_law.Goals as goal

pub returns : goal.returns
returns c = record { spans = highest_of_columns; tops = column_of_tops }
