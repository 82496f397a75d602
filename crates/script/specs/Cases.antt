-- Lines that show the language, by what they say.
use Rattle.std.specs.Prelude.{◌≡◌, [], Some, None, Ok, Err, codes}
use Rattle.rules.specs.declared.edits.Edit.TheVariants.{Turn, Swap, TakeOut, PutIn, Move}
use Rattle.rules.specs.declared.edits.Side.TheVariants.{Left, Right}
use Rattle.script.specs.declared.line.Line.TheVariants.{Block, Size, Letter, Pair, Load, Test, Begin, Keep, Undo, Report, Pack, Make, Clear, Highest, Raise}
use Rattle.script.specs.declared.line.Kind.TheVariants.{Columns, Steps, Placed}
use Rattle.script.specs.Grammar.{meant}
use Rattle.words.specs.Lines.{first_line, behind_line}

-- each line beside what it says, and two texts by their first lines
pub record Readings : Type 0 where
  pub blank_line : meant (codes " \t\r") ≡ Ok None
  pub comment_line : meant (codes "  #load 0 5") ≡ Ok None
  pub block_said : meant (codes "block 4 3 F 1 65535\r") ≡ Ok (Some (Block (record { width = 4; height = 3 }) 70 (record { left = 1; right = 65535 })))
  pub size_said : meant (codes "size 007 999999999") ≡ Ok (Some (Size (record { width = 7; height = 999999999 })))
  pub letter_said : meant (codes "letter ?") ≡ Ok (Some (Letter 63))
  pub pair_said : meant (codes "\tpair\t2  3 ") ≡ Ok (Some (Pair (record { left = 2; right = 3 })))
  pub load_said : meant (codes "load 0 1000000") ≡ Ok (Some (Load 0 1000000))
  pub turn_tested : meant (codes "test turn 2") ≡ Ok (Some (Test (Turn 2)))
  pub swap_tested : meant (codes "test swap 2 3") ≡ Ok (Some (Test (Swap 2 3)))
  pub out_begun : meant (codes "begin out 4") ≡ Ok (Some (Begin (TakeOut 4)))
  pub in_begun : meant (codes "begin in 4 0 left") ≡ Ok (Some (Begin (PutIn 4 0 Left)))
  pub move_begun : meant (codes "begin move 1 2 right") ≡ Ok (Some (Begin (Move 1 2 Right)))
  pub keep_said : meant (codes "keep") ≡ Ok (Some Keep)
  pub undo_said : meant (codes "undo") ≡ Ok (Some Undo)
  pub report_said : meant (codes "report 65535") ≡ Ok (Some (Report 65535))
  pub columns_made : meant (codes "skyline columns 1000000") ≡ Ok (Some (Make (Columns 1000000)))
  pub steps_made : meant (codes "skyline steps 67108864 1025") ≡ Ok (Some (Make (Steps 67108864 1025)))
  pub placed_made : meant (codes "skyline placed 999999999 100000") ≡ Ok (Some (Make (Placed 999999999 100000)))
  pub clear_said : meant (codes "clear") ≡ Ok (Some Clear)
  pub highest_said : meant (codes "highest 0 3") ≡ Ok (Some (Highest 0 3))
  pub raise_said : meant (codes "raise 2 4 5") ≡ Ok (Some (Raise 2 4 5))
  pub pack_said : meant (codes "pack 5 100000") ≡ Ok (Some (Pack 5 100000))
  pub too_many_columns : meant (codes "skyline columns 1000001") ≡ Err (record {})
  pub too_many_records : meant (codes "skyline steps 9 100001") ≡ Err (record {})
  pub no_such_kind : meant (codes "skyline ledges 9") ≡ Err (record {})
  pub other_name : meant (codes "Keep") ≡ Err (record {})
  pub ten_digits : meant (codes "size 1 0000000001") ≡ Err (record {})
  pub no_such_number : meant (codes "report 65536") ≡ Err (record {})
  pub too_much_walk : meant (codes "load 0 1000001") ≡ Err (record {})
  pub long_letter : meant (codes "letter FF") ≡ Err (record {})
  pub too_few : meant (codes "begin swap 1") ≡ Err (record {})
  pub too_many : meant (codes "undo 1") ≡ Err (record {})
  pub cut_at_lf : (first_line (codes "keep\nundo\n") ≡ codes "keep") × (behind_line (codes "keep\nundo\n") ≡ codes "undo\n")
  pub cut_at_end : (first_line (codes "undo") ≡ codes "undo") × (behind_line (codes "undo") ≡ [])
