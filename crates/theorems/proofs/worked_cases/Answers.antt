-- Each case computes.
use Rattle.std.proofs.Common.{refl, lit<, lit≤}
use Rattle.rules.specs.Trees.{count, swap, join, take_out, hang, put_in}
use Rattle.rules.specs.Links.{grow, tree_of, sum_below, leading}
use Rattle.rules.specs.Plans.{block_count, present, bare}
use Rattle.rules.specs.Letters.{among}
use Rattle.rules.specs.Edits.{edited, edit_refusal}
use Rattle.rules.specs.Loads.{first, load_refusal, given_plan}
use Rattle.theorems.specs.Worked.{KCase, TakeOutCase, SwapCase, MoveCase, WideCase, RefusedCases, RisingCase, PutInCase, TurnCase, LetterCases, LoadCases, EditCases, HistoryCase}
use Rattle.theorems.proofs.worked_cases.Goals as goal

k_case : KCase
unfolding load_refusal first given_plan tree_of grow leading sum_below count
k_case = record {
  accepted = refl;
  tree = refl;
  places = refl;
  width = refl;
  high = refl;
  column_0 = refl;
  column_1 = refl;
  column_2 = refl;
  column_3 = refl;
  column_4 = refl;
  column_5 = refl;
  column_6 = refl;
  column_7 = refl;
  column_8 = refl;
  column_9 = refl;
}

take_out_case : TakeOutCase
unfolding load_refusal first given_plan tree_of grow leading sum_below count edit_refusal block_count present edited take_out join
take_out_case = record { tree = refl; places = refl; width = refl; high = refl; open_trial = refl; undone = refl }

swap_case : SwapCase
unfolding given_plan tree_of grow edited swap
swap_case = record { places = refl; width = refl; high = refl }

move_case : MoveCase
unfolding given_plan tree_of grow edited take_out join put_in hang
move_case = record { tree = refl; places = refl; high = refl }

wide_case : WideCase
unfolding load_refusal first given_plan tree_of grow leading sum_below count
wide_case = record { accepted = refl; width = refl; fits = lit≤ tt; exceeds = lit< tt }

refused_cases : RefusedCases
unfolding load_refusal first tree_of grow leading sum_below count
refused_cases = record {
  child_twice = refl;
  child_twice_number = refl;
  child_twice_place = refl;
  unreached = refl;
  unreached_number = refl;
  unreached_place = refl;
}

rising_case : RisingCase
unfolding take_out join
rising_case = record { left_only = refl; right_only = refl; both = refl }

put_in_case : PutInCase
unfolding put_in hang
put_in_case = record { left = refl; right = refl; alone = refl }

turn_case : TurnCase
unfolding given_plan edited
turn_case = record { sizes = refl }

letter_cases : LetterCases
unfolding among
letter_cases = record { b_kept = refl; b_broken = refl; l_kept = refl; l_broken = refl; r_kept = refl; r_above = refl; r_broken = refl; t_kept = refl; t_above = refl; t_broken = refl; of_t = refl; of_b = refl; of_l = refl; of_r = refl; of_small_f = refl }

load_cases : LoadCases
unfolding load_refusal first tree_of grow leading sum_below count
load_cases = record { lengths = refl; memory = refl; side = refl; letter = refl; child = refl; root = refl; root_a_child = refl; no_blocks = refl; root_of_none = refl; empty_places = refl; empty_width = refl; empty_height = refl }

edit_cases : EditCases
unfolding given_plan tree_of grow count edit_refusal block_count present bare edited take_out join
edit_cases = record { no_first = refl; no_second = refl; same = refl; first_absent = refl; second_absent = refl; turn_absent = refl; put_present = refl; put_under_none = refl; put_under_itself = refl; put_in = refl }

history_case : HistoryCase
unfolding load_refusal first given_plan tree_of grow leading sum_below count edit_refusal block_count present edited take_out join
history_case = record { pruning = refl; counted = refl }

pub returns : goal.returns
returns c = record {
  five_blocks = k_case;
  taken_out = take_out_case;
  swapped = swap_case;
  moved = move_case;
  one_wide = wide_case;
  refused = refused_cases;
  risen = rising_case;
  put = put_in_case;
  turned = turn_case;
  lettered = letter_cases;
  loads = load_cases;
  edits = edit_cases;
  histories = history_case;
}
