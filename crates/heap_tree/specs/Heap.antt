-- Blocks as a tree in the order of a heap: block 0 is the root, and blocks 2k + 1 and 2k + 2 are the children of block k.
use Rattle.std.specs.Prelude.{ℕ, ◌+◌, ◌*◌, cond, List, [], map, length, replicate, None, Option, Result, nat_lt}
use Rattle.std.specs.List.{range_with_len}
use Rattle.rules.specs.declared.blocks.Size.{Size}
use Rattle.rules.specs.declared.blocks.Children.{Children}
use Rattle.rules.specs.declared.refusals.Refusal.{Refusal}
use Rattle.rules.specs.declared.refusals.Refusal.TheVariants.{TooManyBlocks, SideOutOfRange}
use Rattle.rules.specs.Refusals.{when}
use Rattle.rules.specs.Loads.{Given, first, when_found, wrong_size}
use Rattle.plan.specs.declared.states.Settled.{Settled}
use Rattle.plan.specs.Calls.{LoadGives}

-- the number i where there are more than i of n blocks, else 65,535
abbrev pub child_link : ℕ → ℕ → ℕ
child_link n i = cond (nat_lt i n) i 65535

-- blocks 2k + 1 and 2k + 2, where they exist
abbrev pub child_pair : ℕ → ℕ → Children
child_pair n k = record { left = child_link n (2 * k + 1); right = child_link n (2 * k + 2) }

-- the child pairs of n blocks
unfoldable pub heap_children : ℕ → List Children
heap_children n = map (child_pair n) (range_with_len 0 n)

-- what load is given: blocks of these sizes, all letters F (byte 70), root 0, and walk memory for 512 blocks
unfoldable pub heap_given : List Size → Given
heap_given ss = record {
  sizes = ss;
  letters = replicate (length ss) 70;
  children = heap_children (length ss);
  root = child_link (length ss) 0;
  walk = 512;
}

-- the tests that can refuse it: 1, 3
abbrev pub heap_refusal : List Size → Option Refusal
heap_refusal ss = when (nat_lt 512 (length ss)) (TooManyBlocks 0) (when_found (first (wrong_size ss) 0 (length ss)) SideOutOfRange None)

-- the load with these arguments, with walk memory of its own
abbrev pub HeapLoad : List Size → Settled → Settled → Result ℕ Refusal → Type 0
HeapLoad ss before after r = LoadGives (heap_given ss) before after [] [] r
