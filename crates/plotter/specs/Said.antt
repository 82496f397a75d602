-- What is plotted of what a .blocks text says.
use Rattle.std.specs.Prelude.{ℕ, List, map, Ok, Err, Result}
use Rattle.rules.specs.declared.blocks.Size.{Size}
use Rattle.rules.specs.declared.placements.Placement.{Placement}
use Rattle.rules.specs.declared.refusals.Refusal.{Refusal}
use Rattle.rules.specs.Loads.{given_plan}
use Rattle.promises.specs.Packs.{placements}
use Rattle.reader.specs.Text.{Block, Answer}
use Rattle.writer.specs.Texts.{refusal_line}
use Rattle.heap_tree.specs.Heap.{heap_given}
use Rattle.plotter.specs.Plots.{named_text, Tells}

-- the names of the blocks, in line order
abbrev pub names : List Block → List (List ℕ)
names bs = map (λ (b : Block). b.name) bs

-- their sizes
abbrev pub sizes : List Block → List Size
sizes bs = map (λ (b : Block). b.size) bs

-- where packing places them, with block 0 as the root and blocks 2k + 1 and 2k + 2 as the left and the right child of block k
unfoldable pub places : List Block → List Placement
places bs = placements (given_plan (heap_given (sizes bs)))

-- the text to be written: a line for each block with its name and place, or the line of the refusal
unfoldable pub plot_text : Answer → List ℕ
plot_text (Ok bs) = named_text (names bs) (places bs)
plot_text (Err e) = refusal_line e

-- The .pl text that an accepted plot leaves, read back, tells the names of the text's block lines, in order, each with its place.
abbrev pub PlotTells : Answer → List ℕ → Result ℕ Refusal → Type 0
PlotTells (Ok bs) after r = Tells (names bs) (places bs) after r
PlotTells (Err e) after r = Unit {0}
