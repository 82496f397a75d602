use Rattle.std.proofs.Common.{refl}
use Rattle.std.specs.Fmt.{digits}
use Rattle.rules.specs.Links.{grow, tree_of}
use Rattle.rules.specs.Plans.{block_count}
use Rattle.rules.specs.Loads.{given_plan}
use Rattle.words.specs.Numbers.{spelt_after}
use Rattle.grammar.specs.Words.{words, indent}
use Rattle.grammar.specs.Lines.{line_of, lines_from, used}
use Rattle.reader.specs.Text.{body}
use Rattle.writer.specs.Texts.{refusal_line}
use Rattle.heap_tree.specs.Heap.{heap_children, heap_given}
use Rattle.plotter.specs.Plots.{named_lines, named_text}
use Rattle.plotter.specs.Said.{places, plot_text}
use Rattle.plotter.proofs.samples.sample_plots.Goals as goal

pub returns : goal.returns
unfolding digits grow tree_of block_count given_plan spelt_after words indent line_of lines_from used body refusal_line heap_children heap_given named_lines named_text places plot_text
returns c = record { three_blocks = refl; five_blocks = refl; no_blocks = refl; no_text = refl }
