use Rattle.std.proofs.Common.{refl}
use Rattle.std.specs.Fmt.{digits}
use Rattle.rules.specs.Loads.{first}
use Rattle.words.specs.Words.{words}
use Rattle.words.specs.Numbers.{spelt_after}
use Rattle.writer.specs.Texts.{line_of, lines_of, pl_text, refusal_line}
use Rattle.writer.specs.Answers.{writer_refusal}
use Rattle.writer.specs.Readings.{lines, told_by_lines}
use Rattle.writer.proofs.samples.sample_writings.Goals as goal

pub returns : goal.returns
unfolding digits first words spelt_after line_of lines_of pl_text refusal_line writer_refusal lines told_by_lines
returns c =
    record {
      no_blocks = refl;
      second_absent = refl;
      read = refl;
      no_empty_line = refl;
      two_words = refl;
      lists_differ = refl;
      no_name = refl;
      past_the_end = refl;
      one_byte_short = refl;
      just_enough = refl;
      refused = refl;
    }
