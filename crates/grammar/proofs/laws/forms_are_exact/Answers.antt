use Rattle.grammar.proofs.Exact.{header_law, count_law, terminal_law, vertex_inv, vertex_here, corners_law, outline_law, size_law, block_law}
use Rattle.grammar.proofs.laws.forms_are_exact.Goals as goal

pub returns : goal.returns
returns c =
    record {
      header = header_law;
      count = count_law;
      terminal = terminal_law;
      vertex = λ ws p. (vertex_inv ws p.0 p.1, vertex_here ws p.0 p.1);
      vertices = corners_law;
      outline = λ ws p. outline_law ws p.0 p.1;
      rectangle = size_law;
      block = block_law;
    }
