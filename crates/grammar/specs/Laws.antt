-- The grammar finds just what the relations say.
use Rattle.std.specs.Prelude.{◌≡◌, List, is_some, Some, Decides}
use Rattle.rules.specs.declared.blocks.Size.{Size}
use Rattle.words.specs.Words.{Word}
use Rattle.grammar.specs.declared.outlines.Corners.{Corners}
use Rattle.grammar.specs.Forms.{header_of, count_of, terminal_of, vertex_of, corners_of, outline_of, size_of}
use Rattle.grammar.specs.Relations.{Header, CountLine, TerminalLine, Vertex, Vertices, OutlineLine, rectangle, BlockLine, Exactly}

-- the header
abbrev pub HeaderLaw : Type 0
HeaderLaw = (ws : List Word) → Decides (is_some (header_of ws)) (Header ws)

-- a count line
abbrev pub CountLaw : Type 0
CountLaw = (label : Word) (ws : List Word) → Exactly (count_of label ws) (CountLine label ws)

-- a terminal line
abbrev pub TerminalLaw : Type 0
TerminalLaw = (ws : List Word) → Exactly (terminal_of ws) (TerminalLine ws)

-- a vertex and what is behind it
abbrev pub VertexLaw : Type 0
VertexLaw = (ws : List Word) → Exactly (vertex_of ws) (λ p. Vertex ws p.0 p.1)

-- four vertices
abbrev pub VerticesLaw : Type 0
VerticesLaw = (ws : List Word) → Exactly (corners_of ws) (Vertices ws)

-- a line with a name and four vertices
abbrev pub OutlineLaw : Type 0
OutlineLaw = (ws : List Word) → Exactly (outline_of ws) (λ p. OutlineLine ws p.0 p.1)

-- the vertices of a rectangle
abbrev pub RectangleLaw : Type 0
RectangleLaw = (q : Corners) → Exactly (size_of q) (λ s. q ≡ rectangle s)

-- a block line: a line with a name and the four vertices of a rectangle
abbrev pub BlockLaw : Type 0
BlockLaw = (ws : List Word) (n : Word) (s : Size) →
    ((q : Corners) → outline_of ws ≡ Some (n, q) → size_of q ≡ Some s → BlockLine ws n s)
    × (BlockLine ws n s → outline_of ws ≡ Some (n, rectangle s))
