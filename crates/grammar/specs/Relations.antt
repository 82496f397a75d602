-- What each line says, as a relation between its words and what they say.
use Rattle.std.specs.Prelude.{◌≡◌, ℕ, true, false, List, [], ◌∷◌, map, is_some, Some, None, codes, Option}
use Rattle.std.specs.Borrow.{Bor}
use Rattle.rules.specs.declared.blocks.Size.{Size}
use Rattle.words.specs.Words.{Word}
use Rattle.words.specs.Numbers.{number_of}
use Rattle.names.specs.Names.{is_name}
use Rattle.grammar.specs.declared.outlines.Point.{Point}
use Rattle.grammar.specs.declared.outlines.Corners.{Corners}
use Rattle.grammar.specs.declared.outlines.Outline.{Outline}
use Rattle.grammar.specs.declared.outlines.Item.{Item}
use Rattle.grammar.specs.declared.outlines.Item.TheVariants.{Terminal, Block}
use Rattle.grammar.specs.Forms.{terminal_of, vertex_of, outline_of}

-- the line is the header
abbrev pub Header : List Word → Type 0
Header ws = ws ≡ codes "UCSC" ∷ codes "blocks" ∷ codes "1.0" ∷ []

-- the line gives the count n under this label
pub record CountLine (label : Word) (ws : List Word) (n : ℕ) : Type 0 where
  pub digits : Word
  pub form : ws ≡ label ∷ codes ":" ∷ digits ∷ []
  pub spells : number_of digits ≡ Some n

-- the line names a terminal
pub record TerminalLine (ws : List Word) (n : Word) : Type 0 where
  pub form : ws ≡ n ∷ codes "terminal" ∷ []
  pub named : is_name n ≡ true

-- the words begin with the vertex p, and rest stands behind it
pub record Vertex (ws : List Word) (p : Point) (rest : List Word) : Type 0 where
  pub across : Word
  pub up : Word
  pub form : ws ≡ codes "(" ∷ across ∷ codes "," ∷ up ∷ codes ")" ∷ rest
  pub x_is : number_of across ≡ Some p.x
  pub y_is : number_of up ≡ Some p.y

-- the words are four vertices and no more
pub record Vertices (ws : List Word) (q : Corners) : Type 0 where
  pub after_first : List Word
  pub after_second : List Word
  pub after_third : List Word
  pub v1 : Vertex ws q.first after_first
  pub v2 : Vertex after_first q.second after_second
  pub v3 : Vertex after_second q.third after_third
  pub v4 : Vertex after_third q.fourth []

-- the line gives the block n four vertices
pub record OutlineLine (ws : List Word) (n : Word) (q : Corners) : Type 0 where
  pub rest : List Word
  pub form : ws ≡ n ∷ codes "hardrectilinear" ∷ codes "4" ∷ rest
  pub named : is_name n ≡ true
  pub vertices : Vertices rest q

-- the vertices (0, 0) (0, height) (width, height) (width, 0)
abbrev pub rectangle : Size → Corners
rectangle s =
    record {
      first = record { x = 0; y = 0 };
      second = record { x = 0; y = s.height };
      third = record { x = s.width; y = s.height };
      fourth = record { x = s.width; y = 0 };
    }

-- the line gives the block n this size
abbrev pub BlockLine : List Word → Word → Size → Type 0
BlockLine ws n s = OutlineLine ws n (rectangle s)

-- what is found is just what stands in this relation
abbrev pub Exactly : {A : Type 0} → Option A → (A → Type 0) → Type 0
Exactly o R = (a : _) → (o ≡ Some a → R a) × (R a → o ≡ Some a)

-- what the reader of a vertex answers: the vertex in front, and the words behind it
abbrev pub FirstVertex : List Word → Option (Point × Bor (List (Bor (List ℕ)))) → Type 0
FirstVertex ws None = vertex_of ws ≡ None
FirstVertex ws (Some p) = vertex_of ws ≡ Some (p.0, map (λ w. w.now) p.1.now)

-- what the reader of a block line answers: the name and the vertices
abbrev pub Outlined : List Word → Option Outline → Type 0
Outlined ws None = outline_of ws ≡ None
Outlined ws (Some o) = outline_of ws ≡ Some (o.name.now, o.corners)

-- what the reader of a line of the body answers, none where the line breaks its form
abbrev pub Says : List Word → Option Item → Type 0
Says ws (Some Terminal) = is_some (terminal_of ws) ≡ true
Says ws (Some (Block o)) = (is_some (terminal_of ws) ≡ false) × (outline_of ws ≡ Some (o.name.now, o.corners))
Says ws None = (is_some (terminal_of ws) ≡ false) × (outline_of ws ≡ None)
