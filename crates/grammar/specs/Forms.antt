-- The grammar of a line, by its words.
use Rattle.std.specs.Prelude.{ℕ, Bool, true, cond, ◌&&◌, List, [], ◌∷◌, Some, None, codes, Option, ◌==◌}
use Rattle.std.specs.Str.{bytes_eq}
use Rattle.rules.specs.declared.blocks.Size.{Size}
use Rattle.words.specs.Words.{Word}
use Rattle.words.specs.Numbers.{number_of}
use Rattle.words.specs.Arguments.{then, argument, end}
use Rattle.names.specs.Names.{is_name}
use Rattle.grammar.specs.declared.outlines.Point.{Point}
use Rattle.grammar.specs.declared.outlines.Corners.{Corners}

-- this word, and then what follows
abbrev pub word : {B : Type 0} → Word → (List Word → Option B) → List Word → Option B
word this next [] = None
word this next (w ∷ ws) = cond (bytes_eq w this) (next ws) None

-- a word that is a name
abbrev pub name_word : Word → Option Word
name_word w = cond (is_name w) (Some w) None

-- UCSC blocks 1.0
abbrev pub header_of : List Word → Option Bool
header_of = word (codes "UCSC") (word (codes "blocks") (word (codes "1.0") (end true)))

-- label : number
abbrev pub count_of : Word → List Word → Option ℕ
count_of label = word label (word (codes ":") (argument number_of (λ n. end n)))

-- name terminal
abbrev pub terminal_of : List Word → Option Word
terminal_of = argument name_word (λ n. word (codes "terminal") (end n))

-- ( number , number ) and the words behind it
abbrev pub vertex_of : List Word → Option (Point × List Word)
vertex_of =
    word (codes "(")
    (argument number_of (λ x. word (codes ",") (argument number_of (λ y. word (codes ")") (λ rest. Some (record { x = x; y = y }, rest))))))

-- vertex vertex vertex vertex
abbrev pub corners_of : List Word → Option Corners
corners_of ws =
    then (vertex_of ws)
    (λ a ws. then (vertex_of ws)
    (λ b ws. then (vertex_of ws)
    (λ c ws. then (vertex_of ws)
    (λ d ws. end (record { first = a; second = b; third = c; fourth = d }) ws))))

-- the corners behind a name
abbrev pub with_name : Word → Option Corners → Option (Word × Corners)
with_name n None = None
with_name n (Some q) = Some (n, q)

-- name hardrectilinear 4 corners
abbrev pub outline_of : List Word → Option (Word × Corners)
outline_of = argument name_word (λ n. word (codes "hardrectilinear") (word (codes "4") (λ rest. with_name n (corners_of rest))))

-- the size of the rectangle (0, 0) (0, height) (width, height) (width, 0)
abbrev pub size_of : Corners → Option Size
size_of q =
    cond
    (q.first.x == 0 && (q.first.y == 0 && (q.second.x == 0 && (q.second.y == q.third.y && (q.fourth.x == q.third.x && q.fourth.y == 0)))))
    (Some (record { width = q.third.x; height = q.third.y })) None
