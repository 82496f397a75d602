-- What is known of the blocks that a text says.
use Rattle.std.proofs.Common.{◌≡◌, ℕ, ◌+◌, ◌≤◌, true, List, [], ◌∷◌, length, Ok, arith, length-append}
use Rattle.std.specs.List.{AllByRecursion}
use Rattle.rules.specs.Plans.{size_fits}
use Rattle.grammar.specs.Lines.{Line}
use Rattle.reader.specs.Text.{Block, said}
use Rattle.reader.specs.Accepted.{BodyLines, end_of_lines, terminal_line, block_line}
use Rattle.reader.proofs.Accepting.{accepted_law}

-- a block whose sides are in range
abbrev pub Fits : Block → Type 0
Fits b = size_fits b.size ≡ true

-- the text is not too long, and its blocks are few enough and have sides in range
pub record Fine (text : List ℕ) (bs : List Block) : Type 0 where
  pub short : length text ≤ 65536
  pub few : length bs ≤ 512
  pub fit : AllByRecursion Fits bs

lines_fine : (before : List Block) (ls : List Line) (bs : List Block) (t : ℕ) → BodyLines before ls bs t → length before ≤ 512 → (length before + length bs ≤ 512) × AllByRecursion Fits bs
lines_fine before _ _ _ end_of_lines h = (omega arith, tt)
lines_fine before _ bs _ (terminal_line {ls = ls} {t = t} n i rest) h = lines_fine before ls bs t rest h
lines_fine before _ _ t (block_line {ls = ls} {b = b} {bs = bs} i rest) h =
    let long = length-append before (b ∷ []) in
    let r = lines_fine _ ls bs t rest (omega (arith, i.room)) in
    (omega (arith, r.0), (i.fits, r.1))

pub said_fine : (text : List ℕ) (bs : List Block) → said text ≡ Ok bs → Fine text bs
said_fine text bs says =
    let a = (accepted_law text bs).0 says in
    let r = lines_fine [] a.rest bs a.count a.body_is (omega arith) in
    record { short = a.few; few = omega (arith, r.0); fit = r.1 }
