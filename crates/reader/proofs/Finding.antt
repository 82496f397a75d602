-- One more block.
use Rattle.std.proofs.Common.{◌≡◌, ℕ, ◌+◌, ◌<◌, ◌≤◌, Bool, true, false, cond, not, ◌||◌, leb, List, [], ◌∷◌, ◌++◌, map, reverse, length, take, Some, Ok, Err, Option, sym, refl, ap, ◌∙◌, arith}
use Rattle.std.specs.List.{list_any}
use Rattle.std.specs.Str.{bytes_eq}
use Rattle.std.proofs.lemmas.List.{length-map, length-take, length-reverse, reverse-reverse, reverse-append, map_push}
use Rattle.std.proofs.lemmas.Bool.{cond-true, cond-false, le-leb, lt-leb}
use Rattle.rules.specs.declared.blocks.Size.{Size}
use Rattle.rules.specs.declared.refusals.Refusal.TheVariants.{TooManyBlocks, RepeatedName}
use Rattle.rules.specs.Plans.{size_fits}
use Rattle.words.specs.Words.{Word}
use Rattle.grammar.specs.declared.outlines.Corners.{Corners}
use Rattle.grammar.specs.Words.{words, indent}
use Rattle.grammar.specs.Lines.{Line}
use Rattle.grammar.specs.Forms.{outline_of}
use Rattle.grammar.proofs.Splits.{first_stands}
use Rattle.grammar.proofs.Exact.{outline_law}
use Rattle.stack.specs.declared.stack.Stack.{Stack}
use Rattle.stack.specs.Stacked.{held, room}
use Rattle.reader.specs.declared.blocks.Found.{Found}
use Rattle.reader.specs.declared.blocks.Blocks.{Blocks}
use Rattle.reader.specs.Text.{Block, Answer, and_then, known, block_in, sized_block}
use Rattle.reader.specs.Found.{block_of, blocks_of}

-- the name of a line's block stands in the line
pub name_within : (bytes : List ℕ) (n : Word) (q : Corners) → outline_of (words bytes) ≡ Some (n, q) → indent bytes + length n ≤ length bytes
name_within bytes n q says = (first_stands bytes n _ ((outline_law (words bytes) n q).0 says).form).within

pub length_blocks : (bs : Blocks) → length (blocks_of bs) ≡ length (held bs.found)
length_blocks bs = length-map (reverse (held bs.found)) block_of ∙ length-reverse (held bs.found)

-- a stack lends no more than it has room for
pub few_lent : (s : Stack Found) (lent : List Found) → held s ≡ reverse lent → length lent ≤ room s
unfolding held room
few_lent s lent e =
    omega (arith, ap length e, length-reverse lent, length-reverse (take s.len s.items.now), length-take s.len s.items.now, s.fits)

known_map : (n : Word) (fs : List Found) → known n (map block_of fs) ≡ list_any (λ f. bytes_eq f.name.now n) fs
known_map n [] = refl
known_map n (f ∷ fs) = ap (λ b. bytes_eq f.name.now n || b) (known_map n fs)

-- a name is sought among the blocks as the stack lends them
pub known_in : (n : Word) (bs : Blocks) (lent : List Found) (b : Bool) → held bs.found ≡ reverse lent → list_any (λ f. bytes_eq f.name.now n) lent ≡ b → known n (blocks_of bs) ≡ b
known_in n bs lent b e h =
    ap (λ l. known n (map block_of l)) (ap reverse e ∙ reverse-reverse lent) ∙ known_map n lent ∙ h

-- a block of right size
module _ (bs : Blocks) (l : Line) (n : Word) (s : Size) (o : Option Size) (is : Some s ≡ o) (fits : size_fits s ≡ true) where
  sized : sized_block (blocks_of bs) l n o ≡ cond (known n (blocks_of bs)) (Err (RepeatedName l.number)) (cond (leb 512 (length (blocks_of bs))) (Err (TooManyBlocks l.number)) (Ok (block_in l n s)))
  sized = ap (sized_block (blocks_of bs) l n) (sym is) ∙ cond-false (not (size_fits s)) _ _ (ap not fits)

  pub repeated : known n (blocks_of bs) ≡ true → sized_block (blocks_of bs) l n o ≡ Err (RepeatedName l.number)
  repeated h = sized ∙ cond-true (known n (blocks_of bs)) _ _ h

  module _ (new : known n (blocks_of bs) ≡ false) where
    pub no_room : 512 ≤ length (held bs.found) → sized_block (blocks_of bs) l n o ≡ Err (TooManyBlocks l.number)
    no_room h = sized ∙ cond-false (known n (blocks_of bs)) _ _ new ∙ cond-true (leb 512 (length (blocks_of bs))) _ _ (le-leb _ _ (omega (arith, length_blocks bs)))

    pub added : (after : Stack Found) (f : Found) → length (held bs.found) < 512 → held after ≡ f ∷ held bs.found → block_of f ≡ block_in l n s → (next : List Block → Answer) → and_then (sized_block (blocks_of bs) l n o) (λ b. next (blocks_of bs ++ b ∷ [])) ≡ next (map block_of (reverse (held after)))
    added after f few more made next =
        ap (λ r. and_then r (λ b. next (blocks_of bs ++ b ∷ [])))
        (sized ∙ cond-false (known n (blocks_of bs)) _ _ new ∙ cond-false (leb 512 (length (blocks_of bs))) _ _ (lt-leb _ _ (omega (arith, length_blocks bs)))) ∙
        ap (λ b. next (blocks_of bs ++ b ∷ [])) (sym made) ∙
        ap next
        (sym (ap (λ fs. map block_of (reverse fs)) more ∙ ap (map block_of) (reverse-append (f ∷ []) (held bs.found)) ∙ map_push block_of (reverse (held bs.found)) f))
