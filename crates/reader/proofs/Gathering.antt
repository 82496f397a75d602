-- A line of the body, by what it says.
use Rattle.std.proofs.Common.{◌≡◌, ℕ, ◌+◌, true, false, List, [], ◌∷◌, ◌++◌, is_some, Some, Ok, Err, Result, ap, ◌∙◌, arith}
use Rattle.std.proofs.lemmas.Bool.{cond-true, cond-false}
use Rattle.rules.specs.declared.refusals.Refusal.{Refusal}
use Rattle.words.specs.Words.{Word}
use Rattle.grammar.specs.declared.outlines.Corners.{Corners}
use Rattle.grammar.specs.Lines.{Line}
use Rattle.grammar.specs.Forms.{terminal_of, outline_of, size_of}
use Rattle.reader.specs.declared.counts.Counts.{Counts}
use Rattle.reader.specs.Text.{Block, and_then, words_of, sized_block, outlined_block, body}

pub err_ok : {A B : Type 0} {e : B} {a : A} → Err e ≡ Ok a → ⊥
err_ok {A} {B} {e} {a} h = let z : ◌≡◌ {A = ℕ} 0 1 = ap tag h in omega arith
  where
    tag : Result A B → ℕ
    tag (Err x) = 0
    tag (Ok x) = 1

module _ (c : Counts) (blocks : List Block) (terminals : ℕ) (l : Line) (ls : List Line) where
  pub with_terminal : is_some (terminal_of (words_of l)) ≡ true → body c blocks terminals (l ∷ ls) ≡ body c blocks (terminals + 1) ls
  unfolding body
  with_terminal t = cond-true (is_some (terminal_of (words_of l))) _ _ t

  module _ (other : is_some (terminal_of (words_of l)) ≡ false) where
    pub with_block : body c blocks terminals (l ∷ ls) ≡ and_then (outlined_block blocks l (outline_of (words_of l))) (λ b. body c (blocks ++ b ∷ []) terminals ls)
    unfolding body
    with_block = cond-false (is_some (terminal_of (words_of l))) _ _ other

    pub with_outline : (n : Word) (q : Corners) (r : Result Block Refusal) → outline_of (words_of l) ≡ Some (n, q) → sized_block blocks l n (size_of q) ≡ r → body c blocks terminals (l ∷ ls) ≡ and_then r (λ b. body c (blocks ++ b ∷ []) terminals ls)
    with_outline n q r e s =
        with_block ∙ ap (λ o. and_then (outlined_block blocks l o) (λ b. body c (blocks ++ b ∷ []) terminals ls)) e ∙
        ap (λ x. and_then x (λ b. body c (blocks ++ b ∷ []) terminals ls)) s
