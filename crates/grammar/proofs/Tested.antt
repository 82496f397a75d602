-- What breaks a form, by the words of a slice.
use Rattle.std.proofs.Common.{◌≡◌, ◌<◌, false, List, [], ◌∷◌, map, length, Some, None, Option, refl, ap, arith}
use Rattle.std.proofs.lemmas.List.{length-map}
use Rattle.words.specs.Words.{Word}
use Rattle.words.specs.Arguments.{no_more}
use Rattle.grammar.specs.Forms.{outline_of}
use Rattle.grammar.proofs.Exact.{outline_law}

pub none_since : {A : Type 0} (o : Option A) → ((a : A) → o ≡ Some a → ⊥) → o ≡ None
none_since None h = refl
none_since (Some a) h = absurd (h a refl)

module _ {X : Type 0} (f : X → Word) where
  -- a word is left
  pub more_words : (ws : List X) → 0 < length ws → no_more (map f ws) ≡ false
  more_words [] h = absurd (omega arith)
  more_words (w ∷ ws) h = refl

  pub outline_short : (ws : List X) → length ws < 3 → outline_of (map f ws) ≡ None
  outline_short ws h =
      none_since (outline_of (map f ws)) (λ p e. omega (arith, length-map ws f, ap length ((outline_law (map f ws) p.0 p.1).0 e).form))
