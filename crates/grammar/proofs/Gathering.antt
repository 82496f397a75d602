-- Words are gathered one by one.
use Rattle.std.proofs.Common.{◌≡◌, ℕ, ◌+◌, ◌<◌, ◌≤◌, List, [], ◌∷◌, ◌++◌, map, length, take, set, sym, ap, ◌∙◌, append_assoc, arith}
use Rattle.std.proofs.lemmas.List.{take_more_set, take-set, map_push, take_all, take_at, length-map, length-take-le, append-nil}
use Rattle.words.specs.Words.{Word}

module _ {X : Type 0} (f : X → Word) (room : List X) (n : ℕ) (rest all : List Word) (e : map f (take n room) ++ rest ≡ all) where
  -- one more word found, and one fewer left
  pub one_more : (x : X) (after : List Word) → n < length room → rest ≡ f x ∷ after → map f (take (n + 1) (set room n x)) ++ after ≡ all
  one_more x after h r =
      ap (λ l. map f l ++ after) (take_more_set room n x h) ∙ ap (λ l. l ++ after) (map_push f (take n room) x) ∙
      append_assoc (map f (take n room)) (f x ∷ []) after ∙ ap (λ l. map f (take n room) ++ l) (sym r) ∙ e

  -- the room is full
  pub found_full : (most : ℕ) → n ≡ most → length room ≡ most → map f (take most room) ≡ take most all
  found_full most full h =
      ap (λ k. map f (take k room)) (sym full) ∙
      sym (take_at (map f (take n room)) rest most (length-map (take n room) f ∙ length-take-le n room (omega arith) ∙ full)) ∙ ap (take most) e

  -- no word is left
  pub found_all : (x : X) (most : ℕ) → n ≤ most → n ≤ length room → rest ≡ [] → map f (take n (set room n x)) ≡ take most all
  found_all x most few within h =
      let whole : map f (take n room) ≡ all = sym (append-nil _) ∙ ap (λ l. map f (take n room) ++ l) (sym h) ∙ e in
      ap (map f) (take-set room n x) ∙ whole ∙ sym (take_all most all (omega (arith, ap length whole, length-map (take n room) f, length-take-le n room within)))
