-- The largest height over a part of the numbers.
use Rattle.std.proofs.Common.{◌≡◌, ℕ, ◌+◌, ◌-◌, ◌<◌, ◌≤◌, List, length, get_or, sym, ap, ◌∙◌, arith}
use Rattle.std.specs.Prelude.{slice_index, EachIndex}
use Rattle.std.specs.List.{between}
use Rattle.std.proofs.lemmas.List.Edits.{length-between, get_or-between}
use Rattle.rules.specs.Skylines.{Sky, Largest}

part_at : (xs : List ℕ) (a b c : ℕ) → a ≤ c → c < b → slice_index (between a b xs) (c - a) ≡ slice_index xs c
part_at xs a b c l u = let i : a + (c - a) ≡ c = omega arith in get_or-between xs a b (c - a) 0 (omega arith) ∙ ap (λ k. get_or xs k 0) i

-- the largest of the numbers from a to b - 1 is the largest height of those columns
pub largest_part : (s : Sky) (xs : List ℕ) (a b m : ℕ) → a < b → b ≤ length xs → ((c : ℕ) → s.height c ≡ slice_index xs c)
    → EachIndex (between a b xs) (λ k. slice_index (between a b xs) k ≤ m)
    → (k : ℕ) × (k < length (between a b xs)) × (slice_index (between a b xs) k ≡ m)
    → Largest s a b m
largest_part s xs a b m some within heights bounds met =
    let size = length-between xs a b within in
    record {
      bounds = λ c l u. omega (arith, heights c, part_at xs a b c l u, bounds (c - a) (omega arith));
      met_at = a + met.0;
      from_a = omega arith;
      to_b = omega (arith, met.1);
      is_met = heights (a + met.0) ∙ sym (get_or-between xs a b met.0 0 (omega (arith, met.1))) ∙ met.2;
    }
