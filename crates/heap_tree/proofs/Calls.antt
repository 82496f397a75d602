-- An array made by a function that each call leaves as it was.
use Rattle.std.proofs.Common.{◌≡◌, ℕ, zero, suc, ◌+◌, ◌<◌, ◌≤◌, List, get_or, map, sym, ◌∙◌, subst, inl, inr, arith}
use Rattle.std.specs.List.{range_with_len}
use Rattle.std.specs.Array.{IsFromFnResult, IsFromFnResultFrom}
use Rattle.std.specs.Fn.{Called}
use Rattle.std.proofs.lemmas.Bool.{cases_eq}
use Rattle.std.proofs.lemmas.List.FromFn.{fill_by_all}
use denote.Param.Members.{Mut}

module _ {F B : Type 0} (g : Mut F (ℕ × Unit {0}) B) (f : F) (h : ℕ → B) (d : B)
    (calls : (i : ℕ) (y : B) (q : F) → Called g f (i, tt) y q → (q ≡ f) × (y ≡ h i)) where
  each : (ys : List B) (i n k : ℕ) → IsFromFnResultFrom g f ys i n → i ≤ k → k < i + n → get_or ys k d ≡ h k
  each ys i zero k r lo hi = absurd (omega arith)
  each ys i (suc n) k r lo hi = elim (cases_eq k i) [
    | inl e ↦ subst (λ j. get_or ys j d ≡ h j) (sym e) (r.2.1 d ∙ (calls i r.1 r.0 r.3).1)
    | inr a ↦ each ys (i + 1) n k (subst (λ q. IsFromFnResultFrom g q ys (i + 1) n) (calls i r.1 r.0 r.3).0 r.4) (omega arith) (omega arith)
  ]

  pub made_by : (ys : List B) (n : ℕ) → IsFromFnResult g f ys n → ys ≡ map h (range_with_len 0 n)
  made_by ys n r = fill_by_all h ys n d r.long (λ k l. each ys 0 n k r.each (omega arith) (omega arith))
