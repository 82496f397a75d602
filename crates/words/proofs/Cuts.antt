-- The first line of a text, by the place of its LF.
use Rattle.std.proofs.Common.{◌≡◌, ℕ, suc, ◌+◌, Bool, true, false, cond, not, eqb, List, [], ◌∷◌, take, drop, refl, ap, ◌∙◌, arith}
use Rattle.std.specs.List.{position_or_len}
use Rattle.words.specs.Lines.{first_line, behind_line}

-- n bytes stand before the first LF, or the end
pub cut_line : (bs : List ℕ) (n : ℕ) → n ≡ position_or_len (λ b. eqb b 10) bs → (take n bs ≡ first_line bs) × (drop 1 (drop n bs) ≡ behind_line bs)
unfolding first_line behind_line
cut_line [] n e = let none : n ≡ 0 = e in (ap (λ k. take k []) none, ap (λ k. drop 1 (drop k [])) none)
cut_line (b ∷ bs) n e = at (eqb b 10) (cut_line bs (position_or_len (λ b. eqb b 10) bs) refl) e
  where
    p : ℕ
    p = position_or_len (λ b. eqb b 10) bs

    at : (lf : Bool) → (take p bs ≡ first_line bs) × (drop 1 (drop p bs) ≡ behind_line bs) → n ≡ cond (not lf) (1 + p) 0 → (take n (b ∷ bs) ≡ cond lf [] (b ∷ first_line bs)) × (drop 1 (drop n (b ∷ bs)) ≡ cond lf bs (behind_line bs))
    at true rest e = (ap (λ k. take k (b ∷ bs)) e, ap (λ k. drop 1 (drop k (b ∷ bs))) e)
    at false rest e =
        let more : n ≡ suc p = omega (arith, e) in
        (ap (λ k. take k (b ∷ bs)) more ∙ ap (λ l. b ∷ l) rest.0, ap (λ k. drop 1 (drop k (b ∷ bs))) more ∙ rest.1)
