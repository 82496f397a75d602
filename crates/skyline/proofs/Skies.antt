-- What a caller of any skyline learns from its answers.
use Rattle.std.proofs.Common.{◌≡◌, ℕ, ◌<◌, ◌≤◌, Ok, Err, Result, refl, ap, inl, inr, arith}
use Rattle.rules.specs.declared.refusals.Refusal.{Refusal}
use Rattle.rules.specs.declared.refusals.Refusal.TheVariants.{BelowHighest}
use Rattle.rules.specs.Skylines.{Sky, Within, NoneAbove, Largest, Unaltered, Raised, Highest, Raise}

-- the largest height is one number
pub largest_one : (s : Sky) (a b m n : ℕ) → Largest s a b m → Largest s a b n → m ≡ n
largest_one s a b m n p q =
    let x = p.bounds q.met_at q.from_a q.to_b in
    let y = q.bounds p.met_at p.from_a p.to_b in
    omega (arith, p.is_met, q.is_met)

-- highest answers the largest height, if the span is right
pub highest_is : (s : Sky) (a b m : ℕ) (r : Result ℕ Refusal) → Highest s a b r → Within s a b → Largest s a b m → r ≡ Ok m
highest_is s a b m (Ok n) v w l = ap Ok (largest_one s a b n m v.1 l)
highest_is s a b m (Err e) v w l = absurd (v.1 w)

-- a raise that passes the four tests is done
pub raise_passes : (s t : Sky) (a b h : ℕ) (r : Result (Unit {0}) Refusal) → Raise s t a b h r
    → Within s a b → h ≤ 134217728 → NoneAbove s a b h → 0 < s.left → (r ≡ Ok tt) × Raised s t a b h
raise_passes s t a b h (Ok u) v w l k p = (refl, v.4)
raise_passes s t a b h (Err e) v w l k p =
    elim v.1 [
      | inl q ↦ absurd (q.1 w)
      | inr q ↦ elim q [
        | inl o ↦ absurd (omega arith)
        | inr o ↦ elim o [ inl n ↦ absurd (n.3 k) | inr n ↦ absurd (omega arith) ]
      ]
    ]

-- a raise below the span's highest is refused with 23
pub raise_below : (s t : Sky) (a b h : ℕ) (r : Result (Unit {0}) Refusal) → Raise s t a b h r
    → Within s a b → h ≤ 134217728 → (NoneAbove s a b h → ⊥) → r ≡ Err BelowHighest
raise_below s t a b h (Ok u) v w l k = absurd (k v.2)
raise_below s t a b h (Err e) v w l k =
    elim v.1 [
      | inl q ↦ absurd (q.1 w)
      | inr q ↦ elim q [
        | inl o ↦ absurd (omega arith)
        | inr o ↦ elim o [ inl n ↦ ap Err n.0 | inr n ↦ absurd (k n.3) ]
      ]
    ]

-- no raise alters C or R, refused or not
pub raise_keeps : (s t : Sky) (a b h : ℕ) (r : Result (Unit {0}) Refusal) → Raise s t a b h r → (t.columns ≡ s.columns) × (t.raises ≡ s.raises)
raise_keeps s t a b h (Ok u) v = (v.4.columns, v.4.raises)
raise_keeps s t a b h (Err e) v = (v.0.columns, v.0.raises)

-- a refused raise alters nothing
pub raise_refused : (s t : Sky) (a b h : ℕ) (r : Result (Unit {0}) Refusal) (e : Refusal) → Raise s t a b h r → r ≡ Err e → Unaltered s t
raise_refused s t a b h (Ok u) e v q = let z : ◌≡◌ {A = ℕ} 0 1 = cc in absurd (omega arith)
raise_refused s t a b h (Err x) e v q = v.0
