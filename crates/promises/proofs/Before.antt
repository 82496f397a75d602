-- Which of two numbers stands first in a list.
use Rattle.std.proofs.Common.{ℕ, ◌⊎◌, List, [], ◌∷◌, ◌++◌, inl, inr}
use mathlib.Core.List.{reverse_aux}
use Rattle.rules.specs.Trees.{Among, Distinct}
use Rattle.promises.specs.Relation.{Before}

pub first_in : (i j : ℕ) (ks : List ℕ) → Before i j ks → Among i ks
first_in i j [] b = absurd b
first_in i j (k ∷ ks) (inl (e, m)) = inl e
first_in i j (k ∷ ks) (inr b) = inr (first_in i j ks b)

pub second_behind : (i j k : ℕ) (ks : List ℕ) → Before i j (k ∷ ks) → Among j ks
second_behind i j k ks (inl (e, m)) = m
second_behind i j k [] (inr b) = absurd b
second_behind i j k (l ∷ ks) (inr b) = inr (second_behind i j l ks b)

-- in a list without repetition, what is before j is in the part before j
pub in_front : (i j : ℕ) (ds js : List ℕ) → Distinct (ds ++ (j ∷ js)) → Before i j (ds ++ (j ∷ js)) → Among i ds
in_front i j [] js d b = absurd (d.0 (second_behind i j j js b))
in_front i j (k ∷ ds) js d (inl (e, m)) = inl e
in_front i j (k ∷ ds) js d (inr b) = inr (in_front i j ds js d.1 b)

-- what j before i in the list xs, turned round before ys, comes from
abbrev Turned : ℕ → ℕ → List ℕ → List ℕ → Type 0
Turned i j xs ys = Before i j xs ⊎ ((Among j xs × Among i ys) ⊎ Before j i ys)

turned_more : (i j a : ℕ) (xs ys : List ℕ) → Turned i j (a ∷ xs) ys → Turned i j xs (a ∷ ys)
turned_more i j a xs ys (inl (inl (e, m))) = inr (inl (m, inl e))
turned_more i j a xs ys (inl (inr b)) = inl b
turned_more i j a xs ys (inr (inl (inl e, n))) = inr (inr (inl (e, n)))
turned_more i j a xs ys (inr (inl (inr m, n))) = inr (inl (m, inr n))
turned_more i j a xs ys (inr (inr b)) = inr (inr (inr b))

turned_less : (i j a : ℕ) (xs ys : List ℕ) → Turned i j xs (a ∷ ys) → Turned i j (a ∷ xs) ys
turned_less i j a xs ys (inl b) = inl (inr b)
turned_less i j a xs ys (inr (inl (m, inl e))) = inl (inl (e, m))
turned_less i j a xs ys (inr (inl (m, inr n))) = inr (inl (inr m, n))
turned_less i j a xs ys (inr (inr (inl (e, n)))) = inr (inl (inl e, n))
turned_less i j a xs ys (inr (inr (inr b))) = inr (inr b)

turn : (i j : ℕ) (xs ys : List ℕ) → Turned i j xs ys → Before j i (reverse_aux xs ys)
turn i j [] ys (inl b) = absurd b
turn i j [] ys (inr (inl (m, n))) = absurd m
turn i j [] ys (inr (inr b)) = b
turn i j (a ∷ xs) ys t = turn i j xs (a ∷ ys) (turned_more i j a xs ys t)

turn_back : (i j : ℕ) (xs ys : List ℕ) → Before j i (reverse_aux xs ys) → Turned i j xs ys
turn_back i j [] ys b = inr (inr b)
turn_back i j (a ∷ xs) ys b = turned_less i j a xs ys (turn_back i j xs (a ∷ ys) b)

-- a list turned round has its pairs turned round
pub before_turned : (i j : ℕ) (xs : List ℕ) → Before i j xs → Before j i (reverse_aux xs [])
before_turned i j xs b = turn i j xs [] (inl b)

pub turned_before : (i j : ℕ) (xs : List ℕ) → Before j i (reverse_aux xs []) → Before i j xs
turned_before i j xs b = elim (turn_back i j xs [] b) [ inl h ↦ h | inr (inl (m, n)) ↦ absurd n | inr (inr h) ↦ absurd h ]
