-- Members of lists, and lists without repetition.
use Rattle.std.proofs.Common.{ℕ, ◌⊎◌, List, [], ◌∷◌, ◌++◌, map, sym, refl, ap, subst, inl, inr}
use mathlib.Core.List.{reverse_aux}
use Rattle.rules.specs.Trees.{Among, Distinct}

pub among_split : {A : Type 0} (x : A) (xs ys : List A) → Among x (xs ++ ys) → Among x xs ⊎ Among x ys
among_split x [] ys m = inr m
among_split x (a ∷ xs) ys (inl e) = inl (inl e)
among_split x (a ∷ xs) ys (inr m) = elim (among_split x xs ys m) [ inl h ↦ inl (inr h) | inr h ↦ inr h ]

pub among_left : {A : Type 0} (x : A) (xs ys : List A) → Among x xs → Among x (xs ++ ys)
among_left x [] ys m = absurd m
among_left x (a ∷ xs) ys (inl e) = inl e
among_left x (a ∷ xs) ys (inr m) = inr (among_left x xs ys m)

pub among_right : {A : Type 0} (x : A) (xs ys : List A) → Among x ys → Among x (xs ++ ys)
among_right x [] ys m = m
among_right x (a ∷ xs) ys m = inr (among_right x xs ys m)

pub among_map : {A B : Type 0} (f : A → B) (x : A) (xs : List A) → Among x xs → Among (f x) (map f xs)
among_map f x [] m = absurd m
among_map f x (a ∷ xs) (inl e) = inl (ap f e)
among_map f x (a ∷ xs) (inr m) = inr (among_map f x xs m)

-- the members of xs turned round before ys
pub among_turned : {A : Type 0} (x : A) (xs ys : List A) → Among x (xs ++ ys) → Among x (reverse_aux xs ys)
among_turned x [] ys m = m
among_turned x (a ∷ xs) ys (inl e) = among_turned x xs (a ∷ ys) (among_right x xs (a ∷ ys) (inl e))
among_turned x (a ∷ xs) ys (inr m) = elim (among_split x xs ys m) [
  | inl h ↦ among_turned x xs (a ∷ ys) (among_left x xs (a ∷ ys) h)
  | inr h ↦ among_turned x xs (a ∷ ys) (among_right x xs (a ∷ ys) (inr h))
]

pub turned_among : {A : Type 0} (x : A) (xs ys : List A) → Among x (reverse_aux xs ys) → Among x (xs ++ ys)
turned_among x [] ys m = m
turned_among x (a ∷ xs) ys m = elim (among_split x xs (a ∷ ys) (turned_among x xs (a ∷ ys) m)) [
  | inl h ↦ inr (among_left x xs ys h)
  | inr (inl e) ↦ inl e
  | inr (inr h) ↦ inr (among_right x xs ys h)
]

-- two lists, each without repetition, that have no number in common
pub record Disjoint (xs ys : List ℕ) : Type 0 where
  pub first : Distinct xs
  pub second : Distinct ys
  pub apart : (i : ℕ) → Among i xs → Among i ys → ⊥

pub distinct_split : (xs ys : List ℕ) → Distinct (xs ++ ys) → Disjoint xs ys
distinct_split [] ys d = record { first = tt; second = d; apart = λ i m. absurd m }
distinct_split (a ∷ xs) ys d =
    let s = distinct_split xs ys d.1 in
    record { first = (λ m. d.0 (among_left a xs ys m), s.first); second = s.second; apart = go s.apart }
  where
    go : ((i : ℕ) → Among i xs → Among i ys → ⊥) → (i : ℕ) → Among i (a ∷ xs) → Among i ys → ⊥
    go h i (inl e) m = d.0 (among_right a xs ys (subst (λ (j : ℕ). Among j ys) e m))
    go h i (inr n) m = h i n m

pub distinct_join : (xs ys : List ℕ) → Disjoint xs ys → Distinct (xs ++ ys)
distinct_join [] ys d = d.second
distinct_join (a ∷ xs) ys d = (
  λ m. elim (among_split a xs ys m) [ inl h ↦ d.first.0 h | inr h ↦ d.apart a (inl refl) h ],
  distinct_join xs ys (record { first = d.first.1; second = d.second; apart = λ i m. d.apart i (inr m) }),
)

distinct_move : (e : ℕ) (xs ys : List ℕ) → Distinct (e ∷ (xs ++ ys)) → Distinct (xs ++ e ∷ ys)
distinct_move e [] ys d = d
distinct_move e (x ∷ xs) ys d = (
  λ m. elim (among_split x xs (e ∷ ys) m) [
    | inl h ↦ d.1.0 (among_left x xs ys h)
    | inr (inl z) ↦ d.0 (inl (sym z))
    | inr (inr h) ↦ d.1.0 (among_right x xs ys h)
  ],
  distinct_move e xs ys (λ m. d.0 (inr m), d.1.1),
)

pub distinct_turned : (xs ys : List ℕ) → Distinct (xs ++ ys) → Distinct (reverse_aux xs ys)
distinct_turned [] ys d = d
distinct_turned (x ∷ xs) ys d = distinct_turned xs (x ∷ ys) (distinct_move x xs ys d)
