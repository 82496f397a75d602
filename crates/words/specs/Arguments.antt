-- The forms of arguments: the words behind a command's name.
use Rattle.std.specs.Prelude.{Bool, true, false, cond, List, [], ◌∷◌, Some, None, Option}
use Rattle.words.specs.Words.{Word, first}

-- what f makes of an argument and of the words behind it; nothing where there is no such argument
abbrev pub then : {A B : Type 0} → Option (A × List Word) → (A → List Word → Option B) → Option B
then None f = None
then (Some p) f = f p.0 p.1

-- the first word as an argument, and then f
abbrev pub argument : {A B : Type 0} → (Word → Option A) → (A → List Word → Option B) → List Word → Option B
argument says f ws = then (first says ws) f

-- whether no word is left
abbrev pub no_more : List Word → Bool
no_more [] = true
no_more (w ∷ ws) = false

-- no more arguments
abbrev pub end : {B : Type 0} → B → List Word → Option B
end b ws = cond (no_more ws) (Some b) None

-- one argument and no more
abbrev pub one : {A : Type 0} → (Word → Option A) → List Word → Option A
one f = argument f (λ a. end a)

-- two
abbrev pub two : {A B : Type 0} → (Word → Option A) → (Word → Option B) → List Word → Option (A × B)
two f g = argument f (λ a. argument g (λ b. end (a, b)))

-- three
abbrev pub three : {A B C : Type 0} → (Word → Option A) → (Word → Option B) → (Word → Option C) → List Word → Option (A × B × C)
three f g h = argument f (λ a. argument g (λ b. argument h (λ c. end (a, b, c))))
