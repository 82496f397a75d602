use Rattle.std.proofs.Common.{◌≡◌, ℕ, List, length, set, ap, ◌∙◌, inl, inr}
use Rattle.std.proofs.lemmas.Bool.{cases_lt}
use Rattle.std.proofs.lemmas.List.{set-set, set-get_or, set_past, get_or-set_same}
use Rattle.rules.specs.declared.blocks.Size.{Size}
use Rattle.rules.specs.Plans.{Plan, size_at}
use Rattle.rules.specs.Edits.{edited, turned}
use Rattle.theorems.proofs.turn_twice.Goals as goal

-- the size at i with its sides exchanged
abbrev turned_at : ℕ → List Size → List Size
turned_at i ss = set ss i (turned (size_at ss i))

turned_back : (i : ℕ) (ss : List Size) → turned_at i (turned_at i ss) ≡ ss
turned_back i ss = elim (cases_lt i (length ss)) [
  | inl h ↦
      set-set ss i _ _ ∙ ap (λ s. set ss i (turned s)) (get_or-set_same ss i (turned (size_at ss i)) _ h) ∙ set-get_or ss i _
  | inr h ↦ ap (turned_at i) (set_past ss i _ h) ∙ set_past ss i _ h
]

pub returns : goal.returns
unfolding edited
returns c = λ p i. ap {B = Plan} (λ ss. record { sizes = ss; letters = p.letters; tree = p.tree }) (turned_back i p.sizes)
