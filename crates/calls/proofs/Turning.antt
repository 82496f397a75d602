-- The first call out of turn, found call by call, and what it says of the state behind the list.
use Rattle.std.proofs.Common.{◌≡◌, ℕ, ◌+◌, ◌<◌, ◌≤◌, List, [], ◌∷◌, map, length, get_or, drop, Some, None, Ok, Err, Option, sym, refl, ap, ◌∙◌}
use Rattle.std.proofs.lemmas.List.{at_drop_more, at_drop_all}
use Rattle.std.specs.Option.{ok_or}
use Rattle.rules.specs.Book.{Call, State, settled, tried, out_of_turn, next, state_from}
use Rattle.theorems.proofs.Books.{out_of_turn_stays}
use Rattle.calls.specs.declared.call.Stop.{Stop}
use Rattle.calls.specs.declared.turns.Turn.{Turn}
use Rattle.calls.specs.declared.turns.Turn.TheVariants.{Settled, Tried}
use Rattle.calls.specs.Turns.{out_at, first_out}
use Rattle.calls.specs.Said.{as_state}

pub settled_open : settled ≡ out_of_turn → ⊥
settled_open e = cc

pub tried_open : tried ≡ out_of_turn → ⊥
tried_open e = cc

-- a call in turn is not the one looked for
passed : (t : Turn) (i : ℕ) (after : Option ℕ) → out_at (as_state (Some t)) i after ≡ after
passed Settled i after = refl
passed Tried i after = refl

module _ {A : Type 0} (said : A → Call) (calls : List A) (i : ℕ) (d : A) (h : i < length calls) (s : State) where
  first_out_at : first_out s i (map said (drop i calls)) ≡ out_at (next s (said (get_or calls i d))) i (first_out (next s (said (get_or calls i d))) (i + 1) (map said (drop (i + 1) calls)))
  first_out_at = at_drop_more (λ l. first_out s i (map said l)) calls i d h

  pub first_out_here : out_of_turn ≡ next s (said (get_or calls i d)) → Some i ≡ first_out s i (map said (drop i calls))
  first_out_here e = ap (λ t. out_at t i (first_out t (i + 1) (map said (drop (i + 1) calls)))) e ∙ sym first_out_at

  pub first_out_later : (t : Turn) → as_state (Some t) ≡ next s (said (get_or calls i d))
      → first_out (as_state (Some t)) (i + 1) (map said (drop (i + 1) calls)) ≡ first_out s i (map said (drop i calls))
  first_out_later t e = sym (passed t i _) ∙ ap (λ u. out_at u i (first_out u (i + 1) (map said (drop (i + 1) calls)))) e ∙ sym first_out_at

-- a state, or none, told as an answer
pub was_some : (o : Option Turn) (e : Stop) (t : Turn) → Ok t ≡ ok_or o e → o ≡ Some t
was_some None e t h = cc
was_some (Some u) e t h = cc

pub was_none : (o : Option Turn) (e s : Stop) → Err s ≡ ok_or o e → (o ≡ None) × (s ≡ e)
was_none None e s h = (refl, cc)
was_none (Some u) e s h = cc

pub first_out_none : {A : Type 0} (said : A → Call) (calls : List A) (i : ℕ) (s : State) → length calls ≤ i → None ≡ first_out s i (map said (drop i calls))
first_out_none said calls i s h = sym (at_drop_all (λ l. first_out s i (map said l)) calls i h)

-- nothing found at a call: it is in turn, and nothing is found after it
none_at : (t : State) (i : ℕ) (after : Option ℕ) → out_at t i after ≡ None → (t ≡ out_of_turn → ⊥) × (after ≡ None)
none_at settled i after h = (settled_open, h)
none_at tried i after h = (tried_open, h)
none_at out_of_turn i after h = cc

-- nothing found: the list is in turn
pub in_turn : (s : State) (i : ℕ) (cs : List Call) → (s ≡ out_of_turn → ⊥) → first_out s i cs ≡ None → state_from s cs ≡ out_of_turn → ⊥
in_turn s i [] ok h e = ok e
in_turn s i (c ∷ cs) ok h e = let n = none_at (next s c) i _ h in in_turn (next s c) (i + 1) cs n.0 n.1 e

-- a call found: it is out of turn, or a later one is
some_at : (t : State) (i k : ℕ) (cs : List Call) (after : Option ℕ) → (after ≡ Some k → state_from t cs ≡ out_of_turn) → out_at t i after ≡ Some k → state_from t cs ≡ out_of_turn
some_at settled i k cs after later h = later h
some_at tried i k cs after later h = later h
some_at out_of_turn i k cs after later h = out_of_turn_stays cs

-- a call found: the list is out of turn
pub not_in_turn : (s : State) (i : ℕ) (cs : List Call) (k : ℕ) → first_out s i cs ≡ Some k → state_from s cs ≡ out_of_turn
not_in_turn s i [] k h = cc
not_in_turn s i (c ∷ cs) k h = some_at (next s c) i k cs _ (not_in_turn (next s c) (i + 1) cs k) h
