-- The load of a tree, refused for its many blocks or made.
use Rattle.std.proofs.Common.{◌≡◌, ℕ, ◌-◌, ◌<◌, ltb, List, [], length, take, drop, Some, Err, Result, refl, ap, ◌∙◌, subst, arith}
use Rattle.std.proofs.lemmas.Bool.{cond-true, lt-ltb}
use Rattle.rules.specs.declared.blocks.Size.{Size}
use Rattle.rules.specs.declared.refusals.Refusal.{Refusal}
use Rattle.rules.specs.declared.refusals.Refusal.TheVariants.{TooManyBlocks}
use Rattle.rules.specs.Loads.{Given, load_refusal}
use Rattle.plan.specs.declared.states.Settled.{Settled}
use Rattle.plan.specs.Calls.{LoadGives}
use Rattle.plan.proofs.Loads.{refused}
use Rattle.heap_tree.specs.Heap.{heap_given, HeapLoad}
use Rattle.heap_tree.proofs.Passing.{only_sizes}

pub too_many : (ss : List Size) (plan : Settled) → 512 < length ss → HeapLoad ss plan plan (Err (TooManyBlocks 0))
too_many ss plan h =
    let is : load_refusal (heap_given ss) ≡ Some (TooManyBlocks 0) = only_sizes ss ∙ cond-true (ltb 512 (length ss)) _ _ (lt-ltb 512 (length ss) h) in
    refused (heap_given ss) plan [] [] (TooManyBlocks 0) _ is refl (λ reason e. refl)

-- a load of the same arguments, in other words
pub loaded : (ss : List Size) (g : Given) (before after : Settled) (walk_before walk_after : List ℕ) (r : Result ℕ Refusal) → g ≡ heap_given ss
    → LoadGives g before after walk_before walk_after r → HeapLoad ss before after r
loaded ss g before after walk_before walk_after r e load =
    let l = subst (λ (h : Given). LoadGives h before after walk_before walk_after r) e load in
    record { answer = l.answer; plan = l.plan; kept = l.kept; walk = λ reason e. refl; told = l.told }

-- a part from the start, as code writes it
pub from_start : {A : Type 0} (n : ℕ) (xs ys : List A) → take n xs ≡ ys → take (n - 0) (drop 0 xs) ≡ ys
from_start n xs ys e = let z : n - 0 ≡ n = omega arith in ap (λ m. take m xs) z ∙ e
