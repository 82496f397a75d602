-- What a new plan is, and what a load gives, refused and made.
use Rattle.std.proofs.Common.{◌≡◌, ℕ, true, List, [], length, vec_items, Some, None, Ok, Err, Result, sym, ap, ◌∙◌, subst}
use Rattle.rules.specs.declared.refusals.Refusal.{Refusal}
use Rattle.rules.specs.Refusals.{answered}
use Rattle.rules.specs.Loads.{Given, load_refusal, given_plan, room_refusal}
use Rattle.theorems.specs.Steps.{plan_loaded, count_loaded}
use Rattle.theorems.proofs.Following.{follows_load, follows_new}
use Rattle.rules.specs.Plans.{new_plan}
use Rattle.rules.specs.Book.{Settles}
use Rattle.table.specs.declared.tables.Table.{Table}
use Rattle.plan.specs.Sound.{Sound, all_fit}
use Rattle.plan.proofs.Sounds.{empty_sound}
use Rattle.plan.specs.declared.states.Settled.{Settled}
use Rattle.plan.specs.Meaning.{meant, settled_plan, settled_kept}
use Rattle.plan.specs.Calls.{LoadGives}

-- the walk memory is as it was where the tests of lengths refuse
abbrev pub Unwalked : Given → List ℕ → List ℕ → Type 0
Unwalked g walk_before walk_after = (reason : Refusal) → room_refusal g None ≡ Some reason → walk_after ≡ walk_before

gives : (g : Given) (before after : Settled) (walk_before walk_after : List ℕ) (r : Result ℕ Refusal) → r ≡ answered (load_refusal g) (length g.sizes)
    → settled_plan after ≡ plan_loaded (load_refusal g) g (settled_plan before) → settled_kept after ≡ count_loaded (load_refusal g) (settled_kept before)
    → Unwalked g walk_before walk_after → LoadGives g before after walk_before walk_after r
gives g before after walk_before walk_after r a p k w = record {
  answer = a;
  plan = p;
  kept = k;
  walk = w;
  told = follows_load g (settled_plan before) (settled_plan after) (settled_kept before) (settled_kept after) p k;
}

pub refused : (g : Given) (s : Settled) (walk_before walk_after : List ℕ) (e : Refusal) (r : Result ℕ Refusal) → load_refusal g ≡ Some e → r ≡ Err e
    → Unwalked g walk_before walk_after → LoadGives g s s walk_before walk_after r
refused g s walk_before walk_after e r is a w =
    gives g s s walk_before walk_after r (a ∙ ap (λ o. answered o (length g.sizes)) (sym is)) (ap (λ o. plan_loaded o g (settled_plan s)) (sym is))
    (ap (λ o. count_loaded o (settled_kept s)) (sym is)) w

pub made : (g : Given) (before after : Settled) (walk_before walk_after : List ℕ) (r : Result ℕ Refusal) → load_refusal g ≡ None → r ≡ Ok (length g.sizes)
    → settled_plan after ≡ given_plan g → settled_kept after ≡ 0 → Unwalked g walk_before walk_after → LoadGives g before after walk_before walk_after r
made g before after walk_before walk_after r is a p k w =
    gives g before after walk_before walk_after r (a ∙ ap (λ o. answered o (length g.sizes)) (sym is)) (p ∙ ap (λ o. plan_loaded o g (settled_plan before)) (sym is))
    (k ∙ ap (λ o. count_loaded o (settled_kept before)) (sym is)) w

-- what a table of no blocks holds
pub record Bare (t : Table) : Type 0 where
  pub sound : Sound (vec_items t.blocks) t.root
  pub fit : all_fit (vec_items t.blocks) ≡ true
  pub plan : meant t ≡ new_plan
  pub told : Settles [] (meant t) 0

pub empty_plan : (t : Table) → vec_items t.blocks ≡ [] → t.root ≡ 65535 → Bare t
empty_plan t e f =
    let n = empty_sound (vec_items t.blocks) t.root e f in
    record { sound = n.0; fit = n.1; plan = n.2; told = subst (λ p. Settles [] p 0) (sym n.2) follows_new }
