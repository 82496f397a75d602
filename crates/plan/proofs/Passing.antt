-- A block that may move is present, and may be put in once it is out.
use Rattle.std.proofs.Common.{◌≡◌, ℕ, ◌<◌, ◌≤◌, Bool, true, false, cond, not, None, sym, refl, ap, ◌∙◌, arith}
use Rattle.std.proofs.lemmas.Bool.{lt-leb, lt-ltb, le-ltb, cond-false}
use Rattle.rules.specs.declared.edits.Edit.TheVariants.{TakeOut}
use Rattle.rules.specs.Trees.{count}
use Rattle.rules.specs.Plans.{Plan, block_count, present, bare}
use Rattle.rules.specs.Edits.{edited, absent_refusal, pair_refusal, put_refusal}
use Rattle.rules.proofs.Counts.{take_out_others, take_out_own}
use Rattle.theorems.proofs.Passed.{There, pair_passed}

not_absent : (p : Plan) (i : ℕ) → There p i → absent_refusal p i ≡ None
unfolding present
not_absent p i h = cond-false _ _ _ (lt-leb (block_count p) i h.within) ∙ cond-false _ _ _ (ap not (lt-ltb 0 (count i p.tree) h.stands))

pub mover_present : (p : Plan) (i j : ℕ) → pair_refusal p i j ≡ None → absent_refusal p i ≡ None
mover_present p i j e = not_absent p i (pair_passed p i j e).0

puts : (p : Plan) (i j : ℕ) → i < block_count p → count i p.tree ≡ 0 → There p j → put_refusal p i j ≡ None
unfolding present
puts p i j a b h = cond-false _ _ _ (lt-leb (block_count p) i a) ∙ cond-false _ _ _ (le-ltb 0 (count i p.tree) (omega arith)) ∙ last (bare p.tree)
  where
    last : (t : Bool) → cond t None (absent_refusal p j) ≡ None
    last true = refl
    last false = not_absent p j h

pub mover_fits : (p : Plan) (i j : ℕ) → count i p.tree ≤ 1 → pair_refusal p i j ≡ None → put_refusal (edited (TakeOut i) p) i j ≡ None
unfolding edited block_count
mover_fits p i j once e =
    let q = pair_passed p i j e in
    let there : There (edited (TakeOut i) p) j = record { within = q.1.within; stands = omega (arith, take_out_others j i p.tree (λ z. q.2 (sym z)), q.1.stands) } in
    puts (edited (TakeOut i) p) i j q.0.within (take_out_own i p.tree once) there
