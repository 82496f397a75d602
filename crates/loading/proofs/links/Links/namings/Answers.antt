use Rattle.std.proofs.Common.{ℕ, ◌+◌, ◌≤◌, cond, eqb, sym, ap, ◌∙◌, subst, arith, lit≤}
use Rattle.std.proofs.lemmas.List.{get_or-replicate}
use Rattle.rules.specs.Links.{left_of, right_of}
use Rattle.rules.proofs.Counts.{flag_le}
use Rattle.loading.proofs.Trees.{linked}
use Rattle.loading.proofs.Namings.{leading_none, leading_more, leading_le, wider}
use Rattle.loading.proofs.links.Links.namings.Goals as goal

pub count_naming-requires-clause-few : goal.count_naming-requires-clause-few
count_naming-requires-clause-few c = λ k h. let P : ℕ → Type 0 = λ v. v ≤ 1024 in subst P (sym (get_or-replicate 512 k 0 0 h)) (lit≤ tt)

pub loop-pair-init : goal.loop-pair-init
loop-pair-init c = λ k h.
    c.count_naming.ensures k h ∙ ap (λ (v : ℕ). v + cond (eqb c.args.self.now.root k) 1 0) (get_or-replicate 512 k 0 0 h)
    ∙ omega (arith, leading_none (left_of c.args.self.now.children.now) k, leading_none (right_of c.args.self.now.children.now) k)

pub count_naming-requires-in-loop-pair : goal.count_naming-requires-in-loop-pair
count_naming-requires-in-loop-pair c =
    let i = c.loop-pair.pair-index in
    let cs = c.args.self.now.children.now in
    record {
      link = wider _ _ _ c.args.self.now.few (linked _ c.args.self.now.linked i c.loop-pair-test.true).0;
      few = λ k h. omega (arith, c.loop-pair.invariant k h, leading_le (left_of cs) i k, leading_le (right_of cs) i k, flag_le (eqb c.args.self.now.root k), c.args.self.now.few, c.loop-pair-test.true);
    }

pub count_naming-requires-in-loop-pair-2 : goal.count_naming-requires-in-loop-pair-2
count_naming-requires-in-loop-pair-2 c =
    let i = c.loop-pair.pair-index in
    let cs = c.args.self.now.children.now in
    record {
      link = wider _ _ _ c.args.self.now.few (linked _ c.args.self.now.linked i c.loop-pair-test.true).1;
      few = λ k h.
          omega (arith, c.count_naming-in-loop-pair.ensures k h, flag_le (eqb (left_of cs i) k), c.loop-pair.invariant k h, leading_le (left_of cs) i k, leading_le (right_of cs) i k, flag_le (eqb c.args.self.now.root k), c.args.self.now.few, c.loop-pair-test.true);
    }

pub loop-pair-preserved : goal.loop-pair-preserved
loop-pair-preserved c = λ k h.
    let i = c.loop-pair.pair-index in
    let cs = c.args.self.now.children.now in
    omega (arith, c.count_naming-in-loop-pair-2.ensures k h, c.count_naming-in-loop-pair.ensures k h, c.loop-pair.invariant k h, leading_more (left_of cs) i k, leading_more (right_of cs) i k)
