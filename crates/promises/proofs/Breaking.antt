-- Records that break one sentence of the promise keep no promise.
use Rattle.std.proofs.Common.{◌≡◌, ℕ, ◌<◌, true, List, [], ◌∷◌, Some, None, sym, refl, ap, subst, inl, inr, arith}
use Rattle.rules.specs.declared.placements.Placement.{Placement}
use Rattle.rules.specs.declared.edits.Edit.TheVariants.{TakeOut}
use Rattle.rules.specs.declared.edits.Side.TheVariants.{Left, Right}
use Rattle.rules.specs.Trees.{Tree, Among, leftmost, rightmost, right_foot, bottom_right, no_right_child}
use Rattle.rules.specs.Skylines.{Sky}
use Rattle.rules.specs.Book.{Call, book, in_force}
use Rattle.theorems.specs.Presence.{last_of}
use Rattle.theorems.specs.Histories.{done, no_pack}
use Rattle.geometry.specs.Relations.{Root, Child}
use Rattle.promises.specs.Promise.{at, On, Spans, blocks_of, tree_of}
use Rattle.promises.specs.Tells.{square, PromiseTells}

module _ (cs : List Call) (t : Sky) where
  -- what the only other of two blocks is
  other : (rs : List Placement) (j : ℕ) → blocks_of cs ≡ 2 → j < blocks_of cs → (j ≡ 1 → ⊥) → On (at rs 1) (at rs j) → On (at rs 1) (at rs 0)
  other rs j n b ne on = let z : j ≡ 0 = omega arith in subst (λ k. On (at rs 1) (at rs k)) z on

  pub promise_tells : PromiseTells cs t
  promise_tells = record {
    unplaced = λ n force w h p.
        let lt : 0 < blocks_of cs = omega arith in
        let out = p.unplaced 0 lt (λ placed. omega arith) in
        let none : last_of 0 (in_force (book cs)) ≡ None = ap (last_of 0) force in
        cc;
    taken_out = λ n force w h p.
        let lt : 0 < blocks_of cs = omega arith in
        let out : last_of 0 (in_force (book cs)) ≡ Some (TakeOut 0) = ap (last_of 0) force in
        p.taken_out 0 lt out (omega arith);
    apart = λ n w h p.
        let lt : 1 < blocks_of cs = omega arith in
        p.apart 0 1 (omega arith) lt (λ e. omega arith) 1 1 ((omega arith, omega arith), omega arith, omega arith) ((omega arith, omega arith), omega arith, omega arith);
    width = λ h rs p. let e : ◌≡◌ {A = ℕ} 1 0 = p.by_book.width_is in omega arith;
    height = λ w rs p. let e : ◌≡◌ {A = ℕ} 1 0 = p.by_book.height_is in omega arith;
    shorter = λ h rs p. let e : ◌≡◌ {A = ℕ} 1 0 = (p.by_shorter [] (no_pack done)).1.width_is in omega arith;
    stands = λ n w h p.
        let lt : 0 < blocks_of cs = omega arith in
        elim (p.stands 0 lt (omega arith)) [ inl e ↦ omega arith | inr q ↦ let z : q.0 ≡ 0 = omega arith in absurd (q.2 z) ];
    stands_on = λ n w h p.
        let lt : 1 < blocks_of cs = omega arith in
        elim (p.stands 1 lt (omega arith)) [
          | inl e ↦ omega arith
          | inr q ↦ let on = other (square 0 0 ∷ square 0 3 ∷ []) q.0 n q.1 q.2 q.4 in omega (arith, on.1)
        ];
    stands_beside = λ n w h p.
        let lt : 1 < blocks_of cs = omega arith in
        elim (p.stands 1 lt (omega arith)) [
          | inl e ↦ omega arith
          | inr q ↦ let on = other (square 0 0 ∷ square 2 2 ∷ []) q.0 n q.1 q.2 q.4 in omega (arith, on.0.1, on.0.2)
        ];
    column_low = λ n wide low w h p.
        let lt : 1 < t.columns = omega arith in
        let some : 0 < blocks_of cs = omega arith in
        omega (arith, (p.columns 1 lt).bounds 0 some (omega arith, omega arith));
    column_high = λ n wide high w h p.
        let lt : 2 < t.columns = omega arith in
        elim (p.columns 2 lt).reached [
          | inl e ↦ omega arith
          | inr q ↦
              let z : q.0 ≡ 0 = omega arith in
              let over : Spans (square 0 0) 2 = subst (λ k. Spans (at (square 0 0 ∷ []) k) 2) z q.2 in omega (arith, over.1)
        ];
    leftmost = λ e w h p.
        let y : ◌≡◌ {A = ℕ} 1 0 = p.leftmost_on_floor 1 (subst (λ (v : Tree). Among 1 (leftmost v)) (sym e) (inr (inl refl))) in omega arith;
    rightmost = λ e w h p.
        let x : ◌≡◌ {A = ℕ} 1 0 = p.rightmost_at_left 1 (subst (λ (v : Tree). Among 1 (rightmost v)) (sym e) (inr (inl refl))) in omega arith;
    bottom_right = λ n e w h p.
        let lt : 1 < blocks_of cs = omega arith in
        let open_right : no_right_child (right_foot (tree_of cs)) ≡ true = ap (λ (v : Tree). no_right_child (right_foot v)) e in
        p.bottom_right_free open_right 0 1 (subst (λ (v : Tree). Among 0 (bottom_right v)) (sym e) (inl refl)) lt (omega arith)
        ((0, (omega arith, omega arith), (omega arith, omega arith)), omega arith);
    root = λ e w h p. let x : ◌≡◌ {A = ℕ} 1 0 = p.root_at_left 0 (subst (λ (v : Tree). Root v 0) (sym e) refl) in omega arith;
    left_child = λ e w h p. let x : ◌≡◌ {A = ℕ} 3 2 = p.left_child 0 1 (subst (λ (v : Tree). Child Left v 0 1) (sym e) (inl (refl, refl))) in omega arith;
    right_child = λ e w h p. let x : ◌≡◌ {A = ℕ} 1 0 = p.right_child 0 1 (subst (λ (v : Tree). Child Right v 0 1) (sym e) (inl (refl, refl))) in omega arith;
  }
