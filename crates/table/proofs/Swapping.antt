-- Two blocks in each other's place.
use Rattle.std.proofs.Common.{◌≡◌, ℕ, ◌<◌, Bool, true, false, cond, ◌≢◌, List, map, length, set, sym, refl, ap, ◌∙◌, subst, inl, inr, arith}
use Rattle.std.proofs.lemmas.Bool.{cases_eq, lt-ltb, and_from, cond-true}
use Rattle.std.proofs.lemmas.Bool.Decides.{nat_tests}
use Rattle.std.proofs.lemmas.List.{length-set, get_or-set_same, get_or-set_other, length-map, get_or-map}
use Rattle.rules.specs.Trees.{Tree, exchange, swap}
use Rattle.rules.specs.Links.{Spells}
use Rattle.rules.proofs.Spelling.{swap_spells, swap_count, exchange_twice}
use Rattle.table.specs.declared.blocks.Block.{Block}
use Rattle.table.specs.Tables.{at, blank, lefts, rights, with_children, linked, relinked, crossed, swapped, both_within, has_both, Holds, Keeps}
use Rattle.table.proofs.Rows.{Linkless, set_part, map_part}
use Rattle.table.proofs.Holding.{in_tree_present, in_tree_within}

exchange_first : (i j k : ℕ) → k ≡ i → exchange i j k ≡ j
exchange_first i j k e = grind (arith, nat_tests)

exchange_second : (i j k : ℕ) → k ≡ j → exchange i j k ≡ i
exchange_second i j k e = grind (arith, nat_tests)

exchange_third : (i j k : ℕ) → (k ≡ i → ⊥) → (k ≡ j → ⊥) → exchange i j k ≡ k
exchange_third i j k d e = grind (arith, nat_tests)

module _ (i j : ℕ) (bs : List Block) where
  abbrev renamed : List Block
  renamed = map (relinked (exchange i j)) bs

  crossed_long : length (crossed i j renamed) ≡ length bs
  crossed_long = length-set _ j _ ∙ length-set _ i _ ∙ length-map bs _

  -- a part of the rows that does not hang on the links
  crossed_part : {X : Type 0} (f : Block → X) → Linkless f → (m : ℕ) → f (at (crossed i j renamed) m) ≡ f (at bs m)
  crossed_part f s m =
      let x = with_children (at renamed j).children (at renamed i) in
      let y = with_children (at renamed i).children (at renamed j) in
      let first : (k : ℕ) → f (at (set renamed i x) k) ≡ f (at renamed k) = λ k. set_part f renamed i k x (s _ (at renamed i)) in
      set_part f (set renamed i x) j m y (s _ (at renamed j) ∙ sym (first j)) ∙ first m ∙ map_part f (relinked (exchange i j)) (λ b. s _ b) bs m

  crossed_keeps : Keeps bs (crossed i j renamed)
  crossed_keeps = record {
    long = crossed_long;
    sizes = crossed_part (λ b. b.size) (λ c b. refl);
    letters = crossed_part (λ b. b.letter) (λ c b. refl);
  }

  swapped_keeps : Keeps bs (swapped i j bs)
  swapped_keeps = go (both_within i j bs)
    where
      go : (w : Bool) → Keeps bs (cond w (crossed i j renamed) bs)
      go true = crossed_keeps
      go false = record { long = refl; sizes = λ k. refl; letters = λ k. refl }

  module _ (hi : i < length bs) (hj : j < length bs) where
    at_renamed : (k : ℕ) → k < length bs → at renamed k ≡ relinked (exchange i j) (at bs k)
    at_renamed k h = get_or-map (relinked (exchange i j)) bs k blank blank h

    at_crossed : (k : ℕ) → k < length bs
        → at (crossed i j renamed) k ≡ linked (exchange i j (lefts bs (exchange i j k))) (exchange i j (rights bs (exchange i j k))) (at bs k)
    at_crossed k h =
        let n = length-map bs (relinked (exchange i j)) in
        let x = with_children (at renamed j).children (at renamed i) in
        let y = with_children (at renamed i).children (at renamed j) in
        let il : i < length renamed = omega arith in
        let jl : j < length (set renamed i x) = omega (arith, length-set renamed i x) in
        let ei = at_renamed i hi in
        let ej = at_renamed j hj in
        elim (cases_eq k j) [
          | inl e ↦
              let o = exchange_second i j k e in
              rw (o, e) (get_or-set_same (set renamed i x) j y blank jl ∙ rw (ei, ej))
          | inr d ↦
              elim (cases_eq k i) [
                | inl e ↦
                    let o = exchange_first i j k e in
                    let dd : i ≢ j = λ p. d (e ∙ p) in
                    rw (o, e) (get_or-set_other (set renamed i x) j i y blank dd ∙ get_or-set_same renamed i x blank il ∙ rw (ei, ej))
                | inr c ↦
                    let o = exchange_third i j k c d in
                    rw o (get_or-set_other (set renamed i x) j k y blank d ∙ get_or-set_other renamed i k x blank c ∙ at_renamed k h)
              ]
        ]

    crossed_links : (k : ℕ) → k < length bs
        → (lefts (crossed i j renamed) (exchange i j k) ≡ exchange i j (lefts bs k)) × (rights (crossed i j renamed) (exchange i j k) ≡ exchange i j (rights bs k))
    crossed_links k h =
        let l : exchange i j k < length bs = grind (arith, nat_tests) in
        let e = at_crossed (exchange i j k) l in
        let t = exchange_twice i j k in
        (ap (λ b. b.children.left) e ∙ rw t, ap (λ b. b.children.right) e ∙ rw t)

    exchanged_present : (at bs i).present ≡ true → (at bs j).present ≡ true → (k : ℕ) → (at bs (exchange i j k)).present ≡ (at bs k).present
    exchanged_present pi pj k =
        elim (cases_eq k j) [
          | inl e ↦ rw (exchange_second i j k e, e) (pi ∙ sym pj)
          | inr d ↦
              elim (cases_eq k i) [
                | inl e ↦ rw (exchange_first i j k e, e) (pj ∙ sym pi)
                | inr c ↦ rw (exchange_third i j k c d)
              ]
        ]

    crossed_holds : (root : ℕ) (t : Tree) → (at bs i).present ≡ true → (at bs j).present ≡ true
        → Holds bs root t → Holds (crossed i j renamed) (exchange i j root) (swap i j t)
    crossed_holds root t pi pj h =
        let small = h.few in
        record {
          few = omega (arith, crossed_long);
          spelt = subst (λ m. Spells (lefts (crossed i j renamed)) (rights (crossed i j renamed)) m (exchange i j root) (swap i j t)) (sym crossed_long)
              (swap_spells (lefts bs) (rights bs) (lefts (crossed i j renamed)) (rights (crossed i j renamed)) (length bs) i j hi hj (omega arith) crossed_links root t h.spelt);
          once = λ k. swap_count i j k t ∙ h.once (exchange i j k)
              ∙ ap {B = ℕ} (λ b. cond b 1 0) (exchanged_present pi pj k ∙ sym (crossed_part (λ b. b.present) (λ c b. refl) k));
        }

    both_true : both_within i j bs ≡ true
    both_true = and_from _ _ (lt-ltb i (length bs) hi) (lt-ltb j (length bs) hj)

    swapped_root : (root : ℕ) → exchange i j root ≡ cond (both_within i j bs) (exchange i j root) root
    swapped_root root = sym (cond-true _ _ _ both_true)

  swapped_holds : (root : ℕ) (t : Tree) → Holds bs root t → has_both i j t
      → Holds (swapped i j bs) (cond (both_within i j bs) (exchange i j root) root) (swap i j t)
  swapped_holds root t h b =
      let hi = in_tree_within h i b.0 in
      let hj = in_tree_within h j b.1 in
      let r = crossed_holds hi hj root t (in_tree_present h i b.0) (in_tree_present h j b.1) h in
      subst (λ x. Holds x (cond (both_within i j bs) (exchange i j root) root) (swap i j t)) (sym (cond-true _ _ _ (both_true hi hj)))
      (subst (λ x. Holds (crossed i j renamed) x (swap i j t)) (swapped_root hi hj root) r)

  -- what the table after the swap keeps
  pub swap_keeps : (cs : List Block) → cs ≡ swapped i j bs → Keeps bs cs
  swap_keeps cs e = subst (Keeps bs) (sym e) swapped_keeps

  -- and the tree that it holds
  pub swap_holds : (root : ℕ) (cs : List Block) (r : ℕ) → cs ≡ swapped i j bs → r ≡ cond (both_within i j bs) (exchange i j root) root
      → (t : Tree) → Holds bs root t → has_both i j t → Holds cs r (swap i j t)
  swap_holds root cs r e f t h b =
      subst (λ x. Holds x r (swap i j t)) (sym e) (subst (λ x. Holds (swapped i j bs) x (swap i j t)) (sym f) (swapped_holds root t h b))
