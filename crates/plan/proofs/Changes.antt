-- The plan that a changed table stands for.
use Rattle.std.proofs.Common.{◌≡◌, ℕ, zero, suc, ◌<◌, ◌≤◌, true, cond, ◌⊎◌, List, [], ◌∷◌, map, length, set, None, sym, refl, ap, ◌∙◌, subst, inl, inr, arith}
use Rattle.std.proofs.lemmas.Bool.{and_parts, and_from}
use Rattle.std.proofs.lemmas.List.{length-set, get_or-map, map-set, set-get_or}
use Rattle.rules.specs.declared.blocks.Size.{Size}
use Rattle.rules.specs.declared.blocks.Letter.TheVariants.{Free}
use Rattle.rules.specs.declared.edits.Side.{Side}
use Rattle.rules.specs.declared.edits.Edit.TheVariants.{Turn, Swap, TakeOut, PutIn}
use Rattle.rules.specs.Trees.{Tree, empty, count, swap, take_out, put_in}
use Rattle.rules.specs.Links.{Spells}
use Rattle.rules.specs.Plans.{Plan, size_at, side_fits, size_fits}
use Rattle.rules.specs.Edits.{turned, edited, absent_refusal, pair_refusal, put_refusal}
use Rattle.table.specs.declared.blocks.Block.{Block}
use Rattle.table.specs.Tables.{at, blank, lefts, rights, Holds, Keeps, has_both, FitsIn}
use Rattle.table.proofs.Rows.{set_part}
use Rattle.rules.proofs.Spelling.{frame}
use Rattle.plan.specs.declared.plans.Plan.{Plan as Held}
use Rattle.plan.specs.Meaning.{meant, rows, root_of}
use Rattle.plan.specs.Sound.{table_tree, Sound, all_fit, sizes_fit, plan_of}
use Rattle.table.specs.Rows.{turned_row}
use Rattle.plan.proofs.Sounds.{holds, tree_is, sound, plan_same, changed, count_is}
use Rattle.theorems.proofs.Passed.{There, absent_passed, pair_passed, put_passed}

-- the plan after an edit, and that the table is sound again
pub record Done (p : Plan) (bs : List Block) (root : ℕ) : Type 0 where
  pub sound : Sound bs root
  pub fit : all_fit bs ≡ true
  pub plan : plan_of bs root ≡ p

module _ (p : Held) where
  abbrev bs : List Block
  bs = rows p

  abbrev root : ℕ
  root = root_of p

  pub within : (i : ℕ) → absent_refusal (meant p.table) i ≡ None → i < length bs
  within i e = omega (arith, (absent_passed (meant p.table) i e).within, count_is bs root)

  pub after_swap : (i j : ℕ) (cs : List Block) (r : ℕ) → pair_refusal (meant p.table) i j ≡ None → Keeps bs cs
      → ((t : Tree) → Holds bs root t → has_both i j t → Holds cs r (swap i j t)) → Done (edited (Swap i j) (meant p.table)) cs r
  unfolding edited plan_of
  after_swap i j cs r e k h =
      let q = pair_passed (meant p.table) i j e in
      let c = changed {root = root} p.fit k (h (table_tree bs root) (holds p.table.few p.sound) (q.0.stands, q.1.stands)) in
      record { sound = c.sound; fit = c.fit; plan = c.plan }

  pub after_take : (i : ℕ) (cs : List Block) (r : ℕ) → absent_refusal (meant p.table) i ≡ None → Keeps bs cs
      → ((t : Tree) → Holds bs root t → 0 < count i t → Holds cs r (take_out i t)) → Done (edited (TakeOut i) (meant p.table)) cs r
  unfolding edited plan_of
  after_take i cs r e k h =
      let c = changed {root = root} p.fit k (h (table_tree bs root) (holds p.table.few p.sound) (absent_passed (meant p.table) i e).stands) in
      record { sound = c.sound; fit = c.fit; plan = c.plan }

  under : (j : ℕ) → (table_tree bs root ≡ empty) ⊎ There (meant p.table) j → (table_tree bs root ≡ empty → ⊥) → 0 < count j (table_tree bs root)
  unfolding plan_of
  under j (inl e) ne = absurd (ne e)
  under j (inr h) ne = h.stands

  fits_in : (i j : ℕ) → put_refusal (meant p.table) i j ≡ None → FitsIn i j bs (table_tree bs root)
  unfolding plan_of
  fits_in i j e =
      let q = put_passed (meant p.table) i j e in
      record { known = omega (arith, q.within, count_is bs root); absent = q.out; under_present = under j q.under }

  pub after_put : (i j : ℕ) (side : Side) (cs : List Block) (r : ℕ) → put_refusal (meant p.table) i j ≡ None → Keeps bs cs
      → ((t : Tree) → Holds bs root t → FitsIn i j bs t → Holds cs r (put_in i j side t)) → Done (edited (PutIn i j side) (meant p.table)) cs r
  unfolding edited plan_of
  after_put i j side cs r e k h =
      let c = changed {root = root} p.fit k (h (table_tree bs root) (holds p.table.few p.sound) (fits_in i j e)) in
      record { sound = c.sound; fit = c.fit; plan = c.plan }

-- turn

turned_fit : (ss : List Size) (i : ℕ) → sizes_fit ss ≡ true → sizes_fit (set ss i (turned (size_at ss i))) ≡ true
unfolding sizes_fit
turned_fit [] i f = refl
turned_fit (s ∷ ss) zero f =
    let a = and_parts (size_fits s) (sizes_fit ss) f in
    let b = and_parts (side_fits s.width) (side_fits s.height) a.0 in
    and_from (size_fits (turned s)) (sizes_fit ss) (and_from (side_fits s.height) (side_fits s.width) b.1 b.0) a.1
turned_fit (s ∷ ss) (suc i) f =
    let a = and_parts (size_fits s) (sizes_fit ss) f in
    and_from (size_fits s) (sizes_fit (set ss i (turned (size_at ss i)))) a.0 (turned_fit ss i a.1)

module _ (bs : List Block) (root i : ℕ) (n : length bs ≤ 512) (s : Sound bs root) (f : all_fit bs ≡ true) (hi : i < length bs) where
  abbrev cs : List Block
  cs = set bs i (turned_row (at bs i))

  -- a part of the rows that a turn leaves
  left : {X : Type 0} (g : Block → X) → ((b : Block) → g (turned_row b) ≡ g b) → (k : ℕ) → g (at cs k) ≡ g (at bs k)
  left g e k = set_part g bs i k (turned_row (at bs i)) (e (at bs i))

  turned_holds : Holds cs root (table_tree bs root)
  turned_holds =
      let h = holds n s in
      let long = length-set bs i (turned_row (at bs i)) in
      record {
        few = omega arith;
        spelt = subst (λ m. Spells (lefts cs) (rights cs) m root (table_tree bs root)) (sym long)
            (frame (lefts bs) (rights bs) (lefts cs) (rights cs) (length bs) root (table_tree bs root) (λ k _. (left (λ b. b.children.left) (λ b. refl) k, left (λ b. b.children.right) (λ b. refl) k)) h.spelt);
        once = λ k. h.once k ∙ ap {B = ℕ} (λ b. cond b 1 0) (sym (left (λ b. b.present) (λ b. refl) k));
      }

  turned_sizes : map (λ b. b.size) cs ≡ set (map (λ b. b.size) bs) i (turned (size_at (map (λ b. b.size) bs) i))
  turned_sizes =
      map-set (λ b. b.size) bs i (turned_row (at bs i))
      ∙ ap (λ z. set (map (λ b. b.size) bs) i (turned z)) (sym (get_or-map (λ b. b.size) bs i blank (record { width = 0; height = 0 }) hi))

  turned_letters : map (λ b. b.letter) cs ≡ map (λ b. b.letter) bs
  turned_letters =
      map-set (λ b. b.letter) bs i (turned_row (at bs i))
      ∙ ap (set (map (λ b. b.letter) bs) i) (sym (get_or-map (λ b. b.letter) bs i blank Free hi)) ∙ set-get_or (map (λ b. b.letter) bs) i Free

  turn_done : (ds : List Block) (r : ℕ) → ds ≡ cs → r ≡ root → Done (edited (Turn i) (plan_of bs root)) ds r
  unfolding edited plan_of
  turn_done ds r e q =
      let done : Done (edited (Turn i) (plan_of bs root)) cs root
      = record {
        sound = sound turned_holds;
        fit = ap sizes_fit turned_sizes ∙ turned_fit (map (λ b. b.size) bs) i f;
        plan = plan_same (plan_of cs root) (edited (Turn i) (plan_of bs root)) turned_sizes turned_letters (tree_is turned_holds);
      } in
      subst (λ x. Done (edited (Turn i) (plan_of bs root)) x r) (sym e) (subst (λ x. Done (edited (Turn i) (plan_of bs root)) cs x) (sym q) done)

pub after_turn : (p : Held) (i : ℕ) (ds : List Block) (r : ℕ) → absent_refusal (meant p.table) i ≡ None
    → ds ≡ set (rows p) i (turned_row (at (rows p) i)) → r ≡ root_of p → Done (edited (Turn i) (meant p.table)) ds r
after_turn p i ds r e = turn_done (rows p) (root_of p) i p.table.few p.sound p.fit (within p i e) ds r
