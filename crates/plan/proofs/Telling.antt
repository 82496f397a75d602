-- What the table says of a block is what the plan says.
use Rattle.std.proofs.Common.{◌≡◌, ℕ, ◌<◌, Bool, List, map, length, None, sym, ap, ◌∙◌, inl, inr, arith}
use Rattle.std.proofs.lemmas.Bool.{cases_eq, cases_lt, eq-eqb, ne_eqb, lt-ltb, le-ltb, cond-true, cond-false}
use Rattle.std.proofs.lemmas.List.{get_or-map}
use Rattle.rules.specs.declared.blocks.Children.{Children}
use Rattle.rules.specs.declared.blocks.Letter.TheVariants.{Free}
use Rattle.rules.specs.Trees.{Tree, empty, node, count}
use Rattle.rules.specs.Plans.{size_at, letter_at}
use Rattle.rules.specs.Letters.{letter_kept}
use Rattle.rules.proofs.Counts.{others, no_count}
use Rattle.table.specs.declared.blocks.Block.{Block}
use Rattle.table.specs.Tables.{at, blank, lefts, rights, Holds}
use Rattle.table.proofs.Holding.{Sp}
use Rattle.plan.specs.declared.reports.Report.{Report}
use Rattle.plan.specs.Sound.{table_tree, plan_of}
use Rattle.plan.specs.Reports.{top_of, children_in, report_of}
use Rattle.plan.proofs.Sounds.{holds}
use Rattle.plan.proofs.Changes.{within}
use Rattle.theorems.proofs.Passed.{absent_passed}
use Rattle.plan.specs.declared.plans.Plan.{Plan as Held}
use Rattle.plan.specs.Meaning.{meant, rows, root_of}
use Rattle.rules.specs.Edits.{absent_refusal}

top_is : (bs : List Block) (n i : ℕ) (t : Tree) → Sp bs n i t → top_of t ≡ i
top_is bs n i empty s = sym s
top_is bs n i (node k l r) s = sym s.0

abbrev links : List Block → ℕ → Children
links bs i = record { left = lefts bs i; right = rights bs i }

children_are : (bs : List Block) (n x i : ℕ) (t : Tree) → Sp bs n x t → 0 < count i t → children_in i t ≡ links bs i
unfolding children_in
children_are bs n x i empty s h = absurd (omega (arith, no_count i))
children_are bs n x i (node k l r) s h = elim (cases_eq k i) [
  | inl e ↦
      let a = top_is bs n (lefts bs k) l s.2 in
      let b = top_is bs n (rights bs k) r s.3 in
      let c : ◌≡◌ {A = Children} (record { left = top_of l; right = top_of r }) (links bs k) = cc in
      cond-true _ _ _ (eq-eqb k i e) ∙ c ∙ ap (links bs) e
  | inr d ↦ elim (cases_lt 0 (count i l)) [
    | inl p ↦ cond-false _ _ _ (ne_eqb k i d) ∙ cond-true _ _ _ (lt-ltb 0 (count i l) p) ∙ children_are bs n (lefts bs k) i l s.2 p
    | inr p ↦
        let q : 0 < count i r = omega (arith, others i k l r (λ e. d (sym e))) in
        cond-false _ _ _ (ne_eqb k i d) ∙ cond-false _ _ _ (le-ltb 0 (count i l) p) ∙ children_are bs n (rights bs k) i r s.3 q
  ]
]

-- the report of a block of the table is the plan's
pub report_is : (p : Held) (i : ℕ) (b : Block) (kept : Bool) → absent_refusal (meant p.table) i ≡ None → b ≡ at (rows p) i
    → ((t : Tree) → Holds (rows p) (root_of p) t → kept ≡ letter_kept b.letter i t)
    → ◌≡◌ {A = Report} (record { size = b.size; children = b.children; letter = b.letter; kept = kept }) (report_of (meant p.table) i)
unfolding plan_of
report_is p i b kept passed e k =
    let bs = rows p in
    let root = root_of p in
    let h = holds p.table.few p.sound in
    let hi = within p i passed in
    let hc = (absent_passed (meant p.table) i passed).stands in
    let sizes : size_at (map (λ b. b.size) bs) i ≡ (at bs i).size = get_or-map (λ b. b.size) bs i blank (record { width = 0; height = 0 }) hi in
    let letters : letter_at (map (λ b. b.letter) bs) i ≡ (at bs i).letter = get_or-map (λ b. b.letter) bs i blank Free hi in
    let kids : children_in i (table_tree bs root) ≡ links bs i = children_are bs (length bs) root i (table_tree bs root) h.spelt hc in
    let keeps : kept ≡ letter_kept (letter_at (map (λ b. b.letter) bs) i) i (table_tree bs root)
    = k (table_tree bs root) h ∙ ap (λ l. letter_kept l i (table_tree bs root)) (ap (λ b. b.letter) e ∙ sym letters) in
    cc
