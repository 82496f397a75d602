-- A sound table and the tree that it holds.
use Rattle.std.proofs.Common.{◌≡◌, ℕ, ◌<◌, ◌≤◌, Bool, true, false, cond, eqb, ltb, List, [], map, length, sym, ap, ◌∙◌, subst, arith}
use Rattle.std.proofs.lemmas.Bool.{eq-eqb, ne_eqb, lt-ltb, le-ltb}
use Rattle.std.proofs.lemmas.List.{length-map, get_or-map, ext_get_or}
use Rattle.rules.specs.Trees.{Tree, empty, node, count}
use Rattle.rules.specs.Links.{Spells}
use Rattle.rules.specs.Plans.{Plan, new_plan, block_count, present, bare}
use Rattle.rules.specs.Edits.{with_tree}
use Rattle.rules.proofs.Spelling.{to_spells, from_spells, grow_is, size_le}
use Rattle.table.specs.declared.blocks.Block.{Block}
use Rattle.table.specs.Tables.{at, blank, lefts, rights, Holds, Keeps}
use Rattle.table.proofs.Holding.{at_most_once}
use Rattle.plan.specs.Sound.{table_tree, Sound, all_fit, sizes_fit, plan_of}

pub holds : {bs : List Block} {root : ℕ} → length bs ≤ 512 → Sound bs root → Holds bs root (table_tree bs root)
holds n s = record { few = n; spelt = to_spells _ _ _ _ _ s.0; once = s.1 }

pub tree_is : {bs : List Block} {root : ℕ} {t : Tree} → Holds bs root t → table_tree bs root ≡ t
unfolding table_tree
tree_is {bs} {root} {t} h =
    let small = h.few in
    grow_is (lefts bs) (rights bs) (length bs) root (length bs) t (omega arith)
    (size_le (lefts bs) (rights bs) (length bs) root t h.spelt (at_most_once h)) h.spelt

pub sound : {bs : List Block} {root : ℕ} {t : Tree} → Holds bs root t → Sound bs root
sound {bs} {root} {t} h =
    let e = tree_is h in
    (from_spells _ _ _ _ _ (rw e h.spelt), λ k. rw e (h.once k))

pub plan_same : (p q : Plan) → p.sizes ≡ q.sizes → p.letters ≡ q.letters → p.tree ≡ q.tree → p ≡ q
plan_same p q a b c = λ i. record { sizes = a i; letters = b i; tree = c i }

-- a part of every row that a change leaves
map_same : {X : Type 0} (f : Block → X) (bs cs : List Block) → length cs ≡ length bs → ((k : ℕ) → f (at cs k) ≡ f (at bs k)) → map f cs ≡ map f bs
map_same f bs cs n h =
    ext_get_or (f blank) (map f cs) (map f bs) (length-map cs f ∙ n ∙ sym (length-map bs f))
    (λ k l.
    let short : k < length cs = omega (arith, length-map cs f) in
    get_or-map f cs k blank (f blank) short ∙ h k ∙ sym (get_or-map f bs k blank (f blank) (omega arith)))

pub keeps_sizes : {bs cs : List Block} → Keeps bs cs → map (λ b. b.size) cs ≡ map (λ b. b.size) bs
keeps_sizes {bs} {cs} k = map_same (λ b. b.size) bs cs k.long k.sizes

keeps_letters : {bs cs : List Block} → Keeps bs cs → map (λ b. b.letter) cs ≡ map (λ b. b.letter) bs
keeps_letters {bs} {cs} k = map_same (λ b. b.letter) bs cs k.long k.letters

-- the table with another tree
pub record Changed (bs : List Block) (root : ℕ) (cs : List Block) (r : ℕ) (t : Tree) : Type 0 where
  pub sound : Sound cs r
  pub fit : all_fit cs ≡ true
  pub plan : plan_of cs r ≡ with_tree (plan_of bs root) t

pub changed : {bs : List Block} {root : ℕ} {cs : List Block} {r : ℕ} {t : Tree} → all_fit bs ≡ true → Keeps bs cs → Holds cs r t → Changed bs root cs r t
unfolding plan_of
changed {bs} {root} {cs} {r} {t} f k h = record {
  sound = sound h;
  fit = ap sizes_fit (keeps_sizes k) ∙ f;
  plan = plan_same (plan_of cs r) (with_tree (plan_of bs root) t) (keeps_sizes k) (keeps_letters k) (tree_is h);
}

-- what the tests ask of a table

pub count_is : (bs : List Block) (root : ℕ) → block_count (plan_of bs root) ≡ length bs
unfolding block_count plan_of
count_is bs root = length-map bs _

bare_tree : (L R : ℕ → ℕ) (n root : ℕ) (t : Tree) → n ≤ 512 → Spells L R n root t → eqb root 65535 ≡ bare t
unfolding bare
bare_tree L R n root empty h s = eq-eqb root 65535 s
bare_tree L R n root (node k l r) h s = ne_eqb root 65535 (λ p. omega (arith, s.0, s.1))

pub bare_is : (bs : List Block) (root : ℕ) → length bs ≤ 512 → Sound bs root → eqb root 65535 ≡ bare (plan_of bs root).tree
unfolding plan_of
bare_is bs root n s = bare_tree (lefts bs) (rights bs) (length bs) root (table_tree bs root) n (holds n s).spelt

flag : (b : Bool) (n : ℕ) → n ≡ cond b 1 0 → b ≡ ltb 0 n
flag true n e = sym (lt-ltb 0 n (omega arith))
flag false n e = sym (le-ltb 0 n (omega arith))

pub present_is : (bs : List Block) (root i : ℕ) → Sound bs root → (at bs i).present ≡ present (plan_of bs root) i
unfolding present plan_of
present_is bs root i s = flag (at bs i).present _ (s.1 i)

-- the table of no blocks
empty_holds : (bs : List Block) (root : ℕ) → bs ≡ [] → root ≡ 65535 → Holds bs root empty
unfolding count
empty_holds bs root e f = record {
  few = subst (λ cs. length cs ≤ 512) (sym e) (omega arith);
  spelt = f;
  once = λ k. ap {B = ℕ} (λ cs. cond (at cs k).present 1 0) (sym e);
}

pub empty_sound : (bs : List Block) (root : ℕ) → bs ≡ [] → root ≡ 65535 → Sound bs root × (all_fit bs ≡ true) × (plan_of bs root ≡ new_plan)
unfolding sizes_fit plan_of
empty_sound bs root e f =
    let h = empty_holds bs root e f in
    (sound h, ap all_fit e, plan_same (plan_of bs root) new_plan (ap (map (λ b. b.size)) e) (ap (map (λ b. b.letter)) e) (tree_is h))
