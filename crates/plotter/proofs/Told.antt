-- The plan of the blocks that a text tells, and the text that is written of it.
use Rattle.std.proofs.Common.{◌≡◌, ℕ, ◌<◌, ◌≤◌, false, not, eqb, ltb, List, map, length, take, None, Err, Result, sym, ap, ◌∙◌, subst, arith}
use Rattle.std.proofs.lemmas.List.FromFn.{length-map-range_with_len}
use Rattle.std.proofs.lemmas.List.{length-map}
use Rattle.std.proofs.lemmas.Bool.{cond-false, le-ltb, eq-eqb, not_from_true}
use Rattle.rules.specs.declared.blocks.Size.{Size}
use Rattle.rules.specs.declared.placements.Placement.{Placement}
use Rattle.rules.specs.declared.refusals.Refusal.{Refusal}
use Rattle.rules.specs.declared.refusals.Refusal.TheVariants.{SideOutOfRange}
use Rattle.rules.specs.Plans.{Plan, block_count}
use Rattle.rules.specs.Packing.{packed}
use Rattle.rules.specs.Loads.{first, when_found, wrong_size, load_refusal, given_plan}
use Rattle.promises.specs.Packs.{placements, record_of}
use Rattle.names.specs.declared.entries.Entry.{Entry}
use Rattle.theorems.specs.Steps.{plan_loaded}
use Rattle.plan.specs.declared.states.Settled.{Settled}
use Rattle.plan.specs.Meaning.{settled_plan}
use Rattle.writer.specs.Texts.{pl_text}
use Rattle.writer.specs.Answers.{unnamed, no_name, too_short, writer_refusal, Writes}
use Rattle.heap_tree.specs.Heap.{heap_given, heap_refusal, HeapLoad}
use Rattle.heap_tree.proofs.Passing.{none_first}
use Rattle.plotter.specs.Plots.{size_of, plan_of_entries}
use Rattle.plotter.specs.Within.{Within}
use Rattle.plotter.proofs.Room.{not_refused}

-- blocks that are few enough and in range are loaded
accepted : (ss : List Size) → load_refusal (heap_given ss) ≡ heap_refusal ss → length ss ≤ 512 → first (wrong_size ss) 0 (length ss) ≡ None → load_refusal (heap_given ss) ≡ None
accepted ss tests few sized =
    tests ∙ cond-false (ltb 512 (length ss)) _ _ (le-ltb 512 (length ss) few) ∙ ap (λ o. when_found o SideOutOfRange None) sized

-- what is known of a load of the blocks told
pub record Loaded (es : List Entry) (after : Settled) (r : Result ℕ Refusal) : Type 0 where
  pub passes : load_refusal (heap_given (map size_of es)) ≡ None
  pub no_refusal : (e : Refusal) → r ≡ Err e → ⊥
  pub plan : settled_plan after ≡ plan_of_entries es

pub loaded : (es : List Entry) (ss : List Size) (before after : Settled) (r : Result ℕ Refusal) → ss ≡ map size_of es → length es ≤ 512
    → first (wrong_size (map size_of es)) 0 (length (map size_of es)) ≡ None → load_refusal (heap_given ss) ≡ heap_refusal ss → HeapLoad ss before after r → Loaded es after r
loaded es ss before after r same few sized tests load =
    let own = map size_of es in
    let made = subst (λ (ts : List Size). HeapLoad ts before after r) same load in
    let none = accepted own (subst (λ (ts : List Size). load_refusal (heap_given ts) ≡ heap_refusal ts) same tests) (omega (arith, length-map es size_of)) sized in
    record {
      passes = none;
      no_refusal = λ e refused. not_refused _ _ r e made.answer refused none;
      plan = made.plan ∙ ap (λ o. plan_loaded o (heap_given own) (settled_plan before)) none;
    }

block_count_is : (es : List Entry) → block_count (plan_of_entries es) ≡ length es
unfolding block_count given_plan heap_given
block_count_is es = length-map es size_of

-- the reach and the places of a plan that is the one told
pub within_told : (es : List Entry) (p : Plan) → p ≡ plan_of_entries es → Within p → Within (plan_of_entries es)
within_told es p e h = subst Within e h

pub places_told : (es : List Entry) (p : Plan) (r : List Placement) → p ≡ plan_of_entries es → take (block_count p) r ≡ placements p → take (length es) r ≡ placements (plan_of_entries es)
places_told es p r e h =
    ap (λ n. take n r) (sym (block_count_is es)) ∙ subst (λ (q : Plan). take (block_count q) r ≡ placements q) e h

-- where a text has all tests of the writer passed but that of room
room_last : (text : List ℕ) (es : List Entry) (ps : List Placement) (room : ℕ) → length text ≤ 65536 → length es ≡ length ps → first (unnamed text es) 0 (length es) ≡ None → too_short (pl_text text es ps) room ≡ writer_refusal text es ps room
unfolding writer_refusal
room_last text es ps room short same named =
    sym
    (cond-false (ltb 65536 (length text)) _ _ (le-ltb 65536 (length text) short) ∙
    cond-false (not (eqb (length es) (length ps))) _ _ (not_from_true _ (eq-eqb (length es) (length ps) same)) ∙
    ap (λ o. when_found o no_name (too_short (pl_text text es ps) room)) named)

-- the only test of the writer that is left is that of room
pub only_room : (text : List ℕ) (es : List Entry) (qs : List Placement) (written before after : List ℕ) (r : Result ℕ Refusal) → length text ≤ 65536
    → ((k : ℕ) → k < length es → unnamed text es k ≡ false) → qs ≡ placements (plan_of_entries es) → pl_text text es (placements (plan_of_entries es)) ≡ written
    → Writes (writer_refusal text es qs (length before)) (pl_text text es qs) before after r → Writes (too_short written (length before)) written before after r
only_room text es qs written before after r short named is text_is w =
    let ps = placements (plan_of_entries es) in
    let same : length es ≡ length ps = sym (length-map-range_with_len (record_of (packed (plan_of_entries es))) 0 (block_count (plan_of_entries es)) ∙ block_count_is es) in
    let all = none_first (unnamed text es) 0 (length es) (λ k l h. named k (omega arith)) in
    let told = subst (λ (ps : List Placement). Writes (writer_refusal text es ps (length before)) (pl_text text es ps) before after r) is w in
    subst (λ (t : List ℕ). Writes (too_short t (length before)) t before after r) text_is
    (subst (λ o. Writes o (pl_text text es ps) before after r) (sym (room_last text es ps (length before) short same all)) told)
