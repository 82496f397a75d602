-- Every block of the plan is present, and its x and y have few digits.
use Rattle.std.proofs.Common.{◌≡◌, ℕ, suc, ◌<◌, ◌≤◌, max, Bool, true, false, cond, eqb, List, [], ◌∷◌, ◌++◌, map, length, Some, None, Ok, Err, Result, refl, ap, ◌∙◌, subst, arith}
use Rattle.std.specs.List.{range_with_len}
use Rattle.std.proofs.lemmas.List.{length-map}
use Rattle.std.proofs.lemmas.Bool.{cond-false, ne_eqb, ltb-true, leb-true, and_parts, not-false}
use Rattle.rules.specs.declared.placements.Placement.{Placement}
use Rattle.rules.specs.declared.refusals.Refusal.{Refusal}
use Rattle.rules.specs.Plans.{Plan, size_at, side_fits, block_count, present}
use Rattle.rules.specs.Packing.{Rect, right_edge, top, packed, reach, height}
use Rattle.rules.specs.Loads.{first, wrong_size, load_refusal, given_plan}
use Rattle.loading.proofs.Firsts.{none_found}
use Rattle.theorems.proofs.Loaded.{loads_are_whole}
use Rattle.promises.specs.Packs.{placements, record_of}
use Rattle.promises.specs.Promise.{at, Placed}
use Rattle.promises.proofs.Records.{placements_recorded, of_present}
use Rattle.promises.proofs.Shown.{size_is}
use Rattle.names.specs.declared.entries.Entry.{Entry}
use Rattle.names.specs.Entries.{marked}
use Rattle.writer.specs.Texts.{header, lines_of, pl_text}
use Rattle.writer.proofs.Spans.{present_line}
use Rattle.writer.specs.Readings.{Told, Short, placed_blocks, ReadBack}
use Rattle.heap_tree.specs.Heap.{heap_given}
use Rattle.plotter.specs.Plots.{size_of, plan_of_entries, named_lines, named_text, told_places, Tells}
use Rattle.plotter.specs.Within.{Within, Seen}

-- no place lies further right or higher than the plan
record_within : (ps : List Rect) (i : ℕ) → ((record_of ps i).x ≤ reach ps) × ((record_of ps i).y ≤ height ps)
record_within [] i = (omega arith, omega arith)
record_within (p ∷ ps) i = go (eqb p.block i) (record_within ps i)
  where
    go : (b : Bool) → ((record_of ps i).x ≤ reach ps) × ((record_of ps i).y ≤ height ps)
        → ((cond b (record { x = p.x; y = p.y; width = p.width; height = p.height }) (record_of ps i)).x ≤ max (right_edge p) (reach ps))
        × ((cond b (record { x = p.x; y = p.y; width = p.width; height = p.height }) (record_of ps i)).y ≤ max (top p) (height ps))
    go true h = (omega arith, omega arith)
    go false h = (omega arith, omega arith)

short_places : (f : ℕ → Placement) → ((i : ℕ) → ((f i).x < 1000000000) × ((f i).y < 1000000000)) → (is : List ℕ) → Short (map f is)
short_places f h [] = tt
short_places f h (i ∷ is) = ((h i).0, (h i).1, short_places f h is)

-- blocks that load accepts are all present
pub seen : (es : List Entry) → first (wrong_size (map size_of es)) 0 (length (map size_of es)) ≡ None → load_refusal (heap_given (map size_of es)) ≡ None → Within (plan_of_entries es)
    → Seen (placements (plan_of_entries es)) (length es)
unfolding given_plan heap_given block_count present
seen es sized loaded within = record { present = there; short = short_places (record_of (packed p)) low (range_with_len 0 (block_count p)) }
  where
    p : Plan
    p = plan_of_entries es

    low : (i : ℕ) → ((record_of (packed p) i).x < 1000000000) × ((record_of (packed p) i).y < 1000000000)
    low i = let w = record_within (packed p) i in (omega (arith, within.near), omega (arith, within.low))

    there : (i : ℕ) → i < length es → Placed (at (placements p) i)
    there i h =
        let whole = loads_are_whole (heap_given (map size_of es)) loaded in
        let within_sizes : i < length (map size_of es) = omega (arith, length-map es size_of) in
        let stands = of_present p whole.0 (placements p) (placements_recorded p) i (ltb-true 0 _ (whole.1 i within_sizes)) in
        let fits = not-false _ (none_found (wrong_size (map size_of es)) (length (map size_of es)) sized i within_sizes) in
        let wide = leb-true 1 (size_at (map size_of es) i).width (and_parts _ _ (and_parts (side_fits (size_at (map size_of es) i).width) _ fits).0).0 in
        omega (arith, (size_is p (placements p) i stands).0, wide)

-- so each of them has a line
all_lines : (text : List ℕ) (es : List Entry) (ps : List Placement) → ((i : ℕ) → i < length es → Placed (at ps i)) → lines_of text es ps ≡ named_lines (map (marked text) es) ps
unfolding lines_of named_lines
all_lines text [] ps h = refl
all_lines text (e ∷ es) [] h = refl
all_lines text (e ∷ es) (p ∷ ps) h =
    let line_is = present_line text e p (ne_eqb p.width 0 (λ z. omega (arith, h 0 (omega arith)))) in
    λ j. line_is j ++ all_lines text es ps (λ i l. h (suc i) (omega arith)) j

pub text_is : (text : List ℕ) (es : List Entry) (ps : List Placement) → Seen ps (length es) → pl_text text es ps ≡ named_text (map (marked text) es) ps
unfolding pl_text named_text
text_is text es ps s = ap (λ (l : List ℕ). header ++ l) (all_lines text es ps s.present)

-- and is told by it
all_told : (text : List ℕ) (es : List Entry) (ps : List Placement) → ((i : ℕ) → i < length es → Placed (at ps i)) → placed_blocks text es ps ≡ told_places (map (marked text) es) ps
unfolding placed_blocks told_places
all_told text [] ps h = refl
all_told text (e ∷ es) [] h = refl
all_told text (e ∷ es) (p ∷ ps) h =
    cond-false (eqb p.width 0) _ _ (ne_eqb p.width 0 (λ z. omega (arith, h 0 (omega arith)))) ∙
    ap (λ (ts : List Told). record { name = marked text e; x = p.x; y = p.y } ∷ ts) (all_told text es ps (λ i l. h (suc i) (omega arith)))

-- and the text that is written tells them all
tells_all : (text : List ℕ) (es : List Entry) (ps : List Placement) (after : List ℕ) (r : Result ℕ Refusal) → Seen ps (length es) → ReadBack text es ps after r → Tells (map (marked text) es) ps after r
tells_all text es ps after (Err e) s back = tt
tells_all text es ps after (Ok n) s back = back s.short ∙ ap Some (all_told text es ps s.present)

pub tells : (text : List ℕ) (es : List Entry) (qs ps : List Placement) (after : List ℕ) (r : Result ℕ Refusal) → qs ≡ ps → Seen ps (length es) → ReadBack text es qs after r → Tells (map (marked text) es) ps after r
tells text es qs ps after r is s back = tells_all text es ps after r s (subst (λ (ps : List Placement). ReadBack text es ps after r) is back)
