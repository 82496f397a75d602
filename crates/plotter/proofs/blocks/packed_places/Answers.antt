use Rattle.std.proofs.Common.{◌≡◌, ℕ, List, map, length, take, sym, ap, ◌∙◌, arith}
use Rattle.std.proofs.lemmas.List.{take_all}
use Rattle.rules.specs.declared.blocks.Size.{Size}
use Rattle.plan.specs.Sound.{plan_of}
use Rattle.plan.specs.Meaning.{rows, root_of}
use Rattle.plan.specs.declared.plans.Plan.{Plan as Held}
use Rattle.names.specs.declared.entries.Entry.{Entry}
use Rattle.plotter.specs.Plots.{size_of}
use Rattle.plotter.proofs.Told.{loaded, within_told, places_told}
use Rattle.plotter.proofs.Seeing.{seen}
use Rattle.plotter.proofs.blocks.packed_places.Goals as goal

-- behind the last block all sizes are there
all_sizes : (es : List Entry) (ss : List Size) (i : ℕ) → i ≡ length es → take i ss ≡ map size_of (take i es) → take (length es) ss ≡ map size_of es
all_sizes es ss i at h = ap (λ n. take n ss) (sym at) ∙ h ∙ ap (map size_of) (take_all i es (omega arith))

pub unreachable-requires : goal.unreachable-requires
unreachable-requires c =
    let es = c.args.entries.now in
    let own = all_sizes es c.loop-i.sizes c.loop-i.i (omega (arith, c.loop-i-test.false, c.loop-i.auto.i-end)) c.loop-i.invariant.1 in
    (loaded es _ _ _ _ own c.requires.few c.requires.sized c.load_heap.ensures.tests c.load_heap.ensures.load).no_refusal _ c.in_default.is

pub returns : goal.returns
returns c =
    let es = c.args.entries.now in
    let own = all_sizes es c.loop-i.sizes c.loop-i.i (omega (arith, c.loop-i-test.false, c.loop-i.auto.i-end)) c.loop-i.invariant.1 in
    let l = loaded es _ _ _ _ own c.requires.few c.requires.sized c.load_heap.ensures.tests c.load_heap.ensures.load in
    let told = ap (λ (h : Held). plan_of (rows h) (root_of h)) c.plan.ensures ∙ l.plan in
    record {
      seen = seen es c.requires.sized l.passes (within_told es _ told c.places_of.ensures.within);
      places = places_told es _ _ told c.places_of.ensures.places;
    }
