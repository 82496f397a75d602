-- Raised runs as a skyline, and one more of them.
use Rattle.std.proofs.Common.{◌≡◌, ℕ, ◌+◌, ◌<◌, ◌≤◌, max, List, length, reverse, drop, sym, ap, ◌∙◌, arith, length-set}
use Rattle.std.proofs.lemmas.List.{drop-set-lt}
use Rattle.std.proofs.lemmas.Bool.Decides.{nat_tests}
use Rattle.rules.specs.Skylines.{NoneAbove, Largest, Raised}
use Rattle.skyline.specs.declared.spans.Run.{Run}
use Rattle.skyline.specs.Spans.{part, run_extent, highest_top}
use Rattle.skyline.proofs.Tops.{top_reverse, top_above, top_met}
use Rattle.stack.specs.Stacked.{held}
use Rattle.placed.specs.declared.Placed.{Placed}
use Rattle.placed.specs.Meaning.{lent, used, placed_sky, OneMore, KeptBehind}

-- the highest top over a span is the largest height of its columns
pub placed_largest : (s : Placed) (xs : List Run) (a b m : ℕ) → a < b → held s.raised ≡ reverse xs → m ≡ highest_top run_extent xs a b → Largest (placed_sky s) a b m
placed_largest s xs a b m some are is =
    let runs = held s.raised in
    let top : highest_top run_extent runs a b ≡ m = ap (λ zs. highest_top run_extent zs a b) are ∙ top_reverse run_extent xs a b ∙ sym is in
    let met = top_met run_extent runs a b some in
    record {
      bounds = λ c from to. omega (arith, top_above run_extent runs a b c from to, top);
      met_at = met.0;
      from_a = met.1;
      to_b = met.2;
      is_met = met.3 ∙ top;
    }

-- one more run, whose top is not below a column of its span, raises the skyline
pub placed_raised : (s t : Placed) (a b h : ℕ) → 0 < (placed_sky s).left → NoneAbove (placed_sky s) a b h
    → OneMore s (record { start = a; end = b; top = h }) t → Raised (placed_sky s) (placed_sky t) a b h
placed_raised s t a b h left none more =
    let x : Run = record { start = a; end = b; top = h } in
    let one_more : used t ≡ used s + 1 = let size = ap length more.newest in omega arith in
    let height : (c : ℕ) → (placed_sky t).height c ≡ max (part (run_extent x) c (c + 1)) ((placed_sky s).height c)
    = λ c. ap (λ xs. highest_top run_extent xs c (c + 1)) more.newest in
    let inside : (c : ℕ) → a ≤ c → c < b → part (run_extent x) c (c + 1) ≡ h = λ c from to. grind (arith, nat_tests) in
    let before : (c : ℕ) → c < a → part (run_extent x) c (c + 1) ≡ 0 = λ c l. grind (arith, nat_tests) in
    let behind : (c : ℕ) → b ≤ c → part (run_extent x) c (c + 1) ≡ 0 = λ c l. grind (arith, nat_tests) in
    record {
      columns = cc;
      raises = cc;
      left = omega arith;
      inside = λ c from to. omega (arith, height c, inside c from to, none c from to);
      before = λ c l. omega (arith, height c, before c l);
      behind = λ c l u. omega (arith, height c, behind c l);
    }

-- one more run leaves the records that no raise can take
pub kept_behind : (s t : Placed) (x : Run) → 0 < (placed_sky s).left → OneMore s x t → KeptBehind (lent s) (lent t)
kept_behind s t x left more =
    let few : used s < 65536 = omega arith in
    record {
      size = ap length more.records ∙ length-set (lent s) (used s) x;
      records = ap (drop 65536) more.records ∙ drop-set-lt 65536 (lent s) (used s) x few;
    }
