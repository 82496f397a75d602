-- The lines that are left.
use Rattle.std.proofs.Common.{ℕ, suc, ◌+◌, ◌≤◌, Bool, true, false, cond, eqb, List, [], ◌∷◌, length, ap, arith}
use Rattle.std.proofs.lemmas.List.{length-take}
use Rattle.std.proofs.lemmas.Bool.{cond_both}
use Rattle.grammar.specs.Lines.{Line, line_of, begun, lines_from, skipped, used}
use Rattle.grammar.proofs.Following.{line_stands}
use Rattle.reader.specs.declared.lines.UsedLines.{UsedLines}
use Rattle.reader.specs.Left.{lines_left}

-- a line is no longer than what it is the first line of
pub line_within : (bs : List ℕ) → length (line_of bs) ≤ length bs
line_within bs = omega (arith, ap length (line_stands bs), length-take (length (line_of bs)) bs)

-- no more lines than bytes
begun_few : (fresh : Bool) (l : Line) (ls : List Line) (n : ℕ) → length ls ≤ n → length (begun fresh l ls) ≤ suc n
begun_few true l ls n h = omega arith
begun_few false l ls n h = omega arith

lines_few : (fresh : Bool) (number place : ℕ) (bs : List ℕ) → length (lines_from fresh number place bs) ≤ length bs
unfolding lines_from
lines_few fresh number place [] = omega arith
lines_few fresh number place (b ∷ bs) =
    let behind = lines_from true (number + 1) (place + 1) bs in
    let on = lines_from false number (place + 1) bs in
    let more : length (cond (eqb b 10) behind on) ≤ length bs =
    cond_both (eqb b 10) behind on (λ (ls : List Line). length ls ≤ length bs) (λ t. lines_few true (number + 1) (place + 1) bs) (λ f. lines_few false number (place + 1) bs) in
    begun_few fresh _ _ (length bs) more

used_few : (ls : List Line) → length (used ls) ≤ length ls
unfolding used
used_few [] = omega arith
used_few (l ∷ ls) =
    let more = used_few ls in
    cond_both (skipped l.bytes) (used ls) (l ∷ used ls) (λ us. length us ≤ suc (length ls)) (λ t. omega arith) (λ f. omega arith)

pub few_left : (s : UsedLines) → length (lines_left s) ≤ 65536
few_left s =
    omega (arith, used_few (lines_from true s.number s.place s.rest.now), lines_few true s.number s.place s.rest.now, s.near)
