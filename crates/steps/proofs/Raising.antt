-- A raised run put into runs in order: they are in order again, and the heights are those of a raise.
use Rattle.std.proofs.Common.{◌≡◌, ℕ, ◌+◌, ◌-◌, ◌<◌, ◌≤◌, true, ltb, List, [], ◌∷◌, ◌++◌, take, drop, sym, refl, ap, ◌∙◌, inl, inr, add-one, arith}
use Rattle.std.proofs.lemmas.List.{append_assoc, take-append-drop, drop_more}
use Rattle.std.proofs.lemmas.Bool.{lt-ltb, cond-true, cond_both, ltb-true, ltb-false, cases_lt}
use Rattle.skyline.specs.declared.spans.Run.{Run}
use Rattle.steps.specs.Order.{in_order, height_at, run_at, Holds, rest_before, rest_behind, pieces, replaced}
use Rattle.steps.proofs.Edges.{none_ordered, one_more, append_ordered, edge, edge_start, edge_end, cut}
use Rattle.steps.proofs.Heights.{height_here, height_next, height_front, height_rest}

module _ (e first last : ℕ) (xs : List Run) (raised : Run) (ordered : in_order 0 xs e ≡ true) (some : raised.start < raised.end)
    (left_holds : Holds xs first raised.start) (right_holds : Holds xs last (raised.end - 1)) where
  abbrev left : Run
  left = run_at xs first

  abbrev right : Run
  right = run_at xs last

  abbrev front : List Run
  front = take first xs

  abbrev back : List Run
  back = drop (last + 1) xs

  abbrev raised_runs : List Run
  raised_runs = replaced first (last + 1) (pieces left right raised) xs

  -- the four parts of the new runs beside the raised one
  front_ordered : in_order 0 front left.start ≡ true
  front_ordered = ap (in_order 0 front) (edge_start 0 e first xs ordered left_holds.within) ∙ (cut 0 e first xs ordered).0

  before_ordered : in_order left.start (rest_before left raised) raised.start ≡ true
  before_ordered =
      cond_both (ltb left.start raised.start) _ _ (λ zs. in_order left.start zs raised.start ≡ true)
      (λ t. one_more _ _ _ [] refl (ltb-true _ _ t) (none_ordered _))
      (λ t. let same : left.start ≡ raised.start = omega (arith, ltb-false _ _ t, left_holds.from) in
      ap (in_order left.start []) (sym same) ∙ none_ordered left.start)

  behind_ordered : in_order raised.end (rest_behind right raised) right.end ≡ true
  behind_ordered =
      cond_both (ltb raised.end right.end) _ _ (λ zs. in_order raised.end zs right.end ≡ true)
      (λ t. one_more _ _ _ [] refl (ltb-true _ _ t) (none_ordered _))
      (λ t. let same : raised.end ≡ right.end = omega (arith, ltb-false _ _ t, right_holds.to) in
      ap (in_order raised.end []) (sym same) ∙ none_ordered raised.end)

  back_ordered : in_order right.end back e ≡ true
  back_ordered =
      let end : right.end ≡ edge 0 xs (last + 1) = rw (add-one last) (edge_end 0 last xs right_holds.within) in
      ap (λ n. in_order n back e) end ∙ (cut 0 e (last + 1) xs ordered).1

  parts : raised_runs ≡ front ++ (rest_before left raised ++ (raised ∷ (rest_behind right raised ++ back)))
  parts = ap (λ zs. front ++ zs) (append_assoc (rest_before left raised) (raised ∷ rest_behind right raised) back)

  pub raised_ordered : in_order 0 raised_runs e ≡ true
  raised_ordered =
      ap (λ zs. in_order 0 zs e) parts
      ∙ append_ordered 0 left.start e front _ front_ordered
      (append_ordered left.start raised.start e (rest_before left raised) _ before_ordered
      (one_more raised.start e raised _ refl some (append_ordered raised.end right.end e (rest_behind right raised) back behind_ordered back_ordered)))

  -- the old runs, cut at the one that holds the first column, and at the one that holds the last
  from_left : (c : ℕ) → height_at xs c ≡ height_at (front ++ (left ∷ drop (first + 1) xs)) c
  from_left c =
      ap (λ zs. height_at zs c) (sym (take-append-drop first xs) ∙ ap (λ zs. front ++ zs) (drop_more xs first _ left_holds.within))

  from_right : (c : ℕ) → raised.end ≤ c → height_at xs c ≡ height_at (right ∷ back) c
  from_right c l =
      let start = edge_start 0 e last xs ordered right_holds.within in
      ap (λ zs. height_at zs c) (sym (take-append-drop last xs) ∙ ap (λ zs. take last xs ++ zs) (drop_more xs last _ right_holds.within))
      ∙ height_rest 0 _ c (take last xs) (right ∷ back) (cut 0 e last xs ordered).0 (omega (arith, right_holds.from))

  pub height_before : (c : ℕ) → c < raised.start → height_at raised_runs c ≡ height_at xs c
  height_before c l = ap (λ zs. height_at zs c) parts ∙ elim (cases_lt c left.start) [
    | inl h ↦
        height_front 0 _ c front _ front_ordered (omega arith) h ∙ sym (height_front 0 _ c front _ front_ordered (omega arith) h) ∙ sym (from_left c)
    | inr h ↦
        let kept : rest_before left raised ≡ record { start = left.start; end = raised.start; top = left.top } ∷ [] =
        cond-true (ltb left.start raised.start) _ _ (lt-ltb left.start raised.start (omega arith)) in
        height_rest 0 _ c front _ front_ordered h
        ∙ ap (λ zs. height_at (zs ++ (raised ∷ (rest_behind right raised ++ back))) c) kept
        ∙ height_here _ _ c l
        ∙ sym (from_left c ∙ height_rest 0 _ c front _ front_ordered h ∙ height_here left _ c (omega (arith, left_holds.to)))
  ]

  -- from the raised run on
  from_raised : (c : ℕ) → raised.start ≤ c → height_at raised_runs c ≡ height_at (raised ∷ (rest_behind right raised ++ back)) c
  from_raised c l =
      ap (λ zs. height_at zs c) parts ∙ height_rest 0 _ c front _ front_ordered (omega (arith, left_holds.from))
      ∙ height_rest _ _ c (rest_before left raised) _ before_ordered l

  pub height_inside : (c : ℕ) → raised.start ≤ c → c < raised.end → height_at raised_runs c ≡ raised.top
  height_inside c l u = from_raised c l ∙ height_here raised _ c u

  pub height_behind : (c : ℕ) → raised.end ≤ c → height_at raised_runs c ≡ height_at xs c
  height_behind c l = from_raised c (omega arith) ∙ height_next raised _ c l ∙ elim (cases_lt c right.end) [
    | inl h ↦
        let kept : rest_behind right raised ≡ record { start = raised.end; end = right.end; top = right.top } ∷ [] =
        cond-true (ltb raised.end right.end) _ _ (lt-ltb raised.end right.end (omega arith)) in
        ap (λ zs. height_at (zs ++ back) c) kept ∙ height_here _ back c h ∙ sym (from_right c l ∙ height_here right back c h)
    | inr h ↦ height_rest _ _ c (rest_behind right raised) back behind_ordered h ∙ sym (from_right c l ∙ height_next right back c h)
  ]
