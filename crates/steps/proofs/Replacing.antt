-- A list whose end is moved, and whose middle is then written: the new items stand in the place of the old.
use Rattle.std.proofs.Common.{◌≡◌, ℕ, ◌+◌, ◌-◌, ◌≤◌, List, ◌++◌, length, take, drop, sym, ap, ◌∙◌, arith}
use borrow.Rule.Slice.PartMut.{put_mid}
use lib.Seq.{paste}
use Rattle.std.proofs.lemmas.List.{append_assoc, length-append, length-take-le, length-drop, take-append-drop, take-take, take-append-le, take_at, drop_at, drop-drop}
use Rattle.std.proofs.lemmas.Slice.{between_is}

-- a part that is moved to where it stands
pub stays : {X : Type 0} (xs : List X) (i n : ℕ) → paste xs i (drop i xs) n ≡ xs
stays xs i n =
    append_assoc (take i xs) (take n (drop i xs)) (drop (i + n) xs)
    ∙ ap (λ zs. take i xs ++ (take n (drop i xs) ++ zs)) (sym (drop-drop n i xs))
    ∙ ap (λ zs. take i xs ++ zs) (take-append-drop n (drop i xs)) ∙ take-append-drop i xs

module _ {X : Type 0} (xs new : List X) (used first past : ℕ) (forward : first ≤ past) (within : past ≤ used) (held : used ≤ length xs)
    (room : (first + length new) + (used - past) ≤ length xs) where
  abbrev rest : ℕ
  rest = first + length new

  abbrev moved : List X
  moved = paste xs rest (drop past xs) (used - past)

  abbrev behind : List X
  behind = drop (rest + (used - past)) xs

  moved_front : take first moved ≡ take first xs
  moved_front =
      let long : first ≤ length (take rest xs) = rw (length-take-le rest xs (omega arith)) (omega arith) in
      ap (take first) (append_assoc (take rest xs) (take (used - past) (drop past xs)) behind)
      ∙ take-append-le first (take rest xs) _ long ∙ take-take first rest xs (omega arith)

  moved_rest : drop rest moved ≡ take (used - past) (drop past xs) ++ behind
  moved_rest =
      ap (drop rest) (append_assoc (take rest xs) (take (used - past) (drop past xs)) behind)
      ∙ drop_at (take rest xs) _ rest (length-take-le rest xs (omega arith))

  -- ys is the list with its end moved, zs what is written from first on
  pub written : (k : ℕ) (ys zs : List X) → k ≡ length new → ys ≡ moved → zs ≡ new
      → take (rest + (used - past)) (put_mid first k ys zs) ≡ take first (take used xs) ++ (new ++ drop past (take used xs))
  written k ys zs is was wrote =
      let tail : drop k (drop first moved) ≡ take (used - past) (drop past xs) ++ behind =
      drop-drop k first moved ∙ ap (λ n. drop (first + n) moved) is ∙ moved_rest in
      let front = take first xs ++ (new ++ take (used - past) (drop past xs)) in
      let whole : put_mid first k moved new ≡ front ++ behind =
      ap (λ ws. ws ++ (new ++ drop k (drop first moved))) moved_front
      ∙ ap (λ ws. take first xs ++ (new ++ ws)) tail
      ∙ simp append_assoc in
      let long : length front ≡ rest + (used - past) =
      simp (length-append, length-take-le first xs (omega arith), length-take-le (used - past) (drop past xs) (simp length-drop (omega arith))) (omega arith) in
      ap (λ ws. take (rest + (used - past)) (put_mid first k ws zs)) was
      ∙ ap (λ ws. take (rest + (used - past)) (put_mid first k moved ws)) wrote
      ∙ ap (take (rest + (used - past))) whole ∙ take_at front behind _ long
      ∙ ap (λ ws. ws ++ (new ++ take (used - past) (drop past xs))) (sym (take-take first used xs (omega arith)))
      ∙ ap (λ ws. take first (take used xs) ++ (new ++ ws)) (between_is xs past used)
