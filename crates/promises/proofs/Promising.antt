-- Every accepted packing keeps the whole promise.
use Rattle.std.proofs.Common.{◌≡◌, ℕ, ◌<◌, false, ◌≢◌, List, sym, ap, ◌∙◌, subst, inl, inr, arith}
use Rattle.std.proofs.lemmas.Bool.{cases_lt, le-ltb}
use Rattle.rules.specs.declared.placements.Placement.{Placement}
use Rattle.rules.specs.Trees.{count}
use Rattle.rules.specs.Plans.{Plan, Whole, block_count, present}
use Rattle.rules.specs.Packing.{packed, column}
use Rattle.rules.specs.Skylines.{Sky}
use Rattle.rules.specs.Book.{Call, Book, book, book_plan, out_of_turn, state_after}
use Rattle.theorems.specs.Histories.{pruned}
use Rattle.theorems.proofs.Passed.{absent_count}
use Rattle.theorems.proofs.Sounding.{presence_in_books}
use Rattle.theorems.proofs.LeftOut.{leaving_out}
use Rattle.theorems.proofs.Pruning.{pruned_is_without}
use Rattle.promises.specs.Packs.{Packs, Under}
use Rattle.promises.specs.Promise.{at, Placed, HighestTop, Promise}
use Rattle.promises.specs.Laws.{PromiseHolds, PromiseOfSettled, PromiseOfTried, PrunedPromise}
use Rattle.promises.proofs.Sides.{book_sided, book_count, book_whole}
use Rattle.promises.proofs.Records.{Recorded, recorded, of_present, of_absent}
use Rattle.promises.proofs.Shown.{size_is, apart, stands, highest_top, floor, left_edge, free, root_left, left_child, right_child}

packs_alike : (p q : Plan) (width high : ℕ) (rs : List Placement) → p ≡ q → Packs p width high rs → Packs q width high rs
packs_alike p q width high rs e k = subst (λ (v : Plan). Packs v width high rs) e k

absent : (p : Plan) (i : ℕ) → count i p.tree ≡ 0 → present p i ≡ false
unfolding present
absent p i z = le-ltb 0 (count i p.tree) (omega arith)

pub promise_holds : PromiseHolds
promise_holds cs width high rs t ok k sky = record {
  unplaced = λ i b none. (presence_in_books cs ok i b).absent (absent p i (uncounted i b none));
  taken_out = λ i b out placed.
      let gone = absent_count p i ((presence_in_books cs ok i b).taken_out out) in
      omega (arith, placed, ap (λ (r : Placement). r.width) (of_absent p w rs h i (omega (arith, n)) gone));
  apart = apart p w N n rs h;
  by_book = k;
  by_shorter = λ ds m.
      let same = leaving_out cs ds m ok in
      (same.1, packs_alike p (book_plan (book ds)) width high rs (ap book_plan (sym same.0)) k);
  stands = stands p w N n rs h;
  columns = λ c b. subst (HighestTop N rs c) (sym (sky c b)) (highest_top p w N n rs h c);
  leftmost_on_floor = floor p w N n rs h;
  rightmost_at_left = left_edge p w N n rs h;
  bottom_right_free = free p w N n rs h (book_sided cs);
  root_at_left = root_left p w rs h;
  left_child = left_child p w rs h;
  right_child = right_child p w rs h;
}
  where
    p : Plan
    p = book_plan (book cs)

    N : ℕ
    N = block_count (book cs).loaded

    n : block_count p ≡ N
    n = book_count cs

    w : Whole p
    w = book_whole cs ok

    h : Recorded p rs
    h = recorded p rs k.records

    uncounted : (i : ℕ) → i < N → (Placed (at rs i) → ⊥) → count i p.tree ≡ 0
    uncounted i b none = elim (cases_lt 0 (count i p.tree)) [
      | inl c ↦
          let f = of_present p w rs h i c in
          absurd (none (omega (arith, (size_is p rs i f).0, (book_sided cs i f.within).0)))
      | inr c ↦ omega arith
    ]

-- the plan in hand is the one in the book of the calls that it follows
promise_of : (cs : List Call) (p : Plan) (width high : ℕ) (rs : List Placement) (s t : Sky) → state_after cs ≢ out_of_turn → p ≡ book_plan (book cs)
    → Packs p width high rs → Under p s t → Promise cs width high rs t
promise_of cs p width high rs s t ok e k u =
    promise_holds cs width high rs t ok (packs_alike p (book_plan (book cs)) width high rs e k)
    (λ c b. u.height c (omega (arith, u.columns)) ∙ ap (λ (q : Plan). column (packed q) c) e)

pub promise_of_settled : PromiseOfSettled
promise_of_settled cs p kept width high rs s t h =
    promise_of cs p width high rs s t (λ e. cc h.state) h.in_book

pub promise_of_tried : PromiseOfTried
promise_of_tried cs p before kept_next kept width high rs s t h =
    promise_of cs p width high rs s t (λ e. cc h.state) h.in_book

pub pruned_promise : PrunedPromise
pruned_promise cs ok =
    let m = pruned_is_without cs in
    let same = leaving_out cs (pruned cs) m ok in
    record { without = m; state = same.1; plan = ap book_plan same.0; packing = ap (λ (b : Book). packed (book_plan b)) same.0 }
