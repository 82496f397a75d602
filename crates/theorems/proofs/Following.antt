-- How a plan follows its calls: each call, by what it makes of the plan and the count, adds itself to any list that the plan
-- has followed so far.
use Rattle.std.proofs.Common.{◌≡◌, ℕ, ◌+◌, min, List, [], ◌∷◌, ◌++◌, length, Some, None, Option, sym, refl, ap, ◌∙◌, append-nil, arith, length-append}
use Rattle.rules.specs.declared.edits.Edit.{Edit}
use Rattle.rules.specs.declared.refusals.Refusal.{Refusal}
use Rattle.rules.specs.Plans.{Plan, new_plan}
use Rattle.rules.specs.Edits.{edited, edit_refusal}
use Rattle.rules.specs.Loads.{Given, load_refusal}
use Rattle.rules.specs.Book.{Call, load, test, begin, keep, undo, pack, Book, new_book, in_force, performed, book_plan, kept_plan, kept_count, after_load, after_begin, fed, book, State, settled, tried, next, state_after, Settles, Tries}
use Rattle.theorems.specs.Steps.{plan_loaded, count_loaded, plan_begun, count_begun}
use Rattle.theorems.proofs.Books.{performed_snoc, book-from-++, state-from-++, shut, in_force_shut, plan_shut}

-- how many trials the book will have if the open one is kept
abbrev next_count : Book → ℕ
next_count b = min 4294967295 (length (in_force b))

module _ (cs : List Call) (c : Call) where
  book_snoc : book (cs ++ (c ∷ [])) ≡ fed (book cs) c
  book_snoc = book-from-++ new_book cs (c ∷ [])

  state_snoc : (s : State) → state_after cs ≡ s → state_after (cs ++ (c ∷ [])) ≡ next s c
  state_snoc s e = state-from-++ settled cs (c ∷ []) ∙ ap (λ t. next t c) e

  settles_snoc : (s : State) (p : Plan) (kept : ℕ) → state_after cs ≡ s → next s c ≡ settled
      → p ≡ book_plan (fed (book cs) c) → kept ≡ kept_count (fed (book cs) c) → Settles (cs ++ (c ∷ [])) p kept
  settles_snoc s p kept e n h k =
      record { state = state_snoc s e ∙ n; in_book = h ∙ ap book_plan (sym book_snoc); counted = k ∙ ap kept_count (sym book_snoc) }

  tries_snoc : (s : State) (p q : Plan) (kept_next kept : ℕ) → state_after cs ≡ s → next s c ≡ tried
      → p ≡ book_plan (fed (book cs) c) → q ≡ kept_plan (fed (book cs) c)
      → kept ≡ kept_count (fed (book cs) c) → kept_next ≡ next_count (fed (book cs) c) → Tries (cs ++ (c ∷ [])) p q kept_next kept
  tries_snoc s p q kept_next kept e n h b k m = record {
    state = state_snoc s e ∙ n;
    in_book = h ∙ ap book_plan (sym book_snoc);
    back = b ∙ ap kept_plan (sym book_snoc);
    counted = k ∙ ap kept_count (sym book_snoc);
    counted_next = m ∙ ap next_count (sym book_snoc);
  }

pub follows_new : Settles [] new_plan 0
follows_new = record { state = refl; in_book = refl; counted = refl }

load_plan : (r : Option Refusal) (g : Given) (b : Book) → plan_loaded r g (book_plan b) ≡ book_plan (after_load r g b)
load_plan None g b = refl
load_plan (Some r) g b = refl

load_count : (r : Option Refusal) (g : Given) (b : Book) → count_loaded r (kept_count b) ≡ kept_count (after_load r g b)
load_count None g b = refl
load_count (Some r) g b = refl

pub follows_load : (g : Given) (p p' : Plan) (kept kept' : ℕ)
    → p' ≡ plan_loaded (load_refusal g) g p → kept' ≡ count_loaded (load_refusal g) kept
    → (cs : List Call) → Settles cs p kept → Settles (cs ++ (load g ∷ [])) p' kept'
follows_load g p p' kept kept' hp hk cs h =
    settles_snoc cs (load g) settled p' kept' h.state refl
    (hp ∙ ap (plan_loaded (load_refusal g) g) h.in_book ∙ load_plan (load_refusal g) g (book cs))
    (hk ∙ ap (count_loaded (load_refusal g)) h.counted ∙ load_count (load_refusal g) g (book cs))

pub follows_test : (e : Edit) (p : Plan) (kept : ℕ) → (cs : List Call) → Settles cs p kept → Settles (cs ++ (test e ∷ [])) p kept
follows_test e p kept cs h = settles_snoc cs (test e) settled p kept h.state refl h.in_book h.counted

-- one more is counted alike before and behind the stop of the count
count_on : (n m : ℕ) → m ≡ n + 1 → min 4294967295 (min 4294967295 n + 1) ≡ min 4294967295 m
count_on n m h = omega arith

module _ (e : Edit) (b : Book) (s : b.open_edit ≡ None) where
  begin_plan : (r : Option Refusal) → plan_begun r e (book_plan b) ≡ book_plan (after_begin r e b)
  begin_plan None = ap (edited e) (plan_shut b s) ∙ sym (performed_snoc b.kept e b.loaded)
  begin_plan (Some r) = refl

  begin_back : (r : Option Refusal) → book_plan b ≡ kept_plan (after_begin r e b)
  begin_back None = plan_shut b s
  begin_back (Some r) = plan_shut b s

  begin_count : (r : Option Refusal) → kept_count b ≡ kept_count (after_begin r e b)
  begin_count None = refl
  begin_count (Some r) = refl

  begin_next : (r : Option Refusal) → count_begun r (kept_count b) ≡ next_count (after_begin r e b)
  begin_next None = count_on (length b.kept) _ (length-append b.kept (e ∷ []))
  begin_next (Some r) = ap (λ es. min 4294967295 (length es)) (sym (in_force_shut b s))

pub follows_begin : (e : Edit) (p p' before' : Plan) (kept kept_next kept' : ℕ)
    → p' ≡ plan_begun (edit_refusal p e) e p → before' ≡ p → kept_next ≡ count_begun (edit_refusal p e) kept → kept' ≡ kept
    → (cs : List Call) → Settles cs p kept → Tries (cs ++ (begin e ∷ [])) p' before' kept_next kept'
follows_begin e p p' before' kept kept_next kept' hp hb hn hk cs h =
    let s = shut cs h.state in
    let r = edit_refusal (book_plan (book cs)) e in
    tries_snoc cs (begin e) settled p' before' kept_next kept' h.state refl
    (hp ∙ ap (λ q. plan_begun (edit_refusal q e) e q) h.in_book ∙ begin_plan e (book cs) s r)
    (hb ∙ h.in_book ∙ begin_back e (book cs) s r)
    (hk ∙ h.counted ∙ begin_count e (book cs) s r)
    (hn ∙ ap (λ q. count_begun (edit_refusal q e) kept) h.in_book ∙ ap (count_begun r) h.counted ∙ begin_next e (book cs) s r)

pub follows_keep : (p before p' : Plan) (kept_next kept kept' : ℕ) → p' ≡ p → kept' ≡ kept_next
    → (cs : List Call) → Tries cs p before kept_next kept → Settles (cs ++ (keep ∷ [])) p' kept'
follows_keep p before p' kept_next kept kept' hp hk cs h =
    settles_snoc cs keep tried p' kept' h.state refl
    (hp ∙ h.in_book ∙ sym (ap (λ es. performed es (book cs).loaded) (append-nil (in_force (book cs)))))
    (hk ∙ h.counted_next)

pub follows_undo : (p before p' : Plan) (kept_next kept kept' : ℕ) → p' ≡ before → kept' ≡ kept
    → (cs : List Call) → Tries cs p before kept_next kept → Settles (cs ++ (undo ∷ [])) p' kept'
follows_undo p before p' kept_next kept kept' hp hk cs h =
    settles_snoc cs undo tried p' kept' h.state refl
    (hp ∙ h.back ∙ sym (ap (λ es. performed es (book cs).loaded) (append-nil (book cs).kept)))
    (hk ∙ h.counted)

pub follows_pack_settled : (p : Plan) (kept : ℕ) → (cs : List Call) → Settles cs p kept → Settles (cs ++ (pack ∷ [])) p kept
follows_pack_settled p kept cs h = settles_snoc cs pack settled p kept h.state refl h.in_book h.counted

pub follows_pack_tried : (p before : Plan) (kept_next kept : ℕ)
    → (cs : List Call) → Tries cs p before kept_next kept → Tries (cs ++ (pack ∷ [])) p before kept_next kept
follows_pack_tried p before kept_next kept cs h =
    tries_snoc cs pack tried p before kept_next kept h.state refl h.in_book h.back h.counted h.counted_next
