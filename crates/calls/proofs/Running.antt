-- The calls of a list, one after the other.
use Rattle.std.proofs.Common.{◌≡◌, ℕ, ◌+◌, ◌<◌, ◌≤◌, ◌≢◌, List, [], ◌∷◌, ◌++◌, map, length, get_or, take, drop, sym, refl, ap, ◌∙◌, subst, take-append-drop}
use Rattle.std.proofs.lemmas.List.{take_more, take_all, map-append}
use Rattle.rules.specs.Skylines.{Sky}
use Rattle.rules.specs.Book.{Call, Book, new_book, book_plan, fed, book_from, book, settled, out_of_turn, state_from, state_after}
use Rattle.theorems.proofs.Books.{state-from-++, out_of_turn_stays}
use Rattle.calls.specs.declared.call.Call.{Call as Given}
use Rattle.calls.specs.declared.desk.Desk.{Desk}
use Rattle.calls.specs.Said.{said}
use Rattle.calls.specs.Desks.{DeskBy}
use Rattle.calls.specs.Runs.{Memory, CallLeaves, Performed}

-- one call more is performed behind the others
pub performed_snoc : {S : Type 0} (meaning : S → Sky) (b : Book) (cs : List Call) (c : Call) (m n o : Memory S)
    → Performed meaning b cs m n → CallLeaves meaning (book_plan (book_from b cs)) c n o → Performed meaning b (cs ++ (c ∷ [])) m o
performed_snoc meaning b [] c m n o p h = (o, subst (λ x. CallLeaves meaning (book_plan b) c x o) p h, refl)
performed_snoc meaning b (d ∷ cs) c m n o p h = (p.0, p.1, performed_snoc meaning (fed b d) cs c p.0 n o p.2 h)

-- a front of a list in turn is in turn
front_in_turn : (cs ds : List Call) → state_after (cs ++ ds) ≢ out_of_turn → state_after cs ≢ out_of_turn
front_in_turn cs ds ok e = ok (state-from-++ settled cs ds ∙ ap (λ s. state_from s ds) e ∙ out_of_turn_stays ds)

module _ {A : Type 0} (say : A → Call) (calls : List A) where
  pub take_in_turn : (i : ℕ) → state_after (map say calls) ≢ out_of_turn → state_after (map say (take i calls)) ≢ out_of_turn
  take_in_turn i ok =
      let split : map say calls ≡ map say (take i calls) ++ map say (drop i calls) = ap (map say) (sym (take-append-drop i calls)) ∙ map-append say (take i calls) (drop i calls) in
      front_in_turn (map say (take i calls)) (map say (drop i calls)) (subst (λ cs. state_after cs ≢ out_of_turn) split ok)

  pub take_snoc : (i : ℕ) (d : A) → i < length calls → map say (take (i + 1) calls) ≡ map say (take i calls) ++ (say (get_or calls i d) ∷ [])
  take_snoc i d h = ap (map say) (take_more calls i d h) ∙ map-append say (take i calls) (get_or calls i d ∷ [])

  pub take_whole : (i : ℕ) → length calls ≤ i → map say (take i calls) ≡ map say calls
  take_whole i h = ap (map say) (take_all i calls h)

-- call i is performed behind those before it; k and n are the walk records lent, before it and at first
module _ (calls : List Given) (i : ℕ) (d : Given) (h : i < length calls) (n k : ℕ) (same : k ≡ n) where
  pub told_more : (before after : Desk) → state_after (map (said n) calls) ≢ out_of_turn
      → ((cs : List Call) → DeskBy cs before → state_after (cs ++ (said k (get_or calls i d) ∷ [])) ≢ out_of_turn → DeskBy (cs ++ (said k (get_or calls i d) ∷ [])) after)
      → DeskBy (map (said n) (take i calls)) before → DeskBy (map (said n) (take (i + 1) calls)) after
  told_more before after turn goes_on follows =
      let cs = map (said n) (take i calls) in
      let more : map (said n) (take (i + 1) calls) ≡ cs ++ (said k (get_or calls i d) ∷ []) = take_snoc (said n) calls i d h ∙ ap (λ m. cs ++ (said m (get_or calls i d) ∷ [])) (sym same) in
      subst (λ ds. DeskBy ds after) (sym more) (goes_on cs follows (subst (λ ds. state_after ds ≢ out_of_turn) more (take_in_turn (said n) calls (i + 1) turn)))

  pub performed_more : {S : Type 0} (meaning : S → Sky) (first before after : Memory S)
      → CallLeaves meaning (book_plan (book (map (said n) (take i calls)))) (said k (get_or calls i d)) before after
      → Performed meaning new_book (map (said n) (take i calls)) first before → Performed meaning new_book (map (said n) (take (i + 1) calls)) first after
  performed_more meaning first before after leaves done =
      let cs = map (said n) (take i calls) in
      let one = subst (λ m. CallLeaves meaning (book_plan (book cs)) (said m (get_or calls i d)) before after) same leaves in
      subst (λ ds. Performed meaning new_book ds first after) (sym (take_snoc (said n) calls i d h)) (performed_snoc meaning new_book cs (said n (get_or calls i d)) first before after done one)
