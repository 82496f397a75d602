-- One call more: what it makes of the plan in hand and of the caller's memory.
use Rattle.std.proofs.Common.{◌≡◌, ℕ, ◌≢◌, List, [], ◌∷◌, ◌++◌, refl, ap, ◌∙◌}
use Rattle.rules.specs.declared.edits.Edit.{Edit}
use Rattle.rules.specs.Plans.{Plan}
use Rattle.rules.specs.Book as book
use Rattle.theorems.proofs.Books.{state-from-++}
use Rattle.theorems.proofs.Following.{follows_pack_settled, follows_pack_tried}
use Rattle.calls.specs.declared.call.Call.{Call}
use Rattle.calls.specs.declared.call.Call.TheVariants.{Load, Test, Begin, Keep, Undo, Pack}
use Rattle.calls.specs.declared.call.Loading.{Loading}
use Rattle.calls.specs.Said.{said}

-- a call that the state does not allow leads out of turn
out_by : (cs : List book.Call) (c : book.Call) (s : book.State) → book.state_after cs ≡ s → book.next s c ≡ book.out_of_turn → book.state_after (cs ++ (c ∷ [])) ≡ book.out_of_turn
out_by cs c s e n = state-from-++ book.settled cs (c ∷ []) ∙ ap (λ t. book.next t c) e ∙ n

-- a settled plan that stays as it is: the call is a packing, or out of turn
pub settled_rest : (records : ℕ) (call : Call) (cs : List book.Call) (p : Plan) (kept : ℕ)
    → ((l : Loading) → call ≡ Load l → ⊥) → ((e : Edit) → call ≡ Test e → ⊥) → ((e : Edit) → call ≡ Begin e → ⊥)
    → book.Settles cs p kept → book.state_after (cs ++ (said records call ∷ [])) ≢ book.out_of_turn → book.Settles (cs ++ (said records call ∷ [])) p kept
settled_rest records (Load l) cs p kept no_load no_test no_begin h turn = absurd (no_load l refl)
settled_rest records (Test e) cs p kept no_load no_test no_begin h turn = absurd (no_test e refl)
settled_rest records (Begin e) cs p kept no_load no_test no_begin h turn = absurd (no_begin e refl)
settled_rest records Keep cs p kept no_load no_test no_begin h turn = absurd (turn (out_by cs book.keep book.settled h.state refl))
settled_rest records Undo cs p kept no_load no_test no_begin h turn = absurd (turn (out_by cs book.undo book.settled h.state refl))
settled_rest records Pack cs p kept no_load no_test no_begin h turn = follows_pack_settled p kept cs h

-- an open trial that stays as it is: the call is a packing, or out of turn
pub tried_rest : (records : ℕ) (call : Call) (cs : List book.Call) (p before : Plan) (kept_next kept : ℕ)
    → (call ≡ Keep → ⊥) → (call ≡ Undo → ⊥)
    → book.Tries cs p before kept_next kept → book.state_after (cs ++ (said records call ∷ [])) ≢ book.out_of_turn
    → book.Tries (cs ++ (said records call ∷ [])) p before kept_next kept
tried_rest records (Load l) cs p before kept_next kept no_keep no_undo h turn = absurd (turn (out_by cs _ book.tried h.state refl))
tried_rest records (Test e) cs p before kept_next kept no_keep no_undo h turn = absurd (turn (out_by cs _ book.tried h.state refl))
tried_rest records (Begin e) cs p before kept_next kept no_keep no_undo h turn = absurd (turn (out_by cs _ book.tried h.state refl))
tried_rest records Keep cs p before kept_next kept no_keep no_undo h turn = absurd (no_keep refl)
tried_rest records Undo cs p before kept_next kept no_keep no_undo h turn = absurd (no_undo refl)
tried_rest records Pack cs p before kept_next kept no_keep no_undo h turn = follows_pack_tried p before kept_next kept cs h
