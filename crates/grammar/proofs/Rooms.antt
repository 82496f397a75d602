-- Room for 24 words is enough: no form has so many.
use Rattle.std.proofs.Common.{◌≡◌, ◌≤◌, List, length, take, Some, None, Option, sym, ap, ◌∙◌, ⊎_elim, arith}
use Rattle.std.proofs.lemmas.List.{take_all, length-take-le}
use Rattle.std.proofs.lemmas.Bool.{cases_lt}
use Rattle.words.specs.Words.{Word}
use Rattle.grammar.specs.Forms.{header_of, count_of, terminal_of, outline_of}
use Rattle.grammar.proofs.Exact.{header_inv, count_law, terminal_law, outline_law}
use Rattle.grammar.proofs.Tested.{none_since}

-- a form that 24 words and more break is that of the first 24
in_room : {A : Type 0} (form : List Word → Option A) → ((ws : List Word) (a : A) → form ws ≡ Some a → length ws ≤ 23) → (ws : List Word) → form (take 24 ws) ≡ form ws
in_room form few ws =
    ⊎_elim (λ h. ap form (take_all 24 ws (omega arith)))
    (λ h. broken (take 24 ws) (omega (arith, length-take-le 24 ws h)) ∙ sym (broken ws h))
    (cases_lt (length ws) 24)
  where
    broken : (ws : List Word) → 24 ≤ length ws → form ws ≡ None
    broken ws h = none_since (form ws) (λ a e. omega (arith, few ws a e))

module _ (ws : List Word) where
  pub header_room : header_of (take 24 ws) ≡ header_of ws
  header_room = in_room header_of (λ ws b e. omega (arith, ap length (header_inv ws b e))) ws

  pub count_room : (label : Word) → count_of label (take 24 ws) ≡ count_of label ws
  count_room label = in_room (count_of label) (λ ws n e. omega (arith, ap length ((count_law label ws n).0 e).form)) ws

  pub terminal_room : terminal_of (take 24 ws) ≡ terminal_of ws
  terminal_room = in_room terminal_of (λ ws n e. omega (arith, ap length ((terminal_law ws n).0 e).form)) ws

  pub outline_room : outline_of (take 24 ws) ≡ outline_of ws
  outline_room =
      in_room outline_of
      (λ ws p e.
      let line = (outline_law ws p.0 p.1).0 e in
      let v = line.vertices in
      omega (arith, ap length line.form, ap length v.v1.form, ap length v.v2.form, ap length v.v3.form, ap length v.v4.form))
      ws
