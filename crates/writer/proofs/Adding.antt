-- What one more piece leaves in the caller's bytes.
use Rattle.std.proofs.Common.{◌≡◌, ℕ, ◌+◌, ◌-◌, ◌≤◌, List, [], ◌++◌, length, take, drop, sym, refl, ap, ◌∙◌, append_assoc, arith, length-append, take-append-drop}
use borrow.Rule.Slice.PartMut.{put_mid}
use Rattle.std.proofs.lemmas.List.{drop_all, length-drop, append-nil, length-take-le, take_at, drop_at, drop-drop, take_rest}
use Rattle.writer.specs.declared.pen.Pen.{Pen}
use Rattle.writer.specs.Bytes.{Wrote, written, ahead, Added}

-- a text at the front of the part that starts at `at`
module _ (before part bs : List ℕ) (at : ℕ) (h : at + length bs ≤ length before) (w : Wrote (take (length before - at) (drop at before)) part bs) where
  abbrev after : List ℕ
  after = put_mid at (length before - at) before part

  whole : after ≡ (take at before ++ bs) ++ drop (length bs) (drop at before)
  whole =
      let part_is : part ≡ bs ++ drop (length bs) (drop at before) = w ∙ ap (λ l. bs ++ drop (length bs) l) (take_rest before at) in
      let none : drop (length before - at) (drop at before) ≡ [] = drop_all _ (drop at before) (omega (arith, length-drop at before)) in
      (λ i. take at before ++ (part_is i ++ none i)) ∙ ap (λ l. take at before ++ l) (append-nil _) ∙ sym (append_assoc (take at before) bs _)

  long : length (take at before ++ bs) ≡ at + length bs
  long = length-append (take at before) bs ∙ ap (λ n. n + length bs) (length-take-le at before (omega arith))

  pub part_added : (take (at + length bs) after ≡ take at before ++ bs) × (drop (at + length bs) after ≡ drop (length bs) (drop at before))
  part_added = (
    ap (take (at + length bs)) whole ∙ take_at (take at before ++ bs) _ (at + length bs) long,
    ap (drop (at + length bs)) whole ∙ drop_at (take at before ++ bs) _ (at + length bs) long,
  )

-- nothing, and a text with another straight behind it
pub added_none : (p : Pen) → Added p [] p
added_none p = record { behind = sym (append-nil (written p)); before = refl; room = omega arith }

pub added_more : {p q r : Pen} {s t : List ℕ} → Added p s q → Added q t r → Added p (s ++ t) r
added_more {p} {q} {r} {s} {t} a b =
    record {
      behind = b.behind ∙ ap (λ l. l ++ t) a.behind ∙ append_assoc (written p) s t;
      before = b.before ∙ ap (drop (length t)) a.before ∙ drop-drop (length t) (length s) (ahead p) ∙ ap (λ n. drop n (ahead p)) (sym (length-append s t));
      room = omega (arith, a.room, b.room, length-append s t);
    }

-- what a pen that began at the front leaves of the caller's bytes
pub wrote_all : (p q : Pen) (text bytes : List ℕ) → written p ≡ [] → ahead p ≡ bytes → Added p text q → Wrote bytes q.out.now text
unfolding written ahead
wrote_all p q text bytes none all a =
    sym (take-append-drop q.at q.out.now) ∙ (λ i. (a.behind ∙ ap (λ l. l ++ text) none) i ++ (a.before ∙ ap (drop (length text)) all) i)
