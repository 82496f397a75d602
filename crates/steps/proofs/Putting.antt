-- Runs in order after a raised run is put in.
use Rattle.std.proofs.Common.{◌≡◌, ℕ, ◌+◌, ◌<◌, true, List, sym, ap, ◌∙◌, subst}
use Rattle.skyline.specs.declared.spans.Run.{Run}
use Rattle.steps.specs.Order.{in_order, height_at, run_at, Over, pieces, replaced}
use Rattle.steps.specs.Meaning.{Put}
use Rattle.steps.proofs.Raising.{raised_ordered, height_inside, height_before, height_behind}

module _ (e first last : ℕ) (xs ys : List Run) (raised : Run) (ordered : in_order 0 xs e ≡ true) (some : raised.start < raised.end)
    (over : Over xs first last raised.start raised.end) (put : ys ≡ replaced first (last + 1) (pieces (run_at xs first) (run_at xs last) raised) xs) where
  pub put_ordered : in_order 0 ys e ≡ true
  put_ordered = ap (λ zs. in_order 0 zs e) put ∙ raised_ordered e first last xs raised ordered some over.left over.right

  pub put_heights : Put (height_at xs) (height_at ys) raised
  put_heights = subst (λ zs. Put (height_at xs) (height_at zs) raised) (sym put) (record {
    inside = height_inside e first last xs raised ordered some over.left over.right;
    before = height_before e first last xs raised ordered some over.left over.right;
    behind = height_behind e first last xs raised ordered some over.left over.right;
  })
