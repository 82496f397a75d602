-- How many items a stack has.
use Rattle.std.proofs.Common.{◌≡◌, length, take, ◌∙◌}
use Rattle.std.proofs.lemmas.List.{length-reverse, length-take-le}
use Rattle.stack.specs.declared.stack.Stack.{Stack}
use Rattle.stack.specs.Stacked.{held}

pub held_length : {A : Type 0} (s : Stack A) → length (held s) ≡ s.len
unfolding held
held_length s = length-reverse (take s.len s.items.now) ∙ length-take-le s.len s.items.now s.fits
