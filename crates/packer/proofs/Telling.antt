-- What the contract of pack tells of a call with no walk memory.
use Rattle.std.proofs.Common.{◌≡◌, true, ltb, length, Some, Err, ap, ◌∙◌}
use Rattle.std.proofs.lemmas.Bool.{lt-ltb}
use Rattle.rules.specs.declared.refusals.Refusal.TheVariants.{MemoryTooShort}
use Rattle.rules.specs.Refusals.{answered}
use Rattle.rules.specs.Skylines.{Sky}
use Rattle.promises.specs.Packs.{pack_refusal, present_count}
use Rattle.packer.specs.Gives.{extent_of}
use Rattle.packer.specs.Tells.{PackTells}

pub pack_tells : {S : Type 0} (meaning : S → Sky) → PackTells meaning
unfolding pack_refusal
pack_tells meaning p before after spots places_before places_after r some gives =
    let none : ltb 0 (present_count p) ≡ true = lt-ltb 0 (present_count p) some in
    let short : pack_refusal p (meaning before) 0 (length places_before) ≡ Some MemoryTooShort = rw none in
    let is : r ≡ Err MemoryTooShort = gives.answer ∙ ap (λ o. answered o (extent_of p)) short in
    record { answer = is; skyline = gives.skyline_kept MemoryTooShort is; walk = gives.walk_kept is; places = gives.records_kept MemoryTooShort is }
