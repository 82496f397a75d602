-- What a chain of tests says where it refused nothing.
use Rattle.std.proofs.Common.{◌≡◌, Bool, true, false, None, Option, refl}
use Rattle.rules.specs.declared.refusals.Refusal.{Refusal}
use Rattle.rules.specs.Refusals.{when}

-- a test that refused nothing was false, and those after it refused nothing
pub passed : (b : Bool) (r : Refusal) (after : Option Refusal) → when b r after ≡ None → (b ≡ false) × (after ≡ None)
passed true r after e = cc
passed false r after e = (refl, e)
