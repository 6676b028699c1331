-- What an algebra's law says of one call.
use Rattle.std.proofs.Common.{◌≡◌, true, Result, Ok, Err}
use Rattle.lola_alg.specs.declared.algebra.AlgError.{AlgError}
use Rattle.lola_alg.specs.Algebra.{Calls, Meaning, IsAlgebra, Fits, Kept}

pub fits_kept : {D B : Type 0} (c : Calls D B) (m : Meaning D B) → IsAlgebra c m → (before now : D) (a b : B) (r : Result B AlgError) → m.knows before a ≡ true → m.knows before b ≡ true →
    Fits (c.both before a b) before now r → Kept m before now r
fits_kept c m law before now a b (Ok bit) ka kb e = let h = law.both before a b (now, bit) ka kb e in (h.stays, h.known)
fits_kept c m law before now a b (Err error) ka kb e = tt
