-- Calls of a reader one after the other.
use Rattle.std.specs.Prelude.{◌≡◌, ℕ, suc, false, List, [], ◌∷◌, ◌++◌, map}
use Rattle.std.specs.declared.result.Result.{Result}
use Rattle.std.specs.declared.result.Result.TheVariants.{Ok, Err}
use Rattle.lrat_check.specs.declared.line.Line.{Line}
use Rattle.lrat_text.specs.declared.cert.CertError.{CertError}
use Rattle.lrat_text.specs.declared.cert.CertStep.{CertStep}
use Rattle.lrat_text.specs.declared.cert.CertStep.TheVariants.{Begin, Step, Finished}
use Rattle.lrat_text.specs.Reading.{Reading, Next}
use Rattle.lrat_text.specs.Text.{cert_text}
use Rattle.lrat_text.specs.Written.{PartsFit}

-- nothing comes behind a refusal and behind the end
abbrev pub IsLast : Result CertStep CertError → Type 0
IsLast (Ok (Begin number)) = ⊥
IsLast (Ok (Step line)) = ⊥
IsLast (Ok Finished) = Unit {0}
IsLast (Err fault) = Unit {0}

-- a reader of some bytes before its first call
abbrev pub start : List ℕ → Reading
start bytes = record { rest = bytes; opened = false; passed = 0; line = 0; begun = 0; failed = false }

-- a part of a certificate, not its end
abbrev pub IsPart : CertStep → Type 0
IsPart (Begin number) = Unit {0}
IsPart (Step line) = Unit {0}
IsPart Finished = ⊥

-- calls with these names may answer these parts one after the other, and then that the text is at its end
pub data MayRead (names : List (List ℕ)) : Reading → List CertStep → Type 0 where
  ends : {s : Reading} (t : Reading) → Next names s (Ok Finished) t → MayRead names s []
  goes_on : {s : Reading} (t : Reading) {step : CertStep} {steps : List CertStep} → IsPart step → Next names s (Ok step) t → MayRead names t steps → MayRead names s (step ∷ steps)

-- the parts of obligations, each a name with the lines of its refutation, where the first has this number
abbrev pub steps_of : ℕ → List (List ℕ × List Line) → List CertStep
steps_of number [] = []
steps_of number (p ∷ ps) = Begin number ∷ (map Step p.1 ++ steps_of (suc number) ps)

abbrev pub names_of : List (List ℕ × List Line) → List (List ℕ)
names_of parts = map (λ p. p.0) parts

-- bytes are the certificate of obligations with these names, and its parts are these
pub record IsCertificate (names : List (List ℕ)) (bytes : List ℕ) (steps : List CertStep) : Type 0 where
  pub parts : List (List ℕ × List Line)
  pub named : names_of parts ≡ names
  pub fits : PartsFit parts
  pub text : bytes ≡ cert_text parts
  pub steps_are : steps ≡ steps_of 0 parts
