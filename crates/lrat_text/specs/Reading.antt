-- What a reader of certificates answers, line by line.
use Rattle.std.specs.Prelude.{◌≡◌, ◌≢◌, ◌⊎◌, ◌+◌, ◌-◌, ◌^◌, min, ℕ, Bool, true, cond, nat_eq, bytes_eq, List, [], ◌∷◌, length, Option, None, Some, slice_get}
use Rattle.std.specs.declared.result.Result.{Result}
use Rattle.std.specs.declared.result.Result.TheVariants.{Ok, Err}
use Rattle.lrat_text.specs.declared.cert.CertError.{CertError}
use Rattle.lrat_text.specs.declared.cert.CertError.TheVariants as fault
use Rattle.lrat_text.specs.declared.cert.CertStep.{CertStep}
use Rattle.lrat_text.specs.declared.cert.CertStep.TheVariants as step
use Rattle.lrat_text.specs.declared.reader.CertReader.{CertReader}
use Rattle.lrat_text.specs.Text.{TextLine, First, Named, Taken, Ended, line_text, TextFits}
use Rattle.lrat_text.specs.Cut.{cut}

-- where a reader stands: the bytes behind the lines that were passed, whether the first line was passed, how many lines
-- were passed, the number of the line just read, how many obligations have begun, and whether memory was wanting
pub record Reading : Type 0 where
  pub rest : List ℕ
  pub opened : Bool
  pub passed : ℕ
  pub line : ℕ
  pub begun : ℕ
  pub failed : Bool

abbrev pub reading : CertReader → Reading
reading r = record { rest = r.rest.now; opened = r.opened; passed = r.passed; line = r.line; begun = r.begun; failed = r.failed }

-- counts stand still at the greatest number of 64 bits, and numbers of lines are shown up to the greatest of 32
abbrev pub more : ℕ → ℕ
more n = min (n + 1) (2 ^ 64 - 1)

abbrev pub shown : ℕ → ℕ
shown n = min n (2 ^ 32 - 1)

-- a line reads as what it is the text of, or as nothing
abbrev pub Reads : List ℕ → Option TextLine → Type 0
Reads line (Some t) = (line ≡ line_text t) × TextFits t
Reads line None = (t : TextLine) → TextFits t → line ≡ line_text t → ⊥

-- an obligation's name, where the next one is this, if there is one
abbrev pub name_answer : ℕ → ℕ → Option (List ℕ) → List ℕ → Result CertStep CertError
name_answer n begun None name = Err (fault.Extra n)
name_answer n begun (Some next) name = cond (bytes_eq name next) (Ok (step.Begin begun)) (Err (fault.WrongName n))

-- the end, where this is the next name, if there is one, and these bytes stand behind
abbrev pub end_answer : ℕ → ℕ → Option (List ℕ) → List ℕ → Result CertStep CertError
end_answer n later (Some next) behind = Err (fault.Missing n next)
end_answer n later None [] = Ok step.Finished
end_answer n later None (b ∷ bs) = Err (fault.Extra later)

-- the answer to a line, by what it reads as
abbrev pub answer_to : List (List ℕ) → Reading → List ℕ → Option TextLine → Result CertStep CertError
answer_to names s behind None = Err (fault.BadLine (shown (more s.passed)))
answer_to names s behind (Some First) = Err (fault.BadLine (shown (more s.passed)))
answer_to names s behind (Some (Named name)) = name_answer (shown (more s.passed)) s.begun (slice_get names s.begun) name
answer_to names s behind (Some (Taken line)) = cond (nat_eq s.begun 0) (Err (fault.BadLine (shown (more s.passed)))) (Ok (step.Step line))
answer_to names s behind (Some (Ended count)) = cond (nat_eq count (length names))
    (end_answer (shown (more s.passed)) (shown (more (more s.passed))) (slice_get names s.begun) behind) (Err (fault.BadLine (shown (more s.passed))))

-- an answer, want of memory aside
abbrev pub Told : Result CertStep CertError → Result CertStep CertError → Type 0
Told answer result = (result ≡ answer) ⊎ (result ≡ Err fault.Memory)

-- where the reader stands behind an answer to a line: a part passes the line; a refusal and the end pass nothing, so the
-- next call comes to the same
abbrev pub stands_after : Reading → List ℕ → Result CertStep CertError → Reading
stands_after s behind (Ok (step.Begin number)) = record s { rest = behind; passed = more s.passed; line = more s.passed; begun = more s.begun }
stands_after s behind (Ok (step.Step line)) = record s { rest = behind; passed = more s.passed; line = more s.passed }
stands_after s behind (Ok step.Finished) = record s { line = more s.passed }
stands_after s behind (Err fault.Memory) = record s { line = more s.passed; failed = true }
stands_after s behind (Err (fault.BadLine n)) = record s { line = more s.passed }
stands_after s behind (Err (fault.WrongName n)) = record s { line = more s.passed }
stands_after s behind (Err (fault.Missing n name)) = record s { line = more s.passed }
stands_after s behind (Err (fault.Extra n)) = record s { line = more s.passed }
stands_after s behind (Err fault.Truncated) = record s { line = more s.passed }

-- the next line is read, where there is a whole one
pub record LineRead (names : List (List ℕ)) (s : Reading) (line behind : List ℕ) (result : Result CertStep CertError) (t : Reading) : Type 0 where
  pub meant : Option TextLine
  pub reads : Reads line meant
  pub told : Told (answer_to names s behind meant) result
  pub stands : t ≡ stands_after s behind result

abbrev pub NextLine : List (List ℕ) → Reading → Option (List ℕ × List ℕ) → Result CertStep CertError → Reading → Type 0
NextLine names s None result t = (result ≡ Err fault.Truncated) × (t ≡ record s { line = s.passed })
NextLine names s (Some p) result t = LineRead names s p.0 p.1 result t

-- behind the first line, which is passed with the call that reads it
abbrev pub opened : Reading → List ℕ → Reading
opened s behind = record s { rest = behind; opened = true; passed = more s.passed }

abbrev pub FirstLine : List (List ℕ) → Reading → Option (List ℕ × List ℕ) → Result CertStep CertError → Reading → Type 0
FirstLine names s None result t = (result ≡ Err fault.Truncated) × (t ≡ record s { line = s.passed })
FirstLine names s (Some p) result t =
    ((p.0 ≡ line_text First) × NextLine names (opened s p.1) (cut 10 p.1) result t)
    ⊎ ((p.0 ≢ line_text First) × (result ≡ Err (fault.BadLine (shown (more s.passed)))) × (t ≡ record s { line = more s.passed }))

-- a call of `next` with these names takes a reader from one place to another with an answer
abbrev pub Next : List (List ℕ) → Reading → Result CertStep CertError → Reading → Type 0
Next names s result t = cond s.failed ((result ≡ Err fault.Memory) × (t ≡ s)) (cond s.opened (NextLine names s (cut 10 s.rest) result t) (FirstLine names s (cut 10 s.rest) result t))
