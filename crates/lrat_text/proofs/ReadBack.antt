-- What is written is read back.
use Rattle.std.proofs.Common.{◌≡◌, ℕ, suc, ◌+◌, ◌<◌, ◌≤◌, ◌^◌, true, false, nat_eq, bytes_eq, List, [], ◌∷◌, ◌++◌, map, length, slice_get, Option, None, Some, refl, sym, ◌∙◌, ap, subst, arith, inl, inr, append_assoc}
use Rattle.std.specs.List.{AllByRecursion}
use Rattle.std.specs.declared.result.Result.{Result}
use Rattle.std.specs.declared.result.Result.TheVariants.{Ok}
use Rattle.std.proofs.lemmas.Bool.{cases_Bool}
use Rattle.std.proofs.lemmas.Bool.Decides.{Decides-eqb}
use Rattle.std.proofs.lemmas.Slice.Eq.{bytes_eq-Decides}
use Rattle.lrat_check.specs.declared.line.Line.{Line}
use Rattle.lrat_text.specs.declared.cert.CertError.{CertError}
use Rattle.lrat_text.specs.declared.cert.CertStep.{CertStep}
use Rattle.lrat_text.specs.declared.cert.CertStep.TheVariants.{Begin, Step, Finished}
use Rattle.lrat_text.specs.Text.{TextLine, First, Named, Taken, Ended, line_text, lines_text, parts_lines, cert_text, LineFits, TextFits}
use Rattle.lrat_text.specs.Cut.{cut}
use Rattle.lrat_text.specs.Reading.{Reading, more, answer_to, stands_after, NextLine, FirstLine, Next}
use Rattle.lrat_text.specs.Written.{PartsFit}
use Rattle.lrat_text.specs.Runs.{start, MayRead, ends, goes_on, steps_of, names_of}
use Rattle.lrat_text.proofs.Parted.{cut_at}
use Rattle.lrat_text.proofs.Readable.{line_lacks}

-- a reader before these lines, once the first line was passed
abbrev pub before : List TextLine → ℕ → ℕ → ℕ → Reading
before lines passed line begun = record { rest = lines_text lines; opened = true; passed = passed; line = line; begun = begun; failed = false }

cut_line : (t : TextLine) (lines : List TextLine) → TextFits t → cut 10 (lines_text (t ∷ lines)) ≡ Some (line_text t, lines_text lines)
cut_line t lines f = ap (cut 10) (append_assoc (line_text t) (10 ∷ []) (lines_text lines)) ∙ cut_at 10 (line_text t) (lines_text lines) (line_lacks t f)

-- the next line is read as itself
one_line : (names : List (List ℕ)) (t : TextLine) (lines : List TextLine) (p l b : ℕ) (r : Result CertStep CertError) → TextFits t
    → r ≡ answer_to names (before (t ∷ lines) p l b) (lines_text lines) (Some t) → Next names (before (t ∷ lines) p l b) r (stands_after (before (t ∷ lines) p l b) (lines_text lines) r)
one_line names t lines p l b r f e =
    subst (λ (o : Option (List ℕ × List ℕ)). NextLine names (before (t ∷ lines) p l b) o r (stands_after (before (t ∷ lines) p l b) (lines_text lines) r)) (sym (cut_line t lines f))
    (record { meant = Some t; reads = (refl, f); told = inl e; stands = refl })

counted : (n : ℕ) → n < 2 ^ 32 → more n ≡ suc n
counted n h = omega (arith, h)

-- lines of a refutation, once an obligation has begun
taken_lines : (names : List (List ℕ)) (ls : List Line) (tail : List TextLine) (b : ℕ) (steps : List CertStep) → 1 ≤ b → AllByRecursion LineFits ls
    → ((p l : ℕ) → MayRead names (before tail p l b) steps) → (p l : ℕ) → MayRead names (before (map Taken ls ++ tail) p l b) (map Step ls ++ steps)
taken_lines names [] tail b steps h fits rest p l = rest p l
taken_lines names (x ∷ xs) tail b steps h fits rest p l =
    let z : nat_eq b 0 ≡ false = positive b h in
    goes_on (before (map Taken xs ++ tail) (more p) (more p) b) tt (one_line names (Taken x) (map Taken xs ++ tail) p l b (Ok (Step x)) fits.0 (rw z refl))
    (taken_lines names xs tail b steps h fits.1 rest (more p) (more p))
  where
    positive : (b : ℕ) → 1 ≤ b → nat_eq b 0 ≡ false
    positive b h = elim (cases_Bool (nat_eq b 0)) [ inl t ↦ let q : b ≡ 0 = (Decides-eqb b 0).0 t in absurd (omega (arith, q, h)) | inr f ↦ f ]

-- the last line
last_line : (names : List (List ℕ)) (b p l : ℕ) → length names < 2 ^ 32 → slice_get names b ≡ None → MayRead names (before (Ended (length names) ∷ []) p l b) []
last_line names b p l h none =
    let t : nat_eq (length names) (length names) ≡ true = (Decides-eqb _ _).1 refl in
    ends _ (one_line names (Ended (length names)) [] p l b (Ok Finished) (omega (arith, h)) (rw (t, none) refl))

-- the obligations from one on
all_parts : (names : List (List ℕ)) (parts : List (List ℕ × List Line)) (b : ℕ) → length names < 2 ^ 32 → PartsFit parts → b + length parts ≡ length names
    → ((i : ℕ) → slice_get names (b + i) ≡ slice_get (names_of parts) i) → (p l : ℕ) → MayRead names (before (parts_lines parts ++ Ended (length names) ∷ []) p l b) (steps_of b parts)
all_parts names [] b h fits n at p l = last_line names b p l h (ap (slice_get names) (plus b) ∙ at 0)
  where
    plus : (b : ℕ) → b ≡ b + 0
    plus b = omega arith
all_parts names (x ∷ xs) b h fits n at p l =
    let tail = parts_lines xs ++ Ended (length names) ∷ [] in
    let lines = map Taken x.1 ++ tail in
    let whole : parts_lines (x ∷ xs) ++ Ended (length names) ∷ [] ≡ Named x.0 ∷ lines = ap (λ (ts : List TextLine). Named x.0 ∷ ts) (append_assoc (map Taken x.1) (parts_lines xs) (Ended (length names) ∷ [])) in
    let next : slice_get names b ≡ Some x.0 = ap (slice_get names) (plus b) ∙ at 0 in
    let same : bytes_eq x.0 x.0 ≡ true = (bytes_eq-Decides x.0 x.0).1 refl in
    let count : more b ≡ suc b = counted b (omega (arith, n, h)) in
    let later = all_parts names xs (suc b) h fits.1 (omega (arith, n)) (λ i. ap (slice_get names) (past b i) ∙ at (suc i)) in
    let rest : (p l : ℕ) → MayRead names (before lines p l (more b)) (map Step x.1 ++ steps_of (suc b) xs) =
    taken_lines names x.1 tail (more b) (steps_of (suc b) xs) (omega (arith, count)) fits.0.1 (λ p l. subst (λ (k : ℕ). MayRead names (before tail p l k) (steps_of (suc b) xs)) (sym count) (later p l)) in
    subst (λ (ts : List TextLine). MayRead names (before ts p l b) (steps_of b (x ∷ xs))) (sym whole)
    (goes_on (before lines (more p) (more p) (more b)) tt (one_line names (Named x.0) lines p l b (Ok (Begin b)) fits.0.0 (rw (next, same) refl)) (rest (more p) (more p)))
  where
    plus : (b : ℕ) → b ≡ b + 0
    plus b = omega arith

    past : (b i : ℕ) → suc b + i ≡ b + suc i
    past b i = omega arith

first_cut : (lines : List TextLine) → cut 10 (lines_text (First ∷ lines)) ≡ Some (line_text First, lines_text lines)
first_cut lines = cut_line First lines tt

-- the first line is passed with the first call
opens : (names : List (List ℕ)) (lines : List TextLine) (steps : List CertStep) → MayRead names (before lines 1 0 0) steps → MayRead names (start (lines_text (First ∷ lines))) steps
opens names lines [] (ends t n) =
    ends t (subst (λ (o : Option (List ℕ × List ℕ)). FirstLine names (start (lines_text (First ∷ lines))) o (Ok Finished) t) (sym (first_cut lines)) (inl (refl, n)))
opens names lines (s ∷ steps) (goes_on t part n m) =
    goes_on t part (subst (λ (o : Option (List ℕ × List ℕ)). FirstLine names (start (lines_text (First ∷ lines))) o (Ok s) t) (sym (first_cut lines)) (inl (refl, n))) m

names_length : (parts : List (List ℕ × List Line)) → length parts ≡ length (names_of parts)
names_length [] = refl
names_length (p ∷ ps) = ap suc (names_length ps)

pub reads_back : (parts : List (List ℕ × List Line)) → PartsFit parts → length parts < 2 ^ 32 → MayRead (names_of parts) (start (cert_text parts)) (steps_of 0 parts)
reads_back parts fits h =
    let n = names_length parts in
    opens (names_of parts) (parts_lines parts ++ Ended (length parts) ∷ []) (steps_of 0 parts)
    (subst (λ (k : ℕ). MayRead (names_of parts) (before (parts_lines parts ++ Ended k ∷ []) 1 0 0) (steps_of 0 parts)) (sym n)
    (all_parts (names_of parts) parts 0 (omega (arith, n, h)) fits (omega (arith, n)) (λ i. ap (slice_get (names_of parts)) (none i)) 1 0))
  where
    none : (i : ℕ) → 0 + i ≡ i
    none i = omega arith
