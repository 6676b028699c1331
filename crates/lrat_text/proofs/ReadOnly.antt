-- What is read whole is a certificate.
use Rattle.std.proofs.Common.{◌≡◌, ℕ, zero, suc, ◌<◌, ◌^◌, true, false, cond, nat_eq, bytes_eq, List, [], ◌∷◌, ◌++◌, map, drop, length, slice_get, Option, None, Some, refl, sym, ◌∙◌, ap, ap₂, subst, arith, inl, inr, append_assoc}
use Rattle.std.specs.List.{AllByRecursion}
use Rattle.std.specs.declared.result.Result.{Result}
use Rattle.std.specs.declared.result.Result.TheVariants.{Ok}
use Rattle.std.proofs.lemmas.Bool.{cases_Bool}
use Rattle.std.proofs.lemmas.Bool.Decides.{Decides-eqb}
use Rattle.std.proofs.lemmas.Slice.Eq.{bytes_eq-Decides}
use Rattle.lola_bits.proofs.Options.{some_same, nothing}
use Rattle.lola_bits.proofs.Places.{drop_found}
use Rattle.lrat_check.specs.declared.line.Line.{Line}
use Rattle.lrat_text.specs.declared.cert.CertError.{CertError}
use Rattle.lrat_text.specs.declared.cert.CertStep.{CertStep}
use Rattle.lrat_text.specs.declared.cert.CertStep.TheVariants.{Begin, Step, Finished}
use Rattle.lrat_text.specs.Text.{TextLine, First, Named, Taken, Ended, line_text, lines_text, parts_lines, LineFits}
use Rattle.lrat_text.specs.Cut.{cut, with_front}
use Rattle.lrat_text.specs.Reading.{Reading, Reads, more, name_answer, end_answer, answer_to, LineRead, NextLine, opened, FirstLine, Next}
use Rattle.lrat_text.specs.Written.{PartsFit}
use Rattle.lrat_text.specs.Runs.{start, IsPart, MayRead, ends, goes_on, steps_of, names_of, IsCertificate}
use Rattle.lrat_text.proofs.ComesAgain.{pick_false, pick_true}

-- what is cut is there
cut_front : (byte b : ℕ) (bs : List ℕ) (o : Option (List ℕ × List ℕ)) (p : List ℕ × List ℕ) → ((q : List ℕ × List ℕ) → o ≡ Some q → bs ≡ q.0 ++ byte ∷ q.1) → with_front (b ∷ []) o ≡ Some p
    → b ∷ bs ≡ p.0 ++ byte ∷ p.1
cut_front byte b bs None p h w = nothing p w
cut_front byte b bs (Some q) p h w = subst (λ (r : List ℕ × List ℕ). b ∷ bs ≡ r.0 ++ byte ∷ r.1) (some_same (b ∷ q.0, q.1) p w) (ap (λ (xs : List ℕ). b ∷ xs) (h q refl))

cut_there : (byte : ℕ) (bytes : List ℕ) (p : List ℕ × List ℕ) → cut byte bytes ≡ Some p → bytes ≡ p.0 ++ byte ∷ p.1
cut_there byte [] p e = nothing p e
cut_there byte (b ∷ bs) p e = elim (cases_Bool (nat_eq b byte)) [
  | inl t ↦ subst (λ (q : List ℕ × List ℕ). b ∷ bs ≡ q.0 ++ byte ∷ q.1) (some_same ([], bs) p (rw t at e)) (ap (λ (x : ℕ). x ∷ bs) ((Decides-eqb b byte).0 t))
  | inr f ↦ cut_front byte b bs (cut byte bs) p (λ q c. cut_there byte bs q c) (rw f at e)
]

none_behind : (names : List (List ℕ)) (b : ℕ) → slice_get names b ≡ None → [] ≡ drop b names
none_behind [] zero e = refl
none_behind [] (suc b) e = refl
none_behind (n ∷ ns) zero e = nothing n (sym e)
none_behind (n ∷ ns) (suc b) e = none_behind ns b e

found_within : (names : List (List ℕ)) (b : ℕ) (name : List ℕ) → slice_get names b ≡ Some name → b < length names
found_within [] zero name e = nothing name e
found_within [] (suc b) name e = nothing name e
found_within (n ∷ ns) zero name e = omega arith
found_within (n ∷ ns) (suc b) name e = let h = found_within ns b name e in omega (arith, h)

-- which line an answer comes from
pub record FromEnd (names : List (List ℕ)) (b : ℕ) (behind : List ℕ) (o : Option TextLine) : Type 0 where
  pub line : o ≡ Some (Ended (length names))
  pub none : slice_get names b ≡ None
  pub last : behind ≡ []

end_comes : (n later : ℕ) (o : Option (List ℕ)) (behind : List ℕ) → Ok Finished ≡ end_answer n later o behind → (o ≡ None) × (behind ≡ [])
end_comes n later (Some name) behind e = absurd (cc)
end_comes n later None [] e = (refl, refl)
end_comes n later None (b ∷ bs) e = absurd (cc)

name_ends : (n b : ℕ) (o : Option (List ℕ)) (name : List ℕ) → Ok Finished ≡ name_answer n b o name → ⊥
name_ends n b None name e = cc
name_ends n b (Some next) name e = elim (cases_Bool (bytes_eq name next)) [
  | inl t ↦ let q : Ok Finished ≡ Ok (Begin b) = rw t at e in let r : Finished ≡ Begin b = cc in cc
  | inr f ↦ let q = rw f at e in cc q
]

end_from : (names : List (List ℕ)) (s : Reading) (behind : List ℕ) (o : Option TextLine) → Ok Finished ≡ answer_to names s behind o → FromEnd names s.begun behind o
end_from names s behind None e = absurd (cc)
end_from names s behind (Some First) e = absurd (cc)
end_from names s behind (Some (Named name)) e = absurd (name_ends _ _ (slice_get names s.begun) name e)
end_from names s behind (Some (Taken line)) e = elim (cases_Bool (nat_eq s.begun 0)) [
  | inl t ↦ let q = rw t at e in absurd (cc q)
  | inr f ↦ let q : Ok Finished ≡ Ok (Step line) = rw f at e in let r : Finished ≡ Step line = cc in absurd (cc)
]
end_from names s behind (Some (Ended count)) e = elim (cases_Bool (nat_eq count (length names))) [
  | inl t ↦ let p = end_comes _ _ (slice_get names s.begun) behind (rw t at e) in
      record { line = ap (λ (n : ℕ). Some (Ended n)) ((Decides-eqb count (length names)).0 t); none = p.0; last = p.1 }
  | inr f ↦ let q = rw f at e in absurd (cc q)
]

pub record FromName (names : List (List ℕ)) (n b : ℕ) (o : Option TextLine) : Type 0 where
  pub name : List ℕ
  pub line : o ≡ Some (Named name)
  pub next : slice_get names b ≡ Some name
  pub number : n ≡ b

name_from_next : (names : List (List ℕ)) (m n b : ℕ) (o : Option (List ℕ)) (name : List ℕ) → slice_get names b ≡ o → Ok (Begin n) ≡ name_answer m b o name → FromName names n b (Some (Named name))
name_from_next names m n b None name g e = absurd (cc)
name_from_next names m n b (Some next) name g e = elim (cases_Bool (bytes_eq name next)) [
  | inl t ↦ let same : name ≡ next = (bytes_eq-Decides name next).0 t in
      let q : Ok (Begin n) ≡ Ok (Begin b) = rw t at e in let r : Begin n ≡ Begin b = cc in
      record { name = next; line = ap (λ (x : List ℕ). Some (Named x)) same; next = g; number = cc }
  | inr f ↦ let q = rw f at e in absurd (cc q)
]

name_not_end : (n m l : ℕ) (o : Option (List ℕ)) (behind : List ℕ) → Ok (Begin n) ≡ end_answer m l o behind → ⊥
name_not_end n m l (Some name) behind e = cc
name_not_end n m l None [] e = let r : Begin n ≡ Finished = cc in cc
name_not_end n m l None (b ∷ bs) e = cc

name_from : (names : List (List ℕ)) (s : Reading) (behind : List ℕ) (n : ℕ) (o : Option TextLine) → Ok (Begin n) ≡ answer_to names s behind o → FromName names n s.begun o
name_from names s behind n None e = absurd (cc)
name_from names s behind n (Some First) e = absurd (cc)
name_from names s behind n (Some (Named name)) e = name_from_next names _ n s.begun (slice_get names s.begun) name refl e
name_from names s behind n (Some (Taken line)) e = elim (cases_Bool (nat_eq s.begun 0)) [
  | inl t ↦ let q = rw t at e in absurd (cc q)
  | inr f ↦ let q : Ok (Begin n) ≡ Ok (Step line) = rw f at e in let r : Begin n ≡ Step line = cc in absurd (cc)
]
name_from names s behind n (Some (Ended count)) e = elim (cases_Bool (nat_eq count (length names))) [
  | inl t ↦ absurd (name_not_end n _ _ (slice_get names s.begun) behind (rw t at e))
  | inr f ↦ let q = rw f at e in absurd (cc q)
]

step_not_name : (l : Line) (m b : ℕ) (o : Option (List ℕ)) (name : List ℕ) → Ok (Step l) ≡ name_answer m b o name → ⊥
step_not_name l m b None name e = cc
step_not_name l m b (Some next) name e = elim (cases_Bool (bytes_eq name next)) [
  | inl t ↦ let q : Ok (Step l) ≡ Ok (Begin b) = rw t at e in let r : Step l ≡ Begin b = cc in cc
  | inr f ↦ let q = rw f at e in cc q
]

step_not_end : (x : Line) (m l : ℕ) (o : Option (List ℕ)) (behind : List ℕ) → Ok (Step x) ≡ end_answer m l o behind → ⊥
step_not_end x m l (Some name) behind e = cc
step_not_end x m l None [] e = let r : Step x ≡ Finished = cc in cc
step_not_end x m l None (b ∷ bs) e = cc

step_from : (names : List (List ℕ)) (s : Reading) (behind : List ℕ) (l : Line) (o : Option TextLine) → Ok (Step l) ≡ answer_to names s behind o → (o ≡ Some (Taken l)) × (nat_eq s.begun 0 ≡ false)
step_from names s behind l None e = absurd (cc)
step_from names s behind l (Some First) e = absurd (cc)
step_from names s behind l (Some (Named name)) e = absurd (step_not_name l _ _ (slice_get names s.begun) name e)
step_from names s behind l (Some (Taken line)) e = elim (cases_Bool (nat_eq s.begun 0)) [
  | inl t ↦ let q = rw t at e in absurd (cc q)
  | inr f ↦ let q : Ok (Step l) ≡ Ok (Step line) = rw f at e in let r : Step l ≡ Step line = cc in let same : l ≡ line = cc in (ap (λ (x : Line). Some (Taken x)) (sym same), f)
]
step_from names s behind l (Some (Ended count)) e = elim (cases_Bool (nat_eq count (length names))) [
  | inl t ↦ absurd (step_not_end l _ _ (slice_get names s.begun) behind (rw t at e))
  | inr f ↦ let q = rw f at e in absurd (cc q)
]

-- what is left to be read: lines of the obligation that has begun, and further obligations
pub record Left (names : List (List ℕ)) (rest : List ℕ) (b : ℕ) (steps : List CertStep) : Type 0 where
  pub lines : List Line
  pub parts : List (List ℕ × List Line)
  pub text : rest ≡ lines_text (map Taken lines ++ (parts_lines parts ++ Ended (length names) ∷ []))
  pub lines_fit : AllByRecursion LineFits lines
  pub parts_fit : PartsFit parts
  pub steps_are : steps ≡ map Step lines ++ steps_of b parts
  pub named : names_of parts ≡ drop b names
  pub begun : nat_eq b 0 ≡ true → lines ≡ []

-- the next line of an answer that isn't Truncated
line_of : (names : List (List ℕ)) (s t : Reading) (step : CertStep) (o : Option (List ℕ × List ℕ)) → cut 10 s.rest ≡ o → NextLine names s o (Ok step) t
    → (p : List ℕ × List ℕ) × ((s.rest ≡ p.0 ++ 10 ∷ p.1) × LineRead names s p.0 p.1 (Ok step) t)
line_of names s t step None c n = let q = n.0 in absurd (cc q)
line_of names s t step (Some p) c n = (p, (cut_there 10 s.rest p c, n))

read_as : (names : List (List ℕ)) (s t : Reading) (step : CertStep) (line behind : List ℕ) → (x : LineRead names s line behind (Ok step) t) → Ok step ≡ answer_to names s behind x.meant
read_as names s t step line behind x = elim x.told [ inl e ↦ e | inr e ↦ absurd (cc e) ]

text_of : (line behind rest : List ℕ) (t : TextLine) (lines : List TextLine) → rest ≡ line ++ 10 ∷ behind → line ≡ line_text t → behind ≡ lines_text lines → rest ≡ lines_text (t ∷ lines)
text_of line behind rest t lines r l b = r ∙ ap₂ (λ (x y : List ℕ). x ++ 10 ∷ y) l b ∙ sym (append_assoc (line_text t) (10 ∷ []) (lines_text lines))

done : (names : List (List ℕ)) (s t : Reading) → NextLine names s (cut 10 s.rest) (Ok Finished) t → Left names s.rest s.begun []
done names s t n =
    let w = line_of names s t Finished (cut 10 s.rest) refl n in
    let x = w.1.1 in
    let f = end_from names s w.0.1 x.meant (read_as names s t Finished w.0.0 w.0.1 x) in
    let r : Reads w.0.0 (Some (Ended (length names))) = subst (Reads w.0.0) f.line x.reads in
    record {
      lines = [];
      parts = [];
      text = text_of w.0.0 w.0.1 s.rest (Ended (length names)) [] w.1.0 r.0 f.last;
      lines_fit = tt;
      parts_fit = tt;
      steps_are = refl;
      named = none_behind names s.begun f.none;
      begun = λ _. refl;
    }

begins : (names : List (List ℕ)) (s t : Reading) (n : ℕ) (steps : List CertStep) → length names < 2 ^ 32 → NextLine names s (cut 10 s.rest) (Ok (Begin n)) t → Left names t.rest t.begun steps
    → Left names s.rest s.begun (Begin n ∷ steps)
begins names s t n steps h nx later =
    let w = line_of names s t (Begin n) (cut 10 s.rest) refl nx in
    let x = w.1.1 in
    let f = name_from names s w.0.1 n x.meant (read_as names s t (Begin n) w.0.0 w.0.1 x) in
    let r : Reads w.0.0 (Some (Named f.name)) = subst (Reads w.0.0) f.line x.reads in
    let k = found_within names s.begun f.name f.next in
    let count : more s.begun ≡ suc s.begun = omega (arith, k, h) in
    let st = x.stands in
    let rest : w.0.1 ≡ t.rest = sym (ap (λ (z : Reading). z.rest) st) in
    let b : t.begun ≡ suc s.begun = ap (λ (z : Reading). z.begun) st ∙ count in
    let tail = parts_lines later.parts ++ Ended (length names) ∷ [] in
    let whole : Named f.name ∷ (map Taken later.lines ++ tail) ≡ parts_lines ((f.name, later.lines) ∷ later.parts) ++ Ended (length names) ∷ [] =
    ap (λ (ts : List TextLine). Named f.name ∷ ts) (sym (append_assoc (map Taken later.lines) (parts_lines later.parts) (Ended (length names) ∷ []))) in
    record {
      lines = [];
      parts = (f.name, later.lines) ∷ later.parts;
      text = text_of w.0.0 w.0.1 s.rest (Named f.name) (map Taken later.lines ++ tail) w.1.0 r.0 (rest ∙ later.text) ∙ ap lines_text whole;
      lines_fit = tt;
      parts_fit = ((r.1, later.lines_fit), later.parts_fit);
      steps_are = ap₂ (λ (x : ℕ) (ys : List CertStep). Begin x ∷ ys) f.number (later.steps_are ∙ ap (λ (c : ℕ). map Step later.lines ++ steps_of c later.parts) b);
      named = ap (λ (ns : List (List ℕ)). f.name ∷ ns) (later.named ∙ ap (λ (c : ℕ). drop c names) b) ∙ sym (drop_found names s.begun f.name f.next);
      begun = λ _. refl;
    }

one_step : (names : List (List ℕ)) (s t : Reading) (l : Line) (steps : List CertStep) → NextLine names s (cut 10 s.rest) (Ok (Step l)) t → Left names t.rest t.begun steps
    → Left names s.rest s.begun (Step l ∷ steps)
one_step names s t l steps nx later =
    let w = line_of names s t (Step l) (cut 10 s.rest) refl nx in
    let x = w.1.1 in
    let f = step_from names s w.0.1 l x.meant (read_as names s t (Step l) w.0.0 w.0.1 x) in
    let r : Reads w.0.0 (Some (Taken l)) = subst (Reads w.0.0) f.0 x.reads in
    let st = x.stands in
    let rest : w.0.1 ≡ t.rest = sym (ap (λ (z : Reading). z.rest) st) in
    let b : t.begun ≡ s.begun = ap (λ (z : Reading). z.begun) st in
    record {
      lines = l ∷ later.lines;
      parts = later.parts;
      text = text_of w.0.0 w.0.1 s.rest (Taken l) (map Taken later.lines ++ (parts_lines later.parts ++ Ended (length names) ∷ [])) w.1.0 r.0 (rest ∙ later.text);
      lines_fit = (r.1, later.lines_fit);
      parts_fit = later.parts_fit;
      steps_are = ap (λ (ys : List CertStep). Step l ∷ ys) (later.steps_are ∙ ap (λ (c : ℕ). map Step later.lines ++ steps_of c later.parts) b);
      named = later.named ∙ ap (λ (c : ℕ). drop c names) b;
      begun = λ z. let q : true ≡ false = sym z ∙ f.1 in absurd (cc);
    }

-- one part more
one_more : (names : List (List ℕ)) (s t : Reading) (step : CertStep) (steps : List CertStep) → length names < 2 ^ 32 → IsPart step → NextLine names s (cut 10 s.rest) (Ok step) t
    → Left names t.rest t.begun steps → Left names s.rest s.begun (step ∷ steps)
one_more names s t (Begin n) steps h part nx later = begins names s t n steps h nx later
one_more names s t (Step l) steps h part nx later = one_step names s t l steps nx later
one_more names s t Finished steps h part nx later = absurd part

stays_open : (names : List (List ℕ)) (s t : Reading) (step : CertStep) → s.failed ≡ false → s.opened ≡ true → IsPart step → NextLine names s (cut 10 s.rest) (Ok step) t → (t.failed ≡ false) × (t.opened ≡ true)
stays_open names s t (Begin n) f o part nx = let st = (line_of names s t (Begin n) (cut 10 s.rest) refl nx).1.1.stands in (ap (λ (z : Reading). z.failed) st ∙ f, ap (λ (z : Reading). z.opened) st ∙ o)
stays_open names s t (Step l) f o part nx = let st = (line_of names s t (Step l) (cut 10 s.rest) refl nx).1.1.stands in (ap (λ (z : Reading). z.failed) st ∙ f, ap (λ (z : Reading). z.opened) st ∙ o)
stays_open names s t Finished f o part nx = absurd part

next_of : (names : List (List ℕ)) (s t : Reading) (r : Result CertStep CertError) → s.failed ≡ false → s.opened ≡ true → Next names s r t → NextLine names s (cut 10 s.rest) r t
next_of names s t r f o n = pick_true s.opened (NextLine names s (cut 10 s.rest) r t) (FirstLine names s (cut 10 s.rest) r t) o
    (pick_false s.failed _ (cond s.opened (NextLine names s (cut 10 s.rest) r t) (FirstLine names s (cut 10 s.rest) r t)) f n)

left : (names : List (List ℕ)) (s : Reading) (steps : List CertStep) → length names < 2 ^ 32 → s.failed ≡ false → s.opened ≡ true → MayRead names s steps → Left names s.rest s.begun steps
left names s [] h f o (ends t n) = done names s t (next_of names s t (Ok Finished) f o n)
left names s (step ∷ steps) h f o (goes_on t part n m) =
    let nx = next_of names s t (Ok step) f o n in
    let k = stays_open names s t step f o part nx in
    one_more names s t step steps h part nx (left names t steps h k.0 k.1 m)

names_length : (parts : List (List ℕ × List Line)) → length (names_of parts) ≡ length parts
names_length [] = refl
names_length (p ∷ ps) = ap suc (names_length ps)

whole_of : (names : List (List ℕ)) (bytes line rest : List ℕ) (steps : List CertStep) → bytes ≡ line ++ 10 ∷ rest → line ≡ line_text First → Left names rest 0 steps → IsCertificate names bytes steps
whole_of names bytes line rest steps c l left =
    let none = left.begun refl in
    let t : rest ≡ lines_text (parts_lines left.parts ++ Ended (length names) ∷ []) = left.text ∙ ap (λ (ls : List Line). lines_text (map Taken ls ++ (parts_lines left.parts ++ Ended (length names) ∷ []))) none in
    let count : length names ≡ length left.parts = sym (ap length left.named) ∙ names_length left.parts in
    record {
      parts = left.parts;
      named = left.named;
      fits = left.parts_fit;
      text = text_of line rest bytes First (parts_lines left.parts ++ Ended (length names) ∷ []) c l t ∙ ap (λ (n : ℕ). lines_text (First ∷ (parts_lines left.parts ++ Ended n ∷ []))) count;
      steps_are = left.steps_are ∙ ap (λ (ls : List Line). map Step ls ++ steps_of 0 left.parts) none;
    }

-- the first call
first_of : (names : List (List ℕ)) (s t : Reading) (step : CertStep) (o : Option (List ℕ × List ℕ)) → cut 10 s.rest ≡ o → FirstLine names s o (Ok step) t
    → (p : List ℕ × List ℕ) × ((s.rest ≡ p.0 ++ 10 ∷ p.1) × (p.0 ≡ line_text First) × NextLine names (opened s p.1) (cut 10 p.1) (Ok step) t)
first_of names s t step None c n = let q = n.0 in absurd (cc q)
first_of names s t step (Some p) c (inl n) = (p, (cut_there 10 s.rest p c, n.0, n.1))
first_of names s t step (Some p) c (inr n) = let q = n.1 in absurd (cc q)

pub reads_only : (names : List (List ℕ)) (bytes : List ℕ) (steps : List CertStep) → length names < 2 ^ 32 → MayRead names (start bytes) steps → IsCertificate names bytes steps
reads_only names bytes [] h (ends t n) =
    let w = first_of names (start bytes) t Finished (cut 10 bytes) refl n in
    whole_of names bytes w.0.0 w.0.1 [] w.1.0 w.1.1 (done names (opened (start bytes) w.0.1) t w.1.2)
reads_only names bytes (step ∷ steps) h (goes_on t part n m) =
    let w = first_of names (start bytes) t step (cut 10 bytes) refl n in
    let k = stays_open names (opened (start bytes) w.0.1) t step refl refl part w.1.2 in
    whole_of names bytes w.0.0 w.0.1 (step ∷ steps) w.1.0 w.1.1
    (one_more names (opened (start bytes) w.0.1) t step steps h part w.1.2 (left names t steps h k.0 k.1 m))
