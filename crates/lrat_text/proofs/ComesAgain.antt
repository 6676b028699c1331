-- After a refusal or the end the same answer comes again.
use Rattle.std.proofs.Common.{◌≡◌, ℕ, Bool, true, false, cond, List, Option, None, Some, refl, sym, ◌∙◌, subst, inl, inr}
use Rattle.std.specs.declared.result.Result.{Result}
use Rattle.std.specs.declared.result.Result.TheVariants.{Ok, Err}
use Rattle.lrat_text.specs.declared.cert.CertError.{CertError}
use Rattle.lrat_text.specs.declared.cert.CertError.TheVariants as fault
use Rattle.lrat_text.specs.declared.cert.CertStep.{CertStep}
use Rattle.lrat_text.specs.declared.cert.CertStep.TheVariants as step
use Rattle.lrat_text.specs.Text.{TextLine, First, Named, Taken, Ended}
use Rattle.lrat_text.specs.Cut.{cut}
use Rattle.lrat_text.specs.Reading.{Reading, more, answer_to, Told, LineRead, NextLine, opened, FirstLine, Next}
use Rattle.lrat_text.specs.Runs.{IsLast}
use Rattle.lrat_text.proofs.Readable.{reads_once}

pub pick_true : (b : Bool) (X Y : Type 0) → b ≡ true → cond b X Y → X
pick_true true X Y e h = h
pick_true false X Y e h = absurd (cc)

pub pick_false : (b : Bool) (X Y : Type 0) → b ≡ false → cond b X Y → Y
pick_false true X Y e h = absurd (cc)
pick_false false X Y e h = h

-- the number of the line just read changes no answer
answer_same : (names : List (List ℕ)) (s : Reading) (n : ℕ) (behind : List ℕ) (o : Option TextLine) → answer_to names (record s { line = n }) behind o ≡ answer_to names s behind o
answer_same names s n behind None = refl
answer_same names s n behind (Some First) = refl
answer_same names s n behind (Some (Named name)) = refl
answer_same names s n behind (Some (Taken line)) = refl
answer_same names s n behind (Some (Ended count)) = refl

module _ (names : List (List ℕ)) where
  -- the line is read again
  read_again : (s t u : Reading) (line behind : List ℕ) (r q : Result CertStep CertError) → s.failed ≡ false → s.opened ≡ true → cut 10 s.rest ≡ Some (line, behind)
      → LineRead names s line behind r t → t ≡ record s { line = more s.passed } → (r ≡ Err fault.Memory → ⊥) → Next names t q u → Told r q
  read_again s t u line behind r q f op ce x te other next =
      let s2 : Reading = record s { line = more s.passed } in
      let m : Next names s2 q u = subst (λ (z : Reading). Next names z q u) te next in
      let l : NextLine names s2 (cut 10 s.rest) q u = pick_true s.opened (NextLine names s2 (cut 10 s.rest) q u) (FirstLine names s2 (cut 10 s.rest) q u) op
      (pick_false s.failed ((q ≡ Err fault.Memory) × (u ≡ s2)) (cond s.opened (NextLine names s2 (cut 10 s.rest) q u) (FirstLine names s2 (cut 10 s.rest) q u)) f m) in
      let k : LineRead names s2 line behind q u = subst (λ (o : Option (List ℕ × List ℕ)). NextLine names s2 o q u) ce l in
      let same : k.meant ≡ x.meant = reads_once line k.meant x.meant k.reads x.reads in
      let a : Told (answer_to names s behind x.meant) q = subst (λ (o : Option TextLine). Told (answer_to names s behind o) q) same
      (subst (λ (z : Result CertStep CertError). Told z q) (answer_same names s (more s.passed) behind k.meant) k.told) in
      elim x.told [
        | inl e ↦ subst (λ (z : Result CertStep CertError). Told z q) (sym e) a
        | inr e ↦ absurd (other e)
      ]

  again_line : (s t u : Reading) (line behind : List ℕ) (r q : Result CertStep CertError) → s.failed ≡ false → s.opened ≡ true → cut 10 s.rest ≡ Some (line, behind)
      → LineRead names s line behind r t → IsLast r → Next names t q u → Told r q
  again_line s t u line behind (Ok (step.Begin n)) q f op ce x last next = absurd last
  again_line s t u line behind (Ok (step.Step l)) q f op ce x last next = absurd last
  again_line s t u line behind (Ok step.Finished) q f op ce x last next = read_again s t u line behind _ q f op ce x x.stands (λ e. cc) next
  again_line s t u line behind (Err (fault.BadLine n)) q f op ce x last next = read_again s t u line behind _ q f op ce x x.stands (λ e. cc) next
  again_line s t u line behind (Err (fault.WrongName n)) q f op ce x last next = read_again s t u line behind _ q f op ce x x.stands (λ e. cc) next
  again_line s t u line behind (Err (fault.Missing n name)) q f op ce x last next = read_again s t u line behind _ q f op ce x x.stands (λ e. cc) next
  again_line s t u line behind (Err (fault.Extra n)) q f op ce x last next = read_again s t u line behind _ q f op ce x x.stands (λ e. cc) next
  again_line s t u line behind (Err fault.Truncated) q f op ce x last next = read_again s t u line behind _ q f op ce x x.stands (λ e. cc) next
  again_line s t u line behind (Err fault.Memory) q f op ce x last next =
      let m = subst (λ (z : Reading). Next names z q u) x.stands next in inl m.0

  again_opened : (s t u : Reading) (r q : Result CertStep CertError) (o : Option (List ℕ × List ℕ)) → s.failed ≡ false → s.opened ≡ true → cut 10 s.rest ≡ o
      → NextLine names s o r t → IsLast r → Next names t q u → Told r q
  again_opened s t u r q None f op ce n last next =
      let s2 : Reading = record s { line = s.passed } in
      let m : Next names s2 q u = subst (λ (z : Reading). Next names z q u) n.1 next in
      let l : NextLine names s2 (cut 10 s.rest) q u = pick_true s.opened (NextLine names s2 (cut 10 s.rest) q u) (FirstLine names s2 (cut 10 s.rest) q u) op
      (pick_false s.failed ((q ≡ Err fault.Memory) × (u ≡ s2)) (cond s.opened (NextLine names s2 (cut 10 s.rest) q u) (FirstLine names s2 (cut 10 s.rest) q u)) f m) in
      let k = subst (λ (o : Option (List ℕ × List ℕ)). NextLine names s2 o q u) ce l in
      inl (k.0 ∙ sym n.0)
  again_opened s t u r q (Some p) f op ce n last next = again_line s t u p.0 p.1 r q f op ce n last next

  again_first : (s t u : Reading) (r q : Result CertStep CertError) (o : Option (List ℕ × List ℕ)) → s.failed ≡ false → s.opened ≡ false → cut 10 s.rest ≡ o
      → FirstLine names s o r t → IsLast r → Next names t q u → Told r q
  again_first s t u r q None f op ce n last next =
      let s2 : Reading = record s { line = s.passed } in
      let m : Next names s2 q u = subst (λ (z : Reading). Next names z q u) n.1 next in
      let l : FirstLine names s2 (cut 10 s.rest) q u = pick_false s.opened (NextLine names s2 (cut 10 s.rest) q u) (FirstLine names s2 (cut 10 s.rest) q u) op
      (pick_false s.failed ((q ≡ Err fault.Memory) × (u ≡ s2)) (cond s.opened (NextLine names s2 (cut 10 s.rest) q u) (FirstLine names s2 (cut 10 s.rest) q u)) f m) in
      let k = subst (λ (o : Option (List ℕ × List ℕ)). FirstLine names s2 o q u) ce l in
      inl (k.0 ∙ sym n.0)
  again_first s t u r q (Some p) f op ce (inl n) last next = again_opened (opened s p.1) t u r q (cut 10 p.1) f refl refl n.1 last next
  again_first s t u r q (Some p) f op ce (inr n) last next =
      let s2 : Reading = record s { line = more s.passed } in
      let m : Next names s2 q u = subst (λ (z : Reading). Next names z q u) n.2 next in
      let l : FirstLine names s2 (cut 10 s.rest) q u = pick_false s.opened (NextLine names s2 (cut 10 s.rest) q u) (FirstLine names s2 (cut 10 s.rest) q u) op
      (pick_false s.failed ((q ≡ Err fault.Memory) × (u ≡ s2)) (cond s.opened (NextLine names s2 (cut 10 s.rest) q u) (FirstLine names s2 (cut 10 s.rest) q u)) f m) in
      let k = subst (λ (o : Option (List ℕ × List ℕ)). FirstLine names s2 o q u) ce l in
      elim k [
        | inl a ↦ absurd (n.0 a.0)
        | inr b ↦ inl (b.1 ∙ sym n.1)
      ]

  by_opened : (s t u : Reading) (r q : Result CertStep CertError) (b : Bool) → s.failed ≡ false → s.opened ≡ b → cond b (NextLine names s (cut 10 s.rest) r t) (FirstLine names s (cut 10 s.rest) r t)
      → IsLast r → Next names t q u → Told r q
  by_opened s t u r q true f op n last next = again_opened s t u r q (cut 10 s.rest) f op refl n last next
  by_opened s t u r q false f op n last next = again_first s t u r q (cut 10 s.rest) f op refl n last next

  by_failed : (s t u : Reading) (r q : Result CertStep CertError) (b : Bool) → s.failed ≡ b
      → cond b ((r ≡ Err fault.Memory) × (t ≡ s)) (cond s.opened (NextLine names s (cut 10 s.rest) r t) (FirstLine names s (cut 10 s.rest) r t)) → IsLast r → Next names t q u → Told r q
  by_failed s t u r q true f n last next =
      let m : Next names s q u = subst (λ (z : Reading). Next names z q u) n.1 next in
      let k = pick_true s.failed ((q ≡ Err fault.Memory) × (u ≡ s)) (cond s.opened (NextLine names s (cut 10 s.rest) q u) (FirstLine names s (cut 10 s.rest) q u)) f m in
      inl (k.0 ∙ sym n.0)
  by_failed s t u r q false f n last next = by_opened s t u r q s.opened f refl n last next

  pub comes_again : (s t u : Reading) (r q : Result CertStep CertError) → Next names s r t → IsLast r → Next names t q u → Told r q
  comes_again s t u r q n last next = by_failed s t u r q s.failed refl n last next
