-- What stands in the lists is a boundary, or the row of an answer.
use Rattle.std.proofs.Common.{◌≡◌, ◌≤◌, ◌<◌, ◌+◌, ◌-◌, ℕ, zero, suc, true, List, [], ◌∷◌, ◌++◌, length, take, refl, sym, subst, arith, inl, inr, Option, Some, None, length-append, length-take}
use Rattle.std.specs.Prelude.{nat_le}
use Rattle.std.specs.List.{AllByRecursion}
use Rattle.std.proofs.lemmas.Bool.{cases_Bool, cases_lt}
use Rattle.std.proofs.lemmas.Bool.Decides.{nat_tests}
use Rattle.lola_bits.specs.declared.vector.Bits.{Bits}
use Rattle.tab_tree.specs.declared.value.Answer.{Answer}
use Rattle.tab_tree.specs.declared.value.Access.{Access}
use Rattle.tab_tree.specs.Table.{TableTree}
use Rattle.tab_tree.specs.Step.{Arch, answer_at, no_words, cycles_of, Subject, steps_of, next_arch, next_word, instruction_rows, row_at, Takes, Boundary, after, Row, row}
use Rattle.tab_lists.specs.Lists.{subject_of, Bound, behind, later_boundaries, boundaries, rows_by, all_rows}
use Rattle.tab_lists.proofs.Subjects.{chosen, subject_is, rows_length}

-- rows of two lists, and of a front
pub row_left : (xs ys : List Access) (n : ℕ) → n < length xs → row_at (xs ++ ys) n ≡ row_at xs n
row_left [] ys n below = absurd (omega arith)
row_left (x ∷ xs) ys zero below = refl
row_left (x ∷ xs) ys (suc n) below = row_left xs ys n (omega arith)

pub row_right : (xs ys : List Access) (n : ℕ) → row_at (xs ++ ys) (length xs + n) ≡ row_at ys n
row_right [] ys n = let same : 0 + n ≡ n = omega arith in rw same refl
row_right (x ∷ xs) ys n = let same : suc (length xs) + n ≡ suc (length xs + n) = omega arith in rw same (row_right xs ys n)

pub row_taken : (k : ℕ) (xs : List Access) (n : ℕ) → n < k → row_at (take k xs) n ≡ row_at xs n
row_taken zero xs n below = absurd (omega arith)
row_taken (suc k) [] n below = refl
row_taken (suc k) (x ∷ xs) zero below = refl
row_taken (suc k) (x ∷ xs) (suc n) below = row_taken k xs n (omega arith)

pub some_rows : (T : TableTree) (answers : List Answer) (A : Arch) (i : Bits) (at : ℕ) (u : Subject) → length (instruction_rows T (steps_of u) A i answers at) ≡ cycles_of (steps_of u).phases
some_rows T answers A i at u = rows_length T (steps_of u) A i answers 0 (steps_of u).phases no_words at

module _ (T : TableTree) (answers : List Answer) (A0 : Arch) (i0 : Bits) where
  takes : (A : Arch) (i : Bits) (at : ℕ) (u : Subject) → subject_of T i ≡ Some u → Takes T answers A i at u
  takes A i at u is = record { lets = subject_is T i u is; chooses = chosen T A (answer_at answers at) u }

  -- a step from a boundary
  step_on : (A : Arch) (i : Bits) (at : ℕ) (u : Subject) → Boundary T answers A0 i0 A i at → subject_of T i ≡ Some u → nat_le (behind u at) (length answers) ≡ true →
      Boundary T answers A0 i0 (next_arch T (steps_of u) A i answers at) (next_word (steps_of u) answers at) (behind u at)
  step_on A i at u here is room =
      let enough : at + cycles_of (steps_of u).phases ≤ length answers = grind (arith, nat_tests) in
      after A i at u here (takes A i at u is) enough refl refl refl

  later_are : (others : Arch → Bits → ℕ → List Bound) → ((A : Arch) (i : Bits) (at : ℕ) → Boundary T answers A0 i0 A i at → AllByRecursion (λ (x : Bound). Boundary T answers A0 i0 x.arch x.word x.at) (others A i at)) →
      (A : Arch) (i : Bits) (at : ℕ) → Boundary T answers A0 i0 A i at → (o : Option Subject) → subject_of T i ≡ o →
      AllByRecursion (λ (x : Bound). Boundary T answers A0 i0 x.arch x.word x.at) (later_boundaries T answers A i at o others)
  later_are others each A i at here None is = tt
  later_are others each A i at here (Some u) is = elim (cases_Bool (nat_le (behind u at) (length answers))) [
    | inl hit ↦ rw hit (each (next_arch T (steps_of u) A i answers at) (next_word (steps_of u) answers at) (behind u at) (step_on A i at u here is hit))
    | inr miss ↦ rw miss tt
  ]

  pub boundaries_are : (more : ℕ) (A : Arch) (i : Bits) (at : ℕ) → Boundary T answers A0 i0 A i at → AllByRecursion (λ (x : Bound). Boundary T answers A0 i0 x.arch x.word x.at) (boundaries more T answers A i at)
  boundaries_are zero A i at here = tt
  boundaries_are (suc more) A i at here = (here, later_are (boundaries more T answers) (boundaries_are more) A i at here (subject_of T i) refl)

  -- a row of the instruction that begins at a boundary
  row_on : (A : Arch) (i : Bits) (at : ℕ) (u : Subject) → Boundary T answers A0 i0 A i at → subject_of T i ≡ Some u → (n : ℕ) → n < cycles_of (steps_of u).phases → at + n < length answers →
      Row T answers A0 i0 (at + n) (row_at (instruction_rows T (steps_of u) A i answers at) n)
  row_on A i at u here is n below left = row A i at n u here (takes A i at u is) below refl left refl

  rows_by_are : (others : Arch → Bits → ℕ → List Access) →
      ((A : Arch) (i : Bits) (at : ℕ) → at ≤ length answers → Boundary T answers A0 i0 A i at → (n : ℕ) → n < length (others A i at) → Row T answers A0 i0 (at + n) (row_at (others A i at) n)) →
      (A : Arch) (i : Bits) (at : ℕ) → at ≤ length answers → Boundary T answers A0 i0 A i at → (o : Option Subject) → subject_of T i ≡ o →
      (n : ℕ) → n < length (rows_by T answers A i at o others) → Row T answers A0 i0 (at + n) (row_at (rows_by T answers A i at o others) n)
  rows_by_are others each A i at within here None is n below = absurd (omega arith)
  rows_by_are others each A i at within here (Some u) is n below =
      let all = some_rows T answers A i at u in
      let ours = instruction_rows T (steps_of u) A i answers at in
      let cycles = cycles_of (steps_of u).phases in
      elim (cases_Bool (nat_le (behind u at) (length answers))) [
        | inl hit ↦
            let enough : at + cycles_of (steps_of u).phases ≤ length answers = grind (arith, nat_tests) in
            let A' = next_arch T (steps_of u) A i answers at in
            let i' = next_word (steps_of u) answers at in
            let theirs = others A' i' (at + cycles) in
            let below' : n < length (ours ++ theirs) = rw hit at below in
            let both : length (ours ++ theirs) ≡ length ours + length theirs = length-append ours theirs in
            rw hit (elim (cases_lt n cycles) [
              | inl first ↦ subst (λ (a : Access). Row T answers A0 i0 (at + n) a) (sym (row_left ours theirs n (omega arith))) (row_on A i at u here is n first (omega arith))
              | inr past ↦
                  let k = n - cycles in
                  let there = each A' i' (at + cycles) enough (step_on A i at u here is hit) k (omega arith) in
                  let e : at + cycles + k ≡ at + n = omega arith in
                  let f : length ours + k ≡ n = omega arith in
                  subst (λ (j : ℕ). Row T answers A0 i0 j (row_at (ours ++ theirs) n)) e
                  (subst (λ (j : ℕ). Row T answers A0 i0 (at + cycles + k) (row_at (ours ++ theirs) j)) f
                  (subst (λ (a : Access). Row T answers A0 i0 (at + cycles + k) a) (sym (row_right ours theirs k)) there))
            ])
        | inr miss ↦
            let few : length answers < at + cycles_of (steps_of u).phases = grind (arith, nat_tests) in
            let below' : n < length (take (length answers - at) ours) = rw miss at below in
            let taken : length (take (length answers - at) ours) ≤ length answers - at = omega (arith, length-take (length answers - at) ours) in
            rw miss (subst (λ (a : Access). Row T answers A0 i0 (at + n) a) (sym (row_taken (length answers - at) ours n (omega arith))) (row_on A i at u here is n (omega arith) (omega arith)))
      ]

  pub rows_are : (more : ℕ) (A : Arch) (i : Bits) (at : ℕ) → at ≤ length answers → Boundary T answers A0 i0 A i at → (n : ℕ) → n < length (all_rows more T answers A i at) → Row T answers A0 i0 (at + n) (row_at (all_rows more T answers A i at) n)
  rows_are zero A i at within here n below = absurd (omega arith)
  rows_are (suc more) A i at within here n below = rows_by_are (all_rows more T answers) (rows_are more) A i at within here (subject_of T i) refl n below
