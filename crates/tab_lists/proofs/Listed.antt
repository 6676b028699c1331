-- Each boundary and each row of an execution stands in the lists.
use Rattle.std.proofs.Common.{◌≡◌, ◌≤◌, ◌<◌, ◌+◌, ◌-◌, ℕ, zero, suc, true, false, List, ◌++◌, length, take, refl, sym, ◌∙◌, ap, subst, arith, inl, inr, Some, length-append, length-take}
use Rattle.std.specs.Prelude.{nat_le}
use Rattle.std.proofs.lemmas.Bool.{cases_lt}
use Rattle.std.proofs.lemmas.Bool.Decides.{nat_tests}
use Rattle.lola_bits.specs.declared.vector.Bits.{Bits}
use Rattle.lola_bits.specs.Lists.{IsIn}
use Rattle.lola_bits.proofs.All.{of_all}
use Rattle.tab_tree.specs.declared.value.Answer.{Answer}
use Rattle.tab_tree.specs.declared.value.Access.{Access}
use Rattle.tab_tree.specs.Table.{TableTree}
use Rattle.tab_tree.specs.Step.{Arch, cycles_of, Subject, steps_of, next_arch, next_word, instruction_rows, row_at, Boundary, begin, after, Row, row}
use Rattle.tab_lists.specs.Lists.{subject_of, Bound, behind, later_boundaries, boundaries, rows_by, all_rows, boundary_list, row_list, IsOrdered, AreListed}
use Rattle.tab_lists.proofs.Subjects.{subject_found, some_cycle}
use Rattle.tab_lists.proofs.Made.{row_left, row_right, row_taken, some_rows, boundaries_are, rows_are}

-- the boundary behind another, and the lists from one on
abbrev next : TableTree → List Answer → Bound → Subject → Bound
next T answers x u = record { arch = next_arch T (steps_of u) x.arch x.word answers x.at; word = next_word (steps_of u) answers x.at; at = behind u x.at }

abbrev ours : TableTree → List Answer → Bound → Subject → List Access
ours T answers x u = instruction_rows T (steps_of u) x.arch x.word answers x.at

abbrev bounds_from : ℕ → TableTree → List Answer → Bound → List Bound
bounds_from more T answers x = boundaries more T answers x.arch x.word x.at

abbrev rows_from : ℕ → TableTree → List Answer → Bound → List Access
rows_from more T answers x = all_rows more T answers x.arch x.word x.at

-- what stands in the lists from a boundary on stands in those of the execution
record Within (T : TableTree) (answers : List Answer) (A : Arch) (i : Bits) (x : Bound) (more : ℕ) : Type 0 where
  pub inside : x.at ≤ length answers
  pub left : length answers < more + x.at
  pub bounds : (y : Bound) → IsIn y (bounds_from more T answers x) → IsIn y (boundary_list T answers A i)
  pub rows : (m : ℕ) → m < length (rows_from more T answers x) → (x.at + m < length (row_list T answers A i)) × (row_at (row_list T answers A i) (x.at + m) ≡ row_at (rows_from more T answers x) m)

module _ (T : TableTree) (answers : List Answer) (A : Arch) (i : Bits) where
  first_within : Within T answers A i (record { arch = A; word = i; at = 0 }) (suc (length answers))
  first_within = record {
    inside = omega arith;
    left = omega arith;
    bounds = λ y among. among;
    rows = λ m below. let e : 0 + m ≡ m = omega arith in (omega arith, ap (row_at (row_list T answers A i)) e);
  }

  -- one instruction on
  bounds_step : (x : Bound) (u : Subject) (more : ℕ) → subject_of T x.word ≡ Some u → behind u x.at ≤ length answers →
      later_boundaries T answers x.arch x.word x.at (subject_of T x.word) (boundaries more T answers) ≡ bounds_from more T answers (next T answers x u)
  bounds_step x u more is enough =
      let hit : nat_le (behind u x.at) (length answers) ≡ true = grind (arith, nat_tests) in
      ap (λ o. later_boundaries T answers x.arch x.word x.at o (boundaries more T answers)) is ∙ rw hit refl

  rows_step : (x : Bound) (u : Subject) (more : ℕ) → subject_of T x.word ≡ Some u → behind u x.at ≤ length answers →
      rows_from (suc more) T answers x ≡ ours T answers x u ++ rows_from more T answers (next T answers x u)
  rows_step x u more is enough =
      let hit : nat_le (behind u x.at) (length answers) ≡ true = grind (arith, nat_tests) in
      ap (λ o. rows_by T answers x.arch x.word x.at o (all_rows more T answers)) is ∙ rw hit refl

  rows_end : (x : Bound) (u : Subject) (more : ℕ) → subject_of T x.word ≡ Some u → length answers < behind u x.at →
      rows_from (suc more) T answers x ≡ take (length answers - x.at) (ours T answers x u)
  rows_end x u more is few =
      let miss : nat_le (behind u x.at) (length answers) ≡ false = grind (arith, nat_tests) in
      ap (λ o. rows_by T answers x.arch x.word x.at o (all_rows more T answers)) is ∙ rw miss refl

  next_within : (x : Bound) (u : Subject) (more : ℕ) → Within T answers A i x (suc more) → subject_of T x.word ≡ Some u → 1 ≤ cycles_of (steps_of u).phases → behind u x.at ≤ length answers →
      Within T answers A i (next T answers x u) more
  next_within x u more w is some enough = record {
    inside = enough;
    left = let h = w.left in omega arith;
    bounds = λ y among. w.bounds y (inr (subst (λ (l : List Bound). IsIn y l) (sym (bounds_step x u more is enough)) among));
    rows = λ m below.
        let mine = ours T answers x u in
        let rest = rows_from more T answers (next T answers x u) in
        let all : length mine ≡ cycles_of (steps_of u).phases = some_rows T answers x.arch x.word x.at u in
        let both : length (mine ++ rest) ≡ length mine + length rest = length-append mine rest in
        let step = rows_step x u more is enough in
        let there = w.rows (length mine + m) (subst (λ (l : List Access). length mine + m < length l) (sym step) (omega arith)) in
        let e : x.at + (length mine + m) ≡ behind u x.at + m = omega arith in (
          subst (λ (n : ℕ). n < length (row_list T answers A i)) e there.0,
          ap (row_at (row_list T answers A i)) (sym e) ∙ there.1 ∙ ap (λ (l : List Access). row_at l (length mine + m)) step ∙ row_right mine rest m,
        );
  }

  some_more : (x : Bound) (more : ℕ) → Within T answers A i x more → (less : ℕ) × Within T answers A i x (suc less)
  some_more x zero w = absurd (let h = w.left in let k = w.inside in omega arith)
  some_more x (suc less) w = (less, w)

  bound_same : (B C : Arch) (j k : Bits) (b c : ℕ) → B ≡ C → j ≡ k → b ≡ c →
      (let x : Bound = record { arch = B; word = j; at = b } in x) ≡ (let x : Bound = record { arch = C; word = k; at = c } in x)
  bound_same B C j k b c p q r = λ n. record { arch = p n; word = q n; at = r n }

  module _ (ordered : IsOrdered T) where
    within : (B : Arch) (j : Bits) (b : ℕ) → Boundary T answers A i B j b → (less : ℕ) × Within T answers A i (record { arch = B; word = j; at = b }) (suc less)
    within B j b (begin p q r) = (length answers, subst (λ (x : Bound). Within T answers A i x (suc (length answers))) (bound_same A B i j 0 b (sym p) (sym q) (sym r)) first_within)
    within B j b (after before word at u bound takes enough p q r) =
        let w = within before word at bound in
        let x : Bound = record { arch = before; word = word; at = at } in
        let n = some_more (next T answers x u) w.0 (next_within x u w.0 w.1 (subject_found T word u ordered.apart takes.lets) (some_cycle T word u ordered.plain takes.lets) enough) in
        (n.0, subst (λ (x : Bound). Within T answers A i x (suc n.0)) (bound_same (next_arch T (steps_of u) before word answers at) B (next_word (steps_of u) answers at) j (behind u at) b (sym p) (sym q) (sym r)) n.1)

    boundary_in : (x : Bound) → Boundary T answers A i x.arch x.word x.at → IsIn x (boundary_list T answers A i)
    boundary_in x bound = let w = within x.arch x.word x.at bound in w.1.bounds x (inl refl)

    -- a row of what begins at a boundary stands in the rows from there on
    row_here : (x : Bound) (u : Subject) (less turn : ℕ) → subject_of T x.word ≡ Some u → turn < cycles_of (steps_of u).phases → x.at + turn < length answers →
        (turn < length (rows_from (suc less) T answers x)) × (row_at (rows_from (suc less) T answers x) turn ≡ row_at (ours T answers x u) turn)
    row_here x u less turn is below left =
        let mine = ours T answers x u in
        let all : length mine ≡ cycles_of (steps_of u).phases = some_rows T answers x.arch x.word x.at u in
        elim (cases_lt (length answers) (behind u x.at)) [
          | inl few ↦
              let step = rows_end x u less is few in
              let taken = length-take (length answers - x.at) mine in (
                subst (λ (l : List Access). turn < length l) (sym step) (omega arith),
                ap (λ (l : List Access). row_at l turn) step ∙ row_taken (length answers - x.at) mine turn (omega arith),
              )
          | inr enough ↦
              let rest = rows_from less T answers (next T answers x u) in
              let step = rows_step x u less is enough in
              let both : length (mine ++ rest) ≡ length mine + length rest = length-append mine rest in (
                subst (λ (l : List Access). turn < length l) (sym step) (omega arith),
                ap (λ (l : List Access). row_at l turn) step ∙ row_left mine rest turn (omega arith),
              )
        ]

    row_in : (n : ℕ) (access : Access) → Row T answers A i n access → (n < length (row_list T answers A i)) × (access ≡ row_at (row_list T answers A i) n)
    row_in n access (row B j b turn u bound takes below is left shown) =
        let w = within B j b bound in
        let x : Bound = record { arch = B; word = j; at = b } in
        let here = row_here x u w.0 turn (subject_found T j u ordered.apart takes.lets) below (omega arith) in
        let there = w.1.rows turn here.0 in (
          subst (λ (k : ℕ). k < length (row_list T answers A i)) (sym is) there.0,
          shown ∙ sym here.1 ∙ sym there.1 ∙ ap (row_at (row_list T answers A i)) (sym is),
        )

    in_row : (n : ℕ) (access : Access) → n < length (row_list T answers A i) → access ≡ row_at (row_list T answers A i) n → Row T answers A i n access
    in_row n access below shown =
        let there = rows_are T answers A i (suc (length answers)) A i 0 (omega arith) (begin refl refl refl) n below in
        let e : 0 + n ≡ n = omega arith in
        subst (λ (a : Access). Row T answers A i n a) (sym shown) (subst (λ (k : ℕ). Row T answers A i k (row_at (row_list T answers A i) n)) e there)

    pub listed : AreListed T answers A i
    listed = record {
      boundaries = λ x. (
        λ among. of_all (λ (x : Bound). Boundary T answers A i x.arch x.word x.at) x (boundary_list T answers A i) (boundaries_are T answers A i (suc (length answers)) A i 0 (begin refl refl refl)) among,
        boundary_in x,
      );
      rows = λ n access. (λ h. in_row n access h.0 h.1, row_in n access);
    }
