-- An instruction on the answers left is the one whose first answer has that number.
use Rattle.std.proofs.Common.{◌≡◌, ◌+◌, ◌-◌, ℕ, zero, suc, List, [], ◌∷◌, ◌++◌, Option, None, drop, replicate, refl, ap, ap₂, ◌∙◌, arith}
use Rattle.lola_bits.specs.declared.vector.Bits.{Bits}
use Rattle.tab_tree.specs.declared.value.Answer.{Answer}
use Rattle.tab_tree.specs.declared.value.Access.{Access}
use Rattle.tab_tree.specs.Table.{PhaseTree, InsideTree, TableTree}
use Rattle.tab_tree.specs.Step.{Arch, answer_at, Words, no_words, class_names, set_states, cycles_of, phase_cycles, phase_words, phase_row, end_words, rows, next_arch, next_word, instruction_rows}

answer_left : (d : ℕ) (answers : List Answer) (n : ℕ) → answer_at (drop d answers) n ≡ answer_at answers (d + n)
answer_left zero answers n = let same : 0 + n ≡ n = omega arith in rw same refl
answer_left (suc d) [] n = refl
answer_left (suc d) (a ∷ answers) n = let same : suc d + n ≡ suc (d + n) = omega arith in rw same (answer_left d answers n)

pub word_left : (b : InsideTree) (answers : List Answer) (d : ℕ) → next_word b (drop d answers) 0 ≡ next_word b answers d
word_left b answers d =
    let e : d + (0 + (cycles_of b.phases - 1)) ≡ d + (cycles_of b.phases - 1) = omega arith in
    ap (λ (a : Answer). a.code) (answer_left d answers (0 + (cycles_of b.phases - 1)) ∙ ap (answer_at answers) e)

module _ (T : TableTree) (b : InsideTree) (A : Arch) (i : Bits) (answers : List Answer) (d : ℕ) where
  words_here : (p : ℕ) (phase : PhaseTree) (m : Words) (at : ℕ) →
      phase_words T b A i p phase m (answer_at (drop d answers) (at + (phase_cycles phase - 1))) ≡ phase_words T b A i p phase m (answer_at answers (d + at + (phase_cycles phase - 1)))
  words_here p phase m at =
      let e : d + (at + (phase_cycles phase - 1)) ≡ d + at + (phase_cycles phase - 1) = omega arith in
      ap (phase_words T b A i p phase m) (answer_left d answers (at + (phase_cycles phase - 1)) ∙ ap (answer_at answers) e)

  words_left : (p : ℕ) (phases : List PhaseTree) (m : Words) (at : ℕ) → end_words T b A i (drop d answers) p phases m at ≡ end_words T b A i answers p phases m (d + at)
  words_left p [] m at = refl
  words_left p (phase ∷ phases) m at =
      let e : d + (at + phase_cycles phase) ≡ d + at + phase_cycles phase = omega arith in
      words_left (suc p) phases (phase_words T b A i p phase m (answer_at (drop d answers) (at + (phase_cycles phase - 1)))) (at + phase_cycles phase)
      ∙ ap₂ (λ (w : Words) (n : ℕ). end_words T b A i answers (suc p) phases w n) (words_here p phase m at) e

  rows_left : (p : ℕ) (phases : List PhaseTree) (m : Words) (at : ℕ) → rows T b A i (drop d answers) p phases m at ≡ rows T b A i answers p phases m (d + at)
  rows_left p [] m at = refl
  rows_left p (phase ∷ phases) m at =
      let e : d + (at + phase_cycles phase) ≡ d + at + phase_cycles phase = omega arith in
      ap (λ (others : List Access). replicate (phase_cycles phase) (phase_row T b A i phase.turns phase.access m) ++ others)
      (rows_left (suc p) phases (phase_words T b A i p phase m (answer_at (drop d answers) (at + (phase_cycles phase - 1)))) (at + phase_cycles phase)
      ∙ ap₂ (λ (w : Words) (n : ℕ). rows T b A i answers (suc p) phases w n) (words_here p phase m at) e)

  pub arch_left : next_arch T b A i (drop d answers) 0 ≡ next_arch T b A i answers d
  arch_left =
      let e : d + 0 ≡ d = omega arith in
      let none : Option ℕ = None in
      ap (λ (m : Words). set_states T A b.sets (class_names T b A i m none)) (words_left 0 b.phases no_words 0 ∙ ap (end_words T b A i answers 0 b.phases no_words) e)

  pub all_rows_left : instruction_rows T b A i (drop d answers) 0 ≡ instruction_rows T b A i answers d
  all_rows_left = let e : d + 0 ≡ d = omega arith in rows_left 0 b.phases no_words 0 ∙ ap (rows T b A i answers 0 b.phases no_words) e
