-- What an instruction keeps suits its names.
use Rattle.std.proofs.Common.{◌≡◌, ◌≤◌, ◌<◌, ℕ, suc, Bool, true, false, refl, sym, ap, ◌∙◌, subst, arith, inl, inr, Option, Some, None}
use Rattle.std.specs.Prelude.{nat_eq, nat_lt, if◌then◌else◌}
use Rattle.std.proofs.lemmas.Bool.{cases_Bool}
use Rattle.std.proofs.lemmas.Bool.Decides.{nat_tests}
use Rattle.lola_bits.specs.declared.vector.Bits.{Bits}
use Rattle.lola_tree.specs.Tree.{SourceTree}
use Rattle.tab_tree.specs.declared.value.Answer.{Answer}
use Rattle.tab_tree.specs.Table.{TurnsTree, AccessTree, idle_row, take_row, load_row, store_row, fetch_row, PhaseTree, InsideTree, TableTree}
use Rattle.tab_tree.specs.Names.{Form, vector_form, mapped, table_vector}
use Rattle.tab_tree.specs.Step.{Arch, Words, no_words, with_at, class_names, times_of, with_answer, entered, stepped}
use Rattle.tab_tree.specs.Placed.{word_width, role_width, takes_word, phase_at, loaded_form, turned_form, before}
use Rattle.tab_tree.specs.Suits.{IsOf, SuitsArch}
use Rattle.obl_def.specs.Valuation.{SuitsForm, SuitsWords}
use Rattle.proc_check.proofs.Basis.{TurnsFit}

-- forms below a number, and one more
equal_of : (j p : ℕ) → nat_eq j p ≡ true → j ≡ p
equal_of j p e = grind (arith, nat_tests)

below_itself : (p : ℕ) → nat_lt p p ≡ false
below_itself p = grind (arith, nat_tests)

below_next : (p : ℕ) → nat_lt p (suc p) ≡ true
below_next p = grind (arith, nat_tests)

below_other : (j p : ℕ) → nat_eq j p ≡ false → nat_lt j (suc p) ≡ nat_lt j p
below_other j p e = elim (cases_Bool (nat_lt j p)) [
  | inl less ↦ let more : nat_lt j (suc p) ≡ true = grind (arith, nat_tests) in more ∙ sym less
  | inr no_less ↦ let no_more : nat_lt j (suc p) ≡ false = grind (arith, nat_tests) in no_more ∙ sym no_less
]

module _ (f : ℕ → Option Form) (p : ℕ) where
  old_form : before p f p ≡ None
  old_form = ap (λ (b : Bool). if b then f p else None) (below_itself p)

  new_form : before (suc p) f p ≡ f p
  new_form = ap (λ (b : Bool). if b then f p else None) (below_next p)

  other_form : (j : ℕ) → nat_eq j p ≡ false → before (suc p) f j ≡ before p f j
  other_form j e = ap (λ (b : Bool). if b then f j else None) (below_other j p e)

  -- a vector for the new form; no new form; a new vector for the last one
  with_new : (m : ℕ → Option Bits) (x : Option Bits) → ((j : ℕ) → SuitsForm (before p f j) (m j)) → SuitsForm (f p) x → (j : ℕ) → SuitsForm (before (suc p) f j) (with_at m p x j)
  with_new m x suits new j = elim (cases_Bool (nat_eq j p)) [
    | inl e ↦ rw e (subst (λ (k : ℕ). SuitsForm (before (suc p) f k) x) (sym (equal_of j p e)) (subst (λ o. SuitsForm o x) (sym new_form) new))
    | inr e ↦ rw e (subst (λ o. SuitsForm o (m j)) (sym (other_form j e)) (suits j))
  ]

  with_none : (m : ℕ → Option Bits) → ((j : ℕ) → SuitsForm (before p f j) (m j)) → f p ≡ None → (j : ℕ) → SuitsForm (before (suc p) f j) (m j)
  with_none m suits none j = elim (cases_Bool (nat_eq j p)) [
    | inl e ↦ subst (λ (k : ℕ). SuitsForm (before (suc p) f k) (m k)) (sym (equal_of j p e)) (subst (λ o. SuitsForm o (m p)) (old_form ∙ sym none ∙ sym new_form) (suits p))
    | inr e ↦ subst (λ o. SuitsForm o (m j)) (sym (other_form j e)) (suits j)
  ]

  with_again : (m : ℕ → Option Bits) (x : Option Bits) → ((j : ℕ) → SuitsForm (before (suc p) f j) (m j)) → SuitsForm (f p) x → (j : ℕ) → SuitsForm (before (suc p) f j) (with_at m p x j)
  with_again m x suits new j = elim (cases_Bool (nat_eq j p)) [
    | inl e ↦ rw e (subst (λ (k : ℕ). SuitsForm (before (suc p) f k) x) (sym (equal_of j p e)) (subst (λ o. SuitsForm o x) (sym new_form) new))
    | inr e ↦ rw e (suits j)
  ]

none_below : (f : ℕ → Option Form) (j : ℕ) → None ≡ before 0 f j
none_below f j = let no : nat_lt j 0 ≡ false = grind (arith, nat_tests) in sym (ap (λ (b : Bool). if b then f j else None) no)

pub none_fits : (S : SourceTree) (T : TableTree) (b : InsideTree) → SuitsWords S T b 0 0 no_words
none_fits S T b = record {
  loaded = λ j. subst (λ o. SuitsForm o None) (none_below (λ k. loaded_form S T (phase_at b.phases k)) j) tt;
  turned = λ j. subst (λ o. SuitsForm o None) (none_below (λ k. turned_form (phase_at b.phases k)) j) tt;
}

module _ (S : SourceTree) (T : TableTree) (b : InsideTree) (p : ℕ) (phase : PhaseTree) (here : phase_at b.phases p ≡ Some phase) where
  abbrev loads : ℕ → Option Form
  loads k = loaded_form S T (phase_at b.phases k)

  abbrev turns : ℕ → Option Form
  turns k = turned_form (phase_at b.phases k)

  turns_here : turns p ≡ turned_form (Some phase)
  turns_here = ap turned_form here

  loads_here : loads p ≡ loaded_form S T (Some phase)
  loads_here = ap (loaded_form S T) here

  -- a phase begins
  entered_by : (A : Arch) (i : Bits) (m : Words) (o : Option TurnsTree) → phase.turns ≡ o → TurnsFit S T b p o → SuitsArch T A → IsOf (word_width S T) i →
      SuitsWords S T b p p m → SuitsWords S T b p (suc p) (entered T b A i p o m)
  entered_by A i m None is fit old word suits = record { loaded = suits.loaded; turned = with_none turns p m.turned suits.turned (turns_here ∙ ap (λ o. turned_form (Some (record phase { turns = o }))) is) }
  entered_by A i m (Some t) is fit old word suits = record {
    loaded = suits.loaded;
    turned = with_new turns p m.turned (table_vector (class_names T b A i m None) t.first) suits.turned
        (subst (λ o. SuitsForm o (table_vector (class_names T b A i m None) t.first)) (sym (turns_here ∙ ap (λ o. turned_form (Some (record phase { turns = o }))) is)) (fit.first A i m old word suits));
  }

  pub entered_fits : (A : Arch) (i : Bits) (m : Words) → TurnsFit S T b p phase.turns → SuitsArch T A → IsOf (word_width S T) i →
      SuitsWords S T b p p m → SuitsWords S T b p (suc p) (entered T b A i p phase.turns m)
  entered_fits A i m fit old word suits = entered_by A i m phase.turns refl fit old word suits

  -- a turn
  stepped_by : (A : Arch) (i : Bits) (m : Words) (k : ℕ) (o : Option TurnsTree) → phase.turns ≡ o → TurnsFit S T b p o → SuitsArch T A → IsOf (word_width S T) i →
      k < 256 → SuitsWords S T b p (suc p) m → SuitsWords S T b p (suc p) (stepped T b A i p o m k)
  stepped_by A i m k None is fit old word small suits = suits
  stepped_by A i m k (Some t) is fit old word small suits = record {
    loaded = suits.loaded;
    turned = with_again turns p m.turned (table_vector (class_names T b A i m (Some k)) t.step) suits.turned
        (subst (λ o. SuitsForm o (table_vector (class_names T b A i m (Some k)) t.step)) (sym (turns_here ∙ ap (λ o. turned_form (Some (record phase { turns = o }))) is)) (fit.step A i m k old word suits small));
  }

  pub stepped_fits : (A : Arch) (i : Bits) (m : Words) (k : ℕ) → TurnsFit S T b p phase.turns → SuitsArch T A → IsOf (word_width S T) i →
      k < 256 → SuitsWords S T b p (suc p) m → SuitsWords S T b p (suc p) (stepped T b A i p phase.turns m k)
  stepped_fits A i m k fit old word small suits = stepped_by A i m k phase.turns refl fit old word small suits

  -- the word that the phase takes
  loads_by : (access : AccessTree) → phase.access ≡ access → loads p ≡ (if takes_word access then mapped vector_form (role_width S T.roles.loaded) else None)
  loads_by access is = loads_here ∙ ap (λ a. if takes_word a then mapped vector_form (role_width S T.roles.loaded) else None) is

  answer_by : (m : Words) (answer : Answer) (access : AccessTree) → phase.access ≡ access →
      (takes_word access ≡ true → SuitsForm (mapped vector_form (role_width S T.roles.loaded)) (Some answer.loaded)) →
      SuitsWords S T b p (suc p) m → SuitsWords S T b (suc p) (suc p) (with_answer access p answer m)
  answer_by m answer idle_row is fit suits = record { loaded = with_none loads p m.loaded suits.loaded (loads_by idle_row is); turned = suits.turned }
  answer_by m answer take_row is fit suits =
      record { loaded = with_new loads p m.loaded (Some answer.loaded) suits.loaded (subst (λ o. SuitsForm o (Some answer.loaded)) (sym (loads_by take_row is)) (fit refl)); turned = suits.turned }
  answer_by m answer (load_row adr byte) is fit suits =
      record { loaded = with_new loads p m.loaded (Some answer.loaded) suits.loaded (subst (λ o. SuitsForm o (Some answer.loaded)) (sym (loads_by (load_row adr byte) is)) (fit refl)); turned = suits.turned }
  answer_by m answer (store_row adr byte word) is fit suits = record { loaded = with_none loads p m.loaded suits.loaded (loads_by (store_row adr byte word) is); turned = suits.turned }
  answer_by m answer (fetch_row adr) is fit suits = record { loaded = with_none loads p m.loaded suits.loaded (loads_by (fetch_row adr) is); turned = suits.turned }

  pub answer_fits : (m : Words) (answer : Answer) →
      (takes_word phase.access ≡ true → SuitsForm (mapped vector_form (role_width S T.roles.loaded)) (Some answer.loaded)) →
      SuitsWords S T b p (suc p) m → SuitsWords S T b (suc p) (suc p) (with_answer phase.access p answer m)
  answer_fits m answer fit suits = answer_by m answer phase.access refl fit suits

pub small_count : (S : SourceTree) (T : TableTree) (b : InsideTree) (p : ℕ) (turns : Option TurnsTree) (k : ℕ) → TurnsFit S T b p turns → k < times_of turns → k < 256
small_count S T b p None k fit below = omega arith
small_count S T b p (Some t) k fit below = let most : t.times ≤ 255 = fit.few in omega arith

pub some_turns : (S : SourceTree) (T : TableTree) (b : InsideTree) (p : ℕ) (turns : Option TurnsTree) → TurnsFit S T b p turns → 1 ≤ times_of turns
some_turns S T b p None fit = omega arith
some_turns S T b p (Some t) fit = fit.some
