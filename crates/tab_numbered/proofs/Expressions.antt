-- An expression over signals has the width and the number of the one over names.
use Rattle.std.proofs.Common.{◌≡◌, ℕ, ◌<◌, List, Option, Some, sym, ◌∙◌, ap, subst}
use Rattle.lola_bits.proofs.Lists.{to_map}
use Rattle.lola_bits.proofs.Options.{nothing}
use Rattle.lola_tree.specs.declared.named.Ref.{Ref}
use Rattle.lola_tree.specs.Tree.{Tree}
use Rattle.lola_tree.specs.Width.{Scope, width}
use Rattle.lola_tree.specs.Value.{value, or_zero}
use Rattle.lola_tree.specs.design.Chains.{names_in, elements_in, arrays_in}
use Rattle.lola_flat.specs.Value.{Env}
use Rattle.lola_flat.specs.Value as flat
use Rattle.lola_width.specs.Said.{NumbersElements}
use Rattle.lola_values.proofs.Below.{value_fits}
use Rattle.lola_renamed.specs.Renamed.{Meant, small, renamed}
use Rattle.lola_renamed.specs.Reads.{Among, AreRead, AreIndexed, FitsIn, Widens, Reads, AreInside}
use Rattle.lola_renamed.proofs.Copies.{small_is}
use Rattle.tab_tree.specs.declared.value.StateValue.{StateValue}
use Rattle.tab_tree.specs.Names.{Form, Names, look, scope_by, number_at, table_number}
use Rattle.obl_def.specs.Forms.{HasFormAt, AreOf}
use Rattle.obl_def.proofs.Looking.{look_by}
use Rattle.tab_numbered.specs.Numbered.{numbered}
use Rattle.tab_numbered.specs.Rows.{HasRowAt, AreRows, HoldsAt, HoldValues}
use Rattle.tab_numbered.proofs.Signals.{vector_fits, array_is, form_count, count_is, element_fits, number_fits, vector_held, element_held}

pub row_at : (W : Env ℕ) (forms : Names Form) (numbers : Names ℕ) → AreRows W forms numbers → (r : Ref) → HasRowAt W (look forms r) (look numbers r)
row_at W forms numbers rows r =
    look_by (HasRowAt W) forms numbers (record { word = rows.word; count = rows.count; loaded = rows.loaded; turned = rows.turned; named = rows.named; register = rows.register }) r

pub held_at : (N : Env ℕ) (values : Names StateValue) (numbers : Names ℕ) → HoldValues N values numbers → (r : Ref) → HoldsAt N (look values r) (look numbers r)
held_at N values numbers holds r =
    look_by (HoldsAt N) values numbers (record { word = holds.word; count = holds.count; loaded = holds.loaded; turned = holds.turned; named = holds.named; register = holds.register }) r

-- the law of names that stand for values of their forms
abbrev pub HaveNumbers : Type 0
HaveNumbers = (forms : Names Form) (values : Names StateValue) → AreOf forms values → (e : Tree) (w : ℕ) → width (scope_by forms) e ≡ Some w →
    table_number values e ≡ value (scope_by forms) e (λ r n. number_at (look values r) n)

module _ (numbers_elements : (elements bits : ℕ) → NumbersElements elements bits) (W : Env ℕ) (forms : Names Form) (numbers : Names ℕ) (rows : AreRows W forms numbers) where
  abbrev scope : Scope
  scope = scope_by forms

  pub widens : (vectors arrays : List Ref) → Widens scope (numbered numbers) W (Among vectors) (Among arrays)
  widens vectors arrays = record {
    vector = λ r all w e. vector_fits W (look forms r) (look numbers r) (row_at W forms numbers rows r) w e;
    array = λ r there w k e f. array_is numbers_elements W (look forms r) (look numbers r) (row_at W forms numbers rows r) w k e f;
    count = λ c n e few. ap (λ (o : Option ℕ). small (or_zero o)) e ∙ small_is n few;
  }

  module _ (N : Env ℕ) (values : Names StateValue) (has_at : (r : Ref) → HasFormAt (look forms r) (look values r)) (holds : HoldValues N values numbers) where
    abbrev read : Ref → ℕ → ℕ
    read r n = number_at (look values r) n

    pub reads : (vectors arrays : List Ref) → Reads scope (numbered numbers) W N (Among vectors) (Among arrays) read
    reads vectors arrays = record {
      vector = λ r all w e. vector_held W N (look forms r) (look values r) (look numbers r) (has_at r) (held_at N values numbers holds r) w e;
      array = λ r there w k e f i inside. element_held N (look forms r) (look values r) (look numbers r) (has_at r) (held_at N values numbers holds r) w e i;
    }

    pub inside : (e : Tree) (w : ℕ) → width scope e ≡ Some w → AreInside scope e read
    inside e w wide =
        let fits = value_fits scope read (λ r. form_count numbers_elements (look forms r)) (λ r. Unit {0}) (λ r. Unit {0})
        (λ r p v q. number_fits (look forms r) (look values r) (has_at r) v q)
        (λ r c v q s. nothing c q)
        (λ r p k within v q. element_fits numbers_elements (look forms r) (look values r) (has_at r) k within v q)
        (λ r p k q. count_is numbers_elements (look forms r) k q)
        e (λ r is. tt) (λ a is. tt) w wide in
        λ a is k place. subst (λ (m : ℕ). value scope a.1 read < m) (count_is numbers_elements (look forms a.0) k place) (fits.1 a is)

  -- the laws of renamed expressions
  pub fitting : ((scope : Scope) (names : Meant) (W : Env ℕ) (vectors arrays : List Ref) → Widens scope names W (Among vectors) (Among arrays) → (e : Tree) → AreRead scope (Among vectors) e → AreIndexed (Among arrays) e → (w : ℕ) → width scope e ≡ Some w → FitsIn W (renamed names e) w) →
      (e : Tree) (w : ℕ) → width scope e ≡ Some w → FitsIn W (renamed (numbered numbers) e) w
  fitting law e w wide =
      law scope (numbered numbers) W (names_in scope e) (arrays_in e) (widens (names_in scope e) (arrays_in e)) e (λ r is. is) (λ a is. to_map (λ (b : Ref × Tree). b.0) a (elements_in e) is) w wide

  pub meaning : ((scope : Scope) (names : Meant) (W N : Env ℕ) (vectors arrays : List Ref) (read : Ref → ℕ → ℕ) → Widens scope names W (Among vectors) (Among arrays) → Reads scope names W N (Among vectors) (Among arrays) read →
      (e : Tree) → AreRead scope (Among vectors) e → AreIndexed (Among arrays) e → AreInside scope e read → (w : ℕ) → width scope e ≡ Some w → flat.value W N (renamed names e) ≡ value scope e read) → HaveNumbers →
      (N : Env ℕ) (values : Names StateValue) → AreOf forms values → ((r : Ref) → HasFormAt (look forms r) (look values r)) → HoldValues N values numbers →
      (e : Tree) (w : ℕ) → width scope e ≡ Some w → flat.value W N (renamed (numbered numbers) e) ≡ table_number values e
  meaning law have N values are has_at holds e w wide =
      law scope (numbered numbers) W N (names_in scope e) (arrays_in e) (λ r n. number_at (look values r) n) (widens (names_in scope e) (arrays_in e)) (reads N values has_at holds (names_in scope e) (arrays_in e))
      e (λ r is. is) (λ a is. to_map (λ (b : Ref × Tree). b.0) a (elements_in e) is) (inside N values has_at holds e w wide) w wide
      ∙ sym (have forms values are e w wide)
