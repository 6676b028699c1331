-- A fitting table on a design whose cycles lead to states has what the theorem uses.
use Rattle.std.proofs.Common.{◌≡◌, ◌≢◌, ℕ, refl, Option, Some, None}
use Rattle.std.specs.Prelude.{is_some, List}
use Rattle.lola_bits.specs.declared.vector.Bits.{Bits}
use Rattle.lola_tree.specs.Tree.{SourceTree}
use Rattle.lola_tree.specs.Value.{Values, or_zero}
use Rattle.lola_tree.specs.design.Cycle.{IsState, IsGiven, Cycle, Next}
use Rattle.tab_tree.specs.Table.{TableTree}
use Rattle.tab_tree.specs.Names.{vector_form, mapped}
use Rattle.tab_tree.specs.Headline.{shown, shown_word, answer_of}
use Rattle.tab_tree.specs.Placed.{word_width, role_width}
use Rattle.tab_tree.specs.Suits.{IsOf, SuitsArch, SuitsRole, SuitsAnswer}
use Rattle.tab_tree.specs.Fits.{IsInRole, IsFitting}
use Rattle.obl_def.specs.Valuation.{SuitsForm}
use Rattle.proc_check.proofs.Basis.{Basis}
use Rattle.proc_check.proofs.Classes.{HaveVectors, HaveForms, classes_fit}

none_too : {X Y : Type 0} (o : Option X) (p : Option Y) → is_some o ≡ is_some p → o ≡ None → p ≡ None
none_too None None e none = refl
none_too None (Some y) e none = absurd (cc)
none_too (Some x) p e none = absurd (let f : Some x ≡ None = none in cc)

wide_role : (o : Option ℕ) (x : Bits) → o ≢ None → IsOf (or_zero o) x → SuitsForm (mapped vector_form o) (Some x)
wide_role None x some h = absurd (some refl)
wide_role (Some w) x some h = h

role_suits : (S : SourceTree) (o : Option (List ℕ)) (x : Bits) → IsInRole S o → o ≢ None → SuitsRole S o x → SuitsForm (mapped vector_form (role_width S o)) (Some x)
role_suits S None x is some suits = absurd (some refl)
role_suits S (Some port) x is some suits = wide_role _ x is.vector suits

module _ (S : SourceTree) (T : TableTree) (fit : IsFitting S T) where
  pub based : HaveVectors → HaveForms S T → ((s inp v s' : Values) → IsState S s → IsGiven S inp → Cycle S s inp v → Next S v s' → IsState S s') →
      ((s : Values) → IsState S s → SuitsArch T (shown S T s)) → ((s : Values) → IsState S s → IsOf (word_width S T) (shown_word S T s)) →
      ((inp : Values) → IsGiven S inp → SuitsAnswer S T (answer_of S T inp)) → Basis S T
  based vectors forms keeps states word answer = record {
    keeps = keeps;
    states = states;
    word = word;
    loaded = λ inp given some. role_suits S T.roles.loaded (answer_of S T inp).loaded fit.roles.loaded some (answer inp given).loaded;
    classes = classes_fit vectors S T forms fit;
    code = none_too T.roles.code T.roles.fetched fit.roles.code;
  }
