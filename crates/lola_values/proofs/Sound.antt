-- Expressions without faults, at a path: they have widths, their values fit them, and they read no place past an array.
use Rattle.std.proofs.Common.{◌≡◌, ℕ, List, [], Option, sym, subst}
use Rattle.lola_tree.specs.Names.{names_of}
use Rattle.lola_tree.specs.Tree.{Tree, ModuleTree, SourceTree}
use Rattle.lola_tree.specs.Value.{Path, Values, value}
use Rattle.lola_tree.specs.Width.{scope_of, width}
use Rattle.lola_tree.specs.Cycle.{names_at, FitsIn}
use Rattle.lola_tree.specs.design.Chains.{names_in, arrays_in, paths_of}
use Rattle.lola_width.specs.NameFaults.{expr_faults}
use Rattle.lola_width.specs.WidthFaults.{expr_widths}
use Rattle.lola_design.specs.Regular.{ReadsSuit, AreWithin}
use Rattle.lola_regular.specs.Clocked.{seen_behind}
use Rattle.lola_regular.specs.Written.{IsWrittenTree}
use Rattle.lola_values.proofs.Standing.{Stands}
use Rattle.lola_values.proofs.Reading.{the_clock}
use Rattle.lola_values.proofs.Known.{Known, NumbersAll}
use Rattle.lola_values.proofs.Wide.{expression_known}
use Rattle.lola_values.proofs.Lefts.{PathsOnce}
use Rattle.lola_values.proofs.Fitting.{expression_fits, elements_within}

pub record IsSound (S : SourceTree) (m : ModuleTree) (p : Path) (clocks : List (List ℕ)) (s : Stands S m p clocks) (e : Tree) : Type 0 where
  pub written : IsWrittenTree e
  pub free : expr_faults (names_of m) (the_clock S m p clocks s) e ≡ []
  pub sized : expr_widths (scope_of m) e ≡ []

module _ (numbers : NumbersAll) (S : SourceTree) (m : ModuleTree) (p : Path) (clocks : List (List ℕ)) (s : Stands S m p clocks) (e : Tree) (good : IsSound S m p clocks s e) where
  pub sound_known : Known (width (scope_of m) e)
  sound_known = expression_known numbers (seen_behind s.earlier) m s.clean e good.written good.free good.sized

  module _ (v : Values) (suit : ReadsSuit S (paths_of p (names_in (scope_of m) e)) (paths_of p (arrays_in e)) v) where
    pub sound_fits : FitsIn (width (scope_of m) e) (value (scope_of m) e (names_at p v))
    sound_fits =
        let k = sound_known in
        subst (λ (o : Option ℕ). FitsIn o (value (scope_of m) e (names_at p v))) (sym k.2) (expression_fits numbers S m p clocks s v e suit good.written good.free k.0 k.2).below

    pub sound_within : PathsOnce S → AreWithin S m p v e
    sound_within once = let k = sound_known in elements_within numbers S m p clocks s v e suit once good.written good.free k.0 k.2
