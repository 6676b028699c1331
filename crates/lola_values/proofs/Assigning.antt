-- The values that a well sized design assigns fit their widths.
use Rattle.std.proofs.Common.{◌≡◌, ℕ, List, reverse, Option, Some, ◌^◌, ◌<◌}
use Rattle.std.specs.List.{AllByRecursion}
use Rattle.lola_bits.specs.Lists.{IsIn}
use Rattle.lola_bits.proofs.All.{of_all}
use Rattle.lola_tree.specs.Tree.{Tree, ActualTree, assignment, SourceTree}
use Rattle.lola_tree.specs.Names.{names_of}
use Rattle.lola_tree.specs.Width.{scope_of, width}
use Rattle.lola_tree.specs.Value.{Values, value}
use Rattle.lola_tree.specs.Cycle.{names_at}
use Rattle.lola_tree.specs.design.Places.{Place, places}
use Rattle.lola_tree.specs.design.Chains.{names_in, arrays_in, paths_of}
use Rattle.lola_design.specs.Regular.{ReadsSuit}
use Rattle.lola_regular.specs.Clocked.{seen_behind, AreClocked}
use Rattle.lola_regular.specs.Written.{IsWrittenStmt, IsWrittenModule}
use Rattle.lola_regular.proofs.Clean.{AllClean}
use Rattle.lola_values.proofs.Standing.{all_stand}
use Rattle.lola_values.proofs.Reading.{the_clock}
use Rattle.lola_regular.proofs.PadsPassed.{stmt_free}
use Rattle.lola_values.proofs.Sides.{assigned_clean}
use Rattle.lola_values.proofs.Known.{NumbersAll}
use Rattle.lola_values.proofs.Fitting.{expression_fits}

pub assigned_fits : NumbersAll → (S : SourceTree) → AllClean (reverse S.modules) → AllByRecursion IsWrittenModule (reverse S.modules) → AreClocked (reverse S.modules) → (a : Place) → IsIn a (places S) →
    (name : List ℕ) (place : Option ActualTree) (e : Tree) (at equals : ℕ) → IsIn (assignment name place e at equals) a.module_.body → (v : Values) →
    ReadsSuit S (paths_of a.path (names_in (scope_of a.module_) e)) (paths_of a.path (arrays_in e)) v → (w : ℕ) → width (scope_of a.module_) e ≡ Some w → value (scope_of a.module_) e (names_at a.path v) < 2 ^ w
assigned_fits numbers S clean written clocked a there name place e at equals said v suit w wide =
    let k = all_stand S clean written clocked a there in
    let t = assignment name place e at equals in
    let good = of_all IsWrittenStmt t a.module_.body k.stands.written said in
    let none = stmt_free (names_of a.module_) (seen_behind k.stands.earlier) (the_clock S a.module_ a.path a.clocks k.stands) a.module_.body k.stands.clean.body t said in
    let expr = assigned_clean S (names_of a.module_) (seen_behind k.stands.earlier) (the_clock S a.module_ a.path a.clocks k.stands) name place e at equals none in
    (expression_fits numbers S a.module_ a.path a.clocks k.stands v e suit good.1 expr w wide).below
