use Rattle.std.proofs.Common.{List, map, sym, subst}
use Rattle.std.specs.List.{AllByRecursion}
use Rattle.std.specs.BTreeMap.{get_by_text}
use Rattle.std.specs.String.{string_bytes}
use Rattle.lola_bits.specs.Lists.{IsIn}
use Rattle.lola_tree.specs.declared.module.Stmt.{Stmt}
use Rattle.lola_tree.specs.Tree.{stmt_tree}
use Rattle.lola_elab.specs.declared.vector.Vector.{Vector}
use Rattle.lola_elab.specs.Small.{target_of}
use Rattle.lola_elab.specs.Assigned.{AreSized}
use Rattle.lola_elab.proofs.assigned.nexts_of.Goals as goal

pub returns-clause-none : goal.returns-clause-none
returns-clause-none c = λ was scope widths are well.
    c.nexts_in.ensures.none was (get_by_text c.args.targets.now) scope widths are
    (subst (λ (b : List Stmt). AreSized (get_by_text c.args.names.now) (get_by_text c.args.targets.now) scope (map stmt_tree b)) (sym c.items-body.ensures) well.values)
    (subst (λ (b : List Stmt). AllByRecursion (λ name. IsIn name (map target_of (map stmt_tree b))) (map (λ (v : Vector). string_bytes v.name) c.args.registers.now)) (sym c.items-body.ensures) well.registers_there)
