use Rattle.std.proofs.Common.{List, get_or, ap, ◌∙◌}
use Rattle.tab_tree.specs.declared.table.Class.{Class}
use Rattle.tab_tree.specs.Table.{class_tree, inside_tree}
use Rattle.tab_mach.proofs.Steps.{class_at}
use Rattle.tab_mach.proofs.stepping.step_class.Goals as goal

pub step_inside-requires-clause-class : goal.step_inside-requires-clause-class
step_inside-requires-clause-class c =
    let item = c.index-items-number.result in
    let at = class_at c.args.table.now.classes c.args.number item c.requires.within (c.index-items-number.is ∙ ap (λ (cs : List Class). get_or cs c.args.number item) c.items.ensures) in
    record { number = c.args.number; class = class_tree item; first = c.requires.first (class_tree item) at; inside = ap (λ (x : Class). inside_tree x.inside) c.index-items-number.is ∙ ap inside_tree c.in-Some.is }

pub returns-in-None : goal.returns-in-None
returns-in-None c =
    let item = c.index-items-number.result in
    let at = class_at c.args.table.now.classes c.args.number item c.requires.within (c.index-items-number.is ∙ ap (λ (cs : List Class). get_or cs c.args.number item) c.items.ensures) in
    record { class = class_tree item; first = c.requires.first (class_tree item) at; outside = ap (λ (x : Class). inside_tree x.inside) c.index-items-number.is ∙ ap inside_tree c.in-None.is }
