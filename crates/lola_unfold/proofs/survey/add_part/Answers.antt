use Rattle.std.proofs.Common.{ℕ, List, cond, bytes_eq, Some, ap, ◌∙◌}
use Rattle.lola_tree.specs.Tree.{module_tree}
use Rattle.lola_unfold.specs.Measured.{outline_of}
use Rattle.lola_unfold.proofs.Knowing.{more_known}
use Rattle.lola_unfold.proofs.survey.add_part.Goals as goal

pub returns-clause-known : goal.returns-clause-known
returns-clause-known c = λ E known.
    let old = c.args.survey.now.known in
    more_known old c.add.new.self E (module_tree c.args.«module».now) c.in_ok-outline.outline known (c.in_ok-outline.ensures E known)
    (λ name. c.in_ok-add.ensures name ∙ ap (λ (n : List ℕ). cond (bytes_eq n name) (Some c.in_ok-outline.outline) (outline_of old name)) c.text.ensures)
