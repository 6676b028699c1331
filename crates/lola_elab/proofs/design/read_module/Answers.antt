use Rattle.std.proofs.Common.{◌≡◌, List, None, map, Err, ap, ap₂, subst, refl, sym, ◌∙◌}
use Rattle.std.specs.BTreeMap.{get_by_text}
use Rattle.lola_tree.specs.declared.module.Port.{Port}
use Rattle.lola_tree.specs.Tree.{module_tree}
use Rattle.lola_elab.specs.declared.fault.ElabError.{ElabError}
use Rattle.lola_elab.specs.declared.fault.ElabError.TheVariants.{NotBuilt}
use Rattle.lola_elab.specs.declared.vector.Vector.{Vector}
use Rattle.lola_elab.specs.Declares.{sized, wide_of, outputs}
use Rattle.lola_elab.specs.Tables.{updated}
use Rattle.lola_elab.specs.Elaborated.{vector_names}
use Rattle.lola_elab.specs.Assigned.{IsWellAssigned, HasNexts}
use Rattle.lola_elab.proofs.Tables.{are_vectors}
use Rattle.lola_elab.proofs.Whole.{table, elaborates, not_refused}
use Rattle.lola_elab.proofs.design.read_module.Goals as goal

pub nexts_of-requires : goal.nexts_of-requires
nexts_of-requires c = are_vectors (module_tree c.args.root.now) (get_by_text c.in-Ok.signals.names) (table (module_tree c.args.root.now) c.in-Ok.signals c.in-Ok.ensures.ok)

pub returns-in-Err-nexts_of-clause-none : goal.returns-in-Err-nexts_of-clause-none
returns-in-Err-nexts_of-clause-none c = λ was.
    let m = module_tree c.args.root.now in
    let names = get_by_text c.in-Ok.signals.names in
    let fault : c.in-Err-nexts_of.fault ≡ NotBuilt = cc in
    not_refused m c.in-Ok.signals c.in-Ok.ensures.ok (get_by_text c.in_ok-targets.targets)
    (λ q. c.in_ok-targets.ensures q ∙ ap₂ (λ (vs : List Vector) (ps : List Port). updated (map sized vs) q (updated (outputs (wide_of names) ps) q None)) c.as_slice.ensures.value c.items.ensures)
    (λ scope widths are well. c.in-Err-nexts_of.ensures.none (ap (λ (e : ElabError). Err e) fault) scope widths are
    (subst (λ (vs : List Vector). IsWellAssigned m names (get_by_text c.in_ok-targets.targets) scope (vector_names vs)) (sym c.as_slice-2.ensures.value) well))

pub returns-clause-ok : goal.returns-clause-ok
returns-clause-ok c =
    let m = module_tree c.args.root.now in
    let names = get_by_text c.in-Ok.signals.names in
    elaborates m c.in-Ok.signals c.in-Ok.ensures.ok (get_by_text c.in_ok-targets.targets)
    (λ q. c.in_ok-targets.ensures q ∙ ap₂ (λ (vs : List Vector) (ps : List Port). updated (map sized vs) q (updated (outputs (wide_of names) ps) q None)) c.as_slice.ensures.value c.items.ensures)
    (record { root = c.in_ok-from_str.field-0; inputs = c.in-Ok.signals.inputs; registers = c.in-Ok.signals.registers; nexts = c.in-Ok-nexts_of.nexts })
    (subst (λ (vs : List Vector). HasNexts m names (get_by_text c.in_ok-targets.targets) (vector_names vs) c.in-Ok-nexts_of.nexts.items) c.as_slice-2.ensures.value c.in-Ok-nexts_of.ensures.ok)
    (c.in_ok-from_str.ensures.ok ∙ c.text.ensures) refl refl
