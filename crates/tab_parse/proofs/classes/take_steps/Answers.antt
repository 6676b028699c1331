use Rattle.tab_parse.proofs.Exits.{want}
use Rattle.std.proofs.Common.{map, ap, ◌∙◌}
use Rattle.tab_parse.specs.Placed.{let_at, phase_at, set_at}
use Rattle.tab_parse.proofs.ClassEnds.{phases_no_let, sets_no_phase}
use Rattle.tab_parse.proofs.classes.take_steps.Goals as goal

pub returns-in_err-lets-clause-whole : goal.returns-in_err-lets-clause-whole
returns-in_err-lets-clause-whole c =
    λ inside rest h ends.
    want _ _ _ c.from_residual.result _ c.from_residual.ensures.1 (c.in_err-lets.ensures.whole inside.lets h.first h.lets_read (phases_no_let h.phases_read))

pub returns-in_err-phases-clause-whole : goal.returns-in_err-phases-clause-whole
returns-in_err-phases-clause-whole c =
    λ inside rest h ends.
    let s0 = c.in_ok-lets.ensures.whole inside.lets h.first h.lets_read (phases_no_let h.phases_read) in
    want _ _ _ c.from_residual-in_err-phases.result _ c.from_residual-in_err-phases.ensures.1 (c.in_err-phases.ensures.whole inside.phases h.sets (rw s0.1 h.phases_read) (sets_no_phase h.sets_read ends.no_phase))

pub returns-in_err-sets-clause-whole : goal.returns-in_err-sets-clause-whole
returns-in_err-sets-clause-whole c =
    λ inside rest h ends.
    let s0 = c.in_ok-lets.ensures.whole inside.lets h.first h.lets_read (phases_no_let h.phases_read) in
    let s1 = c.in_ok-phases.ensures.whole inside.phases h.sets (rw s0.1 h.phases_read) (sets_no_phase h.sets_read ends.no_phase) in
    want _ _ _ c.from_residual-in_err-sets.result _ c.from_residual-in_err-sets.ensures.1 (c.in_err-sets.ensures.whole inside.sets rest (rw s1.1 h.sets_read) ends.no_set)

pub returns-clause-whole : goal.returns-clause-whole
returns-clause-whole c =
    λ inside rest h ends.
    let s0 = c.in_ok-lets.ensures.whole inside.lets h.first h.lets_read (phases_no_let h.phases_read) in
    let s1 = c.in_ok-phases.ensures.whole inside.phases h.sets (rw s0.1 h.phases_read) (sets_no_phase h.sets_read ends.no_phase) in
    let s2 = c.in_ok-sets.ensures.whole inside.sets rest (rw s1.1 h.sets_read) ends.no_set in
    ((λ i. record { lets = (ap (map let_at) c.of.ensures ∙ s0.0) i; phases = (ap (map phase_at) c.of-2.ensures ∙ s1.0) i; sets = (ap (map set_at) c.of-3.ensures ∙ s2.0) i }), s2.1)

pub returns-clause-ok : goal.returns-clause-ok
returns-clause-ok c = record {
  first = c.in_ok-lets.behind;
  sets = c.in_ok-phases.behind;
  lets_read = rw c.of.ensures c.in_ok-lets.ensures.ok;
  phases_read = rw c.of-2.ensures c.in_ok-phases.ensures.ok;
  sets_read = rw c.of-3.ensures c.in_ok-sets.ensures.ok;
}
