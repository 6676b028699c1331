use Rattle.std.proofs.Common.{◌≡◌, refl, true, false, ◌∙◌, sym}
use Rattle.small_tree.specs.Table.{phase_tree}
use Rattle.lola_app.proofs.SetRows.{taken_on, taken_off}
use Rattle.lola_app.proofs.classes.taken_by.Goals as goal

pub returns-in-Some : goal.returns-in-Some
returns-in-Some c = record {
  plain = record {
    phase = phase_tree c.args.phase.now;
    one_phase = refl;
    linked = c.if-not-is_one.ensures.0 refl;
    loads = λ on. (c.in-Some.leaf, c.in-Some.is);
  };
  taken_is = taken_on c.args.phase.now.loads c.args.loaded c.in-Some.leaf c.if-phase.true c.in-Some.is;
}

pub returns-else-phase : goal.returns-else-phase
returns-else-phase c = record {
  plain = record {
    phase = phase_tree c.args.phase.now;
    one_phase = refl;
    linked = c.if-not-is_one.ensures.0 refl;
    loads = λ on. absurd (let f : true ≡ false = sym on ∙ c.if-phase.false in cc);
  };
  taken_is = taken_off c.args.phase.now.loads c.args.loaded c.if-phase.false;
}
