use Rattle.std.proofs.Common.{ap}
use Rattle.std.specs.Prelude.{Err}
use Rattle.lola_app.proofs.Decided.{decided_of, few_seen, small_face, triable}
use Rattle.lola_app.proofs.texts.decide_texts.Goals as goal

pub table_claim-requires-clause-few : goal.table_claim-requires-clause-few
table_claim-requires-clause-few c = few_seen c.in-Ok.ensures.ok.S c.in-Ok.design c.in_ok-face.face c.in-Ok.ensures.ok.elaborated c.in_ok-face.ensures

pub returns-in-Err-NotBuilt : goal.returns-in-Err-NotBuilt
returns-in-Err-NotBuilt c = record {
  S = c.in-Ok.ensures.ok.S;
  design = c.in-Ok.ensures.ok.accepts;
  none = λ T fitting. c.in-Err-NotBuilt.ensures.none (ap (λ f. Err f) c.in-Err-NotBuilt.field-0-is) T fitting.spelled
      (small_face c.in-Ok.ensures.ok.S c.in-Ok.design c.in_ok-face.face T c.in-Ok.ensures.ok.elaborated c.in_ok-face.ensures fitting.fits);
}

pub try_claim-requires : goal.try_claim-requires
try_claim-requires c =
    triable c.args.source.now c.args.table.now c.in-Ok.design c.in_ok-face.face c.in-Ok-table_claim.claim c.in_ok-subject.subject c.in-Ok.ensures.ok c.in_ok-face.ensures c.in-Ok-table_claim.ensures.ok
    c.in-Ok-table_claim.ensures.face c.in_ok-subject.ensures.same c.in_ok-subject.ensures.named c.in_ok-subject.ensures.bit c.in_ok-subject.ensures.widths

pub returns : goal.returns
returns c =
    decided_of c.args.source.now c.args.table.now c.in-Ok.design c.in_ok-face.face c.in-Ok-table_claim.claim c.in_ok-subject.subject c.in-Ok.ensures.ok c.in_ok-face.ensures c.in-Ok-table_claim.ensures.ok
    c.in-Ok-table_claim.ensures.face c.in_ok-subject.ensures.same c.in_ok-subject.ensures.named c.in_ok-subject.ensures.bit
    c.one_cycle.ensures c.next_is_a_state.ensures c.headline.ensures _ c.try_claim.ensures
