use Rattle.std.proofs.Common.{Some, refl, sym, ◌∙◌}
use Rattle.tab_parse.specs.Grammar.{no_fetch, one_fetch}
use Rattle.tab_parse.proofs.Exits.{want}
use Rattle.tab_parse.proofs.TableEnds.{fetch_there, fetch_none}
use Rattle.tab_parse.proofs.table.take_start_fetch.Goals as goal

pub returns-in_err-adr-in-Some-clause-whole : goal.returns-in_err-adr-in-Some-clause-whole
returns-in_err-adr-in-Some-clause-whole c =
    λ e rest h ends.
    let p = fetch_there h ends c.in-Some.ensures.ok in
    want _ _ _ c.from_residual.result _ c.from_residual.ensures.1 (c.in_err-adr-in-Some.ensures.whole p.e rest p.read tt)

pub returns-in_ok-adr-in-Some-clause-ok : goal.returns-in_ok-adr-in-Some-clause-ok
returns-in_ok-adr-in-Some-clause-ok c = one_fetch _ _ c.in-Some.ensures.ok c.in_ok-adr-in-Some.ensures.ok refl

pub returns-in_ok-adr-in-Some-clause-whole : goal.returns-in_ok-adr-in-Some-clause-whole
returns-in_ok-adr-in-Some-clause-whole c =
    λ e rest h ends.
    let p = fetch_there h ends c.in-Some.ensures.ok in
    let s0 = c.in_ok-adr-in-Some.ensures.whole p.e rest p.read tt in
    ((λ i. Some (s0.0 i)) ∙ sym p.is, s0.1)

pub returns-in-None-clause-ok : goal.returns-in-None-clause-ok
returns-in-None-clause-ok c = no_fetch refl refl

pub returns-in-None-clause-whole : goal.returns-in-None-clause-whole
returns-in-None-clause-whole c = λ e rest h ends. fetch_none h c.in-None.ensures.ok
