use Rattle.std.proofs.Common.{refl, sym, ◌∙◌}
use Rattle.tab_parse.specs.Placed.{fetch_at}
use Rattle.tab_parse.specs.Grammar.{idle, fetched}
use Rattle.tab_parse.proofs.Exits.{want}
use Rattle.tab_parse.proofs.Parts.{access_fetch, access_none}
use Rattle.tab_parse.proofs.phases.take_fetch.Goals as goal

pub returns-in_err-adr-in-Some-clause-whole : goal.returns-in_err-adr-in-Some-clause-whole
returns-in_err-adr-in-Some-clause-whole c =
    λ access rest h ends.
    let p = access_fetch h ends c.in-Some.ensures.ok in
    want _ _ _ c.from_residual.result _ c.from_residual.ensures.1 (c.in_err-adr-in-Some.ensures.whole p.adr rest p.read ends.byte.stops)

pub returns-in_ok-adr-in-Some-clause-ok : goal.returns-in_ok-adr-in-Some-clause-ok
returns-in_ok-adr-in-Some-clause-ok c = fetched _ _ c.in-Some.ensures.ok c.in_ok-adr-in-Some.ensures.ok refl

pub returns-in_ok-adr-in-Some-clause-whole : goal.returns-in_ok-adr-in-Some-clause-whole
returns-in_ok-adr-in-Some-clause-whole c =
    λ access rest h ends.
    let p = access_fetch h ends c.in-Some.ensures.ok in
    let s0 = c.in_ok-adr-in-Some.ensures.whole p.adr rest p.read ends.byte.stops in
    ((λ i. fetch_at (s0.0 i)) ∙ sym p.is, s0.1)

pub returns-in-None-clause-ok : goal.returns-in-None-clause-ok
returns-in-None-clause-ok c = idle refl refl

pub returns-in-None-clause-whole : goal.returns-in-None-clause-whole
returns-in-None-clause-whole c = λ access rest h ends. access_none h c.requires.no_load c.requires.no_store c.in-None.ensures.ok
