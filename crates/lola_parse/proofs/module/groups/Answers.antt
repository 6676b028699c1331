use Rattle.std.proofs.Common.{refl, arith}
use Rattle.lola_parse.specs.declared.symbol.Symbol.TheVariants as s
use Rattle.lola_parse.proofs.Fronts.{stands, Stands-shorter}
use Rattle.lola_parse.specs.Design.{MoreGroups, no_group, one_group}
use Rattle.lola_parse.proofs.Whole.{handed_on, not_front}
use Rattle.lola_parse.proofs.Steps.{was_read, by_read}
use Rattle.lola_parse.proofs.Modules.{more_groups_step, more_groups_over, Groups_then}
use Rattle.lola_parse.proofs.module.groups.Goals as goal

pub groups-preserved : goal.groups-preserved
groups-preserved c =
    let semicolon = (stands c.groups.behind c.next-next.result s.Semicolon c.next-next.ensures c.in-Semicolon.is refl) in
    let before = c.groups.invariant.shorter in
    let passed = Stands-shorter semicolon in
    let directed = c.said_way-said.ensures.shorter in
    let now = c.in_ok-longer-in-Semicolon.ensures.shorter in
    record {
      shorter = omega arith;
      whole = λ ports rest d ends.
          let w = more_groups_step (c.groups.invariant.whole ports rest d ends) ends semicolon in
          let x = was_read (λ next mid. Groups_then next c.groups.ports.items ports rest mid) w c.said_way-said.ensures.whole in
          was_read (λ longer mid. MoreGroups c.said_way-said.result.0 longer mid ports rest) x c.in_ok-longer-in-Semicolon.ensures.whole;
      reads = λ ports rest more.
          c.groups.invariant.reads ports rest (one_group _ _ _ semicolon c.said_way-said.ensures.ok c.in_ok-longer-in-Semicolon.ensures.ok more);
    }

pub returns-in_default-clause-shorter : goal.returns-in_default-clause-shorter
returns-in_default-clause-shorter c = c.groups.invariant.shorter

pub returns-in_default-clause-ok : goal.returns-in_default-clause-ok
returns-in_default-clause-ok c = c.groups.invariant.reads _ _ (no_group refl refl)

pub returns-in_err-longer-in-Semicolon-clause-whole : goal.returns-in_err-longer-in-Semicolon-clause-whole
returns-in_err-longer-in-Semicolon-clause-whole c = λ ports rest d ends. let w = more_groups_step (c.groups.invariant.whole ports rest d ends) ends (stands c.groups.behind c.next-next.result s.Semicolon c.next-next.ensures c.in-Semicolon.is refl) in let x = was_read _ w c.said_way-said.ensures.whole in handed_on _ _ rest _ _ c.from_residual-in_err-longer-in-Semicolon.ensures.1 (by_read x c.in_err-longer-in-Semicolon.ensures.whole)

pub returns-in_default-clause-whole : goal.returns-in_default-clause-whole
returns-in_default-clause-whole c = λ ports rest d ends. more_groups_over (c.groups.invariant.whole ports rest d ends) (not_front c.groups.behind c.next-next.result c.next-next.ensures c.in_default.not-Semicolon)
