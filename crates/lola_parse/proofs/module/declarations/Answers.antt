use Rattle.std.proofs.Common.{refl, arith}
use Rattle.lola_parse.specs.declared.symbol.Symbol.TheVariants as s
use Rattle.lola_parse.proofs.Fronts.{stands, Stands-shorter}
use Rattle.lola_parse.specs.Design.{Declarations, no_declaration, with_constants, with_registers, with_variables}
use Rattle.lola_parse.proofs.Whole.{handed_on, not_front}
use Rattle.lola_parse.proofs.Steps.{was_read, by_read}
use Rattle.lola_parse.proofs.Modules.{declarations_constants, declarations_registers, declarations_variables, declarations_over}
use Rattle.lola_parse.proofs.module.declarations.Goals as goal

pub parts-preserved-in-Const : goal.parts-preserved-in-Const
parts-preserved-in-Const c =
    let word = (stands c.parts.behind c.next-next.result s.Const c.next-next.ensures c.in-Const.is refl) in
    let before = c.parts.invariant.shorter in
    let passed = Stands-shorter word in
    let now = c.in_ok-longer-in-Const.ensures.shorter in
    record {
      shorter = omega arith;
      whole = λ consts locals rest d ends. was_read (λ longer mid. Declarations longer c.parts.locals.items mid consts locals rest) (declarations_constants (c.parts.invariant.whole consts locals rest d ends) ends word) c.in_ok-longer-in-Const.ensures.whole;
      reads = λ consts locals rest more. c.parts.invariant.reads consts locals rest (with_constants _ _ word c.in_ok-longer-in-Const.ensures.ok more);
    }

pub parts-preserved-in-Reg : goal.parts-preserved-in-Reg
parts-preserved-in-Reg c =
    let word = (stands c.parts.behind c.next-next.result s.Reg c.next-next.ensures c.in-Reg.is refl) in
    let before = c.parts.invariant.shorter in
    let passed = Stands-shorter word in
    let now = c.in_ok-longer-in-Reg.ensures.shorter in
    record {
      shorter = omega arith;
      whole = λ consts locals rest d ends. was_read (λ longer mid. Declarations c.parts.consts.items longer mid consts locals rest) (declarations_registers (c.parts.invariant.whole consts locals rest d ends) ends word) c.in_ok-longer-in-Reg.ensures.whole;
      reads = λ consts locals rest more. c.parts.invariant.reads consts locals rest (with_registers _ _ word c.in_ok-longer-in-Reg.ensures.ok more);
    }

pub parts-preserved : goal.parts-preserved
parts-preserved c =
    let word = (stands c.parts.behind c.next-next.result s.Var c.next-next.ensures c.in-Var.is refl) in
    let before = c.parts.invariant.shorter in
    let passed = Stands-shorter word in
    let now = c.in_ok-longer-in-Var.ensures.shorter in
    record {
      shorter = omega arith;
      whole = λ consts locals rest d ends. was_read (λ longer mid. Declarations c.parts.consts.items longer mid consts locals rest) (declarations_variables (c.parts.invariant.whole consts locals rest d ends) ends word) c.in_ok-longer-in-Var.ensures.whole;
      reads = λ consts locals rest more. c.parts.invariant.reads consts locals rest (with_variables _ _ word c.in_ok-longer-in-Var.ensures.ok more);
    }

pub returns-in_default-clause-shorter : goal.returns-in_default-clause-shorter
returns-in_default-clause-shorter c = c.parts.invariant.shorter

pub returns-in_default-clause-ok : goal.returns-in_default-clause-ok
returns-in_default-clause-ok c = c.parts.invariant.reads _ _ _ (no_declaration refl refl refl)

pub returns-in_err-longer-in-Const-clause-whole : goal.returns-in_err-longer-in-Const-clause-whole
returns-in_err-longer-in-Const-clause-whole c = λ p rest d ends. handed_on _ _ rest _ _ c.from_residual.ensures.1 (by_read (declarations_constants (c.parts.invariant.whole p.0 p.1 rest d ends) ends (stands c.parts.behind c.next-next.result s.Const c.next-next.ensures c.in-Const.is refl)) c.in_err-longer-in-Const.ensures.whole)

pub returns-in_err-longer-in-Reg-clause-whole : goal.returns-in_err-longer-in-Reg-clause-whole
returns-in_err-longer-in-Reg-clause-whole c = λ p rest d ends. handed_on _ _ rest _ _ c.from_residual-in_err-longer-in-Reg.ensures.1 (by_read (declarations_registers (c.parts.invariant.whole p.0 p.1 rest d ends) ends (stands c.parts.behind c.next-next.result s.Reg c.next-next.ensures c.in-Reg.is refl)) c.in_err-longer-in-Reg.ensures.whole)

pub returns-in_err-longer-in-Var-clause-whole : goal.returns-in_err-longer-in-Var-clause-whole
returns-in_err-longer-in-Var-clause-whole c = λ p rest d ends. handed_on _ _ rest _ _ c.from_residual-in_err-longer-in-Var.ensures.1 (by_read (declarations_variables (c.parts.invariant.whole p.0 p.1 rest d ends) ends (stands c.parts.behind c.next-next.result s.Var c.next-next.ensures c.in-Var.is refl)) c.in_err-longer-in-Var.ensures.whole)

pub returns-in_default-clause-whole : goal.returns-in_default-clause-whole
returns-in_default-clause-whole c = λ p rest d ends. let same = declarations_over (c.parts.invariant.whole p.0 p.1 rest d ends) (not_front c.parts.behind c.next-next.result c.next-next.ensures c.in_default.not-Const) (not_front c.parts.behind c.next-next.result c.next-next.ensures c.in_default.not-Reg) (not_front c.parts.behind c.next-next.result c.next-next.ensures c.in_default.not-Var) in (λ i. (same.0 i, same.1 i), same.2)
