use Rattle.std.proofs.Common.{◌≡◌, ◌∙◌, sym, ap, drop, ◌+◌, ◌∷◌, arith, List, ℕ}
use Rattle.lola_bits.proofs.Places.{drop_item}
use Rattle.lola_tree.specs.declared.module.Local.{Local}
use Rattle.lola_tree.specs.Signals.{name_of_register, register_names}
use Rattle.lola_unfold.specs.Tables.{Among, clocks_found, clocks_with, no_clock}
use Rattle.lola_unfold.proofs.Tables.{clocks_append}
use Rattle.lola_unfold.proofs.part.registers_of.Goals as goal

-- one name more
step : (old new all : Among) (l : Local) (ls more : List Local) → ls ≡ l ∷ more → new ≡ clocks_with old (name_of_register l.kind l.name) → clocks_with old (register_names ls) ≡ all → clocks_with new (register_names more) ≡ all
step old new all l ls more cut is before =
    ap (λ (c : Among). clocks_with c (register_names more)) is ∙ sym (clocks_append old (name_of_register l.kind l.name) (register_names more)) ∙ sym (ap (λ (xs : List Local). clocks_with old (register_names xs)) cut) ∙ before

pub loop-local-init : goal.loop-local-init
loop-local-init c = ap (λ (a : Among). clocks_with a (register_names c.args.locals.now)) c.new-registers.ensures

pub loop-local-preserved : goal.loop-local-preserved
loop-local-preserved c =
    let locals = c.args.locals.now in
    step (clocks_found c.loop-local.registers) (clocks_found c.add_register.new.registers) (clocks_with no_clock (register_names locals)) c.local-item.result (drop c.loop-local.local-index locals)
    (drop (c.loop-local.local-index + 1) locals) (drop_item locals c.loop-local.local-index c.local-item.result (omega arith) c.local-item.is)
    (c.in_ok-add_register.ensures ∙ ap (λ (n : List ℕ). clocks_with (clocks_found c.loop-local.registers) (name_of_register c.local-item.result.kind n)) c.text.ensures)
    c.loop-local.invariant
