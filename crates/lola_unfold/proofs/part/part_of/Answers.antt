use Rattle.std.proofs.Common.{ℕ, List, flat_map, refl, ap, ◌∙◌}
use Rattle.lola_tree.specs.declared.module.Local.{Local}
use Rattle.lola_tree.specs.Tree.{module_tree}
use Rattle.lola_tree.specs.Signals.{register_names}
use Rattle.lola_unfold.specs.Tables.{Called, calls_in, args_or_none, clocks_with, clocks_by, no_clock}
use Rattle.lola_unfold.specs.Measured.{outline_of, outline_ports}
use Rattle.lola_unfold.proofs.Tables.{called_args, clocks_are}
use Rattle.lola_unfold.proofs.Knowing.{module_clocks}
use Rattle.lola_unfold.proofs.part.part_of.Goals as goal

pub returns : goal.returns
returns c = λ E known.
    let m = module_tree c.args.«module».now in
    let ports = λ (other : List ℕ). outline_ports (outline_of c.args.known.now other) in
    let args = λ (other : List ℕ). args_or_none (calls_in c.in_ok-calls.calls other) in
    let called = λ (name : List ℕ). ap (λ (f : Called). args_or_none (f name)) c.in_ok-calls.ensures ∙ called_args m.body name in
    record {
      is = refl;
      names = c.in_ok-names.ensures;
      calls = called;
      clocks =
          c.in_ok-clocks.ensures ∙ ap (λ (ls : List Local). clocks_with no_clock (flat_map (λ (l : Local). clocks_by ports args l.name l.kind) ls)) c.items.ensures
          ∙ module_clocks E m ports args known.ports called;
      registers =
          c.in_ok-registers.ensures ∙ ap (λ (ls : List Local). clocks_with no_clock (register_names ls)) c.items-2.ensures ∙ clocks_are (register_names m.locals);
    }
