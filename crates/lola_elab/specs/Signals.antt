-- What is read of a module's declarations.
use Rattle.std.specs.Prelude.{◌≡◌, ℕ, List, map, length, None}
use Rattle.std.specs.BTreeMap.{get_by_text}
use Rattle.lola_tree.specs.Tree.{ModuleTree}
use Rattle.lola_elab.specs.declared.signals.Signals.{Signals}
use Rattle.lola_elab.specs.Small.{wide_in}
use Rattle.lola_elab.specs.Declares.{first_clock, sized, sized_local, const_entry, inputs_under, IsDeclaredUnder}
use Rattle.lola_elab.specs.Tables.{updated, leaf_entries}

-- the inputs and the registers of a module, and what its names stand for
pub record Declares (m : ModuleTree) (s : Signals) : Type 0 where
  pub declared : IsDeclaredUnder (wide_in m) (first_clock m.locals) m
  pub inputs : map sized s.inputs.items ≡ inputs_under (wide_in m) (first_clock m.locals) m.ports
  pub registers : map sized s.registers.items ≡ map (sized_local (wide_in m)) m.locals
  pub names : (q : List ℕ) → get_by_text s.names q ≡ updated (leaf_entries (length s.inputs.items) (map sized s.registers.items)) q
      (updated (leaf_entries 0 (map sized s.inputs.items)) q (updated (map const_entry m.consts) q None))
