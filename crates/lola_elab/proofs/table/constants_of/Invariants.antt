use Rattle.std.proofs.Common.{◌≡◌, ◌↔◌, ℕ, List, map, drop, None}
use Rattle.std.specs.List.{AllByRecursion}
use Rattle.std.specs.BTreeMap.{get_by_text}
use Rattle.lola_elab.specs.Small.{IsSmallConst}
use Rattle.lola_elab.specs.Declares.{const_entry}
use Rattle.lola_elab.specs.Tables.{updated}
use Rattle.lola_elab.proofs.table.constants_of.Given as goal

-- what is entered so far, and what is behind
abbrev pub invariant-loop-constant : goal.invariant-loop-constant
invariant-loop-constant l = record {
  fit : AllByRecursion IsSmallConst (drop l.constant-index l.consts) ↔ AllByRecursion IsSmallConst l.consts;
  entered : (q : List ℕ) → updated (map const_entry (drop l.constant-index l.consts)) q (get_by_text l.names q) ≡ updated (map const_entry l.consts) q None;
}
