use Rattle.std.proofs.Common.{◌≡◌, ◌+◌, ℕ, List, map, drop}
use Rattle.std.specs.BTreeMap.{get_by_text}
use Rattle.lola_elab.specs.Declares.{sized}
use Rattle.lola_elab.specs.Tables.{updated, leaf_entries}
use Rattle.lola_elab.proofs.table.add_leaves.Given as goal

-- what is entered so far, and what is behind
abbrev pub invariant-loop-place : goal.invariant-loop-place
invariant-loop-place l = (q : List ℕ) →
    updated (leaf_entries (l.from + l.place) (map sized (drop l.place l.vectors))) q (get_by_text l.names q) ≡ updated (leaf_entries l.from (map sized l.vectors)) q (get_by_text l.fn.names q)
