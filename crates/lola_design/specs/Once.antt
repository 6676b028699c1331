-- No name of a module is declared twice as a port or local name. Constants have no paths, so they are not counted.
use Rattle.std.specs.Prelude.{ℕ, ◌+◌, ◌≤◌, bytes_eq, List, [], ◌∷◌, map}
use Rattle.lola_tree.specs.declared.module.Port.{Port}
use Rattle.lola_tree.specs.declared.module.Local.{Local}
use Rattle.lola_tree.specs.Tree.{ModuleTree}
use Rattle.lola_design.specs.Paths.{one_if}

-- how often a name comes
abbrev pub name_count : List ℕ → List (List ℕ) → ℕ
name_count n [] = 0
name_count n (m ∷ ms) = one_if (bytes_eq m n) + name_count n ms

abbrev pub AreNamesOnce : ModuleTree → Type 0
AreNamesOnce m = (n : List ℕ) → name_count n (map (λ (q : Port). q.name) m.ports) + name_count n (map (λ (l : Local). l.name) m.locals) ≤ 1

abbrev pub AllOnce : List ModuleTree → Type 0
AllOnce [] = Unit {0}
AllOnce (m ∷ earlier) = AreNamesOnce m × AllOnce earlier
