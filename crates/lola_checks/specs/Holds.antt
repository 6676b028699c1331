-- What a claim says of numbers. The numbers of signals and of values from outside stand in a table, and their widths in
-- another.
use Rattle.std.specs.Prelude.{ℕ, Bool, true, false, not, ◌&&◌, nat_eq, List, [], ◌∷◌, length, Option, Some, None}
use Rattle.std.specs.List.{list_all, list_any}
use Rattle.std.specs.Int.{bit_at}
use Rattle.lola_flat.specs.Value.{Env, elements, value}
use Rattle.lola_flat.specs.Cycle.{next_elements}
use Rattle.lola_checks.specs.declared.check.Mark.{Mark}
use Rattle.lola_checks.specs.declared.check.Mark.TheVariants.{Zero, One, Any}
use Rattle.lola_checks.specs.Tree.{WriteTree, ElementsTree, AtomTree, is_one, are_equal, same_elements, fits_pattern, ClaimTree, alone, all_of, any_of, CheckTree}

-- the elements of an array; behind a write they are those of a register array behind a cycle: the one at the place is the
-- value
abbrev pub behind_write : Env ℕ → Env ℕ → Option WriteTree → List ℕ → List ℕ
behind_write W N None old = old
behind_write W N (Some w) old = next_elements W N (Some w.place) (Some w.value) old

abbrev pub elements_value : Env ℕ → Env ℕ → ElementsTree → List ℕ
elements_value W N e = behind_write W N e.write (elements N e.array)

-- two arrays are equal: as many elements, and each as the other's
abbrev pub same_numbers : List ℕ → List ℕ → Bool
same_numbers [] [] = true
same_numbers [] (y ∷ ys) = false
same_numbers (x ∷ xs) [] = false
same_numbers (x ∷ xs) (y ∷ ys) = nat_eq x y && same_numbers xs ys

-- a number fits a pattern where each mark suits its bit. The last mark is for bit 0, so each one's place is the count
-- of those behind it
abbrev pub mark_suits : Mark → ℕ → Bool
mark_suits Zero bit = nat_eq bit 0
mark_suits One bit = nat_eq bit 1
mark_suits Any bit = true

abbrev pub pattern_suits : List Mark → ℕ → Bool
pattern_suits [] n = true
pattern_suits (mark ∷ behind) n = mark_suits mark (bit_at n (length behind)) && pattern_suits behind n

-- a claim holds
abbrev pub atom_holds : Env ℕ → Env ℕ → AtomTree → Bool
atom_holds W N (is_one bit) = nat_eq (value W N bit) 1
atom_holds W N (are_equal left right) = nat_eq (value W N left) (value W N right)
atom_holds W N (same_elements left right) = same_numbers (elements_value W N left) (elements_value W N right)
atom_holds W N (fits_pattern word pattern) = pattern_suits pattern (value W N word)

abbrev pub claim_holds : Env ℕ → Env ℕ → ClaimTree → Bool
claim_holds W N (alone atom) = atom_holds W N atom
claim_holds W N (all_of atoms) = list_all (atom_holds W N) atoms
claim_holds W N (any_of atoms) = list_any (atom_holds W N) atoms

-- a check is violated: all premises hold and the goal doesn't
abbrev pub violated : Env ℕ → Env ℕ → CheckTree → Bool
violated W N k = list_all (claim_holds W N) k.premises && not (claim_holds W N k.goal)
