-- The steps of a check's bit, one call of an algebra after another: which they are, and in which order. What a claim
-- speaks of is made where the claim stands, from left to right. Each item of a fold is made and folded in before the
-- next is made.
use Rattle.std.specs.Prelude.{true, false, List, [], ◌∷◌, length, Option, Some, None, slice_get}
use Rattle.lola_alg.specs.Algebra.{Calls}
use Rattle.lola_alg.specs.Steps.{Step, into, either_step, equal_step}
use Rattle.lola_flat.specs.Tree.{ExprTree}
use Rattle.lola_flat.specs.Value.{Env, elements}
use Rattle.lola_eval.specs.Steps.{lower_step, next_step}
use Rattle.lola_checks.specs.declared.check.Mark.{Mark}
use Rattle.lola_checks.specs.declared.check.Mark.TheVariants.{Zero, One, Any}
use Rattle.lola_checks.specs.declared.claims.Join.{Join}
use Rattle.lola_checks.specs.declared.claims.Join.TheVariants.{And, Or}
use Rattle.lola_checks.specs.Tree.{WriteTree, ElementsTree, AtomTree, is_one, are_equal, same_elements, fits_pattern, ClaimTree, alone, all_of, any_of, CheckTree}

module _ {D B : Type 0} (c : Calls D B) where
  -- the bit of a vector of one
  abbrev pub only_bit : List B → Step D B
  only_bit [] d = Some (c.constant d true)
  only_bit (b ∷ []) d = Some (d, b)
  only_bit (b ∷ other ∷ more) d = Some (c.constant d true)

  abbrev pub bit_step : Env (List B) → ExprTree → Step D B
  bit_step E e d = into (lower_step c E e d) only_bit

  -- two vectors are equal: the left one whole, the right one whole, and the comparison
  abbrev pub alike_step : Env (List B) → ExprTree → ExprTree → Step D B
  alike_step E left right d = into (lower_step c E left d) (λ x e. into (lower_step c E right e) (λ y f. equal_step c x y f))

  -- the elements of an array; behind a write those of a register array behind a cycle: the place, the value, and then the
  -- elements
  abbrev pub write_step : Env (List B) → Option WriteTree → List (List B) → Step D (List (List B))
  write_step E None old d = Some (d, old)
  write_step E (Some w) old d = next_step c E (Some w.place) (Some w.value) old d

  abbrev pub elements_step : Env (List B) → ElementsTree → Step D (List (List B))
  elements_step E e d = write_step E e.write (elements E e.array) d

  -- elements from 0 on, folded by `and`
  abbrev pub same_from : List (List B) → List (List B) → B → Step D B
  same_from [] ys so d = Some (d, so)
  same_from (x ∷ xs) [] so d = Some (d, so)
  same_from (x ∷ xs) (y ∷ ys) so d = into (equal_step c x y d) (λ b e. into (c.both e so b) (λ then f. same_from xs ys then f))

  -- two arrays are equal: both whole, the left one first, and then from true their elements
  abbrev pub same_step : Env (List B) → ElementsTree → ElementsTree → Step D B
  same_step E left right d =
      into (elements_step E left d) (λ xs e. into (elements_step E right e) (λ ys f. let one = c.constant f true in same_from xs ys one.1 one.0))

  -- a mark takes in the bit at its place, or its negation; where any bit suits, nothing is made
  abbrev pub mark_step : Mark → Option B → B → Step D B
  mark_step mark None so d = Some (d, so)
  mark_step Zero (Some b) so d = let n = c.negated d b in c.both n.0 so n.1
  mark_step One (Some b) so d = c.both d so b
  mark_step Any (Some b) so d = Some (d, so)

  abbrev pub fits_from : List Mark → List B → B → Step D B
  fits_from [] bits so d = Some (d, so)
  fits_from (mark ∷ behind) bits so d = into (mark_step mark (slice_get bits (length behind)) so d) (λ then e. fits_from behind bits then e)

  -- a word fits a pattern: the word whole, and then from true the marks, from the highest bit on
  abbrev pub fits_step : Env (List B) → ExprTree → List Mark → Step D B
  fits_step E word pattern d = into (lower_step c E word d) (λ bits e. let one = c.constant e true in fits_from pattern bits one.1 one.0)

  abbrev pub atom_step : Env (List B) → AtomTree → Step D B
  atom_step E (is_one bit) d = bit_step E bit d
  atom_step E (are_equal left right) d = alike_step E left right d
  atom_step E (same_elements left right) d = same_step E left right d
  atom_step E (fits_pattern word pattern) d = fits_step E word pattern d

  -- claims are folded by `and` from true, or by `or` from false
  abbrev pub join_step : Join → B → B → Step D B
  join_step And so b d = c.both d so b
  join_step Or so b d = either_step c so b d

  abbrev pub atoms_from : Join → Env (List B) → List AtomTree → B → Step D B
  atoms_from join E [] so d = Some (d, so)
  atoms_from join E (a ∷ atoms) so d = into (atom_step E a d) (λ b e. into (join_step join so b e) (λ then f. atoms_from join E atoms then f))

  abbrev pub claim_step : Env (List B) → ClaimTree → Step D B
  claim_step E (alone atom) d = atom_step E atom d
  claim_step E (all_of atoms) d = let one = c.constant d true in atoms_from And E atoms one.1 one.0
  claim_step E (any_of atoms) d = let zero = c.constant d false in atoms_from Or E atoms zero.1 zero.0

  abbrev pub premises_from : Env (List B) → List ClaimTree → B → Step D B
  premises_from E [] so d = Some (d, so)
  premises_from E (k ∷ claims) so d = into (claim_step E k d) (λ b e. into (c.both e so b) (λ then f. premises_from E claims then f))

  -- a check: the premises from true, then the goal, and then both the premises and not the goal
  abbrev pub check_step : Env (List B) → CheckTree → Step D B
  check_step E k d =
      let one = c.constant d true in
      into (premises_from E k.premises one.1 one.0) (λ prem e. into (claim_step E k.goal e) (λ goal f. let n = c.negated f goal in c.both n.0 prem n.1))
