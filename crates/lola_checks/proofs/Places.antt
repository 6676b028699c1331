-- Where an algebra has a place for each gate, a check has places for all of its gates.
use Rattle.std.proofs.Common.{ℕ, zero, suc, ◌/◌, ◌%◌, true, false, nat_eq, List, [], ◌∷◌, length, replicate, Option, Some, None}
use Rattle.std.specs.Prelude.{slice_get}
use Rattle.lola_bits.specs.declared.op.Op.TheVariants as op
use Rattle.lola_alg.specs.Algebra.{Calls}
use Rattle.lola_alg.specs.Steps.{Step, HasPlaces, into, alone, equal_step, op_step, read_step, either_step}
use Rattle.lola_alg.proofs.Places.{op_places, read_places, write_places}
use Rattle.lola_flat.specs.Tree.{ExprTree, number, signal, from_outside, element, slice, join, repeat, apply, ExprTrees, no_expr, one_expr}
use Rattle.lola_flat.specs.Value.{Env, elements}
use Rattle.lola_eval.specs.Steps.{number_step, lower_step, lowers_step, joined_bits}
use Rattle.lola_checks.specs.declared.check.Mark.{Mark}
use Rattle.lola_checks.specs.declared.check.Mark.TheVariants.{Zero, One, Any}
use Rattle.lola_checks.specs.declared.claims.Join.{Join}
use Rattle.lola_checks.specs.declared.claims.Join.TheVariants.{And, Or}
use Rattle.lola_checks.specs.Tree.{WriteTree, AtomTree, is_one, are_equal, same_elements, fits_pattern, ClaimTree, alone as one_alone, all_of, any_of, CheckTree}
use Rattle.lola_checks.specs.Steps.{only_bit, write_step, same_from, mark_step, fits_from, atom_step, join_step, atoms_from, claim_step, premises_from, check_step}

into_has : {D X Y : Type 0} (made : Option (D × X)) (next : X → Step D Y) → HasPlaces made → ((x : X) (d : D) → HasPlaces (next x d)) → HasPlaces (into made next)
into_has None next here then = here
into_has (Some made) next here then = then made.1 made.0

module _ {D B : Type 0} (c : Calls D B) (here : (d : D) (a b : B) → HasPlaces (c.both d a b)) where
  from_alone : (made : Option (D × B)) → HasPlaces (alone c made) → HasPlaces made
  from_alone None h = h
  from_alone (Some x) h = tt

  equal_places : (x y : List B) (d : D) → HasPlaces (equal_step c x y d)
  equal_places x y d = from_alone (equal_step c x y d) (op_places c here op.Eq (x ∷ y ∷ []) d)

  either_places : (a b : B) (d : D) → HasPlaces (either_step c a b d)
  either_places a b d =
      let x = c.negated d a in
      let y = c.negated x.0 b in
      into_has (c.both y.0 x.1 y.1) (λ z e. Some (c.negated e z)) (here y.0 x.1 y.1) (λ z e. tt)

  number_places : (w n : ℕ) (d : D) → HasPlaces (number_step c w n d)
  number_places zero n d = tt
  number_places (suc w) n d =
      let one = c.constant d (nat_eq (n % 2) 1) in
      into_has (number_step c w (n / 2) one.0) (λ bits e. Some (e, one.1 ∷ bits)) (number_places w (n / 2) one.0) (λ bits e. tt)

  module _ (E : Env (List B)) where
    mutual
      expr_places : (t : ExprTree) (d : D) → HasPlaces (lower_step c E t d)
      expr_places (number w n) d = number_places w n d
      expr_places (signal n) d = tt
      expr_places (from_outside n) d = tt
      expr_places (element n place) d = into_has (lower_step c E place d) (λ p e. read_step c (elements E n) p e) (expr_places place d) (λ p e. read_places c here (elements E n) p e)
      expr_places (slice of high low) d = into_has (lower_step c E of d) _ (expr_places of d) (λ x e. tt)
      expr_places (join parts) d = into_has (lowers_step c E parts d) (λ xs e. Some (e, joined_bits xs)) (exprs_places parts d) (λ xs e. tt)
      expr_places (repeat part times) d = into_has (lower_step c E part d) (λ x e. Some (e, joined_bits (replicate times x))) (expr_places part d) (λ x e. tt)
      expr_places (apply o args) d = into_has (lowers_step c E args d) (λ xs e. op_step c o xs e) (exprs_places args d) (λ xs e. op_places c here o xs e)

      exprs_places : (ts : ExprTrees) (d : D) → HasPlaces (lowers_step c E ts d)
      exprs_places no_expr d = tt
      exprs_places (one_expr t ts) d =
          into_has (lower_step c E t d) (λ x f. into (lowers_step c E ts f) (λ xs g. Some (g, x ∷ xs))) (expr_places t d)
          (λ x f. into_has (lowers_step c E ts f) (λ xs g. Some (g, x ∷ xs)) (exprs_places ts f) (λ xs g. tt))

    only_places : (bits : List B) (d : D) → HasPlaces (only_bit c bits d)
    only_places [] d = tt
    only_places (b ∷ []) d = tt
    only_places (b ∷ other ∷ more) d = tt

    elements_places : (write : Option WriteTree) (old : List (List B)) (d : D) → HasPlaces (write_step c E write old d)
    elements_places None old d = tt
    elements_places (Some w) old d =
        into_has (lower_step c E w.place d) _ (expr_places w.place d) (λ p e. into_has (lower_step c E w.value e) _ (expr_places w.value e) (λ x f. write_places c here p x 0 old f))

    from_places : (xs ys : List (List B)) (so : B) (d : D) → HasPlaces (same_from c xs ys so d)
    from_places [] ys so d = tt
    from_places (x ∷ xs) [] so d = tt
    from_places (x ∷ xs) (y ∷ ys) so d =
        into_has (equal_step c x y d) _ (equal_places x y d) (λ b e. into_has (c.both e so b) _ (here e so b) (λ then f. from_places xs ys then f))

    mark_places : (mark : Mark) (b : Option B) (so : B) (d : D) → HasPlaces (mark_step c mark b so d)
    mark_places mark None so d = tt
    mark_places Zero (Some b) so d = let n = c.negated d b in here n.0 so n.1
    mark_places One (Some b) so d = here d so b
    mark_places Any (Some b) so d = tt

    marks_places : (pattern : List Mark) (bits : List B) (so : B) (d : D) → HasPlaces (fits_from c pattern bits so d)
    marks_places [] bits so d = tt
    marks_places (mark ∷ behind) bits so d =
        into_has (mark_step c mark (slice_get bits (length behind)) so d) _ (mark_places mark (slice_get bits (length behind)) so d) (λ then e. marks_places behind bits then e)

    atom_places : (a : AtomTree) (d : D) → HasPlaces (atom_step c E a d)
    atom_places (is_one bit) d = into_has (lower_step c E bit d) _ (expr_places bit d) only_places
    atom_places (are_equal left right) d =
        into_has (lower_step c E left d) _ (expr_places left d) (λ x e. into_has (lower_step c E right e) _ (expr_places right e) (λ y f. equal_places x y f))
    atom_places (same_elements left right) d =
        into_has (write_step c E left.write (elements E left.array) d) _ (elements_places left.write (elements E left.array) d)
        (λ xs e. into_has (write_step c E right.write (elements E right.array) e) _ (elements_places right.write (elements E right.array) e)
        (λ ys f. let one = c.constant f true in from_places xs ys one.1 one.0))
    atom_places (fits_pattern word pattern) d =
        into_has (lower_step c E word d) _ (expr_places word d) (λ bits e. let one = c.constant e true in marks_places pattern bits one.1 one.0)

    join_places : (fold : Join) (so b : B) (d : D) → HasPlaces (join_step c fold so b d)
    join_places And so b d = here d so b
    join_places Or so b d = either_places so b d

    atoms_places : (fold : Join) (atoms : List AtomTree) (so : B) (d : D) → HasPlaces (atoms_from c fold E atoms so d)
    atoms_places fold [] so d = tt
    atoms_places fold (a ∷ atoms) so d =
        into_has (atom_step c E a d) _ (atom_places a d) (λ b e. into_has (join_step c fold so b e) _ (join_places fold so b e) (λ then f. atoms_places fold atoms then f))

    claim_places : (k : ClaimTree) (d : D) → HasPlaces (claim_step c E k d)
    claim_places (one_alone a) d = atom_places a d
    claim_places (all_of atoms) d = let one = c.constant d true in atoms_places And atoms one.1 one.0
    claim_places (any_of atoms) d = let zero = c.constant d false in atoms_places Or atoms zero.1 zero.0

    premises_places : (claims : List ClaimTree) (so : B) (d : D) → HasPlaces (premises_from c E claims so d)
    premises_places [] so d = tt
    premises_places (k ∷ claims) so d =
        into_has (claim_step c E k d) _ (claim_places k d) (λ b e. into_has (c.both e so b) _ (here e so b) (λ then f. premises_places claims then f))

    pub check_places : (k : CheckTree) (d : D) → HasPlaces (check_step c E k d)
    check_places k d =
        let one = c.constant d true in
        into_has (premises_from c E k.premises one.1 one.0) _ (premises_places k.premises one.1 one.0)
        (λ prem e. into_has (claim_step c E k.goal e) _ (claim_places k.goal e) (λ goal f. let n = c.negated f goal in here n.0 prem n.1))
