-- The steps of a check mean where it is violated, in every algebra.
use Rattle.std.proofs.Common.{◌≡◌, ℕ, Bool, true, false, not, ◌&&◌, ◌||◌, List, [], ◌∷◌, length, Some, refl, sym, ◌∙◌, ap, ap₂}
use Rattle.std.proofs.Math.Bool.{and_assoc, and-true}
use Rattle.std.specs.List.{AllByRecursion, list_all, list_any}
use Rattle.lola_alg.specs.Algebra.{Calls, Meaning, Stays, Answers, IsAlgebra}
use Rattle.lola_alg.proofs.Bools.{either}
use Rattle.lola_alg.proofs.BitMeans.{into_made, Has, has_later, made_has, stays_same, answers_since, kept_bit, both_answers, either_answers, negated_answers}
use Rattle.lola_alg.proofs.Loops.{stays_then}
use Rattle.lola_alg.proofs.WordMeans.{constant_has}
use Rattle.lola_flat.specs.Value.{Env, mapped}
use Rattle.lola_eval.specs.Means.{EnvKnown, numbers}
use Rattle.lola_eval.proofs.Kept.{env_known, env_stay}
use Rattle.lola_checks.specs.declared.claims.Join.{Join}
use Rattle.lola_checks.specs.declared.claims.Join.TheVariants.{And, Or}
use Rattle.lola_checks.specs.Tree.{AtomTree, is_one, are_equal, same_elements, fits_pattern, ClaimTree, alone, all_of, any_of, CheckTree}
use Rattle.lola_checks.specs.Holds.{atom_holds, claim_holds, violated}
use Rattle.lola_checks.specs.Suits.{AtomSuits, ClaimSuits, CheckSuits}
use Rattle.lola_checks.specs.Steps.{atom_step, join_step, atoms_from, claim_step, premises_from, check_step}
use Rattle.lola_checks.proofs.CompareMeans.{bit_means, alike_means}
use Rattle.lola_checks.proofs.ArrayMeans.{same_means}
use Rattle.lola_checks.proofs.PatternMeans.{fits_means}

-- how truth values are folded
abbrev joined : Join → Bool → Bool → Bool
joined And a b = a && b
joined Or a b = a || b

abbrev held : Join → (AtomTree → Bool) → List AtomTree → Bool
held And f atoms = list_all f atoms
held Or f atoms = list_any f atoms

joined_none : (join : Join) (f : AtomTree → Bool) (a : Bool) → a ≡ joined join a (held join f [])
joined_none And f true = refl
joined_none And f false = refl
joined_none Or f true = refl
joined_none Or f false = refl

joined_more : (join : Join) (f : AtomTree → Bool) (a : Bool) (x : AtomTree) (xs : List AtomTree) → joined join (joined join a (f x)) (held join f xs) ≡ joined join a (held join f (x ∷ xs))
joined_more And f true x xs = refl
joined_more And f false x xs = refl
joined_more Or f true x xs = refl
joined_more Or f false x xs = refl

either_is : (a b : Bool) → either a b ≡ (a || b)
either_is true b = refl
either_is false true = refl
either_is false false = refl

module _ {D B : Type 0} (c : Calls D B) (m : Meaning D B) (law : IsAlgebra c m) where
  pub join_answers : (join : Join) (a b : B) (x y : (ℕ → Bool) → Bool) (d : D) (made : D × B) → Has m d a x → Has m d b y → join_step c join a b d ≡ Some made → Answers m d made (λ v. joined join (x v) (y v))
  join_answers And a b x y d made h k e = both_answers c m law d a b x y made h k e
  join_answers Or a b x y d made h k e =
      answers_since m d d made (λ v. either (x v) (y v)) (λ v. x v || y v) (stays_same m d) (λ v. either_is (x v) (y v)) (either_answers c m law d a b x y made h k e)

  module _ (E : Env (List B)) where
    pub atom_means : (a : AtomTree) (d : D) (made : D × B) → AtomSuits (mapped length E) a → EnvKnown m d E → atom_step c E a d ≡ Some made → Answers m d made (λ v. atom_holds (mapped length E) (numbers m d v E) a)
    atom_means (is_one bit) d made suits known e = bit_means c m law E bit d made suits known e
    atom_means (are_equal left right) d made suits known e = alike_means c m law E left right d made suits known e
    atom_means (same_elements left right) d made suits known e = same_means c m law E left right d made suits known e
    atom_means (fits_pattern word pattern) d made suits known e = fits_means c m law E word pattern d made suits known e

    atoms_means : (join : Join) (atoms : List AtomTree) (so : B) (w : (ℕ → Bool) → Bool) (d : D) (made : D × B) → AllByRecursion (AtomSuits (mapped length E)) atoms → EnvKnown m d E → Has m d so w →
        atoms_from c join E atoms so d ≡ Some made → Answers m d made (λ v. joined join (w v) (held join (atom_holds (mapped length E) (numbers m d v E)) atoms))
    atoms_means join [] so w d made suits known h e =
        answers_since m d d made w (λ v. joined join (w v) (held join (atom_holds (mapped length E) (numbers m d v E)) [])) (stays_same m d)
        (λ v. joined_none join (atom_holds (mapped length E) (numbers m d v E)) (w v)) (kept_bit m d so made w h e)
    atoms_means join (a ∷ atoms) so w d made suits known h e =
        let i = into_made (atom_step c E a d) _ made e in
        let j = into_made (join_step c join so i.0.1 i.0.0) _ made i.1.1 in
        let x : (ℕ → Bool) → Bool = λ v. atom_holds (mapped length E) (numbers m d v E) a in
        let one = atom_means a d i.0 suits.0 known i.1.0 in
        let two = join_answers join so i.0.1 w x i.0.0 j.0 (has_later m d i.0.0 so w one.stays h) (made_has m d i.0 x one) j.1.0 in
        let stays : Stays m d j.0.0 = stays_then m d i.0.0 j.0.0 one.stays two.stays in
        let y : (ℕ → Bool) → Bool = λ v. joined join (w v) (x v) in
        let rest = atoms_means join atoms j.0.1 y j.0.0 made suits.1 (env_known m d j.0.0 E stays known) (made_has m i.0.0 j.0 y two) j.1.1 in
        answers_since m d j.0.0 made (λ v. joined join (y v) (held join (atom_holds (mapped length E) (numbers m j.0.0 v E)) atoms))
        (λ v. joined join (w v) (held join (atom_holds (mapped length E) (numbers m d v E)) (a ∷ atoms))) stays
        (λ v. ap (λ N. joined join (y v) (held join (atom_holds (mapped length E) N) atoms)) (env_stay m d j.0.0 E stays known v)
        ∙ joined_more join (atom_holds (mapped length E) (numbers m d v E)) (w v) a atoms) rest

    pub claim_means : (k : ClaimTree) (d : D) (made : D × B) → ClaimSuits (mapped length E) k → EnvKnown m d E → claim_step c E k d ≡ Some made → Answers m d made (λ v. claim_holds (mapped length E) (numbers m d v E) k)
    claim_means (alone a) d made suits known e = atom_means a d made suits known e
    claim_means (all_of atoms) d made suits known e =
        let one = law.constant d true in
        let now : D = (c.constant d true).0 in
        answers_since m d now made (λ v. list_all (atom_holds (mapped length E) (numbers m now v E)) atoms) (λ v. list_all (atom_holds (mapped length E) (numbers m d v E)) atoms) one.stays
        (λ v. ap (λ N. list_all (atom_holds (mapped length E) N) atoms) (env_stay m d now E one.stays known v))
        (atoms_means And atoms (c.constant d true).1 (λ v. true) now made suits (env_known m d now E one.stays known) (constant_has c m law d true) e)
    claim_means (any_of atoms) d made suits known e =
        let zero = law.constant d false in
        let now : D = (c.constant d false).0 in
        answers_since m d now made (λ v. list_any (atom_holds (mapped length E) (numbers m now v E)) atoms) (λ v. list_any (atom_holds (mapped length E) (numbers m d v E)) atoms) zero.stays
        (λ v. ap (λ N. list_any (atom_holds (mapped length E) N) atoms) (env_stay m d now E zero.stays known v))
        (atoms_means Or atoms (c.constant d false).1 (λ v. false) now made suits (env_known m d now E zero.stays known) (constant_has c m law d false) e)

    premises_means : (claims : List ClaimTree) (so : B) (w : (ℕ → Bool) → Bool) (d : D) (made : D × B) → AllByRecursion (ClaimSuits (mapped length E)) claims → EnvKnown m d E → Has m d so w →
        premises_from c E claims so d ≡ Some made → Answers m d made (λ v. w v && list_all (claim_holds (mapped length E) (numbers m d v E)) claims)
    premises_means [] so w d made suits known h e = answers_since m d d made w (λ v. w v && true) (stays_same m d) (λ v. sym (and-true (w v))) (kept_bit m d so made w h e)
    premises_means (k ∷ claims) so w d made suits known h e =
        let i = into_made (claim_step c E k d) _ made e in
        let j = into_made (c.both i.0.0 so i.0.1) _ made i.1.1 in
        let x : (ℕ → Bool) → Bool = λ v. claim_holds (mapped length E) (numbers m d v E) k in
        let one = claim_means k d i.0 suits.0 known i.1.0 in
        let two = both_answers c m law i.0.0 so i.0.1 w x j.0 (has_later m d i.0.0 so w one.stays h) (made_has m d i.0 x one) j.1.0 in
        let stays : Stays m d j.0.0 = stays_then m d i.0.0 j.0.0 one.stays two.stays in
        let rest = premises_means claims j.0.1 (λ v. w v && x v) j.0.0 made suits.1 (env_known m d j.0.0 E stays known) (made_has m i.0.0 j.0 (λ v. w v && x v) two) j.1.1 in
        answers_since m d j.0.0 made (λ v. (w v && x v) && list_all (claim_holds (mapped length E) (numbers m j.0.0 v E)) claims) (λ v. w v && list_all (claim_holds (mapped length E) (numbers m d v E)) (k ∷ claims)) stays
        (λ v. and_assoc (w v) (x v) (list_all (claim_holds (mapped length E) (numbers m j.0.0 v E)) claims)
        ∙ ap (λ N. w v && (x v && list_all (claim_holds (mapped length E) N) claims)) (env_stay m d j.0.0 E stays known v)) rest

    -- the bit of a check is 1 exactly where all premises hold and the goal doesn't
    pub check_means : (k : CheckTree) (d : D) (made : D × B) → CheckSuits (mapped length E) k → EnvKnown m d E → check_step c E k d ≡ Some made → Answers m d made (λ v. violated (mapped length E) (numbers m d v E) k)
    check_means k d made suits known e =
        let one = law.constant d true in
        let o : D = (c.constant d true).0 in
        let i = into_made (premises_from c E k.premises (c.constant d true).1 o) _ made e in
        let j = into_made (claim_step c E k.goal i.0.0) _ made i.1.1 in
        let p : (ℕ → Bool) → Bool = λ v. list_all (claim_holds (mapped length E) (numbers m o v E)) k.premises in
        let prem : Answers m o i.0 p = premises_means k.premises (c.constant d true).1 (λ v. true) o i.0 suits.premises (env_known m d o E one.stays known) (constant_has c m law d true) i.1.0 in
        let to_i : Stays m d i.0.0 = stays_then m d o i.0.0 one.stays prem.stays in
        let g : (ℕ → Bool) → Bool = λ v. claim_holds (mapped length E) (numbers m i.0.0 v E) k.goal in
        let aim = claim_means k.goal i.0.0 j.0 suits.goal (env_known m d i.0.0 E to_i known) j.1.0 in
        let n = c.negated j.0.0 j.0.1 in
        let no : Answers m j.0.0 n (λ v. not (g v)) = negated_answers c m law j.0.0 j.0.1 g (made_has m i.0.0 j.0 g aim) in
        let to_n : Stays m i.0.0 n.0 = stays_then m i.0.0 j.0.0 n.0 aim.stays no.stays in
        let last = both_answers c m law n.0 i.0.1 n.1 p (λ v. not (g v)) made (has_later m i.0.0 n.0 i.0.1 p to_n (made_has m o i.0 p prem)) (made_has m j.0.0 n (λ v. not (g v)) no) j.1.1 in
        answers_since m d n.0 made (λ v. p v && not (g v)) (λ v. violated (mapped length E) (numbers m d v E) k) (stays_then m d i.0.0 n.0 to_i to_n)
        (λ v. ap₂ (λ N M. list_all (claim_holds (mapped length E) N) k.premises && not (claim_holds (mapped length E) M k.goal)) (env_stay m d o E one.stays known v) (env_stay m d i.0.0 E to_i known v)) last
