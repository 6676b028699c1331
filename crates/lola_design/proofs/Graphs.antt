-- The graph of a design's equations numbers them, and has a closed chain where they have.
use Rattle.std.proofs.Common.{◌≡◌, ℕ, zero, suc, ◌≤◌, true, List, [], ◌∷◌, map, Option, Some, None, refl, sym, ◌∙◌, ap, subst, inl, inr, arith}
use Rattle.std.specs.Prelude.{slice_get}
use Rattle.std.proofs.lemmas.Bool.{cases_Bool, cond-true, cond-false}
use Rattle.lola_tree.specs.Value.{Path}
use Rattle.lola_bits.specs.Lists.{IsIn}
use Rattle.lola_tree.specs.Tree.{SourceTree}
use Rattle.lola_tree.specs.design.Chains as design
use Rattle.lola_tree.specs.design.Equations.{Equation, Right}
use Rattle.lola_tree.specs.design.Chains.{right_paths, right_arrays, flat_equations, Occurs}
use Rattle.lola_order.specs.Graph.{Graph, Uses, IsWanted, IsUse, IsChain, HasLoop}
use Rattle.lola_bits.proofs.Lists.{to_map, from_map}
use Rattle.lola_bits.proofs.Places.{get_map, from_get}
use Rattle.lola_design.specs.Paths.{path_eq, one_if, count, lefts}
use Rattle.lola_design.proofs.Numbered.{Fixed, AreNumbered, AreEquations}
use Rattle.lola_design.specs.Graph.{number_of, right_of, uses_of, graph_of}
use Rattle.lola_design.proofs.OneSolution.{path_same, path_is, number_there, right_there}

-- a path at a number, and one among others
pub at_number : (paths : List Path) (x : Path) → IsIn x paths → slice_get paths (number_of paths x) ≡ Some x
at_number paths x is = number_there paths (place paths is) x (there paths is)
  where
    place : (xs : List Path) → IsIn x xs → ℕ
    place [] none = absurd none
    place (y ∷ ys) (inl same) = 0
    place (y ∷ ys) (inr later) = suc (place ys later)

    there : (xs : List Path) (is : IsIn x xs) → slice_get xs (place xs is) ≡ Some x
    there [] none = absurd none
    there (y ∷ ys) (inl same) = ap (λ (z : Path). Some z) (sym same)
    there (y ∷ ys) (inr later) = there ys later

counted : (paths : List Path) (i : ℕ) (x : Path) → slice_get paths i ≡ Some x → 1 ≤ count x paths
counted [] i x is = absurd (let e : None ≡ Some x = is in cc)
counted (y ∷ ys) zero x is =
    let e : Some y ≡ Some x = is in
    let s : y ≡ x = cc in
    let f : one_if (path_eq y x) ≡ 1 = rw (subst (λ (z : Path). path_eq y z ≡ true) s (path_is y)) refl in
    omega arith
counted (y ∷ ys) (suc i) x is = let e = counted ys i x is in omega arith

first_counts : (y : Path) (ys : List Path) (x : Path) → Some y ≡ Some x → count x (y ∷ ys) ≡ suc (count x ys)
first_counts y ys x e =
    let s : y ≡ x = cc in
    let f : one_if (path_eq y x) ≡ 1 = rw (subst (λ (z : Path). path_eq y z ≡ true) s (path_is y)) refl in
    omega arith

pub one_place : (paths : List Path) (x : Path) → count x paths ≤ 1 → (i j : ℕ) → slice_get paths i ≡ Some x → slice_get paths j ≡ Some x → i ≡ j
one_place [] x once i j p q = absurd (let e : None ≡ Some x = p in cc)
one_place (y ∷ ys) x once zero zero p q = refl
one_place (y ∷ ys) x once zero (suc j) p q = absurd (let e = first_counts y ys x p in let f = counted ys j x q in omega arith)
one_place (y ∷ ys) x once (suc i) zero p q = absurd (let e = first_counts y ys x q in let f = counted ys i x p in omega arith)
one_place (y ∷ ys) x once (suc i) (suc j) p q =
    let less : count x ys ≤ 1 = omega arith in
    ap suc (one_place ys x less i j p q)

left_counted : (E : List Equation) (e : Equation) (x : Path) → IsIn e E → e.left ≡ x → 1 ≤ count x (lefts E)
left_counted [] e x is same = absurd is
left_counted (d ∷ E) e x (inl here) same =
    let f : one_if (path_eq d.left x) ≡ 1 = rw (subst (λ (z : Path). path_eq d.left z ≡ true) (ap (λ (c : Equation). c.left) (sym here) ∙ same) (path_is d.left)) refl in
    omega arith
left_counted (d ∷ E) e x (inr later) same = let k = left_counted E e x later same in omega arith

left_first : (d : Equation) (E : List Equation) (x : Path) → d.left ≡ x → count x (lefts (d ∷ E)) ≡ suc (count x (lefts E))
left_first d E x same = first_counts d.left (lefts E) x (ap (λ (z : Path). Some z) same)

one_right : (E : List Equation) (x : Path) → count x (lefts E) ≤ 1 → (e f : Equation) → IsIn e E → IsIn f E → e.left ≡ x → f.left ≡ x → e.right ≡ f.right
one_right [] x once e f p q le lf = absurd p
one_right (d ∷ E) x once e f (inl p) (inl q) le lf = ap (λ (c : Equation). c.right) (p ∙ sym q)
one_right (d ∷ E) x once e f (inl p) (inr q) le lf =
    absurd (let k = left_first d E x (ap (λ (c : Equation). c.left) (sym p) ∙ le) in let l = left_counted E f x q lf in omega arith)
one_right (d ∷ E) x once e f (inr p) (inl q) le lf =
    absurd (let k = left_first d E x (ap (λ (c : Equation). c.left) (sym q) ∙ lf) in let l = left_counted E e x p le in omega arith)
one_right (d ∷ E) x once e f (inr p) (inr q) le lf =
    let less : count x (lefts E) ≤ 1 = omega arith in
    one_right E x less e f p q le lf

-- an entry of the graph
found_in : (E : List Equation) (x : Path) (r : Right) → right_of E x ≡ Some r → (e : Equation) × IsIn e E × (e.left ≡ x) × (e.right ≡ r)
found_in [] x r is = absurd (let e : None ≡ Some r = is in cc)
found_in (d ∷ E) x r is = elim (cases_Bool (path_eq d.left x)) [
  | inl same ↦
      let e : Some d.right ≡ Some r = sym (cond-true (path_eq d.left x) (Some d.right) (right_of E x) same) ∙ is in
      let s : d.right ≡ r = cc in
      (d, inl refl, path_same d.left x same, s)
  | inr other ↦
      let f = found_in E x r (sym (cond-false (path_eq d.left x) (Some d.right) (right_of E x) other) ∙ is) in
      (f.0, inr f.1, f.2, f.3)
]

some_uses : (paths : List Path) (o : Option Right) (us : List ℕ) → uses_of paths o ≡ Some us → (r : Right) × (o ≡ Some r) × (us ≡ map (number_of paths) (right_paths r))
some_uses paths None us is = absurd (let e : None ≡ Some us = is in cc)
some_uses paths (Some r) us is = let e : Some (map (number_of paths) (right_paths r)) ≡ Some us = is in let s : us ≡ map (number_of paths) (right_paths r) = cc in (r, refl, s)

module _ (E : List Equation) (fixed : Fixed) (paths : List Path) (are : AreEquations E fixed paths) where
  right_is : (e : Equation) → IsIn e E → right_of E e.left ≡ Some e.right
  right_is e is = let f = right_there E e is in f.3 ∙ ap (λ (r : Right). Some r) (one_right E e.left (are.lefts_once e.left) f.0 e f.1 is f.2 refl)

  pub entry_of : (e : Equation) → IsIn e E → Uses (graph_of E paths) (number_of paths e.left) (map (number_of paths) (right_paths e.right))
  entry_of e is =
      get_map (λ (x : Path). uses_of paths (right_of E x)) paths (number_of paths e.left) e.left (at_number paths e.left (are.signals e is))
      ∙ ap (λ (o : Option Right). Some (uses_of paths o)) (right_is e is)

  -- what an entry is of
  pub entry_from : (i : ℕ) (us : List ℕ) → Uses (graph_of E paths) i us → (e : Equation) × IsIn e E × (slice_get paths i ≡ Some e.left) × (us ≡ map (number_of paths) (right_paths e.right))
  entry_from i us uses =
      let f = from_get (λ (x : Path). uses_of paths (right_of E x)) paths i (Some us) uses in
      let g = some_uses paths (right_of E f.0) us f.2 in
      let e = found_in E f.0 g.0 g.1 in
      (e.0, e.1, f.1 ∙ ap (λ (z : Path). Some z) (sym e.2), g.2 ∙ ap (λ (r : Right). map (number_of paths) (right_paths r)) (sym e.3))

  pub numbered : AreNumbered E fixed paths (graph_of E paths)
  numbered = record {
    each = λ e is. record {
      number = number_of paths e.left;
      is = at_number paths e.left (are.signals e is);
      uses = map (number_of paths) (right_paths e.right);
      graph = entry_of e is;
      vectors = λ y there. elim (are.vectors e is y there) [
        | inl is_fixed ↦ inl is_fixed
        | inr has ↦ inr (record {
          equation = has.0;
          there = has.1;
          left = has.2;
          number = number_of paths y;
          is = at_number paths y (subst (λ (z : Path). IsIn z paths) has.2 (are.signals has.0 has.1));
          among = to_map (number_of paths) y (right_paths e.right) there;
        })
      ];
      arrays = are.arrays e is;
    };
    only = λ i wanted. let f = entry_from i wanted.uses wanted.equation in (f.0, f.1, f.2);
    distinct = λ i j x p q. one_place paths x (are.paths_once x) i j p q;
    once = λ e f p q same. one_right E f.left (are.lefts_once f.left) e f p q same refl;
    apart = are.apart;
  }

-- closed chains of a design and of its graph
module _ (S : SourceTree) (fixed : Fixed) (paths : List Path) (are : AreEquations (flat_equations S) fixed paths) where
  use_of : (x y : Path) → Occurs S x y → IsUse (graph_of (flat_equations S) paths) (number_of paths x) (number_of paths y)
  use_of x y o = subst (λ (z : Path). IsUse (graph_of (flat_equations S) paths) (number_of paths x) (number_of paths z)) o.left (record {
    uses = map (number_of paths) (right_paths o.equation.right);
    equation = entry_of (flat_equations S) fixed paths are o.equation o.there;
    among = to_map (number_of paths) x (right_paths o.equation.right) o.among;
  })

  chain_of : (x : Path) (xs : List Path) (y : Path) → design.IsChain S x xs y → IsChain (graph_of (flat_equations S) paths) (number_of paths x) (map (number_of paths) xs) (number_of paths y)
  chain_of x [] y o = use_of x y o
  chain_of x (z ∷ zs) y o = (use_of x z o.0, chain_of z zs y o.1)

  pub loop_to_graph : design.HasLoop S → HasLoop (graph_of (flat_equations S) paths)
  loop_to_graph l = record { first = number_of paths l.first; others = map (number_of paths) l.others; closed = chain_of l.first l.others l.first l.closed }

  -- a number that is used and has an equation is that of the path that is used
  number_path : (ps : List Path) (j : ℕ) (y x : Path) → j ≡ number_of ps y → slice_get ps j ≡ Some x → y ≡ x
  number_path [] j y x is there = absurd (let e : None ≡ Some x = there in cc)
  number_path (p ∷ ps) j y x is there = elim (cases_Bool (path_eq p y)) [
    | inl same ↦
        let zero_is : number_of (p ∷ ps) y ≡ 0 = cond-true (path_eq p y) 0 (suc (number_of ps y)) same in
        let first : Some p ≡ Some x = subst (λ (n : ℕ). slice_get (p ∷ ps) n ≡ Some x) (is ∙ zero_is) there in
        let s : p ≡ x = cc in
        sym (path_same p y same) ∙ s
    | inr other ↦
        let later : number_of (p ∷ ps) y ≡ suc (number_of ps y) = cond-false (path_eq p y) 0 (suc (number_of ps y)) other in
        number_path ps (number_of ps y) y x refl (subst (λ (n : ℕ). slice_get (p ∷ ps) n ≡ Some x) (is ∙ later) there)
  ]

  -- the path of a wanted number
  pub path_at : (i : ℕ) → IsWanted (graph_of (flat_equations S) paths) i → (x : Path) × (slice_get paths i ≡ Some x)
  path_at i w = let f = entry_from (flat_equations S) fixed paths are i w.uses w.equation in (f.0.left, f.2)

  pub occurs_of : (j i : ℕ) (x y : Path) → slice_get paths j ≡ Some x → slice_get paths i ≡ Some y → IsUse (graph_of (flat_equations S) paths) j i → Occurs S x y
  occurs_of j i x y at_j at_i used =
      let f = entry_from (flat_equations S) fixed paths are i used.uses used.equation in
      let n = from_map (number_of paths) j (right_paths f.0.right) (subst (λ (l : List ℕ). IsIn j l) f.3 used.among) in
      let e : Some f.0.left ≡ Some y = sym f.2 ∙ at_i in
      let left : f.0.left ≡ y = cc in
      record { equation = f.0; there = f.1; left = left; among = subst (λ (z : Path). IsIn z (right_paths f.0.right)) (number_path paths j n.0 x n.2 at_j) n.1 }

  chain_from : (j : ℕ) (x : Path) (js : List ℕ) (i : ℕ) (y : Path) → slice_get paths j ≡ Some x → slice_get paths i ≡ Some y → IsChain (graph_of (flat_equations S) paths) j js i → (xs : List Path) × design.IsChain S x xs y
  chain_from j x [] i y at_j at_i used = ([], occurs_of j i x y at_j at_i used)
  chain_from j x (k ∷ js) i y at_j at_i chain =
      let z = path_at k (record { uses = chain.0.uses; equation = chain.0.equation }) in
      let more = chain_from k z.0 js i y z.1 at_i chain.1 in
      (z.0 ∷ more.0, (occurs_of j k x z.0 at_j z.1 chain.0, more.1))

  chain_wanted : (g : Graph) (x : ℕ) (xs : List ℕ) (y : ℕ) → IsChain g x xs y → IsWanted g y
  chain_wanted g x [] y used = record { uses = used.uses; equation = used.equation }
  chain_wanted g x (z ∷ zs) y chain = chain_wanted g z zs y chain.1

  pub loop_from_graph : HasLoop (graph_of (flat_equations S) paths) → design.HasLoop S
  loop_from_graph l =
      let x = path_at l.first (chain_wanted (graph_of (flat_equations S) paths) l.first l.others l.first l.closed) in
      let c = chain_from l.first x.0 l.others l.first x.0 x.1 x.1 l.closed in
      record { first = x.0; others = c.0; closed = c.1 }
