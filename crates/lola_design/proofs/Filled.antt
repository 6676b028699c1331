-- A cycle, filled up with the state past the ends of arrays, solves the equations.
use Rattle.std.proofs.Common.{◌≡◌, ◌≢◌, ℕ, ◌<◌, List, ◌++◌, Option, Some, None, refl, sym, ◌∙◌, ap, subst, inl, inr}
use Rattle.std.proofs.lemmas.Bool.{false≢true}
use Rattle.lola_bits.specs.Lists.{IsIn}
use Rattle.lola_bits.proofs.Lists.{in_front, in_back, from_map}
use Rattle.lola_tree.specs.declared.named.Shape.{Shape}
use Rattle.lola_tree.specs.declared.named.Shape.TheVariants.{Vector, Array}
use Rattle.lola_tree.specs.Names.{Names}
use Rattle.lola_tree.specs.Tree.{Tree, ModuleTree, SourceTree}
use Rattle.lola_tree.specs.Width.{scope_of}
use Rattle.lola_tree.specs.Value.{Path, Values, value}
use Rattle.lola_tree.specs.Cycle.{names_at}
use Rattle.lola_tree.specs.design.Signals.{Kind, clock, input, pad, wire, register, Signal, signals, elements}
use Rattle.lola_tree.specs.design.Equations.{Right, expression, copied, driven, Equation}
use Rattle.lola_tree.specs.design.Cycle.{IsSignal, AreSame, IsState, IsGiven, Cycle}
use Rattle.lola_tree.specs.design.Chains.{arrays_in, paths_of, right_paths, right_arrays, flat_equations}
use Rattle.lola_order.specs.Graph.{IsOrder}
use Rattle.lola_design.specs.Paths.{is_register}
use Rattle.lola_design.specs.Graph.{design_graph}
use Rattle.lola_design.specs.Regular.{IsVector, IsArray, ReadsSuit, AreWithin, IsRightWithin, IsRegular}
use Rattle.lola_design.proofs.Agree.{AreAlikeAt, IsRightAlike, right_agrees_at}
use Rattle.lola_design.proofs.Paths.{paths_once}
use Rattle.lola_design.proofs.Found.{one_signal}
use Rattle.lola_design.proofs.Numbered.{Given, vector, array, IsGivenAs, Solves}
use Rattle.lola_design.proofs.Derived.{given_as, given_of, fixed, fixed_from, given_to, array_is, are_equations, meets_all}
use Rattle.lola_design.proofs.Fits.{all_suit}

-- an array that is given, or else another value
abbrev pub filled_with : Option Given → ℕ → ℕ → ℕ
filled_with None x n = x
filled_with (Some (vector m)) x n = x
filled_with (Some (array f)) x n = f n

filled_none : (o : Option Given) → ((g : Given) → o ≡ Some g → ⊥) → (x n : ℕ) → filled_with o x n ≡ x
filled_none None apart x n = refl
filled_none (Some g) apart x n = absurd (apart g refl)

filled_vector : (o : Option Given) → ((f : ℕ → ℕ) → o ≡ Some (array f) → ⊥) → (x n : ℕ) → filled_with o x n ≡ x
filled_vector None no_array x n = refl
filled_vector (Some (vector m)) no_array x n = refl
filled_vector (Some (array f)) no_array x n = absurd (no_array f refl)

-- what is given as an array is one, and what is given as a vector is its value
array_type : (type : Shape) (x f : ℕ → ℕ) → given_as type x ≡ array f → IsVector type → ⊥
array_type (Vector width) x f e is = absurd cc
array_type (Array count width) x f e is = is

given_array : (k : Kind) (type : Shape) (a b f : ℕ → ℕ) → given_of k type a b ≡ Some (array f) → IsVector type → ⊥
given_array clock type a b f e is = let g : None ≡ Some (array f) = e in absurd cc
given_array pad type a b f e is = let g : None ≡ Some (array f) = e in absurd cc
given_array wire type a b f e is = let g : None ≡ Some (array f) = e in absurd cc
given_array input type a b f e is = array_type type b f (let g : Some (given_as type b) ≡ Some (array f) = e in cc) is
given_array register type a b f e is = array_type type a f (let g : Some (given_as type a) ≡ Some (array f) = e in cc) is

given_vector : (names : Names) (type : Shape) (x y : ℕ → ℕ) (m : ℕ) → AreSame names type x y → given_as type y ≡ vector m → x 0 ≡ m
given_vector names (Vector width) x y m same e = same ∙ (let f : vector (y 0) ≡ vector m = e in cc)
given_vector names (Array count width) x y m same e = absurd (let f : array y ≡ vector m = e in cc)

module _ (S : SourceTree) (is : IsRegular S) (order : List ℕ) (ordered : IsOrder (design_graph S) order) (s inp : Values) (state : IsState S s) (given : IsGiven S inp) (v : Values) (c : Cycle S s inp v) where
  abbrev pub filled : Values
  filled x n = filled_with (fixed S is s inp x) (v x n) n

  one : (x y : Signal) → IsIn x (signals S) → IsIn y (signals S) → x.path ≡ y.path → x ≡ y
  one x y p q same = one_signal (signals S) x y (paths_once S is.names x.path) p q same

  -- it is the same at vectors
  pub filled_same : (z : Signal) → IsIn z (signals S) → IsVector z.type → (n : ℕ) → v z.path n ≡ filled z.path n
  filled_same z there is_vector n =
      sym (filled_vector (fixed S is s inp z.path) (λ f e. given_array z.kind z.type (s z.path) (inp z.path) f (sym (given_to S is s inp z there) ∙ e) is_vector) (v z.path n) n)

  -- and at elements
  filled_element : (z : Signal) → IsSignal S register z → IsArray z.type → (n : ℕ) → n < elements z.names z.type → v z.path n ≡ filled z.path n
  filled_element z there is_array n within =
      let e : fixed S is s inp z.path ≡ Some (array (s z.path)) =
      given_to S is s inp z there.0 ∙ ap (λ (k : Kind). given_of k z.type (s z.path) (inp z.path)) there.1 ∙ ap (λ (g : Given). Some g) (array_is S is s inp z.type (s z.path) is_array) in
      element z.names z.type (c.registers z there) is_array n within ∙ sym (ap (λ (o : Option Given). filled_with o (v z.path n) n) e)
    where
      element : (names : Names) (type : Shape) → AreSame names type (v z.path) (s z.path) → IsArray type → (m : ℕ) → m < elements names type → v z.path m ≡ s z.path m
      element names (Vector width) same is_an_array m below = absurd is_an_array
      element names (Array count width) same is_an_array m below = same m below

  reads_suit : (e : Equation) → IsIn e (flat_equations S) → ReadsSuit S (right_paths e.right) (right_arrays e.right) v
  reads_suit e said x there read = elim read [
    | inl as_vector ↦
        let r = (is.equation_reads e said).vector x.path as_vector in
        all_suit S is order ordered s inp state given v c x there (subst (λ (y : Signal). y.kind ≢ clock) (one r.0 x r.1 there r.4) r.2)
    | inr as_array ↦
        let r = (is.equation_reads e said).array x.path as_array in
        all_suit S is order ordered s inp state given v c x there (λ e. let k = subst (λ (y : Signal). y.kind ≡ register) (one r.0 x r.1.0 there r.3) r.1.1 in let f : clock ≡ register = sym e ∙ k in absurd (false≢true (ap is_register f)))
  ]

  alike_at : (e : Equation) → IsIn e (flat_equations S) → (m : ModuleTree) (p : Path) (t : Tree) → AreWithin S m p v t → ((y : Path) → IsIn y (paths_of p (arrays_in t)) → IsIn y (right_arrays e.right)) → AreAlikeAt m p v filled t
  alike_at e said m p t within arrays a there among =
      let r = (is.equation_reads e said).array (p ++ a.0.path) (arrays (p ++ a.0.path) among) in
      let n = value (scope_of m) a.1 (names_at p v) in
      subst (λ (y : Path). v y n ≡ filled y n) r.3 (filled_element r.0 r.1 r.2 n (within a there r.0 r.1 r.3))

  right_alike : (e : Equation) → IsIn e (flat_equations S) → (r : Right) → e.right ≡ r → IsRightWithin S v r → IsRightAlike v filled r
  right_alike e said (expression m p t) same within = alike_at e said m p t within (λ y among. subst (λ (q : Right). IsIn y (right_arrays q)) (sym same) among)
  right_alike e said (copied other) same within = tt
  right_alike e said (driven m p drive release io) same within = (
    alike_at e said m p release within.0 (λ y among. subst (λ (q : Right). IsIn y (right_arrays q)) (sym same) (in_front y (paths_of p (arrays_in release)) (paths_of p (arrays_in drive)) among)),
    alike_at e said m p drive within.1 (λ y among. subst (λ (q : Right). IsIn y (right_arrays q)) (sym same) (in_back y (paths_of p (arrays_in release)) (paths_of p (arrays_in drive)) among)),
  )

  given_first : (x : Path) (g : Given) → fixed S is s inp x ≡ Some g → (y : Signal) → IsIn y (signals S) → y.path ≡ x → (k : Kind) → y.kind ≡ k → given_of k y.type (s x) (inp x) ≡ Some g → (m : ℕ) → g ≡ vector m → v x 0 ≡ m
  given_first x g fixed_is y there path clock kind e m same = absurd (let f : None ≡ Some g = e in cc)
  given_first x g fixed_is y there path pad kind e m same = absurd (let f : None ≡ Some g = e in cc)
  given_first x g fixed_is y there path wire kind e m same = absurd (let f : None ≡ Some g = e in cc)
  given_first x g fixed_is y there path input kind e m same =
      given_vector y.names y.type (v x) (inp x) m (subst (λ (z : Path). AreSame y.names y.type (v z) (inp z)) path (c.inputs y (there, kind))) ((let f : Some (given_as y.type (inp x)) ≡ Some g = e in let h : given_as y.type (inp x) ≡ g = cc in h) ∙ same)
  given_first x g fixed_is y there path register kind e m same =
      given_vector y.names y.type (v x) (s x) m (subst (λ (z : Path). AreSame y.names y.type (v z) (s z)) path (c.registers y (there, kind))) ((let f : Some (given_as y.type (s x)) ≡ Some g = e in let h : given_as y.type (s x) ≡ g = cc in h) ∙ same)

  agrees : (x : Path) (g : Given) → fixed S is s inp x ≡ Some g → IsGivenAs g (filled x)
  agrees x (array f) e = λ n. ap (λ (o : Option Given). filled_with o (v x n) n) e
  agrees x (vector m) e =
      let y = fixed_from s inp (signals S) x (vector m) e in
      ap (λ (o : Option Given). filled_with o (v x 0) 0) e ∙ given_first x (vector m) e y.0 y.1 y.2 y.0.kind refl y.3 m refl

  pub solves : Solves (flat_equations S) (fixed S is s inp) inp filled
  solves = record {
    meets = λ e said.
        let are = are_equations S is s inp in
        let x = left_signal e said in
        let within = (is.values.by_equation e said x.0 x.1 x.2 inp v given.pads (reads_suit e said)).1 in
        filled_none (fixed S is s inp e.left) (λ g f. are.apart e said (g, f)) (v e.left 0) 0 ∙ meets_all S is s inp v c e said
        ∙ right_agrees_at inp v filled e.right (λ y read.
        let r = (is.equation_reads e said).vector y read in
        subst (λ (z : Path). v z 0 ≡ filled z 0) r.4 (filled_same r.0 r.1 r.3 0)) (right_alike e said e.right refl within);
    agrees = agrees;
  }
    where
      left_signal : (e : Equation) → IsIn e (flat_equations S) → (x : Signal) × IsIn x (signals S) × (x.path ≡ e.left)
      left_signal e said = let are = are_equations S is s inp in let r = from_map (λ (y : Signal). y.path) e.left (signals S) (are.signals e said) in (r.0, r.1, sym r.2)
