-- A design that keeps to what well sized ones do, and whose equations have an order, has one cycle from each state
-- under each input, and one state behind it.
use Rattle.std.proofs.Common.{◌≡◌, ◌≢◌, ℕ, ◌+◌, ◌<◌, ◌≤◌, Bool, true, false, cond, List, [], ◌∷◌, ◌++◌, Option, Some, None, refl, sym, ◌∙◌, ap, ap₂, subst, inl, inr, arith}
use Rattle.std.specs.Prelude.{nat_eq, if◌then◌else◌, IsSome}
use Rattle.std.proofs.lemmas.Bool.{cases_Bool, false≢true}
use Rattle.lola_bits.specs.Lists.{IsIn}
use Rattle.lola_bits.proofs.Lists.{in_front, in_back}
use Rattle.lola_tree.specs.declared.named.Ref.{Ref}
use Rattle.lola_tree.specs.declared.named.Shape.{Shape}
use Rattle.lola_tree.specs.declared.named.Shape.TheVariants.{Vector, Array}
use Rattle.lola_tree.specs.Names.{Names}
use Rattle.lola_tree.specs.Tree.{Tree, ActualTree, ModuleTree, SourceTree}
use Rattle.lola_tree.specs.Width.{scope_of}
use Rattle.lola_tree.specs.Value.{Path, Values, value}
use Rattle.lola_tree.specs.Cycle.{names_at}
use Rattle.lola_tree.specs.design.Signals.{Kind, clock, input, pad, wire, register, Signal, signals, signal_paths, elements}
use Rattle.lola_tree.specs.design.Equations.{Update, updates}
use Rattle.lola_tree.specs.design.Cycle.{IsSignal, Suits, AreSame, IsState, IsGiven, Cycle, Sets, Next, HasOneCycle}
use Rattle.lola_tree.specs.design.Chains.{names_in, elements_in, arrays_in, paths_of, flat_equations}
use Rattle.lola_order.specs.Graph.{IsOrder}
use Rattle.lola_order.specs.Solutions.{HangsOnUses, IsSolution}
use Rattle.lola_design.specs.Paths.{path_eq, one_if, count, update_lefts, has_equation, is_register}
use Rattle.lola_design.specs.Graph.{design_graph}
use Rattle.lola_design.specs.Regular.{IsVector, IsArray, FitsType, ReadsSuit, place_paths, update_paths, update_arrays, IsRegular, AreWithin, IsPlaceWithin}
use Rattle.lola_design.proofs.Agree.{at_path}
use Rattle.lola_design.proofs.Paths.{paths_once}
use Rattle.lola_design.proofs.Stored.{one_update}
use Rattle.lola_design.proofs.Found.{one_signal, update_of, update_counts, where_most, where_counts, where_of}
use Rattle.lola_design.proofs.OneSolution.{path_same, path_is, has_one}
use Rattle.lola_design.proofs.Numbered.{HasOneSolution}
use Rattle.lola_design.proofs.Graphs.{numbered}
use Rattle.lola_design.proofs.Derived.{fixed, equation_of, are_equations, cycle_of}
use Rattle.lola_design.proofs.Fits.{all_suit}
use Rattle.lola_design.proofs.Filled.{filled, filled_same, solves}

-- two values that are the same as a third
same_third : (names : Names) (type : Shape) (x y z : ℕ → ℕ) → AreSame names type x z → AreSame names type y z → AreSame names type x y
same_third names (Vector width) x y z p q = p ∙ sym q
same_third names (Array count width) x y z p q = λ n within. p n within ∙ sym (q n within)

same_first : (names : Names) (type : Shape) (x y : ℕ → ℕ) → AreSame names type x y → IsVector type → x 0 ≡ y 0
same_first names (Vector width) x y same is = same
same_first names (Array count width) x y same is = absurd is

first_same : (names : Names) (type : Shape) (x y : ℕ → ℕ) → IsVector type → x 0 ≡ y 0 → AreSame names type x y
first_same names (Vector width) x y is same = same
first_same names (Array count width) x y is same = absurd is

same_each : (names : Names) (type : Shape) (x y : ℕ → ℕ) → AreSame names type x y → IsArray type → (n : ℕ) → n < elements names type → x n ≡ y n
same_each names (Vector width) x y same is = absurd is
same_each names (Array count width) x y same is = same

-- the first update of a path
abbrev update_at : List Update → Path → Option Update
update_at [] x = None
update_at (u ∷ U) x = if path_eq u.left x then Some u else update_at U x

at_update : (U : List Update) (u : Update) → IsIn u U → (t : Update) × IsIn t U × (t.left ≡ u.left) × (update_at U u.left ≡ Some t)
at_update [] u is = absurd is
at_update (t ∷ U) u is = elim (cases_Bool (path_eq t.left u.left)) [
  | inl same ↦ (t, inl refl, path_same t.left u.left same, rw same refl)
  | inr other ↦ elim is [
    | inl here ↦ absurd (false≢true (sym other ∙ subst (λ (c : Update). path_eq c.left u.left ≡ true) here (path_is u.left)))
    | inr later ↦ let r = at_update U u later in (r.0, inr r.1, r.2, rw other r.3)
  ]
]

first_counts : (t : Update) (U : List Update) (x : Path) → t.left ≡ x → count x (update_lefts (t ∷ U)) ≡ 1 + count x (update_lefts U)
first_counts t U x same = let e : one_if (path_eq t.left x) ≡ 1 = rw (subst (λ (z : Path). path_eq t.left z ≡ true) same (path_is t.left)) refl in omega arith

one_of : (U : List Update) (x : Path) → count x (update_lefts U) ≤ 1 → (u t : Update) → IsIn u U → IsIn t U → u.left ≡ x → t.left ≡ x → u ≡ t
one_of [] x once u t p q lu lt = absurd p
one_of (d ∷ U) x once u t (inl p) (inl q) lu lt = p ∙ sym q
one_of (d ∷ U) x once u t (inl p) (inr q) lu lt =
    absurd (let k = first_counts d U x (ap (λ (c : Update). c.left) (sym p) ∙ lu) in let l = subst (λ (z : Path). 1 ≤ count z (update_lefts U)) lt (update_counts t U q) in omega arith)
one_of (d ∷ U) x once u t (inr p) (inl q) lu lt =
    absurd (let k = first_counts d U x (ap (λ (c : Update). c.left) (sym q) ∙ lt) in let l = subst (λ (z : Path). 1 ≤ count z (update_lefts U)) lu (update_counts u U p) in omega arith)
one_of (d ∷ U) x once u t (inr p) (inr q) lu lt = let less : count x (update_lefts U) ≤ 1 = omega arith in one_of U x less u t p q lu lt

-- what an update makes
abbrev set_value : ModuleTree → Path → Values → (ℕ → ℕ) → Option ActualTree → Tree → ℕ → ℕ
set_value m p v old None e n = value (scope_of m) e (names_at p v)
set_value m p v old (Some place) e n = cond (nat_eq n (value (scope_of m) place.value (names_at p v))) (value (scope_of m) e (names_at p v)) (old n)

abbrev made_by : Values → Option Update → ℕ → ℕ
made_by v None n = 0
made_by v (Some u) n = set_value u.module_ u.path v (v u.left) u.place u.value n

abbrev next_of : List Update → Values → Values
next_of U v x n = made_by v (update_at U x) n

sets : (m : ModuleTree) (p : Path) (v : Values) (old : ℕ → ℕ) (place : Option ActualTree) (e : Tree) → Sets m p v old (λ n. set_value m p v old place e n) place e
sets m p v old None e = refl
sets m p v old (Some place) e = λ n. refl

-- what an update reads
read_value : (u : Update) (y : Path) → IsIn y (paths_of u.path (names_in (scope_of u.module_) u.value)) → IsIn y (update_paths u)
read_value u y read =
    in_back y (place_paths u.path (λ (e : Tree). paths_of u.path (names_in (scope_of u.module_) e)) u.place) (paths_of u.path (names_in (scope_of u.module_) u.value)) read

array_value : (u : Update) (y : Path) → IsIn y (paths_of u.path (arrays_in u.value)) → IsIn y (update_arrays u)
array_value u y read = in_back y (place_paths u.path (λ (e : Tree). paths_of u.path (arrays_in e)) u.place) (paths_of u.path (arrays_in u.value)) read

read_place : (u : Update) (t : ActualTree) → u.place ≡ Some t → (y : Path) → IsIn y (paths_of u.path (names_in (scope_of u.module_) t.value)) → IsIn y (update_paths u)
read_place u t at y read =
    in_front y (place_paths u.path (λ (e : Tree). paths_of u.path (names_in (scope_of u.module_) e)) u.place) (paths_of u.path (names_in (scope_of u.module_) u.value))
    (subst (λ (o : Option ActualTree). IsIn y (place_paths u.path (λ (e : Tree). paths_of u.path (names_in (scope_of u.module_) e)) o)) (sym at) read)

array_place : (u : Update) (t : ActualTree) → u.place ≡ Some t → (y : Path) → IsIn y (paths_of u.path (arrays_in t.value)) → IsIn y (update_arrays u)
array_place u t at y read =
    in_front y (place_paths u.path (λ (e : Tree). paths_of u.path (arrays_in e)) u.place) (paths_of u.path (arrays_in u.value))
    (subst (λ (o : Option ActualTree). IsIn y (place_paths u.path (λ (e : Tree). paths_of u.path (arrays_in e)) o)) (sym at) read)

module _ (S : SourceTree) (is : IsRegular S) where
  updates_once : (x : Path) → count x (update_lefts (updates S)) ≤ 1
  updates_once x = let a = one_update x S is.assigned in let b = where_most x is_register (signals S) in let c = paths_once S is.names x in omega arith

  update_for : (x : Signal) → IsSignal S register x → (u : Update) × IsIn u (updates S) × (u.left ≡ x.path)
  update_for x there =
      let a = where_counts is_register x (signals S) there.0 (ap is_register there.1) in
      let b = one_update x.path S is.assigned in
      update_of x.path (updates S) (omega arith)

  one : (x y : Signal) → IsIn x (signals S) → IsIn y (signals S) → x.path ≡ y.path → x ≡ y
  one x y p q same = one_signal (signals S) x y (paths_once S is.names x.path) p q same

  pub next_made : (v : Values) → Next S v (next_of (updates S) v)
  next_made v u there =
      let a = at_update (updates S) u there in
      let same : a.0 ≡ u = one_of (updates S) u.left (updates_once u.left) a.0 u a.1 there a.2 refl in
      let made : update_at (updates S) u.left ≡ Some u = a.3 ∙ ap (λ (t : Update). Some t) same in
      subst (λ (o : Option Update). Sets u.module_ u.path v (v u.left) (λ n. made_by v o n) u.place u.value) (sym made) (sets u.module_ u.path v (v u.left) u.place u.value)

  -- what an update makes has the type of its register
  fits_type : (names : Names) (type : Shape) (x : ℕ → ℕ) → Suits names type x → (n : ℕ) → n < elements names type → FitsType names type (x n)
  fits_type names (Vector width) x fits n within = let first : n ≡ 0 = omega arith in rw first fits
  fits_type names (Array count width) x fits n within = fits n within

  cond_fits : (b : Bool) (names : Names) (type : Shape) (x y : ℕ) → FitsType names type x → FitsType names type y → FitsType names type (cond b x y)
  cond_fits true names type x y p q = p
  cond_fits false names type x y p q = q

  set_suits : (m : ModuleTree) (p : Path) (v : Values) (names : Names) (type : Shape) (old new : ℕ → ℕ) (place : Option ActualTree) (e : Tree) →
      (IsArray type → IsSome place) → Suits names type old → FitsType names type (value (scope_of m) e (names_at p v)) → Sets m p v old new place e → Suits names type new
  set_suits m p v names (Vector width) old new None e array fits now is_set = rw is_set now
  set_suits m p v names (Array count width) old new None e array fits now is_set = absurd (false≢true (array tt))
  set_suits m p v names (Vector width) old new (Some place) e array fits now is_set =
      rw (is_set 0) (cond_fits (nat_eq 0 (value (scope_of m) place.value (names_at p v))) names (Vector width) (value (scope_of m) e (names_at p v)) (old 0) now fits)
  set_suits m p v names (Array count width) old new (Some place) e array fits now is_set = λ n within.
      rw (is_set n) (cond_fits (nat_eq n (value (scope_of m) place.value (names_at p v))) names (Array count width) (value (scope_of m) e (names_at p v)) (old n) now (fits n within))

  -- and is one and the same where what it reads is
  set_same : (m : ModuleTree) (p : Path) (v w : Values) (names : Names) (type : Shape) (old older new newer : ℕ → ℕ) (place : Option ActualTree) (e : Tree) → (IsArray type → IsSome place) →
      AreSame names type old older → ((t : ActualTree) → place ≡ Some t → value (scope_of m) t.value (names_at p v) ≡ value (scope_of m) t.value (names_at p w)) →
      value (scope_of m) e (names_at p v) ≡ value (scope_of m) e (names_at p w) → Sets m p v old new place e → Sets m p w older newer place e → AreSame names type new newer
  set_same m p v w names (Vector width) old older new newer None e array same at same_value a b = a ∙ same_value ∙ sym b
  set_same m p v w names (Array count width) old older new newer None e array same at same_value a b = absurd (false≢true (array tt))
  set_same m p v w names (Vector width) old older new newer (Some place) e array same at same_value a b =
      a 0 ∙ ap₂ (λ (k l : ℕ). cond (nat_eq 0 k) l (old 0)) (at place refl) same_value ∙ ap (λ (k : ℕ). cond (nat_eq 0 (value (scope_of m) place.value (names_at p w))) (value (scope_of m) e (names_at p w)) k) same ∙ sym (b 0)
  set_same m p v w names (Array count width) old older new newer (Some place) e array same at same_value a b = λ n within.
      a n ∙ ap₂ (λ (k l : ℕ). cond (nat_eq n k) l (old n)) (at place refl) same_value ∙ ap (λ (k : ℕ). cond (nat_eq n (value (scope_of m) place.value (names_at p w))) (value (scope_of m) e (names_at p w)) k) (same n within) ∙ sym (b n)

  module _ (order : List ℕ) (ordered : IsOrder (design_graph S) order) (s inp : Values)
      (exists : (f : ℕ → (ℕ → ℕ) → ℕ) (b : ℕ → ℕ) → HangsOnUses (design_graph S) f → (u : ℕ → ℕ) × IsSolution (design_graph S) f b u)
      (only : (f : ℕ → (ℕ → ℕ) → ℕ) (b u w : ℕ → ℕ) → HangsOnUses (design_graph S) f → IsSolution (design_graph S) f b u → IsSolution (design_graph S) f b w → (i : ℕ) → u i ≡ w i) where
    one_solution : HasOneSolution (flat_equations S) (fixed S is s inp) inp
    one_solution = has_one (flat_equations S) (fixed S is s inp) (signal_paths S) (design_graph S) inp (numbered (flat_equations S) (fixed S is s inp) (signal_paths S) (are_equations S is s inp)) exists only

    module _ (state : IsState S s) (given : IsGiven S inp) where
      fits : (v : Values) → Cycle S s inp v → (x : Signal) → IsIn x (signals S) → x.kind ≢ clock → Suits x.names x.type (v x.path)
      fits v c x there other = all_suit S is order ordered s inp state given v c x there other

      same_wire : (v w : Values) → Cycle S s inp v → Cycle S s inp w → (x : Signal) → IsIn x (signals S) → has_equation x.kind ≡ true → x.kind ≢ register → AreSame x.names x.type (v x.path) (w x.path)
      same_wire v w c d x there wired other =
          let e = equation_of S is s inp x there wired in
          let is_vector = is.vectors x there other in
          let same = one_solution.same (filled S is order ordered s inp state given v c) (filled S is order ordered s inp state given w d) (solves S is order ordered s inp state given v c) (solves S is order ordered s inp state given w d) e.0 e.1 in
          first_same x.names x.type (v x.path) (w x.path) is_vector
          (filled_same S is order ordered s inp state given v c x there is_vector 0
          ∙ subst (λ (y : Path). filled S is order ordered s inp state given v c y 0 ≡ filled S is order ordered s inp state given w d y 0) e.2 same
          ∙ sym (filled_same S is order ordered s inp state given w d x there is_vector 0))

      same_by_kind : (v w : Values) → Cycle S s inp v → Cycle S s inp w → (x : Signal) → IsIn x (signals S) → (k : Kind) → x.kind ≡ k → k ≢ clock → AreSame x.names x.type (v x.path) (w x.path)
      same_by_kind v w c d x there clock kind other = absurd (other refl)
      same_by_kind v w c d x there register kind other = same_third x.names x.type (v x.path) (w x.path) (s x.path) (c.registers x (there, kind)) (d.registers x (there, kind))
      same_by_kind v w c d x there input kind other = same_third x.names x.type (v x.path) (w x.path) (inp x.path) (c.inputs x (there, kind)) (d.inputs x (there, kind))
      same_by_kind v w c d x there pad kind other = same_wire v w c d x there (ap has_equation kind) (λ e. let f : pad ≡ register = sym kind ∙ e in absurd (false≢true (ap is_register f)))
      same_by_kind v w c d x there wire kind other = same_wire v w c d x there (ap has_equation kind) (λ e. let f : wire ≡ register = sym kind ∙ e in absurd (false≢true (ap is_register f)))

      same_signals : (v w : Values) → Cycle S s inp v → Cycle S s inp w → (x : Signal) → IsIn x (signals S) → x.kind ≢ clock → AreSame x.names x.type (v x.path) (w x.path)
      same_signals v w c d x there other = same_by_kind v w c d x there x.kind refl other

      -- what an update reads fits, and is the same in both
      reads_fit : (v : Values) → Cycle S s inp v → (u : Update) → IsIn u (updates S) → ReadsSuit S (update_paths u) (update_arrays u) v
      reads_fit v c u said x there read = elim read [
        | inl as_vector ↦
            let r = (is.update_reads u said).vector x.path as_vector in
            fits v c x there (subst (λ (y : Signal). y.kind ≢ clock) (one r.0 x r.1 there r.4) r.2)
        | inr as_array ↦
            let r = (is.update_reads u said).array x.path as_array in
            fits v c x there (λ e. let k = subst (λ (y : Signal). y.kind ≡ register) (one r.0 x r.1.0 there r.3) r.1.1 in let f : clock ≡ register = sym e ∙ k in absurd (false≢true (ap is_register f)))
      ]

      register_of : (u : Update) → IsIn u (updates S) → (x : Signal) × IsSignal S register x × (x.path ≡ u.left)
      register_of u said =
          let a = update_counts u (updates S) said in
          let b = one_update u.left S is.assigned in
          let r = where_of u.left is_register (signals S) (omega arith) in
          (r.0, (r.1, only_register r.0.kind r.3), r.2)
        where
          only_register : (k : Kind) → is_register k ≡ true → k ≡ register
          only_register clock e = absurd (false≢true e)
          only_register input e = absurd (false≢true e)
          only_register pad e = absurd (false≢true e)
          only_register wire e = absurd (false≢true e)
          only_register register e = refl

      given_by : (v : Values) → Cycle S s inp v → (u : Update) → (said : IsIn u (updates S)) → (x : Signal) → IsSignal S register x → x.path ≡ u.left →
          FitsType x.names x.type (value (scope_of u.module_) u.value (names_at u.path v)) × AreWithin S u.module_ u.path v u.value × IsPlaceWithin S u.module_ u.path v x u.place
      given_by v c u said x there path = is.values.by_update u said x there.0 path v (reads_fit v c u said)

      read_same : (v w : Values) → Cycle S s inp v → Cycle S s inp w → (u : Update) → IsIn u (updates S) → (y : Path) → IsIn y (update_paths u) → v y 0 ≡ w y 0
      read_same v w c d u there y read =
          let r = (is.update_reads u there).vector y read in
          subst (λ (x : Path). v x 0 ≡ w x 0) r.4 (same_first r.0.names r.0.type (v r.0.path) (w r.0.path) (same_signals v w c d r.0 r.1 r.2) r.3)

      element_same : (v w : Values) → Cycle S s inp v → Cycle S s inp w → (u : Update) → IsIn u (updates S) → (t : Tree) → AreWithin S u.module_ u.path v t → (a : Ref × Tree) → IsIn a (elements_in t) →
          IsIn (u.path ++ a.0.path) (update_arrays u) → v (u.path ++ a.0.path) (value (scope_of u.module_) a.1 (names_at u.path v)) ≡ w (u.path ++ a.0.path) (value (scope_of u.module_) a.1 (names_at u.path v))
      element_same v w c d u there t within a among read =
          let r = (is.update_reads u there).array (u.path ++ a.0.path) read in
          let n = value (scope_of u.module_) a.1 (names_at u.path v) in
          let same = same_third r.0.names r.0.type (v r.0.path) (w r.0.path) (s r.0.path) (c.registers r.0 r.1) (d.registers r.0 r.1) in
          subst (λ (x : Path). v x n ≡ w x n) r.3 (same_each r.0.names r.0.type (v r.0.path) (w r.0.path) same r.2 n (within a among r.0 r.1 r.3))

      value_same : (v w : Values) → Cycle S s inp v → Cycle S s inp w → (u : Update) → IsIn u (updates S) → value (scope_of u.module_) u.value (names_at u.path v) ≡ value (scope_of u.module_) u.value (names_at u.path w)
      value_same v w c d u there =
          let x = register_of u there in
          at_path u.module_ u.path v w u.value (λ y read. read_same v w c d u there y (read_value u y read))
          (λ a among read. element_same v w c d u there u.value (given_by v c u there x.0 x.1 x.2).1 a among (array_value u (u.path ++ a.0.path) read))

      place_within : (x : Signal) (v : Values) (u : Update) (t : ActualTree) (o : Option ActualTree) → o ≡ Some t → IsPlaceWithin S u.module_ u.path v x o → AreWithin S u.module_ u.path v t.value
      place_within x v u t None at within = absurd (let e : None ≡ Some t = at in cc)
      place_within x v u t (Some place) at within = let e : Some place ≡ Some t = at in let f : place ≡ t = cc in subst (λ (q : ActualTree). AreWithin S u.module_ u.path v q.value) f within.0

      place_same : (v w : Values) → Cycle S s inp v → Cycle S s inp w → (u : Update) → IsIn u (updates S) → (t : ActualTree) → u.place ≡ Some t →
          value (scope_of u.module_) t.value (names_at u.path v) ≡ value (scope_of u.module_) t.value (names_at u.path w)
      place_same v w c d u there t at =
          let x = register_of u there in
          at_path u.module_ u.path v w t.value (λ y read. read_same v w c d u there y (read_place u t at y read))
          (λ a among read. element_same v w c d u there t.value (place_within x.0 v u t u.place at (given_by v c u there x.0 x.1 x.2).2) a among (array_place u t at (u.path ++ a.0.path) read))

      next_same : (v w s' t' : Values) → Cycle S s inp v → Cycle S s inp w → Next S v s' → Next S w t' → (x : Signal) → IsSignal S register x → AreSame x.names x.type (s' x.path) (t' x.path)
      next_same v w s' t' c d a b x there =
          let u = update_for x there in
          let same = same_third x.names x.type (v x.path) (w x.path) (s x.path) (c.registers x there) (d.registers x there) in
          subst (λ (y : Path). AreSame x.names x.type (s' y) (t' y)) u.2
          (set_same u.0.module_ u.0.path v w x.names x.type (v u.0.left) (w u.0.left) (s' u.0.left) (t' u.0.left) u.0.place u.0.value (is.array_places u.0 u.1 x there.0 (sym u.2))
          (subst (λ (y : Path). AreSame x.names x.type (v y) (w y)) (sym u.2) same) (place_same v w c d u.0 u.1) (value_same v w c d u.0 u.1) (a u.0 u.1) (b u.0 u.1))

      next_state : (v s' : Values) → Cycle S s inp v → Next S v s' → IsState S s'
      next_state v s' c next x there =
          let u = update_for x there in
          let no_clock : x.kind ≢ clock = λ e. let f : clock ≡ register = sym e ∙ there.1 in absurd (false≢true (ap is_register f)) in
          subst (λ (y : Path). Suits x.names x.type (s' y)) u.2
          (set_suits u.0.module_ u.0.path v x.names x.type (v u.0.left) (s' u.0.left) u.0.place u.0.value (is.array_places u.0 u.1 x there.0 (sym u.2))
          (subst (λ (y : Path). Suits x.names x.type (v y)) (sym u.2) (fits v c x there.0 no_clock))
          (given_by v c u.0 u.1 x there (sym u.2)).0 (next u.0 u.1))

      pub one_cycle : HasOneCycle S s inp
      one_cycle = record {
        cycle = (one_solution.solution.0, cycle_of S is s inp one_solution.solution.0 one_solution.solution.1);
        same = same_signals;
        fits = fits;
        next = λ v c. (next_of (updates S) v, next_made v);
        same_next = next_same;
        state = next_state;
      }
