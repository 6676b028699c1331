-- The flat design of a source is well formed.
use Rattle.std.proofs.Common.{◌≡◌, ◌≢◌, ℕ, zero, suc, ◌+◌, ◌^◌, ◌<◌, ◌≤◌, List, [], ◌∷◌, ◌++◌, map, length, reverse, Option, Some, None, refl, sym, ◌∙◌, ap, ap₂, subst, ◌⊎◌, inl, inr, arith}
use Rattle.std.specs.Prelude.{slice_get, sum, IsSome, IsNone, IfSome}
use Rattle.std.specs.List.{AllByRecursion}
use Rattle.std.proofs.lemmas.Bool.{cases_lt}
use Rattle.std.proofs.lemmas.List.{length-map}
use Rattle.lola_alg.specs.Means.{IsWidth}
use Rattle.lola_bits.specs.declared.op.Op.TheVariants as op
use Rattle.lola_bits.specs.Lists.{IsIn, AreDistinct}
use Rattle.lola_bits.proofs.All.{of_all, all_append, all_weaker}
use Rattle.lola_bits.proofs.Lists.{to_map, from_map, in_front, in_back, but_last}
use Rattle.lola_bits.proofs.Options.{some_same}
use Rattle.lola_bits.proofs.Places.{get_in, from_get}
use Rattle.lola_flat.specs.Numbers.{first_numbers}
use Rattle.lola_flat.specs.declared.design.SigKind.TheVariants.{Input, Pad, Wire, Register}
use Rattle.lola_flat.specs.Tree.{ExprTree, from_outside, apply, no_expr, one_expr, SignalTree, FlatTree}
use Rattle.lola_flat.specs.Value.{sum_of, Read, vector_of, array_of, outside_of, reads}
use Rattle.lola_flat.specs.Signals.{IsSignal as IsFlatSignal, expressions, number_read}
use Rattle.lola_flat.specs.Formed.{HasClock, ReadFits, NotOutside, IsPadEquation, EquationSuits, IsFormedSignal, IsFormed}
use Rattle.lola_tree.specs.declared.named.Ref.{Ref}
use Rattle.lola_tree.specs.declared.named.Shape.{Shape}
use Rattle.lola_tree.specs.declared.named.Shape.TheVariants.{Vector, Array}
use Rattle.lola_tree.specs.Names.{Names, names_of}
use Rattle.lola_tree.specs.Tree.{Tree, ActualTree, ModuleTree, SourceTree}
use Rattle.lola_tree.specs.Value.{Path}
use Rattle.lola_tree.specs.design.Signals.{Kind, clock, input, pad, wire, register, Signal, signals, signal_paths, elements, size}
use Rattle.lola_tree.specs.design.Equations.{Right, expression, copied, driven, Equation, equations, Update, updates}
use Rattle.lola_tree.specs.design.Cycle.{IsSignal}
use Rattle.lola_tree.specs.design.Chains.{elements_in, flat_left, flat_equation, flat_equations}
use Rattle.lola_order.specs.Graph.{IsOrder}
use Rattle.lola_design.specs.Paths.{path_eq, one_if, count, has_equation}
use Rattle.lola_design.specs.Graph.{right_of}
use Rattle.lola_design.specs.Regular.{IsVector, IsArray, IsRegular}
use Rattle.lola_design.proofs.OneSolution.{path_is}
use Rattle.lola_values.proofs.Known.{NumbersAll}
use Rattle.lola_unfold.specs.Translated.{translated}
use Rattle.lola_unfold.specs.Flat.{flat_kind, flat_width, flat_count, flat_right, actual_place, flat_place, place_by, equation_by, flat_signal, flat_design, flat_graph, seen_from, numbers_of, update_of, clock_name, port_count}
use Rattle.lola_unfold.proofs.Sums.{sum_cons}
use Rattle.lola_meaning.specs.Typed.{IsTyped, RightHasWidth, DrivesKind, SetsWidth, HasWidth, AreTyped, ClockFits}
use Rattle.lola_meaning.proofs.Numbers.{numbers_long}
use Rattle.lola_meaning.proofs.Tables.{TypedVector, typed_vector, typed_array, at_signal, number_is, flat_at, count_is, expression_translates, right_translates}
use Rattle.lola_meaning.proofs.Lookups.{path_counted, equation_at, update_at}
use Rattle.lola_meaning.proofs.KindTests.{no_clock, no_register, register_no_clock}
use Rattle.lola_meaning.proofs.ReadInside.{IsInner, inner}
use Rattle.lola_meaning.proofs.ClockNames.{clock_there, clock_from}
use Rattle.lola_meaning.proofs.Ordered.{is_ordered}
use Rattle.lola_meaning.proofs.RootPorts.{IsOuter, port_or_not, clock_path, ports_few}

-- the first numbers are those below
first_below : (k n : ℕ) → IsIn n (first_numbers k) → n < k
first_below zero n is = absurd is
first_below (suc k) n is = elim (but_last n k (first_numbers k) is) [ inl last ↦ omega arith | inr early ↦ let h = first_below k n early in omega arith ]

below_first : (k n : ℕ) → n < k → IsIn n (first_numbers k)
below_first zero n less = absurd (omega arith)
below_first (suc k) n less = elim (cases_lt n k) [
  | inl early ↦ in_front n (first_numbers k) (k ∷ []) (below_first k n early)
  | inr late ↦ in_back n (first_numbers k) (k ∷ []) (inl (omega arith))
]

-- paths that come once are distinct
distinct_paths : (xs : List Path) → ((x : Path) → count x xs ≤ 1) → AreDistinct xs
distinct_paths [] once = tt
distinct_paths (x ∷ xs) once = (
  λ is. let h = path_counted x xs is in let k = once x in let e : one_if (path_eq x x) ≡ 1 = rw (path_is x) refl in omega arith,
  distinct_paths xs (λ y. let k = once y in omega arith),
)

map_again : {X Y Z : Type 0} (f : Y → Z) (g : X → Y) (xs : List X) → map f (map g xs) ≡ map (λ (x : X). f (g x)) xs
map_again f g [] = refl
map_again f g (x ∷ xs) = ap (λ (l : List _). f (g x) ∷ l) (map_again f g xs)

-- the place of an update, by the type of its register
vector_whole : (S : SourceTree) (m : ModuleTree) (p : Path) (names : Names) (type : Shape) (place : Option ActualTree) (e : Tree) → SetsWidth S m p names type place e → IsVector type → place ≡ None
vector_whole S m p names (Vector c) None e sets is = refl
vector_whole S m p names (Vector c) (Some place) e sets is = absurd sets
vector_whole S m p names (Array n c) place e sets is = absurd is

array_part : (S : SourceTree) (m : ModuleTree) (p : Path) (names : Names) (type : Shape) (place : Option ActualTree) (e : Tree) → SetsWidth S m p names type place e → IsArray type → (a : ActualTree) × (place ≡ Some a)
array_part S m p names (Vector c) place e sets is = absurd is
array_part S m p names (Array n c) None e sets is = absurd sets
array_part S m p names (Array n c) (Some place) e sets is = (place, refl)

vector_or_array : (type : Shape) → IsVector type ⊎ IsArray type
vector_or_array (Vector c) = inl tt
vector_or_array (Array n c) = inr tt

module _ (S : SourceTree) (is_regular : IsRegular S) (typed : AreTyped S) (numbers : NumbersAll) (once : (x : Path) → count x (signal_paths S) ≤ 1) (order : List ℕ)
    (ordered : IsOrder (flat_graph (map (flat_signal S) (signals S))) order) (clocked : ClockFits S) where
  abbrev F : FlatTree
  F = flat_design S order

  abbrev ports : ℕ
  ports = port_count (reverse S.modules)

  -- what is read: vectors but the clock, arrays that are registers, and outside values of pads
  abbrev pub ReadsVector : ℕ → Type 0
  ReadsVector n = (y : Signal) × IsIn y (signals S) × (y.kind ≢ clock) × IsVector y.type × (n ≡ numbers_of S y.path)

  abbrev pub ReadsArray : ℕ → Type 0
  ReadsArray n = (y : Signal) × IsSignal S register y × IsArray y.type × (n ≡ numbers_of S y.path)

  abbrev pub ReadsPad : ℕ → Type 0
  ReadsPad n = (y : Signal) × IsSignal S pad y × (n ≡ numbers_of S y.path)

  abbrev pub IsReadHere : Read → Type 0
  IsReadHere (vector_of n) = ReadsVector n
  IsReadHere (array_of n) = ReadsArray n
  IsReadHere (outside_of n) = ReadsPad n

  abbrev IsInnerRead : Read → Type 0
  IsInnerRead r = IsInner ReadsVector ReadsArray r

  inner_here : (r : Read) → IsInnerRead r → IsReadHere r
  inner_here (vector_of n) is = is
  inner_here (array_of n) is = is
  inner_here (outside_of n) is = absurd is

  inner_not : (r : Read) → IsInnerRead r → NotOutside r
  inner_not (vector_of n) is = tt
  inner_not (array_of n) is = tt
  inner_not (outside_of n) is = absurd is

  expression_reads : (m : ModuleTree) (p : Path) (e : Tree) → IsTyped S m p e → AllByRecursion IsInnerRead (reads (translated (names_of m) (seen_from (numbers_of S) p) e))
  expression_reads m p e has = inner (names_of m) (seen_from (numbers_of S) p) ReadsVector ReadsArray e
      (λ r there. let x = has.vectors r there in (x.signal, x.there, x.no_clock, x.vector, ap (numbers_of S) (sym x.path_is)))
      (λ a there. let x = has.arrays a.0 (to_map (λ (b : Ref × Tree). b.0) a (elements_in e) there) in (x.signal, x.there, x.array, ap (numbers_of S) (sym x.path_is)))

  pub right_reads : (w : ℕ) (r : Right) → RightHasWidth S w r → AllByRecursion IsReadHere (reads (flat_right (numbers_of S) r))
  right_reads w (expression m p e) has = all_weaker IsInnerRead IsReadHere inner_here (reads (translated (names_of m) (seen_from (numbers_of S) p) e)) (expression_reads m p e has.0)
  right_reads w (copied other) has = ((has.signal, has.there, has.no_clock, has.vector, ap (numbers_of S) (sym has.path_is)), tt)
  right_reads w (driven m p drive release io) has =
      let a = translated (names_of m) (seen_from (numbers_of S) p) release in
      let b = translated (names_of m) (seen_from (numbers_of S) p) drive in
      all_append IsReadHere (reads a) (outside_of (numbers_of S io) ∷ (reads b ++ []))
      (all_weaker IsInnerRead IsReadHere inner_here (reads a) (expression_reads m p release has.1)) (
        (has.0.signal, has.0.there, ap (numbers_of S) (sym has.0.path_is)),
        all_append IsReadHere (reads b) [] (all_weaker IsInnerRead IsReadHere inner_here (reads b) (expression_reads m p drive has.3)) tt,
      )

  -- outside values stand in the equation of their own pad
  driven_left : (e : Equation) → IsIn e (flat_equations S) → (m : ModuleTree) (p : Path) (drive release : Tree) (io : Path) → e.right ≡ driven m p drive release io → e.left ≡ io
  driven_left e said m p drive release io right = let f = from_map flat_equation e (equations S) said in own f.0 e f.2 right
    where
      own : (f e : Equation) → e ≡ flat_equation f → e.right ≡ driven m p drive release io → e.left ≡ io
      own f e same right =
          ap (λ (d : Equation). d.left) same ∙ ap (flat_left f.left) (sym (ap (λ (d : Equation). d.right) same) ∙ right)

  -- a signal with what gives it its value
  abbrev flat_as : Signal → Kind → Option Right → Option Update → SignalTree
  flat_as x k r u = record {
    path = x.path;
    kind = flat_kind k;
    width = flat_width x.names x.type;
    count = flat_count x.names x.type;
    place = place_by k r u (numbers_of S);
    equation = equation_by k r u (numbers_of S);
  }

  -- the place of a signal that is a vector, and of an array
  none_by : (x : Signal) → IsIn x (signals S) → IsVector x.type → (k : Kind) → x.kind ≡ k → IsNone (place_by k (right_of (flat_equations S) x.path) (update_of (updates S) x.path) (numbers_of S))
  none_by x there is_vector clock kind = refl
  none_by x there is_vector input kind = refl
  none_by x there is_vector pad kind = refl
  none_by x there is_vector wire kind = refl
  none_by x there is_vector register kind =
      let u = update_at S is_regular.assigned x (there, kind) in
      let whole = vector_whole S u.0.module_ u.0.path x.names x.type u.0.place u.0.value (typed.updates_have u.0 u.1 x there (sym u.2)) is_vector in
      subst (λ (o : Option Update). IsNone (flat_place (numbers_of S) o)) (sym u.3)
      (subst (λ (o : Option ActualTree). IsNone (actual_place (names_of u.0.module_) (seen_from (numbers_of S) u.0.path) o)) (sym whole) refl)

  some_by : (x : Signal) → IsSignal S register x → IsArray x.type → IsSome (flat_place (numbers_of S) (update_of (updates S) x.path))
  some_by x stored is_array =
      let u = update_at S is_regular.assigned x stored in
      let part = array_part S u.0.module_ u.0.path x.names x.type u.0.place u.0.value (typed.updates_have u.0 u.1 x stored.0 (sym u.2)) is_array in
      subst (λ (o : Option Update). IsSome (flat_place (numbers_of S) o)) (sym u.3)
      (subst (λ (o : Option ActualTree). IsSome (actual_place (names_of u.0.module_) (seen_from (numbers_of S) u.0.path) o)) (sym part.1) refl)

  read_fits : (r : Read) → IsReadHere r → ReadFits F r
  read_fits (vector_of n) y =
      (flat_signal S y.0, (subst (λ (k : ℕ). IsFlatSignal F k (flat_signal S y.0)) (sym y.4) (flat_at S once y.0 y.1), none_by y.0 y.1 y.3 y.0.kind refl))
  read_fits (array_of n) y = (
    flat_signal S y.0,
    (
      subst (λ (k : ℕ). IsFlatSignal F k (flat_signal S y.0)) (sym y.3) (flat_at S once y.0 y.1.0),
      subst (λ (k : Kind). IsSome (place_by k (right_of (flat_equations S) y.0.path) (update_of (updates S) y.0.path) (numbers_of S))) (sym y.1.1) (some_by y.0 y.1 y.2),
    ),
  )
  read_fits (outside_of n) y =
      (flat_signal S y.0, (subst (λ (k : ℕ). IsFlatSignal F k (flat_signal S y.0)) (sym y.2) (flat_at S once y.0 y.1.0), ap flat_kind y.1.1))

  -- where a signal stands: what only the root's ports are is a port, and no register is
  named_at : (n : ℕ) (x : Signal) → slice_get (signals S) n ≡ Some x → x.path ≢ []
  named_at n x at = elim (port_or_not S n x at) [ inl root ↦ some_name x.path root.1.name root.1.path_is | inr other ↦ other.1.named ]
    where
      some_name : (p : Path) (name : List ℕ) → p ≡ name ∷ [] → p ≢ []
      some_name p name is e = let f : name ∷ [] ≡ [] = sym is ∙ e in cc

  outer_port : (n : ℕ) (x : Signal) → slice_get (signals S) n ≡ Some x → IsOuter x.kind → IsIn n F.ports
  outer_port n x at outer = elim (port_or_not S n x at) [ inl root ↦ below_first ports n root.0 | inr other ↦ absurd (other.1.inner outer) ]

  stored_no_port : (n : ℕ) (x : Signal) → slice_get (signals S) n ≡ Some x → x.kind ≡ register → IsIn n F.ports → ⊥
  stored_no_port n x at kind among = elim (port_or_not S n x at) [
    | inl root ↦ root.1.stored kind
    | inr other ↦ let less = first_below ports n among in let past : ports ≤ n = other.0 in omega arith
  ]

  input_port : (n : ℕ) (x : Signal) → slice_get (signals S) n ≡ Some x → (k : Kind) → x.kind ≡ k → flat_kind k ≡ Input → IsIn n F.ports
  input_port n x at clock kind is_input = outer_port n x at (subst IsOuter (sym kind) tt)
  input_port n x at input kind is_input = outer_port n x at (subst IsOuter (sym kind) tt)
  input_port n x at pad kind is_input = absurd (let e : Pad ≡ Input = is_input in cc)
  input_port n x at wire kind is_input = absurd (let e : Wire ≡ Input = is_input in cc)
  input_port n x at register kind is_input = absurd (let e : Register ≡ Input = is_input in cc)

  pad_port : (n : ℕ) (x : Signal) → slice_get (signals S) n ≡ Some x → (k : Kind) → x.kind ≡ k → flat_kind k ≡ Pad → IsIn n F.ports
  pad_port n x at clock kind is_pad = absurd (let e : Input ≡ Pad = is_pad in cc)
  pad_port n x at input kind is_pad = absurd (let e : Input ≡ Pad = is_pad in cc)
  pad_port n x at pad kind is_pad = outer_port n x at (subst IsOuter (sym kind) tt)
  pad_port n x at wire kind is_pad = absurd (let e : Wire ≡ Pad = is_pad in cc)
  pad_port n x at register kind is_pad = absurd (let e : Register ≡ Pad = is_pad in cc)

  stored_kind : (k : Kind) → flat_kind k ≡ Register → k ≡ register
  stored_kind clock e = absurd (let f : Input ≡ Register = e in cc)
  stored_kind input e = absurd (let f : Input ≡ Register = e in cc)
  stored_kind pad e = absurd (let f : Pad ≡ Register = e in cc)
  stored_kind wire e = absurd (let f : Wire ≡ Register = e in cc)
  stored_kind register e = refl

  -- the clock
  clock_formed : (o : Option (List ℕ)) → clock_name (signals S) ≡ o → ((n : ℕ) (s : SignalTree) → IsFlatSignal F n s → (e : ExprTree) → IsIn e (expressions s) → AllByRecursion IsReadHere (reads e)) → IfSome o (HasClock F)
  clock_formed None is all = tt
  clock_formed (Some name) is all =
      let y = clock_from (signals S) name is in
      let n = numbers_of S y.0.path in
      let at = at_signal S once y.0 y.1 in
      let type = typed_vector y.0.names y.0.type 1 (is_vector y.0 y.1 y.2) (clocked.wide y.0 (y.1, y.2)) in
      record {
        number = n;
        signal = flat_signal S y.0;
        is = flat_at S once y.0 y.1;
        port = outer_port n y.0 at (subst IsOuter (sym y.2) tt);
        kind = ap flat_kind y.2;
        width = type.width;
        path = clock_path S n y.0 at y.2 name y.3;
        unused = λ k s at_k e among read. no_use y.0 y.1 y.2 e (all k s at_k e among) read;
      }
    where
      is_vector : (y : Signal) → IsIn y (signals S) → y.kind ≡ clock → IsVector y.type
      is_vector y there kind = is_regular.vectors y there (λ e. clock_not (sym kind ∙ e))
        where
          clock_not : clock ≡ register → ⊥
          clock_not e = subst IsOuter e tt

      no_use : (y : Signal) → IsIn y (signals S) → y.kind ≡ clock → (e : ExprTree) → AllByRecursion IsReadHere (reads e) → IsIn (numbers_of S y.path) (map number_read (reads e)) → ⊥
      no_use y there kind e all read =
          let f = from_map number_read (numbers_of S y.path) (reads e) read in
          at_read f.0 (of_all IsReadHere f.0 (reads e) all f.1) f.2
        where
          same_number : (z : Signal) → IsIn z (signals S) → numbers_of S y.path ≡ numbers_of S z.path → y ≡ z
          same_number z z_there same = some_same y z (sym (at_signal S once y there) ∙ ap (slice_get (signals S)) same ∙ at_signal S once z z_there)

          at_read : (r : Read) → IsReadHere r → numbers_of S y.path ≡ number_read r → ⊥
          at_read (vector_of n) z same = z.2 (ap (λ (t : Signal). t.kind) (sym (same_number z.0 z.1 (same ∙ z.4))) ∙ kind)
          at_read (array_of n) z same = register_no_clock z.0.kind z.1.1 (ap (λ (t : Signal). t.kind) (sym (same_number z.0 z.1.0 (same ∙ z.3))) ∙ kind)
          at_read (outside_of n) z same =
              let e : pad ≡ clock = sym z.1.1 ∙ ap (λ (t : Signal). t.kind) (sym (same_number z.0 z.1.0 (same ∙ z.2))) ∙ kind in
              pad_no_clock e
            where
              pad_no_clock : pad ≡ clock → ⊥
              pad_no_clock e = no_clock pad (λ none. none) e

  -- a clock or an input
  vector_type : (x : Signal) → IsIn x (signals S) → x.kind ≢ register → (w : ℕ) × TypedVector x.names x.type w
  vector_type x there other = by_type x.names x.type (is_regular.vectors x there other) (typed.signals_have x there)
    where
      by_type : (names : Names) (type : Shape) → IsVector type → HasWidth names type → (w : ℕ) × TypedVector names type w
      by_type names (Vector c) is_vector has = (has.0, typed_vector names (Vector c) has.0 tt has.1)
      by_type names (Array n c) is_vector has = absurd is_vector

  abbrev right_at : Signal → Option Right
  right_at x = right_of (flat_equations S) x.path

  abbrev update_here : Signal → Option Update
  update_here x = update_of (updates S) x.path

  given_formed : (n : ℕ) (x : Signal) → slice_get (signals S) n ≡ Some x → (k : Kind) → x.kind ≡ k → k ≢ register → (r : Option Right) (u : Option Update) → flat_kind k ≡ Input → place_by k r u (numbers_of S) ≡ None → equation_by k r u (numbers_of S) ≡ None →
      IsFormedSignal F n (record { path = x.path; kind = Input; width = flat_width x.names x.type; count = flat_count x.names x.type; place = None; equation = None })
  given_formed n x at k kind other r u is_input no_place no_equation =
      let there = get_in (signals S) n x at in
      let t = vector_type x there (subst (λ (j : Kind). j ≢ register) (sym kind) other) in
      record {
        named = named_at n x at;
        inputs_are_ports = λ e. input_port n x at k kind is_input;
        pads_are_ports = λ e. absurd (let f : Input ≡ Pad = e in cc);
        registers_are_no_ports = λ e. absurd (let f : Input ≡ Register = e in cc);
        registers_have_a_clock = λ e. absurd (let f : Input ≡ Register = e in cc);
        equation = refl;
        count = t.1.count;
        reads = λ e none. absurd none;
        outside = λ e none. absurd none;
        wide = subst IsWidth (sym t.1.width) t.1.wide;
        equation_suits = tt;
        place_suits = tt;
      }

  -- a wire
  right_inside : (w : ℕ) (r : Right) → RightHasWidth S w r → DrivesKind wire r → AllByRecursion NotOutside (reads (flat_right (numbers_of S) r))
  right_inside w (expression m p e) has drives = all_weaker IsInnerRead NotOutside inner_not (reads (translated (names_of m) (seen_from (numbers_of S) p) e)) (expression_reads m p e has.0)
  right_inside w (copied other) has drives = (tt, tt)
  right_inside w (driven m p drive release io) has drives = absurd drives

  wired_reads : (w : ℕ) (r : Right) → RightHasWidth S w r → AllByRecursion (ReadFits F) (reads (flat_right (numbers_of S) r))
  wired_reads w r has = all_weaker IsReadHere (ReadFits F) read_fits (reads (flat_right (numbers_of S) r)) (right_reads w r has)

  only_equation : (P : ExprTree → Type 0) (f : ExprTree) → P f → (e : ExprTree) → IsIn e (f ∷ []) → P e
  only_equation P f is e (inl same) = subst P (sym same) is
  only_equation P f is e (inr none) = absurd none

  equation_suits : (w : ℕ) (r : Right) (x : Signal) (s : SignalTree) → RightHasWidth S w r → TypedVector x.names x.type w → s.width ≡ flat_width x.names x.type → EquationSuits F s (flat_right (numbers_of S) r)
  equation_suits w r x s has type wide =
      let t = right_translates S once numbers order w r has in
      record { fits = t.fits; width = t.is ∙ sym type.width ∙ sym wide }

  wire_formed : (n : ℕ) (x : Signal) → slice_get (signals S) n ≡ Some x → x.kind ≡ wire → (w : ℕ) (r : Right) → TypedVector x.names x.type w → RightHasWidth S w r → DrivesKind wire r →
      IsFormedSignal F n (record { path = x.path; kind = Wire; width = flat_width x.names x.type; count = flat_count x.names x.type; place = None; equation = Some (flat_right (numbers_of S) r) })
  wire_formed n x at kind w r type has drives =
      let s : SignalTree = record { path = x.path; kind = Wire; width = flat_width x.names x.type; count = flat_count x.names x.type; place = None; equation = Some (flat_right (numbers_of S) r) } in
      record {
        named = named_at n x at;
        inputs_are_ports = λ e. absurd (let f : Wire ≡ Input = e in cc);
        pads_are_ports = λ e. absurd (let f : Wire ≡ Pad = e in cc);
        registers_are_no_ports = λ e. absurd (let f : Wire ≡ Register = e in cc);
        registers_have_a_clock = λ e. absurd (let f : Wire ≡ Register = e in cc);
        equation = refl;
        count = type.count;
        reads = only_equation (λ (e : ExprTree). AllByRecursion (ReadFits F) (reads e)) (flat_right (numbers_of S) r) (wired_reads w r has);
        outside = only_equation (λ (e : ExprTree). AllByRecursion NotOutside (reads e)) (flat_right (numbers_of S) r) (right_inside w r has drives);
        wide = subst IsWidth (sym type.width) type.wide;
        equation_suits = equation_suits w r x s has type refl;
        place_suits = tt;
      }

  -- a pad
  pad_equation : (n w : ℕ) (e : Equation) → IsIn e (flat_equations S) → numbers_of S e.left ≡ n → (r : Right) → e.right ≡ r → RightHasWidth S w r → DrivesKind pad r → IsPadEquation n (flat_right (numbers_of S) r)
  pad_equation n w e said at (expression m p x) right has drives = absurd drives
  pad_equation n w e said at (copied other) right has drives = absurd drives
  pad_equation n w e said at (driven m p drive release io) right has drives =
      let a = translated (names_of m) (seen_from (numbers_of S) p) release in
      let b = translated (names_of m) (seen_from (numbers_of S) p) drive in
      record {
        release = a;
        value = b;
        is = ap (λ (k : ℕ). apply op.Mux (one_expr a (one_expr (from_outside k) (one_expr b no_expr)))) (ap (numbers_of S) (sym (driven_left e said m p drive release io right)) ∙ at);
        release_inside = all_weaker IsInnerRead NotOutside inner_not (reads a) (expression_reads m p release has.1);
        value_inside = all_weaker IsInnerRead NotOutside inner_not (reads b) (expression_reads m p drive has.3);
      }

  pad_formed : (n : ℕ) (x : Signal) → slice_get (signals S) n ≡ Some x → x.kind ≡ pad → (w : ℕ) (e : Equation) → IsIn e (flat_equations S) → e.left ≡ x.path → TypedVector x.names x.type w → RightHasWidth S w e.right → DrivesKind pad e.right →
      IsFormedSignal F n (record { path = x.path; kind = Pad; width = flat_width x.names x.type; count = flat_count x.names x.type; place = None; equation = Some (flat_right (numbers_of S) e.right) })
  pad_formed n x at kind w e said left type has drives =
      let s : SignalTree = record { path = x.path; kind = Pad; width = flat_width x.names x.type; count = flat_count x.names x.type; place = None; equation = Some (flat_right (numbers_of S) e.right) } in
      record {
        named = named_at n x at;
        inputs_are_ports = λ e. absurd (let f : Pad ≡ Input = e in cc);
        pads_are_ports = λ e. pad_port n x at pad kind refl;
        registers_are_no_ports = λ e. absurd (let f : Pad ≡ Register = e in cc);
        registers_have_a_clock = λ e. absurd (let f : Pad ≡ Register = e in cc);
        equation = refl;
        count = type.count;
        reads = only_equation (λ (e : ExprTree). AllByRecursion (ReadFits F) (reads e)) (flat_right (numbers_of S) e.right) (wired_reads w e.right has);
        outside = pad_equation n w e said (ap (numbers_of S) left ∙ number_is S once n x at) e.right refl has drives;
        wide = subst IsWidth (sym type.width) type.wide;
        equation_suits = equation_suits w e.right x s has type refl;
        place_suits = tt;
      }

  -- a register
  stored_expression : (m : ModuleTree) (p : Path) (e : Tree) → IsTyped S m p e → AllByRecursion (ReadFits F) (reads (translated (names_of m) (seen_from (numbers_of S) p) e))
  stored_expression m p e has =
      let f = translated (names_of m) (seen_from (numbers_of S) p) e in
      all_weaker IsReadHere (ReadFits F) read_fits (reads f) (all_weaker IsInnerRead IsReadHere inner_here (reads f) (expression_reads m p e has))

  stored_inside : (m : ModuleTree) (p : Path) (e : Tree) → IsTyped S m p e → AllByRecursion NotOutside (reads (translated (names_of m) (seen_from (numbers_of S) p) e))
  stored_inside m p e has = let f = translated (names_of m) (seen_from (numbers_of S) p) e in all_weaker IsInnerRead NotOutside inner_not (reads f) (expression_reads m p e has)

  two_expressions : (P : ExprTree → Type 0) (f g : ExprTree) → P f → P g → (e : ExprTree) → IsIn e (f ∷ g ∷ []) → P e
  two_expressions P f g a b e (inl same) = subst P (sym same) a
  two_expressions P f g a b e (inr (inl same)) = subst P (sym same) b
  two_expressions P f g a b e (inr (inr none)) = absurd none

  abbrev stored_as : Path → Names → Shape → ModuleTree → Path → Option ActualTree → Tree → SignalTree
  stored_as path names type m p place e = record {
    path = path;
    kind = Register;
    width = flat_width names type;
    count = flat_count names type;
    place = actual_place (names_of m) (seen_from (numbers_of S) p) place;
    equation = Some (translated (names_of m) (seen_from (numbers_of S) p) e);
  }

  register_formed : (n : ℕ) (x : Signal) → slice_get (signals S) n ≡ Some x → x.kind ≡ register → (names : Names) (type : Shape) (m : ModuleTree) (p : Path) (place : Option ActualTree) (e : Tree) → HasWidth names type → SetsWidth S m p names type place e →
      IsFormedSignal F n (stored_as x.path names type m p place e)
  register_formed n x at kind names (Vector c) m p None e has sets =
      let t = typed_vector names (Vector c) has.0 tt has.1 in
      let made = expression_translates S once numbers order m p e has.0 sets.0 (sets.1 ∙ has.1) in
      let f = translated (names_of m) (seen_from (numbers_of S) p) e in
      record {
        named = named_at n x at;
        inputs_are_ports = λ e. absurd (let f : Register ≡ Input = e in cc);
        pads_are_ports = λ e. absurd (let f : Register ≡ Pad = e in cc);
        registers_are_no_ports = λ e. stored_no_port n x at kind;
        registers_have_a_clock = λ e. let y = clocked.there x (get_in (signals S) n x at, kind) in clock_there (signals S) y.0 y.1.0 y.1.1;
        equation = refl;
        count = t.count;
        reads = only_equation (λ (e : ExprTree). AllByRecursion (ReadFits F) (reads e)) f (stored_expression m p e sets.0);
        outside = only_equation (λ (e : ExprTree). AllByRecursion NotOutside (reads e)) f (stored_inside m p e sets.0);
        wide = subst IsWidth (sym t.width) t.wide;
        equation_suits = record { fits = made.fits; width = made.is ∙ sym t.width };
        place_suits = tt;
      }
  register_formed n x at kind names (Vector c) m p (Some place) e has sets = absurd sets
  register_formed n x at kind names (Array k c) m p None e has sets = absurd sets
  register_formed n x at kind names (Array k c) m p (Some place) e has sets =
      let t = typed_array numbers names (Array k c) has.0 has.1 tt has.2 has.3 in
      let made = expression_translates S once numbers order m p e has.0 sets.0 (sets.1 ∙ has.2) in
      let where_ = expression_translates S once numbers order m p place.value has.1 sets.2 (sets.3 ∙ has.3) in
      let f = translated (names_of m) (seen_from (numbers_of S) p) e in
      let g = translated (names_of m) (seen_from (numbers_of S) p) place.value in
      record {
        named = named_at n x at;
        inputs_are_ports = λ e. absurd (let f : Register ≡ Input = e in cc);
        pads_are_ports = λ e. absurd (let f : Register ≡ Pad = e in cc);
        registers_are_no_ports = λ e. stored_no_port n x at kind;
        registers_have_a_clock = λ e. let y = clocked.there x (get_in (signals S) n x at, kind) in clock_there (signals S) y.0 y.1.0 y.1.1;
        equation = refl;
        count = (refl, (has.1, (t.places.0, (t.places.1, t.count))));
        reads = two_expressions (λ (e : ExprTree). AllByRecursion (ReadFits F) (reads e)) g f (stored_expression m p place.value sets.2) (stored_expression m p e sets.0);
        outside = two_expressions (λ (e : ExprTree). AllByRecursion NotOutside (reads e)) g f (stored_inside m p place.value sets.2) (stored_inside m p e sets.0);
        wide = subst IsWidth (sym t.width) t.wide;
        equation_suits = record { fits = made.fits; width = made.is ∙ sym t.width };
        place_suits = record {
          fits = where_.fits;
          places = subst (λ (w : ℕ). (1 ≤ w) × (w ≤ 10)) (sym where_.is) t.places;
          count = t.count ∙ ap (λ (w : ℕ). 2 ^ w) (sym where_.is);
        };
      }

  -- a signal of any kind
  formed_by : (n : ℕ) (x : Signal) → slice_get (signals S) n ≡ Some x → (k : Kind) → x.kind ≡ k → IsFormedSignal F n (flat_as x k (right_at x) (update_here x))
  formed_by n x at clock kind = given_formed n x at clock kind (λ e. subst IsOuter e tt) (right_at x) (update_here x) refl refl refl
  formed_by n x at input kind = given_formed n x at input kind (λ e. subst IsOuter e tt) (right_at x) (update_here x) refl refl refl
  formed_by n x at wire kind =
      let there = get_in (signals S) n x at in
      let f = equation_at S is_regular.assigned x there (ap has_equation kind) in
      let t = typed.equations_have f.0 f.1 x there (sym f.2) in
      let type = typed_vector x.names x.type t.0 (is_regular.vectors x there (λ e. wire_not (sym kind ∙ e))) t.1 in
      subst (λ (o : Option Right). IsFormedSignal F n (flat_as x wire o (update_here x))) (sym f.3)
      (wire_formed n x at kind t.0 f.0.right type t.2 (subst (λ (k : Kind). DrivesKind k f.0.right) kind t.3))
    where
      wire_not : wire ≡ register → ⊥
      wire_not e = no_register wire (λ none. none) e
  formed_by n x at pad kind =
      let there = get_in (signals S) n x at in
      let f = equation_at S is_regular.assigned x there (ap has_equation kind) in
      let t = typed.equations_have f.0 f.1 x there (sym f.2) in
      let type = typed_vector x.names x.type t.0 (is_regular.vectors x there (λ e. pad_not (sym kind ∙ e))) t.1 in
      subst (λ (o : Option Right). IsFormedSignal F n (flat_as x pad o (update_here x))) (sym f.3)
      (pad_formed n x at kind t.0 f.0 f.1 f.2 type t.2 (subst (λ (k : Kind). DrivesKind k f.0.right) kind t.3))
    where
      pad_not : pad ≡ register → ⊥
      pad_not e = no_register pad (λ none. none) e
  formed_by n x at register kind =
      let there = get_in (signals S) n x at in
      let u = update_at S is_regular.assigned x (there, kind) in
      subst (λ (o : Option Update). IsFormedSignal F n (flat_as x register (right_at x) o)) (sym u.3)
      (register_formed n x at kind x.names x.type u.0.module_ u.0.path u.0.place u.0.value (typed.signals_have x there) (typed.updates_have u.0 u.1 x there (sym u.2)))

  signal_formed : (n : ℕ) (s : SignalTree) → IsFlatSignal F n s → IsFormedSignal F n s
  signal_formed n s at =
      let f = from_get (flat_signal S) (signals S) n s at in
      subst (λ (t : SignalTree). IsFormedSignal F n t) f.2 (formed_by n f.0 f.1 f.0.kind refl)

  -- what the expressions of a signal read
  here_by : (x : Signal) → IsIn x (signals S) → (k : Kind) → x.kind ≡ k → (e : ExprTree) → IsIn e (expressions (flat_as x k (right_at x) (update_here x))) → AllByRecursion IsReadHere (reads e)
  here_by x there clock kind e among = absurd among
  here_by x there input kind e among = absurd among
  here_by x there wire kind e among =
      let f = equation_at S is_regular.assigned x there (ap has_equation kind) in
      let t = typed.equations_have f.0 f.1 x there (sym f.2) in
      only_equation (λ (e : ExprTree). AllByRecursion IsReadHere (reads e)) (flat_right (numbers_of S) f.0.right) (right_reads t.0 f.0.right t.2) e
      (subst (λ (o : Option Right). IsIn e (expressions (flat_as x wire o (update_here x)))) f.3 among)
  here_by x there pad kind e among =
      let f = equation_at S is_regular.assigned x there (ap has_equation kind) in
      let t = typed.equations_have f.0 f.1 x there (sym f.2) in
      only_equation (λ (e : ExprTree). AllByRecursion IsReadHere (reads e)) (flat_right (numbers_of S) f.0.right) (right_reads t.0 f.0.right t.2) e
      (subst (λ (o : Option Right). IsIn e (expressions (flat_as x pad o (update_here x)))) f.3 among)
  here_by x there register kind e among =
      let u = update_at S is_regular.assigned x (there, kind) in
      by_update x.names x.type u.0.module_ u.0.path u.0.place u.0.value (typed.updates_have u.0 u.1 x there (sym u.2)) (subst (λ (o : Option Update). IsIn e (expressions (flat_as x register (right_at x) o))) u.3 among)
    where
      here : (m : ModuleTree) (p : Path) (f : Tree) → IsTyped S m p f → AllByRecursion IsReadHere (reads (translated (names_of m) (seen_from (numbers_of S) p) f))
      here m p f has = let g = translated (names_of m) (seen_from (numbers_of S) p) f in all_weaker IsInnerRead IsReadHere inner_here (reads g) (expression_reads m p f has)

      by_update : (names : Names) (type : Shape) (m : ModuleTree) (p : Path) (place : Option ActualTree) (f : Tree) → SetsWidth S m p names type place f → IsIn e (expressions (stored_as x.path names type m p place f)) → AllByRecursion IsReadHere (reads e)
      by_update names (Vector c) m p None f sets among =
          only_equation (λ (e : ExprTree). AllByRecursion IsReadHere (reads e)) (translated (names_of m) (seen_from (numbers_of S) p) f) (here m p f sets.0) e among
      by_update names (Vector c) m p (Some place) f sets among = absurd sets
      by_update names (Array k c) m p None f sets among = absurd sets
      by_update names (Array k c) m p (Some place) f sets among =
          two_expressions (λ (e : ExprTree). AllByRecursion IsReadHere (reads e)) (translated (names_of m) (seen_from (numbers_of S) p) place.value) (translated (names_of m) (seen_from (numbers_of S) p) f)
          (here m p place.value sets.2) (here m p f sets.0) e among

  all_here : (n : ℕ) (s : SignalTree) → IsFlatSignal F n s → (e : ExprTree) → IsIn e (expressions s) → AllByRecursion IsReadHere (reads e)
  all_here n s at e among =
      let f = from_get (flat_signal S) (signals S) n s at in
      here_by f.0 (get_in (signals S) n f.0 f.1) f.0.kind refl e (subst (λ (t : SignalTree). IsIn e (expressions t)) (sym f.2) among)

  -- the elements are those of the source
  counts_are : (xs : List Signal) → ((x : Signal) → IsIn x xs → HasWidth x.names x.type) → sum_of (map (λ (s : SignalTree). s.count) (map (flat_signal S) xs)) ≡ sum (map (λ (x : Signal). elements x.names x.type) xs)
  counts_are [] all = refl
  counts_are (x ∷ xs) all = ap₂ (λ (a b : ℕ). a + b) (count_is numbers x.names x.type (all x (inl refl))) (counts_are xs (λ y there. all y (inr there))) ∙ sym (sum_cons (elements x.names x.type) (map (λ (y : Signal). elements y.names y.type) xs))

  pub formed : size S ≤ 65536 → IsFormed F
  formed small = record {
    ports = ap first_numbers (sym (numbers_long ports));
    ports_are_signals = subst (λ (k : ℕ). k ≤ length F.signals) (sym (numbers_long ports)) (subst (λ (k : ℕ). ports ≤ k) (sym (length-map (signals S) (flat_signal S))) (ports_few S));
    paths = subst (λ (l : List Path). AreDistinct l) (sym (map_again (λ (s : SignalTree). s.path) (flat_signal S) (signals S))) (distinct_paths (signal_paths S) once);
    clock = clock_formed (clock_name (signals S)) refl all_here;
    signals = signal_formed;
    order = is_ordered F signal_formed ordered;
    few = let e = counts_are (signals S) (λ x there. typed.signals_have x there) in omega arith;
  }
