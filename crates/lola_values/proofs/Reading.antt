-- What an expression of a well sized module reads: vectors that are signals but the clock, and arrays of registers.
use Rattle.std.proofs.Common.{◌≡◌, ◌≢◌, ℕ, true, false, cond, not, List, [], ◌∷◌, ◌++◌, Option, Some, None, refl, sym, ◌∙◌, ap, subst, inl, inr, ap₂}
use Rattle.std.specs.Option.{is_none}
use Rattle.std.proofs.lemmas.Bool.{and_parts, false≢true, false_from_ne_true}
use Rattle.lola_bits.specs.Lists.{IsIn}
use Rattle.lola_bits.specs.Names.{is_among}
use Rattle.lola_bits.proofs.Lists.{both_none, in_either, from_map}
use Rattle.lola_bits.proofs.Names.{same_name, is_same_name, is_in, among}
use Rattle.lola_bits.proofs.Tests.{none_unless, none_where}
use Rattle.lola_tree.specs.declared.named.Ref.{Ref}
use Rattle.lola_tree.specs.declared.named.Shape.{Shape}
use Rattle.lola_tree.specs.declared.named.Shape.TheVariants.{Vector, Array}
use Rattle.lola_tree.specs.declared.module.Way.TheVariants.{Inward}
use Rattle.lola_tree.specs.declared.module.LocalKind.{LocalKind}
use Rattle.lola_tree.specs.declared.module.LocalKind.TheVariants.{Reg, Var, Inst}
use Rattle.lola_tree.specs.declared.module.Local.{Local}
use Rattle.lola_tree.specs.Names.{Entry, port, constant, local, Names, names_of, ref_name, first_name, constant_number, kind_shape, entry_shape}
use Rattle.lola_tree.specs.Width.{Scope, scope_of, vector_width, entry_width, named_shape}
use Rattle.lola_tree.specs.Tree.{Tree, number, whole, bit, slice, index, concat, negation, binary, choice, Parts, no_part, one_part, ModuleTree, SourceTree}
use Rattle.lola_tree.specs.Value.{Path}
use Rattle.lola_tree.specs.design.Signals.{clock, register, Signal, signals}
use Rattle.lola_tree.specs.design.Cycle.{IsSignal}
use Rattle.lola_tree.specs.design.Chains.{name_in, names_in, part_names_in, elements_in, part_elements_in, arrays_in, paths_of}
use Rattle.lola_width.specs.declared.uses.Use.{Use}
use Rattle.lola_width.specs.declared.uses.Use.TheVariants as use_
use Rattle.lola_width.specs.Interface.{is_clock}
use Rattle.lola_width.specs.Sized.{clock_in}
use Rattle.lola_width.specs.NameFaults.{is_array, is_vector, is_both, suits, use_faults, count_faults, clock_read, value_faults, expr_faults, part_faults, type_faults, kind_faults}
use Rattle.lola_design.specs.Regular.{IsVector, IsArray, AreRead}
use Rattle.lola_regular.specs.Clocked.{seen_behind}
use Rattle.lola_regular.specs.Written.{IsOneName, IsWrittenTree, AreWrittenParts}
use Rattle.lola_regular.proofs.Named.{port_found, local_found}
use Rattle.lola_values.proofs.Types.{ports_vectors, local_clean, type_vector}
use Rattle.lola_values.proofs.Standing.{Shown, IsLocalShown, Stands}

vector_is : (type : Shape) → is_vector (Some type) ≡ true → IsVector type
vector_is (Vector width) e = tt
vector_is (Array count width) e = absurd (false≢true e)

array_is : (type : Shape) → is_array (Some type) ≡ true → IsArray type
array_is (Vector width) e = absurd (false≢true e)
array_is (Array count width) e = tt

not_both_types : (type : Shape) → is_array (Some type) ≡ true → IsVector type → ⊥
not_both_types (Vector width) e is = false≢true e
not_both_types (Array count width) e is = is

one_name : (r : Ref) → IsOneName r → r.path ≡ ref_name r ∷ []
one_name r is = is.1 ∙ ap (λ (n : List ℕ). n ∷ []) (sym (ap first_name is.1))

name_in_is : (scope : Scope) (r of : Ref) → IsIn r (name_in scope of) → (r ≡ of) × (scope.number of ≡ None)
name_in_is scope r of is = by_number (scope.number of) refl (subst (λ (o : Option ℕ). IsIn r (cond (is_none o) (of ∷ []) [])) refl is)
  where
    by_number : (o : Option ℕ) → scope.number of ≡ o → IsIn r (cond (is_none o) (of ∷ []) []) → (r ≡ of) × (scope.number of ≡ None)
    by_number None e (inl same) = (same, e)
    by_number None e (inr none) = absurd none
    by_number (Some n) e none = absurd none

-- a used name is declared, and suits
pub used_entry : (used : Use) (at : ℕ) (name : List ℕ) (o : Option Entry) → use_faults used at name o ≡ [] → (e : Entry) × (o ≡ Some e) × (suits used e ≡ true)
used_entry used at name None none = absurd (cc)
used_entry used at name (Some e) none = (e, refl, none_unless (suits used e) _ none)

-- a declaration that is a signal where it has a type: any but an IN port that is the clock
abbrev pub IsOpen : List (List ℕ) → Entry → Type 0
IsOpen clocks (port q) = q.way ≡ Inward → is_among clocks q.name ≡ false
IsOpen clocks (constant c) = Unit {0}
IsOpen clocks (local l) = Unit {0}

module _ (S : SourceTree) (m : ModuleTree) (p : Path) (clocks : List (List ℕ)) (s : Stands S m p clocks) where
  abbrev pub the_clock : Option (List ℕ)
  the_clock = clock_in (seen_behind s.earlier) m

  -- the clock by its faults and by the design
  pub no_clock_name : (n : List ℕ) → is_clock the_clock n ≡ false → is_among clocks n ≡ false
  no_clock_name n other = false_from_ne_true (is_among clocks n) (λ is.
      let there = (s.clocked n).0 (subst (λ (l : List (List ℕ)). IsIn n l) s.clocks_are (is_in n clocks is)) in
      false≢true (sym other ∙ ap (λ (o : Option (List ℕ)). is_clock o n) there ∙ same_name n n refl))

  pub no_name_clock : (n : List ℕ) → is_among clocks n ≡ false → is_clock the_clock n ≡ false
  no_name_clock n other = false_from_ne_true (is_clock the_clock n) (λ is.
      let e = is_named the_clock n is in
      false≢true (sym other ∙ among n clocks (subst (λ (l : List (List ℕ)). IsIn n l) (sym s.clocks_are) ((s.clocked n).1 e))))
    where
      is_named : (o : Option (List ℕ)) (n : List ℕ) → is_clock o n ≡ true → o ≡ Some n
      is_named None n e = absurd (false≢true e)
      is_named (Some c) n e = ap (λ (k : List ℕ). Some k) (is_same_name c n e)

  -- what is read as a vector, and as an array
  abbrev pub VectorRead : Ref → Type 0
  VectorRead r = (x : Signal) × IsIn x (signals S) × (x.kind ≢ clock) × IsVector x.type × (x.path ≡ p ++ r.path) × ((scope_of m).width r ≡ vector_width x.names (Some x.type))

  abbrev pub ArrayRead : Ref → Type 0
  ArrayRead r = (x : Signal) × IsSignal S register x × IsArray x.type × (x.path ≡ p ++ r.path) × (named_shape (names_of m (ref_name r)) ≡ Some x.type) × (x.names ≡ names_of m)

  pub at_ref : (r : Ref) → IsOneName r → (n : List ℕ) → ref_name r ≡ n → p ++ n ∷ [] ≡ p ++ r.path
  at_ref r one n same = ap (λ (k : Path). p ++ k) (ap (λ (k : List ℕ). k ∷ []) (sym same) ∙ sym (one_name r one))

  shown_read : (r : Ref) (path : Path) (type : Shape) → Shown S path type (names_of m) → IsVector type → path ≡ p ++ r.path → (scope_of m).width r ≡ vector_width (names_of m) (Some type) → VectorRead r
  shown_read r path type x is same wide =
      (x.signal, x.there, x.no_clock, subst IsVector (sym x.type_is) is, x.path_is ∙ same, wide ∙ ap₂ (λ (n : Names) (t : Shape). vector_width n (Some t)) (sym x.names_are) (sym x.type_is))

  local_read : (r : Ref) (l : Local) (k : LocalKind) → is_vector (kind_shape k) ≡ true → IsLocalShown S (p ++ l.name ∷ []) (names_of m) k → p ++ l.name ∷ [] ≡ p ++ r.path → (scope_of m).width r ≡ vector_width (names_of m) (kind_shape k) → VectorRead r
  local_read r l (Reg under type) e x same wide = shown_read r (p ++ l.name ∷ []) type x.0 (vector_is type e) same wide
  local_read r l (Var type) e x same wide = shown_read r (p ++ l.name ∷ []) type x (vector_is type e) same wide
  local_read r l (Inst of) e x same wide = absurd (false≢true e)

  pub open_read : (r : Ref) → IsOneName r → (e : Entry) → names_of m (ref_name r) ≡ Some e → is_vector (entry_shape e) ≡ true → IsOpen clocks e → VectorRead r
  open_read r one (port q) named fits free =
      let f = port_found m (ref_name r) q named in
      shown_read r (p ++ q.name ∷ []) q.shape (s.port q f.0 free) (vector_is q.shape fits) (at_ref r one q.name f.1) (ap (entry_width (names_of m)) named)
  open_read r one (constant c) named fits free = absurd (false≢true fits)
  open_read r one (local l) named fits free =
      let f = local_found m (ref_name r) l named in
      local_read r l l.kind fits (s.local l f.0) (at_ref r one l.name f.1) (ap (entry_width (names_of m)) named)

  entry_read : (r : Ref) → IsOneName r → (e : Entry) → names_of m (ref_name r) ≡ Some e → suits use_.Value e ≡ true → constant_number (Some e) ≡ None → is_clock the_clock (ref_name r) ≡ false → VectorRead r
  entry_read r one (port q) named fits free no_clock =
      let f = port_found m (ref_name r) q named in
      let parts = and_parts (not (is_both q.way)) (is_vector (Some q.shape)) fits in
      open_read r one (port q) named parts.1 (λ inward. no_clock_name q.name (subst (λ (n : List ℕ). is_clock the_clock n ≡ false) f.1 no_clock))
  entry_read r one (constant c) named fits free no_clock = absurd (let e : Some c.value ≡ None = free in cc)
  entry_read r one (local l) named fits free no_clock = open_read r one (local l) named fits tt

  pub value_read : (r : Ref) → IsOneName r → value_faults (names_of m) the_clock r ≡ [] → (scope_of m).number r ≡ None → VectorRead r
  value_read r one none free =
      let split = both_none (use_faults use_.Value r.at (ref_name r) (names_of m (ref_name r))) (clock_read the_clock r.at (ref_name r)) none in
      let u = used_entry use_.Value r.at (ref_name r) (names_of m (ref_name r)) split.0 in
      entry_read r one u.0 u.1 u.2 (ap constant_number (sym u.1) ∙ free) (none_where (is_clock the_clock (ref_name r)) _ split.1)

  kind_array : (r : Ref) (l : Local) → IsIn l m.locals → (k : LocalKind) → l.kind ≡ k → is_array (kind_shape k) ≡ true → IsLocalShown S (p ++ l.name ∷ []) (names_of m) k → p ++ l.name ∷ [] ≡ p ++ r.path → named_shape (names_of m (ref_name r)) ≡ kind_shape k → ArrayRead r
  kind_array r l there (Reg under type) kind e x same shaped =
      (x.0.signal, (x.0.there, x.1), subst IsArray (sym x.0.type_is) (array_is type e), x.0.path_is ∙ same, shaped ∙ ap (λ (t : Shape). Some t) (sym x.0.type_is), x.0.names_are)
  kind_array r l there (Var type) kind e x same shaped =
      let none = local_clean (names_of m) (seen_behind s.earlier) the_clock m.locals s.clean.locals l there in
      let typed : type_faults (names_of m) false l.at l.name type ≡ [] = subst (λ (k : LocalKind). kind_faults (names_of m) (seen_behind s.earlier) the_clock l.at l.name k ≡ []) kind none in
      absurd (not_both_types type e (type_vector (names_of m) l.at l.name type typed))
  kind_array r l there (Inst of) kind e x same shaped = absurd (false≢true e)

  pub array_entry : (r : Ref) → IsOneName r → (e : Entry) → names_of m (ref_name r) ≡ Some e → suits use_.Indexed e ≡ true → ArrayRead r
  array_entry r one (port q) named fits = let f = port_found m (ref_name r) q named in absurd (not_both_types q.shape fits (ports_vectors (names_of m) m.ports s.clean.ports q f.0))
  array_entry r one (constant c) named fits = absurd (false≢true fits)
  array_entry r one (local l) named fits = let f = local_found m (ref_name r) l named in kind_array r l f.0 l.kind refl fits (s.local l f.0) (at_ref r one l.name f.1) (ap named_shape named)

  pub array_read : (r : Ref) → IsOneName r → use_faults use_.Indexed r.at (ref_name r) (names_of m (ref_name r)) ≡ [] → ArrayRead r
  array_read r one none = let u = used_entry use_.Indexed r.at (ref_name r) (names_of m (ref_name r)) none in array_entry r one u.0 u.1 u.2

  of_name : (of r : Ref) → IsOneName of → value_faults (names_of m) the_clock of ≡ [] → IsIn r (name_in (scope_of m) of) → VectorRead r
  of_name of r one none is = let f = name_in_is (scope_of m) r of is in subst VectorRead (sym f.0) (value_read of one none f.1)

  mutual
    pub names_read : (e : Tree) → IsWrittenTree e → expr_faults (names_of m) the_clock e ≡ [] → (r : Ref) → IsIn r (names_in (scope_of m) e) → VectorRead r
    names_read (number n written at) one none r is = absurd is
    names_read (whole of) one none r is = of_name of r one none is
    names_read (bit of place at) one none r is = of_name of r one (both_none (value_faults (names_of m) the_clock of) (count_faults (names_of m) place) none).0 is
    names_read (slice of high low at) one none r is = of_name of r one (both_none (value_faults (names_of m) the_clock of) (count_faults (names_of m) high ++ count_faults (names_of m) low) none).0 is
    names_read (index of place at) one none r is =
        names_read place one.1 (both_none (use_faults use_.Indexed of.at (ref_name of) (names_of m (ref_name of))) (expr_faults (names_of m) the_clock place) none).1 r is
    names_read (concat no_part at) one none r is = absurd one
    names_read (concat (one_part e times behind) at) one none r is =
        let split = both_none (expr_faults (names_of m) the_clock e) (count_faults (names_of m) times ++ part_faults (names_of m) the_clock behind) none in
        let more = both_none (count_faults (names_of m) times) (part_faults (names_of m) the_clock behind) split.1 in
        elim (in_either r (names_in (scope_of m) e) (part_names_in (scope_of m) behind) is) [ inl here ↦ names_read e one.0 split.0 r here | inr later ↦ parts_read behind one.1 more.1 r later ]
    names_read (negation e at) one none r is = names_read e one none r is
    names_read (binary o a b at) one none r is =
        let split = both_none (expr_faults (names_of m) the_clock a) (expr_faults (names_of m) the_clock b) none in
        elim (in_either r (names_in (scope_of m) a) (names_in (scope_of m) b) is) [ inl left ↦ names_read a one.1 split.0 r left | inr right ↦ names_read b one.2 split.1 r right ]
    names_read (choice test first second at) one none r is =
        let split = both_none (expr_faults (names_of m) the_clock test) (expr_faults (names_of m) the_clock first ++ expr_faults (names_of m) the_clock second) none in
        let more = both_none (expr_faults (names_of m) the_clock first) (expr_faults (names_of m) the_clock second) split.1 in
        elim (in_either r (names_in (scope_of m) test) (names_in (scope_of m) first ++ names_in (scope_of m) second) is) [
          | inl asked ↦ names_read test one.0 split.0 r asked
          | inr rest ↦ elim (in_either r (names_in (scope_of m) first) (names_in (scope_of m) second) rest) [ inl yes_one ↦ names_read first one.1 more.0 r yes_one | inr no_one ↦ names_read second one.2 more.1 r no_one ]
        ]

    parts_read : (ps : Parts) → AreWrittenParts ps → part_faults (names_of m) the_clock ps ≡ [] → (r : Ref) → IsIn r (part_names_in (scope_of m) ps) → VectorRead r
    parts_read no_part one none r is = absurd is
    parts_read (one_part e times behind) one none r is =
        let split = both_none (expr_faults (names_of m) the_clock e) (count_faults (names_of m) times ++ part_faults (names_of m) the_clock behind) none in
        let more = both_none (count_faults (names_of m) times) (part_faults (names_of m) the_clock behind) split.1 in
        elim (in_either r (names_in (scope_of m) e) (part_names_in (scope_of m) behind) is) [ inl here ↦ names_read e one.0 split.0 r here | inr later ↦ parts_read behind one.1 more.1 r later ]

  mutual
    pub elements_read : (e : Tree) → IsWrittenTree e → expr_faults (names_of m) the_clock e ≡ [] → (a : Ref × Tree) → IsIn a (elements_in e) → ArrayRead a.0
    elements_read (number n written at) one none a is = absurd is
    elements_read (whole of) one none a is = absurd is
    elements_read (bit of place at) one none a is = absurd is
    elements_read (slice of high low at) one none a is = absurd is
    elements_read (index of place at) one none a (inl same) =
        let split = both_none (use_faults use_.Indexed of.at (ref_name of) (names_of m (ref_name of))) (expr_faults (names_of m) the_clock place) none in
        subst (λ (b : Ref × Tree). ArrayRead b.0) (sym same) (array_read of one.0 split.0)
    elements_read (index of place at) one none a (inr later) =
        elements_read place one.1 (both_none (use_faults use_.Indexed of.at (ref_name of) (names_of m (ref_name of))) (expr_faults (names_of m) the_clock place) none).1 a later
    elements_read (concat no_part at) one none a is = absurd one
    elements_read (concat (one_part e times behind) at) one none a is =
        let split = both_none (expr_faults (names_of m) the_clock e) (count_faults (names_of m) times ++ part_faults (names_of m) the_clock behind) none in
        let more = both_none (count_faults (names_of m) times) (part_faults (names_of m) the_clock behind) split.1 in
        elim (in_either a (elements_in e) (part_elements_in behind) is) [ inl here ↦ elements_read e one.0 split.0 a here | inr later ↦ part_elements_read behind one.1 more.1 a later ]
    elements_read (negation e at) one none a is = elements_read e one none a is
    elements_read (binary o x y at) one none a is =
        let split = both_none (expr_faults (names_of m) the_clock x) (expr_faults (names_of m) the_clock y) none in
        elim (in_either a (elements_in x) (elements_in y) is) [ inl left ↦ elements_read x one.1 split.0 a left | inr right ↦ elements_read y one.2 split.1 a right ]
    elements_read (choice test first second at) one none a is =
        let split = both_none (expr_faults (names_of m) the_clock test) (expr_faults (names_of m) the_clock first ++ expr_faults (names_of m) the_clock second) none in
        let more = both_none (expr_faults (names_of m) the_clock first) (expr_faults (names_of m) the_clock second) split.1 in
        elim (in_either a (elements_in test) (elements_in first ++ elements_in second) is) [
          | inl asked ↦ elements_read test one.0 split.0 a asked
          | inr rest ↦ elim (in_either a (elements_in first) (elements_in second) rest) [ inl yes_one ↦ elements_read first one.1 more.0 a yes_one | inr no_one ↦ elements_read second one.2 more.1 a no_one ]
        ]

    part_elements_read : (ps : Parts) → AreWrittenParts ps → part_faults (names_of m) the_clock ps ≡ [] → (a : Ref × Tree) → IsIn a (part_elements_in ps) → ArrayRead a.0
    part_elements_read no_part one none a is = absurd is
    part_elements_read (one_part e times behind) one none a is =
        let split = both_none (expr_faults (names_of m) the_clock e) (count_faults (names_of m) times ++ part_faults (names_of m) the_clock behind) none in
        let more = both_none (count_faults (names_of m) times) (part_faults (names_of m) the_clock behind) split.1 in
        elim (in_either a (elements_in e) (part_elements_in behind) is) [ inl here ↦ elements_read e one.0 split.0 a here | inr later ↦ part_elements_read behind one.1 more.1 a later ]

  -- what an expression reads at the path
  pub expression_read : (e : Tree) → IsWrittenTree e → expr_faults (names_of m) the_clock e ≡ [] → AreRead S (paths_of p (names_in (scope_of m) e)) (paths_of p (arrays_in e))
  expression_read e one none = record {
    vector = λ y is.
        let f = from_map (λ (r : Ref). p ++ r.path) y (names_in (scope_of m) e) is in
        let x = names_read e one none f.0 f.1 in
        (x.0, x.1, x.2, x.3, x.4 ∙ sym f.2);
    array = λ y is.
        let f = from_map (λ (r : Ref). p ++ r.path) y (arrays_in e) is in
        let g = from_map (λ (a : Ref × Tree). a.0) f.0 (elements_in e) f.1 in
        let x = elements_read e one none g.0 g.1 in
        (x.0, x.1, x.2, x.3 ∙ ap (λ (r : Ref). p ++ r.path) (sym g.2) ∙ sym f.2);
  }
