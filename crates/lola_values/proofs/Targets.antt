-- What is set in a well sized module, or driven as a pad, is a vector that is a signal, or an array of a register.
use Rattle.std.proofs.Common.{◌≡◌, ℕ, Bool, true, false, cond, List, [], ◌∷◌, Some, None, refl, sym, ◌∙◌, ap, subst}
use Rattle.std.proofs.lemmas.Bool.{false≢true}
use Rattle.lola_bits.specs.Lists.{IsIn}
use Rattle.lola_bits.specs.Names.{is_among}
use Rattle.lola_tree.specs.declared.named.Ref.{Ref}
use Rattle.lola_tree.specs.declared.named.Shape.{Shape}
use Rattle.lola_tree.specs.declared.named.Shape.TheVariants.{Vector, Array}
use Rattle.lola_tree.specs.declared.module.Way.TheVariants.{Inward}
use Rattle.lola_tree.specs.declared.module.Port.{Port}
use Rattle.lola_tree.specs.declared.module.LocalKind.{LocalKind}
use Rattle.lola_tree.specs.declared.module.LocalKind.TheVariants.{Reg, Var, Inst}
use Rattle.lola_tree.specs.declared.module.Local.{Local}
use Rattle.lola_tree.specs.Names.{Entry, port, constant, local, names_of, entry_shape, kind_shape, ref_name}
use Rattle.lola_tree.specs.Signals.{is_outward}
use Rattle.lola_tree.specs.Tree.{ModuleTree, SourceTree}
use Rattle.lola_tree.specs.Value.{Path}
use Rattle.lola_tree.specs.Width.{scope_of, vector_width, entry_width}
use Rattle.lola_width.specs.declared.uses.Use.TheVariants as use_
use Rattle.lola_width.specs.Sized.{clock_in}
use Rattle.lola_width.specs.NameFaults.{is_vector, is_array, is_both, is_variable, suits, use_faults, kind_faults}
use Rattle.lola_design.specs.Regular.{IsVector}
use Rattle.lola_regular.specs.Clocked.{seen_behind}
use Rattle.lola_regular.specs.Written.{IsOneName}
use Rattle.lola_regular.proofs.Named.{are_distinct, port_named, port_found, local_found}
use Rattle.lola_values.proofs.Types.{type_vector, ports_vectors, local_clean}
use Rattle.lola_values.proofs.Standing.{Stands}
use Rattle.lola_values.proofs.Reading.{used_entry, IsOpen, VectorRead, ArrayRead, open_read, array_entry}

-- a name of a module, as a reference
abbrev pub name_ref : List ℕ → Ref
name_ref name = record { source = false; path = name ∷ []; at = 0 }

vector_test : (type : Shape) → IsVector type → is_vector (Some type) ≡ true
vector_test (Vector width) is = refl
vector_test (Array count width) is = absurd is

-- a type where a test passes
vector_where : (b : Bool) (type : Shape) → is_vector (cond b (Some type) None) ≡ true → (b ≡ true) × (is_vector (Some type) ≡ true)
vector_where true type is = (refl, is)
vector_where false type is = absurd (false≢true is)

array_where : (b : Bool) (type : Shape) → is_array (cond b (Some type) None) ≡ true → is_array (Some type) ≡ true
array_where true type is = is
array_where false type is = absurd (false≢true is)

pub element_entry : (e : Entry) → suits use_.ElementAssigned e ≡ true → suits use_.Indexed e ≡ true
element_entry (port q) is = array_where (is_outward q.way) q.shape is
element_entry (constant c) is = is
element_entry (local l) is = is

module _ (S : SourceTree) (m : ModuleTree) (p : Path) (clocks : List (List ℕ)) (s : Stands S m p clocks) where
  -- a vector that is a signal
  abbrev IsTarget : Entry → Type 0
  IsTarget e = (is_vector (entry_shape e) ≡ true) × IsOpen clocks e

  port_target : (q : Port) → IsIn q m.ports → (q.way ≡ Inward → is_among clocks q.name ≡ false) → IsTarget (port q)
  port_target q there free = (vector_test q.shape (ports_vectors (names_of m) m.ports s.clean.ports q there), free)

  outward_open : (q : Port) → is_outward q.way ≡ true → q.way ≡ Inward → is_among clocks q.name ≡ false
  outward_open q out inward = absurd (false≢true (sym (ap is_outward inward) ∙ out))

  assigned_target : (e : Entry) → suits use_.Assigned e ≡ true → IsTarget e
  assigned_target (port q) is = let w = vector_where (is_outward q.way) q.shape is in (w.1, outward_open q w.0)
  assigned_target (constant c) is = absurd (false≢true is)
  assigned_target (local l) is = (is, tt)

  variable_vector : (l : Local) → IsIn l m.locals → (k : LocalKind) → l.kind ≡ k → is_variable k ≡ true → is_vector (kind_shape k) ≡ true
  variable_vector l there (Reg under type) kind is = absurd (false≢true is)
  variable_vector l there (Var type) kind is =
      let seen = seen_behind s.earlier in
      let none = local_clean (names_of m) seen (clock_in seen m) m.locals s.clean.locals l there in
      vector_test type (type_vector (names_of m) l.at l.name type (subst (λ (k : LocalKind). kind_faults (names_of m) seen (clock_in seen m) l.at l.name k ≡ []) kind none))
  variable_vector l there (Inst of) kind is = absurd (false≢true is)

  receiver_target : (name : List ℕ) (e : Entry) → names_of m name ≡ Some e → suits use_.Receiver e ≡ true → IsTarget e
  receiver_target name (port q) named is = port_target q (port_found m name q named).0 (outward_open q is)
  receiver_target name (constant c) named is = absurd (false≢true is)
  receiver_target name (local l) named is = (variable_vector l (local_found m name l named).0 l.kind refl is, tt)

  pad_target : (name : List ℕ) (e : Entry) → names_of m name ≡ Some e → suits use_.Pad e ≡ true → IsTarget e
  pad_target name (port q) named is = port_target q (port_found m name q named).0 (λ inward. absurd (false≢true (sym (ap is_both inward) ∙ is)))
  pad_target name (constant c) named is = absurd (false≢true is)
  pad_target name (local l) named is = absurd (false≢true is)

  -- by the faults of a use
  module _ (r : Ref) (one : IsOneName r) (at : ℕ) where
    pub assigned_read : use_faults use_.Assigned at (ref_name r) (names_of m (ref_name r)) ≡ [] → VectorRead S m p clocks s r
    assigned_read none =
        let u = used_entry use_.Assigned at (ref_name r) (names_of m (ref_name r)) none in
        let t = assigned_target u.0 u.2 in
        open_read S m p clocks s r one u.0 u.1 t.0 t.1

    pub receiver_read : use_faults use_.Receiver at (ref_name r) (names_of m (ref_name r)) ≡ [] → VectorRead S m p clocks s r
    receiver_read none =
        let u = used_entry use_.Receiver at (ref_name r) (names_of m (ref_name r)) none in
        let t = receiver_target (ref_name r) u.0 u.1 u.2 in
        open_read S m p clocks s r one u.0 u.1 t.0 t.1

    pub pad_read : use_faults use_.Pad at (ref_name r) (names_of m (ref_name r)) ≡ [] → VectorRead S m p clocks s r
    pad_read none =
        let u = used_entry use_.Pad at (ref_name r) (names_of m (ref_name r)) none in
        let t = pad_target (ref_name r) u.0 u.1 u.2 in
        open_read S m p clocks s r one u.0 u.1 t.0 t.1

    pub element_read : use_faults use_.ElementAssigned at (ref_name r) (names_of m (ref_name r)) ≡ [] → ArrayRead S m p clocks s r
    element_read none =
        let u = used_entry use_.ElementAssigned at (ref_name r) (names_of m (ref_name r)) none in
        array_entry S m p clocks s r one u.0 u.1 (element_entry u.0 u.2)

  -- a port but the clock, by its name
  pub port_width : (q : Port) → IsIn q m.ports → (scope_of m).width (name_ref q.name) ≡ vector_width (names_of m) (Some q.shape)
  port_width q there = ap (entry_width (names_of m)) (port_named m q (are_distinct m s.clean.doubled) there)

  pub port_read : (q : Port) → IsIn q m.ports → (q.way ≡ Inward → is_among clocks q.name ≡ false) → VectorRead S m p clocks s (name_ref q.name)
  port_read q there free =
      let t = port_target q there free in
      open_read S m p clocks s (name_ref q.name) (q.name, refl) (port q) (port_named m q (are_distinct m s.clean.doubled) there) t.0 t.1
