-- The names and the assigned values of a well sized module have widths.
use Rattle.std.proofs.Common.{◌≡◌, ℕ, Bool, true, false, not, List, [], ◌∷◌, ◌++◌, Option, Some, None, refl, sym, subst, inl, inr}
use Rattle.std.specs.List.{AllByRecursion}
use Rattle.std.proofs.lemmas.Bool.{and_parts, false≢true}
use Rattle.lola_bits.specs.Lists.{IsIn}
use Rattle.lola_bits.proofs.Lists.{both_none}
use Rattle.lola_bits.proofs.All.{of_all}
use Rattle.lola_bits.proofs.Tests.{none_unless}
use Rattle.lola_tree.specs.declared.named.Ref.{Ref}
use Rattle.lola_tree.specs.declared.named.Shape.{Shape}
use Rattle.lola_tree.specs.declared.named.Shape.TheVariants.{Vector, Array}
use Rattle.lola_tree.specs.declared.module.Port.{Port}
use Rattle.lola_tree.specs.declared.module.Const.{Const}
use Rattle.lola_tree.specs.declared.module.LocalKind.{LocalKind}
use Rattle.lola_tree.specs.declared.module.LocalKind.TheVariants.{Reg, Var, Inst}
use Rattle.lola_tree.specs.declared.module.Local.{Local}
use Rattle.lola_tree.specs.Names.{Entry, port, constant, local, Names, names_of, kind_shape, ref_name}
use Rattle.lola_tree.specs.Tree.{Tree, ActualTree, StmtTree, assignment, ModuleTree}
use Rattle.lola_tree.specs.Width.{scope_of, is_number, vector_width, element_width, elements_width, entry_width, named_shape, element_width, width}
use Rattle.lola_width.specs.declared.uses.Use.TheVariants as use_
use Rattle.lola_width.specs.Interface.{Seen}
use Rattle.lola_width.specs.Sized.{clock_in}
use Rattle.lola_width.specs.NameFaults.{is_both, is_vector, is_array, suits, use_faults, clock_read, value_faults, expr_faults, no_clock, type_faults, port_faults, kind_faults, stmt_faults}
use Rattle.lola_width.specs.WidthFaults.{shape_widths, port_widths, kind_widths, local_widths, number_faults, const_widths, differ, name_width, expr_widths, stmt_widths, body_widths}
use Rattle.lola_regular.specs.Clocked.{seen_behind}
use Rattle.lola_regular.specs.Written.{IsWrittenTree, IsWrittenStmt, IsWrittenModule}
use Rattle.lola_regular.proofs.Clean.{IsClean, AllClean}
use Rattle.lola_regular.proofs.Named.{port_found, const_found, local_found}
use Rattle.lola_values.proofs.Types.{type_vector, local_clean}
use Rattle.lola_values.proofs.Reading.{used_entry}
use Rattle.lola_regular.proofs.PadsPassed.{stmt_free}
use Rattle.lola_values.proofs.Known.{Known, NumbersAll, number_known, vector_known, array_known, value_known}

-- what is clean of one port, local name, constant and statement
port_typed : (names : Names) (ps : List Port) → port_faults names ps ≡ [] → port_widths names ps ≡ [] → (q : Port) → IsIn q ps → (type_faults names false q.at q.name q.shape ≡ []) × (shape_widths names q.shape ≡ [])
port_typed names [] none sized q is = absurd is
port_typed names (p ∷ ps) none sized q is =
    let a = both_none (type_faults names false p.at p.name p.shape) (port_faults names ps) none in
    let b = both_none (shape_widths names p.shape) (port_widths names ps) sized in
    elim is [
      | inl same ↦ subst (λ (k : Port). (type_faults names false k.at k.name k.shape ≡ []) × (shape_widths names k.shape ≡ [])) (sym same) (a.0, b.0)
      | inr later ↦ port_typed names ps a.1 b.1 q later
    ]

local_sized : (names : Names) (ls : List Local) → local_widths names ls ≡ [] → (l : Local) → IsIn l ls → kind_widths names l.kind ≡ []
local_sized names [] sized l is = absurd is
local_sized names (k ∷ ls) sized l is =
    let b = both_none (kind_widths names k.kind) (local_widths names ls) sized in
    elim is [ inl same ↦ subst (λ (j : Local). kind_widths names j.kind ≡ []) (sym same) b.0 | inr later ↦ local_sized names ls b.1 l later ]

const_sized : (cs : List Const) → const_widths cs ≡ [] → (c : Const) → IsIn c cs → number_faults c.value c.width c.number_at ≡ []
const_sized [] sized c is = absurd is
const_sized (d ∷ cs) sized c is =
    let b = both_none (number_faults d.value d.width d.number_at) (const_widths cs) sized in
    elim is [ inl same ↦ subst (λ (j : Const). number_faults j.value j.width j.number_at ≡ []) (sym same) b.0 | inr later ↦ const_sized cs b.1 c later ]

pub stmt_sized : (names : Names) (seen : Seen) (ts : List StmtTree) → body_widths names seen ts ≡ [] → (t : StmtTree) → IsIn t ts → stmt_widths names seen t ≡ []
stmt_sized names seen [] sized t is = absurd is
stmt_sized names seen (u ∷ ts) sized t is =
    let b = both_none (stmt_widths names seen u) (body_widths names seen ts) sized in
    elim is [ inl same ↦ subst (λ (j : StmtTree). stmt_widths names seen j ≡ []) (sym same) b.0 | inr later ↦ stmt_sized names seen ts b.1 t later ]

typed_vector : (names : Names) (reg : Bool) (at : ℕ) (name : List ℕ) (type : Shape) → is_vector (Some type) ≡ true → type_faults names reg at name type ≡ [] → shape_widths names type ≡ [] → Known (vector_width names (Some type))
typed_vector names reg at name (Vector width) is none sized = vector_known names reg at name width none sized
typed_vector names reg at name (Array count width) is none sized = absurd (false≢true is)

typed_array : NumbersAll → (names : Names) (at : ℕ) (name : List ℕ) (type : Shape) → is_array (Some type) ≡ true → type_faults names true at name type ≡ [] → shape_widths names type ≡ [] → Known (element_width names (Some type)) × Known (elements_width names (Some type))
typed_array numbers names at name (Vector width) is none sized = absurd (false≢true is)
typed_array numbers names at name (Array count width) is none sized = let a = array_known numbers names true at name count width none sized in (a.element, (a.bits, a.low, a.place))

typed_known : (names : Names) (at : ℕ) (name : List ℕ) (type : Shape) → type_faults names false at name type ≡ [] → shape_widths names type ≡ [] → Known (vector_width names (Some type))
typed_known names at name (Vector width) none sized = vector_known names false at name width none sized
typed_known names at name (Array count width) none sized = absurd (type_vector names at name (Array count width) none)

no_array : (names : Names) (at : ℕ) (name : List ℕ) (type : Shape) {T : Type 0} → is_array (Some type) ≡ true → type_faults names false at name type ≡ [] → T
no_array names at name (Vector width) is none = absurd (false≢true is)
no_array names at name (Array count width) is none = absurd (type_vector names at name (Array count width) none)

module _ (numbers : NumbersAll) (seen : Seen) (m : ModuleTree) (clean : IsClean seen m) where
  abbrev own : Names
  own = names_of m

  kind_vector : (l : Local) → IsIn l m.locals → (k : LocalKind) → l.kind ≡ k → is_vector (kind_shape k) ≡ true → Known (vector_width own (kind_shape k))
  kind_vector l there (Reg under type) kind is =
      let none = subst (λ (k : LocalKind). kind_faults own seen (clock_in seen m) l.at l.name k ≡ []) kind (local_clean own seen (clock_in seen m) m.locals clean.locals l there) in
      let sized = subst (λ (k : LocalKind). kind_widths own k ≡ []) kind (local_sized own m.locals clean.wide_locals l there) in
      typed_vector own true l.at l.name type is (both_none (no_clock own (clock_in seen m) under.at under.name (own under.name)) (type_faults own true l.at l.name type) none).1 sized
  kind_vector l there (Var type) kind is =
      let none = subst (λ (k : LocalKind). kind_faults own seen (clock_in seen m) l.at l.name k ≡ []) kind (local_clean own seen (clock_in seen m) m.locals clean.locals l there) in
      let sized = subst (λ (k : LocalKind). kind_widths own k ≡ []) kind (local_sized own m.locals clean.wide_locals l there) in
      typed_vector own false l.at l.name type is none sized
  kind_vector l there (Inst of) kind is = absurd (false≢true is)

  kind_array : (l : Local) → IsIn l m.locals → (k : LocalKind) → l.kind ≡ k → is_array (kind_shape k) ≡ true → Known (element_width own (kind_shape k)) × Known (elements_width own (kind_shape k))
  kind_array l there (Reg under type) kind is =
      let none = subst (λ (k : LocalKind). kind_faults own seen (clock_in seen m) l.at l.name k ≡ []) kind (local_clean own seen (clock_in seen m) m.locals clean.locals l there) in
      let sized = subst (λ (k : LocalKind). kind_widths own k ≡ []) kind (local_sized own m.locals clean.wide_locals l there) in
      typed_array numbers own l.at l.name type is (both_none (no_clock own (clock_in seen m) under.at under.name (own under.name)) (type_faults own true l.at l.name type) none).1 sized
  kind_array l there (Var type) kind is =
      let none = subst (λ (k : LocalKind). kind_faults own seen (clock_in seen m) l.at l.name k ≡ []) kind (local_clean own seen (clock_in seen m) m.locals clean.locals l there) in
      no_array own l.at l.name type is none
  kind_array l there (Inst of) kind is = absurd (false≢true is)

  entry_vector : (name : List ℕ) (e : Entry) → own name ≡ Some e → suits use_.Value e ≡ true → Known (entry_width own (Some e))
  entry_vector name (port q) named is =
      let t = port_typed own m.ports clean.ports clean.wide_ports q (port_found m name q named).0 in
      typed_vector own false q.at q.name q.shape (and_parts (not (is_both q.way)) (is_vector (Some q.shape)) is).1 t.0 t.1
  entry_vector name (constant c) named is =
      number_known c.value c.width (none_unless (is_number c.value c.width) _ (const_sized m.consts clean.wide_consts c (const_found m name c named).0))
  entry_vector name (local l) named is = kind_vector l (local_found m name l named).0 l.kind refl is

  pub entry_array : (name : List ℕ) (e : Entry) → own name ≡ Some e → suits use_.Indexed e ≡ true → Known (element_width own (named_shape (Some e))) × Known (elements_width own (named_shape (Some e)))
  entry_array name (port q) named is = no_array own q.at q.name q.shape is (port_typed own m.ports clean.ports clean.wide_ports q (port_found m name q named).0).0
  entry_array name (constant c) named is = absurd (false≢true is)
  entry_array name (local l) named is = kind_array l (local_found m name l named).0 l.kind refl is

  -- what is read has a width
  pub name_known : (r : Ref) → value_faults own (clock_in seen m) r ≡ [] → Known (entry_width own (own (ref_name r)))
  name_known r none =
      let split = both_none (use_faults use_.Value r.at (ref_name r) (own (ref_name r))) (clock_read (clock_in seen m) r.at (ref_name r)) none in
      let u = used_entry use_.Value r.at (ref_name r) (own (ref_name r)) split.0 in
      subst (λ (o : Option Entry). Known (entry_width own o)) (sym u.1) (entry_vector (ref_name r) u.0 u.1 u.2)

  pub element_known : (r : Ref) → use_faults use_.Indexed r.at (ref_name r) (own (ref_name r)) ≡ [] → Known ((scope_of m).element r) × Known ((scope_of m).place r)
  element_known r none =
      let u = used_entry use_.Indexed r.at (ref_name r) (own (ref_name r)) none in
      subst (λ (o : Option Entry). Known (element_width own (named_shape o)) × Known (elements_width own (named_shape o))) (sym u.1) (entry_array (ref_name r) u.0 u.1 u.2)

  -- a port has a width, and so has an INOUT port by its name
  pub port_known : (q : Port) → IsIn q m.ports → Known (vector_width own (Some q.shape))
  port_known q there = let t = port_typed own m.ports clean.ports clean.wide_ports q there in typed_known own q.at q.name q.shape t.0 t.1

  pub pad_known : (at : ℕ) (name : List ℕ) → use_faults use_.Pad at name (own name) ≡ [] → Known (entry_width own (own name))
  pad_known at name none = let u = used_entry use_.Pad at name (own name) none in subst (λ (o : Option Entry). Known (entry_width own o)) (sym u.1) (entry_pad u.0 u.1 u.2)
    where
      entry_pad : (e : Entry) → own name ≡ Some e → suits use_.Pad e ≡ true → Known (entry_width own (Some e))
      entry_pad (port q) named is = port_known q (port_found m name q named).0
      entry_pad (constant c) named is = absurd (false≢true is)
      entry_pad (local l) named is = absurd (false≢true is)

  -- an expression without faults has one
  pub expression_known : (e : Tree) → IsWrittenTree e → expr_faults own (clock_in seen m) e ≡ [] → expr_widths (scope_of m) e ≡ [] → Known (width (scope_of m) e)
  expression_known e good none sized = value_known m (clock_in seen m) name_known element_known e good none sized

  value_sized : (name : List ℕ) (place : Option ActualTree) (e : Tree) (at equals : ℕ) → stmt_widths own seen (assignment name place e at equals) ≡ [] → expr_widths (scope_of m) e ≡ []
  value_sized name None e at equals sized = (both_none (expr_widths (scope_of m) e) (differ equals (name_width own name) (width (scope_of m) e)) sized).0
  value_sized name (Some place) e at equals sized =
      let a = both_none (expr_widths (scope_of m) place.value) _ sized in
      let b = both_none (differ place.at (elements_width own (named_shape (own name))) (width (scope_of m) place.value)) _ a.1 in
      (both_none (expr_widths (scope_of m) e) (differ equals (element_width own (named_shape (own name))) (width (scope_of m) e)) b.1).0

  pub assigned_known : IsWrittenModule m → (name : List ℕ) (place : Option ActualTree) (e : Tree) (at equals : ℕ) → IsIn (assignment name place e at equals) m.body → Known (width (scope_of m) e)
  assigned_known written name place e at equals there =
      let t = assignment name place e at equals in
      let none = stmt_free own seen (clock_in seen m) m.body clean.body t there in
      let sized = stmt_sized own seen m.body clean.wide_body t there in
      let good = of_all IsWrittenStmt t m.body written there in
      expression_known e good.1 (assigned_of name place e at equals none) (value_sized name place e at equals sized)
    where
      assigned_of : (name : List ℕ) (place : Option ActualTree) (x : Tree) (at equals : ℕ) → stmt_faults own seen (clock_in seen m) (assignment name place x at equals) ≡ [] → expr_faults own (clock_in seen m) x ≡ []
      assigned_of name None x at equals none = (both_none (use_faults use_.Assigned at name (own name)) (expr_faults own (clock_in seen m) x) none).1
      assigned_of name (Some place) x at equals none =
          let split = both_none (use_faults use_.ElementAssigned at name (own name)) (expr_faults own (clock_in seen m) place.value ++ expr_faults own (clock_in seen m) x) none in
          (both_none (expr_faults own (clock_in seen m) place.value) (expr_faults own (clock_in seen m) x) split.1).1

-- the module among those that are clean
clean_of : (ms : List ModuleTree) → AllClean ms → (m : ModuleTree) → IsIn m ms → (seen : Seen) × IsClean seen m
clean_of [] clean m is = absurd is
clean_of (k ∷ earlier) clean m is = elim is [
  | inl same ↦ (seen_behind earlier, subst (λ (j : ModuleTree). IsClean (seen_behind earlier) j) (sym same) clean.0)
  | inr later ↦ clean_of earlier clean.1 m later
]

pub assigned_wide : NumbersAll → (ms : List ModuleTree) → AllClean ms → AllByRecursion IsWrittenModule ms → (m : ModuleTree) → IsIn m ms → (name : List ℕ) (place : Option ActualTree) (e : Tree) (at equals : ℕ) →
    IsIn (assignment name place e at equals) m.body → Known (width (scope_of m) e)
assigned_wide numbers ms clean written m there name place e at equals said =
    let k = clean_of ms clean m there in
    assigned_known numbers k.0 m k.1 (of_all IsWrittenModule m ms written there) name place e at equals said
