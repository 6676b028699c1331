-- A module whose parts were read is in the small form, and what was read is its design; the reverse
-- holds of a module in the small form.
use Rattle.std.proofs.Common.{◌≡◌, ℕ, ◌+◌, ◌≤◌, Bool, true, List, [], ◌∷◌, ◌++◌, length, map, Option, Some, None, Vec, Global, refl, sym, ◌∙◌, ap, ap₂, subst, arith, inl, inr, ◌⊎◌}
use Rattle.std.specs.Prelude.{filter, not, ◌&&◌, slice_get}
use Rattle.std.specs.List.{AllByRecursion}
use Rattle.std.specs.String.{string_bytes}
use Rattle.std.specs.BTreeMap.{get_by_text}
use Rattle.std.proofs.lemmas.Bool.{false≢true}
use Rattle.std.proofs.lemmas.List.{map-append, length-map}
use Rattle.lola_bits.proofs.Places.{get_in, get_map, get_front, get_back, get_or_zero}
use Rattle.lola_bits.specs.Lists.{IsIn, AreDistinct}
use Rattle.lola_bits.specs.Names.{is_among}
use Rattle.lola_bits.proofs.All.{of_all, all_of}
use Rattle.lola_bits.proofs.Lists.{to_map, from_map, in_front, in_back, in_either, in_filter, from_filter}
use Rattle.lola_bits.proofs.Names.{among, is_in}
use Rattle.lola_tree.specs.declared.named.Ref.{Ref}
use Rattle.lola_tree.specs.declared.named.Shape.{Shape}
use Rattle.lola_tree.specs.declared.named.Shape.TheVariants as shape
use Rattle.lola_tree.specs.declared.module.Way.{Way}
use Rattle.lola_tree.specs.declared.module.Way.TheVariants.{Inward, Outward, Both}
use Rattle.lola_tree.specs.declared.module.Port.{Port}
use Rattle.lola_tree.specs.declared.module.LocalKind.{LocalKind}
use Rattle.lola_tree.specs.declared.module.Local.{Local}
use Rattle.lola_tree.specs.Tree.{Tree, number, whole, bit, slice, index, concat, negation, binary, choice, Parts, no_part, one_part, StmtTree, assignment, call, pad, ModuleTree}
use Rattle.lola_tree.specs.Names.{port, local, entry_name, entries, names_of, kind_shape, constant_number, count_number}
use Rattle.lola_tree.specs.Width.{Scope as Widths, vector_width, entry_width, width, scope_of}
use Rattle.lola_tree.specs.Value.{Values, or_zero}
use Rattle.lola_tree.specs.Cycle.{IsRegisterOf, names_at, Next, NextBy}
use Rattle.lola_tree.specs.Signals.{is_inward, clock_names, input_names, register_names, values_of, is_outward}
use Rattle.lola_elab.specs.declared.design.Design.{Design}
use Rattle.lola_elab.specs.declared.flat.Flat.{Flat}
use Rattle.lola_elab.specs.declared.meaning.Meaning.{Meaning}
use Rattle.lola_elab.specs.declared.meaning.Meaning.TheVariants as meaning
use Rattle.lola_elab.specs.declared.signals.Signals.{Signals}
use Rattle.lola_elab.specs.declared.vector.Vector.{Vector}
use Rattle.lola_elab.specs.Flat.{flat_width, flat_number}
use Rattle.lola_elab.specs.Small.{Wide, wide_in, IsVector, IsSmallPort, IsSmallKind, IsReadable, IsConstantOf, IsLeaf, IsTarget, IsBuilt, AreBuilt, IsSmallStmt, target_of, IsSmallModule}
use Rattle.lola_elab.specs.Elaborated.{leaf_names, vector_names, vector_widths, widths_of, leaf_widths, Elaborates}
use Rattle.lola_elab.specs.Declares.{port_names, local_names, first_clock, Sized, sized, sized_port, sized_local, kind_width, outputs, wide_of, const_entry}
use Rattle.lola_elab.specs.Signals.{Declares}
use Rattle.lola_elab.specs.Tables.{updated, leaf_entries}
use Rattle.lola_elab.specs.Meanings.{HasMeaning, AreOf, ReadsLeaves}
use Rattle.lola_elab.specs.Assigned.{target_names, IsWhole, AssignsOnce, IsSizedStmt, IsNextOf, AreNexts, IsWellAssigned, HasNexts}
use Rattle.lola_elab.specs.Modules.{one_module}
use Rattle.lola_elab.proofs.Names.{is_register, register_listed, is_input, input_listed}
use Rattle.lola_elab.proofs.Entries.{port_named, local_named}
use Rattle.lola_elab.proofs.OneCycle.{assigned_target}
use Rattle.lola_elab.proofs.Statements.{sized_of}
use Rattle.lola_elab.proofs.Tables.{updated_in, updated_some, updated_there, leaf_in, leaf_there, no_constant_leaf, Stands, IsTableOf, const_stands, are_of, reference_is, is_reference}
use Rattle.lola_elab.proofs.Declared.{distinct_entries, wides_are}
use Rattle.lola_elab.proofs.WellDeclared.{reg_of, kinds_of, one_clock, clock_port, inputs_are, registers_are}
use Rattle.lola_elab.proofs.Widths.{checked_is}

-- an expression over some names is one over more names
mutual
  pub built_over : (P Q : Ref → Type 0) → ((r : Ref) → P r → Q r) → (e : Tree) → IsBuilt P e → IsBuilt Q e
  built_over P Q more (number n width at) is = is
  built_over P Q more (whole of) is = more of is
  built_over P Q more (bit of place at) is = more of is
  built_over P Q more (slice of high low at) is = more of is
  built_over P Q more (index of place at) is = is
  built_over P Q more (concat parts at) is = parts_over P Q more parts is
  built_over P Q more (negation e at) is = built_over P Q more e is
  built_over P Q more (binary o a b at) is = (built_over P Q more a is.0, built_over P Q more b is.1)
  built_over P Q more (choice test first second at) is = (built_over P Q more test is.0, built_over P Q more first is.1, built_over P Q more second is.2)

  parts_over : (P Q : Ref → Type 0) → ((r : Ref) → P r → Q r) → (ps : Parts) → AreBuilt P ps → AreBuilt Q ps
  parts_over P Q more no_part is = is
  parts_over P Q more (one_part e times behind) is = (built_over P Q more e is.0, parts_over P Q more behind is.1)

-- names and widths, taken apart
just_widths : (vs : List Vector) → vector_widths vs ≡ map (λ (x : Sized). x.1) (map sized vs)
just_widths [] = refl
just_widths (v ∷ vs) = ap (λ (l : List ℕ). v.width ∷ l) (just_widths vs)

just_names : (vs : List Vector) → vector_names vs ≡ map (λ (x : Sized). x.0) (map sized vs)
just_names [] = refl
just_names (v ∷ vs) = ap (λ (l : List (List ℕ)). string_bytes v.name ∷ l) (just_names vs)

port_list : (wide : Wide) (ps : List Port) → map (λ (x : Sized). x.0) (map (sized_port wide) ps) ≡ map (λ (p : Port). p.name) ps
port_list wide [] = refl
port_list wide (p ∷ ps) = ap (λ (l : List (List ℕ)). p.name ∷ l) (port_list wide ps)

local_list : (wide : Wide) (ls : List Local) → map (λ (x : Sized). x.0) (map (sized_local wide) ls) ≡ local_names ls
local_list wide [] = refl
local_list wide (l ∷ ls) = ap (λ (n : List (List ℕ)). l.name ∷ n) (local_list wide ls)

widths_each : (f : List ℕ → Option ℕ) (xs : List Sized) → ((x : Sized) → IsIn x xs → f x.0 ≡ Some x.1) →
    map (λ (w : ℕ). Some w) (map (λ (x : Sized). x.1) xs) ≡ map f (map (λ (x : Sized). x.0) xs)
widths_each f [] each = refl
widths_each f (x ∷ xs) each =
    ap₂ (λ (a : Option ℕ) (b : List (Option ℕ)). a ∷ b) (sym (each x (inl refl))) (widths_each f xs (λ y is. each y (inr is)))

outward : (way : Way) → is_outward way ≡ true → way ≡ Outward
outward Inward e = absurd (false≢true e)
outward Outward e = refl
outward Both e = absurd (false≢true e)

of_stands : (m : ModuleTree) (q : List ℕ) (x : Meaning) → Stands m q x → IsReadable m q ⊎ IsConstantOf m q
of_stands m q (meaning.Leaf n w) s = inl s.0
of_stands m q (meaning.Constant w v) s = inr (s.0, s.1, s.2)

-- what is wanted is a target
pub wanted_target : (m : ModuleTree) (name : List ℕ) → AllByRecursion (λ (l : Local). IsSmallKind (wide_in m) l.kind) m.locals → is_among (target_names m.ports m.locals) name ≡ true → IsTarget m name
wanted_target m name kinds wanted = elim (in_either name (port_names (filter (λ (p : Port). is_outward p.way) m.ports)) (local_names m.locals) (is_in name (target_names m.ports m.locals) wanted)) [
  | inl out ↦
      let found = from_map (λ (p : Port). p.name) name (filter (λ (p : Port). is_outward p.way) m.ports) out in
      let kept = from_filter (λ (p : Port). is_outward p.way) found.0 m.ports found.1 in
      inl (found.0, kept.0, outward found.0.way kept.1, found.2)
  | inr own ↦
      let found = from_map (λ (l : Local). l.name) name m.locals own in
      let l = found.0 in
      let reg = reg_of (wide_in m) l.kind (of_all (λ (l : Local). IsSmallKind (wide_in m) l.kind) l m.locals kinds found.1) in
      inr (reg.0.name, reg.1, record { local = l; under = reg.0; declared = found.1; kind = reg.2; named = found.2; clocked = refl })
]

pub target_wanted : (m : ModuleTree) (name : List ℕ) → IsTarget m name → is_among (target_names m.ports m.locals) name ≡ true
target_wanted m name (inl (p, declared, out, named)) =
    among name (target_names m.ports m.locals) (in_front name (port_names (filter (λ (p : Port). is_outward p.way) m.ports)) (local_names m.locals)
    (subst (λ (n : List ℕ). IsIn n (port_names (filter (λ (p : Port). is_outward p.way) m.ports))) (sym named)
    (to_map (λ (p : Port). p.name) p (filter (λ (p : Port). is_outward p.way) m.ports) (in_filter (λ (p : Port). is_outward p.way) p m.ports declared (ap is_outward out)))))
target_wanted m name (inr (clock, type, r)) =
    among name (target_names m.ports m.locals) (in_back name (port_names (filter (λ (p : Port). is_outward p.way) m.ports)) (local_names m.locals)
    (subst (λ (n : List ℕ). IsIn n (local_names m.locals)) (sym r.named) (to_map (λ (l : Local). l.name) r.local m.locals r.declared)))

whole_stmt : (m : ModuleTree) (t : StmtTree) → IsSmallStmt m t → IsWhole t
whole_stmt m (assignment name None e at equals) small = tt
whole_stmt m (assignment name (Some place) e at equals) small = small
whole_stmt m (call name args at) small = small
whole_stmt m (pad io inner drive release at) small = small

all_once : (m : ModuleTree) → IsSmallModule m → AssignsOnce (is_among (target_names m.ports m.locals)) m.body
all_once m small = record {
  whole = all_of IsWhole m.body (λ t is. whole_stmt m t (of_all (IsSmallStmt m) t m.body small.statements is));
  once = small.once;
  only = λ name is.
      let found = from_map target_of name m.body is in
      target_wanted m name (subst (λ (n : List ℕ). IsTarget m n) (sym found.2) (assigned_target m found.0 (of_all (IsSmallStmt m) found.0 m.body small.statements found.1)));
  each = λ name wanted. small.each name (wanted_target m name small.registers wanted);
}

all_there : (m : ModuleTree) → IsSmallModule m → AllByRecursion (λ (name : List ℕ). IsIn name (map target_of m.body)) (register_names m.locals)
all_there m small = all_of (λ (name : List ℕ). IsIn name (map target_of m.body)) (register_names m.locals) (λ name is. small.each name (inr (is_register m name is)))

module _ (m : ModuleTree) (s : Signals) (d : Declares m s) where
  distinct : AreDistinct (map entry_name (entries m))
  distinct = distinct_entries m d.declared.distinct

  under : AllByRecursion (λ (l : Local). IsSmallKind (wide_in m) l.kind) m.locals
  under = kinds_of (wide_in m) (first_clock m.locals) m.locals d.declared.registers

  -- a vector that is declared has a width
  wide_is : (o : Option ℕ) (w : ℕ) → (v : ℕ) × (o ≡ Some v) → w ≡ or_zero o → o ≡ Some w
  wide_is o w (v, e) is = e ∙ ap (λ (n : ℕ). Some n) (sym (is ∙ ap or_zero e))

  type_width : (type : Shape) (w : ℕ) → IsVector (wide_in m) type → w ≡ or_zero (wide_in m type) → vector_width (names_of m) (Some type) ≡ Some w
  type_width type w is same = wide_is (wide_in m type) w (is.width, is.is) same

  in_range : (type : Shape) (w : ℕ) → vector_width (names_of m) (Some type) ≡ Some w → (1 ≤ w) × (w ≤ 128)
  in_range (shape.Vector count) w e = let c = checked_is (count_number (names_of m) count) w e in (c.1, c.2)
  in_range (shape.Array items count) w e = absurd (let f : None ≡ Some w = e in cc)

  -- ports and registers of a width
  sized_register : (q : List ℕ) (w : ℕ) → IsIn (q, w) (map (sized_local (wide_in m)) m.locals) →
      ((clock : List ℕ) × (type : Shape) × IsRegisterOf m q clock type × (vector_width (names_of m) (Some type) ≡ Some w))
  sized_register q w is =
      let f = from_map (sized_local (wide_in m)) (q, w) m.locals is in
      let l = f.0 in
      let small = of_all (λ (l : Local). IsSmallKind (wide_in m) l.kind) l m.locals under f.1 in
      let r = reg_of (wide_in m) l.kind small in
      let named : q ≡ l.name = ap (λ (x : Sized). x.0) f.2 in
      let wide : w ≡ or_zero (wide_in m r.1) = ap (λ (x : Sized). x.1) f.2 ∙ ap (λ (k : LocalKind). kind_width (wide_in m) (kind_shape k)) r.2 in
      (r.0.name, r.1, record { local = l; under = r.0; declared = f.1; kind = r.2; named = named; clocked = refl }, type_width r.1 w (subst (IsSmallKind (wide_in m)) r.2 small) wide)

  register_entry : (q : List ℕ) (clock : List ℕ) (type : Shape) (w : ℕ) → IsRegisterOf m q clock type → vector_width (names_of m) (Some type) ≡ Some w →
      (entry_width (names_of m) (names_of m q) ≡ Some w) × (constant_number (names_of m q) ≡ None)
  register_entry q clock type w r wide =
      let named : names_of m q ≡ Some (local r.local) = ap (names_of m) r.named ∙ local_named m r.local distinct r.declared in (
        ap (entry_width (names_of m)) named ∙ ap (λ (k : LocalKind). vector_width (names_of m) (kind_shape k)) r.kind ∙ wide,
        ap constant_number named,
      )

  port_entry : (q : List ℕ) (p : Port) (w : ℕ) → IsIn p m.ports → q ≡ p.name → vector_width (names_of m) (Some p.shape) ≡ Some w →
      (entry_width (names_of m) (names_of m q) ≡ Some w) × (constant_number (names_of m q) ≡ None)
  port_entry q p w is same wide =
      let named : names_of m q ≡ Some (port p) = ap (names_of m) same ∙ port_named m p distinct is in
      (ap (entry_width (names_of m)) named ∙ wide, ap constant_number named)

  sized_in : (test : Port → Bool) (q : List ℕ) (w : ℕ) → IsIn (q, w) (map (sized_port (wide_in m)) (filter test m.ports)) →
      (p : Port) × IsIn p m.ports × (test p ≡ true) × (q ≡ p.name) × (vector_width (names_of m) (Some p.shape) ≡ Some w)
  sized_in test q w is =
      let f = from_map (sized_port (wide_in m)) (q, w) (filter test m.ports) is in
      let k = from_filter test f.0 m.ports f.1 in
      let small = of_all (IsSmallPort (wide_in m)) f.0 m.ports d.declared.ports k.0 in
      (f.0, k.0, k.1, ap (λ (x : Sized). x.0) f.2, type_width f.0.shape w small.1 (ap (λ (x : Sized). x.1) f.2))

  -- the inputs as they are listed
  listed_inputs : map sized s.inputs.items ≡ map (sized_port (wide_in m)) (filter (λ (p : Port). is_inward p.way && not (is_among (clock_names m.locals) p.name)) m.ports)
  listed_inputs = d.inputs ∙ ap (λ (ps : List Port). map (sized_port (wide_in m)) ps) (inputs_are (wide_in m) m d.declared.registers)

  leaves_in : (q : List ℕ) (w : ℕ) → IsIn (q, w) (map sized s.inputs.items ++ map sized s.registers.items) →
      IsReadable m q × (entry_width (names_of m) (names_of m q) ≡ Some w) × (constant_number (names_of m q) ≡ None) × (1 ≤ w) × (w ≤ 128)
  leaves_in q w is = elim (in_either (q, w) (map sized s.inputs.items) (map sized s.registers.items) is) [
    | inl input ↦
        let f = sized_in (λ (p : Port). is_inward p.way && not (is_among (clock_names m.locals) p.name)) q w (subst (λ (l : List Sized). IsIn (q, w) l) listed_inputs input) in
        let e = port_entry q f.0 w f.1 f.3 f.4 in
        let r = in_range f.0.shape w f.4 in
        let listed : IsIn q (input_names m) = subst (λ (n : List ℕ). IsIn n (input_names m)) (sym f.3)
        (to_map (λ (p : Port). p.name) f.0 _ (in_filter (λ (p : Port). is_inward p.way && not (is_among (clock_names m.locals) p.name)) f.0 m.ports f.1 f.2)) in
        (inl (is_input m q listed), e.0, e.1, r.0, r.1)
    | inr register ↦
        let f = sized_register q w (subst (λ (l : List Sized). IsIn (q, w) l) d.registers register) in
        let e = register_entry q f.0 f.1 w f.2 f.3 in
        let r = in_range f.1 w f.3 in
        (inr (f.0, f.1, f.2), e.0, e.1, r.0, r.1)
  ]

  -- the names that were entered
  leaf_at : (q : List ℕ) (n w : ℕ) → get_by_text s.names q ≡ Some (meaning.Leaf n w) → slice_get (map sized s.inputs.items ++ map sized s.registers.items) n ≡ Some (q, w)
  leaf_at q n w e = elim (updated_in (leaf_entries (length s.inputs.items) (map sized s.registers.items)) q _ (meaning.Leaf n w) (sym (d.names q) ∙ e)) [
    | inl register ↦
        let f = leaf_in (length s.inputs.items) (map sized s.registers.items) q n w register in
        let long : n ≡ length (map sized s.inputs.items) + f.0 = f.1 ∙ ap (λ (k : ℕ). k + f.0) (sym (length-map s.inputs.items sized)) in
        ap (λ (k : ℕ). slice_get (map sized s.inputs.items ++ map sized s.registers.items) k) long ∙ get_back (map sized s.inputs.items) (map sized s.registers.items) f.0 (q, w) f.2
    | inr before ↦ elim (updated_in (leaf_entries 0 (map sized s.inputs.items)) q _ (meaning.Leaf n w) before) [
      | inl input ↦
          let f = leaf_in 0 (map sized s.inputs.items) q n w input in
          let zero_more : 0 + f.0 ≡ f.0 = omega arith in
          ap (λ (k : ℕ). slice_get (map sized s.inputs.items ++ map sized s.registers.items) k) (f.1 ∙ zero_more) ∙ get_front (map sized s.inputs.items) (map sized s.registers.items) f.0 (q, w) f.2
      | inr consts ↦ elim (updated_in (map const_entry m.consts) q None (meaning.Leaf n w) consts) [
        | inl there ↦
            let f = from_map const_entry (q, meaning.Leaf n w) m.consts there in
            absurd (let g : meaning.Leaf n w ≡ meaning.Constant _ _ = ap (λ (p : List ℕ × Meaning). p.1) f.2 in cc)
        | inr none ↦ absurd (let g : None ≡ Some (meaning.Leaf n w) = none in cc)
      ]
    ]
  ]

  constant_at : (q : List ℕ) (w v : ℕ) → get_by_text s.names q ≡ Some (meaning.Constant w v) → IsIn (q, meaning.Constant w v) (map const_entry m.consts)
  constant_at q w v e = elim (updated_in (leaf_entries (length s.inputs.items) (map sized s.registers.items)) q _ (meaning.Constant w v) (sym (d.names q) ∙ e)) [
    | inl register ↦ absurd (no_constant_leaf (length s.inputs.items) (map sized s.registers.items) q w v register)
    | inr before ↦ elim (updated_in (leaf_entries 0 (map sized s.inputs.items)) q _ (meaning.Constant w v) before) [
      | inl input ↦ absurd (no_constant_leaf 0 (map sized s.inputs.items) q w v input)
      | inr consts ↦ elim (updated_in (map const_entry m.consts) q None (meaning.Constant w v) consts) [
        | inl there ↦ there
        | inr none ↦ absurd (let g : None ≡ Some (meaning.Constant w v) = none in cc)
      ]
    ]
  ]

  sound : (q : List ℕ) (x : Meaning) → get_by_text s.names q ≡ Some x → Stands m q x
  sound q (meaning.Leaf n w) e = leaves_in q w (get_in (map sized s.inputs.items ++ map sized s.registers.items) n (q, w) (leaf_at q n w e))
  sound q (meaning.Constant w v) e = const_stands m q (meaning.Constant w v) d.declared.constants (constant_at q w v e)

  entered : (q : List ℕ) (x : Meaning) → updated (map const_entry m.consts) q None ≡ Some x → (z : Meaning) × (get_by_text s.names q ≡ Some z)
  entered q x e =
      let f = updated_some (leaf_entries 0 (map sized s.inputs.items)) q x in
      let g = updated_some (leaf_entries (length s.inputs.items) (map sized s.registers.items)) q f.0 in
      (g.0, d.names q ∙ ap (updated (leaf_entries (length s.inputs.items) (map sized s.registers.items)) q) (ap (updated (leaf_entries 0 (map sized s.inputs.items)) q) e ∙ f.1) ∙ g.1)

  pub table : IsTableOf m (get_by_text s.names)
  table = record {
    sound = sound;
    constants = λ c is.
        let f = updated_there (map const_entry m.consts) c.name None _ (to_map const_entry c m.consts is) in
        entered c.name f.0 f.1;
  }

  -- inputs and registers have meanings
  leaf_found : (q : List ℕ) (w : ℕ) → IsIn (q, w) (map sized s.inputs.items ++ map sized s.registers.items) → (z : Meaning) × (get_by_text s.names q ≡ Some z)
  leaf_found q w is = elim (in_either (q, w) (map sized s.inputs.items) (map sized s.registers.items) is) [
    | inl input ↦
        let f = leaf_there 0 (map sized s.inputs.items) q w input in
        let g = updated_there (leaf_entries 0 (map sized s.inputs.items)) q (updated (map const_entry m.consts) q None) (meaning.Leaf f.0 w) f.1 in
        let h = updated_some (leaf_entries (length s.inputs.items) (map sized s.registers.items)) q g.0 in
        (h.0, d.names q ∙ ap (updated (leaf_entries (length s.inputs.items) (map sized s.registers.items)) q) g.1 ∙ h.1)
    | inr register ↦
        let f = leaf_there (length s.inputs.items) (map sized s.registers.items) q w register in
        let g = updated_there (leaf_entries (length s.inputs.items) (map sized s.registers.items)) q (updated (leaf_entries 0 (map sized s.inputs.items)) q (updated (map const_entry m.consts) q None)) (meaning.Leaf f.0 w) f.1 in
        (g.0, d.names q ∙ g.1)
  ]

  -- the names and the widths of the leaves
  all_widths : vector_widths s.inputs.items ++ vector_widths s.registers.items ≡ map (λ (x : Sized). x.1) (map sized s.inputs.items ++ map sized s.registers.items)
  all_widths = ap₂ (λ (a b : List ℕ). a ++ b) (just_widths s.inputs.items) (just_widths s.registers.items) ∙ sym (map-append (λ (x : Sized). x.1) (map sized s.inputs.items) (map sized s.registers.items))

  pub inputs_named : vector_names s.inputs.items ≡ input_names m
  inputs_named = just_names s.inputs.items ∙ ap (λ (l : List Sized). map (λ (x : Sized). x.0) l) listed_inputs ∙ port_list (wide_in m) _

  pub registers_named : vector_names s.registers.items ≡ register_names m.locals
  registers_named = just_names s.registers.items ∙ ap (λ (l : List Sized). map (λ (x : Sized). x.0) l) d.registers ∙ local_list (wide_in m) m.locals ∙ registers_are (wide_in m) m.locals under

  all_names : map (λ (x : Sized). x.0) (map sized s.inputs.items ++ map sized s.registers.items) ≡ leaf_names m
  all_names =
      map-append (λ (x : Sized). x.0) (map sized s.inputs.items) (map sized s.registers.items)
      ∙ ap₂ (λ (a b : List (List ℕ)). a ++ b) (sym (just_names s.inputs.items) ∙ inputs_named) (sym (just_names s.registers.items) ∙ registers_named)

  pub are : AreOf (get_by_text s.names) (scope_of m) (vector_widths s.inputs.items ++ vector_widths s.registers.items)
  are = are_of m (get_by_text s.names) (vector_widths s.inputs.items ++ vector_widths s.registers.items) distinct table (λ q n w e.
      ap (λ (l : List ℕ). slice_get l n) all_widths ∙ get_map (λ (x : Sized). x.1) (map sized s.inputs.items ++ map sized s.registers.items) n (q, w) (leaf_at q n w e))

  reads : (v : Values) → ReadsLeaves (get_by_text s.names) (names_at [] v) (values_of v (leaf_names m))
  reads v r n w e =
      let f = reference_is (get_by_text s.names) r (meaning.Leaf n w) e in
      let named : slice_get (leaf_names m) n ≡ Some f.1.0 =
      ap (λ (l : List (List ℕ)). slice_get l n) (sym all_names) ∙ get_map (λ (x : Sized). x.0) (map sized s.inputs.items ++ map sized s.registers.items) n (f.1.0, w) (leaf_at f.1.0 n w f.1.2) in
      ap (λ (q : List (List ℕ)). v q 0) f.1.1 ∙ sym (get_or_zero (values_of v (leaf_names m)) n (v (f.1.0 ∷ []) 0) (get_map (λ (name : List ℕ). v (name ∷ []) 0) (leaf_names m) n f.1.0 named))

  -- names of expressions in the module's terms and in the table's
  leaf_of : (r : Ref) → HasMeaning (get_by_text s.names) r → IsLeaf m r
  leaf_of r has =
      let f = reference_is (get_by_text s.names) r has.meaning has.is in
      (f.0, (f.1.0, f.1.1, of_stands m f.1.0 has.meaning (sound f.1.0 has.meaning f.1.2)))

  readable_found : (name : List ℕ) → IsIn name (leaf_names m) → (z : Meaning) × (get_by_text s.names name ≡ Some z)
  readable_found name is =
      let f = from_map (λ (x : Sized). x.0) name (map sized s.inputs.items ++ map sized s.registers.items) (subst (λ (l : List (List ℕ)). IsIn name l) (sym all_names) is) in
      let g = leaf_found f.0.0 f.0.1 f.1 in
      (g.0, ap (get_by_text s.names) f.2 ∙ g.1)

  meaning_of_leaf : (r : Ref) → IsLeaf m r → HasMeaning (get_by_text s.names) r
  meaning_of_leaf r (bare, (name, path, inl (inl (type, i)))) =
      let f = readable_found name (in_front name (input_names m) (register_names m.locals) (input_listed m name type i)) in
      record { meaning = f.0; is = is_reference (get_by_text s.names) r name f.0 bare path f.1 }
  meaning_of_leaf r (bare, (name, path, inl (inr (clock, type, g)))) =
      let f = readable_found name (in_back name (input_names m) (register_names m.locals) (register_listed m name clock type g)) in
      record { meaning = f.0; is = is_reference (get_by_text s.names) r name f.0 bare path f.1 }
  meaning_of_leaf r (bare, (name, path, inr (c, is, named))) =
      let f = table.constants c is in
      record { meaning = f.0; is = is_reference (get_by_text s.names) r name f.0 bare path (ap (get_by_text s.names) named ∙ f.1) }

  module _ (targets : List ℕ → Option ℕ)
      (told : (q : List ℕ) → targets q ≡ updated (map sized s.registers.items) q (updated (outputs (wide_of (get_by_text s.names)) m.ports) q None)) where
    outputs_are : outputs (wide_of (get_by_text s.names)) m.ports ≡ outputs (wide_in m) m.ports
    outputs_are = ap (λ (w : Wide). outputs w m.ports) (wides_are m (get_by_text s.names) distinct table)

    target_sound : (q : List ℕ) (w : ℕ) → targets q ≡ Some w → entry_width (names_of m) (names_of m q) ≡ Some w
    target_sound q w e = elim (updated_in (map sized s.registers.items) q _ w (sym (told q) ∙ e)) [
      | inl register ↦
          let f = sized_register q w (subst (λ (l : List Sized). IsIn (q, w) l) d.registers register) in
          (register_entry q f.0 f.1 w f.2 f.3).0
      | inr before ↦ elim (updated_in (outputs (wide_of (get_by_text s.names)) m.ports) q None w before) [
        | inl output ↦
            let f = sized_in (λ (p : Port). is_outward p.way) q w (subst (λ (l : List Sized). IsIn (q, w) l) outputs_are output) in
            (port_entry q f.0 w f.1 f.3 f.4).0
        | inr none ↦ absurd (let g : None ≡ Some w = none in cc)
      ]
    ]

    target_found : (q : List ℕ) → IsTarget m q → (z : ℕ) × (targets q ≡ Some z)
    target_found q (inl (p, declared, out, named)) =
        let w : ℕ = or_zero (wide_of (get_by_text s.names) p.shape) in
        let there : IsIn (q, w) (outputs (wide_of (get_by_text s.names)) m.ports) =
        subst (λ (n : List ℕ). IsIn (n, w) (outputs (wide_of (get_by_text s.names)) m.ports)) (sym named)
        (to_map (sized_port (wide_of (get_by_text s.names))) p _ (in_filter (λ (p : Port). is_outward p.way) p m.ports declared (ap is_outward out))) in
        let f = updated_there (outputs (wide_of (get_by_text s.names)) m.ports) q None w there in
        let g = updated_some (map sized s.registers.items) q f.0 in
        (g.0, told q ∙ ap (updated (map sized s.registers.items) q) f.1 ∙ g.1)
    target_found q (inr (clock, type, r)) =
        let listed : IsIn q (map (λ (x : Sized). x.0) (map sized s.registers.items)) =
        subst (λ (l : List (List ℕ)). IsIn q l) (sym registers_named ∙ just_names s.registers.items) (register_listed m q clock type r) in
        let f = from_map (λ (x : Sized). x.0) q (map sized s.registers.items) listed in
        let there : IsIn (q, f.0.1) (map sized s.registers.items) = subst (λ (n : List ℕ). IsIn (n, f.0.1) (map sized s.registers.items)) (sym f.2) f.1 in
        let g = updated_there (map sized s.registers.items) q (updated (outputs (wide_of (get_by_text s.names)) m.ports) q None) f.0.1 there in
        (g.0, told q ∙ g.1)

    -- statements in the module's terms and in the table's
    small_stmt : (t : StmtTree) → IsSizedStmt (get_by_text s.names) targets (scope_of m) t → IsTarget m (target_of t) → IsSmallStmt m t
    small_stmt (assignment name None e at equals) stands target =
        (target, built_over (HasMeaning (get_by_text s.names)) (IsLeaf m) leaf_of e stands.0, record { wide = stands.1.0; name_is = target_sound name stands.1.0 stands.1.1; value_is = stands.1.2 })
    small_stmt (assignment name (Some place) e at equals) stands target = stands
    small_stmt (call name args at) stands target = stands
    small_stmt (pad io inner drive release at) stands target = stands

    sized_stmt : (t : StmtTree) → IsSmallStmt m t → IsSizedStmt (get_by_text s.names) targets (scope_of m) t
    sized_stmt (assignment name None e at equals) (target, built, widths) =
        let f = target_found name target in
        let g : Some f.0 ≡ Some widths.wide = sym (target_sound name f.0 f.1) ∙ widths.name_is in
        (built_over (IsLeaf m) (HasMeaning (get_by_text s.names)) meaning_of_leaf e built, (widths.wide, f.1 ∙ g, widths.value_is))
    sized_stmt (assignment name (Some place) e at equals) small = small
    sized_stmt (call name args at) small = small
    sized_stmt (pad io inner drive release at) small = small

    -- a module whose parts were read is in the small form
    small_module : (names : List (List ℕ)) (flats : List Flat) → HasNexts m (get_by_text s.names) targets names flats → IsSmallModule m
    small_module names flats h = record {
      ends = d.declared.ends;
      distinct = distinct;
      constants = d.declared.constants;
      ports = d.declared.ports;
      registers = under;
      one_clock = λ a b own other t u r q. one_clock (wide_in m) (first_clock m.locals) m a b own other t u d.declared r q;
      clock_port = λ name own type r. clock_port (wide_in m) (first_clock m.locals) m name own type d.declared r;
      statements = all_of (IsSmallStmt m) m.body (λ t is.
          small_stmt t (of_all (IsSizedStmt (get_by_text s.names) targets (scope_of m)) t m.body (h.values (scope_of m) _ are) is)
          (wanted_target m (target_of t) under (h.once.only (target_of t) (to_map target_of t m.body is))));
      once = h.once.once;
      each = λ name target. h.once.each name (target_wanted m name target);
      few_signals = d.declared.few_signals;
    }

    -- the values that were read are those of the next state, in their registers' widths
    next_value : (v s' : Values) → Next (one_module m) v s' → (name : List ℕ) (flat : Flat) → IsIn name (register_names m.locals) → IsNextOf (get_by_text s.names) m.body name flat →
        s' (name ∷ []) 0 ≡ flat_number (vector_widths s.inputs.items ++ vector_widths s.registers.items) flat (values_of v (leaf_names m))
    next_value v s' next name flat is n =
        let r = is_register m name is in
        let by = subst (λ (t : StmtTree). NextBy m [] v s' t) n.assigns.is (next m ([], refl) n.statement n.there) in
        by r.0 r.1 r.2 ∙ sym (n.means.number (scope_of m) _ are (names_at [] v) (values_of v (leaf_names m)) (reads v))

    next_values : (v s' : Values) → Next (one_module m) v s' → (names : List (List ℕ)) (flats : List Flat) → ((name : List ℕ) → IsIn name names → IsIn name (register_names m.locals)) →
        AreNexts (get_by_text s.names) m.body names flats →
        values_of s' names ≡ map (λ (f : Flat). flat_number (vector_widths s.inputs.items ++ vector_widths s.registers.items) f (values_of v (leaf_names m))) flats
    next_values v s' next [] [] each nexts = refl
    next_values v s' next [] (f ∷ fs) each nexts = absurd nexts
    next_values v s' next (x ∷ xs) [] each nexts = absurd nexts
    next_values v s' next (x ∷ xs) (f ∷ fs) each nexts =
        ap₂ (λ (a : ℕ) (b : List ℕ). a ∷ b) (next_value v s' next x f (each x (inl refl)) nexts.0) (next_values v s' next xs fs (λ name later. each name (inr later)) nexts.1)

    next_width : (names : List (List ℕ)) (flats : List Flat) → HasNexts m (get_by_text s.names) targets names flats → (x : Vector) (flat : Flat) → IsIn x s.registers.items →
        IsNextOf (get_by_text s.names) m.body (string_bytes x.name) flat → flat_width (vector_widths s.inputs.items ++ vector_widths s.registers.items) flat ≡ Some x.width
    next_width names flats h x flat is n =
        let z = sized_of (get_by_text s.names) targets (scope_of m) n.statement (string_bytes x.name) n.value n.assigns
        (of_all (IsSizedStmt (get_by_text s.names) targets (scope_of m)) n.statement m.body (h.values (scope_of m) _ are) n.there) in
        let of_value : Some n.wide ≡ Some z.1.0 = sym (n.means.tree_width (scope_of m) _ are) ∙ z.1.2 in
        let of_name = leaves_in (string_bytes x.name) x.width (in_back (string_bytes x.name, x.width) (map sized s.inputs.items) (map sized s.registers.items) (to_map sized x s.registers.items is)) in
        n.means.leaf_width (scope_of m) _ are ∙ of_value ∙ sym (target_sound (string_bytes x.name) z.1.0 z.1.1) ∙ of_name.1

    next_widths : (all : List (List ℕ)) (others : List Flat) → HasNexts m (get_by_text s.names) targets all others → (xs : List Vector) (flats : List Flat) → ((x : Vector) → IsIn x xs → IsIn x s.registers.items) →
        AreNexts (get_by_text s.names) m.body (vector_names xs) flats →
        map (flat_width (vector_widths s.inputs.items ++ vector_widths s.registers.items)) flats ≡ map (λ (v : Vector). Some v.width) xs
    next_widths all others h [] [] each nexts = refl
    next_widths all others h [] (f ∷ fs) each nexts = absurd nexts
    next_widths all others h (x ∷ xs) [] each nexts = absurd nexts
    next_widths all others h (x ∷ xs) (f ∷ fs) each nexts =
        ap₂ (λ (a : Option ℕ) (b : List (Option ℕ)). a ∷ b) (next_width all others h x f (each x (inl refl)) nexts.0) (next_widths all others h xs fs (λ y later. each y (inr later)) nexts.1)

    -- what was read is the design of the module
    pub elaborates : (e : Design) → HasNexts m (get_by_text s.names) targets (vector_names s.registers.items) e.nexts.items → string_bytes e.root ≡ m.name → e.inputs ≡ s.inputs → e.registers ≡ s.registers →
        Elaborates (one_module m) e
    elaborates e h root inputs registers =
        let same : leaf_widths e ≡ vector_widths s.inputs.items ++ vector_widths s.registers.items =
        ap₂ (λ (a b : Vec Vector Global). vector_widths a.items ++ vector_widths b.items) inputs registers in
        record {
          small = record { root = m; only = refl; small = small_module (vector_names s.registers.items) e.nexts.items h };
          root = root;
          inputs = ap (λ (v : Vec Vector Global). vector_names v.items) inputs ∙ inputs_named;
          registers = ap (λ (v : Vec Vector Global). vector_names v.items) registers ∙ registers_named;
          widths = ap (λ (l : List ℕ). map (λ (w : ℕ). Some w) l) (same ∙ all_widths)
              ∙ widths_each (λ (name : List ℕ). entry_width (names_of m) (names_of m name)) (map sized s.inputs.items ++ map sized s.registers.items) (λ x is. (leaves_in x.0 x.1 is).1)
              ∙ ap (widths_of m) all_names;
          next_widths = ap (λ (l : List ℕ). map (flat_width l) e.nexts.items) same
              ∙ next_widths (vector_names s.registers.items) e.nexts.items h s.registers.items e.nexts.items (λ x is. is) h.nexts
              ∙ ap (λ (v : Vec Vector Global). map (λ (v : Vector). Some v.width) v.items) (sym registers);
          nexts = λ v s' next.
              next_values v s' next (register_names m.locals) e.nexts.items (λ name is. is) (subst (λ (l : List (List ℕ)). AreNexts (get_by_text s.names) m.body l e.nexts.items) registers_named h.nexts)
              ∙ ap (λ (l : List ℕ). map (λ (f : Flat). flat_number l f (values_of v (leaf_names m))) e.nexts.items) (sym same);
        }

    -- a module in the small form is not refused
    pub not_refused : ((scope : Widths) (widths : List ℕ) → AreOf (get_by_text s.names) scope widths → IsWellAssigned m (get_by_text s.names) targets scope (vector_names s.registers.items) → ⊥) → IsSmallModule m → ⊥
    not_refused none small = none (scope_of m) _ are (record {
      values = all_of (IsSizedStmt (get_by_text s.names) targets (scope_of m)) m.body (λ t is. sized_stmt t (of_all (IsSmallStmt m) t m.body small.statements is));
      once = all_once m small;
      registers_there = subst (λ (l : List (List ℕ)). AllByRecursion (λ (name : List ℕ). IsIn name (map target_of m.body)) l) (sym registers_named) (all_there m small);
    })
