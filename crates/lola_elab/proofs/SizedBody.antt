-- The statements of a well sized module.
use Rattle.std.proofs.Common.{◌≡◌, ℕ, Bool, true, false, cond, List, [], ◌∷◌, ◌++◌, map, Option, Some, None, refl, sym, ap, ◌∙◌, subst, inl, inr, ◌⊎◌}
use Rattle.std.specs.Prelude.{bytes_eq, ◌||◌}
use Rattle.std.specs.List.{AllByRecursion}
use Rattle.lola_bits.proofs.Tests.{or_neither, none_unless, none_where}
use Rattle.lola_bits.specs.Lists.{IsIn, AreDistinct}
use Rattle.lola_bits.proofs.All.{of_all}
use Rattle.lola_bits.proofs.Names.{same_name, is_same_name}
use Rattle.lola_bits.proofs.Lists.{in_either, from_map, both_none}
use Rattle.lola_tree.specs.declared.named.Named.{Named}
use Rattle.lola_tree.specs.declared.named.Shape.{Shape}
use Rattle.lola_tree.specs.declared.named.Shape.TheVariants as shape
use Rattle.lola_tree.specs.declared.module.Way.{Way}
use Rattle.lola_tree.specs.declared.module.Way.TheVariants.{Inward, Outward, Both}
use Rattle.lola_tree.specs.declared.module.Port.{Port}
use Rattle.lola_tree.specs.declared.module.LocalKind.{LocalKind}
use Rattle.lola_tree.specs.declared.module.LocalKind.TheVariants.{Reg, Var, Inst}
use Rattle.lola_tree.specs.declared.module.Local.{Local}
use Rattle.lola_tree.specs.Tree.{StmtTree, assignment, call, pad, ModuleTree}
use Rattle.lola_tree.specs.Names.{Entry, port, constant, local, entries, Names, names_of, kind_shape}
use Rattle.lola_tree.specs.Width.{vector_width, entry_width, scope_of, width}
use Rattle.lola_tree.specs.Signals.{is_inward, is_outward}
use Rattle.lola_width.specs.declared.uses.Use.{Use}
use Rattle.lola_width.specs.declared.uses.Use.TheVariants as use_
use Rattle.lola_width.specs.Interface.{Seen}
use Rattle.lola_width.specs.NameFaults.{suits, use_faults, is_array, is_vector, is_both, is_pad, is_instance, is_instance_kind, assigned_shape, expr_faults, stmt_faults, body_faults}
use Rattle.lola_width.specs.WidthFaults.{differ, name_width, expr_widths, stmt_widths, body_widths}
use Rattle.lola_width.specs.AssignmentFaults.{Taken, taken_with, taken_with_all, again, twice, never_taken, port_never, ports_never, locals_never, body_targets}
use Rattle.lola_elab.specs.Small.{wide_in, IsSmallPort, IsSmallKind, IsTarget, IsSmallStmt, target_of}
use Rattle.lola_elab.specs.Built.{IsPlain, IsPlainKind, IsBuiltStmt}
use Rattle.lola_elab.proofs.Tables.{first_in}
use Rattle.lola_elab.proofs.SizedNames.{true_and_false}
use Rattle.lola_elab.proofs.SizedClock.{port_in}
use Rattle.lola_elab.proofs.SizedValues.{Known, AreVectors, port_wide, register_wide, same_known, value_known}

local_in : (m : ModuleTree) (l : Local) → IsIn (local l) (entries m) → IsIn l m.locals
local_in m l is = elim (in_either (local l) (map port m.ports) (map constant m.consts ++ map local m.locals) is) [
  | inl ports ↦ let f = from_map port (local l) m.ports ports in absurd (let g : local l ≡ port f.0 = f.2 in cc)
  | inr more ↦ elim (in_either (local l) (map constant m.consts) (map local m.locals) more) [
    | inl consts ↦ let f = from_map constant (local l) m.consts consts in absurd (let g : local l ≡ constant f.0 = f.2 in cc)
    | inr locals ↦
        let f = from_map local (local l) m.locals locals in
        let g : local l ≡ local f.0 = f.2 in
        let same : l ≡ f.0 = cc in
        subst (λ (k : Local). IsIn k m.locals) (sym same) f.1
  ]
]

-- a use that suits
suited : (used : Use) (at : ℕ) (name : List ℕ) (o : Option Entry) → use_faults used at name o ≡ [] → (e : Entry) × (o ≡ Some e) × (suits used e ≡ true)
suited used at name None none = absurd (cc)
suited used at name (Some e) none = (e, refl, none_unless (suits used e) _ none)

outward_of : (w : Way) (test : Option Shape → Bool) (s : Shape) → test None ≡ false → test (cond (is_outward w) (Some s) None) ≡ true → (w ≡ Outward) × (test (Some s) ≡ true)
outward_of Inward test s no_none is = absurd (true_and_false is no_none)
outward_of Outward test s no_none is = (refl, is)
outward_of Both test s no_none is = absurd (true_and_false is no_none)

register_of : (k : LocalKind) → IsPlainKind k → (under : Named) × (type : Shape) × (k ≡ Reg under type) × IsPlain type
register_of (Reg under type) plain = (under, type, refl, plain)
register_of (Var type) plain = absurd plain
register_of (Inst of) plain = absurd plain

plain_no_array : (k : LocalKind) → IsPlainKind k → is_array (kind_shape k) ≡ false
plain_no_array (Reg under (shape.Vector width)) plain = refl
plain_no_array (Reg under (shape.Array count width)) plain = absurd plain
plain_no_array (Var type) plain = absurd plain
plain_no_array (Inst of) plain = absurd plain

plain_no_instance : (k : LocalKind) → IsPlainKind k → is_instance_kind k ≡ false
plain_no_instance (Reg under type) plain = refl
plain_no_instance (Var type) plain = absurd plain
plain_no_instance (Inst of) plain = absurd plain

wide_no_array : (names : Names) (type : Shape) (w : ℕ) → vector_width names (Some type) ≡ Some w → is_array (Some type) ≡ false
wide_no_array names (shape.Vector width) w e = refl
wide_no_array names (shape.Array count width) w e = absurd (cc)

both_is : (w : Way) → is_both w ≡ true → w ≡ Both
both_is Inward e = absurd (cc)
both_is Outward e = absurd (cc)
both_is Both e = refl

module _ (m : ModuleTree) (seen : Seen) (clock : Option (List ℕ)) (are : AreVectors m) (plain : AllByRecursion (λ (l : Local). IsPlainKind l.kind) m.locals) where
  port_of : (name : List ℕ) (p : Port) → names_of m name ≡ Some (port p) → IsIn p m.ports × (name ≡ p.name) × IsSmallPort (wide_in m) p
  port_of name p is =
      let f = first_in (entries m) name (port p) is in
      let among = port_in m p f.0 in
      (among, f.1, of_all (IsSmallPort (wide_in m)) p m.ports are.ports among)

  local_of : (name : List ℕ) (l : Local) → names_of m name ≡ Some (local l) → IsIn l m.locals × (name ≡ l.name) × IsPlainKind l.kind
  local_of name l is =
      let f = first_in (entries m) name (local l) is in
      let among = local_in m l f.0 in
      (among, f.1, of_all (λ (k : Local). IsPlainKind k.kind) l m.locals plain among)

  -- a target of a whole assignment
  target : (name : List ℕ) (e : Entry) → names_of m name ≡ Some e → is_vector (assigned_shape e) ≡ true → IsTarget m name × Known (entry_width (names_of m) (names_of m name))
  target name (port p) is suit =
      let p' = port_of name p is in
      let out = outward_of p.way is_vector p.shape refl suit in
      let w = port_wide m p p'.2 in
      (inl (p, p'.0, out.0, p'.1), (w.0, w.1, ap (entry_width (names_of m)) is ∙ w.2))
  target name (constant c) is suit = absurd (cc)
  target name (local l) is suit =
      let l' = local_of name l is in
      let r = register_of l.kind l'.2 in
      let w = register_wide m l (of_all (λ (k : Local). IsSmallKind (wide_in m) k.kind) l m.locals are.registers l'.0) in (
        inr (r.0.name, r.1, record { local = l; under = r.0; declared = l'.0; kind = r.2; named = l'.1; clocked = refl }),
        (w.0, w.1, ap (entry_width (names_of m)) is ∙ w.2),
      )

  -- there is no array, instance or pad
  no_element : (name : List ℕ) (e : Entry) → names_of m name ≡ Some e → is_array (assigned_shape e) ≡ true → ⊥
  no_element name (port p) is suit =
      let p' = port_of name p is in
      let out = outward_of p.way is_array p.shape refl suit in
      true_and_false out.1 (wide_no_array (names_of m) p.shape p'.2.1.width p'.2.1.is)
  no_element name (constant c) is suit = cc
  no_element name (local l) is suit = true_and_false suit (plain_no_array l.kind (local_of name l is).2)

  no_call : (name : List ℕ) (e : Entry) → names_of m name ≡ Some e → is_instance e ≡ true → ⊥
  no_call name (port p) is suit = cc
  no_call name (constant c) is suit = cc
  no_call name (local l) is suit = true_and_false suit (plain_no_instance l.kind (local_of name l is).2)

  no_pad : (name : List ℕ) (e : Entry) → names_of m name ≡ Some e → is_pad e ≡ true → ⊥
  no_pad name (port p) is suit = (port_of name p is).2.0 (both_is p.way suit)
  no_pad name (constant c) is suit = cc
  no_pad name (local l) is suit = cc

  stmt_small : (t : StmtTree) → IsBuiltStmt m t → stmt_faults (names_of m) seen clock t ≡ [] → stmt_widths (names_of m) seen t ≡ [] → IsSmallStmt m t
  stmt_small (assignment name None e at equals) built named sized =
      let n = both_none (use_faults use_.Assigned at name (names_of m name)) (expr_faults (names_of m) clock e) named in
      let s = both_none (expr_widths (scope_of m) e) (differ equals (name_width (names_of m) name) (width (scope_of m) e)) sized in
      let u = suited use_.Assigned at name (names_of m name) n.0 in
      let t = target name u.0 u.1 u.2 in
      let v = value_known m clock are e built.0 built.1 n.1 s.0 in
      let w = same_known equals (name_width (names_of m) name) (width (scope_of m) e) t.1 v s.1 in
      (t.0, built.1, record { wide = w.0; name_is = w.2; value_is = w.3 })
  stmt_small (assignment name (Some place) e at equals) built named sized =
      let u = suited use_.ElementAssigned at name (names_of m name) (both_none (use_faults use_.ElementAssigned at name (names_of m name)) _ named).0 in
      absurd (no_element name u.0 u.1 u.2)
  stmt_small (call name args at) built named sized =
      let u = suited use_.Called at name (names_of m name) (both_none (use_faults use_.Called at name (names_of m name)) _ named).0 in
      absurd (no_call name u.0 u.1 u.2)
  stmt_small (pad io inner value release at) built named sized =
      let u = suited use_.Pad io.at io.name (names_of m io.name) (both_none (use_faults use_.Pad io.at io.name (names_of m io.name)) _ named).0 in
      absurd (no_pad io.name u.0 u.1 u.2)

  pub body_small : (ts : List StmtTree) → AllByRecursion (IsBuiltStmt m) ts → body_faults (names_of m) seen clock ts ≡ [] → body_widths (names_of m) seen ts ≡ [] → AllByRecursion (IsSmallStmt m) ts
  body_small [] built named sized = tt
  body_small (t ∷ ts) built named sized =
      let n = both_none (stmt_faults (names_of m) seen clock t) _ named in
      let s = both_none (stmt_widths (names_of m) seen t) _ sized in
      (stmt_small t built.0 n.0 s.0, body_small ts built.1 n.1 s.1)

-- each target is set once
abbrev target_names : List Named → List (List ℕ)
target_names targets = map (λ (t : Named). t.name) targets

pub targets_are : (m : ModuleTree) (seen : Seen) (ts : List StmtTree) → AllByRecursion (IsSmallStmt m) ts → target_names (body_targets (names_of m) seen ts) ≡ map target_of ts
targets_are m seen [] small = refl
targets_are m seen (assignment name None e at equals ∷ ts) small = ap (λ (ns : List (List ℕ)). name ∷ ns) (targets_are m seen ts small.1)
targets_are m seen (assignment name (Some place) e at equals ∷ ts) small = absurd small.0
targets_are m seen (call name args at ∷ ts) small = absurd small.0
targets_are m seen (pad io inner value release at ∷ ts) small = absurd small.0

or_one : (a b : Bool) → (a || b) ≡ true → (a ≡ true) ⊎ (b ≡ true)
or_one false b e = inr e
or_one true b e = inl refl

pub distinct_targets : (taken : Taken) (ts : List Named) → twice taken ts ≡ [] → AreDistinct (target_names ts) × ((n : List ℕ) → IsIn n (target_names ts) → taken n ≡ false)
distinct_targets taken [] none = (tt, λ n among. absurd among)
distinct_targets taken (t ∷ ts) none =
    let split = both_none (again taken t.at t.name) (twice (taken_with taken t.name) ts) none in
    let ih = distinct_targets (taken_with taken t.name) ts split.1 in
    let apart : (n : List ℕ) → IsIn n (target_names ts) → (bytes_eq t.name n ≡ false) × (taken n ≡ false) = λ n among. or_neither (bytes_eq t.name n) (taken n) (ih.1 n among) in (
      (λ among. true_and_false (same_name t.name t.name refl) (apart t.name among).0, ih.0),
      λ n among. elim among [
        | inl same ↦ ap taken same ∙ none_where (taken t.name) _ split.0
        | inr later ↦ (apart n later).1
      ],
    )

pub taken_is_in : (taken : Taken) (ts : List Named) (n : List ℕ) → taken_with_all taken ts n ≡ true → (taken n ≡ true) ⊎ IsIn n (target_names ts)
taken_is_in taken [] n e = inl e
taken_is_in taken (t ∷ ts) n e = elim (taken_is_in (taken_with taken t.name) ts n e) [
  | inl before ↦ elim (or_one (bytes_eq t.name n) (taken n) before) [ inl same ↦ inr (inl (sym (is_same_name t.name n same))) | inr earlier ↦ inl earlier ]
  | inr later ↦ inr (inr later)
]

never_is : (taken : Taken) (at : ℕ) (name : List ℕ) → never_taken taken at name ≡ [] → taken name ≡ true
never_is taken at name none = none_unless (taken name) _ none

pub port_taken : (taken : Taken) (ps : List Port) → ports_never taken ps ≡ [] → (p : Port) → IsIn p ps → p.way ≡ Outward → taken p.name ≡ true
port_taken taken [] none p among out = absurd among
port_taken taken (q ∷ ps) none p among out =
    let split = both_none (port_never taken q) (ports_never taken ps) none in
    elim among [
      | inl same ↦
          let q' = subst (λ (x : Port). port_never taken x ≡ []) (sym same) split.0 in
          never_is taken p.at p.name (subst (λ (w : Way). cond (is_inward w) [] (never_taken taken p.at p.name) ≡ []) out q')
      | inr later ↦ port_taken taken ps split.1 p later out
    ]

pub local_taken : (taken : Taken) (ls : List Local) → locals_never taken ls ≡ [] → (l : Local) → IsIn l ls → taken l.name ≡ true
local_taken taken [] none l among = absurd among
local_taken taken (k ∷ ls) none l among =
    let split = both_none (never_taken taken k.at k.name) (locals_never taken ls) none in
    elim among [
      | inl same ↦ never_is taken l.at l.name (subst (λ (x : Local). never_taken taken x.at x.name ≡ []) (sym same) split.0)
      | inr later ↦ local_taken taken ls split.1 l later
    ]
