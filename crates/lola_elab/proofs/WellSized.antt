-- Well sized designs of the forms that are built are in the small form, and the other way round.
use Rattle.std.proofs.Common.{◌≡◌, ◌≢◌, ℕ, true, false, List, [], ◌∷◌, ◌++◌, map, Option, Some, None, ap, ◌∙◌, subst, inl, inr}
use Rattle.lola_bits.specs.declared.op.Op.{Op}
use Rattle.lola_bits.specs.declared.op.Op.TheVariants as op
use Rattle.lola_bits.specs.Lists.{IsIn, AreDistinct}
use Rattle.lola_bits.proofs.All.{of_all, all_of}
use Rattle.lola_bits.proofs.Lists.{both_none}
use Rattle.lola_tree.specs.declared.named.Shape.TheVariants as shape
use Rattle.lola_tree.specs.declared.module.Way.TheVariants.{Both}
use Rattle.lola_tree.specs.declared.module.Port.{Port}
use Rattle.lola_tree.specs.declared.module.LocalKind.{LocalKind}
use Rattle.lola_tree.specs.declared.module.LocalKind.TheVariants.{Reg, Var, Inst}
use Rattle.lola_tree.specs.declared.module.Local.{Local}
use Rattle.lola_tree.specs.Tree.{Tree, number, whole, bit, slice, index, concat, negation, binary, choice, Parts, no_part, one_part, StmtTree, assignment, call, pad, ModuleTree, SourceTree}
use Rattle.lola_tree.specs.Names.{entries, names_of}
use Rattle.lola_tree.specs.Width.{Scope, scope_of, checked_width, same_width, operator_width, width, total_width, repeated_width}
use Rattle.lola_width.specs.Interface.{no_module}
use Rattle.lola_width.specs.NameFaults.{no_names, title_faults, doubled_faults, port_faults, local_faults, body_faults, end_faults, used_faults, name_faults}
use Rattle.lola_width.specs.WidthFaults.{port_widths, const_widths, local_widths, body_widths, width_faults}
use Rattle.lola_width.specs.AssignmentFaults.{none_taken, taken_with_all, twice, body_targets, ports_never, locals_never, assignment_faults}
use Rattle.lola_width.specs.Sized.{clock_in, faults_in, faults_from, IsWellSized}
use Rattle.lola_elab.specs.Small.{wide_in, IsSmallPort, IsSmallKind, IsSmallStmt, target_of, IsSmallModule, IsSmallSource}
use Rattle.lola_elab.specs.Built.{IsBetween, IsWritten, AreWritten, IsPlainKind, IsBuiltStmt, IsBuiltModule, IsBuiltSource}
use Rattle.lola_elab.proofs.Widths.{checked_is, same_is, defined_is, operator_parts, repeated_is, joined_is}
use Rattle.lola_elab.proofs.SizedNames.{ends_right, distinct_names, constants_small, ports_small, registers_small}
use Rattle.lola_elab.proofs.SizedClock.{clock_is_port, register_clock}
use Rattle.lola_elab.proofs.SizedValues.{AreVectors}
use Rattle.lola_elab.proofs.SizedBody.{body_small, targets_are, distinct_targets, taken_is_in, port_taken, local_taken}

module _ (m : ModuleTree) (none : faults_in no_module m ≡ []) (built : IsBuiltModule m) where
  module_small : IsSmallModule m
  module_small =
      let names = names_of m in
      let clock = clock_in no_module m in
      let stages = both_none (name_faults names no_module clock m) (width_faults names no_module m ++ assignment_faults names no_module m) none in
      let later = both_none (width_faults names no_module m) (assignment_faults names no_module m) stages.1 in
      let named = both_none (title_faults None m) (doubled_faults no_names (entries m) ++ used_faults names no_module clock m) stages.0 in
      let declared = both_none (doubled_faults no_names (entries m)) (used_faults names no_module clock m) named.1 in
      let used = both_none (port_faults names m.ports) (local_faults names no_module clock m.locals ++ (body_faults names no_module clock m.body ++ end_faults m)) declared.1 in
      let locals = both_none (local_faults names no_module clock m.locals) (body_faults names no_module clock m.body ++ end_faults m) used.1 in
      let body = both_none (body_faults names no_module clock m.body) (end_faults m) locals.1 in
      let ports_wide = both_none (port_widths names m.ports) (const_widths m.consts ++ (local_widths names m.locals ++ body_widths names no_module m.body)) later.0 in
      let consts_wide = both_none (const_widths m.consts) (local_widths names m.locals ++ body_widths names no_module m.body) ports_wide.1 in
      let locals_wide = both_none (local_widths names m.locals) (body_widths names no_module m.body) consts_wide.1 in
      let targets = body_targets names no_module m.body in
      let taken = taken_with_all none_taken targets in
      let set = both_none (twice none_taken targets) (ports_never taken m.ports ++ locals_never taken m.locals) later.1 in
      let nevers = both_none (ports_never taken m.ports) (locals_never taken m.locals) set.1 in
      let distinct = (distinct_names no_names (entries m) declared.0).0 in
      let constants = constants_small m.consts consts_wide.0 in
      let ports = ports_small m m.ports built.ports used.0 ports_wide.0 in
      let registers = registers_small m no_module clock m.locals built.locals locals.0 locals_wide.0 in
      let are : AreVectors m = record { distinct = distinct; constants = constants; ports = ports; registers = registers } in
      let statements = body_small m no_module clock are built.locals m.body built.values body.0 locals_wide.1 in
      let names_are = targets_are m no_module m.body statements in
      let is_set : (name : List ℕ) → taken name ≡ true → IsIn name (map target_of m.body) = λ name e. elim (taken_is_in none_taken targets name e) [
        | inl before ↦ absurd (let f : false ≡ true = before in cc)
        | inr is ↦ subst (IsIn name) names_are is
      ] in
      record {
        ends = ends_right m body.1;
        distinct = distinct;
        constants = constants;
        ports = ports;
        registers = registers;
        one_clock = λ a b c d t u r s.
            let one = register_clock m no_module clock locals.0 a c t r in
            let other = register_clock m no_module clock locals.0 b d u s in
            cc;
        clock_port = λ name c type r.
            let p = clock_is_port m no_module c (register_clock m no_module clock locals.0 name c type r) in
            (p.port, p.declared, p.inward, p.named, p.wide);
        statements = statements;
        once = subst AreDistinct names_are (distinct_targets none_taken targets set.0).0;
        each = λ name target. elim target [
          | inl port ↦ is_set name (ap taken port.3 ∙ port_taken taken m.ports nevers.0 port.0 port.1 port.2)
          | inr register ↦ is_set name (ap taken register.2.named ∙ local_taken taken m.locals nevers.1 register.2.local register.2.declared)
        ];
        few_signals = built.few_signals;
      }

pub built_is_small : (S : SourceTree) → IsWellSized S → IsBuiltSource S → IsSmallSource S
built_is_small S sized built =
    let none : faults_from no_module (built.root ∷ []) ≡ [] = subst (λ (ms : List ModuleTree). faults_from no_module ms ≡ []) built.only sized.none in
    record { root = built.root; only = built.only; small = module_small built.root (both_none (faults_in no_module built.root) [] none).0 built.built }

-- what has a width is written as texts write it
between : (o : Op) (a b : Option ℕ) (w : ℕ) → operator_width o a b ≡ Some w → IsBetween o
between op.Not a b w e = absurd (cc)
between op.Mux a b w e = absurd (cc)
between op.Eq a b w e = tt
between op.Ne a b w e = tt
between op.Lt a b w e = tt
between op.Le a b w e = tt
between op.Gt a b w e = tt
between op.Ge a b w e = tt
between op.Shl a b w e = tt
between op.Shr a b w e = tt
between op.Asr a b w e = tt
between op.Ror a b w e = tt
between op.And a b w e = tt
between op.Or a b w e = tt
between op.Xor a b w e = tt
between op.Add a b w e = tt
between op.Sub a b w e = tt

no_part_wide : (w : ℕ) → checked_width (Some 0) ≡ Some w → ⊥
no_part_wide w e = cc

module _ (scope : Scope) where
  mutual
    written : (e : Tree) (w : ℕ) → width scope e ≡ Some w → IsWritten e
    written (number n width at) w is = tt
    written (whole of) w is = tt
    written (bit of place at) w is = tt
    written (slice of high low at) w is = tt
    written (index of place at) w is =
        let d = defined_is (scope.element of) (same_width (scope.place of) (width scope place)) w is in
        written place d.1.0 (same_is (scope.place of) (width scope place) d.1.0 d.1.1).1
    written (concat no_part at) w is = no_part_wide w is
    written (concat (one_part e times behind) at) w is =
        let c = checked_is (total_width scope (one_part e times behind)) w is in
        let j = joined_is (repeated_width (width scope e) (scope.count times)) (total_width scope behind) w c.0 in
        let r = repeated_is (width scope e) (scope.count times) j.0 j.2 in
        (written e r.0 r.2, all_written behind j.1 j.3)
    written (negation e at) w is = written e w is
    written (binary o a b at) w is =
        let p = operator_parts o (width scope a) (width scope b) w is in
        (between o (width scope a) (width scope b) w is, written a p.0 p.2, written b p.1 p.3)
    written (choice test first second at) w is =
        let d = defined_is (same_width (width scope first) (width scope second)) (same_width (Some 1) (width scope test)) w is in
        let s = same_is (width scope first) (width scope second) w d.0 in
        let t = same_is (Some 1) (width scope test) d.1.0 d.1.1 in
        (written test d.1.0 t.1, written first w s.0, written second w s.1)

    all_written : (ps : Parts) (w : ℕ) → total_width scope ps ≡ Some w → AreWritten ps
    all_written no_part w is = tt
    all_written (one_part e times behind) w is =
        let j = joined_is (repeated_width (width scope e) (scope.count times)) (total_width scope behind) w is in
        let r = repeated_is (width scope e) (scope.count times) j.0 j.2 in
        (written e r.0 r.2, all_written behind j.1 j.3)

plain_kind : (m : ModuleTree) (k : LocalKind) → IsSmallKind (wide_in m) k → IsPlainKind k
plain_kind m (Reg clock (shape.Vector width)) v = tt
plain_kind m (Reg clock (shape.Array count width)) v = absurd (let f : None ≡ Some v.width = v.is in cc)
plain_kind m (Var type) v = absurd v
plain_kind m (Inst of) v = absurd v

built_stmt : (m : ModuleTree) (t : StmtTree) → IsSmallStmt m t → IsBuiltStmt m t
built_stmt m (assignment name None e at equals) small = (written (scope_of m) e small.2.wide small.2.value_is, small.1)
built_stmt m (assignment name (Some place) e at equals) small = absurd small
built_stmt m (call name args at) small = absurd small
built_stmt m (pad io inner value release at) small = absurd small

pub small_is_built : (S : SourceTree) → IsSmallSource S → IsBuiltSource S
small_is_built S small = record {
  root = small.root;
  only = small.only;
  built = record {
    ports = all_of (λ (p : Port). p.way ≢ Both) small.root.ports (λ p among. (of_all (IsSmallPort (wide_in small.root)) p small.root.ports small.small.ports among).0);
    locals = all_of (λ (l : Local). IsPlainKind l.kind) small.root.locals
        (λ l among. plain_kind small.root l.kind (of_all (λ (k : Local). IsSmallKind (wide_in small.root) k.kind) l small.root.locals small.small.registers among));
    values = all_of (IsBuiltStmt small.root) small.root.body (λ t among. built_stmt small.root t (of_all (IsSmallStmt small.root) t small.root.body small.small.statements among));
    few_signals = small.small.few_signals;
  };
}
