-- What the equations and updates of a well sized design read.
use Rattle.std.proofs.Common.{◌≡◌, ℕ, Bool, true, false, cond, List, [], ◌∷◌, ◌++◌, reverse, Option, Some, None, refl, sym, ◌∙◌, ap, subst, inl, inr}
use Rattle.std.specs.Prelude.{if◌then◌else◌, flat_map}
use Rattle.std.specs.List.{AllByRecursion}
use Rattle.std.proofs.lemmas.Bool.{cases_Bool, cond-false, false≢true}
use Rattle.lola_bits.specs.Lists.{IsIn}
use Rattle.lola_bits.specs.Names.{is_among}
use Rattle.lola_bits.proofs.Lists.{both_none, in_either, from_map, from_flat_map}
use Rattle.lola_bits.proofs.All.{of_all}
use Rattle.lola_tree.specs.declared.named.Shape.{Shape}
use Rattle.lola_tree.specs.declared.module.Way.{Way}
use Rattle.lola_tree.specs.declared.module.Way.TheVariants.{Inward, Outward, Both}
use Rattle.lola_tree.specs.declared.module.Port.{Port}
use Rattle.lola_tree.specs.Names.{Entry, port, constant, local, Names, names_of, ref_name}
use Rattle.lola_tree.specs.Width.{scope_of}
use Rattle.lola_tree.specs.Tree.{Tree, number, whole, bit, slice, index, concat, negation, binary, choice, ActualTree, StmtTree, assignment, call, pad, ModuleTree, SourceTree}
use Rattle.lola_tree.specs.Value.{Path}
use Rattle.lola_tree.specs.Signals.{register_names}
use Rattle.lola_tree.specs.design.Calls.{bare_path}
use Rattle.lola_tree.specs.design.Places.{Caller, Place, places}
use Rattle.lola_tree.specs.design.Equations.{Right, expression, copied, Equation, way_equations, arg_equations, caller_equations, stmt_equations, place_equations, equations, Update, stmt_updates, place_updates, updates}
use Rattle.lola_tree.specs.design.Chains.{names_in, arrays_in, paths_of, right_paths, right_arrays, flat_equation, flat_equations}
use Rattle.lola_width.specs.declared.uses.Use.TheVariants as use_
use Rattle.lola_width.specs.Interface.{Seen, bare_name, is_clock, pins_of}
use Rattle.lola_width.specs.declared.fault.SourceFault.TheVariants.{Kind}
use Rattle.lola_width.specs.NameFaults.{is_both, suits, use_faults, expr_faults, bare_faults, clock_faults, way_faults, args_faults, stmt_faults}
use Rattle.lola_design.specs.Regular.{IsVector, AreRead, update_paths, update_arrays}
use Rattle.lola_regular.specs.Clocked.{seen_behind, AreClocked}
use Rattle.lola_regular.specs.Written.{IsWrittenTree, IsWrittenArgument, IsWrittenPlace, IsWrittenStmt, IsWrittenModule}
use Rattle.lola_regular.proofs.Clean.{AllClean}
use Rattle.lola_regular.proofs.Named.{port_found}
use Rattle.lola_regular.proofs.Ways.{clock_inward}
use Rattle.lola_regular.proofs.PadsPassed.{stmt_free}
use Rattle.lola_values.proofs.Types.{ports_vectors}
use Rattle.lola_values.proofs.Standing.{Shown, Stands, PlaceStands, all_stand}
use Rattle.lola_values.proofs.Reading.{used_entry, the_clock, no_name_clock, at_ref, expression_read}
use Rattle.lola_values.proofs.Entered.{arguments_of}

abbrev RightRead : SourceTree → Right → Type 0
RightRead S r = AreRead S (right_paths r) (right_arrays r)

-- what is copied, and two reads together
copied_read : (S : SourceTree) (path : Path) (type : Shape) (names : Names) → Shown S path type names → IsVector type → RightRead S (copied path)
copied_read S path type names x is = record {
  vector = λ y there. elim there [
    | inl same ↦ (x.signal, x.there, x.no_clock, subst IsVector (sym x.type_is) is, x.path_is ∙ sym same)
    | inr none ↦ absurd none
  ];
  array = λ y none. absurd none;
}

pub both_read : (S : SourceTree) (xs ys us vs : List Path) → AreRead S xs us → AreRead S ys vs → AreRead S (xs ++ ys) (us ++ vs)
both_read S xs ys us vs p q = record {
  vector = λ y there. elim (in_either y xs ys there) [ inl front ↦ p.vector y front | inr back ↦ q.vector y back ];
  array = λ y there. elim (in_either y us vs there) [ inl front ↦ p.array y front | inr back ↦ q.array y back ];
}

-- a pad is a port whose signal is a vector
pad_entry : (S : SourceTree) (m : ModuleTree) (p : Path) (clocks : List (List ℕ)) (s : Stands S m p clocks) (n : List ℕ) (e : Entry) → names_of m n ≡ Some e → suits use_.Pad e ≡ true → RightRead S (copied (p ++ n ∷ []))
pad_entry S m p clocks s n (port q) named is =
    let f = port_found m n q named in
    let x = s.port q f.0 (λ inward. absurd (false≢true (sym (ap is_both inward) ∙ is))) in
    subst (λ (l : List ℕ). RightRead S (copied (p ++ l ∷ []))) (sym f.1) (copied_read S (p ++ q.name ∷ []) q.shape (names_of m) x (ports_vectors (names_of m) m.ports s.clean.ports q f.0))
pad_entry S m p clocks s n (constant c) named is = absurd (false≢true is)
pad_entry S m p clocks s n (local l) named is = absurd (false≢true is)

pad_read : (S : SourceTree) (m : ModuleTree) (p : Path) (clocks : List (List ℕ)) (s : Stands S m p clocks) (n : List ℕ) (at : ℕ) → use_faults use_.Pad at n (names_of m n) ≡ [] → RightRead S (copied (p ++ n ∷ []))
pad_read S m p clocks s n at none = let u = used_entry use_.Pad at n (names_of m n) none in pad_entry S m p clocks s n u.0 u.1 u.2

-- an argument for an INOUT port
no_bare : (names : Names) (clock : Option (List ℕ)) (e : Tree) (at : ℕ) {T : Type 0} → expr_faults names clock e ++ Kind at ∷ [] ≡ [] → T
no_bare names clock e at none = let f = (both_none (expr_faults names clock e) (Kind at ∷ []) none).1 in absurd (cc)

bare_read : (S : SourceTree) (m : ModuleTree) (p : Path) (clocks : List (List ℕ)) (s : Stands S m p clocks) (clock : Option (List ℕ)) (e : Tree) (at : ℕ) → IsWrittenTree e →
    bare_faults (names_of m) clock use_.Pad (record { value = e; at = at }) (bare_name e) ≡ [] → RightRead S (copied (p ++ bare_path e))
bare_read S m p clocks s clock (whole of) at written none = subst (λ (y : Path). RightRead S (copied y)) (at_ref S m p clocks s of written (ref_name of) refl) (pad_read S m p clocks s (ref_name of) of.at none)
bare_read S m p clocks s clock (number n w place) at written none = no_bare (names_of m) clock (number n w place) at none
bare_read S m p clocks s clock (bit of i place) at written none = no_bare (names_of m) clock (bit of i place) at none
bare_read S m p clocks s clock (slice of h l place) at written none = no_bare (names_of m) clock (slice of h l place) at none
bare_read S m p clocks s clock (index of i place) at written none = no_bare (names_of m) clock (index of i place) at none
bare_read S m p clocks s clock (concat parts place) at written none = no_bare (names_of m) clock (concat parts place) at none
bare_read S m p clocks s clock (negation x place) at written none = no_bare (names_of m) clock (negation x place) at none
bare_read S m p clocks s clock (binary o x y place) at written none = no_bare (names_of m) clock (binary o x y place) at none
bare_read S m p clocks s clock (choice t x y place) at written none = no_bare (names_of m) clock (choice t x y place) at none

module _ (S : SourceTree) where
  -- a port and its argument
  way_read : (m : ModuleTree) (q : Path) (own : List (List ℕ)) (sm : Stands S m q own) (c : ModuleTree) (p : Path) (clocks : List (List ℕ)) (sc : Stands S c p clocks) (r : Port) → IsIn r m.ports → (w : Way) → r.way ≡ w →
      (b : Bool) → is_among own r.name ≡ b → (a : ActualTree) → IsWrittenTree a.value →
      cond (is_clock (the_clock S m q own sm) r.name) (clock_faults (names_of c) (the_clock S c p clocks sc) a (bare_name a.value)) (way_faults (names_of c) (the_clock S c p clocks sc) w a) ≡ [] →
      (e : Equation) → IsIn e (way_equations w b (q ++ r.name ∷ []) c p a.value) → RightRead S e.right
  way_read m q own sm c p clocks sc r there Inward way true among a written none e is = absurd is
  way_read m q own sm c p clocks sc r there Inward way false among a written none e (inl same) =
      let other = no_name_clock S m q own sm r.name among in
      let own_none : expr_faults (names_of c) (the_clock S c p clocks sc) a.value ≡ [] =
      sym (cond-false (is_clock (the_clock S m q own sm) r.name) (clock_faults (names_of c) (the_clock S c p clocks sc) a (bare_name a.value)) (expr_faults (names_of c) (the_clock S c p clocks sc) a.value) other) ∙ none in
      subst (λ (d : Equation). RightRead S d.right) (sym same) (expression_read S c p clocks sc a.value written own_none)
  way_read m q own sm c p clocks sc r there Inward way false among a written none e (inr absent) = absurd absent
  way_read m q own sm c p clocks sc r there Outward way b among a written none e (inl same) =
      let x = sm.port r there (λ inward. absurd (let f : Outward ≡ Inward = sym way ∙ inward in cc)) in
      subst (λ (d : Equation). RightRead S d.right) (sym same) (copied_read S (q ++ r.name ∷ []) r.shape (names_of m) x (ports_vectors (names_of m) m.ports sm.clean.ports r there))
  way_read m q own sm c p clocks sc r there Outward way b among a written none e (inr absent) = absurd absent
  way_read m q own sm c p clocks sc r there Both way b among a written none e (inl same) =
      let other : is_clock (the_clock S m q own sm) r.name ≡ false = elim (cases_Bool (is_clock (the_clock S m q own sm) r.name)) [
        | inl is_one ↦ absurd (let f : Both ≡ Inward = sym way ∙ clock_inward (seen_behind sm.earlier) m sm.clean r there is_one in cc)
        | inr differ ↦ differ
      ] in
      let own_none : bare_faults (names_of c) (the_clock S c p clocks sc) use_.Pad a (bare_name a.value) ≡ [] =
      sym (cond-false (is_clock (the_clock S m q own sm) r.name) (clock_faults (names_of c) (the_clock S c p clocks sc) a (bare_name a.value)) (bare_faults (names_of c) (the_clock S c p clocks sc) use_.Pad a (bare_name a.value)) other) ∙ none in
      subst (λ (d : Equation). RightRead S d.right) (sym same) (bare_read S c p clocks sc (the_clock S c p clocks sc) a.value a.at written own_none)
  way_read m q own sm c p clocks sc r there Both way b among a written none e (inr absent) = absurd absent

  args_read : (m : ModuleTree) (q : Path) (own : List (List ℕ)) (sm : Stands S m q own) (c : ModuleTree) (p : Path) (clocks : List (List ℕ)) (sc : Stands S c p clocks) (ports : List Port) → ((r : Port) → IsIn r ports → IsIn r m.ports) →
      (args : List ActualTree) → AllByRecursion IsWrittenArgument args → args_faults (names_of c) (the_clock S c p clocks sc) args (pins_of (names_of m) (the_clock S m q own sm) ports) ≡ [] →
      (e : Equation) → IsIn e (arg_equations own q c p ports args) → RightRead S e.right
  args_read m q own sm c p clocks sc [] sub args written none e is = absurd is
  args_read m q own sm c p clocks sc (r ∷ ports) sub [] written none e is = absurd is
  args_read m q own sm c p clocks sc (r ∷ ports) sub (a ∷ args) written none e is =
      let pins = pins_of (names_of m) (the_clock S m q own sm) ports in
      let split = both_none (cond (is_clock (the_clock S m q own sm) r.name) (clock_faults (names_of c) (the_clock S c p clocks sc) a (bare_name a.value)) (way_faults (names_of c) (the_clock S c p clocks sc) r.way a)) (args_faults (names_of c) (the_clock S c p clocks sc) args pins) none in
      elim (in_either e (way_equations r.way (is_among own r.name) (q ++ r.name ∷ []) c p a.value) (arg_equations own q c p ports args) is) [
        | inl here ↦ way_read m q own sm c p clocks sc r (sub r (inl refl)) r.way refl (is_among own r.name) refl a written.0 split.0 e here
        | inr later ↦ args_read m q own sm c p clocks sc ports (λ t there. sub t (inr there)) args written.1 split.1 e later
      ]

  caller_read : (a : Place) (k : PlaceStands S a) (c : Option Caller) → a.caller ≡ c → (e : Equation) → IsIn e (caller_equations a c) → RightRead S e.right
  caller_read a k None is_caller e is = absurd is
  caller_read a k (Some c) is_caller e is =
      let g = arguments_of S a k c is_caller in
      args_read a.module_ a.path a.clocks g.own c.module_ c.path g.clocks g.caller a.module_.ports (λ r there. there) c.args g.written g.free e is

  -- a statement
  pub assigned_clean : (names : Names) (seen : Seen) (clock : Option (List ℕ)) (name : List ℕ) (place : Option ActualTree) (x : Tree) (at equals : ℕ) → stmt_faults names seen clock (assignment name place x at equals) ≡ [] → expr_faults names clock x ≡ []
  assigned_clean names seen clock name None x at equals none = (both_none (use_faults use_.Assigned at name (names name)) (expr_faults names clock x) none).1
  assigned_clean names seen clock name (Some place) x at equals none =
      let split = both_none (use_faults use_.ElementAssigned at name (names name)) (expr_faults names clock place.value ++ expr_faults names clock x) none in
      (both_none (expr_faults names clock place.value) (expr_faults names clock x) split.1).1

  pub if_one : (b : Bool) (one e : Equation) → IsIn e (if b then [] else one ∷ []) → e ≡ one
  if_one true one e is = absurd is
  if_one false one e (inl same) = same
  if_one false one e (inr none) = absurd none

  module _ (a : Place) (s : Stands S a.module_ a.path a.clocks) where
    stmt_read : (t : StmtTree) → IsWrittenStmt t → stmt_faults (names_of a.module_) (seen_behind s.earlier) (the_clock S a.module_ a.path a.clocks s) t ≡ [] → (e : Equation) → IsIn e (stmt_equations a t) → RightRead S e.right
    stmt_read (assignment name place x at equals) written none e is =
        let one : Equation = record { left = a.path ++ name ∷ []; right = expression a.module_ a.path x } in
        subst (λ (d : Equation). RightRead S d.right) (sym (if_one (is_among (register_names a.module_.locals) name) one e is))
        (expression_read S a.module_ a.path a.clocks s x written.1 (assigned_clean (names_of a.module_) (seen_behind s.earlier) (the_clock S a.module_ a.path a.clocks s) name place x at equals none))
    stmt_read (call name args at) written none e is = absurd is
    stmt_read (pad io inner drive release at) written none e is =
        let names = names_of a.module_ in
        let clock = the_clock S a.module_ a.path a.clocks s in
        let split = both_none (use_faults use_.Pad io.at io.name (names io.name)) (use_faults use_.Receiver inner.at inner.name (names inner.name) ++ (expr_faults names clock drive.value ++ expr_faults names clock release.value)) none in
        let more = both_none (use_faults use_.Receiver inner.at inner.name (names inner.name)) (expr_faults names clock drive.value ++ expr_faults names clock release.value) split.1 in
        let exprs = both_none (expr_faults names clock drive.value) (expr_faults names clock release.value) more.1 in
        let d = expression_read S a.module_ a.path a.clocks s drive.value written.0 exprs.0 in
        let r = expression_read S a.module_ a.path a.clocks s release.value written.1 exprs.1 in
        let both = both_read S (paths_of a.path (names_in (scope_of a.module_) release.value)) (paths_of a.path (names_in (scope_of a.module_) drive.value)) (paths_of a.path (arrays_in release.value)) (paths_of a.path (arrays_in drive.value)) r d in
        elim is [
          | inl same ↦ subst (λ (d : Equation). RightRead S d.right) (sym same) both
          | inr (inl same) ↦ subst (λ (d : Equation). RightRead S d.right) (sym same) (pad_read S a.module_ a.path a.clocks s io.name io.at split.0)
          | inr (inr absent) ↦ absurd absent
        ]

    pub if_update : (b : Bool) (one u : Update) → IsIn u (if b then one ∷ [] else []) → u ≡ one
    if_update true one u (inl same) = same
    if_update true one u (inr none) = absurd none
    if_update false one u is = absurd is

    place_read : (name : List ℕ) (place : Option ActualTree) (x : Tree) (at equals : ℕ) → IsWrittenPlace place × IsWrittenTree x → stmt_faults (names_of a.module_) (seen_behind s.earlier) (the_clock S a.module_ a.path a.clocks s) (assignment name place x at equals) ≡ [] →
        AreRead S (update_paths (record { left = a.path ++ name ∷ []; module_ = a.module_; path = a.path; place = place; value = x })) (update_arrays (record { left = a.path ++ name ∷ []; module_ = a.module_; path = a.path; place = place; value = x }))
    place_read name None x at equals written none = expression_read S a.module_ a.path a.clocks s x written.1 (assigned_clean (names_of a.module_) (seen_behind s.earlier) (the_clock S a.module_ a.path a.clocks s) name None x at equals none)
    place_read name (Some place) x at equals written none =
        let names = names_of a.module_ in
        let clock = the_clock S a.module_ a.path a.clocks s in
        let split = both_none (use_faults use_.ElementAssigned at name (names name)) (expr_faults names clock place.value ++ expr_faults names clock x) none in
        let exprs = both_none (expr_faults names clock place.value) (expr_faults names clock x) split.1 in
        both_read S (paths_of a.path (names_in (scope_of a.module_) place.value)) (paths_of a.path (names_in (scope_of a.module_) x)) (paths_of a.path (arrays_in place.value)) (paths_of a.path (arrays_in x))
        (expression_read S a.module_ a.path a.clocks s place.value written.0 exprs.0) (expression_read S a.module_ a.path a.clocks s x written.1 exprs.1)

    update_read : (t : StmtTree) → IsWrittenStmt t → stmt_faults (names_of a.module_) (seen_behind s.earlier) (the_clock S a.module_ a.path a.clocks s) t ≡ [] → (u : Update) → IsIn u (stmt_updates a t) → AreRead S (update_paths u) (update_arrays u)
    update_read (assignment name place x at equals) written none u is =
        let one : Update = record { left = a.path ++ name ∷ []; module_ = a.module_; path = a.path; place = place; value = x } in
        subst (λ (d : Update). AreRead S (update_paths d) (update_arrays d)) (sym (if_update (is_among (register_names a.module_.locals) name) one u is)) (place_read name place x at equals written none)
    update_read (call name args at) written none u is = absurd is
    update_read (pad io inner drive release at) written none u is = absurd is

  module _ (clean : AllClean (reverse S.modules)) (written : AllByRecursion IsWrittenModule (reverse S.modules)) (clocked : AreClocked (reverse S.modules)) where
    equation_read : (e : Equation) → IsIn e (equations S) → RightRead S e.right
    equation_read e is =
        let f = from_flat_map place_equations e (places S) is in
        let a = f.0 in
        let k = all_stand S clean written clocked a f.1 in
        elim (in_either e (caller_equations a a.caller) (flat_map (stmt_equations a) a.module_.body) f.2) [
          | inl called ↦ caller_read a k a.caller refl e called
          | inr said ↦
              let t = from_flat_map (stmt_equations a) e a.module_.body said in
              stmt_read a k.stands t.0 (of_all IsWrittenStmt t.0 a.module_.body k.stands.written t.1)
              (stmt_free (names_of a.module_) (seen_behind k.stands.earlier) (the_clock S a.module_ a.path a.clocks k.stands) a.module_.body k.stands.clean.body t.0 t.1) e t.2
        ]

    pub flat_reads : (e : Equation) → IsIn e (flat_equations S) → AreRead S (right_paths e.right) (right_arrays e.right)
    flat_reads e is =
        let f = from_map flat_equation e (equations S) is in
        subst (λ (d : Equation). RightRead S d.right) (sym f.2) (equation_read f.0 f.1)

    pub update_reads : (u : Update) → IsIn u (updates S) → AreRead S (update_paths u) (update_arrays u)
    update_reads u is =
        let f = from_flat_map place_updates u (places S) is in
        let a = f.0 in
        let k = all_stand S clean written clocked a f.1 in
        let t = from_flat_map (stmt_updates a) u a.module_.body f.2 in
        update_read a k.stands t.0 (of_all IsWrittenStmt t.0 a.module_.body k.stands.written t.1)
        (stmt_free (names_of a.module_) (seen_behind k.stands.earlier) (the_clock S a.module_ a.path a.clocks k.stands) a.module_.body k.stands.clean.body t.0 t.1) u t.2
