-- What the statements of a well sized module assign and drive has the widths of what they set.
use Rattle.std.proofs.Common.{◌≡◌, ◌≢◌, ℕ, arith, List, [], ◌∷◌, ◌++◌, Option, Some, None, refl, sym, ◌∙◌, ap, subst, inl, inr}
use Rattle.lola_bits.specs.Lists.{IsIn}
use Rattle.lola_bits.specs.Names.{is_among}
use Rattle.lola_bits.proofs.Lists.{both_none}
use Rattle.lola_tree.specs.declared.named.Named.{Named}
use Rattle.lola_tree.specs.declared.named.Shape.{Shape}
use Rattle.lola_tree.specs.declared.named.Shape.TheVariants.{Vector, Array}
use Rattle.lola_tree.specs.Names.{Entry, Names, names_of}
use Rattle.lola_tree.specs.Signals.{register_names}
use Rattle.lola_tree.specs.Tree.{Tree, ActualTree, StmtTree, assignment, call, SourceTree}
use Rattle.lola_tree.specs.Tree as tree
use Rattle.lola_tree.specs.Width.{scope_of, width, vector_width, element_width, elements_width, named_shape}
use Rattle.lola_tree.specs.Value.{Path}
use Rattle.lola_tree.specs.design.Places.{Place, pad_of}
use Rattle.lola_tree.specs.design.Signals.{register, Signal, signals}
use Rattle.lola_tree.specs.design.Equations.{expression, copied, driven, Equation, stmt_equations, Update, stmt_updates}
use Rattle.lola_tree.specs.design.Chains.{flat_left}
use Rattle.lola_width.specs.declared.uses.Use.TheVariants as use_
use Rattle.lola_width.specs.NameFaults.{use_faults, expr_faults, stmt_faults}
use Rattle.lola_width.specs.WidthFaults.{differ, name_width, expr_widths, stmt_widths}
use Rattle.lola_design.specs.Drives.{DrivesPad}
use Rattle.lola_design.specs.Regular.{IsVector, IsArray}
use Rattle.lola_regular.specs.Clocked.{seen_behind}
use Rattle.lola_regular.specs.Written.{IsWrittenPlace, IsWrittenTree, IsWrittenStmt}
use Rattle.lola_values.proofs.Standing.{Stands}
use Rattle.lola_values.proofs.Reading.{the_clock, used_entry}
use Rattle.lola_values.proofs.Sides.{if_one, if_update}
use Rattle.lola_values.proofs.Known.{Known, NumbersAll}
use Rattle.lola_values.proofs.Wide.{pad_known, entry_array}
use Rattle.lola_values.proofs.Agree.{same_widths}
use Rattle.lola_values.proofs.Lefts.{PathsOnce, the_signal}
use Rattle.lola_values.proofs.Targets.{name_ref, element_entry, assigned_read, receiver_read, pad_read, element_read}
use Rattle.lola_values.proofs.Sound.{IsSound, sound_known}
use Rattle.lola_values.proofs.PadWidths.{ArePads}
use Rattle.lola_meaning.specs.Typed.{HasWidth, IsTyped, IsPadOf, SetsWidth}
use Rattle.lola_meaning.proofs.Sizing.{LeftHas, FlatHas, sound_typed, left_width, left_known, left_element, left_places, copied_width}

abbrev pub SetsBy : SourceTree → Update → Type 0
SetsBy S u = (x : Signal) → IsIn x (signals S) → x.path ≡ u.left → SetsWidth S u.module_ u.path x.names x.type u.place u.value

module _ (numbers : NumbersAll) (S : SourceTree) (once : PathsOnce S) (has : (x : Signal) → IsIn x (signals S) → HasWidth x.names x.type) (a : Place) (s : Stands S a.module_ a.path a.clocks) where
  abbrev own : tree.ModuleTree
  own = a.module_

  abbrev named : Names
  named = names_of own

  abbrev clock : Option (List ℕ)
  clock = the_clock S own a.path a.clocks s

  abbrev IsGood : Tree → Type 0
  IsGood e = IsSound S own a.path a.clocks s e

  abbrev IsFree : StmtTree → Type 0
  IsFree t = stmt_faults named (seen_behind s.earlier) clock t ≡ []

  abbrev IsSized : StmtTree → Type 0
  IsSized t = stmt_widths named (seen_behind s.earlier) t ≡ []

  good_known : (e : Tree) → IsGood e → Known (width (scope_of own) e)
  good_known e good = sound_known numbers S own a.path a.clocks s e good

  good_typed : (e : Tree) → IsGood e → IsTyped S own a.path e
  good_typed e good = sound_typed S own a.path a.clocks s e good

  -- a whole assignment: its width is that of its target
  whole_width : (name : List ℕ) (x : Tree) (at equals : ℕ) → use_faults use_.Assigned at name (named name) ≡ [] → IsGood x → differ equals (name_width named name) (width (scope_of own) x) ≡ [] →
      (y : Signal) → IsIn y (signals S) → y.path ≡ a.path ++ name ∷ [] → (IsVector y.type) × (width (scope_of own) x ≡ vector_width y.names (Some y.type)) × Known (vector_width y.names (Some y.type))
  whole_width name x at equals used good equal y there same =
      let target = assigned_read S own a.path a.clocks s (name_ref name) (name, refl) at used in
      let here = left_width S own a.path a.clocks s once (name_ref name) target y there same in
      let known = left_known S own a.path a.clocks s once (name_ref name) has target y there same in
      let one = the_signal S once (a.path ++ name ∷ []) y target.0 there target.1 same target.4 in
      let e = same_widths equals (name_width named name) (width (scope_of own) x) equal (subst Known here known) (good_known x good) in
      (subst (λ (k : Signal). IsVector k.type) (sym one) target.3, sym e ∙ sym here, known)

  assigned_has : (name : List ℕ) (x : Tree) (at equals : ℕ) → IsWrittenTree x → IsFree (assignment name None x at equals) → IsSized (assignment name None x at equals) → LeftHas S (a.path ++ name ∷ []) (expression own a.path x)
  assigned_has name x at equals written free sized y there same =
      let f = both_none (use_faults use_.Assigned at name (named name)) (expr_faults named clock x) free in
      let w = both_none (expr_widths (scope_of own) x) (differ equals (name_width named name) (width (scope_of own) x)) sized in
      let good : IsGood x = record { written = written; free = f.1; sized = w.0 } in
      let k = whole_width name x at equals f.0 good w.1 y there same in
      (k.2.0, k.2.2, (good_typed x good, k.1 ∙ k.2.2))

  set_whole : (m : tree.ModuleTree) (p : Path) (names : Names) (type : Shape) (e : Tree) → IsVector type → IsTyped S m p e → width (scope_of m) e ≡ vector_width names (Some type) → SetsWidth S m p names type None e
  set_whole m p names (Vector c) e is expr wide = (expr, wide)
  set_whole m p names (Array n c) e is expr wide = absurd is

  set_part : (m : tree.ModuleTree) (p : Path) (names : Names) (type : Shape) (place : ActualTree) (e : Tree) → IsArray type → IsTyped S m p e → width (scope_of m) e ≡ element_width names (Some type) →
      IsTyped S m p place.value → width (scope_of m) place.value ≡ elements_width names (Some type) → SetsWidth S m p names type (Some place) e
  set_part m p names (Vector c) place e is expr wide at many = absurd is
  set_part m p names (Array n c) place e is expr wide at many = (expr, wide, at, many)

  updated : (name : List ℕ) (place : Option ActualTree) (x : Tree) (at equals : ℕ) → IsWrittenPlace place × IsWrittenTree x → IsFree (assignment name place x at equals) → IsSized (assignment name place x at equals) →
      SetsBy S (record { left = a.path ++ name ∷ []; module_ = own; path = a.path; place = place; value = x })
  updated name None x at equals written free sized y there same =
      let f = both_none (use_faults use_.Assigned at name (named name)) (expr_faults named clock x) free in
      let w = both_none (expr_widths (scope_of own) x) (differ equals (name_width named name) (width (scope_of own) x)) sized in
      let good : IsGood x = record { written = written.1; free = f.1; sized = w.0 } in
      let k = whole_width name x at equals f.0 good w.1 y there same in
      set_whole own a.path y.names y.type x k.0 (good_typed x good) k.1
  updated name (Some place) x at equals written free sized y there same =
      let f = both_none (use_faults use_.ElementAssigned at name (named name)) _ free in
      let g = both_none (expr_faults named clock place.value) (expr_faults named clock x) f.1 in
      let w = both_none (expr_widths (scope_of own) place.value) _ sized in
      let d = both_none (differ place.at (elements_width named (named_shape (named name))) (width (scope_of own) place.value)) _ w.1 in
      let u = both_none (expr_widths (scope_of own) x) (differ equals (element_width named (named_shape (named name))) (width (scope_of own) x)) d.1 in
      let place_good : IsGood place.value = record { written = written.0; free = g.0; sized = w.0 } in
      let good : IsGood x = record { written = written.1; free = g.1; sized = u.0 } in
      let target = element_read S own a.path a.clocks s (name_ref name) (name, refl) at f.0 in
      let one = the_signal S once (a.path ++ name ∷ []) y target.0 there target.1.0 same target.3 in
      let entry = used_entry use_.ElementAssigned at name (named name) f.0 in
      let known = subst (λ (o : Option Entry). Known (element_width named (named_shape o)) × Known (elements_width named (named_shape o))) (sym entry.1) (entry_array numbers (seen_behind s.earlier) own s.clean name entry.0 entry.1 (element_entry entry.0 entry.2)) in
      let element = same_widths equals (element_width named (named_shape (named name))) (width (scope_of own) x) u.1 known.0 (good_known x good) in
      let places = same_widths place.at (elements_width named (named_shape (named name))) (width (scope_of own) place.value) d.0 known.1 (good_known place.value place_good) in
      set_part own a.path y.names y.type place x (subst (λ (k : Signal). IsArray k.type) (sym one) target.2) (good_typed x good)
      (sym element ∙ sym (left_element S own a.path a.clocks s once (name_ref name) target y there same)) (good_typed place.value place_good)
      (sym places ∙ sym (left_places S own a.path a.clocks s once (name_ref name) target y there same))

  pub updates_set : (t : StmtTree) → IsWrittenStmt t → IsFree t → IsSized t → (u : Update) → IsIn u (stmt_updates a t) → SetsBy S u
  updates_set (assignment name place x at equals) written free sized u is =
      let one : Update = record { left = a.path ++ name ∷ []; module_ = own; path = a.path; place = place; value = x } in
      subst (SetsBy S) (sym (if_update S a s (is_among (register_names own.locals) name) one u is)) (updated name place x at equals written free sized)
  updates_set (call name args at) written free sized u is = absurd is
  updates_set (tree.pad io inner drive release at) written free sized u is = absurd is

  -- what is no register is assigned whole
  part_stored : (name : List ℕ) (place : ActualTree) (x : Tree) (at equals : ℕ) → IsFree (assignment name (Some place) x at equals) → (y : Signal) → IsIn y (signals S) → y.path ≡ a.path ++ name ∷ [] → y.kind ≡ register
  part_stored name place x at equals free y there same =
      let f = both_none (use_faults use_.ElementAssigned at name (named name)) _ free in
      let target = element_read S own a.path a.clocks s (name_ref name) (name, refl) at f.0 in
      ap (λ (k : Signal). k.kind) (the_signal S once (a.path ++ name ∷ []) y target.0 there target.1.0 same target.3) ∙ target.1.1

  value_has : (name : List ℕ) (place : Option ActualTree) (x : Tree) (at equals : ℕ) → IsWrittenPlace place × IsWrittenTree x → IsFree (assignment name place x at equals) → IsSized (assignment name place x at equals) →
      ((y : Signal) → IsIn y (signals S) → y.path ≡ a.path ++ name ∷ [] → y.kind ≢ register) → LeftHas S (a.path ++ name ∷ []) (expression own a.path x)
  value_has name None x at equals written free sized wired = assigned_has name x at equals written.1 free sized
  value_has name (Some place) x at equals written free sized wired = λ y there same. absurd (wired y there same (part_stored name place x at equals free y there same))

  -- a pad that is driven, and what it carries
  driven_has : ArePads S own a.pads → (io inner : Named) (drive release : ActualTree) (at : ℕ) → DrivesPad a.pads (tree.pad io inner drive release at) → IsWrittenStmt (tree.pad io inner drive release at) → IsFree (tree.pad io inner drive release at) → IsSized (tree.pad io inner drive release at) →
      LeftHas S (pad_of a.pads io.name) (driven own a.path drive.value release.value (pad_of a.pads io.name))
  driven_has stand io inner drive release at drives written free sized y there same =
      let f = both_none (use_faults use_.Pad io.at io.name (named io.name)) _ free in
      let g = both_none (use_faults use_.Receiver inner.at inner.name (named inner.name)) _ f.1 in
      let h = both_none (expr_faults named clock drive.value) (expr_faults named clock release.value) g.1 in
      let d = both_none (differ inner.at (name_width named io.name) (name_width named inner.name)) _ sized in
      let w = both_none (expr_widths (scope_of own) drive.value) _ d.1 in
      let k = both_none (differ drive.at (name_width named io.name) (width (scope_of own) drive.value)) _ w.1 in
      let r = both_none (expr_widths (scope_of own) release.value) _ k.1 in
      let drive_good : IsGood drive.value = record { written = written.0; free = h.0; sized = w.0 } in
      let release_good : IsGood release.value = record { written = written.1; free = h.1; sized = r.0 } in
      let known = pad_known numbers (seen_behind s.earlier) own s.clean io.at io.name f.0 in
      let e = same_widths drive.at (name_width named io.name) (width (scope_of own) drive.value) k.0 known (good_known drive.value drive_good) in
      let one = same_widths release.at (Some 1) (width (scope_of own) release.value) r.1 (1, omega arith, refl) (good_known release.value release_good) in
      let z = stand io.name drives in
      let same_signal = the_signal S once (pad_of a.pads io.name) y z.signal there z.is_pad.0 same z.path_is in
      let of : IsPadOf S known.0 (pad_of a.pads io.name) = record { signal = z.signal; there = z.is_pad; vector = z.vector; path_is = z.path_is; wide = z.wide ∙ known.2 } in
      (known.0, ap (λ (k : Signal). vector_width k.names (Some k.type)) same_signal ∙ z.wide ∙ known.2, (of, good_typed release.value release_good, sym one, good_typed drive.value drive_good, sym e ∙ known.2))

  carried_has : (io inner : Named) (drive release : ActualTree) (at : ℕ) → IsFree (tree.pad io inner drive release at) → IsSized (tree.pad io inner drive release at) → LeftHas S (a.path ++ inner.name ∷ []) (copied (a.path ++ io.name ∷ []))
  carried_has io inner drive release at free sized y there same =
      let f = both_none (use_faults use_.Pad io.at io.name (named io.name)) _ free in
      let g = both_none (use_faults use_.Receiver inner.at inner.name (named inner.name)) _ f.1 in
      let d = both_none (differ inner.at (name_width named io.name) (name_width named inner.name)) _ sized in
      let carrier = pad_read S own a.path a.clocks s (name_ref io.name) (io.name, refl) io.at f.0 in
      let target = receiver_read S own a.path a.clocks s (name_ref inner.name) (inner.name, refl) inner.at g.0 in
      let known = pad_known numbers (seen_behind s.earlier) own s.clean io.at io.name f.0 in
      let here = left_width S own a.path a.clocks s once (name_ref inner.name) target y there same in
      let inner_known = subst Known here (left_known S own a.path a.clocks s once (name_ref inner.name) has target y there same) in
      let e = same_widths inner.at (name_width named io.name) (name_width named inner.name) d.0 known inner_known in
      (known.0, here ∙ sym e ∙ known.2, copied_width S own a.path a.clocks s (name_ref io.name) carrier (a.path ++ io.name ∷ []) refl known.0 known.2)

  pub equations_have : ArePads S own a.pads → (t : StmtTree) → DrivesPad a.pads t → IsWrittenStmt t → IsFree t → IsSized t → (e : Equation) → IsIn e (stmt_equations a t) →
      ((y : Signal) → IsIn y (signals S) → y.path ≡ flat_left e.left e.right → y.kind ≢ register) → FlatHas S e
  equations_have stand (assignment name place x at equals) drives written free sized e is wired =
      let one : Equation = record { left = a.path ++ name ∷ []; right = expression own a.path x } in
      let same = if_one S (is_among (register_names own.locals) name) one e is in
      subst (FlatHas S) (sym same) (value_has name place x at equals written free sized (subst (λ (d : Equation). (y : Signal) → IsIn y (signals S) → y.path ≡ flat_left d.left d.right → y.kind ≢ register) same wired))
  equations_have stand (call name args at) drives written free sized e is wired = absurd is
  equations_have stand (tree.pad io inner drive release at) drives written free sized e (inl same) wired = subst (FlatHas S) (sym same) (driven_has stand io inner drive release at drives written free sized)
  equations_have stand (tree.pad io inner drive release at) drives written free sized e (inr (inl same)) wired = subst (FlatHas S) (sym same) (carried_has io inner drive release at free sized)
  equations_have stand (tree.pad io inner drive release at) drives written free sized e (inr (inr none)) wired = absurd none
