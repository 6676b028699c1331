-- What the statements of a well sized module assign and drive fits what they set.
use Rattle.std.proofs.Common.{◌≡◌, ℕ, ◌^◌, ◌<◌, cond, List, [], ◌∷◌, ◌++◌, Option, Some, None, refl, sym, ◌∙◌, ap, subst, inl, inr}
use Rattle.std.specs.Prelude.{nat_eq}
use Rattle.lola_bits.specs.Lists.{IsIn}
use Rattle.lola_bits.specs.Names.{is_among}
use Rattle.lola_bits.proofs.Lists.{both_none}
use Rattle.lola_tree.specs.declared.named.Named.{Named}
use Rattle.lola_tree.specs.Names.{Names, Entry, names_of}
use Rattle.lola_tree.specs.Signals.{register_names}
use Rattle.lola_tree.specs.Tree.{Tree, ActualTree, StmtTree, assignment, call, pad, ModuleTree, SourceTree}
use Rattle.lola_tree.specs.Width.{scope_of, vector_width, element_width, elements_width, named_shape, width}
use Rattle.lola_tree.specs.Value.{Path, Values, value}
use Rattle.lola_tree.specs.Cycle.{names_at, FitsIn}
use Rattle.lola_tree.specs.design.Places.{Place, pad_of}
use Rattle.lola_tree.specs.design.Signals.{Signal, signals, elements}
use Rattle.lola_tree.specs.design.Equations.{expression, copied, driven, Equation, stmt_equations, Update, stmt_updates}
use Rattle.lola_tree.specs.design.Chains.{names_in, arrays_in, paths_of}
use Rattle.lola_width.specs.declared.uses.Use.TheVariants as use_
use Rattle.lola_width.specs.NameFaults.{use_faults, expr_faults, stmt_faults}
use Rattle.lola_width.specs.WidthFaults.{differ, name_width, expr_widths, stmt_widths}
use Rattle.lola_design.specs.Drives.{DrivesPad}
use Rattle.lola_design.specs.Regular.{FitsType, ReadsSuit, AreWithin, IsPlaceWithin, update_paths, update_arrays}
use Rattle.lola_regular.specs.Clocked.{seen_behind}
use Rattle.lola_regular.specs.Written.{IsWrittenPlace, IsWrittenTree, IsWrittenStmt}
use Rattle.lola_values.proofs.Standing.{Stands}
use Rattle.lola_values.proofs.Reading.{used_entry, the_clock}
use Rattle.lola_values.proofs.Sides.{if_one, if_update}
use Rattle.lola_values.proofs.Known.{Known, NumbersAll, same_known}
use Rattle.lola_values.proofs.Wide.{entry_array, pad_known}
use Rattle.lola_values.proofs.Agree.{fits_left, fits_right, chosen_in}
use Rattle.lola_values.proofs.Lefts.{PathsOnce, LeftFits, suit_front, suit_back, of_vector, suits_vector, the_signal, vector_left, array_left, copied_fits}
use Rattle.lola_values.proofs.Fitting.{elements_are}
use Rattle.lola_values.proofs.Targets.{name_ref, element_entry, assigned_read, receiver_read, pad_read, element_read}
use Rattle.lola_values.proofs.Sound.{IsSound, sound_known, sound_fits, sound_within}
use Rattle.lola_values.proofs.PadWidths.{ArePads}
use Rattle.lola_values.proofs.Arguments.{FlatFits}

-- what an update gives fits what it sets
abbrev pub UpdateFits : SourceTree → Update → Type 0
UpdateFits S u = (x : Signal) → IsIn x (signals S) → x.path ≡ u.left → (v : Values) → ReadsSuit S (update_paths u) (update_arrays u) v →
    FitsType x.names x.type (value (scope_of u.module_) u.value (names_at u.path v)) × AreWithin S u.module_ u.path v u.value × IsPlaceWithin S u.module_ u.path v x u.place

module _ (numbers : NumbersAll) (S : SourceTree) (once : PathsOnce S) (a : Place) (s : Stands S a.module_ a.path a.clocks) where
  abbrev own : ModuleTree
  own = a.module_

  abbrev named : Names
  named = names_of own

  abbrev IsGood : Tree → Type 0
  IsGood e = IsSound S own a.path a.clocks s e

  abbrev IsFree : StmtTree → Type 0
  IsFree t = stmt_faults named (seen_behind s.earlier) (the_clock S own a.path a.clocks s) t ≡ []

  abbrev IsSized : StmtTree → Type 0
  IsSized t = stmt_widths named (seen_behind s.earlier) t ≡ []

  abbrev clock : Option (List ℕ)
  clock = the_clock S own a.path a.clocks s

  good_known : (e : Tree) → IsGood e → Known (width (scope_of own) e)
  good_known e good = sound_known numbers S own a.path a.clocks s e good

  abbrev Suited : Tree → Values → Type 0
  Suited e v = ReadsSuit S (paths_of a.path (names_in (scope_of own) e)) (paths_of a.path (arrays_in e)) v

  abbrev result : Tree → Values → ℕ
  result e v = value (scope_of own) e (names_at a.path v)

  good_fits : (e : Tree) → IsGood e → (v : Values) → Suited e v → FitsIn (width (scope_of own) e) (result e v)
  good_fits e good v suit = sound_fits numbers S own a.path a.clocks s e good v suit

  good_within : (e : Tree) → IsGood e → (v : Values) → Suited e v → AreWithin S own a.path v e
  good_within e good v suit = sound_within numbers S own a.path a.clocks s e good v suit once

  -- an element that is assigned, and its place
  record SetsElement (name : List ℕ) (place : ActualTree) (x : Tree) (equals : ℕ) : Type 0 where
    used : (at : ℕ) × (use_faults use_.ElementAssigned at name (named name) ≡ [])
    place_good : IsGood place.value
    value_good : IsGood x
    place_equal : differ place.at (elements_width named (named_shape (named name))) (width (scope_of own) place.value) ≡ []
    value_equal : differ equals (element_width named (named_shape (named name))) (width (scope_of own) x) ≡ []

  sets_element : (name : List ℕ) (place : ActualTree) (x : Tree) (at equals : ℕ) → IsWrittenTree place.value × IsWrittenTree x → IsFree (assignment name (Some place) x at equals) → IsSized (assignment name (Some place) x at equals) → SetsElement name place x equals
  sets_element name place x at equals written free sized =
      let f = both_none (use_faults use_.ElementAssigned at name (named name)) _ free in
      let g = both_none (expr_faults named clock place.value) (expr_faults named clock x) f.1 in
      let w = both_none (expr_widths (scope_of own) place.value) _ sized in
      let d = both_none (differ place.at (elements_width named (named_shape (named name))) (width (scope_of own) place.value)) _ w.1 in
      let u = both_none (expr_widths (scope_of own) x) (differ equals (element_width named (named_shape (named name))) (width (scope_of own) x)) d.1 in
      record {
        used = (at, f.0);
        place_good = record { written = written.0; free = g.0; sized = w.0 };
        value_good = record { written = written.1; free = g.1; sized = u.0 };
        place_equal = d.0;
        value_equal = u.1;
      }

  places_known : (name : List ℕ) (at : ℕ) → use_faults use_.ElementAssigned at name (named name) ≡ [] → Known (elements_width named (named_shape (named name)))
  places_known name at none =
      let u = used_entry use_.ElementAssigned at name (named name) none in
      subst (λ (o : Option Entry). Known (elements_width named (named_shape o))) (sym u.1) (entry_array numbers (seen_behind s.earlier) own s.clean name u.0 u.1 (element_entry u.0 u.2)).1

  place_fits : (name : List ℕ) (place : ActualTree) (x : Tree) (equals : ℕ) → SetsElement name place x equals →
      (y : Signal) → IsIn y (signals S) → y.path ≡ a.path ++ name ∷ [] → (v : Values) → Suited place.value v → IsPlaceWithin S own a.path v y (Some place)
  place_fits name place x equals k y there same v suit =
      let z = element_read S own a.path a.clocks s (name_ref name) (name, refl) k.used.0 k.used.1 in
      let one = the_signal S once (a.path ++ name ∷ []) y z.0 there z.1.0 same z.3 in
      let bits = same_known place.at (elements_width named (named_shape (named name))) (width (scope_of own) place.value) (places_known name k.used.0 k.used.1) (good_known place.value k.place_good) k.place_equal in
      let below : result place.value v < 2 ^ bits.0 = subst (λ (o : Option ℕ). FitsIn o (result place.value v)) bits.3 (good_fits place.value k.place_good v suit) in
      let many : elements y.names y.type ≡ 2 ^ bits.0 =
      ap (λ (g : Signal). elements g.names g.type) one ∙ ap (λ (n : Names). elements n z.0.type) z.5
      ∙ elements_are numbers named z.0.type bits.0 z.2 (ap (elements_width named) (sym z.4) ∙ bits.2) in
      (good_within place.value k.place_good v suit, subst (λ (n : ℕ). result place.value v < n) (sym many) below)

  -- what is assigned
  value_fits : (name : List ℕ) (place : Option ActualTree) (x : Tree) (at equals : ℕ) → IsWrittenPlace place × IsWrittenTree x → IsFree (assignment name place x at equals) → IsSized (assignment name place x at equals) →
      (y : Signal) → IsIn y (signals S) → y.path ≡ a.path ++ name ∷ [] → (v : Values) → Suited x v → FitsType y.names y.type (result x v) × AreWithin S own a.path v x
  value_fits name None x at equals written free sized y there same v suit =
      let f = both_none (use_faults use_.Assigned at name (named name)) (expr_faults named clock x) free in
      let w = both_none (expr_widths (scope_of own) x) (differ equals (name_width named name) (width (scope_of own) x)) sized in
      let good : IsGood x = record { written = written.1; free = f.1; sized = w.0 } in
      let target = assigned_read S own a.path a.clocks s (name_ref name) (name, refl) at f.0 in (
        vector_left S once own a.path a.clocks s (name_ref name) target y there same (result x v)
            (fits_left equals (name_width named name) (width (scope_of own) x) (result x v) w.1 (good_known x good) (good_fits x good v suit)),
        good_within x good v suit,
      )
  value_fits name (Some place) x at equals written free sized y there same v suit =
      let k = sets_element name place x at equals written free sized in
      let target = element_read S own a.path a.clocks s (name_ref name) (name, refl) k.used.0 k.used.1 in (
        array_left S once own a.path a.clocks s (name_ref name) target y there same (result x v)
            (fits_left equals (element_width named (named_shape (named name))) (width (scope_of own) x) (result x v) k.value_equal (good_known x k.value_good) (good_fits x k.value_good v suit)),
        good_within x k.value_good v suit,
      )

  update_fits : (name : List ℕ) (place : Option ActualTree) (x : Tree) (at equals : ℕ) → IsWrittenPlace place × IsWrittenTree x → IsFree (assignment name place x at equals) → IsSized (assignment name place x at equals) →
      UpdateFits S (record { left = a.path ++ name ∷ []; module_ = own; path = a.path; place = place; value = x })
  update_fits name None x at equals written free sized y there same v suit = let k = value_fits name None x at equals written free sized y there same v suit in (k.0, k.1, tt)
  update_fits name (Some place) x at equals written free sized y there same v suit =
      let places = paths_of a.path (names_in (scope_of own) place.value) in
      let values = paths_of a.path (names_in (scope_of own) x) in
      let place_arrays = paths_of a.path (arrays_in place.value) in
      let value_arrays = paths_of a.path (arrays_in x) in
      let k = value_fits name (Some place) x at equals written free sized y there same v (suit_back S places values place_arrays value_arrays v suit) in
      (k.0, k.1, place_fits name place x equals (sets_element name place x at equals written free sized) y there same v (suit_front S places values place_arrays value_arrays v suit))

  pub updates_fit : (t : StmtTree) → IsWrittenStmt t → IsFree t → IsSized t → (u : Update) → IsIn u (stmt_updates a t) → UpdateFits S u
  updates_fit (assignment name place x at equals) written free sized u is =
      let one : Update = record { left = a.path ++ name ∷ []; module_ = own; path = a.path; place = place; value = x } in
      subst (UpdateFits S) (sym (if_update S a s (is_among (register_names own.locals) name) one u is)) (update_fits name place x at equals written free sized)
  updates_fit (call name args at) written free sized u is = absurd is
  updates_fit (pad io inner drive release at) written free sized u is = absurd is

  -- what drives a pad, and what the pad carries
  record Drives (io inner : Named) (drive release : ActualTree) : Type 0 where
    is_pad : use_faults use_.Pad io.at io.name (named io.name) ≡ []
    receives : use_faults use_.Receiver inner.at inner.name (named inner.name) ≡ []
    drive_good : IsGood drive.value
    release_good : IsGood release.value
    inner_equal : differ inner.at (name_width named io.name) (name_width named inner.name) ≡ []
    drive_equal : differ drive.at (name_width named io.name) (width (scope_of own) drive.value) ≡ []

  drives_of : (io inner : Named) (drive release : ActualTree) (at : ℕ) → IsWrittenStmt (pad io inner drive release at) → IsFree (pad io inner drive release at) → IsSized (pad io inner drive release at) → Drives io inner drive release
  drives_of io inner drive release at written free sized =
      let f = both_none (use_faults use_.Pad io.at io.name (named io.name)) _ free in
      let g = both_none (use_faults use_.Receiver inner.at inner.name (named inner.name)) _ f.1 in
      let h = both_none (expr_faults named clock drive.value) (expr_faults named clock release.value) g.1 in
      let d = both_none (differ inner.at (name_width named io.name) (name_width named inner.name)) _ sized in
      let w = both_none (expr_widths (scope_of own) drive.value) _ d.1 in
      let k = both_none (differ drive.at (name_width named io.name) (width (scope_of own) drive.value)) _ w.1 in
      let r = both_none (expr_widths (scope_of own) release.value) _ k.1 in
      record {
        is_pad = f.0;
        receives = g.0;
        drive_good = record { written = written.0; free = h.0; sized = w.0 };
        release_good = record { written = written.1; free = h.1; sized = r.0 };
        inner_equal = d.0;
        drive_equal = k.0;
      }

  module _ (stand : ArePads S own a.pads) (io inner : Named) (drive release : ActualTree) (k : Drives io inner drive release) where
    driven_fits : DrivesPad a.pads (pad io inner drive release 0) → LeftFits S (pad_of a.pads io.name) (driven own a.path drive.value release.value (pad_of a.pads io.name))
    driven_fits there x is same outside v pads suit =
        let z = stand io.name there in
        let root = pad_of a.pads io.name in
        let one = the_signal S once root x z.signal is z.is_pad.0 same z.path_is in
        let released = paths_of a.path (names_in (scope_of own) release.value) in
        let drives = paths_of a.path (names_in (scope_of own) drive.value) in
        let released_arrays = paths_of a.path (arrays_in release.value) in
        let drive_arrays = paths_of a.path (arrays_in drive.value) in
        let suit_release = suit_front S released drives released_arrays drive_arrays v suit in
        let suit_drive = suit_back S released drives released_arrays drive_arrays v suit in
        let wide = vector_width z.signal.names (Some z.signal.type) in
        let from_outside : FitsIn wide (outside root 0) = subst (λ (q : Path). FitsIn wide (outside q 0)) z.path_is (suits_vector z.signal.names z.signal.type (outside z.signal.path) z.vector (pads z.signal z.is_pad)) in
        let from_inside : FitsIn wide (result drive.value v) = subst (λ (o : Option ℕ). FitsIn o (result drive.value v)) (sym z.wide)
        (fits_left drive.at (name_width named io.name) (width (scope_of own) drive.value) (result drive.value v) k.drive_equal (good_known drive.value k.drive_good) (good_fits drive.value k.drive_good v suit_drive)) in
        let n = cond (nat_eq (result release.value v) 1) (outside root 0) (result drive.value v) in (
          subst (λ (g : Signal). FitsType g.names g.type n) (sym one) (of_vector z.signal.names z.signal.type n z.vector (chosen_in wide (nat_eq (result release.value v) 1) (outside root 0) (result drive.value v) from_outside from_inside)),
          (good_within release.value k.release_good v suit_release, good_within drive.value k.drive_good v suit_drive),
        )

    carried_fits : LeftFits S (a.path ++ inner.name ∷ []) (copied (a.path ++ io.name ∷ []))
    carried_fits x is same outside v pads suit =
        let n = v (a.path ++ io.name ∷ []) 0 in
        let carrier = pad_read S own a.path a.clocks s (name_ref io.name) (io.name, refl) io.at k.is_pad in
        let target = receiver_read S own a.path a.clocks s (name_ref inner.name) (inner.name, refl) inner.at k.receives in
        let known = pad_known numbers (seen_behind s.earlier) own s.clean io.at io.name k.is_pad in (
          vector_left S once own a.path a.clocks s (name_ref inner.name) target x is same n
              (fits_right inner.at (name_width named io.name) (name_width named inner.name) n k.inner_equal known
              (copied_fits S once own a.path a.clocks s (name_ref io.name) carrier v (a.path ++ io.name ∷ []) refl suit)),
          tt,
        )

  pub equations_fit : ArePads S own a.pads → (t : StmtTree) → DrivesPad a.pads t → IsWrittenStmt t → IsFree t → IsSized t → (e : Equation) → IsIn e (stmt_equations a t) → FlatFits S e
  equations_fit stand (assignment name place x at equals) drives written free sized e is =
      let one : Equation = record { left = a.path ++ name ∷ []; right = expression own a.path x } in
      subst (FlatFits S) (sym (if_one S (is_among (register_names own.locals) name) one e is))
      (λ y there same outside v pads suit. value_fits name place x at equals written free sized y there same v suit)
  equations_fit stand (call name args at) drives written free sized e is = absurd is
  equations_fit stand (pad io inner drive release at) drives written free sized e (inl same) =
      subst (FlatFits S) (sym same) (driven_fits stand io inner drive release (drives_of io inner drive release at written free sized) drives)
  equations_fit stand (pad io inner drive release at) drives written free sized e (inr (inl same)) =
      subst (FlatFits S) (sym same) (carried_fits stand io inner drive release (drives_of io inner drive release at written free sized))
  equations_fit stand (pad io inner drive release at) drives written free sized e (inr (inr none)) = absurd none
