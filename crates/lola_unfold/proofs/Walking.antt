-- What the walk over instances adds.
use Rattle.std.proofs.Common.{◌≡◌, ℕ, Bool, true, false, if◌then◌else◌, nat_lt, List, [], ◌∷◌, ◌++◌, map, flat_map, length, slice_get, Option, Some, None, refl, sym, ap, ap₂, ◌∙◌, subst, arith, append_assoc}
use Rattle.std.proofs.lemmas.List.{map-append}
use Rattle.std.proofs.lemmas.Bool.{lt-ltb}
use Rattle.lola_bits.proofs.Options.{some_same, nothing}
use Rattle.lola_bits.specs.Lists.{IsIn}
use Rattle.lola_bits.specs.Names.{is_among}
use Rattle.lola_tree.specs.declared.named.Named.{Named}
use Rattle.lola_tree.specs.declared.module.LocalKind.TheVariants.{Inst}
use Rattle.lola_tree.specs.declared.module.Local.{Local}
use Rattle.lola_tree.specs.Tree.{ActualTree, ModuleTree}
use Rattle.lola_tree.specs.Names.{names_of}
use Rattle.lola_tree.specs.Value.{Path}
use Rattle.lola_tree.specs.design.Calls.{args_of}
use Rattle.lola_tree.specs.design.Clocks.{clocks_in, clock_ports}
use Rattle.lola_tree.specs.design.Places.{pad_of, passed_pads, Caller, Place, places_inside, kind_places, local_places}
use Rattle.lola_tree.specs.design.Signals.{instance_ports, root_ports, kind_signals, local_signals, signals_inside}
use Rattle.lola_tree.specs.design.Equations.{caller_equations, arg_equations, stmt_equations}
use Rattle.lola_unfold.specs.declared.slots.Slot.{Slot}
use Rattle.lola_unfold.specs.declared.slots.Base.{Base}
use Rattle.lola_unfold.specs.declared.layout.Inner.{Inner}
use Rattle.lola_unfold.specs.declared.part.Part.{Part}
use Rattle.lola_unfold.specs.declared.site.Site.{Site}
use Rattle.lola_unfold.specs.Slots.{table_slot, number_from, base_inside, entrance, slot_entrance}
use Rattle.lola_unfold.specs.Translated.{Numbers}
use Rattle.lola_unfold.specs.Flat.{seen_from}
use Rattle.lola_unfold.specs.Tables.{PadNumbers, no_pads, pads_with_all, pad_or, pads_found, pad_number, passed_numbers}
use Rattle.lola_unfold.specs.Offsets.{inners_in, IsTable, AreTables}
use Rattle.lola_unfold.specs.Pieces.{MadeTree, Piece, grow, joined, View, view_at, stmt_puts, body_piece, arg_puts, args_piece, port_heads, ports_piece, root_piece, head, equation_put, place_puts, place_nexts, piece}
use Rattle.lola_unfold.specs.Parts.{IsPart, IsPartAt, path_in, view_in, Stands, IsCalled, entered_signals, entered_places, local_piece, locals_piece}
use Rattle.lola_unfold.specs.Root.{IsRoot, root_piece_of}
use Rattle.lola_unfold.proofs.Growing.{grow_joined, piece_joined, args_put, ports_heads, root_heads, body_puts, body_nexts}
use Rattle.lola_unfold.proofs.Nearest.{IsNearest, IsUnknown, Nearest, nearest, HasInner, instance_slot}
use Rattle.lola_unfold.proofs.Entering.{number_inside, numbered, pad_found, passed_are}

append_none : {X : Type 0} (xs : List X) → xs ++ [] ≡ xs
append_none [] = refl
append_none (x ∷ xs) = ap (λ l. x ∷ l) (append_none xs)

-- what statements and arguments put is what a place puts
place_put : (N : Numbers) (a b : Place) (name : List ℕ) → IsCalled a name b →
    arg_puts (view_at N b) (view_at N a) b.module_.ports (args_of a.module_.body name) ++ flat_map (stmt_puts (view_at N b)) b.module_.body ≡ place_puts N b
place_put N a b name called =
    ap₂ (λ l m. l ++ m) (args_put N a b b.module_.ports (args_of a.module_.body name)) (body_puts N b b.module_.body)
    ∙ sym (map-append (equation_put N) (arg_equations b.clocks b.path a.module_ a.path b.module_.ports (args_of a.module_.body name)) (flat_map (stmt_equations b) b.module_.body))
    ∙ sym (ap (λ (c : Option Caller). map (equation_put N) (caller_equations b c ++ flat_map (stmt_equations b) b.module_.body)) called)

root_put : (N : Numbers) (b : Place) → IsRoot b → flat_map (stmt_puts (view_at N b)) b.module_.body ≡ place_puts N b
root_put N b root = body_puts N b b.module_.body ∙ sym (ap (λ (c : Option Caller). map (equation_put N) (caller_equations b c ++ flat_map (stmt_equations b) b.module_.body)) root.caller)

-- the parts of an instance, one behind another
pub entered : (N : Numbers) (F : List ModuleTree) (a b : Place) (name : List ℕ) → IsCalled a name b →
    joined (joined (joined (ports_piece (view_at N b) b.module_.ports) (args_piece (view_at N b) (view_at N a) b.module_.ports (args_of a.module_.body name))) (body_piece (view_at N b) b.module_.body))
    (locals_piece N F b b.module_.locals)
    ≡ piece N (entered_signals F b) (entered_places F b)
entered N F a b name called =
    let ports = instance_ports (names_of b.module_) b.clocks b.path b.module_.ports in
    let locals = local_signals (signals_inside F) (names_of b.module_) b.path b.module_.locals in
    let places = local_places (places_inside F) b.module_ b.path b.pads b.module_.locals in
    let heads =
    ap (λ l. l ++ map head locals) (append_none (flat_map (port_heads (view_at N b)) b.module_.ports ++ []) ∙ append_none (flat_map (port_heads (view_at N b)) b.module_.ports) ∙ ports_heads N b b.module_.ports)
    ∙ sym (map-append head ports locals) in
    let equations = ap (λ l. l ++ flat_map (place_puts N) places) (place_put N a b name called) in
    let nexts = ap (λ l. l ++ flat_map (place_nexts N) places) (body_nexts N b b.module_.body) in
    λ i. record { heads = heads i; equations = equations i; nexts = nexts i }

pub root_entered : (N : Numbers) (F : List ModuleTree) (b : Place) → IsRoot b →
    joined (joined (root_piece (view_at N b) b.module_.ports) (body_piece (view_at N b) b.module_.body)) (locals_piece N F b b.module_.locals) ≡ root_piece_of N F b
root_entered N F b root =
    let ports = root_ports (names_of b.module_) b.clocks b.module_.ports in
    let locals = local_signals (signals_inside F) (names_of b.module_) b.path b.module_.locals in
    let places = local_places (places_inside F) b.module_ b.path b.pads b.module_.locals in
    let heads =
    ap (λ l. l ++ map head locals) (append_none (root_piece (view_at N b) b.module_.ports).heads ∙ root_heads N b b.clocks root.path b.module_.ports) ∙ sym (map-append head ports locals) in
    let equations = ap (λ l. l ++ flat_map (place_puts N) places) (root_put N b root) in
    let nexts = ap (λ l. l ++ flat_map (place_nexts N) places) (body_nexts N b b.module_.body) in
    λ i. record { heads = heads i; equations = equations i; nexts = nexts i }

-- three, and four steps
pub three_steps : (f g h k : MadeTree) (a b c : Piece) → g ≡ grow f a → h ≡ grow g b → k ≡ grow h c → k ≡ grow f (joined (joined a b) c)
three_steps f g h k a b c x y z = z ∙ ap (λ m. grow m c) (y ∙ ap (λ m. grow m b) x ∙ grow_joined f a b) ∙ grow_joined f (joined a b) c

pub four_steps : (f g h k m : MadeTree) (a b c d : Piece) → g ≡ grow f a → h ≡ grow g b → k ≡ grow h c → m ≡ grow k d → m ≡ grow f (joined (joined (joined a b) c) d)
four_steps f g h k m a b c d x y z w = w ∙ ap (λ n. grow n d) (three_steps f g h k a b c x y z) ∙ grow_joined f (joined (joined a b) c) d

-- one local name more
pub one_local : (N : Numbers) (E : List ModuleTree) (a : Place) (xs : List Local) (l : Local) → joined (locals_piece N E a xs) (local_piece N E a l) ≡ locals_piece N E a (xs ++ l ∷ [])
one_local N E a xs l =
    piece_joined N (local_signals (signals_inside E) (names_of a.module_) a.path xs) (kind_signals (signals_inside E) (names_of a.module_) (a.path ++ l.name ∷ []) l.kind)
    (local_places (places_inside E) a.module_ a.path a.pads xs) (kind_places (places_inside E) a.module_ a.path a.pads l.name l.kind)
    ∙ ap₂ (λ ys bs. piece N ys bs) (signals_more xs) (places_more xs)
  where
    signals_more : (ys : List Local) → local_signals (signals_inside E) (names_of a.module_) a.path ys ++ kind_signals (signals_inside E) (names_of a.module_) (a.path ++ l.name ∷ []) l.kind
        ≡ local_signals (signals_inside E) (names_of a.module_) a.path (ys ++ l ∷ [])
    signals_more [] = sym (append_none (kind_signals (signals_inside E) (names_of a.module_) (a.path ++ l.name ∷ []) l.kind))
    signals_more (y ∷ ys) =
        append_assoc (kind_signals (signals_inside E) (names_of a.module_) (a.path ++ y.name ∷ []) y.kind) (local_signals (signals_inside E) (names_of a.module_) a.path ys)
        (kind_signals (signals_inside E) (names_of a.module_) (a.path ++ l.name ∷ []) l.kind)
        ∙ ap (λ m. kind_signals (signals_inside E) (names_of a.module_) (a.path ++ y.name ∷ []) y.kind ++ m) (signals_more ys)

    places_more : (ys : List Local) → local_places (places_inside E) a.module_ a.path a.pads ys ++ kind_places (places_inside E) a.module_ a.path a.pads l.name l.kind
        ≡ local_places (places_inside E) a.module_ a.path a.pads (ys ++ l ∷ [])
    places_more [] = sym (append_none (kind_places (places_inside E) a.module_ a.path a.pads l.name l.kind))
    places_more (y ∷ ys) =
        append_assoc (kind_places (places_inside E) a.module_ a.path a.pads y.name y.kind) (local_places (places_inside E) a.module_ a.path a.pads ys) (kind_places (places_inside E) a.module_ a.path a.pads l.name l.kind)
        ∙ ap (λ m. kind_places (places_inside E) a.module_ a.path a.pads y.name y.kind ++ m) (places_more ys)

-- the view of a place in parts
pub same_view : (v : View) (w : View) → v.names ≡ w.names → v.registers ≡ w.registers → v.clocks ≡ w.clocks → v.here ≡ w.here → v.pads ≡ w.pads → v.path ≡ w.path → v ≡ w
same_view v w a b c d e f = λ i. record { names = a i; registers = b i; clocks = c i; here = d i; pads = e i; path = f i }

-- an instance that is entered
pub record Enters (N : Numbers) (parts : List Part) (E : List ModuleTree) (a : Place) (l : Local) (site : Site) (part : Part) : Type 0 where
  pub earlier : List ModuleTree
  pub place : Place
  pub stands : Stands N parts site part earlier place
  pub called : IsCalled a l.name place
  pub piece_is : local_piece N E a l ≡ piece N (entered_signals earlier place) (entered_places earlier place)

test_true : (b : Bool) (p : Slot × ℕ) → b ≡ true → (if b then Some p else None) ≡ Some p
test_true true p e = refl
test_true false p e = absurd (let f : false ≡ true = e in cc)

module _ (N : Numbers) (parts : List Part) (site : Site) (part : Part) (E : List ModuleTree) (a : Place) (stands : Stands N parts site part E a) (l : Local) (of : Named) (there : IsIn l a.module_.locals) (kind : l.kind ≡ Inst of) where
  near : Nearest parts site.base.tables.now E of.name (inners_in E of.name)
  near = nearest parts site.base.tables.now E stands.all_parts stands.all_tables stands.once.1 of.name

  slot_is : HasInner (inners_in E of.name) (table_slot (slice_get site.base.tables.now site.base.at) l.name)
  slot_is =
      subst (HasInner (inners_in E of.name)) (sym (ap (λ k. table_slot (slice_get site.base.tables.now k) l.name) stands.at ∙ stands.table l.name))
      (instance_slot stands.clocks (inners_in E) a.module_ l of stands.once.0 there kind)

  nothing_here : IsUnknown E of.name → local_piece N E a l ≡ record { heads = []; equations = []; nexts = [] }
  nothing_here is =
      ap₂ (λ xs bs. piece N xs bs) (ap (kind_signals (signals_inside E) (names_of a.module_) (a.path ++ l.name ∷ [])) kind ∙ is.signals (a.path ++ l.name ∷ []))
      (ap (kind_places (places_inside E) a.module_ a.path a.pads l.name) kind ∙ is.places (a.path ++ l.name ∷ []) (record { module_ = a.module_; path = a.path; pads = a.pads; args = args_of a.module_.body l.name }))

  entrance_at : (i : Inner) → IsNearest parts site.base.tables.now E of.name i → (slot : HasInner (Some i) (table_slot (slice_get site.base.tables.now site.base.at) l.name)) →
      entrance site.base l.name ≡ Some (record { offset = slot.0; inside = Some i.at }, i.at)
  entrance_at i is slot =
      ap (slot_entrance site.base.at) slot.1
      ∙ test_true (nat_lt i.at site.base.at) (record { offset = slot.0; inside = Some i.at }, i.at) (lt-ltb i.at site.base.at (let e = is.below in let f = stands.at in let g = is.at in omega arith))

  -- where the slot has no module there is nothing to enter
  pub not_entered : entrance site.base l.name ≡ None → local_piece N E a l ≡ record { heads = []; equations = []; nexts = [] }
  not_entered absent = by_inner (inners_in E of.name) near slot_is
    where
      by_inner : (o : Option Inner) → Nearest parts site.base.tables.now E of.name o → HasInner o (table_slot (slice_get site.base.tables.now site.base.at) l.name) → local_piece N E a l ≡ record { heads = []; equations = []; nexts = [] }
      by_inner None is slot = nothing_here is
      by_inner (Some i) is slot = nothing (record { offset = slot.0; inside = Some i.at }, i.at) (sym absent ∙ entrance_at i is slot)

  -- and else it has the nearest
  pub record IsFound (s : Slot) (at : ℕ) : Type 0 where
    pub inner : Inner
    pub is_nearest : IsNearest parts site.base.tables.now E of.name inner
    pub is_at : at ≡ inner.at
    pub slot_there : table_slot (slice_get site.base.tables.now site.base.at) l.name ≡ Some s
    pub is_inside : s.inside ≡ Some at

  pub is_found : (s : Slot) (at : ℕ) → entrance site.base l.name ≡ Some (s, at) → IsFound s at
  is_found s at found = by_inner (inners_in E of.name) near slot_is
    where
      by_inner : (o : Option Inner) → Nearest parts site.base.tables.now E of.name o → HasInner o (table_slot (slice_get site.base.tables.now site.base.at) l.name) → IsFound s at
      by_inner None is slot = nothing (s, at) (sym (ap (slot_entrance site.base.at) slot) ∙ found)
      by_inner (Some i) is slot =
          let same : (record { offset = slot.0; inside = Some i.at }, i.at) ≡ (s, at) = some_same (record { offset = slot.0; inside = Some i.at }, i.at) (s, at) (sym (entrance_at i is slot) ∙ found) in
          let at_same : i.at ≡ at = ap (λ (p : Slot × ℕ). p.1) same in
          let slot_same : record { offset = slot.0; inside = Some i.at } ≡ s = ap (λ (p : Slot × ℕ). p.0) same in
          record {
            inner = i;
            is_nearest = is;
            is_at = sym at_same;
            slot_there = slot.1 ∙ ap Some slot_same;
            is_inside = sym (ap (λ (t : Slot). t.inside) slot_same) ∙ ap Some at_same;
          }

  -- its module is known
  pub is_stored : (s : Slot) (at : ℕ) → IsFound s at → slice_get parts at ≡ None → ⊥
  is_stored s at found absent =
      let near_by = found.is_nearest in
      subst (λ (o : Option Part). IsPartAt o near_by.earlier near_by.module_) (ap (slice_get parts) (sym (found.is_at ∙ near_by.at)) ∙ absent) near_by.is_part

  -- where an instance stands that is entered
  pub enters : (s : Slot) (at : ℕ) → IsFound s at → (inner : Part) → slice_get parts at ≡ Some inner → (site' : Site) → site'.base ≡ base_inside site.base s at →
      path_in site'.path.items ≡ path_in site.path.items ++ l.name ∷ [] → (args : List ActualTree) → args ≡ args_of a.module_.body l.name →
      pads_found site'.pads ≡ pads_with_all no_pads (passed_numbers (pad_number site.pads) inner.declared.now.ports args) → site'.pads.none ≡ site.pads.none → Enters N parts E a l site' inner
  enters s at found inner stored site' base path args args_are pads none = record {
    earlier = F;
    place = b;
    stands = record {
      at = ap (λ (c : Base). c.at) base ∙ at_F;
      all_parts = near_by.all_parts;
      is_part = is_part;
      all_tables = subst (λ (c : Base). AreTables c.tables.now F) (sym base) near_by.all_tables;
      clocks = is_among (clocks_in (clock_ports F) m);
      table = subst (λ (c : Base). IsTable c.tables.now (length F) (is_among (clocks_in (clock_ports F) m)) F m) (sym base) near_by.table;
      once = near_by.once;
      view = same_view (view_in inner site') (view_at N b) is_part.names is_part.registers is_part.clocks here pads_are (path ∙ ap (λ (v : View). v.path ++ l.name ∷ []) stands.view);
      none = none ∙ stands.none;
    };
    called = refl;
    piece_is =
        ap₂ (λ xs bs. piece N xs bs) (ap (kind_signals (signals_inside E) (names_of a.module_) (a.path ++ l.name ∷ [])) kind ∙ near_by.signals (a.path ++ l.name ∷ []))
        (ap (kind_places (places_inside E) a.module_ a.path a.pads l.name) kind ∙ near_by.places (a.path ++ l.name ∷ []) caller);
  }
    where
      near_by : IsNearest parts site.base.tables.now E of.name found.inner
      near_by = found.is_nearest

      F : List ModuleTree
      F = near_by.earlier

      m : ModuleTree
      m = near_by.module_

      caller : Caller
      caller = record { module_ = a.module_; path = a.path; pads = a.pads; args = args_of a.module_.body l.name }

      b : Place
      b = record { module_ = m; path = a.path ++ l.name ∷ []; clocks = clocks_in (clock_ports F) m; pads = passed_pads a.pads m.ports (args_of a.module_.body l.name); caller = Some caller }

      at_F : at ≡ length F
      at_F = found.is_at ∙ near_by.at

      is_part : IsPart inner F m
      is_part = subst (λ (o : Option Part). IsPartAt o F m) (ap (slice_get parts) (sym at_F) ∙ stored) near_by.is_part

      here_at : (x : Path) → number_from site'.base x ≡ N (b.path ++ x)
      here_at x =
          ap (λ (c : Base). number_from c x) base
          ∙ sym (number_inside site.base l.name x s at found.slot_there found.is_inside)
          ∙ ap (λ (v : View). v.here (l.name ∷ x)) stands.view
          ∙ ap N (sym (append_assoc a.path (l.name ∷ []) x))

      here : number_from site'.base ≡ seen_from N b.path
      here = λ i x. here_at x i

      outer_pads : pad_number site.pads ≡ (λ (name : List ℕ). N (pad_of a.pads name))
      outer_pads = ap (λ (v : View). v.pads) stands.view

      found_are : pads_found site'.pads ≡ pads_with_all no_pads (numbered N b.pads)
      found_are =
          pads
          ∙ ap (λ (f : List ℕ → ℕ). pads_with_all no_pads (passed_numbers f inner.declared.now.ports args)) outer_pads
          ∙ ap₂ (λ (n : ModuleTree) (given : List ActualTree). pads_with_all no_pads (passed_numbers (λ (name : List ℕ). N (pad_of a.pads name)) n.ports given)) is_part.is args_are
          ∙ ap (pads_with_all no_pads) (passed_are N a.pads m.ports (args_of a.module_.body l.name))

      pads_at : (name : List ℕ) → pad_number site'.pads name ≡ N (pad_of b.pads name)
      pads_at name = ap₂ (λ (n : ℕ) (f : PadNumbers). pad_or n (f name)) (none ∙ stands.none) found_are ∙ pad_found N b.pads name

      pads_are : pad_number site'.pads ≡ (λ (name : List ℕ). N (pad_of b.pads name))
      pads_are = λ i name. pads_at name i
