-- What the calls of instances assign and pass on, by the pins of their modules; and so each module is assigned.
use Rattle.std.proofs.Common.{◌≡◌, ℕ, ◌+◌, ◌≤◌, Bool, true, false, not, cond, List, [], ◌∷◌, ◌++◌, map, Option, Some, None, refl, sym, ◌∙◌, ap, ap₂, subst, inl, inr, arith}
use Rattle.std.specs.Prelude.{bytes_eq, if◌then◌else◌, flat_map}
use Rattle.std.specs.List.{AllByRecursion}
use Rattle.std.proofs.lemmas.Bool.{cases_Bool, cond-true, cond-false}
use Rattle.std.proofs.lemmas.List.{map-append}
use Rattle.lola_bits.specs.Lists.{IsIn, AreDistinct}
use Rattle.lola_bits.specs.Names.{is_among}
use Rattle.lola_bits.proofs.Lists.{both_none}
use Rattle.lola_bits.proofs.Names.{same_name, other_name}
use Rattle.lola_tree.specs.declared.named.Ref.{Ref}
use Rattle.lola_tree.specs.declared.module.Way.{Way}
use Rattle.lola_tree.specs.declared.module.Way.TheVariants.{Inward, Outward, Both}
use Rattle.lola_tree.specs.declared.module.Port.{Port}
use Rattle.lola_tree.specs.declared.module.LocalKind.{LocalKind}
use Rattle.lola_tree.specs.declared.module.LocalKind.TheVariants.{Reg, Var, Inst}
use Rattle.lola_tree.specs.declared.module.Local.{Local}
use Rattle.lola_tree.specs.Tree.{Tree, number, whole, bit, slice, index, concat, negation, binary, choice, ActualTree, StmtTree, assignment, call, pad, ModuleTree}
use Rattle.lola_tree.specs.Names.{Entry, port, constant, local, entry_name, entries, Names, names_of, first_name}
use Rattle.lola_tree.specs.Value.{Path}
use Rattle.lola_tree.specs.Signals.{is_inward, is_outward, register_names}
use Rattle.lola_tree.specs.design.Places.{Pads, pad_of, way_pad, passed_pads, Caller}
use Rattle.lola_tree.specs.design.Calls.{bare_path, bare_name, args_of}
use Rattle.lola_width.specs.declared.uses.Use.{Use}
use Rattle.lola_width.specs.declared.uses.Use.TheVariants as use_
use Rattle.lola_width.specs.declared.interface.Pin.{Pin}
use Rattle.lola_width.specs.Interface.{Seen, kind_pins, instance_pins, listed, pins_of}
use Rattle.lola_width.specs.Interface.{bare_name as bare_ref}
use Rattle.lola_width.specs.NameFaults.{use_faults, is_both, is_variable, bare_faults, clock_faults, way_faults, arg_faults, args_faults, expr_faults, stmt_faults, body_faults}
use Rattle.lola_width.specs.Sized.{clock_in}
use Rattle.lola_design.specs.Paths.{one_if, count}
use Rattle.lola_design.specs.Once.{name_count}
use Rattle.lola_design.specs.Drives.{pad_names}
use Rattle.lola_design.specs.Assigned.{out_way, out_ports, out_args, pad_paths, var_path, var_paths, reg_path, reg_paths, said_by, stored_by, driven_by, outs_inside, pads_inside, of_kind, of_locals, way_names, both_names}
use Rattle.lola_regular.specs.Clocked.{seen_behind}
use Rattle.lola_regular.specs.Written.{IsWrittenTree, IsOneName, IsWrittenArgument, IsWrittenModule}
use Rattle.lola_regular.proofs.Clean.{IsClean, AllClean, seen_here, seen_further}
use Rattle.lola_regular.proofs.Named.{name_count_append, present_count, are_distinct, local_named}
use Rattle.lola_regular.proofs.Ways.{GoodPins, GoodSeen, seen_good}
use Rattle.lola_regular.proofs.Targets.{when, one_kept, said_entry, pad_entry, way_args, bare_same, bare_is, own_stmt, own_body}
use Rattle.lola_regular.proofs.Exchange.{args_for, by_locals, args_free, args_written}
use Rattle.lola_regular.proofs.Images.{path_count_append, same_images}
use Rattle.lola_regular.proofs.Assigned.{is_register_kind, stored_entry, said_class, pad_class, stored_class, class_once, out_names, var_names, inout_names, reg_names, said_count, pad_count, stored_count, is_register, assigned_said, element_said, said_must, pad_must, register_must, no_way}

-- a name of a module at a path
abbrev pub at_path : Path → List ℕ → Path
at_path p n = p ++ n ∷ []

-- arguments of ports that aren't inward are bare names
abbrev pub AreBare : List Pin → List ActualTree → Type 0
AreBare [] args = Unit {0}
AreBare (pin ∷ pins) [] = Unit {0}
AreBare (pin ∷ pins) (a ∷ args) = (is_inward pin.way ≡ false → bare_path a.value ≡ bare_name a.value ∷ []) × AreBare pins args

bare_written : (e : Tree) (r : Ref) → bare_ref e ≡ Some r → IsWrittenTree e → IsOneName r
bare_written (number n w at) r is written = absurd (cc)
bare_written (whole of) r is written = let same : of ≡ r = cc in subst IsOneName same written
bare_written (bit of place at) r is written = absurd (cc)
bare_written (slice of high low at) r is written = absurd (cc)
bare_written (index of place at) r is written = absurd (cc)
bare_written (concat parts at) r is written = absurd (cc)
bare_written (negation e at) r is written = absurd (cc)
bare_written (binary o a b at) r is written = absurd (cc)
bare_written (choice test first second at) r is written = absurd (cc)

pub one_name : (p : Path) (name : List ℕ) → p ≡ name ∷ [] → p ≡ first_name p ∷ []
one_name p name is = is ∙ ap (λ (n : List ℕ). n ∷ []) (sym (ap first_name is))

bare_use : (names : Names) (clock : Option (List ℕ)) (used : Use) (a : ActualTree) → IsWrittenTree a.value → bare_faults names clock used a (bare_ref a.value) ≡ [] → bare_path a.value ≡ bare_name a.value ∷ []
bare_use names clock used a written none =
    let r = bare_is names clock used a (bare_ref a.value) none in
    let w = bare_written a.value r.0 r.1 written in
    one_name (bare_path a.value) w.0 (bare_same a.value r.0 r.1 ∙ w.1)

arg_bare : (names : Names) (clock : Option (List ℕ)) (k : Bool) (v : Way) (a : ActualTree) → (k ≡ true → v ≡ Inward) → IsWrittenTree a.value →
    cond k (clock_faults names clock a (bare_ref a.value)) (way_faults names clock v a) ≡ [] → is_inward v ≡ false → bare_path a.value ≡ bare_name a.value ∷ []
arg_bare names clock k Inward a good written none other = absurd (let e : true ≡ false = other in cc)
arg_bare names clock true Outward a good written none other = absurd (let e = good refl in cc)
arg_bare names clock false Outward a good written none other = bare_use names clock use_.Receiver a written none
arg_bare names clock true Both a good written none other = absurd (let e = good refl in cc)
arg_bare names clock false Both a good written none other = bare_use names clock use_.Pad a written none

pub args_bare : (names : Names) (clock : Option (List ℕ)) (pins : List Pin) (args : List ActualTree) → GoodPins pins → AllByRecursion IsWrittenArgument args → args_faults names clock args pins ≡ [] → AreBare pins args
args_bare names clock [] args good written none = tt
args_bare names clock (pin ∷ pins) [] good written none = tt
args_bare names clock (pin ∷ pins) (a ∷ args) good written none =
    let two = both_none (arg_faults names clock (Some pin) a) (args_faults names clock args pins) none in
    (arg_bare names clock pin.clock pin.way a good.0 written.0 two.0, args_bare names clock pins args good.1 written.1 two.1)

-- the arguments of OUT ports at a path, and the pads of INOUT ports
out_one : (p : Path) (v : Way) (a : ActualTree) → (is_inward v ≡ false → bare_path a.value ≡ bare_name a.value ∷ []) → out_way v (p ++ bare_path a.value) ≡ map (at_path p) (one_kept (is_outward v) (bare_name a.value))
out_one p Inward a bare = refl
out_one p Outward a bare = ap (λ (q : Path). (p ++ q) ∷ []) (bare refl)
out_one p Both a bare = refl

outs_here : (names : Names) (clock : Option (List ℕ)) (p : Path) (ports : List Port) (args : List ActualTree) → AreBare (pins_of names clock ports) args →
    out_args p ports args ≡ map (at_path p) (way_args is_outward (pins_of names clock ports) args)
outs_here names clock p [] args bare = refl
outs_here names clock p (q ∷ ports) [] bare = refl
outs_here names clock p (q ∷ ports) (a ∷ args) bare =
    ap₂ (λ (x y : List Path). x ++ y) (out_one p q.way a bare.0) (outs_here names clock p ports args bare.1)
    ∙ sym (map-append (at_path p) (one_kept (is_outward q.way) (bare_name a.value)) (way_args is_outward (pins_of names clock ports) args))

pad_one : (pads : Pads) (v : Way) (name : List ℕ) (a : ActualTree) → pad_paths (way_pad v name (pad_of pads (bare_name a.value))) ≡ map (pad_of pads) (one_kept (is_both v) (bare_name a.value))
pad_one pads Inward name a = refl
pad_one pads Outward name a = refl
pad_one pads Both name a = refl

pads_here : (names : Names) (clock : Option (List ℕ)) (pads : Pads) (ports : List Port) (args : List ActualTree) →
    pad_paths (passed_pads pads ports args) ≡ map (pad_of pads) (way_args is_both (pins_of names clock ports) args)
pads_here names clock pads [] args = refl
pads_here names clock pads (q ∷ ports) [] = refl
pads_here names clock pads (q ∷ ports) (a ∷ args) =
    map-append (λ (x : List ℕ × Path). x.1) (way_pad q.way q.name (pad_of pads (bare_name a.value))) (passed_pads pads ports args)
    ∙ ap₂ (λ (x y : List Path). x ++ y) (pad_one pads q.way q.name a) (pads_here names clock pads ports args)
    ∙ sym (map-append (pad_of pads) (one_kept (is_both q.way) (bare_name a.value)) (way_args is_both (pins_of names clock ports) args))

-- the module of a name is the one that is seen
outs_are : (earlier : List ModuleTree) → AllClean earlier → (name : List ℕ) (c : Caller) → AreBare (listed (seen_behind earlier name)) c.args →
    outs_inside earlier name c ≡ map (at_path c.path) (way_args is_outward (listed (seen_behind earlier name)) c.args)
outs_are [] clean name c bare = refl
outs_are (m ∷ earlier) clean name c bare = elim (cases_Bool (bytes_eq m.name name)) [
  | inl same ↦
      let e = seen_here m earlier name clean same in
      cond-true (bytes_eq m.name name) (out_args c.path m.ports c.args) (outs_inside earlier name c) same
      ∙ outs_here (names_of m) (clock_in (seen_behind earlier) m) c.path m.ports c.args (subst (λ (o : Option (List Pin)). AreBare (listed o) c.args) e bare)
      ∙ ap (λ (o : Option (List Pin)). map (at_path c.path) (way_args is_outward (listed o) c.args)) (sym e)
  | inr other ↦
      let e = seen_further m earlier name other in
      cond-false (bytes_eq m.name name) (out_args c.path m.ports c.args) (outs_inside earlier name c) other
      ∙ outs_are earlier clean.1 name c (subst (λ (o : Option (List Pin)). AreBare (listed o) c.args) e bare)
      ∙ ap (λ (o : Option (List Pin)). map (at_path c.path) (way_args is_outward (listed o) c.args)) (sym e)
]

pads_are : (earlier : List ModuleTree) → AllClean earlier → (name : List ℕ) (c : Caller) →
    pads_inside earlier name c ≡ map (pad_of c.pads) (way_args is_both (listed (seen_behind earlier name)) c.args)
pads_are [] clean name c = refl
pads_are (m ∷ earlier) clean name c = elim (cases_Bool (bytes_eq m.name name)) [
  | inl same ↦
      cond-true (bytes_eq m.name name) (pad_paths (passed_pads c.pads m.ports c.args)) (pads_inside earlier name c) same
      ∙ pads_here (names_of m) (clock_in (seen_behind earlier) m) c.pads m.ports c.args
      ∙ ap (λ (o : Option (List Pin)). map (pad_of c.pads) (way_args is_both (listed o) c.args)) (sym (seen_here m earlier name clean same))
  | inr other ↦
      cond-false (bytes_eq m.name name) (pad_paths (passed_pads c.pads m.ports c.args)) (pads_inside earlier name c) other
      ∙ pads_are earlier clean.1 name c
      ∙ ap (λ (o : Option (List Pin)). map (pad_of c.pads) (way_args is_both (listed o) c.args)) (sym (seen_further m earlier name other))
]

-- those of the instances of a module
kind_outs : (earlier : List ModuleTree) → AllClean earlier → (m : ModuleTree) (p : Path) (pads : Pads) (name : List ℕ) (k : LocalKind) → AreBare (listed (kind_pins (seen_behind earlier) k)) (args_of m.body name) →
    of_kind (outs_inside earlier) m p pads name k ≡ map (at_path p) (way_args is_outward (listed (kind_pins (seen_behind earlier) k)) (args_of m.body name))
kind_outs earlier clean m p pads name (Reg clock type) bare = refl
kind_outs earlier clean m p pads name (Var type) bare = refl
kind_outs earlier clean m p pads name (Inst of) bare = outs_are earlier clean of.name (record { module_ = m; path = p; pads = pads; args = args_of m.body name }) bare

locals_outs : (earlier : List ModuleTree) → AllClean earlier → (m : ModuleTree) (p : Path) (pads : Pads) (ls : List Local) →
    ((l : Local) → IsIn l ls → AreBare (listed (kind_pins (seen_behind earlier) l.kind)) (args_of m.body l.name)) →
    of_locals (outs_inside earlier) m p pads ls ≡ map (at_path p) (by_locals (seen_behind earlier) is_outward m.body ls)
locals_outs earlier clean m p pads [] bare = refl
locals_outs earlier clean m p pads (l ∷ ls) bare =
    ap₂ (λ (x y : List Path). x ++ y) (kind_outs earlier clean m p pads l.name l.kind (bare l (inl refl))) (locals_outs earlier clean m p pads ls (λ k is. bare k (inr is)))
    ∙ sym (map-append (at_path p) (args_for (seen_behind earlier) is_outward m.body l) (by_locals (seen_behind earlier) is_outward m.body ls))

kind_pads : (earlier : List ModuleTree) → AllClean earlier → (m : ModuleTree) (p : Path) (pads : Pads) (name : List ℕ) (k : LocalKind) →
    of_kind (pads_inside earlier) m p pads name k ≡ map (pad_of pads) (way_args is_both (listed (kind_pins (seen_behind earlier) k)) (args_of m.body name))
kind_pads earlier clean m p pads name (Reg clock type) = refl
kind_pads earlier clean m p pads name (Var type) = refl
kind_pads earlier clean m p pads name (Inst of) = pads_are earlier clean of.name (record { module_ = m; path = p; pads = pads; args = args_of m.body name })

locals_pads : (earlier : List ModuleTree) → AllClean earlier → (m : ModuleTree) (p : Path) (pads : Pads) (ls : List Local) →
    of_locals (pads_inside earlier) m p pads ls ≡ map (pad_of pads) (by_locals (seen_behind earlier) is_both m.body ls)
locals_pads earlier clean m p pads [] = refl
locals_pads earlier clean m p pads (l ∷ ls) =
    ap₂ (λ (x y : List Path). x ++ y) (kind_pads earlier clean m p pads l.name l.kind) (locals_pads earlier clean m p pads ls)
    ∙ sym (map-append (pad_of pads) (args_for (seen_behind earlier) is_both m.body l) (by_locals (seen_behind earlier) is_both m.body ls))

-- what statements say, drive and store
set_one : (p : Path) (stored said : Bool) (name : List ℕ) → said ≡ not stored → (if stored then [] else (p ++ name ∷ []) ∷ []) ≡ map (at_path p) (one_kept said name)
set_one p true true name e = absurd (let f : true ≡ false = e in cc)
set_one p true false name e = refl
set_one p false true name e = refl
set_one p false false name e = absurd (let f : false ≡ true = e in cc)

stored_one : (p : Path) (stored : Bool) (name : List ℕ) → (if stored then (p ++ name ∷ []) ∷ [] else []) ≡ map (at_path p) (one_kept stored name)
stored_one p true name = refl
stored_one p false name = refl

said_stmt : (p : Path) (seen : Seen) (clock : Option (List ℕ)) (m : ModuleTree) → AreDistinct (map entry_name (entries m)) → (t : StmtTree) → stmt_faults (names_of m) seen clock t ≡ [] →
    said_by p m t ≡ map (at_path p) (own_stmt (λ n. said_entry (names_of m n)) is_outward false t)
said_stmt p seen clock m distinct (assignment name None e at equals) none =
    let two = both_none (use_faults use_.Assigned at name (names_of m name)) (expr_faults (names_of m) clock e) none in
    set_one p (is_among (register_names m.locals) name) (said_entry (names_of m name)) name (assigned_said at name (names_of m name) two.0 ∙ ap not (sym (is_register m distinct name)))
said_stmt p seen clock m distinct (assignment name (Some place) e at equals) none =
    let two = both_none (use_faults use_.ElementAssigned at name (names_of m name)) _ none in
    set_one p (is_among (register_names m.locals) name) (said_entry (names_of m name)) name (element_said at name (names_of m name) two.0 ∙ ap not (sym (is_register m distinct name)))
said_stmt p seen clock m distinct (call name args at) none = refl
said_stmt p seen clock m distinct (pad io inner drive release at) none = refl

said_body : (p : Path) (seen : Seen) (clock : Option (List ℕ)) (m : ModuleTree) → AreDistinct (map entry_name (entries m)) → (ts : List StmtTree) → body_faults (names_of m) seen clock ts ≡ [] →
    flat_map (said_by p m) ts ≡ map (at_path p) (own_body (λ n. said_entry (names_of m n)) is_outward false ts)
said_body p seen clock m distinct [] none = refl
said_body p seen clock m distinct (t ∷ ts) none =
    let two = both_none (stmt_faults (names_of m) seen clock t) (body_faults (names_of m) seen clock ts) none in
    ap₂ (λ (x y : List Path). x ++ y) (said_stmt p seen clock m distinct t two.0) (said_body p seen clock m distinct ts two.1)
    ∙ sym (map-append (at_path p) (own_stmt (λ n. said_entry (names_of m n)) is_outward false t) (own_body (λ n. said_entry (names_of m n)) is_outward false ts))

stored_body : (p : Path) (m : ModuleTree) → AreDistinct (map entry_name (entries m)) → (ts : List StmtTree) →
    flat_map (stored_by p m) ts ≡ map (at_path p) (own_body (λ n. stored_entry (names_of m n)) no_way false ts)
stored_body p m distinct [] = refl
stored_body p m distinct (assignment name place e at equals ∷ ts) =
    ap₂ (λ (x y : List Path). x ++ y)
    (stored_one p (is_among (register_names m.locals) name) name ∙ ap (λ (b : Bool). map (at_path p) (one_kept b name)) (is_register m distinct name)) (stored_body p m distinct ts)
    ∙ sym (map-append (at_path p) (one_kept (stored_entry (names_of m name)) name) (own_body (λ n. stored_entry (names_of m n)) no_way false ts))
stored_body p m distinct (call name args at ∷ ts) = stored_body p m distinct ts
stored_body p m distinct (pad io inner drive release at ∷ ts) = stored_body p m distinct ts

no_pad_targets : (at : ℕ) (name : List ℕ) (o : Option Entry) → said_entry o ≡ not (stored_entry o) → pad_entry o ≡ false
no_pad_targets at name None e = refl
no_pad_targets at name (Some (port p)) e = out_no_pad p.way e where
  out_no_pad : (v : Way) → is_outward v ≡ true → is_both v ≡ false
  out_no_pad Inward f = refl
  out_no_pad Outward f = refl
  out_no_pad Both f = absurd (let g : false ≡ true = f in cc)
no_pad_targets at name (Some (constant c)) e = refl
no_pad_targets at name (Some (local l)) e = refl

driven_stmt : (pads : Pads) (seen : Seen) (clock : Option (List ℕ)) (m : ModuleTree) (t : StmtTree) → stmt_faults (names_of m) seen clock t ≡ [] →
    driven_by pads t ≡ map (pad_of pads) (own_stmt (λ n. pad_entry (names_of m n)) is_both false t)
driven_stmt pads seen clock m (assignment name None e at equals) none =
    let two = both_none (use_faults use_.Assigned at name (names_of m name)) (expr_faults (names_of m) clock e) none in
    ap (λ (b : Bool). map (pad_of pads) (one_kept b name)) (sym (no_pad_targets at name (names_of m name) (assigned_said at name (names_of m name) two.0)))
driven_stmt pads seen clock m (assignment name (Some place) e at equals) none =
    let two = both_none (use_faults use_.ElementAssigned at name (names_of m name)) _ none in
    ap (λ (b : Bool). map (pad_of pads) (one_kept b name)) (sym (no_pad_targets at name (names_of m name) (element_said at name (names_of m name) two.0)))
driven_stmt pads seen clock m (call name args at) none = refl
driven_stmt pads seen clock m (pad io inner drive release at) none = refl

driven_body : (pads : Pads) (seen : Seen) (clock : Option (List ℕ)) (m : ModuleTree) (ts : List StmtTree) → body_faults (names_of m) seen clock ts ≡ [] →
    flat_map (driven_by pads) ts ≡ map (pad_of pads) (own_body (λ n. pad_entry (names_of m n)) is_both false ts)
driven_body pads seen clock m [] none = refl
driven_body pads seen clock m (t ∷ ts) none =
    let two = both_none (stmt_faults (names_of m) seen clock t) (body_faults (names_of m) seen clock ts) none in
    ap₂ (λ (x y : List Path). x ++ y) (driven_stmt pads seen clock m t two.0) (driven_body pads seen clock m ts two.1)
    ∙ sym (map-append (pad_of pads) (own_stmt (λ n. pad_entry (names_of m n)) is_both false t) (own_body (λ n. pad_entry (names_of m n)) is_both false ts))

-- what is declared, at a path
out_port : (p : Path) (v : Way) (name : List ℕ) → out_way v (p ++ name ∷ []) ≡ map (at_path p) (one_kept (is_outward v) name)
out_port p Inward name = refl
out_port p Outward name = refl
out_port p Both name = refl

outs_declared : (p : Path) (ports : List Port) → out_ports p ports ≡ map (at_path p) (out_names ports)
outs_declared p [] = refl
outs_declared p (q ∷ ports) =
    ap₂ (λ (x y : List Path). x ++ y) (out_port p q.way q.name) (outs_declared p ports) ∙ sym (map-append (at_path p) (one_kept (is_outward q.way) q.name) (out_names ports))

var_local : (p : Path) (k : LocalKind) (name : List ℕ) → var_path k (p ++ name ∷ []) ≡ map (at_path p) (one_kept (is_variable k) name)
var_local p (Reg clock type) name = refl
var_local p (Var type) name = refl
var_local p (Inst of) name = refl

vars_declared : (p : Path) (ls : List Local) → var_paths p ls ≡ map (at_path p) (var_names ls)
vars_declared p [] = refl
vars_declared p (l ∷ ls) =
    ap₂ (λ (x y : List Path). x ++ y) (var_local p l.kind l.name) (vars_declared p ls) ∙ sym (map-append (at_path p) (one_kept (is_variable l.kind) l.name) (var_names ls))

reg_local : (p : Path) (k : LocalKind) (name : List ℕ) → reg_path k (p ++ name ∷ []) ≡ map (at_path p) (one_kept (is_register_kind k) name)
reg_local p (Reg clock type) name = refl
reg_local p (Var type) name = refl
reg_local p (Inst of) name = refl

regs_declared : (p : Path) (ls : List Local) → reg_paths p ls ≡ map (at_path p) (reg_names ls)
regs_declared p [] = refl
regs_declared p (l ∷ ls) =
    ap₂ (λ (x y : List Path). x ++ y) (reg_local p l.kind l.name) (regs_declared p ls) ∙ sym (map-append (at_path p) (one_kept (is_register_kind l.kind) l.name) (reg_names ls))

both_one : (v : Way) (name : List ℕ) → way_names v name ≡ one_kept (is_both v) name
both_one Inward name = refl
both_one Outward name = refl
both_one Both name = refl

pub boths_declared : (ports : List Port) → both_names ports ≡ inout_names ports
boths_declared [] = refl
boths_declared (p ∷ ports) = ap₂ (λ (x y : List (List ℕ)). x ++ y) (both_one p.way p.name) (boths_declared ports)

-- instances pass as they should
pub local_bare : (earlier : List ModuleTree) (m : ModuleTree) → AllClean (m ∷ earlier) → IsWrittenModule m → (l : Local) → IsIn l m.locals →
    AreBare (listed (kind_pins (seen_behind earlier) l.kind)) (args_of m.body l.name)
local_bare earlier m clean written l is =
    let seen = seen_behind earlier in
    let free = args_free (names_of m) seen (clock_in seen m) m.body l.name clean.0.body in
    let named = local_named m l (are_distinct m clean.0.doubled) is in
    let here = subst (λ (o : Option Entry). args_faults (names_of m) (clock_in seen m) (args_of m.body l.name) (listed (instance_pins seen o)) ≡ []) named free in
    args_bare (names_of m) (clock_in seen m) (listed (kind_pins seen l.kind)) (args_of m.body l.name) (kind_good seen l.kind (seen_good earlier clean.1)) (args_written m.body l.name written) here
  where
    kind_good : (seen : Seen) (k : LocalKind) → GoodSeen seen → GoodPins (listed (kind_pins seen k))
    kind_good seen (Reg clock type) good = tt
    kind_good seen (Var type) good = tt
    kind_good seen (Inst of) good = good of.name

-- each OUT port and variable is assigned once
pub said_once : (earlier : List ModuleTree) (m : ModuleTree) → AllClean (m ∷ earlier) → IsWrittenModule m → (x p : Path) (pads : Pads) →
    count x (flat_map (said_by p m) m.body) + count x (of_locals (outs_inside earlier) m p pads m.locals) ≡ count x (out_ports p m.ports) + count x (var_paths p m.locals)
said_once earlier m clean written x p pads =
    let seen = seen_behind earlier in
    let test : List ℕ → Bool = λ n. said_entry (names_of m n) in
    let own = own_body test is_outward false m.body in
    let passed = by_locals seen is_outward m.body m.locals in
    let left : count x (flat_map (said_by p m) m.body) ≡ count x (map (at_path p) own) = ap (count x) (said_body p seen (clock_in seen m) m (are_distinct m clean.0.doubled) m.body clean.0.body) in
    let left' : count x (of_locals (outs_inside earlier) m p pads m.locals) ≡ count x (map (at_path p) passed) = ap (count x) (locals_outs earlier clean.1 m p pads m.locals (local_bare earlier m clean written)) in
    let right : count x (out_ports p m.ports) ≡ count x (map (at_path p) (out_names m.ports)) = ap (count x) (outs_declared p m.ports) in
    let right' : count x (var_paths p m.locals) ≡ count x (map (at_path p) (var_names m.locals)) = ap (count x) (vars_declared p m.locals) in
    let each : (n : List ℕ) → name_count n (own ++ passed) ≡ name_count n (out_names m.ports ++ var_names m.locals) = λ n.
    name_count_append n own passed ∙ class_once seen m clean.0 (seen_good earlier clean.1) test is_outward false (said_class (names_of m)) (said_must (names_of m)) n
    ∙ sym (said_count seen m clean.0 n) ∙ sym (name_count_append n (out_names m.ports) (var_names m.locals)) in
    let images = same_images x (at_path p) (own ++ passed) (out_names m.ports ++ var_names m.locals) each in
    let one : count x (map (at_path p) (own ++ passed)) ≡ count x (map (at_path p) own) + count x (map (at_path p) passed) =
    ap (count x) (map-append (at_path p) own passed) ∙ path_count_append x (map (at_path p) own) (map (at_path p) passed) in
    let two : count x (map (at_path p) (out_names m.ports ++ var_names m.locals)) ≡ count x (map (at_path p) (out_names m.ports)) + count x (map (at_path p) (var_names m.locals)) =
    ap (count x) (map-append (at_path p) (out_names m.ports) (var_names m.locals)) ∙ path_count_append x (map (at_path p) (out_names m.ports)) (map (at_path p) (var_names m.locals)) in
    omega arith

-- each register is set once
pub nothing_passed : (seen : Seen) (body : List StmtTree) (ls : List Local) → by_locals seen no_way body ls ≡ []
nothing_passed seen body [] = refl
nothing_passed seen body (l ∷ ls) = ap₂ (λ (x y : List (List ℕ)). x ++ y) (no_way_args (listed (kind_pins seen l.kind)) (args_of body l.name)) (nothing_passed seen body ls) where
  no_way_args : (pins : List Pin) (args : List ActualTree) → way_args no_way pins args ≡ []
  no_way_args [] args = refl
  no_way_args (pin ∷ pins) [] = refl
  no_way_args (pin ∷ pins) (a ∷ args) = no_way_args pins args

pub stored_once : (earlier : List ModuleTree) (m : ModuleTree) → AllClean (m ∷ earlier) → (x p : Path) → count x (flat_map (stored_by p m) m.body) ≡ count x (reg_paths p m.locals)
stored_once earlier m clean x p =
    let seen = seen_behind earlier in
    let test : List ℕ → Bool = λ n. stored_entry (names_of m n) in
    let own = own_body test no_way false m.body in
    let each : (n : List ℕ) → name_count n own ≡ name_count n (reg_names m.locals) = λ n.
    let once = class_once seen m clean.0 (seen_good earlier clean.1) test no_way false (stored_class (names_of m)) (register_must (names_of m)) n in
    let none : name_count n (by_locals seen no_way m.body m.locals) ≡ 0 = ap (name_count n) (nothing_passed seen m.body m.locals) in
    let declared = stored_count seen m clean.0 n in
    omega arith in
    ap (count x) (stored_body p m (are_distinct m clean.0.doubled) m.body) ∙ same_images x (at_path p) own (reg_names m.locals) each ∙ ap (count x) (sym (regs_declared p m.locals))

-- each pad is driven or passed on once
pads_each : (pads : Pads) → AreDistinct (pad_names pads) → pad_paths pads ≡ map (pad_of pads) (pad_names pads)
pads_each [] distinct = refl
pads_each (q ∷ pads) distinct =
    ap₂ (λ (x : Path) (y : List Path). x ∷ y) (sym (cond-true (bytes_eq q.0 q.0) q.1 (pad_of pads q.0) (same_name q.0 q.0 refl)))
    (pads_each pads distinct.1 ∙ others pads (pad_names pads) distinct.0)
  where
    others : (ps : Pads) (ns : List (List ℕ)) → (IsIn q.0 ns → ⊥) → map (pad_of ps) ns ≡ map (pad_of (q ∷ ps)) ns
    others ps [] apart = refl
    others ps (n ∷ ns) apart =
        ap₂ (λ (x : Path) (y : List Path). x ∷ y) (sym (cond-false (bytes_eq q.0 n) q.1 (pad_of ps n) (other_name q.0 n (λ e. apart (inl e))))) (others ps ns (λ is. apart (inr is)))

few_distinct : (ns : List (List ℕ)) → ((n : List ℕ) → name_count n ns ≤ 1) → AreDistinct ns
few_distinct [] few = tt
few_distinct (n ∷ ns) few = (
  λ is. two_of n ns is (few n),
  few_distinct ns (λ k. let h = few k in omega arith),
)
  where
    two_of : (n : List ℕ) (ns : List (List ℕ)) → IsIn n ns → name_count n (n ∷ ns) ≤ 1 → ⊥
    two_of n ns is few =
        let one : one_if (bytes_eq n n) ≡ 1 = ap one_if (same_name n n refl) in
        let more = present_count n ns is in
        omega arith

pub boths_distinct : (seen : Seen) (m : ModuleTree) → IsClean seen m → AreDistinct (both_names m.ports)
boths_distinct seen m clean =
    subst (λ (ns : List (List ℕ)). AreDistinct ns) (sym (boths_declared m.ports))
    (few_distinct (inout_names m.ports) (λ n. when_few (pad_entry (names_of m n)) (name_count n (inout_names m.ports)) (pad_count seen m clean n)))
  where
    when_few : (b : Bool) (k : ℕ) → k ≡ when b 1 → k ≤ 1
    when_few true k e = omega arith
    when_few false k e = omega arith

pub driven_once : (earlier : List ModuleTree) (m : ModuleTree) → AllClean (m ∷ earlier) → (x p : Path) (pads : Pads) → pad_names pads ≡ both_names m.ports →
    count x (flat_map (driven_by pads) m.body) + count x (of_locals (pads_inside earlier) m p pads m.locals) ≡ count x (pad_paths pads)
driven_once earlier m clean x p pads named =
    let seen = seen_behind earlier in
    let test : List ℕ → Bool = λ n. pad_entry (names_of m n) in
    let own = own_body test is_both false m.body in
    let passed = by_locals seen is_both m.body m.locals in
    let left : count x (flat_map (driven_by pads) m.body) ≡ count x (map (pad_of pads) own) = ap (count x) (driven_body pads seen (clock_in seen m) m m.body clean.0.body) in
    let left' : count x (of_locals (pads_inside earlier) m p pads m.locals) ≡ count x (map (pad_of pads) passed) = ap (count x) (locals_pads earlier clean.1 m p pads m.locals) in
    let right : count x (pad_paths pads) ≡ count x (map (pad_of pads) (pad_names pads)) =
    ap (count x) (pads_each pads (subst (λ (ns : List (List ℕ)). AreDistinct ns) (sym named) (boths_distinct seen m clean.0))) in
    let each : (n : List ℕ) → name_count n (own ++ passed) ≡ name_count n (pad_names pads) = λ n.
    name_count_append n own passed ∙ class_once seen m clean.0 (seen_good earlier clean.1) test is_both false (pad_class (names_of m)) (pad_must (names_of m)) n
    ∙ sym (pad_count seen m clean.0 n) ∙ ap (name_count n) (sym (named ∙ boths_declared m.ports)) in
    let images = same_images x (pad_of pads) (own ++ passed) (pad_names pads) each in
    let one : count x (map (pad_of pads) (own ++ passed)) ≡ count x (map (pad_of pads) own) + count x (map (pad_of pads) passed) =
    ap (count x) (map-append (pad_of pads) own passed) ∙ path_count_append x (map (pad_of pads) own) (map (pad_of pads) passed) in
    omega arith
