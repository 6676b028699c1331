-- What the places of a well sized source are: each module stands behind others, and instances are called by local
-- names of modules that do.
use Rattle.std.proofs.Common.{◌≡◌, ℕ, true, List, [], ◌∷◌, ◌++◌, length, reverse, Option, Some, None, refl, sym, ◌∙◌, ap, ap₂, subst, inl, inr, arith}
use Rattle.std.specs.Prelude.{bytes_eq}
use Rattle.std.specs.List.{AllByRecursion}
use Rattle.std.proofs.lemmas.Bool.{cases_Bool, cond-true, cond-false}
use Rattle.std.proofs.lemmas.List.{map-append}
use Rattle.lola_bits.specs.Lists.{IsIn}
use Rattle.lola_bits.proofs.Lists.{in_either}
use Rattle.lola_tree.specs.declared.named.Named.{Named}
use Rattle.lola_tree.specs.declared.module.Way.{Way}
use Rattle.lola_tree.specs.declared.module.Way.TheVariants.{Inward, Outward, Both}
use Rattle.lola_tree.specs.declared.module.Port.{Port}
use Rattle.lola_tree.specs.declared.module.LocalKind.{LocalKind}
use Rattle.lola_tree.specs.declared.module.LocalKind.TheVariants.{Reg, Var, Inst}
use Rattle.lola_tree.specs.declared.module.Local.{Local}
use Rattle.lola_tree.specs.Tree.{ActualTree, ModuleTree, SourceTree}
use Rattle.lola_tree.specs.Names.{names_of}
use Rattle.lola_tree.specs.Value.{Path}
use Rattle.lola_tree.specs.design.Places.{Pads, pad_of, way_pad, own_pads, passed_pads, Caller, Place, kind_places, local_places, places_at, places_inside, root_places, places}
use Rattle.lola_tree.specs.design.Calls.{bare_name, args_of}
use Rattle.lola_tree.specs.design.Clocks.{clocks_in, clock_ports}
use Rattle.lola_width.specs.Sized.{clock_in, pins_in}
use Rattle.lola_design.specs.Drives.{pad_names}
use Rattle.lola_design.specs.Assigned.{way_names, both_names}
use Rattle.lola_regular.specs.Clocked.{seen_behind}
use Rattle.lola_regular.specs.Written.{IsWrittenModule}
use Rattle.lola_regular.proofs.Clean.{AllClean, seen_here, seen_further}
use Rattle.lola_regular.proofs.Counted.{instance_many, pins_long}

-- a caller calls by one of its local names, an instance; its INOUT ports stand for pads
pub record CallsBy (c : Caller) (of : Named) (p : Path) : Type 0 where
  pub earlier : List ModuleTree
  pub clean : AllClean (c.module_ ∷ earlier)
  pub written : AllByRecursion IsWrittenModule (c.module_ ∷ earlier)
  pub pads : pad_names c.pads ≡ both_names c.module_.ports
  pub local : Local
  pub declared : IsIn local c.module_.locals
  pub kind : local.kind ≡ Inst of
  pub args : c.args ≡ args_of c.module_.body local.name
  pub path : p ≡ c.path ++ local.name ∷ []

-- so is a place entered, whose module the caller's knows by its pins; the root is not
pub record IsEntered (a : Place) (earlier : List ModuleTree) (c : Caller) : Type 0 where
  pub of : Named
  pub calls : CallsBy c of a.path
  pub seen : seen_behind calls.earlier of.name ≡ Some (pins_in (seen_behind earlier) a.module_)
  pub passed : a.pads ≡ passed_pads c.pads a.module_.ports c.args

pub record IsTop (a : Place) : Type 0 where
  pub path : a.path ≡ []
  pub own : a.pads ≡ own_pads a.module_.ports

abbrev pub IsReached : Place → List ModuleTree → Option Caller → Type 0
IsReached a earlier None = IsTop a
IsReached a earlier (Some c) = IsEntered a earlier c

pub record Stands (a : Place) : Type 0 where
  pub earlier : List ModuleTree
  pub clean : AllClean (a.module_ ∷ earlier)
  pub written : AllByRecursion IsWrittenModule (a.module_ ∷ earlier)
  pub clocks : a.clocks ≡ clocks_in (clock_ports earlier) a.module_
  pub pads : pad_names a.pads ≡ both_names a.module_.ports
  pub reached : IsReached a earlier a.caller

-- the names of pads
way_names_are : (v : Way) (name : List ℕ) (q : Path) → pad_names (way_pad v name q) ≡ way_names v name
way_names_are Inward name q = refl
way_names_are Outward name q = refl
way_names_are Both name q = refl

own_names : (ports : List Port) → pad_names (own_pads ports) ≡ both_names ports
own_names [] = refl
own_names (p ∷ ports) =
    map-append (λ (x : List ℕ × Path). x.0) (way_pad p.way p.name (p.name ∷ [])) (own_pads ports)
    ∙ ap₂ (λ (x y : List (List ℕ)). x ++ y) (way_names_are p.way p.name (p.name ∷ [])) (own_names ports)

passed_names : (pads : Pads) (ports : List Port) (args : List ActualTree) → length ports ≡ length args → pad_names (passed_pads pads ports args) ≡ both_names ports
passed_names pads [] args many = refl
passed_names pads (p ∷ ports) [] many = absurd (omega arith)
passed_names pads (p ∷ ports) (a ∷ args) many =
    let same : length ports ≡ length args = omega arith in
    map-append (λ (x : List ℕ × Path). x.0) (way_pad p.way p.name (pad_of pads (bare_name a.value))) (passed_pads pads ports args)
    ∙ ap₂ (λ (x y : List (List ℕ)). x ++ y) (way_names_are p.way p.name (pad_of pads (bare_name a.value))) (passed_names pads ports args same)

-- how a name leads to a module among some
pub record Enters (ms : List ModuleTree) (name : List ℕ) (p : Path) (c : Caller) : Type 0 where
  pub of : Named
  pub calls : CallsBy c of p
  pub named : of.name ≡ name
  pub seen : seen_behind calls.earlier name ≡ seen_behind ms name

abbrev InsideStand : List ModuleTree → Type 0
InsideStand ms = (name : List ℕ) (p : Path) (c : Caller) → Enters ms name p c → (a : Place) → IsIn a (places_inside ms name p c) → Stands a

module _ (m : ModuleTree) (earlier : List ModuleTree) (clean : AllClean (m ∷ earlier)) (written : AllByRecursion IsWrittenModule (m ∷ earlier)) (inside : InsideStand earlier) (p : Path) (pads : Pads)
    (named : pad_names pads ≡ both_names m.ports) where
  kind_stand : (l : Local) → IsIn l m.locals → (k : LocalKind) → l.kind ≡ k → (a : Place) → IsIn a (kind_places (places_inside earlier) m p pads l.name k) → Stands a
  kind_stand l is (Reg clock type) kind a there = absurd there
  kind_stand l is (Var type) kind a there = absurd there
  kind_stand l is (Inst of) kind a there =
      let c : Caller = record { module_ = m; path = p; pads = pads; args = args_of m.body l.name } in
      let calls : CallsBy c of (p ++ l.name ∷ []) = record { earlier = earlier; clean = clean; written = written; pads = named; local = l; declared = is; kind = kind; args = refl; path = refl } in
      inside of.name (p ++ l.name ∷ []) c (record { of = of; calls = calls; named = refl; seen = refl }) a there

  pub locals_stand : (ls : List Local) → ((l : Local) → IsIn l ls → IsIn l m.locals) → (a : Place) → IsIn a (local_places (places_inside earlier) m p pads ls) → Stands a
  locals_stand [] each a there = absurd there
  locals_stand (l ∷ ls) each a there = elim (in_either a (kind_places (places_inside earlier) m p pads l.name l.kind) (local_places (places_inside earlier) m p pads ls) there) [
    | inl here ↦ kind_stand l (each l (inl refl)) l.kind refl a here
    | inr later ↦ locals_stand ls (λ k is. each k (inr is)) a later
  ]

-- the module that a name leads to
entered_here : (m : ModuleTree) (earlier : List ModuleTree) → AllClean (m ∷ earlier) → AllByRecursion IsWrittenModule (m ∷ earlier) → (name : List ℕ) (p : Path) (c : Caller) → bytes_eq m.name name ≡ true →
    Enters (m ∷ earlier) name p c → Stands (record { module_ = m; path = p; clocks = clocks_in (clock_ports earlier) m; pads = passed_pads c.pads m.ports c.args; caller = Some c })
entered_here m earlier clean written name p c same enters =
    let pins = pins_in (seen_behind earlier) m in
    let calls = enters.calls in
    let seen : seen_behind calls.earlier enters.of.name ≡ Some pins = ap (seen_behind calls.earlier) enters.named ∙ (enters.seen ∙ seen_here m earlier name clean same) in
    let many = instance_many calls.earlier c.module_ calls.clean calls.local enters.of calls.declared calls.kind pins seen in
    let ports : length m.ports ≡ length c.args = sym (pins_long (names_of m) (clock_in (seen_behind earlier) m) m.ports) ∙ (many ∙ ap (λ (l : List ActualTree). length l) (sym calls.args)) in
    record {
      earlier = earlier;
      clean = clean;
      written = written;
      clocks = refl;
      pads = passed_names c.pads m.ports c.args ports;
      reached = record { of = enters.of; calls = calls; seen = seen; passed = refl };
    }

inside_stand : (ms : List ModuleTree) → AllClean ms → AllByRecursion IsWrittenModule ms → InsideStand ms
inside_stand [] clean written name p c enters a there = absurd there
inside_stand (m ∷ earlier) clean written name p c enters a there = elim (cases_Bool (bytes_eq m.name name)) [
  | inl same ↦
      here same (inside_stand earlier clean.1 written.1) (subst (λ (l : List Place). IsIn a l)
      (cond-true (bytes_eq m.name name) (places_at (clock_ports earlier) (places_inside earlier) m p (Some c) (passed_pads c.pads m.ports c.args)) (places_inside earlier name p c) same) there)
  | inr other ↦
      inside_stand earlier clean.1 written.1 name p c
      (record { of = enters.of; calls = enters.calls; named = enters.named; seen = enters.seen ∙ seen_further m earlier name other }) a
      (subst (λ (l : List Place). IsIn a l)
      (cond-false (bytes_eq m.name name) (places_at (clock_ports earlier) (places_inside earlier) m p (Some c) (passed_pads c.pads m.ports c.args)) (places_inside earlier name p c) other) there)
]
  where
    here : bytes_eq m.name name ≡ true → InsideStand earlier → IsIn a (places_at (clock_ports earlier) (places_inside earlier) m p (Some c) (passed_pads c.pads m.ports c.args)) → Stands a
    here same inside (inl first) = subst Stands (sym first) (entered_here m earlier clean written name p c same enters)
    here same inside (inr later) =
        locals_stand m earlier clean written inside p (passed_pads c.pads m.ports c.args) (entered_here m earlier clean written name p c same enters).pads m.locals (λ l is. is) a later

root_stand : (ms : List ModuleTree) → AllClean ms → AllByRecursion IsWrittenModule ms → (a : Place) → IsIn a (root_places ms) → Stands a
root_stand [] clean written a there = absurd there
root_stand (m ∷ earlier) clean written a (inl first) =
    subst Stands (sym first) (record { earlier = earlier; clean = clean; written = written; clocks = refl; pads = own_names m.ports; reached = record { path = refl; own = refl } })
root_stand (m ∷ earlier) clean written a (inr later) =
    locals_stand m earlier clean written (inside_stand earlier clean.1 written.1) [] (own_pads m.ports) (own_names m.ports) m.locals (λ l is. is) a later

pub all_stand : (S : SourceTree) → AllClean (reverse S.modules) → AllByRecursion IsWrittenModule (reverse S.modules) → (a : Place) → IsIn a (places S) → Stands a
all_stand S clean written a there = root_stand (reverse S.modules) clean written a there
