-- The modules of a well sized source, in reverse order, each without faults behind those before it.
use Rattle.std.proofs.Common.{◌≡◌, ℕ, true, false, List, [], ◌∷◌, ◌++◌, reverse, Option, Some, None, refl, sym, ◌∙◌, ap, ap₂, subst, append_assoc}
use Rattle.std.specs.Prelude.{bytes_eq}
use Rattle.std.specs.List.{AllByRecursion}
use Rattle.std.proofs.lemmas.Bool.{cond-true, cond-false}
use Rattle.std.proofs.lemmas.List.{append-nil, reverse-append}
use Rattle.lola_bits.proofs.Lists.{both_none}
use Rattle.lola_bits.proofs.Names.{is_same_name}
use Rattle.lola_tree.specs.Tree.{ModuleTree, SourceTree}
use Rattle.lola_tree.specs.Names.{names_of, entries}
use Rattle.lola_width.specs.declared.interface.Pin.{Pin}
use Rattle.lola_width.specs.Interface.{Seen, or_first}
use Rattle.lola_width.specs.NameFaults.{no_names, doubled_faults, title_faults, port_faults, local_faults, body_faults, end_faults, used_faults, name_faults}
use Rattle.lola_width.specs.WidthFaults.{port_widths, const_widths, local_widths, body_widths, width_faults}
use Rattle.lola_width.specs.AssignmentFaults.{none_taken, taken_with_all, twice, ports_never, locals_never, body_targets, assignment_faults}
use Rattle.lola_width.specs.Sized.{clock_in, faults_in, pins_in, seen_after, faults_from, IsWellSized}
use Rattle.lola_regular.specs.Clocked.{seen_behind}
use Rattle.lola_regular.specs.Written.{IsWrittenModule, IsWritten}

-- no fault of a module, kind by kind
pub record IsClean (seen : Seen) (m : ModuleTree) : Type 0 where
  pub title : seen m.name ≡ None
  pub doubled : doubled_faults no_names (entries m) ≡ []
  pub ports : port_faults (names_of m) m.ports ≡ []
  pub locals : local_faults (names_of m) seen (clock_in seen m) m.locals ≡ []
  pub body : body_faults (names_of m) seen (clock_in seen m) m.body ≡ []
  pub wide_ports : port_widths (names_of m) m.ports ≡ []
  pub wide_consts : const_widths m.consts ≡ []
  pub wide_locals : local_widths (names_of m) m.locals ≡ []
  pub wide_body : body_widths (names_of m) seen m.body ≡ []
  pub twice : twice none_taken (body_targets (names_of m) seen m.body) ≡ []
  pub never_ports : ports_never (taken_with_all none_taken (body_targets (names_of m) seen m.body)) m.ports ≡ []
  pub never_locals : locals_never (taken_with_all none_taken (body_targets (names_of m) seen m.body)) m.locals ≡ []

no_title : (o : Option (List Pin)) (m : ModuleTree) → title_faults o m ≡ [] → o ≡ None
no_title None m e = refl
no_title (Some pins) m e = absurd (cc)

is_clean : (seen : Seen) (m : ModuleTree) → faults_in seen m ≡ [] → IsClean seen m
is_clean seen m none =
    let names = names_of m in
    let clock = clock_in seen m in
    let targets = body_targets names seen m.body in
    let all = both_none (name_faults names seen clock m) (width_faults names seen m ++ assignment_faults names seen m) none in
    let more = both_none (width_faults names seen m) (assignment_faults names seen m) all.1 in
    let n0 = both_none (title_faults (seen m.name) m) (doubled_faults no_names (entries m) ++ used_faults names seen clock m) all.0 in
    let n1 = both_none (doubled_faults no_names (entries m)) (used_faults names seen clock m) n0.1 in
    let n2 = both_none (port_faults names m.ports) (local_faults names seen clock m.locals ++ (body_faults names seen clock m.body ++ end_faults m)) n1.1 in
    let n3 = both_none (local_faults names seen clock m.locals) (body_faults names seen clock m.body ++ end_faults m) n2.1 in
    let n4 = both_none (body_faults names seen clock m.body) (end_faults m) n3.1 in
    let w0 = both_none (port_widths names m.ports) (const_widths m.consts ++ (local_widths names m.locals ++ body_widths names seen m.body)) more.0 in
    let w1 = both_none (const_widths m.consts) (local_widths names m.locals ++ body_widths names seen m.body) w0.1 in
    let w2 = both_none (local_widths names m.locals) (body_widths names seen m.body) w1.1 in
    let a0 = both_none (twice none_taken targets) (ports_never (taken_with_all none_taken targets) m.ports ++ locals_never (taken_with_all none_taken targets) m.locals) more.1 in
    let a1 = both_none (ports_never (taken_with_all none_taken targets) m.ports) (locals_never (taken_with_all none_taken targets) m.locals) a0.1 in
    record {
      title = no_title (seen m.name) m n0.0;
      doubled = n1.0;
      ports = n2.0;
      locals = n3.0;
      body = n4.0;
      wide_ports = w0.0;
      wide_consts = w1.0;
      wide_locals = w2.0;
      wide_body = w2.1;
      twice = a0.0;
      never_ports = a1.0;
      never_locals = a1.1;
    }

abbrev pub AllClean : List ModuleTree → Type 0
AllClean [] = Unit {0}
AllClean (m ∷ earlier) = IsClean (seen_behind earlier) m × AllClean earlier

turned : (m : ModuleTree) (ms earlier : List ModuleTree) → reverse ms ++ (m ∷ earlier) ≡ reverse (m ∷ ms) ++ earlier
turned m ms earlier = sym (ap (λ (l : List ModuleTree). l ++ earlier) (reverse-append (m ∷ []) ms) ∙ append_assoc (reverse ms) (m ∷ []) earlier)

clean_from : (ms earlier : List ModuleTree) → AllClean earlier → faults_from (seen_behind earlier) ms ≡ [] → AllClean (reverse ms ++ earlier)
clean_from [] earlier clean none = clean
clean_from (m ∷ ms) earlier clean none =
    let two = both_none (faults_in (seen_behind earlier) m) (faults_from (seen_after (seen_behind earlier) m) ms) none in
    subst AllClean (turned m ms earlier) (clean_from ms (m ∷ earlier) (is_clean (seen_behind earlier) m two.0, clean) two.1)

pub all_clean : (S : SourceTree) → IsWellSized S → AllClean (reverse S.modules)
all_clean S sized = subst AllClean (append-nil (reverse S.modules)) (clean_from S.modules [] tt sized.none)

written_from : (ms earlier : List ModuleTree) → AllByRecursion IsWrittenModule earlier → AllByRecursion IsWrittenModule ms → AllByRecursion IsWrittenModule (reverse ms ++ earlier)
written_from [] earlier before all = before
written_from (m ∷ ms) earlier before all = subst (AllByRecursion IsWrittenModule) (turned m ms earlier) (written_from ms (m ∷ earlier) (all.0, before) all.1)

pub all_written : (S : SourceTree) → IsWritten S → AllByRecursion IsWrittenModule (reverse S.modules)
all_written S written = subst (AllByRecursion IsWrittenModule) (append-nil (reverse S.modules)) (written_from S.modules [] tt written.modules)

-- the module of a name is the nearest, whose name no earlier one has
or_none : {X : Type 0} (o : Option X) → or_first o None ≡ o
or_none None = refl
or_none (Some x) = refl

pub seen_here : (m : ModuleTree) (earlier : List ModuleTree) (name : List ℕ) → AllClean (m ∷ earlier) → bytes_eq m.name name ≡ true →
    seen_behind (m ∷ earlier) name ≡ Some (pins_in (seen_behind earlier) m)
seen_here m earlier name clean same =
    let none : seen_behind earlier name ≡ None = ap (seen_behind earlier) (sym (is_same_name m.name name same)) ∙ clean.0.title in
    ap₂ (λ (a b : Option (List Pin)). or_first a b) none (cond-true (bytes_eq m.name name) (Some (pins_in (seen_behind earlier) m)) None same)

pub seen_further : (m : ModuleTree) (earlier : List ModuleTree) (name : List ℕ) → bytes_eq m.name name ≡ false → seen_behind (m ∷ earlier) name ≡ seen_behind earlier name
seen_further m earlier name other =
    ap (or_first (seen_behind earlier name)) (cond-false (bytes_eq m.name name) (Some (pins_in (seen_behind earlier) m)) None other) ∙ or_none (seen_behind earlier name)
