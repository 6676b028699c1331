-- Each module of a well sized source assigns each OUT port, variable and register once, and drives or passes on each
-- INOUT port once.
use Rattle.std.proofs.Common.{◌≡◌, ℕ, ◌+◌, Bool, true, false, not, cond, List, [], ◌∷◌, ◌++◌, map, Option, Some, None, refl, sym, ◌∙◌, ap, ap₂, subst, inl, inr, ◌⊎◌, arith}
use Rattle.std.specs.Prelude.{bytes_eq, ◌||◌}
use Rattle.std.proofs.lemmas.Bool.{cases_Bool}
use Rattle.std.proofs.lemmas.List.{map-append}
use Rattle.lola_bits.specs.Lists.{IsIn, AreDistinct}
use Rattle.lola_bits.specs.Names.{is_among}
use Rattle.lola_bits.proofs.Lists.{both_none, distinct_back}
use Rattle.lola_bits.proofs.Names.{is_same_name, among, is_in}
use Rattle.lola_bits.proofs.Tests.{not_both, none_unless}
use Rattle.lola_tree.specs.declared.named.Named.{Named}
use Rattle.lola_tree.specs.declared.named.Shape.{Shape}
use Rattle.lola_tree.specs.declared.module.Way.{Way}
use Rattle.lola_tree.specs.declared.module.Way.TheVariants.{Inward, Outward, Both}
use Rattle.lola_tree.specs.declared.module.Port.{Port}
use Rattle.lola_tree.specs.declared.module.LocalKind.{LocalKind}
use Rattle.lola_tree.specs.declared.module.LocalKind.TheVariants.{Reg, Var, Inst}
use Rattle.lola_tree.specs.declared.module.Local.{Local}
use Rattle.lola_tree.specs.Tree.{ModuleTree}
use Rattle.lola_tree.specs.Names.{Entry, port, constant, local, entry_name, entries, Names, names_of, kind_shape}
use Rattle.lola_tree.specs.Signals.{is_inward, is_outward, name_of_register, register_names}
use Rattle.lola_width.specs.declared.uses.Use.TheVariants as use_
use Rattle.lola_width.specs.Interface.{Seen}
use Rattle.lola_width.specs.NameFaults.{use_faults, is_both, is_variable, is_instance_kind, is_vector, is_array, assigned_shape}
use Rattle.lola_width.specs.AssignmentFaults.{Taken, none_taken, taken_with, taken_with_all, never_taken, port_never, ports_never, locals_never, body_targets}
use Rattle.lola_width.specs.Sized.{clock_in}
use Rattle.lola_design.specs.Once.{name_count}
use Rattle.lola_regular.proofs.Clean.{IsClean}
use Rattle.lola_regular.proofs.Named.{present_count, counted_in, distinct_count, are_distinct, names_once, local_names, port_named, local_named, port_found, local_found}
use Rattle.lola_regular.proofs.Ways.{GoodSeen}
use Rattle.lola_regular.proofs.Targets.{when, one_kept, kept_count, said_entry, pad_entry, instance_entry, IsClass, target_names, suited, own_body, body_count, distinct_targets}
use Rattle.lola_regular.proofs.Exchange.{by_locals, exchange}
use Rattle.lola_regular.proofs.Images.{selected, selected_few, selected_in, in_selected, exact, either_some}

-- registers
abbrev pub is_register_kind : LocalKind → Bool
is_register_kind (Reg clock type) = true
is_register_kind (Var type) = false
is_register_kind (Inst of) = false

abbrev pub stored_in : Entry → Bool
stored_in (port p) = false
stored_in (constant c) = false
stored_in (local l) = is_register_kind l.kind

abbrev pub stored_entry : Option Entry → Bool
stored_entry None = false
stored_entry (Some e) = stored_in e

-- nothing is of two classes, and what is of one must be a target
abbrev pub must_entry : Option Entry → Bool
must_entry None = false
must_entry (Some (port p)) = not (is_inward p.way)
must_entry (Some (constant c)) = false
must_entry (Some (local l)) = true

way_said : (v : Way) → is_outward v ≡ true → (is_both v ≡ false) × (not (is_inward v) ≡ true)
way_said Inward e = absurd (cc)
way_said Outward e = (refl, refl)
way_said Both e = absurd (cc)

way_both : (v : Way) → is_both v ≡ true → (is_outward v ≡ false) × (not (is_inward v) ≡ true)
way_both Inward e = absurd (cc)
way_both Outward e = absurd (cc)
way_both Both e = (refl, refl)

kind_said : (k : LocalKind) → is_variable k ≡ true → (is_register_kind k ≡ false) × (is_instance_kind k ≡ false)
kind_said (Reg clock type) e = absurd (cc)
kind_said (Var type) e = (refl, refl)
kind_said (Inst of) e = absurd (cc)

kind_called : (k : LocalKind) → is_instance_kind k ≡ true → (is_variable k ≡ false) × (is_register_kind k ≡ false)
kind_called (Reg clock type) e = absurd (cc)
kind_called (Var type) e = absurd (cc)
kind_called (Inst of) e = (refl, refl)

only_said : (o : Option Entry) → said_entry o ≡ true → (pad_entry o ≡ false) × (stored_entry o ≡ false) × (instance_entry o ≡ false) × (must_entry o ≡ true)
only_said None e = absurd (cc)
only_said (Some (port p)) e = let w = way_said p.way e in (w.0, refl, refl, w.1)
only_said (Some (constant c)) e = absurd (cc)
only_said (Some (local l)) e = let k = kind_said l.kind e in (refl, k.0, k.1, refl)

only_pad : (o : Option Entry) → pad_entry o ≡ true → (said_entry o ≡ false) × (stored_entry o ≡ false) × (instance_entry o ≡ false) × (must_entry o ≡ true)
only_pad None e = absurd (cc)
only_pad (Some (port p)) e = let w = way_both p.way e in (w.0, refl, refl, w.1)
only_pad (Some (constant c)) e = absurd (cc)
only_pad (Some (local l)) e = absurd (cc)

pub only_called : (o : Option Entry) → instance_entry o ≡ true → (said_entry o ≡ false) × (pad_entry o ≡ false) × (stored_entry o ≡ false) × (must_entry o ≡ true)
only_called None e = absurd (cc)
only_called (Some (port p)) e = absurd (cc)
only_called (Some (constant c)) e = absurd (cc)
only_called (Some (local l)) e = let k = kind_called l.kind e in (k.0, refl, k.1, refl)

stored_must : (o : Option Entry) → stored_entry o ≡ true → must_entry o ≡ true
stored_must None e = absurd (cc)
stored_must (Some (port p)) e = absurd (cc)
stored_must (Some (constant c)) e = absurd (cc)
stored_must (Some (local l)) e = refl

abbrev pub no_way : Way → Bool
no_way v = false

-- the four classes
pub said_class : (names : Names) → IsClass names (λ n. said_entry (names n)) is_outward false
said_class names = record { receiver = λ n e. e; pad = λ n e. (only_pad (names n) e).0; called = λ n e. (only_called (names n) e).0; inward = refl }

pub pad_class : (names : Names) → IsClass names (λ n. pad_entry (names n)) is_both false
pad_class names = record { receiver = λ n e. (only_said (names n) e).0; pad = λ n e. e; called = λ n e. (only_called (names n) e).1; inward = refl }

pub stored_class : (names : Names) → IsClass names (λ n. stored_entry (names n)) no_way false
stored_class names = record { receiver = λ n e. (only_said (names n) e).1; pad = λ n e. (only_pad (names n) e).1; called = λ n e. (only_called (names n) e).2; inward = refl }

pub called_class : (names : Names) → IsClass names (λ n. instance_entry (names n)) no_way true
called_class names = record { receiver = λ n e. (only_said (names n) e).2; pad = λ n e. (only_pad (names n) e).2; called = λ n e. e; inward = refl }

-- what must be a target is one
or_one : (a b : Bool) → (a || b) ≡ true → (a ≡ true) ⊎ (b ≡ true)
or_one false b e = inr e
or_one true b e = inl refl

taken_is_in : (taken : Taken) (ts : List Named) (n : List ℕ) → taken_with_all taken ts n ≡ true → (taken n ≡ true) ⊎ IsIn n (target_names ts)
taken_is_in taken [] n e = inl e
taken_is_in taken (t ∷ ts) n e = elim (taken_is_in (taken_with taken t.name) ts n e) [
  | inl before ↦ elim (or_one (bytes_eq t.name n) (taken n) before) [ inl same ↦ inr (inl (sym (is_same_name t.name n same))) | inr earlier ↦ inl earlier ]
  | inr later ↦ inr (inr later)
]

none_before : (n : List ℕ) (ts : List Named) → taken_with_all none_taken ts n ≡ true → IsIn n (target_names ts)
none_before n ts e = elim (taken_is_in none_taken ts n e) [ inl never ↦ absurd (let f : false ≡ true = never in cc) | inr is ↦ is ]

port_taken : (taken : Taken) (ps : List Port) → ports_never taken ps ≡ [] → (p : Port) → IsIn p ps → not (is_inward p.way) ≡ true → taken p.name ≡ true
port_taken taken [] none p is must = absurd is
port_taken taken (q ∷ ps) none p (inl same) must =
    let one = (both_none (port_never taken q) (ports_never taken ps) none).0 in
    let here : port_never taken p ≡ [] = subst (λ (x : Port). port_never taken x ≡ []) (sym same) one in
    by_way p.way must here
  where
    by_way : (v : Way) → not (is_inward v) ≡ true → cond (is_inward v) [] (never_taken taken p.at p.name) ≡ [] → taken p.name ≡ true
    by_way Inward must none = absurd (let f : false ≡ true = must in cc)
    by_way Outward must none = none_unless (taken p.name) _ none
    by_way Both must none = none_unless (taken p.name) _ none
port_taken taken (q ∷ ps) none p (inr later) must = port_taken taken ps (both_none (port_never taken q) (ports_never taken ps) none).1 p later must

local_taken : (taken : Taken) (ls : List Local) → locals_never taken ls ≡ [] → (l : Local) → IsIn l ls → taken l.name ≡ true
local_taken taken [] none l is = absurd is
local_taken taken (k ∷ ls) none l (inl same) =
    let one = (both_none (never_taken taken k.at k.name) (locals_never taken ls) none).0 in
    none_unless (taken l.name) _ (subst (λ (x : Local). never_taken taken x.at x.name ≡ []) (sym same) one)
local_taken taken (k ∷ ls) none l (inr later) = local_taken taken ls (both_none (never_taken taken k.at k.name) (locals_never taken ls) none).1 l later

-- the targets of a module
abbrev pub targets_in : Seen → ModuleTree → List (List ℕ)
targets_in seen m = target_names (body_targets (names_of m) seen m.body)

must_target : (seen : Seen) (m : ModuleTree) → IsClean seen m → (n : List ℕ) (o : Option Entry) → names_of m n ≡ o → must_entry o ≡ true → IsIn n (targets_in seen m)
must_target seen m clean n None is must = absurd (cc)
must_target seen m clean n (Some (port p)) is must =
    let f = port_found m n p is in
    none_before n (body_targets (names_of m) seen m.body)
    (ap (taken_with_all none_taken (body_targets (names_of m) seen m.body)) f.1 ∙ port_taken (taken_with_all none_taken (body_targets (names_of m) seen m.body)) m.ports clean.never_ports p f.0 must)
must_target seen m clean n (Some (constant c)) is must = absurd (cc)
must_target seen m clean n (Some (local l)) is must =
    let f = local_found m n l is in
    none_before n (body_targets (names_of m) seen m.body)
    (ap (taken_with_all none_taken (body_targets (names_of m) seen m.body)) f.1 ∙ local_taken (taken_with_all none_taken (body_targets (names_of m) seen m.body)) m.locals clean.never_locals l f.0)

pub target_is : (seen : Seen) (m : ModuleTree) → IsClean seen m → (n : List ℕ) → must_entry (names_of m n) ≡ true → IsIn n (targets_in seen m)
target_is seen m clean n must = must_target seen m clean n (names_of m n) refl must

one_target : (seen : Seen) (m : ModuleTree) → IsClean seen m → (n : List ℕ) → must_entry (names_of m n) ≡ true → name_count n (targets_in seen m) ≡ 1
one_target seen m clean n must =
    let most = distinct_count n (targets_in seen m) (distinct_targets none_taken (body_targets (names_of m) seen m.body) clean.twice).0 in
    let some = present_count n (targets_in seen m) (target_is seen m clean n must) in
    omega arith

when_one : (b : Bool) (k : ℕ) → (b ≡ true → k ≡ 1) → when b k ≡ when b 1
when_one true k is = is refl
when_one false k is = refl

pub locals_distinct : (m : ModuleTree) → AreDistinct (map entry_name (entries m)) → AreDistinct (local_names m.locals)
locals_distinct m distinct =
    let all = distinct_back (map entry_name (map port m.ports)) (map entry_name (map constant m.consts ++ map local m.locals))
    (subst (λ (l : List (List ℕ)). AreDistinct l) (map-append entry_name (map port m.ports) (map constant m.consts ++ map local m.locals)) distinct) in
    let some = distinct_back (map entry_name (map constant m.consts)) (map entry_name (map local m.locals))
    (subst (λ (l : List (List ℕ)). AreDistinct l) (map-append entry_name (map constant m.consts) (map local m.locals)) all) in
    subst (λ (l : List (List ℕ)). AreDistinct l) (same m.locals) some
  where
    same : (ls : List Local) → map entry_name (map local ls) ≡ local_names ls
    same [] = refl
    same (l ∷ ls) = ap (λ (ns : List (List ℕ)). l.name ∷ ns) (same ls)

-- what statements have in a class and what instances pass, together, is once what is of the class
pub class_once : (seen : Seen) (m : ModuleTree) → IsClean seen m → GoodSeen seen → (test : List ℕ → Bool) (w : Way → Bool) (calls : Bool) → IsClass (names_of m) test w calls →
    ((n : List ℕ) → test n ≡ true → must_entry (names_of m n) ≡ true) → (n : List ℕ) →
    name_count n (own_body test w calls m.body) + name_count n (by_locals seen w m.body m.locals) ≡ when (test n) 1
class_once seen m clean good test w calls class must n =
    let distinct = are_distinct m clean.doubled in
    let targets = (distinct_targets none_taken (body_targets (names_of m) seen m.body) clean.twice).0 in
    let e = exchange (names_of m) seen (clock_in seen m) w m.locals (locals_distinct m distinct) (λ l is. local_named m l distinct is) (λ name l is. local_found m name l is) m.body clean.body targets n in
    let f = body_count (names_of m) seen (clock_in seen m) test w calls class good m.body clean.body n in
    let g = kept_count test n (targets_in seen m) ∙ when_one (test n) (name_count n (targets_in seen m)) (λ passes. one_target seen m clean n (must n passes)) in
    omega arith

-- OUT ports and variables, INOUT ports, and registers, by their names
abbrev pub out_names : List Port → List (List ℕ)
out_names ports = selected (λ (p : Port). is_outward p.way) (λ (p : Port). p.name) ports

abbrev pub var_names : List Local → List (List ℕ)
var_names locals = selected (λ (l : Local). is_variable l.kind) (λ (l : Local). l.name) locals

abbrev pub inout_names : List Port → List (List ℕ)
inout_names ports = selected (λ (p : Port). is_both p.way) (λ (p : Port). p.name) ports

abbrev pub reg_names : List Local → List (List ℕ)
reg_names locals = selected (λ (l : Local). is_register_kind l.kind) (λ (l : Local). l.name) locals

said_where : (m : ModuleTree) (n : List ℕ) (o : Option Entry) → names_of m n ≡ o → said_entry o ≡ true → IsIn n (out_names m.ports) ⊎ IsIn n (var_names m.locals)
said_where m n None is said = absurd (cc)
said_where m n (Some (port p)) is said =
    let f = port_found m n p is in
    inl (subst (λ (x : List ℕ). IsIn x (out_names m.ports)) (sym f.1) (in_selected (λ (p : Port). is_outward p.way) (λ (p : Port). p.name) p m.ports f.0 said))
said_where m n (Some (constant c)) is said = absurd (cc)
said_where m n (Some (local l)) is said =
    let f = local_found m n l is in
    inr (subst (λ (x : List ℕ). IsIn x (var_names m.locals)) (sym f.1) (in_selected (λ (l : Local). is_variable l.kind) (λ (l : Local). l.name) l m.locals f.0 said))

pub pad_where : (m : ModuleTree) (n : List ℕ) (o : Option Entry) → names_of m n ≡ o → pad_entry o ≡ true → IsIn n (inout_names m.ports)
pad_where m n None is said = absurd (cc)
pad_where m n (Some (port p)) is said =
    let f = port_found m n p is in
    subst (λ (x : List ℕ). IsIn x (inout_names m.ports)) (sym f.1) (in_selected (λ (p : Port). is_both p.way) (λ (p : Port). p.name) p m.ports f.0 said)
pad_where m n (Some (constant c)) is said = absurd (cc)
pad_where m n (Some (local l)) is said = absurd (cc)

stored_where : (m : ModuleTree) (n : List ℕ) (o : Option Entry) → names_of m n ≡ o → stored_entry o ≡ true → IsIn n (reg_names m.locals)
stored_where m n None is said = absurd (cc)
stored_where m n (Some (port p)) is said = absurd (cc)
stored_where m n (Some (constant c)) is said = absurd (cc)
stored_where m n (Some (local l)) is said =
    let f = local_found m n l is in
    subst (λ (x : List ℕ). IsIn x (reg_names m.locals)) (sym f.1) (in_selected (λ (l : Local). is_register_kind l.kind) (λ (l : Local). l.name) l m.locals f.0 said)

port_is : (m : ModuleTree) → AreDistinct (map entry_name (entries m)) → (test : Option Entry → Bool) (by : Port → Bool) → ((p : Port) → by p ≡ test (Some (port p))) → (n : List ℕ) →
    IsIn n (selected by (λ (p : Port). p.name) m.ports) → test (names_of m n) ≡ true
port_is m distinct test by same n is =
    let f = selected_in by (λ (p : Port). p.name) n m.ports is in
    ap (λ (x : List ℕ). test (names_of m x)) f.3 ∙ ap test (port_named m f.0 distinct f.1) ∙ sym (same f.0) ∙ f.2

local_is : (m : ModuleTree) → AreDistinct (map entry_name (entries m)) → (test : Option Entry → Bool) (by : Local → Bool) → ((l : Local) → by l ≡ test (Some (local l))) → (n : List ℕ) →
    IsIn n (selected by (λ (l : Local). l.name) m.locals) → test (names_of m n) ≡ true
local_is m distinct test by same n is =
    let f = selected_in by (λ (l : Local). l.name) n m.locals is in
    ap (λ (x : List ℕ). test (names_of m x)) f.3 ∙ ap test (local_named m f.0 distinct f.1) ∙ sym (same f.0) ∙ f.2

pub said_count : (seen : Seen) (m : ModuleTree) → IsClean seen m → (n : List ℕ) → name_count n (out_names m.ports) + name_count n (var_names m.locals) ≡ when (said_entry (names_of m n)) 1
said_count seen m clean n =
    let distinct = are_distinct m clean.doubled in
    let once = names_once m clean.doubled n in
    let few = selected_few (λ (p : Port). is_outward p.way) (λ (p : Port). p.name) n m.ports in
    let fewer = selected_few (λ (l : Local). is_variable l.kind) (λ (l : Local). l.name) n m.locals in
    exact (said_entry (names_of m n)) (name_count n (out_names m.ports) + name_count n (var_names m.locals)) (omega arith)
    (λ said. elim (said_where m n (names_of m n) refl said) [
      | inl out ↦ let h = present_count n (out_names m.ports) out in omega arith
      | inr var ↦ let h = present_count n (var_names m.locals) var in omega arith
    ])
    (λ some. elim (either_some (name_count n (out_names m.ports)) (name_count n (var_names m.locals)) some) [
      | inl out ↦ port_is m distinct said_entry (λ (p : Port). is_outward p.way) (λ p. refl) n (counted_in n (out_names m.ports) out)
      | inr var ↦ local_is m distinct said_entry (λ (l : Local). is_variable l.kind) (λ l. refl) n (counted_in n (var_names m.locals) var)
    ])

pub pad_count : (seen : Seen) (m : ModuleTree) → IsClean seen m → (n : List ℕ) → name_count n (inout_names m.ports) ≡ when (pad_entry (names_of m n)) 1
pad_count seen m clean n =
    let distinct = are_distinct m clean.doubled in
    let once = names_once m clean.doubled n in
    let few = selected_few (λ (p : Port). is_both p.way) (λ (p : Port). p.name) n m.ports in
    exact (pad_entry (names_of m n)) (name_count n (inout_names m.ports)) (omega arith)
    (λ said. present_count n (inout_names m.ports) (pad_where m n (names_of m n) refl said))
    (λ some. port_is m distinct pad_entry (λ (p : Port). is_both p.way) (λ p. refl) n (counted_in n (inout_names m.ports) some))

pub stored_count : (seen : Seen) (m : ModuleTree) → IsClean seen m → (n : List ℕ) → name_count n (reg_names m.locals) ≡ when (stored_entry (names_of m n)) 1
stored_count seen m clean n =
    let distinct = are_distinct m clean.doubled in
    let once = names_once m clean.doubled n in
    let few = selected_few (λ (l : Local). is_register_kind l.kind) (λ (l : Local). l.name) n m.locals in
    exact (stored_entry (names_of m n)) (name_count n (reg_names m.locals)) (omega arith)
    (λ said. present_count n (reg_names m.locals) (stored_where m n (names_of m n) refl said))
    (λ some. local_is m distinct stored_entry (λ (l : Local). is_register_kind l.kind) (λ l. refl) n (counted_in n (reg_names m.locals) some))

-- the names of registers
register_one : (k : LocalKind) (name : List ℕ) → name_of_register k name ≡ one_kept (is_register_kind k) name
register_one (Reg clock type) name = refl
register_one (Var type) name = refl
register_one (Inst of) name = refl

pub registers_are : (ls : List Local) → register_names ls ≡ reg_names ls
registers_are [] = refl
registers_are (l ∷ ls) = ap₂ (λ (x y : List (List ℕ)). x ++ y) (register_one l.kind l.name) (registers_are ls)

pub is_register : (m : ModuleTree) → AreDistinct (map entry_name (entries m)) → (n : List ℕ) → is_among (register_names m.locals) n ≡ stored_entry (names_of m n)
is_register m distinct n = elim (cases_Bool (is_among (register_names m.locals) n)) [
  | inl listed ↦ listed ∙ sym (local_is m distinct stored_entry (λ (l : Local). is_register_kind l.kind) (λ l. refl) n (subst (λ (ns : List (List ℕ)). IsIn n ns) (registers_are m.locals) (is_in n (register_names m.locals) listed)))
  | inr absent ↦ absent ∙ elim (cases_Bool (stored_entry (names_of m n))) [
    | inl stored ↦ absurd (not_both (among n (register_names m.locals) (subst (λ (ns : List (List ℕ)). IsIn n ns) (sym (registers_are m.locals)) (stored_where m n (names_of m n) refl stored))) absent)
    | inr other ↦ sym other
  ]
]

-- what is assigned is a register or of the first class
out_by : (w : Way) (test : Option Shape → Bool) (s : Shape) → test None ≡ false → test (cond (is_outward w) (Some s) None) ≡ true → is_outward w ≡ true
out_by Inward test s no_none is = absurd (not_both is no_none)
out_by Outward test s no_none is = refl
out_by Both test s no_none is = absurd (not_both is no_none)

kind_set : (k : LocalKind) (test : Option Shape → Bool) → test None ≡ false → test (kind_shape k) ≡ true → is_variable k ≡ not (is_register_kind k)
kind_set (Reg clock type) test no_none is = refl
kind_set (Var type) test no_none is = refl
kind_set (Inst of) test no_none is = absurd (not_both is no_none)

set_is : (e : Entry) (test : Option Shape → Bool) → test None ≡ false → test (assigned_shape e) ≡ true → said_entry (Some e) ≡ not (stored_entry (Some e))
set_is (port p) test no_none is = out_by p.way test p.shape no_none is
set_is (constant c) test no_none is = absurd (not_both is no_none)
set_is (local l) test no_none is = kind_set l.kind test no_none is

pub assigned_said : (at : ℕ) (name : List ℕ) (o : Option Entry) → use_faults use_.Assigned at name o ≡ [] → said_entry o ≡ not (stored_entry o)
assigned_said at name o none = let s = suited use_.Assigned at name o none in ap said_entry s.1 ∙ set_is s.0 is_vector refl s.2 ∙ ap (λ (x : Option Entry). not (stored_entry x)) (sym s.1)

pub element_said : (at : ℕ) (name : List ℕ) (o : Option Entry) → use_faults use_.ElementAssigned at name o ≡ [] → said_entry o ≡ not (stored_entry o)
element_said at name o none = let s = suited use_.ElementAssigned at name o none in ap said_entry s.1 ∙ set_is s.0 is_array refl s.2 ∙ ap (λ (x : Option Entry). not (stored_entry x)) (sym s.1)

pub said_must : (names : Names) (n : List ℕ) → said_entry (names n) ≡ true → must_entry (names n) ≡ true
said_must names n e = (only_said (names n) e).3

pub pad_must : (names : Names) (n : List ℕ) → pad_entry (names n) ≡ true → must_entry (names n) ≡ true
pad_must names n e = (only_pad (names n) e).3

pub called_must : (names : Names) (n : List ℕ) → instance_entry (names n) ≡ true → must_entry (names n) ≡ true
called_must names n e = (only_called (names n) e).3

pub register_must : (names : Names) (n : List ℕ) → stored_entry (names n) ≡ true → must_entry (names n) ≡ true
register_must names n e = stored_must (names n) e
