-- The clock of a well sized module is an IN port, and the pins of a module that are clocks are inward.
use Rattle.std.proofs.Common.{◌≡◌, ℕ, Bool, true, false, cond, List, [], ◌∷◌, Option, Some, None, refl, sym, ap, ◌∙◌, subst, inl, inr}
use Rattle.std.specs.Prelude.{bytes_eq}
use Rattle.std.specs.List.{AllByRecursion}
use Rattle.std.proofs.lemmas.Bool.{cases_Bool, and_parts}
use Rattle.lola_bits.specs.Lists.{IsIn}
use Rattle.lola_bits.proofs.Names.{is_same_name}
use Rattle.lola_tree.specs.declared.named.Ref.{Ref}
use Rattle.lola_tree.specs.declared.module.Way.{Way}
use Rattle.lola_tree.specs.declared.module.Way.TheVariants.{Inward, Outward, Both}
use Rattle.lola_tree.specs.declared.module.Port.{Port}
use Rattle.lola_tree.specs.declared.module.LocalKind.{LocalKind}
use Rattle.lola_tree.specs.declared.module.LocalKind.TheVariants.{Reg, Var, Inst}
use Rattle.lola_tree.specs.declared.module.Local.{Local}
use Rattle.lola_tree.specs.Tree.{Tree, ActualTree, StmtTree, assignment, call, pad, ModuleTree}
use Rattle.lola_tree.specs.Names.{Entry, port, constant, local, Names, names_of, ref_name}
use Rattle.lola_tree.specs.Signals.{is_inward}
use Rattle.lola_width.specs.declared.interface.Pin.{Pin}
use Rattle.lola_width.specs.Interface.{Seen, or_first, instance_pins, listed, first_pin, later_pins, is_bit, is_clock_port, clock_named, kind_clock, locals_clock, bare_name, bare_clock, arg_clock, args_clock, stmt_clock, body_clock, is_clock, pins_of}
use Rattle.lola_width.specs.Sized.{clock_in, pins_in}
use Rattle.lola_regular.specs.Clocked.{seen_behind}
use Rattle.lola_regular.proofs.Clean.{IsClean, AllClean, seen_here, seen_further}
use Rattle.lola_regular.proofs.Named.{are_distinct, port_named, port_found}

-- the name that is a clock may be one
abbrev MayBe : Names → Option (List ℕ) → Type 0
MayBe names o = (c : List ℕ) → o ≡ Some c → is_clock_port names (names c) ≡ true

first_may : (names : Names) (a b : Option (List ℕ)) → MayBe names a → MayBe names b → MayBe names (or_first a b)
first_may names None b p q = q
first_may names (Some x) b p q = p

none_may : (names : Names) → MayBe names None
none_may names c e = absurd (cc)

cond_may : (names : Names) (b : Bool) (n : List ℕ) → (b ≡ true → is_clock_port names (names n) ≡ true) → MayBe names (cond b (Some n) None)
cond_may names true n p c e = let same : n ≡ c = cc in subst (λ (k : List ℕ). is_clock_port names (names k) ≡ true) same (p refl)
cond_may names false n p c e = absurd (cc)

named_may : (names : Names) (n : List ℕ) → MayBe names (clock_named names n)
named_may names n = cond_may names (is_clock_port names (names n)) n (λ e. e)

kind_may : (names : Names) (k : LocalKind) → MayBe names (kind_clock names k)
kind_may names (Reg clock type) = named_may names clock.name
kind_may names (Var type) = none_may names
kind_may names (Inst of) = none_may names

locals_may : (names : Names) (ls : List Local) → MayBe names (locals_clock names ls)
locals_may names [] = none_may names
locals_may names (l ∷ ls) = first_may names (kind_clock names l.kind) (locals_clock names ls) (kind_may names l.kind) (locals_may names ls)

bare_may : (names : Names) (r : Option Ref) → MayBe names (bare_clock names r)
bare_may names None = none_may names
bare_may names (Some of) = named_may names (ref_name of)

pick_may : (names : Names) (b : Bool) (o : Option (List ℕ)) → MayBe names o → MayBe names (cond b o None)
pick_may names true o p = p
pick_may names false o p = none_may names

arg_may : (names : Names) (pin : Option Pin) (e : Tree) → MayBe names (arg_clock names pin e)
arg_may names None e = none_may names
arg_may names (Some pin) e = pick_may names pin.clock (bare_clock names (bare_name e)) (bare_may names (bare_name e))

args_may : (names : Names) (args : List ActualTree) (pins : List Pin) → MayBe names (args_clock names args pins)
args_may names [] pins = none_may names
args_may names (a ∷ args) pins =
    first_may names (arg_clock names (first_pin pins) a.value) (args_clock names args (later_pins pins)) (arg_may names (first_pin pins) a.value) (args_may names args (later_pins pins))

stmt_may : (names : Names) (seen : Seen) (t : StmtTree) → MayBe names (stmt_clock names seen t)
stmt_may names seen (assignment name place value at equals) = none_may names
stmt_may names seen (call name args at) = args_may names args (listed (instance_pins seen (names name)))
stmt_may names seen (pad io inner value release at) = none_may names

body_may : (names : Names) (seen : Seen) (ts : List StmtTree) → MayBe names (body_clock names seen ts)
body_may names seen [] = none_may names
body_may names seen (t ∷ ts) = first_may names (stmt_clock names seen t) (body_clock names seen ts) (stmt_may names seen t) (body_may names seen ts)

module_may : (seen : Seen) (m : ModuleTree) → MayBe (names_of m) (clock_in seen m)
module_may seen m = first_may (names_of m) (locals_clock (names_of m) m.locals) (body_clock (names_of m) seen m.body) (locals_may (names_of m) m.locals) (body_may (names_of m) seen m.body)

-- a name that may be a clock is an IN port
pub is_in_way : (w : Way) → is_inward w ≡ true → w ≡ Inward
is_in_way Inward e = refl
is_in_way Outward e = absurd (cc)
is_in_way Both e = absurd (cc)

entry_inward : (m : ModuleTree) (c : List ℕ) (o : Option Entry) → names_of m c ≡ o → is_clock_port (names_of m) o ≡ true → (p : Port) × IsIn p m.ports × (c ≡ p.name) × (p.way ≡ Inward)
entry_inward m c None is e = absurd (cc)
entry_inward m c (Some (port p)) is e =
    let two = and_parts (is_inward p.way) (is_bit (names_of m) p.shape) e in
    let f = port_found m c p is in
    (p, f.0, f.1, is_in_way p.way two.0)
entry_inward m c (Some (constant k)) is e = absurd (cc)
entry_inward m c (Some (local l)) is e = absurd (cc)

pub clock_port_is : (seen : Seen) (m : ModuleTree) (c : List ℕ) → clock_in seen m ≡ Some c → (p : Port) × IsIn p m.ports × (c ≡ p.name) × (p.way ≡ Inward)
clock_port_is seen m c is = entry_inward m c (names_of m c) refl (module_may seen m c is)

pub is_the_clock : (clock : Option (List ℕ)) (name : List ℕ) → is_clock clock name ≡ true → clock ≡ Some name
is_the_clock None name e = absurd (cc)
is_the_clock (Some c) name e = ap (λ (n : List ℕ). Some n) (is_same_name c name e)

-- a port with the name of the clock is inward
pub clock_inward : (seen : Seen) (m : ModuleTree) → IsClean seen m → (p : Port) → IsIn p m.ports → is_clock (clock_in seen m) p.name ≡ true → p.way ≡ Inward
clock_inward seen m clean p is e =
    let q = clock_port_is seen m p.name (is_the_clock (clock_in seen m) p.name e) in
    let distinct = are_distinct m clean.doubled in
    let both : Some (port p) ≡ Some (port q.0) = sym (port_named m p distinct is) ∙ (ap (names_of m) q.2 ∙ port_named m q.0 distinct q.1) in
    let same : p ≡ q.0 = cc in
    ap (λ (k : Port). k.way) same ∙ q.3

-- pins that are clocks are inward
abbrev pub IsGoodPin : Pin → Type 0
IsGoodPin pin = pin.clock ≡ true → pin.way ≡ Inward

abbrev pub GoodPins : List Pin → Type 0
GoodPins pins = AllByRecursion IsGoodPin pins

abbrev pub GoodSeen : Seen → Type 0
GoodSeen seen = (name : List ℕ) → GoodPins (listed (seen name))

ports_good : (names : Names) (clock : Option (List ℕ)) (ports : List Port) → ((p : Port) → IsIn p ports → is_clock clock p.name ≡ true → p.way ≡ Inward) → GoodPins (pins_of names clock ports)
ports_good names clock [] each = tt
ports_good names clock (p ∷ ports) each = (each p (inl refl), ports_good names clock ports (λ q is. each q (inr is)))

pub pins_good : (seen : Seen) (m : ModuleTree) → IsClean seen m → GoodPins (pins_in seen m)
pins_good seen m clean = ports_good (names_of m) (clock_in seen m) m.ports (clock_inward seen m clean)

pub seen_good : (earlier : List ModuleTree) → AllClean earlier → GoodSeen (seen_behind earlier)
seen_good [] clean name = tt
seen_good (m ∷ earlier) clean name = elim (cases_Bool (bytes_eq m.name name)) [
  | inl same ↦ subst (λ (o : Option (List Pin)). GoodPins (listed o)) (sym (seen_here m earlier name clean same)) (pins_good (seen_behind earlier) m clean.0)
  | inr other ↦ subst (λ (o : Option (List Pin)). GoodPins (listed o)) (sym (seen_further m earlier name other)) (seen_good earlier clean.1 name)
]
