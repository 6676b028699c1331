-- The clock of a well sized module.
use Rattle.std.proofs.Common.{◌≡◌, ℕ, Bool, true, false, cond, List, [], ◌∷◌, ◌++◌, map, Option, Some, None, refl, sym, ap, ◌∙◌, subst, inl, inr}
use Rattle.std.specs.Prelude.{◌&&◌}
use Rattle.lola_bits.specs.Lists.{IsIn}
use Rattle.lola_bits.proofs.Names.{is_same_name}
use Rattle.lola_bits.proofs.Lists.{in_either, from_map, both_none}
use Rattle.lola_bits.proofs.Tests.{none_unless}
use Rattle.lola_tree.specs.declared.named.Ref.{Ref}
use Rattle.lola_tree.specs.declared.named.Shape.{Shape}
use Rattle.lola_tree.specs.declared.named.Shape.TheVariants as shape
use Rattle.lola_tree.specs.declared.module.Way.{Way}
use Rattle.lola_tree.specs.declared.module.Way.TheVariants.{Inward, Outward, Both}
use Rattle.lola_tree.specs.declared.module.Port.{Port}
use Rattle.lola_tree.specs.declared.module.LocalKind.{LocalKind}
use Rattle.lola_tree.specs.declared.module.LocalKind.TheVariants.{Reg, Var, Inst}
use Rattle.lola_tree.specs.declared.module.Local.{Local}
use Rattle.lola_tree.specs.Tree.{Tree, ActualTree, StmtTree, assignment, call, pad, ModuleTree}
use Rattle.lola_tree.specs.Names.{Entry, port, constant, local, entries, Names, names_of, count_number, ref_name}
use Rattle.lola_tree.specs.Width.{checked_width, vector_width}
use Rattle.lola_tree.specs.Signals.{is_inward}
use Rattle.lola_tree.specs.Cycle.{IsRegisterOf}
use Rattle.lola_width.specs.declared.interface.Pin.{Pin}
use Rattle.lola_width.specs.Interface.{Seen, or_first, instance_pins, listed, first_pin, later_pins, is_one, is_bit, is_clock_port, clock_named, kind_clock, locals_clock, bare_name, bare_clock, arg_clock, args_clock, stmt_clock, body_clock, module_clock, is_clock}
use Rattle.lola_width.specs.NameFaults.{no_clock, type_faults, kind_faults, local_faults}
use Rattle.lola_elab.specs.Small.{wide_in}
use Rattle.lola_elab.proofs.Tables.{first_in}
use Rattle.lola_elab.proofs.Widths.{equal_is}

-- the name that is a clock may be one
abbrev MayBe : Names → Option (List ℕ) → Type 0
MayBe names o = (c : List ℕ) → o ≡ Some c → is_clock_port names (names c) ≡ true

first_may : (names : Names) (a b : Option (List ℕ)) → MayBe names a → MayBe names b → MayBe names (or_first a b)
first_may names None b p q = q
first_may names (Some x) b p q = p

none_may : (names : Names) → MayBe names None
none_may names c e = absurd (cc)

cond_may : (names : Names) (b : Bool) (n : List ℕ) → (b ≡ true → is_clock_port names (names n) ≡ true) → MayBe names (cond b (Some n) None)
cond_may names true n p c e = let same : n ≡ c = cc in subst (λ (k : List ℕ). is_clock_port names (names k) ≡ true) same (p refl)
cond_may names false n p c e = absurd (cc)

named_may : (names : Names) (n : List ℕ) → MayBe names (clock_named names n)
named_may names n = cond_may names (is_clock_port names (names n)) n (λ e. e)

kind_may : (names : Names) (k : LocalKind) → MayBe names (kind_clock names k)
kind_may names (Reg clock type) = named_may names clock.name
kind_may names (Var type) = none_may names
kind_may names (Inst of) = none_may names

locals_may : (names : Names) (ls : List Local) → MayBe names (locals_clock names ls)
locals_may names [] = none_may names
locals_may names (l ∷ ls) = first_may names (kind_clock names l.kind) (locals_clock names ls) (kind_may names l.kind) (locals_may names ls)

bare_may : (names : Names) (r : Option Ref) → MayBe names (bare_clock names r)
bare_may names None = none_may names
bare_may names (Some of) = named_may names (ref_name of)

pick_may : (names : Names) (b : Bool) (o : Option (List ℕ)) → MayBe names o → MayBe names (cond b o None)
pick_may names true o p = p
pick_may names false o p = none_may names

arg_may : (names : Names) (pin : Option Pin) (e : Tree) → MayBe names (arg_clock names pin e)
arg_may names None e = none_may names
arg_may names (Some pin) e = pick_may names pin.clock (bare_clock names (bare_name e)) (bare_may names (bare_name e))

args_may : (names : Names) (args : List ActualTree) (pins : List Pin) → MayBe names (args_clock names args pins)
args_may names [] pins = none_may names
args_may names (a ∷ args) pins =
    first_may names (arg_clock names (first_pin pins) a.value) (args_clock names args (later_pins pins)) (arg_may names (first_pin pins) a.value) (args_may names args (later_pins pins))

stmt_may : (names : Names) (seen : Seen) (t : StmtTree) → MayBe names (stmt_clock names seen t)
stmt_may names seen (assignment name place value at equals) = none_may names
stmt_may names seen (call name args at) = args_may names args (listed (instance_pins seen (names name)))
stmt_may names seen (pad io inner value release at) = none_may names

body_may : (names : Names) (seen : Seen) (ts : List StmtTree) → MayBe names (body_clock names seen ts)
body_may names seen [] = none_may names
body_may names seen (t ∷ ts) = first_may names (stmt_clock names seen t) (body_clock names seen ts) (stmt_may names seen t) (body_may names seen ts)

module_may : (names : Names) (seen : Seen) (m : ModuleTree) → MayBe names (module_clock names seen m)
module_may names seen m = first_may names (locals_clock names m.locals) (body_clock names seen m.body) (locals_may names m.locals) (body_may names seen m.body)

-- a name that may be a clock is an IN port of one bit
pub record IsClockPort (m : ModuleTree) (c : List ℕ) : Type 0 where
  pub port : Port
  pub declared : IsIn port m.ports
  pub inward : port.way ≡ Inward
  pub named : c ≡ port.name
  pub wide : wide_in m port.shape ≡ Some 1

is_in_way : (w : Way) → is_inward w ≡ true → w ≡ Inward
is_in_way Inward e = refl
is_in_way Outward e = absurd (cc)
is_in_way Both e = absurd (cc)

and_both : (a b : Bool) → (a && b) ≡ true → (a ≡ true) × (b ≡ true)
and_both true b e = (refl, e)
and_both false b e = absurd (cc)

one_wide : (o : Option ℕ) → is_one o ≡ true → checked_width o ≡ Some 1
one_wide None e = absurd (cc)
one_wide (Some n) e = let same : n ≡ 1 = equal_is n 1 e in ap (λ (k : ℕ). checked_width (Some k)) same

bit_wide : (names : Names) (type : Shape) → is_bit names type ≡ true → vector_width names (Some type) ≡ Some 1
bit_wide names (shape.Vector width) e = one_wide (count_number names width) e
bit_wide names (shape.Array count width) e = absurd (cc)

pub port_in : (m : ModuleTree) (p : Port) → IsIn (port p) (entries m) → IsIn p m.ports
port_in m p is = elim (in_either (port p) (map port m.ports) (map constant m.consts ++ map local m.locals) is) [
  | inl ports ↦
      let f = from_map port (port p) m.ports ports in
      let g : port p ≡ port f.0 = f.2 in
      let same : p ≡ f.0 = cc in
      subst (λ (k : Port). IsIn k m.ports) (sym same) f.1
  | inr more ↦ elim (in_either (port p) (map constant m.consts) (map local m.locals) more) [
    | inl consts ↦ let f = from_map constant (port p) m.consts consts in absurd (let g : port p ≡ constant f.0 = f.2 in cc)
    | inr locals ↦ let f = from_map local (port p) m.locals locals in absurd (let g : port p ≡ local f.0 = f.2 in cc)
  ]
]

entry_port : (m : ModuleTree) (c : List ℕ) (o : Option Entry) → names_of m c ≡ o → is_clock_port (names_of m) o ≡ true → IsClockPort m c
entry_port m c None is e = absurd (cc)
entry_port m c (Some (port p)) is e =
    let two = and_both (is_inward p.way) (is_bit (names_of m) p.shape) e in
    let f = first_in (entries m) c (port p) is in
    record { port = p; declared = port_in m p f.0; inward = is_in_way p.way two.0; named = f.1; wide = bit_wide (names_of m) p.shape two.1 }
entry_port m c (Some (constant k)) is e = absurd (cc)
entry_port m c (Some (local l)) is e = absurd (cc)

pub clock_is_port : (m : ModuleTree) (seen : Seen) (c : List ℕ) → module_clock (names_of m) seen m ≡ Some c → IsClockPort m c
clock_is_port m seen c is = entry_port m c (names_of m c) refl (module_may (names_of m) seen m c is)

-- the clock behind each REG is the module's
is_the_clock : (clock : Option (List ℕ)) (name : List ℕ) → is_clock clock name ≡ true → clock ≡ Some name
is_the_clock None name e = absurd (cc)
is_the_clock (Some c) name e = ap (λ (n : List ℕ). Some n) (is_same_name c name e)

named_clock : (names : Names) (clock : Option (List ℕ)) (at : ℕ) (name : List ℕ) (o : Option Entry) → no_clock names clock at name o ≡ [] → clock ≡ Some name
named_clock names clock at name None none = absurd (cc)
named_clock names clock at name (Some e) none = is_the_clock clock name (none_unless (is_clock clock name) _ none)

local_fault_free : (names : Names) (seen : Seen) (clock : Option (List ℕ)) (ls : List Local) → local_faults names seen clock ls ≡ [] →
    (l : Local) → IsIn l ls → kind_faults names seen clock l.at l.name l.kind ≡ []
local_fault_free names seen clock [] none l is = absurd is
local_fault_free names seen clock (k ∷ ls) none l is =
    let one = both_none (kind_faults names seen clock k.at k.name k.kind) (local_faults names seen clock ls) none in
    elim is [
      | inl same ↦ subst (λ (x : Local). kind_faults names seen clock x.at x.name x.kind ≡ []) (sym same) one.0
      | inr later ↦ local_fault_free names seen clock ls one.1 l later
    ]

pub register_clock : (m : ModuleTree) (seen : Seen) (clock : Option (List ℕ)) → local_faults (names_of m) seen clock m.locals ≡ [] →
    (name c : List ℕ) (type : Shape) → IsRegisterOf m name c type → clock ≡ Some c
register_clock m seen clock none name c type r =
    let free = local_fault_free (names_of m) seen clock m.locals none r.local r.declared in
    let free' = subst (λ (k : LocalKind). kind_faults (names_of m) seen clock r.local.at r.local.name k ≡ []) r.kind free in
    let one = both_none (no_clock (names_of m) clock r.under.at r.under.name (names_of m r.under.name)) (type_faults (names_of m) true r.local.at r.local.name type) free' in
    named_clock (names_of m) clock r.under.at r.under.name (names_of m r.under.name) one.0 ∙ ap (λ (n : List ℕ). Some n) (sym r.clocked)
