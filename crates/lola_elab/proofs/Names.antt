-- The names of a module by what they stand for.
use Rattle.std.proofs.Common.{◌≡◌, ℕ, true, false, not, ◌&&◌, List, [], ◌∷◌, ◌++◌, refl, sym, ◌∙◌, ap, subst, inl, inr}
use Rattle.std.proofs.lemmas.Bool.{false≢true, and_parts, and_from, not-true, not_from_false}
use Rattle.lola_bits.specs.Lists.{IsIn, AreDistinct}
use Rattle.lola_bits.specs.Names.{is_among}
use Rattle.lola_bits.proofs.Lists.{to_map, from_map, in_filter, from_filter, in_front, in_back, in_either, same_item, distinct_front, distinct_back, apart}
use Rattle.lola_bits.proofs.Names.{among, not_among}
use Rattle.lola_tree.specs.declared.named.Named.{Named}
use Rattle.lola_tree.specs.declared.named.Shape.{Shape}
use Rattle.lola_tree.specs.declared.module.Way.{Way}
use Rattle.lola_tree.specs.declared.module.Way.TheVariants.{Inward, Outward, Both}
use Rattle.lola_tree.specs.declared.module.Port.{Port}
use Rattle.lola_tree.specs.declared.module.LocalKind.{LocalKind}
use Rattle.lola_tree.specs.declared.module.LocalKind.TheVariants.{Reg, Var, Inst}
use Rattle.lola_tree.specs.declared.module.Local.{Local}
use Rattle.lola_tree.specs.Tree.{ModuleTree}
use Rattle.lola_tree.specs.Cycle.{IsRegisterOf, IsInputOf}
use Rattle.lola_tree.specs.Signals.{clock_of, clock_names, is_inward, input_names, name_of_register, register_names}
use Rattle.lola_tree.specs.declared.module.Const.{Const}
use Rattle.lola_elab.specs.Small.{IsTarget}
use Rattle.lola_elab.specs.Declares.{port_names, const_names, local_names}

-- a local that is a register, by its name
pub record IsRegisterIn (locals : List Local) (name : List ℕ) : Type 0 where
  pub local : Local
  pub clock : Named
  pub type : Shape
  pub declared : IsIn local locals
  pub kind : local.kind ≡ Reg clock type
  pub named : name ≡ local.name

of_kind : (kind : LocalKind) (name own : List ℕ) → IsIn name (name_of_register kind own) → (clock : Named) × (type : Shape) × (kind ≡ Reg clock type) × (name ≡ own)
of_kind (Reg clock type) name own (inl same) = (clock, type, refl, same)
of_kind (Reg clock type) name own (inr more) = absurd more
of_kind (Var type) name own is = absurd is
of_kind (Inst of) name own is = absurd is

to_kind : (kind : LocalKind) (clock : Named) (type : Shape) (own : List ℕ) → kind ≡ Reg clock type → IsIn own (name_of_register kind own)
to_kind kind clock type own e = rw e (inl refl)

register_in : (locals : List Local) (name : List ℕ) → IsIn name (register_names locals) → IsRegisterIn locals name
register_in [] name is = absurd is
register_in (l ∷ ls) name is = elim (in_either name (name_of_register l.kind l.name) (register_names ls) is) [
  | inl here ↦ let r = of_kind l.kind name l.name here in record { local = l; clock = r.0; type = r.1; declared = inl refl; kind = r.2; named = r.3 }
  | inr later ↦ let r = register_in ls name later in record { local = r.local; clock = r.clock; type = r.type; declared = inr r.declared; kind = r.kind; named = r.named }
]

register_among : (locals : List Local) (local : Local) (clock : Named) (type : Shape) → IsIn local locals → local.kind ≡ Reg clock type → IsIn local.name (register_names locals)
register_among [] local clock type is e = absurd is
register_among (l ∷ ls) local clock type (inl same) e =
    in_front local.name (name_of_register l.kind l.name) (register_names ls)
    (subst (λ (k : Local). IsIn local.name (name_of_register k.kind k.name)) same (to_kind local.kind clock type local.name e))
register_among (l ∷ ls) local clock type (inr later) e = in_back local.name (name_of_register l.kind l.name) (register_names ls) (register_among ls local clock type later e)

-- the registers of a module are the names that are listed
pub is_register : (m : ModuleTree) (name : List ℕ) → IsIn name (register_names m.locals) → (clock : List ℕ) × (type : Shape) × IsRegisterOf m name clock type
is_register m name is =
    let r = register_in m.locals name is in
    (r.clock.name, r.type, record { local = r.local; under = r.clock; declared = r.declared; kind = r.kind; named = r.named; clocked = refl })

pub register_listed : (m : ModuleTree) (name clock : List ℕ) (type : Shape) → IsRegisterOf m name clock type → IsIn name (register_names m.locals)
register_listed m name clock type r = subst (λ (n : List ℕ). IsIn n (register_names m.locals)) (sym r.named) (register_among m.locals r.local r.under type r.declared r.kind)

-- the clocks are the names that registers have as theirs
of_clock : (kind : LocalKind) (name : List ℕ) → IsIn name (clock_of kind) → (clock : Named) × (type : Shape) × (kind ≡ Reg clock type) × (name ≡ clock.name)
of_clock (Reg clock type) name (inl same) = (clock, type, refl, same)
of_clock (Reg clock type) name (inr more) = absurd more
of_clock (Var type) name is = absurd is
of_clock (Inst of) name is = absurd is

to_clock : (kind : LocalKind) (clock : Named) (type : Shape) → kind ≡ Reg clock type → IsIn clock.name (clock_of kind)
to_clock kind clock type e = rw e (inl refl)

clock_in : (locals : List Local) (name : List ℕ) → IsIn name (clock_names locals) → (local : Local) × (clock : Named) × (type : Shape) × IsIn local locals × (local.kind ≡ Reg clock type) × (name ≡ clock.name)
clock_in [] name is = absurd is
clock_in (l ∷ ls) name is = elim (in_either name (clock_of l.kind) (clock_names ls) is) [
  | inl here ↦ let r = of_clock l.kind name here in (l, r.0, r.1, inl refl, r.2, r.3)
  | inr later ↦ let r = clock_in ls name later in (r.0, r.1, r.2, inr r.3, r.4, r.5)
]

clock_among : (locals : List Local) (local : Local) (clock : Named) (type : Shape) → IsIn local locals → local.kind ≡ Reg clock type → IsIn clock.name (clock_names locals)
clock_among [] local clock type is e = absurd is
clock_among (l ∷ ls) local clock type (inl same) e =
    in_front clock.name (clock_of l.kind) (clock_names ls) (to_clock l.kind clock type (ap (λ (k : Local). k.kind) (sym same) ∙ e))
clock_among (l ∷ ls) local clock type (inr later) e = in_back clock.name (clock_of l.kind) (clock_names ls) (clock_among ls local clock type later e)

-- a way that is inward
inward : (way : Way) → is_inward way ≡ true → way ≡ Inward
inward Inward e = refl
inward Outward e = absurd (false≢true e)
inward Both e = absurd (false≢true e)

-- the inputs of a module are the names that are listed
pub is_input : (m : ModuleTree) (name : List ℕ) → IsIn name (input_names m) → (type : Shape) × IsInputOf m name type
is_input m name is =
    let found = from_map (λ (p : Port). p.name) name _ is in
    let p = found.0 in
    let kept = from_filter (λ (p : Port). is_inward p.way && not (is_among (clock_names m.locals) p.name)) p m.ports found.1 in
    let parts = and_parts (is_inward p.way) (not (is_among (clock_names m.locals) p.name)) kept.1 in
    let no_clock : (register : List ℕ) (other : Shape) → IsRegisterOf m register name other → ⊥ = λ register other r.
    let listed : IsIn r.under.name (clock_names m.locals) = clock_among m.locals r.local r.under other r.declared r.kind in
    let there : is_among (clock_names m.locals) p.name ≡ true = among p.name (clock_names m.locals) (subst (λ (n : List ℕ). IsIn n (clock_names m.locals)) (sym r.clocked ∙ found.2) listed) in
    false≢true (sym (not-true (is_among (clock_names m.locals) p.name) parts.1) ∙ there) in
    (p.shape, record { port = p; declared = kept.0; inward = inward p.way parts.0; named = found.2; typed = refl; no_clock = no_clock })

pub input_listed : (m : ModuleTree) (name : List ℕ) (type : Shape) → IsInputOf m name type → IsIn name (input_names m)
input_listed m name type i =
    let p = i.port in
    let off : is_among (clock_names m.locals) p.name ≡ false = not_among p.name (clock_names m.locals) (λ is.
    let r = clock_in m.locals p.name is in
    i.no_clock r.0.name r.2 (record { local = r.0; under = r.1; declared = r.3; kind = r.4; named = refl; clocked = i.named ∙ r.5 })) in
    let kept : IsIn p _ = in_filter (λ (p : Port). is_inward p.way && not (is_among (clock_names m.locals) p.name)) p m.ports i.declared
    (and_from (is_inward p.way) (not (is_among (clock_names m.locals) p.name)) (ap is_inward i.inward) (not_from_false (is_among (clock_names m.locals) p.name) off)) in
    subst (λ (n : List ℕ). IsIn n (input_names m)) (sym i.named) (to_map (λ (p : Port). p.name) p _ kept)

-- the names of ports, constants and locals
abbrev pub all_names : ModuleTree → List (List ℕ)
all_names m = port_names m.ports ++ (const_names m.consts ++ local_names m.locals)

-- an input is no target
pub input_no_target : (m : ModuleTree) (name : List ℕ) (type : Shape) → AreDistinct (all_names m) → IsInputOf m name type → IsTarget m name → ⊥
input_no_target m name type distinct i (inl (p, declared, outward, named)) =
    let front = distinct_front (port_names m.ports) (const_names m.consts ++ local_names m.locals) distinct in
    let one : i.port ≡ p = same_item (λ (p : Port). p.name) i.port p m.ports front i.declared declared (sym i.named ∙ named) in
    let both : Inward ≡ Outward = sym i.inward ∙ ap (λ (p : Port). p.way) one ∙ outward in
    cc
input_no_target m name type distinct i (inr (clock, other, r)) =
    apart name (port_names m.ports) (const_names m.consts ++ local_names m.locals) distinct
    (subst (λ (n : List ℕ). IsIn n (port_names m.ports)) (sym i.named) (to_map (λ (p : Port). p.name) i.port m.ports i.declared))
    (in_back name (const_names m.consts) (local_names m.locals) (subst (λ (n : List ℕ). IsIn n (local_names m.locals)) (sym r.named) (to_map (λ (l : Local). l.name) r.local m.locals r.declared)))

-- an OUT port is no register
pub output_no_register : (m : ModuleTree) (p : Port) (clock : List ℕ) (type : Shape) → AreDistinct (all_names m) → IsIn p m.ports → IsRegisterOf m p.name clock type → ⊥
output_no_register m p clock type distinct declared r =
    apart p.name (port_names m.ports) (const_names m.consts ++ local_names m.locals) distinct
    (to_map (λ (p : Port). p.name) p m.ports declared)
    (in_back p.name (const_names m.consts) (local_names m.locals) (subst (λ (n : List ℕ). IsIn n (local_names m.locals)) (sym r.named) (to_map (λ (l : Local). l.name) r.local m.locals r.declared)))

-- a constant is no port and no local
pub const_no_register : (m : ModuleTree) (c : Const) (clock : List ℕ) (type : Shape) → AreDistinct (all_names m) → IsIn c m.consts → IsRegisterOf m c.name clock type → ⊥
const_no_register m c clock type distinct declared r =
    apart c.name (const_names m.consts) (local_names m.locals) (distinct_back (port_names m.ports) (const_names m.consts ++ local_names m.locals) distinct)
    (to_map (λ (c : Const). c.name) c m.consts declared)
    (subst (λ (n : List ℕ). IsIn n (local_names m.locals)) (sym r.named) (to_map (λ (l : Local). l.name) r.local m.locals r.declared))

pub const_no_target : (m : ModuleTree) (c : Const) → AreDistinct (all_names m) → IsIn c m.consts → IsTarget m c.name → ⊥
const_no_target m c distinct declared (inl (p, port, outward, named)) =
    apart c.name (port_names m.ports) (const_names m.consts ++ local_names m.locals) distinct
    (subst (λ (n : List ℕ). IsIn n (port_names m.ports)) (sym named) (to_map (λ (p : Port). p.name) p m.ports port))
    (in_front c.name (const_names m.consts) (local_names m.locals) (to_map (λ (c : Const). c.name) c m.consts declared))
const_no_target m c distinct declared (inr (clock, type, r)) = const_no_register m c clock type distinct declared r
