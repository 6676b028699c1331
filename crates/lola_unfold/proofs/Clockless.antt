-- The clock of a design is a port of its root: no instance has one.
use Rattle.std.proofs.Common.{◌≡◌, ℕ, Bool, true, false, cond, if◌then◌else◌, bytes_eq, List, [], ◌∷◌, ◌++◌, Option, Some, None, refl, sym, ap, ◌∙◌, append_assoc}
use Rattle.lola_bits.specs.Names.{is_among}
use Rattle.lola_tree.specs.declared.named.Shape.{Shape}
use Rattle.lola_tree.specs.declared.module.Way.{Way}
use Rattle.lola_tree.specs.declared.module.Way.TheVariants.{Inward, Outward, Both}
use Rattle.lola_tree.specs.declared.module.Port.{Port}
use Rattle.lola_tree.specs.declared.module.LocalKind.{LocalKind}
use Rattle.lola_tree.specs.declared.module.LocalKind.TheVariants.{Reg, Var, Inst}
use Rattle.lola_tree.specs.declared.module.Local.{Local}
use Rattle.lola_tree.specs.Names.{Names, names_of}
use Rattle.lola_tree.specs.Tree.{ModuleTree}
use Rattle.lola_tree.specs.Value.{Path}
use Rattle.lola_tree.specs.design.Clocks.{clocks_in, clock_ports}
use Rattle.lola_tree.specs.design.Signals.{wire, Signal, root_kind, root_ports, shown_port, instance_port, instance_ports, kind_signals, local_signals, signals_at, signals_inside, root_signals}
use Rattle.lola_unfold.specs.Flat.{named_clock, clock_name}
use Rattle.lola_unfold.specs.Measured.{is_hidden}
use Rattle.lola_unfold.specs.Root.{first_clock}

-- signals that have no clock
abbrev Clockless : List Signal → Type 0
Clockless xs = (ys : List Signal) → clock_name (xs ++ ys) ≡ clock_name ys

both : (xs ys : List Signal) → Clockless xs → Clockless ys → Clockless (xs ++ ys)
both xs ys a b zs = ap clock_name (append_assoc xs ys zs) ∙ a (ys ++ zs) ∙ b zs

port_less : (w : Way) (b : Bool) (q : Path) (names : Names) (type : Shape) → Clockless (shown_port w b (record { path = q; kind = wire; names = names; type = type }))
port_less Inward true q names type ys = refl
port_less Inward false q names type ys = refl
port_less Outward b q names type ys = refl
port_less Both b q names type ys = refl

ports_less : (names : Names) (clocks : List (List ℕ)) (q : Path) (ports : List Port) → Clockless (instance_ports names clocks q ports)
ports_less names clocks q [] = λ ys. refl
ports_less names clocks q (p ∷ ports) =
    both (instance_port names clocks q p) (instance_ports names clocks q ports) (port_less p.way (is_among clocks p.name) (q ++ p.name ∷ []) names p.shape) (ports_less names clocks q ports)

abbrev AreClockless : (List ℕ → Path → List Signal) → Type 0
AreClockless inside = (name : List ℕ) (q : Path) → Clockless (inside name q)

kind_less : (inside : List ℕ → Path → List Signal) → AreClockless inside → (names : Names) (q : Path) (k : LocalKind) → Clockless (kind_signals inside names q k)
kind_less inside so names q (Reg under type) ys = refl
kind_less inside so names q (Var type) ys = refl
kind_less inside so names q (Inst of) ys = so of.name q ys

locals_less : (inside : List ℕ → Path → List Signal) → AreClockless inside → (names : Names) (p : Path) (locals : List Local) → Clockless (local_signals inside names p locals)
locals_less inside so names p [] = λ ys. refl
locals_less inside so names p (l ∷ locals) =
    both (kind_signals inside names (p ++ l.name ∷ []) l.kind) (local_signals inside names p locals) (kind_less inside so names (p ++ l.name ∷ []) l.kind) (locals_less inside so names p locals)

by_test : (b : Bool) (xs ys : List Signal) → Clockless xs → Clockless ys → Clockless (if b then xs else ys)
by_test true xs ys e f = e
by_test false xs ys e f = f

inside_less : (E : List ModuleTree) → AreClockless (signals_inside E)
inside_less [] name q = λ ys. refl
inside_less (m ∷ E) name q =
    let clocks = clocks_in (clock_ports E) m in
    by_test (bytes_eq m.name name) (signals_at (clock_ports E) (signals_inside E) m q) (signals_inside E name q)
    (both (instance_ports (names_of m) clocks q m.ports) (local_signals (signals_inside E) (names_of m) q m.locals) (ports_less (names_of m) clocks q m.ports) (locals_less (signals_inside E) (inside_less E) (names_of m) q m.locals))
    (inside_less E name q)

none_behind : (xs : List Signal) → Clockless xs → clock_name xs ≡ None
none_behind xs less = ap clock_name (sym (append_none xs)) ∙ less []
  where
    append_none : (ys : List Signal) → ys ++ [] ≡ ys
    append_none [] = refl
    append_none (y ∷ ys) = ap (λ l. y ∷ l) (append_none ys)

port_clock : (w : Way) (b : Bool) (name : List ℕ) (rest : Option (List ℕ)) → named_clock (root_kind w b) (name ∷ []) rest ≡ cond (is_hidden w b) (Some name) rest
port_clock Inward true name rest = refl
port_clock Inward false name rest = refl
port_clock Outward b name rest = refl
port_clock Both b name rest = refl

ports_clock : (names : Names) (clocks : List (List ℕ)) (ports : List Port) (xs : List Signal) → Clockless xs → clock_name (root_ports names clocks ports ++ xs) ≡ first_clock (is_among clocks) ports
ports_clock names clocks [] xs less = none_behind xs less
ports_clock names clocks (p ∷ ports) xs less =
    port_clock p.way (is_among clocks p.name) p.name (clock_name (root_ports names clocks ports ++ xs)) ∙ ap (cond (is_hidden p.way (is_among clocks p.name)) (Some p.name)) (ports_clock names clocks ports xs less)

pub root_clock_is : (E : List ModuleTree) (m : ModuleTree) → clock_name (root_signals (m ∷ E)) ≡ first_clock (is_among (clocks_in (clock_ports E) m)) m.ports
root_clock_is E m = ports_clock (names_of m) (clocks_in (clock_ports E) m) m.ports (local_signals (signals_inside E) (names_of m) [] m.locals) (locals_less (signals_inside E) (inside_less E) (names_of m) [] m.locals)
