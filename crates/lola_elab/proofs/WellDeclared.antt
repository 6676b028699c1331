-- A module of the small form declares one-bit ports and registers under one clock, and the reverse.
use Rattle.std.proofs.Common.{◌≡◌, ℕ, Bool, false, not, ◌&&◌, List, [], ◌∷◌, ◌++◌, Some, refl, sym, ◌∙◌, ap, ap₂, subst, inl, inr}
use Rattle.std.specs.List.{AllByRecursion}
use Rattle.std.specs.Prelude.{bytes_eq, filter}
use Rattle.std.proofs.lemmas.Bool.{cases_Bool, or_left, or_from}
use Rattle.std.proofs.lemmas.List.Folds.{list_any-append}
use Rattle.std.proofs.lemmas.List.Elements.{filter_agree}
use Rattle.lola_bits.specs.Lists.{IsIn, AreDistinct}
use Rattle.lola_bits.specs.Names.{is_among}
use Rattle.lola_bits.proofs.All.{of_all, all_of}
use Rattle.lola_tree.specs.declared.named.Named.{Named}
use Rattle.lola_tree.specs.declared.named.Shape.{Shape}
use Rattle.lola_tree.specs.declared.module.Way.TheVariants.{Inward}
use Rattle.lola_tree.specs.declared.module.Port.{Port}
use Rattle.lola_tree.specs.declared.module.LocalKind.{LocalKind}
use Rattle.lola_tree.specs.declared.module.LocalKind.TheVariants.{Reg, Var, Inst}
use Rattle.lola_tree.specs.declared.module.Local.{Local}
use Rattle.lola_tree.specs.Tree.{ModuleTree}
use Rattle.lola_tree.specs.Cycle.{IsRegisterOf}
use Rattle.lola_tree.specs.Signals.{clock_of, clock_names, is_inward, name_of_register, register_names}
use Rattle.lola_elab.specs.Small.{Wide, wide_in, IsSmallKind, IsSmallModule}
use Rattle.lola_elab.specs.Declares.{local_names, first_clock, IsUnder, IsInward, IsDeclaredUnder}
use Rattle.lola_elab.proofs.Entries.{entry_names}

-- a small local is a register
pub reg_of : (wide : Wide) (kind : LocalKind) → IsSmallKind wide kind → (under : Named) × (type : Shape) × (kind ≡ Reg under type)
reg_of wide (Reg under type) small = (under, type, refl)
reg_of wide (Var type) small = absurd small
reg_of wide (Inst of) small = absurd small

-- registers that share their clocks have the first one's
same_clock : (wide : Wide) (locals : List Local) → AllByRecursion (λ (l : Local). IsSmallKind wide l.kind) locals →
    ((a b : Local) (u w : Named) (t s : Shape) → IsIn a locals → IsIn b locals → a.kind ≡ Reg u t → b.kind ≡ Reg w s → u.name ≡ w.name) →
    (l : Local) → IsIn l locals → clock_of l.kind ≡ first_clock locals
same_clock wide [] small one l is = absurd is
same_clock wide (x ∷ xs) small one l is =
    let a = reg_of wide l.kind (of_all (λ (l : Local). IsSmallKind wide l.kind) l (x ∷ xs) small is) in
    let b = reg_of wide x.kind small.0 in
    ap clock_of a.2 ∙ ap (λ (n : List ℕ). n ∷ []) (one l x a.0 b.0 a.1 b.1 is (inl refl) a.2 b.2) ∙ ap clock_of (sym b.2)

-- a fact of a register's clock is one of all its clocks
of_clocks : (wide : Wide) (P : List ℕ → Type 0) (kind : LocalKind) → IsSmallKind wide kind → ((under : Named) (type : Shape) → kind ≡ Reg under type → P under.name) → AllByRecursion P (clock_of kind)
of_clocks wide P (Reg under type) small each = (each under type refl, tt)
of_clocks wide P (Var type) small each = absurd small
of_clocks wide P (Inst of) small each = absurd small

of_first : (wide : Wide) (P : List ℕ → Type 0) (locals : List Local) → AllByRecursion (λ (l : Local). IsSmallKind wide l.kind) locals →
    ((l : Local) (under : Named) (type : Shape) → IsIn l locals → l.kind ≡ Reg under type → P under.name) → AllByRecursion P (first_clock locals)
of_first wide P [] small each = tt
of_first wide P (x ∷ xs) small each = of_clocks wide P x.kind small.0 (λ under type e. each x under type (inl refl) e)

pub declared_of : (m : ModuleTree) → IsSmallModule m → IsDeclaredUnder (wide_in m) (first_clock m.locals) m
declared_of m small =
    let wide = wide_in m in
    let register : (l : Local) (under : Named) (type : Shape) → IsIn l m.locals → l.kind ≡ Reg under type → IsRegisterOf m l.name under.name type =
    λ l under type is e. record { local = l; under = under; declared = is; kind = e; named = refl; clocked = refl } in
    record {
      ends = small.ends;
      distinct = subst AreDistinct (entry_names m.ports m.consts m.locals) small.distinct;
      constants = small.constants;
      ports = small.ports;
      registers = all_of (IsUnder (wide_in m) (first_clock m.locals)) m.locals (λ l is. (
        of_all (λ (l : Local). IsSmallKind (wide_in m) l.kind) l m.locals small.registers is,
        same_clock (wide_in m) m.locals small.registers (λ a b u w t s p q e f. small.one_clock a.name b.name u.name w.name t s (register a u t p e) (register b w s q f)) l is,
      ));
      clock_port = of_first (wide_in m) (IsInward (wide_in m) m.ports) m.locals small.registers (λ l under type is e.
          let found = small.clock_port l.name under.name type (register l under type is e) in (found.0, found.1, (found.2, found.3, found.4)));
      few_signals = small.few_signals;
    }

-- what is declared, as the small form says it
pub kinds_of : (wide : Wide) (clock : List (List ℕ)) (locals : List Local) → AllByRecursion (IsUnder wide clock) locals → AllByRecursion (λ (l : Local). IsSmallKind wide l.kind) locals
kinds_of wide clock [] all = tt
kinds_of wide clock (x ∷ xs) all = (all.0.0, kinds_of wide clock xs all.1)

pub clock_is : (wide : Wide) (clock : List (List ℕ)) (m : ModuleTree) (name own : List ℕ) (type : Shape) → IsDeclaredUnder wide clock m → IsRegisterOf m name own type → own ∷ [] ≡ clock
clock_is wide clock m name own type d r =
    ap (λ (n : List ℕ). n ∷ []) r.clocked ∙ sym (ap clock_of r.kind) ∙ (of_all (IsUnder wide clock) r.local m.locals d.registers r.declared).1

pub one_clock : (wide : Wide) (clock : List (List ℕ)) (m : ModuleTree) (a b c d : List ℕ) (t u : Shape) → IsDeclaredUnder wide clock m → IsRegisterOf m a c t → IsRegisterOf m b d u → c ≡ d
one_clock wide clock m a b c d t u declared r s =
    let e : c ∷ [] ≡ d ∷ [] = clock_is wide clock m a c t declared r ∙ sym (clock_is wide clock m b d u declared s) in
    cc

pub clock_port : (wide : Wide) (clock : List (List ℕ)) (m : ModuleTree) (name own : List ℕ) (type : Shape) → IsDeclaredUnder wide clock m → IsRegisterOf m name own type →
    (p : Port) × IsIn p m.ports × (p.way ≡ Inward) × (own ≡ p.name) × (wide p.shape ≡ Some 1)
clock_port wide clock m name own type d r =
    let all = subst (λ (l : List (List ℕ)). AllByRecursion (IsInward wide m.ports) l) (sym (clock_is wide clock m name own type d r)) d.clock_port in
    (all.0.0, all.0.1, all.0.2.0, all.0.2.1, all.0.2.2)

-- the first clock is all clocks
other_clocks : (wide : Wide) (clock : List (List ℕ)) (locals : List Local) (name : List ℕ) → AllByRecursion (IsUnder wide clock) locals → is_among clock name ≡ false → is_among (clock_names locals) name ≡ false
other_clocks wide clock [] name all off = refl
other_clocks wide clock (x ∷ xs) name all off =
    list_any-append (λ other. bytes_eq other name) (clock_of x.kind) (clock_names xs)
    ∙ or_from (is_among (clock_of x.kind) name) (is_among (clock_names xs) name) (ap (λ (l : List (List ℕ)). is_among l name) all.0.1 ∙ off) (other_clocks wide clock xs name all.1 off)

first_is_all : (wide : Wide) (locals : List Local) (name : List ℕ) → AllByRecursion (IsUnder wide (first_clock locals)) locals → is_among (first_clock locals) name ≡ is_among (clock_names locals) name
first_is_all wide [] name all = refl
first_is_all wide (x ∷ xs) name all = elim (cases_Bool (is_among (clock_of x.kind) name)) [
  | inl on ↦ on ∙ sym (list_any-append (λ other. bytes_eq other name) (clock_of x.kind) (clock_names xs) ∙ or_left (is_among (clock_of x.kind) name) (is_among (clock_names xs) name) on)
  | inr off ↦ off ∙ sym (other_clocks wide (clock_of x.kind) (x ∷ xs) name all off)
]

pub inputs_are : (wide : Wide) (m : ModuleTree) → AllByRecursion (IsUnder wide (first_clock m.locals)) m.locals →
    filter (λ (p : Port). is_inward p.way && not (is_among (first_clock m.locals) p.name)) m.ports ≡ filter (λ (p : Port). is_inward p.way && not (is_among (clock_names m.locals) p.name)) m.ports
inputs_are wide m under =
    filter_agree (λ (p : Port). is_inward p.way && not (is_among (first_clock m.locals) p.name)) (λ (p : Port). is_inward p.way && not (is_among (clock_names m.locals) p.name))
    (λ p. ap (λ (b : Bool). is_inward p.way && not b) (first_is_all wide m.locals p.name under)) m.ports

-- the registers are the locals
register_name : (wide : Wide) (kind : LocalKind) (name : List ℕ) → IsSmallKind wide kind → name_of_register kind name ≡ name ∷ []
register_name wide (Reg under type) name small = refl
register_name wide (Var type) name small = absurd small
register_name wide (Inst of) name small = absurd small

pub registers_are : (wide : Wide) (locals : List Local) → AllByRecursion (λ (l : Local). IsSmallKind wide l.kind) locals → local_names locals ≡ register_names locals
registers_are wide [] small = refl
registers_are wide (x ∷ xs) small = ap₂ (λ (a b : List (List ℕ)). a ++ b) (sym (register_name wide x.kind x.name small.0)) (registers_are wide xs small.1)
