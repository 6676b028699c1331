-- Which kinds of signals are which.
use Rattle.std.proofs.Common.{◌≡◌, ◌≢◌, true, false, sym, subst}
use Rattle.lola_tree.specs.design.Signals.{Kind, clock, input, pad, wire, register}
use Rattle.lola_design.specs.Paths.{has_equation}

-- the clock, a register, a pad
abbrev pub IsClockKind : Kind → Type 0
IsClockKind clock = Unit {0}
IsClockKind input = ⊥
IsClockKind pad = ⊥
IsClockKind wire = ⊥
IsClockKind register = ⊥

abbrev pub IsStoredKind : Kind → Type 0
IsStoredKind clock = ⊥
IsStoredKind input = ⊥
IsStoredKind pad = ⊥
IsStoredKind wire = ⊥
IsStoredKind register = Unit {0}

abbrev pub IsPadKind : Kind → Type 0
IsPadKind clock = ⊥
IsPadKind input = ⊥
IsPadKind pad = Unit {0}
IsPadKind wire = ⊥
IsPadKind register = ⊥

-- kinds that differ
pub no_clock : (k : Kind) → (IsClockKind k → ⊥) → k ≢ clock
no_clock k other e = other (subst IsClockKind (sym e) tt)

pub no_register : (k : Kind) → (IsStoredKind k → ⊥) → k ≢ register
no_register k other e = other (subst IsStoredKind (sym e) tt)

pub no_pad : (k : Kind) → (IsPadKind k → ⊥) → k ≢ pad
no_pad k other e = other (subst IsPadKind (sym e) tt)

pub register_no_clock : (k : Kind) → k ≡ register → k ≢ clock
register_no_clock k e = no_clock k (λ is. subst IsClockKind e is)

pub input_no_clock : (k : Kind) → k ≡ input → k ≢ clock
input_no_clock k e = no_clock k (λ is. subst IsClockKind e is)

-- what has an equation
pub wired_no_register : (k : Kind) → has_equation k ≡ true → k ≢ register
wired_no_register clock e = absurd (let f : false ≡ true = e in cc)
wired_no_register input e = absurd (let f : false ≡ true = e in cc)
wired_no_register register e = absurd (let f : false ≡ true = e in cc)
wired_no_register pad e = no_register pad (λ is. is)
wired_no_register wire e = no_register wire (λ is. is)

pub wired_no_clock : (k : Kind) → has_equation k ≡ true → k ≢ clock
wired_no_clock clock e = absurd (let f : false ≡ true = e in cc)
wired_no_clock input e = no_clock input (λ is. is)
wired_no_clock register e = no_clock register (λ is. is)
wired_no_clock pad e = no_clock pad (λ is. is)
wired_no_clock wire e = no_clock wire (λ is. is)
