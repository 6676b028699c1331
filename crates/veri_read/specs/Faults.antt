-- What is at fault with a token behind what was said, and what it says.
use Rattle.std.specs.Prelude.{ℕ, Bool, true, false, cond, not, ◌||◌, ◌&&◌, bytes_eq, List, [], ◌∷◌, Option, Some, None, Result, Ok, Err}
use Rattle.std.specs.List.{list_all, list_any}
use Rattle.std.specs.Option.{is_none, option_map}
use Rattle.veri_read.specs.declared.literal.Kind.{Kind}
use Rattle.veri_read.specs.declared.literal.Kind.TheVariants as kind
use Rattle.veri_read.specs.declared.literal.Declared.{Declared}
use Rattle.veri_read.specs.declared.symbol.Symbol.{Symbol}
use Rattle.veri_read.specs.declared.symbol.Symbol.TheVariants as symbol
use Rattle.veri_read.specs.declared.rules.Place.{Place}
use Rattle.veri_read.specs.declared.rules.Act.{Act}
use Rattle.veri_read.specs.declared.rules.Act.TheVariants as act
use Rattle.veri_read.specs.declared.error.VeriError.{VeriError}
use Rattle.veri_read.specs.declared.error.VeriError.TheVariants as fault
use Rattle.veri_read.specs.Tokens.{Item}
use Rattle.veri_read.specs.Rules.{Rule, rule}
use Rattle.veri_read.specs.Bits.{is_bit_name, follows}
use Rattle.veri_read.specs.Tables.{find, has, put}
use Rattle.veri_read.specs.Said.{Term, Constant, Of, Assigned, Said, is_wire, with_declared, with_term, with_assign, with_next}

abbrev pub kind_of : Said → List ℕ → Option Kind
kind_of s name = option_map (λ d. d.kind) (find s.declared name)

-- a name stands in the list of ports already
abbrev pub port_fault : Said → Item → Option VeriError
port_fault s t = cond (has s.ports t.spelled) (Some (fault.Twice t.at)) None

abbrev pub is_kind : Kind → Kind → Bool
is_kind kind.Input kind.Input = true
is_kind kind.Output kind.Output = true
is_kind kind.Inout kind.Inout = true
is_kind kind.Wire kind.Wire = true
is_kind kind.Reg kind.Reg = true
is_kind k other = false

-- a declared name is a bit, unless it is a wire's; where a run goes on, it is the next bit of the run, declared as the same
abbrev pub fits_run : Option (Kind × List ℕ) → Kind → List ℕ → Bool
fits_run None k name = is_wire k || is_bit_name name
fits_run (Some above) k name = is_kind above.0 k && (is_bit_name name && follows above.1 name)

-- inputs, outputs and pads are ports
abbrev pub is_port : Kind → Bool
is_port kind.Input = true
is_port kind.Output = true
is_port kind.Inout = true
is_port kind.Wire = false
is_port kind.Reg = false

-- a declared name that is no bit or breaks a run, that should be a port and is none, or that is declared already
abbrev pub declared_fault : Said → Item → Option VeriError
declared_fault s t =
    cond (not (fits_run s.run s.kind t.spelled)) (Some (fault.Syntax t.at))
    (cond (is_port s.kind && not (has s.ports t.spelled)) (Some (fault.UnknownName t.at))
    (cond (has s.declared t.spelled) (Some (fault.Twice t.at)) None))

-- behind the declarations no run goes on
abbrev pub run_fault : Said → Item → Option VeriError
run_fault s t = cond (is_none s.run) None (Some (fault.Syntax t.at))

-- an assign's target is a wire, a pad or an output, and is assigned once
abbrev pub may_assign : Option Kind → Bool
may_assign (Some kind.Wire) = true
may_assign (Some kind.Inout) = true
may_assign (Some kind.Output) = true
may_assign k = false

abbrev pub target_fault : Said → Item → Option VeriError
target_fault s t =
    cond (not (may_assign (kind_of s t.spelled))) (Some (fault.UnknownName t.at))
    (cond (has s.assigned t.spelled) (Some (fault.Twice t.at)) None)

abbrev pub kind_or : Kind → Option Kind → Kind
kind_or k None = k
kind_or k (Some other) = other

-- a literal's name is declared and no output; a wire or pad was assigned before
abbrev pub use_fault_of : Said → Item → Option Kind → Option VeriError
use_fault_of s t None = Some (fault.UnknownName t.at)
use_fault_of s t (Some kind.Output) = Some (fault.UnknownName t.at)
use_fault_of s t (Some kind.Wire) = cond (has s.assigned t.spelled) None (Some (fault.Unordered t.at))
use_fault_of s t (Some kind.Inout) = cond (has s.assigned t.spelled) None (Some (fault.Unordered t.at))
use_fault_of s t (Some kind.Input) = None
use_fault_of s t (Some kind.Reg) = None

abbrev pub use_fault : Said → Item → Option VeriError
use_fault s t = use_fault_of s t (kind_of s t.spelled)

-- in the line of a register it is not the clock either
abbrev pub is_clock : Option (List ℕ) → List ℕ → Bool
is_clock None name = false
is_clock (Some clock) name = bytes_eq clock name

abbrev pub next_use_fault : Said → Item → Option VeriError
next_use_fault s t = cond (is_clock s.clock t.spelled) (Some (fault.UnknownName t.at)) (use_fault s t)

-- a name stands in a literal
abbrev pub names_term : List ℕ → Term → Bool
names_term name (Constant value) = false
names_term name (Of negated other) = bytes_eq other name

-- an assign uses a name; an output has its second literal alone
abbrev pub uses_name : List ℕ → Assigned → Bool
uses_name name a = names_term name a.second || (not (is_kind a.kind kind.Output) && names_term name a.first)

-- the clock is an input, in a run of its own, that no assign uses
abbrev pub is_clock_bit : Option Declared → Bool
is_clock_bit None = false
is_clock_bit (Some d) = is_kind d.kind kind.Input && d.alone

abbrev pub clock_fault : Said → Item → Option VeriError
clock_fault s t = cond (is_clock_bit (find s.declared t.spelled) && not (list_any (uses_name t.spelled) s.assigns)) None (Some (fault.UnknownName t.at))

-- the line of a register has the name of a register, each once
abbrev pub is_register : Option Kind → Bool
is_register (Some kind.Reg) = true
is_register k = false

abbrev pub register_fault : Said → Item → Option VeriError
register_fault s t =
    cond (not (is_register (kind_of s t.spelled))) (Some (fault.UnknownName t.at))
    (cond (has s.nexts t.spelled) (Some (fault.Twice t.at)) None)

-- at the end each port is declared as one, and each wire, output, pad and register is assigned
abbrev pub is_declared_port : Option Kind → Bool
is_declared_port None = false
is_declared_port (Some k) = is_port k

abbrev pub has_value : Said → List ℕ → Kind → Bool
has_value s name kind.Input = true
has_value s name kind.Reg = has s.nexts name
has_value s name k = has s.assigned name

abbrev pub is_assigned : Said → List ℕ × Declared → Bool
is_assigned s d = has_value s d.0 d.1.kind

abbrev pub is_complete : Said → Bool
is_complete s = list_all (λ p. is_declared_port (kind_of s p.0)) s.ports && list_all (is_assigned s) s.declared

abbrev pub end_fault : Said → Item → Option VeriError
end_fault s t = cond (is_none s.run && is_complete s) None (Some (fault.Syntax t.at))

-- what was said with a token, unless it is at fault
abbrev pub unless : Option VeriError → Said → Result Said VeriError
unless None s = Ok s
unless (Some f) s = Err f

abbrev pub acted : Act → Said → Item → Result Said VeriError
acted act.Pass s t = Ok s
acted act.NameModule s t = Ok (record s { module_name = t.spelled })
acted act.ListPort s t = unless (port_fault s t) (record s { ports = put s.ports t.spelled tt })
acted (act.OfKind k) s t = Ok (record s { kind = k })
acted act.Declare s t = unless (declared_fault s t) (with_declared s t.spelled)
acted act.EndDeclarations s t = unless (run_fault s t) s
acted act.BeginAssign s t = unless (target_fault s t) (record s { kind = kind_or s.kind (kind_of s t.spelled); target = t.spelled })
acted (act.Constant value) s t = Ok (with_term s (Constant value))
acted act.Negate s t = Ok (record s { negated = true })
acted act.Use s t = unless (use_fault s t) (with_term s (Of s.negated t.spelled))
acted act.EndAssign s t = Ok (with_assign s)
acted act.NameClock s t = unless (clock_fault s t) (record s { clock = Some t.spelled })
acted act.BeginNext s t = unless (register_fault s t) (record s { target = t.spelled })
acted act.UseNext s t = unless (next_use_fault s t) (with_term s (Of s.negated t.spelled))
acted act.EndNext s t = Ok (with_next s)
acted act.EndModule s t = unless (end_fault s t) s

-- a byte that begins no token, a token with which no text of the grammar goes on, or what the token does
abbrev pub is_stray : Symbol → Bool
is_stray symbol.Stray = true
is_stray s = false

abbrev pub placed : Place → Result Said VeriError → Result Said VeriError
placed p (Ok s) = Ok (record s { place = p })
placed p (Err f) = Err f

abbrev pub ruled : Rule → Said → Item → Result Said VeriError
ruled None s t = Err (fault.Syntax t.at)
ruled (Some r) s t = placed r.0 (acted r.1 s t)

abbrev pub step : Said → Item → Result Said VeriError
step s t = cond (is_stray t.symbol) (Err (fault.BadToken t.at)) (ruled (rule s.kind s.place t.symbol) s t)

-- what a text says up to its first fault, and that fault
abbrev pub said_with : Said → (Said → Said × Option VeriError) → Result Said VeriError → Said × Option VeriError
said_with s more (Ok now) = more now
said_with s more (Err f) = (s, Some f)

abbrev pub said_by : List Item → Said → Said × Option VeriError
said_by [] s = (s, None)
said_by (t ∷ ts) s = said_with s (said_by ts) (step s t)
