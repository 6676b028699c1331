-- What the front of a text has said.
use Rattle.std.specs.Prelude.{ℕ, Bool, true, false, cond, not, ◌&&◌, List, [], ◌∷◌, ◌++◌, Option, Some, None}
use Rattle.std.specs.Option.{is_none}
use Rattle.veri_read.specs.declared.literal.Kind.{Kind}
use Rattle.veri_read.specs.declared.literal.Kind.TheVariants as kind
use Rattle.veri_read.specs.declared.literal.Declared.{Declared}
use Rattle.veri_read.specs.declared.rules.Place.{Place}
use Rattle.veri_read.specs.declared.rules.Place.TheVariants as place
use Rattle.veri_read.specs.Bits.{ends_run}
use Rattle.veri_read.specs.Tables.{Names, put}

-- a literal as it is written: a constant, or a name, negated or not
pub data Term : Type 0 where
  Constant : (value : Bool) → Term
  Of : (negated : Bool) (name : List ℕ) → Term

-- an assign: what its target is declared as, the target, and the last two literals. A wire is the `and` of both, a pad
-- has the first as its release and the second as its value, an output is the second
pub record Assigned : Type 0 where
  pub kind : Kind
  pub target : List ℕ
  pub first : Term
  pub second : Term

-- what was said: where the text stands; the kind of what is being declared or assigned; the module; the ports; the
-- declared names; the last declared name, where its run of bits goes on; the target, whether a `~` stands before the next name and the last two
-- literals of what is being assigned; the assigns that are complete, and their targets; the clock; the next literals of registers
pub record Said : Type 0 where
  pub place : Place
  pub kind : Kind
  pub module_name : List ℕ
  pub ports : Names (Unit {0})
  pub declared : Names Declared
  pub run : Option (Kind × List ℕ)
  pub target : List ℕ
  pub negated : Bool
  pub first : Term
  pub second : Term
  pub assigns : List Assigned
  pub assigned : Names (Unit {0})
  pub clock : Option (List ℕ)
  pub nexts : Names Term

-- nothing was said
abbrev pub nothing_said : Said
nothing_said = record {
  place = place.Start;
  kind = kind.Wire;
  module_name = [];
  ports = [];
  declared = [];
  run = None;
  target = [];
  negated = false;
  first = Constant false;
  second = Constant false;
  assigns = [];
  assigned = [];
  clock = None;
  nexts = [];
}

abbrev pub is_wire : Kind → Bool
is_wire kind.Wire = true
is_wire k = false

-- behind a declared bit with a number above 0 its run goes on
abbrev pub goes_on : Kind → List ℕ → Bool
goes_on k name = not (is_wire k) && not (ends_run name)

-- a name is declared as the kind at hand
abbrev pub with_declared : Said → List ℕ → Said
with_declared s name = record s {
  declared = put s.declared name (record { kind = s.kind; alone = is_none s.run && not (goes_on s.kind name) });
  run = cond (goes_on s.kind name) (Some (s.kind, name)) None;
}

-- a literal is read
abbrev pub with_term : Said → Term → Said
with_term s term = record s { negated = false; first = s.second; second = term }

-- an assign is complete
abbrev pub with_assign : Said → Said
with_assign s = record s {
  assigns = s.assigns ++ record { kind = s.kind; target = s.target; first = s.first; second = s.second } ∷ [];
  assigned = put s.assigned s.target tt;
}

-- a register's line is complete
abbrev pub with_next : Said → Said
with_next s = record s { nexts = put s.nexts s.target s.second }
