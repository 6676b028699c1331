-- What the code holds, as the definitions speak of it.
use Rattle.std.specs.Prelude.{◌≡◌, ◌<◌, ◌≤◌, ◌⊎◌, ℕ, List, length, map, drop, Option, Some, None, Result, Ok, Err}
use Rattle.veri_read.specs.declared.error.VeriError.{VeriError}
use Rattle.veri_read.specs.declared.error.VeriError.TheVariants as fault
use Rattle.std.specs.Borrow.{Bor}
use Rattle.veri_read.specs.declared.literal.Kind.{Kind}
use Rattle.veri_read.specs.declared.literal.Literal.{Literal}
use Rattle.veri_read.specs.declared.literal.Literal.TheVariants as literal
use Rattle.veri_read.specs.declared.literal.Assign.{Assign}
use Rattle.veri_read.specs.declared.table.Table.{Table}
use Rattle.veri_read.specs.declared.token.Token.{Token}
use Rattle.veri_read.specs.declared.reader.Reader.{Reader}
use Rattle.veri_read.specs.Tokens.{Item, items_from}
use Rattle.veri_read.specs.Faults.{said_by}
use Rattle.veri_read.specs.Tables.{Names}
use Rattle.veri_read.specs.Said.{Term, Constant, Of, Assigned, Said}

abbrev pub term_of : Literal → Term
term_of (literal.Constant value) = Constant value
term_of (literal.Of negated name) = Of negated name.now

abbrev pub assigned_of : Assign → Assigned
assigned_of a = record { kind = a.kind; target = a.target.now; first = term_of a.first; second = term_of a.second }

abbrev pub item_of : Token → Item
item_of t = record { symbol = t.symbol; spelled = t.spelled.now; at = t.at }

-- the names of a table
abbrev pub listed : {V : Type 0} → Table V → Names V
listed t = map (λ e. (e.0.now, e.1)) t.entries.entries

abbrev pub run_of : Option (Kind × Bor (List ℕ)) → Option (Kind × List ℕ)
run_of None = None
run_of (Some r) = Some (r.0, r.1.now)

abbrev pub clock_of : Option (Bor (List ℕ)) → Option (List ℕ)
clock_of None = None
clock_of (Some name) = Some name.now

abbrev pub with_term_of : List ℕ × Literal → List ℕ × Term
with_term_of e = (e.0, term_of e.1)

-- what a reader was told
abbrev pub said_of : Reader → Said
said_of r = record {
  place = r.place;
  kind = r.kind;
  module_name = r.module_name.now;
  ports = listed r.ports;
  declared = listed r.declared;
  run = run_of r.run;
  target = r.target.now;
  negated = r.negated;
  first = term_of r.first;
  second = term_of r.second;
  assigns = map assigned_of r.assigns.items;
  assigned = listed r.assigned;
  clock = clock_of r.clock;
  nexts = map with_term_of (listed r.nexts);
}

-- a fault as a refusal
abbrev pub refusal_of : Option VeriError → Result (Unit {0}) VeriError
refusal_of None = Ok tt
refusal_of (Some f) = Err f

-- a call leaves what is due, or refuses what is at fault and changes nothing; want of memory aside
abbrev pub Does : Said → Result Said VeriError → Said → Result (Unit {0}) VeriError → Type 0
Does before (Ok due) now (Ok u) = now ≡ due
Does before (Ok due) now (Err f) = f ≡ fault.Memory
Does before (Err due) now (Ok u) = ⊥
Does before (Err due) now (Err f) = ((f ≡ due) × (now ≡ before)) ⊎ (f ≡ fault.Memory)

-- what was taken in up to the first fault, and that fault; want of memory aside
abbrev pub Took : Said × Option VeriError → Said → Result (Unit {0}) VeriError → Type 0
Took due now (Ok u) = due ≡ (now, None)
Took due now (Err f) = (due ≡ (now, Some f)) ⊎ (f ≡ fault.Memory)

-- a reader that stands at a later place says behind it what it says of the text from the place before on
pub record GoesOn (at next : ℕ) (bytes : List ℕ) (before now : Said) : Type 0 where
  pub later : at < next
  pub within : next ≤ length bytes
  pub same : said_by (items_from 0 at (drop at bytes)) before ≡ said_by (items_from 0 next (drop next bytes)) now

-- a piece of a text was taken in, or the first fault from there on stands in it
abbrev pub IsPiece : ℕ → List ℕ → Said → Said → Result ℕ VeriError → Type 0
IsPiece at bytes before now (Ok next) = GoesOn at next bytes before now
IsPiece at bytes before now (Err f) = Took (said_by (items_from 0 at (drop at bytes)) before) now (Err f)
