-- What the faults of declarations and assignments are, in words that don't follow how they are listed; and the
-- widths of places.
use Rattle.std.specs.Prelude.{◌≡◌, ◌≢◌, ◌⊎◌, ◌↔◌, ◌≤◌, ◌^◌, ℕ, nat_lt, cond, List, ◌∷◌, ◌++◌, Some}
use Rattle.lola_bits.specs.Lists.{IsIn}
use Rattle.lola_tree.specs.declared.named.Named.{Named}
use Rattle.lola_tree.specs.declared.module.Way.TheVariants.{Inward}
use Rattle.lola_tree.specs.declared.module.Port.{Port}
use Rattle.lola_tree.specs.declared.module.Local.{Local}
use Rattle.lola_tree.specs.Tree.{ModuleTree}
use Rattle.lola_tree.specs.Names.{Entry, entry_name, entry_at, entries, Names}
use Rattle.lola_tree.specs.Width.{place_width}
use Rattle.lola_width.specs.declared.fault.SourceFault.TheVariants.{Doubled, NotAssigned, AssignedTwice}
use Rattle.lola_width.specs.Interface.{Seen}
use Rattle.lola_width.specs.NameFaults.{no_names, doubled_faults}
use Rattle.lola_width.specs.AssignmentFaults.{body_targets, assignment_faults}

-- a target has this name
abbrev pub HasTarget : List ℕ → List Named → Type 0
HasTarget name targets = (t : Named) × IsIn t targets × (t.name ≡ name)

-- a target stands at a place, and one before it has its name
pub record IsSecondTarget (targets : List Named) (at : ℕ) (name : List ℕ) : Type 0 where
  pub front : List Named
  pub target : Named
  pub behind : List Named
  pub stands : targets ≡ front ++ target ∷ behind
  pub at_is : target.at ≡ at
  pub name_is : target.name ≡ name
  pub before : HasTarget name front

-- what must be set or called once, declared at a place: an OUT or INOUT port, or a local name
abbrev pub MustBeTarget : ModuleTree → ℕ → List ℕ → Type 0
MustBeTarget m at name =
    ((p : Port) × IsIn p m.ports × (p.way ≢ Inward) × (p.at ≡ at) × (p.name ≡ name)) ⊎ ((l : Local) × IsIn l m.locals × (l.at ≡ at) × (l.name ≡ name))

-- a name is assigned twice where it is a target behind another target, and not assigned where it must be a
-- target and never is one
pub record AreAssigned (names : Names) (seen : Seen) (m : ModuleTree) (at : ℕ) (name : List ℕ) : Type 0 where
  pub twice : IsIn (AssignedTwice at name) (assignment_faults names seen m) ↔ IsSecondTarget (body_targets names seen m.body) at name
  pub never : IsIn (NotAssigned at name) (assignment_faults names seen m) ↔ (MustBeTarget m at name × (HasTarget name (body_targets names seen m.body) → ⊥))

-- a place has k bits where there are 2 to k elements, from 2 to 1,024
abbrev pub NumbersElements : ℕ → ℕ → Type 0
NumbersElements elements bits = (place_width elements ≡ Some bits) ↔ ((1 ≤ bits) × (bits ≤ 10) × (elements ≡ 2 ^ bits))

-- the later of the places of two declarations
abbrev pub later_place : Entry → Entry → ℕ
later_place e f = cond (nat_lt (entry_at f) (entry_at e)) (entry_at e) (entry_at f)

-- two declarations of one name are in a list, the later of them at this place
pub record IsDeclaredAgain (es : List Entry) (at : ℕ) (name : List ℕ) : Type 0 where
  pub front : List Entry
  pub one : Entry
  pub between : List Entry
  pub other : Entry
  pub behind : List Entry
  pub stand : es ≡ front ++ one ∷ (between ++ other ∷ behind)
  pub one_named : entry_name one ≡ name
  pub other_named : entry_name other ≡ name
  pub later : later_place one other ≡ at

-- a name of a module is doubled where two of its declarations have it, at the later one
abbrev pub AreDoubled : ModuleTree → ℕ → List ℕ → Type 0
AreDoubled m at name = IsIn (Doubled at name) (doubled_faults no_names (entries m)) ↔ IsDeclaredAgain (entries m) at name
