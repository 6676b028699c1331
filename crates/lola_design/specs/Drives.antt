-- Which pads statements drive.
use Rattle.std.specs.Prelude.{◌≡◌, ℕ, List, [], ◌∷◌, map, Option, Some, None}
use Rattle.lola_tree.specs.declared.module.Way.TheVariants.{Both}
use Rattle.lola_tree.specs.declared.module.Port.{Port}
use Rattle.lola_tree.specs.Tree.{ActualTree, StmtTree, assignment, call, pad, SourceTree}
use Rattle.lola_tree.specs.Value.{Path, Values}
use Rattle.lola_bits.specs.Lists.{IsIn}
use Rattle.lola_tree.specs.design.Places.{Pads, Caller, Place, places}
use Rattle.lola_tree.specs.design.Calls.{bare_path, bare_name}
use Rattle.lola_tree.specs.design.Equations.{Equation, Meets}

-- the names of INOUT ports that stand for pads
abbrev pub pad_names : Pads → List (List ℕ)
pad_names pads = map (λ (p : List ℕ × Path). p.0) pads

-- arguments for INOUT ports are bare names of INOUT ports
abbrev pub ArePassed : Pads → List Port → List ActualTree → Type 0
ArePassed pads [] args = Unit {0}
ArePassed pads (p ∷ ports) [] = Unit {0}
ArePassed pads (p ∷ ports) (a ∷ args) =
    (p.way ≡ Both → (bare_path a.value ≡ bare_name a.value ∷ []) × IsIn (bare_name a.value) (pad_names pads)) × ArePassed pads ports args

abbrev pub IsPassedBy : Place → Option Caller → Type 0
IsPassedBy a None = Unit {0}
IsPassedBy a (Some c) = ArePassed c.pads a.module_.ports c.args

-- and what a statement drives is an INOUT port
abbrev pub DrivesPad : Pads → StmtTree → Type 0
DrivesPad pads (assignment name place e at equals) = Unit {0}
DrivesPad pads (call name args at) = Unit {0}
DrivesPad pads (pad io inner drive release at) = IsIn io.name (pad_names pads)

pub record PadsFit (S : SourceTree) : Type 0 where
  pub passed : (a : Place) → IsIn a (places S) → IsPassedBy a a.caller
  pub drives : (a : Place) → IsIn a (places S) → (t : StmtTree) → IsIn t a.module_.body → DrivesPad a.pads t

-- a valuation satisfies equations
abbrev pub MeetsAll : Values → Values → List Equation → Type 0
MeetsAll outside v es = (e : Equation) → IsIn e es → Meets outside v e
