-- The trees of checks that definitions read. They hold no pointers.
use Rattle.std.specs.Prelude.{ℕ, List, map, Option, Some, None}
use Rattle.lola_flat.specs.Tree.{ExprTree, expr_tree}
use Rattle.lola_checks.specs.declared.check.Mark.{Mark}
use Rattle.lola_checks.specs.declared.check.Write.{Write}
use Rattle.lola_checks.specs.declared.check.Elements.{Elements}
use Rattle.lola_checks.specs.declared.check.Atom.{Atom}
use Rattle.lola_checks.specs.declared.check.Atom.TheVariants.{One, Equal, SameElements, Fits}
use Rattle.lola_checks.specs.declared.check.Claim.{Claim}
use Rattle.lola_checks.specs.declared.check.Claim.TheVariants.{Alone, All, Any}
use Rattle.lola_checks.specs.declared.check.Check.{Check}

-- what an element at a place becomes, and the elements of an array behind it
pub record WriteTree : Type 0 where
  pub place : ExprTree
  pub value : ExprTree

pub record ElementsTree : Type 0 where
  pub array : ℕ
  pub write : Option WriteTree

-- a claim that isn't made of others: a bit is 1, vectors are equal, arrays are, or a word fits a pattern
pub data AtomTree : Type 0 where
  is_one : (bit : ExprTree) → AtomTree
  are_equal : (left right : ExprTree) → AtomTree
  same_elements : (left right : ElementsTree) → AtomTree
  fits_pattern : (word : ExprTree) (pattern : List Mark) → AtomTree

-- one alone, all of some, or any of some
pub data ClaimTree : Type 0 where
  alone : (atom : AtomTree) → ClaimTree
  all_of : (atoms : List AtomTree) → ClaimTree
  any_of : (atoms : List AtomTree) → ClaimTree

pub record CheckTree : Type 0 where
  pub premises : List ClaimTree
  pub goal : ClaimTree

-- the trees of what the code holds
abbrev pub write_tree : Option Write → Option WriteTree
write_tree None = None
write_tree (Some w) = Some (record { place = expr_tree w.place; value = expr_tree w.value })

abbrev pub elements_tree : Elements → ElementsTree
elements_tree e = record { array = e.array; write = write_tree e.write }

abbrev pub atom_tree : Atom → AtomTree
atom_tree (One expr) = is_one (expr_tree expr)
atom_tree (Equal left right) = are_equal (expr_tree left) (expr_tree right)
atom_tree (SameElements left right) = same_elements (elements_tree left) (elements_tree right)
atom_tree (Fits word pattern) = fits_pattern (expr_tree word) pattern

abbrev pub claim_tree : Claim → ClaimTree
claim_tree (Alone atom) = alone (atom_tree atom)
claim_tree (All atoms) = all_of (map atom_tree atoms)
claim_tree (Any atoms) = any_of (map atom_tree atoms)

abbrev pub check_tree : Check → CheckTree
check_tree k = record { premises = map claim_tree k.premises; goal = claim_tree k.goal }
