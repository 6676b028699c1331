-- Which claims suit a table, where signals and values from outside have these widths.
use Rattle.std.specs.Prelude.{◌≡◌, ℕ, ◌<◌, ◌≤◌, ◌^◌, List, length, IfSome}
use Rattle.std.specs.List.{AllByRecursion}
use Rattle.lola_alg.specs.Means.{IsWidth, AreWide}
use Rattle.lola_flat.specs.Tree.{ExprTree}
use Rattle.lola_flat.specs.Value.{Env, elements, width, Fits}
use Rattle.lola_checks.specs.declared.check.Mark.{Mark}
use Rattle.lola_checks.specs.Tree.{WriteTree, ElementsTree, AtomTree, is_one, are_equal, same_elements, fits_pattern, ClaimTree, alone, all_of, any_of, CheckTree}

-- an expression is a bit, and two are vectors of one width
pub record IsBit (W : Env ℕ) (e : ExprTree) : Type 0 where
  pub fits : Fits W e
  pub one : width W e ≡ 1

pub record AreAlike (W : Env ℕ) (left right : ExprTree) : Type 0 where
  pub left_fits : Fits W left
  pub right_fits : Fits W right
  pub wide : IsWidth (width W left)
  pub same : width W right ≡ width W left

-- a write suits an array of so many elements of a width: its place has k bits where these are 2 to k, with k from 1 to 10
pub record WriteSuits (W : Env ℕ) (wide count : ℕ) (w : WriteTree) : Type 0 where
  pub place_fits : Fits W w.place
  pub value_fits : Fits W w.value
  pub same : width W w.value ≡ wide
  pub places : (1 ≤ width W w.place) × (width W w.place ≤ 10)
  pub elements : count ≡ 2 ^ width W w.place

-- an array is there, with so many elements of a width
pub record ElementsSuit (W : Env ℕ) (wide count : ℕ) (e : ElementsTree) : Type 0 where
  pub is_width : IsWidth wide
  pub there : e.array < length W.signals
  pub each : AllByRecursion (λ w. w ≡ wide) (elements W e.array)
  pub long : length (elements W e.array) ≡ count
  pub write : IfSome e.write (WriteSuits W wide count)

-- it is, for some width and count
abbrev pub HasElements : Env ℕ → ElementsTree → Type 0
HasElements W e = (wide : ℕ) × ((count : ℕ) × ElementsSuit W wide count e)

-- two arrays have as many elements, and of one width
pub record ArraysAlike (W : Env ℕ) (left right : ElementsTree) : Type 0 where
  pub wide : ℕ
  pub count : ℕ
  pub left_suits : ElementsSuit W wide count left
  pub right_suits : ElementsSuit W wide count right

-- and so of the vectors that they are
pub record ArePairs {B : Type 0} (left right : List (List B)) : Type 0 where
  pub wide : ℕ
  pub is_width : IsWidth wide
  pub left_wide : AreWide wide left
  pub right_wide : AreWide wide right
  pub count : length right ≡ length left

-- a pattern has a mark for each bit
pub record PatternSuits (W : Env ℕ) (word : ExprTree) (pattern : List Mark) : Type 0 where
  pub fits : Fits W word
  pub long : width W word ≡ length pattern

abbrev pub AtomSuits : Env ℕ → AtomTree → Type 0
AtomSuits W (is_one bit) = IsBit W bit
AtomSuits W (are_equal left right) = AreAlike W left right
AtomSuits W (same_elements left right) = ArraysAlike W left right
AtomSuits W (fits_pattern word pattern) = PatternSuits W word pattern

abbrev pub ClaimSuits : Env ℕ → ClaimTree → Type 0
ClaimSuits W (alone atom) = AtomSuits W atom
ClaimSuits W (all_of atoms) = AllByRecursion (AtomSuits W) atoms
ClaimSuits W (any_of atoms) = AllByRecursion (AtomSuits W) atoms

pub record CheckSuits (W : Env ℕ) (k : CheckTree) : Type 0 where
  pub premises : AllByRecursion (ClaimSuits W) k.premises
  pub goal : ClaimSuits W k.goal
