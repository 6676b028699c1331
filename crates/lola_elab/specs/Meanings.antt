-- What names stand for where an expression over vectors stands.
use Rattle.std.specs.Prelude.{◌≡◌, ℕ, ◌≤◌, if◌then◌else◌, List, [], ◌∷◌, Option, Some, None, slice_get, slice_index_or}
use Rattle.lola_bits.specs.Vector.{FitsWidth}
use Rattle.lola_tree.specs.declared.named.Count.{Count}
use Rattle.lola_tree.specs.declared.named.Count.TheVariants as count
use Rattle.lola_tree.specs.declared.named.Ref.{Ref}
use Rattle.lola_tree.specs.Tree.{Tree, Parts}
use Rattle.lola_tree.specs.Width.{Scope as Widths, width, total_width}
use Rattle.lola_tree.specs.Value.{value, value_of_parts}
use Rattle.lola_elab.specs.declared.flat.Flat.{Flat}
use Rattle.lola_elab.specs.declared.meaning.Meaning.{Meaning}
use Rattle.lola_elab.specs.declared.meaning.Meaning.TheVariants as meaning
use Rattle.lola_elab.specs.Flat.{flat_width, flat_number}
use Rattle.lola_elab.specs.Small.{IsBuilt, AreBuilt}

abbrev pub Meanings : Type 0
Meanings = List ℕ → Option Meaning

-- only a path of one name stands for something
abbrev pub path_meaning : Meanings → List (List ℕ) → Option Meaning
path_meaning names [] = None
path_meaning names (name ∷ []) = names name
path_meaning names (name ∷ other ∷ more) = None

-- and no name behind an `@` does
abbrev pub meaning_of : Meanings → Ref → Option Meaning
meaning_of names r = if r.source then None else path_meaning names r.path

pub record HasMeaning (names : Meanings) (r : Ref) : Type 0 where
  pub meaning : Meaning
  pub is : meaning_of names r ≡ Some meaning

-- the number of a count: what is written, or that of a constant
abbrev pub constant_of : Option Meaning → Option ℕ
constant_of None = None
constant_of (Some (meaning.Leaf number width)) = None
constant_of (Some (meaning.Constant width value)) = Some value

abbrev pub count_of : Meanings → Count → Option ℕ
count_of names (count.Fixed value at) = Some value
count_of names (count.Const name) = constant_of (names name.name)

-- vectors have 1 to 128 bits, and constants are numbers of their width
abbrev pub IsVector : Meaning → Type 0
IsVector (meaning.Leaf number width) = (1 ≤ width) × (width ≤ 128)
IsVector (meaning.Constant width value) = FitsWidth width value

pub record AreVectors (names : Meanings) : Type 0 where
  pub each : (name : List ℕ) (m : Meaning) → names name ≡ Some m → IsVector m

-- the names are those of a scope, and the leaves have these widths
pub record AreOf (names : Meanings) (scope : Widths) (widths : List ℕ) : Type 0 where
  pub counts : (c : Count) → scope.count c ≡ count_of names c
  pub leaf : (r : Ref) (number width : ℕ) → meaning_of names r ≡ Some (meaning.Leaf number width) →
      (scope.width r ≡ Some width) × (scope.number r ≡ None) × (slice_get widths number ≡ Some width)
  pub constant : (r : Ref) (width value : ℕ) → meaning_of names r ≡ Some (meaning.Constant width value) →
      (scope.width r ≡ Some width) × (scope.number r ≡ Some value)

-- names that stand for leaves have the leaves' numbers
abbrev pub ReadsLeaves : Meanings → (Ref → ℕ → ℕ) → List ℕ → Type 0
ReadsLeaves names read numbers =
    (r : Ref) (number width : ℕ) → meaning_of names r ≡ Some (meaning.Leaf number width) → read r 0 ≡ slice_index_or numbers number 0

-- an expression over leaves has a tree's width and value, whatever the leaves' numbers are
pub record IsFlatOf (names : Meanings) (e : Tree) (flat : Flat) (wide : ℕ) : Type 0 where
  pub built : IsBuilt (HasMeaning names) e
  pub positive : 1 ≤ wide
  pub at_most : wide ≤ 128
  pub tree_width : (scope : Widths) (widths : List ℕ) → AreOf names scope widths → width scope e ≡ Some wide
  pub leaf_width : (scope : Widths) (widths : List ℕ) → AreOf names scope widths → flat_width widths flat ≡ Some wide
  pub number : (scope : Widths) (widths : List ℕ) → AreOf names scope widths → (read : Ref → ℕ → ℕ) (numbers : List ℕ) → ReadsLeaves names read numbers →
      flat_number widths flat numbers ≡ value scope e read

-- it has none: it isn't built, or has no width
abbrev pub HasNoFlat : Meanings → Tree → Type 0
HasNoFlat names e = (scope : Widths) (widths : List ℕ) → AreOf names scope widths → IsBuilt (HasMeaning names) e → (wide : ℕ) → width scope e ≡ Some wide → ⊥

-- no number below a bound
abbrev pub NotBelow : Option ℕ → ℕ → Type 0
NotBelow None bound = Unit {0}
NotBelow (Some n) bound = bound ≤ n

-- the parts of a concatenation together, which may be any number of bits
pub record ArePartsFlat (names : Meanings) (parts : Parts) (flat : Flat) (wide : ℕ) : Type 0 where
  pub built : AreBuilt (HasMeaning names) parts
  pub tree_width : (scope : Widths) (widths : List ℕ) → AreOf names scope widths → total_width scope parts ≡ Some wide
  pub leaf_width : (scope : Widths) (widths : List ℕ) → AreOf names scope widths → flat_width widths flat ≡ Some wide
  pub number : (scope : Widths) (widths : List ℕ) → AreOf names scope widths → (read : Ref → ℕ → ℕ) (numbers : List ℕ) → ReadsLeaves names read numbers →
      flat_number widths flat numbers ≡ value_of_parts scope parts read

-- they aren't built, have no width, or come to more than 128 bits
abbrev pub HaveNoFlat : Meanings → Parts → Type 0
HaveNoFlat names parts =
    (scope : Widths) (widths : List ℕ) → AreOf names scope widths → AreBuilt (HasMeaning names) parts → (wide : ℕ) → total_width scope parts ≡ Some wide → wide ≤ 128 → ⊥
