-- What names must stand for, so that an expression over signals has the width and the value of one over names.
use Rattle.std.specs.Prelude.{◌≡◌, ℕ, ◌^◌, ◌<◌, ◌≤◌, List, length, replicate, Some}
use Rattle.lola_bits.specs.Lists.{IsIn}
use Rattle.lola_alg.specs.Means.{IsWidth, number_in}
use Rattle.lola_flat.specs.Tree.{ExprTree}
use Rattle.lola_flat.specs.Value.{Env, elements, Fits}
use Rattle.lola_flat.specs.Value as flat
use Rattle.lola_tree.specs.declared.named.Count.{Count}
use Rattle.lola_tree.specs.declared.named.Ref.{Ref}
use Rattle.lola_tree.specs.Tree.{Tree}
use Rattle.lola_tree.specs.Width.{Scope}
use Rattle.lola_tree.specs.Value.{value, or_read}
use Rattle.lola_tree.specs.design.Chains.{name_in, names_in, elements_in}
use Rattle.lola_renamed.specs.Renamed.{Meant}

-- an expression over signals fits, in a width
pub record FitsIn (W : Env ℕ) (e : ExprTree) (w : ℕ) : Type 0 where
  pub is : flat.width W e ≡ w
  pub fits : Fits W e
  pub wide : IsWidth w

-- a signal is an array of 2 to k elements of a width
pub record IsArrayAt (W : Env ℕ) (n w k : ℕ) : Type 0 where
  pub inside : n < length W.signals
  pub is : elements W n ≡ replicate (2 ^ k) w
  pub wide : IsWidth w
  pub places : (1 ≤ k) × (k ≤ 10)

-- names that are listed
abbrev pub Among : List Ref → Ref → Type 0
Among listed r = IsIn r listed

-- all vectors that occur in an expression are such names; a constant is no vector
abbrev pub AreRead : Scope → (Ref → Type 0) → Tree → Type 0
AreRead scope P e = (r : Ref) → IsIn r (names_in scope e) → P r

-- and all arrays of which it reads an element
abbrev pub AreIndexed : (Ref → Type 0) → Tree → Type 0
AreIndexed Q e = (a : Ref × Tree) → IsIn a (elements_in e) → Q a.0

-- names stand for expressions of their widths: a name for a vector that is read and has a width, a name for an array
-- that is read and has elements, and a small count for its number
pub record Widens (scope : Scope) (names : Meant) (W : Env ℕ) (P Q : Ref → Type 0) : Type 0 where
  pub vector : (r : Ref) → ((s : Ref) → IsIn s (name_in scope r) → P s) → (w : ℕ) → scope.width r ≡ Some w → FitsIn W (names.vector r) w
  pub array : (r : Ref) → Q r → (w k : ℕ) → scope.element r ≡ Some w → scope.place r ≡ Some k → IsArrayAt W (names.array r) w k
  pub count : (c : Count) (n : ℕ) → scope.count c ≡ Some n → n ≤ 1024 → names.count c ≡ n

-- and for what they are: a vector with a width for its number, or that of a constant, and an array for its elements
pub record Reads (scope : Scope) (names : Meant) (W N : Env ℕ) (P Q : Ref → Type 0) (read : Ref → ℕ → ℕ) : Type 0 where
  pub vector : (r : Ref) → ((s : Ref) → IsIn s (name_in scope r) → P s) → (w : ℕ) → scope.width r ≡ Some w → flat.value W N (names.vector r) ≡ or_read (scope.number r) (read r 0)
  pub array : (r : Ref) → Q r → (w k : ℕ) → scope.element r ≡ Some w → scope.place r ≡ Some k → (i : ℕ) → i < 2 ^ k → number_in (elements N (names.array r)) i ≡ read r i

-- each place of an array that is read lies within it
abbrev pub AreInside : Scope → Tree → (Ref → ℕ → ℕ) → Type 0
AreInside scope e read = (a : Ref × Tree) → IsIn a (elements_in e) → (k : ℕ) → scope.place a.0 ≡ Some k → value scope a.1 read < 2 ^ k
