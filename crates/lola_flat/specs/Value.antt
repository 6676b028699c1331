-- What an expression over signals is: a number, in a width. Elements of signals and values from outside stand in
-- tables by the numbers of signals.
use Rattle.std.specs.Prelude.{◌≡◌, ℕ, ◌+◌, ◌-◌, ◌^◌, ◌<◌, ◌≤◌, List, [], ◌∷◌, map, length, replicate, get_or, ◌++◌}
use Rattle.std.specs.List.{AllByRecursion}
use Rattle.lola_bits.specs.Number.{slice_of, joined}
use Rattle.lola_alg.specs.Means.{IsWidth, Suits, op_width, op_works, op_number, number_in}
use Rattle.lola_flat.specs.Tree.{ExprTree, number, signal, from_outside, element, slice, join, repeat, apply, ExprTrees, no_expr, one_expr}

-- something for each element of each signal, and for the value that each pad is given from outside
pub record Env (X : Type 0) : Type 0 where
  pub signals : List (List X)
  pub outside : List X

abbrev pub env : {X : Type 0} → List (List X) → List X → Env X
env signals outside = record { signals = signals; outside = outside }

abbrev pub mapped : {X Y : Type 0} → (X → Y) → Env X → Env Y
mapped f e = env (map (map f) e.signals) (map f e.outside)

-- the elements of a signal; that of a vector is the first
abbrev pub elements : {X : Type 0} → Env X → ℕ → List X
elements e n = get_or e.signals n []

abbrev pub vector : {X : Type 0} → X → Env X → ℕ → X
vector z e n = get_or (elements e n) 0 z

-- widths and numbers of vectors one behind another, the first the highest
abbrev pub sum_of : List ℕ → ℕ
sum_of [] = 0
sum_of (w ∷ ws) = w + sum_of ws

abbrev pub joined_all : List ℕ → List ℕ → ℕ
joined_all (w ∷ ws) (n ∷ ns) = joined n (sum_of ws) (joined_all ws ns)
joined_all ws ns = 0

-- the width of an expression, where signals and outside values have these widths
abbrev mutual
  pub width : Env ℕ → ExprTree → ℕ
  width W (number w n) = w
  width W (signal n) = vector 0 W n
  width W (from_outside n) = get_or W.outside n 0
  width W (element n place) = vector 0 W n
  width W (slice of high low) = high - low + 1
  width W (join parts) = sum_of (widths W parts)
  width W (repeat part times) = sum_of (replicate times (width W part))
  width W (apply o args) = op_width o (widths W args)

  pub widths : Env ℕ → ExprTrees → List ℕ
  widths W no_expr = []
  widths W (one_expr e es) = width W e ∷ widths W es

-- its number, where they also have these numbers. A repeated part is the part joined to itself so many times
abbrev mutual
  pub value : Env ℕ → Env ℕ → ExprTree → ℕ
  value W N (number w n) = n
  value W N (signal n) = vector 0 N n
  value W N (from_outside n) = get_or N.outside n 0
  value W N (element n place) = number_in (elements N n) (value W N place)
  value W N (slice of high low) = slice_of (value W N of) high low
  value W N (join parts) = joined_all (widths W parts) (values W N parts)
  value W N (repeat part times) = joined_all (replicate times (width W part)) (replicate times (value W N part))
  value W N (apply o args) = op_number o (op_works o (widths W args)) (values W N args)

  pub values : Env ℕ → Env ℕ → ExprTrees → List ℕ
  values W N no_expr = []
  values W N (one_expr e es) = value W N e ∷ values W N es

-- the widths of elements are that of one vector
pub record IsVectorOf (ws : List ℕ) : Type 0 where
  pub one : length ws ≡ 1
  pub wide : IsWidth (get_or ws 0 0)

-- they are those of an array, which is read at a place of this width
pub record IsArrayOf (ws : List ℕ) (place : ℕ) : Type 0 where
  pub wide : IsWidth (get_or ws 0 0)
  pub places : (1 ≤ place) × (place ≤ 10)
  pub count : length ws ≡ 2 ^ place
  pub each : AllByRecursion (λ w. w ≡ get_or ws 0 0) ws

-- signals are there, and the widths in an expression suit each other: a number lies below 2 to its width, a slice within its vector, an
-- operator has the arguments that it needs, and each vector is 1 to 128 bits wide
abbrev mutual
  pub Fits : Env ℕ → ExprTree → Type 0
  Fits W (number w n) = IsWidth w × (n < 2 ^ w)
  Fits W (signal n) = (n < length W.signals) × IsVectorOf (elements W n)
  Fits W (from_outside n) = (n < length W.outside) × IsWidth (get_or W.outside n 0)
  Fits W (element n place) = (n < length W.signals) × (IsArrayOf (elements W n) (width W place) × Fits W place)
  Fits W (slice of high low) = (high < width W of) × ((low ≤ high) × Fits W of)
  Fits W (join parts) = IsWidth (sum_of (widths W parts)) × AllFit W parts
  Fits W (repeat part times) = IsWidth (sum_of (replicate times (width W part))) × Fits W part
  Fits W (apply o args) = Suits o (widths W args) × AllFit W args

  pub AllFit : Env ℕ → ExprTrees → Type 0
  AllFit W no_expr = Unit {0}
  AllFit W (one_expr e es) = Fits W e × AllFit W es

-- what an expression reads: a vector or an array, a signal by its number, or the outside value of a pad
pub data Read : Type 0 where
  vector_of : (n : ℕ) → Read
  array_of : (n : ℕ) → Read
  outside_of : (n : ℕ) → Read

abbrev mutual
  pub reads : ExprTree → List Read
  reads (number w n) = []
  reads (signal n) = vector_of n ∷ []
  reads (from_outside n) = outside_of n ∷ []
  reads (element n place) = array_of n ∷ reads place
  reads (slice of high low) = reads of
  reads (join parts) = all_reads parts
  reads (repeat part times) = reads part
  reads (apply o args) = all_reads args

  pub all_reads : ExprTrees → List Read
  all_reads no_expr = []
  all_reads (one_expr e es) = reads e ++ all_reads es
