-- The steps of a lowering, one call of the algebra after another: which they are, and in which order.
-- Vectors are lists of bits, the lowest first.
use Rattle.std.specs.Prelude.{◌≡◌, ℕ, ◌+◌, ◌/◌, ◌%◌, ◌^◌, true, false, cond, min, nat_eq, List, [], ◌∷◌, ◌++◌, length, take, drop, replicate, Option, Some, None, Result, Ok, Err}
use Rattle.lola_bits.specs.declared.op.Op.{Op}
use Rattle.lola_bits.specs.declared.op.Op.TheVariants as op
use Rattle.lola_alg.specs.Algebra.{Calls}
use Rattle.lola_alg.specs.declared.algebra.AlgError.{AlgError}
use Rattle.lola_alg.specs.declared.algebra.AlgError.TheVariants.{Full, Memory}

-- a step takes data, and gives data and what it made, or there is no place for a gate of it
abbrev pub Step : Type 0 → Type 0 → Type 0
Step D X = D → Option (D × X)

-- what was made goes into the next step
abbrev pub into : {D X Y : Type 0} → Option (D × X) → (X → Step D Y) → Option (D × Y)
into None next = None
into (Some made) next = next made.1 made.0

-- what was made, all of whose gates have a place
abbrev pub HasPlaces : {D X : Type 0} → Option (D × X) → Type 0
HasPlaces None = ⊥
HasPlaces (Some made) = Unit {0}

-- a step for each bit of a vector, and for each two of two vectors
abbrev pub each_step : {D A B : Type 0} → (A → Step D B) → List A → Step D (List B)
each_step f [] d = Some (d, [])
each_step f (x ∷ xs) d = into (f x d) (λ y e. into (each_step f xs e) (λ ys g. Some (g, y ∷ ys)))

abbrev pub pairs_step : {D A B : Type 0} → (A → A → Step D B) → List A → List A → Step D (List B)
pairs_step f [] ys d = Some (d, [])
pairs_step f (x ∷ xs) [] d = Some (d, [])
pairs_step f (x ∷ xs) (y ∷ ys) d = into (f x y d) (λ z e. into (pairs_step f xs ys e) (λ zs g. Some (g, z ∷ zs)))

-- what a lowering answers: what its steps make, or Full where one of them has no place
abbrev pub Went : {D X V : Type 0} → (V → X) → Option (D × X) → D → Result V AlgError → Type 0
Went view should now (Ok made) = should ≡ Some (now, view made)
Went view should now (Err Full) = should ≡ None
Went view should now (Err Memory) = Unit {0}

module _ {D B : Type 0} (c : Calls D B) where
  -- not a
  abbrev pub not_step : B → Step D B
  not_step a d = Some (c.negated d a)

  -- a and b
  abbrev pub both_step : B → B → Step D B
  both_step a b d = c.both d a b

  -- a or b: not (not a and not b)
  abbrev pub either_step : B → B → Step D B
  either_step a b d =
      let x = c.negated d a in
      let y = c.negated x.0 b in
      into (c.both y.0 x.1 y.1) (λ z e. Some (c.negated e z))

  -- one of them alone: not (a and b) and not (not a and not b)
  abbrev pub differ_step : B → B → Step D B
  differ_step a b d =
      into (c.both d a b) (λ two e.
      let n = c.negated e two in
      let x = c.negated n.0 a in
      let y = c.negated x.0 b in
      into (c.both y.0 x.1 y.1) (λ none f. let m = c.negated f none in c.both m.0 n.1 m.1))

  -- x where t is 1, else y: not (not (t and x) and not (not t and y))
  abbrev pub choose_step : B → B → B → Step D B
  choose_step t x y d =
      into (c.both d t x) (λ first e.
      let n = c.negated e first in
      let u = c.negated n.0 t in
      into (c.both u.0 u.1 y) (λ second f.
      let m = c.negated f second in
      into (c.both m.0 n.1 m.1) (λ neither g. Some (c.negated g neither))))

  -- the sum of two bits and a carry, and the carry that it makes
  abbrev pub adder_step : B → B → B → Step D (B × B)
  adder_step x y carry d =
      into (differ_step x y d) (λ p e.
      into (differ_step p carry e) (λ s f.
      into (c.both f x y) (λ made g.
      into (c.both g p carry) (λ passed h.
      into (either_step made passed h) (λ next i. Some (i, (s, next)))))))

  -- a sum from a carry on, which is made behind the last bit too
  abbrev pub carry_step : List B → List B → B → Step D (List B)
  carry_step [] ys carry d = Some (d, [])
  carry_step (x ∷ xs) [] carry d = Some (d, [])
  carry_step (x ∷ xs) (y ∷ ys) carry d = into (adder_step x y carry d) (λ r e. into (carry_step xs ys r.1 e) (λ zs f. Some (f, r.0 ∷ zs)))

  abbrev pub sum_step : List B → List B → Step D (List B)
  sum_step xs ys d = let zero = c.constant d false in carry_step xs ys zero.1 zero.0

  -- x + ~y from a carry that is 1
  abbrev pub difference_step : List B → List B → Step D (List B)
  difference_step xs ys d = into (each_step not_step ys d) (λ ns e. let one = c.constant e true in carry_step xs ns one.1 one.0)

  -- from the lowest bits on, what is so far goes into the next
  abbrev pub fold_step : (B → B → B → Step D B) → List B → List B → B → Step D B
  fold_step f [] ys so d = Some (d, so)
  fold_step f (x ∷ xs) [] so d = Some (d, so)
  fold_step f (x ∷ xs) (y ∷ ys) so d = into (f x y so d) (λ then e. fold_step f xs ys then e)

  -- equal so far and here
  abbrev pub equal_here : B → B → B → Step D B
  equal_here x y so d = into (differ_step x y d) (λ p e. let n = c.negated e p in c.both n.0 so n.1)

  abbrev pub equal_step : List B → List B → Step D B
  equal_step xs ys d = let one = c.constant d true in fold_step equal_here xs ys one.1 one.0

  -- less by this bit where they differ, and else as so far
  abbrev pub less_here : B → B → B → Step D B
  less_here x y so d = into (differ_step x y d) (λ p e. choose_step p y so e)

  abbrev pub less_step : List B → List B → Step D B
  less_step xs ys d = let zero = c.constant d false in fold_step less_here xs ys zero.1 zero.0

  -- a vector of one bit, and of its negation
  abbrev pub alone : Option (D × B) → Option (D × List B)
  alone made = into made (λ x d. Some (d, x ∷ []))

  abbrev pub negated_alone : Option (D × B) → Option (D × List B)
  negated_alone made = into made (λ x d. let n = c.negated d x in Some (n.0, n.1 ∷ []))

  -- for each bit of the second number, the lowest first: moved by 2 to its place where it is 1
  abbrev pub moves_step : (ℕ → List B → List B) → ℕ → List B → List B → Step D (List B)
  moves_step moved place [] xs d = Some (d, xs)
  moves_step moved place (b ∷ bs) xs d = into (pairs_step (choose_step b) (moved (2 ^ place) xs) xs d) (λ ys e. moves_step moved (place + 1) bs ys e)

  -- the same, where a move by a multiple of the width makes nothing
  abbrev pub turns_step : ℕ → List B → List B → Step D (List B)
  turns_step place [] xs d = Some (d, xs)
  turns_step place (b ∷ bs) xs d =
      let n = 2 ^ place % length xs in
      cond (nat_eq n 0) (turns_step (place + 1) bs xs d)
      (into (pairs_step (choose_step b) (drop n xs ++ take n xs) xs d) (λ ys e. turns_step (place + 1) bs ys e))

-- moved to higher bits, with a bit coming in below
abbrev pub moved_up : {B : Type 0} → B → ℕ → List B → List B
moved_up fill n xs = take (length xs) (replicate (min n (length xs)) fill ++ xs)

-- moved to lower bits, with bits coming in above: one bit, or copies of the highest
abbrev pub moved_down : {B : Type 0} → B → ℕ → List B → List B
moved_down fill n xs = drop n xs ++ replicate (min n (length xs)) fill

abbrev pub highest : {B : Type 0} → List B → ℕ → List B
highest [] n = []
highest (x ∷ []) n = replicate n x
highest (x ∷ y ∷ more) n = highest (y ∷ more) n

abbrev pub moved_filled : {B : Type 0} → ℕ → List B → List B
moved_filled n xs = drop n xs ++ highest xs (min n (length xs))

-- an operator on its arguments; arguments that don't suit it make nothing
abbrev pub op_step : {D B : Type 0} → Calls D B → Op → List (List B) → Step D (List B)
op_step c op.Not (x ∷ []) d = each_step (not_step c) x d
op_step c op.And (x ∷ y ∷ []) d = pairs_step (both_step c) x y d
op_step c op.Or (x ∷ y ∷ []) d = pairs_step (either_step c) x y d
op_step c op.Xor (x ∷ y ∷ []) d = pairs_step (differ_step c) x y d
op_step c op.Add (x ∷ y ∷ []) d = sum_step c x y d
op_step c op.Sub (x ∷ y ∷ []) d = difference_step c x y d
op_step c op.Eq (x ∷ y ∷ []) d = alone c (equal_step c x y d)
op_step c op.Ne (x ∷ y ∷ []) d = negated_alone c (equal_step c x y d)
op_step c op.Lt (x ∷ y ∷ []) d = alone c (less_step c x y d)
op_step c op.Ge (x ∷ y ∷ []) d = negated_alone c (less_step c x y d)
op_step c op.Gt (x ∷ y ∷ []) d = alone c (less_step c y x d)
op_step c op.Le (x ∷ y ∷ []) d = negated_alone c (less_step c y x d)
op_step c op.Mux ((t ∷ []) ∷ x ∷ y ∷ []) d = pairs_step (choose_step c t) x y d
op_step c op.Shl (x ∷ y ∷ []) d = let zero = c.constant d false in moves_step c (moved_up zero.1) 0 y x zero.0
op_step c op.Shr (x ∷ y ∷ []) d = let zero = c.constant d false in moves_step c (moved_down zero.1) 0 y x zero.0
op_step c op.Asr (x ∷ y ∷ []) d = moves_step c moved_filled 0 y x d
op_step c op.Ror (x ∷ y ∷ []) d = turns_step c 0 y x d
op_step c other args d = Some (d, [])

-- the first of some elements
abbrev pub first : {B : Type 0} → List (List B) → List B
first [] = []
first (x ∷ more) = x

module _ {D B : Type 0} (c : Calls D B) where
  -- half of the elements: each second one where the bit is 1
  abbrev pub halve_step : B → List (List B) → Step D (List (List B))
  halve_step b [] d = Some (d, [])
  halve_step b (x ∷ []) d = Some (d, [])
  halve_step b (x ∷ y ∷ more) d = into (pairs_step (choose_step c b) y x d) (λ z e. into (halve_step b more e) (λ zs f. Some (f, z ∷ zs)))

  -- the element at a place
  abbrev pub read_step : List (List B) → List B → Step D (List B)
  read_step elements [] d = Some (d, first elements)
  read_step elements (b ∷ bs) d = into (halve_step b elements d) (λ half e. read_step half bs e)

  -- whether a place is a number, from a bit that says so far
  abbrev pub is_place_from : List B → ℕ → B → Step D B
  is_place_from [] m so d = Some (d, so)
  is_place_from (b ∷ bs) m so d =
      cond (nat_eq (m % 2) 1) (into (c.both d so b) (λ then e. is_place_from bs (m / 2) then e))
      (let n = c.negated d b in into (c.both n.0 so n.1) (λ then e. is_place_from bs (m / 2) then e))

  -- the elements from number m on, where the one at a place becomes the value
  abbrev pub write_from : List B → List B → ℕ → List (List B) → Step D (List (List B))
  write_from place value m [] d = Some (d, [])
  write_from place value m (old ∷ more) d =
      let one = c.constant d true in
      into (is_place_from place m one.1 one.0) (λ here e.
      into (pairs_step (choose_step c here) value old e) (λ new f.
      into (write_from place value (m + 1) more f) (λ rest g. Some (g, new ∷ rest))))
