-- Where an algebra has a place for each gate, each lowering has places for all of its gates.
use Rattle.std.proofs.Common.{ℕ, ◌+◌, ◌/◌, ◌%◌, ◌^◌, Bool, true, false, cond, nat_eq, List, [], ◌∷◌, ◌++◌, length, take, drop, Option, Some, None}
use Rattle.lola_bits.specs.declared.op.Op.{Op}
use Rattle.lola_bits.specs.declared.op.Op.TheVariants as op
use Rattle.lola_alg.specs.Algebra.{Calls}
use Rattle.lola_alg.specs.Steps.{Step, HasPlaces, into, each_step, pairs_step, not_step, both_step, either_step, differ_step, choose_step, adder_step, carry_step, difference_step, fold_step, equal_here, equal_step, less_here, less_step, alone, negated_alone, moves_step, turns_step, moved_up, moved_down, moved_filled, op_step, halve_step, read_step, is_place_from, write_from}

into_places : {D X Y : Type 0} (made : Option (D × X)) (next : X → Step D Y) → HasPlaces made → ((x : X) (d : D) → HasPlaces (next x d)) → HasPlaces (into made next)
into_places None next here then = here
into_places (Some made) next here then = then made.1 made.0

cond_places : {D X : Type 0} (b : Bool) (x y : Option (D × X)) → HasPlaces x → HasPlaces y → HasPlaces (cond b x y)
cond_places true x y hx hy = hx
cond_places false x y hx hy = hy

each_places : {D A B : Type 0} (f : A → Step D B) → ((a : A) (d : D) → HasPlaces (f a d)) → (xs : List A) (d : D) → HasPlaces (each_step f xs d)
each_places f here [] d = tt
each_places f here (x ∷ xs) d =
    into_places (f x d) (λ y e. into (each_step f xs e) (λ ys g. Some (g, y ∷ ys))) (here x d)
    (λ y e. into_places (each_step f xs e) (λ ys g. Some (g, y ∷ ys)) (each_places f here xs e) (λ ys g. tt))

pairs_places : {D A B : Type 0} (f : A → A → Step D B) → ((a b : A) (d : D) → HasPlaces (f a b d)) → (xs ys : List A) (d : D) → HasPlaces (pairs_step f xs ys d)
pairs_places f here [] ys d = tt
pairs_places f here (x ∷ xs) [] d = tt
pairs_places f here (x ∷ xs) (y ∷ ys) d =
    into_places (f x y d) (λ z e. into (pairs_step f xs ys e) (λ zs g. Some (g, z ∷ zs))) (here x y d)
    (λ z e. into_places (pairs_step f xs ys e) (λ zs g. Some (g, z ∷ zs)) (pairs_places f here xs ys e) (λ zs g. tt))

module _ {D B : Type 0} (c : Calls D B) (here : (d : D) (a b : B) → HasPlaces (c.both d a b)) where
  either_places : (a b : B) (d : D) → HasPlaces (either_step c a b d)
  either_places a b d =
      let x = c.negated d a in
      let y = c.negated x.0 b in
      into_places (c.both y.0 x.1 y.1) (λ z e. Some (c.negated e z)) (here y.0 x.1 y.1) (λ z e. tt)

  differ_places : (a b : B) (d : D) → HasPlaces (differ_step c a b d)
  differ_places a b d =
      into_places (c.both d a b) _ (here d a b)
      (λ two e.
      let n = c.negated e two in
      let x = c.negated n.0 a in
      let y = c.negated x.0 b in
      into_places (c.both y.0 x.1 y.1) _ (here y.0 x.1 y.1) (λ none f. let m = c.negated f none in here m.0 n.1 m.1))

  choose_places : (t x y : B) (d : D) → HasPlaces (choose_step c t x y d)
  choose_places t x y d =
      into_places (c.both d t x) _ (here d t x)
      (λ one e.
      let n = c.negated e one in
      let u = c.negated n.0 t in
      into_places (c.both u.0 u.1 y) _ (here u.0 u.1 y)
      (λ two f.
      let m = c.negated f two in
      into_places (c.both m.0 n.1 m.1) _ (here m.0 n.1 m.1) (λ neither g. tt)))

  adder_places : (x y carry : B) (d : D) → HasPlaces (adder_step c x y carry d)
  adder_places x y carry d =
      into_places (differ_step c x y d) _ (differ_places x y d)
      (λ p e. into_places (differ_step c p carry e) _ (differ_places p carry e)
      (λ s f. into_places (c.both f x y) _ (here f x y)
      (λ made g. into_places (c.both g p carry) _ (here g p carry)
      (λ passed h. into_places (either_step c made passed h) _ (either_places made passed h) (λ next i. tt)))))

  carry_places : (xs ys : List B) (carry : B) (d : D) → HasPlaces (carry_step c xs ys carry d)
  carry_places [] ys carry d = tt
  carry_places (x ∷ xs) [] carry d = tt
  carry_places (x ∷ xs) (y ∷ ys) carry d =
      into_places (adder_step c x y carry d) _ (adder_places x y carry d)
      (λ r e. into_places (carry_step c xs ys r.1 e) _ (carry_places xs ys r.1 e) (λ zs f. tt))

  difference_places : (xs ys : List B) (d : D) → HasPlaces (difference_step c xs ys d)
  difference_places xs ys d =
      into_places (each_step (not_step c) ys d) _ (each_places (not_step c) (λ a e. tt) ys d)
      (λ ns e. let one = c.constant e true in carry_places xs ns one.1 one.0)

  fold_places : (f : B → B → B → Step D B) → ((x y so : B) (d : D) → HasPlaces (f x y so d)) → (xs ys : List B) (so : B) (d : D) → HasPlaces (fold_step c f xs ys so d)
  fold_places f each [] ys so d = tt
  fold_places f each (x ∷ xs) [] so d = tt
  fold_places f each (x ∷ xs) (y ∷ ys) so d = into_places (f x y so d) _ (each x y so d) (λ now e. fold_places f each xs ys now e)

  equal_places : (xs ys : List B) (d : D) → HasPlaces (equal_step c xs ys d)
  equal_places xs ys d =
      let one = c.constant d true in
      fold_places (equal_here c) (λ x y so e. into_places (differ_step c x y e) _ (differ_places x y e) (λ p f. let n = c.negated f p in here n.0 so n.1)) xs ys one.1 one.0

  less_places : (xs ys : List B) (d : D) → HasPlaces (less_step c xs ys d)
  less_places xs ys d =
      let zero = c.constant d false in
      fold_places (less_here c) (λ x y so e. into_places (differ_step c x y e) _ (differ_places x y e) (λ p f. choose_places p y so f)) xs ys zero.1 zero.0

  alone_places : (made : Option (D × B)) → HasPlaces made → HasPlaces (alone c made)
  alone_places made here' = into_places made _ here' (λ x d. tt)

  negated_places : (made : Option (D × B)) → HasPlaces made → HasPlaces (negated_alone c made)
  negated_places made here' = into_places made _ here' (λ x d. tt)

  moves_places : (moved : ℕ → List B → List B) (place : ℕ) (bs xs : List B) (d : D) → HasPlaces (moves_step c moved place bs xs d)
  moves_places moved place [] xs d = tt
  moves_places moved place (b ∷ bs) xs d =
      into_places (pairs_step (choose_step c b) (moved (2 ^ place) xs) xs d) _ (pairs_places (choose_step c b) (choose_places b) (moved (2 ^ place) xs) xs d)
      (λ ys e. moves_places moved (place + 1) bs ys e)

  turns_places : (place : ℕ) (bs xs : List B) (d : D) → HasPlaces (turns_step c place bs xs d)
  turns_places place [] xs d = tt
  turns_places place (b ∷ bs) xs d =
      let n = 2 ^ place % length xs in
      cond_places (nat_eq n 0) _ _ (turns_places (place + 1) bs xs d)
      (into_places (pairs_step (choose_step c b) (drop n xs ++ take n xs) xs d) _ (pairs_places (choose_step c b) (choose_places b) (drop n xs ++ take n xs) xs d)
      (λ ys e. turns_places (place + 1) bs ys e))

  pub op_places : (o : Op) (args : List (List B)) (d : D) → HasPlaces (op_step c o args d)
  op_places op.Not (x ∷ []) d = each_places (not_step c) (λ a e. tt) x d
  op_places op.And (x ∷ y ∷ []) d = pairs_places (both_step c) (λ a b e. here e a b) x y d
  op_places op.Or (x ∷ y ∷ []) d = pairs_places (either_step c) either_places x y d
  op_places op.Xor (x ∷ y ∷ []) d = pairs_places (differ_step c) differ_places x y d
  op_places op.Add (x ∷ y ∷ []) d = let zero = c.constant d false in carry_places x y zero.1 zero.0
  op_places op.Sub (x ∷ y ∷ []) d = difference_places x y d
  op_places op.Eq (x ∷ y ∷ []) d = alone_places (equal_step c x y d) (equal_places x y d)
  op_places op.Ne (x ∷ y ∷ []) d = negated_places (equal_step c x y d) (equal_places x y d)
  op_places op.Lt (x ∷ y ∷ []) d = alone_places (less_step c x y d) (less_places x y d)
  op_places op.Ge (x ∷ y ∷ []) d = negated_places (less_step c x y d) (less_places x y d)
  op_places op.Gt (x ∷ y ∷ []) d = alone_places (less_step c y x d) (less_places y x d)
  op_places op.Le (x ∷ y ∷ []) d = negated_places (less_step c y x d) (less_places y x d)
  op_places op.Mux ((t ∷ []) ∷ x ∷ y ∷ []) d = pairs_places (choose_step c t) (choose_places t) x y d
  op_places op.Shl (x ∷ y ∷ []) d = let zero = c.constant d false in moves_places (moved_up zero.1) 0 y x zero.0
  op_places op.Shr (x ∷ y ∷ []) d = let zero = c.constant d false in moves_places (moved_down zero.1) 0 y x zero.0
  op_places op.Asr (x ∷ y ∷ []) d = moves_places moved_filled 0 y x d
  op_places op.Ror (x ∷ y ∷ []) d = turns_places 0 y x d
  op_places other args d = tt

  halve_places : (b : B) (elements : List (List B)) (d : D) → HasPlaces (halve_step c b elements d)
  halve_places b [] d = tt
  halve_places b (x ∷ []) d = tt
  halve_places b (x ∷ y ∷ more) d =
      into_places (pairs_step (choose_step c b) y x d) _ (pairs_places (choose_step c b) (choose_places b) y x d)
      (λ z e. into_places (halve_step c b more e) _ (halve_places b more e) (λ zs f. tt))

  pub read_places : (elements : List (List B)) (place : List B) (d : D) → HasPlaces (read_step c elements place d)
  read_places elements [] d = tt
  read_places elements (b ∷ bs) d = into_places (halve_step c b elements d) _ (halve_places b elements d) (λ half e. read_places half bs e)

  is_place_places : (bs : List B) (m : ℕ) (so : B) (d : D) → HasPlaces (is_place_from c bs m so d)
  is_place_places [] m so d = tt
  is_place_places (b ∷ bs) m so d =
      cond_places (nat_eq (m % 2) 1) _ _
      (into_places (c.both d so b) _ (here d so b) (λ now e. is_place_places bs (m / 2) now e))
      (let n = c.negated d b in into_places (c.both n.0 so n.1) _ (here n.0 so n.1) (λ now e. is_place_places bs (m / 2) now e))

  pub write_places : (place value : List B) (m : ℕ) (elements : List (List B)) (d : D) → HasPlaces (write_from c place value m elements d)
  write_places place value m [] d = tt
  write_places place value m (old ∷ more) d =
      let one = c.constant d true in
      into_places (is_place_from c place m one.1 one.0) _ (is_place_places place m one.1 one.0)
      (λ at e. into_places (pairs_step (choose_step c at) value old e) _ (pairs_places (choose_step c at) (choose_places at) value old e)
      (λ new f. into_places (write_from c place value (m + 1) more f) _ (write_places place value (m + 1) more f) (λ rest g. tt)))
