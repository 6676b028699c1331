-- The steps of every lowering repeat: those of operators, of reading an element and of writing one.
use Rattle.std.proofs.Common.{ℕ, ◌+◌, ◌/◌, ◌%◌, ◌^◌, List, [], ◌∷◌, ◌++◌, take, drop, length, Bool, true, false, cond, Some}
use Rattle.std.specs.Prelude.{nat_eq}
use Rattle.lola_bits.specs.declared.op.Op.{Op}
use Rattle.lola_bits.specs.declared.op.Op.TheVariants as op
use Rattle.lola_alg.specs.Steps.{Step, into, each_step, pairs_step, not_step, both_step, either_step, differ_step, choose_step, adder_step, carry_step, difference_step, fold_step, equal_here, equal_step, less_here, less_step, alone, negated_alone, moves_step, turns_step, moved_up, moved_down, moved_filled, op_step, first, halve_step, read_step, is_place_from, write_from}
use Rattle.lola_net.specs.declared.node.Node.{Node}
use Rattle.lola_gate.specs.Gates.{flipped, gates_calls}
use Rattle.lola_gate.specs.Repeated.{Repeated}
use Rattle.lola_gate.proofs.Repeats.{then_repeated, made_repeated, pairs_repeated, both_repeated, either_repeated, differ_repeated}

each_repeated : {A B : Type 0} (f : A → Step (List Node) B) → ((x : A) → Repeated (f x)) → (xs : List A) → Repeated (each_step f xs)
each_repeated f r [] = made_repeated []
each_repeated f r (x ∷ xs) = then_repeated (f x) (λ y e. into (each_step f xs e) (λ ys g. Some (g, y ∷ ys))) (r x)
    (λ y. then_repeated (each_step f xs) (λ ys g. Some (g, y ∷ ys)) (each_repeated f r xs) (λ ys. made_repeated (y ∷ ys)))

choose_repeated : (t x y : ℕ) → Repeated (choose_step gates_calls t x y)
choose_repeated t x y =
    then_repeated (both_step gates_calls t x) (λ one e. into (gates_calls.both e (flipped t) y) (λ two f. into (gates_calls.both f (flipped one) (flipped two)) (λ neither g. Some (g, flipped neither)))) (both_repeated t x)
    (λ one. then_repeated (both_step gates_calls (flipped t) y) (λ two f. into (gates_calls.both f (flipped one) (flipped two)) (λ neither g. Some (g, flipped neither))) (both_repeated (flipped t) y)
    (λ two. then_repeated (both_step gates_calls (flipped one) (flipped two)) (λ neither g. Some (g, flipped neither)) (both_repeated (flipped one) (flipped two)) (λ neither. made_repeated (flipped neither))))

adder_repeated : (x y carry : ℕ) → Repeated (adder_step gates_calls x y carry)
adder_repeated x y carry =
    then_repeated (differ_step gates_calls x y) _ (differ_repeated x y) (λ p.
    then_repeated (differ_step gates_calls p carry) _ (differ_repeated p carry) (λ s.
    then_repeated (both_step gates_calls x y) _ (both_repeated x y) (λ made.
    then_repeated (both_step gates_calls p carry) _ (both_repeated p carry) (λ passed.
    then_repeated (either_step gates_calls made passed) _ (either_repeated made passed) (λ next. made_repeated (s, next))))))

carry_repeated : (xs ys : List ℕ) (carry : ℕ) → Repeated (carry_step gates_calls xs ys carry)
carry_repeated [] ys carry = made_repeated []
carry_repeated (x ∷ xs) [] carry = made_repeated []
carry_repeated (x ∷ xs) (y ∷ ys) carry = then_repeated (adder_step gates_calls x y carry) (λ r e. into (carry_step gates_calls xs ys r.1 e) (λ zs f. Some (f, r.0 ∷ zs))) (adder_repeated x y carry)
    (λ r. then_repeated (carry_step gates_calls xs ys r.1) (λ zs f. Some (f, r.0 ∷ zs)) (carry_repeated xs ys r.1) (λ zs. made_repeated (r.0 ∷ zs)))

difference_repeated : (xs ys : List ℕ) → Repeated (difference_step gates_calls xs ys)
difference_repeated xs ys = then_repeated (each_step (not_step gates_calls) ys) (λ ns e. carry_step gates_calls xs ns 1 e) (each_repeated (not_step gates_calls) (λ a. made_repeated (flipped a)) ys) (λ ns. carry_repeated xs ns 1)

fold_repeated : (f : ℕ → ℕ → ℕ → Step (List Node) ℕ) → ((x y so : ℕ) → Repeated (f x y so)) → (xs ys : List ℕ) (so : ℕ) → Repeated (fold_step gates_calls f xs ys so)
fold_repeated f r [] ys so = made_repeated so
fold_repeated f r (x ∷ xs) [] so = made_repeated so
fold_repeated f r (x ∷ xs) (y ∷ ys) so = then_repeated (f x y so) (λ now e. fold_step gates_calls f xs ys now e) (r x y so) (λ now. fold_repeated f r xs ys now)

equal_repeated : (xs ys : List ℕ) → Repeated (equal_step gates_calls xs ys)
equal_repeated xs ys = fold_repeated (equal_here gates_calls)
    (λ x y so. then_repeated (differ_step gates_calls x y) (λ p e. gates_calls.both e so (flipped p)) (differ_repeated x y) (λ p. both_repeated so (flipped p))) xs ys 1

less_repeated : (xs ys : List ℕ) → Repeated (less_step gates_calls xs ys)
less_repeated xs ys = fold_repeated (less_here gates_calls)
    (λ x y so. then_repeated (differ_step gates_calls x y) (λ p e. choose_step gates_calls p y so e) (differ_repeated x y) (λ p. choose_repeated p y so)) xs ys 0

alone_repeated : (s : Step (List Node) ℕ) → Repeated s → Repeated (λ d. alone gates_calls (s d))
alone_repeated s r = then_repeated s (λ x d. Some (d, x ∷ [])) r (λ x. made_repeated (x ∷ []))

negated_repeated : (s : Step (List Node) ℕ) → Repeated s → Repeated (λ d. negated_alone gates_calls (s d))
negated_repeated s r = then_repeated s (λ x d. Some (d, flipped x ∷ [])) r (λ x. made_repeated (flipped x ∷ []))

chosen_repeated : (b : ℕ) (xs ys : List ℕ) → Repeated (pairs_step (choose_step gates_calls b) xs ys)
chosen_repeated b xs ys = pairs_repeated (choose_step gates_calls b) (choose_repeated b) xs ys

moves_repeated : (moved : ℕ → List ℕ → List ℕ) (place : ℕ) (bs xs : List ℕ) → Repeated (moves_step gates_calls moved place bs xs)
moves_repeated moved place [] xs = made_repeated xs
moves_repeated moved place (b ∷ bs) xs = then_repeated (pairs_step (choose_step gates_calls b) (moved (2 ^ place) xs) xs) (λ ys e. moves_step gates_calls moved (place + 1) bs ys e)
    (chosen_repeated b (moved (2 ^ place) xs) xs) (λ ys. moves_repeated moved (place + 1) bs ys)

cond_repeated : {X : Type 0} (t : Bool) (r s : Step (List Node) X) → Repeated r → Repeated s → Repeated (λ d. cond t (r d) (s d))
cond_repeated true r s x y = x
cond_repeated false r s x y = y

turns_repeated : (place : ℕ) (bs xs : List ℕ) → Repeated (turns_step gates_calls place bs xs)
turns_repeated place [] xs = made_repeated xs
turns_repeated place (b ∷ bs) xs =
    let n = 2 ^ place % length xs in
    cond_repeated (nat_eq n 0) (turns_step gates_calls (place + 1) bs xs)
    (λ d. into (pairs_step (choose_step gates_calls b) (drop n xs ++ take n xs) xs d) (λ ys e. turns_step gates_calls (place + 1) bs ys e))
    (turns_repeated (place + 1) bs xs)
    (then_repeated (pairs_step (choose_step gates_calls b) (drop n xs ++ take n xs) xs) (λ ys e. turns_step gates_calls (place + 1) bs ys e) (chosen_repeated b (drop n xs ++ take n xs) xs)
    (λ ys. turns_repeated (place + 1) bs ys))

pub op_repeated : (o : Op) (args : List (List ℕ)) → Repeated (op_step gates_calls o args)
op_repeated op.Not (x ∷ []) = each_repeated (not_step gates_calls) (λ a. made_repeated (flipped a)) x
op_repeated op.And (x ∷ y ∷ []) = pairs_repeated (both_step gates_calls) both_repeated x y
op_repeated op.Or (x ∷ y ∷ []) = pairs_repeated (either_step gates_calls) either_repeated x y
op_repeated op.Xor (x ∷ y ∷ []) = pairs_repeated (differ_step gates_calls) differ_repeated x y
op_repeated op.Add (x ∷ y ∷ []) = carry_repeated x y 0
op_repeated op.Sub (x ∷ y ∷ []) = difference_repeated x y
op_repeated op.Eq (x ∷ y ∷ []) = alone_repeated (equal_step gates_calls x y) (equal_repeated x y)
op_repeated op.Ne (x ∷ y ∷ []) = negated_repeated (equal_step gates_calls x y) (equal_repeated x y)
op_repeated op.Lt (x ∷ y ∷ []) = alone_repeated (less_step gates_calls x y) (less_repeated x y)
op_repeated op.Ge (x ∷ y ∷ []) = negated_repeated (less_step gates_calls x y) (less_repeated x y)
op_repeated op.Gt (x ∷ y ∷ []) = alone_repeated (less_step gates_calls y x) (less_repeated y x)
op_repeated op.Le (x ∷ y ∷ []) = negated_repeated (less_step gates_calls y x) (less_repeated y x)
op_repeated op.Mux ((t ∷ []) ∷ x ∷ y ∷ []) = chosen_repeated t x y
op_repeated op.Shl (x ∷ y ∷ []) = moves_repeated (moved_up 0) 0 y x
op_repeated op.Shr (x ∷ y ∷ []) = moves_repeated (moved_down 0) 0 y x
op_repeated op.Asr (x ∷ y ∷ []) = moves_repeated moved_filled 0 y x
op_repeated op.Ror (x ∷ y ∷ []) = turns_repeated 0 y x
op_repeated other args = made_repeated []

halve_repeated : (b : ℕ) (elements : List (List ℕ)) → Repeated (halve_step gates_calls b elements)
halve_repeated b [] = made_repeated []
halve_repeated b (x ∷ []) = made_repeated []
halve_repeated b (x ∷ y ∷ more) = then_repeated (pairs_step (choose_step gates_calls b) y x) (λ z e. into (halve_step gates_calls b more e) (λ zs f. Some (f, z ∷ zs))) (chosen_repeated b y x)
    (λ z. then_repeated (halve_step gates_calls b more) (λ zs f. Some (f, z ∷ zs)) (halve_repeated b more) (λ zs. made_repeated (z ∷ zs)))

pub read_repeated : (elements : List (List ℕ)) (place : List ℕ) → Repeated (read_step gates_calls elements place)
read_repeated elements [] = made_repeated (first elements)
read_repeated elements (b ∷ bs) = then_repeated (halve_step gates_calls b elements) (λ half e. read_step gates_calls half bs e) (halve_repeated b elements) (λ half. read_repeated half bs)

is_place_repeated : (bs : List ℕ) (m so : ℕ) → Repeated (is_place_from gates_calls bs m so)
is_place_repeated [] m so = made_repeated so
is_place_repeated (b ∷ bs) m so =
    cond_repeated (nat_eq (m % 2) 1) (λ d. into (gates_calls.both d so b) (λ now e. is_place_from gates_calls bs (m / 2) now e)) (λ d. into (gates_calls.both d so (flipped b)) (λ now e. is_place_from gates_calls bs (m / 2) now e))
    (then_repeated (both_step gates_calls so b) (λ now e. is_place_from gates_calls bs (m / 2) now e) (both_repeated so b) (λ now. is_place_repeated bs (m / 2) now))
    (then_repeated (both_step gates_calls so (flipped b)) (λ now e. is_place_from gates_calls bs (m / 2) now e) (both_repeated so (flipped b)) (λ now. is_place_repeated bs (m / 2) now))

pub write_repeated : (place value : List ℕ) (m : ℕ) (elements : List (List ℕ)) → Repeated (write_from gates_calls place value m elements)
write_repeated place value m [] = made_repeated []
write_repeated place value m (old ∷ more) =
    then_repeated (is_place_from gates_calls place m 1)
    (λ here e. into (pairs_step (choose_step gates_calls here) value old e) (λ new f. into (write_from gates_calls place value (m + 1) more f) (λ rest g. Some (g, new ∷ rest)))) (is_place_repeated place m 1)
    (λ here. then_repeated (pairs_step (choose_step gates_calls here) value old) (λ new f. into (write_from gates_calls place value (m + 1) more f) (λ rest g. Some (g, new ∷ rest))) (chosen_repeated here value old)
    (λ new. then_repeated (write_from gates_calls place value (m + 1) more) (λ rest g. Some (g, new ∷ rest)) (write_repeated place value (m + 1) more) (λ rest. made_repeated (new ∷ rest))))
