-- The values that nodes get in order solve their equations, and nothing else does.
use Rattle.std.proofs.Common.{◌≡◌, ℕ, zero, suc, ◌+◌, ◌/◌, ◌%◌, ◌<◌, ◌≤◌, Bool, true, false, not, cond, ◌&&◌, List, [], ◌∷◌, ◌++◌, length, map, refl, sym, ap, ap₂, subst, ◌∙◌, arith, length-append}
use Rattle.std.specs.Prelude.{nat_eq, nat_lt}
use Rattle.std.specs.List.{AllByRecursion}
use Rattle.std.proofs.lemmas.Bool.{and_parts, ltb-true, ltb-false}
use Rattle.lola_net.specs.declared.node.Node.{Node}
use Rattle.lola_net.specs.declared.node.Node.TheVariants.{Free, Latch, Pad, Gate}
use Rattle.lola_net.specs.Literals.{at_place, at_node, literal_of, at_literal}
use Rattle.lola_net.specs.declared.net.Net.{Net}
use Rattle.lola_net.specs.declared.net.Cycle.{Cycle}
use Rattle.lola_net.specs.Run.{Sources, first, value_of, rest_of, values_after, node_values, pad_bit, next_bit, picked}
use Rattle.lola_net.specs.Equations.{due_value, HoldFrom, uses_smaller, ordered_from, is_ordered, HasOneCycle, NextWithin, IsFormed, pad_values, next_values, ShowsSolutions}
use Rattle.lola_net.proofs.Steps.{values_long}

place_before : (xs ys : List Bool) (n : ℕ) → n < length xs → at_place (xs ++ ys) n ≡ at_place xs n
place_before [] ys n e = absurd (omega arith)
place_before (x ∷ xs) ys zero e = refl
place_before (x ∷ xs) ys (suc n) e = place_before xs ys n (omega arith)

place_last : (xs : List Bool) (x : Bool) → at_place (xs ++ x ∷ []) (length xs) ≡ x
place_last [] x = refl
place_last (y ∷ xs) x = place_last xs x

node_before : (xs ys : List Bool) (n : ℕ) → n ≤ length xs → at_node (xs ++ ys) n ≡ at_node xs n
node_before xs ys zero e = refl
node_before xs ys (suc n) e = place_before xs ys n (omega arith)

-- a value that is made stays
pub node_stays : (s : Sources) (so : List Bool) (xs : List Node) (n : ℕ) → n ≤ length so → at_node (values_after s so xs) n ≡ at_node so n
node_stays s so [] n e = refl
node_stays s so (x ∷ xs) n e =
    let l = length-append so (value_of s so x ∷ []) in
    node_stays (rest_of s x) (so ++ value_of s so x ∷ []) xs n (omega arith) ∙ node_before so (value_of s so x ∷ []) n e

-- values that agree on smaller nodes give a node the same value
abbrev Agree : ℕ → (ℕ → Bool) → (ℕ → Bool) → Type 0
Agree n v w = (k : ℕ) → k < n → v k ≡ w k

literal_agrees : (n : ℕ) (v w : ℕ → Bool) (l : ℕ) → Agree n v w → l / 2 < n → literal_of v l ≡ literal_of w l
literal_agrees n v w l a e = ap (λ b. cond (nat_eq (l % 2) 0) b (not b)) (a (l / 2) e)

due_agrees : (n : ℕ) (s : Sources) (v w : ℕ → Bool) (x : Node) → uses_smaller n x ≡ true → Agree n v w → due_value s v x ≡ due_value s w x
due_agrees n s v w (Free name) u a = refl
due_agrees n s v w (Latch name next) u a = refl
due_agrees n s v w (Pad name value release) u a =
    let p = and_parts (nat_lt (value / 2) n) (nat_lt (release / 2) n) u in
    ap₂ (λ r x. cond r (first s.outside) x) (literal_agrees n v w release a (ltb-true (release / 2) n p.1)) (literal_agrees n v w value a (ltb-true (value / 2) n p.0))
due_agrees n s v w (Gate p q) u a =
    let h = and_parts (nat_lt (p / 2) n) (nat_lt (q / 2) n) u in
    ap₂ (λ x y. x && y) (literal_agrees n v w p a (ltb-true (p / 2) n h.0)) (literal_agrees n v w q a (ltb-true (q / 2) n h.1))

value_due : (s : Sources) (so : List Bool) (x : Node) → value_of s so x ≡ due_value s (at_node so) x
value_due s so (Free name) = refl
value_due s so (Latch name next) = refl
value_due s so (Pad name value release) = refl
value_due s so (Gate a b) = refl

solved_from : (s : Sources) (so : List Bool) (n : ℕ) (xs : List Node) → suc (length so) ≡ n → ordered_from n xs ≡ true → HoldFrom n s (at_node (values_after s so xs)) xs
solved_from s so n [] long o = tt
solved_from s so n (x ∷ xs) long o = (value, solved_from (rest_of s x) (so ++ value_of s so x ∷ []) (suc n) xs (let l = length-append so (value_of s so x ∷ []) in omega arith) parts.1)
  where
    parts : (uses_smaller n x ≡ true) × (ordered_from (suc n) xs ≡ true)
    parts = and_parts (uses_smaller n x) (ordered_from (suc n) xs) o

    all : List Bool
    all = values_after s so (x ∷ xs)

    made : at_node all n ≡ value_of s so x
    made =
        let l = length-append so (value_of s so x ∷ []) in
        node_stays (rest_of s x) (so ++ value_of s so x ∷ []) xs n (omega arith) ∙
        subst (λ m. at_node (so ++ value_of s so x ∷ []) m ≡ value_of s so x) long (place_last so (value_of s so x))

    value : at_node all n ≡ due_value s (at_node all) x
    value = made ∙ value_due s so x ∙ due_agrees n s (at_node so) (at_node all) x parts.0 (λ k e. sym (node_stays s so (x ∷ xs) k (omega arith)))

alone_from : (s : Sources) (so : List Bool) (n : ℕ) (xs : List Node) (v : ℕ → Bool) → suc (length so) ≡ n → ordered_from n xs ≡ true → Agree n v (at_node so) → HoldFrom n s v xs →
    Agree (n + length xs) v (at_node (values_after s so xs))
alone_from s so n [] v long o a h k e = a k (omega arith)
alone_from s so n (x ∷ xs) v long o a h k e =
    alone_from (rest_of s x) (so ++ value_of s so x ∷ []) (suc n) xs v (let l = length-append so (value_of s so x ∷ []) in omega arith) parts.1 more h.1 k (omega arith)
  where
    parts : (uses_smaller n x ≡ true) × (ordered_from (suc n) xs ≡ true)
    parts = and_parts (uses_smaller n x) (ordered_from (suc n) xs) o

    here : v n ≡ at_node (so ++ value_of s so x ∷ []) n
    here = h.0 ∙ due_agrees n s v (at_node so) x parts.0 a ∙ sym (value_due s so x) ∙
        sym (subst (λ m. at_node (so ++ value_of s so x ∷ []) m ≡ value_of s so x) long (place_last so (value_of s so x)))

    more : Agree (suc n) v (at_node (so ++ value_of s so x ∷ []))
    more j e = by (nat_lt j n) refl
      where
        by : (t : Bool) → nat_lt j n ≡ t → v j ≡ at_node (so ++ value_of s so x ∷ []) j
        by true q = a j (ltb-true j n q) ∙ sym (node_before so (value_of s so x ∷ []) j (let w = ltb-true j n q in omega arith))
        by false q = subst (λ m. v m ≡ at_node (so ++ value_of s so x ∷ []) m) (let w = ltb-false j n q in let f : n ≡ j = omega arith in f) here

pub solved : (nodes : List Node) (s : Sources) → is_ordered nodes ≡ true → HasOneCycle nodes s
solved nodes s o = record {
  is = record { zero = refl; hold = solved_from s [] 1 nodes refl o };
  alone = λ v c n e. alone_from s [] 1 nodes v refl o (λ k f. none v k f c.zero) c.hold n (omega arith);
}
  where
    none : (v : ℕ → Bool) (k : ℕ) → k < 1 → v 0 ≡ false → v k ≡ at_node [] k
    none v zero e z = z
    none v (suc k) e z = absurd (omega arith)

-- what a formed net shows
literal_same : (v : ℕ → Bool) (values : List Bool) (count l : ℕ) → ((n : ℕ) → n ≤ count → v n ≡ at_node values n) → l / 2 ≤ count → at_literal values l ≡ literal_of v l
literal_same v values count l same within = ap (λ b. cond (nat_eq (l % 2) 0) b (not b)) (sym (same (l / 2) within))

outputs_same : (v : ℕ → Bool) (values : List Bool) (count : ℕ) → ((n : ℕ) → n ≤ count → v n ≡ at_node values n) → (outputs : List (List ℕ × ℕ)) → AllByRecursion (λ o. o.1 / 2 ≤ count) outputs →
    map (λ o. at_literal values o.1) outputs ≡ map (λ o. literal_of v o.1) outputs
outputs_same v values count same [] within = refl
outputs_same v values count same (o ∷ outputs) within = ap₂ (λ b bs. b ∷ bs) (literal_same v values count o.1 same within.0) (outputs_same v values count same outputs within.1)

pads_same : (v : ℕ → Bool) (n : ℕ) (xs : List Node) (ys : List Bool) → length ys ≡ length xs → ((k : ℕ) → k < length xs → v (n + k) ≡ at_place ys k) → picked pad_bit xs ys ≡ pad_values v n xs
pads_same v n [] ys long same = refl
pads_same v n (x ∷ xs) [] long same = absurd (omega arith)
pads_same v n (x ∷ xs) (y ∷ ys) long same = by x (pads_same v (suc n) xs ys (omega arith) (λ k e. ap v (let f : suc n + k ≡ n + suc k = omega arith in f) ∙ same (suc k) (omega arith)))
  where
    here : y ≡ v n
    here = sym (same 0 (omega arith)) ∙ ap v (let e : n + 0 ≡ n = omega arith in e)

    by : (x : Node) → picked pad_bit xs ys ≡ pad_values v (suc n) xs → picked pad_bit (x ∷ xs) (y ∷ ys) ≡ pad_values v n (x ∷ xs)
    by (Free name) later = later
    by (Latch name next) later = later
    by (Pad name value release) later = ap₂ (λ b bs. b ∷ bs) here later
    by (Gate a b) later = later

next_same : (v : ℕ → Bool) (values : List Bool) (count : ℕ) → ((n : ℕ) → n ≤ count → v n ≡ at_node values n) → (xs : List Node) (ys : List Bool) → length ys ≡ length xs → AllByRecursion (NextWithin count) xs →
    picked (next_bit values) xs ys ≡ next_values v xs
next_same v values count same [] ys long within = refl
next_same v values count same (x ∷ xs) [] long within = absurd (omega arith)
next_same v values count same (Free name ∷ xs) (y ∷ ys) long within = next_same v values count same xs ys (omega arith) within.1
next_same v values count same (Latch name next ∷ xs) (y ∷ ys) long within = ap₂ (λ b bs. b ∷ bs) (literal_same v values count next same within.0) (next_same v values count same xs ys (omega arith) within.1)
next_same v values count same (Pad name value release ∷ xs) (y ∷ ys) long within = next_same v values count same xs ys (omega arith) within.1
next_same v values count same (Gate a b ∷ xs) (y ∷ ys) long within = next_same v values count same xs ys (omega arith) within.1

abbrev shows : List Bool → List Bool → List Bool → Cycle
shows outputs pads next = record { outputs = outputs; pads = pads; next = next }

pub shows_solutions : (net : Net) → IsFormed net → ShowsSolutions net
shows_solutions net formed state inputs outside v cycle =
    let s : Sources = record { state = state; inputs = inputs; outside = outside } in
    let values = node_values s net.nodes in
    let long : length values ≡ length net.nodes = values_long s [] net.nodes ∙ (let e : 0 + length net.nodes ≡ length net.nodes = omega arith in e) in
    let same = (solved net.nodes s formed.ordered).alone v cycle in
    ap₂ (λ a b. shows a b (picked (next_bit values) net.nodes values)) (outputs_same v values (length net.nodes) same net.outputs formed.outputs)
    (pads_same v 1 net.nodes values long (λ k e. same (1 + k) (omega arith) ∙ ap (at_node values) (let h : 1 + k ≡ suc k = omega arith in h))) ∙
    ap (shows (map (λ o. literal_of v o.1) net.outputs) (pad_values v 1 net.nodes)) (next_same v values (length net.nodes) same net.nodes values long formed.next)
