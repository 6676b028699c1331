-- A net has fewer than 2^31 nodes: at most 1,048,576 gates, and for inputs, registers and pads a node for each of their bits.
use Rattle.std.proofs.Common.{◌≡◌, ◌⊎◌, ℕ, zero, suc, ◌+◌, ◌*◌, ◌<◌, ◌≤◌, ◌^◌, Bool, true, false, cond, not, List, [], ◌∷◌, ◌++◌, length, map, flat_map, get_or, Option, Some, None, inl, inr, refl, sym, ◌∙◌, ap, ap₂, subst, arith}
use Rattle.std.specs.Prelude.{slice_get, nat_lt}
use Rattle.std.proofs.lemmas.Bool.{ltb-true, lt-ltb, le-ltb, ltb-false, cases_Bool}
use Rattle.lola_bits.specs.Lists.{IsIn, AreDistinct}
use Rattle.lola_bits.proofs.Lists.{parted, in_front, in_back, in_either}
use Rattle.lola_bits.proofs.Places.{get_in}
use Rattle.lola_net.specs.declared.node.Node.{Node}
use Rattle.lola_net.specs.declared.node.Node.TheVariants.{Free, Latch, Pad, Gate}
use Rattle.lola_gate.specs.Gates.{gate_here, gates_from, gates}
use Rattle.lola_flat.specs.Tree.{SignalTree, FlatTree}
use Rattle.lola_flat.specs.Value.{sum_of}
use Rattle.lola_lower.specs.Named.{free_name, latch_name, pad_name}
use Rattle.lola_lower.specs.Names.{bit_name, signal_names}
use Rattle.lola_lower.specs.Sources.{has_input, has_latch, input_nodes, latch_nodes, all_inputs, all_latches, source_nodes}
use Rattle.lola_lower.specs.Steps.{pads_down}
use Rattle.lola_lower.proofs.Given.{signal_long}
use Rattle.lola_lower.proofs.Grown.{is_new}

length_both : {X : Type 0} (xs ys : List X) → length (xs ++ ys) ≡ length xs + length ys
length_both [] ys = omega arith
length_both (x ∷ xs) ys = let h = length_both xs ys in omega arith

-- gates among nodes
gates_both : (n m : ℕ) (xs ys : List Node) → length (gates_from n (xs ++ ys)) ≡ length (gates_from n xs) + length (gates_from m ys)
gates_both n m [] [] = omega arith
gates_both n m [] (Free name ∷ ys) = gates_both (suc n) (suc m) [] ys
gates_both n m [] (Latch name next ∷ ys) = gates_both (suc n) (suc m) [] ys
gates_both n m [] (Pad name v r ∷ ys) = gates_both (suc n) (suc m) [] ys
gates_both n m [] (Gate a b ∷ ys) = let h = gates_both (suc n) (suc m) [] ys in omega arith
gates_both n m (Free name ∷ xs) ys = gates_both (suc n) m xs ys
gates_both n m (Latch name next ∷ xs) ys = gates_both (suc n) m xs ys
gates_both n m (Pad name v r ∷ xs) ys = gates_both (suc n) m xs ys
gates_both n m (Gate a b ∷ xs) ys = let h = gates_both (suc n) m xs ys in omega arith

abbrev pub few_gates : List Node → Bool
few_gates d = nat_lt (length (gates d)) 1048577

pub few_more : (d : List Node) (a b : ℕ) → nat_lt (length (gates d)) 1048576 ≡ true → is_new d a b ≡ true → few_gates d ≡ true → few_gates (d ++ Gate a b ∷ []) ≡ true
few_more d a b place new few =
    let below = ltb-true (length (gates d)) 1048576 place in
    let one = gates_both 1 1 d (Gate a b ∷ []) in
    lt-ltb (length (gates (d ++ Gate a b ∷ []))) 1048577 (omega arith)

pads_none : (n : ℕ) (text : List ℕ) (release bit : ℕ) (values : List ℕ) → length (gates_from n (pads_down text release bit values)) ≡ 0
pads_none n text release bit [] = refl
pads_none n text release bit (v ∷ more) =
    let a = gates_both n n (pads_down text release (suc bit) more) (Pad (bit_name text bit) v release ∷ []) in
    let b = pads_none n text release (suc bit) more in
    omega arith

pub few_pads : (d : List Node) (text : List ℕ) (release bit : ℕ) (values : List ℕ) → few_gates d ≡ true → few_gates (d ++ pads_down text release bit values) ≡ true
few_pads d text release bit values few =
    let below = ltb-true (length (gates d)) 1048577 few in
    let a = gates_both 1 1 d (pads_down text release bit values) in
    let b = pads_none 1 text release bit values in
    lt-ltb (length (gates (d ++ pads_down text release bit values))) 1048577 (omega arith)

-- before the signals there are none
map_none : (g : List ℕ → Node) → ((n : ℕ) (name : List ℕ) → gate_here n (g name) ≡ []) → (n : ℕ) (names : List (List ℕ)) → length (gates_from n (map g names)) ≡ 0
map_none g none n [] = refl
map_none g none n (x ∷ xs) = ap (λ (l : List ((ℕ × ℕ) × ℕ)). length (l ++ gates_from (suc n) (map g xs))) (none n x) ∙ map_none g none (suc n) xs

flat_none : (h : SignalTree → List Node) → ((n : ℕ) (s : SignalTree) → length (gates_from n (h s)) ≡ 0) → (n : ℕ) (signals : List SignalTree) → length (gates_from n (flat_map h signals)) ≡ 0
flat_none h each n [] = refl
flat_none h each n (s ∷ ss) =
    let a = gates_both n n (h s) (flat_map h ss) in
    let b = each n s in
    let c = flat_none h each n ss in
    omega arith

pub few_sources : (F : FlatTree) → few_gates (source_nodes F) ≡ true
few_sources F =
    let a = gates_both 1 1 (all_inputs F) (all_latches F) in
    let b = flat_none (input_nodes F) (λ n s. inputs n s (has_input F s)) 1 F.signals in
    let c = flat_none latch_nodes (λ n s. latches n s (has_latch s)) 1 F.signals in
    lt-ltb (length (gates (source_nodes F))) 1048577 (omega arith)
  where
    inputs : (n : ℕ) (s : SignalTree) (t : Bool) → length (gates_from n (cond t (map (λ (name : List ℕ). Free name) (signal_names s)) [])) ≡ 0
    inputs n s true = map_none (λ (name : List ℕ). Free name) (λ k name. refl) n (signal_names s)
    inputs n s false = refl

    latches : (n : ℕ) (s : SignalTree) (t : Bool) → length (gates_from n (cond t (map (λ (name : List ℕ). Latch name 0) (signal_names s)) [])) ≡ 0
    latches n s true = map_none (λ (name : List ℕ). Latch name 0) (λ k name. refl) n (signal_names s)
    latches n s false = refl

-- each node is a gate, or has a name
pub nodes_many : (n : ℕ) (xs : List Node) → length xs ≡ length (gates_from n xs) + (length (flat_map free_name xs) + (length (flat_map latch_name xs) + length (flat_map pad_name xs)))
nodes_many n [] = omega arith
nodes_many n (Free name ∷ xs) = let h = nodes_many (suc n) xs in omega arith
nodes_many n (Latch name next ∷ xs) = let h = nodes_many (suc n) xs in omega arith
nodes_many n (Pad name v r ∷ xs) = let h = nodes_many (suc n) xs in omega arith
nodes_many n (Gate a b ∷ xs) = let h = nodes_many (suc n) xs in omega arith

-- distinct items among others are no more than these
pub few_among : {X : Type 0} (xs ys : List X) → AreDistinct xs → ((x : X) → IsIn x xs → IsIn x ys) → length xs ≤ length ys
few_among [] ys distinct each = omega arith
few_among {X = X} (x ∷ xs) ys distinct each =
    let p = parted x ys (each x (inl refl)) in
    let h = few_among xs (p.0 ++ p.1) distinct.1 (λ y among. others p.0 p.1 y among (subst (IsIn y) p.2 (each y (inr among)))) in
    let a = length_both p.0 p.1 in
    let b = length_both p.0 (x ∷ p.1) in
    let c = ap length p.2 in
    omega arith
  where
    others : (front behind : List X) (y : X) → IsIn y xs → IsIn y (front ++ x ∷ behind) → IsIn y (front ++ behind)
    others front behind y among there = elim (in_either y front (x ∷ behind) there) [
      | inl before ↦ in_front y front behind before
      | inr here ↦ elim here [ inl e ↦ absurd (distinct.0 (subst (λ z. IsIn z xs) e among)) | inr after ↦ in_back y front behind after ]
    ]

-- the names of some signals, each of at most 128 bits
times_few : (c w : ℕ) → w ≤ 128 → c * w ≤ c * 128
times_few zero w small = omega arith
times_few (suc c) w small = let h = times_few c w small in let a = more c w in let b = more c 128 in omega arith
  where
    more : (c w : ℕ) → suc c * w ≡ w + c * w
    more c w = omega arith

pub names_few : (test : SignalTree → Bool) (signals : List SignalTree) → ((s : SignalTree) → IsIn s signals → s.width ≤ 128) →
    length (flat_map (λ (s : SignalTree). cond (test s) (signal_names s) []) signals) ≤ sum_of (map (λ (s : SignalTree). s.count) signals) * 128
names_few test [] narrow = omega arith
names_few test (s ∷ signals) narrow =
    let h = names_few test signals (λ t among. narrow t (inr among)) in
    let a = length_both (cond (test s) (signal_names s) []) (flat_map (λ (t : SignalTree). cond (test t) (signal_names t) []) signals) in
    let b = one (test s) in
    let c = parts s.count (sum_of (map (λ (t : SignalTree). t.count) signals)) in
    omega arith
  where
    parts : (x y : ℕ) → (x + y) * 128 ≡ x * 128 + y * 128
    parts x y = omega arith

    one : (t : Bool) → length (cond t (signal_names s) []) ≤ s.count * 128
    one true = let l = signal_long s in let f = times_few s.count s.width (narrow s (inl refl)) in omega arith
    one false = omega arith

-- the names of numbers, each of at most 128
pub flat_few : (g : ℕ → List (List ℕ)) → ((n : ℕ) → length (g n) ≤ 128) → (ns : List ℕ) → length (flat_map g ns) ≤ length ns * 128
flat_few g each [] = omega arith
flat_few g each (n ∷ ns) =
    let h = flat_few g each ns in
    let a = length_both (g n) (flat_map g ns) in
    let b = each n in
    omega arith
