-- What is held where nodes are put at the end.
use Rattle.std.proofs.Common.{◌≡◌, ℕ, zero, suc, ◌+◌, ◌*◌, ◌-◌, ◌/◌, ◌^◌, ◌<◌, ◌≤◌, Bool, true, false, cond, List, [], ◌∷◌, ◌++◌, length, Some, None, refl, sym, ap, ap₂, subst, ◌∙◌, arith, inl, inr}
use Rattle.std.specs.Prelude.{nat_lt, slice_get}
use Rattle.std.specs.Map.{lookup}
use Rattle.std.proofs.lemmas.List.{append-nil}
use Rattle.std.proofs.lemmas.Bool.{cases_Bool, and_from, lt-ltb}
use Rattle.lola_bits.proofs.Places.{length_more}
use Rattle.lola_bits.proofs.Options.{some_same}
use Rattle.lola_net.specs.declared.node.Node.{Node}
use Rattle.lola_net.specs.declared.node.Node.TheVariants.{Free, Latch, Pad, Gate}
use Rattle.lola_net.specs.Equations.{uses_smaller, is_ordered}
use Rattle.lola_gate.specs.declared.other.Other.{Other}
use Rattle.lola_gate.specs.declared.other.Other.TheVariants as other
use Rattle.lola_gate.specs.Gates.{gate_here, gates_from, gates, found, shared_or, shared, knows_literal, gate_of, gate_at, frees_from, frees}
use Rattle.lola_gate.specs.Values.{ordered_end}
use Rattle.lola_gate.specs.Law.{known_within, known_node}
use Rattle.lola_gate.specs.Held.{node_of, first_other, later_others, node_here, others_behind, nodes_of, count_others, Tied, gate_by}

-- each number of a gate is that of a node
pub within : (test : ℕ × ℕ → Bool) (k n : ℕ) (xs : List Node) → lookup test (gates_from (suc k) xs) ≡ Some n → n < suc (k + length xs)
within test k n [] e = absurd (let f : None ≡ Some n = e in cc)
within test k n (Free name ∷ xs) e = let h = within test (suc k) n xs e in omega arith
within test k n (Latch name next ∷ xs) e = let h = within test (suc k) n xs e in omega arith
within test k n (Pad name value release ∷ xs) e = let h = within test (suc k) n xs e in omega arith
within test k n (Gate p q ∷ xs) e = elim (cases_Bool (test (p, q))) [
  | inl y ↦ (let h = some_same (suc k) n (sym (ap (λ t. cond t (Some (suc k)) (lookup test (gates_from (suc (suc k)) xs))) y) ∙ e) in omega arith)
  | inr z ↦ (let h = within test (suc k) n xs (sym (ap (λ t. cond t (Some (suc k)) (lookup test (gates_from (suc (suc k)) xs))) z) ∙ e) in omega arith)
]

pub length_nodes : (others : List Other) (held : List (ℕ × ℕ)) → length (nodes_of others held) ≡ length held
length_nodes others [] = refl
length_nodes others (p ∷ held) = ap suc (length_nodes (others_behind others p) held)

pub found_small : (test : ℕ × ℕ → Bool) (n : ℕ) {held : List (ℕ × ℕ)} {others : List Other} {entries : List ((ℕ × ℕ) × ℕ)} → Tied held others entries → Some n ≡ lookup test entries → 2 * n < 2 ^ 32
found_small test n {held = held} {others = others} {entries = entries} tied e =
    let f = within test 0 n (nodes_of others held) (ap (lookup test) (sym tied.entries_are) ∙ sym e) in
    let g = length_nodes others held in
    let h = tied.few in
    omega arith

pub gates_end : (n : ℕ) (xs : List Node) (x : Node) → gates_from n (xs ++ x ∷ []) ≡ gates_from n xs ++ gate_here (n + length xs) x
gates_end n [] x = append-nil (gate_here n x) ∙ ap (λ m. gate_here m x) (let e : n ≡ n + 0 = omega arith in e)
gates_end n (Free name ∷ xs) x = gates_end (suc n) xs x ∙ ap (λ m. gates_from (suc n) xs ++ gate_here m x) (let e : suc n + length xs ≡ n + suc (length xs) = omega arith in e)
gates_end n (Latch name next ∷ xs) x = gates_end (suc n) xs x ∙ ap (λ m. gates_from (suc n) xs ++ gate_here m x) (let e : suc n + length xs ≡ n + suc (length xs) = omega arith in e)
gates_end n (Pad name value release ∷ xs) x = gates_end (suc n) xs x ∙ ap (λ m. gates_from (suc n) xs ++ gate_here m x) (let e : suc n + length xs ≡ n + suc (length xs) = omega arith in e)
gates_end n (Gate a b ∷ xs) x = ap (λ es. ((a, b), n) ∷ es) (gates_end (suc n) xs x ∙ ap (λ m. gates_from (suc n) xs ++ gate_here m x) (let e : suc n + length xs ≡ n + suc (length xs) = omega arith in e))

-- a gate is put at the end
pub nodes_gate : (others : List Other) (held : List (ℕ × ℕ)) (a b : ℕ) → 1 < a → nodes_of others (held ++ (a, b) ∷ []) ≡ nodes_of others held ++ Gate a b ∷ []
nodes_gate others [] a b e = ap (λ t. cond t (Gate a b) (first_other others) ∷ []) (lt-ltb 1 a e)
nodes_gate others (p ∷ held) a b e = ap (λ xs. node_here others p ∷ xs) (nodes_gate (others_behind others p) held a b e)

-- another node is put at the end
pub nodes_other : (others : List Other) (held : List (ℕ × ℕ)) (x : Other) → length others ≡ count_others held → nodes_of (others ++ x ∷ []) (held ++ (0, 0) ∷ []) ≡ nodes_of others held ++ node_of x ∷ []
nodes_other [] [] x e = refl
nodes_other (y ∷ others) [] x e = absurd (omega arith)
nodes_other others (p ∷ held) x e = by (nat_lt 1 p.0) others e (λ others f. nodes_other others held x f)
  where
    by : (t : Bool) (others : List Other) → length others ≡ cond t 0 1 + count_others held →
        ((others : List Other) → length others ≡ count_others held → nodes_of (others ++ x ∷ []) (held ++ (0, 0) ∷ []) ≡ nodes_of others held ++ node_of x ∷ []) →
        cond t (Gate p.0 p.1) (first_other (others ++ x ∷ [])) ∷ nodes_of (cond t (others ++ x ∷ []) (later_others (others ++ x ∷ []))) (held ++ (0, 0) ∷ []) ≡
        (cond t (Gate p.0 p.1) (first_other others) ∷ nodes_of (cond t others (later_others others)) held) ++ node_of x ∷ []
    by true others e more = ap (λ xs. Gate p.0 p.1 ∷ xs) (more others (let f : length others ≡ 0 + count_others held = e in omega arith))
    by false [] e more = absurd (let f : 0 ≡ 1 + count_others held = e in omega arith)
    by false (y ∷ others) e more = ap (λ xs. node_of y ∷ xs) (more others (let f : suc (length others) ≡ 1 + count_others held = e in omega arith))

pub count_more : (held : List (ℕ × ℕ)) (p : ℕ × ℕ) → count_others (held ++ p ∷ []) ≡ count_others held + cond (nat_lt 1 p.0) 0 1
count_more [] p = omega arith
count_more (q ∷ held) p = let h = count_more held p in omega arith

pub tied_gate : (held : List (ℕ × ℕ)) (others : List Other) (entries more : List ((ℕ × ℕ) × ℕ)) (a b : ℕ) → Tied held others entries → suc (length held) < 2 ^ 31 → 1 < a →
    knows_literal (nodes_of others held) a ≡ true → knows_literal (nodes_of others held) b ≡ true → more ≡ entries ++ ((a, b), suc (length held)) ∷ [] → Tied (held ++ (a, b) ∷ []) others more
tied_gate held others entries more a b t few e ka kb is =
    let is' = nodes_gate others held a b e in
    let long : length (nodes_of others held) ≡ length held = length_nodes others held in
    let lh = length_more held (a, b) in
    let nodes = nodes_of others held in
    record {
      entries_are = is ∙ ap₂ (λ es n. es ++ ((a, b), n) ∷ []) t.entries_are (let f : suc (length held) ≡ 1 + length (nodes_of others held) = omega arith in f) ∙
          sym (gates_end 1 (nodes_of others held) (Gate a b)) ∙ ap gates (sym is');
      ordered = subst (λ d. is_ordered d ≡ true) (sym is') (ordered_end (nodes_of others held) (Gate a b) t.ordered
          (and_from (nat_lt (a / 2) (suc (length (nodes_of others held)))) (nat_lt (b / 2) (suc (length (nodes_of others held))))
          (lt-ltb (a / 2) (suc (length (nodes_of others held))) (known_within (nodes_of others held) a ka)) (lt-ltb (b / 2) (suc (length (nodes_of others held))) (known_within (nodes_of others held) b kb))));
      counted = t.counted ∙ sym (count_more held (a, b) ∙ ap (λ u. count_others held + cond u 0 1) (lt-ltb 1 a e) ∙ (let f : count_others held + 0 ≡ count_others held = omega arith in f));
      few = omega arith;
    }

none_here : (n : ℕ) (x : Other) → gate_here n (node_of x) ≡ []
none_here n (other.Input name) = refl
none_here n (other.Register name) = refl
none_here n (other.Pad name value release) = refl

pub tied_other : (held : List (ℕ × ℕ)) (others : List Other) (entries : List ((ℕ × ℕ) × ℕ)) (x : Other) → Tied held others entries → suc (length held) < 2 ^ 31 →
    uses_smaller (suc (length (nodes_of others held))) (node_of x) ≡ true → Tied (held ++ (0, 0) ∷ []) (others ++ x ∷ []) entries
tied_other held others entries x t few small =
    let is = nodes_other others held x t.counted in
    let lh = length_more held (0, 0) in
    let lo = length_more others x in
    let c = count_more held (0, 0) in
    let tc = t.counted in
    record {
      entries_are = t.entries_are ∙ sym (append-nil (gates (nodes_of others held))) ∙ ap (λ es. gates (nodes_of others held) ++ es) (sym (none_here (1 + length (nodes_of others held)) x)) ∙
          sym (gates_end 1 (nodes_of others held) (node_of x)) ∙ ap gates (sym is);
      ordered = subst (λ d. is_ordered d ≡ true) (sym is) (ordered_end (nodes_of others held) (node_of x) t.ordered small);
      counted = lo ∙ ap suc tc ∙ (let f : suc (count_others held) ≡ count_others held + 1 = omega arith in f) ∙ sym c;
      few = omega arith;
    }

-- the gate at a place
pub gate_held : (others : List Other) (held : List (ℕ × ℕ)) (n : ℕ) → gate_of (slice_get (nodes_of others held) n) ≡ gate_by (slice_get held n)
gate_held others [] n = refl
gate_held others (p ∷ held) (suc n) = gate_held (others_behind others p) held n
gate_held others (p ∷ held) zero = by (nat_lt 1 p.0) others
  where
    by : (t : Bool) (others : List Other) → gate_of (Some (cond t (Gate p.0 p.1) (first_other others))) ≡ cond t (Some (p.0, p.1)) None
    by true others = refl
    by false [] = refl
    by false (other.Input name ∷ others) = refl
    by false (other.Register name ∷ others) = refl
    by false (other.Pad name value release ∷ others) = refl

pub held_gate : (others : List Other) (held : List (ℕ × ℕ)) (d : List Node) (n : ℕ) → nodes_of others held ≡ d → (n ≡ 0 → ⊥) → gate_at d n ≡ gate_by (slice_get held (n - 1))
held_gate others held d zero e p = absurd (p refl)
held_gate others held d (suc n) e p = ap (λ d. gate_of (slice_get d n)) (sym e) ∙ gate_held others held n ∙ ap (λ m. gate_by (slice_get held m)) (let h : n ≡ suc n - 1 = omega arith in h)

-- each node is a gate or has a bit
pub counts : (n : ℕ) (d : List Node) → length (gates_from n d) + length (frees_from n d) ≡ length d
counts n [] = omega arith
counts n (Free name ∷ d) = let h = counts (suc n) d in omega arith
counts n (Latch name next ∷ d) = let h = counts (suc n) d in omega arith
counts n (Pad name value release ∷ d) = let h = counts (suc n) d in omega arith
counts n (Gate a b ∷ d) = let h = counts (suc n) d in omega arith

pub free_bits : {held : List (ℕ × ℕ)} {others : List Other} {entries : List ((ℕ × ℕ) × ℕ)} → Tied held others entries → (d : List Node) → nodes_of others held ≡ d → length entries + length (frees d) ≡ length held
free_bits {held = held} {others = others} t d e = ap₂ (λ es d. length es + length (frees_from 1 d)) t.entries_are (sym e) ∙ counts 1 (nodes_of others held) ∙ length_nodes others held

-- a literal is known where its node is there
pub known_in : (d : List Node) (l : ℕ) → is_ordered d ≡ true → l / 2 ≤ length d → true ≡ knows_literal d l
known_in d l o w = sym (known_node d l o (omega arith))

pub known_out : (d : List Node) (l : ℕ) → length d < l / 2 → false ≡ knows_literal d l
known_out d l w = by (knows_literal d l) (λ k. let h = known_within d l k in omega arith)
  where
    by : (t : Bool) → (t ≡ true → ⊥) → false ≡ t
    by true f = absurd (f refl)
    by false f = refl

-- two literals that have no gate yet get one
pub shared_new : (a b : ℕ) (d : List Node) → found a b d ≡ None → length (gates d) < 1048576 → shared a b d ≡ Some (d ++ Gate a b ∷ [], 2 * suc (length d))
shared_new a b d none few = ap (shared_or a b d) none ∙ ap (λ t. cond t (Some (d ++ Gate a b ∷ [], 2 * suc (length d))) None) (lt-ltb (length (gates d)) 1048576 few)
