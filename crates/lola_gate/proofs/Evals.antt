-- The steps of the loop that computes values.
use Rattle.std.proofs.Common.{◌≡◌, ℕ, zero, suc, ◌+◌, ◌-◌, ◌/◌, ◌<◌, ◌≤◌, Bool, true, false, cond, ◌&&◌, List, [], ◌∷◌, ◌++◌, length, map, drop, refl, sym, ap, ap₂, subst, ◌∙◌, arith}
use Rattle.std.specs.Prelude.{nat_lt}
use Rattle.std.proofs.lemmas.Bool.{and_parts, ltb-true, lt-ltb, le-ltb}
use Rattle.std.proofs.Math.Seq.{drop-cons}
use Rattle.std.proofs.Math.ListN.{get_or}
use Rattle.std.proofs.lemmas.List.{drop_all}
use Rattle.lola_bits.proofs.Places.{length_more}
use Rattle.lola_net.specs.declared.node.Node.{Node}
use Rattle.lola_net.specs.declared.node.Node.TheVariants.{Gate}
use Rattle.lola_net.specs.Literals.{at_place, at_node, at_literal}
use Rattle.lola_net.specs.Equations.{uses_smaller, ordered_from, is_ordered}
use Rattle.lola_gate.specs.declared.other.Other.{Other}
use Rattle.lola_gate.specs.declared.other.Other.TheVariants as other
use Rattle.lola_gate.specs.Gates.{next_value, values_from, values, frees_here, frees_from, frees}
use Rattle.lola_gate.specs.Held.{first_other, later_others, node_here, others_behind, nodes_of}
use Rattle.lola_gate.specs.Evaluated.{Evaluated}

pub place_get : (xs : List Bool) (n : ℕ) (d : Bool) → n < length xs → at_place xs n ≡ get_or xs n d
place_get [] n d e = absurd (omega arith)
place_get (x ∷ xs) zero d e = refl
place_get (x ∷ xs) (suc n) d e = place_get xs n d (omega arith)

pub node_get : (xs : List Bool) (n : ℕ) (d : Bool) → (n ≡ 0 → ⊥) → n ≤ length xs → at_node xs n ≡ get_or xs (n - 1) d
node_get xs zero d p e = absurd (p refl)
node_get xs (suc n) d p e = place_get xs n d (omega arith) ∙ ap (λ m. get_or xs m d) (let h : n ≡ suc n - 1 = omega arith in h)

gate_is : (others : List Other) (p : ℕ × ℕ) → 1 < p.0 → node_here others p ≡ Gate p.0 p.1
gate_is others p e = ap (λ t. cond t (Gate p.0 p.1) (first_other others)) (lt-ltb 1 p.0 e)

gate_behind : (others : List Other) (p : ℕ × ℕ) → 1 < p.0 → others_behind others p ≡ others
gate_behind others p e = ap (λ t. cond t others (later_others others)) (lt-ltb 1 p.0 e)

-- what a node that is no gate adds
record Plain (x : Node) : Type 0 where
  number : (n : ℕ) → frees_here n x ≡ n ∷ []
  value : (v : ℕ → Bool) (so : List Bool) → next_value v so x ≡ v (suc (length so))

plain_is : (others : List Other) (p : ℕ × ℕ) → p.0 ≤ 1 → Plain (node_here others p)
plain_is others p e = subst (λ t. Plain (cond t (Gate p.0 p.1) (first_other others))) (sym (le-ltb 1 p.0 e)) (by others)
  where
    by : (others : List Other) → Plain (first_other others)
    by [] = record { number = λ n. refl; value = λ v so. refl }
    by (other.Input name ∷ others) = record { number = λ n. refl; value = λ v so. refl }
    by (other.Register name ∷ others) = record { number = λ n. refl; value = λ v so. refl }
    by (other.Pad name value release ∷ others) = record { number = λ n. refl; value = λ v so. refl }

abbrev Steps : List Node → List Bool → List Bool → ℕ → ℕ → List Node → Type 0
Steps d free all i at xs =
    (ordered_from (suc i) xs ≡ true) × (length (drop at free) ≡ length (frees_from (suc i) xs)) ×
    ((v : ℕ → Bool) → map v (frees d) ≡ free → (values_from v all xs ≡ values v d) × (map v (frees_from (suc i) xs) ≡ drop at free))

gate_steps : (d : List Node) (free all : List Bool) (i at a b : ℕ) (xs : List Node) → Steps d free all i at (Gate a b ∷ xs) →
    Steps d free (all ++ (at_literal all a && at_literal all b) ∷ []) (suc i) at xs
gate_steps d free all i at a b xs s = ((and_parts (uses_smaller (suc i) (Gate a b)) (ordered_from (suc (suc i)) xs) s.0).1, s.1, s.2)

tail_is : {A : Type 0} (x y : A) (xs ys : List A) → x ∷ xs ≡ y ∷ ys → (x ≡ y) × (xs ≡ ys)
tail_is x y xs ys e = (cc, cc)

free_steps : (d : List Node) (free all : List Bool) (i at : ℕ) (x : Node) (xs : List Node) → Plain x → length all ≡ i → at ≤ length free → Steps d free all i at (x ∷ xs) →
    (at < length free) × Steps d free (all ++ get_or free at false ∷ []) (suc i) (suc at) xs
free_steps d free all i at x xs p long used s = (inside, ((and_parts (uses_smaller (suc i) x) (ordered_from (suc (suc i)) xs) s.0).1, rest, λ v e. on v e))
  where
    named : frees_here (suc i) x ++ frees_from (suc (suc i)) xs ≡ suc i ∷ frees_from (suc (suc i)) xs
    named = ap (λ ns. ns ++ frees_from (suc (suc i)) xs) (p.number (suc i))

    count : length (drop at free) ≡ suc (length (frees_from (suc (suc i)) xs))
    count = s.1 ∙ ap length named

    some : (bs : List Bool) (n : ℕ) → length (drop n bs) ≡ suc (length (frees_from (suc (suc i)) xs)) → n < length bs
    some [] zero e = absurd (omega arith)
    some [] (suc n) e = absurd (omega arith)
    some (b ∷ bs) zero e = omega arith
    some (b ∷ bs) (suc n) e = let h = some bs n e in omega arith

    inside : at < length free
    inside = some free at count

    cut : drop at free ≡ get_or free at false ∷ drop (suc at) free
    cut = drop-cons free at false inside

    rest : length (drop (suc at) free) ≡ length (frees_from (suc (suc i)) xs)
    rest = let h : suc (length (drop (suc at) free)) ≡ suc (length (frees_from (suc (suc i)) xs)) = sym (ap length cut) ∙ count in omega arith

    on : (v : ℕ → Bool) → map v (frees d) ≡ free → (values_from v (all ++ get_or free at false ∷ []) xs ≡ values v d) × (map v (frees_from (suc (suc i)) xs) ≡ drop (suc at) free)
    on v e =
        let h = s.2 v e in
        let both = tail_is (v (suc i)) (get_or free at false) (map v (frees_from (suc (suc i)) xs)) (drop (suc at) free) (sym (ap (map v) named) ∙ h.1 ∙ cut) in
        let is : next_value v all x ≡ get_or free at false = p.value v all ∙ ap (λ n. v (suc n)) long ∙ both.0 in
        (ap (λ b. values_from v (all ++ b ∷ []) xs) (sym is) ∙ h.0, both.1)

module _ (d : List Node) (held : List (ℕ × ℕ)) (free all : List Bool) (i at : ℕ) (e : Evaluated d held free all i at) (inside : i < length held) where
  abbrev p : ℕ × ℕ
  p = get_or held i (0, 0)

  abbrev behind : List Node
  behind = nodes_of (others_behind e.others p) (drop (suc i) held)

  cut : nodes_of e.others (drop i held) ≡ node_here e.others p ∷ behind
  cut = ap (nodes_of e.others) (drop-cons held i (0, 0) inside)

  steps : Steps d free all i at (node_here e.others p ∷ behind)
  steps = subst (Steps d free all i at) cut (e.ordered, e.enough, e.goes_on)

  pub literals_stand : 1 < p.0 → (p.0 / 2 ≤ length all) × (p.1 / 2 ≤ length all)
  literals_stand g =
      let s = subst (λ x. Steps d free all i at (x ∷ behind)) (gate_is e.others p g) steps in
      let o = and_parts (nat_lt (p.0 / 2) (suc i) && nat_lt (p.1 / 2) (suc i)) (ordered_from (suc (suc i)) behind) s.0 in
      let both = and_parts (nat_lt (p.0 / 2) (suc i)) (nat_lt (p.1 / 2) (suc i)) o.0 in
      let x = ltb-true (p.0 / 2) (suc i) both.0 in
      let y = ltb-true (p.1 / 2) (suc i) both.1 in
      let l = e.long in
      (omega arith, omega arith)

  made : (b : Bool) (used : ℕ) → used ≤ length free → Steps d free (all ++ b ∷ []) (suc i) used behind → Evaluated d held free (all ++ b ∷ []) (i + 1) used
  made b used inside s =
      subst (λ j. Evaluated d held free (all ++ b ∷ []) j used) (let h : suc i ≡ i + 1 = omega arith in h)
      (record { others = others_behind e.others p; long = length_more all b ∙ ap suc e.long; used = inside; ordered = s.0; enough = s.1; goes_on = s.2 })

  pub gate_evaluated : 1 < p.0 → Evaluated d held free (all ++ (at_literal all p.0 && at_literal all p.1) ∷ []) (i + 1) at
  gate_evaluated g =
      made (at_literal all p.0 && at_literal all p.1) at e.used
      (gate_steps d free all i at p.0 p.1 behind (subst (λ x. Steps d free all i at (x ∷ behind)) (gate_is e.others p g) steps))

  pub free_inside : p.0 ≤ 1 → at < length free
  free_inside g = (free_steps d free all i at (node_here e.others p) behind (plain_is e.others p g) e.long e.used steps).0

  pub free_evaluated : p.0 ≤ 1 → Evaluated d held free (all ++ get_or free at false ∷ []) (i + 1) (at + 1)
  free_evaluated g =
      let s = free_steps d free all i at (node_here e.others p) behind (plain_is e.others p g) e.long e.used steps in
      let h = s.0 in
      subst (λ n. Evaluated d held free (all ++ get_or free at false ∷ []) (i + 1) n) (let h : suc at ≡ at + 1 = omega arith in h)
      (made (get_or free at false) (suc at) (omega arith) s.1)

pub evaluated_all : (d : List Node) (held : List (ℕ × ℕ)) (free all : List Bool) (i at : ℕ) → Evaluated d held free all i at → length held ≤ i → (v : ℕ → Bool) → map v (frees d) ≡ free → all ≡ values v d
evaluated_all d held free all i at e past v f = sym (ap (λ hs. values_from v all (nodes_of e.others hs)) (drop_all i held past)) ∙ (e.goes_on v f).0

pub evaluated_none : (d : List Node) (held : List (ℕ × ℕ)) (others : List Other) (free all : List Bool) → nodes_of others held ≡ d → is_ordered d ≡ true → length free ≡ length (frees d) → all ≡ [] →
    Evaluated d held free all 0 0
evaluated_none d held others free all are o l none = record {
  others = others;
  long = ap length none;
  used = omega arith;
  ordered = ap is_ordered are ∙ o;
  enough = l ∙ sym (ap (λ d. length (frees d)) are);
  goes_on = λ v e. (ap₂ (λ so d. values_from v so d) none are, ap (λ d. map v (frees d)) are ∙ e);
}
