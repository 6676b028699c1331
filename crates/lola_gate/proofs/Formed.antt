-- The net that is made of nodes is formed.
use Rattle.std.proofs.Common.{◌≡◌, ℕ, suc, ◌/◌, ◌<◌, ◌≤◌, ◌^◌, true, ◌&&◌, List, [], ◌∷◌, length, refl, sym, ap, subst, ◌∙◌, arith}
use Rattle.std.specs.List.{AllByRecursion}
use Rattle.lola_net.specs.declared.node.Node.{Node}
use Rattle.lola_net.specs.declared.node.Node.TheVariants.{Free, Latch, Pad, Gate}
use Rattle.lola_net.specs.declared.net.Net.{Net}
use Rattle.lola_net.specs.Equations.{uses_smaller, ordered_from, is_ordered, NextWithin, IsFormed}
use Rattle.lola_gate.specs.Gates.{first_next, later_next, left_with, with_next}

abbrev pub AreWithin : ℕ → List ℕ → Type 0
AreWithin count literals = AllByRecursion (λ l. l / 2 ≤ count) literals

with_long : (next : List ℕ) (d : List Node) → length (with_next next d) ≡ length d
with_long next [] = refl
with_long next (x ∷ d) = ap suc (with_long (left_with next x) d)

with_ordered : (n : ℕ) (next : List ℕ) (d : List Node) → ordered_from n (with_next next d) ≡ ordered_from n d
with_ordered n next [] = refl
with_ordered n next (Free name ∷ d) = with_ordered (suc n) (left_with next (Free name)) d
with_ordered n next (Latch name old ∷ d) = with_ordered (suc n) (left_with next (Latch name old)) d
with_ordered n next (Pad name value release ∷ d) = ap (λ t. uses_smaller n (Pad name value release) && t) (with_ordered (suc n) (left_with next (Pad name value release)) d)
with_ordered n next (Gate a b ∷ d) = ap (λ t. uses_smaller n (Gate a b) && t) (with_ordered (suc n) (left_with next (Gate a b)) d)

first_within : (count : ℕ) (next : List ℕ) → AreWithin count next → first_next next / 2 ≤ count
first_within count [] w = omega arith
first_within count (l ∷ next) w = w.0

later_within : (count : ℕ) (next : List ℕ) → AreWithin count next → AreWithin count (later_next next)
later_within count [] w = tt
later_within count (l ∷ next) w = w.1

with_within : (count : ℕ) (next : List ℕ) (d : List Node) → AreWithin count next → AllByRecursion (NextWithin count) (with_next next d)
with_within count next [] w = tt
with_within count next (Free name ∷ d) w = (tt, with_within count next d w)
with_within count next (Latch name old ∷ d) w = (first_within count next w, with_within count (later_next next) d (later_within count next w))
with_within count next (Pad name value release ∷ d) w = (tt, with_within count next d w)
with_within count next (Gate a b ∷ d) w = (tt, with_within count next d w)

pub formed_net : (net : Net) (d : List Node) (next : List ℕ) → net.nodes ≡ with_next next d → is_ordered d ≡ true → length d < 2 ^ 31 → AreWithin (length d) next →
    AllByRecursion (λ o. o.1 / 2 ≤ length d) net.outputs → IsFormed net
formed_net net d next are ordered few within outputs =
    let long : length net.nodes ≡ length d = ap length are ∙ with_long next d in
    record {
      few = omega arith;
      ordered = ap is_ordered are ∙ with_ordered 1 next d ∙ ordered;
      next = subst (λ n. AllByRecursion (NextWithin n) net.nodes) (sym long) (subst (λ xs. AllByRecursion (NextWithin (length d)) xs) (sym are) (with_within (length d) next d within));
      outputs = subst (λ n. AllByRecursion (λ o. o.1 / 2 ≤ n) net.outputs) (sym long) outputs;
    }
