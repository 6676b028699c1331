-- The values of nodes in a cycle are those of the algebra's meaning.
use Rattle.std.proofs.Common.{◌≡◌, ℕ, suc, ◌<◌, Bool, List, [], ◌∷◌, ◌++◌, length, refl, ap, ◌∙◌, arith}
use Rattle.lola_bits.proofs.Places.{length_more}
use Rattle.lola_net.specs.declared.node.Node.{Node}
use Rattle.lola_net.specs.declared.node.Node.TheVariants.{Free, Latch, Pad, Gate}
use Rattle.lola_net.specs.Literals.{at_place, at_node}
use Rattle.lola_net.specs.Run.{Sources, value_of, rest_of, values_after, node_values}
use Rattle.lola_gate.specs.Gates.{next_value, values_from, left_with, with_next}
use Rattle.lola_gate.specs.Values.{place_before, place_last}
use Rattle.lola_gate.specs.Cycles.{HaveCycle}

-- a value that is made stays
stays : (s : Sources) (so : List Bool) (xs : List Node) (n : ℕ) → n < length so → at_place (values_after s so xs) n ≡ at_place so n
stays s so [] n e = refl
stays s so (x ∷ xs) n e =
    let l = length_more so (value_of s so x) in
    stays (rest_of s x) (so ++ value_of s so x ∷ []) xs n (omega arith) ∙ place_before so (value_of s so x ∷ []) n e

-- a node means its value where the others mean theirs
here : (s : Sources) (so : List Bool) (v : ℕ → Bool) (x : Node) → v (suc (length so)) ≡ value_of s so x → next_value v so x ≡ value_of s so x
here s so v (Free name) e = e
here s so v (Latch name next) e = e
here s so v (Pad name value release) e = e
here s so v (Gate a b) e = refl

means_from : (s : Sources) (so : List Bool) (xs : List Node) (v : ℕ → Bool) → ((n : ℕ) → v (suc n) ≡ at_place (values_after s so xs) n) → values_from v so xs ≡ values_after s so xs
means_from s so [] v e = refl
means_from s so (x ∷ xs) v e =
    let l = length_more so (value_of s so x) in
    let made : v (suc (length so)) ≡ value_of s so x =
    e (length so) ∙ stays (rest_of s x) (so ++ value_of s so x ∷ []) xs (length so) (omega arith) ∙ place_last so (value_of s so x) in
    ap (λ b. values_from v (so ++ b ∷ []) xs) (here s so v x made) ∙ means_from (rest_of s x) (so ++ value_of s so x ∷ []) xs v e

-- next literals make no difference
next_from : (s : Sources) (so : List Bool) (next : List ℕ) (xs : List Node) → values_after s so (with_next next xs) ≡ values_after s so xs
next_from s so next [] = refl
next_from s so next (Free name ∷ xs) = next_from (rest_of s (Free name)) (so ++ value_of s so (Free name) ∷ []) (left_with next (Free name)) xs
next_from s so next (Latch name old ∷ xs) = next_from (rest_of s (Latch name old)) (so ++ value_of s so (Latch name old) ∷ []) (left_with next (Latch name old)) xs
next_from s so next (Pad name value release ∷ xs) = next_from (rest_of s (Pad name value release)) (so ++ value_of s so (Pad name value release) ∷ []) (left_with next (Pad name value release)) xs
next_from s so next (Gate a b ∷ xs) = next_from (rest_of s (Gate a b)) (so ++ value_of s so (Gate a b) ∷ []) (left_with next (Gate a b)) xs

pub cycled : (d : List Node) (s : Sources) → HaveCycle d s
cycled d s = record { means = means_from s [] d (at_node (node_values s d)) (λ n. refl); next = λ next. next_from s [] next d }
