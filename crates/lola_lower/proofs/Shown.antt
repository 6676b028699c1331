-- What stands while the values of nodes are followed along the order of equations: the vectors of the table have the numbers of the design's cycle, and what comes in for the pads that are left is still to come.
use Rattle.std.proofs.Common.{◌≡◌, ◌≢◌, ◌⊎◌, ℕ, zero, suc, ◌+◌, ◌<◌, ◌≤◌, ◌^◌, Bool, true, false, cond, List, [], ◌∷◌, ◌++◌, length, map, flat_map, get_or, set, Option, Some, None, inl, inr, refl, sym, ◌∙◌, ap, ap₂, subst, arith, append_assoc, append-nil}
use Rattle.std.specs.Prelude.{slice_get, ◌/◌}
use Rattle.std.specs.List.{AllByRecursion}
use Rattle.lola_bits.specs.Lists.{IsIn}
use Rattle.lola_bits.specs.BitLists.{number_of}
use Rattle.lola_bits.proofs.All.{all_of, of_all, all_weaker}
use Rattle.lola_bits.proofs.Lists.{to_map}
use Rattle.lola_alg.specs.Algebra.{Stays}
use Rattle.lola_alg.specs.Means.{AreKnown, number_at}
use Rattle.lola_net.specs.declared.node.Node.{Node}
use Rattle.lola_net.specs.declared.node.Node.TheVariants.{Free, Latch, Pad, Gate}
use Rattle.lola_net.specs.Literals.{at_node, at_literal}
use Rattle.lola_net.specs.Run.{Sources, rest_of, value_of, values_after, node_values}
use Rattle.lola_gate.specs.Gates.{gates_meaning, values, knows_literal}
use Rattle.lola_gate.specs.Law.{known_within}
use Rattle.lola_gate.specs.Cycles.{HaveCycle}
use Rattle.lola_gate.proofs.Cycled.{cycled}
use Rattle.lola_flat.specs.declared.design.SigKind.TheVariants.{Input, Register}
use Rattle.lola_flat.specs.Tree.{ExprTree, SignalTree, FlatTree}
use Rattle.lola_flat.specs.Value.{Env, env, mapped, elements, value, Read, vector_of, array_of, outside_of, reads}
use Rattle.lola_flat.specs.Signals.{IsSignal, IsClock, HaveSame}
use Rattle.lola_eval.specs.Means.{EnvKnown, MeansValue, numbers}
use Rattle.lola_eval.proofs.Kept.{elements_mapped, elements_known, numbers_stay}
use Rattle.lola_lower.proofs.Grown.{IsGate, Grown}
use Rattle.lola_lower.proofs.Started.{sources, rest_after, after_both, rest_both, Behind, values_behind}
use Rattle.lola_lower.proofs.Rows.{number_by, numbers_by}
use Rattle.lola_lower.proofs.Carried.{literals_stay}

-- gates take nothing of what comes in
gates_rest : (s : Sources) (more : List Node) → AllByRecursion IsGate more → rest_after s more ≡ s
gates_rest s [] all = refl
gates_rest s (Gate a b ∷ more) all = gates_rest s more all.1
gates_rest s (Free name ∷ more) all = absurd (let h : false ≡ true = all.0 in cc)
gates_rest s (Latch name next ∷ more) all = absurd (let h : false ≡ true = all.0 in cc)
gates_rest s (Pad name v r ∷ more) all = absurd (let h : false ≡ true = all.0 in cc)

pub grown_rest : (s : Sources) (d e : List Node) → Grown d e → rest_after s e ≡ rest_after s d
grown_rest s d e g = ap (rest_after s) g.is ∙ rest_both s d g.more ∙ gates_rest (rest_after s d) g.more g.gates_only

length_after : (s : Sources) (so : List Bool) (xs : List Node) → length (values_after s so xs) ≡ length so + length xs
length_after s so [] = omega arith
length_after s so (x ∷ xs) = let h = length_after (rest_of s x) (so ++ value_of s so x ∷ []) xs in let l = length_one so (value_of s so x) in omega arith
  where
    length_one : (xs : List Bool) (x : Bool) → length (xs ++ x ∷ []) ≡ suc (length xs)
    length_one [] x = refl
    length_one (y ∷ xs) x = ap suc (length_one xs x)

pub values_long : (s : Sources) (d : List Node) → length (node_values s d) ≡ length d
values_long s d = let h = length_after s [] d in omega arith

pub known_inside : (s : Sources) (d : List Node) (bits : List ℕ) → AreKnown gates_meaning d bits → AllByRecursion (λ l. l / 2 < suc (length (node_values s d))) bits
known_inside s d bits known = all_weaker (λ l. knows_literal d l ≡ true) (λ l. l / 2 < suc (length (node_values s d))) (λ l k. let h = known_within d l k in let e = values_long s d in omega arith) bits known

-- numbers stay where more nodes come
pub number_stays : (s : Sources) (d more : List Node) (bits : List ℕ) → AreKnown gates_meaning d bits → number_by (node_values s (d ++ more)) bits ≡ number_by (node_values s d) bits
number_stays s d more bits known =
    let b = values_behind (rest_after s d) (node_values s d) more in
    ap (λ V. number_by V bits) (after_both s [] d more ∙ b.is) ∙ ap number_of (literals_stay (node_values s d) b.more bits (known_inside s d bits known))

pub all_stay : (s : Sources) (d more : List Node) (vectors : List (List ℕ)) → AllByRecursion (AreKnown gates_meaning d) vectors → numbers_by (node_values s (d ++ more)) vectors ≡ numbers_by (node_values s d) vectors
all_stay s d more [] known = refl
all_stay s d more (x ∷ xs) known = ap₂ (λ n ns. n ∷ ns) (number_stays s d more x known.0) (all_stay s d more xs known.1)

-- the algebra means the values of nodes
pub meaning_is : (s : Sources) (d : List Node) (bits : List ℕ) → number_at gates_meaning d (at_node (node_values s d)) bits ≡ number_by (node_values s d) bits
meaning_is s d bits = ap (λ V. number_by V bits) (cycled d s).means

pub meanings_are : (s : Sources) (d : List Node) (vectors : List (List ℕ)) → map (number_at gates_meaning d (at_node (node_values s d))) vectors ≡ numbers_by (node_values s d) vectors
meanings_are s d vectors = ap (λ V. numbers_by V vectors) (cycled d s).means
