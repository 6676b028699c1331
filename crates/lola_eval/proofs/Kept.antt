-- What stays of vectors, of environments and of numbers while steps are made.
use Rattle.std.proofs.Common.{◌≡◌, ℕ, Bool, List, [], ◌∷◌, map, get_or, refl, ◌∙◌, ap, ap₂}
use Rattle.std.specs.List.{AllByRecursion}
use Rattle.std.proofs.Math.ListN.{get_or-map}
use Rattle.lola_alg.specs.Algebra.{Meaning, Stays}
use Rattle.lola_bits.specs.BitLists.{number_of}
use Rattle.lola_bits.proofs.All.{at_any_place}
use Rattle.lola_alg.specs.Means.{AreKnown, number_at}
use Rattle.lola_alg.proofs.Loops.{stay_known_all}
use Rattle.lola_alg.proofs.ListMeans.{values_stay}
use Rattle.lola_flat.specs.Value.{Env, env, mapped, elements, vector}
use Rattle.lola_eval.specs.Means.{EnvKnown, numbers}

-- a vector of a mapped environment
pub elements_mapped : {X Y : Type 0} (f : X → Y) (E : Env X) (n : ℕ) → elements (mapped f E) n ≡ map f (elements E n)
elements_mapped f E n = get_or-map (map f) E.signals n []

pub vector_mapped : {X Y : Type 0} (f : X → Y) (z : X) (E : Env X) (n : ℕ) → vector (f z) (mapped f E) n ≡ f (vector z E n)
vector_mapped f z E n = ap (λ xs. get_or xs 0 (f z)) (elements_mapped f E n) ∙ get_or-map f (elements E n) 0 z

module _ {D B : Type 0} (m : Meaning D B) where
  pub number_stay : (d e : D) (x : List B) → Stays m d e → AreKnown m d x → (v : ℕ → Bool) → number_at m e v x ≡ number_at m d v x
  number_stay d e x stays known v = ap number_of (values_stay m d e x stays known v)

  pub numbers_stay : (d e : D) (xs : List (List B)) → Stays m d e → AllByRecursion (AreKnown m d) xs → (v : ℕ → Bool) → map (number_at m e v) xs ≡ map (number_at m d v) xs
  numbers_stay d e [] stays known v = refl
  numbers_stay d e (x ∷ xs) stays known v = ap₂ (λ n ns. n ∷ ns) (number_stay d e x stays known.0 v) (numbers_stay d e xs stays known.1 v)

  signals_stay : (d e : D) (xs : List (List (List B))) → Stays m d e → AllByRecursion (AllByRecursion (AreKnown m d)) xs → (v : ℕ → Bool) → map (map (number_at m e v)) xs ≡ map (map (number_at m d v)) xs
  signals_stay d e [] stays known v = refl
  signals_stay d e (x ∷ xs) stays known v = ap₂ (λ n ns. n ∷ ns) (numbers_stay d e x stays known.0 v) (signals_stay d e xs stays known.1 v)

  pub signals_known : (d e : D) (xs : List (List (List B))) → Stays m d e → AllByRecursion (AllByRecursion (AreKnown m d)) xs → AllByRecursion (AllByRecursion (AreKnown m e)) xs
  signals_known d e [] stays known = tt
  signals_known d e (x ∷ xs) stays known = (stay_known_all m d e x stays known.0, signals_known d e xs stays known.1)

  -- an environment stays known, with its numbers
  pub env_known : (d e : D) (E : Env (List B)) → Stays m d e → EnvKnown m d E → EnvKnown m e E
  env_known d e E stays k = record { signals = signals_known d e E.signals stays k.signals; outside = stay_known_all m d e E.outside stays k.outside }

  pub env_stay : (d e : D) (E : Env (List B)) → Stays m d e → EnvKnown m d E → (v : ℕ → Bool) → numbers m e v E ≡ numbers m d v E
  env_stay d e E stays k v = ap₂ env (signals_stay d e E.signals stays k.signals v) (numbers_stay d e E.outside stays k.outside v)

  -- the vectors that an environment has
  pub elements_known : (d : D) (E : Env (List B)) (n : ℕ) → EnvKnown m d E → AllByRecursion (AreKnown m d) (elements E n)
  elements_known d E n k = at_any_place (AllByRecursion (AreKnown m d)) E.signals n [] tt k.signals

  pub vector_known : (d : D) (E : Env (List B)) (n : ℕ) → EnvKnown m d E → AreKnown m d (vector [] E n)
  vector_known d E n k = at_any_place (AreKnown m d) (elements E n) 0 [] tt (elements_known d E n k)

  pub outer_known : (d : D) (E : Env (List B)) (n : ℕ) → EnvKnown m d E → AreKnown m d (get_or E.outside n [])
  outer_known d E n k = at_any_place (AreKnown m d) E.outside n [] tt k.outside
