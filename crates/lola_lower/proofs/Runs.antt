-- The names of signals come in whole runs: those of the bits of an element.
use Rattle.std.proofs.Common.{◌≡◌, ◌≢◌, ◌⊎◌, ℕ, zero, suc, ◌<◌, ◌≤◌, ◌^◌, Bool, true, false, cond, List, [], ◌∷◌, ◌++◌, length, map, flat_map, Option, Some, None, inl, inr, refl, sym, ◌∙◌, ap, ap₂, subst, arith}
use Rattle.std.specs.Prelude.{slice_get, codes, decimal}
use Rattle.std.specs.List.{AllByRecursion}
use Rattle.std.proofs.lemmas.Grind.{flat_map-append}
use Rattle.std.proofs.lemmas.List.Folds.{flat_map-map}
use Rattle.lola_bits.specs.Lists.{IsIn}
use Rattle.lola_bits.proofs.All.{all_of, of_all, all_append, all_weaker}
use Rattle.lola_bits.proofs.Lists.{from_flat_map, from_map}
use Rattle.lola_flat.specs.Numbers.{first_numbers}
use Rattle.lola_flat.specs.Tree.{ExprTree, SignalTree}
use Rattle.lola_lower.specs.Names.{path_behind, path_text, element_text, stem, names_down, signal_names}
use Rattle.lola_lower.specs.Named.{IsLetter, IsDigit, IsIdentifier, BitRun, run_names, IsStem, IsRun, AreRuns}
use Rattle.lola_lower.proofs.NameParts.{decimal_digits, in_first, IsNamed}

abbrev IsMark : ℕ → Type 0
IsMark c = (c ≡ 95) ⊎ (IsLetter c ⊎ IsDigit c)

identifier_marks : (n : List ℕ) → IsIdentifier n → AllByRecursion IsMark n
identifier_marks [] h = tt
identifier_marks (b ∷ more) h = (inr (inl h.0), all_weaker (λ c. IsLetter c ⊎ IsDigit c) IsMark (λ c k. inr k) more h.1)

behind_marks : (p : List (List ℕ)) → AllByRecursion IsIdentifier p → AllByRecursion IsMark (path_behind p)
behind_marks [] all = tt
behind_marks (n ∷ p) all = (inl refl, all_append IsMark n (path_behind p) (identifier_marks n all.0) (behind_marks p all.1))

element_marks : (place : Option ExprTree) (element : ℕ) → element < 2 ^ 64 → AllByRecursion IsMark (element_text place element)
element_marks None element few = tt
element_marks (Some p) element few = (inl refl, all_weaker IsDigit IsMark (λ c d. inr (inr d)) (decimal element) (decimal_digits element few))

stem_from : (path : List (List ℕ)) (rest : List ℕ) → path ≢ [] → AllByRecursion IsIdentifier path → AllByRecursion IsMark rest → IsStem (path_text path ++ rest)
stem_from [] rest some all marks = absurd (some refl)
stem_from ([] ∷ path) rest some all marks = absurd all.0
stem_from ((b ∷ more) ∷ path) rest some all marks = (
  all.0.0,
  all_append IsMark (more ++ path_behind path) rest (all_append IsMark more (path_behind path) (all_weaker (λ c. IsLetter c ⊎ IsDigit c) IsMark (λ c k. inr k) more all.0.1) (behind_marks path all.1)) marks,
)

abbrev pub element_run : SignalTree → ℕ → BitRun
element_run s element = record { text = stem s element; bits = s.width }

abbrev pub runs_of : SignalTree → List BitRun
runs_of s = map (element_run s) (first_numbers s.count)

signal_runs : (s : SignalTree) → flat_map run_names (runs_of s) ≡ signal_names s
signal_runs s = flat_map-map run_names (element_run s) (first_numbers s.count)

pub are_runs : (s : SignalTree) → IsNamed s → 1 ≤ s.width → (r : BitRun) → IsIn r (runs_of s) → IsRun r
are_runs s x wide r among =
    let found = from_map (element_run s) r (first_numbers s.count) among in
    let within = in_first s.count found.0 found.1 in
    let few = x.few in
    subst IsRun (sym found.2) (stem_from s.path (element_text s.place found.0) x.some x.identifiers (element_marks s.place found.0 (omega arith)), wide)

-- names that are those of some signals
pub names_are_runs : {X : Type 0} (names : X → List (List ℕ)) (signals : X → List SignalTree) → ((x : X) → names x ≡ flat_map signal_names (signals x)) → (xs : List X) → ((x : X) → IsIn x xs → (s : SignalTree) → IsIn s (signals x) → IsNamed s × (1 ≤ s.width)) → AreRuns (flat_map names xs)
names_are_runs {X = X} names signals same xs each = record {
  runs = flat_map (λ x. flat_map runs_of (signals x)) xs;
  each = all_of IsRun (flat_map (λ x. flat_map runs_of (signals x)) xs) (λ r among.
      let found = from_flat_map (λ x. flat_map runs_of (signals x)) r xs among in
      let its = from_flat_map runs_of r (signals found.0) found.2 in
      let named = each found.0 found.1 its.0 its.1 in
      are_runs its.0 named.0 named.1 r its.2);
  are = all_runs xs;
}
  where
    inner : (ss : List SignalTree) → flat_map run_names (flat_map runs_of ss) ≡ flat_map signal_names ss
    inner [] = refl
    inner (s ∷ ss) = flat_map-append run_names (runs_of s) (flat_map runs_of ss) ∙ ap₂ (λ (a b : List (List ℕ)). a ++ b) (signal_runs s) (inner ss)

    all_runs : (ys : List X) → flat_map names ys ≡ flat_map run_names (flat_map (λ x. flat_map runs_of (signals x)) ys)
    all_runs [] = refl
    all_runs (y ∷ ys) =
        ap₂ (λ (a b : List (List ℕ)). a ++ b) (same y ∙ sym (inner (signals y))) (all_runs ys)
        ∙ sym (flat_map-append run_names (flat_map runs_of (signals y)) (flat_map (λ x. flat_map runs_of (signals x)) ys))
