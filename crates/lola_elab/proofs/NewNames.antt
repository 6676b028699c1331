-- Distinct names, taken one by one.
use Rattle.std.proofs.Common.{◌≡◌, ◌↔◌, ℕ, ◌+◌, ◌<◌, Bool, true, false, ◌||◌, List, ◌∷◌, length, get_or, drop, refl, sym, ◌∙◌, ap, subst, inl, inr}
use Rattle.std.specs.Prelude.{bytes_eq}
use Rattle.std.proofs.lemmas.Bool.{false≢true, or_left, or_parts, or_from}
use Rattle.lola_bits.specs.Lists.{IsIn, AreDistinct}
use Rattle.lola_bits.proofs.Names.{same_name, other_name}
use Rattle.lola_bits.proofs.Places.{drop_item}

-- distinct names that aren't in a set
pub record AreNew (old : List ℕ → Bool) (names : List (List ℕ)) : Type 0 where
  pub distinct : AreDistinct names
  pub new : (name : List ℕ) → IsIn name names → old name ≡ false

-- at the start no name is in the set
pub new_start : (old : List ℕ → Bool) (names : List (List ℕ)) → ((q : List ℕ) → old q ≡ false) → AreNew old names ↔ AreDistinct names
new_start old names none = (λ new. new.distinct, λ distinct. record { distinct = distinct; new = λ name is. none name })

-- a name that is in the set already
pub new_fails : (old : List ℕ → Bool) (x : List ℕ) (xs : List (List ℕ)) → old x ≡ true → AreNew old (x ∷ xs) → ⊥
new_fails old x xs there new = false≢true (sym (new.new x (inl refl)) ∙ there)

-- a name that is new goes into the set
pub new_step : (old next : List ℕ → Bool) (x : List ℕ) (xs : List (List ℕ)) → old x ≡ false → ((q : List ℕ) → next q ≡ (bytes_eq x q || old q)) → AreNew next xs ↔ AreNew old (x ∷ xs)
new_step old next x xs fresh is = (
  λ new. record {
    distinct = (λ there. false≢true (sym (new.new x there) ∙ is x ∙ or_left (bytes_eq x x) (old x) (same_name x x refl)), new.distinct);
    new = λ name there. elim there [
      | inl same ↦ ap old same ∙ fresh
      | inr later ↦ (or_parts (bytes_eq x name) (old name) (sym (is name) ∙ new.new name later)).1
    ];
  },
  λ new. record {
    distinct = new.distinct.1;
    new = λ name there. is name ∙ or_from (bytes_eq x name) (old name)
        (other_name x name (λ same. new.distinct.0 (subst (λ (n : List ℕ). IsIn n xs) (sym same) there))) (new.new name (inr there));
  },
)

-- the same at a step of a loop over items that have names
pub new_at : {X Q : Type 0} (f : X → List ℕ) (behind : List X → List (List ℕ)) → ((x : X) (xs : List X) → behind (x ∷ xs) ≡ f x ∷ behind xs) →
    (xs : List X) (i : ℕ) (x : X) (text : List ℕ) (old next : List ℕ → Bool) → i < length xs → x ≡ get_or xs i x → text ≡ f x → old text ≡ false →
    ((q : List ℕ) → next q ≡ (bytes_eq text q || old q)) → (AreNew old (behind (drop i xs)) ↔ Q) → (AreNew next (behind (drop (i + 1) xs)) ↔ Q)
new_at {X = X} f behind cons xs i x text old next within is named fresh added so =
    let e : behind (drop i xs) ≡ text ∷ behind (drop (i + 1) xs) = ap behind (drop_item xs i x within is) ∙ cons x (drop (i + 1) xs) ∙ ap (λ (n : List ℕ). n ∷ behind (drop (i + 1) xs)) (sym named) in
    let step = new_step old next text (behind (drop (i + 1) xs)) fresh added in
    (λ new. so.0 (subst (λ (l : List (List ℕ)). AreNew old l) (sym e) (step.0 new)), λ so'. step.1 (subst (λ (l : List (List ℕ)). AreNew old l) e (so.1 so')))
