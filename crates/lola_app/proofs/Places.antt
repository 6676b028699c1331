-- Names at places of lists.
use Rattle.std.proofs.Common.{◌≡◌, ◌≢◌, ℕ, ◌+◌, ◌<◌, List, ◌∷◌, length, map, get_or, drop, Some, None, refl, sym, ◌∙◌, ap, subst, inl, inr}
use Rattle.std.proofs.lemmas.Option.{slice_get_read, slice_get-map}
use Rattle.std.specs.Option.{option_map}
use Rattle.lola_bits.specs.Lists.{IsIn, IsAt}
use Rattle.lola_bits.proofs.Places.{drop_item, get_in}
use Rattle.small_tree.specs.Table.{TableTree}
use Rattle.lola_app.specs.declared.roles.Roles.{Roles}
use Rattle.lola_app.specs.Shown.{AreRoles, IsLoadedAt}

pub at_place : {X : Type 0} (f : X → List ℕ) (xs : List X) (i : ℕ) (x : X) (name : List ℕ) → i < length xs → x ≡ get_or xs i x → f x ≡ name → IsAt (map f xs) i name
at_place f xs i x name within is named =
    slice_get-map f xs i ∙ ap (option_map f) (slice_get_read xs (length xs) i x refl within is) ∙ ap (λ (n : List ℕ). Some n) named

pub not_here : {X : Type 0} (f : X → List ℕ) (xs : List X) (i : ℕ) (x : X) (name : List ℕ) → i < length xs → x ≡ get_or xs i x → f x ≢ name → IsIn name (map f (drop i xs)) → IsIn name (map f (drop (i + 1) xs))
not_here f xs i x name within is other there = behind (subst (λ ys. IsIn name (map f ys)) (drop_item xs i x within is) there)
  where
    behind : IsIn name (f x ∷ map f (drop (i + 1) xs)) → IsIn name (map f (drop (i + 1) xs))
    behind (inl same) = absurd (other (sym same))
    behind (inr later) = later

-- the roles with LOADED, and without it
pub both_roles : (inputs : List (List ℕ)) (T : TableTree) (roles : Roles) (leaf : ℕ) (port : List ℕ) → T.loaded ≡ Some port → roles.loaded ≡ Some leaf → IsAt inputs roles.reset T.reset.port →
    IsAt inputs leaf port → port ≢ T.reset.port → AreRoles inputs T roles
both_roles inputs T roles leaf port is known at there apart = record {
  small = record {
    reset = get_in inputs roles.reset T.reset.port at;
    loaded = λ other e.
        let same : port ≡ other = let f : Some port ≡ Some other = sym is ∙ e in cc in
        subst (λ p. IsIn p inputs × (p ≢ T.reset.port)) same (get_in inputs leaf port there, apart);
  };
  reset = at;
  loaded = subst (λ l. IsLoadedAt inputs T.loaded l) (sym known) (subst (λ p. IsLoadedAt inputs p (Some leaf)) (sym is) there);
}

pub one_role : (inputs : List (List ℕ)) (T : TableTree) (roles : Roles) → T.loaded ≡ None → roles.loaded ≡ None → IsAt inputs roles.reset T.reset.port → AreRoles inputs T roles
one_role inputs T roles is known at = record {
  small = record {
    reset = get_in inputs roles.reset T.reset.port at;
    loaded = λ other e. absurd (let f : None ≡ Some other = sym is ∙ e in cc);
  };
  reset = at;
  loaded = subst (λ l. IsLoadedAt inputs T.loaded l) (sym known) (subst (λ p. IsLoadedAt inputs p None) (sym is) tt);
}
