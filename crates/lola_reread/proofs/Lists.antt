-- Lists that grow at their end, without places.
use Rattle.std.proofs.Common.{◌≡◌, List, [], ◌∷◌, ◌++◌, map, sym, ap, ◌∙◌, append_assoc, append-nil}
use Rattle.std.proofs.lemmas.List.{map-append}

-- a list that some were added to has them at its end, the first among them
pub grown : {X Y : Type 0} (f : X → Y) (before added again : List X) (x' x : X) → map f again ≡ map f (before ++ x' ∷ []) ++ map f added → f x' ≡ f x →
    map f again ≡ map f before ++ map f (x ∷ added)
grown f before added again x' x e same =
    e ∙ (ap (λ ys. ys ++ map f added) (map-append f before (x' ∷ [])) ∙ (append_assoc (map f before) (f x' ∷ []) (map f added) ∙ ap (λ y. map f before ++ y ∷ map f added) same))

pub grown_none : {X Y : Type 0} (f : X → Y) (before : List X) → map f before ≡ map f before ++ map f []
grown_none f before = sym (append-nil (map f before))
