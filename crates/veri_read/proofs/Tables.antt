-- Tables as lists.
use Rattle.std.proofs.Common.{◌≡◌, ℕ, Bool, true, false, cond, List, [], ◌∷◌, map, Some, refl, ap, bytes_eq}
use Rattle.std.specs.Borrow.{Bor}
use Rattle.std.specs.Map.{lookup}
use Rattle.indexmap.specs.IndexMap.{insert_entry}
use Rattle.veri_read.specs.Tables.{Names, find, put}

-- an entry as a name with what is known of it
abbrev pub plain : {V : Type 0} → Bor (List ℕ) × V → List ℕ × V
plain e = (e.0.now, e.1)

pub found_plain : {V : Type 0} (name : List ℕ) (es : List (Bor (List ℕ) × V)) → lookup (λ k. bytes_eq name k.now) es ≡ find (map plain es) name
found_plain name [] = refl
found_plain name (e ∷ es) = ap (λ o. cond (bytes_eq name e.0.now) (Some e.1) o) (found_plain name es)

pub put_plain : {V : Type 0} (es : List (Bor (List ℕ) × V)) (k : Bor (List ℕ)) (v : V) → map plain (insert_entry (λ a b. bytes_eq a.now b.now) es k v) ≡ put (map plain es) k.now v
put_plain [] k v = refl
put_plain {V = V} (e ∷ es) k v = by (bytes_eq k.now e.0.now) (put_plain es k v)
  where
    by : (b : Bool) → map plain (insert_entry (λ a b. bytes_eq a.now b.now) es k v) ≡ put (map plain es) k.now v → map plain (cond b ((e.0, v) ∷ es) (e ∷ insert_entry (λ a b. bytes_eq a.now b.now) es k v)) ≡ cond b ((e.0.now, v) ∷ map plain es) (plain e ∷ put (map plain es) k.now v)
    by true h = refl
    by false h = ap (λ (l : Names V). plain e ∷ l) h
