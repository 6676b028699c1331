-- Keys of ids that rise.
use Rattle.std.proofs.Common.{◌≡◌, ◌≢◌, ℕ, ◌+◌, ◌<◌, ◌≤◌, true, false, cond, List, [], ◌∷◌, ◌++◌, Option, None, Some, nat_eq, ◌-◌, take, drop, length, slice_index_or, refl, sym, ◌∙◌, ap, ap₂, subst, arith, inl, inr, take-append-drop, take_all}
use Rattle.std.proofs.lemmas.Bool.{cases_Bool}
use Rattle.std.proofs.lemmas.List.{drop_more}
use Rattle.std.proofs.lemmas.Bool.Decides.{Decides-eqb}
use Rattle.lrat_check.specs.declared.keys.Entry.{Entry}
use Rattle.lrat_check.specs.Keys.{Rises, key_of}

-- numbers that differ are not the same
pub other_id : (n m : ℕ) → n ≢ m → nat_eq n m ≡ false
other_id n m h = elim (cases_Bool (nat_eq n m)) [ inl t ↦ absurd (h ((Decides-eqb n m).0 t)) | inr f ↦ f ]

pub same_id : (n : ℕ) → nat_eq n n ≡ true
same_id n = (Decides-eqb n n).1 refl

pub is_id : (n m : ℕ) → nat_eq n m ≡ true → n ≡ m
is_id n m = (Decides-eqb n m).0

pub rises_weaker : (low lower high : ℕ) (es : List Entry) → lower ≤ low → Rises low es high → Rises lower es high
rises_weaker low lower high [] l r = omega (arith, l, r)
rises_weaker low lower high (e ∷ es) l r = (let k = r.0 in omega (arith, l, k), r.1)

pub rises_later : (low high : ℕ) (e : Entry) (es : List Entry) → Rises low (e ∷ es) high → Rises low es high
rises_later low high e es r = rises_weaker e.id low high es (let k = r.0 in omega (arith, k)) r.1

pub rises_more : (low high : ℕ) (es : List Entry) (e : Entry) → high < e.id → Rises low es high → Rises low (es ++ e ∷ []) e.id
rises_more low high [] e h r = (omega (arith, h, r), omega arith)
rises_more low high (x ∷ xs) e h r = (r.0, rises_more x.id high xs e h r.1)

pub rises_within : (low high : ℕ) (es : List Entry) → Rises low es high → low ≤ high
rises_within low high [] r = r
rises_within low high (e ∷ es) r = let k = r.0 in let l = rises_within e.id high es r.1 in omega (arith, k, l)

rises_to : (low high : ℕ) (xs ys : List Entry) (e : Entry) → Rises low (xs ++ e ∷ ys) high → low < e.id
rises_to low high [] ys e r = r.0
rises_to low high (x ∷ xs) ys e r = let k = r.0 in let l = rises_to x.id high xs ys e r.1 in omega (arith, k, l)

pub rises_front : (low high : ℕ) (xs ys : List Entry) (e : Entry) → Rises low (xs ++ e ∷ ys) high → Rises low xs e.id
rises_front low high [] ys e r = let k = r.0 in omega (arith, k)
rises_front low high (x ∷ xs) ys e r = (r.0, rises_front x.id high xs ys e r.1)

pub rises_back : (low high : ℕ) (xs ys : List Entry) (e : Entry) → Rises low (xs ++ e ∷ ys) high → Rises e.id ys high
rises_back low high [] ys e r = r.1
rises_back low high (x ∷ xs) ys e r = rises_back x.id high xs ys e r.1

-- an id that isn't above where the ids begin has no key
pub no_key : (low high id : ℕ) (es : List Entry) → id ≤ low → Rises low es high → key_of es id ≡ None
no_key low high id [] h r = refl
no_key low high id (e ∷ es) h r = let k = r.0 in rw (other_id id e.id (omega (arith, h, k))) (no_key e.id high id es (omega (arith, h, k)) r.1)

-- the key of an entry's id is the entry's
pub key_here : (low high : ℕ) (xs ys : List Entry) (e : Entry) → Rises low (xs ++ e ∷ ys) high → key_of (xs ++ e ∷ ys) e.id ≡ Some e.key
key_here low high [] ys e r = rw (same_id e.id) refl
key_here low high (x ∷ xs) ys e r = let k = rises_to x.id high xs ys e r.1 in rw (other_id e.id x.id (omega (arith, k))) (key_here x.id high xs ys e r.1)

-- that of a smaller id stands before it, and that of a greater one behind it
pub key_before : (low high id : ℕ) (xs ys : List Entry) (e : Entry) → id < e.id → Rises low (xs ++ e ∷ ys) high → key_of (xs ++ e ∷ ys) id ≡ key_of xs id
key_before low high id [] ys e h r = rw (other_id id e.id (omega (arith, h))) (no_key e.id high id ys (omega (arith, h)) r.1)
key_before low high id (x ∷ xs) ys e h r = ap (λ (o : Option ℕ). cond (nat_eq id x.id) (Some x.key) o) (key_before x.id high id xs ys e h r.1)

pub key_behind : (low high id : ℕ) (xs ys : List Entry) (e : Entry) → e.id < id → Rises low (xs ++ e ∷ ys) high → key_of (xs ++ e ∷ ys) id ≡ key_of ys id
key_behind low high id [] ys e h r = rw (other_id id e.id (omega (arith, h))) refl
key_behind low high id (x ∷ xs) ys e h r = let k = rises_to x.id high xs ys e r.1 in
    rw (other_id id x.id (omega (arith, h, k))) (key_behind x.id high id xs ys e h r.1)

-- entries around the one in the middle
pub halves : (es front behind : List Entry) (n : ℕ) (d : Entry) → front ≡ take n es → behind ≡ drop n es → 1 ≤ length behind
    → es ≡ front ++ slice_index_or behind 0 d ∷ take (length behind - 1) (drop 1 behind)
halves es front [] n d f b l = absurd (omega (arith, l))
halves es front (e ∷ later) n d f b l =
    let whole : take (length (e ∷ later) - 1) later ≡ later = take_all (length (e ∷ later) - 1) later (omega arith) in
    sym (take-append-drop n es) ∙ ap₂ (λ (x y : List Entry). x ++ y) (sym f) (sym b) ∙ ap (λ (x : List Entry). front ++ e ∷ x) (sym whole)

pub later_few : (behind : List Entry) → 1 ≤ length behind → length (take (length behind - 1) (drop 1 behind)) < length behind
later_few [] l = absurd (omega (arith, l))
later_few (e ∷ later) l = let w : take (length (e ∷ later) - 1) later ≡ later = take_all (length (e ∷ later) - 1) later (omega arith) in rw w (omega arith)

-- an entry at an index
pub key_at : (low high i id : ℕ) (es : List Entry) (e d : Entry) → Rises low es high → i < length es → e ≡ slice_index_or es i d → e.id ≡ id → Some e.key ≡ key_of es id
key_at low high i id es e d r h is same =
    let w : es ≡ take i es ++ e ∷ drop (i + 1) es = sym (take-append-drop i es) ∙ ap (λ (x : List Entry). take i es ++ x) (drop_more es i d h ∙ ap (λ (x : Entry). x ∷ drop (i + 1) es) (sym is)) in
    sym (ap (λ (x : List Entry). key_of x id) w ∙ ap (λ (n : ℕ). key_of (take i es ++ e ∷ drop (i + 1) es) n) (sym same)
    ∙ key_here low high (take i es) (drop (i + 1) es) e (subst (λ (x : List Entry). Rises low x high) w r))

pub rises_further : (low high higher : ℕ) (es : List Entry) → high ≤ higher → Rises low es high → Rises low es higher
rises_further low high higher [] h r = omega (arith, h, r)
rises_further low high higher (e ∷ es) h r = (r.0, rises_further e.id high higher es h r.1)
