-- Lists whose elements were moved to higher or lower places: their lengths, their elements, and moves after one another.
use Rattle.std.proofs.Common.{◌≡◌, ℕ, zero, suc, ◌+◌, ◌-◌, ◌*◌, ◌/◌, ◌%◌, ◌<◌, min, List, [], ◌∷◌, ◌++◌, map, length, take, drop, replicate, refl, sym, ap, ap₂, ◌∙◌, arith, append_assoc, append-nil, length-append, length-drop, length-take, take-append-drop, drop-drop, suc-mul, div-add-mod'}
use Rattle.std.proofs.lemmas.List.{length-replicate, map-append, take-map, drop-map, drop-replicate, replicate-append-replicate, length-map, nil_from_length}
use Rattle.std.specs.List.{AllByRecursion}
use Rattle.lola_bits.proofs.All.{all_append, all_take, all_drop, all_same}
use Rattle.lola_bits.proofs.Places.{map_replicate, drop_both}
use Rattle.lola_alg.specs.Steps.{moved_up, moved_down, moved_filled, highest}

-- to the right in a ring
abbrev pub turned : {X : Type 0} → ℕ → List X → List X
turned n xs = drop (n % length xs) xs ++ take (n % length xs) xs

-- a move and a map, one after the other
pub map_up : {X Y : Type 0} (f : X → Y) (fill : X) (n : ℕ) (xs : List X) → map f (moved_up fill n xs) ≡ moved_up (f fill) n (map f xs)
map_up f fill n xs =
    sym (take-map f (length xs) (replicate (min n (length xs)) fill ++ xs))
    ∙ (ap (take (length xs)) (map-append f (replicate (min n (length xs)) fill) xs ∙ ap (λ ys. ys ++ map f xs) (map_replicate f (min n (length xs)) fill))
    ∙ ap (λ w. take w (replicate (min n w) (f fill) ++ map f xs)) (sym (length-map xs f)))

pub map_down : {X Y : Type 0} (f : X → Y) (fill : X) (n : ℕ) (xs : List X) → map f (moved_down fill n xs) ≡ moved_down (f fill) n (map f xs)
map_down f fill n xs =
    map-append f (drop n xs) (replicate (min n (length xs)) fill)
    ∙ ap₂ (λ ys zs. ys ++ zs) (sym (drop-map f n xs)) (map_replicate f (min n (length xs)) fill ∙ ap (λ w. replicate (min n w) (f fill)) (sym (length-map xs f)))

map_highest : {X Y : Type 0} (f : X → Y) (n : ℕ) (xs : List X) → map f (highest xs n) ≡ highest (map f xs) n
map_highest f n [] = refl
map_highest f n (x ∷ []) = map_replicate f n x
map_highest f n (x ∷ y ∷ more) = map_highest f n (y ∷ more)

pub map_filled : {X Y : Type 0} (f : X → Y) (n : ℕ) (xs : List X) → map f (moved_filled n xs) ≡ moved_filled n (map f xs)
map_filled f n xs =
    map-append f (drop n xs) (highest xs (min n (length xs)))
    ∙ ap₂ (λ ys zs. ys ++ zs) (sym (drop-map f n xs)) (map_highest f (min n (length xs)) xs ∙ ap (λ w. highest (map f xs) (min n w)) (sym (length-map xs f)))

pub map_turned : {X Y : Type 0} (f : X → Y) (n : ℕ) (xs : List X) → map f (turned n xs) ≡ turned n (map f xs)
map_turned f n xs =
    map-append f (drop (n % length xs) xs) (take (n % length xs) xs)
    ∙ (ap₂ (λ ys zs. ys ++ zs) (sym (drop-map f (n % length xs) xs)) (sym (take-map f (n % length xs) xs))
    ∙ ap (λ w. drop (n % w) (map f xs) ++ take (n % w) (map f xs)) (sym (length-map xs f)))

-- what holds of each element holds of each that was moved
module _ {X : Type 0} (P : X → Type 0) where
  each_highest : (xs : List X) (n : ℕ) → AllByRecursion P xs → AllByRecursion P (highest xs n)
  each_highest [] n p = tt
  each_highest (x ∷ []) n p = all_same P n x p.0
  each_highest (x ∷ y ∷ more) n p = each_highest (y ∷ more) n p.1

  pub each_up : (fill : X) (n : ℕ) (xs : List X) → P fill → AllByRecursion P xs → AllByRecursion P (moved_up fill n xs)
  each_up fill n xs f p = all_take P (length xs) (replicate (min n (length xs)) fill ++ xs) (all_append P (replicate (min n (length xs)) fill) xs (all_same P (min n (length xs)) fill f) p)

  pub each_down : (fill : X) (n : ℕ) (xs : List X) → P fill → AllByRecursion P xs → AllByRecursion P (moved_down fill n xs)
  each_down fill n xs f p = all_append P (drop n xs) (replicate (min n (length xs)) fill) (all_drop P n xs p) (all_same P (min n (length xs)) fill f)

  pub each_filled : (n : ℕ) (xs : List X) → AllByRecursion P xs → AllByRecursion P (moved_filled n xs)
  each_filled n xs p = all_append P (drop n xs) (highest xs (min n (length xs))) (all_drop P n xs p) (each_highest xs (min n (length xs)) p)

  pub each_turned : (n : ℕ) (xs : List X) → AllByRecursion P xs → AllByRecursion P (turned n xs)
  each_turned n xs p = all_append P (drop (n % length xs) xs) (take (n % length xs) xs) (all_drop P (n % length xs) xs p) (all_take P (n % length xs) xs p)

-- lengths stay
pub up_long : {X : Type 0} (fill : X) (n : ℕ) (xs : List X) → length (moved_up fill n xs) ≡ length xs
up_long fill n xs =
    let a = length-take (length xs) (replicate (min n (length xs)) fill ++ xs) in
    let b = length-append (replicate (min n (length xs)) fill) xs in
    omega arith

pub down_long : {X : Type 0} (fill : X) (n : ℕ) (xs : List X) → length (moved_down fill n xs) ≡ length xs
down_long fill n xs =
    let a = length-append (drop n xs) (replicate (min n (length xs)) fill) in
    let b = length-drop n xs in
    let d = length-replicate (min n (length xs)) fill in
    omega arith

pub turned_long : {X : Type 0} (n : ℕ) (xs : List X) → length (turned n xs) ≡ length xs
turned_long n xs =
    let a = length-append (drop (n % length xs) xs) (take (n % length xs) xs) in
    let b = length-drop (n % length xs) xs in
    let d = length-take (n % length xs) xs in
    omega arith

-- a move down, and another behind it
pub down_more : {X : Type 0} (fill : X) (a b : ℕ) (xs : List X) → moved_down fill a (moved_down fill b xs) ≡ moved_down fill (b + a) xs
down_more fill a b xs =
    let k : ℕ = min b (length xs) in
    let long = down_long fill b xs in
    let left = length-drop b xs in
    let over : ℕ = a - length (drop b xs) in
    let first : drop a (moved_down fill b xs) ≡ drop (b + a) xs ++ replicate (k - over) fill =
    drop_both a (drop b xs) (replicate k fill) ∙ ap₂ (λ us vs. us ++ vs) (drop-drop a b xs) (drop-replicate over k fill) in
    let count : k - over + min a (length xs) ≡ min (b + a) (length xs) = omega arith in
    ap₂ (λ us w. us ++ replicate (min a w) fill) first long
    ∙ (append_assoc (drop (b + a) xs) (replicate (k - over) fill) (replicate (min a (length xs)) fill)
    ∙ ap (λ us. drop (b + a) xs ++ us) (replicate-append-replicate (k - over) (min a (length xs)) fill ∙ ap (λ j. replicate j fill) count))

-- moved around once for each step
abbrev once : {X : Type 0} → List X → List X
once [] = []
once (x ∷ xs) = xs ++ x ∷ []

abbrev around : {X : Type 0} → ℕ → List X → List X
around zero xs = xs
around (suc n) xs = around n (once xs)

-- the first list comes behind the second
around_past : {X : Type 0} (xs ys : List X) → around (length xs) (xs ++ ys) ≡ ys ++ xs
around_past [] ys = sym (append-nil ys)
around_past (x ∷ xs) ys =
    ap (around (length xs)) (append_assoc xs ys (x ∷ [])) ∙ (around_past xs (ys ++ x ∷ []) ∙ append_assoc ys (x ∷ []) xs)

around_more : {X : Type 0} (a b : ℕ) (xs : List X) → around a (around b xs) ≡ around (b + a) xs
around_more a zero xs = let e : 0 + a ≡ a = omega arith in ap (λ n. around n xs) (sym e)
around_more a (suc b) xs = let e : suc b + a ≡ suc (b + a) = omega arith in around_more a b (once xs) ∙ ap (λ n. around n xs) (sym e)

-- whole times around do nothing
around_times : {X : Type 0} (q : ℕ) (xs : List X) → around (q * length xs) xs ≡ xs
around_times zero xs = let e : 0 * length xs ≡ 0 = omega arith in ap (λ n. around n xs) e
around_times (suc q) xs =
    let e : suc q * length xs ≡ length xs + q * length xs = omega (arith, suc-mul q (length xs)) in
    let whole : around (length xs) xs ≡ xs = ap (around (length xs)) (sym (append-nil xs)) ∙ around_past xs [] in
    ap (λ n. around n xs) e ∙ (sym (around_more (q * length xs) (length xs) xs) ∙ (ap (around (q * length xs)) whole ∙ around_times q xs))

turned_is : {X : Type 0} (n : ℕ) (xs : List X) → 0 < length xs → turned n xs ≡ around n xs
turned_is n xs some =
    let k : ℕ = n % length xs in
    let below : k < length xs = omega arith in
    let long : length (take k xs) ≡ k = omega (arith, length-take k xs) in
    let split : n / length xs * length xs + k ≡ n = div-add-mod' n (length xs) in
    let past : around k xs ≡ drop k xs ++ take k xs = ap₂ (λ j us. around j us) (sym long) (sym (take-append-drop k xs)) ∙ around_past (take k xs) (drop k xs) in
    sym past ∙ (ap (around k) (sym (around_times (n / length xs) xs)) ∙ (around_more k (n / length xs * length xs) xs ∙ ap (λ j. around j xs) split))

-- a turn by a multiple of the length does nothing
pub turned_none : {X : Type 0} (n : ℕ) (xs : List X) → n % length xs ≡ 0 → turned n xs ≡ xs
turned_none n xs e = ap (λ k. drop k xs ++ take k xs) e ∙ append-nil xs

-- a turn, and another behind it
pub turned_more : {X : Type 0} (a b : ℕ) (xs : List X) → turned a (turned b xs) ≡ turned (b + a) xs
turned_more {X = X} a b [] = turned_nil a (turned b []) (turned_long b []) ∙ sym (turned_nil (b + a) [] refl)
  where
    turned_nil : (n : ℕ) (ys : List X) → length ys ≡ 0 → turned n ys ≡ []
    turned_nil n ys e = nil_from_length (turned n ys) (turned_long n ys ∙ e)
turned_more {X = X} a b (x ∷ xs) =
    let all : List X = x ∷ xs in
    let long = turned_long b all in
    turned_is a (turned b all) (omega arith) ∙ (ap (around a) (turned_is b all (omega arith)) ∙ (around_more a b all ∙ sym (turned_is (b + a) all (omega arith))))
