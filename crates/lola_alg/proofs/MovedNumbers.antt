-- The numbers of moved lists of truth values, and moves by each bit of a second number.
use Rattle.std.proofs.Common.{◌≡◌, ℕ, zero, suc, ◌+◌, ◌-◌, ◌*◌, ◌/◌, ◌%◌, ◌^◌, ◌<◌, ◌≤◌, min, Bool, true, false, cond, List, [], ◌∷◌, ◌++◌, length, take, drop, replicate, refl, sym, ap, ap₂, subst, ◌∙◌, inl, inr, arith, append-nil, length-drop, pow-add, mul_assoc, mod-eq_of_lt, div-one, div-add-mod', append_assoc}
use Rattle.std.proofs.Math.Nat.{zero-mod, mul-mod_left, add-mul-mod_self_right}
use Rattle.std.proofs.lemmas.List.{length-replicate, take_all, replicate_more, nil_from_length}
use Rattle.std.proofs.lemmas.Nat.{mul-mod_first, pow_pos}
use Rattle.std.proofs.lemmas.Bool.{cases_lt}
use Rattle.lola_bits.specs.Number as should
use Rattle.lola_bits.specs.Number.{number}
use Rattle.lola_bits.proofs.BitLists.{number_append, number_same, number_take, half_more, number_drop, same_from_number, pow_more, number_below}
use Rattle.lola_bits.specs.BitLists.{number_of}
use Rattle.lola_alg.specs.Steps.{moved_up, moved_down, moved_filled, highest}
use Rattle.lola_alg.proofs.Bools.{pairs_of, choose_pairs}
use Rattle.lola_alg.proofs.Moved.{turned, up_long, down_long, turned_long, down_more, turned_more, turned_none}
use Rattle.lola_alg.proofs.ListMeans.{moves_of}

pub up_number : (k : ℕ) (xs : List Bool) → number_of (moved_up false k xs) ≡ should.moved_up (length xs) (number_of xs) k
up_number k xs =
    let w : ℕ = length xs in
    let j : ℕ = min k w in
    let parts : number_of (replicate j false ++ xs) ≡ number_of xs * 2 ^ j =
    number_append (replicate j false) xs ∙ ap₂ (λ z l. z + 2 ^ l * number_of xs) (number_same j false) (length-replicate j false) ∙ omega arith in
    number_take w (replicate j false ++ xs) ∙ (ap (λ z. z % 2 ^ w) parts ∙ elim (cases_lt w k) [
      | inl more ↦ (
          let at : j ≡ w = omega arith in
          let split : k ≡ (k - w) + w = omega arith in
          let far : number_of xs * 2 ^ k ≡ (number_of xs * 2 ^ (k - w)) * 2 ^ w =
          ap (λ i. number_of xs * 2 ^ i) split ∙ (ap (λ z. number_of xs * z) (pow-add 2 (k - w) w) ∙ sym (mul_assoc (number_of xs) (2 ^ (k - w)) (2 ^ w))) in
          ap (λ i. (number_of xs * 2 ^ i) % 2 ^ w) at ∙ (mul-mod_left (number_of xs) (2 ^ w)
          ∙ (sym (mul-mod_left (number_of xs * 2 ^ (k - w)) (2 ^ w)) ∙ ap (λ z. z % 2 ^ w) (sym far))))
      | inr less ↦ (let at : j ≡ k = omega arith in ap (λ i. (number_of xs * 2 ^ i) % 2 ^ w) at)
    ])

pub down_number : (k : ℕ) (xs : List Bool) → number_of (moved_down false k xs) ≡ should.moved_down (number_of xs) k
down_number k xs =
    let j : ℕ = min k (length xs) in
    number_append (drop k xs) (replicate j false)
    ∙ (ap₂ (λ z r. z + 2 ^ length (drop k xs) * r) (number_drop k xs) (number_same j false ∙ (let e : 0 * (2 ^ j - 1) ≡ 0 = omega arith in e)) ∙ omega arith)

-- the highest bit
abbrev pub top : List Bool → Bool
top [] = false
top (x ∷ []) = x
top (x ∷ y ∷ more) = top (y ∷ more)

highest_some : (x : Bool) (xs : List Bool) (k : ℕ) → highest (x ∷ xs) k ≡ replicate k (top (x ∷ xs))
highest_some x [] k = refl
highest_some x (y ∷ more) k = highest_some y more k

-- bits that come in from above are copies of the highest
filled_is : (k : ℕ) (xs : List Bool) → moved_filled k xs ≡ moved_down (top xs) k xs
filled_is k [] = let e : min k 0 ≡ 0 = omega arith in ap (λ j. drop {A = Bool} k [] ++ replicate j false) (sym e) ∙ refl
filled_is k (x ∷ xs) = ap (λ ys. drop k (x ∷ xs) ++ ys) (highest_some x xs (min k (length (x ∷ xs))))

top_last : (xs : List Bool) (t : Bool) → top (xs ++ t ∷ []) ≡ t
top_last [] t = refl
top_last (x ∷ []) t = refl
top_last (x ∷ y ∷ more) t = top_last (y ∷ more) t

-- the highest bit stays
top_down : (k : ℕ) (x : Bool) (xs : List Bool) → top (moved_down (top (x ∷ xs)) k (x ∷ xs)) ≡ top (x ∷ xs)
top_down zero x xs = let e : min 0 (length (x ∷ xs)) ≡ 0 = omega arith in ap (λ j. top ((x ∷ xs) ++ replicate j (top (x ∷ xs)))) e ∙ ap top (append-nil (x ∷ xs))
top_down (suc k) x xs =
    let t : Bool = top (x ∷ xs) in
    let j : ℕ = min k (length xs) in
    let e : min (suc k) (suc (length xs)) ≡ j + 1 = omega arith in
    ap (λ i. top (drop k xs ++ replicate i t)) e
    ∙ (ap (λ ys. top (drop k xs ++ ys)) (sym (replicate_more j t)) ∙ (ap top (sym (append_assoc (drop k xs) (replicate j t) (t ∷ []))) ∙ top_last (drop k xs ++ replicate j t) t))

pub filled_long : (k : ℕ) (xs : List Bool) → length (moved_filled k xs) ≡ length xs
filled_long k xs = ap length (filled_is k xs) ∙ down_long (top xs) k xs

-- a move that is filled, and another behind it
filled_more : (a b : ℕ) (xs : List Bool) → moved_filled a (moved_filled b xs) ≡ moved_filled (b + a) xs
filled_more a b [] = nothing a (moved_filled b []) (filled_long b []) ∙ sym (nothing (b + a) [] refl)
  where
    nothing : (k : ℕ) (ys : List Bool) → length ys ≡ 0 → moved_filled k ys ≡ []
    nothing k ys e = nil_from_length (moved_filled k ys) (filled_long k ys ∙ e)
filled_more a b (x ∷ xs) =
    let all : List Bool = x ∷ xs in
    filled_is a (moved_filled b all) ∙ (ap (λ ys. moved_down (top ys) a ys) (filled_is b all)
    ∙ (ap (λ t. moved_down t a (moved_down (top all) b all)) (top_down b x xs) ∙ (down_more (top all) a b all ∙ sym (filled_is (b + a) all))))

-- what is left of a number divided by its highest place
top_number : (x : Bool) (xs : List Bool) → number_of (x ∷ xs) / 2 ^ length xs ≡ number (top (x ∷ xs))
top_number x [] = div-one (number x + 2 * 0) ∙ omega arith
top_number x (y ∷ more) = half_more x (number_of (y ∷ more)) (length more) ∙ top_number y more

pub filled_number : (k : ℕ) (xs : List Bool) → 1 ≤ length xs → number_of (moved_filled k xs) ≡ should.moved_filled (length xs) (number_of xs) k
filled_number k [] some = absurd (omega arith)
filled_number k (x ∷ xs) some =
    let all : List Bool = x ∷ xs in
    let w : ℕ = length all in
    let t : Bool = top all in
    let j : ℕ = min k w in
    let under : w - 1 ≡ length xs = omega arith in
    let upper : number_of all / 2 ^ (w - 1) ≡ number t = ap (λ i. number_of all / 2 ^ i) under ∙ top_number x xs in
    ap number_of (filled_is k all) ∙ (number_append (drop k all) (replicate j t)
    ∙ (ap₂ (λ z l. z + 2 ^ l * number_of (replicate j t)) (number_drop k all) (length-drop k all)
    ∙ ap (λ z. number_of all / 2 ^ k + z)
    (ap (λ z. 2 ^ (w - k) * z) (number_same j t) ∙ (above t w k ∙ ap (λ u. u * (2 ^ w - 2 ^ (w - k))) (sym upper)))))
  where
    without_one : (a b : ℕ) → 0 < b → a * (b - 1) + a ≡ a * b
    without_one a zero l = absurd (omega arith)
    without_one a (suc b) l = let e : suc b - 1 ≡ b = omega arith in rw e (omega arith)

    above : (t : Bool) (w i : ℕ) → 2 ^ (w - i) * (number t * (2 ^ min i w - 1)) ≡ number t * (2 ^ w - 2 ^ (w - i))
    above false w i = omega arith
    above true w i =
        let e : w ≡ (w - i) + min i w = omega arith in
        let p : 2 ^ w ≡ 2 ^ (w - i) * 2 ^ min i w = ap (λ k. 2 ^ k) e ∙ pow-add 2 (w - i) (min i w) in
        let q = without_one (2 ^ (w - i)) (2 ^ min i w) (pow_pos (min i w)) in
        omega arith

pub turned_number : (k : ℕ) (xs : List Bool) → 1 ≤ length xs → number_of (turned k xs) ≡ should.turned (length xs) (number_of xs) k
turned_number k xs some =
    let w : ℕ = length xs in
    let j : ℕ = k % w in
    let y : ℕ = number_of xs in
    let below : j < w = omega arith in
    let made : number_of (turned k xs) ≡ y / 2 ^ j + 2 ^ (w - j) * (y % 2 ^ j) =
    number_append (drop j xs) (take j xs) ∙ (ap₂ (λ z l. z + 2 ^ l * number_of (take j xs)) (number_drop j xs) (length-drop j xs)
    ∙ ap (λ z. y / 2 ^ j + 2 ^ (w - j) * z) (number_take j xs)) in
    let fits : number_of (turned k xs) < 2 ^ w = subst (λ l. number_of (turned k xs) < 2 ^ l) (turned_long k xs) (number_below (turned k xs)) in
    let whole : 2 ^ j * 2 ^ (w - j) ≡ 2 ^ w = sym (pow-add 2 j (w - j)) ∙ (let e : j + (w - j) ≡ w = omega arith in ap (λ i. 2 ^ i) e) in
    let both : y / 2 ^ j + y * 2 ^ (w - j) ≡ (y / 2 ^ j + 2 ^ (w - j) * (y % 2 ^ j)) + y / 2 ^ j * 2 ^ w =
    ap (λ z. y / 2 ^ j + z * 2 ^ (w - j)) (sym (div-add-mod' y (2 ^ j)))
    ∙ (ring (y / 2 ^ j) (2 ^ j) (y % 2 ^ j) (2 ^ (w - j)) ∙ ap (λ z. (y / 2 ^ j + 2 ^ (w - j) * (y % 2 ^ j)) + y / 2 ^ j * z) whole) in
    sym (mod-eq_of_lt fits) ∙ (ap (λ z. z % 2 ^ w) made
    ∙ (sym (add-mul-mod_self_right (y / 2 ^ j + 2 ^ (w - j) * (y % 2 ^ j)) (y / 2 ^ j) (2 ^ w)) ∙ ap (λ z. z % 2 ^ w) (sym both)))
  where
    ring : (q p r s : ℕ) → q + (q * p + r) * s ≡ (q + s * r) + q * (p * s)
    ring q p r s = omega arith

-- a move keeps the length, by nothing does nothing, and after another is one by the sum
pub record IsMove (moved : ℕ → List Bool → List Bool) : Type 0 where
  pub long : (k : ℕ) (xs : List Bool) → length (moved k xs) ≡ length xs
  pub none : (xs : List Bool) → moved 0 xs ≡ xs
  pub more : (a b : ℕ) (xs : List Bool) → moved a (moved b xs) ≡ moved (b + a) xs

pub up_moves : IsMove (moved_up false)
up_moves = record { long = up_long false; none = none; more = more }
  where
    none : (xs : List Bool) → moved_up false 0 xs ≡ xs
    none xs = let e : min 0 (length xs) ≡ 0 = omega arith in ap (λ j. take (length xs) (replicate j false ++ xs)) e ∙ take_all (length xs) xs (omega arith)

    more : (a b : ℕ) (xs : List Bool) → moved_up false a (moved_up false b xs) ≡ moved_up false (b + a) xs
    more a b xs =
        let first = up_long false b xs in
        let second = up_long false a (moved_up false b xs) in
        let last = up_long false (b + a) xs in
        let w : ℕ = length xs in
        let y : ℕ = number_of xs in
        same_from_number (moved_up false a (moved_up false b xs)) (moved_up false (b + a) xs) (omega arith)
        (up_number a (moved_up false b xs) ∙ (ap₂ (λ z l. z * 2 ^ a % 2 ^ l) (up_number b xs) first
        ∙ (mul-mod_first (y * 2 ^ b) (2 ^ a) (2 ^ w) ∙ (ap (λ z. z % 2 ^ w) (mul_assoc y (2 ^ b) (2 ^ a) ∙ ap (λ z. y * z) (sym (pow-add 2 b a))) ∙ sym (up_number (b + a) xs)))))

pub down_moves : IsMove (moved_down false)
down_moves = record {
  long = down_long false;
  none = λ xs. let e : min 0 (length xs) ≡ 0 = omega arith in ap (λ j. xs ++ replicate j false) e ∙ append-nil xs;
  more = down_more false;
}

pub filled_moves : IsMove moved_filled
filled_moves = record { long = filled_long; none = none; more = filled_more }
  where
    none : (xs : List Bool) → moved_filled 0 xs ≡ xs
    none xs = let e : min 0 (length xs) ≡ 0 = omega arith in filled_is 0 xs ∙ (ap (λ j. xs ++ replicate j (top xs)) e ∙ append-nil xs)

pub turned_moves : IsMove turned
turned_moves = record { long = turned_long; none = λ xs. turned_none 0 xs (zero-mod (length xs)); more = turned_more }

-- moves by each bit of a number make a move by the number
pub moves_whole : (moved : ℕ → List Bool → List Bool) → IsMove moved → (bs : List Bool) (place : ℕ) (xs : List Bool) → moves_of moved place bs xs ≡ moved (2 ^ place * number_of bs) xs
moves_whole moved is [] place xs = let e : 2 ^ place * 0 ≡ 0 = omega arith in sym (ap (λ k. moved k xs) e ∙ is.none xs)
moves_whole moved is (b ∷ bs) place xs =
    moves_whole moved is bs (place + 1) (pairs_of (λ x y. cond b x y) (moved (2 ^ place) xs) xs)
    ∙ (ap (moved (2 ^ (place + 1) * number_of bs)) (choose_pairs b (moved (2 ^ place) xs) xs (sym (is.long (2 ^ place) xs)) ∙ here b)
    ∙ (is.more (2 ^ (place + 1) * number_of bs) (2 ^ place * number b) xs ∙ ap (λ k. moved k xs) both))
  where
    here : (t : Bool) → cond t (moved (2 ^ place) xs) xs ≡ moved (2 ^ place * number t) xs
    here true = let e : 2 ^ place * 1 ≡ 2 ^ place = omega arith in ap (λ k. moved k xs) (sym e)
    here false = let e : 2 ^ place * 0 ≡ 0 = omega arith in sym (ap (λ k. moved k xs) e ∙ is.none xs)

    regroup : (p t y : ℕ) → p * t + (2 * p) * y ≡ p * (t + 2 * y)
    regroup p t y = omega arith

    both : 2 ^ place * number b + 2 ^ (place + 1) * number_of bs ≡ 2 ^ place * (number b + 2 * number_of bs)
    both =
        let e : place + 1 ≡ suc place = omega arith in
        ap (λ k. 2 ^ place * number b + k * number_of bs) (ap (λ i. 2 ^ i) e ∙ pow_more place) ∙ regroup (2 ^ place) (number b) (number_of bs)
