-- The value of a number's run of digits.
use Rattle.std.proofs.Common.{◌≡◌, ℕ, ◌<◌, ◌≤◌, ◌^◌, Bool, true, false, not, List, [], ◌∷◌, length, get_or, nat_eq, Some, None, inl, inr, refl, ap, ◌∙◌, arith}
use Rattle.std.proofs.lemmas.Bool.{cases_Bool, cases_lt, lt-ltb, le-leb, and_from, and_parts}
use Rattle.std.proofs.lemmas.List.Folds.{list_all_at}
use Rattle.std.proofs.lemmas.List.Quantifiers.{position-Some}
use Rattle.std.proofs.lemmas.Bool.{not-true}
use Rattle.std.specs.List.{list_all, prefix_len, position}
use Rattle.lola_scan.specs.Bytes.{is_digit, is_hex_digit, number_of}
use Rattle.lola_scan.specs.Piece.{run_value, wrong_digit, is_too_large}
use Rattle.lola_scan.specs.Front.{base_of, limited, IsRunValue, IsWidthValue}
use Rattle.lola_scan.specs.declared.number.RunValue.TheVariants as run
use Rattle.lola_scan.specs.declared.number.WidthValue.TheVariants as width
use Rattle.lola_scan.proofs.Digits.{limited_none, limited_some}

all_from_length : (test : ℕ → Bool) (bs : List ℕ) → length bs ≤ prefix_len (λ b. not (not (test b))) bs → list_all test bs ≡ true
all_from_length test [] l = refl
all_from_length test (b ∷ bs) l = elim (cases_Bool (test b)) [
  | inl e ↦ and_from (test b) (list_all test bs) e (all_from_length test bs (let m = rw e at l in omega arith))
  | inr e ↦ absurd (let m = rw e at l in omega arith)
]

-- where no wrong byte stands all pass
all_from_none : (test : ℕ → Bool) (bs : List ℕ) → position (λ b. not (test b)) bs ≡ None → list_all test bs ≡ true
all_from_none test bs e = elim (cases_lt (prefix_len (λ b. not (not (test b))) bs) (length bs)) [
  | inl l ↦ (let f = rw (lt-ltb _ _ l) at e in absurd (cc))
  | inr l ↦ all_from_length test bs l
]

not_all_from_some : (test : ℕ → Bool) (bs : List ℕ) (n : ℕ) → position (λ b. not (test b)) bs ≡ Some n → list_all test bs ≡ false
not_all_from_some test bs n e =
    let h = position-Some (λ b. not (test b)) bs n 0 e in
    list_all_at test bs n 0 h.0 (not-true (test (get_or bs n 0)) h.1)

pub value_wrong : (digits : List ℕ) (hexadecimal : Bool) (n : ℕ) → wrong_digit digits hexadecimal ≡ Some n → run_value digits hexadecimal ≡ None
value_wrong digits true n e = cc
value_wrong digits false n e = rw (not_all_from_some is_digit digits n e) refl

value_right : (digits : List ℕ) (hexadecimal : Bool) → wrong_digit digits hexadecimal ≡ None → run_value digits hexadecimal ≡ Some (number_of (base_of hexadecimal) digits)
value_right digits true e = refl
value_right digits false e = rw (all_from_none is_digit digits e) refl

pub value_large : (digits : List ℕ) (hexadecimal : Bool) → wrong_digit digits hexadecimal ≡ None → limited (number_of (base_of hexadecimal) digits) ≡ None →
    is_too_large (run_value digits hexadecimal) ≡ true
value_large digits hexadecimal e f = rw (value_right digits hexadecimal e) (le-leb _ _ (limited_none (number_of (base_of hexadecimal) digits) f))

pub value_small : (digits : List ℕ) (hexadecimal : Bool) (n : ℕ) → wrong_digit digits hexadecimal ≡ None → limited (number_of (base_of hexadecimal) digits) ≡ Some n →
    IsRunValue digits hexadecimal (run.Number n)
value_small digits hexadecimal n e f =
    let h = limited_some (number_of (base_of hexadecimal) digits) n f in
    let g : n < 2 ^ 128 = omega (arith, h.0, h.1) in
    (e, value_right digits hexadecimal e ∙ ap Some h.0, g)

-- decimal digits are hexadecimal digits
pub digits_are_hex : (digits : List ℕ) → list_all is_digit digits ≡ true → list_all is_hex_digit digits ≡ true
digits_are_hex [] e = refl
digits_are_hex (d ∷ ds) e =
    let p = and_parts (is_digit d) (list_all is_digit ds) e in
    and_from (is_hex_digit d) (list_all is_hex_digit ds) (let h : is_digit d ≡ true = p.0 in rw h refl) (digits_are_hex ds p.1)

pub width_small : (digits : List ℕ) (n : ℕ) → nat_eq (length digits) 0 ≡ false → limited (number_of 10 digits) ≡ Some n → IsWidthValue (Some digits) (width.Number n)
width_small [] n l f = cc
width_small (d ∷ ds) n l f =
    let h = limited_some (number_of 10 (d ∷ ds)) n f in
    let g : n < 2 ^ 128 = omega (arith, h.0, h.1) in
    (refl, ap Some h.0, g)

pub width_large : (digits : List ℕ) → limited (number_of 10 digits) ≡ None → IsWidthValue (Some digits) width.TooLarge
width_large digits f = le-leb _ _ (limited_none (number_of 10 digits) f)
