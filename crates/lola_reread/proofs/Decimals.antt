-- The decimal digits of a number, as the scanner reads them.
use Rattle.std.proofs.Common.{◌≡◌, ℕ, ◌+◌, ◌*◌, ◌<◌, ◌≤◌, ◌^◌, true, List, [], ◌∷◌, length, decimal, refl, sym, ap, subst, ◌∙◌, arith}
use Rattle.std.proofs.lemmas.Bool.{and_from}
use Rattle.std.proofs.lemmas.Bool.Decides.{nat_tests}
use Rattle.std.proofs.lemmas.Fmt.{decimal_is_IsNumeral_wide}
use Rattle.std.proofs.lemmas.Str.{digit_value_digit}
use Rattle.std.proofs.lemmas.Str.Parse.{digit_from_value}
use Rattle.std.specs.Char.{digit_value as digit_value_of}
use Rattle.std.specs.List.{list_all}
use Rattle.std.specs.Str.Parse.{AllDigits, IsNumeral, digits_value, digits_value_after}
use Rattle.lola_scan.specs.Bytes.{is_digit, digit_value, number_behind, number_of}

one_digit : (c : ℕ) → digit_value_of c < 10 → (is_digit c ≡ true) × (digit_value c ≡ digit_value_of c)
one_digit c small =
    let range = digit_from_value c small in
    let low = range.0 in
    let high = range.1 in
    let digit : is_digit c ≡ true = grind (arith, nat_tests) in
    let value = digit_value_digit c range in
    let less : 48 ≤ c = omega arith in
    (digit, rw digit (omega arith))

all_digits : (cs : List ℕ) → AllDigits 10 cs → list_all is_digit cs ≡ true
all_digits [] all = refl
all_digits (c ∷ cs) all = and_from (is_digit c) (list_all is_digit cs) (one_digit c all.0).0 (all_digits cs all.1)

same_value : (n : ℕ) (cs : List ℕ) → AllDigits 10 cs → number_behind 10 n cs ≡ digits_value_after 10 n cs
same_value n [] all = refl
same_value n (c ∷ cs) all =
    let value = (one_digit c all.0).1 in
    let sum : 10 * n + digit_value c ≡ n * 10 + digit_value_of c = omega arith in
    ap (λ m. number_behind 10 m cs) sum ∙ same_value (n * 10 + digit_value_of c) cs all.1

-- the digits of a number, the first and the others
pub record Digits (n : ℕ) : Type 0 where
  pub first : ℕ
  pub more : List ℕ
  pub is : decimal n ≡ first ∷ more
  pub digit : is_digit first ≡ true
  pub digits : list_all is_digit more ≡ true
  pub value : number_of 10 (first ∷ more) ≡ n

pub digits_of : (n : ℕ) → n < 2 ^ 128 → Digits n
digits_of n small = go (decimal n) refl
  where
    wide : 2 ^ 128 < 10 ^ 64
    wide = omega arith

    numeral : IsNumeral 10 (decimal n) × (digits_value 10 (decimal n) ≡ n)
    numeral = decimal_is_IsNumeral_wide n (omega (arith, wide, small))

    go : (cs : List ℕ) → cs ≡ decimal n → Digits n
    go [] e = absurd (let long : 0 < length (decimal n) = numeral.0.0 in let none : length (decimal n) ≡ 0 = ap length (sym e) in omega arith)
    go (c ∷ cs) e =
        let all : AllDigits 10 (c ∷ cs) = subst (AllDigits 10) (sym e) numeral.0.1 in
        record {
          first = c;
          more = cs;
          is = sym e;
          digit = (one_digit c all.0).0;
          digits = all_digits cs all.1;
          value = same_value 0 (c ∷ cs) all ∙ (ap (digits_value 10) e ∙ numeral.1);
        }
