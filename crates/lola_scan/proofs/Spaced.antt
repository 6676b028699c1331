-- Tokens that have a blank behind them.
use Rattle.std.proofs.Common.{◌≡◌, ℕ, ◌≤◌, Bool, true, false, not, List, [], ◌∷◌, ◌++◌, length, None, Some, Option, refl, sym, subst, ◌∙◌, arith}
use Rattle.std.proofs.lemmas.Bool.{and_parts, and_from}
use Rattle.std.proofs.lemmas.Bool.Decides.{nat_tests}
use Rattle.std.specs.List.{list_all}
use Rattle.std.specs.Prelude.{nat_eq, cond}
use Rattle.lola_scan.specs.Bytes.{is_blank, is_digit, is_word_byte, is_hex_digit}
use Rattle.lola_scan.specs.Piece.{Piece, Blank, Comment, Word, Number, Pattern, Mark, IsPiece, IsWidth, IsUnquoted, IsFront, IsComment, text_of, base_text, width_text, marks, Opens}
use Rattle.lola_scan.proofs.FirstByte.{letter, digit, other, kind_of, kind, of_mark, first_kind, opens_kind, kind_of_letter, kind_of_digit}

abbrev is_solid : ℕ → Bool
is_solid b = not (is_blank b)

word_byte_solid : (b : ℕ) → is_word_byte b ≡ true → is_solid b ≡ true
word_byte_solid b e = grind (arith, nat_tests)

hex_digit_solid : (b : ℕ) → is_hex_digit b ≡ true → is_solid b ≡ true
hex_digit_solid b e = grind (arith, nat_tests)

digit_solid : (b : ℕ) → is_digit b ≡ true → is_solid b ≡ true
digit_solid b e = grind (arith, nat_tests)

all_weaker : (t u : ℕ → Bool) → ((b : ℕ) → t b ≡ true → u b ≡ true) → (bs : List ℕ) → list_all t bs ≡ true → list_all u bs ≡ true
all_weaker t u f [] e = refl
all_weaker t u f (b ∷ bs) e =
    let p = and_parts (t b) (list_all t bs) e in
    and_from (u b) (list_all u bs) (f b p.0) (all_weaker t u f bs p.1)

all_append : (t : ℕ → Bool) (xs ys : List ℕ) → list_all t xs ≡ true → list_all t ys ≡ true → list_all t (xs ++ ys) ≡ true
all_append t [] ys p q = q
all_append t (x ∷ xs) ys p q = let r = and_parts (t x) (list_all t xs) p in and_from (t x) (list_all t (xs ++ ys)) r.0 (all_append t xs ys r.1 q)

base_solid : (hexadecimal : Bool) → list_all is_solid (base_text hexadecimal) ≡ true
base_solid true = refl
base_solid false = refl

width_solid : (width : Option (List ℕ)) → IsWidth width → list_all is_solid (width_text width) ≡ true
width_solid None p = refl
width_solid (Some digits) p = all_weaker is_digit is_solid digit_solid digits p

-- no word, number or mark has a blank in it
solid : (piece : Piece) → IsPiece piece → IsUnquoted piece → list_all is_solid (text_of piece) ≡ true
solid (Word first more) p u =
    and_from (is_solid first) (list_all is_solid more) (word_byte_solid first (rw p.0 refl)) (all_weaker is_word_byte is_solid word_byte_solid more p.1)
solid (Number first more hexadecimal width) p u =
    and_from (is_solid first) (list_all is_solid (more ++ (base_text hexadecimal ++ width_text width))) (digit_solid first p.0)
    (all_append is_solid more (base_text hexadecimal ++ width_text width) (all_weaker is_hex_digit is_solid hex_digit_solid more p.1)
    (all_append is_solid (base_text hexadecimal) (width_text width) (base_solid hexadecimal) (width_solid width p.2)))
solid (Mark bytes) p u = of_mark (list_all is_solid) marks bytes refl p
solid (Blank b) p u = absurd u
solid (Comment inside) p u = absurd u
solid (Pattern inside) p u = absurd u

-- a front without a blank ends before the first blank
ends_before : (t : ℕ → Bool) (xs behind ys : List ℕ) (b : ℕ) (rest : List ℕ) → list_all t xs ≡ true → t b ≡ false → ys ++ b ∷ rest ≡ xs ++ behind → length xs ≤ length ys
ends_before t [] behind ys b rest p q s = omega arith
ends_before t (x ∷ xs) behind [] b rest p q s =
    let e : b ≡ x = cc in
    absurd (let r : t x ≡ true = (and_parts (t x) (list_all t xs) p).0 in let f : t x ≡ false = rw (← e) q in cc)
ends_before t (x ∷ xs) behind (y ∷ ys) b rest p q s =
    let e : ys ++ b ∷ rest ≡ xs ++ behind = cc in
    let below = ends_before t xs behind ys b rest (and_parts (t x) (list_all t xs) p).1 q e in
    omega (arith, below)

-- no mark begins a comment
abbrev opens_none : List ℕ → Bool
opens_none (b ∷ c ∷ ds) = not (cond (nat_eq b 40) (nat_eq c 42) false)
opens_none (b ∷ []) = true
opens_none [] = true

no_comment_at : (piece : Piece) (b : ℕ) (rest : List ℕ) → IsPiece piece → IsUnquoted piece → is_blank b ≡ true → Opens (text_of piece ++ b ∷ rest) → ⊥
no_comment_at (Word first more) b rest p u e opens =
    let k : kind_of first ≡ letter = kind_of_letter first p.0 in let o : kind_of first ≡ other = opens_kind first (more ++ b ∷ rest) opens in absurd (cc)
no_comment_at (Number first more hexadecimal width) b rest p u e opens =
    let k : kind_of first ≡ digit = kind_of_digit first p.0 in
    let o : kind_of first ≡ other = opens_kind first ((more ++ (base_text hexadecimal ++ width_text width)) ++ b ∷ rest) opens in
    absurd (cc)
no_comment_at (Mark []) b rest p u e (inside, s) = let f : b ≡ 40 = cc in absurd (let g : is_blank 40 ≡ true = subst (λ n. is_blank n ≡ true) f e in cc)
no_comment_at (Mark (m ∷ [])) b rest p u e (inside, s) = let f : b ≡ 42 = cc in absurd (let g : is_blank 42 ≡ true = subst (λ n. is_blank n ≡ true) f e in cc)
no_comment_at (Mark (m ∷ c ∷ ds)) b rest p u e (inside, s) =
    let f : m ≡ 40 = cc in
    let g : c ≡ 42 = cc in
    absurd (let h : opens_none (m ∷ c ∷ ds) ≡ true = of_mark opens_none marks (m ∷ c ∷ ds) refl p in let i : opens_none (40 ∷ 42 ∷ ds) ≡ true = rw (f, g) at h in cc)
no_comment_at (Blank c) b rest p u e opens = u
no_comment_at (Comment inside) b rest p u e opens = u
no_comment_at (Pattern inside) b rest p u e opens = u

-- what stands there in its place is no other kind of piece
unquoted_too : (piece found : Piece) → IsUnquoted piece → kind found ≡ kind piece → (IsComment found → ⊥) → IsUnquoted found
unquoted_too piece (Word first more) u k n = tt
unquoted_too piece (Number first more hexadecimal width) u k n = tt
unquoted_too piece (Mark bytes) u k n = tt
unquoted_too piece (Comment inside) u k n = n tt
unquoted_too (Word first more) (Blank b) u k n = cc
unquoted_too (Number first more hexadecimal width) (Blank b) u k n = cc
unquoted_too (Mark bytes) (Blank b) u k n = cc
unquoted_too (Blank c) (Blank b) u k n = u
unquoted_too (Comment inside) (Blank b) u k n = u
unquoted_too (Pattern inside) (Blank b) u k n = u
unquoted_too (Word first more) (Pattern found) u k n = cc
unquoted_too (Number first more hexadecimal width) (Pattern found) u k n = cc
unquoted_too (Mark bytes) (Pattern found) u k n = cc
unquoted_too (Blank c) (Pattern found) u k n = u
unquoted_too (Comment inside) (Pattern found) u k n = u
unquoted_too (Pattern inside) (Pattern found) u k n = u

comment_none : (found : Piece) (text behind : List ℕ) → (Opens text → ⊥) → text ≡ text_of found ++ behind → IsComment found → ⊥
comment_none (Comment inside) text behind n s c = n ((inside ++ (42 ∷ 41 ∷ [])) ++ behind, s)
comment_none (Blank b) text behind n s c = c
comment_none (Word first more) text behind n s c = c
comment_none (Number first more hexadecimal width) text behind n s c = c
comment_none (Pattern inside) text behind n s c = c
comment_none (Mark bytes) text behind n s c = c

empty_front : (xs : List ℕ) (c : ℕ) (ys : List ℕ) → ◌≡◌ {A = List ℕ} [] (xs ++ c ∷ ys) → ⊥
empty_front [] c ys f = cc
empty_front (x ∷ xs) c ys f = cc

same_kind : (piece found : Piece) (b : ℕ) (rest behind : List ℕ) → IsPiece piece → IsPiece found → text_of piece ++ b ∷ rest ≡ text_of found ++ behind → kind found ≡ kind piece
same_kind piece found b rest behind p q s = go (text_of piece ++ b ∷ rest) refl
  where
    go : (text : List ℕ) → text ≡ text_of piece ++ b ∷ rest → kind found ≡ kind piece
    go [] e = absurd (empty_front (text_of piece) b rest e)
    go (c ∷ cs) e = sym (first_kind found behind c cs q (e ∙ s)) ∙ first_kind piece (b ∷ rest) c cs p e

pub spaced : (piece : Piece) (b : ℕ) (rest : List ℕ) → IsPiece piece → IsUnquoted piece → is_blank b ≡ true → IsFront (text_of piece ++ b ∷ rest) piece (b ∷ rest)
spaced piece b rest p u e = record {
  is_piece = p;
  splits = refl;
  longest = λ found behind q s.
      let none = comment_none found (text_of piece ++ b ∷ rest) behind (no_comment_at piece b rest p u e) s in
      let f = unquoted_too piece found u (same_kind piece found b rest behind p q s) none in
      ends_before is_solid (text_of found) behind (text_of piece) b rest (solid found q f) (rw e refl) s;
  comment = λ opens. absurd (no_comment_at piece b rest p u e opens);
}
