-- The piece that stands at the front of a text, kind by kind.
use Rattle.std.proofs.Common.{◌≡◌, ℕ, suc, ◌≤◌, true, List, [], ◌∷◌, ◌++◌, length, take, drop, refl, sym, ap, ◌∙◌, arith, append_assoc, take-append-drop}
use Rattle.std.specs.List.{list_all, prefix_len}
use Rattle.lola_scan.specs.Bytes.{is_blank, is_letter, is_word_byte, is_pattern_byte}
use Rattle.lola_scan.specs.Piece.{Piece, Blank, Word, Pattern, IsPiece, IsFront, IsComment, text_of, Opens}
use Rattle.lola_scan.proofs.Runs.{run_passes, run_ends, run_same, run_longest}
use Rattle.lola_scan.proofs.FirstByte.{blank, letter, quote, other, kind_of, kind, kind_of_letter, first_kind, opens_kind}

-- a piece that is no comment stands where no comment opens
not_opened : (b : ℕ) (bs : List ℕ) (piece : Piece) → (kind_of b ≡ other → ⊥) → Opens (b ∷ bs) → IsComment piece
not_opened b bs piece n o = absurd (n (opens_kind b bs o))

blank_longest : (b : ℕ) (bs : List ℕ) (piece : Piece) (behind : List ℕ) → kind piece ≡ blank → length (text_of piece) ≤ 1
blank_longest b bs (Blank c) behind k = omega arith
blank_longest b bs piece behind k = cc

pub front_blank : (b : ℕ) (bs : List ℕ) → is_blank b ≡ true → IsFront (b ∷ bs) (Blank b) bs
front_blank b bs e = let k : kind_of b ≡ blank = rw e refl in record {
  is_piece = e;
  splits = refl;
  longest = λ piece behind p s. blank_longest b bs piece behind (sym (first_kind piece behind b bs p s) ∙ k);
  comment = not_opened b bs (Blank b) (λ n. cc);
}

word_longest : (b : ℕ) (bs : List ℕ) (piece : Piece) (behind : List ℕ) → kind piece ≡ letter → IsPiece piece → b ∷ bs ≡ text_of piece ++ behind →
    length (text_of piece) ≤ suc (length (take (prefix_len is_word_byte bs) bs))
word_longest b bs (Word first more) behind k p s =
    let e : take (prefix_len is_word_byte bs) bs ++ drop (prefix_len is_word_byte bs) bs ≡ more ++ behind = rw take-append-drop (cc) in
    omega (arith, run_longest is_word_byte (take (prefix_len is_word_byte bs) bs) (drop (prefix_len is_word_byte bs) bs) more behind (run_passes is_word_byte bs) p.1 (run_ends is_word_byte bs) e)
word_longest b bs piece behind k p s = cc

pub front_word : (b : ℕ) (bs : List ℕ) → is_letter b ≡ true →
    IsFront (b ∷ bs) (Word b (take (prefix_len is_word_byte bs) bs)) (drop (prefix_len is_word_byte bs) bs)
front_word b bs e = let k : kind_of b ≡ letter = kind_of_letter b e in record {
  is_piece = (e, run_passes is_word_byte bs);
  splits = ap (λ t. b ∷ t) (sym (take-append-drop (prefix_len is_word_byte bs) bs));
  longest = λ piece behind p s. word_longest b bs piece behind (sym (first_kind piece behind b bs p s) ∙ k) p s;
  comment = not_opened b bs (Word b (take (prefix_len is_word_byte bs) bs)) (λ n. cc);
}

-- two patterns at the front of a text are one
pub pattern_same : (inside rest found behind : List ℕ) → list_all is_pattern_byte inside ≡ true → list_all is_pattern_byte found ≡ true →
    34 ∷ (inside ++ 34 ∷ rest) ≡ text_of (Pattern found) ++ behind → inside ≡ found
pattern_same inside rest found behind q p s =
    let t : inside ++ 34 ∷ rest ≡ (found ++ 34 ∷ []) ++ behind = cc in
    let e : inside ++ 34 ∷ rest ≡ found ++ 34 ∷ behind = rw append_assoc at t in
    (run_same is_pattern_byte inside (34 ∷ rest) found (34 ∷ behind) q p refl refl e).0

pattern_longest : (inside rest : List ℕ) (piece : Piece) (behind : List ℕ) → list_all is_pattern_byte inside ≡ true → kind piece ≡ quote → IsPiece piece →
    34 ∷ (inside ++ 34 ∷ rest) ≡ text_of piece ++ behind → length (text_of piece) ≤ length (text_of (Pattern inside))
pattern_longest inside rest (Pattern found) behind q k p s = rw (pattern_same inside rest found behind q p s) (omega arith)
pattern_longest inside rest piece behind q k p s = cc

pub front_pattern : (inside rest : List ℕ) → list_all is_pattern_byte inside ≡ true → IsFront (34 ∷ (inside ++ 34 ∷ rest)) (Pattern inside) rest
front_pattern inside rest q = record {
  is_piece = q;
  splits = ap (λ t. 34 ∷ t) (sym (append_assoc inside (34 ∷ []) rest));
  longest = λ piece behind p s. pattern_longest inside rest piece behind q (sym (first_kind piece behind 34 (inside ++ 34 ∷ rest) p s)) p s;
  comment = not_opened 34 (inside ++ 34 ∷ rest) (Pattern inside) (λ n. cc);
}
