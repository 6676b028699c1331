-- What is read at the front of a text, from what its parts are.
use Rattle.std.proofs.Common.{◌≡◌, ℕ, suc, ◌+◌, ◌<◌, ◌≤◌, Bool, true, false, List, [], ◌∷◌, ◌++◌, length, take, drop, nat_eq, codes, Option, Some, None, Ok, Err, get_or, subst, ap₂, refl, sym, ap, ◌∙◌, arith, append_assoc, length-append, take-append-drop}
use Rattle.std.proofs.lemmas.Bool.{ne_eqb}
use Rattle.std.proofs.lemmas.Bool.Decides.{Decides-eqb}
use Rattle.std.proofs.lemmas.Slice.Eq.{starts_is}
use Rattle.std.specs.Cmp.Lexicographic.{pointwise}
use Rattle.std.proofs.lemmas.List.{drop_more, drop_all, drop-drop, append-nil, length-take-le, take_all}
use Rattle.std.proofs.lemmas.List.Prefix.{front_rest}
use Rattle.std.proofs.lemmas.List.Folds.{length-prefix_len}
use Rattle.std.specs.List.{list_all, prefix_len}
use Rattle.lola_scan.specs.declared.token.ScanError.{ScanError}
use Rattle.lola_scan.specs.declared.token.ScanError.TheVariants.{BadByte, OpenComment}
use Rattle.lola_scan.specs.declared.token.Token.{Token}
use Rattle.lola_scan.specs.declared.token.TokenKind.{TokenKind}
use Rattle.lola_scan.specs.declared.token.TokenKind.TheVariants as kind
use Rattle.lola_scan.specs.declared.front.Front.{Front}
use Rattle.lola_scan.specs.Bytes.{is_blank, is_letter, is_digit, is_word_byte, is_hex_digit, is_pattern_byte}
use Rattle.lola_scan.specs.Piece.{Piece, Blank, Comment, Word, Pattern, Mark, IsFront, text_of, base_text, width_text, fault_of, tokens_of, Opens}
use Rattle.lola_scan.specs.Tokens.{Spells, no_piece, one_piece, Fails, faulty, unclosed, broken, unquoted, stray, later}
use Rattle.lola_scan.specs.Front.{IsRead, IsNumberKind, Starts, EndsAt, token_at, begins_with, width_of, mark_length}
use Rattle.lola_scan.proofs.Runs.{heads, run_passes, run_ends}
use Rattle.lola_scan.proofs.FirstByte.{other, kind_of, piece_not_empty}
use Rattle.lola_scan.proofs.Fronts.{front_blank, front_word, front_pattern}
use Rattle.lola_scan.proofs.Comments.{front_comment}
use Rattle.lola_scan.proofs.Marks.{front_mark, no_mark, mark_found}
use Rattle.lola_scan.proofs.Numbers.{front_number, number_at, rest_at, cut_run, digits_behind, suffix_behind, is_hexadecimal, width_behind, width_at}

-- a front is read as long as its piece
read : (at : ℕ) (text : List ℕ) (front : Front) (piece : Piece) (rest : List ℕ) → IsFront text piece rest → fault_of at piece ≡ None →
    front.length ≡ length (text_of piece) → tokens_of at piece ≡ token_at at front.kind (at + front.length) → IsRead at text front
read at text front piece rest f s l t = record {
  piece = piece;
  rest = rest;
  is_front = f;
  sound = s;
  long = l;
  token = t;
  some = omega (arith, piece_not_empty piece f.is_piece);
  within = omega (arith, ap length f.splits, length-append (text_of piece) rest);
}

pub comment_read : (at : ℕ) (inside : List ℕ) (n : ℕ) → EndsAt inside (Some n) → IsRead at (40 ∷ 42 ∷ inside) (record { kind = None; length = n + 4 })
comment_read at inside n (front, rest, s, l, no_end) =
    read at (40 ∷ 42 ∷ inside) _ (Comment front) rest (front_comment inside front rest no_end s) refl (omega (arith, length-append front (codes "*)"))) refl

pub comment_open : (at : ℕ) (inside : List ℕ) → EndsAt inside None → Fails at (40 ∷ 42 ∷ inside) (OpenComment at)
comment_open at inside n = unclosed inside refl n refl

-- a text at a run of bytes and what stands behind it
cut : (inside : List ℕ) (n : ℕ) → n < length inside → inside ≡ take n inside ++ get_or inside n 0 ∷ drop (n + 1) inside
cut inside n l = sym (take-append-drop n inside) ∙ ap (λ t. take n inside ++ t) (drop_more inside n 0 l)

pattern_passes : (inside : List ℕ) (n : ℕ) → n ≡ prefix_len is_pattern_byte inside → list_all is_pattern_byte (take n inside) ≡ true
pattern_passes inside n e = rw e (run_passes is_pattern_byte inside)

pub pattern_read : (at : ℕ) (inside : List ℕ) (n : ℕ) → n ≡ prefix_len is_pattern_byte inside → n < length inside → get_or inside n 0 ≡ 34 →
    IsRead at (34 ∷ inside) (record { kind = Some kind.Pattern; length = n + 2 })
pattern_read at inside n e l q =
    let s : inside ≡ take n inside ++ 34 ∷ drop (n + 1) inside = cut inside n l ∙ ap (λ x. take n inside ++ x ∷ drop (n + 1) inside) q in
    let t : length (text_of (Pattern (take n inside))) ≡ n + 2 = omega (arith, length-append (take n inside) (34 ∷ []), length-take-le n inside (omega arith)) in
    let f = front_pattern (take n inside) (drop (n + 1) inside) (pattern_passes inside n e) in
    let g = subst (λ u. IsFront (34 ∷ u) (Pattern (take n inside)) (drop (n + 1) inside)) (sym s) f in
    read at (34 ∷ inside) _ (Pattern (take n inside)) (drop (n + 1) inside) g refl (sym t) (rw t refl)

pub pattern_broken : (at : ℕ) (inside : List ℕ) (n : ℕ) → n ≡ prefix_len is_pattern_byte inside → n < length inside → (get_or inside n 0 ≡ 34 → ⊥) →
    Fails at (34 ∷ inside) (BadByte (at + 1 + n))
pattern_broken at inside n e l q =
    let w : is_pattern_byte (get_or inside n 0) ≡ false = rw (drop_more inside n 0 l) at (rw (← e) at (run_ends is_pattern_byte inside)) in
    broken (take n inside) (get_or inside n 0) (drop (n + 1) inside) (ap (λ t. 34 ∷ t) (cut inside n l)) (pattern_passes inside n e) w q (ap (λ k. BadByte (at + 1 + k)) (sym (length-take-le n inside (omega arith))))

pub pattern_open : (at : ℕ) (inside : List ℕ) (n : ℕ) → n ≡ prefix_len is_pattern_byte inside → n ≡ length inside → Fails at (34 ∷ inside) (BadByte at)
pattern_open at inside n e l = unquoted inside refl (let p = pattern_passes inside n e in let f : take n inside ≡ inside = take_all n inside (omega arith) in rw f at p) refl

pub blank_read : (at : ℕ) (b : ℕ) (bs : List ℕ) → is_blank b ≡ true → IsRead at (b ∷ bs) (record { kind = None; length = 1 })
blank_read at b bs e = read at (b ∷ bs) _ (Blank b) bs (front_blank b bs e) refl refl refl

pub word_read : (at : ℕ) (b : ℕ) (bs : List ℕ) (n : ℕ) → is_letter b ≡ true → n ≡ prefix_len is_word_byte bs →
    IsRead at (b ∷ bs) (record { kind = Some kind.Word; length = 1 + n })
word_read at b bs n e l =
    let t : suc (length (take (prefix_len is_word_byte bs) bs)) ≡ 1 + n = omega (arith, length-prefix_len is_word_byte bs) in
    read at (b ∷ bs) _ (Word b (take (prefix_len is_word_byte bs) bs)) (drop (prefix_len is_word_byte bs) bs) (front_word b bs e) refl (sym t) (rw t refl)

pub mark_read : (at : ℕ) (b : ℕ) (bs : List ℕ) (n : ℕ) → kind_of b ≡ other → (Opens (b ∷ bs) → ⊥) → mark_length (b ∷ bs) ≡ Some n →
    IsRead at (b ∷ bs) (record { kind = Some kind.Mark; length = n })
mark_read at b bs n k o e =
    let t : length (take n (b ∷ bs)) ≡ n = (mark_found b bs n e).1 in
    read at (b ∷ bs) _ (Mark (take n (b ∷ bs))) (drop n (b ∷ bs)) (front_mark b bs n k o e) refl (sym t) (rw t refl)

pub nothing_read : (at : ℕ) (b : ℕ) (bs : List ℕ) → kind_of b ≡ other → (Opens (b ∷ bs) → ⊥) → mark_length (b ∷ bs) ≡ None → Fails at (b ∷ bs) (BadByte at)
nothing_read at b bs k o e = stray (λ n. cc) (no_mark b bs k o e) (λ (inside, s). let f : b ≡ 34 = heads s in let g = rw f at k in cc) refl

-- the parts of a number, as they are read
pub record Parts (text run : List ℕ) (hexadecimal : Bool) (width : Option (List ℕ)) : Type 0 where
  pub b : ℕ
  pub bs : List ℕ
  pub is_digit : is_digit b ≡ true
  pub begins : text ≡ b ∷ bs
  pub run_is : run ≡ b ∷ digits_behind bs
  pub base_is : hexadecimal ≡ is_hexadecimal bs
  pub width_is : width ≡ width_at bs

pub parts : (text run behind rest : List ℕ) (n : ℕ) (hexadecimal : Bool) (width : Option (List ℕ)) → Starts is_digit text → n ≡ prefix_len is_hex_digit text →
    run ≡ take n text → behind ≡ drop n text → hexadecimal ≡ begins_with 72 behind → rest ≡ drop (length (base_text hexadecimal)) behind →
    width ≡ width_of rest → Parts text run hexadecimal width
parts [] run behind rest n hexadecimal width s e f g h i w = absurd s
parts (b ∷ bs) run behind rest n hexadecimal width s e f g h i w =
    let c = cut_run b bs n s e in
    let k : behind ≡ suffix_behind bs = g ∙ c.1 in
    let l : hexadecimal ≡ is_hexadecimal bs = h ∙ ap (begins_with 72) k in
    let m : rest ≡ width_behind bs = i ∙ ap₂ (λ x t. drop (length (base_text x)) t) l k in
    record { b = b; bs = bs; is_digit = s; begins = refl; run_is = f ∙ c.0; base_is = l; width_is = w ∙ ap width_of m }

read_number : (at b : ℕ) (bs : List ℕ) (k : TokenKind) → is_digit b ≡ true → IsNumberKind at (b ∷ digits_behind bs) (is_hexadecimal bs) (width_at bs) (Ok k) →
    IsRead at (b ∷ bs) (record { kind = Some k; length = length (b ∷ digits_behind bs) + length (base_text (is_hexadecimal bs)) + length (width_text (width_at bs)) })
read_number at b bs k d j =
    let t : length (text_of (number_at b bs)) ≡ length (b ∷ digits_behind bs) + length (base_text (is_hexadecimal bs)) + length (width_text (width_at bs)) =
    omega (arith, length-append (digits_behind bs) (base_text (is_hexadecimal bs) ++ width_text (width_at bs)), length-append (base_text (is_hexadecimal bs)) (width_text (width_at bs))) in
    read at (b ∷ bs) _ (number_at b bs) (rest_at bs) (front_number b bs d) j.0 (sym t) (rw (t, j.1) refl)

pub number_read : (at : ℕ) (text run : List ℕ) (hexadecimal : Bool) (width : Option (List ℕ)) (k : TokenKind) → Parts text run hexadecimal width →
    IsNumberKind at run hexadecimal width (Ok k) →
    IsRead at text (record { kind = Some k; length = length run + length (base_text hexadecimal) + length (width_text width) })
number_read at text run hexadecimal width k p j =
    let i = rw (p.run_is, p.base_is, p.width_is) at j in
    rw (p.begins, p.run_is, p.base_is, p.width_is) (read_number at p.b p.bs k p.is_digit i)

pub number_fails : (at : ℕ) (text run : List ℕ) (hexadecimal : Bool) (width : Option (List ℕ)) (fault : ScanError) → Parts text run hexadecimal width →
    IsNumberKind at run hexadecimal width (Err fault) → Fails at text fault
number_fails at text run hexadecimal width fault p j =
    let i = rw (p.run_is, p.base_is, p.width_is) at j in
    rw p.begins (faulty (number_at p.b p.bs) (rest_at p.bs) (front_number p.b p.bs p.is_digit) i)

-- the first byte of a text, and what stands behind it
pub headed : (text : List ℕ) → 0 < length text → text ≡ get_or text 0 0 ∷ drop 1 text
headed [] l = absurd (omega arith)
headed (b ∷ bs) l = refl

-- a byte that begins neither a blank nor a word, a number or a pattern
pub others : (b : ℕ) → is_blank b ≡ false → is_letter b ≡ false → is_digit b ≡ false → (b ≡ 34 → ⊥) → kind_of b ≡ other
others b e f g n = rw (e, f, g, ne_eqb b 34 n) refl

-- `starts_with` found no `(*`
pub not_opened : (text : List ℕ) (found : Bool) → found ≡ pointwise nat_eq (codes "(*") (take 2 text) → found ≡ false → Opens text → ⊥
not_opened text found t e (inside, s) = let f : found ≡ true = (starts_is Decides-eqb text (codes "(*") found t).1 inside s in cc

pub mark_at : (at : ℕ) (text : List ℕ) (n : ℕ) → 0 < length text → kind_of (get_or text 0 0) ≡ other → (Opens text → ⊥) → Some n ≡ mark_length text →
    IsRead at text (record { kind = Some kind.Mark; length = n })
mark_at at [] n l k o e = absurd (omega arith)
mark_at at (b ∷ bs) n l k o e = mark_read at b bs n k o (sym e)

pub stray_at : (at : ℕ) (text : List ℕ) → 0 < length text → kind_of (get_or text 0 0) ≡ other → (Opens text → ⊥) → None ≡ mark_length text →
    Fails at text (BadByte at)
stray_at at [] l k o e = absurd (omega arith)
stray_at at (b ∷ bs) l k o e = nothing_read at b bs k o (sym e)

rest_at_front : (bytes : List ℕ) (at n : ℕ) (piece : Piece) (rest : List ℕ) → IsFront (drop at bytes) piece rest → n ≡ length (text_of piece) → rest ≡ drop (at + n) bytes
rest_at_front bytes at n piece rest f l = sym (front_rest (drop at bytes) (text_of piece) rest f.splits) ∙ ap (λ k. drop k (drop at bytes)) (sym l) ∙ drop-drop n at bytes

-- what the text behind a piece spells, the text from the piece on spells with the piece's token
pub spells_on : (bytes : List ℕ) (at : ℕ) (front : Front) (tokens more : List Token) → IsRead at (drop at bytes) front →
    ((behind : List Token) → Spells at (drop at bytes) behind → Spells 0 bytes (tokens ++ behind)) → more ≡ tokens ++ token_at at front.kind (at + front.length) →
    (behind : List Token) → Spells (at + front.length) (drop (at + front.length) bytes) behind → Spells 0 bytes (more ++ behind)
spells_on bytes at front tokens more r s e behind d =
    let c : Spells (at + length (text_of r.piece)) r.rest behind = rw (rest_at_front bytes at front.length r.piece r.rest r.is_front r.long, ← r.long) d in
    let f : Spells 0 bytes (tokens ++ (token_at at front.kind (at + front.length) ++ behind)) =
    s (token_at at front.kind (at + front.length) ++ behind) (one_piece r.piece r.rest behind r.is_front r.sound c (ap (λ ts. ts ++ behind) (sym r.token))) in
    rw (e, append_assoc) f

-- and the fault behind a piece is the fault of the text from the piece on
pub fails_on : (bytes : List ℕ) (at : ℕ) (front : Front) → IsRead at (drop at bytes) front →
    ((fault : ScanError) → Fails at (drop at bytes) fault → Fails 0 bytes fault) →
    (fault : ScanError) → Fails (at + front.length) (drop (at + front.length) bytes) fault → Fails 0 bytes fault
fails_on bytes at front r s fault d =
    let c : Fails (at + length (text_of r.piece)) r.rest fault = rw (rest_at_front bytes at front.length r.piece r.rest r.is_front r.long, ← r.long) d in
    s fault (later r.piece r.rest r.is_front r.sound c)

pub spells_all : (bytes : List ℕ) (at : ℕ) (tokens : List Token) → length bytes ≤ at →
    ((behind : List Token) → Spells at (drop at bytes) behind → Spells 0 bytes (tokens ++ behind)) → Spells 0 bytes tokens
spells_all bytes at tokens l s = let d = s [] (rw (drop_all at bytes l) no_piece) in rw append-nil at d
