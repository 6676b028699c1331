-- A text has one reading.
use Rattle.std.proofs.Common.{◌≡◌, ℕ, ◌+◌, true, false, cond, List, [], ◌∷◌, ◌++◌, length, nat_eq, codes, Some, None, refl, sym, ap, ap₂, ◌∙◌, arith, nat_lt, append_assoc, length-append}
use Rattle.std.proofs.lemmas.Bool.{lt-ltb, le-ltb, ne_eqb}
use Rattle.std.proofs.lemmas.List.{append_cancel_right, append-nil}
use Rattle.std.specs.List.{list_all, prefix_len}
use Rattle.lola_bits.proofs.Places.{same_fronts}
use Rattle.lola_scan.specs.declared.token.Token.{Token}
use Rattle.lola_scan.specs.declared.token.ScanError.{ScanError}
use Rattle.lola_scan.specs.declared.token.ScanError.TheVariants.{BadByte, OpenComment}
use Rattle.lola_scan.specs.Bytes.{is_pattern_byte}
use Rattle.lola_scan.specs.Piece.{Piece, Blank, Comment, Word, Number, Pattern, Mark, IsPiece, IsFront, IsComment, text_of, fault_of, tokens_of, NoEnd, Opens}
use Rattle.lola_scan.specs.Tokens.{Spells, no_piece, one_piece, Fails, faulty, unclosed, broken, unquoted, stray, later, NoPiece, Quotes, HasOneReading}
use Rattle.lola_scan.proofs.Runs.{heads, tails, run_same, prefix_len_is}
use Rattle.lola_scan.proofs.FirstByte.{quote, kind, first_kind, piece_not_empty, comment_opens}
use Rattle.lola_scan.proofs.Numbers.{number_same}
use Rattle.lola_scan.proofs.Comments.{no_comment}

-- two pieces of one text are the same, where both are comments or none is
piece_same : (piece found : Piece) → IsPiece piece → IsPiece found → (IsComment piece → IsComment found) → (IsComment found → IsComment piece) →
    kind piece ≡ kind found → text_of piece ≡ text_of found → piece ≡ found
piece_same (Blank b) (Blank c) p q f g k s = ap Blank (heads s)
piece_same (Word first more) (Word begin rest) p q f g k s = ap₂ Word (heads s) (tails s)
piece_same (Number first more hexadecimal width) (Number begin digits base wide) p q f g k s = number_same first more hexadecimal width begin digits base wide p.1 q.1 s
piece_same (Pattern inside) (Pattern found) p q f g k s = ap Pattern (append_cancel_right inside found (34 ∷ []) (tails s))
piece_same (Mark bytes) (Mark found) p q f g k s = ap Mark s
piece_same (Comment inside) (Comment found) p q f g k s = ap Comment (append_cancel_right inside found (codes "*)") (tails (tails s)))
piece_same (Comment inside) (Mark found) p q f g k s = absurd (f tt)
piece_same (Mark bytes) (Comment found) p q f g k s = absurd (g tt)
piece_same piece found p q f g k s = cc

is_opened : (text rest : List ℕ) (piece : Piece) → text ≡ text_of piece ++ rest → IsComment piece → Opens text
is_opened text rest (Comment inside) s c = comment_opens text inside rest s
is_opened text rest (Blank b) s c = absurd c
is_opened text rest (Word first more) s c = absurd c
is_opened text rest (Number first more hexadecimal width) s c = absurd c
is_opened text rest (Pattern inside) s c = absurd c
is_opened text rest (Mark bytes) s c = absurd c

front_not_empty : (text : List ℕ) (piece : Piece) (rest : List ℕ) → IsFront text piece rest → text ≡ [] → ⊥
front_not_empty text piece rest f n = absurd (omega (arith, piece_not_empty piece f.is_piece, ap length (sym n ∙ f.splits), length-append (text_of piece) rest))

-- one piece stands at the front of a text
pub front_one : (text : List ℕ) (piece found : Piece) (rest behind : List ℕ) → IsFront text piece rest → IsFront text found behind → (piece ≡ found) × (rest ≡ behind)
front_one [] piece found rest behind f g = absurd (front_not_empty [] piece rest f refl)
front_one (b ∷ bs) piece found rest behind f g =
    let l : length (text_of piece) ≡ length (text_of found) = omega (arith, f.longest found behind g.is_piece g.splits, g.longest piece rest f.is_piece f.splits) in
    let r = same_fronts (text_of piece) rest (text_of found) behind (sym f.splits ∙ g.splits) l in
    let k : kind piece ≡ kind found = sym (first_kind piece rest b bs f.is_piece f.splits) ∙ first_kind found behind b bs g.is_piece g.splits in
    (piece_same piece found f.is_piece g.is_piece (λ c. g.comment (is_opened (b ∷ bs) rest piece f.splits c)) (λ c. f.comment (is_opened (b ∷ bs) behind found g.splits c)) k r.0, r.1)

-- the fault of a text at whose front no piece stands
abbrev quote_fault : ℕ → List ℕ → ScanError
quote_fault at bs = cond (nat_lt (prefix_len is_pattern_byte bs) (length bs)) (BadByte (at + 1 + prefix_len is_pattern_byte bs)) (BadByte at)

abbrev fault_at : ℕ → List ℕ → ScanError
fault_at at [] = BadByte at
fault_at at (b ∷ bs) = cond (nat_eq b 34) (quote_fault at bs) (cond (nat_eq b 40) (OpenComment at) (BadByte at))

-- no piece stands at the front of the text, and this is its fault
record Halts (at : ℕ) (text : List ℕ) (fault : ScanError) : Type 0 where
  none : (piece : Piece) (rest : List ℕ) → IsFront text piece rest → ⊥
  is_fault : fault ≡ fault_at at text
  not_empty : text ≡ [] → ⊥

halts_unclosed : (at : ℕ) (inside : List ℕ) → NoEnd inside → Halts at (40 ∷ 42 ∷ inside) (OpenComment at)
halts_unclosed at inside n = record {
  none = λ piece rest f. no_comment inside piece rest n f.is_piece f.splits (f.comment (inside, refl));
  is_fault = refl;
  not_empty = λ e. cc;
}

-- behind a quote only a pattern stands
only_pattern : (bs : List ℕ) (piece : Piece) (rest : List ℕ) → IsPiece piece → 34 ∷ bs ≡ text_of piece ++ rest → kind piece ≡ quote →
    (inside : List ℕ) × (list_all is_pattern_byte inside ≡ true) × (bs ≡ inside ++ 34 ∷ rest)
only_pattern bs (Pattern inside) rest p s k = (inside, p, tails s ∙ append_assoc inside (34 ∷ []) rest)
only_pattern bs piece rest p s k = cc

halts_broken : (at : ℕ) (inside : List ℕ) (wrong : ℕ) (rest : List ℕ) → list_all is_pattern_byte inside ≡ true → is_pattern_byte wrong ≡ false →
    (wrong ≡ 34 → ⊥) → Halts at (34 ∷ (inside ++ wrong ∷ rest)) (BadByte (at + 1 + length inside))
halts_broken at inside wrong rest p w n = record {
  none = λ piece behind f.
      let r = only_pattern (inside ++ wrong ∷ rest) piece behind f.is_piece f.splits (sym (first_kind piece behind 34 (inside ++ wrong ∷ rest) f.is_piece f.splits)) in
      n (heads (run_same is_pattern_byte inside (wrong ∷ rest) r.0 (34 ∷ behind) p r.1 w refl r.2).1);
  is_fault =
      let l : prefix_len is_pattern_byte (inside ++ wrong ∷ rest) ≡ length inside = prefix_len_is is_pattern_byte inside (wrong ∷ rest) p w in
      let t : nat_lt (prefix_len is_pattern_byte (inside ++ wrong ∷ rest)) (length (inside ++ wrong ∷ rest)) ≡ true = lt-ltb _ _ (omega (arith, length-append inside (wrong ∷ rest))) in
      rw (t, l) refl;
  not_empty = λ e. cc;
}

halts_unquoted : (at : ℕ) (inside : List ℕ) → list_all is_pattern_byte inside ≡ true → Halts at (34 ∷ inside) (BadByte at)
halts_unquoted at inside p = record {
  none = λ piece behind f.
      let r = only_pattern inside piece behind f.is_piece f.splits (sym (first_kind piece behind 34 inside f.is_piece f.splits)) in
      let s : inside ++ [] ≡ r.0 ++ 34 ∷ behind = append-nil inside ∙ r.2 in
      absurd (let e = (run_same is_pattern_byte inside [] r.0 (34 ∷ behind) p r.1 tt refl s).1 in cc);
  is_fault =
      let l : prefix_len is_pattern_byte (inside ++ []) ≡ length inside = prefix_len_is is_pattern_byte inside [] p tt in
      let m : prefix_len is_pattern_byte inside ≡ length inside = rw append-nil at l in
      let t : nat_lt (prefix_len is_pattern_byte inside) (length inside) ≡ false = le-ltb _ _ (omega arith) in
      rw t refl;
  not_empty = λ e. cc;
}

halts_stray : (at : ℕ) (text : List ℕ) → (text ≡ [] → ⊥) → NoPiece text → (Quotes text → ⊥) → Halts at text (BadByte at)
halts_stray at [] e n q = absurd (e refl)
halts_stray at (b ∷ bs) e n q = record {
  none = λ piece rest f. n piece rest f.is_piece f.splits;
  is_fault =
      let s : nat_eq b 34 ≡ false = ne_eqb b 34 (λ h. q (bs, ap (λ x. x ∷ bs) h)) in
      let t : nat_eq b 40 ≡ false = ne_eqb b 40 (λ h. n (Mark (codes "(")) bs refl (ap (λ x. x ∷ bs) h)) in
      rw (s, t) refl;
  not_empty = e;
}

along : (at : ℕ) (text shape : List ℕ) (fault found : ScanError) → text ≡ shape → fault ≡ found → Halts at shape found → Halts at text fault
along at text shape fault found s e h = rw (s, e) h

halts_one : (at : ℕ) (text : List ℕ) (fault found : ScanError) → Halts at text fault → Halts at text found → fault ≡ found
halts_one at text fault found h g = h.is_fault ∙ sym g.is_fault

-- a text that halts fails with this fault alone
halted : (at : ℕ) (text : List ℕ) (fault found : ScanError) → Halts at text fault → Fails at text found → fault ≡ found
halted at text fault found h (faulty piece rest f e) = absurd (h.none piece rest f)
halted at text fault found h (unclosed inside s n e) = halts_one at text fault found h (along at text _ found _ s e (halts_unclosed at inside n))
halted at text fault found h (broken inside wrong rest s p w n e) = halts_one at text fault found h (along at text _ found _ s e (halts_broken at inside wrong rest p w n))
halted at text fault found h (unquoted inside s p e) = halts_one at text fault found h (along at text _ found _ s e (halts_unquoted at inside p))
halted at text fault found h (stray m n q e) = halts_one at text fault found h (along at text text found _ refl e (halts_stray at text m n q))
halted at text fault found h (later piece rest f e d) = absurd (h.none piece rest f)

-- what a text with a piece at its front fails with
data Fronted (at : ℕ) (text : List ℕ) (piece : Piece) (rest : List ℕ) (fault : ScanError) : Type 0 where
  here : fault_of at piece ≡ Some fault → Fronted at text piece rest fault
  behind_it : fault_of at piece ≡ None → Fails (at + length (text_of piece)) rest fault → Fronted at text piece rest fault

fronted : (at : ℕ) (text : List ℕ) (piece : Piece) (rest : List ℕ) (fault : ScanError) → IsFront text piece rest → Fails at text fault → Fronted at text piece rest fault
fronted at text piece rest fault g (faulty found behind f e) =
    let r = front_one text piece found rest behind g f in
    here (ap (fault_of at) r.0 ∙ e)
fronted at text piece rest fault g (later found behind f e d) =
    let r = front_one text piece found rest behind g f in
    behind_it (ap (fault_of at) r.0 ∙ e) (rw (r.0, r.1) d)
fronted at text piece rest fault g (unclosed inside s n e) = absurd ((along at text _ fault _ s e (halts_unclosed at inside n)).none piece rest g)
fronted at text piece rest fault g (broken inside wrong behind s p w n e) = absurd ((along at text _ fault _ s e (halts_broken at inside wrong behind p w n)).none piece rest g)
fronted at text piece rest fault g (unquoted inside s p e) = absurd ((along at text _ fault _ s e (halts_unquoted at inside p)).none piece rest g)
fronted at text piece rest fault g (stray m n q e) = absurd ((halts_stray at text m n q).none piece rest g)

fault_one : (at : ℕ) (text : List ℕ) (fault found : ScanError) → Fails at text fault → Fails at text found → fault ≡ found
fault_one at text fault found (unclosed inside s n e) d = halted at text fault found (along at text _ fault _ s e (halts_unclosed at inside n)) d
fault_one at text fault found (broken inside wrong rest s p w n e) d = halted at text fault found (along at text _ fault _ s e (halts_broken at inside wrong rest p w n)) d
fault_one at text fault found (unquoted inside s p e) d = halted at text fault found (along at text _ fault _ s e (halts_unquoted at inside p)) d
fault_one at text fault found (stray m n q e) d = halted at text fault found (along at text text fault _ refl e (halts_stray at text m n q)) d
fault_one at text fault found (faulty piece rest f e) d = elim (fronted at text piece rest found f d) [
  | here g ↦ cc
  | behind_it g h ↦ cc
]
fault_one at text fault found (later piece rest f e c) d = elim (fronted at text piece rest found f d) [
  | here g ↦ cc
  | behind_it g h ↦ fault_one (at + length (text_of piece)) rest fault found c h
]

list_one : (at : ℕ) (text : List ℕ) (first second : List Token) → Spells at text first → Spells at text second → first ≡ second
list_one at text first second no_piece no_piece = refl
list_one at text first second no_piece (one_piece piece rest behind f e d t) = absurd (front_not_empty [] piece rest f refl)
list_one at text first second (one_piece piece rest behind f e d t) no_piece = absurd (front_not_empty [] piece rest f refl)
list_one at text first second (one_piece piece rest behind f e d t) (one_piece found others tail g h c u) =
    let r = front_one text piece found rest others f g in
    let q : behind ≡ tail = list_one (at + length (text_of piece)) rest behind tail d (rw (r.0, r.1) c) in
    t ∙ ap₂ (λ p ts. tokens_of at p ++ ts) r.0 q ∙ sym u

-- the empty text has no fault
not_empty_fails : (at : ℕ) (text : List ℕ) (fault : ScanError) → Fails at text fault → text ≡ [] → ⊥
not_empty_fails at text fault (faulty piece rest f e) n = front_not_empty text piece rest f n
not_empty_fails at text fault (later piece rest f e d) n = front_not_empty text piece rest f n
not_empty_fails at text fault (unclosed inside s n e) m = cc
not_empty_fails at text fault (broken inside wrong behind s p w n e) m = cc
not_empty_fails at text fault (unquoted inside s p e) m = cc
not_empty_fails at text fault (stray m n q e) k = m k

not_both : (at : ℕ) (text : List ℕ) (tokens : List Token) (fault : ScanError) → Spells at text tokens → Fails at text fault → ⊥
not_both at text tokens fault no_piece d = not_empty_fails at [] fault d refl
not_both at text tokens fault (one_piece piece rest behind f e c t) d = elim (fronted at text piece rest fault f d) [
  | here g ↦ cc
  | behind_it g h ↦ not_both (at + length (text_of piece)) rest behind fault c h
]

pub one_reading_of : (text : List ℕ) → HasOneReading text
one_reading_of text = record {
  one_list = list_one 0 text;
  one_fault = fault_one 0 text;
  never_both = not_both 0 text;
}
