-- What the tokens of a text are spelled with: names are words, and numbers are small enough.
use Rattle.std.proofs.Common.{◌≡◌, ℕ, ◌+◌, ◌<◌, ◌^◌, Bool, true, false, cond, not, List, [], ◌∷◌, ◌++◌, length, nat_le, bytes_eq, codes, Option, Some, None, refl, sym, ap, subst, ◌∙◌, inl, inr, arith, append_assoc, length-append}
use Rattle.std.proofs.lemmas.Bool.{and_parts, or_cases}
use Rattle.std.proofs.lemmas.Bool.Decides.{nat_tests}
use Rattle.std.proofs.lemmas.List.{map-append}
use Rattle.std.proofs.lemmas.Slice.Eq.{bytes_eq-Decides}
use Rattle.std.specs.Prelude.{slice_range}
use Rattle.std.specs.List.{AllByRecursion, list_all, list_any}
use Rattle.lola_scan.specs.declared.token.Token.{Token}
use Rattle.lola_scan.specs.Piece.{Piece, Blank, Comment, Word as WordPiece, Number as NumberPiece, Pattern, Mark, IsPiece, text_of, marks, run_value, value_or, width_value, is_too_large, fault_of, number_fault, tokens_of}
use Rattle.lola_scan.specs.Tokens.{Spells, no_piece, one_piece}
use Rattle.lola_parse.specs.declared.symbol.Symbol.{Symbol}
use Rattle.lola_parse.specs.declared.symbol.Symbol.TheVariants as s
use Rattle.lola_parse.specs.declared.symbol.Language.TheVariants.{Design}
use Rattle.lola_parse.specs.Symbols.{Item, items_of, word_symbol, reserved, reserved_in_types, symbol_or, mark_symbol, is_number}
use Rattle.lola_reread.proofs.Words.{range_at}
use Rattle.lola_reread.proofs.Prints.{IsName, IsWidth}

pub record IsGoodItem (item : Item) : Type 0 where
  pub name : item.symbol ≡ s.Name → IsName item.spelled
  pub number : (value : ℕ) (width : Option ℕ) → item.symbol ≡ s.Number value width → (value < 2 ^ 128) × IsWidth width

abbrev pub AllGood : List Item → Type 0
AllGood = AllByRecursion IsGoodItem

-- no reserved word is read as a number
abbrev no_number : Option Symbol → Bool
no_number None = true
no_number (Some symbol) = not (is_number symbol)

one_more : (b : Bool) (symbol : Symbol) (rest : Option Symbol) → is_number symbol ≡ false → no_number rest ≡ true → no_number (cond b (Some symbol) rest) ≡ true
one_more true symbol rest e f = rw e refl
one_more false symbol rest e f = f

in_types_no_number : (w : List ℕ) → no_number (reserved_in_types w) ≡ true
in_types_no_number w =
    one_more (bytes_eq w (codes "BIT")) s.Bit _ refl (one_more (bytes_eq w (codes "BYTE")) s.Byte _ refl (one_more (bytes_eq w (codes "WORD")) s.Word _ refl
    (one_more (bytes_eq w (codes "SHL")) s.Shl _ refl (one_more (bytes_eq w (codes "SHR")) s.Shr _ refl (one_more (bytes_eq w (codes "ASR")) s.Asr _ refl
    (one_more (bytes_eq w (codes "ROR")) s.Ror _ refl (one_more (bytes_eq w (codes "TS")) s.Ts None refl refl)))))))

reserved_no_number : (w : List ℕ) → no_number (reserved w) ≡ true
reserved_no_number w =
    one_more (bytes_eq w (codes "MODULE")) s.Module _ refl (one_more (bytes_eq w (codes "IN")) s.In _ refl (one_more (bytes_eq w (codes "OUT")) s.Out _ refl
    (one_more (bytes_eq w (codes "INOUT")) s.Inout _ refl (one_more (bytes_eq w (codes "CONST")) s.Const _ refl (one_more (bytes_eq w (codes "REG")) s.Reg _ refl
    (one_more (bytes_eq w (codes "VAR")) s.Var _ refl (one_more (bytes_eq w (codes "BEGIN")) s.Begin _ refl
    (one_more (bytes_eq w (codes "END")) s.End (reserved_in_types w) refl (in_types_no_number w)))))))))

or_name : (o : Option Symbol) → no_number o ≡ true → is_number (symbol_or o s.Name) ≡ false
or_name None e = refl
or_name (Some symbol) e = grind (arith, nat_tests)

word_no_number : (w : List ℕ) → is_number (word_symbol Design w) ≡ false
word_no_number w = or_name (reserved w) (reserved_no_number w)

-- no mark is read as a name or a number
abbrev is_mere : Symbol → Bool
is_mere s.Name = false
is_mere (s.Number value width) = false
is_mere other = true

of_mark : (all : List (List ℕ)) (bytes : List ℕ) → list_all (λ m. is_mere (mark_symbol m)) all ≡ true → list_any (λ m. bytes_eq m bytes) all ≡ true →
    is_mere (mark_symbol bytes) ≡ true
of_mark [] bytes p q = cc
of_mark (m ∷ ms) bytes p q =
    let r = and_parts (is_mere (mark_symbol m)) (list_all (λ n. is_mere (mark_symbol n)) ms) p in
    elim (or_cases (bytes_eq m bytes) (list_any (λ n. bytes_eq n bytes) ms) q) [
      | inl e ↦ subst (λ (n : List ℕ). is_mere (mark_symbol n) ≡ true) ((bytes_eq-Decides m bytes).0 e) r.0
      | inr e ↦ of_mark ms bytes r.1 e
    ]

mere_no_name : (symbol : Symbol) → is_mere symbol ≡ true → symbol ≡ s.Name → ⊥
mere_no_name symbol e f = let g : is_mere s.Name ≡ true = subst (λ t. is_mere t ≡ true) f e in cc

mere_no_number : (symbol : Symbol) (value : ℕ) (width : Option ℕ) → is_mere symbol ≡ true → symbol ≡ s.Number value width → ⊥
mere_no_number symbol value width e f = let g : is_mere (s.Number value width) ≡ true = subst (λ t. is_mere t ≡ true) f e in cc

below : (n : ℕ) → nat_le (2 ^ 128) n ≡ false → n < 2 ^ 128
below n e = grind (arith, nat_tests)

value_small : (o : Option ℕ) → is_too_large o ≡ false → value_or o < 2 ^ 128
value_small None e = omega arith
value_small (Some n) e = below n e

width_small : (o : Option ℕ) → is_too_large o ≡ false → IsWidth o
width_small None e = tt
width_small (Some n) e = below n e

-- a condition under which there is a fault doesn't hold where there is none
not_both : {F : Type 0} (b : Bool) (fault : F) (rest : Option F) → cond b (Some fault) rest ≡ None → (b ≡ false) × (rest ≡ None)
not_both true fault rest e = cc
not_both false fault rest e = (refl, e)

number_sound : (at : ℕ) (run : List ℕ) (hexadecimal : Bool) (width : Option (List ℕ)) → number_fault at run hexadecimal width ≡ None →
    (value_or (run_value run hexadecimal) < 2 ^ 128) × IsWidth (width_value width)
number_sound at run hexadecimal width sound =
    let first = not_both (is_too_large (run_value run hexadecimal)) _ _ sound in
    let second = not_both (is_too_large (width_value width)) _ _ first.1 in
    (value_small (run_value run hexadecimal) first.0, width_small (width_value width) second.0)

the_value : {v w : ℕ} {m n : Option ℕ} → s.Number v m ≡ s.Number w n → v ≡ w
the_value e = cc

the_width : {v w : ℕ} {m n : Option ℕ} → s.Number v m ≡ s.Number w n → m ≡ n
the_width e = cc

-- the token of a piece
piece_good : (piece : Piece) (before rest : List ℕ) → IsPiece piece → fault_of (length before) piece ≡ None →
    AllGood (items_of Design (before ++ (text_of piece ++ rest)) (tokens_of (length before) piece))
piece_good (Blank b) before rest p sound = tt
piece_good (Comment inside) before rest p sound = tt
piece_good (WordPiece first more) before rest p sound =
    let at = range_at before (first ∷ more) rest in (
      record {
        name = λ e. record {
          first = first;
          more = more;
          is = at;
          letter = p.0;
          others = p.1;
          free = ap (word_symbol Design) (sym at) ∙ e;
        };
        number = λ value width e.
            absurd (let f = word_no_number (slice_range (before ++ ((first ∷ more) ++ rest)) (length before) (length before + length (first ∷ more))) in let g = ap is_number e in cc);
      },
      tt,
    )
piece_good (NumberPiece first more hexadecimal width) before rest p sound =
    let sure = number_sound (length before) (first ∷ more) hexadecimal width sound in (
      record {
        name = λ e. cc;
        number = λ value w e. (subst (λ n. n < 2 ^ 128) (the_value e) sure.0, subst IsWidth (the_width e) sure.1);
      },
      tt,
    )
piece_good (Pattern inside) before rest p sound = (record { name = λ e. cc; number = λ value width e. cc }, tt)
piece_good (Mark bytes) before rest p sound =
    let at = range_at before bytes rest in
    let mere = of_mark marks bytes refl p in (
      record {
        name = λ e. absurd (mere_no_name (mark_symbol bytes) mere (ap mark_symbol (sym at) ∙ e));
        number = λ value width e. absurd (mere_no_number (mark_symbol bytes) value width mere (ap mark_symbol (sym at) ∙ e));
      },
      tt,
    )

both_good : (xs ys : List Item) → AllGood xs → AllGood ys → AllGood (xs ++ ys)
both_good [] ys p q = q
both_good (x ∷ xs) ys p q = (p.0, both_good xs ys p.1 q)

tokens_good : (before text : List ℕ) (at : ℕ) (tokens : List Token) → at ≡ length before → Spells at text tokens → AllGood (items_of Design (before ++ text) tokens)
tokens_good before text at tokens here no_piece = tt
tokens_good before text at tokens here (one_piece piece rest behind front sound more is) =
    let next : at + length (text_of piece) ≡ length (before ++ text_of piece) = rw here (sym (length-append before (text_of piece))) in
    let ih = tokens_good (before ++ text_of piece) rest (at + length (text_of piece)) behind next more in
    let whole : (before ++ text_of piece) ++ rest ≡ before ++ text = append_assoc before (text_of piece) rest ∙ ap (λ xs. before ++ xs) (sym front.splits) in
    let later = subst (λ xs. AllGood (items_of Design xs behind)) whole ih in
    let first = subst (λ xs. AllGood (items_of Design (before ++ xs) (tokens_of (length before) piece))) (sym front.splits)
    (piece_good piece before rest front.is_piece (subst (λ n. fault_of n piece ≡ None) here sound)) in
    let list : tokens ≡ tokens_of (length before) piece ++ behind = subst (λ n. tokens ≡ tokens_of n piece ++ behind) here is in
    subst (λ ts. AllGood (items_of Design (before ++ text) ts)) (sym list)
    (subst AllGood (sym (map-append _ (tokens_of (length before) piece) behind)) (both_good _ _ first later))

pub items_good : (text : List ℕ) (tokens : List Token) → Spells 0 text tokens → AllGood (items_of Design text tokens)
items_good text tokens spells = tokens_good [] text 0 tokens refl spells
