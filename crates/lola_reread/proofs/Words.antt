-- A text of words, each with a blank behind it, is read as these words.
use Rattle.std.proofs.Common.{◌≡◌, ℕ, ◌+◌, ◌-◌, Bool, true, List, [], ◌∷◌, ◌++◌, length, None, refl, sym, ap, subst, ◌∙◌, arith, append_assoc, length-append}
use Rattle.std.proofs.Math.Seq.{drop-append_seam, take-append_seam}
use Rattle.std.specs.Prelude.{slice_range}
use Rattle.std.specs.List.{AllByRecursion}
use Rattle.lola_scan.specs.declared.token.Token.{Token}
use Rattle.lola_scan.specs.declared.token.TokenKind.{TokenKind}
use Rattle.lola_scan.specs.Bytes.{is_blank}
use Rattle.lola_scan.specs.Piece.{Piece, Blank, IsPiece, IsUnquoted, IsFront, text_of, fault_of, tokens_of}
use Rattle.lola_scan.specs.Tokens.{Spells, no_piece, one_piece}
use Rattle.lola_parse.specs.declared.symbol.Symbol.{Symbol}
use Rattle.lola_parse.specs.declared.symbol.Language.TheVariants.{Design}
use Rattle.lola_parse.specs.Symbols.{Item, items_of, item_of, symbol_of, is_word_kind}

-- the law that a token with a blank behind it stands as it is
abbrev pub SpacedLaw : Type 0
SpacedLaw = (piece : Piece) (b : ℕ) (rest : List ℕ) → IsPiece piece → IsUnquoted piece → is_blank b ≡ true → IsFront (text_of piece ++ b ∷ rest) piece (b ∷ rest)

abbrev pub BlankLaw : Type 0
BlankLaw = (b : ℕ) (rest : List ℕ) → is_blank b ≡ true → IsFront (b ∷ rest) (Blank b) rest

-- a word of a text, with the blank behind it and what the grammar reads it as
pub record Word : Type 0 where
  pub spelled : List ℕ
  pub behind : ℕ
  pub symbol : Symbol
  pub is_word : Bool

abbrev pub words_text : List Word → List ℕ
words_text [] = []
words_text (w ∷ ws) = w.spelled ++ w.behind ∷ words_text ws

pub words_append : (ws vs : List Word) → words_text (ws ++ vs) ≡ words_text ws ++ words_text vs
words_append [] vs = refl
words_append (w ∷ ws) vs =
    ap (λ xs. w.spelled ++ w.behind ∷ xs) (words_append ws vs) ∙ sym (append_assoc w.spelled (w.behind ∷ words_text ws) (words_text vs))

abbrev pub item_at : Word → ℕ → Item
item_at w at = record { symbol = w.symbol; is_word = w.is_word; spelled = w.spelled; at = at }

-- it is one token, without a fault, which the grammar reads so
pub record IsGood (w : Word) : Type 0 where
  pub piece : Piece
  pub is_piece : IsPiece piece
  pub unquoted : IsUnquoted piece
  pub text : text_of piece ≡ w.spelled
  pub blank : is_blank w.behind ≡ true
  pub sound : (at : ℕ) → fault_of at piece ≡ None
  pub kind : TokenKind
  pub token : (at : ℕ) → tokens_of at piece ≡ record { kind = kind; from = at; to = at + length w.spelled } ∷ []
  pub symbol : symbol_of Design kind w.spelled ≡ w.symbol
  pub word : is_word_kind kind ≡ w.is_word

-- the words stand at the front of the items, at some places
abbrev pub Shows : List Word → List Item → List Item → Type 0
Shows [] all rest = all ≡ rest
Shows (w ∷ ws) all rest = (at : ℕ) × ((more : List Item) × ((all ≡ item_at w at ∷ more) × Shows ws more rest))

pub shows_append : (ws vs : List Word) (all rest : List Item) → Shows (ws ++ vs) all rest → (mid : List Item) × (Shows ws all mid × Shows vs mid rest)
shows_append [] vs all rest shows = (all, (refl, shows))
shows_append (w ∷ ws) vs all rest (at, (more, (splits, shows))) =
    let behind = shows_append ws vs more rest shows in
    (behind.0, ((at, (more, (splits, behind.1.0))), behind.1.1))

-- so many words are so many items
pub shows_long : (ws : List Word) (all rest : List Item) → Shows ws all rest → length all ≡ length ws + length rest
shows_long [] all rest shows = let e = ap length shows in omega arith
shows_long (w ∷ ws) all rest (at, (more, (splits, shows))) = let below = shows_long ws more rest shows in rw splits (omega (arith, below))

-- the text that stands behind another is read as tokens that show the words
pub record IsLexed (before : List ℕ) (ws : List Word) : Type 0 where
  pub tokens : List Token
  pub spells : Spells (length before) (words_text ws) tokens
  pub shown : Shows ws (items_of Design (before ++ words_text ws) tokens) []

-- what stands at a place of a text
pub range_at : (before x rest : List ℕ) → slice_range (before ++ (x ++ rest)) (length before) (length before + length x) ≡ x
range_at before x rest =
    let long : length before + length x - length before ≡ length x = omega arith in
    rw (long, drop-append_seam before (x ++ rest)) (take-append_seam x rest)

item_is : (w : Word) (before rest : List ℕ) (good : IsGood w) →
    item_of Design (before ++ (w.spelled ++ rest)) (record { kind = good.kind; from = length before; to = length before + length w.spelled }) ≡ item_at w (length before)
item_is w before rest good =
    let at = range_at before w.spelled rest in
    let symbol : symbol_of Design good.kind (slice_range (before ++ (w.spelled ++ rest)) (length before) (length before + length w.spelled)) ≡ w.symbol =
    ap (symbol_of Design good.kind) at ∙ good.symbol in
    rw (symbol, good.word, at) refl

module _ (spaced : SpacedLaw) (blanks : BlankLaw) where
  pub lexed : (before : List ℕ) (ws : List Word) → AllByRecursion IsGood ws → IsLexed before ws
  lexed before [] good = record { tokens = []; spells = no_piece; shown = refl }
  lexed before (w ∷ ws) good =
      let one = good.0 in
      let front : List ℕ = w.spelled ++ w.behind ∷ [] in
      let more = lexed (before ++ front) ws good.1 in
      let text : List ℕ = words_text ws in
      let token : Token = record { kind = one.kind; from = length before; to = length before + length w.spelled } in
      let whole : before ++ (w.spelled ++ w.behind ∷ text) ≡ (before ++ front) ++ text =
      ap (λ xs. before ++ xs) (sym (append_assoc w.spelled (w.behind ∷ []) text)) ∙ sym (append_assoc before front text) in
      let long : length (before ++ front) ≡ length before + length (text_of one.piece) + 1 =
      length-append before front ∙ (ap (λ n. length before + n) (length-append w.spelled (w.behind ∷ [])) ∙ rw one.text (omega arith)) in
      let behind : Spells (length before + length (text_of one.piece) + 1) text more.tokens = subst (λ n. Spells n text more.tokens) long more.spells in
      let blank : Spells (length before + length (text_of one.piece)) (w.behind ∷ text) more.tokens =
      one_piece (Blank w.behind) text more.tokens (blanks w.behind text one.blank) refl behind refl in
      let first : IsFront (w.spelled ++ w.behind ∷ text) one.piece (w.behind ∷ text) =
      subst (λ xs. IsFront (xs ++ w.behind ∷ text) one.piece (w.behind ∷ text)) one.text (spaced one.piece w.behind text one.is_piece one.unquoted one.blank) in
      record {
        tokens = token ∷ more.tokens;
        spells = one_piece one.piece (w.behind ∷ text) more.tokens first (one.sound (length before)) blank (sym (ap (λ ts. ts ++ more.tokens) (one.token (length before))));
        shown = (
          length before,
          (
            items_of Design (before ++ (w.spelled ++ w.behind ∷ text)) more.tokens,
            (
              ap (λ i. i ∷ items_of Design (before ++ (w.spelled ++ w.behind ∷ text)) more.tokens) (item_is w before (w.behind ∷ text) one),
              subst (λ xs. Shows ws (items_of Design xs more.tokens) []) (sym whole) more.shown,
            ),
          ),
        );
      }
