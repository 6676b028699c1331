-- Texts that are printed so that a rule of the grammar reads them.
use Rattle.std.proofs.Common.{◌≡◌, ℕ, ◌+◌, ◌<◌, ◌^◌, true, false, List, [], ◌∷◌, ◌++◌, length, decimal, nat_le, nat_lt, Option, Some, None, refl, sym, ap, ap₂, subst, ◌∙◌, arith, append_assoc, append-nil, length-append}
use Rattle.std.proofs.lemmas.Bool.{and_parts, and_from}
use Rattle.std.proofs.lemmas.Bool.Decides.{nat_tests}
use Rattle.std.specs.Prelude.{position, not}
use Rattle.std.specs.List.{prefix_len}
use Rattle.std.specs.List.{AllByRecursion, list_all}
use Rattle.lola_scan.specs.declared.token.TokenKind.TheVariants as kind
use Rattle.lola_scan.specs.Bytes.{is_blank, is_letter, is_digit, is_word_byte, is_hex_digit}
use Rattle.lola_scan.specs.Piece.{Word as WordPiece, Number as NumberPiece, Mark, is_mark, width_text, run_value}
use Rattle.lola_parse.specs.declared.symbol.Symbol.{Symbol}
use Rattle.lola_parse.specs.declared.symbol.Symbol.TheVariants as s
use Rattle.lola_parse.specs.declared.symbol.Language.TheVariants.{Design}
use Rattle.lola_parse.specs.Symbols.{Item, word_symbol, mark_symbol}
use Rattle.lola_parse.specs.Grammar.{Stands, Passes, Names}
use Rattle.lola_tree.specs.Print.{name_text, number_text}
use Rattle.lola_reread.proofs.Words.{Word, words_text, words_append, IsGood, Shows, shows_append, item_at}
use Rattle.lola_reread.proofs.Decimals.{Digits, digits_of}

-- the text is made of words, so many, and wherever they stand the rule reads them
pub record Prints (text : List ℕ) (count : ℕ) (R : List Item → List Item → Type 0) : Type 0 where
  pub words : List Word
  pub spelled : words_text words ≡ text
  pub good : AllByRecursion IsGood words
  pub long : length words ≡ count
  pub read : (all rest : List Item) → Shows words all rest → R all rest

-- one rule and then another
abbrev pub Then : (List Item → List Item → Type 0) → (List Item → List Item → Type 0) → List Item → List Item → Type 0
Then R Q all rest = (mid : List Item) × (R all mid × Q mid rest)

both_good : (ws vs : List Word) → AllByRecursion IsGood ws → AllByRecursion IsGood vs → AllByRecursion IsGood (ws ++ vs)
both_good [] vs p q = q
both_good (w ∷ ws) vs p q = (p.0, both_good ws vs p.1 q)

infixr 20 ◌and◌
pub ◌and◌ : {t u : List ℕ} {n m : ℕ} {R Q : List Item → List Item → Type 0} → Prints t n R → Prints u m Q → Prints (t ++ u) (n + m) (Then R Q)
◌and◌ p q = record {
  words = p.words ++ q.words;
  spelled = words_append p.words q.words ∙ ap₂ (λ (a b : List ℕ). a ++ b) p.spelled q.spelled;
  good = both_good p.words q.words p.good q.good;
  long = length-append p.words q.words ∙ ap₂ (λ (a b : ℕ). a + b) p.long q.long;
  read = λ all rest shows. let parts = shows_append p.words q.words all rest shows in (parts.0, (p.read all parts.0 parts.1.0, q.read parts.0 rest parts.1.1));
}

-- as another rule, of a text that is the same
pub read_as : {t : List ℕ} {n : ℕ} {R Q : List Item → List Item → Type 0} → ((all rest : List Item) → R all rest → Q all rest) → Prints t n R → Prints t n Q
read_as f p = record { words = p.words; spelled = p.spelled; good = p.good; long = p.long; read = λ all rest shows. f all rest (p.read all rest shows) }

pub retext : {t u : List ℕ} {n m : ℕ} {R : List Item → List Item → Type 0} → t ≡ u → n ≡ m → Prints t n R → Prints u m R
retext {R = R} e f p = record { words = p.words; spelled = p.spelled ∙ e; good = p.good; long = p.long ∙ f; read = p.read }

-- no text
pub nothing : Prints [] 0 (λ all rest. all ≡ rest)
nothing = record { words = []; spelled = refl; good = tt; long = refl; read = λ all rest shows. shows }

one_word : (w : Word) → IsGood w → Prints (w.spelled ++ w.behind ∷ []) 1 (λ all rest. (at : ℕ) × (all ≡ item_at w at ∷ rest))
one_word w good = record {
  words = w ∷ [];
  spelled = refl;
  good = (good, tt);
  long = refl;
  read = λ all rest shows. (shows.0, shows.1.1.0 ∙ ap (λ (is : List Item). item_at w shows.0 ∷ is) shows.1.1.1);
}

-- a mark
pub mark : (bytes : List ℕ) (behind : ℕ) (symbol : Symbol) → is_mark bytes ≡ true → is_blank behind ≡ true → mark_symbol bytes ≡ symbol →
    Prints (bytes ++ behind ∷ []) 1 (Passes symbol)
mark bytes behind symbol is_mark blank reads =
    let w : Word = record { spelled = bytes; behind = behind; symbol = symbol; is_word = false } in
    let good : IsGood w = record {
      piece = Mark bytes;
      is_piece = is_mark;
      unquoted = tt;
      text = refl;
      blank = blank;
      sound = λ at. refl;
      kind = kind.Mark;
      token = λ at. refl;
      symbol = reads;
      word = refl;
    } in
    read_as (λ all rest h. (h.0, record { is_word = false; spelled = bytes; splits = h.1 })) (one_word w good)

-- a word that is read as a symbol
spoken : (first : ℕ) (more : List ℕ) (behind : ℕ) (symbol : Symbol) → is_letter first ≡ true → list_all is_word_byte more ≡ true → is_blank behind ≡ true →
    word_symbol Design (first ∷ more) ≡ symbol →
    Prints ((first ∷ more) ++ behind ∷ []) 1 (λ all rest. (at : ℕ) × (all ≡ record { symbol = symbol; is_word = true; spelled = first ∷ more; at = at } ∷ rest))
spoken first more behind symbol letter others blank reads =
    let w : Word = record { spelled = first ∷ more; behind = behind; symbol = symbol; is_word = true } in
    let good : IsGood w = record {
      piece = WordPiece first more;
      is_piece = (letter, others);
      unquoted = tt;
      text = refl;
      blank = blank;
      sound = λ at. refl;
      kind = kind.Word;
      token = λ at. refl;
      symbol = reads;
      word = refl;
    } in
    one_word w good

-- a reserved word
pub reserved : (first : ℕ) (more : List ℕ) (behind : ℕ) (symbol : Symbol) → is_letter first ≡ true → list_all is_word_byte more ≡ true → is_blank behind ≡ true →
    word_symbol Design (first ∷ more) ≡ symbol → Prints ((first ∷ more) ++ behind ∷ []) 1 (Passes symbol)
reserved first more behind symbol letter others blank reads =
    read_as (λ all rest h. (h.0, record { is_word = true; spelled = first ∷ more; splits = h.1 })) (spoken first more behind symbol letter others blank reads)

-- a name: a word that isn't reserved
pub record IsName (name : List ℕ) : Type 0 where
  pub first : ℕ
  pub more : List ℕ
  pub is : name ≡ first ∷ more
  pub letter : is_letter first ≡ true
  pub others : list_all is_word_byte more ≡ true
  pub free : word_symbol Design (first ∷ more) ≡ s.Name

pub named : (name : List ℕ) → IsName name → Prints (name_text name) 1 (λ all rest. (at : ℕ) × Names name at all rest)
named name good =
    subst (λ (n : List ℕ). Prints (name_text n) 1 (λ all rest. (at : ℕ) × Names n at all rest)) (sym good.is)
    (read_as (λ all rest h. (h.0, record { is_word = true; splits = h.1 })) (spoken good.first good.more 32 s.Name good.letter good.others refl good.free))

-- a width that is small enough, where there is one
abbrev pub IsWidth : Option ℕ → Type 0
IsWidth None = Unit {0}
IsWidth (Some width) = width < 2 ^ 128

not_large : (n : ℕ) → n < 2 ^ 128 → nat_le (2 ^ 128) n ≡ false
not_large n less = grind (arith, nat_tests)

hex : (b : ℕ) → is_digit b ≡ true → is_hex_digit b ≡ true
hex b e = rw e refl

all_hex : (cs : List ℕ) → list_all is_digit cs ≡ true → list_all is_hex_digit cs ≡ true
all_hex [] e = refl
all_hex (c ∷ cs) e =
    let p = and_parts (is_digit c) (list_all is_digit cs) e in
    and_from (is_hex_digit c) (list_all is_hex_digit cs) (hex c p.0) (all_hex cs p.1)

all_pass : (cs : List ℕ) → list_all is_digit cs ≡ true → prefix_len (λ b. not (not (is_digit b))) cs ≡ length cs
all_pass [] e = refl
all_pass (c ∷ cs) e =
    let p = and_parts (is_digit c) (list_all is_digit cs) e in
    let below = all_pass cs p.1 in
    rw p.0 (omega arith)

none_wrong : (cs : List ℕ) → list_all is_digit cs ≡ true → position (λ b. not (is_digit b)) cs ≡ None
none_wrong cs e =
    let long = all_pass cs e in
    let never : nat_lt (length cs) (length cs) ≡ false = grind (arith, nat_tests) in
    rw (long, never) refl

run_is : {n : ℕ} (d : Digits n) → run_value (d.first ∷ d.more) false ≡ Some n
run_is d = rw (and_from (is_digit d.first) (list_all is_digit d.more) d.digit d.digits, d.value) refl

-- the digits of a width, where there is one
abbrev width_digits : Option ℕ → Option (List ℕ)
width_digits None = None
width_digits (Some width) = Some (decimal width)

number_good : (value : ℕ) (width : Option ℕ) (d : Digits value) → value < 2 ^ 128 → IsWidth width →
    IsGood (record { spelled = (d.first ∷ d.more) ++ width_text (width_digits width); behind = 32; symbol = s.Number value width; is_word = false })
number_good value None d less wide = record {
  piece = NumberPiece d.first d.more false None;
  is_piece = (d.digit, all_hex d.more d.digits, tt);
  unquoted = tt;
  text = refl;
  blank = refl;
  sound = λ at. rw (run_is d, not_large value less, none_wrong (d.first ∷ d.more) (and_from (is_digit d.first) (list_all is_digit d.more) d.digit d.digits)) refl;
  kind = kind.Number value None;
  token = λ at. rw (run_is d) refl;
  symbol = refl;
  word = refl;
}
number_good value (Some width) d less wide =
    let w = digits_of width wide in
    let all : list_all is_digit (w.first ∷ w.more) ≡ true = and_from (is_digit w.first) (list_all is_digit w.more) w.digit w.digits in
    rw w.is record {
      piece = NumberPiece d.first d.more false (Some (w.first ∷ w.more));
      is_piece = (d.digit, all_hex d.more d.digits, all);
      unquoted = tt;
      text = refl;
      blank = refl;
      sound = λ at.
          rw (
            run_is d,
            not_large value less,
            w.value,
            not_large width wide,
            none_wrong (d.first ∷ d.more) (and_from (is_digit d.first) (list_all is_digit d.more) d.digit d.digits),
          ) refl;
      kind = kind.Number value (Some width);
      token = λ at. rw (run_is d, w.value) refl;
      symbol = refl;
      word = refl;
    }

-- a number
pub numbered : (value : ℕ) (width : Option ℕ) → value < 2 ^ 128 → IsWidth width →
    Prints (number_text value width) 1 (λ all rest. (at : ℕ) × Stands (s.Number value width) at all rest)
numbered value width less wide = retext (number_spelled width) refl (read_as (λ all rest h. (h.0, stands all rest h.0 h.1)) (one_word w (number_good value width d less wide)))
  where
    d : Digits value
    d = digits_of value less

    w : Word
    w = record { spelled = (d.first ∷ d.more) ++ width_text (width_digits width); behind = 32; symbol = s.Number value width; is_word = false }

    number_spelled : (width : Option ℕ) → ((d.first ∷ d.more) ++ width_text (width_digits width)) ++ 32 ∷ [] ≡ number_text value width
    number_spelled None = rw d.is (ap (λ (cs : List ℕ). cs ++ 32 ∷ []) (append-nil (d.first ∷ d.more)))
    number_spelled (Some n) = rw (d.is, append_assoc) refl

    stands : (all rest : List Item) (at : ℕ) → all ≡ item_at w at ∷ rest → Stands (s.Number value width) at all rest
    stands all rest at e = record { is_word = false; spelled = w.spelled; splits = e }
