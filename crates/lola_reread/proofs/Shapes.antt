-- Types are printed so that they are read again.
use Rattle.std.proofs.Common.{◌≡◌, ℕ, ◌<◌, ◌^◌, true, List, ◌++◌, nat_eq, codes, Some, None, refl, sym, ap, ap₂, subst, inl, inr, arith}
use Rattle.std.proofs.lemmas.Bool.{cases_Bool}
use Rattle.std.proofs.lemmas.Bool.Decides.{nat_tests}
use Rattle.lola_bits.proofs.Options.{some_same}
use Rattle.lola_tree.specs.declared.named.Count.{Count}
use Rattle.lola_tree.specs.declared.named.Count.TheVariants as count
use Rattle.lola_tree.specs.declared.named.Shape.{Shape}
use Rattle.lola_tree.specs.declared.named.Shape.TheVariants as shape
use Rattle.lola_tree.specs.Places.{placeless_shape}
use Rattle.lola_tree.specs.Print.{count_text, bracket_text, shape_text}
use Rattle.lola_parse.specs.declared.symbol.Symbol.{Symbol}
use Rattle.lola_parse.specs.declared.symbol.Symbol.TheVariants as s
use Rattle.lola_parse.specs.Symbols.{Item}
use Rattle.lola_parse.specs.Grammar.{Passes, fixed}
use Rattle.lola_parse.specs.Design.{width_of, Shaped, vector, bits, bytes, words, vectors}
use Rattle.lola_reread.proofs.GoodItems.{AllGood}
use Rattle.lola_reread.proofs.Prints.{Prints, Then, ◌and◌, read_as, retext, reserved, numbered as number_printed}
use Rattle.lola_reread.proofs.Levels.{open_bracket, close_bracket, past_good}
use Rattle.lola_reread.proofs.Expressions.{CountAgain, counted_done}

-- the type is read, up to places
abbrev pub ShapeAgain : Shape → List Item → List Item → Type 0
ShapeAgain t all rest = (again : Shape) × (Shaped all again rest × (placeless_shape again ≡ placeless_shape t))

pub record ShapePrinted (t : Shape) : Type 0 where
  pub count : ℕ
  pub printed : Prints (shape_text t) count (ShapeAgain t)

bit_word : Prints (codes "BIT ") 1 (Passes s.Bit)
bit_word = reserved 66 (codes "IT") 32 s.Bit refl refl refl refl

byte_word : Prints (codes "BYTE ") 1 (Passes s.Byte)
byte_word = reserved 66 (codes "YTE") 32 s.Byte refl refl refl refl

word_word : Prints (codes "WORD ") 1 (Passes s.Word)
word_word = reserved 87 (codes "ORD") 32 s.Word refl refl refl refl

bracketed : (c : Count) → Prints (count_text c) 1 (CountAgain c) → Prints (bracket_text c) 3 (Then (Passes s.OpenBracket) (Then (CountAgain c) (Passes s.CloseBracket)))
bracketed c p = open_bracket and (p and close_bracket)

fixed_printed : (value at : ℕ) → value < 2 ^ 128 → Prints (count_text (count.Fixed value at)) 1 (CountAgain (count.Fixed value at))
fixed_printed value at less = read_as {Q = CountAgain (count.Fixed value at)} (λ xs ys h. (count.Fixed value h.0, (fixed value h.0 h.1 refl, refl))) (number_printed value None less tt)

bracket_vector : (width : Count) → Prints (count_text width) 1 (CountAgain width) → Prints (bracket_text width ++ codes "BIT ") 4 (ShapeAgain (shape.Vector width))
bracket_vector width p = read_as {Q = ShapeAgain (shape.Vector width)} again (bracketed width p and bit_word)
  where
    again : (all rest : List Item) → Then (Then (Passes s.OpenBracket) (Then (CountAgain width) (Passes s.CloseBracket))) (Passes s.Bit) all rest → ShapeAgain (shape.Vector width) all rest
    again all rest (m3, ((m1, ((p, ob), (m2, ((c, (cnt, same)), (q, cb))))), (r, bt))) = (shape.Vector c, (bits m1 m2 m3 ob cnt cb bt refl, ap shape.Vector same))

-- a width that has a word
word_vector : (value width at : ℕ) (symbol : Symbol) (text : List ℕ) → width_of symbol ≡ Some width → value ≡ width → Prints text 1 (Passes symbol) →
    Prints text 1 (ShapeAgain (shape.Vector (count.Fixed value at)))
word_vector value width at symbol text reads same p = read_as {Q = ShapeAgain (shape.Vector (count.Fixed value at))}
    (λ xs ys h. (shape.Vector (count.Fixed width h.0), (vector h.1 reads refl, ap (λ (n : ℕ). shape.Vector (count.Fixed n 0)) (sym same)))) p

equal : (m n : ℕ) → nat_eq m n ≡ true → m ≡ n
equal m n e = grind (arith, nat_tests)

vector_printed : (width : Count) → Prints (count_text width) 1 (CountAgain width) → ShapePrinted (shape.Vector width)
vector_printed (count.Const name) p = record { count = 4; printed = bracket_vector (count.Const name) p }
vector_printed (count.Fixed value at) p = elim (cases_Bool (nat_eq value 1)) [
  | inl e ↦ record { count = 1; printed = retext (rw e refl) refl (word_vector value 1 at s.Bit (codes "BIT ") refl (equal value 1 e) bit_word) }
  | inr e ↦ elim (cases_Bool (nat_eq value 8)) [
    | inl f ↦ record { count = 1; printed = retext (rw (e, f) refl) refl (word_vector value 8 at s.Byte (codes "BYTE ") refl (equal value 8 f) byte_word) }
    | inr f ↦ elim (cases_Bool (nat_eq value 32)) [
      | inl g ↦ record { count = 1; printed = retext (rw (e, f, g) refl) refl (word_vector value 32 at s.Word (codes "WORD ") refl (equal value 32 g) word_word) }
      | inr g ↦ record { count = 4; printed = retext (rw (e, f, g) refl) refl (bracket_vector (count.Fixed value at) p) }
    ]
  ]
]

array_bits : (n width : Count) → Prints (count_text n) 1 (CountAgain n) → Prints (count_text width) 1 (CountAgain width) →
    Prints (bracket_text n ++ (bracket_text width ++ codes "BIT ")) 7 (ShapeAgain (shape.Array n width))
array_bits n width p q = read_as {Q = ShapeAgain (shape.Array n width)} again (bracketed n p and (bracketed width q and bit_word))
  where
    again : (all rest : List Item) →
        Then (Then (Passes s.OpenBracket) (Then (CountAgain n) (Passes s.CloseBracket))) (Then (Then (Passes s.OpenBracket) (Then (CountAgain width) (Passes s.CloseBracket))) (Passes s.Bit)) all rest →
        ShapeAgain (shape.Array n width) all rest
    again all rest (m3, ((m1, ((p, ob), (m2, ((c, (cnt, sc)), (q, cb))))), (m6, ((m4, ((p', ob'), (m5, ((d, (dnt, sd)), (q', cb'))))), (r, bt))))) =
        (shape.Array c d, (vectors m1 m2 m3 m4 m5 m6 ob cnt cb ob' dnt cb' bt refl, ap₂ shape.Array sc sd))

array_bytes : (n : Count) (value at : ℕ) → value ≡ 8 → Prints (count_text n) 1 (CountAgain n) → Prints (bracket_text n ++ codes "BYTE ") 4 (ShapeAgain (shape.Array n (count.Fixed value at)))
array_bytes n value at is p = read_as {Q = ShapeAgain (shape.Array n (count.Fixed value at))} again (bracketed n p and byte_word)
  where
    again : (all rest : List Item) → Then (Then (Passes s.OpenBracket) (Then (CountAgain n) (Passes s.CloseBracket))) (Passes s.Byte) all rest →
        ShapeAgain (shape.Array n (count.Fixed value at)) all rest
    again all rest (m3, ((m1, ((p, ob), (m2, ((c, (cnt, sc)), (q, cb))))), (r, bt))) =
        (shape.Array c (count.Fixed 8 r), (bytes m1 m2 m3 ob cnt cb bt refl, ap₂ (λ (x : Count) (v : ℕ). shape.Array x (count.Fixed v 0)) sc (sym is)))

array_words : (n : Count) (value at : ℕ) → value ≡ 32 → Prints (count_text n) 1 (CountAgain n) → Prints (bracket_text n ++ codes "WORD ") 4 (ShapeAgain (shape.Array n (count.Fixed value at)))
array_words n value at is p = read_as {Q = ShapeAgain (shape.Array n (count.Fixed value at))} again (bracketed n p and word_word)
  where
    again : (all rest : List Item) → Then (Then (Passes s.OpenBracket) (Then (CountAgain n) (Passes s.CloseBracket))) (Passes s.Word) all rest →
        ShapeAgain (shape.Array n (count.Fixed value at)) all rest
    again all rest (m3, ((m1, ((p, ob), (m2, ((c, (cnt, sc)), (q, cb))))), (r, bt))) =
        (shape.Array c (count.Fixed 32 r), (words m1 m2 m3 ob cnt cb bt refl, ap₂ (λ (x : Count) (v : ℕ). shape.Array x (count.Fixed v 0)) sc (sym is)))

array_printed : (n width : Count) → Prints (count_text n) 1 (CountAgain n) → Prints (count_text width) 1 (CountAgain width) → ShapePrinted (shape.Array n width)
array_printed n (count.Const name) p q = record { count = 7; printed = array_bits n (count.Const name) p q }
array_printed n (count.Fixed value at) p q = elim (cases_Bool (nat_eq value 8)) [
  | inl e ↦ record { count = 4; printed = retext (rw e refl) refl (array_bytes n value at (equal value 8 e) p) }
  | inr e ↦ elim (cases_Bool (nat_eq value 32)) [
    | inl f ↦ record { count = 4; printed = retext (rw (e, f) refl) refl (array_words n value at (equal value 32 f) p) }
    | inr f ↦ record { count = 7; printed = retext (rw (e, f) refl) refl (array_bits n (count.Fixed value at) p q) }
  ]
]

width_bound : (symbol : Symbol) (width : ℕ) → width_of symbol ≡ Some width → width < 2 ^ 128
width_bound s.Bit width e = subst (λ n. n < 2 ^ 128) (some_same _ _ e) (omega arith)
width_bound s.Byte width e = subst (λ n. n < 2 ^ 128) (some_same _ _ e) (omega arith)
width_bound s.Word width e = subst (λ n. n < 2 ^ 128) (some_same _ _ e) (omega arith)
width_bound other width e = cc

-- a type that is read is printed so
pub shape_done : (t : Shape) (all rest : List Item) → Shaped all t rest → AllGood all → ShapePrinted t × AllGood rest
shape_done t all rest (vector {symbol = symbol} {width = width} {at = at} stands reads is) good =
    (subst ShapePrinted (sym is) (vector_printed (count.Fixed width at) (fixed_printed width at (width_bound symbol width reads))), past_good stands good)
shape_done t all rest (bits {width = width} first close behind opens cnt closes bt is) good =
    let c = counted_done width first close cnt (past_good opens good) in
    (subst ShapePrinted (sym is) (vector_printed width c.printed), past_good bt (past_good closes c.good))
shape_done t all rest (bytes {number = n} {byte_at = at} first close behind opens cnt closes bt is) good =
    let c = counted_done n first close cnt (past_good opens good) in
    (subst ShapePrinted (sym is) (array_printed n (count.Fixed 8 at) c.printed (fixed_printed 8 at (omega arith))), past_good bt (past_good closes c.good))
shape_done t all rest (words {number = n} {word_at = at} first close behind opens cnt closes bt is) good =
    let c = counted_done n first close cnt (past_good opens good) in
    (subst ShapePrinted (sym is) (array_printed n (count.Fixed 32 at) c.printed (fixed_printed 32 at (omega arith))), past_good bt (past_good closes c.good))
shape_done t all rest (vectors {number = n} {width = width} first close second third close2 behind opens cnt closes opens2 dnt closes2 bt is) good =
    let c = counted_done n first close cnt (past_good opens good) in
    let d = counted_done width third close2 dnt (past_good opens2 (past_good closes c.good)) in
    (subst ShapePrinted (sym is) (array_printed n width c.printed d.printed), past_good bt (past_good closes2 d.good))
