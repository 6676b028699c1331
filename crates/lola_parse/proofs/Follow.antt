-- Lemmas on what stands behind a rule.
use Rattle.std.proofs.Common.{◌≡◌, ℕ, ◌+◌, ◌<◌, ◌≤◌, true, false, List, ◌∷◌, length, Some, None, refl, sym, ap, subst, ◌∙◌, arith, length-drop}
use Rattle.lola_bits.specs.declared.op.Op.{Op}
use Rattle.lola_parse.specs.declared.symbol.Symbol.{Symbol}
use Rattle.lola_parse.specs.declared.symbol.Symbol.TheVariants as s
use Rattle.lola_parse.specs.Symbols.{Item}
use Rattle.lola_parse.specs.Grammar.{Stands, Names, relation_of, adding_of}
use Rattle.lola_parse.specs.MayEnd.{tightness, Closes}
use Rattle.lola_parse.specs.Read.{goes_on, front, Stops}
use Rattle.lola_parse.proofs.Suffix.{Ends}

pub head : (x y : Item) (xs ys : List Item) → x ∷ xs ≡ y ∷ ys → x ≡ y
head x y xs ys e = cc

pub tail : (x y : Item) (xs ys : List Item) → x ∷ xs ≡ y ∷ ys → xs ≡ ys
tail x y xs ys e = cc

-- what stands at the front of a list is one thing
pub record Same (symbol other : Symbol) (at place : ℕ) (rest more : List Item) : Type 0 where
  pub symbol_is : symbol ≡ other
  pub at_is : at ≡ place
  pub rest_is : rest ≡ more

pub one_front : {symbol other : Symbol} {at place : ℕ} {all rest more : List Item} → Stands symbol at all rest → Stands other place all more →
    Same symbol other at place rest more
one_front h k =
    let e = sym h.splits ∙ k.splits in
    let item = head _ _ _ _ e in
    record { symbol_is = ap (λ (i : Item). i.symbol) item; at_is = ap (λ (i : Item). i.at) item; rest_is = tail _ _ _ _ e }

pub name_stands : {name : List ℕ} {at : ℕ} {all rest : List Item} → Names name at all rest → Stands s.Name at all rest
name_stands {name = name} h = record { is_word = h.is_word; spelled = name; splits = h.splits }

pub front_is : {symbol : Symbol} {at : ℕ} {all rest : List Item} → Stands symbol at all rest → front all ≡ symbol
front_is h = rw h.splits refl

pub moved : {symbol : Symbol} {at : ℕ} {all other rest : List Item} → all ≡ other → Stands symbol at all rest → Stands symbol at other rest
moved {symbol = symbol} {at = at} {rest = rest} e stands = subst (λ all. Stands symbol at all rest) e stands

pub is_shorter : {symbol : Symbol} {at : ℕ} {all rest : List Item} → Stands symbol at all rest → length all ≡ length rest + 1
is_shorter h = rw h.splits (omega arith)

pub ends_within : {all rest : List Item} → Ends all rest → length rest ≤ length all
ends_within {all = all} {rest = rest} h = let long : length rest ≡ _ = ap length h.is ∙ length-drop h.count all in omega arith

-- a rule closes before a symbol that is looser
pub closes_at : {tight floor at : ℕ} {symbol : Symbol} {all rest : List Item} → Stands symbol at all rest → tightness symbol < tight → floor ≤ length rest →
    Closes tight floor all
closes_at {tight = tight} stands loose within =
    let longer = is_shorter stands in
    record { looser = subst (λ symbol. tightness symbol < tight) (sym (front_is stands)) loose; within = omega arith }

-- and doesn't before one that is tighter
pub no_close : {C : Type 0} {tight floor at : ℕ} {symbol : Symbol} {all rest : List Item} → Stands symbol at all rest → tight ≤ tightness symbol →
    Closes tight floor all → C
no_close {tight = tight} stands tighter closes =
    let loose = subst (λ symbol. tightness symbol < tight) (front_is stands) closes.looser in
    absurd (omega arith)

pub closes_more : {tight tighter floor : ℕ} {all : List Item} → Closes tight floor all → tight ≤ tighter → Closes tighter floor all
closes_more h more = let looser = h.looser in record { looser = omega arith; within = h.within }

-- where an expression stops it closes
loose : (symbol : Symbol) → goes_on symbol ≡ false → tightness symbol < 3
loose s.Arrow h = absurd (let p : true ≡ false = h in cc)
loose s.Equal h = absurd (let p : true ≡ false = h in cc)
loose s.Unequal h = absurd (let p : true ≡ false = h in cc)
loose s.Less h = absurd (let p : true ≡ false = h in cc)
loose s.AtMost h = absurd (let p : true ≡ false = h in cc)
loose s.Greater h = absurd (let p : true ≡ false = h in cc)
loose s.AtLeast h = absurd (let p : true ≡ false = h in cc)
loose s.Plus h = absurd (let p : true ≡ false = h in cc)
loose s.Minus h = absurd (let p : true ≡ false = h in cc)
loose s.Or h = absurd (let p : true ≡ false = h in cc)
loose s.Xor h = absurd (let p : true ≡ false = h in cc)
loose s.And h = absurd (let p : true ≡ false = h in cc)
loose s.Dot h = absurd (let p : true ≡ false = h in cc)
loose s.OpenBracket h = absurd (let p : true ≡ false = h in cc)
loose other h = omega arith

pub stops_closes : {floor : ℕ} {all : List Item} → Stops all → floor ≤ length all → Closes 3 floor all
stops_closes {all = all} h within = record { looser = loose (front all) h.stops; within = within }

pub relation_tight : (symbol : Symbol) (o : Op) → relation_of symbol ≡ Some o → tightness symbol ≡ 4
relation_tight s.Equal o h = refl
relation_tight s.Unequal o h = refl
relation_tight s.Less o h = refl
relation_tight s.AtMost o h = refl
relation_tight s.Greater o h = refl
relation_tight s.AtLeast o h = refl
relation_tight other o h = absurd (let p : None ≡ Some o = h in cc)

pub adding_tight : (symbol : Symbol) (o : Op) → adding_of symbol ≡ Some o → tightness symbol ≡ 5
adding_tight s.Plus o h = refl
adding_tight s.Minus o h = refl
adding_tight s.Or o h = refl
adding_tight s.Xor o h = refl
adding_tight other o h = absurd (let p : None ≡ Some o = h in cc)
