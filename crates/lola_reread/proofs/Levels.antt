-- Printed expressions at each level of the grammar, and what stands between them.
use Rattle.std.proofs.Common.{◌≡◌, ℕ, zero, suc, ◌+◌, ◌≤◌, true, false, cond, List, ◌++◌, length, nat_lt, codes, Some, refl, sym, ap, ap₂, subst, ◌∙◌, inl, inr, arith}
use Rattle.std.proofs.lemmas.Bool.{cases_lt, cases_Bool}
use Rattle.std.proofs.lemmas.Bool.Decides.{nat_tests}
use Rattle.lola_bits.specs.declared.op.Op.{Op}
use Rattle.lola_bits.specs.declared.op.Op.TheVariants as op
use Rattle.lola_bits.proofs.Options.{some_same}
use Rattle.lola_tree.specs.Tree.{Tree, binary}
use Rattle.lola_tree.specs.Places.{placeless}
use Rattle.lola_tree.specs.Print.{expr_text, closed, tightness, op_tightness, is_shift, left_needs, right_needs, sign_text}
use Rattle.lola_parse.specs.declared.symbol.Symbol.{Symbol}
use Rattle.lola_parse.specs.declared.symbol.Symbol.TheVariants as s
use Rattle.lola_parse.specs.declared.symbol.Language.TheVariants.{Design}
use Rattle.lola_parse.specs.Symbols.{Item}
use Rattle.lola_parse.specs.Grammar.{Stands, Passes, Expression, one_rel, Rel, one_sum, Sum, sum, no_term, Term, term, no_factor, Factor, nested, relation_of, adding_of, shift_of}
use Rattle.lola_reread.proofs.GoodItems.{AllGood}
use Rattle.lola_reread.proofs.Prints.{Prints, Then, ◌and◌, read_as, retext, mark, reserved}

-- the rules by how tightly they hold together: an expression, a rel, a sum, a term, a factor
abbrev pub At : ℕ → List Item → Tree → List Item → Type 0
At zero = Expression Design
At (suc zero) = Rel Design
At (suc (suc zero)) = Sum Design
At (suc (suc (suc zero))) = Term Design
At (suc (suc (suc (suc n)))) = Factor Design

step : (k : ℕ) (all rest : List Item) (e : Tree) → At (suc k) all e rest → At k all e rest
step zero all rest e r = one_rel r
step (suc zero) all rest e r = one_sum r
step (suc (suc zero)) all rest e r = sum rest r (no_term refl refl)
step (suc (suc (suc zero))) all rest e r = term rest r (no_factor refl refl)
step (suc (suc (suc (suc n)))) all rest e r = r

pub lower : (j k : ℕ) (all rest : List Item) (e : Tree) → k ≤ j → At j all e rest → At k all e rest
lower zero k all rest e less r = let same : 0 ≡ k = omega arith in subst (λ n. At n all e rest) same r
lower (suc j) k all rest e less r = elim (cases_lt k (suc j)) [
  | inl below ↦ lower j k all rest e (omega arith) (step j all rest e r)
  | inr above ↦ (let same : suc j ≡ k = omega arith in subst (λ n. At n all e rest) same r)
]

-- the rule reads this expression, up to places
abbrev pub Again : ℕ → Tree → List Item → List Item → Type 0
Again k e all rest = (again : Tree) × (At k all again rest × (placeless again ≡ placeless e))

pub lower_again : (j k : ℕ) (e : Tree) → k ≤ j → (all rest : List Item) → Again j e all rest → Again k e all rest
lower_again j k e less all rest h = (h.0, (lower j k all rest h.0 less h.1.0, h.1.1))

-- how many tokens it has, with parentheses where they are needed
abbrev pub closed_count : ℕ → ℕ → ℕ → ℕ
closed_count needed tight n = cond (nat_lt tight needed) (n + 2) n

pub count_zero : (t n : ℕ) → closed_count 0 t n ≡ n
count_zero t n = let e : nat_lt t 0 ≡ false = grind (arith, nat_tests) in rw e refl

pub count_held : (k t n : ℕ) → k ≤ t → closed_count k t n ≡ n
count_held k t n less = let e : nat_lt t k ≡ false = grind (arith, nat_tests) in rw e refl

pub count_most : (k t n : ℕ) → closed_count k t n ≤ n + 2
count_most k t n = elim (cases_Bool (nat_lt t k)) [
  | inl e ↦ rw e (omega arith)
  | inr e ↦ rw e (omega arith)
]

pub count_more : (j k t n : ℕ) → j ≤ k → closed_count j t n ≤ closed_count k t n
count_more j k t n less = elim (cases_Bool (nat_lt t k)) [
  | inl e ↦ rw e (count_most j t n)
  | inr e ↦ (let f : nat_lt t j ≡ false = grind (arith, nat_tests) in rw (e, f) (omega arith))
]

-- the marks
pub open_paren : Prints (codes "( ") 1 (Passes s.OpenParen)
open_paren = mark (codes "(") 32 s.OpenParen refl refl refl

pub close_paren : Prints (codes ") ") 1 (Passes s.CloseParen)
close_paren = mark (codes ")") 32 s.CloseParen refl refl refl

pub open_bracket : Prints (codes "[ ") 1 (Passes s.OpenBracket)
open_bracket = mark (codes "[") 32 s.OpenBracket refl refl refl

pub close_bracket : Prints (codes "] ") 1 (Passes s.CloseBracket)
close_bracket = mark (codes "]") 32 s.CloseBracket refl refl refl

pub open_brace : Prints (codes "{ ") 1 (Passes s.OpenBrace)
open_brace = mark (codes "{") 32 s.OpenBrace refl refl refl

pub close_brace : Prints (codes "} ") 1 (Passes s.CloseBrace)
close_brace = mark (codes "}") 32 s.CloseBrace refl refl refl

pub comma : Prints (codes ", ") 1 (Passes s.Comma)
comma = mark (codes ",") 32 s.Comma refl refl refl

pub colon : Prints (codes ": ") 1 (Passes s.Colon)
colon = mark (codes ":") 32 s.Colon refl refl refl

pub dot : Prints (codes ". ") 1 (Passes s.Dot)
dot = mark (codes ".") 32 s.Dot refl refl refl

pub arrow : Prints (codes "-> ") 1 (Passes s.Arrow)
arrow = mark (codes "->") 32 s.Arrow refl refl refl

pub tilde : Prints (codes "~ ") 1 (Passes s.Not)
tilde = mark (codes "~") 32 s.Not refl refl refl

pub bang : Prints (codes "! ") 1 (Passes s.Times)
bang = mark (codes "!") 32 s.Times refl refl refl

pub assign : Prints (codes ":= ") 1 (Passes s.Assign)
assign = mark (codes ":=") 32 s.Assign refl refl refl

-- an expression is printed so that it is read again
abbrev pub Printed : Tree → ℕ → Type 0
Printed e n = Prints (expr_text e) n (Again (tightness e) e)

-- in parentheses where they are needed
pub closing : (e : Tree) (n k : ℕ) → k ≤ 4 → Printed e n → Prints (closed k (tightness e) (expr_text e)) (closed_count k (tightness e) n) (Again k e)
closing e n k less p = elim (cases_Bool (nat_lt (tightness e) k)) [
  | inl f ↦ (
      let enclosed = open_paren and (read_as {Q = Again 0 e} (lower_again (tightness e) 0 e (omega arith)) p and close_paren) in
      let inside = read_as {Q = Again k e} (λ all rest h. nested_again all rest h) enclosed in
      retext (rw f refl) (rw f (omega arith)) inside)
  | inr f ↦ (
      let held : k ≤ tightness e = grind (arith, nat_tests) in
      retext (rw f refl) (rw f refl) (read_as {Q = Again k e} (lower_again (tightness e) k e held) p))
]
  where
    nested_again : (all rest : List Item) → Then (Passes s.OpenParen) (Then (Again 0 e) (Passes s.CloseParen)) all rest → Again k e all rest
    nested_again all rest (first, ((at, opens), (close, ((again, (read, same)), (close_at, closes))))) =
        (again, (lower 4 k all rest again less (nested first close opens read closes), same))

-- what was read is printed, and with no more tokens
pub record Done (k : ℕ) (e : Tree) (all rest : List Item) : Type 0 where
  pub count : ℕ
  pub printed : Printed e count
  pub few : closed_count k (tightness e) count + length rest ≤ length all
  pub good : AllGood rest

pub weaken : (j k : ℕ) {e : Tree} {all rest : List Item} → k ≤ j → Done j e all rest → Done k e all rest
weaken j k {e = e} less d =
    let more = count_more k j (tightness e) d.count less in
    let few = d.few in
    record { count = d.count; printed = d.printed; few = omega arith; good = d.good }

pub past_good : {symbol : Symbol} {at : ℕ} {all rest : List Item} → Stands symbol at all rest → AllGood all → AllGood rest
past_good stands good = (subst AllGood stands.splits good).1

pub past_long : {symbol : Symbol} {at : ℕ} {all rest : List Item} → Stands symbol at all rest → length all ≡ 1 + length rest
past_long stands = ap length stands.splits ∙ omega arith

-- an operator between two sides, which wants so much of each
pub record IsInfix (o : Op) (k l r : ℕ) (symbol : Symbol) : Type 0 where
  pub shift : is_shift o ≡ false
  pub tight : op_tightness o ≡ k
  pub left : left_needs o ≡ l
  pub right : right_needs o ≡ r
  pub sign : Prints (sign_text o) 1 (Passes symbol)

pub relation_is : (symbol : Symbol) (o : Op) → relation_of symbol ≡ Some o → IsInfix o 1 2 2 symbol
relation_is s.Equal o e = subst (λ p. IsInfix p 1 2 2 s.Equal) (some_same _ _ e)
    (record { shift = refl; tight = refl; left = refl; right = refl; sign = mark (codes "=") 32 s.Equal refl refl refl })
relation_is s.Unequal o e = subst (λ p. IsInfix p 1 2 2 s.Unequal) (some_same _ _ e)
    (record { shift = refl; tight = refl; left = refl; right = refl; sign = mark (codes "#") 32 s.Unequal refl refl refl })
relation_is s.Less o e = subst (λ p. IsInfix p 1 2 2 s.Less) (some_same _ _ e)
    (record { shift = refl; tight = refl; left = refl; right = refl; sign = mark (codes "<") 32 s.Less refl refl refl })
relation_is s.AtMost o e = subst (λ p. IsInfix p 1 2 2 s.AtMost) (some_same _ _ e)
    (record { shift = refl; tight = refl; left = refl; right = refl; sign = mark (codes "<=") 32 s.AtMost refl refl refl })
relation_is s.Greater o e = subst (λ p. IsInfix p 1 2 2 s.Greater) (some_same _ _ e)
    (record { shift = refl; tight = refl; left = refl; right = refl; sign = mark (codes ">") 32 s.Greater refl refl refl })
relation_is s.AtLeast o e = subst (λ p. IsInfix p 1 2 2 s.AtLeast) (some_same _ _ e)
    (record { shift = refl; tight = refl; left = refl; right = refl; sign = mark (codes ">=") 32 s.AtLeast refl refl refl })
relation_is other o e = cc

pub adding_is : (symbol : Symbol) (o : Op) → adding_of symbol ≡ Some o → IsInfix o 2 2 3 symbol
adding_is s.Plus o e = subst (λ p. IsInfix p 2 2 3 s.Plus) (some_same _ _ e)
    (record { shift = refl; tight = refl; left = refl; right = refl; sign = mark (codes "+") 32 s.Plus refl refl refl })
adding_is s.Minus o e = subst (λ p. IsInfix p 2 2 3 s.Minus) (some_same _ _ e)
    (record { shift = refl; tight = refl; left = refl; right = refl; sign = mark (codes "-") 32 s.Minus refl refl refl })
adding_is s.Or o e = subst (λ p. IsInfix p 2 2 3 s.Or) (some_same _ _ e)
    (record { shift = refl; tight = refl; left = refl; right = refl; sign = mark (codes "|") 32 s.Or refl refl refl })
adding_is s.Xor o e = subst (λ p. IsInfix p 2 2 3 s.Xor) (some_same _ _ e)
    (record { shift = refl; tight = refl; left = refl; right = refl; sign = mark (codes "^") 32 s.Xor refl refl refl })
adding_is other o e = cc

pub and_is : IsInfix op.And 3 3 4 s.And
and_is = record { shift = refl; tight = refl; left = refl; right = refl; sign = mark (codes "&") 32 s.And refl refl refl }

-- a shift, which is written before its sides
pub record IsShift (o : Op) (symbol : Symbol) : Type 0 where
  pub shift : is_shift o ≡ true
  pub tight : op_tightness o ≡ 4
  pub sign : Prints (sign_text o) 1 (Passes symbol)

pub shift_is : (symbol : Symbol) (o : Op) → shift_of symbol ≡ Some o → IsShift o symbol
shift_is s.Shl o e = subst (λ p. IsShift p s.Shl) (some_same _ _ e) (record { shift = refl; tight = refl; sign = reserved 83 (codes "HL") 32 s.Shl refl refl refl refl })
shift_is s.Shr o e = subst (λ p. IsShift p s.Shr) (some_same _ _ e) (record { shift = refl; tight = refl; sign = reserved 83 (codes "HR") 32 s.Shr refl refl refl refl })
shift_is s.Asr o e = subst (λ p. IsShift p s.Asr) (some_same _ _ e) (record { shift = refl; tight = refl; sign = reserved 65 (codes "SR") 32 s.Asr refl refl refl refl })
shift_is s.Ror o e = subst (λ p. IsShift p s.Ror) (some_same _ _ e) (record { shift = refl; tight = refl; sign = reserved 82 (codes "OR") 32 s.Ror refl refl refl refl })
shift_is other o e = cc

-- two sides with an operator between them, where the grammar joins what it reads
pub joined : (a b : Tree) (n m at : ℕ) (o : Op) (k l r : ℕ) (symbol : Symbol) → IsInfix o k l r symbol → l ≤ 4 → r ≤ 4 → Printed a n → Printed b m →
    ((all sign behind rest : List Item) (a' b' : Tree) (p : ℕ) → At l all a' sign → Stands symbol p sign behind → At r behind b' rest → At k all (binary o a' b' p) rest) →
    Printed (binary o a b at) (closed_count l (tightness a) n + (1 + closed_count r (tightness b) m))
joined a b n m at o k l r symbol is lo hi pa pb make =
    retext text refl (subst (λ j. Prints (closed l (tightness a) (expr_text a) ++ (sign_text o ++ closed r (tightness b) (expr_text b)))
    (closed_count l (tightness a) n + (1 + closed_count r (tightness b) m)) (Again j (binary o a b at))) (sym is.tight) (read_as {Q = Again k (binary o a b at)} again both))
  where
    both : Prints (closed l (tightness a) (expr_text a) ++ (sign_text o ++ closed r (tightness b) (expr_text b))) (closed_count l (tightness a) n + (1 + closed_count r (tightness b) m))
        (Then (Again l a) (Then (Passes symbol) (Again r b)))
    both = closing a n l lo pa and (is.sign and closing b m r hi pb)

    again : (all rest : List Item) → Then (Again l a) (Then (Passes symbol) (Again r b)) all rest → Again k (binary o a b at) all rest
    again all rest (sign, ((a', (left, same)), (behind, ((p, stands), (b', (right, same')))))) =
        (binary o a' b' p, (make all sign behind rest a' b' p left stands right, ap₂ (λ (x y : Tree). binary o x y 0) same same'))

    text : closed l (tightness a) (expr_text a) ++ (sign_text o ++ closed r (tightness b) (expr_text b)) ≡ expr_text (binary o a b at)
    text = rw (is.shift, is.left, is.right) refl
