-- Each expression that is read is printed so that it is read again, and with no more tokens.
use Rattle.std.proofs.Common.{◌≡◌, ℕ, ◌+◌, ◌<◌, ◌≤◌, ◌^◌, false, List, [], ◌∷◌, ◌++◌, length, nat_eq, codes, Option, Some, None, refl, sym, ap, ap₂, subst, ◌∙◌, inl, inr, arith, append-nil}
use Rattle.std.proofs.lemmas.Bool.{cases_Bool}
use Rattle.std.proofs.lemmas.Bool.Decides.{nat_tests}
use Rattle.lola_bits.specs.declared.op.Op.{Op}
use Rattle.lola_tree.specs.declared.named.Count.{Count}
use Rattle.lola_tree.specs.declared.named.Count.TheVariants as count
use Rattle.lola_tree.specs.declared.named.Ref.{Ref}
use Rattle.lola_tree.specs.Tree.{Tree, bit, slice, index, negation, binary, choice}
use Rattle.lola_tree.specs.Places.{placeless_count, placeless_ref}
use Rattle.lola_tree.specs.Print.{name_text, count_text, ref_text, times_text, expr_text, tightness, sign_text}
use Rattle.lola_parse.specs.declared.symbol.Symbol.{Symbol}
use Rattle.lola_parse.specs.declared.symbol.Symbol.TheVariants as s
use Rattle.lola_parse.specs.declared.symbol.Language.TheVariants.{Design, Table}
use Rattle.lola_parse.specs.Symbols.{Item}
use Rattle.lola_parse.specs.Grammar.{Stands, Passes, Names, Counted, fixed, constant, Reference, plain, source, Times, once, repeated, chosen, negated, one_bit, sliced, indexed, shifted, shift_of}
use Rattle.lola_reread.proofs.GoodItems.{AllGood}
use Rattle.lola_reread.proofs.Prints.{Prints, Then, ◌and◌, read_as, retext, nothing, named as name_printed, numbered as number_printed, IsName, IsWidth}
use Rattle.lola_reread.proofs.Levels.{Again, lower_again, closed_count, count_zero, count_held, open_paren, close_paren, open_bracket, close_bracket, comma, colon, dot, arrow, tilde, bang, Printed, closing, Done, past_good, past_long, IsShift, shift_is}

table_is_none : Design ≡ Table → ⊥
table_is_none e = cc

pub past_name : {name : List ℕ} {at : ℕ} {all rest : List Item} → Names name at all rest → AllGood all → IsName name × (AllGood rest × (length all ≡ 1 + length rest))
past_name h good = let g = subst AllGood h.splits good in (g.0.name refl, (g.1, ap length h.splits ∙ omega arith))

pub past_number : {value at : ℕ} {width : Option ℕ} {all rest : List Item} → Stands (s.Number value width) at all rest → AllGood all → (value < 2 ^ 128) × IsWidth width
past_number h good = (subst AllGood h.splits good).0.number _ _ refl

-- a count
abbrev pub CountAgain : Count → List Item → List Item → Type 0
CountAgain c all rest = (again : Count) × (Counted Design all again rest × (placeless_count again ≡ placeless_count c))

pub record CountDone (c : Count) (all rest : List Item) : Type 0 where
  pub printed : Prints (count_text c) 1 (CountAgain c)
  pub few : length all ≡ 1 + length rest
  pub good : AllGood rest

pub counted_done : (c : Count) (all rest : List Item) → Counted Design all c rest → AllGood all → CountDone c all rest
counted_done c all rest (fixed value at stands is) good =
    subst (λ d. CountDone d all rest) (sym is) (record {
      printed = read_as {Q = CountAgain (count.Fixed value at)} (λ xs ys h. (count.Fixed value h.0, (fixed value h.0 h.1 refl, refl)))
          (number_printed value None (past_number stands good).0 tt);
      few = past_long stands;
      good = past_good stands good;
    })
counted_done c all rest (constant name at design read is) good =
    let p = past_name read good in
    subst (λ d. CountDone d all rest) (sym is) (record {
      printed = read_as {Q = CountAgain (count.Const (record { name = name; at = at }))}
          (λ xs ys h. (count.Const (record { name = name; at = h.0 }), (constant name h.0 refl h.1 refl, refl))) (name_printed name p.0);
      few = p.1.1;
      good = p.1.0;
    })

-- a reference
abbrev pub RefAgain : Ref → List Item → List Item → Type 0
RefAgain r all rest = (again : Ref) × (Reference Design all again rest × (placeless_ref again ≡ placeless_ref r))

pub record RefDone (r : Ref) (all rest : List Item) : Type 0 where
  pub printed : Prints (ref_text r) 1 (RefAgain r)
  pub few : length all ≡ 1 + length rest
  pub good : AllGood rest

pub ref_done : (r : Ref) (all rest : List Item) → Reference Design all r rest → AllGood all → RefDone r all rest
ref_done r all rest (plain name at read is) good =
    let p = past_name read good in
    subst (λ d. RefDone d all rest) (sym is) (record {
      printed = retext (sym (append-nil (name_text name))) refl (read_as {Q = RefAgain (record { source = false; path = name ∷ []; at = at })}
          (λ xs ys h. (record { source = false; path = name ∷ []; at = h.0 }, (plain name h.0 h.1 refl, refl))) (name_printed name p.0));
      few = p.1.1;
      good = p.1.0;
    })
ref_done r all rest (source path at first behind table stands word more is) good = absurd (table_is_none table)

-- how often a part stands there, wherever the part begins
abbrev pub TimesAgain : Count → List Item → List Item → Type 0
TimesAgain times all rest = (at : ℕ) → (again : Count) × (Times Design at all again rest × (placeless_count again ≡ placeless_count times))

pub record TimesDone (times : Count) (all rest : List Item) : Type 0 where
  pub count : ℕ
  pub printed : Prints (times_text times) count (TimesAgain times)
  pub few : count + length rest ≤ length all
  pub good : AllGood rest

repeated_again : (times : Count) (all rest : List Item) → Then (Passes s.Times) (CountAgain times) all rest → TimesAgain times all rest
repeated_again times all rest (behind, ((at, stands), (again, (read, same)))) = λ p. (again, (repeated behind stands read, same))

-- behind a "!"
repeated_done : (times : Count) (all behind rest : List Item) → length all ≡ 1 + length behind → CountDone times behind rest → TimesDone times all rest
repeated_done (count.Fixed value at) all behind rest long c = elim (cases_Bool (nat_eq value 1)) [
  | inl e ↦ (
      let one : value ≡ 1 = grind (arith, nat_tests) in
      let few = c.few in
      record {
        count = 0;
        printed = retext (rw e refl) refl (read_as {Q = TimesAgain (count.Fixed value at)}
            (λ xs ys h p. (count.Fixed 1 p, (once refl (sym h), ap (λ (n : ℕ). count.Fixed n 0) (sym one)))) nothing);
        few = omega arith;
        good = c.good;
      })
  | inr e ↦ (
      let few = c.few in
      record {
        count = 2;
        printed = retext (rw e refl) refl (read_as {Q = TimesAgain (count.Fixed value at)} (repeated_again (count.Fixed value at)) (bang and c.printed));
        few = omega arith;
        good = c.good;
      })
]
repeated_done (count.Const name) all behind rest long c =
    let few = c.few in
    record {
      count = 2;
      printed = read_as {Q = TimesAgain (count.Const name)} (repeated_again (count.Const name)) (bang and c.printed);
      few = omega arith;
      good = c.good;
    }

pub times_done : (at : ℕ) (times : Count) (all rest : List Item) → Times Design at all times rest → AllGood all → TimesDone times all rest
times_done at times all rest (once is none) good =
    let long : length rest ≡ length all = ap length none in
    subst (λ t. TimesDone t all rest) (sym is) (record {
      count = 0;
      printed = read_as {Q = TimesAgain (count.Fixed 1 at)} (λ xs ys h p. (count.Fixed 1 p, (once refl (sym h), refl))) nothing;
      few = omega arith;
      good = subst AllGood (sym none) good;
    })
times_done at times all rest (repeated behind stands read) good =
    repeated_done times all behind rest (past_long stands) (counted_done times behind rest read (past_good stands good))

-- what is made of a printed form that holds together as tightly as it must
pub made : (k : ℕ) (e : Tree) (n : ℕ) (all rest : List Item) → k ≤ tightness e → Printed e n → n + length rest ≤ length all → AllGood rest → Done k e all rest
made k e n all rest held p few good = record { count = n; printed = p; few = rw (count_held k (tightness e) n held) few; good = good }

pub at_zero : (e : Tree) (n : ℕ) → Printed e n → Prints (expr_text e) n (Again 0 e)
at_zero e n p = read_as {Q = Again 0 e} (lower_again (tightness e) 0 e (omega arith)) p

pub few_zero : {e : Tree} {all rest : List Item} (d : Done 0 e all rest) → d.count + length rest ≤ length all
few_zero {e = e} d = let f = d.few in let z = count_zero (tightness e) d.count in omega arith

pub choice_printed : (test first second : Tree) (n m l at : ℕ) → Printed test n → Printed first m → Printed second l →
    Printed (choice test first second at) (closed_count 1 (tightness test) n + (1 + (m + (1 + l))))
choice_printed test first second n m l at p q r = read_as {Q = Again 0 (choice test first second at)} again
    (closing test n 1 (omega arith) p and (arrow and (at_zero first m q and (colon and at_zero second l r))))
  where
    again : (all rest : List Item) → Then (Again 1 test) (Then (Passes s.Arrow) (Then (Again 0 first) (Then (Passes s.Colon) (Again 0 second)))) all rest →
        Again 0 (choice test first second at) all rest
    again all rest (m1, ((t, (rel, st)), (m2, ((pa, ar), (m3, ((f, (fe, sf)), (m4, ((pc, co), (g, (ge, sg)))))))))) =
        (choice t f g pa, (chosen m1 m2 m3 m4 rel ar fe co ge refl, rw (st, sf, sg) refl))

pub negation_printed : (arg : Tree) (n at : ℕ) → Printed arg n → Printed (negation arg at) (1 + closed_count 4 (tightness arg) n)
negation_printed arg n at p = read_as {Q = Again 4 (negation arg at)} again (tilde and closing arg n 4 (omega arith) p)
  where
    again : (all rest : List Item) → Then (Passes s.Not) (Again 4 arg) all rest → Again 4 (negation arg at) all rest
    again all rest (mid, ((pa, ti), (a, (fa, same)))) = (negation a pa, (negated mid ti fa refl, ap (λ x. negation x 0) same))

pub bit_printed : (r : Ref) (c : Count) (at : ℕ) → Prints (ref_text r) 1 (RefAgain r) → Prints (count_text c) 1 (CountAgain c) → Printed (bit r c at) 3
bit_printed r c at p q = read_as {Q = Again 4 (bit r c at)} again (p and (dot and q))
  where
    again : (all rest : List Item) → Then (RefAgain r) (Then (Passes s.Dot) (CountAgain c)) all rest → Again 4 (bit r c at) all rest
    again all rest (m1, ((r', (ref, sr)), (m2, ((pd, dt), (c', (cnt, sc)))))) =
        (bit r' c' pd, (one_bit m1 m2 ref dt cnt refl, ap₂ (λ x y. bit x y 0) sr sc))

pub slice_printed : (r : Ref) (c d : Count) (at : ℕ) → Prints (ref_text r) 1 (RefAgain r) → Prints (count_text c) 1 (CountAgain c) → Prints (count_text d) 1 (CountAgain d) → Printed (slice r c d at) 6
slice_printed r c d at p q t = read_as {Q = Again 4 (slice r c d at)} again (p and (open_bracket and (q and (colon and (t and close_bracket)))))
  where
    again : (all rest : List Item) → Then (RefAgain r) (Then (Passes s.OpenBracket) (Then (CountAgain c) (Then (Passes s.Colon) (Then (CountAgain d) (Passes s.CloseBracket))))) all rest →
        Again 4 (slice r c d at) all rest
    again all rest (m1, ((r', (ref, sr)), (m2, ((pb, ob), (m3, ((c', (cnt, sc)), (m4, ((pc, co), (m5, ((d', (dnt, sd)), (pe, cb))))))))))) =
        (slice r' c' d' pb, (sliced m1 m2 m3 m4 m5 ref ob cnt co dnt cb refl, rw (sr, sc, sd) refl))

pub index_printed : (r : Ref) (e : Tree) (n at : ℕ) → Prints (ref_text r) 1 (RefAgain r) → Printed e n → Printed (index r e at) (1 + (1 + (n + 1)))
index_printed r e n at p q = read_as {Q = Again 4 (index r e at)} again (p and (open_bracket and (at_zero e n q and close_bracket)))
  where
    again : (all rest : List Item) → Then (RefAgain r) (Then (Passes s.OpenBracket) (Then (Again 0 e) (Passes s.CloseBracket))) all rest → Again 4 (index r e at) all rest
    again all rest (m1, ((r', (ref, sr)), (m2, ((pb, ob), (m3, ((e', (expr, se)), (pe, cb))))))) =
        (index r' e' pb, (indexed m1 m2 m3 ref ob expr cb refl, ap₂ (λ x y. index x y 0) sr se))

pub shift_printed : (a b : Tree) (n m at : ℕ) (o : Op) (symbol : Symbol) → shift_of symbol ≡ Some o → Printed a n → Printed b m → Printed (binary o a b at) (1 + (1 + (n + (1 + (m + 1)))))
shift_printed a b n m at o symbol reads p q =
    retext text refl (subst (λ j. Prints (sign_text o ++ (codes "( " ++ (expr_text a ++ (codes ", " ++ (expr_text b ++ codes ") "))))) (1 + (1 + (n + (1 + (m + 1))))) (Again j (binary o a b at)))
    (sym is.tight) (read_as {Q = Again 4 (binary o a b at)} again (is.sign and (open_paren and (at_zero a n p and (comma and (at_zero b m q and close_paren)))))))
  where
    is : IsShift o symbol
    is = shift_is symbol o reads

    again : (all rest : List Item) → Then (Passes symbol) (Then (Passes s.OpenParen) (Then (Again 0 a) (Then (Passes s.Comma) (Then (Again 0 b) (Passes s.CloseParen))))) all rest →
        Again 4 (binary o a b at) all rest
    again all rest (m1, ((ps, st), (m2, ((po, opens), (m3, ((a', (ea, sa)), (m4, ((pc, co), (m5, ((b', (eb, sb)), (pe, cp))))))))))) =
        (binary o a' b' ps, (shifted m1 m2 m3 m4 m5 st reads opens ea co eb cp refl, ap₂ (λ (x y : Tree). binary o x y 0) sa sb))

    text : sign_text o ++ (codes "( " ++ (expr_text a ++ (codes ", " ++ (expr_text b ++ codes ") ")))) ≡ expr_text (binary o a b at)
    text = rw is.shift refl
