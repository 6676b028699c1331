-- One expression: at the front of one list two expressions that each end where no token goes on are the
-- same.
use Rattle.std.proofs.Common.{◌≡◌, ℕ, ◌<◌, ◌≤◌, true, false, List, [], ◌∷◌, ◌++◌, Some, None, refl, sym, ap, subst, ◌∙◌, arith}
use Rattle.lola_bits.specs.declared.op.Op.{Op}
use Rattle.lola_bits.specs.declared.op.Op.TheVariants as op
use Rattle.lola_tree.specs.declared.named.Named.{Named}
use Rattle.lola_tree.specs.declared.named.Count.{Count}
use Rattle.lola_tree.specs.declared.named.Count.TheVariants as count
use Rattle.lola_tree.specs.declared.named.Ref.{Ref}
use Rattle.lola_tree.specs.Tree.{Tree, bit, slice, index, concat, negation, Parts, no_part, one_part}
use Rattle.lola_parse.specs.declared.symbol.Symbol.{Symbol}
use Rattle.lola_parse.specs.declared.symbol.Symbol.TheVariants as s
use Rattle.lola_parse.specs.declared.symbol.Language.{Language}
use Rattle.lola_parse.specs.declared.symbol.Language.TheVariants.{Table}
use Rattle.lola_parse.specs.Symbols.{Item, is_number}
use Rattle.lola_parse.specs.Grammar.{Stands, Names, Words, Counted, fixed, constant, Path, no_word, one_word, Reference, plain, source, Times, once, repeated, Expression, one_rel, chosen, Rel, one_sum, related, Sum, sum, Terms, no_term, one_term, Term, term, Factors, no_factor, one_factor, Factor, negated, numbered, named, one_bit, sliced, indexed, joined, shifted, nested, OnePart, part, MoreParts, no_more, one_more, with_part, relation_of, adding_of, shift_of}
use Rattle.lola_parse.specs.Design.{Outermost}
use Rattle.lola_parse.specs.Behind.{NameRead, PartRead, Referred, SliceBegins, IndexBehind, ShiftBehind}
use Rattle.lola_parse.specs.MayEnd.{tightness, Closes, PathCloses, Sole}
use Rattle.lola_parse.specs.Read.{front, Stops, Anywhere}
use Rattle.lola_parse.proofs.Follow.{head, tail, one_front, name_stands, closes_at, closes_more, stops_closes}
use Rattle.lola_parse.proofs.Whole.{After, arrow_closes, expression_alone, expression_chosen, choice_made, sign_closes, rel_alone, rel_made, terms_close, sum_more, terms_none, terms_more, factors_close, term_more, factors_none, factors_more, times_close, times_once, times_count, part_times, part_value, parts_close, parts_none, parts_part, concat_first, brace_closes, nested_closes, index_closes, shift_close, shift_made, passes_on, pair_is}
use Rattle.lola_parse.proofs.Refer.{two_symbols, alone_closes, bit_closes, bracket_closes, referred_alone, referred_bit, referred_bracket, slice_only, index_only, index_not, slice_low, slice_close, FactorBy, factor_by}

-- a list doesn't go on before a symbol that is looser
not_at : {C : Type 0} {tight floor : ℕ} {symbol : Symbol} {all : List Item} → Closes tight floor all → tight ≤ tightness symbol → front all ≡ symbol → C
not_at {tight = tight} closes tighter is =
    let loose = subst (λ symbol. tightness symbol < tight) is closes.looser in
    absurd (omega arith)

loose_relation : (symbol : Symbol) → tightness symbol < 4 → relation_of symbol ≡ None
loose_relation s.Equal h = absurd (omega arith)
loose_relation s.Unequal h = absurd (omega arith)
loose_relation s.Less h = absurd (omega arith)
loose_relation s.AtMost h = absurd (omega arith)
loose_relation s.Greater h = absurd (omega arith)
loose_relation s.AtLeast h = absurd (omega arith)
loose_relation other h = refl

loose_adding : (symbol : Symbol) → tightness symbol < 5 → adding_of symbol ≡ None
loose_adding s.Plus h = absurd (omega arith)
loose_adding s.Minus h = absurd (omega arith)
loose_adding s.Or h = absurd (omega arith)
loose_adding s.Xor h = absurd (omega arith)
loose_adding other h = refl

pub after_one : {symbol : Symbol} {at : ℕ} {all behind : List Item} → Stands symbol at all behind → After symbol all behind
after_one stands = λ rest passed. (one_front stands passed.1).rest_is

pub name_one : {all behind : List Item} {n : Named} → NameRead all n behind → Sole (NameRead all) Anywhere n behind
name_one {n = n} read =
    λ m rest other k.
    let e = sym read.splits ∙ other.splits in
    let item = head _ _ _ _ e in
    let name = ap (λ (i : Item). i.spelled) item in
    let at = ap (λ (i : Item). i.at) item in
    (λ i. record { name = name i; at = at i }, tail _ _ _ _ e)

-- count
same_number : {l : Language} {all behind rest : List Item} {c d : Count} (value at : ℕ) → Stands (s.Number value None) at all behind → c ≡ count.Fixed value at →
    Counted l all d rest → (c ≡ d) × (behind ≡ rest)
same_number value at stands is (fixed other place stood of) =
    let f = one_front stands stood in
    let e : s.Number value None ≡ s.Number other None = f.symbol_is in
    let v : value ≡ other = cc in
    (is ∙ (ap (λ v. count.Fixed v at) v ∙ (ap (count.Fixed other) f.at_is ∙ sym of)), f.rest_is)
same_number value at stands is (constant name place design read of) = two_symbols stands (name_stands read) (λ e. cc)

same_name : {l : Language} {all behind rest : List Item} {c d : Count} (name : List ℕ) (at : ℕ) → Names name at all behind →
    c ≡ count.Const record { name = name; at = at } → Counted l all d rest → (c ≡ d) × (behind ≡ rest)
same_name name at read is (fixed value place stood of) = two_symbols (name_stands read) stood (λ e. cc)
same_name {rest = rest} name at read is (constant other place design again of) =
    let same = name_one {n = record { name = name; at = at }} read record { name = other; at = place } rest again tt in
    (is ∙ (ap count.Const same.0 ∙ sym of), same.1)

pub counted_one : {l : Language} {all behind : List Item} {c : Count} → Counted l all c behind → Sole (Counted l all) Anywhere c behind
counted_one (fixed value at stands is) = λ c rest other k. same_number value at stands is other
counted_one (constant name at design read is) = λ c rest other k. same_name name at read is other

times_one : {l : Language} {at : ℕ} {all behind : List Item} {c : Count} → Times l at all c behind → Closes 2 0 behind → Sole (Times l at all) (Closes 2 0) c behind
times_one (once is none) closes =
    λ c rest other k.
    let same = times_once other (λ e. not_at (subst (Closes 2 0) none closes) (omega arith) e) in
    (is ∙ same.0, none ∙ same.1)
times_one (repeated behind stands read) closes = λ c rest other k. counted_one read c rest (times_count other k stands) tt

-- "." word
word_one : {word text : List ℕ} {all behind rest : List Item} → Words word all behind → Words text all rest → (word ≡ text) × (behind ≡ rest)
word_one h k =
    let e = sym h.splits ∙ k.splits in
    (ap (λ (i : Item). i.spelled) (head _ _ _ _ e), tail _ _ _ _ e)

no_path : {C : Type 0} {word : List ℕ} {at : ℕ} {all dot behind : List Item} → PathCloses Table all → Stands s.Dot at all dot → Words word dot behind → C
no_path {at = at} {dot = dot} closes stands word =
    let is_one = closes refl dot (at, stands) in
    absurd (let e : true ≡ false = sym is_one ∙ (ap (λ all. is_number (front all)) word.splits ∙ word.no_number) in cc)

path_none : {before path other : List (List ℕ)} {all behind rest : List Item} → path ≡ before → behind ≡ all → PathCloses Table behind →
    Path before all other rest → (path ≡ other) × (behind ≡ rest)
path_none is none closes (no_word of end) = (is ∙ sym of, none ∙ sym end)
path_none is none closes (one_word dot behind stands word more) = no_path (subst (PathCloses Table) none closes) stands word

path_more : {before path other : List (List ℕ)} {word : List ℕ} {at : ℕ} {all dot next behind rest : List Item} → Stands s.Dot at all dot → Words word dot next →
    Path before all other rest → PathCloses Table rest → Sole (Path (before ++ word ∷ []) next) (PathCloses Table) path behind → (path ≡ other) × (behind ≡ rest)
path_more stands word (no_word of end) closes sole = no_path (subst (PathCloses Table) end closes) stands word
path_more {before = before} {other = other} {word = word} {dot = dot} {next = next} {rest = rest} stands text (one_word {word = more_text} first after stood again more) closes sole =
    let f = one_front stood stands in
    let w = word_one (subst (λ all. Words more_text all after) f.rest_is again) text in
    sole other rest (subst (λ w. Path (before ++ w ∷ []) next other rest) w.0 (subst (λ all. Path (before ++ more_text ∷ []) all other rest) w.1 more)) closes

path_one : {before path : List (List ℕ)} {all behind : List Item} → Path before all path behind → PathCloses Table behind →
    Sole (Path before all) (PathCloses Table) path behind
path_one (no_word is none) closes = λ other rest d k. path_none is none closes d
path_one (one_word dot behind stands word more) closes = λ other rest d k. path_more stands word d k (path_one more closes)

plain_one : {l : Language} {all behind rest : List Item} {r q : Ref} (name : List ℕ) (at : ℕ) → Names name at all behind →
    r ≡ record { source = false; path = name ∷ []; at = at } → Reference l all q rest → (r ≡ q) × (behind ≡ rest)
plain_one {rest = rest} name at read is (plain other place again of) =
    let same = name_one {n = record { name = name; at = at }} read record { name = other; at = place } rest again tt in
    (is ∙ (ap (λ (n : Named). record { source = false; path = n.name ∷ []; at = n.at }) same.0 ∙ sym of), same.1)
plain_one name at read is (source path place first behind table stands word more of) = two_symbols (name_stands read) stands (λ e. cc)

source_one : {l : Language} {all first next behind rest : List Item} {word : List ℕ} {path : List (List ℕ)} {r q : Ref} (at : ℕ) → l ≡ Table →
    Stands s.At at all first → Words word first next → Path (word ∷ []) next path behind → r ≡ record { source = true; path = path; at = at } →
    PathCloses l behind → Reference l all q rest → PathCloses l rest → (r ≡ q) × (behind ≡ rest)
source_one at table stands word more is closes (plain name place read of) k = two_symbols stands (name_stands read) (λ e. cc)
source_one {next = next} {behind = behind} {rest = rest} {word = word} {path = path} at table stands text more is closes
    (source {word = other_text} other place second after also stood again further of) k =
    let f = one_front stands stood in
    let w = word_one (subst (λ all. Words other_text all after) (sym f.rest_is) again) text in
    let moved = subst (λ w. Path (w ∷ []) next other rest) w.0 (subst (λ all. Path (other_text ∷ []) all other rest) w.1 further) in
    let same = path_one more (subst (λ l. PathCloses l behind) table closes) other rest moved (subst (λ l. PathCloses l rest) table k) in
    (is ∙ (ap (λ p. record { source = true; path = p; at = at }) same.0 ∙ (ap (λ at. record { source = true; path = other; at = at }) f.at_is ∙ sym of)), same.1)

reference_one : {l : Language} {all behind : List Item} {r : Ref} → Reference l all r behind → PathCloses l behind → Sole (Reference l all) (PathCloses l) r behind
reference_one (plain name at read is) closes = λ q rest d k. plain_one name at read is d
reference_one (source path at first behind table stands word more is) closes = λ q rest d k. source_one at table stands word more is closes d k

refers : {l : Language} {all rest more : List Item} {e : Tree} {of : Ref} → Reference l all of more → Factor l all e rest → Referred l all e rest
refers (plain name at read is) d = factor_by d (name_stands read)
refers (source path at first behind table stands word more is) d = factor_by d stands

shifts : (l : Language) (all first rest : List Item) (e : Tree) (at : ℕ) (symbol : Symbol) (o : Op) → shift_of symbol ≡ Some o → FactorBy l symbol at all first e rest →
    ShiftBehind l o at first e rest
shifts l all first rest e at s.Shl o is h = let same : op.Shl ≡ o = cc in subst (λ o. ShiftBehind l o at first e rest) same h
shifts l all first rest e at s.Shr o is h = let same : op.Shr ≡ o = cc in subst (λ o. ShiftBehind l o at first e rest) same h
shifts l all first rest e at s.Asr o is h = let same : op.Asr ≡ o = cc in subst (λ o. ShiftBehind l o at first e rest) same h
shifts l all first rest e at s.Ror o is h = let same : op.Ror ≡ o = cc in subst (λ o. ShiftBehind l o at first e rest) same h
shifts l all first rest e at other o is h = absurd (let e : None ≡ Some o = is in cc)

shift_is : {l : Language} {all first rest : List Item} {e : Tree} {at : ℕ} {symbol : Symbol} {o : Op} → Factor l all e rest → Stands symbol at all first →
    shift_of symbol ≡ Some o → ShiftBehind l o at first e rest
shift_is {l = l} {all = all} {first = first} {rest = rest} {e = e} {at = at} {symbol = symbol} {o = o} d stands is =
    shifts l all first rest e at symbol o is (factor_by d stands)

closed : {symbol : Symbol} {at tight : ℕ} {all behind : List Item} → Stands symbol at all behind → tightness symbol < tight → Closes tight 0 all
closed stands loose = closes_at stands loose (omega arith)

mutual
  pub expression_one : {l : Language} {all b : List Item} {t : Tree} → Expression l all t b → Closes 3 0 b → Sole (Expression l all) (Closes 3 0) t b
  expression_one (one_rel read) closes =
      λ e rest d k. expression_alone d k (rel_one read (closes_more closes (omega arith))) (λ is. not_at closes (omega arith) is)
  expression_one (chosen arrow arm colon other_arm test a first c second is) closes =
      λ e rest d k.
      let h = expression_chosen d k (rel_one test (arrow_closes a first c second closes)) a in
      choice_made h k (expression_one first (closed c (omega arith))) (after_one c) (expression_one second closes) is

  rel_one : {l : Language} {all b : List Item} {t : Tree} → Rel l all t b → Closes 4 0 b → Sole (Rel l all) (Closes 4 0) t b
  rel_one {b = b} (one_sum read) closes =
      λ e rest d k. rel_alone d k (sum_one read (closes_more closes (omega arith))) (loose_relation (front b) closes.looser)
  rel_one (related sign behind first stands op second is) closes =
      λ e rest d k. rel_made d k (sum_one first (sign_closes stands op second closes)) stands op (sum_one second (closes_more closes (omega arith))) is

  sum_one : {l : Language} {all b : List Item} {t : Tree} → Sum l all t b → Closes 5 0 b → Sole (Sum l all) (Closes 5 0) t b
  sum_one (sum behind first more) closes = λ e rest d k. terms_one more closes e rest (sum_more d k (term_one first (terms_close more closes))) k

  terms_one : {l : Language} {all b : List Item} {a t : Tree} → Terms l a all t b → Closes 5 0 b → Sole (Terms l a all) (Closes 5 0) t b
  terms_one {all = all} (no_term is none) closes =
      λ e rest d k.
      let here = subst (Closes 5 0) none closes in
      let same = terms_none d (loose_adding (front all) here.looser) in
      (is ∙ same.0, none ∙ same.1)
  terms_one (one_term first behind stands op read more) closes =
      λ e rest d k. terms_one more closes e rest (terms_more d k stands op (term_one read (terms_close more closes)) refl) k

  term_one : {l : Language} {all b : List Item} {t : Tree} → Term l all t b → Closes 6 0 b → Sole (Term l all) (Closes 6 0) t b
  term_one (term behind first more) closes = λ e rest d k. factors_one more closes e rest (term_more d k (factor_one first (factors_close more closes))) k

  factors_one : {l : Language} {all b : List Item} {a t : Tree} → Factors l a all t b → Closes 6 0 b → Sole (Factors l a all) (Closes 6 0) t b
  factors_one (no_factor is none) closes =
      λ e rest d k.
      let here = subst (Closes 6 0) none closes in
      let same = factors_none d (λ e. not_at here (omega arith) e) in
      (is ∙ same.0, none ∙ same.1)
  factors_one (one_factor first behind stands read more) closes =
      λ e rest d k. factors_one more closes e rest (factors_more d k stands (factor_one read (factors_close more closes)) refl) k

  factor_one : {l : Language} {all b : List Item} {t : Tree} → Factor l all t b → Closes 7 0 b → Sole (Factor l all) (Closes 7 0) t b
  factor_one (negated {at = at} behind stands arg is) closes =
      λ e rest d k.
      let h = factor_by d stands in
      let same = factor_one arg closes h.arg rest h.arg_read k in
      (is ∙ (ap (λ a. negation a at) same.0 ∙ sym h.tree_is), same.1)
  factor_one (numbered stands is) closes = λ e rest d k. let same = factor_by d stands in (is ∙ same.0, same.1)
  factor_one (named read is) closes =
      λ e rest d k.
      let same = referred_alone (refers read d) k (reference_one read (alone_closes closes)) (λ e. not_at closes (omega arith) e) (λ e. not_at closes (omega arith) e) in
      (is ∙ same.0, same.1)
  factor_one (one_bit {of = of} {at = at} dot behind read stands counted is) closes =
      λ e rest d k.
      let h = referred_bit (refers read d) k (reference_one read (bit_closes stands counted)) stands in
      let same = counted_one counted h.place rest h.counted tt in
      (is ∙ (ap (λ p. bit of p at) same.0 ∙ sym h.tree_is), same.1)
  factor_one (sliced {of = of} {high = high} {low = low} {at = at} bracket first colon second close read opens high_read c low_read end is) closes =
      λ e rest d k.
      let begins : SliceBegins _ first = record { place = high; colon = colon; behind = second; counted = high_read; passed = (_, c) } in
      let h = slice_only (referred_bracket (refers read d) k (reference_one read (bracket_closes opens)) opens) begins in
      let one = counted_one high_read h.high h.colon h.high_read tt in
      let two = counted_one low_read h.low h.close (slice_low h (counted_one high_read) (after_one c)) tt in (
        is ∙ (ap (λ p. slice of p low at) one.0 ∙ (ap (λ p. slice of h.high p at) two.0 ∙ sym h.tree_is)),
        after_one end rest (slice_close h (counted_one high_read) (after_one c) (counted_one low_read)),
      )
  factor_one (indexed {place = place} {of = of} {at = at} bracket first close read opens inner end is) closes =
      λ e rest d k.
      let own : IndexBehind _ of at first (index of place at) _ = record { place = place; close = close; place_read = inner; close_passed = (_, end); tree_is = refl } in
      let h = index_only (referred_bracket (refers read d) k (reference_one read (bracket_closes opens)) opens) (index_not own) in
      let same = expression_one inner (closed end (omega arith)) h.place h.close h.place_read (index_closes h (omega arith)) in
      (is ∙ (ap (λ p. index of p at) same.0 ∙ sym h.tree_is), after_one end rest (passes_on same.1 h.close_passed))
  factor_one {l = l} (joined {a = a} {times = times} {parts = parts} {at = at} first behind close stands value more end is) closes =
      λ e rest d k.
      let h = factor_by d stands in
      let own : Closes 1 0 close = closed end (omega arith) in
      let one = part_one value (parts_close more own) (h.value, h.times) h.behind h.first_read (concat_first h (omega arith)) in
      let only = ap (λ (q : Tree × Count). one_part q.0 q.1 no_part) (sym one.0) in
      let further = subst (λ m. MoreParts l m behind h.parts h.close) only
      (subst (λ b. MoreParts l (one_part h.value h.times no_part) b h.parts h.close) (sym one.1) h.more_read) in
      let same = parts_one more own h.parts h.close further (brace_closes h (omega arith)) in
      (is ∙ (ap (λ ps. concat ps at) same.0 ∙ sym h.tree_is), after_one end rest (passes_on same.1 h.close_passed))
  factor_one (shifted paren first comma second close stands op begin value c by end is) closes =
      λ e rest d k.
      let h = shift_is d stands op in
      let one = expression_one value (closed c (omega arith)) in
      let two = expression_one by (closed end (omega arith)) in (
        shift_made h (omega arith) (after_one begin) one (after_one c) two is,
        after_one end rest (shift_close h (omega arith) (after_one begin) one (after_one c) two),
      )
  factor_one (nested first close stands inner end) closes =
      λ e rest d k.
      let h = factor_by d stands in
      let same = expression_one inner (closed end (omega arith)) e h.close h.inner_read (nested_closes h (omega arith)) in
      (same.0, after_one end rest (passes_on same.1 h.close_passed))

  part_one : {l : Language} {all b : List Item} {e : Tree} {times : Count} → OnePart l all e times b → Closes 2 0 b → Sole (PartRead l all) (Closes 2 0) (e, times) b
  part_one (part behind value times) closes =
      λ p rest d k.
      let one = expression_one value (times_close times closes) in
      let same = times_one times closes p.1 rest (part_times d k one refl) k in
      (pair_is (part_value d k one) same.0, same.1)

  parts_one : {l : Language} {all b : List Item} {before parts : Parts} → MoreParts l before all parts b → Closes 1 0 b → Sole (MoreParts l before all) (Closes 1 0) parts b
  parts_one (no_more is none) closes =
      λ ps rest d k.
      let here = subst (Closes 1 0) none closes in
      let same = parts_none d (λ e. not_at here (omega arith) e) in
      (is ∙ same.0, none ∙ same.1)
  parts_one {l = l} {before = before} (one_more {e = e} {times = times} first behind stands value more) closes =
      λ ps rest d k.
      let w = parts_part d k stands in
      let same = part_one value (parts_close more closes) w.0 w.1 w.2 w.3 in
      let longer = ap (λ (q : Tree × Count). with_part before q.0 q.1) (sym same.0) in
      parts_one more closes ps rest
      (subst (λ m. MoreParts l m behind ps rest) longer (subst (λ b. MoreParts l (with_part before w.0.0 w.0.1) b ps rest) (sym same.1) w.4)) k

pub outermost_one : {l : Language} {all b : List Item} {t : Tree} → Outermost l all t b → Stops b → Sole (Outermost l all) Stops t b
outermost_one read stops = λ e rest d k. expression_one read.expr (stops_closes stops (omega arith)) e rest d.expr (stops_closes k (omega arith))
