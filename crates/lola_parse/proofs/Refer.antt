-- Where a reference stands at the front and may end, its reader can only find its parts.
use Rattle.std.proofs.Common.{◌≡◌, ℕ, true, false, ◌⊎◌, inl, inr, List, [], ◌∷◌, ◌++◌, Option, Some, None, refl, sym, ap, subst, ◌∙◌, arith}
use Rattle.lola_bits.specs.declared.op.Op.{Op}
use Rattle.lola_bits.specs.declared.op.Op.TheVariants as op
use Rattle.lola_tree.specs.declared.named.Count.{Count}
use Rattle.lola_tree.specs.declared.named.Ref.{Ref}
use Rattle.lola_tree.specs.Tree.{Tree, number, whole}
use Rattle.lola_parse.specs.declared.symbol.Symbol.{Symbol}
use Rattle.lola_parse.specs.declared.symbol.Symbol.TheVariants as s
use Rattle.lola_parse.specs.declared.symbol.Language.{Language}
use Rattle.lola_parse.specs.declared.symbol.Language.TheVariants.{Design, Table}
use Rattle.lola_parse.specs.declared.cursor.Next.{Next}
use Rattle.lola_parse.specs.Symbols.{Item, is_number}
use Rattle.lola_parse.specs.Grammar.{Stands, Passes, Names, Words, Counted, fixed, constant, Path, no_word, one_word, Reference, plain, source, Expression, one_rel, chosen, Rel, one_sum, related, Sum, sum, Terms, no_term, one_term, Term, term, Factors, no_factor, one_factor, Factor, negated, numbered, named, one_bit, sliced, indexed, joined, shifted, nested, relation_of, adding_of, shift_of}
use Rattle.lola_parse.specs.Behind.{PathBehind, BitBehind, SliceBehind, SliceBegins, IndexBehind, NegationBehind, NestedBehind, ShiftBehind, ConcatBehind, Referred, alone, with_bit, with_slice, with_index}
use Rattle.lola_parse.specs.MayEnd.{Closes, PathCloses, Sole}
use Rattle.lola_parse.specs.Read.{front, Anywhere}
use Rattle.lola_parse.proofs.Fronts.{IsNextOf, stands, names}
use Rattle.lola_parse.proofs.Follow.{moved, head, tail, one_front, name_stands, front_is, no_close}
use Rattle.lola_parse.proofs.Whole.{After, next_is}

-- two symbols don't stand at one front
pub two_symbols : {C : Type 0} {symbol other : Symbol} {at place : ℕ} {all rest more : List Item} → Stands symbol at all rest → Stands other place all more →
    (symbol ≡ other → ⊥) → C
two_symbols one two not = absurd (not (one_front one two).symbol_is)

pub word_is : {word : List ℕ} {rest : List Item} (all : List Item) (n : Next) → IsNextOf all n → Words word all rest →
    (n.is_word ≡ true) × (word ≡ n.spelled.now) × (rest ≡ n.rest)
word_is [] n next h = absurd (let e = h.splits in cc)
word_is (item ∷ more) n next h =
    let same = sym next.0 ∙ head _ _ _ _ h.splits in
    (ap (λ (i : Item). i.is_word) same, sym (ap (λ (i : Item). i.spelled) same), sym (tail _ _ _ _ h.splits) ∙ next.1)

no_word_number : (all : List Item) (n : Next) → IsNextOf all n → n.is_word ≡ true → is_number (front all) ≡ false
no_word_number [] n next is = refl
no_word_number (item ∷ more) n next is = ap (λ (i : Item). is_number i.symbol) next.0 ∙ next.2 is

-- {"." word}
pub path_over : {before path : List (List ℕ)} {all rest : List Item} → Path before all path rest → (front all ≡ s.Dot → ⊥) → (before ≡ path) × (all ≡ rest)
path_over (no_word is none) over = (sym is, sym none)
path_over (one_word dot behind stands word more) over = absurd (over (front_is stands))

pub path_no_word : {before path : List (List ℕ)} {all rest dot : List Item} {at : ℕ} (n : Next) → Path before all path rest → Stands s.Dot at all dot →
    IsNextOf dot n → n.is_word ≡ false → (before ≡ path) × (all ≡ rest)
path_no_word n (no_word is none) stands next not = (sym is, sym none)
path_no_word {dot = dot} n (one_word {word = text} first behind stood word more) stands next not =
    let f = one_front stood stands in
    let w = word_is dot n next (subst (λ all. Words text all behind) f.rest_is word) in
    absurd (let e : true ≡ false = sym w.0 ∙ not in cc)

pub path_word : {before path : List (List ℕ)} {all rest dot : List Item} {at : ℕ} (n : Next) → Path before all path rest → PathCloses Table rest →
    Stands s.Dot at all dot → IsNextOf dot n → n.is_word ≡ true → Path (before ++ n.spelled.now ∷ []) n.rest path rest
path_word {dot = dot} {at = at} n (no_word is none) closes stands next is_word =
    let is_one = closes refl dot (at, subst (λ all. Stands s.Dot at all dot) (sym none) stands) in
    absurd (let e : true ≡ false = sym is_one ∙ no_word_number dot n next is_word in cc)
path_word {before = before} {path = path} {rest = rest} {dot = dot} n (one_word {word = text} first behind stood word more) closes stands next is_word =
    let f = one_front stood stands in
    let w = word_is dot n next (subst (λ all. Words text all behind) f.rest_is word) in
    subst (λ text. Path (before ++ text ∷ []) n.rest path rest) w.1 (subst (λ all. Path (before ++ text ∷ []) all path rest) w.2 more)

-- a word that was put at the end is a copy of that in the text
pub pushed_is : {longer : List (List ℕ)} (before : List (List ℕ)) (copy word : List ℕ) → longer ≡ before ++ copy ∷ [] → copy ≡ word → longer ≡ before ++ word ∷ []
pushed_is before copy word is same = is ∙ ap (λ w. before ++ w ∷ []) same

-- ref
pub reference_path : {l : Language} {all rest first : List Item} {r : Ref} {at : ℕ} → Reference l all r rest → Stands s.At at all first →
    (path : List (List ℕ)) × (PathBehind first path rest) × (r ≡ record { source = true; path = path; at = at })
reference_path (plain name place read is) stands = two_symbols (name_stands read) stands (λ e. cc)
reference_path {all = all} {rest = rest} {r = r} {at = at} (source {word = text} path place first behind table stood word more is) stands =
    let f = one_front stood stands in (
      path,
      record { word = text; behind = behind; first = subst (λ all. Words text all behind) f.rest_is word; more = more },
      is ∙ ap (λ at. record { source = true; path = path; at = at }) f.at_is,
    )

pub count_none : {l : Language} {all rest : List Item} {c : Count} (n : Next) → IsNextOf all n → ((value : ℕ) (width : Option ℕ) → n.symbol ≡ s.Number value width → ⊥) →
    (n.symbol ≡ s.Name → ⊥) → Counted l all c rest → ⊥
count_none {all = all} n next counts name (fixed value at stood is) = counts value None (sym (next_is all n next stood).symbol_is)
count_none {all = all} n next counts name (constant text at design read is) = name (sym (next_is all n next (name_stands read)).symbol_is)

pub reference_none : {l : Language} {all rest : List Item} {r : Ref} (n : Next) → IsNextOf all n → (n.symbol ≡ s.Name → ⊥) → (n.symbol ≡ s.At → ⊥) →
    Reference l all r rest → ⊥
reference_none {all = all} n next name mark (plain text at read is) = name (sym (next_is all n next (name_stands read)).symbol_is)
reference_none {all = all} n next name mark (source path at first behind table stood word more is) = mark (sym (next_is all n next stood).symbol_is)

pub alone_closes : {l : Language} {rest : List Item} {floor : ℕ} → Closes 7 floor rest → PathCloses l rest
alone_closes closes = λ table first passes. no_close passes.1 (omega arith) closes

pub bit_closes : {l : Language} {dot behind rest : List Item} {place : Count} {at : ℕ} → Stands s.Dot at dot behind → Counted l behind place rest → PathCloses l dot
bit_closes stands (fixed value at read is) =
    λ table first passes. let f = one_front passes.1 stands in ap (λ all. is_number (front all)) f.rest_is ∙ ap is_number (front_is read)
bit_closes stands (constant name at design read is) = λ table first passes. absurd (let e : Design ≡ Table = sym design ∙ table in cc)

pub bracket_closes : {l : Language} {bracket behind : List Item} {at : ℕ} → Stands s.OpenBracket at bracket behind → PathCloses l bracket
bracket_closes stands = λ table first passes. two_symbols stands passes.1 (λ e. cc)

pub referred_begins : {l : Language} {all rest : List Item} {e : Tree} {floor : ℕ} → Referred l all e rest → Closes 7 floor rest →
    (of : Ref) × (more : List Item) × (Reference l all of more) × PathCloses l more
referred_begins {rest = rest} (alone of read is) closes = (of, rest, read, alone_closes closes)
referred_begins (with_bit of dot behind read stands h) closes = (of, dot, read, bit_closes stands h.counted)
referred_begins (with_slice of bracket behind read stands h) closes = (of, bracket, read, bracket_closes stands)
referred_begins (with_index of bracket behind read stands h) closes = (of, bracket, read, bracket_closes stands)

pub referred_alone : {l : Language} {all rest b : List Item} {e : Tree} {r : Ref} {floor : ℕ} → Referred l all e rest → Closes 7 floor rest →
    Sole (Reference l all) (PathCloses l) r b → (front b ≡ s.Dot → ⊥) → (front b ≡ s.OpenBracket → ⊥) → (whole r ≡ e) × (b ≡ rest)
referred_alone (alone of read is) closes sole no_dot no_bracket =
    let same = sole _ _ read (alone_closes closes) in
    (ap whole same.0 ∙ sym is, same.1)
referred_alone (with_bit of dot behind read stands h) closes sole no_dot no_bracket =
    absurd (no_dot (ap front (sole _ _ read (bit_closes stands h.counted)).1 ∙ front_is stands))
referred_alone (with_slice of bracket behind read stands h) closes sole no_dot no_bracket =
    absurd (no_bracket (ap front (sole _ _ read (bracket_closes stands)).1 ∙ front_is stands))
referred_alone (with_index of bracket behind read stands h) closes sole no_dot no_bracket =
    absurd (no_bracket (ap front (sole _ _ read (bracket_closes stands)).1 ∙ front_is stands))

pub referred_bit : {l : Language} {all rest b first : List Item} {e : Tree} {r : Ref} {floor at : ℕ} → Referred l all e rest → Closes 7 floor rest →
    Sole (Reference l all) (PathCloses l) r b → Stands s.Dot at b first → BitBehind l r at first e rest
referred_bit (alone of read is) closes sole stands = no_close (moved (sole _ _ read (alone_closes closes)).1 stands) (omega arith) closes
referred_bit {l = l} {rest = rest} {first = first} {e = e} {r = r} {at = at} (with_bit {at = place} of dot behind read stood h) closes sole stands =
    let same = sole _ _ read (bit_closes stood h.counted) in
    let f = one_front stood (moved same.1 stands) in
    subst (λ r. BitBehind l r at first e rest) (sym same.0)
    (subst (λ at. BitBehind l of at first e rest) f.at_is (subst (λ all. BitBehind l of place all e rest) f.rest_is h))
referred_bit (with_slice of bracket behind read stood h) closes sole stands =
    two_symbols stood (moved (sole _ _ read (bracket_closes stood)).1 stands) (λ e. cc)
referred_bit (with_index of bracket behind read stood h) closes sole stands =
    two_symbols stood (moved (sole _ _ read (bracket_closes stood)).1 stands) (λ e. cc)

pub referred_bracket : {l : Language} {all rest b first : List Item} {e : Tree} {r : Ref} {floor at : ℕ} → Referred l all e rest → Closes 7 floor rest →
    Sole (Reference l all) (PathCloses l) r b → Stands s.OpenBracket at b first → SliceBehind l r at first e rest ⊎ IndexBehind l r at first e rest
referred_bracket (alone of read is) closes sole stands = no_close (moved (sole _ _ read (alone_closes closes)).1 stands) (omega arith) closes
referred_bracket (with_bit of dot behind read stood h) closes sole stands =
    two_symbols stood (moved (sole _ _ read (bit_closes stood h.counted)).1 stands) (λ e. cc)
referred_bracket {l = l} {rest = rest} {first = first} {e = e} {r = r} {at = at} (with_slice {at = place} of bracket behind read stood h) closes sole stands =
    let same = sole _ _ read (bracket_closes stood) in
    let f = one_front stood (moved same.1 stands) in
    inl (subst (λ r. SliceBehind l r at first e rest) (sym same.0)
    (subst (λ at. SliceBehind l of at first e rest) f.at_is (subst (λ all. SliceBehind l of place all e rest) f.rest_is h)))
referred_bracket {l = l} {rest = rest} {first = first} {e = e} {r = r} {at = at} (with_index {at = place} of bracket behind read stood h) closes sole stands =
    let same = sole _ _ read (bracket_closes stood) in
    let f = one_front stood (moved same.1 stands) in
    inr (subst (λ r. IndexBehind l r at first e rest) (sym same.0)
    (subst (λ at. IndexBehind l of at first e rest) f.at_is (subst (λ all. IndexBehind l of place all e rest) f.rest_is h)))

-- what a factor is by the symbol at its front
abbrev pub FactorBy : Language → Symbol → ℕ → List Item → List Item → Tree → List Item → Type 0
FactorBy l (s.Number value width) at all first e rest = (number value width at ≡ e) × (first ≡ rest)
FactorBy l s.Not at all first e rest = NegationBehind l at first e rest
FactorBy l s.OpenBrace at all first e rest = ConcatBehind l at first e rest
FactorBy l s.OpenParen at all first e rest = NestedBehind l first e rest
FactorBy l s.Name at all first e rest = Referred l all e rest
FactorBy l s.At at all first e rest = Referred l all e rest
FactorBy l s.Shl at all first e rest = ShiftBehind l op.Shl at first e rest
FactorBy l s.Shr at all first e rest = ShiftBehind l op.Shr at first e rest
FactorBy l s.Asr at all first e rest = ShiftBehind l op.Asr at first e rest
FactorBy l s.Ror at all first e rest = ShiftBehind l op.Ror at first e rest
FactorBy l other at all first e rest = ⊥

abbrev Split : Language → List Item → Tree → List Item → Type 0
Split l all e rest = (symbol : Symbol) × (at : ℕ) × (first : List Item) × (Stands symbol at all first) × FactorBy l symbol at all first e rest

refers : {l : Language} {all rest more : List Item} {e : Tree} {of : Ref} → Reference l all of more → Referred l all e rest → Split l all e rest
refers {more = more} (plain name at read is) h = (s.Name, at, more, name_stands read, h)
refers (source path at first behind table stands word more is) h = (s.At, at, first, stands, h)

shifts : {l : Language} {first rest : List Item} {e : Tree} {at : ℕ} (all : List Item) (symbol : Symbol) (o : Op) → shift_of symbol ≡ Some o → ShiftBehind l o at first e rest →
    FactorBy l symbol at all first e rest
shifts {l = l} {first = first} {rest = rest} {e = e} {at = at} all s.Shl o is h = let same : o ≡ op.Shl = cc in subst (λ o. ShiftBehind l o at first e rest) same h
shifts {l = l} {first = first} {rest = rest} {e = e} {at = at} all s.Shr o is h = let same : o ≡ op.Shr = cc in subst (λ o. ShiftBehind l o at first e rest) same h
shifts {l = l} {first = first} {rest = rest} {e = e} {at = at} all s.Asr o is h = let same : o ≡ op.Asr = cc in subst (λ o. ShiftBehind l o at first e rest) same h
shifts {l = l} {first = first} {rest = rest} {e = e} {at = at} all s.Ror o is h = let same : o ≡ op.Ror = cc in subst (λ o. ShiftBehind l o at first e rest) same h
shifts all other o is h = absurd (let e : None ≡ Some o = is in cc)

split : {l : Language} {all rest : List Item} {e : Tree} → Factor l all e rest → Split l all e rest
split (negated {a = a} {at = at} behind stands arg is) = (s.Not, at, behind, stands, record { arg = a; arg_read = arg; tree_is = is })
split {rest = rest} (numbered {value = value} {at = at} {width = width} stands is) = (s.Number value width, at, rest, stands, (sym is, refl))
split (named {of = of} read is) = refers read (alone of read is)
split (one_bit {of = of} {place = place} dot behind read stands counted is) =
    refers read (with_bit of dot behind read stands record { place = place; counted = counted; tree_is = is })
split (sliced {of = of} {high = high} {low = low} bracket first colon second close read opens high_read c low_read end is) =
    refers read (with_slice of bracket first read opens record {
      high = high;
      low = low;
      colon = colon;
      second = second;
      close = close;
      high_read = high_read;
      colon_passed = (_, c);
      low_read = low_read;
      close_passed = (_, end);
      tree_is = is;
    })
split (indexed {place = place} {of = of} bracket first close read opens inner end is) =
    refers read (with_index of bracket first read opens record { place = place; close = close; place_read = inner; close_passed = (_, end); tree_is = is })
split (joined {a = a} {times = times} {parts = parts} {at = at} first behind close stands value more end is) = (
  s.OpenBrace,
  at,
  first,
  stands,
  record {
    value = a;
    times = times;
    parts = parts;
    behind = behind;
    close = close;
    first_read = value;
    more_read = more;
    close_passed = (_, end);
    tree_is = is;
  },
)
split (shifted {a = a} {b = b} {symbol = symbol} {o = o} {at = at} paren first comma second close stands with begin value c by end is) = (
  symbol,
  at,
  paren,
  stands,
  shifts _ symbol o with record {
    value = a;
    by = b;
    first = first;
    comma = comma;
    second = second;
    close = close;
    open_passed = (_, begin);
    value_read = value;
    comma_passed = (_, c);
    by_read = by;
    close_passed = (_, end);
    tree_is = is;
  },
)
split (nested {open_at = at} first close stands inner end) =
    (s.OpenParen, at, first, stands, record { close = close; inner_read = inner; close_passed = (_, end) })

pub factor_by : {l : Language} {all rest first : List Item} {e : Tree} {symbol : Symbol} {at : ℕ} → Factor l all e rest → Stands symbol at all first →
    FactorBy l symbol at all first e rest
factor_by {l = l} {all = all} {rest = rest} {first = first} {e = e} {symbol = symbol} {at = at} read stands =
    let w = split read in
    let f = one_front w.3 stands in
    subst (λ first. FactorBy l symbol at all first e rest) f.rest_is
    (subst (λ at. FactorBy l symbol at all w.2 e rest) f.at_is (subst (λ symbol. FactorBy l symbol w.1 all w.2 e rest) f.symbol_is w.4))

pub factor_next : {l : Language} {all rest : List Item} {e : Tree} {symbol : Symbol} (n : Next) → IsNextOf all n → n.symbol ≡ symbol → Factor l all e rest →
    FactorBy l symbol n.at all n.rest e rest
factor_next {l = l} {all = all} {rest = rest} {e = e} {symbol = symbol} n next is read =
    let w = split read in
    let f = next_is all n next w.3 in
    subst (λ first. FactorBy l symbol n.at all first e rest) f.rest_is
    (subst (λ at. FactorBy l symbol at all w.2 e rest) f.at_is (subst (λ symbol. FactorBy l symbol w.1 all w.2 e rest) (f.symbol_is ∙ is) w.4))

-- count ":" count "]", behind the "[" of a slice
pub slice_colon : {l : Language} {of : Ref} {all rest b : List Item} {e : Tree} {high : Count} {at : ℕ} (h : SliceBehind l of at all e rest) →
    Sole (Counted l all) Anywhere high b → Passes s.Colon b h.second
slice_colon h sole = subst (λ all. Passes s.Colon all h.second) (sym (sole _ _ h.high_read tt).1) h.colon_passed

pub slice_low : {l : Language} {of : Ref} {all rest b r : List Item} {e : Tree} {high : Count} {at : ℕ} (h : SliceBehind l of at all e rest) →
    Sole (Counted l all) Anywhere high b → After s.Colon b r → Counted l r h.low h.close
slice_low {l = l} h sole after = subst (λ all. Counted l all h.low h.close) (sym (after _ (slice_colon h sole))) h.low_read

pub slice_close : {l : Language} {of : Ref} {all rest b r more : List Item} {e : Tree} {high low : Count} {at : ℕ} (h : SliceBehind l of at all e rest) →
    Sole (Counted l all) Anywhere high b → After s.Colon b r → Sole (Counted l r) Anywhere low more → Passes s.CloseBracket more rest
slice_close {rest = rest} h sole after second =
    subst (λ all. Passes s.CloseBracket all rest) (sym (second _ _ (slice_low h sole after) tt).1) h.close_passed

-- a count with a ":" behind it is no expression that goes on
design_name : {l : Language} {all rest more : List Item} {name : List ℕ} {of : Ref} {at : ℕ} → Names name at all rest → Reference l all of more → more ≡ rest
design_name name (plain text at read is) = (one_front (name_stands read) (name_stands name)).rest_is
design_name name (source path at first behind table stands word more is) = two_symbols stands (name_stands name) (λ e. cc)

no_symbol : {C : Type 0} {symbol other : Symbol} {at : ℕ} {all rest : List Item} → Stands symbol at all rest → front all ≡ other → (symbol ≡ other → ⊥) → C
no_symbol stands e not = absurd (not (sym (front_is stands) ∙ e))

colon_referred : {l : Language} {all colon rest : List Item} {e : Tree} {name : List ℕ} {at : ℕ} → Names name at all colon → front colon ≡ s.Colon →
    Referred l all e rest → rest ≡ colon
colon_referred name is (alone of read e) = design_name name read
colon_referred name is (with_bit of dot behind read stands h) = no_symbol stands (ap front (design_name name read) ∙ is) (λ e. cc)
colon_referred name is (with_slice of bracket behind read stands h) = no_symbol stands (ap front (design_name name read) ∙ is) (λ e. cc)
colon_referred name is (with_index of bracket behind read stands h) = no_symbol stands (ap front (design_name name read) ∙ is) (λ e. cc)

colon_factor : {l : Language} {all colon rest : List Item} {c : Count} {e : Tree} → Counted l all c colon → front colon ≡ s.Colon → Factor l all e rest → rest ≡ colon
colon_factor (fixed value at stood of) is read = sym (factor_by read stood).1
colon_factor (constant name at design here of) is read = colon_referred here is (factor_by read (name_stands here))

colon_factors : {l : Language} {all rest : List Item} {a e : Tree} → front all ≡ s.Colon → Factors l a all e rest → rest ≡ all
colon_factors is (no_factor same none) = none
colon_factors is (one_factor first behind stands b more) = no_symbol stands is (λ e. cc)

colon_term : {l : Language} {all colon rest : List Item} {c : Count} {e : Tree} → Counted l all c colon → front colon ≡ s.Colon → Term l all e rest → rest ≡ colon
colon_term counted is (term behind first more) =
    let same = colon_factor counted is first in
    colon_factors (ap front same ∙ is) more ∙ same

colon_terms : {l : Language} {all rest : List Item} {a e : Tree} → front all ≡ s.Colon → Terms l a all e rest → rest ≡ all
colon_terms is (no_term same none) = none
colon_terms is (one_term {o = o} first behind stands op b more) =
    absurd (let e : None ≡ Some o = ap adding_of (sym is ∙ front_is stands) ∙ op in cc)

colon_sum : {l : Language} {all colon rest : List Item} {c : Count} {e : Tree} → Counted l all c colon → front colon ≡ s.Colon → Sum l all e rest → rest ≡ colon
colon_sum counted is (sum behind first more) =
    let same = colon_term counted is first in
    colon_terms (ap front same ∙ is) more ∙ same

colon_rel : {l : Language} {all colon rest : List Item} {c : Count} {e : Tree} → Counted l all c colon → front colon ≡ s.Colon → Rel l all e rest → rest ≡ colon
colon_rel counted is (one_sum read) = colon_sum counted is read
colon_rel counted is (related {o = o} sign behind a stands op b of) =
    let same = colon_sum counted is a in
    absurd (let e : None ≡ Some o = ap relation_of (sym (ap front same ∙ is) ∙ front_is stands) ∙ op in cc)

colon_expression : {l : Language} {all colon rest : List Item} {c : Count} {e : Tree} → Counted l all c colon → front colon ≡ s.Colon → Expression l all e rest →
    rest ≡ colon
colon_expression counted is (one_rel read) = colon_rel counted is read
colon_expression counted is (chosen arrow arm colon other_arm test a first c second of) =
    no_symbol a (ap front (colon_rel counted is test) ∙ is) (λ e. cc)

pub index_not : {l : Language} {of : Ref} {at : ℕ} {first rest : List Item} {e : Tree} → IndexBehind l of at first e rest → SliceBegins l first → ⊥
index_not h begins =
    let same = colon_expression begins.counted (front_is begins.passed.1) h.place_read in
    no_symbol h.close_passed.1 (ap front same ∙ front_is begins.passed.1) (λ e. cc)

pub slice_only : {l : Language} {of : Ref} {at : ℕ} {first rest : List Item} {e : Tree} → SliceBehind l of at first e rest ⊎ IndexBehind l of at first e rest →
    SliceBegins l first → SliceBehind l of at first e rest
slice_only (inl h) begins = h
slice_only (inr h) begins = absurd (index_not h begins)

pub index_only : {l : Language} {of : Ref} {at : ℕ} {first rest : List Item} {e : Tree} → SliceBehind l of at first e rest ⊎ IndexBehind l of at first e rest →
    (SliceBegins l first → ⊥) → IndexBehind l of at first e rest
index_only (inl h) none =
    absurd (none record { place = h.high; colon = h.colon; behind = h.second; counted = h.high_read; passed = h.colon_passed })
index_only (inr h) none = h

-- whether a slice begins
pub slice_number : {l : Language} {all : List Item} (value : ℕ) (n : Next) → IsNextOf all n → n.symbol ≡ s.Number value None →
    (rest : List Item) × Passes s.Colon n.rest rest → SliceBegins l all
slice_number {all = all} value n next is colon =
    record { place = _; colon = n.rest; behind = colon.0; counted = fixed value n.at (stands all n _ next is refl) refl; passed = colon.1 }

pub slice_name : {l : Language} {all : List Item} (n : Next) → l ≡ Design → IsNextOf all n → n.symbol ≡ s.Name →
    (rest : List Item) × Passes s.Colon n.rest rest → SliceBegins l all
slice_name {all = all} n design next is colon =
    record { place = _; colon = n.rest; behind = colon.0; counted = constant n.spelled.now n.at design (names all n next is) refl; passed = colon.1 }

by_count : {l : Language} {all colon behind : List Item} {c : Count} (n : Next) → IsNextOf all n → ((rest : List Item) → Passes s.Colon n.rest rest → ⊥) →
    Counted l all c colon → Passes s.Colon colon behind → ⊥
by_count {all = all} {behind = behind} n next none (fixed value at stands is) passed =
    none behind (subst (λ all. Passes s.Colon all behind) (next_is all n next stands).rest_is passed)
by_count {all = all} {behind = behind} n next none (constant name at design read is) passed =
    none behind (subst (λ all. Passes s.Colon all behind) (next_is all n next (name_stands read)).rest_is passed)

pub slice_not : {l : Language} {all : List Item} (n : Next) → IsNextOf all n → ((rest : List Item) → Passes s.Colon n.rest rest → ⊥) → SliceBegins l all → ⊥
slice_not {l = l} {all = all} n next none begins = by_count n next none begins.counted begins.passed

no_factor_by : (l : Language) (all first rest : List Item) (e : Tree) (at : ℕ) (symbol : Symbol) → ((value : ℕ) (width : Option ℕ) → symbol ≡ s.Number value width → ⊥) →
    (symbol ≡ s.Not → ⊥) → (symbol ≡ s.OpenBrace → ⊥) → (symbol ≡ s.OpenParen → ⊥) → (symbol ≡ s.Name → ⊥) → (symbol ≡ s.At → ⊥) →
    ((o : Op) → shift_of symbol ≡ Some o → ⊥) → FactorBy l symbol at all first e rest → ⊥
no_factor_by l all first rest e at (s.Number value width) n t b p m a q h = n value width refl
no_factor_by l all first rest e at s.Not n t b p m a q h = t refl
no_factor_by l all first rest e at s.OpenBrace n t b p m a q h = b refl
no_factor_by l all first rest e at s.OpenParen n t b p m a q h = p refl
no_factor_by l all first rest e at s.Name n t b p m a q h = m refl
no_factor_by l all first rest e at s.At n t b p m a q h = a refl
no_factor_by l all first rest e at s.Shl n t b p m a q h = q _ refl
no_factor_by l all first rest e at s.Shr n t b p m a q h = q _ refl
no_factor_by l all first rest e at s.Asr n t b p m a q h = q _ refl
no_factor_by l all first rest e at s.Ror n t b p m a q h = q _ refl
no_factor_by l all first rest e at other n t b p m a q h = h

-- no factor begins with another symbol
pub factor_none : {l : Language} {all rest : List Item} {e : Tree} (n : Next) → IsNextOf all n →
    ((value : ℕ) (width : Option ℕ) → n.symbol ≡ s.Number value width → ⊥) → (n.symbol ≡ s.Not → ⊥) → (n.symbol ≡ s.OpenBrace → ⊥) →
    (n.symbol ≡ s.OpenParen → ⊥) → (n.symbol ≡ s.Name → ⊥) → (n.symbol ≡ s.At → ⊥) → ((o : Op) → shift_of n.symbol ≡ Some o → ⊥) →
    Factor l all e rest → ⊥
factor_none {l = l} {all = all} {rest = rest} {e = e} n next v t b p m a q read =
    no_factor_by l all n.rest rest e n.at n.symbol v t b p m a q (factor_next n next refl read)

pub no_shift : (symbol : Symbol) → (symbol ≡ s.Shl → ⊥) → (symbol ≡ s.Shr → ⊥) → (symbol ≡ s.Asr → ⊥) → (symbol ≡ s.Ror → ⊥) → (o : Op) → shift_of symbol ≡ Some o → ⊥
no_shift s.Shl l r a q o is = l refl
no_shift s.Shr l r a q o is = r refl
no_shift s.Asr l r a q o is = a refl
no_shift s.Ror l r a q o is = q refl
no_shift other l r a q o is = absurd (let e : None ≡ Some o = is in cc)
