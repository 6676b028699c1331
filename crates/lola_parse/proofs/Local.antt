-- A rule that stands at the front doesn't look at what stands behind it: the tokens that it reads are a
-- run with which it stands at the front of any tokens.
use Rattle.std.proofs.Common.{◌≡◌, ℕ, true, List, [], ◌∷◌, ◌++◌, Some, refl, sym, ap, subst, ◌∙◌}
use Rattle.std.proofs.lemmas.List.{append_assoc}
use Rattle.lola_tree.specs.declared.named.Count.{Count}
use Rattle.lola_tree.specs.declared.named.Count.TheVariants as count
use Rattle.lola_tree.specs.declared.named.Ref.{Ref}
use Rattle.lola_tree.specs.Tree.{Tree, Parts, no_part, one_part, binary, choice, negation, whole, bit, slice, index, concat}
use Rattle.lola_bits.specs.declared.op.Op.TheVariants as op
use Rattle.lola_bits.specs.declared.op.Op.{Op}
use Rattle.lola_parse.specs.declared.symbol.Symbol.{Symbol}
use Rattle.lola_parse.specs.declared.symbol.Symbol.TheVariants as s
use Rattle.lola_parse.specs.declared.symbol.Language.{Language}
use Rattle.lola_parse.specs.declared.symbol.Language.TheVariants.{Table}
use Rattle.lola_parse.specs.Symbols.{Item}
use Rattle.lola_parse.specs.Grammar.{Stands, Passes, Names, Words, Counted, fixed, constant, Path, no_word, one_word, Reference, plain, source, Times, once, repeated, Expression, one_rel, chosen, Rel, one_sum, related, Sum, sum, Terms, no_term, one_term, Term, term, Factors, no_factor, one_factor, Factor, negated, numbered, named, one_bit, sliced, indexed, joined, shifted, nested, OnePart, part, MoreParts, no_more, one_more, with_part, place_of, relation_of, adding_of, shift_of}
use Rattle.lola_parse.specs.Behind.{NestedBehind, ShiftBehind, ConcatBehind, IndexBehind, BitBehind, SliceBehind, PathBehind, PartRead}
use Rattle.lola_parse.specs.Long.{Any, AnyTerms, AnyFactors, AnyParts, AnyTimes, AnyChoice}
use Rattle.lola_parse.proofs.Expressions.{choice_read, nested_read, concat_read, shift_read, bit_read, slice_read, index_read}

-- how much a rule says of lists
abbrev pub Rule : Type 1
Rule = List Item → List Item → Type 0

-- the rule reads a run, and does so before any other tokens
pub record Local (R : Rule) (all rest : List Item) : Type 0 where
  pub run : List Item
  pub splits : all ≡ run ++ rest
  pub anew : (x : List Item) → R (run ++ x) x

-- one rule and then another
pub record Then (A B : Rule) (all rest : List Item) : Type 0 where
  pub mid : List Item
  pub first : A all mid
  pub second : B mid rest

infixr 20 ◌and◌
pub ◌and◌ : {A B : Rule} {all mid rest : List Item} → Local A all mid → Local B mid rest → Local (Then A B) all rest
◌and◌ {A = A} {B = B} {rest = rest} h k =
    record {
      run = h.run ++ k.run;
      splits = h.splits ∙ (ap (λ m. h.run ++ m) k.splits ∙ sym (append_assoc h.run k.run rest));
      anew = λ x. subst (λ a. Then A B a x) (sym (append_assoc h.run k.run x)) record { mid = k.run ++ x; first = h.anew (k.run ++ x); second = k.anew x };
    }

pub remade : {A B : Rule} {all rest : List Item} → Local A all rest → ((a r : List Item) → A a r → B a r) → Local B all rest
remade h make = record { run = h.run; splits = h.splits; anew = λ x. make (h.run ++ x) x (h.anew x) }

-- what reads nothing
pub nothing : {A : Rule} {all rest : List Item} → rest ≡ all → ((x : List Item) → A x x) → Local A all rest
nothing none make = record { run = []; splits = sym none; anew = make }

pub stands_local : {symbol : Symbol} {at : ℕ} {all rest : List Item} → Stands symbol at all rest → Local (Stands symbol at) all rest
stands_local {symbol = symbol} {at = at} h =
    record {
      run = record { symbol = symbol; is_word = h.is_word; spelled = h.spelled; at = at } ∷ [];
      splits = h.splits;
      anew = λ x. record { is_word = h.is_word; spelled = h.spelled; splits = refl };
    }

pub names_local : {name : List ℕ} {at : ℕ} {all rest : List Item} → Names name at all rest → Local (Names name at) all rest
names_local {name = name} {at = at} h =
    record { run = record { symbol = s.Name; is_word = h.is_word; spelled = name; at = at } ∷ []; splits = h.splits; anew = λ x. record { is_word = h.is_word; splits = refl } }

pub words_local : {word : List ℕ} {all rest : List Item} → Words word all rest → Local (Words word) all rest
words_local {word = word} h =
    record {
      run = record { symbol = h.symbol; is_word = true; spelled = word; at = h.at } ∷ [];
      splits = h.splits;
      anew = λ x. record { symbol = h.symbol; at = h.at; no_number = h.no_number; splits = refl };
    }

-- a rule with its tree fixed
abbrev Of : {T : Type 0} → (List Item → T → List Item → Type 0) → T → Rule
Of R tree all rest = R all tree rest

pub counted_local : {l : Language} {all rest : List Item} {c : Count} → Counted l all c rest → Local (Of (Counted l) c) all rest
counted_local (fixed value at stands is) = remade (stands_local stands) (λ a r h. fixed value at h is)
counted_local (constant name at design read is) = remade (names_local read) (λ a r h. constant name at design h is)

pub path_local : {before path : List (List ℕ)} {all rest : List Item} → Path before all path rest → Local (Of (Path before) path) all rest
path_local (no_word is none) = nothing none (λ x. no_word is refl)
path_local (one_word dot behind stands word more) =
    remade (stands_local stands and (words_local word and path_local more)) (λ a r h. one_word _ _ h.first h.second.first h.second.second)

pub reference_local : {l : Language} {all rest : List Item} {r : Ref} → Reference l all r rest → Local (Of (Reference l) r) all rest
reference_local (plain name at read is) = remade (names_local read) (λ a r h. plain name at h is)
reference_local (source path at first behind table stands word more is) =
    remade (stands_local stands and (words_local word and path_local more)) (λ a r h. source path at _ _ table h.first h.second.first h.second.second is)

pub times_local : {l : Language} {at : ℕ} {all rest : List Item} {c : Count} → Times l at all c rest → Local (AnyTimes l) all rest
times_local (once is none) = nothing none (λ x at. (count.Fixed 1 at, once refl refl))
times_local (repeated behind stands read) = remade (stands_local stands and counted_local read) (λ a r h at. (_, repeated _ h.first h.second))

pub passes_local : {symbol : Symbol} {all rest : List Item} → Passes symbol all rest → Local (Passes symbol) all rest
passes_local h = remade (stands_local h.1) (λ a r k. (h.0, k))

-- how the rules join where trees don't matter
pub chosen_of : {l : Language} (a r : List Item) → Then (Any (Rel l)) (Then (Passes s.Arrow) (AnyChoice l)) a r → Any (Expression l) a r
chosen_of a r h =
    let made = h.second.second h.first.0 h.second.first.0 in
    (made.0, choice_read h.first.1 h.second.first.1 made.1)

pub choice_of : {l : Language} (a r : List Item) → Then (Any (Expression l)) (Then (Passes s.Colon) (Any (Expression l))) a r → AnyChoice l a r
choice_of a r h =
    λ test at. (
      choice test h.first.0 h.second.second.0 at,
      record {
        first = h.first.0;
        second = h.second.second.0;
        colon = h.mid;
        no = h.second.mid;
        first_read = h.first.1;
        colon_passed = h.second.first;
        second_read = h.second.second.1;
        tree_is = refl;
      },
    )

pub related_of : {l : Language} {symbol : Symbol} {o : Op} → relation_of symbol ≡ Some o → (a r : List Item) →
    Then (Any (Sum l)) (Then (Passes symbol) (Any (Sum l))) a r → Any (Rel l) a r
related_of {o = o} op a r h =
    (binary o h.first.0 h.second.second.0 h.second.first.0, related _ _ h.first.1 h.second.first.1 op h.second.second.1 refl)

pub sum_of : {l : Language} (a r : List Item) → Then (Any (Term l)) (AnyTerms l) a r → Any (Sum l) a r
sum_of a r h = let more = h.second h.first.0 in (more.0, sum _ h.first.1 more.1)

pub terms_of : {l : Language} {symbol : Symbol} {o : Op} → adding_of symbol ≡ Some o → (a r : List Item) →
    Then (Passes symbol) (Then (Any (Term l)) (AnyTerms l)) a r → AnyTerms l a r
terms_of {o = o} op a r h =
    λ left.
    let more = h.second.second (binary o left h.second.first.0 h.first.0) in
    (more.0, one_term _ _ h.first.1 op h.second.first.1 more.1)

pub no_terms : {l : Language} (x : List Item) → AnyTerms l x x
no_terms x = λ a. (a, no_term refl refl)

pub term_of : {l : Language} (a r : List Item) → Then (Any (Factor l)) (AnyFactors l) a r → Any (Term l) a r
term_of a r h = let more = h.second h.first.0 in (more.0, term _ h.first.1 more.1)

pub factors_of : {l : Language} (a r : List Item) → Then (Passes s.And) (Then (Any (Factor l)) (AnyFactors l)) a r → AnyFactors l a r
factors_of a r h =
    λ left.
    let more = h.second.second (binary op.And left h.second.first.0 h.first.0) in
    (more.0, one_factor _ _ h.first.1 h.second.first.1 more.1)

pub no_factors : {l : Language} (x : List Item) → AnyFactors l x x
no_factors x = λ a. (a, no_factor refl refl)

pub negated_of : {l : Language} (a r : List Item) → Then (Passes s.Not) (Any (Factor l)) a r → Any (Factor l) a r
negated_of a r h = (negation h.second.0 h.first.0, negated _ h.first.1 h.second.1 refl)

pub nested_of : {l : Language} (a r : List Item) → Then (Any (Expression l)) (Passes s.CloseParen) a r → Any (NestedBehind l) a r
nested_of a r h = (h.first.0, record { close = h.mid; inner_read = h.first.1; close_passed = h.second })

pub paren_of : {l : Language} (a r : List Item) → Then (Passes s.OpenParen) (Any (NestedBehind l)) a r → Any (Factor l) a r
paren_of a r h = (h.second.0, nested_read h.first.1 h.second.1)

pub shift_of_parts : {l : Language} {o : Op} {at : ℕ} (a r : List Item) →
    Then (Passes s.OpenParen) (Then (Any (Expression l)) (Then (Passes s.Comma) (Then (Any (Expression l)) (Passes s.CloseParen)))) a r → Any (ShiftBehind l o at) a r
shift_of_parts {o = o} {at = at} a r h =
    let value = h.second.first in
    let by = h.second.second.second.first in (
      binary o value.0 by.0 at,
      record {
        value = value.0;
        by = by.0;
        first = h.mid;
        comma = h.second.mid;
        second = h.second.second.mid;
        close = h.second.second.second.mid;
        open_passed = h.first;
        value_read = value.1;
        comma_passed = h.second.second.first;
        by_read = by.1;
        close_passed = h.second.second.second.second;
        tree_is = refl;
      },
    )

pub shifted_of : {l : Language} {symbol : Symbol} {o : Op} {at : ℕ} → shift_of symbol ≡ Some o → (a r : List Item) →
    Then (Stands symbol at) (Any (ShiftBehind l o at)) a r → Any (Factor l) a r
shifted_of is a r h = (h.second.0, shift_read h.first is h.second.1)

pub concat_of_parts : {l : Language} {at : ℕ} (a r : List Item) → Then (Any (PartRead l)) (Then (AnyParts l) (Passes s.CloseBrace)) a r → Any (ConcatBehind l at) a r
concat_of_parts {at = at} a r h =
    let value = h.first.0 in
    let more = h.second.first (one_part value.0 value.1 no_part) in (
      concat more.0 at,
      record {
        value = value.0;
        times = value.1;
        parts = more.0;
        behind = h.mid;
        close = h.second.mid;
        first_read = h.first.1;
        more_read = more.1;
        close_passed = h.second.second;
        tree_is = refl;
      },
    )

pub brace_of : {l : Language} {at : ℕ} (a r : List Item) → Then (Stands s.OpenBrace at) (Any (ConcatBehind l at)) a r → Any (Factor l) a r
brace_of a r h = (h.second.0, concat_read h.first h.second.1)

pub parts_of : {l : Language} (a r : List Item) → Then (Passes s.Comma) (Then (Any (PartRead l)) (AnyParts l)) a r → AnyParts l a r
parts_of a r h =
    λ before.
    let p = h.second.first.0 in
    let more = h.second.second (with_part before p.0 p.1) in
    (more.0, one_more _ _ h.first.1 h.second.first.1 more.1)

pub no_parts : {l : Language} (x : List Item) → AnyParts l x x
no_parts x = λ before. (before, no_more refl refl)

pub times_of : {l : Language} (a r : List Item) → Then (Passes s.Times) (Any (Counted l)) a r → AnyTimes l a r
times_of a r h = λ at. (h.second.0, repeated _ h.first.1 h.second.1)

pub part_of : {l : Language} (a r : List Item) → Then (Any (Expression l)) (AnyTimes l) a r → Any (PartRead l) a r
part_of a r h =
    let times = h.second (place_of a) in
    ((h.first.0, times.0), part _ h.first.1 times.1)

pub index_of_parts : {l : Language} {of : Ref} {at : ℕ} (a r : List Item) → Then (Any (Expression l)) (Passes s.CloseBracket) a r → Any (IndexBehind l of at) a r
index_of_parts {of = of} {at = at} a r h =
    (index of h.first.0 at, record { place = h.first.0; close = h.mid; place_read = h.first.1; close_passed = h.second; tree_is = refl })

pub indexed_of : {l : Language} {of : Ref} {at : ℕ} (a r : List Item) → Then (Of (Reference l) of) (Then (Stands s.OpenBracket at) (Any (IndexBehind l of at))) a r →
    Any (Factor l) a r
indexed_of a r h = let made = h.second.second in (made.0, index_read h.first h.second.first made.1)

pub sliced_of : {l : Language} {of : Ref} {at : ℕ} (a r : List Item) → Then (Of (Reference l) of) (Then (Stands s.OpenBracket at) (Any (SliceBehind l of at))) a r →
    Any (Factor l) a r
sliced_of a r h = let made = h.second.second in (made.0, slice_read h.first h.second.first made.1)

pub one_bit_of : {l : Language} {of : Ref} {at : ℕ} (a r : List Item) → Then (Of (Reference l) of) (Then (Stands s.Dot at) (Any (BitBehind l of at))) a r → Any (Factor l) a r
one_bit_of a r h = let made = h.second.second in (made.0, bit_read h.first h.second.first made.1)

pub bit_of_count : {l : Language} {of : Ref} {at : ℕ} (a r : List Item) → Any (Counted l) a r → Any (BitBehind l of at) a r
bit_of_count {of = of} {at = at} a r h = (bit of h.0 at, record { place = h.0; counted = h.1; tree_is = refl })

pub slice_of_counts : {l : Language} {of : Ref} {at : ℕ} (a r : List Item) →
    Then (Any (Counted l)) (Then (Passes s.Colon) (Then (Any (Counted l)) (Passes s.CloseBracket))) a r → Any (SliceBehind l of at) a r
slice_of_counts {of = of} {at = at} a r h =
    let high = h.first in
    let low = h.second.second.first in (
      slice of high.0 low.0 at,
      record {
        high = high.0;
        low = low.0;
        colon = h.mid;
        second = h.second.mid;
        close = h.second.second.mid;
        high_read = high.1;
        colon_passed = h.second.first;
        low_read = low.1;
        close_passed = h.second.second.second;
        tree_is = refl;
      },
    )

pub source_of : {l : Language} → l ≡ Table → (a r : List Item) → Then (Passes s.At) (Any PathBehind) a r → Any (Reference l) a r
source_of table a r h = (_, source h.second.0 h.first.0 h.mid h.second.1.behind table h.first.1 h.second.1.first h.second.1.more refl)

pub rel_of : {l : Language} (a r : List Item) → Any (Rel l) a r → Any (Expression l) a r
rel_of a r h = (h.0, one_rel h.1)

pub sum_alone : {l : Language} (a r : List Item) → Any (Sum l) a r → Any (Rel l) a r
sum_alone a r h = (h.0, one_sum h.1)

pub named_of : {l : Language} (a r : List Item) → Any (Reference l) a r → Any (Factor l) a r
named_of a r h = (whole h.0, named h.1 refl)

-- without its tree
pub untold : {T : Type 0} {all rest : List Item} (R : List Item → T → List Item → Type 0) (tree : T) → Local (Of R tree) all rest → Local (Any R) all rest
untold R tree h = remade h (λ a r k. (tree, k))

mutual
  pub expression_local : {l : Language} {all rest : List Item} {e : Tree} → Expression l all e rest → Local (Any (Expression l)) all rest
  expression_local (one_rel r) = remade (rel_local r) rel_of
  expression_local (chosen arrow arm colon other_arm test a first c second is) =
      remade (rel_local test and (passes_local (_, a) and remade (expression_local first and (passes_local (_, c) and expression_local second)) choice_of)) chosen_of

  pub rel_local : {l : Language} {all rest : List Item} {e : Tree} → Rel l all e rest → Local (Any (Rel l)) all rest
  rel_local (one_sum s) = remade (sum_local s) sum_alone
  rel_local (related sign behind a stands op b is) = remade (sum_local a and (passes_local (_, stands) and sum_local b)) (related_of op)

  pub sum_local : {l : Language} {all rest : List Item} {e : Tree} → Sum l all e rest → Local (Any (Sum l)) all rest
  sum_local (sum behind first more) = remade (term_local first and terms_local more) sum_of

  pub terms_local : {l : Language} {all rest : List Item} {a e : Tree} → Terms l a all e rest → Local (AnyTerms l) all rest
  terms_local (no_term is none) = nothing none no_terms
  terms_local (one_term first behind stands op b more) = remade (passes_local (_, stands) and (term_local b and terms_local more)) (terms_of op)

  pub term_local : {l : Language} {all rest : List Item} {e : Tree} → Term l all e rest → Local (Any (Term l)) all rest
  term_local (term behind first more) = remade (factor_local first and factors_local more) term_of

  pub factors_local : {l : Language} {all rest : List Item} {a e : Tree} → Factors l a all e rest → Local (AnyFactors l) all rest
  factors_local (no_factor is none) = nothing none no_factors
  factors_local (one_factor first behind stands b more) = remade (passes_local (_, stands) and (factor_local b and factors_local more)) factors_of

  pub factor_local : {l : Language} {all rest : List Item} {e : Tree} → Factor l all e rest → Local (Any (Factor l)) all rest
  factor_local (negated behind stands arg is) = remade (passes_local (_, stands) and factor_local arg) negated_of
  factor_local (numbered stands is) = remade (stands_local stands) (λ a r h. (_, numbered h refl))
  factor_local (named of is) = remade (reference_local of) (λ a r h. (_, named h refl))
  factor_local (one_bit dot behind of stands place is) =
      remade (reference_local of and (stands_local stands and remade (untold (Counted _) _ (counted_local place)) bit_of_count)) one_bit_of
  factor_local (sliced bracket first colon second close of opens high c low end is) =
      remade
      (reference_local of and
      (stands_local opens and
      remade (untold (Counted _) _ (counted_local high) and (passes_local (_, c) and (untold (Counted _) _ (counted_local low) and passes_local (_, end)))) slice_of_counts)) sliced_of
  factor_local (indexed bracket first close of opens place end is) =
      remade (reference_local of and (stands_local opens and remade (expression_local place and passes_local (_, end)) index_of_parts)) indexed_of
  factor_local (joined first behind close stands value more end is) =
      remade (stands_local stands and remade (part_local value and (parts_local more and passes_local (_, end))) concat_of_parts) brace_of
  factor_local (shifted paren first comma second close stands op begin value c by end is) =
      remade
      (stands_local stands and
      remade (passes_local (_, begin) and (expression_local value and (passes_local (_, c) and (expression_local by and passes_local (_, end))))) shift_of_parts)
      (shifted_of op)
  factor_local (nested first close stands inner end) =
      remade (passes_local (_, stands) and remade (expression_local inner and passes_local (_, end)) nested_of) paren_of

  pub part_local : {l : Language} {all rest : List Item} {e : Tree} {times : Count} → OnePart l all e times rest → Local (Any (PartRead l)) all rest
  part_local (part behind value times) = remade (expression_local value and times_local times) part_of

  pub parts_local : {l : Language} {all rest : List Item} {before parts : Parts} → MoreParts l before all parts rest → Local (AnyParts l) all rest
  parts_local (no_more is none) = nothing none no_parts
  parts_local (one_more first behind stands value more) = remade (passes_local (_, stands) and (part_local value and parts_local more)) parts_of
