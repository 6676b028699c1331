-- Lemmas on the grammar of expressions: how the rules that calls read join.
use Rattle.std.proofs.Common.{◌≡◌, ℕ, List, [], ◌∷◌, ◌++◌, Some, ap, subst, ◌∙◌}
use Rattle.lola_bits.specs.declared.op.Op.{Op}
use Rattle.lola_bits.specs.declared.op.Op.TheVariants as op
use Rattle.lola_tree.specs.declared.named.Ref.{Ref}
use Rattle.lola_tree.specs.declared.expr.Part.{Part}
use Rattle.lola_tree.specs.Tree.{Tree, tree, binary, Parts, parts_tree}
use Rattle.lola_parse.specs.declared.symbol.Symbol.{Symbol}
use Rattle.lola_parse.specs.declared.symbol.Symbol.TheVariants as s
use Rattle.lola_parse.specs.declared.symbol.Language.{Language}
use Rattle.lola_parse.specs.Symbols.{Item}
use Rattle.lola_parse.specs.Grammar.{Stands, Reference, Expression, chosen, Rel, Term, Terms, one_term, Factor, one_bit, sliced, indexed, joined, shifted, nested, negated, shift_of, adding_of, Factors, one_factor, OnePart, MoreParts, one_more}
use Rattle.lola_parse.specs.Behind.{ChoiceBehind, NegationBehind, NestedBehind, ShiftBehind, ConcatBehind, IndexBehind, BitBehind, SliceBehind}
use Rattle.lola_parse.proofs.Parts.{parts_more}

pub choice_read : {l : Language} {all arrow yes rest : List Item} {test e : Tree} {at : ℕ} → Rel l all test arrow → Stands s.Arrow at arrow yes →
    ChoiceBehind l test at yes e rest → Expression l all e rest
choice_read test arrow h = chosen _ _ h.colon h.no test arrow h.first_read h.colon_passed.1 h.second_read h.tree_is

pub negation_read : {l : Language} {all behind rest : List Item} {e : Tree} {at : ℕ} → Stands s.Not at all behind → NegationBehind l at behind e rest → Factor l all e rest
negation_read stands h = negated _ stands h.arg_read h.tree_is

pub nested_read : {l : Language} {all behind rest : List Item} {e : Tree} {at : ℕ} → Stands s.OpenParen at all behind → NestedBehind l behind e rest → Factor l all e rest
nested_read stands h = nested _ h.close stands h.inner_read h.close_passed.1

pub concat_read : {l : Language} {all behind rest : List Item} {e : Tree} {at : ℕ} → Stands s.OpenBrace at all behind → ConcatBehind l at behind e rest → Factor l all e rest
concat_read stands h = joined _ h.behind h.close stands h.first_read h.more_read h.close_passed.1 h.tree_is

pub shift_read : {l : Language} {all behind rest : List Item} {e : Tree} {symbol : Symbol} {o : Op} {at : ℕ} → Stands symbol at all behind → shift_of symbol ≡ Some o →
    ShiftBehind l o at behind e rest → Factor l all e rest
shift_read stands is h =
    shifted _ h.first h.comma h.second h.close stands is h.open_passed.1 h.value_read h.comma_passed.1 h.by_read h.close_passed.1 h.tree_is

pub bit_read : {l : Language} {all dot behind rest : List Item} {e : Tree} {of : Ref} {at : ℕ} → Reference l all of dot → Stands s.Dot at dot behind →
    BitBehind l of at behind e rest → Factor l all e rest
bit_read of dot h = one_bit _ _ of dot h.counted h.tree_is

pub slice_read : {l : Language} {all bracket behind rest : List Item} {e : Tree} {of : Ref} {at : ℕ} → Reference l all of bracket → Stands s.OpenBracket at bracket behind →
    SliceBehind l of at behind e rest → Factor l all e rest
slice_read of bracket h = sliced _ _ h.colon h.second h.close of bracket h.high_read h.colon_passed.1 h.low_read h.close_passed.1 h.tree_is

pub index_read : {l : Language} {all bracket behind rest : List Item} {e : Tree} {of : Ref} {at : ℕ} → Reference l all of bracket → Stands s.OpenBracket at bracket behind →
    IndexBehind l of at behind e rest → Factor l all e rest
index_read of bracket h = indexed _ _ h.close of bracket h.place_read h.close_passed.1 h.tree_is

pub factors_read : {l : Language} {all first behind rest : List Item} {a b made e : Tree} {at : ℕ} → Stands s.And at all first → Factor l first b behind →
    made ≡ binary op.And a b at → Factors l made behind e rest → Factors l a all e rest
factors_read {l = l} {behind = behind} {rest = rest} {e = e} stands b is more = one_factor _ _ stands b (subst (λ m. Factors l m behind e rest) is more)

pub terms_read : {l : Language} {all first behind rest : List Item} {a b made e : Tree} {symbol : Symbol} {o : Op} {at : ℕ} → Stands symbol at all first →
    adding_of symbol ≡ Some o → Term l first b behind → made ≡ binary o a b at → Terms l made behind e rest → Terms l a all e rest
terms_read {l = l} {behind = behind} {rest = rest} {e = e} stands adds b is more = one_term _ _ stands adds b (subst (λ m. Terms l m behind e rest) is more)

pub parts_read : {l : Language} {all first behind rest : List Item} {parts : Parts} {at : ℕ} (before made : List Part) (p : Part) → Stands s.Comma at all first →
    OnePart l first (tree p.value) p.times behind → made ≡ before ++ p ∷ [] → MoreParts l (parts_tree made) behind parts rest →
    MoreParts l (parts_tree before) all parts rest
parts_read {l = l} {behind = behind} {rest = rest} {parts = parts} before made p stands read is more =
    one_more _ _ stands read (subst (λ m. MoreParts l m behind parts rest) (ap parts_tree is ∙ parts_more before p) more)
