-- An expression that stands in a text is spelled again by the text that it is printed as.
use Rattle.std.proofs.Common.{◌≡◌, ℕ, zero, suc, ◌+◌, ◌-◌, ◌<◌, ◌≤◌, List, [], ◌∷◌, length, drop, sym, ap, subst, ◌∙◌, arith, length-drop}
use Rattle.std.proofs.lemmas.List.{drop_all, drop-map, length-map}
use Rattle.lola_tree.specs.Tree.{Tree}
use Rattle.lola_tree.specs.Places.{placeless}
use Rattle.lola_tree.specs.Print.{expr_text, tightness}
use Rattle.lola_scan.specs.declared.token.Token.{Token}
use Rattle.lola_scan.specs.Tokens.{Spells}
use Rattle.lola_parse.specs.declared.symbol.Language.TheVariants.{Design}
use Rattle.lola_parse.specs.Symbols.{Item, item_of, items_of}
use Rattle.lola_parse.specs.Grammar.{plain, source, Expression, one_rel, chosen, Rel, one_sum, related, Sum, sum, term, Factor, negated, numbered, named, one_bit, sliced, indexed, joined, shifted, nested}
use Rattle.lola_parse.specs.Design.{Outermost, Reads}
use Rattle.lola_reread.specs.Again.{IsExpressionAgain}
use Rattle.lola_reread.proofs.Words.{Shows, shows_long, IsLexed, SpacedLaw, BlankLaw, lexed, words_text}
use Rattle.lola_reread.proofs.GoodItems.{AllGood, items_good}
use Rattle.lola_reread.proofs.Levels.{lower_again, Done}
use Rattle.lola_reread.proofs.Expressions.{few_zero}
use Rattle.lola_reread.proofs.ReadExpressions.{expression_done}

something : {item : Item} {all rest : List Item} → all ≡ item ∷ rest → 0 < length all
something e = let long = ap length e in omega arith

-- no expression is empty
factor_some : (all rest : List Item) (e : Tree) → Factor Design all e rest → 0 < length all
factor_some all rest e (negated behind stands f is) = something stands.splits
factor_some all rest e (numbered stands is) = something stands.splits
factor_some all rest e (named (plain name at read is_ref) is) = something read.splits
factor_some all rest e (named (source path at first behind table stands word more is_ref) is) = something stands.splits
factor_some all rest e (one_bit point behind (plain name at read is_ref) stands cnt is) = something read.splits
factor_some all rest e (one_bit point behind (source path at first ahead table at_sign word more is_ref) stands cnt is) = something at_sign.splits
factor_some all rest e (sliced bracket first mid second close (plain name at read is_ref) opens high co low closes is) = something read.splits
factor_some all rest e (sliced bracket first mid second close (source path at begin ahead table at_sign word more is_ref) opens high co low closes is) = something at_sign.splits
factor_some all rest e (indexed bracket first close (plain name at read is_ref) opens expr closes is) = something read.splits
factor_some all rest e (indexed bracket first close (source path at begin ahead table at_sign word more is_ref) opens expr closes is) = something at_sign.splits
factor_some all rest e (joined first behind close opens one more closes is) = something opens.splits
factor_some all rest e (shifted paren first mid second close stands reads opens left co right closes is) = something stands.splits
factor_some all rest e (nested first close opens expr closes) = something opens.splits

sum_some : (all rest : List Item) (e : Tree) → Sum Design all e rest → 0 < length all
sum_some all rest e (sum behind (term ahead f more) others) = factor_some all ahead _ f

rel_some : (all rest : List Item) (e : Tree) → Rel Design all e rest → 0 < length all
rel_some all rest e (one_sum s) = sum_some all rest e s
rel_some all rest e (related sign behind left stands reads right is) = sum_some all sign _ left

expression_some : (all rest : List Item) (e : Tree) → Expression Design all e rest → 0 < length all
expression_some all rest e (one_rel r) = rel_some all rest e r
expression_some all rest e (chosen arrow behind colon last test ar first co second is) = rel_some all arrow _ test

-- the tokens of what is printed are an expression again
pub outermost_again : (e : Tree) (all before rest : List Item) (d : Done 0 e before rest) → length before ≤ length rest + 512 → Shows d.printed.words all [] →
    (again : Tree) × (Outermost Design all again [] × ((placeless again ≡ placeless e) × ((length all ≡ d.count) × (0 < length all))))
outermost_again e all before rest d within shown =
    let read = lower_again (tightness e) 0 e (omega arith) all [] (d.printed.read all [] shown) in
    let long = shows_long d.printed.words all [] shown in
    let count = d.printed.long in
    let few = few_zero d in
    let is : length all ≡ d.count = omega arith in
    (read.0, (record { expr = read.1.0; within = omega arith }, (read.1.1, (is, expression_some all [] read.0 read.1.0))))

all_drop : (n : ℕ) (items : List Item) → AllGood items → AllGood (drop n items)
all_drop zero items good = good
all_drop (suc n) [] good = good
all_drop (suc n) (i ∷ items) good = all_drop n items good.1

pub expression_again : SpacedLaw → BlankLaw → (text : List ℕ) (tokens : List Token) (from : ℕ) (e : Tree) (n : ℕ) → Spells 0 text tokens → Reads Design text tokens from e n →
    IsExpressionAgain (expr_text e) e (n - from)
expression_again spaced blanks text tokens from e n spells reads = record {
  tokens = lex.tokens;
  spells = subst (λ xs. Spells 0 xs lex.tokens) d.printed.spelled lex.spells;
  few = few;
  again = again.0;
  reads = record {
    after = some;
    within = omega arith;
    outermost = subst (Outermost Design (items_of Design (expr_text e) lex.tokens) again.0) (sym none) (subst (λ xs. Outermost Design (items_of Design xs lex.tokens) again.0 []) d.printed.spelled again.1.0);
  };
  same = again.1.1.0;
}
  where
    all : List Item
    all = items_of Design text (drop from tokens)

    behind : List Item
    behind = items_of Design text (drop n tokens)

    good : AllGood all
    good = subst AllGood (drop-map (item_of Design text) from tokens) (all_drop from (items_of Design text tokens) (items_good text tokens spells))

    d : Done 0 e all behind
    d = expression_done all behind e reads.outermost.expr good

    lex : IsLexed [] d.printed.words
    lex = lexed spaced blanks [] d.printed.words d.printed.good

    again : (again : Tree) × (Outermost Design (items_of Design (words_text d.printed.words) lex.tokens) again [] × ((placeless again ≡ placeless e) × ((length (items_of Design (words_text d.printed.words) lex.tokens) ≡ d.count) × (0 < length (items_of Design (words_text d.printed.words) lex.tokens)))))
    again = outermost_again e (items_of Design (words_text d.printed.words) lex.tokens) all behind d reads.outermost.within lex.shown

    long : length (items_of Design (words_text d.printed.words) lex.tokens) ≡ length lex.tokens
    long = length-map lex.tokens (item_of Design (words_text d.printed.words))

    some : 0 < length lex.tokens
    some = let more = again.1.1.1.1 in omega (arith, long, more)

    all_long : length all ≡ length tokens - from
    all_long = length-map (drop from tokens) (item_of Design text) ∙ length-drop from tokens

    behind_long : length behind ≡ length tokens - n
    behind_long = length-map (drop n tokens) (item_of Design text) ∙ length-drop n tokens

    few : length lex.tokens ≤ n - from
    few =
        let below = few_zero d in
        let count = again.1.1.1.0 in
        let after = reads.after in
        let within = reads.within in
        omega (arith, long, all_long, behind_long, below, count, after, within)

    none : items_of Design (expr_text e) (drop (length lex.tokens) lex.tokens) ≡ []
    none = ap (λ (ts : List Token). items_of Design (expr_text e) ts) (drop_all (length lex.tokens) lex.tokens (omega arith))
