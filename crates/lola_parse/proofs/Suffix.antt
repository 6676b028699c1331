-- What stands behind a rule is an end of what it is read from.
use Rattle.std.proofs.Common.{◌≡◌, ℕ, zero, suc, ◌+◌, ◌-◌, ◌<◌, ◌≤◌, List, [], ◌∷◌, length, drop, inl, inr, refl, sym, ap, subst, ◌∙◌, arith, length-drop}
use Rattle.std.proofs.lemmas.List.{drop-drop, drop_all}
use Rattle.std.proofs.lemmas.Bool.{cases_lt}
use Rattle.lola_tree.specs.Tree.{Tree, Parts}
use Rattle.lola_tree.specs.declared.named.Count.{Count}
use Rattle.lola_tree.specs.declared.named.Ref.{Ref}
use Rattle.lola_scan.specs.declared.token.Token.{Token}
use Rattle.lola_parse.specs.declared.symbol.Symbol.{Symbol}
use Rattle.lola_parse.specs.declared.symbol.Language.{Language}
use Rattle.lola_parse.specs.Symbols.{Item, items_of}
use Rattle.lola_parse.specs.Design.{Outermost, Reads}
use Rattle.lola_parse.specs.Grammar.{Stands, Names, Words, Counted, fixed, constant, Path, no_word, one_word, Reference, plain, source, Times, once, repeated, Expression, one_rel, chosen, Rel, one_sum, related, Sum, sum, Terms, no_term, one_term, Term, term, Factors, no_factor, one_factor, Factor, negated, numbered, named, one_bit, sliced, indexed, joined, shifted, nested, OnePart, part, MoreParts, no_more, one_more}

-- one list is an end of another
pub record Ends (all rest : List Item) : Type 0 where
  pub count : ℕ
  pub is : rest ≡ drop count all

pub itself : (all rest : List Item) → rest ≡ all → Ends all rest
itself all rest e = record { count = 0; is = e }

infixl 20 ◌then◌
pub ◌then◌ : {a b c : List Item} → Ends a b → Ends b c → Ends a c
◌then◌ {a = a} h k = record { count = h.count + k.count; is = k.is ∙ (ap (drop k.count) h.is ∙ drop-drop k.count h.count a) }

pub past : {symbol : Symbol} {at : ℕ} {all rest : List Item} → Stands symbol at all rest → Ends all rest
past h = record { count = 1; is = rw h.splits refl }

pub past_name : {name : List ℕ} {at : ℕ} {all rest : List Item} → Names name at all rest → Ends all rest
past_name h = record { count = 1; is = rw h.splits refl }

pub past_word : {word : List ℕ} {all rest : List Item} → Words word all rest → Ends all rest
past_word h = record { count = 1; is = rw h.splits refl }

pub counted_ends : {l : Language} {all rest : List Item} {c : Count} → Counted l all c rest → Ends all rest
counted_ends (fixed value at stands is) = past stands
counted_ends (constant name at design name_read is) = past_name name_read

pub path_ends : {before path : List (List ℕ)} {all rest : List Item} → Path before all path rest → Ends all rest
path_ends (no_word is none) = itself _ _ none
path_ends (one_word dot behind stands word more) = past stands then past_word word then path_ends more

pub reference_ends : {l : Language} {all rest : List Item} {r : Ref} → Reference l all r rest → Ends all rest
reference_ends (plain name at read is) = past_name read
reference_ends (source path at first behind table stands word more is) = past stands then past_word word then path_ends more

pub times_ends : {l : Language} {at : ℕ} {all rest : List Item} {c : Count} → Times l at all c rest → Ends all rest
times_ends (once is none) = itself _ _ none
times_ends (repeated behind stands read) = past stands then counted_ends read

mutual
  pub expression_ends : {l : Language} {all rest : List Item} {e : Tree} → Expression l all e rest → Ends all rest
  expression_ends (one_rel r) = rel_ends r
  expression_ends (chosen arrow first_at colon second_at test a first c second is) =
      rel_ends test then past a then expression_ends first then past c then expression_ends second

  pub rel_ends : {l : Language} {all rest : List Item} {e : Tree} → Rel l all e rest → Ends all rest
  rel_ends (one_sum s) = sum_ends s
  rel_ends (related sign behind a stands op b is) = sum_ends a then past stands then sum_ends b

  pub sum_ends : {l : Language} {all rest : List Item} {e : Tree} → Sum l all e rest → Ends all rest
  sum_ends (sum behind first more) = term_ends first then terms_ends more

  pub terms_ends : {l : Language} {all rest : List Item} {a e : Tree} → Terms l a all e rest → Ends all rest
  terms_ends (no_term is none) = itself _ _ none
  terms_ends (one_term first behind stands op b more) = past stands then term_ends b then terms_ends more

  pub term_ends : {l : Language} {all rest : List Item} {e : Tree} → Term l all e rest → Ends all rest
  term_ends (term behind first more) = factor_ends first then factors_ends more

  pub factors_ends : {l : Language} {all rest : List Item} {a e : Tree} → Factors l a all e rest → Ends all rest
  factors_ends (no_factor is none) = itself _ _ none
  factors_ends (one_factor first behind stands b more) = past stands then factor_ends b then factors_ends more

  pub factor_ends : {l : Language} {all rest : List Item} {e : Tree} → Factor l all e rest → Ends all rest
  factor_ends (negated behind stands arg is) = past stands then factor_ends arg
  factor_ends (numbered stands is) = past stands
  factor_ends (named of is) = reference_ends of
  factor_ends (one_bit dot behind of stands place is) = reference_ends of then past stands then counted_ends place
  factor_ends (sliced bracket first colon second close of opens high c low end is) =
      reference_ends of then past opens then counted_ends high then past c then counted_ends low then past end
  factor_ends (indexed bracket first close of opens place end is) = reference_ends of then past opens then expression_ends place then past end
  factor_ends (joined first behind close stands value more end is) = past stands then part_ends value then parts_ends more then past end
  factor_ends (shifted paren first comma second close stands op begin value c by end is) =
      past stands then past begin then expression_ends value then past c then expression_ends by then past end
  factor_ends (nested first close stands inner end) = past stands then expression_ends inner then past end

  pub part_ends : {l : Language} {all rest : List Item} {e : Tree} {times : Count} → OnePart l all e times rest → Ends all rest
  part_ends (part behind value times) = expression_ends value then times_ends times

  pub parts_ends : {l : Language} {all rest : List Item} {before parts : Parts} → MoreParts l before all parts rest → Ends all rest
  parts_ends (no_more is none) = itself _ _ none
  parts_ends (one_more first behind stands value more) = past stands then part_ends value then parts_ends more

-- an end is known by its length
pub end_is : (all rest : List Item) → Ends all rest → rest ≡ drop (length all - length rest) all
end_is all rest h =
    elim (cases_lt (length all) h.count) [
      | inl over ↦
          let empty : rest ≡ [] = h.is ∙ drop_all h.count all (omega arith) in
          rw empty (sym (drop_all (length all - 0) all (omega arith)))
      | inr fits ↦
          let long : length rest ≡ length all - h.count = ap length h.is ∙ length-drop h.count all in
          let n : h.count ≡ length all - length rest = omega arith in
          h.is ∙ ap (λ k. drop k all) n
    ]

pub items_drop : (l : Language) (text : List ℕ) (n : ℕ) (tokens : List Token) → drop n (items_of l text tokens) ≡ items_of l text (drop n tokens)
items_drop l text zero tokens = refl
items_drop l text (suc n) [] = refl
items_drop l text (suc n) (token ∷ more) = items_drop l text n more

pub items_long : (l : Language) (text : List ℕ) (tokens : List Token) → length (items_of l text tokens) ≡ length tokens
items_long l text [] = refl
items_long l text (token ∷ more) = ap suc (items_long l text more)

-- what stands behind an expression that was read from a token on, by its number
pub behind_is : (l : Language) (text : List ℕ) (tokens : List Token) (from : ℕ) (e : Tree) (rest : List Item) → from ≤ length tokens →
    length rest < length (items_of l text (drop from tokens)) → Expression l (items_of l text (drop from tokens)) e rest →
    rest ≡ items_of l text (drop (length tokens - length rest) tokens)
behind_is l text tokens from e rest within shorter read =
    let all = items_of l text (drop from tokens) in
    let long : length all ≡ length tokens - from = items_long l text (drop from tokens) ∙ length-drop from tokens in
    let first : rest ≡ drop (length all - length rest) all = end_is all rest (expression_ends read) in
    let second = items_drop l text (length all - length rest) (drop from tokens) in
    let third = drop-drop (length all - length rest) from tokens in
    let number : from + (length all - length rest) ≡ length tokens - length rest = omega arith in
    first ∙ (second ∙ (ap (items_of l text) third ∙ ap (λ n. items_of l text (drop n tokens)) number))

-- so the call for one expression may answer the number
pub reads : (l : Language) (text : List ℕ) (tokens : List Token) (from : ℕ) (e : Tree) (rest : List Item) → from ≤ length tokens →
    length rest < length (items_of l text (drop from tokens)) → Outermost l (items_of l text (drop from tokens)) e rest →
    Reads l text tokens from e (length tokens - length rest)
reads l text tokens from e rest within shorter read =
    let long : length (items_of l text (drop from tokens)) ≡ length tokens - from = items_long l text (drop from tokens) ∙ length-drop from tokens in
    record {
      after = omega arith;
      within = omega arith;
      outermost = subst (Outermost l (items_of l text (drop from tokens)) e) (behind_is l text tokens from e rest within shorter read.expr) read;
    }
