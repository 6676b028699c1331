-- No expression begins with a word of tables or with ";", so a LOAD before one has no address.
use Rattle.std.proofs.Common.{◌≡◌, ℕ, List, inl, inr, refl, sym, ap, ◌∙◌}
use Rattle.lola_tree.specs.Tree.{Tree}
use Rattle.lola_tree.specs.declared.named.Ref.{Ref}
use Rattle.lola_parse.specs.declared.symbol.Symbol.{Symbol}
use Rattle.lola_parse.specs.declared.symbol.Symbol.TheVariants as s
use Rattle.lola_parse.specs.declared.symbol.Language.{Language}
use Rattle.lola_parse.specs.Symbols.{Item}
use Rattle.lola_parse.specs.Read.{front}
use Rattle.lola_parse.specs.Grammar.{Stands, shift_of, Reference, plain, source, Expression, one_rel, chosen, Rel, one_sum, related, Sum, sum, Term, term, Factor, negated, numbered, named, one_bit, sliced, indexed, joined, shifted, nested}
use Rattle.tab_parse.specs.Fronts.{EndedAccess}

front_of : {symbol : Symbol} {at : ℕ} {all rest : List Item} → Stands symbol at all rest → front all ≡ symbol
front_of h = rw h.splits refl

apart : {symbol : Symbol} {at : ℕ} {all rest : List Item} → Stands symbol at all rest → (symbol ≡ s.TableWord → ⊥) → (symbol ≡ s.Semicolon → ⊥) → EndedAccess all → ⊥
apart h word semicolon e = elim e [ inl p ↦ word (sym (front_of h) ∙ p) | inr p ↦ semicolon (sym (front_of h) ∙ p) ]

reference_apart : {l : Language} {all rest : List Item} {r : Ref} → Reference l all r rest → EndedAccess all → ⊥
reference_apart {all = all} (plain name at read is) e =
    let f : front all ≡ s.Name = rw read.splits refl in
    elim e [ inl p ↦ absurd (let q : s.Name ≡ s.TableWord = sym f ∙ p in cc) | inr p ↦ absurd (let q : s.Name ≡ s.Semicolon = sym f ∙ p in cc) ]
reference_apart (source path at first behind table stands word more is) e = apart stands (λ p. cc) (λ p. cc) e

factor_apart : {l : Language} {all rest : List Item} {e : Tree} → Factor l all e rest → EndedAccess all → ⊥
factor_apart (negated behind stands arg is) = apart stands (λ p. cc) (λ p. cc)
factor_apart (numbered stands is) = apart stands (λ p. cc) (λ p. cc)
factor_apart (named of is) = reference_apart of
factor_apart (one_bit dot behind of stands place is) = reference_apart of
factor_apart (sliced bracket first colon second close of opens high c low end is) = reference_apart of
factor_apart (indexed bracket first close of opens place end is) = reference_apart of
factor_apart (joined first behind close stands value more end is) = apart stands (λ p. cc) (λ p. cc)
factor_apart (shifted paren first comma second close stands op begin value c by end is) =
    apart stands (λ p. absurd (let q = sym (ap shift_of p) ∙ op in cc)) (λ p. absurd (let q = sym (ap shift_of p) ∙ op in cc))
factor_apart (nested first close stands inner end) = apart stands (λ p. cc) (λ p. cc)

term_apart : {l : Language} {all rest : List Item} {e : Tree} → Term l all e rest → EndedAccess all → ⊥
term_apart (term behind first more) = factor_apart first

sum_apart : {l : Language} {all rest : List Item} {e : Tree} → Sum l all e rest → EndedAccess all → ⊥
sum_apart (sum behind first more) = term_apart first

rel_apart : {l : Language} {all rest : List Item} {e : Tree} → Rel l all e rest → EndedAccess all → ⊥
rel_apart (one_sum s) = sum_apart s
rel_apart (related sign behind a stands op b is) = sum_apart a

pub expression_apart : {l : Language} {all rest : List Item} {e : Tree} → Expression l all e rest → EndedAccess all → ⊥
expression_apart (one_rel r) = rel_apart r
expression_apart (chosen arrow first_at colon second_at test a first c second is) = rel_apart test
