use Rattle.std.proofs.Common.{◌≡◌, ◌≢◌, ℕ, List, [], replicate, refl, sym, ◌∙◌, ap, subst}
use Rattle.lola_tree.specs.Value.{Values}
use Rattle.lola_tree.specs.design.Signals.{Kind, clock, input, pad, wire, register, Signal}
use Rattle.lola_meaning.specs.Tables.{elements_of, shown_by, stored_by}
use Rattle.lola_meaning.proofs.Tables.{vector_at, array_at, array_elements, at_table, inside_table}
use Rattle.lola_meaning.proofs.laws.signals_have_numbers.Goals as goal

shown : (k : Kind) (ns : List ℕ) → k ≢ clock → shown_by k ns ≡ ns
shown clock ns other = absurd (other refl)
shown input ns other = refl
shown pad ns other = refl
shown wire ns other = refl
shown register ns other = refl

pub returns-clause-vector : goal.returns-clause-vector
returns-clause-vector c = λ S order x w once there is wide.
    let v = vector_at S (λ p. c.one_path.ensures S p once) c.what_numbers_elements.ensures order x w there is wide in
    record { inside = v.inside; is = v.is; is_width = v.wide }

pub returns-clause-array : goal.returns-clause-array
returns-clause-array c = λ S order x w k once there is wide places.
    let v = array_at S (λ p. c.one_path.ensures S p once) c.what_numbers_elements.ensures order x w k there is wide places in
    record { inside = v.inside; is = v.is ∙ ap (λ (n : ℕ). replicate n w) (sym (array_elements c.what_numbers_elements.ensures x.names x.type k is places)); is_width = v.wide }

pub returns-clause-table : goal.returns-clause-table
returns-clause-table c = λ S v x once there other. record {
  inside = inside_table S (λ p. c.one_path.ensures S p once) (λ (y : Signal). shown_by y.kind (elements_of v y)) x there;
  is = at_table S (λ p. c.one_path.ensures S p once) (λ (y : Signal). shown_by y.kind (elements_of v y)) [] x there ∙ shown x.kind (elements_of v x) other;
}

pub returns-clause-state : goal.returns-clause-state
returns-clause-state c = λ S s x once is. record {
  inside = inside_table S (λ p. c.one_path.ensures S p once) (λ (y : Signal). stored_by y.kind (elements_of s y)) x is.0;
  is = at_table S (λ p. c.one_path.ensures S p once) (λ (y : Signal). stored_by y.kind (elements_of s y)) [] x is.0 ∙ ap (λ (k : Kind). stored_by k (elements_of s x)) is.1;
}
