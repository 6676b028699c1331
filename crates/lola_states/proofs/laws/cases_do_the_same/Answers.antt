use Rattle.std.proofs.Common.{◌≡◌, ℕ, List, sym, ◌∙◌, subst}
use Rattle.lola_flat.specs.Cycle.{IsCycle, IsNext}
use Rattle.lola_cases.specs.Cases as flat
use Rattle.lola_meaning.specs.Tables.{table_of, given_of, outside_of, state_of, values_of}
use Rattle.lola_states.specs.States.{case_of}
use Rattle.lola_states.proofs.laws.cases_do_the_same.Goals as goal

pub returns : goal.returns
returns c = λ S F s inp N after sized written is small state given cycle next.
    let here : IsCycle F (given_of S s inp) (outside_of S inp) N =
    subst (λ (l : List ℕ). IsCycle F (given_of S s inp) l N) (c.states_are_cases.ensures.outside S F s inp sized written is)
    (subst (λ (l : List (List ℕ)). IsCycle F l (flat.outside_of F (case_of S s inp)) N) (c.states_are_cases.ensures.given S F s inp sized written is) cycle) in
    let flat_one = c.each_has_one_cycle.ensures F (case_of S s inp) (c.elaborated_is_formed.ensures S F sized written is small) (c.states_are_cases.ensures.case S F s inp sized written is state given) in
    let one = c.one_cycle.ensures.cycle S F s inp sized written is state given in
    let its = c.cycles_are_flat.ensures.from_flat S F s inp N sized written is state given here in
    let behind = c.next_is_flat.ensures.from_flat S F s inp N after sized written is state given here next in
    record {
      cycle = its;
      next = behind;
      is_state = one.state (values_of S N) (values_of S after) its behind;
      same = λ v other x there no_clock. one.same v (values_of S N) other its x there no_clock;
      same_next = λ v t other other_next x there. one.same_next v (values_of S N) t (values_of S after) other its other_next behind x there;
      table = λ v other. c.cycles_are_flat.ensures.only S F s inp v N sized written is state given other here;
      state = λ v t other other_next.
          let same : table_of S v ≡ flat_one.values = c.cycles_are_flat.ensures.only S F s inp v N sized written is state given other here ∙ flat_one.only N cycle in
          let to_flat = c.next_is_flat.ensures.to_flat S F s inp v t sized written is state given other other_next in
          flat_one.only_next (state_of S t) (subst (λ (M : List (List ℕ)). IsNext F M (state_of S t)) same to_flat)
          ∙ sym (flat_one.only_next after (subst (λ (M : List (List ℕ)). IsNext F M after) (flat_one.only N cycle) next));
    }
