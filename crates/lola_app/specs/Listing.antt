-- The list of a claim's obligations, by name.
use Rattle.std.specs.Prelude.{ℕ, ◌+◌, List, [], ◌∷◌, ◌++◌, codes, string_bytes}
use Rattle.lola_app.specs.declared.claim.Claim.{Claim}
use Rattle.lola_app.specs.declared.claim.State.{State}
use Rattle.lola_app.specs.declared.claim.Start.{Start}
use Rattle.lola_app.specs.declared.obligation.Goal.TheVariants as goal
use Rattle.lola_app.specs.declared.obligation.Which.{Which}
use Rattle.lola_app.specs.declared.obligation.Which.TheVariants as which
use Rattle.lola_app.specs.declared.obligation.Obligation.{Obligation}

-- an obligation and its name
abbrev pub Named : Type 0
Named = List ℕ × Which

abbrev pub named_of : Obligation → Named
named_of o = (string_bytes o.name, o.which)

-- those of the START rows, numbered from one on
abbrev pub start_obligations : ℕ → List Start → List Named
start_obligations n [] = []
start_obligations n (start ∷ starts) = (codes "reset/" ++ string_bytes start.name, which.Reset (goal.State n)) ∷ start_obligations (n + 1) starts

-- those of the states at the end of a class's phase, numbered from one on
abbrev pub state_obligations : List ℕ → ℕ → List State → List Named
state_obligations class n [] = []
state_obligations class n (state ∷ states) = (class ++ (codes "/0/end/" ++ string_bytes state.name), which.End (goal.State n)) ∷ state_obligations class (n + 1) states

abbrev pub reset_obligations : List Start → List Named
reset_obligations starts =
    (codes "reset/INVARIANT", which.Reset goal.Invariant) ∷ (codes "reset/BOUNDARY", which.Reset goal.Boundary) ∷ start_obligations 0 starts

abbrev pub class_obligations : List ℕ → List State → List Named
class_obligations class states =
    (class ++ codes "/0/end/INVARIANT", which.End goal.Invariant) ∷ (class ++ codes "/0/end/BOUNDARY", which.End goal.Boundary) ∷ state_obligations class 0 states

-- all of them, in their order
abbrev pub listed : Claim → List Named
listed claim =
    (codes "cover", which.Cover) ∷ (reset_obligations claim.starts.items ++ class_obligations (string_bytes claim.class) claim.states.items)
