-- What was made once is not made again: calls and steps in later data answer the same, and add no node.
use Rattle.std.specs.Prelude.{◌≡◌, ℕ, Bool, List, ◌++◌, Some}
use Rattle.lola_alg.specs.Algebra.{Calls}
use Rattle.lola_alg.specs.Steps.{Step}
use Rattle.lola_net.specs.declared.node.Node.{Node}

-- data in which calls were made come to hold more nodes
pub record Later (before now : List Node) : Type 0 where
  pub more : List Node
  pub is : now ≡ before ++ more

-- calls that were made answer the same again, in the data that they left and in later data, which they leave as they are
pub record Repeats (c : Calls (List Node) ℕ) : Type 0 where
  pub constant : (d e : List Node) (b : Bool) → Later (c.constant d b).0 e → c.constant e b ≡ (e, (c.constant d b).1)
  pub negated : (d e : List Node) (a : ℕ) → Later (c.negated d a).0 e → c.negated e a ≡ (e, (c.negated d a).1)
  pub both : (d e : List Node) (a b : ℕ) (made : List Node × ℕ) → c.both d a b ≡ Some made → Later made.0 e → c.both e a b ≡ Some (e, made.1)

-- a step adds nodes at the end alone, and made again in the data that it left, or in later data, it answers the same and adds none
pub record Repeated {X : Type 0} (s : Step (List Node) X) : Type 0 where
  pub grows : (d : List Node) (made : List Node × X) → s d ≡ Some made → Later d made.0
  pub again : (d e : List Node) (made : List Node × X) → s d ≡ Some made → Later made.0 e → s e ≡ Some (e, made.1)
