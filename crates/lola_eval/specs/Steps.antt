-- The steps of lowering a flat design, one call of an algebra after another: which they are, and in which order.
-- Vectors are lists of bits, the lowest first.
use Rattle.std.specs.Prelude.{ℕ, zero, suc, ◌+◌, ◌-◌, ◌/◌, ◌%◌, nat_eq, List, [], ◌∷◌, ◌++◌, get_or, set, take, drop, replicate, Option, Some, None, slice_get}
use Rattle.lola_alg.specs.Algebra.{Calls}
use Rattle.lola_alg.specs.Steps.{Step, into, op_step, read_step, write_from}
use Rattle.lola_flat.specs.declared.design.SigKind.{SigKind}
use Rattle.lola_flat.specs.declared.design.SigKind.TheVariants.{Input, Pad, Wire, Register}
use Rattle.lola_flat.specs.Tree.{ExprTree, number, signal, from_outside, element, slice, join, repeat, apply, ExprTrees, no_expr, one_expr, SignalTree, FlatTree}
use Rattle.lola_flat.specs.Value.{Env, env, elements, vector}

-- vectors one behind another, the first the highest
abbrev pub joined_bits : {B : Type 0} → List (List B) → List B
joined_bits [] = []
joined_bits (x ∷ xs) = joined_bits xs ++ x

-- the equation of a signal
abbrev pub equation_in : Option SignalTree → Option ExprTree
equation_in None = None
equation_in (Some s) = s.equation

abbrev pub equation_of : FlatTree → ℕ → Option ExprTree
equation_of F n = equation_in (slice_get F.signals n)

-- the table where a signal is a vector
abbrev pub with_vector : {X : Type 0} → Env X → ℕ → X → Env X
with_vector E n x = env (set E.signals n (x ∷ [])) E.outside

module _ {D B : Type 0} (c : Calls D B) where
  -- the bits of a number, from the lowest
  abbrev pub number_step : ℕ → ℕ → Step D (List B)
  number_step zero n d = Some (d, [])
  number_step (suc w) n d = let one = c.constant d (nat_eq (n % 2) 1) in into (number_step w (n / 2) one.0) (λ bits e. Some (e, one.1 ∷ bits))

  -- an expression: what it is made of, from left to right, and then itself. A repeated part is made once
  abbrev mutual
    pub lower_step : Env (List B) → ExprTree → Step D (List B)
    lower_step E (number w n) d = number_step w n d
    lower_step E (signal n) d = Some (d, vector [] E n)
    lower_step E (from_outside n) d = Some (d, get_or E.outside n [])
    lower_step E (element n place) d = into (lower_step E place d) (λ p e. read_step c (elements E n) p e)
    lower_step E (slice of high low) d = into (lower_step E of d) (λ x e. Some (e, take (high - low + 1) (drop low x)))
    lower_step E (join parts) d = into (lowers_step E parts d) (λ xs e. Some (e, joined_bits xs))
    lower_step E (repeat part times) d = into (lower_step E part d) (λ x e. Some (e, joined_bits (replicate times x)))
    lower_step E (apply o args) d = into (lowers_step E args d) (λ xs e. op_step c o xs e)

    pub lowers_step : Env (List B) → ExprTrees → Step D (List (List B))
    lowers_step E no_expr d = Some (d, [])
    lowers_step E (one_expr e es) d = into (lower_step E e d) (λ x f. into (lowers_step E es f) (λ xs g. Some (g, x ∷ xs)))

  -- the vector of an equation; without one nothing is made
  abbrev pub equation_step : Env (List B) → Option ExprTree → Step D (List B)
  equation_step E None d = Some (d, [])
  equation_step E (Some e) d = lower_step E e d

  -- signals, one after another: what the equation of each makes is its vector for those behind it
  abbrev pub signals_step : FlatTree → Env (List B) → List ℕ → Step D (List (List (List B)))
  signals_step F E [] d = Some (d, E.signals)
  signals_step F E (n ∷ ns) d = into (equation_step E (equation_of F n) d) (λ x e. signals_step F (with_vector E n x) ns e)

  -- the next value of a register: of an array first the place and then the value, which is written there
  abbrev pub next_step : Env (List B) → Option ExprTree → Option ExprTree → List (List B) → Step D (List (List B))
  next_step E None None old d = Some (d, [])
  next_step E (Some place) None old d = Some (d, [])
  next_step E None (Some e) old d = into (lower_step E e d) (λ x f. Some (f, x ∷ []))
  next_step E (Some place) (Some e) old d = into (lower_step E place d) (λ p f. into (lower_step E e f) (λ x g. write_from c p x 0 old g))

  -- the next values of registers in signal order, and nothing for other signals
  abbrev pub kind_step : Env (List B) → SigKind → SignalTree → List (List B) → Step D (List (List B))
  kind_step E Register s old d = next_step E s.place s.equation old d
  kind_step E Input s old d = Some (d, [])
  kind_step E Pad s old d = Some (d, [])
  kind_step E Wire s old d = Some (d, [])

  abbrev pub state_step : Env (List B) → List SignalTree → ℕ → Step D (List (List (List B)))
  state_step E [] n d = Some (d, [])
  state_step E (s ∷ signals) n d = into (kind_step E s.kind s (elements E n) d) (λ x e. into (state_step E signals (n + 1) e) (λ xs f. Some (f, x ∷ xs)))
