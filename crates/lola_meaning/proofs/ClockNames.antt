-- The name of the clock among signals.
use Rattle.std.proofs.Common.{◌≡◌, ℕ, List, [], ◌∷◌, Option, Some, None, refl, sym, ◌∙◌, ap, subst, inl, inr}
use Rattle.std.specs.Prelude.{IsSome}
use Rattle.lola_bits.specs.Lists.{IsIn}
use Rattle.lola_bits.proofs.Options.{some_same}
use Rattle.lola_tree.specs.Names.{first_name}
use Rattle.lola_tree.specs.Value.{Path}
use Rattle.lola_tree.specs.design.Signals.{Kind, clock, input, pad, wire, register, Signal}
use Rattle.lola_unfold.specs.Flat.{named_clock, clock_name}

-- it is there where one of them is the clock
named_some : (k : Kind) (path : Path) (o : Option (List ℕ)) → IsSome o → IsSome (named_clock k path o)
named_some clock path o some = refl
named_some input path o some = some
named_some pad path o some = some
named_some wire path o some = some
named_some register path o some = some

pub clock_there : (xs : List Signal) (y : Signal) → IsIn y xs → y.kind ≡ clock → IsSome (clock_name xs)
clock_there [] y is kind = absurd is
clock_there (x ∷ xs) y (inl same) kind = subst (λ (k : Kind). IsSome (named_clock k x.path (clock_name xs))) (sym (ap (λ (z : Signal). z.kind) (sym same) ∙ kind)) refl
clock_there (x ∷ xs) y (inr later) kind = named_some x.kind x.path (clock_name xs) (clock_there xs y later kind)

-- and then one of them has it
abbrev pub HasName : List Signal → List ℕ → Type 0
HasName xs name = (y : Signal) × IsIn y xs × (y.kind ≡ clock) × (first_name y.path ≡ name)

one_later : (x : Signal) (xs : List Signal) (name : List ℕ) → HasName xs name → HasName (x ∷ xs) name
one_later x xs name r = (r.0, inr r.1, r.2, r.3)

from_kind : (x : Signal) (xs : List Signal) (name : List ℕ) → (clock_name xs ≡ Some name → HasName xs name) → (k : Kind) → x.kind ≡ k → named_clock k x.path (clock_name xs) ≡ Some name → HasName (x ∷ xs) name
from_kind x xs name later clock kind e = (x, inl refl, kind, some_same (first_name x.path) name e)
from_kind x xs name later input kind e = one_later x xs name (later e)
from_kind x xs name later pad kind e = one_later x xs name (later e)
from_kind x xs name later wire kind e = one_later x xs name (later e)
from_kind x xs name later register kind e = one_later x xs name (later e)

pub clock_from : (xs : List Signal) (name : List ℕ) → clock_name xs ≡ Some name → HasName xs name
clock_from [] name e = absurd (let f : None ≡ Some name = e in cc)
clock_from (x ∷ xs) name e = from_kind x xs name (clock_from xs name) x.kind refl e
