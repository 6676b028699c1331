-- How often paths come, and the paths of signals of some kinds.
use Rattle.std.specs.Prelude.{ℕ, ◌+◌, Bool, true, false, ◌&&◌, if◌then◌else◌, bytes_eq, List, [], ◌∷◌, ◌++◌, map}
use Rattle.lola_tree.specs.Value.{Path}
use Rattle.lola_tree.specs.design.Signals.{Kind, clock, input, pad, wire, register, Signal}
use Rattle.lola_tree.specs.design.Equations.{Equation, Update}

abbrev pub path_eq : Path → Path → Bool
path_eq [] [] = true
path_eq [] (y ∷ ys) = false
path_eq (x ∷ xs) [] = false
path_eq (x ∷ xs) (y ∷ ys) = bytes_eq x y && path_eq xs ys

abbrev pub one_if : Bool → ℕ
one_if true = 1
one_if false = 0

-- how often a path comes
abbrev pub count : Path → List Path → ℕ
count x [] = 0
count x (y ∷ ys) = one_if (path_eq y x) + count x ys

-- the left sides of equations and of updates
abbrev pub lefts : List Equation → List Path
lefts es = map (λ (e : Equation). e.left) es

abbrev pub update_lefts : List Update → List Path
update_lefts us = map (λ (u : Update). u.left) us

-- what has an equation: a wire or a pad
abbrev pub has_equation : Kind → Bool
has_equation clock = false
has_equation input = false
has_equation pad = true
has_equation wire = true
has_equation register = false

abbrev pub is_register : Kind → Bool
is_register clock = false
is_register input = false
is_register pad = false
is_register wire = false
is_register register = true

-- the paths of the signals of some kinds, in order
abbrev pub paths_where : (Kind → Bool) → List Signal → List Path
paths_where test [] = []
paths_where test (x ∷ xs) = (if test x.kind then x.path ∷ [] else []) ++ paths_where test xs
