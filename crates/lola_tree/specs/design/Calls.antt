-- How instances are called: the arguments of an instance are those of the statement that calls it.
use Rattle.std.specs.Prelude.{ℕ, if◌then◌else◌, bytes_eq, List, [], ◌∷◌}
use Rattle.lola_tree.specs.Tree.{Tree, number, whole, bit, slice, index, concat, negation, binary, choice, ActualTree, StmtTree, assignment, call, pad}
use Rattle.lola_tree.specs.Names.{first_name}
use Rattle.lola_tree.specs.Value.{Path}

-- the arguments of the call of an instance, by its name
abbrev pub args_of : List StmtTree → List ℕ → List ActualTree
args_of [] name = []
args_of (assignment other place value at equals ∷ body) name = args_of body name
args_of (call other args at ∷ body) name = if bytes_eq other name then args else args_of body name
args_of (pad io inner value release at ∷ body) name = args_of body name

-- the path that an expression is, where it is a bare name
abbrev pub bare_path : Tree → Path
bare_path (number n written at) = []
bare_path (whole of) = of.path
bare_path (bit of place at) = []
bare_path (slice of high low at) = []
bare_path (index of place at) = []
bare_path (concat parts at) = []
bare_path (negation arg at) = []
bare_path (binary op left right at) = []
bare_path (choice test first second at) = []

-- the name that it is
abbrev pub bare_name : Tree → List ℕ
bare_name e = first_name (bare_path e)
