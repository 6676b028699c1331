-- What names stand for in a module. Where a name is declared twice, its first declaration in the text counts.
use Rattle.std.specs.Prelude.{ℕ, cond, nat_lt, bytes_eq, List, [], ◌∷◌, ◌++◌, map, Option, Some, None}
use Rattle.lola_tree.specs.declared.named.Count.{Count}
use Rattle.lola_tree.specs.declared.named.Count.TheVariants as count
use Rattle.lola_tree.specs.declared.named.Ref.{Ref}
use Rattle.lola_tree.specs.declared.named.Shape.{Shape}
use Rattle.lola_tree.specs.declared.module.Port.{Port}
use Rattle.lola_tree.specs.declared.module.Const.{Const}
use Rattle.lola_tree.specs.declared.module.LocalKind.{LocalKind}
use Rattle.lola_tree.specs.declared.module.LocalKind.TheVariants.{Reg, Var, Inst}
use Rattle.lola_tree.specs.declared.module.Local.{Local}
use Rattle.lola_tree.specs.Tree.{ModuleTree}

-- a declaration
pub data Entry : Type 0 where
  port : (declared : Port) → Entry
  constant : (declared : Const) → Entry
  local : (declared : Local) → Entry

abbrev pub entry_name : Entry → List ℕ
entry_name (port p) = p.name
entry_name (constant c) = c.name
entry_name (local l) = l.name

-- the place of the declared name
abbrev pub entry_at : Entry → ℕ
entry_at (port p) = p.at
entry_at (constant c) = c.at
entry_at (local l) = l.at

-- the declarations of a module: ports, constants and local names, each in text order
abbrev pub entries : ModuleTree → List Entry
entries m = map port m.ports ++ (map constant m.consts ++ map local m.locals)

-- what each name stands for
abbrev pub Names : Type 0
Names = List ℕ → Option Entry

-- the earlier of two declarations
abbrev pub earlier : Option Entry → Option Entry → Option Entry
earlier None other = other
earlier (Some e) None = Some e
earlier (Some e) (Some f) = cond (nat_lt (entry_at f) (entry_at e)) (Some f) (Some e)

-- the earliest declaration of a name
abbrev pub first_named : List Entry → Names
first_named [] name = None
first_named (e ∷ more) name = earlier (cond (bytes_eq (entry_name e) name) (Some e) None) (first_named more name)

abbrev pub names_of : ModuleTree → Names
names_of m = first_named (entries m)

-- the name that a reference of a design has
abbrev pub first_name : List (List ℕ) → List ℕ
first_name [] = []
first_name (name ∷ more) = name

abbrev pub ref_name : Ref → List ℕ
ref_name r = first_name r.path

-- the number of a constant
abbrev pub constant_number : Option Entry → Option ℕ
constant_number None = None
constant_number (Some (port p)) = None
constant_number (Some (constant c)) = Some c.value
constant_number (Some (local l)) = None

-- the number of a count
abbrev pub count_number : Names → Count → Option ℕ
count_number names (count.Fixed value at) = Some value
count_number names (count.Const name) = constant_number (names name.name)

-- the type of a register or variable
abbrev pub kind_shape : LocalKind → Option Shape
kind_shape (Reg clock shape) = Some shape
kind_shape (Var shape) = Some shape
kind_shape (Inst of) = None

-- the type of a name that has one
abbrev pub entry_shape : Entry → Option Shape
entry_shape (port p) = Some p.shape
entry_shape (constant c) = None
entry_shape (local l) = kind_shape l.kind
