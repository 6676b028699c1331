-- The text that a tree is printed as: its tokens in the order of the grammar, each with a blank behind
-- it, but that a line feed stands behind `;`, behind BEGIN and behind the `.` that ends a module.
use Rattle.std.specs.Prelude.{ℕ, Bool, true, false, cond, List, [], ◌∷◌, ◌++◌, Option, Some, None, nat_eq, nat_lt, bytes_eq, decimal, codes}
use Rattle.lola_bits.specs.declared.op.Op.{Op}
use Rattle.lola_bits.specs.declared.op.Op.TheVariants as op
use Rattle.lola_tree.specs.declared.named.Count.{Count}
use Rattle.lola_tree.specs.declared.named.Count.TheVariants.{Fixed, Const}
use Rattle.lola_tree.specs.declared.named.Ref.{Ref}
use Rattle.lola_tree.specs.declared.named.Shape.{Shape}
use Rattle.lola_tree.specs.declared.named.Shape.TheVariants.{Vector, Array}
use Rattle.lola_tree.specs.declared.module.Way.{Way}
use Rattle.lola_tree.specs.declared.module.Way.TheVariants.{Inward, Outward, Both}
use Rattle.lola_tree.specs.declared.module.Port.{Port}
use Rattle.lola_tree.specs.declared.module.Const.{Const as Constant}
use Rattle.lola_tree.specs.declared.module.LocalKind.{LocalKind}
use Rattle.lola_tree.specs.declared.module.LocalKind.TheVariants.{Reg, Var, Inst}
use Rattle.lola_tree.specs.declared.module.Local.{Local}
use Rattle.lola_tree.specs.Tree.{Tree, number, whole, bit, slice, index, concat, negation, binary, choice, Parts, no_part, one_part, ActualTree, StmtTree, assignment, call, pad, ModuleTree, SourceTree}

-- a name
abbrev pub name_text : List ℕ → List ℕ
name_text name = name ++ codes " "

-- a number in decimal digits, with its width where it has one
abbrev pub number_text : ℕ → Option ℕ → List ℕ
number_text value None = decimal value ++ codes " "
number_text value (Some width) = decimal value ++ (codes "'" ++ (decimal width ++ codes " "))

abbrev pub count_text : Count → List ℕ
count_text (Fixed value at) = number_text value None
count_text (Const name) = name_text name.name

-- the names of a path, with what stands before the first
abbrev pub path_text : List ℕ → List (List ℕ) → List ℕ
path_text before [] = []
path_text before (name ∷ names) = before ++ (name_text name ++ path_text (codes ". ") names)

abbrev pub ref_text : Ref → List ℕ
ref_text r = path_text (cond r.source (codes "@ ") []) r.path

-- how often a part stands there, unless that is once
abbrev pub times_text : Count → List ℕ
times_text (Fixed value at) = cond (nat_eq value 1) [] (codes "! " ++ number_text value None)
times_text (Const name) = codes "! " ++ name_text name.name

abbrev pub is_shift : Op → Bool
is_shift op.Shl = true
is_shift op.Shr = true
is_shift op.Asr = true
is_shift op.Ror = true
is_shift other = false

-- the token of an operator; no binary expression is a negation or a choice
abbrev pub sign_text : Op → List ℕ
sign_text op.And = codes "& "
sign_text op.Or = codes "| "
sign_text op.Xor = codes "^ "
sign_text op.Add = codes "+ "
sign_text op.Sub = codes "- "
sign_text op.Eq = codes "= "
sign_text op.Ne = codes "# "
sign_text op.Lt = codes "< "
sign_text op.Le = codes "<= "
sign_text op.Gt = codes "> "
sign_text op.Ge = codes ">= "
sign_text op.Shl = codes "SHL "
sign_text op.Shr = codes "SHR "
sign_text op.Asr = codes "ASR "
sign_text op.Ror = codes "ROR "
sign_text op.Not = []
sign_text op.Mux = []

-- how tightly an expression holds together: 0 a choice, 1 a relation, 2 a sum, 3 a product, 4 all else
abbrev pub op_tightness : Op → ℕ
op_tightness op.And = 3
op_tightness op.Or = 2
op_tightness op.Xor = 2
op_tightness op.Add = 2
op_tightness op.Sub = 2
op_tightness op.Eq = 1
op_tightness op.Ne = 1
op_tightness op.Lt = 1
op_tightness op.Le = 1
op_tightness op.Gt = 1
op_tightness op.Ge = 1
op_tightness other = 4

abbrev pub tightness : Tree → ℕ
tightness (binary o a b at) = op_tightness o
tightness (choice test first second at) = 0
tightness other = 4

-- how tightly the grammar wants the sides of an operator to hold together: sums and products group to
-- the left, and relations don't group
abbrev pub left_needs : Op → ℕ
left_needs op.And = 3
left_needs other = 2

abbrev pub right_needs : Op → ℕ
right_needs op.And = 4
right_needs op.Or = 3
right_needs op.Xor = 3
right_needs op.Add = 3
right_needs op.Sub = 3
right_needs other = 2

-- in parentheses where the grammar wants what holds together more tightly
abbrev pub closed : ℕ → ℕ → List ℕ → List ℕ
closed needed tight text = cond (nat_lt tight needed) (codes "( " ++ (text ++ codes ") ")) text

abbrev mutual
  -- an expression
  pub expr_text : Tree → List ℕ
  expr_text (number value width at) = number_text value width
  expr_text (whole r) = ref_text r
  expr_text (bit r place at) = ref_text r ++ (codes ". " ++ count_text place)
  expr_text (slice r high low at) = ref_text r ++ (codes "[ " ++ (count_text high ++ (codes ": " ++ (count_text low ++ codes "] "))))
  expr_text (index r place at) = ref_text r ++ (codes "[ " ++ (expr_text place ++ codes "] "))
  expr_text (concat parts at) = parts_text (codes "{ ") parts ++ codes "} "
  expr_text (negation arg at) = codes "~ " ++ closed 4 (tightness arg) (expr_text arg)
  expr_text (binary o a b at) =
      cond (is_shift o) (sign_text o ++ (codes "( " ++ (expr_text a ++ (codes ", " ++ (expr_text b ++ codes ") ")))))
      (closed (left_needs o) (tightness a) (expr_text a) ++ (sign_text o ++ closed (right_needs o) (tightness b) (expr_text b)))
  expr_text (choice test first second at) =
      closed 1 (tightness test) (expr_text test) ++ (codes "-> " ++ (expr_text first ++ (codes ": " ++ expr_text second)))

  -- the parts of a concatenation, with what stands before the first
  pub parts_text : List ℕ → Parts → List ℕ
  parts_text before no_part = []
  parts_text before (one_part e times more) = before ++ (expr_text e ++ (times_text times ++ parts_text (codes ", ") more))

-- the word of a width that has one
abbrev pub width_word : Count → Option (List ℕ)
width_word (Fixed value at) =
    cond (nat_eq value 1) (Some (codes "BIT ")) (cond (nat_eq value 8) (Some (codes "BYTE ")) (cond (nat_eq value 32) (Some (codes "WORD ")) None))
width_word (Const name) = None

-- a count in brackets
abbrev pub bracket_text : Count → List ℕ
bracket_text n = codes "[ " ++ (count_text n ++ codes "] ")

-- a width as a word, or in brackets
abbrev pub vector_text : Count → Option (List ℕ) → List ℕ
vector_text width (Some word) = word
vector_text width None = bracket_text width ++ codes "BIT "

-- of an array's widths 8 and 32 alone are words
abbrev pub array_word : Count → Option (List ℕ)
array_word (Fixed value at) = cond (nat_eq value 8) (Some (codes "BYTE ")) (cond (nat_eq value 32) (Some (codes "WORD ")) None)
array_word (Const name) = None

abbrev pub shape_text : Shape → List ℕ
shape_text (Vector width) = vector_text width (width_word width)
shape_text (Array count width) = bracket_text count ++ vector_text width (array_word width)

abbrev pub way_text : Way → List ℕ
way_text Inward = codes "IN "
way_text Outward = codes "OUT "
way_text Both = codes "INOUT "

abbrev pub port_text : Port → List ℕ
port_text p = way_text p.way ++ (name_text p.name ++ (codes ": " ++ shape_text p.shape))

-- ports, each a group of its own, with what stands before the first
abbrev pub ports_text : List ℕ → List Port → List ℕ
ports_text before [] = []
ports_text before (p ∷ ports) = before ++ (port_text p ++ ports_text (codes ";\n") ports)

abbrev pub const_text : Constant → List ℕ
const_text c = name_text c.name ++ (codes ":= " ++ (number_text c.value c.width ++ codes ";\n"))

-- constants, with what stands before the first
abbrev pub consts_text : List ℕ → List Constant → List ℕ
consts_text before [] = []
consts_text before (c ∷ consts) = before ++ (const_text c ++ consts_text [] consts)

-- the head of a list of locals
abbrev pub head_text : LocalKind → List ℕ
head_text (Reg clock type) = codes "REG ( " ++ (name_text clock.name ++ codes ") ")
head_text (Var type) = codes "VAR "
head_text (Inst of) = codes "VAR "

-- what a local is, behind its name
abbrev pub kind_text : LocalKind → List ℕ
kind_text (Reg clock type) = shape_text type
kind_text (Var type) = shape_text type
kind_text (Inst of) = name_text of.name

abbrev pub local_text : Local → List ℕ
local_text l = name_text l.name ++ (codes ": " ++ (kind_text l.kind ++ codes ";\n"))

-- a local stands under the head of the one before it: registers of one clock do, and so do variables
-- and instances
abbrev pub shares_head : LocalKind → LocalKind → Bool
shares_head (Reg clock type) (Reg other t) = bytes_eq clock.name other.name
shares_head (Reg clock type) (Var t) = false
shares_head (Reg clock type) (Inst m) = false
shares_head (Var type) (Reg other t) = false
shares_head (Var type) (Var t) = true
shares_head (Var type) (Inst m) = true
shares_head (Inst of) (Reg other t) = false
shares_head (Inst of) (Var t) = true
shares_head (Inst of) (Inst m) = true

-- the locals behind one of this kind
abbrev pub more_locals : LocalKind → List Local → List ℕ
more_locals before [] = []
more_locals before (l ∷ locals) = cond (shares_head before l.kind) [] (head_text l.kind) ++ (local_text l ++ more_locals l.kind locals)

abbrev pub locals_text : List Local → List ℕ
locals_text [] = []
locals_text (l ∷ locals) = head_text l.kind ++ (local_text l ++ more_locals l.kind locals)

-- the place of an assignment, where it has one
abbrev pub place_text : Option ActualTree → List ℕ
place_text None = []
place_text (Some place) = codes "[ " ++ (expr_text place.value ++ codes "] ")

-- arguments, with what stands before the first
abbrev pub args_text : List ℕ → List ActualTree → List ℕ
args_text before [] = []
args_text before (a ∷ args) = before ++ (expr_text a.value ++ args_text (codes ", ") args)

abbrev pub pad_text : List ℕ → List ℕ → Tree → Tree → List ℕ
pad_text io inner value release =
    codes "TS ( "
    ++ (name_text io ++ (codes ", " ++ (name_text inner ++ (codes ", " ++ (expr_text value ++ (codes ", " ++ (expr_text release ++ codes ") ")))))))

abbrev pub stmt_text : StmtTree → List ℕ
stmt_text (assignment name place value at equals) = name_text name ++ (place_text place ++ (codes ":= " ++ expr_text value))
stmt_text (call name args at) = name_text name ++ (args_text (codes "( ") args ++ codes ") ")
stmt_text (pad io inner value release at) = pad_text io.name inner.name value.value release.value

-- statements, with what stands before the first
abbrev pub body_text : List ℕ → List StmtTree → List ℕ
body_text before [] = []
body_text before (t ∷ body) = before ++ (stmt_text t ++ body_text (codes ";\n") body)

-- the name of a module and its ports
abbrev pub title_text : ModuleTree → List ℕ
title_text m = codes "MODULE " ++ (name_text m.name ++ (codes "( " ++ (ports_text [] m.ports ++ codes ") ;\n")))

abbrev pub module_text : ModuleTree → List ℕ
module_text m =
    title_text m
    ++ (consts_text (codes "CONST ") m.consts ++ (locals_text m.locals ++ (body_text (codes "BEGIN\n") m.body ++ (codes "END " ++ (name_text m.ends.name ++ codes ".\n")))))

abbrev pub modules_text : List ModuleTree → List ℕ
modules_text [] = []
modules_text (m ∷ modules) = module_text m ++ modules_text modules

-- a design
abbrev pub source_text : SourceTree → List ℕ
source_text s = modules_text s.modules
