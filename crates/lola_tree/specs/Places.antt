-- Trees without their places. Two trees are the same up to places where these are equal.
use Rattle.std.specs.Prelude.{map, Option, Some, None}
use Rattle.lola_tree.specs.declared.named.Named.{Named}
use Rattle.lola_tree.specs.declared.named.Count.{Count}
use Rattle.lola_tree.specs.declared.named.Count.TheVariants as count
use Rattle.lola_tree.specs.declared.named.Ref.{Ref}
use Rattle.lola_tree.specs.declared.named.Shape.{Shape}
use Rattle.lola_tree.specs.declared.named.Shape.TheVariants as shape
use Rattle.lola_tree.specs.declared.module.Port.{Port}
use Rattle.lola_tree.specs.declared.module.Const.{Const}
use Rattle.lola_tree.specs.declared.module.LocalKind.{LocalKind}
use Rattle.lola_tree.specs.declared.module.LocalKind.TheVariants.{Reg, Var, Inst}
use Rattle.lola_tree.specs.declared.module.Local.{Local}
use Rattle.lola_tree.specs.Tree.{Tree, number, whole, bit, slice, index, concat, negation, binary, choice, Parts, no_part, one_part, ActualTree, StmtTree, assignment, call, pad, ModuleTree, SourceTree}

abbrev pub placeless_name : Named → Named
placeless_name n = record { name = n.name; at = 0 }

abbrev pub placeless_count : Count → Count
placeless_count (count.Fixed value at) = count.Fixed value 0
placeless_count (count.Const name) = count.Const (placeless_name name)

abbrev pub placeless_ref : Ref → Ref
placeless_ref r = record { source = r.source; path = r.path; at = 0 }

abbrev mutual
  pub placeless : Tree → Tree
  placeless (number value width at) = number value width 0
  placeless (whole r) = whole (placeless_ref r)
  placeless (bit r place at) = bit (placeless_ref r) (placeless_count place) 0
  placeless (slice r high low at) = slice (placeless_ref r) (placeless_count high) (placeless_count low) 0
  placeless (index r place at) = index (placeless_ref r) (placeless place) 0
  placeless (concat parts at) = concat (placeless_parts parts) 0
  placeless (negation e at) = negation (placeless e) 0
  placeless (binary o a b at) = binary o (placeless a) (placeless b) 0
  placeless (choice test first second at) = choice (placeless test) (placeless first) (placeless second) 0

  pub placeless_parts : Parts → Parts
  placeless_parts no_part = no_part
  placeless_parts (one_part e times more) = one_part (placeless e) (placeless_count times) (placeless_parts more)

abbrev pub placeless_shape : Shape → Shape
placeless_shape (shape.Vector width) = shape.Vector (placeless_count width)
placeless_shape (shape.Array n width) = shape.Array (placeless_count n) (placeless_count width)

abbrev pub placeless_port : Port → Port
placeless_port p = record { way = p.way; name = p.name; shape = placeless_shape p.shape; at = 0 }

abbrev pub placeless_const : Const → Const
placeless_const c = record { name = c.name; value = c.value; width = c.width; at = 0; number_at = 0 }

abbrev pub placeless_kind : LocalKind → LocalKind
placeless_kind (Reg clock type) = Reg (placeless_name clock) (placeless_shape type)
placeless_kind (Var type) = Var (placeless_shape type)
placeless_kind (Inst of) = Inst (placeless_name of)

abbrev pub placeless_local : Local → Local
placeless_local l = record { kind = placeless_kind l.kind; name = l.name; at = 0 }

abbrev pub placeless_actual : ActualTree → ActualTree
placeless_actual a = record { value = placeless a.value; at = 0 }

abbrev pub placeless_place : Option ActualTree → Option ActualTree
placeless_place None = None
placeless_place (Some a) = Some (placeless_actual a)

abbrev pub placeless_stmt : StmtTree → StmtTree
placeless_stmt (assignment name place value at equals) = assignment name (placeless_place place) (placeless value) 0 0
placeless_stmt (call name args at) = call name (map placeless_actual args) 0
placeless_stmt (pad io inner value release at) = pad (placeless_name io) (placeless_name inner) (placeless_actual value) (placeless_actual release) 0

abbrev pub placeless_module : ModuleTree → ModuleTree
placeless_module m = record {
  name = m.name;
  ports = map placeless_port m.ports;
  consts = map placeless_const m.consts;
  locals = map placeless_local m.locals;
  body = map placeless_stmt m.body;
  ends = placeless_name m.ends;
  at = 0;
}

abbrev pub placeless_source : SourceTree → SourceTree
placeless_source s = record { modules = map placeless_module s.modules }
