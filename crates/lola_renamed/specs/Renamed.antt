-- An expression over names as one over signals by their numbers, part for part: a bit is a slice of one bit, and a
-- part of a concatenation stands as often as it says.
use Rattle.std.specs.Prelude.{ℕ, cond, nat_lt}
use Rattle.lola_bits.specs.declared.op.Op.TheVariants as op
use Rattle.lola_tree.specs.declared.named.Count.{Count}
use Rattle.lola_tree.specs.declared.named.Ref.{Ref}
use Rattle.lola_tree.specs.Tree.{Tree, number, whole, bit, slice, index, concat, negation, binary, choice, Parts, no_part, one_part}
use Rattle.lola_tree.specs.Width.{written_width}
use Rattle.lola_flat.specs.Tree.{ExprTree, ExprTrees, element, join, repeat, apply, no_expr, one_expr}
use Rattle.lola_flat.specs.Tree as flat

-- what names stand for where an expression stands: an expression over signals for each, the number of the signal for
-- one that is an array, and the number of a count
pub record Meant : Type 0 where
  pub vector : Ref → ExprTree
  pub array : Ref → ℕ
  pub count : Count → ℕ

-- counts and widths that suit anything are at most 1,024; for a greater one stands 0
abbrev pub small : ℕ → ℕ
small n = cond (nat_lt n 1025) n 0

abbrev mutual
  pub renamed : Meant → Tree → ExprTree
  renamed names (number n written at) = flat.number (small (written_width written)) n
  renamed names (whole of) = names.vector of
  renamed names (bit of place at) = flat.slice (names.vector of) (names.count place) (names.count place)
  renamed names (slice of high low at) = flat.slice (names.vector of) (names.count high) (names.count low)
  renamed names (index of place at) = element (names.array of) (renamed names place)
  renamed names (concat parts at) = join (renamed_parts names parts)
  renamed names (negation e at) = apply op.Not (one_expr (renamed names e) no_expr)
  renamed names (binary o a b at) = apply o (one_expr (renamed names a) (one_expr (renamed names b) no_expr))
  renamed names (choice test first second at) = apply op.Mux (one_expr (renamed names test) (one_expr (renamed names first) (one_expr (renamed names second) no_expr)))

  pub renamed_parts : Meant → Parts → ExprTrees
  renamed_parts names no_part = no_expr
  renamed_parts names (one_part e times behind) = one_expr (repeat (renamed names e) (names.count times)) (renamed_parts names behind)
