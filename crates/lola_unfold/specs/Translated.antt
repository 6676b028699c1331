-- An expression over the names of a module as one over signals by their numbers, part for part.
use Rattle.std.specs.Prelude.{ℕ, cond, nat_lt, Option, Some, None}
use Rattle.lola_bits.specs.declared.op.Op.TheVariants as op
use Rattle.lola_tree.specs.declared.named.Count.{Count}
use Rattle.lola_tree.specs.Tree.{Tree, number, whole, bit, slice, index, concat, negation, binary, choice, Parts, no_part, one_part}
use Rattle.lola_tree.specs.Names.{Entry, port, constant, local, Names, ref_name, count_number}
use Rattle.lola_tree.specs.Width.{written_width}
use Rattle.lola_tree.specs.Value.{Path, or_zero}
use Rattle.lola_flat.specs.Tree.{ExprTree, ExprTrees, signal, element, join, repeat, apply, no_expr, one_expr}
use Rattle.lola_flat.specs.Tree as flat

-- the numbers that signals have, by their paths as a module sees them
abbrev pub Numbers : Type 0
Numbers = Path → ℕ

-- counts and widths of well sized designs are at most 1,024; for a greater one stands 0
abbrev pub small : ℕ → ℕ
small n = cond (nat_lt n 1025) n 0

abbrev pub counted : Names → Count → ℕ
counted names c = small (or_zero (count_number names c))

-- what a name stands for: a constant for its number in its width, and any other name for its signal
abbrev pub meant : Option Entry → ℕ → ExprTree
meant None n = signal n
meant (Some (port p)) n = signal n
meant (Some (constant c)) n = flat.number (small (written_width c.width)) c.value
meant (Some (local l)) n = signal n

-- a bit is a slice of one bit, and a part of a concatenation stands as often as it says
abbrev mutual
  pub translated : Names → Numbers → Tree → ExprTree
  translated names numbers (number n written at) = flat.number (small (written_width written)) n
  translated names numbers (whole of) = meant (names (ref_name of)) (numbers of.path)
  translated names numbers (bit of place at) = flat.slice (meant (names (ref_name of)) (numbers of.path)) (counted names place) (counted names place)
  translated names numbers (slice of high low at) = flat.slice (meant (names (ref_name of)) (numbers of.path)) (counted names high) (counted names low)
  translated names numbers (index of place at) = element (numbers of.path) (translated names numbers place)
  translated names numbers (concat parts at) = join (translated_parts names numbers parts)
  translated names numbers (negation e at) = apply op.Not (one_expr (translated names numbers e) no_expr)
  translated names numbers (binary o a b at) = apply o (one_expr (translated names numbers a) (one_expr (translated names numbers b) no_expr))
  translated names numbers (choice test first second at) =
      apply op.Mux (one_expr (translated names numbers test) (one_expr (translated names numbers first) (one_expr (translated names numbers second) no_expr)))

  pub translated_parts : Names → Numbers → Parts → ExprTrees
  translated_parts names numbers no_part = no_expr
  translated_parts names numbers (one_part e times behind) = one_expr (repeat (translated names numbers e) (counted names times)) (translated_parts names numbers behind)
