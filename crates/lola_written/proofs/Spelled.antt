-- What the grammar spells is written: one case for each rule.
use Rattle.std.proofs.Common.{◌≡◌, ℕ, List, [], ◌∷◌, ◌++◌, Some, sym, ap, subst}
use Rattle.std.specs.List.{AllByRecursion}
use Rattle.lola_bits.specs.declared.op.Op.{Op}
use Rattle.lola_bits.specs.declared.op.Op.TheVariants as op
use Rattle.lola_bits.proofs.Options.{some_same, nothing}
use Rattle.lola_bits.proofs.All.{all_more}
use Rattle.lola_tree.specs.declared.named.Count.{Count}
use Rattle.lola_tree.specs.declared.named.Ref.{Ref}
use Rattle.lola_tree.specs.Tree.{Tree, concat, binary, Parts, no_part, one_part, ActualTree, StmtTree, ModuleTree, SourceTree}
use Rattle.lola_parse.specs.declared.symbol.Symbol.{Symbol}
use Rattle.lola_parse.specs.declared.symbol.Symbol.TheVariants as sign
use Rattle.lola_parse.specs.declared.symbol.Language.TheVariants.{Design}
use Rattle.lola_parse.specs.Symbols.{Item}
use Rattle.lola_parse.specs.Grammar.{Reference, plain, source, Expression, one_rel, chosen, Rel, one_sum, related, Sum, sum, Terms, no_term, one_term, Term, term, Factors, no_factor, one_factor, Factor, negated, numbered, named, one_bit, sliced, indexed, joined, shifted, nested, OnePart, part, MoreParts, no_more, one_more, with_part, relation_of, adding_of, shift_of}
use Rattle.lola_parse.specs.Design.{Argument, argument, MoreArguments, no_argument, one_argument, Statement, assigned, placed, called, driven, Optional, empty, one_statement, MoreStatements, no_statement, next_statement, Body, statements, Begun, no_body, begun, OneModule, one_module, MoreModules, no_module, next_module, SpellsSource, spells}
use Rattle.lola_regular.specs.Written.{IsOneName, IsBetween, IsWrittenTree, AreWrittenParts, IsWrittenArgument, IsWrittenStmt, IsWrittenModule, IsWritten}

-- a reference of a design
one_name : (all rest : List Item) (r : Ref) → Reference Design all r rest → IsOneName r
one_name all rest r (plain name at stands is) = (name, ap (λ (k : Ref). k.path) is)
one_name all rest r (source path at first behind table at_sign words more is) = absurd (cc)

-- operators that stand between
relation_between : (s : Symbol) (o : Op) → relation_of s ≡ Some o → IsBetween o
relation_between sign.Equal o e = subst IsBetween (some_same op.Eq o e) tt
relation_between sign.Unequal o e = subst IsBetween (some_same op.Ne o e) tt
relation_between sign.Less o e = subst IsBetween (some_same op.Lt o e) tt
relation_between sign.AtMost o e = subst IsBetween (some_same op.Le o e) tt
relation_between sign.Greater o e = subst IsBetween (some_same op.Gt o e) tt
relation_between sign.AtLeast o e = subst IsBetween (some_same op.Ge o e) tt
relation_between other o e = nothing o e

adding_between : (s : Symbol) (o : Op) → adding_of s ≡ Some o → IsBetween o
adding_between sign.Plus o e = subst IsBetween (some_same op.Add o e) tt
adding_between sign.Minus o e = subst IsBetween (some_same op.Sub o e) tt
adding_between sign.Or o e = subst IsBetween (some_same op.Or o e) tt
adding_between sign.Xor o e = subst IsBetween (some_same op.Xor o e) tt
adding_between other o e = nothing o e

shift_between : (s : Symbol) (o : Op) → shift_of s ≡ Some o → IsBetween o
shift_between sign.Shl o e = subst IsBetween (some_same op.Shl o e) tt
shift_between sign.Shr o e = subst IsBetween (some_same op.Shr o e) tt
shift_between sign.Asr o e = subst IsBetween (some_same op.Asr o e) tt
shift_between sign.Ror o e = subst IsBetween (some_same op.Ror o e) tt
shift_between other o e = nothing o e

-- parts with one more
parts_with : (ps : Parts) (e : Tree) (times : Count) → AreWrittenParts ps → IsWrittenTree e → AreWrittenParts (with_part ps e times)
parts_with no_part e times before here = (here, tt)
parts_with (one_part f n more) e times before here = (before.0, parts_with more e times before.1 here)

abbrev IsWrittenConcat : Parts → Type 0
IsWrittenConcat ps = IsWrittenTree (concat ps 0)

concat_with : (ps : Parts) (e : Tree) (times : Count) → IsWrittenConcat ps → IsWrittenTree e → IsWrittenConcat (with_part ps e times)
concat_with no_part e times before here = absurd before
concat_with (one_part f n more) e times before here = (before.0, parts_with more e times before.1 here)

concat_any : (ps : Parts) (at : ℕ) → IsWrittenConcat ps → IsWrittenTree (concat ps at)
concat_any no_part at written = written
concat_any (one_part e times more) at written = written

-- expressions, rule by rule
mutual
  expression_written : (all rest : List Item) (e : Tree) → Expression Design all e rest → IsWrittenTree e
  expression_written all rest e (one_rel r) = rel_written all rest e r
  expression_written all rest e (chosen {test = test} {first = first} {second = second} arrow then_ colon else_ t arrow_stands f colon_stands s is) =
      subst IsWrittenTree (sym is) (rel_written all arrow test t, expression_written then_ colon first f, expression_written else_ rest second s)

  rel_written : (all rest : List Item) (e : Tree) → Rel Design all e rest → IsWrittenTree e
  rel_written all rest e (one_sum s) = sum_written all rest e s
  rel_written all rest e (related {a = a} {b = b} {symbol = symbol} {o = o} mark behind x stands between y is) =
      subst IsWrittenTree (sym is) (relation_between symbol o between, sum_written all mark a x, sum_written behind rest b y)

  sum_written : (all rest : List Item) (e : Tree) → Sum Design all e rest → IsWrittenTree e
  sum_written all rest e (sum {a = a} behind t more) = terms_written a behind e rest (term_written all behind a t) more

  terms_written : (a : Tree) (all : List Item) (e : Tree) (rest : List Item) → IsWrittenTree a → Terms Design a all e rest → IsWrittenTree e
  terms_written a all e rest before (no_term is ends) = subst IsWrittenTree (sym is) before
  terms_written a all e rest before (one_term {b = b} {symbol = symbol} {o = o} {at = at} first behind stands between t more) =
      terms_written (binary o a b at) behind e rest (adding_between symbol o between, before, term_written first behind b t) more

  term_written : (all rest : List Item) (e : Tree) → Term Design all e rest → IsWrittenTree e
  term_written all rest e (term {a = a} behind f more) = factors_written a behind e rest (factor_written all behind a f) more

  factors_written : (a : Tree) (all : List Item) (e : Tree) (rest : List Item) → IsWrittenTree a → Factors Design a all e rest → IsWrittenTree e
  factors_written a all e rest before (no_factor is ends) = subst IsWrittenTree (sym is) before
  factors_written a all e rest before (one_factor {b = b} {at = at} first behind stands f more) =
      factors_written (binary op.And a b at) behind e rest (tt, before, factor_written first behind b f) more

  factor_written : (all rest : List Item) (e : Tree) → Factor Design all e rest → IsWrittenTree e
  factor_written all rest e (negated {a = a} behind stands f is) = subst IsWrittenTree (sym is) (factor_written behind rest a f)
  factor_written all rest e (numbered stands is) = subst IsWrittenTree (sym is) tt
  factor_written all rest e (named {of = of} r is) = subst IsWrittenTree (sym is) (one_name all rest of r)
  factor_written all rest e (one_bit {of = of} dot behind r stands counted is) = subst IsWrittenTree (sym is) (one_name all dot of r)
  factor_written all rest e (sliced {of = of} bracket first colon second close r opens high colon_stands low closes is) = subst IsWrittenTree (sym is) (one_name all bracket of r)
  factor_written all rest e (indexed {place = place} {of = of} bracket first close r opens x closes is) =
      subst IsWrittenTree (sym is) (one_name all bracket of r, expression_written first close place x)
  factor_written all rest e (joined {a = a} {times = times} {parts = parts} {at = at} first behind close opens one more closes is) =
      subst IsWrittenTree (sym is) (concat_any parts at (parts_written (one_part a times no_part) behind parts close (part_written first behind a times one, tt) more))
  factor_written all rest e (shifted {a = a} {b = b} {symbol = symbol} {o = o} paren first comma second close stands between opens x comma_stands y closes is) =
      subst IsWrittenTree (sym is) (shift_between symbol o between, expression_written first comma a x, expression_written second close b y)
  factor_written all rest e (nested first close opens x closes) = expression_written first close e x

  part_written : (all rest : List Item) (e : Tree) (times : Count) → OnePart Design all e times rest → IsWrittenTree e
  part_written all rest e times (part behind x counted) = expression_written all behind e x

  parts_written : (before : Parts) (all : List Item) (parts : Parts) (rest : List Item) → IsWrittenConcat before → MoreParts Design before all parts rest → IsWrittenConcat parts
  parts_written before all parts rest written (no_more is ends) = subst IsWrittenConcat (sym is) written
  parts_written before all parts rest written (one_more {e = e} {times = times} first behind stands one more) =
      parts_written (with_part before e times) behind parts rest (concat_with before e times written (part_written first behind e times one)) more

-- arguments and statements
argument_written : (all rest : List Item) (a : ActualTree) → Argument all a rest → IsWrittenArgument a
argument_written all rest a (argument e x is) = subst IsWrittenArgument (sym is) (expression_written all rest e x.expr)

arguments_written : (before : List ActualTree) (all : List Item) (args : List ActualTree) (rest : List Item) → AllByRecursion IsWrittenArgument before → MoreArguments before all args rest → AllByRecursion IsWrittenArgument args
arguments_written before all args rest written (no_argument is ends) = subst (AllByRecursion IsWrittenArgument) (sym is) written
arguments_written before all args rest written (one_argument {a = a} first behind stands x more) =
    arguments_written (before ++ a ∷ []) behind args rest (all_more IsWrittenArgument before a written (argument_written first behind a x)) more

statement_written : (all rest : List Item) (t : StmtTree) → Statement all t rest → IsWrittenStmt t
statement_written all rest t (assigned {e = e} mark behind name equals x is) = subst IsWrittenStmt (sym is) (tt, expression_written behind rest e x.expr)
statement_written all rest t (placed {e = e} {place = place} bracket first close mark behind name opens p closes equals x is) =
    subst IsWrittenStmt (sym is) (expression_written first close place p.expr, expression_written behind rest e x.expr)
statement_written all rest t (called {a = a} {args = args} paren first behind close name opens x more closes is) =
    subst IsWrittenStmt (sym is) (arguments_written (a ∷ []) behind args close (argument_written first behind a x, tt) more)
statement_written all rest t (driven {value = value} {release = release} paren first comma second comma2 third comma3 fourth close word opens io comma_stands inner second_stands x third_stands y closes is) =
    subst IsWrittenStmt (sym is) (argument_written third comma3 value x, argument_written fourth close release y)

optional_written : (before : List StmtTree) (all : List Item) (body : List StmtTree) (rest : List Item) → AllByRecursion IsWrittenStmt before → Optional before all body rest → AllByRecursion IsWrittenStmt body
optional_written before all body rest written (empty is ends) = subst (AllByRecursion IsWrittenStmt) (sym is) written
optional_written before all body rest written (one_statement t x is) =
    subst (AllByRecursion IsWrittenStmt) (sym is) (all_more IsWrittenStmt before t written (statement_written all rest t x))

statements_written : (before : List StmtTree) (all : List Item) (body : List StmtTree) (rest : List Item) → AllByRecursion IsWrittenStmt before → MoreStatements before all body rest → AllByRecursion IsWrittenStmt body
statements_written before all body rest written (no_statement is ends) = subst (AllByRecursion IsWrittenStmt) (sym is) written
statements_written before all body rest written (next_statement {longer = longer} first behind stands one more) =
    statements_written longer behind body rest (optional_written before first longer behind written one) more

body_written : (all rest : List Item) (body : List StmtTree) → Body all body rest → AllByRecursion IsWrittenStmt body
body_written all rest body (statements {first = first} behind one more) = statements_written first behind body rest (optional_written [] all first behind tt one) more

begun_written : (all rest : List Item) (body : List StmtTree) → Begun all body rest → AllByRecursion IsWrittenStmt body
begun_written all rest body (no_body is ends) = subst (AllByRecursion IsWrittenStmt) (sym is) tt
begun_written all rest body (begun behind word x) = body_written behind rest body x

-- modules
module_written : (all rest : List Item) (m : ModuleTree) → OneModule all m rest → IsWrittenModule m
module_written all rest m (one_module {body = body} first paren second close semicolon third fourth fifth sixth dot word title opens ports closes ends_head declared x end_word ends dot_stands is) =
    subst IsWrittenModule (sym is) (begun_written fourth fifth body x)

modules_written : (before : List ModuleTree) (all : List Item) (ms : List ModuleTree) (rest : List Item) → AllByRecursion IsWrittenModule before → MoreModules before all ms rest → AllByRecursion IsWrittenModule ms
modules_written before all ms rest written (no_module is ends) = subst (AllByRecursion IsWrittenModule) (sym is) written
modules_written before all ms rest written (next_module {m = m} behind x more) =
    modules_written (before ++ m ∷ []) behind ms rest (all_more IsWrittenModule before m written (module_written all behind m x)) more

pub source_written : (items : List Item) (S : SourceTree) → SpellsSource items S → IsWritten S
source_written items S (spells {m = m} behind x more) = record { modules = modules_written (m ∷ []) behind S.modules [] (module_written items behind m x, tt) more }
