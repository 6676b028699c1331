use Rattle.std.proofs.Common.{◌≤◌, length, List, []}
use Rattle.lola_parse.specs.Symbols.{Item}
use Rattle.lola_tree.specs.declared.module.Const.{Const}
use Rattle.lola_tree.specs.declared.module.Local.{Local}
use Rattle.lola_parse.specs.Design.{Declarations}
use Rattle.lola_parse.specs.MayEnd.{DeclarationsEnd}
use Rattle.lola_parse.proofs.module.declarations.Given as goal

-- what goes on with the declarations so far completes them
abbrev pub invariant-parts : goal.invariant-parts
invariant-parts l = record {
  shorter : length l.behind ≤ length l.fn.here;
  whole : (consts : List Const) (locals : List Local) (rest : List Item) → Declarations [] [] l.fn.here consts locals rest → DeclarationsEnd rest →
      Declarations l.consts.items l.locals.items l.behind consts locals rest;
  reads : (consts : List Const) (locals : List Local) (rest : List Item) → Declarations l.consts.items l.locals.items l.behind consts locals rest →
      Declarations [] [] l.fn.here consts locals rest;
}

abbrev pub decreases-parts : goal.decreases-parts
decreases-parts l = length l.behind
