use Rattle.std.proofs.Common.{length, map}
use Rattle.lola_tree.specs.Tree.{SourceTree, module_tree}
use Rattle.std.proofs.Common.{[]}
use Rattle.lola_parse.specs.Design.{MoreModules, SpellsSource}
use Rattle.lola_parse.proofs.Suffix.{Ends}
use Rattle.lola_parse.proofs.module.source.Given as goal

-- what goes on with the modules so far, to the end, completes them
abbrev pub invariant-modules : goal.invariant-modules
invariant-modules l = record {
  ends : Ends l.fn.here l.behind;
  whole : (t : SourceTree) → SpellsSource l.fn.here t → MoreModules (map module_tree l.modules.items) l.behind t.modules [];
  reads : (t : SourceTree) → MoreModules (map module_tree l.modules.items) l.behind t.modules [] → SpellsSource l.fn.here t;
}

abbrev pub decreases-modules : goal.decreases-modules
decreases-modules l = length l.behind
