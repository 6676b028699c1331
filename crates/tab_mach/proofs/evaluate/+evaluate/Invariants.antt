use Rattle.std.proofs.Common.{◌≡◌, drop}
use Rattle.lola_tree.specs.Tree.{parts_tree}
use Rattle.tab_mach.specs.Known.{names_of, parts_run}
use Rattle.tab_mach.specs.Vectors.{IsRun, joined_run}
use Rattle.tab_mach.proofs.evaluate.+evaluate.Given as goal

-- the parts so far and those left are all
abbrev pub invariant-evaluate_parts-loop-part : goal.invariant-evaluate_parts-loop-part
invariant-evaluate_parts-loop-part l = record {
  value : joined_run l.run (parts_run (names_of l.known) (parts_tree (drop l.part-index l.parts))) ≡ parts_run (names_of l.known) (parts_tree l.parts);
  fits : IsRun l.run;
}
