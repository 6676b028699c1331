use Rattle.std.proofs.Common.{◌≡◌, ◌++◌, map, drop}
use Rattle.lola_parse.specs.Design.{local_of}
use Rattle.lola_parse.proofs.module.add_locals.Given as goal

-- with the locals of the names that are left, all are there
abbrev pub invariant-loop-named : goal.invariant-loop-named
invariant-loop-named l = l.locals.items ++ map (local_of l.kind) (drop l.named-index l.names) ≡ l.fn.locals.items ++ map (local_of l.kind) l.names
