use Rattle.std.proofs.Common.{ℕ, ◌*◌, ◌<◌, false}
use Rattle.lola_flat.specs.Tree.{flat_tree}
use Rattle.lola_flat.specs.Value.{env}
use Rattle.lola_checks.specs.Tree.{check_tree}
use Rattle.lola_asked.specs.Words.{IsViolatedIn}
use Rattle.lola_asked.proofs.least.first_violated.Given as goal

abbrev pub invariant-loop-block : goal.invariant-loop-block
invariant-loop-block l = (c : ℕ) → c < 64 * l.block → IsViolatedIn (flat_tree l.flat) (env l.tables.given.items l.tables.outside.items) l.tables.further.items (check_tree l.check) c false
