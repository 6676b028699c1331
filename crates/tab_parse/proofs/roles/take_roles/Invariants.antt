use Rattle.std.proofs.Common.{◌≡◌, ◌≤◌, false, List, [], length, map}
use Rattle.lola_parse.specs.Symbols.{Item}
use Rattle.tab_parse.specs.Placed.{RoleAt, role_at}
use Rattle.tab_parse.specs.Grammar.{More, RoleRow}
use Rattle.tab_parse.specs.Fronts.{at_role}
use Rattle.tab_parse.proofs.roles.take_roles.Given as goal

-- what goes on with the rows so far completes them, and what completes them goes on with them
abbrev pub invariant-rows : goal.invariant-rows
invariant-rows l = record {
  shorter : length l.behind ≤ length l.fn.here;
  reads : (rows : List RoleAt) (rest : List Item) → More RoleRow (map role_at l.rows.items) l.behind rows rest → More RoleRow [] l.fn.here rows rest;
  whole : (rows : List RoleAt) (rest : List Item) → More RoleRow [] l.fn.here rows rest → at_role rest ≡ false → More RoleRow (map role_at l.rows.items) l.behind rows rest;
}

-- the tokens that are left
abbrev pub decreases-rows : goal.decreases-rows
decreases-rows l = length l.behind
