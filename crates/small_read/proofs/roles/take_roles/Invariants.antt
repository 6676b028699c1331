use Rattle.std.proofs.Common.{◌≤◌, List, length}
use Rattle.lola_parse.specs.Symbols.{Item}
use Rattle.small_read.specs.Grammar.{Roles, MoreRoles}
use Rattle.small_read.specs.Kept.{roles_tree}
use Rattle.small_read.specs.Read.{LacksRole, no_roles}
use Rattle.small_read.proofs.roles.take_roles.Given as goal

-- what goes on with the roles so far completes them, and what completes them goes on with them
abbrev pub invariant-roles : goal.invariant-roles
invariant-roles l = record {
  shorter : length l.behind ≤ length l.fn.here;
  reads : (roles : Roles) (rest : List Item) → MoreRoles (roles_tree l.roles) l.behind roles rest → MoreRoles no_roles l.fn.here roles rest;
  whole : (roles : Roles) (rest : List Item) → MoreRoles no_roles l.fn.here roles rest → LacksRole rest →
      MoreRoles (roles_tree l.roles) l.behind roles rest;
}

-- the tokens that are left
abbrev pub decreases-roles : goal.decreases-roles
decreases-roles l = length l.behind
