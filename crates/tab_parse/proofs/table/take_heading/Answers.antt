use Rattle.tab_parse.proofs.Exits.{want}
use Rattle.std.proofs.Common.{map, ap, ◌∙◌}
use Rattle.tab_parse.specs.Placed.{role_at}
use Rattle.tab_parse.proofs.table.take_heading.Goals as goal

pub returns-in_err-behind-clause-whole : goal.returns-in_err-behind-clause-whole
returns-in_err-behind-clause-whole c =
    λ heading rest h ends.
    absurd (c.in_err-behind.ensures.whole h.title h.table_passed)

pub returns-in_err-name-clause-whole : goal.returns-in_err-name-clause-whole
returns-in_err-name-clause-whole c =
    λ heading rest h ends.
    let s0 = c.in_ok-behind.ensures.whole h.title h.table_passed in
    want _ _ _ c.from_residual-in_err-name.result _ c.from_residual-in_err-name.ensures.1 (c.in_err-name.ensures.whole heading.name h.word_for (rw s0 h.name_read) tt)

pub returns-in_err-behind-2-clause-whole : goal.returns-in_err-behind-2-clause-whole
returns-in_err-behind-2-clause-whole c =
    λ heading rest h ends.
    let s0 = c.in_ok-behind.ensures.whole h.title h.table_passed in
    let s1 = c.in_ok-name.ensures.whole heading.name h.word_for (rw s0 h.name_read) tt in
    absurd (c.in_err-behind-2.ensures.whole h.root (rw s1.1 h.for_passed))

pub returns-in_err-root-clause-whole : goal.returns-in_err-root-clause-whole
returns-in_err-root-clause-whole c =
    λ heading rest h ends.
    let s0 = c.in_ok-behind.ensures.whole h.title h.table_passed in
    let s1 = c.in_ok-name.ensures.whole heading.name h.word_for (rw s0 h.name_read) tt in
    let s2 = c.in_ok-behind-2.ensures.whole h.root (rw s1.1 h.for_passed) in
    want _ _ _ c.from_residual-in_err-root.result _ c.from_residual-in_err-root.ensures.1 (c.in_err-root.ensures.whole heading.root h.semicolon (rw s2 h.root_read) tt)

pub returns-in_err-behind-3-clause-whole : goal.returns-in_err-behind-3-clause-whole
returns-in_err-behind-3-clause-whole c =
    λ heading rest h ends.
    let s0 = c.in_ok-behind.ensures.whole h.title h.table_passed in
    let s1 = c.in_ok-name.ensures.whole heading.name h.word_for (rw s0 h.name_read) tt in
    let s2 = c.in_ok-behind-2.ensures.whole h.root (rw s1.1 h.for_passed) in
    let s3 = c.in_ok-root.ensures.whole heading.root h.semicolon (rw s2 h.root_read) tt in
    absurd (c.in_err-behind-3.ensures.whole h.word_roles (rw s3.1 h.semicolon_passed))

pub returns-in_err-behind-4-clause-whole : goal.returns-in_err-behind-4-clause-whole
returns-in_err-behind-4-clause-whole c =
    λ heading rest h ends.
    let s0 = c.in_ok-behind.ensures.whole h.title h.table_passed in
    let s1 = c.in_ok-name.ensures.whole heading.name h.word_for (rw s0 h.name_read) tt in
    let s2 = c.in_ok-behind-2.ensures.whole h.root (rw s1.1 h.for_passed) in
    let s3 = c.in_ok-root.ensures.whole heading.root h.semicolon (rw s2 h.root_read) tt in
    let s4 = c.in_ok-behind-3.ensures.whole h.word_roles (rw s3.1 h.semicolon_passed) in
    absurd (c.in_err-behind-4.ensures.whole h.roles (rw s4 h.roles_passed))

pub returns-in_err-roles-clause-whole : goal.returns-in_err-roles-clause-whole
returns-in_err-roles-clause-whole c =
    λ heading rest h ends.
    let s0 = c.in_ok-behind.ensures.whole h.title h.table_passed in
    let s1 = c.in_ok-name.ensures.whole heading.name h.word_for (rw s0 h.name_read) tt in
    let s2 = c.in_ok-behind-2.ensures.whole h.root (rw s1.1 h.for_passed) in
    let s3 = c.in_ok-root.ensures.whole heading.root h.semicolon (rw s2 h.root_read) tt in
    let s4 = c.in_ok-behind-3.ensures.whole h.word_roles (rw s3.1 h.semicolon_passed) in
    let s5 = c.in_ok-behind-4.ensures.whole h.roles (rw s4 h.roles_passed) in
    want _ _ _ c.from_residual-in_err-roles.result _ c.from_residual-in_err-roles.ensures.1 (c.in_err-roles.ensures.whole heading.roles rest (rw s5 h.roles_read) ends)

pub returns-clause-whole : goal.returns-clause-whole
returns-clause-whole c =
    λ heading rest h ends.
    let s0 = c.in_ok-behind.ensures.whole h.title h.table_passed in
    let s1 = c.in_ok-name.ensures.whole heading.name h.word_for (rw s0 h.name_read) tt in
    let s2 = c.in_ok-behind-2.ensures.whole h.root (rw s1.1 h.for_passed) in
    let s3 = c.in_ok-root.ensures.whole heading.root h.semicolon (rw s2 h.root_read) tt in
    let s4 = c.in_ok-behind-3.ensures.whole h.word_roles (rw s3.1 h.semicolon_passed) in
    let s5 = c.in_ok-behind-4.ensures.whole h.roles (rw s4 h.roles_passed) in
    let s6 = c.in_ok-roles.ensures.whole heading.roles rest (rw s5 h.roles_read) ends in
    ((λ i. record { name = s1.0 i; root = s3.0 i; roles = (ap (map role_at) c.of.ensures ∙ s6.0) i }), s6.1)

pub returns-clause-ok : goal.returns-clause-ok
returns-clause-ok c = record {
  title = c.in_ok-behind.behind;
  word_for = c.in_ok-name.behind;
  root = c.in_ok-behind-2.behind;
  semicolon = c.in_ok-root.behind;
  word_roles = c.in_ok-behind-3.behind;
  roles = c.in_ok-behind-4.behind;
  table_passed = c.in_ok-behind.ensures.ok;
  name_read = c.in_ok-name.ensures.ok;
  for_passed = c.in_ok-behind-2.ensures.ok;
  root_read = c.in_ok-root.ensures.ok;
  semicolon_passed = c.in_ok-behind-3.ensures.ok;
  roles_passed = c.in_ok-behind-4.ensures.ok;
  roles_read = rw c.of.ensures c.in_ok-roles.ensures.ok;
}
