use Rattle.small_read.proofs.Exits.{want}
use Rattle.std.proofs.Common.{Some}
use Rattle.small_read.proofs.reader.take_heading.Goals as goal

pub returns-in_err-behind_word-clause-whole : goal.returns-in_err-behind_word-clause-whole
returns-in_err-behind_word-clause-whole c =
    λ heading rest h lacks.
    absurd (c.in_err-behind_word.ensures.whole h.title h.table_passed)

pub returns-in_err-name-clause-whole : goal.returns-in_err-name-clause-whole
returns-in_err-name-clause-whole c =
    λ heading rest h lacks.
    let word_table = c.in_ok-behind_word.ensures.whole h.title h.table_passed in
    want _ _ _ c.from_residual-in_err-name.result _ c.from_residual-in_err-name.ensures.1
    (c.in_err-name.ensures.whole heading.name h.word_for (rw word_table h.name_read))

pub returns-in_err-behind_word-2-clause-whole : goal.returns-in_err-behind_word-2-clause-whole
returns-in_err-behind_word-2-clause-whole c =
    λ heading rest h lacks.
    let word_table = c.in_ok-behind_word.ensures.whole h.title h.table_passed in
    let name = c.in_ok-name.ensures.whole heading.name h.word_for (rw word_table h.name_read) in
    absurd (c.in_err-behind_word-2.ensures.whole h.root (rw name.1 h.for_passed))

pub returns-in_err-root-clause-whole : goal.returns-in_err-root-clause-whole
returns-in_err-root-clause-whole c =
    λ heading rest h lacks.
    let word_table = c.in_ok-behind_word.ensures.whole h.title h.table_passed in
    let name = c.in_ok-name.ensures.whole heading.name h.word_for (rw word_table h.name_read) in
    let word_for = c.in_ok-behind_word-2.ensures.whole h.root (rw name.1 h.for_passed) in
    want _ _ _ c.from_residual-in_err-root.result _ c.from_residual-in_err-root.ensures.1
    (c.in_err-root.ensures.whole heading.root h.semicolon (rw word_for h.root_read))

pub returns-in_err-behind_semicolon-clause-whole : goal.returns-in_err-behind_semicolon-clause-whole
returns-in_err-behind_semicolon-clause-whole c =
    λ heading rest h lacks.
    let word_table = c.in_ok-behind_word.ensures.whole h.title h.table_passed in
    let name = c.in_ok-name.ensures.whole heading.name h.word_for (rw word_table h.name_read) in
    let word_for = c.in_ok-behind_word-2.ensures.whole h.root (rw name.1 h.for_passed) in
    let root = c.in_ok-root.ensures.whole heading.root h.semicolon (rw word_for h.root_read) in
    absurd (c.in_err-behind_semicolon.ensures.whole h.word_roles (rw root.1 h.semicolon_passed))

pub returns-in_err-behind-clause-whole : goal.returns-in_err-behind-clause-whole
returns-in_err-behind-clause-whole c =
    λ heading rest h lacks.
    let word_table = c.in_ok-behind_word.ensures.whole h.title h.table_passed in
    let name = c.in_ok-name.ensures.whole heading.name h.word_for (rw word_table h.name_read) in
    let word_for = c.in_ok-behind_word-2.ensures.whole h.root (rw name.1 h.for_passed) in
    let root = c.in_ok-root.ensures.whole heading.root h.semicolon (rw word_for h.root_read) in
    let semicolon = c.in_ok-behind_semicolon.ensures.whole h.word_roles (rw root.1 h.semicolon_passed) in
    absurd (c.in_err-behind.ensures.whole h.roles (rw semicolon h.roles_passed))

pub returns-in_err-roles-clause-whole : goal.returns-in_err-roles-clause-whole
returns-in_err-roles-clause-whole c =
    λ heading rest h lacks.
    let word_table = c.in_ok-behind_word.ensures.whole h.title h.table_passed in
    let name = c.in_ok-name.ensures.whole heading.name h.word_for (rw word_table h.name_read) in
    let word_for = c.in_ok-behind_word-2.ensures.whole h.root (rw name.1 h.for_passed) in
    let root = c.in_ok-root.ensures.whole heading.root h.semicolon (rw word_for h.root_read) in
    let semicolon = c.in_ok-behind_semicolon.ensures.whole h.word_roles (rw root.1 h.semicolon_passed) in
    let roles = c.in_ok-behind.ensures.whole h.roles (rw semicolon h.roles_passed) in
    want _ _ _ c.from_residual-in_err-roles.result _ c.from_residual-in_err-roles.ensures.1
    (c.in_err-roles.ensures.whole (record { reset = Some heading.reset; loaded = heading.loaded }) rest (rw roles h.roles_read) lacks)
