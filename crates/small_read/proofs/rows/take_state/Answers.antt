use Rattle.small_read.proofs.Exits.{want}
use Rattle.small_read.proofs.rows.take_state.Goals as goal

pub returns-in_err-name-clause-whole : goal.returns-in_err-name-clause-whole
returns-in_err-name-clause-whole c =
    λ row rest h.
    want _ _ _ c.from_residual.result _ c.from_residual.ensures.1 (c.in_err-name.ensures.whole row.name h.colon h.name_read)

pub returns-in_err-behind_colon-clause-whole : goal.returns-in_err-behind_colon-clause-whole
returns-in_err-behind_colon-clause-whole c =
    λ row rest h.
    let name = c.in_ok-name.ensures.whole row.name h.colon h.name_read in
    absurd (c.in_err-behind_colon.ensures.whole h.behind (rw name.1 h.colon_passed))

pub returns-in_err-shape-clause-whole : goal.returns-in_err-shape-clause-whole
returns-in_err-shape-clause-whole c =
    λ row rest h.
    let name = c.in_ok-name.ensures.whole row.name h.colon h.name_read in
    let colon = c.in_ok-behind_colon.ensures.whole h.behind (rw name.1 h.colon_passed) in
    want _ _ _ c.from_residual-in_err-shape.result _ c.from_residual-in_err-shape.ensures.1
    (c.in_err-shape.ensures.whole row.shape h.word (rw colon h.shape_read))

pub returns-in_err-behind_word-clause-whole : goal.returns-in_err-behind_word-clause-whole
returns-in_err-behind_word-clause-whole c =
    λ row rest h.
    let name = c.in_ok-name.ensures.whole row.name h.colon h.name_read in
    let colon = c.in_ok-behind_colon.ensures.whole h.behind (rw name.1 h.colon_passed) in
    let shape = c.in_ok-shape.ensures.whole row.shape h.word (rw colon h.shape_read) in
    absurd (c.in_err-behind_word.ensures.whole h.first (rw shape.1 h.word_passed))

pub returns-in_err-shown-clause-whole : goal.returns-in_err-shown-clause-whole
returns-in_err-shown-clause-whole c =
    λ row rest h.
    let name = c.in_ok-name.ensures.whole row.name h.colon h.name_read in
    let colon = c.in_ok-behind_colon.ensures.whole h.behind (rw name.1 h.colon_passed) in
    let shape = c.in_ok-shape.ensures.whole row.shape h.word (rw colon h.shape_read) in
    let word = c.in_ok-behind_word.ensures.whole h.first (rw shape.1 h.word_passed) in
    want _ _ _ c.from_residual-in_err-shown.result _ c.from_residual-in_err-shown.ensures.1
    (c.in_err-shown.ensures.whole row.shown rest (rw word h.shown_read))

pub returns-clause-whole : goal.returns-clause-whole
returns-clause-whole c =
    λ row rest h.
    let name = c.in_ok-name.ensures.whole row.name h.colon h.name_read in
    let colon = c.in_ok-behind_colon.ensures.whole h.behind (rw name.1 h.colon_passed) in
    let shape = c.in_ok-shape.ensures.whole row.shape h.word (rw colon h.shape_read) in
    let word = c.in_ok-behind_word.ensures.whole h.first (rw shape.1 h.word_passed) in
    let shown = c.in_ok-shown.ensures.whole row.shown rest (rw word h.shown_read) in
    ((λ i. record { name = name.0 i; shape = shape.0 i; shown = shown.0 i }), shown.1)
