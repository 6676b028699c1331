use Rattle.small_read.proofs.Exits.{wants}
use Rattle.small_read.proofs.Fronts.{state_no_role, end_no_class}
use Rattle.small_read.proofs.Tables.{parts, table_spelled}
use Rattle.small_read.proofs.reader.whole_table.Goals as goal

pub returns-in_err-heading-clause-none : goal.returns-in_err-heading-clause-none
returns-in_err-heading-clause-none c =
    λ none T h.
    let p = parts h in
    wants c.from_residual.result _ c.from_residual.ensures.1
    (c.in_err-heading.ensures.whole p.heading p.word_state p.headed (state_no_role p.viewed.state_passed)) none

pub returns-in_err-views-clause-none : goal.returns-in_err-views-clause-none
returns-in_err-views-clause-none c =
    λ none T h.
    let p = parts h in
    let heading = c.in_ok-heading.ensures.whole p.heading p.word_state p.headed (state_no_role p.viewed.state_passed) in
    wants c.from_residual-in_err-views.result _ c.from_residual-in_err-views.ensures.1
    (c.in_err-views.ensures.whole p.views p.word_start (rw heading.1 p.viewed)) none

pub returns-in_err-effects-clause-none : goal.returns-in_err-effects-clause-none
returns-in_err-effects-clause-none c =
    λ none T h.
    let p = parts h in
    let heading = c.in_ok-heading.ensures.whole p.heading p.word_state p.headed (state_no_role p.viewed.state_passed) in
    let views = c.in_ok-views.ensures.whole p.views p.word_start (rw heading.1 p.viewed) in
    wants c.from_residual-in_err-effects.result _ c.from_residual-in_err-effects.ensures.1
    (c.in_err-effects.ensures.whole p.effects p.word_end (rw views.1 p.effected) (end_no_class p.ending.end_passed)) none

pub returns-in_err-ends-clause-none : goal.returns-in_err-ends-clause-none
returns-in_err-ends-clause-none c =
    λ none T h.
    let p = parts h in
    let heading = c.in_ok-heading.ensures.whole p.heading p.word_state p.headed (state_no_role p.viewed.state_passed) in
    let views = c.in_ok-views.ensures.whole p.views p.word_start (rw heading.1 p.viewed) in
    let effects = c.in_ok-effects.ensures.whole p.effects p.word_end (rw views.1 p.effected) (end_no_class p.ending.end_passed) in
    wants c.from_residual-in_err-ends.result _ c.from_residual-in_err-ends.ensures.1 (c.in_err-ends.ensures.whole T.ends (rw effects.1 p.ending)) none

pub returns-clause-ok : goal.returns-clause-ok
returns-clause-ok c =
    rw (c.of.ensures, c.of-2.ensures, c.of-3.ensures)
    (table_spelled c.in_ok-heading.ensures.ok c.in_ok-views.ensures.ok c.in_ok-effects.ensures.ok c.in_ok-ends.ensures.ok)
