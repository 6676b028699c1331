use Rattle.obl_rows.proofs.Shown.{word_fits, states_fit, word_holds, states_hold}
use Rattle.tab_tree.specs.Registers.{source_forms, source_names}
use Rattle.obl_rows.specs.Registers.{registers_from}
use Rattle.obl_rows.proofs.laws.what_is_shown.Goals as goal

pub returns-clause-fits : goal.returns-clause-fits
returns-clause-fits c = λ S W from e w sized written rows wide.
    c.expressions_mean.ensures.fits W (source_forms S) (registers_from S from) e w (c.registers_are_rows.ensures.widths S W from sized written rows) wide

pub returns-clause-value : goal.returns-clause-value
returns-clause-value c = λ S W N from s e w sized written rows holds state wide.
    c.expressions_mean.ensures.value W N (source_forms S) (source_names S s) (registers_from S from) e w (c.registers_are_rows.ensures.widths S W from sized written rows)
    (c.names_have_forms.ensures.registers S s state) (c.registers_are_rows.ensures.values S N from s sized written holds) wide

pub returns-clause-word_fits : goal.returns-clause-word_fits
returns-clause-word_fits c = λ S T W from sized written rows fit.
    let are = c.registers_are_rows.ensures.widths S W from sized written rows in
    word_fits S W from are (λ e w wide. c.expressions_mean.ensures.fits W (source_forms S) (registers_from S from) e w are wide) T fit

pub returns-clause-word : goal.returns-clause-word
returns-clause-word c = λ S T W N from s sized written rows holds state fit.
    let are = c.registers_are_rows.ensures.widths S W from sized written rows in
    let held = c.registers_are_rows.ensures.values S N from s sized written holds in
    word_holds S W from are (λ e w wide. c.expressions_mean.ensures.fits W (source_forms S) (registers_from S from) e w are wide) N s held
    (λ e w wide. c.expressions_mean.ensures.value W N (source_forms S) (source_names S s) (registers_from S from) e w are (c.names_have_forms.ensures.registers S s state) held wide) T fit

pub returns-clause-states_fit : goal.returns-clause-states_fit
returns-clause-states_fit c = λ S T W from sized written rows fit.
    let are = c.registers_are_rows.ensures.widths S W from sized written rows in
    states_fit S W from are (λ e w wide. c.expressions_mean.ensures.fits W (source_forms S) (registers_from S from) e w are wide) T fit

pub returns-clause-states : goal.returns-clause-states
returns-clause-states c = λ S T W N from s sized written rows holds state fit.
    let are = c.registers_are_rows.ensures.widths S W from sized written rows in
    let held = c.registers_are_rows.ensures.values S N from s sized written holds in
    states_hold S W from are (λ e w wide. c.expressions_mean.ensures.fits W (source_forms S) (registers_from S from) e w are wide) N s held
    (λ e w wide. c.expressions_mean.ensures.value W N (source_forms S) (source_names S s) (registers_from S from) e w are (c.names_have_forms.ensures.registers S s state) held wide) T fit
