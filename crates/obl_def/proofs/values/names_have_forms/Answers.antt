use Rattle.obl_def.proofs.Shown.{source_has}
use Rattle.obl_def.proofs.ClassForms.{class_has}
use Rattle.obl_def.proofs.values.names_have_forms.Goals as goal

pub returns-clause-registers : goal.returns-clause-registers
returns-clause-registers c = λ S s state. source_has S s state

pub returns-clause-class : goal.returns-clause-class
returns-clause-class c = λ S T b loads turns A i m counts k forms registers old word words count shown.
    class_has c.what_numbers_elements.ensures S T b loads turns A i m counts k forms registers old word words count shown
