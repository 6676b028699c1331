use Rattle.std.proofs.Common.{◌≤◌}
use Rattle.lola_tree.specs.Value.{Path}
use Rattle.lola_tree.specs.design.Signals.{signal_paths}
use Rattle.lola_design.specs.Paths.{count}
use Rattle.lola_design.specs.Regular.{IsRegular}
use Rattle.lola_states.proofs.Counted.{nothing, nothing_is_state, nothing_is_given}
use Rattle.lola_states.proofs.Named.{named_alike, wide_alike}
use Rattle.lola_states.proofs.laws.free_has_names.Goals as goal

pub returns-clause-names : goal.returns-clause-names
returns-clause-names c = λ S F sized written is small.
    let regular : IsRegular S = c.well_sized_is_regular.ensures S sized written in
    let once : (x : Path) → count x (signal_paths S) ≤ 1 = λ x. c.one_path.ensures S x regular.names in
    let given = c.what_is_given.ensures.given S F nothing nothing sized written is (nothing_is_state S) (nothing_is_given S) in
    (named_alike S F is regular once given c.what_numbers_elements.ensures (c.types_suit.ensures S sized written) (c.elaborated_is_formed.ensures S F sized written is small)).all

pub returns-clause-widths : goal.returns-clause-widths
returns-clause-widths c = λ S F sized written is.
    let regular : IsRegular S = c.well_sized_is_regular.ensures S sized written in
    let once : (x : Path) → count x (signal_paths S) ≤ 1 = λ x. c.one_path.ensures S x regular.names in
    let given = c.what_is_given.ensures.given S F nothing nothing sized written is (nothing_is_state S) (nothing_is_given S) in
    (wide_alike S F is regular once given c.what_numbers_elements.ensures (c.types_suit.ensures S sized written)).all

pub returns-clause-input_names : goal.returns-clause-input_names
returns-clause-input_names c = λ S F sized written is small.
    let regular : IsRegular S = c.well_sized_is_regular.ensures S sized written in
    let once : (x : Path) → count x (signal_paths S) ≤ 1 = λ x. c.one_path.ensures S x regular.names in
    let given = c.what_is_given.ensures.given S F nothing nothing sized written is (nothing_is_state S) (nothing_is_given S) in
    (named_alike S F is regular once given c.what_numbers_elements.ensures (c.types_suit.ensures S sized written) (c.elaborated_is_formed.ensures S F sized written is small)).inputs

pub returns-clause-input_widths : goal.returns-clause-input_widths
returns-clause-input_widths c = λ S F sized written is.
    let regular : IsRegular S = c.well_sized_is_regular.ensures S sized written in
    let once : (x : Path) → count x (signal_paths S) ≤ 1 = λ x. c.one_path.ensures S x regular.names in
    let given = c.what_is_given.ensures.given S F nothing nothing sized written is (nothing_is_state S) (nothing_is_given S) in
    (wide_alike S F is regular once given c.what_numbers_elements.ensures (c.types_suit.ensures S sized written)).inputs

pub returns-clause-register_names : goal.returns-clause-register_names
returns-clause-register_names c = λ S F sized written is small.
    let regular : IsRegular S = c.well_sized_is_regular.ensures S sized written in
    let once : (x : Path) → count x (signal_paths S) ≤ 1 = λ x. c.one_path.ensures S x regular.names in
    let given = c.what_is_given.ensures.given S F nothing nothing sized written is (nothing_is_state S) (nothing_is_given S) in
    (named_alike S F is regular once given c.what_numbers_elements.ensures (c.types_suit.ensures S sized written) (c.elaborated_is_formed.ensures S F sized written is small)).registers

pub returns-clause-register_widths : goal.returns-clause-register_widths
returns-clause-register_widths c = λ S F sized written is.
    let regular : IsRegular S = c.well_sized_is_regular.ensures S sized written in
    let once : (x : Path) → count x (signal_paths S) ≤ 1 = λ x. c.one_path.ensures S x regular.names in
    let given = c.what_is_given.ensures.given S F nothing nothing sized written is (nothing_is_state S) (nothing_is_given S) in
    (wide_alike S F is regular once given c.what_numbers_elements.ensures (c.types_suit.ensures S sized written)).registers
