use Rattle.std.proofs.Common.{refl, sym, ◌∙◌, ◌+◌, ap, subst, map, length, string_bytes, arith}
use Rattle.std.proofs.lemmas.List.{length-map}
use Rattle.lola_bits.specs.Lists.{IsAt}
use Rattle.lola_bits.proofs.Places.{get_in}
use Rattle.lola_app.specs.Small.{is_taken}
use Rattle.lola_app.proofs.ShownStates.{shows_register, place_within}
use Rattle.lola_app.proofs.states.shown_state.Goals as goal

pub returns-in_default-clause-none : goal.returns-in_default-clause-none
returns-in_default-clause-none c = λ e small. c.in_default.ensures _ small.shows

pub overflow_add-result : goal.overflow_add-result
overflow_add-result c =
    omega (
      arith,
      place_within string_bytes c.args.face.now.registers.items c.in-Some-place_of.place c.text-2.result.now
          (subst (λ xs. IsAt (map string_bytes xs) c.in-Some-place_of.place c.text-2.result.now) c.as_slice.ensures.value c.in-Some-place_of.ensures),
      ap length c.as_slice-2.ensures.value,
    )

pub returns-clause-ok : goal.returns-clause-ok
returns-clause-ok c =
    let at : IsAt (map string_bytes c.args.face.now.registers.items) c.in-Some-place_of.place c.text-2.result.now =
    subst (λ xs. IsAt (map string_bytes xs) c.in-Some-place_of.place c.text-2.result.now) c.as_slice.ensures.value c.in-Some-place_of.ensures in
    let named = subst (λ n. IsAt (map string_bytes c.args.face.now.registers.items) c.in-Some-place_of.place n) c.text-2.ensures at in
    record {
      small = record {
        declarable = ap is_taken (sym c.text.ensures) ∙ sym c.is_taken.ensures ∙ c.if-is_taken.false;
        one_bit = c.if-not-is_bit.ensures.0 refl;
        shows = shows_register _ _ _ c.in-Some.ensures (get_in _ _ _ named);
      };
      named = c.in_ok-from_str.ensures.ok ∙ c.text-3.ensures;
      register = c.in-Some.register.now;
      place = c.in-Some-place_of.place;
      shows = c.in-Some.ensures;
      at = named;
      leaf = ap (λ n. n + c.in-Some-place_of.place) (ap length c.as_slice-2.ensures.value ∙ sym (length-map c.args.face.now.inputs.items string_bytes));
    }
