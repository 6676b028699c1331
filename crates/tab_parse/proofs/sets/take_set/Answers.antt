use Rattle.tab_parse.proofs.Exits.{want}
use Rattle.tab_parse.proofs.Fronts.{assign_no_bracket}
use Rattle.tab_parse.proofs.sets.take_set.Goals as goal

pub returns-in_err-name-clause-whole : goal.returns-in_err-name-clause-whole
returns-in_err-name-clause-whole c =
    λ row rest h ends.
    want _ _ _ c.from_residual.result _ c.from_residual.ensures.1 (c.in_err-name.ensures.whole row.name h.bracket h.name_read tt)

pub returns-in_err-place-clause-whole : goal.returns-in_err-place-clause-whole
returns-in_err-place-clause-whole c =
    λ row rest h ends.
    let s0 = c.in_ok-name.ensures.whole row.name h.bracket h.name_read tt in
    want _ _ _ c.from_residual-in_err-place.result _ c.from_residual-in_err-place.ensures.1 (c.in_err-place.ensures.whole row.place h.sign (rw s0.1 h.place_read) (assign_no_bracket h.sign_passed))

pub returns-in_err-equals-clause-whole : goal.returns-in_err-equals-clause-whole
returns-in_err-equals-clause-whole c =
    λ row rest h ends.
    let s0 = c.in_ok-name.ensures.whole row.name h.bracket h.name_read tt in
    let s1 = c.in_ok-place.ensures.whole row.place h.sign (rw s0.1 h.place_read) (assign_no_bracket h.sign_passed) in
    want _ _ _ c.from_residual-in_err-equals.result _ c.from_residual-in_err-equals.ensures.1 (c.in_err-equals.ensures.whole row.equals h.behind (rw s1.1 h.sign_passed) tt)

pub returns-in_err-value-clause-whole : goal.returns-in_err-value-clause-whole
returns-in_err-value-clause-whole c =
    λ row rest h ends.
    let s0 = c.in_ok-name.ensures.whole row.name h.bracket h.name_read tt in
    let s1 = c.in_ok-place.ensures.whole row.place h.sign (rw s0.1 h.place_read) (assign_no_bracket h.sign_passed) in
    let s2 = c.in_ok-equals.ensures.whole row.equals h.behind (rw s1.1 h.sign_passed) tt in
    want _ _ _ c.from_residual-in_err-value.result _ c.from_residual-in_err-value.ensures.1 (c.in_err-value.ensures.whole row.value rest (rw s2.1 h.value_read) ends)

pub returns-clause-whole : goal.returns-clause-whole
returns-clause-whole c =
    λ row rest h ends.
    let s0 = c.in_ok-name.ensures.whole row.name h.bracket h.name_read tt in
    let s1 = c.in_ok-place.ensures.whole row.place h.sign (rw s0.1 h.place_read) (assign_no_bracket h.sign_passed) in
    let s2 = c.in_ok-equals.ensures.whole row.equals h.behind (rw s1.1 h.sign_passed) tt in
    let s3 = c.in_ok-value.ensures.whole row.value rest (rw s2.1 h.value_read) ends in
    ((λ i. record { name = s0.0 i; place = s1.0 i; equals = s2.0 i; value = s3.0 i }), s3.1)

pub returns-clause-ok : goal.returns-clause-ok
returns-clause-ok c = record {
  bracket = c.in_ok-name.behind;
  sign = c.in_ok-place.behind;
  behind = c.in_ok-equals.behind;
  name_read = c.in_ok-name.ensures.ok;
  place_read = c.in_ok-place.ensures.ok;
  sign_passed = c.in_ok-equals.ensures.ok;
  value_read = c.in_ok-value.ensures.ok;
}
