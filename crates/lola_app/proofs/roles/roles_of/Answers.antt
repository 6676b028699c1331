use Rattle.std.proofs.Common.{refl, sym, ◌∙◌, subst, map, string_bytes}
use Rattle.lola_bits.specs.Lists.{IsAt}
use Rattle.lola_bits.proofs.Names.{is_other_name}
use Rattle.lola_app.proofs.Places.{both_roles, one_role}
use Rattle.lola_app.proofs.roles.roles_of.Goals as goal

pub returns-in-Some-place_of-clause-ok : goal.returns-in-Some-place_of-clause-ok
returns-in-Some-place_of-clause-ok c =
    both_roles _ _ _ c.in-Some-place_of.leaf c.in-Some-loaded.port c.in-Some-loaded.is refl
    (subst (λ p. IsAt (map string_bytes c.args.inputs.now) c.in-Some.reset p) c.text.ensures c.in-Some.ensures)
    (subst (λ p. IsAt (map string_bytes c.args.inputs.now) c.in-Some-place_of.leaf p) c.text-in-Some-loaded-3.ensures c.in-Some-place_of.ensures)
    (λ e. is_other_name _ _ (sym c.if-eq.ensures) (c.text-in-Some-loaded.ensures ∙ e ∙ sym c.text-in-Some-loaded-2.ensures))

pub returns-in-None-clause-ok : goal.returns-in-None-clause-ok
returns-in-None-clause-ok c =
    one_role _ _ _ c.in-None.is refl (subst (λ p. IsAt (map string_bytes c.args.inputs.now) c.in-Some.reset p) c.text.ensures c.in-Some.ensures)
