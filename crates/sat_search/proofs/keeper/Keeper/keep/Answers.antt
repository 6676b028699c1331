use Rattle.std.proofs.Common.{◌≡◌, ◌∙◌, sym, ap, refl, true, ℤ, List}
use Rattle.std.specs.List.{list_all}
use Rattle.lola_bits.proofs.Tests.{not_both}
use Rattle.sat_search.specs.Ranges.{IsLiteral, IsHint, is_literal, is_hint}
use Rattle.sat_search.proofs.Tests.{all_say, all_pass, literal_says, literal_passes, hint_says, hint_passes}
use Rattle.sat_search.proofs.Keeping.{kept_more, none_wrong}
use Rattle.sat_search.proofs.keeper.Keeper.keep.Goals as goal

pub returns-then-not-are_literals-clause-takes : goal.returns-then-not-are_literals-clause-takes
returns-then-not-are_literals-clause-takes c = λ k e.
    not_both (all_pass is_literal IsLiteral literal_passes c.args.clause k.literals)
    (ap (λ (x : List ℤ). list_all is_literal x) (sym c.items.ensures) ∙ sym c.are_literals.ensures ∙ c.if-not-are_literals.true)

pub returns-then-not-are_hints-clause-takes : goal.returns-then-not-are_hints-clause-takes
returns-then-not-are_hints-clause-takes c = λ k e.
    not_both (all_pass is_hint IsHint hint_passes c.args.hints k.ranged)
    (ap (λ (x : List ℤ). list_all is_hint x) (sym c.items-2.ensures) ∙ sym c.are_hints.ensures ∙ c.if-not-are_hints.true)

pub returns-clause-kept : goal.returns-clause-kept
returns-clause-kept c =
    let l : list_all is_literal c.args.clause ≡ true = ap (λ (x : List ℤ). list_all is_literal x) (sym c.items.ensures) ∙ sym c.are_literals.ensures ∙ c.if-not-are_literals.false in
    let h : list_all is_hint c.args.hints ≡ true = ap (λ (x : List ℤ). list_all is_hint x) (sym c.items-2.ensures) ∙ sym c.are_hints.ensures ∙ c.if-not-are_hints.false in
    let a = c.in-Ok-add.ensures in (
      rw c.in-Ok-push.ensures.items (kept_more c.args.cnf.now c.args.self.now.checker.checked c.add.new.self.checked c.args.self.now.lines.items c.args.self.now.count c.in-Ok.id
          (record { literals = c.args.clause }) c.args.hints c.requires.kept c.in-Ok.ensures.0 (none_wrong _ c.in-Ok-add.field-0 (rw (c.items-3.ensures, c.items-4.ensures) at a.answer))
          (rw c.items-3.ensures at a.ok) (c.in-Ok.ensures.1, (all_say is_literal IsLiteral literal_says c.args.clause l, all_say is_hint IsHint hint_says c.args.hints h))),
      refl,
    )
