use Rattle.std.proofs.Common.{◌≡◌, ◌∙◌, sym, ap, refl, true, ℕ, List, length}
use Rattle.std.specs.List.{list_all}
use Rattle.lrat_check.specs.declared.clause.Clause.{Clause}
use Rattle.lrat_check.specs.Derives.{without_ids}
use Rattle.sat_search.specs.Ranges.{IsId, is_later}
use Rattle.sat_search.proofs.Tests.{all_say, later_id}
use Rattle.sat_search.proofs.Keeping.{kept_less}
use Rattle.sat_search.proofs.keeper.Keeper.let_go.Goals as goal
use Rattle.sat_search.proofs.keeper.Keeper.let_go.Goals.{in-Ok-push, in-Err-push}

pub returns : goal.returns
returns c = elim c.match-push.branch [
  | in-Ok-push w ↦
      let n = length c.args.cnf.now.clauses in
      let i : list_all (is_later n) c.args.ids ≡ true = ap (λ (m : List Clause). list_all (is_later (length m)) c.args.ids) (sym c.items-2.ensures)
      ∙ ap (λ (x : List ℕ). list_all (is_later (length c.items-2.result.now)) x) (sym c.items-3.ensures) ∙ sym c.are_later.ensures ∙ c.if-not-are_later.false in
      rw (w.result-is, w.in-Ok-push.ensures.items) (
        kept_less c.args.cnf.now c.args.self.now.checker.checked c.delete.new.self.checked c.args.self.now.lines.items c.args.self.now.count c.in-Ok.id c.args.ids c.requires.kept
            (c.delete.ensures.checked ∙ ap (λ (x : List ℕ). without_ids c.args.self.now.checker.checked x) c.items-4.ensures) i
            (c.in-Ok.ensures.1, all_say (is_later n) IsId (later_id n) c.args.ids i),
        refl,
      )
  | in-Err-push w ↦ rw w.result-is tt
]
