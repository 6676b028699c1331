use Rattle.std.proofs.Common.{◌≡◌, ◌∙◌, sym, ap, subst, ℤ, pos, List, [], ◌∷◌, ◌++◌, length, get_or, ◌+◌, Ok, Bool}
use Rattle.lrat_check.specs.declared.clause.Clause.{Clause}
use Rattle.sat_search.specs.Kept.{CanBeKept}
use Rattle.sat_search.proofs.Keeping.{first_again, not_refused}
use Rattle.sat_search.proofs.keeper.Keeper.fill.Goals as goal

pub returns-in-Ok-keep : goal.returns-in-Ok-keep
returns-in-Ok-keep c =
    let s = c.args.self.now in
    let clauses = c.args.cnf.now.clauses in
    let first = c.index-items-0.result in
    let id = length clauses + s.count + 1 in
    let clause : c.of.result ≡ first.literals =
    c.of.ensures ∙ c.in-Ok.ensures.items ∙ ap (λ (x : List ℤ). x ++ c.items-2.result.now) c.new-clause.ensures.items ∙ c.items-2.ensures in
    let hints : c.of-2.result ≡ pos 1 ∷ [] = c.of-2.ensures ∙ c.in-Ok-push.ensures.items ∙ ap (λ (x : List ℤ). x ++ pos 1 ∷ []) c.new-hints.ensures.items in
    let place : first ≡ get_or clauses 0 first = c.index-items-0.is ∙ ap (λ (cs : List Clause). get_or cs 0 first) c.items.ensures in
    let good = first_again c.args.cnf.now s.checker.checked s.lines.items s.count first c.requires.kept c.requires.known c.requires.literals c.requires.some place in
    let same = subst (λ (h : List ℤ). CanBeKept s.checker.checked id c.of.result h) (sym hints) (subst (λ (d : List ℤ). CanBeKept s.checker.checked id d (pos 1 ∷ [])) (sym clause) good) in
    not_refused c.args.cnf.now c.keep.new.self s.count c.in-Ok-keep.field-0 c.in-Ok-keep.ensures.kept
    (λ e. c.in-Ok-keep.ensures.takes same (ap (λ (b : Bool). Ok b) e))
