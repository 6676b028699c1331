-- Lines behind lines.
use Rattle.std.proofs.Common.{◌≡◌, ◌↔◌, Bool, true, false, cond, ◌||◌, List, [], ◌∷◌, ◌++◌, refl, sym, ◌∙◌}
use Rattle.std.proofs.lemmas.List.Folds.{list_any-append}
use Rattle.lrat_check.specs.declared.clause.Cnf.{Cnf}
use Rattle.lrat_check.specs.declared.line.Line.{Line}
use Rattle.lrat_check.specs.declared.line.Line.TheVariants.{Add, Delete}
use Rattle.lrat_check.specs.Clauses.{clauses_of, is_empty, has_empty}
use Rattle.lrat_check.specs.Good.{Checked}
use Rattle.lrat_check.specs.Derives.{checked_cnf, after, after_all, AreGood, added, Derives}

pub goes_on : (lines more : List Line) (base : Checked) → after_all base (lines ++ more) ≡ after_all (after_all base lines) more
goes_on [] more base = refl
goes_on (line ∷ lines) more base = goes_on lines more (after base line)

pub good_both : (lines more : List Line) (base : Checked) → AreGood base lines × AreGood (after_all base lines) more → AreGood base (lines ++ more)
good_both [] more base g = g.1
good_both (line ∷ lines) more base g = (g.0.0, good_both lines more (after base line) (g.0.1, g.1))

pub good_parts : (lines more : List Line) (base : Checked) → AreGood base (lines ++ more) → AreGood base lines × AreGood (after_all base lines) more
good_parts [] more base g = (tt, g)
good_parts (line ∷ lines) more base g = let p = good_parts lines more (after base line) g.1 in ((g.0, p.0), p.1)

one_of : (a b c : Bool) → (cond a true b || c) ≡ (b || (a || c))
one_of true true c = refl
one_of true false c = refl
one_of false true c = refl
one_of false false c = refl

or_none : (b : Bool) → (b || false) ≡ b
or_none true = refl
or_none false = refl

closed_after : (lines : List Line) (base : Checked) → (after_all base lines).closed ≡ (base.closed || has_empty (added lines))
closed_after [] base = sym (or_none base.closed)
closed_after (Add id clause hints ∷ lines) base = closed_after lines (after base (Add id clause hints)) ∙ one_of (is_empty clause.literals) base.closed (has_empty (added lines))
closed_after (Delete id ids ∷ lines) base = closed_after lines (after base (Delete id ids))

closed_is : (cnf : Cnf) (lines : List Line) → (after_all (checked_cnf cnf) lines).closed ≡ has_empty (clauses_of cnf.clauses ++ added lines)
closed_is cnf lines = closed_after lines (checked_cnf cnf) ∙ sym (list_any-append is_empty (clauses_of cnf.clauses) (added lines))

pub closes_where : (cnf : Cnf) (lines : List Line) → AreGood (checked_cnf cnf) lines → (after_all (checked_cnf cnf) lines).closed ≡ true ↔ Derives cnf lines
closes_where cnf lines good = (λ c. record { good = good; closes = sym (closed_is cnf lines) ∙ c }, λ d. closed_is cnf lines ∙ d.closes)
