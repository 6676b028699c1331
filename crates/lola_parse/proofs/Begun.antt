-- Faults by the tokens before them: how those of a rule follow from those of the rule that it calls.
use Rattle.std.proofs.Common.{◌≡◌, ℕ, true, false, List, [], ◌∷◌, ◌++◌, length, Result, Ok, Err, None, refl, sym, ap, subst, ◌∙◌}
use Rattle.std.proofs.lemmas.List.{append_assoc}
use Rattle.std.specs.Result.{IsErrAnd, IfErr}
use Rattle.lola_tree.specs.declared.named.Count.TheVariants as count
use Rattle.lola_parse.specs.declared.symbol.Symbol.{Symbol}
use Rattle.lola_parse.specs.declared.symbol.Symbol.TheVariants as s
use Rattle.lola_parse.specs.declared.symbol.Language.{Language}
use Rattle.lola_parse.specs.declared.fault.Fault.{Fault}
use Rattle.lola_parse.specs.declared.fault.Fault.TheVariants as fault
use Rattle.lola_parse.specs.Symbols.{Item}
use Rattle.lola_parse.specs.Grammar.{Passes, Counted, fixed, no_word, Reference, plain, once, Expression, Factor, numbered}
use Rattle.lola_parse.specs.Behind.{PathBehind}
use Rattle.lola_parse.specs.Long.{Any, AnyTerms, AnyFactors, AnyParts, AnyTimes, Begins, StopsBy, FailsBy}
use Rattle.lola_parse.proofs.Local.{Rule, Local, Then, no_terms, no_factors, no_parts, rel_of, sum_alone, sum_of, term_of}

-- a run with which a rule is whole
pub record Runs (R : Rule) : Type 0 where
  pub run : List Item
  pub whole : (x : List Item) → R (run ++ x) x

-- one run and then another
infixr 20 ◌then◌
pub ◌then◌ : {A B : Rule} → Runs A → Runs B → Runs (Then A B)
◌then◌ {A = A} {B = B} a b =
    record {
      run = a.run ++ b.run;
      whole = λ x. subst (λ all. Then A B all x) (sym (append_assoc a.run b.run x)) record { mid = b.run ++ x; first = a.whole (b.run ++ x); second = b.whole x };
    }

pub runs_as : {A B : Rule} → ((a r : List Item) → A a r → B a r) → Runs A → Runs B
runs_as make r = record { run = r.run; whole = λ x. make (r.run ++ x) x (r.whole x) }

-- the shortest runs: a symbol, a number without a width, a name, a word, or nothing
pub symbol_runs : (symbol : Symbol) → Runs (Passes symbol)
symbol_runs symbol =
    record {
      run = record { symbol = symbol; is_word = false; spelled = []; at = 0 } ∷ [];
      whole = λ x. (0, record { is_word = false; spelled = []; splits = refl });
    }

pub count_runs : {l : Language} → Runs (Any (Counted l))
count_runs = runs_as (λ a r h. (_, fixed 0 h.0 h.1 refl)) (symbol_runs (s.Number 0 None))

pub factor_runs : {l : Language} → Runs (Any (Factor l))
factor_runs = runs_as (λ a r h. (_, numbered h.1 refl)) (symbol_runs (s.Number 0 None))

pub reference_runs : {l : Language} → Runs (Any (Reference l))
reference_runs =
    record {
      run = record { symbol = s.Name; is_word = true; spelled = []; at = 0 } ∷ [];
      whole = λ x. (_, plain [] 0 record { is_word = true; splits = refl } refl);
    }

pub path_runs : Runs (Any PathBehind)
path_runs =
    record {
      run = record { symbol = s.Name; is_word = true; spelled = []; at = 0 } ∷ [];
      whole = λ x. (
        [] ∷ [],
        record { word = []; behind = x; first = record { symbol = s.Name; at = 0; no_number = refl; splits = refl }; more = no_word refl refl },
      );
    }

pub no_terms_runs : {l : Language} → Runs (AnyTerms l)
no_terms_runs = record { run = []; whole = no_terms }

pub no_factors_runs : {l : Language} → Runs (AnyFactors l)
no_factors_runs = record { run = []; whole = no_factors }

pub no_parts_runs : {l : Language} → Runs (AnyParts l)
no_parts_runs = record { run = []; whole = no_parts }

pub no_times_runs : {l : Language} → Runs (AnyTimes l)
no_times_runs = record { run = []; whole = λ x at. (count.Fixed 1 at, once refl refl) }

pub expression_runs : {l : Language} → Runs (Any (Expression l))
expression_runs = runs_as rel_of (runs_as sum_alone (runs_as sum_of (runs_as term_of (factor_runs then no_factors_runs) then no_terms_runs)))

-- no token is read, and the rule may begin
pub begins_here : {R : Rule} {all : List Item} → Runs R → Begins R all (length all)
begins_here {all = all} r = record { run = []; behind = all; more = r.run; splits = refl; count = refl; whole = r.whole }

pub begins_as : {A B : Rule} {all : List Item} {left : ℕ} → ((a r : List Item) → A a r → B a r) → Begins A all left → Begins B all left
begins_as make h = record { run = h.run; behind = h.behind; more = h.more; splits = h.splits; count = h.count; whole = λ x. make _ x (h.whole x) }

-- what was read before it
pub begins_then : {A B : Rule} {all mid : List Item} {left : ℕ} → Local A all mid → Begins B mid left → Begins (Then A B) all left
begins_then {A = A} {B = B} k h =
    record {
      run = k.run ++ h.run;
      behind = h.behind;
      more = h.more;
      splits = k.splits ∙ (ap (λ m. k.run ++ m) h.splits ∙ sym (append_assoc k.run h.run h.behind));
      count = h.count;
      whole = λ x.
          subst (λ a. Then A B a x) (sym (append_assoc k.run h.run (h.more ++ x)))
          record { mid = h.run ++ (h.more ++ x); first = k.anew (h.run ++ (h.more ++ x)); second = h.whole x };
    }

-- what may stand behind it
pub begins_before : {A B : Rule} {all : List Item} {left : ℕ} → Runs B → Begins A all left → Begins (Then A B) all left
begins_before {A = A} {B = B} b h =
    record {
      run = h.run;
      behind = h.behind;
      more = h.more ++ b.run;
      splits = h.splits;
      count = h.count;
      whole = λ x.
          subst (λ m. Then A B (h.run ++ m) x) (sym (append_assoc h.more b.run x))
          record { mid = b.run ++ x; first = h.whole (b.run ++ x); second = b.whole x };
    }

-- the fault at the front
pub fails_here : (R : Rule) (floor : ℕ) (all : List Item) (f : Fault) → Runs R → f ≡ fault.Syntax (length all) → FailsBy R floor all f
fails_here R floor all f r is = subst (FailsBy R floor all) (sym is) (begins_here r)

pub stops_here : (R : Rule) (all : List Item) (f : Fault) → Runs R → f ≡ fault.Syntax (length all) → StopsBy R all f
stops_here R all f r is = subst (StopsBy R all) (sym is) (begins_here r)

-- the fault of a call
pub fails_by : {A B : Rule} {all mid : List Item} (floor : ℕ) → ((left : ℕ) → Begins A mid left → Begins B all left) → (f : Fault) → FailsBy A floor mid f →
    FailsBy B floor all f
fails_by floor make (fault.Syntax left) h = make left h
fails_by floor make (fault.Long left) h = (h.0, h.1, h.2, make _ h.3)
fails_by floor make fault.Memory h = tt

pub stops_by : {A B : Rule} {all mid : List Item} → ((left : ℕ) → Begins A mid left → Begins B all left) → (f : Fault) → StopsBy A mid f → StopsBy B all f
stops_by make (fault.Syntax left) h = make left h
stops_by make (fault.Long left) h = h
stops_by make fault.Memory h = tt

-- a rule that never is too long
pub fails_short : (R : Rule) (floor : ℕ) (all : List Item) (f : Fault) → StopsBy R all f → FailsBy R floor all f
fails_short R floor all (fault.Syntax left) h = h
fails_short R floor all (fault.Long left) h = absurd h
fails_short R floor all fault.Memory h = tt

-- what `?` hands on
pub hands_on : {X : Type 0} (P : Fault → Type 0) (f : Fault) (r : Result X Fault) → IsErrAnd r (λ g. g ≡ f) → P f → IfErr r P
hands_on P f (Ok x) h p = tt
hands_on P f (Err g) h p = subst P (sym h) p

pub fails_on : {X : Type 0} {A B : Rule} {all mid : List Item} (floor : ℕ) (f : Fault) (r : Result X Fault) → ((left : ℕ) → Begins A mid left → Begins B all left) →
    IsErrAnd r (λ g. g ≡ f) → FailsBy A floor mid f → IfErr r (FailsBy B floor all)
fails_on {B = B} {all = all} floor f r make h p = hands_on (FailsBy B floor all) f r h (fails_by floor make f p)

-- of a call that never is too long
pub fails_on_short : {X : Type 0} {A B : Rule} {all mid : List Item} (floor : ℕ) (f : Fault) (r : Result X Fault) →
    ((left : ℕ) → Begins A mid left → Begins B all left) → IsErrAnd r (λ g. g ≡ f) → StopsBy A mid f → IfErr r (FailsBy B floor all)
fails_on_short {A = A} {mid = mid} floor f r make h p = fails_on floor f r make h (fails_short A floor mid f p)

-- of a symbol that doesn't stand there
pub fails_at : {X : Type 0} {symbol : Symbol} {B : Rule} {all mid : List Item} (floor : ℕ) (f : Fault) (r : Result X Fault) →
    ((left : ℕ) → Begins (Passes symbol) mid left → Begins B all left) → IsErrAnd r (λ g. g ≡ f) → f ≡ fault.Syntax (length mid) → IfErr r (FailsBy B floor all)
fails_at {symbol = symbol} {mid = mid} floor f r make h is = fails_on floor f r make h (fails_here (Passes symbol) floor mid f (symbol_runs symbol) is)

pub stops_on : {X : Type 0} {A B : Rule} {all mid : List Item} (f : Fault) (r : Result X Fault) → ((left : ℕ) → Begins A mid left → Begins B all left) →
    IsErrAnd r (λ g. g ≡ f) → StopsBy A mid f → IfErr r (StopsBy B all)
stops_on {B = B} {all = all} f r make h p = hands_on (StopsBy B all) f r h (stops_by make f p)

pub stops_at : {X : Type 0} {symbol : Symbol} {B : Rule} {all mid : List Item} (f : Fault) (r : Result X Fault) →
    ((left : ℕ) → Begins (Passes symbol) mid left → Begins B all left) → IsErrAnd r (λ g. g ≡ f) → f ≡ fault.Syntax (length mid) → IfErr r (StopsBy B all)
stops_at {symbol = symbol} {mid = mid} f r make h is = stops_on f r make h (stops_here (Passes symbol) mid f (symbol_runs symbol) is)

-- of a call whose answer is the answer
pub fails_in : {X : Type 0} {A B : Rule} {all mid : List Item} (floor : ℕ) (r : Result X Fault) → ((left : ℕ) → Begins A mid left → Begins B all left) →
    IfErr r (FailsBy A floor mid) → IfErr r (FailsBy B floor all)
fails_in floor (Ok x) make h = tt
fails_in floor (Err f) make h = fails_by floor make f h

pub fails_in_short : {X : Type 0} {A B : Rule} {all mid : List Item} (floor : ℕ) (r : Result X Fault) → ((left : ℕ) → Begins A mid left → Begins B all left) →
    IfErr r (StopsBy A mid) → IfErr r (FailsBy B floor all)
fails_in_short floor (Ok x) make h = tt
fails_in_short {A = A} {mid = mid} floor (Err f) make h = fails_by floor make f (fails_short A floor mid f h)

pub stops_in : {X : Type 0} {A B : Rule} {all mid : List Item} (r : Result X Fault) → ((left : ℕ) → Begins A mid left → Begins B all left) → IfErr r (StopsBy A mid) →
    IfErr r (StopsBy B all)
stops_in (Ok x) make h = tt
stops_in (Err f) make h = stops_by make f h
