-- Lemmas on classes: what they begin with, and what stands behind their parts.
use Rattle.std.proofs.Common.{◌≡◌, ℕ, true, false, List, refl, ap, subst}
use Rattle.std.specs.Prelude.{codes}
use Rattle.lola_parse.specs.declared.symbol.Symbol.TheVariants as s
use Rattle.lola_parse.specs.Symbols.{Item}
use Rattle.lola_parse.specs.MayEnd.{Before}
use Rattle.tab_parse.specs.Placed.{PhaseAt, SetAt, ClassAt}
use Rattle.tab_parse.specs.Grammar.{Keyword, More, no_row, one_row, SetLine, PhaseList, ClassRow, outside, inside, OutsideBehind, InsideBehind}
use Rattle.tab_parse.specs.Fronts.{at_word, at_class, is_keyword, spelling, EndsClass}
use Rattle.tab_parse.proofs.Fronts.{keyword_one, keyword_at}
use Rattle.tab_parse.proofs.Parts.{clash}

pub class_begins : {class : ClassAt} {all rest : List Item} → ClassRow all class rest → at_class all ≡ true
class_begins (outside first word read) = rw word.1.splits refl
class_begins (inside first word read) = rw word.1.splits refl

-- at END stands no word of tables
pub end_no_word : (all : List Item) (word : List ℕ) → Before s.End all → at_word word all ≡ false
end_no_word all word h = ap (λ symbol. is_keyword word symbol (spelling all)) h

pub end_no_class : (all : List Item) → Before s.End all → at_class all ≡ false
end_no_class all h = rw (end_no_word all (codes "CLASS") h) (end_no_word all (codes "OUTSIDE") h)

-- behind a class stands another or END
pub classes_end : {before classes : List ClassAt} {all rest : List Item} → More ClassRow before all classes rest → Before s.End rest → EndsClass all
classes_end {all = all} (no_row e f) h =
    let p = subst (Before s.End) f h in
    record { no_phase = end_no_word all (codes "PHASE") p; no_set = end_no_word all (codes "SET") p }
classes_end (one_row behind (outside first word read) more) h =
    record { no_phase = keyword_at (codes "PHASE") word refl; no_set = keyword_at (codes "SET") word refl }
classes_end (one_row behind (inside first word read) more) h =
    record { no_phase = keyword_at (codes "PHASE") word refl; no_set = keyword_at (codes "SET") word refl }

-- behind the LETs stands a phase, and behind the phases a SET or the end
pub phases_no_let : {phases : List PhaseAt} {all rest : List Item} → PhaseList all phases rest → at_word (codes "LET") all ≡ false
phases_no_let h = keyword_at (codes "LET") h.first_read.word_passed refl

pub sets_no_phase : {before rows : List SetAt} {all rest : List Item} → More SetLine before all rows rest → at_word (codes "PHASE") rest ≡ false →
    at_word (codes "PHASE") all ≡ false
sets_no_phase (no_row e f) lacks = subst (λ all. at_word (codes "PHASE") all ≡ false) f lacks
sets_no_phase (one_row behind read more) lacks = keyword_at (codes "PHASE") read.word_passed refl

-- a class by its word
pub class_outside : {class : ClassAt} {all rest first : List Item} → ClassRow all class rest → Keyword (codes "OUTSIDE") all first → OutsideBehind first class rest
class_outside {class = class} {rest = rest} (outside first passed read) word = subst (λ all. OutsideBehind all class rest) (keyword_one passed word) read
class_outside (inside first passed read) word = clash (keyword_at (codes "OUTSIDE") word refl) (keyword_at (codes "OUTSIDE") passed refl)

pub record InsideRead (all : List Item) (class : ClassAt) (rest : List Item) : Type 0 where
  pub first : List Item
  pub word_passed : Keyword (codes "CLASS") all first
  pub read : InsideBehind first class rest

pub class_inside : {class : ClassAt} {all rest : List Item} → ClassRow all class rest → at_word (codes "OUTSIDE") all ≡ false → InsideRead all class rest
class_inside (outside first passed read) lacks = clash (keyword_at (codes "OUTSIDE") passed refl) lacks
class_inside (inside first passed read) lacks = record { first = first; word_passed = passed; read = read }
