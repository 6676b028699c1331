-- Tokens spell at most one table, where they spell at most one expression and one type.
use Rattle.std.proofs.Common.{◌≡◌, List, [], Some, refl, sym, subst, ◌∙◌}
use Rattle.std.specs.Prelude.{codes}
use Rattle.lola_tree.specs.declared.named.Named.{Named}
use Rattle.lola_parse.specs.declared.symbol.Symbol.TheVariants as s
use Rattle.lola_parse.specs.Symbols.{Item}
use Rattle.lola_parse.specs.MayEnd.{Before}
use Rattle.tab_parse.specs.Placed.{InsideAt, ClassAt, pattern_of, HeadingAt, heading_of, ViewsAt, views_of, EffectsAt, effects_of, TableAt}
use Rattle.tab_parse.specs.Grammar.{More, Steps, OutsideBehind, InsideBehind, ClassRow, outside, inside, Headed, Viewed, Effected, Ending, SpellsTable}
use Rattle.tab_parse.specs.Fronts.{at_role, at_class, NotAt, EndsClass}
use Rattle.tab_parse.proofs.Fronts.{keyword_one, keyword_at}
use Rattle.tab_parse.proofs.ClassEnds.{class_begins, end_no_class, classes_end, phases_no_let, sets_no_phase, class_outside, class_inside}
use Rattle.tab_parse.proofs.TableEnds.{state_no_role, end_front, fields_no_name, invariant_ends, classes_no_name, classes_no_fetch, fetch_no_name, table_from}
use Rattle.tab_parse.proofs.OneFront.{passes_one, name_one, pattern_one, OneExpression, OneExpr, OneEnded, OneShape, expr_one, ended_one, more_one}
use Rattle.tab_parse.proofs.OneRow.{roles_one, states_one, fields_one, starts_one, start_fetch_one, lets_one, sets_one}
use Rattle.tab_parse.proofs.OnePhase.{phases_one}

-- what is one of all rules of a table
pub record Ones : Type 0 where
  pub expr : OneExpr
  pub ended : OneEnded
  pub shape : OneShape

steps_one : Ones → {inside other : InsideAt} {all rest more : List Item} → Steps all inside rest → Steps all other more → EndsClass rest → EndsClass more →
    (inside ≡ other) × (rest ≡ more)
steps_one ones {other = other} {more = more} h k first second =
    let lets = lets_one ones.ended {others = other.lets} {more = k.first} h.lets_read k.lets_read (phases_no_let h.phases_read) (phases_no_let k.phases_read) in
    let phases = phases_one ones.expr ones.shape {others = other.phases} {more = k.sets} h.phases_read (rw lets.1 k.phases_read) (sets_no_phase h.sets_read first.no_phase)
    (sets_no_phase k.sets_read second.no_phase) in
    let sets = sets_one ones.expr {others = other.sets} {more = more} h.sets_read (rw phases.1 k.sets_read) first.no_set second.no_set in
    ((λ i. record { lets = lets.0 i; phases = phases.0 i; sets = sets.0 i }), sets.1)

outside_one : {class other : ClassAt} {all rest more : List Item} → OutsideBehind all class rest → OutsideBehind all other more → (class ≡ other) × (rest ≡ more)
outside_one {other = other} {more = more} h k =
    let name = name_one {other = other.name} {more = k.pattern} h.name_read k.name_read in
    let pattern = pattern_one {other = pattern_of other} {more = k.behind} h.pattern_read (rw name.1 k.pattern_read) in
    let ended = passes_one {more = more} h.ended_passed (rw pattern.1 k.ended_passed) in
    let none = h.no_steps ∙ sym k.no_steps in
    ((λ i. record { name = name.0 i; pattern = (pattern.0 i).places; pattern_at = (pattern.0 i).at; inside = none i }), ended)

inside_one : Ones → {class other : ClassAt} {all rest more : List Item} → InsideBehind all class rest → InsideBehind all other more → EndsClass rest →
    EndsClass more → (class ≡ other) × (rest ≡ more)
inside_one ones {other = other} {more = more} h k first second =
    let name = name_one {other = other.name} {more = k.pattern} h.name_read k.name_read in
    let pattern = pattern_one {other = pattern_of other} {more = k.behind} h.pattern_read (rw name.1 k.pattern_read) in
    let steps = steps_one ones {other = k.steps} {more = more} h.steps_read (rw pattern.1 k.steps_read) first second in
    let some = h.some_steps ∙ ((λ i. Some (steps.0 i)) ∙ sym k.some_steps) in
    ((λ i. record { name = name.0 i; pattern = (pattern.0 i).places; pattern_at = (pattern.0 i).at; inside = some i }), steps.1)

class_one : Ones → {class other : ClassAt} {all rest more : List Item} → ClassRow all class rest → ClassRow all other more → EndsClass rest → EndsClass more →
    (class ≡ other) × (rest ≡ more)
class_one ones (outside all word read) k first second = outside_one read (class_outside k word)
class_one ones {other = other} {more = more} (inside all word read) k first second =
    let p = class_inside k (keyword_at (codes "OUTSIDE") word refl) in
    inside_one ones read (subst (λ all. InsideBehind all other more) (keyword_one p.word_passed word) p.read) first second

classes_one : Ones → {rows others : List ClassAt} {all rest more : List Item} → More ClassRow [] all rows rest → More ClassRow [] all others more →
    Before s.End rest → Before s.End more → (rows ≡ others) × (rest ≡ more)
classes_one ones {rows = rows} {others = others} {all = all} {rest = rest} {more = more} =
    more_one {Row = ClassRow} at_class (Before s.End) EndsClass [] rows others all rest more
    (record { begins = λ row all rest read. class_begins read; lacks = end_no_class; behind = λ before rows all rest h e. classes_end h e; one = λ row other all rest more h k e f. class_one ones h k e f })

headed_one : Ones → {heading other : HeadingAt} {all rest more : List Item} → Headed all heading rest → Headed all other more → NotAt at_role rest →
    NotAt at_role more → (heading ≡ other) × (rest ≡ more)
headed_one ones {other = other} {more = more} h k first second =
    let word = keyword_one {more = k.title} h.table_passed k.table_passed in
    let name = name_one {other = other.name} {more = k.word_for} h.name_read (rw word k.name_read) in
    let for_word = keyword_one {more = k.root} h.for_passed (rw name.1 k.for_passed) in
    let root = name_one {other = other.root} {more = k.semicolon} h.root_read (rw for_word k.root_read) in
    let semicolon = passes_one {more = k.word_roles} h.semicolon_passed (rw root.1 k.semicolon_passed) in
    let roles_word = keyword_one {more = k.roles} h.roles_passed (rw semicolon k.roles_passed) in
    let roles = roles_one ones.ended {others = other.roles} {more = more} h.roles_read (rw roles_word k.roles_read) first second in
    ((λ i. record { name = name.0 i; root = root.0 i; roles = roles.0 i }), roles.1)

viewed_one : Ones → {views other : ViewsAt} {all rest more : List Item} → Viewed all views rest → Viewed all other more → (views ≡ other) × (rest ≡ more)
viewed_one ones {other = other} {more = more} h k =
    let word = keyword_one {more = k.states} h.state_passed k.state_passed in
    let states = states_one ones.ended ones.shape {others = other.states} {more = k.word_fields} h.states_read (rw word k.states_read)
    (fields_no_name h.fields_read h.invariant_passed) (fields_no_name k.fields_read k.invariant_passed) in
    let fields = fields_one ones.ended {others = other.fields} {more = k.word_invariant} h.fields_read (rw states.1 k.fields_read) (invariant_ends h.invariant_passed)
    (invariant_ends k.invariant_passed) in
    let second = keyword_one {more = k.invariant} h.invariant_passed (rw fields.1 k.invariant_passed) in
    let invariant = ones.ended h.invariant _ other.invariant _ k.word_boundary h.invariant_read (rw second k.invariant_read) in
    let third = keyword_one {more = k.boundary} h.boundary_passed (rw invariant.1 k.boundary_passed) in
    let boundary = ones.ended h.boundary _ other.boundary _ more h.boundary_read (rw third k.boundary_read) in
    ((λ i. record { states = states.0 i; fields = fields.0 i; invariant = invariant.0 i; boundary = boundary.0 i }), boundary.1)

effected_one : Ones → {effects other : EffectsAt} {all rest more : List Item} → Effected all effects rest → Effected all other more → Before s.End rest →
    Before s.End more → (effects ≡ other) × (rest ≡ more)
effected_one ones {other = other} {more = more} h k first second =
    let word = keyword_one {more = k.starts} h.start_passed k.start_passed in
    let starts = starts_one ones.ended {others = other.starts} {more = k.word_fetch} h.starts_read (rw word k.starts_read)
    (fetch_no_name h.fetch_read (classes_no_name h.classes_read first)) (fetch_no_name k.fetch_read (classes_no_name k.classes_read second)) in
    let fetch = start_fetch_one ones.ended {other = other.start_fetch} {more = k.classes} h.fetch_read (rw starts.1 k.fetch_read) (classes_no_fetch h.classes_read first)
    (classes_no_fetch k.classes_read second) in
    let classes = classes_one ones {others = other.classes} {more = more} h.classes_read (rw fetch.1 k.classes_read) first second in
    ((λ i. record { starts = starts.0 i; start_fetch = fetch.0 i; classes = classes.0 i }), classes.1)

ending_one : {name other : Named} {all : List Item} → Ending all name → Ending all other → name ≡ other
ending_one {other = other} h k =
    let word = passes_one {more = k.ends} h.end_passed k.end_passed in
    (name_one {other = other} {more = k.dot} h.ends_read (rw word k.ends_read)).0

pub table_one : OneExpression → OneShape → (all : List Item) (T U : TableAt) → SpellsTable all T → SpellsTable all U → T ≡ U
table_one one shape all T U h k =
    let ones : Ones = record { expr = expr_one one; ended = ended_one (expr_one one); shape = shape } in
    let heading = headed_one ones {other = heading_of U} {more = k.word_state} h.headed k.headed (state_no_role h.viewed.state_passed) (state_no_role k.viewed.state_passed) in
    let views = viewed_one ones {other = views_of U} {more = k.word_start} h.viewed (rw heading.1 k.viewed) in
    let effects = effected_one ones {other = effects_of U} {more = k.word_end} h.effected (rw views.1 k.effected) (end_front h.ending.end_passed) (end_front k.ending.end_passed) in
    let ends = ending_one {other = U.ends} h.ending (rw effects.1 k.ending) in
    (λ i. table_from (heading.0 i) (views.0 i) (effects.0 i) (ends i))
