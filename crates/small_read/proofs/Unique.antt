-- Tokens spell at most one table, where they spell at most one expression and one type.
use Rattle.std.proofs.Common.{◌≡◌, ℕ, Bool, List, Some, inl, inr, sym, ap, subst, ◌∙◌}
use Rattle.std.specs.Prelude.{codes}
use Rattle.lola_bits.proofs.Options.{some_same}
use Rattle.lola_tree.specs.declared.named.Shape.{Shape}
use Rattle.lola_tree.specs.Tree.{Tree}
use Rattle.lola_parse.specs.declared.symbol.Language.TheVariants.{Table}
use Rattle.lola_parse.specs.Symbols.{Item}
use Rattle.lola_parse.specs.Read.{Stops}
use Rattle.lola_parse.specs.Design.{Outermost, Shaped}
use Rattle.small_tree.specs.declared.table.Active.{Active}
use Rattle.small_tree.specs.Table.{StateTree, SetTree, PhaseTree, ClassTree, TableTree}
use Rattle.small_read.specs.declared.reader.Heading.{Heading}
use Rattle.small_read.specs.Grammar.{Ended, Roles, Role, MoreRoles, no_role, one_role, StateRow, MoreStates, no_state, one_state, SetRow, MoreStarts, no_start, one_start, Loads, no_load, loads, Linked, no_link, linked, OnePhase, MorePhases, no_phase, next_phase, MoreSets, no_set, one_set, OneClass, MoreClasses, no_class, one_class, SpellsTable}
use Rattle.small_read.specs.Kept.{ViewsTree, EffectsTree}
use Rattle.small_read.specs.Read.{Lacks, LacksName, LacksRole, LacksRow, LacksClass, ResetRow, LoadedRow, Phases, Headed, Viewed, Effected, Ending}
use Rattle.small_read.proofs.Fronts.{keyword_one, passes_one, name_one, word_one, pattern_one, digit_one, word_no_name, semicolon_no_word, semicolon_stops, end_no_class, state_no_role}
use Rattle.small_read.proofs.Chains.{states_next, states_end, starts_next, starts_end, phases_next, phases_end, sets_next, sets_end, classes_next, classes_end, classes_no_row, classes_no_name, class_phases, sets_no_phase, roles_next, roles_end, role_there, linked_no_load}
use Rattle.small_read.proofs.RoleRows.{role_kind, role_reset, role_loaded}
use Rattle.small_read.proofs.Tables.{parts, table_of}

-- at most one expression that ends where no token goes on, at most one with its ";", and at most one
-- type
abbrev pub OneExpression : Type 0
OneExpression =
    (all : List Item) (e f : Tree) (rest more : List Item) → Outermost Table all e rest → Stops rest → Outermost Table all f more → Stops more →
    (e ≡ f) × (rest ≡ more)

abbrev pub OneEnded : Type 0
OneEnded = (all : List Item) (e f : Tree) (rest more : List Item) → Ended all e rest → Ended all f more → (e ≡ f) × (rest ≡ more)

abbrev pub OneShape : Type 0
OneShape = (all : List Item) (t u : Shape) (rest more : List Item) → Shaped all t rest → Shaped all u more → (t ≡ u) × (rest ≡ more)

pub ended_one : OneExpression → OneEnded
ended_one one all e f rest more h k =
    let p = one all e f h.behind k.behind h.read (semicolon_stops h.ended) k.read (semicolon_stops k.ended) in
    (p.0, passes_one {more = more} h.ended (rw p.1 k.ended))

set_one : OneEnded → {all rest more : List Item} {row other : SetTree} → SetRow all row rest → SetRow all other more → (row ≡ other) × (rest ≡ more)
set_one ended {more = more} {other = other} h k =
    let name = name_one h.name_read k.name_read in
    let sign = passes_one {more = k.behind} h.sign_passed (rw name.1 k.sign_passed) in
    let value = ended h.behind _ other.value _ more h.value_read (rw sign k.value_read) in
    ((λ i. record { name = name.0 i; value = value.0 i }), value.1)

state_one : OneEnded → OneShape → {all rest more : List Item} {row other : StateTree} → StateRow all row rest → StateRow all other more →
    (row ≡ other) × (rest ≡ more)
state_one ended shape {more = more} {other = other} h k =
    let name = name_one h.name_read k.name_read in
    let colon = passes_one {more = k.behind} h.colon_passed (rw name.1 k.colon_passed) in
    let type = shape h.behind _ other.shape _ k.word h.shape_read (rw colon k.shape_read) in
    let word = keyword_one {more = k.first} h.word_passed (rw type.1 k.word_passed) in
    let shown = ended h.first _ other.shown _ more h.shown_read (rw word k.shown_read) in
    ((λ i. record { name = name.0 i; shape = type.0 i; shown = shown.0 i }), shown.1)

loads_one : {all rest more : List Item} {a b : Bool} → Loads all a rest → Loads all b more → Lacks (codes "LOAD") rest → Lacks (codes "LOAD") more →
    (a ≡ b) × (rest ≡ more)
loads_one (no_load e f) (no_load g h) first second = (e ∙ sym g, f ∙ sym h)
loads_one (no_load e f) (loads g h) first second = absurd ((subst (Lacks (codes "LOAD")) f first).lacks _ g)
loads_one (loads e f) (no_load g h) first second = absurd ((subst (Lacks (codes "LOAD")) h second).lacks _ e)
loads_one (loads e f) (loads g h) first second = (f ∙ sym h, keyword_one e g)

linked_one : OneEnded → {all rest more : List Item} {link other : Tree} → Linked all link rest → Linked all other more → (link ≡ other) × (rest ≡ more)
linked_one ended (no_link a e) (no_link b f) = (e ∙ sym f, passes_one a b)
linked_one ended (no_link a e) (linked behind word read) = absurd ((semicolon_no_word (codes "LINK") a).lacks _ word)
linked_one ended (linked behind word read) (no_link b f) = absurd ((semicolon_no_word (codes "LINK") b).lacks _ word)
linked_one ended {rest = rest} {more = more} {link = link} {other = other} (linked behind word read) (linked second passed again) =
    ended behind link other rest more read (rw (keyword_one word passed) again)

phase_one : OneEnded → {all rest more : List Item} {phase other : PhaseTree} → OnePhase all phase rest → OnePhase all other more →
    (phase ≡ other) × (rest ≡ more)
phase_one ended {more = more} {other = other} h k =
    let word = keyword_one h.word_passed k.word_passed in
    let load = loads_one {more = k.behind} {b = other.loads} h.loads_read (rw word k.loads_read) (linked_no_load h.link_read) (linked_no_load k.link_read) in
    let link = linked_one ended {more = more} {other = other.link} h.link_read (rw load.1 k.link_read) in
    ((λ i. record { loads = load.0 i; link = link.0 i }), link.1)

reset_one : {all rest more : List Item} {active other : Active} → ResetRow all active rest → ResetRow all other more → (active ≡ other) × (rest ≡ more)
reset_one {more = more} {other = other} h k =
    let first = keyword_one h.word_passed k.word_passed in
    let port = word_one {other = other.port} {more = k.sign} h.port_read (rw first k.port_read) in
    let sign = passes_one {more = k.behind} h.sign_passed (rw port.1 k.sign_passed) in
    let value = digit_one {other = other.value} {more = k.ended} h.value_read (rw sign k.value_read) in
    let ended = passes_one {more = more} h.ended_passed (rw value.1 k.ended_passed) in
    ((λ i. record { port = port.0 i; value = value.0 i }), ended)

loaded_one : {all rest more : List Item} {word other : List ℕ} → LoadedRow all word rest → LoadedRow all other more → (word ≡ other) × (rest ≡ more)
loaded_one {more = more} {other = other} h k =
    let first = keyword_one h.word_passed k.word_passed in
    let port = word_one {other = other} {more = k.ended} h.port_read (rw first k.port_read) in
    let ended = passes_one {more = more} h.ended_passed (rw port.1 k.ended_passed) in
    (port.0, ended)

role_reset_one : {before after other : Roles} {all rest more : List Item} → Role before all after rest → Role before all other more →
    (Lacks (codes "RESET") all → ⊥) → (after ≡ other) × (rest ≡ more)
role_reset_one {before = before} h k here =
    let a = role_reset h here in
    let b = role_reset k here in
    let one = reset_one a.row b.row in
    (a.made ∙ ((λ i. record { reset = Some (one.0 i); loaded = before.loaded }) ∙ sym b.made), one.1)

role_loaded_one : {before after other : Roles} {all rest more : List Item} → Role before all after rest → Role before all other more →
    Lacks (codes "RESET") all → (after ≡ other) × (rest ≡ more)
role_loaded_one {before = before} h k lacks =
    let a = role_loaded h lacks in
    let b = role_loaded k lacks in
    let one = loaded_one a.row b.row in
    (a.made ∙ ((λ i. record { reset = before.reset; loaded = Some (one.0 i) }) ∙ sym b.made), one.1)

role_one : {before after other : Roles} {all rest more : List Item} → Role before all after rest → Role before all other more → (after ≡ other) × (rest ≡ more)
role_one h k = elim (role_kind h) [ inl here ↦ role_reset_one h k here | inr lacks ↦ role_loaded_one h k lacks ]

roles_one : {before roles other : Roles} {all rest more : List Item} → MoreRoles before all roles rest → MoreRoles before all other more → LacksRole rest →
    LacksRole more → (roles ≡ other) × (rest ≡ more)
roles_one (no_role e f) k first second = let p = roles_end k (subst LacksRole f first) in (e ∙ p.0, f ∙ p.1)
roles_one {other = other} {more = more} (one_role {longer = longer} behind read rest) k first second =
    let n = roles_next k second (λ lacks. role_there read lacks) in
    let one = role_one read n.role_read in
    let next = subst (λ roles. MoreRoles roles n.behind other more) (sym one.0) n.more in
    roles_one {other = other} {more = more} rest (subst (λ all. MoreRoles longer all other more) (sym one.1) next) first second

states_one : OneEnded → OneShape → {before rows others : List StateTree} {all rest more : List Item} → MoreStates before all rows rest →
    MoreStates before all others more → LacksName rest → LacksName more → (rows ≡ others) × (rest ≡ more)
states_one ended shape (no_state e f) k first second = let p = states_end k (subst LacksName f first) in (e ∙ p.0, f ∙ p.1)
states_one ended shape {before = before} {others = others} {more = more} (one_state {row = row} behind read rest) k first second =
    let n = states_next k second (λ lacks. lacks.lacks _ _ read.name_read) in
    let one = state_one ended shape read n.item_read in
    states_one ended shape {others = others} {more = more} rest (rw (one.0, one.1) n.more) first second

starts_one : OneEnded → {before rows others : List SetTree} {all rest more : List Item} → MoreStarts before all rows rest → MoreStarts before all others more →
    LacksName rest → LacksName more → (rows ≡ others) × (rest ≡ more)
starts_one ended (no_start e f) k first second = let p = starts_end k (subst LacksName f first) in (e ∙ p.0, f ∙ p.1)
starts_one ended {others = others} {more = more} (one_start behind read rest) k first second =
    let n = starts_next k second (λ lacks. lacks.lacks _ _ read.name_read) in
    let one = set_one ended read n.item_read in
    starts_one ended {others = others} {more = more} rest (rw (one.0, one.1) n.more) first second

more_phases_one : OneEnded → {before phases others : List PhaseTree} {all rest more : List Item} → MorePhases before all phases rest →
    MorePhases before all others more → Lacks (codes "PHASE") rest → Lacks (codes "PHASE") more → (phases ≡ others) × (rest ≡ more)
more_phases_one ended (no_phase e f) k first second = let p = phases_end k (subst (Lacks (codes "PHASE")) f first) in (e ∙ p.0, f ∙ p.1)
more_phases_one ended {others = others} {more = more} (next_phase behind read rest) k first second =
    let n = phases_next k second (λ lacks. lacks.lacks _ read.word_passed) in
    let one = phase_one ended read n.item_read in
    more_phases_one ended {others = others} {more = more} rest (rw (one.0, one.1) n.more) first second

sets_one : OneEnded → {before rows others : List SetTree} {all rest more : List Item} → MoreSets before all rows rest → MoreSets before all others more →
    Lacks (codes "SET") rest → Lacks (codes "SET") more → (rows ≡ others) × (rest ≡ more)
sets_one ended (no_set e f) k first second = let p = sets_end k (subst (Lacks (codes "SET")) f first) in (e ∙ p.0, f ∙ p.1)
sets_one ended {others = others} {more = more} (one_set first behind passed read rest) k last second =
    let n = sets_next k second passed in
    let one = set_one ended read n.item_read in
    sets_one ended {others = others} {more = more} rest (rw (one.0, one.1) n.more) last second

phases_one : OneEnded → {phases others : List PhaseTree} {all rest more : List Item} → Phases all phases rest → Phases all others more →
    Lacks (codes "PHASE") rest → Lacks (codes "PHASE") more → (phases ≡ others) × (rest ≡ more)
phases_one ended {others = others} {more = more} h k first second =
    let one = phase_one ended h.phase_read k.phase_read in
    more_phases_one ended {others = others} {more = more} h.phases_read (rw (one.0, one.1) k.phases_read) first second

class_one : OneEnded → {class other : ClassTree} {all rest more : List Item} → OneClass all class rest → OneClass all other more → LacksRow rest →
    LacksRow more → (class ≡ other) × (rest ≡ more)
class_one ended {other = other} {more = more} h k first second =
    let word = keyword_one h.word_passed k.word_passed in
    let name = name_one {other = other.name} {more = k.pattern} h.name_read (rw word k.name_read) in
    let pattern = pattern_one {other = other.pattern} {more = k.first} h.pattern_read (rw name.1 k.pattern_read) in
    let phases = phases_one ended {others = other.phases} {more = k.sets} (class_phases h) (rw pattern.1 (class_phases k)) (sets_no_phase h.sets_read first)
    (sets_no_phase k.sets_read second) in
    let sets = sets_one ended {others = other.sets} {more = more} h.sets_read (rw phases.1 k.sets_read) first.no_set second.no_set in
    ((λ i. record { name = name.0 i; pattern = pattern.0 i; phases = phases.0 i; sets = sets.0 i }), sets.1)

classes_one : OneEnded → {before classes others : List ClassTree} {all rest more : List Item} → MoreClasses before all classes rest →
    MoreClasses before all others more → LacksClass rest → LacksClass more → (classes ≡ others) × (rest ≡ more)
classes_one ended (no_class e f) k first second = let p = classes_end k (subst (Lacks (codes "CLASS")) f first.no_class) in (e ∙ p.0, f ∙ p.1)
classes_one ended {others = others} {more = more} (one_class behind read rest) k first second =
    let n = classes_next k second (λ lacks. lacks.lacks _ read.word_passed) in
    let one = class_one ended read n.item_read (classes_no_row rest first) (classes_no_row n.more second) in
    classes_one ended {others = others} {more = more} rest (rw (one.0, one.1) n.more) first second

headed_one : {heading other : Heading} {all rest more : List Item} → Headed all heading rest → Headed all other more → LacksRole rest → LacksRole more →
    (heading ≡ other) × (rest ≡ more)
headed_one {other = other} {more = more} h k first second =
    let word = keyword_one h.table_passed k.table_passed in
    let name = name_one {other = other.name} {more = k.word_for} h.name_read (rw word k.name_read) in
    let for = keyword_one {more = k.root} h.for_passed (rw name.1 k.for_passed) in
    let root = name_one {other = other.root} {more = k.semicolon} h.root_read (rw for k.root_read) in
    let semicolon = passes_one {more = k.word_roles} h.semicolon_passed (rw root.1 k.semicolon_passed) in
    let word_roles = keyword_one {more = k.roles} h.roles_passed (rw semicolon k.roles_passed) in
    let roles = roles_one {other = record { reset = Some other.reset; loaded = other.loaded }} {more = more} h.roles_read (rw word_roles k.roles_read) first second in
    let reset = some_same _ _ (ap (λ (r : Roles). r.reset) roles.0) in
    let loaded = ap (λ (r : Roles). r.loaded) roles.0 in
    ((λ i. record { name = name.0 i; root = root.0 i; reset = reset i; loaded = loaded i }), roles.1)

viewed_one : OneEnded → OneShape → {views other : ViewsTree} {all rest more : List Item} → Viewed all views rest → Viewed all other more →
    (views ≡ other) × (rest ≡ more)
viewed_one ended shape {other = other} {more = more} h k =
    let word = keyword_one h.state_passed k.state_passed in
    let states = states_one ended shape {others = other.states} {more = k.word_invariant} h.states_read (rw word k.states_read) (word_no_name h.invariant_passed)
    (word_no_name k.invariant_passed) in
    let second = keyword_one {more = k.second} h.invariant_passed (rw states.1 k.invariant_passed) in
    let invariant = ended h.second _ other.invariant _ k.word_boundary h.invariant_read (rw second k.invariant_read) in
    let third = keyword_one {more = k.third} h.boundary_passed (rw invariant.1 k.boundary_passed) in
    let boundary = ended h.third _ other.boundary _ more h.boundary_read (rw third k.boundary_read) in
    ((λ i. record { states = states.0 i; invariant = invariant.0 i; boundary = boundary.0 i }), boundary.1)

effected_one : OneEnded → {effects other : EffectsTree} {all rest more : List Item} → Effected all effects rest → Effected all other more → LacksClass rest →
    LacksClass more → (effects ≡ other) × (rest ≡ more)
effected_one ended {other = other} {more = more} h k first second =
    let word = keyword_one h.start_passed k.start_passed in
    let starts = starts_one ended {others = other.starts} {more = k.behind} h.starts_read (rw word k.starts_read) (classes_no_name h.classes_read first)
    (classes_no_name k.classes_read second) in
    let classes = classes_one ended {others = other.classes} {more = more} h.classes_read (rw starts.1 k.classes_read) first second in
    ((λ i. record { starts = starts.0 i; classes = classes.0 i }), classes.1)

ending_one : {all : List Item} {name other : List ℕ} → Ending all name → Ending all other → name ≡ other
ending_one {other = other} h k =
    let first = passes_one h.end_passed k.end_passed in
    (name_one {other = other} {more = k.dot} h.ends_read (rw first k.ends_read)).0

pub table_one : OneEnded → OneShape → (all : List Item) (T U : TableTree) → SpellsTable all T → SpellsTable all U → T ≡ U
table_one ended shape all T U h k =
    let p = parts h in
    let q = parts k in
    let heading = headed_one {other = q.heading} {more = q.word_state} p.headed q.headed (state_no_role p.viewed.state_passed) (state_no_role q.viewed.state_passed) in
    let views = viewed_one ended shape {other = q.views} {more = q.word_start} p.viewed (rw heading.1 q.viewed) in
    let effects = effected_one ended {other = q.effects} {more = q.word_end} p.effected (rw views.1 q.effected) (end_no_class p.ending.end_passed)
    (end_no_class q.ending.end_passed) in
    let ends = ending_one {other = U.ends} p.ending (rw effects.1 q.ending) in
    p.table_is ∙ ((λ i. table_of (heading.0 i) (views.0 i) (effects.0 i) (ends i)) ∙ sym q.table_is)
