-- Lemmas on chains: where what begins an item of a chain is at the front, the chain goes on with an
-- item, and else it ends there.
use Rattle.std.proofs.Common.{◌≡◌, Bool, false, List, [], ◌∷◌, ◌++◌, None, refl, sym, subst}
use Rattle.std.specs.Prelude.{codes}
use Rattle.lola_parse.specs.declared.symbol.Symbol.TheVariants as symbol
use Rattle.lola_parse.specs.Symbols.{Item}
use Rattle.lola_parse.specs.Grammar.{Passes}
use Rattle.lola_tree.specs.Tree.{Tree, number}
use Rattle.small_tree.specs.Table.{StateTree, SetTree, PhaseTree, ClassTree}
use Rattle.small_read.specs.Grammar.{Keyword, Ended, Roles, Role, reset_role, loaded_role, MoreRoles, no_role, one_role, StateRow, MoreStates, no_state, one_state, SetRow, MoreStarts, no_start, one_start, Loads, no_load, loads, Linked, no_link, linked, OnePhase, MorePhases, no_phase, next_phase, MoreSets, no_set, one_set, OneClass, MoreClasses, no_class, one_class}
use Rattle.small_read.specs.Read.{Lacks, LacksName, LacksRole, LacksRow, LacksClass, Phases}
use Rattle.small_read.proofs.Fronts.{keyword_one, word_no_name, other_word, semicolon_no_word, class_no_row}

-- an item at the front, and what goes on behind it
pub record Next {T : Type 0} (Item_is : T → List Item → Type 0) (More : List T → List Item → Type 0) (before : List T) : Type 0 where
  pub item : T
  pub behind : List Item
  pub item_read : Item_is item behind
  pub more : More (before ++ item ∷ []) behind

-- a chain goes on behind the item that was read, where that is the one that it has
pub next_on : {T : Type 0} {Item_is : T → List Item → Type 0} {More : List T → List Item → Type 0} {before longer : List T} {item : T} {behind : List Item}
    (n : Next Item_is More before) → (item ≡ n.item) × (behind ≡ n.behind) → longer ≡ before ++ item ∷ [] → More longer behind
next_on {More = More} {before = before} {behind = behind} n one e =
    subst (λ xs. More xs behind) (sym e)
    (subst (λ x. More (before ++ x ∷ []) behind) (sym one.0) (subst (More (before ++ n.item ∷ [])) (sym one.1) n.more))

-- {state}
pub states_next : {before rows : List StateTree} {all rest : List Item} → MoreStates before all rows rest → LacksName rest → (LacksName all → ⊥) →
    Next (StateRow all) (λ longer behind. MoreStates longer behind rows rest) before
states_next (no_state e f) lacks here = absurd (here (subst LacksName f lacks))
states_next (one_state {row = row} behind read more) lacks here = record { item = row; behind = behind; item_read = read; more = more }

pub states_end : {before rows : List StateTree} {all rest : List Item} → MoreStates before all rows rest → LacksName all → (before ≡ rows) × (all ≡ rest)
states_end (no_state e f) lacks = (sym e, sym f)
states_end (one_state behind read more) lacks = absurd (lacks.lacks _ _ read.name_read)

-- {name ":=" expr ";"}
pub starts_next : {before rows : List SetTree} {all rest : List Item} → MoreStarts before all rows rest → LacksName rest → (LacksName all → ⊥) →
    Next (SetRow all) (λ longer behind. MoreStarts longer behind rows rest) before
starts_next (no_start e f) lacks here = absurd (here (subst LacksName f lacks))
starts_next (one_start {row = row} behind read more) lacks here = record { item = row; behind = behind; item_read = read; more = more }

pub starts_end : {before rows : List SetTree} {all rest : List Item} → MoreStarts before all rows rest → LacksName all → (before ≡ rows) × (all ≡ rest)
starts_end (no_start e f) lacks = (sym e, sym f)
starts_end (one_start behind read more) lacks = absurd (lacks.lacks _ _ read.name_read)

-- {phase}
pub phases_next : {before phases : List PhaseTree} {all rest : List Item} → MorePhases before all phases rest → Lacks (codes "PHASE") rest →
    (Lacks (codes "PHASE") all → ⊥) → Next (OnePhase all) (λ longer behind. MorePhases longer behind phases rest) before
phases_next (no_phase e f) lacks here = absurd (here (subst (Lacks (codes "PHASE")) f lacks))
phases_next (next_phase {phase = phase} behind read more) lacks here = record { item = phase; behind = behind; item_read = read; more = more }

pub phases_end : {before phases : List PhaseTree} {all rest : List Item} → MorePhases before all phases rest → Lacks (codes "PHASE") all →
    (before ≡ phases) × (all ≡ rest)
phases_end (no_phase e f) lacks = (sym e, sym f)
phases_end (next_phase behind read more) lacks = absurd (lacks.lacks _ read.word_passed)

-- and where the first is the one that was read
pub phases_on : {phases : List PhaseTree} {all rest behind : List Item} {first : PhaseTree} {read : List PhaseTree} (h : Phases all phases rest) →
    (first ≡ h.phase) × (behind ≡ h.more) → read ≡ first ∷ [] → MorePhases read behind phases rest
phases_on {phases = phases} {rest = rest} {behind = behind} h one e =
    subst (λ xs. MorePhases xs behind phases rest) (sym e)
    (subst (λ x. MorePhases (x ∷ []) behind phases rest) (sym one.0) (subst (λ more. MorePhases (h.phase ∷ []) more phases rest) (sym one.1) h.phases_read))

-- {"SET" name ":=" expr ";"}
pub sets_next : {before rows : List SetTree} {all rest first : List Item} → MoreSets before all rows rest → Lacks (codes "SET") rest →
    Keyword (codes "SET") all first → Next (SetRow first) (λ longer behind. MoreSets longer behind rows rest) before
sets_next (no_set e f) lacks word = absurd ((subst (Lacks (codes "SET")) f lacks).lacks _ word)
sets_next {first = first} (one_set {row = row} second behind passed read more) lacks word =
    record { item = row; behind = behind; item_read = subst (λ all. SetRow all row behind) (keyword_one passed word) read; more = more }

pub sets_end : {before rows : List SetTree} {all rest : List Item} → MoreSets before all rows rest → Lacks (codes "SET") all → (before ≡ rows) × (all ≡ rest)
sets_end (no_set e f) lacks = (sym e, sym f)
sets_end (one_set first behind passed read more) lacks = absurd (lacks.lacks _ passed)

-- {class}
pub classes_next : {before classes : List ClassTree} {all rest : List Item} → MoreClasses before all classes rest → LacksClass rest →
    (Lacks (codes "CLASS") all → ⊥) → Next (OneClass all) (λ longer behind. MoreClasses longer behind classes rest) before
classes_next (no_class e f) lacks here = absurd (here (subst (Lacks (codes "CLASS")) f lacks.no_class))
classes_next (one_class {class = class} behind read more) lacks here = record { item = class; behind = behind; item_read = read; more = more }

pub classes_end : {before classes : List ClassTree} {all rest : List Item} → MoreClasses before all classes rest → Lacks (codes "CLASS") all →
    (before ≡ classes) × (all ≡ rest)
classes_end (no_class e f) lacks = (sym e, sym f)
classes_end (one_class behind read more) lacks = absurd (lacks.lacks _ read.word_passed)

-- neither a row of a class nor a name begins what a chain of classes begins
pub classes_no_row : {before classes : List ClassTree} {all rest : List Item} → MoreClasses before all classes rest → LacksClass rest → LacksRow all
classes_no_row (no_class e f) lacks = subst LacksRow f lacks.no_row
classes_no_row (one_class behind read more) lacks = class_no_row read.word_passed

pub classes_no_name : {before classes : List ClassTree} {all rest : List Item} → MoreClasses before all classes rest → LacksClass rest → LacksName all
classes_no_name (no_class e f) lacks = subst LacksName f lacks.no_name
classes_no_name (one_class behind read more) lacks = word_no_name read.word_passed

-- nor does a phase begin what the SET rows begin
pub sets_no_phase : {before rows : List SetTree} {all rest : List Item} → MoreSets before all rows rest → LacksRow rest → Lacks (codes "PHASE") all
sets_no_phase (no_set e f) lacks = subst (Lacks (codes "PHASE")) f lacks.no_phase
sets_no_phase (one_set first behind passed read more) lacks = other_word (codes "PHASE") refl refl passed

-- the phases of a class
pub class_phases : {all rest : List Item} {class : ClassTree} (h : OneClass all class rest) → Phases h.first class.phases h.sets
class_phases h = record { phase = h.phase; more = h.more; phase_read = h.phase_read; phases_read = h.phases_read }

-- {role}
pub record NextRole (before : Roles) (all : List Item) (roles : Roles) (rest : List Item) : Type 0 where
  pub longer : Roles
  pub behind : List Item
  pub role_read : Role before all longer behind
  pub more : MoreRoles longer behind roles rest

pub roles_on : {before roles longer : Roles} {all rest behind : List Item} (n : NextRole before all roles rest) →
    (longer ≡ n.longer) × (behind ≡ n.behind) → MoreRoles longer behind roles rest
roles_on {roles = roles} {longer = longer} {rest = rest} n one =
    subst (λ all. MoreRoles longer all roles rest) (sym one.1) (subst (λ read. MoreRoles read n.behind roles rest) (sym one.0) n.more)

pub roles_next : {before roles : Roles} {all rest : List Item} → MoreRoles before all roles rest → LacksRole rest → (LacksRole all → ⊥) →
    NextRole before all roles rest
roles_next (no_role e f) lacks here = absurd (here (subst LacksRole f lacks))
roles_next (one_role {longer = longer} behind read more) lacks here = record { longer = longer; behind = behind; role_read = read; more = more }

pub role_there : {before after : Roles} {all rest : List Item} → Role before all after rest → LacksRole all → ⊥
role_there (reset_role active port sign behind ended none word port_read equal read is semicolon made) lacks = lacks.no_reset.lacks _ word
role_there (loaded_role word port ended none passed port_read semicolon made) lacks = lacks.no_loaded.lacks _ passed

pub roles_end : {before roles : Roles} {all rest : List Item} → MoreRoles before all roles rest → LacksRole all → (before ≡ roles) × (all ≡ rest)
roles_end (no_role e f) lacks = (sym e, sym f)
roles_end (one_role behind read more) lacks = absurd (role_there read lacks)

-- what a link begins is no LOAD
pub linked_no_load : {all rest : List Item} {link : Tree} → Linked all link rest → Lacks (codes "LOAD") all
linked_no_load (no_link passed is) = semicolon_no_word (codes "LOAD") passed
linked_no_load (linked behind passed read) = other_word (codes "LOAD") refl refl passed

-- without a LOAD none is read
pub loads_none : {all rest : List Item} {written : Bool} → Loads all written rest → Lacks (codes "LOAD") all → (false ≡ written) × (all ≡ rest)
loads_none (no_load e f) lacks = (sym e, sym f)
loads_none (loads passed e) lacks = absurd (lacks.lacks _ passed)

-- a link whose LINK isn't written, and one whose LINK is
pub record Unlinked (all : List Item) (link : Tree) (rest : List Item) : Type 0 where
  pub passed : Passes symbol.Semicolon all rest
  pub link_is : link ≡ number 1 None 0

pub link_none : {all rest : List Item} {link : Tree} → Linked all link rest → Lacks (codes "LINK") all → Unlinked all link rest
link_none (no_link passed is) lacks = record { passed = passed; link_is = is }
link_none (linked behind passed read) lacks = absurd (lacks.lacks _ passed)

pub link_some : {all rest first : List Item} {link : Tree} → Linked all link rest → Keyword (codes "LINK") all first → Ended first link rest
link_some (no_link passed is) word = absurd ((semicolon_no_word (codes "LINK") passed).lacks _ word)
link_some {rest = rest} {link = link} (linked behind passed read) word = subst (λ all. Ended all link rest) (keyword_one passed word) read
