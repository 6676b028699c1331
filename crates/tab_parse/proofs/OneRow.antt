-- The rows of a table are read in one way, where its expressions and types are.
use Rattle.std.proofs.Common.{◌≡◌, ℕ, false, List, [], ◌∷◌, Option, Some, refl, sym, ap, subst, ◌∙◌}
use Rattle.std.specs.Prelude.{codes}
use Rattle.lola_bits.proofs.Options.{some_same}
use Rattle.lola_tree.specs.Tree.{ActualTree}
use Rattle.lola_parse.specs.Symbols.{Item}
use Rattle.lola_parse.specs.Read.{Stops, Anywhere}
use Rattle.tab_parse.specs.declared.placed.ActiveRole.{ActiveRole}
use Rattle.tab_parse.specs.declared.placed.PortRole.{PortRole}
use Rattle.tab_parse.specs.declared.placed.RoleWord.{RoleWord}
use Rattle.tab_parse.specs.declared.placed.RoleWord.TheVariants as said
use Rattle.tab_parse.specs.Placed.{RoleAt, active_row, code_row, port_row, StateAt, LetAt, SetAt}
use Rattle.tab_parse.specs.Grammar.{More, role_says, ActiveBehind, CodeBehind, PortBehind, RoleBehind, RoleRow, StateRow, LetRow, Fields, no_fields, some_fields, StartRow, StartFetch, no_fetch, one_fetch, Placing, no_place, one_place, SetPart, LetLine, SetLine, NextSet, SetList, Shows, no_shows, some_shows}
use Rattle.tab_parse.specs.Fronts.{at_word, at_name, at_role, at_bracket, at_comma, NotAt, EndsFields, EndsList, EndsShows}
use Rattle.tab_parse.proofs.Fronts.{semicolon_stops, state_begins, let_begins, start_begins, role_begins, let_line_begins, set_line_begins, next_set_begins, assign_no_bracket, bracket_stops, more_sets_stop, place_there, place_none, keyword_one, shows_there, shows_none}
use Rattle.tab_parse.proofs.TableEnds.{fields_there, fields_none, fetch_there, fetch_none}
use Rattle.tab_parse.proofs.OneFront.{heads, symbol_in, spelled_in, place_in, passes_one, stands_one, name_one, word_one, number_one, OneExpr, OneEnded, OneShape, more_one}

active_one : {role : ActiveRole} {at : ℕ} {row other : RoleAt} {all rest more : List Item} → ActiveBehind role at all row rest → ActiveBehind role at all other more →
    (row ≡ other) × (rest ≡ more)
active_one {role = role} {at = at} {more = more} h k =
    let port = word_one {other = k.port} {more = k.sign} h.port_read k.port_read in
    let sign = passes_one {more = k.behind} h.sign_passed (rw port.1 k.sign_passed) in
    let value = number_one {other = k.value} {more = k.ended} h.value_read (rw sign k.value_read) in
    let ended = passes_one {more = more} h.ended_passed (rw value.1 k.ended_passed) in
    (h.row_is ∙ ((λ i. active_row role at (port.0 i) (value.0 i)) ∙ sym k.row_is), ended)

code_one : OneEnded → {at : ℕ} {row other : RoleAt} {all rest more : List Item} → CodeBehind at all row rest → CodeBehind at all other more →
    (row ≡ other) × (rest ≡ more)
code_one ended {at = at} {all = all} {rest = rest} {more = more} h k =
    let shown = ended all h.shown k.shown rest more h.shown_read k.shown_read in
    (h.row_is ∙ ((λ i. code_row at (shown.0 i)) ∙ sym k.row_is), shown.1)

port_one : {role : PortRole} {at : ℕ} {row other : RoleAt} {all rest more : List Item} → PortBehind role at all row rest → PortBehind role at all other more →
    (row ≡ other) × (rest ≡ more)
port_one {role = role} {at = at} {more = more} h k =
    let port = word_one {other = k.port} {more = k.ended} h.port_read k.port_read in
    let ended = passes_one {more = more} h.ended_passed (rw port.1 k.ended_passed) in
    (h.row_is ∙ ((λ i. port_row role at (port.0 i)) ∙ sym k.row_is), ended)

behind_one : OneEnded → (role : RoleWord) (at : ℕ) (row other : RoleAt) (all rest more : List Item) → RoleBehind role at all row rest →
    RoleBehind role at all other more → (row ≡ other) × (rest ≡ more)
behind_one ended (said.Active role) at row other all rest more h k = active_one h k
behind_one ended said.Code at row other all rest more h k = code_one ended h k
behind_one ended (said.Port role) at row other all rest more h k = port_one h k

role_one : OneEnded → {row other : RoleAt} {all rest more : List Item} → RoleRow all row rest → RoleRow all other more → (row ≡ other) × (rest ≡ more)
role_one ended {row = row} {other = other} {rest = rest} {more = more} h k =
    let e = heads (sym h.word_passed.splits ∙ k.word_passed.splits) in
    let role = some_same _ _ (sym h.word_is ∙ (ap (λ item. role_says (symbol_in item) (spelled_in item)) e.0 ∙ k.word_is)) in
    let read = subst (λ all. RoleBehind k.role k.at all other more) (sym e.1) k.row_read in
    let placed = subst (λ at. RoleBehind k.role at h.first other more) (sym (ap place_in e.0)) read in
    behind_one ended h.role h.at row other h.first rest more h.row_read (subst (λ role. RoleBehind role h.at h.first other more) (sym role) placed)

pub roles_one : OneEnded → {rows others : List RoleAt} {all rest more : List Item} → More RoleRow [] all rows rest → More RoleRow [] all others more →
    NotAt at_role rest → NotAt at_role more → (rows ≡ others) × (rest ≡ more)
roles_one ended {rows = rows} {others = others} {all = all} {rest = rest} {more = more} =
    more_one {Row = RoleRow} at_role (NotAt at_role) Anywhere [] rows others all rest more
    (record { begins = λ row all rest read. role_begins read; lacks = λ rest h. h; behind = λ before rows all rest h e. tt; one = λ row other all rest more h k e f. role_one ended h k })

state_one : OneEnded → OneShape → {row other : StateAt} {all rest more : List Item} → StateRow all row rest → StateRow all other more → (row ≡ other) × (rest ≡ more)
state_one ended shape {other = other} {more = more} h k =
    let name = name_one {other = other.name} {more = k.colon} h.name_read k.name_read in
    let colon = passes_one {more = k.behind} h.colon_passed (rw name.1 k.colon_passed) in
    let type = shape h.behind _ other.shape _ k.word h.shape_read (rw colon k.shape_read) in
    let word = keyword_one {more = k.first} h.word_passed (rw type.1 k.word_passed) in
    let shown = ended h.first _ other.shown _ more h.shown_read (rw word k.shown_read) in
    ((λ i. record { name = name.0 i; shape = type.0 i; shown = shown.0 i }), shown.1)

pub states_one : OneEnded → OneShape → {rows others : List StateAt} {all rest more : List Item} → More StateRow [] all rows rest →
    More StateRow [] all others more → NotAt at_name rest → NotAt at_name more → (rows ≡ others) × (rest ≡ more)
states_one ended shape {rows = rows} {others = others} {all = all} {rest = rest} {more = more} =
    more_one {Row = StateRow} at_name (NotAt at_name) Anywhere [] rows others all rest more
    (record { begins = λ row all rest read. state_begins read; lacks = λ rest h. h; behind = λ before rows all rest h e. tt; one = λ row other all rest more h k e f. state_one ended shape h k })

let_one : OneEnded → {row other : LetAt} {all rest more : List Item} → LetRow all row rest → LetRow all other more → (row ≡ other) × (rest ≡ more)
let_one ended {other = other} {more = more} h k =
    let name = name_one {other = other.name} {more = k.word} h.name_read k.name_read in
    let word = keyword_one {more = k.first} h.word_passed (rw name.1 k.word_passed) in
    let value = ended h.first _ other.value _ more h.value_read (rw word k.value_read) in
    ((λ i. record { name = name.0 i; value = value.0 i }), value.1)

field_rows_one : OneEnded → {rows others : List LetAt} {all rest more : List Item} → More LetRow [] all rows rest → More LetRow [] all others more →
    NotAt at_name rest → NotAt at_name more → (rows ≡ others) × (rest ≡ more)
field_rows_one ended {rows = rows} {others = others} {all = all} {rest = rest} {more = more} =
    more_one {Row = LetRow} at_name (NotAt at_name) Anywhere [] rows others all rest more
    (record { begins = λ row all rest read. let_begins read; lacks = λ rest h. h; behind = λ before rows all rest h e. tt; one = λ row other all rest more h k e f. let_one ended h k })

pub fields_one : OneEnded → {fields others : List LetAt} {all rest more : List Item} → Fields all fields rest → Fields all others more → EndsFields rest →
    EndsFields more → (fields ≡ others) × (rest ≡ more)
fields_one ended (no_fields e f) k first second = let p = fields_none k (subst (λ all. at_word (codes "FIELDS") all ≡ false) f first.no_fields) in (e ∙ p.0, f ∙ p.1)
fields_one ended (some_fields all word read) k first second = field_rows_one ended read (fields_there k second.no_fields word) first.no_name second.no_name

start_one : OneEnded → {row other : SetAt} {all rest more : List Item} → StartRow all row rest → StartRow all other more → (row ≡ other) × (rest ≡ more)
start_one ended {other = other} {more = more} h k =
    let name = name_one {other = other.name} {more = k.sign} h.name_read k.name_read in
    let sign = stands_one {place = other.equals} {more = k.behind} h.sign_passed (rw name.1 k.sign_passed) in
    let value = ended h.behind _ other.value _ more h.value_read (rw sign.1 k.value_read) in
    ((λ i. record { name = name.0 i; place = (h.no_place ∙ sym k.no_place) i; equals = sign.0 i; value = value.0 i }), value.1)

pub starts_one : OneEnded → {rows others : List SetAt} {all rest more : List Item} → More StartRow [] all rows rest → More StartRow [] all others more →
    NotAt at_name rest → NotAt at_name more → (rows ≡ others) × (rest ≡ more)
starts_one ended {rows = rows} {others = others} {all = all} {rest = rest} {more = more} =
    more_one {Row = StartRow} at_name (NotAt at_name) Anywhere [] rows others all rest more
    (record { begins = λ row all rest read. start_begins read; lacks = λ rest h. h; behind = λ before rows all rest h e. tt; one = λ row other all rest more h k e f. start_one ended h k })

pub start_fetch_one : OneEnded → {fetch other : Option ActualTree} {all rest more : List Item} → StartFetch all fetch rest → StartFetch all other more →
    NotAt (at_word (codes "FETCH")) rest → NotAt (at_word (codes "FETCH")) more → (fetch ≡ other) × (rest ≡ more)
start_fetch_one ended (no_fetch e f) k first second = let p = fetch_none k (subst (λ all. at_word (codes "FETCH") all ≡ false) f first) in (e ∙ p.0, f ∙ p.1)
start_fetch_one ended {rest = rest} {more = more} (one_fetch e all word read is) k first second =
    let p = fetch_there k second word in
    let q = ended all e p.e rest more read p.read in
    (is ∙ ((λ i. Some (q.0 i)) ∙ sym p.is), q.1)

placing_one : OneExpr → {place other : Option ActualTree} {all rest more : List Item} → Placing all place rest → Placing all other more → NotAt at_bracket rest →
    NotAt at_bracket more → (place ≡ other) × (rest ≡ more)
placing_one one (no_place e f) k first second = let p = place_none k (subst (λ all. at_bracket all ≡ false) f first) in (e ∙ p.0, f ∙ p.1)
placing_one one {more = more} (one_place {e = e} begin close opened read closed is) k first second =
    let p = place_there k second (rw opened.splits refl) in
    let open_ = stands_one {place = p.at} {more = p.first} opened p.opened in
    let expr = one begin e p.e close p.close read (bracket_stops closed) (rw open_.1 p.expr_read) (bracket_stops p.closed) in
    let ended = passes_one {more = more} closed (rw expr.1 p.closed) in
    (is ∙ ((λ i. Some (record { value = (expr.0 i).value; at = open_.0 i })) ∙ sym p.place_is), ended)

set_one : OneExpr → {row other : SetAt} {all rest more : List Item} → SetPart all row rest → SetPart all other more → Stops rest → Stops more →
    (row ≡ other) × (rest ≡ more)
set_one one {other = other} {rest = rest} {more = more} h k first second =
    let name = name_one {other = other.name} {more = k.bracket} h.name_read k.name_read in
    let place = placing_one one {other = other.place} {more = k.sign} h.place_read (rw name.1 k.place_read) (assign_no_bracket h.sign_passed) (assign_no_bracket k.sign_passed) in
    let sign = stands_one {place = other.equals} {more = k.behind} h.sign_passed (rw place.1 k.sign_passed) in
    let value = one h.behind _ other.value rest more h.value_read first (rw sign.1 k.value_read) second in
    ((λ i. record { name = name.0 i; place = place.0 i; equals = sign.0 i; value = value.0 i }), value.1)

let_line_one : OneEnded → {row other : LetAt} {all rest more : List Item} → LetLine all row rest → LetLine all other more → (row ≡ other) × (rest ≡ more)
let_line_one ended {other = other} {more = more} h k =
    let word = keyword_one {more = k.first} h.word_passed k.word_passed in
    let_one ended {other = other} {more = more} h.row_read (rw word k.row_read)

pub lets_one : OneEnded → {rows others : List LetAt} {all rest more : List Item} → More LetLine [] all rows rest → More LetLine [] all others more →
    NotAt (at_word (codes "LET")) rest → NotAt (at_word (codes "LET")) more → (rows ≡ others) × (rest ≡ more)
lets_one ended {rows = rows} {others = others} {all = all} {rest = rest} {more = more} =
    more_one {Row = LetLine} (at_word (codes "LET")) (NotAt (at_word (codes "LET"))) Anywhere [] rows others all rest more
    (record { begins = λ row all rest read. let_line_begins read; lacks = λ rest h. h; behind = λ before rows all rest h e. tt; one = λ row other all rest more h k e f. let_line_one ended h k })

set_line_one : OneExpr → {row other : SetAt} {all rest more : List Item} → SetLine all row rest → SetLine all other more → (row ≡ other) × (rest ≡ more)
set_line_one one {other = other} {more = more} h k =
    let word = keyword_one {more = k.first} h.word_passed k.word_passed in
    let row = set_one one {other = other} {more = k.ended} h.row_read (rw word k.row_read) (semicolon_stops h.ended_passed) (semicolon_stops k.ended_passed) in
    (row.0, passes_one {more = more} h.ended_passed (rw row.1 k.ended_passed))

pub sets_one : OneExpr → {rows others : List SetAt} {all rest more : List Item} → More SetLine [] all rows rest → More SetLine [] all others more →
    NotAt (at_word (codes "SET")) rest → NotAt (at_word (codes "SET")) more → (rows ≡ others) × (rest ≡ more)
sets_one one {rows = rows} {others = others} {all = all} {rest = rest} {more = more} =
    more_one {Row = SetLine} (at_word (codes "SET")) (NotAt (at_word (codes "SET"))) Anywhere [] rows others all rest more
    (record { begins = λ row all rest read. set_line_begins read; lacks = λ rest h. h; behind = λ before rows all rest h e. tt; one = λ row other all rest more h k e f. set_line_one one h k })

next_set_one : OneExpr → {row other : SetAt} {all rest more : List Item} → NextSet all row rest → NextSet all other more → Stops rest → Stops more →
    (row ≡ other) × (rest ≡ more)
next_set_one one {other = other} {more = more} h k first second =
    let comma = passes_one {more = k.first} h.comma_passed k.comma_passed in
    set_one one {other = other} {more = more} h.row_read (rw comma k.row_read) first second

list_one : OneExpr → {rows others : List SetAt} {all rest more : List Item} → SetList all rows rest → SetList all others more → EndsList rest → EndsList more →
    (rows ≡ others) × (rest ≡ more)
list_one one {rows = rows} {others = others} {rest = rest} {more = more} h k first second =
    let row = set_one one {other = k.row} {more = k.behind} h.first_read k.first_read (more_sets_stop h.more_read first.stops) (more_sets_stop k.more_read second.stops) in
    let here = subst (λ all. More NextSet (k.row ∷ []) all others more) (sym row.1) k.more_read in
    let again = subst (λ x. More NextSet (x ∷ []) h.behind others more) (sym row.0) here in
    more_one {Row = NextSet} at_comma EndsList Stops (h.row ∷ []) rows others h.behind rest more
    (record { begins = λ row all rest read. next_set_begins read; lacks = λ rest h. h.no_comma; behind = λ before rows all rest h e. more_sets_stop h e.stops; one = λ row other all rest more h k e f. next_set_one one h k e f })
    h.more_read again first second

pub shows_one : OneExpr → {rows others : List SetAt} {all rest more : List Item} → Shows all rows rest → Shows all others more → EndsShows rest → EndsShows more →
    (rows ≡ others) × (rest ≡ more)
shows_one one (no_shows e f) k first second = let p = shows_none k (subst (λ all. at_word (codes "SHOWS") all ≡ false) f first.no_shows) in (e ∙ p.0, f ∙ p.1)
shows_one one (some_shows all word read) k first second = list_one one read (shows_there k second.no_shows word) first.list second.list
