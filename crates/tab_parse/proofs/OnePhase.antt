-- The phases of a class are read in one way, where expressions and types are.
use Rattle.std.proofs.Common.{◌≡◌, ℕ, false, List, [], ◌∷◌, Option, Some, sym, ap, subst, ◌∙◌}
use Rattle.std.specs.Prelude.{codes}
use Rattle.lola_tree.specs.Tree.{ActualTree}
use Rattle.lola_parse.specs.declared.symbol.Symbol.TheVariants as s
use Rattle.lola_parse.specs.Symbols.{Item}
use Rattle.lola_parse.specs.Grammar.{Passes, place_of}
use Rattle.lola_parse.specs.Read.{Stops, Anywhere}
use Rattle.tab_parse.specs.Placed.{TurnsAt, AccessAt, load_at, store_at, fetch_at, PhaseAt}
use Rattle.tab_parse.specs.Grammar.{Keyword, More, TurnsBehind, MaybeTurns, no_turns, some_turns, MaybeExpr, no_expr, one_expr, StoreBehind, LoadBehind, LoadRead, takes, loads, Access, idle, loaded, stored, fetched, PhaseRow, PhaseList}
use Rattle.tab_parse.specs.Fronts.{at_word, at_byte, NotAt, EndedAccess, EndsTurns, EndsByte, EndsLink, EndsAccess}
use Rattle.tab_parse.proofs.Begins.{expression_apart}
use Rattle.tab_parse.proofs.Fronts.{keyword_one, phase_begins}
use Rattle.tab_parse.proofs.Parts.{turns_there, turns_none, link_there, link_none, byte_there, byte_none, access_load, access_store, access_fetch, access_none, load_none, load_some}
use Rattle.tab_parse.proofs.PhaseEnds.{link_front, shows_front, access_front, semicolon_link, ends_shows, ends_access, ends_turns, word_byte, byte_stops}
use Rattle.tab_parse.proofs.OneFront.{passes_one, number_one, OneExpr, OneShape, more_one}
use Rattle.tab_parse.proofs.OneRow.{shows_one}

word_stops : {word : List ℕ} {all rest : List Item} → Keyword word all rest → Stops all
word_stops h = (word_byte h).stops

turns_behind_one : OneExpr → OneShape → {t other : TurnsAt} {all rest more : List Item} → TurnsBehind all t rest → TurnsBehind all other more → Stops rest →
    Stops more → (t ≡ other) × (rest ≡ more)
turns_behind_one one shape {other = other} {rest = rest} {more = more} h k first second =
    let times = number_one {other = other.times} {more = k.word_of} h.times_read k.times_read in
    let word = keyword_one {more = k.type} h.of_passed (rw times.1 k.of_passed) in
    let type = shape h.type _ other.shape _ k.word_from h.shape_read (rw word k.shape_read) in
    let type_at = h.shape_place ∙ (ap place_of word ∙ sym k.shape_place) in
    let from = keyword_one {more = k.first} h.from_passed (rw type.1 k.from_passed) in
    let begin = one h.first _ other.first _ k.word_step h.first_read (word_stops h.step_passed) (rw from k.first_read) (word_stops k.step_passed) in
    let second_word = keyword_one {more = k.second} h.step_passed (rw begin.1 k.step_passed) in
    let step = one h.second _ other.step rest more h.step_read first (rw second_word k.step_read) second in
    ((λ i. record { times = times.0 i; shape = type.0 i; shape_at = type_at i; first = begin.0 i; step = step.0 i }), step.1)

turns_one : OneExpr → OneShape → {turns other : Option TurnsAt} {all rest more : List Item} → MaybeTurns all turns rest → MaybeTurns all other more →
    EndsTurns rest → EndsTurns more → (turns ≡ other) × (rest ≡ more)
turns_one one shape (no_turns e f) k first second = let p = turns_none k (subst (λ all. at_word (codes "TURNS") all ≡ false) f first.no_turns) in (e ∙ p.0, f ∙ p.1)
turns_one one shape (some_turns t all word read is) k first second =
    let p = turns_there k second.no_turns word in
    let q = turns_behind_one one shape read p.read first.stops second.stops in
    (is ∙ ((λ i. Some (q.0 i)) ∙ sym p.is), q.1)

link_one : OneExpr → {e other : Option ActualTree} {all rest more : List Item} → MaybeExpr (Keyword (codes "LINK")) all e rest →
    MaybeExpr (Keyword (codes "LINK")) all other more → EndsLink rest → EndsLink more → (e ≡ other) × (rest ≡ more)
link_one one (no_expr e f) k first second = let p = link_none k (subst (λ all. at_word (codes "LINK") all ≡ false) f first.no_link) in (e ∙ p.0, f ∙ p.1)
link_one one {rest = rest} {more = more} (one_expr value all word read is) k first second =
    let p = link_there k second.no_link word in
    let q = one all value p.value rest more read first.stops p.read second.stops in
    (is ∙ ((λ i. Some (q.0 i)) ∙ sym p.is), q.1)

byte_one : OneExpr → {e other : Option ActualTree} {all rest more : List Item} → MaybeExpr (Passes s.Byte) all e rest → MaybeExpr (Passes s.Byte) all other more →
    EndsByte rest → EndsByte more → (e ≡ other) × (rest ≡ more)
byte_one one (no_expr e f) k first second = let p = byte_none k (subst (λ all. at_byte all ≡ false) f first.no_byte) in (e ∙ p.0, f ∙ p.1)
byte_one one {rest = rest} {more = more} (one_expr value all word read is) k first second =
    let p = byte_there k second.no_byte word in
    let q = one all value p.value rest more read first.stops p.read second.stops in
    (is ∙ ((λ i. Some (q.0 i)) ∙ sym p.is), q.1)

store_one : OneExpr → {access other : AccessAt} {all rest more : List Item} → StoreBehind all access rest → StoreBehind all other more → Stops rest → Stops more →
    (access ≡ other) × (rest ≡ more)
store_one one {all = all} {rest = rest} {more = more} h k first second =
    let adr = one all h.adr k.adr h.word_byte k.word_byte h.adr_read (byte_stops h.byte_read (word_stops h.data_passed)) k.adr_read (byte_stops k.byte_read (word_stops k.data_passed)) in
    let byte = byte_one one {other = k.byte} {more = k.word_data} h.byte_read (rw adr.1 k.byte_read) (word_byte h.data_passed) (word_byte k.data_passed) in
    let data_word = keyword_one {more = k.first} h.data_passed (rw byte.1 k.data_passed) in
    let value = one h.first h.word k.word rest more h.word_read first (rw data_word k.word_read) second in
    (h.access_is ∙ ((λ i. store_at (adr.0 i) (byte.0 i) (value.0 i)) ∙ sym k.access_is), value.1)

load_one : OneExpr → {access other : AccessAt} {all rest more : List Item} → LoadBehind all access rest → LoadBehind all other more → EndsByte rest →
    EndsByte more → (access ≡ other) × (rest ≡ more)
load_one one {all = all} {rest = rest} {more = more} h k first second =
    let adr = one all h.adr k.adr h.word_byte k.word_byte h.adr_read (byte_stops h.byte_read first.stops) k.adr_read (byte_stops k.byte_read second.stops) in
    let byte = byte_one one {other = k.byte} {more = more} h.byte_read (rw adr.1 k.byte_read) first second in
    (h.access_is ∙ ((λ i. load_at (adr.0 i) (byte.0 i)) ∙ sym k.access_is), byte.1)

load_read_one : OneExpr → {access other : AccessAt} {all rest more : List Item} → LoadRead all access rest → LoadRead all other more → EndsAccess rest →
    EndsAccess more → (access ≡ other) × (rest ≡ more)
load_read_one one (takes e f) k first second = let p = load_none k (subst EndedAccess f first.ended) in (e ∙ p.0, f ∙ p.1)
load_read_one one (loads read) k first second =
    load_one one read (load_some k second (λ ended. expression_apart read.adr_read.expr.expr ended)) first.byte second.byte

access_one : OneExpr → {access other : AccessAt} {all rest more : List Item} → Access all access rest → Access all other more → EndsAccess rest → EndsAccess more →
    (access ≡ other) × (rest ≡ more)
access_one one (idle e f) k first second =
    let p = access_none k (subst (λ all. at_word (codes "LOAD") all ≡ false) f first.no_load) (subst (λ all. at_word (codes "STORE") all ≡ false) f first.no_store)
    (subst (λ all. at_word (codes "FETCH") all ≡ false) f first.no_fetch) in
    (e ∙ p.0, f ∙ p.1)
access_one one (loaded all word read) k first second = load_read_one one read (access_load k second word) first second
access_one one (stored all word read) k first second = store_one one read (access_store k second word) first.byte.stops second.byte.stops
access_one one {rest = rest} {more = more} (fetched adr all word read is) k first second =
    let p = access_fetch k second word in
    let q = one all adr p.adr rest more read first.byte.stops p.read second.byte.stops in
    (is ∙ ((λ i. fetch_at (q.0 i)) ∙ sym p.is), q.1)

phase_one : OneExpr → OneShape → {phase other : PhaseAt} {all rest more : List Item} → PhaseRow all phase rest → PhaseRow all other more →
    (phase ≡ other) × (rest ≡ more)
phase_one one shape {other = other} {more = more} h k =
    let h4 = link_front h.link_read h.ended_passed in
    let k4 = link_front k.link_read k.ended_passed in
    let h3 = shows_front h.shows_read h4 in
    let k3 = shows_front k.shows_read k4 in
    let word = keyword_one {more = k.first} h.word_passed k.word_passed in
    let turns = turns_one one shape {other = other.turns} {more = k.second} h.turns_read (rw word k.turns_read) (ends_turns (access_front h.access_read h3))
    (ends_turns (access_front k.access_read k3)) in
    let access = access_one one {other = other.access} {more = k.third} h.access_read (rw turns.1 k.access_read) (ends_access h3) (ends_access k3) in
    let shows = shows_one one {others = other.shows} {more = k.fourth} h.shows_read (rw access.1 k.shows_read) (ends_shows h4) (ends_shows k4) in
    let link = link_one one {other = other.link} {more = k.ended} h.link_read (rw shows.1 k.link_read) (semicolon_link h.ended_passed) (semicolon_link k.ended_passed) in
    let ended = passes_one {more = more} h.ended_passed (rw link.1 k.ended_passed) in
    ((λ i. record { turns = turns.0 i; access = access.0 i; shows = shows.0 i; link = link.0 i }), ended)

pub phases_one : OneExpr → OneShape → {phases others : List PhaseAt} {all rest more : List Item} → PhaseList all phases rest → PhaseList all others more →
    NotAt (at_word (codes "PHASE")) rest → NotAt (at_word (codes "PHASE")) more → (phases ≡ others) × (rest ≡ more)
phases_one one shape {phases = phases} {others = others} {rest = rest} {more = more} h k first second =
    let phase = phase_one one shape {other = k.phase} {more = k.behind} h.first_read k.first_read in
    let here = subst (λ all. More PhaseRow (k.phase ∷ []) all others more) (sym phase.1) k.more_read in
    let again = subst (λ x. More PhaseRow (x ∷ []) h.behind others more) (sym phase.0) here in
    more_one {Row = PhaseRow} (at_word (codes "PHASE")) (NotAt (at_word (codes "PHASE"))) Anywhere (h.phase ∷ []) phases others h.behind rest more
    (record { begins = λ row all rest read. phase_begins read; lacks = λ rest h. h; behind = λ before rows all rest h e. tt; one = λ row other all rest more h k e f. phase_one one shape h k })
    h.more_read again first second
