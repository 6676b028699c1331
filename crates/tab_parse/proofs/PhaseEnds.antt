-- What stands behind the parts of a phase: a later part, or ";".
use Rattle.std.proofs.Common.{ℕ, List, Option, inl, inr, refl, subst}
use Rattle.std.specs.Prelude.{codes}
use Rattle.lola_tree.specs.Tree.{ActualTree}
use Rattle.lola_parse.specs.declared.symbol.Symbol.TheVariants as s
use Rattle.lola_parse.specs.Symbols.{Item}
use Rattle.lola_parse.specs.Grammar.{Passes}
use Rattle.lola_parse.specs.Read.{Stops}
use Rattle.tab_parse.specs.Placed.{SetAt, AccessAt}
use Rattle.tab_parse.specs.Grammar.{Keyword, MaybeExpr, no_expr, one_expr, Shows, no_shows, some_shows, Access, idle, loaded, stored, fetched}
use Rattle.tab_parse.specs.Fronts.{EndsShows, EndsTurns, EndsByte, EndsLink, EndsAccess}

-- LINK or ";"; SHOWS or one of these; an access or one of those
pub data Fourth (all : List Item) : Type 0 where
  linked : {rest : List Item} → Keyword (codes "LINK") all rest → Fourth all
  closed : {rest : List Item} → Passes s.Semicolon all rest → Fourth all

pub data Third (all : List Item) : Type 0 where
  shown : {rest : List Item} → Keyword (codes "SHOWS") all rest → Third all
  fourth : Fourth all → Third all

pub data Second (all : List Item) : Type 0 where
  loads : {rest : List Item} → Keyword (codes "LOAD") all rest → Second all
  stores : {rest : List Item} → Keyword (codes "STORE") all rest → Second all
  fetches : {rest : List Item} → Keyword (codes "FETCH") all rest → Second all
  third : Third all → Second all

pub link_front : {e : Option ActualTree} {all ended rest : List Item} → MaybeExpr (Keyword (codes "LINK")) all e ended → Passes s.Semicolon ended rest → Fourth all
link_front {ended = ended} (no_expr e f) closes = subst Fourth f (closed closes)
link_front (one_expr value first word read e) closes = linked word

pub shows_front : {rows : List SetAt} {all rest : List Item} → Shows all rows rest → Fourth rest → Third all
shows_front (no_shows e f) behind = fourth (subst Fourth f behind)
shows_front (some_shows first word read) behind = shown word

pub access_front : {access : AccessAt} {all rest : List Item} → Access all access rest → Third rest → Second all
access_front (idle e f) behind = third (subst Third f behind)
access_front (loaded first word read) behind = loads word
access_front (stored first word read) behind = stores word
access_front (fetched adr first word read e) behind = fetches word

pub semicolon_link : {all rest : List Item} → Passes s.Semicolon all rest → EndsLink all
semicolon_link h = record { stops = record { stops = rw h.1.splits refl }; no_link = rw h.1.splits refl }

pub ends_shows : {all : List Item} → Fourth all → EndsShows all
ends_shows (linked h) = record { list = record { stops = record { stops = rw h.1.splits refl }; no_comma = rw h.1.splits refl }; no_shows = rw h.1.splits refl }
ends_shows (closed h) = record { list = record { stops = record { stops = rw h.1.splits refl }; no_comma = rw h.1.splits refl }; no_shows = rw h.1.splits refl }

pub ends_access : {all : List Item} → Third all → EndsAccess all
ends_access (shown h) = record {
  byte = record { stops = record { stops = rw h.1.splits refl }; no_byte = rw h.1.splits refl };
  ended = inl (rw h.1.splits refl);
  no_load = rw h.1.splits refl;
  no_store = rw h.1.splits refl;
  no_fetch = rw h.1.splits refl;
}
ends_access (fourth (linked h)) = record {
  byte = record { stops = record { stops = rw h.1.splits refl }; no_byte = rw h.1.splits refl };
  ended = inl (rw h.1.splits refl);
  no_load = rw h.1.splits refl;
  no_store = rw h.1.splits refl;
  no_fetch = rw h.1.splits refl;
}
ends_access (fourth (closed h)) = record {
  byte = record { stops = record { stops = rw h.1.splits refl }; no_byte = rw h.1.splits refl };
  ended = inr (rw h.1.splits refl);
  no_load = rw h.1.splits refl;
  no_store = rw h.1.splits refl;
  no_fetch = rw h.1.splits refl;
}

pub ends_turns : {all : List Item} → Second all → EndsTurns all
ends_turns (loads h) = record { stops = record { stops = rw h.1.splits refl }; no_turns = rw h.1.splits refl }
ends_turns (stores h) = record { stops = record { stops = rw h.1.splits refl }; no_turns = rw h.1.splits refl }
ends_turns (fetches h) = record { stops = record { stops = rw h.1.splits refl }; no_turns = rw h.1.splits refl }
ends_turns (third (shown h)) = record { stops = record { stops = rw h.1.splits refl }; no_turns = rw h.1.splits refl }
ends_turns (third (fourth (linked h))) = record { stops = record { stops = rw h.1.splits refl }; no_turns = rw h.1.splits refl }
ends_turns (third (fourth (closed h))) = record { stops = record { stops = rw h.1.splits refl }; no_turns = rw h.1.splits refl }

-- behind the expressions before a word
pub word_byte : {word : List ℕ} {all rest : List Item} → Keyword word all rest → EndsByte all
word_byte h = record { stops = record { stops = rw h.1.splits refl }; no_byte = rw h.1.splits refl }

pub byte_stops : {e : Option ActualTree} {all rest : List Item} → MaybeExpr (Passes s.Byte) all e rest → Stops rest → Stops all
byte_stops (no_expr e f) stops = subst Stops f stops
byte_stops (one_expr value first word read e) stops = record { stops = rw word.1.splits refl }
