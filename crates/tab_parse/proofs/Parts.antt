-- Parts of a phase that are there, and such that aren't.
use Rattle.std.proofs.Common.{◌≡◌, Bool, true, false, List, Option, Some, None, refl, sym, ap, subst, ◌∙◌}
use Rattle.std.specs.Prelude.{codes}
use Rattle.lola_tree.specs.Tree.{ActualTree}
use Rattle.lola_parse.specs.declared.symbol.Symbol.TheVariants as s
use Rattle.lola_parse.specs.Symbols.{Item}
use Rattle.lola_parse.specs.Grammar.{Passes}
use Rattle.tab_parse.specs.Placed.{TurnsAt, AccessAt, idle_at, take_at, fetch_at}
use Rattle.tab_parse.specs.Grammar.{Keyword, ExprAt, MaybeExpr, no_expr, one_expr, TurnsBehind, MaybeTurns, no_turns, some_turns, LoadBehind, LoadRead, takes, loads, StoreBehind, Access, idle, loaded, stored, fetched}
use Rattle.tab_parse.specs.Fronts.{at_word, at_byte, EndedAccess, EndsAccess}
use Rattle.tab_parse.proofs.Begins.{expression_apart}
use Rattle.tab_parse.proofs.Fronts.{keyword_one, keyword_at}

pub clash : {A : Type 0} {b : Bool} → b ≡ true → b ≡ false → A
clash one two = absurd (let p : true ≡ false = sym one ∙ two in cc)

-- an expression behind a word
pub record ExprRead (first : List Item) (e : Option ActualTree) (rest : List Item) : Type 0 where
  pub value : ActualTree
  pub read : ExprAt first value rest
  pub is : e ≡ Some value

pub link_there : {e : Option ActualTree} {all rest first : List Item} → MaybeExpr (Keyword (codes "LINK")) all e rest → at_word (codes "LINK") rest ≡ false →
    Keyword (codes "LINK") all first → ExprRead first e rest
link_there (no_expr e f) lacks word = clash (keyword_at (codes "LINK") word refl) (ap (at_word (codes "LINK")) (sym f) ∙ lacks)
link_there {rest = rest} (one_expr value first passed read e) lacks word =
    record { value = value; read = subst (λ all. ExprAt all value rest) (keyword_one passed word) read; is = e }

pub link_none : {e : Option ActualTree} {all rest : List Item} → MaybeExpr (Keyword (codes "LINK")) all e rest → at_word (codes "LINK") all ≡ false →
    (None ≡ e) × (all ≡ rest)
link_none (no_expr e f) lacks = (sym e, sym f)
link_none (one_expr value first passed read e) lacks = clash (keyword_at (codes "LINK") passed refl) lacks

passes_one : {all rest more : List Item} → Passes s.Byte all rest → Passes s.Byte all more → rest ≡ more
passes_one h k = let e = sym h.1.splits ∙ k.1.splits in cc

byte_at : {all rest : List Item} → Passes s.Byte all rest → at_byte all ≡ true
byte_at h = rw h.1.splits refl

pub byte_there : {e : Option ActualTree} {all rest first : List Item} → MaybeExpr (Passes s.Byte) all e rest → at_byte rest ≡ false → Passes s.Byte all first →
    ExprRead first e rest
byte_there (no_expr e f) lacks word = clash (byte_at word) (ap at_byte (sym f) ∙ lacks)
byte_there {rest = rest} (one_expr value first passed read e) lacks word =
    record { value = value; read = subst (λ all. ExprAt all value rest) (passes_one passed word) read; is = e }

pub byte_none : {e : Option ActualTree} {all rest : List Item} → MaybeExpr (Passes s.Byte) all e rest → at_byte all ≡ false → (None ≡ e) × (all ≡ rest)
byte_none (no_expr e f) lacks = (sym e, sym f)
byte_none (one_expr value first passed read e) lacks = clash (byte_at passed) lacks

-- turns
pub record TurnsRead (first : List Item) (turns : Option TurnsAt) (rest : List Item) : Type 0 where
  pub t : TurnsAt
  pub read : TurnsBehind first t rest
  pub is : turns ≡ Some t

pub turns_there : {turns : Option TurnsAt} {all rest first : List Item} → MaybeTurns all turns rest → at_word (codes "TURNS") rest ≡ false →
    Keyword (codes "TURNS") all first → TurnsRead first turns rest
turns_there (no_turns e f) lacks word = clash (keyword_at (codes "TURNS") word refl) (ap (at_word (codes "TURNS")) (sym f) ∙ lacks)
turns_there {rest = rest} (some_turns t first passed read e) lacks word =
    record { t = t; read = subst (λ all. TurnsBehind all t rest) (keyword_one passed word) read; is = e }

pub turns_none : {turns : Option TurnsAt} {all rest : List Item} → MaybeTurns all turns rest → at_word (codes "TURNS") all ≡ false → (None ≡ turns) × (all ≡ rest)
turns_none (no_turns e f) lacks = (sym e, sym f)
turns_none (some_turns t first passed read e) lacks = clash (keyword_at (codes "TURNS") passed refl) lacks

-- an access by its word
pub access_load : {access : AccessAt} {all rest first : List Item} → Access all access rest → EndsAccess rest → Keyword (codes "LOAD") all first →
    LoadRead first access rest
access_load (idle e f) ends word = clash (keyword_at (codes "LOAD") word refl) (ap (at_word (codes "LOAD")) (sym f) ∙ ends.no_load)
access_load {access = access} {rest = rest} (loaded first passed read) ends word = subst (λ all. LoadRead all access rest) (keyword_one passed word) read
access_load (stored first passed read) ends word = clash (keyword_at (codes "LOAD") word refl) (keyword_at (codes "LOAD") passed refl)
access_load (fetched adr first passed read e) ends word = clash (keyword_at (codes "LOAD") word refl) (keyword_at (codes "LOAD") passed refl)

pub access_store : {access : AccessAt} {all rest first : List Item} → Access all access rest → EndsAccess rest → Keyword (codes "STORE") all first →
    StoreBehind first access rest
access_store (idle e f) ends word = clash (keyword_at (codes "STORE") word refl) (ap (at_word (codes "STORE")) (sym f) ∙ ends.no_store)
access_store (loaded first passed read) ends word = clash (keyword_at (codes "STORE") word refl) (keyword_at (codes "STORE") passed refl)
access_store {access = access} {rest = rest} (stored first passed read) ends word = subst (λ all. StoreBehind all access rest) (keyword_one passed word) read
access_store (fetched adr first passed read e) ends word = clash (keyword_at (codes "STORE") word refl) (keyword_at (codes "STORE") passed refl)

pub record FetchRead (first : List Item) (access : AccessAt) (rest : List Item) : Type 0 where
  pub adr : ActualTree
  pub read : ExprAt first adr rest
  pub is : access ≡ fetch_at adr

pub access_fetch : {access : AccessAt} {all rest first : List Item} → Access all access rest → EndsAccess rest → Keyword (codes "FETCH") all first →
    FetchRead first access rest
access_fetch (idle e f) ends word = clash (keyword_at (codes "FETCH") word refl) (ap (at_word (codes "FETCH")) (sym f) ∙ ends.no_fetch)
access_fetch (loaded first passed read) ends word = clash (keyword_at (codes "FETCH") word refl) (keyword_at (codes "FETCH") passed refl)
access_fetch (stored first passed read) ends word = clash (keyword_at (codes "FETCH") word refl) (keyword_at (codes "FETCH") passed refl)
access_fetch {rest = rest} (fetched adr first passed read e) ends word =
    record { adr = adr; read = subst (λ all. ExprAt all adr rest) (keyword_one passed word) read; is = e }

pub access_none : {access : AccessAt} {all rest : List Item} → Access all access rest → at_word (codes "LOAD") all ≡ false → at_word (codes "STORE") all ≡ false →
    at_word (codes "FETCH") all ≡ false → (idle_at ≡ access) × (all ≡ rest)
access_none (idle e f) load store fetch = (sym e, sym f)
access_none (loaded first passed read) load store fetch = clash (keyword_at (codes "LOAD") passed refl) load
access_none (stored first passed read) load store fetch = clash (keyword_at (codes "STORE") passed refl) store
access_none (fetched adr first passed read e) load store fetch = clash (keyword_at (codes "FETCH") passed refl) fetch

-- a LOAD without an address, and one with it
pub load_none : {access : AccessAt} {all rest : List Item} → LoadRead all access rest → EndedAccess all → (take_at ≡ access) × (all ≡ rest)
load_none (takes e f) ended = (sym e, sym f)
load_none (loads read) ended = absurd (expression_apart read.adr_read.expr.expr ended)

pub load_some : {access : AccessAt} {all rest : List Item} → LoadRead all access rest → EndsAccess rest → (EndedAccess all → ⊥) → LoadBehind all access rest
load_some (takes e f) ends not = absurd (not (subst EndedAccess f ends.ended))
load_some (loads read) ends not = read
