-- What the token at the front says, where a rule goes on or ends by it.
use Rattle.std.specs.Prelude.{◌≡◌, ◌⊎◌, ℕ, Bool, true, false, cond, bytes_eq, List, [], ◌∷◌, codes, Option, Some, None}
use Rattle.lola_parse.specs.declared.symbol.Symbol.{Symbol}
use Rattle.lola_parse.specs.declared.symbol.Symbol.TheVariants as sym
use Rattle.lola_parse.specs.Symbols.{Item}
use Rattle.lola_parse.specs.Read.{front, Stops}
use Rattle.tab_parse.specs.Grammar.{role_says}

-- how the token at the front is spelled
abbrev pub spelling : List Item → List ℕ
spelling [] = []
spelling (item ∷ more) = item.spelled

-- whether a symbol and its spelling are those of a word that tables reserve
abbrev pub is_keyword : List ℕ → Symbol → List ℕ → Bool
is_keyword word sym.TableWord spelled = bytes_eq spelled word
is_keyword word other spelled = false

abbrev pub is_name : Symbol → Bool
is_name sym.Name = true
is_name other = false

abbrev pub is_comma : Symbol → Bool
is_comma sym.Comma = true
is_comma other = false

abbrev pub is_bracket : Symbol → Bool
is_bracket sym.OpenBracket = true
is_bracket other = false

abbrev pub is_byte : Symbol → Bool
is_byte sym.Byte = true
is_byte other = false

abbrev pub is_some : {T : Type 0} → Option T → Bool
is_some None = false
is_some (Some x) = true

-- such a word stands at the front; a name; a comma; a "["; the word of a role
abbrev pub at_word : List ℕ → List Item → Bool
at_word word all = is_keyword word (front all) (spelling all)

abbrev pub at_name : List Item → Bool
at_name all = is_name (front all)

abbrev pub at_comma : List Item → Bool
at_comma all = is_comma (front all)

abbrev pub at_bracket : List Item → Bool
at_bracket all = is_bracket (front all)

-- the word of a class
abbrev pub at_class : List Item → Bool
at_class all = cond (at_word (codes "CLASS") all) true (at_word (codes "OUTSIDE") all)

abbrev pub at_byte : List Item → Bool
at_byte all = is_byte (front all)

abbrev pub at_role : List Item → Bool
at_role all = is_some (role_says (front all) (spelling all))

-- a rule that may end where none does
abbrev pub NotAt : (List Item → Bool) → List Item → Type 0
NotAt at rest = at rest ≡ false

-- a list of sets may end where no expression goes on and no comma stands
pub record EndsList (rest : List Item) : Type 0 where
  pub stops : Stops rest
  pub no_comma : at_comma rest ≡ false

-- and one behind SHOWS, that may be missing, where that word isn't there either
pub record EndsShows (rest : List Item) : Type 0 where
  pub list : EndsList rest
  pub no_shows : at_word (codes "SHOWS") rest ≡ false

-- TURNS, a BYTE part and LINK, which may be missing, may end where no expression goes on and their word
-- isn't there
pub record EndsTurns (rest : List Item) : Type 0 where
  pub stops : Stops rest
  pub no_turns : at_word (codes "TURNS") rest ≡ false

pub record EndsByte (rest : List Item) : Type 0 where
  pub stops : Stops rest
  pub no_byte : at_byte rest ≡ false

pub record EndsLink (rest : List Item) : Type 0 where
  pub stops : Stops rest
  pub no_link : at_word (codes "LINK") rest ≡ false

-- a word of tables or ";" stands at the front: a LOAD before it has no address
abbrev pub EndedAccess : List Item → Type 0
EndedAccess all = (front all ≡ sym.TableWord) ⊎ (front all ≡ sym.Semicolon)

-- an access may end before a word of tables or ";", where no word of an access is there
pub record EndsAccess (rest : List Item) : Type 0 where
  pub byte : EndsByte rest
  pub ended : EndedAccess rest
  pub no_load : at_word (codes "LOAD") rest ≡ false
  pub no_store : at_word (codes "STORE") rest ≡ false
  pub no_fetch : at_word (codes "FETCH") rest ≡ false

-- a class may end where no PHASE and no SET is
pub record EndsClass (rest : List Item) : Type 0 where
  pub no_phase : at_word (codes "PHASE") rest ≡ false
  pub no_set : at_word (codes "SET") rest ≡ false

-- the fields, which may be missing, where no name and no FIELDS is
pub record EndsFields (rest : List Item) : Type 0 where
  pub no_name : at_name rest ≡ false
  pub no_fields : at_word (codes "FIELDS") rest ≡ false
