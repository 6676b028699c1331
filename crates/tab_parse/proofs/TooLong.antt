-- What begins too long from a token on is too long in the text.
use Rattle.std.proofs.Common.{ℕ, List, take, drop, Result, Ok, Err, sym, ap, ◌∙◌}
use Rattle.std.specs.Prelude.{IfErr, IfSome}
use Rattle.std.specs.Result.{result_err}
use Rattle.std.proofs.lemmas.List.{map-append, take-append-drop}
use Rattle.lola_scan.specs.declared.token.Token.{Token}
use Rattle.lola_parse.specs.declared.symbol.Language.{Language}
use Rattle.lola_parse.specs.declared.parser.ParseError.{ParseError}
use Rattle.lola_parse.specs.declared.parser.ParseError.TheVariants as error
use Rattle.lola_parse.specs.Symbols.{items_of, item_of}
use Rattle.lola_parse.specs.Long.{BeginsTooLong, IsTooLong, LongSays}

pub too_long_from : (l : Language) (text : List ℕ) (tokens : List Token) (from : ℕ) (e : ParseError) →
    LongSays (BeginsTooLong l (items_of l text (drop from tokens))) e → LongSays (IsTooLong l (items_of l text tokens)) e
too_long_from l text tokens from (error.Long at) h = record {
  before = items_of l text (take from tokens);
  here = items_of l text (drop from tokens);
  splits = sym (ap (items_of l text) (take-append-drop from tokens)) ∙ map-append (item_of l text) (take from tokens) (drop from tokens);
  long = h;
}
too_long_from l text tokens from (error.Syntax at) h = tt
too_long_from l text tokens from error.Memory h = tt

-- what holds of an error holds of it alone
pub err_says : {X E : Type 0} (P : E → Type 0) (r : Result X E) → IfErr r P → IfSome (result_err r) P
err_says P (Ok x) h = tt
err_says P (Err e) h = h
