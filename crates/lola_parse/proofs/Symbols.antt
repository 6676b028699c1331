-- Lemmas on the tokens of a text.
use Rattle.std.proofs.Common.{ℕ, zero, suc, List, [], ◌∷◌, drop}
use Rattle.lola_scan.specs.declared.token.Token.{Token}
use Rattle.lola_parse.specs.Symbols.{AreIn}

-- of tokens that lie within their text, those from a number on do too
pub AreIn-drop : (text : List ℕ) (n : ℕ) (tokens : List Token) → AreIn text tokens → AreIn text (drop n tokens)
AreIn-drop text zero tokens h = h
AreIn-drop text (suc n) [] h = h
AreIn-drop text (suc n) (token ∷ more) h = AreIn-drop text n more h.1
