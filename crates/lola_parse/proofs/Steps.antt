-- Rules that read one thing after another, step by step: what is left of a rule once its first step is
-- read, at the place where the reading stands.
use Rattle.std.proofs.Common.{◌≡◌, List, sym, subst, ◌∙◌}
use Rattle.lola_parse.specs.declared.symbol.Symbol.{Symbol}
use Rattle.lola_parse.specs.Symbols.{Item}
use Rattle.lola_parse.specs.Grammar.{Passes}
use Rattle.lola_parse.specs.MayEnd.{Sole}
use Rattle.lola_parse.proofs.Whole.{After}

-- a symbol, and then the rest of the rule
abbrev pub Symbol_then : Symbol → (List Item → Type 0) → List Item → Type 0
Symbol_then symbol Rest all = (mid : List Item) × Passes symbol all mid × Rest mid

-- what a rule reads, and then the rest of the rule
abbrev pub Read_then : {T : Type 0} → (T → List Item → Type 0) → (List Item → Type 0) → (T → List Item → Type 0) → Type 0
Read_then {T = T} Rule MayEnd Rest = (tree : T) × (mid : List Item) × (Rule tree mid) × (MayEnd mid) × Rest tree mid

pub passed : {symbol : Symbol} {all behind : List Item} (Rest : List Item → Type 0) → Symbol_then symbol Rest all → After symbol all behind → Rest behind
passed Rest w after = subst Rest (sym (after w.0 w.1)) w.2

pub was_read : {T : Type 0} {Rule : T → List Item → Type 0} {MayEnd : List Item → Type 0} {behind : List Item} {tree : T} (Rest : T → List Item → Type 0) →
    Read_then Rule MayEnd Rest → Sole Rule MayEnd tree behind → Rest tree behind
was_read {behind = behind} Rest w sole =
    let same = sole w.0 w.1 w.2 w.3 in
    subst (λ tree. Rest tree behind) (sym same.0) (subst (Rest w.0) (sym same.1) w.4)

-- one place has one front
pub clash : {C : Type 0} {here symbol other : Symbol} → here ≡ symbol → here ≡ other → (symbol ≡ other → ⊥) → C
clash one two not = absurd (not (sym one ∙ two))

-- what the reading of the first step gives
pub refuses : {C : Type 0} {symbol : Symbol} {Rest : List Item → Type 0} {all : List Item} → Symbol_then symbol Rest all → ((rest : List Item) → Passes symbol all rest → ⊥) → C
refuses w none = absurd (none w.0 w.1)

pub by_read : {T W : Type 0} {Rule : T → List Item → Type 0} {MayEnd : List Item → Type 0} {Rest : T → List Item → Type 0} →
    Read_then Rule MayEnd Rest → ((tree : T) (rest : List Item) → Rule tree rest → MayEnd rest → W) → W
by_read w whole = whole w.0 w.1 w.2 w.3
