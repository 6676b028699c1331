use Rattle.std.proofs.Common.{◌≡◌, List, sym, ap, subst, Vec, Global}
use Rattle.std.specs.Prelude.{Err}
use Rattle.lola_parse.specs.declared.symbol.Language.TheVariants.{Table}
use Rattle.lola_parse.specs.Symbols.{items_of}
use Rattle.lola_scan.specs.declared.token.Token.{Token}
use Rattle.small_tree.specs.Table.{table_tree}
use Rattle.small_read.specs.Grammar.{SpellsTable}
use Rattle.lola_app.specs.Small.{IsSmallTable}
use Rattle.lola_app.specs.Vectors.{interface_in}
use Rattle.lola_app.proofs.ByRow.{fault_is}
use Rattle.lola_app.proofs.Readings.{no_tokens, table_of}
use Rattle.lola_app.proofs.texts.table_claim.Goals as goal

pub returns-in-Err-clause-none : goal.returns-in-Err-clause-none
returns-in-Err-clause-none c = λ e T spelled small.
    no_tokens c.args.text.now (λ (v : Vec Token Global). v.items) c.in-Err.fault (c.one_reading.ensures c.args.text.now) c.in-Err.ensures.scanned (c.from.ensures (fault_is _ _ e)) spelled.tokens spelled.spells

pub returns-in-Err-read_table-clause-none : goal.returns-in-Err-read_table-clause-none
returns-in-Err-read_table-clause-none c = λ e T spelled small.
    c.in-Err-read_table.ensures.none (ap (λ f. Err f) (c.from-in-Err-read_table.ensures (fault_is _ _ e))) T
    (subst (λ (ts : List Token). SpellsTable (items_of Table c.args.text.now ts) T) (sym c.as_slice.ensures.value)
    (table_of c.args.text.now c.in-Ok.tokens.items T (c.one_reading.ensures c.args.text.now) c.in-Ok.ensures.scanned spelled))

pub returns-clause-none : goal.returns-clause-none
returns-clause-none c = λ e T spelled small.
    let read = subst (λ (ts : List Token). SpellsTable (items_of Table c.args.text.now ts) (table_tree c.in-Ok-read_table.table)) c.as_slice.ensures.value c.in-Ok-read_table.ensures.ok in
    let same : T ≡ table_tree c.in-Ok-read_table.table =
    c.one_table.ensures (items_of Table c.args.text.now c.in-Ok.tokens.items) T (table_tree c.in-Ok-read_table.table)
    (table_of c.args.text.now c.in-Ok.tokens.items T (c.one_reading.ensures c.args.text.now) c.in-Ok.ensures.scanned spelled) read in
    c.fit.ensures.none e (subst (IsSmallTable (interface_in c.args.face)) same small)
