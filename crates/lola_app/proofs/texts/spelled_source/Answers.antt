use Rattle.std.proofs.Common.{List, sym, subst, Vec, Global}
use Rattle.lola_parse.specs.declared.symbol.Language.TheVariants.{Design}
use Rattle.lola_parse.specs.Symbols.{items_of}
use Rattle.lola_parse.specs.Design.{SpellsSource}
use Rattle.lola_parse.specs.Long.{IsTooLong, LongSays}
use Rattle.lola_tree.specs.Tree.{source_tree}
use Rattle.lola_scan.specs.declared.token.Token.{Token}
use Rattle.lola_app.specs.Refused.{HasRefusal}
use Rattle.lola_app.proofs.Refusals.{scan_refused, parse_refused}
use Rattle.lola_app.proofs.texts.spelled_source.Goals as goal

pub returns-in-Err-clause-refused : goal.returns-in-Err-clause-refused
returns-in-Err-clause-refused c =
    subst (HasRefusal c.args.text.now) (sym c.from.ensures) (scan_refused c.args.text.now (λ (v : Vec Token Global). v.items) c.in-Err.fault c.in-Err.ensures.scanned)

pub returns-clause-refused : goal.returns-clause-refused
returns-clause-refused c =
    subst (HasRefusal c.args.text.now) (sym c.from-in-Err-parse.ensures) (parse_refused c.args.text.now c.in-Err-parse.fault (λ other. record {
      tokens = c.in-Ok.tokens.items;
      spells = c.in-Ok.ensures.scanned;
      none = λ S spelled. c.in-Err-parse.ensures.none other S
          (subst (λ (ts : List Token). SpellsSource (items_of Design c.args.text.now ts) S) (sym c.as_slice.ensures.value) spelled);
    }) (λ other. subst (λ (ts : List Token). LongSays (IsTooLong Design (items_of Design c.args.text.now ts)) c.in-Err-parse.fault) c.as_slice.ensures.value c.in-Err-parse.ensures.long))

pub returns-in-Ok-parse-clause-ok : goal.returns-in-Ok-parse-clause-ok
returns-in-Ok-parse-clause-ok c = record {
  tokens = c.in-Ok.tokens.items;
  spells = c.in-Ok.ensures.scanned;
  spelled = subst (λ (ts : List Token). SpellsSource (items_of Design c.args.text.now ts) (source_tree c.in-Ok-parse.source)) c.as_slice.ensures.value c.in-Ok-parse.ensures.ok;
}
