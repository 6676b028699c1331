use Rattle.std.proofs.Common.{List, sym, subst}
use Rattle.lola_parse.specs.declared.symbol.Language.TheVariants.{Design}
use Rattle.lola_parse.specs.Symbols.{items_of}
use Rattle.lola_parse.specs.Design.{SpellsSource}
use Rattle.lola_parse.specs.Long.{IsTooLong, LongSays}
use Rattle.lola_scan.specs.declared.token.Token.{Token}
use Rattle.lola_source.specs.Refused.{HasRefusal}
use Rattle.lola_source.proofs.Refusals.{parse_refused}
use Rattle.lola_source.proofs.reading.spelled_source.Goals as goal

pub returns-clause-refused : goal.returns-clause-refused
returns-clause-refused c =
    subst (HasRefusal c.args.bytes.now) (sym c.from-in-Err-parse.ensures) (parse_refused c.args.bytes.now c.in-Err-parse.fault (λ other. record {
      tokens = c.in-Ok.tokens.items;
      spells = c.in-Ok.ensures.scanned;
      none = λ S spelled. c.in-Err-parse.ensures.none other S
          (subst (λ (ts : List Token). SpellsSource (items_of Design c.args.bytes.now ts) S) (sym c.as_slice.ensures.value) spelled);
    }) (λ other. subst (λ (ts : List Token). LongSays (IsTooLong Design (items_of Design c.args.bytes.now ts)) c.in-Err-parse.fault) c.as_slice.ensures.value c.in-Err-parse.ensures.long))
