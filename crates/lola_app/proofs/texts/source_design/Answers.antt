use Rattle.std.proofs.Common.{sym, ap, subst}
use Rattle.std.specs.Prelude.{Err}
use Rattle.lola_tree.specs.Tree.{source_tree}
use Rattle.lola_app.specs.Refused.{HasRefusal}
use Rattle.lola_app.proofs.Refusals.{size_refused, elab_refused}
use Rattle.lola_app.proofs.texts.source_design.Goals as goal

pub returns-in-Err-sizes-clause-refused : goal.returns-in-Err-sizes-clause-refused
returns-in-Err-sizes-clause-refused c =
    subst (HasRefusal c.args.text.now) (sym c.from.ensures) (size_refused c.args.text.now c.in-Err-sizes.fault (λ other. record {
      S = source_tree c.in-Ok.source;
      tokens = c.in-Ok.ensures.ok.tokens;
      spells = c.in-Ok.ensures.ok.spells;
      spelled = c.in-Ok.ensures.ok.spelled;
      first = c.in-Err-sizes.ensures.fault other;
    }))

pub returns-clause-refused : goal.returns-clause-refused
returns-clause-refused c =
    subst (HasRefusal c.args.text.now) (sym c.from-in-Err-read_design.ensures) (elab_refused c.args.text.now c.in-Err-read_design.fault (λ e. record {
      S = source_tree c.in-Ok.source;
      tokens = c.in-Ok.ensures.ok.tokens;
      spells = c.in-Ok.ensures.ok.spells;
      spelled = c.in-Ok.ensures.ok.spelled;
      sized = c.in-Ok-sizes.ensures.ok;
      large = λ built. c.in-Err-read_design.ensures.none (ap (λ f. Err f) e) (c.built_is_small.ensures.small (source_tree c.in-Ok.source) c.in-Ok-sizes.ensures.ok built);
    }))
