use Rattle.lola_tree.specs.Tree.{source_tree}
use Rattle.lola_flat.specs.Tree.{flat_tree}
use Rattle.lola_parse.specs.declared.symbol.Language.TheVariants.{Design}
use Rattle.lola_parse.specs.Symbols.{items_of}
use Rattle.lola_source.proofs.reading.read_source.Goals as goal

pub returns-in-Ok-elaborate-clause-ok : goal.returns-in-Ok-elaborate-clause-ok
returns-in-Ok-elaborate-clause-ok c =
    let S = source_tree c.in-Ok.source in
    let spelled = c.in-Ok.ensures.spelled in
    let written = c.texts_are_written.ensures (items_of Design c.args.bytes.now spelled.tokens) S spelled.spelled in
    record {
      accepts = record {
        source = spelled;
        sized = c.in-Ok.ensures.sized;
        shallow = c.in-Ok-elaborate.ensures.flat;
        few = c.in-Ok-elaborate.ensures.few;
        open_chains = λ loop. c.one_cycle.ensures.chain S (flat_tree c.in-Ok-elaborate.flat) c.in-Ok.ensures.sized written c.in-Ok-elaborate.ensures.elaborated loop;
      };
      elaborated = c.in-Ok-elaborate.ensures.elaborated;
    }

pub returns-in-Ok-elaborate-clause-formed : goal.returns-in-Ok-elaborate-clause-formed
returns-in-Ok-elaborate-clause-formed c =
    let S = source_tree c.in-Ok.source in
    let spelled = c.in-Ok.ensures.spelled in
    let written = c.texts_are_written.ensures (items_of Design c.args.bytes.now spelled.tokens) S spelled.spelled in
    c.elaborated_is_formed.ensures S (flat_tree c.in-Ok-elaborate.flat) c.in-Ok.ensures.sized written c.in-Ok-elaborate.ensures.elaborated c.in-Ok-elaborate.ensures.few
