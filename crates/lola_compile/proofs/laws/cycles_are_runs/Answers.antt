use Rattle.std.proofs.Common.{◌≢◌, subst}
use Rattle.lola_bits.specs.Lists.{IsIn}
use Rattle.lola_flat.specs.Tree.{FlatTree}
use Rattle.lola_lower.specs.Cycles.{HasCycles}
use Rattle.lola_parse.specs.declared.symbol.Language.TheVariants.{Design}
use Rattle.lola_parse.specs.Symbols.{items_of}
use Rattle.lola_tree.specs.design.Signals.{register, Signal, signals}
use Rattle.lola_design.specs.Regular.{IsVector}
use Rattle.lola_unfold.specs.Flat.{flat_design, IsElaborated}
use Rattle.lola_compile.proofs.Bits.{given_registers, next_registers, given_inputs, outside_pads, shown_pads, shown_outputs}
use Rattle.lola_compile.proofs.Runs.{runs_as}
use Rattle.lola_compile.proofs.laws.cycles_are_runs.Goals as goal

pub returns : goal.returns
returns c = λ bytes S F net accepts elaborated has.
    let o = F.order in
    let G = flat_design S o in
    let is : IsElaborated S G = subst (IsElaborated S) elaborated.is elaborated in
    let sized = accepts.sized in
    let written = c.texts_are_written.ensures (items_of Design bytes accepts.source.tokens) S accepts.source.spelled in
    let widths = (c.types_suit.ensures S sized written).signals_have in
    let vectors : (x : Signal) → IsIn x (signals S) → x.kind ≢ register → IsVector x.type = λ x there other. c.types_are_vectors.ensures S x sized there other in
    runs_as S o net
    (record {
      stored = given_registers S o widths vectors;
      entered = given_inputs S o widths vectors;
      outer = outside_pads S o widths vectors;
      outputs = shown_outputs S o widths vectors;
      pads = shown_pads S o widths vectors;
      behind = next_registers S o widths vectors;
    })
    (record {
      given = λ s inp state given. c.what_is_given.ensures.given S G s inp sized written is state given;
      outside = λ inp given. c.what_is_given.ensures.outside S G inp sized written is given;
      cycle = λ s inp v state given cycle. c.cycles_are_flat.ensures.to_flat S G s inp v sized written is state given cycle;
      next = λ s inp v after state given cycle next. c.next_is_flat.ensures.to_flat S G s inp v after sized written is state given cycle next;
      one = λ s inp state given. c.one_cycle.ensures.cycle S G s inp sized written is state given;
    })
    (subst (λ (H : FlatTree). HasCycles H net) elaborated.is has)
