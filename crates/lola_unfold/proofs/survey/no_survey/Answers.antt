use Rattle.std.proofs.Common.{length, ap}
use Rattle.lola_unfold.proofs.Knowing.{none_known}
use Rattle.lola_unfold.proofs.survey.no_survey.Goals as goal

pub returns : goal.returns
returns c = record {
  knows = none_known c.new.result c.new.ensures;
  parts = tt;
  part_count = ap length c.new-3.ensures.items;
  laid = record { inners = λ i name. c.new-2.ensures name i; tables = tt; table_count = ap length c.new-4.ensures.items };
}
