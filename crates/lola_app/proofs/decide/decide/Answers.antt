use Rattle.std.proofs.Common.{refl}
use Rattle.std.proofs.lemmas.Option.{slice_get_read}
use Rattle.lola_app.proofs.decide.decide.Goals as goal

pub returns-in-Some : goal.returns-in-Some
returns-in-Some c = record {
  obligation = c.index-list-number.result;
  there = slice_get_read c.args.list.now _ c.loop-number.number c.index-list-number.result refl c.loop-number-test.true c.index-list-number.is;
  earlier = c.loop-number.invariant;
  least = rw c.in-Some.is at c.in_ok-numbers.ensures;
}
