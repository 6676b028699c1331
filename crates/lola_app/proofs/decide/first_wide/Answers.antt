use Rattle.std.proofs.Common.{◌<◌, refl, subst}
use Rattle.std.proofs.lemmas.Option.{slice_get_read}
use Rattle.lola_app.proofs.decide.first_wide.Goals as goal

pub returns-then-branch-gt16 : goal.returns-then-branch-gt16
returns-then-branch-gt16 c = record {
  obligation = c.index-list-number.result;
  there = slice_get_read c.args.list.now _ c.loop-number.number c.index-list-number.result refl c.loop-number-test.true c.index-list-number.is;
  earlier = c.loop-number.invariant;
  wide = subst (λ n. 16 < n) c.in_ok-free_bits.ensures c.if-branch-gt16.true;
}
