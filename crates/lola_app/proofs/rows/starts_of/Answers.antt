use Rattle.std.proofs.Common.{map, string_bytes}
use Rattle.std.proofs.lemmas.Result.{IfOk-weaker}
use Rattle.lola_bits.specs.Lists.{AreEach}
use Rattle.small_tree.specs.Table.{set_tree}
use Rattle.lola_app.specs.declared.states.Shown.{Shown}
use Rattle.lola_app.specs.Small.{AreSmallRows, IsNoName}
use Rattle.lola_app.specs.Starts.{IsStartRow}
use Rattle.lola_app.proofs.SetRows.{starts_small}
use Rattle.lola_app.proofs.rows.starts_of.Goals as goal

pub returns-clause-small : goal.returns-clause-small
returns-clause-small c = IfOk-weaker c.each_start.result
    (λ starts. AreEach (IsStartRow c.args.states.now) (map set_tree c.args.rows.now) starts.items)
    (λ starts. AreSmallRows (map (λ (s : Shown). string_bytes s.name) c.args.states.now) IsNoName (map set_tree c.args.rows.now))
    (λ starts each. record {
      distinct = c.in_ok-are_distinct_rows.ensures.0 c.if-not-branch.false;
      each = starts_small c.args.states.now (map set_tree c.args.rows.now) starts.items each;
    })
    c.each_start.ensures.ok
