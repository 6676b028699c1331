use Rattle.std.proofs.Common.{refl}
use Rattle.lola_tree.specs.Tree.{actual_tree}
use Rattle.lola_parse.proofs.Statements.{pad_step}
use Rattle.lola_parse.proofs.Whole.{handed_on}
use Rattle.lola_parse.proofs.Steps.{passed, was_read, refuses, by_read}
use Rattle.lola_parse.proofs.Suffix.{past_name, ◌then◌}
use Rattle.lola_parse.proofs.Endings.{passes_ends, argument_ends, long_on}
use Rattle.lola_parse.proofs.statement.pad.Goals as goal

pub returns-clause-ok : goal.returns-clause-ok
returns-clause-ok c =
    record {
      io = c.in_ok-io.io;
      inner = c.in_ok-inner.inner;
      value = actual_tree c.in_ok-value.value;
      release = actual_tree c.in_ok-release.release;
      first = c.in_ok-behind_open_paren.field-0;
      comma = c.in_ok-io.behind;
      second = c.in_ok-behind_comma.field-0;
      comma2 = c.in_ok-inner.behind;
      third = c.in_ok-behind_comma-2.field-0;
      comma3 = c.in_ok-value.behind;
      fourth = c.in_ok-behind_comma-3.field-0;
      close = c.in_ok-release.behind;
      open_passed = c.in_ok-behind_open_paren.ensures.ok;
      io_read = c.in_ok-io.ensures.ok;
      comma_passed = c.in_ok-behind_comma.ensures.ok;
      inner_read = c.in_ok-inner.ensures.ok;
      comma2_passed = c.in_ok-behind_comma-2.ensures.ok;
      value_read = c.in_ok-value.ensures.ok;
      comma3_passed = c.in_ok-behind_comma-3.ensures.ok;
      release_read = c.in_ok-release.ensures.ok;
      close_passed = c.in_ok-behind.ensures.ok;
      tree_is = refl;
    }

pub returns-in_err-behind_open_paren-clause-whole : goal.returns-in_err-behind_open_paren-clause-whole
returns-in_err-behind_open_paren-clause-whole c = λ t rest h ends. refuses (pad_step h) c.in_err-behind_open_paren.ensures.whole

pub returns-in_err-io-clause-whole : goal.returns-in_err-io-clause-whole
returns-in_err-io-clause-whole c = λ t rest h ends. let opened = passed _ (pad_step h) c.in_ok-behind_open_paren.ensures.whole in handed_on _ _ rest _ _ c.from_residual-in_err-io.ensures.1 (by_read opened c.in_err-io.ensures.whole)

pub returns-in_err-behind_comma-clause-whole : goal.returns-in_err-behind_comma-clause-whole
returns-in_err-behind_comma-clause-whole c = λ t rest h ends. let opened = passed _ (pad_step h) c.in_ok-behind_open_paren.ensures.whole in let io = was_read _ opened c.in_ok-io.ensures.whole in refuses io c.in_err-behind_comma.ensures.whole

pub returns-in_err-inner-clause-whole : goal.returns-in_err-inner-clause-whole
returns-in_err-inner-clause-whole c = λ t rest h ends. let opened = passed _ (pad_step h) c.in_ok-behind_open_paren.ensures.whole in let io = was_read _ opened c.in_ok-io.ensures.whole in let comma = passed _ io c.in_ok-behind_comma.ensures.whole in handed_on _ _ rest _ _ c.from_residual-in_err-inner.ensures.1 (by_read comma c.in_err-inner.ensures.whole)

pub returns-in_err-behind_comma-2-clause-whole : goal.returns-in_err-behind_comma-2-clause-whole
returns-in_err-behind_comma-2-clause-whole c = λ t rest h ends. let opened = passed _ (pad_step h) c.in_ok-behind_open_paren.ensures.whole in let io = was_read _ opened c.in_ok-io.ensures.whole in let comma = passed _ io c.in_ok-behind_comma.ensures.whole in let inner = was_read _ comma c.in_ok-inner.ensures.whole in refuses inner c.in_err-behind_comma-2.ensures.whole

pub returns-in_err-value-clause-whole : goal.returns-in_err-value-clause-whole
returns-in_err-value-clause-whole c = λ t rest h ends. let opened = passed _ (pad_step h) c.in_ok-behind_open_paren.ensures.whole in let io = was_read _ opened c.in_ok-io.ensures.whole in let comma = passed _ io c.in_ok-behind_comma.ensures.whole in let inner = was_read _ comma c.in_ok-inner.ensures.whole in let comma2 = passed _ inner c.in_ok-behind_comma-2.ensures.whole in handed_on _ _ rest _ _ c.from_residual-in_err-value.ensures.1 (by_read comma2 c.in_err-value.ensures.whole)

pub returns-in_err-behind_comma-3-clause-whole : goal.returns-in_err-behind_comma-3-clause-whole
returns-in_err-behind_comma-3-clause-whole c = λ t rest h ends. let opened = passed _ (pad_step h) c.in_ok-behind_open_paren.ensures.whole in let io = was_read _ opened c.in_ok-io.ensures.whole in let comma = passed _ io c.in_ok-behind_comma.ensures.whole in let inner = was_read _ comma c.in_ok-inner.ensures.whole in let comma2 = passed _ inner c.in_ok-behind_comma-2.ensures.whole in let value = was_read _ comma2 c.in_ok-value.ensures.whole in refuses value c.in_err-behind_comma-3.ensures.whole

pub returns-in_err-release-clause-whole : goal.returns-in_err-release-clause-whole
returns-in_err-release-clause-whole c = λ t rest h ends. let opened = passed _ (pad_step h) c.in_ok-behind_open_paren.ensures.whole in let io = was_read _ opened c.in_ok-io.ensures.whole in let comma = passed _ io c.in_ok-behind_comma.ensures.whole in let inner = was_read _ comma c.in_ok-inner.ensures.whole in let comma2 = passed _ inner c.in_ok-behind_comma-2.ensures.whole in let value = was_read _ comma2 c.in_ok-value.ensures.whole in let comma3 = passed _ value c.in_ok-behind_comma-3.ensures.whole in handed_on _ _ rest _ _ c.from_residual-in_err-release.ensures.1 (by_read comma3 c.in_err-release.ensures.whole)

pub returns-in_err-behind-clause-whole : goal.returns-in_err-behind-clause-whole
returns-in_err-behind-clause-whole c = λ t rest h ends. let opened = passed _ (pad_step h) c.in_ok-behind_open_paren.ensures.whole in let io = was_read _ opened c.in_ok-io.ensures.whole in let comma = passed _ io c.in_ok-behind_comma.ensures.whole in let inner = was_read _ comma c.in_ok-inner.ensures.whole in let comma2 = passed _ inner c.in_ok-behind_comma-2.ensures.whole in let value = was_read _ comma2 c.in_ok-value.ensures.whole in let comma3 = passed _ value c.in_ok-behind_comma-3.ensures.whole in let release = was_read _ comma3 c.in_ok-release.ensures.whole in refuses release c.in_err-behind.ensures.whole

pub returns-clause-whole : goal.returns-clause-whole
returns-clause-whole c = λ t rest h ends. let opened = passed _ (pad_step h) c.in_ok-behind_open_paren.ensures.whole in let io = was_read _ opened c.in_ok-io.ensures.whole in let comma = passed _ io c.in_ok-behind_comma.ensures.whole in let inner = was_read _ comma c.in_ok-inner.ensures.whole in let comma2 = passed _ inner c.in_ok-behind_comma-2.ensures.whole in let value = was_read _ comma2 c.in_ok-value.ensures.whole in let comma3 = passed _ value c.in_ok-behind_comma-3.ensures.whole in let release = was_read _ comma3 c.in_ok-release.ensures.whole in let close = passed _ release c.in_ok-behind.ensures.whole in (close.1, close.0)

pub returns-in_err-value-clause-long : goal.returns-in_err-value-clause-long
returns-in_err-value-clause-long c =
    long_on _ _
    (passes_ends c.in_ok-behind_open_paren.ensures.ok then past_name c.in_ok-io.ensures.ok then passes_ends c.in_ok-behind_comma.ensures.ok then
    past_name c.in_ok-inner.ensures.ok then passes_ends c.in_ok-behind_comma-2.ensures.ok)
    c.from_residual-in_err-value.ensures.1 c.in_err-value.ensures.long

pub returns-in_err-release-clause-long : goal.returns-in_err-release-clause-long
returns-in_err-release-clause-long c =
    long_on _ _
    (passes_ends c.in_ok-behind_open_paren.ensures.ok then past_name c.in_ok-io.ensures.ok then passes_ends c.in_ok-behind_comma.ensures.ok then
    past_name c.in_ok-inner.ensures.ok then passes_ends c.in_ok-behind_comma-2.ensures.ok then
    argument_ends c.in_ok-value.ensures.ok then passes_ends c.in_ok-behind_comma-3.ensures.ok)
    c.from_residual-in_err-release.ensures.1 c.in_err-release.ensures.long
