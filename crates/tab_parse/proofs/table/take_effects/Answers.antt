use Rattle.tab_parse.proofs.Exits.{want}
use Rattle.std.proofs.Common.{map, ap, ◌∙◌}
use Rattle.tab_parse.specs.Placed.{set_at, class_at}
use Rattle.tab_parse.proofs.TableEnds.{fetch_no_name, classes_no_name, classes_no_fetch}
use Rattle.tab_parse.proofs.table.take_effects.Goals as goal

pub returns-in_err-behind-clause-whole : goal.returns-in_err-behind-clause-whole
returns-in_err-behind-clause-whole c =
    λ effects rest h ends.
    absurd (c.in_err-behind.ensures.whole h.starts h.start_passed)

pub returns-in_err-starts-clause-whole : goal.returns-in_err-starts-clause-whole
returns-in_err-starts-clause-whole c =
    λ effects rest h ends.
    let s0 = c.in_ok-behind.ensures.whole h.starts h.start_passed in
    want _ _ _ c.from_residual-in_err-starts.result _ c.from_residual-in_err-starts.ensures.1 (c.in_err-starts.ensures.whole effects.starts h.word_fetch (rw s0 h.starts_read) (fetch_no_name h.fetch_read (classes_no_name h.classes_read ends)))

pub returns-in_err-start_fetch-clause-whole : goal.returns-in_err-start_fetch-clause-whole
returns-in_err-start_fetch-clause-whole c =
    λ effects rest h ends.
    let s0 = c.in_ok-behind.ensures.whole h.starts h.start_passed in
    let s1 = c.in_ok-starts.ensures.whole effects.starts h.word_fetch (rw s0 h.starts_read) (fetch_no_name h.fetch_read (classes_no_name h.classes_read ends)) in
    want _ _ _ c.from_residual-in_err-start_fetch.result _ c.from_residual-in_err-start_fetch.ensures.1 (c.in_err-start_fetch.ensures.whole effects.start_fetch h.classes (rw s1.1 h.fetch_read) (classes_no_fetch h.classes_read ends))

pub returns-in_err-classes-clause-whole : goal.returns-in_err-classes-clause-whole
returns-in_err-classes-clause-whole c =
    λ effects rest h ends.
    let s0 = c.in_ok-behind.ensures.whole h.starts h.start_passed in
    let s1 = c.in_ok-starts.ensures.whole effects.starts h.word_fetch (rw s0 h.starts_read) (fetch_no_name h.fetch_read (classes_no_name h.classes_read ends)) in
    let s2 = c.in_ok-start_fetch.ensures.whole effects.start_fetch h.classes (rw s1.1 h.fetch_read) (classes_no_fetch h.classes_read ends) in
    want _ _ _ c.from_residual-in_err-classes.result _ c.from_residual-in_err-classes.ensures.1 (c.in_err-classes.ensures.whole effects.classes rest (rw s2.1 h.classes_read) ends)

pub returns-clause-whole : goal.returns-clause-whole
returns-clause-whole c =
    λ effects rest h ends.
    let s0 = c.in_ok-behind.ensures.whole h.starts h.start_passed in
    let s1 = c.in_ok-starts.ensures.whole effects.starts h.word_fetch (rw s0 h.starts_read) (fetch_no_name h.fetch_read (classes_no_name h.classes_read ends)) in
    let s2 = c.in_ok-start_fetch.ensures.whole effects.start_fetch h.classes (rw s1.1 h.fetch_read) (classes_no_fetch h.classes_read ends) in
    let s3 = c.in_ok-classes.ensures.whole effects.classes rest (rw s2.1 h.classes_read) ends in
    ((λ i. record { starts = (ap (map set_at) c.of.ensures ∙ s1.0) i; start_fetch = s2.0 i; classes = (ap (map class_at) c.of-2.ensures ∙ s3.0) i }), s3.1)

pub returns-clause-ok : goal.returns-clause-ok
returns-clause-ok c = record {
  starts = c.in_ok-behind.behind;
  word_fetch = c.in_ok-starts.behind;
  classes = c.in_ok-start_fetch.behind;
  start_passed = c.in_ok-behind.ensures.ok;
  starts_read = rw c.of.ensures c.in_ok-starts.ensures.ok;
  fetch_read = c.in_ok-start_fetch.ensures.ok;
  classes_read = rw c.of-2.ensures c.in_ok-classes.ensures.ok;
}
