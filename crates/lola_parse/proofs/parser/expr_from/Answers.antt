use Rattle.std.proofs.Common.{◌≡◌, ◌<◌, ◌-◌, length, drop, Err, sym, ap, subst, ◌∙◌, arith, length-drop}
use Rattle.lola_tree.specs.Tree.{tree}
use Rattle.lola_parse.specs.Symbols.{items_of}
use Rattle.lola_parse.specs.Design.{Outermost}
use Rattle.lola_parse.specs.Read.{IsParsed}
use Rattle.lola_parse.proofs.Suffix.{reads, items_long}
use Rattle.lola_parse.proofs.Symbols.{AreIn-drop}
use Rattle.lola_parse.specs.Long.{LongFront}
use Rattle.lola_parse.proofs.TooLong.{from_long}
use Rattle.lola_parse.proofs.parser.expr_from.Goals as goal

pub new-requires : goal.new-requires
new-requires c = rw c.split_at.ensures.back (AreIn-drop _ _ _ c.requires.lie_within)

pub returns-in-Ok-clause-ok : goal.returns-in-Ok-clause-ok
returns-in-Ok-clause-ok c =
    let l = c.args.language in
    let text = c.args.text.now in
    let tokens = c.args.tokens.now in
    let e = tree c.in-Ok.tree in
    let from = c.new.ensures ∙ ap (items_of l text) c.split_at.ensures.back in
    let shorter = subst (λ all. length c.in-Ok.behind < length all) from c.in-Ok.ensures.shorter in
    let read = subst (λ all. Outermost l all e c.in-Ok.behind) from c.in-Ok.ensures.ok in
    rw c.left.ensures (reads l text tokens c.args.from e c.in-Ok.behind c.requires.from_in shorter read)

pub returns-in-Ok-clause-whole : goal.returns-in-Ok-clause-whole
returns-in-Ok-clause-whole c =
    λ e n read.
    let l = c.args.language in
    let text = c.args.text.now in
    let tokens = c.args.tokens.now in
    let rest = items_of l text (drop n tokens) in
    let from = c.new.ensures ∙ ap (items_of l text) c.split_at.ensures.back in
    let same = c.in-Ok.ensures.whole e rest (subst (λ all. Outermost l all e rest) (sym from) read.reads.outermost) read.ends in
    let long : length c.in-Ok.behind ≡ length tokens - n = ap length same.1 ∙ (items_long l text (drop n tokens) ∙ length-drop n tokens) in
    let within = read.reads.within in
    let left = c.left.ensures in
    (same.0, omega arith)

pub returns-in-Err-clause-whole : goal.returns-in-Err-clause-whole
returns-in-Err-clause-whole c =
    λ e n read.
    let l = c.args.language in
    let text = c.args.text.now in
    let rest = items_of l text (drop n c.args.tokens.now) in
    let from = c.new.ensures ∙ ap (items_of l text) c.split_at.ensures.back in
    let want = c.in-Err.ensures.whole e rest (subst (λ all. Outermost l all e rest) (sym from) read.reads.outermost) read.ends in
    subst (λ error. IsParsed tree e n (Err error)) (sym (c.placed.ensures.want want)) tt

pub returns-in-Err-clause-long : goal.returns-in-Err-clause-long
returns-in-Err-clause-long c =
    let l = c.args.language in
    let from = c.new.ensures ∙ ap (items_of l c.args.text.now) c.split_at.ensures.back in
    from_long l c.args.text.now c.args.tokens.now c.args.from c.in-Err.fault c.placed.result (subst (λ all. LongFront l all c.in-Err.fault) from c.in-Err.ensures.long)
    c.placed.ensures.long
