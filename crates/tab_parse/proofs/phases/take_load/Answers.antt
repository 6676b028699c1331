use Rattle.std.proofs.Common.{refl, sym, ◌∙◌}
use Rattle.lola_tree.specs.Tree.{actual_tree, place_tree}
use Rattle.tab_parse.specs.Placed.{load_at}
use Rattle.tab_parse.specs.Grammar.{loads}
use Rattle.tab_parse.proofs.Exits.{want}
use Rattle.tab_parse.proofs.Parts.{load_none, load_some}
use Rattle.tab_parse.proofs.PhaseEnds.{byte_stops}
use Rattle.tab_parse.proofs.phases.take_load.Goals as goal

pub returns-then-is_access_ended-clause-whole : goal.returns-then-is_access_ended-clause-whole
returns-then-is_access_ended-clause-whole c = λ access rest h ends. load_none h (c.is_access_ended.ensures.yes c.if-is_access_ended.true)

pub returns-in_err-adr-clause-whole : goal.returns-in_err-adr-clause-whole
returns-in_err-adr-clause-whole c =
    λ access rest h ends.
    let p = load_some h ends (c.is_access_ended.ensures.no c.if-is_access_ended.false) in
    want _ _ _ c.from_residual.result _ c.from_residual.ensures.1
    (c.in_err-adr.ensures.whole p.adr p.word_byte p.adr_read (byte_stops p.byte_read ends.byte.stops))

pub returns-in_err-byte-clause-whole : goal.returns-in_err-byte-clause-whole
returns-in_err-byte-clause-whole c =
    λ access rest h ends.
    let p = load_some h ends (c.is_access_ended.ensures.no c.if-is_access_ended.false) in
    let s0 = c.in_ok-adr.ensures.whole p.adr p.word_byte p.adr_read (byte_stops p.byte_read ends.byte.stops) in
    want _ _ _ c.from_residual-in_err-byte.result _ c.from_residual-in_err-byte.ensures.1
    (c.in_err-byte.ensures.whole p.byte rest (rw s0.1 p.byte_read) ends.byte)

pub returns-clause-ok : goal.returns-clause-ok
returns-clause-ok c =
    loads (record {
      adr = actual_tree c.in_ok-adr.adr;
      byte = place_tree c.in_ok-byte.byte;
      word_byte = c.in_ok-adr.behind;
      adr_read = c.in_ok-adr.ensures.ok;
      byte_read = c.in_ok-byte.ensures.ok;
      access_is = refl;
    })

pub returns-clause-whole : goal.returns-clause-whole
returns-clause-whole c =
    λ access rest h ends.
    let p = load_some h ends (c.is_access_ended.ensures.no c.if-is_access_ended.false) in
    let s0 = c.in_ok-adr.ensures.whole p.adr p.word_byte p.adr_read (byte_stops p.byte_read ends.byte.stops) in
    let s1 = c.in_ok-byte.ensures.whole p.byte rest (rw s0.1 p.byte_read) ends.byte in
    ((λ i. load_at (s0.0 i) (s1.0 i)) ∙ sym p.access_is, s1.1)
