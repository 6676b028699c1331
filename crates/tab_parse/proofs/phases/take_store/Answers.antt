use Rattle.tab_parse.proofs.Exits.{want}
use Rattle.std.proofs.Common.{refl, sym, ◌∙◌}
use Rattle.tab_parse.specs.Placed.{store_at}
use Rattle.tab_parse.proofs.PhaseEnds.{word_byte, byte_stops}
use Rattle.lola_tree.specs.Tree.{actual_tree, place_tree}
use Rattle.tab_parse.proofs.phases.take_store.Goals as goal

pub returns-in_err-adr-clause-whole : goal.returns-in_err-adr-clause-whole
returns-in_err-adr-clause-whole c =
    λ row rest h ends.
    want _ _ _ c.from_residual.result _ c.from_residual.ensures.1 (c.in_err-adr.ensures.whole h.adr h.word_byte h.adr_read (byte_stops h.byte_read (word_byte h.data_passed).stops))

pub returns-in_err-byte-clause-whole : goal.returns-in_err-byte-clause-whole
returns-in_err-byte-clause-whole c =
    λ row rest h ends.
    let s0 = c.in_ok-adr.ensures.whole h.adr h.word_byte h.adr_read (byte_stops h.byte_read (word_byte h.data_passed).stops) in
    want _ _ _ c.from_residual-in_err-byte.result _ c.from_residual-in_err-byte.ensures.1 (c.in_err-byte.ensures.whole h.byte h.word_data (rw s0.1 h.byte_read) (word_byte h.data_passed))

pub returns-in_err-behind-clause-whole : goal.returns-in_err-behind-clause-whole
returns-in_err-behind-clause-whole c =
    λ row rest h ends.
    let s0 = c.in_ok-adr.ensures.whole h.adr h.word_byte h.adr_read (byte_stops h.byte_read (word_byte h.data_passed).stops) in
    let s1 = c.in_ok-byte.ensures.whole h.byte h.word_data (rw s0.1 h.byte_read) (word_byte h.data_passed) in
    absurd (c.in_err-behind.ensures.whole h.first (rw s1.1 h.data_passed))

pub returns-in_err-word-clause-whole : goal.returns-in_err-word-clause-whole
returns-in_err-word-clause-whole c =
    λ row rest h ends.
    let s0 = c.in_ok-adr.ensures.whole h.adr h.word_byte h.adr_read (byte_stops h.byte_read (word_byte h.data_passed).stops) in
    let s1 = c.in_ok-byte.ensures.whole h.byte h.word_data (rw s0.1 h.byte_read) (word_byte h.data_passed) in
    let s2 = c.in_ok-behind.ensures.whole h.first (rw s1.1 h.data_passed) in
    want _ _ _ c.from_residual-in_err-word.result _ c.from_residual-in_err-word.ensures.1 (c.in_err-word.ensures.whole h.word rest (rw s2 h.word_read) ends)

pub returns-clause-whole : goal.returns-clause-whole
returns-clause-whole c =
    λ row rest h ends.
    let s0 = c.in_ok-adr.ensures.whole h.adr h.word_byte h.adr_read (byte_stops h.byte_read (word_byte h.data_passed).stops) in
    let s1 = c.in_ok-byte.ensures.whole h.byte h.word_data (rw s0.1 h.byte_read) (word_byte h.data_passed) in
    let s2 = c.in_ok-behind.ensures.whole h.first (rw s1.1 h.data_passed) in
    let s3 = c.in_ok-word.ensures.whole h.word rest (rw s2 h.word_read) ends in
    ((λ i. store_at (s0.0 i) (s1.0 i) (s3.0 i)) ∙ sym h.access_is, s3.1)

pub returns-clause-ok : goal.returns-clause-ok
returns-clause-ok c = record {
  adr = actual_tree c.in_ok-adr.adr;
  byte = place_tree c.in_ok-byte.byte;
  word = actual_tree c.in_ok-word.word;
  word_byte = c.in_ok-adr.behind;
  word_data = c.in_ok-byte.behind;
  first = c.in_ok-behind.behind;
  adr_read = c.in_ok-adr.ensures.ok;
  byte_read = c.in_ok-byte.ensures.ok;
  data_passed = c.in_ok-behind.ensures.ok;
  word_read = c.in_ok-word.ensures.ok;
  access_is = refl;
}
