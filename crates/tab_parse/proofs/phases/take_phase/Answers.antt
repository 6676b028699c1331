use Rattle.tab_parse.proofs.Exits.{want}
use Rattle.std.proofs.Common.{map, ap, ◌∙◌}
use Rattle.tab_parse.specs.Placed.{set_at}
use Rattle.tab_parse.proofs.PhaseEnds.{link_front, shows_front, access_front, semicolon_link, ends_shows, ends_access, ends_turns}
use Rattle.tab_parse.proofs.phases.take_phase.Goals as goal

pub returns-in_err-behind-clause-whole : goal.returns-in_err-behind-clause-whole
returns-in_err-behind-clause-whole c =
    λ row rest h ends.
    absurd (c.in_err-behind.ensures.whole h.first h.word_passed)

pub returns-in_err-turns-clause-whole : goal.returns-in_err-turns-clause-whole
returns-in_err-turns-clause-whole c =
    λ row rest h ends.
    let s0 = c.in_ok-behind.ensures.whole h.first h.word_passed in
    want _ _ _ c.from_residual-in_err-turns.result _ c.from_residual-in_err-turns.ensures.1 (c.in_err-turns.ensures.whole row.turns h.second (rw s0 h.turns_read) (ends_turns (access_front h.access_read (shows_front h.shows_read (link_front h.link_read h.ended_passed)))))

pub returns-in_err-access-clause-whole : goal.returns-in_err-access-clause-whole
returns-in_err-access-clause-whole c =
    λ row rest h ends.
    let s0 = c.in_ok-behind.ensures.whole h.first h.word_passed in
    let s1 = c.in_ok-turns.ensures.whole row.turns h.second (rw s0 h.turns_read) (ends_turns (access_front h.access_read (shows_front h.shows_read (link_front h.link_read h.ended_passed)))) in
    want _ _ _ c.from_residual-in_err-access.result _ c.from_residual-in_err-access.ensures.1 (c.in_err-access.ensures.whole row.access h.third (rw s1.1 h.access_read) (ends_access (shows_front h.shows_read (link_front h.link_read h.ended_passed))))

pub returns-in_err-shows-clause-whole : goal.returns-in_err-shows-clause-whole
returns-in_err-shows-clause-whole c =
    λ row rest h ends.
    let s0 = c.in_ok-behind.ensures.whole h.first h.word_passed in
    let s1 = c.in_ok-turns.ensures.whole row.turns h.second (rw s0 h.turns_read) (ends_turns (access_front h.access_read (shows_front h.shows_read (link_front h.link_read h.ended_passed)))) in
    let s2 = c.in_ok-access.ensures.whole row.access h.third (rw s1.1 h.access_read) (ends_access (shows_front h.shows_read (link_front h.link_read h.ended_passed))) in
    want _ _ _ c.from_residual-in_err-shows.result _ c.from_residual-in_err-shows.ensures.1 (c.in_err-shows.ensures.whole row.shows h.fourth (rw s2.1 h.shows_read) (ends_shows (link_front h.link_read h.ended_passed)))

pub returns-in_err-link-clause-whole : goal.returns-in_err-link-clause-whole
returns-in_err-link-clause-whole c =
    λ row rest h ends.
    let s0 = c.in_ok-behind.ensures.whole h.first h.word_passed in
    let s1 = c.in_ok-turns.ensures.whole row.turns h.second (rw s0 h.turns_read) (ends_turns (access_front h.access_read (shows_front h.shows_read (link_front h.link_read h.ended_passed)))) in
    let s2 = c.in_ok-access.ensures.whole row.access h.third (rw s1.1 h.access_read) (ends_access (shows_front h.shows_read (link_front h.link_read h.ended_passed))) in
    let s3 = c.in_ok-shows.ensures.whole row.shows h.fourth (rw s2.1 h.shows_read) (ends_shows (link_front h.link_read h.ended_passed)) in
    want _ _ _ c.from_residual-in_err-link.result _ c.from_residual-in_err-link.ensures.1 (c.in_err-link.ensures.whole row.link h.ended (rw s3.1 h.link_read) (semicolon_link h.ended_passed))

pub returns-in_err-behind-2-clause-whole : goal.returns-in_err-behind-2-clause-whole
returns-in_err-behind-2-clause-whole c =
    λ row rest h ends.
    let s0 = c.in_ok-behind.ensures.whole h.first h.word_passed in
    let s1 = c.in_ok-turns.ensures.whole row.turns h.second (rw s0 h.turns_read) (ends_turns (access_front h.access_read (shows_front h.shows_read (link_front h.link_read h.ended_passed)))) in
    let s2 = c.in_ok-access.ensures.whole row.access h.third (rw s1.1 h.access_read) (ends_access (shows_front h.shows_read (link_front h.link_read h.ended_passed))) in
    let s3 = c.in_ok-shows.ensures.whole row.shows h.fourth (rw s2.1 h.shows_read) (ends_shows (link_front h.link_read h.ended_passed)) in
    let s4 = c.in_ok-link.ensures.whole row.link h.ended (rw s3.1 h.link_read) (semicolon_link h.ended_passed) in
    absurd (c.in_err-behind-2.ensures.whole rest (rw s4.1 h.ended_passed))

pub returns-clause-whole : goal.returns-clause-whole
returns-clause-whole c =
    λ row rest h ends.
    let s0 = c.in_ok-behind.ensures.whole h.first h.word_passed in
    let s1 = c.in_ok-turns.ensures.whole row.turns h.second (rw s0 h.turns_read) (ends_turns (access_front h.access_read (shows_front h.shows_read (link_front h.link_read h.ended_passed)))) in
    let s2 = c.in_ok-access.ensures.whole row.access h.third (rw s1.1 h.access_read) (ends_access (shows_front h.shows_read (link_front h.link_read h.ended_passed))) in
    let s3 = c.in_ok-shows.ensures.whole row.shows h.fourth (rw s2.1 h.shows_read) (ends_shows (link_front h.link_read h.ended_passed)) in
    let s4 = c.in_ok-link.ensures.whole row.link h.ended (rw s3.1 h.link_read) (semicolon_link h.ended_passed) in
    let s5 = c.in_ok-behind-2.ensures.whole rest (rw s4.1 h.ended_passed) in
    ((λ i. record { turns = s1.0 i; access = s2.0 i; shows = (ap (map set_at) c.of.ensures ∙ s3.0) i; link = s4.0 i }), s5)

pub returns-clause-ok : goal.returns-clause-ok
returns-clause-ok c = record {
  first = c.in_ok-behind.behind;
  second = c.in_ok-turns.behind;
  third = c.in_ok-access.behind;
  fourth = c.in_ok-shows.behind;
  ended = c.in_ok-link.behind;
  word_passed = c.in_ok-behind.ensures.ok;
  turns_read = c.in_ok-turns.ensures.ok;
  access_read = c.in_ok-access.ensures.ok;
  shows_read = rw c.of.ensures c.in_ok-shows.ensures.ok;
  link_read = c.in_ok-link.ensures.ok;
  ended_passed = c.in_ok-behind-2.ensures.ok;
}
