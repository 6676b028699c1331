use Rattle.std.proofs.Common.{[], ◌∷◌, refl, sym, arith, subst, ap, ◌∙◌}
use Rattle.lola_parse.specs.declared.symbol.Symbol.TheVariants as s
use Rattle.lola_parse.specs.Grammar.{Path, no_word, one_word}
use Rattle.lola_parse.proofs.Fronts.{stands, words, Stands-shorter, Words-shorter}
use Rattle.lola_parse.proofs.Whole.{not_front}
use Rattle.lola_parse.proofs.Refer.{word_is, path_over, path_no_word, path_word, pushed_is}
use Rattle.lola_parse.specs.Behind.{PathBehind}
use Rattle.lola_parse.specs.Long.{Any}
use Rattle.lola_parse.proofs.Begun.{stops_here, path_runs}
use Rattle.lola_parse.proofs.reference.path.Goals as goal

pub returns-then-not-next-2-clause-ok : goal.returns-then-not-next-2-clause-ok
returns-then-not-next-2-clause-ok c = c.words.invariant.reads _ _ (no_word refl refl)

pub returns-then-not-next-2-clause-whole : goal.returns-then-not-next-2-clause-whole
returns-then-not-next-2-clause-whole c =
    λ path rest read closes.
    path_no_word c.next-next-in-Dot.result (c.words.invariant.whole path rest read closes)
    (stands c.words.behind c.next-dot.result s.Dot c.next-dot.ensures c.in-Dot.is refl) c.next-next-in-Dot.ensures c.if-not-next-2.true

pub returns-in_default : goal.returns-in_default
returns-in_default c = record {
  shorter = c.words.invariant.shorter;
  whole = λ path rest read closes. path_over (c.words.invariant.whole path rest read closes) (not_front c.words.behind c.next-dot.result c.next-dot.ensures c.in_default.not-Dot);
  ok = c.words.invariant.reads _ _ (no_word refl refl);
  stops = tt;
}

pub words-init : goal.words-init
words-init c =
    let first = words c.args.here c.next-next.result c.next-next.ensures c.if-not-next.false in
    record {
      shorter = Words-shorter first;
      whole = λ path rest read closes.
          let w = word_is c.args.here c.next-next.result c.next-next.ensures read.first in
          subst (λ p. Path p c.next-next.result.rest path rest) (ap (λ w. w ∷ []) w.1 ∙ sym c.in_ok-path.ensures)
          (subst (λ all. Path (read.word ∷ []) all path rest) w.2 read.more);
      reads = λ path rest more.
          record {
            word = c.next-next.result.spelled.now;
            behind = c.next-next.result.rest;
            first = first;
            more = subst (λ p. Path p c.next-next.result.rest path rest) c.in_ok-path.ensures more;
          };
    }

pub words-preserved : goal.words-preserved
words-preserved c =
    let dot = stands c.words.behind c.next-dot.result s.Dot c.next-dot.ensures c.in-Dot.is refl in
    let word = words c.next-dot.result.rest c.next-next-in-Dot.result c.next-next-in-Dot.ensures c.if-not-next-2.false in
    let shorter = c.words.invariant.shorter in
    let first = Stands-shorter dot in
    let second = Words-shorter word in
    let pushed = pushed_is c.words.path.items _ _ c.in_ok-push-in-Dot.ensures.items c.in_ok-new-in-Dot.ensures in
    record {
      shorter = omega arith;
      whole = λ path rest read closes.
          subst (λ p. Path p c.next-next-in-Dot.result.rest path rest) (sym pushed)
          (path_word c.next-next-in-Dot.result (c.words.invariant.whole path rest read closes) closes dot c.next-next-in-Dot.ensures c.if-not-next-2.false);
      reads = λ path rest more.
          c.words.invariant.reads path rest
          (one_word _ _ dot word
          (subst (λ p. Path p c.next-next-in-Dot.result.rest path rest)
          pushed more));
    }

pub returns-then-not-next-clause-stops : goal.returns-then-not-next-clause-stops
returns-then-not-next-clause-stops c = stops_here (Any PathBehind) _ _ path_runs c.fault.ensures
