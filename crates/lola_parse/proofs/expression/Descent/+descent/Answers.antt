use Rattle.std.proofs.Common.{inl, inr, length, refl, sym, ap, ◌∙◌, subst, arith}
use Rattle.std.proofs.lemmas.Result.{IfOk-weaker}
use Rattle.lola_parse.specs.declared.symbol.Symbol.TheVariants as s
use Rattle.lola_parse.specs.Grammar.{one_rel, one_sum, related, sum, no_term, term, no_factor, numbered, named, part, Times, no_more, relation_of, adding_of}
use Rattle.lola_parse.proofs.Fronts.{stands, stands_op}
use Rattle.lola_parse.proofs.Expressions.{choice_read, negation_read, nested_read, concat_read, shift_read, bit_read, slice_read, index_read, factors_read, terms_read, parts_read}
use Rattle.lola_tree.specs.Tree.{concat}
use Rattle.lola_parse.specs.Parts.{part_tree}
use Rattle.lola_parse.proofs.Suffix.{factor_ends}
use Rattle.lola_parse.proofs.Follow.{ends_within, closes_more}
use Rattle.lola_parse.proofs.Whole.{handed_on, next_front, not_front, passes_on, any_floor, pair_is, expression_begins, expression_alone, expression_chosen, choice_first, choice_colon, choice_second, choice_made, rel_begins, rel_alone, rel_second, rel_made, sum_begins, sum_more, terms_none, terms_term, terms_more, term_begins, term_more, factors_none, factors_factor, factors_more, part_begins, part_times, part_value, parts_none, parts_part, parts_next, brace_closes, concat_first, concat_more, nested_closes, index_closes, shift_open, shift_first, shift_second, shift_comma, shift_by, shift_close, shift_made}
use Rattle.lola_parse.proofs.Refer.{referred_begins, referred_alone, referred_bit, referred_bracket, slice_only, index_only, factor_next, factor_none, no_shift}
use Rattle.lola_parse.specs.Grammar.{Factor}
use Rattle.lola_parse.specs.Long.{Any}
use Rattle.lola_parse.proofs.Local.{rel_of, chosen_of, choice_of, sum_alone, related_of, sum_of, terms_of, term_of, factors_of, negated_of, nested_of, paren_of, shift_of_parts, shifted_of, concat_of_parts, brace_of, parts_of, part_of, named_of, one_bit_of, sliced_of, indexed_of, index_of_parts, stands_local, passes_local, reference_local, expression_local, rel_local, sum_local, term_local, factor_local, part_local, parts_local}
use Rattle.lola_parse.proofs.Begun.{◌then◌, symbol_runs, expression_runs, factor_runs, no_terms_runs, no_factors_runs, no_parts_runs, no_times_runs, begins_here, begins_as, begins_then, begins_before, fails_here, fails_on, fails_on_short, fails_at, fails_in, fails_in_short}
use Rattle.lola_parse.proofs.expression.Descent.+descent.Goals as goal

pub expr-returns-in-Arrow-clause-ok : goal.expr-returns-in-Arrow-clause-ok
expr-returns-in-Arrow-clause-ok t c =
    IfOk-weaker c.choice.result _ _
    (λ read h. choice_read c.in_ok-test.ensures.ok (stands c.in_ok-test.behind c.next-next.result s.Arrow c.next-next.ensures c.in-Arrow.is refl) h)
    c.choice.ensures.ok

pub expr-returns-in_default-clause-shorter : goal.expr-returns-in_default-clause-shorter
expr-returns-in_default-clause-shorter t c = c.in_ok-test.ensures.shorter

pub expr-returns-in_default-clause-ok : goal.expr-returns-in_default-clause-ok
expr-returns-in_default-clause-ok t c = one_rel c.in_ok-test.ensures.ok

pub factor-returns-in_ok-number-in-Number-clause-ok : goal.factor-returns-in_ok-number-in-Number-clause-ok
factor-returns-in_ok-number-in-Number-clause-ok t c =
    numbered (stands c.args.here c.next-next.result _ c.next-next.ensures c.in-Number.is refl) c.in_ok-number-in-Number.ensures

pub factor-returns-in-Not-clause-ok : goal.factor-returns-in-Not-clause-ok
factor-returns-in-Not-clause-ok t c =
    IfOk-weaker c.negation.result _ _ (λ read h. negation_read (stands c.args.here c.next-next.result s.Not c.next-next.ensures c.in-Not.is refl) h) c.negation.ensures.ok

pub factor-returns-in-OpenBrace-clause-ok : goal.factor-returns-in-OpenBrace-clause-ok
factor-returns-in-OpenBrace-clause-ok t c =
    IfOk-weaker c.concat.result _ _ (λ read h. concat_read (stands c.args.here c.next-next.result s.OpenBrace c.next-next.ensures c.in-OpenBrace.is refl) h)
    c.concat.ensures.ok

pub factor-returns-in-OpenParen-clause-ok : goal.factor-returns-in-OpenParen-clause-ok
factor-returns-in-OpenParen-clause-ok t c =
    IfOk-weaker c.nested.result _ _ (λ read h. nested_read (stands c.args.here c.next-next.result s.OpenParen c.next-next.ensures c.in-OpenParen.is refl) h)
    c.nested.ensures.ok

pub factor-returns-in-Shl-clause-ok : goal.factor-returns-in-Shl-clause-ok
factor-returns-in-Shl-clause-ok t c =
    IfOk-weaker c.shift.result _ _ (λ read h. shift_read (stands c.args.here c.next-next.result s.Shl c.next-next.ensures c.in-Shl.is refl) refl h) c.shift.ensures.ok

pub factor-returns-in-Shr-clause-ok : goal.factor-returns-in-Shr-clause-ok
factor-returns-in-Shr-clause-ok t c =
    IfOk-weaker c.shift-in-Shr.result _ _ (λ read h. shift_read (stands c.args.here c.next-next.result s.Shr c.next-next.ensures c.in-Shr.is refl) refl h)
    c.shift-in-Shr.ensures.ok

pub factor-returns-in-Asr-clause-ok : goal.factor-returns-in-Asr-clause-ok
factor-returns-in-Asr-clause-ok t c =
    IfOk-weaker c.shift-in-Asr.result _ _ (λ read h. shift_read (stands c.args.here c.next-next.result s.Asr c.next-next.ensures c.in-Asr.is refl) refl h)
    c.shift-in-Asr.ensures.ok

pub factor-returns-in-Ror-clause-ok : goal.factor-returns-in-Ror-clause-ok
factor-returns-in-Ror-clause-ok t c =
    IfOk-weaker c.shift-in-Ror.result _ _ (λ read h. shift_read (stands c.args.here c.next-next.result s.Ror c.next-next.ensures c.in-Ror.is refl) refl h)
    c.shift-in-Ror.ensures.ok

pub factors-returns-in_ok-product-in-And-clause-ok : goal.factors-returns-in_ok-product-in-And-clause-ok
factors-returns-in_ok-product-in-And-clause-ok t c =
    IfOk-weaker c.factors.result _ _
    (λ read h.
    factors_read (stands c.args.here c.next-next.result s.And c.next-next.ensures c.in-And.is refl) c.in_ok-right-in-And.ensures.ok c.in_ok-product-in-And.ensures h)
    c.factors.ensures.ok

pub factors-returns-in_default-clause-shorter : goal.factors-returns-in_default-clause-shorter
factors-returns-in_default-clause-shorter t c = omega arith

pub factors-returns-in_default-clause-ok : goal.factors-returns-in_default-clause-ok
factors-returns-in_default-clause-ok t c = no_factor refl refl

pub part-returns-clause-ok : goal.part-returns-clause-ok
part-returns-clause-ok t c =
    let times = subst (λ at. Times c.args.self.language at c.in_ok-value.behind c.in_ok-times.times c.in_ok-times.behind) c.at-at.ensures c.in_ok-times.ensures.ok in
    rw c.part_of.ensures (part c.in_ok-value.behind c.in_ok-value.ensures.ok times)

pub parts-returns-in_ok-with_part-in-Comma-clause-ok : goal.parts-returns-in_ok-with_part-in-Comma-clause-ok
parts-returns-in_ok-with_part-in-Comma-clause-ok t c =
    IfOk-weaker c.parts.result _ _
    (λ read h.
    parts_read c.args.parts.items _ _ (stands c.args.here c.next-next.result s.Comma c.next-next.ensures c.in-Comma.is refl) c.in_ok-part-in-Comma.ensures.ok
    c.in_ok-with_part-in-Comma.ensures h)
    c.parts.ensures.ok

pub parts-returns-in_default-clause-shorter : goal.parts-returns-in_default-clause-shorter
parts-returns-in_default-clause-shorter t c = omega arith

pub parts-returns-in_default-clause-ok : goal.parts-returns-in_default-clause-ok
parts-returns-in_default-clause-ok t c = no_more refl refl

pub reference-returns-in-Dot-clause-ok : goal.reference-returns-in-Dot-clause-ok
reference-returns-in-Dot-clause-ok t c =
    IfOk-weaker c.bit.result _ _
    (λ read h. bit_read c.in_ok-of.ensures.ok (stands c.in_ok-of.behind c.next-next.result s.Dot c.next-next.ensures c.in-Dot.is refl) h) c.bit.ensures.ok

pub reference-returns-then-begins_slice-clause-ok : goal.reference-returns-then-begins_slice-clause-ok
reference-returns-then-begins_slice-clause-ok t c =
    IfOk-weaker c.slice.result _ _
    (λ read h. slice_read c.in_ok-of.ensures.ok (stands c.in_ok-of.behind c.next-next.result s.OpenBracket c.next-next.ensures c.in-OpenBracket.is refl) h)
    c.slice.ensures.ok

pub reference-returns-else-begins_slice-clause-ok : goal.reference-returns-else-begins_slice-clause-ok
reference-returns-else-begins_slice-clause-ok t c =
    IfOk-weaker c.index.result _ _
    (λ read h. index_read c.in_ok-of.ensures.ok (stands c.in_ok-of.behind c.next-next.result s.OpenBracket c.next-next.ensures c.in-OpenBracket.is refl) h)
    c.index.ensures.ok

pub reference-returns-in_ok-whole-in_default-clause-shorter : goal.reference-returns-in_ok-whole-in_default-clause-shorter
reference-returns-in_ok-whole-in_default-clause-shorter t c = c.in_ok-of.ensures.shorter

pub reference-returns-in_ok-whole-in_default-clause-ok : goal.reference-returns-in_ok-whole-in_default-clause-ok
reference-returns-in_ok-whole-in_default-clause-ok t c = named c.in_ok-of.ensures.ok c.in_ok-whole-in_default.ensures

pub rel-returns-in_ok-binary-in-Some-clause-ok : goal.rel-returns-in_ok-binary-in-Some-clause-ok
rel-returns-in_ok-binary-in-Some-clause-ok t c =
    related _ _ c.in_ok-left.ensures.ok (stands_op relation_of c.in_ok-left.behind c.next-next.result _ c.next-next.ensures refl (sym c.in-Some.ensures))
    (sym c.in-Some.ensures) c.in_ok-right-in-Some.ensures.ok c.in_ok-binary-in-Some.ensures

pub rel-returns-in-None-clause-ok : goal.rel-returns-in-None-clause-ok
rel-returns-in-None-clause-ok t c = one_sum c.in_ok-left.ensures.ok

pub sum-returns-clause-ok : goal.sum-returns-clause-ok
sum-returns-clause-ok t c = IfOk-weaker c.terms.result _ _ (λ read h. sum _ c.in_ok-first.ensures.ok h) c.terms.ensures.ok

pub term-returns-clause-ok : goal.term-returns-clause-ok
term-returns-clause-ok t c = IfOk-weaker c.factors.result _ _ (λ read h. term _ c.in_ok-first.ensures.ok h) c.factors.ensures.ok

pub terms-returns-in_ok-sum-in-Some-clause-ok : goal.terms-returns-in_ok-sum-in-Some-clause-ok
terms-returns-in_ok-sum-in-Some-clause-ok t c =
    IfOk-weaker c.terms.result _ _
    (λ read h.
    terms_read (stands_op adding_of c.args.here c.next-next.result _ c.next-next.ensures refl (sym c.in-Some.ensures)) (sym c.in-Some.ensures)
    c.in_ok-right-in-Some.ensures.ok c.in_ok-sum-in-Some.ensures h)
    c.terms.ensures.ok

pub terms-returns-in-None-clause-ok : goal.terms-returns-in-None-clause-ok
terms-returns-in-None-clause-ok t c = no_term refl refl

pub expr-returns-in_err-test-clause-whole : goal.expr-returns-in_err-test-clause-whole
expr-returns-in_err-test-clause-whole t c = λ e rest d k. let w = expression_begins d k in handed_on _ e rest _ _ c.from_residual.ensures.1 (c.in_err-test.ensures.whole w.0 w.1 w.2 w.3)

pub expr-returns-in-Arrow-clause-whole : goal.expr-returns-in-Arrow-clause-whole
expr-returns-in-Arrow-clause-whole t c = λ e rest d k. c.choice.ensures.whole e rest (expression_chosen d k c.in_ok-test.ensures.whole (stands c.in_ok-test.behind c.next-next.result s.Arrow c.next-next.ensures c.in-Arrow.is refl)) k

pub expr-returns-in_default-clause-whole : goal.expr-returns-in_default-clause-whole
expr-returns-in_default-clause-whole t c = λ e rest d k. expression_alone d k c.in_ok-test.ensures.whole (not_front c.in_ok-test.behind c.next-next.result c.next-next.ensures c.in_default.not-Arrow)

pub choice-returns-in_err-yes-clause-whole : goal.choice-returns-in_err-yes-clause-whole
choice-returns-in_err-yes-clause-whole t c = λ e rest h k. handed_on _ e rest _ _ c.from_residual.ensures.1 (c.in_err-yes.ensures.whole h.first h.colon h.first_read (choice_first h k))

pub choice-returns-in_err-behind-clause-whole : goal.choice-returns-in_err-behind-clause-whole
choice-returns-in_err-behind-clause-whole t c = λ e rest h k. absurd (c.in_err-behind.ensures.whole h.no (choice_colon h k c.in_ok-yes.ensures.whole))

pub choice-returns-in_err-no-clause-whole : goal.choice-returns-in_err-no-clause-whole
choice-returns-in_err-no-clause-whole t c = λ e rest h k. handed_on _ e rest _ _ c.from_residual-in_err-no.ensures.1 (c.in_err-no.ensures.whole h.second rest (choice_second h k c.in_ok-yes.ensures.whole c.in_ok-behind.ensures.whole) k)

pub choice-returns-clause-whole : goal.choice-returns-clause-whole
choice-returns-clause-whole t c = λ e rest h k. choice_made h k c.in_ok-yes.ensures.whole c.in_ok-behind.ensures.whole c.in_ok-no.ensures.whole c.in_ok-choice_of.ensures

pub rel-returns-in_err-left-clause-whole : goal.rel-returns-in_err-left-clause-whole
rel-returns-in_err-left-clause-whole t c = λ e rest d k. let w = rel_begins d k in handed_on _ e rest _ _ c.from_residual.ensures.1 (c.in_err-left.ensures.whole w.0 w.1 w.2 w.3)

pub rel-returns-in_err-right-in-Some-clause-whole : goal.rel-returns-in_err-right-in-Some-clause-whole
rel-returns-in_err-right-in-Some-clause-whole t c = λ e rest d k. let w = rel_second d k c.in_ok-left.ensures.whole (stands_op relation_of c.in_ok-left.behind c.next-next.result _ c.next-next.ensures refl (sym c.in-Some.ensures)) (sym c.in-Some.ensures) in handed_on _ e rest _ _ c.from_residual-in_err-right-in-Some.ensures.1 (c.in_err-right-in-Some.ensures.whole w.0 rest w.1 (closes_more k (omega arith)))

pub rel-returns-in_ok-binary-in-Some-clause-whole : goal.rel-returns-in_ok-binary-in-Some-clause-whole
rel-returns-in_ok-binary-in-Some-clause-whole t c = λ e rest d k. rel_made d k c.in_ok-left.ensures.whole (stands_op relation_of c.in_ok-left.behind c.next-next.result _ c.next-next.ensures refl (sym c.in-Some.ensures)) (sym c.in-Some.ensures) c.in_ok-right-in-Some.ensures.whole c.in_ok-binary-in-Some.ensures

pub rel-returns-in-None-clause-whole : goal.rel-returns-in-None-clause-whole
rel-returns-in-None-clause-whole t c = λ e rest d k. rel_alone d k c.in_ok-left.ensures.whole (ap relation_of (next_front c.in_ok-left.behind c.next-next.result c.next-next.ensures) ∙ sym c.in-None.ensures)

pub sum-returns-in_err-first-clause-whole : goal.sum-returns-in_err-first-clause-whole
sum-returns-in_err-first-clause-whole t c = λ e rest d k. let w = sum_begins d k in handed_on _ e rest _ _ c.from_residual.ensures.1 (c.in_err-first.ensures.whole w.0 w.1 w.2 w.3)

pub sum-returns-clause-whole : goal.sum-returns-clause-whole
sum-returns-clause-whole t c = λ e rest d k. c.terms.ensures.whole e rest (sum_more d k c.in_ok-first.ensures.whole) k

pub terms-returns-in_err-right-in-Some-clause-whole : goal.terms-returns-in_err-right-in-Some-clause-whole
terms-returns-in_err-right-in-Some-clause-whole t c = λ e rest d k. let w = terms_term d k (stands_op adding_of c.args.here c.next-next.result _ c.next-next.ensures refl (sym c.in-Some.ensures)) (sym c.in-Some.ensures) in handed_on _ e rest _ _ c.from_residual.ensures.1 (c.in_err-right-in-Some.ensures.whole w.0 w.1 w.2 w.3)

pub terms-returns-in_ok-sum-in-Some-clause-whole : goal.terms-returns-in_ok-sum-in-Some-clause-whole
terms-returns-in_ok-sum-in-Some-clause-whole t c = λ e rest d k. c.terms.ensures.whole e rest (terms_more d k (stands_op adding_of c.args.here c.next-next.result _ c.next-next.ensures refl (sym c.in-Some.ensures)) (sym c.in-Some.ensures) c.in_ok-right-in-Some.ensures.whole c.in_ok-sum-in-Some.ensures) k

pub terms-returns-in-None-clause-whole : goal.terms-returns-in-None-clause-whole
terms-returns-in-None-clause-whole t c = λ e rest d k. terms_none d (ap adding_of (next_front c.args.here c.next-next.result c.next-next.ensures) ∙ sym c.in-None.ensures)

pub term-returns-in_err-first-clause-whole : goal.term-returns-in_err-first-clause-whole
term-returns-in_err-first-clause-whole t c = λ e rest d k. let w = term_begins d k in handed_on _ e rest _ _ c.from_residual.ensures.1 (c.in_err-first.ensures.whole w.0 w.1 w.2 w.3)

pub term-returns-clause-whole : goal.term-returns-clause-whole
term-returns-clause-whole t c = λ e rest d k. c.factors.ensures.whole e rest (term_more d k c.in_ok-first.ensures.whole) k

pub factors-returns-in_err-right-in-And-clause-whole : goal.factors-returns-in_err-right-in-And-clause-whole
factors-returns-in_err-right-in-And-clause-whole t c = λ e rest d k. let w = factors_factor d k (stands c.args.here c.next-next.result s.And c.next-next.ensures c.in-And.is refl) in handed_on _ e rest _ _ c.from_residual.ensures.1 (c.in_err-right-in-And.ensures.whole w.0 w.1 w.2 w.3)

pub factors-returns-in_ok-product-in-And-clause-whole : goal.factors-returns-in_ok-product-in-And-clause-whole
factors-returns-in_ok-product-in-And-clause-whole t c = λ e rest d k. c.factors.ensures.whole e rest (factors_more d k (stands c.args.here c.next-next.result s.And c.next-next.ensures c.in-And.is refl) c.in_ok-right-in-And.ensures.whole c.in_ok-product-in-And.ensures) k

pub factors-returns-in_default-clause-whole : goal.factors-returns-in_default-clause-whole
factors-returns-in_default-clause-whole t c = λ e rest d k. factors_none d (not_front c.args.here c.next-next.result c.next-next.ensures c.in_default.not-And)

pub factor-returns-then-left-self-clause-whole : goal.factor-returns-then-left-self-clause-whole
factor-returns-then-left-self-clause-whole t c = λ e rest d k. let within = k.within in let longer = ends_within (factor_ends d) in let left = c.left.ensures in let short = c.if-left-self.true in absurd (omega arith)

pub factor-returns-in-Not-clause-whole : goal.factor-returns-in-Not-clause-whole
factor-returns-in-Not-clause-whole t c = λ e rest d k. c.negation.ensures.whole e rest (factor_next c.next-next.result c.next-next.ensures c.in-Not.is d) k

pub factor-returns-in-OpenBrace-clause-whole : goal.factor-returns-in-OpenBrace-clause-whole
factor-returns-in-OpenBrace-clause-whole t c = λ e rest d k. c.concat.ensures.whole e rest (factor_next c.next-next.result c.next-next.ensures c.in-OpenBrace.is d) k.within

pub factor-returns-in-OpenParen-clause-whole : goal.factor-returns-in-OpenParen-clause-whole
factor-returns-in-OpenParen-clause-whole t c = λ e rest d k. c.nested.ensures.whole e rest (factor_next c.next-next.result c.next-next.ensures c.in-OpenParen.is d) k.within

pub factor-returns-in-Shl-clause-whole : goal.factor-returns-in-Shl-clause-whole
factor-returns-in-Shl-clause-whole t c = λ e rest d k. c.shift.ensures.whole e rest (factor_next c.next-next.result c.next-next.ensures c.in-Shl.is d) k.within

pub factor-returns-in-Shr-clause-whole : goal.factor-returns-in-Shr-clause-whole
factor-returns-in-Shr-clause-whole t c = λ e rest d k. c.shift-in-Shr.ensures.whole e rest (factor_next c.next-next.result c.next-next.ensures c.in-Shr.is d) k.within

pub factor-returns-in-Asr-clause-whole : goal.factor-returns-in-Asr-clause-whole
factor-returns-in-Asr-clause-whole t c = λ e rest d k. c.shift-in-Asr.ensures.whole e rest (factor_next c.next-next.result c.next-next.ensures c.in-Asr.is d) k.within

pub factor-returns-in-Ror-clause-whole : goal.factor-returns-in-Ror-clause-whole
factor-returns-in-Ror-clause-whole t c = λ e rest d k. c.shift-in-Ror.ensures.whole e rest (factor_next c.next-next.result c.next-next.ensures c.in-Ror.is d) k.within

pub factor-returns-in-Name-clause-whole : goal.factor-returns-in-Name-clause-whole
factor-returns-in-Name-clause-whole t c = λ e rest d k. elim c.in-Name.is [
  | inl is ↦ c.reference.ensures.whole e rest (factor_next c.next-next.result c.next-next.ensures is d) k
  | inr is ↦ c.reference.ensures.whole e rest (factor_next c.next-next.result c.next-next.ensures is d) k
]

pub factor-returns-in_default-clause-whole : goal.factor-returns-in_default-clause-whole
factor-returns-in_default-clause-whole t c = λ e rest d k. let none = c.in_default in
    absurd (factor_none c.next-next.result c.next-next.ensures none.not-Number none.not-Not none.not-OpenBrace none.not-OpenParen none.not-Name none.not-At
    (no_shift c.next-next.result.symbol none.not-Shl none.not-Shr none.not-Asr none.not-Ror) d)

pub nested-returns-in_err-behind_close_paren-clause-whole : goal.nested-returns-in_err-behind_close_paren-clause-whole
nested-returns-in_err-behind_close_paren-clause-whole t c = λ e rest h within. absurd (c.in_err-behind_close_paren.ensures.whole rest (passes_on (c.in_ok-inner.ensures.whole e h.close h.inner_read (nested_closes h within)).1 h.close_passed))

pub index-returns-in_err-behind-clause-whole : goal.index-returns-in_err-behind-clause-whole
index-returns-in_err-behind-clause-whole t c = λ e rest h within. absurd (c.in_err-behind.ensures.whole rest (passes_on (c.in_ok-place.ensures.whole h.place h.close h.place_read (index_closes h within)).1 h.close_passed))

pub concat-returns-in_err-first-clause-whole : goal.concat-returns-in_err-first-clause-whole
concat-returns-in_err-first-clause-whole t c = λ e rest h within. handed_on _ e rest _ _ c.from_residual.ensures.1 (c.in_err-first.ensures.whole (h.value, h.times) h.behind h.first_read (concat_first h within))

pub concat-returns-in_err-parts-clause-whole : goal.concat-returns-in_err-parts-clause-whole
concat-returns-in_err-parts-clause-whole t c = λ e rest h within. handed_on _ e rest _ _ c.from_residual-in_err-parts.ensures.1 (c.in_err-parts.ensures.whole h.parts h.close (concat_more c.in_ok-first.first _ h within c.in_ok-first.ensures.whole c.in_ok-only.ensures) (brace_closes h within))

pub concat-returns-in_err-behind-clause-whole : goal.concat-returns-in_err-behind-clause-whole
concat-returns-in_err-behind-clause-whole t c = λ e rest h within. absurd (c.in_err-behind.ensures.whole rest (passes_on (c.in_ok-parts.ensures.whole h.parts h.close (concat_more c.in_ok-first.first _ h within c.in_ok-first.ensures.whole c.in_ok-only.ensures) (brace_closes h within)).1 h.close_passed))

pub concat-returns-clause-whole : goal.concat-returns-clause-whole
concat-returns-clause-whole t c = λ e rest h within. let same = c.in_ok-parts.ensures.whole h.parts h.close (concat_more c.in_ok-first.first _ h within c.in_ok-first.ensures.whole c.in_ok-only.ensures) (brace_closes h within) in (c.in_ok-concat_of.ensures ∙ (ap (λ ps. concat ps c.args.at) same.0 ∙ sym h.tree_is), c.in_ok-behind.ensures.whole rest (passes_on same.1 h.close_passed))

pub shift-returns-in_err-behind-clause-whole : goal.shift-returns-in_err-behind-clause-whole
shift-returns-in_err-behind-clause-whole t c = λ e rest h within. absurd (c.in_err-behind.ensures.whole h.first h.open_passed)

pub shift-returns-in_err-value-clause-whole : goal.shift-returns-in_err-value-clause-whole
shift-returns-in_err-value-clause-whole t c = λ e rest h within. handed_on _ e rest _ _ c.from_residual-in_err-value.ensures.1 (c.in_err-value.ensures.whole h.value h.comma (shift_open h c.in_ok-behind.ensures.whole) (shift_first h within))

pub shift-returns-in_err-behind-2-clause-whole : goal.shift-returns-in_err-behind-2-clause-whole
shift-returns-in_err-behind-2-clause-whole t c = λ e rest h within. absurd (c.in_err-behind-2.ensures.whole h.second (shift_comma h within c.in_ok-behind.ensures.whole c.in_ok-value.ensures.whole))

pub shift-returns-in_err-by-clause-whole : goal.shift-returns-in_err-by-clause-whole
shift-returns-in_err-by-clause-whole t c = λ e rest h within. handed_on _ e rest _ _ c.from_residual-in_err-by.ensures.1 (c.in_err-by.ensures.whole h.by h.close (shift_by h within c.in_ok-behind.ensures.whole c.in_ok-value.ensures.whole c.in_ok-behind-2.ensures.whole) (shift_second h within))

pub shift-returns-in_err-behind-3-clause-whole : goal.shift-returns-in_err-behind-3-clause-whole
shift-returns-in_err-behind-3-clause-whole t c = λ e rest h within. absurd (c.in_err-behind-3.ensures.whole rest (shift_close h within c.in_ok-behind.ensures.whole c.in_ok-value.ensures.whole c.in_ok-behind-2.ensures.whole c.in_ok-by.ensures.whole))

pub shift-returns-clause-whole : goal.shift-returns-clause-whole
shift-returns-clause-whole t c = λ e rest h within. (shift_made h within c.in_ok-behind.ensures.whole c.in_ok-value.ensures.whole c.in_ok-behind-2.ensures.whole c.in_ok-by.ensures.whole c.in_ok-binary.ensures, c.in_ok-behind-3.ensures.whole rest (shift_close h within c.in_ok-behind.ensures.whole c.in_ok-value.ensures.whole c.in_ok-behind-2.ensures.whole c.in_ok-by.ensures.whole))

pub parts-returns-in_err-part-in-Comma-clause-whole : goal.parts-returns-in_err-part-in-Comma-clause-whole
parts-returns-in_err-part-in-Comma-clause-whole t c = λ e rest d k. let w = parts_part d k (stands c.args.here c.next-next.result s.Comma c.next-next.ensures c.in-Comma.is refl) in handed_on _ e rest _ _ c.from_residual.ensures.1 (c.in_err-part-in-Comma.ensures.whole w.0 w.1 w.2 w.3)

pub parts-returns-in_ok-with_part-in-Comma-clause-whole : goal.parts-returns-in_ok-with_part-in-Comma-clause-whole
parts-returns-in_ok-with_part-in-Comma-clause-whole t c = λ e rest d k. c.parts.ensures.whole e rest (parts_next c.args.parts.items _ c.in_ok-part-in-Comma.part d k (stands c.args.here c.next-next.result s.Comma c.next-next.ensures c.in-Comma.is refl) c.in_ok-part-in-Comma.ensures.whole c.in_ok-with_part-in-Comma.ensures) k

pub parts-returns-in_default-clause-whole : goal.parts-returns-in_default-clause-whole
parts-returns-in_default-clause-whole t c = λ e rest d k. parts_none d (not_front c.args.here c.next-next.result c.next-next.ensures c.in_default.not-Comma)

pub part-returns-in_err-value-clause-whole : goal.part-returns-in_err-value-clause-whole
part-returns-in_err-value-clause-whole t c = λ e rest d k. let w = part_begins d k in handed_on _ e rest _ _ c.from_residual.ensures.1 (c.in_err-value.ensures.whole e.0 w.0 w.1 w.2)

pub part-returns-in_err-times-clause-whole : goal.part-returns-in_err-times-clause-whole
part-returns-in_err-times-clause-whole t c = λ e rest d k. handed_on _ e rest _ _ c.from_residual-in_err-times.ensures.1 (c.in_err-times.ensures.whole e.1 rest (part_times d k c.in_ok-value.ensures.whole c.at-at.ensures) (any_floor k))

pub part-returns-clause-whole : goal.part-returns-clause-whole
part-returns-clause-whole t c = λ e rest d k. let same = c.in_ok-times.ensures.whole e.1 rest (part_times d k c.in_ok-value.ensures.whole c.at-at.ensures) (any_floor k) in (ap part_tree c.part_of.ensures ∙ pair_is (part_value d k c.in_ok-value.ensures.whole) same.0, same.1)

pub reference-returns-in_err-of-clause-whole : goal.reference-returns-in_err-of-clause-whole
reference-returns-in_err-of-clause-whole t c = λ e rest d k. let w = referred_begins d k in handed_on _ e rest _ _ c.from_residual.ensures.1 (c.in_err-of.ensures.whole w.0 w.1 w.2 w.3)

pub reference-returns-in-Dot-clause-whole : goal.reference-returns-in-Dot-clause-whole
reference-returns-in-Dot-clause-whole t c = λ e rest d k. c.bit.ensures.whole e rest (referred_bit d k c.in_ok-of.ensures.whole (stands c.in_ok-of.behind c.next-next.result s.Dot c.next-next.ensures c.in-Dot.is refl)) tt

pub reference-returns-then-begins_slice-clause-whole : goal.reference-returns-then-begins_slice-clause-whole
reference-returns-then-begins_slice-clause-whole t c = λ e rest d k. c.slice.ensures.whole e rest (slice_only (referred_bracket d k c.in_ok-of.ensures.whole (stands c.in_ok-of.behind c.next-next.result s.OpenBracket c.next-next.ensures c.in-OpenBracket.is refl)) (c.begins_slice.ensures.yes c.if-begins_slice.true)) tt

pub reference-returns-else-begins_slice-clause-whole : goal.reference-returns-else-begins_slice-clause-whole
reference-returns-else-begins_slice-clause-whole t c = λ e rest d k. c.index.ensures.whole e rest (index_only (referred_bracket d k c.in_ok-of.ensures.whole (stands c.in_ok-of.behind c.next-next.result s.OpenBracket c.next-next.ensures c.in-OpenBracket.is refl)) (c.begins_slice.ensures.no c.if-begins_slice.false)) k.within

pub reference-returns-in_ok-whole-in_default-clause-whole : goal.reference-returns-in_ok-whole-in_default-clause-whole
reference-returns-in_ok-whole-in_default-clause-whole t c = λ e rest d k. let same = referred_alone d k c.in_ok-of.ensures.whole (not_front c.in_ok-of.behind c.next-next.result c.next-next.ensures c.in_default.not-Dot) (not_front c.in_ok-of.behind c.next-next.result c.next-next.ensures c.in_default.not-OpenBracket) in (c.in_ok-whole-in_default.ensures ∙ same.0, same.1)

pub expr-returns-in_err-test-clause-fails : goal.expr-returns-in_err-test-clause-fails
expr-returns-in_err-test-clause-fails t c =
    fails_on c.args.self.floor _ _ (λ left b. begins_as rel_of b) c.from_residual.ensures.1 c.in_err-test.ensures.fails

pub expr-returns-in-Arrow-clause-fails : goal.expr-returns-in-Arrow-clause-fails
expr-returns-in-Arrow-clause-fails t c =
    fails_in c.args.self.floor c.choice.result (λ left b. begins_as chosen_of (begins_then (rel_local c.in_ok-test.ensures.ok) (begins_then (passes_local (_, stands c.in_ok-test.behind c.next-next.result s.Arrow c.next-next.ensures c.in-Arrow.is refl)) b))) c.choice.ensures.fails

pub choice-returns-in_err-yes-clause-fails : goal.choice-returns-in_err-yes-clause-fails
choice-returns-in_err-yes-clause-fails t c =
    fails_on c.args.self.floor _ _ (λ left b. begins_as choice_of (begins_before (symbol_runs s.Colon then expression_runs) b)) c.from_residual.ensures.1 c.in_err-yes.ensures.fails

pub choice-returns-in_err-behind-clause-fails : goal.choice-returns-in_err-behind-clause-fails
choice-returns-in_err-behind-clause-fails t c =
    fails_at c.args.self.floor _ _ (λ left b. begins_as choice_of (begins_then (expression_local c.in_ok-yes.ensures.ok) (begins_before expression_runs b))) c.from_residual-in_err-behind.ensures.1 c.in_err-behind.ensures.fails

pub choice-returns-in_err-no-clause-fails : goal.choice-returns-in_err-no-clause-fails
choice-returns-in_err-no-clause-fails t c =
    fails_on c.args.self.floor _ _ (λ left b. begins_as choice_of (begins_then (expression_local c.in_ok-yes.ensures.ok) (begins_then (passes_local c.in_ok-behind.ensures.ok) b))) c.from_residual-in_err-no.ensures.1 c.in_err-no.ensures.fails

pub rel-returns-in_err-left-clause-fails : goal.rel-returns-in_err-left-clause-fails
rel-returns-in_err-left-clause-fails t c =
    fails_on c.args.self.floor _ _ (λ left b. begins_as sum_alone b) c.from_residual.ensures.1 c.in_err-left.ensures.fails

pub rel-returns-in_err-right-in-Some-clause-fails : goal.rel-returns-in_err-right-in-Some-clause-fails
rel-returns-in_err-right-in-Some-clause-fails t c =
    fails_on c.args.self.floor _ _ (λ left b. begins_as (related_of (sym c.in-Some.ensures)) (begins_then (sum_local c.in_ok-left.ensures.ok) (begins_then (passes_local (_, (stands_op relation_of c.in_ok-left.behind c.next-next.result _ c.next-next.ensures refl (sym c.in-Some.ensures)))) b))) c.from_residual-in_err-right-in-Some.ensures.1 c.in_err-right-in-Some.ensures.fails

pub sum-returns-in_err-first-clause-fails : goal.sum-returns-in_err-first-clause-fails
sum-returns-in_err-first-clause-fails t c =
    fails_on c.args.self.floor _ _ (λ left b. begins_as sum_of (begins_before no_terms_runs b)) c.from_residual.ensures.1 c.in_err-first.ensures.fails

pub sum-returns-clause-fails : goal.sum-returns-clause-fails
sum-returns-clause-fails t c =
    fails_in c.args.self.floor c.terms.result (λ left b. begins_as sum_of (begins_then (term_local c.in_ok-first.ensures.ok) b)) c.terms.ensures.fails

pub terms-returns-in_err-right-in-Some-clause-fails : goal.terms-returns-in_err-right-in-Some-clause-fails
terms-returns-in_err-right-in-Some-clause-fails t c =
    fails_on c.args.self.floor _ _ (λ left b. begins_as (terms_of (sym c.in-Some.ensures)) (begins_then (passes_local (_, (stands_op adding_of c.args.here c.next-next.result _ c.next-next.ensures refl (sym c.in-Some.ensures)))) (begins_before no_terms_runs b))) c.from_residual.ensures.1 c.in_err-right-in-Some.ensures.fails

pub terms-returns-in_ok-sum-in-Some-clause-fails : goal.terms-returns-in_ok-sum-in-Some-clause-fails
terms-returns-in_ok-sum-in-Some-clause-fails t c =
    fails_in c.args.self.floor c.terms.result (λ left b. begins_as (terms_of (sym c.in-Some.ensures)) (begins_then (passes_local (_, (stands_op adding_of c.args.here c.next-next.result _ c.next-next.ensures refl (sym c.in-Some.ensures)))) (begins_then (term_local c.in_ok-right-in-Some.ensures.ok) b))) c.terms.ensures.fails

pub term-returns-in_err-first-clause-fails : goal.term-returns-in_err-first-clause-fails
term-returns-in_err-first-clause-fails t c =
    fails_on c.args.self.floor _ _ (λ left b. begins_as term_of (begins_before no_factors_runs b)) c.from_residual.ensures.1 c.in_err-first.ensures.fails

pub term-returns-clause-fails : goal.term-returns-clause-fails
term-returns-clause-fails t c =
    fails_in c.args.self.floor c.factors.result (λ left b. begins_as term_of (begins_then (factor_local c.in_ok-first.ensures.ok) b)) c.factors.ensures.fails

pub factors-returns-in_err-right-in-And-clause-fails : goal.factors-returns-in_err-right-in-And-clause-fails
factors-returns-in_err-right-in-And-clause-fails t c =
    fails_on c.args.self.floor _ _ (λ left b. begins_as factors_of (begins_then (passes_local (_, stands c.args.here c.next-next.result s.And c.next-next.ensures c.in-And.is refl)) (begins_before no_factors_runs b))) c.from_residual.ensures.1 c.in_err-right-in-And.ensures.fails

pub factors-returns-in_ok-product-in-And-clause-fails : goal.factors-returns-in_ok-product-in-And-clause-fails
factors-returns-in_ok-product-in-And-clause-fails t c =
    fails_in c.args.self.floor c.factors.result (λ left b. begins_as factors_of (begins_then (passes_local (_, stands c.args.here c.next-next.result s.And c.next-next.ensures c.in-And.is refl)) (begins_then (factor_local c.in_ok-right-in-And.ensures.ok) b))) c.factors.ensures.fails

pub factor-returns-then-left-self-clause-fails : goal.factor-returns-then-left-self-clause-fails
factor-returns-then-left-self-clause-fails t c =
    let left = c.left.ensures in let short = c.if-left-self.true in (refl, length c.args.here, omega arith, begins_here factor_runs)

pub factor-returns-in-Not-clause-fails : goal.factor-returns-in-Not-clause-fails
factor-returns-in-Not-clause-fails t c =
    fails_in c.args.self.floor c.negation.result (λ left b. begins_as negated_of (begins_then (passes_local (_, stands c.args.here c.next-next.result s.Not c.next-next.ensures c.in-Not.is refl)) b)) c.negation.ensures.fails

pub factor-returns-in-OpenBrace-clause-fails : goal.factor-returns-in-OpenBrace-clause-fails
factor-returns-in-OpenBrace-clause-fails t c =
    fails_in c.args.self.floor c.concat.result (λ left b. begins_as brace_of (begins_then (stands_local (stands c.args.here c.next-next.result s.OpenBrace c.next-next.ensures c.in-OpenBrace.is refl)) b)) c.concat.ensures.fails

pub factor-returns-in-OpenParen-clause-fails : goal.factor-returns-in-OpenParen-clause-fails
factor-returns-in-OpenParen-clause-fails t c =
    fails_in c.args.self.floor c.nested.result (λ left b. begins_as paren_of (begins_then (passes_local (_, stands c.args.here c.next-next.result s.OpenParen c.next-next.ensures c.in-OpenParen.is refl)) b)) c.nested.ensures.fails

pub factor-returns-in-Shl-clause-fails : goal.factor-returns-in-Shl-clause-fails
factor-returns-in-Shl-clause-fails t c =
    fails_in c.args.self.floor c.shift.result (λ left b. begins_as (shifted_of refl) (begins_then (stands_local (stands c.args.here c.next-next.result s.Shl c.next-next.ensures c.in-Shl.is refl)) b)) c.shift.ensures.fails

pub factor-returns-in-Shr-clause-fails : goal.factor-returns-in-Shr-clause-fails
factor-returns-in-Shr-clause-fails t c =
    fails_in c.args.self.floor c.shift-in-Shr.result (λ left b. begins_as (shifted_of refl) (begins_then (stands_local (stands c.args.here c.next-next.result s.Shr c.next-next.ensures c.in-Shr.is refl)) b)) c.shift-in-Shr.ensures.fails

pub factor-returns-in-Asr-clause-fails : goal.factor-returns-in-Asr-clause-fails
factor-returns-in-Asr-clause-fails t c =
    fails_in c.args.self.floor c.shift-in-Asr.result (λ left b. begins_as (shifted_of refl) (begins_then (stands_local (stands c.args.here c.next-next.result s.Asr c.next-next.ensures c.in-Asr.is refl)) b)) c.shift-in-Asr.ensures.fails

pub factor-returns-in-Ror-clause-fails : goal.factor-returns-in-Ror-clause-fails
factor-returns-in-Ror-clause-fails t c =
    fails_in c.args.self.floor c.shift-in-Ror.result (λ left b. begins_as (shifted_of refl) (begins_then (stands_local (stands c.args.here c.next-next.result s.Ror c.next-next.ensures c.in-Ror.is refl)) b)) c.shift-in-Ror.ensures.fails

pub factor-returns-in_default-clause-fails : goal.factor-returns-in_default-clause-fails
factor-returns-in_default-clause-fails t c =
    fails_here (Any (Factor c.args.self.language)) c.args.self.floor _ _ factor_runs c.fault.ensures

pub nested-returns-in_err-inner-clause-fails : goal.nested-returns-in_err-inner-clause-fails
nested-returns-in_err-inner-clause-fails t c =
    fails_on c.args.self.floor _ _ (λ left b. begins_as nested_of (begins_before (symbol_runs s.CloseParen) b)) c.from_residual.ensures.1 c.in_err-inner.ensures.fails

pub nested-returns-in_err-behind_close_paren-clause-fails : goal.nested-returns-in_err-behind_close_paren-clause-fails
nested-returns-in_err-behind_close_paren-clause-fails t c =
    fails_at c.args.self.floor _ _ (λ left b. begins_as nested_of (begins_then (expression_local c.in_ok-inner.ensures.ok) b)) c.from_residual-in_err-behind_close_paren.ensures.1 c.in_err-behind_close_paren.ensures.fails

pub shift-returns-in_err-behind-clause-fails : goal.shift-returns-in_err-behind-clause-fails
shift-returns-in_err-behind-clause-fails t c =
    fails_at c.args.self.floor _ _ (λ left b. begins_as shift_of_parts (begins_before (expression_runs then (symbol_runs s.Comma then (expression_runs then symbol_runs s.CloseParen))) b)) c.from_residual.ensures.1 c.in_err-behind.ensures.fails

pub shift-returns-in_err-value-clause-fails : goal.shift-returns-in_err-value-clause-fails
shift-returns-in_err-value-clause-fails t c =
    fails_on c.args.self.floor _ _ (λ left b. begins_as shift_of_parts (begins_then (passes_local c.in_ok-behind.ensures.ok) (begins_before (symbol_runs s.Comma then (expression_runs then symbol_runs s.CloseParen)) b))) c.from_residual-in_err-value.ensures.1 c.in_err-value.ensures.fails

pub shift-returns-in_err-behind-2-clause-fails : goal.shift-returns-in_err-behind-2-clause-fails
shift-returns-in_err-behind-2-clause-fails t c =
    fails_at c.args.self.floor _ _ (λ left b. begins_as shift_of_parts (begins_then (passes_local c.in_ok-behind.ensures.ok) (begins_then (expression_local c.in_ok-value.ensures.ok) (begins_before (expression_runs then symbol_runs s.CloseParen) b)))) c.from_residual-in_err-behind-2.ensures.1 c.in_err-behind-2.ensures.fails

pub shift-returns-in_err-by-clause-fails : goal.shift-returns-in_err-by-clause-fails
shift-returns-in_err-by-clause-fails t c =
    fails_on c.args.self.floor _ _ (λ left b. begins_as shift_of_parts (begins_then (passes_local c.in_ok-behind.ensures.ok) (begins_then (expression_local c.in_ok-value.ensures.ok) (begins_then (passes_local c.in_ok-behind-2.ensures.ok) (begins_before (symbol_runs s.CloseParen) b))))) c.from_residual-in_err-by.ensures.1 c.in_err-by.ensures.fails

pub shift-returns-in_err-behind-3-clause-fails : goal.shift-returns-in_err-behind-3-clause-fails
shift-returns-in_err-behind-3-clause-fails t c =
    fails_at c.args.self.floor _ _ (λ left b. begins_as shift_of_parts (begins_then (passes_local c.in_ok-behind.ensures.ok) (begins_then (expression_local c.in_ok-value.ensures.ok) (begins_then (passes_local c.in_ok-behind-2.ensures.ok) (begins_then (expression_local c.in_ok-by.ensures.ok) b))))) c.from_residual-in_err-behind-3.ensures.1 c.in_err-behind-3.ensures.fails

pub concat-returns-in_err-first-clause-fails : goal.concat-returns-in_err-first-clause-fails
concat-returns-in_err-first-clause-fails t c =
    fails_on c.args.self.floor _ _ (λ left b. begins_as concat_of_parts (begins_before (no_parts_runs then symbol_runs s.CloseBrace) b)) c.from_residual.ensures.1 c.in_err-first.ensures.fails

pub concat-returns-in_err-parts-clause-fails : goal.concat-returns-in_err-parts-clause-fails
concat-returns-in_err-parts-clause-fails t c =
    fails_on c.args.self.floor _ _ (λ left b. begins_as concat_of_parts (begins_then (part_local c.in_ok-first.ensures.ok) (begins_before (symbol_runs s.CloseBrace) b))) c.from_residual-in_err-parts.ensures.1 c.in_err-parts.ensures.fails

pub concat-returns-in_err-behind-clause-fails : goal.concat-returns-in_err-behind-clause-fails
concat-returns-in_err-behind-clause-fails t c =
    fails_at c.args.self.floor _ _ (λ left b. begins_as concat_of_parts (begins_then (part_local c.in_ok-first.ensures.ok) (begins_then (parts_local c.in_ok-parts.ensures.ok) b))) c.from_residual-in_err-behind.ensures.1 c.in_err-behind.ensures.fails

pub parts-returns-in_err-part-in-Comma-clause-fails : goal.parts-returns-in_err-part-in-Comma-clause-fails
parts-returns-in_err-part-in-Comma-clause-fails t c =
    fails_on c.args.self.floor _ _ (λ left b. begins_as parts_of (begins_then (passes_local (_, stands c.args.here c.next-next.result s.Comma c.next-next.ensures c.in-Comma.is refl)) (begins_before no_parts_runs b))) c.from_residual.ensures.1 c.in_err-part-in-Comma.ensures.fails

pub parts-returns-in_ok-with_part-in-Comma-clause-fails : goal.parts-returns-in_ok-with_part-in-Comma-clause-fails
parts-returns-in_ok-with_part-in-Comma-clause-fails t c =
    fails_in c.args.self.floor c.parts.result (λ left b. begins_as parts_of (begins_then (passes_local (_, stands c.args.here c.next-next.result s.Comma c.next-next.ensures c.in-Comma.is refl)) (begins_then (part_local c.in_ok-part-in-Comma.ensures.ok) b))) c.parts.ensures.fails

pub part-returns-in_err-value-clause-fails : goal.part-returns-in_err-value-clause-fails
part-returns-in_err-value-clause-fails t c =
    fails_on c.args.self.floor _ _ (λ left b. begins_as part_of (begins_before no_times_runs b)) c.from_residual.ensures.1 c.in_err-value.ensures.fails

pub part-returns-in_err-times-clause-fails : goal.part-returns-in_err-times-clause-fails
part-returns-in_err-times-clause-fails t c =
    fails_on_short c.args.self.floor _ _ (λ left b. begins_as part_of (begins_then (expression_local c.in_ok-value.ensures.ok) b)) c.from_residual-in_err-times.ensures.1 c.in_err-times.ensures.stops

pub reference-returns-in_err-of-clause-fails : goal.reference-returns-in_err-of-clause-fails
reference-returns-in_err-of-clause-fails t c =
    fails_on_short c.args.self.floor _ _ (λ left b. begins_as named_of b) c.from_residual.ensures.1 c.in_err-of.ensures.stops

pub reference-returns-in-Dot-clause-fails : goal.reference-returns-in-Dot-clause-fails
reference-returns-in-Dot-clause-fails t c =
    fails_in_short c.args.self.floor c.bit.result (λ left b. begins_as one_bit_of (begins_then (reference_local c.in_ok-of.ensures.ok) (begins_then (stands_local (stands c.in_ok-of.behind c.next-next.result s.Dot c.next-next.ensures c.in-Dot.is refl)) b))) c.bit.ensures.stops

pub reference-returns-then-begins_slice-clause-fails : goal.reference-returns-then-begins_slice-clause-fails
reference-returns-then-begins_slice-clause-fails t c =
    fails_in_short c.args.self.floor c.slice.result (λ left b. begins_as sliced_of (begins_then (reference_local c.in_ok-of.ensures.ok) (begins_then (stands_local (stands c.in_ok-of.behind c.next-next.result s.OpenBracket c.next-next.ensures c.in-OpenBracket.is refl)) b))) c.slice.ensures.stops

pub reference-returns-else-begins_slice-clause-fails : goal.reference-returns-else-begins_slice-clause-fails
reference-returns-else-begins_slice-clause-fails t c =
    fails_in c.args.self.floor c.index.result (λ left b. begins_as indexed_of (begins_then (reference_local c.in_ok-of.ensures.ok) (begins_then (stands_local (stands c.in_ok-of.behind c.next-next.result s.OpenBracket c.next-next.ensures c.in-OpenBracket.is refl)) b))) c.index.ensures.fails

pub index-returns-in_err-place-clause-fails : goal.index-returns-in_err-place-clause-fails
index-returns-in_err-place-clause-fails t c =
    fails_on c.args.self.floor _ _ (λ left b. begins_as index_of_parts (begins_before (symbol_runs s.CloseBracket) b)) c.from_residual.ensures.1 c.in_err-place.ensures.fails

pub index-returns-in_err-behind-clause-fails : goal.index-returns-in_err-behind-clause-fails
index-returns-in_err-behind-clause-fails t c =
    fails_at c.args.self.floor _ _ (λ left b. begins_as index_of_parts (begins_then (expression_local c.in_ok-place.ensures.ok) b)) c.from_residual-in_err-behind.ensures.1 c.in_err-behind.ensures.fails
