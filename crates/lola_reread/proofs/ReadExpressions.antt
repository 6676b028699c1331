-- By the grammar, rule by rule: an expression that is read is printed so that it is read again.
use Rattle.std.proofs.Common.{◌≡◌, ℕ, ◌+◌, ◌≤◌, List, ◌++◌, length, codes, Some, refl, sym, ap, ap₂, subst, ◌∙◌, arith, append_assoc}
use Rattle.lola_bits.specs.declared.op.Op.{Op}
use Rattle.lola_bits.specs.declared.op.Op.TheVariants as op
use Rattle.lola_tree.specs.declared.named.Count.{Count}
use Rattle.lola_tree.specs.Tree.{Tree, number, whole, bit, slice, index, concat, negation, binary, choice, Parts, no_part, one_part}
use Rattle.lola_tree.specs.Places.{placeless_count, placeless, placeless_parts}
use Rattle.lola_tree.specs.Print.{times_text, expr_text, parts_text, tightness}
use Rattle.lola_parse.specs.declared.symbol.Symbol.{Symbol}
use Rattle.lola_parse.specs.declared.symbol.Symbol.TheVariants as s
use Rattle.lola_parse.specs.declared.symbol.Language.TheVariants.{Design}
use Rattle.lola_parse.specs.Symbols.{Item}
use Rattle.lola_parse.specs.Grammar.{Stands, Passes, place_of, Expression, one_rel, chosen, Rel, one_sum, related, Sum, sum, Terms, no_term, one_term, Term, term, Factors, no_factor, one_factor, Factor, negated, numbered, named, one_bit, sliced, indexed, joined, shifted, nested, OnePart, part, MoreParts, no_more, one_more, with_part, adding_of}
use Rattle.lola_reread.proofs.GoodItems.{AllGood}
use Rattle.lola_reread.proofs.Prints.{Prints, Then, ◌and◌, read_as, retext, nothing, numbered as number_printed}
use Rattle.lola_reread.proofs.Levels.{Again, closed_count, count_held, count_most, count_more, open_brace, close_brace, comma, Printed, Done, weaken, past_good, past_long, relation_is, adding_is, and_is, shift_is, joined as joined_printed}
use Rattle.lola_reread.proofs.Expressions.{past_number, counted_done, ref_done, TimesAgain, times_done, made, at_zero, few_zero, choice_printed, negation_printed, bit_printed, slice_printed, index_printed, shift_printed}

-- the parts of one list and then those of another
abbrev append_parts : Parts → Parts → Parts
append_parts no_part others = others
append_parts (one_part e times more) others = one_part e times (append_parts more others)

with_is : (ps : Parts) (e : Tree) (times : Count) → with_part ps e times ≡ append_parts ps (one_part e times no_part)
with_is no_part e times = refl
with_is (one_part f n more) e times = ap (one_part f n) (with_is more e times)

none_behind : (ps : Parts) → append_parts ps no_part ≡ ps
none_behind no_part = refl
none_behind (one_part f n more) = ap (one_part f n) (none_behind more)

with_behind : (ps : Parts) (e : Tree) (times : Count) (others : Parts) → append_parts (with_part ps e times) others ≡ append_parts ps (one_part e times others)
with_behind no_part e times others = refl
with_behind (one_part f n more) e times others = ap (one_part f n) (with_behind more e times others)

placeless_append : (ps others : Parts) → placeless_parts (append_parts ps others) ≡ append_parts (placeless_parts ps) (placeless_parts others)
placeless_append no_part others = refl
placeless_append (one_part f n more) others = ap (one_part (placeless f) (placeless_count n)) (placeless_append more others)

-- the parts behind some, wherever those stand
abbrev MoreAgain : Parts → List Item → List Item → Type 0
MoreAgain added all rest = (before : Parts) → (again : Parts) × (MoreParts Design before all again rest × (placeless_parts again ≡ placeless_parts (append_parts before added)))

record MoreDone (before parts : Parts) (all rest : List Item) : Type 0 where
  pub added : Parts
  pub is : parts ≡ append_parts before added
  pub count : ℕ
  pub printed : Prints (parts_text (codes ", ") added) count (MoreAgain added)
  pub few : count + length rest ≤ length all
  pub good : AllGood rest

-- a part, wherever it stands
abbrev PartAgain : Tree → Count → List Item → List Item → Type 0
PartAgain e times all rest =
    (e' : Tree) × ((times' : Count) × (OnePart Design all e' times' rest × ((placeless e' ≡ placeless e) × (placeless_count times' ≡ placeless_count times))))

record PartDone (e : Tree) (times : Count) (all rest : List Item) : Type 0 where
  pub count : ℕ
  pub printed : Prints (expr_text e ++ times_text times) count (PartAgain e times)
  pub few : count + length rest ≤ length all
  pub good : AllGood rest

-- the terms of a sum, or the factors of a term, behind what stands on the left
record ChainDone (k : ℕ) (n : ℕ) (a e : Tree) (all rest : List Item) : Type 0 where
  pub count : ℕ
  pub printed : Printed e count
  pub few : closed_count k (tightness e) count + length rest ≤ closed_count k (tightness a) n + length all
  pub good : AllGood rest

-- a chain goes on behind a sum
terms_append : (all mid first rest : List Item) (a c : Tree) (symbol : Symbol) (o : Op) (p : ℕ) (b : Tree) → Terms Design c all a mid → Stands symbol p mid first → adding_of symbol ≡ Some o →
    Term Design first b rest → Terms Design c all (binary o a b p) rest
terms_append all mid first rest a c symbol o p b (no_term same none) stands reads t =
    one_term first rest (subst (λ is. Stands symbol p is first) none stands) reads t (no_term (ap (λ x. binary o x b p) same) refl)
terms_append all mid first rest a c symbol o p b (one_term f1 b1 st rd t1 more) stands reads t =
    one_term f1 b1 st rd t1 (terms_append b1 mid first rest a _ symbol o p b more stands reads t)

sum_append : (all mid first rest : List Item) (a b : Tree) (symbol : Symbol) (o : Op) (p : ℕ) → Sum Design all a mid → Stands symbol p mid first → adding_of symbol ≡ Some o →
    Term Design first b rest → Sum Design all (binary o a b p) rest
sum_append all mid first rest a b symbol o p (sum behind t more) stands reads u = sum behind t (terms_append behind mid first rest a _ symbol o p b more stands reads u)

factors_append : (all mid first rest : List Item) (a c b : Tree) (p : ℕ) → Factors Design c all a mid → Stands s.And p mid first → Factor Design first b rest →
    Factors Design c all (binary op.And a b p) rest
factors_append all mid first rest a c b p (no_factor same none) stands t =
    one_factor first rest (subst (λ is. Stands s.And p is first) none stands) t (no_factor (ap (λ x. binary op.And x b p) same) refl)
factors_append all mid first rest a c b p (one_factor f1 b1 st t1 more) stands t = one_factor f1 b1 st t1 (factors_append b1 mid first rest a _ b p more stands t)

term_append : (all mid first rest : List Item) (a b : Tree) (p : ℕ) → Term Design all a mid → Stands s.And p mid first → Factor Design first b rest → Term Design all (binary op.And a b p) rest
term_append all mid first rest a b p (term behind t more) stands u = term behind t (factors_append behind mid first rest a _ b p more stands u)

more_again : (e : Tree) (times : Count) (added : Parts) (all rest : List Item) → Then (Passes s.Comma) (Then (PartAgain e times) (MoreAgain added)) all rest → MoreAgain (one_part e times added) all rest
more_again e times added all rest (m1, ((p, co), (m2, ((e', (t', (pt, (se, st)))), more)))) = λ before.
    let go = more (with_part before e' t') in (
      go.0,
      (
        one_more m1 m2 co pt go.1.0,
        go.1.1 ∙ (ap placeless_parts (with_behind before e' t' added) ∙ (placeless_append before (one_part e' t' added)
            ∙ (ap (λ ps. append_parts (placeless_parts before) ps) (ap₂ (λ x y. one_part x y (placeless_parts added)) se st) ∙ sym (placeless_append before (one_part e times added))))),
      ),
    )

concat_again : (e : Tree) (times : Count) (added : Parts) (at : ℕ) (all rest : List Item) →
    Then (Passes s.OpenBrace) (Then (PartAgain e times) (Then (MoreAgain added) (Passes s.CloseBrace))) all rest → Again 4 (concat (one_part e times added) at) all rest
concat_again e times added at all rest (m1, ((p, ob), (m2, ((e', (t', (pt, (se, st)))), (m3, (more, (q, cb))))))) =
    let go = more (one_part e' t' no_part) in
    (concat go.0 p, (joined m1 m2 m3 ob pt go.1.0 cb refl, ap (λ ps. concat ps 0) (go.1.1 ∙ ap₂ (λ x y. one_part x y (placeless_parts added)) se st)))

part_again : (e : Tree) (times : Count) (all rest : List Item) → Then (Again 0 e) (TimesAgain times) all rest → PartAgain e times all rest
part_again e times all rest (mid, ((e', (expr, se)), times_read)) =
    let t = times_read (place_of all) in
    (e', (t.0, (part mid expr t.1.0, (se, t.1.1))))

parts_assoc : (before e times more : List ℕ) → before ++ ((e ++ times) ++ more) ≡ before ++ (e ++ (times ++ more))
parts_assoc before e times more = ap (λ xs. before ++ xs) (append_assoc e times more)

parts_text_is : (e : Tree) (times : Count) (added : Parts) →
    codes "{ " ++ ((expr_text e ++ times_text times) ++ (parts_text (codes ", ") added ++ codes "} ")) ≡ parts_text (codes "{ ") (one_part e times added) ++ codes "} "
parts_text_is e times added =
    ap (λ xs. codes "{ " ++ xs) (append_assoc (expr_text e) (times_text times) (parts_text (codes ", ") added ++ codes "} ")
    ∙ ap (λ xs. expr_text e ++ xs) (sym (append_assoc (times_text times) (parts_text (codes ", ") added) (codes "} ")))
    ∙ sym (append_assoc (expr_text e) (times_text times ++ parts_text (codes ", ") added) (codes "} ")))

mutual
  pub expression_done : (all rest : List Item) (e : Tree) → Expression Design all e rest → AllGood all → Done 0 e all rest
  expression_done all rest e (one_rel r) good = weaken 1 0 (omega arith) (rel_done all rest e r good)
  expression_done all rest e (chosen {test = t} {first = f} {second = g} {at = p} arrow behind colon last test ar first co second is) good =
      let dt = rel_done all arrow t test good in
      let df = expression_done behind colon f first (past_good ar dt.good) in
      let dg = expression_done last rest g second (past_good co df.good) in
      let one = dt.few in
      let two = few_zero df in
      let three = few_zero dg in
      let a = past_long ar in
      let b = past_long co in
      subst (λ x. Done 0 x all rest) (sym is)
      (made 0 (choice t f g p) _ all rest (omega arith) (choice_printed t f g dt.count df.count dg.count p dt.printed df.printed dg.printed) (omega arith) dg.good)

  rel_done : (all rest : List Item) (e : Tree) → Rel Design all e rest → AllGood all → Done 1 e all rest
  rel_done all rest e (one_sum r) good = weaken 2 1 (omega arith) (sum_done all rest e r good)
  rel_done all rest e (related {a = a} {b = b} {symbol = symbol} {o = o} {at = p} sign behind left stands reads right is) good =
      let da = sum_done all sign a left good in
      let db = sum_done behind rest b right (past_good stands da.good) in
      let inf = relation_is symbol o reads in
      let one = da.few in
      let two = db.few in
      let long = past_long stands in
      let printed = joined_printed a b da.count db.count p o 1 2 2 symbol inf (omega arith) (omega arith) da.printed db.printed
      (λ all sign behind rest a' b' q l st r. related sign behind l st reads r refl) in
      subst (λ x. Done 1 x all rest) (sym is) (made 1 (binary o a b p) _ all rest (rw inf.tight (omega arith)) printed (omega arith) db.good)

  sum_done : (all rest : List Item) (e : Tree) → Sum Design all e rest → AllGood all → Done 2 e all rest
  sum_done all rest e (sum {a = a} behind t more) good =
      let dt = term_done all behind a t good in
      let dc = terms_done behind rest a e more dt.count dt.printed dt.good in
      let one = dt.few in
      let two = dc.few in
      let three = count_more 2 3 (tightness a) dt.count (omega arith) in
      record { count = dc.count; printed = dc.printed; few = omega arith; good = dc.good }

  terms_done : (all rest : List Item) (a e : Tree) → Terms Design a all e rest → (n : ℕ) → Printed a n → AllGood all → ChainDone 2 n a e all rest
  terms_done all rest a e (no_term same none) n printed good =
      let long : length rest ≡ length all = ap length none in
      record {
        count = n;
        printed = subst (λ x. Printed x n) (sym same) printed;
        few = subst (λ x. closed_count 2 (tightness x) n + length rest ≤ closed_count 2 (tightness a) n + length all) (sym same) (omega arith);
        good = subst AllGood (sym none) good;
      }
  terms_done all rest a e (one_term {b = b} {symbol = symbol} {o = o} {at = p} first behind stands reads t more) n printed good =
      let db = term_done first behind b t (past_good stands good) in
      let inf = adding_is symbol o reads in
      let count : ℕ = closed_count 2 (tightness a) n + (1 + closed_count 3 (tightness b) db.count) in
      let together = joined_printed a b n db.count p o 2 2 3 symbol inf (omega arith) (omega arith) printed db.printed
      (λ all sign behind rest a' b' q l st r. sum_append all sign behind rest a' b' symbol o q l st reads r) in
      let dc = terms_done behind rest (binary o a b p) e more count together db.good in
      let one = db.few in
      let two = dc.few in
      let long = past_long stands in
      let held : 2 ≤ tightness (binary o a b p) = rw inf.tight (omega arith) in
      let three = count_held 2 (tightness (binary o a b p)) count held in
      record { count = dc.count; printed = dc.printed; few = omega arith; good = dc.good }

  term_done : (all rest : List Item) (e : Tree) → Term Design all e rest → AllGood all → Done 3 e all rest
  term_done all rest e (term {a = a} behind t more) good =
      let dt = factor_done all behind a t good in
      let dc = factors_done behind rest a e more dt.count dt.printed dt.good in
      let one = dt.few in
      let two = dc.few in
      let three = count_more 3 4 (tightness a) dt.count (omega arith) in
      record { count = dc.count; printed = dc.printed; few = omega arith; good = dc.good }

  factors_done : (all rest : List Item) (a e : Tree) → Factors Design a all e rest → (n : ℕ) → Printed a n → AllGood all → ChainDone 3 n a e all rest
  factors_done all rest a e (no_factor same none) n printed good =
      let long : length rest ≡ length all = ap length none in
      record {
        count = n;
        printed = subst (λ x. Printed x n) (sym same) printed;
        few = subst (λ x. closed_count 3 (tightness x) n + length rest ≤ closed_count 3 (tightness a) n + length all) (sym same) (omega arith);
        good = subst AllGood (sym none) good;
      }
  factors_done all rest a e (one_factor {b = b} {at = p} first behind stands t more) n printed good =
      let db = factor_done first behind b t (past_good stands good) in
      let count : ℕ = closed_count 3 (tightness a) n + (1 + closed_count 4 (tightness b) db.count) in
      let together = joined_printed a b n db.count p op.And 3 3 4 s.And and_is (omega arith) (omega arith) printed db.printed
      (λ all sign behind rest a' b' q l st r. term_append all sign behind rest a' b' q l st r) in
      let dc = factors_done behind rest (binary op.And a b p) e more count together db.good in
      let one = db.few in
      let two = dc.few in
      let long = past_long stands in
      let three = count_held 3 (tightness (binary op.And a b p)) count (omega arith) in
      record { count = dc.count; printed = dc.printed; few = omega arith; good = dc.good }

  factor_done : (all rest : List Item) (e : Tree) → Factor Design all e rest → AllGood all → Done 4 e all rest
  factor_done all rest e (negated {a = a} {at = p} behind stands f is) good =
      let df = factor_done behind rest a f (past_good stands good) in
      let one = df.few in
      let long = past_long stands in
      subst (λ x. Done 4 x all rest) (sym is) (made 4 (negation a p) _ all rest (omega arith) (negation_printed a df.count p df.printed) (omega arith) df.good)
  factor_done all rest e (numbered {value = value} {at = p} {width = width} stands is) good =
      let bounds = past_number stands good in
      let long = past_long stands in
      subst (λ x. Done 4 x all rest) (sym is)
      (made 4 (number value width p) 1 all rest (omega arith)
      (read_as {Q = Again 4 (number value width p)} (λ xs ys h. (number value width h.0, (numbered h.1 refl, refl))) (number_printed value width bounds.0 bounds.1))
      (omega arith) (past_good stands good))
  factor_done all rest e (named {of = r} ref is) good =
      let dr = ref_done r all rest ref good in
      let long = dr.few in
      subst (λ x. Done 4 x all rest) (sym is)
      (made 4 (whole r) 1 all rest (omega arith)
      (read_as {Q = Again 4 (whole r)} (λ xs ys h. (whole h.0, (named h.1.0 refl, ap whole h.1.1))) dr.printed) (omega arith) dr.good)
  factor_done all rest e (one_bit {of = r} {place = c} {at = p} point behind ref stands cnt is) good =
      let dr = ref_done r all point ref good in
      let dc = counted_done c behind rest cnt (past_good stands dr.good) in
      let one = dr.few in
      let two = past_long stands in
      let three = dc.few in
      subst (λ x. Done 4 x all rest) (sym is) (made 4 (bit r c p) 3 all rest (omega arith) (bit_printed r c p dr.printed dc.printed) (omega arith) dc.good)
  factor_done all rest e (sliced {of = r} {high = c} {low = d} {at = p} bracket first mid second close ref opens high co low closes is) good =
      let dr = ref_done r all bracket ref good in
      let dc = counted_done c first mid high (past_good opens dr.good) in
      let dd = counted_done d second close low (past_good co dc.good) in
      let one = dr.few in
      let two = past_long opens in
      let three = dc.few in
      let four = past_long co in
      let five = dd.few in
      let six = past_long closes in
      subst (λ x. Done 4 x all rest) (sym is)
      (made 4 (slice r c d p) 6 all rest (omega arith) (slice_printed r c d p dr.printed dc.printed dd.printed) (omega arith) (past_good closes dd.good))
  factor_done all rest e (indexed {place = place} {of = r} {at = p} bracket first close ref opens expr closes is) good =
      let dr = ref_done r all bracket ref good in
      let de = expression_done first close place expr (past_good opens dr.good) in
      let one = dr.few in
      let two = past_long opens in
      let three = few_zero de in
      let four = past_long closes in
      subst (λ x. Done 4 x all rest) (sym is)
      (made 4 (index r place p) _ all rest (omega arith) (index_printed r place de.count p dr.printed de.printed) (omega arith) (past_good closes de.good))
  factor_done all rest e (joined {a = a} {times = times} {parts = parts} {at = p} first behind close opens one more closes is) good =
      let dp = part_done first behind a times one (past_good opens good) in
      let dm = more_done behind close (one_part a times no_part) parts more dp.good in
      let two = past_long opens in
      let three = dp.few in
      let four = dm.few in
      let five = past_long closes in
      let printed = retext (parts_text_is a times dm.added) refl
      (read_as {Q = Again 4 (concat (one_part a times dm.added) p)} (concat_again a times dm.added p) (open_brace and (dp.printed and (dm.printed and close_brace)))) in
      subst (λ x. Done 4 x all rest) (sym (is ∙ ap (λ ps. concat ps p) dm.is))
      (made 4 (concat (one_part a times dm.added) p) _ all rest (omega arith) printed (omega arith) (past_good closes dm.good))
  factor_done all rest e (shifted {a = a} {b = b} {symbol = symbol} {o = o} {at = p} paren first mid second close stands reads opens left co right closes is) good =
      let da = expression_done first mid a left (past_good opens (past_good stands good)) in
      let db = expression_done second close b right (past_good co da.good) in
      let one = past_long stands in
      let two = past_long opens in
      let three = few_zero da in
      let four = past_long co in
      let five = few_zero db in
      let six = past_long closes in
      let tight = (shift_is symbol o reads).tight in
      subst (λ x. Done 4 x all rest) (sym is)
      (made 4 (binary o a b p) _ all rest (rw tight (omega arith)) (shift_printed a b da.count db.count p o symbol reads da.printed db.printed) (omega arith) (past_good closes db.good))
  factor_done all rest e (nested first close opens expr closes) good =
      let de = expression_done first close e expr (past_good opens good) in
      let one = past_long opens in
      let two = few_zero de in
      let three = past_long closes in
      let most = count_most 4 (tightness e) de.count in
      record { count = de.count; printed = de.printed; few = omega arith; good = past_good closes de.good }

  part_done : (all rest : List Item) (e : Tree) (times : Count) → OnePart Design all e times rest → AllGood all → PartDone e times all rest
  part_done all rest e times (part behind expr often) good =
      let de = expression_done all behind e expr good in
      let dt = times_done (place_of all) times behind rest often de.good in
      let one = few_zero de in
      let two = dt.few in
      record {
        count = de.count + dt.count;
        printed = read_as {Q = PartAgain e times} (part_again e times) (at_zero e de.count de.printed and dt.printed);
        few = omega arith;
        good = dt.good;
      }

  more_done : (all rest : List Item) (before parts : Parts) → MoreParts Design before all parts rest → AllGood all → MoreDone before parts all rest
  more_done all rest before parts (no_more same none) good =
      let long : length rest ≡ length all = ap length none in
      record {
        added = no_part;
        is = same ∙ sym (none_behind before);
        count = 0;
        printed = read_as {Q = MoreAgain no_part} (λ xs ys h ps. (ps, (no_more refl (sym h), ap placeless_parts (sym (none_behind ps))))) nothing;
        few = omega arith;
        good = subst AllGood (sym none) good;
      }
  more_done all rest before parts (one_more {e = e} {times = times} first behind stands one more) good =
      let dp = part_done first behind e times one (past_good stands good) in
      let dm = more_done behind rest (with_part before e times) parts more dp.good in
      let two = past_long stands in
      let three = dp.few in
      let four = dm.few in
      record {
        added = one_part e times dm.added;
        is = dm.is ∙ with_behind before e times dm.added;
        count = 1 + (dp.count + dm.count);
        printed = retext (parts_assoc (codes ", ") (expr_text e) (times_text times) (parts_text (codes ", ") dm.added)) refl
            (read_as {Q = MoreAgain (one_part e times dm.added)} (more_again e times dm.added) (comma and (dp.printed and dm.printed)));
        few = omega arith;
        good = dm.good;
      }
