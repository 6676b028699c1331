-- Over bool every step has a place, so a well formed design has its cycle, whatever numbers it is given.
use Rattle.std.proofs.Common.{◌≡◌, ℕ, zero, suc, ◌+◌, ◌*◌, ◌/◌, ◌%◌, ◌^◌, ◌<◌, Bool, false, List, [], ◌∷◌, length, map, replicate, get_or, Option, Some, None, refl, sym, ◌∙◌, ap, ap₂, subst, arith}
use Rattle.std.specs.Prelude.{nat_eq, slice_get}
use Rattle.std.specs.List.{AllByRecursion}
use Rattle.std.proofs.Math.ListN.{get_or-map}
use Rattle.std.proofs.lemmas.List.{length-map}
use Rattle.lola_bits.specs.declared.op.Op.{Op}
use Rattle.lola_bits.specs.Number.{number}
use Rattle.lola_bits.proofs.All.{all_of, of_all}
use Rattle.lola_bits.proofs.BitLists.{lowest, pow_more, number_below}
use Rattle.lola_bits.proofs.Options.{some_same, nothing}
use Rattle.lola_alg.specs.Steps.{Step, into, HasPlaces, op_step, read_step, write_from}
use Rattle.lola_alg.specs.Means.{AreKnown, number_at}
use Rattle.lola_alg.specs.Plain.{plain_calls, plain_meaning, plain_law}
use Rattle.lola_flat.specs.declared.design.SigKind.{SigKind}
use Rattle.lola_flat.specs.declared.design.SigKind.TheVariants.{Input, Pad, Wire, Register}
use Rattle.lola_flat.specs.Tree.{ExprTree, number as constant, signal, from_outside, element, slice, join, repeat, apply, ExprTrees, no_expr, one_expr, SignalTree, FlatTree}
use Rattle.lola_flat.specs.Value.{Env, env, elements, value, Read, vector_of, array_of, outside_of, reads}
use Rattle.lola_flat.specs.Signals.{IsSignal, widths_of, HaveSame}
use Rattle.lola_flat.specs.Formed.{ReadFits, IsFormed}
use Rattle.lola_flat.specs.Cycle.{AreBelow, HasValues, IsGivenTo, AreGiven, AreOutside, IsValueOf, IsCycle, next_elements, IsNextOf, IsNext}
use Rattle.lola_flat.proofs.SameReads.{value_same}
use Rattle.lola_flat.proofs.OneCycle.{same_cycle, same_lists}
use Rattle.lola_eval.specs.Steps.{number_step, lower_step, lowers_step, equation_of, equation_step, signals_step, with_vector, next_step, kind_step, state_step}
use Rattle.lola_eval.specs.Means.{IsWideAs, IsGivenBits, AreGivenBits, EnvKnown}
use Rattle.lola_eval.specs.OneCycle.{HasOneCycle, HasPlainCycle, plain_numbers}
use Rattle.lola_eval.proofs.Placed.{its_equation}
use Rattle.lola_eval.proofs.StepsMean.{signals_mean, state_means}

-- steps that have places, one after another
places_into : {D X Y : Type 0} (first : Option (D × X)) (next : X → Step D Y) → HasPlaces first → ((made : D × X) → HasPlaces (next made.1 made.0)) → HasPlaces (into first next)
places_into None next place each = place
places_into (Some made) next place each = each made

places_made : {D X : Type 0} (made : Option (D × X)) → HasPlaces made → (n : D × X) × (made ≡ Some n)
places_made None place = absurd place
places_made (Some n) place = (n, refl)

-- what lola_alg says of bool
module _ (op : (o : Op) (args : List (List Bool)) → HasPlaces (op_step plain_calls o args tt)) (read : (items : List (List Bool)) (place : List Bool) → HasPlaces (read_step plain_calls items place tt))
    (write : (place new : List Bool) (items : List (List Bool)) → HasPlaces (write_from plain_calls place new 0 items tt)) where
  number_place : (w n : ℕ) (d : Unit {0}) → HasPlaces (number_step plain_calls w n d)
  number_place zero n d = tt
  number_place (suc w) n d = places_into (number_step plain_calls w (n / 2) d) _ (number_place w (n / 2) d) (λ made. tt)

  mutual
    pub expr_place : (E : Env (List Bool)) (e : ExprTree) (d : Unit {0}) → HasPlaces (lower_step plain_calls E e d)
    expr_place E (constant w n) d = number_place w n d
    expr_place E (signal n) d = tt
    expr_place E (from_outside n) d = tt
    expr_place E (element n place) d = places_into (lower_step plain_calls E place d) _ (expr_place E place d) (λ made. read (elements E n) made.1)
    expr_place E (slice of high low) d = places_into (lower_step plain_calls E of d) _ (expr_place E of d) (λ made. tt)
    expr_place E (join parts) d = places_into (lowers_step plain_calls E parts d) _ (exprs_place E parts d) (λ made. tt)
    expr_place E (repeat part times) d = places_into (lower_step plain_calls E part d) _ (expr_place E part d) (λ made. tt)
    expr_place E (apply o args) d = places_into (lowers_step plain_calls E args d) _ (exprs_place E args d) (λ made. op o made.1)

    exprs_place : (E : Env (List Bool)) (es : ExprTrees) (d : Unit {0}) → HasPlaces (lowers_step plain_calls E es d)
    exprs_place E no_expr d = tt
    exprs_place E (one_expr e es) d = places_into (lower_step plain_calls E e d) _ (expr_place E e d) (λ made. places_into (lowers_step plain_calls E es made.0) _ (exprs_place E es made.0) (λ more. tt))

  equation_place : (E : Env (List Bool)) (e : Option ExprTree) (d : Unit {0}) → HasPlaces (equation_step plain_calls E e d)
  equation_place E None d = tt
  equation_place E (Some e) d = expr_place E e d

  pub signals_place : (F : FlatTree) (E : Env (List Bool)) (ns : List ℕ) (d : Unit {0}) → HasPlaces (signals_step plain_calls F E ns d)
  signals_place F E [] d = tt
  signals_place F E (n ∷ ns) d = places_into (equation_step plain_calls E (equation_of F n) d) _ (equation_place E (equation_of F n) d) (λ made. signals_place F (with_vector E n made.1) ns made.0)

  pub next_place : (E : Env (List Bool)) (place equation : Option ExprTree) (old : List (List Bool)) (d : Unit {0}) → HasPlaces (next_step plain_calls E place equation old d)
  next_place E None None old d = tt
  next_place E (Some p) None old d = tt
  next_place E None (Some e) old d = places_into (lower_step plain_calls E e d) _ (expr_place E e d) (λ made. tt)
  next_place E (Some p) (Some e) old d = places_into (lower_step plain_calls E p d) _ (expr_place E p d) (λ at. places_into (lower_step plain_calls E e at.0) _ (expr_place E e at.0) (λ new. write at.1 new.1 old))

  kind_place : (E : Env (List Bool)) (kind : SigKind) (s : SignalTree) (old : List (List Bool)) (d : Unit {0}) → HasPlaces (kind_step plain_calls E kind s old d)
  kind_place E Register s old d = next_place E s.place s.equation old d
  kind_place E Input s old d = tt
  kind_place E Pad s old d = tt
  kind_place E Wire s old d = tt

  pub state_place : (E : Env (List Bool)) (signals : List SignalTree) (n : ℕ) (d : Unit {0}) → HasPlaces (state_step plain_calls E signals n d)
  state_place E [] n d = tt
  state_place E (s ∷ signals) n d = places_into (kind_step plain_calls E s.kind s (elements E n) d) _ (kind_place E s.kind s (elements E n) d) (λ made. places_into (state_step plain_calls E signals (n + 1) made.0) _ (state_place E signals (n + 1) made.0) (λ more. tt))

  -- all bits are known
  vector_known : (d : Unit {0}) (bits : List Bool) → AreKnown plain_meaning d bits
  vector_known d [] = tt
  vector_known d (b ∷ bits) = (refl, vector_known d bits)

  vectors_known : (d : Unit {0}) (vectors : List (List Bool)) → AllByRecursion (AreKnown plain_meaning d) vectors
  vectors_known d [] = tt
  vectors_known d (x ∷ xs) = (vector_known d x, vectors_known d xs)

  table_known : (d : Unit {0}) (table : List (List (List Bool))) → AllByRecursion (AllByRecursion (AreKnown plain_meaning d)) table
  table_known d [] = tt
  table_known d (x ∷ xs) = (vectors_known d x, table_known d xs)

  all_known : (d : Unit {0}) (E : Env (List Bool)) → EnvKnown plain_meaning d E
  all_known d E = record { signals = table_known d E.signals; outside = vectors_known d E.outside }

  pub plain_cycle : (F : FlatTree) → IsFormed F → (E : Env (List Bool)) → AreGivenBits F E → HasPlainCycle F E
  plain_cycle F formed E given =
      let first = places_made (signals_step plain_calls F E F.order tt) (signals_place F E F.order tt) in
      let cycle = signals_mean plain_calls plain_meaning plain_law F formed E tt given (all_known tt E) first.0 first.1 in
      let second = places_made (state_step plain_calls (env first.0.1 []) F.signals 0 tt) (state_place (env first.0.1 []) F.signals 0 tt) in
      let state = state_means plain_calls plain_meaning plain_law F formed first.0.1 tt cycle.wide (all_known tt (env first.0.1 [])) second.0 second.1 in
      record {
        table = first.0.1;
        made = first.1;
        wide = cycle.wide;
        cycle = cycle.means (λ n. false);
        behind = second.0.1;
        state_made = second.1;
        state_wide = state.wide;
        next = state.means (λ n. false);
      }

-- the number of bits, and the bits of a number in a width
abbrev plain_number : List Bool → ℕ
plain_number bits = number_at plain_meaning tt (λ n. false) bits

abbrev bits_in : ℕ → ℕ → List Bool
bits_in zero n = []
bits_in (suc w) n = nat_eq (n % 2) 1 ∷ bits_in w (n / 2)

bits_long : (w n : ℕ) → length (bits_in w n) ≡ w
bits_long zero n = refl
bits_long (suc w) n = ap suc (bits_long w (n / 2))

bits_number : (w n : ℕ) → n < 2 ^ w → plain_number (bits_in w n) ≡ n
bits_number zero n below = omega arith
bits_number (suc w) n below =
    let p = pow_more w in
    let rest = bits_number w (n / 2) (omega arith) in
    ap (λ k. number (nat_eq (n % 2) 1) + 2 * k) rest ∙ lowest n

all_long : (w : ℕ) (ns : List ℕ) → map length (map (bits_in w) ns) ≡ replicate (length ns) w
all_long w [] = refl
all_long w (n ∷ ns) = ap₂ (λ k ks. k ∷ ks) (bits_long w n) (all_long w ns)

all_numbers : (w : ℕ) (ns : List ℕ) → AllByRecursion (λ n. n < 2 ^ w) ns → map plain_number (map (bits_in w) ns) ≡ ns
all_numbers w [] below = refl
all_numbers w (n ∷ ns) below = ap₂ (λ k ks. k ∷ ks) (bits_number w n below.0) (all_numbers w ns below.1)

-- tables of bits for tables of numbers
abbrev given_bits : List SignalTree → List (List ℕ) → List (List (List Bool))
given_bits [] gs = []
given_bits (s ∷ ss) [] = [] ∷ given_bits ss []
given_bits (s ∷ ss) (g ∷ gs) = map (bits_in s.width) g ∷ given_bits ss gs

given_long : (ss : List SignalTree) (gs : List (List ℕ)) → length (given_bits ss gs) ≡ length ss
given_long [] gs = refl
given_long (s ∷ ss) [] = ap suc (given_long ss [])
given_long (s ∷ ss) (g ∷ gs) = ap suc (given_long ss gs)

given_at : (ss : List SignalTree) (gs : List (List ℕ)) (n : ℕ) (s : SignalTree) → slice_get ss n ≡ Some s → get_or (given_bits ss gs) n [] ≡ map (bits_in s.width) (get_or gs n [])
given_at [] gs n s is = nothing s is
given_at (t ∷ ss) [] zero s is = refl
given_at (t ∷ ss) [] (suc n) s is = given_at ss [] n s is
given_at (t ∷ ss) (g ∷ gs) zero s is = ap (λ (u : SignalTree). map (bits_in u.width) g) (some_same t s is)
given_at (t ∷ ss) (g ∷ gs) (suc n) s is = given_at ss gs n s is

abbrev outside_bits : List SignalTree → List ℕ → List (List Bool)
outside_bits [] os = []
outside_bits (s ∷ ss) [] = bits_in s.width 0 ∷ outside_bits ss []
outside_bits (s ∷ ss) (o ∷ os) = bits_in s.width o ∷ outside_bits ss os

outside_at : (ss : List SignalTree) (os : List ℕ) (n : ℕ) (s : SignalTree) → slice_get ss n ≡ Some s → get_or (outside_bits ss os) n [] ≡ bits_in s.width (get_or os n 0)
outside_at [] os n s is = nothing s is
outside_at (t ∷ ss) [] zero s is = ap (λ (u : SignalTree). bits_in u.width 0) (some_same t s is)
outside_at (t ∷ ss) [] (suc n) s is = outside_at ss [] n s is
outside_at (t ∷ ss) (o ∷ os) zero s is = ap (λ (u : SignalTree). bits_in u.width o) (some_same t s is)
outside_at (t ∷ ss) (o ∷ os) (suc n) s is = outside_at ss os n s is

-- vectors of a width have numbers below 2 to it
below_width : (vectors : List (List Bool)) (count w : ℕ) → map length vectors ≡ replicate count w → AllByRecursion (λ n. n < 2 ^ w) (map plain_number vectors)
below_width [] count w e = tt
below_width (x ∷ xs) zero w e = absurd (cc)
below_width (x ∷ xs) (suc count) w e =
    let f : length x ∷ map length xs ≡ w ∷ replicate count w = e in
    let head : length x ≡ w = cc in
    let tail : map length xs ≡ replicate count w = cc in
    (subst (λ k. plain_number x < 2 ^ k) (length-map x (λ b. b) ∙ head) (number_below (map (λ b. b) x)), below_width xs count w tail)

as_many : (vectors : List (List Bool)) (count w : ℕ) → map length vectors ≡ replicate count w → length (map plain_number vectors) ≡ count
as_many [] zero w e = refl
as_many [] (suc count) w e = absurd (cc)
as_many (x ∷ xs) zero w e = absurd (cc)
as_many (x ∷ xs) (suc count) w e =
    let f : length x ∷ map length xs ≡ w ∷ replicate count w = e in
    let tail : map length xs ≡ replicate count w = cc in
    ap suc (as_many xs count w tail)

wide_values : (s : SignalTree) (vectors : List (List Bool)) (ns : List ℕ) → IsWideAs s vectors → ns ≡ map plain_number vectors → HasValues s ns
wide_values s vectors ns wide is = subst (HasValues s) (sym is) (record { count = as_many vectors s.count s.width wide; below = below_width vectors s.count s.width wide })

module _ (F : FlatTree) (formed : IsFormed F) (given : List (List ℕ)) (outside : List ℕ) (given_fits : AreGiven F given) (outside_fits : AreOutside F outside) where
  given_kind : (n : ℕ) (s : SignalTree) → IsSignal F n s → (kind : SigKind) → s.kind ≡ kind → IsGivenTo F s kind (get_or given n []) → IsGivenBits F s kind (get_or (given_bits F.signals given) n []) (get_or (outside_bits F.signals outside) n [])
  given_kind n s is Input kind fits = λ clock. ap (map length) (given_at F.signals given n s is) ∙ all_long s.width (get_or given n []) ∙ ap (λ k. replicate k s.width) (fits.1.1 clock)
  given_kind n s is Register kind fits = ap (map length) (given_at F.signals given n s is) ∙ all_long s.width (get_or given n []) ∙ ap (λ k. replicate k s.width) fits.count
  given_kind n s is Pad kind fits = ap length (outside_at F.signals outside n s is) ∙ bits_long s.width (get_or outside n 0)
  given_kind n s is Wire kind fits = tt

  pub bits_fit : AreGivenBits F (env (given_bits F.signals given) (outside_bits F.signals outside))
  bits_fit = record { long = given_long F.signals given; each = λ n s is. given_kind n s is s.kind refl (given_fits.each n s is) }

  -- the numbers of those bits are what is given
  given_number : (n : ℕ) (s : SignalTree) → IsSignal F n s → AreBelow s (get_or given n []) → get_or (plain_numbers (given_bits F.signals given)) n [] ≡ get_or given n []
  given_number n s is below = get_or-map (map plain_number) (given_bits F.signals given) n [] ∙ ap (map plain_number) (given_at F.signals given n s is) ∙ all_numbers s.width (get_or given n []) below

  outside_number : (n : ℕ) (s : SignalTree) → IsSignal F n s → s.kind ≡ Pad → get_or (map plain_number (outside_bits F.signals outside)) n 0 ≡ get_or outside n 0
  outside_number n s is kind =
      get_or-map plain_number (outside_bits F.signals outside) n [] ∙ ap plain_number (outside_at F.signals outside n s is) ∙ bits_number s.width (get_or outside n 0) (outside_fits.each n s is kind)

  module _ (V : List (List ℕ)) where
    same_outside : (n : ℕ) (s : SignalTree) → IsSignal F n s → (e : ExprTree) → s.equation ≡ Some e →
        value (widths_of F) (env V (map plain_number (outside_bits F.signals outside))) e ≡ value (widths_of F) (env V outside) e
    same_outside n s is e its =
        value_same (widths_of F) (widths_of F) (env V (map plain_number (outside_bits F.signals outside))) (env V outside) e
        (all_of (HaveSame (widths_of F) (widths_of F)) (reads e) (λ r read. itself r))
        (all_of (HaveSame (env V (map plain_number (outside_bits F.signals outside))) (env V outside)) (reads e)
        (λ r read. at r (of_all (ReadFits F) r (reads e) ((formed.signals n s is).reads e (its_equation s e its)) read)))
      where
        itself : (r : Read) → HaveSame (widths_of F) (widths_of F) r
        itself (vector_of k) = refl
        itself (array_of k) = refl
        itself (outside_of k) = refl

        at : (r : Read) → ReadFits F r → HaveSame (env V (map plain_number (outside_bits F.signals outside))) (env V outside) r
        at (vector_of k) fits = refl
        at (array_of k) fits = refl
        at (outside_of k) fits = outside_number k fits.0 fits.1.0 fits.1.1

    as_given : (n : ℕ) (s : SignalTree) → IsSignal F n s → (kind : SigKind) → s.kind ≡ kind → (equation : Option ExprTree) → s.equation ≡ equation → IsGivenTo F s kind (get_or given n []) →
        IsValueOf F (env V (map plain_number (outside_bits F.signals outside))) kind equation (get_or (plain_numbers (given_bits F.signals given)) n []) (get_or V n []) →
        IsValueOf F (env V outside) kind equation (get_or given n []) (get_or V n [])
    as_given n s is Input k equation e fits v = v ∙ given_number n s is fits.0
    as_given n s is Register k equation e fits v = v ∙ given_number n s is fits.below
    as_given n s is Pad k None e fits v = v
    as_given n s is Pad k (Some f) e fits v = v ∙ ap (λ x. x ∷ []) (same_outside n s is f e)
    as_given n s is Wire k None e fits v = v
    as_given n s is Wire k (Some f) e fits v = v ∙ ap (λ x. x ∷ []) (same_outside n s is f e)

  pub one_cycle : HasPlainCycle F (env (given_bits F.signals given) (outside_bits F.signals outside)) → HasOneCycle F given outside
  one_cycle p = record {
    values = plain_numbers p.table;
    cycle = cycle;
    only = λ N is. same_cycle F formed given outside N (plain_numbers p.table) is cycle;
    fit = λ n s is clock. wide_values s (get_or p.table n []) (get_or (plain_numbers p.table) n []) (p.wide.each n s is clock) (get_or-map (map plain_number) p.table n []);
    behind = plain_numbers p.behind;
    next = p.next;
    only_next = λ after is. same_next after (plain_numbers p.behind) is p.next;
    state = λ n s is kind. next_values n s is kind;
  }
    where
      cycle : IsCycle F given outside (plain_numbers p.table)
      cycle = record {
        long = p.cycle.long;
        each = λ n s is. as_given (plain_numbers p.table) n s is s.kind refl s.equation refl (given_fits.each n s is) (p.cycle.each n s is);
      }

      same_next : (a b : List (List ℕ)) → IsNext F (plain_numbers p.table) a → IsNext F (plain_numbers p.table) b → a ≡ b
      same_next a b x y = same_lists a b [] (x.long ∙ sym y.long) (λ n within. at n (subst (λ k. n < k) x.long within))
        where
          one_next : (kind : SigKind) (next u v : List ℕ) → IsNextOf kind next u → IsNextOf kind next v → u ≡ v
          one_next Register next u v e f = e ∙ sym f
          one_next Input next u v e f = e ∙ sym f
          one_next Pad next u v e f = e ∙ sym f
          one_next Wire next u v e f = e ∙ sym f

          found : (xs : List SignalTree) (n : ℕ) → n < length xs → (s : SignalTree) × (slice_get xs n ≡ Some s)
          found [] n within = absurd (omega arith)
          found (s ∷ xs) zero within = (s, refl)
          found (s ∷ xs) (suc n) within = found xs n (omega arith)

          at : (n : ℕ) → n < length F.signals → get_or a n [] ≡ get_or b n []
          at n within =
              let s = found F.signals n within in
              one_next s.0.kind (next_elements (widths_of F) (env (plain_numbers p.table) []) s.0.place s.0.equation (get_or (plain_numbers p.table) n [])) (get_or a n []) (get_or b n []) (x.each n s.0 s.1) (y.each n s.0 s.1)

      next_values : (n : ℕ) (s : SignalTree) → IsSignal F n s → s.kind ≡ Register → HasValues s (get_or (plain_numbers p.behind) n [])
      next_values n s is kind = wide_values s (get_or p.behind n []) (get_or (plain_numbers p.behind) n []) (p.state_wide n s is kind) (get_or-map (map plain_number) p.behind n [])
