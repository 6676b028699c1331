-- The signals in order: what is ready suits the next signal, and what it makes is ready for those behind it.
use Rattle.std.proofs.Common.{◌≡◌, ◌≢◌, ◌⊎◌, ℕ, zero, suc, ◌+◌, ◌<◌, ◌≤◌, Bool, true, false, cond, ◌&&◌, List, [], ◌∷◌, ◌++◌, length, map, replicate, get_or, set, Option, Some, None, inl, inr, refl, sym, ◌∙◌, ap, subst, arith, append_assoc, append-nil}
use Rattle.std.specs.Prelude.{slice_get, nat_lt, nat_eq, ◌/◌, ◌*◌, IfSome}
use Rattle.std.specs.List.{AllByRecursion}
use Rattle.std.proofs.lemmas.Bool.{and_from, lt-ltb, eqb-true, cases_Bool, and_parts, ltb-true}
use Rattle.std.proofs.lemmas.List.{get_or-set_same, get_or-set_other, length-set}
use Rattle.std.proofs.lemmas.Option.{slice_get_within}
use Rattle.lola_bits.specs.Lists.{IsIn, AreDistinct}
use Rattle.lola_bits.proofs.All.{all_of, of_all, all_set, all_weaker, at_any_place}
use Rattle.lola_bits.proofs.Lists.{but_last, is_between, in_front, in_back, to_map, apart}
use Rattle.lola_bits.proofs.Places.{length_more}
use Rattle.lola_bits.proofs.Options.{some_same}
use Rattle.lola_bits.specs.declared.op.Op.TheVariants as op
use Rattle.lola_alg.specs.Algebra.{Stays}
use Rattle.lola_alg.specs.Steps.{into}
use Rattle.lola_alg.specs.Means.{AreKnown, IsWidth}
use Rattle.lola_alg.proofs.BitMeans.{into_made, stays_same}
use Rattle.lola_alg.proofs.Loops.{stays_then, stay_known}
use Rattle.lola_net.specs.declared.node.Node.{Node}
use Rattle.lola_net.specs.declared.node.Node.TheVariants.{Pad as PadNode}
use Rattle.lola_net.specs.Equations.{is_ordered, uses_smaller}
use Rattle.lola_gate.specs.Gates.{gates_calls, gates_meaning, knows_literal}
use Rattle.lola_gate.specs.Law.{gates_law, one_stays, known_from, known_within, known_node}
use Rattle.lola_gate.specs.Values.{ordered_end}
use Rattle.lola_flat.specs.declared.design.SigKind.{SigKind}
use Rattle.lola_flat.specs.declared.design.SigKind.TheVariants.{Input, Pad, Wire, Register}
use Rattle.lola_flat.specs.Tree.{ExprTree, from_outside, apply, ExprTrees, no_expr, one_expr, SignalTree, FlatTree}
use Rattle.lola_flat.specs.Value.{Env, env, mapped, elements, width, Fits, Read, vector_of, array_of, outside_of, reads, all_reads}
use Rattle.lola_flat.specs.Signals.{IsSignal, widths_of, expressions, number_read, HaveSame, IsClock}
use Rattle.lola_flat.specs.Formed.{IsKind, NotOutside, ReadFits, OutsideFits, CountFits, IsPadEquation, EquationSuits, IsReadyBehind, IsFormed}
use Rattle.lola_flat.proofs.SameReads.{width_same, fits_same}
use Rattle.lola_flat.proofs.OneCycle.{has_equation}
use Rattle.lola_eval.specs.Steps.{equation_step}
use Rattle.lola_eval.specs.Means.{IsWideAs, EnvKnown, MeansValue}
use Rattle.lola_eval.proofs.Means.{lower_means}
use Rattle.lola_eval.proofs.Kept.{elements_mapped, env_known}
use Rattle.lola_eval.proofs.NextMeans.{its_kind}
use Rattle.lola_eval.proofs.Placed.{two_kinds, its_equation, no_clock, wide_at, in_order}
use Rattle.lola_lower.specs.Names.{path_text, bit_name}
use Rattle.lola_lower.specs.Sources.{is_pad, bits_at}
use Rattle.lola_lower.specs.Steps.{value_of, release_of, pads_down, lowest, pad_step, signal_step}
use Rattle.lola_lower.specs.Ready.{Suits, KindSuits, SignalSuits, IsReady}
use Rattle.lola_lower.proofs.Constants.{knows_constant, constants, constants_law, still_none, low_known}

-- what a signal made: all that was known stays, the nodes are in order, and its bits are known and as many as it is wide
pub record IsMade (s : SignalTree) (before : List Node) (made : List Node × List ℕ) : Type 0 where
  pub stays : Stays gates_meaning before made.0
  pub ordered : is_ordered made.0 ≡ true
  pub known : AreKnown gates_meaning made.0 made.1
  pub long : length made.1 ≡ s.width

module _ (F : FlatTree) (formed : IsFormed F) (before after : List ℕ) (n : ℕ) (split : F.order ≡ before ++ n ∷ after) (d : List Node) (table : List (List (List ℕ))) (ready : IsReady F before d table) (s : SignalTree) (is : IsSignal F n s) where
  module _ (e : ExprTree) (equation : s.equation ≡ Some e) where
    uses : AllByRecursion (IsReadyBehind F before) (reads e)
    uses = subst (λ (o : Option ExprTree). IfSome o (λ f. AllByRecursion (IsReadyBehind F before) (reads f))) equation (formed.order.uses before after n s split is)

    pub suits : EquationSuits F s e
    suits = subst (λ (o : Option ExprTree). IfSome o (EquationSuits F s)) equation (formed.signals n s is).equation_suits

    among : IsIn e (expressions s)
    among = its_equation s e equation

    -- a read that isn't from outside has the widths of the design
    wide_there : (k : ℕ) (t : SignalTree) (r : Read) → number_read r ≡ k → IsSignal F k t → IsIn r (reads e) → (t.kind ≡ Input) ⊎ ((t.kind ≡ Register) ⊎ IsIn k before) →
        elements (widths_of F) k ≡ elements (mapped length (env table [])) k
    wide_there k t r number there read kind =
        wide_at F formed k t there
        ∙ sym (ready.wide k t there (no_clock F formed n s e is among k t there (subst (λ j. IsIn j (map number_read (reads e))) number (to_map number_read r (reads e) read))) kind)
        ∙ sym (elements_mapped length (env table []) k)

    pub wide_read : (r : Read) → IsIn r (reads e) → NotOutside r → HaveSame (widths_of F) (mapped length (env table [])) r
    wide_read (vector_of k) read inside =
        let fits = of_all (ReadFits F) (vector_of k) (reads e) ((formed.signals n s is).reads e among) read in
        wide_there k fits.0 (vector_of k) refl fits.1.0 read (by fits.0 fits.1.0 (of_all (IsReadyBehind F before) (vector_of k) (reads e) uses read))
      where
        by : (t : SignalTree) → IsSignal F k t → IsReadyBehind F before (vector_of k) → (t.kind ≡ Input) ⊎ ((t.kind ≡ Register) ⊎ IsIn k before)
        by t there (inl i) = inl (its_kind F k t Input there i)
        by t there (inr (inl i)) = inr (inl (its_kind F k t Register there i))
        by t there (inr (inr i)) = inr (inr i)
    wide_read (array_of k) read inside =
        let fits = of_all (ReadFits F) (array_of k) (reads e) ((formed.signals n s is).reads e among) read in
        wide_there k fits.0 (array_of k) refl fits.1.0 read (inr (inl (its_kind F k fits.0 Register fits.1.0 (of_all (IsReadyBehind F before) (array_of k) (reads e) uses read))))
    wide_read (outside_of k) read inside = absurd inside

    -- a signal that is read is there, and ready
    pub record IsThere (k : ℕ) : Type 0 where
      pub signal : SignalTree
      pub there : IsSignal F k signal
      pub no_clock_is : IsClock F signal → ⊥
      pub kind : (signal.kind ≡ Input) ⊎ ((signal.kind ≡ Register) ⊎ IsIn k before)

    pub vector_there : (k : ℕ) → IsIn (vector_of k) (reads e) → IsThere k
    vector_there k read =
        let fits = of_all (ReadFits F) (vector_of k) (reads e) ((formed.signals n s is).reads e among) read in record {
          signal = fits.0;
          there = fits.1.0;
          no_clock_is = no_clock F formed n s e is among k fits.0 fits.1.0 (to_map number_read (vector_of k) (reads e) read);
          kind = by fits.0 fits.1.0 (of_all (IsReadyBehind F before) (vector_of k) (reads e) uses read);
        }
      where
        by : (t : SignalTree) → IsSignal F k t → IsReadyBehind F before (vector_of k) → (t.kind ≡ Input) ⊎ ((t.kind ≡ Register) ⊎ IsIn k before)
        by t there (inl i) = inl (its_kind F k t Input there i)
        by t there (inr (inl i)) = inr (inl (its_kind F k t Register there i))
        by t there (inr (inr i)) = inr (inr i)

    pub array_there : (k : ℕ) → IsIn (array_of k) (reads e) → IsThere k
    array_there k read =
        let fits = of_all (ReadFits F) (array_of k) (reads e) ((formed.signals n s is).reads e among) read in record {
          signal = fits.0;
          there = fits.1.0;
          no_clock_is = no_clock F formed n s e is among k fits.0 fits.1.0 (to_map number_read (array_of k) (reads e) read);
          kind = inr (inl (its_kind F k fits.0 Register fits.1.0 (of_all (IsReadyBehind F before) (array_of k) (reads e) uses read)));
        }

    module _ (f : ExprTree) (part : (r : Read) → IsIn r (reads f) → IsIn r (reads e)) (inside : AllByRecursion NotOutside (reads f)) where
      pub same : AllByRecursion (HaveSame (widths_of F) (mapped length (env table []))) (reads f)
      same = all_of (HaveSame (widths_of F) (mapped length (env table []))) (reads f) (λ r read. wide_read r (part r read) (of_all NotOutside r (reads f) inside read))

      pub part_fits : Fits (widths_of F) f → Fits (mapped length (env table [])) f
      part_fits fits = fits_same (widths_of F) (mapped length (env table [])) f same fits

      pub part_width : width (mapped length (env table [])) f ≡ width (widths_of F) f
      part_width = sym (width_same (widths_of F) (mapped length (env table [])) f same)

      -- and its steps mean it
      pub part_means : Fits (widths_of F) f → (now : List Node) → Stays gates_meaning d now → (made : List Node × List ℕ) → equation_step gates_calls (env table []) (Some f) now ≡ Some made → MeansValue gates_meaning (env table []) f now made
      part_means fits now stays made step = lower_means gates_calls gates_meaning gates_law (env table []) f now made (part_fits fits) (env_known gates_meaning d now (env table []) stays ready.known) step

  -- a signal that is no pad
  pub plain_inside : s.kind ≡ Wire → (e : ExprTree) → s.equation ≡ Some e → AllByRecursion NotOutside (reads e)
  plain_inside kind e equation = (subst (λ k. OutsideFits n k s) kind (formed.signals n s is).outside) e (its_equation s e equation)

  -- a pad
  pub pad_equation : s.kind ≡ Pad → (e : ExprTree) → s.equation ≡ Some e → IsPadEquation n e
  pad_equation kind e equation = subst (λ (o : Option ExprTree). IfSome o (IsPadEquation n)) equation (subst (λ k. OutsideFits n k s) kind (formed.signals n s is).outside)

  pub record PadParts (value release : ExprTree) : Type 0 where
    pub value_is : value_of s.equation ≡ Some value
    pub release_is : release_of s.equation ≡ Some release
    pub value_fits : Fits (widths_of F) value
    pub release_fits : Fits (widths_of F) release
    pub value_width : width (widths_of F) value ≡ s.width
    pub release_width : width (widths_of F) release ≡ 1
    pub equation : ExprTree
    pub equation_is : s.equation ≡ Some equation
    pub equation_form : equation ≡ apply op.Mux (one_expr release (one_expr (from_outside n) (one_expr value no_expr)))
    pub value_part : (r : Read) → IsIn r (reads value) → IsIn r (reads equation)
    pub release_part : (r : Read) → IsIn r (reads release) → IsIn r (reads equation)
    pub value_inside : AllByRecursion NotOutside (reads value)
    pub release_inside : AllByRecursion NotOutside (reads release)

  pub pad_parts : s.kind ≡ Pad → (value : ExprTree) × (release : ExprTree) × PadParts value release
  pad_parts kind =
      let found = has_equation s.kind s.equation (inr kind) (formed.signals n s is).equation in
      let parts = pad_equation kind found.0 found.1 in
      let whole = suits found.0 found.1 in
      let fits : Fits (widths_of F) (apply op.Mux (one_expr parts.release (one_expr (from_outside n) (one_expr parts.value no_expr)))) = subst (Fits (widths_of F)) parts.is whole.fits in
      let wide : width (widths_of F) (apply op.Mux (one_expr parts.release (one_expr (from_outside n) (one_expr parts.value no_expr)))) ≡ s.width = ap (width (widths_of F)) (sym parts.is) ∙ whole.width in (
        parts.value,
        parts.release,
        record {
          value_is = ap value_of (found.1 ∙ ap Some parts.is);
          release_is = ap release_of (found.1 ∙ ap Some parts.is);
          value_fits = fits.1.1.1.0;
          release_fits = fits.1.0;
          value_width = fits.0.1.1 ∙ wide;
          release_width = fits.0.0;
          equation = found.0;
          equation_is = found.1;
          equation_form = parts.is;
          value_part = λ r read. subst (λ g. IsIn r (reads g)) (sym parts.is) (in_back r (reads parts.release) (outside_of n ∷ (reads parts.value ++ [])) (inr (subst (IsIn r) (sym (append-nil (reads parts.value))) read)));
          release_part = λ r read. subst (λ g. IsIn r (reads g)) (sym parts.is) (in_front r (reads parts.release) (outside_of n ∷ (reads parts.value ++ [])) read);
          value_inside = parts.value_inside;
          release_inside = parts.release_inside;
        },
      )

  -- what is made for the signal suits the table
  pub kind_of : (s.kind ≡ Wire) ⊎ (s.kind ≡ Pad)
  kind_of = elim (formed.order.only n (subst (IsIn n) (sym split) (is_between n before after))) [ inl w ↦ inl (its_kind F n s Wire is w) | inr p ↦ inr (its_kind F n s Pad is p) ]

  pub next_suits : SignalSuits (env table []) s
  next_suits = elim kind_of [ inl w ↦ subst (λ k. KindSuits k (env table []) s.equation) (sym w) (wire w) | inr p ↦ subst (λ k. KindSuits k (env table []) s.equation) (sym p) (pad p) ]
    where
      wire : s.kind ≡ Wire → Suits (env table []) s.equation
      wire w =
          let found = has_equation s.kind s.equation (inl w) (formed.signals n s is).equation in
          subst (Suits (env table [])) (sym found.1) (part_fits found.0 found.1 found.0 (λ r read. read) (plain_inside w found.0 found.1) (suits found.0 found.1).fits)

      pad : s.kind ≡ Pad → Suits (env table []) (value_of s.equation) × Suits (env table []) (release_of s.equation)
      pad p =
          let all = pad_parts p in
          let parts = all.2 in (
            subst (Suits (env table [])) (sym parts.value_is) (part_fits parts.equation parts.equation_is all.0 parts.value_part parts.value_inside parts.value_fits),
            subst (Suits (env table [])) (sym parts.release_is) (part_fits parts.equation parts.equation_is all.1 parts.release_part parts.release_inside parts.release_fits),
          )

-- pads behind nodes
pub pads_long : (text : List ℕ) (release bit : ℕ) (values : List ℕ) → length (pads_down text release bit values) ≡ length values
pads_long text release bit [] = refl
pads_long text release bit (value ∷ more) = length_more (pads_down text release (suc bit) more) (PadNode (bit_name text bit) value release) ∙ ap suc (pads_long text release (suc bit) more)

length_both : {X : Type 0} (xs ys : List X) → length (xs ++ ys) ≡ length xs + length ys
length_both [] ys = omega arith
length_both (x ∷ xs) ys = let h = length_both xs ys in omega arith

pub pads_count : (d : List Node) (text : List ℕ) (release : ℕ) (values : List ℕ) → length (d ++ pads_down text release 0 values) ≡ length d + length values
pads_count d text release values = length_both d (pads_down text release 0 values) ∙ ap (λ k. length d + k) (pads_long text release 0 values)

pub bits_long : (first width : ℕ) → length (bits_at first width) ≡ width
bits_long first zero = refl
bits_long first (suc more) = ap suc (bits_long first more)

module _ (d : List Node) (text : List ℕ) (release : ℕ) (order : is_ordered d ≡ true) (release_known : knows_literal d release ≡ true) where
  pads_made : (bit : ℕ) (values : List ℕ) → AreKnown gates_meaning d values → Stays gates_meaning d (d ++ pads_down text release bit values) × (is_ordered (d ++ pads_down text release bit values) ≡ true)
  pads_made bit [] known = subst (λ e. Stays gates_meaning d e × (is_ordered e ≡ true)) (sym (append-nil d)) (stays_same gates_meaning d, order)
  pads_made bit (value ∷ more) known =
      let above = pads_made (suc bit) more known.1 in
      let e : List Node = d ++ pads_down text release (suc bit) more in
      let node : Node = PadNode (bit_name text bit) value release in
      let small : uses_smaller (suc (length e)) node ≡ true = and_from (nat_lt (value / 2) (suc (length e))) (nat_lt (release / 2) (suc (length e)))
      (lt-ltb (value / 2) (suc (length e)) (known_within e value (above.0 value known.0).0)) (lt-ltb (release / 2) (suc (length e)) (known_within e release (above.0 release release_known).0)) in
      subst (λ f. Stays gates_meaning d f × (is_ordered f ≡ true)) (append_assoc d (pads_down text release (suc bit) more) (node ∷ []))
      (stays_then gates_meaning d e (e ++ node ∷ []) above.0 (one_stays e node (λ o. small)), ordered_end e node above.1 small)

-- the literals of nodes that are there are known
bits_known : (e : List Node) (first width : ℕ) → is_ordered e ≡ true → first + width ≤ suc (length e) → AreKnown gates_meaning e (bits_at first width)
bits_known e first zero order within = tt
bits_known e first (suc more) order within = (known_node e (2 * (first + more)) order (omega arith), bits_known e first more order (omega arith))

-- the pads of known literals
pub pads_are : (d : List Node) (text : List ℕ) (release : ℕ) (values : List ℕ) → is_ordered d ≡ true → knows_literal d release ≡ true → AreKnown gates_meaning d values →
    Stays gates_meaning d (d ++ pads_down text release 0 values) × ((is_ordered (d ++ pads_down text release 0 values) ≡ true) × AreKnown gates_meaning (d ++ pads_down text release 0 values) (bits_at (suc (length d)) (length values)))
pads_are d text release values order release_known known =
    let made = pads_made d text release order release_known 0 values known in
    let long : length (d ++ pads_down text release 0 values) ≡ length d + length values = length_both d (pads_down text release 0 values) ∙ ap (λ k. length d + k) (pads_long text release 0 values) in
    (made.0, (made.1, bits_known (d ++ pads_down text release 0 values) (suc (length d)) (length values) made.1 (omega arith)))

-- nodes that keep what was known keep their order, where there is one
pub stays_ordered : (d e : List Node) → 1 ≤ length d → is_ordered d ≡ true → Stays gates_meaning d e → is_ordered e ≡ true
stays_ordered d e some order stays = elim (known_from e 2 (stays 2 (known_node d 2 order (omega arith))).0) [ inl z ↦ absurd (let f : 1 ≡ 0 = z in omega arith) | inr p ↦ p.0 ]

-- without nodes, what is known is constant
constant_bit : (l : ℕ) → knows_literal [] l ≡ true → knows_constant [] l ≡ true
constant_bit l k = let h = known_within [] l k in low_known [] l (omega arith)

pub constant_all : (E : Env (List ℕ)) → EnvKnown gates_meaning [] E → EnvKnown constants [] E
constant_all E known = record {
  signals = all_weaker (AllByRecursion (AreKnown gates_meaning [])) (AllByRecursion (AreKnown constants [])) (λ vectors. all_weaker (AreKnown gates_meaning []) (AreKnown constants []) each vectors) E.signals known.signals;
  outside = all_weaker (AreKnown gates_meaning []) (AreKnown constants []) each E.outside known.outside;
}
  where
    each : (bits : List ℕ) → AreKnown gates_meaning [] bits → AreKnown constants [] bits
    each bits k = all_weaker (λ l. knows_literal [] l ≡ true) (λ l. knows_constant [] l ≡ true) constant_bit bits k

-- the steps of an expression keep the order of nodes
pub steps_ordered : (E : Env (List ℕ)) (f : ExprTree) (d : List Node) (made : List Node × List ℕ) → Fits (mapped length E) f → EnvKnown gates_meaning d E → is_ordered d ≡ true →
    equation_step gates_calls E (Some f) d ≡ Some made → is_ordered made.0 ≡ true
steps_ordered E f [] made fits known order step = ap is_ordered (still_none made.0 (lower_means gates_calls constants constants_law E f [] made fits (constant_all E known) step).stays)
steps_ordered E f (x ∷ d) made fits known order step = stays_ordered (x ∷ d) made.0 (omega arith) order (lower_means gates_calls gates_meaning gates_law E f (x ∷ d) made fits known step).stays

module _ (F : FlatTree) (formed : IsFormed F) (before after : List ℕ) (n : ℕ) (split : F.order ≡ before ++ n ∷ after) (d : List Node) (table : List (List (List ℕ))) (ready : IsReady F before d table) (s : SignalTree) (is : IsSignal F n s) where
  -- what a pad makes: its value, its release, and its pad nodes
  pub record PadMade (made : List Node × List ℕ) : Type 0 where
    pub value : ExprTree
    pub release : ExprTree
    pub parts : PadParts F formed before after n split d table ready s is value release
    pub first : List Node × List ℕ
    pub second : List Node × List ℕ
    pub value_step : equation_step gates_calls (env table []) (Some value) d ≡ Some first
    pub release_step : equation_step gates_calls (env table []) (Some release) first.0 ≡ Some second
    pub first_ordered : is_ordered first.0 ≡ true
    pub value_means : MeansValue gates_meaning (env table []) value d first
    pub release_means : MeansValue gates_meaning (env table []) release first.0 second
    pub ordered : is_ordered second.0 ≡ true
    pub all : made ≡ (second.0 ++ pads_down (path_text s.path) (lowest second.1) 0 first.1, bits_at (suc (length second.0)) (length first.1))

  pub pad_made : s.kind ≡ Pad → (made : List Node × List ℕ) → pad_step (env table []) s d ≡ Some made → PadMade made
  pad_made p made step =
      let all = pad_parts F formed before after n split d table ready s is p in
      let parts = all.2 in
      let i = into_made (equation_step gates_calls (env table []) (value_of s.equation) d) _ made step in
      let j = into_made (equation_step gates_calls (env table []) (release_of s.equation) i.0.0) _ made i.1.1 in
      let value_step : equation_step gates_calls (env table []) (Some all.0) d ≡ Some i.0 = subst (λ (o : Option ExprTree). equation_step gates_calls (env table []) o d ≡ Some i.0) parts.value_is i.1.0 in
      let release_step : equation_step gates_calls (env table []) (Some all.1) i.0.0 ≡ Some j.0 = subst (λ (o : Option ExprTree). equation_step gates_calls (env table []) o i.0.0 ≡ Some j.0) parts.release_is j.1.0 in
      let value_means = part_means F formed before after n split d table ready s is parts.equation parts.equation_is all.0 parts.value_part parts.value_inside parts.value_fits d (stays_same gates_meaning d) i.0 value_step in
      let release_means = part_means F formed before after n split d table ready s is parts.equation parts.equation_is all.1 parts.release_part parts.release_inside parts.release_fits i.0.0 value_means.stays j.0 release_step in
      let value_fits = part_fits F formed before after n split d table ready s is parts.equation parts.equation_is all.0 parts.value_part parts.value_inside parts.value_fits in
      let release_fits = part_fits F formed before after n split d table ready s is parts.equation parts.equation_is all.1 parts.release_part parts.release_inside parts.release_fits in
      let first_ordered = steps_ordered (env table []) all.0 d i.0 value_fits ready.known ready.ordered value_step in
      record {
        value = all.0;
        release = all.1;
        parts = parts;
        first = i.0;
        second = j.0;
        value_step = value_step;
        release_step = release_step;
        first_ordered = first_ordered;
        value_means = value_means;
        release_means = release_means;
        ordered = steps_ordered (env table []) all.1 i.0.0 j.0 release_fits (env_known gates_meaning d i.0.0 (env table []) value_means.stays ready.known) first_ordered release_step;
        all = sym (some_same _ made j.1.1);
      }

  pad_is_made : s.kind ≡ Pad → (made : List Node × List ℕ) → pad_step (env table []) s d ≡ Some made → IsMade s d made
  pad_is_made p made step =
      let q = pad_made p made step in
      let a = pads_are q.second.0 (path_text s.path) (lowest q.second.1) q.first.1 q.ordered (at_any_place (λ l. knows_literal q.second.0 l ≡ true) q.second.1 0 0 refl q.release_means.known) (stay_known gates_meaning q.first.0 q.second.0 q.first.1 q.release_means.stays q.value_means.known) in
      let wide : width (mapped length (env table [])) q.value ≡ width (widths_of F) q.value = part_width F formed before after n split d table ready s is q.parts.equation q.parts.equation_is q.value q.parts.value_part q.parts.value_inside in
      subst (IsMade s d) (sym q.all) (record {
        stays = stays_then gates_meaning d q.second.0 (q.second.0 ++ pads_down (path_text s.path) (lowest q.second.1) 0 q.first.1) (stays_then gates_meaning d q.first.0 q.second.0 q.value_means.stays q.release_means.stays) a.0;
        ordered = a.1.0;
        known = a.1.1;
        long = bits_long (suc (length q.second.0)) (length q.first.1) ∙ q.value_means.long ∙ wide ∙ q.parts.value_width;
      })

  pub wire_means : s.kind ≡ Wire → (e : ExprTree) → s.equation ≡ Some e → (made : List Node × List ℕ) → equation_step gates_calls (env table []) s.equation d ≡ Some made → MeansValue gates_meaning (env table []) e d made
  wire_means w e equation made step =
      part_means F formed before after n split d table ready s is e equation e (λ r read. read) (plain_inside F formed before after n split d table ready s is w e equation) (suits F formed before after n split d table ready s is e equation).fits d (stays_same gates_meaning d) made
      (subst (λ (o : Option ExprTree). equation_step gates_calls (env table []) o d ≡ Some made) equation step)

  wire_is_made : s.kind ≡ Wire → (made : List Node × List ℕ) → equation_step gates_calls (env table []) s.equation d ≡ Some made → IsMade s d made
  wire_is_made w made step =
      let found = has_equation s.kind s.equation (inl w) (formed.signals n s is).equation in
      let inside = plain_inside F formed before after n split d table ready s is w found.0 found.1 in
      let whole = suits F formed before after n split d table ready s is found.0 found.1 in
      let means = wire_means w found.0 found.1 made step in
      record {
        stays = means.stays;
        ordered = steps_ordered (env table []) found.0 d made (part_fits F formed before after n split d table ready s is found.0 found.1 found.0 (λ r read. read) inside whole.fits) ready.known ready.ordered
            (subst (λ (o : Option ExprTree). equation_step gates_calls (env table []) o d ≡ Some made) found.1 step);
        known = means.known;
        long = means.long ∙ part_width F formed before after n split d table ready s is found.0 found.1 found.0 (λ r read. read) inside ∙ whole.width;
      }

  -- which of both a signal makes
  pub wire_step : s.kind ≡ Wire → signal_step (env table []) s d ≡ equation_step gates_calls (env table []) s.equation d
  wire_step w = ap (λ k. cond (is_pad k) (pad_step (env table []) s d) (equation_step gates_calls (env table []) s.equation d)) w

  pub its_pad_step : s.kind ≡ Pad → signal_step (env table []) s d ≡ pad_step (env table []) s d
  its_pad_step p = ap (λ k. cond (is_pad k) (pad_step (env table []) s d) (equation_step gates_calls (env table []) s.equation d)) p

  pub is_made : (made : List Node × List ℕ) → signal_step (env table []) s d ≡ Some made → IsMade s d made
  is_made made step = elim (kind_of F formed before after n split d table ready s is) [ inl w ↦ wire_is_made w made (sym (wire_step w) ∙ step) | inr p ↦ pad_is_made p made (sym (its_pad_step p) ∙ step) ]

  -- which is ready for those behind it
  pub ready_more : (made : List Node × List ℕ) → IsMade s d made → IsReady F (before ++ n ∷ []) made.0 (set table n (made.1 ∷ []))
  ready_more made m = record {
    ordered = m.ordered;
    long = length-set table n (made.1 ∷ []) ∙ ready.long;
    known = record {
      signals = all_set (AllByRecursion (AreKnown gates_meaning made.0)) table n (made.1 ∷ []) (m.known, tt) (env_known gates_meaning d made.0 (env table []) m.stays ready.known).signals;
      outside = tt;
    };
    wide = λ k t there clock kind. elim kind [
      | inl input ↦ old k t there clock (inl input) (given k t there (inl input))
      | inr rest ↦ elim rest [
        | inl register ↦ old k t there clock (inr (inl register)) (given k t there (inr register))
        | inr among ↦ elim (but_last k n before among) [ inl here ↦ new k t there here | inr earlier ↦ old k t there clock (inr (inr earlier)) (λ e. once (subst (λ j. IsIn j before) e earlier)) ]
      ]
    ];
  }
    where
      once : IsIn n before → ⊥
      once earlier = apart n before (n ∷ after) (subst AreDistinct split formed.order.once) earlier (inl refl)

      here_is : IsIn n F.order
      here_is = subst (IsIn n) (sym split) (is_between n before after)

      given : (k : ℕ) (t : SignalTree) → IsSignal F k t → (t.kind ≡ Input) ⊎ (t.kind ≡ Register) → k ≢ n
      given k t there (inl kind) e = elim (formed.order.only n here_is) [ inl w ↦ (let f = two_kinds F n Input Wire (subst (λ j. IsKind F j Input) e (t, (there, kind))) w in cc) | inr w ↦ (let f = two_kinds F n Input Pad (subst (λ j. IsKind F j Input) e (t, (there, kind))) w in cc) ]
      given k t there (inr kind) e = elim (formed.order.only n here_is) [ inl w ↦ (let f = two_kinds F n Register Wire (subst (λ j. IsKind F j Register) e (t, (there, kind))) w in cc) | inr w ↦ (let f = two_kinds F n Register Pad (subst (λ j. IsKind F j Register) e (t, (there, kind))) w in cc) ]

      old : (k : ℕ) (t : SignalTree) → IsSignal F k t → (IsClock F t → ⊥) → (t.kind ≡ Input) ⊎ ((t.kind ≡ Register) ⊎ IsIn k before) → k ≢ n → IsWideAs t (get_or (set table n (made.1 ∷ [])) k [])
      old k t there clock kind other = subst (IsWideAs t) (sym (get_or-set_other table n k (made.1 ∷ []) [] other)) (ready.wide k t there clock kind)

      one : s.count ≡ 1
      one = by s.place (formed.signals n s is).count (kind_of F formed before after n split d table ready s is)
        where
          by : (place : Option ExprTree) → CountFits s.kind place s.count → (s.kind ≡ Wire) ⊎ (s.kind ≡ Pad) → s.count ≡ 1
          by None fits kind = fits
          by (Some p) fits (inl w) = absurd (let e : Wire ≡ Register = sym w ∙ fits.0 in cc)
          by (Some p) fits (inr w) = absurd (let e : Pad ≡ Register = sym w ∙ fits.0 in cc)

      new : (k : ℕ) (t : SignalTree) → IsSignal F k t → k ≡ n → IsWideAs t (get_or (set table n (made.1 ∷ [])) k [])
      new k t there e =
          let same : s ≡ t = some_same s t (sym is ∙ ap (λ j. slice_get F.signals j) (sym e) ∙ there) in
          subst (λ j. IsWideAs t (get_or (set table n (made.1 ∷ [])) j [])) (sym e)
          (subst (λ u. IsWideAs u (get_or (set table n (made.1 ∷ [])) n [])) same
          (ap (map length) (get_or-set_same table n (made.1 ∷ []) [] (subst (λ k. n < k) (sym ready.long) (slice_get_within F.signals n s is)))
          ∙ ap (λ w. w ∷ []) m.long ∙ sym (ap (λ c. replicate c s.width) one)))
