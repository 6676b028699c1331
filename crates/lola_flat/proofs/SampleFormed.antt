-- The sample is well formed, so that some design is.
use Rattle.std.proofs.Common.{◌≡◌, ℕ, zero, suc, ◌≤◌, List, [], ◌∷◌, ◌++◌, map, inl, inr, refl, sym, ◌∙◌, ap, subst, arith}
use Rattle.std.specs.Prelude.{slice_get, IfSome}
use Rattle.std.specs.List.{AllByRecursion}
use Rattle.lola_bits.specs.declared.op.Op.TheVariants as op
use Rattle.lola_bits.specs.Lists.{IsIn, AreDistinct}
use Rattle.lola_bits.proofs.Places.{same_items}
use Rattle.lola_bits.proofs.Options.{some_same, nothing}
use Rattle.lola_alg.specs.Means.{IsWidth}
use Rattle.lola_flat.specs.declared.design.SigKind.TheVariants.{Input, Pad, Wire, Register}
use Rattle.lola_flat.specs.Tree.{ExprTree, signal, from_outside, element, apply, no_expr, one_expr, SignalTree}
use Rattle.lola_flat.specs.Value.{vector_of, outside_of, reads, IsVectorOf}
use Rattle.lola_flat.specs.Signals.{IsSignal, expressions, number_read}
use Rattle.lola_flat.specs.Formed.{IsKind, ReadFits, NotOutside, IsFormedSignal, IsReadyBehind, IsOrdered, IsFormed}
use Rattle.lola_flat.specs.Sample.{the_clock, the_input, the_pad, the_wire, the_register, the_array, sample}

-- the first byte of a path's first name
abbrev first_byte : List (List ℕ) → ℕ
first_byte [] = 0
first_byte ([] ∷ more) = 0
first_byte ((b ∷ bs) ∷ more) = b

-- a number that is none of others isn't among them
not_among : (n : ℕ) (ks : List ℕ) → AllByRecursion (λ k. n ≡ k → ⊥) ks → IsIn n ks → ⊥
not_among n [] all among = among
not_among n (k ∷ ks) all (inl e) = all.0 e
not_among n (k ∷ ks) all (inr more) = not_among n ks all.1 more

no_port : (n : ℕ) → 3 ≤ n → IsIn n (0 ∷ 1 ∷ 2 ∷ []) → ⊥
no_port n above among = not_among n (0 ∷ 1 ∷ 2 ∷ []) (λ e. omega arith, (λ e. omega arith, (λ e. omega arith, tt))) among

no_more : (before : List ℕ) (n : ℕ) (after : List ℕ) → [] ≡ before ++ n ∷ after → ⊥
no_more [] n after e = cc
no_more (b ∷ before) n after e = cc

one_path : (name : List ℕ) → name ∷ [] ≡ [] → ⊥
one_path name e = cc

bit_wide : IsWidth 1
bit_wide = (omega arith, omega arith)

bit_vector : IsVectorOf (1 ∷ [])
bit_vector = record { one = refl; wide = bit_wide }

clock_formed : IsFormedSignal sample 0 the_clock
clock_formed = record {
  named = one_path (99 ∷ []);
  inputs_are_ports = λ kind. inl refl;
  pads_are_ports = λ kind. absurd (let e : Input ≡ Pad = kind in cc);
  registers_are_no_ports = λ kind. absurd (let e : Input ≡ Register = kind in cc);
  registers_have_a_clock = λ kind. refl;
  equation = refl;
  count = refl;
  reads = λ e among. absurd among;
  outside = λ e among. absurd among;
  wide = bit_wide;
  equation_suits = tt;
  place_suits = tt;
}

input_formed : IsFormedSignal sample 1 the_input
input_formed = record {
  named = one_path (97 ∷ []);
  inputs_are_ports = λ kind. inr (inl refl);
  pads_are_ports = λ kind. absurd (let e : Input ≡ Pad = kind in cc);
  registers_are_no_ports = λ kind. absurd (let e : Input ≡ Register = kind in cc);
  registers_have_a_clock = λ kind. refl;
  equation = refl;
  count = refl;
  reads = λ e among. absurd among;
  outside = λ e among. absurd among;
  wide = bit_wide;
  equation_suits = tt;
  place_suits = tt;
}

-- what reads one of the signals
reads_input : ReadFits sample (vector_of 1)
reads_input = (the_input, (refl, refl))

reads_register : ReadFits sample (vector_of 4)
reads_register = (the_register, (refl, refl))

reads_pad : ReadFits sample (outside_of 2)
reads_pad = (the_pad, (refl, refl))

-- the only expression
one_of : (e f : ExprTree) (P : ExprTree → Type 0) → P f → IsIn e (f ∷ []) → P e
one_of e f P here (inl same) = subst P (sym same) here
one_of e f P here (inr none) = absurd none

two_of : (e f g : ExprTree) (P : ExprTree → Type 0) → P f → P g → IsIn e (f ∷ g ∷ []) → P e
two_of e f g P one two (inl same) = subst P (sym same) one
two_of e f g P one two (inr more) = one_of e g P two more

pad_formed : IsFormedSignal sample 2 the_pad
pad_formed = record {
  named = one_path (112 ∷ []);
  inputs_are_ports = λ kind. absurd (let e : Pad ≡ Input = kind in cc);
  pads_are_ports = λ kind. inr (inr (inl refl));
  registers_are_no_ports = λ kind. absurd (let e : Pad ≡ Register = kind in cc);
  registers_have_a_clock = λ kind. refl;
  equation = refl;
  count = refl;
  reads = λ e among. one_of e (apply op.Mux (one_expr (signal 1) (one_expr (from_outside 2) (one_expr (signal 4) no_expr)))) (λ f. AllByRecursion (ReadFits sample) (reads f))
      (reads_input, (reads_pad, (reads_register, tt))) among;
  outside = record { release = signal 1; value = signal 4; is = refl; release_inside = (tt, tt); value_inside = (tt, tt) };
  wide = bit_wide;
  equation_suits = record { fits = ((refl, (bit_wide, refl)), ((omega arith, bit_vector), ((omega arith, bit_wide), ((omega arith, bit_vector), tt)))); width = refl };
  place_suits = tt;
}

wire_formed : IsFormedSignal sample 3 the_wire
wire_formed = record {
  named = one_path (119 ∷ []);
  inputs_are_ports = λ kind. absurd (let e : Wire ≡ Input = kind in cc);
  pads_are_ports = λ kind. absurd (let e : Wire ≡ Pad = kind in cc);
  registers_are_no_ports = λ kind. absurd (let e : Wire ≡ Register = kind in cc);
  registers_have_a_clock = λ kind. refl;
  equation = refl;
  count = refl;
  reads = λ e among. one_of e (signal 2) (λ f. AllByRecursion (ReadFits sample) (reads f)) ((the_pad, (refl, refl)), tt) among;
  outside = λ e among. one_of e (signal 2) (λ f. AllByRecursion NotOutside (reads f)) (tt, tt) among;
  wide = bit_wide;
  equation_suits = record { fits = (omega arith, bit_vector); width = refl };
  place_suits = tt;
}

register_formed : IsFormedSignal sample 4 the_register
register_formed = record {
  named = one_path (114 ∷ []);
  inputs_are_ports = λ kind. absurd (let e : Register ≡ Input = kind in cc);
  pads_are_ports = λ kind. absurd (let e : Register ≡ Pad = kind in cc);
  registers_are_no_ports = λ kind among. no_port 4 (omega arith) among;
  registers_have_a_clock = λ kind. refl;
  equation = refl;
  count = refl;
  reads = λ e among. one_of e (element 5 (signal 3)) (λ f. AllByRecursion (ReadFits sample) (reads f)) ((the_array, (refl, refl)), ((the_wire, (refl, refl)), tt)) among;
  outside = λ e among. one_of e (element 5 (signal 3)) (λ f. AllByRecursion NotOutside (reads f)) (tt, (tt, tt)) among;
  wide = bit_wide;
  equation_suits = record { fits = (omega arith, (record { wide = bit_wide; places = (omega arith, omega arith); count = refl; each = (refl, (refl, tt)) }, (omega arith, bit_vector))); width = refl };
  place_suits = tt;
}

array_formed : IsFormedSignal sample 5 the_array
array_formed = record {
  named = one_path (82 ∷ []);
  inputs_are_ports = λ kind. absurd (let e : Register ≡ Input = kind in cc);
  pads_are_ports = λ kind. absurd (let e : Register ≡ Pad = kind in cc);
  registers_are_no_ports = λ kind among. no_port 5 (omega arith) among;
  registers_have_a_clock = λ kind. refl;
  equation = refl;
  count = (refl, (1, (omega arith, (omega arith, refl))));
  reads = λ e among. two_of e (signal 1) (signal 3) (λ f. AllByRecursion (ReadFits sample) (reads f)) (reads_input, tt) ((the_wire, (refl, refl)), tt) among;
  outside = λ e among. two_of e (signal 1) (signal 3) (λ f. AllByRecursion NotOutside (reads f)) (tt, tt) (tt, tt) among;
  wide = bit_wide;
  equation_suits = record { fits = (omega arith, bit_vector); width = refl };
  place_suits = record { fits = (omega arith, bit_vector); places = (omega arith, omega arith); count = refl };
}

-- each signal of the sample
each_formed : (n : ℕ) (s : SignalTree) → IsSignal sample n s → IsFormedSignal sample n s
each_formed zero s is = subst (IsFormedSignal sample 0) (some_same the_clock s is) clock_formed
each_formed (suc zero) s is = subst (IsFormedSignal sample 1) (some_same the_input s is) input_formed
each_formed (suc (suc zero)) s is = subst (IsFormedSignal sample 2) (some_same the_pad s is) pad_formed
each_formed (suc (suc (suc zero))) s is = subst (IsFormedSignal sample 3) (some_same the_wire s is) wire_formed
each_formed (suc (suc (suc (suc zero)))) s is = subst (IsFormedSignal sample 4) (some_same the_register s is) register_formed
each_formed (suc (suc (suc (suc (suc zero))))) s is = subst (IsFormedSignal sample 5) (some_same the_array s is) array_formed
each_formed (suc (suc (suc (suc (suc (suc n)))))) s is = nothing s is

-- nothing reads the clock
unread : (n : ℕ) (s : SignalTree) → IsSignal sample n s → (e : ExprTree) → IsIn e (expressions s) → IsIn 0 (map number_read (reads e)) → ⊥
unread zero s is e among read = absurd (subst (λ t. IsIn e (expressions t)) (sym (some_same the_clock s is)) among)
unread (suc zero) s is e among read = absurd (subst (λ t. IsIn e (expressions t)) (sym (some_same the_input s is)) among)
unread (suc (suc zero)) s is e among read =
    one_of e (apply op.Mux (one_expr (signal 1) (one_expr (from_outside 2) (one_expr (signal 4) no_expr)))) (λ f. IsIn 0 (map number_read (reads f)) → ⊥)
    (λ r. not_among 0 (1 ∷ 2 ∷ 4 ∷ []) (λ e. omega arith, (λ e. omega arith, (λ e. omega arith, tt))) r) (subst (λ t. IsIn e (expressions t)) (sym (some_same the_pad s is)) among) read
unread (suc (suc (suc zero))) s is e among read =
    one_of e (signal 2) (λ f. IsIn 0 (map number_read (reads f)) → ⊥) (λ r. not_among 0 (2 ∷ []) (λ e. omega arith, tt) r) (subst (λ t. IsIn e (expressions t)) (sym (some_same the_wire s is)) among) read
unread (suc (suc (suc (suc zero)))) s is e among read =
    one_of e (element 5 (signal 3)) (λ f. IsIn 0 (map number_read (reads f)) → ⊥) (λ r. not_among 0 (5 ∷ 3 ∷ []) (λ e. omega arith, (λ e. omega arith, tt)) r) (subst (λ t. IsIn e (expressions t)) (sym (some_same the_register s is)) among) read
unread (suc (suc (suc (suc (suc zero))))) s is e among read =
    two_of e (signal 1) (signal 3) (λ f. IsIn 0 (map number_read (reads f)) → ⊥) (λ r. not_among 0 (1 ∷ []) (λ e. omega arith, tt) r) (λ r. not_among 0 (3 ∷ []) (λ e. omega arith, tt) r)
    (subst (λ t. IsIn e (expressions t)) (sym (some_same the_array s is)) among) read
unread (suc (suc (suc (suc (suc (suc n)))))) s is e among read = nothing s is

-- the order is the pad and then the wire
ordered : IsOrdered sample
ordered = record {
  once = (λ among. not_among 2 (3 ∷ []) (λ e. omega arith, tt) among, ((λ among. among), tt));
  only = λ n among. elim among [ inl e ↦ inr (subst (λ k. IsKind sample k Pad) (sym e) (the_pad, (refl, refl))) | inr more ↦ elim more [ inl e ↦ inl (subst (λ k. IsKind sample k Wire) (sym e) (the_wire, (refl, refl))) | inr none ↦ absurd none ] ];
  wires = the_wires;
  pads = the_pads;
  uses = the_uses;
}
  where
    the_wires : (n : ℕ) → IsKind sample n Wire → IsIn n (2 ∷ 3 ∷ [])
    the_wires zero k = absurd (let e : Input ≡ Wire = ap (λ (s : SignalTree). s.kind) (some_same the_clock k.0 k.1.0) ∙ k.1.1 in cc)
    the_wires (suc zero) k = absurd (let e : Input ≡ Wire = ap (λ (s : SignalTree). s.kind) (some_same the_input k.0 k.1.0) ∙ k.1.1 in cc)
    the_wires (suc (suc zero)) k = inl refl
    the_wires (suc (suc (suc zero))) k = inr (inl refl)
    the_wires (suc (suc (suc (suc zero)))) k = absurd (let e : Register ≡ Wire = ap (λ (s : SignalTree). s.kind) (some_same the_register k.0 k.1.0) ∙ k.1.1 in cc)
    the_wires (suc (suc (suc (suc (suc zero))))) k = absurd (let e : Register ≡ Wire = ap (λ (s : SignalTree). s.kind) (some_same the_array k.0 k.1.0) ∙ k.1.1 in cc)
    the_wires (suc (suc (suc (suc (suc (suc n)))))) k = nothing k.0 k.1.0

    the_pads : (n : ℕ) → IsKind sample n Pad → IsIn n (2 ∷ 3 ∷ [])
    the_pads zero k = absurd (let e : Input ≡ Pad = ap (λ (s : SignalTree). s.kind) (some_same the_clock k.0 k.1.0) ∙ k.1.1 in cc)
    the_pads (suc zero) k = absurd (let e : Input ≡ Pad = ap (λ (s : SignalTree). s.kind) (some_same the_input k.0 k.1.0) ∙ k.1.1 in cc)
    the_pads (suc (suc zero)) k = inl refl
    the_pads (suc (suc (suc zero))) k = inr (inl refl)
    the_pads (suc (suc (suc (suc zero)))) k = absurd (let e : Register ≡ Pad = ap (λ (s : SignalTree). s.kind) (some_same the_register k.0 k.1.0) ∙ k.1.1 in cc)
    the_pads (suc (suc (suc (suc (suc zero))))) k = absurd (let e : Register ≡ Pad = ap (λ (s : SignalTree). s.kind) (some_same the_array k.0 k.1.0) ∙ k.1.1 in cc)
    the_pads (suc (suc (suc (suc (suc (suc n)))))) k = nothing k.0 k.1.0

    the_pad_reads : IfSome the_pad.equation (λ e. AllByRecursion (IsReadyBehind sample []) (reads e))
    the_pad_reads = (inl (the_input, (refl, refl)), (tt, (inr (inl (the_register, (refl, refl))), tt)))

    the_wire_reads : IfSome the_wire.equation (λ e. AllByRecursion (IsReadyBehind sample (2 ∷ [])) (reads e))
    the_wire_reads = (inr (inr (inl refl)), tt)

    the_uses : (before after : List ℕ) (n : ℕ) (s : SignalTree) → 2 ∷ 3 ∷ [] ≡ before ++ n ∷ after → IsSignal sample n s → IfSome s.equation (λ e. AllByRecursion (IsReadyBehind sample before) (reads e))
    the_uses [] after n s split is =
        let here : 2 ≡ n = (same_items 2 n (3 ∷ []) after split).0 in
        subst (λ (t : SignalTree). IfSome t.equation (λ e. AllByRecursion (IsReadyBehind sample []) (reads e))) (some_same the_pad s (ap (slice_get sample.signals) here ∙ is)) the_pad_reads
    the_uses (b ∷ []) after n s split is =
        let first = same_items 2 b (3 ∷ []) (n ∷ after) split in
        let here : 3 ≡ n = (same_items 3 n [] after first.1).0 in
        subst (λ (k : ℕ). IfSome s.equation (λ e. AllByRecursion (IsReadyBehind sample (k ∷ [])) (reads e))) first.0
        (subst (λ (t : SignalTree). IfSome t.equation (λ e. AllByRecursion (IsReadyBehind sample (2 ∷ [])) (reads e))) (some_same the_wire s (ap (slice_get sample.signals) here ∙ is)) the_wire_reads)
    the_uses (b ∷ c ∷ before) after n s split is =
        let first = same_items 2 b (3 ∷ []) (c ∷ (before ++ n ∷ after)) split in
        let second = same_items 3 c [] (before ++ n ∷ after) first.1 in
        absurd (no_more before n after second.1)

pub sample_formed : IsFormed sample
sample_formed = record {
  ports = refl;
  ports_are_signals = omega arith;
  paths = the_paths;
  clock = record { number = 0; signal = the_clock; is = refl; port = inl refl; kind = refl; width = refl; path = refl; unused = unread };
  signals = each_formed;
  order = ordered;
  few = omega arith;
}
  where
    by_byte : (x : List (List ℕ)) (ys : List (List (List ℕ))) → AllByRecursion (λ y. first_byte x ≡ first_byte y → ⊥) ys → IsIn x ys → ⊥
    by_byte x [] all among = among
    by_byte x (y ∷ ys) all (inl e) = all.0 (ap first_byte e)
    by_byte x (y ∷ ys) all (inr more) = by_byte x ys all.1 more

    the_paths : AreDistinct (map (λ (s : SignalTree). s.path) sample.signals)
    the_paths = (
      by_byte the_clock.path (the_input.path ∷ the_pad.path ∷ the_wire.path ∷ the_register.path ∷ the_array.path ∷ []) (λ e. omega arith, (λ e. omega arith, (λ e. omega arith, (λ e. omega arith, (λ e. omega arith, tt))))),
      (
        by_byte the_input.path (the_pad.path ∷ the_wire.path ∷ the_register.path ∷ the_array.path ∷ []) (λ e. omega arith, (λ e. omega arith, (λ e. omega arith, (λ e. omega arith, tt)))),
        (
          by_byte the_pad.path (the_wire.path ∷ the_register.path ∷ the_array.path ∷ []) (λ e. omega arith, (λ e. omega arith, (λ e. omega arith, tt))),
          (
            by_byte the_wire.path (the_register.path ∷ the_array.path ∷ []) (λ e. omega arith, (λ e. omega arith, tt)),
            (
              by_byte the_register.path (the_array.path ∷ []) (λ e. omega arith, tt),
              ((λ among. among), tt),
            ),
          ),
        ),
      ),
    )
