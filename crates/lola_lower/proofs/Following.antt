-- Along the order of equations all that is made has the numbers of the cycle, and pads show what they carry.
use Rattle.std.proofs.Common.{◌≡◌, ◌≢◌, ◌⊎◌, ℕ, zero, suc, ◌+◌, ◌<◌, Bool, true, false, cond, not, ◌&&◌, List, [], ◌∷◌, ◌++◌, length, map, flat_map, get_or, set, Option, Some, None, inl, inr, refl, sym, ◌∙◌, ap, ap₂, subst, arith, append-nil}
use Rattle.std.specs.Prelude.{slice_get, bytes_eq, IfSome}
use Rattle.std.proofs.lemmas.Grind.{flat_map-append}
use Rattle.std.proofs.lemmas.List.{get_or-set_other}
use Rattle.std.proofs.lemmas.Slice.Eq.{bytes_eq-Decides}
use Rattle.lola_bits.specs.Lists.{IsIn}
use Rattle.lola_bits.proofs.Lists.{is_between}
use Rattle.lola_bits.proofs.Options.{some_same}
use Rattle.lola_net.specs.declared.node.Node.{Node}
use Rattle.lola_net.specs.Run.{Sources, node_values, pad_bit, picked}
use Rattle.lola_flat.specs.declared.design.SigKind.{SigKind}
use Rattle.lola_flat.specs.declared.design.SigKind.TheVariants.{Input, Pad, Wire, Register}
use Rattle.lola_flat.specs.Tree.{SignalTree, FlatTree}
use Rattle.lola_flat.specs.Value.{env}
use Rattle.lola_flat.specs.Signals.{IsSignal, IsClock}
use Rattle.lola_flat.specs.Formed.{IsKind, HasClock, IsFormed}
use Rattle.lola_flat.specs.Cycle.{AreGiven, AreOutside, IsCycle}
use Rattle.lola_flat.proofs.OneCycle.{given_value}
use Rattle.lola_eval.proofs.NextMeans.{its_kind}
use Rattle.lola_eval.proofs.Placed.{same_number, two_kinds}
use Rattle.lola_lower.specs.Sources.{is_clock_path, is_input, is_register, is_pad, has_input, has_latch, input_nodes, latch_nodes, all_inputs, source_nodes, elements_at, given_row, given_from, given_literals}
use Rattle.lola_lower.specs.Cycles.{bits_down, element_bits, bits_of, bits_in, bits_at_number, input_bits, register_bits, outside_bits}
use Rattle.lola_lower.specs.Ready.{IsReady}
use Rattle.lola_lower.proofs.Along.{Made}
use Rattle.lola_lower.proofs.Given.{input_is}
use Rattle.lola_lower.proofs.PadGrown.{wire_grows}
use Rattle.lola_lower.proofs.PadShown.{pad_shown, pad_picked}
use Rattle.lola_lower.proofs.Picked.{no_pads, grown_pads}
use Rattle.lola_lower.proofs.NodeNames.{source_kinds}
use Rattle.lola_lower.proofs.Rests.{given_values, start_rest, start_values, inputs_many}
use Rattle.lola_lower.proofs.Rows.{numbers_by, given_numbers}
use Rattle.lola_lower.proofs.Started.{sources}
use Rattle.lola_lower.proofs.Followed.{IsShown}
use Rattle.lola_lower.proofs.Wires.{wire_shown}

-- the clock is an input
pub clock_is_input : (F : FlatTree) → IsFormed F → (k : ℕ) (s : SignalTree) → IsSignal F k s → IsClock F s → s.kind ≡ Input
clock_is_input F formed k s is clock =
    let h : HasClock F clock.0 = subst (λ (o : Option (List ℕ)). IfSome o (HasClock F)) clock.1.0 formed.clock in
    let same : h.number ≡ k = same_number F.signals h.number k h.signal s formed.paths h.is is (h.path ∙ sym clock.1.1) in
    its_kind F k s Input is (subst (λ j. IsKind F j Input) same (h.signal, (h.is, h.kind)))

-- what is neither an input nor a register has nothing before it is made
given_none : (F : FlatTree) (i l : ℕ) (signals : List SignalTree) (k : ℕ) (s : SignalTree) → slice_get signals k ≡ Some s → has_input F s ≡ false → has_latch s ≡ false → get_or (given_from F i l signals) k [] ≡ []
given_none F i l [] k s is p q = absurd (let e : None ≡ Some s = is in cc)
given_none F i l (x ∷ signals) zero s is p q =
    subst (λ (y : SignalTree). given_row F i l y ≡ []) (sym (some_same x s is)) (ap₂ (λ t u. cond t (elements_at i s.width s.count) (cond u (elements_at l s.width s.count) [])) p q)
given_none F i l (x ∷ signals) (suc k) s is p q = given_none F (i + length (input_nodes F x)) (l + length (latch_nodes x)) signals k s is p q

module _ (F : FlatTree) (formed : IsFormed F) (given : List (List ℕ)) (outside : List ℕ) (given_fits : AreGiven F given) (outside_fits : AreOutside F outside) (N : List (List ℕ)) (cycle : IsCycle F given outside N) where
  -- what comes into the net
  abbrev pub incoming : Sources
  incoming = sources (register_bits F given) (input_bits F given) (outside_bits F outside)

  pub record IsFollowed (before left : List ℕ) (d : List Node) (table : List (List (List ℕ))) : Type 0 where
    pub shown : IsShown F formed outside N incoming before left d table
    pub clock : (k : ℕ) (s : SignalTree) → IsSignal F k s → IsClock F s → get_or table k [] ≡ []
    pub pads : picked pad_bit d (node_values incoming d) ≡ flat_map (bits_at_number (λ (t : SignalTree). is_pad t.kind) F N) before

  -- before the first signal
  first_number : (k : ℕ) (s : SignalTree) → IsSignal F k s → (s.kind ≡ Input) ⊎ (s.kind ≡ Register) → (has_input F s ≡ true) ⊎ (has_latch s ≡ true) →
      numbers_by (node_values incoming (source_nodes F)) (get_or (given_literals F) k []) ≡ get_or N k []
  first_number k s is kind has =
      ap₂ (λ (V : List Bool) n. numbers_by V (get_or (given_from F 1 n F.signals) k [])) (start_values F given given_fits (outside_bits F outside)) (ap suc (sym (inputs_many F given given_fits (outside_bits F outside))))
      ∙ given_numbers F (input_bits F given ++ register_bits F given) F.signals given [] (register_bits F given) (input_bits F given) [] refl (ap (λ (l : List Bool). input_bits F given ++ l) (sym (append-nil (register_bits F given)))) given_fits.long
      (given_values F given given_fits) k s is has
      ∙ sym (given_value F (env N outside) s.kind s.equation (get_or given k []) (get_or N k []) kind (cycle.each k s is))

  clock_test : (s : SignalTree) → IsClock F s → is_clock_path F.clock s.path ≡ true
  clock_test s clock = ap₂ is_clock_path clock.1.0 clock.1.1 ∙ (bytes_eq-Decides clock.0 clock.0).1 refl

  pub followed_first : IsFollowed [] F.order (source_nodes F) (given_literals F)
  followed_first = record {
    shown = record {
      each = λ k s is clock kind. elim kind [
        | inl i ↦ first_number k s is (inl i) (inl (input_is F s i clock))
        | inr more ↦ elim more [ inl r ↦ first_number k s is (inr r) (inr (ap is_register r)) | inr none ↦ absurd none ]
      ];
      rest = start_rest F given given_fits (outside_bits F outside);
    };
    clock = λ k s is clock.
        let kind = clock_is_input F formed k s is clock in
        given_none F 1 (suc (length (all_inputs F))) F.signals k s is (ap₂ (λ j t. is_input j && not t) kind (clock_test s clock)) (ap is_register kind);
    pads = no_pads (source_nodes F) (node_values incoming (source_nodes F)) (source_kinds F).pads;
  }

  -- and behind each
  module _ (before after : List ℕ) (n : ℕ) (split : F.order ≡ before ++ n ∷ after) (d : List Node) (table : List (List (List ℕ))) (ready : IsReady F before d table) (s : SignalTree) (is : IsSignal F n s) (made : List Node × List ℕ)
      (f : IsFollowed before (n ∷ after) d table) where
    clock_stays : (kind : SigKind) → s.kind ≡ kind → ◌≢◌ {A = SigKind} kind Input → (k : ℕ) (t : SignalTree) → IsSignal F k t → IsClock F t → get_or (set table n (made.1 ∷ [])) k [] ≡ []
    clock_stays kind its other k t there clock = get_or-set_other table n k (made.1 ∷ []) [] apart ∙ f.clock k t there clock
      where
        apart : k ≢ n
        apart e = other (two_kinds F n kind Input (s, (is, its)) (subst (λ j. IsKind F j Input) e (t, (there, clock_is_input F formed k t there clock))))

    one_more : (kind : SigKind) → s.kind ≡ kind → ◌≢◌ {A = SigKind} kind Input → IsShown F formed outside N incoming (before ++ n ∷ []) after made.0 (set table n (made.1 ∷ [])) →
        picked pad_bit made.0 (node_values incoming made.0) ≡ picked pad_bit d (node_values incoming d) ++ bits_at_number (λ (t : SignalTree). is_pad t.kind) F N n →
        IsFollowed (before ++ n ∷ []) after made.0 (set table n (made.1 ∷ []))
    one_more kind its other shown pads = record {
      shown = shown;
      clock = clock_stays kind its other;
      pads = pads ∙ ap₂ (λ (a b : List Bool). a ++ b) f.pads (sym (append-nil (bits_at_number (λ (t : SignalTree). is_pad t.kind) F N n))) ∙ sym (flat_map-append (bits_at_number (λ (t : SignalTree). is_pad t.kind) F N) before (n ∷ []));
    }

    pub followed_more : Made F formed before after n split d table ready s is made → IsFollowed (before ++ n ∷ []) after made.0 (set table n (made.1 ∷ []))
    followed_more (inl m) =
        one_more Wire m.0 (λ e. cc)
        (wire_shown F formed given outside N cycle incoming before after n split d table ready s is f.shown m.0 made m.1)
        (grown_pads incoming d made.0 (wire_grows F formed before after n split d table ready s is m.0 made m.1)
        ∙ sym (ap (λ (l : List Bool). picked pad_bit d (node_values incoming d) ++ l) none ∙ append-nil (picked pad_bit d (node_values incoming d))))
      where
        none : bits_at_number (λ (t : SignalTree). is_pad t.kind) F N n ≡ []
        none = ap (λ (o : Option SignalTree). bits_in (λ (t : SignalTree). is_pad t.kind) o (get_or N n [])) is ∙ ap (λ k. cond (is_pad k) (element_bits s.width (get_or N n [])) []) m.0
    followed_more (inr m) =
        one_more Pad m.0 (λ e. cc)
        (pad_shown F formed given outside outside_fits N cycle incoming before after n split d table ready s is f.shown m.0 made m.1)
        (pad_picked F formed given outside outside_fits N cycle incoming before after n split d table ready s is f.shown m.0 made m.1)
