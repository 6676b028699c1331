-- A pad carries what comes from outside where its release is 1, and else its value.
use Rattle.std.proofs.Common.{◌≡◌, ◌≢◌, ◌⊎◌, ℕ, zero, suc, ◌+◌, ◌<◌, ◌≤◌, ◌^◌, Bool, true, false, cond, List, [], ◌∷◌, ◌++◌, length, map, flat_map, get_or, set, Option, Some, None, inl, inr, refl, sym, ◌∙◌, ap, ap₂, subst, arith, append_assoc, append-nil}
use Rattle.std.specs.Prelude.{slice_get, reverse, nat_eq, ◌/◌, ◌*◌}
use Rattle.std.specs.List.{AllByRecursion}
use Rattle.std.proofs.lemmas.List.{length-reverse, reverse-reverse, length-map}
use Rattle.lola_bits.specs.BitLists.{number_of}
use Rattle.lola_bits.specs.Number.{number}
use Rattle.lola_bits.specs.declared.op.Op.TheVariants as op
use Rattle.lola_bits.proofs.All.{at_any_place}
use Rattle.lola_alg.proofs.BitMeans.{stays_same}
use Rattle.lola_alg.proofs.Loops.{stay_known}
use Rattle.lola_net.specs.declared.node.Node.{Node}
use Rattle.lola_net.specs.Literals.{at_literal}
use Rattle.lola_net.specs.Run.{Sources, values_after, node_values, pad_bit, picked}
use Rattle.lola_gate.specs.Gates.{gates_meaning, knows_literal}
use Rattle.lola_gate.specs.Law.{known_within}
use Rattle.lola_flat.specs.declared.design.SigKind.TheVariants.{Pad}
use Rattle.lola_flat.specs.Tree.{ExprTree, from_outside, apply, no_expr, one_expr, SignalTree, FlatTree}
use Rattle.lola_flat.specs.Value.{env, width, value}
use Rattle.lola_flat.specs.Signals.{IsSignal, widths_of}
use Rattle.lola_flat.specs.Formed.{IsFormed}
use Rattle.lola_flat.specs.Cycle.{AreOutside, IsCycle}
use Rattle.lola_flat.proofs.OneCycle.{driven_value}
use Rattle.lola_lower.specs.Names.{path_text}
use Rattle.lola_lower.specs.Sources.{is_pad, bits_at}
use Rattle.lola_lower.specs.Steps.{pads_down, lowest}
use Rattle.lola_lower.specs.Cycles.{bits_down, element_bits, bits_in, bits_at_number, outside_in}
use Rattle.lola_lower.specs.Ready.{IsReady}
use Rattle.lola_lower.proofs.Bits.{reverse_down, down_long, number_down, literals_are}
use Rattle.lola_lower.proofs.Carried.{carried, pads_take}
use Rattle.lola_lower.proofs.Grown.{Grown}
use Rattle.lola_lower.proofs.Started.{sources, rest_after, after_both, rest_both}
use Rattle.lola_lower.proofs.Rests.{pads_only, pads_rest}
use Rattle.lola_lower.proofs.Picked.{picked_both, all_pads, grown_pads}
use Rattle.lola_lower.proofs.Rows.{number_by}
use Rattle.lola_lower.proofs.Shown.{grown_rest, values_long, known_inside, number_stays}
use Rattle.lola_lower.proofs.Steps.{PadMade, pads_long}
use Rattle.lola_lower.proofs.PadGrown.{value_grows, release_grows, pad_grows, pad_long, release_long}
use Rattle.lola_lower.proofs.Followed.{left, IsShown, part_value, shown_more}

-- a vector of one bit has the number of its lowest
one_bit : (V : List Bool) (bits : List ℕ) → length bits ≡ 1 → nat_eq (number_by V bits) 1 ≡ at_literal V (lowest bits)
one_bit V [] long = absurd (omega arith)
one_bit V (b ∷ []) long = by (at_literal V b)
  where
    by : (t : Bool) → nat_eq (number t + 2 * 0) 1 ≡ t
    by true = refl
    by false = refl
one_bit V (b ∷ c ∷ more) long = absurd (omega arith)

chosen : (t : Bool) (os xs : List Bool) → number_of (cond t os xs) ≡ cond t (number_of os) (number_of xs)
chosen true os xs = refl
chosen false os xs = refl

chosen_long : (t : Bool) (os xs : List Bool) (w : ℕ) → length os ≡ w → length xs ≡ w → length (cond t os xs) ≡ w
chosen_long true os xs w p q = p
chosen_long false os xs w p q = q

module _ (F : FlatTree) (formed : IsFormed F) (given : List (List ℕ)) (outside : List ℕ) (outside_fits : AreOutside F outside) (N : List (List ℕ)) (cycle : IsCycle F given outside N) (s0 : Sources) (before after : List ℕ) (n : ℕ) (split : F.order ≡ before ++ n ∷ after)
    (d : List Node) (table : List (List (List ℕ))) (ready : IsReady F before d table) (s : SignalTree) (is : IsSignal F n s) (shown : IsShown F formed outside N s0 before (n ∷ after) d table) (p : s.kind ≡ Pad) (made : List Node × List ℕ)
    (q : PadMade F formed before after n split d table ready s is made) where
  abbrev value_more : Grown d q.first.0
  value_more = value_grows F formed before after n split d table ready s is made q

  abbrev release_more : Grown q.first.0 q.second.0
  release_more = release_grows F formed before after n split d table ready s is made q

  abbrev both_more : Grown d q.second.0
  both_more = pad_grows F formed before after n split d table ready s is made q

  abbrev base : List Bool
  base = node_values s0 q.second.0

  abbrev of_value : ℕ
  of_value = value (widths_of F) (env N outside) q.value

  abbrev of_release : ℕ
  of_release = value (widths_of F) (env N outside) q.release

  abbrev comes : ℕ
  comes = get_or outside n 0

  value_number : number_by base q.first.1 ≡ of_value
  value_number =
      ap (λ g. number_by (node_values s0 g) q.first.1) release_more.is ∙ number_stays s0 q.first.0 release_more.more q.first.1 q.value_means.known
      ∙ part_value F formed outside N s0 before after n split d table ready s is shown q.parts.equation q.parts.equation_is q.value q.parts.value_part q.parts.value_inside d (stays_same gates_meaning d) q.first value_more.more value_more.is q.value_means

  release_number : number_by base q.second.1 ≡ of_release
  release_number = part_value F formed outside N s0 before after n split d table ready s is shown q.parts.equation q.parts.equation_is q.release q.parts.release_part q.parts.release_inside q.first.0 q.value_means.stays q.second both_more.more both_more.is q.release_means

  value_long : length q.first.1 ≡ s.width
  value_long = pad_long F formed before after n split d table ready s is made q

  release_within : lowest q.second.1 / 2 < suc (length base)
  release_within =
      let h = known_within q.second.0 (lowest q.second.1) (at_any_place (λ l. knows_literal q.second.0 l ≡ true) q.second.1 0 0 refl q.release_means.known) in
      let e = values_long s0 q.second.0 in
      omega arith

  -- what comes from outside, the lowest bit first, and what is carried
  abbrev comes_up : List Bool
  comes_up = reverse (bits_down s.width comes)

  comes_long : length comes_up ≡ length q.first.1
  comes_long = length-reverse (bits_down s.width comes) ∙ down_long s.width comes ∙ sym value_long

  abbrev up : List Bool
  up = carried (path_text s.path) (lowest q.second.1) base release_within comes_up q.first.1

  abbrev pads : List Node
  pads = pads_down (path_text s.path) (lowest q.second.1) 0 q.first.1

  up_long : length up ≡ length q.first.1
  up_long = chosen_long (at_literal base (lowest q.second.1)) comes_up (map (at_literal base) q.first.1) (length q.first.1) comes_long (length-map q.first.1 (at_literal base))

  up_number : number_of up ≡ cond (nat_eq of_release 1) comes of_value
  up_number =
      chosen (at_literal base (lowest q.second.1)) comes_up (map (at_literal base) q.first.1)
      ∙ ap (λ t. cond t (number_of comes_up) (number_by base q.first.1)) (sym (one_bit base q.second.1 (release_long F formed before after n split d table ready s is made q)) ∙ ap (λ r. nat_eq r 1) release_number)
      ∙ ap₂ (λ x y. cond (nat_eq of_release 1) x y) (number_down s.width comes (outside_fits.each n s is p)) value_number

  comes_here : outside_in (slice_get F.signals n) comes ≡ bits_down s.width comes
  comes_here = ap (λ (o : Option SignalTree). outside_in o comes) is ∙ ap (λ k. cond (is_pad k) (bits_down s.width comes) []) p

  rest_base : rest_after s0 q.second.0 ≡ sources [] [] (reverse comes_up ++ left F formed outside N s0 after)
  rest_base =
      grown_rest s0 d q.second.0 both_more ∙ shown.rest
      ∙ ap (λ (l : List Bool). sources [] [] (l ++ left F formed outside N s0 after)) (comes_here ∙ sym (reverse-reverse (bits_down s.width comes)))

  values_are : node_values s0 (q.second.0 ++ pads) ≡ base ++ reverse up
  values_are =
      after_both s0 [] q.second.0 pads
      ∙ ap₂ (λ (r : Sources) (l : List Node). values_after r base l) rest_base (sym (append-nil pads))
      ∙ pads_take (path_text s.path) (lowest q.second.1) base release_within q.first.1 0 comes_up comes_long
      (known_inside s0 q.second.0 q.first.1 (stay_known gates_meaning q.first.0 q.second.0 q.first.1 q.release_means.stays q.value_means.known)) (left F formed outside N s0 after) []

  rest_behind : rest_after s0 (q.second.0 ++ pads) ≡ sources [] [] (left F formed outside N s0 after)
  rest_behind =
      rest_both s0 q.second.0 pads ∙ ap (λ (r : Sources). rest_after r pads) rest_base
      ∙ pads_rest pads (reverse comes_up) (pads_only (path_text s.path) (lowest q.second.1) 0 q.first.1)
      (length-reverse comes_up ∙ comes_long ∙ sym (pads_long (path_text s.path) (lowest q.second.1) 0 q.first.1)) [] [] (left F formed outside N s0 after)

  turned_long : length (reverse up) ≡ length q.first.1
  turned_long = length-reverse up ∙ up_long

  number_is : number_by (node_values s0 (q.second.0 ++ pads)) (bits_at (suc (length q.second.0)) (length q.first.1)) ≡ cond (nat_eq of_release 1) comes of_value
  number_is =
      ap (λ (V : List Bool). number_by V (bits_at (suc (length q.second.0)) (length q.first.1))) (values_are ∙ ap (λ (l : List Bool). base ++ l) (sym (append-nil (reverse up))))
      ∙ ap₂ (λ k m. number_by (base ++ (reverse up ++ [])) (bits_at (suc k) m)) (sym (values_long s0 q.second.0)) (sym turned_long)
      ∙ ap number_of (literals_are base (reverse up) [] ∙ reverse-reverse up) ∙ up_number

  due : get_or N n [] ≡ cond (nat_eq of_release 1) comes of_value ∷ []
  due =
      driven_value F (env N outside) s.kind s.equation (get_or given n []) (get_or N n []) (inr p) q.parts.equation q.parts.equation_is (cycle.each n s is)
      ∙ ap (λ e. value (widths_of F) (env N outside) e ∷ []) q.parts.equation_form

  pub pad_shown : IsShown F formed outside N s0 (before ++ n ∷ []) after made.0 (set table n (made.1 ∷ []))
  pad_shown =
      subst (λ (m : List Node × List ℕ). IsShown F formed outside N s0 (before ++ n ∷ []) after m.0 (set table n (m.1 ∷ []))) (sym q.all)
      (shown_more F formed outside N s0 before after n split d table ready s is shown (q.second.0 ++ pads, bits_at (suc (length q.second.0)) (length q.first.1)) (both_more.more ++ pads)
      (ap (λ (l : List Node). l ++ pads) both_more.is ∙ append_assoc d both_more.more pads) (ap (λ m. m ∷ []) number_is ∙ sym due) rest_behind)

  bits_are : reverse up ≡ bits_at_number (λ (t : SignalTree). is_pad t.kind) F N n
  bits_are =
      reverse_down up ∙ ap₂ bits_down (up_long ∙ value_long) up_number
      ∙ sym (ap (λ (o : Option SignalTree). bits_in (λ (t : SignalTree). is_pad t.kind) o (get_or N n [])) is
      ∙ ap₂ (λ k (ns : List ℕ). cond (is_pad k) (element_bits s.width ns) []) p due
      ∙ append-nil (bits_down s.width (cond (nat_eq of_release 1) comes of_value)))

  -- and shows it
  pub pad_picked : picked pad_bit made.0 (node_values s0 made.0) ≡ picked pad_bit d (node_values s0 d) ++ bits_at_number (λ (t : SignalTree). is_pad t.kind) F N n
  pad_picked =
      ap (λ (m : List Node × List ℕ). picked pad_bit m.0 (node_values s0 m.0)) q.all
      ∙ ap (picked pad_bit (q.second.0 ++ pads)) values_are
      ∙ picked_both pad_bit q.second.0 pads base (reverse up) (values_long s0 q.second.0)
      ∙ ap₂ (λ (a b : List Bool). a ++ b) (grown_pads s0 d q.second.0 both_more)
      (all_pads pads (reverse up) (pads_only (path_text s.path) (lowest q.second.1) 0 q.first.1) (turned_long ∙ sym (pads_long (path_text s.path) (lowest q.second.1) 0 q.first.1)) ∙ bits_are)
