-- A lowered net is formed: its nodes are few and in order, and its next literals and outputs are literals of its nodes.
use Rattle.std.proofs.Common.{◌≡◌, ◌≢◌, ◌⊎◌, ℕ, zero, suc, ◌+◌, ◌*◌, ◌<◌, ◌≤◌, ◌^◌, Bool, true, false, cond, List, [], ◌∷◌, ◌++◌, length, map, flat_map, get_or, Option, Some, None, inl, inr, refl, sym, ◌∙◌, ap, ap₂, subst, arith}
use Rattle.std.specs.Prelude.{slice_get, reverse, ◌/◌, nat_lt, nat_eq}
use Rattle.std.specs.List.{AllByRecursion}
use Rattle.std.proofs.lemmas.Bool.{cases_Bool, ltb-true, eqb-true, eqb-false}
use Rattle.std.proofs.lemmas.Nat.{pow_pos}
use Rattle.std.proofs.lemmas.Option.{slice_get_within}
use mathlib.Core.List.{reverse-cons}
use Rattle.lola_bits.specs.Lists.{IsIn, AreDistinct}
use Rattle.lola_bits.proofs.All.{all_append, all_weaker, at_any_place}
use Rattle.lola_bits.proofs.Lists.{in_front, in_back}
use Rattle.lola_bits.proofs.Places.{get_in, length_more}
use Rattle.lola_alg.specs.Algebra.{Stays}
use Rattle.lola_alg.specs.Means.{AreKnown}
use Rattle.lola_net.specs.declared.node.Node.{Node}
use Rattle.lola_net.specs.declared.net.Net.{Net}
use Rattle.lola_net.specs.Equations.{is_ordered, IsFormed as IsFormedNet}
use Rattle.lola_gate.specs.Gates.{gates, gates_calls, gates_meaning, knows_literal}
use Rattle.lola_gate.specs.Law.{gates_law, known_within}
use Rattle.lola_gate.proofs.Formed.{formed_net}
use Rattle.lola_flat.specs.declared.design.SigKind.TheVariants.{Pad, Wire}
use Rattle.lola_flat.specs.Numbers.{first_numbers}
use Rattle.lola_flat.specs.Tree.{ExprTree, SignalTree, FlatTree}
use Rattle.lola_flat.specs.Value.{env, sum_of}
use Rattle.lola_flat.specs.Signals.{IsSignal}
use Rattle.lola_flat.specs.Formed.{CountFits, IsFormed}
use Rattle.lola_eval.specs.Means.{MeansState, EnvKnown}
use Rattle.lola_eval.proofs.Kept.{env_known, elements_known}
use Rattle.lola_eval.proofs.Placed.{in_order}
use Rattle.lola_eval.proofs.StepsMean.{state_means}
use Rattle.lola_lower.specs.Sources.{is_wire, is_pad, has_input, has_latch, source_nodes, given_literals}
use Rattle.lola_lower.specs.Steps.{literals_down, outputs_down, outputs_from, outputs_in, port_outputs, pads_down}
use Rattle.lola_lower.specs.Names.{bit_name, stem, path_text, names_down}
use Rattle.lola_lower.specs.Named.{free_name, latch_name, pad_name}
use Rattle.lola_lower.specs.Ready.{IsReady}
use Rattle.lola_lower.proofs.Along.{Made, all_steps}
use Rattle.lola_lower.proofs.FewNodes.{few_gates, few_more, few_pads, few_sources, nodes_many, few_among, names_few, flat_few}
use Rattle.lola_lower.proofs.Given.{given_ready, names_long}
use Rattle.lola_lower.proofs.Growth.{state_keeps, state_ordered}
use Rattle.lola_lower.proofs.NetNames.{place_of}
use Rattle.lola_lower.proofs.NodeNames.{pads_in, pad_names}
use Rattle.lola_lower.proofs.Parted.{IsParted, ready_behind, kinds_behind}
use Rattle.lola_lower.proofs.PadGrown.{wire_keeps, pad_keeps}
use Rattle.lola_lower.proofs.Whole.{all_ready}

-- what holds of all literals holds of those that are turned, and of those of outputs
turned_all : (P : ℕ → Type 0) (xs : List ℕ) → AllByRecursion P xs → AllByRecursion P (reverse xs)
turned_all P [] all = tt
turned_all P (x ∷ xs) all = subst (AllByRecursion P) (sym (reverse-cons x xs)) (all_append P (reverse xs) (x ∷ []) (turned_all P xs all.1) (all.0, tt))

down_all : (P : ℕ → Type 0) (vectors : List (List ℕ)) → AllByRecursion (AllByRecursion P) vectors → AllByRecursion P (literals_down vectors)
down_all P [] all = tt
down_all P (x ∷ xs) all = all_append P (reverse x) (literals_down xs) (turned_all P x all.0) (down_all P xs all.1)

rows_all : (P : ℕ → Type 0) (rows : List (List (List ℕ))) → AllByRecursion (AllByRecursion (AllByRecursion P)) rows → AllByRecursion P (flat_map literals_down rows)
rows_all P [] all = tt
rows_all P (x ∷ xs) all = all_append P (literals_down x) (flat_map literals_down xs) (down_all P x all.0) (rows_all P xs all.1)

outputs_all : (P : ℕ → Type 0) (text : List ℕ) (bit : ℕ) (bits : List ℕ) → AllByRecursion P bits → AllByRecursion (λ (o : List ℕ × ℕ). P o.1) (outputs_down text bit bits)
outputs_all P text bit [] all = tt
outputs_all P text bit (b ∷ bits) all = all_append (λ (o : List ℕ × ℕ). P o.1) (outputs_down text (suc bit) bits) ((bit_name text bit, b) ∷ []) (outputs_all P text (suc bit) bits all.1) (all.0, tt)

vectors_all : (P : ℕ → Type 0) (s : SignalTree) (element : ℕ) (vectors : List (List ℕ)) → AllByRecursion (AllByRecursion P) vectors → AllByRecursion (λ (o : List ℕ × ℕ). P o.1) (outputs_from s element vectors)
vectors_all P s element [] all = tt
vectors_all P s element (x ∷ xs) all = all_append (λ (o : List ℕ × ℕ). P o.1) (outputs_down (stem s element) 0 x) (outputs_from s (suc element) xs) (outputs_all P (stem s element) 0 x all.0) (vectors_all P s (suc element) xs all.1)

ports_all : (P : ℕ → Type 0) (F : FlatTree) (rows : List (List (List ℕ))) → ((n : ℕ) → AllByRecursion (AllByRecursion P) (get_or rows n [])) → (ns : List ℕ) → AllByRecursion (λ (o : List ℕ × ℕ). P o.1) (flat_map (port_outputs F rows) ns)
ports_all P F rows all [] = tt
ports_all P F rows all (n ∷ ns) = all_append (λ (o : List ℕ × ℕ). P o.1) (port_outputs F rows n) (flat_map (port_outputs F rows) ns) (by (slice_get F.signals n)) (ports_all P F rows all ns)
  where
    chosen : (t : Bool) (s : SignalTree) → AllByRecursion (λ (o : List ℕ × ℕ). P o.1) (cond t (outputs_from s 0 (get_or rows n [])) [])
    chosen true s = vectors_all P s 0 (get_or rows n []) (all n)
    chosen false s = tt

    by : (o : Option SignalTree) → AllByRecursion (λ (x : List ℕ × ℕ). P x.1) (outputs_in o (get_or rows n []))
    by None = tt
    by (Some s) = chosen (is_wire s.kind) s

in_numbers : (count n : ℕ) → n < count → IsIn n (first_numbers count)
in_numbers zero n within = absurd (omega arith)
in_numbers (suc count) n within = elim (cases_Bool (nat_eq n count)) [
  | inl y ↦ in_back n (first_numbers count) (count ∷ []) (inl (eqb-true n count y))
  | inr z ↦ in_front n (first_numbers count) (count ∷ []) (in_numbers count n (let d = eqb-false n count z in (elim (less_or n count within) [ inl p ↦ p | inr e ↦ absurd (d e) ])))
]
  where
    less_or : (n count : ℕ) → n < suc count → (n < count) ⊎ (n ≡ count)
    less_or zero zero within = inr refl
    less_or zero (suc c) within = inl (omega arith)
    less_or (suc n) zero within = absurd (omega arith)
    less_or (suc n) (suc c) within = elim (less_or n c (omega arith)) [ inl p ↦ inl (omega arith) | inr e ↦ inr (ap suc e) ]

numbers_long : (count : ℕ) → length (first_numbers count) ≡ count
numbers_long zero = refl
numbers_long (suc count) = length_more (first_numbers count) count ∙ ap suc (numbers_long count)

module _ (F : FlatTree) (formed : IsFormed F) (net : Net) (p : IsParted F net) where
  few_each : (before after : List ℕ) (n : ℕ) (split : F.order ≡ before ++ n ∷ after) (d : List Node) (table : List (List (List ℕ))) (ready : IsReady F before d table) (s : SignalTree) (is : IsSignal F n s) (made : List Node × List ℕ) →
      Made F formed before after n split d table ready s is made → few_gates d ≡ true → few_gates made.0 ≡ true
  few_each before after n split d table ready s is made (inl m) few = wire_keeps few_gates few_more F formed before after n split d table ready s is m.0 made m.1 few
  few_each before after n split d table ready s is made (inr m) few =
      ap (λ (x : List Node × List ℕ). few_gates x.0) m.1.all
      ∙ few_pads m.1.second.0 (path_text s.path) _ 0 m.1.first.1 (pad_keeps few_gates few_more F formed before after n split d table ready s is made m.1 few)

  few_nodes : few_gates p.nodes ≡ true
  few_nodes = (all_steps F formed (λ before left d table. few_gates d ≡ true) few_each [] F.order refl (source_nodes F) (given_literals F) (given_ready F) (few_sources F) (p.nodes, p.signals) p.order).1

  few_all : few_gates p.all ≡ true
  few_all =
      let ready = ready_behind F formed net p in
      state_keeps few_gates few_more F formed p.signals (all_ready F formed p.nodes p.signals ready) p.nodes (p.all, p.next) ready.known ready.ordered p.state few_nodes

  narrow : (s : SignalTree) → IsIn s F.signals → s.width ≤ 128
  narrow s among = let at = place_of s F.signals among in (formed.signals at.0 s at.1).wide.1

  some : (s : SignalTree) → IsIn s F.signals → 1 ≤ s.count
  some s among = let at = place_of s F.signals among in by s.place (formed.signals at.0 s at.1).count
    where
      by : (place : Option ExprTree) → CountFits s.kind place s.count → 1 ≤ s.count
      by None fits = omega arith
      by (Some e) fits = (let q = pow_pos fits.1.0 in let same : s.count ≡ 2 ^ fits.1.0 = fits.1.1.1.1 in omega arith)

  counted_all : (signals : List SignalTree) → ((s : SignalTree) → IsIn s signals → 1 ≤ s.count) → length signals ≤ sum_of (map (λ (s : SignalTree). s.count) signals)
  counted_all [] each = omega arith
  counted_all (s ∷ signals) each = let h = counted_all signals (λ t among. each t (inr among)) in let o = each s (inl refl) in omega arith

  order_few : length F.order ≤ length F.signals
  order_few =
      let h = few_among F.order (first_numbers (length F.signals)) formed.order.once (λ n among. (let found = in_order F formed n among in in_numbers (length F.signals) n (slice_get_within F.signals n found.0 found.1.0))) in
      let l = numbers_long (length F.signals) in
      omega arith

  pad_few : (n : ℕ) → length (pad_names F n) ≤ 128
  pad_few n = by (slice_get F.signals n) refl
    where
      down : (s : SignalTree) (t : Bool) → s.width ≤ 128 → length (cond t (names_down (path_text s.path) s.width) []) ≤ 128
      down s true w = let l = names_long (path_text s.path) s.width in omega arith
      down s false w = omega arith

      by : (o : Option SignalTree) → slice_get F.signals n ≡ o → length (pads_in o) ≤ 128
      by None is = omega arith
      by (Some s) is = down s (is_pad s.kind) (narrow s (get_in F.signals n s is))

  all_few : length p.all < 2 ^ 31
  all_few =
      let kinds = kinds_behind F formed net p in
      let a = nodes_many 1 p.all in
      let b = ltb-true (length (gates p.all)) 1048577 few_all in
      let c = ap length kinds.frees in
      let d = ap length kinds.latches in
      let e = ap length kinds.pads in
      let f = names_few (has_input F) F.signals narrow in
      let g = names_few has_latch F.signals narrow in
      let h = flat_few (pad_names F) pad_few F.order in
      let i = order_few in
      let j = counted_all F.signals some in
      let k = formed.few in
      omega arith

  means : MeansState gates_meaning F p.signals p.nodes p.all p.next
  means = (let ready = ready_behind F formed net p in state_means gates_calls gates_meaning gates_law F formed p.signals p.nodes (all_ready F formed p.nodes p.signals ready) ready.known (p.all, p.next) p.state)

  abbrev Within : ℕ → Type 0
  Within l = l / 2 ≤ length p.all

  within : (l : ℕ) → knows_literal p.all l ≡ true → Within l
  within l known = let h = known_within p.all l known in omega arith

  rows_within : (rows : List (List (List ℕ))) → AllByRecursion (AllByRecursion (AreKnown gates_meaning p.all)) rows → AllByRecursion (AllByRecursion (AllByRecursion Within)) rows
  rows_within rows known = all_weaker (AllByRecursion (AreKnown gates_meaning p.all)) (AllByRecursion (AllByRecursion Within)) vectors_within rows known
    where
      bits_within : (bits : List ℕ) → AreKnown gates_meaning p.all bits → AllByRecursion Within bits
      bits_within bits k = all_weaker (λ l. knows_literal p.all l ≡ true) Within within bits k

      vectors_within : (vectors : List (List ℕ)) → AllByRecursion (AreKnown gates_meaning p.all) vectors → AllByRecursion (AllByRecursion Within) vectors
      vectors_within vectors k = all_weaker (AreKnown gates_meaning p.all) (AllByRecursion Within) bits_within vectors k

  signals_within : (n : ℕ) → AllByRecursion (AllByRecursion Within) (get_or p.signals n [])
  signals_within n =
      let later = env_known gates_meaning p.nodes p.all (env p.signals []) means.stays (ready_behind F formed net p).known in
      let rows = rows_within p.signals later.signals in
      at_any_place (AllByRecursion (AllByRecursion Within)) p.signals n [] tt rows

  pub net_formed : IsFormedNet net
  net_formed =
      formed_net net p.all (flat_map literals_down p.next) (ap (λ (n : Net). n.nodes) (sym p.is))
      (let ready = ready_behind F formed net p in state_ordered F formed p.signals (all_ready F formed p.nodes p.signals ready) p.nodes (p.all, p.next) ready.known ready.ordered p.state)
      all_few (rows_all Within p.next (rows_within p.next means.known))
      (subst (λ (n : Net). AllByRecursion (λ (o : List ℕ × ℕ). Within o.1) n.outputs) p.is (ports_all Within F p.signals signals_within F.ports))
