-- The cycle of a lowered net is the design's cycle, and the state behind it.
use Rattle.std.proofs.Common.{◌≡◌, ◌≢◌, ◌⊎◌, ℕ, zero, suc, ◌+◌, ◌*◌, ◌<◌, Bool, true, false, cond, List, [], ◌∷◌, ◌++◌, length, map, flat_map, replicate, get_or, Option, Some, None, inl, inr, refl, sym, ◌∙◌, ap, ap₂, subst, arith}
use Rattle.std.specs.Prelude.{slice_get}
use Rattle.std.proofs.Math.ListN.{get_or-map}
use Rattle.std.proofs.lemmas.Bool.{cases_Bool}
use Rattle.std.proofs.lemmas.List.{length-map, length-replicate}
use Rattle.lola_bits.specs.Lists.{IsIn}
use Rattle.lola_alg.specs.Means.{number_at}
use Rattle.lola_net.specs.declared.node.Node.{Node}
use Rattle.lola_net.specs.declared.net.Net.{Net}
use Rattle.lola_net.specs.declared.net.Cycle.{Cycle as NetCycle}
use Rattle.lola_net.specs.Literals.{at_node, at_literal}
use Rattle.lola_net.specs.Run.{node_values, pad_bit, next_bit, picked, shown, cycle_of}
use Rattle.lola_gate.specs.Gates.{gates_calls, gates_meaning, with_next}
use Rattle.lola_gate.specs.Law.{gates_law}
use Rattle.lola_gate.proofs.Cycled.{cycled}
use Rattle.lola_flat.specs.declared.design.SigKind.{SigKind}
use Rattle.lola_flat.specs.declared.design.SigKind.TheVariants.{Input, Pad, Wire, Register}
use Rattle.lola_flat.specs.Tree.{SignalTree, FlatTree}
use Rattle.lola_flat.specs.Value.{env}
use Rattle.lola_flat.specs.Signals.{IsSignal, IsClock, widths_of}
use Rattle.lola_flat.specs.Formed.{IsFormed}
use Rattle.lola_flat.specs.Cycle.{IsGivenTo, AreGiven, AreOutside, IsCycle, next_elements, IsNextOf, IsNext}
use Rattle.lola_flat.proofs.OneCycle.{given_value, same_lists}
use Rattle.lola_eval.specs.Means.{IsWideAs, AreSignalBits, MeansState}
use Rattle.lola_eval.proofs.Kept.{elements_known, numbers_stay}
use Rattle.lola_eval.proofs.StepsMean.{state_means}
use Rattle.lola_lower.specs.Names.{signal_names}
use Rattle.lola_lower.specs.Sources.{is_wire, is_register, has_latch, all_latches, source_nodes, given_literals, is_clock_path}
use Rattle.lola_lower.specs.Steps.{literals_down, outputs_from, outputs_in, port_outputs, net_with, net_of}
use Rattle.lola_lower.specs.Named.{latch_name}
use Rattle.lola_lower.specs.Cycles.{element_bits, bits_in, bits_at_number, input_bits, register_bits, output_bits, pad_bits, outside_bits, HasCycles}
use Rattle.lola_lower.proofs.Along.{all_steps}
use Rattle.lola_lower.proofs.Following.{clock_is_input, incoming, IsFollowed, followed_first, followed_more}
use Rattle.lola_lower.proofs.Given.{given_ready, signal_long, clock_is}
use Rattle.lola_lower.proofs.Grown.{Grown}
use Rattle.lola_lower.proofs.Growth.{state_grows}
use Rattle.lola_lower.proofs.NodeNames.{latch_names, latches_many}
use Rattle.lola_lower.proofs.Parted.{IsParted, parted, ready_behind, kinds_behind}
use Rattle.lola_lower.proofs.Picked.{grown_pads, next_pads, next_taken, elements_down, elements_shown, state_down, map_flat}
use Rattle.lola_lower.proofs.Rests.{clock_known, registers_many}
use Rattle.lola_lower.proofs.Rows.{number_by, numbers_by, elements_long}
use Rattle.lola_lower.proofs.Shown.{all_stay, meanings_are, values_long}
use Rattle.lola_lower.proofs.Whole.{all_ready}

there_is : {X : Type 0} (xs : List X) (n : ℕ) → n < length xs → (x : X) × (slice_get xs n ≡ Some x)
there_is [] n within = absurd (omega arith)
there_is (x ∷ xs) zero within = (x, refl)
there_is (x ∷ xs) (suc n) within = there_is xs n (omega arith)

no_row : (f : List ℕ → ℕ) (xs : List (List ℕ)) → map f xs ≡ [] → xs ≡ []
no_row f [] e = refl
no_row f (x ∷ xs) e = absurd (cc)

one_next : (kind : SigKind) (next u v : List ℕ) → IsNextOf kind next u → IsNextOf kind next v → u ≡ v
one_next Register next u v e f = e ∙ sym f
one_next Input next u v e f = e ∙ sym f
one_next Pad next u v e f = e ∙ sym f
one_next Wire next u v e f = e ∙ sym f

same_next : (F : FlatTree) (N a b : List (List ℕ)) → IsNext F N a → IsNext F N b → a ≡ b
same_next F N a b p q = same_lists a b [] (p.long ∙ sym q.long) (λ n within. (let s = there_is F.signals n (subst (λ k. n < k) p.long within) in one_next s.0.kind _ (get_or a n []) (get_or b n []) (p.each n s.0 s.1) (q.each n s.0 s.1)))

latch_kind : (kind : SigKind) → is_register kind ≡ true → kind ≡ Register
latch_kind Register e = refl
latch_kind Input e = absurd (let h : false ≡ true = e in cc)
latch_kind Pad e = absurd (let h : false ≡ true = e in cc)
latch_kind Wire e = absurd (let h : false ≡ true = e in cc)

clock_nothing : (F : FlatTree) (s : SignalTree) (kind : SigKind) (ns : List ℕ) → kind ≡ Input → IsClock F s → IsGivenTo F s kind ns → ns ≡ []
clock_nothing F s Input ns is clock fits = fits.1.0 clock
clock_nothing F s Register ns is clock fits = absurd (cc)
clock_nothing F s Pad ns is clock fits = absurd (cc)
clock_nothing F s Wire ns is clock fits = absurd (cc)

module _ (F : FlatTree) (formed : IsFormed F) (net : Net) (p : IsParted F net) (given : List (List ℕ)) (outside : List ℕ) (given_fits : AreGiven F given) (outside_fits : AreOutside F outside) (N after : List (List ℕ)) (cycle : IsCycle F given outside N) (next : IsNext F N after) where
  followed : IsFollowed F formed given outside given_fits outside_fits N cycle F.order [] p.nodes p.signals
  followed =
      (all_steps F formed (IsFollowed F formed given outside given_fits outside_fits N cycle)
      (λ before after n split d table ready s is made m f. followed_more F formed given outside given_fits outside_fits N cycle before after n split d table ready s is made f m)
      [] F.order refl (source_nodes F) (given_literals F) (given_ready F) (followed_first F formed given outside given_fits outside_fits N cycle) (p.nodes, p.signals) p.order).1

  bits : AreSignalBits F p.signals
  bits = all_ready F formed p.nodes p.signals (ready_behind F formed net p)

  means : MeansState gates_meaning F p.signals p.nodes p.all p.next
  means = state_means gates_calls gates_meaning gates_law F formed p.signals p.nodes bits (ready_behind F formed net p).known (p.all, p.next) p.state

  grows : Grown p.nodes p.all
  grows = state_grows F formed p.signals bits p.nodes (p.all, p.next) (ready_behind F formed net p).known (ready_behind F formed net p).ordered p.state

  abbrev V : List Bool
  V = node_values (incoming F formed given outside given_fits outside_fits N cycle) p.all

  -- the rows of signals have the numbers of the cycle
  signal_numbers : (k : ℕ) (s : SignalTree) → IsSignal F k s → (IsClock F s → ⊥) → numbers_by V (get_or p.signals k []) ≡ get_or N k []
  signal_numbers k s is clock =
      ap (λ g. numbers_by (node_values (incoming F formed given outside given_fits outside_fits N cycle) g) (get_or p.signals k [])) grows.is
      ∙ all_stay (incoming F formed given outside given_fits outside_fits N cycle) p.nodes grows.more (get_or p.signals k []) (elements_known gates_meaning p.nodes (env p.signals []) k (ready_behind F formed net p).known)
      ∙ followed.shown.each k s is clock (by s.kind refl)
    where
      by : (kind : SigKind) → s.kind ≡ kind → (s.kind ≡ Input) ⊎ ((s.kind ≡ Register) ⊎ IsIn k F.order)
      by Input e = inl e
      by Register e = inr (inl e)
      by Wire e = inr (inr (formed.order.wires k (s, (is, e))))
      by Pad e = inr (inr (formed.order.pads k (s, (is, e))))

  clock_numbers : (k : ℕ) (s : SignalTree) → IsSignal F k s → IsClock F s → numbers_by V (get_or p.signals k []) ≡ get_or N k []
  clock_numbers k s is clock =
      let kind = clock_is_input F formed k s is clock in
      ap (numbers_by V) (followed.clock k s is clock)
      ∙ sym (given_value F (env N outside) s.kind s.equation (get_or given k []) (get_or N k []) (inl kind) (cycle.each k s is) ∙ clock_nothing F s s.kind (get_or given k []) kind clock (given_fits.each k s is))

  any_numbers : (k : ℕ) (s : SignalTree) → IsSignal F k s → numbers_by V (get_or p.signals k []) ≡ get_or N k []
  any_numbers k s is = elim (cases_Bool (is_clock_path F.clock s.path)) [ inl y ↦ clock_numbers k s is (clock_is F s y) | inr z ↦ signal_numbers k s is (clock_known F s z) ]

  table_is : map (map (number_at gates_meaning p.nodes (at_node V))) p.signals ≡ N
  table_is =
      same_lists (map (map (number_at gates_meaning p.nodes (at_node V))) p.signals) N [] (length-map p.signals (map (number_at gates_meaning p.nodes (at_node V))) ∙ bits.long ∙ sym cycle.long)
      (λ k within. at k (subst (λ n. k < n) (length-map p.signals (map (number_at gates_meaning p.nodes (at_node V))) ∙ bits.long) within))
    where
      at : (k : ℕ) → k < length F.signals → get_or (map (map (number_at gates_meaning p.nodes (at_node V))) p.signals) k [] ≡ get_or N k []
      at k within =
          let s = there_is F.signals k within in
          get_or-map (map (number_at gates_meaning p.nodes (at_node V))) p.signals k []
          ∙ sym (numbers_stay gates_meaning p.nodes p.all (get_or p.signals k []) means.stays (elements_known gates_meaning p.nodes (env p.signals []) k (ready_behind F formed net p).known) (at_node V))
          ∙ meanings_are (incoming F formed given outside given_fits outside_fits N cycle) p.all (get_or p.signals k []) ∙ any_numbers k s.0 s.1

  -- and those of next values the numbers of the state behind it
  next_is : map (map (number_at gates_meaning p.all (at_node V))) p.next ≡ after
  next_is = same_next F N (map (map (number_at gates_meaning p.all (at_node V))) p.next) after (subst (λ M. IsNext F M (map (map (number_at gates_meaning p.all (at_node V))) p.next)) table_is (means.means (at_node V))) next

  row_is : (k : ℕ) → numbers_by V (get_or p.next k []) ≡ get_or after k []
  row_is k =
      sym (meanings_are (incoming F formed given outside given_fits outside_fits N cycle) p.all (get_or p.next k []))
      ∙ sym (get_or-map (map (number_at gates_meaning p.all (at_node V))) p.next k []) ∙ ap (λ l. get_or l k []) next_is

  none_behind : (k : ℕ) (s : SignalTree) (kind : SigKind) → IsNextOf kind (next_elements (widths_of F) (env N []) s.place s.equation (get_or N k [])) (get_or after k []) → ◌≢◌ {A = SigKind} kind Register → get_or p.next k [] ≡ []
  none_behind k s Register behind other = absurd (other refl)
  none_behind k s Input behind other = no_row (number_by V) (get_or p.next k []) (row_is k ∙ behind)
  none_behind k s Pad behind other = no_row (number_by V) (get_or p.next k []) (row_is k ∙ behind)
  none_behind k s Wire behind other = no_row (number_by V) (get_or p.next k []) (row_is k ∙ behind)

  row_down : (k : ℕ) (s : SignalTree) → slice_get F.signals k ≡ Some s → map (at_literal V) (literals_down (get_or p.next k [])) ≡ cond (has_latch s) (element_bits s.width (get_or after k [])) []
  row_down k s is = by s.kind refl
    where
      none : (kind : SigKind) → s.kind ≡ kind → ◌≢◌ {A = SigKind} kind Register → map (at_literal V) (literals_down (get_or p.next k [])) ≡ []
      none kind e other = ap (λ (l : List (List ℕ)). map (at_literal V) (literals_down l)) (none_behind k s s.kind (next.each k s is) (λ f. other (sym e ∙ f)))

      by : (kind : SigKind) → s.kind ≡ kind → map (at_literal V) (literals_down (get_or p.next k [])) ≡ cond (is_register kind) (element_bits s.width (get_or after k [])) []
      by Register e = elements_down V s.width s.count (get_or p.next k []) (means.wide k s is e) ∙ ap (element_bits s.width) (row_is k)
      by Input e = none Input e (λ f. cc)
      by Pad e = none Pad e (λ f. cc)
      by Wire e = none Wire e (λ f. cc)

  abbrev L : List ℕ
  L = flat_map literals_down p.next

  next_long : length p.next ≡ length F.signals
  next_long = sym (length-map p.next (map (number_at gates_meaning p.all (at_node V)))) ∙ (means.means (at_node V)).long

  next_down : map (at_literal V) L ≡ register_bits F after
  next_down = state_down V F.signals p.next after next_long next.long row_down

  row_many : (k : ℕ) (s : SignalTree) → slice_get F.signals k ≡ Some s → has_latch s ≡ true → length (element_bits s.width (get_or after k [])) ≡ length (signal_names s)
  row_many k s is e =
      let many : length (get_or p.next k []) ≡ s.count = sym (length-map (get_or p.next k []) length) ∙ ap length (means.wide k s is (latch_kind s.kind e)) ∙ length-replicate s.count s.width in
      let count : length (get_or after k []) ≡ s.count = sym (ap length (row_is k)) ∙ length-map (get_or p.next k []) (number_by V) ∙ many in
      elements_long s.width (get_or after k []) ∙ ap (λ c. c * s.width) count ∙ sym (signal_long s)

  next_many : length L ≡ length (flat_map latch_name p.all)
  next_many =
      sym (length-map L (at_literal V)) ∙ ap length next_down ∙ registers_many F after next.long row_many ∙ sym (latches_many F.signals)
      ∙ sym (ap length (kinds_behind F formed net p).latches)

  -- outputs
  port_shown : (n : ℕ) → map (λ (o : List ℕ × ℕ). at_literal V o.1) (port_outputs F p.signals n) ≡ bits_at_number (λ (s : SignalTree). is_wire s.kind) F N n
  port_shown n = by (slice_get F.signals n) refl
    where
      wire : (s : SignalTree) → slice_get F.signals n ≡ Some s → (kind : SigKind) → s.kind ≡ kind → map (λ (o : List ℕ × ℕ). at_literal V o.1) (cond (is_wire kind) (outputs_from s 0 (get_or p.signals n [])) []) ≡ cond (is_wire kind) (element_bits s.width (get_or N n [])) []
      wire s is Wire e =
          elements_shown V s 0 (get_or p.signals n [])
          ∙ elements_down V s.width s.count (get_or p.signals n []) (bits.each n s is (λ c. (let f : Wire ≡ Input = sym e ∙ clock_is_input F formed n s is c in cc)))
          ∙ ap (element_bits s.width) (any_numbers n s is)
      wire s is Input e = refl
      wire s is Pad e = refl
      wire s is Register e = refl

      by : (o : Option SignalTree) → slice_get F.signals n ≡ o → map (λ (x : List ℕ × ℕ). at_literal V x.1) (outputs_in o (get_or p.signals n [])) ≡ bits_in (λ (s : SignalTree). is_wire s.kind) o (get_or N n [])
      by None is = refl
      by (Some s) is = wire s is s.kind refl

  outputs_are : map (λ (o : List ℕ × ℕ). at_literal V o.1) (flat_map (port_outputs F p.signals) F.ports) ≡ output_bits F N
  outputs_are = map_flat (λ (o : List ℕ × ℕ). at_literal V o.1) (port_outputs F p.signals) F.ports ∙ (λ i. flat_map (λ (n : ℕ). port_shown n i) F.ports)

  pads_are : picked pad_bit (with_next L p.all) V ≡ pad_bits F N
  pads_are = next_pads L p.all V ∙ grown_pads (incoming F formed given outside given_fits outside_fits N cycle) p.nodes p.all grows ∙ followed.pads

  next_are : picked (next_bit V) (with_next L p.all) V ≡ register_bits F after
  next_are = next_taken V L p.all V next_many (values_long (incoming F formed given outside given_fits outside_fits N cycle) p.all) ∙ next_down

  all_shown : cycle_of (net_with F p.all p.signals p.next) (register_bits F given) (input_bits F given) (outside_bits F outside) ≡ record { outputs = output_bits F N; pads = pad_bits F N; next = register_bits F after }
  all_shown =
      ap (shown (net_with F p.all p.signals p.next)) ((cycled p.all (incoming F formed given outside given_fits outside_fits N cycle)).next L)
      ∙ (λ i. record { outputs = outputs_are i; pads = pads_are i; next = next_are i })

  pub cycle_shown : cycle_of net (register_bits F given) (input_bits F given) (outside_bits F outside) ≡ record { outputs = output_bits F N; pads = pad_bits F N; next = register_bits F after }
  cycle_shown = subst (λ (m : Net). cycle_of m (register_bits F given) (input_bits F given) (outside_bits F outside) ≡ record { outputs = output_bits F N; pads = pad_bits F N; next = register_bits F after }) p.is all_shown

pub has_cycles : (F : FlatTree) (net : Net) → IsFormed F → net_of F ≡ Some net → HasCycles F net
has_cycles F net formed made = record {
  each = λ given outside N after given_fits outside_fits cycle next. cycle_shown F formed net (parted F net made) given outside given_fits outside_fits N after cycle next;
}
