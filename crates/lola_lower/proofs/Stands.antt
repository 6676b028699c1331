-- The nodes of a lowered net stand in order, and each gate is as `and` makes it.
use Rattle.std.proofs.Common.{◌≡◌, ◌⊎◌, ℕ, zero, suc, ◌+◌, ◌*◌, ◌≤◌, Bool, true, false, cond, ◌&&◌, List, [], ◌∷◌, ◌++◌, length, map, flat_map, get_or, Option, Some, None, inl, inr, refl, sym, ◌∙◌, ap, ap₂, subst, arith, append_assoc, append-nil}
use Rattle.std.specs.Prelude.{slice_get, nat_lt, replicate, reverse}
use Rattle.std.specs.List.{AllByRecursion}
use Rattle.std.proofs.Math.ListN.{get_or-map}
use Rattle.std.proofs.lemmas.Bool.{cases_Bool, and_parts, and_from}
use Rattle.std.proofs.lemmas.List.{length-map, length-reverse, length-replicate}
use Rattle.lola_bits.proofs.All.{all_append, all_weaker}
use Rattle.lola_net.specs.declared.node.Node.{Node}
use Rattle.lola_net.specs.declared.node.Node.TheVariants.{Free, Latch, Pad, Gate}
use Rattle.lola_net.specs.declared.net.Net.{Net}
use Rattle.lola_alg.specs.Means.{number_at}
use Rattle.lola_gate.specs.Gates.{gates, gates_calls, gates_meaning}
use Rattle.lola_gate.specs.Law.{gates_law}
use Rattle.lola_flat.specs.declared.design.SigKind.{SigKind}
use Rattle.lola_flat.specs.declared.design.SigKind.TheVariants.{Input, Pad as PadKind, Wire, Register}
use Rattle.lola_flat.specs.Tree.{SignalTree, FlatTree}
use Rattle.lola_flat.specs.Value.{env}
use Rattle.lola_flat.specs.Signals.{IsSignal, widths_of}
use Rattle.lola_flat.specs.Formed.{IsFormed}
use Rattle.lola_flat.specs.Cycle.{IsNextOf, next_elements}
use Rattle.lola_eval.specs.Means.{MeansState, IsWideAs}
use Rattle.lola_eval.proofs.StepsMean.{state_means}
use Rattle.lola_lower.specs.Names.{path_text, bit_name, signal_names}
use Rattle.lola_lower.specs.Sources.{is_register, has_input, has_latch, input_nodes, latch_nodes, all_inputs, all_latches, source_nodes, given_literals}
use Rattle.lola_lower.specs.Steps.{literals_down, pads_down, lowest}
use Rattle.lola_lower.specs.Named.{latch_name}
use Rattle.lola_lower.specs.Ready.{IsReady}
use Rattle.lola_lower.specs.Standing.{is_free, is_latch, is_assigned, AreAll, StandInOrder, IsShared, AreShared}
use Rattle.lola_lower.proofs.Along.{Made, all_steps}
use Rattle.lola_lower.proofs.Given.{given_ready, signal_long}
use Rattle.lola_lower.proofs.Grown.{is_gate, IsGate, Grown, is_new, new_is}
use Rattle.lola_lower.proofs.Growth.{state_keeps, state_grows}
use Rattle.lola_lower.proofs.NodeNames.{latch_names}
use Rattle.lola_lower.proofs.PadGrown.{wire_grows, pad_grows, wire_keeps, pad_keeps}
use Rattle.lola_lower.proofs.Parted.{IsParted, ready_behind, kinds_behind}
use Rattle.lola_lower.proofs.Whole.{all_ready}

-- new gates, as a test
abbrev new_here : List Node → Node → Bool
new_here before (Free name) = true
new_here before (Latch name next) = true
new_here before (Pad name v r) = true
new_here before (Gate a b) = is_new before a b

abbrev new_from : List Node → List Node → Bool
new_from before [] = true
new_from before (x ∷ more) = new_here before x && new_from (before ++ x ∷ []) more

abbrev all_new : List Node → Bool
all_new d = new_from [] d

new_end : (before xs : List Node) (x : Node) → new_from before xs ≡ true → new_here (before ++ xs) x ≡ true → new_from before (xs ++ x ∷ []) ≡ true
new_end before [] x so last = and_from (new_here before x) true (subst (λ (l : List Node). new_here l x ≡ true) (append-nil before) last) refl
new_end before (y ∷ xs) x so last =
    let p = and_parts (new_here before y) (new_from (before ++ y ∷ []) xs) so in
    and_from (new_here before y) (new_from (before ++ y ∷ []) (xs ++ x ∷ [])) p.0
    (new_end (before ++ y ∷ []) xs x p.1 (subst (λ (l : List Node). new_here l x ≡ true) (sym (append_assoc before (y ∷ []) xs)) last))

new_more : (d : List Node) (a b : ℕ) → nat_lt (length (gates d)) 1048576 ≡ true → is_new d a b ≡ true → all_new d ≡ true → all_new (d ++ Gate a b ∷ []) ≡ true
new_more d a b place new so = new_end [] d (Gate a b) so new

new_free : (before xs : List Node) → ((x : Node) → (b : List Node) → is_gate x ≡ false → new_here b x ≡ true) → AllByRecursion (λ x. is_gate x ≡ false) xs → new_from before xs ≡ true
new_free before [] each none = refl
new_free before (x ∷ xs) each none = and_from (new_here before x) (new_from (before ++ x ∷ []) xs) (each x before none.0) (new_free (before ++ x ∷ []) xs each none.1)

no_gate : (x : Node) (before : List Node) → is_gate x ≡ false → new_here before x ≡ true
no_gate (Free name) before e = refl
no_gate (Latch name next) before e = refl
no_gate (Pad name v r) before e = refl
no_gate (Gate a b) before e = absurd (let h : true ≡ false = e in cc)

new_pads : (d : List Node) (text : List ℕ) (release bit : ℕ) (values : List ℕ) → all_new d ≡ true → all_new (d ++ pads_down text release bit values) ≡ true
new_pads d text release bit [] so = ap all_new (append-nil d) ∙ so
new_pads d text release bit (v ∷ more) so =
    ap all_new (sym (append_assoc d (pads_down text release (suc bit) more) (Pad (bit_name text bit) v release ∷ [])))
    ∙ new_end [] (d ++ pads_down text release (suc bit) more) (Pad (bit_name text bit) v release) (new_pads d text release (suc bit) more so) refl

shared_from : (before xs : List Node) → new_from before xs ≡ true → AreShared before xs
shared_from before [] so = tt
shared_from before (x ∷ xs) so =
    let p = and_parts (new_here before x) (new_from (before ++ x ∷ []) xs) so in
    (one x p.0, shared_from (before ++ x ∷ []) xs p.1)
  where
    one : (x : Node) → new_here before x ≡ true → IsShared before x
    one (Free name) e = tt
    one (Latch name next) e = tt
    one (Pad name v r) e = tt
    one (Gate a b) e = new_is before a b e

-- the nodes before the signals
kind_of_map : (test : Node → Bool) (g : List ℕ → Node) → ((name : List ℕ) → test (g name) ≡ true) → (t : Bool) (names : List (List ℕ)) → AreAll test (cond t (map g names) [])
kind_of_map test g each true [] = tt
kind_of_map test g each true (x ∷ xs) = (each x, kind_of_map test g each true xs)
kind_of_map test g each false names = tt

kind_of_flat : (test : Node → Bool) (h : SignalTree → List Node) → ((s : SignalTree) → AreAll test (h s)) → (signals : List SignalTree) → AreAll test (flat_map h signals)
kind_of_flat test h each [] = tt
kind_of_flat test h each (s ∷ ss) = all_append (λ x. test x ≡ true) (h s) (flat_map h ss) (each s) (kind_of_flat test h each ss)

module _ (F : FlatTree) where
  frees_are : AreAll is_free (all_inputs F)
  frees_are = kind_of_flat is_free (input_nodes F) (λ s. kind_of_map is_free (λ (name : List ℕ). Free name) (λ name. refl) (has_input F s) (signal_names s)) F.signals

  latches_are : AreAll is_latch (all_latches F)
  latches_are = kind_of_flat is_latch latch_nodes (λ s. kind_of_map is_latch (λ (name : List ℕ). Latch name 0) (λ name. refl) (has_latch s) (signal_names s)) F.signals

  no_gates : AllByRecursion (λ x. is_gate x ≡ false) (source_nodes F)
  no_gates = all_append (λ x. is_gate x ≡ false) (all_inputs F) (all_latches F)
      (all_weaker (λ x. is_free x ≡ true) (λ x. is_gate x ≡ false) free (all_inputs F) frees_are) (all_weaker (λ x. is_latch x ≡ true) (λ x. is_gate x ≡ false) latch (all_latches F) latches_are)
    where
      free : (x : Node) → is_free x ≡ true → is_gate x ≡ false
      free (Free name) e = refl
      free (Latch name next) e = refl
      free (Pad name v r) e = refl
      free (Gate a b) e = absurd (let h : false ≡ true = e in cc)

      latch : (x : Node) → is_latch x ≡ true → is_gate x ≡ false
      latch (Free name) e = refl
      latch (Latch name next) e = refl
      latch (Pad name v r) e = refl
      latch (Gate a b) e = absurd (let h : false ≡ true = e in cc)

  -- behind them stand gates and pads
  record Behind (d : List Node) : Type 0 where
    pub more : List Node
    pub is : d ≡ source_nodes F ++ more
    pub only : AreAll is_assigned more

  behind_more : (d e more : List Node) → e ≡ d ++ more → AreAll is_assigned more → Behind d → Behind e
  behind_more d e more is only b = record {
    more = b.more ++ more;
    is = is ∙ ap (λ (l : List Node). l ++ more) b.is ∙ append_assoc (source_nodes F) b.more more;
    only = all_append (λ x. is_assigned x ≡ true) b.more more b.only only;
  }

  gates_assigned : (xs : List Node) → AllByRecursion IsGate xs → AreAll is_assigned xs
  gates_assigned xs all = all_weaker IsGate (λ x. is_assigned x ≡ true) each xs all
    where
      each : (x : Node) → is_gate x ≡ true → is_assigned x ≡ true
      each (Free name) e = e
      each (Latch name next) e = e
      each (Pad name v r) e = refl
      each (Gate a b) e = refl

  pads_assigned : (text : List ℕ) (release bit : ℕ) (values : List ℕ) → AreAll is_assigned (pads_down text release bit values)
  pads_assigned text release bit [] = tt
  pads_assigned text release bit (v ∷ more) = all_append (λ x. is_assigned x ≡ true) (pads_down text release (suc bit) more) (Pad (bit_name text bit) v release ∷ []) (pads_assigned text release (suc bit) more) (refl, tt)

  grown_behind : (d e : List Node) → Grown d e → Behind d → Behind e
  grown_behind d e g b = behind_more d e g.more g.is (gates_assigned g.more g.gates_only) b

  module _ (formed : IsFormed F) where
    record Good (d : List Node) : Type 0 where
      pub behind : Behind d
      pub new : all_new d ≡ true

    good_more : (before after : List ℕ) (n : ℕ) (split : F.order ≡ before ++ n ∷ after) (d : List Node) (table : List (List (List ℕ))) (ready : IsReady F before d table) (s : SignalTree) (is : IsSignal F n s) (made : List Node × List ℕ) →
        Made F formed before after n split d table ready s is made → Good d → Good made.0
    good_more before after n split d table ready s is made (inl m) g = record {
      behind = grown_behind d made.0 (wire_grows F formed before after n split d table ready s is m.0 made m.1) g.behind;
      new = wire_keeps all_new new_more F formed before after n split d table ready s is m.0 made m.1 g.new;
    }
    good_more before after n split d table ready s is made (inr m) g =
        subst (λ (x : List Node × List ℕ). Good x.0) (sym m.1.all) (record {
          behind = behind_more m.1.second.0 (m.1.second.0 ++ pads_down (path_text s.path) (lowest m.1.second.1) 0 m.1.first.1) (pads_down (path_text s.path) (lowest m.1.second.1) 0 m.1.first.1) refl
              (pads_assigned (path_text s.path) (lowest m.1.second.1) 0 m.1.first.1) (grown_behind d m.1.second.0 (pad_grows F formed before after n split d table ready s is made m.1) g.behind);
          new = new_pads m.1.second.0 (path_text s.path) (lowest m.1.second.1) 0 m.1.first.1 (pad_keeps all_new new_more F formed before after n split d table ready s is made m.1 g.new);
        })

    module _ (net : Net) (p : IsParted F net) where
      good_nodes : Good p.nodes
      good_nodes =
          (all_steps F formed (λ before left d table. Good d) good_more [] F.order refl (source_nodes F) (given_literals F) (given_ready F)
          (record { behind = record { more = []; is = sym (append-nil (source_nodes F)); only = tt }; new = new_free [] (source_nodes F) no_gate no_gates }) (p.nodes, p.signals) p.order).1

      pub stand_in_order : StandInOrder p.all
      stand_in_order =
          let ready = ready_behind F formed net p in
          let b = grown_behind p.nodes p.all (state_grows F formed p.signals (all_ready F formed p.nodes p.signals ready) p.nodes (p.all, p.next) ready.known ready.ordered p.state) good_nodes.behind in
          record { frees = all_inputs F; latches = all_latches F; others = b.more; are = b.is ∙ append_assoc (all_inputs F) (all_latches F) b.more; frees_only = frees_are; latches_only = latches_are; others_only = b.only }

      pub are_shared : AreShared [] p.all
      are_shared =
          let ready = ready_behind F formed net p in
          shared_from [] p.all (state_keeps all_new new_more F formed p.signals (all_ready F formed p.nodes p.signals ready) p.nodes (p.all, p.next) ready.known ready.ordered p.state good_nodes.new)

-- as many next literals as latches
length_both : {X : Type 0} (xs ys : List X) → length (xs ++ ys) ≡ length xs + length ys
length_both [] ys = omega arith
length_both (x ∷ xs) ys = let h = length_both xs ys in omega arith

down_many : (w count : ℕ) (vectors : List (List ℕ)) → map length vectors ≡ replicate count w → length (literals_down vectors) ≡ count * w
down_many w zero [] wide = omega arith
down_many w (suc count) [] wide = absurd (let e : [] ≡ w ∷ replicate count w = wide in cc)
down_many w zero (x ∷ xs) wide = absurd (let e : length x ∷ map length xs ≡ [] = wide in cc)
down_many w (suc count) (x ∷ xs) wide =
    let e : length x ∷ map length xs ≡ w ∷ replicate count w = wide in
    let head : length x ≡ w = cc in
    let tail : map length xs ≡ replicate count w = cc in
    let h = down_many w count xs tail in
    let a = length_both (reverse x) (literals_down xs) in
    let b = length-reverse x in
    let t = times_more count w in
    omega arith
  where
    times_more : (k w : ℕ) → suc k * w ≡ w + k * w
    times_more k w = omega arith

rows_many : (signals : List SignalTree) (next : List (List (List ℕ))) → length next ≡ length signals → ((k : ℕ) (s : SignalTree) → slice_get signals k ≡ Some s → length (literals_down (get_or next k [])) ≡ length (latch_names s)) →
    length (flat_map literals_down next) ≡ length (flat_map latch_names signals)
rows_many [] [] long each = refl
rows_many [] (x ∷ next) long each = absurd (omega arith)
rows_many (s ∷ signals) [] long each = absurd (omega arith)
rows_many (s ∷ signals) (x ∷ next) long each =
    let h = rows_many signals next (omega arith) (λ k. each (suc k)) in
    let one = each 0 s refl in
    let a = length_both (literals_down x) (flat_map literals_down next) in
    let b = length_both (latch_names s) (flat_map latch_names signals) in
    omega arith

no_row : (f : List ℕ → ℕ) (xs : List (List ℕ)) → map f xs ≡ [] → xs ≡ []
no_row f [] e = refl
no_row f (x ∷ xs) e = absurd (cc)

a_register : (kind : SigKind) → is_register kind ≡ true → kind ≡ Register
a_register Register e = refl
a_register Input e = absurd (let h : false ≡ true = e in cc)
a_register PadKind e = absurd (let h : false ≡ true = e in cc)
a_register Wire e = absurd (let h : false ≡ true = e in cc)

nothing_else : (kind : SigKind) (next ns : List ℕ) → is_register kind ≡ false → IsNextOf kind next ns → ns ≡ []
nothing_else Register next ns e is = absurd (let h : true ≡ false = e in cc)
nothing_else Input next ns e is = is
nothing_else PadKind next ns e is = is
nothing_else Wire next ns e is = is

module _ (F : FlatTree) (formed : IsFormed F) (net : Net) (p : IsParted F net) where
  means : MeansState gates_meaning F p.signals p.nodes p.all p.next
  means = (let ready = ready_behind F formed net p in state_means gates_calls gates_meaning gates_law F formed p.signals p.nodes (all_ready F formed p.nodes p.signals ready) ready.known (p.all, p.next) p.state)

  abbrev some : ℕ → Bool
  some n = false

  row_many : (k : ℕ) (s : SignalTree) → slice_get F.signals k ≡ Some s → length (literals_down (get_or p.next k [])) ≡ length (latch_names s)
  row_many k s is = elim (cases_Bool (is_register s.kind)) [
    | inl y ↦ down_many s.width s.count (get_or p.next k []) (means.wide k s is (a_register s.kind y)) ∙ sym (signal_long s) ∙ sym (ap (λ t. length (cond t (signal_names s) [])) y)
    | inr z ↦ (
        let none : get_or (map (map (number_at gates_meaning p.all some)) p.next) k [] ≡ [] = nothing_else s.kind _ (get_or (map (map (number_at gates_meaning p.all some)) p.next) k []) z ((means.means some).each k s is) in
        let row : map (number_at gates_meaning p.all some) (get_or p.next k []) ≡ [] = sym (get_or-map (map (number_at gates_meaning p.all some)) p.next k []) ∙ none in
        ap (λ (l : List (List ℕ)). length (literals_down l)) (no_row (number_at gates_meaning p.all some) (get_or p.next k []) row) ∙ sym (ap (λ t. length (cond t (signal_names s) [])) z))
  ]

  next_long : length p.next ≡ length F.signals
  next_long = sym (length-map p.next (map (number_at gates_meaning p.all some))) ∙ (means.means some).long

  pub next_many : length (flat_map literals_down p.next) ≡ length (flat_map latch_name p.all)
  next_many = rows_many F.signals p.next next_long row_many ∙ sym (ap length (kinds_behind F formed net p).latches)
