-- The nodes before the signals, and the literals of their bits.
use Rattle.std.proofs.Common.{◌≡◌, ◌≢◌, ◌⊎◌, ℕ, zero, suc, ◌+◌, ◌*◌, ◌-◌, ◌<◌, ◌≤◌, Bool, true, false, cond, not, ◌&&◌, List, [], ◌∷◌, ◌++◌, length, map, flat_map, replicate, drop, get_or, Option, Some, None, inl, inr, refl, sym, ◌∙◌, ap, ap₂, subst, arith}
use Rattle.std.specs.Prelude.{slice_get, nat_eq, nat_lt, bytes_eq, ◌/◌}
use Rattle.std.specs.List.{AllByRecursion}
use Rattle.std.proofs.lemmas.Bool.{cases_Bool, and_from, and_parts, eqb-true, lt-ltb}
use Rattle.std.proofs.lemmas.Slice.Eq.{bytes_eq-Decides}
use Rattle.lola_bits.specs.Lists.{IsIn}
use Rattle.lola_bits.proofs.Options.{some_same}
use Rattle.lola_bits.proofs.All.{all_append, all_weaker}
use Rattle.lola_bits.proofs.Places.{drop_item}
use Rattle.lola_alg.specs.Means.{AreKnown}
use Rattle.lola_net.specs.declared.node.Node.{Node}
use Rattle.lola_net.specs.declared.node.Node.TheVariants.{Free, Latch, Pad, Gate}
use Rattle.lola_net.specs.Equations.{is_ordered, ordered_from}
use Rattle.lola_gate.specs.Gates.{gates_meaning, knows_literal}
use Rattle.lola_gate.specs.Law.{known_node}
use Rattle.lola_flat.specs.declared.design.SigKind.TheVariants.{Input, Register}
use Rattle.lola_flat.specs.Numbers.{first_numbers}
use Rattle.lola_flat.specs.Tree.{SignalTree, signal_tree, FlatTree}
use Rattle.lola_flat.specs.declared.design.Signal.{Signal as FlatSignal}
use Rattle.lola_flat.specs.Value.{env}
use Rattle.lola_flat.specs.Signals.{IsSignal, IsClock}
use Rattle.lola_eval.specs.Means.{IsWideAs, EnvKnown}
use Rattle.lola_lower.specs.Names.{stem, names_down, signal_names}
use Rattle.lola_lower.specs.Sources.{is_alone, is_clock_path, is_input, is_register, has_input, has_latch, input_nodes, latch_nodes, all_inputs, all_latches, source_nodes, bits_at, elements_at, given_row, given_from, given_literals}
use Rattle.lola_lower.specs.Steps.{names_in}
use Rattle.lola_lower.specs.Ready.{IsReady}
use Rattle.lola_lower.proofs.Steps.{bits_long}

length_both : {X : Type 0} (xs ys : List X) → length (xs ++ ys) ≡ length xs + length ys
length_both [] ys = omega arith
length_both (x ∷ xs) ys = let h = length_both xs ys in omega arith

length_map : {X Y : Type 0} (f : X → Y) (xs : List X) → length (map f xs) ≡ length xs
length_map f [] = refl
length_map f (x ∷ xs) = ap suc (length_map f xs)

flat_both : {X Y : Type 0} (f : X → List Y) (xs ys : List X) → length (flat_map f (xs ++ ys)) ≡ length (flat_map f xs) + length (flat_map f ys)
flat_both f [] ys = omega arith
flat_both f (x ∷ xs) ys =
    let a = length_both (f x) (flat_map f (xs ++ ys)) in
    let b = length_both (f x) (flat_map f xs) in
    let h = flat_both f xs ys in
    omega arith

pub names_long : (text : List ℕ) (width : ℕ) → length (names_down text width) ≡ width
names_long text zero = refl
names_long text (suc bit) = ap suc (names_long text bit)

-- so many nodes has a signal
times_more : (k w : ℕ) → suc k * w ≡ w + k * w
times_more k w = omega arith

pub names_count : (f : ℕ → List (List ℕ)) (w : ℕ) → ((e : ℕ) → length (f e) ≡ w) → (count : ℕ) → length (flat_map f (first_numbers count)) ≡ count * w
names_count f w each zero = omega arith
names_count f w each (suc count) =
    let a = flat_both f (first_numbers count) (count ∷ []) in
    let b = length_both (f count) (flat_map f []) in
    let c = each count in
    let h = names_count f w each count in
    let t = times_more count w in
    omega arith

pub signal_long : (s : SignalTree) → length (signal_names s) ≡ s.count * s.width
signal_long s = names_count (λ (element : ℕ). names_down (stem s element) s.width) s.width (λ e. names_long (stem s e) s.width) s.count

pub input_long : (F : FlatTree) (s : SignalTree) → length (input_nodes F s) ≡ cond (has_input F s) (s.count * s.width) 0
input_long F s = by (has_input F s)
  where
    by : (t : Bool) → length (cond t (map (λ (name : List ℕ). Free name) (signal_names s)) []) ≡ cond t (s.count * s.width) 0
    by true = length_map (λ (name : List ℕ). Free name) (signal_names s) ∙ signal_long s
    by false = refl

pub latch_long : (s : SignalTree) → length (latch_nodes s) ≡ cond (has_latch s) (s.count * s.width) 0
latch_long s = by (has_latch s)
  where
    by : (t : Bool) → length (cond t (map (λ (name : List ℕ). Latch name 0) (signal_names s)) []) ≡ cond t (s.count * s.width) 0
    by true = length_map (λ (name : List ℕ). Latch name 0) (signal_names s) ∙ signal_long s
    by false = refl

-- inputs and latches use no nodes
abbrev IsSource : Node → Type 0
IsSource (Free name) = Unit {0}
IsSource (Latch name next) = Unit {0}
IsSource (Pad name value release) = ⊥
IsSource (Gate a b) = ⊥

sources_ordered : (n : ℕ) (xs : List Node) → AllByRecursion IsSource xs → ordered_from n xs ≡ true
sources_ordered n [] all = refl
sources_ordered n (Free name ∷ xs) all = sources_ordered (suc n) xs all.1
sources_ordered n (Latch name next ∷ xs) all = sources_ordered (suc n) xs all.1
sources_ordered n (Pad name value release ∷ xs) all = absurd all.0
sources_ordered n (Gate a b ∷ xs) all = absurd all.0

all_same_kind : (f : List ℕ → Node) → ((name : List ℕ) → IsSource (f name)) → (t : Bool) (names : List (List ℕ)) → AllByRecursion IsSource (cond t (map f names) [])
all_same_kind f is true [] = tt
all_same_kind f is true (x ∷ xs) = (is x, all_same_kind f is true xs)
all_same_kind f is false names = tt

all_flat_map : (f : SignalTree → List Node) → ((s : SignalTree) → AllByRecursion IsSource (f s)) → (xs : List SignalTree) → AllByRecursion IsSource (flat_map f xs)
all_flat_map f each [] = tt
all_flat_map f each (x ∷ xs) = all_append IsSource (f x) (flat_map f xs) (each x) (all_flat_map f each xs)

pub sources_are_ordered : (F : FlatTree) → is_ordered (source_nodes F) ≡ true
sources_are_ordered F =
    sources_ordered 1 (source_nodes F)
    (all_append IsSource (all_inputs F) (all_latches F)
    (all_flat_map (input_nodes F) (λ s. all_same_kind (λ (name : List ℕ). Free name) (λ name. tt) (has_input F s) (signal_names s)) F.signals)
    (all_flat_map latch_nodes (λ s. all_same_kind (λ (name : List ℕ). Latch name 0) (λ name. tt) (has_latch s) (signal_names s)) F.signals))

pub given_long : (F : FlatTree) (i l : ℕ) (signals : List SignalTree) → length (given_from F i l signals) ≡ length signals
given_long F i l [] = refl
given_long F i l (s ∷ signals) = ap suc (given_long F (i + length (input_nodes F s)) (l + length (latch_nodes s)) signals)

-- literals of nodes that are there
module _ (d : List Node) (order : is_ordered d ≡ true) where
  bits_known : (first width : ℕ) → first + width ≤ suc (length d) → AreKnown gates_meaning d (bits_at first width)
  bits_known first zero within = tt
  bits_known first (suc more) within = (known_node d (2 * (first + more)) order (omega arith), bits_known first more (omega arith))

  elements_known : (first width count : ℕ) → first + count * width ≤ suc (length d) → AllByRecursion (AreKnown gates_meaning d) (elements_at first width count)
  elements_known first width zero within = tt
  elements_known first width (suc more) within =
      let t = times_more more width in
      (bits_known first width (omega arith), elements_known (first + width) width more (omega arith))

  row_known : (F : FlatTree) (i l : ℕ) (s : SignalTree) → i + length (input_nodes F s) ≤ suc (length d) → l + length (latch_nodes s) ≤ suc (length d) → AllByRecursion (AreKnown gates_meaning d) (given_row F i l s)
  row_known F i l s inputs latches = by (has_input F s) (has_latch s) (subst (λ n. i + n ≤ suc (length d)) (input_long F s) inputs) (subst (λ n. l + n ≤ suc (length d)) (latch_long s) latches)
    where
      by : (t u : Bool) → i + cond t (s.count * s.width) 0 ≤ suc (length d) → l + cond u (s.count * s.width) 0 ≤ suc (length d) →
          AllByRecursion (AreKnown gates_meaning d) (cond t (elements_at i s.width s.count) (cond u (elements_at l s.width s.count) []))
      by true u p q = elements_known i s.width s.count p
      by false true p q = elements_known l s.width s.count q
      by false false p q = tt

  given_known : (F : FlatTree) (i l : ℕ) (signals : List SignalTree) → i + length (flat_map (input_nodes F) signals) ≤ suc (length d) → l + length (flat_map latch_nodes signals) ≤ suc (length d) →
      AllByRecursion (AllByRecursion (AreKnown gates_meaning d)) (given_from F i l signals)
  given_known F i l [] p q = tt
  given_known F i l (s ∷ signals) p q =
      let a = length_both (input_nodes F s) (flat_map (input_nodes F) signals) in
      let b = length_both (latch_nodes s) (flat_map latch_nodes signals) in
      (row_known F i l s (omega arith) (omega arith), given_known F (i + length (input_nodes F s)) (l + length (latch_nodes s)) signals (omega arith) (omega arith))

-- the clock is the signal whose path is its name alone
alone_is : (path : List (List ℕ)) (name : List ℕ) → is_alone path name ≡ true → path ≡ name ∷ []
alone_is [] name e = absurd (cc)
alone_is (first ∷ []) name e = ap (λ (n : List ℕ). n ∷ []) ((bytes_eq-Decides first name).0 e)
alone_is (first ∷ second ∷ more) name e = absurd (let z = eqb-true (suc (length more)) 0 (and_parts (nat_eq (suc (length more)) 0) (bytes_eq first name) e).0 in omega arith)

pub clock_is : (F : FlatTree) (s : SignalTree) → is_clock_path F.clock s.path ≡ true → IsClock F s
clock_is F s e = by F.clock refl e
  where
    by : (clock : Option (List ℕ)) → F.clock ≡ clock → is_clock_path clock s.path ≡ true → IsClock F s
    by None is e = absurd (cc)
    by (Some name) is e = (name, (is, alone_is s.path name e))

pub input_is : (F : FlatTree) (s : SignalTree) → s.kind ≡ Input → (IsClock F s → ⊥) → has_input F s ≡ true
input_is F s kind clock = elim (cases_Bool (is_clock_path F.clock s.path)) [
  | inl y ↦ absurd (clock (clock_is F s y))
  | inr z ↦ ap₂ (λ k t. is_input k && not t) kind z
]

pub elements_wide : (first width count : ℕ) → map length (elements_at first width count) ≡ replicate count width
elements_wide first width zero = refl
elements_wide first width (suc more) = ap₂ (λ w ws. w ∷ ws) (bits_long first width) (elements_wide (first + width) width more)

row_wide : (F : FlatTree) (i l : ℕ) (s : SignalTree) → (IsClock F s → ⊥) → (s.kind ≡ Input) ⊎ (s.kind ≡ Register) → IsWideAs s (given_row F i l s)
row_wide F i l s clock (inl kind) = ap (λ t. map length (cond t (elements_at i s.width s.count) (cond (has_latch s) (elements_at l s.width s.count) []))) (input_is F s kind clock) ∙ elements_wide i s.width s.count
row_wide F i l s clock (inr kind) =
    ap (λ k. map length (cond (is_input k && not (is_clock_path F.clock s.path)) (elements_at i s.width s.count) (cond (is_register k) (elements_at l s.width s.count) []))) kind
    ∙ elements_wide l s.width s.count

given_wide : (F : FlatTree) (i l : ℕ) (signals : List SignalTree) (k : ℕ) (s : SignalTree) → slice_get signals k ≡ Some s → (IsClock F s → ⊥) → (s.kind ≡ Input) ⊎ (s.kind ≡ Register) → IsWideAs s (get_or (given_from F i l signals) k [])
given_wide F i l [] k s is clock kind = absurd (let e : None ≡ Some s = is in cc)
given_wide F i l (x ∷ signals) zero s is clock kind =
    let e : x ≡ s = some_same x s is in subst (λ (y : SignalTree). IsWideAs s (given_row F i l y)) (sym e) (row_wide F i l s clock kind)
given_wide F i l (x ∷ signals) (suc k) s is clock kind = given_wide F (i + length (input_nodes F x)) (l + length (latch_nodes x)) signals k s is clock kind

-- before the first signal
pub given_ready : (F : FlatTree) → IsReady F [] (source_nodes F) (given_literals F)
given_ready F =
    let long = length_both (all_inputs F) (all_latches F) in
    record {
      ordered = sources_are_ordered F;
      long = given_long F 1 (suc (length (all_inputs F))) F.signals;
      known = record { signals = given_known (source_nodes F) (sources_are_ordered F) F 1 (suc (length (all_inputs F))) F.signals (omega arith) (omega arith); outside = tt };
      wide = λ k s is clock kind. given_wide F 1 (suc (length (all_inputs F))) F.signals k s is clock (elim kind [ inl i ↦ inl i | inr r ↦ elim r [ inl g ↦ inr g | inr none ↦ absurd none ] ]);
    }

-- the loop over signals
module _ (xs : List FlatSignal) (i : ℕ) (x : FlatSignal) (within : i < length xs) (is : x ≡ get_or xs i x) where
  pub nodes_left : (f : SignalTree → List Node) → length (flat_map f (map signal_tree (drop i xs))) ≡ length (f (signal_tree x)) + length (flat_map f (map signal_tree (drop (i + 1) xs)))
  nodes_left f = ap (λ l. length (flat_map f (map signal_tree l))) (drop_item xs i x within is) ∙ length_both (f (signal_tree x)) (flat_map f (map signal_tree (drop (i + 1) xs)))

  pub rows_left : (F : FlatTree) (input latch : ℕ) → given_from F input latch (map signal_tree (drop i xs)) ≡
      given_row F input latch (signal_tree x) ∷ given_from F (input + length (input_nodes F (signal_tree x))) (latch + length (latch_nodes (signal_tree x))) (map signal_tree (drop (i + 1) xs))
  rows_left F input latch = ap (λ l. given_from F input latch (map signal_tree l)) (drop_item xs i x within is)

-- where no signal stands there are no names
pub no_port : (xs : List FlatSignal) (n : ℕ) → length xs ≤ n → names_in (slice_get (map signal_tree xs) n) ≡ []
no_port [] n past = refl
no_port (x ∷ xs) zero past = absurd (omega arith)
no_port (x ∷ xs) (suc n) past = no_port xs n (omega arith)
