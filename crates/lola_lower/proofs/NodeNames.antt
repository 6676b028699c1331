-- The names of inputs, latches and pads among the nodes.
use Rattle.std.proofs.Common.{◌≡◌, ◌⊎◌, ℕ, zero, suc, ◌+◌, ◌*◌, Bool, true, false, cond, List, [], ◌∷◌, ◌++◌, length, map, flat_map, set, Option, Some, None, inl, inr, refl, sym, ◌∙◌, ap, ap₂, subst, arith, append_assoc, append-nil}
use Rattle.std.specs.Prelude.{slice_get}
use Rattle.std.specs.List.{AllByRecursion}
use Rattle.std.proofs.lemmas.Grind.{flat_map-append}
use Rattle.std.proofs.lemmas.List.{length-map}
use Rattle.lola_net.specs.declared.node.Node.{Node}
use Rattle.lola_net.specs.declared.node.Node.TheVariants.{Free, Latch, Pad, Gate}
use Rattle.lola_flat.specs.declared.design.SigKind.{SigKind}
use Rattle.lola_flat.specs.declared.design.SigKind.TheVariants.{Pad as PadKind, Wire}
use Rattle.lola_flat.specs.Tree.{SignalTree, FlatTree}
use Rattle.lola_lower.specs.Names.{path_text, bit_name, names_down, signal_names}
use Rattle.lola_lower.specs.Sources.{is_pad, has_input, has_latch, input_nodes, latch_nodes, all_inputs, all_latches, source_nodes}
use Rattle.lola_lower.specs.Steps.{pads_down}
use Rattle.lola_lower.specs.Named.{free_name, latch_name, pad_name}
use Rattle.lola_lower.proofs.Grown.{IsGate, Grown}

length_both : {X : Type 0} (xs ys : List X) → length (xs ++ ys) ≡ length xs + length ys
length_both [] ys = omega arith
length_both (x ∷ xs) ys = let h = length_both xs ys in omega arith

named_as : (f : Node → List (List ℕ)) (g : List ℕ → Node) → ((name : List ℕ) → f (g name) ≡ name ∷ []) → (names : List (List ℕ)) → flat_map f (map g names) ≡ names
named_as f g each [] = refl
named_as f g each (x ∷ xs) = ap₂ (λ (a b : List (List ℕ)). a ++ b) (each x) (named_as f g each xs)

named_none : (f : Node → List (List ℕ)) (g : List ℕ → Node) → ((name : List ℕ) → f (g name) ≡ []) → (names : List (List ℕ)) → flat_map f (map g names) ≡ []
named_none f g each [] = refl
named_none f g each (x ∷ xs) = ap₂ (λ (a b : List (List ℕ)). a ++ b) (each x) (named_none f g each xs)

flat_flat : (f : Node → List (List ℕ)) (g : SignalTree → List Node) (h : SignalTree → List (List ℕ)) → ((s : SignalTree) → flat_map f (g s) ≡ h s) → (signals : List SignalTree) → flat_map f (flat_map g signals) ≡ flat_map h signals
flat_flat f g h each [] = refl
flat_flat f g h each (s ∷ ss) = flat_map-append f (g s) (flat_map g ss) ∙ ap₂ (λ (a b : List (List ℕ)). a ++ b) (each s) (flat_flat f g h each ss)

flat_none : (f : Node → List (List ℕ)) (g : SignalTree → List Node) → ((s : SignalTree) → flat_map f (g s) ≡ []) → (signals : List SignalTree) → flat_map f (flat_map g signals) ≡ []
flat_none f g each [] = refl
flat_none f g each (s ∷ ss) = flat_map-append f (g s) (flat_map g ss) ∙ ap₂ (λ (a b : List (List ℕ)). a ++ b) (each s) (flat_none f g each ss)

-- gates have none
gates_none : (f : Node → List (List ℕ)) → ((a b : ℕ) → f (Gate a b) ≡ []) → (xs : List Node) → AllByRecursion IsGate xs → flat_map f xs ≡ []
gates_none f each [] all = refl
gates_none f each (Gate a b ∷ xs) all = ap₂ (λ (p q : List (List ℕ)). p ++ q) (each a b) (gates_none f each xs all.1)
gates_none f each (Free name ∷ xs) all = absurd (let h : false ≡ true = all.0 in cc)
gates_none f each (Latch name next ∷ xs) all = absurd (let h : false ≡ true = all.0 in cc)
gates_none f each (Pad name v r ∷ xs) all = absurd (let h : false ≡ true = all.0 in cc)

pub grown_names : (f : Node → List (List ℕ)) → ((a b : ℕ) → f (Gate a b) ≡ []) → (d e : List Node) → Grown d e → flat_map f e ≡ flat_map f d
grown_names f each d e g = ap (flat_map f) g.is ∙ flat_map-append f d g.more ∙ ap (λ l. flat_map f d ++ l) (gates_none f each g.more g.gates_only) ∙ append-nil (flat_map f d)

-- the names of inputs, of registers and of pads
abbrev pub input_names : FlatTree → SignalTree → List (List ℕ)
input_names F s = cond (has_input F s) (signal_names s) []

abbrev pub latch_names : SignalTree → List (List ℕ)
latch_names s = cond (has_latch s) (signal_names s) []

abbrev pub pads_in : Option SignalTree → List (List ℕ)
pads_in None = []
pads_in (Some s) = cond (is_pad s.kind) (names_down (path_text s.path) s.width) []

abbrev pub pad_names : FlatTree → ℕ → List (List ℕ)
pad_names F n = pads_in (slice_get F.signals n)

module _ (F : FlatTree) where
  free_inputs : (s : SignalTree) → flat_map free_name (input_nodes F s) ≡ input_names F s
  free_inputs s = by (has_input F s)
    where
      by : (t : Bool) → flat_map free_name (cond t (map (λ (name : List ℕ). Free name) (signal_names s)) []) ≡ cond t (signal_names s) []
      by true = named_as free_name (λ (name : List ℕ). Free name) (λ name. refl) (signal_names s)
      by false = refl

  other_inputs : (f : Node → List (List ℕ)) → ((name : List ℕ) → f (Free name) ≡ []) → (s : SignalTree) → flat_map f (input_nodes F s) ≡ []
  other_inputs f none s = by (has_input F s)
    where
      by : (t : Bool) → flat_map f (cond t (map (λ (name : List ℕ). Free name) (signal_names s)) []) ≡ []
      by true = named_none f (λ (name : List ℕ). Free name) none (signal_names s)
      by false = refl

  latch_latches : (s : SignalTree) → flat_map latch_name (latch_nodes s) ≡ latch_names s
  latch_latches s = by (has_latch s)
    where
      by : (t : Bool) → flat_map latch_name (cond t (map (λ (name : List ℕ). Latch name 0) (signal_names s)) []) ≡ cond t (signal_names s) []
      by true = named_as latch_name (λ (name : List ℕ). Latch name 0) (λ name. refl) (signal_names s)
      by false = refl

  other_latches : (f : Node → List (List ℕ)) → ((name : List ℕ) → f (Latch name 0) ≡ []) → (s : SignalTree) → flat_map f (latch_nodes s) ≡ []
  other_latches f none s = by (has_latch s)
    where
      by : (t : Bool) → flat_map f (cond t (map (λ (name : List ℕ). Latch name 0) (signal_names s)) []) ≡ []
      by true = named_none f (λ (name : List ℕ). Latch name 0) none (signal_names s)
      by false = refl

  pub record HasKinds (before : List ℕ) (d : List Node) : Type 0 where
    pub frees : flat_map free_name d ≡ flat_map (input_names F) F.signals
    pub latches : flat_map latch_name d ≡ flat_map latch_names F.signals
    pub pads : flat_map pad_name d ≡ flat_map (pad_names F) before

  pub source_kinds : HasKinds [] (source_nodes F)
  source_kinds = record {
    frees = flat_map-append free_name (all_inputs F) (all_latches F)
        ∙ ap₂ (λ (a b : List (List ℕ)). a ++ b) (flat_flat free_name (input_nodes F) (input_names F) free_inputs F.signals) (flat_none free_name latch_nodes (other_latches free_name (λ name. refl)) F.signals)
        ∙ append-nil (flat_map (input_names F) F.signals);
    latches = flat_map-append latch_name (all_inputs F) (all_latches F)
        ∙ ap₂ (λ (a b : List (List ℕ)). a ++ b) (flat_none latch_name (input_nodes F) (other_inputs latch_name (λ name. refl)) F.signals) (flat_flat latch_name latch_nodes latch_names latch_latches F.signals);
    pads = flat_map-append pad_name (all_inputs F) (all_latches F)
        ∙ ap₂ (λ (a b : List (List ℕ)). a ++ b) (flat_none pad_name (input_nodes F) (other_inputs pad_name (λ name. refl)) F.signals) (flat_none pad_name latch_nodes (other_latches pad_name (λ name. refl)) F.signals);
  }

  pub grown_kinds : (before : List ℕ) (d e : List Node) → Grown d e → HasKinds before d → HasKinds before e
  grown_kinds before d e g k = record {
    frees = grown_names free_name (λ a b. refl) d e g ∙ k.frees;
    latches = grown_names latch_name (λ a b. refl) d e g ∙ k.latches;
    pads = grown_names pad_name (λ a b. refl) d e g ∙ k.pads;
  }

  -- with one number more
  pub more_kinds : (before : List ℕ) (n : ℕ) (d : List Node) (more : List Node) → flat_map free_name more ≡ [] → flat_map latch_name more ≡ [] → flat_map pad_name more ≡ pad_names F n → HasKinds before d → HasKinds (before ++ n ∷ []) (d ++ more)
  more_kinds before n d more frees latches pads k = record {
    frees = flat_map-append free_name d more ∙ ap₂ (λ (a b : List (List ℕ)). a ++ b) k.frees frees ∙ append-nil (flat_map (input_names F) F.signals);
    latches = flat_map-append latch_name d more ∙ ap₂ (λ (a b : List (List ℕ)). a ++ b) k.latches latches ∙ append-nil (flat_map latch_names F.signals);
    pads = flat_map-append pad_name d more ∙ ap₂ (λ (a b : List (List ℕ)). a ++ b) k.pads (pads ∙ sym (append-nil (pad_names F n))) ∙ sym (flat_map-append (pad_names F) before (n ∷ []));
  }

-- there are as many latches as nodes of latches
pub latches_many : (signals : List SignalTree) → length (flat_map latch_names signals) ≡ length (flat_map latch_nodes signals)
latches_many [] = refl
latches_many (s ∷ signals) =
    let a = length_both (latch_names s) (flat_map latch_names signals) in
    let b = length_both (latch_nodes s) (flat_map latch_nodes signals) in
    let c = one (has_latch s) in
    let h = latches_many signals in
    omega arith
  where
    one : (t : Bool) → length (cond t (signal_names s) []) ≡ length (cond t (map (λ (name : List ℕ). Latch name 0) (signal_names s)) [])
    one true = sym (length-map (signal_names s) (λ (name : List ℕ). Latch name 0))
    one false = refl

-- the pads of a value have the names of its bits, from the highest down
pads_free : (text : List ℕ) (release bit : ℕ) (values : List ℕ) → flat_map free_name (pads_down text release bit values) ≡ []
pads_free text release bit [] = refl
pads_free text release bit (v ∷ more) = flat_map-append free_name (pads_down text release (suc bit) more) (Pad (bit_name text bit) v release ∷ []) ∙ ap (λ (l : List (List ℕ)). l ++ []) (pads_free text release (suc bit) more)

pads_latch : (text : List ℕ) (release bit : ℕ) (values : List ℕ) → flat_map latch_name (pads_down text release bit values) ≡ []
pads_latch text release bit [] = refl
pads_latch text release bit (v ∷ more) = flat_map-append latch_name (pads_down text release (suc bit) more) (Pad (bit_name text bit) v release ∷ []) ∙ ap (λ (l : List (List ℕ)). l ++ []) (pads_latch text release (suc bit) more)

pads_named : (text : List ℕ) (release bit : ℕ) (values : List ℕ) → flat_map pad_name (pads_down text release bit values) ++ names_down text bit ≡ names_down text (bit + length values)
pads_named text release bit [] = ap (names_down text) (let e : bit ≡ bit + 0 = omega arith in e)
pads_named text release bit (v ∷ more) =
    ap (λ (l : List (List ℕ)). l ++ names_down text bit) (flat_map-append pad_name (pads_down text release (suc bit) more) (Pad (bit_name text bit) v release ∷ []))
    ∙ append_assoc (flat_map pad_name (pads_down text release (suc bit) more)) (bit_name text bit ∷ []) (names_down text bit)
    ∙ pads_named text release (suc bit) more ∙ ap (names_down text) (let e : suc bit + length more ≡ bit + suc (length more) = omega arith in e)

module _ (F : FlatTree) where
  pub wire_kinds : (before : List ℕ) (n : ℕ) (s : SignalTree) → slice_get F.signals n ≡ Some s → s.kind ≡ Wire → (d e : List Node) → Grown d e → HasKinds F before d → HasKinds F (before ++ n ∷ []) e
  wire_kinds before n s is w d e g k =
      let none : pad_names F n ≡ [] = ap pads_in is ∙ ap (λ j. cond (is_pad j) (names_down (path_text s.path) s.width) []) w in
      subst (HasKinds F (before ++ n ∷ [])) (append-nil e) (more_kinds F before n e [] refl refl (sym none) (grown_kinds F before d e g k))

  pub pad_kinds : (before : List ℕ) (n : ℕ) (s : SignalTree) → slice_get F.signals n ≡ Some s → s.kind ≡ PadKind → (d e : List Node) → Grown d e → (release : ℕ) (values : List ℕ) → length values ≡ s.width → HasKinds F before d →
      HasKinds F (before ++ n ∷ []) (e ++ pads_down (path_text s.path) release 0 values)
  pad_kinds before n s is p d e g release values long k =
      let its : pad_names F n ≡ names_down (path_text s.path) s.width = ap pads_in is ∙ ap (λ j. cond (is_pad j) (names_down (path_text s.path) s.width) []) p in
      let named : flat_map pad_name (pads_down (path_text s.path) release 0 values) ≡ names_down (path_text s.path) s.width =
      sym (append-nil (flat_map pad_name (pads_down (path_text s.path) release 0 values))) ∙ pads_named (path_text s.path) release 0 values ∙ ap (names_down (path_text s.path)) (let e : 0 + length values ≡ length values = omega arith in e ∙ long) in
      more_kinds F before n e (pads_down (path_text s.path) release 0 values) (pads_free (path_text s.path) release 0 values) (pads_latch (path_text s.path) release 0 values) (named ∙ sym its) (grown_kinds F before d e g k)
