-- Which names inputs, registers, outputs and pads have: each is of one signal, and no name comes twice.
use Rattle.std.proofs.Common.{◌≡◌, ◌≢◌, ◌⊎◌, ℕ, zero, suc, ◌+◌, ◌*◌, ◌<◌, ◌≤◌, ◌^◌, Bool, true, false, cond, not, ◌&&◌, List, [], ◌∷◌, ◌++◌, length, map, flat_map, replicate, get_or, Option, Some, None, inl, inr, refl, sym, ◌∙◌, ap, ap₂, subst, arith, append_assoc, append-nil}
use Rattle.std.specs.Prelude.{slice_get, codes, decimal}
use Rattle.std.specs.List.{AllByRecursion}
use Rattle.std.proofs.lemmas.List.{map-append, length-map}
use Rattle.lola_bits.specs.Lists.{IsIn, AreDistinct}
use Rattle.lola_bits.proofs.All.{of_all}
use Rattle.lola_bits.proofs.Lists.{from_flat_map, to_flat_map}
use Rattle.lola_bits.proofs.Options.{some_same}
use Rattle.lola_bits.proofs.Places.{get_in}
use Rattle.lola_flat.specs.declared.design.SigKind.{SigKind}
use Rattle.lola_flat.specs.declared.design.SigKind.TheVariants.{Input, Pad, Wire, Register}
use Rattle.lola_flat.specs.Numbers.{first_numbers}
use Rattle.lola_flat.specs.Tree.{ExprTree, SignalTree, FlatTree}
use Rattle.lola_flat.specs.Value.{sum_of}
use Rattle.lola_flat.specs.Signals.{IsSignal}
use Rattle.lola_flat.specs.Formed.{IsKind, CountFits, IsFormed}
use Rattle.lola_eval.specs.Means.{IsWideAs}
use Rattle.lola_eval.proofs.Placed.{same_number, two_kinds}
use Rattle.lola_lower.specs.Names.{path_text, element_text, stem, bit_name, names_down, signal_names}
use Rattle.lola_lower.specs.Sources.{is_pad, is_wire}
use Rattle.lola_lower.specs.Steps.{outputs_down, outputs_from, names_in, port_names, outputs_in, port_outputs}
use Rattle.lola_lower.specs.Named.{IsIdentifier, HasIdentifiers}
use Rattle.lola_lower.proofs.NameParts.{IsNamed, bit_of, one_path, flat_distinct, down_distinct, first_distinct, numbers_distinct, names_distinct}
use Rattle.lola_lower.proofs.NodeNames.{pads_in, pad_names}
use Rattle.lola_lower.proofs.Picked.{map_flat}

-- the names of a signal, where a test holds of it
abbrev pub if_is : (SignalTree → Bool) → SignalTree → List (List ℕ)
if_is test s = cond (test s) (signal_names s) []

abbrev pub if_in : (SignalTree → Bool) → Option SignalTree → List (List ℕ)
if_in test None = []
if_in test (Some s) = if_is test s

abbrev pub if_at : FlatTree → (SignalTree → Bool) → ℕ → List (List ℕ)
if_at F test n = if_in test (slice_get F.signals n)

-- a signal without elements of its own
vector_names : (s : SignalTree) → s.place ≡ None → s.count ≡ 1 → signal_names s ≡ names_down (path_text s.path) s.width
vector_names s place count =
    ap (λ c. flat_map (λ (element : ℕ). names_down (stem s element) s.width) (first_numbers c)) count
    ∙ append-nil (names_down (stem s 0) s.width)
    ∙ ap (λ (o : Option ExprTree). names_down (path_text s.path ++ element_text o 0) s.width) place
    ∙ ap (λ (l : List ℕ). names_down l s.width) (append-nil (path_text s.path))

outputs_named : (text : List ℕ) (bit : ℕ) (bits : List ℕ) → map (λ (o : List ℕ × ℕ). o.0) (outputs_down text bit bits) ++ names_down text bit ≡ names_down text (bit + length bits)
outputs_named text bit [] = ap (names_down text) (let e : bit ≡ bit + 0 = omega arith in e)
outputs_named text bit (b ∷ bits) =
    ap (λ (l : List (List ℕ)). l ++ names_down text bit) (map-append (λ (o : List ℕ × ℕ). o.0) (outputs_down text (suc bit) bits) ((bit_name text bit, b) ∷ []))
    ∙ append_assoc (map (λ (o : List ℕ × ℕ). o.0) (outputs_down text (suc bit) bits)) (bit_name text bit ∷ []) (names_down text bit)
    ∙ outputs_named text (suc bit) bits ∙ ap (names_down text) (let e : suc bit + length bits ≡ bit + suc (length bits) = omega arith in e)

in_cond : (t : Bool) (name : List ℕ) (names : List (List ℕ)) → IsIn name (cond t names []) → (t ≡ true) × IsIn name names
in_cond true name names among = (refl, among)
in_cond false name names among = absurd among

to_cond : (t : Bool) (name : List ℕ) (names : List (List ℕ)) → t ≡ true → IsIn name names → IsIn name (cond t names [])
to_cond true name names e among = among
to_cond false name names e among = absurd (cc)

pub place_of : {X : Type 0} (x : X) (xs : List X) → IsIn x xs → (n : ℕ) × (slice_get xs n ≡ Some x)
place_of x [] among = absurd among
place_of x (y ∷ ys) (inl e) = (0, ap Some (sym e))
place_of x (y ∷ ys) (inr more) = let h = place_of x ys more in (suc h.0, h.1)

counted : (s : SignalTree) (signals : List SignalTree) → IsIn s signals → s.count ≤ sum_of (map (λ (t : SignalTree). t.count) signals)
counted s [] among = absurd among
counted s (t ∷ signals) (inl e) = let f : s.count ≡ t.count = ap (λ (x : SignalTree). x.count) e in omega arith
counted s (t ∷ signals) (inr more) = let h = counted s signals more in omega arith

distinct_if : (t : Bool) (names : List (List ℕ)) → AreDistinct names → AreDistinct (cond t names [])
distinct_if true names d = d
distinct_if false names d = tt

module _ (F : FlatTree) (formed : IsFormed F) (identifiers : HasIdentifiers F) where
  -- a name that is a signal's of which a test holds
  pub record IsNameOf (test : SignalTree → Bool) (name : List ℕ) : Type 0 where
    pub number : ℕ
    pub signal : SignalTree
    pub is : IsSignal F number signal
    pub holds : test signal ≡ true
    pub among : IsIn name (signal_names signal)

  pub is_named : (n : ℕ) (s : SignalTree) → IsSignal F n s → IsNamed s
  is_named n s is =
      let c = counted s F.signals (get_in F.signals n s is) in
      let few = formed.few in
      let w = (formed.signals n s is).wide in record {
        some = (formed.signals n s is).named;
        identifiers = of_all (λ (t : SignalTree). AllByRecursion IsIdentifier t.path) s F.signals identifiers (get_in F.signals n s is);
        few = omega arith;
        narrow = (let k = w.1 in omega arith);
      }

  alone : (n : ℕ) (s : SignalTree) → IsSignal F n s → s.place ≡ None → s.count ≡ 1
  alone n s is none = subst (λ (o : Option ExprTree). CountFits s.kind o s.count) none (formed.signals n s is).count

  pub no_place : (n : ℕ) (s : SignalTree) → IsSignal F n s → ◌≢◌ {A = SigKind} s.kind Register → s.place ≡ None
  no_place n s is other = by s.place (formed.signals n s is).count
    where
      by : (place : Option ExprTree) → CountFits s.kind place s.count → place ≡ None
      by None fits = refl
      by (Some p) fits = absurd (other fits.0)

  pub plain_names : (n : ℕ) (s : SignalTree) → IsSignal F n s → ◌≢◌ {A = SigKind} s.kind Register → signal_names s ≡ names_down (path_text s.path) s.width
  plain_names n s is other = let none = no_place n s is other in vector_names s none (alone n s is none)

  -- no two signals have one name
  pub one_number : (a b : SignalTree → Bool) (name : List ℕ) (p : IsNameOf a name) (q : IsNameOf b name) → p.number ≡ q.number
  one_number a b name p q =
      same_number F.signals p.number q.number p.signal q.signal formed.paths p.is q.is
      (one_path p.signal q.signal (is_named p.number p.signal p.is) (is_named q.number q.signal q.is) name (bit_of p.signal name p.among) (bit_of q.signal name q.among))

  pub one_kind : (a b : SignalTree → Bool) (name : List ℕ) (p : IsNameOf a name) (q : IsNameOf b name) → p.signal.kind ≡ q.signal.kind
  one_kind a b name p q = two_kinds F q.number p.signal.kind q.signal.kind (subst (λ k. IsKind F k p.signal.kind) (one_number a b name p q) (p.signal, (p.is, refl))) (q.signal, (q.is, refl))

  its_names : (n : ℕ) (s : SignalTree) → IsSignal F n s → AreDistinct (signal_names s)
  its_names n s is = names_distinct s (is_named n s is) (alone n s is)

  -- in signal order
  pub name_among : (test : SignalTree → Bool) (name : List ℕ) → IsIn name (flat_map (if_is test) F.signals) → IsNameOf test name
  name_among test name among =
      let found = from_flat_map (if_is test) name F.signals among in
      let at = place_of found.0 F.signals found.1 in
      let c = in_cond (test found.0) name (signal_names found.0) found.2 in
      record { number = at.0; signal = found.0; is = at.1; holds = c.0; among = c.1 }

  pub among_distinct : (test : SignalTree → Bool) → AreDistinct (flat_map (if_is test) F.signals)
  among_distinct test = flat_distinct (λ (s : SignalTree). s.path) (if_is test) F.signals formed.paths each apart
    where
      each : (s : SignalTree) → IsIn s F.signals → AreDistinct (if_is test s)
      each s among = let at = place_of s F.signals among in distinct_if (test s) (signal_names s) (its_names at.0 s at.1)

      apart : (s t : SignalTree) → IsIn s F.signals → IsIn t F.signals → (name : List ℕ) → IsIn name (if_is test s) → IsIn name (if_is test t) → s.path ≡ t.path
      apart s t a b name here there =
          let p = place_of s F.signals a in
          let q = place_of t F.signals b in
          one_path s t (is_named p.0 s p.1) (is_named q.0 t q.1) name (bit_of s name (in_cond (test s) name (signal_names s) here).1) (bit_of t name (in_cond (test t) name (signal_names t) there).1)

  -- and by numbers
  name_in : (test : SignalTree → Bool) (n : ℕ) (name : List ℕ) (o : Option SignalTree) → slice_get F.signals n ≡ o → IsIn name (if_in test o) → (p : IsNameOf test name) × (p.number ≡ n)
  name_in test n name None is among = absurd among
  name_in test n name (Some s) is among = let c = in_cond (test s) name (signal_names s) among in (record { number = n; signal = s; is = is; holds = c.0; among = c.1 }, refl)

  pub name_at : (test : SignalTree → Bool) (ns : List ℕ) (name : List ℕ) → IsIn name (flat_map (if_at F test) ns) → (p : IsNameOf test name) × IsIn p.number ns
  name_at test ns name among =
      let found = from_flat_map (if_at F test) name ns among in
      let p = name_in test found.0 name (slice_get F.signals found.0) refl found.2 in
      (p.0, subst (λ n. IsIn n ns) (sym p.1) found.1)

  pub at_distinct : (test : SignalTree → Bool) (ns : List ℕ) → AreDistinct ns → AreDistinct (flat_map (if_at F test) ns)
  at_distinct test ns distinct = flat_distinct (λ (n : ℕ). n) (if_at F test) ns (numbers_distinct ns distinct) (λ n among. each n (slice_get F.signals n) refl) apart
    where
      each : (n : ℕ) (o : Option SignalTree) → slice_get F.signals n ≡ o → AreDistinct (if_in test o)
      each n None is = tt
      each n (Some s) is = distinct_if (test s) (signal_names s) (its_names n s is)

      apart : (n m : ℕ) → IsIn n ns → IsIn m ns → (name : List ℕ) → IsIn name (if_at F test n) → IsIn name (if_at F test m) → n ≡ m
      apart n m a b name here there =
          let p = name_in test n name (slice_get F.signals n) refl here in
          let q = name_in test m name (slice_get F.signals m) refl there in
          sym p.1 ∙ one_number test test name p.0 q.0 ∙ q.1

  -- the names of ports
  abbrev pub any : SignalTree → Bool
  any s = true

  pub ports_are : (ns : List ℕ) → flat_map (port_names F) ns ≡ flat_map (if_at F any) ns
  ports_are ns = λ i. flat_map (λ (n : ℕ). by (slice_get F.signals n) i) ns
    where
      by : (o : Option SignalTree) → names_in o ≡ if_in any o
      by None = refl
      by (Some s) = refl

  pub is_port : (test : SignalTree → Bool) (name : List ℕ) (p : IsNameOf test name) → IsIn p.number F.ports → IsIn name (flat_map (port_names F) F.ports)
  is_port test name p port = to_flat_map (port_names F) name p.number F.ports port (subst (λ (o : Option SignalTree). IsIn name (names_in o)) (sym p.is) p.among)

  -- those of pads
  pub pads_are : (ns : List ℕ) → flat_map (pad_names F) ns ≡ flat_map (if_at F (λ (s : SignalTree). is_pad s.kind)) ns
  pads_are ns = λ i. flat_map (λ (n : ℕ). by n (slice_get F.signals n) refl i) ns
    where
      kind : (n : ℕ) (s : SignalTree) → IsSignal F n s → (k : SigKind) → s.kind ≡ k → cond (is_pad k) (names_down (path_text s.path) s.width) [] ≡ cond (is_pad k) (signal_names s) []
      kind n s is Pad e = sym (plain_names n s is (λ f. let g : Pad ≡ Register = sym e ∙ f in cc))
      kind n s is Input e = refl
      kind n s is Wire e = refl
      kind n s is Register e = refl

      by : (n : ℕ) (o : Option SignalTree) → slice_get F.signals n ≡ o → pads_in o ≡ if_in (λ (s : SignalTree). is_pad s.kind) o
      by n None is = refl
      by n (Some s) is = kind n s is s.kind refl

  -- those of outputs
  module _ (signals : List (List (List ℕ))) (wide : (n : ℕ) (s : SignalTree) → IsSignal F n s → s.kind ≡ Wire → IsWideAs s (get_or signals n [])) where
    vector_outputs : (s : SignalTree) (row : List (List ℕ)) → s.count ≡ 1 → IsWideAs s row → map (λ (o : List ℕ × ℕ). o.0) (outputs_from s 0 row) ≡ names_down (stem s 0) s.width
    vector_outputs s row one is = by row (is ∙ ap (λ c. replicate c s.width) one)
      where
        by : (row : List (List ℕ)) → map length row ≡ s.width ∷ [] → map (λ (o : List ℕ × ℕ). o.0) (outputs_from s 0 row) ≡ names_down (stem s 0) s.width
        by [] e = absurd (cc)
        by (x ∷ y ∷ more) e = absurd (let f : length x ∷ length y ∷ map length more ≡ s.width ∷ [] = e in cc)
        by (x ∷ []) e =
            let f : length x ∷ [] ≡ s.width ∷ [] = e in
            let long : length x ≡ s.width = cc in
            ap (map (λ (o : List ℕ × ℕ). o.0)) (append-nil (outputs_down (stem s 0) 0 x))
            ∙ sym (append-nil (map (λ (o : List ℕ × ℕ). o.0) (outputs_down (stem s 0) 0 x)))
            ∙ outputs_named (stem s 0) 0 x ∙ ap (names_down (stem s 0)) (let g : 0 + length x ≡ length x = omega arith in g ∙ long)

    wire_outputs : (n : ℕ) (s : SignalTree) → IsSignal F n s → s.kind ≡ Wire → map (λ (o : List ℕ × ℕ). o.0) (outputs_from s 0 (get_or signals n [])) ≡ signal_names s
    wire_outputs n s is w =
        let none = no_place n s is (λ f. let g : Wire ≡ Register = sym w ∙ f in cc) in
        let one = alone n s is none in
        vector_outputs s (get_or signals n []) one (wide n s is w)
        ∙ sym (ap (λ c. flat_map (λ (element : ℕ). names_down (stem s element) s.width) (first_numbers c)) one ∙ append-nil (names_down (stem s 0) s.width))

    pub outputs_are : (ns : List ℕ) → map (λ (o : List ℕ × ℕ). o.0) (flat_map (port_outputs F signals) ns) ≡ flat_map (if_at F (λ (s : SignalTree). is_wire s.kind)) ns
    outputs_are ns = map_flat (λ (o : List ℕ × ℕ). o.0) (port_outputs F signals) ns ∙ (λ i. flat_map (λ (n : ℕ). by n (slice_get F.signals n) refl i) ns)
      where
        kind : (n : ℕ) (s : SignalTree) → IsSignal F n s → (k : SigKind) → s.kind ≡ k → map (λ (o : List ℕ × ℕ). o.0) (cond (is_wire k) (outputs_from s 0 (get_or signals n [])) []) ≡ cond (is_wire k) (signal_names s) []
        kind n s is Wire e = wire_outputs n s is e
        kind n s is Pad e = refl
        kind n s is Input e = refl
        kind n s is Register e = refl

        by : (n : ℕ) (o : Option SignalTree) → slice_get F.signals n ≡ o → map (λ (x : List ℕ × ℕ). x.0) (outputs_in o (get_or signals n [])) ≡ if_in (λ (s : SignalTree). is_wire s.kind) o
        by n None is = refl
        by n (Some s) is = kind n s is s.kind refl
