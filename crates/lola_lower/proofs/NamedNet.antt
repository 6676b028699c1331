-- The names and nodes of a lowered net stand as a net's names are to stand.
use Rattle.std.proofs.Common.{◌≡◌, ◌≢◌, ◌⊎◌, ℕ, zero, suc, ◌+◌, ◌*◌, ◌<◌, ◌≤◌, ◌^◌, Bool, true, false, cond, not, ◌&&◌, List, [], ◌∷◌, ◌++◌, length, map, flat_map, get_or, Option, Some, None, inl, inr, refl, sym, ◌∙◌, ap, ap₂, subst, arith, append-nil}
use Rattle.std.specs.Prelude.{slice_get, IfSome, ◌/◌, nat_lt, bytes_eq}
use Rattle.std.specs.List.{AllByRecursion}
use Rattle.std.proofs.lemmas.Bool.{and_parts, ltb-true, lt-ltb}
use Rattle.std.proofs.lemmas.Slice.Eq.{bytes_eq-Decides}
use Rattle.std.proofs.lemmas.Option.{slice_get_within}
use Rattle.lola_bits.specs.Lists.{IsIn, AreDistinct}
use Rattle.lola_bits.proofs.All.{all_of, of_all, all_weaker}
use Rattle.lola_bits.proofs.Lists.{in_either, distinct_join, to_map, from_map}
use Rattle.lola_bits.proofs.Options.{some_same}
use Rattle.lola_bits.proofs.Places.{get_in}
use Rattle.lola_net.specs.declared.node.Node.{Node}
use Rattle.lola_net.specs.declared.node.Node.TheVariants.{Free, Latch, Pad, Gate}
use Rattle.lola_net.specs.declared.net.Net.{Net}
use Rattle.lola_gate.specs.Gates.{with_next, left_with}
use Rattle.lola_flat.specs.declared.design.SigKind.{SigKind}
use Rattle.lola_flat.specs.declared.design.SigKind.TheVariants.{Input, Pad as PadKind, Wire, Register}
use Rattle.lola_flat.specs.Numbers.{first_numbers}
use Rattle.lola_flat.specs.Tree.{SignalTree, FlatTree}
use Rattle.lola_flat.specs.Signals.{IsSignal}
use Rattle.lola_flat.specs.Formed.{IsKind, HasClock, IsFormed}
use Rattle.lola_lower.specs.Names.{path_text, bit_name, names_down, signal_names}
use Rattle.lola_lower.specs.Sources.{is_clock_path, is_input, is_register, is_pad, is_wire, has_input, has_latch}
use Rattle.lola_lower.specs.Steps.{literals_down, names_in, port_names, port_outputs, clock_name, net_with, net_of}
use Rattle.lola_lower.specs.Named.{HasIdentifiers, free_name, latch_name, pad_name, AreRuns, HasBitNames}
use Rattle.lola_lower.proofs.NameParts.{first_distinct, IsNamed}
use Rattle.lola_lower.proofs.NetFormed.{net_formed}
use Rattle.lola_lower.proofs.NetNames.{if_is, if_at, IsNameOf, is_named, one_number, one_kind, name_among, among_distinct, name_at, at_distinct, any, ports_are, is_port, pads_are, outputs_are, plain_names, place_of}
use Rattle.lola_lower.proofs.NodeNames.{input_names, latch_names, pad_names}
use Rattle.lola_lower.proofs.Parted.{IsParted, parted, ready_behind, kinds_behind}
use Rattle.lola_lower.proofs.Runs.{names_are_runs}
use Rattle.lola_lower.proofs.Whole.{all_ready}
use Rattle.lola_lower.proofs.Following.{clock_is_input}

with_names : (f : Node → List (List ℕ)) → ((name : List ℕ) (a b : ℕ) → f (Latch name a) ≡ f (Latch name b)) → (next : List ℕ) (xs : List Node) → flat_map f (with_next next xs) ≡ flat_map f xs
with_names f same next [] = refl
with_names f same next (Free name ∷ xs) = ap (λ (l : List (List ℕ)). f (Free name) ++ l) (with_names f same (left_with next (Free name)) xs)
with_names f same next (Latch name old ∷ xs) = ap₂ (λ (a b : List (List ℕ)). a ++ b) (same name _ old) (with_names f same (left_with next (Latch name old)) xs)
with_names f same next (Pad name v r ∷ xs) = ap (λ (l : List (List ℕ)). f (Pad name v r) ++ l) (with_names f same (left_with next (Pad name v r)) xs)
with_names f same next (Gate a b ∷ xs) = ap (λ (l : List (List ℕ)). f (Gate a b) ++ l) (with_names f same (left_with next (Gate a b)) xs)

abbrev some_of : Option SignalTree → List SignalTree
some_of None = []
some_of (Some s) = s ∷ []

-- kinds by their tests
pub input_kind : (kind : SigKind) (clock : Bool) → (is_input kind && not clock) ≡ true → (kind ≡ Input) × (clock ≡ false)
input_kind Input true e = absurd (let h : false ≡ true = e in cc)
input_kind Input false e = (refl, refl)
input_kind PadKind clock e = absurd (let h : false ≡ true = e in cc)
input_kind Wire clock e = absurd (let h : false ≡ true = e in cc)
input_kind Register clock e = absurd (let h : false ≡ true = e in cc)

pub register_kind : (kind : SigKind) → is_register kind ≡ true → kind ≡ Register
register_kind Register e = refl
register_kind Input e = absurd (let h : false ≡ true = e in cc)
register_kind PadKind e = absurd (let h : false ≡ true = e in cc)
register_kind Wire e = absurd (let h : false ≡ true = e in cc)

pub pad_kind : (kind : SigKind) → is_pad kind ≡ true → kind ≡ PadKind
pad_kind PadKind e = refl
pad_kind Input e = absurd (let h : false ≡ true = e in cc)
pad_kind Register e = absurd (let h : false ≡ true = e in cc)
pad_kind Wire e = absurd (let h : false ≡ true = e in cc)

wire_kind : (kind : SigKind) → is_wire kind ≡ true → kind ≡ Wire
wire_kind Wire e = refl
wire_kind Input e = absurd (let h : false ≡ true = e in cc)
wire_kind Register e = absurd (let h : false ≡ true = e in cc)
wire_kind PadKind e = absurd (let h : false ≡ true = e in cc)

module _ (F : FlatTree) (formed : IsFormed F) (identifiers : HasIdentifiers F) (net : Net) (p : IsParted F net) where
  abbrev ports : List (List ℕ)
  ports = flat_map (port_names F) F.ports

  abbrev frees : List (List ℕ)
  frees = flat_map (if_is (has_input F)) F.signals

  abbrev latches : List (List ℕ)
  latches = flat_map (if_is has_latch) F.signals

  abbrev outputs : List (List ℕ)
  outputs = flat_map (if_at F (λ (s : SignalTree). is_wire s.kind)) F.ports

  abbrev pads : List (List ℕ)
  pads = flat_map (if_at F (λ (s : SignalTree). is_pad s.kind)) F.order

  pub nodes_are : net.nodes ≡ with_next (flat_map literals_down p.next) p.all
  nodes_are = ap (λ (n : Net). n.nodes) (sym p.is)

  pub frees_are : flat_map free_name net.nodes ≡ frees
  frees_are = ap (flat_map free_name) nodes_are ∙ with_names free_name (λ name a b. refl) (flat_map literals_down p.next) p.all ∙ (kinds_behind F formed net p).frees

  pub latches_are : flat_map latch_name net.nodes ≡ latches
  latches_are = ap (flat_map latch_name) nodes_are ∙ with_names latch_name (λ name a b. refl) (flat_map literals_down p.next) p.all ∙ (kinds_behind F formed net p).latches

  pub pads_named : flat_map pad_name net.nodes ≡ pads
  pads_named = ap (flat_map pad_name) nodes_are ∙ with_names pad_name (λ name a b. refl) (flat_map literals_down p.next) p.all ∙ (kinds_behind F formed net p).pads ∙ pads_are F formed identifiers F.order

  pub outputs_named : map (λ (o : List ℕ × ℕ). o.0) net.outputs ≡ outputs
  outputs_named =
      ap (λ (n : Net). map (λ (o : List ℕ × ℕ). o.0) n.outputs) (sym p.is)
      ∙ outputs_are F formed identifiers p.signals (λ n s is w. (all_ready F formed p.nodes p.signals (ready_behind F formed net p)).each n s is (λ c. (let f : Wire ≡ Input = sym w ∙ clock_is_input F formed n s is c in cc))) F.ports

  ports_is : net.ports ≡ ports
  ports_is = ap (λ (n : Net). n.ports) (sym p.is)

  -- each is of one kind
  free_of : (name : List ℕ) → IsIn name frees → IsNameOf F formed identifiers (has_input F) name
  free_of name among = name_among F formed identifiers (has_input F) name among

  latch_of : (name : List ℕ) → IsIn name latches → IsNameOf F formed identifiers has_latch name
  latch_of name among = name_among F formed identifiers has_latch name among

  output_of : (name : List ℕ) → IsIn name outputs → (q : IsNameOf F formed identifiers (λ (s : SignalTree). is_wire s.kind) name) × IsIn q.number F.ports
  output_of name among = name_at F formed identifiers (λ (s : SignalTree). is_wire s.kind) F.ports name among

  pad_of : (name : List ℕ) → IsIn name pads → IsNameOf F formed identifiers (λ (s : SignalTree). is_pad s.kind) name
  pad_of name among = (name_at F formed identifiers (λ (s : SignalTree). is_pad s.kind) F.order name among).0

  ports_distinct : AreDistinct F.ports
  ports_distinct = subst AreDistinct (sym formed.ports) (first_distinct (length F.ports))

  port_of : (name : List ℕ) → IsIn name ports → (q : IsNameOf F formed identifiers (any F formed identifiers) name) × IsIn q.number F.ports
  port_of name among = name_at F formed identifiers (any F formed identifiers) F.ports name (subst (IsIn name) (ports_are F formed identifiers F.ports) among)

  free_port : (name : List ℕ) → IsIn name frees → IsIn name ports
  free_port name among =
      let q = free_of name among in
      is_port F formed identifiers (has_input F) name q ((formed.signals q.number q.signal q.is).inputs_are_ports (input_kind q.signal.kind (is_clock_path F.clock q.signal.path) q.holds).0)

  output_port : (name : List ℕ) → IsIn name outputs → IsIn name ports
  output_port name among = let q = output_of name among in is_port F formed identifiers (λ (s : SignalTree). is_wire s.kind) name q.0 q.1

  pad_port : (name : List ℕ) → IsIn name pads → IsIn name ports
  pad_port name among = let q = pad_of name among in is_port F formed identifiers (λ (s : SignalTree). is_pad s.kind) name q ((formed.signals q.number q.signal q.is).pads_are_ports (pad_kind q.signal.kind q.holds))

  ports_apart : (name : List ℕ) → IsIn name ports → IsIn name latches → ⊥
  ports_apart name here there =
      let a = port_of name here in
      let b = latch_of name there in
      let same = one_number F formed identifiers (any F formed identifiers) has_latch name a.0 b in
      (formed.signals b.number b.signal b.is).registers_are_no_ports (register_kind b.signal.kind b.holds) (subst (λ n. IsIn n F.ports) same a.1)

  outputs_apart : (name : List ℕ) → IsIn name outputs → IsIn name pads → ⊥
  outputs_apart name here there =
      let a = (output_of name here).0 in
      let b = pad_of name there in
      let same : Wire ≡ PadKind = sym (wire_kind a.signal.kind a.holds) ∙ one_kind F formed identifiers (λ (s : SignalTree). is_wire s.kind) (λ (s : SignalTree). is_pad s.kind) name a b ∙ pad_kind b.signal.kind b.holds in
      cc

  frees_apart : (name : List ℕ) → IsIn name frees → IsIn name (outputs ++ pads) → ⊥
  frees_apart name here there = elim (in_either name outputs pads there) [
    | inl o ↦ (
        let a = free_of name here in
        let b = (output_of name o).0 in
        let same : Input ≡ Wire = sym (input_kind a.signal.kind (is_clock_path F.clock a.signal.path) a.holds).0 ∙ one_kind F formed identifiers (has_input F) (λ (s : SignalTree). is_wire s.kind) name a b ∙ wire_kind b.signal.kind b.holds in
        cc)
    | inr o ↦ (
        let a = free_of name here in
        let b = pad_of name o in
        let same : Input ≡ PadKind = sym (input_kind a.signal.kind (is_clock_path F.clock a.signal.path) a.holds).0 ∙ one_kind F formed identifiers (has_input F) (λ (s : SignalTree). is_pad s.kind) name a b ∙ pad_kind b.signal.kind b.holds in
        cc)
  ]

  once : AreDistinct (frees ++ (outputs ++ pads))
  once =
      distinct_join frees (outputs ++ pads) (among_distinct F formed identifiers (has_input F))
      (distinct_join outputs pads (at_distinct F formed identifiers (λ (s : SignalTree). is_wire s.kind) F.ports ports_distinct) (at_distinct F formed identifiers (λ (s : SignalTree). is_pad s.kind) F.order formed.order.once) outputs_apart)
      frees_apart

  all_apart : AreDistinct (ports ++ latches)
  all_apart =
      distinct_join ports latches (subst AreDistinct (sym (ports_are F formed identifiers F.ports)) (at_distinct F formed identifiers (any F formed identifiers) F.ports ports_distinct)) (among_distinct F formed identifiers has_latch) ports_apart

  -- the clock is a port, and nothing else
  clock_stands : (clock : Option (List ℕ)) → F.clock ≡ clock → IfSome (clock_name clock) (λ name. IsIn name ports × (IsIn name (frees ++ (outputs ++ pads)) → ⊥))
  clock_stands None is = tt
  clock_stands (Some name) is = (its_port, never)
    where
      h : HasClock F name
      h = subst (λ (o : Option (List ℕ)). IfSome o (HasClock F)) is formed.clock

      no_register : ◌≢◌ {A = SigKind} h.signal.kind Register
      no_register e = (let f : Input ≡ Register = sym h.kind ∙ e in cc)

      its_name : signal_names h.signal ≡ bit_name name 0 ∷ []
      its_name =
          plain_names F formed identifiers h.number h.signal h.is no_register ∙ ap₂ (λ (path : List (List ℕ)) w. names_down (path_text path) w) h.path h.width
          ∙ ap (λ (l : List ℕ). bit_name l 0 ∷ []) (append-nil name)

      its : IsNameOf F formed identifiers (any F formed identifiers) (bit_name name 0)
      its = record { number = h.number; signal = h.signal; is = h.is; holds = refl; among = subst (IsIn (bit_name name 0)) (sym its_name) (inl refl) }

      its_port : IsIn (bit_name name 0) ports
      its_port = is_port F formed identifiers (any F formed identifiers) (bit_name name 0) its h.port

      its_path : is_clock_path F.clock h.signal.path ≡ true
      its_path = ap₂ is_clock_path is h.path ∙ (bytes_eq-Decides name name).1 refl

      no_free : IsIn (bit_name name 0) frees → ⊥
      no_free among =
          let a = free_of (bit_name name 0) among in
          let n : a.number ≡ h.number = one_number F formed identifiers (has_input F) (any F formed identifiers) (bit_name name 0) a its in
          let s : Some a.signal ≡ Some h.signal = sym a.is ∙ ap (slice_get F.signals) n ∙ h.is in
          let same : a.signal ≡ h.signal = some_same a.signal h.signal s in
          let off : is_clock_path F.clock a.signal.path ≡ false = (input_kind a.signal.kind (is_clock_path F.clock a.signal.path) a.holds).1 in
          let both : false ≡ true = sym off ∙ ap (λ (t : SignalTree). is_clock_path F.clock t.path) same ∙ its_path in
          cc

      never : IsIn (bit_name name 0) (frees ++ (outputs ++ pads)) → ⊥
      never among = elim (in_either (bit_name name 0) frees (outputs ++ pads) among) [
        | inl f ↦ no_free f
        | inr more ↦ elim (in_either (bit_name name 0) outputs pads more) [
          | inl o ↦ (
              let b = (output_of (bit_name name 0) o).0 in
              let same : Input ≡ Wire = sym h.kind ∙ one_kind F formed identifiers (any F formed identifiers) (λ (s : SignalTree). is_wire s.kind) (bit_name name 0) its b ∙ wire_kind b.signal.kind b.holds in
              cc)
          | inr o ↦ (
              let b = pad_of (bit_name name 0) o in
              let same : Input ≡ PadKind = sym h.kind ∙ one_kind F formed identifiers (any F formed identifiers) (λ (s : SignalTree). is_pad s.kind) (bit_name name 0) its b ∙ pad_kind b.signal.kind b.holds in
              cc)
        ]
      ]

  -- in whole runs
  pub its_named : (n : ℕ) (s : SignalTree) → IsSignal F n s → IsNamed s × (1 ≤ s.width)
  its_named n s is = (is_named F formed identifiers n s is, (formed.signals n s is).wide.0)

  some_named : (n : ℕ) (o : Option SignalTree) → slice_get F.signals n ≡ o → (s : SignalTree) → IsIn s (some_of o) → IsNamed s × (1 ≤ s.width)
  some_named n None is s among = absurd among
  some_named n (Some t) is s (inl e) = its_named n s (is ∙ ap Some (sym e))
  some_named n (Some t) is s (inr none) = absurd none

  port_runs : AreRuns ports
  port_runs = names_are_runs (port_names F) (λ n. some_of (slice_get F.signals n)) (λ n. by (slice_get F.signals n)) F.ports (λ n among. some_named n (slice_get F.signals n) refl)
    where
      by : (o : Option SignalTree) → names_in o ≡ flat_map signal_names (some_of o)
      by None = refl
      by (Some s) = sym (append-nil (signal_names s))

  latch_runs : AreRuns latches
  latch_runs = names_are_runs (if_is has_latch) (λ s. cond (has_latch s) (s ∷ []) []) (λ s. by s (has_latch s)) F.signals (λ x among s within. named x among s (has_latch x) within)
    where
      by : (s : SignalTree) (t : Bool) → cond t (signal_names s) [] ≡ flat_map signal_names (cond t (s ∷ []) [])
      by s true = sym (append-nil (signal_names s))
      by s false = refl

      named : (x : SignalTree) → IsIn x F.signals → (s : SignalTree) (t : Bool) → IsIn s (cond t (x ∷ []) []) → IsNamed s × (1 ≤ s.width)
      named x among s true (inl e) = let at = place_of x F.signals among in its_named at.0 s (at.1 ∙ ap Some (sym e))
      named x among s true (inr none) = absurd none
      named x among s false none = absurd none

  behind_are : map (λ (o : List ℕ × ℕ). o.0) net.outputs ++ flat_map pad_name net.nodes ≡ outputs ++ pads
  behind_are = ap₂ (λ (a b : List (List ℕ)). a ++ b) outputs_named pads_named

  uses_are : flat_map free_name net.nodes ++ (map (λ (o : List ℕ × ℕ). o.0) net.outputs ++ flat_map pad_name net.nodes) ≡ frees ++ (outputs ++ pads)
  uses_are = ap₂ (λ (a b : List (List ℕ)). a ++ b) frees_are behind_are

  pub named_net : HasBitNames net
  named_net = record {
    formed = net_formed F formed net p;
    distinct = subst AreDistinct (sym (ap₂ (λ (a b : List (List ℕ)). a ++ b) ports_is latches_are)) all_apart;
    ports = subst AreRuns (sym ports_is) port_runs;
    latches = subst AreRuns (sym latches_are) latch_runs;
    frees_in = all_of (λ name. IsIn name net.ports) (flat_map free_name net.nodes) (λ name among. subst (IsIn name) (sym ports_is) (free_port name (subst (IsIn name) frees_are among)));
    outputs_in = all_of (λ (o : List ℕ × ℕ). IsIn o.0 net.ports) net.outputs (λ o among. subst (IsIn o.0) (sym ports_is) (output_port o.0 (subst (IsIn o.0) outputs_named (to_map (λ (x : List ℕ × ℕ). x.0) o net.outputs among))));
    pads_in = all_of (λ name. IsIn name net.ports) (flat_map pad_name net.nodes) (λ name among. subst (IsIn name) (sym ports_is) (pad_port name (subst (IsIn name) pads_named among)));
    once = subst AreDistinct (sym uses_are) once;
    clock = subst (λ (n : Option (List ℕ)). IfSome n (λ name. IsIn name net.ports × (IsIn name (flat_map free_name net.nodes ++ (map (λ (o : List ℕ × ℕ). o.0) net.outputs ++ flat_map pad_name net.nodes)) → ⊥))) (ap (λ (n : Net). n.clock) p.is)
        (subst (λ (l : List (List ℕ)). IfSome (clock_name F.clock) (λ name. IsIn name net.ports × (IsIn name l → ⊥))) (sym uses_are)
        (subst (λ (l : List (List ℕ)). IfSome (clock_name F.clock) (λ name. IsIn name l × (IsIn name (frees ++ (outputs ++ pads)) → ⊥))) (sym ports_is) (clock_stands F.clock refl)));
  }

pub has_bit_names : (F : FlatTree) (net : Net) → IsFormed F → HasIdentifiers F → net_of F ≡ Some net → HasBitNames net
has_bit_names F net formed identifiers made = named_net F formed identifiers net (parted F net made)
