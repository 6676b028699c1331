-- The ports of a lowered net by what they are.
use Rattle.std.proofs.Common.{◌≡◌, ◌≢◌, ◌⊎◌, ℕ, zero, suc, ◌+◌, ◌<◌, ◌≤◌, Bool, true, false, cond, not, ◌&&◌, List, [], ◌∷◌, ◌++◌, length, map, flat_map, take, drop, Option, Some, None, inl, inr, refl, sym, ◌∙◌, ap, ap₂, subst, arith, append-nil, append_assoc, take-append-drop}
use Rattle.std.specs.Prelude.{slice_get, IfSome, bytes_eq}
use Rattle.std.specs.Option.{option_to_list}
use Rattle.std.specs.List.{AllByRecursion}
use Rattle.std.proofs.lemmas.Bool.{cases_Bool, and_parts}
use Rattle.std.proofs.lemmas.Grind.{flat_map-append}
use Rattle.std.proofs.lemmas.List.Folds.{flat_map-map}
use Rattle.std.proofs.lemmas.Slice.Eq.{bytes_eq-Decides}
use Rattle.lola_bits.specs.Lists.{IsIn, AreDistinct}
use Rattle.lola_bits.proofs.All.{all_of}
use Rattle.lola_bits.proofs.Lists.{from_flat_map, to_flat_map, from_map, to_map}
use Rattle.lola_bits.proofs.Options.{some_same}
use Rattle.lola_net.specs.declared.net.Net.{Net}
use Rattle.lola_flat.specs.declared.design.SigKind.{SigKind}
use Rattle.lola_flat.specs.declared.design.SigKind.TheVariants.{Input, Pad, Wire, Register}
use Rattle.lola_flat.specs.Numbers.{first_numbers}
use Rattle.lola_flat.specs.Tree.{SignalTree, FlatTree}
use Rattle.lola_flat.specs.Signals.{IsSignal, IsClock}
use Rattle.lola_flat.specs.Formed.{HasClock, IsFormed}
use Rattle.lola_eval.proofs.Placed.{same_number}
use Rattle.lola_lower.specs.Names.{bit_name, names_down, stem, signal_names, path_text}
use Rattle.lola_lower.specs.Sources.{is_clock_path, is_input, is_pad, is_wire, has_input}
use Rattle.lola_lower.specs.Steps.{port_names, clock_name}
use Rattle.lola_lower.specs.Named.{HasIdentifiers, BitRun, run_names, IsRun, free_name, pad_name}
use Rattle.lola_lower.specs.Standing.{Role, as_input, as_output, as_pad, as_clock, PortRun, port_bits, of_role, FitsRole, IsPortRun, HasPorts}
use Rattle.lola_lower.specs.Standing as role
use Rattle.lola_lower.proofs.Given.{clock_is}
use Rattle.lola_lower.proofs.NameParts.{first_distinct, in_first, IsNamed}
use Rattle.lola_lower.proofs.NamedNet.{frees_are, outputs_named, pads_named, its_named, input_kind, pad_kind}
use Rattle.lola_lower.proofs.NetNames.{if_is, if_in, if_at, IsNameOf, name_at, any, ports_are, plain_names}
use Rattle.lola_lower.proofs.Parted.{IsParted}
use Rattle.lola_lower.proofs.Runs.{element_run, runs_of, are_runs}

-- what a signal is as a port; registers are none
abbrev role_by : SigKind → Bool → Role
role_by Input clock = cond clock as_clock as_input
role_by Pad clock = as_pad
role_by Wire clock = as_output
role_by Register clock = as_output

flat_same : {X Y : Type 0} (f g : X → List Y) (xs : List X) → ((x : X) → IsIn x xs → f x ≡ g x) → flat_map f xs ≡ flat_map g xs
flat_same f g [] same = refl
flat_same f g (x ∷ xs) same = ap₂ (λ a b. a ++ b) (same x (inl refl)) (flat_same f g xs (λ y among. same y (inr among)))

flat_flat : {X Y Z : Type 0} (h : Y → List Z) (g : X → List Y) (xs : List X) → flat_map h (flat_map g xs) ≡ flat_map (λ x. flat_map h (g x)) xs
flat_flat h g [] = refl
flat_flat h g (x ∷ xs) = flat_map-append h (g x) (flat_map g xs) ∙ ap (λ l. flat_map h (g x) ++ l) (flat_flat h g xs)

-- where one item alone gives something
one_alone : {Y : Type 0} (g : ℕ → List Y) (ns : List ℕ) (n : ℕ) → AreDistinct ns → IsIn n ns → ((m : ℕ) → IsIn m ns → m ≢ n → g m ≡ []) → flat_map g ns ≡ g n
one_alone g [] n distinct among none = absurd among
one_alone g (m ∷ ns) n distinct (inl e) none =
    ap₂ (λ a b. a ++ b) (ap g (sym e)) (nothing ns (λ k there. none k (inr there) (λ f. distinct.0 (subst (λ j. IsIn j ns) (f ∙ e) there)))) ∙ append-nil (g n)
  where
    nothing : (ks : List ℕ) → ((k : ℕ) → IsIn k ks → g k ≡ []) → flat_map g ks ≡ []
    nothing [] each = refl
    nothing (k ∷ ks) each = ap₂ (λ a b. a ++ b) (each k (inl refl)) (nothing ks (λ j there. each j (inr there)))
one_alone g (m ∷ ns) n distinct (inr among) none =
    ap₂ (λ a b. a ++ b) (none m (inl refl) (λ e. distinct.0 (subst (λ j. IsIn j ns) (sym e) among))) (one_alone g ns n distinct.1 among (λ k there. none k (inr there)))

-- the signals of the first numbers
pub if_none : (test : SignalTree → Bool) (zs : List SignalTree) → ((n : ℕ) (s : SignalTree) → slice_get zs n ≡ Some s → test s ≡ true → ⊥) → flat_map (if_is test) zs ≡ []
if_none test [] never = refl
if_none test (z ∷ zs) never = ap₂ (λ (a b : List (List ℕ)). a ++ b) (here (test z) refl) (if_none test zs (λ n. never (suc n)))
  where
    here : (t : Bool) → test z ≡ t → cond t (signal_names z) [] ≡ []
    here true e = absurd (never 0 z refl e)
    here false e = refl

one_more : (test : SignalTree → Bool) (zs : List SignalTree) (k : ℕ) → flat_map (if_is test) (take (suc k) zs) ≡ flat_map (if_is test) (take k zs) ++ if_in test (slice_get zs k)
one_more test [] zero = refl
one_more test [] (suc k) = refl
one_more test (z ∷ zs) zero = append-nil (if_is test z)
one_more test (z ∷ zs) (suc k) =
    ap (λ (l : List (List ℕ)). if_is test z ++ l) (one_more test zs k) ∙ sym (append_assoc (if_is test z) (flat_map (if_is test) (take k zs)) (if_in test (slice_get zs k)))

first_ones : (test : SignalTree → Bool) (zs : List SignalTree) (k : ℕ) → flat_map (λ (n : ℕ). if_in test (slice_get zs n)) (first_numbers k) ≡ flat_map (if_is test) (take k zs)
first_ones test zs zero = refl
first_ones test zs (suc k) =
    flat_map-append (λ (n : ℕ). if_in test (slice_get zs n)) (first_numbers k) (k ∷ [])
    ∙ ap₂ (λ (a b : List (List ℕ)). a ++ b) (first_ones test zs k) (append-nil (if_in test (slice_get zs k))) ∙ sym (one_more test zs k)

behind_first : (zs : List SignalTree) (k n : ℕ) (s : SignalTree) → slice_get (drop k zs) n ≡ Some s → slice_get zs (k + n) ≡ Some s
behind_first zs zero n s is = ap (slice_get zs) (let e : 0 + n ≡ n = omega arith in e) ∙ is
behind_first [] (suc k) n s is = absurd (let e : None ≡ Some s = is in cc)
behind_first (z ∷ zs) (suc k) n s is = ap (slice_get (z ∷ zs)) (let e : suc k + n ≡ suc (k + n) = omega arith in e) ∙ behind_first zs k n s is

module _ (F : FlatTree) (formed : IsFormed F) (identifiers : HasIdentifiers F) (net : Net) (p : IsParted F net) where
  abbrev role_of : SignalTree → Role
  role_of s = role_by s.kind (is_clock_path F.clock s.path)

  abbrev port_run : SignalTree → ℕ → PortRun
  port_run s element = record { role = role_of s; run = element_run s element }

  abbrev port_runs : Option SignalTree → List PortRun
  port_runs None = []
  port_runs (Some s) = map (port_run s) (first_numbers s.count)

  abbrev all_runs : List PortRun
  all_runs = flat_map (λ (n : ℕ). port_runs (slice_get F.signals n)) F.ports

  -- the names of ports of some roles are those of signals that have them
  of_runs : (among : Role → Bool) (o : Option SignalTree) → of_role among (port_runs o) ≡ if_in (λ (s : SignalTree). among (role_of s)) o
  of_runs among None = refl
  of_runs among (Some s) = flat_map-map (λ (q : PortRun). cond (among q.role) (port_bits q) []) (port_run s) (first_numbers s.count) ∙ by (among (role_of s)) (first_numbers s.count)
    where
      by : (t : Bool) (xs : List ℕ) → flat_map (λ (element : ℕ). cond t (names_down (stem s element) s.width) []) xs ≡ cond t (flat_map (λ (element : ℕ). names_down (stem s element) s.width) xs) []
      by true xs = refl
      by false [] = refl
      by false (x ∷ xs) = by false xs

  of_all_runs : (among : Role → Bool) → of_role among all_runs ≡ flat_map (if_at F (λ (s : SignalTree). among (role_of s))) F.ports
  of_all_runs among =
      flat_flat (λ (q : PortRun). cond (among q.role) (port_bits q) []) (λ (n : ℕ). port_runs (slice_get F.signals n)) F.ports
      ∙ (λ i. flat_map (λ (n : ℕ). of_runs among (slice_get F.signals n) i) F.ports)

  -- where a test says the same of ports
  of_test : (among : Role → Bool) (test : SignalTree → Bool) → ((n : ℕ) (s : SignalTree) → IsIn n F.ports → IsSignal F n s → test s ≡ among (role_of s)) → flat_map (if_at F test) F.ports ≡ of_role among all_runs
  of_test among test same =
      flat_same (if_at F test) (if_at F (λ (s : SignalTree). among (role_of s))) F.ports (λ n there. by n there (slice_get F.signals n) refl) ∙ sym (of_all_runs among)
    where
      by : (n : ℕ) → IsIn n F.ports → (o : Option SignalTree) → slice_get F.signals n ≡ o → if_in test o ≡ if_in (λ (s : SignalTree). among (role_of s)) o
      by n there None is = refl
      by n there (Some s) is = ap (λ t. cond t (signal_names s) []) (same n s there is)

  ports_all : flat_map (port_names F) F.ports ≡ flat_map port_bits all_runs
  ports_all = ports_are F formed identifiers F.ports ∙ of_test (λ r. true) (any F formed identifiers) (λ n s there is. refl)

  outputs_all : flat_map (if_at F (λ (s : SignalTree). is_wire s.kind)) F.ports ≡ of_role role.is_output all_runs
  outputs_all = of_test role.is_output (λ (s : SignalTree). is_wire s.kind) (λ n s there is. by n s there is s.kind refl (is_clock_path F.clock s.path))
    where
      by : (n : ℕ) (s : SignalTree) → IsIn n F.ports → IsSignal F n s → (k : SigKind) → s.kind ≡ k → (clock : Bool) → is_wire k ≡ role.is_output (role_by k clock)
      by n s there is Input e true = refl
      by n s there is Input e false = refl
      by n s there is Pad e clock = refl
      by n s there is Wire e clock = refl
      by n s there is Register e clock = absurd ((formed.signals n s is).registers_are_no_ports e there)

  pads_all : flat_map (if_at F (λ (s : SignalTree). is_pad s.kind)) F.ports ≡ of_role role.is_pad all_runs
  pads_all = of_test role.is_pad (λ (s : SignalTree). is_pad s.kind) (λ n s there is. by s.kind (is_clock_path F.clock s.path))
    where
      by : (k : SigKind) (clock : Bool) → is_pad k ≡ role.is_pad (role_by k clock)
      by Input true = refl
      by Input false = refl
      by Pad clock = refl
      by Wire clock = refl
      by Register clock = refl

  inputs_all : flat_map (if_is (has_input F)) F.signals ≡ of_role role.is_input all_runs
  inputs_all =
      ap (flat_map (if_is (has_input F))) (sym (take-append-drop (length F.ports) F.signals))
      ∙ flat_map-append (if_is (has_input F)) (take (length F.ports) F.signals) (drop (length F.ports) F.signals)
      ∙ ap₂ (λ (a b : List (List ℕ)). a ++ b) (sym (first_ones (has_input F) F.signals (length F.ports))) (if_none (has_input F) (drop (length F.ports) F.signals) never)
      ∙ append-nil (flat_map (if_at F (has_input F)) (first_numbers (length F.ports)))
      ∙ ap (flat_map (if_at F (has_input F))) (sym formed.ports)
      ∙ of_test role.is_input (has_input F) (λ n s there is. by s.kind (is_clock_path F.clock s.path))
    where
      by : (k : SigKind) (clock : Bool) → (is_input k && not clock) ≡ role.is_input (role_by k clock)
      by Input true = refl
      by Input false = refl
      by Pad clock = refl
      by Wire clock = refl
      by Register clock = refl

      never : (n : ℕ) (s : SignalTree) → slice_get (drop (length F.ports) F.signals) n ≡ Some s → has_input F s ≡ true → ⊥
      never n s is has =
          let at = behind_first F.signals (length F.ports) n s is in
          let port = (formed.signals (length F.ports + n) s at).inputs_are_ports (input_kind s.kind (is_clock_path F.clock s.path) has).0 in
          let within = in_first (length F.ports) (length F.ports + n) (subst (IsIn (length F.ports + n)) formed.ports port) in
          omega arith

  -- the clock
  clock_all : (clock : Option (List ℕ)) → F.clock ≡ clock → option_to_list (clock_name clock) ≡ flat_map (if_at F (λ (s : SignalTree). role.is_clock (role_of s))) F.ports
  clock_all None is = sym (nothing F.ports)
    where
      by : (k : SigKind) → role.is_clock (role_by k false) ≡ false
      by Input = refl
      by Pad = refl
      by Wire = refl
      by Register = refl

      at : (o : Option SignalTree) → if_in (λ (s : SignalTree). role.is_clock (role_of s)) o ≡ []
      at None = refl
      at (Some s) = ap (λ (c : Option (List ℕ)). cond (role.is_clock (role_by s.kind (is_clock_path c s.path))) (signal_names s) []) is ∙ ap (λ t. cond t (signal_names s) []) (by s.kind)

      nothing : (ns : List ℕ) → flat_map (if_at F (λ (s : SignalTree). role.is_clock (role_of s))) ns ≡ []
      nothing [] = refl
      nothing (n ∷ ns) = ap₂ (λ (a b : List (List ℕ)). a ++ b) (at (slice_get F.signals n)) (nothing ns)
  clock_all (Some name) is =
      sym (one_alone (if_at F (λ (s : SignalTree). role.is_clock (role_of s))) F.ports h.number (subst AreDistinct (sym formed.ports) (first_distinct (length F.ports))) h.port others ∙ here)
    where
      h : HasClock F name
      h = subst (λ (o : Option (List ℕ)). IfSome o (HasClock F)) is formed.clock

      its_path : is_clock_path F.clock h.signal.path ≡ true
      its_path = ap₂ is_clock_path is h.path ∙ (bytes_eq-Decides name name).1 refl

      here : if_at F (λ (s : SignalTree). role.is_clock (role_of s)) h.number ≡ bit_name name 0 ∷ []
      here =
          ap (if_in (λ (s : SignalTree). role.is_clock (role_of s))) h.is
          ∙ ap₂ (λ k c. cond (role.is_clock (role_by k c)) (signal_names h.signal) []) h.kind its_path
          ∙ plain_names F formed identifiers h.number h.signal h.is (λ e. (let f : Input ≡ Register = sym h.kind ∙ e in cc))
          ∙ ap₂ (λ (path : List (List ℕ)) w. names_down (path_text path) w) h.path h.width ∙ ap (λ (l : List ℕ). bit_name l 0 ∷ []) (append-nil name)

      others : (m : ℕ) → IsIn m F.ports → m ≢ h.number → if_at F (λ (s : SignalTree). role.is_clock (role_of s)) m ≡ []
      others m there other = at (slice_get F.signals m) refl
        where
          by : (k : SigKind) → role.is_clock (role_by k false) ≡ false
          by Input = refl
          by Pad = refl
          by Wire = refl
          by Register = refl

          at : (o : Option SignalTree) → slice_get F.signals m ≡ o → if_in (λ (s : SignalTree). role.is_clock (role_of s)) o ≡ []
          at None its = refl
          at (Some s) its = elim (cases_Bool (is_clock_path F.clock s.path)) [
            | inl y ↦ (
                let c = clock_is F s y in
                let one : c.0 ≡ name = some_same c.0 name (sym c.1.0 ∙ is) in
                absurd (other (same_number F.signals m h.number s h.signal formed.paths its h.is (c.1.1 ∙ ap (λ (x : List ℕ). x ∷ []) one ∙ sym h.path))))
            | inr z ↦ ap (λ c. cond (role.is_clock (role_by s.kind c)) (signal_names s) []) z ∙ ap (λ t. cond t (signal_names s) []) (by s.kind)
          ]

  -- each is a run, and the clock has one bit
  run_fits : (n : ℕ) (s : SignalTree) → IsSignal F n s → FitsRole (role_of s) s.width
  run_fits n s is = by s.kind refl (is_clock_path F.clock s.path) refl
    where
      by : (k : SigKind) → s.kind ≡ k → (c : Bool) → is_clock_path F.clock s.path ≡ c → FitsRole (role_by k c) s.width
      by Input e false f = tt
      by Input e true f = clock_width
        where
          clock_width : s.width ≡ 1
          clock_width =
              let c = clock_is F s f in
              let h : HasClock F c.0 = subst (λ (o : Option (List ℕ)). IfSome o (HasClock F)) c.1.0 formed.clock in
              let same : h.number ≡ n = same_number F.signals h.number n h.signal s formed.paths h.is is (h.path ∙ sym c.1.1) in
              let one : h.signal ≡ s = some_same h.signal s (sym h.is ∙ ap (slice_get F.signals) same ∙ is) in
              ap (λ (t : SignalTree). t.width) (sym one) ∙ h.width
      by Pad e c f = tt
      by Wire e c f = tt
      by Register e c f = tt

  run_is : (q : PortRun) → IsIn q all_runs → IsPortRun q
  run_is q among =
      let found = from_flat_map (λ (n : ℕ). port_runs (slice_get F.signals n)) q F.ports among in
      by found.0 (slice_get F.signals found.0) refl found.2
    where
      by : (n : ℕ) (o : Option SignalTree) → slice_get F.signals n ≡ o → IsIn q (port_runs o) → IsPortRun q
      by n None is there = absurd there
      by n (Some s) is there =
          let e = from_map (port_run s) q (first_numbers s.count) there in
          let named = its_named F formed identifiers net p n s is in
          subst IsPortRun (sym e.2) (are_runs s named.0 named.1 (element_run s e.0) (to_map (element_run s) e.0 (first_numbers s.count) e.1), run_fits n s is)

  pad_names : (name : List ℕ) → IsIn name (flat_map (if_at F (λ (s : SignalTree). is_pad s.kind)) F.order) → IsIn name (flat_map (if_at F (λ (s : SignalTree). is_pad s.kind)) F.ports)
  pad_names name among =
      let q = (name_at F formed identifiers (λ (s : SignalTree). is_pad s.kind) F.order name among).0 in
      to_flat_map (if_at F (λ (s : SignalTree). is_pad s.kind)) name q.number F.ports ((formed.signals q.number q.signal q.is).pads_are_ports (pad_kind q.signal.kind q.holds))
      (subst (λ (o : Option SignalTree). IsIn name (if_in (λ (s : SignalTree). is_pad s.kind) o)) (sym q.is) (subst (λ t. IsIn name (cond t (signal_names q.signal) [])) (sym q.holds) q.among))

  order_names : (name : List ℕ) → IsIn name (flat_map (if_at F (λ (s : SignalTree). is_pad s.kind)) F.ports) → IsIn name (flat_map (if_at F (λ (s : SignalTree). is_pad s.kind)) F.order)
  order_names name among =
      let q = (name_at F formed identifiers (λ (s : SignalTree). is_pad s.kind) F.ports name among).0 in
      to_flat_map (if_at F (λ (s : SignalTree). is_pad s.kind)) name q.number F.order (formed.order.pads q.number (q.signal, (q.is, pad_kind q.signal.kind q.holds)))
      (subst (λ (o : Option SignalTree). IsIn name (if_in (λ (s : SignalTree). is_pad s.kind) o)) (sym q.is) (subst (λ t. IsIn name (cond t (signal_names q.signal) [])) (sym q.holds) q.among))

  pub has_ports : HasPorts net
  has_ports = record {
    runs = all_runs;
    each = all_of IsPortRun all_runs run_is;
    ports = ap (λ (n : Net). n.ports) (sym p.is) ∙ ports_all;
    inputs = frees_are F formed identifiers net p ∙ inputs_all;
    outputs = outputs_named F formed identifiers net p ∙ outputs_all;
    pads = λ name among. subst (IsIn name) pads_all (pad_names name (subst (IsIn name) (pads_named F formed identifiers net p) among));
    all_pads = λ name among. subst (IsIn name) (sym (pads_named F formed identifiers net p)) (order_names name (subst (IsIn name) (sym pads_all) among));
    clock = ap (λ (n : Net). option_to_list n.clock) (sym p.is) ∙ clock_all F.clock refl ∙ of_all_runs_back;
  }
    where
      of_all_runs_back : flat_map (if_at F (λ (s : SignalTree). role.is_clock (role_of s))) F.ports ≡ of_role role.is_clock all_runs
      of_all_runs_back = sym (of_all_runs role.is_clock)
