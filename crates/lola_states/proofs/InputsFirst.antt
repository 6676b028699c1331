-- The ports of the root stand before all other signals, so what the input gives stands before what the state gives.
use Rattle.std.proofs.Common.{◌≡◌, ◌≢◌, ℕ, List, [], ◌∷◌, ◌++◌, map, flat_map, reverse, inl, inr, refl, sym, ◌∙◌, ap, ap₂, append_assoc}
use Rattle.std.proofs.lemmas.List.{map-append}
use Rattle.std.proofs.lemmas.Grind.{flat_map-append}
use Rattle.lola_bits.specs.Lists.{IsIn}
use Rattle.lola_flat.specs.Numbers.{first_numbers}
use Rattle.lola_tree.specs.Tree.{ModuleTree, SourceTree}
use Rattle.lola_tree.specs.Names.{names_of}
use Rattle.lola_tree.specs.Value.{Values}
use Rattle.lola_tree.specs.design.Clocks.{clocks_in, clock_ports}
use Rattle.lola_tree.specs.design.Signals.{Kind, clock, input, pad, wire, register, Signal, signals, root_signals, root_ports, local_signals, signals_inside, elements}
use Rattle.lola_meaning.specs.Tables.{elements_of, stored_by, state_of}
use Rattle.lola_meaning.proofs.RootPorts.{IsOuter, roots_are, locals_inside, all_inside}
use Rattle.lola_states.specs.States.{Element, element_of, all_elements, free_by, free_elements, free_of, if_input, if_register, input_elements, register_elements, value_at, values_at, value_in, case_of, numbers_in}
use Rattle.lola_states.proofs.Elements.{values_are}

-- lists that signals make
same_lists : {X Y : Type 0} (f g : X → List Y) (xs : List X) → ((x : X) → IsIn x xs → f x ≡ g x) → flat_map f xs ≡ flat_map g xs
same_lists f g [] same = refl
same_lists f g (x ∷ xs) same = ap₂ (λ a b. a ++ b) (same x (inl refl)) (same_lists f g xs (λ y later. same y (inr later)))

no_lists : {X Y : Type 0} (f : X → List Y) (xs : List X) → ((x : X) → IsIn x xs → f x ≡ []) → flat_map f xs ≡ []
no_lists f [] none = refl
no_lists f (x ∷ xs) none = ap₂ (λ a b. a ++ b) (none x (inl refl)) (no_lists f xs (λ y later. none y (inr later)))

-- a port of the root is no register
port_free : (k : Kind) (each : List Element) → k ≢ register → free_by k each ≡ if_input k each
port_free clock each other = refl
port_free input each other = refl
port_free pad each other = refl
port_free wire each other = refl
port_free register each other = absurd (other refl)

port_stored : (k : Kind) (each : List Element) → k ≢ register → if_register k each ≡ []
port_stored clock each other = refl
port_stored input each other = refl
port_stored pad each other = refl
port_stored wire each other = refl
port_stored register each other = absurd (other refl)

-- and what is no port of it is no input and no pad
inner_free : (k : Kind) (each : List Element) → (IsOuter k → ⊥) → free_by k each ≡ if_register k each
inner_free clock each inner = refl
inner_free input each inner = absurd (inner tt)
inner_free pad each inner = absurd (inner tt)
inner_free wire each inner = refl
inner_free register each inner = refl

inner_entered : (k : Kind) (each : List Element) → (IsOuter k → ⊥) → if_input k each ≡ []
inner_entered clock each inner = refl
inner_entered input each inner = absurd (inner tt)
inner_entered pad each inner = absurd (inner tt)
inner_entered wire each inner = refl
inner_entered register each inner = refl

abbrev entered : Signal → List Element
entered x = if_input x.kind (all_elements x)

abbrev stored : Signal → List Element
stored x = if_register x.kind (all_elements x)

ordered : (front behind : List Signal) → ((x : Signal) → IsIn x front → x.kind ≢ register) → ((x : Signal) → IsIn x behind → IsOuter x.kind → ⊥) →
    flat_map free_elements (front ++ behind) ≡ flat_map entered (front ++ behind) ++ flat_map stored (front ++ behind)
ordered front behind ports inner =
    let a = same_lists free_elements entered front (λ x there. port_free x.kind (all_elements x) (ports x there)) in
    let b = same_lists free_elements stored behind (λ x there. inner_free x.kind (all_elements x) (inner x there)) in
    let c = no_lists entered behind (λ x there. inner_entered x.kind (all_elements x) (inner x there)) in
    let d = no_lists stored front (λ x there. port_stored x.kind (all_elements x) (ports x there)) in
    flat_map-append free_elements front behind ∙ ap₂ (λ (k l : List Element). k ++ l) a b
    ∙ sym (append_assoc (flat_map entered front) [] (flat_map stored behind))
    ∙ sym (ap₂ (λ (k l : List Element). k ++ l) (flat_map-append entered front behind ∙ ap (λ (l : List Element). flat_map entered front ++ l) c)
    (flat_map-append stored front behind ∙ ap (λ (l : List Element). l ++ flat_map stored behind) d))

of_root : (ms : List ModuleTree) → flat_map free_elements (root_signals ms) ≡ flat_map entered (root_signals ms) ++ flat_map stored (root_signals ms)
of_root [] = refl
of_root (m ∷ earlier) =
    let clocks : List (List ℕ) = clocks_in (clock_ports earlier) m in
    ordered (root_ports (names_of m) clocks m.ports) (local_signals (signals_inside earlier) (names_of m) [] m.locals)
    (λ x there. (roots_are (names_of m) clocks m.ports x there).stored)
    (λ x there. (locals_inside (signals_inside earlier) (all_inside earlier) (names_of m) [] m.locals x there).inner)

pub inputs_first : (S : SourceTree) → free_of S ≡ input_elements S ++ register_elements S
inputs_first S = of_root (reverse S.modules)

-- values of elements of a signal
values_of_one : (v : Values) (x : Signal) (ns : List ℕ) → values_at v (map (element_of x) ns) ≡ map (v x.path) ns
values_of_one v x [] = refl
values_of_one v x (n ∷ ns) = ap (λ (l : List ℕ). v x.path n ∷ l) (values_of_one v x ns)

abbrev numbers_of : Signal → List ℕ
numbers_of x = first_numbers (elements x.names x.type)

entered_one : (s inp : Values) (x : Signal) (k : Kind) → x.kind ≡ k → map (value_in s inp) (if_input k (all_elements x)) ≡ values_at inp (if_input k (all_elements x))
entered_one s inp x clock kind = refl
entered_one s inp x input kind = values_are s inp x input kind (numbers_of x) ∙ sym (values_of_one inp x (numbers_of x))
entered_one s inp x pad kind = values_are s inp x pad kind (numbers_of x) ∙ sym (values_of_one inp x (numbers_of x))
entered_one s inp x wire kind = refl
entered_one s inp x register kind = refl

stored_one : (s inp : Values) (x : Signal) (k : Kind) → x.kind ≡ k → map (value_in s inp) (if_register k (all_elements x)) ≡ values_at s (if_register k (all_elements x))
stored_one s inp x clock kind = refl
stored_one s inp x input kind = refl
stored_one s inp x pad kind = refl
stored_one s inp x wire kind = refl
stored_one s inp x register kind = values_are s inp x register kind (numbers_of x) ∙ sym (values_of_one s x (numbers_of x))

-- what is the same signal by signal
each_mapped : {X Y Z : Type 0} (f g : Y → Z) (h : X → List Y) (xs : List X) → ((x : X) → map f (h x) ≡ map g (h x)) → map f (flat_map h xs) ≡ map g (flat_map h xs)
each_mapped f g h [] same = refl
each_mapped f g h (x ∷ xs) same =
    map-append f (h x) (flat_map h xs) ∙ ap₂ (λ a b. a ++ b) (same x) (each_mapped f g h xs same) ∙ sym (map-append g (h x) (flat_map h xs))

pub case_is : (S : SourceTree) (s inp : Values) → case_of S s inp ≡ values_at inp (input_elements S) ++ values_at s (register_elements S)
case_is S s inp =
    ap (map (value_in s inp)) (inputs_first S) ∙ map-append (value_in s inp) (input_elements S) (register_elements S)
    ∙ ap₂ (λ (k l : List ℕ). k ++ l) (each_mapped (value_in s inp) (value_at inp) entered (signals S) (λ x. entered_one s inp x x.kind refl))
    (each_mapped (value_in s inp) (value_at s) stored (signals S) (λ x. stored_one s inp x x.kind refl))

-- and in the table of a state stand the values of registers
row_of : (s : Values) (x : Signal) (k : Kind) → values_at s (if_register k (all_elements x)) ≡ stored_by k (elements_of s x)
row_of s x clock = refl
row_of s x input = refl
row_of s x pad = refl
row_of s x wire = refl
row_of s x register = values_of_one s x (numbers_of x)

rows_of : (s : Values) (xs : List Signal) → values_at s (flat_map stored xs) ≡ numbers_in (map (λ (x : Signal). stored_by x.kind (elements_of s x)) xs)
rows_of s [] = refl
rows_of s (x ∷ xs) = map-append (value_at s) (stored x) (flat_map stored xs) ∙ ap₂ (λ (k l : List ℕ). k ++ l) (row_of s x x.kind) (rows_of s xs)

pub state_is : (S : SourceTree) (s : Values) → values_at s (register_elements S) ≡ numbers_in (state_of S s)
state_is S s = rows_of s (signals S)
