-- What a design of vectors does, over the names of its inputs and registers.
use Rattle.std.proofs.Common.{◌≡◌, ℕ, suc, ◌+◌, ◌*◌, ◌≤◌, true, false, List, [], ◌∷◌, ◌++◌, length, map, Option, Some, None, refl, sym, ap, ap₂, ◌∙◌, subst, arith, inl, inr, ◌⊎◌}
use Rattle.std.proofs.lemmas.List.{map-append, length-map}
use Rattle.std.specs.Prelude.{filter, ◌&&◌, not, string_bytes, bytes_eq}
use Rattle.std.proofs.lemmas.Bool.{cases_Bool}
use Rattle.lola_bits.specs.Lists.{IsIn, AreDistinct}
use Rattle.lola_bits.specs.Names.{is_among}
use Rattle.lola_bits.proofs.Lists.{distinct_front, distinct_back, distinct_filter, filter_few}
use Rattle.lola_bits.proofs.Names.{same_name, is_same_name}
use Rattle.lola_tree.specs.declared.named.Shape.{Shape}
use Rattle.lola_tree.specs.declared.named.Shape.TheVariants as shape
use Rattle.lola_tree.specs.declared.module.Port.{Port}
use Rattle.lola_tree.specs.declared.module.LocalKind.{LocalKind}
use Rattle.lola_tree.specs.declared.module.LocalKind.TheVariants.{Reg, Var, Inst}
use Rattle.lola_tree.specs.declared.module.Local.{Local}
use Rattle.lola_tree.specs.Tree.{ModuleTree, SourceTree}
use Rattle.lola_tree.specs.Names.{Names, Entry, entry_shape, kind_shape, names_of, count_number, local, port, constant}
use Rattle.lola_tree.specs.Width.{vector_width, entry_width}
use Rattle.lola_tree.specs.Value.{Path, Values, or_zero}
use Rattle.lola_tree.specs.Cycle.{IsRoot, IsRegisterOf, IsInputOf, IsRegister, IsInput, FitsIn, IsState, IsGiven, Cycle, Next}
use Rattle.lola_tree.specs.Signals.{is_inward, clock_names, name_of_register, input_names, register_names, values_of, root_inputs, root_registers}
use Rattle.lola_elab.specs.declared.design.Design.{Design}
use Rattle.lola_elab.specs.declared.flat.Flat.{Flat}
use Rattle.lola_elab.specs.declared.vector.Vector.{Vector}
use Rattle.lola_elab.specs.Flat.{flat_number}
use Rattle.lola_elab.specs.Small.{IsSmallModule, IsSmallSource}
use Rattle.lola_elab.specs.Elaborated.{leaf_names, vector_names, vector_widths, leaf_widths, Elaborates}
use Rattle.lola_elab.proofs.Entries.{port_named, local_named, entry_names}
use Rattle.lola_elab.proofs.Names.{is_register, is_input, register_listed, input_listed}
use Rattle.lola_elab.proofs.Roots.{root_is}
use Rattle.lola_elab.proofs.Widths.{checked_is, number_in}
use Rattle.lola_app.specs.Obligations.{root_width, total}
use Rattle.lola_app.specs.Small.{width_in}
use Rattle.lola_app.specs.Valuations.{AreWithin}
use Rattle.lola_app.proofs.Leaves.{values_agree, valued, value_under, read_back, within_long}

of_local : (kind : LocalKind) (own name : List ℕ) (xs ys : List (List ℕ)) → (IsIn name xs → IsIn name ys) → IsIn name (name_of_register kind own ++ xs) → (name ≡ own) ⊎ IsIn name ys
of_local (Reg clock type) own name xs ys later (inl same) = inl same
of_local (Reg clock type) own name xs ys later (inr more) = inr (later more)
of_local (Var type) own name xs ys later is = inr (later is)
of_local (Inst of) own name xs ys later is = inr (later is)

named_local : (locals : List Local) (name : List ℕ) → IsIn name (register_names locals) → IsIn name (map (λ (l : Local). l.name) locals)
named_local [] name is = absurd is
named_local (l ∷ ls) name is = of_local l.kind l.name name (register_names ls) (map (λ (l : Local). l.name) ls) (named_local ls name) is

distinct_kind : (kind : LocalKind) (own : List ℕ) (xs : List (List ℕ)) → (IsIn own xs → ⊥) → AreDistinct xs → AreDistinct (name_of_register kind own ++ xs)
distinct_kind (Reg clock type) own xs absent distinct = (absent, distinct)
distinct_kind (Var type) own xs absent distinct = distinct
distinct_kind (Inst of) own xs absent distinct = distinct

distinct_locals : (locals : List Local) → AreDistinct (map (λ (l : Local). l.name) locals) → AreDistinct (register_names locals)
distinct_locals [] distinct = tt
distinct_locals (l ∷ ls) distinct = distinct_kind l.kind l.name (register_names ls) (λ is. distinct.0 (named_local ls l.name is)) (distinct_locals ls distinct.1)

inputs_distinct : (m : ModuleTree) → IsSmallModule m → AreDistinct (input_names m)
inputs_distinct m small =
    distinct_filter (λ (p : Port). p.name) (λ (p : Port). is_inward p.way && not (is_among (clock_names m.locals) p.name)) m.ports
    (distinct_front (map (λ (p : Port). p.name) m.ports) _ (subst AreDistinct (entry_names m.ports m.consts m.locals) small.distinct))

registers_distinct : (m : ModuleTree) → IsSmallModule m → AreDistinct (register_names m.locals)
registers_distinct m small =
    distinct_locals m.locals (distinct_back _ (map (λ (l : Local). l.name) m.locals)
    (distinct_back (map (λ (p : Port). p.name) m.ports) _ (subst AreDistinct (entry_names m.ports m.consts m.locals) small.distinct)))

few_registers : (ls : List Local) → length (register_names ls) ≤ length ls
few_registers [] = omega arith
few_registers (l ∷ ls) = more l.kind (few_registers ls)
  where
    more : (kind : LocalKind) → length (register_names ls) ≤ length ls → length (name_of_register kind l.name ++ register_names ls) ≤ suc (length ls)
    more (Reg clock type) h = omega arith
    more (Var type) h = omega arith
    more (Inst of) h = omega arith

few_leaves : (m : ModuleTree) → IsSmallModule m → length (input_names m) + length (register_names m.locals) ≤ 65536
few_leaves m small =
    let a = filter_few (λ (p : Port). is_inward p.way && not (is_among (clock_names m.locals) p.name)) m.ports in
    let b = length-map (filter (λ (p : Port). is_inward p.way && not (is_among (clock_names m.locals) p.name)) m.ports) (λ (p : Port). p.name) in
    let c = few_registers m.locals in
    let d = small.few_signals in
    omega (arith, a, b, c, d)

-- the width of a name in a module, where it has one
abbrev width_of : ModuleTree → List ℕ → Option ℕ
width_of m name = entry_width (names_of m) (names_of m name)

-- the widths of two parts
split_maps : {X Y Z : Type 0} (f : X → Z) (g : Y → Z) (xs xs' : List X) (ys ys' : List Y) → length xs ≡ length ys → map f (xs ++ xs') ≡ map g (ys ++ ys') → (map f xs ≡ map g ys) × (map f xs' ≡ map g ys')
split_maps f g [] xs' [] ys' long e = (refl, e)
split_maps f g [] xs' (y ∷ ys) ys' long e = absurd (omega arith)
split_maps f g (x ∷ xs) xs' [] ys' long e = absurd (omega arith)
split_maps f g (x ∷ xs) xs' (y ∷ ys) ys' long e =
    let head : f x ≡ g y = cc in
    let tail : map f (xs ++ xs') ≡ map g (ys ++ ys') = cc in
    let more = split_maps f g xs xs' ys ys' (omega arith) tail in
    (ap₂ (λ z zs. z ∷ zs) head more.0, more.1)

some_widths : (E : List ℕ → Option ℕ) (ws : List ℕ) (names : List (List ℕ)) → map (λ (w : ℕ). Some w) ws ≡ map E names → ws ≡ map (λ (name : List ℕ). or_zero (E name)) names
some_widths E [] [] e = refl
some_widths E [] (name ∷ names) e = cc
some_widths E (w ∷ ws) [] e = cc
some_widths E (w ∷ ws) (name ∷ names) e =
    let head : Some w ≡ E name = cc in
    let tail : map (λ (w : ℕ). Some w) ws ≡ map E names = cc in
    ap₂ (λ (n : ℕ) (ns : List ℕ). n ∷ ns) (ap or_zero head) (some_widths E ws names tail)

-- widths are at most 128
vector_narrow : (names : Names) (o : Option Shape) (w : ℕ) → vector_width names o ≡ Some w → w ≤ 128
vector_narrow names None w e = absurd (let f : None ≡ Some w = e in cc)
vector_narrow names (Some (shape.Vector width)) w e = let c = checked_is (count_number names width) w e in c.2
vector_narrow names (Some (shape.Array count width)) w e = absurd (let f : None ≡ Some w = e in cc)

entry_narrow : (names : Names) (o : Option Entry) (w : ℕ) → entry_width names o ≡ Some w → w ≤ 128
entry_narrow names None w e = absurd (let f : None ≡ Some w = e in cc)
entry_narrow names (Some (port p)) w e = vector_narrow names (Some p.shape) w e
entry_narrow names (Some (constant c)) w e = let fits = number_in c.value c.width w e in fits.1.at_most
entry_narrow names (Some (local l)) w e = vector_narrow names (entry_shape (local l)) w e

narrow_total : (m : ModuleTree) (ws : List ℕ) (names : List (List ℕ)) → map (λ (w : ℕ). Some w) ws ≡ map (width_of m) names → total ws ≤ 128 * length ws
narrow_total m [] names e = omega arith
narrow_total m (w ∷ ws) [] e = absurd (let f : length (map (λ (w : ℕ). Some w) (w ∷ ws)) ≡ 0 = ap length e in omega (arith, f))
narrow_total m (w ∷ ws) (name ∷ names) e =
    let head : Some w ≡ width_of m name = cc in
    let tail : map (λ (w : ℕ). Some w) ws ≡ map (width_of m) names = cc in
    let h = narrow_total m ws names tail in
    let n = entry_narrow (names_of m) (names_of m name) w (sym head) in
    omega (arith, h, n)

total_append : (ws vs : List ℕ) → total (ws ++ vs) ≡ total ws + total vs
total_append [] vs = omega arith
total_append (w ∷ ws) vs = let h = total_append ws vs in omega (arith, h)

-- values that fit the widths of their names
fit_within : (E : List ℕ → Option ℕ) (v : Values) (names : List (List ℕ)) (ws : List ℕ) → map (λ (w : ℕ). Some w) ws ≡ map E names → ((name : List ℕ) → IsIn name names → FitsIn (E name) (v (name ∷ []) 0)) →
    AreWithin ws (values_of v names)
fit_within E v [] [] e fit = tt
fit_within E v [] (w ∷ ws) e fit = absurd (let f : length (map (λ (w : ℕ). Some w) (w ∷ ws)) ≡ 0 = ap length e in omega (arith, f))
fit_within E v (name ∷ names) [] e fit = absurd (let f : 0 ≡ length (map E (name ∷ names)) = ap length e in omega (arith, f))
fit_within E v (name ∷ names) (w ∷ ws) e fit =
    let head : Some w ≡ E name = cc in
    let tail : map (λ (w : ℕ). Some w) ws ≡ map E names = cc in
    (subst (λ (o : Option ℕ). FitsIn o (v (name ∷ []) 0)) (sym head) (fit name (inl refl)), fit_within E v names ws tail (λ x among. fit x (inr among)))

-- and the other way round
within_fit : (E : List ℕ → Option ℕ) (names : List (List ℕ)) (ws ns : List ℕ) → map (λ (w : ℕ). Some w) ws ≡ map E names → AreWithin ws ns → (name : List ℕ) → IsIn name names → FitsIn (E name) (value_under names ns name)
within_fit E [] ws ns e within name among = absurd among
within_fit E (x ∷ names) [] ns e within name among = absurd (let f : 0 ≡ length (map E (x ∷ names)) = ap length e in omega (arith, f))
within_fit E (x ∷ names) (w ∷ ws) [] e within name among = absurd within
within_fit E (x ∷ names) (w ∷ ws) (n ∷ ns) e within name among =
    let head : Some w ≡ E x = cc in
    let tail : map (λ (w : ℕ). Some w) ws ≡ map E names = cc in
    elim (cases_Bool (bytes_eq x name)) [
      | inl same ↦ rw same (subst (λ (y : List ℕ). FitsIn (E y) n) (is_same_name x name same) (subst (λ (o : Option ℕ). FitsIn o n) head within.0))
      | inr other ↦ rw other (within_fit E names ws ns tail within.1 name (behind other among))
    ]
  where
    behind : bytes_eq x name ≡ false → IsIn name (x ∷ names) → IsIn name names
    behind other (inl same) = absurd (let f : bytes_eq x name ≡ true = same_name x name (sym same) in cc)
    behind other (inr later) = later

-- the names of a design are its source's, with their widths, and its next values are those behind each
-- cycle; states and inputs give it numbers within these widths, and all such numbers
pub record Behaves (S : SourceTree) (d : Design) : Type 0 where
  pub inputs_are : root_inputs S.modules ≡ vector_names d.inputs.items
  pub registers_are : root_registers S.modules ≡ vector_names d.registers.items
  pub input_widths : vector_widths d.inputs.items ≡ map (root_width S.modules) (vector_names d.inputs.items)
  pub register_widths : vector_widths d.registers.items ≡ map (root_width S.modules) (vector_names d.registers.items)
  pub inputs_distinct : AreDistinct (vector_names d.inputs.items)
  pub registers_distinct : AreDistinct (vector_names d.registers.items)
  pub few : length d.inputs.items + length d.registers.items ≤ 65536
  pub few_bits : total (leaf_widths d) ≤ 16777216
  pub next : (s inp v s' : Values) → Cycle S s inp v → Next S v s' →
      values_of s' (vector_names d.registers.items) ≡ map (λ (f : Flat). flat_number (leaf_widths d) f (values_of inp (vector_names d.inputs.items) ++ values_of s (vector_names d.registers.items))) d.nexts.items
  pub state_within : (s : Values) → IsState S s → AreWithin (vector_widths d.registers.items) (values_of s (vector_names d.registers.items))
  pub given_within : (inp : Values) → IsGiven S inp → AreWithin (vector_widths d.inputs.items) (values_of inp (vector_names d.inputs.items))
  pub state_of : (ns : List ℕ) → AreWithin (vector_widths d.registers.items) ns → (s : Values) × IsState S s × (values_of s (vector_names d.registers.items) ≡ ns)
  pub given_of : (ns : List ℕ) → AreWithin (vector_widths d.inputs.items) ns → (inp : Values) × IsGiven S inp × (values_of inp (vector_names d.inputs.items) ≡ ns)

registers_lead : (S : SourceTree) (small : IsSmallSource S) (name : List ℕ) → IsIn name (register_names small.root.locals) → (type : Shape) × IsRegister S (name ∷ []) type
registers_lead S small name among =
    let r = is_register small.root name among in
    (r.1, record { root = small.root; is_root = ([], small.only); name = name; clock = r.0; register = r.2; leads = refl })

inputs_lead : (S : SourceTree) (small : IsSmallSource S) (name : List ℕ) → IsIn name (input_names small.root) → (type : Shape) × IsInput S (name ∷ []) type
inputs_lead S small name among =
    let i = is_input small.root name among in
    (i.0, record { root = small.root; is_root = ([], small.only); name = name; input = i.1; leads = refl })

-- a register and an input of the root of a small design
register_here : (S : SourceTree) (small : IsSmallSource S) (path : Path) (type : Shape) → (r : IsRegister S path type) → IsRegisterOf small.root r.name r.clock type
register_here S small path type r = subst (λ (n : ModuleTree). IsRegisterOf n r.name r.clock type) (root_is S small.root r.root small.only r.is_root) r.register

input_here : (S : SourceTree) (small : IsSmallSource S) (path : Path) (type : Shape) → (i : IsInput S path type) → IsInputOf small.root i.name type
input_here S small path type i = subst (λ (n : ModuleTree). IsInputOf n i.name type) (root_is S small.root i.root small.only i.is_root) i.input

-- the width of their types is that of their names
register_typed : (m : ModuleTree) → IsSmallModule m → (name clock : List ℕ) (type : Shape) → IsRegisterOf m name clock type → width_of m name ≡ vector_width (names_of m) (Some type)
register_typed m small name clock type r =
    ap (entry_width (names_of m)) (ap (names_of m) r.named ∙ local_named m r.local small.distinct r.declared)
    ∙ ap (λ (k : LocalKind). vector_width (names_of m) (kind_shape k)) r.kind

input_typed : (m : ModuleTree) → IsSmallModule m → (name : List ℕ) (type : Shape) → IsInputOf m name type → width_of m name ≡ vector_width (names_of m) (Some type)
input_typed m small name type i =
    ap (entry_width (names_of m)) (ap (names_of m) i.named ∙ port_named m i.port small.distinct i.declared)
    ∙ ap (λ (t : Shape). vector_width (names_of m) (Some t)) (sym i.typed)

-- in a cycle the leaves have the values of the state and the input
cycle_values : (S : SourceTree) (small : IsSmallSource S) (s inp v : Values) → Cycle S s inp v →
    values_of v (leaf_names small.root) ≡ values_of inp (input_names small.root) ++ values_of s (register_names small.root.locals)
cycle_values S small s inp v cycle =
    let inputs = input_names small.root in
    let registers = register_names small.root.locals in
    map-append (λ (name : List ℕ). v (name ∷ []) 0) inputs registers
    ∙ ap₂ (λ (x y : List ℕ). x ++ y)
    (values_agree v inp inputs (λ name among. let i = inputs_lead S small name among in cycle.inputs (name ∷ []) i.0 i.1))
    (values_agree v s registers (λ name among. let r = registers_lead S small name among in cycle.registers (name ∷ []) r.0 r.1))

module _ (S : SourceTree) (d : Design) (made : Elaborates S d) where
  abbrev pub m : ModuleTree
  m = made.small.root

  here : IsRoot S m
  here = ([], made.small.only)

  both_widths : (map (λ (w : ℕ). Some w) (vector_widths d.inputs.items) ≡ map (width_of m) (input_names m)) × (map (λ (w : ℕ). Some w) (vector_widths d.registers.items) ≡ map (width_of m) (register_names m.locals))
  both_widths =
      split_maps (λ (w : ℕ). Some w) (width_of m) (vector_widths d.inputs.items) (vector_widths d.registers.items) (input_names m) (register_names m.locals)
      (length-map d.inputs.items (λ (v : Vector). v.width) ∙ sym (length-map d.inputs.items (λ (v : Vector). string_bytes v.name)) ∙ ap length made.inputs) made.widths

  inputs_wide : map (λ (w : ℕ). Some w) (vector_widths d.inputs.items) ≡ map (width_of m) (vector_names d.inputs.items)
  inputs_wide = both_widths.0 ∙ ap (map (width_of m)) (sym made.inputs)

  registers_wide : map (λ (w : ℕ). Some w) (vector_widths d.registers.items) ≡ map (width_of m) (vector_names d.registers.items)
  registers_wide = both_widths.1 ∙ ap (map (width_of m)) (sym made.registers)

  pub input_widths_are : vector_widths d.inputs.items ≡ map (width_in m) (vector_names d.inputs.items)
  input_widths_are = some_widths (width_of m) (vector_widths d.inputs.items) (vector_names d.inputs.items) inputs_wide

  pub register_widths_are : vector_widths d.registers.items ≡ map (width_in m) (vector_names d.registers.items)
  register_widths_are = some_widths (width_of m) (vector_widths d.registers.items) (vector_names d.registers.items) registers_wide

  roots_width : width_in m ≡ root_width S.modules
  roots_width = ap root_width (sym made.small.only)

  -- the values of a state and an input fit their names
  state_fits : (s : Values) → IsState S s → (name : List ℕ) → IsIn name (vector_names d.registers.items) → FitsIn (width_of m name) (s (name ∷ []) 0)
  state_fits s state name among =
      let r = registers_lead S made.small name (subst (λ (xs : List (List ℕ)). IsIn name xs) made.registers among) in
      subst (λ (o : Option ℕ). FitsIn o (s (name ∷ []) 0)) (sym (register_typed m made.small.small name r.1.clock r.0 (named r.1)))
      (state m here (name ∷ []) r.0 r.1)
    where
      named : {type : Shape} (r : IsRegister S (name ∷ []) type) → IsRegisterOf m name r.clock type
      named {type = type} r = let same : r.name ≡ name = let e : name ∷ [] ≡ r.name ∷ [] = r.leads in cc in subst (λ (n : List ℕ). IsRegisterOf m n r.clock type) same (register_here S made.small (name ∷ []) type r)

  given_fits : (inp : Values) → IsGiven S inp → (name : List ℕ) → IsIn name (vector_names d.inputs.items) → FitsIn (width_of m name) (inp (name ∷ []) 0)
  given_fits inp given name among =
      let i = inputs_lead S made.small name (subst (λ (xs : List (List ℕ)). IsIn name xs) made.inputs among) in
      subst (λ (o : Option ℕ). FitsIn o (inp (name ∷ []) 0)) (sym (input_typed m made.small.small name i.0 (named i.1)))
      (given m here (name ∷ []) i.0 i.1)
    where
      named : {type : Shape} (i : IsInput S (name ∷ []) type) → IsInputOf m name type
      named {type = type} i = let same : i.name ≡ name = let e : name ∷ [] ≡ i.name ∷ [] = i.leads in cc in subst (λ (n : List ℕ). IsInputOf m n type) same (input_here S made.small (name ∷ []) type i)

  -- numbers within the widths are a state's, and an input's
  valued_state : (ns : List ℕ) → AreWithin (vector_widths d.registers.items) ns → IsState S (valued (vector_names d.registers.items) ns)
  valued_state ns within n is_root path type r =
      let g = register_here S made.small path type r in
      let names = vector_names d.registers.items in
      let among : IsIn r.name names = subst (λ (xs : List (List ℕ)). IsIn r.name xs) (sym made.registers) (register_listed m r.name r.clock type g) in
      let fits : FitsIn (width_of m r.name) (value_under names ns r.name) = within_fit (width_of m) names (vector_widths d.registers.items) ns registers_wide within r.name among in
      let typed : FitsIn (vector_width (names_of m) (Some type)) (value_under names ns r.name) = subst (λ (o : Option ℕ). FitsIn o (value_under names ns r.name)) (register_typed m made.small.small r.name r.clock type g) fits in
      subst (λ (p : Path). FitsIn (vector_width (names_of n) (Some type)) (valued names ns p 0)) (sym r.leads)
      (subst (λ (k : ModuleTree). FitsIn (vector_width (names_of k) (Some type)) (value_under names ns r.name)) (sym (root_is S m n made.small.only is_root)) typed)

  valued_given : (ns : List ℕ) → AreWithin (vector_widths d.inputs.items) ns → IsGiven S (valued (vector_names d.inputs.items) ns)
  valued_given ns within n is_root path type i =
      let g = input_here S made.small path type i in
      let names = vector_names d.inputs.items in
      let among : IsIn i.name names = subst (λ (xs : List (List ℕ)). IsIn i.name xs) (sym made.inputs) (input_listed m i.name type g) in
      let fits : FitsIn (width_of m i.name) (value_under names ns i.name) = within_fit (width_of m) names (vector_widths d.inputs.items) ns inputs_wide within i.name among in
      let typed : FitsIn (vector_width (names_of m) (Some type)) (value_under names ns i.name) = subst (λ (o : Option ℕ). FitsIn o (value_under names ns i.name)) (input_typed m made.small.small i.name type g) fits in
      subst (λ (p : Path). FitsIn (vector_width (names_of n) (Some type)) (valued names ns p 0)) (sym i.leads)
      (subst (λ (k : ModuleTree). FitsIn (vector_width (names_of k) (Some type)) (value_under names ns i.name)) (sym (root_is S m n made.small.only is_root)) typed)

  inputs_apart : AreDistinct (vector_names d.inputs.items)
  inputs_apart = subst AreDistinct (sym made.inputs) (inputs_distinct m made.small.small)

  registers_apart : AreDistinct (vector_names d.registers.items)
  registers_apart = subst AreDistinct (sym made.registers) (registers_distinct m made.small.small)

  long_names : (vs : List Vector) (ns : List ℕ) → AreWithin (vector_widths vs) ns → length ns ≡ length (vector_names vs)
  long_names vs ns within =
      within_long (vector_widths vs) ns within ∙ length-map vs (λ (v : Vector). v.width) ∙ sym (length-map vs (λ (v : Vector). string_bytes v.name))

  few_vectors : length d.inputs.items + length d.registers.items ≤ 65536
  few_vectors =
      let a : length (vector_names d.inputs.items) ≡ length (input_names m) = ap length made.inputs in
      let b : length (vector_names d.registers.items) ≡ length (register_names m.locals) = ap length made.registers in
      let c = length-map d.inputs.items (λ (v : Vector). string_bytes v.name) in
      let e = length-map d.registers.items (λ (v : Vector). string_bytes v.name) in
      let f = few_leaves m made.small.small in
      omega (arith, a, b, c, e, f)

  pub behaves : Behaves S d
  behaves = record {
    inputs_are = ap root_inputs made.small.only ∙ sym made.inputs;
    registers_are = ap root_registers made.small.only ∙ sym made.registers;
    input_widths = input_widths_are ∙ ap (λ (w : List ℕ → ℕ). map w (vector_names d.inputs.items)) roots_width;
    register_widths = register_widths_are ∙ ap (λ (w : List ℕ → ℕ). map w (vector_names d.registers.items)) roots_width;
    inputs_distinct = inputs_apart;
    registers_distinct = registers_apart;
    few = few_vectors;
    few_bits =
        let a = narrow_total m (vector_widths d.inputs.items) (vector_names d.inputs.items) inputs_wide in
        let b = narrow_total m (vector_widths d.registers.items) (vector_names d.registers.items) registers_wide in
        let c = length-map d.inputs.items (λ (v : Vector). v.width) in
        let e = length-map d.registers.items (λ (v : Vector). v.width) in
        let f = few_vectors in
        let g = total_append (vector_widths d.inputs.items) (vector_widths d.registers.items) in
        omega (arith, a, b, c, e, f, g);
    next = λ s inp v s' cycle next.
        ap (values_of s') made.registers ∙ made.nexts v s' next
        ∙ ap (λ (ns : List ℕ). map (λ (f : Flat). flat_number (leaf_widths d) f ns) d.nexts.items)
        (cycle_values S made.small s inp v cycle ∙ ap₂ (λ (xs ys : List (List ℕ)). values_of inp xs ++ values_of s ys) (sym made.inputs) (sym made.registers));
    state_within = λ s state. fit_within (width_of m) s (vector_names d.registers.items) (vector_widths d.registers.items) registers_wide (state_fits s state);
    given_within = λ inp given. fit_within (width_of m) inp (vector_names d.inputs.items) (vector_widths d.inputs.items) inputs_wide (given_fits inp given);
    state_of = λ ns within. (
      valued (vector_names d.registers.items) ns,
      valued_state ns within,
      read_back (vector_names d.registers.items) ns registers_apart (long_names d.registers.items ns within),
    );
    given_of = λ ns within. (
      valued (vector_names d.inputs.items) ns,
      valued_given ns within,
      read_back (vector_names d.inputs.items) ns inputs_apart (long_names d.inputs.items ns within),
    );
  }
