-- The next state of a small design is a state: values stay below 2 to their widths.
use Rattle.std.proofs.Common.{◌≡◌, ℕ, ◌<◌, ◌^◌, List, [], ◌∷◌, Option, Some, None, sym, ◌∙◌, ap, subst, inl, inr}
use Rattle.lola_bits.specs.Vector.{FitsWidth}
use Rattle.lola_bits.proofs.All.{of_all}
use Rattle.lola_bits.proofs.Lists.{from_map}
use Rattle.lola_tree.specs.declared.named.Ref.{Ref}
use Rattle.lola_tree.specs.declared.named.Shape.{Shape}
use Rattle.lola_tree.specs.declared.named.Shape.TheVariants as shape
use Rattle.lola_tree.specs.declared.module.LocalKind.{LocalKind}
use Rattle.lola_tree.specs.Tree.{StmtTree, assignment, call, pad, ModuleTree, SourceTree}
use Rattle.lola_tree.specs.Names.{Names, Entry, port, constant, local, names_of, first_name, constant_number, count_number, kind_shape}
use Rattle.lola_tree.specs.Width.{vector_width, entry_width, scope_of}
use Rattle.lola_tree.specs.Value.{Path, Values, or_read}
use Rattle.lola_tree.specs.Cycle.{IsRoot, IsRegisterOf, IsRegister, IsInputOf, IsInput, FitsIn, Suits, IsState, IsGiven, names_at, Cycle, Next, NextBy}
use Rattle.lola_elab.specs.Small.{IsLeaf, IsSmallStmt, target_of, IsSmallModule, IsSmallSource}
use Rattle.lola_elab.proofs.Entries.{port_named, const_named, local_named}
use Rattle.lola_elab.proofs.Roots.{root_is}
use Rattle.lola_elab.proofs.Widths.{checked_is, number_in}
use Rattle.lola_elab.proofs.Below.{value_fits}

-- a value of a vector type is below 2 to its width
pub fits_type : (names : Names) (type : Shape) (w n : ℕ) → vector_width names (Some type) ≡ Some w → Suits names type n → FitsWidth w n
fits_type names (shape.Vector width) w n e suits =
    let c = checked_is (count_number names width) w e in
    record { positive = c.1; at_most = c.2; below = subst (λ (o : Option ℕ). FitsIn o n) e suits }
fits_type names (shape.Array items width) w n e suits = absurd (let f : None ≡ Some w = e in cc)

-- what stands under the names that expressions use
input_entry : (m : ModuleTree) → IsSmallModule m → (name : List ℕ) (type : Shape) → (i : IsInputOf m name type) → names_of m name ≡ Some (port i.port)
input_entry m small name type i = ap (names_of m) i.named ∙ port_named m i.port small.distinct i.declared

register_entry : (m : ModuleTree) → IsSmallModule m → (name clock : List ℕ) (type : Shape) → (r : IsRegisterOf m name clock type) → names_of m name ≡ Some (local r.local)
register_entry m small name clock type r = ap (names_of m) r.named ∙ local_named m r.local small.distinct r.declared

register_width : (m : ModuleTree) → IsSmallModule m → (name clock : List ℕ) (type : Shape) → IsRegisterOf m name clock type → entry_width (names_of m) (names_of m name) ≡ vector_width (names_of m) (Some type)
register_width m small name clock type r =
    ap (entry_width (names_of m)) (register_entry m small name clock type r) ∙ ap (λ (k : LocalKind). vector_width (names_of m) (kind_shape k)) r.kind

-- a reference by the entry of its name
leaf_number : (m : ModuleTree) (r : Ref) (name : List ℕ) (e : Entry) → r.path ≡ name ∷ [] → names_of m name ≡ Some e → (scope_of m).number r ≡ constant_number (Some e)
leaf_number m r name e path named = ap (λ (p : List (List ℕ)). constant_number (names_of m (first_name p))) path ∙ ap constant_number named

leaf_width : (m : ModuleTree) (r : Ref) (name : List ℕ) (e : Entry) → r.path ≡ name ∷ [] → names_of m name ≡ Some e → (scope_of m).width r ≡ entry_width (names_of m) (Some e)
leaf_width m r name e path named = ap (λ (p : List (List ℕ)). entry_width (names_of m) (names_of m (first_name p))) path ∙ ap (entry_width (names_of m)) named

-- in a cycle the inputs, registers and constants have values that fit
leaf_fits : (S : SourceTree) (m : ModuleTree) (s inp v : Values) → IsRoot S m → IsSmallModule m → IsState S s → IsGiven S inp → Cycle S s inp v → (r : Ref) → IsLeaf m r →
    (w : ℕ) → (scope_of m).width r ≡ Some w → FitsWidth w (or_read ((scope_of m).number r) (names_at [] v r 0))
leaf_fits S m s inp v root small state given cycle r (bare, (name, path, inl (inl (type, i)))) w e =
    let is : IsInput S r.path type = record { root = m; is_root = root; name = name; input = i; leads = path } in
    let named = input_entry m small name type i in
    let wide : vector_width (names_of m) (Some type) ≡ Some w = ap (λ (t : Shape). vector_width (names_of m) (Some t)) i.typed ∙ sym (leaf_width m r name (port i.port) path named) ∙ e in
    let fits = fits_type (names_of m) type w (inp r.path 0) wide (given m root r.path type is) in
    subst (λ (n : ℕ). FitsWidth w n) (sym (ap (λ (o : Option ℕ). or_read o (v r.path 0)) (leaf_number m r name (port i.port) path named) ∙ cycle.inputs r.path type is)) fits
leaf_fits S m s inp v root small state given cycle r (bare, (name, path, inl (inr (clock, type, g)))) w e =
    let is : IsRegister S r.path type = record { root = m; is_root = root; name = name; clock = clock; register = g; leads = path } in
    let named = register_entry m small name clock type g in
    let wide : vector_width (names_of m) (Some type) ≡ Some w =
    sym (ap (λ (k : LocalKind). vector_width (names_of m) (kind_shape k)) g.kind) ∙ sym (leaf_width m r name (local g.local) path named) ∙ e in
    let fits = fits_type (names_of m) type w (s r.path 0) wide (state m root r.path type is) in
    subst (λ (n : ℕ). FitsWidth w n) (sym (ap (λ (o : Option ℕ). or_read o (v r.path 0)) (leaf_number m r name (local g.local) path named) ∙ cycle.registers r.path type is)) fits
leaf_fits S m s inp v root small state given cycle r (bare, (name, path, inr (c, is, same))) w e =
    let named : names_of m name ≡ Some (constant c) = ap (names_of m) same ∙ const_named m c small.distinct is in
    let fits = (number_in c.value c.width w (sym (leaf_width m r name (constant c) path named) ∙ e)).1 in
    subst (λ (n : ℕ). FitsWidth w n) (sym (ap (λ (o : Option ℕ). or_read o (names_at [] v r 0)) (leaf_number m r name (constant c) path named))) fits

-- what a small assignment gives a register fits its type
next_fits : (S : SourceTree) (m : ModuleTree) (s inp v s' : Values) → IsRoot S m → IsSmallModule m → IsState S s → IsGiven S inp → Cycle S s inp v → (t : StmtTree) → IsSmallStmt m t → NextBy m [] v s' t →
    (clock : List ℕ) (type : Shape) → IsRegisterOf m (target_of t) clock type → Suits (names_of m) type (s' (target_of t ∷ []) 0)
next_fits S m s inp v s' root small state given cycle (assignment name None e at equals) (target, built, widths) by clock type g =
    let fits = value_fits (IsLeaf m) (scope_of m) (names_at [] v) (leaf_fits S m s inp v root small state given cycle) e built widths.wide widths.value_is in
    let wide : vector_width (names_of m) (Some type) ≡ Some widths.wide = sym (register_width m small name clock type g) ∙ widths.name_is in
    subst (λ (o : Option ℕ). FitsIn o (s' (name ∷ []) 0)) (sym wide) (subst (λ (n : ℕ). n < 2 ^ widths.wide) (sym (by clock type g)) fits.below)
next_fits S m s inp v s' root small state given cycle (assignment name (Some place) e at equals) is by clock type g = absurd is
next_fits S m s inp v s' root small state given cycle (call name args at) is by clock type g = absurd is
next_fits S m s inp v s' root small state given cycle (pad io inner drive release at) is by clock type g = absurd is

-- the next state is a state
pub next_state : (S : SourceTree) (s inp v s' : Values) → IsSmallSource S → IsState S s → IsGiven S inp → Cycle S s inp v → Next S v s' → IsState S s'
next_state S s inp v s' small state given cycle next n at_root path type is =
    let m = small.root in
    let root : IsRoot S m = ([], small.only) in
    let same : is.root ≡ m = root_is S m is.root small.only is.is_root in
    let here : n ≡ m = root_is S m n small.only at_root in
    let g : IsRegisterOf m is.name is.clock type = subst (λ (n : ModuleTree). IsRegisterOf n is.name is.clock type) same is.register in
    let assigned = from_map target_of is.name m.body (small.small.each is.name (inr (is.clock, type, g))) in
    let t = assigned.0 in
    let g' : IsRegisterOf m (target_of t) is.clock type = subst (λ (n : List ℕ). IsRegisterOf m n is.clock type) assigned.2 g in
    let fits : Suits (names_of m) type (s' (target_of t ∷ []) 0) =
    next_fits S m s inp v s' root small.small state given cycle t (of_all (IsSmallStmt m) t m.body small.small.statements assigned.1) (next m root t assigned.1) is.clock type g' in
    let there : target_of t ∷ [] ≡ path = cc in
    subst (λ (k : ModuleTree). Suits (names_of k) type (s' path 0)) (sym here) (subst (λ (p : Path). Suits (names_of m) type (s' p 0)) there fits)
