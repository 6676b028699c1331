-- What is added piece by piece, and what the pieces of a design are.
use Rattle.std.proofs.Common.{◌≡◌, ◌⊎◌, ℕ, zero, suc, ◌≤◌, ◌<◌, min, length, drop, Bool, true, false, if◌then◌else◌, slice_get, slice_set, List, [], ◌∷◌, ◌++◌, map, flat_map, Option, Some, None, refl, sym, ap, ap₂, ◌∙◌, append_assoc, inl, inr, arith}
use Rattle.std.proofs.lemmas.List.{map-append, drop_all}
use Rattle.std.proofs.lemmas.Bool.{cases_lt}
use Rattle.std.proofs.lemmas.Grind.{flat_map-append}
use Rattle.lola_bits.specs.Names.{is_among}
use Rattle.lola_tree.specs.declared.named.Shape.{Shape}
use Rattle.lola_tree.specs.declared.module.Way.{Way}
use Rattle.lola_tree.specs.declared.module.Way.TheVariants.{Inward, Outward, Both}
use Rattle.lola_tree.specs.declared.module.Port.{Port}
use Rattle.lola_tree.specs.Tree.{Tree, ActualTree, StmtTree, assignment, call, pad}
use Rattle.lola_tree.specs.Names.{names_of}
use Rattle.lola_tree.specs.Signals.{register_names}
use Rattle.lola_tree.specs.Value.{Path}
use Rattle.lola_tree.specs.design.Places.{Place}
use Rattle.lola_tree.specs.design.Signals.{wire, Signal, root_kind, root_ports, shown_port, instance_port, instance_ports}
use Rattle.lola_tree.specs.design.Equations.{expression, Equation, way_equations, arg_equations, stmt_equations, Update, stmt_updates}
use Rattle.lola_flat.specs.declared.design.SigKind.TheVariants.{Wire}
use Rattle.lola_flat.specs.declared.expr.FExpr.{FExpr}
use Rattle.lola_flat.specs.Tree.{expr_tree, some_tree}
use Rattle.lola_unfold.specs.declared.made.Head.{Head}
use Rattle.lola_unfold.specs.declared.made.Next.{Next}
use Rattle.lola_unfold.specs.Translated.{Numbers}
use Rattle.lola_unfold.specs.Flat.{flat_kind, flat_width, flat_count}
use Rattle.lola_unfold.specs.Measured.{is_hidden}
use Rattle.lola_unfold.specs.Pieces.{next_tree, some_next, MadeTree, is_free, first_put, put_first, put_all, Piece, grow, joined, View, view_at, stmt_puts, stmt_nexts, stmt_piece, body_piece, way_puts, way_piece, arg_puts, args_piece, head_of, head_piece, ports_piece, root_piece, port_heads, root_kind_of, head, equation_put, update_put, place_puts, place_nexts, piece}

pub append_none : {X : Type 0} (xs : List X) → xs ++ [] ≡ xs
append_none [] = refl
append_none (x ∷ xs) = ap (λ l. x ∷ l) (append_none xs)

pub put_append : {X : Type 0} (os : List (Option X)) (ps qs : List (ℕ × X)) → put_all os (ps ++ qs) ≡ put_all (put_all os ps) qs
put_append os [] qs = refl
put_append os (p ∷ ps) qs = put_append (put_first os p.0 p.1) ps qs

pub grow_joined : (f : MadeTree) (a b : Piece) → grow (grow f a) b ≡ grow f (joined a b)
grow_joined f a b =
    let h = append_assoc f.heads a.heads b.heads in
    let e = sym (put_append f.equations a.equations b.equations) in
    let n = sym (put_append f.nexts a.nexts b.nexts) in
    λ i. record { heads = h i; equations = e i; nexts = n i }

pub grow_none : (f : MadeTree) → grow f (record { heads = []; equations = []; nexts = [] }) ≡ f
grow_none f = let h = append_none f.heads in λ i. record { heads = h i; equations = f.equations; nexts = f.nexts }

-- putting expressions is putting their trees
put_map : {X Y : Type 0} (f : Option X → Option Y) (g : X → Y) → f None ≡ None → ((x : X) → f (Some x) ≡ Some (g x)) → (os : List (Option X)) (n : ℕ) (x : X) →
    map f (put_first os n x) ≡ put_first (map f os) n (g x)
put_map f g none some [] n x = refl
put_map f g none some (None ∷ os) zero x = ap (λ o. o ∷ map f os) (some x ∙ sym (ap (λ o. first_put o (g x)) none))
put_map f g none some (Some y ∷ os) zero x = ap (λ o. o ∷ map f os) (some y ∙ sym (ap (λ o. first_put o (g x)) (some y)))
put_map f g none some (o ∷ os) (suc n) x = ap (λ l. f o ∷ l) (put_map f g none some os n x)

pub put_tree : (os : List (Option FExpr)) (n : ℕ) (e : FExpr) → map some_tree (put_first os n e) ≡ put_first (map some_tree os) n (expr_tree e)
put_tree os n e = put_map some_tree expr_tree refl (λ x. refl) os n e

pub put_next_tree : (os : List (Option Next)) (n : ℕ) (e : Next) → map some_next (put_first os n e) ≡ put_first (map some_next os) n (next_tree e)
put_next_tree os n e = put_map some_next next_tree refl (λ x. refl) os n e

-- a free place takes what is put there, and no other does
pub put_free : {X : Type 0} (os : List (Option X)) (n : ℕ) (x : X) → is_free (slice_get os n) ≡ true → slice_set os n (Some x) ≡ put_first os n x
put_free [] n x free = refl
put_free (None ∷ os) zero x free = refl
put_free (Some y ∷ os) zero x free = absurd (let e : false ≡ true = free in cc)
put_free (o ∷ os) (suc n) x free = ap (λ l. o ∷ l) (put_free os n x free)

pub put_taken : {X : Type 0} (os : List (Option X)) (n : ℕ) (x : X) → is_free (slice_get os n) ≡ false → os ≡ put_first os n x
put_taken [] n x taken = refl
put_taken (None ∷ os) zero x taken = absurd (let e : true ≡ false = taken in cc)
put_taken (Some y ∷ os) zero x taken = refl
put_taken (o ∷ os) (suc n) x taken = ap (λ l. o ∷ l) (put_taken os n x taken)

pub free_within : {X : Type 0} (os : List (Option X)) (n : ℕ) → is_free (slice_get os n) ≡ true → n < length os
free_within [] n free = absurd (let e : false ≡ true = free in cc)
free_within (o ∷ os) zero free = omega arith
free_within (o ∷ os) (suc n) free = let e = free_within os n free in omega arith

-- pieces of signals and places
pub piece_joined : (N : Numbers) (xs ys : List Signal) (ps qs : List Place) → joined (piece N xs ps) (piece N ys qs) ≡ piece N (xs ++ ys) (ps ++ qs)
piece_joined N xs ys ps qs =
    let h = sym (map-append head xs ys) in
    let e = sym (flat_map-append (place_puts N) ps qs) in
    let n = sym (flat_map-append (place_nexts N) ps qs) in
    λ i. record { heads = h i; equations = e i; nexts = n i }

-- a list that maps to lists
flat_same : {X Y Z : Type 0} (f : X → List Z) (g : X → List Y) (h : Y → Z) → ((x : X) → f x ≡ map h (g x)) → (xs : List X) → flat_map f xs ≡ map h (flat_map g xs)
flat_same f g h same [] = refl
flat_same f g h same (x ∷ xs) = ap₂ (λ a b. a ++ b) (same x) (flat_same f g h same xs) ∙ sym (map-append h (g x) (flat_map g xs))

-- statements
by_test : {X Y : Type 0} (h : X → Y) (b : Bool) (xs ys : List X) → (if b then map h xs else map h ys) ≡ map h (if b then xs else ys)
by_test h true xs ys = refl
by_test h false xs ys = refl

stmt_put : (N : Numbers) (a : Place) (t : StmtTree) → stmt_puts (view_at N a) t ≡ map (equation_put N) (stmt_equations a t)
stmt_put N a (assignment name place e at equals) = by_test (equation_put N) (is_among (register_names a.module_.locals) name) [] (one ∷ [])
  where
    one : Equation
    one = record { left = a.path ++ name ∷ []; right = expression a.module_ a.path e }
stmt_put N a (call name args at) = refl
stmt_put N a (pad io inner drive release at) = refl

stmt_next : (N : Numbers) (a : Place) (t : StmtTree) → stmt_nexts (view_at N a) t ≡ map (update_put N) (stmt_updates a t)
stmt_next N a (assignment name place e at equals) = by_test (update_put N) (is_among (register_names a.module_.locals) name) (one ∷ []) []
  where
    one : Update
    one = record { left = a.path ++ name ∷ []; module_ = a.module_; path = a.path; place = place; value = e }
stmt_next N a (call name args at) = refl
stmt_next N a (pad io inner drive release at) = refl

-- arguments
way_put : (N : Numbers) (a b : Place) (w : Way) (is_clock : Bool) (port : List ℕ) (arg : Tree) →
    way_puts w is_clock (view_at N b) (view_at N a) port arg ≡ map (equation_put N) (way_equations w is_clock (b.path ++ port ∷ []) a.module_ a.path arg)
way_put N a b Inward true port arg = refl
way_put N a b Inward false port arg = refl
way_put N a b Outward is_clock port arg = refl
way_put N a b Both is_clock port arg = refl

pub args_put : (N : Numbers) (a b : Place) (ports : List Port) (args : List ActualTree) →
    arg_puts (view_at N b) (view_at N a) ports args ≡ map (equation_put N) (arg_equations b.clocks b.path a.module_ a.path ports args)
args_put N a b [] args = refl
args_put N a b (p ∷ ports) [] = refl
args_put N a b (p ∷ ports) (x ∷ args) =
    ap₂ (λ l m. l ++ m) (way_put N a b p.way (is_among b.clocks p.name) p.name x.value) (args_put N a b ports args)
    ∙ sym (map-append (equation_put N) (way_equations p.way (is_among b.clocks p.name) (b.path ++ p.name ∷ []) a.module_ a.path x.value) (arg_equations b.clocks b.path a.module_ a.path ports args))

-- ports
shown_head : (N : Numbers) (b : Place) (w : Way) (is_clock : Bool) (name : List ℕ) (type : Shape) →
    (if is_hidden w is_clock then [] else head_of (view_at N b) name Wire type ∷ [])
    ≡ map head (shown_port w is_clock (record { path = b.path ++ name ∷ []; kind = wire; names = names_of b.module_; type = type }))
shown_head N b Inward true name type = refl
shown_head N b Inward false name type = refl
shown_head N b Outward is_clock name type = refl
shown_head N b Both is_clock name type = refl

pub ports_heads : (N : Numbers) (b : Place) (ports : List Port) → flat_map (port_heads (view_at N b)) ports ≡ map head (instance_ports (names_of b.module_) b.clocks b.path ports)
ports_heads N b ports = flat_same (port_heads (view_at N b)) (instance_port (names_of b.module_) b.clocks b.path) head (λ p. shown_head N b p.way (is_among b.clocks p.name) p.name p.shape) ports

root_kind_is : (w : Way) (is_clock : Bool) → root_kind_of w ≡ flat_kind (root_kind w is_clock)
root_kind_is Inward true = refl
root_kind_is Inward false = refl
root_kind_is Outward is_clock = refl
root_kind_is Both is_clock = refl

pub root_heads : (N : Numbers) (b : Place) (clocks : List (List ℕ)) → b.path ≡ [] → (ports : List Port) →
    map (λ (p : Port). head_of (view_at N b) p.name (root_kind_of p.way) p.shape) ports ≡ map head (root_ports (names_of b.module_) clocks ports)
root_heads N b clocks root [] = refl
root_heads N b clocks root (p ∷ ports) =
    let k = root_kind_is p.way (is_among clocks p.name) in
    let q = ap (λ (l : Path). l ++ p.name ∷ []) root in
    let first : head_of (view_at N b) p.name (root_kind_of p.way) p.shape ≡ record { path = p.name ∷ []; kind = flat_kind (root_kind p.way (is_among clocks p.name)); width = flat_width (names_of b.module_) p.shape; count = flat_count (names_of b.module_) p.shape } =
    λ i. record { path = q i; kind = k i; width = flat_width (names_of b.module_) p.shape; count = flat_count (names_of b.module_) p.shape } in
    ap₂ (λ (h : Head) (hs : List Head). h ∷ hs) first (root_heads N b clocks root ports)

-- a place's statements behind what its caller says
pub body_puts : (N : Numbers) (a : Place) (body : List StmtTree) → flat_map (stmt_puts (view_at N a)) body ≡ map (equation_put N) (flat_map (stmt_equations a) body)
body_puts N a body = flat_same (stmt_puts (view_at N a)) (stmt_equations a) (equation_put N) (stmt_put N a) body

pub body_nexts : (N : Numbers) (a : Place) (body : List StmtTree) → flat_map (stmt_nexts (view_at N a)) body ≡ map (update_put N) (flat_map (stmt_updates a) body)
body_nexts N a body = flat_same (stmt_nexts (view_at N a)) (stmt_updates a) (update_put N) (stmt_next N a) body

-- one item more at the end
pub two_steps : (f g h : MadeTree) (a b : Piece) → g ≡ grow f a → h ≡ grow g b → h ≡ grow f (joined a b)
two_steps f g h a b x y = y ∙ ap (λ (m : MadeTree). grow m b) x ∙ grow_joined f a b

flat_more : {X Y : Type 0} (f : X → List Y) (xs : List X) (x : X) → flat_map f xs ++ f x ≡ flat_map f (xs ++ x ∷ [])
flat_more f xs x = ap (λ l. flat_map f xs ++ l) (sym (append_none (f x))) ∙ sym (flat_map-append f xs (x ∷ []))

pub body_more : (w : View) (body : List StmtTree) (t : StmtTree) → joined (body_piece w body) (stmt_piece w t) ≡ body_piece w (body ++ t ∷ [])
body_more w body t =
    let e = flat_more (stmt_puts w) body t in
    let n = flat_more (stmt_nexts w) body t in
    λ i. record { heads = []; equations = e i; nexts = n i }

pub ports_more : (w : View) (ports : List Port) (p : Port) → joined (ports_piece w ports) (ports_piece w (p ∷ [])) ≡ ports_piece w (ports ++ p ∷ [])
ports_more w ports p = let h = sym (flat_map-append (port_heads w) ports (p ∷ [])) in λ i. record { heads = h i; equations = []; nexts = [] }

pub root_more : (w : View) (ports : List Port) (p : Port) → joined (root_piece w ports) (head_piece (head_of w p.name (root_kind_of p.way) p.shape)) ≡ root_piece w (ports ++ p ∷ [])
root_more w ports p =
    let h = sym (map-append (λ (q : Port). head_of w q.name (root_kind_of q.way) q.shape) ports (p ∷ [])) in
    λ i. record { heads = h i; equations = []; nexts = [] }

-- an argument with its port, and those behind them
pub args_front : (f : MadeTree) (w c : View) (p : Port) (ports : List Port) (a : ActualTree) (args : List ActualTree) →
    grow (grow f (way_piece w c p a.value)) (args_piece w c ports args) ≡ grow f (args_piece w c (p ∷ ports) (a ∷ args))
args_front f w c p ports a args = grow_joined f (way_piece w c p a.value) (args_piece w c ports args)

pub arg_none : (w c : View) (qs : List Port) (rs : List ActualTree) → (qs ≡ []) ⊎ (rs ≡ []) → arg_puts w c qs rs ≡ []
arg_none w c [] rs none = refl
arg_none w c (q ∷ qs) [] none = refl
arg_none w c (q ∷ qs) (a ∷ rs) none = elim none [ inl e ↦ absurd (let g : q ∷ qs ≡ [] = e in cc) | inr e ↦ absurd (let g : a ∷ rs ≡ [] = e in cc) ]

-- behind the shorter of two lists
pub ended : {X Y : Type 0} (n : ℕ) (xs : List X) (ys : List Y) → min (length xs) (length ys) ≤ n → (drop n xs ≡ []) ⊎ (drop n ys ≡ [])
ended n xs ys most = elim (cases_lt n (length xs)) [
  | inl p ↦ inr (drop_all n ys (omega arith))
  | inr p ↦ inl (drop_all n xs p)
]
