-- What is put to numbers is what is found by paths.
use Rattle.std.proofs.Common.{◌≡◌, ℕ, suc, ◌+◌, ◌≤◌, Bool, true, false, if◌then◌else◌, List, [], ◌∷◌, ◌++◌, map, flat_map, length, replicate, Option, Some, None, refl, sym, ap, ap₂, ◌∙◌, subst, inl, inr, arith}
use Rattle.std.proofs.lemmas.Bool.{cases_Bool}
use Rattle.std.proofs.lemmas.List.{map-append}
use Rattle.lola_bits.proofs.Tests.{not_both}
use Rattle.lola_tree.specs.Value.{Path}
use Rattle.lola_tree.specs.Tree.{SourceTree}
use Rattle.lola_tree.specs.Names.{names_of}
use Rattle.lola_tree.specs.design.Places.{places}
use Rattle.lola_tree.specs.design.Signals.{Kind, clock, input, pad, wire, register, Signal, signal_paths}
use Rattle.lola_tree.specs.design.Equations.{Right, Equation, place_equations, equations, Update, place_updates, updates}
use Rattle.lola_tree.specs.design.Chains.{flat_equation, flat_equations}
use Rattle.lola_design.specs.Paths.{path_eq, one_if, count}
use Rattle.lola_design.specs.Graph.{number_of, right_of}
use Rattle.lola_design.proofs.OneSolution.{path_same, path_is}
use Rattle.lola_flat.specs.Tree.{ExprTree, SignalTree}
use Rattle.lola_unfold.specs.Translated.{Numbers, translated}
use Rattle.lola_unfold.specs.Flat.{flat_kind, seen_from, flat_right, flat_rights, actual_place, update_of, place_by, equation_by, numbers_of, flat_signal}
use Rattle.lola_unfold.specs.Pieces.{NextTree, first_put, put_first, put_all, head, equation_put, update_put, place_puts, place_nexts}
use Rattle.lola_unfold.specs.Finished.{place_for, equation_for, signal_from, signals_from}

-- what is found first by a path
abbrev found_by : {X : Type 0} → List (Path × X) → Path → Option X
found_by [] x = None
found_by (p ∷ ps) x = if path_eq p.0 x then Some p.1 else found_by ps x

abbrev first_of : {X : Type 0} → Option X → Option X → Option X
first_of None o = o
first_of (Some x) o = Some x

abbrev one_at : {X : Type 0} → Path → X → Path → Option X
one_at l v x = if path_eq l x then Some v else None

first_none : {X : Type 0} (o : Option X) → o ≡ first_of o None
first_none None = refl
first_none (Some x) = refl

put_is : {X : Type 0} (o : Option X) (v : X) → first_put o v ≡ first_of o (Some v)
put_is None v = refl
put_is (Some x) v = refl

-- a path that doesn't come is nowhere
few_test : (b : Bool) (n : ℕ) → one_if b + n ≡ 0 → b ≡ false
few_test true n e = absurd (omega arith)
few_test false n e = refl

path_turned : (x y : Path) (b : Bool) → path_eq x y ≡ b → path_eq y x ≡ b
path_turned x y true same = subst (λ (z : Path). path_eq z x ≡ true) (path_same x y same) (path_is x)
path_turned x y false other = elim (cases_Bool (path_eq y x)) [
  | inl same ↦ absurd (let e : path_eq x y ≡ true = subst (λ (z : Path). path_eq z y ≡ true) (path_same y x same) (path_is y) in not_both e other)
  | inr differ ↦ differ
]

nowhere : {X : Type 0} (known : Path → Option X) (l : Path) (v : X) (xs : List Path) → count l xs ≡ 0 → map known xs ≡ map (λ (x : Path). first_of (known x) (one_at l v x)) xs
nowhere known l v [] none = refl
nowhere known l v (x ∷ xs) none =
    let other : path_eq l x ≡ false = path_turned x l false (few_test (path_eq x l) (count l xs) none) in
    ap₂ (λ o os. o ∷ os) (first_none (known x) ∙ sym (ap (λ (b : Bool). first_of (known x) (if b then Some v else None)) other))
    (nowhere known l v xs (let e : one_if (path_eq x l) + count l xs ≡ 0 = none in omega arith))

put_test : {X : Type 0} (b : Bool) (o : Option X) (os : List (Option X)) (n : ℕ) (v : X) → put_first (o ∷ os) (if b then 0 else suc n) v ≡ (if b then first_put o v ∷ os else (o ∷ put_first os n v))
put_test true o os n v = refl
put_test false o os n v = refl

one_put : {X : Type 0} (known : Path → Option X) (l : Path) (v : X) (xs : List Path) → count l xs ≤ 1 →
    put_first (map known xs) (number_of xs l) v ≡ map (λ (x : Path). first_of (known x) (one_at l v x)) xs
one_put known l v [] once = refl
one_put known l v (x ∷ xs) once = elim (cases_Bool (path_eq x l)) [
  | inl same ↦
      put_test (path_eq x l) (known x) (map known xs) (number_of xs l) v
      ∙ ap (λ (b : Bool). if b then first_put (known x) v ∷ map known xs else (known x ∷ put_first (map known xs) (number_of xs l) v)) same
      ∙ ap₂ (λ o os. o ∷ os) (put_is (known x) v ∙ sym (ap (λ (b : Bool). first_of (known x) (if b then Some v else None)) (path_turned x l true same)))
      (nowhere known l v xs (let e : one_if (path_eq x l) ≡ 1 = ap one_if same in omega arith))
  | inr other ↦
      put_test (path_eq x l) (known x) (map known xs) (number_of xs l) v
      ∙ ap (λ (b : Bool). if b then first_put (known x) v ∷ map known xs else (known x ∷ put_first (map known xs) (number_of xs l) v)) other
      ∙ ap₂ (λ o os. o ∷ os) (first_none (known x) ∙ sym (ap (λ (b : Bool). first_of (known x) (if b then Some v else None)) (path_turned x l false other)))
      (one_put known l v xs (let e : one_if (path_eq x l) ≡ 0 = ap one_if other in omega arith))
]

first_test : {X : Type 0} (o : Option X) (b : Bool) (v : X) (rest : Option X) → first_of (first_of o (if b then Some v else None)) rest ≡ first_of o (if b then Some v else rest)
first_test None true v rest = refl
first_test None false v rest = refl
first_test (Some x) b v rest = refl

map_ext : {X Y : Type 0} (f g : X → Y) → ((x : X) → f x ≡ g x) → (xs : List X) → map f xs ≡ map g xs
map_ext f g same [] = refl
map_ext f g same (x ∷ xs) = ap₂ (λ y ys. y ∷ ys) (same x) (map_ext f g same xs)

all_put : {X : Type 0} (xs : List Path) → ((l : Path) → count l xs ≤ 1) → (ps : List (Path × X)) (known : Path → Option X) →
    put_all (map known xs) (map (λ (p : Path × X). (number_of xs p.0, p.1)) ps) ≡ map (λ (x : Path). first_of (known x) (found_by ps x)) xs
all_put xs once [] known = map_ext known (λ x. first_of (known x) None) (λ x. first_none (known x)) xs
all_put xs once (p ∷ ps) known =
    ap (λ os. put_all os (map (λ (q : Path × _). (number_of xs q.0, q.1)) ps)) (one_put known p.0 p.1 xs (once p.0))
    ∙ all_put xs once ps (λ x. first_of (known x) (one_at p.0 p.1 x))
    ∙ map_ext (λ x. first_of (first_of (known x) (one_at p.0 p.1 x)) (found_by ps x)) (λ x. first_of (known x) (if path_eq p.0 x then Some p.1 else found_by ps x)) (λ x. first_test (known x) (path_eq p.0 x) p.1 (found_by ps x)) xs

none_map : {X : Type 0} (xs : List Path) → replicate {A = Option X} (length xs) None ≡ map (λ (x : Path). None) xs
none_map [] = refl
none_map (x ∷ xs) = ap (λ l. None ∷ l) (none_map xs)

-- equations by their left sides
abbrev by_left : Numbers → Equation → Path × ExprTree
by_left N e = (e.left, flat_right N e.right)

right_test : (N : Numbers) (b : Bool) (r : Right) (o : Option Right) (rest : Option ExprTree) → rest ≡ flat_rights N o → (if b then Some (flat_right N r) else rest) ≡ flat_rights N (if b then Some r else o)
right_test N true r o rest e = refl
right_test N false r o rest e = e

rights_found : (N : Numbers) (E : List Equation) (x : Path) → found_by (map (by_left N) E) x ≡ flat_rights N (right_of E x)
rights_found N [] x = refl
rights_found N (e ∷ E) x = right_test N (path_eq e.left x) e.right (right_of E x) (found_by (map (by_left N) E) x) (rights_found N E x)

map_map : {X Y Z : Type 0} (f : Y → Z) (g : X → Y) (xs : List X) → map f (map g xs) ≡ map (λ (x : X). f (g x)) xs
map_map f g [] = refl
map_map f g (x ∷ xs) = ap (λ l. f (g x) ∷ l) (map_map f g xs)

map_flat : {X Y Z : Type 0} (f : Y → Z) (g : X → List Y) (xs : List X) → flat_map (λ (x : X). map f (g x)) xs ≡ map f (flat_map g xs)
map_flat f g [] = refl
map_flat f g (x ∷ xs) = ap (λ l. map f (g x) ++ l) (map_flat f g xs) ∙ sym (map-append f (g x) (flat_map g xs))

-- the equations of a design by number
pub equations_put : (S : SourceTree) → ((x : Path) → count x (signal_paths S) ≤ 1) →
    put_all (replicate (length (signal_paths S)) None) (flat_map (place_puts (numbers_of S)) (places S)) ≡ map (λ (x : Path). flat_rights (numbers_of S) (right_of (flat_equations S) x)) (signal_paths S)
equations_put S once =
    let N = numbers_of S in
    let xs = signal_paths S in
    let ps = map (by_left N) (flat_equations S) in
    let is : flat_map (place_puts N) (places S) ≡ map (λ (p : Path × ExprTree). (number_of xs p.0, p.1)) ps =
    map_flat (equation_put N) place_equations (places S)
    ∙ sym (map_map (λ (p : Path × ExprTree). (number_of xs p.0, p.1)) (by_left N) (flat_equations S) ∙ map_map (λ (e : Equation). (number_of xs e.left, flat_right N e.right)) flat_equation (equations S)) in
    ap₂ (λ os qs. put_all os qs) (none_map xs) is ∙ all_put xs once ps (λ x. None) ∙ map_ext (λ x. found_by ps x) (λ x. flat_rights N (right_of (flat_equations S) x)) (rights_found N (flat_equations S)) xs

-- updates
abbrev next_of : Numbers → Update → NextTree
next_of N u = record { place = actual_place (names_of u.module_) (seen_from N u.path) u.place; value = translated (names_of u.module_) (seen_from N u.path) u.value }

abbrev some_update : Numbers → Option Update → Option NextTree
some_update N None = None
some_update N (Some u) = Some (next_of N u)

update_test : (N : Numbers) (b : Bool) (u : Update) (o : Option Update) (rest : Option NextTree) → rest ≡ some_update N o → (if b then Some (next_of N u) else rest) ≡ some_update N (if b then Some u else o)
update_test N true u o rest e = refl
update_test N false u o rest e = e

updates_found : (N : Numbers) (U : List Update) (x : Path) → found_by (map (λ (u : Update). (u.left, next_of N u)) U) x ≡ some_update N (update_of U x)
updates_found N [] x = refl
updates_found N (u ∷ U) x = update_test N (path_eq u.left x) u (update_of U x) (found_by (map (λ (v : Update). (v.left, next_of N v)) U) x) (updates_found N U x)

pub updates_put : (S : SourceTree) → ((x : Path) → count x (signal_paths S) ≤ 1) →
    put_all (replicate (length (signal_paths S)) None) (flat_map (place_nexts (numbers_of S)) (places S)) ≡ map (λ (x : Path). some_update (numbers_of S) (update_of (updates S) x)) (signal_paths S)
updates_put S once =
    let N = numbers_of S in
    let xs = signal_paths S in
    let ps = map (λ (u : Update). (u.left, next_of N u)) (updates S) in
    let is : flat_map (place_nexts N) (places S) ≡ map (λ (p : Path × NextTree). (number_of xs p.0, p.1)) ps =
    map_flat (update_put N) place_updates (places S) ∙ sym (map_map (λ (p : Path × NextTree). (number_of xs p.0, p.1)) (λ (u : Update). (u.left, next_of N u)) (updates S)) in
    ap₂ (λ os qs. put_all os qs) (none_map xs) is ∙ all_put xs once ps (λ x. None) ∙ map_ext (λ x. found_by ps x) (λ x. some_update N (update_of (updates S) x)) (updates_found N (updates S)) xs

-- a signal with its equation or its next value
place_is : (N : Numbers) (k : Kind) (r : Option Right) (u : Option Update) → place_for (flat_kind k) (some_update N u) ≡ place_by k r u N
place_is N clock r u = refl
place_is N input r u = refl
place_is N pad r u = refl
place_is N wire r u = refl
place_is N register r None = refl
place_is N register r (Some u) = refl

equation_is : (N : Numbers) (k : Kind) (r : Option Right) (u : Option Update) → equation_for (flat_kind k) (flat_rights N r) (some_update N u) ≡ equation_by k r u N
equation_is N clock r u = refl
equation_is N input r u = refl
equation_is N pad r u = refl
equation_is N wire r u = refl
equation_is N register r None = refl
equation_is N register r (Some u) = refl

-- all signals of a design
pub finished_are : (S : SourceTree) (xs : List Signal) →
    signals_from (map head xs) (map (λ (x : Path). flat_rights (numbers_of S) (right_of (flat_equations S) x)) (map (λ (s : Signal). s.path) xs))
    (map (λ (x : Path). some_update (numbers_of S) (update_of (updates S) x)) (map (λ (s : Signal). s.path) xs))
    ≡ map (flat_signal S) xs
finished_are S [] = refl
finished_are S (x ∷ xs) =
    let N = numbers_of S in
    let r = right_of (flat_equations S) x.path in
    let u = update_of (updates S) x.path in
    let p = place_is N x.kind r u in
    let e = equation_is N x.kind r u in
    let first : signal_from (head x) (flat_rights N r) (some_update N u) ≡ flat_signal S x =
    λ i. record { path = x.path; kind = (head x).kind; width = (head x).width; count = (head x).count; place = p i; equation = e i } in
    ap₂ (λ (s : SignalTree) (ss : List SignalTree). s ∷ ss) first (finished_are S xs)
