-- Statements, one by one.
use Rattle.std.proofs.Common.{◌≡◌, ◌≢◌, ◌↔◌, ℕ, ◌+◌, ◌<◌, Bool, true, false, cond, List, [], ◌∷◌, length, map, get_or, drop, Option, Some, None, refl, sym, ◌∙◌, ap, subst, ◌⊎◌, inl, inr}
use Rattle.std.specs.Prelude.{bytes_eq, if◌then◌else◌}
use Rattle.std.specs.Option.{is_some, IsSome, option_map}
use Rattle.std.specs.Borrow.{Bor}
use Rattle.std.specs.List.{AllByRecursion}
use Rattle.std.proofs.lemmas.Bool.{false≢true, cond-true, cond-false, cases_Bool, false_from_ne_true}
use Rattle.lola_bits.specs.Lists.{IsIn}
use Rattle.lola_bits.proofs.All.{of_all}
use Rattle.lola_bits.proofs.Lists.{from_map, to_map}
use Rattle.lola_bits.proofs.Names.{same_name, is_same_name, other_name}
use Rattle.lola_bits.proofs.Places.{drop_item, item_in}
use Rattle.lola_tree.specs.declared.expr.Expr.{Expr}
use Rattle.lola_tree.specs.declared.module.Stmt.{Stmt}
use Rattle.lola_tree.specs.Tree.{Tree, tree, StmtTree, assignment, call, pad, stmt_tree}
use Rattle.lola_tree.specs.Width.{Scope as Widths, width}
use Rattle.lola_elab.specs.declared.flat.Flat.{Flat}
use Rattle.lola_elab.specs.Meanings.{Meanings, HasMeaning, AreOf, IsFlatOf, HasNoFlat}
use Rattle.lola_elab.specs.Small.{IsBuilt, target_of}
use Rattle.lola_elab.specs.Assigned.{Assigns, IsWhole, AssignsOnce, IsSizedStmt, AreSized, IsValueOf, trees_of, IsNextOf}

-- what a statement assigns
pub target_is : (t : StmtTree) (name : List ℕ) (e : Tree) → Assigns t name e → target_of t ≡ name
target_is t name e a = ap target_of a.is

pub sized_of : (names : Meanings) (targets : List ℕ → Option ℕ) (scope : Widths) (t : StmtTree) (name : List ℕ) (e : Tree) → Assigns t name e → IsSizedStmt names targets scope t →
    IsBuilt (HasMeaning names) e × ((wide : ℕ) × (targets name ≡ Some wide) × (width scope e ≡ Some wide))
sized_of names targets scope t name e a sized = subst (λ (t : StmtTree). IsSizedStmt names targets scope t) a.is sized

assigned_of : (names : Meanings) (targets : List ℕ → Option ℕ) (scope : Widths) (t : StmtTree) → IsSizedStmt names targets scope t → (e : Tree) × Assigns t (target_of t) e
assigned_of names targets scope (assignment name None e at equals) sized = (e, record { at = at; equals = equals; is = refl })
assigned_of names targets scope (assignment name (Some place) e at equals) sized = absurd sized
assigned_of names targets scope (call name args at) sized = absurd sized
assigned_of names targets scope (pad io inner drive release at) sized = absurd sized

-- a statement whose value has a flat form of the target's width
pub sized_is : (names : Meanings) (targets : List ℕ → Option ℕ) (t : StmtTree) (name : List ℕ) (e : Tree) (flat : Flat) (wide : ℕ) → Assigns t name e → IsFlatOf names e flat wide → targets name ≡ Some wide →
    (scope : Widths) (widths : List ℕ) → AreOf names scope widths → IsSizedStmt names targets scope t
sized_is names targets t name e flat wide a means is scope widths are =
    subst (λ (t : StmtTree). IsSizedStmt names targets scope t) (sym a.is) (means.built, (wide, is, means.tree_width scope widths are))

pub not_sized : (names : Meanings) (targets : List ℕ → Option ℕ) (t : StmtTree) (name : List ℕ) (e : Tree) (flat : Flat) (wide : ℕ) → Assigns t name e → IsFlatOf names e flat wide → (targets name ≡ Some wide → ⊥) →
    (scope : Widths) (widths : List ℕ) → AreOf names scope widths → IsSizedStmt names targets scope t → ⊥
not_sized names targets t name e flat wide a means other scope widths are sized =
    let s = sized_of names targets scope t name e a sized in
    let f : Some wide ≡ Some s.1.0 = sym (means.tree_width scope widths are) ∙ s.1.2 in
    let same : wide ≡ s.1.0 = cc in
    other (s.1.1 ∙ ap (λ (n : ℕ). Some n) (sym same))

pub no_flat : (names : Meanings) (targets : List ℕ → Option ℕ) (t : StmtTree) (name : List ℕ) (e : Tree) → Assigns t name e → HasNoFlat names e →
    (scope : Widths) (widths : List ℕ) → AreOf names scope widths → IsSizedStmt names targets scope t → ⊥
no_flat names targets t name e a none scope widths are sized =
    let s = sized_of names targets scope t name e a sized in none scope widths are s.0 s.1.0 s.1.2

-- the value of a name is its next one
pub value_is_next : (names : Meanings) (ts : List StmtTree) (name : List ℕ) (e : Tree) (flat : Flat) (wide : ℕ) → IsFlatOf names e flat wide → IsValueOf ts name e → IsNextOf names ts name flat
value_is_next names ts name e flat wide means is =
    record { statement = is.statement; value = e; wide = wide; there = is.there; assigns = is.assigns; means = means }

-- a target of sized statements has a value
pub value_of_sized : (names : Meanings) (targets : List ℕ → Option ℕ) (scope : Widths) (ts : List StmtTree) (name : List ℕ) → AreSized names targets scope ts →
    IsIn name (map target_of ts) → (e : Tree) × IsValueOf ts name e
value_of_sized names targets scope ts name sized among =
    let f = from_map target_of name ts among in
    let g = assigned_of names targets scope f.0 (of_all (IsSizedStmt names targets scope) f.0 ts sized f.1) in
    (g.0, record { statement = f.0; there = f.1; assigns = subst (λ (n : List ℕ). Assigns f.0 n g.0) (sym f.2) g.1 })

-- where it has no flat form, the statements aren't sized
pub no_value : (names : Meanings) (targets : List ℕ → Option ℕ) (ts : List StmtTree) (name : List ℕ) (e : Tree) → IsValueOf ts name e → HasNoFlat names e →
    (scope : Widths) (widths : List ℕ) → AreOf names scope widths → AreSized names targets scope ts → ⊥
no_value names targets ts name e is none scope widths are sized =
    no_flat names targets is.statement name e is.assigns none scope widths are (of_all (IsSizedStmt names targets scope) is.statement ts sized is.there)

-- a statement in a body is a tree in its trees, and has what all have
pub stmt_in : (body : List Stmt) (i : ℕ) (stmt : Stmt) → i < length body → stmt ≡ get_or body i stmt → IsIn (stmt_tree stmt) (map stmt_tree body)
stmt_in body i stmt within is = to_map stmt_tree stmt body (item_in body i stmt within is)

pub stmt_has : (P : StmtTree → Type 0) (body : List Stmt) (i : ℕ) (stmt : Stmt) → i < length body → stmt ≡ get_or body i stmt → AllByRecursion P (map stmt_tree body) → P (stmt_tree stmt)
stmt_has P body i stmt within is all = of_all P (stmt_tree stmt) (map stmt_tree body) all (stmt_in body i stmt within is)

-- a statement behind an index is the one there, or behind that
stmt_behind : (body : List Stmt) (i : ℕ) (stmt : Stmt) (t : StmtTree) → i < length body → stmt ≡ get_or body i stmt →
    IsIn t (map stmt_tree (drop i body)) → (t ≡ stmt_tree stmt) ⊎ IsIn t (map stmt_tree (drop (i + 1) body))
stmt_behind body i stmt t within is there = subst (λ (l : List Stmt). IsIn t (map stmt_tree l)) (drop_item body i stmt within is) there

-- the tree of a value that is entered under its target
tree_if : (b : Bool) (e : Bor Expr) (o : Option (Bor Expr)) →
    option_map (λ (x : Bor Expr). tree x.now) (if b then Some e else o) ≡ (if b then Some (tree e.now) else option_map (λ (x : Bor Expr). tree x.now) o)
tree_if true e o = refl
tree_if false e o = refl

pub tree_entered : (old new : List ℕ → Option (Bor Expr)) (target : List ℕ) (e : Bor Expr) → ((q : List ℕ) → new q ≡ (if bytes_eq target q then Some e else old q)) →
    (q : List ℕ) → trees_of new q ≡ (if bytes_eq target q then Some (tree e.now) else trees_of old q)
tree_entered old new target e is q = ap (option_map (λ (x : Bor Expr). tree x.now)) (is q) ∙ tree_if (bytes_eq target q) e (old q)

-- then each value is still assigned
pub value_entered : (ts : List StmtTree) (old new : List ℕ → Option Tree) (t : StmtTree) (target : List ℕ) (e : Tree) → IsIn t ts → Assigns t target e →
    ((q : List ℕ) → new q ≡ (if bytes_eq target q then Some e else old q)) → ((name : List ℕ) (x : Tree) → old name ≡ Some x → IsValueOf ts name x) →
    (name : List ℕ) (x : Tree) → new name ≡ Some x → IsValueOf ts name x
value_entered ts old new t target e among assigns is before name x found = elim (cases_Bool (bytes_eq target name)) [
  | inl same ↦
      let here : Some e ≡ Some x = sym (cond-true (bytes_eq target name) (Some e) (old name) same) ∙ sym (is name) ∙ found in
      let one : e ≡ x = cc in
      record {
        statement = t;
        there = among;
        assigns = subst (λ (n : List ℕ). Assigns t n x) (is_same_name target name same) (subst (λ (y : Tree). Assigns t target y) one assigns);
      }
  | inr other ↦ before name x (sym (cond-false (bytes_eq target name) (Some e) (old name) other) ∙ sym (is name) ∙ found)
]

-- and a statement is behind the one there, or its target has a value
pub each_entered : (body : List Stmt) (i : ℕ) (stmt : Stmt) (old new : List ℕ → Option Tree) (target : List ℕ) (e : Tree) → i < length body → stmt ≡ get_or body i stmt →
    Assigns (stmt_tree stmt) target e → ((q : List ℕ) → new q ≡ (if bytes_eq target q then Some e else old q)) → (t : StmtTree) (name : List ℕ) (x : Tree) → Assigns t name x →
    IsIn t (map stmt_tree (drop i body)) ⊎ IsSome (old name) → IsIn t (map stmt_tree (drop (i + 1) body)) ⊎ IsSome (new name)
each_entered body i stmt old new target e within item assigns is t name x of so = elim (cases_Bool (bytes_eq target name)) [
  | inl same ↦ inr (ap is_some (is name ∙ cond-true (bytes_eq target name) (Some e) (old name) same))
  | inr other ↦ elim so [
    | inl behind ↦ elim (stmt_behind body i stmt t within item behind) [
      | inl here ↦
          let same : target ≡ name = sym (target_is (stmt_tree stmt) target e assigns) ∙ sym (ap target_of here) ∙ target_is t name x of in
          absurd (false≢true (sym other ∙ same_name target name same))
      | inr later ↦ inl later
    ]
    | inr there ↦ inr (ap is_some (is name ∙ cond-false (bytes_eq target name) (Some e) (old name) other) ∙ there)
  ]
]

-- the same where the statement there assigns nothing
pub none_entered : {Q : Type 0} (body : List Stmt) (i : ℕ) (stmt : Stmt) → i < length body → stmt ≡ get_or body i stmt → (IsWhole (stmt_tree stmt) → ⊥) →
    (t : StmtTree) (name : List ℕ) (x : Tree) → Assigns t name x → IsIn t (map stmt_tree (drop i body)) ⊎ Q → IsIn t (map stmt_tree (drop (i + 1) body)) ⊎ Q
none_entered body i stmt within item none t name x of so = elim so [
  | inl behind ↦ elim (stmt_behind body i stmt t within item behind) [
    | inl here ↦ absurd (none (subst IsWhole (sym of.is ∙ here) tt))
    | inr later ↦ inl later
  ]
  | inr there ↦ inr there
]

-- a target is taken from those that are wanted
pub once_step : (old next : List ℕ → Bool) (t : StmtTree) (ts : List StmtTree) → IsWhole t → old (target_of t) ≡ true →
    ((q : List ℕ) → next q ≡ cond (bytes_eq (target_of t) q) false (old q)) → AssignsOnce next ts ↔ AssignsOnce old (t ∷ ts)
once_step old next t ts whole there is =
    let here : next (target_of t) ≡ false = is (target_of t) ∙ cond-true (bytes_eq (target_of t) (target_of t)) false (old (target_of t)) (same_name (target_of t) (target_of t) refl) in
    let elsewhere : (q : List ℕ) → target_of t ≢ q → next q ≡ old q = λ q other. is q ∙ cond-false (bytes_eq (target_of t) q) false (old q) (other_name (target_of t) q other) in
    let kept : (q : List ℕ) → next q ≡ true → target_of t ≢ q = λ q wanted same. false≢true (sym here ∙ ap next same ∙ wanted) in (
      λ once. record {
        whole = (whole, once.whole);
        once = (λ again. kept (target_of t) (once.only (target_of t) again) refl, once.once);
        only = λ name among. elim among [
          | inl same ↦ ap old same ∙ there
          | inr later ↦ sym (elsewhere name (kept name (once.only name later))) ∙ once.only name later
        ];
        each = λ name wanted. elim (cases_Bool (bytes_eq (target_of t) name)) [
          | inl same ↦ inl (sym (is_same_name (target_of t) name same))
          | inr other ↦ inr (once.each name (elsewhere name (λ same. false≢true (sym other ∙ same_name (target_of t) name same)) ∙ wanted))
        ];
      },
      λ once. record {
        whole = once.whole.1;
        once = once.once.1;
        only = λ name later. elsewhere name (λ same. once.once.0 (subst (λ (n : List ℕ). IsIn n (map target_of ts)) (sym same) later)) ∙ once.only name (inr later);
        each = λ name wanted.
            let other = kept name wanted in
            elim (once.each name (sym (elsewhere name other) ∙ wanted)) [
              | inl same ↦ absurd (other (sym same))
              | inr later ↦ later
            ];
      },
    )

-- at the end none is wanted
pub once_end : (old : List ℕ → Bool) → ((q : List ℕ) → old q ≡ false) ↔ AssignsOnce old []
once_end old = (
  λ none. record { whole = tt; once = tt; only = λ name among. absurd among; each = λ name wanted. absurd (false≢true (sym (none name) ∙ wanted)) },
  λ once q. false_from_ne_true (old q) (λ wanted. once.each q wanted),
)

-- the same at a step of a loop over a body
pub once_at : {Q : Type 0} (body : List Stmt) (i : ℕ) (stmt : Stmt) (old next : List ℕ → Bool) → i < length body → stmt ≡ get_or body i stmt →
    IsWhole (stmt_tree stmt) × (old (target_of (stmt_tree stmt)) ≡ true) → ((q : List ℕ) → next q ≡ cond (bytes_eq (target_of (stmt_tree stmt)) q) false (old q)) →
    (AssignsOnce old (map stmt_tree (drop i body)) ↔ Q) → (AssignsOnce next (map stmt_tree (drop (i + 1) body)) ↔ Q)
once_at body i stmt old next within is there taken so =
    let e = drop_item body i stmt within is in
    let step = once_step old next (stmt_tree stmt) (map stmt_tree (drop (i + 1) body)) there.0 there.1 taken in (
      λ once. so.0 (subst (λ (l : List Stmt). AssignsOnce old (map stmt_tree l)) (sym e) (step.0 once)),
      λ so'. step.1 (subst (λ (l : List Stmt). AssignsOnce old (map stmt_tree l)) e (so.1 so')),
    )
