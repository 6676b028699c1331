-- What a module hands on with its pads from caller to called holds at each place of a design, where it holds at the root.
use Rattle.std.proofs.Common.{ℕ, Bool, List, [], ◌∷◌, ◌++◌, Option, Some, None, refl, sym, subst, inl, inr}
use Rattle.std.specs.Prelude.{bytes_eq}
use Rattle.std.proofs.lemmas.Bool.{cases_Bool, cond-true, cond-false}
use Rattle.lola_bits.specs.Lists.{IsIn}
use Rattle.lola_bits.proofs.Lists.{in_front, in_back, in_either}
use Rattle.lola_tree.specs.declared.module.LocalKind.{LocalKind}
use Rattle.lola_tree.specs.declared.module.LocalKind.TheVariants.{Reg, Var, Inst}
use Rattle.lola_tree.specs.declared.module.Local.{Local}
use Rattle.lola_tree.specs.Tree.{ModuleTree}
use Rattle.lola_tree.specs.Value.{Path}
use Rattle.lola_tree.specs.design.Calls.{args_of}
use Rattle.lola_tree.specs.design.Clocks.{clock_ports, clocks_in}
use Rattle.lola_tree.specs.design.Places.{Pads, own_pads, passed_pads, Caller, Place, Inside, kind_places, local_places, places_at, places_inside, root_places}

-- the place of a module that is called, and those inside it
abbrev entry : ModuleTree → List ModuleTree → Path → Caller → Place
entry m earlier p c = record { module_ = m; path = p; clocks = clocks_in (clock_ports earlier) m; pads = passed_pads c.pads m.ports c.args; caller = Some c }

abbrev entered : ModuleTree → List ModuleTree → Path → Caller → List Place
entered m earlier p c = places_at (clock_ports earlier) (places_inside earlier) m p (Some c) (passed_pads c.pads m.ports c.args)

module _ (P : ModuleTree → Pads → Type 0) where
  -- a place has it from its caller
  abbrev pub Inherits : Place → Option Caller → Type 0
  Inherits a None = Unit {0}
  Inherits a (Some c) = P c.module_ c.pads → P a.module_ (passed_pads c.pads a.module_.ports c.args)

  abbrev pub AllHave : List Place → Type 0
  AllHave as_ = ((a : Place) → IsIn a as_ → Inherits a a.caller) → (a : Place) → IsIn a as_ → P a.module_ a.pads

  abbrev InsideHas : Inside → Type 0
  InsideHas inside = (name : List ℕ) (p : Path) (c : Caller) → P c.module_ c.pads → AllHave (inside name p c)

  kind_has : (inside : Inside) → InsideHas inside → (m : ModuleTree) (p : Path) (pads : Pads) → P m pads → (name : List ℕ) (k : LocalKind) → AllHave (kind_places inside m p pads name k)
  kind_has inside so m p pads has name (Reg clock type) each a is = absurd is
  kind_has inside so m p pads has name (Var type) each a is = absurd is
  kind_has inside so m p pads has name (Inst of) each a is = so of.name (p ++ name ∷ []) (record { module_ = m; path = p; pads = pads; args = args_of m.body name }) has each a is

  locals_have : (inside : Inside) → InsideHas inside → (m : ModuleTree) (p : Path) (pads : Pads) → P m pads → (locals : List Local) → AllHave (local_places inside m p pads locals)
  locals_have inside so m p pads has [] each a is = absurd is
  locals_have inside so m p pads has (l ∷ locals) each a is =
      let front = kind_places inside m p pads l.name l.kind in
      let back = local_places inside m p pads locals in
      elim (in_either a front back is) [
        | inl here ↦ kind_has inside so m p pads has l.name l.kind (λ b there. each b (in_front b front back there)) a here
        | inr later ↦ locals_have inside so m p pads has locals (λ b there. each b (in_back b front back there)) a later
      ]

  at_has : (seen : List ℕ → List Bool) (inside : Inside) → InsideHas inside → (m : ModuleTree) (p : Path) (c : Option Caller) (pads : Pads) → P m pads → AllHave (places_at seen inside m p c pads)
  at_has seen inside so m p c pads has each a (inl same) = subst (λ (b : Place). P b.module_ b.pads) (sym same) has
  at_has seen inside so m p c pads has each a (inr later) = locals_have inside so m p pads has m.locals (λ b there. each b (inr there)) a later

  inside_has : (ms : List ModuleTree) → InsideHas (places_inside ms)
  inside_has [] name p c has = λ each a is. absurd is
  inside_has (m ∷ earlier) name p c has = elim (cases_Bool (bytes_eq m.name name)) [
    | inl same ↦ subst AllHave (sym (cond-true (bytes_eq m.name name) (entered m earlier p c) (places_inside earlier name p c) same)) (λ each.
        at_has (clock_ports earlier) (places_inside earlier) (inside_has earlier) m p (Some c) (passed_pads c.pads m.ports c.args) (each (entry m earlier p c) (inl refl) has) each)
    | inr other ↦ subst AllHave (sym (cond-false (bytes_eq m.name name) (entered m earlier p c) (places_inside earlier name p c) other)) (inside_has earlier name p c has)
  ]

  pub root_has : (m : ModuleTree) (earlier : List ModuleTree) → P m (own_pads m.ports) → AllHave (root_places (m ∷ earlier))
  root_has m earlier has = at_has (clock_ports earlier) (places_inside earlier) (inside_has earlier) m [] None (own_pads m.ports) has
