use Rattle.std.proofs.Common.{◌≡◌, ◌↔◌, ℕ, ◌+◌, ◌<◌, List, ◌∷◌, length, get_or, drop, refl, sym, subst, inl, inr}
use Rattle.std.proofs.lemmas.Bool.{iff_false}
use Rattle.lola_bits.proofs.Places.{drop_item, item_in}
use Rattle.lola_tree.specs.declared.module.Port.{Port}
use Rattle.lola_elab.specs.Small.{Wide}
use Rattle.lola_elab.specs.Declares.{IsInward, IsInwardNamed}
use Rattle.lola_elab.proofs.ports.has_inward.Goals as goal

-- what stands behind an item that isn't the one
behind : (wide : Wide) (x : Port) (ports : List Port) (name : List ℕ) → (IsInwardNamed wide name x → ⊥) → IsInward wide ports name ↔ IsInward wide (x ∷ ports) name
behind wide x ports name other = (
  λ found. (found.0, inr found.1, found.2),
  λ found. elim found.1 [
    | inl same ↦ absurd (other (subst (λ (p : Port). IsInwardNamed wide name p) same found.2))
    | inr later ↦ (found.0, later, found.2)
  ],
)

step : (wide : Wide) (ports : List Port) (i : ℕ) (x : Port) (name : List ℕ) → i < length ports → x ≡ get_or ports i x → (IsInwardNamed wide name x → ⊥) →
    (IsInward wide (drop i ports) name ↔ IsInward wide ports name) → (IsInward wide (drop (i + 1) ports) name ↔ IsInward wide ports name)
step wide ports i x name within is other so =
    let e = drop_item ports i x within is in
    let b = behind wide x (drop (i + 1) ports) name other in
    (λ found. so.0 (subst (λ (ps : List Port). IsInward wide ps name) (sym e) (b.0 found)), λ found. b.1 (subst (λ (ps : List Port). IsInward wide ps name) e (so.1 found)))

pub returns-then-is_inward_named : goal.returns-then-is_inward_named
returns-then-is_inward_named c = (λ _. (c.port-item.result, item_in _ _ _ c.loop-port-test.true c.port-item.is, c.is_inward_named.ensures.0 c.if-is_inward_named.true), λ _. refl)

pub loop-port-preserved : goal.loop-port-preserved
loop-port-preserved c = step _ _ _ _ _ c.loop-port-test.true c.port-item.is (iff_false c.is_inward_named.ensures c.if-is_inward_named.false) c.loop-port.invariant
