-- What the pads of a value carry: where the release is 1 what comes from outside, and else the value.
use Rattle.std.proofs.Common.{◌≡◌, ℕ, zero, suc, ◌+◌, ◌<◌, ◌≤◌, Bool, true, false, cond, not, List, [], ◌∷◌, ◌++◌, length, map, refl, sym, ◌∙◌, ap, ap₂, subst, arith, append_assoc, append-nil}
use mathlib.Core.List.{reverse-cons}
use Rattle.std.specs.Prelude.{reverse, nat_eq, ◌/◌, ◌%◌}
use Rattle.std.specs.List.{AllByRecursion}
use Rattle.lola_net.specs.declared.node.Node.{Node}
use Rattle.lola_net.specs.declared.node.Node.TheVariants.{Pad}
use Rattle.lola_net.specs.Literals.{at_place, at_node, at_literal}
use Rattle.lola_net.specs.Run.{values_after}
use Rattle.lola_gate.specs.Values.{place_before}
use Rattle.lola_lower.specs.Names.{bit_name}
use Rattle.lola_lower.specs.Steps.{pads_down}
use Rattle.lola_lower.proofs.Started.{sources}

-- the value of a literal of nodes that are there stays
pub node_stays : (so more : List Bool) (n : ℕ) → n < suc (length so) → at_node (so ++ more) n ≡ at_node so n
node_stays so more zero within = refl
node_stays so more (suc n) within = place_before so more n (omega arith)

pub literal_stays : (so more : List Bool) (l : ℕ) → l / 2 < suc (length so) → at_literal (so ++ more) l ≡ at_literal so l
literal_stays so more l within = ap (λ (b : Bool). cond (nat_eq (l % 2) 0) b (not b)) (node_stays so more (l / 2) within)

pub literals_stay : (so more : List Bool) (ls : List ℕ) → AllByRecursion (λ l. l / 2 < suc (length so)) ls → map (at_literal (so ++ more)) ls ≡ map (at_literal so) ls
literals_stay so more [] within = refl
literals_stay so more (l ∷ ls) within = ap₂ (λ (b : Bool) bs. b ∷ bs) (literal_stays so more l within.0) (literals_stay so more ls within.1)

module _ (text : List ℕ) (release : ℕ) (base : List Bool) (release_within : release / 2 < suc (length base)) where
  abbrev pub carried : List Bool → List ℕ → List Bool
  carried os values = cond (at_literal base release) os (map (at_literal base) values)

  none_carried : (t : Bool) → ◌≡◌ {A = List Bool} (reverse {A = Bool} (cond t [] [])) []
  none_carried true = refl
  none_carried false = refl

  more_carried : (t o x : Bool) (os xs : List Bool) → reverse (cond t os xs) ++ cond t o x ∷ [] ≡ reverse (cond t (o ∷ os) (x ∷ xs))
  more_carried true o x os xs = sym (reverse-cons o os)
  more_carried false o x os xs = sym (reverse-cons x xs)

  pub pads_take : (values : List ℕ) (bit : ℕ) (os : List Bool) → length os ≡ length values → AllByRecursion (λ l. l / 2 < suc (length base)) values → (more : List Bool) (ys : List Node) →
      values_after (sources [] [] (reverse os ++ more)) base (pads_down text release bit values ++ ys) ≡ values_after (sources [] [] more) (base ++ reverse (carried os values)) ys
  pads_take [] bit [] long within more ys = ap (λ l. values_after (sources [] [] more) l ys) (sym (ap (λ l. base ++ l) (none_carried (at_literal base release)) ∙ append-nil base))
  pads_take [] bit (o ∷ os) long within more ys = absurd (omega arith)
  pads_take (x ∷ xs) bit [] long within more ys = absurd (omega arith)
  pads_take (x ∷ xs) bit (o ∷ os) long within more ys =
      let B : List Bool = reverse (carried os xs) in
      let node : Node = Pad (bit_name text bit) x release in
      ap₂ (λ l (n : List Node). values_after (sources [] [] l) base n) (ap (λ l. l ++ more) (reverse-cons o os) ∙ append_assoc (reverse os) (o ∷ []) more) (append_assoc (pads_down text release (suc bit) xs) (node ∷ []) ys)
      ∙ pads_take xs (suc bit) os (omega arith) within.1 (o ∷ more) (node ∷ ys)
      ∙ ap₂ (λ (t v : Bool). values_after (sources [] [] more) ((base ++ B) ++ cond t o v ∷ []) ys) (literal_stays base B release release_within) (literal_stays base B x within.0)
      ∙ ap (λ l. values_after (sources [] [] more) l ys) (append_assoc base B (cond (at_literal base release) o (at_literal base x) ∷ []) ∙ ap (λ l. base ++ l) (more_carried (at_literal base release) o (at_literal base x) os (map (at_literal base) xs)))
