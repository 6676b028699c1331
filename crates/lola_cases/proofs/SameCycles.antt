-- Tables that give the same to each signal have the same cycles.
use Rattle.std.proofs.Common.{◌≡◌, ℕ, List, [], ◌∷◌, get_or, Option, Some, None, inl, refl, sym, ◌∙◌, ap, subst}
use Rattle.std.specs.List.{AllByRecursion}
use Rattle.lola_bits.specs.Lists.{IsIn}
use Rattle.lola_bits.proofs.All.{all_of, of_all}
use Rattle.lola_bits.proofs.Lists.{in_back}
use Rattle.lola_flat.specs.declared.design.SigKind.{SigKind}
use Rattle.lola_flat.specs.declared.design.SigKind.TheVariants.{Input, Pad, Wire, Register}
use Rattle.lola_flat.specs.Tree.{ExprTree, SignalTree, FlatTree}
use Rattle.lola_flat.specs.Value.{Env, env, value, Read, vector_of, array_of, outside_of, reads}
use Rattle.lola_flat.specs.Signals.{IsSignal, widths_of, there, expressions, HaveSame}
use Rattle.lola_flat.specs.Formed.{ReadFits, IsFormed}
use Rattle.lola_flat.specs.Cycle.{IsValueOf, IsCycle}
use Rattle.lola_cases.specs.Cases.{GiveSameTo, GiveSame}

its_equation : (s : SignalTree) (e : ExprTree) → s.equation ≡ Some e → IsIn e (expressions s)
its_equation s e is = in_back e (there s.place) (there s.equation) (subst (λ (o : Option ExprTree). IsIn e (there o)) (sym is) (inl refl))

-- the same the other way round
turned_to : (kind : SigKind) (a b : List ℕ) (x y : ℕ) → GiveSameTo kind a b x y → GiveSameTo kind b a y x
turned_to Input a b x y same = sym same
turned_to Register a b x y same = sym same
turned_to Pad a b x y same = sym same
turned_to Wire a b x y same = tt

pub turned : (F : FlatTree) (given : List (List ℕ)) (outside : List ℕ) (given_too : List (List ℕ)) (outside_too : List ℕ) → GiveSame F given outside given_too outside_too → GiveSame F given_too outside_too given outside
turned F given outside given_too outside_too same = record {
  each = λ n s is. turned_to s.kind (get_or given n []) (get_or given_too n []) (get_or outside n 0) (get_or outside_too n 0) (same.each n s is);
}

-- what lola_flat says of the number of an expression
module _ (hangs : (W V N M : Env ℕ) (e : ExprTree) → AllByRecursion (HaveSame W V) (reads e) → AllByRecursion (HaveSame N M) (reads e) → value W N e ≡ value V M e) where
  module _ (F : FlatTree) (formed : IsFormed F) (given : List (List ℕ)) (outside : List ℕ) (given_too : List (List ℕ)) (outside_too : List ℕ) (same : GiveSame F given outside given_too outside_too) (V : List (List ℕ)) where
    pad_same : (s : SignalTree) (n : ℕ) → s.kind ≡ Pad → GiveSameTo s.kind (get_or given n []) (get_or given_too n []) (get_or outside n 0) (get_or outside_too n 0) → get_or outside n 0 ≡ get_or outside_too n 0
    pad_same s n pad is = subst (λ (k : SigKind). GiveSameTo k (get_or given n []) (get_or given_too n []) (get_or outside n 0) (get_or outside_too n 0)) pad is

    same_read : (r : Read) → ReadFits F r → HaveSame (env V outside) (env V outside_too) r
    same_read (vector_of k) fits = refl
    same_read (array_of k) fits = refl
    same_read (outside_of k) fits = pad_same fits.0 k fits.1.1 (same.each k fits.0 fits.1.0)

    itself : (r : Read) → HaveSame (widths_of F) (widths_of F) r
    itself (vector_of k) = refl
    itself (array_of k) = refl
    itself (outside_of k) = refl

    same_value : (n : ℕ) (s : SignalTree) → IsSignal F n s → (e : ExprTree) → s.equation ≡ Some e → value (widths_of F) (env V outside) e ≡ value (widths_of F) (env V outside_too) e
    same_value n s is e its =
        hangs (widths_of F) (widths_of F) (env V outside) (env V outside_too) e (all_of (HaveSame (widths_of F) (widths_of F)) (reads e) (λ r read. itself r))
        (all_of (HaveSame (env V outside) (env V outside_too)) (reads e) (λ r read. same_read r (of_all (ReadFits F) r (reads e) ((formed.signals n s is).reads e (its_equation s e its)) read)))

    as_too : (n : ℕ) (s : SignalTree) → IsSignal F n s → (kind : SigKind) (equation : Option ExprTree) → s.equation ≡ equation →
        GiveSameTo kind (get_or given n []) (get_or given_too n []) (get_or outside n 0) (get_or outside_too n 0) →
        IsValueOf F (env V outside) kind equation (get_or given n []) (get_or V n []) → IsValueOf F (env V outside_too) kind equation (get_or given_too n []) (get_or V n [])
    as_too n s is Input equation e to v = v ∙ to
    as_too n s is Register equation e to v = v ∙ to
    as_too n s is Pad None e to v = v
    as_too n s is Pad (Some f) e to v = v ∙ ap (λ (x : ℕ). x ∷ []) (same_value n s is f e)
    as_too n s is Wire None e to v = v
    as_too n s is Wire (Some f) e to v = v ∙ ap (λ (x : ℕ). x ∷ []) (same_value n s is f e)

    pub same_cycle : IsCycle F given outside V → IsCycle F given_too outside_too V
    same_cycle cycle = record { long = cycle.long; each = λ n s is. as_too n s is s.kind s.equation refl (same.each n s is) (cycle.each n s is) }
