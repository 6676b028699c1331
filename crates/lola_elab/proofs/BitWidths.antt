-- In the small form of an expression all widths are 1, and values are bits.
use Rattle.std.proofs.Common.{◌≡◌, ℕ, zero, suc, ◌≤◌, Bool, true, false, not, Option, Some, None, refl, ◌∙◌, ap, ap₂, arith}
use Rattle.lola_bits.specs.declared.op.Op.{Op}
use Rattle.lola_bits.specs.declared.op.Op.TheVariants as op
use Rattle.lola_bits.specs.Number.{inverted, operate}
use Rattle.lola_tree.specs.declared.named.Ref.{Ref}
use Rattle.lola_tree.specs.Tree.{Tree, number, whole, bit, slice, index, concat, negation, binary, choice}
use Rattle.lola_tree.specs.Width.{Scope as Widths, width, number_width, operator_width}
use Rattle.lola_tree.specs.Value.{value, or_zero, or_read}
use Rattle.lola_elab.specs.Logic.{bit_number}
use Rattle.lola_elab.specs.Scope.{AreBitNames}
use Rattle.lola_elab.specs.Small.{IsLogic, IsSmallExpr}

-- a fact of two bits, case by case
pub on_bits : (P : ℕ → ℕ → Type 0) → P 0 0 → P 0 1 → P 1 0 → P 1 1 → (x y : ℕ) → x ≤ 1 → y ≤ 1 → P x y
on_bits P a b c d zero zero x y = a
on_bits P a b c d zero (suc zero) x y = b
on_bits P a b c d (suc zero) zero x y = c
on_bits P a b c d (suc zero) (suc zero) x y = d
on_bits P a b c d zero (suc (suc n)) x y = absurd (omega arith)
on_bits P a b c d (suc zero) (suc (suc n)) x y = absurd (omega arith)
on_bits P a b c d (suc (suc n)) m x y = absurd (omega arith)

-- a written bit has width 1
written : (n : ℕ) → n ≤ 1 → number_width n None ≡ Some 1
written zero low = refl
written (suc zero) low = refl
written (suc (suc n)) low = absurd (omega arith)

-- an operator of two bits makes a bit
gate_width : (o : Op) → IsLogic o → operator_width o (Some 1) (Some 1) ≡ Some 1
gate_width op.And is = refl
gate_width op.Or is = refl
gate_width op.Xor is = refl
gate_width op.Not is = absurd is
gate_width op.Add is = absurd is
gate_width op.Sub is = absurd is
gate_width op.Eq is = absurd is
gate_width op.Ne is = absurd is
gate_width op.Lt is = absurd is
gate_width op.Le is = absurd is
gate_width op.Gt is = absurd is
gate_width op.Ge is = absurd is
gate_width op.Mux is = absurd is
gate_width op.Shl is = absurd is
gate_width op.Shr is = absurd is
gate_width op.Asr is = absurd is
gate_width op.Ror is = absurd is

-- an expression of bits has width 1
pub small_width : (Names : Ref → Type 0) (widths : Widths) → AreBitNames Names widths → (e : Tree) → IsSmallExpr Names e → width widths e ≡ Some 1
small_width Names widths bits (number n w at) is = ap (number_width n) is.1 ∙ written n is.0
small_width Names widths bits (whole of) is = bits.width of is
small_width Names widths bits (negation e at) is = small_width Names widths bits e is
small_width Names widths bits (binary o a b at) is =
    ap₂ (operator_width o) (small_width Names widths bits a is.1) (small_width Names widths bits b is.2) ∙ gate_width o is.0
small_width Names widths bits (choice test first second at) is = absurd is
small_width Names widths bits (bit of place at) is = absurd is
small_width Names widths bits (slice of high low at) is = absurd is
small_width Names widths bits (index of place at) is = absurd is
small_width Names widths bits (concat parts at) is = absurd is

-- so `~` of it is 1 less its value
pub negated_value : (Names : Ref → Type 0) (widths : Widths) → AreBitNames Names widths → (e : Tree) → IsSmallExpr Names e → (at : ℕ) (read : Ref → ℕ) →
    value widths (negation e at) (λ r n. read r) ≡ inverted 1 (value widths e (λ r n. read r))
negated_value Names widths bits e is at read = ap (λ (w : Option ℕ). inverted (or_zero w) (value widths e (λ r n. read r))) (small_width Names widths bits e is)

-- and operators are those of bits
pub both_value : (Names : Ref → Type 0) (widths : Widths) → AreBitNames Names widths → (o : Op) (a b : Tree) → IsSmallExpr Names a → (at : ℕ) (read : Ref → ℕ) →
    value widths (binary o a b at) (λ r n. read r) ≡ operate o 1 (value widths a (λ r n. read r)) (value widths b (λ r n. read r))
both_value Names widths bits o a b is at read =
    ap (λ (w : Option ℕ). operate o (or_zero w) (value widths a (λ r n. read r)) (value widths b (λ r n. read r))) (small_width Names widths bits a is)

-- a name has the number that is read
pub name_value : (Names : Ref → Type 0) (widths : Widths) → AreBitNames Names widths → (r : Ref) → Names r → (read : Ref → ℕ) → value widths (whole r) (λ r n. read r) ≡ read r
name_value Names widths bits r is read = ap (λ (n : Option ℕ). or_read n (read r)) (bits.number r is)

-- the other value of a bit
pub other_bit : (b : Bool) → inverted 1 (bit_number b) ≡ bit_number (not b)
other_bit true = refl
other_bit false = refl

-- operators keep bits
pub operate_bit : (o : Op) → IsLogic o → (x y : ℕ) → x ≤ 1 → y ≤ 1 → operate o 1 x y ≤ 1
operate_bit op.And is x y a b = on_bits (λ x y. operate op.And 1 x y ≤ 1) (omega arith) (omega arith) (omega arith) (omega arith) x y a b
operate_bit op.Or is x y a b = on_bits (λ x y. operate op.Or 1 x y ≤ 1) (omega arith) (omega arith) (omega arith) (omega arith) x y a b
operate_bit op.Xor is x y a b = on_bits (λ x y. operate op.Xor 1 x y ≤ 1) (omega arith) (omega arith) (omega arith) (omega arith) x y a b
operate_bit op.Not is x y a b = absurd is
operate_bit op.Add is x y a b = absurd is
operate_bit op.Sub is x y a b = absurd is
operate_bit op.Eq is x y a b = absurd is
operate_bit op.Ne is x y a b = absurd is
operate_bit op.Lt is x y a b = absurd is
operate_bit op.Le is x y a b = absurd is
operate_bit op.Gt is x y a b = absurd is
operate_bit op.Ge is x y a b = absurd is
operate_bit op.Mux is x y a b = absurd is
operate_bit op.Shl is x y a b = absurd is
operate_bit op.Shr is x y a b = absurd is
operate_bit op.Asr is x y a b = absurd is
operate_bit op.Ror is x y a b = absurd is
