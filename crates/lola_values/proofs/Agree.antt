-- Two widths that must be equal: a number that fits one of them fits the other.
use Rattle.std.proofs.Common.{◌≡◌, ℕ, ◌^◌, ◌<◌, [], Option, Some, None, sym, ◌∙◌, subst}
use Rattle.std.specs.Prelude.{nat_eq, Bool, true, false, cond}
use Rattle.lola_bits.proofs.Options.{nothing}
use Rattle.lola_bits.proofs.Tests.{none_unless}
use Rattle.lola_tree.specs.Cycle.{FitsIn}
use Rattle.lola_width.specs.WidthFaults.{differ}
use Rattle.lola_values.proofs.Widths.{equal_is}
use Rattle.lola_values.proofs.Known.{Known, same_known}

pub fits_left : (at : ℕ) (o p : Option ℕ) (n : ℕ) → differ at o p ≡ [] → Known p → FitsIn p n → FitsIn o n
fits_left at None p n none known fits = tt
fits_left at (Some w) None n none known fits = nothing known.0 known.2
fits_left at (Some w) (Some v) n none known fits = subst (λ (k : ℕ). n < 2 ^ k) (sym (equal_is w v (none_unless (nat_eq w v) _ none))) fits

pub fits_right : (at : ℕ) (o p : Option ℕ) (n : ℕ) → differ at o p ≡ [] → Known o → FitsIn o n → FitsIn p n
fits_right at o None n none known fits = tt
fits_right at None (Some v) n none known fits = nothing known.0 known.2
fits_right at (Some w) (Some v) n none known fits = subst (λ (k : ℕ). n < 2 ^ k) (equal_is w v (none_unless (nat_eq w v) _ none)) fits

pub same_widths : (at : ℕ) (o p : Option ℕ) → differ at o p ≡ [] → Known o → Known p → o ≡ p
same_widths at o p none left right = let s = same_known at o p left right none in s.2 ∙ sym s.3

-- one of two numbers that fit
pub chosen_in : (o : Option ℕ) (b : Bool) (m n : ℕ) → FitsIn o m → FitsIn o n → FitsIn o (cond b m n)
chosen_in o true m n one other = one
chosen_in o false m n one other = other
