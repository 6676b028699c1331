-- Values at places, and how many there are.
use Rattle.std.proofs.Common.{◌≡◌, ℕ, zero, suc, ◌+◌, ◌<◌, ◌≤◌, Bool, false, List, [], ◌∷◌, ◌++◌, length, refl, arith, length-append}
use Rattle.std.proofs.Math.ListN.{get_or}
use Rattle.lola_net.specs.declared.node.Node.{Node}
use Rattle.lola_net.specs.declared.node.Node.TheVariants.{Free, Latch, Pad, Gate}
use Rattle.lola_net.specs.declared.run.Part.TheVariants as part
use Rattle.lola_net.specs.Literals.{at_place}
use Rattle.lola_net.specs.Counts.{latches, pads}
use Rattle.lola_net.specs.Run.{Sources, value_of, rest_of, values_after, picked}
use Rattle.lola_net.specs.Parts.{part_bit}

pub place_get : (xs : List Bool) (n : ℕ) (d : Bool) → n < length xs → at_place xs n ≡ get_or xs n d
place_get [] n d e = absurd (omega arith)
place_get (x ∷ xs) zero d e = refl
place_get (x ∷ xs) (suc n) d e = place_get xs n d (omega arith)

pub place_past : (xs : List Bool) (n : ℕ) → length xs ≤ n → at_place xs n ≡ false
place_past [] n e = refl
place_past (x ∷ xs) zero e = absurd (omega arith)
place_past (x ∷ xs) (suc n) e = place_past xs n (omega arith)

-- as many bits are picked as there are pads, or latches
pub pads_long : (xs : List Node) (vs values : List Bool) → length vs ≡ length xs → length (picked (part_bit part.Pad values) xs vs) ≡ pads xs
pads_long [] vs values e = refl
pads_long (x ∷ xs) [] values e = absurd (omega arith)
pads_long (Free name ∷ xs) (v ∷ vs) values e = let h = pads_long xs vs values (omega arith) in omega arith
pads_long (Latch name next ∷ xs) (v ∷ vs) values e = let h = pads_long xs vs values (omega arith) in omega arith
pads_long (Pad name value release ∷ xs) (v ∷ vs) values e = let h = pads_long xs vs values (omega arith) in omega arith
pads_long (Gate a b ∷ xs) (v ∷ vs) values e = let h = pads_long xs vs values (omega arith) in omega arith

pub latches_long : (xs : List Node) (vs values : List Bool) → length vs ≡ length xs → length (picked (part_bit part.Next values) xs vs) ≡ latches xs
latches_long [] vs values e = refl
latches_long (x ∷ xs) [] values e = absurd (omega arith)
latches_long (Free name ∷ xs) (v ∷ vs) values e = let h = latches_long xs vs values (omega arith) in omega arith
latches_long (Latch name next ∷ xs) (v ∷ vs) values e = let h = latches_long xs vs values (omega arith) in omega arith
latches_long (Pad name value release ∷ xs) (v ∷ vs) values e = let h = latches_long xs vs values (omega arith) in omega arith
latches_long (Gate a b ∷ xs) (v ∷ vs) values e = let h = latches_long xs vs values (omega arith) in omega arith

-- there is a value for each node
pub values_long : (s : Sources) (so : List Bool) (xs : List Node) → length (values_after s so xs) ≡ length so + length xs
values_long s so [] = omega arith
values_long s so (x ∷ xs) =
    let h = values_long (rest_of s x) (so ++ value_of s so x ∷ []) xs in
    let e = length-append so (value_of s so x ∷ []) in
    omega arith
