-- Lists of those that wait, and the first items of a list.
use Rattle.std.proofs.Common.{◌≡◌, ℕ, zero, suc, ◌+◌, ◌<◌, List, [], ◌∷◌, ◌++◌, length, get_or, set, get_or-set_same, arith}
use Rattle.lola_bits.specs.Lists.{IsIn}
use Rattle.lola_bits.proofs.Lists.{in_front, in_last}

-- one more that waits
pub waits_here : (lists : List (List ℕ)) (by k : ℕ) (old new : List ℕ) → by < length lists → new ≡ old ++ k ∷ [] → IsIn k (get_or (set lists by new) by [])
waits_here lists by k old new within is = rw get_or-set_same (rw is (in_last k old))

pub waits_kept : (lists : List (List ℕ)) (by k : ℕ) (old new : List ℕ) → by < length lists → old ≡ get_or lists by old → new ≡ old ++ k ∷ [] → (j m : ℕ) → IsIn m (get_or lists j []) → IsIn m (get_or (set lists by new) j [])
waits_kept [] by k old new within was is j m among = absurd (omega arith)
waits_kept (x ∷ lists) zero k old new within was is zero m among = rw is (in_front m old (k ∷ []) (rw was among))
waits_kept (x ∷ lists) zero k old new within was is (suc j) m among = among
waits_kept (x ∷ lists) (suc by) k old new within was is zero m among = among
waits_kept (x ∷ lists) (suc by) k old new within was is (suc j) m among = waits_kept lists by k old new (omega arith) was is j m among
