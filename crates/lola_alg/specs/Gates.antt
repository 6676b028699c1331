-- The gates of two bits, and what stays known where one is made.
use Rattle.std.specs.List.{AllByRecursion}
use Rattle.std.specs.Prelude.{◌≡◌, ℕ, Bool, true, cond, nat_eq, ◌^◌, ◌%◌, List, ◌++◌, length, take, drop, Some, Result, Ok, Err}
use Rattle.lola_alg.specs.declared.gates.Gate.{Gate}
use Rattle.lola_alg.specs.declared.gates.Gate.TheVariants.{Both, Either, Differ, Choose}
use Rattle.lola_alg.specs.declared.sums.Fold.{Fold}
use Rattle.lola_alg.specs.declared.sums.Fold.TheVariants.{Equal, Less}
use Rattle.lola_alg.specs.declared.shifts.Move.{Move}
use Rattle.lola_alg.specs.declared.shifts.Move.TheVariants.{Up, Down, Filled}
use Rattle.lola_alg.specs.declared.algebra.AlgError.{AlgError}
use Rattle.lola_alg.specs.Algebra.{Calls, Meaning, Stays}
use Rattle.lola_alg.specs.Steps.{Step, into, pairs_step, is_place_from, both_step, either_step, differ_step, choose_step, equal_here, less_here, equal_step, less_step, moved_up, moved_down, moved_filled}
use Rattle.lola_alg.specs.Means.{AreKnown}

abbrev pub gate_step : {D B : Type 0} → Calls D B → Gate B → B → B → Step D B
gate_step c Both a b = both_step c a b
gate_step c Either a b = either_step c a b
gate_step c Differ a b = differ_step c a b
gate_step c (Choose test) a b = choose_step c test a b

abbrev pub fold_of : {D B : Type 0} → Calls D B → Fold → B → B → B → Step D B
fold_of c Equal a b so = equal_here c a b so
fold_of c Less a b so = less_here c a b so

abbrev pub compare_step : {D B : Type 0} → Calls D B → Fold → List B → List B → Step D B
compare_step c Equal xs ys = equal_step c xs ys
compare_step c Less xs ys = less_step c xs ys

abbrev pub move_of : {B : Type 0} → Move B → ℕ → List B → List B
move_of (Up fill) n xs = moved_up fill n xs
move_of (Down fill) n xs = moved_down fill n xs
move_of Filled n xs = moved_filled n xs

-- turned by some bits
abbrev pub turned : {B : Type 0} → ℕ → List B → List B
turned n xs = drop n xs ++ take n xs

-- turned by 2 to a place where a bit is 1; a turn that comes round makes nothing
abbrev pub turn_here : {D B : Type 0} → Calls D B → ℕ → B → List B → Step D (List B)
turn_here c place b xs d =
    cond (nat_eq (2 ^ place % length xs) 0) (Some (d, xs)) (pairs_step (choose_step c b) (turned (2 ^ place % length xs) xs) xs d)

-- the bit that comes in is known
abbrev pub IsKnownMove : {D B : Type 0} → Meaning D B → D → Move B → Type 0
IsKnownMove m d (Up fill) = m.knows d fill ≡ true
IsKnownMove m d (Down fill) = m.knows d fill ≡ true
IsKnownMove m d Filled = Unit {0}

-- the bit by which a gate chooses is known
abbrev pub IsKnownGate : {D B : Type 0} → Meaning D B → D → Gate B → Type 0
IsKnownGate m d Both = Unit {0}
IsKnownGate m d Either = Unit {0}
IsKnownGate m d Differ = Unit {0}
IsKnownGate m d (Choose test) = m.knows d test ≡ true

-- all that was known stays so, and the bits of the vector that was made are known
abbrev pub KeptAll : {D B V : Type 0} → Meaning D B → (V → List B) → D → D → Result V AlgError → Type 0
KeptAll m view before now (Ok bits) = Stays m before now × AreKnown m now (view bits)
KeptAll m view before now (Err error) = Unit {0}

-- and the same of two bits
abbrev pub KeptTwo : {D B : Type 0} → Meaning D B → D → D → Result (B × B) AlgError → Type 0
KeptTwo m before now (Ok bits) = Stays m before now × ((m.knows now bits.0 ≡ true) × (m.knows now bits.1 ≡ true))
KeptTwo m before now (Err error) = Unit {0}

-- and the same of vectors
abbrev pub KeptArray : {D B V : Type 0} → Meaning D B → (V → List (List B)) → D → D → Result V AlgError → Type 0
KeptArray m view before now (Ok made) = Stays m before now × AllByRecursion (AreKnown m now) (view made)
KeptArray m view before now (Err error) = Unit {0}

-- what is so far, and a bit or its negation
abbrev pub place_here : {D B : Type 0} → Calls D B → B → Bool → B → Step D B
place_here c b wanted so d = cond wanted (c.both d so b) (let n = c.negated d b in c.both n.0 so n.1)

-- the value where a place is a number, and else what stands there
abbrev pub write_here : {D B : Type 0} → Calls D B → List B → List B → ℕ → List B → Step D (List B)
write_here c place value number old d =
    let one = c.constant d true in into (is_place_from c place number one.1 one.0) (λ here e. pairs_step (choose_step c here) value old e)
