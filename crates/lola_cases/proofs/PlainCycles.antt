-- Over bool the numbers of bits are their own, and the vectors of a cycle are no wider than signals are.
use Rattle.std.proofs.Common.{◌≡◌, ℕ, zero, suc, ◌≤◌, Bool, false, List, [], ◌∷◌, length, map, replicate, get_or, Option, Some, refl, sym, ◌∙◌, ap, ap₂, subst, inl, inr, arith}
use Rattle.std.specs.Prelude.{slice_get}
use Rattle.std.specs.List.{AllByRecursion}
use Rattle.std.proofs.Math.ListN.{get_or-map}
use Rattle.std.proofs.lemmas.List.{map-id, length-map}
use Rattle.lola_bits.specs.BitLists.{number_of}
use Rattle.lola_alg.specs.Means.{AreKnown, number_at}
use Rattle.lola_alg.specs.Plain.{plain_meaning}
use Rattle.lola_flat.specs.declared.design.SigKind.{SigKind}
use Rattle.lola_flat.specs.declared.design.SigKind.TheVariants.{Input, Pad, Wire, Register}
use Rattle.lola_flat.specs.Tree.{ExprTree, SignalTree, FlatTree}
use Rattle.lola_flat.specs.Value.{Env, env}
use Rattle.lola_flat.specs.Signals.{IsSignal, IsClock, widths_of}
use Rattle.lola_flat.specs.Formed.{IsFormed}
use Rattle.lola_flat.specs.Cycle.{IsValueOf, IsCycle, next_elements, IsNextOf, IsNext}
use Rattle.lola_eval.specs.Means.{IsWideAs, AreSignalBits, EnvKnown, numbers}
use Rattle.lola_cases.specs.Cases.{IsCase, elements_in, given_of}
use Rattle.lola_cases.specs.Bits.{IsNarrow, table_numbers}
use Rattle.lola_cases.proofs.Clocks.{clock_or_not, clock_is_input, none_of_clock}
use Rattle.lola_cases.proofs.Shares.{empty, share_at}
use Rattle.lola_cases.proofs.OneCase.{within_shares}

-- all bits are known
bits_known : (d : Unit {0}) (bits : List Bool) → AreKnown plain_meaning d bits
bits_known d [] = tt
bits_known d (b ∷ bits) = (refl, bits_known d bits)

row_known : (d : Unit {0}) (row : List (List Bool)) → AllByRecursion (AreKnown plain_meaning d) row
row_known d [] = tt
row_known d (bits ∷ row) = (bits_known d bits, row_known d row)

table_known : (d : Unit {0}) (table : List (List (List Bool))) → AllByRecursion (AllByRecursion (AreKnown plain_meaning d)) table
table_known d [] = tt
table_known d (row ∷ table) = (row_known d row, table_known d table)

pub all_known : (d : Unit {0}) (E : Env (List Bool)) → EnvKnown plain_meaning d E
all_known d E = record { signals = table_known d E.signals; outside = row_known d E.outside }

-- what bits mean is their number
abbrev nowhere : ℕ → Bool
nowhere n = false

row_numbers : (d : Unit {0}) (row : List (List Bool)) → map (number_at plain_meaning d nowhere) row ≡ map number_of row
row_numbers d [] = refl
row_numbers d (bits ∷ row) = ap₂ (λ (n : ℕ) (ns : List ℕ). n ∷ ns) (ap number_of (map-id bits)) (row_numbers d row)

numbers_are : (d : Unit {0}) (table : List (List (List Bool))) → map (map (number_at plain_meaning d nowhere)) table ≡ table_numbers table
numbers_are d [] = refl
numbers_are d (row ∷ table) = ap₂ (λ (ns : List ℕ) (rows : List (List ℕ)). ns ∷ rows) (row_numbers d row) (numbers_are d table)

pub plain_cycle : (F : FlatTree) (d e : Unit {0}) (given : List (List (List Bool))) (outside : List (List Bool)) (table : List (List (List Bool))) →
    ((v : ℕ → Bool) → IsCycle F (numbers plain_meaning d v (env given outside)).signals (numbers plain_meaning d v (env given outside)).outside (map (map (number_at plain_meaning e v)) table)) →
    IsCycle F (table_numbers given) (map number_of outside) (table_numbers table)
plain_cycle F d e given outside table means =
    subst (λ (N : List (List ℕ)). IsCycle F (table_numbers given) (map number_of outside) N) (numbers_are e table)
    (subst (λ (o : List ℕ). IsCycle F (table_numbers given) o (map (map (number_at plain_meaning e nowhere)) table)) (row_numbers d outside)
    (subst (λ (g : List (List ℕ)). IsCycle F g (map (number_at plain_meaning d nowhere) outside) (map (map (number_at plain_meaning e nowhere)) table)) (numbers_are d given) (means nowhere)))

pub plain_next : (F : FlatTree) (d e : Unit {0}) (signals table : List (List (List Bool))) → ((v : ℕ → Bool) → IsNext F (map (map (number_at plain_meaning d v)) signals) (map (map (number_at plain_meaning e v)) table)) →
    IsNext F (table_numbers signals) (table_numbers table)
plain_next F d e signals table means =
    subst (λ (N : List (List ℕ)). IsNext F (table_numbers signals) N) (numbers_are e table)
    (subst (λ (g : List (List ℕ)). IsNext F g (map (map (number_at plain_meaning e nowhere)) table)) (numbers_are d signals) (means nowhere))

-- vectors of signals are narrow
wide_narrow : (row : List (List Bool)) (count width : ℕ) → width ≤ 128 → map length row ≡ replicate count width → AllByRecursion IsNarrow row
wide_narrow [] count width small wide = tt
wide_narrow (bits ∷ row) zero width small wide = absurd (let e : length bits ∷ map length row ≡ [] = wide in cc)
wide_narrow (bits ∷ row) (suc count) width small wide =
    let e : length bits ∷ map length row ≡ width ∷ replicate count width = wide in
    let head : length bits ≡ width = cc in
    let tail : map length row ≡ replicate count width = cc in
    (subst (λ (n : ℕ). n ≤ 128) (sym head) small, wide_narrow row count width small tail)

none_narrow : (row : List (List Bool)) → map number_of row ≡ [] → AllByRecursion IsNarrow row
none_narrow [] none = tt
none_narrow (bits ∷ row) none = absurd (let e : number_of bits ∷ map number_of row ≡ [] = none in cc)

-- all rows of a table have what each has
rows_have : (P : List (List Bool) → Type 0) (table : List (List (List Bool))) (signals : List SignalTree) → length table ≡ length signals → ((n : ℕ) (s : SignalTree) → slice_get signals n ≡ Some s → P (get_or table n [])) →
    AllByRecursion P table
rows_have P [] signals long each = tt
rows_have P (row ∷ table) [] long each = absurd (omega arith)
rows_have P (row ∷ table) (s ∷ signals) long each = (each 0 s refl, rows_have P table signals (omega arith) (λ n t is. each (suc n) t is))

-- the clock has no elements in a case
clock_value : (F : FlatTree) (kind : SigKind) (N : Env ℕ) (equation : Option ExprTree) (given ns : List ℕ) → kind ≡ Input → given ≡ [] → IsValueOf F N kind equation given ns → ns ≡ []
clock_value F Input N equation given ns input none v = v ∙ none
clock_value F Register N equation given ns input none v = v ∙ none
clock_value F Pad N equation given ns input none v = absurd (cc)
clock_value F Wire N equation given ns input none v = absurd (cc)

clock_given : (F : FlatTree) (ns : List ℕ) → IsCase F ns → (n : ℕ) (s : SignalTree) → IsSignal F n s → s.kind ≡ Input → IsClock F s → get_or (given_of F ns) n [] ≡ []
clock_given F ns is n s at kind clock =
    let r = share_at F F.signals ns (within_shares F ns is) n s at in
    r.given ∙ (ap (λ (k : SigKind). elements_in k r.share) kind ∙ empty r.share (r.long ∙ none_of_clock F s kind clock))

pub signals_narrow : (F : FlatTree) → IsFormed F → (ns : List ℕ) → IsCase F ns → (outside : List ℕ) (table : List (List (List Bool))) → AreSignalBits F table → IsCycle F (given_of F ns) outside (table_numbers table) →
    AllByRecursion (AllByRecursion IsNarrow) table
signals_narrow F formed ns is outside table wide cycle = rows_have (AllByRecursion IsNarrow) table F.signals wide.long at
  where
    at : (n : ℕ) (s : SignalTree) → IsSignal F n s → AllByRecursion IsNarrow (get_or table n [])
    at n s there = elim (clock_or_not F s) [
      | inl clock ↦
          let kind : s.kind ≡ Input = clock_is_input F formed n s there clock in
          none_narrow (get_or table n []) (sym (get_or-map (map number_of) table n [])
          ∙ clock_value F s.kind (env (table_numbers table) outside) s.equation (get_or (given_of F ns) n []) (get_or (table_numbers table) n []) kind (clock_given F ns is n s there kind clock) (cycle.each n s there))
      | inr other ↦ wide_narrow (get_or table n []) s.count s.width (formed.signals n s there).wide.1 (wide.each n s there other)
    ]

pub state_narrow : (F : FlatTree) → IsFormed F → (N : List (List ℕ)) (table : List (List (List Bool))) → ((n : ℕ) (s : SignalTree) → IsSignal F n s → s.kind ≡ Register → IsWideAs s (get_or table n [])) → IsNext F N (table_numbers table) →
    AllByRecursion (AllByRecursion IsNarrow) table
state_narrow F formed N table wide next = rows_have (AllByRecursion IsNarrow) table F.signals (sym (length-map table (map number_of)) ∙ next.long) (λ n s is. at n s is s.kind refl (next.each n s is))
  where
    nothing_there : (n : ℕ) → get_or (table_numbers table) n [] ≡ [] → AllByRecursion IsNarrow (get_or table n [])
    nothing_there n none = none_narrow (get_or table n []) (sym (get_or-map (map number_of) table n []) ∙ none)

    at : (n : ℕ) (s : SignalTree) → IsSignal F n s → (kind : SigKind) → s.kind ≡ kind → IsNextOf kind (next_elements (widths_of F) (env N []) s.place s.equation (get_or N n [])) (get_or (table_numbers table) n []) →
        AllByRecursion IsNarrow (get_or table n [])
    at n s is Register kind v = wide_narrow (get_or table n []) s.count s.width (formed.signals n s is).wide.1 (wide n s is kind)
    at n s is Input kind v = nothing_there n v
    at n s is Pad kind v = nothing_there n v
    at n s is Wire kind v = nothing_there n v
