-- What a look-up and a write of the first file of a name make of the list of files.
use Rattle.std.proofs.Common.{◌≡◌, ◌<◌, ℕ, zero, suc, List, [], ◌∷◌, ◌++◌, length, Bool, true, false, nat_lt, Some, None, Vec, String, option_map, find, position, bytes_eq, string_bytes, get_or, slice_set, refl, ap, sym, subst, OnOk, Result, Ok, Err, inl, inr, arith}
use Rattle.std.specs.declared.alloc.Global.{Global}
use Rattle.std.specs.List.{position_or_len}
use Rattle.std.proofs.lemmas.Bool.{cases_Bool}
use Rattle.std.proofs.lemmas.List.Quantifiers.{position-Some}
use Rattle.std.proofs.lemmas.List.Sums.{fails_before_first}
use Rattle.std.proofs.lemmas.Slice.Eq.{bytes_eq-Decides}
use borrow.Author.Tests.{ltb-false}
use Rattle.lola_bits.specs.declared.memory.Memory.{Memory}
use Rattle.lola_port.specs.Outside.{lookup, Stored}
use Rattle.lola_port.specs.MemStore.{file_of, file_list}

-- a file of a vector
abbrev pub File : Type 0
File = String Global × Vec ℕ Global

-- whether a file has a name
abbrev pub has_name : List ℕ → File → Bool
has_name name file = bytes_eq (string_bytes file.0) name

-- a look-up finds the bytes of the first file of the name
pub lookup-file_list : (files : List File) (name : List ℕ) → lookup (file_list files) name ≡ option_map (λ file. file.1.items) (find (has_name name) files)
lookup-file_list [] name = refl
lookup-file_list (file ∷ files) name = elim (cases_Bool (has_name name file)) [ inl has ↦ rw has refl | inr lacks ↦ rw lacks (lookup-file_list files name) ]

-- a text is equal to itself
bytes_eq-same : (text : List ℕ) → bytes_eq text text ≡ true
bytes_eq-same text = (bytes_eq-Decides text text).1 refl

-- new bytes in the first file of the name
replaced : (files : List File) (name : List ℕ) (bytes : Vec ℕ Global) (n : ℕ) (d : File) → n < length files → has_name name (get_or files n d) ≡ true
    → ((k : ℕ) → k < n → has_name name (get_or files k d) ≡ false) → Stored (file_list files) (file_list (slice_set files n ((get_or files n d).0, bytes))) name bytes.items
replaced [] name bytes n d below has before = absurd (omega arith)
replaced (file ∷ files) name bytes zero d below has before = record { stands = rw has refl; others = rw has refl }
replaced (file ∷ files) name bytes (suc n) d below has before =
    let lacks : has_name name file ≡ false = before 0 (omega arith) in
    let rest = replaced files name bytes n d (omega arith) has (λ k less. before (suc k) (omega arith)) in
    record { stands = rw lacks rest.stands; others = rw lacks (ap (λ others. file_of file ∷ others) rest.others) }

-- a new file of the name, where no file has it
pushed : (files : List File) (name : List ℕ) (file : File) → string_bytes file.0 ≡ name → ((k : ℕ) (d : File) → k < length files → has_name name (get_or files k d) ≡ false)
    → Stored (file_list files) (file_list (files ++ file ∷ [])) name file.1.items
pushed [] name file named none =
    let has : has_name name file ≡ true = rw named (bytes_eq-same name) in record { stands = rw has refl; others = rw has refl }
pushed (other ∷ files) name file named none =
    let lacks : has_name name other ≡ false = none 0 other (omega arith) in
    let rest = pushed files name file named (λ k d below. none (suc k) d (omega arith)) in
    record { stands = rw lacks rest.stands; others = rw lacks (ap (λ others. file_of other ∷ others) rest.others) }

-- where no position is found, no item passes
none_passes : {X : Type 0} (p : X → Bool) (xs : List X) → position p xs ≡ None → (k : ℕ) (d : X) → k < length xs → p (get_or xs k d) ≡ false
none_passes p xs none k d below =
    elim (cases_Bool (nat_lt (position_or_len p xs) (length xs))) [
      | inl has ↦ (let found : position p xs ≡ Some (position_or_len p xs) = rw has refl in cc)
      | inr lacks ↦ fails_before_first p xs k d (let behind = ltb-false _ _ lacks in omega arith)
    ]

-- a write to the first file of the name
pub stored_in_place : (files : List File) (name bytes : List ℕ) (copy : Vec ℕ Global) (n : ℕ) (d : File) → Some n ≡ position (has_name name) files → d ≡ get_or files n d → copy.items ≡ bytes
    → Stored (file_list files) (file_list (slice_set files n (d.0, copy))) name bytes
stored_in_place files name bytes copy n d found here same =
    let first = position-Some (has_name name) files n d (sym found) in
    let stored = replaced files name copy n d first.0 first.1 first.2 in
    rw (← same) (subst (λ text. Stored (file_list files) (file_list (slice_set files n (text, copy))) name copy.items) (ap (λ file. file.0) (sym here)) stored)

-- a write to a name that is absent
pub stored_behind : (files : List File) (name bytes : List ℕ) (file : File) (r : Result Unit Memory) (new : List File) → string_bytes file.0 ≡ name → file.1.items ≡ bytes
    → None ≡ position (has_name name) files → OnOk r (new ≡ files ++ file ∷ []) → OnOk r (Stored (file_list files) (file_list new) name bytes)
stored_behind files name bytes file (Ok done) new named same none pushes =
    rw (pushes, ← same) (pushed files name file named (none_passes (has_name name) files (sym none)))
stored_behind files name bytes file (Err refused) new named same none pushes = tt
