-- What the code holds, seen as the definitions have it.
use Rattle.std.proofs.Common.{◌≡◌, ℕ, suc, ◌+◌, Bool, true, false, cond, ◌&&◌, List, [], ◌∷◌, map, drop, slice_get, Some, Result, Ok, Err, refl, sym, ap, ◌∙◌, bytes_eq, arith}
use Rattle.std.specs.List.{list_all}
use Rattle.std.specs.Option.{option_map, is_some}
use Rattle.lola_bits.proofs.Places.{drop_found}
use Rattle.veri_read.specs.declared.literal.Literal.{Literal}
use Rattle.veri_read.specs.declared.rules.Place.{Place}
use Rattle.veri_read.specs.declared.error.VeriError.{VeriError}
use Rattle.veri_read.specs.Tables.{Names, find, has, put}
use Rattle.veri_read.specs.Said.{Said, Term}
use Rattle.veri_read.specs.Faults.{placed}
use Rattle.veri_read.specs.Held.{term_of, with_term_of, Does}

pub find_term : (xs : Names Literal) (name : List ℕ) → option_map term_of (find xs name) ≡ find (map with_term_of xs) name
find_term [] name = refl
find_term (x ∷ xs) name = by (bytes_eq name x.0) (find_term xs name)
  where
    by : (b : Bool) → option_map term_of (find xs name) ≡ find (map with_term_of xs) name → option_map term_of (cond b (Some x.1) (find xs name)) ≡ cond b (Some (term_of x.1)) (find (map with_term_of xs) name)
    by true h = refl
    by false h = h

pub has_term : (xs : Names Literal) (name : List ℕ) → has xs name ≡ has (map with_term_of xs) name
has_term [] name = refl
has_term (x ∷ xs) name = by (bytes_eq name x.0) (has_term xs name)
  where
    by : (b : Bool) → has xs name ≡ has (map with_term_of xs) name → is_some (cond b (Some x.1) (find xs name)) ≡ is_some (cond b (Some (term_of x.1)) (find (map with_term_of xs) name))
    by true h = refl
    by false h = h

pub put_term : (xs : Names Literal) (name : List ℕ) (v : Literal) → map with_term_of (put xs name v) ≡ put (map with_term_of xs) name (term_of v)
put_term [] name v = refl
put_term (x ∷ xs) name v = by (bytes_eq name x.0) (put_term xs name v)
  where
    by : (b : Bool) → map with_term_of (put xs name v) ≡ put (map with_term_of xs) name (term_of v) → map with_term_of (cond b ((x.0, v) ∷ xs) (x ∷ put xs name v)) ≡ cond b ((x.0, term_of v) ∷ map with_term_of xs) (with_term_of x ∷ put (map with_term_of xs) name (term_of v))
    by true h = refl
    by false h = ap (λ (l : Names Term). with_term_of x ∷ l) h

pub placed_on : (before now : Said) (due : Result Said VeriError) (p : Place) (u : Unit {0}) → Does before due now (Ok u) → Does before (placed p due) (record now { place = p }) (Ok u)
placed_on before now (Ok s) p u is = ap (λ (x : Said). record x { place = p }) is
placed_on before now (Err f) p u is = absurd is

pub placed_up : (before now : Said) (due : Result Said VeriError) (p : Place) (f : VeriError) → Does before due now (Err f) → Does before (placed p due) now (Err f)
placed_up before now (Ok s) p f is = is
placed_up before now (Err g) p f is = is

-- a test of all items, item by item
pub all_on : {X : Type 0} (test : X → Bool) (xs : List X) (n : ℕ) (x : X) → slice_get xs n ≡ Some x → test x ≡ true → list_all test (drop n xs) ≡ list_all test xs →
    list_all test (drop (n + 1) xs) ≡ list_all test xs
all_on test xs n x at holds so = let e : n + 1 ≡ suc n = omega arith in ap (λ k. list_all test (drop k xs)) e ∙ ap (λ b. b && list_all test (drop (suc n) xs)) (sym holds) ∙ sym (ap (list_all test) (drop_found xs n x at)) ∙ so

pub all_stops : {X : Type 0} (test : X → Bool) (xs : List X) (n : ℕ) (x : X) → slice_get xs n ≡ Some x → test x ≡ false → list_all test (drop n xs) ≡ list_all test xs →
    false ≡ list_all test xs
all_stops test xs n x at fails so = ap (λ b. b && list_all test (drop (suc n) xs)) (sym fails) ∙ sym (ap (list_all test) (drop_found xs n x at)) ∙ so
