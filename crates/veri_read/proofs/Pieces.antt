-- Tokens of a text from a place on.
use Rattle.std.proofs.Common.{◌≡◌, ◌≤◌, ◌<◌, ℕ, zero, suc, ◌+◌, ◌-◌, Bool, true, false, cond, List, [], ◌∷◌, length, get_or, take, drop, subst, nat_eq, refl, sym, ap, rules, ◌∙◌, inl, inr, Option, Some, None, Result, Ok, Err, arith, length-take, length-drop}
use Rattle.std.specs.Prelude.{codes}
use Rattle.std.specs.List.{prefix_len}
use Rattle.std.proofs.lemmas.Bool.{cases_Bool}
use Rattle.std.proofs.lemmas.List.{drop_more, drop-drop}
use Rattle.std.proofs.lemmas.List.Sums.{prefix_len-le-length}
use Rattle.lola_bits.proofs.Names.{is_same_name}
use Rattle.veri_read.specs.declared.symbol.Symbol.{Symbol}
use Rattle.veri_read.specs.declared.symbol.Symbol.TheVariants as symbol
use Rattle.veri_read.specs.declared.error.VeriError.{VeriError}
use Rattle.veri_read.specs.Tokens.{Item, is_blank, begins_name, is_name_byte, stands, constant_symbol, mark_symbol, mark_length, front_length, front_item, items_from}
use Rattle.veri_read.specs.Said.{Said}
use Rattle.veri_read.specs.Faults.{said_with, said_by, step}
use Rattle.veri_read.specs.Held.{Does, Took, GoesOn}

-- a skip of so many bytes stands behind them
pub skipped : (k at : ℕ) (xs : List ℕ) → k ≤ length xs → items_from k at xs ≡ items_from 0 (at + k) (drop k xs)
skipped zero at xs within = let e : at ≡ at + 0 = omega arith in ap (λ n. items_from 0 n xs) e
skipped (suc k) at [] within = absurd (omega arith)
skipped (suc k) at (b ∷ bs) within = let h : k ≤ length bs = omega arith in let e : suc at + k ≡ at + suc k = omega arith in skipped k (suc at) bs h ∙ ap (λ n. items_from 0 n (drop k bs)) e

-- the first symbol whose test holds
abbrev first_symbol : List (Bool × Symbol) → Symbol → Symbol
first_symbol [] last = last
first_symbol (e ∷ more) last = cond e.0 e.1 (first_symbol more last)

-- each symbol that comes takes few bytes
abbrev AreFew : ℕ → List (Bool × Symbol) → Type 0
AreFew n [] = Unit {0}
AreFew n (e ∷ more) = (e.0 ≡ true → mark_length e.1 ≤ n) × AreFew n more

first_few : (n : ℕ) (table : List (Bool × Symbol)) (last : Symbol) → AreFew n table → mark_length last ≤ n → mark_length (first_symbol table last) ≤ n
first_few n [] last all few = few
first_few n (e ∷ more) last all few = by e.0 all.0 (first_few n more last all.1 few)
  where
    by : (c : Bool) → (c ≡ true → mark_length e.1 ≤ n) → mark_length (first_symbol more last) ≤ n → mark_length (cond c e.1 (first_symbol more last)) ≤ n
    by true f g = f refl
    by false f g = g

-- bytes that stand at the front of a text are within it
stands_within : (n : ℕ) (bytes text : List ℕ) → length bytes ≡ n → stands n bytes text ≡ true → n ≤ length text
stands_within n bytes text long is = let same = is_same_name bytes (take n text) is in let e : length bytes ≡ length (take n text) = ap length same in omega (arith, length-take n text)

some_bytes : (s : Symbol) → 1 ≤ mark_length s
some_bytes symbol.Low = omega arith
some_bytes symbol.High = omega arith
some_bytes symbol.Floating = omega arith
some_bytes symbol.Arrow = omega arith
some_bytes s = omega arith

few_constant : (text : List ℕ) → 1 ≤ length text → mark_length (constant_symbol text) ≤ length text
few_constant text some =
    first_few (length text) ((stands 4 (codes "1'b0") text, symbol.Low) ∷ (stands 4 (codes "1'b1") text, symbol.High) ∷ (stands 4 (codes "1'bz") text, symbol.Floating) ∷ []) symbol.Stray
    (stands_within 4 (codes "1'b0") text refl, (stands_within 4 (codes "1'b1") text refl, (stands_within 4 (codes "1'bz") text refl, tt))) some

few_arrow : (text : List ℕ) → 1 ≤ length text → mark_length (cond (stands 2 (codes "<=") text) symbol.Arrow symbol.Stray) ≤ length text
few_arrow text some = first_few (length text) ((stands 2 (codes "<=") text, symbol.Arrow) ∷ []) symbol.Stray (stands_within 2 (codes "<=") text refl, tt) some

few_bytes : (b : ℕ) (text : List ℕ) → 1 ≤ length text → mark_length (mark_symbol b text) ≤ length text
few_bytes b text some =
    first_few (length text) ((nat_eq b 40, symbol.OpenParen) ∷ (nat_eq b 41, symbol.CloseParen) ∷ (nat_eq b 44, symbol.Comma) ∷ (nat_eq b 59, symbol.Semicolon) ∷ (nat_eq b 61, symbol.Equal)
    ∷ (nat_eq b 38, symbol.And) ∷ (nat_eq b 63, symbol.Question) ∷ (nat_eq b 58, symbol.Colon) ∷ (nat_eq b 126, symbol.Not) ∷ (nat_eq b 64, symbol.At)
    ∷ (nat_eq b 60, cond (stands 2 (codes "<=") text) symbol.Arrow symbol.Stray) ∷ []) (constant_symbol text)
    ((λ _. some), ((λ _. some), ((λ _. some), ((λ _. some), ((λ _. some), ((λ _. some), ((λ _. some), ((λ _. some), ((λ _. some), ((λ _. some), ((λ _. few_arrow text some), tt))))))))))) (few_constant text some)

-- a token takes at least one byte, and only bytes that are there
begins_within : (b : ℕ) → begins_name b ≡ true → is_name_byte b ≡ true
begins_within b is = search rules

pub front_within : (b : ℕ) (bs : List ℕ) → (1 ≤ front_length b (b ∷ bs)) × (front_length b (b ∷ bs) ≤ length (b ∷ bs))
front_within b bs = elim (cases_Bool (begins_name b)) [
  | inl is ↦ (
      let e : front_length b (b ∷ bs) ≡ 1 + prefix_len is_name_byte bs = ap (λ (t : Bool). cond t (prefix_len is_name_byte (b ∷ bs)) (mark_length (mark_symbol b (b ∷ bs)))) is ∙ ap (λ (t : Bool). cond t (1 + prefix_len is_name_byte bs) 0) (begins_within b is) in
      let few = prefix_len-le-length is_name_byte bs in
      (omega arith, omega arith))
  | inr is ↦ (
      let e : front_length b (b ∷ bs) ≡ mark_length (mark_symbol b (b ∷ bs)) = ap (λ (t : Bool). cond t (prefix_len is_name_byte (b ∷ bs)) (mark_length (mark_symbol b (b ∷ bs)))) is in
      let some = some_bytes (mark_symbol b (b ∷ bs)) in
      let few = few_bytes b (b ∷ bs) (omega arith) in
      (omega arith, omega arith))
]

-- a blank is passed over
pub blank_passed : (at b : ℕ) (bs : List ℕ) → is_blank b ≡ true → items_from 0 at (b ∷ bs) ≡ items_from 0 (at + 1) bs
blank_passed at b bs is = let e : suc at ≡ at + 1 = omega arith in
    ap (λ (t : Bool). cond t (items_from 0 (suc at) bs) (front_item at b (b ∷ bs) ∷ items_from (front_length b (b ∷ bs) - 1) (suc at) bs)) is ∙ ap (λ n. items_from 0 n bs) e

-- a token stands in front of those behind it
pub token_passed : (at b n : ℕ) (bs : List ℕ) → is_blank b ≡ false → n ≡ front_length b (b ∷ bs) → items_from 0 at (b ∷ bs) ≡ front_item at b (b ∷ bs) ∷ items_from 0 (at + n) (drop n (b ∷ bs))
token_passed at b n bs is long =
    let within = front_within b bs in
    let k = n - 1 in
    let same : front_length b (b ∷ bs) - 1 ≡ k = omega arith in
    let few : k ≤ length bs = omega arith in
    let on : suc at + k ≡ at + n = omega arith in
    let behind : drop (suc k) (b ∷ bs) ≡ drop n (b ∷ bs) = let e : suc k ≡ n = omega arith in ap (λ m. drop m (b ∷ bs)) e in
    ap (λ (t : Bool). cond t (items_from 0 (suc at) bs) (front_item at b (b ∷ bs) ∷ items_from (front_length b (b ∷ bs) - 1) (suc at) bs)) is
    ∙ ap (λ (ts : List Item). front_item at b (b ∷ bs) ∷ ts) (ap (λ m. items_from m (suc at) bs) same ∙ skipped k (suc at) bs few ∙ ap (λ m. items_from 0 m (drop k bs)) on ∙ ap (items_from 0 (at + n)) behind)

-- what is said once a token is taken in, or refused
pub taken : (s now : Said) (due : Result Said VeriError) (more : Said → Said × Option VeriError) (u : Unit {0}) → Does s due now (Ok u) → said_with s more due ≡ more now
taken s now (Ok x) more u is = ap more (sym is)
taken s now (Err f) more u is = absurd is

pub refused : (s now : Said) (due : Result Said VeriError) (more : Said → Said × Option VeriError) (f : VeriError) → Does s due now (Err f) → Took (said_with s more due) now (Err f)
refused s now (Ok x) more f is = inr is
refused s now (Err g) more f (inl is) = inl (let e : s ≡ now = sym is.1 in let d : g ≡ f = sym is.0 in ap (λ (x : Said). (x, Some g)) e ∙ ap (λ (h : VeriError). (now, Some h)) d)
refused s now (Err g) more f (inr is) = inr is

-- the end of the text
pub ended : (s now : Said) (due : Result Said VeriError) (r : Result (Unit {0}) VeriError) → Does s due now r → Took (said_with s (λ x. (x, None)) due) now r
ended s now due (Ok u) is = taken s now due (λ x. (x, None)) u is
ended s now due (Err f) is = refused s now due (λ x. (x, None)) f is

-- the rest of a text begins with the byte here
rest_here : (bytes text : List ℕ) (at b : ℕ) → at < length bytes → text ≡ drop at bytes → b ≡ get_or bytes at 0 → text ≡ b ∷ drop (at + 1) bytes
rest_here bytes text at b within is here = is ∙ drop_more bytes at 0 within ∙ ap (λ x. x ∷ drop (at + 1) bytes) (sym here)

-- the tokens from a place on, where a token stands there
pub here_on : (at n b : ℕ) (bytes text : List ℕ) (t : Item) → at < length bytes → text ≡ drop at bytes → b ≡ get_or bytes at 0 → is_blank b ≡ false → t ≡ front_item at b text → n ≡ front_length b text →
    items_from 0 at (drop at bytes) ≡ t ∷ items_from 0 (at + n) (drop (at + n) bytes)
here_on at n b bytes text t within is here no_blank token long =
    let shape = rest_here bytes text at b within is here in
    let n_is : n ≡ front_length b (b ∷ drop (at + 1) bytes) = long ∙ ap (front_length b) shape in
    let t_is : front_item at b (b ∷ drop (at + 1) bytes) ≡ t = sym (token ∙ ap (front_item at b) shape) in
    let behind : drop n (b ∷ drop (at + 1) bytes) ≡ drop (at + n) bytes = ap (drop n) (sym shape ∙ is) ∙ drop-drop n at bytes ∙ ap (λ k. drop k bytes) (omega arith) in
    ap (items_from 0 at) (sym is ∙ shape) ∙ token_passed at b n (drop (at + 1) bytes) no_blank n_is ∙ ap (λ (x : Item). x ∷ items_from 0 (at + n) (drop n (b ∷ drop (at + 1) bytes))) t_is ∙ ap (λ (r : List ℕ). t ∷ items_from 0 (at + n) r) behind

pub piece_taken : (at n b : ℕ) (bytes text : List ℕ) (t : Item) (s now : Said) (u : Unit {0}) → at < length bytes → text ≡ drop at bytes → b ≡ get_or bytes at 0 → is_blank b ≡ false → t ≡ front_item at b text → n ≡ front_length b text → Does s (step s t) now (Ok u) →
    GoesOn at (at + n) bytes s now
piece_taken at n b bytes text t s now u within is here no_blank token long does =
    let shape = rest_here bytes text at b within is here in
    let few = front_within b (drop (at + 1) bytes) in
    let n_is : n ≡ front_length b (b ∷ drop (at + 1) bytes) = long ∙ ap (front_length b) shape in
    let left : length (b ∷ drop (at + 1) bytes) ≡ length bytes - at = ap length (sym shape ∙ is) ∙ length-drop at bytes in
    record {
      later = omega arith;
      within = omega arith;
      same = ap (λ (ts : List Item). said_by ts s) (here_on at n b bytes text t within is here no_blank token long) ∙ taken s now (step s t) (said_by (items_from 0 (at + n) (drop (at + n) bytes))) u does;
    }

pub piece_refused : (at n b : ℕ) (bytes text : List ℕ) (t : Item) (s now : Said) (f : VeriError) → at < length bytes → text ≡ drop at bytes → b ≡ get_or bytes at 0 → is_blank b ≡ false → t ≡ front_item at b text → n ≡ front_length b text → Does s (step s t) now (Err f) →
    Took (said_by (items_from 0 at (drop at bytes)) s) now (Err f)
piece_refused at n b bytes text t s now f within is here no_blank token long does =
    subst (λ (d : Said × Option VeriError). Took d now (Err f)) (sym (ap (λ (ts : List Item). said_by ts s) (here_on at n b bytes text t within is here no_blank token long))) (refused s now (step s t) (said_by (items_from 0 (at + n) (drop (at + n) bytes))) f does)
