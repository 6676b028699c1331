-- What tables of names hold when one more is put there, and what they hold in the end.
use Rattle.std.proofs.Common.{◌≡◌, ℕ, Bool, true, false, cond, ◌||◌, if◌then◌else◌, List, [], ◌∷◌, ◌++◌, map, drop, get_or, Option, Some, None, refl, sym, ap, ◌∙◌, bytes_eq, Bor}
use Rattle.lola_bits.specs.Names.{is_among}
use Rattle.lola_tree.specs.declared.expr.Actual.{Actual}
use Rattle.lola_tree.specs.Tree.{ActualTree, actual_tree, StmtTree, assignment, call, pad}
use Rattle.lola_tree.specs.design.Calls.{args_of, bare_name}
use Rattle.lola_tree.specs.design.Clocks.{passed_clocks}
use Rattle.lola_unfold.specs.declared.slots.Slot.{Slot}
use Rattle.lola_unfold.specs.Slots.{first_slot}
use Rattle.lola_unfold.specs.Tables.{Called, no_calls, first_call, calls_with, calls_with_all, some_args, args_or_none, Among, no_clock, clocks_with, first_pad}

pub slot_added : (same : Bool) (old : Option Slot) (new : Slot) → (same ≡ true → old ≡ None) → cond same (Some new) old ≡ first_slot old (cond same (Some new) None)
slot_added true old new absent = sym (ap (λ o. first_slot o (Some new)) (absent refl))
slot_added false None new absent = refl
slot_added false (Some s) new absent = refl

pub pad_added : (same : Bool) (old : Option ℕ) (new : ℕ) → (same ≡ true → old ≡ None) → cond same (Some new) old ≡ first_pad old (cond same (Some new) None)
pad_added true old new absent = sym (ap (λ o. first_pad o (Some new)) (absent refl))
pad_added false None new absent = refl
pad_added false (Some s) new absent = refl

pub call_added : (same : Bool) (old : Option (Bor (List Actual))) (new : Bor (List Actual)) → (same ≡ true → old ≡ None) →
    some_args (cond same (Some new) old) ≡ first_call (some_args old) (cond same (Some (map actual_tree new.now)) None)
call_added true old new absent = sym (ap (λ o. first_call (some_args o) (Some (map actual_tree new.now))) (absent refl))
call_added false None new absent = refl
call_added false (Some args) new absent = refl

-- clocks one behind another
pub clocks_append : (clocks : Among) (xs ys : List (List ℕ)) → clocks_with clocks (xs ++ ys) ≡ clocks_with (clocks_with clocks xs) ys
clocks_append clocks [] ys = refl
clocks_append clocks (x ∷ xs) ys = clocks_append (λ name. bytes_eq x name || clocks name) xs ys

or_turned : (a b c : Bool) → (a || (b || c)) ≡ ((b || a) || c)
or_turned true true c = refl
or_turned true false c = refl
or_turned false true c = refl
or_turned false false c = refl

among_or : (clocks : Among) (xs : List (List ℕ)) (name : List ℕ) → clocks_with clocks xs name ≡ (is_among xs name || clocks name)
among_or clocks [] name = refl
among_or clocks (x ∷ xs) name = among_or (λ name. bytes_eq x name || clocks name) xs name ∙ or_turned (is_among xs name) (bytes_eq x name) (clocks name)

or_false : (a : Bool) → (a || false) ≡ a
or_false true = refl
or_false false = refl

-- the names that are clocks are those of a list
pub clocks_are : (xs : List (List ℕ)) → clocks_with no_clock xs ≡ is_among xs
clocks_are xs = let e = λ (name : List ℕ). among_or no_clock xs name ∙ or_false (is_among xs name) in λ i name. e name i

-- an argument and its port, with those behind them
pub passed_more : (ports : List Bool) (a : ActualTree) (args : List ActualTree) →
    passed_clocks ports (a ∷ args) ≡ (if get_or ports 0 false then bare_name a.value ∷ [] else []) ++ passed_clocks (drop 1 ports) args
passed_more [] a [] = refl
passed_more [] a (b ∷ args) = refl
passed_more (p ∷ ports) a args = refl

pub passed_none : (ports : List Bool) → passed_clocks ports [] ≡ []
passed_none [] = refl
passed_none (p ∷ ports) = refl

-- the first call of a name is its call
first_assoc : (a b c : Option (List ActualTree)) → first_call (first_call a b) c ≡ first_call a (first_call b c)
first_assoc None b c = refl
first_assoc (Some x) b c = refl

abbrev call_of : List StmtTree → Called
call_of [] name = None
call_of (assignment other place value at equals ∷ body) name = call_of body name
call_of (call other args at ∷ body) name = first_call (cond (bytes_eq other name) (Some args) None) (call_of body name)
call_of (pad io inner value release at ∷ body) name = call_of body name

first_none : (a : Option (List ActualTree)) → a ≡ first_call a None
first_none None = refl
first_none (Some x) = refl

calls_or : (calls : Called) (body : List StmtTree) (name : List ℕ) → calls_with_all calls body name ≡ first_call (calls name) (call_of body name)
calls_or calls [] name = first_none (calls name)
calls_or calls (assignment other place value at equals ∷ body) name = calls_or calls body name
calls_or calls (call other args at ∷ body) name = calls_or (calls_with calls other args) body name ∙ first_assoc (calls name) (cond (bytes_eq other name) (Some args) None) (call_of body name)
calls_or calls (pad io inner value release at ∷ body) name = calls_or calls body name

args_or : (same : Bool) (args others : List ActualTree) (o : Option (List ActualTree)) → args_or_none o ≡ others → args_or_none (first_call (cond same (Some args) None) o) ≡ (if same then args else others)
args_or true args others o e = refl
args_or false args others o e = e

call_args : (body : List StmtTree) (name : List ℕ) → args_or_none (call_of body name) ≡ args_of body name
call_args [] name = refl
call_args (assignment other place value at equals ∷ body) name = call_args body name
call_args (call other args at ∷ body) name = args_or (bytes_eq other name) args (args_of body name) (call_of body name) (call_args body name)
call_args (pad io inner value release at ∷ body) name = call_args body name

pub called_args : (body : List StmtTree) (name : List ℕ) → args_or_none (calls_with_all no_calls body name) ≡ args_of body name
called_args body name = ap args_or_none (calls_or no_calls body name) ∙ call_args body name
