-- What trying the obligations of a claim comes to, with the names of what is free as they are printed.
use Rattle.std.specs.Prelude.{◌≡◌, ℕ, List, [], ◌∷◌, ◌++◌, map, length, codes, string_bytes}
use Rattle.std.specs.List.{AllByRecursion}
use Rattle.lola_elab.specs.Elaborated.{vector_names}
use Rattle.lola_app.specs.declared.subject.Subject.{Subject}
use Rattle.lola_app.specs.declared.obligation.Obligation.{Obligation}
use Rattle.lola_app.specs.declared.obligation.Which.{Which}
use Rattle.lola_app.specs.declared.obligation.Which.TheVariants as which
use Rattle.lola_app.specs.DecideReply.{DecideOutcome, refused, table_not_built, too_many_bits, accepted, failed}
use Rattle.lola_app.specs.Deciding.{IsFew, IsFirstWide, PassesAlways, IsFirstFailing}
use Rattle.lola_app.specs.Listing.{named_of, listed}
use Rattle.lola_app.specs.Obligations.{total}
use Rattle.lola_app.specs.Trial.{but_one, tried_widths}
use Rattle.lola_app.specs.Values.{Line, lines_of}

-- what a cycle leaves free: the inputs but RESET, and the registers
abbrev pub free_leaves : Subject → List (List ℕ)
free_leaves subject = but_one subject.reset (vector_names subject.design.inputs.items) (vector_names subject.design.registers.items)

-- the names of what an obligation leaves free, as they are printed
abbrev pub printed_names : Subject → Which → List (List ℕ)
printed_names subject which.Cover = codes "i" ∷ []
printed_names subject (which.Reset goal) = map (λ (name : List ℕ). codes "@" ++ name) (free_leaves subject)
printed_names subject (which.End goal) = map (λ (name : List ℕ). codes "@" ++ name) (free_leaves subject)

-- all entries of the list leave few bits free, and pass
pub record AllPass (subject : Subject) (obliged inside : ℕ) : Type 0 where
  pub list : List Obligation
  pub is_listed : map named_of list ≡ listed subject.claim
  pub few : AllByRecursion (IsFew subject) list
  pub all : AllByRecursion (PassesAlways subject) list
  pub obliged_is : obliged ≡ length list
  pub inside_is : inside ≡ 1

-- all leave few bits free, and the first that doesn't pass is named with its numbers
pub record OneFails (subject : Subject) (name : List ℕ) (lines : List Line) : Type 0 where
  pub list : List Obligation
  pub number : ℕ
  pub numbers : List ℕ
  pub is_listed : map named_of list ≡ listed subject.claim
  pub few : AllByRecursion (IsFew subject) list
  pub failing : IsFirstFailing subject list number numbers
  pub name_is : name ≡ string_bytes failing.obligation.name
  pub lines_are : lines ≡ lines_of (printed_names subject failing.obligation.which) (tried_widths subject failing.obligation.which) numbers

-- the first that leaves more than 16 bits free is named with their number
pub record OneIsWide (subject : Subject) (name : List ℕ) (count : ℕ) : Type 0 where
  pub list : List Obligation
  pub number : ℕ
  pub is_listed : map named_of list ≡ listed subject.claim
  pub wide : IsFirstWide subject list number
  pub name_is : name ≡ string_bytes wide.obligation.name
  pub count_is : count ≡ total (tried_widths subject wide.obligation.which)

-- what it comes to. That the texts are refused is known before
abbrev pub IsTried : Subject → DecideOutcome → Type 0
IsTried subject (refused refusal) = ⊥
IsTried subject table_not_built = ⊥
IsTried subject (too_many_bits name count) = OneIsWide subject name count
IsTried subject (accepted obliged inside) = AllPass subject obliged inside
IsTried subject (failed name lines) = OneFails subject name lines
