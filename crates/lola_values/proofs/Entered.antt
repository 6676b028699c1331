-- How an instance of a well sized design is entered: the arguments of its call have no faults.
use Rattle.std.proofs.Common.{◌≡◌, ℕ, List, [], ◌∷◌, Option, Some, refl, sym, ◌∙◌, ap, subst, inl, inr}
use Rattle.std.specs.Prelude.{bytes_eq}
use Rattle.std.specs.List.{AllByRecursion}
use Rattle.std.proofs.lemmas.Bool.{cases_Bool, cond-true, cond-false}
use Rattle.lola_bits.specs.Lists.{IsIn}
use Rattle.lola_bits.proofs.Lists.{both_none}
use Rattle.lola_bits.proofs.All.{of_all}
use Rattle.lola_bits.proofs.Names.{is_same_name}
use Rattle.lola_tree.specs.Names.{names_of}
use Rattle.lola_tree.specs.Tree.{ActualTree, StmtTree, assignment, call, pad, ModuleTree, SourceTree}
use Rattle.lola_tree.specs.Width.{scope_of}
use Rattle.lola_tree.specs.design.Calls.{args_of}
use Rattle.lola_tree.specs.design.Places.{Caller, Place}
use Rattle.lola_width.specs.declared.uses.Use.TheVariants as use_
use Rattle.lola_width.specs.declared.interface.Pin.{Pin}
use Rattle.lola_width.specs.Interface.{kind_pins, instance_pins, listed}
use Rattle.lola_width.specs.Sized.{pins_in}
use Rattle.lola_width.specs.NameFaults.{use_faults, args_faults}
use Rattle.lola_width.specs.WidthFaults.{port_count, args_widths}
use Rattle.lola_regular.specs.Clocked.{seen_behind}
use Rattle.lola_regular.specs.Written.{IsWrittenArgument, IsWrittenStmt}
use Rattle.lola_regular.proofs.Named.{are_distinct, local_named}
use Rattle.lola_regular.proofs.PadsPassed.{stmt_free}
use Rattle.lola_values.proofs.Standing.{Stands, IsCalled, IsCalledBy, PlaceStands}
use Rattle.lola_values.proofs.Reading.{the_clock}
use Rattle.lola_values.proofs.Wide.{stmt_sized}

-- what the arguments of each call by a name have, those of the instance have
args_hold : (P : List ActualTree → Type 0) (ts : List StmtTree) (name : List ℕ) → P [] → ((args : List ActualTree) (at : ℕ) → IsIn (call name args at) ts → P args) → P (args_of ts name)
args_hold P [] name none each = none
args_hold P (assignment other place e at equals ∷ ts) name none each = args_hold P ts name none (λ args at is. each args at (inr is))
args_hold P (pad io inner e release at ∷ ts) name none each = args_hold P ts name none (λ args at is. each args at (inr is))
args_hold P (call other args at ∷ ts) name none each = elim (cases_Bool (bytes_eq other name)) [
  | inl same ↦
      subst P (sym (cond-true (bytes_eq other name) args (args_of ts name) same))
      (each args at (inl (ap (λ (n : List ℕ). call n args at) (sym (is_same_name other name same)))))
  | inr apart ↦ subst P (sym (cond-false (bytes_eq other name) args (args_of ts name) apart)) (args_hold P ts name none (λ l place is. each l place (inr is)))
]

given_hold : (S : SourceTree) (a : Place) (c : Caller) (link : IsCalled S a c) (P : List ActualTree → Type 0) → P [] → ((args : List ActualTree) (at : ℕ) → IsIn (call link.instance.name args at) c.module_.body → P args) → P c.args
given_hold S a c link P none each = subst P (sym link.args) (args_hold P c.module_.body link.instance.name none each)

-- the arguments of an instance, beside the ports of its module
pub record Arguments (S : SourceTree) (a : Place) (c : Caller) : Type 0 where
  pub own : Stands S a.module_ a.path a.clocks
  pub clocks : List (List ℕ)
  pub caller : Stands S c.module_ c.path clocks
  pub written : AllByRecursion IsWrittenArgument c.args
  pub free : args_faults (names_of c.module_) (the_clock S c.module_ c.path clocks caller) c.args (pins_in (seen_behind own.earlier) a.module_) ≡ []
  pub sized : args_widths (scope_of c.module_) c.args (pins_in (seen_behind own.earlier) a.module_) ≡ []

pub arguments_of : (S : SourceTree) (a : Place) (k : PlaceStands S a) (c : Caller) → a.caller ≡ Some c → Arguments S a c
arguments_of S a k c is_caller =
    let called = subst (λ (o : Option Caller). IsCalledBy S a o) is_caller k.called in
    let link = called.0 in
    let own = called.1.0 in
    let sc = link.stands in
    let m = c.module_ in
    let names = names_of m in
    let seen = seen_behind sc.earlier in
    let clock = the_clock S m c.path link.clocks sc in
    let name = link.instance.name in
    let pins : instance_pins seen (names name) ≡ Some (pins_in (seen_behind own.earlier) a.module_) =
    ap (instance_pins seen) (local_named m link.instance (are_distinct m sc.clean.doubled) link.there) ∙ ap (kind_pins seen) link.kind
    ∙ ap (λ (l : List ModuleTree). seen_behind l link.of.name) link.same ∙ link.pins ∙ ap (λ (l : List ModuleTree). Some (pins_in (seen_behind l) a.module_)) (sym called.1.1) in
    let listed_are : listed (instance_pins seen (names name)) ≡ pins_in (seen_behind own.earlier) a.module_ = ap listed pins in
    record {
      own = own;
      clocks = link.clocks;
      caller = sc;
      written = given_hold S a c link (AllByRecursion IsWrittenArgument) tt (λ args at is. of_all IsWrittenStmt (call name args at) m.body sc.written is);
      free = subst (λ (l : List Pin). args_faults names clock c.args l ≡ []) listed_are
          (given_hold S a c link (λ (args : List ActualTree). args_faults names clock args (listed (instance_pins seen (names name))) ≡ []) refl
          (λ args at is. (both_none (use_faults use_.Called at name (names name)) (args_faults names clock args (listed (instance_pins seen (names name)))) (stmt_free names seen clock m.body sc.clean.body (call name args at) is)).1));
      sized = subst (λ (l : List Pin). args_widths (scope_of m) c.args l ≡ []) listed_are
          (given_hold S a c link (λ (args : List ActualTree). args_widths (scope_of m) args (listed (instance_pins seen (names name))) ≡ []) refl
          (λ args at is. (both_none (port_count at (instance_pins seen (names name)) _) (args_widths (scope_of m) args (listed (instance_pins seen (names name)))) (stmt_sized names seen m.body sc.clean.wide_body (call name args at) is)).1));
    }
