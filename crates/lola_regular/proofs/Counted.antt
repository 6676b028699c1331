-- Calls have as many arguments as ports, and so each module of a well sized source is assigned.
use Rattle.std.proofs.Common.{◌≡◌, ℕ, suc, Bool, true, false, not, List, [], ◌∷◌, length, Option, Some, None, refl, sym, ◌∙◌, ap, subst, inl, inr, arith}
use Rattle.std.specs.Prelude.{bytes_eq, nat_eq}
use Rattle.std.specs.List.{AllByRecursion}
use Rattle.std.proofs.lemmas.Bool.{cases_Bool, cond-true, cond-false}
use Rattle.std.proofs.lemmas.Bool.Decides.{nat_tests}
use Rattle.lola_bits.specs.Lists.{IsIn}
use Rattle.lola_bits.proofs.Lists.{both_none, in_either}
use Rattle.lola_bits.proofs.Names.{same_name, is_same_name}
use Rattle.lola_bits.proofs.Tests.{not_both, none_unless}
use Rattle.lola_tree.specs.declared.named.Named.{Named}
use Rattle.lola_tree.specs.declared.module.Port.{Port}
use Rattle.lola_tree.specs.declared.module.LocalKind.{LocalKind}
use Rattle.lola_tree.specs.declared.module.LocalKind.TheVariants.{Reg, Var, Inst}
use Rattle.lola_tree.specs.declared.module.Local.{Local}
use Rattle.lola_tree.specs.Tree.{ActualTree, StmtTree, assignment, call, pad, ModuleTree}
use Rattle.lola_tree.specs.Names.{Entry, local, Names, names_of}
use Rattle.lola_tree.specs.design.Calls.{args_of}
use Rattle.lola_width.specs.declared.uses.Use.TheVariants as use_
use Rattle.lola_width.specs.declared.interface.Pin.{Pin}
use Rattle.lola_width.specs.Interface.{Seen, kind_pins, instance_pins, listed, pins_of}
use Rattle.lola_width.specs.NameFaults.{use_faults, is_instance_kind, expr_faults, stmt_faults, body_faults}
use Rattle.lola_width.specs.WidthFaults.{port_count, args_widths, stmt_widths, body_widths}
use Rattle.lola_width.specs.Sized.{clock_in, pins_in}
use Rattle.lola_tree.specs.Width.{scope_over}
use Rattle.lola_design.specs.Once.{name_count}
use Rattle.lola_design.specs.Assigned.{CallsFit, AllCallsFit, AreAssigned}
use Rattle.lola_design.specs.Assigned.{port_count as count_of_ports}
use Rattle.lola_regular.specs.Clocked.{seen_behind}
use Rattle.lola_regular.specs.Written.{IsWrittenModule}
use Rattle.lola_regular.proofs.Clean.{AllClean, seen_here, seen_further}
use Rattle.lola_regular.proofs.Named.{counted_in, are_distinct, local_named}
use Rattle.lola_regular.proofs.Ways.{seen_good}
use Rattle.lola_regular.proofs.Targets.{one_kept, when, said_entry, instance_entry, own_body}
use Rattle.lola_regular.proofs.Exchange.{by_locals}
use Rattle.lola_regular.proofs.Assigned.{stored_entry, called_class, class_once, assigned_said, element_said, called_must, only_called, no_way}
use Rattle.lola_regular.proofs.Inside.{said_once, stored_once, driven_once, nothing_passed}

-- what is assigned is no instance
not_set : (o : Option Entry) → said_entry o ≡ not (stored_entry o) → instance_entry o ≡ true → ⊥
not_set o set called =
    let only = only_called o called in
    let e : false ≡ true = sym only.0 ∙ set ∙ ap not only.2 in
    cc

set_one : (at : ℕ) (name : List ℕ) (n : List ℕ) (b : Bool) → IsIn n (one_kept b name) → (b ≡ true) × (n ≡ name)
set_one at name n true (inl same) = (refl, same)
set_one at name n true (inr more) = absurd more
set_one at name n false is = absurd is

-- the call of an instance has as many arguments as its module has ports
call_in : (names : Names) (seen : Seen) (clock : Option (List ℕ)) (body : List StmtTree) (n : List ℕ) → body_faults names seen clock body ≡ [] → body_widths names seen body ≡ [] →
    IsIn n (own_body (λ k. instance_entry (names k)) no_way true body) → (at : ℕ) × (port_count at (instance_pins seen (names n)) (length (args_of body n)) ≡ [])
call_in names seen clock [] n none sized is = absurd is
call_in names seen clock (assignment name None e at equals ∷ body) n none sized is =
    let two = both_none (stmt_faults names seen clock (assignment name None e at equals)) (body_faults names seen clock body) none in
    let wide = both_none (stmt_widths names seen (assignment name None e at equals)) (body_widths names seen body) sized in
    let suit = (both_none (use_faults use_.Assigned at name (names name)) (expr_faults names clock e) two.0).0 in
    elim (in_either n (one_kept (instance_entry (names name)) name) (own_body (λ k. instance_entry (names k)) no_way true body) is) [
      | inl here ↦ absurd (not_set (names name) (assigned_said at name (names name) suit) (set_one at name n (instance_entry (names name)) here).0)
      | inr later ↦ call_in names seen clock body n two.1 wide.1 later
    ]
call_in names seen clock (assignment name (Some place) e at equals ∷ body) n none sized is =
    let two = both_none (stmt_faults names seen clock (assignment name (Some place) e at equals)) (body_faults names seen clock body) none in
    let wide = both_none (stmt_widths names seen (assignment name (Some place) e at equals)) (body_widths names seen body) sized in
    let suit = (both_none (use_faults use_.ElementAssigned at name (names name)) _ two.0).0 in
    elim (in_either n (one_kept (instance_entry (names name)) name) (own_body (λ k. instance_entry (names k)) no_way true body) is) [
      | inl here ↦ absurd (not_set (names name) (element_said at name (names name) suit) (set_one at name n (instance_entry (names name)) here).0)
      | inr later ↦ call_in names seen clock body n two.1 wide.1 later
    ]
call_in names seen clock (call other args at ∷ body) n none sized is =
    let two = both_none (stmt_faults names seen clock (call other args at)) (body_faults names seen clock body) none in
    let wide = both_none (stmt_widths names seen (call other args at)) (body_widths names seen body) sized in
    let fit = (both_none (port_count at (instance_pins seen (names other)) (length args)) (args_widths (scope_over names) args (listed (instance_pins seen (names other)))) wide.0).0 in
    elim (cases_Bool (bytes_eq other n)) [
      | inl same ↦ (
        at,
        subst (λ (l : List ActualTree). port_count at (instance_pins seen (names n)) (length l) ≡ []) (sym (cond-true (bytes_eq other n) args (args_of body n) same))
            (subst (λ (x : List ℕ). port_count at (instance_pins seen (names x)) (length args) ≡ []) (is_same_name other n same) fit),
      )
      | inr apart ↦
          let later = call_in names seen clock body n two.1 wide.1 (behind other n (own_body (λ k. instance_entry (names k)) no_way true body) apart is) in
          (later.0, subst (λ (l : List ActualTree). port_count later.0 (instance_pins seen (names n)) (length l) ≡ []) (sym (cond-false (bytes_eq other n) args (args_of body n) apart)) later.1)
    ]
  where
    behind : (other n : List ℕ) (ns : List (List ℕ)) → bytes_eq other n ≡ false → IsIn n (other ∷ ns) → IsIn n ns
    behind other n ns apart (inl same) = absurd (not_both (same_name other n (sym same)) apart)
    behind other n ns apart (inr later) = later
call_in names seen clock (pad io inner drive release at ∷ body) n none sized is =
    let two = both_none (stmt_faults names seen clock (pad io inner drive release at)) (body_faults names seen clock body) none in
    let wide = both_none (stmt_widths names seen (pad io inner drive release at)) (body_widths names seen body) sized in
    call_in names seen clock body n two.1 wide.1 is

pub pins_long : (names : Names) (clock : Option (List ℕ)) (ports : List Port) → length (pins_of names clock ports) ≡ length ports
pins_long names clock [] = refl
pins_long names clock (p ∷ ports) = ap suc (pins_long names clock ports)

equal_is : (m n : ℕ) → nat_eq m n ≡ true → m ≡ n
equal_is m n e = grind (arith, nat_tests)

pub ports_counted : (earlier : List ModuleTree) → AllClean earlier → (name : List ℕ) (at k : ℕ) → port_count at (seen_behind earlier name) k ≡ [] → count_of_ports earlier name k ≡ k
ports_counted [] clean name at k none = refl
ports_counted (m ∷ earlier) clean name at k none = elim (cases_Bool (bytes_eq m.name name)) [
  | inl same ↦
      let pins = pins_in (seen_behind earlier) m in
      let here = subst (λ (o : Option (List Pin)). port_count at o k ≡ []) (seen_here m earlier name clean same) none in
      cond-true (bytes_eq m.name name) (length m.ports) (count_of_ports earlier name k) same
      ∙ sym (pins_long (names_of m) (clock_in (seen_behind earlier) m) m.ports) ∙ equal_is (length pins) k (none_unless (nat_eq (length pins) k) _ here)
  | inr other ↦
      cond-false (bytes_eq m.name name) (length m.ports) (count_of_ports earlier name k) other
      ∙ ports_counted earlier clean.1 name at k (subst (λ (o : Option (List Pin)). port_count at o k ≡ []) (seen_further m earlier name other) none)
]

instance_called : (earlier : List ModuleTree) (m : ModuleTree) → AllClean (m ∷ earlier) → (n : List ℕ) → instance_entry (names_of m n) ≡ true →
    (at : ℕ) × (port_count at (instance_pins (seen_behind earlier) (names_of m n)) (length (args_of m.body n)) ≡ [])
instance_called earlier m clean n called =
    let seen = seen_behind earlier in
    let test : List ℕ → Bool = λ k. instance_entry (names_of m k) in
    let once = class_once seen m clean.0 (seen_good earlier clean.1) test no_way true (called_class (names_of m)) (called_must (names_of m)) n in
    let none : name_count n (by_locals seen no_way m.body m.locals) ≡ 0 = ap (name_count n) (nothing_passed seen m.body m.locals) in
    let one : when (test n) 1 ≡ 1 = ap (λ (b : Bool). when b 1) called in
    call_in (names_of m) seen (clock_in seen m) m.body n clean.0.body clean.0.wide_body (counted_in n (own_body test no_way true m.body) (omega arith))

pub local_fits : (earlier : List ModuleTree) (m : ModuleTree) → AllClean (m ∷ earlier) → (l : Local) → IsIn l m.locals → CallsFit earlier m l.kind l.name
local_fits earlier m clean l is = by_kind l.kind (local_named m l (are_distinct m clean.0.doubled) is) where
  by_kind : (k : LocalKind) → names_of m l.name ≡ Some (local (record l { kind = k })) → CallsFit earlier m k l.name
  by_kind (Reg clock type) named = tt
  by_kind (Var type) named = tt
  by_kind (Inst of) named =
      let seen = seen_behind earlier in
      let c = instance_called earlier m clean l.name (ap instance_entry named) in
      ports_counted earlier clean.1 of.name c.0 (length (args_of m.body l.name))
      (subst (λ (o : Option Entry). port_count c.0 (instance_pins seen o) (length (args_of m.body l.name)) ≡ []) named c.1)

-- as many as its module has ports
pub instance_many : (earlier : List ModuleTree) (m : ModuleTree) → AllClean (m ∷ earlier) → (l : Local) (of : Named) → IsIn l m.locals → l.kind ≡ Inst of → (pins : List Pin) →
    seen_behind earlier of.name ≡ Some pins → length pins ≡ length (args_of m.body l.name)
instance_many earlier m clean l of is kind pins here =
    let seen = seen_behind earlier in
    let named = local_named m l (are_distinct m clean.0.doubled) is in
    let called : instance_entry (names_of m l.name) ≡ true = ap instance_entry named ∙ ap is_instance_kind kind in
    let c = instance_called earlier m clean l.name called in
    let pins_are : instance_pins seen (names_of m l.name) ≡ Some pins = ap (instance_pins seen) named ∙ (ap (kind_pins seen) kind ∙ here) in
    let fit = subst (λ (o : Option (List Pin)). port_count c.0 o (length (args_of m.body l.name)) ≡ []) pins_are c.1 in
    equal_is (length pins) (length (args_of m.body l.name)) (none_unless (nat_eq (length pins) (length (args_of m.body l.name))) _ fit)

all_fit : (earlier : List ModuleTree) (m : ModuleTree) (ls : List Local) → ((l : Local) → IsIn l ls → CallsFit earlier m l.kind l.name) → AllCallsFit earlier m ls
all_fit earlier m [] each = tt
all_fit earlier m (l ∷ ls) each = (each l (inl refl), all_fit earlier m ls (λ k is. each k (inr is)))

pub are_assigned : (ms : List ModuleTree) → AllClean ms → AllByRecursion IsWrittenModule ms → AreAssigned ms
are_assigned [] clean written = tt
are_assigned (m ∷ earlier) clean written = (
  record {
    calls = all_fit earlier m m.locals (local_fits earlier m clean);
    once = λ x p pads named. said_once earlier m clean written.0 x p pads;
    driven = λ x p pads named. driven_once earlier m clean x p pads named;
    stored = λ x p. stored_once earlier m clean x p;
  },
  are_assigned earlier clean.1 written.1,
)
