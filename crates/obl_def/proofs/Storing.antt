-- A worked design with an access meets all its obligations; one that shows another address violates that of
-- its access at the value 0 of its register.
use Rattle.std.proofs.Common.{◌≡◌, ◌<◌, ◌-◌, ◌^◌, ℕ, zero, suc, true, false, List, [], ◌∷◌, refl, sym, ap, ap₂, ◌∙◌, subst, arith, inl, inr, Option, Some, None}
use Rattle.std.specs.Prelude.{codes, nat_eq, nat_lt, bit_and, if◌then◌else◌}
use Rattle.std.proofs.lemmas.Bool.Decides.{nat_tests}
use Rattle.std.proofs.lemmas.Nat.{pow_pos}
use Rattle.lola_bits.specs.Lists.{IsIn}
use Rattle.lola_tree.specs.declared.named.Shape.{Shape}
use Rattle.lola_tree.specs.declared.named.Shape.TheVariants.{Vector, Array}
use Rattle.lola_bits.specs.declared.op.Op.TheVariants as op
use Rattle.lola_tree.specs.declared.module.Way.{Way}
use Rattle.lola_tree.specs.declared.module.Way.TheVariants.{Inward, Outward}
use Rattle.lola_tree.specs.declared.module.Port.{Port}
use Rattle.lola_tree.specs.declared.module.LocalKind.TheVariants.{Reg}
use Rattle.lola_tree.specs.Tree.{Tree, negation, binary, assignment, ModuleTree, SourceTree}
use Rattle.lola_tree.specs.Value.{Values}
use Rattle.lola_tree.specs.Names.{Names}
use Rattle.lola_tree.specs.Width.{vector_width, element_width}
use Rattle.lola_tree.specs.Cycle.{FitsIn}
use Rattle.lola_tree.specs.design.Signals.{clock, input, wire, register, Signal, signals}
use Rattle.lola_tree.specs.design.Equations.{Meets, Holds, Update}
use Rattle.lola_tree.specs.design.Cycle.{IsSignal, Suits, AreSame, IsState, IsGiven, Cycle, Sets, Next}
use Rattle.tab_tree.specs.declared.value.StateValue.TheVariants.{One}
use Rattle.tab_tree.specs.Names.{vector}
use Rattle.tab_tree.specs.Registers.{is_path}
use Rattle.tab_tree.specs.Step.{no_words, of_class}
use Rattle.tab_tree.specs.Placed.{phase_at, loaded_form, turned_form, before}
use Rattle.obl_def.specs.Obligations.{finish, access, Obligation, edge, obligations, obligation_name}
use Rattle.obl_def.specs.Valuation.{Valuation, SuitsForm, IsValuation}
use Rattle.obl_def.specs.Holds.{IsViolatedAt, AllHold}
use Rattle.obl_def.proofs.Violated.{none_of_all}
use Rattle.obl_def.proofs.Tables.{at_phase, named, bare, of_width, storing_phase, storing, storing_class, storing_table}

abbrev pub port : Way → List ℕ → Port
port way name = record { way = way; name = name; shape = of_width 1; at = 0 }

-- q turns in each cycle, and is stored at itself: the address is what `shown` says
abbrev pub acc_module : Tree → ModuleTree
acc_module shown = record {
  name = codes "Acc";
  ports =
      port Inward (codes "clk") ∷ port Inward (codes "rst") ∷ port Outward (codes "rd") ∷ port Outward (codes "wr") ∷ port Outward (codes "be") ∷ port Outward (codes "ad")
      ∷ port Outward (codes "d") ∷ [];
  consts = [];
  locals = record { kind = Reg (record { name = codes "clk"; at = 0 }) (of_width 1); name = codes "q"; at = 0 } ∷ [];
  body =
      assignment (codes "q") None (binary op.And (negation (named (codes "rst")) 0) (negation (named (codes "q")) 0) 0) 0 0
      ∷ assignment (codes "rd") None (bare 0) 0 0
      ∷ assignment (codes "wr") None (bare 1) 0 0
      ∷ assignment (codes "be") None (bare 0) 0 0
      ∷ assignment (codes "ad") None shown 0 0
      ∷ assignment (codes "d") None (named (codes "q")) 0 0 ∷ [];
  ends = record { name = codes "Acc"; at = 0 };
  at = 0;
}

abbrev pub acc : SourceTree
acc = record { modules = acc_module (named (codes "q")) ∷ [] }

abbrev at : Values → List ℕ → ℕ
at v name = v (name ∷ []) 0

record Facts (s inp v s' : Values) : Type 0 where
  rd : at v (codes "rd") ≡ 0
  wr : at v (codes "wr") ≡ 1
  be : at v (codes "be") ≡ 0
  ad : at v (codes "ad") ≡ at s (codes "q")
  d : at v (codes "d") ≡ at s (codes "q")
  behind : at s' (codes "q") ≡ bit_and (2 ^ 1 - 1 - at inp (codes "rst")) (2 ^ 1 - 1 - at s (codes "q"))

facts : (s inp v s' : Values) → Cycle acc s inp v → Next acc v s' → Facts s inp v s'
facts s inp v s' cycle next =
    let q : at v (codes "q") ≡ at s (codes "q") = cycle.registers _ (inr (inr (inr (inr (inr (inr (inr (inl refl))))))), refl) in
    let rst : at v (codes "rst") ≡ at inp (codes "rst") = cycle.inputs _ (inr (inl refl), refl) in
    record {
      rd = cycle.holds _ (inl refl);
      wr = cycle.holds _ (inr (inl refl));
      be = cycle.holds _ (inr (inr (inl refl)));
      ad = cycle.holds _ (inr (inr (inr (inl refl)))) ∙ q;
      d = cycle.holds _ (inr (inr (inr (inr (inl refl))))) ∙ q;
      behind = next _ (inl refl) ∙ ap₂ (λ (x y : ℕ). bit_and (2 ^ 1 - 1 - x) (2 ^ 1 - 1 - y)) rst q;
    }

-- the register is cleared under a reset, and else turns
cleared : (x y : ℕ) → x < 2 → y < 2 → nat_eq x 1 ≡ true → bit_and (2 ^ 1 - 1 - x) (2 ^ 1 - 1 - y) ≡ 0
cleared zero y a b e = absurd (cc)
cleared (suc zero) zero a b e = refl
cleared (suc zero) (suc zero) a b e = refl
cleared (suc zero) (suc (suc y)) a b e = absurd (omega arith)
cleared (suc (suc x)) y a b e = absurd (omega arith)

turns : (x y : ℕ) → x < 2 → y < 2 → nat_eq x 1 ≡ false → bit_and (2 ^ 1 - 1 - x) (2 ^ 1 - 1 - y) ≡ 2 ^ 1 - 1 - y
turns zero zero a b e = refl
turns zero (suc zero) a b e = refl
turns zero (suc (suc y)) a b e = absurd (omega arith)
turns (suc zero) y a b e = absurd (cc)
turns (suc (suc x)) y a b e = absurd (omega arith)

small_q : (s : Values) → IsState acc s → at s (codes "q") < 2
small_q s is = is _ (inr (inr (inr (inr (inr (inr (inr (inl refl))))))), refl)

small_rst : (inp : Values) → IsGiven acc inp → at inp (codes "rst") < 2
small_rst inp is = is.inputs _ (inr (inl refl), refl)

storing_holds : AllHold acc storing_table
storing_holds = record {
  each = (
    (λ w suits. (_, inl refl, refl)),
    (
      (λ w suits v s' cycle next. refl),
      (
        (λ w suits v s' cycle next. refl),
        (
          (λ w suits v s' cycle next.
              (facts w.state w.input v s' cycle next).behind
              ∙ cleared (at w.input (codes "rst")) (at w.state (codes "q")) (small_rst w.input suits.given) (small_q w.state suits.state) suits.active),
          (
            (λ w suits v s' cycle next premises. refl),
            (
              (λ w suits v s' cycle next premises. refl),
              (
                (λ w suits v s' cycle next premises.
                    ap (λ (n : ℕ). One (vector 1 n)) ((facts w.state w.input v s' cycle next).behind
                    ∙ turns (at w.input (codes "rst")) (at w.state (codes "q")) (small_rst w.input suits.given) (small_q w.state suits.state) suits.idle)),
                ((λ w suits v s' cycle next premises. let f = facts w.state w.input v s' cycle next in (f.rd, f.wr, f.ad, f.be, f.d)), tt),
              ),
            ),
          ),
        ),
      ),
    ),
  );
}

-- the other address
abbrev wrong : SourceTree
wrong = record { modules = acc_module (negation (named (codes "q")) 0) ∷ [] }

zero_in : (o : Option ℕ) → FitsIn o 0
zero_in None = tt
zero_in (Some w) = pow_pos w

zero_suits : (names : Names) (type : Shape) → Suits names type (λ n. 0)
zero_suits names (Vector width) = zero_in (vector_width names (Some (Vector width)))
zero_suits names (Array count width) = λ n within. zero_in (element_width names (Some (Array count width)))

-- all is 0, but that a store is made, and its address is 1
abbrev shows : Values
shows path n = if is_path path (codes "wr" ∷ []) then 1 else if is_path path (codes "ad" ∷ []) then 1 else 0

abbrev zeros : Values
zeros path n = 0

meets : Holds wrong zeros shows
meets e (inl same) = subst (Meets zeros shows) (sym same) refl
meets e (inr (inl same)) = subst (Meets zeros shows) (sym same) refl
meets e (inr (inr (inl same))) = subst (Meets zeros shows) (sym same) refl
meets e (inr (inr (inr (inl same)))) = subst (Meets zeros shows) (sym same) refl
meets e (inr (inr (inr (inr (inl same))))) = subst (Meets zeros shows) (sym same) refl
meets e (inr (inr (inr (inr (inr none))))) = absurd none

-- the registers and the inputs are 0 in it
registers_same : (x : Signal) → IsSignal wrong register x → AreSame x.names x.type (shows x.path) (zeros x.path)
registers_same x (is, kind) = by_place x is kind
  where
    by_place : (x : Signal) → IsIn x (signals wrong) → x.kind ≡ register → AreSame x.names x.type (shows x.path) (zeros x.path)
    by_place x (inl same) kind = absurd (let e : clock ≡ register = sym (ap (λ (y : Signal). y.kind) same) ∙ kind in cc)
    by_place x (inr (inl same)) kind = absurd (let e : input ≡ register = sym (ap (λ (y : Signal). y.kind) same) ∙ kind in cc)
    by_place x (inr (inr (inl same))) kind = absurd (let e : wire ≡ register = sym (ap (λ (y : Signal). y.kind) same) ∙ kind in cc)
    by_place x (inr (inr (inr (inl same)))) kind = absurd (let e : wire ≡ register = sym (ap (λ (y : Signal). y.kind) same) ∙ kind in cc)
    by_place x (inr (inr (inr (inr (inl same))))) kind = absurd (let e : wire ≡ register = sym (ap (λ (y : Signal). y.kind) same) ∙ kind in cc)
    by_place x (inr (inr (inr (inr (inr (inl same)))))) kind = absurd (let e : wire ≡ register = sym (ap (λ (y : Signal). y.kind) same) ∙ kind in cc)
    by_place x (inr (inr (inr (inr (inr (inr (inl same))))))) kind = absurd (let e : wire ≡ register = sym (ap (λ (y : Signal). y.kind) same) ∙ kind in cc)
    by_place x (inr (inr (inr (inr (inr (inr (inr (inl same)))))))) kind = subst (λ (y : Signal). AreSame y.names y.type (shows y.path) (zeros y.path)) (sym same) refl
    by_place x (inr (inr (inr (inr (inr (inr (inr (inr none)))))))) kind = absurd none

inputs_same : (x : Signal) → IsSignal wrong input x → AreSame x.names x.type (shows x.path) (zeros x.path)
inputs_same x (is, kind) = by_place x is kind
  where
    by_place : (x : Signal) → IsIn x (signals wrong) → x.kind ≡ input → AreSame x.names x.type (shows x.path) (zeros x.path)
    by_place x (inl same) kind = absurd (let e : clock ≡ input = sym (ap (λ (y : Signal). y.kind) same) ∙ kind in cc)
    by_place x (inr (inl same)) kind = subst (λ (y : Signal). AreSame y.names y.type (shows y.path) (zeros y.path)) (sym same) refl
    by_place x (inr (inr (inl same))) kind = absurd (let e : wire ≡ input = sym (ap (λ (y : Signal). y.kind) same) ∙ kind in cc)
    by_place x (inr (inr (inr (inl same)))) kind = absurd (let e : wire ≡ input = sym (ap (λ (y : Signal). y.kind) same) ∙ kind in cc)
    by_place x (inr (inr (inr (inr (inl same))))) kind = absurd (let e : wire ≡ input = sym (ap (λ (y : Signal). y.kind) same) ∙ kind in cc)
    by_place x (inr (inr (inr (inr (inr (inl same)))))) kind = absurd (let e : wire ≡ input = sym (ap (λ (y : Signal). y.kind) same) ∙ kind in cc)
    by_place x (inr (inr (inr (inr (inr (inr (inl same))))))) kind = absurd (let e : wire ≡ input = sym (ap (λ (y : Signal). y.kind) same) ∙ kind in cc)
    by_place x (inr (inr (inr (inr (inr (inr (inr (inl same)))))))) kind = absurd (let e : register ≡ input = sym (ap (λ (y : Signal). y.kind) same) ∙ kind in cc)
    by_place x (inr (inr (inr (inr (inr (inr (inr (inr none)))))))) kind = absurd none

leads : Next wrong shows (λ path n. 1)
leads u (inl same) = subst (λ (u : Update). Sets u.module_ u.path shows (shows u.left) (λ n. 1) u.place u.value) (sym same) refl
leads u (inr none) = absurd none

abbrev at_zero : Valuation
at_zero = record { word = vector 1 0; state = zeros; input = zeros; old = One (vector 1 0) ∷ []; words = no_words; count = 0 }

no_loads : (j : ℕ) → SuitsForm (before 0 (λ k. loaded_form wrong storing_table (phase_at storing.phases k)) j) None
no_loads j = let no : false ≡ nat_lt j 0 = grind (arith, nat_tests) in subst (λ b. SuitsForm (if b then loaded_form wrong storing_table (phase_at storing.phases j) else None) None) no tt

no_turns : (j : ℕ) → SuitsForm (before 1 (λ k. turned_form (phase_at storing.phases k)) j) None
no_turns zero = tt
no_turns (suc j) = let no : false ≡ nat_lt (suc j) 1 = grind (arith, nat_tests) in subst (λ b. SuitsForm (if b then turned_form (phase_at storing.phases (suc j)) else None) None) no tt

-- the obligation of the access, which stands last
abbrev storing_access : Obligation
storing_access = edge (of_class storing_class storing) 0 storing_phase finish access

is_last : obligation_name storing_access ≡ at_phase (codes "go") 0 (codes "end/ACCESS")
is_last = refl

stands : IsIn storing_access (obligations storing_table)
stands = inr (inr (inr (inr (inr (inr (inr (inl refl)))))))

suits : IsValuation wrong storing_table storing_access at_zero
suits = record {
  state = λ x is. zero_suits x.names x.type;
  given = record { inputs = λ x is. zero_suits x.names x.type; pads = λ x is. zero_suits x.names x.type };
  idle = refl;
  stalls = refl;
  old = (record { wide = refl; fits = record { positive = omega arith; at_most = omega arith; below = omega arith } }, tt);
  words = record { loaded = no_loads; turned = no_turns };
  count = omega arith;
}

violated : IsViolatedAt wrong storing_table storing_access at_zero
violated = record {
  cycle = shows;
  after = λ path n. 1;
  is_cycle = record { holds = meets; registers = registers_same; inputs = inputs_same };
  is_next = leads;
  premises = record { invariant = refl; entry = refl; shows = ((λ has. absurd (cc)), tt); fit = refl; chosen = tt; count = tt };
  fails = λ sees. let no : ◌≡◌ {A = ℕ} 1 0 = sees.2 in cc;
}

wrong_fails : AllHold wrong storing_table → ⊥
wrong_fails all = none_of_all wrong storing_table all storing_access stands at_zero suits violated
