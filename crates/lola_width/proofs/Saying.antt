-- The faults of assignments, told by their targets; the widths of places, told by powers of 2.
use Rattle.std.proofs.Common.{◌≡◌, ◌≢◌, ◌⊎◌, ℕ, zero, suc, ◌≤◌, ◌^◌, Bool, true, false, cond, ◌||◌, nat_eq, bytes_eq, List, [], ◌∷◌, ◌++◌, Option, Some, None, inl, inr, refl, sym, ap, ◌∙◌, subst, arith}
use Rattle.lola_bits.proofs.Lists.{in_front, in_back, in_either}
use Rattle.lola_bits.proofs.Names.{same_name, is_same_name}
use Rattle.lola_bits.specs.Lists.{IsIn}
use Rattle.lola_tree.specs.declared.named.Named.{Named}
use Rattle.lola_tree.specs.declared.module.Way.{Way}
use Rattle.lola_tree.specs.declared.module.Way.TheVariants.{Inward, Outward, Both}
use Rattle.lola_tree.specs.declared.module.Port.{Port}
use Rattle.lola_tree.specs.declared.module.Local.{Local}
use Rattle.lola_tree.specs.Tree.{ModuleTree}
use Rattle.lola_tree.specs.Names.{Names}
use Rattle.lola_tree.specs.Signals.{is_inward}
use Rattle.lola_tree.specs.Width.{place_width}
use Rattle.lola_width.specs.declared.fault.SourceFault.{SourceFault}
use Rattle.lola_width.specs.declared.fault.SourceFault.TheVariants.{NotAssigned, AssignedTwice}
use Rattle.lola_width.specs.Interface.{Seen}
use Rattle.lola_width.specs.AssignmentFaults.{Taken, none_taken, taken_with, taken_with_all, again, twice, never_taken, port_never, ports_never, locals_never, body_targets, assignment_faults}
use Rattle.lola_width.specs.Said.{HasTarget, IsSecondTarget, MustBeTarget, AreAssigned, NumbersElements}

-- a name was taken before, or is one of these targets
abbrev IsKnown : Taken → List Named → List ℕ → Type 0
IsKnown taken front name = (taken name ≡ true) ⊎ HasTarget name front

taken_back : (taken : Taken) (one name : List ℕ) → taken_with taken one name ≡ true → (one ≡ name) ⊎ (taken name ≡ true)
taken_back taken one name e = told (bytes_eq one name) refl where
  told : (b : Bool) → bytes_eq one name ≡ b → (one ≡ name) ⊎ (taken name ≡ true)
  told true f = inl (is_same_name one name f)
  told false f = inr (sym (ap (λ b. b || taken name) f) ∙ e)

taken_one : (taken : Taken) (one name : List ℕ) → one ≡ name → taken_with taken one name ≡ true
taken_one taken one name e = ap (λ b. b || taken name) (same_name one name e)

taken_stays : (taken : Taken) (one name : List ℕ) → taken name ≡ true → taken_with taken one name ≡ true
taken_stays taken one name e = told (bytes_eq one name) where
  told : (b : Bool) → (b || taken name) ≡ true
  told true = refl
  told false = e

-- behind one more target
known_more : (taken : Taken) (t : Named) (front : List Named) (name : List ℕ) → IsKnown (taken_with taken t.name) front name → IsKnown taken (t ∷ front) name
known_more taken t front name (inl e) = told (taken_back taken t.name name e) where
  told : (t.name ≡ name) ⊎ (taken name ≡ true) → IsKnown taken (t ∷ front) name
  told (inl same) = inr (t, inl refl, same)
  told (inr before) = inl before
known_more taken t front name (inr h) = inr (h.0, inr h.1, h.2)

known_less : (taken : Taken) (t : Named) (front : List Named) (name : List ℕ) → IsKnown taken (t ∷ front) name → IsKnown (taken_with taken t.name) front name
known_less taken t front name (inl e) = inl (taken_stays taken t.name name e)
known_less taken t front name (inr (u, inl same, named)) = inl (taken_one taken t.name name (sym (ap (λ (v : Named). v.name) same) ∙ named))
known_less taken t front name (inr (u, inr h, named)) = inr (u, h, named)

-- a target of a name that is known
record IsAgain (taken : Taken) (targets : List Named) (at : ℕ) (name : List ℕ) : Type 0 where
  front : List Named
  target : Named
  behind : List Named
  stands : targets ≡ front ++ target ∷ behind
  at_is : target.at ≡ at
  name_is : target.name ≡ name
  before : IsKnown taken front name

again_is : (taken : Taken) (t : Named) (ts : List Named) (at : ℕ) (name : List ℕ) → IsIn (AssignedTwice at name) (again taken t.at t.name) → IsAgain taken (t ∷ ts) at name
again_is taken t ts at name h = told (taken t.name) refl (subst (λ b. IsIn (AssignedTwice at name) (cond b (AssignedTwice t.at t.name ∷ []) [])) refl h) where
  told : (b : Bool) → taken t.name ≡ b → IsIn (AssignedTwice at name) (cond b (AssignedTwice t.at t.name ∷ []) []) → IsAgain taken (t ∷ ts) at name
  told true e (inl same) =
      let place : t.at ≡ at = cc in
      let named : t.name ≡ name = cc in
      record { front = []; target = t; behind = ts; stands = refl; at_is = place; name_is = named; before = inl (ap taken (sym named) ∙ e) }
  told true e (inr none) = absurd none
  told false e none = absurd none

again_later : (taken : Taken) (t : Named) (ts : List Named) (at : ℕ) (name : List ℕ) → IsAgain (taken_with taken t.name) ts at name → IsAgain taken (t ∷ ts) at name
again_later taken t ts at name r = record {
  front = t ∷ r.front;
  target = r.target;
  behind = r.behind;
  stands = ap (λ us. t ∷ us) r.stands;
  at_is = r.at_is;
  name_is = r.name_is;
  before = known_more taken t r.front name r.before;
}

twice_is : (taken : Taken) (ts : List Named) (at : ℕ) (name : List ℕ) → IsIn (AssignedTwice at name) (twice taken ts) → IsAgain taken ts at name
twice_is taken [] at name h = absurd h
twice_is taken (t ∷ ts) at name h =
    elim (in_either (AssignedTwice at name) (again taken t.at t.name) (twice (taken_with taken t.name) ts) h)
    [ inl here ↦ again_is taken t ts at name here | inr there ↦ again_later taken t ts at name (twice_is (taken_with taken t.name) ts at name there) ]

is_twice : (taken : Taken) (front behind : List Named) (target : Named) → IsKnown taken front target.name → IsIn (AssignedTwice target.at target.name) (twice taken (front ++ target ∷ behind))
is_twice taken [] behind target (inl e) =
    in_front (AssignedTwice target.at target.name) (again taken target.at target.name) (twice (taken_with taken target.name) behind)
    (subst (λ b. IsIn (AssignedTwice target.at target.name) (cond b (AssignedTwice target.at target.name ∷ []) [])) (sym e) (inl refl))
is_twice taken [] behind target (inr h) = absurd h.1
is_twice taken (t ∷ front) behind target known =
    in_back (AssignedTwice target.at target.name) (again taken t.at t.name) (twice (taken_with taken t.name) (front ++ target ∷ behind))
    (is_twice (taken_with taken t.name) front behind target (known_less taken t front target.name known))

-- which names are taken behind some targets
all_taken : (taken : Taken) (ts : List Named) (name : List ℕ) → taken_with_all taken ts name ≡ true → IsKnown taken ts name
all_taken taken [] name e = inl e
all_taken taken (t ∷ ts) name e = known_more taken t ts name (all_taken (taken_with taken t.name) ts name e)

taken_all : (taken : Taken) (ts : List Named) (name : List ℕ) → IsKnown taken ts name → taken_with_all taken ts name ≡ true
taken_all taken [] name (inl e) = e
taken_all taken [] name (inr h) = absurd h.1
taken_all taken (t ∷ ts) name known = taken_all (taken_with taken t.name) ts name (known_less taken t ts name known)

-- faults of one kind are none of the other
no_again : (taken : Taken) (t : Named) (at : ℕ) (name : List ℕ) → IsIn (NotAssigned at name) (again taken t.at t.name) → ⊥
no_again taken t at name h = told (taken t.name) h where
  told : (b : Bool) → IsIn (NotAssigned at name) (cond b (AssignedTwice t.at t.name ∷ []) []) → ⊥
  told true (inl same) = cc
  told true (inr none) = none
  told false none = none

no_never : (taken : Taken) (ts : List Named) (at : ℕ) (name : List ℕ) → IsIn (NotAssigned at name) (twice taken ts) → ⊥
no_never taken [] at name h = h
no_never taken (t ∷ ts) at name h =
    elim (in_either (NotAssigned at name) (again taken t.at t.name) (twice (taken_with taken t.name) ts) h)
    [ inl here ↦ no_again taken t at name here | inr there ↦ no_never (taken_with taken t.name) ts at name there ]

-- a name that must be a target and isn't taken
never_is : (taken : Taken) (place : ℕ) (one : List ℕ) (fault : SourceFault) → IsIn fault (never_taken taken place one) → (taken one ≡ false) × (fault ≡ NotAssigned place one)
never_is taken place one fault h = told (taken one) refl h where
  told : (b : Bool) → taken one ≡ b → IsIn fault (cond b [] (NotAssigned place one ∷ [])) → (taken one ≡ false) × (fault ≡ NotAssigned place one)
  told true e none = absurd none
  told false e (inl same) = (e, same)
  told false e (inr none) = absurd none

is_never : (taken : Taken) (place : ℕ) (one : List ℕ) → taken one ≡ false → IsIn (NotAssigned place one) (never_taken taken place one)
is_never taken place one e = subst (λ b. IsIn (NotAssigned place one) (cond b [] (NotAssigned place one ∷ []))) (sym e) (inl refl)

abbrev IsNeverPort : Taken → List Port → SourceFault → Type 0
IsNeverPort taken ports fault = (p : Port) × IsIn p ports × (p.way ≢ Inward) × (taken p.name ≡ false) × (fault ≡ NotAssigned p.at p.name)

port_is : (taken : Taken) (p : Port) (ports : List Port) (fault : SourceFault) → IsIn fault (port_never taken p) → IsNeverPort taken (p ∷ ports) fault
port_is taken p ports fault h = told (is_inward p.way) refl h where
  told : (b : Bool) → is_inward p.way ≡ b → IsIn fault (cond b [] (never_taken taken p.at p.name)) → IsNeverPort taken (p ∷ ports) fault
  told true e none = absurd none
  told false e here =
      let r = never_is taken p.at p.name fault here in
      (p, inl refl, (λ inward. let f : true ≡ false = sym (ap is_inward inward) ∙ e in cc), r.0, r.1)

port_later : (taken : Taken) (p : Port) (ports : List Port) (fault : SourceFault) → IsNeverPort taken ports fault → IsNeverPort taken (p ∷ ports) fault
port_later taken p ports fault r = (r.0, inr r.1, r.2, r.3, r.4)

ports_are : (taken : Taken) (ports : List Port) (fault : SourceFault) → IsIn fault (ports_never taken ports) → IsNeverPort taken ports fault
ports_are taken [] fault h = absurd h
ports_are taken (p ∷ ports) fault h =
    elim (in_either fault (port_never taken p) (ports_never taken ports) h)
    [ inl here ↦ port_is taken p ports fault here | inr there ↦ port_later taken p ports fault (ports_are taken ports fault there) ]

outward : (way : Way) → way ≢ Inward → is_inward way ≡ false
outward Inward other = absurd (other refl)
outward Outward other = refl
outward Both other = refl

are_ports : (taken : Taken) (ports : List Port) (p : Port) → IsIn p ports → p.way ≢ Inward → taken p.name ≡ false → IsIn (NotAssigned p.at p.name) (ports_never taken ports)
are_ports taken [] p h way e = absurd h
are_ports taken (q ∷ ports) p (inl same) way e =
    in_front (NotAssigned p.at p.name) (port_never taken q) (ports_never taken ports)
    (subst (λ (o : Port). IsIn (NotAssigned p.at p.name) (port_never taken o)) same
    (subst (λ b. IsIn (NotAssigned p.at p.name) (cond b [] (never_taken taken p.at p.name))) (sym (outward p.way way)) (is_never taken p.at p.name e)))
are_ports taken (q ∷ ports) p (inr there) way e = in_back (NotAssigned p.at p.name) (port_never taken q) (ports_never taken ports) (are_ports taken ports p there way e)

abbrev IsNeverLocal : Taken → List Local → SourceFault → Type 0
IsNeverLocal taken locals fault = (l : Local) × IsIn l locals × (taken l.name ≡ false) × (fault ≡ NotAssigned l.at l.name)

local_is : (taken : Taken) (l : Local) (locals : List Local) (fault : SourceFault) → IsIn fault (never_taken taken l.at l.name) → IsNeverLocal taken (l ∷ locals) fault
local_is taken l locals fault h = let r = never_is taken l.at l.name fault h in (l, inl refl, r.0, r.1)

local_later : (taken : Taken) (l : Local) (locals : List Local) (fault : SourceFault) → IsNeverLocal taken locals fault → IsNeverLocal taken (l ∷ locals) fault
local_later taken l locals fault r = (r.0, inr r.1, r.2, r.3)

locals_are : (taken : Taken) (locals : List Local) (fault : SourceFault) → IsIn fault (locals_never taken locals) → IsNeverLocal taken locals fault
locals_are taken [] fault h = absurd h
locals_are taken (l ∷ locals) fault h =
    elim (in_either fault (never_taken taken l.at l.name) (locals_never taken locals) h)
    [ inl here ↦ local_is taken l locals fault here | inr there ↦ local_later taken l locals fault (locals_are taken locals fault there) ]

are_locals : (taken : Taken) (locals : List Local) (l : Local) → IsIn l locals → taken l.name ≡ false → IsIn (NotAssigned l.at l.name) (locals_never taken locals)
are_locals taken [] l h e = absurd h
are_locals taken (k ∷ locals) l (inl same) e =
    in_front (NotAssigned l.at l.name) (never_taken taken k.at k.name) (locals_never taken locals)
    (subst (λ (o : Local). IsIn (NotAssigned l.at l.name) (never_taken taken o.at o.name)) same (is_never taken l.at l.name e))
are_locals taken (k ∷ locals) l (inr there) e = in_back (NotAssigned l.at l.name) (never_taken taken k.at k.name) (locals_never taken locals) (are_locals taken locals l there e)

-- what isn't taken behind all targets is none of them
none_of : (ts : List Named) (name : List ℕ) → taken_with_all none_taken ts name ≡ false → HasTarget name ts → ⊥
none_of ts name e h = let f : true ≡ false = sym (taken_all none_taken ts name (inr h)) ∙ e in cc

of_none : (ts : List Named) (name : List ℕ) → (HasTarget name ts → ⊥) → taken_with_all none_taken ts name ≡ false
of_none ts name lacks = told (taken_with_all none_taken ts name) refl where
  told : (b : Bool) → taken_with_all none_taken ts name ≡ b → b ≡ false
  told false e = refl
  told true e = absurd (told_known (all_taken none_taken ts name e))
    where
      told_known : IsKnown none_taken ts name → ⊥
      told_known (inl f) = cc
      told_known (inr h) = lacks h

module _ (names : Names) (seen : Seen) (m : ModuleTree) (at : ℕ) (name : List ℕ) where
  abbrev targets : List Named
  targets = body_targets names seen m.body

  abbrev taken : Taken
  taken = taken_with_all none_taken targets

  abbrev Parts : SourceFault → Type 0
  Parts fault = IsIn fault (twice none_taken targets) ⊎ (IsNeverPort taken m.ports fault ⊎ IsNeverLocal taken m.locals fault)

  parts_of : (fault : SourceFault) → IsIn fault (assignment_faults names seen m) → Parts fault
  parts_of fault h = one (in_either fault (twice none_taken targets) (ports_never taken m.ports ++ locals_never taken m.locals) h) where
    two : IsIn fault (ports_never taken m.ports) ⊎ IsIn fault (locals_never taken m.locals) → Parts fault
    two (inl h) = inr (inl (ports_are taken m.ports fault h))
    two (inr h) = inr (inr (locals_are taken m.locals fault h))

    one : IsIn fault (twice none_taken targets) ⊎ IsIn fault (ports_never taken m.ports ++ locals_never taken m.locals) → Parts fault
    one (inl h) = inl h
    one (inr h) = two (in_either fault (ports_never taken m.ports) (locals_never taken m.locals) h)

  second_of : Parts (AssignedTwice at name) → IsSecondTarget targets at name
  second_of (inl h) =
      let r = twice_is none_taken targets at name h in
      record { front = r.front; target = r.target; behind = r.behind; stands = r.stands; at_is = r.at_is; name_is = r.name_is; before = told r.front r.before }
    where
      told : (front : List Named) → IsKnown none_taken front name → HasTarget name front
      told front (inl e) = absurd (let f : false ≡ true = e in cc)
      told front (inr h) = h
  second_of (inr (inl p)) = absurd (let f = p.4 in cc)
  second_of (inr (inr l)) = absurd (let f = l.3 in cc)

  of_second : IsSecondTarget targets at name → IsIn (AssignedTwice at name) (assignment_faults names seen m)
  of_second s =
      let known : IsKnown none_taken s.front s.target.name = inr (s.before.0, s.before.1, s.before.2 ∙ sym s.name_is) in
      let h = subst (λ (ts : List Named). IsIn (AssignedTwice s.target.at s.target.name) (twice none_taken ts)) (sym s.stands) (is_twice none_taken s.front s.behind s.target known) in
      in_front (AssignedTwice at name) (twice none_taken targets) (ports_never taken m.ports ++ locals_never taken m.locals)
      (subst (λ k. IsIn (AssignedTwice k name) (twice none_taken targets)) s.at_is (subst (λ n. IsIn (AssignedTwice s.target.at n) (twice none_taken targets)) s.name_is h))

  never_of : Parts (NotAssigned at name) → MustBeTarget m at name × (HasTarget name targets → ⊥)
  never_of (inl h) = absurd (no_never none_taken targets at name h)
  never_of (inr (inl p)) =
      let place : p.0.at ≡ at = let f = p.4 in cc in
      let named : p.0.name ≡ name = let f = p.4 in cc in
      (inl (p.0, p.1, p.2, place, named), none_of targets name (ap taken (sym named) ∙ p.3))
  never_of (inr (inr l)) =
      let place : l.0.at ≡ at = let f = l.3 in cc in
      let named : l.0.name ≡ name = let f = l.3 in cc in
      (inr (l.0, l.1, place, named), none_of targets name (ap taken (sym named) ∙ l.2))

  of_never : MustBeTarget m at name × (HasTarget name targets → ⊥) → IsIn (NotAssigned at name) (assignment_faults names seen m)
  of_never (inl p, lacks) =
      let free : taken p.0.name ≡ false = ap taken p.4 ∙ of_none targets name lacks in
      let h = in_front (NotAssigned p.0.at p.0.name) (ports_never taken m.ports) (locals_never taken m.locals) (are_ports taken m.ports p.0 p.1 p.2 free) in
      in_back (NotAssigned at name) (twice none_taken targets) (ports_never taken m.ports ++ locals_never taken m.locals)
      (subst (λ k. IsIn (NotAssigned k name) (ports_never taken m.ports ++ locals_never taken m.locals)) p.3 (subst (λ n. IsIn (NotAssigned p.0.at n) (ports_never taken m.ports ++ locals_never taken m.locals)) p.4 h))
  of_never (inr l, lacks) =
      let free : taken l.0.name ≡ false = ap taken l.3 ∙ of_none targets name lacks in
      let h = in_back (NotAssigned l.0.at l.0.name) (ports_never taken m.ports) (locals_never taken m.locals) (are_locals taken m.locals l.0 l.1 free) in
      in_back (NotAssigned at name) (twice none_taken targets) (ports_never taken m.ports ++ locals_never taken m.locals)
      (subst (λ k. IsIn (NotAssigned k name) (ports_never taken m.ports ++ locals_never taken m.locals)) l.2 (subst (λ n. IsIn (NotAssigned l.0.at n) (ports_never taken m.ports ++ locals_never taken m.locals)) l.3 h))

  pub are_assigned : AreAssigned names seen m at name
  are_assigned = record {
    twice = (λ h. second_of (parts_of (AssignedTwice at name) h), of_second);
    never = (λ h. never_of (parts_of (NotAssigned at name) h), of_never);
  }

-- one row of the widths of places, and those behind it
row_of_place : (n elements k : ℕ) (rest : Option ℕ) (bits : ℕ) → cond (nat_eq n elements) (Some k) rest ≡ Some bits → ((n ≡ elements) × (k ≡ bits)) ⊎ (rest ≡ Some bits)
row_of_place n elements k rest bits e = grind (arith, e)

told_place : (n elements k bits : ℕ) → (1 ≤ k) × (k ≤ 10) → elements ≡ 2 ^ k → (n ≡ elements) × (k ≡ bits) → (1 ≤ bits) × (bits ≤ 10) × (n ≡ 2 ^ bits)
told_place n elements k bits within power here = subst (λ (j : ℕ). (1 ≤ j) × (j ≤ 10) × (n ≡ 2 ^ j)) here.1 (within.0, within.1, here.0 ∙ power)

place_is : (n bits : ℕ) → place_width n ≡ Some bits → (1 ≤ bits) × (bits ≤ 10) × (n ≡ 2 ^ bits)
place_is n bits e =
    elim (row_of_place n 2 1 _ bits e) [
      | inl here ↦ told_place n 2 1 bits (omega arith, omega arith) refl here
      | inr e ↦
          elim (row_of_place n 4 2 _ bits e) [
            | inl here ↦ told_place n 4 2 bits (omega arith, omega arith) refl here
            | inr e ↦
                elim (row_of_place n 8 3 _ bits e) [
                  | inl here ↦ told_place n 8 3 bits (omega arith, omega arith) refl here
                  | inr e ↦
                      elim (row_of_place n 16 4 _ bits e) [
                        | inl here ↦ told_place n 16 4 bits (omega arith, omega arith) refl here
                        | inr e ↦
                            elim (row_of_place n 32 5 _ bits e) [
                              | inl here ↦ told_place n 32 5 bits (omega arith, omega arith) refl here
                              | inr e ↦
                                  elim (row_of_place n 64 6 _ bits e) [
                                    | inl here ↦ told_place n 64 6 bits (omega arith, omega arith) refl here
                                    | inr e ↦
                                        elim (row_of_place n 128 7 _ bits e) [
                                          | inl here ↦ told_place n 128 7 bits (omega arith, omega arith) refl here
                                          | inr e ↦
                                              elim (row_of_place n 256 8 _ bits e) [
                                                | inl here ↦ told_place n 256 8 bits (omega arith, omega arith) refl here
                                                | inr e ↦
                                                    elim (row_of_place n 512 9 _ bits e) [
                                                      | inl here ↦ told_place n 512 9 bits (omega arith, omega arith) refl here
                                                      | inr e ↦
                                                          elim (row_of_place n 1024 10 _ bits e) [ inl here ↦ told_place n 1024 10 bits (omega arith, omega arith) refl here | inr e ↦ absurd (let f : None ≡ Some bits = e in cc) ]
                                                    ]
                                              ]
                                        ]
                                  ]
                            ]
                      ]
                ]
          ]
    ]

is_place : (n bits : ℕ) → (1 ≤ bits) × (bits ≤ 10) × (n ≡ 2 ^ bits) → place_width n ≡ Some bits
is_place n zero r = let h = r.0 in absurd (omega (arith, h))
is_place n (suc zero) r = ap place_width r.2
is_place n (suc (suc zero)) r = ap place_width r.2
is_place n (suc (suc (suc zero))) r = ap place_width r.2
is_place n (suc (suc (suc (suc zero)))) r = ap place_width r.2
is_place n (suc (suc (suc (suc (suc zero))))) r = ap place_width r.2
is_place n (suc (suc (suc (suc (suc (suc zero)))))) r = ap place_width r.2
is_place n (suc (suc (suc (suc (suc (suc (suc zero))))))) r = ap place_width r.2
is_place n (suc (suc (suc (suc (suc (suc (suc (suc zero)))))))) r = ap place_width r.2
is_place n (suc (suc (suc (suc (suc (suc (suc (suc (suc zero))))))))) r = ap place_width r.2
is_place n (suc (suc (suc (suc (suc (suc (suc (suc (suc (suc zero)))))))))) r = ap place_width r.2
is_place n (suc (suc (suc (suc (suc (suc (suc (suc (suc (suc (suc k))))))))))) r = let h = r.1 in absurd (omega (arith, h))

pub numbers_elements : (elements bits : ℕ) → NumbersElements elements bits
numbers_elements elements bits = (place_is elements bits, is_place elements bits)
