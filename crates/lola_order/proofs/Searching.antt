-- The steps of the search.
use Rattle.std.proofs.Common.{◌≡◌, ◌≢◌, ℕ, zero, suc, ◌+◌, ◌<◌, ◌≤◌, Bool, true, false, List, [], ◌∷◌, ◌++◌, length, map, get_or, set, take, refl, sym, ◌∙◌, ap, subst, ◌⊎◌, inl, inr, arith, length-set}
use Rattle.std.specs.Prelude.{Option, Some, None, slice_get, MatchOption}
use Rattle.std.specs.Option.{is_none}
use Rattle.std.proofs.lemmas.Bool.{cases_eq}
use Rattle.std.proofs.lemmas.Grind.{get_or_default_zero}
use Rattle.std.proofs.lemmas.Option.{slice_get_within}
use Rattle.std.proofs.lemmas.List.{take_all, length-map}
use Rattle.lola_order.specs.declared.ready.Ready.{Ready}
use Rattle.lola_order.specs.declared.waiting.Waiting.{Waiting}
use Rattle.lola_order.specs.Graph.{Graph, Uses, IsWanted, IsUse, IsReady, IsFirstReady, IsOrder, IsLoop, HasLoop}
use Rattle.lola_bits.specs.Lists.{IsIn}
use Rattle.lola_order.specs.State.{Has, Waits, IsWaiting, IsReadied, IsUnmet, unmet_count, IsBlockedBy, UsesMet, IsState}
use Rattle.lola_bits.proofs.Lists.{in_front, but_last, in_last}
use Rattle.lola_bits.proofs.Places.{in_take_item, get_in, get_set_same, get_set_other}
use Rattle.lola_order.proofs.Orders.{placed_more}

-- a look at one more use
pub passed_more : (uses : List ℕ) (met : List Bool) (start at : ℕ) → at < length uses → (IsUnmet met (get_or uses at 0) → ⊥) →
    ((j : ℕ) → IsIn j (take at uses) → IsUnmet met j → IsIn j (take start uses)) → (j : ℕ) → IsIn j (take (at + 1) uses) → IsUnmet met j → IsIn j (take start uses)
passed_more uses met start at within is_met so j among unmet = elim (in_take_item uses at (get_or uses at 0) j within (sym (get_or_default_zero uses at (get_or uses at 0) within)) among) [
  | inl same ↦ absurd (is_met (subst (λ (n : ℕ). IsUnmet met n) same unmet))
  | inr before ↦ so j before unmet
]

-- no use is behind the last
pub none_behind : (uses : List ℕ) (met : List Bool) (at : ℕ) → length uses ≤ at → (j : ℕ) → slice_get uses at ≡ Some j → IsUnmet met j
none_behind uses met at behind j is = absurd (let within : at < length uses = slice_get_within uses at j is in omega arith)

-- one equation is one
pub same_uses : (g : Graph) (k : ℕ) (us vs : List ℕ) → Uses g k us → Uses g k vs → us ≡ vs
same_uses g k us vs p q = let e : Some (Some us) ≡ Some (Some vs) = sym p ∙ q in cc

module _ (g : Graph) (met : List Bool) (next : List ℕ) (w : Waiting) (r : Ready) (order : List ℕ) (k : ℕ) (more : List ℕ) (is : IsState g met next w r order (k ∷ more)) where
  -- what is placed or given needs no look
  pub dropped : (IsUnmet met k → ⊥) → IsState g met next w r order more
  dropped is_met = record {
    long = is.long;
    marked = is.marked;
    passed = is.passed;
    ready = is.ready;
    placed = is.placed;
    each = λ m unmet. elim (is.each m unmet) [
      | inl ready ↦ inl ready
      | inr (inl blocked) ↦ inr (inl blocked)
      | inr (inr (inl same)) ↦ absurd (is_met (subst (λ (n : ℕ). IsUnmet met n) same unmet))
      | inr (inr (inr later)) ↦ inr (inr later)
    ];
  }

  -- the look goes to a place up to which all uses are met
  pub moved : (uses : List ℕ) (start at : ℕ) → Uses g k uses → slice_get next k ≡ Some start → ((j : ℕ) → IsIn j (take at uses) → IsUnmet met j → IsIn j (take start uses)) →
      IsState g met (set next k at) w r order (k ∷ more)
  moved uses start at equation began so =
      let within : k < length next = slice_get_within next k start began in
      record {
        long = record { of_met = is.long.of_met; of_next = length-set next k at ∙ is.long.of_next; of_waiting = is.long.of_waiting };
        marked = is.marked;
        ready = is.ready;
        placed = is.placed;
        passed = λ m here us there equations j among unmet. elim (cases_eq m k) [
          | inl same ↦
              let e : slice_get (set next k at) k ≡ Some here = subst (λ (n : ℕ). slice_get (set next k at) n ≡ Some here) same there in
              let f : Some here ≡ Some at = sym e ∙ get_set_same next k at within in
              let h : here ≡ at = cc in
              let u : us ≡ uses = same_uses g k us uses (subst (λ (n : ℕ). Uses g n us) same equations) equation in
              let a : IsIn j (take at uses) = subst (λ (n : ℕ). IsIn j (take n uses)) h (subst (λ (l : List ℕ). IsIn j (take here l)) u among) in
              is.passed k start uses began equation j (so j a unmet) unmet
          | inr other ↦ is.passed m here us (sym (get_set_other next k m at other) ∙ there) equations j among unmet
        ];
        each = λ m unmet. elim (is.each m unmet) [
          | inl ready ↦ inl ready
          | inr (inl blocked) ↦ elim (cases_eq m k) [
            | inl same ↦ inr (inr (inl same))
            | inr other ↦
                let b = blocked.blocked in
                inr (inl (record {
                  by = blocked.by;
                  waits = blocked.waits;
                  blocked = record { uses = b.uses; equation = b.equation; at = b.at; at_is = get_set_other next k m at other ∙ b.at_is; there = b.there; unmet = b.unmet };
                }))
          ]
          | inr (inr pending) ↦ inr (inr pending)
        ];
      }

  -- it waits
  pub waits : (by : ℕ) (v : Waiting) → IsBlockedBy g met next k by → length v.lists.items ≡ length w.lists.items → Waits v by k → ((j m : ℕ) → Waits w j m → Waits v j m) →
      IsState g met next v r order more
  waits by v blocked long here kept = record {
    long = record { of_met = is.long.of_met; of_next = is.long.of_next; of_waiting = long ∙ is.long.of_waiting };
    marked = is.marked;
    passed = is.passed;
    ready = is.ready;
    placed = is.placed;
    each = λ m unmet. elim (is.each m unmet) [
      | inl ready ↦ inl ready
      | inr (inl b) ↦ inr (inl (record { by = b.by; blocked = b.blocked; waits = kept b.by m b.waits }))
      | inr (inr (inl same)) ↦ inr (inl (record { by = by; blocked = subst (λ (n : ℕ). IsBlockedBy g met next n by) (sym same) blocked; waits = subst (λ (n : ℕ). Waits v by n) (sym same) here }))
      | inr (inr (inr later)) ↦ inr (inr later)
    ];
  }

  -- or it is ready
  pub readied : (s : Ready) → IsUnmet met k → UsesMet g met k → Has s k → ((m : ℕ) → Has r m → Has s m) → ((m : ℕ) → Has s m → (m ≡ k) ⊎ Has r m) →
      IsState g met next w s order more
  readied s unmet uses_met here kept only = record {
    long = is.long;
    marked = is.marked;
    passed = is.passed;
    placed = is.placed;
    ready = record {
      unmet = λ m has. elim (only m has) [ inl same ↦ subst (λ (n : ℕ). IsUnmet met n) (sym same) unmet | inr old ↦ is.ready.unmet m old ];
      uses = λ m has. elim (only m has) [ inl same ↦ subst (λ (n : ℕ). UsesMet g met n) (sym same) uses_met | inr old ↦ is.ready.uses m old ];
    };
    each = λ m un. elim (is.each m un) [
      | inl ready ↦ inl (kept m ready)
      | inr (inl b) ↦ inr (inl b)
      | inr (inr (inl same)) ↦ inl (subst (λ (n : ℕ). Has s n) (sym same) here)
      | inr (inr (inr later)) ↦ inr (inr later)
    ];
  }

  -- where the look is behind the last use, all are met
  pub all_met : (uses : List ℕ) (at : ℕ) → Uses g k uses → slice_get next k ≡ Some at → slice_get uses at ≡ None → UsesMet g met k
  all_met uses at equation there none = λ j used unmet.
      let e : used.uses ≡ uses = same_uses g k used.uses uses used.equation equation in
      let among : IsIn j uses = subst (λ (l : List ℕ). IsIn j l) e used.among in
      let behind : length uses ≤ at = past uses at none in
      is.passed k at uses there equation j (subst (λ (l : List ℕ). IsIn j l) (sym (take_all at uses behind)) among) unmet
    where
      past : (xs : List ℕ) (i : ℕ) → slice_get xs i ≡ None → length xs ≤ i
      past [] i none = omega arith
      past (x ∷ xs) zero none = absurd (let e : Some x ≡ None = none in cc)
      past (x ∷ xs) (suc i) none = let more : length xs ≤ i = past xs i none in omega arith

-- a whole look
module _ (g : Graph) (met : List Bool) (next : List ℕ) (w : Waiting) (r : Ready) (order : List ℕ) (k : ℕ) (more : List ℕ) (is : IsState g met next w r order (k ∷ more))
    (uses : List ℕ) (equation : Uses g k uses) (unmet : IsUnmet met k) (start at : ℕ) (began : slice_get next k ≡ Some start)
    (so : (j : ℕ) → IsIn j (take at uses) → IsUnmet met j → IsIn j (take start uses)) (found : (j : ℕ) → slice_get uses at ≡ Some j → IsUnmet met j) where
  now_at : slice_get (set next k at) k ≡ Some at
  now_at = get_set_same next k at (slice_get_within next k start began)

  pub within_waiting : (by : ℕ) → slice_get uses at ≡ Some by → by < length w.lists.items
  within_waiting by there = let b : by < length met = slice_get_within met by false (found by there) in let e = is.long.of_met in let f = is.long.of_waiting in omega arith

  settle_case : (o : Option ℕ) → slice_get uses at ≡ o → (v : Waiting) (s : Ready) → MatchOption o (v ≡ w) (λ by. IsWaiting w by k v) → MatchOption o (IsReadied r k s) (λ by. s ≡ r) → IsState g met (set next k at) v s order more
  settle_case None there v s same readied_is =
      let m = moved g met next w r order k more is uses start at equation began so in
      let n = readied g met (set next k at) w r order k more m s unmet (all_met g met (set next k at) w r order k more m uses at equation now_at there) readied_is.here readied_is.kept readied_is.only in
      rw same n
  settle_case (Some by) there v s waiting same =
      let m = moved g met next w r order k more is uses start at equation began so in
      let b : IsBlockedBy g met (set next k at) k by = record { uses = uses; equation = equation; at = at; at_is = now_at; there = there; unmet = found by there } in
      let n = waits g met (set next k at) w r order k more m by v b waiting.long waiting.here waiting.kept in
      rw same n

  pub settled : (met' : List Bool) (next' : List ℕ) (v : Waiting) (s : Ready) (order' : List ℕ) → met' ≡ met → next' ≡ set next k at → order' ≡ order →
      MatchOption (slice_get uses at) (v ≡ w) (λ by. IsWaiting w by k v) → MatchOption (slice_get uses at) (IsReadied r k s) (λ by. s ≡ r) → IsState g met' next' v s order' more
  settled met' next' v s order' em en eo waiting readied_is = rw (em, en, eo) (settle_case (slice_get uses at) refl v s waiting readied_is)

-- a signal that isn't placed has a place everywhere
module _ (g : Graph) (met : List Bool) (next : List ℕ) (w : Waiting) (r : Ready) (order : List ℕ) (pending : List ℕ) (is : IsState g met next w r order pending) (k : ℕ) (unmet : IsUnmet met k) where
  pub within_graph : k < length g
  within_graph = let b : k < length met = slice_get_within met k false unmet in let e = is.long.of_met in omega arith

  pub not_given : slice_get g k ≡ Some None → ⊥
  not_given given = let u = is.marked.wanted k unmet in let e : Some None ≡ Some (Some u.uses) = sym given ∙ u.equation in cc

-- marking one signal
pub unmet_before : (met : List Bool) (k j : ℕ) → IsUnmet (set met k true) j → IsUnmet met j
unmet_before [] k j unmet = unmet
unmet_before (x ∷ met) zero zero unmet = absurd (let e : Some true ≡ Some false = unmet in cc)
unmet_before (x ∷ met) zero (suc j) unmet = unmet
unmet_before (x ∷ met) (suc k) zero unmet = unmet
unmet_before (x ∷ met) (suc k) (suc j) unmet = unmet_before met k j unmet

pub unmet_apart : (met : List Bool) (k j : ℕ) → IsUnmet (set met k true) j → j ≢ k
unmet_apart [] k j unmet = absurd (let e : None ≡ Some false = unmet in cc)
unmet_apart (x ∷ met) zero zero unmet = absurd (let e : Some true ≡ Some false = unmet in cc)
unmet_apart (x ∷ met) zero (suc j) unmet = λ e. cc
unmet_apart (x ∷ met) (suc k) zero unmet = λ e. cc
unmet_apart (x ∷ met) (suc k) (suc j) unmet = λ e. unmet_apart met k j unmet (let f : suc j ≡ suc k = e in cc)

pub unmet_still : (met : List Bool) (k j : ℕ) → j ≢ k → IsUnmet met j → IsUnmet (set met k true) j
unmet_still met k j other unmet = get_set_other met k j true other ∙ unmet

pub fewer : (met : List Bool) (k : ℕ) → IsUnmet met k → unmet_count (set met k true) < unmet_count met
fewer [] k unmet = absurd (let e : None ≡ Some false = unmet in cc)
fewer (true ∷ met) zero unmet = absurd (let e : Some true ≡ Some false = unmet in cc)
fewer (false ∷ met) zero unmet = omega arith
fewer (true ∷ met) (suc k) unmet = fewer met k unmet
fewer (false ∷ met) (suc k) unmet = let less : unmet_count (set met k true) < unmet_count met = fewer met k unmet in omega arith

module _ (g : Graph) (met : List Bool) (next : List ℕ) (w : Waiting) (r s : Ready) (order : List ℕ) (k : ℕ) (is : IsState g met next w r order [])
    (has : Has r k) (least : (m : ℕ) → Has r m → k ≤ m) (kept : (m : ℕ) → Has r m → (m ≡ k) ⊎ Has s m) (only : (m : ℕ) → Has s m → Has r m) (gone : (m : ℕ) → Has s m → m ≢ k) where
  -- what is ready in the end is among those that are noted as ready
  noted : (j : ℕ) → IsReady g order j → Has r j
  noted j ready = elim (is.marked.each j ready.wanted) [
    | inr there ↦ absurd (ready.new there)
    | inl unmet ↦ elim (is.each j unmet) [
      | inl ready ↦ ready
      | inr (inl blocked) ↦
          let b = blocked.blocked in
          let u : IsUse g blocked.by j = record { uses = b.uses; equation = b.equation; among = get_in b.uses b.at blocked.by b.there } in
          absurd (is.marked.new blocked.by b.unmet (ready.met blocked.by u (is.marked.wanted blocked.by b.unmet)))
      | inr (inr none) ↦ absurd none
    ]
  ]

  -- the least of them is the first that is ready
  first_ready : IsFirstReady g order k
  first_ready =
      let unmet : IsUnmet met k = is.ready.unmet k has in
      record {
        ready = record {
          wanted = is.marked.wanted k unmet;
          new = is.marked.new k unmet;
          met = λ j used wanted. elim (is.marked.each j wanted) [ inl un ↦ absurd (is.ready.uses k has j used un) | inr there ↦ there ];
        };
        first = λ j ready. least j (noted j ready);
      }

  pub placed_least : (v : Waiting) (woken : List ℕ) → length v.lists.items ≡ length w.lists.items → ((m : ℕ) → Waits w k m → IsIn m woken) →
      ((j m : ℕ) → j ≢ k → Waits w j m → Waits v j m) → IsState g (set met k true) next v s (order ++ k ∷ []) woken
  placed_least v woken long taken others =
      let before : (j : ℕ) → IsUnmet (set met k true) j → IsUnmet met j = unmet_before met k in
      record {
        long = record { of_met = length-set met k true ∙ is.long.of_met; of_next = is.long.of_next; of_waiting = long ∙ is.long.of_waiting };
        marked = record {
          wanted = λ j unmet. is.marked.wanted j (before j unmet);
          new = λ j unmet there. elim (but_last j k order there) [
            | inl same ↦ unmet_apart met k j unmet same
            | inr early ↦ is.marked.new j (before j unmet) early
          ];
          each = λ j wanted. elim (is.marked.each j wanted) [
            | inl unmet ↦ elim (cases_eq j k) [
              | inl same ↦ inr (subst (λ (n : ℕ). IsIn n (order ++ k ∷ [])) (sym same) (in_last k order))
              | inr other ↦ inl (unmet_still met k j other unmet)
            ]
            | inr early ↦ inr (in_front j order (k ∷ []) early)
          ];
        };
        passed = λ m at us there equation j among unmet. is.passed m at us there equation j among (before j unmet);
        ready = record {
          unmet = λ m in_s. unmet_still met k m (gone m in_s) (is.ready.unmet m (only m in_s));
          uses = λ m in_s j used unmet. is.ready.uses m (only m in_s) j used (before j unmet);
        };
        placed = placed_more g [] order k is.placed first_ready;
        each = λ m unmet. elim (is.each m (before m unmet)) [
          | inl ready ↦ elim (kept m ready) [ inl same ↦ absurd (unmet_apart met k m unmet same) | inr still ↦ inl still ]
          | inr (inl blocked) ↦ elim (cases_eq blocked.by k) [
            | inl same ↦ inr (inr (taken m (subst (λ (n : ℕ). Waits w n m) same blocked.waits)))
            | inr other ↦
                let b = blocked.blocked in
                inr (inl (record {
                  by = blocked.by;
                  waits = others blocked.by m other blocked.waits;
                  blocked = record { uses = b.uses; equation = b.equation; at = b.at; at_is = b.at_is; there = b.there; unmet = unmet_still met k blocked.by other b.unmet };
                }))
          ]
          | inr (inr none) ↦ absurd none
        ];
      }

-- where none is ready
pub idle : (g : Graph) (met : List Bool) (next : List ℕ) (w : Waiting) (r s : Ready) (order : List ℕ) → IsState g met next w r order [] →
    ((k : ℕ) → Has r k → ⊥) → ((k : ℕ) → Has s k → Has r k) → IsState g met next w s order []
idle g met next w r s order is none only = record {
  long = is.long;
  marked = is.marked;
  passed = is.passed;
  placed = is.placed;
  ready = record { unmet = λ k has. is.ready.unmet k (only k has); uses = λ k has. is.ready.uses k (only k has) };
  each = λ k unmet. elim (is.each k unmet) [ inl ready ↦ absurd (none k ready) | inr other ↦ inr other ];
}

-- at first
given_wanted : (g : Graph) (j : ℕ) → IsUnmet (map is_none g) j → IsWanted g j
given_wanted [] j unmet = absurd (let e : None ≡ Some false = unmet in cc)
given_wanted (None ∷ g) zero unmet = absurd (let e : Some true ≡ Some false = unmet in cc)
given_wanted (Some us ∷ g) zero unmet = record { uses = us; equation = refl }
given_wanted (x ∷ g) (suc j) unmet = let w = given_wanted g j unmet in record { uses = w.uses; equation = w.equation }

wanted_unmet : (g : Graph) (j : ℕ) (us : List ℕ) → Uses g j us → IsUnmet (map is_none g) j
wanted_unmet [] j us is = absurd (let e : None ≡ Some (Some us) = is in cc)
wanted_unmet (None ∷ g) zero us is = absurd (let e : Some None ≡ Some (Some us) = is in cc)
wanted_unmet (Some vs ∷ g) zero us is = refl
wanted_unmet (x ∷ g) (suc j) us is = wanted_unmet g j us is

pub begun : (g : Graph) (met : List Bool) (next : List ℕ) (w : Waiting) (r : Ready) (order pending : List ℕ) → met ≡ map is_none g → length next ≡ length g → length w.lists.items ≡ length g →
    ((k at : ℕ) → slice_get next k ≡ Some at → at ≡ 0) → ((k : ℕ) → Has r k → ⊥) → order ≡ [] → ((k : ℕ) → k < length g → IsIn k pending) → IsState g met next w r order pending
begun g met next w r order pending is_met long_next long_waiting zeros none empty all =
    let long_met : length met ≡ length g = ap (λ (l : List Bool). length l) is_met ∙ (simp length-map) in
    let new : (j : ℕ) → IsIn j order → ⊥ = λ j there. subst (λ (l : List ℕ). IsIn j l) empty there in
    record {
      long = record { of_met = long_met; of_next = long_next; of_waiting = long_waiting };
      marked = record {
        wanted = λ j unmet. given_wanted g j (subst (λ (l : List Bool). IsUnmet l j) is_met unmet);
        new = λ j unmet there. new j there;
        each = λ j wanted. inl (subst (λ (l : List Bool). IsUnmet l j) (sym is_met) (wanted_unmet g j wanted.uses wanted.equation));
      };
      passed = λ k at us there equation j among unmet. subst (λ (n : ℕ). IsIn j (take n us)) (zeros k at there) among;
      ready = record { unmet = λ k has. absurd (none k has); uses = λ k has. absurd (none k has) };
      placed = rw empty tt;
      each = λ k unmet. inr (inr (all k (let b : k < length met = slice_get_within met k false unmet in omega arith)));
    }

pub zero_more : (xs ys : List ℕ) → ys ≡ xs ++ 0 ∷ [] → ((k at : ℕ) → slice_get xs k ≡ Some at → at ≡ 0) → (k at : ℕ) → slice_get ys k ≡ Some at → at ≡ 0
zero_more xs ys is each k at there = more xs each k at (subst (λ (l : List ℕ). slice_get l k ≡ Some at) is there)
  where
    more : (xs : List ℕ) → ((k at : ℕ) → slice_get xs k ≡ Some at → at ≡ 0) → (k at : ℕ) → slice_get (xs ++ 0 ∷ []) k ≡ Some at → at ≡ 0
    more [] each zero at there = let e : Some 0 ≡ Some at = there in cc
    more [] each (suc k) at there = absurd (let e : None ≡ Some at = there in cc)
    more (x ∷ xs) each zero at there = each zero at there
    more (x ∷ xs) each (suc k) at there = more xs (λ k at e. each (suc k) at e) k at there

pub number_more : (xs ys : List ℕ) (n : ℕ) → ys ≡ xs ++ n ∷ [] → ((k : ℕ) → k < n → IsIn k xs) → (k : ℕ) → k < n + 1 → IsIn k ys
number_more xs ys n is each k below = elim (cases_eq k n) [
  | inl same ↦ rw (is, same) (in_last n xs)
  | inr other ↦ rw is (in_front k xs (n ∷ []) (each k (omega arith)))
]

-- at last
pub ordered : (g : Graph) (met : List Bool) (next : List ℕ) (w : Waiting) (r : Ready) (order pending : List ℕ) → IsState g met next w r order pending → ((k : ℕ) → IsUnmet met k → ⊥) → IsOrder g order
ordered g met next w r order pending is none = record {
  placed = is.placed;
  all = λ k wanted. elim (is.marked.each k wanted) [ inl unmet ↦ absurd (none k unmet) | inr there ↦ there ];
}

pub all_blocked : (g : Graph) (met : List Bool) (next : List ℕ) (w : Waiting) (r : Ready) (order : List ℕ) → IsState g met next w r order [] → ((k : ℕ) → Has r k → ⊥) →
    (k : ℕ) → IsUnmet met k → (by : ℕ) × IsBlockedBy g met next k by
all_blocked g met next w r order is none k unmet = elim (is.each k unmet) [
  | inl ready ↦ absurd (none k ready)
  | inr (inl blocked) ↦ (blocked.by, blocked.blocked)
  | inr (inr pending) ↦ absurd pending
]

-- a loop is a closed chain
pub loop_closed : (g : Graph) (names : List ℕ) → IsLoop g names → HasLoop g
loop_closed g names l = record { first = l.first; others = l.others; closed = l.closed }
