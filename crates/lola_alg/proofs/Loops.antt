-- A loop over vectors makes the steps of the list, one after another.
use Rattle.std.proofs.Common.{◌≡◌, ℕ, ◌+◌, ◌%◌, ◌^◌, ◌<◌, true, nat_eq, inl, inr, List, [], ◌∷◌, ◌++◌, length, drop, get_or, Option, Some, None, refl, sym, ap, ap₂, subst, ◌∙◌, append_assoc, length-append}
use Rattle.std.proofs.lemmas.List.{drop_more}
use Rattle.std.proofs.lemmas.Bool.{cases_Bool}
use Rattle.std.specs.List.{AllByRecursion}
use Rattle.lola_bits.proofs.All.{all_append}
use Rattle.lola_alg.specs.Gates.{turn_here}
use Rattle.lola_alg.specs.Algebra.{Calls, Meaning, Stays, Keeps}
use Rattle.lola_alg.specs.Steps.{Step, into, each_step, pairs_step, adder_step, carry_step, turns_step}
use Rattle.lola_alg.specs.Means.{AreKnown}
use Rattle.lola_alg.specs.Loops.{GoesOn, Keeping}

-- one more is made
pub goes_on_more : {D X : Type 0} (whole : Option (D × List X)) (made : List X) (x : X) (rest : Option (D × List X)) →
    GoesOn whole made (into rest (λ more d. Some (d, x ∷ more))) → GoesOn whole (made ++ x ∷ []) rest
goes_on_more whole made x None e = e
goes_on_more whole made x (Some r) e = e ∙ ap (λ xs. Some (r.0, xs)) (sym (append_assoc made (x ∷ []) r.1))

pub each_more : {D A X : Type 0} (f : A → Step D X) (xs : List A) (at : ℕ) (a : A) (before now : D) (made : List X) (whole : Option (D × List X)) (x : X) → at < length xs → a ≡ get_or xs at a →
    f a before ≡ Some (now, x) → GoesOn whole made (each_step f (drop at xs) before) → (items : List X) → items ≡ made ++ x ∷ [] → GoesOn whole items (each_step f (drop (at + 1) xs) now)
each_more f xs at a before now made whole x within is step e items all =
    let list : drop at xs ≡ a ∷ drop (at + 1) xs = drop_more xs at a within ∙ ap (λ b. b ∷ drop (at + 1) xs) (sym is) in
    let first : each_step f (drop at xs) before ≡ into (Some (now, x)) (λ y d. into (each_step f (drop (at + 1) xs) d) (λ ys g. Some (g, y ∷ ys))) =
    ap (λ ys. each_step f ys before) list ∙ ap (λ o. into o (λ y d. into (each_step f (drop (at + 1) xs) d) (λ ys g. Some (g, y ∷ ys)))) step in
    subst (λ is. GoesOn whole is (each_step f (drop (at + 1) xs) now)) (sym all) (goes_on_more whole made x (each_step f (drop (at + 1) xs) now) (subst (GoesOn whole made) first e))

pub pairs_more : {D A X : Type 0} (f : A → A → Step D X) (xs ys : List A) (at : ℕ) (a b : A) (before now : D) (made : List X) (whole : Option (D × List X)) (x : X) →
    at < length xs → at < length ys → a ≡ get_or xs at a → b ≡ get_or ys at b → f a b before ≡ Some (now, x) →
    GoesOn whole made (pairs_step f (drop at xs) (drop at ys) before) → (items : List X) → items ≡ made ++ x ∷ [] → GoesOn whole items (pairs_step f (drop (at + 1) xs) (drop (at + 1) ys) now)
pairs_more f xs ys at a b before now made whole x within within' is is' step e items all =
    let list : drop at xs ≡ a ∷ drop (at + 1) xs = drop_more xs at a within ∙ ap (λ c. c ∷ drop (at + 1) xs) (sym is) in
    let list' : drop at ys ≡ b ∷ drop (at + 1) ys = drop_more ys at b within' ∙ ap (λ c. c ∷ drop (at + 1) ys) (sym is') in
    let first : pairs_step f (drop at xs) (drop at ys) before ≡ into (Some (now, x)) (λ y d. into (pairs_step f (drop (at + 1) xs) (drop (at + 1) ys) d) (λ zs g. Some (g, y ∷ zs))) =
    ap₂ (λ us vs. pairs_step f us vs before) list list' ∙ ap (λ o. into o (λ y d. into (pairs_step f (drop (at + 1) xs) (drop (at + 1) ys) d) (λ zs g. Some (g, y ∷ zs)))) step in
    subst (λ is. GoesOn whole is (pairs_step f (drop (at + 1) xs) (drop (at + 1) ys) now)) (sym all)
    (goes_on_more whole made x (pairs_step f (drop (at + 1) xs) (drop (at + 1) ys) now) (subst (GoesOn whole made) first e))

pub longer : {X : Type 0} (made : List X) (x : X) (at : ℕ) → length made ≡ at → (items : List X) → items ≡ made ++ x ∷ [] → length items ≡ at + 1
longer made x at long items all = ap length all ∙ (length-append made (x ∷ []) ∙ ap (λ n. n + 1) long)

-- a sum goes on with the next carry
pub carry_more : {D B : Type 0} (c : Calls D B) (xs ys : List B) (at : ℕ) (a b carry : B) (before now : D) (made : List B) (whole : Option (D × List B)) (r : B × B) →
    at < length xs → at < length ys → a ≡ get_or xs at a → b ≡ get_or ys at b → adder_step c a b carry before ≡ Some (now, r) →
    GoesOn whole made (carry_step c (drop at xs) (drop at ys) carry before) → (items : List B) → items ≡ made ++ r.0 ∷ [] → GoesOn whole items (carry_step c (drop (at + 1) xs) (drop (at + 1) ys) r.1 now)
carry_more c xs ys at a b carry before now made whole r within within' is is' step e items all =
    let list : drop at xs ≡ a ∷ drop (at + 1) xs = drop_more xs at a within ∙ ap (λ x. x ∷ drop (at + 1) xs) (sym is) in
    let list' : drop at ys ≡ b ∷ drop (at + 1) ys = drop_more ys at b within' ∙ ap (λ x. x ∷ drop (at + 1) ys) (sym is') in
    let first : carry_step c (drop at xs) (drop at ys) carry before ≡ into (Some (now, r)) (λ q d. into (carry_step c (drop (at + 1) xs) (drop (at + 1) ys) q.1 d) (λ zs g. Some (g, q.0 ∷ zs))) =
    ap₂ (λ us vs. carry_step c us vs carry before) list list' ∙ ap (λ o. into o (λ q d. into (carry_step c (drop (at + 1) xs) (drop (at + 1) ys) q.1 d) (λ zs g. Some (g, q.0 ∷ zs)))) step in
    subst (λ is. GoesOn whole is (carry_step c (drop (at + 1) xs) (drop (at + 1) ys) r.1 now)) (sym all)
    (goes_on_more whole made r.0 (carry_step c (drop (at + 1) xs) (drop (at + 1) ys) r.1 now) (subst (GoesOn whole made) first e))

-- the turns go on behind the first
turns_on : {D B : Type 0} (c : Calls D B) (place : ℕ) (b : B) (bs xs : List B) (d : D) → turns_step c place (b ∷ bs) xs d ≡ into (turn_here c place b xs d) (λ ys e. turns_step c (place + 1) bs ys e)
turns_on c place b bs xs d = elim (cases_Bool (nat_eq (2 ^ place % length xs) 0)) [
  | inl e ↦ rw e refl
  | inr e ↦ rw e refl
]

pub turns_more : {D B : Type 0} (c : Calls D B) (by xs ys : List B) (place : ℕ) (b : B) (before now : D) (whole : Option (D × List B)) → place < length by → b ≡ get_or by place b →
    turn_here c place b xs before ≡ Some (now, ys) → whole ≡ turns_step c place (drop place by) xs before → whole ≡ turns_step c (place + 1) (drop (place + 1) by) ys now
turns_more c by xs ys place b before now whole within is step e =
    let list : drop place by ≡ b ∷ drop (place + 1) by = drop_more by place b within ∙ ap (λ x. x ∷ drop (place + 1) by) (sym is) in
    e ∙ (ap (λ bs. turns_step c place bs xs before) list ∙ (turns_on c place b (drop (place + 1) by) xs before ∙ ap (λ o. into o (λ zs f. turns_step c (place + 1) (drop (place + 1) by) zs f)) step))

module _ {D B : Type 0} (m : Meaning D B) where
  pub stay_known : (before now : D) (bits : List B) → Stays m before now → AreKnown m before bits → AreKnown m now bits
  stay_known before now [] stays known = tt
  stay_known before now (b ∷ bits) stays known = ((stays b known.0).0, stay_known before now bits stays known.1)

  pub stays_then : (a b c : D) → Stays m a b → Stays m b c → Stays m a c
  stays_then a b c p q = λ x known. let one = p x known in let two = q x one.0 in (two.0, λ v. two.1 v ∙ one.1 v)

  pub keeping_more : (before mid now : D) (made : List B) (x : B) → Keeping m before mid made → Keeps m mid now x → (items : List B) → items ≡ made ++ x ∷ [] → Keeping m before now items
  keeping_more before mid now made x k one items all = subst (Keeping m before now) (sym all) (record {
    stays = stays_then before mid now k.stays one.0;
    known = all_append (λ b. m.knows now b ≡ true) made (x ∷ []) (stay_known mid now made one.0 k.known) (one.1, tt);
  })

  pub stay_known_all : (before now : D) (vectors : List (List B)) → Stays m before now → AllByRecursion (AreKnown m before) vectors → AllByRecursion (AreKnown m now) vectors
  stay_known_all before now [] stays known = tt
  stay_known_all before now (v ∷ vectors) stays known = (stay_known before now v stays known.0, stay_known_all before now vectors stays known.1)

  pub array_more : (before now : D) (made : List (List B)) (v : List B) → Stays m before now → AllByRecursion (AreKnown m before) made → AreKnown m now v → (items : List (List B)) →
      items ≡ made ++ v ∷ [] → AllByRecursion (AreKnown m now) items
  array_more before now made v stays known one items all = subst (AllByRecursion (AreKnown m now)) (sym all) (all_append (AreKnown m now) made (v ∷ []) (stay_known_all before now made stays known) (one, tt))
