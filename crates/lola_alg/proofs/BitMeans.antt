-- Each step that makes one bit answers as its truth function says.
use Rattle.std.proofs.Common.{◌≡◌, ℕ, Bool, true, false, cond, not, ◌&&◌, Option, Some, None, refl, ap, ap₂, subst, ◌∙◌}
use Rattle.lola_bits.proofs.Options.{some_same}
use Rattle.lola_alg.specs.Algebra.{Calls, Meaning, Stays, Answers, IsAlgebra}
use Rattle.lola_alg.specs.Steps.{Step, into, not_step, both_step, either_step, differ_step, choose_step, adder_step, equal_here, less_here}
use Rattle.lola_alg.proofs.Bools.{either, differ, sum_bit, next_carry}
use Rattle.lola_alg.proofs.Orders.{same_here, below_here}
use Rattle.lola_alg.proofs.Loops.{stays_then}

-- what two steps made, the first of them made something
pub into_made : {D X Y : Type 0} (first : Option (D × X)) (next : X → Step D Y) (made : D × Y) → into first next ≡ Some made →
    (x : D × X) × ((first ≡ Some x) × (next x.1 x.0 ≡ Some made))
into_made None next made e = absurd (cc)
into_made (Some x) next made e = (x, (refl, e))

module _ {D B : Type 0} (m : Meaning D B) where
  -- a known bit has this value under each assignment
  pub record Has (d : D) (b : B) (value : (ℕ → Bool) → Bool) : Type 0 where
    pub known : m.knows d b ≡ true
    pub means : (v : ℕ → Bool) → m.value d v b ≡ value v

  -- a known bit has its own value
  pub itself : (d : D) (b : B) → m.knows d b ≡ true → Has d b (λ v. m.value d v b)
  itself d b known = record { known = known; means = λ v. refl }

  -- it has it in later data too
  pub has_later : (d e : D) (b : B) (value : (ℕ → Bool) → Bool) → Stays m d e → Has d b value → Has e b value
  has_later d e b value stays h = record { known = (stays b h.known).0; means = λ v. (stays b h.known).1 v ∙ h.means v }

  -- the bit that was made has its value
  pub made_has : (d : D) (made : D × B) (value : (ℕ → Bool) → Bool) → Answers m d made value → Has made.0 made.1 value
  made_has d made value a = record { known = a.known; means = a.means }

  pub stays_same : (d : D) → Stays m d d
  stays_same d = λ b known. (known, λ v. refl)

  -- an answer since data before, and of an equal value
  pub answers_since : (d e : D) (made : D × B) (f g : (ℕ → Bool) → Bool) → Stays m d e → ((v : ℕ → Bool) → f v ≡ g v) → Answers m e made f → Answers m d made g
  answers_since d e made f g stays same a = record { stays = stays_then m d e made.0 stays a.stays; known = a.known; means = λ v. a.means v ∙ same v }

  -- a step that makes nothing answers the bit that was there
  pub kept_bit : (d : D) (b : B) (made : D × B) (f : (ℕ → Bool) → Bool) → Has d b f → Some (d, b) ≡ Some made → Answers m d made f
  kept_bit d b made f h e = subst (λ n. Answers m d n f) (some_same (d, b) made e) (record { stays = stays_same d; known = h.known; means = h.means })

module _ {D B : Type 0} (c : Calls D B) (m : Meaning D B) (law : IsAlgebra c m) where
  pub negated_answers : (d : D) (a : B) (x : (ℕ → Bool) → Bool) → Has m d a x → Answers m d (c.negated d a) (λ v. not (x v))
  negated_answers d a x h =
      let n = law.negated d a h.known in
      record { stays = n.stays; known = n.known; means = λ v. n.means v ∙ ap not (h.means v) }

  pub both_answers : (d : D) (a b : B) (x y : (ℕ → Bool) → Bool) (made : D × B) → Has m d a x → Has m d b y → both_step c a b d ≡ Some made → Answers m d made (λ v. x v && y v)
  both_answers d a b x y made h k e =
      let n = law.both d a b made h.known k.known e in
      record { stays = n.stays; known = n.known; means = λ v. n.means v ∙ ap₂ (λ p q. p && q) (h.means v) (k.means v) }

  pub not_answers : (d : D) (a : B) (x : (ℕ → Bool) → Bool) (made : D × B) → Has m d a x → not_step c a d ≡ Some made → Answers m d made (λ v. not (x v))
  not_answers d a x made h e = subst (λ n. Answers m d n (λ v. not (x v))) (some_same (c.negated d a) made e) (negated_answers d a x h)

  -- neither of two bits, before it is negated
  neither_answers : (d : D) (a b : B) (x y : (ℕ → Bool) → Bool) (made : D × B) → Has m d a x → Has m d b y →
      (let p = c.negated d a in let q = c.negated p.0 b in c.both q.0 p.1 q.1) ≡ Some made → Answers m d made (λ v. not (x v) && not (y v))
  neither_answers d a b x y made h k e =
      let p = c.negated d a in
      let one : Answers m d p (λ v. not (x v)) = negated_answers d a x h in
      let q = c.negated p.0 b in
      let two : Answers m p.0 q (λ v. not (y v)) = negated_answers p.0 b y (has_later m d p.0 b y one.stays k) in
      let first : Has m q.0 p.1 (λ v. not (x v)) = has_later m p.0 q.0 p.1 (λ v. not (x v)) two.stays (made_has m d p (λ v. not (x v)) one) in
      let three : Answers m q.0 made (λ v. not (x v) && not (y v)) =
      both_answers q.0 p.1 q.1 (λ v. not (x v)) (λ v. not (y v)) made first (made_has m p.0 q (λ v. not (y v)) two) e in
      answers_since m d q.0 made (λ v. not (x v) && not (y v)) (λ v. not (x v) && not (y v)) (stays_then m d p.0 q.0 one.stays two.stays) (λ v. refl) three

  pub either_answers : (d : D) (a b : B) (x y : (ℕ → Bool) → Bool) (made : D × B) → Has m d a x → Has m d b y → either_step c a b d ≡ Some made → Answers m d made (λ v. either (x v) (y v))
  either_answers d a b x y made h k e =
      let p = c.negated d a in
      let q = c.negated p.0 b in
      let i = into_made (c.both q.0 p.1 q.1) (λ z g. Some (c.negated g z)) made e in
      let none = neither_answers d a b x y i.0 h k i.1.0 in
      let last = not_answers i.0.0 i.0.1 (λ v. not (x v) && not (y v)) made (made_has m d i.0 (λ v. not (x v) && not (y v)) none) i.1.1 in
      answers_since m d i.0.0 made (λ v. either (x v) (y v)) (λ v. either (x v) (y v)) none.stays (λ v. refl) last

  pub differ_answers : (d : D) (a b : B) (x y : (ℕ → Bool) → Bool) (made : D × B) → Has m d a x → Has m d b y → differ_step c a b d ≡ Some made → Answers m d made (λ v. differ (x v) (y v))
  differ_answers d a b x y made h k e =
      let i = into_made (c.both d a b) _ made e in
      let two = both_answers d a b x y i.0 h k i.1.0 in
      let n = c.negated i.0.0 i.0.1 in
      let no : Answers m i.0.0 n (λ v. not (x v && y v)) = negated_answers i.0.0 i.0.1 (λ v. x v && y v) (made_has m d i.0 (λ v. x v && y v) two) in
      let so_far : Stays m d n.0 = stays_then m d i.0.0 n.0 two.stays no.stays in
      let j = into_made (let p = c.negated n.0 a in let q = c.negated p.0 b in c.both q.0 p.1 q.1) (λ none f. let k = c.negated f none in c.both k.0 n.1 k.1) made i.1.1 in
      let none = neither_answers n.0 a b x y j.0 (has_later m d n.0 a x so_far h) (has_later m d n.0 b y so_far k) j.1.0 in
      let some : Answers m j.0.0 (c.negated j.0.0 j.0.1) (λ v. either (x v) (y v)) =
      negated_answers j.0.0 j.0.1 (λ v. not (x v) && not (y v)) (made_has m n.0 j.0 (λ v. not (x v) && not (y v)) none) in
      let end : D = (c.negated j.0.0 j.0.1).0 in
      let not_two : Has m end n.1 (λ v. not (x v && y v)) =
      has_later m n.0 end n.1 (λ v. not (x v && y v)) (stays_then m n.0 j.0.0 end none.stays some.stays) (made_has m i.0.0 n (λ v. not (x v && y v)) no) in
      let last = both_answers end n.1 (c.negated j.0.0 j.0.1).1 (λ v. not (x v && y v)) (λ v. either (x v) (y v)) made not_two
      (made_has m j.0.0 (c.negated j.0.0 j.0.1) (λ v. either (x v) (y v)) some) j.1.1 in
      answers_since m d end made (λ v. not (x v && y v) && either (x v) (y v)) (λ v. differ (x v) (y v))
      (stays_then m d n.0 end so_far (stays_then m n.0 j.0.0 end none.stays some.stays)) (λ v. alone_one (x v) (y v)) last
    where
      alone_one : (p q : Bool) → (not (p && q) && either p q) ≡ differ p q
      alone_one true true = refl
      alone_one true false = refl
      alone_one false true = refl
      alone_one false false = refl

  pub choose_answers : (d : D) (t a b : B) (w x y : (ℕ → Bool) → Bool) (made : D × B) → Has m d t w → Has m d a x → Has m d b y → choose_step c t a b d ≡ Some made → Answers m d made (λ v. cond (w v) (x v) (y v))
  choose_answers d t a b w x y made l h k e =
      let i = into_made (c.both d t a) _ made e in
      let one = both_answers d t a w x i.0 l h i.1.0 in
      let n = c.negated i.0.0 i.0.1 in
      let no : Answers m i.0.0 n (λ v. not (w v && x v)) = negated_answers i.0.0 i.0.1 (λ v. w v && x v) (made_has m d i.0 (λ v. w v && x v) one) in
      let to_n : Stays m d n.0 = stays_then m d i.0.0 n.0 one.stays no.stays in
      let u = c.negated n.0 t in
      let other : Answers m n.0 u (λ v. not (w v)) = negated_answers n.0 t w (has_later m d n.0 t w to_n l) in
      let to_u : Stays m d u.0 = stays_then m d n.0 u.0 to_n other.stays in
      let j = into_made (c.both u.0 u.1 b) _ made i.1.1 in
      let two = both_answers u.0 u.1 b (λ v. not (w v)) y j.0 (made_has m n.0 u (λ v. not (w v)) other) (has_later m d u.0 b y to_u k) j.1.0 in
      let q = c.negated j.0.0 j.0.1 in
      let nor : Answers m j.0.0 q (λ v. not (not (w v) && y v)) = negated_answers j.0.0 j.0.1 (λ v. not (w v) && y v) (made_has m u.0 j.0 (λ v. not (w v) && y v) two) in
      let from_u : Stays m u.0 q.0 = stays_then m u.0 j.0.0 q.0 two.stays nor.stays in
      let from_n : Stays m n.0 q.0 = stays_then m n.0 u.0 q.0 other.stays from_u in
      let r = into_made (c.both q.0 n.1 q.1) _ made j.1.1 in
      let neither = both_answers q.0 n.1 q.1 (λ v. not (w v && x v)) (λ v. not (not (w v) && y v)) r.0
      (has_later m n.0 q.0 n.1 (λ v. not (w v && x v)) from_n (made_has m i.0.0 n (λ v. not (w v && x v)) no))
      (made_has m j.0.0 q (λ v. not (not (w v) && y v)) nor) r.1.0 in
      let last = not_answers r.0.0 r.0.1 (λ v. not (w v && x v) && not (not (w v) && y v)) made
      (made_has m q.0 r.0 (λ v. not (w v && x v) && not (not (w v) && y v)) neither) r.1.1 in
      answers_since m d r.0.0 made (λ v. not (not (w v && x v) && not (not (w v) && y v))) (λ v. cond (w v) (x v) (y v))
      (stays_then m d q.0 r.0.0 (stays_then m d n.0 q.0 to_n from_n) neither.stays) (λ v. one_of (w v) (x v) (y v)) last
    where
      one_of : (p q r : Bool) → not (not (p && q) && not (not p && r)) ≡ cond p q r
      one_of true true true = refl
      one_of true true false = refl
      one_of true false true = refl
      one_of true false false = refl
      one_of false true true = refl
      one_of false true false = refl
      one_of false false true = refl
      one_of false false false = refl

  pub equal_answers : (d : D) (a b so : B) (x y w : (ℕ → Bool) → Bool) (made : D × B) → Has m d a x → Has m d b y → Has m d so w → equal_here c a b so d ≡ Some made → Answers m d made (λ v. same_here (x v) (y v) (w v))
  equal_answers d a b so x y w made h k l e =
      let i = into_made (differ_step c a b d) _ made e in
      let apart = differ_answers d a b x y i.0 h k i.1.0 in
      let n = c.negated i.0.0 i.0.1 in
      let no : Answers m i.0.0 n (λ v. not (differ (x v) (y v))) = negated_answers i.0.0 i.0.1 (λ v. differ (x v) (y v)) (made_has m d i.0 (λ v. differ (x v) (y v)) apart) in
      let to_n : Stays m d n.0 = stays_then m d i.0.0 n.0 apart.stays no.stays in
      let last = both_answers n.0 so n.1 w (λ v. not (differ (x v) (y v))) made (has_later m d n.0 so w to_n l) (made_has m i.0.0 n (λ v. not (differ (x v) (y v))) no) i.1.1 in
      answers_since m d n.0 made (λ v. same_here (x v) (y v) (w v)) (λ v. same_here (x v) (y v) (w v)) to_n (λ v. refl) last

  pub less_answers : (d : D) (a b so : B) (x y w : (ℕ → Bool) → Bool) (made : D × B) → Has m d a x → Has m d b y → Has m d so w → less_here c a b so d ≡ Some made → Answers m d made (λ v. below_here (x v) (y v) (w v))
  less_answers d a b so x y w made h k l e =
      let i = into_made (differ_step c a b d) _ made e in
      let apart = differ_answers d a b x y i.0 h k i.1.0 in
      let last = choose_answers i.0.0 i.0.1 b so (λ v. differ (x v) (y v)) y w made (made_has m d i.0 (λ v. differ (x v) (y v)) apart)
      (has_later m d i.0.0 b y apart.stays k) (has_later m d i.0.0 so w apart.stays l) i.1.1 in
      answers_since m d i.0.0 made (λ v. below_here (x v) (y v) (w v)) (λ v. below_here (x v) (y v) (w v)) apart.stays (λ v. refl) last

  -- a sum of two bits and a carry, and the next carry
  pub record Adds (before : D) (made : D × (B × B)) (sum carry : (ℕ → Bool) → Bool) : Type 0 where
    pub stays : Stays m before made.0
    pub bit : Has m made.0 made.1.0 sum
    pub next : Has m made.0 made.1.1 carry

  pub adder_answers : (d : D) (a b k : B) (x y w : (ℕ → Bool) → Bool) (made : D × (B × B)) → Has m d a x → Has m d b y → Has m d k w → adder_step c a b k d ≡ Some made →
      Adds d made (λ v. sum_bit (x v) (y v) (w v)) (λ v. next_carry (x v) (y v) (w v))
  adder_answers d a b k x y w made ha hb hk e =
      let i = into_made (differ_step c a b d) _ made e in
      let p = differ_answers d a b x y i.0 ha hb i.1.0 in
      let hp = made_has m d i.0 (λ v. differ (x v) (y v)) p in
      let d1 : D = i.0.0 in
      let ha1 = has_later m d d1 a x p.stays ha in
      let hb1 = has_later m d d1 b y p.stays hb in
      let hk1 = has_later m d d1 k w p.stays hk in
      let j = into_made (differ_step c i.0.1 k d1) _ made i.1.1 in
      let s = differ_answers d1 i.0.1 k (λ v. differ (x v) (y v)) w j.0 hp hk1 j.1.0 in
      let hs = made_has m d1 j.0 (λ v. sum_bit (x v) (y v) (w v)) s in
      let d2 : D = j.0.0 in
      let r = into_made (c.both d2 a b) _ made j.1.1 in
      let g = both_answers d2 a b x y r.0 (has_later m d1 d2 a x s.stays ha1) (has_later m d1 d2 b y s.stays hb1) r.1.0 in
      let hg = made_has m d2 r.0 (λ v. x v && y v) g in
      let d3 : D = r.0.0 in
      let to3 : Stays m d1 d3 = stays_then m d1 d2 d3 s.stays g.stays in
      let t = into_made (c.both d3 i.0.1 k) _ made r.1.1 in
      let q = both_answers d3 i.0.1 k (λ v. differ (x v) (y v)) w t.0 (has_later m d1 d3 i.0.1 (λ v. differ (x v) (y v)) to3 hp) (has_later m d1 d3 k w to3 hk1) t.1.0 in
      let hq = made_has m d3 t.0 (λ v. differ (x v) (y v) && w v) q in
      let d4 : D = t.0.0 in
      let u = into_made (either_step c r.0.1 t.0.1 d4) _ made t.1.1 in
      let o = either_answers d4 r.0.1 t.0.1 (λ v. x v && y v) (λ v. differ (x v) (y v) && w v) u.0 (has_later m d3 d4 r.0.1 (λ v. x v && y v) q.stays hg) hq u.1.0 in
      let ho = made_has m d4 u.0 (λ v. next_carry (x v) (y v) (w v)) o in
      let d5 : D = u.0.0 in
      let from2 : Stays m d2 d5 = stays_then m d2 d3 d5 g.stays (stays_then m d3 d4 d5 q.stays o.stays) in
      let from1 : Stays m d d5 = stays_then m d d1 d5 p.stays (stays_then m d1 d2 d5 s.stays from2) in
      let is : (d5, (j.0.1, u.0.1)) ≡ made = some_same (d5, (j.0.1, u.0.1)) made u.1.1 in
      subst (λ n. Adds d n (λ v. sum_bit (x v) (y v) (w v)) (λ v. next_carry (x v) (y v) (w v))) {x = (d5, (j.0.1, u.0.1))} is
      (record { stays = from1; bit = has_later m d2 d5 j.0.1 (λ v. sum_bit (x v) (y v) (w v)) from2 hs; next = ho })
