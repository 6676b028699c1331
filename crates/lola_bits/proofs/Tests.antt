-- Tests, and what is chosen by them.
use Rattle.std.proofs.Common.{◌≡◌, Bool, true, false, cond, ◌||◌, [], ◌∷◌, Some, None, refl}

-- no test passes and fails
pub not_both : {T : Type 0} {b : Bool} → b ≡ true → b ≡ false → T
not_both e f = absurd (cc)

-- neither of two holds
pub or_neither : (a b : Bool) → (a || b) ≡ false → (a ≡ false) × (b ≡ false)
or_neither true b e = absurd (cc)
or_neither false b e = (refl, e)

-- something or nothing by a test
pub chosen : {X : Type 0} (b : Bool) (x y : X) → cond b (Some x) None ≡ Some y → (b ≡ true) × (x ≡ y)
chosen true x y e = (refl, let f : Some x ≡ Some y = e in cc)
chosen false x y e = absurd (let f : None ≡ Some y = e in cc)

pub chosen_yes : {X : Type 0} (b : Bool) (x : X) → b ≡ true → cond b (Some x) None ≡ Some x
chosen_yes b x e = rw e refl

-- one item or none by a test
pub none_unless : {X : Type 0} (b : Bool) (x : X) → cond b [] (x ∷ []) ≡ [] → b ≡ true
none_unless true x e = refl
none_unless false x e = absurd (cc)

pub none_where : {X : Type 0} (b : Bool) (x : X) → cond b (x ∷ []) [] ≡ [] → b ≡ false
none_where false x e = refl
none_where true x e = absurd (cc)
