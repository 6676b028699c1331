-- The algebra over bool keeps the law.
use Rattle.std.specs.Prelude.{◌≡◌, ℕ, Bool, true, not, ◌&&◌, Some, refl}
use Rattle.lola_alg.specs.Algebra.{Calls, Meaning, Answers, IsAlgebra}

abbrev pub plain_calls : Calls (Unit {0}) Bool
plain_calls = record { constant = λ d b. (d, b); negated = λ d a. (d, not a); both = λ d a b. Some (d, a && b) }

abbrev pub plain_meaning : Meaning (Unit {0}) Bool
plain_meaning = record { knows = λ d b. true; value = λ d v b. b }

same : (made : Unit {0} × Bool) → Answers plain_meaning tt made (λ v. made.1)
same made = record { stays = λ b known. (refl, λ v. refl); known = refl; means = λ v. refl }

the_made : (a b : Bool) (made : Unit {0} × Bool) → ◌≡◌ {A = Rattle.std.specs.Prelude.Option (Unit {0} × Bool)} (Some (tt, a && b)) (Some made) → Answers plain_meaning tt made (λ v. a && b)
the_made a b made e = record { stays = λ c known. (refl, λ v. refl); known = refl; means = λ v. cc }

pub plain_law : IsAlgebra plain_calls plain_meaning
plain_law = record {
  constant = λ d b. same (d, b);
  negated = λ d a known. same (d, not a);
  both = λ d a b made ka kb e. the_made a b made e;
}
