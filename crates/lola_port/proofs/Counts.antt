-- What follows for the counts of a store where the count of one name went one up.
use Rattle.std.proofs.Common.{◌≡◌, ◌≢◌, ◌≤◌, ℕ, List, ◌∙◌, arith}
use Rattle.lola_port.specs.Outside.{Counts, next_count, Same, RoseAt}

-- the count of the name rose, after counts that are as before
pub rises : (name : List ℕ) (before between now : Counts) → Same before between → now name ≡ next_count (between name) → between name ≤ now name
    → ((other : List ℕ) → other ≢ name → now other ≡ between other) → RoseAt name before now
rises name before between now same up above others =
    let kept : between name ≡ before name = same name in record {
      rose = λ below. omega arith;
      not_fallen = omega arith;
      others = λ other apart. others other apart ∙ same other;
    }
