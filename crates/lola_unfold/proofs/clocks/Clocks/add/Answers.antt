use Rattle.std.proofs.Common.{◌≡◌, ℕ, Bool, true, false, cond, ◌||◌, List, refl, ap, ◌∙◌, bytes_eq, string_bytes}
use Rattle.indexmap.specs.IndexSet.{contains_text}
use Rattle.std.proofs.lemmas.Map.Text.{hash_set_updates_text}
use Rattle.lola_unfold.proofs.clocks.Clocks.add.Goals as goal

or_is : (a b : Bool) → cond a true b ≡ (a || b)
or_is true b = refl
or_is false b = refl

pub returns : goal.returns
returns c =
    let bs = string_bytes c.in_ok-name.name in
    let e = λ (q : List ℕ). hash_set_updates_text bs c.args.self.now.names c.insert.new.self true c.in_ok-_is_new.ensures.updates q
    ∙ or_is (bytes_eq bs q) (contains_text c.args.self.now.names q)
    ∙ ap (λ (n : List ℕ). bytes_eq n q || contains_text c.args.self.now.names q) c.in_ok-name.ensures.ok in
    λ i q. e q i
