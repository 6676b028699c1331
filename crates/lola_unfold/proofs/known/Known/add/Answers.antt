use Rattle.std.proofs.Common.{ℕ, cond, List, Some, ap, ◌∙◌, bytes_eq, string_bytes}
use Rattle.indexmap.specs.IndexMap.{get_by_text}
use Rattle.std.proofs.lemmas.Map.Text.{hash_map_updates_text}
use Rattle.lola_unfold.proofs.known.Known.add.Goals as goal

pub returns : goal.returns
returns c = λ q.
    hash_map_updates_text (string_bytes c.in_ok-name.name) c.args.self.now.entries c.insert.new.self (Some c.args.outline) c.in_ok-insert.ensures.updates q
    ∙ ap (λ (n : List ℕ). cond (bytes_eq n q) (Some c.args.outline) (get_by_text c.args.self.now.entries q)) c.in_ok-name.ensures.ok
