use Rattle.std.proofs.Common.{ℕ, List, Some, ◌∙◌, ap}
use Rattle.std.specs.Prelude.{bytes_eq, if◌then◌else◌}
use Rattle.std.specs.BTreeMap.{get_by_text}
use Rattle.std.specs.String.{string_bytes}
use Rattle.std.proofs.lemmas.Map.Text.{btree_map_updates_text}
use Rattle.lola_elab.proofs.table.enter.Goals as goal

pub returns : goal.returns
returns g c = λ q.
    let e = btree_map_updates_text (string_bytes c.in_ok-text.text) c.args.names.now c.insert.new.self (Some c.args.item) c.in_ok-insert.ensures.updates q in
    e ∙ ap (λ (n : List ℕ). if bytes_eq n q then Some c.args.item else get_by_text c.args.names.now q) c.in_ok-text.ensures.ok
