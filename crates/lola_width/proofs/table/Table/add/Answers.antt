use Rattle.std.proofs.Common.{◌≡◌, ℕ, true, cond, List, Some, None, sym, ap, ◌∙◌, bytes_eq, string_bytes}
use Rattle.lola_bits.proofs.Names.{is_same_name}
use Rattle.indexmap.specs.IndexMap.{get_by_text}
use Rattle.std.proofs.lemmas.Map.Text.{hash_map_updates_text}
use Rattle.lola_tree.specs.Names.{earlier}
use Rattle.lola_width.specs.NameFaults.{comes_first}
use Rattle.lola_width.specs.Table.{entry_of, some_entry}
use Rattle.lola_width.proofs.Naming.{entry_added}
use Rattle.lola_width.proofs.table.Table.add.Goals as goal

pub returns-in_ok-insert : goal.returns-in_ok-insert
returns-in_ok-insert c =
    let bs = string_bytes c.in_ok-name.name in
    let earliest : comes_first (entry_of c.args.declared) (some_entry (get_by_text c.args.self.now.entries c.args.name.now)) ≡ true =
    ap (comes_first (entry_of c.args.declared)) (sym c.find.ensures) ∙ sym c.is_earlier.ensures ∙ c.if-is_earlier.true in
    let e = λ (q : List ℕ). ap some_entry (hash_map_updates_text bs c.args.self.now.entries c.insert.new.self (Some c.args.declared) c.in_ok-insert.ensures.updates q)
    ∙ entry_added (bytes_eq bs q) (get_by_text c.args.self.now.entries q) c.args.declared
    (λ same. ap (λ (n : List ℕ). comes_first (entry_of c.args.declared) (some_entry (get_by_text c.args.self.now.entries n))) (sym (is_same_name bs q same) ∙ c.in_ok-name.ensures.ok) ∙ earliest)
    ∙ ap (λ (n : List ℕ). earlier (some_entry (get_by_text c.args.self.now.entries q)) (cond (bytes_eq n q) (Some (entry_of c.args.declared)) None)) c.in_ok-name.ensures.ok in
    λ i q. e q i
