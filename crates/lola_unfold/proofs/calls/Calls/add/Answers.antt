use Rattle.std.proofs.Common.{◌≡◌, ℕ, cond, List, Some, None, sym, ap, ◌∙◌, bytes_eq, string_bytes, map, rules}
use Rattle.lola_bits.proofs.Names.{is_same_name}
use Rattle.indexmap.specs.IndexMap.{get_by_text}
use Rattle.std.proofs.lemmas.Map.Text.{hash_map_updates_text}
use Rattle.lola_tree.specs.Tree.{actual_tree}
use Rattle.lola_unfold.specs.Tables.{first_call, some_args}
use Rattle.lola_unfold.proofs.Tables.{call_added}
use Rattle.lola_unfold.proofs.calls.Calls.add.Goals as goal

pub returns-in_ok-insert : goal.returns-in_ok-insert
returns-in_ok-insert c =
    let bs = string_bytes c.in_ok-name.name in
    let absent : get_by_text c.args.self.now.entries c.args.name.now ≡ None = search (rules, c.is_none.ensures, c.get.ensures.value, c.if-is_none.true) in
    let e = λ (q : List ℕ). ap some_args (hash_map_updates_text bs c.args.self.now.entries c.insert.new.self (Some c.args.args) c.in_ok-insert.ensures.updates q)
    ∙ call_added (bytes_eq bs q) (get_by_text c.args.self.now.entries q) c.args.args (λ same. ap (get_by_text c.args.self.now.entries) (sym (is_same_name bs q same) ∙ c.in_ok-name.ensures.ok) ∙ absent)
    ∙ ap (λ (n : List ℕ). first_call (some_args (get_by_text c.args.self.now.entries q)) (cond (bytes_eq n q) (Some (map actual_tree c.args.args.now)) None)) c.in_ok-name.ensures.ok in
    λ i q. e q i
