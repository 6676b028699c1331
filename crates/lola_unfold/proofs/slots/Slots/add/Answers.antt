use Rattle.std.proofs.Common.{◌≡◌, ℕ, cond, List, Some, None, sym, ap, ◌∙◌, bytes_eq, string_bytes, rules}
use Rattle.lola_bits.proofs.Names.{is_same_name}
use Rattle.indexmap.specs.IndexMap.{get_by_text}
use Rattle.std.proofs.lemmas.Map.Text.{hash_map_updates_text}
use Rattle.lola_unfold.specs.Slots.{first_slot}
use Rattle.lola_unfold.proofs.Tables.{slot_added}
use Rattle.lola_unfold.proofs.slots.Slots.add.Goals as goal

pub returns-in_ok-insert : goal.returns-in_ok-insert
returns-in_ok-insert c =
    let bs = string_bytes c.in_ok-name.name in
    let absent : get_by_text c.args.self.now.entries c.args.name.now ≡ None = search (rules, c.is_none.ensures, c.get.ensures.value, c.if-is_none.true) in
    let e = λ (q : List ℕ). hash_map_updates_text bs c.args.self.now.entries c.insert.new.self (Some c.args.slot) c.in_ok-insert.ensures.updates q
    ∙ slot_added (bytes_eq bs q) (get_by_text c.args.self.now.entries q) c.args.slot (λ same. ap (get_by_text c.args.self.now.entries) (sym (is_same_name bs q same) ∙ c.in_ok-name.ensures.ok) ∙ absent)
    ∙ ap (λ (n : List ℕ). first_slot (get_by_text c.args.self.now.entries q) (cond (bytes_eq n q) (Some c.args.slot) None)) c.in_ok-name.ensures.ok in
    λ i q. e q i
