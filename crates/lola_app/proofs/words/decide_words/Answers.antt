use Rattle.std.proofs.Common.{◌≡◌, ap, ◌∙◌, sym, map, string_bytes, ◌∷◌, [], List, ℕ, codes}
use Rattle.std.proofs.lemmas.Slice.Eq.{bytes_eq-Decides}
use Rattle.lola_app.proofs.ThreeItems.{three_items}
use Rattle.lola_app.proofs.words.decide_words.Goals as goal

pub returns-then-eq : goal.returns-then-eq
returns-then-eq c =
    let whole = three_items _ _ _ _ c.in-len3.len_at_least c.in-len3.len_below c.command-item.is c.source-item.is c.table-item.is in
    let text : c.as_str.result.now ≡ codes "decide" = (bytes_eq-Decides _ _).0 (sym c.if-eq.ensures) in
    ap (map string_bytes) whole ∙ ap (λ (command : List ℕ). command ∷ string_bytes c.source-item.result ∷ string_bytes c.table-item.result ∷ []) (sym c.as_str.ensures.value ∙ text)
