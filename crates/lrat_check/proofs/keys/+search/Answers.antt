use Rattle.std.proofs.Common.{arith, ◌∙◌, ◌++◌, ◌∷◌, ◌-◌, ◌<◌, sym, ap, subst, List, ℕ, take, drop, length, slice_index_or}
use Rattle.lrat_check.specs.declared.keys.Entry.{Entry}
use Rattle.lrat_check.specs.Keys.{Rises, key_of}
use Rattle.lrat_check.proofs.KeysFound.{halves, rises_front, rises_back, key_here, key_before, key_behind, later_few}
use Rattle.lrat_check.proofs.keys.+search.Goals as goal

pub search-requires : goal.search-requires
search-requires t c =
    let d : Entry = record { id = 0; key = 0 } in
    let b = c.split_at.result.1.now in
    let w = halves c.args.entries.now c.split_at.result.0.now b _ d c.split_at.ensures.front c.split_at.ensures.back c.in-len1-up.len_at_least in
    let few : length c.split_at.result.0.now < length c.args.entries.now = omega (arith, c.split_at.ensures.front_len, c.split_at.ensures.back_len, c.in-len1-up.len_at_least) in
    let m = c.decreases in (
      omega (arith, few, m),
      rises_front c.args.low c.args.high c.split_at.result.0.now (take (length b - 1) (drop 1 b)) (slice_index_or b 0 d) (subst (λ (es : List Entry). Rises c.args.low es c.args.high) w c.requires.rises),
    )

pub search-requires-else-id-entry : goal.search-requires-else-id-entry
search-requires-else-id-entry t c =
    let d : Entry = record { id = 0; key = 0 } in
    let b = c.split_at.result.1.now in
    let w = halves c.args.entries.now c.split_at.result.0.now b _ d c.split_at.ensures.front c.split_at.ensures.back c.in-len1-up.len_at_least in
    let few : length (take (length b - 1) (drop 1 b)) < length c.args.entries.now =
    let l = later_few b c.in-len1-up.len_at_least in omega (arith, c.split_at.ensures.front_len, c.split_at.ensures.back_len, l) in
    let m = c.decreases in (
      omega (arith, few, m),
      rises_back c.args.low c.args.high c.split_at.result.0.now (take (length b - 1) (drop 1 b)) (slice_index_or b 0 d) (subst (λ (es : List Entry). Rises c.args.low es c.args.high) w c.requires.rises),
    )

pub returns-then-entry-id : goal.returns-then-entry-id
returns-then-entry-id t c =
    let d : Entry = record { id = 0; key = 0 } in
    let b = c.split_at.result.1.now in
    let e = slice_index_or b 0 d in
    let w = halves c.args.entries.now c.split_at.result.0.now b _ d c.split_at.ensures.front c.split_at.ensures.back c.in-len1-up.len_at_least in
    sym (ap (λ (es : List Entry). key_of es c.args.id) w ∙ ap (λ (n : ℕ). key_of (c.split_at.result.0.now ++ e ∷ take (length b - 1) (drop 1 b)) n) (sym c.if-entry-id.true)
    ∙ key_here c.args.low c.args.high c.split_at.result.0.now (take (length b - 1) (drop 1 b)) e (subst (λ (es : List Entry). Rises c.args.low es c.args.high) w c.requires.rises))

pub returns-then-id-entry : goal.returns-then-id-entry
returns-then-id-entry t c =
    let d : Entry = record { id = 0; key = 0 } in
    let b = c.split_at.result.1.now in
    let w = halves c.args.entries.now c.split_at.result.0.now b _ d c.split_at.ensures.front c.split_at.ensures.back c.in-len1-up.len_at_least in
    c.search.ensures ∙ sym (ap (λ (es : List Entry). key_of es c.args.id) w
    ∙ key_before c.args.low c.args.high c.args.id c.split_at.result.0.now (take (length b - 1) (drop 1 b)) (slice_index_or b 0 d) c.if-id-entry.true
    (subst (λ (es : List Entry). Rises c.args.low es c.args.high) w c.requires.rises))

pub returns-else-id-entry : goal.returns-else-id-entry
returns-else-id-entry t c =
    let d : Entry = record { id = 0; key = 0 } in
    let b = c.split_at.result.1.now in
    let w = halves c.args.entries.now c.split_at.result.0.now b _ d c.split_at.ensures.front c.split_at.ensures.back c.in-len1-up.len_at_least in
    let more : (slice_index_or b 0 d).id < c.args.id = omega (arith, c.if-entry-id.false, c.if-id-entry.false) in
    c.search-else-id-entry.ensures ∙ sym (ap (λ (es : List Entry). key_of es c.args.id) w
    ∙ key_behind c.args.low c.args.high c.args.id c.split_at.result.0.now (take (length b - 1) (drop 1 b)) (slice_index_or b 0 d) more
    (subst (λ (es : List Entry). Rises c.args.low es c.args.high) w c.requires.rises))
