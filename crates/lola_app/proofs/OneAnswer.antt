-- Two texts lead to one answer of `decide`.
use Rattle.std.proofs.Common.{◌≡◌, ℕ, ◌+◌, ◌<◌, ◌≤◌, List, [], ◌∷◌, ◌++◌, length, refl, sym, ap, ap₂, ◌∙◌, subst, arith, inl, inr, ◌⊎◌, length-append}
use Rattle.std.specs.List.{AllByRecursion}
use Rattle.std.proofs.lemmas.Bool.{cases_lt}
use Rattle.std.proofs.lemmas.List.{length-map}
use Rattle.lola_tree.specs.Tree.{SourceTree}
use Rattle.lola_tree.specs.Signals.{values_of, root_registers}
use Rattle.lola_parse.specs.declared.symbol.Language.TheVariants.{Table}
use Rattle.lola_parse.specs.Symbols.{Item, items_of}
use Rattle.small_tree.specs.Table.{TableTree}
use Rattle.small_tree.specs.Step.{inside_classes}
use Rattle.small_read.specs.Grammar.{SpellsTable}
use Rattle.lola_app.specs.declared.fault.SourceRefusal.{SourceRefusal}
use Rattle.lola_app.specs.Accepts.{Accepts, IsSpelled, AcceptsTable}
use Rattle.lola_app.specs.Decided.{IsYes, IsNo, IsLimited, IsTableRefused, IsDecided, IsUnsettled, Passes, decide_stage}
use Rattle.lola_app.specs.DecideReply.{DecideOutcome, refused, table_not_built, too_many_bits, accepted, failed}
use Rattle.lola_app.specs.Obligations.{Obligation, cover, reset, ends, obligations, obligation_name, Valuation, HoldsAt, IsViolatedAt, HoldsAlways, free_inputs, free_names, free_values, free_widths, free_bits, IsNarrow, ComesBefore, IsLeastViolation}
use Rattle.lola_app.specs.Refused.{IsUngrammatical, refusal_stage}
use Rattle.lola_app.specs.Stages.{Stage, words, reading, scanning, grammar, sizes, forms, table, limits, verdict, IsReached}
use Rattle.lola_app.specs.Values.{Line, lines_of}
use Rattle.lola_app.proofs.OneRefusal.{OneReadingLaw, OneTreeLaw, BuiltLaw, one_source, RefusedAt, refused_at, no_tokens, no_source, no_sizes, no_form, one_refusal}
use Rattle.lola_app.proofs.Readings.{table_of}
use Rattle.lola_app.proofs.Stages.{reached_first, reached_next, one_of_all}

-- the law that one table stands on
abbrev pub OneTableLaw : Type 0
OneTableLaw = (all : List Item) (T U : TableTree) → SpellsTable all T → SpellsTable all U → T ≡ U

pub one_table : OneReadingLaw → OneTableLaw → (bytes : List ℕ) (T U : TableTree) → IsSpelled bytes T → IsSpelled bytes U → T ≡ U
one_table reads tables bytes T U t u = tables (items_of Table bytes u.tokens) T U (table_of bytes u.tokens T (reads bytes) u.spells t) u.table

-- an obligation isn't both kept and violated
pub not_both : (S : SourceTree) (T : TableTree) (o : Obligation) (w : Valuation) → HoldsAt S T o w → IsViolatedAt S T o w → ⊥
not_both S T cover w holds violated = violated holds.0 holds.1
not_both S T (reset goal) w holds (v, (s', cycle, next, off)) = off (holds v s' cycle next)
not_both S T (ends c phase goal) w holds (v, (s', cycle, next, premises, off)) = off (holds v s' cycle next premises)

-- where all can be tried, each can
narrow_in : (S : SourceTree) (T : TableTree) (before later : List Obligation) (o : Obligation) → AllByRecursion (IsNarrow S T) (before ++ o ∷ later) → IsNarrow S T o
narrow_in S T [] later o all = all.0
narrow_in S T (x ∷ before) later o all = narrow_in S T before later o all.1

-- the first that can't is one
first_wide_is_one : (S : SourceTree) (T : TableTree) (before before' later later' : List Obligation) (o p : Obligation) → before ++ o ∷ later ≡ before' ++ p ∷ later' →
    AllByRecursion (IsNarrow S T) before → AllByRecursion (IsNarrow S T) before' → 16 < free_bits S T o → 16 < free_bits S T p → o ≡ p
first_wide_is_one S T [] [] later later' o p e all all' wide wide' = cc
first_wide_is_one S T [] (y ∷ before') later later' o p e all all' wide wide' =
    let same : o ≡ y = cc in
    let narrow : free_bits S T o ≤ 16 = subst (IsNarrow S T) (sym same) all'.0 in
    absurd (omega (arith, wide, narrow))
first_wide_is_one S T (x ∷ before) [] later later' o p e all all' wide wide' =
    let same : x ≡ p = cc in
    let narrow : free_bits S T p ≤ 16 = subst (IsNarrow S T) same all.0 in
    absurd (omega (arith, wide', narrow))
first_wide_is_one S T (x ∷ before) (y ∷ before') later later' o p e all all' wide wide' =
    let tail : before ++ o ∷ later ≡ before' ++ p ∷ later' = cc in
    first_wide_is_one S T before before' later later' o p tail all.1 all'.1 wide wide'

-- so where all hold none is violated
holds_in : (S : SourceTree) (T : TableTree) (before later : List Obligation) (o : Obligation) → AllByRecursion (HoldsAlways S T) (before ++ o ∷ later) → HoldsAlways S T o
holds_in S T [] later o all = all.0
holds_in S T (x ∷ before) later o all = holds_in S T before later o all.1

-- the first that is violated is one
first_is_one : (S : SourceTree) (T : TableTree) (before before' later later' : List Obligation) (o p : Obligation) (w u : Valuation) → before ++ o ∷ later ≡ before' ++ p ∷ later' →
    AllByRecursion (HoldsAlways S T) before → AllByRecursion (HoldsAlways S T) before' → IsLeastViolation S T o w → IsLeastViolation S T p u → o ≡ p
first_is_one S T [] [] later later' o p w u e all all' least least' = cc
first_is_one S T [] (y ∷ before') later later' o p w u e all all' least least' =
    let same : o ≡ y = cc in
    absurd (not_both S T o w (subst (HoldsAlways S T) (sym same) all'.0 w least.suits) least.violated)
first_is_one S T (x ∷ before) [] later later' o p w u e all all' least least' =
    let same : x ≡ p = cc in
    absurd (not_both S T p u (subst (HoldsAlways S T) same all.0 u least'.suits) least'.violated)
first_is_one S T (x ∷ before) (y ∷ before') later later' o p w u e all all' least least' =
    let tail : before ++ o ∷ later ≡ before' ++ p ∷ later' = cc in
    first_is_one S T before before' later later' o p w u tail all.1 all'.1 least least'

-- of two lists of one length the same, or one before the other
compared : (xs ys : List ℕ) → length xs ≡ length ys → (xs ≡ ys) ⊎ ComesBefore xs ys ⊎ ComesBefore ys xs
compared [] [] long = inl refl
compared [] (y ∷ ys) long = absurd (omega arith)
compared (x ∷ xs) [] long = absurd (omega arith)
compared (x ∷ xs) (y ∷ ys) long = heads (cases_lt x y) (cases_lt y x) (compared xs ys (omega arith))
  where
    heads : ((x < y) ⊎ (y ≤ x)) → ((y < x) ⊎ (x ≤ y)) → ((xs ≡ ys) ⊎ ComesBefore xs ys ⊎ ComesBefore ys xs) → (x ∷ xs ≡ y ∷ ys) ⊎ ComesBefore (x ∷ xs) (y ∷ ys) ⊎ ComesBefore (y ∷ ys) (x ∷ xs)
    heads (inl less) other tail = inr (inl (inl less))
    heads (inr more) (inl less) tail = inr (inr (inl less))
    heads (inr more) (inr most) tail =
        let same : x ≡ y = omega arith in
        elim tail [
          | inl tails ↦ inl (ap₂ (λ (n : ℕ) (ns : List ℕ). n ∷ ns) same tails)
          | inr (inl before) ↦ inr (inl (inr (same, before)))
          | inr (inr behind) ↦ inr (inr (inr (sym same, behind)))
        ]

parts_long : (S : SourceTree) (T : TableTree) (w : Valuation) → length (values_of w.input (free_inputs S T) ++ values_of w.state (root_registers S.modules)) ≡ length (free_inputs S T ++ root_registers S.modules)
parts_long S T w =
    length-append (values_of w.input (free_inputs S T)) (values_of w.state (root_registers S.modules))
    ∙ ap₂ (λ m n. m + n) (length-map (free_inputs S T) (λ (name : List ℕ). w.input (name ∷ []) 0)) (length-map (root_registers S.modules) (λ (name : List ℕ). w.state (name ∷ []) 0))
    ∙ sym (length-append (free_inputs S T) (root_registers S.modules))

values_long : (S : SourceTree) (T : TableTree) (o : Obligation) (w u : Valuation) → length (free_values S T o w) ≡ length (free_values S T o u)
values_long S T cover w u = refl
values_long S T (reset goal) w u = parts_long S T w ∙ sym (parts_long S T u)
values_long S T (ends c phase goal) w u = parts_long S T w ∙ sym (parts_long S T u)

-- the values at which it is violated first are one list
least_is_one : (S : SourceTree) (T : TableTree) (o : Obligation) (w u : Valuation) → IsLeastViolation S T o w → IsLeastViolation S T o u → free_values S T o w ≡ free_values S T o u
least_is_one S T o w u least least' = elim (compared (free_values S T o w) (free_values S T o u) (values_long S T o w u)) [
  | inl same ↦ same
  | inr (inl before) ↦ absurd (not_both S T o w (least'.least w least.suits before) least.violated)
  | inr (inr behind) ↦ absurd (not_both S T o u (least.least u least'.suits behind) least'.violated)
]

-- what comes at each stage, and why
abbrev pub ComesAt : List ℕ → List ℕ → Stage → DecideOutcome → Type 0
ComesAt s t words a = ⊥
ComesAt s t reading a = ⊥
ComesAt s t scanning a = (r : SourceRefusal) × (RefusedAt s scanning r × (a ≡ refused r))
ComesAt s t grammar a = (r : SourceRefusal) × (RefusedAt s grammar r × (a ≡ refused r))
ComesAt s t sizes a = (r : SourceRefusal) × (RefusedAt s sizes r × (a ≡ refused r))
ComesAt s t forms a = (r : SourceRefusal) × (RefusedAt s forms r × (a ≡ refused r))
ComesAt s t table a = IsTableRefused s t × (a ≡ table_not_built)
ComesAt s t limits a = (name : List ℕ) × ((count : ℕ) × (IsLimited s t name count × (a ≡ too_many_bits name count)))
ComesAt s t verdict a = ((m : ℕ) × ((k : ℕ) × (IsYes s t m k × (a ≡ accepted m k)))) ⊎ ((name : List ℕ) × ((lines : List Line) × (IsNo s t name lines × (a ≡ failed name lines))))

-- a refusal of the design's text, as an outcome
of_refusal : (s t : List ℕ) (k : Stage) (r : SourceRefusal) → RefusedAt s k r → ComesAt s t k (refused r)
of_refusal s t words r is = absurd is
of_refusal s t reading r is = absurd is
of_refusal s t scanning r is = (r, (is, refl))
of_refusal s t grammar r is = (r, (is, refl))
of_refusal s t sizes r is = (r, (is, refl))
of_refusal s t forms r is = (r, (is, refl))
of_refusal s t table r is = absurd is
of_refusal s t limits r is = absurd is
of_refusal s t verdict r is = absurd is

-- each outcome comes at its stage
pub comes_at : (s t : List ℕ) (a : DecideOutcome) → IsDecided s t a → ComesAt s t (decide_stage a) a
comes_at s t (refused r) is = of_refusal s t (refusal_stage r) r (refused_at s r is)
comes_at s t table_not_built is = (is, refl)
comes_at s t (too_many_bits name count) is = (name, (count, (is, refl)))
comes_at s t (accepted m k) is = inl (m, (k, (is, refl)))
comes_at s t (failed name lines) is = inr (name, (lines, (is, refl)))

-- two refusals as outcomes
same_refusal : (a b : DecideOutcome) (r q : SourceRefusal) → a ≡ refused r → b ≡ refused q → (r ≡ q) ⊎ (IsUngrammatical r × IsUngrammatical q) → (a ≡ b) ⊎ (IsUnsettled a × IsUnsettled b)
same_refusal a b r q is is' (inl same) = inl (is ∙ ap refused same ∙ sym is')
same_refusal a b r q is is' (inr both) = inr (subst IsUnsettled (sym is) both.0, subst IsUnsettled (sym is') both.1)

-- which stages are reached
module _ (s t : List ℕ) where
  at_scanning : IsReached (Passes s t) scanning
  at_scanning = reached_next (Passes s t) reading scanning refl (reached_next (Passes s t) words reading refl (reached_first (Passes s t)) tt) tt

  at_grammar : Passes s t scanning → IsReached (Passes s t) grammar
  at_grammar passes = reached_next (Passes s t) scanning grammar refl at_scanning passes

  at_sizes : Passes s t grammar → IsReached (Passes s t) sizes
  at_sizes (S, made) = reached_next (Passes s t) grammar sizes refl (at_grammar (made.tokens, made.spells)) (S, made)

  at_forms : Passes s t sizes → IsReached (Passes s t) forms
  at_forms (S, (made, sized)) = reached_next (Passes s t) sizes forms refl (at_sizes (S, made)) (S, (made, sized))

  at_table : Passes s t forms → IsReached (Passes s t) table
  at_table (S, accepts) =
      reached_next (Passes s t) forms table refl (at_forms (S, (record { tokens = accepts.tokens; spells = accepts.spells; spelled = accepts.source }, accepts.sized))) (S, accepts)

  at_limits : Passes s t table → IsReached (Passes s t) limits
  at_limits (S, (T, both)) = reached_next (Passes s t) table limits refl (at_table (S, both.0)) (S, (T, both))

  at_verdict : Passes s t limits → IsReached (Passes s t) verdict
  at_verdict (S, (T, all)) = reached_next (Passes s t) limits verdict refl (at_limits (S, (T, (all.0, all.1)))) (S, (T, all))

  pub is_reached : (k : Stage) (a : DecideOutcome) → ComesAt s t k a → IsReached (Passes s t) k
  is_reached words a comes = absurd comes
  is_reached reading a comes = absurd comes
  is_reached scanning a comes = at_scanning
  is_reached grammar a (r, (none, is)) = at_grammar (none.0.tokens, none.0.spells)
  is_reached sizes a (r, ((error, (has, why)), is)) = at_sizes (has.S, record { tokens = has.tokens; spells = has.spells; spelled = has.spelled })
  is_reached forms a (r, ((outside, why), is)) =
      at_forms (outside.S, (record { tokens = outside.tokens; spells = outside.spells; spelled = outside.spelled }, outside.sized))
  is_reached table a (none, is) = at_table (none.S, none.design)
  is_reached limits a (name, (count, (limited, is))) = at_limits (limited.S, (limited.T, (limited.design, limited.fitting)))
  is_reached verdict a (inl (m, (k, (holds, is)))) =
      at_verdict (holds.headline.S, (holds.headline.T, (holds.headline.design, holds.headline.fitting, holds.narrow)))
  is_reached verdict a (inr (name, (lines, (fails, is)))) = at_verdict (fails.S, (fails.T, (fails.design, fails.fitting, fails.narrow)))

module _ (reads : OneReadingLaw) (tree : OneTreeLaw) (tables : OneTableLaw) (built : BuiltLaw) (s t : List ℕ) where
  same_pair : (S R : SourceTree) (T U : TableTree) → Accepts s S → Accepts s R → AcceptsTable S t T → AcceptsTable R t U → (S ≡ R) × (T ≡ U)
  same_pair S R T U one two three four = (one_source reads tree s S R one two, one_table reads tables t T U three.spelled four.spelled)

  two_yes : (m n k l : ℕ) → IsYes s t m k → IsYes s t n l → accepted m k ≡ accepted n l
  two_yes m n k l one two =
      let same = same_pair one.headline.S two.headline.S one.headline.T two.headline.T one.headline.design two.headline.design one.headline.fitting two.headline.fitting in
      ap₂ accepted (one.obliged_is ∙ ap (λ (T : TableTree). length (obligations T)) same.1 ∙ sym two.obliged_is) (one.inside_is ∙ ap (λ (T : TableTree). length (inside_classes T)) same.1 ∙ sym two.inside_is)

  yes_and_no : (m k : ℕ) (name : List ℕ) (lines : List Line) → IsYes s t m k → IsNo s t name lines → ⊥
  yes_and_no m k name lines one two =
      let same = same_pair two.S one.headline.S two.T one.headline.T two.design one.headline.design two.fitting one.headline.fitting in
      let all : AllByRecursion (HoldsAlways two.S two.T) (obligations two.T) =
      subst (λ (S : SourceTree). AllByRecursion (HoldsAlways S two.T) (obligations two.T)) (sym same.0)
      (subst (λ (T : TableTree). AllByRecursion (HoldsAlways one.headline.S T) (obligations T)) (sym same.1) one.all.each) in
      let split = subst (AllByRecursion (HoldsAlways two.S two.T)) two.listed all in
      not_both two.S two.T two.first two.valuation (holds_in two.S two.T two.before two.later two.first split two.valuation two.least.suits) two.least.violated

  two_no : (m n : List ℕ) (k l : List Line) → IsNo s t m k → IsNo s t n l → failed m k ≡ failed n l
  two_no m n k l one two = go one.S one.T refl refl
    where
      -- the second over the first's design and table
      go : (S : SourceTree) (T : TableTree) → one.S ≡ S → one.T ≡ T → failed m k ≡ failed n l
      go S T eS eT =
          let same = same_pair two.S one.S two.T one.T two.design one.design two.fitting one.fitting in
          let listed : obligations one.T ≡ two.before ++ two.first ∷ two.later = ap obligations (sym same.1) ∙ two.listed in
          let earlier = subst (λ (R : SourceTree). AllByRecursion (HoldsAlways R one.T) two.before) same.0 (subst (λ (U : TableTree). AllByRecursion (HoldsAlways two.S U) two.before) same.1 two.earlier) in
          let least = subst (λ (R : SourceTree). IsLeastViolation R one.T two.first two.valuation) same.0 (subst (λ (U : TableTree). IsLeastViolation two.S U two.first two.valuation) same.1 two.least) in
          let lines : l ≡ lines_of (free_names one.S one.T two.first) (free_widths one.S one.T two.first) (free_values one.S one.T two.first two.valuation) =
          two.lines_are ∙ ap₂ (λ (R : SourceTree) (U : TableTree). lines_of (free_names R U two.first) (free_widths R U two.first) (free_values R U two.first two.valuation)) same.0 same.1 in
          let first : one.first ≡ two.first = first_is_one one.S one.T one.before two.before one.later two.later one.first two.first one.valuation two.valuation (sym one.listed ∙ listed) one.earlier earlier one.least least in
          let least' = subst (λ (o : Obligation). IsLeastViolation one.S one.T o two.valuation) (sym first) least in
          let values = least_is_one one.S one.T one.first one.valuation two.valuation one.least least' in
          ap₂ failed (one.name_is ∙ ap obligation_name first ∙ sym two.name_is)
          (one.lines_are ∙ ap (λ (ns : List ℕ). lines_of (free_names one.S one.T one.first) (free_widths one.S one.T one.first) ns) values
          ∙ ap (λ (o : Obligation). lines_of (free_names one.S one.T o) (free_widths one.S one.T o) (free_values one.S one.T o two.valuation)) first ∙ sym lines)

  -- where one obligation is too wide, not all can be tried
  never_wide : (S : SourceTree) (T : TableTree) (n : List ℕ) (c : ℕ) → Accepts s S → AcceptsTable S t T → AllByRecursion (IsNarrow S T) (obligations T) → IsLimited s t n c → ⊥
  never_wide S T n c design fitting all two =
      let same = same_pair S two.S T two.T design two.design fitting two.fitting in
      let there : AllByRecursion (IsNarrow two.S two.T) (obligations two.T) =
      subst (λ (R : SourceTree). AllByRecursion (IsNarrow R two.T) (obligations two.T)) same.0 (subst (λ (U : TableTree). AllByRecursion (IsNarrow S U) (obligations U)) same.1 all) in
      let narrow : free_bits two.S two.T two.first ≤ 16 = narrow_in two.S two.T two.before two.later two.first (subst (AllByRecursion (IsNarrow two.S two.T)) two.listed there) in
      let wide : 16 < free_bits two.S two.T two.first = two.wide in
      omega (arith, narrow, wide)

  two_limited : (m n : List ℕ) (k l : ℕ) → IsLimited s t m k → IsLimited s t n l → too_many_bits m k ≡ too_many_bits n l
  two_limited m n k l one two =
      let same = same_pair two.S one.S two.T one.T two.design one.design two.fitting one.fitting in
      let listed : obligations one.T ≡ two.before ++ two.first ∷ two.later = ap obligations (sym same.1) ∙ two.listed in
      let earlier = subst (λ (R : SourceTree). AllByRecursion (IsNarrow R one.T) two.before) same.0 (subst (λ (U : TableTree). AllByRecursion (IsNarrow two.S U) two.before) same.1 two.earlier) in
      let bits : free_bits two.S two.T two.first ≡ free_bits one.S one.T two.first = ap₂ (λ (R : SourceTree) (U : TableTree). free_bits R U two.first) same.0 same.1 in
      let wide = subst (λ (b : ℕ). 16 < b) bits two.wide in
      let first : one.first ≡ two.first = first_wide_is_one one.S one.T one.before two.before one.later two.later one.first two.first (sym one.listed ∙ listed) one.earlier earlier one.wide wide in
      ap₂ too_many_bits (one.name_is ∙ ap obligation_name first ∙ sym two.name_is) (one.count_is ∙ ap (free_bits one.S one.T) first ∙ sym bits ∙ sym two.count_is)

  refused_none : {S : SourceTree} {T : TableTree} → IsTableRefused s t → Accepts s S → AcceptsTable S t T → ⊥
  refused_none {S = S} {T = T} none design fitting =
      none.none T (subst (λ (R : SourceTree). AcceptsTable R t T) (one_source reads tree s S none.S design none.design) fitting)

  -- what comes at a stage comes only where that isn't passed
  pub stops : (k : Stage) (a : DecideOutcome) → ComesAt s t k a → Passes s t k → ⊥
  stops words a comes passes = comes
  stops reading a comes passes = comes
  stops scanning a (r, (why, is)) (tokens, spells) = no_tokens reads tree built s r why tokens spells
  stops grammar a (r, (why, is)) (S, made) = no_source reads tree built s r why S made
  stops sizes a (r, (why, is)) (S, (made, sized)) = no_sizes reads tree built s r why S made sized
  stops forms a (r, (why, is)) (S, accepts) = no_form reads tree built s r why S accepts
  stops table a (none, is) (S, (T, both)) = refused_none none both.0 both.1
  stops limits a (name, (count, (limited, is))) (S, (T, all)) = never_wide S T name count all.0 all.1 all.2 limited
  stops verdict a comes passes = passes

  -- what comes at one stage is one
  one_at : (k : Stage) (a b : DecideOutcome) → ComesAt s t k a → ComesAt s t k b → (a ≡ b) ⊎ (IsUnsettled a × IsUnsettled b)
  one_at words a b p q = absurd p
  one_at reading a b p q = absurd p
  one_at scanning a b (r, (why, is)) (q, (why', is')) = same_refusal a b r q is is' (one_refusal reads tree built s scanning r q why why')
  one_at grammar a b (r, (why, is)) (q, (why', is')) = same_refusal a b r q is is' (one_refusal reads tree built s grammar r q why why')
  one_at sizes a b (r, (why, is)) (q, (why', is')) = same_refusal a b r q is is' (one_refusal reads tree built s sizes r q why why')
  one_at forms a b (r, (why, is)) (q, (why', is')) = same_refusal a b r q is is' (one_refusal reads tree built s forms r q why why')
  one_at table a b (none, is) (other, is') = inl (is ∙ sym is')
  one_at limits a b (m, (k, (limited, is))) (n, (l, (other, is'))) = inl (is ∙ two_limited m n k l limited other ∙ sym is')
  one_at verdict a b (inl (m, (k, (holds, is)))) (inl (n, (l, (other, is')))) = inl (is ∙ two_yes m n k l holds other ∙ sym is')
  one_at verdict a b (inl (m, (k, (holds, is)))) (inr (n, (l, (fails, is')))) = absurd (yes_and_no m k n l holds fails)
  one_at verdict a b (inr (m, (k, (fails, is)))) (inl (n, (l, (holds, is')))) = absurd (yes_and_no n l m k holds fails)
  one_at verdict a b (inr (m, (k, (fails, is)))) (inr (n, (l, (other, is')))) = inl (is ∙ two_no m n k l fails other ∙ sym is')

  pub one_answer_is : (a b : DecideOutcome) → IsDecided s t a → IsDecided s t b → (a ≡ b) ⊎ (IsUnsettled a × IsUnsettled b)
  one_answer_is a b p q =
      one_of_all (Passes s t) (ComesAt s t) (λ (a b : DecideOutcome). (a ≡ b) ⊎ (IsUnsettled a × IsUnsettled b)) (is_reached s t) stops one_at (decide_stage a) (decide_stage b) a b (comes_at s t a p) (comes_at s t b q)
