-- A call over files that the store tells has one outcome.
use Rattle.std.proofs.Common.{◌≡◌, ◌≢◌, ℕ, ◌-◌, ◌^◌, ◌<◌, ◌≤◌, true, false, List, [], ◌∷◌, length, refl, sym, ap, ◌∙◌, subst, arith, inl, inr, ◌⊎◌, Some, codes}
use Rattle.std.specs.Prelude.{Option, IsSomeAnd, bytes_eq}
use Rattle.std.proofs.lemmas.Bool.{cases_Bool}
use Rattle.std.proofs.lemmas.Slice.Eq.{bytes_eq-Decides}
use Rattle.lola_port.specs.Outside.{Files, Counts, lookup, RoseAt, Same}
use Rattle.lola_app.specs.Decided.{text_limit, IsDecided}
use Rattle.lola_app.specs.DecideReply.{DecideOutcome}
use Rattle.lola_app.specs.Reply.{Outcome, wrong_words, unread, too_long, no_memory, of_decide}
use Rattle.lola_app.specs.Serve.{Decide, IsText, IsTooLong, Asked, AskedFor, IsAnswer, Due, AreOne}
use Rattle.lola_app.specs.Stages.{Stage, words, reading, scanning, grammar, sizes, forms, table, limits, verdict, IsReached}
use Rattle.lola_app.proofs.OneAnswer.{OneTableLaw, one_answer_is}
use Rattle.lola_app.proofs.OneRefusal.{OneReadingLaw, OneTreeLaw, BuiltLaw}
use Rattle.lola_app.proofs.Stages.{reached_first, reached_next, one_of_all}

-- words are `decide` and one pair of names
same_names : (said : List (List ℕ)) (s s' t t' : List ℕ) → Decide said s t → Decide said s' t' → (s ≡ s') × (t ≡ t')
same_names said s s' t t' p q =
    let e : codes "decide" ∷ s ∷ t ∷ [] ≡ codes "decide" ∷ s' ∷ t' ∷ [] = sym p ∙ q in
    let first : s ≡ s' = cc in
    let second : t ≡ t' = cc in
    (first, second)

-- what is told of a text isn't too long for one
never_long : (files : Files) (name text : List ℕ) → IsText (Some files) name text → IsTooLong (Some files) name → ⊥
never_long files name text is long =
    let big : text_limit < length text = subst (λ (o : Option (List ℕ)). IsSomeAnd o (λ bytes. text_limit < length bytes)) is.stands long in
    let small : length text ≤ text_limit = is.short in
    omega (arith, big, small)

-- a count doesn't both rise and stay, and one name's alone rises, where it isn't at its end
never_same : (w : List ℕ) (before now : Counts) → now w < 2 ^ 64 - 1 → RoseAt w before now → now w ≡ before w → ⊥
never_same w before now below rose same =
    let more : before w < now w = rose.rose below in
    omega (arith, more, same)

one_rose : (w u : List ℕ) (before now : Counts) → now w < 2 ^ 64 - 1 → RoseAt w before now → RoseAt u before now → w ≡ u
one_rose w u before now below first second = go (cases_Bool (bytes_eq w u))
  where
    go : ((bytes_eq w u ≡ true) ⊎ (bytes_eq w u ≡ false)) → w ≡ u
    go (inl same) = (bytes_eq-Decides w u).0 same
    go (inr apart) = absurd (never_same w before now below first (second.others w (λ e. let f : true ≡ false = sym ((bytes_eq-Decides w u).1 e) ∙ apart in cc)))

-- two that are asked for and too long are one, and where the texts were asked for none is
one_long : (said : List (List ℕ)) (files : Files) (w u : List ℕ) → AskedFor said (Some files) w → IsTooLong (Some files) w → AskedFor said (Some files) u → IsTooLong (Some files) u → w ≡ u
one_long said files w u first long second more = go first.turn second.turn
  where
    names : (first.source_name ≡ second.source_name) × (first.table_name ≡ second.table_name)
    names = same_names said first.source_name second.source_name first.table_name second.table_name first.decide second.decide

    go : ((w ≡ first.source_name) ⊎ ((w ≡ first.table_name) × ((source : List ℕ) × IsText (Some files) first.source_name source))) →
        ((u ≡ second.source_name) ⊎ ((u ≡ second.table_name) × ((source : List ℕ) × IsText (Some files) second.source_name source))) → w ≡ u
    go (inl e) (inl f) = e ∙ names.0 ∙ sym f
    go (inl e) (inr (f, (text, is))) = absurd (never_long files second.source_name text is (subst (IsTooLong (Some files)) (e ∙ names.0) long))
    go (inr (e, (text, is))) (inl f) = absurd (never_long files first.source_name text is (subst (IsTooLong (Some files)) (f ∙ sym names.0) more))
    go (inr (e, more)) (inr (f, most)) = e ∙ names.1 ∙ sym f

none_long : (said : List (List ℕ)) (files : Files) (w s t : List ℕ) → AskedFor said (Some files) w → IsTooLong (Some files) w → Asked said (Some files) s t → ⊥
none_long said files w s t first long asked = go first.turn
  where
    names : (first.source_name ≡ asked.source_name) × (first.table_name ≡ asked.table_name)
    names = same_names said first.source_name asked.source_name first.table_name asked.table_name first.decide asked.decide

    go : ((w ≡ first.source_name) ⊎ ((w ≡ first.table_name) × ((source : List ℕ) × IsText (Some files) first.source_name source))) → ⊥
    go (inl e) = never_long files asked.source_name s asked.source_text (subst (IsTooLong (Some files)) (e ∙ names.0) long)
    go (inr (e, more)) = never_long files asked.table_name t asked.table_text (subst (IsTooLong (Some files)) (e ∙ names.1) long)

-- the texts that were asked for are one pair
same_texts : (said : List (List ℕ)) (files : Files) (s s' t t' : List ℕ) → Asked said (Some files) s t → Asked said (Some files) s' t' → (s ≡ s') × (t ≡ t')
same_texts said files s s' t t' one two =
    let names = same_names said one.source_name two.source_name one.table_name two.table_name one.decide two.decide in
    let e : Some s ≡ Some s' = sym one.source_text.stands ∙ ap (lookup files) names.0 ∙ two.source_text.stands in
    let f : Some t ≡ Some t' = sym one.table_text.stands ∙ ap (lookup files) names.1 ∙ two.table_text.stands in
    let first : s ≡ s' = cc in
    let second : t ≡ t' = cc in
    (first, second)

-- what comes in the place of reading the files, in the place of what they lead to, and what they lead to
abbrev pub CallAt : List (List ℕ) → Files → Counts → Counts → Stage → Outcome → Type 0
CallAt said files before now words a = ((s t : List ℕ) → Decide said s t → ⊥) × (a ≡ wrong_words)
CallAt said files before now reading a =
    ((w : List ℕ) × (AskedFor said (Some files) w × RoseAt w before now × (a ≡ unread w)))
    ⊎ ((w : List ℕ) × (AskedFor said (Some files) w × IsTooLong (Some files) w × Same before now × (a ≡ too_long w)))
CallAt said files before now scanning a = (o : DecideOutcome) × (IsAnswer said (Some files) before now o × (a ≡ of_decide o))
CallAt said files before now grammar a = ⊥
CallAt said files before now sizes a = ⊥
CallAt said files before now forms a = ⊥
CallAt said files before now table a = ⊥
CallAt said files before now limits a = ⊥
CallAt said files before now verdict a = ⊥

-- what a call has where it passes these
abbrev pub CallPasses : List (List ℕ) → Files → Counts → Counts → Stage → Type 0
CallPasses said files before now words = (s : List ℕ) × ((t : List ℕ) × Decide said s t)
CallPasses said files before now reading = (s : List ℕ) × ((t : List ℕ) × (Asked said (Some files) s t × Same before now))
CallPasses said files before now later = ⊥

-- the stage of an outcome
abbrev pub call_stage : Outcome → Stage
call_stage wrong_words = words
call_stage (unread w) = reading
call_stage (too_long w) = reading
call_stage no_memory = words
call_stage (of_decide o) = scanning

call_at : (said : List (List ℕ)) (files : Files) (before now : Counts) (a : Outcome) → Due said (Some files) before now a → a ≢ no_memory → CallAt said files before now (call_stage a) a
call_at said files before now wrong_words due other = (due.0, refl)
call_at said files before now (unread w) due other = inl (w, (due.0, due.1, refl))
call_at said files before now (too_long w) due other = inr (w, (due.0, due.1, due.2, refl))
call_at said files before now no_memory due other = absurd (other refl)
call_at said files before now (of_decide o) due other = (o, (due, refl))

module _ (reads : OneReadingLaw) (tree : OneTreeLaw) (tables : OneTableLaw) (built : BuiltLaw) (said : List (List ℕ)) (files : Files) (before now : Counts) (below : (name : List ℕ) → now name < 2 ^ 64 - 1) where
  at_reading : (s t : List ℕ) → Decide said s t → IsReached (CallPasses said files before now) reading
  at_reading s t decide = reached_next (CallPasses said files before now) words reading refl (reached_first (CallPasses said files before now)) (s, (t, decide))

  reached : (k : Stage) (a : Outcome) → CallAt said files before now k a → IsReached (CallPasses said files before now) k
  reached words a comes = reached_first (CallPasses said files before now)
  reached reading a (inl (w, all)) = at_reading all.0.source_name all.0.table_name all.0.decide
  reached reading a (inr (w, all)) = at_reading all.0.source_name all.0.table_name all.0.decide
  reached scanning a (o, (answer, is)) =
      reached_next (CallPasses said files before now) reading scanning refl (at_reading answer.asked.source_name answer.asked.table_name answer.asked.decide)
      (answer.source, (answer.table, (answer.asked, answer.no_fault)))
  reached grammar a comes = absurd comes
  reached sizes a comes = absurd comes
  reached forms a comes = absurd comes
  reached table a comes = absurd comes
  reached limits a comes = absurd comes
  reached verdict a comes = absurd comes

  stops : (k : Stage) (a : Outcome) → CallAt said files before now k a → CallPasses said files before now k → ⊥
  stops words a (none, is) (s, (t, decide)) = none s t decide
  stops reading a (inl (w, all)) (s, (t, (asked, same))) = never_same w before now (below w) all.1 (same w)
  stops reading a (inr (w, all)) (s, (t, (asked, same))) = none_long said files w s t all.0 all.1 asked
  stops scanning a comes passes = passes
  stops grammar a comes passes = comes
  stops sizes a comes passes = comes
  stops forms a comes passes = comes
  stops table a comes passes = comes
  stops limits a comes passes = comes
  stops verdict a comes passes = comes

  one_answer : (o p : DecideOutcome) → IsAnswer said (Some files) before now o → IsAnswer said (Some files) before now p → AreOne (of_decide o) (of_decide p)
  one_answer o p first second =
      let same = same_texts said files first.source second.source first.table second.table first.asked second.asked in
      one_answer_is reads tree tables built first.source first.table o p first.decided
      (subst (λ (s : List ℕ). IsDecided s first.table p) (sym same.0) (subst (λ (t : List ℕ). IsDecided second.source t p) (sym same.1) second.decided))

  as_named : (a b x y : Outcome) → a ≡ x → b ≡ y → AreOne x y → AreOne a b
  as_named a b x y e f one = subst (λ (o : Outcome). AreOne o b) (sym e) (subst (AreOne x) (sym f) one)

  one_at : (k : Stage) (a b : Outcome) → CallAt said files before now k a → CallAt said files before now k b → AreOne a b
  one_at words a b (none, is) (other, is') = as_named a b wrong_words wrong_words is is' refl
  one_at reading a b (inl (w, first)) (inl (u, second)) = as_named a b (unread w) (unread u) first.2 second.2 (ap unread (one_rose w u before now (below w) first.1 second.1))
  one_at reading a b (inl (w, first)) (inr (u, second)) = absurd (never_same w before now (below w) first.1 (second.2 w))
  one_at reading a b (inr (w, first)) (inl (u, second)) = absurd (never_same u before now (below u) second.1 (first.2 u))
  one_at reading a b (inr (w, first)) (inr (u, second)) = as_named a b (too_long w) (too_long u) first.3 second.3 (ap too_long (one_long said files w u first.0 first.1 second.0 second.1))
  one_at scanning a b (o, (answer, is)) (p, (other, is')) = as_named a b (of_decide o) (of_decide p) is is' (one_answer o p answer other)
  one_at grammar a b p q = absurd p
  one_at sizes a b p q = absurd p
  one_at forms a b p q = absurd p
  one_at table a b p q = absurd p
  one_at limits a b p q = absurd p
  one_at verdict a b p q = absurd p

  pub one_outcome_is : (a b : Outcome) → Due said (Some files) before now a → Due said (Some files) before now b → a ≢ no_memory → b ≢ no_memory → AreOne a b
  one_outcome_is a b p q u v =
      one_of_all (CallPasses said files before now) (CallAt said files before now) AreOne reached stops one_at (call_stage a) (call_stage b) a b (call_at said files before now a p u) (call_at said files before now b q v)
