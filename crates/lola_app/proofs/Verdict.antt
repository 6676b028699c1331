-- What deciding a claim says of the table's obligations.
use Rattle.std.proofs.Common.{◌≡◌, ℕ, zero, suc, ◌+◌, ◌≤◌, List, [], ◌∷◌, ◌++◌, length, map, take, drop, Some, None, refl, sym, ap, ap₂, ◌∙◌, subst, arith, append_assoc}
use Rattle.std.specs.Prelude.{slice_get, flat_map, codes, string_bytes, decimal}
use Rattle.std.specs.List.{AllByRecursion}
use Rattle.std.proofs.lemmas.Fmt.{decimal_digit}
use Rattle.std.proofs.lemmas.List.{map-append}
use Rattle.lola_bits.specs.Lists.{AreEach}
use Rattle.lola_tree.specs.Tree.{SourceTree}
use Rattle.lola_tree.specs.Signals.{root_registers}
use Rattle.lola_elab.specs.Elaborated.{vector_names, vector_widths}
use Rattle.small_tree.specs.Table.{StateTree, SetTree, ClassTree, TableTree}
use Rattle.lola_app.specs.declared.claim.Claim.{Claim}
use Rattle.lola_app.specs.declared.claim.State.{State}
use Rattle.lola_app.specs.declared.claim.Start.{Start}
use Rattle.lola_app.specs.declared.obligation.Obligation.{Obligation as Listed}
use Rattle.lola_app.specs.declared.obligation.Goal.TheVariants as goal
use Rattle.lola_app.specs.declared.subject.Subject.{Subject}
use Rattle.lola_app.specs.Claiming.{IsClaimedState, IsClaimedStart, IsClaimOf}
use Rattle.lola_app.specs.Deciding.{IsFew, IsFirstWide, PassesAlways, IsFirstFailing}
use Rattle.lola_app.specs.Listing.{Named, named_of, start_obligations, state_obligations, listed}
use Rattle.lola_app.specs.Listing.{class_obligations as listed_class}
use Rattle.lola_app.specs.Obligations.{Obligation, reset, ends, invariant, boundary, start, state, class_obligations, obligations, obligation_name, Valuation, HoldsAlways, AllHold, free_inputs, without, free_names, free_values, root_width, free_widths, total, free_bits, IsNarrow, ComesBefore, IsLeastViolation}
use Rattle.lola_app.specs.Trial.{but_one, passes, tried_widths}
use Rattle.lola_app.specs.Tried.{free_leaves, printed_names}
use Rattle.lola_app.specs.Vectors.{interface_in}
use Rattle.lola_app.proofs.Bridge.{Decides, Spans, Fitting, reset_decides, end_decides, cover_decides, reset_spans, end_spans, cover_spans, reset_invariant, reset_boundary, reset_start, end_invariant, end_boundary, end_state}
use Rattle.lola_app.proofs.Leaves.{without_at}
use Rattle.lola_app.proofs.Printed.{map_take, map_drop}

-- lists side by side, put together
each_both : {X Y : Type 0} (P : X → Y → Type 0) (xs xs' : List X) (ys ys' : List Y) → AreEach P xs ys → AreEach P xs' ys' → AreEach P (xs ++ xs') (ys ++ ys')
each_both P [] xs' [] ys' a b = b
each_both P [] xs' (y ∷ ys) ys' a b = absurd a
each_both P (x ∷ xs) xs' [] ys' a b = absurd a
each_both P (x ∷ xs) xs' (y ∷ ys) ys' a b = (a.0, each_both P xs xs' ys ys' a.1 b)

each_mapped : {X Y Z : Type 0} (P : X → Y → Type 0) (f : Z → Y) (xs : List X) (zs : List Z) → AreEach P xs (map f zs) → AreEach (λ x z. P x (f z)) xs zs
each_mapped P f [] [] a = tt
each_mapped P f [] (z ∷ zs) a = absurd a
each_mapped P f (x ∷ xs) [] a = absurd a
each_mapped P f (x ∷ xs) (z ∷ zs) a = (a.0, each_mapped P f xs zs a.1)

-- what all of one side have, all of the other have
pub each_all : {X Y : Type 0} (P : X → Y → Type 0) (A : X → Type 0) (B : Y → Type 0) → ((x : X) (y : Y) → P x y → B y → A x) → (xs : List X) (ys : List Y) → AreEach P xs ys → AllByRecursion B ys → AllByRecursion A xs
each_all P A B f [] [] each all = tt
each_all P A B f [] (y ∷ ys) each all = absurd each
each_all P A B f (x ∷ xs) [] each all = absurd each
each_all P A B f (x ∷ xs) (y ∷ ys) each all = (f x y each.0 all.0, each_all P A B f xs ys each.1 all.1)

-- the items of one side up to the number of one of the other, that item, and those behind it
pub record IsSplit {X Y : Type 0} (P : X → Y → Type 0) (xs : List X) (ys : List Y) (number : ℕ) (y : Y) : Type 0 where
  pub before : List X
  pub first : X
  pub later : List X
  pub splits : xs ≡ before ++ first ∷ later
  pub earlier : AreEach P before (take number ys)
  pub here : P first y

each_split : {X Y : Type 0} (P : X → Y → Type 0) (xs : List X) (ys : List Y) (number : ℕ) (y : Y) → AreEach P xs ys → slice_get ys number ≡ Some y → IsSplit P xs ys number y
each_split P [] [] number y each at = absurd (let f : None ≡ Some y = at in cc)
each_split P [] (z ∷ ys) number y each at = absurd each
each_split P (x ∷ xs) [] number y each at = absurd each
each_split P (x ∷ xs) (z ∷ ys) zero y each at =
    let same : z ≡ y = let f : Some z ≡ Some y = at in cc in
    record { before = []; first = x; later = xs; splits = refl; earlier = tt; here = subst (P x) same each.0 }
each_split P (x ∷ xs) (z ∷ ys) (suc number) y each at =
    let more = each_split P xs ys number y each.1 at in
    record { before = x ∷ more.before; first = more.first; later = more.later; splits = ap (λ l. x ∷ l) more.splits; earlier = (each.0, more.earlier); here = more.here }

pub each_long : {X Y : Type 0} (P : X → Y → Type 0) (xs : List X) (ys : List Y) → AreEach P xs ys → length xs ≡ length ys
each_long P [] [] each = refl
each_long P [] (y ∷ ys) each = absurd each
each_long P (x ∷ xs) [] each = absurd each
each_long P (x ∷ xs) (y ∷ ys) each = ap suc (each_long P xs ys each.1)

-- the name of an obligation at the end of phase 0
end_named : (class goal_is : List ℕ) → class ++ (codes "/0/end/" ++ goal_is) ≡ class ++ (codes "/" ++ (decimal 0 ++ (codes "/end/" ++ goal_is)))
end_named class goal_is = ap (λ (d : List ℕ). class ++ (codes "/" ++ (d ++ (codes "/end/" ++ goal_is)))) (sym (decimal_digit 0 (omega arith)))

-- an obligation and its entry in the list of a claim: its name, that trying it decides it, and what it
-- leaves free
pub record IsEntry (S : SourceTree) (T : TableTree) (subject : Subject) (o : Obligation) (n : Named) : Type 0 where
  pub named : n.0 ≡ obligation_name o
  pub decides : Decides S T subject o n.1
  pub spans : Spans S T subject o n.1
  pub printed : printed_names subject n.1 ≡ free_names S T o
  pub widths : tried_widths subject n.1 ≡ free_widths S T o

but_one_map : {X Y : Type 0} (f : X → Y) (place : ℕ) (xs ys : List X) → but_one place (map f xs) (map f ys) ≡ map f (but_one place xs ys)
but_one_map f place xs ys =
    ap₂ (λ ts ds. ts ++ (ds ++ map f ys)) (sym (map_take f place xs)) (sym (map_drop f (place + 1) xs))
    ∙ ap (λ ds. map f (take place xs) ++ ds) (sym (map-append f (drop (place + 1) xs) ys))
    ∙ sym (map-append f (take place xs) (drop (place + 1) xs ++ ys))

module _ (S : SourceTree) (T : TableTree) (subject : Subject) (fit : Fitting S T subject) where
  abbrev pub claim : Claim
  claim = subject.claim

  abbrev pub is : IsClaimOf T subject.claim
  is = fit.is

  abbrev pub I : List (List ℕ)
  I = vector_names subject.design.inputs.items

  abbrev pub R : List (List ℕ)
  R = vector_names subject.design.registers.items

  -- the names of what a cycle leaves free
  free_is : free_leaves subject ≡ free_inputs S T ++ root_registers S.modules
  free_is =
      sym (append_assoc (take subject.reset I) (drop (subject.reset + 1) I) R)
      ∙ ap (λ (ns : List (List ℕ)). ns ++ R) (sym (without_at I subject.reset T.reset.port fit.does.inputs_distinct fit.at))
      ∙ ap₂ (λ (xs ys : List (List ℕ)). without T.reset.port xs ++ ys) (sym fit.does.inputs_are) (sym fit.does.registers_are)

  printed_is : map (λ (name : List ℕ). codes "@" ++ name) (free_leaves subject) ≡ map (λ (name : List ℕ). codes "@" ++ name) (free_inputs S T ++ root_registers S.modules)
  printed_is = ap (map (λ (name : List ℕ). codes "@" ++ name)) free_is

  -- and its widths
  widths_are : but_one subject.reset (vector_widths subject.design.inputs.items) (vector_widths subject.design.registers.items) ≡ map (root_width S.modules) (free_inputs S T ++ root_registers S.modules)
  widths_are =
      ap₂ (λ (xs ys : List ℕ). but_one subject.reset xs ys) fit.does.input_widths fit.does.register_widths
      ∙ but_one_map (root_width S.modules) subject.reset I R ∙ ap (map (root_width S.modules)) free_is

  starts_listed : (rows : List SetTree) (starts : List Start) (n : ℕ) → AreEach (IsClaimedStart (interface_in claim.face) T) rows starts →
      ((k : ℕ) → slice_get claim.starts.items (n + k) ≡ slice_get starts k) → AreEach (IsEntry S T subject) (map (λ (row : SetTree). reset (start row)) rows) (start_obligations n starts)
  starts_listed [] [] n each at = tt
  starts_listed [] (y ∷ ys) n each at = absurd each
  starts_listed (row ∷ rows) [] n each at = absurd each
  starts_listed (row ∷ rows) (y ∷ ys) n each at =
      let here : slice_get claim.starts.items n ≡ Some y = ap (slice_get claim.starts.items) (plus_zero n) ∙ at 0 in (
        record {
          named = ap (λ (name : List ℕ). codes "reset/" ++ name) each.0.named;
          decides = reset_decides S T subject fit (goal.State n) (start row) (reset_start S T subject fit n row y here each.0);
          spans = reset_spans S T subject fit (goal.State n) (start row);
          printed = printed_is;
          widths = widths_are;
        },
        starts_listed rows ys (n + 1) each.1 (λ k. ap (slice_get claim.starts.items) (next n k) ∙ at (suc k)),
      )
    where
      plus_zero : (n : ℕ) → n ≡ n + 0
      plus_zero n = omega arith

      next : (n k : ℕ) → (n + 1) + k ≡ n + suc k
      next n k = omega arith

  states_listed : (rows : List StateTree) (states : List State) (n : ℕ) → AreEach (IsClaimedState (interface_in claim.face) T is.small.class) rows states →
      ((k : ℕ) → slice_get claim.states.items (n + k) ≡ slice_get states k) →
      AreEach (IsEntry S T subject) (map (λ (row : StateTree). ends is.small.class 0 (state row)) rows) (state_obligations (string_bytes claim.class) n states)
  states_listed [] [] n each at = tt
  states_listed [] (y ∷ ys) n each at = absurd each
  states_listed (row ∷ rows) [] n each at = absurd each
  states_listed (row ∷ rows) (y ∷ ys) n each at =
      let here : slice_get claim.states.items n ≡ Some y = ap (slice_get claim.states.items) (plus_zero n) ∙ at 0 in (
        record {
          named = ap₂ (λ (class name : List ℕ). class ++ (codes "/0/end/" ++ name)) is.class each.0.named ∙ end_named is.small.class.name row.name;
          decides = end_decides S T subject fit (goal.State n) (state row) (end_state S T subject fit n row y here each.0);
          spans = end_spans S T subject fit (goal.State n) (state row);
          printed = printed_is;
          widths = widths_are;
        },
        states_listed rows ys (n + 1) each.1 (λ k. ap (slice_get claim.states.items) (next n k) ∙ at (suc k)),
      )
    where
      plus_zero : (n : ℕ) → n ≡ n + 0
      plus_zero n = omega arith

      next : (n k : ℕ) → (n + 1) + k ≡ n + suc k
      next n k = omega arith

  class_listed : AreEach (IsEntry S T subject) (class_obligations T is.small.class) (listed_class (string_bytes claim.class) claim.states.items)
  class_listed = (
    record {
      named = ap (λ (class : List ℕ). class ++ codes "/0/end/INVARIANT") is.class ∙ end_named is.small.class.name (codes "INVARIANT");
      decides = end_decides S T subject fit goal.Invariant invariant (end_invariant S T subject fit);
      spans = end_spans S T subject fit goal.Invariant invariant;
      printed = printed_is;
      widths = widths_are;
    },
    (
      record {
        named = ap (λ (class : List ℕ). class ++ codes "/0/end/BOUNDARY") is.class ∙ end_named is.small.class.name (codes "BOUNDARY");
        decides = end_decides S T subject fit goal.Boundary boundary (end_boundary S T subject fit);
        spans = end_spans S T subject fit goal.Boundary boundary;
        printed = printed_is;
        widths = widths_are;
      },
      states_listed T.states claim.states.items 0 is.states (λ k. ap (slice_get claim.states.items) (zero_plus k)),
    ),
  )
    where
      zero_plus : (n : ℕ) → 0 + n ≡ n
      zero_plus n = omega arith

  classes_listed : AreEach (IsEntry S T subject) (flat_map (class_obligations T) T.classes) (listed_class (string_bytes claim.class) claim.states.items)
  classes_listed =
      subst (λ (cs : List ClassTree). AreEach (IsEntry S T subject) (flat_map (class_obligations T) cs) (listed_class (string_bytes claim.class) claim.states.items)) (sym is.small.one_class)
      (subst (λ (os : List Obligation). AreEach (IsEntry S T subject) os (listed_class (string_bytes claim.class) claim.states.items)) (sym (append_nil (class_obligations T is.small.class))) class_listed)
    where
      append_nil : (xs : List Obligation) → xs ++ [] ≡ xs
      append_nil [] = refl
      append_nil (x ∷ xs) = ap (λ l. x ∷ l) (append_nil xs)

  pub each_listed : AreEach (IsEntry S T subject) (obligations T) (listed claim)
  each_listed = (
    record { named = refl; decides = cover_decides S T subject fit; spans = cover_spans S T subject fit; printed = refl; widths = refl },
    (
      record {
        named = refl;
        decides = reset_decides S T subject fit goal.Invariant invariant (reset_invariant S T subject fit);
        spans = reset_spans S T subject fit goal.Invariant invariant;
        printed = printed_is;
        widths = widths_are;
      },
      (
        record {
          named = refl;
          decides = reset_decides S T subject fit goal.Boundary boundary (reset_boundary S T subject fit);
          spans = reset_spans S T subject fit goal.Boundary boundary;
          printed = printed_is;
          widths = widths_are;
        },
        each_both (IsEntry S T subject) (map (λ (row : SetTree). reset (start row)) T.starts) (flat_map (class_obligations T) T.classes) (start_obligations 0 claim.starts.items) (listed_class (string_bytes claim.class) claim.states.items)
            (starts_listed T.starts claim.starts.items 0 is.starts (λ k. ap (slice_get claim.starts.items) (zero_plus k))) classes_listed,
      ),
    ),
  )
    where
      zero_plus : (n : ℕ) → 0 + n ≡ n
      zero_plus n = omega arith

  -- where all entries pass, all obligations hold
  entry_holds : (o : Obligation) (one' : Listed) → IsEntry S T subject o (named_of one') → PassesAlways subject one' → HoldsAlways S T o
  entry_holds o one' entry passes' w suits = entry.decides.holds w suits (passes' (free_values S T o w) (entry.spans.within w suits))

  -- where all leave few bits free, all obligations can be tried
  entry_narrow : (o : Obligation) (one' : Listed) → IsEntry S T subject o (named_of one') → IsFew subject one' → IsNarrow S T o
  entry_narrow o one' entry few = subst (λ (ws : List ℕ). total ws ≤ 16) entry.widths few

  pub each_entry : (list : List Listed) → map named_of list ≡ listed claim → AreEach (λ o one'. IsEntry S T subject o (named_of one')) (obligations T) list
  each_entry list is_listed = each_mapped (IsEntry S T subject) named_of (obligations T) list (subst (λ ns. AreEach (IsEntry S T subject) (obligations T) ns) (sym is_listed) each_listed)

  pub all_hold : (list : List Listed) → map named_of list ≡ listed claim → AllByRecursion (PassesAlways subject) list → AllHold S T
  all_hold list is_listed all = record {
    each = each_all (λ o one'. IsEntry S T subject o (named_of one')) (HoldsAlways S T) (PassesAlways subject) entry_holds (obligations T) list (each_entry list is_listed) all;
  }

  pub all_narrow : (list : List Listed) → map named_of list ≡ listed claim → AllByRecursion (IsFew subject) list → AllByRecursion (IsNarrow S T) (obligations T)
  all_narrow list is_listed all =
      each_all (λ o one'. IsEntry S T subject o (named_of one')) (IsNarrow S T) (IsFew subject) entry_narrow (obligations T) list (each_entry list is_listed) all

  -- the first entry that leaves too many bits free is that of the first obligation that does
  pub record IsWide (entry : Listed) : Type 0 where
    pub before : List Obligation
    pub first : Obligation
    pub later : List Obligation
    pub splits : obligations T ≡ before ++ first ∷ later
    pub earlier : AllByRecursion (IsNarrow S T) before
    pub named : string_bytes entry.name ≡ obligation_name first
    pub counted : total (tried_widths subject entry.which) ≡ free_bits S T first

  pub first_is_wide : (list : List Listed) (number : ℕ) → map named_of list ≡ listed claim → (wide : IsFirstWide subject list number) → IsWide wide.obligation
  first_is_wide list number is_listed wide =
      let split = each_split (λ o one'. IsEntry S T subject o (named_of one')) (obligations T) list number wide.obligation (each_entry list is_listed) wide.there in
      record {
        before = split.before;
        first = split.first;
        later = split.later;
        splits = split.splits;
        earlier = each_all (λ o one'. IsEntry S T subject o (named_of one')) (IsNarrow S T) (IsFew subject) entry_narrow split.before (take number list) split.earlier wide.earlier;
        named = split.here.named;
        counted = ap total split.here.widths;
      }

  -- the first entry that fails is that of the first obligation that is violated, at its least valuation
  pub record IsFirst (entry : Listed) (numbers : List ℕ) : Type 0 where
    pub before : List Obligation
    pub first : Obligation
    pub later : List Obligation
    pub splits : obligations T ≡ before ++ first ∷ later
    pub earlier : AllByRecursion (HoldsAlways S T) before
    pub named : string_bytes entry.name ≡ obligation_name first
    pub printed : printed_names subject entry.which ≡ free_names S T first
    pub widths : tried_widths subject entry.which ≡ free_widths S T first
    pub valuation : Valuation
    pub least : IsLeastViolation S T first valuation
    pub values : free_values S T first valuation ≡ numbers

  pub first_fails : (list : List Listed) (number : ℕ) (numbers : List ℕ) → map named_of list ≡ listed claim → (failing : IsFirstFailing subject list number numbers) → IsFirst failing.obligation numbers
  first_fails list number numbers is_listed failing =
      let entry = failing.obligation in
      let split = each_split (λ o one'. IsEntry S T subject o (named_of one')) (obligations T) list number entry (each_entry list is_listed) failing.there in
      let made = split.here.spans.valuation numbers failing.least.within in
      record {
        before = split.before;
        first = split.first;
        later = split.later;
        splits = split.splits;
        earlier = each_all (λ o one'. IsEntry S T subject o (named_of one')) (HoldsAlways S T) (PassesAlways subject) entry_holds split.before (take number list) split.earlier failing.earlier;
        named = split.here.named;
        printed = split.here.printed;
        widths = split.here.widths;
        valuation = made.0;
        least = record {
          suits = made.1;
          violated = split.here.decides.violated made.0 made.1 (ap (passes subject entry.which) made.2 ∙ failing.least.fails);
          least = λ v suits comes.
              split.here.decides.holds v suits
              (failing.least.least (free_values S T split.first v) (split.here.spans.within v suits) (subst (λ xs. ComesBefore (free_values S T split.first v) xs) made.2 comes));
        };
        values = made.2;
      }
