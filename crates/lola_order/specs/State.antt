-- The state of the search for an order.
use Rattle.std.specs.Prelude.{◌≡◌, ◌⊎◌, ℕ, suc, Bool, true, false, List, [], ◌∷◌, length, map, take, Some, slice_get, slice_index_or}
use Rattle.std.specs.Option.{is_none}
use Rattle.std.specs.BTreeSet.{contains}
use Rattle.std.specs.Ordering.{nat_cmp}
use Rattle.lola_order.specs.declared.ready.Ready.{Ready}
use Rattle.lola_order.specs.declared.waiting.Waiting.{Waiting}
use Rattle.lola_order.specs.declared.search.Search.{Search}
use Rattle.lola_order.specs.Graph.{Graph, Uses, IsWanted, IsUse, ArePlaced}
use Rattle.lola_bits.specs.Lists.{IsIn}

-- a number is among those that are ready
abbrev pub Has : Ready → ℕ → Type 0
Has r k = contains nat_cmp r.set k ≡ true

-- a signal waits for another
abbrev pub Waits : Waiting → ℕ → ℕ → Type 0
Waits w j k = IsIn k (slice_index_or w.lists.items j [])

-- one more waits
pub record IsWaiting (w : Waiting) (by k : ℕ) (v : Waiting) : Type 0 where
  pub long : length v.lists.items ≡ length w.lists.items
  pub here : Waits v by k
  pub kept : (j m : ℕ) → Waits w j m → Waits v j m

-- one more is ready
pub record IsReadied (r : Ready) (k : ℕ) (s : Ready) : Type 0 where
  pub here : Has s k
  pub kept : (m : ℕ) → Has r m → Has s m
  pub only : (m : ℕ) → Has s m → (m ≡ k) ⊎ Has r m

-- a signal isn't placed yet
abbrev pub IsUnmet : List Bool → ℕ → Type 0
IsUnmet met j = slice_get met j ≡ Some false

-- how many aren't
abbrev pub unmet_count : List Bool → ℕ
unmet_count [] = 0
unmet_count (true ∷ met) = unmet_count met
unmet_count (false ∷ met) = suc (unmet_count met)

-- a signal uses one that isn't placed yet, at the place in its equation that is remembered
pub record IsBlockedBy (g : Graph) (met : List Bool) (next : List ℕ) (k by : ℕ) : Type 0 where
  pub uses : List ℕ
  pub equation : Uses g k uses
  pub at : ℕ
  pub at_is : slice_get next k ≡ Some at
  pub there : slice_get uses at ≡ Some by
  pub unmet : IsUnmet met by

-- and waits for it
pub record IsBlocked (g : Graph) (met : List Bool) (next : List ℕ) (w : Waiting) (k : ℕ) : Type 0 where
  pub by : ℕ
  pub blocked : IsBlockedBy g met next k by
  pub waits : Waits w by k

-- a signal uses none that isn't placed yet
abbrev pub UsesMet : Graph → List Bool → ℕ → Type 0
UsesMet g met k = (j : ℕ) → IsUse g j k → IsUnmet met j → ⊥

-- there is a place for each signal
pub record AreLong (g : Graph) (met : List Bool) (next : List ℕ) (w : Waiting) : Type 0 where
  pub of_met : length met ≡ length g
  pub of_next : length next ≡ length g
  pub of_waiting : length w.lists.items ≡ length g

-- the signals that have equations are those that are placed and those that aren't yet
pub record AreMarked (g : Graph) (met : List Bool) (order : List ℕ) : Type 0 where
  pub wanted : (j : ℕ) → IsUnmet met j → IsWanted g j
  pub new : (j : ℕ) → IsUnmet met j → IsIn j order → ⊥
  pub each : (j : ℕ) → IsWanted g j → IsUnmet met j ⊎ IsIn j order

-- each signal uses up to the remembered place none that isn't placed yet
abbrev pub ArePassed : Graph → List Bool → List ℕ → Type 0
ArePassed g met next =
    (k at : ℕ) (us : List ℕ) → slice_get next k ≡ Some at → Uses g k us → (j : ℕ) → IsIn j (take at us) → IsUnmet met j → ⊥

-- what is ready isn't placed, and all that it uses is given or placed
pub record AreReady (g : Graph) (met : List Bool) (r : Ready) : Type 0 where
  pub unmet : (k : ℕ) → Has r k → IsUnmet met k
  pub uses : (k : ℕ) → Has r k → UsesMet g met k

-- signals of which the first uses one and each the one before it
abbrev pub IsTrail : Graph → ℕ → List ℕ → Type 0
IsTrail g y [] = Unit {0}
IsTrail g y (x ∷ xs) = IsUse g y x × IsTrail g x xs

-- what holds between two places: each signal that isn't placed is ready, waits, or is about to be looked at
pub record IsState (g : Graph) (met : List Bool) (next : List ℕ) (w : Waiting) (r : Ready) (order pending : List ℕ) : Type 0 where
  pub long : AreLong g met next w
  pub marked : AreMarked g met order
  pub passed : ArePassed g met next
  pub ready : AreReady g met r
  pub placed : ArePlaced g [] order
  pub each : (k : ℕ) → IsUnmet met k → Has r k ⊎ (IsBlocked g met next w k ⊎ IsIn k pending)

abbrev pub IsSearch : Graph → Search → List ℕ → Type 0
IsSearch g s pending = IsState g s.met.items s.next.items s.waiting s.ready s.order.items pending

-- before a signal is placed or looked at
pub record IsBeginning (g : Graph) (s : Search) : Type 0 where
  pub of_met : s.met.items ≡ map is_none g
  pub of_next : length s.next.items ≡ length g
  pub of_waiting : length s.waiting.lists.items ≡ length g
  pub zero : (k at : ℕ) → slice_get s.next.items k ≡ Some at → at ≡ 0
  pub none_ready : (k : ℕ) → Has s.ready k → ⊥
  pub none_placed : s.order.items ≡ []
