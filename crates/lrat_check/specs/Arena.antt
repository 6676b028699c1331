-- How an arena, slots and entries hold the clauses in force.
use Rattle.std.specs.Prelude.{ℕ, ◌+◌, ◌-◌, ◌≤◌, min, ℤ, List, [], ◌∷◌, take, drop, length, cond, nat_eq, Option, None, Some, IfSome}
use Rattle.std.specs.List.{flat_map}
use Rattle.std.specs.declared.vec.Vec.{Vec}
use Rattle.std.specs.Vec.{vec_capacity, vec_len}
use Rattle.slab.specs.Slab.{Slab, get, slab_len}
use Rattle.lrat_check.specs.declared.arena.Slot.{Slot}
use Rattle.lrat_check.specs.declared.keys.Entry.{Entry}
use Rattle.lrat_check.specs.Clauses.{InForce}
use Rattle.lrat_check.specs.Held.{Held}
use Rattle.lrat_check.specs.Keys.{Rises}

-- the literals of a slot
abbrev pub literals_of : List ℤ → Slot → List ℤ
literals_of arena slot = take slot.length (drop slot.start arena)

-- the clause of an id in the slot under its key, where the slot is still that of the id
abbrev pub clause_in : List ℤ → ℕ → Option Slot → Option (List ℤ)
clause_in arena id None = None
clause_in arena id (Some slot) = cond (nat_eq id slot.id) (Some (literals_of arena slot)) None

abbrev pub with_id : ℕ → Option (List ℤ) → InForce
with_id id None = []
with_id id (Some clause) = (id, clause) ∷ []

-- the clauses in force
abbrev pub contents : List ℤ → Slab Slot → List Entry → InForce
contents arena slots entries = flat_map (λ e. with_id e.id (clause_in arena e.id (get slots e.key))) entries

-- the slot of a clause at the end of an arena
abbrev pub slot_for : ℕ → List ℤ → List ℤ → Slot
slot_for id arena clause = record { id = id; start = length arena; length = length clause }

-- a slot that is taken out where it is that of an id
abbrev pub out_of : ℕ → Option Slot → Option Slot
out_of id None = None
out_of id (Some slot) = cond (nat_eq id slot.id) None (Some slot)

-- how many more items fit
abbrev pub room_of : {T A : Type 0} → Vec T A → ℕ
room_of items = vec_capacity items - vec_len items

abbrev pub held : {A : Type 0} → Vec ℤ A → Slab Slot → Vec Entry A → ℕ → Held
held arena slots entries last = record {
  force = contents arena.items slots entries.items;
  last = last;
  spare_clauses = min (room_of entries) (slots.capacity - slab_len slots);
  spare_literals = room_of arena;
}

-- each slot lies within the arena, and the ids of the entries rise up to the last
pub record IsSound (arena : List ℤ) (slots : Slab Slot) (entries : List Entry) (last : ℕ) : Type 0 where
  pub within : (key : ℕ) → IfSome (get slots key) (λ slot. slot.start + slot.length ≤ length arena)
  pub rises : Rises 0 entries last
