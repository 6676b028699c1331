-- What the exits of a `?` answer.
use Rattle.std.proofs.Common.{◌≡◌, ℕ, List, Result, Err, sym, subst, ◌∙◌}
use Rattle.std.specs.Result.{IsErrAnd}
use Rattle.std.proofs.lemmas.Result.{err_from_is_err_and}
use Rattle.lola_parse.specs.declared.fault.Fault.{Fault}
use Rattle.lola_parse.specs.declared.fault.Fault.TheVariants as parse
use Rattle.lola_parse.specs.Symbols.{Item}
use Rattle.lola_parse.specs.Read.{IsWant as IsParseWant}
use Rattle.small_read.specs.declared.fault.TableFault.{TableFault}
use Rattle.small_read.specs.declared.fault.TableFault.TheVariants as table
use Rattle.small_read.specs.Fault.{fault_of}
use Rattle.small_read.specs.Read.{IsWant, IsRead, IsNameRead}

-- a fault that may only be want of memory is handed on
pub want : {X T : Type 0} (view : X → T) (tree : T) (rest : List Item) (r : Result (X × List Item) TableFault) (fault : TableFault) →
    IsErrAnd r (λ other. other ≡ fault) → IsWant fault → IsRead view tree rest r
want view tree rest r fault h wanted = let p = err_from_is_err_and r h in rw p.1 (subst IsWant (sym p.2) wanted)

pub want_name : (name : List ℕ) (r : Result (List ℕ) TableFault) (fault : TableFault) → IsErrAnd r (λ other. other ≡ fault) → IsWant fault → IsNameRead name r
want_name name r fault h wanted = let p = err_from_is_err_and r h in rw p.1 (subst IsWant (sym p.2) wanted)

-- and isn't that there is nothing to read
pub wants : {X : Type 0} (r : Result X TableFault) (fault : TableFault) → IsErrAnd r (λ other. other ≡ fault) → IsWant fault → r ≡ Err table.NotBuilt → ⊥
wants r fault h wanted e =
    let p = err_from_is_err_and r h in
    let same : Err p.0 ≡ Err table.NotBuilt = sym p.1 ∙ e in
    let is : fault ≡ table.NotBuilt = cc in
    subst IsWant is wanted

-- want of memory of an expression or of a type stays that
pub want_of : (fault : Fault) → IsParseWant fault → IsWant (fault_of fault)
want_of (parse.Syntax left) h = h
want_of (parse.Long left) h = h
want_of parse.Memory h = tt
