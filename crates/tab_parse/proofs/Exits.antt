-- What the exits of a `?` answer.
use Rattle.std.proofs.Common.{◌≡◌, List, Result, sym, subst}
use Rattle.std.specs.Result.{IsErrAnd}
use Rattle.std.proofs.lemmas.Result.{err_from_is_err_and}
use Rattle.lola_parse.specs.declared.fault.Fault.{Fault}
use Rattle.lola_parse.specs.Symbols.{Item}
use Rattle.lola_parse.specs.Read.{IsWant, IsRead, IsMade}

-- a fault that may only be want of memory is handed on
pub want : {X T : Type 0} (view : X → T) (tree : T) (rest : List Item) (r : Result (X × List Item) Fault) (fault : Fault) →
    IsErrAnd r (λ other. other ≡ fault) → IsWant fault → IsRead view tree rest r
want view tree rest r fault h wanted = let p = err_from_is_err_and r h in rw p.1 (subst IsWant (sym p.2) wanted)

-- and so where nothing stands behind what is made
pub want_made : {X T : Type 0} (view : X → T) (tree : T) (r : Result X Fault) (fault : Fault) → IsErrAnd r (λ other. other ≡ fault) → IsWant fault → IsMade view tree r
want_made view tree r fault h wanted = let p = err_from_is_err_and r h in rw p.1 (subst IsWant (sym p.2) wanted)
