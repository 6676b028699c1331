-- What sets an array sets an element of it.
use Rattle.std.proofs.Common.{◌≡◌, ℕ, List, [], ◌∷◌, ◌++◌, reverse, Option, Some, None, refl, sym, ◌∙◌, ap, subst}
use Rattle.std.specs.Prelude.{IsSome}
use Rattle.std.specs.List.{AllByRecursion}
use Rattle.lola_bits.specs.Lists.{IsIn}
use Rattle.lola_bits.specs.Names.{is_among}
use Rattle.lola_bits.proofs.Lists.{both_none, from_flat_map}
use Rattle.lola_tree.specs.declared.named.Shape.{Shape}
use Rattle.lola_tree.specs.declared.named.Shape.TheVariants.{Vector, Array}
use Rattle.lola_tree.specs.Tree.{Tree, ActualTree, StmtTree, assignment, call, pad, SourceTree}
use Rattle.lola_tree.specs.Names.{names_of}
use Rattle.lola_tree.specs.Signals.{register_names}
use Rattle.lola_tree.specs.design.Places.{Place, places}
use Rattle.lola_tree.specs.design.Signals.{Signal, signals}
use Rattle.lola_tree.specs.design.Equations.{Update, stmt_updates, place_updates, updates}
use Rattle.lola_width.specs.declared.uses.Use.TheVariants as use_
use Rattle.lola_width.specs.NameFaults.{use_faults, expr_faults, stmt_faults}
use Rattle.lola_width.specs.Sized.{clock_in}
use Rattle.lola_design.specs.Regular.{IsVector, IsArray}
use Rattle.lola_regular.specs.Clocked.{seen_behind, AreClocked}
use Rattle.lola_regular.specs.Written.{IsWrittenModule}
use Rattle.lola_regular.proofs.Clean.{AllClean}
use Rattle.lola_regular.proofs.PadsPassed.{stmt_free}
use Rattle.lola_values.proofs.Standing.{Stands, all_stand}
use Rattle.lola_values.proofs.Reading.{the_clock}
use Rattle.lola_values.proofs.Sides.{if_update}
use Rattle.lola_values.proofs.Lefts.{PathsOnce, the_signal}
use Rattle.lola_values.proofs.Targets.{name_ref, assigned_read}

no_array : (type : Shape) → IsVector type → IsArray type → ⊥
no_array (Vector width) vector array = array
no_array (Array count width) vector array = vector

module _ (S : SourceTree) (once : PathsOnce S) (a : Place) (s : Stands S a.module_ a.path a.clocks) where
  abbrev setting : List ℕ → Option ActualTree → Tree → Update
  setting name place e = record { left = a.path ++ name ∷ []; module_ = a.module_; path = a.path; place = place; value = e }

  set_place : (t : StmtTree) → stmt_faults (names_of a.module_) (seen_behind s.earlier) (the_clock S a.module_ a.path a.clocks s) t ≡ [] → (u : Update) → IsIn u (stmt_updates a t) →
      (x : Signal) → IsIn x (signals S) → x.path ≡ u.left → IsArray x.type → IsSome u.place
  set_place (assignment name None e at equals) free u is x there same array =
      let names = names_of a.module_ in
      let one = if_update S a s (is_among (register_names a.module_.locals) name) (setting name None e) u is in
      let none = both_none (use_faults use_.Assigned at name (names name)) (expr_faults names (the_clock S a.module_ a.path a.clocks s) e) free in
      let y = assigned_read S a.module_ a.path a.clocks s (name_ref name) (name, refl) at none.0 in
      let signal = the_signal S once (a.path ++ name ∷ []) x y.0 there y.1 (same ∙ ap (λ (k : Update). k.left) one) y.4 in
      absurd (no_array x.type (subst (λ (k : Signal). IsVector k.type) (sym signal) y.3) array)
  set_place (assignment name (Some place) e at equals) free u is x there same array =
      subst (λ (k : Update). IsSome k.place) (sym (if_update S a s (is_among (register_names a.module_.locals) name) (setting name (Some place) e) u is)) refl
  set_place (call name args at) free u is x there same array = absurd is
  set_place (pad io inner drive release at) free u is x there same array = absurd is

pub array_place : (S : SourceTree) → AllClean (reverse S.modules) → AllByRecursion IsWrittenModule (reverse S.modules) → AreClocked (reverse S.modules) → PathsOnce S →
    (u : Update) (x : Signal) → IsIn u (updates S) → IsIn x (signals S) → x.path ≡ u.left → IsArray x.type → IsSome u.place
array_place S clean written clocked once u x set there same array =
    let f = from_flat_map place_updates u (places S) set in
    let a = f.0 in
    let s = (all_stand S clean written clocked a f.1).stands in
    let g = from_flat_map (stmt_updates a) u a.module_.body f.2 in
    let seen = seen_behind s.earlier in
    set_place S once a s g.0 (stmt_free (names_of a.module_) seen (clock_in seen a.module_) a.module_.body s.clean.body g.0 g.1) u g.2 x there same array
