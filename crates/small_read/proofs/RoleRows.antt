-- Lemmas on roles.
use Rattle.std.proofs.Common.{◌≡◌, ℕ, List, Some, None, ◌⊎◌, inl, inr, refl}
use Rattle.std.specs.Prelude.{codes}
use Rattle.lola_parse.specs.Symbols.{Item}
use Rattle.small_tree.specs.declared.table.Active.{Active}
use Rattle.small_read.specs.Grammar.{Roles, Role, reset_role, loaded_role}
use Rattle.small_read.specs.Read.{Lacks, ResetRow, LoadedRow}
use Rattle.small_read.proofs.Fronts.{other_word}

-- a role that is RESET
pub record ResetRead (before : Roles) (all : List Item) (after : Roles) (rest : List Item) : Type 0 where
  pub active : Active
  pub row : ResetRow all active rest
  pub first : before.reset ≡ None
  pub made : after ≡ record { reset = Some active; loaded = before.loaded }

-- a role that is LOADED
pub record LoadedRead (before : Roles) (all : List Item) (after : Roles) (rest : List Item) : Type 0 where
  pub word : List ℕ
  pub row : LoadedRow all word rest
  pub first : before.loaded ≡ None
  pub made : after ≡ record { reset = before.reset; loaded = Some word }

pub role_reset : {before after : Roles} {all rest : List Item} → Role before all after rest → (Lacks (codes "RESET") all → ⊥) → ResetRead before all after rest
role_reset (reset_role {value = value} {at = at} {width = width} active port sign behind ended none word port_read equal number is semicolon made) here =
    record {
      active = active;
      row = record {
        port = port;
        sign = sign;
        behind = behind;
        ended = ended;
        word_passed = word;
        port_read = port_read;
        sign_passed = equal;
        value_read = record { value = value; width = width; at = at; number_read = number; value_is = is };
        ended_passed = semicolon;
      };
      first = none;
      made = made;
    }
role_reset (loaded_role word port ended none passed port_read semicolon made) here = absurd (here (other_word (codes "RESET") refl refl passed))

pub role_loaded : {before after : Roles} {all rest : List Item} → Role before all after rest → Lacks (codes "RESET") all → LoadedRead before all after rest
role_loaded (reset_role active port sign behind ended none word port_read equal number is semicolon made) lacks = absurd (lacks.lacks _ word)
role_loaded (loaded_role word port ended none passed port_read semicolon made) lacks =
    record {
      word = word;
      row = record { port = port; ended = ended; word_passed = passed; port_read = port_read; ended_passed = semicolon };
      first = none;
      made = made;
    }

-- it is one of the two
pub role_kind : {before after : Roles} {all rest : List Item} → Role before all after rest → (Lacks (codes "RESET") all → ⊥) ⊎ Lacks (codes "RESET") all
role_kind (reset_role active port sign behind ended none word port_read equal number is semicolon made) = inl (λ lacks. lacks.lacks _ word)
role_kind (loaded_role word port ended none passed port_read semicolon made) = inr (other_word (codes "RESET") refl refl passed)

pub reset_read : {before after : Roles} {all rest : List Item} {active : Active} → ResetRow all active rest → before.reset ≡ None →
    after ≡ record { reset = Some active; loaded = before.loaded } → Role before all after rest
reset_read {active = active} row none made =
    reset_role active row.port row.sign row.behind row.ended none row.word_passed row.port_read row.sign_passed row.value_read.number_read row.value_read.value_is
    row.ended_passed made

pub loaded_read : {before after : Roles} {all rest : List Item} {word : List ℕ} → LoadedRow all word rest → before.loaded ≡ None →
    after ≡ record { reset = before.reset; loaded = Some word } → Role before all after rest
loaded_read {word = word} row none made = loaded_role word row.port row.ended none row.word_passed row.port_read row.ended_passed made
