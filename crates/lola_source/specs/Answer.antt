-- A text has one answer.
use Rattle.std.specs.Prelude.{◌≡◌, ◌⊎◌, ℕ, List}
use Rattle.lola_tree.specs.Tree.{SourceTree}
use Rattle.lola_source.specs.declared.fault.SourceRefusal.{SourceRefusal}
use Rattle.lola_source.specs.Accepts.{Accepts}
use Rattle.lola_source.specs.Refused.{IsRefused, refusal_stage}
use Rattle.lola_source.specs.Stages.{Stage, scanning, grammar, sizes, depth, count, chains, Passes, IsReached}

-- at these two stages the cause alone doesn't settle what is said: which place is named where no source is spelled,
-- and which closed chain where there are several
abbrev pub IsUnsettled : Stage → Type 0
IsUnsettled scanning = ⊥
IsUnsettled grammar = Unit {0}
IsUnsettled sizes = ⊥
IsUnsettled depth = ⊥
IsUnsettled count = ⊥
IsUnsettled chains = Unit {0}

-- two refusals are the same, or come at one of these stages
pub record AreAtOneStage (a b : SourceRefusal) : Type 0 where
  pub stages : refusal_stage a ≡ refusal_stage b
  pub same : (a ≡ b) ⊎ IsUnsettled (refusal_stage a)

-- at most one source is accepted; a text that spells an accepted source isn't refused, and passes all stages; what
-- refuses a text comes at the first stage that it doesn't pass, and what refuses it at one stage is one
pub record HasOneAnswer (bytes : List ℕ) : Type 0 where
  pub one_source : (S R : SourceTree) → Accepts bytes S → Accepts bytes R → S ≡ R
  pub never_both : (S : SourceTree) (a : SourceRefusal) → Accepts bytes S → IsRefused bytes a → ⊥
  pub passes : (S : SourceTree) (k : Stage) → Accepts bytes S → Passes bytes k
  pub reached : (a : SourceRefusal) → IsRefused bytes a → IsReached bytes (refusal_stage a)
  pub stops : (a : SourceRefusal) → IsRefused bytes a → Passes bytes (refusal_stage a) → ⊥
  pub one_refusal : (a b : SourceRefusal) → IsRefused bytes a → IsRefused bytes b → AreAtOneStage a b
