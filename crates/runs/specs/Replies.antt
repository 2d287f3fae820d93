-- The replies of calls.
use Rattle.std.specs.Prelude.{◌≡◌}
use Rattle.rules.specs.Meaning.{Meaning}
use Rattle.trees.specs.State.{State}
use Rattle.trees.specs.Calls.{Call}
use Rattle.trees.specs.Play.{step}
use Rattle.script.specs.declared.answer.Fields.{Fields}
use Rattle.script.specs.Answers.{reply_of}

-- under a rule, the call leads from the old state to the new one, and is replied to, as the theory says
pub record Replies (m : Meaning) (c : Call) (old new : State) (reply : Fields) : Type 0 where
  pub state : new ≡ (step m old c).state
  pub replied : reply ≡ reply_of (step m old c).answer
