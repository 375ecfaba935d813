-- Which variables of a rule are unsafe, as flags.
use Rattle.std.specs.Prelude.{◌≡◌, ℕ, Bool, true, List}
use Rattle.ground_model.specs.Members.{IsMember}
use Rattle.definite_rules.specs.Least.{flag_at}
use Rattle.program_meaning.specs.Read.{ReadRule}
use Rattle.program_meaning.specs.Safety.{IsUnsafe}

-- of the rule's variables, those that are unsafe have their flag
pub record AreUnsafe (rule : ReadRule) (flags : List Bool) : Type 0 where
  pub sound : (n : ℕ) → IsMember rule.order n → flag_at flags n ≡ true → IsUnsafe rule n
  pub whole : (n : ℕ) → IsUnsafe rule n → flag_at flags n ≡ true
