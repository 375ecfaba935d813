-- Rules whose variables are numbered.
use Rattle.std.specs.Prelude.{◌<◌, ◌≤◌, ℕ, length}
use Rattle.syntax_tree.specs.declared.rule.Rule.{Rule}
use Rattle.ground_model.specs.Members.{IsMember}
use Rattle.rewriting.specs.declared.sight.Sight.TheVariants.{Variable}
use Rattle.rewriting.specs.Order.{sights_of}

-- the variables that are seen in the rule are those of its names, by their numbers from 1
pub record AreNamed (rule : Rule) : Type 0 where
  pub known : (n : ℕ) → IsMember (sights_of rule) (Variable n) → (0 < n) × (n ≤ length rule.names)
  pub all : (n : ℕ) → 0 < n → n ≤ length rule.names → IsMember (sights_of rule) (Variable n)
