-- How a walk over a rule goes on: by what is made of a piece.
use Rattle.std.specs.Prelude.{◌≡◌, List, ◌++◌}
use Rattle.syntax_tree.specs.declared.literal.Literal.{Literal}
use Rattle.rewriting.specs.declared.walk.Walk.{Walk}
use Rattle.syntax_tree.specs.declared.rule.Head.{Head}
use Rattle.rewriting.specs.declared.rules.SeenParts.{SeenParts}
use Rattle.rewriting.specs.Made.{Made}

-- the piece is made, what is seen in it stands behind what was seen, and what comes with it behind what came
pub record Becomes {X : Type 0} (a : Made X) (old new : Walk) (added_old added_new : List Literal) (x : X) : Type 0 where
  pub made : x ≡ a.made
  pub next : new.next ≡ a.next
  pub sights : new.sights ≡ old.sights ++ a.sights
  pub added : added_new ≡ added_old ++ a.added

-- the head and the body are those that are made, with what comes with them behind the body
pub record AreParts (a : Made (Head × List Literal)) (parts : SeenParts) : Type 0 where
  pub head : parts.head ≡ a.made.0
  pub body : parts.body ≡ a.made.1 ++ a.added
  pub sights : parts.sights ≡ a.sights
