-- What a propagator stands for. It is plain data, so that what no call changes is one equation.
use Rattle.std.specs.Prelude.{ℕ, Bool, List}
use Rattle.literals.specs.declared.reason.Reason.{Reason}
use Rattle.trail.specs.declared.shape.Shape.{Shape}
use Rattle.trail.specs.Assignment.{Assignment}
use Rattle.propagator_core.specs.declared.touch.Touch.{Touch}

pub record Meaning : Type 0 where
  -- the number of its constraint
  pub number : ℕ
  -- whether the shape has every number of the constraint, and all sums under its ends are small
  pub fits : Shape → Bool
  -- whether the reason is valid under the shape
  pub valid : Shape → Reason → Bool
  -- whether the truth of the constraint of this number is counted
  pub counts : ℕ → Bool
  -- whether the trail says of the constraint what its values say
  pub settled : Assignment → Bool
  -- the bounds and the truths at which it looks
  pub touches : List Touch
  -- whether it rests on the trail: by these bounds and truths alone nothing is left to say
  pub rests : Assignment → Bool
