-- What arithmetic gives is a number, over or undefined.
use Rattle.std.proofs.Common.{◌≡◌, ℤ, Some}
use Rattle.symbols.specs.Symbol.{Number as NumberSymbol}
use Rattle.syntax_tree.specs.declared.term.Op.{Op}
use Rattle.syntax_tree.specs.declared.amount.Amount.{Amount}
use Rattle.syntax_tree.specs.declared.amount.Amount.TheVariants.{Number, Over, Undefined}
use Rattle.syntax_tree.specs.Outcome.{Outcome, IsSymbol, IsOver, IsUndefined}
use Rattle.syntax_tree.specs.Value.{plain, joined, some_outcome, negated}

-- what holds of every number, of over and of undefined
pub record HoldsOfPlain (P : Outcome → Type 0) : Type 0 where
  pub number : (n : ℤ) → P (IsSymbol (NumberSymbol n))
  pub over : P IsOver
  pub undefined : P IsUndefined

plain_has : (P : Outcome → Type 0) → HoldsOfPlain P → (a : Amount) → P (plain a)
plain_has P h (Number n) = h.number n
plain_has P h Over = h.over
plain_has P h Undefined = h.undefined

-- the value of two parts that are joined
pub joined_has : (P : Outcome → Type 0) → HoldsOfPlain P → (total : Outcome) (part : Op × Outcome) → P (some_outcome (joined (Some total) part))
joined_has P h total part = plain_has P h _

-- the value with the other sign
pub negated_has : (P : Outcome → Type 0) → HoldsOfPlain P → (outcome : Outcome) → P (negated outcome)
negated_has P h outcome = plain_has P h _
