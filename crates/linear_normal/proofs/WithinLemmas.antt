-- Truths where nothing is nested deeper than so many times.
use Rattle.std.proofs.Common.{◌≡◌, ℕ, zero, suc, refl}
use Rattle.ground_model.specs.World.{World}
use Rattle.linear_normal.specs.declared.numbered.Numbered.{Numbered}
use Rattle.linear_normal.specs.Truth.{truths_within}

pub value_within : (depth : ℕ) (numbered : Numbered) (world : World) (x : ℕ) → (truths_within depth numbered world).value x ≡ world.values x
value_within zero numbered world x = refl
value_within (suc depth) numbered world x = refl
