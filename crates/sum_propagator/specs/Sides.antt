-- A sum and the opposite one. Only the code of this crate reads this file.
use Rattle.std.specs.Prelude.{◌≤◌, ◌^◌, Bool, true, false, ℤ, pos, neg_ℤ, ◌-ℤ◌}
use Rattle.std.specs.Int.RustNames.{unsigned_abs}
use Rattle.sum_propagator.specs.declared.sum.Totals.{Totals}

-- the sum is at most the number, or the opposite one at most its opposite less one
abbrev pub limit_of : Bool → ℤ → ℤ
limit_of true most = most
limit_of false most = neg_ℤ most -ℤ pos 1

-- the least sum, or the least opposite one
abbrev pub total_of : Bool → ℤ → ℤ → ℤ
total_of true least greatest = least
total_of false least greatest = neg_ℤ greatest

-- far within 128 bits
pub record AreSmall (totals : Totals) : Type 0 where
  pub least : unsigned_abs totals.least ≤ 2 ^ 126
  pub greatest : unsigned_abs totals.greatest ≤ 2 ^ 126
