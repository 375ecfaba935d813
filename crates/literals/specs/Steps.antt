-- The rules by which reasons hold, as far as a line of a derivation can name them.
use Rattle.std.specs.Prelude.{◌≡◌, ℕ, ◌^◌, ◌≤◌, Bool, true, ◌&&◌, nat_lt, ℤ, pos, neg_ℤ, ◌<ℤ◌, List, [], ◌∷◌}
use Rattle.literals.specs.declared.reason.Step.{Step}
use Rattle.literals.specs.declared.reason.Step.TheVariants.{Sum, Distinct, Window, Pair, Loop, Hole}

-- strictly between -2^63 and 2^63
abbrev pub IsWindowEnd : ℤ → Type 0
IsWindowEnd z = (neg_ℤ (pos (2 ^ 63)) <ℤ z) × (z <ℤ pos (2 ^ 63))

-- whether the numbers strictly ascend from above this one
abbrev pub ascend_above : ℕ → List ℕ → Bool
ascend_above last [] = true
ascend_above last (n ∷ rest) = nat_lt last n && ascend_above n rest

-- the numbers of the step are those that a line can name: only the objective and the ends of the variables have the number 0, and a loop has an atom
abbrev pub IsStep : Step → Type 0
IsStep (Sum c) = Unit {0}
IsStep (Distinct c low high) = (1 ≤ c) × IsWindowEnd low × IsWindowEnd high
IsStep (Window c from to) = (1 ≤ c) × IsWindowEnd from × IsWindowEnd to
IsStep (Pair c i j) = (1 ≤ c) × (1 ≤ i) × (1 ≤ j)
IsStep (Loop []) = ⊥
IsStep (Loop (a ∷ atoms)) = ascend_above 0 (a ∷ atoms) ≡ true
IsStep (Hole c) = Unit {0}
