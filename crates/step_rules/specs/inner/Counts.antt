-- What the steps of a count go by. Only the code of this crate reads this file.
use Rattle.std.specs.Prelude.{ℕ, ◌+◌, Bool, true, false, ℤ, pos, ◌+ℤ◌, List, [], ◌∷◌}
use Rattle.ground_model.specs.declared.linear.Place.{Place}

-- 1 where it is true, else 0
abbrev pub one_if : Bool → ℕ
one_if true = 1
one_if false = 0

-- how many pass the test
abbrev pub count_of : {X : Type 0} → (X → Bool) → List X → ℕ
count_of test [] = 0
count_of test (x ∷ xs) = one_if (test x) + count_of test xs

-- the duration where it is true, else 0
abbrev pub work_if : Bool → Place → ℤ
work_if true place = place.duration
work_if false place = pos 0

-- the durations of those that pass the test, together
abbrev pub work_in : (Place → Bool) → List Place → ℤ
work_in test [] = pos 0
work_in test (place ∷ places) = work_if (test place) place +ℤ work_in test places
