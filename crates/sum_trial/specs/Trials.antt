-- The sums that the trials narrow, the literals that their trails begin with, and what a trail has at the end.
use Rattle.std.specs.Prelude.{◌≡◌, ℕ, zero, suc, ◌+◌, ◌-◌, ◌≤◌, ◌⊎◌, Bool, true, ℤ, pos, negsuc, List, [], ◌∷◌, ◌++◌, length}
use Rattle.literals.specs.declared.lit.Lit.{Lit}
use Rattle.literals.specs.declared.lit.Lit.TheVariants.{Constraint, AtLeast}
use Rattle.literals.specs.declared.reason.Reason.{Reason}
use Rattle.literals.specs.Lits.{complement_of}
use Rattle.linear_normal.specs.declared.constraint.Item.{Item}
use Rattle.linear_normal.specs.declared.constraint.Item.TheVariants.{Value, Truth}
use Rattle.trail.specs.declared.shape.Shape.{Shape}
use Rattle.trail.specs.declared.entry.Entry.{Entry}
use Rattle.trail.specs.declared.entry.Why.TheVariants.{Decision}
use Rattle.trail.specs.Assignment.{Assignment, lits_of, is_true_on}
use Rattle.trail.specs.Growth.{Grows}
use Rattle.propagator_core.specs.Meaning.{Meaning}
use Rattle.propagator_core.specs.Shown.{IsShown, IsConflict}
use Rattle.propagator_core.specs.Several.{some_valid, AllQuiet}
use Rattle.sum_propagator.specs.Sums.{sum_meaning, valid_sum}

-- STARTS

-- the literals that the first constraints are true
abbrev pub first_true : ℕ → List Lit
first_true zero = []
first_true (suc n) = first_true n ++ Constraint (suc n) true ∷ []

-- A CHAIN

-- the variable of this number and the next one taken away
abbrev pub linked_items : ℕ → List Item
linked_items n = Value n (pos 1) ∷ Value (n + 1) (negsuc 0) ∷ []

-- the constraint of this number: the variable of the number is at least 10 below the next one
abbrev pub link_meaning : ℕ → Meaning
link_meaning n = sum_meaning n (linked_items n) (negsuc 9)

-- those of the numbers from 1 to this one
abbrev pub chain_meanings : ℕ → List Meaning
chain_meanings zero = []
chain_meanings (suc n) = chain_meanings n ++ link_meaning (suc n) ∷ []

-- all sums are quiet, or one of them is in conflict
abbrev pub IsEnded : List Meaning → Assignment → Type 0
IsEnded meanings t = AllQuiet meanings t ⊎ ((r : Reason) × IsConflict (some_valid meanings) t r)

-- so many entries there are at the end of such a chain: it began with its constraints true, and each further entry has a valid reason
pub record IsChained (count entries : ℕ) : Type 0 where
  pub from : Assignment
  pub last : Assignment
  pub began : lits_of from.entries ≡ first_true count
  pub grows : Grows (IsShown (some_valid (chain_meanings count))) from last
  pub ended : IsEnded (chain_meanings count) last
  pub entries_are : entries ≡ length last.entries

-- ONE SUM

-- the first variable, the second one taken away, and the truths of so many constraints from 2 on
abbrev pub wide_items : ℕ → List Item
wide_items zero = Value 1 (pos 1) ∷ Value 2 (negsuc 0) ∷ []
wide_items (suc n) = wide_items n ++ Truth (n + 2) (pos 1) ∷ []

-- the entry was decided: the first variable is at least a number from 1 to this one
abbrev pub IsRaise : ℕ → Entry → Type 0
IsRaise times e = (k : ℕ) × (1 ≤ k) × (k ≤ times) × (e.lit ≡ AtLeast 1 (pos k)) × (e.why ≡ Decision)

-- the literal is true or false
abbrev pub IsKnown : Assignment → Lit → Type 0
IsKnown t l = (is_true_on t l ≡ true) ⊎ (is_true_on t (complement_of l) ≡ true)

-- each bound of the first variable from 1 to this one is known
abbrev pub AreRaised : ℕ → Assignment → Type 0
AreRaised zero t = Unit {0}
AreRaised (suc n) t = AreRaised n t × IsKnown t (AtLeast 1 (pos (suc n)))

-- each new entry raises the first variable, or has a valid reason
abbrev pub GrowsRaised : ℕ → (Shape → Reason → Bool) → Assignment → Assignment → Type 0
GrowsRaised times valid old new = Grows (λ t e. IsRaise times e ⊎ IsShown valid t e) old new

-- so many entries there are when the sum of the wide items has been called after each raised bound
pub record IsWidened (count : ℕ) (most : ℤ) (entries : ℕ) : Type 0 where
  pub from : Assignment
  pub last : Assignment
  pub began : lits_of from.entries ≡ first_true 1
  pub grows : GrowsRaised count (valid_sum 1 (wide_items (count - 1)) most) from last
  pub raised : AreRaised count last
  pub entries_are : entries ≡ length last.entries
