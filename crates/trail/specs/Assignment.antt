-- What callers see of a trail.
use Rattle.std.specs.Prelude.{◌≡◌, ℕ, ◌≤◌, nat_le, Bool, true, false, ℤ, pos, ◌-ℤ◌, List, [], ◌∷◌, ◌++◌, map, Option, None, Some}
use Rattle.std.specs.List.{filter}
use Rattle.literals.specs.declared.lit.Lit.{Lit}
use Rattle.literals.specs.declared.lit.Lit.TheVariants.{Atom, Body, Constraint, AtMost, AtLeast}
use Rattle.literals.specs.declared.places.Counts.{Counts}
use Rattle.literals.specs.Lits.{IsLit}
use Rattle.order_literals.specs.Orders.{OrderLits, with_literal}
use Rattle.trail.specs.declared.shape.Shape.{Shape}
use Rattle.trail.specs.declared.entry.Why.{Why}
use Rattle.trail.specs.declared.entry.Entry.{Entry}
use Rattle.trail.specs.declared.entry.Placed.{Placed}
use Rattle.trail.specs.declared.entry.Placed.TheVariants.{Already, Clash, Done}
use Rattle.trail.specs.Implied.{implied, truth_of, lower_of, upper_of, since_of}

-- the shape, the open level, the order literals that were made, and the entries in the order of setting
pub record Assignment : Type 0 where
  pub shape : Shape
  pub level : ℕ
  pub orders : OrderLits
  pub entries : List Entry

-- the literals of these entries
abbrev pub lits_of : List Entry → List Lit
lits_of entries = map (λ e. e.lit) entries

-- whether the literal is true on the trail: an entry implies it or the ends do
abbrev pub is_true_on : Assignment → Lit → Bool
is_true_on t l = implied t.shape.ends (lits_of t.entries) l

-- how the literal stands on the trail
abbrev pub truth_on : Assignment → Lit → Option Bool
truth_on t l = truth_of t.shape.ends (lits_of t.entries) l

-- the least number that the variable may have on the trail
abbrev pub lower_on : Assignment → ℕ → ℤ
lower_on t x = lower_of t.shape.ends (lits_of t.entries) x

-- the greatest number that the variable may have on the trail
abbrev pub upper_on : Assignment → ℕ → ℤ
upper_on t x = upper_of t.shape.ends (lits_of t.entries) x

-- the entry at which the literal became true
abbrev pub since_on : Assignment → Lit → Option ℕ
since_on t l = since_of t.shape.ends (lits_of t.entries) l

-- the number of the literal is of the shape
abbrev pub IsOf : Shape → Lit → Type 0
IsOf s (Atom n sign) = n ≤ s.atoms
IsOf s (Body n sign) = n ≤ s.bodies
IsOf s (Constraint n sign) = n ≤ s.constraints
IsOf s (AtMost x k) = x ≤ s.variables
IsOf s (AtLeast x k) = x ≤ s.variables

-- how many there are of each kind
abbrev pub counts_of : Shape → Counts
counts_of s = record { atoms = s.atoms; bodies = s.bodies; constraints = s.constraints; variables = s.variables }

-- a well formed literal of the shape
pub record Names (s : Shape) (l : Lit) : Type 0 where
  pub literal : IsLit l
  pub within : IsOf s l

-- the order literals after one more entry: a bound makes the one that it names, and x >= k names x <= k-1
abbrev pub orders_with : OrderLits → Lit → OrderLits
orders_with orders (Atom n sign) = orders
orders_with orders (Body n sign) = orders
orders_with orders (Constraint n sign) = orders
orders_with orders (AtMost x k) = with_literal orders x k
orders_with orders (AtLeast x k) = with_literal orders x (k -ℤ pos 1)

-- the trail with one more entry
abbrev pub with_entry : Assignment → Entry → Assignment
with_entry t e = record t { orders = orders_with t.orders e.lit; entries = t.entries ++ e ∷ [] }

-- the literal as an entry of the open level
abbrev pub entry_of : Assignment → Lit → Why → Entry
entry_of t l why = record { lit = l; level = t.level; why = why }

-- the trail with the entries up to the level alone
abbrev pub undone_to : ℕ → Assignment → Assignment
undone_to level t = record t { level = level; entries = filter (λ e. nat_le e.level level) t.entries }

-- what setting a literal answers, and what it leaves
abbrev pub Places : Assignment → Lit → Why → Placed → Assignment → Type 0
Places old l why Already new = (truth_on old l ≡ Some true) × (new ≡ old)
Places old l why Clash new = (truth_on old l ≡ Some false) × (new ≡ old)
Places old l why Done new = (truth_on old l ≡ None) × (new ≡ with_entry old (entry_of old l why))

-- entries over the shape, the first of them after these literals at this level and the last up to the high level: each was open when it was set, and levels do not fall
abbrev pub Follow : Shape → List Lit → ℕ → List Entry → ℕ → Type 0
Follow s before level [] high = level ≤ high
Follow s before level (e ∷ es) high = Names s e.lit × (truth_of s.ends before e.lit ≡ None) × (level ≤ e.level) × Follow s (before ++ e.lit ∷ []) e.level es high

-- what holds of every trail
pub record IsAssignment (t : Assignment) : Type 0 where
  pub entries : Follow t.shape [] 0 t.entries t.level
  pub variables : t.orders.variables ≡ t.shape.variables
