-- Literals: which are well formed, the opposite of one, and which follows from which.
use Rattle.std.specs.Prelude.{◌-◌, ◌^◌, ◌≤◌, Bool, false, not, ◌&&◌, ◌==◌, pos, neg_ℤ, ◌+ℤ◌, ◌-ℤ◌, ◌≤ℤ◌, int_le}
use Rattle.literals.specs.Truths.{signed}
use Rattle.literals.specs.declared.lit.Lit.{Lit}
use Rattle.literals.specs.declared.lit.Lit.TheVariants.{Atom, Body, Constraint, AtMost, AtLeast}

-- numbers of atoms, bodies, constraints and variables are counted from 1, and both a bound and its opposite lie from -2^30 to 2^30
abbrev pub IsLit : Lit → Type 0
IsLit (Atom n sign) = 1 ≤ n
IsLit (Body n sign) = 1 ≤ n
IsLit (Constraint n sign) = 1 ≤ n
IsLit (AtMost x k) = (1 ≤ x) × (neg_ℤ (pos (2 ^ 30)) ≤ℤ k) × (k ≤ℤ pos (2 ^ 30 - 1))
IsLit (AtLeast x k) = (1 ≤ x) × (neg_ℤ (pos (2 ^ 30 - 1)) ≤ℤ k) × (k ≤ℤ pos (2 ^ 30))

-- the literal that is true exactly where this one is false
abbrev pub complement_of : Lit → Lit
complement_of (Atom n sign) = Atom n (not sign)
complement_of (Body n sign) = Body n (not sign)
complement_of (Constraint n sign) = Constraint n (not sign)
complement_of (AtMost x k) = AtLeast x (k +ℤ pos 1)
complement_of (AtLeast x k) = AtMost x (k -ℤ pos 1)

-- whether the second is the first, or a weaker bound on the same side of the same variable
abbrev pub implies_lit : Lit → Lit → Bool
implies_lit (Atom n s) (Atom m r) = (n == m) && signed s r
implies_lit (Body n s) (Body m r) = (n == m) && signed s r
implies_lit (Constraint n s) (Constraint m r) = (n == m) && signed s r
implies_lit (AtMost x k) (AtMost y j) = (x == y) && int_le k j
implies_lit (AtLeast x k) (AtLeast y j) = (x == y) && int_le j k
implies_lit _ _ = false

-- whether the two are one literal
abbrev pub same_lit : Lit → Lit → Bool
same_lit a b = implies_lit a b && implies_lit b a
