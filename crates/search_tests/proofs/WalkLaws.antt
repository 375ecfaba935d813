-- What sums carry from call to call.
use Rattle.std.proofs.Common.{◌≡◌, ℕ, IsTrue, sym, subst, arith, take, List, [], ℤ}
use Rattle.symbols.specs.declared.ends.Ends.{Ends}
use Rattle.linear_normal.specs.declared.constraint.Item.{Item}
use Rattle.trail.specs.declared.shape.Shape.{Shape}
use Rattle.trail.specs.declared.entry.Entry.{Entry}
use Rattle.trail.specs.Assignment.{Assignment}
use Rattle.propagator_core.specs.Meaning.{Meaning}
use Rattle.propagator_core.specs.Standing.{StandsFor}
use Rattle.sum_propagator.specs.Sums.{fits_sum, sum_meaning}

pub fits_same : (m : Meaning) (n : ℕ) (is : List Item) (k : ℤ) (s : Shape) → m ≡ sum_meaning n is k → IsTrue (fits_sum n is s) → IsTrue (m.fits s)
fits_same m n is k s e h = subst (λ (m : Meaning). IsTrue (m.fits s)) (sym e) h

pub stands_new : (stands : Ends → List Entry → Type 0) (seen : ℕ) (t : Assignment) → seen ≡ 0 → ((e : Ends) → stands e []) → StandsFor stands seen t
stands_new stands seen t e h = record {
  within = omega (arith, e);
  for_these = subst (λ (n : ℕ). stands t.shape.ends (take n t.entries)) (sym e) (h t.shape.ends);
}

pub fits_on : (m n : Meaning) (a b : Shape) → n ≡ m → b ≡ a → IsTrue (m.fits a) → IsTrue (n.fits b)
fits_on m n a b e f h = subst (λ (s : Shape). IsTrue (n.fits s)) (sym f) (subst (λ (k : Meaning). IsTrue (k.fits a)) (sym e) h)
