-- Statements are put in order from the last one on.
use Rattle.std.proofs.Common.{◌≡◌, ◌<◌, ℕ, List, [], ◌∷◌, ◌++◌, length, take, Some, slice_get, reverse, refl, sym, ◌∙◌, ap, subst, arith}
use Rattle.std.specs.List.{AllZip}
use Rattle.std.proofs.lemmas.List.{append_assoc, append-nil, reverse-append}
use Rattle.syntax_tree.specs.declared.statement.Statement.{Statement}
use Rattle.ordered_bodies.specs.Programs.{IsGroundableIn, IsOrderedIn, AreOrderedIn}

-- ORDERS BESIDE THEM

abbrev pub Orders : Type 0
Orders = List (List ℕ)

-- as many orders as statements
as_many : (statements : List Statement) (orders : Orders) → AllZip IsGroundableIn statements orders → take (length statements) orders ≡ orders
as_many [] [] all = refl
as_many [] (order ∷ orders) all = absurd all
as_many (one ∷ statements) [] all = absurd all
as_many (one ∷ statements) (order ∷ orders) all = ap (λ z. order ∷ z) (as_many statements orders all.1)

same : (one other : List ℕ) → Some one ≡ Some other → one ≡ other
same one other e = cc

-- what holds of the last of the statements
record Last (left : List Statement) (one : Statement) (orders : Orders) : Type 0 where
  rest : AllZip IsGroundableIn left (take (length left) orders)
  here : (order : List ℕ) → slice_get orders (length left) ≡ Some order → IsGroundableIn one order
  within : length left < length orders

last : (left : List Statement) (one : Statement) (orders : Orders) → AllZip IsGroundableIn (left ++ one ∷ []) (take (length (left ++ one ∷ [])) orders) → Last left one orders
last [] one [] all = absurd all
last [] one (order ∷ orders) all = record { rest = tt; here = λ z e. subst (IsGroundableIn one) (same order z e) all.0; within = omega arith }
last (first ∷ left) one [] all = absurd all
last (first ∷ left) one (order ∷ orders) all =
    let r = last left one orders all.1 in
    let less = r.within in record { rest = (all.0, r.rest); here = r.here; within = omega (arith, less) }

one_more : (left : List Statement) (one : Statement) (orders : Orders) (zs : List Statement) (done : Statement) (order : List ℕ) → length left < length orders → slice_get orders (length left) ≡ Some order
    → AreOrderedIn left (take (length left) orders) zs → IsOrderedIn order one done → AreOrderedIn (left ++ one ∷ []) (take (length (left ++ one ∷ [])) orders) (zs ++ done ∷ [])
one_more [] one [] zs done order less e all h = absurd (omega (arith, less))
one_more [] one (first ∷ orders) [] done order less e all h = (subst (λ z. IsOrderedIn z one done) (sym (same first order e)) h, tt)
one_more [] one (first ∷ orders) (z ∷ zs) done order less e all h = absurd all
one_more (x ∷ left) one [] zs done order less e all h = absurd (omega (arith, less))
one_more (x ∷ left) one (first ∷ orders) [] done order less e all h = absurd all
one_more (x ∷ left) one (first ∷ orders) (z ∷ zs) done order less e all h = (all.0, one_more left one orders zs done order (omega (arith, less)) e all.1 h)

-- THE LOOP

-- some are left, and the others are done
pub record AreUnderway (start left : List Statement) (orders : Orders) (done : List Statement) : Type 0 where
  pub rest : AllZip IsGroundableIn left (take (length left) orders)
  pub goes : (zs : List Statement) → AreOrderedIn left (take (length left) orders) zs → AreOrderedIn start orders (zs ++ reverse done)

pub begun : (start : List Statement) (orders : Orders) (done : List Statement) → AllZip IsGroundableIn start orders → done ≡ [] → AreUnderway start start orders done
begun start orders done all e =
    let all_orders = as_many start orders all in record {
      rest = subst (λ z. AllZip IsGroundableIn start z) (sym all_orders) all;
      goes = λ zs h. subst (λ ys. AreOrderedIn start orders ys) (sym (append-nil zs) ∙ ap (λ ys. zs ++ reverse ys) (sym e)) (subst (λ z. AreOrderedIn start z zs) all_orders h);
    }

last_of : (start old left : List Statement) (orders : Orders) (done : List Statement) (one : Statement) → AreUnderway start old orders done → old ≡ left ++ one ∷ [] → Last left one orders
last_of start old left orders done one u e = last left one orders (subst (λ z. AllZip IsGroundableIn z (take (length z) orders)) e u.rest)

pub fits : (start old left : List Statement) (orders : Orders) (done : List Statement) (one : Statement) (place : ℕ) (order : List ℕ) → AreUnderway start old orders done → old ≡ left ++ one ∷ []
    → place ≡ length left → slice_get orders place ≡ Some order → IsGroundableIn one order
fits start old left orders done one place order u e p o = (last_of start old left orders done one u e).here order (subst (λ z. slice_get orders z ≡ Some order) p o)

pub stands : (start old left : List Statement) (orders : Orders) (done : List Statement) (one : Statement) (place : ℕ) → AreUnderway start old orders done → old ≡ left ++ one ∷ []
    → place ≡ length left → place < length orders
stands start old left orders done one place u e p = subst (λ z. z < length orders) (sym p) (last_of start old left orders done one u e).within

pub goes_on : (start old left : List Statement) (orders : Orders) (done after : List Statement) (one new : Statement) (place : ℕ) (order : List ℕ) → AreUnderway start old orders done → old ≡ left ++ one ∷ []
    → place ≡ length left → slice_get orders place ≡ Some order → IsOrderedIn order one new → after ≡ done ++ new ∷ [] → AreUnderway start left orders after
goes_on start old left orders done after one new place order u e p o h a =
    let l = last_of start old left orders done one u e in record {
      rest = l.rest;
      goes = λ zs all. subst (λ ys. AreOrderedIn start orders (zs ++ reverse ys)) (sym a)
          (subst (λ ys. AreOrderedIn start orders ys) (append_assoc zs (new ∷ []) (reverse done) ∙ ap (λ ys. zs ++ ys) (sym (reverse-append done (new ∷ []))))
          (u.goes (zs ++ new ∷ []) (subst (λ z. AreOrderedIn z (take (length z) orders) (zs ++ new ∷ [])) (sym e)
          (one_more left one orders zs new order l.within (subst (λ z. slice_get orders z ≡ Some order) p o) all h))));
    }

pub all_done : (start left : List Statement) (orders : Orders) (done after : List Statement) → AreUnderway start left orders done → left ≡ [] → after ≡ reverse done → AreOrderedIn start orders after
all_done start left orders done after u e a =
    subst (λ z. AreOrderedIn start orders z) (sym a) (u.goes [] (subst (λ z. AreOrderedIn z (take (length z) orders) []) (sym e) tt))
