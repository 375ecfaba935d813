-- Products with a bound, and how they move with it.
use Rattle.std.proofs.Common.{◌≡◌, ℕ, zero, suc, ◌+◌, ◌*◌, ◌^◌, ◌<◌, ◌≤◌, refl, sym, ◌∙◌, ap, subst, arith, ℤ, pos, negsuc, ◌+ℤ◌, ◌-ℤ◌, ◌*ℤ◌, ◌≤ℤ◌, ◌<ℤ◌, ◌⊎◌, inl, inr}
use Rattle.std.proofs.Math.IntN.{neg_ℤ, suc_ℤ-*ℤ, pred_ℤ-*ℤ, zero-*ℤ, *ℤ_comm, *ℤ-negsuc}
use Rattle.std.specs.Int.RustNames.{unsigned_abs}
use Rattle.std.proofs.lemmas.Int.{ints, unsigned_abs-mul}
use Rattle.linear_normal.specs.Bounds.{least_times, greatest_times}
use Rattle.linear_normal.specs.declared.constraint.Item.{Item}
use Rattle.literals.specs.declared.lit.Lit.{Lit}
use Rattle.trail_bounds.specs.Items.{at_most, at_least}
use Rattle.trail_bounds.specs.inner.Steps.{Costs, IsBacking, IsBacked, Lowers, Raises}

grown : (x y z a : ℤ) (m k j : ℕ) → x ≡ y +ℤ pos k → z ≡ y +ℤ a → j ≡ k + m → x +ℤ (a +ℤ pos m) ≡ z +ℤ pos j
grown x y z a m k j e f g = omega (arith, ints, e, f, g)

scale_add : (n m : ℕ) (a : ℤ) → pos n *ℤ (a +ℤ pos m) ≡ pos n *ℤ a +ℤ pos (n * m)
scale_add zero m a = zero-*ℤ (a +ℤ pos m) ∙ sym (step (pos zero *ℤ a) (zero-*ℤ a))
  where
    step : (x : ℤ) → x ≡ pos zero → x +ℤ pos (zero * m) ≡ pos zero
    step x e = let z : zero * m ≡ 0 = omega arith in omega (arith, ints, e, z)
scale_add (suc n) m a =
    suc_ℤ-*ℤ (pos n) (a +ℤ pos m)
    ∙ grown (pos n *ℤ (a +ℤ pos m)) (pos n *ℤ a) (pos (suc n) *ℤ a) a m (n * m) (suc n * m) (scale_add n m a) (suc_ℤ-*ℤ (pos n) a) (grind arith)

shrunk : (x y z a : ℤ) (m k j : ℕ) → x +ℤ pos k ≡ y → z ≡ y -ℤ a → j ≡ k + m → (x -ℤ (a +ℤ pos m)) +ℤ pos j ≡ z
shrunk x y z a m k j e f g = omega (arith, ints, e, f, g)

scale_sub : (n m : ℕ) (a : ℤ) → negsuc n *ℤ (a +ℤ pos m) +ℤ pos (suc n * m) ≡ negsuc n *ℤ a
scale_sub zero m a =
    ap (λ x. x +ℤ pos (suc zero * m)) (pred_ℤ-*ℤ (pos zero) (a +ℤ pos m))
    ∙ shrunk (pos zero *ℤ (a +ℤ pos m)) (pos zero *ℤ a) (negsuc zero *ℤ a) a m 0 (suc zero * m) (omega (arith, ints, zero-*ℤ (a +ℤ pos m), zero-*ℤ a)) (pred_ℤ-*ℤ (pos zero) a) (grind arith)
scale_sub (suc n) m a =
    ap (λ x. x +ℤ pos (suc (suc n) * m)) (pred_ℤ-*ℤ (negsuc n) (a +ℤ pos m))
    ∙ shrunk (negsuc n *ℤ (a +ℤ pos m)) (negsuc n *ℤ a) (negsuc (suc n) *ℤ a) a m (suc n * m) (suc (suc n) * m) (scale_sub n m a) (pred_ℤ-*ℤ (negsuc n) a) (grind arith)

-- what is to be added to reach b from a
gap : (a b : ℤ) → a ≤ℤ b → a +ℤ pos (unsigned_abs (b -ℤ a)) ≡ b
gap a b h = grind (arith, ints)

up_by : (n m : ℕ) (a b : ℤ) → a +ℤ pos m ≡ b → pos n *ℤ b ≡ pos n *ℤ a +ℤ pos (n * m)
up_by n m a b e = ap (λ x. pos n *ℤ x) (sym e) ∙ scale_add n m a

down_by : (n m : ℕ) (a b : ℤ) → a +ℤ pos m ≡ b → negsuc n *ℤ b +ℤ pos (suc n * m) ≡ negsuc n *ℤ a
down_by n m a b e = ap (λ x. negsuc n *ℤ x +ℤ pos (suc n * m)) (sym e) ∙ scale_sub n m a

added : (x y : ℤ) (k : ℕ) → y ≡ x +ℤ pos k → x ≤ℤ y
added x y k e = omega (arith, ints, e)

taken : (x y : ℤ) (k : ℕ) → y +ℤ pos k ≡ x → y ≤ℤ x
taken x y k e = omega (arith, ints, e)

-- tighter bounds give no smaller least product
pub least_times_up : (c a b p q : ℤ) → a ≤ℤ p → q ≤ℤ b → least_times c a b ≤ℤ least_times c p q
least_times_up (pos n) a b p q h g = added (pos n *ℤ a) (pos n *ℤ p) (n * unsigned_abs (p -ℤ a)) (up_by n (unsigned_abs (p -ℤ a)) a p (gap a p h))
least_times_up (negsuc n) a b p q h g = taken (negsuc n *ℤ q) (negsuc n *ℤ b) (suc n * unsigned_abs (b -ℤ q)) (down_by n (unsigned_abs (b -ℤ q)) q b (gap q b g))

-- a bound beyond the room makes the least product exceed the slack
pub beyond_up : (n room slack : ℕ) (a b p q : ℤ) → slack < n * (room + 1) → (a +ℤ pos (room + 1)) ≤ℤ p → (least_times (pos n) a b +ℤ pos slack) <ℤ least_times (pos n) p q
beyond_up n room slack a b p q h g =
    let e = up_by n (room + 1) a (a +ℤ pos (room + 1)) refl in
    let f = up_by n (unsigned_abs (p -ℤ (a +ℤ pos (room + 1)))) (a +ℤ pos (room + 1)) p (gap (a +ℤ pos (room + 1)) p g) in
    over (pos n *ℤ a) (pos n *ℤ (a +ℤ pos (room + 1))) (pos n *ℤ p) (n * (room + 1)) (n * unsigned_abs (p -ℤ (a +ℤ pos (room + 1)))) slack e f h
  where
    over : (x y z : ℤ) (k j s : ℕ) → y ≡ x +ℤ pos k → z ≡ y +ℤ pos j → s < k → (x +ℤ pos s) <ℤ z
    over x y z k j s e f h = omega (arith, ints, e, f, h)

pub beyond_down : (n room slack : ℕ) (a b p q : ℤ) → slack < suc n * (room + 1) → (q +ℤ pos (room + 1)) ≤ℤ b → (least_times (negsuc n) a b +ℤ pos slack) <ℤ least_times (negsuc n) p q
beyond_down n room slack a b p q h g =
    let e = down_by n (room + 1) q (q +ℤ pos (room + 1)) refl in
    let f = down_by n (unsigned_abs (b -ℤ (q +ℤ pos (room + 1)))) (q +ℤ pos (room + 1)) b (gap (q +ℤ pos (room + 1)) b g) in
    over (negsuc n *ℤ b) (negsuc n *ℤ (q +ℤ pos (room + 1))) (negsuc n *ℤ q) (suc n * (room + 1)) (suc n * unsigned_abs (b -ℤ (q +ℤ pos (room + 1)))) slack e f h
  where
    over : (x y z : ℤ) (k j s : ℕ) → y +ℤ pos k ≡ z → x +ℤ pos j ≡ y → s < k → (x +ℤ pos s) <ℤ z
    over x y z k j s e f h = omega (arith, ints, e, f, h)

-- bounds within the room leave the greatest product within the slack
pub within_up : (n m slack : ℕ) (a b : ℤ) → n * m ≤ slack → b ≤ℤ (a +ℤ pos m) → (pos n *ℤ b) ≤ℤ (pos n *ℤ a +ℤ pos slack)
within_up n m slack a b h g =
    let e = up_by n m a (a +ℤ pos m) refl in
    let f = up_by n (unsigned_abs ((a +ℤ pos m) -ℤ b)) b (a +ℤ pos m) (gap b (a +ℤ pos m) g) in
    under (pos n *ℤ a) (pos n *ℤ (a +ℤ pos m)) (pos n *ℤ b) (n * m) (n * unsigned_abs ((a +ℤ pos m) -ℤ b)) slack e f h
  where
    under : (x y z : ℤ) (k j s : ℕ) → y ≡ x +ℤ pos k → y ≡ z +ℤ pos j → k ≤ s → z ≤ℤ (x +ℤ pos s)
    under x y z k j s e f h = omega (arith, ints, e, f, h)

pub within_down : (n m slack : ℕ) (a b : ℤ) → suc n * m ≤ slack → b ≤ℤ (a +ℤ pos m) → (negsuc n *ℤ a) ≤ℤ (negsuc n *ℤ b +ℤ pos slack)
within_down n m slack a b h g =
    let e = down_by n m a (a +ℤ pos m) refl in
    let f = down_by n (unsigned_abs ((a +ℤ pos m) -ℤ b)) b (a +ℤ pos m) (gap b (a +ℤ pos m) g) in
    under (negsuc n *ℤ a) (negsuc n *ℤ (a +ℤ pos m)) (negsuc n *ℤ b) (suc n * m) (suc n * unsigned_abs ((a +ℤ pos m) -ℤ b)) slack e f h
  where
    under : (x y z : ℤ) (k j s : ℕ) → y +ℤ pos k ≡ x → y +ℤ pos j ≡ z → k ≤ s → x ≤ℤ (z +ℤ pos s)
    under x y z k j s e f h = omega (arith, ints, e, f, h)

-- by the sign of the coefficient, one bound alone tells
pub least_up : (c a b p q : ℤ) → pos 0 ≤ℤ c → a ≤ℤ p → least_times c a b ≤ℤ least_times c p q
least_up (pos n) a b p q s h = added (pos n *ℤ a) (pos n *ℤ p) (n * unsigned_abs (p -ℤ a)) (up_by n (unsigned_abs (p -ℤ a)) a p (gap a p h))
least_up (negsuc n) a b p q s h = absurd (omega (arith, ints, s))

pub least_down : (c a b p q : ℤ) → c <ℤ pos 0 → q ≤ℤ b → least_times c a b ≤ℤ least_times c p q
least_down (pos n) a b p q s h = absurd (omega (arith, ints, s))
least_down (negsuc n) a b p q s g = taken (negsuc n *ℤ q) (negsuc n *ℤ b) (suc n * unsigned_abs (b -ℤ q)) (down_by n (unsigned_abs (b -ℤ q)) q b (gap q b g))

pub least_is_up : (c a b : ℤ) → pos 0 ≤ℤ c → least_times c a b ≡ c *ℤ a
least_is_up (pos n) a b s = refl
least_is_up (negsuc n) a b s = absurd (omega (arith, ints, s))

pub least_is_down : (c a b : ℤ) → c <ℤ pos 0 → least_times c a b ≡ c *ℤ b
least_is_down (pos n) a b s = absurd (omega (arith, ints, s))
least_is_down (negsuc n) a b s = refl

-- what one step of pressing finds, case by case
pub rest_within : (c low high : ℤ) (width slack : ℕ) → high ≡ low +ℤ pos width → unsigned_abs c * width ≤ slack → greatest_times c low high ≤ℤ (least_times c low high +ℤ pos slack)
rest_within (pos n) low high width slack e h = within_up n width slack low high h (omega (arith, ints, e))
rest_within (negsuc n) low high width slack e h = within_down n width slack low high h (omega (arith, ints, e))

forced_up : (c low high p q k : ℤ) (room slack : ℕ) → pos 0 <ℤ c → slack < unsigned_abs c * (room + 1) → k ≡ low +ℤ pos room → (k +ℤ pos 1) ≤ℤ p → (least_times c low high +ℤ pos slack) <ℤ least_times c p q
forced_up (pos n) low high p q k room slack s h e g = beyond_up n room slack low high p q h (omega (arith, ints, e, g))
forced_up (negsuc n) low high p q k room slack s h e g = absurd (omega (arith, ints, s))

forced_down : (c low high p q k : ℤ) (room slack : ℕ) → c <ℤ pos 0 → slack < unsigned_abs c * (room + 1) → k ≡ high -ℤ pos room → q ≤ℤ (k -ℤ pos 1) → (least_times c low high +ℤ pos slack) <ℤ least_times c p q
forced_down (pos n) low high p q k room slack s h e g = absurd (omega (arith, ints, s))
forced_down (negsuc n) low high p q k room slack s h e g = beyond_down n room slack low high p q h (omega (arith, ints, e, g))

pub lowered : (item : Item) (c low high k : ℤ) (room width slack : ℕ) → pos 0 <ℤ c → slack < unsigned_abs c * (room + 1) → room < width → high ≡ low +ℤ pos width → k ≡ low +ℤ pos room → Lowers item c slack low high (at_most item k)
lowered item c low high k room width slack s h r e f = record {
  bound = k;
  is = refl;
  above = omega (arith, ints, f);
  below = omega (arith, ints, e, f, r);
  beyond = λ p q g. forced_up c low high p q k room slack s h f g;
}

pub raised : (item : Item) (c low high k : ℤ) (room width slack : ℕ) → c <ℤ pos 0 → slack < unsigned_abs c * (room + 1) → room < width → high ≡ low +ℤ pos width → k ≡ high -ℤ pos room → Raises item c slack low high (at_least item k)
raised item c low high k room width slack s h r e f = record {
  bound = k;
  is = refl;
  above = omega (arith, ints, e, f, r);
  below = omega (arith, ints, f);
  beyond = λ p q g. forced_down c low high p q k room slack s h f g;
}

-- within the range, the least product is at most the greatest one of the range
pub least_within : (c low high p q : ℤ) → p ≤ℤ high → low ≤ℤ q → least_times c p q ≤ℤ greatest_times c low high
least_within (pos n) low high p q h g = least_times_up (pos n) p high high high h (omega (arith, ints))
least_within (negsuc n) low high p q h g = least_times_up (negsuc n) low q low low (omega (arith, ints)) g

-- the opposite coefficient turns the least product into the opposite of the greatest
pub least_opposite : (c low high : ℤ) → least_times (neg_ℤ c) low high ≡ neg_ℤ (greatest_times c low high)
least_opposite (pos zero) low high = zero-*ℤ low ∙ sym (ap neg_ℤ (zero-*ℤ high))
least_opposite (pos (suc n)) low high = *ℤ_comm (negsuc n) high ∙ *ℤ-negsuc high n ∙ ap neg_ℤ (*ℤ_comm high (pos (suc n)))
least_opposite (negsuc n) low high = back (pos (suc n) *ℤ low) (negsuc n *ℤ low) (*ℤ_comm (negsuc n) low ∙ *ℤ-negsuc low n ∙ ap neg_ℤ (*ℤ_comm low (pos (suc n))))
  where
    back : (x y : ℤ) → y ≡ neg_ℤ x → x ≡ neg_ℤ y
    back x y e = omega (arith, ints, e)

-- a coefficient 0 gives 0
pub least_zero : (c a b p q : ℤ) → c ≡ pos 0 → least_times c a b ≤ℤ least_times c p q
least_zero c a b p q e = subst (λ (d : ℤ). least_times d a b ≤ℤ least_times d p q) (sym e) (equal (zero-*ℤ a) (zero-*ℤ p))
  where
    equal : pos 0 *ℤ a ≡ pos 0 → pos 0 *ℤ p ≡ pos 0 → (pos 0 *ℤ a) ≤ℤ (pos 0 *ℤ p)
    equal e f = omega (arith, ints, e, f)

pub product_small : (a b : ℤ) → unsigned_abs a ≤ 2 ^ 63 → unsigned_abs b ≤ 2 ^ 30 → unsigned_abs (a *ℤ b) ≤ 2 ^ 93
product_small a b h g = rw (unsigned_abs-mul a b) (bound (unsigned_abs a) (unsigned_abs b) h g)
  where
    bound : (m n : ℕ) → m ≤ 2 ^ 63 → n ≤ 2 ^ 30 → m * n ≤ 2 ^ 93
    bound m n h g = grind arith

-- a coefficient that is not positive and has some room left is negative
pub below : (c : ℤ) (weight room slack : ℕ) → weight ≡ unsigned_abs c → c ≤ℤ pos 0 → slack < weight * (room + 1) → c <ℤ pos 0
below (pos zero) weight room slack e h g = absurd (none weight e g)
  where
    none : (w : ℕ) → w ≡ 0 → slack < w * (room + 1) → ⊥
    none w e g = let z : w * (room + 1) ≡ 0 = rw e (grind arith) in omega (arith, z, g)
below (pos (suc n)) weight room slack e h g = absurd (omega (arith, ints, h))
below (negsuc n) weight room slack e h g = omega (arith, ints)

-- A WEAKER BOUND

swap : (x y z a b : ℤ) (slack left : ℕ) → x ≡ a → y ≡ b → y ≤ℤ z → (a +ℤ pos left) ≤ℤ (b +ℤ pos slack) → (x +ℤ pos left) ≤ℤ (z +ℤ pos slack)
swap x y z a b slack left e f h w = omega (arith, ints, e, f, h, w)

pub weaker_up : (c a b k p q : ℤ) (slack left : ℕ) → pos 0 ≤ℤ c → k ≤ℤ p → Costs c a k slack left → (least_times c a b +ℤ pos left) ≤ℤ (least_times c p q +ℤ pos slack)
weaker_up c a b k p q slack left s h w = swap (least_times c a b) (least_times c k q) (least_times c p q) (c *ℤ a) (c *ℤ k) slack left (least_is_up c a b s) (least_is_up c k q s) (least_up c k q p q s h) w

pub weaker_down : (c a b k p q : ℤ) (slack left : ℕ) → c <ℤ pos 0 → q ≤ℤ k → Costs c b k slack left → (least_times c a b +ℤ pos left) ≤ℤ (least_times c p q +ℤ pos slack)
weaker_down c a b k p q slack left s h w = swap (least_times c a b) (least_times c p k) (least_times c p q) (c *ℤ b) (c *ℤ k) slack left (least_is_down c a b s) (least_is_down c p k s) (least_down c p k p q s h) w

-- what a bound weaker by so many steps costs
costs_up : (c from k : ℤ) (m slack left : ℕ) → pos 0 ≤ℤ c → (k +ℤ pos m) ≡ from → left + unsigned_abs c * m ≡ slack → Costs c from k slack left
costs_up (pos n) from k m slack left s e w = go (pos n *ℤ from) (pos n *ℤ k) (n * m) (up_by n m k from e) w
  where
    go : (x y : ℤ) (j : ℕ) → x ≡ y +ℤ pos j → left + j ≡ slack → (x +ℤ pos left) ≤ℤ (y +ℤ pos slack)
    go x y j e w = omega (arith, ints, e, w)
costs_up (negsuc n) from k m slack left s e w = absurd (omega (arith, ints, s))

costs_down : (c to k : ℤ) (m slack left : ℕ) → c <ℤ pos 0 → (to +ℤ pos m) ≡ k → left + unsigned_abs c * m ≡ slack → Costs c to k slack left
costs_down (pos n) to k m slack left s e w = absurd (omega (arith, ints, s))
costs_down (negsuc n) to k m slack left s e w = go (negsuc n *ℤ to) (negsuc n *ℤ k) (suc n * m) (down_by n m to k e) w
  where
    go : (x y : ℤ) (j : ℕ) → y +ℤ pos j ≡ x → left + j ≡ slack → (x +ℤ pos left) ≤ℤ (y +ℤ pos slack)
    go x y j e w = omega (arith, ints, e, w)

sign_of : (c : ℤ) → (pos 0 ≤ℤ c) ⊎ (c <ℤ pos 0)
sign_of (pos n) = inl (omega (arith, ints))
sign_of (negsuc n) = inr (omega (arith, ints))

back_to : (from : ℤ) (m : ℕ) → ((from -ℤ pos m) +ℤ pos m) ≡ from
back_to from m = omega (arith, ints)

-- the whole distance is within the slack: the ends say enough
pub backed : (c from to min max : ℤ) (distance weight slack left : ℕ) → weight ≡ unsigned_abs c → (pos 0 ≤ℤ c → from ≡ min +ℤ pos distance) → (c <ℤ pos 0 → max ≡ to +ℤ pos distance) → left + weight * distance ≡ slack → IsBacked c from to min max slack left
backed c from to min max distance weight slack left e low high w = cases (sign_of c)
  where
    paid : left + unsigned_abs c * distance ≡ slack
    paid = ap (λ n. left + n * distance) (sym e) ∙ w

    cases : (pos 0 ≤ℤ c) ⊎ (c <ℤ pos 0) → IsBacked c from to min max slack left
    cases (inl s) = inl (s, costs_up c from min distance slack left s (sym (low s)) paid)
    cases (inr s) = inr (s, costs_down c to max distance slack left s (sym (high s)) paid)

-- part of it is: a bound weaker by so many steps backs the item
pub backing : (item : Item) (c from to min max : ℤ) (distance steps weight slack left : ℕ) (l : Lit) → weight ≡ unsigned_abs c → (pos 0 ≤ℤ c → from ≡ min +ℤ pos distance) → (c <ℤ pos 0 → max ≡ to +ℤ pos distance) → steps < distance → left + weight * steps ≡ slack → (pos 0 ≤ℤ c → l ≡ at_least item (from -ℤ pos steps)) → (c <ℤ pos 0 → l ≡ at_most item (to +ℤ pos steps)) → IsBacking item c from to min max slack left l
backing item c from to min max distance steps weight slack left l e low high less w up down = cases (sign_of c)
  where
    paid : left + unsigned_abs c * steps ≡ slack
    paid = ap (λ n. left + n * steps) (sym e) ∙ w

    cases : (pos 0 ≤ℤ c) ⊎ (c <ℤ pos 0) → IsBacking item c from to min max slack left l
    cases (inl s) = let d = low s in inl (record {
      sign = s;
      bound = from -ℤ pos steps;
      is = up s;
      above = omega (arith, ints, d, less);
      below = omega (arith, ints);
      costs = costs_up c from (from -ℤ pos steps) steps slack left s (back_to from steps) paid;
    })
    cases (inr s) = let d = high s in inr (record {
      sign = s;
      bound = to +ℤ pos steps;
      is = down s;
      above = omega (arith, ints);
      below = omega (arith, ints, d, less);
      costs = costs_down c to (to +ℤ pos steps) steps slack left s refl paid;
    })

-- such a bound is a number of 32 bits
pub near_low : (c low end : ℤ) (distance steps : ℕ) → (pos 0 ≤ℤ c → low ≡ end +ℤ pos distance) → steps < distance → unsigned_abs low ≤ 2 ^ 30 → unsigned_abs end ≤ 2 ^ 30 → pos 0 ≤ℤ c → unsigned_abs (low -ℤ pos steps) ≤ 2 ^ 30
near_low c low end distance steps f less a b s = go (f s)
  where
    go : low ≡ end +ℤ pos distance → unsigned_abs (low -ℤ pos steps) ≤ 2 ^ 30
    go e = grind (arith, ints)

pub near_high : (c high end : ℤ) (distance steps : ℕ) → (c <ℤ pos 0 → end ≡ high +ℤ pos distance) → steps < distance → unsigned_abs high ≤ 2 ^ 30 → unsigned_abs end ≤ 2 ^ 30 → c <ℤ pos 0 → unsigned_abs (high +ℤ pos steps) ≤ 2 ^ 30
near_high c high end distance steps f less a b s = go (f s)
  where
    go : end ≡ high +ℤ pos distance → unsigned_abs (high +ℤ pos steps) ≤ 2 ^ 30
    go e = grind (arith, ints)

-- the opposite of a needed bound exceeds the slack and what is spared
pub exceeds : (c : ℤ) (slack spare weight room : ℕ) → weight ≡ unsigned_abs c → slack + spare + 1 ≡ weight * (room + 1) → slack + spare < unsigned_abs c * (room + 1)
exceeds c slack spare weight room e f = subst (λ (n : ℕ). slack + spare < n * (room + 1)) e (go (weight * (room + 1)) f)
  where
    go : (k : ℕ) → slack + spare + 1 ≡ k → slack + spare < k
    go k f = omega (arith, f)
