-- Products with a sum, with an opposite, and with a number between two others.
use Rattle.std.proofs.Common.{◌≡◌, ℕ, zero, suc, ◌+◌, sym, ◌∙◌, ap, arith, ℤ, pos, negsuc, ◌+ℤ◌, ◌-ℤ◌, ◌*ℤ◌, ◌≤ℤ◌, neg_ℤ, unsigned_abs}
use Rattle.std.proofs.Math.IntN.{suc_ℤ-*ℤ, pred_ℤ-*ℤ, zero-*ℤ, suc_ℤ-+ℤ, pred_ℤ-+ℤ, +ℤ_idl}
use Rattle.std.proofs.lemmas.Int.{ints}
use Rattle.linear_normal.specs.Bounds.{least_times, greatest_times}

up_step : (x y z k u : ℤ) → x ≡ y +ℤ z → u ≡ y +ℤ k → x +ℤ k ≡ u +ℤ z
up_step x y z k u e f = omega (arith, ints, e, f)

down_step : (x y z k u : ℤ) → x ≡ y +ℤ z → u ≡ y -ℤ k → x -ℤ k ≡ u +ℤ z
down_step x y z k u e f = omega (arith, ints, e, f)

zero_add : (b k : ℤ) → (pos zero +ℤ b) *ℤ k ≡ (pos zero *ℤ k) +ℤ (b *ℤ k)
zero_add b k = ap (λ z. z *ℤ k) (+ℤ_idl b) ∙ sym (ap (λ z. z +ℤ (b *ℤ k)) (zero-*ℤ k) ∙ +ℤ_idl (b *ℤ k))

pub times_add : (a b k : ℤ) → (a +ℤ b) *ℤ k ≡ (a *ℤ k) +ℤ (b *ℤ k)
times_add (pos zero) b k = zero_add b k
times_add (pos (suc n)) b k =
    ap (λ z. z *ℤ k) (suc_ℤ-+ℤ (pos n) b) ∙ suc_ℤ-*ℤ (pos n +ℤ b) k
    ∙ up_step ((pos n +ℤ b) *ℤ k) (pos n *ℤ k) (b *ℤ k) k (pos (suc n) *ℤ k) (times_add (pos n) b k) (suc_ℤ-*ℤ (pos n) k)
times_add (negsuc zero) b k =
    ap (λ z. z *ℤ k) (pred_ℤ-+ℤ (pos zero) b) ∙ pred_ℤ-*ℤ (pos zero +ℤ b) k
    ∙ down_step ((pos zero +ℤ b) *ℤ k) (pos zero *ℤ k) (b *ℤ k) k (negsuc zero *ℤ k) (zero_add b k) (pred_ℤ-*ℤ (pos zero) k)
times_add (negsuc (suc n)) b k =
    ap (λ z. z *ℤ k) (pred_ℤ-+ℤ (negsuc n) b) ∙ pred_ℤ-*ℤ (negsuc n +ℤ b) k
    ∙ down_step ((negsuc n +ℤ b) *ℤ k) (negsuc n *ℤ k) (b *ℤ k) k (negsuc (suc n) *ℤ k) (times_add (negsuc n) b k) (pred_ℤ-*ℤ (negsuc n) k)

pub times_neg : (a k : ℤ) → neg_ℤ a *ℤ k ≡ neg_ℤ (a *ℤ k)
times_neg a k = last (neg_ℤ a *ℤ k) (a *ℤ k) (sym (times_add (neg_ℤ a) a k) ∙ ap (λ z. z *ℤ k) none ∙ zero-*ℤ k)
  where
    none : neg_ℤ a +ℤ a ≡ pos 0
    none = omega (arith, ints)

    last : (x y : ℤ) → x +ℤ y ≡ pos 0 → x ≡ neg_ℤ y
    last x y e = omega (arith, ints, e)

pub times_sub : (a b k : ℤ) → (a -ℤ b) *ℤ k ≡ (a *ℤ k) -ℤ (b *ℤ k)
times_sub a b k =
    ap (λ z. z *ℤ k) as_sum ∙ times_add a (neg_ℤ b) k ∙ ap (λ z. (a *ℤ k) +ℤ z) (times_neg b k) ∙ as_difference (a *ℤ k) (b *ℤ k)
  where
    as_sum : a -ℤ b ≡ a +ℤ neg_ℤ b
    as_sum = omega (arith, ints)

    as_difference : (x y : ℤ) → x +ℤ neg_ℤ y ≡ x -ℤ y
    as_difference x y = omega (arith, ints)

-- A NUMBER BETWEEN TWO OTHERS

-- what is to be added to reach b from a
gap : (a b : ℤ) → a ≤ℤ b → (m : ℕ) × (b ≡ a +ℤ pos m)
gap a b h = (unsigned_abs (b -ℤ a), grind (arith, ints))

scale_add : (n m : ℕ) (a : ℤ) → (k : ℕ) × (pos n *ℤ (a +ℤ pos m) ≡ (pos n *ℤ a) +ℤ pos k)
scale_add zero m a = (0, zero-*ℤ (a +ℤ pos m) ∙ sym (none (pos 0 *ℤ a) (zero-*ℤ a)))
  where
    none : (x : ℤ) → x ≡ pos 0 → x +ℤ pos 0 ≡ pos 0
    none x e = omega (arith, ints, e)
scale_add (suc n) m a =
    let r = scale_add n m a in
    (r.0 + m, suc_ℤ-*ℤ (pos n) (a +ℤ pos m) ∙ grown (pos n *ℤ (a +ℤ pos m)) (pos n *ℤ a) (pos (suc n) *ℤ a) a r.0 r.1 (suc_ℤ-*ℤ (pos n) a))
  where
    grown : (x y z a : ℤ) (k : ℕ) → x ≡ y +ℤ pos k → z ≡ y +ℤ a → x +ℤ (a +ℤ pos m) ≡ z +ℤ pos (k + m)
    grown x y z a k e f = omega (arith, ints, e, f)

pub up_times : (n : ℕ) (a b : ℤ) → a ≤ℤ b → (pos n *ℤ a) ≤ℤ (pos n *ℤ b)
up_times n a b h =
    let g = gap a b h in
    let s = scale_add n g.0 a in
    above (pos n *ℤ a) (pos n *ℤ b) s.0 (ap (λ z. pos n *ℤ z) g.1 ∙ s.1)
  where
    above : (x y : ℤ) (k : ℕ) → y ≡ x +ℤ pos k → x ≤ℤ y
    above x y k e = omega (arith, ints, e)

pub down_times : (n : ℕ) (a b : ℤ) → a ≤ℤ b → (negsuc n *ℤ b) ≤ℤ (negsuc n *ℤ a)
down_times n a b h = turned (negsuc n *ℤ a) (negsuc n *ℤ b) (pos (suc n) *ℤ a) (pos (suc n) *ℤ b) (times_neg (pos (suc n)) a) (times_neg (pos (suc n)) b) (up_times (suc n) a b h)
  where
    turned : (x y z w : ℤ) → x ≡ neg_ℤ z → y ≡ neg_ℤ w → z ≤ℤ w → y ≤ℤ x
    turned x y z w e f h = omega (arith, ints, e, f, h)

pub least_below : (c low v high : ℤ) → low ≤ℤ v → v ≤ℤ high → least_times c low high ≤ℤ (c *ℤ v)
least_below (pos n) low v high l h = up_times n low v l
least_below (negsuc n) low v high l h = down_times n v high h

pub greatest_above : (c low v high : ℤ) → low ≤ℤ v → v ≤ℤ high → (c *ℤ v) ≤ℤ greatest_times c low high
greatest_above (pos n) low v high l h = up_times n v high h
greatest_above (negsuc n) low v high l h = down_times n low v l
