-- Collecting keeps what a term comes to.
use Rattle.std.proofs.Common.{◌≡◌, ◌⊎◌, inl, inr, ℕ, zero, suc, Bool, true, false, not, ◌&&◌, ◌||◌, ℤ, pos, negsuc, ◌+ℤ◌, ◌-ℤ◌, ◌*ℤ◌, int_div, List, [], ◌∷◌, map, fold, Option, None, Some, if◌then◌else◌, refl, sym, ◌∙◌, ap, subst, true≢false, arith}
use Rattle.std.specs.List.{AllByRecursion}
use Rattle.std.specs.declared.cmp.Ordering.{Ordering}
use Rattle.std.specs.declared.cmp.Ordering.TheVariants.{Less, Equal, Greater}
use Rattle.std.proofs.Math.IntN.{suc_ℤ, pred_ℤ, suc_ℤ-*ℤ, pred_ℤ-*ℤ, zero-*ℤ, *ℤ_comm}
use Rattle.std.proofs.lemmas.Int.{ints}
use Rattle.symbols.specs.Symbol.{Symbol, Number, Identifier, Text, Function}
use Rattle.symbols.specs.Order.{symbol_cmp}
use Rattle.symbols.proofs.OrderLemmas.{symbol_cmp-level}
use Rattle.syntax_tree.specs.declared.term.Op.{Op}
use Rattle.syntax_tree.specs.declared.term.Op.TheVariants as op
use Rattle.syntax_tree.specs.declared.term.Part.{Part}
use Rattle.syntax_tree.specs.declared.term.Term.{Term, roll-Term}
use Rattle.syntax_tree.specs.declared.term.Term.TheFolds.{fold-Part, fold-roll-Term, fold-roll-Part}
use Rattle.syntax_tree.specs.declared.term.Term.TheOpen.{Term-F}
use Rattle.syntax_tree.specs.declared.term.Term.TheVariants as t
use Rattle.syntax_tree.specs.declared.term.Term.TheViews.{out-Part, roll-out-Part}
use Rattle.syntax_tree.specs.Arithmetic.{combined, is_zero}
use Rattle.syntax_tree.specs.Outcome.{Outcome, IsSymbol, IsOver, IsUndefined}
use Rattle.syntax_tree.specs.Value.{operand, plain, named, nested, negated, variable}
use Rattle.ground_model.specs.Rule.{LinearOf}
use Rattle.ground_model.specs.Truth.{pairs_value, value_of}
use Rattle.program_meaning.specs.Collected.{placed, pair_added, pairs_added, added, scaled, holds_variable, has_pairs, is_small_form, Collected, collected_step, symbol_collected, worth_collected, is_crooked, form_joined, operation_collected, part_joined, some_collected, parts_collected, minus_collected, collected}
use Rattle.program_meaning.specs.Exact.{Exact, symbol_integer, worth_exact, operated, operated_both, operation_exact, exact_joined, some_exact, parts_exact, minus_exact, exact_step, exact}
use Rattle.program_meaning.specs.Laws.{CollectedLaw}
use Rattle.program_meaning.proofs.Layers
use Rattle.program_meaning.proofs.Terms.{Passes, every_term}

-- ---- products of integers

by_steps : (P : ℤ → Type 0) → P (pos 0) → ((m : ℤ) → P m → P (suc_ℤ m)) → ((m : ℤ) → P m → P (pred_ℤ m)) → (m : ℤ) → P m
by_steps P z s p (pos zero) = z
by_steps P z s p (pos (suc n)) = s (pos n) (by_steps P z s p (pos n))
by_steps P z s p (negsuc zero) = p (pos 0) z
by_steps P z s p (negsuc (suc n)) = p (negsuc n) (by_steps P z s p (negsuc n))

times_sum : (k a b : ℤ) → k *ℤ (a +ℤ b) ≡ (k *ℤ a) +ℤ (k *ℤ b)
times_sum k a b = by_steps (λ m. m *ℤ (a +ℤ b) ≡ (m *ℤ a) +ℤ (m *ℤ b)) none more less k
  where
    none : pos 0 *ℤ (a +ℤ b) ≡ (pos 0 *ℤ a) +ℤ (pos 0 *ℤ b)
    none = zero-*ℤ (a +ℤ b) ∙ (λ i. sym (zero-*ℤ a) i +ℤ sym (zero-*ℤ b) i)

    up : (x y u v : ℤ) → (x +ℤ y) +ℤ (u +ℤ v) ≡ (x +ℤ u) +ℤ (y +ℤ v)
    up x y u v = omega (arith, ints)

    down : (x y u v : ℤ) → (x +ℤ y) -ℤ (u +ℤ v) ≡ (x -ℤ u) +ℤ (y -ℤ v)
    down x y u v = omega (arith, ints)

    more : (m : ℤ) → m *ℤ (a +ℤ b) ≡ (m *ℤ a) +ℤ (m *ℤ b) → suc_ℤ m *ℤ (a +ℤ b) ≡ (suc_ℤ m *ℤ a) +ℤ (suc_ℤ m *ℤ b)
    more m e =
        suc_ℤ-*ℤ m (a +ℤ b) ∙ ap (λ z. z +ℤ (a +ℤ b)) e ∙ up (m *ℤ a) (m *ℤ b) a b ∙ (λ i. sym (suc_ℤ-*ℤ m a) i +ℤ sym (suc_ℤ-*ℤ m b) i)

    less : (m : ℤ) → m *ℤ (a +ℤ b) ≡ (m *ℤ a) +ℤ (m *ℤ b) → pred_ℤ m *ℤ (a +ℤ b) ≡ (pred_ℤ m *ℤ a) +ℤ (pred_ℤ m *ℤ b)
    less m e =
        pred_ℤ-*ℤ m (a +ℤ b) ∙ ap (λ z. z -ℤ (a +ℤ b)) e ∙ down (m *ℤ a) (m *ℤ b) a b ∙ (λ i. sym (pred_ℤ-*ℤ m a) i +ℤ sym (pred_ℤ-*ℤ m b) i)

sum_times : (a b v : ℤ) → (a +ℤ b) *ℤ v ≡ (a *ℤ v) +ℤ (b *ℤ v)
sum_times a b v = *ℤ_comm (a +ℤ b) v ∙ times_sum v a b ∙ (λ i. *ℤ_comm v a i +ℤ *ℤ_comm v b i)

minus_times : (a b v : ℤ) → (a -ℤ b) *ℤ v ≡ (a *ℤ v) -ℤ (b *ℤ v)
minus_times a b v =
    let whole = sum_times (a -ℤ b) b v in
    let same = ap (λ z. z *ℤ v) (back a b) in
    split ((a -ℤ b) *ℤ v) (a *ℤ v) (b *ℤ v) (sym whole ∙ same)
  where
    back : (a b : ℤ) → (a -ℤ b) +ℤ b ≡ a
    back a b = omega (arith, ints)

    split : (x y z : ℤ) → x +ℤ z ≡ y → x ≡ y -ℤ z
    split x y z e = omega (arith, ints, e)

times_grouped : (k c v : ℤ) → (k *ℤ c) *ℤ v ≡ k *ℤ (c *ℤ v)
times_grouped k c v = by_steps (λ m. (m *ℤ c) *ℤ v ≡ m *ℤ (c *ℤ v)) none more less k
  where
    none : (pos 0 *ℤ c) *ℤ v ≡ pos 0 *ℤ (c *ℤ v)
    none = ap (λ z. z *ℤ v) (zero-*ℤ c) ∙ zero-*ℤ v ∙ sym (zero-*ℤ (c *ℤ v))

    more : (m : ℤ) → (m *ℤ c) *ℤ v ≡ m *ℤ (c *ℤ v) → (suc_ℤ m *ℤ c) *ℤ v ≡ suc_ℤ m *ℤ (c *ℤ v)
    more m e = ap (λ z. z *ℤ v) (suc_ℤ-*ℤ m c) ∙ sum_times (m *ℤ c) c v ∙ ap (λ z. z +ℤ (c *ℤ v)) e ∙ sym (suc_ℤ-*ℤ m (c *ℤ v))

    less : (m : ℤ) → (m *ℤ c) *ℤ v ≡ m *ℤ (c *ℤ v) → (pred_ℤ m *ℤ c) *ℤ v ≡ pred_ℤ m *ℤ (c *ℤ v)
    less m e = ap (λ z. z *ℤ v) (pred_ℤ-*ℤ m c) ∙ minus_times (m *ℤ c) c v ∙ ap (λ z. z -ℤ (c *ℤ v)) e ∙ sym (pred_ℤ-*ℤ m (c *ℤ v))

pub minus_one : (z : ℤ) → negsuc 0 *ℤ z ≡ pos 0 -ℤ z
minus_one z = pred_ℤ-*ℤ (pos 0) z ∙ ap (λ y. y -ℤ z) (zero-*ℤ z)

-- ---- values of forms

module _ (values : Symbol → ℤ) where
  pair_value : (x : Symbol) (c : ℤ) (ps : List (Symbol × ℤ)) → pairs_value values (pair_added x c ps) ≡ (c *ℤ values x) +ℤ pairs_value values ps
  pair_value x c [] = refl
  pair_value x c (p ∷ ps) = go (symbol_cmp x p.0) refl (pair_value x c ps)
    where
      shift : (u v w : ℤ) → u +ℤ (v +ℤ w) ≡ v +ℤ (u +ℤ w)
      shift u v w = omega (arith, ints)

      group : (u v w : ℤ) → (u +ℤ v) +ℤ w ≡ u +ℤ (v +ℤ w)
      group u v w = omega (arith, ints)

      go : (o : Ordering) → symbol_cmp x p.0 ≡ o → pairs_value values (pair_added x c ps) ≡ (c *ℤ values x) +ℤ pairs_value values ps
          → pairs_value values (placed o x c p ps (pair_added x c ps)) ≡ (c *ℤ values x) +ℤ ((p.1 *ℤ values p.0) +ℤ pairs_value values ps)
      go Less e rec = refl
      go Equal e rec =
          let same = symbol_cmp-level x p.0 e in
          ap (λ z. z +ℤ pairs_value values ps) (sum_times c p.1 (values x) ∙ ap (λ y. (c *ℤ values x) +ℤ (p.1 *ℤ values y)) same)
          ∙ group (c *ℤ values x) (p.1 *ℤ values p.0) (pairs_value values ps)
      go Greater e rec = ap (λ z. (p.1 *ℤ values p.0) +ℤ z) rec ∙ shift (p.1 *ℤ values p.0) (c *ℤ values x) (pairs_value values ps)

  pub pairs_sum : (ps qs : List (Symbol × ℤ)) → pairs_value values (pairs_added ps qs) ≡ pairs_value values ps +ℤ pairs_value values qs
  pairs_sum [] qs = none (pairs_value values qs)
    where
      none : (z : ℤ) → z ≡ pos 0 +ℤ z
      none z = omega (arith, ints)
  pairs_sum (p ∷ ps) qs =
      pair_value p.0 p.1 (pairs_added ps qs)
      ∙ ap (λ z. (p.1 *ℤ values p.0) +ℤ z) (pairs_sum ps qs)
      ∙ group (p.1 *ℤ values p.0) (pairs_value values ps) (pairs_value values qs)
    where
      group : (u v w : ℤ) → u +ℤ (v +ℤ w) ≡ (u +ℤ v) +ℤ w
      group u v w = omega (arith, ints)

  pub added_value : (a b : LinearOf Symbol) → value_of values (added a b) ≡ value_of values a +ℤ value_of values b
  added_value a b =
      ap (λ z. z +ℤ (a.constant +ℤ b.constant)) (pairs_sum a.pairs b.pairs)
      ∙ group (pairs_value values a.pairs) (pairs_value values b.pairs) a.constant b.constant
    where
      group : (u v w x : ℤ) → (u +ℤ v) +ℤ (w +ℤ x) ≡ (u +ℤ w) +ℤ (v +ℤ x)
      group u v w x = omega (arith, ints)

  pub pairs_times : (k : ℤ) (ps : List (Symbol × ℤ)) → pairs_value values (map (λ pair. (pair.0, k *ℤ pair.1)) ps) ≡ k *ℤ pairs_value values ps
  pairs_times k [] = sym (*ℤ_comm k (pos 0) ∙ zero-*ℤ k)
  pairs_times k (p ∷ ps) =
      (λ i. times_grouped k p.1 (values p.0) i +ℤ pairs_times k ps i) ∙ sym (times_sum k (p.1 *ℤ values p.0) (pairs_value values ps))

  pub scaled_value : (k : ℤ) (a : LinearOf Symbol) → value_of values (scaled k a) ≡ k *ℤ value_of values a
  scaled_value k a = ap (λ z. z +ℤ (k *ℤ a.constant)) (pairs_times k a.pairs) ∙ sym (times_sum k (pairs_value values a.pairs) a.constant)

  constant_value : (a : LinearOf Symbol) → holds_variable a ≡ false → value_of values a ≡ a.constant
  constant_value a h = go a.pairs h
    where
      none : (z : ℤ) → pos 0 +ℤ z ≡ z
      none z = omega (arith, ints)

      go : (ps : List (Symbol × ℤ)) → has_pairs ps ≡ false → pairs_value values ps +ℤ a.constant ≡ a.constant
      go [] h = none a.constant
      go (p ∷ ps) h = absurd (true≢false h)

  -- ---- operations

  both_false : (a b : Bool) → (a || b) ≡ false → (a ≡ false) × (b ≡ false)
  both_false false b e = (refl, e)
  both_false true b e = absurd (true≢false e)

  not_both : (a b : Bool) → (a && b) ≡ false → (a ≡ false) ⊎ (b ≡ false)
  not_both false b e = inl refl
  not_both true b e = inr e

  joined_value : (o : Op) (a b : Collected) → a.large ≡ false → b.large ≡ false → is_crooked o a b ≡ false
      → operated o (value_of values a.form) (value_of values b.form) ≡ Some (value_of values (form_joined o a.form b.form))
  joined_value op.Plus a b s l k = ap Some (sym (added_value a.form b.form))
  joined_value op.Minus a b s l k =
      ap Some (less (value_of values a.form) (value_of values b.form) ∙ ap (λ z. value_of values a.form +ℤ z) (sym (scaled_value (negsuc 0) b.form ∙ minus_one (value_of values b.form)))
      ∙ sym (added_value a.form (scaled (negsuc 0) b.form)))
    where
      less : (u v : ℤ) → u -ℤ v ≡ u +ℤ (pos 0 -ℤ v)
      less u v = omega (arith, ints)
  joined_value op.Times a b s l k = ap Some (go (holds_variable a.form) refl)
    where
      right : (h : Bool) → holds_variable a.form ≡ h → h ≡ true → (holds_variable a.form && holds_variable b.form) ≡ false → holds_variable b.form ≡ false
      right h e t k = subst (λ z. (z && holds_variable b.form) ≡ false) (e ∙ t) k

      go : (h : Bool) → holds_variable a.form ≡ h
          → value_of values a.form *ℤ value_of values b.form ≡ value_of values (if h then scaled b.form.constant a.form else scaled a.form.constant b.form)
      go true e =
          ap (λ z. value_of values a.form *ℤ z) (constant_value b.form (right true e refl k))
          ∙ *ℤ_comm (value_of values a.form) b.form.constant
          ∙ sym (scaled_value b.form.constant a.form)
      go false e =
          ap (λ z. z *ℤ value_of values b.form) (constant_value a.form e) ∙ sym (scaled_value a.form.constant b.form)
  joined_value op.Divide a b s l k =
      let outer = both_false (holds_variable a.form || holds_variable b.form) (not b.large && is_zero b.form.constant) k in
      let inner = both_false (holds_variable a.form) (holds_variable b.form) outer.0 in
      let x = constant_value a.form inner.0 in
      let y = constant_value b.form inner.1 in
      let nonzero = subst (λ z. (not z && is_zero b.form.constant) ≡ false) l outer.1 in
      (λ i. operated op.Divide (x i) (y i)) ∙ ap (λ z. if z then None else Some (int_div a.form.constant b.form.constant)) nonzero
      ∙ ap Some (sym (alone (int_div a.form.constant b.form.constant)))
    where
      alone : (z : ℤ) → pos 0 +ℤ z ≡ z
      alone z = omega (arith, ints)
  joined_value op.Remainder a b s l k =
      let outer = both_false (holds_variable a.form || holds_variable b.form) (not b.large && is_zero b.form.constant) k in
      let inner = both_false (holds_variable a.form) (holds_variable b.form) outer.0 in
      let x = constant_value a.form inner.0 in
      let y = constant_value b.form inner.1 in
      let nonzero = subst (λ z. (not z && is_zero b.form.constant) ≡ false) l outer.1 in
      let rest = a.form.constant -ℤ (b.form.constant *ℤ int_div a.form.constant b.form.constant) in
      (λ i. operated op.Remainder (x i) (y i)) ∙ ap (λ z. if z then None else Some rest) nonzero ∙ ap Some (sym (alone rest))
    where
      alone : (z : ℤ) → pos 0 +ℤ z ≡ z
      alone z = omega (arith, ints)

  -- what is collected has the same value as an ordinary term, and where it has a form, the same integer
  record Fine (c : Collected) (e : Exact) : Type 0 where
    value : c.value ≡ e.value
    integer : c.undefined ≡ false → c.over ≡ false → c.not_linear ≡ false → c.large ≡ false → e.integer ≡ Some (value_of values c.form)

  no_pairs : (z : ℤ) → z ≡ pos 0 +ℤ z
  no_pairs z = omega (arith, ints)

  one_pair : (z : ℤ) → z ≡ ((pos 1 *ℤ z) +ℤ pos 0) +ℤ pos 0
  one_pair z = last z (pos 1 *ℤ z) (suc_ℤ-*ℤ (pos 0) z ∙ ap (λ y. y +ℤ z) (zero-*ℤ z))
    where
      last : (z y : ℤ) → y ≡ pos 0 +ℤ z → z ≡ (y +ℤ pos 0) +ℤ pos 0
      last z y e = omega (arith, ints, e)

  fine_symbol : (s : Symbol) → Fine (symbol_collected s) (record { value = IsSymbol s; integer = symbol_integer values s })
  fine_symbol (Number n) = record { value = refl; integer = λ u o l s. ap Some (no_pairs n) }
  fine_symbol (Identifier name) = record { value = refl; integer = λ u o l s. ap Some (one_pair (values (Identifier name))) }
  fine_symbol (Text text) = record { value = refl; integer = λ u o l s. absurd (true≢false l) }
  fine_symbol (Function [] args) = record { value = refl; integer = λ u o l s. absurd (true≢false l) }
  fine_symbol (Function (byte ∷ name) args) = record { value = refl; integer = λ u o l s. ap Some (one_pair (values (Function (byte ∷ name) args))) }

  fine_worth : (o : Outcome) → Fine (worth_collected o) (worth_exact values o)
  fine_worth (IsSymbol s) = record { value = (fine_symbol s).value; integer = (fine_symbol s).integer }
  fine_worth IsOver = record { value = refl; integer = λ u o l s. absurd (true≢false o) }
  fine_worth IsUndefined = record { value = refl; integer = λ u o l s. absurd (true≢false u) }

  fine_operation : (o : Op) (a b : Collected) (x y : Exact) → Fine a x → Fine b y → Fine (operation_collected o a b) (operation_exact o x y)
  fine_operation o a b x y f g = record {
    value = λ i. plain (combined o (operand (f.value i)) (operand (g.value i)));
    integer = λ u v l s.
        let us = both_false a.undefined b.undefined u in
        let vs = both_false a.over b.over v in
        let ls = both_false (a.not_linear || b.not_linear) (is_crooked o a b) l in
        let ms = both_false a.not_linear b.not_linear ls.0 in
        let ss = both_false (a.large || b.large) (not (is_small_form (form_joined o a.form b.form))) s in
        let ts = both_false a.large b.large ss.0 in
        (λ i. operated_both o (f.integer us.0 vs.0 ms.0 ts.0 i) (g.integer us.1 vs.1 ms.1 ts.1 i)) ∙ joined_value o a b ts.0 ts.1 ls.1;
  }

  fine_minus : (a : Collected) (x : Exact) → Fine a x → Fine (minus_collected a) (minus_exact x)
  fine_minus a x f = record {
    value = ap negated f.value;
    integer = λ u v l s. ap (operated_both op.Minus (Some (pos 0))) (f.integer u v l s) ∙ ap Some (sym (scaled_value (negsuc 0) a.form ∙ minus_one (value_of values a.form)));
  }

  module _ (bound : List Outcome) where
    abbrev FineTerm : Term → Type 0
    FineTerm term = Fine (collected bound term) (exact values bound term)

    abbrev collected_part : Part → Op × Collected
    collected_part = fold-Part Collected (Op × Collected) (collected_step bound) (λ p. (p.op, p.term))

    abbrev exact_part : Part → Op × Exact
    exact_part = fold-Part Exact (Op × Exact) (exact_step values bound) (λ p. (p.op, p.term))

    exact_part-is : (part : Part) → exact_part part ≡ (part.op, exact values bound part.term)
    exact_part-is part =
        ap exact_part (sym (roll-out-Part part)) ∙ fold-roll-Part Exact (Op × Exact) (exact_step values bound) (λ p. (p.op, p.term)) (out-Part part)

    fine_part : (part : Part) → FineTerm part.term → Fine (collected_part part).1 (exact_part part).1
    fine_part part f =
        subst (λ c. Fine c (exact_part part).1) (sym (ap (λ q. q.1) (Layers.collected-Part bound part)))
        (subst (λ e. Fine (collected bound part.term) e) (sym (ap (λ q. q.1) (exact_part-is part))) f)

    same_op : (part : Part) → (collected_part part).0 ≡ (exact_part part).0
    same_op part = ap (λ q. q.0) (Layers.collected-Part bound part) ∙ sym (ap (λ q. q.0) (exact_part-is part))

    abbrev FineSome : Option Collected → Option Exact → Type 0
    FineSome None None = Unit {0}
    FineSome None (Some e) = ⊥
    FineSome (Some c) None = ⊥
    FineSome (Some c) (Some e) = Fine c e

    fine_joined : (part : Part) → FineTerm part.term → (c : Option Collected) (e : Option Exact) → FineSome c e
        → FineSome (part_joined c (collected_part part)) (exact_joined e (exact_part part))
    fine_joined part f None None g = fine_part part f
    fine_joined part f None (Some e) g = absurd g
    fine_joined part f (Some c) None g = absurd g
    fine_joined part f (Some c) (Some e) g =
        subst (λ o. Fine (operation_collected (collected_part part).0 c (collected_part part).1) (operation_exact o e (exact_part part).1)) (same_op part)
        (fine_operation (collected_part part).0 c (collected_part part).1 e (exact_part part).1 g (fine_part part f))

    fine_parts : (parts : List Part) → AllByRecursion (λ part. FineTerm part.term) parts → (c : Option Collected) (e : Option Exact) → FineSome c e
        → FineSome (fold part_joined c (map collected_part parts)) (fold exact_joined e (map exact_part parts))
    fine_parts [] all c e g = g
    fine_parts (part ∷ parts) all c e g =
        fine_parts parts all.1 (part_joined c (collected_part part)) (exact_joined e (exact_part part)) (fine_joined part all.0 c e g)

    fine_some : (c : Option Collected) (e : Option Exact) → FineSome c e → Fine (some_collected c) (some_exact e)
    fine_some None None g = fine_worth IsUndefined
    fine_some None (Some e) g = absurd g
    fine_some (Some c) None g = absurd g
    fine_some (Some c) (Some e) g = g

    fine_all : (parts : List Part) → AllByRecursion (λ part. FineTerm part.term) parts
        → Fine (parts_collected (map collected_part parts)) (parts_exact (map exact_part parts))
    fine_all parts all = fine_some (fold part_joined None (map collected_part parts)) (fold exact_joined None (map exact_part parts)) (fine_parts parts all None None tt)

    same_values : (args : List Term) → AllByRecursion FineTerm args
        → map (λ arg. arg.value) (map (collected bound) args) ≡ map (λ arg. arg.value) (map (exact values bound) args)
    same_values [] all = refl
    same_values (arg ∷ args) all = λ i. all.0.value i ∷ same_values args all.1 i

    to_fine : (term : Term) (c : Collected) (e : Exact) → collected bound term ≡ c → exact values bound term ≡ e → Fine c e → FineTerm term
    to_fine term c e p q f = subst (λ z. Fine z (exact values bound term)) (sym p) (subst (λ z. Fine c z) (sym q) f)

    exact-Number : (n : ℤ) → exact values bound (t.Number n) ≡ worth_exact values (IsSymbol (Number n))
    unfolding roll-Term denote.Hole.Carrier.roll
    exact-Number n = fold-roll-Term Exact (Op × Exact) (exact_step values bound) (λ part. (part.op, part.term)) (Term-F.Number n)

    exact-Text : (text : List ℕ) → exact values bound (t.Text text) ≡ worth_exact values (IsSymbol (Text text))
    unfolding roll-Term denote.Hole.Carrier.roll
    exact-Text text = fold-roll-Term Exact (Op × Exact) (exact_step values bound) (λ part. (part.op, part.term)) (Term-F.Text text)

    exact-Variable : (n : ℕ) → exact values bound (t.Variable n) ≡ worth_exact values (variable bound n)
    unfolding roll-Term denote.Hole.Carrier.roll
    exact-Variable n = fold-roll-Term Exact (Op × Exact) (exact_step values bound) (λ part. (part.op, part.term)) (Term-F.Variable n)

    exact-Anonymous : exact values bound t.Anonymous ≡ worth_exact values IsUndefined
    unfolding roll-Term denote.Hole.Carrier.roll
    exact-Anonymous = fold-roll-Term Exact (Op × Exact) (exact_step values bound) (λ part. (part.op, part.term)) Term-F.Anonymous

    exact-Function : (name : List ℕ) (args : List Term)
        → exact values bound (t.Function name args) ≡ worth_exact values (named name (map (λ arg. arg.value) (map (exact values bound) args)))
    unfolding roll-Term denote.Hole.Carrier.roll
    exact-Function name args = fold-roll-Term Exact (Op × Exact) (exact_step values bound) (λ part. (part.op, part.term)) (Term-F.Function name args)

    exact-Tuple : (args : List Term) → exact values bound (t.Tuple args) ≡ worth_exact values (nested [] (map (λ arg. arg.value) (map (exact values bound) args)))
    unfolding roll-Term denote.Hole.Carrier.roll
    exact-Tuple args = fold-roll-Term Exact (Op × Exact) (exact_step values bound) (λ part. (part.op, part.term)) (Term-F.Tuple args)

    exact-Sum : (parts : List Part) → exact values bound (t.Sum parts) ≡ parts_exact (map exact_part parts)
    unfolding roll-Term denote.Hole.Carrier.roll
    exact-Sum parts = fold-roll-Term Exact (Op × Exact) (exact_step values bound) (λ part. (part.op, part.term)) (Term-F.Sum parts)

    exact-Product : (parts : List Part) → exact values bound (t.Product parts) ≡ parts_exact (map exact_part parts)
    unfolding roll-Term denote.Hole.Carrier.roll
    exact-Product parts = fold-roll-Term Exact (Op × Exact) (exact_step values bound) (λ part. (part.op, part.term)) (Term-F.Product parts)

    exact-Minus : (inner : Term) → exact values bound (t.Minus inner) ≡ minus_exact (exact values bound inner)
    unfolding roll-Term denote.Hole.Carrier.roll
    exact-Minus inner = fold-roll-Term Exact (Op × Exact) (exact_step values bound) (λ part. (part.op, part.term)) (Term-F.Minus inner)

    exact-Interval : (left right : Term) → exact values bound (t.Interval left right) ≡ record { value = IsUndefined; integer = None }
    unfolding roll-Term denote.Hole.Carrier.roll
    exact-Interval left right = fold-roll-Term Exact (Op × Exact) (exact_step values bound) (λ part. (part.op, part.term)) (Term-F.Interval left right)

    fine_passes : Passes FineTerm
    fine_passes = record {
      number = λ n. to_fine (t.Number n) _ _ (Layers.collected-Number bound n) (exact-Number n) (fine_symbol (Number n));
      text = λ text. to_fine (t.Text text) _ _ (Layers.collected-Text bound text) (exact-Text text) (fine_symbol (Text text));
      variable = λ n. to_fine (t.Variable n) _ _ (Layers.collected-Variable bound n) (exact-Variable n) (fine_worth (variable bound n));
      anonymous = to_fine t.Anonymous _ _ (Layers.collected-Anonymous bound) exact-Anonymous (fine_worth IsUndefined);
      function = λ name args all.
          to_fine (t.Function name args) _ _ (Layers.collected-Function bound name args)
          (exact-Function name args ∙ ap (λ vs. worth_exact values (named name vs)) (sym (same_values args all)))
          (fine_worth (named name (map (λ arg. arg.value) (map (collected bound) args))));
      tuple = λ args all.
          to_fine (t.Tuple args) _ _ (Layers.collected-Tuple bound args)
          (exact-Tuple args ∙ ap (λ vs. worth_exact values (nested [] vs)) (sym (same_values args all)))
          (fine_worth (nested [] (map (λ arg. arg.value) (map (collected bound) args))));
      sum = λ parts all. to_fine (t.Sum parts) _ _ (Layers.collected-Sum bound parts) (exact-Sum parts) (fine_all parts all);
      product = λ parts all. to_fine (t.Product parts) _ _ (Layers.collected-Product bound parts) (exact-Product parts) (fine_all parts all);
      minus = λ inner f. to_fine (t.Minus inner) _ _ (Layers.collected-Minus bound inner) (exact-Minus inner) (fine_minus (collected bound inner) (exact values bound inner) f);
      interval = λ left right f g.
          to_fine (t.Interval left right) _ _ (Layers.collected-Interval bound left right) (exact-Interval left right)
          (record { value = refl; integer = λ u o l s. absurd (true≢false l) });
    }

    fine_term : (term : Term) → FineTerm term
    fine_term term = every_term FineTerm fine_passes term

pub collected_law : CollectedLaw
collected_law bound term form defined has values =
    (fine_term values bound term).integer defined has.settled has.linear has.small ∙ ap (λ f. Some (value_of values f)) has.same
