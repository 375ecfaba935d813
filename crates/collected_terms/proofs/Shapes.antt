-- Forms of sums, multiples and numbers, as they are found.
use Rattle.std.proofs.Common.{◌≡◌, ℕ, suc, Bool, IsTrue, ◌↔◌, true, false, not, ◌&&◌, ◌||◌, if◌then◌else◌, ℤ, ◌*ℤ◌, List, [], ◌∷◌, map, length, All, refl, sym, ◌∙◌, ap, subst, true≢false, arith}
use Rattle.std.specs.declared.cmp.Ordering.{Ordering}
use Rattle.std.specs.declared.cmp.Ordering.TheVariants.{Less, Equal, Greater}
use Rattle.symbols.specs.Symbol.{Symbol}
use Rattle.symbols.specs.Order.{symbol_cmp}
use Rattle.ground_model.specs.Rule.{LinearOf}
use Rattle.ground_model.specs.Sound.{is_small}
use Rattle.ground_model.proofs.Bools.{and_intro}
use Rattle.program_meaning.specs.declared.collected.SymbolLinear.{SymbolLinear}
use Rattle.program_meaning.specs.Collected.{placed, pair_added, pairs_added, added, scaled, has_pairs, holds_variable, is_small_form, constant_form, form_joined}
use Rattle.program_meaning.specs.Said.{IsKnownPair}
use Rattle.syntax_tree.specs.declared.term.Op.TheVariants as op
use Rattle.collected_terms.specs.declared.collected_term.LinearForm.{LinearForm}
use Rattle.collected_terms.specs.declared.collected_term.LinearForm.TheVariants as form
use Rattle.collected_terms.specs.Found.{IsFormBy}
use Rattle.collected_terms.specs.inner.Merging.{AreKnown, all_small, is_crooked_by}
use Rattle.collected_terms.proofs.Merges.{read}

-- WHETHER A FORM HOLDS A VARIABLE

added_holds : (x : Symbol) (c : ℤ) (ps : List (Symbol × ℤ)) → has_pairs (pair_added x c ps) ≡ true
added_holds x c [] = refl
added_holds x c (p ∷ ps) = go (symbol_cmp x p.0)
  where
    go : (o : Ordering) → has_pairs (placed o x c p ps (pair_added x c ps)) ≡ true
    go Less = refl
    go Equal = refl
    go Greater = refl

sum_holds : (ps qs : List (Symbol × ℤ)) → has_pairs (pairs_added ps qs) ≡ (has_pairs ps || has_pairs qs)
sum_holds [] qs = refl
sum_holds (p ∷ ps) qs = added_holds p.0 p.1 (pairs_added ps qs)

pub plus_holds : (a b : LinearOf Symbol) → (holds_variable a || holds_variable b) ≡ holds_variable (added a b)
plus_holds a b = sym (sum_holds a.pairs b.pairs)

times_holds : (k : ℤ) (ps : List (Symbol × ℤ)) → has_pairs ps ≡ has_pairs (map (λ pair. (pair.0, k *ℤ pair.1)) ps)
times_holds k [] = refl
times_holds k (p ∷ ps) = refl

pub scaled_holds : (k : ℤ) (a : LinearOf Symbol) → holds_variable a ≡ holds_variable (scaled k a)
scaled_holds k a = times_holds k a.pairs

pub pairs_hold : (symbols : List Symbol) (ids : List (ℕ × ℤ)) (empty : Bool) → IsTrue empty ↔ (ids ≡ []) → not empty ≡ has_pairs (read symbols ids)
pairs_hold symbols [] true h = refl
pairs_hold symbols [] false h = absurd (true≢false (sym (h.1 refl)))
pairs_hold symbols (x ∷ ids) true h = absurd (never (h.0 refl))
  where
    never : x ∷ ids ≡ [] → ⊥
    never e = cc
pairs_hold symbols (x ∷ ids) false h = refl

-- SMALL AND LARGE FORMS

and_false : (b : Bool) → (b && false) ≡ false
and_false true = refl
and_false false = refl

pub large_pairs : (f : LinearOf Symbol) → all_small f.pairs ≡ false → not (is_small_form f) ≡ true
large_pairs f e = ap (λ b. not (b && is_small f.constant)) e

pub large_constant : (f : LinearOf Symbol) → is_small f.constant ≡ false → not (is_small_form f) ≡ true
large_constant f e = ap (λ b. not (all_small f.pairs && b)) e ∙ ap not (and_false (all_small f.pairs))

pub known_small : (symbols : List Symbol) (n : ℕ) (ids : List (ℕ × ℤ)) → All (IsKnownPair n) ids → all_small (read symbols ids) ≡ true
known_small symbols n [] all = refl
known_small symbols n (x ∷ ids) all =
    and_intro (is_small x.1) (all_small (read symbols ids)) (all 0 x (omega arith)).1
    (known_small symbols n ids (λ i d below. all (suc i) d (omega (arith, below))))

-- pairs and a constant that are small are a form that is small
pub found_small : (symbols : List Symbol) (f : LinearOf Symbol) (found : SymbolLinear) → AreKnown symbols found.pairs → read symbols found.pairs ≡ f.pairs
    → is_small f.constant ≡ true → found.constant ≡ f.constant → IsFormBy symbols (form.Small found) false (not (is_small_form f)) f
found_small symbols f found known e small is = (
  refl,
  ap not (and_intro (all_small f.pairs) (is_small f.constant)
      (subst (λ ps. all_small ps ≡ true) e (known_small symbols (length symbols) found.pairs known.each)) small),
  λ i. record { pairs = e i; constant = is i },
)

-- PRODUCTS

pub times_left : (a b : LinearOf Symbol) → holds_variable a ≡ false → form_joined op.Times a b ≡ scaled a.constant b
times_left a b e = ap (λ z. (if z then scaled b.constant a else scaled a.constant b)) e

pub times_right : (a b : LinearOf Symbol) → holds_variable a ≡ true → form_joined op.Times a b ≡ scaled b.constant a
times_right a b e = ap (λ z. (if z then scaled b.constant a else scaled a.constant b)) e

-- a product with a number is what it is as a multiple
pub product_left : (symbols : List Symbol) (found : LinearForm) (a b : LinearOf Symbol) → holds_variable a ≡ false
    → IsFormBy symbols found false (not (is_small_form (scaled a.constant b))) (scaled a.constant b)
    → IsFormBy symbols found (is_crooked_by op.Times a b) (not (is_small_form (form_joined op.Times a b))) (form_joined op.Times a b)
product_left symbols found a b e is =
    subst (λ z. IsFormBy symbols found z (not (is_small_form (form_joined op.Times a b))) (form_joined op.Times a b)) (sym (ap (λ z. z && holds_variable b) e))
    (subst (λ f. IsFormBy symbols found false (not (is_small_form f)) f) (sym (times_left a b e)) is)

pub product_right : (symbols : List Symbol) (found : LinearForm) (a b : LinearOf Symbol) → holds_variable a ≡ true → holds_variable b ≡ false
    → IsFormBy symbols found false (not (is_small_form (scaled b.constant a))) (scaled b.constant a)
    → IsFormBy symbols found (is_crooked_by op.Times a b) (not (is_small_form (form_joined op.Times a b))) (form_joined op.Times a b)
product_right symbols found a b e f is =
    subst (λ z. IsFormBy symbols found z (not (is_small_form (form_joined op.Times a b))) (form_joined op.Times a b))
    (sym (ap (λ z. holds_variable a && z) f ∙ and_false (holds_variable a)))
    (subst (λ f. IsFormBy symbols found false (not (is_small_form f)) f) (sym (times_right a b e)) is)

-- a number is what it is as a quotient or a remainder
pub number_found : (symbols : List Symbol) (found : LinearForm) (n m : ℤ) (crooked : Bool) → crooked ≡ false → n ≡ m
    → IsFormBy symbols found false (not (is_small_form (constant_form n))) (constant_form n) → IsFormBy symbols found crooked (not (is_small_form (constant_form m))) (constant_form m)
number_found symbols found n m crooked c e is =
    subst (λ z. IsFormBy symbols found z (not (is_small_form (constant_form m))) (constant_form m)) (sym c)
    (subst (λ z. IsFormBy symbols found false (not (is_small_form (constant_form z))) (constant_form z)) e is)
