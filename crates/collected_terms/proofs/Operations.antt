-- Operations on forms, by whether a side is too large.
use Rattle.std.proofs.Common.{◌≡◌, Bool, true, false, not, ◌&&◌, ◌||◌, if◌then◌else◌, negsuc, List, refl, sym, ◌∙◌, ap, subst}
use Rattle.symbols.specs.Symbol.{Symbol}
use Rattle.ground_model.specs.Rule.{LinearOf}
use Rattle.program_meaning.specs.declared.collected.SymbolLinear.{SymbolLinear}
use Rattle.program_meaning.specs.Collected.{Collected, scaled, holds_variable, is_small_form, is_crooked, form_joined, operation_collected}
use Rattle.program_meaning.specs.Said.{linear_in}
use Rattle.syntax_tree.specs.Arithmetic.{is_zero}
use Rattle.syntax_tree.specs.declared.term.Op.{Op}
use Rattle.syntax_tree.specs.declared.term.Op.TheVariants as op
use Rattle.collected_terms.specs.declared.collected_term.LinearForm.{LinearForm}
use Rattle.collected_terms.specs.declared.collected_term.LinearForm.TheVariants as form
use Rattle.collected_terms.specs.Found.{IsFormBy, IsFormOf}
use Rattle.collected_terms.specs.inner.Merging.{is_crooked_with, holds_with, is_crooked_by}
use Rattle.collected_terms.proofs.Shapes.{plus_holds, scaled_holds}

crooked_is : (o : Op) (a b : Collected) → is_crooked o a b ≡ is_crooked_with o (holds_variable a.form) (holds_variable b.form) (not b.large && is_zero b.form.constant)
crooked_is op.Plus a b = refl
crooked_is op.Minus a b = refl
crooked_is op.Times a b = refl
crooked_is op.Divide a b = refl
crooked_is op.Remainder a b = refl

holds_is : (o : Op) (a b : LinearOf Symbol) → holds_with o (holds_variable a) (holds_variable b) ≡ holds_variable (form_joined o a b)
holds_is op.Plus a b = plus_holds a b
holds_is op.Minus a b = ap (λ z. holds_variable a || z) (scaled_holds (negsuc 0) b) ∙ plus_holds a (scaled (negsuc 0) b)
holds_is op.Times a b = go (holds_variable a) refl
  where
    go : (h : Bool) → holds_variable a ≡ h → (h || holds_variable b) ≡ holds_variable (if h then scaled b.constant a else scaled a.constant b)
    go true e = sym e ∙ scaled_holds b.constant a
    go false e = scaled_holds a.constant b
holds_is op.Divide a b = refl
holds_is op.Remainder a b = refl

or_true : (b : Bool) → (b || true) ≡ true
or_true true = refl
or_true false = refl

-- the first side is not linear, or the second
pub first_crooked : (symbols : List Symbol) (o : Op) (x y : Collected) → x.not_linear ≡ true → IsFormOf symbols form.NotLinear (operation_collected o x y)
first_crooked symbols o x y e = ap (λ z. z || y.not_linear || is_crooked o x y) e

pub second_crooked : (symbols : List Symbol) (o : Op) (x y : Collected) → y.not_linear ≡ true → IsFormOf symbols form.NotLinear (operation_collected o x y)
second_crooked symbols o x y e =
    ap (λ z. x.not_linear || z || is_crooked o x y) e ∙ ap (λ z. z || is_crooked o x y) (or_true x.not_linear)

-- a side is too large
module _ (symbols : List Symbol) (o : Op) (first second zero : Bool) (a b : Collected) (first_is : first ≡ holds_variable a.form) (second_is : second ≡ holds_variable b.form)
    (zero_is : zero ≡ (not b.large && is_zero b.form.constant)) where
  same_crooked : is_crooked_with o first second zero ≡ is_crooked o a b
  same_crooked = (λ i. is_crooked_with o (first_is i) (second_is i) (zero_is i)) ∙ sym (crooked_is o a b)

  pub large_crooked : is_crooked_with o first second zero ≡ true → IsFormOf symbols form.NotLinear (operation_collected o a b)
  large_crooked e = ap (λ z. a.not_linear || b.not_linear || z) (sym same_crooked ∙ e) ∙ or_true (a.not_linear || b.not_linear)

  pub large_straight : a.not_linear ≡ false → b.not_linear ≡ false → (a.large || b.large) ≡ true → is_crooked_with o first second zero ≡ false
      → (holds : Bool) → holds ≡ holds_with o first second → IsFormOf symbols (form.Large holds) (operation_collected o a b)
  large_straight fa fb large e holds is = (
    (λ i. fa i || fb i || (sym same_crooked ∙ e) i),
    ap (λ z. z || not (is_small_form (form_joined o a.form b.form))) large,
    is ∙ (λ i. holds_with o (first_is i) (second_is i)) ∙ holds_is o a.form b.form,
  )

-- both are small
pub both_small : (symbols : List Symbol) (o : Op) (found : LinearForm) (a b : LinearOf Symbol) (x y : Collected) → x.not_linear ≡ false → x.large ≡ false → a ≡ x.form
    → y.not_linear ≡ false → y.large ≡ false → b ≡ y.form → IsFormBy symbols found (is_crooked_by o a b) (not (is_small_form (form_joined o a b))) (form_joined o a b)
    → IsFormOf symbols found (operation_collected o x y)
both_small symbols o found a b x y fx lx ex fy ly ey is =
    let crooked : is_crooked_by o x.form y.form ≡ is_crooked o x y =
    ap (λ z. is_crooked_with o (holds_variable x.form) (holds_variable y.form) (not z && is_zero y.form.constant)) (sym ly) ∙ sym (crooked_is o x y) in
    let here : IsFormBy symbols found (is_crooked_by o x.form y.form) (not (is_small_form (form_joined o x.form y.form))) (form_joined o x.form y.form) =
    subst (λ (f : LinearOf Symbol). IsFormBy symbols found (is_crooked_by o f y.form) (not (is_small_form (form_joined o f y.form))) (form_joined o f y.form)) ex
    (subst (λ (f : LinearOf Symbol). IsFormBy symbols found (is_crooked_by o a f) (not (is_small_form (form_joined o a f))) (form_joined o a f)) ey is) in
    subst (λ z. IsFormBy symbols found z (x.large || y.large || not (is_small_form (form_joined o x.form y.form))) (form_joined o x.form y.form))
    (crooked ∙ (λ i. sym fx i || sym fy i || is_crooked o x y))
    (subst (λ z. IsFormBy symbols found (is_crooked_by o x.form y.form) z (form_joined o x.form y.form)) (λ i. sym lx i || sym ly i || not (is_small_form (form_joined o x.form y.form))) here)

pub zero_large : (y : Collected) → y.large ≡ true → false ≡ (not y.large && is_zero y.form.constant)
zero_large y e = sym (ap (λ z. not z && is_zero y.form.constant) e)

pub zero_small : (symbols : List Symbol) (found : SymbolLinear) (y : Collected) → y.large ≡ false → linear_in symbols found ≡ y.form
    → is_zero found.constant ≡ (not y.large && is_zero y.form.constant)
zero_small symbols found y l e = ap (λ (f : LinearOf Symbol). is_zero f.constant) e ∙ sym (ap (λ z. not z && is_zero y.form.constant) l)

pub or_right : (a b : Bool) → b ≡ true → (a || b) ≡ true
or_right a b e = ap (λ z. a || z) e ∙ or_true a

pub or_left : (a b : Bool) → a ≡ true → (a || b) ≡ true
or_left a b e = ap (λ z. z || b) e
