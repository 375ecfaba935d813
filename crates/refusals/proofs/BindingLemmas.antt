-- The values of variables, one more at a time.
use Rattle.std.proofs.Common.{◌≡◌, ℕ, zero, suc, ◌+◌, ◌<◌, ◌≤◌, List, [], ◌∷◌, ◌++◌, length, map, drop, get_or, refl, sym, ap, ◌∙◌, subst, append_assoc, append-nil, drop-cons, arith}
use Rattle.symbols.specs.Symbol.{Symbol}
use Rattle.syntax_tree.specs.declared.rule.Rule.{Rule}
use Rattle.syntax_tree.specs.declared.binding.Value.{Value as HeldValue}
use Rattle.syntax_tree.specs.Outcome.{IsKnown}
use Rattle.std.specs.List.{AllByRecursion}
use Rattle.std.specs.Prelude.{Some}
use Rattle.program_meaning.specs.Said.{value_in}
use Rattle.load_meaning.specs.Lines.{bound_text, bindings_text}

no_values : (rule : Rule) (variables : List ℕ) → bindings_text rule variables [] ≡ []
no_values rule [] = refl
no_values rule (n ∷ variables) = refl

-- nothing stands behind the last value, or the last variable
pub out_of_values : (rule : Rule) (symbols : List Symbol) (variables : List ℕ) (values : List HeldValue) (at : ℕ) (out all : List ℕ) → length values ≤ at
    → out ++ bindings_text rule (drop at variables) (map (value_in symbols) (drop at values)) ≡ all → out ≡ all
out_of_values rule symbols variables values at out all past so_far =
    sym (append-nil out) ∙ ap (λ l. out ++ l) (sym (no_values rule (drop at variables)))
    ∙ ap (λ l. out ++ bindings_text rule (drop at variables) (map (value_in symbols) l)) (sym (none values at past)) ∙ so_far
  where
    none : (l : List HeldValue) (k : ℕ) → length l ≤ k → drop k l ≡ []
    none [] zero h = refl
    none [] (suc k) h = refl
    none (x ∷ xs) zero h = absurd (omega (arith, h))
    none (x ∷ xs) (suc k) h = none xs k (omega (arith, h))

pub out_of_variables : (rule : Rule) (symbols : List Symbol) (variables : List ℕ) (values : List HeldValue) (at : ℕ) (out all : List ℕ) → length variables ≤ at
    → out ++ bindings_text rule (drop at variables) (map (value_in symbols) (drop at values)) ≡ all → out ≡ all
out_of_variables rule symbols variables values at out all past so_far =
    sym (append-nil out) ∙ ap (λ l. out ++ bindings_text rule l (map (value_in symbols) (drop at values))) (sym (none variables at past)) ∙ so_far
  where
    none : (l : List ℕ) (k : ℕ) → length l ≤ k → drop k l ≡ []
    none [] zero h = refl
    none [] (suc k) h = refl
    none (x ∷ xs) zero h = absurd (omega (arith, h))
    none (x ∷ xs) (suc k) h = none xs k (omega (arith, h))

pub one_more : (rule : Rule) (symbols : List Symbol) (variables : List ℕ) (values : List HeldValue) (at n : ℕ) (value : HeldValue) (out after all : List ℕ)
    → at < length variables → at < length values → n ≡ get_or variables at n → value ≡ get_or values at value
    → after ≡ out ++ bound_text rule n (value_in symbols value)
    → out ++ bindings_text rule (drop at variables) (map (value_in symbols) (drop at values)) ≡ all
    → after ++ bindings_text rule (drop (at + 1) variables) (map (value_in symbols) (drop (at + 1) values)) ≡ all
one_more rule symbols variables values at n value out after all inside within is is_value grew so_far =
    let one : at + 1 ≡ suc at = omega arith in
    let first : drop at variables ≡ n ∷ drop (at + 1) variables =
    drop-cons variables at n inside ∙ (λ i. sym is i ∷ drop (sym one i) variables) in
    let second : drop at values ≡ value ∷ drop (at + 1) values =
    drop-cons values at value within ∙ (λ i. sym is_value i ∷ drop (sym one i) values) in
    ap (λ l. l ++ bindings_text rule (drop (at + 1) variables) (map (value_in symbols) (drop (at + 1) values))) grew
    ∙ append_assoc out (bound_text rule n (value_in symbols value)) (bindings_text rule (drop (at + 1) variables) (map (value_in symbols) (drop (at + 1) values)))
    ∙ (λ i. out ++ bindings_text rule (sym first i) (map (value_in symbols) (sym second i))) ∙ so_far

pub known_at : (size : ℕ) (values : List HeldValue) (at : ℕ) (value : HeldValue) → at < length values → value ≡ get_or values at value
    → AllByRecursion (λ v. IsKnown size (Some v)) values → IsKnown size (Some value)
known_at size [] at value inside is all = absurd (omega (arith, inside))
known_at size (x ∷ xs) zero value inside is all = subst (λ v. IsKnown size (Some v)) (sym is) all.0
known_at size (x ∷ xs) (suc at) value inside is all = known_at size xs at value (omega (arith, inside)) is all.1
