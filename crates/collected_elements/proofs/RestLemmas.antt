-- Further places, one by one.
use Rattle.std.proofs.Common.{◌≡◌, ◌<◌, ◌+◌, ℕ, zero, suc, Bool, true, false, ◌||◌, ◌&&◌, List, [], ◌∷◌, ◌++◌, map, take, get_or, length, Option, None, Some, refl, sym, ◌∙◌, ap, subst, true≢false, arith}
use Rattle.std.specs.List.{AllByRecursion, AllZip, list_all, list_any}
use Rattle.std.proofs.lemmas.List.{take_more, map-append}
use Rattle.std.proofs.lemmas.List.Folds.{list_any-append, list_all-append}
use Rattle.symbols.specs.Symbol.{Symbol}
use Rattle.symbols.specs.Table.{IsFront, symbol_at}
use Rattle.symbols.proofs.TableLemmas.{symbol_at-front}
use Rattle.syntax_tree.specs.declared.binding.Value.{Value}
use Rattle.syntax_tree.specs.declared.binding.Value.TheVariants as value
use Rattle.syntax_tree.specs.declared.term.Term.{Term}
use Rattle.syntax_tree.specs.Outcome.{Outcome, IsSymbol, IsOver, IsUndefined, IsKnown, outcome_of}
use Rattle.syntax_tree.specs.Value.{value_of}
use Rattle.syntax_tree.proofs.Holding.{ids-front}
use Rattle.program_meaning.specs.Theory.{is_over, is_defined}
use Rattle.program_meaning.proofs.Lists.{all_append}
use Rattle.collected_elements.specs.inner.Places.{AreValues, IsRestOf, IsKnownRest, IsWithPlace}

any_mapped : (bound : List Outcome) (terms : List Term) → list_any is_over (map (value_of bound) terms) ≡ list_any (λ t. is_over (value_of bound t)) terms
any_mapped bound [] = refl
any_mapped bound (t ∷ terms) = ap (λ b. is_over (value_of bound t) || b) (any_mapped bound terms)

pub rest_settled : (symbols : List Symbol) (bound : List Outcome) (terms : List Term) (found : Option (List ℕ)) → IsRestOf symbols bound terms found
    → list_any (λ t. is_over (value_of bound t)) terms ≡ false
rest_settled symbols bound terms found h = sym (any_mapped bound terms) ∙ h.settled

heads : {X : Type 0} (x y : X) (xs ys : List X) → x ∷ xs ≡ y ∷ ys → x ≡ y
heads x y xs ys e = cc

tails : {X : Type 0} (x y : X) (xs ys : List X) → x ∷ xs ≡ y ∷ ys → xs ≡ ys
tails x y xs ys e = cc

pub rest_zip : (symbols : List Symbol) (bound : List Outcome) (terms : List Term) (ids : List ℕ)
    → map (value_of bound) terms ≡ map (λ id. IsSymbol (symbol_at symbols id)) ids → AllZip (λ t s. value_of bound t ≡ IsSymbol s) terms (map (symbol_at symbols) ids)
rest_zip symbols bound [] [] e = tt
rest_zip symbols bound [] (id ∷ ids) e = cc
rest_zip symbols bound (t ∷ terms) [] e = cc
rest_zip symbols bound (t ∷ terms) (id ∷ ids) e = (
  heads (value_of bound t) (IsSymbol (symbol_at symbols id)) (map (value_of bound) terms) (map (λ i. IsSymbol (symbol_at symbols i)) ids) e,
  rest_zip symbols bound terms ids (tails (value_of bound t) (IsSymbol (symbol_at symbols id)) (map (value_of bound) terms) (map (λ i. IsSymbol (symbol_at symbols i)) ids) e),
)

pub rest_none : (bound : List Outcome) (terms : List Term) (found : List Symbol) → list_all is_defined (map (value_of bound) terms) ≡ false
    → AllZip (λ t s. value_of bound t ≡ IsSymbol s) terms found → ⊥
rest_none bound [] [] e z = true≢false e
rest_none bound [] (s ∷ found) e z = z
rest_none bound (t ∷ terms) [] e z = z
rest_none bound (t ∷ terms) (s ∷ found) e z =
    rest_none bound terms found (sym (ap (λ o. is_defined o && list_all is_defined (map (value_of bound) terms)) z.0) ∙ e) z.1

-- ONE PLACE MORE

next_values : (bound : List Outcome) (terms : List Term) (i : ℕ) (t : Term) → t ≡ get_or terms i t → i < length terms
    → map (value_of bound) (take (i + 1) terms) ≡ map (value_of bound) (take i terms) ++ value_of bound t ∷ []
next_values bound terms i t is below =
    ap (map (value_of bound)) (take_more terms i t below)
    ∙ map-append (value_of bound) (take i terms) (get_or terms i t ∷ [])
    ∙ ap (λ x. map (value_of bound) (take i terms) ++ value_of bound x ∷ []) (sym is)

or_one : (a b : Bool) → a ≡ false → b ≡ false → (a || (b || false)) ≡ false
or_one a b e f = (λ i. e i || (f i || false))

and_none : (a b : Bool) → a ≡ false → (a && b) ≡ false
and_none a b e = ap (λ x. x && b) e

and_last : (a b : Bool) → b ≡ false → (a && (b && true)) ≡ false
and_last true b e = ap (λ x. x && true) e
and_last false b e = refl

held_settled : (new : List Symbol) (id : ℕ) (o : Outcome) → IsSymbol (symbol_at new id) ≡ o → is_over o ≡ false
held_settled new id o e = ap is_over (sym e)

undefined_settled : (o : Outcome) → IsUndefined ≡ o → is_over o ≡ false
undefined_settled o e = ap is_over (sym e)

symbols_stay : (old new : List Symbol) (ids : List ℕ) → IsFront old new → AllByRecursion (λ id. id < length old) ids
    → map (λ id. IsSymbol (symbol_at old id)) ids ≡ map (λ id. IsSymbol (symbol_at new id)) ids
symbols_stay old new [] front known = refl
symbols_stay old new (id ∷ ids) front known =
    let here = sym (symbol_at-front old new id front known.0) in
    let rest = symbols_stay old new ids front known.1 in
    λ i. IsSymbol (here i) ∷ rest i

-- outcomes of which none is over, as far as they were looked at
record AreRest (symbols : List Symbol) (outcomes : List Outcome) (found : Option (List ℕ)) : Type 0 where
  settled : list_any is_over outcomes ≡ false
  values : AreValues symbols outcomes found

module _ (now new : List Symbol) (front : IsFront now new) (outcomes : List Outcome) (o : Outcome) where
  settled_more : list_any is_over outcomes ≡ false → is_over o ≡ false → list_any is_over (outcomes ++ o ∷ []) ≡ false
  settled_more e f = list_any-append is_over outcomes (o ∷ []) ∙ or_one (list_any is_over outcomes) (is_over o) e f

  undefined_more : is_defined o ≡ false → list_all is_defined (outcomes ++ o ∷ []) ≡ false
  undefined_more e = list_all-append is_defined outcomes (o ∷ []) ∙ and_last (list_all is_defined outcomes) (is_defined o) e

  undefined_stays : list_all is_defined outcomes ≡ false → list_all is_defined (outcomes ++ o ∷ []) ≡ false
  undefined_stays e = list_all-append is_defined outcomes (o ∷ []) ∙ and_none (list_all is_defined outcomes) (is_defined o && true) e

  held_more : (ids : List ℕ) (id : ℕ) → AllByRecursion (λ n. n < length now) ids → outcomes ≡ map (λ n. IsSymbol (symbol_at now n)) ids → IsSymbol (symbol_at new id) ≡ o
      → outcomes ++ o ∷ [] ≡ map (λ n. IsSymbol (symbol_at new n)) (ids ++ id ∷ [])
  held_more ids id known e f =
      (λ i. (e ∙ symbols_stay now new ids front known) i ++ sym f i ∷ []) ∙ sym (map-append (λ n. IsSymbol (symbol_at new n)) ids (id ∷ []))

  more_by : (found : Option (List ℕ)) (v : Option Value) (more : Option (List ℕ)) → AreRest now outcomes found → IsKnownRest (length now) found → outcome_of new v ≡ o → IsWithPlace found v more
      → AreRest new (outcomes ++ o ∷ []) more
  more_by found None more h known e w =
      subst (AreRest new (outcomes ++ o ∷ [])) (sym w) (record { settled = settled_more h.settled (undefined_settled o e); values = undefined_more (ap is_defined (sym e)) })
  more_by found (Some value.Over) more h known e w = absurd w
  more_by None (Some (value.Symbol id)) more h known e w =
      subst (AreRest new (outcomes ++ o ∷ [])) (sym w) (record { settled = settled_more h.settled (held_settled new id o e); values = undefined_stays h.values })
  more_by (Some ids) (Some (value.Symbol id)) more h known e w =
      subst (AreRest new (outcomes ++ o ∷ [])) (sym w) (record { settled = settled_more h.settled (held_settled new id o e); values = held_more ids id known h.values e })

pub known_more : (now new : List Symbol) → IsFront now new → (found : Option (List ℕ)) (v : Option Value) (more : Option (List ℕ)) → IsKnownRest (length now) found → IsKnown (length new) v
    → IsWithPlace found v more → IsKnownRest (length new) more
known_more now new front found None more known k w = subst (IsKnownRest (length new)) (sym w) tt
known_more now new front found (Some value.Over) more known k w = absurd w
known_more now new front None (Some (value.Symbol id)) more known k w = subst (IsKnownRest (length new)) (sym w) tt
known_more now new front (Some ids) (Some (value.Symbol id)) more known k w =
    subst (IsKnownRest (length new)) (sym w) (all_append (λ n. n < length new) ids (id ∷ []) (ids-front now new ids front known) (k, tt))

pub rest_more : (now new : List Symbol) (bound : List Outcome) (terms : List Term) (i : ℕ) (t : Term) (found : Option (List ℕ)) (v : Option Value) (more : Option (List ℕ))
    → t ≡ get_or terms i t → i < length terms → IsFront now new → IsRestOf now bound (take i terms) found → IsKnownRest (length now) found → outcome_of new v ≡ value_of bound t
    → IsWithPlace found v more → IsRestOf new bound (take (i + 1) terms) more
rest_more now new bound terms i t found v more is below front h known e w =
    let next = more_by now new front (map (value_of bound) (take i terms)) (value_of bound t) found v more (record { settled = h.settled; values = h.values }) known e w in
    let same = sym (next_values bound terms i t is below) in
    record {
      settled = subst (λ os. list_any is_over os ≡ false) same next.settled;
      values = subst (λ os. AreValues new os more) same next.values;
    }

-- a place that is over
pub over_at : (bound : List Outcome) (terms : List Term) (i : ℕ) (t : Term) → t ≡ get_or terms i t → i < length terms → IsOver ≡ value_of bound t
    → list_any (λ x. is_over (value_of bound x)) terms ≡ true
over_at bound [] i t is below e = absurd (omega (arith, below))
over_at bound (x ∷ terms) zero t is below e = ap (λ o. is_over o || list_any (λ y. is_over (value_of bound y)) terms) (ap (value_of bound) (sym is) ∙ sym e)
over_at bound (x ∷ terms) (suc i) t is below e = or_true (is_over (value_of bound x)) (list_any (λ y. is_over (value_of bound y)) terms) (over_at bound terms i t is (omega (arith, below)) e)
  where
    or_true : (a b : Bool) → b ≡ true → (a || b) ≡ true
    or_true true b f = refl
    or_true false b f = f
