-- What the code holds keeps its meaning as the table grows.
use Rattle.std.proofs.Common.{◌≡◌, ℕ, ◌<◌, ◌-◌, ◌==◌, Bool, true, false, if◌then◌else◌, zero, suc, ℤ, List, [], ◌∷◌, map, length, Option, Some, None, Result, Ok, Err, IfOk, slice_get, slice_index_or, refl, sym, ap, ◌∙◌, arith}
use Rattle.std.specs.List.{All, AllByRecursion}
use Rattle.std.proofs.lemmas.List.Elements.{recursion_from_All}
use Rattle.symbols.specs.Symbol.{Symbol, Number}
use Rattle.symbols.specs.Table.{symbol_at, IsFront}
use Rattle.symbols.proofs.TableLemmas.{length-front, symbol_at-front, symbol_at-id_of}
use Rattle.syntax_tree.specs.declared.binding.Value.{Value}
use Rattle.syntax_tree.specs.declared.binding.Value.TheVariants as value
use Rattle.syntax_tree.specs.declared.worth.Worth.{Worth}
use Rattle.syntax_tree.specs.declared.worth.Worth.TheVariants.{Plain, Symbol as SymbolWorth}
use Rattle.syntax_tree.specs.declared.worth.Places.{Places}
use Rattle.syntax_tree.specs.declared.worth.Places.TheVariants as places
use Rattle.syntax_tree.specs.Outcome.{IsSymbol, IsUndefined, IsKnown, outcome_of, bound_in}
use Rattle.syntax_tree.specs.Value.{AreSymbols, with_argument, variable}
use Rattle.syntax_tree.specs.inner.Worth.{outcome, outcomes, IsHeld, IsOptionHeld, gathered, AreHeld, bound_at}

pub ok_along : {A E : Type 0} (r : Result A E) (P Q : A → Type 0) → IfOk r P → ((x : A) → P x → Q x) → IfOk r Q
ok_along (Ok x) P Q h f = f x h
ok_along (Err e) P Q h f = tt

pub longer : (old new : List Symbol) (id : ℕ) → IsFront old new → id < length old → id < length new
longer old new id front k = omega (arith, length-front old new front, k)

pub outcome-front : (old new : List Symbol) (w : Worth) → IsFront old new → IsHeld (length old) w → outcome new w ≡ outcome old w
outcome-front old new (Plain a) front k = refl
outcome-front old new (SymbolWorth id) front k = ap IsSymbol (symbol_at-front old new id front k)

pub outcomes-front : (old new : List Symbol) (w : Option Worth) → IsFront old new → IsOptionHeld (length old) w → outcomes new w ≡ outcomes old w
outcomes-front old new None front k = refl
outcomes-front old new (Some w) front k = ap Some (outcome-front old new w front k)

pub held-front : (old new : List Symbol) (w : Worth) → IsFront old new → IsHeld (length old) w → IsHeld (length new) w
held-front old new (Plain a) front k = tt
held-front old new (SymbolWorth id) front k = longer old new id front k

pub option_held-front : (old new : List Symbol) (w : Option Worth) → IsFront old new → IsOptionHeld (length old) w → IsOptionHeld (length new) w
option_held-front old new None front k = tt
option_held-front old new (Some w) front k = held-front old new w front k

pub symbols-front : (old new : List Symbol) (ids : List ℕ) → IsFront old new → AllByRecursion (λ id. id < length old) ids → map (symbol_at new) ids ≡ map (symbol_at old) ids
symbols-front old new [] front k = refl
symbols-front old new (id ∷ ids) front k =
    let here = symbol_at-front old new id front k.0 in
    let rest = symbols-front old new ids front k.1 in
    rw (here, rest) refl

pub ids-front : (old new : List Symbol) (ids : List ℕ) → IsFront old new → AllByRecursion (λ id. id < length old) ids → AllByRecursion (λ id. id < length new) ids
ids-front old new [] front k = tt
ids-front old new (id ∷ ids) front k = (longer old new id front k.0, ids-front old new ids front k.1)

pub gathered-front : (old new : List Symbol) (p : Places) → IsFront old new → AreHeld (length old) p → gathered new p ≡ gathered old p
gathered-front old new (places.Ids ids) front k = ap AreSymbols (symbols-front old new ids front k)
gathered-front old new places.Over front k = refl
gathered-front old new places.Undefined front k = refl

pub are_held-front : (old new : List Symbol) (p : Places) → IsFront old new → AreHeld (length old) p → AreHeld (length new) p
are_held-front old new (places.Ids ids) front k = ids-front old new ids front k
are_held-front old new places.Over front k = tt
are_held-front old new places.Undefined front k = tt

-- what the variables are worth stays too
outcome_of-front : (old new : List Symbol) (v : Option Value) → IsFront old new → IsKnown (length old) v → outcome_of new v ≡ outcome_of old v
outcome_of-front old new None front k = refl
outcome_of-front old new (Some (value.Symbol id)) front k = ap IsSymbol (symbol_at-front old new id front k)
outcome_of-front old new (Some value.Over) front k = refl

known-front : (old new : List Symbol) (v : Option Value) → IsFront old new → IsKnown (length old) v → IsKnown (length new) v
known-front old new None front k = tt
known-front old new (Some (value.Symbol id)) front k = longer old new id front k
known-front old new (Some value.Over) front k = tt

bound-front-rec : (old new : List Symbol) (vs : List (Option Value)) → IsFront old new → AllByRecursion (IsKnown (length old)) vs → bound_in new vs ≡ bound_in old vs
bound-front-rec old new [] front k = refl
bound-front-rec old new (v ∷ vs) front k =
    let here = outcome_of-front old new v front k.0 in
    let rest = bound-front-rec old new vs front k.1 in
    rw (here, rest) refl

pub bound-front : (old new : List Symbol) (vs : List (Option Value)) → IsFront old new → All (IsKnown (length old)) vs → bound_in new vs ≡ bound_in old vs
bound-front old new vs front k = bound-front-rec old new vs front (recursion_from_All _ vs k)

pub all_along : {A : Type 0} (P Q : A → Type 0) (xs : List A) → ((x : A) → P x → Q x) → All P xs → All Q xs
all_along P Q xs f h = λ k d b. f (slice_index_or xs k d) (h k d b)

pub bound_known-front : (old new : List Symbol) (vs : List (Option Value)) → IsFront old new → All (IsKnown (length old)) vs → All (IsKnown (length new)) vs
bound_known-front old new vs front k = all_along (IsKnown (length old)) (IsKnown (length new)) vs (λ v. known-front old new v front) k

-- a variable's value
index_map : (symbols : List Symbol) (vs : List (Option Value)) (i : ℕ) → slice_index_or (bound_in symbols vs) i IsUndefined ≡ outcome_of symbols (slice_index_or vs i None)
index_map symbols [] i = refl
index_map symbols (v ∷ vs) zero = refl
index_map symbols (v ∷ vs) (suc i) = index_map symbols vs i

chosen : (b : Bool) (symbols : List Symbol) (vs : List (Option Value)) (i : ℕ)
    → outcome_of symbols (if b then None else slice_index_or vs i None) ≡ (if b then IsUndefined else slice_index_or (bound_in symbols vs) i IsUndefined)
chosen true symbols vs i = refl
chosen false symbols vs i = sym (index_map symbols vs i)

pub variable-bound : (symbols : List Symbol) (vs : List (Option Value)) (n : ℕ) → outcome_of symbols (bound_at vs n) ≡ variable (bound_in symbols vs) n
variable-bound symbols vs n = chosen (n == 0) symbols vs (n - 1)

index_known : (size : ℕ) (vs : List (Option Value)) (i : ℕ) → AllByRecursion (IsKnown size) vs → IsKnown size (slice_index_or vs i None)
index_known size [] i k = tt
index_known size (v ∷ vs) zero k = k.0
index_known size (v ∷ vs) (suc i) k = index_known size vs i k.1

chosen_known : (b : Bool) (size : ℕ) (vs : List (Option Value)) (i : ℕ) → AllByRecursion (IsKnown size) vs → IsKnown size (if b then None else slice_index_or vs i None)
chosen_known true size vs i k = tt
chosen_known false size vs i k = index_known size vs i k

pub bound_at-known : (size : ℕ) (vs : List (Option Value)) (n : ℕ) → All (IsKnown size) vs → IsKnown size (bound_at vs n)
bound_at-known size vs n k = chosen_known (n == 0) size vs (n - 1) (recursion_from_All _ vs k)

-- an argument more, in a table that has grown
pub with_number_value : (old new : List Symbol) (p q : Places) (n : ℤ) (id : ℕ) → IsFront old new → AreHeld (length old) p → slice_get new id ≡ Some (Number n)
    → gathered new q ≡ with_argument (gathered new p) (IsSymbol (symbol_at new id)) → gathered new q ≡ with_argument (gathered old p) (IsSymbol (Number n))
with_number_value old new p q n id front k is h =
    let same = gathered-front old new p front k in
    let number = symbol_at-id_of new id (Number n) is in
    h ∙ (λ i. with_argument (same i) (IsSymbol (number i)))
