-- Linear terms of a table have few pairs and small numbers, and values that fit.
use Rattle.std.proofs.Common.{◌≡◌, ◌<◌, ◌≤◌, ◌+◌, ◌*◌, ◌^◌, ◌||◌, ◌+ℤ◌, ℕ, zero, suc, Bool, not, ℤ, unsigned_abs, List, [], ◌∷◌, map, drop, length, slice_index_or, FitsSigned, refl, sym, ap, ◌∙◌, subst, inl, inr, arith}
use Rattle.std.specs.Int.{w128}
use Rattle.std.specs.List.{AllByRecursion, list_any}
use Rattle.std.specs.declared.cmp.Ordering.TheVariants.{Less}
use Rattle.std.proofs.lemmas.Int.{fits_signed_from_abs}
use Rattle.std.proofs.lemmas.List.{at_drop_more}
use Rattle.std.proofs.lemmas.List.Elements.{recursion_from_All}
use Rattle.symbols.specs.declared.ends.Ends.{Ends}
use Rattle.symbols.specs.Symbol.{Symbol}
use Rattle.symbols.specs.Order.{symbol_cmp}
use Rattle.symbols.specs.Table.{symbol_at}
use Rattle.ground_model.specs.Members.{IsMember}
use Rattle.ground_model.specs.Sound.{least_product, greatest_product, least_sum, greatest_sum}
use Rattle.ground_model.proofs.MemberLemmas.{map_member, property_member}
use Rattle.ground_model.proofs.SizeLemmas.{small_abs}
use Rattle.program_meaning.specs.declared.collected.CollectedPlace.{CollectedPlace}
use Rattle.program_meaning.specs.declared.collected.SymbolLinear.{SymbolLinear}
use Rattle.program_meaning.specs.Ascending.{Ascends}
use Rattle.program_meaning.specs.Outside.{least_of, greatest_of, is_small_within}
use Rattle.program_meaning.specs.Said.{pair_in, linear_in, place_in, IsKnownPair}
use Rattle.program_meaning.proofs.Orders.{symbols_turn}
use Rattle.program_meaning.proofs.Lists.{ascends_apart, no_more}
use Rattle.collected_terms.specs.Found.{IsKnownLinear}
use Rattle.large_values.specs.inner.Numbers.{AreSmallPairs}

-- SUMS

pub least_in : (ends : Ends) (symbols : List Symbol) (pairs : List (ℕ × ℤ)) → least_of ends (map (pair_in symbols) pairs) ≡ least_sum ends pairs
least_in ends symbols [] = refl
least_in ends symbols (pair ∷ pairs) = ap (λ z. least_product ends pair.1 +ℤ z) (least_in ends symbols pairs)

pub greatest_in : (ends : Ends) (symbols : List Symbol) (pairs : List (ℕ × ℤ)) → greatest_of ends (map (pair_in symbols) pairs) ≡ greatest_sum ends pairs
greatest_in ends symbols [] = refl
greatest_in ends symbols (pair ∷ pairs) = ap (λ z. greatest_product ends pair.1 +ℤ z) (greatest_in ends symbols pairs)

-- so many products fit
pub sum_fits : (i : ℕ) (z : ℤ) → i ≤ 2 ^ 32 → unsigned_abs z ≤ 2 ^ 62 + i * 2 ^ 92 → FitsSigned w128 z
sum_fits i z few size = fits_signed_from_abs w128 z (omega arith)

-- FEW PAIRS AND SMALL NUMBERS

small_all : (size : ℕ) (pairs : List (ℕ × ℤ)) → AllByRecursion (IsKnownPair size) pairs → AreSmallPairs pairs
small_all size [] all = tt
small_all size (pair ∷ pairs) all = (small_abs pair.1 all.0.1, small_all size pairs all.1)

symbol_member : (symbols : List Symbol) (id : ℕ) → id < length symbols → IsMember symbols (symbol_at symbols id)
symbol_member [] id l = absurd (omega (arith, l))
symbol_member (symbol ∷ symbols) zero l = inl refl
symbol_member (symbol ∷ symbols) (suc id) l = inr (symbol_member symbols id (omega (arith, l)))

module _ (symbols : List Symbol) where
  rising : (pairs : List (ℕ × ℤ)) → Ascends (λ a b. symbol_cmp a.0 b.0) (map (pair_in symbols) pairs) → Ascends symbol_cmp (map (λ pair. symbol_at symbols pair.0) pairs)
  rising [] a = tt
  rising (pair ∷ pairs) a = (less pairs a.0, rising pairs a.1)
    where
      less : (rest : List (ℕ × ℤ)) → AllByRecursion (λ y. symbol_cmp (symbol_at symbols pair.0) y.0 ≡ Less) (map (pair_in symbols) rest)
          → AllByRecursion (λ y. symbol_cmp (symbol_at symbols pair.0) y ≡ Less) (map (λ p. symbol_at symbols p.0) rest)
      less [] all = tt
      less (p ∷ rest) all = (all.0, less rest all.1)

  length_map : {X Y : Type 0} (f : X → Y) (xs : List X) → length (map f xs) ≡ length xs
  length_map f [] = refl
  length_map f (x ∷ xs) = ap suc (length_map f xs)

  pub few_pairs : (linear : SymbolLinear) → IsKnownLinear symbols linear → length linear.pairs ≤ length symbols
  few_pairs linear is =
      let apart = ascends_apart symbol_cmp symbols_turn (map (λ pair. symbol_at symbols pair.0) linear.pairs) (rising linear.pairs is.rise) in
      let known = recursion_from_All (IsKnownPair (length symbols)) linear.pairs is.each in
      subst (λ n. n ≤ length symbols) (length_map (λ pair. symbol_at symbols pair.0) linear.pairs)
      (no_more (map (λ pair. symbol_at symbols pair.0) linear.pairs) symbols apart
      (λ symbol m.
      let r = map_member (λ (pair : ℕ × ℤ). symbol_at symbols pair.0) linear.pairs symbol m in
      subst (IsMember symbols) (sym r.2) (symbol_member symbols r.0.0 (property_member (IsKnownPair (length symbols)) linear.pairs r.0 known r.1).0)))

  pub small_pairs : (linear : SymbolLinear) → IsKnownLinear symbols linear → AreSmallPairs linear.pairs
  small_pairs linear is = small_all (length symbols) linear.pairs (recursion_from_All (IsKnownPair (length symbols)) linear.pairs is.each)

  pub small_constant : (linear : SymbolLinear) → IsKnownLinear symbols linear → unsigned_abs linear.constant < 2 ^ 62
  small_constant linear is = small_abs linear.constant is.constant

  -- ONE TUPLE MORE

  abbrev pub is_large : Ends → CollectedPlace → Bool
  is_large ends place = not (is_small_within ends (linear_in symbols place.linear))

  pub large_list : (ends : Ends) (places : List CollectedPlace) → list_any (λ place. not (is_small_within ends place.linear)) (map (place_in symbols) places) ≡ list_any (is_large ends) places
  large_list ends [] = refl
  large_list ends (place ∷ places) = ap (λ b. is_large ends place || b) (large_list ends places)

  pub large_turn : (ends : Ends) (places : List CollectedPlace) (at : ℕ) (place : CollectedPlace) → place ≡ slice_index_or places at place → at < length places
      → list_any (is_large ends) (drop at places) ≡ (is_large ends place || list_any (is_large ends) (drop (at + 1) places))
  large_turn ends places at place e l = at_drop_more (list_any (is_large ends)) places at place l ∙ ap (λ p. is_large ends p || list_any (is_large ends) (drop (at + 1) places)) (sym e)
