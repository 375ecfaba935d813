-- The order of rows is total, and rows that are different and sorted by it ascend.
use Rattle.std.proofs.Common.{◌≡◌, ◌⊎◌, inl, inr, ◌+◌, ℕ, suc, Bool, true, false, not, List, [], ◌∷◌, map, get_or, refl, sym, ap, ◌∙◌, subst, true≢false, arith}
use Rattle.std.specs.Cmp.{IsTotalOrder}
use Rattle.std.specs.Cmp.Lexicographic.{slice_cmp}
use Rattle.std.specs.List.{AllByRecursion, list_all}
use Rattle.std.specs.List.Sorted.{IsPermutation, IsSortedBy}
use Rattle.std.specs.Ordering.{is_lt, is_eq, ordering_then, ordering_reverse}
use Rattle.std.specs.declared.cmp.Ordering.{Ordering}
use Rattle.std.specs.declared.cmp.Ordering.TheVariants.{Less, Equal, Greater}
use Rattle.std.proofs.lemmas.Cmp.{lists_total, on_total}
use Rattle.std.proofs.lemmas.List.Elements.{recursion_from_All}
use Rattle.std.proofs.lemmas.List.Sorted.{sorted_far, ranks_by}
use Rattle.symbols.specs.Symbol.{Symbol}
use Rattle.symbols.proofs.OrderLemmas.{symbol_cmp_total, symbol_cmp-level}
use Rattle.syntax_tree.specs.declared.binding.Value.{Value as HeldValue}
use Rattle.ground_model.specs.Members.{IsMember, IsApart}
use Rattle.ground_model.specs.Truth.{all_pairs}
use Rattle.ground_model.proofs.Bools.{and_elim, and_intro, bool_cases}
use Rattle.ground_model.proofs.PairLemmas.{pairs_permuted}
use Rattle.program_meaning.specs.Ascending.{Ascends}
use Rattle.program_meaning.specs.Said.{value_in}
use Rattle.program_meaning.specs.Substitution.{Value, SymbolValue, OverValue, value_cmp}
use Rattle.instance_search.specs.declared.found.Row.{Row}
use Rattle.instance_search.specs.Found.{row_in, rows_in}
use Rattle.sorted_rows.specs.Orders.{value_order}

-- VALUES

value_antisymm : (x y : Value) → value_cmp x y ≡ ordering_reverse (value_cmp y x)
value_antisymm (SymbolValue a) (SymbolValue b) = symbol_cmp_total.antisymm a b
value_antisymm (SymbolValue a) OverValue = refl
value_antisymm OverValue (SymbolValue b) = refl
value_antisymm OverValue OverValue = refl

value_trans : (x y z : Value) → value_cmp x y ≡ Less → value_cmp y z ≡ Less → value_cmp x z ≡ Less
value_trans (SymbolValue a) (SymbolValue b) (SymbolValue c) e f = symbol_cmp_total.trans a b c e f
value_trans (SymbolValue a) (SymbolValue b) OverValue e f = refl
value_trans (SymbolValue a) OverValue (SymbolValue c) e f = cc
value_trans (SymbolValue a) OverValue OverValue e f = refl
value_trans OverValue (SymbolValue b) z e f = cc
value_trans OverValue OverValue z e f = cc

value_congr : (x y z : Value) → value_cmp x y ≡ Equal → value_cmp x z ≡ value_cmp y z
value_congr (SymbolValue a) (SymbolValue b) (SymbolValue c) e = symbol_cmp_total.congr a b c e
value_congr (SymbolValue a) (SymbolValue b) OverValue e = refl
value_congr (SymbolValue a) OverValue z e = cc
value_congr OverValue (SymbolValue b) z e = cc
value_congr OverValue OverValue z e = refl

value_total : IsTotalOrder value_cmp
value_total = record { antisymm = value_antisymm; trans = value_trans; congr = value_congr }

same_value : (x y : Value) → value_cmp x y ≡ Equal → x ≡ y
same_value (SymbolValue a) (SymbolValue b) e = ap SymbolValue (symbol_cmp-level a b e)
same_value (SymbolValue a) OverValue e = cc
same_value OverValue (SymbolValue b) e = cc
same_value OverValue OverValue e = refl

-- ROWS

pub rows_total : (symbols : List Symbol) → IsTotalOrder (slice_cmp (value_order symbols))
rows_total symbols = lists_total (on_total (value_in symbols) value_total)

read_order : (symbols : List Symbol) (a b : List HeldValue) → slice_cmp (value_order symbols) a b ≡ slice_cmp value_cmp (map (value_in symbols) a) (map (value_in symbols) b)
read_order symbols [] [] = refl
read_order symbols [] (y ∷ b) = refl
read_order symbols (x ∷ a) [] = refl
read_order symbols (x ∷ a) (y ∷ b) = ap (ordering_then (value_cmp (value_in symbols x) (value_in symbols y))) (read_order symbols a b)

then_equal : (o p : Ordering) → ordering_then o p ≡ Equal → (o ≡ Equal) × (p ≡ Equal)
then_equal Less p e = cc
then_equal Equal p e = (refl, e)
then_equal Greater p e = cc

same_row : (a b : List Value) → slice_cmp value_cmp a b ≡ Equal → a ≡ b
same_row [] [] e = refl
same_row [] (y ∷ b) e = cc
same_row (x ∷ a) [] e = cc
same_row (x ∷ a) (y ∷ b) e =
    let both = then_equal (value_cmp x y) (slice_cmp value_cmp a b) e in
    let here = same_value x y both.0 in
    let rest = same_row a b both.1 in
    (λ i. here i ∷ rest i)

-- two rows are not level
abbrev apart : List Symbol → Row → Row → Bool
apart symbols x y = not (is_eq (slice_cmp (value_order symbols) x.values y.values))

reverse_level : (o : Ordering) → is_eq (ordering_reverse o) ≡ is_eq o
reverse_level Less = refl
reverse_level Equal = refl
reverse_level Greater = refl

apart_both : (symbols : List Symbol) (x y : Row) → apart symbols x y ≡ true → apart symbols y x ≡ true
apart_both symbols x y e =
    ap not (ap is_eq ((rows_total symbols).antisymm y.values x.values) ∙ reverse_level (slice_cmp (value_order symbols) x.values y.values)) ∙ e

level : (o : Ordering) → is_eq o ≡ true → o ≡ Equal
level Less e = absurd (true≢false (sym e))
level Equal e = refl
level Greater e = absurd (true≢false (sym e))

-- different rows are not level
all_apart : (symbols : List Symbol) (x : Row) (rows : List Row) → (IsMember (rows_in symbols rows) (row_in symbols x) → ⊥) → list_all (apart symbols x) rows ≡ true
all_apart symbols x [] h = refl
all_apart symbols x (y ∷ rows) h = and_intro (apart symbols x y) (list_all (apart symbols x) rows) (here (bool_cases (is_eq (slice_cmp (value_order symbols) x.values y.values)))) (all_apart symbols x rows (λ m. h (inr m)))
  where
    here : (is_eq (slice_cmp (value_order symbols) x.values y.values) ≡ true) ⊎ (is_eq (slice_cmp (value_order symbols) x.values y.values) ≡ false) → apart symbols x y ≡ true
    here (inl e) =
        absurd (h (inl (same_row (row_in symbols x) (row_in symbols y) (sym (read_order symbols x.values y.values) ∙ level (slice_cmp (value_order symbols) x.values y.values) e))))
    here (inr e) = ap not e

pairs_apart : (symbols : List Symbol) (rows : List Row) → IsApart (rows_in symbols rows) → all_pairs (apart symbols) rows ≡ true
pairs_apart symbols [] h = refl
pairs_apart symbols (x ∷ rows) h = and_intro (list_all (apart symbols x) rows) (all_pairs (apart symbols) rows) (all_apart symbols x rows h.0) (pairs_apart symbols rows h.1)

-- SORTED

less_from : (o : Ordering) → is_lt o ≡ false → not (is_eq (ordering_reverse o)) ≡ true → ordering_reverse o ≡ Less
less_from Less e f = absurd (true≢false e)
less_from Equal e f = absurd (true≢false (sym f))
less_from Greater e f = refl

module _ (symbols : List Symbol) where
  abbrev before : Row → Row → Bool
  before x y = is_lt (slice_cmp (value_order symbols) x.values y.values)

  all_less : (x : Row) (rows : List Row) → list_all (apart symbols x) rows ≡ true → AllByRecursion (λ y. before y x ≡ false) rows
      → AllByRecursion (λ y. slice_cmp value_cmp (row_in symbols x) y ≡ Less) (rows_in symbols rows)
  all_less x [] e h = tt
  all_less x (y ∷ rows) e h =
      let both = and_elim (apart symbols x y) (list_all (apart symbols x) rows) e in
      let turned = (rows_total symbols).antisymm x.values y.values in (
        sym (read_order symbols x.values y.values) ∙ turned
            ∙ less_from (slice_cmp (value_order symbols) y.values x.values) h.0 (ap (λ o. not (is_eq o)) (sym turned) ∙ both.0),
        all_less x rows both.1 h.1,
      )

  later : (x : Row) (rows : List Row) → IsSortedBy before (x ∷ rows) → AllByRecursion (λ y. before y x ≡ false) rows
  later x rows up =
      recursion_from_All (λ y. before y x ≡ false) rows
      (λ k d less. sorted_far before (ranks_by (rows_total symbols) (λ row. row.values)) (x ∷ rows) up 0 (suc k) d (omega arith) (omega (arith, less)))

  rest_sorted : (x : Row) (rows : List Row) → IsSortedBy before (x ∷ rows) → IsSortedBy before rows
  rest_sorted x rows up = λ k d low high. subst (λ j. before (get_or (x ∷ rows) j d) (get_or rows k d) ≡ false) (next k) (up (suc k) d (omega arith) (omega (arith, high)))
    where
      next : (k : ℕ) → suc k + 1 ≡ suc (k + 1)
      next k = omega arith

  ascends : (rows : List Row) → all_pairs (apart symbols) rows ≡ true → IsSortedBy before rows → Ascends (slice_cmp value_cmp) (rows_in symbols rows)
  ascends [] e up = tt
  ascends (x ∷ rows) e up =
      let both = and_elim (list_all (apart symbols x) rows) (all_pairs (apart symbols) rows) e in
      (all_less x rows both.0 (later x rows up), ascends rows both.1 (rest_sorted x rows up))

  pub sorted_ascends : (rows sorted : List Row) → IsPermutation rows sorted → IsSortedBy before sorted → IsApart (rows_in symbols rows) → Ascends (slice_cmp value_cmp) (rows_in symbols sorted)
  sorted_ascends rows sorted moved up different =
      ascends sorted (sym (pairs_permuted (apart symbols) (apart_both symbols) rows sorted moved) ∙ pairs_apart symbols rows different) up
