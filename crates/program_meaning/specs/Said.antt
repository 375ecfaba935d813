-- What the answers of the plain functions say.
use Rattle.std.specs.Prelude.{◌≡◌, ◌<◌, ℕ, suc, Bool, true, false, ℤ, pos, List, [], ◌∷◌, length, map, slice_index_or, Option, None, Some, if◌then◌else◌}
use Rattle.std.specs.Cmp.Lexicographic.{slice_cmp}
use Rattle.std.specs.List.{AllByRecursion}
use Rattle.std.specs.Ordering.{int_cmp, ordering_then, is_gt}
use Rattle.std.specs.declared.cmp.Ordering.{Ordering}
use Rattle.symbols.specs.Symbol.{Symbol}
use Rattle.symbols.specs.Order.{symbol_cmp}
use Rattle.symbols.specs.Table.{symbol_at}
use Rattle.syntax_tree.specs.Outcome.{IsSymbol, outcome_of}
use Rattle.syntax_tree.specs.declared.binding.Value.{Value as HeldValue}
use Rattle.syntax_tree.specs.declared.binding.Value.TheVariants as held
use Rattle.ground_model.specs.declared.rule.BodyLit.{BodyLit}
use Rattle.ground_model.specs.Rule.{LinearOf, PlaceOf, LitOf}
use Rattle.ground_model.specs.Sound.{is_small}
use Rattle.ground_model.specs.View.{literal_of}
use Rattle.program_meaning.specs.declared.collected.CollectedPlace.{CollectedPlace}
use Rattle.program_meaning.specs.declared.collected.SymbolLinear.{SymbolLinear}
use Rattle.program_meaning.specs.declared.ranking.AtomWorth.{AtomWorth}
use Rattle.program_meaning.specs.declared.comparing.Truth.{Truth}
use Rattle.program_meaning.specs.declared.comparing.Truth.TheVariants as truth
use Rattle.program_meaning.specs.Substitution.{Value, SymbolValue, OverValue}
use Rattle.program_meaning.specs.Comparison.{Compared, IsTruth, TruthOver, TruthUndefined}
use Rattle.program_meaning.specs.Instance.{PositiveIs}
use Rattle.program_meaning.specs.Theory.{pair_cmp}

-- what a comparison came to
abbrev pub said : Truth → Compared
said (truth.Is holds) = IsTruth holds
said truth.Over = TruthOver
said truth.Undefined = TruthUndefined

-- a value, its id read in a table
abbrev pub value_in : List Symbol → HeldValue → Value
value_in symbols (held.Symbol id) = SymbolValue (symbol_at symbols id)
value_in symbols held.Over = OverValue

-- the literal of a body, if there is one
abbrev pub literals_in : Option BodyLit → List (LitOf ℕ ℕ)
literals_in None = []
literals_in (Some literal) = literal_of [] literal ∷ []

-- POSSIBLE SYMBOLS

-- a symbol's flag is set
abbrev pub HasFlag : List Symbol → List Bool → Symbol → Type 0
HasFlag symbols flags a = (id : ℕ) × (slice_index_or flags id false ≡ true) × (symbol_at symbols id ≡ a)

-- an atom of an instance is negated, or its symbol's flag is set
abbrev pub IsPossibleIn : List Symbol → List Bool → AtomWorth → Type 0
IsPossibleIn symbols flags atom = PositiveIs (HasFlag symbols flags) (outcome_of symbols atom.worth) atom.sign

-- an instance with these atoms and this head gives the symbol from those whose flags are set
abbrev pub IsGivenBy : List Symbol → List Bool → List AtomWorth → Option HeldValue → Symbol → Type 0
IsGivenBy symbols flags atoms head a = (outcome_of symbols head ≡ IsSymbol a) × AllByRecursion (IsPossibleIn symbols flags) atoms

-- COLLECTED FORMS

-- a variable with its coefficient, its id read in a table
abbrev pub pair_in : List Symbol → ℕ × ℤ → Symbol × ℤ
pair_in symbols pair = (symbol_at symbols pair.0, pair.1)

abbrev pub linear_in : List Symbol → SymbolLinear → LinearOf Symbol
linear_in symbols linear = record { pairs = map (pair_in symbols) linear.pairs; constant = linear.constant }

-- a tuple, each of its ids read in a table
abbrev pub place_in : List Symbol → CollectedPlace → PlaceOf Symbol
place_in symbols place = record {
  linear = linear_in symbols place.linear;
  duration = place.duration;
  rest = map (symbol_at symbols) place.rest;
}

-- the pair at a place, and that the variable has it
abbrev pub pair_at : List (ℕ × ℤ) → ℕ → ℕ × ℤ
pair_at pairs place = slice_index_or pairs place (0, pos 0)

abbrev pub IsPairAt : List (ℕ × ℤ) → ℕ → ℕ → Type 0
IsPairAt pairs place variable = (place < length pairs) × ((pair_at pairs place).0 ≡ variable)

-- the variable is one of so many symbols, and its coefficient is small
abbrev pub IsKnownPair : ℕ → ℕ × ℤ → Type 0
IsKnownPair size pair = (pair.0 < size) × (is_small pair.1 ≡ true)

-- the place of the first pair whose variable does not stand before this one
abbrev pub place_for : Symbol → List (Symbol × ℤ) → ℕ
place_for x [] = 0
place_for x (pair ∷ rest) = (if is_gt (symbol_cmp x pair.0) then suc (place_for x rest) else 0)

-- the order of ids by their symbols, of pairs of ids, and of tuples behind their pairs
abbrev pub id_order : List Symbol → ℕ → ℕ → Ordering
id_order symbols a b = symbol_cmp (symbol_at symbols a) (symbol_at symbols b)

abbrev pub pair_order : List Symbol → ℕ × ℤ → ℕ × ℤ → Ordering
pair_order symbols a b = pair_cmp (pair_in symbols a) (pair_in symbols b)

abbrev pub behind_pairs : List Symbol → CollectedPlace → CollectedPlace → Ordering
behind_pairs symbols a b =
    ordering_then (ordering_then (int_cmp a.linear.constant b.linear.constant) (int_cmp a.duration b.duration)) (slice_cmp (id_order symbols) a.rest b.rest)
