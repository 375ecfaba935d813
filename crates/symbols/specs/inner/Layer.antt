-- One layer of a symbol, and what lists of layers stand for.
use Rattle.std.specs.Prelude.{◌≡◌, ℕ, ℤ, ◌+◌, ◌^◌, ◌<◌, ◌≤◌, length, List, [], ◌∷◌, ◌++◌, map, max, slice_index, Option, Some, None, ◌==◌, if◌then◌else◌, codes}
use Rattle.std.specs.List.{AllByRecursion}
use Rattle.std.specs.Ordering.{nat_cmp, int_cmp, ordering_then}
use Rattle.std.specs.declared.cmp.Ordering.{Ordering}
use Rattle.std.specs.Cmp.Lexicographic.{slice_cmp}
use Rattle.symbols.specs.declared.symbol_view.SymbolView.{SymbolView}
use Rattle.symbols.specs.declared.symbol_view.SymbolView.TheVariants.{Number as NumberView, Identifier as IdentifierView, Text as TextView, Function as FunctionView}
use Rattle.symbols.specs.Symbol.{Symbol, Number, Identifier, Text, depth}
use Rattle.symbols.specs.Table.{applied, IsOnce}

-- a symbol whose arguments are places
pub data Layer : Type 0 where
  NumberLayer : ℤ → Layer
  IdentifierLayer : List ℕ → Layer
  TextLayer : List ℕ → Layer
  FunctionLayer : List ℕ → List ℕ → Layer

-- the layer that a view shows
abbrev pub shown : SymbolView → Layer
shown (NumberView n) = NumberLayer n
shown (IdentifierView name) = IdentifierLayer name.now
shown (TextView text) = TextLayer text.now
shown (FunctionView name args) = FunctionLayer name.now args.now

-- what a layer says, its arguments read in the list
abbrev pub symbol_of : List Symbol → Layer → Symbol
symbol_of symbols (NumberLayer n) = Number n
symbol_of symbols (IdentifierLayer name) = Identifier name
symbol_of symbols (TextLayer text) = Text text
symbol_of symbols (FunctionLayer name args) = applied symbols name args

-- the symbols before, and then those of these layers
abbrev pub symbols_on : List Symbol → List Layer → List Symbol
symbols_on before [] = before
symbols_on before (layer ∷ layers) = symbols_on (before ++ symbol_of before layer ∷ []) layers

-- the symbols of a table's layers
abbrev pub symbols_of : List Layer → List Symbol
symbols_of layers = symbols_on [] layers

-- the arguments of a layer stand before a place
abbrev pub IsBelow : ℕ → Layer → Type 0
IsBelow place (NumberLayer n) = Unit {0}
IsBelow place (IdentifierLayer name) = Unit {0}
IsBelow place (TextLayer text) = Unit {0}
IsBelow place (FunctionLayer name args) = AllByRecursion (λ id. id < place) args

-- the arguments of each layer stand before it, the first of them at this place
abbrev pub AreBelow : ℕ → List Layer → Type 0
AreBelow place [] = Unit {0}
AreBelow place (layer ∷ layers) = IsBelow place layer × AreBelow (place + 1) layers

-- the greatest of the depths that are kept at these places, 0 where there is none
abbrev pub deepest_at : List ℕ → List ℕ → ℕ
deepest_at kept [] = 0
deepest_at kept (place ∷ places) = max (slice_index kept place) (deepest_at kept places)

-- arguments stand before their functions, no symbol stands twice, and each depth is kept beside its symbol, at most 256; each place
-- is below 2^32
pub record IsTable (layers : List Layer) (kept : List ℕ) : Type 0 where
  pub before : AreBelow 0 layers
  pub once : IsOnce (symbols_of layers)
  pub depths : kept ≡ map depth (symbols_of layers)
  pub shallow : AllByRecursion (λ n. n ≤ 256) kept
  pub few : length kept < 2 ^ 32

-- the arguments of a layer, none where it is no function
abbrev pub args_in : Layer → List ℕ
args_in (NumberLayer n) = []
args_in (IdentifierLayer name) = []
args_in (TextLayer text) = []
args_in (FunctionLayer name args) = args

-- where a kind of layers stands in the order
abbrev pub kind_of : Layer → ℕ
kind_of (NumberLayer n) = 0
kind_of (IdentifierLayer name) = 1
kind_of (TextLayer text) = 2
kind_of (FunctionLayer name args) = 3

-- how a layer stands to another, but for the arguments themselves
abbrev pub heads_cmp : Layer → Layer → Ordering
heads_cmp (NumberLayer m) (NumberLayer n) = int_cmp m n
heads_cmp (IdentifierLayer a) (IdentifierLayer b) = slice_cmp nat_cmp a b
heads_cmp (TextLayer a) (TextLayer b) = slice_cmp nat_cmp a b
heads_cmp (FunctionLayer a xs) (FunctionLayer b ys) = ordering_then (nat_cmp (length xs) (length ys)) (slice_cmp nat_cmp a b)
heads_cmp a b = nat_cmp (kind_of a) (kind_of b)

-- the first two at one place that differ
abbrev pub first_apart : List ℕ → List ℕ → Option (ℕ × ℕ)
first_apart [] ys = None
first_apart (x ∷ xs) [] = None
first_apart (x ∷ xs) (y ∷ ys) = (if x == y then first_apart xs ys else Some (x, y))

-- what stands before an argument, by its place: a comma, but for the first
abbrev pub separator : ℕ → List ℕ
separator index = (if index == 0 then [] else codes ",")
