-- The layers of a table as it keeps them: names and long lists of arguments by their numbers.
use Rattle.std.specs.Prelude.{◌≡◌, ℕ, ◌^◌, ◌<◌, ◌≤◌, length, List, [], ◌∷◌, ◌++◌, map, take, slice_get, slice_index_or, Some}
use Rattle.std.specs.List.{AllByRecursion}
use Rattle.std.specs.String.{string_bytes}
use Rattle.symbols.specs.declared.layers.Node.{Node}
use Rattle.symbols.specs.declared.layers.Node.TheVariants.{Number as NumberNode, Identifier as IdentifierNode, Text as TextNode, Short as ShortNode, Long as LongNode}
use Rattle.symbols.specs.declared.layers.Layers.{Layers}
use Rattle.symbols.specs.inner.Layer.{Layer, NumberLayer, IdentifierLayer, TextLayer, FunctionLayer}

-- no element stands at two places
abbrev pub IsEachOnce : {X : Type 0} → List X → Type 0
IsEachOnce {X} xs = (a b : ℕ) (x : X) → slice_get xs a ≡ Some x → slice_get xs b ≡ Some x → a ≡ b

-- the new list is the old one with more behind it
abbrev pub IsBegun : {X : Type 0} → List X → List X → Type 0
IsBegun {X} old new = (more : List X) × (new ≡ old ++ more)

-- the names, and the lists of more than four arguments
abbrev pub names_of : Layers → List (List ℕ)
names_of layers = map string_bytes layers.names.keys

abbrev pub lists_of : Layers → List (List ℕ)
lists_of layers = map (λ list. list.items) layers.lists.keys

-- the list at a place of lists
abbrev pub list_at : List (List ℕ) → ℕ → List ℕ
list_at lists place = slice_index_or lists place []

-- the argument at a place, 0 where there is none
abbrev pub arg_at : List ℕ → ℕ → ℕ
arg_at args place = slice_index_or args place 0

-- up to four arguments as four places, with zeros behind them
abbrev pub padded : List ℕ → List ℕ
padded args = arg_at args 0 ∷ arg_at args 1 ∷ arg_at args 2 ∷ arg_at args 3 ∷ []

-- there are at most four arguments, and zeros behind them
pub record IsPadded (count : ℕ) (places : List ℕ) : Type 0 where
  pub few : count ≤ 4
  pub long : length (take count places) ≡ count
  pub zeros : places ≡ padded (take count places)

-- what a node says
abbrev pub layer_of : List (List ℕ) → List (List ℕ) → Node → Layer
layer_of names lists (NumberNode n) = NumberLayer n
layer_of names lists (IdentifierNode name) = IdentifierLayer (list_at names name)
layer_of names lists (TextNode text) = TextLayer (list_at names text)
layer_of names lists (ShortNode name count places) = FunctionLayer (list_at names name) (take count places)
layer_of names lists (LongNode name list) = FunctionLayer (list_at names name) (list_at lists list)

-- the numbers in a node are those of names and lists
abbrev pub IsKnown : ℕ → ℕ → Node → Type 0
IsKnown names lists (NumberNode n) = Unit {0}
IsKnown names lists (IdentifierNode name) = name < names
IsKnown names lists (TextNode text) = text < names
IsKnown names lists (ShortNode name count places) = (name < names) × IsPadded count places
IsKnown names lists (LongNode name list) = (name < names) × (list < lists)

-- the layers that the nodes say
abbrev pub layers_of : Layers → List Layer
layers_of layers = map (layer_of (names_of layers) (lists_of layers)) layers.nodes.keys

-- each name, each long list and each node stands once, and the nodes are known; each number is below 2^32
pub record AreLayers (layers : Layers) : Type 0 where
  pub known : AllByRecursion (IsKnown (length (names_of layers)) (length (lists_of layers))) layers.nodes.keys
  pub names : IsEachOnce (names_of layers)
  pub lists : IsEachOnce (lists_of layers)
  pub nodes : IsEachOnce layers.nodes.keys
  pub long : AllByRecursion (λ list. 4 < length list) (lists_of layers)
  pub few_names : length (names_of layers) < 2 ^ 32
  pub few_lists : length (lists_of layers) < 2 ^ 32
