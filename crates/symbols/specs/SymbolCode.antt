-- Symbols as lists of pieces, arguments before their function, by which a proof tells them apart.
use Rattle.std.specs.Prelude.{◌≡◌, ℕ, zero, suc, ℤ, pos, List, [], ◌∷◌, ◌⊎◌, refl}
use Rattle.std.proofs.Common.{inl, inr, ◌∙◌, ap}
use Rattle.std.specs.Coded.{Coded, code_by, coded_list, coded_ℤ, coded_ℕ, coded×, coded⊎}
use Rattle.symbols.specs.Symbol.{Symbol, Symbols, Number, Identifier, Text, Function, NoSymbols, MoreSymbols, arity}

-- a number, an identifier, a text, or a function's name with its number of arguments
abbrev pub Piece : Type 0
Piece = ℤ ⊎ (List ℕ ⊎ (List ℕ ⊎ (List ℕ × ℕ)))

abbrev mutual
  -- the pieces of a symbol, before more of them
  pub pieces : Symbol → List Piece → List Piece
  pieces (Number n) rest = inl n ∷ rest
  pieces (Identifier name) rest = inr (inl name) ∷ rest
  pieces (Text text) rest = inr (inr (inl text)) ∷ rest
  pieces (Function name args) rest = pieces_of_all args (inr (inr (inr (name, arity args))) ∷ rest)

  -- the pieces of arguments, the last argument first
  pub pieces_of_all : Symbols → List Piece → List Piece
  pieces_of_all NoSymbols rest = rest
  pieces_of_all (MoreSymbols symbol args) rest = pieces_of_all args (pieces symbol rest)

-- the first symbols of a stack, as arguments
abbrev pub taken : ℕ → List Symbol → Symbols
taken zero stack = NoSymbols
taken (suc n) [] = NoSymbols
taken (suc n) (symbol ∷ stack) = MoreSymbols symbol (taken n stack)

-- the stack below its first symbols
abbrev pub below : ℕ → List Symbol → List Symbol
below zero stack = stack
below (suc n) [] = []
below (suc n) (symbol ∷ stack) = below n stack

-- the stack after one more piece
abbrev pub stacked : List Symbol → Piece → List Symbol
stacked stack piece =
    elim piece [
      | inl n ↦ Number n ∷ stack
      | inr more ↦ elim more [
        | inl name ↦ Identifier name ∷ stack
        | inr others ↦ elim others [
          | inl text ↦ Text text ∷ stack
          | inr function ↦ Function function.0 (taken function.1 stack) ∷ below function.1 stack
        ]
      ]
    ]

-- the stack after these pieces
abbrev pub stack_after : List Symbol → List Piece → List Symbol
stack_after stack [] = stack
stack_after stack (piece ∷ rest) = stack_after (stacked stack piece) rest

-- the symbol on top of a stack
abbrev pub top : List Symbol → Symbol
top [] = Number (pos 0)
top (symbol ∷ stack) = symbol

-- arguments on a stack, the first on top
abbrev pub heaped : Symbols → List Symbol → List Symbol
heaped NoSymbols stack = stack
heaped (MoreSymbols symbol args) stack = symbol ∷ heaped args stack

pub taken-heaped : (args : Symbols) (stack : List Symbol) → taken (arity args) (heaped args stack) ≡ args
taken-heaped NoSymbols stack = refl
taken-heaped (MoreSymbols symbol args) stack = ap (λ rest. MoreSymbols symbol rest) (taken-heaped args stack)

pub below-heaped : (args : Symbols) (stack : List Symbol) → below (arity args) (heaped args stack) ≡ stack
below-heaped NoSymbols stack = refl
below-heaped (MoreSymbols symbol args) stack = below-heaped args stack

mutual
  pub stack_after-pieces : (symbol : Symbol) (stack : List Symbol) (rest : List Piece)
      → stack_after stack (pieces symbol rest) ≡ stack_after (symbol ∷ stack) rest
  stack_after-pieces (Number n) stack rest = refl
  stack_after-pieces (Identifier name) stack rest = refl
  stack_after-pieces (Text text) stack rest = refl
  stack_after-pieces (Function name args) stack rest =
      stack_after-pieces_of_all args stack (inr (inr (inr (name, arity args))) ∷ rest)
      ∙ (λ i. stack_after (Function name (taken-heaped args stack i) ∷ below-heaped args stack i) rest)

  pub stack_after-pieces_of_all : (args : Symbols) (stack : List Symbol) (rest : List Piece)
      → stack_after stack (pieces_of_all args rest) ≡ stack_after (heaped args stack) rest
  stack_after-pieces_of_all NoSymbols stack rest = refl
  stack_after-pieces_of_all (MoreSymbols symbol args) stack rest =
      stack_after-pieces_of_all args stack (pieces symbol rest) ∙ stack_after-pieces symbol (heaped args stack) rest

-- a symbol is what its pieces make of an empty stack
abbrev pub symbol_code : Coded Symbol
symbol_code =
    code_by (List Piece) (coded_list (coded⊎ coded_ℤ (coded⊎ (coded_list coded_ℕ) (coded⊎ (coded_list coded_ℕ) (coded× (coded_list coded_ℕ) coded_ℕ)))))
    (λ symbol. pieces symbol []) (λ list. top (stack_after [] list)) (λ symbol. ap top (stack_after-pieces symbol [] []))
