-- Layers that are distinct stand for symbols that are distinct.
use Rattle.std.proofs.Common.{◌≡◌, ℕ, zero, suc, ◌+◌, ◌^◌, ◌<◌, ◌≤◌, length-append, List, [], ◌∷◌, ◌++◌, length, map, get_or, Some, refl, sym, ap, ◌∙◌, subst, arith, slice_get, pos, zero-add, ℤ, Contains}
use Rattle.std.proofs.lemmas.Option.{slice_get-get_or, slice_get_within, get_or_from_slice_get}
use Rattle.std.specs.List.{AllByRecursion}
use Rattle.symbols.specs.Symbol.{Symbol, Symbols, Number, Identifier, Text, Function, NoSymbols, MoreSymbols, depth}
use Rattle.symbols.specs.Table.{symbol_at, symbols_at, IsOnce}
use Rattle.symbols.specs.inner.Layer.{Layer, NumberLayer, IdentifierLayer, TextLayer, FunctionLayer, symbol_of, symbols_of, IsBelow, AreBelow, IsTable}
use Rattle.symbols.specs.inner.Layers.{IsEachOnce}
use Rattle.symbols.proofs.ListLemmas.{AllByRecursion-push}
use Rattle.symbols.proofs.LayerLemmas.{slice_get-symbols_of, length-symbols_of, AreBelow-push, symbols_on-push, map-depth-push}

-- different places below a number have different symbols
abbrev Apart : List Symbol → ℕ → Type 0
Apart m n = (a b : ℕ) → a < n → b < n → symbol_at m a ≡ symbol_at m b → a ≡ b

number_of : (x y : ℤ) → Number x ≡ Number y → x ≡ y
number_of x y e = cc

identifier_of : (x y : List ℕ) → Identifier x ≡ Identifier y → x ≡ y
identifier_of x y e = cc

text_of : (x y : List ℕ) → Text x ≡ Text y → x ≡ y
text_of x y e = cc

name_of : (x y : List ℕ) (xs ys : Symbols) → Function x xs ≡ Function y ys → x ≡ y
name_of x y xs ys e = cc

args_of : (x y : List ℕ) (xs ys : Symbols) → Function x xs ≡ Function y ys → xs ≡ ys
args_of x y xs ys e = cc

first_of_args : (x y : Symbol) (xs ys : Symbols) → MoreSymbols x xs ≡ MoreSymbols y ys → x ≡ y
first_of_args x y xs ys e = cc

rest_of_args : (x y : Symbol) (xs ys : Symbols) → MoreSymbols x xs ≡ MoreSymbols y ys → xs ≡ ys
rest_of_args x y xs ys e = cc

no_more : (x : Symbol) (xs : Symbols) → NoSymbols ≡ MoreSymbols x xs → ⊥
no_more x xs e = cc

same_ids : (m : List Symbol) (n : ℕ) (xs ys : List ℕ) → Apart m n → AllByRecursion (λ a. a < n) xs → AllByRecursion (λ a. a < n) ys → symbols_at m xs ≡ symbols_at m ys → xs ≡ ys
same_ids m n [] [] inj p q e = refl
same_ids m n [] (y ∷ ys) inj p q e = absurd (no_more _ _ e)
same_ids m n (x ∷ xs) [] inj p q e = absurd (no_more _ _ (sym e))
same_ids m n (x ∷ xs) (y ∷ ys) inj p q e =
    let first : x ≡ y = inj x y p.0 q.0 (first_of_args _ _ _ _ e) in
    let others : xs ≡ ys = same_ids m n xs ys inj p.1 q.1 (rest_of_args _ _ _ _ e) in
    (λ i. first i ∷ others i)

-- layers that say the same are one
pub same_layers : (m : List Symbol) (n : ℕ) (a b : Layer) → Apart m n → IsBelow n a → IsBelow n b → symbol_of m a ≡ symbol_of m b → a ≡ b
same_layers m n (NumberLayer x) (NumberLayer y) inj p q e = ap NumberLayer (number_of x y e)
same_layers m n (IdentifierLayer x) (IdentifierLayer y) inj p q e = ap IdentifierLayer (identifier_of x y e)
same_layers m n (TextLayer x) (TextLayer y) inj p q e = ap TextLayer (text_of x y e)
same_layers m n (FunctionLayer x xs) (FunctionLayer y ys) inj p q e =
    let name : x ≡ y = name_of _ _ _ _ e in
    let ids : xs ≡ ys = same_ids m n xs ys inj p q (args_of _ _ _ _ e) in
    (λ i. FunctionLayer (name i) (ids i))
same_layers m n (NumberLayer x) (IdentifierLayer y) inj p q e = cc
same_layers m n (NumberLayer x) (TextLayer y) inj p q e = cc
same_layers m n (NumberLayer x) (FunctionLayer y ys) inj p q e = cc
same_layers m n (IdentifierLayer x) (NumberLayer y) inj p q e = cc
same_layers m n (IdentifierLayer x) (TextLayer y) inj p q e = cc
same_layers m n (IdentifierLayer x) (FunctionLayer y ys) inj p q e = cc
same_layers m n (TextLayer x) (NumberLayer y) inj p q e = cc
same_layers m n (TextLayer x) (IdentifierLayer y) inj p q e = cc
same_layers m n (TextLayer x) (FunctionLayer y ys) inj p q e = cc
same_layers m n (FunctionLayer x xs) (NumberLayer y) inj p q e = cc
same_layers m n (FunctionLayer x xs) (IdentifierLayer y) inj p q e = cc
same_layers m n (FunctionLayer x xs) (TextLayer y) inj p q e = cc

all_more : (n k : ℕ) (xs : List ℕ) → n ≤ k → AllByRecursion (λ x. x < n) xs → AllByRecursion (λ x. x < k) xs
all_more n k [] h all = tt
all_more n k (x ∷ xs) h all = (omega (arith, all.0), all_more n k xs h all.1)

pub IsBelow-more : (n k : ℕ) (a : Layer) → n ≤ k → IsBelow n a → IsBelow k a
IsBelow-more n k (NumberLayer x) h p = tt
IsBelow-more n k (IdentifierLayer x) h p = tt
IsBelow-more n k (TextLayer x) h p = tt
IsBelow-more n k (FunctionLayer x xs) h p = all_more n k xs h p

IsBelow-on : (place : ℕ) (layers : List Layer) (k : ℕ) (a : Layer) → AreBelow place layers → slice_get layers k ≡ Some a → IsBelow (place + k) a
IsBelow-on place [] k a below e = absurd (omega (arith, slice_get_within {A = Layer} [] k a e))
IsBelow-on place (x ∷ layers) zero a below e =
    let same : x ≡ a = cc in
    let here : place ≡ place + 0 = omega arith in
    subst (λ p. IsBelow p a) here (subst (λ z. IsBelow place z) same below.0)
IsBelow-on place (x ∷ layers) (suc k) a below e =
    let next : place + 1 + k ≡ place + suc k = omega arith in
    subst (λ p. IsBelow p a) next (IsBelow-on (place + 1) layers k a below.1 e)

-- the arguments of the layer at a place stand before it
pub IsBelow-at : (layers : List Layer) (k : ℕ) (a : Layer) → AreBelow 0 layers → slice_get layers k ≡ Some a → IsBelow k a
IsBelow-at layers k a below e = subst (λ p. IsBelow p a) (zero-add k) (IsBelow-on 0 layers k a below e)

-- the symbol at a place is that of its layer
pub symbol_at-symbols_of : (layers : List Layer) (k : ℕ) (a : Layer) → AreBelow 0 layers → slice_get layers k ≡ Some a → symbol_at (symbols_of layers) k ≡ symbol_of (symbols_of layers) a
symbol_at-symbols_of layers k a below e =
    let m : List Symbol = symbols_of layers in
    get_or_from_slice_get m k (symbol_of m a) (Number (pos 0)) (slice_get-symbols_of layers k a below e)

-- places below a number, with different layers, have different symbols
once-below : (layers : List Layer) → AreBelow 0 layers → IsEachOnce layers → (n : ℕ) → n ≤ length layers → Apart (symbols_of layers) n
once-below layers below each zero le a b p q e = absurd (omega arith)
once-below layers below each (suc n) le a b p q e =
    let m : List Symbol = symbols_of layers in
    let other : Layer = NumberLayer (pos 0) in
    let x : Layer = get_or layers a other in
    let y : Layer = get_or layers b other in
    let ea : slice_get layers a ≡ Some x = slice_get-get_or layers a other (omega arith) in
    let eb : slice_get layers b ≡ Some y = slice_get-get_or layers b other (omega arith) in
    let bx : IsBelow n x = IsBelow-more a n x (omega arith) (IsBelow-at layers a x below ea) in
    let by : IsBelow n y = IsBelow-more b n y (omega arith) (IsBelow-at layers b y below eb) in
    let same : symbol_of m x ≡ symbol_of m y = sym (symbol_at-symbols_of layers a x below ea) ∙ e ∙ symbol_at-symbols_of layers b y below eb in
    let lower : Apart m n = once-below layers below each n (omega arith) in
    each a b x ea (eb ∙ ap Some (sym (same_layers m n x y lower bx by same)))

-- a table of different layers has each symbol once
pub IsOnce-symbols_of : (layers : List Layer) → AreBelow 0 layers → IsEachOnce layers → IsOnce (symbols_of layers)
IsOnce-symbols_of layers below each a b p q e =
    let long : length (symbols_of layers) ≡ length layers = length-symbols_of layers in
    once-below layers below each (length layers) (omega arith) a b (omega arith) (omega arith) e

-- a layer that is added, with its depth, leaves a table
pub IsTable-push : (layers : List Layer) (kept : List ℕ) (a : Layer) (level : ℕ) → IsTable layers kept → IsBelow (length layers) a
    → level ≡ depth (symbol_of (symbols_of layers) a) → level ≤ 256 → length kept + 1 < 2 ^ 32 → IsEachOnce (layers ++ a ∷ []) → IsTable (layers ++ a ∷ []) (kept ++ level ∷ [])
IsTable-push layers kept a level table below same fits room each =
    let before : AreBelow 0 (layers ++ a ∷ []) = AreBelow-push 0 layers a table.before (subst (λ p. IsBelow p a) (sym (zero-add (length layers))) below) in
    let m : List Symbol = symbols_of layers in
    let s : Symbol = symbol_of m a in
    let depths : kept ++ level ∷ [] ≡ map depth (symbols_of (layers ++ a ∷ [])) =
    (λ i. table.depths i ++ same i ∷ []) ∙ sym (ap (map depth) (symbols_on-push [] layers a) ∙ map-depth-push m s) in
    record {
      before = before;
      once = IsOnce-symbols_of (layers ++ a ∷ []) before each;
      depths = depths;
      shallow = AllByRecursion-push (λ n. n ≤ 256) kept level table.shallow fits;
      few = simp length-append (omega arith);
    }

-- a layer that is not among those of a table says no symbol of it
pub absent-symbol : (layers : List Layer) (a : Layer) → AreBelow 0 layers → IsOnce (symbols_of layers) → IsBelow (length layers) a
    → ((place : ℕ) → ¬ (slice_get layers place ≡ Some a)) → ¬ Contains (symbols_of layers) (symbol_of (symbols_of layers) a)
absent-symbol layers a below once within absent has =
    let m : List Symbol = symbols_of layers in
    let k : ℕ = has.0 in
    let long : length m ≡ length layers = length-symbols_of layers in
    let x : Layer = get_or layers k a in
    let e : slice_get layers k ≡ Some x = slice_get-get_or layers k a (omega (arith, has.1, long)) in
    let here : slice_get m k ≡ Some (symbol_of m a) = slice_get-get_or m k (symbol_of m a) has.1 ∙ ap Some has.2 in
    let same : symbol_of m x ≡ symbol_of m a = sym (symbol_at-symbols_of layers k x below e) ∙ get_or_from_slice_get m k (symbol_of m a) (Number (pos 0)) here in
    let inside : IsBelow (length layers) x = IsBelow-more k (length layers) x (omega (arith, slice_get_within layers k x e)) (IsBelow-at layers k x below e) in
    absent k (e ∙ ap Some (same_layers m (length layers) x a (λ i j p q s. once i j (omega arith) (omega arith) s) inside within same))
