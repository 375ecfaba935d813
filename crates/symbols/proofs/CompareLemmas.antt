-- Comparing layers by their heads, and then by the first arguments that differ.
use Rattle.std.proofs.Common.{◌≡◌, ℕ, suc, ◌<◌, ◌≤◌, length, Bool, cond, eqb, List, [], ◌∷◌, Option, Some, None, refl, sym, ap, ◌∙◌, subst, arith, inl, inr, slice_get}
use Rattle.std.proofs.lemmas.Bool.Decides.{eqb_tells}
use Rattle.std.specs.List.{AllByRecursion, All}
use Rattle.std.proofs.lemmas.List.Elements.{All-from_recursion}
use Rattle.std.specs.Ordering.{nat_cmp, int_cmp, ordering_then}
use Rattle.std.specs.declared.cmp.Ordering.{Ordering}
use Rattle.std.specs.declared.cmp.Ordering.TheVariants.{Less, Equal, Greater}
use Rattle.std.specs.Cmp.Lexicographic.{slice_cmp}
use Rattle.symbols.specs.Symbol.{Symbol, arity}
use Rattle.symbols.specs.Order.{symbol_cmp, symbols_cmp}
use Rattle.symbols.specs.Table.{symbol_at, symbols_at, IsOnce}
use Rattle.symbols.specs.declared.symbol_view.SymbolView.{SymbolView}
use Rattle.symbols.specs.declared.symbol_view.SymbolView.TheVariants.{Number as NumberView, Identifier as IdentifierView, Text as TextView, Function as FunctionView}
use Rattle.symbols.specs.View.{Shows, StandBefore}
use Rattle.symbols.specs.inner.Layer.{Layer, NumberLayer, IdentifierLayer, TextLayer, FunctionLayer, shown, symbol_of, symbols_of, IsBelow, AreBelow, args_in, heads_cmp, first_apart}
use Rattle.std.proofs.lemmas.Cmp.{ranked}
use Rattle.std.proofs.lemmas.Option.{slice_get_within}
use Rattle.symbols.proofs.LayerLemmas.{length-symbols_of, symbol_at-id}
use Rattle.symbols.proofs.OnceLemmas.{IsBelow-at, symbol_at-symbols_of}
use Rattle.symbols.proofs.OrderLemmas.{then_Equal, first_level, symbol_cmp-level, symbol_cmp-itself}

pub arity-symbols_at : (m : List Symbol) (ids : List ℕ) → arity (symbols_at m ids) ≡ length ids
arity-symbols_at m [] = refl
arity-symbols_at m (id ∷ ids) = ap suc (arity-symbols_at m ids)

then_assoc : (o p q : Ordering) → ordering_then (ordering_then o p) q ≡ ordering_then o (ordering_then p q)
then_assoc Less p q = refl
then_assoc Equal p q = refl
then_assoc Greater p q = refl

-- layers stand as their heads do, and then as their arguments
pub symbol_cmp-heads : (m : List Symbol) (a b : Layer)
    → symbol_cmp (symbol_of m a) (symbol_of m b) ≡ ordering_then (heads_cmp a b) (symbols_cmp (symbols_at m (args_in a)) (symbols_at m (args_in b)))
symbol_cmp-heads m (NumberLayer x) (NumberLayer y) = sym (then_Equal (int_cmp x y))
symbol_cmp-heads m (NumberLayer x) (IdentifierLayer b) = refl
symbol_cmp-heads m (NumberLayer x) (TextLayer b) = refl
symbol_cmp-heads m (NumberLayer x) (FunctionLayer b ys) = refl
symbol_cmp-heads m (IdentifierLayer a) (NumberLayer y) = refl
symbol_cmp-heads m (IdentifierLayer a) (IdentifierLayer b) = sym (then_Equal (slice_cmp nat_cmp a b))
symbol_cmp-heads m (IdentifierLayer a) (TextLayer b) = refl
symbol_cmp-heads m (IdentifierLayer a) (FunctionLayer b ys) = refl
symbol_cmp-heads m (TextLayer a) (NumberLayer y) = refl
symbol_cmp-heads m (TextLayer a) (IdentifierLayer b) = refl
symbol_cmp-heads m (TextLayer a) (TextLayer b) = sym (then_Equal (slice_cmp nat_cmp a b))
symbol_cmp-heads m (TextLayer a) (FunctionLayer b ys) = refl
symbol_cmp-heads m (FunctionLayer a xs) (NumberLayer y) = refl
symbol_cmp-heads m (FunctionLayer a xs) (IdentifierLayer b) = refl
symbol_cmp-heads m (FunctionLayer a xs) (TextLayer b) = refl
symbol_cmp-heads m (FunctionLayer a xs) (FunctionLayer b ys) =
    (λ i. ordering_then (nat_cmp (arity-symbols_at m xs i) (arity-symbols_at m ys i))
    (ordering_then (slice_cmp nat_cmp a b) (symbols_cmp (symbols_at m xs) (symbols_at m ys))))
    ∙ sym (then_assoc (nat_cmp (length xs) (length ys)) (slice_cmp nat_cmp a b) (symbols_cmp (symbols_at m xs) (symbols_at m ys)))

-- how the symbols at two places stand, where there are two
abbrev pub apart_cmp : List Symbol → Option (ℕ × ℕ) → Ordering
apart_cmp m None = Equal
apart_cmp m (Some pair) = symbol_cmp (symbol_at m pair.0) (symbol_at m pair.1)

then_first : (o p : Ordering) → (o ≡ Equal → ⊥) → ordering_then o p ≡ o
then_first Less p h = refl
then_first Equal p h = absurd (h refl)
then_first Greater p h = refl

apart-step : (m : List Symbol) (x y : ℕ) (xs ys : List ℕ) → IsOnce m → x < length m → y < length m
    → symbols_cmp (symbols_at m xs) (symbols_at m ys) ≡ apart_cmp m (first_apart xs ys)
    → ordering_then (symbol_cmp (symbol_at m x) (symbol_at m y)) (symbols_cmp (symbols_at m xs) (symbols_at m ys)) ≡ apart_cmp m (first_apart (x ∷ xs) (y ∷ ys))
apart-step m x y xs ys once p q h =
    let rest : Ordering = symbols_cmp (symbols_at m xs) (symbols_at m ys) in
    let P : Bool → Type 0 = λ b. ordering_then (symbol_cmp (symbol_at m x) (symbol_at m y)) rest ≡ apart_cmp m (cond b (first_apart xs ys) (Some (x, y))) in
    elim (eqb_tells x y) [
      | inl t ↦ subst P (sym t.0) (ap (λ s. ordering_then (symbol_cmp (symbol_at m x) s) rest) (sym (ap (symbol_at m) t.1)) ∙ ap (λ o. ordering_then o rest) (symbol_cmp-itself (symbol_at m x)) ∙ h)
      | inr t ↦ subst P (sym t.0) (then_first (symbol_cmp (symbol_at m x) (symbol_at m y)) rest (λ e. t.1 (once x y p q (symbol_cmp-level _ _ e))))
    ]

-- arguments stand as the first two that differ
pub symbols_cmp-apart : (m : List Symbol) (xs ys : List ℕ) → IsOnce m → length xs ≡ length ys → AllByRecursion (λ id. id < length m) xs → AllByRecursion (λ id. id < length m) ys
    → symbols_cmp (symbols_at m xs) (symbols_at m ys) ≡ apart_cmp m (first_apart xs ys)
symbols_cmp-apart m [] [] once long p q = refl
symbols_cmp-apart m [] (y ∷ ys) once long p q = absurd (omega arith)
symbols_cmp-apart m (x ∷ xs) [] once long p q = absurd (omega arith)
symbols_cmp-apart m (x ∷ xs) (y ∷ ys) once long p q = apart-step m x y xs ys once p.0 q.0 (symbols_cmp-apart m xs ys once (omega arith) p.1 q.1)

-- the first two that differ stand in their lists
pub first_apart-below : (n k : ℕ) (xs ys : List ℕ) (pair : ℕ × ℕ) → AllByRecursion (λ id. id < n) xs → AllByRecursion (λ id. id < k) ys → first_apart xs ys ≡ Some pair
    → (pair.0 < n) × (pair.1 < k)
first_apart-below n k [] ys pair p q e = cc
first_apart-below n k (x ∷ xs) [] pair p q e = cc
first_apart-below n k (x ∷ xs) (y ∷ ys) pair p q e = below-step n k x y xs ys pair p.0 q.0 (first_apart-below n k xs ys pair p.1 q.1) e
  where
    below-step : (n k x y : ℕ) (xs ys : List ℕ) (pair : ℕ × ℕ) → x < n → y < k → (first_apart xs ys ≡ Some pair → (pair.0 < n) × (pair.1 < k))
        → cond (eqb x y) (first_apart xs ys) (Some (x, y)) ≡ Some pair → (pair.0 < n) × (pair.1 < k)
    below-step n k x y xs ys pair p q h e =
        elim (eqb_tells x y) [
          | inl t ↦ h (subst (λ b. cond b (first_apart xs ys) (Some (x, y)) ≡ Some pair) t.0 e)
          | inr t ↦
              let f : Some (x, y) ≡ Some pair = subst (λ b. cond b (first_apart xs ys) (Some (x, y)) ≡ Some pair) t.0 e in
              let g : (x, y) ≡ pair = cc in
              (subst (λ i. i < n) (ap (λ w. w.0) g) p, subst (λ i. i < k) (ap (λ w. w.1) g) q)
        ]

-- layers whose heads are level have as many arguments
pub heads-long : (a b : Layer) → heads_cmp a b ≡ Equal → length (args_in a) ≡ length (args_in b)
heads-long (NumberLayer x) (NumberLayer y) e = refl
heads-long (NumberLayer x) (IdentifierLayer b) e = refl
heads-long (NumberLayer x) (TextLayer b) e = refl
heads-long (NumberLayer x) (FunctionLayer b ys) e = cc
heads-long (IdentifierLayer a) (NumberLayer y) e = refl
heads-long (IdentifierLayer a) (IdentifierLayer b) e = refl
heads-long (IdentifierLayer a) (TextLayer b) e = refl
heads-long (IdentifierLayer a) (FunctionLayer b ys) e = cc
heads-long (TextLayer a) (NumberLayer y) e = refl
heads-long (TextLayer a) (IdentifierLayer b) e = refl
heads-long (TextLayer a) (TextLayer b) e = refl
heads-long (TextLayer a) (FunctionLayer b ys) e = cc
heads-long (FunctionLayer a xs) (NumberLayer y) e = cc
heads-long (FunctionLayer a xs) (IdentifierLayer b) e = cc
heads-long (FunctionLayer a xs) (TextLayer b) e = cc
heads-long (FunctionLayer a xs) (FunctionLayer b ys) e =
    ranked (length xs) (length ys) Equal (sym (first_level (nat_cmp (length xs) (length ys)) (slice_cmp nat_cmp a b) e))

pub args-below : (n : ℕ) (a : Layer) → IsBelow n a → AllByRecursion (λ id. id < n) (args_in a)
args-below n (NumberLayer x) h = tt
args-below n (IdentifierLayer x) h = tt
args-below n (TextLayer x) h = tt
args-below n (FunctionLayer x xs) h = h

all_more : (n k : ℕ) (xs : List ℕ) → n ≤ k → AllByRecursion (λ x. x < n) xs → AllByRecursion (λ x. x < k) xs
all_more n k [] h all = tt
all_more n k (x ∷ xs) h all = (omega (arith, all.0), all_more n k xs h all.1)

-- the arguments of the layer at a place stand before it
pub args-at : (layers : List Layer) (k : ℕ) (a : Layer) → AreBelow 0 layers → slice_get layers k ≡ Some a → AllByRecursion (λ id. id < k) (args_in a)
args-at layers k a below e = args-below k a (IsBelow-at layers k a below e)

-- and so in the table
pub args-in_table : (layers : List Layer) (k : ℕ) (a : Layer) → AreBelow 0 layers → slice_get layers k ≡ Some a → AllByRecursion (λ id. id < length (symbols_of layers)) (args_in a)
args-in_table layers k a below e =
    all_more k (length (symbols_of layers)) (args_in a) (omega (arith, slice_get_within layers k a e, length-symbols_of layers)) (args-at layers k a below e)

-- symbols stand as their layers' heads, and then as their arguments
pub places-heads : (layers : List Layer) (a b : ℕ) (x y : Layer) → AreBelow 0 layers → slice_get layers a ≡ Some x → slice_get layers b ≡ Some y
    → symbol_cmp (symbol_at (symbols_of layers) a) (symbol_at (symbols_of layers) b)
    ≡ ordering_then (heads_cmp x y) (symbols_cmp (symbols_at (symbols_of layers) (args_in x)) (symbols_at (symbols_of layers) (args_in y)))
places-heads layers a b x y below d e =
    (λ i. symbol_cmp (symbol_at-symbols_of layers a x below d i) (symbol_at-symbols_of layers b y below e i)) ∙ symbol_cmp-heads (symbols_of layers) x y

-- where the heads are level, they stand as the first two arguments that differ
pub places-apart : (layers : List Layer) (a b : ℕ) (x y : Layer) → AreBelow 0 layers → IsOnce (symbols_of layers) → slice_get layers a ≡ Some x → slice_get layers b ≡ Some y → heads_cmp x y ≡ Equal
    → symbol_cmp (symbol_at (symbols_of layers) a) (symbol_at (symbols_of layers) b) ≡ apart_cmp (symbols_of layers) (first_apart (args_in x) (args_in y))
places-apart layers a b x y below once d e level =
    let m : List Symbol = symbols_of layers in
    places-heads layers a b x y below d e
    ∙ ap (λ o. ordering_then o (symbols_cmp (symbols_at m (args_in x)) (symbols_at m (args_in y)))) level
    ∙ symbols_cmp-apart m (args_in x) (args_in y) once (heads-long x y level) (args-in_table layers a x below d) (args-in_table layers b y below e)

-- where they are not level, they stand as the heads
pub places-other : (layers : List Layer) (a b : ℕ) (x y : Layer) → AreBelow 0 layers → slice_get layers a ≡ Some x → slice_get layers b ≡ Some y → (heads_cmp x y ≡ Equal → ⊥)
    → symbol_cmp (symbol_at (symbols_of layers) a) (symbol_at (symbols_of layers) b) ≡ heads_cmp x y
places-other layers a b x y below d e other = places-heads layers a b x y below d e ∙ then_first (heads_cmp x y) _ other

-- the arguments of an id's layer stand before the id, and so in the table
pub All-args : (layers : List Layer) (symbols : List Symbol) (id place : ℕ) (layer : Layer) (args : List ℕ) → symbols_of layers ≡ symbols → AreBelow 0 layers → place ≡ id → slice_get layers place ≡ Some layer
    → args ≡ args_in layer → All (λ arg. arg < id) args × All (λ arg. arg < length symbols) args
All-args layers symbols id place layer args view below same e is =
    let P : List ℕ → Type 0 = λ l. All (λ arg. arg < id) l × All (λ arg. arg < length symbols) l in
    let before : AllByRecursion (λ arg. arg < id) (args_in layer) = subst (λ n. AllByRecursion (λ arg. arg < n) (args_in layer)) same (args-at layers place layer below e) in
    let within : AllByRecursion (λ arg. arg < length symbols) (args_in layer) = subst (λ l. AllByRecursion (λ arg. arg < length l) (args_in layer)) view (args-in_table layers place layer below e) in
    subst P (sym is) (All-from_recursion _ (args_in layer) before, All-from_recursion _ (args_in layer) within)

-- the view of a layer shows the symbol there
pub Shows-view : (layers : List Layer) (symbols : List Symbol) (id place : ℕ) (view : SymbolView) → symbols_of layers ≡ symbols → AreBelow 0 layers → place ≡ id
    → slice_get layers place ≡ Some (shown view) → Shows symbols view (symbol_at symbols id)
Shows-view layers symbols id place (NumberView n) is below same e = symbol_at-id layers symbols id place _ is below same e
Shows-view layers symbols id place (IdentifierView name) is below same e = symbol_at-id layers symbols id place _ is below same e
Shows-view layers symbols id place (TextView text) is below same e = symbol_at-id layers symbols id place _ is below same e
Shows-view layers symbols id place (FunctionView name args) is below same e =
    (symbol_at-id layers symbols id place _ is below same e, (All-args layers symbols id place _ args.now is below same e refl).1)

-- and its arguments stand before it
pub StandBefore-view : (layers : List Layer) (symbols : List Symbol) (id place : ℕ) (view : SymbolView) → symbols_of layers ≡ symbols → AreBelow 0 layers → place ≡ id
    → slice_get layers place ≡ Some (shown view) → StandBefore id view
StandBefore-view layers symbols id place (NumberView n) is below same e = tt
StandBefore-view layers symbols id place (IdentifierView name) is below same e = tt
StandBefore-view layers symbols id place (TextView text) is below same e = tt
StandBefore-view layers symbols id place (FunctionView name args) is below same e = (All-args layers symbols id place _ args.now is below same e refl).0
