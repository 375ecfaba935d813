-- The order of symbols is total, and only a symbol is level with itself.
use Rattle.std.proofs.Common.{◌≡◌, ℕ, ℤ, pos, List, [], ◌∷◌, refl, sym, ap, ◌∙◌}
use Rattle.std.specs.Ordering.{nat_cmp, int_cmp, ordering_then, ordering_reverse}
use Rattle.std.specs.declared.cmp.Ordering.{Ordering}
use Rattle.std.specs.declared.cmp.Ordering.TheVariants.{Less, Equal, Greater}
use Rattle.std.specs.Cmp.{IsTotalOrder}
use Rattle.std.specs.Cmp.Lexicographic.{slice_cmp}
use Rattle.std.proofs.lemmas.Cmp.{ranked, int_ranked, nat_cmp_total, int_cmp_total, nat_list_cmp_total, alike_right, tied_itself}
use Rattle.symbols.specs.Symbol.{Symbol, Symbols, Number, Identifier, Text, Function, NoSymbols, MoreSymbols, arity}
use Rattle.symbols.specs.Order.{symbol_cmp, symbols_cmp}

-- ---- orders one after the other

pub then_Equal : (o : Ordering) → ordering_then o Equal ≡ o
then_Equal Less = refl
then_Equal Equal = refl
then_Equal Greater = refl

reverse_then : (o p : Ordering) → ordering_reverse (ordering_then o p) ≡ ordering_then (ordering_reverse o) (ordering_reverse p)
reverse_then Less p = refl
reverse_then Equal p = refl
reverse_then Greater p = refl

pub first_level : (o p : Ordering) → ordering_then o p ≡ Equal → o ≡ Equal
first_level Less p e = cc
first_level Equal p e = refl
first_level Greater p e = cc

second_level : (o p : Ordering) → ordering_then o p ≡ Equal → p ≡ Equal
second_level Less p e = cc
second_level Equal p e = e
second_level Greater p e = cc

-- how x stands to y, y to z and x to z, in a total order
record Chained (xy yz xz : Ordering) : Type 0 where
  less : xy ≡ Less → yz ≡ Less → xz ≡ Less
  first : xy ≡ Equal → xz ≡ yz
  second : yz ≡ Equal → xz ≡ xy

Chained-in : {K : Type 0} {R : K → K → Ordering} → IsTotalOrder R → (x y z : K) → Chained (R x y) (R y z) (R x z)
Chained-in o x y z = record {
  less = o.trans x y z;
  first = o.congr x y z;
  second = λ e. sym (alike_right o y z x e);
}

Chained-then : (a b c p q r : Ordering) → Chained a b c → Chained p q r → Chained (ordering_then a p) (ordering_then b q) (ordering_then c r)
Chained-then a b c p q r h k = record {
  less = then_less a b p q h k;
  first = then_first a p h k;
  second = then_second b q h k;
}
  where
    then_less : (a b p q : Ordering) → Chained a b c → Chained p q r → ordering_then a p ≡ Less → ordering_then b q ≡ Less → ordering_then c r ≡ Less
    then_less Less Less p q h k d e = ap (λ o. ordering_then o r) (h.less refl refl)
    then_less Less Equal p q h k d e = ap (λ o. ordering_then o r) (h.second refl)
    then_less Less Greater p q h k d e = cc
    then_less Equal Less p q h k d e = ap (λ o. ordering_then o r) (h.first refl)
    then_less Equal Equal p q h k d e = ap (λ o. ordering_then o r) (h.first refl) ∙ k.less d e
    then_less Equal Greater p q h k d e = cc
    then_less Greater b p q h k d e = cc

    then_first : (a p : Ordering) → Chained a b c → Chained p q r → ordering_then a p ≡ Equal → ordering_then c r ≡ ordering_then b q
    then_first Less p h k d = cc
    then_first Equal p h k d = λ i. ordering_then (h.first refl i) (k.first d i)
    then_first Greater p h k d = cc

    then_second : (b q : Ordering) → Chained a b c → Chained p q r → ordering_then b q ≡ Equal → ordering_then c r ≡ ordering_then a p
    then_second Less q h k d = cc
    then_second Equal q h k d = λ i. ordering_then (h.second refl i) (k.second d i)
    then_second Greater q h k d = cc

-- ---- level symbols are one

number_level : (m n : ℤ) → int_cmp m n ≡ Equal → m ≡ n
number_level m n e = int_ranked m n Equal (sym e)

bytes_level : (a b : List ℕ) → slice_cmp nat_cmp a b ≡ Equal → a ≡ b
bytes_level [] [] e = refl
bytes_level [] (y ∷ b) e = cc
bytes_level (x ∷ a) [] e = cc
bytes_level (x ∷ a) (y ∷ b) e =
    let first : x ≡ y = ranked x y Equal (sym (first_level (nat_cmp x y) (slice_cmp nat_cmp a b) e)) in
    let others : a ≡ b = bytes_level a b (second_level (nat_cmp x y) (slice_cmp nat_cmp a b) e) in
    (λ i. first i ∷ others i)

mutual
  -- symbols that are level in the order are equal
  pub symbol_cmp-level : (x y : Symbol) → symbol_cmp x y ≡ Equal → x ≡ y
  symbol_cmp-level (Number m) (Number n) e = ap Number (number_level m n e)
  symbol_cmp-level (Number m) (Identifier b) e = cc
  symbol_cmp-level (Number m) (Text b) e = cc
  symbol_cmp-level (Number m) (Function b ys) e = cc
  symbol_cmp-level (Identifier a) (Number n) e = cc
  symbol_cmp-level (Identifier a) (Identifier b) e = ap Identifier (bytes_level a b e)
  symbol_cmp-level (Identifier a) (Text b) e = cc
  symbol_cmp-level (Identifier a) (Function b ys) e = cc
  symbol_cmp-level (Text a) (Number n) e = cc
  symbol_cmp-level (Text a) (Identifier b) e = cc
  symbol_cmp-level (Text a) (Text b) e = ap Text (bytes_level a b e)
  symbol_cmp-level (Text a) (Function b ys) e = cc
  symbol_cmp-level (Function a xs) (Number n) e = cc
  symbol_cmp-level (Function a xs) (Identifier b) e = cc
  symbol_cmp-level (Function a xs) (Text b) e = cc
  symbol_cmp-level (Function a xs) (Function b ys) e =
      let rest : ordering_then (slice_cmp nat_cmp a b) (symbols_cmp xs ys) ≡ Equal = second_level (nat_cmp (arity xs) (arity ys)) _ e in
      let names : a ≡ b = bytes_level a b (first_level (slice_cmp nat_cmp a b) (symbols_cmp xs ys) rest) in
      let args : xs ≡ ys = symbols_cmp-level xs ys (second_level (slice_cmp nat_cmp a b) (symbols_cmp xs ys) rest) in
      (λ i. Function (names i) (args i))

  pub symbols_cmp-level : (xs ys : Symbols) → symbols_cmp xs ys ≡ Equal → xs ≡ ys
  symbols_cmp-level NoSymbols NoSymbols e = refl
  symbols_cmp-level NoSymbols (MoreSymbols y ys) e = cc
  symbols_cmp-level (MoreSymbols x xs) NoSymbols e = cc
  symbols_cmp-level (MoreSymbols x xs) (MoreSymbols y ys) e =
      let first : x ≡ y = symbol_cmp-level x y (first_level (symbol_cmp x y) (symbols_cmp xs ys) e) in
      let others : xs ≡ ys = symbols_cmp-level xs ys (second_level (symbol_cmp x y) (symbols_cmp xs ys) e) in
      (λ i. MoreSymbols (first i) (others i))

-- ---- both ways round

mutual
  pub symbol_cmp-reverse : (x y : Symbol) → symbol_cmp x y ≡ ordering_reverse (symbol_cmp y x)
  symbol_cmp-reverse (Number m) (Number n) = int_cmp_total.antisymm m n
  symbol_cmp-reverse (Number m) (Identifier b) = refl
  symbol_cmp-reverse (Number m) (Text b) = refl
  symbol_cmp-reverse (Number m) (Function b ys) = refl
  symbol_cmp-reverse (Identifier a) (Number n) = refl
  symbol_cmp-reverse (Identifier a) (Identifier b) = nat_list_cmp_total.antisymm a b
  symbol_cmp-reverse (Identifier a) (Text b) = refl
  symbol_cmp-reverse (Identifier a) (Function b ys) = refl
  symbol_cmp-reverse (Text a) (Number n) = refl
  symbol_cmp-reverse (Text a) (Identifier b) = refl
  symbol_cmp-reverse (Text a) (Text b) = nat_list_cmp_total.antisymm a b
  symbol_cmp-reverse (Text a) (Function b ys) = refl
  symbol_cmp-reverse (Function a xs) (Number n) = refl
  symbol_cmp-reverse (Function a xs) (Identifier b) = refl
  symbol_cmp-reverse (Function a xs) (Text b) = refl
  symbol_cmp-reverse (Function a xs) (Function b ys) =
      let places : nat_cmp (arity xs) (arity ys) ≡ ordering_reverse (nat_cmp (arity ys) (arity xs)) = nat_cmp_total.antisymm (arity xs) (arity ys) in
      let names : slice_cmp nat_cmp a b ≡ ordering_reverse (slice_cmp nat_cmp b a) = nat_list_cmp_total.antisymm a b in
      let args : symbols_cmp xs ys ≡ ordering_reverse (symbols_cmp ys xs) = symbols_cmp-reverse xs ys in
      (λ i. ordering_then (places i) (ordering_then (names i) (args i)))
      ∙ ap (ordering_then (ordering_reverse (nat_cmp (arity ys) (arity xs)))) (sym (reverse_then (slice_cmp nat_cmp b a) (symbols_cmp ys xs)))
      ∙ sym (reverse_then (nat_cmp (arity ys) (arity xs)) (ordering_then (slice_cmp nat_cmp b a) (symbols_cmp ys xs)))

  pub symbols_cmp-reverse : (xs ys : Symbols) → symbols_cmp xs ys ≡ ordering_reverse (symbols_cmp ys xs)
  symbols_cmp-reverse NoSymbols NoSymbols = refl
  symbols_cmp-reverse NoSymbols (MoreSymbols y ys) = refl
  symbols_cmp-reverse (MoreSymbols x xs) NoSymbols = refl
  symbols_cmp-reverse (MoreSymbols x xs) (MoreSymbols y ys) =
      let first : symbol_cmp x y ≡ ordering_reverse (symbol_cmp y x) = symbol_cmp-reverse x y in
      let others : symbols_cmp xs ys ≡ ordering_reverse (symbols_cmp ys xs) = symbols_cmp-reverse xs ys in
      (λ i. ordering_then (first i) (others i)) ∙ sym (reverse_then (symbol_cmp y x) (symbols_cmp ys xs))

-- ---- the order as parts, one after the other

abbrev kind_in : Symbol → ℕ
kind_in (Number n) = 0
kind_in (Identifier name) = 1
kind_in (Text text) = 2
kind_in (Function name args) = 3

abbrev number_in : Symbol → ℤ
number_in (Number n) = n
number_in (Identifier name) = pos 0
number_in (Text text) = pos 0
number_in (Function name args) = pos 0

abbrev word_in : Symbol → List ℕ
word_in (Number n) = []
word_in (Identifier name) = name
word_in (Text text) = text
word_in (Function name args) = name

abbrev args_in : Symbol → Symbols
args_in (Number n) = NoSymbols
args_in (Identifier name) = NoSymbols
args_in (Text text) = NoSymbols
args_in (Function name args) = args

abbrev by_parts : Symbol → Symbol → Ordering
by_parts x y =
    ordering_then (nat_cmp (kind_in x) (kind_in y)) (ordering_then (int_cmp (number_in x) (number_in y)) (ordering_then (nat_cmp (arity (args_in x)) (arity (args_in y)))
    (ordering_then (slice_cmp nat_cmp (word_in x) (word_in y)) (symbols_cmp (args_in x) (args_in y)))))

symbol_cmp-by_parts : (x y : Symbol) → symbol_cmp x y ≡ by_parts x y
symbol_cmp-by_parts (Number m) (Number n) = sym (then_Equal (int_cmp m n))
symbol_cmp-by_parts (Number m) (Identifier b) = refl
symbol_cmp-by_parts (Number m) (Text b) = refl
symbol_cmp-by_parts (Number m) (Function b ys) = refl
symbol_cmp-by_parts (Identifier a) (Number n) = refl
symbol_cmp-by_parts (Identifier a) (Identifier b) = sym (then_Equal (slice_cmp nat_cmp a b))
symbol_cmp-by_parts (Identifier a) (Text b) = refl
symbol_cmp-by_parts (Identifier a) (Function b ys) = refl
symbol_cmp-by_parts (Text a) (Number n) = refl
symbol_cmp-by_parts (Text a) (Identifier b) = refl
symbol_cmp-by_parts (Text a) (Text b) = sym (then_Equal (slice_cmp nat_cmp a b))
symbol_cmp-by_parts (Text a) (Function b ys) = refl
symbol_cmp-by_parts (Function a xs) (Number n) = refl
symbol_cmp-by_parts (Function a xs) (Identifier b) = refl
symbol_cmp-by_parts (Function a xs) (Text b) = refl
symbol_cmp-by_parts (Function a xs) (Function b ys) = refl

Chained-same : (a b c p q r : Ordering) → p ≡ a → q ≡ b → r ≡ c → Chained a b c → Chained p q r
Chained-same a b c p q r d e f h = record {
  less = λ k l. f ∙ h.less (sym d ∙ k) (sym e ∙ l);
  first = λ k. f ∙ h.first (sym d ∙ k) ∙ sym e;
  second = λ k. f ∙ h.second (sym e ∙ k) ∙ sym d;
}

-- symbols are chained where their arguments are
Chained-parts : (x y z : Symbol) → Chained (symbols_cmp (args_in x) (args_in y)) (symbols_cmp (args_in y) (args_in z)) (symbols_cmp (args_in x) (args_in z))
    → Chained (symbol_cmp x y) (symbol_cmp y z) (symbol_cmp x z)
Chained-parts x y z args =
    let words = Chained-then _ _ _ _ _ _ (Chained-in nat_list_cmp_total (word_in x) (word_in y) (word_in z)) args in
    let places = Chained-then _ _ _ _ _ _ (Chained-in nat_cmp_total (arity (args_in x)) (arity (args_in y)) (arity (args_in z))) words in
    let numbers = Chained-then _ _ _ _ _ _ (Chained-in int_cmp_total (number_in x) (number_in y) (number_in z)) places in
    let whole : Chained (by_parts x y) (by_parts y z) (by_parts x z) = Chained-then _ _ _ _ _ _ (Chained-in nat_cmp_total (kind_in x) (kind_in y) (kind_in z)) numbers in
    Chained-same _ _ _ _ _ _ (symbol_cmp-by_parts x y) (symbol_cmp-by_parts y z) (symbol_cmp-by_parts x z) whole

Chained-none : (ys zs : Symbols) → Chained (symbols_cmp NoSymbols ys) (symbols_cmp ys zs) (symbols_cmp NoSymbols zs)
Chained-none NoSymbols NoSymbols = record { less = λ d e. d; first = λ d. refl; second = λ d. refl }
Chained-none NoSymbols (MoreSymbols z zs) = record { less = λ d e. refl; first = λ d. refl; second = λ d. d }
Chained-none (MoreSymbols y ys) NoSymbols = record { less = λ d e. cc; first = λ d. cc; second = λ d. cc }
Chained-none (MoreSymbols y ys) (MoreSymbols z zs) = record { less = λ d e. refl; first = λ d. cc; second = λ d. refl }

mutual
  Chained-symbol : (x y z : Symbol) → Chained (symbol_cmp x y) (symbol_cmp y z) (symbol_cmp x z)
  Chained-symbol (Number n) y z = Chained-parts (Number n) y z (Chained-none (args_in y) (args_in z))
  Chained-symbol (Identifier a) y z = Chained-parts (Identifier a) y z (Chained-none (args_in y) (args_in z))
  Chained-symbol (Text a) y z = Chained-parts (Text a) y z (Chained-none (args_in y) (args_in z))
  Chained-symbol (Function a xs) y z = Chained-parts (Function a xs) y z (Chained-symbols xs (args_in y) (args_in z))

  Chained-symbols : (xs ys zs : Symbols) → Chained (symbols_cmp xs ys) (symbols_cmp ys zs) (symbols_cmp xs zs)
  Chained-symbols NoSymbols ys zs = Chained-none ys zs
  Chained-symbols (MoreSymbols x xs) NoSymbols NoSymbols = record { less = λ d e. d; first = λ d. d; second = λ d. refl }
  Chained-symbols (MoreSymbols x xs) NoSymbols (MoreSymbols z zs) = record { less = λ d e. cc; first = λ d. cc; second = λ d. cc }
  Chained-symbols (MoreSymbols x xs) (MoreSymbols y ys) NoSymbols = record { less = λ d e. e; first = λ d. refl; second = λ d. cc }
  Chained-symbols (MoreSymbols x xs) (MoreSymbols y ys) (MoreSymbols z zs) = Chained-then _ _ _ _ _ _ (Chained-symbol x y z) (Chained-symbols xs ys zs)

-- the order of symbols is total
pub symbol_cmp_total : IsTotalOrder symbol_cmp
symbol_cmp_total = record {
  antisymm = symbol_cmp-reverse;
  trans = λ x y z. (Chained-symbol x y z).less;
  congr = λ x y z. (Chained-symbol x y z).first;
}

-- a symbol is level with itself
pub symbol_cmp-itself : (x : Symbol) → symbol_cmp x x ≡ Equal
symbol_cmp-itself x = tied_itself symbol_cmp_total x

-- what stands below a smaller one is smaller
pub symbol_cmp-less : (x y z : Symbol) → symbol_cmp x y ≡ Less → symbol_cmp y z ≡ Less → symbol_cmp x z ≡ Less
symbol_cmp-less x y z = (Chained-symbol x y z).less
