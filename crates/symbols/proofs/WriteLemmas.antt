-- The text of arguments, as a loop writes it.
use Rattle.std.proofs.Common.{◌≡◌, ℕ, zero, suc, ◌+◌, ◌<◌, ◌≤◌, cond, List, [], ◌∷◌, ◌++◌, length, drop, get_or, codes, refl, sym, ap, ◌∙◌, append_assoc, append-nil, add-one, drop-cons}
use Rattle.std.proofs.Math.Dec.{eqb-suc-zero}
use Rattle.std.proofs.lemmas.List.{drop_all}
use Rattle.symbols.specs.Symbol.{Symbol, Symbols, NoSymbols, MoreSymbols, arity}
use Rattle.symbols.specs.Table.{symbol_at, symbols_at, applied}
use Rattle.symbols.specs.Text.{symbol_text, args_text, rest_text, closing}
use Rattle.symbols.specs.inner.Layer.{Layer, NumberLayer, IdentifierLayer, TextLayer, FunctionLayer, separator}
use Rattle.symbols.proofs.CompareLemmas.{arity-symbols_at}

-- the text of the arguments from a place on
abbrev pub tail_text : ℕ → Symbols → List ℕ
tail_text zero args = args_text args
tail_text (suc index) args = rest_text args

tail_text-none : (index : ℕ) → tail_text index NoSymbols ≡ []
tail_text-none zero = refl
tail_text-none (suc index) = refl

tail_text-more : (index : ℕ) (s : Symbol) (rest : Symbols) → tail_text index (MoreSymbols s rest) ≡ (separator index ++ symbol_text s) ++ tail_text (suc index) rest
tail_text-more zero s rest = refl
tail_text-more (suc index) s rest =
    ap (λ b. (cond b [] (codes ",") ++ symbol_text s) ++ rest_text rest) (sym (eqb-suc-zero index))

-- an argument is written
pub tail_text-step : (m : List Symbol) (ids : List ℕ) (index item : ℕ) (out parted new whole : List ℕ) → index < length ids → item ≡ get_or ids index item
    → parted ≡ out ++ separator index → new ≡ parted ++ symbol_text (symbol_at m item) → out ++ tail_text index (symbols_at m (drop index ids)) ≡ whole
    → new ++ tail_text (index + 1) (symbols_at m (drop (index + 1) ids)) ≡ whole
tail_text-step m ids index item out parted new whole within is part write kept =
    let s : Symbol = symbol_at m item in
    let rest : Symbols = symbols_at m (drop (suc index) ids) in
    let cut : drop index ids ≡ item ∷ drop (suc index) ids = drop-cons ids index item within ∙ ap (λ x. x ∷ drop (suc index) ids) (sym is) in
    let more : tail_text index (symbols_at m (drop index ids)) ≡ (separator index ++ symbol_text s) ++ tail_text (suc index) rest =
    ap (λ l. tail_text index (symbols_at m l)) cut ∙ tail_text-more index s rest in
    let joined : new ≡ out ++ (separator index ++ symbol_text s) = write ∙ ap (λ l. l ++ symbol_text s) part ∙ append_assoc out (separator index) (symbol_text s) in
    ap (λ k. new ++ tail_text k (symbols_at m (drop k ids))) (add-one index)
    ∙ ap (λ l. l ++ tail_text (suc index) rest) joined
    ∙ append_assoc out (separator index ++ symbol_text s) (tail_text (suc index) rest)
    ∙ ap (λ l. out ++ l) (sym more) ∙ kept

-- a name, its arguments and what ends them are written
pub written-function : (m : List Symbol) (ids name before opened started looped ending : List ℕ) (index : ℕ) → opened ≡ before ++ name → started ≡ opened ++ codes "("
    → looped ++ tail_text index (symbols_at m (drop index ids)) ≡ started ++ args_text (symbols_at m ids) → length ids ≤ index → ending ≡ closing name (length ids)
    → looped ++ ending ≡ before ++ symbol_text (applied m name ids)
written-function m ids name before opened started looped ending index named begun kept done ended =
    let args : List ℕ = args_text (symbols_at m ids) in
    let last : List ℕ = closing name (arity (symbols_at m ids)) in
    let none : tail_text index (symbols_at m (drop index ids)) ≡ [] = ap (λ l. tail_text index (symbols_at m l)) (drop_all index ids done) ∙ tail_text-none index in
    let all : looped ≡ started ++ args = sym (append-nil looped) ∙ ap (λ l. looped ++ l) (sym none) ∙ kept in
    let tail : ending ≡ last = ended ∙ ap (closing name) (sym (arity-symbols_at m ids)) in
    (λ i. all i ++ tail i) ∙ ap (λ l. (l ++ args) ++ last) (begun ∙ ap (λ l. l ++ codes "(") named)
    ∙ ap (λ l. (l ++ args) ++ last) (append_assoc before name (codes "("))
    ∙ ap (λ l. l ++ last) (append_assoc before (name ++ codes "(") args)
    ∙ append_assoc before ((name ++ codes "(") ++ args) last
