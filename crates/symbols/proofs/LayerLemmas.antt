-- Laws of what the layers of a table stand for.
use Rattle.std.proofs.Common.{◌≡◌, ℕ, zero, suc, ◌+◌, ◌^◌, ◌<◌, max, List, [], ◌∷◌, ◌++◌, length, map, get_or, Some, refl, sym, ap, ◌∙◌, subst, arith, append_assoc, append-nil, length-append, slice_get, pos, add-zero, zero-add}
use Rattle.std.proofs.lemmas.List.{get_or_append_left, length-map}
use Rattle.std.proofs.lemmas.Option.{slice_get-get_or, slice_get_within, get_or_from_slice_get}
use Rattle.std.proofs.Math.Seq.{get_or-append_seam}
use Rattle.std.specs.List.{AllByRecursion, All}
use Rattle.std.proofs.lemmas.List.Elements.{recursion_from_All}
use Rattle.symbols.specs.Symbol.{Symbol, Number, Function, MoreSymbols, depth, deepest}
use Rattle.symbols.specs.Table.{symbol_at, symbols_at, IsFront}
use Rattle.symbols.specs.inner.Layer.{Layer, NumberLayer, IdentifierLayer, TextLayer, FunctionLayer, symbol_of, symbols_on, symbols_of, IsBelow, AreBelow, IsTable, deepest_at}

-- one more layer adds its symbol
pub symbols_on-push : (before : List Symbol) (layers : List Layer) (layer : Layer)
    → symbols_on before (layers ++ layer ∷ []) ≡ symbols_on before layers ++ symbol_of (symbols_on before layers) layer ∷ []
symbols_on-push before [] layer = refl
symbols_on-push before (n ∷ layers) layer = symbols_on-push (before ++ symbol_of before n ∷ []) layers layer

pub length-symbols_on : (before : List Symbol) (layers : List Layer) → length (symbols_on before layers) ≡ length before + length layers
length-symbols_on before [] = omega arith
length-symbols_on before (n ∷ layers) = omega (arith, length-symbols_on (before ++ symbol_of before n ∷ []) layers, length-append before (symbol_of before n ∷ []))

pub length-symbols_of : (layers : List Layer) → length (symbols_of layers) ≡ length layers
length-symbols_of layers = omega (arith, length-symbols_on [] layers)

-- the symbols of the layers alone
abbrev pub rest_of : List Symbol → List Layer → List Symbol
rest_of before [] = []
rest_of before (layer ∷ layers) = symbol_of before layer ∷ rest_of (before ++ symbol_of before layer ∷ []) layers

pub symbols_on-rest : (before : List Symbol) (layers : List Layer) → symbols_on before layers ≡ before ++ rest_of before layers
symbols_on-rest before [] = sym (append-nil before)
symbols_on-rest before (n ∷ layers) =
    symbols_on-rest (before ++ symbol_of before n ∷ []) layers ∙ append_assoc before (symbol_of before n ∷ []) (rest_of (before ++ symbol_of before n ∷ []) layers)

-- arguments before the end mean the same with more behind
pub symbols_at-more : (b c : List Symbol) (ids : List ℕ) → AllByRecursion (λ id. id < length b) ids → symbols_at (b ++ c) ids ≡ symbols_at b ids
symbols_at-more b c [] h = refl
symbols_at-more b c (id ∷ ids) h =
    let first : symbol_at (b ++ c) id ≡ symbol_at b id = get_or_append_left b c (Number (pos 0)) id h.0 in
    let others : symbols_at (b ++ c) ids ≡ symbols_at b ids = symbols_at-more b c ids h.1 in
    (λ i. MoreSymbols (first i) (others i))

pub symbol_of-more : (b c : List Symbol) (layer : Layer) → IsBelow (length b) layer → symbol_of (b ++ c) layer ≡ symbol_of b layer
symbol_of-more b c (NumberLayer n) h = refl
symbol_of-more b c (IdentifierLayer name) h = refl
symbol_of-more b c (TextLayer text) h = refl
symbol_of-more b c (FunctionLayer name args) h = ap (λ l. Function name l) (symbols_at-more b c args h)

seam : (b : List Symbol) (s : Symbol) (r : List Symbol) → slice_get (b ++ s ∷ r) (length b + 0) ≡ Some s
seam b s r =
    let within : length b + 0 < length (b ++ s ∷ r) = omega (arith, length-append b (s ∷ r)) in
    slice_get-get_or (b ++ s ∷ r) (length b + 0) s within ∙ ap Some (ap (λ i. get_or (b ++ s ∷ r) i s) (add-zero (length b)) ∙ get_or-append_seam b s r s)

-- each place has the symbol of its layer
pub slice_get-symbols_on : (b : List Symbol) (layers : List Layer) (k : ℕ) (layer : Layer) → AreBelow (length b) layers → slice_get layers k ≡ Some layer
    → slice_get (symbols_on b layers) (length b + k) ≡ Some (symbol_of (symbols_on b layers) layer)
slice_get-symbols_on b [] k layer below e = absurd (omega (arith, slice_get_within {A = Layer} [] k layer e))
slice_get-symbols_on b (n ∷ layers) zero layer below e =
    let s : Symbol = symbol_of b n in
    let r : List Symbol = rest_of (b ++ s ∷ []) layers in
    let whole : symbols_on b (n ∷ layers) ≡ b ++ s ∷ r = symbols_on-rest b (n ∷ layers) in
    let same : n ≡ layer = cc in
    let said : symbol_of (b ++ s ∷ r) n ≡ s = symbol_of-more b (s ∷ r) n below.0 in
    let P : List Symbol → Type 0 = λ m. slice_get m (length b + 0) ≡ Some (symbol_of m layer) in
    subst P (sym whole) (seam b s r ∙ ap Some (sym said ∙ ap (symbol_of (b ++ s ∷ r)) same))
slice_get-symbols_on b (n ∷ layers) (suc k) layer below e =
    let s : Symbol = symbol_of b n in
    let long : length (b ++ s ∷ []) ≡ length b + 1 = length-append b (s ∷ []) in
    let later : AreBelow (length (b ++ s ∷ [])) layers = subst (λ p. AreBelow p layers) (sym long) below.1 in
    let place : length (b ++ s ∷ []) + k ≡ length b + suc k = omega (arith, long) in
    let m : List Symbol = symbols_on (b ++ s ∷ []) layers in
    subst (λ i. slice_get m i ≡ Some (symbol_of m layer)) place (slice_get-symbols_on (b ++ s ∷ []) layers k layer later e)

pub slice_get-symbols_of : (layers : List Layer) (k : ℕ) (layer : Layer) → AreBelow 0 layers → slice_get layers k ≡ Some layer
    → slice_get (symbols_of layers) k ≡ Some (symbol_of (symbols_of layers) layer)
slice_get-symbols_of layers k layer below e =
    subst (λ i. slice_get (symbols_of layers) i ≡ Some (symbol_of (symbols_of layers) layer)) (zero-add k) (slice_get-symbols_on [] layers k layer below e)

pub AreBelow-push : (place : ℕ) (layers : List Layer) (layer : Layer) → AreBelow place layers → IsBelow (place + length layers) layer → AreBelow place (layers ++ layer ∷ [])
AreBelow-push place [] layer below h = (subst (λ p. IsBelow p layer) (add-zero place) h, tt)
AreBelow-push place (n ∷ layers) layer below h =
    let next : place + length (n ∷ layers) ≡ place + 1 + length layers = omega arith in
    (below.0, AreBelow-push (place + 1) layers layer below.1 (subst (λ p. IsBelow p layer) next h))

-- the symbols stay in front where a layer is added
pub IsFront-push : (layers : List Layer) (layer : Layer) → IsFront (symbols_of layers) (symbols_of (layers ++ layer ∷ []))
IsFront-push layers layer = (symbol_of (symbols_of layers) layer ∷ [], symbols_on-push [] layers layer)

pub IsFront-same : (symbols : List Symbol) → IsFront symbols symbols
IsFront-same symbols = ([], sym (append-nil symbols))

-- the place that has a layer, also of a table that is grown, has the symbol that the layer says
pub placed-symbol : (old new : List Layer) (layer : Layer) (place : ℕ) → AreBelow 0 new → IsBelow (length old) layer → slice_get new place ≡ Some layer
    → IsFront (symbols_of old) (symbols_of new) → slice_get (symbols_of new) place ≡ Some (symbol_of (symbols_of old) layer)
placed-symbol old new layer place below h e front =
    let m : List Symbol = symbols_of old in
    let found : slice_get (symbols_of new) place ≡ Some (symbol_of (symbols_of new) layer) = slice_get-symbols_of new place layer below e in
    let long : length old ≡ length m = omega (arith, length-symbols_of old) in
    let stays : symbol_of (m ++ front.0) layer ≡ symbol_of m layer = symbol_of-more m front.0 layer (subst (λ p. IsBelow p layer) long h) in
    found ∙ ap Some (ap (λ l. symbol_of l layer) front.1 ∙ stays)

-- arguments that are places of the table are below its next place
pub IsBelow-args : (layers : List Layer) (symbols : List Symbol) (ids given : List ℕ) → ids ≡ given → symbols_of layers ≡ symbols → All (λ id. id < length symbols) given
    → AllByRecursion (λ id. id < length layers) ids
IsBelow-args layers symbols ids given same view h =
    let long : length symbols ≡ length layers = omega (arith, length-symbols_of layers, ap length view) in
    subst (λ l. AllByRecursion (λ id. id < length layers) l) (sym same) (subst (λ n. AllByRecursion (λ id. id < n) given) long (recursion_from_All _ given h))

-- the depths that are kept are those of the symbols
get_or-map_depth : (symbols : List Symbol) (place : ℕ) → place < length symbols → get_or (map depth symbols) place 0 ≡ depth (symbol_at symbols place)
get_or-map_depth [] place h = absurd (omega arith)
get_or-map_depth (s ∷ symbols) zero h = refl
get_or-map_depth (s ∷ symbols) (suc place) h = get_or-map_depth symbols place (omega arith)

pub deepest_at-depths : (symbols : List Symbol) (places : List ℕ) → AllByRecursion (λ id. id < length symbols) places
    → deepest_at (map depth symbols) places ≡ deepest (symbols_at symbols places)
deepest_at-depths symbols [] h = refl
deepest_at-depths symbols (place ∷ places) h =
    let first : get_or (map depth symbols) place 0 ≡ depth (symbol_at symbols place) = get_or-map_depth symbols place h.0 in
    let others : deepest_at (map depth symbols) places ≡ deepest (symbols_at symbols places) = deepest_at-depths symbols places h.1 in
    (λ i. max (first i) (others i))

pub map-depth-push : (symbols : List Symbol) (s : Symbol) → map depth (symbols ++ s ∷ []) ≡ map depth symbols ++ depth s ∷ []
map-depth-push [] s = refl
map-depth-push (x ∷ symbols) s = ap (λ l. depth x ∷ l) (map-depth-push symbols s)

-- the greatest depth that is kept of a table's arguments is theirs
pub deepest-args : (layers : List Layer) (kept : List ℕ) (symbols : List Symbol) (given : List ℕ) → symbols_of layers ≡ symbols → kept ≡ map depth (symbols_of layers)
    → All (λ id. id < length symbols) given → deepest_at kept given ≡ deepest (symbols_at symbols given)
deepest-args layers kept symbols given view depths h =
    ap (λ l. deepest_at l given) (depths ∙ ap (map depth) view) ∙ deepest_at-depths symbols given (recursion_from_All _ given h)

-- the depth that is found among the kept ones, through a slice of them
pub found-deepest : (layers : List Layer) (kept slice : List ℕ) (symbols : List Symbol) (given : List ℕ) (found : ℕ) → symbols_of layers ≡ symbols
    → kept ≡ map depth (symbols_of layers) → All (λ id. id < length symbols) given → slice ≡ kept → found ≡ deepest_at slice given → found ≡ deepest (symbols_at symbols given)
found-deepest layers kept slice symbols given found view depths h same e =
    e ∙ ap (λ l. deepest_at l given) same ∙ deepest-args layers kept symbols given view depths h

-- an id of the table is a place of its layers
pub place-within : (layers : List Layer) (symbols : List Symbol) (id place : ℕ) → symbols_of layers ≡ symbols → place ≡ id → id < length symbols → place < length layers
place-within layers symbols id place view same h = omega (arith, length-symbols_of layers, ap length view)

-- the symbol of an id is that of its layer
pub symbol_at-id : (layers : List Layer) (symbols : List Symbol) (id place : ℕ) (layer : Layer) → symbols_of layers ≡ symbols → AreBelow 0 layers → place ≡ id → slice_get layers place ≡ Some layer
    → symbol_at symbols id ≡ symbol_of symbols layer
symbol_at-id layers symbols id place layer view below same e =
    let P : List Symbol → Type 0 = λ l. symbol_at l id ≡ symbol_of l layer in
    subst P view (ap (symbol_at (symbols_of layers)) (sym same)
    ∙ get_or_from_slice_get (symbols_of layers) place (symbol_of (symbols_of layers) layer) (Number (pos 0)) (slice_get-symbols_of layers place layer below e))

-- a table has fewer than 2^32 layers
pub few-layers : (layers : List Layer) (kept : List ℕ) → IsTable layers kept → length layers < 2 ^ 32
few-layers layers kept table =
    let as_many : length kept ≡ length (symbols_of layers) = ap length table.depths ∙ length-map (symbols_of layers) depth in
    omega (arith, as_many, length-symbols_of layers, table.few)
