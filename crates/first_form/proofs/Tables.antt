-- Ids, and what they mean as the table grows.
use Rattle.std.proofs.Common.{◌≡◌, ℕ, ◌<◌, ◌≤◌, List, [], ◌∷◌, ◌++◌, map, length, Some, slice_get, refl, sym, ◌∙◌, ap, subst, append_assoc, length-append, arith, pos}
use Rattle.std.specs.List.{AllByRecursion}
use Rattle.std.proofs.lemmas.List.{append-nil, get_or_append_left}
use Rattle.std.proofs.lemmas.Option.{get_or_from_slice_get, slice_get_within}
use Rattle.symbols.specs.Symbol.{Symbol, Number, MoreSymbols, arguments}
use Rattle.symbols.specs.Table.{symbol_at, symbols_at, IsFront}
use Rattle.first_form.specs.declared.statement.DefiniteStatement.{DefiniteStatement}
use Rattle.first_form.specs.Form.{AreKnown, HaveKnown, rules_in}

pub kept_here : (symbols : List Symbol) → IsFront symbols symbols
kept_here symbols = ([], sym (append-nil symbols))

pub kept_on : (a b c : List Symbol) → IsFront a b → IsFront b c → IsFront a c
kept_on a b c h g = (h.0 ++ g.0, g.1 ∙ ap (λ s. s ++ g.0) h.1 ∙ append_assoc a h.0 g.0)

pub longer : (a b : List Symbol) → IsFront a b → length a ≤ length b
longer a b h = omega (arith, ap length h.1, length-append a h.0)

pub known_on : (a b : List Symbol) (id : ℕ) → IsFront a b → id < length a → id < length b
known_on a b id h k = omega (arith, longer a b h, k)

pub all_known_on : (a b : List Symbol) (ids : List ℕ) → IsFront a b → AreKnown a ids → AreKnown b ids
all_known_on a b [] h k = tt
all_known_on a b (id ∷ ids) h k = (known_on a b id h k.0, all_known_on a b ids h k.1)

pub have_known_on : (a b : List Symbol) (statements : List DefiniteStatement) → IsFront a b → HaveKnown a statements → HaveKnown b statements
have_known_on a b [] h k = tt
have_known_on a b (s ∷ statements) h k = ((known_on a b s.head h k.0.0, all_known_on a b s.body h k.0.1), have_known_on a b statements h k.1)

pub all_push : {X : Type 0} (P : X → Type 0) (xs : List X) (x : X) → AllByRecursion P xs → P x → AllByRecursion P (xs ++ x ∷ [])
all_push P [] x h p = (p, tt)
all_push P (y ∷ xs) x h p = (h.0, all_push P xs x h.1 p)

pub same_symbol : (a b : List Symbol) (id : ℕ) → IsFront a b → id < length a → symbol_at a id ≡ symbol_at b id
same_symbol a b id h k = sym (ap (λ s. symbol_at s id) h.1 ∙ get_or_append_left a h.0 (Number (pos 0)) id k)

pub same_symbols : (a b : List Symbol) (ids : List ℕ) → IsFront a b → AreKnown a ids → map (symbol_at a) ids ≡ map (symbol_at b) ids
same_symbols a b [] h k = refl
same_symbols a b (id ∷ ids) h k = let s = same_symbol a b id h k.0 in let r = same_symbols a b ids h k.1 in rw (s, r) refl

pub same_rules : (a b : List Symbol) (statements : List DefiniteStatement) → IsFront a b → HaveKnown a statements → rules_in a statements ≡ rules_in b statements
same_rules a b [] h k = refl
same_rules a b (s ∷ statements) h k =
    let x = same_symbol a b s.head h k.0.0 in
    let y = same_symbols a b s.body h k.0.1 in
    let z = same_rules a b statements h k.1 in
    rw (x, y, z) refl

-- what the id of a symbol says
pub symbol_of_id : (symbols : List Symbol) (id : ℕ) (x : Symbol) → slice_get symbols id ≡ Some x → symbol_at symbols id ≡ x
symbol_of_id symbols id x h = get_or_from_slice_get symbols id x (Number (pos 0)) h

pub known_id : (symbols : List Symbol) (id : ℕ) (x : Symbol) → slice_get symbols id ≡ Some x → id < length symbols
known_id symbols id x h = slice_get_within symbols id x h

-- the symbols at places, as a list
pub arguments_at : (symbols : List Symbol) (ids : List ℕ) → symbols_at symbols ids ≡ arguments (map (symbol_at symbols) ids)
arguments_at symbols [] = refl
arguments_at symbols (id ∷ ids) = ap (MoreSymbols (symbol_at symbols id)) (arguments_at symbols ids)

-- one id more, in a table that has grown
pub known_push : (a b : List Symbol) (ids pushed : List ℕ) (id : ℕ) → IsFront a b → AreKnown a ids → id < length b → pushed ≡ ids ++ id ∷ [] → AreKnown b pushed
known_push a b ids pushed id h k g e = subst (AreKnown b) (sym e) (all_push (λ i. i < length b) ids id (all_known_on a b ids h k) g)

pub have_known_push : (a b : List Symbol) (found pushed : List DefiniteStatement) (item : DefiniteStatement) → IsFront a b → HaveKnown a found → HaveKnown b (item ∷ []) → pushed ≡ found ++ item ∷ [] → HaveKnown b pushed
have_known_push a b found pushed item h k g e =
    subst (HaveKnown b) (sym e) (all_push (λ s. (s.head < length b) × AreKnown b s.body) found item (have_known_on a b found h k) g.0)
