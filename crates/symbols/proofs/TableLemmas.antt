-- What the clauses of a table give its callers: ids keep their symbols as the table grows.
use Rattle.std.proofs.Common.{◌≡◌, ℕ, ◌<◌, ◌≤◌, List, [], ◌++◌, length, Some, slice_get, pos, sym, ap, ◌∙◌, arith, append_assoc, append-nil, length-append}
use Rattle.std.proofs.lemmas.List.{get_or_append_left}
use Rattle.std.proofs.lemmas.Option.{slice_get_within, get_or_from_slice_get}
use Rattle.std.specs.List.{All}
use Rattle.std.proofs.lemmas.List.Elements.{recursion_from_All}
use Rattle.symbols.specs.Symbol.{Symbol, Number, Function}
use Rattle.symbols.specs.Table.{symbol_at, applied, IsFront}
use Rattle.symbols.proofs.LayerLemmas.{symbols_at-more}

pub IsFront-itself : (symbols : List Symbol) → IsFront symbols symbols
IsFront-itself symbols = ([], sym (append-nil symbols))

pub IsFront-trans : (a b c : List Symbol) → IsFront a b → IsFront b c → IsFront a c
IsFront-trans a b c p q = (p.0 ++ q.0, q.1 ∙ ap (λ l. l ++ q.0) p.1 ∙ append_assoc a p.0 q.0)

-- the table grows
pub length-front : (old new : List Symbol) → IsFront old new → length old ≤ length new
length-front old new front = omega (arith, ap length front.1, length-append old front.0)

-- an id keeps its symbol
pub symbol_at-front : (old new : List Symbol) (id : ℕ) → IsFront old new → id < length old → symbol_at new id ≡ symbol_at old id
symbol_at-front old new id front within = ap (λ l. symbol_at l id) front.1 ∙ get_or_append_left old front.0 (Number (pos 0)) id within

-- and so do arguments
pub applied-front : (old new : List Symbol) (name ids : List ℕ) → IsFront old new → All (λ id. id < length old) ids → applied new name ids ≡ applied old name ids
applied-front old new name ids front within =
    ap (λ l. applied l name ids) front.1 ∙ ap (λ l. Function name l) (symbols_at-more old front.0 ids (recursion_from_All _ ids within))

-- the id that a clause names is one of the table, and its symbol the one that is named
pub id-within : (symbols : List Symbol) (id : ℕ) (s : Symbol) → slice_get symbols id ≡ Some s → id < length symbols
id-within symbols id s e = slice_get_within symbols id s e

pub symbol_at-id_of : (symbols : List Symbol) (id : ℕ) (s : Symbol) → slice_get symbols id ≡ Some s → symbol_at symbols id ≡ s
symbol_at-id_of symbols id s e = get_or_from_slice_get symbols id s (Number (pos 0)) e
