use Rattle.std.proofs.Common.{◌≡◌, sym}
use Rattle.std.specs.Cmp.Lexicographic.{pointwise}
use Rattle.symbols.specs.contracts.symbol_id.SymbolIdPartialEq.TheImpl.{ghosts as id}
use Rattle.symbols.proofs.ListLemmas.{found_at, absent_at}
use Rattle.symbols.proofs.NodeLemmas.{same_items}
use Rattle.symbols.proofs.layers.list_number.Goals as goal

pub returns-in-Some-clause-found : goal.returns-in-Some-clause-found
returns-in-Some-clause-found c =
    found_at (λ list. pointwise id.eq c.args.list.now list.items) (λ list. list.items) c.args.list.now (λ list h. sym ((same_items c.args.list.now list.items).0 h))
    c.args.lists.now.keys c.in-Some.number (sym c.in-Some.ensures.index)

pub returns-in-None-clause-absent : goal.returns-in-None-clause-absent
returns-in-None-clause-absent c = λ n e.
    absent_at (λ list. pointwise id.eq c.args.list.now list.items) (λ list. list.items) c.args.list.now c.args.lists.now.keys n
    (λ list at said. (same_items c.args.list.now list.items).1 (sym said)) (sym c.in-None.ensures.found) e
