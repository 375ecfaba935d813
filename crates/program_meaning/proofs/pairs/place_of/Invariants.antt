use Rattle.std.proofs.Common.{◌≡◌, ◌+◌, drop, map}
use Rattle.symbols.specs.Table.{symbol_at}
use Rattle.program_meaning.specs.Said.{pair_in, place_for}
use Rattle.program_meaning.proofs.pairs.place_of.Given as goal

abbrev pub invariant-loop-place : goal.invariant-loop-place
invariant-loop-place l =
    place_for (symbol_at l.symbols l.variable) (map (pair_in l.symbols) l.pairs)
    ≡ l.place + place_for (symbol_at l.symbols l.variable) (map (pair_in l.symbols) (drop l.place l.pairs))
