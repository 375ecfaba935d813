use Rattle.std.proofs.Common.{◌≡◌, ◌<◌, ◌++◌, drop, length, map}
use Rattle.std.specs.List.{AllByRecursion, flat_map}
use Rattle.symbols.specs.Table.{symbol_at}
use Rattle.program_meaning.specs.Read.{show_read}
use Rattle.program_meaning.specs.Canonical.{shows_atom}
use Rattle.shown_flags.proofs.atoms.shown_atoms.Given as goal

abbrev pub invariant-loop-atom : goal.invariant-loop-atom
invariant-loop-atom l = record {
  so_far : l.flags ++ map (shows_atom (flat_map show_read l.statements)) (map (symbol_at l.symbols) (drop l.atom-index l.atoms)) ≡ map (shows_atom (flat_map show_read l.statements)) (map (symbol_at l.symbols) l.atoms);
  left : AllByRecursion (λ id. id < length l.symbols) (drop l.atom-index l.atoms);
}
