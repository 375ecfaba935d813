-- A collected theory atom as the table grows.
use Rattle.std.specs.Prelude.{◌≡◌, List, map}
use Rattle.symbols.specs.Symbol.{Symbol}
use Rattle.symbols.specs.Table.{IsFront}
use Rattle.program_meaning.specs.Said.{place_in}
use Rattle.collected_atoms.specs.declared.atom.CollectedAtom.{CollectedAtom}
use Rattle.collected_atoms.specs.Said.{guard_in, IsKnownAtom}

-- its ids are of the new table
abbrev pub KnownLaw : Type 0
KnownLaw = (old new : List Symbol) (atom : CollectedAtom) → IsFront old new → IsKnownAtom old atom → IsKnownAtom new atom

-- and they are read alike
abbrev pub SameLaw : Type 0
SameLaw =
    (old new : List Symbol) (atom : CollectedAtom) → IsFront old new → IsKnownAtom old atom
    → (map (place_in new) atom.places ≡ map (place_in old) atom.places) × (guard_in new atom.guard ≡ guard_in old atom.guard)
