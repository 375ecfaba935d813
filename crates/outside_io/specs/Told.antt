-- What inputs and outputs tell of their bytes and names: `None` is what is not told, and of it nothing is claimed.
use Rattle.std.specs.Prelude.{◌≡◌, ℕ, ◌<◌, List, [], ◌∷◌, ◌++◌, length, take, ⊤, None, Some}
use Rattle.std.specs.declared.option.Option.{Option}
use Rattle.std.specs.Io.KnownBytes.{Appends}

-- all of the text is left to read
abbrev pub LeavesAll : (text left : Option (List ℕ)) → Type 0
LeavesAll None left = ⊤
LeavesAll (Some text) left = left ≡ Some text

-- an output that told what was written now has nothing written and nothing flushed
abbrev pub StartsEmpty : (before written : Option (List ℕ)) (flushed : Option ℕ) → Type 0
StartsEmpty None written flushed = ⊤
StartsEmpty (Some before) written flushed = (written ≡ Some []) × (flushed ≡ Some 0)

-- the names, or None, under which an output was opened are one more, at the end
abbrev pub AddsName : (before now : Option (List (Option (List ℕ)))) (name : Option (List ℕ)) → Type 0
AddsName None now name = ⊤
AddsName (Some before) now name = now ≡ Some (before ++ name ∷ [])

-- a front of the piece that is shorter than it was written
abbrev pub AppendsFront : (before now : Option (List ℕ)) (piece : List ℕ) → Type 0
AppendsFront before now piece = (count : ℕ) × (count < length piece) × Appends before now (take count piece)

-- a front of the piece was written, maybe all of it
abbrev pub AppendsSome : (before now : Option (List ℕ)) (piece : List ℕ) → Type 0
AppendsSome before now piece = (count : ℕ) × Appends before now (take count piece)

-- all that was written is flushed
abbrev pub FlushesAll : (written : Option (List ℕ)) (flushed : Option ℕ) → Type 0
FlushesAll None flushed = ⊤
FlushesAll (Some written) flushed = flushed ≡ Some (length written)
