-- What contracts see of inputs in memory.
use Rattle.std.specs.Prelude.{ℕ, List, drop}
use Rattle.std.specs.declared.option.Option.{Option}
use Rattle.outside_io.specs.declared.calls.Calls.{Calls}
use Rattle.outside_io.specs.declared.memory_files.MemoryFiles.{MemoryFiles}
use Rattle.outside_io.specs.Held.{held_under}

-- the calls that were made of the inputs
abbrev pub calls_of : MemoryFiles → Calls
calls_of files = files.calls

-- the bytes held under a name
abbrev pub text_of : MemoryFiles → List ℕ → Option (List ℕ)
text_of files = held_under files.files

-- the bytes of the open input that are still to be read
abbrev pub left_of : MemoryFiles → List ℕ
left_of files = drop files.at files.opened

-- how many bytes were read since the last opening
abbrev pub taken_of : MemoryFiles → ℕ
taken_of files = files.at
