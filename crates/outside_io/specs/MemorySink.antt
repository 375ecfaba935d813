-- What contracts see of an output in memory.
use Rattle.std.specs.Prelude.{ℕ, List}
use Rattle.std.specs.declared.option.Option.{Option}
use Rattle.outside_io.specs.declared.calls.Calls.{Calls}
use Rattle.outside_io.specs.declared.memory_sink.MemorySink.{MemorySink}

-- the calls that were made of an output
abbrev pub calls_of : MemorySink → Calls
calls_of sink = sink.calls

-- the bytes written since the last opening
abbrev pub written_of : MemorySink → List ℕ
written_of sink = sink.written

-- how many of them were flushed
abbrev pub flushed_of : MemorySink → ℕ
flushed_of sink = sink.flushed

-- the names, or None, of the openings, in order
abbrev pub names_of : MemorySink → List (Option (List ℕ))
names_of sink = sink.names
