use Rattle.std.proofs.Common.{◌≡◌, ◌++◌, drop, false}
use Rattle.grammar.specs.Word.{unquoted}
use Rattle.grammar.proofs.words.string_content.Given as goal

abbrev pub invariant-loop-byte : goal.invariant-loop-byte
invariant-loop-byte l = l.content ++ unquoted (drop l.byte-index l.byte-items) l.escape ≡ unquoted (drop 1 l.bytes) false
