use Rattle.std.proofs.Common.{◌≡◌, ◌++◌, drop}
use Rattle.symbols.specs.Text.{quoted}
use Rattle.syntax_tree.proofs.writing.write_quoted.Given as goal

abbrev pub invariant-loop-byte : goal.invariant-loop-byte
invariant-loop-byte l = l.out ++ quoted (drop l.byte-index l.text) ≡ l.initial.out ++ quoted l.text
