-- What it is that a text has an answer.
use Rattle.std.specs.Prelude.{◌⊎◌, ℕ, List}
use Rattle.syntax_tree.specs.declared.statement.Statement.{Statement}
use Rattle.asp_parser.specs.declared.fault.TextFault.{TextFault}
use Rattle.asp_parser.specs.Parsed.{FoundText, IsTextFault}

-- the text parses to statements, or has a first fault
abbrev pub HasAnswer : List ℕ → Type 0
HasAnswer text = ((statements : List Statement) × FoundText text statements) ⊎ ((fault : TextFault) × IsTextFault text fault)
