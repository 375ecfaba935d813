-- Parts of terms.
use Rattle.std.specs.Prelude.{ℕ, Bool}
use Rattle.syntax_tree.specs.declared.term.Part.{Part}
use Rattle.syntax_tree.specs.declared.term.Term.TheFolds.{fold-Part}
use Rattle.program_meaning.specs.Variables.{any_part, occurs_step}

-- the variable occurs in the part
abbrev pub occurs_in_part : ℕ → Part → Bool
occurs_in_part n = fold-Part Bool Bool (occurs_step n) any_part
