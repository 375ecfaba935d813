-- Rules and tuples over the numbers of parts.
use Rattle.std.specs.Prelude.{◌≡◌, List, length, map}
use Rattle.std.specs.List.{AllByRecursion}
use Rattle.symbols.specs.Symbol.{Symbol}
use Rattle.symbols.specs.Table.{symbol_at}
use Rattle.ground_model.specs.View.{place_of, rule_of}
use Rattle.program_meaning.specs.Canonical.{place_numbered, rule_numbered}
use Rattle.program_meaning.specs.Said.{place_in}
use Rattle.symbol_rules.specs.Reading.{rule_in}
use Rattle.ground_rule_laws.specs.Laws.{AreKnownPlaces, IsKnownRule}
use Rattle.numbered_program.specs.declared.numbered.NumberedParts.{NumberedParts}
use Rattle.numbered_program.specs.declared.parts.ProgramParts.{ProgramParts}

-- they are those of the parts over the numbers of the parts' atoms and variables, and their further places are ids of the table
pub record IsNumbered (symbols : List Symbol) (parts : ProgramParts) (made : NumberedParts) : Type 0 where
  pub rules : map (rule_of symbols) made.rules
      ≡ map (rule_numbered (map (symbol_at symbols) parts.atoms) (map (symbol_at symbols) parts.variables)) (map (rule_in symbols) parts.rules)
  pub smaller : map (place_of symbols) made.smaller ≡ map (place_numbered (map (symbol_at symbols) parts.variables)) (map (place_in symbols) parts.smaller)
  pub larger : map (place_of symbols) made.larger ≡ map (place_numbered (map (symbol_at symbols) parts.variables)) (map (place_in symbols) parts.larger)
  pub known_rules : AllByRecursion (IsKnownRule (length symbols)) made.rules
  pub known_smaller : AreKnownPlaces (length symbols) made.smaller
  pub known_larger : AreKnownPlaces (length symbols) made.larger
