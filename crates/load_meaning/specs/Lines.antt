-- The lines of refusals of programs: where they point to, and what they say.
use Rattle.std.specs.Prelude.{◌≡◌, ℕ, zero, suc, ◌-◌, ◌==◌, nat_le, Bool, true, false, if◌then◌else◌, List, [], ◌∷◌, ◌++◌, length, map, slice_get, slice_index_or, Option, None, Some, codes}
use Rattle.std.specs.Fmt.{decimal}
use Rattle.std.specs.List.{flat_map}
use Rattle.lexer.specs.Places.{line_of, column_of}
use Rattle.symbols.specs.Text.{symbol_text}
use Rattle.syntax_tree.specs.declared.rule.Name.{Name}
use Rattle.syntax_tree.specs.declared.rule.Rule.{Rule}
use Rattle.syntax_tree.specs.declared.statement.Statement.{Statement}
use Rattle.syntax_tree.specs.declared.statement.Statement.TheVariants as statement
use Rattle.syntax_tree.specs.declared.statement.Program.{Program}
use Rattle.syntax_tree.specs.declared.term.Term.{Term}
use Rattle.rewriting.specs.declared.sight.Sight.{Sight}
use Rattle.rewriting.specs.declared.sight.Sight.TheVariants.{Variable, Anonymous, Interval, Atom}
use Rattle.rewriting.specs.Order.{sights_of, variable_in, order_of}
use Rattle.program_meaning.specs.Read.{PlainLiteral, ReadTheory, ReadLiteral, ReadPlain, ReadTold, ReadChoice, ReadHead, ReadNothing, ReadAtom, ReadDuty, ReadChoose, ReadRule}
use Rattle.program_meaning.specs.Variables.{globals}
use Rattle.program_meaning.specs.Substitution.{Value, SymbolValue, OverValue, Key}
use Rattle.program_meaning.specs.Predicates.{Predicate, predicate}
use Rattle.program_meaning.specs.Outside.{Cause, Overflow, NotLinear, TooManyElements, TooLarge}
use Rattle.safety_meaning.specs.Program.{written_rules, rule_of}
use Rattle.safety_meaning.specs.Failures.{Failure, UnsafeVariable, NoDomainAtom, RecursiveRule, atom_of, atoms_of_theory, condition_atoms}
use Rattle.inputs.specs.Texts.{line_at}
use Rattle.load_meaning.specs.Grounding.{Grounded, OverLimit, OutsideAt, TooManyVariables, ObjectiveTooLarge, Canonical}

-- ---- where a rule stands
abbrev pub file_in : Statement → ℕ → List ℕ
file_in (statement.Rule rule) file = file ∷ []
file_in statement file = []

-- the number of its text for each rule among statements
abbrev pub rule_files : List Statement → List ℕ → List ℕ
rule_files [] files = []
rule_files (next ∷ statements) [] = []
rule_files (next ∷ statements) (file ∷ files) = file_in next file ++ rule_files statements files

-- the rule with this number, from 0, and the name and the bytes of the text in which it stands
pub record StandsIn (names texts : List (List ℕ)) (program : Program) (place : ℕ) (rule : Rule) (name text : List ℕ) : Type 0 where
  pub here : slice_get (written_rules program.statements) place ≡ Some rule
  pub file : ℕ
  pub in_file : slice_get (rule_files program.statements program.files) place ≡ Some file
  pub named : slice_get names file ≡ Some name
  pub bytes : slice_get texts file ≡ Some text

-- the line of a refusal at a byte of a text
abbrev pub line_in : List ℕ → List ℕ → ℕ → List ℕ → List ℕ
line_in name text at why = line_at name (line_of text at) (column_of text at) why

-- ---- what has a place in a rule
-- the byte of the rule, 0, or of what is seen in it, from 1
abbrev pub place_at : Rule → ℕ → ℕ
place_at rule n = slice_index_or rule.places n 0

abbrev pub is_this : ℕ → Option ℕ → Bool
is_this n None = false
is_this n (Some m) = m == n

-- how many stand before the true one with this number, from 0
abbrev pub before_true : ℕ → List Bool → ℕ
before_true n [] = 0
before_true n (false ∷ flags) = suc (before_true n flags)
before_true zero (true ∷ flags) = 0
before_true (suc n) (true ∷ flags) = suc (before_true n flags)

-- where a variable first stands
abbrev pub variable_place : Rule → ℕ → ℕ
variable_place rule n = place_at rule (suc (before_true 0 (map (λ sight. is_this n (variable_in sight)) (sights_of rule))))

abbrev pub is_atom : Sight → Bool
is_atom (Variable n) = false
is_atom (Anonymous n) = false
is_atom (Interval n) = false
is_atom Atom = true

-- for each atom of a theory atom that it stands in a condition of it, and for other atoms that they don't
abbrev pub in_theory : ReadTheory → List Bool
in_theory theory = map (λ atom. true) (atoms_of_theory theory)

abbrev pub not_in_theory : List PlainLiteral → List Bool
not_in_theory literals = map (λ atom. false) (flat_map atom_of literals)

abbrev pub in_choice : ReadChoice → List Bool
in_choice element = false ∷ not_in_theory element.condition

abbrev pub in_head : ReadHead → List Bool
in_head ReadNothing = []
in_head (ReadAtom term) = false ∷ []
in_head (ReadDuty theory) = in_theory theory
in_head (ReadChoose left elements right) = flat_map in_choice elements

abbrev pub in_literal : ReadLiteral → List Bool
in_literal (ReadPlain literal) = not_in_theory (literal ∷ [])
in_literal (ReadTold theory sign) = in_theory theory

-- for each atom of a rule, in the order of the text, whether it stands in a condition of a theory atom
abbrev pub in_conditions : ReadRule → List Bool
in_conditions rule = in_head rule.head ++ flat_map in_literal rule.body

-- where an atom stands, by its number among those in conditions of theory atoms, from 0
abbrev pub condition_place : Rule → ℕ → ℕ
condition_place rule n = place_at rule (suc (before_true (before_true n (in_conditions (rule_of rule))) (map is_atom (sights_of rule))))

-- ---- failures
abbrev pub or_unnamed : Option Name → List ℕ
or_unnamed None = codes "_"
or_unnamed (Some name) = name.text

-- a variable as it is written
abbrev pub name_of : Rule → ℕ → List ℕ
name_of rule n = or_unnamed (slice_get rule.names (n - 1))

abbrev pub no_domain_text : Predicate → List ℕ
no_domain_text p = codes "predicate " ++ p.name ++ codes "/" ++ decimal p.count ++ codes " is not a domain predicate"

-- where in a rule its failure is shown, and what is said of it
abbrev pub IsFailureText : Rule → Failure → ℕ → List ℕ → Type 0
IsFailureText rule (UnsafeVariable place) at why =
    (n : ℕ) × (slice_get (order_of rule) place ≡ Some n) × (at ≡ variable_place rule n) × (why ≡ codes "unsafe variable " ++ name_of rule n)
IsFailureText rule (NoDomainAtom place) at why =
    (term : Term) × (p : Predicate) × (slice_get (condition_atoms (rule_of rule)) place ≡ Some term) × (predicate term ≡ Some p)
    × (at ≡ condition_place rule place) × (why ≡ no_domain_text p)
IsFailureText rule RecursiveRule at why = (at ≡ place_at rule 0) × (why ≡ codes "recursive rule with a variable")

-- the line of a failure of the rule with this number
pub record IsFailureLine (names texts : List (List ℕ)) (program : Program) (place : ℕ) (failure : Failure) (printed : List ℕ) : Type 0 where
  pub rule : Rule
  pub name : List ℕ
  pub text : List ℕ
  pub stands : StandsIn names texts program place rule name text
  pub at : ℕ
  pub why : List ℕ
  pub says : IsFailureText rule failure at why
  pub line : printed ≡ line_in name text at why

-- ---- instances that are outside
abbrev pub outside_text : Cause → List ℕ
outside_text Overflow = codes "number outside 32 bits or nesting above 256"
outside_text NotLinear = codes "not linear"
outside_text TooManyElements = codes "too many elements"
outside_text TooLarge = codes "coefficient or constant too large"

abbrev pub value_text : Value → List ℕ
value_text (SymbolValue symbol) = symbol_text symbol
value_text OverValue = codes "over"

-- a named variable with its value
abbrev pub bound_text : Rule → ℕ → Value → List ℕ
bound_text rule n value = (if nat_le n (length rule.names) then codes " " ++ name_of rule n ++ codes "=" ++ value_text value else [])

-- those of the variables, in order
abbrev pub bindings_text : Rule → List ℕ → List Value → List ℕ
bindings_text rule [] values = []
bindings_text rule (n ∷ variables) [] = []
bindings_text rule (n ∷ variables) (value ∷ values) = bound_text rule n value ++ bindings_text rule variables values

-- nothing stands for no variables
abbrev pub at_text : List ℕ → List ℕ
at_text [] = []
at_text (byte ∷ bytes) = codes " at" ++ byte ∷ bytes

-- the line of an instance that is outside
pub record IsOutsideLine (names texts : List (List ℕ)) (program : Program) (key : Key) (cause : Cause) (printed : List ℕ) : Type 0 where
  pub rule : Rule
  pub name : List ℕ
  pub text : List ℕ
  pub stands : StandsIn names texts program key.place rule name text
  pub line : printed ≡ line_in name text (place_at rule 0) (outside_text cause ++ at_text (bindings_text rule (globals (rule_of rule)) key.values))

-- the line of what a program is refused for by its numbers
abbrev pub IsNumberLine : List (List ℕ) → List (List ℕ) → Program → Grounded → List ℕ → Type 0
IsNumberLine names texts program OverLimit printed = ⊥
IsNumberLine names texts program (OutsideAt key cause) printed = IsOutsideLine names texts program key cause printed
IsNumberLine names texts program TooManyVariables printed = printed ≡ codes "error: more than 1048576 integer variables\n"
IsNumberLine names texts program ObjectiveTooLarge printed = printed ≡ codes "error: objective too large\n"
IsNumberLine names texts program (Canonical view) printed = ⊥
