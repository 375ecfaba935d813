-- The printed text of answers.
use Rattle.std.specs.Prelude.{ℕ, ◌+◌, ◌-◌, Bool, false, if◌then◌else◌, ℤ, List, [], ◌∷◌, ◌++◌, map, length, slice_index, slice_index_or, codes}
use Rattle.std.specs.Fmt.{decimal, signed_decimal}
use Rattle.std.specs.List.{filter, join_by, range_with_len}
use Rattle.std.specs.Ordering.{is_lt}
use Rattle.symbols.specs.Symbol.{Symbol}
use Rattle.symbols.specs.Order.{symbol_cmp}
use Rattle.symbols.specs.Table.{symbol_at}
use Rattle.symbols.specs.Text.{symbol_text}
use Rattle.ground_model.specs.declared.answer.Answer.{Answer}
use Rattle.ground_model.specs.declared.program.GroundProgram.{GroundProgram}
use Rattle.ground_model.specs.Answers.{value_at}
use Rattle.ground_model.specs.Objective.{objective_of}

-- a symbol with the text that is printed for it
abbrev pub Entry : Type 0
Entry = Symbol × List ℕ

-- an entry among entries in symbol order: before the first one whose symbol is not smaller
abbrev pub placed : Entry → List Entry → List Entry
placed entry [] = entry ∷ []
placed entry (first ∷ rest) =
    (if is_lt (symbol_cmp first.0 entry.0) then first ∷ placed entry rest else entry ∷ first ∷ rest)

-- entries in symbol order
abbrev pub in_order : List Entry → List Entry
in_order [] = []
in_order (entry ∷ rest) = placed entry (in_order rest)

-- the symbol of an atom or a variable by its number
abbrev pub name_of : List Symbol → List ℕ → ℕ → Symbol
name_of symbols ids n = symbol_at symbols (slice_index ids (n - 1))

-- an atom or a variable is shown, by its flag
abbrev pub is_shown : List Bool → ℕ → Bool
is_shown flags n = slice_index_or flags (n - 1) false

-- an atom prints as its symbol
abbrev pub atom_entry : GroundProgram → ℕ → Entry
atom_entry program a = let name = name_of program.symbols program.atoms a in (name, symbol_text name)

-- a variable prints as its symbol, an equals sign and its value
abbrev pub variable_entry : GroundProgram → List ℤ → ℕ → Entry
variable_entry program values x =
    let name = name_of program.symbols program.variables x in
    (name, symbol_text name ++ codes "=" ++ signed_decimal (value_at values x))

-- the shown atoms of an answer in symbol order, and then the shown variables in symbol order
abbrev pub entries : GroundProgram → Answer → List Entry
entries program answer =
    in_order (map (atom_entry program) (filter (is_shown program.shown_atoms) answer.atoms))
    ++ in_order (map (variable_entry program answer.values)
    (filter (is_shown program.shown_variables) (range_with_len 1 (length program.variables))))

-- the line of an answer: its entries, parted by single blanks
abbrev pub answer_line : GroundProgram → Answer → List ℕ
answer_line program answer = join_by (λ entry. entry.1) (codes " ") (entries program answer)

-- with an objective, the line that tells its value
abbrev pub cost_line : GroundProgram → Answer → List ℕ
cost_line program answer =
    (if program.has_objective then codes "Cost: " ++ signed_decimal (objective_of program answer) ++ codes "\n" else [])

-- the block of an answer with its number
abbrev pub block : GroundProgram → Answer → ℕ → List ℕ
block program answer number =
    codes "Answer: " ++ decimal number ++ codes "\n" ++ answer_line program answer ++ codes "\n" ++ cost_line program answer

-- the blocks of a list of answers, numbered on from this number
abbrev pub blocks_from : GroundProgram → ℕ → List Answer → List ℕ
blocks_from program number [] = []
blocks_from program number (answer ∷ rest) = block program answer number ++ blocks_from program (number + 1) rest

-- how a run that printed answers ends
pub data Ending : Type 0 where
  Satisfiable : Ending
  OptimumFound : Ending
  Unsatisfiable : Ending
  Unknown : Ending

-- the line of an ending
abbrev pub ending_line : Ending → List ℕ
ending_line Satisfiable = codes "SATISFIABLE\n"
ending_line OptimumFound = codes "OPTIMUM FOUND\n"
ending_line Unsatisfiable = codes "UNSATISFIABLE\n"
ending_line Unknown = codes "UNKNOWN\n"

-- the text of a run: the blocks of its answers, numbered from 1, and the line of its ending
abbrev pub run_text : GroundProgram → List Answer → Ending → List ℕ
run_text program answers ending = blocks_from program 1 answers ++ ending_line ending
