-- The parts of the ground program of a rewritten program.
use Rattle.std.proofs.Common.{◌≡◌, suc, List, [], ◌∷◌, length, map, refl, sym, ap, ◌∙◌}
use Rattle.std.specs.List.{flat_map}
use Rattle.syntax_tree.specs.declared.statement.Program.{Program}
use Rattle.rewriting.specs.declared.program.RewrittenProgram.{RewrittenProgram}
use Rattle.rewriting.specs.Rewriting.{IsRewriting}
use Rattle.rewriting.specs.Rewritten.{rewritten_statement}
use Rattle.rewriting.specs.Order.{order_of_statement}
use Rattle.program_meaning.specs.Read.{ReadProgram, program_read, rules_read, show_read}
use Rattle.safety_meaning.specs.Program.{program_of, rules_of}
use Rattle.safety_meaning.proofs.Reading.{read_law}

-- ---- the program as it is read
length_mapped : {X Y : Type 0} (f : X → Y) (xs : List X) → length (map f xs) ≡ length xs
length_mapped f [] = refl
length_mapped f (x ∷ xs) = ap suc (length_mapped f xs)

pub same_length : (program : RewrittenProgram) (old : Program) → IsRewriting old program → length program.orders ≡ length program.program.statements
same_length program old is =
    ap length is.orders ∙ length_mapped order_of_statement old.statements ∙ sym (ap length is.statements ∙ length_mapped rewritten_statement old.statements)

read_program : (program : RewrittenProgram) (old : Program) → IsRewriting old program → program_read program.program.statements program.orders ≡ program_of old.statements
read_program program old is = (λ i. program_read (is.statements i) (is.orders i)) ∙ read_law old.statements

pub same_rules : (program : RewrittenProgram) (old : Program) → IsRewriting old program → rules_read program.program.statements program.orders ≡ rules_of old.statements
same_rules program old is = ap (λ (p : ReadProgram). p.rules) (read_program program old is)

pub same_shows : (program : RewrittenProgram) (old : Program) → IsRewriting old program
    → flat_map show_read program.program.statements ≡ flat_map show_read old.statements
same_shows program old is = ap (λ (p : ReadProgram). p.shows) (read_program program old is)
