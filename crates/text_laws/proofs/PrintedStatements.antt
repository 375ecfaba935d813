-- The printed text of a statement that was read is the text of the pieces of the tidied statement.
use Rattle.std.proofs.Common.{◌≡◌, ℕ, Bool, true, Option, List, [], ◌∷◌, ◌++◌, map, codes, decimal, refl, ap, ◌∙◌, append_assoc}
use Rattle.syntax_tree.specs.declared.rule.Name.{Name}
use Rattle.syntax_tree.specs.declared.rule.Head.TheVariants as head
use Rattle.syntax_tree.specs.declared.statement.Statement.TheVariants as statement
use Rattle.syntax_tree.specs.Printed.{term_text, literals_text, literal_text, head_text, behind_head, arrow_text, statement_text}
use Rattle.grammar.specs.declared.mark.Mark.TheVariants as m
use Rattle.grammar.specs.Word as word
use Rattle.grammar.specs.Term.{Operand, Room, operand_words}
use Rattle.grammar.specs.Theory.{FullTerm}
use Rattle.grammar.specs.Statement.{BodyOf, HeadOf, atom_head, choice_head, theory_head, ArrowOf, headed, constraint, constant, show_nothing, show}
use Rattle.grammar.specs.Tree.{unary_tree, operand_tree}
use Rattle.grammar.specs.StatementTree.{full_tree, body_trees, head_tree, arrow_trees, has_arrow}
use Rattle.grammar.specs.TidiedStatement.{tidied_arrow, tidied_statement}
use Rattle.grammar.specs.Standing.{Piece, solid, pieces_text}
use Rattle.grammar.proofs.TidiedTexts.{three_behind}
use Rattle.grammar.proofs.PrintedTerms.{IsKnown}
use Rattle.text_laws.proofs.AllStatement.{AllStatement}
use Rattle.text_laws.proofs.Pieces.{arrow_pieces, statement_pieces}
use Rattle.text_laws.proofs.PrintedPieces.{full_is}
use Rattle.text_laws.proofs.PrintedHeads.{body_is, head_is, arrow_is}

-- a head is never missing where one was read
arrow_behind : (names : List Name) (n : ℕ) (h : HeadOf (Operand n) (Room n)) (arrow : Bool) → arrow_text (head_tree (operand_tree names n) (unary_tree names (operand_tree names n)) h) arrow ≡ behind_head arrow
arrow_behind names n (atom_head a) arrow = refl
arrow_behind names n (choice_head c) arrow = refl
arrow_behind names n (theory_head a) arrow = refl

-- a rule with a head
pub headed_is : (names : List Name) (n : ℕ) (h : HeadOf (Operand n) (Room n)) (a : ArrowOf (Operand n) (Room n)) (places : List ℕ) → AllStatement (IsKnown names) n (headed h a)
    → statement_text (statement.Rule (record {
      head = head_tree (operand_tree names n) (unary_tree names (operand_tree names n)) h;
      body = arrow_trees (operand_tree names n) (unary_tree names (operand_tree names n)) a;
      arrow = has_arrow a;
      names = names;
      places = places;
    }))
    ≡ pieces_text (statement_pieces n (tidied_statement n (headed h a)) [])
headed_is names n h a places all =
    let first : List ℕ = head_text names (head_tree (operand_tree names n) (unary_tree names (operand_tree names n)) h) in
    let body : List ℕ = literals_text (map (literal_text names) (arrow_trees (operand_tree names n) (unary_tree names (operand_tree names n)) a)) in
    let dot : List Piece = solid (word.mark m.Dot) ∷ [] in
    ap (λ l. first ++ l ++ body ++ codes ".") (arrow_behind names n h (has_arrow a))
    ∙ three_behind first (behind_head (has_arrow a)) body (codes ".")
    ∙ ap (λ l. first ++ l) (arrow_is names n a dot all.1)
    ∙ head_is names n h (arrow_pieces (operand_words n) (tidied_arrow n a) dot) all.0

-- a constraint
pub constraint_is : (names : List Name) (n : ℕ) (body : Option (BodyOf (Operand n) (Room n))) (places : List ℕ) → AllStatement (IsKnown names) n (constraint body)
    → statement_text (statement.Rule (record {
      head = head.Nothing;
      body = body_trees (operand_tree names n) (unary_tree names (operand_tree names n)) body;
      arrow = true;
      names = names;
      places = places;
    }))
    ≡ pieces_text (statement_pieces n (tidied_statement n (constraint body)) [])
constraint_is names n body places all = ap (λ l. codes ":- " ++ l) (body_is names n body (solid (word.mark m.Dot) ∷ []) all)

equal_behind : (name term : List ℕ) → codes "#const " ++ name ++ codes " = " ++ term ++ codes "." ≡ codes "#const " ++ (name ++ (codes " = " ++ (term ++ codes ".")))
equal_behind name term =
    append_assoc (codes "#const " ++ name ++ codes " = ") term (codes ".")
    ∙ append_assoc (codes "#const " ++ name) (codes " = ") (term ++ codes ".")
    ∙ append_assoc (codes "#const ") name (codes " = " ++ (term ++ codes "."))

-- a constant
pub constant_is : (n : ℕ) (name : List ℕ) (term : FullTerm (Operand n) (Room n)) (place : ℕ) → AllStatement (IsKnown []) n (constant name term)
    → statement_text (statement.Constant name (full_tree (operand_tree [] n) (unary_tree [] (operand_tree [] n)) term) place) ≡ pieces_text (statement_pieces n (tidied_statement n (constant name term)) [])
constant_is n name term place all =
    equal_behind name (term_text [] (full_tree (operand_tree [] n) (unary_tree [] (operand_tree [] n)) term))
    ∙ ap (λ l. codes "#const " ++ (name ++ (codes " = " ++ l))) (full_is [] n term (solid (word.mark m.Dot) ∷ []) all.1)

-- `#show` with nothing behind it
pub show_nothing_is : (n : ℕ) → statement_text statement.ShowNothing ≡ pieces_text (statement_pieces n (tidied_statement n show_nothing) [])
show_nothing_is n = refl

arity_behind : (name arity : List ℕ) → codes "#show " ++ name ++ codes "/" ++ arity ++ codes "." ≡ codes "#show " ++ (name ++ (codes "/" ++ (arity ++ codes ".")))
arity_behind name arity =
    append_assoc (codes "#show " ++ name ++ codes "/") arity (codes ".")
    ∙ append_assoc (codes "#show " ++ name) (codes "/") (arity ++ codes ".")
    ∙ append_assoc (codes "#show ") name (codes "/" ++ (arity ++ codes "."))

-- `#show` of a name and its arity
pub show_is : (n : ℕ) (name : List ℕ) (arity : ℕ) → statement_text (statement.Show name arity) ≡ pieces_text (statement_pieces n (tidied_statement n (show name arity)) [])
show_is n name arity = arity_behind name (decimal arity)
