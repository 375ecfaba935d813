-- A numbering as the ground program of its statements.
use Rattle.std.proofs.Common.{◌≡◌, ℕ, ◌<◌, length, List, [], ◌∷◌, ◌++◌, map, true, false, ◌&&◌, refl, sym, ◌∙◌, ap, subst, arith}
use Rattle.std.specs.Prelude.{slice_index, nat_lt, ◌==◌, not}
use Rattle.std.specs.List.{AllByRecursion, list_all}
use Rattle.std.proofs.lemmas.Bool.Decides.{nat_tests}
use Rattle.symbols.specs.Symbol.{Symbol}
use Rattle.symbols.specs.Table.{symbol_at}
use Rattle.symbols.specs.declared.ends.Ends.{Ends}
use Rattle.first_form.specs.declared.statement.DefiniteStatement.{DefiniteStatement}
use Rattle.first_form.specs.Form.{rule_in, rules_in}
use Rattle.ground_model.specs.declared.rule.BodyLit.TheVariants.{Atom as AtomLiteral}
use Rattle.ground_model.specs.declared.rule.GroundRule.{GroundRule}
use Rattle.ground_model.specs.Members.{IsMember, IsListOf}
use Rattle.ground_model.specs.Sound.{is_sound_objective, are_known, is_sound_literal, is_sound_rule, are_sound_rules}
use Rattle.ground_model.specs.Definite.{is_positive, is_definite_rule}
use Rattle.clingcon_app.specs.Program.{named, named_rule, ground_rule, occurring}
use Rattle.clingcon_app.specs.Numbering.{ids_of, definite_rule, numbered_body, numbered_rule, HasNumber}
use Rattle.clingcon_app.proofs.ListLemmas.{all_front, all_behind, map-append, map-map, member_map, map_member}

-- ids of the table are known
pub known_flags : (n : ℕ) (ids : List ℕ) → AllByRecursion (λ id. id < n) ids → are_known n ids ≡ true
known_flags n [] known = refl
known_flags n (id ∷ ids) known =
    let here : nat_lt id n ≡ true = let below : id < n = known.0 in grind (arith, nat_tests) in
    rw here (known_flags n ids known.1)

sound_body : (symbols : List Symbol) (atoms numbers ids : List ℕ) → AllByRecursion (HasNumber symbols atoms numbers) ids
    → list_all (is_sound_literal (length symbols) (length atoms) 0) (numbered_body numbers ids) ≡ true
sound_body symbols atoms numbers [] all = refl
sound_body symbols atoms numbers (id ∷ ids) all = rw all.0.is (sound_body symbols atoms numbers ids all.1)

sound_one : (symbols : List Symbol) (atoms numbers : List ℕ) (ends : Ends) (statement : DefiniteStatement)
    → HasNumber symbols atoms numbers statement.head → AllByRecursion (HasNumber symbols atoms numbers) statement.body
    → is_sound_rule (length symbols) (length atoms) 0 ends (numbered_rule numbers statement) ≡ true
sound_one symbols atoms numbers ends statement head body = rw (sound_body symbols atoms numbers statement.body body) head.is

pub sound_numbered : (symbols : List Symbol) (atoms numbers : List ℕ) (ends : Ends) (statements : List DefiniteStatement)
    → AllByRecursion (HasNumber symbols atoms numbers) (ids_of statements)
    → are_sound_rules (length symbols) (length atoms) 0 ends (map (numbered_rule numbers) statements) ≡ true
sound_numbered symbols atoms numbers ends [] all = refl
sound_numbered symbols atoms numbers ends (statement ∷ rest) all =
    let mine = all_front (HasNumber symbols atoms numbers) (statement.head ∷ statement.body) (ids_of rest) all in
    rw (sound_one symbols atoms numbers ends statement mine.0 mine.1)
    (sound_numbered symbols atoms numbers ends rest (all_behind (HasNumber symbols atoms numbers) (statement.head ∷ statement.body) (ids_of rest) all))

definite_body : (numbers ids : List ℕ) → list_all is_positive (numbered_body numbers ids) ≡ true
definite_body numbers [] = refl
definite_body numbers (id ∷ ids) = definite_body numbers ids

-- numbered statements are definite rules
pub definite_numbered : (numbers : List ℕ) (statements : List DefiniteStatement)
    → list_all is_definite_rule (map (numbered_rule numbers) statements) ≡ true
definite_numbered numbers [] = refl
definite_numbered numbers (statement ∷ rest) = rw (definite_body numbers statement.body) (definite_numbered numbers rest)

same_rule : (numbers : List ℕ) (statement : DefiniteStatement) → numbered_rule numbers statement ≡ ground_rule (definite_rule numbers statement)
same_rule numbers statement =
    ap (λ body. record { body = body; head = (numbered_rule numbers statement).head })
    (sym (map-map (slice_index numbers) (λ a. AtomLiteral a true) statement.body))

-- and are the rules of the program
pub same_rules : (numbers : List ℕ) (statements : List DefiniteStatement)
    → map (numbered_rule numbers) statements ≡ map ground_rule (map (definite_rule numbers) statements)
same_rules numbers [] = refl
same_rules numbers (statement ∷ rest) = λ i. same_rule numbers statement i ∷ same_rules numbers rest i

read_body : (symbols : List Symbol) (atoms numbers ids : List ℕ) → AllByRecursion (HasNumber symbols atoms numbers) ids
    → map (named (map (symbol_at symbols) atoms)) (map (slice_index numbers) ids) ≡ map (symbol_at symbols) ids
read_body symbols atoms numbers [] all = refl
read_body symbols atoms numbers (id ∷ ids) all = λ i. all.0.reads i ∷ read_body symbols atoms numbers ids all.1 i

read_one : (symbols : List Symbol) (atoms numbers : List ℕ) (statement : DefiniteStatement)
    → HasNumber symbols atoms numbers statement.head → AllByRecursion (HasNumber symbols atoms numbers) statement.body
    → named_rule (map (symbol_at symbols) atoms) (definite_rule numbers statement) ≡ rule_in symbols statement
read_one symbols atoms numbers statement head body =
    λ i. record { head = head.reads i; body = read_body symbols atoms numbers statement.body body i }

-- whose numbers read as the symbols of the statements
pub read_rules : (symbols : List Symbol) (atoms numbers : List ℕ) (statements : List DefiniteStatement)
    → AllByRecursion (HasNumber symbols atoms numbers) (ids_of statements)
    → map (named_rule (map (symbol_at symbols) atoms)) (map (definite_rule numbers) statements) ≡ rules_in symbols statements
read_rules symbols atoms numbers [] all = refl
read_rules symbols atoms numbers (statement ∷ rest) all =
    let mine = all_front (HasNumber symbols atoms numbers) (statement.head ∷ statement.body) (ids_of rest) all in
    λ i. read_one symbols atoms numbers statement mine.0 mine.1 i
    ∷ read_rules symbols atoms numbers rest (all_behind (HasNumber symbols atoms numbers) (statement.head ∷ statement.body) (ids_of rest) all) i

-- the symbols that occur are those of the ids
occurring-rules_in : (symbols : List Symbol) (statements : List DefiniteStatement)
    → occurring (rules_in symbols statements) ≡ map (symbol_at symbols) (ids_of statements)
occurring-rules_in symbols [] = refl
occurring-rules_in symbols (statement ∷ rest) =
    ap (λ l. (symbol_at symbols statement.head ∷ map (symbol_at symbols) statement.body) ++ l) (occurring-rules_in symbols rest)
    ∙ sym (map-append (symbol_at symbols) (statement.head ∷ statement.body) (ids_of rest))

-- the atoms' symbols are those that occur
pub atoms_occur : (symbols : List Symbol) (statements : List DefiniteStatement) (atoms : List ℕ) → IsListOf (IsMember (ids_of statements)) atoms
    → IsListOf (IsMember (occurring (rules_in symbols statements))) (map (symbol_at symbols) atoms)
atoms_occur symbols statements atoms members s = (
  (λ member. let m = member_map (symbol_at symbols) atoms s member in
      rw (occurring-rules_in symbols statements)
      (subst (λ (t : Symbol). IsMember (map (symbol_at symbols) (ids_of statements)) t) (sym m.2)
      (map_member (symbol_at symbols) (ids_of statements) m.0 ((members m.0).0 m.1)))),
  (λ member. let m = member_map (symbol_at symbols) (ids_of statements) s
      (subst (λ (l : List Symbol). IsMember l s) (occurring-rules_in symbols statements) member) in
      subst (λ (t : Symbol). IsMember (map (symbol_at symbols) atoms) t) (sym m.2)
      (map_member (symbol_at symbols) atoms m.0 ((members m.0).1 m.1))),
)

-- the objective of a program with none is sound
pub no_objective : (symbols : ℕ) → is_sound_objective symbols 0 [] [] ≡ true
no_objective symbols = refl

-- with definite rules, no variable and no objective a program is definite
pub definite_from : (rules : List GroundRule) (variables : List ℕ) → list_all is_definite_rule rules ≡ true → variables ≡ []
    → (list_all is_definite_rule rules && (length variables == 0) && not false) ≡ true
definite_from rules variables definite none = rw (definite, none) refl

append_nil : (xs : List ℕ) → xs ++ [] ≡ xs
append_nil [] = refl
append_nil (x ∷ xs) = ap (λ l. x ∷ l) (append_nil xs)

-- the block that was appended to nothing, and an ending, are a run of one answer
pub printed_one : (before printed block ending : List ℕ) → before ≡ [] → printed ≡ before ++ block → printed ++ ending ≡ (block ++ []) ++ ending
printed_one before printed block ending none is =
    ap (λ l. l ++ ending) (is ∙ ap (λ l. l ++ block) none ∙ sym (append_nil block))
