-- The statements of texts, one text more at a time.
use Rattle.std.proofs.Common.{◌≡◌, ℕ, zero, suc, ◌+◌, ◌<◌, ◌⊎◌, inl, inr, Bool, true, false, ◌&&◌, ◌==◌, List, [], ◌∷◌, ◌++◌, length, reverse, take, Some, refl, sym, ◌∙◌, ap, subst, append_assoc, arith}
use Rattle.std.specs.Prelude.{replicate, slice_get, IsTrue}
use Rattle.std.specs.List.{list_all, AllByRecursion}
use Rattle.std.proofs.lemmas.Bool.Decides.{nat_tests}
use Rattle.std.proofs.lemmas.List.{append-nil, length-replicate, length-append, reverse-append, replicate-append-replicate}
use Rattle.syntax_tree.specs.declared.statement.Statement.{Statement}
use Rattle.syntax_tree.specs.declared.statement.Program.{Program}
use Rattle.syntax_tree.specs.Statements.{is_statement, is_program}
use Rattle.asp_parser.specs.Parsed.{FoundText}
use Rattle.inputs.specs.Texts.{AreStatements, IsWritten, joined, numbers_from}
use Rattle.inputs.proofs.TextLemmas.{take-one-more}

pub statements-push : (texts : List (List ℕ)) (parsed : List (List Statement)) (text : List ℕ) (one : List Statement)
    → AreStatements texts parsed → FoundText text one → AreStatements (texts ++ text ∷ []) (parsed ++ one ∷ [])
statements-push [] [] text one are found = (found, tt)
statements-push [] (p ∷ parsed) text one are found = absurd are
statements-push (t ∷ texts) [] text one are found = absurd are
statements-push (t ∷ texts) (p ∷ parsed) text one are found = (are.0, statements-push texts parsed text one are.1 found)

pub length-statements : (texts : List (List ℕ)) (parsed : List (List Statement)) → AreStatements texts parsed → length texts ≡ length parsed
length-statements [] [] are = refl
length-statements [] (p ∷ parsed) are = absurd are
length-statements (t ∷ texts) [] are = absurd are
length-statements (t ∷ texts) (p ∷ parsed) are = ap suc (length-statements texts parsed are.1)

pub joined-push : (parsed : List (List Statement)) (one : List Statement) → joined (parsed ++ one ∷ []) ≡ joined parsed ++ one
joined-push [] one = append-nil one
joined-push (p ∷ parsed) one = ap (λ l. p ++ l) (joined-push parsed one) ∙ sym (append_assoc p (joined parsed) one)

pub numbers-push : (n : ℕ) (parsed : List (List Statement)) (one : List Statement)
    → numbers_from n (parsed ++ one ∷ []) ≡ numbers_from n parsed ++ replicate (length one) (n + length parsed)
numbers-push n [] one = append-nil (replicate (length one) n) ∙ ap (λ k. replicate (length one) k) (omega arith)
numbers-push n (p ∷ parsed) one =
    let same : n + 1 + length parsed ≡ n + suc (length parsed) = omega arith in
    ap (λ l. replicate (length p) n ++ l) (numbers-push (n + 1) parsed one ∙ ap (λ k. numbers_from (n + 1) parsed ++ replicate (length one) k) same)
    ∙ sym (append_assoc (replicate (length p) n) (numbers_from (n + 1) parsed) (replicate (length one) (n + suc (length parsed))))

-- what stands behind equal numbers, or is one of them
in_either : (k n : ℕ) (rest : List ℕ) (place file : ℕ) → slice_get (replicate k n ++ rest) place ≡ Some file
    → (file ≡ n) ⊎ ((later : ℕ) × (slice_get rest later ≡ Some file))
in_either zero n rest place file here = inr (place, here)
in_either (suc k) n rest zero file here = inl (let same : n ≡ file = cc in sym same)
in_either (suc k) n rest (suc place) file here = in_either k n rest place file here

-- the number of a text is that of one of the texts
pub numbers-below : (n : ℕ) (parsed : List (List Statement)) (place file : ℕ) → slice_get (numbers_from n parsed) place ≡ Some file
    → file < n + length parsed
numbers-below n [] place file here = cc
numbers-below n (p ∷ parsed) place file here = go (numbers-below (n + 1) parsed) (in_either (length p) n (numbers_from (n + 1) parsed) place file here)
  where
    go : ((later f : ℕ) → slice_get (numbers_from (n + 1) parsed) later ≡ Some f → f < n + 1 + length parsed)
        → (file ≡ n) ⊎ ((later : ℕ) × (slice_get (numbers_from (n + 1) parsed) later ≡ Some file)) → file < n + suc (length parsed)
    go each (inl is) = omega (arith, is)
    go each (inr later) = let below : file < n + 1 + length parsed = each later.0 file later.1 in omega (arith, below)

and_parts : (a b : Bool) → (a && b) ≡ true → (a ≡ true) × (b ≡ true)
and_parts true b both = (refl, both)
and_parts false b both = cc

trees : (more : List Statement) → AllByRecursion (λ statement. IsTrue (is_statement statement)) more → list_all is_statement more ≡ true
trees [] all = refl
trees (s ∷ more) all = rw all.0 (trees more all.1)

trees-push : (statements more : List Statement) → list_all is_statement statements ≡ true
    → AllByRecursion (λ statement. IsTrue (is_statement statement)) more → list_all is_statement (statements ++ more) ≡ true
trees-push [] more first second = trees more second
trees-push (s ∷ statements) more first second =
    let parts = and_parts (is_statement s) (list_all is_statement statements) first in
    rw parts.0 (trees-push statements more parts.1 second)

-- a program with the statements of one text more keeps the rules on programs
pub program-push : (statements more : List Statement) (files : List ℕ) (n : ℕ)
    → (list_all is_statement statements && length files == length statements) ≡ true
    → AllByRecursion (λ statement. IsTrue (is_statement statement)) more
    → (list_all is_statement (statements ++ more) && length (files ++ replicate (length more) n) == length (statements ++ more)) ≡ true
program-push statements more files n before all =
    let parts = and_parts (list_all is_statement statements) (length files == length statements) before in
    let counts : length files ≡ length statements = let test : (length files == length statements) ≡ true = parts.1 in grind (arith, nat_tests) in
    let same : length (files ++ replicate (length more) n) ≡ length (statements ++ more) =
    length-append files (replicate (length more) n) ∙ ap (λ k. length files + k) (length-replicate (length more) n)
    ∙ ap (λ k. k + length more) counts ∙ sym (length-append statements more) in
    rw (trees-push statements more parts.0 all)
    (let test : (length (files ++ replicate (length more) n) == length (statements ++ more)) ≡ true = grind (arith, nat_tests) in test)

-- ---- turning a list
pub turned : {X : Type 0} (from new before after : List X) (last : X) (all : List X) → from ++ reverse before ≡ all → from ≡ new ++ last ∷ []
    → after ≡ before ++ last ∷ [] → new ++ reverse after ≡ all
turned from new before after last all so_far is grew =
    ap (λ l. new ++ reverse l) grew ∙ ap (λ l. new ++ l) (reverse-append before (last ∷ []))
    ∙ sym (append_assoc new (last ∷ []) (reverse before)) ∙ ap (λ l. l ++ reverse before) (sym is) ∙ so_far

pub placed : {X : Type 0} (into after from new : List X) (last : X) (all : List X) → into ++ reverse from ≡ all → from ≡ new ++ last ∷ []
    → after ≡ into ++ last ∷ [] → after ++ reverse new ≡ all
placed into after from new last all so_far is grew =
    ap (λ l. l ++ reverse new) grew ∙ append_assoc into (last ∷ []) (reverse new)
    ∙ ap (λ l. into ++ l) (sym (reverse-append new (last ∷ []))) ∙ ap (λ l. into ++ reverse l) (sym is) ∙ so_far

pub repeated : (front before after : List ℕ) (k n : ℕ) → before ≡ front ++ replicate k n → after ≡ before ++ n ∷ [] → after ≡ front ++ replicate (k + 1) n
repeated front before after k n so_far grew =
    grew ∙ ap (λ l. l ++ n ∷ []) so_far ∙ append_assoc front (replicate k n) (n ∷ []) ∙ ap (λ l. front ++ l) (replicate-append-replicate k 1 n)

-- ---- one text more
at-place : {X : Type 0} (xs : List X) (k : ℕ) (x : X) → slice_get xs k ≡ Some x → length (take k xs) ≡ k
at-place [] k x here = cc
at-place (y ∷ ys) zero x here = refl
at-place (y ∷ ys) (suc k) x here = ap suc (at-place ys k x here)

pub written-push : (texts : List (List ℕ)) (at : ℕ) (text : List ℕ) (before after : Program) (one : List Statement) (n : ℕ)
    → IsWritten (take at texts) before → slice_get texts at ≡ Some text → FoundText text one
    → after.statements ≡ before.statements ++ one → after.files ≡ before.files ++ replicate (length one) n → n ≡ at
    → IsWritten (take (at + 1) texts) after
written-push texts at text before after one n written here found statements files number =
    let none : 0 + length written.parsed ≡ length written.parsed = omega arith in
    let place : 0 + length written.parsed ≡ at = none ∙ sym (length-statements (take at texts) written.parsed written.are) ∙ at-place texts at text here in
    record {
      parsed = written.parsed ++ one ∷ [];
      are = subst (λ (l : List (List ℕ)). AreStatements l (written.parsed ++ one ∷ [])) (sym (take-one-more texts at text here))
          (statements-push (take at texts) written.parsed text one written.are found);
      statements = statements ∙ ap (λ l. l ++ one) written.statements ∙ sym (joined-push written.parsed one);
      files = files ∙ ap (λ l. l ++ replicate (length one) n) written.files ∙ ap (λ k. numbers_from 0 written.parsed ++ replicate (length one) k) (number ∙ sym place)
          ∙ sym (numbers-push 0 written.parsed one);
    }

pub tree-push : (before after : Program) (one : List Statement) (n : ℕ) → is_program before ≡ true
    → AllByRecursion (λ statement. IsTrue (is_statement statement)) one
    → after.statements ≡ before.statements ++ one → after.files ≡ before.files ++ replicate (length one) n → is_program after ≡ true
tree-push before after one n tree all statements files =
    rw (statements, files) (program-push before.statements one before.files n tree all)
