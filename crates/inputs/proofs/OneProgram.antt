-- Texts have one program at most, or one first refusal: a program and a refusal exclude each other.
use Rattle.std.proofs.Common.{◌≡◌, ℕ, zero, suc, List, [], ◌∷◌, map, take, slice_get, Some, None, refl, sym, ◌∙◌, ap, subst, inl, inr}
use Rattle.syntax_tree.specs.declared.statement.Statement.{Statement}
use Rattle.syntax_tree.specs.declared.statement.Program.{Program}
use Rattle.asp_parser.specs.declared.fault.TextFault.{TextFault}
use Rattle.asp_parser.specs.Parsed.{FoundText, IsTextFault}
use Rattle.asp_parser.specs.Replacement.{replaced_statement}
use Rattle.asp_parser.specs.Constants.{constants_of, IsFirstBad}
use Rattle.text_laws.proofs.OneReading.{one_reading, no_fault_beside}
use Rattle.text_laws.proofs.OneFault.{one_fault}
use Rattle.inputs.specs.Texts.{AreStatements, joined, numbers_from, IsWritten, IsProgram, HasFirstFault, IsFaulty, HasBadConstant, AreRefused, line_at, cause_text, constant_line}
use Rattle.inputs.proofs.OneConstants.{one_some, none_where_bad, one_bad}

-- ---- programs
same_parsed : (texts : List (List ℕ)) (one other : List (List Statement)) → AreStatements texts one → AreStatements texts other → one ≡ other
same_parsed [] [] [] are are_too = refl
same_parsed [] [] (more ∷ other) are are_too = absurd are_too
same_parsed [] (more ∷ one) other are are_too = absurd are
same_parsed (text ∷ texts) [] other are are_too = absurd are
same_parsed (text ∷ texts) (parsed ∷ one) [] are are_too = absurd are_too
same_parsed (text ∷ texts) (parsed ∷ one) (again ∷ other) are are_too =
    λ i. one_reading text parsed again are.0 are_too.0 i ∷ same_parsed texts one other are.1 are_too.1 i

-- the program that texts have as it is written
pub one_written : (texts : List (List ℕ)) (one other : Program) → IsWritten texts one → IsWritten texts other → one ≡ other
one_written texts one other a b =
    let parsed : a.parsed ≡ b.parsed = same_parsed texts a.parsed b.parsed a.are b.are in
    let statements : one.statements ≡ other.statements = a.statements ∙ ap joined parsed ∙ sym b.statements in
    let files : one.files ≡ other.files = a.files ∙ ap (numbers_from 0) parsed ∙ sym b.files in
    λ i. record { statements = statements i; files = files i }

-- and with its constants replaced
pub one_program : (texts : List (List ℕ)) (one other : Program) → IsProgram texts one → IsProgram texts other → one ≡ other
one_program texts one other a b =
    let written : a.written ≡ b.written = one_written texts a.written b.written a.has b.has in
    let constants : a.replaced.constants ≡ b.replaced.constants =
    one_some (constants_of b.written.statements) a.replaced.constants b.replaced.constants
    (ap (λ (program : Program). constants_of program.statements) (sym written) ∙ a.replaced.defined) b.replaced.defined in
    let same : map (replaced_statement a.replaced.constants) a.written.statements ≡ map (replaced_statement b.replaced.constants) b.written.statements =
    λ i. map (replaced_statement (constants i)) (written i).statements in
    let statements : one.statements ≡ other.statements = a.replaced.statements ∙ same ∙ sym b.replaced.statements in
    let files : one.files ≡ other.files = a.replaced.files ∙ ap (λ (program : Program). program.files) written ∙ sym b.replaced.files in
    λ i. record { statements = statements i; files = files i }

-- ---- faults
-- a text with statements has no fault
none_here : (text named : List ℕ) (statements : List Statement) (fault : TextFault) → FoundText text statements → Some text ≡ Some named
    → IsTextFault named fault → ⊥
none_here text named statements fault found here faulty =
    let same : text ≡ named = cc in
    no_fault_beside named statements fault (subst (λ (l : List ℕ). FoundText l statements) same found) faulty

none_among : (texts : List (List ℕ)) (parsed : List (List Statement)) (at : ℕ) (text : List ℕ) (fault : TextFault) → AreStatements texts parsed
    → slice_get texts at ≡ Some text → IsTextFault text fault → ⊥
none_among [] parsed at text fault are here faulty = let wrong : None ≡ Some text = here in cc
none_among (first ∷ texts) [] at text fault are here faulty = are
none_among (first ∷ texts) (one ∷ parsed) zero text fault are here faulty = none_here first text one fault are.0 here faulty
none_among (first ∷ texts) (one ∷ parsed) (suc at) text fault are here faulty = none_among texts parsed at text fault are.1 here faulty

one_place : (texts : List (List ℕ)) (k j : ℕ) (before behind : List (List Statement)) (text other : List ℕ) (fault beyond : TextFault)
    → AreStatements (take k texts) before → slice_get texts k ≡ Some text → IsTextFault text fault → AreStatements (take j texts) behind
    → slice_get texts j ≡ Some other → IsTextFault other beyond → k ≡ j
one_place [] k j before behind text other fault beyond fine here is fine_too here_too is_too = cc
one_place (first ∷ texts) zero zero before behind text other fault beyond fine here is fine_too here_too is_too = refl
one_place (first ∷ texts) zero (suc j) before [] text other fault beyond fine here is fine_too here_too is_too = absurd fine_too
one_place (first ∷ texts) zero (suc j) before (one ∷ behind) text other fault beyond fine here is fine_too here_too is_too =
    absurd (none_here first text one fault fine_too.0 here is)
one_place (first ∷ texts) (suc k) zero [] behind text other fault beyond fine here is fine_too here_too is_too = absurd fine
one_place (first ∷ texts) (suc k) zero (one ∷ before) behind text other fault beyond fine here is fine_too here_too is_too =
    absurd (none_here first other one beyond fine.0 here_too is_too)
one_place (first ∷ texts) (suc k) (suc j) [] behind text other fault beyond fine here is fine_too here_too is_too = absurd fine
one_place (first ∷ texts) (suc k) (suc j) (one ∷ before) [] text other fault beyond fine here is fine_too here_too is_too = absurd fine_too
one_place (first ∷ texts) (suc k) (suc j) (one ∷ before) (again ∷ behind) text other fault beyond fine here is fine_too here_too is_too =
    ap suc (one_place texts k j before behind text other fault beyond fine.1 here is fine_too.1 here_too is_too)

-- the first fault of texts is one
one_first_fault : (texts : List (List ℕ)) (at to : ℕ) (fault beyond : TextFault) → HasFirstFault texts at fault → HasFirstFault texts to beyond
    → (at ≡ to) × (fault ≡ beyond)
one_first_fault texts at to fault beyond a b =
    let same : at ≡ to = one_place texts at to a.before b.before a.text b.text fault beyond a.fine a.here a.first b.fine b.here b.first in
    let text : a.text ≡ b.text = one_some (slice_get texts to) a.text b.text (ap (slice_get texts) (sym same) ∙ a.here) b.here in
    (same, one_fault b.text fault beyond (subst (λ (l : List ℕ). IsTextFault l fault) text a.first) b.first)

-- texts with a fault have no program
none_written : (texts : List (List ℕ)) (at : ℕ) (fault : TextFault) (program : Program) → HasFirstFault texts at fault → IsWritten texts program → ⊥
none_written texts at fault program faulty written = none_among texts written.parsed at faulty.text fault written.are faulty.here faulty.first

-- nor have texts with a constant that may not be
none_replaced : (names texts : List (List ℕ)) (line : List ℕ) (program : Program) → HasBadConstant names texts line → IsProgram texts program → ⊥
none_replaced names texts line program bad is =
    let same : bad.written ≡ is.written = one_written texts bad.written is.written bad.has is.has in
    let none : constants_of bad.written.statements ≡ None =
    none_where_bad bad.written.statements bad.written.files bad.file bad.place bad.bad in
    let wrong : None ≡ Some is.replaced.constants =
    sym none ∙ ap (λ (written : Program). constants_of written.statements) same ∙ is.replaced.defined in
    cc

-- texts that are refused have no program
pub none_refused : (names texts : List (List ℕ)) (line : List ℕ) (program : Program) → AreRefused names texts line → IsProgram texts program → ⊥
none_refused names texts line program (inl faulty) is = none_written texts faulty.at faulty.fault is.written faulty.has is.has
none_refused names texts line program (inr bad) is = none_replaced names texts line program bad is

-- ---- lines of refusals
same_faulty : (names texts : List (List ℕ)) (line other : List ℕ) → IsFaulty names texts line → IsFaulty names texts other → line ≡ other
same_faulty names texts line other a b =
    let same = one_first_fault texts a.at b.at a.fault b.fault a.has b.has in
    let name : a.name ≡ b.name = one_some (slice_get names b.at) a.name b.name (ap (slice_get names) (sym same.0) ∙ a.named) b.named in
    let lines : line_at a.name a.fault.line a.fault.column (cause_text a.fault.cause) ≡ line_at b.name b.fault.line b.fault.column (cause_text b.fault.cause) =
    λ i. line_at (name i) (same.1 i).line (same.1 i).column (cause_text (same.1 i).cause) in
    a.line ∙ lines ∙ sym b.line

same_constant : (names texts : List (List ℕ)) (line other : List ℕ) → HasBadConstant names texts line → HasBadConstant names texts other → line ≡ other
same_constant names texts line other a b =
    let written : a.written ≡ b.written = one_written texts a.written b.written a.has b.has in
    let same = one_bad b.written.statements b.written.files a.file b.file a.place b.place
    (subst (λ (program : Program). IsFirstBad program.statements program.files a.file a.place) written a.bad) b.bad in
    let name : a.name ≡ b.name = one_some (slice_get names b.file) a.name b.name (ap (slice_get names) (sym same.0) ∙ a.named) b.named in
    let text : a.text ≡ b.text = one_some (slice_get texts b.file) a.text b.text (ap (slice_get texts) (sym same.0) ∙ a.here) b.here in
    let lines : constant_line a.name a.text a.place ≡ constant_line b.name b.text b.place = λ i. constant_line (name i) (text i) (same.1 i) in
    a.line ∙ lines ∙ sym b.line

-- the line of the first refusal is one
pub one_line : (names texts : List (List ℕ)) (line other : List ℕ) → AreRefused names texts line → AreRefused names texts other → line ≡ other
one_line names texts line other (inl a) (inl b) = same_faulty names texts line other a b
one_line names texts line other (inl a) (inr b) = absurd (none_written texts a.at a.fault b.written a.has b.has)
one_line names texts line other (inr a) (inl b) = absurd (none_written texts b.at b.fault a.written b.has a.has)
one_line names texts line other (inr a) (inr b) = same_constant names texts line other a b
