-- Statements at every depth: read deeper where more may nest, and with their faults at the first place.
use Rattle.std.proofs.Common.{◌≡◌, ℕ, suc, false, ◌||◌, List, [], ◌∷◌, Option, Some, None, Ok, Err, refl, sym, ◌∙◌}
use Rattle.std.specs.Option.{is_some}
use Rattle.symbols.specs.declared.rel.Rel.{Rel}
use Rattle.grammar.specs.declared.mark.Mark.TheVariants as m
use Rattle.grammar.specs.Word.{Word, is_word}
use Rattle.grammar.specs.Word as word
use Rattle.grammar.specs.Term.{AtomOf}
use Rattle.grammar.specs.Theory.{FullTerm, relation, semicolon}
use Rattle.grammar.specs.Statement.{separating, StatementAt, words_of_statement}
use Rattle.grammar.specs.Reading.{Expected, TooDeep, Either, term_at, level}
use Rattle.grammar.specs.TheoryReading.{begins_term, is_name, is_relation, is_negation, negation, name_with, term_atom}
use Rattle.grammar.specs.StatementReading.{is_const, is_show, const_sign, show_sign, begins_literal, begins_right, is_bounding, numeral_with, mark_with, FreeOf, literal_of, chosen_of, right_of, led, led_by, head_of, arrow_of, rule_of, constant_of, show_of, statement_of, literal_with, body_with, chosen_with, chosens_with, right_with, free_with, bounded_with, led_with, head_with, arrow_with, rule_with, constraint_with, constant_with, show_with, statement_at}
use Rattle.grammar.specs.Faults.{IsExpected, IsTooDeep}
use Rattle.grammar.proofs.Deeper.{Deeper, lawful_shrinks, before_deeper, row_deeper}
use Rattle.grammar.proofs.First.{Found, first_expected, first_deep}
use Rattle.grammar.proofs.TermLaws.{terms_deeper}
use Rattle.grammar.proofs.Pairs.{Weak, weak_of, pair_deeper, maybe_deeper}
use Rattle.grammar.proofs.Marked.{marked_deeper, closed_deeper, mapped_deeper}
use Rattle.grammar.proofs.KindLaws.{signed_deeper, either_deeper, kept_deeper}
use Rattle.grammar.proofs.ElementLaws.{given_law}
use Rattle.grammar.proofs.TheoryLaws.{weak_shrinks, parts_same, atom_deeper, compared_deeper, plain_deeper, given_deeper, name_deeper, theory_deeper}
use Rattle.grammar.proofs.LiteralLaws.{literal_law}
use Rattle.grammar.proofs.ChoiceLaws.{BoundedAt, chosen_law, right_law}
use Rattle.grammar.proofs.HeadLaws.{LedParts, leading_read, leading_law, led_read, arrow_law}
use Rattle.grammar.proofs.StatementLaws.{value_read, value_law, arity_read, arity_law, statement_law}

-- ---- numbers and dots
numeral_deeper : Deeper numeral_with numeral_with
numeral_deeper [] = refl
numeral_deeper (word.numeral n ∷ ts) = (n, refl)
numeral_deeper (w ∷ ts) = refl

dot_deeper : Deeper (mark_with m.Dot) (mark_with m.Dot)
dot_deeper ts = before_deeper m.Dot tt tt ts

-- ---- bodies
literal_deeper : (n : ℕ) → Deeper (literal_with (level n)) (literal_with (level (suc n)))
literal_deeper n =
    mapped_deeper literal_of literal_of _ _
    (either_deeper is_negation _ _ _ _ (signed_deeper negation _ _ (either_deeper (is_word m.And) _ _ _ _ (theory_deeper n) (atom_deeper n))) (either_deeper (is_word m.And) _ _ _ _ (theory_deeper n) (plain_deeper n)))

body_deeper : (n : ℕ) → Deeper (body_with (level n)) (body_with (level (suc n)))
body_deeper n = maybe_deeper begins_literal _ _ (row_deeper (literal_with (level n)) (literal_with (level (suc n))) separating (literal_deeper n) (lawful_shrinks _ _ _ (literal_law (suc n))))

-- ---- choices
chosen_deeper : (n : ℕ) → Deeper (chosen_with (level n)) (chosen_with (level (suc n)))
chosen_deeper n = mapped_deeper chosen_of chosen_of _ _ (pair_deeper _ _ _ _ (atom_deeper n) (given_deeper n) (weak_shrinks _ _ _ (given_law (suc n))))

chosens_deeper : (n : ℕ) → Deeper (chosens_with (level n)) (chosens_with (level (suc n)))
chosens_deeper n = maybe_deeper is_name _ _ (row_deeper (chosen_with (level n)) (chosen_with (level (suc n))) semicolon (chosen_deeper n) (lawful_shrinks _ _ _ (chosen_law (suc n))))

bound_deeper : (n : ℕ) → Deeper (right_with (level n)) (right_with (level (suc n)))
bound_deeper n = maybe_deeper begins_right _ _ (mapped_deeper right_of right_of _ _ (either_deeper is_relation _ _ _ _ (compared_deeper n) (terms_deeper n)))

free_deeper : (n : ℕ) → Deeper (free_with (level n)) (free_with (level (suc n)))
free_deeper n = pair_deeper _ _ _ _ (marked_deeper m.OpenBrace _ _ (closed_deeper m.CloseBrace _ _ (chosens_deeper n))) (bound_deeper n) (weak_shrinks _ _ _ (right_law (suc n)))

bounded_deeper : (n : ℕ) → Deeper (bounded_with (level n)) (bounded_with (level (suc n)))
bounded_deeper n = either_deeper is_relation _ _ _ _ (signed_deeper relation _ _ (free_deeper n)) (free_deeper n)

-- ---- heads
led_parts_deeper : (n : ℕ) → Deeper (led_read n) (led_read (suc n))
led_parts_deeper n = pair_deeper (term_at n) (term_at (suc n)) (leading_read n) (leading_read (suc n)) (terms_deeper n) (maybe_deeper is_bounding _ _ (bounded_deeper n)) (weak_shrinks _ _ _ (leading_law (suc n)))

led_some : {D R : Type 0} (t : FullTerm D R) (found : Option (AtomOf D)) (o : Option (Either (Rel × FreeOf D R) (FreeOf D R))) → is_some (led_by t found o) ≡ (is_some o || is_some found)
led_some t found (Some behind) = refl
led_some t (Some a) None = refl
led_some t None None = refl

led_same : (n : ℕ) (ts : List Word) (a : LedParts n) (a2 : LedParts (suc n)) (rest : List Word) → led_read n ts ≡ Ok (a, rest) → led_read (suc n) ts ≡ Ok (a2, rest)
    → is_some (led a) ≡ is_some (led a2)
led_same n ts a a2 rest h g =
    led_some a.0 (term_atom a.0) a.1 ∙ parts_same {A = BoundedAt} is_bounding (λ n. bounded_with (level n)) n ts a a2 rest h g ∙ sym (led_some a2.0 (term_atom a2.0) a2.1)

led_deeper : (n : ℕ) → Deeper (led_with (level n)) (led_with (level (suc n)))
led_deeper n = kept_deeper (led_read n) (led_read (suc n)) led led (led_parts_deeper n) (led_same n)

head_deeper : (n : ℕ) → Deeper (head_with (level n)) (head_with (level (suc n)))
head_deeper n = mapped_deeper head_of head_of _ _ (either_deeper (is_word m.And) _ _ _ _ (theory_deeper n) (either_deeper begins_term _ _ _ _ (led_deeper n) (free_deeper n)))

arrow_deeper : (n : ℕ) → Deeper (arrow_with (level n)) (arrow_with (level (suc n)))
arrow_deeper n = mapped_deeper arrow_of arrow_of _ _ (maybe_deeper (is_word m.Arrow) _ _ (marked_deeper m.Arrow _ _ (body_deeper n)))

-- ---- statements
rule_deeper : (n : ℕ) → Deeper (rule_with (level n)) (rule_with (level (suc n)))
rule_deeper n = mapped_deeper rule_of rule_of _ _ (closed_deeper m.Dot _ _ (pair_deeper _ _ _ _ (head_deeper n) (arrow_deeper n) (weak_shrinks _ _ _ (arrow_law (suc n)))))

constraint_deeper : (n : ℕ) → Deeper (constraint_with (level n)) (constraint_with (level (suc n)))
constraint_deeper n = marked_deeper m.Arrow _ _ (closed_deeper m.Dot _ _ (body_deeper n))

constant_deeper : (n : ℕ) → Deeper (constant_with (level n)) (constant_with (level (suc n)))
constant_deeper n =
    mapped_deeper constant_of constant_of _ _
    (signed_deeper const_sign _ _ (pair_deeper name_with name_with (value_read n) (value_read (suc n)) name_deeper (marked_deeper m.Equal _ _ (closed_deeper m.Dot _ _ (terms_deeper n))) (lawful_shrinks _ _ _ (value_law (suc n)))))

show_deeper : (n : ℕ) → Deeper (show_with (level n)) (show_with (level (suc n)))
show_deeper n =
    mapped_deeper show_of show_of _ _
    (signed_deeper show_sign _ _
    (either_deeper is_name _ _ _ _ (pair_deeper name_with name_with arity_read arity_read name_deeper (marked_deeper m.Divide _ _ (closed_deeper m.Dot _ _ numeral_deeper)) (lawful_shrinks _ _ _ arity_law)) dot_deeper))

pub statement_deeper : (n : ℕ) → Deeper (statement_at n) (statement_at (suc n))
statement_deeper n =
    mapped_deeper statement_of statement_of _ _
    (either_deeper (is_word m.Arrow) _ _ _ _ (constraint_deeper n) (either_deeper is_const _ _ _ _ (constant_deeper n) (either_deeper is_show _ _ _ _ (show_deeper n) (rule_deeper n))))

-- ---- faults
statement_weak : (n : ℕ) → Weak (words_of_statement n) (λ s w. false) (statement_at n)
statement_weak n = weak_of (words_of_statement n) (λ s w. false) (statement_at n) (statement_law n)

pub statement_expected : (n : ℕ) (ts : List Word) (k : ℕ) → statement_at n ts ≡ Err (Expected k) → Found (IsExpected StatementAt words_of_statement n) ts k
statement_expected = first_expected StatementAt words_of_statement (λ n s w. false) statement_at statement_weak statement_deeper

pub statement_deep : (n : ℕ) (ts : List Word) (k : ℕ) → statement_at n ts ≡ Err (TooDeep k) → Found (IsTooDeep StatementAt words_of_statement n) ts k
statement_deep = first_deep StatementAt words_of_statement (λ n s w. false) statement_at statement_weak statement_deeper
