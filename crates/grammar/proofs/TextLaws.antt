-- Words are those of one statement at most, and of one text.
use Rattle.std.proofs.Common.{◌≡◌, ℕ, List, [], ◌∷◌, length, sym, ◌∙◌, ap, refl, arith}
use Rattle.grammar.specs.Word.{Word}
use Rattle.grammar.specs.Statement.{StatementAt, words_of_statement, text_words}
use Rattle.grammar.specs.StatementReading.{statement_at}
use Rattle.grammar.proofs.Lawful.{ok_parts, never_on}
use Rattle.grammar.proofs.StatementLaws.{statement_law}

pub one_statement : (n : ℕ) (s t : StatementAt n) (behind beyond : List Word) → words_of_statement n s behind ≡ words_of_statement n t beyond → (s ≡ t) × (behind ≡ beyond)
one_statement n s t behind beyond same =
    ok_parts s t behind beyond (sym ((statement_law n).complete s behind (never_on behind)) ∙ ap (statement_at n) same ∙ (statement_law n).complete t beyond (never_on beyond))

pub one_text : (n : ℕ) (ss ts : List (StatementAt n)) → text_words n ss ≡ text_words n ts → ss ≡ ts
one_text n [] [] same = refl
one_text n [] (t ∷ ts) same = let e = ap length same in absurd (omega (arith, e, (statement_law n).some t (text_words n ts)))
one_text n (s ∷ ss) [] same = let e = ap length same in absurd (omega (arith, e, (statement_law n).some s (text_words n ss)))
one_text n (s ∷ ss) (t ∷ ts) same =
    let p = one_statement n s t (text_words n ss) (text_words n ts) same in
    ap (λ z. z ∷ ss) p.0 ∙ ap (λ z. t ∷ z) (one_text n ss ts p.1)
