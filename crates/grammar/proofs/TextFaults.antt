-- Whole texts at every depth: lawful, read deeper where more may nest, and with their faults at the first place.
use Rattle.std.proofs.Common.{◌≡◌, ℕ, suc, ◌≤◌, true, false, List, [], ◌∷◌, length, Err, refl, sym, ◌∙◌, ap}
use Rattle.grammar.specs.Word.{Word}
use Rattle.grammar.specs.Statement.{words_of_statement, text_words}
use Rattle.grammar.specs.inner.Text.{TextAt, words_of_text}
use Rattle.grammar.specs.Reading.{Fault, Expected, TooDeep}
use Rattle.grammar.specs.StatementReading.{statement_at}
use Rattle.grammar.specs.inner.TextReading.{text_at}
use Rattle.grammar.specs.Faults.{IsExpected, IsTooDeep}
use Rattle.grammar.proofs.Deeper.{Deeper, lawful_shrinks}
use Rattle.grammar.proofs.First.{Found, first_expected, first_deep}
use Rattle.grammar.proofs.Pairs.{Weak}
use Rattle.grammar.proofs.KindLaws.{weak_as}
use Rattle.grammar.proofs.ItemLaws.{all_words, all_law, all_err, all_deeper}
use Rattle.grammar.proofs.StatementLaws.{statement_law}
use Rattle.grammar.proofs.StatementDeeper.{statement_deeper}

module _ (n : ℕ) where
  abbrev statements_words : TextAt n → List Word → List Word
  statements_words = all_words (words_of_statement n) (λ s w. false) (statement_at n) (statement_law n) (λ s w. refl)

  words_same : (ss : TextAt n) (rest : List Word) → statements_words ss rest ≡ words_of_text n ss rest
  words_same [] rest = refl
  words_same (s ∷ ss) rest = ap (words_of_statement n s) (words_same ss rest) ∙ (statement_law n).parted s (text_words n ss) rest

  pub text_law : Weak (words_of_text n) (λ ss w. true) (text_at n)
  text_law = weak_as statements_words (words_of_text n) (λ ss w. true) (text_at n) words_same (all_law (words_of_statement n) (λ s w. false) (statement_at n) (statement_law n) (λ s w. refl))

  -- a fault behind statements that are read is the text's
  pub text_err : (ss : TextAt n) (ts : List Word) (f : Fault) → statement_at n ts ≡ Err f → 1 ≤ length ts → text_at n (words_of_text n ss ts) ≡ Err f
  text_err ss ts f h some = ap (text_at n) (sym (words_same ss ts)) ∙ all_err (words_of_statement n) (λ s w. false) (statement_at n) (statement_law n) (λ s w. refl) ss ts f h some

pub text_deeper : (n : ℕ) → Deeper (text_at n) (text_at (suc n))
text_deeper n = all_deeper (statement_at n) (statement_at (suc n)) (statement_deeper n) (lawful_shrinks _ _ _ (statement_law (suc n)))

pub text_expected : (n : ℕ) (ts : List Word) (k : ℕ) → text_at n ts ≡ Err (Expected k) → Found (IsExpected TextAt words_of_text n) ts k
text_expected = first_expected TextAt words_of_text (λ n ss w. true) text_at text_law text_deeper

pub text_deep : (n : ℕ) (ts : List Word) (k : ℕ) → text_at n ts ≡ Err (TooDeep k) → Found (IsTooDeep TextAt words_of_text n) ts k
text_deep = first_deep TextAt words_of_text (λ n ss w. true) text_at text_law text_deeper
