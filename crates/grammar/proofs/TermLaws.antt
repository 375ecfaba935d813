-- Terms and argument lists at every depth: lawful, read deeper where more may nest, and with their faults at the first place.
use Rattle.std.proofs.Common.{◌≡◌, Bool, ℕ, suc, List, Err, sym, ◌∙◌, ap}
use Rattle.grammar.specs.Word.{Word, Ends}
use Rattle.grammar.specs.Term.{UnaryAt, TermAt, unary_words, operand_words, product_words, sum_words, term_words, args_words, unary_goes_on, operand_goes_on, product_goes_on, sum_goes_on, term_goes_on, args_go_on}
use Rattle.grammar.specs.Reading.{Expected, TooDeep, unary_at, product_at, sum_at, term_at, args_at}
use Rattle.grammar.specs.Faults.{IsExpected, IsTooDeep}
use Rattle.grammar.proofs.Lawful.{Lawful, ok_parts}
use Rattle.grammar.proofs.Terms.{product_lawful, sum_lawful, term_lawful, args_lawful}
use Rattle.grammar.proofs.Levels.{operand_lawful, operand_only}
use Rattle.grammar.proofs.Deeper.{Deeper, operand_deeper, operand_shrinks, term_deeper}
use Rattle.grammar.proofs.Pairs.{Weak, weak_of}
use Rattle.grammar.proofs.First.{Found, first_expected, first_deep}

abbrev pub unary_text : (n : ℕ) → UnaryAt n → List Word → List Word
unary_text n = unary_words (operand_words n)

abbrev pub unary_on : (n : ℕ) → UnaryAt n → Word → Bool
unary_on n = unary_goes_on (operand_goes_on n)

abbrev pub term_text : (n : ℕ) → TermAt n → List Word → List Word
term_text n = term_words (unary_text n)

pub product_law : (n : ℕ) → Lawful (product_words (unary_text n)) (product_goes_on (unary_on n)) (product_at n)
product_law n = product_lawful (unary_text n) (unary_on n) (unary_at n) (operand_lawful n) (operand_only n)

pub sum_law : (n : ℕ) → Lawful (sum_words (unary_text n)) (sum_goes_on (unary_on n)) (sum_at n)
sum_law n = sum_lawful (unary_text n) (unary_on n) (unary_at n) (operand_lawful n) (operand_only n)

pub term_law : (n : ℕ) → Lawful (term_text n) (term_goes_on (unary_on n)) (term_at n)
term_law n = term_lawful (unary_text n) (unary_on n) (unary_at n) (operand_lawful n) (operand_only n)

term_weak : (n : ℕ) → Weak (term_text n) (term_goes_on (unary_on n)) (term_at n)
term_weak n = weak_of (term_text n) (term_goes_on (unary_on n)) (term_at n) (term_law n)

pub args_law : (n : ℕ) → Lawful (args_words (unary_text n)) (args_go_on (unary_on n)) (args_at n)
args_law n = args_lawful (unary_text n) (unary_on n) (unary_at n) (operand_lawful n) (operand_only n)

pub terms_deeper : (n : ℕ) → Deeper (term_at n) (term_at (suc n))
terms_deeper n = term_deeper (unary_at n) (unary_at (suc n)) (operand_deeper n) (operand_shrinks (suc n))

pub term_expected : (n : ℕ) (ts : List Word) (k : ℕ) → term_at n ts ≡ Err (Expected k) → Found (IsExpected TermAt term_text n) ts k
term_expected = first_expected TermAt term_text (λ n. term_goes_on (unary_on n)) term_at term_weak terms_deeper

pub term_deep : (n : ℕ) (ts : List Word) (k : ℕ) → term_at n ts ≡ Err (TooDeep k) → Found (IsTooDeep TermAt term_text n) ts k
term_deep = first_deep TermAt term_text (λ n. term_goes_on (unary_on n)) term_at term_weak terms_deeper

pub one_term : (n : ℕ) (t u : TermAt n) (behind beyond : List Word) → term_text n t behind ≡ term_text n u beyond
    → Ends (term_goes_on (unary_on n) t) behind → Ends (term_goes_on (unary_on n) u) beyond → (t ≡ u) × (behind ≡ beyond)
one_term n t u behind beyond same ends ends2 =
    ok_parts t u behind beyond (sym ((term_law n).complete t behind ends) ∙ ap (term_at n) same ∙ (term_law n).complete u beyond ends2)
