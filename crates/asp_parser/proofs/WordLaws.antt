-- Tests of the next word.
use Rattle.std.proofs.Common.{◌≡◌, Bool, true, false, ◌||◌, if◌then◌else◌, List, [], ◌∷◌, Option, Some, None, refl, ap, sym, ◌∙◌}
use Rattle.std.specs.Option.{is_some}
use Rattle.grammar.specs.declared.mark.Mark.TheVariants as m
use Rattle.grammar.specs.Word.{Word, is_word, is_next}
use Rattle.grammar.specs.Theory.{relation}
use Rattle.grammar.specs.Statement.{Separating, by_comma, by_semicolon, separating}
use Rattle.grammar.specs.Reading.{starts_next, sign_at}
use Rattle.grammar.specs.TheoryReading.{begins, begins_term, is_relation}
use Rattle.grammar.specs.StatementReading.{begins_literal, begins_right, is_bounding}

pub literal_begins : (ts : List Word) → (is_next m.And ts || starts_next begins ts) ≡ starts_next begins_literal ts
literal_begins [] = refl
literal_begins (w ∷ ts) = refl

pub bounding_is : (ts : List Word) → (is_some (sign_at relation ts) || is_next m.OpenBrace ts) ≡ starts_next is_bounding ts
bounding_is [] = refl
bounding_is (w ∷ ts) = refl

pub right_begins : (ts : List Word) → (is_some (sign_at relation ts) || starts_next begins_term ts) ≡ starts_next begins_right ts
right_begins [] = refl
right_begins (w ∷ ts) = refl

separates_by : (a b : Bool) → (a || b) ≡ is_some (if a then Some by_comma else (if b then Some by_semicolon else None))
separates_by true b = refl
separates_by false true = refl
separates_by false false = refl

pub separates_is : (ts : List Word) → (is_next m.Comma ts || is_next m.Semicolon ts) ≡ is_some (sign_at separating ts)
separates_is [] = refl
separates_is (w ∷ ts) = separates_by (is_word m.Comma w) (is_word m.Semicolon w)
