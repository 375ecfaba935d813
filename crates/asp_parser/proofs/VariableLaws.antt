-- The places that add a variable are those where a new one is seen.
use Rattle.std.proofs.Common.{◌≡◌, ℕ, ◌+◌, ◌==◌, Bool, true, false, not, ◌||◌, if◌then◌else◌, bytes_eq, List, [], ◌∷◌, ◌++◌, refl, sym, ◌∙◌, ap, arith}
use Rattle.lexer.specs.declared.token.Token.{Token}
use Rattle.syntax_tree.specs.declared.rule.Name.{Name}
use Rattle.grammar.specs.Sight.{Sight, Sighting, of_variable, of_anonymous, of_interval, of_atom}
use Rattle.grammar.specs.Statement.{StatementAt}
use Rattle.grammar.specs.StatementSight.{sights_of_statement}
use Rattle.grammar.specs.Tree.{number_of, number_behind}
use Rattle.grammar.specs.Check.{is_among, new_variables, past, too_many}
use Rattle.theory_grammar.specs.State.{adds, with_sight, seen_places}
use Rattle.theory_grammar.proofs.StateLemmas.{not_zero}
use Rattle.asp_parser.specs.StatementState.{adding, crowded_by, crowded}

-- a name is among those with one more where it is among those, or is that one
behind_last : (k : ℕ) (names : List Name) (last name : List ℕ)
    → not (number_behind k (names ++ record { text = last } ∷ []) name == 0) ≡ (bytes_eq last name || not (number_behind k names name == 0))
behind_last k [] last name = by (bytes_eq last name)
  where
    by : (b : Bool) → not ((if b then k + 1 else 0) == 0) ≡ (b || false)
    by true = ap not (not_zero (k + 1) (omega arith))
    by false = refl
behind_last k (other ∷ names) last name = by (bytes_eq other.text name) (bytes_eq last name) (behind_last (k + 1) names last name)
  where
    by : (b c : Bool) → not (number_behind (k + 1) (names ++ record { text = last } ∷ []) name == 0) ≡ (c || not (number_behind (k + 1) names name == 0))
        → not ((if b then k + 1 else number_behind (k + 1) (names ++ record { text = last } ∷ []) name) == 0) ≡ (c || not ((if b then k + 1 else number_behind (k + 1) names name) == 0))
    by true true h = ap not (not_zero (k + 1) (omega arith))
    by true false h = refl
    by false c h = h

-- the names that are known, in any order, are those that are numbered
abbrev Same : List (List ℕ) → List Name → Type 0
Same known names = (name : List ℕ) → is_among known name ≡ not (number_of names name == 0)

one_more : (known : List (List ℕ)) (names : List Name) (last : List ℕ) → Same known names → Same (last ∷ known) (names ++ record { text = last } ∷ [])
one_more known names last same name = ap (λ b. bytes_eq last name || b) (same name) ∙ sym (behind_last 0 names last name)

pub adding_is : (tokens : List Token) (known : List (List ℕ)) (names : List Name) (sights : List Sighting) → Same known names
    → adding (seen_places tokens names sights) ≡ new_variables known sights
adding_is tokens known names [] same = refl
adding_is tokens known names (s ∷ sights) same =
    by s.sight (adding_is tokens known names sights same) (λ name. adding_is tokens (name ∷ known) (names ++ record { text = name } ∷ []) sights (one_more known names name same))
  where
    by : (sight : Sight) → adding (seen_places tokens names sights) ≡ new_variables known sights
        → ((name : List ℕ) → adding (seen_places tokens (names ++ record { text = name } ∷ []) sights) ≡ new_variables (name ∷ known) sights)
        → (if adds names sight then s.at ∷ adding (seen_places tokens (with_sight names sight) sights) else adding (seen_places tokens (with_sight names sight) sights))
        ≡ new_variables known (record { sight = sight; at = s.at } ∷ sights)
    by (of_variable name) rest more =
        choose (number_of names name == 0)
        ∙ ap (λ b. if b then new_variables known sights else s.at ∷ new_variables (name ∷ known) sights) (sym (same name))
      where
        choose : (b : Bool)
            → (if b then s.at ∷ adding (seen_places tokens (if b then names ++ record { text = name } ∷ [] else names) sights) else adding (seen_places tokens (if b then names ++ record { text = name } ∷ [] else names) sights))
            ≡ (if not b then new_variables known sights else s.at ∷ new_variables (name ∷ known) sights)
        choose true = ap (λ z. s.at ∷ z) (more name)
        choose false = rest
    by of_anonymous rest more = ap (λ z. s.at ∷ z) rest
    by of_interval rest more = ap (λ z. s.at ∷ z) rest
    by of_atom rest more = rest

crowded_places : (sights : List Sighting) (places : List ℕ) → places ≡ new_variables [] sights → crowded_by (past 64 places) ≡ too_many sights
crowded_places sights places h = ap (λ z. crowded_by (past 64 z)) h ∙ by (past 64 (new_variables [] sights))
  where
    by : (places : List ℕ) → crowded_by places ≡ (elim places [ [] ↦ [] | at ∷ rest ↦ crowded_by (at ∷ rest) ])
    by [] = refl
    by (at ∷ rest) = refl

pub crowded_is_too_many : (tokens : List Token) (sights : List Sighting) → crowded (seen_places tokens [] sights) ≡ too_many sights
crowded_is_too_many tokens sights = crowded_places sights (adding (seen_places tokens [] sights)) (adding_is tokens [] [] sights (λ name. refl))

-- where a statement has one variable too many
pub crowded_is_many : (tokens : List Token) (form : StatementAt 64) (at : ℕ) → crowded (seen_places tokens [] (sights_of_statement 64 form at)) ≡ too_many (sights_of_statement 64 form at)
crowded_is_many tokens form at = crowded_is_too_many tokens (sights_of_statement 64 form at)
