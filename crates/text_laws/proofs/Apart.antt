-- The pieces that a statement is printed with are apart: each word is a token, and the byte behind it does not join it.
use Rattle.std.specs.Prelude.{refl, ℕ, suc, true, false, Option, Some, None, List, [], ◌∷◌}
use Rattle.std.specs.List.{AllByRecursion}
use Rattle.symbols.specs.declared.rel.Rel.{Rel}
use Rattle.symbols.specs.declared.rel.Rel.TheVariants as rel
use Rattle.grammar.specs.declared.mark.Mark.TheVariants as m
use Rattle.grammar.specs.Word.{Word}
use Rattle.grammar.specs.Word as word
use Rattle.grammar.specs.Standing.{IsToken, Piece, solid, gap, AreApart}
use Rattle.grammar.specs.Row.{Row}
use Rattle.grammar.specs.Term.{AtomOf, Operand, Room, operand_words}
use Rattle.grammar.specs.Theory.{FullTerm, ConditionOf, holds, compares, PlacesOf, GivenOf, ElementOf, TheoryOf}
use Rattle.grammar.specs.Statement.{LiteralOf, simple, theory, by_comma, by_semicolon, BodyOf, ChosenOf, ChoiceOf, HeadOf, atom_head, choice_head, theory_head, ArrowOf, no_arrow, arrow, headed, constraint, constant, show_nothing, show, StatementAt}
use Rattle.grammar.specs.AllWords.{AllItems}
use Rattle.text_laws.proofs.AllStatement.{AllMaybe, AllFull, AllAtomAt, AllCondition, AllGiven, AllElement, AllTheory, AllLiteral, AllBody, AllChosen, AllLeft, AllRight, AllChoice, AllHead, AllArrow, AllStatement}
use Rattle.text_laws.proofs.Pieces.{tail_pieces, row_pieces, maybe_pieces, comma_tight, comma_loose, semicolon_tight, semicolon_loose, separating_pieces, rel_pieces, maybe_rel_pieces, atom_pieces, full_pieces, condition_pieces, colon_pieces, given_pieces, duration_pieces, places_pieces, element_pieces, elements_pieces, guard_pieces, theory_pieces, literal_pieces, body_pieces, left_pieces, right_pieces, chosen_pieces, chosens_pieces, choice_pieces, head_pieces, arrow_pieces, statement_pieces}
use Rattle.text_laws.proofs.ApartTerms.{MayFollow, IsQuiet, quiet_apart, quiet_follows, comma_quiet, numeral_apart, name_apart, terms_apart, atoms_apart}

-- ---- marks that no byte joins
semicolon_quiet : IsQuiet (word.mark m.Semicolon)
semicolon_quiet = record { token = (refl, refl); alone = λ byte. refl; stops = λ bytes. refl }

open_brace_quiet : IsQuiet (word.mark m.OpenBrace)
open_brace_quiet = record { token = (refl, refl); alone = λ byte. refl; stops = λ bytes. refl }

close_brace_quiet : IsQuiet (word.mark m.CloseBrace)
close_brace_quiet = record { token = (refl, refl); alone = λ byte. refl; stops = λ bytes. refl }

and_quiet : IsQuiet (word.mark m.And)
and_quiet = record { token = (refl, refl); alone = λ byte. refl; stops = λ bytes. refl }

at_quiet : IsQuiet (word.mark m.At)
at_quiet = record { token = (refl, refl); alone = λ byte. refl; stops = λ bytes. refl }

divide_quiet : IsQuiet (word.mark m.Divide)
divide_quiet = record { token = (refl, refl); alone = λ byte. refl; stops = λ bytes. refl }

-- ---- forms, with what stands behind them
-- the pieces of a form are apart before what may follow
abbrev StandsApart : {A : Type 0} → (A → List Piece → List Piece) → (A → Type 0) → Type 0
StandsApart {A} pieces all = (a : A) (rest : List Piece) → all a → MayFollow rest → AreApart (pieces a rest)

-- and they may follow a name or a number
abbrev Follows : {A : Type 0} → (A → List Piece → List Piece) → (A → Type 0) → Type 0
Follows {A} pieces all = (a : A) (rest : List Piece) → all a → MayFollow rest → MayFollow (pieces a rest)

-- a sign, with its blanks, may follow, whatever it is that stands apart behind it
abbrev Leads : {S : Type 0} → (S → List Piece → List Piece) → Type 0
Leads {S} sign = (s : S) (rest : List Piece) → AreApart rest → MayFollow (sign s rest)

module _ {I S : Type 0} (pieces : I → List Piece → List Piece) (sign : S → List Piece → List Piece) (all : I → Type 0) (stands : StandsApart pieces all) (leads : Leads sign) where
  tail_follows : (parts : List (S × I)) (rest : List Piece) → AllByRecursion (λ (p : S × I). all p.1) parts → MayFollow rest → MayFollow (tail_pieces pieces sign parts rest)
  tail_follows [] rest h f = f
  tail_follows (part ∷ parts) rest h f =
      let after : List Piece = tail_pieces pieces sign parts rest in
      leads part.0 (pieces part.1 after) (stands part.1 after h.0 (tail_follows parts rest h.1 f))

  row_stands : StandsApart (row_pieces pieces sign) (AllItems all)
  row_stands row rest h f = stands row.first (tail_pieces pieces sign row.rest rest) h.0 (tail_follows row.rest rest h.1 f)

maybe_stands : {A : Type 0} (pieces : A → List Piece → List Piece) (all : A → Type 0) → StandsApart pieces all → StandsApart (maybe_pieces pieces) (AllMaybe all)
maybe_stands pieces all stands None rest h f = f.1
maybe_stands pieces all stands (Some a) rest h f = stands a rest h f

-- ---- signs
comma_tight_leads : Leads comma_tight
comma_tight_leads sign rest h = quiet_follows (word.mark m.Comma) comma_quiet rest h

comma_loose_leads : Leads comma_loose
comma_loose_leads sign rest h = quiet_follows (word.mark m.Comma) comma_quiet (gap ∷ rest) h

semicolon_tight_leads : Leads semicolon_tight
semicolon_tight_leads sign rest h = quiet_follows (word.mark m.Semicolon) semicolon_quiet rest h

semicolon_loose_leads : Leads semicolon_loose
semicolon_loose_leads sign rest h = quiet_follows (word.mark m.Semicolon) semicolon_quiet (gap ∷ rest) h

separating_leads : Leads separating_pieces
separating_leads by_comma rest h = quiet_follows (word.mark m.Comma) comma_quiet (gap ∷ rest) h
separating_leads by_semicolon rest h = quiet_follows (word.mark m.Semicolon) semicolon_quiet (gap ∷ rest) h

rel_leads : Leads rel_pieces
rel_leads rel.Equal rest h = (refl, ((refl, refl), refl, h))
rel_leads rel.NotEqual rest h = (refl, ((refl, refl), refl, h))
rel_leads rel.Less rest h = (refl, ((refl, refl), refl, h))
rel_leads rel.LessEqual rest h = (refl, ((refl, refl), refl, h))
rel_leads rel.Greater rest h = (refl, ((refl, refl), refl, h))
rel_leads rel.GreaterEqual rest h = (refl, ((refl, refl), refl, h))

maybe_rel_follows : (r : Option Rel) (rest : List Piece) → MayFollow rest → MayFollow (maybe_rel_pieces r rest)
maybe_rel_follows None rest f = f
maybe_rel_follows (Some r) rest f = rel_leads r rest f.1

maybe_rel_apart : (r : Option Rel) (rest : List Piece) → AreApart rest → AreApart (maybe_rel_pieces r rest)
maybe_rel_apart None rest h = h
maybe_rel_apart (Some r) rest h = (rel_leads r rest h).1

-- the dot at the end
dot_follows : MayFollow (solid (word.mark m.Dot) ∷ [])
dot_follows = (refl, ((refl, refl), tt, tt))

module _ (n : ℕ) where
  abbrev Full : Type 0
  Full = FullTerm (Operand n) (Room n)

  abbrev inner : Operand n → List Word → List Word
  inner = operand_words n

  full_stands : StandsApart {A = Full} (full_pieces inner) (AllFull IsToken n)
  full_stands term rest h f = terms_apart rest (suc n) term [] h f

  atom_stands : StandsApart {A = AtomOf (Operand n)} (atom_pieces inner) (AllAtomAt IsToken n)
  atom_stands a rest h f = atoms_apart rest n a [] h f

  condition_stands : StandsApart {A = ConditionOf (Operand n) (Room n)} (condition_pieces inner) (AllCondition IsToken n)
  condition_stands (holds true a) rest h f = atom_stands a rest h f
  condition_stands (holds false a) rest h f = ((refl, refl), refl, atom_stands a rest h f)
  condition_stands (compares left r right) rest h f =
      let after : List Piece = full_pieces inner right rest in
      full_stands left (rel_pieces r after) h.0 (rel_leads r after (full_stands right rest h.1 f))

  colon_follows : Follows {A = Option (Row (ConditionOf (Operand n) (Room n)) (Unit {0}))} (colon_pieces inner) (AllMaybe (AllItems (AllCondition IsToken n)))
  colon_follows conditions rest h f =
      let rows : StandsApart {A = Row (ConditionOf (Operand n) (Room n)) (Unit {0})} (row_pieces (condition_pieces inner) comma_loose) (AllItems (AllCondition IsToken n)) =
      row_stands (condition_pieces inner) comma_loose (AllCondition IsToken n) condition_stands comma_loose_leads in
      (refl, ((refl, refl), refl, maybe_stands (row_pieces (condition_pieces inner) comma_loose) (AllItems (AllCondition IsToken n)) rows conditions rest h f))

  given_follows : Follows {A = GivenOf (Operand n) (Room n)} (given_pieces inner) (AllGiven IsToken n)
  given_follows None rest h f = f
  given_follows (Some conditions) rest h f = colon_follows conditions rest h f

  duration_follows : Follows {A = Option Full} (duration_pieces inner) (AllMaybe (AllFull IsToken n))
  duration_follows None rest h f = f
  duration_follows (Some term) rest h f = quiet_follows (word.mark m.At) at_quiet (full_pieces inner term rest) (full_stands term rest h f)

  places_follow : Follows {A = Option (PlacesOf (Operand n) (Room n))} (places_pieces inner) (AllMaybe (AllItems (AllFull IsToken n)))
  places_follow None rest h f = f
  places_follow (Some row) rest h f =
      quiet_follows (word.mark m.Comma) comma_quiet (row_pieces (full_pieces inner) comma_tight row rest) (row_stands (full_pieces inner) comma_tight (AllFull IsToken n) full_stands comma_tight_leads row rest h f)

  element_stands : StandsApart {A = ElementOf (Operand n) (Room n)} (element_pieces inner) (AllElement IsToken n)
  element_stands e rest h f =
      let last : List Piece = given_pieces inner e.condition rest in
      let third : List Piece = places_pieces inner e.rest last in
      full_stands e.first (duration_pieces inner e.duration third) h.0 (duration_follows e.duration third h.1 (places_follow e.rest last h.2 (given_follows e.condition rest h.3 f)))

  elements_stand : StandsApart {A = Option (Row (ElementOf (Operand n) (Room n)) (Unit {0}))} (elements_pieces inner) (AllMaybe (AllItems (AllElement IsToken n)))
  elements_stand None rest h f = f.1
  elements_stand (Some row) rest h f = row_stands (element_pieces inner) semicolon_tight (AllElement IsToken n) element_stands semicolon_tight_leads row rest h f

  guard_follows : Follows {A = Option (Rel × Full)} (guard_pieces inner) (AllMaybe (λ (g : Rel × Full). AllFull IsToken n g.1))
  guard_follows None rest h f = f
  guard_follows (Some guard) rest h f = rel_leads guard.0 (full_pieces inner guard.1 rest) (full_stands guard.1 rest h f)

  theory_stands : StandsApart {A = TheoryOf (Operand n) (Room n)} (theory_pieces inner) (AllTheory IsToken n)
  theory_stands a rest h f =
      let behind : List Piece = guard_pieces inner a.guard rest in
      let closed : List Piece = solid (word.mark m.CloseBrace) ∷ behind in
      let inside : List Piece = elements_pieces inner a.elements closed in
      let closes : MayFollow closed = quiet_follows (word.mark m.CloseBrace) close_brace_quiet behind (guard_follows a.guard rest h.2 f).1 in
      let opens : MayFollow (solid (word.mark m.OpenBrace) ∷ inside) = quiet_follows (word.mark m.OpenBrace) open_brace_quiet inside (elements_stand a.elements closed h.1 closes) in
      quiet_apart (word.mark m.And) and_quiet (solid (word.name a.name) ∷ solid (word.mark m.OpenBrace) ∷ inside) (name_apart a.name h.0 (solid (word.mark m.OpenBrace) ∷ inside) opens)

  literal_stands : StandsApart {A = LiteralOf (Operand n) (Room n)} (literal_pieces inner) (AllLiteral IsToken n)
  literal_stands (simple c) rest h f = condition_stands c rest h f
  literal_stands (theory true a) rest h f = theory_stands a rest h f
  literal_stands (theory false a) rest h f = ((refl, refl), refl, theory_stands a rest h f)

  body_stands : StandsApart {A = Option (BodyOf (Operand n) (Room n))} (body_pieces inner) (AllBody IsToken n)
  body_stands None rest h f = f.1
  body_stands (Some body) rest h f = row_stands (literal_pieces inner) separating_pieces (AllLiteral IsToken n) literal_stands separating_leads body rest h f

  left_stands : StandsApart {A = Option (Full × Option Rel)} (left_pieces inner) (AllLeft IsToken n)
  left_stands None rest h f = f.1
  left_stands (Some bound) rest h f = full_stands bound.0 (maybe_rel_pieces bound.1 rest) h (maybe_rel_follows bound.1 rest f)

  right_stands : StandsApart {A = Option (Option Rel × Full)} (right_pieces inner) (AllRight IsToken n)
  right_stands None rest h f = f.1
  right_stands (Some bound) rest h f = maybe_rel_apart bound.0 (full_pieces inner bound.1 rest) (full_stands bound.1 rest h f)

  chosen_stands : StandsApart {A = ChosenOf (Operand n) (Room n)} (chosen_pieces inner) (AllChosen IsToken n)
  chosen_stands e rest h f = atom_stands e.atom (given_pieces inner e.condition rest) h.0 (given_follows e.condition rest h.1 f)

  chosens_stand : StandsApart {A = Option (Row (ChosenOf (Operand n) (Room n)) (Unit {0}))} (chosens_pieces inner) (AllMaybe (AllItems (AllChosen IsToken n)))
  chosens_stand None rest h f = f.1
  chosens_stand (Some row) rest h f = row_stands (chosen_pieces inner) semicolon_loose (AllChosen IsToken n) chosen_stands semicolon_loose_leads row rest h f

  choice_stands : StandsApart {A = ChoiceOf (Operand n) (Room n)} (choice_pieces inner) (AllChoice IsToken n)
  choice_stands c rest h f =
      let behind : List Piece = right_pieces inner c.right rest in
      let closed : List Piece = solid (word.mark m.CloseBrace) ∷ behind in
      let inside : List Piece = chosens_pieces inner c.elements closed in
      let closes : MayFollow closed = quiet_follows (word.mark m.CloseBrace) close_brace_quiet behind (right_stands c.right rest h.2 f) in
      let opens : MayFollow (solid (word.mark m.OpenBrace) ∷ inside) = quiet_follows (word.mark m.OpenBrace) open_brace_quiet inside (chosens_stand c.elements closed h.1 closes) in
      left_stands c.left (solid (word.mark m.OpenBrace) ∷ inside) h.0 opens

  head_stands : StandsApart {A = HeadOf (Operand n) (Room n)} (head_pieces inner) (AllHead IsToken n)
  head_stands (atom_head a) rest h f = atom_stands a rest h f
  head_stands (choice_head c) rest h f = choice_stands c rest h f
  head_stands (theory_head a) rest h f = theory_stands a rest h f

  arrow_follows : Follows {A = ArrowOf (Operand n) (Room n)} (arrow_pieces inner) (AllArrow IsToken n)
  arrow_follows no_arrow rest h f = f
  arrow_follows (arrow body) rest h f = (refl, ((refl, refl), refl, body_stands body rest h f))

-- the pieces of a statement whose words are tokens are apart
pub statement_apart : (n : ℕ) (f : StatementAt n) → AllStatement IsToken n f → AreApart (statement_pieces n f [])
statement_apart n (headed head behind) h =
    let last : List Piece = solid (word.mark m.Dot) ∷ [] in
    head_stands n head (arrow_pieces (operand_words n) behind last) h.0 (arrow_follows n behind last h.1 dot_follows)
statement_apart n (constraint body) h = ((refl, refl), refl, body_stands n body (solid (word.mark m.Dot) ∷ []) h dot_follows)
statement_apart n (constant name term) h = (
  (refl, refl),
  refl,
  (h.0, refl, ((refl, refl), refl, full_stands n term (solid (word.mark m.Dot) ∷ []) h.1 dot_follows)),
)
statement_apart n show_nothing h = ((refl, refl), refl, dot_follows.1)
statement_apart n (show name arity) h =
    let last : List Piece = solid (word.numeral arity) ∷ solid (word.mark m.Dot) ∷ [] in
    let slash : MayFollow (solid (word.mark m.Divide) ∷ last) = quiet_follows (word.mark m.Divide) divide_quiet last (numeral_apart arity h.1 (solid (word.mark m.Dot) ∷ []) dot_follows) in
    ((refl, refl), refl, name_apart name h.0 (solid (word.mark m.Divide) ∷ last) slash)
