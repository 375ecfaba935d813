-- The definitions computed on small statements.
use Rattle.std.proofs.Common.{◌≡◌, ℕ, true, Some, None, List, [], ◌∷◌, refl, codes}
use Rattle.symbols.specs.declared.rel.Rel.TheVariants as rel
use Rattle.grammar.specs.declared.mark.Mark.TheVariants as m
use Rattle.grammar.specs.Word as word
use Rattle.grammar.specs.Row.{Row}
use Rattle.grammar.specs.Term.{UnaryAt, TermAt, Adding, Multiplying, minus, alone, interval, plain, number, variable, atom}
use Rattle.grammar.specs.Statement.{StatementAt, theory, headed, constant, atom_head, theory_head, no_arrow, arrow, words_of_statement}
use Rattle.grammar.specs.declared.check.Check.TheVariants.{UnknownTheory, WrongPlace, BadGuard, BadTerm}
use Rattle.grammar.specs.Check.{failing, fails}

abbrev one : UnaryAt 1 → Row (Row (UnaryAt 1) Multiplying) Adding
one u = record { first = record { first = u; rest = [] }; rest = [] }

abbrev term : UnaryAt 1 → TermAt 1
term u = alone (one u)

abbrev name : List ℕ → UnaryAt 1
name bytes = atom (plain bytes)

abbrev difference : UnaryAt 1 → UnaryAt 1 → TermAt 1
difference u v = alone (record { first = record { first = u; rest = [] }; rest = (minus, record { first = v; rest = [] }) ∷ [] })

-- a :- &dom{1..2}=x.
abbrev dom_in_a_body : StatementAt 1
dom_in_a_body =
    headed (atom_head (plain (codes "a"))) (arrow (Some (record {
      first = theory true (record {
        name = codes "dom";
        elements = Some (record { first = record { first = interval (one (number 1)) (one (number 2)); duration = None; rest = None; condition = None }; rest = [] });
        guard = Some (rel.Equal, term (name (codes "x")));
      });
      rest = [];
    })))

dom_words : words_of_statement 1 dom_in_a_body []
    ≡ word.name (codes "a") ∷ word.mark m.Arrow ∷ word.mark m.And ∷ word.name (codes "dom") ∷ word.mark m.OpenBrace ∷ word.numeral 1 ∷ word.mark m.Dots ∷ word.numeral 2 ∷ word.mark m.CloseBrace ∷ word.mark m.Equal
    ∷ word.name (codes "x") ∷ word.mark m.Dot ∷ []
dom_words = refl

dom_fails : failing 1 dom_in_a_body 0 ≡ fails WrongPlace 2
dom_fails = refl

-- &sim{x}<=1.
sim_fails : failing 1 (headed (theory_head (record {
  name = codes "sim";
  elements = Some (record { first = record { first = term (name (codes "x")); duration = None; rest = None; condition = None }; rest = [] });
  guard = Some (rel.LessEqual, term (number 1));
})) no_arrow) 0 ≡ fails UnknownTheory 1
sim_fails = refl

-- &diff{x-y}<=3.
diff_holds : failing 1 (headed (theory_head (record {
  name = codes "diff";
  elements = Some (record { first = record { first = difference (name (codes "x")) (name (codes "y")); duration = None; rest = None; condition = None }; rest = [] });
  guard = Some (rel.LessEqual, term (number 3));
})) no_arrow) 0 ≡ []
diff_holds = refl

-- &diff{x}.
diff_fails : failing 1 (headed (theory_head (record {
  name = codes "diff";
  elements = Some (record { first = record { first = term (name (codes "x")); duration = None; rest = None; condition = None }; rest = [] });
  guard = None;
})) no_arrow) 0 ≡ record { check = BadTerm; at = 3 } ∷ record { check = BadGuard; at = 5 } ∷ []
diff_fails = refl

-- #const n=X.
const_fails : failing 1 (constant (codes "n") (term (variable (codes "X")))) 0 ≡ fails BadTerm 3
const_fails = refl
