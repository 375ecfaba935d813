-- The line of what a program is refused for is one.
use Rattle.std.proofs.Common.{◌≡◌, ℕ, List, ◌++◌, codes, Some, slice_get, sym, ap, ◌∙◌, subst}
use Rattle.syntax_tree.specs.declared.rule.Rule.{Rule}
use Rattle.syntax_tree.specs.declared.statement.Program.{Program}
use Rattle.rewriting.specs.Order.{order_of}
use Rattle.program_meaning.specs.Variables.{globals}
use Rattle.program_meaning.specs.Substitution.{Key}
use Rattle.program_meaning.specs.Predicates.{predicate}
use Rattle.program_meaning.specs.Outside.{Cause}
use Rattle.safety_meaning.specs.Program.{written_rules, rule_of}
use Rattle.safety_meaning.specs.Failures.{Failure, UnsafeVariable, NoDomainAtom, RecursiveRule, condition_atoms}
use Rattle.load_meaning.specs.Grounding.{Grounded, OverLimit, OutsideAt, TooManyVariables, ObjectiveTooLarge, Canonical}
use Rattle.load_meaning.specs.Lines.{rule_files, StandsIn, line_in, place_at, variable_place, name_of, no_domain_text, IsFailureText, IsFailureLine, outside_text, bindings_text, at_text, IsOutsideLine, IsNumberLine}
use Rattle.inputs.proofs.OneConstants.{one_some}

-- a rule stands at one place
record IsOneSite (rule other : Rule) (name more : List ℕ) (text behind : List ℕ) : Type 0 where
  rules : rule ≡ other
  names : name ≡ more
  texts : text ≡ behind

one_site : (names texts : List (List ℕ)) (program : Program) (place : ℕ) (rule other : Rule) (name more text behind : List ℕ)
    → StandsIn names texts program place rule name text → StandsIn names texts program place other more behind → IsOneSite rule other name more text behind
one_site names texts program place rule other name more text behind a c =
    let files : a.file ≡ c.file = one_some (slice_get (rule_files program.statements program.files) place) a.file c.file a.in_file c.in_file in
    record {
      rules = one_some (slice_get (written_rules program.statements) place) rule other a.here c.here;
      names = one_some (slice_get names c.file) name more (subst (λ f. slice_get names f ≡ Some name) files a.named) c.named;
      texts = one_some (slice_get texts c.file) text behind (subst (λ f. slice_get texts f ≡ Some text) files a.bytes) c.bytes;
    }

-- what is said of a failure is one
one_failure_text : (rule : Rule) (failure : Failure) (at to : ℕ) (why reason : List ℕ) → IsFailureText rule failure at why → IsFailureText rule failure to reason
    → (at ≡ to) × (why ≡ reason)
one_failure_text rule (UnsafeVariable place) at to why reason a c =
    let n = one_some (slice_get (order_of rule) place) a.0 c.0 a.1 c.1 in
    (a.2 ∙ ap (variable_place rule) n ∙ sym c.2, a.3 ∙ ap (λ m. codes "unsafe variable " ++ name_of rule m) n ∙ sym c.3)
one_failure_text rule (NoDomainAtom place) at to why reason a c =
    let term = one_some (slice_get (condition_atoms (rule_of rule)) place) a.0 c.0 a.2 c.2 in
    let p = one_some (predicate c.0) a.1 c.1 (ap predicate (sym term) ∙ a.3) c.3 in
    (a.4 ∙ sym c.4, a.5 ∙ ap no_domain_text p ∙ sym c.5)
one_failure_text rule RecursiveRule at to why reason a c = (a.0 ∙ sym c.0, a.1 ∙ sym c.1)

pub one_failure_line : (names texts : List (List ℕ)) (program : Program) (place : ℕ) (failure : Failure) (line other : List ℕ)
    → IsFailureLine names texts program place failure line → IsFailureLine names texts program place failure other → line ≡ other
one_failure_line names texts program place failure line other a c =
    let site = one_site names texts program place a.rule c.rule a.name c.name a.text c.text a.stands c.stands in
    let text = one_failure_text c.rule failure a.at c.at a.why c.why (subst (λ r. IsFailureText r failure a.at a.why) site.rules a.says) c.says in
    a.line ∙ (λ i. line_in (site.names i) (site.texts i) (text.0 i) (text.1 i)) ∙ sym c.line

one_outside_line : (names texts : List (List ℕ)) (program : Program) (key : Key) (cause : Cause) (line other : List ℕ)
    → IsOutsideLine names texts program key cause line → IsOutsideLine names texts program key cause other → line ≡ other
one_outside_line names texts program key cause line other a c =
    let site = one_site names texts program key.place a.rule c.rule a.name c.name a.text c.text a.stands c.stands in
    a.line
    ∙ (λ i. line_in (site.names i) (site.texts i) (place_at (site.rules i) 0)
    (outside_text cause ++ at_text (bindings_text (site.rules i) (globals (rule_of (site.rules i))) key.values)))
    ∙ sym c.line

pub one_number_line : (names texts : List (List ℕ)) (program : Program) (grounded : Grounded) (line other : List ℕ)
    → IsNumberLine names texts program grounded line → IsNumberLine names texts program grounded other → line ≡ other
one_number_line names texts program OverLimit line other a c = absurd a
one_number_line names texts program (OutsideAt key cause) line other a c = one_outside_line names texts program key cause line other a c
one_number_line names texts program TooManyVariables line other a c = a ∙ sym c
one_number_line names texts program ObjectiveTooLarge line other a c = a ∙ sym c
one_number_line names texts program (Canonical view) line other a c = absurd a
