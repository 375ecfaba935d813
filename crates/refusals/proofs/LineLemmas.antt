-- The lines of refusals.
use Rattle.std.proofs.Common.{◌≡◌, ℕ, ◌+◌, List, [], ◌++◌, length, take, min, Some, slice_get, IfOk, codes, refl, ap, ◌∙◌, subst}
use Rattle.std.specs.List.{count_by, suffix_len}
use Rattle.std.specs.declared.result.Result.{Result}
use Rattle.std.specs.declared.result.Result.TheVariants.{Ok, Err}
use Rattle.std.proofs.lemmas.List.{take_min}
use Rattle.lexer.specs.Bytes.{is_line_feed}
use Rattle.lexer.specs.Places.{is_in_line, line_of, column_of}
use Rattle.syntax_tree.specs.declared.rule.Rule.{Rule}
use Rattle.syntax_tree.specs.declared.term.Term.{Term}
use Rattle.syntax_tree.specs.declared.statement.Program.{Program}
use Rattle.rewriting.specs.declared.program.RewrittenProgram.{RewrittenProgram}
use Rattle.program_meaning.specs.Read.{rule_read}
use Rattle.program_meaning.specs.Predicates.{Predicate, predicate}
use Rattle.program_meaning.specs.Substitution.{Value}
use Rattle.program_meaning.specs.Outside.{Cause}
use Rattle.program_meaning.specs.Variables.{globals}
use Rattle.safety_meaning.specs.Program.{written_rules, rule_of}
use Rattle.safety_meaning.specs.Failures.{condition_atoms, IsFirstFailure}
use Rattle.safety.specs.declared.failure.Failure.TheVariants.{UnsafeVariable, NoDomainAtom, RecursiveRule}
use Rattle.safety.specs.declared.failure.FirstFailure.{FirstFailure}
use Rattle.safety.specs.Judgement.{said}
use Rattle.inputs.specs.Texts.{line_at}
use Rattle.inputs.proofs.OneProgram.{one_program}
use Rattle.load_meaning.specs.Lines.{line_in, name_of, no_domain_text, place_at, variable_place, condition_place, in_conditions, outside_text, at_text, bindings_text, IsFailureLine, IsOutsideLine}
use Rattle.refusals.specs.declared.site.Site.{Site}
use Rattle.refusals.specs.Sites.{AreRewritten, HasRule, IsFailure}
use Rattle.refusals.specs.inner.Places.{variable_place_in, condition_place_in}
use Rattle.refusals.specs.inner.Rows.{IsSiteOf, IsLineOf}

-- a place behind the text is its end
pub line_from : {E : Type 0} (r : Result (List ℕ) E) (name text why : List ℕ) (place at line column : ℕ) → at ≡ min place (length text)
    → line ≡ line_of text at → column ≡ column_of text at → IfOk r (λ printed. printed ≡ line_at name line column why)
    → IfOk r (λ printed. printed ≡ line_in name text place why)
line_from (Err e) name text why place at line column is lines columns has = tt
line_from (Ok printed) name text why place at line column is lines columns has =
    let same : take at text ≡ take place text = ap (λ k. take k text) is ∙ take_min place text in
    let l : line ≡ line_of text place = lines ∙ ap (λ t. count_by is_line_feed t + 1) same in
    let c : column ≡ column_of text place = columns ∙ ap (λ t. suffix_len is_in_line t + 1) same in
    has ∙ (λ i. line_at name (l i) (c i) why)

ok_each : {X E : Type 0} (r : Result X E) (P Q : X → Type 0) → ((x : X) → P x → Q x) → IfOk r P → IfOk r Q
ok_each (Ok x) P Q each h = each x h
ok_each (Err e) P Q each h = tt

-- ---- rules that are not fine
abbrev IsUnsafeLine : Site → ℕ → List ℕ → Type 0
IsUnsafeLine site place printed =
    (n : ℕ) → slice_get site.order.now place ≡ Some n
    → printed ≡ line_in site.name.now site.text.now (variable_place_in site.rule.now site.sights.now n) (codes "unsafe variable " ++ name_of site.rule.now n)

abbrev IsNoDomainLine : Site → ℕ → List ℕ → Type 0
IsNoDomainLine site place printed =
    (term : Term) (p : Predicate) → slice_get (condition_atoms (rule_read site.rule.now [])) place ≡ Some term → predicate term ≡ Some p
    → printed ≡ line_in site.name.now site.text.now (condition_place_in site.rule.now site.sights.now (in_conditions (rule_read site.rule.now [])) place) (no_domain_text p)

abbrev IsRecursiveLine : Site → List ℕ → Type 0
IsRecursiveLine site printed = printed ≡ line_in site.name.now site.text.now (place_at site.rule.now 0) (codes "recursive rule with a variable")

pub unsafe_said : {E : Type 0} (r : Result (List ℕ) E) (site : Site) (place : ℕ) → IfOk r (IsUnsafeLine site place) → IfOk r (IsLineOf site (UnsafeVariable place))
unsafe_said r site place = ok_each r (IsUnsafeLine site place) (IsLineOf site (UnsafeVariable place)) (λ printed each names texts program at rule rules is fails. record {
  rule = rule;
  name = site.name.now;
  text = site.text.now;
  stands = is.stands;
  at = variable_place rule fails.n;
  why = codes "unsafe variable " ++ name_of rule fails.n;
  says = (fails.n, fails.here, refl, refl);
  line = each fails.n (ap (λ l. slice_get l place) is.order ∙ fails.here)
      ∙ (λ i. line_in site.name.now site.text.now (variable_place_in (is.read i) (is.sights i) fails.n) (codes "unsafe variable " ++ name_of (is.read i) fails.n));
})

pub no_domain_said : {E : Type 0} (r : Result (List ℕ) E) (site : Site) (place : ℕ) → IfOk r (IsNoDomainLine site place) → IfOk r (IsLineOf site (NoDomainAtom place))
no_domain_said r site place = ok_each r (IsNoDomainLine site place) (IsLineOf site (NoDomainAtom place)) (λ printed each names texts program at rule rules is fails. record {
  rule = rule;
  name = site.name.now;
  text = site.text.now;
  stands = is.stands;
  at = condition_place rule place;
  why = no_domain_text fails.1.p;
  says = (fails.1.term, fails.1.p, fails.1.here, fails.1.is, refl, refl);
  line = each fails.1.term fails.1.p (ap (λ (w : Rule). slice_get (condition_atoms (rule_read w [])) place) is.read ∙ fails.1.here) fails.1.is
      ∙ (λ i. line_in site.name.now site.text.now (condition_place_in (is.read i) (is.sights i) (in_conditions (rule_read (is.read i) [])) place) (no_domain_text fails.1.p));
})

pub recursive_said : {E : Type 0} (r : Result (List ℕ) E) (site : Site) → IfOk r (IsRecursiveLine site) → IfOk r (IsLineOf site RecursiveRule)
recursive_said r site = ok_each r (IsRecursiveLine site) (IsLineOf site RecursiveRule) (λ printed is_line names texts program at rule rules is fails. record {
  rule = rule;
  name = site.name.now;
  text = site.text.now;
  stands = is.stands;
  at = place_at rule 0;
  why = codes "recursive rule with a variable";
  says = (refl, refl);
  line = is_line ∙ (λ i. line_in site.name.now site.text.now (place_at (is.read i) 0) (codes "recursive rule with a variable"));
})

pub has_failing : (texts : List (List ℕ)) (program : RewrittenProgram) (found : FirstFailure) → IsFailure texts program found → HasRule texts program found.rule
has_failing texts program found first = record { old = first.0; are = first.1; rule = first.2.rule; here = first.2.here }

pub failure_said : {E : Type 0} (r : Result (List ℕ) E) (names texts : List (List ℕ)) (program : RewrittenProgram) (found : FirstFailure) (site : Site)
    → IsFailure texts program found
    → ((old : Program) (rule : Rule) → AreRewritten texts program old → slice_get (written_rules old.statements) found.rule ≡ Some rule → IsSiteOf names texts old found.rule rule site)
    → IfOk r (IsLineOf site found.failure)
    → IfOk r (λ printed. (old : Program) → AreRewritten texts program old → IsFailureLine names texts old found.rule (said found.failure) printed)
failure_said r names texts program found site first site_is =
    ok_each r (IsLineOf site found.failure) (λ printed. (old : Program) → AreRewritten texts program old → IsFailureLine names texts old found.rule (said found.failure) printed)
    (λ printed is_line old are.
    let same = one_program texts first.0 old first.1.has are.has in
    let fails = subst (λ (p : Program). IsFirstFailure p.statements found.rule (said found.failure)) same first.2 in
    is_line names texts old found.rule fails.rule _ (site_is old fails.rule are fails.here) fails.fails)

-- ---- instances that are outside
abbrev IsBoundLine : Site → List ℕ → List ℕ → List Value → List ℕ → Type 0
IsBoundLine site why variables values printed =
    printed ≡ line_in site.name.now site.text.now (place_at site.rule.now 0) (why ++ at_text (bindings_text site.rule.now variables values))

pub outside_said : {E : Type 0} (r : Result (List ℕ) E) (names texts : List (List ℕ)) (program : RewrittenProgram) (place : ℕ) (why variables : List ℕ) (values : List Value) (site : Site)
    → ((old : Program) (rule : Rule) → AreRewritten texts program old → slice_get (written_rules old.statements) place ≡ Some rule → IsSiteOf names texts old place rule site)
    → IfOk r (IsBoundLine site why variables values)
    → IfOk r (λ printed. (old : Program) (rule : Rule) (cause : Cause) → AreRewritten texts program old → slice_get (written_rules old.statements) place ≡ Some rule
    → variables ≡ globals (rule_of rule) → why ≡ outside_text cause → IsOutsideLine names texts old (record { place = place; values = values }) cause printed)
outside_said r names texts program place why variables values site site_is =
    ok_each r (IsBoundLine site why variables values)
    (λ printed. (old : Program) (rule : Rule) (cause : Cause) → AreRewritten texts program old → slice_get (written_rules old.statements) place ≡ Some rule
    → variables ≡ globals (rule_of rule) → why ≡ outside_text cause → IsOutsideLine names texts old (record { place = place; values = values }) cause printed)
    (λ printed is_line old rule cause are here of_rule said_so.
    let is = site_is old rule are here in
    record {
      rule = rule;
      name = site.name.now;
      text = site.text.now;
      stands = is.stands;
      line = is_line ∙ (λ i. line_in site.name.now site.text.now (place_at (is.read i) 0) (said_so i ++ at_text (bindings_text (is.read i) (of_rule i) values)));
    })
