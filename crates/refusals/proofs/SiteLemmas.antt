-- Rules among statements, and what stands beside them.
use Rattle.std.proofs.Common.{◌≡◌, ℕ, zero, suc, ◌+◌, ◌<◌, List, [], ◌∷◌, map, length, Option, Some, slice_get, refl, sym, ap, ◌∙◌, subst, length-append, arith}
use Rattle.std.specs.Prelude.{replicate}
use Rattle.std.proofs.lemmas.List.{length-replicate}
use Rattle.std.proofs.lemmas.Option.{slice_get_within}
use Rattle.syntax_tree.specs.declared.rule.Rule.{Rule}
use Rattle.syntax_tree.specs.declared.statement.Statement.{Statement}
use Rattle.syntax_tree.specs.declared.statement.Statement.TheVariants as statement
use Rattle.syntax_tree.specs.declared.statement.Program.{Program}
use Rattle.rewriting.specs.declared.program.RewrittenProgram.{RewrittenProgram}
use Rattle.rewriting.specs.Rewritten.{rewritten, rewritten_statement}
use Rattle.rewriting.specs.Order.{order_of, order_of_statement, sights_of, sights_of_statement}
use Rattle.safety_meaning.specs.Program.{written_rules}
use Rattle.inputs.specs.Texts.{joined, numbers_from, IsProgram}
use Rattle.inputs.proofs.StatementLemmas.{length-statements, numbers-below}
use Rattle.load_meaning.specs.Lines.{before_true, rule_files}
use Rattle.refusals.specs.declared.site.Site.{Site}
use Rattle.refusals.specs.Sites.{AreRewritten}
use Rattle.refusals.specs.inner.Rows.{is_rule, IsRow, IsSiteAt, IsSiteOf}

-- ---- rules among statements
pub rule_place : (statements : List Statement) (place : ℕ) (rule : Rule) → slice_get (written_rules statements) place ≡ Some rule
    → slice_get statements (before_true place (map is_rule statements)) ≡ Some (statement.Rule rule)
rule_place [] place rule here = absurd cc
rule_place (statement.Rule first ∷ rest) zero rule here = let same : first ≡ rule = cc in ap (λ r. Some (statement.Rule r)) same
rule_place (statement.Rule first ∷ rest) (suc place) rule here = rule_place rest place rule here
rule_place (statement.Constant name term at ∷ rest) place rule here = rule_place rest place rule here
rule_place (statement.ShowNothing ∷ rest) place rule here = rule_place rest place rule here
rule_place (statement.Show name arity ∷ rest) place rule here = rule_place rest place rule here

pub rule_file : (statements : List Statement) (files : List ℕ) (place : ℕ) (rule : Rule) → length files ≡ length statements
    → slice_get (written_rules statements) place ≡ Some rule
    → slice_get (rule_files statements files) place ≡ slice_get files (before_true place (map is_rule statements))
rule_file [] files place rule same here = absurd cc
rule_file (next ∷ rest) [] place rule same here = absurd (omega (arith, same))
rule_file (statement.Rule first ∷ rest) (file ∷ files) zero rule same here = refl
rule_file (statement.Rule first ∷ rest) (file ∷ files) (suc place) rule same here = rule_file rest files place rule (omega (arith, same)) here
rule_file (statement.Constant name term at ∷ rest) (file ∷ files) place rule same here = rule_file rest files place rule (omega (arith, same)) here
rule_file (statement.ShowNothing ∷ rest) (file ∷ files) place rule same here = rule_file rest files place rule (omega (arith, same)) here
rule_file (statement.Show name arity ∷ rest) (file ∷ files) place rule same here = rule_file rest files place rule (omega (arith, same)) here

same_kind : (next : Statement) → is_rule (rewritten_statement next) ≡ is_rule next
same_kind (statement.Rule rule) = refl
same_kind (statement.Constant name term at) = refl
same_kind statement.ShowNothing = refl
same_kind (statement.Show name arity) = refl

same_rules : (statements : List Statement) → map is_rule (map rewritten_statement statements) ≡ map is_rule statements
same_rules [] = refl
same_rules (next ∷ rest) = (λ i. same_kind next i ∷ same_rules rest i)

-- ---- the texts of statements
written_files : (n : ℕ) (parsed : List (List Statement)) → length (numbers_from n parsed) ≡ length (joined parsed)
written_files n [] = refl
written_files n (one ∷ parsed) =
    length-append (replicate (length one) n) (numbers_from (n + 1) parsed)
    ∙ (λ i. length-replicate (length one) n i + written_files (n + 1) parsed i)
    ∙ sym (length-append one (joined parsed))

length_mapped : {X Y : Type 0} (f : X → Y) (xs : List X) → length (map f xs) ≡ length xs
length_mapped f [] = refl
length_mapped f (x ∷ xs) = ap suc (length_mapped f xs)

-- each statement of the texts has the number of its text
program_files : (texts : List (List ℕ)) (program : Program) → IsProgram texts program → length program.files ≡ length program.statements
program_files texts program has =
    ap length has.replaced.files ∙ ap length has.has.files ∙ written_files 0 has.has.parsed ∙ sym (ap length has.has.statements)
    ∙ sym (ap length has.replaced.statements ∙ length_mapped _ has.written.statements)

-- that is the number of one of the texts
file_below : (texts : List (List ℕ)) (program : Program) (at file : ℕ) → IsProgram texts program → slice_get program.files at ≡ Some file → file < length texts
file_below texts program at file has here =
    let below : file < 0 + length has.has.parsed =
    numbers-below 0 has.has.parsed at file (ap (λ l. slice_get l at) (sym (has.replaced.files ∙ has.has.files)) ∙ here) in
    let same : length texts ≡ length has.has.parsed = length-statements texts has.has.parsed has.has.are in
    omega (arith, below, same)

-- ---- what stands at a place of a mapped list
got : {X Y : Type 0} (f : X → Y) (xs : List X) (at : ℕ) (x : X) → slice_get xs at ≡ Some x → slice_get (map f xs) at ≡ Some (f x)
got f [] at x here = absurd cc
got f (y ∷ ys) zero x here = let same : y ≡ x = cc in ap (λ v. Some (f v)) same
got f (y ∷ ys) (suc at) x here = got f ys at x here

mapped_got : {X Y : Type 0} (f : X → Y) (xs : List X) (ys : List Y) (at : ℕ) (x : X) → ys ≡ map f xs → slice_get xs at ≡ Some x → slice_get ys at ≡ Some (f x)
mapped_got f xs ys at x are here = ap (λ l. slice_get l at) are ∙ got f xs at x here

one_rule : (rule other : Rule) (next : Statement) → next ≡ statement.Rule other → Some (statement.Rule rule) ≡ Some next → rule ≡ other
one_rule rule other next is same = cc

one_list : {X : Type 0} (found : Option (List X)) (xs ys : List X) → found ≡ Some xs → found ≡ Some ys → xs ≡ ys
one_list found xs ys first second = let same : Some xs ≡ Some ys = sym first ∙ second in cc

module _ (texts : List (List ℕ)) (program : RewrittenProgram) (old : Program) (are : AreRewritten texts program old)
    (place : ℕ) (rule : Rule) (here : slice_get (written_rules old.statements) place ≡ Some rule)
    (at : ℕ) (is : at ≡ before_true place (map is_rule program.program.statements)) where
  place_is : at ≡ before_true place (map is_rule old.statements)
  place_is = is ∙ ap (λ (l : List Statement). before_true place (map is_rule l)) are.rewriting.statements ∙ ap (before_true place) (same_rules old.statements)

  written : slice_get old.statements at ≡ Some (statement.Rule rule)
  written = ap (slice_get old.statements) place_is ∙ rule_place old.statements place rule here

  changed : slice_get program.program.statements at ≡ Some (statement.Rule (rewritten rule))
  changed = mapped_got rewritten_statement old.statements program.program.statements at (statement.Rule rule) are.rewriting.statements written

  ordered : slice_get program.orders at ≡ Some (order_of rule)
  ordered = mapped_got order_of_statement old.statements program.orders at (statement.Rule rule) are.rewriting.orders written

  seen : slice_get program.sights at ≡ Some (sights_of rule)
  seen = mapped_got sights_of_statement old.statements program.sights at (statement.Rule rule) are.rewriting.sights written

  pub row_of : IsRow (length texts) program at
  row_of =
      let inside : at < length old.statements = slice_get_within old.statements at (statement.Rule rule) written in
      record {
        rule = rewritten rule;
        here = changed;
        orders = slice_get_within program.orders at (order_of rule) ordered;
        sights = slice_get_within program.sights at (sights_of rule) seen;
        files = subst (λ n. at < n) (sym (ap length are.rewriting.files ∙ program_files texts old are.has)) inside;
        below = λ file e. file_below texts old at file are.has (ap (λ l. slice_get l at) (sym are.rewriting.files) ∙ e);
      }

  pub site_of : (names : List (List ℕ)) (site : Site) → IsSiteAt names texts program at site → IsSiteOf names texts old place rule site
  site_of names site s = record {
    stands = record {
      here = here;
      file = s.file;
      in_file = rule_file old.statements old.files place rule (program_files texts old are.has) here ∙ ap (slice_get old.files) (sym place_is)
          ∙ ap (λ l. slice_get l at) (sym are.rewriting.files) ∙ s.in_file;
      named = s.named;
      bytes = s.bytes;
    };
    read = one_rule site.rule.now (rewritten rule) (statement.Rule (rewritten rule)) refl (sym s.rule ∙ changed);
    order = one_list (slice_get program.orders at) site.order.now (order_of rule) s.order ordered;
    sights = one_list (slice_get program.sights at) site.sights.now (sights_of rule) s.sights seen;
  }
