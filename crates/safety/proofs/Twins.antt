-- Rules with the same heads and bodies have the same domain predicates and the same dependence.
use Rattle.std.proofs.Common.{◌≡◌, ◌⊎◌, inl, inr, ℕ, zero, suc, true, false, List, [], ◌∷◌, ◌++◌, map, refl, sym, ap, ◌∙◌, subst}
use Rattle.std.specs.List.{AllZip}
use Rattle.syntax_tree.specs.declared.rule.Rule.{Rule}
use Rattle.syntax_tree.specs.declared.statement.Statement.{Statement}
use Rattle.syntax_tree.specs.declared.statement.Statement.TheVariants as statement
use Rattle.ground_model.specs.Members.{IsMember}
use Rattle.rewriting.specs.Rewritten.{rewritten_statement}
use Rattle.program_meaning.specs.Read.{PlainAtom, PlainCompare, ReadLiteral, ReadPlain, ReadTold, ReadHead, ReadRule}
use Rattle.program_meaning.specs.Predicates.{Predicate, ChoiceIsOf, HeadIsOf, IsBlocking, BlockedAt, GivesStep, HasStep, DependsIn, IsRecursive}
use Rattle.predicate_order.specs.Ways.{bare_rule, bare_rules}
use Rattle.safety_meaning.specs.Program.{rule_in, rule_of, written_rules, rules_of}
use Rattle.safety.specs.inner.Rules.{IsTwin}

abbrev pub HaveTwins : List ReadRule → List ReadRule → Type 0
HaveTwins a b = (r : ReadRule) → IsMember a r → (s : ReadRule) × IsMember b s × IsTwin r s

pub twins_left : (a b : List ReadRule) → AllZip IsTwin a b → HaveTwins a b
twins_left [] [] h r m = absurd m
twins_left [] (y ∷ ys) h r m = absurd h
twins_left (x ∷ xs) [] h r m = absurd h
twins_left (x ∷ xs) (y ∷ ys) h r (inl e) = (y, inl refl, subst (λ v. IsTwin v y) (sym e) h.0)
twins_left (x ∷ xs) (y ∷ ys) h r (inr m) = let t = twins_left xs ys h.1 r m in (t.0, inr t.1, t.2)

pub twins_right : (a b : List ReadRule) → AllZip IsTwin a b → HaveTwins b a
twins_right [] [] h r m = absurd m
twins_right [] (y ∷ ys) h r m = absurd h
twins_right (x ∷ xs) [] h r m = absurd h
twins_right (x ∷ xs) (y ∷ ys) h r (inl e) = (x, inl refl, record { head = ap (λ (v : ReadRule). v.head) e ∙ sym h.0.head; body = ap (λ (v : ReadRule). v.body) e ∙ sym h.0.body })
twins_right (x ∷ xs) (y ∷ ys) h r (inr m) = let t = twins_right xs ys h.1 r m in (t.0, inr t.1, t.2)

abbrev Blocks : (Predicate → Type 0) → ReadHead → List ReadLiteral → Predicate → Type 0
Blocks P head body p = ChoiceIsOf head p ⊎ (HeadIsOf head p × ((literal : ReadLiteral) × IsMember body literal × IsBlocking P literal))

blocking_over : (P Q : Predicate → Type 0) → ((p : Predicate) → P p → Q p) → (literal : ReadLiteral) → IsBlocking P literal → IsBlocking Q literal
blocking_over P Q f (ReadTold theory sign) b = tt
blocking_over P Q f (ReadPlain (PlainAtom term false)) b = tt
blocking_over P Q f (ReadPlain (PlainAtom term true)) b = (b.0, b.1, f b.0 b.2)
blocking_over P Q f (ReadPlain (PlainCompare left rel right)) b = absurd b

pub blocked_over : (a b : List ReadRule) → HaveTwins a b → (rank : ℕ) (p : Predicate) → BlockedAt a rank p → BlockedAt b rank p
blocked_over a b t zero p h = absurd h
blocked_over a b t (suc rank) p h =
    let s = t h.0 h.1 in
    let more : Blocks (BlockedAt b rank) h.0.head h.0.body p = elim h.2 [
      | inl k ↦ inl k
      | inr k ↦ inr (k.0, (k.1.0, k.1.1, blocking_over (BlockedAt a rank) (BlockedAt b rank) (blocked_over a b t rank) k.1.0 k.1.2))
    ] in
    (s.0, s.1, subst (λ v. Blocks (BlockedAt b rank) v s.0.body p) s.2.head (subst (λ v. Blocks (BlockedAt b rank) h.0.head v p) s.2.body more))

abbrev Gives : ReadHead → List ReadLiteral → Predicate → Predicate → Type 0
Gives head body p q = GivesStep (record { head = head; body = body; order = [] }) p q

pub gives_over : (r s : ReadRule) → IsTwin r s → (p q : Predicate) → GivesStep r p q → GivesStep s p q
gives_over r s t p q h = subst (λ v. Gives v s.body p q) t.head (subst (λ v. Gives r.head v p q) t.body h)

step_over : (a b : List ReadRule) → HaveTwins a b → (p q : Predicate) → HasStep a p q → HasStep b p q
step_over a b t p q h = let s = t h.0 h.1 in (s.0, s.1, gives_over h.0 s.0 s.2 p q h.2)

depends_over : (a b : List ReadRule) → HaveTwins a b → (more : ℕ) (p q : Predicate) → DependsIn a more p q → DependsIn b more p q
depends_over a b t zero p q h = step_over a b t p q h
depends_over a b t (suc more) p q h = (h.0, step_over a b t p h.0 h.1, depends_over a b t more h.0 q h.2)

pub recursive_over : (a b : List ReadRule) → HaveTwins a b → (r s : ReadRule) → IsTwin r s → IsRecursive a r → IsRecursive b s
recursive_over a b t r s twin h = (
  h.0,
  h.1,
  gives_over r s twin h.0 h.1 h.2,
  (elim h.3 [ inl e ↦ inl e | inr d ↦ inr (d.0, depends_over a b t d.0 h.1 h.0 d.1) ]),
)

-- the rules of a text, rewritten, are those of the rewritten text
zip_append : (a b c d : List ReadRule) → AllZip IsTwin a b → AllZip IsTwin c d → AllZip IsTwin (a ++ c) (b ++ d)
zip_append [] [] c d h k = k
zip_append [] (y ∷ ys) c d h k = absurd h
zip_append (x ∷ xs) [] c d h k = absurd h
zip_append (x ∷ xs) (y ∷ ys) c d h k = (h.0, zip_append xs ys c d h.1 k)

rules_map : (xs ys : List Rule) → map rule_of (xs ++ ys) ≡ map rule_of xs ++ map rule_of ys
rules_map [] ys = refl
rules_map (x ∷ xs) ys = ap (λ v. rule_of x ∷ v) (rules_map xs ys)

one_twin : (one : Statement) → AllZip IsTwin (bare_rule (rewritten_statement one)) (map rule_of (rule_in one))
one_twin (statement.Rule rule) = (record { head = refl; body = refl }, tt)
one_twin (statement.Constant name term place) = tt
one_twin statement.ShowNothing = tt
one_twin (statement.Show name arity) = tt

pub text_twins : (all : List Statement) → AllZip IsTwin (bare_rules (map rewritten_statement all)) (rules_of all)
text_twins [] = tt
text_twins (one ∷ all) =
    subst (λ v. AllZip IsTwin (bare_rules (map rewritten_statement (one ∷ all))) v) (sym (rules_map (rule_in one) (written_rules all)))
    (zip_append (bare_rule (rewritten_statement one)) (map rule_of (rule_in one)) (bare_rules (map rewritten_statement all)) (rules_of all) (one_twin one) (text_twins all))
