-- Answers that come behind those before them.
use Rattle.std.proofs.Common.{◌≡◌, ℕ, ◌+◌, ◌<◌, Bool, List, [], ◌∷◌, ◌++◌, map, take, length, slice_index_or, sym, ap, ◌∙◌, subst, append_assoc, append-nil}
use Rattle.std.specs.List.{AllZip, flat_map}
use Rattle.syntax_tree.specs.declared.term.Term.{Term}
use Rattle.syntax_tree.specs.declared.literal.Literal.{Literal}
use Rattle.syntax_tree.specs.declared.rule.Rule.{Rule}
use Rattle.program_meaning.specs.Read.{literal_read, head_read, rule_read}
use Rattle.program_meaning.specs.Tuples.{told_in, duty_in}
use Rattle.predicate_order.specs.declared.predicate.Predicate.{Predicate}
use Rattle.predicate_order.specs.Ways.{NamedWay}
use Rattle.predicate_order.specs.Judged.{Judges, Tells}
use Rattle.safety_meaning.specs.Failures.{atoms_of_theory, condition_atoms}
use Rattle.safety.specs.inner.Rules.{AddsAnswers}
use Rattle.safety.proofs.Lists.{zip_push, flat_append, flat_one, map_append, taken_more}

pub adds_none : (keys : List Predicate) (flags : List Bool) (a : List Bool) → AddsAnswers keys flags [] a a
adds_none keys flags a named j before z = subst (λ v. AllZip (Tells named) v a) (sym (append-nil before)) z

pub adds_one : (keys : List Predicate) (flags : List Bool) (atom : Term) (answer : Bool) (a b : List Bool) → b ≡ a ++ answer ∷ []
    → ((named : List NamedWay) → Judges keys flags named → Tells named atom answer) → AddsAnswers keys flags (atom ∷ []) a b
adds_one keys flags atom answer a b e h named j before z =
    subst (λ v. AllZip (Tells named) (before ++ atom ∷ []) v) (sym e) (zip_push (Tells named) before a atom answer z (h named j))

pub adds_then : (keys : List Predicate) (flags : List Bool) (one other : List Term) (a b c : List Bool) → AddsAnswers keys flags one a b → AddsAnswers keys flags other b c
    → AddsAnswers keys flags (one ++ other) a c
adds_then keys flags one other a b c h k named j before z =
    subst (λ v. AllZip (Tells named) v c) (append_assoc before one other) (k named j (before ++ one) (h named j before z))

adds_as : (keys : List Predicate) (flags : List Bool) (one other all : List Term) (a b c : List Bool) → all ≡ one ++ other → AddsAnswers keys flags one a b
    → AddsAnswers keys flags other b c → AddsAnswers keys flags all a c
adds_as keys flags one other all a b c e h k = subst (λ v. AddsAnswers keys flags v a c) (sym e) (adds_then keys flags one other a b c h k)

flat_more : {X Y : Type 0} (f : Y → List Term) (g : X → Y) (xs : List X) (i : ℕ) (x : X) → x ≡ slice_index_or xs i x → i < length xs
    → flat_map f (map g (take (i + 1) xs)) ≡ flat_map f (map g (take i xs)) ++ f (g x)
flat_more f g xs i x is b =
    ap (λ v. flat_map f (map g v)) (taken_more xs i x is b) ∙ ap (flat_map f) (map_append g (take i xs) (x ∷ [])) ∙ flat_append f (map g (take i xs)) (g x ∷ [])
    ∙ ap (λ v. flat_map f (map g (take i xs)) ++ v) (flat_one f (g x))

nested_more : {X Y Z : Type 0} (f : Z → List Term) (h : Y → List Z) (g : X → Y) (xs : List X) (i : ℕ) (x : X) → x ≡ slice_index_or xs i x → i < length xs
    → flat_map f (flat_map h (map g (take (i + 1) xs))) ≡ flat_map f (flat_map h (map g (take i xs))) ++ flat_map f (h (g x))
nested_more f h g xs i x is b =
    ap (λ v. flat_map f (flat_map h (map g v))) (taken_more xs i x is b) ∙ ap (λ v. flat_map f (flat_map h v)) (map_append g (take i xs) (x ∷ []))
    ∙ ap (flat_map f) (flat_append h (map g (take i xs)) (g x ∷ []) ∙ ap (λ v. flat_map h (map g (take i xs)) ++ v) (flat_one h (g x)))
    ∙ flat_append f (flat_map h (map g (take i xs))) (h (g x))

pub answers_more : {X Y : Type 0} (keys : List Predicate) (flags : List Bool) (f : Y → List Term) (g : X → Y) (xs : List X) (i : ℕ) (x : X) (a b c : List Bool)
    → x ≡ slice_index_or xs i x → i < length xs → AddsAnswers keys flags (flat_map f (map g (take i xs))) a b → AddsAnswers keys flags (f (g x)) b c
    → AddsAnswers keys flags (flat_map f (map g (take (i + 1) xs))) a c
answers_more keys flags f g xs i x a b c is inside h k =
    adds_as keys flags (flat_map f (map g (take i xs))) (f (g x)) (flat_map f (map g (take (i + 1) xs))) a b c (flat_more f g xs i x is inside) h k

pub nested_answers_more : {X Y Z : Type 0} (keys : List Predicate) (flags : List Bool) (f : Z → List Term) (h : Y → List Z) (g : X → Y) (xs : List X) (i : ℕ) (x : X) (a b c : List Bool)
    → x ≡ slice_index_or xs i x → i < length xs → AddsAnswers keys flags (flat_map f (flat_map h (map g (take i xs)))) a b → AddsAnswers keys flags (flat_map f (h (g x))) b c
    → AddsAnswers keys flags (flat_map f (flat_map h (map g (take (i + 1) xs)))) a c
nested_answers_more keys flags f h g xs i x a b c is inside z k =
    adds_as keys flags (flat_map f (flat_map h (map g (take i xs)))) (flat_map f (h (g x))) (flat_map f (flat_map h (map g (take (i + 1) xs)))) a b c
    (nested_more f h g xs i x is inside) z k

pub all_answers : (keys : List Predicate) (flags : List Bool) (one other : List Term) (a b c : List Bool) → a ≡ [] → AddsAnswers keys flags one a b → AddsAnswers keys flags other b c
    → (named : List NamedWay) → Judges keys flags named → AllZip (Tells named) (one ++ other) c
all_answers keys flags one other a b c e h k named j =
    adds_then keys flags one other a b c h k named j [] (subst (λ v. AllZip (Tells named) [] v) (sym e) tt)

pub all_rule_answers : (keys : List Predicate) (flags : List Bool) (rule : Rule) (body : List Literal) (a b c : List Bool) → a ≡ [] → body ≡ rule.body
    → AddsAnswers keys flags (flat_map atoms_of_theory (duty_in (head_read rule.head))) a b
    → AddsAnswers keys flags (flat_map atoms_of_theory (flat_map told_in (map literal_read body))) b c
    → (named : List NamedWay) → Judges keys flags named → AllZip (Tells named) (condition_atoms (rule_read rule [])) c
all_rule_answers keys flags rule body a b c e same h k named j =
    let duty = duty_in (head_read rule.head) in
    let told = flat_map told_in (map literal_read rule.body) in
    subst (λ v. AllZip (Tells named) v c) (sym (flat_append atoms_of_theory duty told))
    (all_answers keys flags (flat_map atoms_of_theory duty) (flat_map atoms_of_theory told) a b c e h
    (subst (λ v. AddsAnswers keys flags (flat_map atoms_of_theory (flat_map told_in (map literal_read v))) b c) same k) named j)
