-- The rules of statements, one statement more at a time.
use Rattle.std.proofs.Common.{◌≡◌, ℕ, zero, suc, ◌+◌, ◌<◌, ◌≤◌, List, [], ◌∷◌, ◌++◌, length, take, get_or, refl, sym, ap, ◌∙◌, subst, IfOk, add-one, arith}
use Rattle.std.specs.List.{AllZip}
use Rattle.syntax_tree.specs.declared.statement.Statement.{Statement}
use Rattle.syntax_tree.specs.declared.statement.Statement.TheVariants as statement
use Rattle.syntax_tree.specs.declared.statement.Program.{Program}
use Rattle.rewriting.specs.declared.program.RewrittenProgram.{RewrittenProgram}
use Rattle.rewriting.specs.Rewriting.{IsRewriting}
use Rattle.program_meaning.specs.Read.{ReadProgram, ReadRule, rule_read, rules_read, program_read}
use Rattle.safety_meaning.specs.Program.{rules_of}
use Rattle.safety_meaning.proofs.Reading.{read_law}
use Rattle.planned_rules.specs.declared.planned.PlannedRule.{PlannedRule}
use Rattle.std.specs.declared.result.Result.{Result}
use Rattle.std.specs.declared.result.Result.TheVariants.{Ok, Err}
use Rattle.program_meaning.specs.Tuples.{theories}
use Rattle.groundable_rules.specs.Groundable.{IsGroundable}
use Rattle.planned_rules.specs.Planned.{IsPlanned, rule_of}
use Rattle.theory_plans.specs.declared.plan.TheoryPlan.{TheoryPlan}
use Rattle.theory_plans.specs.Planned.{IsTheoryPlan}
use Rattle.planned_texts.specs.Ready.{IsReady}

pub zip_push : {X Y : Type 0} (R : X → Y → Type 0) (xs : List X) (ys : List Y) (x : X) (y : Y) → AllZip R xs ys → R x y → AllZip R (xs ++ x ∷ []) (ys ++ y ∷ [])
zip_push R [] [] x y h r = (r, tt)
zip_push R [] (z ∷ ys) x y h r = absurd h
zip_push R (z ∷ xs) [] x y h r = absurd h
zip_push R (z ∷ xs) (w ∷ ys) x y h r = (h.0, zip_push R xs ys x y h.1 r)

pub zip_length : {X Y : Type 0} (R : X → Y → Type 0) (xs : List X) (ys : List Y) → AllZip R xs ys → length xs ≡ length ys
zip_length R [] [] h = refl
zip_length R [] (z ∷ ys) h = absurd h
zip_length R (z ∷ xs) [] h = absurd h
zip_length R (z ∷ xs) (w ∷ ys) h = ap suc (zip_length R xs ys h.1)

pub zip_at : {X Y : Type 0} (R : X → Y → Type 0) (xs : List X) (ys : List Y) (i : ℕ) (x : X) (y : Y) → AllZip R xs ys → i < length xs
    → x ≡ get_or xs i x → y ≡ get_or ys i y → R x y
zip_at R [] ys i x y h inside is same = absurd (omega (arith, inside))
zip_at R (z ∷ xs) [] i x y h inside is same = absurd h
zip_at R (z ∷ xs) (w ∷ ys) zero x y h inside is same = subst (λ v. R v y) (sym is) (subst (λ v. R z v) (sym same) h.0)
zip_at R (z ∷ xs) (w ∷ ys) (suc i) x y h inside is same = zip_at R xs ys i x y h.1 (omega (arith, inside)) is same

-- the rules of one statement more
rules_next : (statements : List Statement) (orders : List (List ℕ)) (at : ℕ) (next : Statement) (order : List ℕ) → at < length statements → at < length orders
    → next ≡ get_or statements at next → order ≡ get_or orders at order
    → rules_read (take (suc at) statements) (take (suc at) orders) ≡ rules_read (take at statements) (take at orders) ++ rules_read (next ∷ []) (order ∷ [])
rules_next [] orders at next order inside within is same = absurd (omega (arith, inside))
rules_next (s ∷ statements) [] at next order inside within is same = absurd (omega (arith, within))
rules_next (s ∷ statements) (o ∷ orders) zero next order inside within is same = (λ i. rules_read (sym is i ∷ []) (sym same i ∷ []))
rules_next (statement.Rule rule ∷ statements) (o ∷ orders) (suc at) next order inside within is same =
    let inner : at < length statements = omega (arith, inside) in
    let inner_order : at < length orders = omega (arith, within) in
    ap (λ l. rule_read rule o ∷ l) (rules_next statements orders at next order inner inner_order is same)
rules_next (statement.Constant name term place ∷ statements) (o ∷ orders) (suc at) next order inside within is same =
    rules_next statements orders at next order (omega (arith, inside)) (omega (arith, within)) is same
rules_next (statement.ShowNothing ∷ statements) (o ∷ orders) (suc at) next order inside within is same =
    rules_next statements orders at next order (omega (arith, inside)) (omega (arith, within)) is same
rules_next (statement.Show name arity ∷ statements) (o ∷ orders) (suc at) next order inside within is same =
    rules_next statements orders at next order (omega (arith, inside)) (omega (arith, within)) is same

pub rules_more : (statements : List Statement) (orders : List (List ℕ)) (at : ℕ) (next : Statement) (order held : List ℕ) (before after : List ReadRule)
    → at < length statements → at < length orders → next ≡ get_or statements at next → order ≡ get_or orders at order → held ≡ order
    → before ≡ rules_read (take at statements) (take at orders) → after ≡ before ++ rules_read (next ∷ []) (held ∷ [])
    → after ≡ rules_read (take (at + 1) statements) (take (at + 1) orders)
rules_more statements orders at next order held before after inside within is same held_is so_far grew =
    grew ∙ (λ i. so_far i ++ rules_read (next ∷ []) (held_is i ∷ [])) ∙ sym (rules_next statements orders at next order inside within is same)
    ∙ ap (λ n. rules_read (take n statements) (take n orders)) (sym (add-one at))

take_all : {X : Type 0} (xs : List X) (n : ℕ) → length xs ≤ n → take n xs ≡ xs
take_all [] zero h = refl
take_all [] (suc n) h = refl
take_all (x ∷ xs) zero h = absurd (omega (arith, h))
take_all (x ∷ xs) (suc n) h = ap (λ l. x ∷ l) (take_all xs n (omega (arith, h)))

pub rules_all : (statements : List Statement) (orders : List (List ℕ)) (at : ℕ) (read : List ReadRule) → length statements ≤ at → length statements ≡ length orders
    → read ≡ rules_read (take at statements) (take at orders) → read ≡ rules_read statements orders
rules_all statements orders at read past same is =
    let past_orders : length orders ≤ at = omega (arith, past, same) in
    is ∙ (λ i. rules_read (take_all statements at past i) (take_all orders at past_orders i))

pub same_rules : (program : RewrittenProgram) (old : Program) → IsRewriting old program → rules_read program.program.statements program.orders ≡ rules_of old.statements
same_rules program old is = ap (λ (p : ReadProgram). p.rules) ((λ i. program_read (is.statements i) (is.orders i)) ∙ read_law old.statements)

-- ---- rules that are ready
pub ready_push : (rules more : List PlannedRule) (plans further : List (List TheoryPlan)) (planned : PlannedRule) (of_theories : List TheoryPlan) (read : ReadRule)
    → more ≡ rules ++ planned ∷ [] → further ≡ plans ++ of_theories ∷ [] → rule_of planned ≡ read → IsGroundable read → IsPlanned planned
    → AllZip (IsTheoryPlan read) (theories read) of_theories → AllZip IsReady rules plans → AllZip IsReady more further
ready_push rules more plans further planned of_theories read grew extended is groundable has each before =
    let one : IsReady planned of_theories = record {
      groundable = subst IsGroundable (sym is) groundable;
      planned = has;
      each = subst (λ (r : ReadRule). AllZip (IsTheoryPlan r) (theories r) of_theories) (sym is) each;
    } in
    subst (λ (l : List PlannedRule). AllZip IsReady l further) (sym grew)
    (subst (λ (l : List (List TheoryPlan)). AllZip IsReady (rules ++ planned ∷ []) l) (sym extended) (zip_push IsReady rules plans planned of_theories before one))

pub ok_each : {X E : Type 0} (r : Result X E) (P Q : X → Type 0) → ((x : X) → P x → Q x) → IfOk r P → IfOk r Q
ok_each (Ok x) P Q each h = each x h
ok_each (Err e) P Q each h = tt
