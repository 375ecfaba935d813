-- The ways of rules, rule by rule.
use Rattle.std.proofs.Common.{◌≡◌, ℕ, zero, suc, ◌+◌, ◌<◌, List, [], ◌∷◌, ◌++◌, take, length, slice_index_or, refl, sym, ap, ◌∙◌, subst, append_assoc, append-nil, add-one, arith}
use Rattle.std.specs.List.{flat_map}
use Rattle.syntax_tree.specs.declared.rule.Rule.{Rule}
use Rattle.syntax_tree.specs.declared.statement.Statement.{Statement}
use Rattle.syntax_tree.specs.declared.statement.Statement.TheVariants as statement
use Rattle.program_meaning.specs.Read.{ReadRule, rule_read}
use Rattle.predicate_order.specs.declared.reading.Reads.{Reads}
use Rattle.predicate_order.specs.declared.ways.Ways.{Ways}
use Rattle.predicate_order.specs.Ways.{NamedWay, ways_of, bare_rule, bare_rules}
use Rattle.predicate_order.specs.Judged.{AreWays}

flat_append : {X Y : Type 0} (f : X → List Y) (xs ys : List X) → flat_map f (xs ++ ys) ≡ flat_map f xs ++ flat_map f ys
flat_append f [] ys = refl
flat_append f (x ∷ xs) ys = ap (λ v. f x ++ v) (flat_append f xs ys) ∙ sym (append_assoc (f x) (flat_map f xs) (flat_map f ys))

taken_suc : {X : Type 0} (xs : List X) (i : ℕ) (x : X) → x ≡ slice_index_or xs i x → i < length xs → take (suc i) xs ≡ take i xs ++ x ∷ []
taken_suc [] i x is b = absurd (omega arith)
taken_suc (y ∷ ys) zero x is b = ap (λ v. v ∷ []) (sym is)
taken_suc (y ∷ ys) (suc i) x is b = ap (λ v. y ∷ v) (taken_suc ys i x is (omega arith))

flat_one : {X Y : Type 0} (f : X → List Y) (x : X) → flat_map f (x ∷ []) ≡ f x
flat_one f x = append-nil (f x)

pub ways_more : (f : ReadRule → List Reads) (statements : List Statement) (i : ℕ) (one : Statement) (old new : Ways) → one ≡ slice_index_or statements i one → i < length statements
    → ((before : List NamedWay) → AreWays before old → AreWays (before ++ flat_map (λ rule. flat_map ways_of (f rule)) (bare_rule one)) new)
    → AreWays (flat_map (λ rule. flat_map ways_of (f rule)) (bare_rules (take i statements))) old
    → AreWays (flat_map (λ rule. flat_map ways_of (f rule)) (bare_rules (take (i + 1) statements))) new
ways_more f statements i one old new is b h z =
    let g : ReadRule → List NamedWay = λ rule. flat_map ways_of (f rule) in
    let same : bare_rules (take (i + 1) statements) ≡ bare_rules (take i statements) ++ bare_rule one =
    ap (λ n. bare_rules (take n statements)) (add-one i) ∙ ap bare_rules (taken_suc statements i one is b) ∙ flat_append bare_rule (take i statements) (one ∷ [])
    ∙ ap (λ v. bare_rules (take i statements) ++ v) (flat_one bare_rule one) in
    subst (λ v. AreWays v new) (sym (ap (flat_map g) same ∙ flat_append g (bare_rules (take i statements)) (bare_rule one))) (h (flat_map g (bare_rules (take i statements))) z)

pub rule_added : (f : ReadRule → List Reads) (one : Statement) (rule : Rule) (all : List Reads) (old new : Ways) → one ≡ statement.Rule rule → all ≡ f (rule_read rule [])
    → ((before : List NamedWay) → AreWays before old → AreWays (before ++ flat_map ways_of all) new)
    → (before : List NamedWay) → AreWays before old → AreWays (before ++ flat_map (λ rule. flat_map ways_of (f rule)) (bare_rule one)) new
rule_added f one rule all old new is e h before z =
    let g : ReadRule → List NamedWay = λ rule. flat_map ways_of (f rule) in
    subst (λ v. AreWays (before ++ v) new)
    (ap (flat_map ways_of) e ∙ sym (flat_one g (rule_read rule [])) ∙ ap (λ s. flat_map g (bare_rule s)) (sym is)) (h before z)

pub reads_more : (before : List NamedWay) (all : List Reads) (reads : Reads) (old new : Ways) → AreWays (before ++ flat_map ways_of all) old
    → ((first : List NamedWay) → AreWays first old → AreWays (first ++ ways_of reads) new) → AreWays (before ++ flat_map ways_of (all ++ reads ∷ [])) new
reads_more before all reads old new z h =
    subst (λ v. AreWays v new)
    (append_assoc before (flat_map ways_of all) (ways_of reads)
    ∙ ap (λ v. before ++ v) (ap (λ v. flat_map ways_of all ++ v) (sym (flat_one ways_of reads)) ∙ sym (flat_append ways_of all (reads ∷ []))))
    (h (before ++ flat_map ways_of all) z)
