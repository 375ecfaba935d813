-- Pieces of a rule's text that keep what holds of them when they are rewritten.
use Rattle.std.proofs.Common.{◌≡◌, ℕ, true, List, [], ◌∷◌, ◌++◌, map, Option, None, Some}
use Rattle.std.specs.List.{AllByRecursion}
use Rattle.syntax_tree.specs.declared.literal.Literal.{Literal}
use Rattle.syntax_tree.specs.Literals.{is_literal}
use Rattle.ground_model.proofs.OrderedLemmas.{property_append}
use Rattle.rewriting.specs.Made.{Made, same, seeing, mapped, joined, both, each, maybe}
use Rattle.rewriting.specs.declared.sight.Sight.{Sight}
use Rattle.rewriting.specs.Rewritten.{closed}
use Rattle.program_meaning.specs.Read.{literal_read}
use Rattle.checked_rules.specs.Checked.{IsLiteralChecked}

-- the literal is a tree, and passes the checks
pub record IsFineLiteral (literal : Literal) : Type 0 where
  pub tree : is_literal literal ≡ true
  pub checked : IsLiteralChecked (literal_read literal)

abbrev pub AreFineLiterals : List Literal → Type 0
AreFineLiterals literals = AllByRecursion IsFineLiteral literals

-- what is made has a property, and what comes with it is fine
pub record IsKept {X : Type 0} (P : X → Type 0) (a : Made X) : Type 0 where
  pub made : P a.made
  pub added : AreFineLiterals a.added

abbrev pub Keeps : {X : Type 0} → (X → Type 0) → (ℕ → Made X) → Type 0
Keeps P way = (next : ℕ) → IsKept P (way next)

pub kept_same : {X : Type 0} (P : X → Type 0) (x : X) (next : ℕ) → P x → IsKept P (same x next)
kept_same P x next p = record { made = p; added = tt }

pub kept_seeing : {X : Type 0} (P : X → Type 0) (sight : Sight) (a : Made X) → IsKept P a → IsKept P (seeing sight a)
kept_seeing P sight a k = record { made = k.made; added = k.added }

pub kept_mapped : {X Y : Type 0} (P : X → Type 0) (Q : Y → Type 0) (f : X → Y) (a : Made X) → (P a.made → Q (f a.made)) → IsKept P a → IsKept Q (mapped f a)
kept_mapped P Q f a onward k = record { made = onward k.made; added = k.added }

pub kept_joined : {X Y Z : Type 0} (P : X → Type 0) (Q : Y → Type 0) (R : Z → Type 0) (f : X → Y → Z) (a : Made X) (b : Made Y)
    → (P a.made → Q b.made → R (f a.made b.made)) → IsKept P a → IsKept Q b → IsKept R (joined f a b)
kept_joined P Q R f a b onward k l = record { made = onward k.made l.made; added = property_append IsFineLiteral a.added b.added k.added l.added }

pub keeps_both : {X Y Z : Type 0} (P : X → Type 0) (Q : Y → Type 0) (R : Z → Type 0) (f : X → Y → Z) (one : ℕ → Made X) (other : ℕ → Made Y)
    → ((x : X) (y : Y) → P x → Q y → R (f x y)) → Keeps P one → Keeps Q other → Keeps R (both f one other)
keeps_both P Q R f one other onward k l next =
    kept_joined P Q R f (one next) (other (one next).next) (onward (one next).made (other (one next).next).made) (k next) (l (one next).next)

pub data AllKeep {X : Type 0} (P : X → Type 0) : List (ℕ → Made X) → Type 0 where
  NoneKeeps : AllKeep P []
  OneKeeps : (way : ℕ → Made X) (ways : List (ℕ → Made X)) → Keeps P way → AllKeep P ways → AllKeep P (way ∷ ways)

pub keeps_each : {X : Type 0} (P : X → Type 0) (ways : List (ℕ → Made X)) → AllKeep P ways → Keeps (AllByRecursion P) (each ways)
keeps_each P [] all next = kept_same (AllByRecursion P) [] next tt
keeps_each P (way ∷ ways) (OneKeeps one rest k all) next =
    keeps_both P (AllByRecursion P) (AllByRecursion P) (λ x xs. x ∷ xs) way (each ways) (λ x xs p ps. (p, ps)) k (keeps_each P ways all) next

pub all_keep : {A X : Type 0} (P : X → Type 0) (way : A → ℕ → Made X) (items : List A) → AllByRecursion (λ a. Keeps P (way a)) items → AllKeep P (map way items)
all_keep P way [] all = NoneKeeps
all_keep P way (a ∷ rest) all = OneKeeps (way a) (map way rest) all.0 (all_keep P way rest all.1)

-- a part that may be missing
abbrev pub IsNoneOr : {X : Type 0} → (X → Type 0) → Option X → Type 0
IsNoneOr P None = Unit {0}
IsNoneOr P (Some x) = P x

pub keeps_maybe : {X Y : Type 0} (P : Y → Type 0) (way : X → ℕ → Made Y) (o : Option X) → IsNoneOr (λ x. Keeps P (way x)) o → Keeps (IsNoneOr P) (maybe way o)
keeps_maybe P way None k next = kept_same (IsNoneOr P) None next tt
keeps_maybe P way (Some x) k next = kept_mapped P (IsNoneOr P) (λ y. Some y) (way x next) (λ p. p) (k next)

-- a piece with its condition, behind which stands what comes with both
pub kept_closed : {X Y : Type 0} (P : X → Type 0) (L : List Literal → Type 0) (Q : Y → Type 0) (f : X → List Literal → Y) (a : Made X) (b : Made (List Literal))
    → (P a.made → L b.made → AreFineLiterals (a.added ++ b.added) → Q (f a.made (b.made ++ (a.added ++ b.added)))) → IsKept P a → IsKept L b → IsKept Q (closed f a b)
kept_closed P L Q f a b onward k l = record {
  made = onward k.made l.made (property_append IsFineLiteral a.added b.added k.added l.added);
  added = tt;
}
