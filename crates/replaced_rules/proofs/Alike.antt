-- Pieces of two texts in which the same is seen, and which need as many new variables.
use Rattle.std.proofs.Common.{◌≡◌, ℕ, List, [], ◌∷◌, ◌++◌, map, Option, None, Some, refl, ◌∙◌, ap}
use Rattle.std.specs.List.{AllByRecursion}
use Rattle.std.specs.Option.{option_map}
use Rattle.syntax_tree.specs.declared.literal.Literal.{Literal}
use Rattle.rewriting.specs.declared.sight.Sight.{Sight}
use Rattle.rewriting.specs.Made.{Made, same, seeing, mapped, joined, both, each, maybe}
use Rattle.rewriting.specs.Rewritten.{closed}

pub record AreAlike {X Y : Type 0} (a : Made X) (b : Made Y) : Type 0 where
  pub sights : a.sights ≡ b.sights
  pub next : a.next ≡ b.next

abbrev pub Alike : {X Y : Type 0} → (ℕ → Made X) → (ℕ → Made Y) → Type 0
Alike one other = (next : ℕ) → AreAlike (one next) (other next)

pub alike_same : {X Y : Type 0} (x : X) (y : Y) → Alike (same x) (same y)
alike_same x y next = record { sights = refl; next = refl }

pub alike_itself : {X : Type 0} (way : ℕ → Made X) → Alike way way
alike_itself way next = record { sights = refl; next = refl }

pub alike_seeing : {X Y : Type 0} (sight : Sight) (a : Made X) (b : Made Y) → AreAlike a b → AreAlike (seeing sight a) (seeing sight b)
alike_seeing sight a b k = record { sights = ap (λ l. sight ∷ l) k.sights; next = k.next }

pub alike_mapped : {X Y V W : Type 0} (f : X → V) (g : Y → W) (a : Made X) (b : Made Y) → AreAlike a b → AreAlike (mapped f a) (mapped g b)
alike_mapped f g a b k = record { sights = k.sights; next = k.next }

pub alike_joined : {X Y V W Z S : Type 0} (f : X → V → Z) (g : Y → W → S) (a : Made X) (b : Made Y) (c : Made V) (d : Made W)
    → AreAlike a b → AreAlike c d → AreAlike (joined f a c) (joined g b d)
alike_joined f g a b c d k l = record { sights = (λ i. k.sights i ++ l.sights i); next = l.next }

pub alike_closed : {X Y Z S : Type 0} (f : X → List Literal → Z) (g : Y → List Literal → S) (a : Made X) (b : Made Y) (c d : Made (List Literal))
    → AreAlike a b → AreAlike c d → AreAlike (closed f a c) (closed g b d)
alike_closed f g a b c d k l = record { sights = (λ i. k.sights i ++ l.sights i); next = l.next }

-- a way that begins with another number
pub alike_onward : {X Y : Type 0} (one : ℕ → Made X) (other : ℕ → Made Y) → Alike one other → (n m : ℕ) → n ≡ m → AreAlike (one n) (other m)
alike_onward one other k n m e = record {
  sights = (k n).sights ∙ ap (λ j. (other j).sights) e;
  next = (k n).next ∙ ap (λ j. (other j).next) e;
}

pub alike_both : {X Y V W Z S : Type 0} (f : X → V → Z) (g : Y → W → S) (one : ℕ → Made X) (other : ℕ → Made Y) (more : ℕ → Made V) (others : ℕ → Made W)
    → Alike one other → Alike more others → Alike (both f one more) (both g other others)
alike_both f g one other more others k l next =
    alike_joined f g (one next) (other next) (more (one next).next) (others (other next).next) (k next)
    (alike_onward more others l (one next).next (other next).next (k next).next)

abbrev pub AllAlike : {X Y : Type 0} → List (ℕ → Made X) → List (ℕ → Made Y) → Type 0
AllAlike [] [] = Unit {0}
AllAlike [] (other ∷ others) = ⊥
AllAlike (one ∷ ones) [] = ⊥
AllAlike (one ∷ ones) (other ∷ others) = Alike one other × AllAlike ones others

pub alike_each : {X Y : Type 0} (ones : List (ℕ → Made X)) (others : List (ℕ → Made Y)) → AllAlike ones others → Alike (each ones) (each others)
alike_each [] [] all = alike_same [] []
alike_each [] (other ∷ others) all = absurd all
alike_each (one ∷ ones) [] all = absurd all
alike_each (one ∷ ones) (other ∷ others) all =
    alike_both (λ x xs. x ∷ xs) (λ y ys. y ∷ ys) one other (each ones) (each others) all.0 (alike_each ones others all.1)

-- items and what becomes of them
pub all_alike : {A X : Type 0} (f : A → A) (way : A → ℕ → Made X) (items : List A) → AllByRecursion (λ a. Alike (way (f a)) (way a)) items → AllAlike (map way (map f items)) (map way items)
all_alike f way [] all = tt
all_alike f way (a ∷ items) all = (all.0, all_alike f way items all.1)

pub alike_maybe : {A X : Type 0} (f : A → A) (way : A → ℕ → Made X) → ((a : A) → Alike (way (f a)) (way a)) → (o : Option A) → Alike (maybe way (option_map f o)) (maybe way o)
alike_maybe f way k None next = alike_same None None next
alike_maybe f way k (Some a) next = alike_mapped (λ x. Some x) (λ x. Some x) (way (f a) next) (way a next) (k a next)

pub all_by : {A : Type 0} (P : A → Type 0) → ((a : A) → P a) → (xs : List A) → AllByRecursion P xs
all_by P p [] = tt
all_by P p (x ∷ xs) = (p x, all_by P p xs)
