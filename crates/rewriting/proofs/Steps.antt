-- Steps of a walk, one behind the other.
use Rattle.std.proofs.Common.{◌≡◌, ℕ, zero, suc, ◌+◌, ◌<◌, List, [], ◌∷◌, ◌++◌, map, take, length, slice_index_or, slice_set, refl, sym, ap, ◌∙◌, subst, add-one, append_assoc, append-nil, arith}
use Rattle.symbols.specs.declared.rel.Rel.TheVariants.{Equal}
use Rattle.syntax_tree.specs.declared.term.Term.{Term}
use Rattle.syntax_tree.specs.declared.term.Term.TheVariants as t
use Rattle.syntax_tree.specs.declared.literal.Literal.{Literal}
use Rattle.syntax_tree.specs.declared.literal.Literal.TheVariants as l
use Rattle.rewriting.specs.declared.sight.Sight.TheVariants as sight
use Rattle.rewriting.specs.declared.walk.Walk.{Walk}
use Rattle.rewriting.specs.Made.{Made, joined, mapped, each}
use Rattle.rewriting.specs.Rewritten.{for_interval}
use Rattle.rewriting.specs.inner.Becoming.{Becomes}

pub becomes_joined : {X Y Z : Type 0} (f : X → Y → Z) (a : Made X) (b : ℕ → Made Y) (old mid new : Walk) (p q r : List Literal) (x : X) (y : Y)
    → Becomes a old mid p q x → Becomes (b mid.next) mid new q r y → Becomes (joined f a (b a.next)) old new p r (f x y)
becomes_joined f a b old mid new p q r x y h k =
    let s : Becomes (b a.next) mid new q r y = subst (λ n. Becomes (b n) mid new q r y) h.next k in
    record {
      made = λ i. f (h.made i) (s.made i);
      next = s.next;
      sights = s.sights ∙ ap (λ v. v ++ (b a.next).sights) h.sights ∙ append_assoc old.sights a.sights (b a.next).sights;
      added = s.added ∙ ap (λ v. v ++ (b a.next).added) h.added ∙ append_assoc p a.added (b a.next).added;
    }

pub becomes_mapped : {X Y : Type 0} (f : X → Y) (a : Made X) (old new : Walk) (p q : List Literal) (x : X) → Becomes a old new p q x → Becomes (mapped f a) old new p q (f x)
becomes_mapped f a old new p q x h = record { made = ap f h.made; next = h.next; sights = h.sights; added = h.added }

-- one piece more at the end
pub each_more : {X : Type 0} (ways : List (ℕ → Made X)) (way : ℕ → Made X) (next : ℕ)
    → each (ways ++ way ∷ []) next ≡ joined (λ xs x. xs ++ x ∷ []) (each ways next) (way (each ways next).next)
each_more [] way next = λ i. record {
  made = (way next).made ∷ [];
  next = (way next).next;
  added = append-nil (way next).added i;
  sights = append-nil (way next).sights i;
}
each_more (first ∷ rest) way next =
    let more = each_more rest way (first next).next in
    let e = each rest (first next).next in
    let w = way (each rest (first next).next).next in
    λ i. record {
      made = (first next).made ∷ (more i).made;
      next = (more i).next;
      added = (ap (λ m. (first next).added ++ m.added) more ∙ sym (append_assoc (first next).added e.added w.added)) i;
      sights = (ap (λ m. (first next).sights ++ m.sights) more ∙ sym (append_assoc (first next).sights e.sights w.sights)) i;
    }

pub becomes_next : {Y : Type 0} (ways : List (ℕ → Made Y)) (way : ℕ → Made Y) (start : ℕ) (first old new : Walk) (a b c : List Literal) (done pushed : List Y) (y : Y)
    → Becomes (each ways start) first old a b done → Becomes (way old.next) old new b c y → pushed ≡ done ++ y ∷ []
    → Becomes (each (ways ++ way ∷ []) start) first new a c pushed
becomes_next ways way start first old new a b c done pushed y h k push =
    let s = becomes_joined (λ xs x. xs ++ x ∷ []) (each ways start) way first old new a b c done y h k in
    subst (λ m. Becomes m first new a c pushed) (sym (each_more ways way start)) (subst (λ ys. Becomes (joined (λ xs x. xs ++ x ∷ []) (each ways start) (way (each ways start).next)) first new a c ys) (sym push) s)

pub taken_map : {X Y : Type 0} (f : X → Y) (xs : List X) (i : ℕ) (x : X) → x ≡ slice_index_or xs i x → i < length xs → map f (take (suc i) xs) ≡ map f (take i xs) ++ f x ∷ []
taken_map f [] i x is b = absurd (omega arith)
taken_map f (y ∷ ys) zero x is b = ap (λ v. f v ∷ []) (sym is)
taken_map f (y ∷ ys) (suc i) x is b = ap (λ rest. f y ∷ rest) (taken_map f ys i x is (omega arith))

pub map_pushed : {X Y : Type 0} (f : X → Y) (xs : List X) (x : X) → map f (xs ++ x ∷ []) ≡ map f xs ++ f x ∷ []
map_pushed f [] x = refl
map_pushed f (y ∷ ys) x = ap (λ rest. f y ∷ rest) (map_pushed f ys x)

-- one item of a list more
pub becomes_more : {X Y : Type 0} (way : X → ℕ → Made Y) (xs : List X) (i : ℕ) (x : X) (start : ℕ) (first old new : Walk) (a b c : List Literal) (done pushed : List Y) (y : Y)
    → x ≡ slice_index_or xs i x → i < length xs
    → Becomes (each (map way (take i xs)) start) first old a b done → Becomes (way x old.next) old new b c y → pushed ≡ done ++ y ∷ []
    → Becomes (each (map way (take (i + 1) xs)) start) first new a c pushed
becomes_more way xs i x start first old new a b c done pushed y is inside h k push =
    rw add-one (subst (λ ways. Becomes (each ways start) first new a c pushed) (sym (taken_map way xs i x is inside))
    (becomes_next (map way (take i xs)) (way x) start first old new a b c done pushed y h k push))

-- the same, where the way is taken from what was found before
pub becomes_more_by : {X W Y : Type 0} (f : W → ℕ → Made Y) (way : X → W) (xs : List X) (i : ℕ) (x : X) (start : ℕ) (first old new : Walk) (a b c : List Literal) (done pushed : List Y) (y : Y)
    → x ≡ slice_index_or xs i x → i < length xs
    → Becomes (each (map f (map way (take i xs))) start) first old a b done → Becomes (f (way x) old.next) old new b c y → pushed ≡ done ++ y ∷ []
    → Becomes (each (map f (map way (take (i + 1) xs))) start) first new a c pushed
becomes_more_by f way xs i x start first old new a b c done pushed y is inside h k push =
    let same = ap (map f) (taken_map way xs i x is inside) ∙ map_pushed f (map way (take i xs)) (way x) in
    rw add-one (subst (λ ways. Becomes (each ways start) first new a c pushed) (sym same)
    (becomes_next (map f (map way (take i xs))) (f (way x)) start first old new a b c done pushed y h k push))

-- INTERVALS

pub set_behind : {X : Type 0} (xs ys : List X) (x y : X) → slice_set ((xs ++ x ∷ []) ++ ys) (length xs) y ≡ xs ++ y ∷ ys
set_behind [] ys x y = refl
set_behind (z ∷ zs) ys x y = ap (λ rest. z ∷ rest) (set_behind zs ys x y)

pub becomes_interval : (way : ℕ → Made Term) (old taken seen new : Walk) (p q r s : List Literal) (place n : ℕ) (held : Literal) (interval : Term) (one : Literal)
    → n ≡ old.next → taken.next ≡ old.next + 1 → taken.sights ≡ old.sights → seen.next ≡ taken.next → seen.sights ≡ taken.sights ++ sight.Interval n ∷ []
    → place ≡ length p → q ≡ p ++ held ∷ [] → Becomes (way seen.next) seen new q r interval
    → one ≡ l.Compare (t.Variable n) Equal interval → s ≡ slice_set r place one
    → Becomes (for_interval old.next (way (old.next + 1))) old new p s (t.Variable n)
becomes_interval way old taken seen new p q r s place n held interval one number next sights see sighted at push inner equation put =
    let h : Becomes (way (old.next + 1)) seen new q r interval = subst (λ m. Becomes (way m) seen new q r interval) (see ∙ next) inner in
    let w = way (old.next + 1) in
    record {
      made = ap t.Variable number;
      next = h.next;
      sights = h.sights ∙ ap (λ v. v ++ w.sights) (sighted ∙ ap (λ v. v ++ sight.Interval n ∷ []) sights) ∙ append_assoc old.sights (sight.Interval n ∷ []) w.sights
          ∙ ap (λ m. old.sights ++ sight.Interval m ∷ w.sights) number;
      added = put ∙ (λ i. slice_set ((h.added ∙ ap (λ v. v ++ w.added) push) i) (at i) (equation i)) ∙ set_behind p w.added held (l.Compare (t.Variable n) Equal interval)
          ∙ (λ i. p ++ l.Compare (t.Variable (number i)) Equal (h.made i) ∷ w.added);
    }
