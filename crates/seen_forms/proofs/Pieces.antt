-- Pieces of a rule's tree in which is seen what is seen in their forms.
use Rattle.std.proofs.Common.{◌≡◌, ℕ, ◌+◌, List, [], ◌∷◌, ◌++◌, map, refl, sym, ap, subst, append-nil}
use Rattle.syntax_tree.specs.declared.rule.Name.{Name}
use Rattle.syntax_tree.specs.declared.literal.Literal.{Literal}
use Rattle.grammar.specs.Row.{Row}
use Rattle.grammar.specs.Sight.{Sighting, along_tail, along}
use Rattle.rewriting.specs.declared.sight.Sight.{Sight as TreeSight}
use Rattle.rewriting.specs.Made.{Made, both, each}
use Rattle.rewriting.specs.Rewritten.{closed}
use Rattle.seen_forms.specs.Seen.{AreSeenAs}

module _ (names : List Name) where
  pub seen_append : (xs ys : List Sighting) (us vs : List TreeSight) → AreSeenAs names xs us → AreSeenAs names ys vs → AreSeenAs names (xs ++ ys) (us ++ vs)
  seen_append [] ys [] vs h k = k
  seen_append [] ys (u ∷ us) vs h k = absurd h
  seen_append (x ∷ xs) ys [] vs h k = absurd h
  seen_append (x ∷ xs) ys (u ∷ us) vs h k = (h.0, seen_append xs ys us vs h.1 k)

  -- in what the way makes is seen this, from any number on
  abbrev pub Shows : {X : Type 0} → (ℕ → Made X) → List Sighting → Type 0
  Shows way sights = (next : ℕ) → AreSeenAs names sights (way next).sights

  pub shows_both : {X Y Z : Type 0} (f : X → Y → Z) (one : ℕ → Made X) (other : ℕ → Made Y) (xs ys : List Sighting) → Shows one xs → Shows other ys → Shows (both f one other) (xs ++ ys)
  shows_both f one other xs ys h k next = seen_append xs ys (one next).sights (other (one next).next).sights (h next) (k (one next).next)

  pub shows_closed : {X Y : Type 0} (f : X → List Literal → Y) (one : ℕ → Made X) (other : ℕ → Made (List Literal)) (xs ys : List Sighting) → Shows one xs → Shows other ys
      → Shows (λ next. closed f (one next) (other (one next).next)) (xs ++ ys)
  shows_closed f one other xs ys h k next = seen_append xs ys (one next).sights (other (one next).next).sights (h next) (k (one next).next)

  -- nothing follows
  pub shows_alone : {X Y Z : Type 0} (f : X → List Y → Z) (one : ℕ → Made X) (xs : List Sighting) → Shows one xs → Shows (both f one (each [])) xs
  shows_alone f one xs h next = subst (AreSeenAs names xs) (sym (append-nil (one next).sights)) (h next)

  -- the items of a row, one behind the other
  module _ {I S X : Type 0} (way : I → ℕ → Made X) (gives : I → ℕ → List Sighting) (long : I → ℕ) (law : (x : I) (at : ℕ) → Shows (way x) (gives x at)) where
    shows_tail : (rest : List (S × I)) (at : ℕ) → Shows (each (map (λ (p : S × I). way p.1) rest)) (along_tail gives long rest at)
    shows_tail [] at next = tt
    shows_tail (part ∷ parts) at next =
        shows_both (λ x xs. x ∷ xs) (way part.1) (each (map (λ (p : S × I). way p.1) parts)) (gives part.1 (at + 1)) (along_tail gives long parts (at + 1 + long part.1)) (law part.1 (at + 1))
        (shows_tail parts (at + 1 + long part.1)) next

    pub shows_row : (row : Row I S) (at : ℕ) → Shows (each (way row.first ∷ map (λ (p : S × I). way p.1) row.rest)) (along gives long row at)
    shows_row row at =
        shows_both (λ x xs. x ∷ xs) (way row.first) (each (map (λ (p : S × I). way p.1) row.rest)) (gives row.first at) (along_tail gives long row.rest (at + long row.first)) (law row.first at)
        (shows_tail row.rest (at + long row.first))

-- ways that are made of items one by one
pub map_map : {X Y Z : Type 0} (f : X → Y) (g : Y → Z) (xs : List X) → map g (map f xs) ≡ map (λ x. g (f x)) xs
map_map f g [] = refl
map_map f g (x ∷ xs) = ap (λ ys. g (f x) ∷ ys) (map_map f g xs)
