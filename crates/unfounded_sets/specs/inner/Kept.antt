-- What is kept between calls, as far as it was checked.
use Rattle.std.specs.Prelude.{◌≡◌, ℕ, true, List}
use Rattle.std.specs.List.{AllByRecursion}
use Rattle.linear_normal.specs.declared.numbered.Support.{Support}
use Rattle.unfounded_sets.specs.declared.groups.Groups.{Groups}
use Rattle.unfounded_sets.specs.declared.sources.Sources.{Sources}
use Rattle.unfounded_sets.specs.inner.Sources.{IsGrouped, IsSourced}

-- where it was checked, each support is of an atom on a cycle, or by lower components alone
abbrev pub AreGrouped : List (List ℕ) → List Support → Groups → Type 0
AreGrouped bodies supports groups = groups.is_checked ≡ true → AllByRecursion (IsGrouped bodies groups.level.items groups.cyclic.items) supports

-- where it was checked, each source of an atom on a cycle is by atoms that stand lower
abbrev pub AreSourced : List (List ℕ) → List Support → Groups → Sources → Type 0
AreSourced bodies supports groups sources =
    sources.is_checked ≡ true → AllByRecursion (IsSourced bodies supports groups.level.items sources.rank.items sources.source.items) groups.cyclic.items
