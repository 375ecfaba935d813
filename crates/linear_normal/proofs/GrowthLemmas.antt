-- A table that grows by what is demanded, step by step.
use Rattle.std.proofs.Common.{◌≡◌, ℕ, zero, suc, ◌+◌, ◌<◌, ◌≤◌, List, [], ◌∷◌, ◌++◌, map, length, drop, get_or, refl, sym, ◌∙◌, ap, subst, fold, flat_map, append_assoc, append-nil, drop_of_length-le, arith}
use Rattle.std.specs.List.{AllByRecursion}
use Rattle.ground_model.proofs.Products.{drop_next}
use Rattle.linear_normal.specs.declared.constraint.Constraint.{Constraint}
use Rattle.linear_normal.specs.Contents.{Content}
use Rattle.linear_normal.specs.Demands.{with_content}
use Rattle.linear_normal.specs.inner.Tables.{Begins, IsTable, Gives}
use Rattle.linear_normal.proofs.TableLemmas.{begins_then, begins_fold}

pub fold_append : (contents demands more : List Content) → fold with_content contents (demands ++ more) ≡ fold with_content (fold with_content contents demands) more
fold_append contents [] more = refl
fold_append contents (d ∷ demands) more = fold_append (with_content contents d) demands more

pub gives_none : (keys : List Constraint) (Holds : List Content → Type 0) → ((later : List Content) → Holds later) → Gives keys keys [] Holds
gives_none keys Holds holds = record { table = λ contents table. table; holds = λ contents table later begins. holds later }

pub gives_then : (before between after : List Constraint) (demands more : List Content) (First Next Holds : List Content → Type 0) → Gives before between demands First → Gives between after more Next
    → ((later : List Content) → First later → Next later → Holds later) → Gives before after (demands ++ more) Holds
gives_then before between after demands more First Next Holds first next holds = record {
  table = λ contents table. subst (λ contents. IsTable contents after) (sym (fold_append contents demands more)) (next.table (fold with_content contents demands) (first.table contents table));
  holds = λ contents table later begins.
      let rest : Begins (fold with_content (fold with_content contents demands) more) later = subst (λ xs. Begins xs later) (fold_append contents demands more) begins in
      holds later
      (first.holds contents table later (begins_then (fold with_content contents demands) (fold with_content (fold with_content contents demands) more) later (begins_fold (fold with_content contents demands) more) rest))
      (next.holds (fold with_content contents demands) (first.table contents table) later rest);
}

pub gives_as : (before after : List Constraint) (demands : List Content) (First Holds : List Content → Type 0) → Gives before after demands First
    → ((later : List Content) → First later → Holds later) → Gives before after demands Holds
gives_as before after demands First Holds first holds = record {
  table = first.table;
  holds = λ contents table later begins. holds later (first.holds contents table later begins);
}

-- so far, where these demands are left of the whole
pub record GivesLeft (before now : List Constraint) (left whole : List Content) (Holds : List Content → Type 0) : Type 0 where
  pub demands : List Content
  pub all : demands ++ left ≡ whole
  pub gives : Gives before now demands Holds

pub left_first : (keys : List Constraint) (whole : List Content) (Holds : List Content → Type 0) → ((later : List Content) → Holds later) → GivesLeft keys keys whole whole Holds
left_first keys whole Holds holds = record { demands = []; all = refl; gives = gives_none keys Holds holds }

pub left_next : (before now next : List Constraint) (left here rest whole : List Content) (First Next Holds : List Content → Type 0) → left ≡ here ++ rest → GivesLeft before now left whole First → Gives now next here Next
    → ((later : List Content) → First later → Next later → Holds later) → GivesLeft before next rest whole Holds
left_next before now next left here rest whole First Next Holds split so_far gives holds = record {
  demands = so_far.demands ++ here;
  all = append_assoc so_far.demands here rest ∙ ap (λ xs. so_far.demands ++ xs) (sym split) ∙ so_far.all;
  gives = gives_then before now next so_far.demands here First Next Holds so_far.gives gives holds;
}

pub left_last : (before after : List Constraint) (left whole : List Content) (First Holds : List Content → Type 0) → left ≡ [] → GivesLeft before after left whole First
    → ((later : List Content) → First later → Holds later) → Gives before after whole Holds
left_last before after left whole First Holds none so_far holds =
    subst (λ demands. Gives before after demands Holds) (sym (append-nil so_far.demands) ∙ ap (λ xs. so_far.demands ++ xs) (sym none) ∙ so_far.all)
    (gives_as before after so_far.demands First Holds so_far.gives holds)

-- LISTS

pub all_push : {X : Type 0} (P : X → Type 0) (xs : List X) (x : X) → AllByRecursion P xs → P x → AllByRecursion P (xs ++ x ∷ [])
all_push P [] x all is = (is, tt)
all_push P (y ∷ xs) x all is = (all.0, all_push P xs x all.1 is)

pub all_append : {X : Type 0} (P : X → Type 0) (xs ys : List X) → AllByRecursion P xs → AllByRecursion P ys → AllByRecursion P (xs ++ ys)
all_append P [] ys all more = more
all_append P (x ∷ xs) ys all more = (all.0, all_append P xs ys all.1 more)

pub all_at : {X : Type 0} (P : X → Type 0) (xs : List X) (i : ℕ) (d : X) → AllByRecursion P xs → i < length xs → P (get_or xs i d)
all_at P [] i d all below = absurd (omega arith)
all_at P (x ∷ xs) zero d all below = all.0
all_at P (x ∷ xs) (suc i) d all below = all_at P xs i d all.1 (omega arith)

-- one more of a mapped list
pub mapped_next : {X Y : Type 0} (f : X → Y) (xs : List X) (i : ℕ) (d : X) (so_far whole : List Y) (y : Y) → i < length xs → so_far ++ map f (drop i xs) ≡ whole → y ≡ f (get_or xs i d)
    → (so_far ++ y ∷ []) ++ map f (drop (i + 1) xs) ≡ whole
mapped_next f xs i d so_far whole y below e is =
    append_assoc so_far (y ∷ []) (map f (drop (i + 1) xs)) ∙ ap (λ z. so_far ++ z ∷ map f (drop (i + 1) xs)) is ∙ ap (λ ys. so_far ++ map f ys) (sym (drop_next xs i d below)) ∙ e

pub mapped_last : {X Y : Type 0} (f : X → Y) (xs : List X) (i : ℕ) (so_far whole : List Y) → length xs ≤ i → so_far ++ map f (drop i xs) ≡ whole → so_far ≡ whole
mapped_last f xs i so_far whole end e = sym (append-nil so_far) ∙ ap (λ ys. so_far ++ map f ys) (sym (drop_of_length-le xs end)) ∙ e

pub twice : {X Y Z : Type 0} (f : X → Y) (g : Y → Z) (xs : List X) → map g (map f xs) ≡ map (λ x. g (f x)) xs
twice f g [] = refl
twice f g (x ∷ xs) = ap (λ ys. g (f x) ∷ ys) (twice f g xs)

pub none_left : {X Y : Type 0} (f : X → List Y) (xs : List X) (i : ℕ) → length xs ≤ i → flat_map f (drop i xs) ≡ []
none_left f xs i end = ap (flat_map f) (drop_of_length-le xs end)

pub one_left : {X Y : Type 0} (f : X → List Y) (xs : List X) (i : ℕ) (d x : X) → i < length xs → x ≡ get_or xs i d → flat_map f (drop i xs) ≡ f x ++ flat_map f (drop (i + 1) xs)
one_left f xs i d x below is = ap (flat_map f) (drop_next xs i d below) ∙ ap (λ y. f y ++ flat_map f (drop (i + 1) xs)) (sym is)
