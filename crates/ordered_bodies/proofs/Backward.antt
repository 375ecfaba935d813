-- Lists that are gone through from the end.
use Rattle.std.proofs.Common.{◌≡◌, ◌<◌, List, [], ◌∷◌, ◌++◌, map, length, reverse, refl, sym, ◌∙◌, ap, subst, arith}
use Rattle.std.specs.List.{AllByRecursion, AllZip}
use Rattle.std.proofs.lemmas.List.{append_assoc, append-nil, map-append, reverse-append, length-append}

-- what is left and what is done from the end are alike to all
abbrev pub Backward : {X Y : Type 0} → (X → Y → Type 0) → List X → List X → List Y → Type 0
Backward {X} {Y} R xs left done = (zs : List Y) → AllZip R left zs → AllZip R xs (zs ++ reverse done)

pub backward_start : {X Y : Type 0} (R : X → Y → Type 0) (xs : List X) (done : List Y) → done ≡ [] → Backward R xs xs done
backward_start R xs done e = λ zs h. subst (λ ys. AllZip R xs ys) (sym (append-nil zs) ∙ ap (λ ys. zs ++ reverse ys) (sym e)) h

zip_more : {X Y : Type 0} (R : X → Y → Type 0) (xs : List X) (ys : List Y) (x : X) (y : Y) → AllZip R xs ys → R x y → AllZip R (xs ++ x ∷ []) (ys ++ y ∷ [])
zip_more R [] [] x y all r = (r, tt)
zip_more R [] (z ∷ ys) x y all r = absurd all
zip_more R (z ∷ xs) [] x y all r = absurd all
zip_more R (z ∷ xs) (w ∷ ys) x y all r = (all.0, zip_more R xs ys x y all.1 r)

turned : {Y : Type 0} (zs done : List Y) (y : Y) → (zs ++ y ∷ []) ++ reverse done ≡ zs ++ reverse (done ++ y ∷ [])
turned zs done y = append_assoc zs (y ∷ []) (reverse done) ∙ ap (λ ys. zs ++ ys) (sym (reverse-append done (y ∷ [])))

pub backward_more : {A B X Y : Type 0} (R : X → Y → Type 0) (f : A → X) (g : B → Y) (xs : List X) (old new : List A) (done after : List B) (a : A) (b : B)
    → old ≡ new ++ a ∷ [] → after ≡ done ++ b ∷ [] → R (f a) (g b) → Backward R xs (map f old) (map g done) → Backward R xs (map f new) (map g after)
backward_more R f g xs old new done after a b left more r so =
    λ zs h. subst (λ ys. AllZip R xs (zs ++ reverse ys)) (sym (map-append g done (b ∷ [])) ∙ ap (map g) (sym more))
    (subst (λ ys. AllZip R xs ys) (turned zs (map g done) (g b)) (so (zs ++ g b ∷ []) (subst (λ ys. AllZip R ys (zs ++ g b ∷ [])) (sym (ap (map f) left ∙ map-append f new (a ∷ []))) (zip_more R (map f new) zs (f a) (g b) h r))))

map_reverse : {A B : Type 0} (g : A → B) (xs : List A) → reverse (map g xs) ≡ map g (reverse xs)
map_reverse g [] = refl
map_reverse g (x ∷ xs) =
    reverse-append (g x ∷ []) (map g xs) ∙ ap (λ ys. ys ++ g x ∷ []) (map_reverse g xs) ∙ sym (map-append g (reverse xs) (x ∷ [])) ∙ ap (map g) (sym (reverse-append (x ∷ []) xs))

pub backward_end : {A B X Y : Type 0} (R : X → Y → Type 0) (f : A → X) (g : B → Y) (xs : List X) (left : List A) (done after : List B) → left ≡ [] → after ≡ reverse done
    → Backward R xs (map f left) (map g done) → AllZip R xs (map g after)
backward_end R f g xs left done after none e so =
    subst (λ ys. AllZip R xs ys) (map_reverse g done ∙ ap (map g) (sym e)) (so [] (subst (λ ys. AllZip R (map f ys) []) (sym none) tt))

-- ALL

front_all : {X : Type 0} (P : X → Type 0) (xs ys : List X) → AllByRecursion P (xs ++ ys) → AllByRecursion P xs × AllByRecursion P ys
front_all P [] ys all = (tt, all)
front_all P (x ∷ xs) ys all = let r = front_all P xs ys all.1 in ((all.0, r.0), r.1)

pub all_left : {A X : Type 0} (P : X → Type 0) (f : A → X) (old new : List A) (a : A) → old ≡ new ++ a ∷ [] → AllByRecursion P (map f old) → AllByRecursion P (map f new) × P (f a)
all_left P f old new a e all =
    let r = front_all P (map f new) (f a ∷ []) (subst (AllByRecursion P) (ap (map f) e ∙ map-append f new (a ∷ [])) all) in (r.0, r.1.0)

pub fewer_left : {A : Type 0} (old new : List A) (a : A) → old ≡ new ++ a ∷ [] → length new < length old
fewer_left old new a e = let l = ap length e ∙ length-append new (a ∷ []) in omega (arith, l)
