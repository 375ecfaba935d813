-- Texts in order, one more at a time.
use Rattle.std.proofs.Common.{◌≡◌, ℕ, zero, suc, ◌+◌, ◌-◌, ◌≤◌, ◌^◌, List, [], ◌∷◌, ◌++◌, length, take, Some, IfSome, refl, sym, ◌∙◌, ap, subst, arith}
use Rattle.std.specs.Prelude.{slice_get}
use Rattle.std.specs.declared.option.Option.{Option}
use Rattle.outside_io.specs.Outputs.{Input}
use Rattle.inputs.specs.Sizes.{size_of, AreSmall, AreTold}
use Rattle.std.proofs.lemmas.List.{length-append}

pub size-push : (texts : List (List ℕ)) (text : List ℕ) → size_of (texts ++ text ∷ []) ≡ size_of texts + length text
size-push [] text = omega arith
size-push (first ∷ rest) text = let more : size_of (rest ++ text ∷ []) ≡ size_of rest + length text = size-push rest text in omega (arith, more)

pub small-push : (texts : List (List ℕ)) (text : List ℕ) → AreSmall texts → length text ≤ 2 ^ 24 → AreSmall (texts ++ text ∷ [])
small-push [] text small one = (one, tt)
small-push (first ∷ rest) text small one = (small.0, small-push rest text small.1 one)

take-more : {X : Type 0} (xs : List X) (k : ℕ) (x : X) → slice_get xs k ≡ Some x → take (suc k) xs ≡ take k xs ++ x ∷ []
take-more [] k x here = cc
take-more (y ∷ ys) zero x here = let same : y ≡ x = cc in ap (λ z. z ∷ []) same
take-more (y ∷ ys) (suc k) x here = ap (λ l. y ∷ l) (take-more ys k x here)

pub take-one-more : {X : Type 0} (xs : List X) (k : ℕ) (x : X) → slice_get xs k ≡ Some x → take (k + 1) xs ≡ take k xs ++ x ∷ []
take-one-more xs k x here = let next : k + 1 ≡ suc k = omega arith in ap (λ n. take n xs) next ∙ take-more xs k x here

pub told-push : (files : Input) (names texts : List (List ℕ)) (name text : List ℕ) → AreTold files names texts
    → IfSome (files.text name) (λ told. text ≡ told) → AreTold files (names ++ name ∷ []) (texts ++ text ∷ [])
told-push files [] [] name text told one = (one, tt)
told-push files [] (t ∷ texts) name text told one = absurd told
told-push files (n ∷ names) [] name text told one = absurd told
told-push files (n ∷ names) (t ∷ texts) name text told one = (told.0, told-push files names texts name text told.1 one)

-- one text more is that of the next name
pub told-more : (files : Input) (names texts after : List (List ℕ)) (name text : List ℕ) (at : ℕ) → AreTold files (take at names) texts
    → slice_get names at ≡ Some name → IfSome (files.text name) (λ told. text ≡ told) → after ≡ texts ++ text ∷ []
    → AreTold files (take (at + 1) names) after
told-more files names texts after name text at told named one grew =
    subst (λ (l : List (List ℕ)). AreTold files l after) (sym (take-one-more names at name named))
    (subst (λ (l : List (List ℕ)). AreTold files (take at names ++ name ∷ []) l) (sym grew)
    (told-push files (take at names) texts name text told one))

pub small-more : (texts after : List (List ℕ)) (text : List ℕ) → AreSmall texts → length text ≤ 2 ^ 24 → after ≡ texts ++ text ∷ [] → AreSmall after
small-more texts after text small one grew = subst AreSmall (sym grew) (small-push texts text small one)

pub room-more : (texts after : List (List ℕ)) (text : List ℕ) (room n : ℕ) → room + size_of texts ≡ 2 ^ 26 → n ≡ length text → n ≤ room
    → after ≡ texts ++ text ∷ [] → room - n + size_of after ≡ 2 ^ 26
room-more texts after text room n before is within grew =
    let size : size_of after ≡ size_of texts + length text = ap size_of grew ∙ size-push texts text in
    omega (arith, before, is, within, size)

pub count-more : (texts after : List (List ℕ)) (text : List ℕ) (at : ℕ) → length texts ≡ at → after ≡ texts ++ text ∷ [] → length after ≡ at + 1
count-more texts after text at count grew = ap length grew ∙ length-append texts (text ∷ []) ∙ ap (λ k. k + 1) count

-- what is so of a text under a name is so of the same text
pub told-same : (f g : List ℕ → Option (List ℕ)) (name : List ℕ) (P : List ℕ → Type 0) → f ≡ g → IfSome (f name) P → IfSome (g name) P
told-same f g name P same holds = subst (λ (h : List ℕ → Option (List ℕ)). IfSome (h name) P) same holds

pub length-told : (files : Input) (names texts : List (List ℕ)) → AreTold files names texts → length texts ≡ length names
length-told files [] [] told = refl
length-told files [] (t ∷ texts) told = absurd told
length-told files (n ∷ names) [] told = absurd told
length-told files (n ∷ names) (t ∷ texts) told = ap suc (length-told files names texts told.1)
