-- Fields written one behind another.
use Rattle.std.proofs.Common.{◌≡◌, ℕ, List, [], ◌∷◌, ◌++◌, refl, sym, ◌∙◌, ap, append_assoc}
use Rattle.derivation.specs.Fields.{behind}

pub behind-append : (xs ys : List (List ℕ)) → behind (xs ++ ys) ≡ behind xs ++ behind ys
behind-append [] ys = refl
behind-append (x ∷ xs) ys = ap (λ l. 32 ∷ l) (ap (λ l. x ++ l) (behind-append xs ys) ∙ sym (append_assoc x (behind xs) (behind ys)))

pub joined : (out : List ℕ) (xs ys : List (List ℕ)) → (out ++ behind xs) ++ behind ys ≡ out ++ behind (xs ++ ys)
joined out xs ys = append_assoc out (behind xs) (behind ys) ∙ ap (λ l. out ++ l) (sym (behind-append xs ys))

pub joined3 : (out : List ℕ) (xs ys zs : List (List ℕ)) (o1 o2 : List ℕ) → o1 ≡ out ++ behind xs → o2 ≡ o1 ++ behind ys → o2 ++ behind zs ≡ out ++ behind (xs ++ (ys ++ zs))
joined3 out xs ys zs o1 o2 e1 e2 =
    ap (λ o. o ++ behind zs) e2 ∙ joined o1 ys zs ∙ ap (λ o. o ++ behind (ys ++ zs)) e1 ∙ joined out xs (ys ++ zs)
