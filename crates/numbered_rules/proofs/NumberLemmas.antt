-- Numbers by id, step by step.
use Rattle.std.proofs.Common.{◌≡◌, ℕ, zero, suc, Bool, List, [], ◌∷◌, ◌++◌, append_assoc, refl, ap}
use Rattle.ground_model.specs.declared.rule.BodyLit.{BodyLit}
use Rattle.ground_model.specs.declared.rule.BodyLit.TheVariants as b
use Rattle.ground_model.specs.declared.rule.GroundHead.TheVariants as g
use Rattle.numbered_rules.specs.inner.ByNumber.{literal_from, item_from, head_from}

pub literal_none : (n : ℕ) (sign : Bool) → n ≡ 0 → literal_from n sign ≡ []
literal_none n sign e = ap (λ k. literal_from k sign) e

pub literal_some : (n : ℕ) (sign : Bool) → (n ≡ 0 → ⊥) → literal_from n sign ≡ b.Atom n sign ∷ []
literal_some zero sign h = absurd (h refl)
literal_some (suc n) sign h = refl

pub item_none : (n : ℕ) (condition : List BodyLit) → n ≡ 0 → item_from n condition ≡ []
item_none n condition e = ap (λ k. item_from k condition) e

pub item_some : (n : ℕ) (condition : List BodyLit) → (n ≡ 0 → ⊥) → item_from n condition ≡ record { atom = n; condition = condition } ∷ []
item_some zero condition h = absurd (h refl)
item_some (suc n) condition h = refl

pub head_none : (n : ℕ) → n ≡ 0 → head_from n ≡ g.Nothing
head_none n e = ap head_from e

pub head_some : (n : ℕ) → (n ≡ 0 → ⊥) → head_from n ≡ g.Atom n
head_some zero h = absurd (h refl)
head_some (suc n) h = refl

pub append_three : {X : Type 0} (xs ys zs : List X) → (xs ++ ys) ++ zs ≡ xs ++ (ys ++ zs)
append_three xs ys zs = append_assoc xs ys zs
