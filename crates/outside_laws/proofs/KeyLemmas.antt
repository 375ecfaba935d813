-- The first instance that is outside.
use Rattle.std.proofs.Common.{◌≡◌, ◌⊎◌, inl, inr, List, [], ◌∷◌, ◌++◌}
use Rattle.std.specs.List.{AllByRecursion}
use Rattle.std.specs.declared.cmp.Ordering.{Ordering}
use Rattle.std.specs.declared.cmp.Ordering.TheVariants.{Less}
use Rattle.ground_model.specs.Members.{IsMember}
use Rattle.ground_model.proofs.MemberLemmas.{property_member}
use Rattle.program_meaning.specs.Ascending.{Ascends}
use Rattle.program_meaning.specs.Outside.{IsSomehowOutside}
use Rattle.program_meaning.specs.Substitution.{Key, key_cmp}
use Rattle.program_meaning.proofs.Lists.{append_from}
use Rattle.outside_laws.specs.Laws.{FirstOutsideLaw, NoneOutsideLaw}

behind : {X : Type 0} (order : X → X → Ordering) (xs : List X) (y : X) (zs : List X) → Ascends order (xs ++ y ∷ zs) → AllByRecursion (λ z. order y z ≡ Less) zs
behind order [] y zs a = a.0
behind order (x ∷ xs) y zs a = behind order xs y zs a.1

pub first_outside_law : FirstOutsideLaw
first_outside_law rules ends before after key rule cause listed none relevant is = record {
  outside = (rule, record { relevant = relevant; has = is.has; first = is.first });
  before = λ other somehow. go other somehow (append_from before (key ∷ after) other ((listed.all other).1 (somehow.0, somehow.1)));
}
  where
    go : (other : Key) → IsSomehowOutside rules ends other → IsMember before other ⊎ IsMember (key ∷ after) other → (other ≡ key) ⊎ (key_cmp key other ≡ Less)
    go other somehow (inl m) = absurd (property_member (λ k. IsSomehowOutside rules ends k → ⊥) before other none m somehow)
    go other somehow (inr (inl e)) = inl e
    go other somehow (inr (inr m)) = inr (property_member (λ k. key_cmp key k ≡ Less) after other (behind key_cmp before key after listed.ascend) m)

pub none_outside_law : NoneOutsideLaw
none_outside_law rules ends keys listed none key somehow = property_member (λ k. IsSomehowOutside rules ends k → ⊥) keys key none ((listed key).1 (somehow.0, somehow.1)) somehow
