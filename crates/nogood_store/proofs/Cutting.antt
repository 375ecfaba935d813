-- The literals that were looked at, cut off behind.
use Rattle.std.proofs.Common.{◌≡◌, ℕ, zero, suc, ◌+◌, ◌-◌, ◌<◌, ◌≤◌, ◌⊎◌, inl, inr, Bool, true, false, List, [], ◌∷◌, ◌++◌, length, get_or, refl, sym, ◌∙◌, ap, subst, arith, length-append}
use Rattle.std.specs.Prelude.{nat_lt}
use Rattle.std.specs.List.{AllByRecursion}
use Rattle.std.proofs.lemmas.List.{get_or_append_left}
use Rattle.std.proofs.Math.Seq.{get_or-append_seam}
use Rattle.std.proofs.lemmas.Bool.Decides.{nat_tests}
use Rattle.nogood_store.specs.declared.slot.Slot.{Slot}
use Rattle.nogood_store.specs.declared.watching.Look.{Look}
use Rattle.nogood_store.specs.declared.watching.Watching.{Watching}
use Rattle.nogood_store.specs.Holding.{Seen, IsFront}
use Rattle.nogood_store.specs.inner.Watching.{looks_of, below, Climbs, EndsBelow, EndsAbove, IsStored, IsLeft}
use Rattle.nogood_store.proofs.HeldLaws.{get_any}
use Rattle.nogood_store.proofs.Moments.{below_out}
use Rattle.nogood_store.proofs.Ending.{climbs_front, front_trans, under_all, cut_stored, left_stored}

looks_push : (ls : List Look) (k : Look) → looks_of (ls ++ k ∷ []) ≡ looks_of ls ++ record { lit = k.lit; level = k.level } ∷ []
looks_push [] k = refl
looks_push (x ∷ xs) k = ap (λ (zs : List Seen). record { lit = x.lit; level = x.level } ∷ zs) (looks_push xs k)

length-looks : (ls : List Look) → length (looks_of ls) ≡ length ls
length-looks [] = refl
length-looks (x ∷ xs) = ap suc (length-looks xs)

look_level : (ls : List Look) (k : ℕ) (d : Look) (e : Seen) → k < length ls → (get_or (looks_of ls) k e).level ≡ (get_or ls k d).level
look_level [] k d e h = absurd (omega arith)
look_level (x ∷ xs) zero d e h = refl
look_level (x ∷ xs) (suc k) d e h = look_level xs k d e (omega arith)

pub front_own : (seen : List Seen) → IsFront seen seen
front_own seen = ([], whole seen)
  where
    whole : (xs : List Seen) → xs ≡ xs ++ []
    whole [] = refl
    whole (x ∷ xs) = ap (λ (ys : List Seen). x ∷ ys) (whole xs)

-- the last one taken off
pub popped_front : (all old new : List Look) (x : Look) → old ≡ new ++ x ∷ [] → IsFront (looks_of old) (looks_of all) → IsFront (looks_of new) (looks_of all)
popped_front all old new x e f = front_trans (looks_of new) (looks_of old) (looks_of all) (record { lit = x.lit; level = x.level } ∷ [], ap looks_of e ∙ looks_push new x) f

pub popped_below : (low : ℕ) (all old new : List Look) (x : Look) → old ≡ new ++ x ∷ [] → low ≤ x.level → below low (looks_of old) ≡ below low (looks_of all) → below low (looks_of new) ≡ below low (looks_of all)
popped_below low all old new x e h b =
    sym (below_out low (looks_of new) (record { lit = x.lit; level = x.level }) h)
    ∙ ap (λ (ss : List Seen). below low ss) (sym (ap looks_of e ∙ looks_push new x))
    ∙ b

pub popped_level : (low : ℕ) (old new : List Look) (x d : Look) (at : ℕ) → old ≡ new ++ x ∷ [] → at + 1 ≡ length old → low ≤ (get_or old at d).level → low ≤ x.level
popped_level low old new x d at e h le =
    let size : at ≡ length new = omega (arith, h, ap length e, length-append new (x ∷ [])) in
    let last : get_or old at d ≡ x = ap (λ (ls : List Look). get_or ls at d) e ∙ ap (λ (k : ℕ). get_or (new ++ x ∷ []) k d) size ∙ get_or-append_seam new x [] d in
    subst (λ (k : Look). low ≤ k.level) last le

-- all that are left are below the level
all_levels : (m : ℕ) (ls : List Look) → AllByRecursion (λ r. r.level < m) (looks_of ls) → (k : ℕ) (d : Look) → k < length ls → (get_or ls k d).level < m
all_levels m [] a k d h = absurd (omega arith)
all_levels m (x ∷ xs) a zero d h = a.0
all_levels m (x ∷ xs) a (suc k) d h = all_levels m xs a.1 k d (omega arith)

last_under : (m : ℕ) (ls : List Look) → (length ls ≡ 0) ⊎ ((d : Look) → (get_or ls (length ls - 1) d).level < m) → (e : Look) → (length (looks_of ls) ≡ 0) ⊎ ((d : Seen) → (get_or (looks_of ls) (length (looks_of ls) - 1) d).level < m)
last_under m [] h e = inl refl
last_under m (x ∷ xs) (inl z) e = absurd (omega (arith, z))
last_under m (x ∷ xs) (inr f) e =
    inr (λ d. subst (λ (n : ℕ). n < m)
    (sym (ap (λ (n : ℕ). (get_or (looks_of (x ∷ xs)) (n - 1) d).level) (length-looks (x ∷ xs)) ∙ look_level (x ∷ xs) (length (x ∷ xs) - 1) e d (omega arith)))
    (f e))

some_look : (ls : List Look) → (length ls ≡ 0) ⊎ Look
some_look [] = inl refl
some_look (x ∷ xs) = inr x

pub left_under : (m : ℕ) (ls : List Look) → Climbs (looks_of ls) → (length ls ≡ 0) ⊎ ((d : Look) → (get_or ls (length ls - 1) d).level < m) → AllByRecursion (λ r. r.level < m) (looks_of ls)
left_under m ls c h = cases (some_look ls)
  where
    cases : (length ls ≡ 0) ⊎ Look → AllByRecursion (λ r. r.level < m) (looks_of ls)
    cases (inl e) = under_all m (looks_of ls) c (inl (length-looks ls ∙ e))
    cases (inr x) = under_all m (looks_of ls) c (last_under m ls h x)

pub cut_levels : (all new : List Look) (m : ℕ) → IsFront (looks_of new) (looks_of all) → (length new ≡ 0) ⊎ ((d : Look) → (get_or new (length new - 1) d).level < m) → Climbs (looks_of all) → (k : ℕ) (d : Look) → k < length new → (get_or new k d).level < m
cut_levels all new m f h c k d l = all_levels m new (left_under m new (climbs_front (looks_of new) f.0 (subst Climbs f.1 c)) h) k d l

pub cut_done : (slots : List Slot) (w v : Watching) → 1 ≤ w.low → v ≡ record w { looked = v.looked } → IsFront (looks_of v.looked.items) (looks_of w.looked.items) → below w.low (looks_of v.looked.items) ≡ below w.low (looks_of w.looked.items) → (length v.looked.items ≡ 0) ⊎ ((d : Look) → (get_or v.looked.items (length v.looked.items - 1) d).level < w.low) → IsLeft slots w → IsStored slots v
cut_done slots w v one same f b h x = cut_stored slots w v one same f b (left_under w.low v.looked.items (climbs_front (looks_of v.looked.items) f.0 (subst Climbs f.1 x.climbs)) h) x

pub cut_within : (old new : List Look) (most : ℕ) (d : Look) → IsFront (looks_of new) (looks_of old) → ((k : ℕ) (e : Look) → k < length new → (get_or new k e).level < (get_or old most d).level) → most < length old → length new ≤ most
cut_within old new most d f h l = cases (nat_lt most (length new)) refl
  where
    e : Seen
    e = record { lit = d.lit; level = d.level }

    same : most < length new → (get_or old most d).level ≡ (get_or new most d).level
    same k =
        sym (look_level old most d e l)
        ∙ ap (λ (ss : List Seen). (get_or ss most e).level) f.1
        ∙ ap (λ (s : Seen). s.level) (get_or_append_left (looks_of new) f.0 e most (omega (arith, k, length-looks new)))
        ∙ look_level new most d e k

    cases : (b : Bool) → nat_lt most (length new) ≡ b → length new ≤ most
    cases false g = grind (arith, nat_tests)
    cases true g =
        let k : most < length new = grind (arith, nat_tests) in
        let less : (get_or new most d).level < (get_or old most d).level = h most d k in
        absurd (omega (arith, less, same k))

-- the level below which all is kept says nothing between calls
pub stored_low : (slots : List Slot) (w v : Watching) → v ≡ record w { low = v.low } → IsStored slots w → IsStored slots v
stored_low slots w v e x = subst (IsStored slots) (sym e) (record { ascend = x.ascend; climbs = x.climbs; places = x.places; watching = x.watching })

pub left_low : (slots : List Slot) (w v : Watching) → v ≡ record w { low = v.low } → IsStored slots w → IsLeft slots v
left_low slots w v e x = left_stored slots v (stored_low slots w v e x)

-- the last that was looked at
pub ends_above : (m at : ℕ) (ls : List Look) (x : Look) → at + 1 ≡ length ls → x ≡ get_or ls at x → m ≤ x.level → EndsAbove m ls
ends_above m at ls x h is le =
    let place : at ≡ length ls - 1 = omega (arith, h) in
    (omega (arith, h), λ d. subst (λ (k : Look). m ≤ k.level) (is ∙ get_any ls at x d (omega (arith, h)) ∙ ap (λ (i : ℕ). get_or ls i d) place) le)

pub ends_below : (m at : ℕ) (ls : List Look) (x : Look) → at + 1 ≡ length ls → x ≡ get_or ls at x → x.level < m → EndsBelow m ls
ends_below m at ls x h is le =
    let place : at ≡ length ls - 1 = omega (arith, h) in
    inr (λ d. subst (λ (k : Look). k.level < m) (is ∙ get_any ls at x d (omega (arith, h)) ∙ ap (λ (i : ℕ). get_or ls i d) place) le)

split_look : (x : Look) (xs : List Look) → (front : List Look) × (s : Look) × (x ∷ xs ≡ front ++ s ∷ [])
split_look x [] = ([], x, refl)
split_look x (y ∷ ys) = let rest = split_look y ys in (x ∷ rest.0, rest.1, ap (λ (zs : List Look). x ∷ zs) rest.2)

split_looks : (ls : List Look) → 1 ≤ length ls → (front : List Look) × (s : Look) × (ls ≡ front ++ s ∷ [])
split_looks [] h = absurd (omega (arith, h))
split_looks (x ∷ xs) h = split_look x xs

pub record Popped (low : ℕ) (all old new : List Look) : Type 0 where
  pub front : IsFront (looks_of new) (looks_of all)
  pub below : below low (looks_of new) ≡ below low (looks_of all)
  pub shorter : length new + 1 ≡ length old

pub popped : (low : ℕ) (all old new : List Look) → EndsAbove low old → ((front : List Look) → (last : Look) → old ≡ front ++ last ∷ [] → new ≡ front) → IsFront (looks_of old) (looks_of all) → below low (looks_of old) ≡ below low (looks_of all) → Popped low all old new
popped low all old new a cut f b =
    let parts = split_looks old a.0 in
    let e : old ≡ new ++ parts.1 ∷ [] = parts.2 ∙ ap (λ (fs : List Look). fs ++ parts.1 ∷ []) (sym (cut parts.0 parts.1 parts.2)) in
    let size : length new + 1 ≡ length old = omega (arith, ap (λ (ls : List Look). length ls) e, length-append new (parts.1 ∷ [])) in
    let le : low ≤ parts.1.level = popped_level low old new parts.1 parts.1 (length old - 1) e (omega (arith, size)) (a.1 parts.1) in
    record {
      front = popped_front all old new parts.1 e f;
      below = popped_below low all old new parts.1 e le b;
      shorter = size;
    }
