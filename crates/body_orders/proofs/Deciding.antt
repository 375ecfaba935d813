-- The tests tell which literals are ready, where a test tells which variables are bound.
use Rattle.std.proofs.Common.{◌≡◌, ◌⊎◌, inl, inr, ℕ, Bool, true, false, not, ◌&&◌, ◌||◌, List, Option, None, Some, refl, sym, ◌∙◌, ap, subst, true≢false, eqb-true}
use Rattle.symbols.specs.declared.rel.Rel.{Rel}
use Rattle.symbols.specs.declared.rel.Rel.TheVariants as r
use Rattle.syntax_tree.specs.declared.term.Term.{Term}
use Rattle.ground_model.specs.Members.{IsMember}
use Rattle.ground_model.proofs.Bools.{and_elim, and_intro, or_elim, or_left, or_right, bool_cases}
use Rattle.ground_model.proofs.MemberLemmas.{same_nat, all_member, all_from_members}
use Rattle.program_meaning.specs.Read.{PlainLiteral, PlainAtom, PlainCompare}
use Rattle.program_meaning.specs.Variables.{occurs, occurs_in, plain_variable, is_variable}
use Rattle.program_meaning.specs.Safety.{AllIn, Binds, IsReady}
use Rattle.body_orders.specs.inner.Ready.{all_in, gives, binds, is_ready}

-- WHAT THEY TELL

-- the test tells of each variable in the order whether it has the property
abbrev pub Tells : List ℕ → (ℕ → Type 0) → (ℕ → Bool) → Type 0
Tells order P bound = (n : ℕ) → IsMember order n → (P n → bound n ≡ true) × (bound n ≡ true → P n)

-- all variables of the term are in the order
abbrev pub IsListedTerm : List ℕ → Term → Type 0
IsListedTerm order term = (n : ℕ) → occurs n term ≡ true → IsMember order n

abbrev pub IsListed : List ℕ → PlainLiteral → Type 0
IsListed order literal = (n : ℕ) → occurs_in n literal ≡ true → IsMember order n

pub all_in_to : (order : List ℕ) (P : ℕ → Type 0) (test : ℕ → Bool) → Tells order P test → (term : Term) → AllIn P term → all_in order test term ≡ true
all_in_to order P test tells term all = all_from_members (λ n. not (occurs n term) || test n) order (λ n m. go n m (bool_cases (occurs n term)))
  where
    go : (n : ℕ) → IsMember order n → (occurs n term ≡ true) ⊎ (occurs n term ≡ false) → (not (occurs n term) || test n) ≡ true
    go n m (inl o) = or_right (not (occurs n term)) (test n) ((tells n m).0 (all n o))
    go n m (inr o) = or_left (not (occurs n term)) (test n) (ap not o)

pub all_in_from : (order : List ℕ) (P : ℕ → Type 0) (test : ℕ → Bool) → Tells order P test → (term : Term) → IsListedTerm order term → all_in order test term ≡ true → AllIn P term
all_in_from order P test tells term listed h n o =
    let m = listed n o in
    (tells n m).1 (go (or_elim (not (occurs n term)) (test n) (all_member (λ j. not (occurs j term) || test j) order n h m)))
  where
    go : (not (occurs n term) ≡ true) ⊎ (test n ≡ true) → test n ≡ true
    go (inl e) = absurd (true≢false (sym e ∙ ap not o))
    go (inr e) = e

-- a term that is a variable
variable_to : (term : Term) (n : ℕ) → plain_variable term ≡ Some n → is_variable n term ≡ true
variable_to term n e = go (plain_variable term) refl
  where
    go : (o : Option ℕ) → plain_variable term ≡ o → is_variable n term ≡ true
    go None f = absurd cc
    go (Some m) f = let same : m ≡ n = cc in rw f (same_nat m n same)

variable_from : (term : Term) (n : ℕ) → is_variable n term ≡ true → plain_variable term ≡ Some n
variable_from term n h = go (plain_variable term) refl
  where
    go : (o : Option ℕ) → plain_variable term ≡ o → plain_variable term ≡ Some n
    go None f = absurd (true≢false (sym h ∙ rw f refl))
    go (Some m) f = f ∙ ap (λ z. Some z) (eqb-true m n (sym (rw f refl) ∙ h))

-- WHAT A LITERAL BINDS

-- the sides of a comparison are listed
left_listed : (order : List ℕ) (left : Term) (rel : Rel) (right : Term) → IsListed order (PlainCompare left rel right) → IsListedTerm order left
left_listed order left rel right l n o = l n (or_left (occurs n left) (occurs n right) o)

right_listed : (order : List ℕ) (left : Term) (rel : Rel) (right : Term) → IsListed order (PlainCompare left rel right) → IsListedTerm order right
right_listed order left rel right l n o = l n (or_right (occurs n left) (occurs n right) o)

equation_to : (order : List ℕ) (P : ℕ → Type 0) (bound : ℕ → Bool) → Tells order P bound → (left right : Term) (n : ℕ)
    → ((plain_variable left ≡ Some n) × AllIn P right) ⊎ ((plain_variable right ≡ Some n) × AllIn P left) → gives order bound left r.Equal right n ≡ true
equation_to order P bound tells left right n (inl b) =
    or_left (is_variable n left && all_in order bound right) (is_variable n right && all_in order bound left)
    (and_intro (is_variable n left) (all_in order bound right) (variable_to left n b.0) (all_in_to order P bound tells right b.1))
equation_to order P bound tells left right n (inr b) =
    or_right (is_variable n left && all_in order bound right) (is_variable n right && all_in order bound left)
    (and_intro (is_variable n right) (all_in order bound left) (variable_to right n b.0) (all_in_to order P bound tells left b.1))

equation_from : (order : List ℕ) (P : ℕ → Type 0) (bound : ℕ → Bool) → Tells order P bound → (left right : Term) → IsListed order (PlainCompare left r.Equal right) → (n : ℕ)
    → gives order bound left r.Equal right n ≡ true → ((plain_variable left ≡ Some n) × AllIn P right) ⊎ ((plain_variable right ≡ Some n) × AllIn P left)
equation_from order P bound tells left right listed n h =
    go (or_elim (is_variable n left && all_in order bound right) (is_variable n right && all_in order bound left) h)
  where
    go : ((is_variable n left && all_in order bound right) ≡ true) ⊎ ((is_variable n right && all_in order bound left) ≡ true)
        → ((plain_variable left ≡ Some n) × AllIn P right) ⊎ ((plain_variable right ≡ Some n) × AllIn P left)
    go (inl e) =
        let a = and_elim (is_variable n left) (all_in order bound right) e in
        inl (variable_from left n a.0, all_in_from order P bound tells right (right_listed order left r.Equal right listed) a.1)
    go (inr e) =
        let a = and_elim (is_variable n right) (all_in order bound left) e in
        inr (variable_from right n a.0, all_in_from order P bound tells left (left_listed order left r.Equal right listed) a.1)

pub binds_to : (order : List ℕ) (P : ℕ → Type 0) (bound : ℕ → Bool) → Tells order P bound → (literal : PlainLiteral) (n : ℕ) → Binds P literal n → binds order bound literal n ≡ true
binds_to order P bound tells (PlainAtom term true) n b = b
binds_to order P bound tells (PlainAtom term false) n b = absurd b
binds_to order P bound tells (PlainCompare left rel right) n (e, b) = subst (λ q. gives order bound left q right n ≡ true) (sym e) (equation_to order P bound tells left right n b)

pub binds_from : (order : List ℕ) (P : ℕ → Type 0) (bound : ℕ → Bool) → Tells order P bound → (literal : PlainLiteral) → IsListed order literal → (n : ℕ)
    → binds order bound literal n ≡ true → Binds P literal n
binds_from order P bound tells (PlainAtom term true) listed n h = h
binds_from order P bound tells (PlainAtom term false) listed n h = absurd (true≢false (sym h))
binds_from order P bound tells (PlainCompare left r.Equal right) listed n h = (refl, equation_from order P bound tells left right listed n h)
binds_from order P bound tells (PlainCompare left rel right) listed n h = absurd (true≢false (sym h))

-- what is bound behind a literal is told
pub tells_more : (order : List ℕ) (P : ℕ → Type 0) (bound : ℕ → Bool) → Tells order P bound → (literal : PlainLiteral) → IsListed order literal
    → Tells order (λ n. P n ⊎ Binds P literal n) (λ n. bound n || binds order bound literal n)
tells_more order P bound tells literal listed n m = (to, from)
  where
    to : P n ⊎ Binds P literal n → (bound n || binds order bound literal n) ≡ true
    to (inl p) = or_left (bound n) (binds order bound literal n) ((tells n m).0 p)
    to (inr b) = or_right (bound n) (binds order bound literal n) (binds_to order P bound tells literal n b)

    from : (bound n || binds order bound literal n) ≡ true → P n ⊎ Binds P literal n
    from h = go (or_elim (bound n) (binds order bound literal n) h)
      where
        go : (bound n ≡ true) ⊎ (binds order bound literal n ≡ true) → P n ⊎ Binds P literal n
        go (inl e) = inl ((tells n m).1 e)
        go (inr e) = inr (binds_from order P bound tells literal listed n e)

-- WHICH LITERAL IS READY

pub ready_to : (order : List ℕ) (P : ℕ → Type 0) (bound : ℕ → Bool) → Tells order P bound → (literal : PlainLiteral) → IsListed order literal
    → IsReady P literal → is_ready order bound literal ≡ true
ready_to order P bound tells (PlainAtom term sign) listed ready =
    all_in_to order (λ n. P n ⊎ Binds P (PlainAtom term sign) n) (λ n. bound n || binds order bound (PlainAtom term sign) n) (tells_more order P bound tells (PlainAtom term sign) listed) term ready
ready_to order P bound tells (PlainCompare left rel right) listed ready =
    and_intro (all_in order (λ n. bound n || binds order bound (PlainCompare left rel right) n) left) (all_in order (λ n. bound n || binds order bound (PlainCompare left rel right) n) right)
    (all_in_to order (λ n. P n ⊎ Binds P (PlainCompare left rel right) n) (λ n. bound n || binds order bound (PlainCompare left rel right) n)
    (tells_more order P bound tells (PlainCompare left rel right) listed) left ready.0)
    (all_in_to order (λ n. P n ⊎ Binds P (PlainCompare left rel right) n) (λ n. bound n || binds order bound (PlainCompare left rel right) n)
    (tells_more order P bound tells (PlainCompare left rel right) listed) right ready.1)

pub ready_from : (order : List ℕ) (P : ℕ → Type 0) (bound : ℕ → Bool) → Tells order P bound → (literal : PlainLiteral) → IsListed order literal
    → is_ready order bound literal ≡ true → IsReady P literal
ready_from order P bound tells (PlainAtom term sign) listed h =
    all_in_from order (λ n. P n ⊎ Binds P (PlainAtom term sign) n) (λ n. bound n || binds order bound (PlainAtom term sign) n) (tells_more order P bound tells (PlainAtom term sign) listed) term listed h
ready_from order P bound tells (PlainCompare left rel right) listed h =
    let a = and_elim (all_in order (λ n. bound n || binds order bound (PlainCompare left rel right) n) left) (all_in order (λ n. bound n || binds order bound (PlainCompare left rel right) n) right) h in (
      all_in_from order (λ n. P n ⊎ Binds P (PlainCompare left rel right) n) (λ n. bound n || binds order bound (PlainCompare left rel right) n)
          (tells_more order P bound tells (PlainCompare left rel right) listed) left (left_listed order left rel right listed) a.0,
      all_in_from order (λ n. P n ⊎ Binds P (PlainCompare left rel right) n) (λ n. bound n || binds order bound (PlainCompare left rel right) n)
          (tells_more order P bound tells (PlainCompare left rel right) listed) right (right_listed order left rel right listed) a.1,
    )
