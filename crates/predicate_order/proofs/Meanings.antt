-- What is reached is what the meaning says of predicates.
use Rattle.std.proofs.Common.{◌≡◌, ◌⊎◌, inl, inr, ℕ, zero, suc, Bool, true, false, List, [], ◌∷◌, ◌++◌, map, length, Some, if◌then◌else◌, refl, sym, ap, ◌∙◌, subst, true≢false}
use Rattle.std.specs.List.{flat_map, list_any}
use Rattle.syntax_tree.specs.declared.term.Part.{Part}
use Rattle.syntax_tree.specs.declared.term.Term.{Term, out-Term}
use Rattle.syntax_tree.specs.declared.term.Term.TheOpen.{Term-F}
use Rattle.ground_model.specs.Members.{IsMember}
use Rattle.ground_model.proofs.MemberLemmas.{any_member, member_any, member_map, map_member}
use Rattle.program_meaning.specs.Read.{PlainLiteral, PlainAtom, PlainCompare, ReadLiteral, ReadPlain, ReadTold, ReadChoice, ReadHead, ReadNothing, ReadAtom, ReadDuty, ReadChoose, ReadRule, plain_of, plains}
use Rattle.program_meaning.specs.Count.{choices_in}
use Rattle.program_meaning.specs.Predicates as meant
use Rattle.predicate_order.specs.declared.predicate.Predicate.{Predicate}
use Rattle.predicate_order.specs.declared.reading.Reads.{Reads}
use Rattle.predicate_order.specs.Ways.{said, named_in, named, positive_of, positives, NamedWay, from_other, at_once, ways_of, IsFrom, ReachedIn, IsReached, blocks, blocking, chosen, chosen_in, head_blocking, blocking_reads, stepping, steps_in, head_steps, step_reads, blocking_ways, step_ways}
use Rattle.predicate_order.specs.Judged.{AnyTurns}
use Rattle.predicate_order.proofs.Turns.{member_append, member_left, member_right, member_flat, flat_member}

-- ---- names

in_named : (layer : Term-F Term Part) (p : Predicate) → IsMember (named_in layer) p → meant.predicate_in layer ≡ Some (said p)
in_named (Term-F.Number n) p m = absurd m
in_named (Term-F.Text text) p m = absurd m
in_named (Term-F.Variable n) p m = absurd m
in_named Term-F.Anonymous p m = absurd m
in_named (Term-F.Function name args) p (inl e) = ap (λ q. Some (said q)) (sym e)
in_named (Term-F.Function name args) p (inr m) = absurd m
in_named (Term-F.Tuple args) p m = absurd m
in_named (Term-F.Sum parts) p m = absurd m
in_named (Term-F.Product parts) p m = absurd m
in_named (Term-F.Minus inner) p m = absurd m
in_named (Term-F.Interval left right) p m = absurd m

named_says : (term : Term) (p : Predicate) → IsMember (named term) p → meant.predicate term ≡ Some (said p)
named_says term p m = in_named (out-Term term) p m

abbrev IsNamed : List Predicate → meant.Predicate → Type 0
IsNamed ps q = (p : Predicate) × IsMember ps p × (said p ≡ q)

layer_named : (layer : Term-F Term Part) (q : meant.Predicate) → meant.predicate_in layer ≡ Some q → IsNamed (named_in layer) q
layer_named (Term-F.Number n) q e = absurd cc
layer_named (Term-F.Text text) q e = absurd cc
layer_named (Term-F.Variable n) q e = absurd cc
layer_named Term-F.Anonymous q e = absurd cc
layer_named (Term-F.Function name args) q e =
    let p : Predicate = record { name = name; count = length args } in
    let s : said p ≡ q = cc in (p, inl refl, s)
layer_named (Term-F.Tuple args) q e = absurd cc
layer_named (Term-F.Sum parts) q e = absurd cc
layer_named (Term-F.Product parts) q e = absurd cc
layer_named (Term-F.Minus inner) q e = absurd cc
layer_named (Term-F.Interval left right) q e = absurd cc

says_named : (term : Term) (q : meant.Predicate) → meant.predicate term ≡ Some q → IsNamed (named term) q
says_named term q e = layer_named (out-Term term) q e

said_one : (p q : Predicate) → said p ≡ said q → p ≡ q
said_one p q e = λ i. record { name = (e i).name; count = (e i).count }

-- ---- positive atoms

positive_at : (literal : PlainLiteral) (q : Predicate) → IsMember (positive_of literal) q → (term : Term) × (literal ≡ PlainAtom term true) × IsMember (named term) q
positive_at (PlainAtom term true) q m = (term, refl, m)
positive_at (PlainAtom term false) q m = absurd m
positive_at (PlainCompare left rel right) q m = absurd m

positive_has : (literals : List PlainLiteral) (q : Predicate) → IsMember (positives literals) q → meant.HasPositive literals (said q)
positive_has literals q m =
    let f = member_flat positive_of literals q m in
    let t = positive_at f.0 q f.2 in
    (t.0, subst (IsMember literals) t.1 f.1, named_says t.0 q t.2)

has_positive : (literals : List PlainLiteral) (q : meant.Predicate) → meant.HasPositive literals q → IsNamed (positives literals) q
has_positive literals q h =
    let r = says_named h.0 q h.2 in (r.0, flat_member positive_of literals (PlainAtom h.0 true) r.0 h.1 r.1, r.2)

-- ---- ways

abbrev ways_by : (ReadRule → List Reads) → List ReadRule → List NamedWay
ways_by f rules = flat_map (λ rule. flat_map ways_of (f rule)) rules

abbrev HasWay : (ReadRule → List Reads) → List ReadRule → NamedWay → Type 0
HasWay f rules way = (rule : ReadRule) × IsMember rules rule × ((reads : Reads) × IsMember (f rule) reads × IsMember (ways_of reads) way)

way_in : (f : ReadRule → List Reads) (rules : List ReadRule) (way : NamedWay) → IsMember (ways_by f rules) way → HasWay f rules way
way_in f rules way m =
    let a = member_flat (λ rule. flat_map ways_of (f rule)) rules way m in
    let b = member_flat ways_of (f a.0) way a.2 in (a.0, a.1, (b.0, b.1, b.2))

in_ways : (f : ReadRule → List Reads) (rules : List ReadRule) (way : NamedWay) → HasWay f rules way → IsMember (ways_by f rules) way
in_ways f rules way h =
    flat_member (λ rule. flat_map ways_of (f rule)) rules h.0 way h.1 (flat_member ways_of (f h.0) h.2.0 way h.2.1 h.2.2)

-- a way of what is read is at once, where it says so, or from another
abbrev IsWayOf : Reads → NamedWay → Type 0
IsWayOf reads way = ((reads.at_once ≡ true) × (way ≡ at_once reads.head)) ⊎ ((q : Predicate) × IsMember reads.others q × (way ≡ from_other reads.head q))

once_way : (b : Bool) (p : Predicate) (way : NamedWay) → IsMember (if b then at_once p ∷ [] else []) way → (b ≡ true) × (way ≡ at_once p)
once_way true p way (inl e) = (refl, e)
once_way true p way (inr m) = absurd m
once_way false p way m = absurd m

is_way : (reads : Reads) (way : NamedWay) → IsMember (ways_of reads) way → IsWayOf reads way
is_way reads way m =
    elim (member_append (if reads.at_once then at_once reads.head ∷ [] else []) (map (from_other reads.head) reads.others) way m) [
      | inl k ↦ inl (once_way reads.at_once reads.head way k)
      | inr k ↦ (let r = map_member (from_other reads.head) reads.others way k in inr (r.0, r.1, r.2))
    ]

way_once : (reads : Reads) → reads.at_once ≡ true → IsMember (ways_of reads) (at_once reads.head)
way_once reads e =
    member_left (if reads.at_once then at_once reads.head ∷ [] else []) (map (from_other reads.head) reads.others) (at_once reads.head)
    (subst (λ b. IsMember (if b then at_once reads.head ∷ [] else []) (at_once reads.head)) (sym e) (inl refl))

way_from : (reads : Reads) (q : Predicate) → IsMember reads.others q → IsMember (ways_of reads) (from_other reads.head q)
way_from reads q m =
    member_right (if reads.at_once then at_once reads.head ∷ [] else []) (map (from_other reads.head) reads.others) (from_other reads.head q)
    (member_map (from_other reads.head) reads.others q m)

-- ---- blocking

blocks_is : (P : meant.Predicate → Type 0) (literal : ReadLiteral) → blocks literal ≡ true → meant.IsBlocking P literal
blocks_is P (ReadTold theory sign) e = tt
blocks_is P (ReadPlain (PlainAtom term true)) e = absurd (true≢false (sym e))
blocks_is P (ReadPlain (PlainAtom term false)) e = tt
blocks_is P (ReadPlain (PlainCompare left rel right)) e = absurd (true≢false (sym e))

plain_in : (literal : ReadLiteral) (one : PlainLiteral) → IsMember (plain_of literal) one → literal ≡ ReadPlain one
plain_in (ReadPlain literal) one (inl e) = ap ReadPlain (sym e)
plain_in (ReadPlain literal) one (inr m) = absurd m
plain_in (ReadTold theory sign) one m = absurd m

in_body : (body : List ReadLiteral) (one : PlainLiteral) → IsMember (plains body) one → IsMember body (ReadPlain one)
in_body body one m = let f = member_flat plain_of body one m in subst (IsMember body) (plain_in f.0 one f.2) f.1

abbrev Blocks : (meant.Predicate → Type 0) → ReadRule → meant.Predicate → Type 0
Blocks P rule p =
    meant.ChoiceIsOf rule.head p ⊎ (meant.HeadIsOf rule.head p × ((literal : ReadLiteral) × IsMember rule.body literal × meant.IsBlocking P literal))

way_blocks : (P : meant.Predicate → Type 0) (Q : Predicate → Type 0) → ((q : Predicate) → Q q → P (said q)) → (rule : ReadRule) (head : ReadHead) → head ≡ rule.head
    → (reads : Reads) → IsMember (head_blocking head rule.body) reads → (way : NamedWay) → IsMember (ways_of reads) way → IsFrom Q way.from → Blocks P rule (said way.head)
way_blocks P Q f rule ReadNothing e reads m way w d = absurd m
way_blocks P Q f rule (ReadAtom term) e reads m way w d =
    let r = map_member (blocking rule.body) (named term) reads m in
    let same : reads.head ≡ r.0 = ap (λ (x : Reads). x.head) r.2 in
    let says : (way.head ≡ r.0) → meant.HeadIsOf rule.head (said way.head) = λ h. subst (λ v. meant.HeadIsOf v (said way.head)) e (named_says term r.0 r.1 ∙ ap (λ p. Some (said p)) (sym h)) in
    elim (is_way reads way w) [
      | inl k ↦ (
          let any = member_any blocks rule.body (sym (ap (λ (x : Reads). x.at_once) r.2) ∙ k.0) in
          inr (says (ap (λ (x : NamedWay). x.head) k.1 ∙ same), (any.0, any.1, blocks_is P any.0 any.2)))
      | inr k ↦ (
          let m : IsMember (positives (plains rule.body)) k.0 = subst (λ (x : Reads). IsMember x.others k.0) r.2 k.1 in
          let h = positive_has (plains rule.body) k.0 m in
          let from : IsFrom Q (Some k.0) = subst (λ (x : NamedWay). IsFrom Q x.from) k.2 d in
          inr (says (ap (λ (x : NamedWay). x.head) k.2 ∙ same), (ReadPlain (PlainAtom h.0 true), in_body rule.body (PlainAtom h.0 true) h.1, (said k.0, h.2, f k.0 from))))
    ]
way_blocks P Q f rule (ReadDuty theory) e reads m way w d = absurd m
way_blocks P Q f rule (ReadChoose left elements right) e reads m way w d =
    let a = member_flat chosen_in elements reads m in
    let r = map_member chosen (named a.0.atom) reads a.2 in
    let head : way.head ≡ r.0 = elim (is_way reads way w) [
      | inl k ↦ ap (λ (x : NamedWay). x.head) k.1 ∙ ap (λ (x : Reads). x.head) r.2
      | inr k ↦ ap (λ (x : NamedWay). x.head) k.2 ∙ ap (λ (x : Reads). x.head) r.2
    ] in
    inl (a.0, subst (λ v. IsMember (choices_in v) a.0) e a.1, named_says a.0.atom r.0 r.1 ∙ ap (λ p. Some (said p)) (sym head))

pub reached_blocked : (rules : List ReadRule) (rank : ℕ) (p : Predicate) → ReachedIn (blocking_ways rules) rank p → meant.BlockedAt rules rank (said p)
reached_blocked rules zero p d = absurd d
reached_blocked rules (suc rank) p d =
    let w = way_in blocking_reads rules d.0 d.1 in (
      w.0,
      w.1,
      subst (λ q. Blocks (meant.BlockedAt rules rank) w.0 (said q)) d.2
          (way_blocks (meant.BlockedAt rules rank) (ReachedIn (blocking_ways rules) rank) (reached_blocked rules rank) w.0 w.0.head refl w.2.0 w.2.1 d.0 w.2.2 d.3),
    )

-- back
abbrev HasWayTo : (Predicate → Type 0) → List Reads → Predicate → Type 0
HasWayTo Q all p = (reads : Reads) × IsMember all reads × ((way : NamedWay) × IsMember (ways_of reads) way × (way.head ≡ p) × IsFrom Q way.from)

is_blocking : (P : meant.Predicate → Type 0) (body : List ReadLiteral) (literal : ReadLiteral) → IsMember body literal → meant.IsBlocking P literal
    → (list_any blocks body ≡ true) ⊎ ((q : Predicate) × IsMember (positives (plains body)) q × P (said q))
is_blocking P body (ReadTold theory sign) m b = inl (any_member blocks body (ReadTold theory sign) m refl)
is_blocking P body (ReadPlain (PlainAtom term true)) m b =
    let r = says_named term b.0 b.1 in
    inr (
      r.0,
      flat_member positive_of (plains body) (PlainAtom term true) r.0 (flat_member plain_of body (ReadPlain (PlainAtom term true)) (PlainAtom term true) m (inl refl)) r.1,
      subst P (sym r.2) b.2,
    )
is_blocking P body (ReadPlain (PlainAtom term false)) m b = inl (any_member blocks body (ReadPlain (PlainAtom term false)) m refl)
is_blocking P body (ReadPlain (PlainCompare left rel right)) m b = absurd b

head_way : (P : meant.Predicate → Type 0) (Q : Predicate → Type 0) → ((q : Predicate) → P (said q) → Q q) → (head : ReadHead) (body : List ReadLiteral) (p : Predicate)
    → meant.HeadIsOf head (said p) → (literal : ReadLiteral) → IsMember body literal → meant.IsBlocking P literal → HasWayTo Q (head_blocking head body) p
head_way P Q f ReadNothing body p h literal m b = absurd h
head_way P Q f (ReadAtom term) body p h literal m b =
    let r = says_named term (said p) h in
    let same = said_one r.0 p r.2 in
    let reads = blocking body r.0 in
    elim (is_blocking P body literal m b) [
      | inl e ↦ (reads, member_map (blocking body) (named term) r.0 r.1, (at_once r.0, way_once reads e, same, tt))
      | inr k ↦ (reads, member_map (blocking body) (named term) r.0 r.1, (from_other r.0 k.0, way_from reads k.0 k.1, same, f k.0 k.2))
    ]
head_way P Q f (ReadDuty theory) body p h literal m b = absurd h
head_way P Q f (ReadChoose left elements right) body p h literal m b = absurd h

choice_way : (Q : Predicate → Type 0) (head : ReadHead) (body : List ReadLiteral) (p : Predicate) → meant.ChoiceIsOf head (said p) → HasWayTo Q (head_blocking head body) p
choice_way Q ReadNothing body p h = absurd h.1
choice_way Q (ReadAtom term) body p h = absurd h.1
choice_way Q (ReadDuty theory) body p h = absurd h.1
choice_way Q (ReadChoose left elements right) body p h =
    let r = says_named h.0.atom (said p) h.2 in (
      chosen r.0,
      flat_member chosen_in elements h.0 (chosen r.0) h.1 (member_map chosen (named h.0.atom) r.0 r.1),
      (at_once r.0, way_once (chosen r.0) refl, said_one r.0 p r.2, tt),
    )

pub blocked_reached : (rules : List ReadRule) (rank : ℕ) (p : Predicate) → meant.BlockedAt rules rank (said p) → ReachedIn (blocking_ways rules) rank p
blocked_reached rules zero p b = absurd b
blocked_reached rules (suc rank) p b =
    let Q : Predicate → Type 0 = ReachedIn (blocking_ways rules) rank in
    let w : HasWayTo Q (blocking_reads b.0) p = elim b.2 [
      | inl h ↦ choice_way Q b.0.head b.0.body p h
      | inr h ↦ head_way (meant.BlockedAt rules rank) Q (blocked_reached rules rank) b.0.head b.0.body p h.0 h.1.0 h.1.1 h.1.2
    ] in
    (w.2.0, in_ways blocking_reads rules w.2.0 (b.0, b.1, (w.0, w.1, w.2.1)), w.2.2, w.2.3)

-- ---- steps

steps_give_in : (rule : ReadRule) (head : ReadHead) → head ≡ rule.head → (reads : Reads) → IsMember (head_steps head (plains rule.body)) reads → (q : Predicate) → IsMember reads.others q
    → meant.GivesStep rule (said reads.head) (said q)
steps_give_in rule ReadNothing e reads m q o = absurd m
steps_give_in rule (ReadAtom term) e reads m q o =
    let r = map_member (stepping (positives (plains rule.body))) (named term) reads m in
    let o : IsMember (positives (plains rule.body)) q = subst (λ (x : Reads). IsMember x.others q) r.2 o in
    inl (
      subst (λ v. meant.HeadIsOf v (said reads.head)) e (named_says term r.0 r.1 ∙ ap (λ p. Some (said p)) (sym (ap (λ (x : Reads). x.head) r.2))),
      positive_has (plains rule.body) q o,
    )
steps_give_in rule (ReadDuty theory) e reads m q o = absurd m
steps_give_in rule (ReadChoose left elements right) e reads m q o =
    let a = member_flat (steps_in (plains rule.body)) elements reads m in
    let r = map_member (stepping (positives (plains rule.body) ++ positives a.0.condition)) (named a.0.atom) reads a.2 in
    let o : IsMember (positives (plains rule.body) ++ positives a.0.condition) q = subst (λ (x : Reads). IsMember x.others q) r.2 o in
    inr (
      a.0,
      subst (λ v. IsMember (choices_in v) a.0) e a.1,
      named_says a.0.atom r.0 r.1 ∙ ap (λ p. Some (said p)) (sym (ap (λ (x : Reads). x.head) r.2)),
      (elim (member_append (positives (plains rule.body)) (positives a.0.condition) q o) [
        | inl k ↦ inl (positive_has (plains rule.body) q k)
        | inr k ↦ inr (positive_has a.0.condition q k)
      ]),
    )

steps_give : (rule : ReadRule) (reads : Reads) (q : Predicate) → IsMember (step_reads rule) reads → IsMember reads.others q → meant.GivesStep rule (said reads.head) (said q)
steps_give rule reads q m o = steps_give_in rule rule.head refl reads m q o

abbrev ReadsStep : List Reads → meant.Predicate → meant.Predicate → Type 0
ReadsStep all p q = (reads : Reads) × IsMember all reads × (said reads.head ≡ p) × IsNamed reads.others q

head_gives : (head : ReadHead) (body : List PlainLiteral) (p q : meant.Predicate) → meant.HeadIsOf head p → meant.HasPositive body q → ReadsStep (head_steps head body) p q
head_gives ReadNothing body p q h k = absurd h
head_gives (ReadAtom term) body p q h k =
    let r = says_named term p h in
    (stepping (positives body) r.0, member_map (stepping (positives body)) (named term) r.0 r.1, r.2, has_positive body q k)
head_gives (ReadDuty theory) body p q h k = absurd h
head_gives (ReadChoose left elements right) body p q h k = absurd h

choice_gives : (head : ReadHead) (body : List PlainLiteral) (p q : meant.Predicate) (element : ReadChoice) → IsMember (choices_in head) element → meant.predicate element.atom ≡ Some p
    → (meant.HasPositive body q ⊎ meant.HasPositive element.condition q) → ReadsStep (head_steps head body) p q
choice_gives ReadNothing body p q element m h k = absurd m
choice_gives (ReadAtom term) body p q element m h k = absurd m
choice_gives (ReadDuty theory) body p q element m h k = absurd m
choice_gives (ReadChoose left elements right) body p q element m h k =
    let r = says_named element.atom p h in
    let others = positives body ++ positives element.condition in (
      stepping others r.0,
      flat_member (steps_in body) elements element (stepping others r.0) m (member_map (stepping others) (named element.atom) r.0 r.1),
      r.2,
      (elim k [
        | inl b ↦ (let s = has_positive body q b in (s.0, member_left (positives body) (positives element.condition) s.0 s.1, s.2))
        | inr b ↦ (let s = has_positive element.condition q b in (s.0, member_right (positives body) (positives element.condition) s.0 s.1, s.2))
      ]),
    )

gives_steps : (rule : ReadRule) (p q : meant.Predicate) → meant.GivesStep rule p q → ReadsStep (step_reads rule) p q
gives_steps rule p q (inl h) = head_gives rule.head (plains rule.body) p q h.0 h.1
gives_steps rule p q (inr h) = choice_gives rule.head (plains rule.body) p q h.0 h.1 h.2 h.3

-- no way of a step is at once
never_once : (head : ReadHead) (body : List PlainLiteral) (reads : Reads) → IsMember (head_steps head body) reads → reads.at_once ≡ false
never_once ReadNothing body reads m = absurd m
never_once (ReadAtom term) body reads m = ap (λ (x : Reads). x.at_once) (map_member (stepping (positives body)) (named term) reads m).2
never_once (ReadDuty theory) body reads m = absurd m
never_once (ReadChoose left elements right) body reads m =
    let a = member_flat (steps_in body) elements reads m in
    ap (λ (x : Reads). x.at_once) (map_member (stepping (positives body ++ positives a.0.condition)) (named a.0.atom) reads a.2).2

module _ (rules : List ReadRule) (start : Predicate) where
  abbrev all_ways : List NamedWay
  all_ways = step_ways rules ++ at_once start ∷ []

  abbrev Ends : meant.Predicate → Type 0
  Ends q = (q ≡ said start) ⊎ meant.Depends rules q (said start)

  step_ends : (p q : meant.Predicate) → meant.HasStep rules p q → Ends q → Ends p
  step_ends p q s (inl e) = inr (0, subst (λ v. meant.HasStep rules p v) e s)
  step_ends p q s (inr d) = inr (suc d.0, (q, s, d.1))

  reached_ends : (rank : ℕ) (q : Predicate) → ReachedIn all_ways rank q → Ends (said q)
  reached_ends zero q d = absurd d
  reached_ends (suc rank) q d =
      elim (member_append (step_ways rules) (at_once start ∷ []) d.0 d.1) [
        | inl m ↦ (
            let w = way_in step_reads rules d.0 m in
            elim (is_way w.2.0 d.0 w.2.2) [
              | inl k ↦ absurd (true≢false (sym k.0 ∙ never_once w.0.head (plains w.0.body) w.2.0 w.2.1))
              | inr k ↦ (
                  let from : IsFrom (ReachedIn all_ways rank) (Some k.0) = subst (λ (x : NamedWay). IsFrom (ReachedIn all_ways rank) x.from) k.2 d.3 in
                  let head : w.2.0.head ≡ q = sym (ap (λ (x : NamedWay). x.head) k.2) ∙ d.2 in
                  step_ends (said q) (said k.0)
                  (w.0, w.1, subst (λ v. meant.GivesStep w.0 (said v) (said k.0)) head (steps_give w.0 w.2.0 k.0 w.2.1 k.1)) (reached_ends rank k.0 from))
            ])
        | inr m ↦ inl (elim m [ inl e ↦ ap said (sym d.2 ∙ ap (λ (x : NamedWay). x.head) e) | inr n ↦ absurd n ])
      ]

  start_reached : (q : Predicate) → said q ≡ said start → IsReached all_ways q
  start_reached q e =
      (1, (at_once start, member_right (step_ways rules) (at_once start ∷ []) (at_once start) (inl refl), sym (said_one q start e), tt))

  step_reached : (q : Predicate) (r : meant.Predicate) → meant.HasStep rules (said q) r → ((p : Predicate) → said p ≡ r → IsReached all_ways p) → IsReached all_ways q
  step_reached q r s f =
      let g = gives_steps s.0 (said q) r s.2 in
      let n = f g.3.0 g.3.2 in (
        suc n.0,
        (
          from_other g.0.head g.3.0,
          member_left (step_ways rules) (at_once start ∷ []) (from_other g.0.head g.3.0)
              (in_ways step_reads rules (from_other g.0.head g.3.0) (s.0, s.1, (g.0, g.1, way_from g.0 g.3.0 g.3.1))),
          said_one g.0.head q g.2,
          n.1,
        ),
      )

  depends_reached : (more : ℕ) (q : Predicate) → meant.DependsIn rules more (said q) (said start) → IsReached all_ways q
  depends_reached zero q d = step_reached q (said start) d start_reached
  depends_reached (suc more) q d =
      step_reached q d.0 d.1 (λ p e. depends_reached more p (subst (λ v. meant.DependsIn rules more v (said start)) (sym e) d.2))

  pub ends_reached : (q : Predicate) → Ends (said q) → IsReached all_ways q
  ends_reached q (inl e) = start_reached q e
  ends_reached q (inr d) = depends_reached d.0 q d.1

-- a rule turns exactly where it is recursive
pub turns_recursive : (rules : List ReadRule) (rule : ReadRule) → AnyTurns (step_ways rules) (step_reads rule) → meant.IsRecursive rules rule
turns_recursive rules rule t =
    let r = t.2.2 in
    (said t.0.head, said t.2.0, steps_give rule t.0 t.2.0 t.1 t.2.1, reached_ends rules t.0.head r.0 t.2.0 r.1)

pub recursive_turns : (rules : List ReadRule) (rule : ReadRule) → meant.IsRecursive rules rule → AnyTurns (step_ways rules) (step_reads rule)
recursive_turns rules rule h =
    let g = gives_steps rule h.0 h.1 h.2 in
    let ends : (said g.3.0 ≡ said g.0.head) ⊎ meant.Depends rules (said g.3.0) (said g.0.head) =
    subst (λ v. (v ≡ said g.0.head) ⊎ meant.Depends rules v (said g.0.head)) (sym g.3.2)
    (subst (λ v. (h.1 ≡ v) ⊎ meant.Depends rules h.1 v) (sym g.2) h.3) in
    (g.0, g.1, (g.3.0, g.3.1, ends_reached rules g.0.head g.3.0 ends))
