-- A claim on the words of a term, each by itself, is the claim that its form makes of them; and the tidied term keeps it.
use Rattle.std.specs.Prelude.{ℕ, zero, suc, List, [], ◌∷◌, map}
use Rattle.std.specs.List.{AllByRecursion}
use Rattle.grammar.specs.declared.mark.Mark.TheVariants as m
use Rattle.grammar.specs.Word.{Word}
use Rattle.grammar.specs.Word as word
use Rattle.grammar.specs.Row.{Row, row_words, tail_words}
use Rattle.grammar.specs.Term.{Adding, Multiplying, ProductOf, SumOf, TermOf, ArgsOf, AtomOf, UnaryOf, Operand, Room, alone, interval, plain, applied, negated, number, text, variable, anonymous, atom, unit, group, single, tuple, adding_word, multiplying_word, comma_word, product_words, sum_words, term_words, args_words, atom_words, unary_words, operand_words}
use Rattle.grammar.specs.AllWords.{AllItems, AllTerm, AllArgs, AllAtom, AllUnary, AllOperand}
use Rattle.grammar.specs.Tidied.{map_row, map_term, map_args, map_atom, map_unary, lifted, Tidied, operand, product, sum, range, row_of, one, as_operand, as_product, as_sum, opened, tidied_part, product_by, tidied_product, tidied_item, lone_by, whole_by, end_lone_by, end_by, tidied_whole, as_term, ungrouped, Below, from_below, bracketed, tidied_term, tidied_args, tidied_atom, tidied_unary, tidied}

-- ---- rows whose items are made anew
module _ {I J S : Type 0} (f : I → J) (before : I → Type 0) (after : J → Type 0) (keeps : (x : I) → before x → after (f x)) where
  all_rest : (parts : List (S × I)) → AllByRecursion (λ (p : S × I). before p.1) parts → AllByRecursion (λ (p : S × J). after p.1) (map (λ (p : S × I). (p.0, f p.1)) parts)
  all_rest [] h = tt
  all_rest (part ∷ parts) h = (keeps part.1 h.0, all_rest parts h.1)

  pub all_row : (row : Row I S) → AllItems before row → AllItems after (map_row f row)
  all_row row h = (keeps row.first h.0, all_rest row.rest h.1)

module _ {U V : Type 0} (f : U → V) (before : U → Type 0) (after : V → Type 0) (keeps : (x : U) → before x → after (f x)) where
  all_product : (row : ProductOf U) → AllItems before row → AllItems after (map_row f row)
  all_product = all_row f before after keeps

  all_sum : (row : SumOf U) → AllItems (AllItems before) row → AllItems (AllItems after) (map_row (map_row f) row)
  all_sum = all_row (map_row f) (AllItems before) (AllItems after) all_product

  all_term : (x : TermOf U) → AllTerm before x → AllTerm after (map_term f x)
  all_term (alone s) h = all_sum s h
  all_term (interval left right) h = (all_sum left h.0, all_sum right h.1)

  all_args : (args : ArgsOf U) → AllArgs before args → AllArgs after (map_args f args)
  all_args = all_row (map_term f) (AllTerm before) (AllTerm after) all_term

-- ---- a tidied form: a claim on its operands, and one on those that stand deeper
abbrev AllTidied : {U V : Type 0} → (U → Type 0) → (V → Type 0) → Tidied U V → Type 0
AllTidied claim below (operand u) = claim u
AllTidied claim below (product first part parts) = AllItems below (row_of first (part ∷ parts))
AllTidied claim below (sum first part parts) = AllItems (AllItems below) (row_of first (part ∷ parts))
AllTidied claim below (range left right) = AllItems (AllItems below) left × AllItems (AllItems below) right

module _ {U V : Type 0} (deeper : V → U) (brackets : TermOf V → U) (claim : U → Type 0) (below : V → Type 0)
    (up : (v : V) → below v → claim (deeper v)) (inside : (x : TermOf V) → AllTerm below x → claim (brackets x)) where
  all_as_operand : (s : Tidied U V) → AllTidied claim below s → claim (as_operand deeper brackets s)
  all_as_operand (operand u) h = h
  all_as_operand (product first part parts) h = inside (alone (one (row_of first (part ∷ parts)))) (h, tt)
  all_as_operand (sum first part parts) h = inside (alone (row_of first (part ∷ parts))) h
  all_as_operand (range left right) h = inside (interval left right) h

  all_as_product : (s : Tidied U V) → AllTidied claim below s → AllItems claim (as_product deeper brackets s)
  all_as_product (operand u) h = (h, tt)
  all_as_product (product first part parts) h = all_product deeper below claim up (row_of first (part ∷ parts)) h
  all_as_product (sum first part parts) h = (inside (alone (row_of first (part ∷ parts))) h, tt)
  all_as_product (range left right) h = (inside (interval left right) h, tt)

  all_as_sum : (s : Tidied U V) → AllTidied claim below s → AllItems (AllItems claim) (as_sum deeper brackets s)
  all_as_sum (operand u) h = ((h, tt), tt)
  all_as_sum (product first part parts) h = (all_product deeper below claim up (row_of first (part ∷ parts)) h, tt)
  all_as_sum (sum first part parts) h = all_sum deeper below claim up (row_of first (part ∷ parts)) h
  all_as_sum (range left right) h = ((inside (interval left right) h, tt), tt)

  all_opened : (s : Tidied U V) → AllTidied claim below s → AllTidied claim claim (opened deeper brackets s)
  all_opened (operand u) h = h
  all_opened (product first part parts) h = all_product deeper below claim up (row_of first (part ∷ parts)) h
  all_opened (sum first part parts) h = all_sum deeper below claim up (row_of first (part ∷ parts)) h
  all_opened (range left right) h = (all_sum deeper below claim up left h.0, all_sum deeper below claim up right h.1)

  module _ (tidy : U → Tidied U V) (law : (u : U) → claim u → AllTidied claim below (tidy u)) where
    all_placed : (u : U) → claim u → claim (as_operand deeper brackets (tidy u))
    all_placed u h = all_as_operand (tidy u) (law u h)

    all_parts : (parts : List (Multiplying × U)) → AllByRecursion (λ (p : Multiplying × U). claim p.1) parts → AllByRecursion (λ (p : Multiplying × U). claim p.1) (map (tidied_part deeper brackets tidy) parts)
    all_parts [] h = tt
    all_parts (part ∷ parts) h = (all_placed part.1 h.0, all_parts parts h.1)

    all_by : (first : U) (parts : List (Multiplying × U)) → claim first → AllByRecursion (λ (p : Multiplying × U). claim p.1) parts → AllItems claim (product_by deeper brackets tidy first parts)
    all_by first [] h k = all_as_product (tidy first) (law first h)
    all_by first (part ∷ parts) h k = (all_placed first h, all_parts (part ∷ parts) k)

    all_tidied_product : (row : ProductOf U) → AllItems claim row → AllItems claim (tidied_product deeper brackets tidy row)
    all_tidied_product row h = all_by row.first row.rest h.0 h.1

    all_items : (parts : List (Adding × ProductOf U)) → AllByRecursion (λ (p : Adding × ProductOf U). AllItems claim p.1) parts
        → AllByRecursion (λ (p : Adding × ProductOf U). AllItems claim p.1) (map (tidied_item deeper brackets tidy) parts)
    all_items [] h = tt
    all_items (part ∷ parts) h = (all_tidied_product part.1 h.0, all_items parts h.1)

    all_lone : (first : U) (parts : List (Multiplying × U)) → claim first → AllByRecursion (λ (p : Multiplying × U). claim p.1) parts → AllTidied claim claim (lone_by deeper brackets tidy first parts)
    all_lone first [] h k = all_opened (tidy first) (law first h)
    all_lone first (part ∷ parts) h k = all_by first (part ∷ parts) h k

    all_whole_by : (first : ProductOf U) (parts : List (Adding × ProductOf U)) → AllItems claim first → AllByRecursion (λ (p : Adding × ProductOf U). AllItems claim p.1) parts
        → AllTidied claim claim (whole_by deeper brackets tidy first parts)
    all_whole_by first [] h k = all_lone first.first first.rest h.0 h.1
    all_whole_by first (part ∷ parts) h k = (all_tidied_product first h, all_items (part ∷ parts) k)

    all_end_lone : (first : U) (parts : List (Multiplying × U)) → claim first → AllByRecursion (λ (p : Multiplying × U). claim p.1) parts
        → AllItems (AllItems claim) (end_lone_by deeper brackets tidy first parts)
    all_end_lone first [] h k = all_as_sum (tidy first) (law first h)
    all_end_lone first (part ∷ parts) h k = (all_by first (part ∷ parts) h k, tt)

    all_end_by : (first : ProductOf U) (parts : List (Adding × ProductOf U)) → AllItems claim first → AllByRecursion (λ (p : Adding × ProductOf U). AllItems claim p.1) parts
        → AllItems (AllItems claim) (end_by deeper brackets tidy first parts)
    all_end_by first [] h k = all_end_lone first.first first.rest h.0 h.1
    all_end_by first (part ∷ parts) h k = (all_tidied_product first h, all_items (part ∷ parts) k)

    all_whole : (x : TermOf U) → AllTerm claim x → AllTidied claim claim (tidied_whole deeper brackets tidy x)
    all_whole (alone s) h = all_whole_by s.first s.rest h.0 h.1
    all_whole (interval left right) h = (all_end_by left.first left.rest h.0.0 h.0.1, all_end_by right.first right.rest h.1.0 h.1.1)

all_as_term : {U : Type 0} (claim : U → Type 0) (s : Tidied U U) → AllTidied claim claim s → AllTerm claim (as_term s)
all_as_term claim (operand u) h = ((h, tt), tt)
all_as_term claim (product first part parts) h = (h, tt)
all_as_term claim (sum first part parts) h = h
all_as_term claim (range left right) h = h

all_ungrouped : {U W V : Type 0} (up : U → W) (claim : U → Type 0) (higher : W → Type 0) (below : V → Type 0) → ((u : U) → claim u → higher (up u)) → (s : Tidied U V) → AllTidied claim below s → AllTidied higher below (ungrouped up s)
all_ungrouped up claim higher below keeps (operand u) h = keeps u h
all_ungrouped up claim higher below keeps (product first part parts) h = h
all_ungrouped up claim higher below keeps (sum first part parts) h = h
all_ungrouped up claim higher below keeps (range left right) h = h

module _ (claim : Word → Type 0) where
  -- ---- a form and its words
  -- where all words of a form and behind it have the claim, the form's do and those behind it do
  abbrev pub Gives : {A : Type 0} → (A → List Word → List Word) → (A → Type 0) → Type 0
  Gives {A} words all = (a : A) (rest : List Word) → AllByRecursion claim (words a rest) → all a × AllByRecursion claim rest

  module _ {I S : Type 0} (words : I → List Word → List Word) (sign : S → Word) (all : I → Type 0) (gives : Gives words all) where
    tail_gives : (parts : List (S × I)) (rest : List Word) → AllByRecursion claim (tail_words words sign parts rest) → AllByRecursion (λ (p : S × I). all p.1) parts × AllByRecursion claim rest
    tail_gives [] rest h = (tt, h)
    tail_gives (part ∷ parts) rest h =
        let here = gives part.1 (tail_words words sign parts rest) h.1 in
        let there = tail_gives parts rest here.1 in
        ((here.0, there.0), there.1)

    pub row_gives : Gives (row_words words sign) (AllItems all)
    row_gives row rest h =
        let here = gives row.first (tail_words words sign row.rest rest) h in
        let there = tail_gives row.rest rest here.1 in
        ((here.0, there.0), there.1)

  module _ {U : Type 0} (words : U → List Word → List Word) (all : U → Type 0) (gives : Gives words all) where
    sum_gives : Gives (sum_words words) (AllItems (AllItems all))
    sum_gives = row_gives (product_words words) adding_word (AllItems all) (row_gives words multiplying_word all gives)

    pub term_gives : Gives (term_words words) (AllTerm all)
    term_gives (alone s) rest h = sum_gives s rest h
    term_gives (interval left right) rest h =
        let a = sum_gives left (word.mark m.Dots ∷ sum_words words right rest) h in
        let b = sum_gives right rest a.1.1 in
        ((a.0, b.0), b.1)

    args_give : Gives (args_words words) (AllArgs all)
    args_give = row_gives (term_words words) comma_word (AllTerm all) term_gives

  module _ {D : Type 0} (words : D → List Word → List Word) (all : D → Type 0) (gives : Gives words all) where
    pub atom_gives : Gives (atom_words words) (AllAtom claim all)
    atom_gives (plain name) rest h = h
    atom_gives (applied name args) rest h =
        let a = args_give words all gives args (word.mark m.Close ∷ rest) h.1.1 in
        ((h.0, a.0), a.1.1)

    unary_gives : {R : Type 0} → Gives {A = UnaryOf D R} (unary_words words) (AllUnary claim all)
    unary_gives (negated d) rest h = gives d rest h.1
    unary_gives (number n) rest h = h
    unary_gives (text bytes) rest h = h
    unary_gives (variable name) rest h = h
    unary_gives anonymous rest h = h
    unary_gives (atom a) rest h = atom_gives a rest h
    unary_gives (unit room) rest h = (tt, h.1.1)
    unary_gives (group x) rest h =
        let a = term_gives words all gives x (word.mark m.Close ∷ rest) h.1 in
        (a.0, a.1.1)
    unary_gives (single x) rest h =
        let a = term_gives words all gives x (word.mark m.Comma ∷ word.mark m.Close ∷ rest) h.1 in
        (a.0, a.1.1.1)
    unary_gives (tuple x args) rest h =
        let a = term_gives words all gives x (word.mark m.Comma ∷ args_words words args (word.mark m.Close ∷ rest)) h.1 in
        let b = args_give words all gives args (word.mark m.Close ∷ rest) a.1.1 in
        ((a.0, b.0), b.1.1)

  pub operand_gives : (n : ℕ) → Gives (operand_words n) (AllOperand claim n)
  operand_gives zero u rest h = absurd u
  operand_gives (suc n) u rest h = unary_gives (operand_words n) (AllOperand claim n) (operand_gives n) u rest h

  -- ---- tidied terms, level by level
  module _ {D E : Type 0} (f : D → E) (before : D → Type 0) (after : E → Type 0) (keeps : (d : D) → before d → after (f d)) where
    all_atom : (a : AtomOf D) → AllAtom claim before a → AllAtom claim after (map_atom f a)
    all_atom (plain name) h = h
    all_atom (applied name args) h = (h.0, all_args f before after keeps args h.1)

    all_unary : {R Q : Type 0} (room : R → Q) (u : UnaryOf D R) → AllUnary claim before u → AllUnary claim after (map_unary f room u)
    all_unary room (negated d) h = keeps d h
    all_unary room (number n) h = h
    all_unary room (text bytes) h = h
    all_unary room (variable name) h = h
    all_unary room anonymous h = h
    all_unary room (atom a) h = all_atom a h
    all_unary room (unit r) h = tt
    all_unary room (group x) h = all_term f before after keeps x h
    all_unary room (single x) h = all_term f before after keeps x h
    all_unary room (tuple x args) h = (all_term f before after keeps x h.0, all_args f before after keeps args h.1)

  all_lifted : (n : ℕ) (u : Operand n) → AllOperand claim n u → AllOperand claim (suc n) (lifted n u)
  all_lifted zero u h = absurd u
  all_lifted (suc n) u h = all_unary (lifted n) (AllOperand claim n) (AllOperand claim (suc n)) (all_lifted n) (λ room. tt) u h

  abbrev AllBelow : (n : ℕ) → Below n → Type 0
  AllBelow zero u = absurd u
  AllBelow (suc n) u = AllOperand claim n u

  all_from_below : (n : ℕ) (u : Below n) → AllBelow n u → AllOperand claim n (from_below n u)
  all_from_below zero u h = absurd u
  all_from_below (suc n) u h = all_lifted n u h

  all_bracketed : (n : ℕ) (x : TermOf (Below n)) → AllTerm (AllBelow n) x → AllOperand claim n (bracketed n x)
  all_bracketed zero (alone s) h = absurd s.first.first
  all_bracketed zero (interval left right) h = absurd left.first.first
  all_bracketed (suc n) x h = h

  -- the level of what is inside an operand
  module _ (n : ℕ) (law : (u : Operand n) → AllOperand claim n u → AllTidied (AllOperand claim n) (AllBelow n) (tidied n u)) where
    all_whole_at : (x : TermOf (Operand n)) → AllTerm (AllOperand claim n) x → AllTidied (AllOperand claim n) (AllOperand claim n) (tidied_whole (from_below n) (bracketed n) (tidied n) x)
    all_whole_at = all_whole (from_below n) (bracketed n) (AllOperand claim n) (AllBelow n) (all_from_below n) (all_bracketed n) (tidied n) law

    all_term_at : (x : TermOf (Operand n)) → AllTerm (AllOperand claim n) x → AllTerm (AllOperand claim n) (tidied_term n (tidied n) x)
    all_term_at x h = all_as_term (AllOperand claim n) (tidied_whole (from_below n) (bracketed n) (tidied n) x) (all_whole_at x h)

    all_args_at : (args : ArgsOf (Operand n)) → AllArgs (AllOperand claim n) args → AllArgs (AllOperand claim n) (tidied_args n (tidied n) args)
    all_args_at = all_row (tidied_term n (tidied n)) (AllTerm (AllOperand claim n)) (AllTerm (AllOperand claim n)) all_term_at

    all_atom_at : (a : AtomOf (Operand n)) → AllAtom claim (AllOperand claim n) a → AllAtom claim (AllOperand claim n) (tidied_atom n (tidied n) a)
    all_atom_at (plain name) h = h
    all_atom_at (applied name args) h = (h.0, all_args_at args h.1)

    all_unary_at : (u : UnaryOf (Operand n) (Room n)) → AllUnary claim (AllOperand claim n) u → AllTidied (AllUnary claim (AllOperand claim n)) (AllOperand claim n) (tidied_unary n (tidied n) u)
    all_unary_at (negated d) h = all_as_operand (from_below n) (bracketed n) (AllOperand claim n) (AllBelow n) (all_from_below n) (all_bracketed n) (tidied n d) (law d h)
    all_unary_at (number k) h = h
    all_unary_at (text bytes) h = h
    all_unary_at (variable name) h = h
    all_unary_at anonymous h = h
    all_unary_at (atom a) h = all_atom_at a h
    all_unary_at (unit room) h = tt
    all_unary_at (group x) h =
        all_ungrouped (lifted n) (AllOperand claim n) (AllOperand claim (suc n)) (AllOperand claim n) (all_lifted n) (tidied_whole (from_below n) (bracketed n) (tidied n) x) (all_whole_at x h)
    all_unary_at (single x) h = all_term_at x h
    all_unary_at (tuple x args) h = (all_term_at x h.0, all_args_at args h.1)

  all_tidied_operand : (n : ℕ) (u : Operand n) → AllOperand claim n u → AllTidied (AllOperand claim n) (AllBelow n) (tidied n u)
  all_tidied_operand zero u h = absurd u
  all_tidied_operand (suc n) u h = all_unary_at n (all_tidied_operand n) u h

  -- a tidied term has the words of the term, but for marks
  pub all_tidied_term : (n : ℕ) (x : TermOf (Operand n)) → AllTerm (AllOperand claim n) x → AllTerm (AllOperand claim n) (tidied_term n (tidied n) x)
  all_tidied_term n = all_term_at n (all_tidied_operand n)

  -- and so has a tidied atom
  pub all_tidied_atom : (n : ℕ) (a : AtomOf (Operand n)) → AllAtom claim (AllOperand claim n) a → AllAtom claim (AllOperand claim n) (tidied_atom n (tidied n) a)
  all_tidied_atom n = all_atom_at n (all_tidied_operand n)
