-- Where words are first wrong, said by the grammar alone.
use Rattle.std.specs.Prelude.{◌≡◌, ℕ, List, [], ◌∷◌, ◌++◌}
use Rattle.grammar.specs.Word.{Word}

-- the words of some form begin so
abbrev pub CanGoOn : {A : Type 0} → (A → List Word → List Word) → List Word → Type 0
CanGoOn {A} words front = (form : A) × (more : List Word) × (words form [] ≡ front ++ more)

-- Forms by how deep they may nest, with the words of each.
module _ (Form : ℕ → Type 0) (words : (n : ℕ) → Form n → List Word → List Word) (most : ℕ) where
  -- what stands before can go on, and with the next word, where there is one, no form goes on however deep it nests
  pub record IsExpected (front after : List Word) : Type 0 where
    pub begins : CanGoOn (words most) front
    pub never : (n : ℕ) (next : Word) (rest : List Word) → after ≡ next ∷ rest → CanGoOn (words n) (front ++ next ∷ []) → ⊥

  -- what stands before can go on, and with the next word no form goes on that nests at most so deep, but one that nests deeper does
  pub record IsTooDeep (front after : List Word) : Type 0 where
    pub begins : CanGoOn (words most) front
    pub next : Word
    pub rest : List Word
    pub stands : after ≡ next ∷ rest
    pub never : CanGoOn (words most) (front ++ next ∷ []) → ⊥
    pub depth : ℕ
    pub deeper : CanGoOn (words depth) (front ++ next ∷ [])
