-- Bodies as the code makes them.
use Rattle.std.proofs.Common.{◌≡◌, ℕ, Bool, true, List, [], ◌∷◌, ◌++◌, map, sym, ◌∙◌, ap, subst}
use Rattle.std.proofs.lemmas.List.{map-append}
use Rattle.literals.specs.declared.lit.Lit.{Lit}
use Rattle.literals.specs.declared.lit.Lit.TheVariants as l
use Rattle.literals.specs.Nogoods.{canonical}
use Rattle.ground_model.specs.declared.linear.Relation.{Relation}
use Rattle.ground_model.specs.declared.rule.BodyLit.{BodyLit}
use Rattle.ground_model.specs.declared.rule.BodyLit.TheVariants as b
use Rattle.ground_model.specs.declared.rule.ChoiceItem.{ChoiceItem}
use Rattle.linear_normal.specs.declared.constraint.Constraint.{Constraint}
use Rattle.linear_normal.specs.declared.numbered.Conjunction.{Conjunction}
use Rattle.linear_normal.specs.Contents.{Content}
use Rattle.linear_normal.specs.Bodies.{element_body, selecting_body}
use Rattle.linear_normal.specs.Demands.{literal_demands, relation_content}
use Rattle.linear_normal.specs.Numbering.{lit_of, conjunction_of}
use Rattle.linear_normal.specs.inner.Tables.{Gives, GivesNumber, IsCountedAtom}
use Rattle.linear_normal.proofs.GrowthLemmas.{gives_as}

pub literal_given : (before after : List Constraint) (variables : ℕ) (literal : BodyLit) (relation : Relation) (sign : Bool) (n : ℕ) → literal ≡ b.Theory relation sign
    → GivesNumber before after (relation_content variables relation) n → Gives before after (literal_demands variables literal) (λ later. l.Constraint n sign ≡ lit_of later variables literal)
literal_given before after variables literal relation sign n e gives =
    subst (λ (x : BodyLit). Gives before after (literal_demands variables x) (λ later. l.Constraint n sign ≡ lit_of later variables x)) (sym e)
    (gives_as before after (literal_demands variables (b.Theory relation sign)) _ (λ later. l.Constraint n sign ≡ lit_of later variables (b.Theory relation sign)) gives (λ later same. ap (λ m. l.Constraint m sign) same))

-- a literal that names an atom is no relation
pub no_relation : {X : Type 0} (literal : BodyLit) (relation : Relation) (sign : Bool) → literal ≡ b.Theory relation sign → IsCountedAtom literal → X
no_relation literal relation sign e is = absurd (subst IsCountedAtom e is)

pub atom_is : (later : List Content) (variables : ℕ) (literal : BodyLit) (atom : ℕ) (sign : Bool) (before after : List Lit) → literal ≡ b.Atom atom sign → after ≡ before ++ l.Atom atom sign ∷ []
    → after ≡ before ++ lit_of later variables literal ∷ []
atom_is later variables literal atom sign before after e is = is ∙ ap (λ (x : BodyLit). before ++ lit_of later variables x ∷ []) (sym e)

pub element_made : (later : List Content) (variables : ℕ) (body : List BodyLit) (item : ChoiceItem) (own lits : List Lit) (found : Conjunction) → own ≡ map (lit_of later variables) body
    → lits ≡ own ++ map (lit_of later variables) item.condition → found.lits ≡ canonical lits → found ≡ conjunction_of later variables (element_body body item)
element_made later variables body item own lits found is_own is_lits is_found =
    ap (λ (xs : List Lit). record { lits = xs })
    (is_found ∙ ap canonical (is_lits ∙ ap (λ xs. xs ++ map (lit_of later variables) item.condition) is_own ∙ sym (map-append (lit_of later variables) body item.condition)))

pub selecting_made : (later : List Content) (variables : ℕ) (body : List BodyLit) (item : ChoiceItem) (own lits all : List Lit) (found : Conjunction) → own ≡ map (lit_of later variables) body
    → lits ≡ own ++ map (lit_of later variables) item.condition → all ≡ lits ++ l.Atom item.atom true ∷ [] → found.lits ≡ canonical all → found ≡ conjunction_of later variables (selecting_body body item)
selecting_made later variables body item own lits all found is_own is_lits is_all is_found =
    ap (λ (xs : List Lit). record { lits = xs })
    (is_found ∙ ap canonical (is_all ∙ ap (λ xs. xs ++ l.Atom item.atom true ∷ []) (is_lits ∙ ap (λ xs. xs ++ map (lit_of later variables) item.condition) is_own)
    ∙ sym (map-append (lit_of later variables) (body ++ item.condition) (b.Atom item.atom true ∷ []) ∙ ap (λ xs. xs ++ l.Atom item.atom true ∷ []) (map-append (lit_of later variables) body item.condition))))
