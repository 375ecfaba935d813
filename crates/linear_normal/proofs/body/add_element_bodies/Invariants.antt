use Rattle.std.proofs.Common.{◌≡◌, ◌+◌, ◌++◌, length as list_length, ℕ, List, map, drop}
use Rattle.ground_model.specs.declared.rule.BodyLit.{BodyLit}
use Rattle.linear_normal.specs.Contents.{Content}
use Rattle.linear_normal.specs.Bodies.{element_body}
use Rattle.linear_normal.specs.Numbering.{lit_of, conjunction_of}
use Rattle.linear_normal.proofs.body.add_element_bodies.Given as goal

abbrev pub invariant-loop-item : goal.invariant-loop-item
invariant-loop-item l = record {
  length : list_length l.bodies ≡ list_length l.fn.bodies + l.item-index;
  bodies : (later : List Content) (variables : ℕ) (body : List BodyLit) → l.own ≡ map (lit_of later variables) body
      → l.bodies ++ map (λ item. conjunction_of later variables (element_body body item)) (drop l.item-index l.items) ≡ l.fn.bodies ++ map (conjunction_of later variables) (map (element_body body) l.items);
}
