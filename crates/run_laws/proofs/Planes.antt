-- The plane of a record with its outer face, the bends of its least shapes, and the first broken rule are one.
use Rattle.std.proofs.Common.{◌≡◌, ℕ, zero, suc, ◌<◌, ◌∙◌, List, length, refl, sym, ap, subst, arith, inl, inr}
use Rattle.std.proofs.lemmas.Bool.{cases_lt}
use Rattle.std.proofs.lemmas.List.{same_lists, get_or_default}
use Rattle.embedding.specs.declared.breaks.Rule.{Rule}
use Rattle.embedding.specs.declared.breaks.Rule.TheVariants.{Range, Loop, Multi, Asymmetric, Edgeless, Degree, Disconnected, Genus}
use Rattle.embedding.specs.Rules.{FirstBroken, KeepsBefore, rule_number}
use Rattle.common.specs.declared.parameters.Choice.{Choice}
use Rattle.common.specs.declared.parameters.Choice.TheVariants.{First, Best}
use Rattle.faces.specs.Planes.{PlaneModel, IsPlane, model_of, darts, next, face_at}
use Rattle.faces.proofs.Unique.{one_count, one_numbering}
use Rattle.ortho_rep.specs.Shapes.{ShapeModel, angle_at, turns_at}
use Rattle.ortho_rep.specs.Representation.{IsShape, IsLeast, bends_of}
use Rattle.ortho_rep.specs.Best.{IsChosen}
use Rattle.run_laws.proofs.OuterFaces.{greatest_once, best_once}

-- ---- rules

-- the rule with this number
numbered : ℕ → Rule
numbered zero = Range
numbered (suc zero) = Range
numbered (suc (suc zero)) = Loop
numbered (suc (suc (suc zero))) = Multi
numbered (suc (suc (suc (suc zero)))) = Asymmetric
numbered (suc (suc (suc (suc (suc zero))))) = Edgeless
numbered (suc (suc (suc (suc (suc (suc zero)))))) = Degree
numbered (suc (suc (suc (suc (suc (suc (suc zero))))))) = Disconnected
numbered (suc (suc (suc (suc (suc (suc (suc (suc n)))))))) = Genus

numbered_back : (rule : Rule) → numbered (rule_number rule) ≡ rule
unfolding numbered
numbered_back Range = refl
numbered_back Loop = refl
numbered_back Multi = refl
numbered_back Asymmetric = refl
numbered_back Edgeless = refl
numbered_back Degree = refl
numbered_back Disconnected = refl
numbered_back Genus = refl

few_rules : (rule : Rule) → rule_number rule < 9
few_rules Range = omega arith
few_rules Loop = omega arith
few_rules Multi = omega arith
few_rules Asymmetric = omega arith
few_rules Edgeless = omega arith
few_rules Degree = omega arith
few_rules Disconnected = omega arith
few_rules Genus = omega arith

-- of two rules that are broken first neither comes before the other
pub one_rule : (g : List (List ℕ)) (rule other : Rule) → FirstBroken g rule → FirstBroken g other → rule ≡ other
one_rule g rule other one two =
    let same : rule_number rule ≡ rule_number other =
    elim (cases_lt (rule_number rule) (rule_number other)) [
      | inl before ↦ absurd (two.1 rule before one.0)
      | inr not_before ↦
          elim (cases_lt (rule_number other) (rule_number rule)) [
            | inl behind ↦ absurd (one.1 other behind two.0)
            | inr not_behind ↦ omega (arith, not_before, not_behind)
          ]
    ] in
    sym (numbered_back rule) ∙ ap numbered same ∙ numbered_back other

-- lists that break no rule break none first
pub none_broken : (g : List (List ℕ)) (rule : Rule) → KeepsBefore g 9 → FirstBroken g rule → ⊥
none_broken g rule keeps broken = keeps rule (few_rules rule) broken.0

-- ---- planes

-- two planes of the same lists with the same faces have the same outer face
one_outer : (choice : Choice) (lists : List (List ℕ)) (face : List ℕ) (faces outer other : ℕ)
    → IsPlane (model_of lists face faces outer) → IsPlane (model_of lists face faces other)
    → IsChosen choice (model_of lists face faces outer) → IsChosen choice (model_of lists face faces other) → outer ≡ other
one_outer First lists face faces outer other plane plane' one two = greatest_once (model_of lists face faces outer) other plane plane' one two
one_outer Best lists face faces outer other plane plane' one two = best_once (model_of lists face faces outer) other plane plane' one two

-- faces are numbered in one way
same_faces : (lists : List (List ℕ)) (face face' : List ℕ) (faces faces' outer outer' : ℕ)
    → IsPlane (model_of lists face faces outer) → IsPlane (model_of lists face' faces' outer') → face ≡ face'
same_faces lists face face' faces faces' outer outer' one two =
    let p : PlaneModel = model_of lists face faces outer in
    let q : PlaneModel = model_of lists face' faces' outer' in
    same_lists face face' (one.size ∙ sym two.size) (λ d e inside.
    get_or_default face d e 0 inside
    ∙ one_numbering (darts p) (next p) (face_at p) (face_at q) faces faces' one.faces two.faces d (omega (arith, inside, one.size))
    ∙ get_or_default face' d 0 e (omega (arith, inside, one.size, two.size)))

same_count : (lists : List (List ℕ)) (face face' : List ℕ) (faces faces' outer outer' : ℕ)
    → IsPlane (model_of lists face faces outer) → IsPlane (model_of lists face' faces' outer') → faces ≡ faces'
same_count lists face face' faces faces' outer outer' one two =
    let p : PlaneModel = model_of lists face faces outer in
    let q : PlaneModel = model_of lists face' faces' outer' in
    one_count (darts p) (next p) (face_at p) (face_at q) faces faces' one.faces two.faces

-- so two planes of the same lists, both with the chosen outer face, are one
same_model : (choice : Choice) (lists : List (List ℕ)) (face face' : List ℕ) (faces faces' outer outer' : ℕ)
    → IsPlane (model_of lists face faces outer) → IsPlane (model_of lists face' faces' outer')
    → IsChosen choice (model_of lists face faces outer) → IsChosen choice (model_of lists face' faces' outer')
    → model_of lists face faces outer ≡ model_of lists face' faces' outer'
same_model choice lists face face' faces faces' outer outer' one two chosen chosen' =
    let f : face' ≡ face = sym (same_faces lists face face' faces faces' outer outer' one two) in
    let n : faces' ≡ faces = sym (same_count lists face face' faces faces' outer outer' one two) in
    let as_one : model_of lists face' faces' outer' ≡ model_of lists face faces outer' = (λ i. model_of lists (f i) (n i) outer') in
    let outer_is : outer ≡ outer' = one_outer choice lists face faces outer outer' one (subst IsPlane as_one two) chosen (subst (IsChosen choice) as_one chosen') in
    ap (model_of lists face faces) outer_is ∙ sym as_one

pub same_plane : (choice : Choice) (p q : PlaneModel) → p.lists ≡ q.lists → IsPlane p → IsPlane q → IsChosen choice p → IsChosen choice q → p ≡ q
same_plane choice p q lists one two chosen chosen' =
    let e : q ≡ model_of p.lists q.face q.faces q.outer = (λ i. model_of (sym lists i) q.face q.faces q.outer) in
    same_model choice p.lists p.face q.face p.faces q.faces p.outer q.outer one (subst IsPlane e two) chosen (subst (IsChosen choice) e chosen')
    ∙ sym e

-- ---- bends

-- two shapes of a plane with the fewest bends have as many
pub same_bends : (p : PlaneModel) (shape other : ShapeModel) → IsShape p shape → IsShape p other → IsLeast p shape → IsLeast p other
    → bends_of (length shape.strings) (turns_at shape) ≡ bends_of (length other.strings) (turns_at other)
same_bends p shape other is is' least least' =
    let few = least.least (angle_at other) (turns_at other) is'.rep in
    let few' = least'.least (angle_at shape) (turns_at shape) is.rep in
    let same : bends_of (darts p) (turns_at shape) ≡ bends_of (darts p) (turns_at other) = omega (arith, few, few') in
    ap (λ (n : ℕ). bends_of n (turns_at shape)) is.lengths.strings ∙ same ∙ sym (ap (λ (n : ℕ). bends_of n (turns_at other)) is'.lengths.strings)
