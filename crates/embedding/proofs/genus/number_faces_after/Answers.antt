use Rattle.std.proofs.Common.{◌≡◌, ℕ, ◌+◌, ◌*◌, List, length, take, drop, get_or, sym, ap, ◌∙◌, subst, arith}
use Rattle.std.proofs.lemmas.List.{get_or-drop, take_at, drop_at}
use Rattle.embedding.specs.Faces.{HasFaces}
use Rattle.embedding.specs.Walk.{AreRotations, at, next_in}
use Rattle.embedding.proofs.genus.number_faces_after.Goals as goal

pub number_faces-requires-clause-tied : goal.number_faces-requires-clause-tied
number_faces-requires-clause-tied c =
    let cut = c.split_at_mut-rotation in
    let count : length cut.result.1.now ≡ c.args.darts = omega (arith, cut.ensures.back_len, c.requires.size) in
    subst (λ (n : ℕ). AreRotations n cut.result.0.now) (sym count) (subst (λ (l : List ℕ). AreRotations c.args.darts l) (sym cut.ensures.front) c.requires.tied)

pub number_faces-requires-clause-unset : goal.number_faces-requires-clause-unset
number_faces-requires-clause-unset c =
    let cut = c.split_at_mut-rotation in
    λ d below.
    ap (λ (l : List ℕ). get_or l d 0) cut.ensures.back ∙ get_or-drop (2 * c.args.darts) c.args.table.now d 0 ∙ c.requires.unset d (omega (arith, below, cut.ensures.back_len, c.requires.size))

pub returns-clause-rotation : goal.returns-clause-rotation
returns-clause-rotation c =
    let cut = c.split_at_mut-rotation in
    take_at cut.result.0.now c.number_faces.new.faces (2 * c.args.darts) cut.ensures.front_len ∙ cut.ensures.front

pub returns-clause-numbered : goal.returns-clause-numbered
returns-clause-numbered c =
    let cut = c.split_at_mut-rotation in
    let count : length cut.result.1.now ≡ c.args.darts = omega (arith, cut.ensures.back_len, c.requires.size) in
    rw (drop_at cut.result.0.now c.number_faces.new.faces (2 * c.args.darts) cut.ensures.front_len)
    (subst (λ (l : List ℕ). HasFaces c.args.darts (next_in l) (at c.number_faces.new.faces) c.number_faces.result) cut.ensures.front
    (subst (λ (n : ℕ). HasFaces n (next_in cut.result.0.now) (at c.number_faces.new.faces) c.number_faces.result) count c.number_faces.ensures.numbered))
