use Rattle.std.proofs.Common.{◌≡◌, ◌≤◌, ◌<◌, ◌+◌, ◌∙◌, ℕ, List, length, get_or, set, ap, sym, inl, inr, arith}
use Rattle.std.specs.Prelude.{slice_index}
use Rattle.std.proofs.lemmas.Bool.{cases_eq}
use Rattle.std.proofs.lemmas.List.{get_or-set_same, get_or-set_other, length-set}
use Rattle.embedding.specs.Darts.{dart_count}
use Rattle.faces.specs.Planes.{darts, head, face_at}
use Rattle.ortho_rep.proofs.distances.measure_vertices.Goals as goal

-- the entry of the next number's place is lowered to at most what is given for it
lowered : (entries : List ℕ) (n : ℕ) (place x : ℕ → ℕ) (k y : ℕ) → ((d : ℕ) → d < n → get_or entries (place d) 0 ≤ x d) → k < length entries → k ≡ place n → y ≤ get_or entries k 0 → y ≤ x n → (d : ℕ) → d < n + 1 → get_or (set entries k y) (place d) 0 ≤ x d
lowered entries n place x k y before within here lower low d below =
    elim (cases_eq (place d) k) [
      | inl e ↦
          let written : get_or (set entries k y) (place d) 0 ≡ y = ap (λ (z : ℕ). get_or (set entries k y) z 0) e ∙ get_or-set_same entries k y 0 within in
          let was : get_or entries (place d) 0 ≡ get_or entries k 0 = ap (λ (z : ℕ). get_or entries z 0) e in
          elim (cases_eq d n) [
            | inl last ↦ omega (arith, written, low, ap x last)
            | inr less ↦ omega (arith, written, lower, was, before d (omega arith))
          ]
      | inr ne ↦
          let kept : get_or (set entries k y) (place d) 0 ≡ get_or entries (place d) 0 = get_or-set_other entries k (place d) y 0 ne in
          elim (cases_eq d n) [
            | inl last ↦ absurd (ne (ap place last ∙ sym here))
            | inr less ↦ omega (arith, kept, before d (omega arith))
          ]
    ]

pub loop-dart-preserved : goal.loop-dart-preserved
loop-dart-preserved c =
    let plane = c.args.plane.now in
    let dart = c.loop-dart.dart in
    let far = c.args.far.now in
    let within : c.from-vertex.result < length c.loop-dart.near = omega (arith, length-set {A = ℕ}, ap (length {A = List ℕ}) c.graph-graph.ensures.value) in
    let here : c.from-vertex.result ≡ head plane dart = (cc) in
    let lower : c.min.result ≤ get_or c.loop-dart.near c.from-vertex.result 0 = omega arith in
    let low : c.min.result ≤ slice_index far (face_at plane dart) = omega (arith, ap (slice_index far) (c.from.ensures ∙ c.face_of.ensures.value)) in
    record {
      none = get_or-set_other c.loop-dart.near c.from-vertex.result 0 c.min.result 0 (λ (e : 0 ≡ c.from-vertex.result). absurd (omega arith)) ∙ c.loop-dart.invariant.none;
      near = lowered c.loop-dart.near dart (head plane) (λ d. slice_index far (face_at plane d)) c.from-vertex.result c.min.result c.loop-dart.invariant.near within here lower low;
    }

pub returns-clause-near : goal.returns-clause-near
returns-clause-near c = λ d b. c.loop-dart.invariant.near d (omega (arith, ap dart_count c.graph-graph.ensures.value))
