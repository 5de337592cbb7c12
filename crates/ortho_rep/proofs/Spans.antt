-- Points of vertices, corners and the places of each edge's corners, in one list.
use Rattle.std.proofs.Common.{◌≡◌, ◌≤◌, ◌<◌, ℕ, ◌+◌, ◌-◌, List, [], ◌++◌, length, get_or, map, take, drop, refl, sym, ap, ◌∙◌, subst, length-append, append_assoc, arith}
use Rattle.std.specs.Prelude.{slice_range}
use Rattle.std.proofs.Math.Seq.{take-append_seam, drop-append_seam}
use Rattle.std.proofs.lemmas.List.{ext_get_or, get_or-map, length-map, drop_at}
use Rattle.std.proofs.lemmas.List.FromFn.{get_or-map-range_with_len, length-map-range_with_len}
use Rattle.ortho_rep.specs.declared.grid_points.Point.{Point}
use Rattle.ortho_rep.specs.Points.{origin}
use Rattle.common.specs.Slices.{slices_at, AreStarts}
use Rattle.ortho_rep.specs.FlatPoints.{span_at, spans_of, spans_in, points_in, AreConcatenated}
use Rattle.common.proofs.Pieces.{length-slices_at, get_or-slices_at}
use Rattle.common.proofs.PushedLists.{slice_range-append}

length-spans : (starts : List ℕ) → length (spans_of starts) ≡ length starts - 1
length-spans starts = length-map-range_with_len (span_at starts) 0 (length starts - 1)

span-is : (starts : List ℕ) (e : ℕ) (d : Point) → e < length starts - 1 → get_or (spans_of starts) e d ≡ span_at starts e
span-is starts e d b = get_or-map-range_with_len (span_at starts) 0 (length starts - 1) e e d b (omega arith)

-- the last points of such a list
spans-last : (vs cs : List Point) (starts : List ℕ) → spans_in ((vs ++ cs) ++ spans_of starts) (length starts - 1) ≡ spans_of starts
spans-last vs cs starts =
    let all = (vs ++ cs) ++ spans_of starts in
    drop_at (vs ++ cs) (spans_of starts) (length all - (length starts - 1)) (omega (arith, length-append (vs ++ cs) (spans_of starts), length-spans starts))

-- the corners of an edge
slice_of-is : (cs : List Point) (starts : List ℕ) (e : ℕ) → AreStarts starts cs → e < length starts - 1 →
    slice_range (cs ++ spans_of starts) (get_or starts e 0) (get_or starts (e + 1) 0) ≡ get_or (slices_at starts cs) e []
slice_of-is cs starts e places b =
    slice_range-append cs (spans_of starts) (get_or starts e 0) (get_or starts (e + 1) 0) (places.ordered e (omega arith)) (places.inside (e + 1) (omega arith))
    ∙ sym (get_or-slices_at starts cs e (omega arith))

corners-are : (cs : List Point) (starts : List ℕ) → AreStarts starts cs →
    map (λ (span : Point). slice_range (cs ++ spans_of starts) span.x span.y) (spans_of starts) ≡ slices_at starts cs
corners-are cs starts places =
    let slice_of : Point → List Point = λ span. slice_range (cs ++ spans_of starts) span.x span.y in
    let count : length (map slice_of (spans_of starts)) ≡ length starts - 1 = length-map (spans_of starts) slice_of ∙ length-spans starts in
    ext_get_or [] (map slice_of (spans_of starts)) (slices_at starts cs) (omega (arith, count, length-slices_at starts cs places.some))
    (λ e b.
    get_or-map slice_of (spans_of starts) e origin [] (omega (arith, count, length-spans starts))
    ∙ (ap slice_of (span-is starts e origin (omega (arith, count))) ∙ slice_of-is cs starts e places (omega (arith, count))))

-- it stands for the points and the corners that were put into it
pub concatenated-is : (vs cs : List Point) (starts : List ℕ) → AreStarts starts cs →
    points_in ((vs ++ cs) ++ spans_of starts) (length vs) (length starts - 1) ≡ record { vertices = vs; corners = slices_at starts cs }
concatenated-is vs cs starts places =
    let all = append_assoc vs cs (spans_of starts) in
    let front : take (length vs) ((vs ++ cs) ++ spans_of starts) ≡ vs = ap (take (length vs)) all ∙ take-append_seam vs (cs ++ spans_of starts) in
    let behind : drop (length vs) ((vs ++ cs) ++ spans_of starts) ≡ cs ++ spans_of starts = ap (drop (length vs)) all ∙ drop-append_seam vs (cs ++ spans_of starts) in
    rw (front, behind, spans-last vs cs starts, corners-are cs starts places) refl

-- and all places are within it
pub concatenated-within : (vs cs : List Point) (starts : List ℕ) → AreStarts starts cs → AreConcatenated ((vs ++ cs) ++ spans_of starts) (length vs) (length starts - 1)
concatenated-within vs cs starts places =
    let size : length ((vs ++ cs) ++ spans_of starts) ≡ length vs + length cs + (length starts - 1) =
    omega (arith, length-append (vs ++ cs) (spans_of starts), length-append vs cs, length-spans starts) in
    record {
      front = omega (arith, size);
      last = omega (arith, size);
      ordered = rw (spans-last vs cs starts) (λ e d b.
          let here : e < length starts - 1 = omega (arith, length-spans starts) in
          subst (λ (span : Point). span.x ≤ span.y) (sym (span-is starts e d here)) (places.ordered e (omega arith)));
      inside = rw (spans-last vs cs starts) (λ e d b.
          let here : e < length starts - 1 = omega (arith, length-spans starts) in
          let within : get_or starts (e + 1) 0 ≤ length cs = places.inside (e + 1) (omega arith) in
          subst (λ (span : Point). length vs + span.y ≤ length ((vs ++ cs) ++ spans_of starts)) (sym (span-is starts e d here)) (omega (arith, size, within)));
    }
