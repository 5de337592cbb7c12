-- One turn of an edge, and one edge of a plane, as the loops take them.
use Rattle.std.proofs.Common.{◌≡◌, ℕ, zero, suc, ◌+◌, ◌-◌, ◌*◌, ◌<◌, ◌≤◌, List, [], ◌∷◌, length, get_or, drop, filter, ◌∙◌, arith, subst, sym, ap, refl, inl, inr}
use Rattle.std.specs.List.{range_with_len}
use Rattle.std.proofs.lemmas.Bool.{cases_lt}
use Rattle.std.proofs.Math.Seq.{drop-cons}
use Rattle.std.proofs.Math.Numerals.{add-one}
use Rattle.embedding.specs.Lesser.{lesser_darts_from}
use Rattle.embedding.proofs.Lesser.{lesser_past, lesser_away, lesser_next}
use Rattle.faces.specs.Planes.{PlaneModel, darts, reverse_dart}
use Rattle.ortho_rep.specs.declared.turn_strings.Turn.{Turn}
use Rattle.ortho_rep.specs.Edges.{is_lesser, lesser_darts}
use Rattle.dissect.specs.DartMaps.{DartMap, IsTied, IsMeeting, IsSubdivided}
use Rattle.dissect.proofs.Splitting.{split_tied, split_meeting}
use Rattle.common.specs.Sums.{sum_below}
use Rattle.common.proofs.Sums.{sum_below-more}
use Rattle.dissect.specs.declared.table.DartTable.{DartTable}
use Rattle.dissect.specs.Tables.{dart_map_of, room}
use Rattle.dissect.specs.Steps.{IsBent, turned, AreBent, passed, bent, angle_of, start_direction}
use Rattle.dissect.proofs.EdgeTurns.{lesser_length, lesser_length-lesser, lesser_length-greater}
use Rattle.dissect.proofs.Mirroring.{turn_counts}

-- what one turn of the edge of e leads to
pub record IsTurn (w : DartMap) (e : ℕ) (turns : List Turn) (i : ℕ) (new : DartMap) : Type 0 where
  pub tied : IsTied new
  pub meeting : IsMeeting new
  pub steps : (end : DartMap) → IsBent e new (drop (i + 1) turns) end → IsBent e w (drop i turns) end

pub turn_on : (w : DartMap) (e way bend : ℕ) (turns : List Turn) (i : ℕ) (turn : Turn) (new : DartMap) → IsTied w → IsMeeting w → e < w.darts →
    i < length turns → way ≡ start_direction w e → bend ≡ angle_of (get_or turns i turn) → IsSubdivided w e way bend new → IsTurn w e turns i new
turn_on w e way bend turns i turn new tied meeting e_in inside way_is bend_is s =
    let counts = turn_counts (get_or turns i turn) [] in
    let at : IsSubdivided w e (start_direction w e) (angle_of (get_or turns i turn)) new =
    subst (λ (b : ℕ). IsSubdivided w e (start_direction w e) b new) bend_is (subst (λ (k : ℕ). IsSubdivided w e k bend new) way_is s) in
    let parts : drop i turns ≡ get_or turns i turn ∷ drop (i + 1) turns =
    drop-cons turns i turn inside ∙ ap (λ (k : ℕ). get_or turns i turn ∷ drop k turns) (sym (add-one i)) in
    record {
      tied = split_tied w e way bend new tied e_in s;
      meeting = split_meeting w e way bend new tied meeting e_in (omega (arith, way_is)) (omega (arith, bend_is, counts.2))
          (omega (arith, bend_is, counts.3)) s;
      steps = λ end rest. subst (λ (ts : List Turn). IsBent e w ts end) (sym parts)
          (turned w new end (get_or turns i turn) (drop (i + 1) turns) at rest);
    }

-- the edges whose lesser dart is below k have their bends: `start` is the table before the first of them
pub record AreDone (p : PlaneModel) (s : ℕ → List Turn) (start t : DartTable) (k : ℕ) : Type 0 where
  pub tied : IsTied (dart_map_of t)
  pub meeting : IsMeeting (dart_map_of t)
  pub count : t.darts ≡ start.darts + 2 * sum_below k (lesser_length p s)
  pub same : room t ≡ room start
  pub steps : (end : DartMap) → AreBent p s k (dart_map_of t) end → AreBent p s 0 (dart_map_of start) end

pub edge_done : (p : PlaneModel) (s : ℕ → List Turn) (start t new : DartTable) (k : ℕ) → AreDone p s start t k → k < darts p → k < reverse_dart p k →
    IsBent k (dart_map_of t) (s k) (dart_map_of new) → IsTied (dart_map_of new) → IsMeeting (dart_map_of new) →
    new.darts ≡ t.darts + 2 * length (s k) → room new ≡ room t → AreDone p s start new (k + 1)
edge_done p s start t new k before inside lesser edge tied meeting count same = record {
  tied = tied;
  meeting = meeting;
  count = omega (arith, before.count, count, sum_below-more k (lesser_length p s), lesser_length-lesser p s k lesser);
  same = same ∙ before.same;
  steps = λ end rest. before.steps end (bent k (dart_map_of t) (dart_map_of new) end inside lesser edge rest);
}

pub edge_left : (p : PlaneModel) (s : ℕ → List Turn) (start t : DartTable) (k : ℕ) → AreDone p s start t k → reverse_dart p k ≤ k →
    AreDone p s start t (k + 1)
edge_left p s start t k before greater = record {
  tied = before.tied;
  meeting = before.meeting;
  count = omega (arith, before.count, sum_below-more k (lesser_length p s), lesser_length-greater p s k greater);
  same = before.same;
  steps = λ end rest. before.steps end (passed k (dart_map_of t) end greater rest);
}

-- the lesser darts that are left begin after the edges that have their bends
pub record AreRemaining (p : PlaneModel) (s : ℕ → List Turn) (start t : DartTable) (left : List ℕ) : Type 0 where
  pub place : ℕ
  pub within : place ≤ darts p
  pub are : left ≡ lesser_darts_from p.lists place
  pub done : AreDone p s start t place

-- before the first of them
pub none_done : (p : PlaneModel) (s : ℕ → List Turn) (start : DartTable) (edges : List ℕ) → IsTied (dart_map_of start) → IsMeeting (dart_map_of start) →
    edges ≡ lesser_darts p → AreRemaining p s start start edges
none_done p s start edges tied meeting are =
    let all : darts p ≡ darts p - 0 = omega arith in
    record {
      place = 0;
      within = omega arith;
      are = are ∙ ap (λ (n : ℕ). filter (is_lesser p) (range_with_len 0 n)) all;
      done = record { tied = tied; meeting = meeting; count = omega arith; same = refl; steps = λ end rest. rest };
    }

-- the first of the lesser darts that are left
pub record IsNext (p : PlaneModel) (s : ℕ → List Turn) (start t : DartTable) (d : ℕ) (rest : List ℕ) : Type 0 where
  pub inside : d < darts p
  pub lesser : d < reverse_dart p d
  pub are : rest ≡ lesser_darts_from p.lists (d + 1)
  pub done : AreDone p s start t d

next_from : (p : PlaneModel) (s : ℕ → List Turn) (start t : DartTable) (d : ℕ) (rest : List ℕ) (more k : ℕ) → more + k ≡ darts p →
    d ∷ rest ≡ lesser_darts_from p.lists k → AreDone p s start t k → IsNext p s start t d rest
next_from p s start t d rest zero k all are done =
    let none : d ∷ rest ≡ [] = are ∙ lesser_past p.lists k (omega (arith, all)) in absurd (cc)
next_from p s start t d rest (suc more) k all are done =
    let inside : k < darts p = omega (arith, all) in
    elim (cases_lt k (reverse_dart p k)) [
      | inl lesser ↦
          let here : d ∷ rest ≡ k ∷ lesser_darts_from p.lists (k + 1) =
          lesser_next p.lists p.lists (d ∷ rest) k k (sym are) refl refl inside lesser in
          let at : k ≡ d = cc in
          let behind : rest ≡ lesser_darts_from p.lists (k + 1) = cc in
          subst (λ (e : ℕ). IsNext p s start t e rest) at (record { inside = inside; lesser = lesser; are = behind; done = done })
      | inr greater ↦
          next_from p s start t d rest more (k + 1) (omega (arith, all)) (are ∙ lesser_away p.lists k inside greater)
          (edge_left p s start t k done greater)
    ]

pub next_left : (p : PlaneModel) (s : ℕ → List Turn) (start t : DartTable) (d : ℕ) (rest : List ℕ) → AreRemaining p s start t (d ∷ rest) →
    IsNext p s start t d rest
next_left p s start t d rest left =
    next_from p s start t d rest (darts p - left.place) left.place (omega (arith, left.within)) left.are left.done

-- the same at a place of the list
pub next_at : (p : PlaneModel) (s : ℕ → List Turn) (start t : DartTable) (edges : List ℕ) (i : ℕ) → i < length edges →
    AreRemaining p s start t (drop i edges) → IsNext p s start t (get_or edges i 0) (drop (i + 1) edges)
next_at p s start t edges i inside left =
    let parts : drop i edges ≡ get_or edges i 0 ∷ drop (i + 1) edges =
    drop-cons edges i 0 inside ∙ ap (λ (k : ℕ). get_or edges i 0 ∷ drop k edges) (sym (add-one i)) in
    next_left p s start t (get_or edges i 0) (drop (i + 1) edges) (subst (AreRemaining p s start t) parts left)

pub next_done : (p : PlaneModel) (s : ℕ → List Turn) (start t new : DartTable) (d : ℕ) (rest : List ℕ) → IsNext p s start t d rest →
    IsBent d (dart_map_of t) (s d) (dart_map_of new) → IsTied (dart_map_of new) → IsMeeting (dart_map_of new) →
    new.darts ≡ t.darts + 2 * length (s d) → room new ≡ room t → AreRemaining p s start new rest
next_done p s start t new d rest next edge tied meeting count same = record {
  place = d + 1;
  within = omega (arith, next.inside);
  are = next.are;
  done = edge_done p s start t new d next.done next.inside next.lesser edge tied meeting count same;
}

none_from : (p : PlaneModel) (s : ℕ → List Turn) (start t : DartTable) (more k : ℕ) → more + k ≡ darts p →
    [] ≡ lesser_darts_from p.lists k → AreDone p s start t k → AreDone p s start t (darts p)
none_from p s start t zero k all are done = subst (AreDone p s start t) (omega (arith, all)) done
none_from p s start t (suc more) k all are done =
    let inside : k < darts p = omega (arith, all) in
    elim (cases_lt k (reverse_dart p k)) [
      | inl lesser ↦
          let here : [] ≡ k ∷ lesser_darts_from p.lists (k + 1) = lesser_next p.lists p.lists [] k k (sym are) refl refl inside lesser in absurd (cc)
      | inr greater ↦
          none_from p s start t more (k + 1) (omega (arith, all)) (are ∙ lesser_away p.lists k inside greater)
          (edge_left p s start t k done greater)
    ]

-- where none is left, all edges have their bends
pub none_left : (p : PlaneModel) (s : ℕ → List Turn) (start t : DartTable) → AreRemaining p s start t [] → AreDone p s start t (darts p)
none_left p s start t left = none_from p s start t (darts p - left.place) left.place (omega (arith, left.within)) left.are left.done
