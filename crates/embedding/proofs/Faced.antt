-- A table of the rotation, faces and degrees, and what it says of a graph.
use Rattle.std.proofs.Common.{◌≡◌, ℕ, ◌+◌, ◌*◌, ◌<◌, ◌≤◌, ◌==◌, cond, true, List, ◌++◌, length, get_or, replicate, take, drop, refl, sym, ap, ◌∙◌, subst, arith}
use Rattle.std.proofs.lemmas.List.{get_or-append-add, get_or-take, get_or-drop, length-take, length-take-le, length-drop}
use Rattle.std.proofs.lemmas.List.Elements.{All-take, All-replicate}
use Rattle.common.proofs.Sums.{sum_below-same}
use Rattle.embedding.specs.Darts.{dart_count, next_of, reverse_of}
use Rattle.embedding.specs.Rules.{KeepsBefore}
use Rattle.embedding.specs.Faces.{HasFaces, degree_in}
use Rattle.embedding.specs.Tables.{IsRotation}
use Rattle.embedding.specs.Walk.{AreRotations, HasFaceTable, at, next_in}
use Rattle.embedding.proofs.Rotation.{reverse_is, next_one}

-- a part of a list of one value has that value everywhere
pub part_of_one : (m n d v : ℕ) → d < length (take n (replicate m v)) → get_or (take n (replicate m v)) d 0 ≡ v
part_of_one m n d v lt = All-take (λ (x : ℕ). x ≡ v) n (replicate m v) (All-replicate (λ (x : ℕ). x ≡ v) m v refl) d 0 lt

-- faces by other functions that say the same of all darts
pub same_faces : (n : ℕ) (next other_next face other : ℕ → ℕ) (f : ℕ) → ((d : ℕ) → d < n → next d < n) → ((d : ℕ) → d < n → other_next d ≡ next d) → ((d : ℕ) → d < n → other d ≡ face d) → HasFaces n next face f → HasFaces n other_next other f
same_faces n next other_next face other f inside steps is h =
    record {
      named = λ d b. subst (λ (x : ℕ). x < f) (sym (is d b)) (h.named d b);
      used = λ k b. let (d, below, at) = h.used k b in (d, below, is d below ∙ at);
      closed = λ d b. ap other (steps d b) ∙ is (next d) (inside d b) ∙ h.closed d b ∙ sym (is d b);
      least = λ s shut d e bd be same here. h.least s (λ x bx hx. subst (λ (y : ℕ). s y ≡ true) (steps x bx) (shut x bx hx)) d e bd be (sym (is d bd) ∙ same ∙ is e be) here;
      ordered = λ d k b less.
          let (e, before, at) = h.ordered d k b (subst (λ (x : ℕ). k < x) (is d b) less) in (e, before, is e (omega (arith, before, b)) ∙ at);
    }

pub same_degree : (n : ℕ) (face other : ℕ → ℕ) (k : ℕ) → ((d : ℕ) → d < n → other d ≡ face d) → degree_in n other k ≡ degree_in n face k
same_degree n face other k is = sum_below-same n (λ d. cond (other d == k) 1 0) (λ d. cond (face d == k) 1 0) (λ d b. ap (λ (x : ℕ). cond (x == k) 1 0) (is d b))

-- the faces of n darts, read where they stand in a table
pub faces_within : (table : List ℕ) (n d : ℕ) → d < n → get_or (drop (2 * n) (take (3 * n) table)) d 0 ≡ get_or table (2 * n + d) 0
faces_within table n d below =
    get_or-drop (2 * n) (take (3 * n) table) d 0 ∙ get_or-take (3 * n) table (2 * n + d) 0 (omega arith)

pub faces_counted : (table : List ℕ) (n : ℕ) → 3 * n ≤ length table → length (drop (2 * n) (take (3 * n) table)) ≡ n
faces_counted table n long =
    length-drop (2 * n) (take (3 * n) table) ∙ omega (arith, length-take-le (3 * n) table long)

-- what a part behind has is what the table has there
pub behind_is : (front rest table : List ℕ) (n k : ℕ) → length front ≡ n → table ≡ front ++ rest → get_or table (n + k) 0 ≡ get_or rest k 0
behind_is front rest table n k size is =
    ap (λ (t : List ℕ). get_or t (n + k) 0) is ∙ ap (λ (m : ℕ). get_or (front ++ rest) (m + k) 0) (sym size) ∙ get_or-append-add front rest k 0

-- faces are numbered behind the rotation, and then their degrees are counted behind them
pub faced : (rotation numbered before table : List ℕ) (n count : ℕ) → AreRotations n rotation → length numbered ≡ 3 * n → take (2 * n) numbered ≡ rotation → HasFaces n (next_in rotation) (at (drop (2 * n) numbered)) count
    → length before ≡ 3 * n + count → take (3 * n) before ≡ numbered → length table ≡ length before → take (3 * n) table ≡ take (3 * n) before
    → ((k : ℕ) → 3 * n + k < length before → get_or table (3 * n + k) 0 ≡ degree_in n (λ d. get_or before (2 * n + d) 0) k)
    → HasFaceTable n rotation count table
faced rotation numbered before table n count tied long front faces size filled same kept degrees =
    let read : (i : ℕ) → i < 3 * n → get_or table i 0 ≡ get_or before i 0 =
    λ i b. sym (get_or-take (3 * n) table i 0 b) ∙ ap (λ (t : List ℕ). get_or t i 0) kept ∙ get_or-take (3 * n) before i 0 b in
    let was : (i : ℕ) → i < 3 * n → get_or before i 0 ≡ get_or numbered i 0 =
    λ i b. sym (get_or-take (3 * n) before i 0 b) ∙ ap (λ (t : List ℕ). get_or t i 0) filled in
    let face_is : (d : ℕ) → d < n → get_or table (2 * n + d) 0 ≡ get_or (drop (2 * n) numbered) d 0 =
    λ d b. read (2 * n + d) (omega (arith, b)) ∙ was (2 * n + d) (omega (arith, b)) ∙ sym (get_or-drop (2 * n) numbered d 0) in
    record {
      size = same ∙ size;
      rotation_is = λ i b. read i (omega (arith, b)) ∙ was i (omega (arith, b)) ∙ sym (get_or-take (2 * n) numbered i 0 b) ∙ ap (λ (t : List ℕ). get_or t i 0) front;
      faces_are = same_faces n (next_in rotation) (next_in rotation) (at (drop (2 * n) numbered)) (λ d. get_or table (2 * n + d) 0) count tied.walked.inside (λ d b. refl) face_is faces;
      degrees_are = λ k b.
          degrees k (omega (arith, b, size))
          ∙ sym (same_degree n (λ d. get_or before (2 * n + d) 0) (λ d. get_or table (2 * n + d) 0) k (λ d below. read (2 * n + d) (omega (arith, below))));
    }

-- what the rotation leads to is what the graph's darts lead to
pub next_is : (g : List (List ℕ)) → KeepsBefore g 8 → (rotation : List ℕ) → IsRotation g (dart_count g) rotation → (d : ℕ) → d < dart_count g → next_in rotation d ≡ next_of g d
next_is g rules rotation l d below =
    let inside = (reverse_is g rules d below).inside in
    ap (λ (e : ℕ). get_or rotation (2 * e + 1) 0) (l.reverses d below) ∙ l.afters (reverse_of g d) inside

pub tied : (g : List (List ℕ)) → KeepsBefore g 8 → (rotation : List ℕ) → IsRotation g (dart_count g) rotation → AreRotations (dart_count g) rotation
tied g rules rotation l =
    let is = next_is g rules rotation l in
    let one = next_one g rules in
    record {
      size = l.size;
      back = λ d b. subst (λ (x : ℕ). x < dart_count g) (sym (l.reverses d b)) (reverse_is g rules d b).inside;
      walked = record {
        inside = λ d b. subst (λ (x : ℕ). x < dart_count g) (sym (is d b)) (one.inside d b);
        one = λ d e bd be same. one.one d e bd be (sym (is d bd) ∙ same ∙ is e be);
      };
    }

-- the faces as a list of their own
pub faces_list : (n : ℕ) (next : ℕ → ℕ) (table : List ℕ) (count : ℕ) → 3 * n ≤ length table → ((d : ℕ) → d < n → next d < n) → HasFaces n next (λ d. get_or table (2 * n + d) 0) count → (faces : List ℕ) × (length faces ≡ n) × HasFaces n next (at faces) count
faces_list n next table count long inside h =
    let faces = take n (drop (2 * n) table) in (
      faces,
      length-take n (drop (2 * n) table) ∙ omega (arith, length-drop (2 * n) table, long),
      same_faces n next next (λ d. get_or table (2 * n + d) 0) (at faces) count inside (λ d b. refl) (λ d b. get_or-take n (drop (2 * n) table) d 0 b ∙ get_or-drop (2 * n) table d 0) h,
    )
