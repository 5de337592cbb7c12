-- Walking back along an edge, from its last dart to its first.
use Rattle.std.proofs.Common.{◌≡◌, ◌≢◌, ℕ, zero, suc, ◌+◌, ◌-◌, ◌<◌, ◌≤◌, ◌∙◌, ◌==◌, Bool, true, false, List, [], ◌∷◌, ◌++◌, length, take, get_or, reverse, eqb, if◌then◌else◌, All, arith, sym, ap, refl, inl, inr, append_assoc, append-nil, ◌↔◌}
use Rattle.std.proofs.lemmas.Grind.{reverse_onto}
use Rattle.std.proofs.lemmas.Bool.{cases_eq, ne_eqb, eq-eqb, cond-true, cond-false}
use Rattle.dissect.specs.DartMaps.{DartMap, no_dart, IsSound}
use Rattle.dissect.specs.Faces.{last_of}
use Rattle.dissect.specs.Paths.{IsPath, turn_to, turning_vertices}
use Rattle.dissect.proofs.Reading.{all_below}
use Rattle.dissect.proofs.DartsInFront.{behind, one_back, path_back}
use Rattle.compact.specs.Monotone.{vertices_along}

-- the places where the walk turns in front of d, the nearest first
abbrev pub vertices_back : DartMap → ℕ → List ℕ → List ℕ
vertices_back w d [] = []
vertices_back w d (f ∷ fs) = if turn_to w f d == 0 then vertices_back w f fs else w.head f ∷ vertices_back w f fs

pub vertices_of : (w : DartMap) (a : ℕ) (fs bs : List ℕ) → reverse (vertices_back w (last_of a bs) (behind a fs bs)) ≡ reverse (vertices_back w a fs) ++ turning_vertices w a bs
vertices_of w a fs [] = sym (append-nil (reverse (vertices_back w a fs)))
vertices_of w a fs (b ∷ bs) =
    elim (cases_eq (turn_to w a b) 0) [
      | inl straight ↦
          let test : eqb (turn_to w a b) 0 ≡ true = eq-eqb (turn_to w a b) 0 straight in
          let one : vertices_back w b (a ∷ fs) ≡ vertices_back w a fs = cond-true (eqb (turn_to w a b) 0) (vertices_back w a fs) (w.head a ∷ vertices_back w a fs) test in
          let two : turning_vertices w a (b ∷ bs) ≡ turning_vertices w b bs = cond-true (eqb (turn_to w a b) 0) (turning_vertices w b bs) (w.head a ∷ turning_vertices w b bs) test in
          vertices_of w b (a ∷ fs) bs ∙ ap (λ (xs : List ℕ). reverse xs ++ turning_vertices w b bs) one ∙ ap (λ (xs : List ℕ). reverse (vertices_back w a fs) ++ xs) (sym two)
      | inr turns ↦
          let test : eqb (turn_to w a b) 0 ≡ false = ne_eqb (turn_to w a b) 0 turns in
          let one : vertices_back w b (a ∷ fs) ≡ w.head a ∷ vertices_back w a fs = cond-false (eqb (turn_to w a b) 0) (vertices_back w a fs) (w.head a ∷ vertices_back w a fs) test in
          let two : turning_vertices w a (b ∷ bs) ≡ w.head a ∷ turning_vertices w b bs = cond-false (eqb (turn_to w a b) 0) (turning_vertices w b bs) (w.head a ∷ turning_vertices w b bs) test in
          vertices_of w b (a ∷ fs) bs ∙ ap (λ (xs : List ℕ). reverse xs ++ turning_vertices w b bs) one
          ∙ ap (λ (xs : List ℕ). xs ++ turning_vertices w b bs) (reverse_onto (vertices_back w a fs) (w.head a) [])
          ∙ append_assoc (reverse (vertices_back w a fs)) (w.head a ∷ []) (turning_vertices w b bs)
          ∙ ap (λ (xs : List ℕ). reverse (vertices_back w a fs) ++ xs) (sym two)
    ]

-- the turning places of a path are those met in walking back, in reverse
pub path_vertices : (w : DartMap) (first : ℕ) (rest : List ℕ) → reverse (vertices_back w (last_of first rest) (behind first [] rest)) ≡ turning_vertices w first rest
path_vertices w first rest = vertices_of w first [] rest

-- so all paths to one dart turn at the same places
pub one_turning : (w : DartMap) (end first other : ℕ) (rest others : List ℕ) → w.darts ≤ no_dart → IsPath w end first rest → IsPath w end other others →
    turning_vertices w first rest ≡ turning_vertices w other others
one_turning w end first other rest others few one two =
    let same : behind first [] rest ≡ behind other [] others =
    one_back w end (behind first [] rest) (behind other [] others) few (path_back w end first rest one) (path_back w end other others two) in
    sym (path_vertices w first rest) ∙ ap (λ (d : ℕ). reverse (vertices_back w d (behind first [] rest))) (one.ends ∙ sym two.ends)
    ∙ ap (λ (fs : List ℕ). reverse (vertices_back w (last_of other others) fs)) same ∙ path_vertices w other others

-- the place between two darts, where the walk turns there
abbrev pub vertex_between : DartMap → ℕ → ℕ → List ℕ
vertex_between w a b = if turn_to w a b == 0 then [] else w.head a ∷ []

pub between_straight : (w : DartMap) (a b : ℕ) → turn_to w a b ≡ 0 → vertex_between w a b ≡ []
between_straight w a b straight = cond-true (eqb (turn_to w a b) 0) [] (w.head a ∷ []) (eq-eqb (turn_to w a b) 0 straight)

pub between_turn : (w : DartMap) (a b : ℕ) → turn_to w a b ≢ 0 → vertex_between w a b ≡ w.head a ∷ []
between_turn w a b turns = cond-false (eqb (turn_to w a b) 0) [] (w.head a ∷ []) (ne_eqb (turn_to w a b) 0 turns)

either_push : (c : Bool) (h : ℕ) (xs more : List ℕ) → (if c then (xs ++ more) else h ∷ (xs ++ more)) ≡ (if c then xs else h ∷ xs) ++ more
either_push true h xs more = refl
either_push false h xs more = refl

-- one dart further along a walk
turning_more : (w : DartMap) (a : ℕ) (bs : List ℕ) (k : ℕ) → k < length bs →
    turning_vertices w a (take (suc k) bs) ≡ turning_vertices w a (take k bs) ++ vertex_between w (get_or (a ∷ bs) k 0) (get_or bs k 0)
turning_more w a [] k within = absurd (omega (arith, within))
turning_more w a (b ∷ bs) zero within = refl
turning_more w a (b ∷ bs) (suc k) within =
    let more = vertex_between w (get_or (b ∷ bs) k 0) (get_or bs k 0) in
    let far : turning_vertices w b (take (suc k) bs) ≡ turning_vertices w b (take k bs) ++ more = turning_more w b bs k (omega (arith, within)) in
    ap (λ (xs : List ℕ). if turn_to w a b == 0 then xs else w.head a ∷ xs) far ∙ either_push (eqb (turn_to w a b) 0) (w.head a) (turning_vertices w b (take k bs)) more

pub vertices_more : (w : DartMap) (ds : List ℕ) (k : ℕ) → 1 ≤ k → k < length ds →
    vertices_along w (take (k + 1) ds) ≡ vertices_along w (take k ds) ++ vertex_between w (get_or ds (k - 1) 0) (get_or ds k 0)
vertices_more w [] k some within = absurd (omega (arith, within))
vertices_more w (a ∷ bs) zero some within = absurd (omega (arith, some))
vertices_more w (a ∷ bs) (suc k) some within =
    let long : suc k + 1 ≡ suc (suc k) = omega arith in
    let back : suc k - 1 ≡ k = omega arith in
    ap (λ (n : ℕ). vertices_along w (take n (a ∷ bs))) long ∙ turning_more w a bs k (omega (arith, within))
    ∙ ap (λ (n : ℕ). turning_vertices w a (take k bs) ++ vertex_between w (get_or (a ∷ bs) n 0) (get_or bs k 0)) (sym back)

-- the first dart alone turns nowhere
pub vertices_one : (w : DartMap) (ds : List ℕ) → vertices_along w (take 1 ds) ≡ []
vertices_one w [] = refl
vertices_one w (a ∷ bs) = refl

-- the darts of a path are all of the map
pub path_below : (w : DartMap) (end first : ℕ) (rest : List ℕ) → IsPath w end first rest → All (λ d. d < w.darts) (first ∷ rest)
path_below w end first rest path = all_below w.darts w.darts (first ∷ rest) (omega arith) (path.first_in, path.rest_in)

-- directions are the same exactly where the walk does not turn
pub same_way : (w : DartMap) (a b : ℕ) → IsSound w → a < w.darts → b < w.darts → (turn_to w a b ≡ 0) ↔ (w.direction a ≡ w.direction b)
same_way w a b sound a_in b_in =
    let back = sound.straight b b_in in
    let one = sound.meeting.quarter a a_in in
    let two = sound.meeting.quarter b b_in in (
      λ e. omega (arith, e, back, one, two),
      λ e. omega (arith, e, back, one, two),
    )
