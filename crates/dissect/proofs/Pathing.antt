-- The map that got all bends: each edge of the plane has its path, with the turns of its string, and all darts are connected.
use Rattle.std.proofs.Common.{◌≡◌, ◌≢◌, ℕ, ◌+◌, ◌-◌, ◌<◌, ◌≤◌, ◌⊎◌, ◌==◌, if◌then◌else◌, eqb, true, List, [], ◌∷◌, ◌++◌, map, reverse, ◌∙◌, arith, subst, sym, ap, refl, inl, inr, append_assoc}
use Rattle.std.proofs.lemmas.Bool.{cases_eq, eq-eqb, ne_eqb, cond-true, cond-false}
use Rattle.std.proofs.lemmas.Grind.{reverse_onto}
use Rattle.std.proofs.lemmas.List.{map_push, append-nil}
use Rattle.faces.specs.Planes.{PlaneModel, IsPlane, HasEnds, darts, reverse_dart}
use Rattle.faces.proofs.Ends.{plane_ends, seven_rules}
use Rattle.faces.proofs.Connected.{all_connected}
use Rattle.ortho_rep.specs.declared.turn_strings.Turn.{Turn}
use Rattle.ortho_rep.specs.declared.turn_strings.Turn.TheVariants.{Left, Right}
use Rattle.ortho_rep.specs.Turns.{opposite, mirrored}
use Rattle.dissect.specs.DartMaps.{DartMap, IsTied, no_dart}
use Rattle.dissect.specs.Paths.{HasPaths, IsConnected}
use Rattle.dissect.proofs.Splitting.{split_tied}
use Rattle.dissect.proofs.StayingConnected.{IsExtended, extended_same, extended_on, extended_connected, split_extended}
use Rattle.dissect.proofs.Lengthening.{path_turns}
use Rattle.dissect.proofs.Bends.{bend_paths}
use Rattle.dissect.proofs.StraightPaths.{plain_paths}
use Rattle.dissect.specs.Bare.{IsBare}
use Rattle.dissect.specs.Steps.{angle_of, start_direction, IsBent, straight, turned, AreBent, finished, passed, bent}

-- the quarters of a string's turns
abbrev pub quarters_of : List Turn → List ℕ
quarters_of turns = map angle_of turns

opposite_angle : (turn : Turn) → angle_of (opposite turn) ≡ 4 - angle_of turn
opposite_angle Left = refl
opposite_angle Right = refl

quarter_angle : (turn : Turn) → (angle_of turn ≡ 1) ⊎ (angle_of turn ≡ 3)
quarter_angle Left = inl refl
quarter_angle Right = inr refl

-- the way back of a string with one more turn in front
quarters-mirrored : (turn : Turn) (turns : List Turn) →
    quarters_of (mirrored (turn ∷ turns)) ≡ quarters_of (mirrored turns) ++ ((4 - angle_of turn) ∷ [])
quarters-mirrored turn turns =
    ap (λ (ts : List Turn). quarters_of (map opposite ts)) (reverse_onto turns turn [])
    ∙ ap quarters_of (map_push opposite (reverse turns) turn)
    ∙ map_push angle_of (mirrored turns) (opposite turn)
    ∙ ap (λ (k : ℕ). quarters_of (mirrored turns) ++ (k ∷ [])) (opposite_angle turn)

-- the same paths where the quarters are the same
pub paths_same : (w : DartMap) (n : ℕ) (reverse_dart : ℕ → ℕ) (quarters quarters' : ℕ → List ℕ) → ((d : ℕ) → d < n → quarters d ≡ quarters' d) →
    HasPaths w n reverse_dart quarters → HasPaths w n reverse_dart quarters'
paths_same w n reverse_dart quarters quarters' same has = record {
  few = has.few;
  paths = λ d l. path_turns w d (reverse_dart d) (quarters d) (quarters' d) (same d l) (has.paths d l);
  ends = has.ends;
}

pub bent_more : (e : ℕ) (w : DartMap) (turns : List Turn) (new : DartMap) → IsBent e w turns new → w.darts ≤ new.darts
bent_more e w turns new (straight v) = omega arith
bent_more e w turns new (turned v mid last turn rest subdivide bends) =
    omega (arith, subdivide.darts, bent_more e mid rest last bends)

pub bent_tied : (e : ℕ) (w : DartMap) (turns : List Turn) (new : DartMap) → IsTied w → e < w.darts → IsBent e w turns new → IsTied new
bent_tied e w turns new tied e_in (straight v) = tied
bent_tied e w turns new tied e_in (turned v mid last turn rest subdivide bends) =
    bent_tied e mid rest last (split_tied v e (start_direction v e) (angle_of turn) mid tied e_in subdivide)
    (omega (arith, e_in, subdivide.darts)) bends

pub bent_extended : (e : ℕ) (w : DartMap) (turns : List Turn) (new : DartMap) → IsTied w → e < w.darts → IsBent e w turns new → IsExtended w new
bent_extended e w turns new tied e_in (straight v) = extended_same w
bent_extended e w turns new tied e_in (turned v mid last turn rest subdivide bends) =
    extended_on v mid last (split_extended v e (start_direction v e) (angle_of turn) mid tied e_in subdivide)
    (bent_extended e mid rest last (split_tied v e (start_direction v e) (angle_of turn) mid tied e_in subdivide)
    (omega (arith, e_in, subdivide.darts)) bends)

-- the quarters where the edge of e got these, in front on the way back
abbrev pub with_turns : (ℕ → List ℕ) → ℕ → ℕ → List Turn → ℕ → List ℕ
with_turns quarters e t turns d =
    if d == e then quarters e ++ quarters_of turns else (if d == t then quarters_of (mirrored turns) ++ quarters t else quarters d)

pub with_turns-at : (quarters : ℕ → List ℕ) (e t : ℕ) (turns : List Turn) →
    with_turns quarters e t turns e ≡ quarters e ++ quarters_of turns
with_turns-at quarters e t turns = cond-true {A = List ℕ} (eqb e e) _ _ (eq-eqb e e refl)

pub with_turns-back : (quarters : ℕ → List ℕ) (e t : ℕ) (turns : List Turn) → t ≢ e →
    with_turns quarters e t turns t ≡ quarters_of (mirrored turns) ++ quarters t
with_turns-back quarters e t turns apart =
    cond-false {A = List ℕ} (eqb t e) _ _ (ne_eqb t e apart) ∙ cond-true {A = List ℕ} (eqb t t) _ _ (eq-eqb t t refl)

pub with_turns-other : (quarters : ℕ → List ℕ) (e t : ℕ) (turns : List Turn) (d : ℕ) → d ≢ e → d ≢ t →
    with_turns quarters e t turns d ≡ quarters d
with_turns-other quarters e t turns d not_e not_t =
    cond-false {A = List ℕ} (eqb d e) _ _ (ne_eqb d e not_e) ∙ cond-false {A = List ℕ} (eqb d t) _ _ (ne_eqb d t not_t)

-- the paths of all edges once the edge of e got its turns
pub bent_paths : (e : ℕ) (w : DartMap) (turns : List Turn) (new : DartMap) (n : ℕ) (reverse_dart : ℕ → ℕ) (quarters quarters' : ℕ → List ℕ) →
    IsTied w → e < n → new.darts ≤ no_dart → ((d : ℕ) → d < n → reverse_dart d < n) → ((d : ℕ) → d < n → reverse_dart (reverse_dart d) ≡ d) → reverse_dart e ≢ e →
    quarters' e ≡ quarters e ++ quarters_of turns → quarters' (reverse_dart e) ≡ quarters_of (mirrored turns) ++ quarters (reverse_dart e) →
    ((d : ℕ) → d < n → d ≢ e → d ≢ reverse_dart e → quarters' d ≡ quarters d) →
    IsBent e w turns new → HasPaths w n reverse_dart quarters → HasPaths new n reverse_dart quarters'
bent_paths e w turns new n reverse_dart quarters quarters' tied e_in darts_fit reverse_dart_in reverse_dart_back apart at_e at_reverse_dart other (straight v) has =
    paths_same w n reverse_dart quarters quarters'
    (λ d l. elim (cases_eq d e) [
      | inl is_e ↦ ap quarters is_e ∙ sym (ap quarters' is_e ∙ at_e ∙ append-nil (quarters e))
      | inr not_e ↦ elim (cases_eq d (reverse_dart e)) [
        | inl is_reverse_dart ↦ ap quarters is_reverse_dart ∙ sym (ap quarters' is_reverse_dart ∙ at_reverse_dart)
        | inr not_reverse_dart ↦ sym (other d l not_e not_reverse_dart)
      ]
    ]) has
bent_paths e w turns new n reverse_dart quarters quarters' tied e_in darts_fit reverse_dart_in reverse_dart_back apart at_e at_reverse_dart other
    (turned v mid last turn rest subdivide bends) has =
    let t : ℕ = reverse_dart e in
    let next : ℕ → List ℕ = with_turns quarters e t (turn ∷ []) in
    let next_e : next e ≡ quarters e ++ (angle_of turn ∷ []) = with_turns-at quarters e t (turn ∷ []) in
    let next_t : next t ≡ (4 - angle_of turn) ∷ quarters t =
    with_turns-back quarters e t (turn ∷ []) apart ∙ ap (λ (k : ℕ). k ∷ quarters t) (opposite_angle turn) in
    let darts_fit_now : v.darts ≤ no_dart = omega (arith, darts_fit, bent_more e mid rest last bends, subdivide.darts) in
    let middle : HasPaths mid n reverse_dart next =
    bend_paths v e (start_direction v e) (angle_of turn) mid n reverse_dart quarters next tied e_in darts_fit_now (omega arith) (quarter_angle turn) subdivide
    reverse_dart_in reverse_dart_back apart next_e next_t (λ d l not_e not_t. with_turns-other quarters e t (turn ∷ []) d not_e not_t) has in
    bent_paths e mid rest last n reverse_dart next quarters'
    (split_tied v e (start_direction v e) (angle_of turn) mid tied (omega (arith, e_in, has.few)) subdivide)
    e_in darts_fit reverse_dart_in reverse_dart_back apart
    (at_e ∙ sym (append_assoc (quarters e) (angle_of turn ∷ []) (quarters_of rest))
    ∙ ap (λ (ts : List ℕ). ts ++ quarters_of rest) (sym next_e))
    (at_reverse_dart ∙ ap (λ (ts : List ℕ). ts ++ quarters t) (quarters-mirrored turn rest)
    ∙ append_assoc (quarters_of (mirrored rest)) ((4 - angle_of turn) ∷ []) (quarters t)
    ∙ ap (λ (ts : List ℕ). quarters_of (mirrored rest) ++ ts) (sym next_t))
    (λ d l not_e not_t. other d l not_e not_t ∙ sym (with_turns-other quarters e t (turn ∷ []) d not_e not_t))
    bends middle

-- the map on its way: the edges whose lesser dart is below k have their turns
pub record HasTurned (p : PlaneModel) (s : ℕ → List Turn) (k : ℕ) (w : DartMap) : Type 0 where
  pub quarters : ℕ → List ℕ
  pub paths : HasPaths w (darts p) (reverse_dart p) quarters
  pub done : (d : ℕ) → d < darts p → (d < k) ⊎ (reverse_dart p d < k) → quarters d ≡ quarters_of (s d)
  pub left : (d : ℕ) → d < darts p → k ≤ d → k ≤ reverse_dart p d → quarters d ≡ []

pub turned_passed : (p : PlaneModel) (s : ℕ → List Turn) (k : ℕ) (w : DartMap) → HasEnds p → reverse_dart p k ≤ k →
    HasTurned p s k w → HasTurned p s (k + 1) w
turned_passed p s k w ends back has = record {
  quarters = has.quarters;
  paths = has.paths;
  done = λ d l either. has.done d l (before d l either);
  left = λ d l low low_reverse_dart. has.left d l (omega (arith, low)) (omega (arith, low_reverse_dart));
}
  where
    before : (d : ℕ) → d < darts p → (d < k + 1) ⊎ (reverse_dart p d < k + 1) → (d < k) ⊎ (reverse_dart p d < k)
    before d l (inl low) =
        elim (cases_eq d k) [
          | inl at ↦ inr (omega (arith, ap (reverse_dart p) at, ends.reverse_dart_apart d l, at, back))
          | inr other ↦ inl (omega arith)
        ]
    before d l (inr low) =
        elim (cases_eq (reverse_dart p d) k) [
          | inl at ↦ inl (omega (arith, sym (ends.reverse_dart_back d l) ∙ ap (reverse_dart p) at, ends.reverse_dart_apart d l, at, back))
          | inr other ↦ inr (omega arith)
        ]

pub turned_bent : (p : PlaneModel) (s : ℕ → List Turn) (k : ℕ) (w mid : DartMap) → HasEnds p →
    ((d : ℕ) → d < darts p → s (reverse_dart p d) ≡ mirrored (s d)) → k < darts p → k < reverse_dart p k → IsTied w → mid.darts ≤ no_dart →
    IsBent k w (s k) mid → HasTurned p s k w → HasTurned p s (k + 1) mid
turned_bent p s k w mid ends mirrors k_in less tied darts_fit bends has =
    let t : ℕ = reverse_dart p k in
    let t_in : t < darts p = ends.reverse_dart_in_range k k_in in
    let apart : t ≢ k = ends.reverse_dart_apart k k_in in
    let at_k : has.quarters k ≡ [] = has.left k k_in (omega arith) (omega (arith, less)) in
    let at_t : has.quarters t ≡ [] =
    has.left t t_in (omega (arith, less)) (omega (arith, ends.reverse_dart_back k k_in)) in
    let next : ℕ → List ℕ = with_turns has.quarters k t (s k) in
    let next_k : next k ≡ has.quarters k ++ quarters_of (s k) = with_turns-at has.quarters k t (s k) in
    let next_t : next t ≡ quarters_of (mirrored (s k)) ++ has.quarters t = with_turns-back has.quarters k t (s k) apart in
    let next_other : (d : ℕ) → d ≢ k → d ≢ t → next d ≡ has.quarters d =
    λ d not_k not_t. with_turns-other has.quarters k t (s k) d not_k not_t in
    let whole_k : next k ≡ quarters_of (s k) = next_k ∙ ap (λ (ts : List ℕ). ts ++ quarters_of (s k)) at_k in
    let whole_t : next t ≡ quarters_of (s t) =
    next_t ∙ ap (λ (ts : List ℕ). quarters_of (mirrored (s k)) ++ ts) at_t ∙ append-nil (quarters_of (mirrored (s k)))
    ∙ ap quarters_of (sym (mirrors k k_in)) in
    record {
      quarters = next;
      paths = bent_paths k w (s k) mid (darts p) (reverse_dart p) has.quarters next tied k_in darts_fit ends.reverse_dart_in_range ends.reverse_dart_back apart
          next_k next_t (λ d l not_k not_t. next_other d not_k not_t) bends has.paths;
      done = λ d l either. elim (cases_eq d k) [
        | inl is_k ↦ ap next is_k ∙ whole_k ∙ sym (ap (λ (i : ℕ). quarters_of (s i)) is_k)
        | inr not_k ↦ elim (cases_eq d t) [
          | inl is_t ↦ ap next is_t ∙ whole_t ∙ sym (ap (λ (i : ℕ). quarters_of (s i)) is_t)
          | inr not_t ↦ next_other d not_k not_t ∙ has.done d l (before d l not_k not_t either)
        ]
      ];
      left = λ d l low low_reverse_dart.
          next_other d (λ h. omega (arith, h, low)) (λ h. omega (arith, ap (reverse_dart p) h, ends.reverse_dart_back k k_in, low_reverse_dart))
          ∙ has.left d l (omega (arith, low)) (omega (arith, low_reverse_dart));
    }
  where
    before : (d : ℕ) → d < darts p → d ≢ k → d ≢ reverse_dart p k → (d < k + 1) ⊎ (reverse_dart p d < k + 1) → (d < k) ⊎ (reverse_dart p d < k)
    before d l not_k not_t (inl low) = inl (omega arith)
    before d l not_k not_t (inr low) =
        inr (let other : reverse_dart p d ≢ k = λ h. not_t (sym (ends.reverse_dart_back d l) ∙ ap (reverse_dart p) h) in omega arith)

pub all_more : (p : PlaneModel) (s : ℕ → List Turn) (k : ℕ) (w new : DartMap) → AreBent p s k w new → w.darts ≤ new.darts
all_more p s k w new (finished j v past) = omega arith
all_more p s k w new (passed j v last back rest) = all_more p s (j + 1) v last rest
all_more p s k w new (bent j v mid last j_in less bends rest) =
    omega (arith, bent_more j v (s j) mid bends, all_more p s (j + 1) mid last rest)

pub all_paths : (p : PlaneModel) (s : ℕ → List Turn) (k : ℕ) (w new : DartMap) → HasEnds p →
    ((d : ℕ) → d < darts p → s (reverse_dart p d) ≡ mirrored (s d)) → IsTied w → new.darts ≤ no_dart → AreBent p s k w new →
    HasTurned p s k w → HasPaths new (darts p) (reverse_dart p) (λ d. quarters_of (s d))
all_paths p s k w new ends mirrors tied darts_fit (finished j v past) has =
    paths_same v (darts p) (reverse_dart p) has.quarters (λ d. quarters_of (s d))
    (λ d l. has.done d l (inl (omega (arith, past)))) has.paths
all_paths p s k w new ends mirrors tied darts_fit (passed j v last back rest) has =
    all_paths p s (j + 1) v last ends mirrors tied darts_fit rest (turned_passed p s j v ends back has)
all_paths p s k w new ends mirrors tied darts_fit (bent j v mid last j_in less bends rest) has =
    let j_old : j < v.darts = omega (arith, j_in, has.paths.few) in
    all_paths p s (j + 1) mid last ends mirrors (bent_tied j v (s j) mid tied j_old bends) darts_fit rest
    (turned_bent p s j v mid ends mirrors j_in less tied (omega (arith, darts_fit, all_more p s (j + 1) mid last rest)) bends has)

pub all_extended : (p : PlaneModel) (s : ℕ → List Turn) (k : ℕ) (w new : DartMap) → IsTied w → darts p ≤ w.darts → AreBent p s k w new →
    IsExtended w new
all_extended p s k w new tied few (finished j v past) = extended_same v
all_extended p s k w new tied few (passed j v last back rest) = all_extended p s (j + 1) v last tied few rest
all_extended p s k w new tied few (bent j v mid last j_in less bends rest) =
    let j_old : j < v.darts = omega (arith, j_in, few) in
    extended_on v mid last (bent_extended j v (s j) mid tied j_old bends)
    (all_extended p s (j + 1) mid last (bent_tied j v (s j) mid tied j_old bends)
    (omega (arith, few, bent_more j v (s j) mid bends)) rest)

-- before any edge has its turns
pub turned_bare : (p : PlaneModel) (a h : ℕ → ℕ) (s : ℕ → List Turn) (w : DartMap) → IsBare p a h w → HasTurned p s 0 w
turned_bare p a h s w bare = record {
  quarters = λ _. [];
  paths = plain_paths w (darts p) (reverse_dart p) bare.dart_count bare.befores bare.reverse_darts;
  done = λ d l either. none either;
  left = λ d l low low_reverse_dart. refl;
}
  where
    none : {A : Type 0} {x y : ℕ} → (x < 0) ⊎ (y < 0) → A
    none (inl h) = absurd (omega (arith, h))
    none (inr h) = absurd (omega (arith, h))

pub bare_connected : (p : PlaneModel) (a h : ℕ → ℕ) (w : DartMap) → IsPlane p → IsBare p a h w → IsConnected w
bare_connected p a h w plane bare s next reverse_dart x y l_x l_y at =
    all_connected p.lists (seven_rules p.lists plane.rules) s
    (λ d l on. subst (λ (k : ℕ). s k ≡ true) (bare.nexts d l) (next d (omega (arith, l, bare.dart_count)) on))
    (λ d l on. subst (λ (k : ℕ). s k ≡ true) (bare.reverse_darts d l) (reverse_dart d (omega (arith, l, bare.dart_count)) on))
    x y (omega (arith, l_x, bare.dart_count)) (omega (arith, l_y, bare.dart_count)) at

-- the map of a plane that got all bends: its edges have their paths
pub bends_have_paths : (p : PlaneModel) (a h : ℕ → ℕ) (s : ℕ → List Turn) (w new : DartMap) → IsPlane p →
    ((d : ℕ) → d < darts p → s (reverse_dart p d) ≡ mirrored (s d)) → IsBare p a h w → IsTied w → new.darts ≤ no_dart → AreBent p s 0 w new →
    HasPaths new (darts p) (reverse_dart p) (λ d. quarters_of (s d))
bends_have_paths p a h s w new plane mirrors bare tied darts_fit all =
    all_paths p s 0 w new (plane_ends p plane) mirrors tied darts_fit all (turned_bare p a h s w bare)

-- and it is connected
pub bends_stay_connected : (p : PlaneModel) (a h : ℕ → ℕ) (s : ℕ → List Turn) (w new : DartMap) → IsPlane p → IsBare p a h w → IsTied w →
    AreBent p s 0 w new → IsConnected new
bends_stay_connected p a h s w new plane bare tied all =
    extended_connected w new (all_extended p s 0 w new tied (omega (arith, bare.dart_count)) all) (bare_connected p a h w plane bare)
