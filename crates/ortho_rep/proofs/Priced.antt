-- One dart's prices: what they say whether its angle and its turns are given or not.
use Rattle.std.proofs.Common.{◌≡◌, ◌<◌, ◌≤◌, ℕ, List, ap, refl, sym, subst, ◌∙◌, arith}
use Rattle.std.specs.Prelude.{ℤ, pos, ◌+ℤ◌, ◌-ℤ◌, ◌≤ℤ◌, Option, Some, None}
use Rattle.ortho_rep.specs.declared.turn_strings.Turn.{Turn}
use Rattle.ortho_rep.specs.Turns.{lefts}
use Rattle.ortho_rep.specs.Keeping.{one_way}
use Rattle.ortho_rep.specs.Prices.{IsAnglePriced, AreTurnsPriced, IsAngleKept, AreTurnsKept, IsPricedAt}
use Rattle.faces.specs.Planes.{PlaneModel, head, reverse_dart, face_at}
use Rattle.flow_network.specs.Given.{nothing_given}
use Rattle.flow_network.proofs.GivenParts.{none_along}

-- equal values are priced alike
pub angle_same : (given : Option ℕ) (a b : ℕ) (v v' f f' : ℤ) → b ≡ a → v' ≡ v → f' ≡ f → IsAngleKept given a v f → IsAngleKept given b v' f'
angle_same None a b v v' f f' ea ev ef h = rw (ea, ev, ef) h
angle_same (Some k) a b v v' f f' ea ev ef h = ea ∙ h

pub turns_same : (given : Option ℤ) (s t : List Turn) (f f' g g' : ℤ) → t ≡ s → f' ≡ f → g' ≡ g → AreTurnsKept given s f g → AreTurnsKept given t f' g'
turns_same None s t f f' g g' et ef eg h = rw (et, ef, eg) h
turns_same (Some k) s t f f' g g' et ef eg h = et ∙ h

-- two darts that keep what is given: another angle is wider or narrower only where it is free
pub wider_of : (given : Option ℕ) (angle other : ℕ) (vertex face : ℤ) → IsAngleKept given angle vertex face → ((k : ℕ) → given ≡ Some k → other ≡ k) → other ≤ 4 → angle < other → face ≤ℤ vertex
wider_of None angle other vertex face kept keeps most more = kept.wider (omega arith)
wider_of (Some k) angle other vertex face kept keeps most more = absurd (omega (arith, kept, keeps k refl))

pub narrower_of : (given : Option ℕ) (angle other : ℕ) (vertex face : ℤ) → IsAngleKept given angle vertex face → ((k : ℕ) → given ≡ Some k → other ≡ k) → 1 ≤ other → other < angle → vertex ≤ℤ face
narrower_of None angle other vertex face kept keeps least less = kept.narrower (omega arith)
narrower_of (Some k) angle other vertex face kept keeps least less = absurd (omega (arith, kept, keeps k refl))

-- and other left turns are more or fewer only where they are free
pub crossed_of : (given : Option ℤ) (turns other : List Turn) (face across : ℤ) → AreTurnsKept given turns face across → ((t : ℤ) → given ≡ Some t → other ≡ one_way t) → lefts turns < lefts other → pos 0 ≤ℤ (pos 1 +ℤ face -ℤ across)
crossed_of None turns other face across kept keeps more = kept.crossed
crossed_of (Some t) turns other face across kept keeps more = absurd (omega (arith, ap lefts kept, ap lefts (keeps t refl)))

pub tight_of : (given : Option ℤ) (turns other : List Turn) (face across : ℤ) → AreTurnsKept given turns face across → ((t : ℤ) → given ≡ Some t → other ≡ one_way t) → lefts other < lefts turns → (pos 1 +ℤ face -ℤ across) ≡ pos 0
tight_of None turns other face across kept keeps less = kept.tight (omega arith)
tight_of (Some t) turns other face across kept keeps less = absurd (omega (arith, ap lefts kept, ap lefts (keeps t refl)))

-- what is given is kept
pub angle_of : (given : Option ℕ) (angle : ℕ) (vertex face : ℤ) → IsAngleKept given angle vertex face → (k : ℕ) → given ≡ Some k → angle ≡ k
angle_of given angle vertex face kept k is = subst (λ (g : Option ℕ). IsAngleKept g angle vertex face) is kept

pub turns_of : (given : Option ℤ) (turns : List Turn) (face across : ℤ) → AreTurnsKept given turns face across → (t : ℤ) → given ≡ Some t → turns ≡ one_way t
turns_of given turns face across kept t is = subst (λ (g : Option ℤ). AreTurnsKept g turns face across) is kept

-- where nothing is given, the prices of all angles and all turns agree
pub plain_angle : (p : PlaneModel) (a : ℕ → ℕ) (s : ℕ → List Turn) (v q : ℕ → ℤ) (d : ℕ) → IsPricedAt p nothing_given a s v q d → IsAnglePriced (a d) (v (head p d)) (q (face_at p d))
plain_angle p a s v q d priced = priced.angle

pub plain_turns : (p : PlaneModel) (a : ℕ → ℕ) (s : ℕ → List Turn) (v q : ℕ → ℤ) (d : ℕ) → IsPricedAt p nothing_given a s v q d → AreTurnsPriced (s d) (q (face_at p d)) (q (face_at p (reverse_dart p d)))
plain_turns p a s v q d priced = subst (λ (g : Option ℤ). AreTurnsKept g (s d) (q (face_at p d)) (q (face_at p (reverse_dart p d)))) (none_along p d) priced.turns

pub plain_priced : (p : PlaneModel) (a : ℕ → ℕ) (s : ℕ → List Turn) (v q : ℕ → ℤ) (d : ℕ) → IsAnglePriced (a d) (v (head p d)) (q (face_at p d)) → AreTurnsPriced (s d) (q (face_at p d)) (q (face_at p (reverse_dart p d))) → IsPricedAt p nothing_given a s v q d
plain_priced p a s v q d angle turns = record {
  angle = angle;
  turns = subst (λ (g : Option ℤ). AreTurnsKept g (s d) (q (face_at p d)) (q (face_at p (reverse_dart p d)))) (sym (none_along p d)) turns;
}

-- what is kept at equal values
pub angle_moved : (g g' : Option ℕ) (a b : ℕ) (v v' f f' : ℤ) → g ≡ g' → a ≡ b → v ≡ v' → f ≡ f' → IsAngleKept g a v f → IsAngleKept g' b v' f'
angle_moved g g' a b v v' f f' eg ea ev ef h =
    subst (λ (z : ℤ). IsAngleKept g' b v' z) ef
    (subst (λ (z : ℤ). IsAngleKept g' b z f) ev (subst (λ (k : ℕ). IsAngleKept g' k v f) ea (subst (λ (k : Option ℕ). IsAngleKept k a v f) eg h)))

pub turns_moved : (g g' : Option ℤ) (s t : List Turn) (f f' c c' : ℤ) → g ≡ g' → s ≡ t → f ≡ f' → c ≡ c' → AreTurnsKept g s f c → AreTurnsKept g' t f' c'
turns_moved g g' s t f f' c c' eg es ef ec h =
    subst (λ (z : ℤ). AreTurnsKept g' t f' z) ec
    (subst (λ (z : ℤ). AreTurnsKept g' t z c) ef (subst (λ (k : List Turn). AreTurnsKept g' k f c) es (subst (λ (k : Option ℤ). AreTurnsKept k s f c) eg h)))
