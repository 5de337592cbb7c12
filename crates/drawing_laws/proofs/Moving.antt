-- A unit that moves through faces and vertices: at a dart it makes an angle wider or narrower, a left turn more or one less.
-- All but two of the faces and vertices keep what they have.
use Rattle.std.proofs.Common.{◌≡◌, ◌≢◌, ◌≤◌, ◌<◌, ◌⊎◌, ℕ, ◌+◌, ◌-◌, Bool, true, false, cond, eqb, inl, inr, refl, sym, ap, ◌∙◌, subst, arith}
use Rattle.std.proofs.lemmas.Bool.{cases_eq, eq-eqb, ne_eqb, cond-true, cond-false, both_ways}
use Rattle.common.specs.Sums.{sum_below}
use Rattle.common.proofs.Sums.{sum_below-changed}
use Rattle.faces.specs.Planes.{PlaneModel, HasEnds, darts, head, reverse_dart, face_at}
use Rattle.ortho_rep.proofs.WeakDuality.{part_at}

-- faces and vertices are nodes: vertex v has the number of the faces and v
abbrev pub corner_at : PlaneModel → ℕ → ℕ
corner_at p d = p.faces + head p d

abbrev pub across_at : PlaneModel → ℕ → ℕ
across_at p d = face_at p (reverse_dart p d)

-- one at the node w
abbrev pub one_at : ℕ → ℕ → ℕ
one_at w u = cond (eqb w u) 1 0

-- the quarter turns of a face to the left, and those to the right, by angles a and left turns l
abbrev pub left_sum_at : PlaneModel → (ℕ → ℕ) → ℕ → ℕ
left_sum_at p l f = part_at (darts p) (face_at p) (λ e. 2 + l e) f

abbrev pub right_sum_at : PlaneModel → (ℕ → ℕ) → (ℕ → ℕ) → ℕ → ℕ
right_sum_at p a l f = part_at (darts p) (face_at p) (λ e. a e + l (reverse_dart p e)) f

-- ---- one place

-- a function with another value at one place
abbrev pub put : (ℕ → ℕ) → ℕ → ℕ → ℕ → ℕ
put f d x e = cond (eqb e d) x (f e)

pub put-here : (f : ℕ → ℕ) (d x : ℕ) → put f d x d ≡ x
put-here f d x = cond-true {A = ℕ} (eqb d d) x (f d) (eq-eqb d d refl)

pub put-other : (f : ℕ → ℕ) (d x e : ℕ) → e ≢ d → put f d x e ≡ f e
put-other f d x e ne = cond-false {A = ℕ} (eqb e d) x (f e) (ne_eqb e d ne)

-- the set with one node more
abbrev pub with_one : (ℕ → Bool) → ℕ → ℕ → Bool
with_one s w u = cond (eqb u w) true (s u)

pub with-here : (s : ℕ → Bool) (w : ℕ) → with_one s w w ≡ true
with-here s w = cond-true {A = Bool} (eqb w w) true (s w) (eq-eqb w w refl)

pub with-other : (s : ℕ → Bool) (w u : ℕ) → u ≢ w → with_one s w u ≡ s u
with-other s w u ne = cond-false {A = Bool} (eqb u w) true (s u) (ne_eqb u w ne)

pub with-kept : (s : ℕ → Bool) (w u : ℕ) → s u ≡ true → with_one s w u ≡ true
with-kept s w u h = elim (cases_eq u w) [
  | inl e ↦ ap (with_one s w) e ∙ with-here s w
  | inr ne ↦ with-other s w u ne ∙ h
]

one_at-other : (w u : ℕ) → w ≢ u → one_at w u ≡ 0
one_at-other w u ne = cond-false {A = ℕ} (eqb w u) 1 0 (ne_eqb w u ne)

one_at-moved : (m w u : ℕ) → one_at (m + w) (m + u) ≡ one_at w u
one_at-moved m w u =
    elim (cases_eq w u) [
      | inl e ↦ ap (λ c. cond c 1 0) (eq-eqb (m + w) (m + u) (ap (λ (x : ℕ). m + x) e) ∙ sym (eq-eqb w u e))
      | inr ne ↦ ap (λ c. cond c 1 0) (ne_eqb (m + w) (m + u) (λ q. ne (omega arith)) ∙ sym (ne_eqb w u ne))
    ]

-- where one summand is one more, so is the part at its place
part-more : (n d : ℕ) (at f g : ℕ → ℕ) → d < n → ((e : ℕ) → e < n → e ≢ d → f e ≡ g e) → g d ≡ f d + 1 → (k : ℕ) → part_at n at g k ≡ part_at n at f k + one_at (at d) k
part-more n d at f g inside others here k =
    let changed = sum_below-changed n d (λ e. cond (eqb (at e) k) (f e) 0) (λ e. cond (eqb (at e) k) (g e) 0) inside (λ e b ne. ap (λ (x : ℕ). cond (eqb (at e) k) x 0) (others e b ne)) in
    omega (arith, changed, choice (eqb (at d) k) (f d) (g d) here)
  where
    choice : (c : Bool) (x z : ℕ) → z ≡ x + 1 → cond c z 0 ≡ cond c x 0 + cond c 1 0
    choice true x z h = h
    choice false x z h = refl

sum-more : (n d : ℕ) (f g : ℕ → ℕ) → d < n → ((e : ℕ) → e < n → e ≢ d → f e ≡ g e) → g d ≡ f d + 1 → sum_below n g ≡ sum_below n f + 1
sum-more n d f g inside others here = omega (arith, sum_below-changed n d f g inside others, here)

-- ---- a unit that has come to a node

-- from the representation with angles a and left turns l a unit has moved from the face across dart k to the node x, at darts
-- between nodes that are reached: what angles and left turns are then. With the prices y each left turn more or less is paid
pub record Moved (p : PlaneModel) (a l y : ℕ → ℕ) (k : ℕ) (reached : ℕ → Bool) (x : ℕ) : Type 0 where
  pub angles : ℕ → ℕ
  pub lefts : ℕ → ℕ
  pub sizes : (d : ℕ) → d < darts p → (1 ≤ angles d) × (angles d ≤ 4)
  pub same_angle : (d : ℕ) → d < darts p → (angles d ≡ a d) ⊎ ((reached (face_at p d) ≡ true) × (reached (corner_at p d) ≡ true))
  pub same_lefts : (d : ℕ) → d < darts p → (lefts d ≡ l d) ⊎ ((reached (face_at p d) ≡ true) × (reached (across_at p d) ≡ true))
  pub kept : l k ≤ lefts k
  pub around : (v : ℕ) → part_at (darts p) (head p) angles v ≡ part_at (darts p) (head p) a v + one_at x (p.faces + v)
  pub faces : (f : ℕ) → f < p.faces → left_sum_at p lefts f + right_sum_at p a l f + one_at (across_at p k) f ≡ left_sum_at p l f + right_sum_at p angles lefts f + one_at x f
  pub total : sum_below (darts p) lefts + y x ≡ sum_below (darts p) l + y (across_at p k)

-- at first it stands at the face across
pub starts : (p : PlaneModel) (a l y : ℕ → ℕ) (k : ℕ) (reached : ℕ → Bool) → HasEnds p → k < darts p → ((d : ℕ) → d < darts p → (1 ≤ a d) × (a d ≤ 4)) → Moved p a l y k reached (across_at p k)
starts p a l y k reached ends inside sizes =
    let below : across_at p k < p.faces = ends.face_named (reverse_dart p k) (ends.reverse_dart_in_range k inside) in
    record {
      angles = a;
      lefts = l;
      sizes = sizes;
      same_angle = λ d b. inl refl;
      same_lefts = λ d b. inl refl;
      kept = omega arith;
      around = λ v. omega (arith, one_at-other (across_at p k) (p.faces + v) (λ e. omega arith));
      faces = λ f b. refl;
      total = refl;
    }

-- what was reached still is
grown : {A : Type 0} (reached : ℕ → Bool) (w u v : ℕ) → A ⊎ ((reached u ≡ true) × (reached v ≡ true)) → A ⊎ ((with_one reached w u ≡ true) × (with_one reached w v ≡ true))
grown reached w u v (inl same) = inl same
grown reached w u v (inr (h, g)) = inr (with-kept reached w u h, with-kept reached w v g)

pub weaker : (p : PlaneModel) (a l y : ℕ → ℕ) (k : ℕ) (reached : ℕ → Bool) (w x : ℕ) → Moved p a l y k reached x → Moved p a l y k (with_one reached w) x
weaker p a l y k reached w x m = record {
  angles = m.angles;
  lefts = m.lefts;
  sizes = m.sizes;
  same_angle = λ d b. grown reached w (face_at p d) (corner_at p d) (m.same_angle d b);
  same_lefts = λ d b. grown reached w (face_at p d) (across_at p d) (m.same_lefts d b);
  kept = m.kept;
  around = m.around;
  faces = m.faces;
  total = m.total;
}

-- where one of two nodes is not reached, what lies between them is as it was
as_before : {A : Type 0} (b c : Bool) → (b ≡ false) ⊎ (c ≡ false) → A ⊎ ((b ≡ true) × (c ≡ true)) → A
as_before b c none (inl same) = same
as_before b c (inl none) (inr (h, g)) = absurd (both_ways b none h)
as_before b c (inr none) (inr (h, g)) = absurd (both_ways c none g)

-- ---- one dart further

-- a value changes at one dart, between two nodes that are reached with the new one
new_angle : (p : PlaneModel) (a angles : ℕ → ℕ) (reached : ℕ → Bool) (w d z : ℕ) → (with_one reached w (face_at p d) ≡ true) × (with_one reached w (corner_at p d) ≡ true)
    → ((e : ℕ) → e < darts p → (angles e ≡ a e) ⊎ ((reached (face_at p e) ≡ true) × (reached (corner_at p e) ≡ true)))
    → (e : ℕ) → e < darts p → (put angles d z e ≡ a e) ⊎ ((with_one reached w (face_at p e) ≡ true) × (with_one reached w (corner_at p e) ≡ true))
new_angle p a angles reached w d z both same e b =
    elim (cases_eq e d) [
      | inl q ↦ inr (ap (λ (i : ℕ). with_one reached w (face_at p i)) q ∙ both.0, ap (λ (i : ℕ). with_one reached w (corner_at p i)) q ∙ both.1)
      | inr ne ↦ elim (same e b) [
        | inl old ↦ inl (put-other angles d z e ne ∙ old)
        | inr held ↦ inr (with-kept reached w (face_at p e) held.0, with-kept reached w (corner_at p e) held.1)
      ]
    ]

new_lefts : (p : PlaneModel) (l lefts : ℕ → ℕ) (reached : ℕ → Bool) (w d z : ℕ) → (with_one reached w (face_at p d) ≡ true) × (with_one reached w (across_at p d) ≡ true)
    → ((e : ℕ) → e < darts p → (lefts e ≡ l e) ⊎ ((reached (face_at p e) ≡ true) × (reached (across_at p e) ≡ true)))
    → (e : ℕ) → e < darts p → (put lefts d z e ≡ l e) ⊎ ((with_one reached w (face_at p e) ≡ true) × (with_one reached w (across_at p e) ≡ true))
new_lefts p l lefts reached w d z both same e b =
    elim (cases_eq e d) [
      | inl q ↦ inr (ap (λ (i : ℕ). with_one reached w (face_at p i)) q ∙ both.0, ap (λ (i : ℕ). with_one reached w (across_at p i)) q ∙ both.1)
      | inr ne ↦ elim (same e b) [
        | inl old ↦ inl (put-other lefts d z e ne ∙ old)
        | inr held ↦ inr (with-kept reached w (face_at p e) held.0, with-kept reached w (across_at p e) held.1)
      ]
    ]

new_size : (p : PlaneModel) (angles : ℕ → ℕ) (d z : ℕ) → ((e : ℕ) → e < darts p → (1 ≤ angles e) × (angles e ≤ 4)) → (1 ≤ z) × (z ≤ 4)
    → (e : ℕ) → e < darts p → (1 ≤ put angles d z e) × (put angles d z e ≤ 4)
new_size p angles d z old new e b =
    elim (cases_eq e d) [
      | inl q ↦ subst (λ (x : ℕ). (1 ≤ x) × (x ≤ 4)) (sym (cond-true {A = ℕ} (eqb e d) z (angles e) (eq-eqb e d q))) new
      | inr ne ↦ subst (λ (x : ℕ). (1 ≤ x) × (x ≤ 4)) (sym (put-other angles d z e ne)) (old e b)
    ]

-- a face takes on what the angle or the left turns at one of its darts are more
right_sum-angle : (p : PlaneModel) (l f g : ℕ → ℕ) (d : ℕ) → d < darts p → ((e : ℕ) → e < darts p → e ≢ d → f e ≡ g e) → g d ≡ f d + 1 → (k : ℕ) → right_sum_at p g l k ≡ right_sum_at p f l k + one_at (face_at p d) k
right_sum-angle p l f g d inside others here k =
    part-more (darts p) d (face_at p) (λ e. f e + l (reverse_dart p e)) (λ e. g e + l (reverse_dart p e)) inside
    (λ e b ne. ap (λ (x : ℕ). x + l (reverse_dart p e)) (others e b ne)) (omega (arith, here)) k

pub left_sum-lefts : (p : PlaneModel) (f g : ℕ → ℕ) (d : ℕ) → d < darts p → ((e : ℕ) → e < darts p → e ≢ d → f e ≡ g e) → g d ≡ f d + 1 → (k : ℕ) → left_sum_at p g k ≡ left_sum_at p f k + one_at (face_at p d) k
left_sum-lefts p f g d inside others here k =
    part-more (darts p) d (face_at p) (λ e. 2 + f e) (λ e. 2 + g e) inside (λ e b ne. ap (λ (x : ℕ). 2 + x) (others e b ne)) (omega (arith, here)) k

pub right_sum-lefts : (p : PlaneModel) (a f g : ℕ → ℕ) (d : ℕ) → HasEnds p → d < darts p → ((e : ℕ) → e < darts p → e ≢ d → f e ≡ g e) → g d ≡ f d + 1 → (k : ℕ) → right_sum_at p a g k ≡ right_sum_at p a f k + one_at (across_at p d) k
right_sum-lefts p a f g d ends inside others here k =
    part-more (darts p) (reverse_dart p d) (face_at p) (λ e. a e + f (reverse_dart p e)) (λ e. a e + g (reverse_dart p e)) (ends.reverse_dart_in_range d inside)
    (λ e b ne. ap (λ (x : ℕ). a e + x) (others (reverse_dart p e) (ends.reverse_dart_in_range e b) (λ q. ne (sym (ends.reverse_dart_back e b) ∙ ap (reverse_dart p) q))))
    (omega (arith, here, ap f (ends.reverse_dart_back d inside), ap g (ends.reverse_dart_back d inside))) k

pub total-lefts : (p : PlaneModel) (f g : ℕ → ℕ) (d : ℕ) → d < darts p → ((e : ℕ) → e < darts p → e ≢ d → f e ≡ g e) → g d ≡ f d + 1 → sum_below (darts p) g ≡ sum_below (darts p) f + 1
total-lefts p f g d inside others here = sum-more (darts p) d f g inside others here

-- from a face through a wider angle to the vertex
pub widen : (p : PlaneModel) (a l y : ℕ → ℕ) (k : ℕ) (reached : ℕ → Bool) (d : ℕ) → HasEnds p → d < darts p → a d < 4 → y (face_at p d) ≡ y (corner_at p d)
    → reached (face_at p d) ≡ true → reached (corner_at p d) ≡ false → Moved p a l y k reached (face_at p d) → Moved p a l y k (with_one reached (corner_at p d)) (corner_at p d)
widen p a l y k reached d ends inside room level from to m =
    let w = corner_at p d in
    let old : m.angles d ≡ a d = as_before (reached (face_at p d)) (reached w) (inr to) (m.same_angle d inside) in
    let new : ℕ → ℕ = put m.angles d (m.angles d + 1) in
    let here : new d ≡ m.angles d + 1 = put-here m.angles d (m.angles d + 1) in
    let others : (e : ℕ) → e < darts p → e ≢ d → m.angles e ≡ new e = λ e b ne. sym (put-other m.angles d (m.angles d + 1) e ne) in
    let below : face_at p d < p.faces = ends.face_named d inside in
    record {
      angles = new;
      lefts = m.lefts;
      sizes = new_size p m.angles d (m.angles d + 1) m.sizes (omega arith, omega arith);
      same_angle = new_angle p a m.angles reached w d (m.angles d + 1) (with-kept reached w (face_at p d) from, with-here reached w) m.same_angle;
      same_lefts = λ e b. grown reached w (face_at p e) (across_at p e) (m.same_lefts e b);
      kept = m.kept;
      around = λ v. omega (
        arith,
        part-more (darts p) d (head p) m.angles new inside others here v,
        m.around v,
        one_at-other (face_at p d) (p.faces + v) (λ e. omega arith),
        one_at-moved p.faces (head p d) v,
      );
      faces = λ f b. omega (arith, right_sum-angle p m.lefts m.angles new d inside others here f, m.faces f b, one_at-other w f (λ e. omega arith));
      total = omega (arith, m.total, level);
    }

-- from a vertex through a narrower angle to the face
pub narrow : (p : PlaneModel) (a l y : ℕ → ℕ) (k : ℕ) (reached : ℕ → Bool) (d : ℕ) → HasEnds p → d < darts p → 1 < a d → y (face_at p d) ≡ y (corner_at p d)
    → reached (corner_at p d) ≡ true → reached (face_at p d) ≡ false → Moved p a l y k reached (corner_at p d) → Moved p a l y k (with_one reached (face_at p d)) (face_at p d)
narrow p a l y k reached d ends inside some level from to m =
    let w = face_at p d in
    let old : m.angles d ≡ a d = as_before (reached w) (reached (corner_at p d)) (inl to) (m.same_angle d inside) in
    let new : ℕ → ℕ = put m.angles d (m.angles d - 1) in
    let here : m.angles d ≡ new d + 1 = omega (arith, put-here m.angles d (m.angles d - 1)) in
    let others : (e : ℕ) → e < darts p → e ≢ d → new e ≡ m.angles e = λ e b ne. put-other m.angles d (m.angles d - 1) e ne in
    let below : w < p.faces = ends.face_named d inside in
    record {
      angles = new;
      lefts = m.lefts;
      sizes = new_size p m.angles d (m.angles d - 1) m.sizes (omega arith, omega (arith, m.sizes d inside));
      same_angle = new_angle p a m.angles reached w d (m.angles d - 1) (with-here reached w, with-kept reached w (corner_at p d) from) m.same_angle;
      same_lefts = λ e b. grown reached w (face_at p e) (across_at p e) (m.same_lefts e b);
      kept = m.kept;
      around = λ v. omega (
        arith,
        part-more (darts p) d (head p) new m.angles inside others here v,
        m.around v,
        one_at-other w (p.faces + v) (λ e. omega arith),
        one_at-moved p.faces (head p d) v,
      );
      faces = λ f b. omega (arith, right_sum-angle p m.lefts new m.angles d inside others here f, m.faces f b, one_at-other (corner_at p d) f (λ e. omega arith));
      total = omega (arith, m.total, level);
    }

-- from the face across to the dart's own, by a left turn more
pub bend : (p : PlaneModel) (a l y : ℕ → ℕ) (k : ℕ) (reached : ℕ → Bool) (d : ℕ) → HasEnds p → d < darts p → y (across_at p d) ≡ y (face_at p d) + 1
    → reached (across_at p d) ≡ true → reached (face_at p d) ≡ false → Moved p a l y k reached (across_at p d) → Moved p a l y k (with_one reached (face_at p d)) (face_at p d)
bend p a l y k reached d ends inside level from to m =
    let w = face_at p d in
    let new : ℕ → ℕ = put m.lefts d (m.lefts d + 1) in
    let here : new d ≡ m.lefts d + 1 = put-here m.lefts d (m.lefts d + 1) in
    let others : (e : ℕ) → e < darts p → e ≢ d → m.lefts e ≡ new e = λ e b ne. sym (put-other m.lefts d (m.lefts d + 1) e ne) in
    let below : w < p.faces = ends.face_named d inside in
    let below' : across_at p d < p.faces = ends.face_named (reverse_dart p d) (ends.reverse_dart_in_range d inside) in
    record {
      angles = m.angles;
      lefts = new;
      sizes = m.sizes;
      same_angle = λ e b. grown reached w (face_at p e) (corner_at p e) (m.same_angle e b);
      same_lefts = new_lefts p l m.lefts reached w d (m.lefts d + 1) (with-here reached w, with-kept reached w (across_at p d) from) m.same_lefts;
      kept = elim (cases_eq k d) [
        | inl e ↦ omega (arith, m.kept, here, ap new e, ap m.lefts e)
        | inr ne ↦ omega (arith, m.kept, put-other m.lefts d (m.lefts d + 1) k ne)
      ];
      around = λ v. omega (arith, m.around v, one_at-other w (p.faces + v) (λ e. omega arith), one_at-other (across_at p d) (p.faces + v) (λ e. omega arith));
      faces = λ f b. omega (arith, left_sum-lefts p m.lefts new d inside others here f, right_sum-lefts p m.angles m.lefts new d ends inside others here f, m.faces f b);
      total = omega (arith, total-lefts p m.lefts new d inside others here, m.total, level);
    }

-- from a dart's face to the one across, by a left turn less
pub straighten : (p : PlaneModel) (a l y : ℕ → ℕ) (k : ℕ) (reached : ℕ → Bool) (d : ℕ) → HasEnds p → d < darts p → d < k → 0 < l d → y (across_at p d) ≡ y (face_at p d) + 1
    → reached (face_at p d) ≡ true → reached (across_at p d) ≡ false → Moved p a l y k reached (face_at p d) → Moved p a l y k (with_one reached (across_at p d)) (across_at p d)
straighten p a l y k reached d ends inside before some level from to m =
    let w = across_at p d in
    let old : m.lefts d ≡ l d = as_before (reached (face_at p d)) (reached w) (inr to) (m.same_lefts d inside) in
    let new : ℕ → ℕ = put m.lefts d (m.lefts d - 1) in
    let here : m.lefts d ≡ new d + 1 = omega (arith, put-here m.lefts d (m.lefts d - 1)) in
    let others : (e : ℕ) → e < darts p → e ≢ d → new e ≡ m.lefts e = λ e b ne. put-other m.lefts d (m.lefts d - 1) e ne in
    let below : face_at p d < p.faces = ends.face_named d inside in
    let below' : w < p.faces = ends.face_named (reverse_dart p d) (ends.reverse_dart_in_range d inside) in
    record {
      angles = m.angles;
      lefts = new;
      sizes = m.sizes;
      same_angle = λ e b. grown reached w (face_at p e) (corner_at p e) (m.same_angle e b);
      same_lefts = new_lefts p l m.lefts reached w d (m.lefts d - 1) (with-kept reached w (face_at p d) from, with-here reached w) m.same_lefts;
      kept = omega (arith, m.kept, put-other m.lefts d (m.lefts d - 1) k (λ e. omega arith));
      around = λ v. omega (arith, m.around v, one_at-other (face_at p d) (p.faces + v) (λ e. omega arith), one_at-other w (p.faces + v) (λ e. omega arith));
      faces = λ f b. omega (arith, left_sum-lefts p new m.lefts d inside others here f, right_sum-lefts p m.angles new m.lefts d ends inside others here f, m.faces f b);
      total = omega (arith, total-lefts p new m.lefts d inside others here, m.total, level);
    }
