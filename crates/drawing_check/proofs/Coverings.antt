-- Lists of points against the rectangles that cover them: no point repeats exactly where the rectangles are apart.
use Rattle.std.proofs.Common.{◌≡◌, ℕ, ◌+◌, ◌-◌, ◌<◌, List, [], ◌∷◌, ◌++◌, length, length-append, get_or, sym, ap, ◌∙◌, subst, ⊎_elim, arith, AllPairs, Contains, append_assoc, zero, suc}
use Rattle.std.proofs.lemmas.List.{get_or_append_left}
use Rattle.std.proofs.Math.Seq.{get_or-append_right}
use Rattle.std.proofs.lemmas.List.Elements.{Contains-append_cases, Contains-append_left, Contains-append_right, Contains-get_or}
use Rattle.std.proofs.lemmas.List.Kept.{AllPairs-cons}
use Rattle.std.proofs.lemmas.Bool.{cases_lt}
use Rattle.geometry.specs.declared.plane_sweep.Rectangle.{Rectangle}
use Rattle.geometry.specs.Rectangles.{Covers, AreApart}
use Rattle.ortho_rep.specs.declared.grid_points.Point.{Point}
use Rattle.drawing_check.specs.Walks.{AreDistinct}
use Rattle.drawing_check.specs.Shown.{Shows}

-- points with the same coordinates are the same
pub point_is : (p q : Point) → p.x ≡ q.x → p.y ≡ q.y → p ≡ q
point_is p q ex ey =
    ap (λ (u : ℕ). let point : Point = record { x = u; y = p.y } in point) ex ∙ ap (λ (v : ℕ). let point : Point = record { x = q.x; y = v } in point) ey

-- ---- no repeat in two lists, one after the other

-- the element at i after l
behind : (l m : List Point) (i : ℕ) (d : Point) → get_or (l ++ m) (length l + i) d ≡ get_or m i d
behind l m i d = get_or-append_right l m (length l + i) d (omega arith) ∙ ap (λ (k : ℕ). get_or m k d) (omega arith)

pub no_repeat_append : (l m : List Point) → AreDistinct l → AreDistinct m → ((p : Point) → Contains l p → Contains m p → ⊥) → AreDistinct (l ++ m)
no_repeat_append l m in_l in_m apart = λ i j d lt within same.
    let size = length-append l m in
    ⊎_elim
    (λ j_l. in_l i j d lt j_l (sym (get_or_append_left l m d i (omega arith)) ∙ same ∙ get_or_append_left l m d j j_l))
    (λ j_m. ⊎_elim
    (λ i_l.
    let left = get_or_append_left l m d i i_l in
    let right = get_or-append_right l m j d j_m in
    let one : get_or l i d ≡ get_or m (j - length l) d = sym left ∙ same ∙ right in
    apart (get_or l i d) (Contains-get_or l i d i_l) (subst (Contains m) (sym one) (Contains-get_or m (j - length l) d (omega arith))))
    (λ i_m. in_m (i - length l) (j - length l) d (omega arith) (omega arith) (sym (get_or-append_right l m i d i_m) ∙ same ∙ get_or-append_right l m j d j_m))
    (cases_lt i (length l)))
    (cases_lt j (length l))

pub no_repeat_left : (l m : List Point) → AreDistinct (l ++ m) → AreDistinct l
no_repeat_left l m h = λ i j d lt within same.
    h i j d lt (omega (arith, length-append l m)) (get_or_append_left l m d i (omega arith) ∙ same ∙ sym (get_or_append_left l m d j within))

pub no_repeat_right : (l m : List Point) → AreDistinct (l ++ m) → AreDistinct m
no_repeat_right l m h = λ i j d lt within same.
    let size = length-append l m in
    h (length l + i) (length l + j) d (omega arith) (omega arith) (behind l m i d ∙ same ∙ sym (behind l m j d))

pub no_repeat_apart : (l m : List Point) → AreDistinct (l ++ m) → (p : Point) → Contains l p → Contains m p → ⊥
no_repeat_apart l m h p a b =
    let size = length-append l m in
    h a.0 (length l + b.0) p (omega (arith, a.1)) (omega (arith, b.1))
    (get_or_append_left l m p a.0 a.1 ∙ a.2 ∙ sym b.2 ∙ sym (behind l m b.0 p))

-- ---- rectangles and the lists that they cover

-- a point of the list is in some rectangle
pub shown_in : (rs : List Rectangle) (ps : List Point) → Shows rs ps → (p : Point) → Contains ps p → (k : ℕ) × (k < length rs) × ((d : Rectangle) → Covers (get_or rs k d) p.x p.y)
shown_in [] ps s p h = absurd (let none : length ps ≡ 0 = ap length s in omega (arith, h.1))
shown_in (r ∷ rs) ps s p h =
    ⊎_elim
    (λ front. (0, omega arith, λ d. (s.3.covered p).0 front))
    (λ back. let k = shown_in rs s.1 s.4 p back in (suc k.0, omega (arith, k.1), λ d. k.2 d))
    (Contains-append_cases s.0 s.1 p (subst (λ (l : List Point). Contains l p) s.2 h))

-- a point of some rectangle is in the list
pub shown_from : (rs : List Rectangle) (ps : List Point) → Shows rs ps → (k : ℕ) (d : Rectangle) → k < length rs → (p : Point) → Covers (get_or rs k d) p.x p.y → Contains ps p
shown_from [] ps s k d lt p h = absurd (omega arith)
shown_from (r ∷ rs) ps s zero d lt p h = subst (λ (l : List Point). Contains l p) (sym s.2) (Contains-append_left s.0 s.1 p ((s.3.covered p).1 h))
shown_from (r ∷ rs) ps s (suc k) d lt p h = subst (λ (l : List Point). Contains l p) (sym s.2) (Contains-append_right s.0 s.1 p (shown_from rs s.1 s.4 k d (omega arith) p h))

pub apart_from_no_repeat : (rs : List Rectangle) (ps : List Point) → Shows rs ps → AreDistinct ps → AllPairs AreApart rs
apart_from_no_repeat [] ps s h = λ i j d lt within. absurd (omega arith)
apart_from_no_repeat (r ∷ rs) ps s h =
    let split : AreDistinct (s.0 ++ s.1) = subst (λ (l : List Point). AreDistinct l) s.2 h in
    AllPairs-cons AreApart r rs
    (λ k d lt x y in_r in_k.
    let p : Point = record { x = x; y = y } in
    no_repeat_apart s.0 s.1 split p ((s.3.covered p).1 in_r) (shown_from rs s.1 s.4 k d lt p in_k))
    (apart_from_no_repeat rs s.1 s.4 (no_repeat_right s.0 s.1 split))

pub no_repeat_from_apart : (rs : List Rectangle) (ps : List Point) → Shows rs ps → AllPairs AreApart rs → AreDistinct ps
no_repeat_from_apart [] ps s h = λ i j d lt within same. let none : length ps ≡ 0 = ap length s in omega arith
no_repeat_from_apart (r ∷ rs) ps s h =
    subst (λ (l : List Point). AreDistinct l) (sym s.2)
    (no_repeat_append s.0 s.1 s.3.once
    (no_repeat_from_apart rs s.1 s.4 (λ i j d lt within. h (suc i) (suc j) d (omega arith) (omega arith)))
    (λ p front back. let k = shown_in rs s.1 s.4 p back in h 0 (suc k.0) r (omega arith) (omega (arith, k.1)) p.x p.y ((s.3.covered p).0 front) (k.2 r)))

pub shows_append : (rs ts : List Rectangle) (ps qs : List Point) → Shows rs ps → Shows ts qs → Shows (rs ++ ts) (ps ++ qs)
shows_append [] ts ps qs s t = subst (λ (l : List Point). Shows ts (l ++ qs)) (sym s) t
shows_append (r ∷ rs) ts ps qs s t =
    (s.0, s.1 ++ qs, ap (λ (l : List Point). l ++ qs) s.2 ∙ append_assoc s.0 s.1 qs, s.3, shows_append rs ts s.1 qs s.4 t)
