-- The points that are met on a part are those of one rectangle, each once.
use Rattle.std.proofs.Common.{◌≡◌, ℕ, ◌+◌, ◌-◌, ◌<◌, ◌≤◌, map, refl, sym, ap, ◌∙◌, subst, ⊎_elim, arith}
use Rattle.std.specs.List.{range_with_len}
use Rattle.std.proofs.lemmas.Bool.{cases_lt, lt-ltb, le-ltb}
use Rattle.std.proofs.lemmas.List.FromFn.{length-map-range_with_len, get_or-map-range_with_len}
use Rattle.geometry.specs.declared.plane_sweep.Rectangle.{Rectangle}
use Rattle.geometry.specs.Rectangles.{Covers}
use Rattle.ortho_rep.specs.declared.grid_points.Point.{Point}
use Rattle.drawing_check.specs.Walks.{toward, step_from, distance, walk}
use Rattle.drawing_check.specs.Draws.{IsAxis}
use Rattle.drawing_check.specs.Shown.{rectangle_between, Enumerates}
use Rattle.drawing_check.proofs.Coverings.{point_is}

pub toward_up : (a b k : ℕ) → a < b → toward a b k ≡ a + k
toward_up a b k lt = rw (lt-ltb a b lt) refl

pub toward_down : (a b k : ℕ) → b < a → toward a b k ≡ a - k
toward_down a b k lt = rw (le-ltb a b (omega arith), lt-ltb b a lt) refl

pub toward_same : (a b k : ℕ) → a ≡ b → toward a b k ≡ a
toward_same a b k same = rw (le-ltb a b (omega arith), le-ltb b a (omega arith)) refl

-- n points that a function gives list a rectangle, if they are in it, are all of it, and differ
line_lists : (r : Rectangle) (f : ℕ → Point) (n : ℕ) → ((k : ℕ) → 1 ≤ k → k ≤ n → Covers r (f k).x (f k).y) → ((p : Point) → Covers r p.x p.y → (k : ℕ) × (1 ≤ k) × (k ≤ n) × (f k ≡ p)) → ((i j : ℕ) → 1 ≤ i → i < j → j ≤ n → f i ≡ f j → ⊥) → Enumerates r (map f (range_with_len 1 n))
line_lists r f n inside covered one =
    let size = length-map-range_with_len f 1 n in
    record {
      once = λ i j d lt within same.
          one (1 + i) (1 + j) (omega arith) (omega arith) (omega arith)
          (sym (get_or-map-range_with_len f 1 n i (1 + i) d (omega arith) refl) ∙ same ∙ get_or-map-range_with_len f 1 n j (1 + j) d (omega arith) refl);
      covered = λ p. (
        λ h.
            let short : h.0 < n = omega (arith, h.1) in
            subst (λ (q : Point). Covers r q.x q.y) (sym (get_or-map-range_with_len f 1 n h.0 (1 + h.0) p short refl) ∙ h.2) (inside (1 + h.0) (omega arith) (omega arith)),
        λ c.
            let k = covered p c in
            (k.0 - 1, omega (arith, k.1, k.2), get_or-map-range_with_len f 1 n (k.0 - 1) k.0 p (omega (arith, k.1, k.2)) (omega (arith, k.1)) ∙ k.3),
      );
    }

abbrev at : (ℕ → ℕ) → (ℕ → ℕ) → ℕ → Point
at x y k = record { x = x k; y = y k }

-- the four ways that a line may go
line_east : (x y : ℕ → ℕ) (a c n : ℕ) → 1 ≤ n → ((k : ℕ) → x k ≡ a + k) → ((k : ℕ) → y k ≡ c) → Enumerates (rectangle_between (at x y 1) (at x y n)) (map (at x y) (range_with_len 1 n))
line_east x y a c n some is_x is_y =
    let x1 = is_x 1 in let xn = is_x n in let y1 = is_y 1 in let yn = is_y n in
    line_lists (rectangle_between (at x y 1) (at x y n)) (at x y) n
    (λ k low high. let xk = is_x k in let yk = is_y k in (omega arith, omega arith, omega arith, omega arith))
    (λ p in_r. (p.x - a, omega arith, omega arith, point_is (at x y (p.x - a)) p (omega (arith, is_x (p.x - a))) (omega (arith, is_y (p.x - a)))))
    (λ i j low lt high same. omega (arith, is_x i, is_x j, ap (λ (p : Point). p.x) same))

line_west : (x y : ℕ → ℕ) (a c n : ℕ) → 1 ≤ n → n ≤ a → ((k : ℕ) → x k ≡ a - k) → ((k : ℕ) → y k ≡ c) → Enumerates (rectangle_between (at x y 1) (at x y n)) (map (at x y) (range_with_len 1 n))
line_west x y a c n some room is_x is_y =
    let x1 = is_x 1 in let xn = is_x n in let y1 = is_y 1 in let yn = is_y n in
    line_lists (rectangle_between (at x y 1) (at x y n)) (at x y) n
    (λ k low high. let xk = is_x k in let yk = is_y k in (omega arith, omega arith, omega arith, omega arith))
    (λ p in_r. (a - p.x, omega arith, omega arith, point_is (at x y (a - p.x)) p (omega (arith, is_x (a - p.x))) (omega (arith, is_y (a - p.x)))))
    (λ i j low lt high same. omega (arith, is_x i, is_x j, ap (λ (p : Point). p.x) same))

line_north : (x y : ℕ → ℕ) (a c n : ℕ) → 1 ≤ n → ((k : ℕ) → x k ≡ c) → ((k : ℕ) → y k ≡ a + k) → Enumerates (rectangle_between (at x y 1) (at x y n)) (map (at x y) (range_with_len 1 n))
line_north x y a c n some is_x is_y =
    let x1 = is_x 1 in let xn = is_x n in let y1 = is_y 1 in let yn = is_y n in
    line_lists (rectangle_between (at x y 1) (at x y n)) (at x y) n
    (λ k low high. let xk = is_x k in let yk = is_y k in (omega arith, omega arith, omega arith, omega arith))
    (λ p in_r. (p.y - a, omega arith, omega arith, point_is (at x y (p.y - a)) p (omega (arith, is_x (p.y - a))) (omega (arith, is_y (p.y - a)))))
    (λ i j low lt high same. omega (arith, is_y i, is_y j, ap (λ (p : Point). p.y) same))

line_south : (x y : ℕ → ℕ) (a c n : ℕ) → 1 ≤ n → n ≤ a → ((k : ℕ) → x k ≡ c) → ((k : ℕ) → y k ≡ a - k) → Enumerates (rectangle_between (at x y 1) (at x y n)) (map (at x y) (range_with_len 1 n))
line_south x y a c n some room is_x is_y =
    let x1 = is_x 1 in let xn = is_x n in let y1 = is_y 1 in let yn = is_y n in
    line_lists (rectangle_between (at x y 1) (at x y n)) (at x y) n
    (λ k low high. let xk = is_x k in let yk = is_y k in (omega arith, omega arith, omega arith, omega arith))
    (λ p in_r. (a - p.y, omega arith, omega arith, point_is (at x y (a - p.y)) p (omega (arith, is_x (a - p.y))) (omega (arith, is_y (a - p.y)))))
    (λ i j low lt high same. omega (arith, is_y i, is_y j, ap (λ (p : Point). p.y) same))

-- the first n points after a on the way to b list a rectangle
pub segment_lists : (a b : Point) (n : ℕ) → IsAxis a b → 1 ≤ n → n ≤ distance a b → Enumerates (rectangle_between (step_from a b 1) (step_from a b n)) (walk a b n)
segment_lists a b n axis some within =
    ⊎_elim
    (λ vertical.
    let same_x = λ (k : ℕ). toward_same a.x b.x k vertical.0 in
    ⊎_elim
    (λ up. line_north (toward a.x b.x) (toward a.y b.y) a.y a.x n some same_x (λ k. toward_up a.y b.y k up))
    (λ ge. let down : b.y < a.y = omega (arith, vertical.1) in line_south (toward a.x b.x) (toward a.y b.y) a.y a.x n some (omega (arith, vertical.0)) same_x (λ k. toward_down a.y b.y k down))
    (cases_lt a.y b.y))
    (λ level.
    let same_y = λ (k : ℕ). toward_same a.y b.y k level.1 in
    ⊎_elim
    (λ up. line_east (toward a.x b.x) (toward a.y b.y) a.x a.y n some (λ k. toward_up a.x b.x k up) same_y)
    (λ ge. let down : b.x < a.x = omega (arith, level.0) in line_west (toward a.x b.x) (toward a.y b.y) a.x a.y n some (omega (arith, level.1)) (λ k. toward_down a.x b.x k down) same_y)
    (cases_lt a.x b.x))
    axis
