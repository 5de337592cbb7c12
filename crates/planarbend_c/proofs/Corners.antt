-- The corners of edges in a row.
use Rattle.std.proofs.Common.{◌≡◌, ◌∙◌, ◌+◌, ◌<◌, ◌≤◌, ◌++◌, ℕ, List, [], Result, Ok, Err, IfSome, ap, arith, get_or, length, map, sym, take}
use Rattle.std.specs.Result.{OkIff, result_ok}
use Rattle.std.proofs.lemmas.List.{flat_map_more, length-append, length-map, take_all, take_more}
use Rattle.std.proofs.lemmas.List.Folds.{length-flat_map-take}
use Rattle.ortho_rep.specs.declared.grid_points.Point.{Point}
use Rattle.planarbend_c.specs.Found.{all_corners, corners_before, grid_point}

-- the corners of one edge more
pub corners_more : (corners : List (List Point)) (e : ℕ) → e < length corners
    → all_corners (take (e + 1) corners) ≡ all_corners (take e corners) ++ map grid_point (get_or corners e [])
corners_more corners e inside =
    ap all_corners (take_more corners e [] inside)
    ∙ sym (flat_map_more (map grid_point) [] (take e corners) (get_or corners e []))

-- how many they are
pub count_more : (corners : List (List Point)) (e : ℕ) → e < length corners
    → corners_before corners (e + 1) ≡ corners_before corners e + length (get_or corners e [])
count_more corners e inside =
    ap length (corners_more corners e inside)
    ∙ length-append (all_corners (take e corners)) (map grid_point (get_or corners e []))
    ∙ ap (λ n. corners_before corners e + n) (length-map (get_or corners e []) grid_point)

-- they are no more than all
pub count_below : (corners : List (List Point)) (e : ℕ) → e < length corners
    → corners_before corners e + length (get_or corners e []) ≤ length (all_corners corners)
count_below corners e inside =
    let few = length-flat_map-take (map grid_point) corners e [] inside in
    let same = length-map (get_or corners e []) grid_point in
    omega (arith, few, same)

-- the corners before the end are all
pub count_all : (corners : List (List Point)) (e : ℕ) → length corners ≤ e → corners_before corners e ≡ length (all_corners corners)
count_all corners e end = ap (λ (c : List (List Point)). length (all_corners c)) (take_all e corners end)

-- the value of a conversion that succeeded
pub converted : {E : Type 0} (r : Result ℕ E) (P : Type 0) (n : ℕ) → OkIff r P n → IfSome (result_ok r) (λ found. found ≡ n)
converted (Ok x) P n is = is.1
converted (Err e) P n is = tt
