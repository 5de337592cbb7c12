-- The parts of a path are what goes along its sides.
use Rattle.std.proofs.Common.{◌≡◌, ℕ, ◌+◌, ◌-◌, ◌<◌, ◌≤◌, ◌⊎◌, true, false, zero, suc, List, [], ◌∷◌, ◌++◌, length, get_or, reverse, refl, sym, ap, ◌∙◌, subst, ⊎_elim, inl, inr, arith, eqb, ltb}
use Rattle.std.specs.List.{Contains}
use Rattle.std.proofs.lemmas.Bool.{cases_Bool, eqb-true, eq-eqb, cond-true, cond-false, lt-ltb, le-ltb, cases_lt}
use Rattle.std.proofs.lemmas.List.{get_or-reverse, length-reverse}
use Rattle.std.proofs.lemmas.List.Elements.{Contains-append_left, Contains-append_right, Contains-append_cases}
use Rattle.ortho_rep.specs.declared.grid_points.Point.{Point}
use Rattle.ortho_rep.specs.Points.{origin}
use Rattle.drawing_check.specs.Paths.{point_of}
use Rattle.drawing_check.specs.Parts.{Part, passes, turned_round, upward, on_line, pieces}
use Rattle.drawing_check.proofs.PassingParts.{passing_told, passing_from, contains_head, contains_cases, contains_none}

-- from a to b along place c of line l
pub record Goes (line across : Point → ℕ) (a b : Point) (l c : ℕ) : Type 0 where
  pub start : line a ≡ l
  pub end : line b ≡ l
  pub from : across a < c
  pub to : c ≤ across b

-- the part between two points, by what tells the line and what tells the other coordinate
abbrev pub between : (Point → ℕ) → (Point → ℕ) → ℕ → ℕ → Point → Point → List Part
between line across before behind a b =
    on_line (record { line = line a; from = across a; to = across b; before = before; behind = behind }) (line b)

-- a part that passes there, with these faces
pub record Found (parts : List Part) (l c before behind : ℕ) : Type 0 where
  pub part : Part
  pub among : Contains parts part
  pub here : passes part l c ≡ true
  pub is_before : part.before ≡ before
  pub is_behind : part.behind ≡ behind

-- ---- one part

upward_up : (s : Part) → s.from < s.to → upward s ≡ s
upward_up s lt = cond-true (ltb s.from s.to) s (turned_round s) (lt-ltb s.from s.to lt)

upward_down : (s : Part) → s.to ≤ s.from → upward s ≡ turned_round s
upward_down s le = cond-false (ltb s.from s.to) s (turned_round s) (le-ltb s.from s.to le)

on_line_same : (s : Part) (end : ℕ) → s.line ≡ end → on_line s end ≡ upward s ∷ []
on_line_same s end e = cond-true (eqb s.line end) (upward s ∷ []) [] (eq-eqb s.line end e)

between_found : (line across : Point → ℕ) (before behind : ℕ) (a b : Point) (l c : ℕ) → Goes line across a b l c → Found (between line across before behind a b) l c before behind
between_found line across before behind a b l c goes =
    let s : Part = record { line = line a; from = across a; to = across b; before = before; behind = behind } in
    let is : on_line s (line b) ≡ s ∷ [] =
    on_line_same s (line b) (goes.start ∙ sym goes.end) ∙ ap (λ (t : Part). t ∷ []) (upward_up s (let p = goes.from in let q = goes.to in omega arith)) in
    record {
      part = s;
      among = subst (λ (ts : List Part). Contains ts s) (sym is) (contains_head s []);
      here = passing_from s l c goes.start goes.from goes.to;
      is_before = refl;
      is_behind = refl;
    }

between_found_back : (line across : Point → ℕ) (before behind : ℕ) (a b : Point) (l c : ℕ) → Goes line across b a l c → Found (between line across before behind a b) l c behind before
between_found_back line across before behind a b l c goes =
    let s : Part = record { line = line a; from = across a; to = across b; before = before; behind = behind } in
    let is : on_line s (line b) ≡ turned_round s ∷ [] =
    on_line_same s (line b) (goes.end ∙ sym goes.start) ∙ ap (λ (t : Part). t ∷ []) (upward_down s (let p = goes.from in let q = goes.to in omega arith)) in
    record {
      part = turned_round s;
      among = subst (λ (ts : List Part). Contains ts (turned_round s)) (sym is) (contains_head (turned_round s) []);
      here = passing_from (turned_round s) l c goes.end goes.from goes.to;
      is_before = refl;
      is_behind = refl;
    }

-- what is told of a part that passes
pub record Up (line across : Point → ℕ) (before behind : ℕ) (a b : Point) (l c : ℕ) (t : Part) : Type 0 where
  pub goes : Goes line across a b l c
  pub is_before : t.before ≡ before
  pub is_behind : t.behind ≡ behind

between_told : (line across : Point → ℕ) (before behind : ℕ) (a b : Point) (l c : ℕ) (t : Part) → Contains (between line across before behind a b) t → passes t l c ≡ true
    → Up line across before behind a b l c t ⊎ Up line across behind before b a l c t
between_told line across before behind a b l c t among here = by_line (cases_Bool (eqb (line a) (line b)))
  where
    s : Part
    s = record { line = line a; from = across a; to = across b; before = before; behind = behind }

    by_line : (eqb (line a) (line b) ≡ true) ⊎ (eqb (line a) (line b) ≡ false) → Up line across before behind a b l c t ⊎ Up line across behind before b a l c t
    by_line (inr other) =
        contains_none t (subst (λ (ts : List Part). Contains ts t) (cond-false (eqb (line a) (line b)) (upward (record { line = line a; from = across a; to = across b; before = before; behind = behind }) ∷ []) [] other) among)
    by_line (inl same) =
        let one : Part = record { line = line a; from = across a; to = across b; before = before; behind = behind } in
        let same_line : line a ≡ line b = eqb-true (line a) (line b) same in
        let only : Contains (upward one ∷ []) t = subst (λ (ts : List Part). Contains ts t) (on_line_same one (line b) same_line) among in
        let is_t : upward one ≡ t = ⊎_elim (λ e. e) (λ none. contains_none t none) (contains_cases (upward one) t [] only) in
        ⊎_elim
        (λ lt.
        let e : one ≡ t = sym (upward_up one lt) ∙ is_t in
        let at = passing_told one l c (subst (λ (u : Part). passes u l c ≡ true) (sym e) here) in
        inl (record {
          goes = record { start = at.line; end = sym same_line ∙ at.line; from = at.from; to = at.to };
          is_before = sym (ap (λ (u : Part). u.before) e);
          is_behind = sym (ap (λ (u : Part). u.behind) e);
        }))
        (λ ge.
        let e : turned_round one ≡ t = sym (upward_down one ge) ∙ is_t in
        let at = passing_told (turned_round one) l c (subst (λ (u : Part). passes u l c ≡ true) (sym e) here) in
        inr (record {
          goes = record { start = sym same_line ∙ at.line; end = at.line; from = at.from; to = at.to };
          is_before = sym (ap (λ (u : Part). u.before) e);
          is_behind = sym (ap (λ (u : Part). u.behind) e);
        }))
        (cases_lt (across a) (across b))

-- ---- a path

-- part k of a path goes there
pub record GoesAt (line across : Point → ℕ) (path : List Point) (k l c : ℕ) : Type 0 where
  pub inside : k + 1 < length path
  pub goes : Goes line across (point_of path k) (point_of path (k + 1)) l c

pub record BackAt (line across : Point → ℕ) (path : List Point) (k l c : ℕ) : Type 0 where
  pub inside : k + 1 < length path
  pub goes : Goes line across (point_of path (k + 1)) (point_of path k) l c

found_left : (ss ts : List Part) (l c before behind : ℕ) → Found ss l c before behind → Found (ss ++ ts) l c before behind
found_left ss ts l c before behind f = record {
  part = f.part;
  among = Contains-append_left ss ts f.part f.among;
  here = f.here;
  is_before = f.is_before;
  is_behind = f.is_behind;
}

found_right : (ss ts : List Part) (l c before behind : ℕ) → Found ts l c before behind → Found (ss ++ ts) l c before behind
found_right ss ts l c before behind f = record {
  part = f.part;
  among = Contains-append_right ss ts f.part f.among;
  here = f.here;
  is_before = f.is_before;
  is_behind = f.is_behind;
}

pub path_found : (line across : Point → ℕ) (before behind : ℕ) (path : List Point) (k l c : ℕ) → GoesAt line across path k l c → Found (pieces (between line across before behind) path) l c before behind
path_found line across before behind [] k l c goes = let lt = goes.inside in absurd (omega arith)
path_found line across before behind (a ∷ []) k l c goes = let lt = goes.inside in absurd (omega arith)
path_found line across before behind (a ∷ b ∷ rest) zero l c goes =
    found_left (between line across before behind a b) (pieces (between line across before behind) (b ∷ rest)) l c before behind
    (between_found line across before behind a b l c goes.goes)
path_found line across before behind (a ∷ b ∷ rest) (suc k) l c goes =
    let e : suc k + 1 ≡ suc (k + 1) = omega arith in
    let lt = goes.inside in
    found_right (between line across before behind a b) (pieces (between line across before behind) (b ∷ rest)) l c before behind
    (path_found line across before behind (b ∷ rest) k l c (record {
      inside = omega arith;
      goes = subst (λ (n : ℕ). Goes line across (point_of (b ∷ rest) k) (point_of (a ∷ b ∷ rest) n) l c) e goes.goes;
    }))

pub path_found_back : (line across : Point → ℕ) (before behind : ℕ) (path : List Point) (k l c : ℕ) → BackAt line across path k l c → Found (pieces (between line across before behind) path) l c behind before
path_found_back line across before behind [] k l c goes = let lt = goes.inside in absurd (omega arith)
path_found_back line across before behind (a ∷ []) k l c goes = let lt = goes.inside in absurd (omega arith)
path_found_back line across before behind (a ∷ b ∷ rest) zero l c goes =
    found_left (between line across before behind a b) (pieces (between line across before behind) (b ∷ rest)) l c behind before
    (between_found_back line across before behind a b l c goes.goes)
path_found_back line across before behind (a ∷ b ∷ rest) (suc k) l c goes =
    let e : suc k + 1 ≡ suc (k + 1) = omega arith in
    let lt = goes.inside in
    found_right (between line across before behind a b) (pieces (between line across before behind) (b ∷ rest)) l c behind before
    (path_found_back line across before behind (b ∷ rest) k l c (record {
      inside = omega arith;
      goes = subst (λ (n : ℕ). Goes line across (point_of (a ∷ b ∷ rest) n) (point_of (b ∷ rest) k) l c) e goes.goes;
    }))

-- what a part of a path tells: where it goes, or goes back
pub record Told (line across : Point → ℕ) (before behind : ℕ) (path : List Point) (l c : ℕ) (t : Part) : Type 0 where
  pub k : ℕ
  pub goes : GoesAt line across path k l c
  pub is_before : t.before ≡ before
  pub is_behind : t.behind ≡ behind

pub record ToldBack (line across : Point → ℕ) (before behind : ℕ) (path : List Point) (l c : ℕ) (t : Part) : Type 0 where
  pub k : ℕ
  pub goes : BackAt line across path k l c
  pub is_before : t.before ≡ behind
  pub is_behind : t.behind ≡ before

pub path_told : (line across : Point → ℕ) (before behind : ℕ) (path : List Point) (l c : ℕ) (t : Part) → Contains (pieces (between line across before behind) path) t → passes t l c ≡ true
    → Told line across before behind path l c t ⊎ ToldBack line across before behind path l c t
path_told line across before behind [] l c t among here = contains_none t among
path_told line across before behind (a ∷ []) l c t among here = contains_none t among
path_told line across before behind (a ∷ b ∷ rest) l c t among here =
    ⊎_elim
    (λ first. ⊎_elim
    (λ up. inl (record { k = 0; goes = record { inside = omega arith; goes = up.goes }; is_before = up.is_before; is_behind = up.is_behind }))
    (λ down. inr (record { k = 0; goes = record { inside = omega arith; goes = down.goes }; is_before = down.is_before; is_behind = down.is_behind }))
    (between_told line across before behind a b l c t first here))
    (λ later. ⊎_elim
    (λ up. let lt = up.goes.inside in
    inl (record {
      k = suc up.k;
      goes = record {
        inside = omega arith;
        goes = subst (λ (n : ℕ). Goes line across (point_of (b ∷ rest) up.k) (point_of (a ∷ b ∷ rest) n) l c) (e up.k) up.goes.goes;
      };
      is_before = up.is_before;
      is_behind = up.is_behind;
    }))
    (λ down. let lt = down.goes.inside in
    inr (record {
      k = suc down.k;
      goes = record {
        inside = omega arith;
        goes = subst (λ (n : ℕ). Goes line across (point_of (a ∷ b ∷ rest) n) (point_of (b ∷ rest) down.k) l c) (e down.k) down.goes.goes;
      };
      is_before = down.is_before;
      is_behind = down.is_behind;
    }))
    (path_told line across before behind (b ∷ rest) l c t later here))
    (Contains-append_cases (between line across before behind a b) (pieces (between line across before behind) (b ∷ rest)) t among)
  where
    e : (k : ℕ) → suc (k + 1) ≡ suc k + 1
    e k = omega arith

-- ---- the path met the other way

reversed_point : (path : List Point) (k j : ℕ) → k < length path → j + suc k ≡ length path → point_of (reverse path) k ≡ point_of path j
reversed_point path k j lt e =
    let at : length path - 1 - k ≡ j = omega arith in
    get_or-reverse path k origin lt ∙ ap (λ (n : ℕ). get_or path n origin) at

pub back_in_reverse : (line across : Point → ℕ) (path : List Point) (k l c : ℕ) → GoesAt line across (reverse path) k l c → (j : ℕ) × BackAt line across path j l c
back_in_reverse line across path k l c goes =
    let size = length-reverse path in
    let lt = goes.inside in
    let j : ℕ = length path - 2 - k in
    let first = reversed_point path k (j + 1) (omega arith) (omega arith) in
    let second = reversed_point path (k + 1) j (omega arith) (omega arith) in (
      j,
      record {
        inside = omega arith;
        goes = subst (λ (q : Point). Goes line across (point_of path (j + 1)) q l c) second (subst (λ (q : Point). Goes line across q (point_of (reverse path) (k + 1)) l c) first goes.goes);
      },
    )

pub goes_in_reverse : (line across : Point → ℕ) (path : List Point) (k l c : ℕ) → BackAt line across path k l c → (j : ℕ) × GoesAt line across (reverse path) j l c
goes_in_reverse line across path k l c goes =
    let size = length-reverse path in
    let lt = goes.inside in
    let j : ℕ = length path - 2 - k in
    let first = reversed_point path j (k + 1) (omega arith) (omega arith) in
    let second = reversed_point path (j + 1) k (omega arith) (omega arith) in (
      j,
      record {
        inside = omega arith;
        goes = subst (λ (q : Point). Goes line across (point_of (reverse path) j) q l c) (sym second) (subst (λ (q : Point). Goes line across q (point_of path k) l c) (sym first) goes.goes);
      },
    )
