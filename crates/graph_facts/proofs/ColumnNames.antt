-- A text lists the names of columns, each once, exactly if the columns are found in it.
use Rattle.std.proofs.Common.{◌≡◌, ◌+◌, ◌≤◌, ◌⊎◌, ◌↔◌, ℕ, zero, suc, Bool, true, false, cond, List, [], ◌∷◌, All, Option, None, Some, codes, inl, inr, refl, sym, ap, subst, ◌∙◌, arith, true≢false}
use Rattle.std.specs.Prelude.{fold, bytes_eq}
use Rattle.std.proofs.lemmas.List.Elements.{All-nil, All-cons, All-head, All-tail}
use Rattle.std.proofs.lemmas.List.Sums.{sum_by-cons}
use Rattle.std.proofs.lemmas.Slice.Eq.{bytes_eq-Decides}
use Rattle.graph_facts.specs.declared.table.Columns.{Columns}
use Rattle.graph_facts.specs.Words.{AreNamesOf, IsColumnName, columns_in, listed, no_columns, times_listed, with_column, with_name}

-- the columns with those of some names, which are not yet among them
record Adds (c : Columns) (names : List (List ℕ)) (d : Columns) : Type 0 where
  each : All IsColumnName names
  vertices : cond c.vertices 1 0 + times_listed (codes "n") names ≡ cond d.vertices 1 0
  edges : cond c.edges 1 0 + times_listed (codes "m") names ≡ cond d.edges 1 0
  faces : cond c.faces 1 0 + times_listed (codes "f") names ≡ cond d.faces 1 0
  bends : cond c.bends 1 0 + times_listed (codes "bends") names ≡ cond d.bends 1 0
  rule : cond c.rule 1 0 + times_listed (codes "rule") names ≡ cond d.rule 1 0

times_cons : (name each : List ℕ) (names : List (List ℕ)) → times_listed name (each ∷ names) ≡ cond (bytes_eq each name) 1 0 + times_listed name names
times_cons name each names = sum_by-cons (λ (x : List ℕ). cond (bytes_eq x name) 1 0) each names

fold_none : (names : List (List ℕ)) → fold with_column None names ≡ None
fold_none [] = refl
fold_none (name ∷ names) = fold_none names

-- 1 for a column that is asked for
abbrev one_if : Bool → ℕ
one_if asked = cond asked 1 0

-- one name more: that of the column itself, or of another one
own : (asked : Bool) (t more b : ℕ) → asked ≡ false → more ≡ 1 + t → 1 + t ≡ b → cond asked 1 0 + more ≡ b
own asked t more b e p q = let none : one_if asked ≡ 0 = ap one_if e in omega (arith, none, p, q)

own_back : (asked : Bool) (t more b : ℕ) → asked ≡ false → more ≡ 1 + t → cond asked 1 0 + more ≡ b → 1 + t ≡ b
own_back asked t more b e p q = let none : one_if asked ≡ 0 = ap one_if e in omega (arith, none, p, q)

other : (a t more b : ℕ) → more ≡ 0 + t → a + t ≡ b → a + more ≡ b
other a t more b p q = omega (arith, p, q)

other_back : (a t more b : ℕ) → more ≡ 0 + t → a + more ≡ b → a + t ≡ b
other_back a t more b p q = omega (arith, p, q)

at_most_one : (b : Bool) → cond b 1 0 ≤ 1
at_most_one true = omega arith
at_most_one false = omega arith

-- a column is not listed again
twice : (asked : Bool) (t more : ℕ) (b : Bool) → asked ≡ true → more ≡ 1 + t → cond asked 1 0 + more ≡ cond b 1 0 → ⊥
twice asked t more b e p q =
    let one : one_if asked ≡ 1 = ap one_if e in
    let few = at_most_one b in
    omega (arith, one, p, q, few)

same_bool : (a b : Bool) → cond a 1 0 + 0 ≡ cond b 1 0 → a ≡ b
same_bool true true e = refl
same_bool false false e = refl
same_bool true false e = absurd (omega (arith, e))
same_bool false true e = absurd (omega (arith, e))

pick_false : {A : Type 0} (b : Bool) (x y : A) → b ≡ false → cond b x y ≡ y
pick_false true x y e = absurd (true≢false e)
pick_false false x y e = refl

-- ---- n

abbrev set_vertices : Columns → Columns
set_vertices c = record { vertices = true; edges = c.edges; faces = c.faces; bends = c.bends; rule = c.rule }

add_vertices : (names : List (List ℕ)) (c d : Columns) → ((next : Columns) → fold with_column (Some next) names ≡ Some d → Adds next names d) → (asked : Bool) → c.vertices ≡ asked
    → fold with_column (cond asked None (Some (set_vertices c))) names ≡ Some d → Adds c (codes "n" ∷ names) d
add_vertices names c d later true e is = absurd (let none : ⊥ = cc (is, fold_none names) in none)
add_vertices names c d later false e is =
    let a = later (set_vertices c) is in
    record {
      each = All-cons IsColumnName (codes "n") names (inl refl) a.each;
      vertices = own c.vertices (times_listed (codes "n") names) (times_listed (codes "n") (codes "n" ∷ names)) (cond d.vertices 1 0) e (times_cons (codes "n") (codes "n") names) a.vertices;
      edges = other (cond c.edges 1 0) (times_listed (codes "m") names) (times_listed (codes "m") (codes "n" ∷ names)) (cond d.edges 1 0) (times_cons (codes "m") (codes "n") names) a.edges;
      faces = other (cond c.faces 1 0) (times_listed (codes "f") names) (times_listed (codes "f") (codes "n" ∷ names)) (cond d.faces 1 0) (times_cons (codes "f") (codes "n") names) a.faces;
      bends = other (cond c.bends 1 0) (times_listed (codes "bends") names) (times_listed (codes "bends") (codes "n" ∷ names)) (cond d.bends 1 0) (times_cons (codes "bends") (codes "n") names) a.bends;
      rule = other (cond c.rule 1 0) (times_listed (codes "rule") names) (times_listed (codes "rule") (codes "n" ∷ names)) (cond d.rule 1 0) (times_cons (codes "rule") (codes "n") names) a.rule;
    }

back_vertices : (names : List (List ℕ)) (c d : Columns) → ((next : Columns) → Adds next names d → fold with_column (Some next) names ≡ Some d) → (asked : Bool) → c.vertices ≡ asked
    → Adds c (codes "n" ∷ names) d → fold with_column (cond asked None (Some (set_vertices c))) names ≡ Some d
back_vertices names c d later true e a =
    absurd (twice c.vertices (times_listed (codes "n") names) (times_listed (codes "n") (codes "n" ∷ names)) d.vertices e (times_cons (codes "n") (codes "n") names) a.vertices)
back_vertices names c d later false e a = later (set_vertices c) (record {
  each = All-tail IsColumnName (codes "n") names a.each;
  vertices = own_back c.vertices (times_listed (codes "n") names) (times_listed (codes "n") (codes "n" ∷ names)) (cond d.vertices 1 0) e (times_cons (codes "n") (codes "n") names) a.vertices;
  edges = other_back (cond c.edges 1 0) (times_listed (codes "m") names) (times_listed (codes "m") (codes "n" ∷ names)) (cond d.edges 1 0) (times_cons (codes "m") (codes "n") names) a.edges;
  faces = other_back (cond c.faces 1 0) (times_listed (codes "f") names) (times_listed (codes "f") (codes "n" ∷ names)) (cond d.faces 1 0) (times_cons (codes "f") (codes "n") names) a.faces;
  bends = other_back (cond c.bends 1 0) (times_listed (codes "bends") names) (times_listed (codes "bends") (codes "n" ∷ names)) (cond d.bends 1 0) (times_cons (codes "bends") (codes "n") names) a.bends;
  rule = other_back (cond c.rule 1 0) (times_listed (codes "rule") names) (times_listed (codes "rule") (codes "n" ∷ names)) (cond d.rule 1 0) (times_cons (codes "rule") (codes "n") names) a.rule;
})

-- ---- m

abbrev set_edges : Columns → Columns
set_edges c = record { vertices = c.vertices; edges = true; faces = c.faces; bends = c.bends; rule = c.rule }

add_edges : (names : List (List ℕ)) (c d : Columns) → ((next : Columns) → fold with_column (Some next) names ≡ Some d → Adds next names d) → (asked : Bool) → c.edges ≡ asked
    → fold with_column (cond asked None (Some (set_edges c))) names ≡ Some d → Adds c (codes "m" ∷ names) d
add_edges names c d later true e is = absurd (let none : ⊥ = cc (is, fold_none names) in none)
add_edges names c d later false e is =
    let a = later (set_edges c) is in
    record {
      each = All-cons IsColumnName (codes "m") names (inr (inl refl)) a.each;
      vertices = other (cond c.vertices 1 0) (times_listed (codes "n") names) (times_listed (codes "n") (codes "m" ∷ names)) (cond d.vertices 1 0) (times_cons (codes "n") (codes "m") names) a.vertices;
      edges = own c.edges (times_listed (codes "m") names) (times_listed (codes "m") (codes "m" ∷ names)) (cond d.edges 1 0) e (times_cons (codes "m") (codes "m") names) a.edges;
      faces = other (cond c.faces 1 0) (times_listed (codes "f") names) (times_listed (codes "f") (codes "m" ∷ names)) (cond d.faces 1 0) (times_cons (codes "f") (codes "m") names) a.faces;
      bends = other (cond c.bends 1 0) (times_listed (codes "bends") names) (times_listed (codes "bends") (codes "m" ∷ names)) (cond d.bends 1 0) (times_cons (codes "bends") (codes "m") names) a.bends;
      rule = other (cond c.rule 1 0) (times_listed (codes "rule") names) (times_listed (codes "rule") (codes "m" ∷ names)) (cond d.rule 1 0) (times_cons (codes "rule") (codes "m") names) a.rule;
    }

back_edges : (names : List (List ℕ)) (c d : Columns) → ((next : Columns) → Adds next names d → fold with_column (Some next) names ≡ Some d) → (asked : Bool) → c.edges ≡ asked
    → Adds c (codes "m" ∷ names) d → fold with_column (cond asked None (Some (set_edges c))) names ≡ Some d
back_edges names c d later true e a =
    absurd (twice c.edges (times_listed (codes "m") names) (times_listed (codes "m") (codes "m" ∷ names)) d.edges e (times_cons (codes "m") (codes "m") names) a.edges)
back_edges names c d later false e a = later (set_edges c) (record {
  each = All-tail IsColumnName (codes "m") names a.each;
  vertices = other_back (cond c.vertices 1 0) (times_listed (codes "n") names) (times_listed (codes "n") (codes "m" ∷ names)) (cond d.vertices 1 0) (times_cons (codes "n") (codes "m") names) a.vertices;
  edges = own_back c.edges (times_listed (codes "m") names) (times_listed (codes "m") (codes "m" ∷ names)) (cond d.edges 1 0) e (times_cons (codes "m") (codes "m") names) a.edges;
  faces = other_back (cond c.faces 1 0) (times_listed (codes "f") names) (times_listed (codes "f") (codes "m" ∷ names)) (cond d.faces 1 0) (times_cons (codes "f") (codes "m") names) a.faces;
  bends = other_back (cond c.bends 1 0) (times_listed (codes "bends") names) (times_listed (codes "bends") (codes "m" ∷ names)) (cond d.bends 1 0) (times_cons (codes "bends") (codes "m") names) a.bends;
  rule = other_back (cond c.rule 1 0) (times_listed (codes "rule") names) (times_listed (codes "rule") (codes "m" ∷ names)) (cond d.rule 1 0) (times_cons (codes "rule") (codes "m") names) a.rule;
})

-- ---- f

abbrev set_faces : Columns → Columns
set_faces c = record { vertices = c.vertices; edges = c.edges; faces = true; bends = c.bends; rule = c.rule }

add_faces : (names : List (List ℕ)) (c d : Columns) → ((next : Columns) → fold with_column (Some next) names ≡ Some d → Adds next names d) → (asked : Bool) → c.faces ≡ asked
    → fold with_column (cond asked None (Some (set_faces c))) names ≡ Some d → Adds c (codes "f" ∷ names) d
add_faces names c d later true e is = absurd (let none : ⊥ = cc (is, fold_none names) in none)
add_faces names c d later false e is =
    let a = later (set_faces c) is in
    record {
      each = All-cons IsColumnName (codes "f") names (inr (inr (inl refl))) a.each;
      vertices = other (cond c.vertices 1 0) (times_listed (codes "n") names) (times_listed (codes "n") (codes "f" ∷ names)) (cond d.vertices 1 0) (times_cons (codes "n") (codes "f") names) a.vertices;
      edges = other (cond c.edges 1 0) (times_listed (codes "m") names) (times_listed (codes "m") (codes "f" ∷ names)) (cond d.edges 1 0) (times_cons (codes "m") (codes "f") names) a.edges;
      faces = own c.faces (times_listed (codes "f") names) (times_listed (codes "f") (codes "f" ∷ names)) (cond d.faces 1 0) e (times_cons (codes "f") (codes "f") names) a.faces;
      bends = other (cond c.bends 1 0) (times_listed (codes "bends") names) (times_listed (codes "bends") (codes "f" ∷ names)) (cond d.bends 1 0) (times_cons (codes "bends") (codes "f") names) a.bends;
      rule = other (cond c.rule 1 0) (times_listed (codes "rule") names) (times_listed (codes "rule") (codes "f" ∷ names)) (cond d.rule 1 0) (times_cons (codes "rule") (codes "f") names) a.rule;
    }

back_faces : (names : List (List ℕ)) (c d : Columns) → ((next : Columns) → Adds next names d → fold with_column (Some next) names ≡ Some d) → (asked : Bool) → c.faces ≡ asked
    → Adds c (codes "f" ∷ names) d → fold with_column (cond asked None (Some (set_faces c))) names ≡ Some d
back_faces names c d later true e a =
    absurd (twice c.faces (times_listed (codes "f") names) (times_listed (codes "f") (codes "f" ∷ names)) d.faces e (times_cons (codes "f") (codes "f") names) a.faces)
back_faces names c d later false e a = later (set_faces c) (record {
  each = All-tail IsColumnName (codes "f") names a.each;
  vertices = other_back (cond c.vertices 1 0) (times_listed (codes "n") names) (times_listed (codes "n") (codes "f" ∷ names)) (cond d.vertices 1 0) (times_cons (codes "n") (codes "f") names) a.vertices;
  edges = other_back (cond c.edges 1 0) (times_listed (codes "m") names) (times_listed (codes "m") (codes "f" ∷ names)) (cond d.edges 1 0) (times_cons (codes "m") (codes "f") names) a.edges;
  faces = own_back c.faces (times_listed (codes "f") names) (times_listed (codes "f") (codes "f" ∷ names)) (cond d.faces 1 0) e (times_cons (codes "f") (codes "f") names) a.faces;
  bends = other_back (cond c.bends 1 0) (times_listed (codes "bends") names) (times_listed (codes "bends") (codes "f" ∷ names)) (cond d.bends 1 0) (times_cons (codes "bends") (codes "f") names) a.bends;
  rule = other_back (cond c.rule 1 0) (times_listed (codes "rule") names) (times_listed (codes "rule") (codes "f" ∷ names)) (cond d.rule 1 0) (times_cons (codes "rule") (codes "f") names) a.rule;
})

-- ---- bends

abbrev set_bends : Columns → Columns
set_bends c = record { vertices = c.vertices; edges = c.edges; faces = c.faces; bends = true; rule = c.rule }

add_bends : (names : List (List ℕ)) (c d : Columns) → ((next : Columns) → fold with_column (Some next) names ≡ Some d → Adds next names d) → (asked : Bool) → c.bends ≡ asked
    → fold with_column (cond asked None (Some (set_bends c))) names ≡ Some d → Adds c (codes "bends" ∷ names) d
add_bends names c d later true e is = absurd (let none : ⊥ = cc (is, fold_none names) in none)
add_bends names c d later false e is =
    let a = later (set_bends c) is in
    record {
      each = All-cons IsColumnName (codes "bends") names (inr (inr (inr (inl refl)))) a.each;
      vertices = other (cond c.vertices 1 0) (times_listed (codes "n") names) (times_listed (codes "n") (codes "bends" ∷ names)) (cond d.vertices 1 0) (times_cons (codes "n") (codes "bends") names) a.vertices;
      edges = other (cond c.edges 1 0) (times_listed (codes "m") names) (times_listed (codes "m") (codes "bends" ∷ names)) (cond d.edges 1 0) (times_cons (codes "m") (codes "bends") names) a.edges;
      faces = other (cond c.faces 1 0) (times_listed (codes "f") names) (times_listed (codes "f") (codes "bends" ∷ names)) (cond d.faces 1 0) (times_cons (codes "f") (codes "bends") names) a.faces;
      bends = own c.bends (times_listed (codes "bends") names) (times_listed (codes "bends") (codes "bends" ∷ names)) (cond d.bends 1 0) e (times_cons (codes "bends") (codes "bends") names) a.bends;
      rule = other (cond c.rule 1 0) (times_listed (codes "rule") names) (times_listed (codes "rule") (codes "bends" ∷ names)) (cond d.rule 1 0) (times_cons (codes "rule") (codes "bends") names) a.rule;
    }

back_bends : (names : List (List ℕ)) (c d : Columns) → ((next : Columns) → Adds next names d → fold with_column (Some next) names ≡ Some d) → (asked : Bool) → c.bends ≡ asked
    → Adds c (codes "bends" ∷ names) d → fold with_column (cond asked None (Some (set_bends c))) names ≡ Some d
back_bends names c d later true e a =
    absurd (twice c.bends (times_listed (codes "bends") names) (times_listed (codes "bends") (codes "bends" ∷ names)) d.bends e (times_cons (codes "bends") (codes "bends") names) a.bends)
back_bends names c d later false e a = later (set_bends c) (record {
  each = All-tail IsColumnName (codes "bends") names a.each;
  vertices = other_back (cond c.vertices 1 0) (times_listed (codes "n") names) (times_listed (codes "n") (codes "bends" ∷ names)) (cond d.vertices 1 0) (times_cons (codes "n") (codes "bends") names) a.vertices;
  edges = other_back (cond c.edges 1 0) (times_listed (codes "m") names) (times_listed (codes "m") (codes "bends" ∷ names)) (cond d.edges 1 0) (times_cons (codes "m") (codes "bends") names) a.edges;
  faces = other_back (cond c.faces 1 0) (times_listed (codes "f") names) (times_listed (codes "f") (codes "bends" ∷ names)) (cond d.faces 1 0) (times_cons (codes "f") (codes "bends") names) a.faces;
  bends = own_back c.bends (times_listed (codes "bends") names) (times_listed (codes "bends") (codes "bends" ∷ names)) (cond d.bends 1 0) e (times_cons (codes "bends") (codes "bends") names) a.bends;
  rule = other_back (cond c.rule 1 0) (times_listed (codes "rule") names) (times_listed (codes "rule") (codes "bends" ∷ names)) (cond d.rule 1 0) (times_cons (codes "rule") (codes "bends") names) a.rule;
})

-- ---- rule

abbrev set_rule : Columns → Columns
set_rule c = record { vertices = c.vertices; edges = c.edges; faces = c.faces; bends = c.bends; rule = true }

add_rule : (names : List (List ℕ)) (c d : Columns) → ((next : Columns) → fold with_column (Some next) names ≡ Some d → Adds next names d) → (asked : Bool) → c.rule ≡ asked
    → fold with_column (cond asked None (Some (set_rule c))) names ≡ Some d → Adds c (codes "rule" ∷ names) d
add_rule names c d later true e is = absurd (let none : ⊥ = cc (is, fold_none names) in none)
add_rule names c d later false e is =
    let a = later (set_rule c) is in
    record {
      each = All-cons IsColumnName (codes "rule") names (inr (inr (inr (inr refl)))) a.each;
      vertices = other (cond c.vertices 1 0) (times_listed (codes "n") names) (times_listed (codes "n") (codes "rule" ∷ names)) (cond d.vertices 1 0) (times_cons (codes "n") (codes "rule") names) a.vertices;
      edges = other (cond c.edges 1 0) (times_listed (codes "m") names) (times_listed (codes "m") (codes "rule" ∷ names)) (cond d.edges 1 0) (times_cons (codes "m") (codes "rule") names) a.edges;
      faces = other (cond c.faces 1 0) (times_listed (codes "f") names) (times_listed (codes "f") (codes "rule" ∷ names)) (cond d.faces 1 0) (times_cons (codes "f") (codes "rule") names) a.faces;
      bends = other (cond c.bends 1 0) (times_listed (codes "bends") names) (times_listed (codes "bends") (codes "rule" ∷ names)) (cond d.bends 1 0) (times_cons (codes "bends") (codes "rule") names) a.bends;
      rule = own c.rule (times_listed (codes "rule") names) (times_listed (codes "rule") (codes "rule" ∷ names)) (cond d.rule 1 0) e (times_cons (codes "rule") (codes "rule") names) a.rule;
    }

back_rule : (names : List (List ℕ)) (c d : Columns) → ((next : Columns) → Adds next names d → fold with_column (Some next) names ≡ Some d) → (asked : Bool) → c.rule ≡ asked
    → Adds c (codes "rule" ∷ names) d → fold with_column (cond asked None (Some (set_rule c))) names ≡ Some d
back_rule names c d later true e a =
    absurd (twice c.rule (times_listed (codes "rule") names) (times_listed (codes "rule") (codes "rule" ∷ names)) d.rule e (times_cons (codes "rule") (codes "rule") names) a.rule)
back_rule names c d later false e a = later (set_rule c) (record {
  each = All-tail IsColumnName (codes "rule") names a.each;
  vertices = other_back (cond c.vertices 1 0) (times_listed (codes "n") names) (times_listed (codes "n") (codes "rule" ∷ names)) (cond d.vertices 1 0) (times_cons (codes "n") (codes "rule") names) a.vertices;
  edges = other_back (cond c.edges 1 0) (times_listed (codes "m") names) (times_listed (codes "m") (codes "rule" ∷ names)) (cond d.edges 1 0) (times_cons (codes "m") (codes "rule") names) a.edges;
  faces = other_back (cond c.faces 1 0) (times_listed (codes "f") names) (times_listed (codes "f") (codes "rule" ∷ names)) (cond d.faces 1 0) (times_cons (codes "f") (codes "rule") names) a.faces;
  bends = other_back (cond c.bends 1 0) (times_listed (codes "bends") names) (times_listed (codes "bends") (codes "rule" ∷ names)) (cond d.bends 1 0) (times_cons (codes "bends") (codes "rule") names) a.bends;
  rule = own_back c.rule (times_listed (codes "rule") names) (times_listed (codes "rule") (codes "rule" ∷ names)) (cond d.rule 1 0) e (times_cons (codes "rule") (codes "rule") names) a.rule;
})

-- ---- any name

no_column : (c : Columns) (name : List ℕ) → bytes_eq name (codes "n") ≡ false → bytes_eq name (codes "m") ≡ false → bytes_eq name (codes "f") ≡ false → bytes_eq name (codes "bends") ≡ false → bytes_eq name (codes "rule") ≡ false → with_name c name ≡ None
no_column c name e1 e2 e3 e4 e5 =
    pick_false _ _ _ e1 ∙ pick_false _ _ _ e2 ∙ pick_false _ _ _ e3 ∙ pick_false _ _ _ e4 ∙ pick_false _ _ _ e5

-- whether a name is one of a column
named : (name : List ℕ) → IsColumnName name ⊎ ((c : Columns) → with_name c name ≡ None)
named name =
    by (bytes_eq name (codes "n")) refl (bytes_eq name (codes "m")) refl (bytes_eq name (codes "f")) refl (bytes_eq name (codes "bends")) refl (bytes_eq name (codes "rule")) refl
  where
    by : (b0 : Bool) → bytes_eq name (codes "n") ≡ b0 → (b1 : Bool) → bytes_eq name (codes "m") ≡ b1 → (b2 : Bool) → bytes_eq name (codes "f") ≡ b2 → (b3 : Bool) → bytes_eq name (codes "bends") ≡ b3 → (b4 : Bool) → bytes_eq name (codes "rule") ≡ b4 → IsColumnName name ⊎ ((c : Columns) → with_name c name ≡ None)
    by true e0 b1 e1 b2 e2 b3 e3 b4 e4 = inl (inl ((bytes_eq-Decides name (codes "n")).0 e0))
    by false e0 true e1 b2 e2 b3 e3 b4 e4 = inl (inr (inl ((bytes_eq-Decides name (codes "m")).0 e1)))
    by false e0 false e1 true e2 b3 e3 b4 e4 = inl (inr (inr (inl ((bytes_eq-Decides name (codes "f")).0 e2))))
    by false e0 false e1 false e2 true e3 b4 e4 = inl (inr (inr (inr (inl ((bytes_eq-Decides name (codes "bends")).0 e3)))))
    by false e0 false e1 false e2 false e3 true e4 = inl (inr (inr (inr (inr ((bytes_eq-Decides name (codes "rule")).0 e4)))))
    by false e0 false e1 false e2 false e3 false e4 = inr (λ c. no_column c name e0 e1 e2 e3 e4)

-- ---- all names

adds : (names : List (List ℕ)) (c d : Columns) → fold with_column (Some c) names ≡ Some d → Adds c names d
adds [] c d is =
    let same : c ≡ d = cc is in
    record {
      each = All-nil IsColumnName;
      vertices = let is : one_if c.vertices ≡ one_if d.vertices = ap (λ (x : Columns). one_if x.vertices) same in omega (arith, is);
      edges = let is : one_if c.edges ≡ one_if d.edges = ap (λ (x : Columns). one_if x.edges) same in omega (arith, is);
      faces = let is : one_if c.faces ≡ one_if d.faces = ap (λ (x : Columns). one_if x.faces) same in omega (arith, is);
      bends = let is : one_if c.bends ≡ one_if d.bends = ap (λ (x : Columns). one_if x.bends) same in omega (arith, is);
      rule = let is : one_if c.rule ≡ one_if d.rule = ap (λ (x : Columns). one_if x.rule) same in omega (arith, is);
    }
adds (name ∷ names) c d is = by (λ next. adds names next d) (named name)
  where
    by : ((next : Columns) → fold with_column (Some next) names ≡ Some d → Adds next names d) → IsColumnName name ⊎ ((next : Columns) → with_name next name ≡ None) → Adds c (name ∷ names) d
    by later (inl (inl e)) =
        subst (λ (x : List ℕ). Adds c (x ∷ names) d) (sym e)
        (add_vertices names c d later c.vertices refl (subst (λ (x : List ℕ). fold with_column (with_name c x) names ≡ Some d) e is))
    by later (inl (inr (inl e))) =
        subst (λ (x : List ℕ). Adds c (x ∷ names) d) (sym e)
        (add_edges names c d later c.edges refl (subst (λ (x : List ℕ). fold with_column (with_name c x) names ≡ Some d) e is))
    by later (inl (inr (inr (inl e)))) =
        subst (λ (x : List ℕ). Adds c (x ∷ names) d) (sym e)
        (add_faces names c d later c.faces refl (subst (λ (x : List ℕ). fold with_column (with_name c x) names ≡ Some d) e is))
    by later (inl (inr (inr (inr (inl e))))) =
        subst (λ (x : List ℕ). Adds c (x ∷ names) d) (sym e)
        (add_bends names c d later c.bends refl (subst (λ (x : List ℕ). fold with_column (with_name c x) names ≡ Some d) e is))
    by later (inl (inr (inr (inr (inr e))))) =
        subst (λ (x : List ℕ). Adds c (x ∷ names) d) (sym e)
        (add_rule names c d later c.rule refl (subst (λ (x : List ℕ). fold with_column (with_name c x) names ≡ Some d) e is))
    by later (inr none) = absurd (let never : ⊥ = cc (ap (λ (o : Option Columns). fold with_column o names) (none c), is, fold_none names) in never)

found : (names : List (List ℕ)) (c d : Columns) → Adds c names d → fold with_column (Some c) names ≡ Some d
found [] c d a =
    let vertices : c.vertices ≡ d.vertices = same_bool c.vertices d.vertices a.vertices in
    let edges : c.edges ≡ d.edges = same_bool c.edges d.edges a.edges in
    let faces : c.faces ≡ d.faces = same_bool c.faces d.faces a.faces in
    let bends : c.bends ≡ d.bends = same_bool c.bends d.bends a.bends in
    let rule : c.rule ≡ d.rule = same_bool c.rule d.rule a.rule in
    λ i. Some (record { vertices = vertices i; edges = edges i; faces = faces i; bends = bends i; rule = rule i })
found (name ∷ names) c d a = by (λ next. found names next d) (All-head IsColumnName name names a.each)
  where
    by : ((next : Columns) → Adds next names d → fold with_column (Some next) names ≡ Some d) → IsColumnName name → fold with_column (Some c) (name ∷ names) ≡ Some d
    by later (inl e) =
        subst (λ (x : List ℕ). fold with_column (with_name c x) names ≡ Some d) (sym e)
        (back_vertices names c d later c.vertices refl (subst (λ (x : List ℕ). Adds c (x ∷ names) d) e a))
    by later (inr (inl e)) =
        subst (λ (x : List ℕ). fold with_column (with_name c x) names ≡ Some d) (sym e)
        (back_edges names c d later c.edges refl (subst (λ (x : List ℕ). Adds c (x ∷ names) d) e a))
    by later (inr (inr (inl e))) =
        subst (λ (x : List ℕ). fold with_column (with_name c x) names ≡ Some d) (sym e)
        (back_faces names c d later c.faces refl (subst (λ (x : List ℕ). Adds c (x ∷ names) d) e a))
    by later (inr (inr (inr (inl e)))) =
        subst (λ (x : List ℕ). fold with_column (with_name c x) names ≡ Some d) (sym e)
        (back_bends names c d later c.bends refl (subst (λ (x : List ℕ). Adds c (x ∷ names) d) e a))
    by later (inr (inr (inr (inr e)))) =
        subst (λ (x : List ℕ). fold with_column (with_name c x) names ≡ Some d) (sym e)
        (back_rule names c d later c.rule refl (subst (λ (x : List ℕ). Adds c (x ∷ names) d) e a))

pub listed_columns : (text : List ℕ) (columns : Columns) → (columns_in text ≡ Some columns) ↔ AreNamesOf columns (listed text)
listed_columns text columns = (
  λ is.
      let a = adds (listed text) no_columns columns is in
      record {
        each = a.each;
        vertices = let e = a.vertices in omega (arith, e);
        edges = let e = a.edges in omega (arith, e);
        faces = let e = a.faces in omega (arith, e);
        bends = let e = a.bends in omega (arith, e);
        rule = let e = a.rule in omega (arith, e);
      },
  λ names. found (listed text) no_columns columns (record {
    each = names.each;
    vertices = let e = names.vertices in omega (arith, e);
    edges = let e = names.edges in omega (arith, e);
    faces = let e = names.faces in omega (arith, e);
    bends = let e = names.bends in omega (arith, e);
    rule = let e = names.rule in omega (arith, e);
  }),
)
