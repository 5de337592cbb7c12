-- What the angles at a vertex lack of four right angles each, summed over the darts in their order.
use Rattle.std.proofs.Common.{◌≡◌, ◌≤◌, ◌<◌, ℕ, suc, ◌+◌, ◌-◌, ◌*◌, ◌%◌, ◌⊎◌, cond, eqb, [], length, get_or, refl, sym, ap, ◌∙◌, subst, inl, inr, arith}
use Rattle.std.proofs.lemmas.Bool.{eq-eqb, ne_eqb, cond-true, cond-false}
use Rattle.common.specs.Sums.{sum_below}
use Rattle.common.proofs.Sums.{sum_below-same, sum_below-add, sum_below-more, sum_below-split, sum_below-turned, sum_below-constant}
use Rattle.embedding.specs.Darts.{first_dart}
use Rattle.embedding.proofs.Entries.{Stands, stands_at, dart_stands, stands_below}
use Rattle.embedding.proofs.Rotation.{tail_at, after_place}
use Rattle.faces.specs.Planes.{PlaneModel, HasEnds, darts, vertices, head, tail, reverse_dart, after, next}
use Rattle.ortho_rep.specs.Representation.{angles_around}
use Rattle.dissect.proofs.Reordered.{stretch}

-- the angle between dart x and the next one clockwise from the same vertex is that of its reverse; so much it
-- lacks of four right angles
abbrev pub lack : PlaneModel → (ℕ → ℕ) → ℕ → ℕ
lack p a x = 4 - a (reverse_dart p x)

-- what the angles of all darts before x lack
abbrev pub lacks : PlaneModel → (ℕ → ℕ) → ℕ → ℕ
lacks p a x = sum_below x (lack p a)

-- the darts of the list at place k are a stretch
abbrev len : PlaneModel → ℕ → ℕ
len p k = length (get_or p.lists k [])

stretch_within : (p : PlaneModel) (k i : ℕ) → k < vertices p → i < len p k → first_dart p.lists k + len p k ≤ darts p
stretch_within p k i list place = omega (arith, stands_below p.lists k (len p k - 1) list (omega arith))

-- the angles at the vertex sum to four right angles along the stretch
angles_along : (p : PlaneModel) (a : ℕ → ℕ) → HasEnds p → ((v : ℕ) → 1 ≤ v → v ≤ vertices p → angles_around p a v ≡ 4)
    → (k i : ℕ) → k < vertices p → i < len p k → sum_below (len p k) (λ m. a (reverse_dart p (first_dart p.lists k + m))) ≡ 4
angles_along p a ends around k i list place =
    let n : ℕ = darts p in
    let first : ℕ = first_dart p.lists k in
    let arriving : ℕ → ℕ = λ d. cond (eqb (head p d) (suc k)) (a d) 0 in
    let leaving : ℕ → ℕ = λ d. cond (eqb (tail p d) (suc k)) (a (reverse_dart p d)) 0 in
    let four : sum_below n arriving ≡ 4 = around (suc k) (omega arith) (omega arith) in
    let turned : sum_below n (λ d. arriving (reverse_dart p d)) ≡ sum_below n arriving = sum_below-turned n (reverse_dart p) arriving ends.reverse_dart_in_range ends.reverse_dart_back in
    let named : sum_below n (λ d. arriving (reverse_dart p d)) ≡ sum_below n leaving =
    sum_below-same n (λ d. arriving (reverse_dart p d)) leaving (λ d l. ap (λ (v : ℕ). cond (eqb v (suc k)) (a (reverse_dart p d)) 0) (ends.reverse_dart_head d l)) in
    let cut : sum_below n leaving ≡ sum_below (len p k) (λ m. leaving (first + m)) =
    stretch n first (len p k) leaving (stretch_within p k i list place) (λ d l away. none d l away) in
    let inner : sum_below (len p k) (λ m. leaving (first + m)) ≡ sum_below (len p k) (λ m. a (reverse_dart p (first + m))) =
    sum_below-same (len p k) (λ m. leaving (first + m)) (λ m. a (reverse_dart p (first + m)))
    (λ m l. cond-true {A = ℕ} (eqb (tail p (first + m)) (suc k)) (a (reverse_dart p (first + m))) 0
    (eq-eqb (tail p (first + m)) (suc k) (tail_at p.lists (first + m) k m (stands_at 1 p.lists (first + m) k m list l refl)))) in
    sym inner ∙ sym cut ∙ sym named ∙ turned ∙ four
  where
    none : (d : ℕ) → d < darts p → (d < first_dart p.lists k) ⊎ (first_dart p.lists k + len p k ≤ d) → cond (eqb (tail p d) (suc k)) (a (reverse_dart p d)) 0 ≡ 0
    none d l away =
        cond-false {A = ℕ} (eqb (tail p d) (suc k)) (a (reverse_dart p d)) 0 (ne_eqb (tail p d) (suc k) (λ e.
        let (j, m, s) = dart_stands 1 p.lists d l in
        let same : j ≡ k = omega (arith, tail_at p.lists d j m s, e) in
        let t : Stands 1 p.lists d k m = subst (λ (x : ℕ). Stands 1 p.lists d x m) same s in
        elim away [ inl before ↦ omega (arith, t.number, before) | inr behind ↦ omega (arith, t.number, t.place, behind) ]))

-- what the angles of a list's darts lack is a multiple of four
lacks_along : (p : PlaneModel) (a : ℕ → ℕ) → HasEnds p → ((d : ℕ) → d < darts p → (1 ≤ a d) × (a d ≤ 4)) → ((v : ℕ) → 1 ≤ v → v ≤ vertices p → angles_around p a v ≡ 4)
    → (k i : ℕ) → k < vertices p → i < len p k → sum_below (len p k) (λ m. lack p a (first_dart p.lists k + m)) % 4 ≡ 0
lacks_along p a ends angles around k i list place =
    let first : ℕ = first_dart p.lists k in
    let short : ℕ → ℕ = λ m. lack p a (first + m) in
    let full : ℕ → ℕ = λ m. a (reverse_dart p (first + m)) in
    let fits = stretch_within p k i list place in
    let both : sum_below (len p k) (λ m. short m + full m) ≡ sum_below (len p k) (λ _. 4) =
    sum_below-same (len p k) (λ m. short m + full m) (λ _. 4)
    (λ m l. whole (a (reverse_dart p (first + m))) (angles (reverse_dart p (first + m)) (ends.reverse_dart_in_range (first + m) (omega arith))).1) in
    close (sum_below (len p k) (λ m. short m + full m)) (sum_below (len p k) (λ _. 4)) (sum_below (len p k) short) (sum_below (len p k) full) (len p k)
    both (sum_below-constant (len p k) 4) (sum_below-add (len p k) short full) (angles_along p a ends around k i list place)
  where
    whole : (x : ℕ) → x ≤ 4 → 4 - x + x ≡ 4
    whole x l = omega arith

    close : (t u x y m : ℕ) → t ≡ u → u ≡ m * 4 → t ≡ x + y → y ≡ 4 → x % 4 ≡ 0
    close t u x y m e1 e2 e3 e4 = omega arith

-- from a dart to the next one clockwise the sum grows by what the angle between them lacks, up to multiples of four
pub lacks_after : (p : PlaneModel) (a : ℕ → ℕ) → HasEnds p → ((d : ℕ) → d < darts p → (1 ≤ a d) × (a d ≤ 4)) → ((v : ℕ) → 1 ≤ v → v ≤ vertices p → angles_around p a v ≡ 4)
    → (x : ℕ) → x < darts p → lacks p a (after p x) % 4 ≡ (lacks p a x + lack p a x) % 4
lacks_after p a ends angles around x l =
    let (k, i, s) = dart_stands 1 p.lists x l in
    let (j, t, place) = after_place p.lists x k i s in
    elim place [
      | inl more ↦
          let later : after p x ≡ x + 1 = omega (arith, t.number, s.number, more.1) in
          ap (λ (y : ℕ). lacks p a y % 4) later ∙ ap (λ (y : ℕ). y % 4) (sum_below-more x (lack p a))
      | inr last ↦
          let first : ℕ = first_dart p.lists k in
          let begins : after p x ≡ first = omega (arith, t.number, last.1) in
          let ends_at : x + 1 ≡ first + len p k = omega (arith, s.number, last.0) in
          let cut : lacks p a (x + 1) ≡ lacks p a first + sum_below (len p k) (λ m. lack p a (first + m)) =
          ap (lacks p a) ends_at ∙ sum_below-split first (len p k) (lack p a) in
          let fours = lacks_along p a ends angles around k i s.list s.place in
          ap (λ (y : ℕ). lacks p a y % 4) begins
          ∙ close (lacks p a first) (sum_below (len p k) (λ m. lack p a (first + m))) (lacks p a (x + 1)) (lacks p a x + lack p a x) fours cut (sum_below-more x (lack p a))
    ]
  where
    close : (f r y z : ℕ) → r % 4 ≡ 0 → y ≡ f + r → y ≡ z → f % 4 ≡ z % 4
    close f r y z e1 e2 e3 = omega arith

-- from the reverse of a dart to the next dart of its face it grows by what the dart's angle lacks
pub lacks_next : (p : PlaneModel) (a : ℕ → ℕ) → HasEnds p → ((d : ℕ) → d < darts p → (1 ≤ a d) × (a d ≤ 4)) → ((v : ℕ) → 1 ≤ v → v ≤ vertices p → angles_around p a v ≡ 4)
    → (d : ℕ) → d < darts p → (lacks p a (next p d) + a d) % 4 ≡ lacks p a (reverse_dart p d) % 4
lacks_next p a ends angles around d l =
    close (lacks p a (next p d)) (lacks p a (reverse_dart p d)) (lack p a (reverse_dart p d)) (a (reverse_dart p (reverse_dart p d))) (a d)
    (lacks_after p a ends angles around (reverse_dart p d) (ends.reverse_dart_in_range d l)) refl (ap a (ends.reverse_dart_back d l)) (angles d l).1
  where
    close : (x y w b c : ℕ) → x % 4 ≡ (y + w) % 4 → w ≡ 4 - b → b ≡ c → c ≤ 4 → (x + c) % 4 ≡ y % 4
    close x y w b c e1 e2 e3 h = omega arith
