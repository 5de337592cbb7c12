-- What the rows of a small graph tell of the rules.
use Rattle.std.proofs.Common.{◌≡◌, ℕ, ◌+◌, ◌<◌, ◌≤◌, Bool, true, List, [], length, get_or, sym, ap, ◌∙◌, subst, arith}
use Rattle.std.specs.List.{Any, All, Contains}
use Rattle.std.proofs.lemmas.Bool.{true≢false}
use Rattle.embedding.specs.Lists.{list_of}
use Rattle.embedding.specs.declared.breaks.Rule.TheVariants.{Range, Loop, Multi, Asymmetric, Edgeless, Degree, Disconnected, Genus}
use Rattle.embedding.specs.Rules.{KeepsBefore, NamesTwice}
use Rattle.embedding.specs.Rows.{HasBit, IsRow, IsRows, IsClosedUnderRows}
use Rattle.embedding.proofs.EachList.{none_below}

-- the lists are rows, each vertex stands in the lists of its neighbours, and the rows reach all vertices
pub record IsSmall (g : List (List ℕ)) (rows : List ℕ) : Type 0 where
  pub some : 0 < length g
  pub words : IsRows g rows
  pub each : (k : ℕ) → k < length g → IsRow (length g) (k + 1) (get_or g k [])
  pub answered : (k : ℕ) → k < length g → All (λ v. HasBit (get_or rows v 0) (k + 1)) (get_or g k [])
  pub reached : (s : ℕ → Bool) → s 1 ≡ true → IsClosedUnderRows rows s → (v : ℕ) → 0 < v → v ≤ length g → s v ≡ true

pub small_keeps : (g : List (List ℕ)) (rows : List ℕ) → IsSmall g rows → KeepsBefore g 8
small_keeps g rows m Range _ broken =
    none_below g (λ _ l. Any (λ v. length g < v) l) (length g) (omega arith) (λ u any. absurd (omega (arith, any.2)))
    (λ k below any. absurd (omega (arith, any.4, subst (λ (v : ℕ). v ≤ length g) any.3 ((m.each k below).range any.0 any.1 any.2)))) broken
small_keeps g rows m Loop _ broken =
    none_below g (λ u l. Contains l u) (length g) (omega arith) (λ u there. absurd (omega (arith, there.1))) (λ k below there. (m.each k below).loop there) broken
small_keeps g rows m Multi _ broken =
    none_below g (λ _ l. NamesTwice l) (length g) (omega arith) (λ u twice. absurd (omega (arith, twice.3))) (λ k below twice. (m.each k below).multi twice) broken
small_keeps g rows m Asymmetric _ broken =
    none_below g (λ u l. Any (λ v. Contains (list_of g v) u → ⊥) l) (length g) (omega arith) (λ u any. absurd (omega (arith, any.2)))
    (λ k below any. any.4 (m.words any.1 (k + 1) (subst (λ (v : ℕ). HasBit (get_or rows v 0) (k + 1)) any.3 (m.answered k below any.0 any.1 any.2)))) broken
small_keeps g rows m Edgeless _ broken =
    absurd (omega (arith, (m.each 0 m.some).some, ap length (broken 1)))
small_keeps g rows m Degree _ broken =
    none_below g (λ _ l. 4 < length l) (length g) (omega arith) (λ u long. absurd (omega (arith, long))) (λ k below long. absurd (omega (arith, long, (m.each k below).short))) broken
small_keeps g rows m Disconnected _ (s, one, closed, (u, from, to, missing)) =
    true≢false (sym (m.reached s one kept u from to) ∙ missing)
  where
    kept : IsClosedUnderRows rows s
    kept u v has here =
        let there = m.words u v has in
        subst (λ (x : ℕ). s x ≡ true) there.2 (closed u here there.0 v there.1)
small_keeps g rows m Genus below _ = absurd (omega arith)
