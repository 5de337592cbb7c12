-- What a graph's fields say of the lists that contracts see.
use Rattle.std.proofs.Common.{◌≡◌, ℕ, ◌*◌, ◌<◌, ◌≤◌, List, length, get_or, ap, ◌∙◌, subst, inl, inr, arith}
use Rattle.std.proofs.lemmas.List.{get_or_read}
use Rattle.std.proofs.lemmas.Bool.{cases_lt}
use Rattle.common.specs.declared.parameters.TheConstants.{MAX_VERTICES}
use Rattle.embedding.specs.declared.graphs.TheConstants.{MAX_DARTS}
use Rattle.embedding.specs.declared.breaks.Rule.TheVariants.{Degree}
use Rattle.embedding.specs.Lists.{list_of}
use Rattle.embedding.specs.Darts.{dart_count}
use Rattle.embedding.specs.Rules.{KeepsBefore}
use Rattle.embedding.specs.Tables.{AreTables}
use Rattle.embedding.proofs.Rotation.{darts_even, darts_few, darts_some}

-- the fields' facts, of the lists by another name
pub kept_as : (lists g : List (List ℕ)) {ends table : List ℕ} {count : ℕ} → lists ≡ g → AreTables lists ends count table → AreTables g ends count table
kept_as lists g {ends} {table} {count} same kept =
    subst (λ (l : List (List ℕ)). AreTables l ends count table) same kept

-- the numbers of darts, edges and vertices
pub record HasSizes (g : List (List ℕ)) : Type 0 where
  pub vertices : 0 < length g
  pub some : 0 < dart_count g
  pub few : dart_count g ≤ MAX_DARTS
  pub edges : ℕ
  pub even : 2 * edges ≡ dart_count g

pub sizes : (g : List (List ℕ)) → KeepsBefore g 8 → length g ≤ MAX_VERTICES → HasSizes g
sizes g rules order =
    let some = darts_some g rules in
    let few = darts_few g rules in
    let (m, even) = darts_even g rules in
    record {
      vertices = omega arith;
      some = some;
      few = omega arith;
      edges = m;
      even = even;
    }

-- what is read from the rotation
pub tie_read : (table : List ℕ) (i x value : ℕ) → i < length table → get_or table i 0 ≡ value → x ≡ get_or table i x → x ≡ value
tie_read table i x value inside is read = get_or_read table i x inside read 0 ∙ is

-- and from a list of darts' ends
pub end_read : (ends all : List ℕ) → ends ≡ all → (d i x : ℕ) → d < length all → i ≡ d → x ≡ get_or ends i x → x ≡ get_or all d 0
end_read ends all same d i x below at read =
    let inside : i < length ends = omega (arith, ap length same) in
    get_or_read ends i x inside read 0 ∙ ap (λ (k : ℕ). get_or ends k 0) at ∙ ap (λ (l : List ℕ). get_or l d 0) same

-- a vertex has at most four neighbours
pub list_of-short : (g : List (List ℕ)) → KeepsBefore g 8 → (v : ℕ) → length (list_of g v) ≤ 4
list_of-short g rules v =
    elim (cases_lt 4 (length (list_of g v))) [
      | inl long ↦ absurd (rules Degree (omega arith) (v, long))
      | inr short ↦ short
    ]
