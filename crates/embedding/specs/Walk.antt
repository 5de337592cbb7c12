-- How far the numbering of the faces has come, and what it is made from.
use Rattle.std.specs.Prelude.{◌≡◌, ℕ, ◌+◌, ◌*◌, ◌<◌, ◌≤◌, ◌⊎◌, Bool, true, List, length, slice_index, take}
use Rattle.embedding.specs.declared.genus.TheConstants.{UNSET}
use Rattle.embedding.specs.Darts.{IsOneToOne}
use Rattle.embedding.specs.Faces.{HasFaces, IsClosedUnder, degree_in}

-- the darts below d and all of their faces are numbered, with the numbers below c; `UNSET` stands for no number
pub record IsTraced (n : ℕ) (next face : ℕ → ℕ) (c d : ℕ) : Type 0 where
  pub few : c ≤ d
  pub passed : (x : ℕ) → x < d → face x < c
  pub flagged : (x : ℕ) → x < n → (face x < c) ⊎ (face x ≡ UNSET)
  pub used : (k : ℕ) → k < c → (e : ℕ) × (e < d) × (face e ≡ k)
  pub closed : (x : ℕ) → x < n → face x < c → face (next x) ≡ face x
  pub behind : (x : ℕ) → x < n → face x < c → (y : ℕ) × (y < n) × (face y ≡ face x) × (next y ≡ x)
  pub least : (s : ℕ → Bool) → IsClosedUnder n next s → (x y : ℕ) → x < n → y < n → face x ≡ face y → face x < c → s x ≡ true → s y ≡ true
  pub ordered : (x k : ℕ) → x < n → face x < c → k < face x → (e : ℕ) × (e < x) × (face e ≡ k)

-- the numbers that a list holds for the darts of a graph
abbrev pub at : List ℕ → ℕ → ℕ
at xs d = slice_index xs d

-- the next dart of a dart's face: in the rotation, the one after the dart's reverse
abbrev pub next_in : List ℕ → ℕ → ℕ
next_in rotation d = slice_index rotation (2 * slice_index rotation (2 * d) + 1)

-- the rotation leads from each of n darts to one of them, and from no two to one
pub record AreRotations (n : ℕ) (rotation : List ℕ) : Type 0 where
  pub size : length rotation ≡ 2 * n
  pub back : (d : ℕ) → d < n → slice_index rotation (2 * d) < n
  pub walked : IsOneToOne n (next_in rotation)

-- the table has the rotation, after it the faces of n darts, and after these the degrees of `count` faces
pub record HasFaceTable (n : ℕ) (rotation : List ℕ) (count : ℕ) (table : List ℕ) : Type 0 where
  pub size : length table ≡ 3 * n + count
  pub rotation_is : (i : ℕ) → i < 2 * n → slice_index table i ≡ slice_index rotation i
  pub faces_are : HasFaces n (next_in rotation) (λ d. slice_index table (2 * n + d)) count
  pub degrees_are : (k : ℕ) → k < count → slice_index table (3 * n + k) ≡ degree_in n (λ d. slice_index table (2 * n + d)) k
