-- One bit for each pair of vertices.
use Rattle.std.proofs.Common.{◌≡◌, ◌↔◌, ℕ, ◌+◌, ◌*◌, ◌/◌, ◌%◌, ◌^◌, ◌<◌, eqb, List, get_or, replicate, ap, arith, bit_and}
use Rattle.std.specs.Bool.{IsTrue}
use Rattle.std.proofs.lemmas.Bool.{eqb-true, eq-eqb}
use Rattle.std.proofs.lemmas.Nat.{bit_set_by_shift}
use Rattle.std.proofs.lemmas.List.{get_or-replicate}
use Rattle.embedding.specs.Pairs.{HasPair}

-- the test of a pair's bit
pub pair_test : (words : List ℕ) (u v i j : ℕ) → i ≡ u → j ≡ v / 64 → (IsTrue (eqb (bit_and (get_or words (4 * i + j) 0 / 2 ^ (v % 64)) 1) 1)) ↔ HasPair words u v
pair_test words u v i j at-u at-v =
    let word : get_or words (4 * i + j) 0 ≡ get_or words (4 * u + v / 64) 0 =
    ap (λ (k : ℕ). get_or words k 0) (omega arith) in
    let is = bit_set_by_shift (get_or words (4 * u + v / 64) 0) (v % 64) in
    rw word (λ t. is.0 (eqb-true _ _ t), λ h. eq-eqb _ _ (is.1 h))

-- no bit is set in words that are 0
pub none_set : (n u v : ℕ) → u < 256 → v < 256 → n ≡ 1024 → HasPair (replicate n 0) u v → ⊥
none_set n u v small-u small-v size has =
    has (ap (λ (w : ℕ). bit_and w (2 ^ (v % 64))) (get_or-replicate n (4 * u + v / 64) 0 0 (omega arith)))
