-- A table that is made longer by copies of one number, and what stands in it.
use Rattle.std.proofs.Common.{◌≡◌, ℕ, ◌+◌, ◌*◌, ◌<◌, ◌≤◌, List, ◌++◌, length, get_or, take, drop, replicate, sym, ap, ◌∙◌, subst, arith}
use Rattle.std.proofs.lemmas.List.{take_all, take_at, get_or-replicate, get_or-drop, get_or_append_left, length-append, length-replicate}
use Rattle.embedding.specs.declared.genus.TheConstants.{UNSET}
use Rattle.embedding.specs.Faces.{HasFaces}
use Rattle.embedding.specs.Walk.{AreRotations, at}
use Rattle.embedding.proofs.Faced.{behind_is}

pub filled : (old table : List ℕ) (m k x : ℕ) → length old ≤ m → table ≡ take m old ++ replicate k x → table ≡ old ++ replicate k x
filled old table m k x short is = is ∙ ap (λ (l : List ℕ). l ++ replicate k x) (take_all m old short)

-- the copies
pub copied : (front table : List ℕ) (n k x i : ℕ) → length front ≡ n → table ≡ front ++ replicate k x → n + i < length table → get_or table (n + i) 0 ≡ x
copied front table n k x i size is inside =
    behind_is front (replicate k x) table n i size is
    ∙ get_or-replicate k i x 0 (omega (arith, ap length is, length-append front (replicate k x), length-replicate k x))

-- what was there before
pub front_is : (front table : List ℕ) (n k x : ℕ) → length front ≡ n → table ≡ front ++ replicate k x → take n table ≡ front
front_is front table n k x size is = ap (take n) is ∙ take_at front (replicate k x) n size

pub rotation_first : (rotation table : List ℕ) (n k x : ℕ) → AreRotations n rotation → table ≡ rotation ++ replicate k x → AreRotations n (take (2 * n) table)
rotation_first rotation table n k x tied is =
    subst (AreRotations n) (sym (front_is rotation table (2 * n) k x tied.size is)) tied

-- the faces of all darts are below their number
pub named_before : (numbered table : List ℕ) (next : ℕ → ℕ) (n k x count d : ℕ) → length numbered ≡ 3 * n → table ≡ numbered ++ replicate k x → HasFaces n next (at (drop (2 * n) numbered)) count → d < n → get_or table (2 * n + d) 0 < count
named_before numbered table next n k x count d size is faces below =
    let here : get_or table (2 * n + d) 0 ≡ get_or (drop (2 * n) numbered) d 0 =
    ap (λ (t : List ℕ). get_or t (2 * n + d) 0) is
    ∙ get_or_append_left numbered (replicate k x) 0 (2 * n + d) (omega (arith, size, below))
    ∙ sym (get_or-drop (2 * n) numbered d 0) in
    omega (arith, here, faces.named d below)
