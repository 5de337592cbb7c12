-- How large a record and a plane are at most.
use Rattle.std.proofs.Common.{◌≡◌, ℕ, ◌≤◌, List, length, arith, ap}
use Rattle.std.specs.Prelude.{All}
use Rattle.planar_code.specs.Stream.{IsRecord, lists_of}
use Rattle.planar_code.proofs.Lists.{lists_of-record, each-record, ended_short}
use Rattle.embedding.proofs.Rotation.{darts_few}
use Rattle.faces.specs.Planes.{PlaneModel, IsPlane, darts, vertices}
use Rattle.faces.proofs.Ends.{plane_ends, seven_rules}

pub some_lists : (bytes : List ℕ) → IsRecord bytes → 1 ≤ length (lists_of bytes)
some_lists bytes r = omega (arith, r.some, ap (λ (g : List (List ℕ)). length g) (lists_of-record bytes r))

pub few_lists : (bytes : List ℕ) → IsRecord bytes → length (lists_of bytes) ≤ 255
few_lists bytes r = omega (arith, r.few, ap (λ (g : List (List ℕ)). length g) (lists_of-record bytes r))

pub short_lists : (bytes : List ℕ) → IsRecord bytes → All (λ entries. length entries ≤ 254) (lists_of bytes)
short_lists bytes r k other inside = (each-record bytes r k other inside).short

pub few_bytes : (bytes : List ℕ) → IsRecord bytes → length bytes ≤ 65026
few_bytes bytes r =
    omega (arith, ap (λ (xs : List ℕ). length xs) r.spelt, ended_short r.lists r.each, r.few)

-- ---- planes

pub few_darts : (p : PlaneModel) → IsPlane p → darts p ≤ 4800
few_darts p plane = (plane_ends p plane).few_darts

pub few_faces : (p : PlaneModel) → IsPlane p → p.faces ≤ 1202
few_faces p plane = (plane_ends p plane).few_faces

pub few_vertices : (bytes : List ℕ) (p : PlaneModel) → IsRecord bytes → p.lists ≡ lists_of bytes → vertices p ≤ 255
few_vertices bytes p r same = omega (arith, few_lists bytes r, ap (λ (g : List (List ℕ)). length g) same)

pub few_darts_of_record : (bytes : List ℕ) (p : PlaneModel) → IsRecord bytes → p.lists ≡ lists_of bytes → IsPlane p → darts p ≤ 1020
few_darts_of_record bytes p r same plane =
    omega (arith, few_vertices bytes p r same, darts_few p.lists (seven_rules p.lists plane.rules))

pub few_faces_of_record : (bytes : List ℕ) (p : PlaneModel) → IsRecord bytes → p.lists ≡ lists_of bytes → IsPlane p → p.faces ≤ 257
few_faces_of_record bytes p r same plane =
    omega (arith, few_vertices bytes p r same, darts_few p.lists (seven_rules p.lists plane.rules), plane.euler)
