-- Lists that C lends, and what a call leaves in them.
use Rattle.std.specs.Prelude.{◌≡◌, ℕ, ◌<◌, ◌≤◌, ℤ, List, length, take, drop}
use Rattle.planarbend_c.specs.declared.lists.DartTurns.{DartTurns}
use Rattle.planarbend_c.specs.declared.lists.GridPoint.{GridPoint}
use Rattle.planarbend_c.specs.declared.lists.Lists.{Lists}

-- what stands in the lists
pub record ListsModel : Type 0 where
  pub angles : List ℕ
  pub turns : List DartTurns
  pub vertex_prices : List ℤ
  pub face_prices : List ℤ
  pub points : List GridPoint
  pub corner_starts : List ℕ
  pub corners : List GridPoint

abbrev pub contents : Lists → ListsModel
contents lists = record {
  angles = lists.angles.now;
  turns = lists.turns.now;
  vertex_prices = lists.vertex_prices.now;
  face_prices = lists.face_prices.now;
  points = lists.points.now;
  corner_starts = lists.corner_starts.now;
  corners = lists.corners.now;
}

-- a list has room for `count` items, or is left out
abbrev pub HasRoom : {A : Type 0} → List A → ℕ → Type 0
HasRoom list count = 0 < length list → count ≤ length list

-- these items stand first in a list, unless it is left out
abbrev pub Holds : {A : Type 0} → List A → List A → Type 0
Holds list items = 0 < length list → take (length items) list ≡ items

-- a list is as long as before, and the items after the first `count` are the same
pub record IsSameAfter {A : Type 0} (count : ℕ) (before after : List A) : Type 0 where
  pub long : length after ≡ length before
  pub rest : drop count after ≡ drop count before
