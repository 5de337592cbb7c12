-- What a rectangle and cuts keep of the darts that were there before.
use Rattle.std.proofs.Common.{◌≡◌, ℕ, ◌+◌, ◌<◌, ◌≤◌, ◌∙◌, refl, arith}
use Rattle.dissect.specs.DartMaps.{DartMap, IsCut, IsCutUp, same, further}
use Rattle.dissect.specs.Surrounds.{IsSurrounded, IsEnclosed}

-- a dart that was there keeps its head and its direction
pub record Keeps (w new : DartMap) : Type 0 where
  pub more : w.darts ≤ new.darts
  pub more_vertices : w.vertices ≤ new.vertices
  pub head : (a : ℕ) → a < w.darts → new.head a ≡ w.head a
  pub direction : (a : ℕ) → a < w.darts → new.direction a ≡ w.direction a

pub cut_keeps : (w : DartMap) (d e way : ℕ) (new : DartMap) → IsCut w d e way new → Keeps w new
cut_keeps w d e way new cut = record {
  more = omega (arith, cut.subdivide.darts, cut.chord.darts);
  more_vertices = omega (arith, cut.subdivide.vertices, cut.chord.vertices);
  head = λ a a_in. cut.chord.head_old a (omega (arith, a_in, cut.subdivide.darts)) ∙ cut.subdivide.head_old a a_in;
  direction = λ a a_in. cut.chord.direction_old a (omega (arith, a_in, cut.subdivide.darts)) ∙ cut.subdivide.direction_old a a_in;
}

pub keeps_on : (w mid new : DartMap) → Keeps w mid → Keeps mid new → Keeps w new
keeps_on w mid new one two = record {
  more = omega (arith, one.more, two.more);
  more_vertices = omega (arith, one.more_vertices, two.more_vertices);
  head = λ a a_in. two.head a (omega (arith, a_in, one.more)) ∙ one.head a a_in;
  direction = λ a a_in. two.direction a (omega (arith, a_in, one.more)) ∙ one.direction a a_in;
}

pub cut_up_keeps : (w new : DartMap) → IsCutUp w new → Keeps w new
cut_up_keeps w _ same = record {
  more = omega (arith);
  more_vertices = omega (arith);
  head = λ a a_in. refl;
  direction = λ a a_in. refl;
}
cut_up_keeps w new (further mid _ d e way cut_up cut _) = keeps_on w mid new (cut_up_keeps w mid cut_up) (cut_keeps mid d e way new cut)

pub surround_keeps : (w new : DartMap) → IsSurrounded w new → Keeps w new
surround_keeps w new surround = record {
  more = omega (arith, surround.darts);
  more_vertices = omega (arith, surround.vertices);
  head = surround.head_old;
  direction = surround.direction_old;
}

pub enclosed_keeps : (w : DartMap) (outside : ℕ) (new : DartMap) → IsEnclosed w outside new → Keeps w new
enclosed_keeps w outside new e =
    keeps_on w e.bridged new
    (keeps_on w e.surrounded e.bridged (surround_keeps w e.surrounded e.surround) (cut_keeps e.surrounded e.right (w.darts + e.side) e.direction e.bridged e.bridge))
    (cut_up_keeps e.bridged new e.cut_up)
