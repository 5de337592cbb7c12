use Rattle.drawing_laws.proofs.DrawnRegions.{taken_points_have_regions, least_points_have_regions}
use Rattle.drawing_laws.proofs.laws.boxes_have_regions.Goals as goal

pub returns : goal.returns
returns c = record {
  taken = λ p shape b x y points plane boxed monotone taken. taken_points_have_regions p shape b plane boxed x y monotone points taken;
  least = least_points_have_regions;
}
