use Rattle.drawing_laws.proofs.RegionLaws.{one_map, map_named, face_has_cell, beyond}
use Rattle.drawing_laws.proofs.laws.regions_are_faces.Goals as goal

pub returns : goal.returns
returns c = record {
  one = one_map;
  named = map_named;
  each = λ p points r plane axes map. face_has_cell p points r plane map axes;
  outside = λ p points r n plane below map. beyond p points n below r plane map;
}
