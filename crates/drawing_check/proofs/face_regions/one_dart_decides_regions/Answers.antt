use Rattle.drawing_check.proofs.ByOneDart.{regions_by_westmost, regions_of_level}
use Rattle.drawing_check.proofs.face_regions.one_dart_decides_regions.Goals as goal

pub returns : goal.returns
returns c = record {
  westmost = λ p shape points plane is whole draws d x y passed west. regions_by_westmost p shape points plane is whole draws d x y passed west;
  level = λ p shape points plane is whole draws d d_in level. regions_of_level p shape points plane is whole draws d d_in level;
}
