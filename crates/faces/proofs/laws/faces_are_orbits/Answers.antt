use Rattle.std.proofs.Common.{sym, ap, ◌∙◌}
use Rattle.faces.proofs.Sets.{one_orbit, orbit_stays}
use Rattle.faces.proofs.laws.faces_are_orbits.Goals as goal

pub returns : goal.returns
returns c = λ n f next face h inside d e hd he. (
  one_orbit n next face f h inside d e hd he,
  (λ w. sym (orbit_stays n next face f h inside d hd w.0) ∙ ap face w.1),
)
