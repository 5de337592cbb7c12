use Rattle.drawing_laws.proofs.Drawn.{draws}
use Rattle.drawing_laws.proofs.laws.monotone_coordinates_draw.Goals as goal

pub returns : goal.returns
returns c p shape b x y points plane boxed monotone x_within y_within taken =
    draws p shape b plane boxed x y monotone points taken x_within y_within
