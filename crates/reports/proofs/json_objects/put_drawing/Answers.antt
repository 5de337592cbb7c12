use Rattle.json.specs.Print.{escape_byte}
use Rattle.reports.proofs.json_objects.put_drawing.Goals as goal

pub returns-in-Ok : goal.returns-in-Ok
returns-in-Ok c = rw c.in-Ok.is c.put_drawn_points.ensures

pub returns-in-Err : goal.returns-in-Err
unfolding escape_byte
returns-in-Err c = rw c.in-Err.is c.put_bytes.ensures
