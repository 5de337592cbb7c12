use Rattle.std.proofs.Common.{Bool, true, false}
use Rattle.std.specs.Bool.{OnTrue, OnFalse}
use Rattle.geometry.proofs.Flagging.{met_part, flags_part}
use Rattle.geometry.proofs.masks.flag.Goals as goal

from_false : {A B : Type 0} (free : Bool) → (A → B) → OnFalse free A → OnFalse free B
from_false true f h = tt
from_false false f h = f h

from_true : {A B C : Type 0} (free : Bool) → (A → B → C) → OnTrue free A → OnTrue free B → OnTrue free C
from_true true f g h = f g h
from_true false f g h = tt

pub returns-clause-met : goal.returns-clause-met
returns-clause-met c =
    from_false c.add_mask.result
    (met_part c.args.table.now c.args.new c.requires.filled c.requires.low c.mask_of-mask.result c.mask_of-mask.ensures)
    c.add_mask.ensures.met

pub returns-clause-flags : goal.returns-clause-flags
returns-clause-flags c =
    from_true c.add_mask.result
    (λ free each. flags_part c.args.table.now c.args.new c.requires.filled c.requires.low c.mask_of-mask.result c.add_mask.new.rows c.mask_of-mask.ensures free c.add_mask.ensures.count each)
    c.add_mask.ensures.free c.add_mask.ensures.each
