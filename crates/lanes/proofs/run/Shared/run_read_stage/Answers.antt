use Rattle.std.proofs.Common.{◌∙◌, refl, ap}
use Rattle.lanes.specs.declared.message.Message.TheVariants.{Stop}
use Rattle.lanes.specs.Notes.{notes}
use Rattle.lanes.proofs.Passing.{notes-after}
use Rattle.lanes.proofs.Telling.{told_none, told_more, told_all}
use Rattle.lanes.proofs.run.Shared.run_read_stage.Goals as goal

pub loop-init : goal.loop-init
loop-init g c = record {
  room = c.requires.0.room_for;
  seat = c.requires.0.seat_of;
  to_same = refl;
  none = c.new.ensures;
  told = told_none _ _ _ _ c.requires.0.unused.0 (ap (notes g.L.Framed.Numbered.about) c.requires.0.none_given);
}

pub returns-in_default : goal.returns-in_default
returns-in_default g c =
    let about = g.L.Framed.Numbered.about in
    let all = told_all c.args.self.now.run.now.choice (g.O.Opener.meaning c.args.self.now.run.now.opener.now) _ _ _ _ c.loop.invariant.told c.in_default.ensures.none.0
    (notes-after about _ _ Stop c.in_ok-give.ensures.ok) in
    record {
      to_same = c.give.ensures.link ∙ c.loop.invariant.to_same;
      tells = record {
        seat_of = c.draw.ensures.seat;
        ended = c.in_default.ensures.none.1;
        tells = record { stopped = all.0; told = all.1 };
      };
    }

pub loop-preserved : goal.loop-preserved
loop-preserved g c = record {
  room = c.loop.invariant.room;
  seat = c.draw.ensures.seat;
  to_same = c.read_drawn.ensures.same ∙ c.loop.invariant.to_same;
  none = c.in_ok-read_drawn.ensures.none;
  told = told_more c.args.self.now.run.now.choice (g.O.Opener.meaning c.args.self.now.run.now.opener.now) c.in-Some-draw.file _ _ _ _ c.loop.invariant.told
      c.in-Some-draw.ensures.some c.in_ok-read_drawn.ensures.told;
}
