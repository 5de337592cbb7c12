-- A map whose directions are all turned by the same number of quarters is one of the same kind.
use Rattle.std.proofs.Common.{ℕ, zero, suc, ◌+◌, ◌%◌, arith, inl, inr}
use Rattle.dissect.specs.DartMaps.{DartMap, IsSound}
use Rattle.dissect.specs.Faces.{StretchesIn, Stretches, HasFourCorners}
use Rattle.dissect.specs.Boxes.{HasBoxFaces}

abbrev pub rotated : DartMap → ℕ → DartMap
rotated w r = record {
  darts = w.darts;
  vertices = w.vertices;
  next = w.next;
  prev = w.prev;
  reverse_dart = w.reverse_dart;
  head = w.head;
  direction = λ a. (w.direction a + r) % 4;
  angle = w.angle;
  before = w.before;
}

pub rotated_sound : (w : DartMap) (r : ℕ) → IsSound w → IsSound (rotated w r)
rotated_sound w r sound = record {
  tied = record {
    next_in = sound.tied.next_in;
    prev_in = sound.tied.prev_in;
    next_back = sound.tied.next_back;
    prev_back = sound.tied.prev_back;
    reverse_dart_in = sound.tied.reverse_dart_in;
    reverse_dart_back = sound.tied.reverse_dart_back;
    reverse_dart_apart = sound.tied.reverse_dart_apart;
  };
  meeting = record {
    head_in = sound.meeting.head_in;
    meets = sound.meeting.meets;
    quarter = λ a l. omega arith;
    turns = λ a l. omega (arith, sound.meeting.turns a l);
    some = sound.meeting.some;
    most = sound.meeting.most;
    whole = sound.meeting.whole;
  };
  straight = λ a l. omega (arith, sound.straight a l);
}

stretch : (w : DartMap) (r k a c : ℕ) → StretchesIn w k a c → StretchesIn (rotated w r) k a c
stretch w r zero a c is = is
stretch w r (suc k) a c is = (is.0, stretch w r k (w.next a) c is.1)

pub stretches : (w : DartMap) (r a c : ℕ) → Stretches w a c → Stretches (rotated w r) a c
stretches w r a c is = record { places = is.places; stretch = stretch w r is.places a c is.stretch }

abbrev pub rectangle : (w : DartMap) (r g a : ℕ) → HasFourCorners w g a → HasFourCorners (rotated w r) g a
rectangle w r g a is = record {
  second = is.second;
  third = is.third;
  fourth = is.fourth;
  to_second = stretches w r a is.second is.to_second;
  to_third = stretches w r is.second is.third is.to_third;
  to_fourth = stretches w r is.third is.fourth is.to_fourth;
  back = stretches w r is.fourth a is.back;
  angle_first = is.angle_first;
  angle_second = is.angle_second;
  angle_third = is.angle_third;
  angle_fourth = is.angle_fourth;
}

abbrev pub rotated_cut : (w : DartMap) (r : ℕ) → HasBoxFaces w → HasBoxFaces (rotated w r)
rotated_cut w r cut = record {
  reaches = λ a l. let (c, is) = cut.reaches a l in (c, stretches w r a c is);
  outside = cut.outside;
  outside_in = cut.outside_in;
  around = rectangle w r 3 cut.outside cut.around;
  corners = λ a l corner. elim (cut.corners a l corner) [
    | inl box ↦ inl (rectangle w r 1 a box)
    | inr out ↦ inr (record { four = rectangle w r 3 a out.four; holds = out.holds })
  ];
}
