-- Strings of quarter turns, met in walking along a dart.
use Rattle.std.specs.Prelude.{ℕ, Bool, true, false, not, List, map, reverse, count_by}
use Rattle.ortho_rep.specs.declared.turn_strings.Turn.{Turn}
use Rattle.ortho_rep.specs.declared.turn_strings.Turn.TheVariants.{Left, Right}

-- a turn, met in walking the other way
abbrev pub opposite : Turn → Turn
opposite Left = Right
opposite Right = Left

-- a dart's string, met in walking along its reverse: read backwards, with left and right exchanged
abbrev pub mirrored : List Turn → List Turn
mirrored turns = map opposite (reverse turns)

abbrev pub is_left : Turn → Bool
is_left Left = true
is_left Right = false

-- how many left turns a string has
abbrev pub lefts : List Turn → ℕ
lefts turns = count_by is_left turns

-- how many right turns a string has
abbrev pub rights : List Turn → ℕ
rights turns = count_by (λ turn. not (is_left turn)) turns
